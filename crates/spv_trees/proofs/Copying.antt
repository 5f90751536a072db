-- Copies one after another are as good as OpPhi all at once, where none takes what one before it gives.
use Rattle.std.proofs.Common.{◌≡◌, ℕ, Bool, true, false, ◌==◌, ◌||◌, cond, nat_eq, List, [], ◌∷◌, Option, Some, None, refl, ap, ◌∙◌}
use Rattle.std.specs.List.{list_any}
use Rattle.std.specs.Map.{lookup}
use Rattle.interleaving.specs.Machine.{Answer}
use Rattle.spv_meaning.specs.Statements as says
use Rattle.spv_meaning.specs.Statements.{Statement, said}
use Rattle.spv_meaning.specs.Constants as constants
use Rattle.spv_machine.specs.Setting.{Setting}
use Rattle.spv_machine.specs.State.{Value, Data, top, bind, bind_all, global, value_or, value, values, some_cons}
use Rattle.spv_machine.specs.Operations.{Does, outcome, with_some}
use Rattle.spv_machine.specs.Steps.{from_block, phi_results, phi_sources, paired}
use Rattle.spv_bodies.specs.Bodies.{Body}
use Rattle.spv_trees.specs.Meaning.{Result, Onward, Entry, given, behind, all_do, meaning}
use Rattle.spv_trees.specs.Standing.{Apart, copies, copy_line}

-- an id that gets a value leaves the others
value_kept : (c : Setting) (d : Data) (r : ℕ) (v : Value) (id : ℕ) → (id == r) ≡ false → value c (bind r v d) id ≡ value c d id
value_kept c d r v id e =
    ap (λ b. value_or (cond b (Some v) (lookup (nat_eq id) (top d.frames).values)) (global c d.group id (constants.meaning c.table id))) e

or_parts : (a b : Bool) → (a || b) ≡ false → (a ≡ false) × (b ≡ false)
or_parts true b e = absurd (cc e)
or_parts false b e = (refl, e)

values_kept : (c : Setting) (d : Data) (r : ℕ) (v : Value) (ids : List ℕ) → list_any (λ id. id == r) ids ≡ false → values c (bind r v d) ids ≡ values c d ids
values_kept c d r v [] e = refl
values_kept c d r v (id ∷ ids) e =
    let parts = or_parts (id == r) (list_any (λ x. x == r) ids) e in
    ap (λ x. some_cons x (values c (bind r v d) ids)) (value_kept c d r v id parts.0) ∙ ap (some_cons (value c d id)) (values_kept c d r v ids parts.1)

-- a list that is there has a first element and others
pub record Parts {X : Type 0} (x : Option X) (xs : Option (List X)) (ys : List X) : Type 0 where
  pub first : X
  pub others : List X
  pub one : x ≡ Some first
  pub all : xs ≡ Some others
  pub whole : ys ≡ first ∷ others

parts_of : {X : Type 0} (x : Option X) (xs : Option (List X)) (ys : List X) → some_cons x xs ≡ Some ys → Parts x xs ys
parts_of None xs ys e = absurd (cc e)
parts_of (Some x) None ys e = absurd (cc e)
parts_of (Some x) (Some xs) ys e = record { first = x; others = xs; one = refl; all = refl; whole = cc }

through : (x : Option Value) (r : ℕ) (d : Data) (xs : List Answer) (go : Onward) → behind (with_some x (λ v. Does (bind r v d))) xs go ≡ given x (λ v. go (bind r v d) xs)
through None r d xs go = refl
through (Some v) r d xs go = refl

copy_does : (c : Setting) (call : ℕ → Entry) (t r source : ℕ) (d : Data) (xs : List Answer) (go : Onward) → all_do c call (said (copy_line t r source) []) d xs go ≡ given (value c d source) (λ v. go (bind r v d) xs)
unfolding outcome
copy_does c call t r source d xs go = through (value c d source) r d xs go

-- one copy more
more : (x : Option Value) (vs : Option (List Value)) (go : List Value → Result) (first : Value → Result) → ((v : Value) → first v ≡ given vs (λ ws. go (v ∷ ws)))
    → given x first ≡ given (some_cons x vs) go
more None vs go first h = refl
more (Some v) None go first h = h v
more (Some v) (Some vs) go first h = h v

pub copies_mean : (c : Setting) (call : ℕ → Entry) (n : ℕ) (there : List Statement) (block : ℕ) (sources : List ℕ) (body : Body)
    → phi_sources there block ≡ Some sources → Apart (phi_results there) sources → (d : Data) (xs : List Answer)
    → meaning c call n (copies there sources body) d xs ≡ given (values c d sources) (λ vs. meaning c call n body (bind_all (paired (phi_results there) vs) d) xs)
copies_mean c call n [] block [] body e apart d xs = refl
copies_mean c call n [] block (s ∷ ss) body e apart d xs = absurd (cc e)
copies_mean c call n (says.Phi t r pairs ∷ rest) block [] body e apart d xs =
    let parts = parts_of (from_block pairs block) (phi_sources rest block) [] e in absurd (cc (parts.whole))
copies_mean c call n (says.Phi t r pairs ∷ rest) block (s ∷ ss) body e apart d xs =
    let parts = parts_of (from_block pairs block) (phi_sources rest block) (s ∷ ss) e in
    let others : phi_sources rest block ≡ Some ss = cc (parts.all, parts.whole) in
    copy_does c call t r s d xs (meaning c call n (copies rest ss body))
    ∙ more (value c d s) (values c d ss) (λ vs. meaning c call n body (bind_all (paired (r ∷ phi_results rest) vs) d) xs) (λ v. meaning c call n (copies rest ss body) (bind r v d) xs)
    (λ v. copies_mean c call n rest block ss body others apart.1 (bind r v d) xs
    ∙ ap (λ o. given o (λ vs. meaning c call n body (bind_all (paired (phi_results rest) vs) (bind r v d)) xs)) (values_kept c d r v ss apart.0))
copies_mean c call n (other ∷ rest) block [] body e apart d xs = refl
copies_mean c call n (other ∷ rest) block (s ∷ ss) body e apart d xs = absurd (cc e)
