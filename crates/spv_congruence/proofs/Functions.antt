-- Functions side by side: their returns, the arms of their switches, and the data in which they begin.
use Rattle.std.proofs.Common.{◌≡◌, ℕ, ◌==◌, Bool, true, false, cond, List, [], ◌∷◌, Option, Some, None, refl}
use Rattle.interleaving.specs.Machine.{Answer}
use Rattle.spv_meaning.specs.Statements as says
use Rattle.spv_meaning.specs.Statements.{Statement, said, statements_in}
use Rattle.spv_machine.specs.Access.{Access}
use Rattle.spv_machine.specs.Setting.{Setting}
use Rattle.spv_machine.specs.State.{Value, Data, value}
use Rattle.spv_machine.specs.Steps.{chosen}
use Rattle.spv_bodies.specs.Bodies.{Body, Arms, Function}
use Rattle.spv_trees.specs.Meaning.{Returns, Onward, only, given, finishes, bound}
use Rattle.spv_congruence.specs.Relation.{Way, Rel, Both}
use Rattle.spv_congruence.specs.Shape.{SameArm, CasesAlike}
use Rattle.spv_congruence.specs.Laws.{in_new_frame, begun, some_value, returned}
use Rattle.spv_congruence.proofs.Relating.{rel_same, rel_stuck, rel_given}

pub both_more : {X Y : Type 0} (R S : X → Y → Type 0) (o : Option X) (o2 : Option Y) → ((x : X) (y : Y) → R x y → S x y) → Both R o o2 → Both S o o2
both_more R S None o2 more h = tt
both_more R S (Some x) None more h = absurd h
both_more R S (Some x) (Some y) more h = more x y h

-- ---- ends of functions

some_given : (d : Data) (xs : List Answer) (o : Option Value) → given o (λ v. only (Returns (Some v) d xs)) ≡ given (some_value o) (λ v. only (Returns v d xs))
some_given d xs None = refl
some_given d xs (Some v) = refl

pub finishes_with : (c : Setting) (ss : List Statement) (d : Data) (xs : List Answer)
    → finishes c ss d xs ≡ given (returned c ss d) (λ v. only (Returns v d xs))
finishes_with c [] d xs = refl
finishes_with c (says.Return ∷ rest) d xs = refl
finishes_with c (says.ReturnValue id ∷ rest) d xs = some_given d xs (value c d id)
finishes_with c (other ∷ rest) d xs = refl

-- ---- arms

same_arm_at : (arms arms2 : Arms) (b b2 : Bool) (l l2 m m2 : ℕ) → b ≡ b2 → SameArm arms arms2 l l2 → SameArm arms arms2 m m2
    → SameArm arms arms2 (cond b l m) (cond b2 l2 m2)
same_arm_at arms arms2 true true l l2 m m2 e h k = h
same_arm_at arms arms2 false false l l2 m m2 e h k = k
same_arm_at arms arms2 true false l l2 m m2 e h k = absurd (cc e)
same_arm_at arms arms2 false true l l2 m m2 e h k = absurd (cc e)

-- what one word chooses
pub chosen_alike : (arms arms2 : Arms) (n n2 l l2 : ℕ) (cases cases2 : List (ℕ × ℕ)) → n ≡ n2 → SameArm arms arms2 l l2 → CasesAlike arms arms2 cases cases2
    → SameArm arms arms2 (chosen n l cases) (chosen n2 l2 cases2)
chosen_alike arms arms2 n n2 l l2 [] [] e first h = first
chosen_alike arms arms2 n n2 l l2 [] (c2 ∷ cs2) e first h = absurd h
chosen_alike arms arms2 n n2 l l2 (c ∷ cs) [] e first h = absurd h
chosen_alike arms arms2 n n2 l l2 (c ∷ cs) (c2 ∷ cs2) e first h =
    same_arm_at arms arms2 (c.0 == n) (c2.0 == n2) c.1 c2.1 (chosen n l cs) (chosen n2 l2 cs2) (λ i. h.0 i == e i) h.1
    (chosen_alike arms arms2 n n2 l l2 cs cs2 e first h.2)

-- a function's first data
pub begun_given : (d : Data) (go : Onward) (xs : List Answer) (o : Option (List (ℕ × Value)))
    → given o (λ entries. go (record d { frames = record { values = entries; variables = [] } ∷ d.frames }) xs) ≡ given (in_new_frame d o) (λ e. go e xs)
begun_given d go xs None = refl
begun_given d go xs (Some entries) = refl

-- ---- functions

module _ (left_out : Access → Bool) (Same : Access → Access → Type 0) (Ways : Way → Way → Type 0) (c c2 : Setting) (go go2 : Body → Onward) (R : Data → Data
    → Type 0) (Q : Function → Function → Type 0)
    (vs vs2 : List Value) (d d2 : Data) where
  entered_beside : (f f2 : Function) → Both R (begun c f vs d) (begun c2 f2 vs2 d2)
      → ((e e2 : Data) → R e e2 → Rel left_out Same Ways (go f.body e) (go2 f2.body e2))
      → Rel left_out Same Ways
      (λ xs. given (bound c (statements_in f.parameters) vs [])
      (λ entries. go f.body (record d { frames = record { values = entries; variables = [] } ∷ d.frames }) xs))
      (λ xs. given (bound c2 (statements_in f2.parameters) vs2 [])
      (λ entries. go2 f2.body (record d2 { frames = record { values = entries; variables = [] } ∷ d2.frames }) xs))
  entered_beside f f2 both more =
      rel_same left_out Same Ways
      (λ xs. given (bound c (statements_in f.parameters) vs [])
      (λ entries. go f.body (record d { frames = record { values = entries; variables = [] } ∷ d.frames }) xs))
      (λ xs. given (begun c f vs d) (λ e. go f.body e xs))
      (λ xs. given (bound c2 (statements_in f2.parameters) vs2 [])
      (λ entries. go2 f2.body (record d2 { frames = record { values = entries; variables = [] } ∷ d2.frames }) xs))
      (λ xs. given (begun c2 f2 vs2 d2) (λ e. go2 f2.body e xs))
      (λ xs. begun_given d (go f.body) xs (bound c (statements_in f.parameters) vs []))
      (λ xs. begun_given d2 (go2 f2.body) xs (bound c2 (statements_in f2.parameters) vs2 []))
      (rel_given left_out Same Ways R (begun c f vs d) (begun c2 f2 vs2 d2) (go f.body) (go2 f2.body) both more)

  pub known_beside : (o o2 : Option Function) → Both Q o o2 → Both (λ f f2. Both R (begun c f vs d) (begun c2 f2 vs2 d2)) o o2
      → ((f f2 : Function) (e e2 : Data) → Q f f2 → R e e2 → Rel left_out Same Ways (go f.body e) (go2 f2.body e2))
      → Rel left_out Same Ways
      (λ xs. given o (λ f. given (bound c (statements_in f.parameters) vs [])
      (λ entries. go f.body (record d { frames = record { values = entries; variables = [] } ∷ d.frames }) xs)))
      (λ xs. given o2 (λ f. given (bound c2 (statements_in f.parameters) vs2 [])
      (λ entries. go2 f.body (record d2 { frames = record { values = entries; variables = [] } ∷ d2.frames }) xs)))
  known_beside None o2 alike both more =
      rel_stuck left_out Same Ways (λ xs. given o2 (λ f. given (bound c2 (statements_in f.parameters) vs2 [])
      (λ entries. go2 f.body (record d2 { frames = record { values = entries; variables = [] } ∷ d2.frames }) xs)))
  known_beside (Some f) None alike both more = absurd alike
  known_beside (Some f) (Some f2) alike both more = entered_beside f f2 both (λ e e2 r. more f f2 e e2 alike r)
