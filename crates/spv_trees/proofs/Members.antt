-- Elements of lists, and what an OpPhi takes of the branches that it lists.
use Rattle.std.proofs.Common.{◌≡◌, ℕ, ◌⊎◌, inl, inr, Bool, true, false, ◌==◌, ◌||◌, not, cond, nat_eq, List, [], ◌∷◌, ◌++◌, Some, refl, sym, ap, ◌∙◌}
use Rattle.std.specs.Prelude.{filter, slice_index}
use Rattle.std.specs.List.{list_any, flat_map}
use Rattle.std.proofs.lemmas.Bool.{eqb-true, eq-eqb}
use Rattle.spv_machine.specs.Steps as steps
use Rattle.spv_bodies.specs.Bodies.{Exit}
use Rattle.spv_bodies.specs.Listing.{Branching, arriving, from_block, from_others, in_order, phi_pairs}
use Rattle.spv_trees.specs.Standing.{OneOf}
use Rattle.spv_trees.specs.Sound.{SameValues}

pub one_left : {X : Type 0} (x : X) (xs ys : List X) → OneOf x xs → OneOf x (xs ++ ys)
one_left x (z ∷ xs) ys (inl e) = inl e
one_left x (z ∷ xs) ys (inr h) = inr (one_left x xs ys h)
one_left x [] ys h = absurd h

pub one_right : {X : Type 0} (x : X) (xs ys : List X) → OneOf x ys → OneOf x (xs ++ ys)
one_right x [] ys h = h
one_right x (z ∷ xs) ys h = inr (one_right x xs ys h)

shifted : {X : Type 0} (x z : X) (xs ys : List X) → OneOf x xs ⊎ OneOf x ys → OneOf x (z ∷ xs) ⊎ OneOf x ys
shifted x z xs ys (inl h) = inl (inr h)
shifted x z xs ys (inr h) = inr h

one_split : {X : Type 0} (x : X) (xs ys : List X) → OneOf x (xs ++ ys) → OneOf x xs ⊎ OneOf x ys
one_split x [] ys h = inr h
one_split x (z ∷ xs) ys (inl e) = inl (inl e)
one_split x (z ∷ xs) ys (inr h) = shifted x z xs ys (one_split x xs ys h)

-- ---- filters

keeps_first : {X : Type 0} (b : Bool) (x z : X) (zs : List X) → x ≡ z → b ≡ true → OneOf x (cond b (z ∷ zs) zs)
keeps_first true x z zs e h = inl e
keeps_first false x z zs e h = absurd (cc h)

keeps_others : {X : Type 0} (b : Bool) (x z : X) (zs : List X) → OneOf x zs → OneOf x (cond b (z ∷ zs) zs)
keeps_others true x z zs h = inr h
keeps_others false x z zs h = h

filter_in : {X : Type 0} (test : X → Bool) (x : X) (xs : List X) → OneOf x xs → test x ≡ true → OneOf x (filter test xs)
filter_in test x [] h e = absurd h
filter_in test x (z ∷ zs) (inl h) e = keeps_first (test z) x z (filter test zs) h (ap test (sym h) ∙ e)
filter_in test x (z ∷ zs) (inr h) e = keeps_others (test z) x z (filter test zs) (filter_in test x zs h e)

-- an element that is left was there, and passes
kept_first : {X : Type 0} (test : X → Bool) (b : Bool) (x z : X) (zs left : List X) → test z ≡ b → (OneOf x left → OneOf x zs × (test x ≡ true)) → OneOf x (cond b (z ∷ left) left) → OneOf x (z ∷ zs) × (test x ≡ true)
kept_first test true x z zs left e h (inl g) = (inl g, ap test g ∙ e)
kept_first test true x z zs left e h (inr g) = (let r = h g in (inr r.0, r.1))
kept_first test false x z zs left e h g = (let r = h g in (inr r.0, r.1))

filter_from : {X : Type 0} (test : X → Bool) (x : X) (xs : List X) → OneOf x (filter test xs) → OneOf x xs × (test x ≡ true)
filter_from test x [] h = absurd h
filter_from test x (z ∷ zs) h = kept_first test (test z) x z zs (filter test zs) refl (filter_from test x zs) h

-- ---- the branches of an OpPhi, in its order

any_behind : (a b : Bool) → (a || b) ≡ true → a ≡ false → b ≡ true
any_behind true b h e = absurd (cc e)
any_behind false b h e = h

flat_step : (all : List Branching) (x : Branching) (b : ℕ) (bs : List ℕ) → OneOf x all → (list_any (nat_eq x.0) bs ≡ true → OneOf x (flat_map (from_block all) bs)) → (is : Bool) → (x.0 == b) ≡ is → (is || list_any (nat_eq x.0) bs) ≡ true
    → OneOf x (from_block all b ++ flat_map (from_block all) bs)
flat_step all x b bs h ih true e any = one_left x (from_block all b) (flat_map (from_block all) bs) (filter_in (λ y. y.0 == b) x all h e)
flat_step all x b bs h ih false e any = one_right x (from_block all b) (flat_map (from_block all) bs) (ih any)

flat_in : (all : List Branching) (x : Branching) (blocks : List ℕ) → OneOf x all → list_any (nat_eq x.0) blocks ≡ true → OneOf x (flat_map (from_block all) blocks)
flat_in all x [] h e = absurd (cc e)
flat_in all x (b ∷ bs) h e = flat_step all x b bs h (flat_in all x bs h) (x.0 == b) refl e

flat_from : (all : List Branching) (x : Branching) (blocks : List ℕ) → OneOf x (flat_map (from_block all) blocks) → OneOf x all
flat_from all x [] h = absurd h
flat_from all x (b ∷ bs) h =
    elim (one_split x (from_block all b) (flat_map (from_block all) bs) h) [
      | inl g ↦ (filter_from (λ y. y.0 == b) x all g).0
      | inr g ↦ flat_from all x bs g
    ]

order_in_by : (all : List Branching) (x : Branching) (blocks : List ℕ) → OneOf x all → (is : Bool) → list_any (nat_eq x.0) blocks ≡ is → OneOf x (in_order blocks all)
order_in_by all x blocks h true e = one_left x (flat_map (from_block all) blocks) (from_others all blocks) (flat_in all x blocks h e)
order_in_by all x blocks h false e =
    one_right x (flat_map (from_block all) blocks) (from_others all blocks) (filter_in (λ y. not (list_any (nat_eq y.0) blocks)) x all h (ap not e))

order_in : (all : List Branching) (x : Branching) (blocks : List ℕ) → OneOf x all → OneOf x (in_order blocks all)
order_in all x blocks h = order_in_by all x blocks h (list_any (nat_eq x.0) blocks) refl

order_from : (all : List Branching) (x : Branching) (blocks : List ℕ) → OneOf x (in_order blocks all) → OneOf x all
order_from all x blocks h =
    elim (one_split x (flat_map (from_block all) blocks) (from_others all blocks) h) [
      | inl g ↦ flat_from all x blocks g
      | inr g ↦ (filter_from (λ y. not (list_any (nat_eq y.0) blocks)) x all g).0
    ]

-- ---- what an OpPhi takes from a block

taken_at : (k block : ℕ) (values : List ℕ) (y : Branching) (ys : List Branching) → (y.0 ≡ block → y.1.values ≡ values) → (is : Bool) → (y.0 == block) ≡ is → (is ≡ false → steps.from_block (phi_pairs k ys) block ≡ Some (slice_index values k))
    → cond is (Some (slice_index y.1.values k)) (steps.from_block (phi_pairs k ys) block) ≡ Some (slice_index values k)
taken_at k block values y ys same true e others = ap (λ vs. Some (slice_index vs k)) (same (eqb-true y.0 block e))
taken_at k block values y ys same false e others = others refl

-- where each of its branches from a block carries these values
taken : (k block : ℕ) (exit : Exit) (ys : List Branching) → OneOf (block, exit) ys → ((y : Branching) → OneOf y ys → y.0 ≡ block → y.1.values ≡ exit.values)
    → steps.from_block (phi_pairs k ys) block ≡ Some (slice_index exit.values k)
taken k block exit [] h same = absurd h
taken k block exit (y ∷ ys) (inl e) same =
    taken_at k block exit.values y ys (same y (inl refl)) (y.0 == block) refl (λ other. absurd (cc (eq-eqb y.0 block (ap (λ b. b.0) (sym e)), other)))
taken k block exit (y ∷ ys) (inr h) same =
    taken_at k block exit.values y ys (same y (inl refl)) (y.0 == block) refl (λ other. taken k block exit ys h (λ z g. same z (inr g)))

-- a branch of the function
pub phi_takes : (all : List Branching) → SameValues all → (k block : ℕ) (exit : Exit) (label : ℕ) (blocks : List ℕ) → OneOf (block, exit) all → exit.target ≡ label
    → steps.from_block (phi_pairs k (in_order blocks (arriving label all))) block ≡ Some (slice_index exit.values k)
phi_takes all same k block exit label blocks h e =
    let x : Branching = (block, exit) in
    taken k block exit (in_order blocks (arriving label all))
    (order_in (arriving label all) x blocks (filter_in (λ y. y.1.target == label) x all h (eq-eqb exit.target label e)))
    (λ y g from.
    let was = filter_from (λ z. z.1.target == label) y all (order_from (arriving label all) y blocks g) in
    same y x was.0 h from (eqb-true y.1.target label was.1 ∙ sym e))
