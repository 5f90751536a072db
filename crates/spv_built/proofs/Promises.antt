-- What is promised in a function of a module is told by a test, where the function is fine under the promise that every way to a label has passed the definition
-- of an id.
use Rattle.std.proofs.Common.{◌≡◌, ◌⊎◌, inl, inr, ℕ, zero, suc, Bool, true, false, ◌==◌, ◌||◌, List, [], ◌∷◌, map, Option, Some, None, refl, sym, ap, subst, ◌∙◌, slice_index}
use Rattle.std.specs.List.{AllByRecursion, flat_map}
use Rattle.spv_module.specs.Instruction.{Instruction}
use Rattle.spv_ids.specs.Ids.{definition, place_of}
use Rattle.spv_blocks.specs.Blocks.{has}
use Rattle.spv_walk.proofs.Unique.{equal_true}
use Rattle.spv_bodies.specs.Bodies.{Function}
use Rattle.spv_normal.specs.Lines.{line}
use Rattle.spv_tree.specs.Sound.{fronts}
use Rattle.spv_spelling.specs.Text.{text}
use Rattle.spv_respelling.proofs.SpelledSteps.{all_lines}
use Rattle.spv_trees.specs.Standing.{OneOf}
use Rattle.spv_trees.proofs.Members.{one_left, one_right}
use Rattle.spv_availability.specs.Availability.{is_everywhere}
use Rattle.spv_availability.specs.Places.{function_of}
use Rattle.spv_fine.specs.Fine.{IsFine, defined_in}
use Rattle.spv_fine.specs.Laws.{IsDefinedIn, IsKnown, Told}
use Rattle.spv_fine_trees.specs.There.{IsPromised}
use Rattle.spv_built.proofs.Choosing.{Decided, Picks, chosen, some_choice}
use Rattle.spv_built.proofs.Deciding.{Known, Promised, either_of, function_fine, is_promised, of_promised, promised, told}
use Rattle.spv_built.proofs.Lists.{all_of_each, one_of_all}
use Rattle.spv_built.proofs.Narrower.{Promises, function_less}

-- ---- what is known is decided

is_zero : (n : ℕ) → Decided (n ≡ 0)
is_zero zero = inl refl
is_zero (suc n) = inr (λ e. absurd (cc e))

-- what is known by one place and one definition is so by the same
same_known : (insts : List Instruction) (id at : ℕ) (inst : Instruction) → place_of insts id ≡ Some at → definition insts id ≡ Some inst → IsKnown insts id
    → (function_of insts at ≡ 0) ⊎ (is_everywhere inst ≡ true)
same_known insts id at inst e g k =
    let places : Some k.at ≡ Some at = sym k.is_at ∙ e in
    let place : k.at ≡ at = cc places in
    let definitions : Some k.inst ≡ Some inst = sym k.is ∙ g in
    let one : k.inst ≡ inst = cc definitions in
    subst (λ n. (function_of insts n ≡ 0) ⊎ (is_everywhere inst ≡ true)) place
    (subst (λ (i : Instruction). (function_of insts k.at ≡ 0) ⊎ (is_everywhere i ≡ true)) one k.everywhere)

pub knows : (insts : List Instruction) → Known (IsKnown insts)
knows insts id = by (place_of insts id) (definition insts id) refl refl where
  by : (p : Option ℕ) (d : Option Instruction) → place_of insts id ≡ p → definition insts id ≡ d → Decided (IsKnown insts id)
  by None d e g = inr (λ (k : IsKnown insts id). let there : None ≡ Some k.at = sym e ∙ k.is_at in absurd (cc there))
  by (Some at) None e g = inr (λ (k : IsKnown insts id). let there : None ≡ Some k.inst = sym g ∙ k.is in absurd (cc there))
  by (Some at) (Some inst) e g = elim (either_of (is_zero (function_of insts at)) (told (is_everywhere inst))) [
    | inl h ↦ inl (record { at = at; inst = inst; is_at = e; is = g; everywhere = h })
    | inr n ↦ inr (λ k. n (same_known insts id at inst e g k))
  ]

-- ---- lists

has_one : (xs : List ℕ) (x : ℕ) → has xs x ≡ true → OneOf x xs
has_one [] x h = absurd (cc h)
has_one (y ∷ ys) x h = by (y == x) refl h (has_one ys x) where
  by : (b : Bool) → (y == x) ≡ b → (b || has ys x) ≡ true → (has ys x ≡ true → OneOf x ys) → OneOf x (y ∷ ys)
  by true e g later = inl (sym (equal_true y x e))
  by false e g later = inr (later g)

-- a label and an id
abbrev pairs_with : List ℕ → ℕ → List (ℕ × ℕ)
pairs_with ids label = map (λ id. (label, id)) ids

abbrev all_pairs : List ℕ → List ℕ → List (ℕ × ℕ)
all_pairs labels ids = flat_map (pairs_with ids) labels

one_with : (label id : ℕ) (ids : List ℕ) → OneOf id ids → OneOf (label, id) (pairs_with ids label)
one_with label id [] o = o
one_with label id (x ∷ xs) (inl e) = inl (ap (λ z. (label, z)) e)
one_with label id (x ∷ xs) (inr o) = inr (one_with label id xs o)

one_pair : (label id : ℕ) (labels ids : List ℕ) → OneOf label labels → OneOf id ids → OneOf (label, id) (all_pairs labels ids)
one_pair label id [] ids o there = absurd o
one_pair label id (l ∷ ls) ids (inl e) there =
    one_left (label, id) (pairs_with ids l) (all_pairs ls ids) (subst (λ z. OneOf (label, id) (pairs_with ids z)) e (one_with label id ids there))
one_pair label id (l ∷ ls) ids (inr o) there = one_right (label, id) (pairs_with ids l) (all_pairs ls ids) (one_pair label id ls ids o there)

-- ---- the ids that the lines of a function define

abbrev ids_in : List ℕ → List ℕ
ids_in words = slice_index words 2 ∷ defined_in words

abbrev ids_of : List Instruction → List ℕ
ids_of t = flat_map (λ i. ids_in (line i)) t

-- those of each are among some
each_among : (all : List ℕ) (is : List Instruction) → ((id : ℕ) → OneOf id (ids_of is) → OneOf id all)
    → AllByRecursion (λ i. (id : ℕ) → OneOf id (ids_in (line i)) → OneOf id all) is
each_among all [] h = tt
each_among all (i ∷ is) h = (
  λ id o. h id (one_left id (ids_in (line i)) (ids_of is) o),
  each_among all is (λ id o. h id (one_right id (ids_in (line i)) (ids_of is) o)),
)

defined_among : (t : List Instruction) (block id : ℕ) → IsDefinedIn t block id → OneOf id (ids_of t)
defined_among t block id d =
    one_of_all (λ w. (id : ℕ) → OneOf id (ids_in w) → OneOf id (ids_of t)) d.line (text t block)
    (all_lines (λ i. (id : ℕ) → OneOf id (ids_in (line i)) → OneOf id (ids_of t)) (λ w. (id : ℕ) → OneOf id (ids_in w) → OneOf id (ids_of t)) (λ i h. h) t
    (each_among (ids_of t) t (λ id o. o)) block) d.stands id
    (elim d.defines [ inl step ↦ inr (has_one (defined_in d.line) id step.1) | inr phi ↦ inl (sym phi.1) ])

-- ---- a test of what is promised

module _ (insts t : List Instruction) (f : Function) where
  abbrev Pair : ℕ × ℕ → Type 0
  Pair p = IsPromised t p.0 p.1

  abbrev candidates : List (ℕ × ℕ)
  candidates = all_pairs (fronts f.body) (ids_of t)

  less : (ps : List (ℕ × ℕ)) → Picks Pair candidates ps → (label id : ℕ) → Promised ps label id → IsPromised t label id
  less ps picks label id h = one_of_all Pair (label, id) ps picks.only (of_promised ps label id h)

  same : (ps : List (ℕ × ℕ)) (picks : Picks Pair candidates ps) → AllByRecursion (Promises (IsPromised t) (Promised ps)) (fronts f.body)
  same ps picks =
      all_of_each (Promises (IsPromised t) (Promised ps)) (fronts f.body) (λ label front. record {
        all = λ id p.
            is_promised ps label id
            (one_of_all (λ q. Pair q → OneOf q ps) (label, id) candidates picks.all
            (one_pair label id (fronts f.body) (ids_of t) front (defined_among t p.block id p.defined)) p);
      })

  -- so it is where this cannot but be so
  pub told_promises : ((IsFine (IsKnown insts) (IsPromised t) f → ⊥) → ⊥)
      → (test : ℕ → ℕ → Bool) × IsFine (IsKnown insts) (λ label. Told (test label)) f
  told_promises fine = elim (chosen candidates (λ ps. IsFine (IsKnown insts) (Promised ps) f) (λ ps. function_fine ps (IsKnown insts) (knows insts) f)) [
    | inl r ↦ (promised r.0, r.1)
    | inr none ↦ absurd (fine (λ h.
        some_choice Pair candidates (λ ps. IsFine (IsKnown insts) (Promised ps) f) none
        (λ ps picks. function_less (IsPromised t) (Promised ps) (less ps picks) (IsKnown insts) f (same ps picks) h)))
  ]
