-- What each branch of a fine function carries is passed: by induction on the length of the way, and for each length by recursion on the tree.
use Rattle.std.proofs.Common.{◌≡◌, ◌⊎◌, inl, inr, ℕ, zero, suc, ◌≤◌, true, List, [], ◌∷◌, length, refl, arith}
use Rattle.std.specs.List.{flat_map}
use Rattle.spv_module.specs.Instruction.{Instruction}
use Rattle.spv_blocks.specs.Cutting.{blocks_of}
use Rattle.spv_walk.specs.Contexts.{Context}
use Rattle.spv_walk.specs.Walk.{Walk}
use Rattle.spv_bodies.specs.Bodies.{Function}
use Rattle.spv_bodies.specs.Listing.{Branching, branches}
use Rattle.spv_trees.specs.Standing.{OneOf}
use Rattle.spv_spelling.specs.Spelling.{SpellsFunction}
use Rattle.spv_spelling.specs.Whole.{IsAdmitted}
use Rattle.spv_normal_trees.proofs.Listed.{walk}
use Rattle.spv_fine.specs.Fine.{Fine, Ids, With, defined_in}
use Rattle.spv_fine.specs.Laws.{IsDefinedAmong, IsDefinedIn, NoPhisJoined, SentIsPassed, stay}
use Rattle.spv_fine.proofs.Kept.{kept}
use Rattle.spv_fine.proofs.Passed.{Behind, Carried, HoldsBy, Promised}

-- ways of at most n blocks
abbrev pub AtMost : ℕ → List ℕ → Type 0
AtMost n passed = length passed ≤ n

at_most : (n : ℕ) (xs ys : List ℕ) → length ys ≤ length xs → AtMost n xs → AtMost n ys
at_most n xs ys less h = omega arith

-- any way
abbrev pub Any : List ℕ → Type 0
Any passed = Unit {0}

module _ (insts : List Instruction) (f : Function) (admitted : IsAdmitted insts) (spells : SpellsFunction insts stay f) (no_phis : NoPhisJoined insts)
    (P : (label id : ℕ) → Type 0) (Home : (block id : ℕ) → Type 0) (homes : (block id : ℕ) (c : Context) → Walk (blocks_of insts) block c
    → IsDefinedIn insts block id → Home block id) (Free : Ids)
    (fine : Fine P Free f.label f.body) where
  promised_within : (n : ℕ) → Promised insts f admitted spells P Home Free (AtMost n) (at_most n)
  promised_within zero e o id once p passed w short = absurd (omega arith)
  promised_within (suc n) e o id once p passed w short =
      (kept insts f admitted spells no_phis P Home homes Free (AtMost n) (at_most n) (promised_within n) spells.body Free
      (walk insts stay f admitted spells) [] refl
      (λ x h way v s. inl h) (λ x h. h) fine e o).0 id (inl (once, p)) passed w (omega arith)

  -- whatever way
  pub promised : Promised insts f admitted spells P Home Free Any (λ xs ys less h. h)
  promised e o id once p passed w short = promised_within (suc (length passed)) e o id once p passed w (omega arith)

  pub sent : (e : Branching) → OneOf e (branches f.label f.body) → (id : ℕ) → Carried insts f admitted spells P Home Free Any (λ xs ys less h. h) e id
      → Behind insts f admitted spells P Home Free Any (λ xs ys less h. h) e.0 id
  sent e o id h =
      (kept insts f admitted spells no_phis P Home homes Free Any (λ xs ys less h. h) promised spells.body Free (walk insts stay f admitted spells) [] refl
      (λ x k way v s. inl k) (λ x k. k) fine e o).0 id h

pub sent_is_passed : SentIsPassed
sent_is_passed insts f known told admitted spells no_phis fine e o id h passed w =
    by (sent insts f admitted spells no_phis (λ label id. told label id ≡ true) (IsDefinedIn insts) (λ block id c v d. d)
    (With (λ id. known id ≡ true) (flat_map defined_in f.parameters)) fine.body e o id h passed w tt)
  where
    by : HoldsBy (IsDefinedIn insts) (With (λ id. known id ≡ true) (flat_map defined_in f.parameters)) (e.0 ∷ passed) id
        → With (λ id. known id ≡ true) (flat_map defined_in f.parameters) id ⊎ IsDefinedAmong insts (e.0 ∷ passed) id
    by (inl k) = inl k
    by (inr k) = inr (record { block = k.block; among = k.passed_it; defined = k.defined })
