-- Instructions placed one by one.
use Rattle.std.proofs.Common.{◌≡◌, ℕ, zero, suc, ◌+◌, ◌<◌, ◌≤◌, List, [], ◌∷◌, ◌++◌, length, take, drop, slice_get, Some, refl, sym, ap, ◌∙◌, arith, add-one, append_assoc, append-nil}
use Rattle.std.specs.List.{flat_map}
use Rattle.std.proofs.Math.Seq.{take-suc}
use Rattle.std.proofs.lemmas.List.{take_all, drop_all, length-append}
use Rattle.std.proofs.lemmas.List.Concat.{flat_map-append}
use Rattle.std.proofs.lemmas.Option.{get_or_from_slice_get}
use Rattle.spv_module.specs.Instruction.{Instruction}
use Rattle.spv_placing.specs.Placing.{placed_from, size_in}

-- from a place in a list on: what stands there, and what stands behind it
dropped_one : (xs : List Instruction) (k : ℕ) (x : Instruction) → slice_get xs k ≡ Some x → drop k xs ≡ x ∷ drop (suc k) xs
dropped_one [] k x e = absurd (cc e)
dropped_one (y ∷ ys) zero x e = let same : y ≡ x = cc e in ap (λ z. z ∷ ys) same
dropped_one (y ∷ ys) (suc k) x e = dropped_one ys k x e

suc_more : (k : ℕ) → k + 1 ≡ suc k
suc_more k = omega arith

pub dropped_next : (xs : List Instruction) (k : ℕ) (x : Instruction) → slice_get xs k ≡ Some x → drop k xs ≡ x ∷ drop (k + 1) xs
dropped_next xs k x e = dropped_one xs k x e ∙ ap (λ (n : ℕ). x ∷ drop n xs) (sym (suc_more k))

-- one instruction more is placed
pub placed_next : (insts after all whole : List Instruction) (at next k : ℕ) (x placed : Instruction) → insts ++ placed_from at (drop k all) ≡ whole
    → after ≡ insts ++ placed ∷ [] → placed ≡ (record { offset = at; words = x.words }) → next ≡ at + length x.words → slice_get all k ≡ Some x
    → after ++ placed_from next (drop (k + 1) all) ≡ whole
placed_next insts after all whole at next k x placed e d p n g =
    let here : insts ++ placed_from at (x ∷ drop (k + 1) all) ≡ whole = ap (λ (more : List Instruction). insts ++ placed_from at more) (sym (dropped_next all k x g)) ∙ e in
    ap (λ (front : List Instruction). front ++ placed_from next (drop (k + 1) all)) d
    ∙ append_assoc insts (placed ∷ []) (placed_from next (drop (k + 1) all))
    ∙ ap (λ (i : Instruction). insts ++ i ∷ placed_from next (drop (k + 1) all)) p
    ∙ ap (λ (m : ℕ). insts ++ (record { offset = at; words = x.words }) ∷ placed_from m (drop (k + 1) all)) n
    ∙ here

-- all are
pub placed_all : (insts whole : List Instruction) (at k : ℕ) → take k insts ++ placed_from at (drop k insts) ≡ whole → length insts ≤ k → insts ≡ whole
placed_all insts whole at k e n =
    sym (append-nil insts)
    ∙ ap (λ (front : List Instruction). front ++ []) (sym (take_all k insts n))
    ∙ ap (λ (more : List Instruction). take k insts ++ placed_from at more) (sym (drop_all k insts n))
    ∙ e

pub placed_count : (at : ℕ) (insts : List Instruction) → length (placed_from at insts) ≡ length insts
placed_count at [] = refl
placed_count at (i ∷ is) = ap suc (placed_count (at + length i.words) is)

-- one element more
pub take-at : {X : Type 0} (xs : List X) (k : ℕ) (x : X) → k < length xs → slice_get xs k ≡ Some x → take (k + 1) xs ≡ take k xs ++ x ∷ []
take-at xs k x fits at = rw add-one (take-suc xs k x fits ∙ ap (λ y. take k xs ++ y ∷ []) (get_or_from_slice_get xs k x x at))

pub size-more : (insts : List Instruction) (k : ℕ) (i : Instruction) → k < length insts → slice_get insts k ≡ Some i
    → size_in (take (k + 1) insts) ≡ size_in (take k insts) + length i.words
size-more insts k i h e =
    omega (
      arith,
      ap length
          (ap (flat_map (λ (j : Instruction). j.words)) (take-at insts k i h e)
          ∙ flat_map-append (λ (j : Instruction). j.words) (take k insts) (i ∷ [])),
      length-append (flat_map (λ (j : Instruction). j.words) (take k insts)) (flat_map (λ (j : Instruction). j.words) (i ∷ [])),
      ap length (append-nil i.words),
    )

pub placed_words : (at : ℕ) (insts : List Instruction) → flat_map (λ (i : Instruction). i.words) (placed_from at insts) ≡ flat_map (λ (i : Instruction). i.words) insts
placed_words at [] = refl
placed_words at (i ∷ is) = ap (λ (ws : List ℕ). i.words ++ ws) (placed_words (at + length i.words) is)
