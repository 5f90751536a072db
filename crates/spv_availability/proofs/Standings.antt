-- Where the instructions of a module stand, one after the other.
use Rattle.std.proofs.Common.{◌≡◌, ◌⊎◌, inl, inr, ℕ, zero, suc, ◌+◌, ◌≤◌, cond, List, [], ◌∷◌, ◌++◌, length, take, Some, refl, sym, ap, ◌∙◌, arith}
use Rattle.std.specs.List.{count_by, slice_get}
use Rattle.std.proofs.lemmas.List.{length-take, length_push}
use Rattle.std.proofs.lemmas.List.Sums.{count_by-le-length, sum_by-append}
use Rattle.spv_module.specs.Code.{is_function}
use Rattle.spv_module.specs.Instruction.{Instruction}
use Rattle.spv_blocks.specs.Cutting.{is_label_mark, word}
use Rattle.spv_blocks.proofs.Slices.{take-at}
use Rattle.spv_availability.specs.declared.places.Standing.{Standing}
use Rattle.spv_availability.specs.Places.{function_of, block_of, last_label}
use Rattle.spv_availability.specs.Kept.{AreStandings, standing}

-- the last label of some instructions and one more
last_label-push : (before : ℕ) (xs : List Instruction) (i : Instruction) → last_label before (xs ++ i ∷ []) ≡ last_label (last_label before xs) (i ∷ [])
last_label-push before [] i = refl
last_label-push before (x ∷ xs) i = last_label-push (cond (is_label_mark x) (word x 1) before) xs i

get_pushed : (xs : List Standing) (x : Standing) (j : ℕ) (s : Standing) → slice_get (xs ++ x ∷ []) j ≡ Some s
    → (slice_get xs j ≡ Some s) ⊎ ((j ≡ length xs) × (s ≡ x))
get_pushed [] x zero s e = inr (refl, cc)
get_pushed [] x (suc j) s e = absurd (cc)
get_pushed (y ∷ ys) x zero s e = inl e
get_pushed (y ∷ ys) x (suc j) s e = elim (get_pushed ys x j s e) [ inl old ↦ inl old | inr new ↦ inr (ap suc new.0, new.1) ]

-- the first k instructions, the function and the block that the last of them stands in, and where each stands
pub record StandFirst (insts : List Instruction) (k function block : ℕ) (standings : List Standing) : Type 0 where
  pub functions : function ≡ count_by is_function (take k insts)
  pub blocks : block ≡ last_label 0 (take k insts)
  pub each : AreStandings insts k standings

-- no more functions than instructions
pub few_functions : (insts : List Instruction) (k : ℕ) → count_by is_function (take k insts) ≤ k
few_functions insts k = omega (arith, count_by-le-length is_function (take k insts), length-take k insts)

abbrev made : (function block : ℕ) → Standing
made f b = record { function = f; block = b }

module _ (insts : List Instruction) (k : ℕ) (i : Instruction) (at : slice_get insts k ≡ Some i) where
  counted : count_by is_function (take (k + 1) insts) ≡ count_by is_function (take k insts) + count_by is_function (i ∷ [])
  counted = ap (count_by is_function) (take-at insts k i at) ∙ sum_by-append (λ (x : Instruction). cond (is_function x) 1 0) (take k insts) (i ∷ [])

  labelled : last_label 0 (take (k + 1) insts) ≡ last_label (last_label 0 (take k insts)) (i ∷ [])
  labelled = ap (last_label 0) (take-at insts k i at) ∙ last_label-push 0 (take k insts) i

  here : (f b : ℕ) → f ≡ function_of insts k → b ≡ block_of insts k → made f b ≡ standing insts k
  here f b functions blocks = ap (λ (n : ℕ). made n b) functions ∙ ap (λ (n : ℕ). made (function_of insts k) n) blocks

  pub stand-push : (function block f b : ℕ) (standings : List Standing) → StandFirst insts k function block standings
      → f ≡ function + count_by is_function (i ∷ []) → b ≡ last_label block (i ∷ [])
      → StandFirst insts (k + 1) f b (standings ++ made f b ∷ [])
  stand-push function block f b standings h is_f is_b =
      let functions = is_f ∙ ap (λ n. n + count_by is_function (i ∷ [])) h.functions ∙ sym counted in
      let blocks = is_b ∙ ap (λ n. last_label n (i ∷ [])) h.blocks ∙ sym labelled in
      record {
        functions = functions;
        blocks = blocks;
        each = record {
          count = length_push standings (made f b) ∙ ap (λ n. n + 1) h.each.count;
          each = λ j s e. elim (get_pushed standings (made f b) j s e) [
            | inl old ↦ h.each.each j s old
            | inr new ↦ new.1 ∙ here f b functions blocks ∙ ap (standing insts) (sym (new.0 ∙ h.each.count))
          ];
        };
      }
