-- The normal form of a module is no more crowded than the module.
use Rattle.std.proofs.Common.{◌≡◌, ℕ, suc, zero, ◌<◌, List, [], ◌∷◌, length, map, slice_get, Some, refl, sym, ap, subst, ◌∙◌}
use Rattle.std.specs.Prelude.{count_by}
use Rattle.std.specs.List.{Contains}
use Rattle.spv_module.specs.Code.{is_function}
use Rattle.spv_module.specs.Instruction.{Instruction}
use Rattle.spv_blocks.specs.Blocks.{Code}
use Rattle.spv_blocks.specs.Cutting.{blocks_of, function_at, function_from, function_insts, starts}
use Rattle.spv_blocks.proofs.FoundLaws.{are_counted}
use Rattle.spv_walk.proofs.Found.{no_element}
use Rattle.spv_normal.specs.Lines.{without_marks}
use Rattle.spv_tree.specs.declared.body.Body.{Body}
use Rattle.spv_tree.specs.Tree.{body_of}
use Rattle.spv_spelling.specs.Clean.{IsClean, no_pointers}
use Rattle.spv_spelling.proofs.Settled.{no_elements}
use Rattle.spv_respelling.proofs.Admitted as admitted
use Rattle.spv_respelling.proofs.Whole.{respells_listing}
use Rattle.spv_texts.proofs.Marks.{blocks_without_marks}
use Rattle.spv_exits.specs.Exits.{AreNestedReturns, AreNestedTogether, crowded_in_all, functions_of, nested_by}
use Rattle.spv_norm_structured.specs.Laws.{IsNormAgain, IsReadAsTrees}
use Rattle.spv_norm_structured.proofs.Again.{IsAgain, again_at, has_functions, place_below}
use Rattle.spv_norm_structured.proofs.Pieces.{one_at}
use Rattle.spv_norm_exits.specs.Laws.{NormIsUncrowded, NormNestsAlike, ReadHasNested}
use Rattle.spv_norm_exits.proofs.Crowding.{AreNoFuller, in_pairs, nested_together, none_crowded_in_all, some_together}
use Rattle.spv_norm_exits.proofs.SameCounts.{IsNoFuller, no_fuller}
use Rattle.spv_norm_exits.proofs.Tables.{exact, table}

-- ---- the functions of a module by their numbers

mapped_length : {A B : Type 0} (g : A → B) (xs : List A) → length (map g xs) ≡ length xs
mapped_length g [] = refl
mapped_length g (x ∷ xs) = ap suc (mapped_length g xs)

functions_count : (insts : List Instruction) → length (functions_of insts) ≡ count_by is_function insts
functions_count insts = mapped_length (λ first. blocks_of (function_at first insts)) (starts insts) ∙ are_counted insts

mapped_at : (insts : List Instruction) (firsts : List ℕ) (k : ℕ) (f : Code) → slice_get (map (λ first. blocks_of (function_at first insts)) firsts) k ≡ Some f
    → blocks_of (function_from insts (slice_get firsts k)) ≡ f
mapped_at insts [] k f e = absurd (cc e)
mapped_at insts (x ∷ xs) zero f e = cc e
mapped_at insts (x ∷ xs) (suc k) f e = mapped_at insts xs k f e

function_there : (insts : List Instruction) (k : ℕ) (f : Code) → slice_get (functions_of insts) k ≡ Some f → blocks_of (function_insts k insts) ≡ f
function_there insts k f e = mapped_at insts (starts insts) k f e

-- ---- a module that is read

module _ (insts : List Instruction) (bodies : List Body) (h : IsReadAsTrees insts bodies) where
  nested_at : (k : ℕ) → k < length bodies → (n : ℕ) × AreNestedReturns (blocks_of (function_insts k insts)) n
  nested_at k below =
      let b = one_at bodies k below in
      let clean : IsClean no_pointers (blocks_of (function_insts k insts)) =
      subst (IsClean no_pointers) (blocks_without_marks (function_insts k insts)) (h.each k b.0 b.1).parsed.spelled.admitted.clean in
      let f : Code = blocks_of (function_insts k insts) in
      (nested_by (table f clean) f, record { place = table f clean; walk = exact f clean; same = refl })

  has_nested : (n : ℕ) × AreNestedTogether (functions_of insts) n
  has_nested =
      some_together (functions_of insts) (λ k f e.
      let below = subst (λ m. k < m) (functions_count insts ∙ sym h.count) (place_below (functions_of insts) k f e) in
      subst (λ z. (n : ℕ) × AreNestedReturns z n) (function_there insts k f e) (nested_at k below))

pub read_has_nested : ReadHasNested
read_has_nested insts bodies h = has_nested insts bodies h

-- ---- and its normal form

module _ (insts again : List Instruction) (bodies : List Body) (h : IsReadAsTrees insts bodies) (n : IsNormAgain insts again) where
  at_number : (k : ℕ) → IsAgain insts bodies k (function_insts k again) → IsNoFuller (blocks_of (function_insts k insts)) (blocks_of (function_insts k again))
  at_number k a =
      let s = a.tree.parsed.spelled in
      let old : List Instruction = without_marks (function_insts k insts) in
      let new : List Instruction = function_insts k again in
      subst (λ z. IsNoFuller z (blocks_of new)) (blocks_without_marks (function_insts k insts))
      (no_fuller old new s.stays (body_of a.body) s.admitted s.spells
      (admitted.listing_is_admitted old s.stays (body_of a.body) s.admitted s.spells new a.lists a.instructions)
      (respells_listing old s.stays (body_of a.body) s.admitted s.spells new a.lists))

  are_no_fuller : AreNoFuller (functions_of insts) (functions_of again)
  are_no_fuller =
      in_pairs (functions_of insts) (functions_of again)
      (functions_count insts ∙ sym (has_functions insts again bodies h n).count ∙ sym (functions_count again))
      (λ k f g e i.
      let below = subst (λ m. k < m) (functions_count again) (place_below (functions_of again) k g i) in
      subst (λ z. IsNoFuller f z) (function_there again k g i)
      (subst (λ z. IsNoFuller z (blocks_of (function_insts k again))) (function_there insts k f e)
      (at_number k (again_at insts again bodies h n k below))))

  nests_alike : (nested : ℕ) → AreNestedTogether (functions_of again) nested → AreNestedTogether (functions_of insts) nested
  nests_alike nested together = nested_together (functions_of insts) (functions_of again) nested are_no_fuller together

pub norm_nests_alike : NormNestsAlike
norm_nests_alike insts again bodies h n nested together = nests_alike insts again bodies h n nested together

pub norm_is_uncrowded : NormIsUncrowded
norm_is_uncrowded insts again bodies h n uncrowded nested rule at together holds =
    let before = nests_alike insts again bodies h n nested together in
    let none = no_elements (crowded_in_all (functions_of insts) nested) (λ r c. uncrowded nested r.rule r.at before c) in
    let after = none_crowded_in_all (functions_of insts) (functions_of again) nested (are_no_fuller insts again bodies h n) none in
    no_element (record { rule = rule; at = at }) (subst (λ rs. Contains rs (record { rule = rule; at = at })) after holds)
