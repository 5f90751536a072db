-- A module that is built is its own normal form.
use Rattle.std.proofs.Common.{◌≡◌, ℕ, suc, ◌+◌, ◌<◌, Bool, true, false, not, ◌==◌, ◌&&◌, ◌||◌, List, [], ◌∷◌, ◌++◌, length, slice_get, Some, refl, sym, ap, ap₂, ◌∙◌, subst, arith}
use Rattle.std.specs.List.{AllByRecursion, flat_map, list_any, range_with_len}
use Rattle.spv_opcodes.specs.declared.op.TheConstants as op
use Rattle.spv_module.specs.Code.{is_line}
use Rattle.spv_module.specs.Instruction.{Instruction, opcode}
use Rattle.spv_ids.specs.Ids.{kind, used_ids}
use Rattle.spv_typing.specs.Kinds.{is_one_of}
use Rattle.spv_blocks.specs.Cutting.{function_insts}
use Rattle.spv_bodies.specs.Bodies.{Function}
use Rattle.spv_bodies.specs.Listing.{listed}
use Rattle.spv_tree.specs.Tree.{words_of}
use Rattle.spv_normal.specs.Normal.{normal_function}
use Rattle.spv_spelling.specs.Whole.{AreInstructions}
use Rattle.spv_texts.proofs.Functions.{fits_in_module}
use Rattle.spv_norm.specs.Laws.{AreNormal, inside}
use Rattle.spv_norm.specs.Norm.{function_lines, is_gone, is_label_line, namings, norm_lines, outside, stays_outside}
use Rattle.spv_norm.proofs.NormalModules as modules
use Rattle.spv_norm_structured.proofs.Again.{IsFormed, place_below}
use Rattle.spv_norm_structured.proofs.Labels.{label_inside, outside_labels}
use Rattle.spv_norm_structured.proofs.Pieces.{all_at, functions_joined}
use Rattle.spv_built.specs.Built.{AreBuilt}
use Rattle.spv_built.proofs.Functions.{AreListed, IsOfTree, are_listed, count_is, functions_are, halves, outside_is, pieces, tree_at, whole}
use Rattle.spv_built.proofs.Trees as trees

-- ---- the lines of the functions

-- those of functions whose normal forms are listings; by induction on the trees
lines_at : (F : ℕ → List Instruction) (a : ℕ) (fs : List Function) → ((j : ℕ) (f : Function) → slice_get fs j ≡ Some f → normal_function (F (a + j)) ≡ listed f)
    → flat_map (λ k. normal_function (F k)) (range_with_len a (length fs)) ≡ flat_map listed fs
lines_at F a [] h = refl
lines_at F a (f ∷ fs) h =
    ap₂ (λ x y. x ++ y) (ap (λ n. normal_function (F n)) (none_more a) ∙ h 0 f refl)
    (lines_at F (a + 1) fs (λ j g e. ap (λ n. normal_function (F n)) (one_later a j) ∙ h (suc j) g e))
  where
    none_more : (n : ℕ) → n ≡ n + 0
    none_more n = omega arith

    one_later : (n k : ℕ) → (n + 1) + k ≡ n + suc k
    one_later n k = omega arith

-- ---- what stays outside functions

not_gone : (a b : Bool) → (a ≡ true → b ≡ true) → (a && not b) ≡ false
not_gone true b h = ap not (h refl)
not_gone false b h = refl

none_of : (p : ℕ → Bool) (ids : List ℕ) → ((id : ℕ) → p id ≡ false) → list_any p ids ≡ false
none_of p [] h = refl
none_of p (id ∷ ids) h = ap (λ (b : Bool). b || list_any p ids) (h id) ∙ none_of p ids h

stays : (insts : List Instruction) → ((id : ℕ) → is_gone insts id ≡ false) → (is : List Instruction) → AllByRecursion (λ i. is_line i ≡ false) is
    → AllByRecursion (λ i. stays_outside insts i ≡ true) is
stays insts none [] h = tt
stays insts none (i ∷ is) h = (one, stays insts none is h.1) where
  nothing : (b : Bool) → not (b && false) ≡ true
  nothing true = refl
  nothing false = refl

  one : stays_outside insts i ≡ true
  one =
      ap (λ (b : Bool). not b && not (is_one_of namings (opcode i) && list_any (is_gone insts) (used_ids i))) h.0
      ∙ ap (λ (b : Bool). not (is_one_of namings (opcode i) && b)) (none_of (is_gone insts) (used_ids i) none)
      ∙ nothing (is_one_of namings (opcode i))

-- ---- the module

module _ (insts : List Instruction) (fs : List Function) (b : AreBuilt insts fs) (formed : AreInstructions insts) where
  listing : AreListed insts fs
  listing = are_listed insts fs b

  listed_again : (k : ℕ) (f : Function) → slice_get fs k ≡ Some f → (o : IsOfTree insts fs k (function_insts k insts))
      → normal_function (function_insts k insts) ≡ listed f
  listed_again k f at o =
      let both : Some o.function ≡ Some f = sym o.at ∙ at in
      let same : o.function ≡ f = cc both in
      trees.normal_stays insts (function_insts k insts) o.function o.built o.lists o.formed ∙ o.lists ∙ ap listed same

  at_place : (k : ℕ) (f : Function) → slice_get fs k ≡ Some f → normal_function (function_insts k insts) ≡ listed f
  at_place k f at =
      listed_again k f at (tree_at insts fs listing formed k (subst (λ m. k < m) (sym (count_is insts fs listing formed)) (place_below fs k f at)))

  lines_are : function_lines insts ≡ flat_map listed fs
  lines_are =
      ap (λ m. flat_map (λ k. normal_function (function_insts k insts)) (range_with_len 0 m)) (count_is insts fs listing formed)
      ∙ lines_at (λ k. function_insts k insts) 0 fs (λ j f e. ap (λ m. normal_function (function_insts m insts)) (none_more j) ∙ at_place j f e)
    where
      none_more : (m : ℕ) → 0 + m ≡ m
      none_more m = omega arith

  none_went : (id : ℕ) → is_gone insts id ≡ false
  none_went id =
      not_gone (kind insts id == op.LABEL) (list_any (is_label_line id) (function_lines insts)) (λ e.
      ap (list_any (is_label_line id)) lines_are
      ∙ label_inside insts (outside insts) (flat_map listed fs) id (all_at IsFormed insts formed) b.lines
      (outside_labels insts (fits_in_module 0 insts (b.laid_out 0))) e)

  pub are_normal : AreNormal insts
  are_normal = record {
    functions = λ k below.
        let o = tree_at insts fs listing formed k below in trees.normal_stays insts (function_insts k insts) o.function o.built o.lists o.formed;
    stays = stays insts none_went (outside insts) b.marks;
    whole =
        ap (λ z. z ++ inside insts) (outside_is insts fs listing formed)
        ∙ ap (λ z. (halves insts fs listing formed).front ++ z) (functions_joined insts (pieces insts fs listing formed).texts (functions_are insts fs listing formed))
        ∙ sym (whole insts fs listing formed);
  }

  pub normal_again : norm_lines insts ≡ words_of insts
  normal_again = modules.normal_stays insts are_normal
