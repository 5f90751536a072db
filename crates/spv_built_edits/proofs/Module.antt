-- A module of which the functions are edited: each has the labels and branches that it had, and as many nested returns, so it is no more crowded.
use Rattle.std.proofs.Common.{◌≡◌, ℕ, zero, suc, ◌<◌, ◌==◌, ◌||◌, Bool, true, false, cond, List, [], ◌∷◌, length, Some, refl, sym, ap, ◌∙◌, subst, arith}
use Rattle.std.specs.Prelude.{count_by, map}
use Rattle.std.specs.List.{AllByRecursion, Contains, slice_get}
use Rattle.std.proofs.lemmas.List.{length-map}
use Rattle.spv_module.specs.Code.{is_function}
use Rattle.spv_module.specs.Instruction.{Instruction}
use Rattle.spv_blocks.specs.Blocks.{Block, Code, block, is_label, is_some_block}
use Rattle.spv_blocks.specs.Cutting.{blocks_of, function_at, function_from, function_insts, starts}
use Rattle.spv_blocks.proofs.FoundLaws.{are_counted}
use Rattle.spv_walk.proofs.Found.{no_element}
use Rattle.spv_bodies.specs.Bodies.{Function}
use Rattle.spv_bodies.specs.Listing.{listed}
use Rattle.spv_functions.specs.Functions.{is_pointer}
use Rattle.spv_spelling.proofs.Settled.{no_elements}
use Rattle.spv_spelling.specs.Whole.{AreInstructions}
use Rattle.spv_exits.specs.Exits.{crowded_in_all, functions_of}
use Rattle.spv_editing.specs.Editing.{Edit, KeepsSteps, edited_function}
use Rattle.spv_structured_edits.specs.Exits.{HaveSameExits}
use Rattle.spv_structured_edits.proofs.Exits.{exits_stay}
use Rattle.spv_norm_structured.proofs.Again.{place_below}
use Rattle.spv_norm_exits.specs.Laws.{IsUncrowded}
use Rattle.spv_norm_exits.proofs.Crowding.{AreNoFuller, in_pairs, nested_together, none_crowded_in_all}
use Rattle.spv_norm_exits.proofs.SameCounts.{IsNoFuller}
use Rattle.spv_built.specs.Built.{AreBuilt, FunctionIsBuilt}
use Rattle.spv_built.proofs.Functions.{AreListed, are_listed, count_is, tree_at}
use Rattle.spv_built_edits.specs.Edits.{AreEdited, StandsRound}
use Rattle.spv_built_edits.specs.Laws.{ModuleStays}

-- ---- the functions of a module by their numbers

functions_count : (insts : List Instruction) → length (functions_of insts) ≡ count_by is_function insts
functions_count insts = length-map (starts insts) (λ first. blocks_of (function_at first insts)) ∙ are_counted insts

mapped_at : (insts : List Instruction) (firsts : List ℕ) (k : ℕ) (f : Code) → slice_get (map (λ first. blocks_of (function_at first insts)) firsts) k ≡ Some f
    → blocks_of (function_from insts (slice_get firsts k)) ≡ f
mapped_at insts [] k f e = absurd (cc e)
mapped_at insts (x ∷ xs) zero f e = cc e
mapped_at insts (x ∷ xs) (suc k) f e = mapped_at insts xs k f e

function_there : (insts : List Instruction) (k : ℕ) (f : Code) → slice_get (functions_of insts) k ≡ Some f → blocks_of (function_insts k insts) ≡ f
function_there insts k f e = mapped_at insts (starts insts) k f e

-- ---- functions in pairs

-- the k-th of the ones is the k-th of the others, edited
edited_at : (fs gs : List Function) (k : ℕ) (f g : Function) → AreEdited fs gs → slice_get fs k ≡ Some f → slice_get gs k ≡ Some g
    → (e : Edit) × KeepsSteps e × (g ≡ edited_function e f)
edited_at [] gs k f g h at there = absurd (cc at)
edited_at (x ∷ fs) [] k f g h at there = absurd (cc there)
edited_at (x ∷ fs) (y ∷ gs) zero f g h at there =
    let first : x ≡ f = cc at in
    let second : y ≡ g = cc there in
    (h.0.0, h.0.1, sym second ∙ h.0.2 ∙ ap (edited_function h.0.0) first)
edited_at (x ∷ fs) (y ∷ gs) (suc k) f g h at there = edited_at fs gs k f g h.1 at there

as_many : (fs gs : List Function) → AreEdited fs gs → length gs ≡ length fs
as_many [] [] h = refl
as_many [] (g ∷ gs) h = absurd h
as_many (f ∷ fs) [] h = absurd h
as_many (f ∷ fs) (g ∷ gs) h = ap suc (as_many fs gs h.1)

-- ---- one function

label_in : (b : Block) (bs : Code) (l : ℕ) → is_label (b ∷ bs) l ≡ (b.label == l || is_label bs l)
label_in b bs l = by (b.label == l)
  where
    by : (c : Bool) → is_some_block (cond c (Some b) (block bs l)) ≡ (c || is_label bs l)
    by true = refl
    by false = refl

same_labels : (bs ds : Code) → map (λ b. b.label) ds ≡ map (λ b. b.label) bs → (l : ℕ) → is_label ds l ≡ is_label bs l
same_labels [] [] e l = refl
same_labels [] (d ∷ ds) e l = absurd (cc e)
same_labels (b ∷ bs) [] e l = absurd (cc e)
same_labels (b ∷ bs) (d ∷ ds) e l =
    let here : d.label ≡ b.label = cc e in
    label_in d ds l ∙ (λ i. here i == l || same_labels bs ds (cc e) l i) ∙ sym (label_in b bs l)

no_fuller : (old new : Code) → HaveSameExits old new → IsNoFuller old new
no_fuller old new same = record {
  nested = λ n h. (same.nested n).0 h;
  label = λ l h. sym (same_labels old new same.labels l) ∙ h;
  branches = λ l h. let equal = same.branches l in omega (arith, equal);
}

-- ---- the module

module _ (before after : List Instruction) (fs gs : List Function) (formed : AreInstructions before) (formed_after : AreInstructions after)
    (b : AreBuilt before fs) (edits : AreEdited fs gs) (round : StandsRound after gs) (built : AllByRecursion (FunctionIsBuilt after) gs) where
  abbrev old : AreListed before fs
  old = are_listed before fs b

  abbrev new : AreListed after gs
  new = record { lines = round.lines; functions = built }

  same_count : count_by is_function after ≡ count_by is_function before
  same_count = count_is after gs new formed_after ∙ as_many fs gs edits ∙ sym (count_is before fs old formed)

  fuller_at : (k : ℕ) → k < count_by is_function before → IsNoFuller (blocks_of (function_insts k before)) (blocks_of (function_insts k after))
  fuller_at k below =
      let o = tree_at before fs old formed k below in
      let n = tree_at after gs new formed_after k (subst (λ m. k < m) (sym same_count) below) in
      let e = edited_at fs gs k o.function n.function edits o.at n.at in
      no_fuller (blocks_of (function_insts k before)) (blocks_of (function_insts k after))
      (exits_stay e.0 (is_pointer before) o.function (function_insts k before) (function_insts k after) e.1 o.built.sound o.built.opens o.built.structured o.lists
      (n.lists ∙ ap listed e.2))

  none_fuller : AreNoFuller (functions_of before) (functions_of after)
  none_fuller =
      in_pairs (functions_of before) (functions_of after) (functions_count before ∙ sym same_count ∙ sym (functions_count after))
      (λ k f g at there.
      let below = subst (λ m. k < m) (functions_count before) (place_below (functions_of before) k f at) in
      subst (λ z. IsNoFuller f z) (function_there after k g there)
      (subst (λ z. IsNoFuller z (blocks_of (function_insts k after))) (function_there before k f at) (fuller_at k below)))

  uncrowded : IsUncrowded after
  uncrowded nested rule at together holds =
      let together_before = nested_together (functions_of before) (functions_of after) nested none_fuller together in
      let none = no_elements (crowded_in_all (functions_of before) nested) (λ r c. b.uncrowded nested r.rule r.at together_before c) in
      let none_after = none_crowded_in_all (functions_of before) (functions_of after) nested none_fuller none in
      no_element (record { rule = rule; at = at }) (subst (λ rs. Contains rs (record { rule = rule; at = at })) none_after holds)

pub module_stays : ModuleStays
module_stays before after fs gs formed formed_after b edits round built = record {
  marks = round.marks;
  lines = round.lines;
  laid_out = round.laid_out;
  declared = round.declared;
  functions = built;
  entered = round.entered;
  uncrowded = uncrowded before after fs gs formed formed_after b edits round built;
}
