-- A typed tree breaks no rule on bodies where it stands as it is listed.
use Rattle.std.proofs.Common.{ℕ, ◌+◌, ◌<◌, List, [], ◌∷◌, ◌++◌, length, take, sym, subst, ◌∙◌}
use Rattle.std.specs.Prelude.{slice_index}
use Rattle.std.specs.List.{fold}
use Rattle.std.proofs.lemmas.Option.{slice_get_within}
use Rattle.spv_module.specs.Instruction.{Instruction}
use Rattle.spv_usage.specs.declared.stages.Stage.TheVariants.{Opening}
use Rattle.spv_bodies.specs.Bodies.{Function}
use Rattle.spv_bodies.specs.Listing.{instruction, lines}
use Rattle.spv_opcodes.specs.declared.op.TheConstants as op
use Rattle.spv_tree.specs.Branches.{branches_in}
use Rattle.spv_tree.specs.Sound.{opcode_in}
use Rattle.spv_sound_trees.proofs.Sound.{spelled_is_sound}
use Rattle.spv_spelling.specs.Clean.{no_pointers}
use Rattle.spv_clean_trees.proofs.Structures.{opens, spelled_is_structured}
use Rattle.spv_typed_trees.specs.Laws.{AreListed, SpelledAreListed, TypedIsUnbroken}
use Rattle.spv_typed_trees.specs.Typed.{IsTyped}
use Rattle.spv_typed_trees.proofs.Functions.{behind_before, behind_front, function_walked}
use Rattle.spv_typed_trees.proofs.Lines.{LineFits, end_of_function_still}
use Rattle.spv_typed_trees.proofs.Sent.{all_both, given}
use Rattle.spv_typed_trees.proofs.Shape.{opens_both}
use Rattle.spv_typed_trees.proofs.Trees.{OpeningLines, opening}
use Rattle.spv_typed_trees.proofs.Walked.{FitsAt, Walked, Where, at_walked, behind, none_here, start}

module _ (before again after : List Instruction) (f : Function) (listed : AreListed again f) (typed : IsTyped (before ++ (again ++ after)) f) where
  abbrev m : List Instruction
  m = before ++ (again ++ after)

  abbrev type : ℕ
  type = slice_index f.function 1

  abbrev body : List (List ℕ)
  body = lines (branches_in f) [] f.body

  abbrev last : List (List ℕ)
  last = instruction op.FUNCTION_END [] ∷ []

  lines_open : OpeningLines m type (branches_in f) (body ++ last)
  lines_open =
      let o = opening m type (branches_in f) f.body [] listed.sound.formed typed.body (given m type Opening f listed.sound typed.body) in
      let e = end_of_function_still m type in
      record {
        opens = opens_both opcode_in body last o.opens (e.still, tt);
        fit = all_both (LineFits m type) body last o.fit (e.fits, tt);
      }

  walked : (w : Where) → Walked m w again
  walked w =
      function_walked m (branches_in f) w f.function f.parameters f.label
      (body ++ last) again listed.opens.function typed.function typed.result typed.parameters
      listed.opens.parameters lines_open listed.lists

pub typed_is_unbroken : TypedIsUnbroken
typed_is_unbroken before again after f listed typed k i e =
    let m : List Instruction = before ++ (again ++ after) in
    let w : Where = fold behind start before in
    let less : k < length again = slice_get_within again k i e in
    let fits : FitsAt m (fold behind w (take k again)) i = at_walked m w again (walked before again after f listed typed w) k i e in
    none_here m (length before + k) i
    (subst (λ z. FitsAt m z i) (sym (behind_before start before (again ++ after) k ∙ behind_front w again after k less)) fits)

pub spelled_are_listed : SpelledAreListed
spelled_are_listed texts again stays f admitted spells same = record {
  sound = spelled_is_sound texts stays f admitted spells;
  opens = opens texts stays f admitted spells;
  structured = spelled_is_structured no_pointers texts stays f admitted admitted.clean spells;
  lists = same;
}
