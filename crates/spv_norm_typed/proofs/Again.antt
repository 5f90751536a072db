-- The normal form of a module breaks no rule on bodies, where the module breaks none.
use Rattle.std.proofs.Common.{◌≡◌, ℕ, Bool, true, false, cond, ◌==◌, List, [], ◌∷◌, ◌++◌, map, None, refl, sym, subst, ◌∙◌}
use Rattle.std.specs.Prelude.{slice_index}
use Rattle.std.specs.List.{AllByRecursion, flat_map}
use Rattle.spv_opcodes.specs.declared.op.TheConstants as op
use Rattle.spv_module.specs.Code.{is_function}
use Rattle.spv_module.specs.Instruction.{Instruction, IsInstruction, opcode, roles}
use Rattle.spv_declarations.specs.Laws.{IsUnbroken}
use Rattle.spv_blocks.specs.Cutting.{blocks_of, function_insts}
use Rattle.spv_bodies.specs.Listing.{instruction}
use Rattle.spv_normal.specs.Lines.{before_labels, line, without_marks}
use Rattle.spv_normal.specs.Normal.{block_lines}
use Rattle.spv_normal.specs.Order.{ordered, with_labels}
use Rattle.spv_normal_trees.specs.Laws.{stays_by}
use Rattle.spv_normal_trees.proofs.Listed.{stands_once}
use Rattle.spv_sources.proofs.Sources.{first_is_label}
use Rattle.spv_tree.specs.declared.body.Body.{Body}
use Rattle.spv_tree.specs.Sound.{opcode_in}
use Rattle.spv_tree.specs.Tree.{body_of}
use Rattle.spv_norm.specs.Norm.{outside}
use Rattle.spv_norm_means.proofs.InOrder.{joined}
use Rattle.spv_norm_structured.specs.Laws.{IsNormAgain, IsReadAsTrees}
use Rattle.spv_norm_structured.proofs.Again.{IsAgain, halves, known, outside_again, parted, pieces, whole}
use Rattle.spv_norm_structured.proofs.Pieces.{BeginsNone, all_at}
use Rattle.spv_norm_declared.proofs.FunctionLines.{lines_made}
use Rattle.spv_usage.specs.declared.stages.Stage.TheVariants.{Opening}
use Rattle.spv_alike.specs.Alike.{AreAlike}
use Rattle.spv_alike.specs.Laws.{RulesStay}
use Rattle.spv_norm_typed.specs.Laws.{FitAll, NormIsTyped}
use Rattle.spv_norm_typed.proofs.Fits.{Fits}
use Rattle.spv_norm_typed.proofs.Made.{IsSource, LineFits, lines_fit}
use Rattle.spv_norm_typed.proofs.Placed.{Placed, lines_placed}
use Rattle.spv_norm_typed.proofs.Texts.{has_parts}
use Rattle.spv_norm_typed.proofs.Walked.{Walked, Where, fit_of_walked, function_stands, start, walked_of_fit, walked_plain}
use Rattle.spv_norm_typed.proofs.Functions.{all_back, front_walked, joined_walked, lines_ready, outside_walked, placed_walked, placed_words, sources}

outside_begins_none : (is : List Instruction) → AllByRecursion BeginsNone (outside is)
outside_begins_none [] = tt
outside_begins_none (i ∷ is) = by (is_function i) refl (outside_begins_none is)
  where
    by : (b : Bool) → is_function i ≡ b → AllByRecursion BeginsNone (outside is) → AllByRecursion BeginsNone (cond b [] (i ∷ outside is))
    by true e more = tt
    by false e more = (e, more)

module _ (rules_stay : RulesStay) (insts again : List Instruction) (bodies : List Body) (h : IsReadAsTrees insts bodies) (n : IsNormAgain insts again)
    (unbroken : IsUnbroken insts) (alike : AreAlike insts again) (fit : FitAll insts) where
  text_walked : (k : ℕ) (t : List Instruction) → IsAgain insts bodies k t → (w : Where) → Walked again w t
  text_walked k t a w =
      let s = a.tree.parsed.spelled in
      let is : List Instruction = without_marks (function_insts k insts) in
      let text = s.admitted.text in
      let stands = function_stands insts (walked_of_fit insts fit) k in
      let parts = has_parts insts is text stands.at (walked_plain insts stands.at (function_insts k insts) stands.walked) in
      let f = blocks_of is in
      let blocks = flat_map (block_lines is f (stays_by f)) (with_labels f None (ordered f)) ++ instruction op.FUNCTION_END [] ∷ [] in
      let p = parted t (map line (before_labels is)) blocks (a.lists ∙ a.tree.normal) in
      let type = slice_index text.function.words 1 in
      let made =
      lines_made is s.stays (body_of a.body) s.admitted s.spells (IsSource again type) (LineFits again type)
      (sources rules_stay insts again unbroken alike type is parts.each (all_at (λ i. IsInstruction i.words (roles i)) is s.admitted.each))
      (lines_fit again type (stays_by f)) in
      let placed =
      lines_placed is (text.blocks ++ text.last ∷ []) (stays_by f) parts.begins (stands_once is s.stays (body_of a.body) s.admitted s.spells)
      (first_is_label is text) in
      let ready =
      lines_ready again type p.back
      (subst (AllByRecursion (LineFits again type)) (sym p.back_words) (all_back (LineFits again type) (map line (before_labels is)) blocks made)) in
      subst (Walked again w) (sym p.same)
      (front_walked rules_stay insts again unbroken alike is text parts p.front p.back (p.front_words ∙ parts.front)
      (λ g same j. placed_walked again g j p.back (placed_words p.back (subst (Placed opcode_in) (sym p.back_words) placed))
      (subst (λ ws. AllByRecursion (λ i. (opcode i == op.FUNCTION_PARAMETER) ≡ false → Fits again Opening (slice_index ws 1) None i) p.back) (sym same)
      ready)) w)

  pub again_fit : FitAll again
  again_fit =
      fit_of_walked again
      (subst (Walked again start) (sym (whole insts again bodies h n))
      (outside_walked rules_stay insts again unbroken alike (halves insts again bodies h n).front (joined (pieces insts again bodies h n).texts)
      (subst (AllByRecursion BeginsNone) (outside_again insts again bodies h n) (outside_begins_none again))
      (joined_walked rules_stay insts again unbroken alike (pieces insts again bodies h n).texts
      (λ k t e w. text_walked k t (known insts again bodies h n k t e) w))
      start refl))

pub norm_is_typed : RulesStay → NormIsTyped
norm_is_typed rules_stay insts again bodies h n unrefused alike fit =
    again_fit rules_stay insts again bodies h n (record { whole = h.instructions; unrefused = unrefused }) alike fit
