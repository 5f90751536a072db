-- The rules on layout look at opcodes alone, so they find nothing where lines are rewritten.
use Rattle.std.proofs.Common.{◌≡◌, ℕ, Bool, true, false, max, cond, not, nat_lt, ◌==◌, ◌&&◌, ◌||◌, List, [], ◌∷◌, ◌++◌, refl, sym, ap, subst, ◌∙◌}
use Rattle.spv_opcodes.specs.declared.op.TheConstants as op
use Rattle.spv_grammar.specs.Table.{row_of}
use Rattle.spv_module.specs.declared.layout.Layout.{Layout}
use Rattle.spv_module.specs.declared.layout.Place.{Place}
use Rattle.spv_module.specs.declared.layout.Place.TheVariants.{Outside, Head, Between, Inside}
use Rattle.spv_module.specs.Code.{is_line, row_section}
use Rattle.spv_module.specs.First.{first, here, unless}
use Rattle.spv_module.specs.Instruction.{Instruction, opcode}
use Rattle.spv_module.specs.Layout.{end_rule, is_head, is_inside, is_outside, layout_from, missing_rules, without_lines}
use Rattle.spv_module.specs.LayoutSteps.{kept_behind, kept_rules, nothing_kept}
use Rattle.spv_tree.specs.Tree.{words_of}
use Rattle.spv_norm_declared.proofs.Laying.{HasAll, Lays, kept_after, laid_out, lays_whole, without_lines_again}
use Rattle.spv_norm_declared.proofs.Walks.{inst_of}
use Rattle.spv_rewritten.specs.Rewritten.{EachAs, IsRewrittenAs}
use Rattle.spv_rewritten.proofs.Common.{same_opcode}
use Rattle.spv_rewritten.proofs.Pairs.{each_also}
use Rattle.spv_built_edits.specs.RewrittenLaws.{RewrittenIsLaidOut}

-- ---- by opcodes

abbrev section_by : (begun : Bool) (o : ℕ) → ℕ
section_by begun o = cond (begun && (o == op.VARIABLE || o == op.UNDEF)) 11 (row_section (row_of o))

abbrev fits_by : (place : Place) (section o : ℕ) → Bool
fits_by place section o =
    cond (o == op.FUNCTION) (is_outside place)
    (cond (o == op.FUNCTION_PARAMETER) (is_head place)
    (cond (o == op.FUNCTION_END) (not (is_outside place) && not (is_head place))
    (cond (o == op.LABEL) (not (is_outside place))
    (cond (section == 11) (is_inside place)
    true))))

abbrev rules_by : Layout → (o : ℕ) → List ℕ
rules_by kept o =
    unless (not (nat_lt (section_by kept.begun o) kept.section)) 201
    ++ (unless (not (o == op.MEMORY_MODEL && kept.has_memory_model)) 203 ++ unless (fits_by kept.place (section_by kept.begun o) o) 205)

abbrev place_by : (place : Place) (o : ℕ) → Place
place_by place o =
    cond (o == op.FUNCTION) Head
    (cond (o == op.FUNCTION_END) Outside
    (cond (o == op.LABEL) Inside
    (cond (o == op.BRANCH || o == op.BRANCH_CONDITIONAL || o == op.SWITCH || o == op.RETURN || o == op.RETURN_VALUE || o == op.UNREACHABLE) Between
    place)))

abbrev behind_by : Layout → (o : ℕ) → Layout
behind_by kept o = record {
  begun = kept.begun || o == op.FUNCTION;
  section = max kept.section (section_by kept.begun o);
  has_capability = kept.has_capability || o == op.CAPABILITY;
  has_memory_model = kept.has_memory_model || o == op.MEMORY_MODEL;
  has_entry_point = kept.has_entry_point || o == op.ENTRY_POINT;
  place = place_by kept.place o;
}

same_rules : (kept : Layout) (x y : Instruction) → opcode y ≡ opcode x → kept_rules kept y ≡ kept_rules kept x
same_rules kept x y e = ap (rules_by kept) e

same_behind : (kept : Layout) (x y : Instruction) → opcode y ≡ opcode x → kept_behind kept y ≡ kept_behind kept x
same_behind kept x y e = ap (behind_by kept) e

-- ---- pair by pair

abbrev SameKind : Instruction → Instruction → Type 0
SameKind i j = opcode j ≡ opcode i

same_line : (i j : Instruction) → SameKind i j → is_line j ≡ is_line i
same_line i j e = ap (λ (o : ℕ). o == op.LINE || o == op.NO_LINE) e

plain_pairs : (is js : List Instruction) → EachAs SameKind is js → EachAs SameKind (without_lines is) (without_lines js)
plain_pairs [] [] h = tt
plain_pairs [] (j ∷ js) h = absurd h
plain_pairs (i ∷ is) [] h = absurd h
plain_pairs (i ∷ is) (j ∷ js) h =
    subst (λ (b : Bool). EachAs SameKind (without_lines (i ∷ is)) (cond (not b) (j ∷ without_lines js) (without_lines js))) (sym (same_line i j h.0))
    (by (is_line i) (plain_pairs is js h.1))
  where
    by : (b : Bool) → EachAs SameKind (without_lines is) (without_lines js)
        → EachAs SameKind (cond (not b) (i ∷ without_lines is) (without_lines is)) (cond (not b) (j ∷ without_lines js) (without_lines js))
    by true more = more
    by false more = (h.0, more)

-- what is kept of each is the same
lays_again : (is js : List Instruction) → EachAs SameKind is js → (kept : Layout) → Lays kept (words_of is)
    → Lays kept (words_of js) × (kept_after kept (words_of js) ≡ kept_after kept (words_of is))
lays_again [] [] h kept l = (tt, refl)
lays_again [] (j ∷ js) h kept l = absurd h
lays_again (i ∷ is) [] h kept l = absurd h
lays_again (i ∷ is) (j ∷ js) h kept l =
    let x = inst_of i.words in
    let y = inst_of j.words in
    let behind = same_behind kept x y h.0 in
    let more = lays_again is js h.1 (kept_behind kept x) l.1 in (
      (same_rules kept x y h.0 ∙ l.0, subst (λ k. Lays k (words_of js)) (sym behind) more.0),
      ap (λ k. kept_after k (words_of js)) behind ∙ more.1,
    )

pub rewritten_is_laid_out : RewrittenIsLaidOut
rewritten_is_laid_out end end_again before after w h =
    let whole = lays_whole end before h in
    let pairs = each_also (IsRewrittenAs before) SameKind (λ i j r. same_opcode before i j r) before after w in
    let again = lays_again (without_lines before) (without_lines after) (plain_pairs before after pairs) nothing_kept whole.lays in
    ap (λ is. first (here 5 (missing_rules is) ++ (layout_from [] is ++ here end_again (end_rule is)))) (sym (without_lines_again after))
    ∙ laid_out end_again (without_lines after) (without_lines_again after) again.0 (subst HasAll (sym again.1) whole.all)
    (ap (λ (k : Layout). is_outside k.place) again.1 ∙ whole.out)
