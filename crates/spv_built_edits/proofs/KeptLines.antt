-- The rules on layout look at the words of instructions alone, and find nothing in what is left of a module whose shape is kept.
use Rattle.std.proofs.Common.{◌≡◌, ℕ, Bool, true, false, cond, not, ◌==◌, ◌||◌, List, [], ◌∷◌, ◌++◌, filter, None, refl, sym, ap, ap₂, subst, ◌∙◌, true≢false}
use Rattle.std.specs.List.{AllByRecursion}
use Rattle.std.proofs.lemmas.Bool.{or_parts}
use Rattle.spv_opcodes.specs.declared.op.TheConstants as op
use Rattle.spv_module.specs.declared.layout.Place.{Place}
use Rattle.spv_module.specs.declared.layout.Place.TheVariants.{Outside, Head, Between, Inside}
use Rattle.spv_module.specs.Code.{is_line}
use Rattle.spv_module.specs.First.{first, here}
use Rattle.spv_module.specs.Instruction.{Instruction, opcode}
use Rattle.spv_module.specs.Layout.{end_rule, group_2, is_outside, layout_from, missing_rules, without_lines}
use Rattle.spv_module.specs.LayoutSteps.{nothing_kept}
use Rattle.spv_typing.specs.Kinds.{is_one_of}
use Rattle.spv_tree.specs.Tree.{words_of}
use Rattle.spv_norm_declared.proofs.Laying.{DropsPlain, HasAll, IsPlain, Lays, kept_after, kept_is_laid_out, laid_out, lays_whole, without_lines_again}
use Rattle.spv_built_edits.specs.Thinned.{shaping_kinds}

-- ---- by words

lines_by_words : (xs ys : List Instruction) → words_of xs ≡ words_of ys → words_of (without_lines xs) ≡ words_of (without_lines ys)
lines_by_words [] [] e = refl
lines_by_words [] (y ∷ ys) e = absurd (cc e)
lines_by_words (x ∷ xs) [] e = absurd (cc e)
lines_by_words (x ∷ xs) (y ∷ ys) e =
    let here : x.words ≡ y.words = cc e in
    let later : words_of xs ≡ words_of ys = cc e in
    let mark : is_line x ≡ is_line y = ap (λ ws. is_line (record { offset = 0; words = ws })) here in
    ap (λ (b : Bool). words_of (cond (not b) (x ∷ without_lines xs) (without_lines xs))) mark ∙ by (is_line y) here (lines_by_words xs ys later)
  where
    by : (b : Bool) → x.words ≡ y.words → words_of (without_lines xs) ≡ words_of (without_lines ys)
        → words_of (cond (not b) (x ∷ without_lines xs) (without_lines xs)) ≡ words_of (cond (not b) (y ∷ without_lines ys) (without_lines ys))
    by true h more = more
    by false h more = ap₂ (λ (w : List ℕ) ws. w ∷ ws) h more

pub laid_out_by_words : (end end_again : ℕ) (insts again : List Instruction) → words_of again ≡ words_of insts → first (group_2 end insts) ≡ None
    → first (group_2 end_again again) ≡ None
laid_out_by_words end end_again insts again e h =
    let whole = lays_whole end insts h in
    let same : words_of (without_lines insts) ≡ words_of (without_lines again) = sym (lines_by_words again insts e) in
    ap (λ is. first (here 5 (missing_rules is) ++ (layout_from [] is ++ here end_again (end_rule is)))) (sym (without_lines_again again))
    ∙ laid_out end_again (without_lines again) (without_lines_again again) (subst (Lays nothing_kept) same whole.lays)
    (subst (λ ws. HasAll (kept_after nothing_kept ws)) same whole.all)
    (subst (λ ws. is_outside (kept_after nothing_kept ws).place ≡ true) same whole.out)

-- ---- the shape

-- what is no shape is plain
plain_by : (o : ℕ) → is_one_of shaping_kinds o ≡ false → IsPlain o
plain_by o h =
    let a = or_parts (o == op.CAPABILITY) _ h in
    let b = or_parts (o == op.MEMORY_MODEL) _ a.1 in
    let c = or_parts (o == op.ENTRY_POINT) _ b.1 in
    let d = or_parts (o == op.EXECUTION_MODE) _ c.1 in
    let e = or_parts (o == op.EXECUTION_MODE_ID) _ d.1 in
    let f = or_parts (o == op.FUNCTION) _ e.1 in
    let g = or_parts (o == op.FUNCTION_END) _ f.1 in
    let l = or_parts (o == op.LABEL) _ g.1 in
    let t = or_parts (o == op.BRANCH) _ l.1 in
    let u = or_parts (o == op.BRANCH_CONDITIONAL) _ t.1 in
    let v = or_parts (o == op.SWITCH) _ u.1 in
    let w = or_parts (o == op.RETURN) _ v.1 in
    let x = or_parts (o == op.RETURN_VALUE) _ w.1 in
    let y = or_parts (o == op.UNREACHABLE) _ x.1 in
    record {
      function = f.0;
      capability = a.0;
      model = b.0;
      entry = c.0;
      place = λ p.
          ap (λ (z : Bool). cond z Head (cond (o == op.FUNCTION_END) Outside (cond (o == op.LABEL) Inside (ended p)))) f.0
          ∙ ap (λ (z : Bool). cond z Outside (cond (o == op.LABEL) Inside (ended p))) g.0 ∙ ap (λ (z : Bool). cond z Inside (ended p)) l.0
          ∙ six (o == op.BRANCH) (o == op.BRANCH_CONDITIONAL) (o == op.SWITCH) (o == op.RETURN) (o == op.RETURN_VALUE) (o == op.UNREACHABLE) p t.0 u.0 v.0 w.0 x.0 y.0;
    }
  where
    ended : Place → Place
    ended p = cond (o == op.BRANCH || o == op.BRANCH_CONDITIONAL || o == op.SWITCH || o == op.RETURN || o == op.RETURN_VALUE || o == op.UNREACHABLE) Between p

    six : (a b c d e f : Bool) (p : Place) → a ≡ false → b ≡ false → c ≡ false → d ≡ false → e ≡ false → f ≡ false
        → cond (a || b || c || d || e || f) Between p ≡ p
    six false false false false false false p ha hb hc hd he hf = refl
    six true b c d e f p ha hb hc hd he hf = absurd (cc ha)
    six false true c d e f p ha hb hc hd he hf = absurd (cc hb)
    six false false true d e f p ha hb hc hd he hf = absurd (cc hc)
    six false false false true e f p ha hb hc hd he hf = absurd (cc hd)
    six false false false false true f p ha hb hc hd he hf = absurd (cc he)
    six false false false false false true p ha hb hc hd he hf = absurd (cc hf)

drops_plain : (keep : Instruction → Bool) (is : List Instruction) → AllByRecursion (λ i. is_one_of shaping_kinds (opcode i) ≡ true → keep i ≡ true) is
    → DropsPlain keep is
drops_plain keep [] h = tt
drops_plain keep (i ∷ is) h = (λ e m. plain_by (opcode i) (by (is_one_of shaping_kinds (opcode i)) refl e), drops_plain keep is h.1)
  where
    by : (b : Bool) → is_one_of shaping_kinds (opcode i) ≡ b → keep i ≡ false → b ≡ false
    by true s e = absurd (true≢false (sym (h.0 s) ∙ e))
    by false s e = refl

-- what is left is laid out
pub thinned_is_laid_out : (keep : Instruction → Bool) (end end_again : ℕ) (insts again : List Instruction)
    → AllByRecursion (λ i. is_one_of shaping_kinds (opcode i) ≡ true → keep i ≡ true) insts → words_of again ≡ words_of (filter keep insts)
    → first (group_2 end insts) ≡ None → first (group_2 end_again again) ≡ None
thinned_is_laid_out keep end end_again insts again shape e h =
    laid_out_by_words end end_again (filter keep insts) again e (kept_is_laid_out keep end end insts (drops_plain keep insts shape) h)
