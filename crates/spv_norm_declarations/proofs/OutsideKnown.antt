-- Before the first function: what goes is mute, what stays comes of an instruction that stays, and none is a branch, a merge instruction or an OpPhi.
use Rattle.std.proofs.Common.{◌≡◌, ℕ, Bool, true, false, cond, not, nat_eq, ◌==◌, ◌&&◌, ◌||◌, List, [], ◌∷◌, ◌++◌, map, drop, Option, Some, None, refl, sym, ap, ap₂, subst, ◌∙◌}
use Rattle.std.specs.List.{AllByRecursion, filter, list_any, slice_index}
use Rattle.std.specs.Option.{is_some, option_map_or}
use Rattle.spv_opcodes.specs.declared.op.TheConstants as op
use Rattle.spv_grammar.specs.Fronts.{has_result}
use Rattle.spv_grammar.specs.Roles.{is_defined_id}
use Rattle.spv_grammar.specs.Table.{row_of}
use Rattle.spv_module.specs.declared.layout.Place.TheVariants.{Outside, Between}
use Rattle.spv_module.specs.Code.{is_function, is_line, plain_section, row_section}
use Rattle.spv_module.specs.Instruction.{Instruction, opcode, roles, word_with}
use Rattle.spv_module.specs.Layout.{behind, fits_place, is_terminator}
use Rattle.spv_module.proofs.Told.{result_told}
use Rattle.spv_ids.specs.Ids.{defines, is_defined, used_ids}
use Rattle.spv_typing.specs.Kinds.{is_one_of}
use Rattle.spv_declarations.proofs.Declares.{one_of-holds}
use Rattle.spv_blocks.specs.Cutting.{pairs}
use Rattle.spv_walk.proofs.Unique.{both_left, both_right, equal_true}
use Rattle.spv_normal.specs.Lines.{without_marks}
use Rattle.spv_tree.specs.Tree.{words_of}
use Rattle.spv_texts.proofs.Functions.{AFunction, ALabel, AParameter, AnEnd, Another, Fits, IsKind, behind_other, differ, end_fits, kind_of, label_fits, other_fits, parameter_fits}
use Rattle.spv_norm.specs.Norm.{is_gone, is_label_line, names_gone, namings, outside, stays_outside}
use Rattle.spv_norm_declarations.proofs.Defined.{IsFormed, label_defines}
use Rattle.spv_norm_declarations.proofs.Outside.{GoesMute, mute}
use Rattle.spv_norm_declarations.proofs.Uses.{values}

-- ---- what goes is mute

nothing_defined : (id : ℕ) (o : Option ℕ) → is_some o ≡ false → option_map_or (nat_eq id) o false ≡ false
nothing_defined id None h = refl
nothing_defined id (Some x) h = absurd (cc h)

no_result : (i : Instruction) → IsFormed i → (k : ℕ) → has_result k ≡ false → opcode i ≡ k → (id : ℕ) → defines id i ≡ false
no_result i formed k none e id = nothing_defined id (word_with is_defined_id i) (result_told i.words (roles i) formed ∙ ap has_result e ∙ none)

mutes_define_none : (i : Instruction) → IsFormed i → is_one_of mute (opcode i) ≡ true → (id : ℕ) → defines id i ≡ false
unfolding row_of
mutes_define_none i formed h =
    one_of-holds (λ o. opcode i ≡ o → (id : ℕ) → defines id i ≡ false) mute (
      no_result i formed op.LINE refl,
      (
        no_result i formed op.NO_LINE refl,
        (
          no_result i formed op.NAME refl,
          (
            no_result i formed op.MEMBER_NAME refl,
            (no_result i formed op.SOURCE refl, tt),
          ),
        ),
      ),
    )
    (opcode i) h refl

gone_is_mute : (insts : List Instruction) (i : Instruction) → stays_outside insts i ≡ false → is_one_of mute (opcode i) ≡ true
gone_is_mute insts i h =
    by (opcode i == op.LINE) (opcode i == op.NO_LINE) (is_one_of namings (opcode i)) (list_any (is_gone insts) (used_ids i)) h
  where
    by : (a b c d : Bool) → (not (a || b) && not (c && d)) ≡ false → (a || (b || c)) ≡ true
    by true b c d h = refl
    by false true c d h = refl
    by false false true d h = refl
    by false false false d h = absurd (cc h)

pub goes_mute : (insts is : List Instruction) → AllByRecursion IsFormed is → GoesMute (stays_outside insts) is
goes_mute insts [] h = tt
goes_mute insts (i ∷ is) h = (
  λ e. record { named = gone_is_mute insts i e; defines_none = mutes_define_none i h.0 (gone_is_mute insts i e) },
  goes_mute insts is h.1,
)

-- ---- an instruction that stays comes of one

pub record ComesOf (stays : Instruction → Bool) (is qs : List Instruction) (j : Instruction) : Type 0 where
  pub pre : List Instruction
  pub inst : Instruction
  pub post : List Instruction
  pub cut : is ≡ pre ++ inst ∷ post
  pub stands : stays inst ≡ true
  pub same : j.words ≡ inst.words
  pub before : words_of qs ≡ words_of (filter stays pre)

-- by induction on the instructions
pub comes_of : (stays : Instruction → Bool) (is qs : List Instruction) (j : Instruction) (rest : List Instruction) → words_of (qs ++ j ∷ rest) ≡ words_of
    (filter stays is)
    → ComesOf stays is qs j
comes_of stays [] [] j rest e = absurd (cc e)
comes_of stays [] (q ∷ qs) j rest e = absurd (cc e)
comes_of stays (x ∷ is) qs j rest e = by (stays x) refl qs e (λ ps g. comes_of stays is ps j rest g) where
  filtered : (b : Bool) → stays x ≡ b → (pre : List Instruction) → words_of (filter stays (x ∷ pre)) ≡ words_of
      (cond b (x ∷ filter stays pre) (filter stays pre))
  filtered b s pre = ap (λ z. words_of (cond z (x ∷ filter stays pre) (filter stays pre))) s

  by : (b : Bool) → stays x ≡ b → (ps : List Instruction) → words_of (ps ++ j ∷ rest) ≡ words_of (cond b (x ∷ filter stays is) (filter stays is))
      → ((rs : List Instruction) → words_of (rs ++ j ∷ rest) ≡ words_of (filter stays is) → ComesOf stays is rs j) → ComesOf stays (x ∷ is) ps j
  by true s [] e more =
      let here : j.words ≡ x.words = cc e in
      record { pre = []; inst = x; post = is; cut = refl; stands = s; same = here; before = refl }
  by true s (p ∷ ps) e more =
      let here : p.words ≡ x.words = cc e in
      let later : words_of (ps ++ j ∷ rest) ≡ words_of (filter stays is) = cc e in
      let m = more ps later in
      record {
        pre = x ∷ m.pre;
        inst = m.inst;
        post = m.post;
        cut = ap (λ z. x ∷ z) m.cut;
        stands = m.stands;
        same = m.same;
        before = ap₂ (λ w ws. w ∷ ws) here m.before ∙ sym (filtered true s m.pre);
      }
  by false s ps e more =
      let m = more ps e in
      record {
        pre = x ∷ m.pre;
        inst = m.inst;
        post = m.post;
        cut = ap (λ z. x ∷ z) m.cut;
        stands = m.stands;
        same = m.same;
        before = m.before ∙ sym (filtered false s m.pre);
      }

pub stays_no_line : (insts : List Instruction) (i : Instruction) → stays_outside insts i ≡ true → is_line i ≡ false
stays_no_line insts i h = by (is_line i) (names_gone insts i) h where
  by : (a b : Bool) → (not a && not b) ≡ true → a ≡ false
  by true b h = absurd (cc h)
  by false b h = refl

pub stays_no_gone : (insts : List Instruction) (i : Instruction) → stays_outside insts i ≡ true → is_one_of namings (opcode i) ≡ true
    → list_any (is_gone insts) (used_ids i) ≡ false
stays_no_gone insts i h n = by (is_line i) (is_one_of namings (opcode i)) (list_any (is_gone insts) (used_ids i)) h n where
  by : (a b c : Bool) → (not a && not (b && c)) ≡ true → b ≡ true → c ≡ false
  by true b c h n = absurd (cc h)
  by false false c h n = absurd (cc n)
  by false true true h n = absurd (cc h)
  by false true false h n = refl

-- ---- no instruction of functions stands there

abbrev pub inner : List ℕ
inner = op.PHI ∷ op.BRANCH_CONDITIONAL ∷ op.SWITCH ∷ op.BRANCH ∷ op.SELECTION_MERGE ∷ op.LOOP_MERGE ∷ []

abbrev pub NotInner : Instruction → Type 0
NotInner i = is_one_of inner (opcode i) ≡ false

inner_section : (o : ℕ) → is_one_of inner o ≡ true → row_section (row_of o) ≡ 11
unfolding row_of
inner_section o h = one_of-holds (λ k. row_section (row_of k) ≡ 11) inner (refl, (refl, (refl, (refl, (refl, (refl, tt)))))) o h

terminators : List ℕ
terminators = op.BRANCH ∷ op.BRANCH_CONDITIONAL ∷ op.SWITCH ∷ op.RETURN ∷ op.RETURN_VALUE ∷ op.UNREACHABLE ∷ []

terminator_section : (i : Instruction) → is_terminator i ≡ true → row_section (row_of (opcode i)) ≡ 11
unfolding row_of terminators
terminator_section i h =
    one_of-holds (λ k. row_section (row_of k) ≡ 11) terminators (refl, (refl, (refl, (refl, (refl, (refl, tt)))))) (opcode i)
    (turned (opcode i == op.BRANCH) (opcode i == op.BRANCH_CONDITIONAL) (opcode i == op.SWITCH) (opcode i == op.RETURN) (opcode i == op.RETURN_VALUE)
    (opcode i == op.UNREACHABLE) h)
  where
    turned : (a b c d e f : Bool) → (a || b || c || d || e || f) ≡ true → (a || (b || (c || (d || (e || (f || false)))))) ≡ true
    turned true b c d e f h = refl
    turned false true c d e f h = refl
    turned false false true d e f h = refl
    turned false false false true e f h = refl
    turned false false false false true f h = refl
    turned false false false false false true h = refl
    turned false false false false false false h = absurd (cc h)

record StaysOutside (i : Instruction) : Type 0 where
  place : behind Outside i ≡ Outside
  plain : NotInner i

still : (i : Instruction) → is_function i ≡ false → fits_place Outside (plain_section false i) i ≡ true → StaysOutside i
still i f fits = by_kind (kind_of i) where
  no_eleven : (opcode i == op.FUNCTION) ≡ false → (opcode i == op.FUNCTION_PARAMETER) ≡ false → (opcode i == op.FUNCTION_END) ≡ false →
      (opcode i == op.LABEL) ≡ false
      → row_section (row_of (opcode i)) ≡ 11 → ⊥
  no_eleven g p e l s = absurd (differ (sym fits ∙ other_fits Outside (plain_section false i) i g p e l s))

  by_end : (b : Bool) → is_terminator i ≡ b → (row_section (row_of (opcode i)) ≡ 11 → ⊥) → cond (is_terminator i) Between Outside ≡ Outside
  by_end true t never = absurd (never (terminator_section i t))
  by_end false t never = ap (λ (b : Bool). cond b Between Outside) t

  by_inner : (b : Bool) → is_one_of inner (opcode i) ≡ b → (row_section (row_of (opcode i)) ≡ 11 → ⊥) → NotInner i
  by_inner true t never = absurd (never (inner_section (opcode i) t))
  by_inner false t never = t

  by_kind : IsKind i → StaysOutside i
  by_kind (AFunction g) = absurd (differ (sym g ∙ f))
  by_kind (AParameter g p) = absurd (differ (sym fits ∙ parameter_fits Outside (plain_section false i) i g p))
  by_kind (AnEnd g p e) = absurd (differ (sym fits ∙ end_fits Outside (plain_section false i) i g p e))
  by_kind (ALabel g p e l) = absurd (differ (sym fits ∙ label_fits Outside (plain_section false i) i g p e l))
  by_kind (Another g p e l) = record {
    place = behind_other Outside i g e l ∙ by_end (is_terminator i) refl (no_eleven g p e l);
    plain = by_inner (is_one_of inner (opcode i)) refl (no_eleven g p e l);
  }

line_not_inner : (i : Instruction) → is_line i ≡ true → NotInner i
line_not_inner i h = by (opcode i == op.LINE) refl where
  by : (b : Bool) → (opcode i == op.LINE) ≡ b → NotInner i
  by true e = ap (is_one_of inner) (equal_true (opcode i) op.LINE e)
  by false e = ap (is_one_of inner) (equal_true (opcode i) op.NO_LINE (sym (ap (λ z. z || (opcode i == op.NO_LINE)) e) ∙ h))

marks_step : (i : Instruction) (is : List Instruction) (b : Bool) → is_line i ≡ b → without_marks (i ∷ is) ≡ cond (not b) (i ∷ without_marks is)
    (without_marks is)
marks_step i is b h = ap (λ (z : Bool). cond (not z) (i ∷ without_marks is) (without_marks is)) h

-- by induction on the instructions
pub outside_not_inner : (is : List Instruction) → Fits Outside false (without_marks is) → AllByRecursion NotInner (outside is)
outside_not_inner [] fits = tt
outside_not_inner (i ∷ is) fits = step (is_line i) (is_function i) refl refl (λ g. outside_not_inner is g) where
  step : (line function : Bool) → is_line i ≡ line → is_function i ≡ function → (Fits Outside false (without_marks is) → AllByRecursion NotInner (outside is))
      → AllByRecursion NotInner (cond (is_function i) [] (i ∷ outside is))
  step line true el ef more = subst (λ (b : Bool). AllByRecursion NotInner (cond b [] (i ∷ outside is))) (sym ef) tt
  step true false el ef more =
      subst (λ (b : Bool). AllByRecursion NotInner (cond b [] (i ∷ outside is))) (sym ef)
      (line_not_inner i el, more (subst (Fits Outside false) (marks_step i is true el) fits))
  step false false el ef more =
      let here = subst (Fits Outside false) (marks_step i is false el) fits in
      let s = still i ef here.0 in
      let later = subst (λ b. Fits Outside b (without_marks is)) ef (subst (λ p. Fits p (is_function i) (without_marks is)) s.place here.2) in
      subst (λ (b : Bool). AllByRecursion NotInner (cond b [] (i ∷ outside is))) (sym ef) (s.plain, more later)

-- so all ids that it uses are values
pub all_values : (i : Instruction) → NotInner i → values i ≡ used_ids i
all_values i h =
    by (opcode i == op.PHI) (opcode i == op.BRANCH_CONDITIONAL) (opcode i == op.SWITCH) (opcode i == op.BRANCH) (opcode i == op.SELECTION_MERGE)
    (opcode i == op.LOOP_MERGE) h
  where
    by : (a b c d e f : Bool) → (a || (b || (c || (d || (e || (f || false)))))) ≡ false
        → cond a (slice_index i.words 1 ∷ map (λ pair. pair.0) (pairs (drop 3 i.words)))
        (cond (b || c) (slice_index i.words 1 ∷ []) (cond (d || (e || (f || false))) [] (used_ids i))) ≡ used_ids i
    by false false false false false false h = refl
    by true b c d e f h = absurd (cc h)
    by false true c d e f h = absurd (cc h)
    by false false true d e f h = absurd (cc h)
    by false false false true e f h = absurd (cc h)
    by false false false false true f h = absurd (cc h)
    by false false false false false true h = absurd (cc h)

-- ---- a label of a line is defined

pub label_is_defined : (i : Instruction) (l : ℕ) → IsFormed i → is_label_line l i.words ≡ true → defines l i ≡ true
label_is_defined i l formed h =
    subst (λ k. defines k i ≡ true) (equal_true (slice_index i.words 1) l (both_right (opcode i == op.LABEL) (slice_index i.words 1 == l) h))
    (label_defines i formed (equal_true (opcode i) op.LABEL (both_left (opcode i == op.LABEL) (slice_index i.words 1 == l) h)))

pub lines_define : (is : List Instruction) (l : ℕ) → AllByRecursion IsFormed is → list_any (is_label_line l) (words_of is) ≡ true → is_defined is l ≡ true
lines_define [] l formed h = absurd (cc h)
lines_define (i ∷ is) l formed h = by (is_label_line l i.words) refl h (lines_define is l formed.1) where
  or_right : (a b : Bool) → b ≡ true → (a || b) ≡ true
  or_right true b h = refl
  or_right false b h = h

  by : (b : Bool) → is_label_line l i.words ≡ b → (b || list_any (is_label_line l) (words_of is)) ≡ true
      → (list_any (is_label_line l) (words_of is) ≡ true → is_defined is l ≡ true) → (defines l i || is_defined is l) ≡ true
  by true e g more = ap (λ z. z || is_defined is l) (label_is_defined i l formed.0 e)
  by false e g more = or_right (defines l i) (is_defined is l) (more g)
