-- What is kept of instructions along lines, and what is left of a module that is laid out where plain instructions go.
use Rattle.std.proofs.Common.{◌≡◌, ℕ, ◌≤◌, max, Bool, true, false, cond, not, ◌&&◌, ◌||◌, ◌==◌, nat_lt, List, [], ◌∷◌, ◌++◌, None, refl, sym, ap, subst, ◌∙◌, arith, append_assoc, append-nil}
use Rattle.std.specs.List.{AllByRecursion, filter}
use Rattle.std.proofs.lemmas.Bool.Decides.{nat_tests}
use Rattle.spv_opcodes.specs.declared.op.TheConstants as op
use Rattle.spv_module.specs.declared.layout.Layout.{Layout}
use Rattle.spv_module.specs.declared.layout.Place.{Place}
use Rattle.spv_module.specs.declared.layout.Place.TheVariants.{Outside, Head, Between, Inside}
use Rattle.spv_module.specs.Code.{is_function, is_line, plain_section}
use Rattle.spv_module.specs.First.{first, here, unless}
use Rattle.spv_module.specs.Instruction.{Instruction, opcode}
use Rattle.spv_module.specs.Layout.{behind, end_rule, fits_place, group_2, is_capability, is_entry_point, is_memory_model, is_outside, layout_from, layout_rules, missing_rules, place_behind, without_lines}
use Rattle.spv_module.specs.LayoutSteps.{kept_behind, kept_missing, kept_rules, nothing_kept}
use Rattle.spv_module.proofs.Summary.{Summarizes, kept_missing-summary, kept_rules-summary, summary-nothing, summary-push}
use Rattle.spv_tree.specs.Tree.{words_of}
use Rattle.spv_texts.proofs.Functions.{nothing_both, nothing_first, nothing_here, nothing_unless}
use Rattle.spv_norm_declared.proofs.Walks.{inst_of}

-- ---- what is kept along lines

-- each line breaks no rule, by what is kept of those before
abbrev pub Lays : Layout → List (List ℕ) → Type 0
Lays kept [] = Unit {0}
Lays kept (w ∷ ws) = (kept_rules kept (inst_of w) ≡ []) × Lays (kept_behind kept (inst_of w)) ws

abbrev pub kept_after : Layout → List (List ℕ) → Layout
kept_after kept [] = kept
kept_after kept (w ∷ ws) = kept_after (kept_behind kept (inst_of w)) ws

pub lays_both : (kept : Layout) (xs ys : List (List ℕ)) → Lays kept xs → Lays (kept_after kept xs) ys → Lays kept (xs ++ ys)
lays_both kept [] ys h g = g
lays_both kept (x ∷ xs) ys h g = (h.0, lays_both (kept_behind kept (inst_of x)) xs ys h.1 g)

pub lays_apart : (kept : Layout) (xs ys : List (List ℕ)) → Lays kept (xs ++ ys) → Lays kept xs × Lays (kept_after kept xs) ys
lays_apart kept [] ys h = (tt, h)
lays_apart kept (x ∷ xs) ys h = let more = lays_apart (kept_behind kept (inst_of x)) xs ys h.1 in ((h.0, more.0), more.1)

pub after_both : (kept : Layout) (xs ys : List (List ℕ)) → kept_after kept (xs ++ ys) ≡ kept_after (kept_after kept xs) ys
after_both kept [] ys = refl
after_both kept (x ∷ xs) ys = after_both (kept_behind kept (inst_of x)) xs ys

-- what a module has, and where it ends
pub record HasAll (kept : Layout) : Type 0 where
  pub capability : kept.has_capability ≡ true
  pub model : kept.has_memory_model ≡ true
  pub entry : kept.has_entry_point ≡ true

-- ---- the rules on instructions, by what is kept

push_in : (xs : List Instruction) (i : Instruction) (is : List Instruction) → (xs ++ i ∷ []) ++ is ≡ xs ++ i ∷ is
push_in xs i is = append_assoc xs (i ∷ []) is

summary_after : (kept : Layout) (before is : List Instruction) → Summarizes kept before → Summarizes (kept_after kept (words_of is)) (before ++ is)
summary_after kept before [] s = subst (Summarizes kept) (sym (append-nil before)) s
summary_after kept before (i ∷ is) s =
    subst (Summarizes (kept_after kept (words_of (i ∷ is)))) (push_in before i is)
    (summary_after (kept_behind kept i) (before ++ i ∷ []) is (summary-push kept before i s))

lays_of : (kept : Layout) (before is : List Instruction) → Summarizes kept before → layout_from before is ≡ [] → Lays kept (words_of is)
unfolding layout_from
lays_of kept before [] s h = tt
lays_of kept before (i ∷ is) s h =
    let parts = nothing_both (here i.offset (layout_rules before i)) (layout_from (before ++ i ∷ []) is) h in (
      kept_rules-summary kept before i s ∙ nothing_here i.offset (layout_rules before i) parts.left,
      lays_of (kept_behind kept i) (before ++ i ∷ []) is (summary-push kept before i s) parts.right,
    )

of_lays : (kept : Layout) (before is : List Instruction) → Summarizes kept before → Lays kept (words_of is) → layout_from before is ≡ []
unfolding layout_from
of_lays kept before [] s h = refl
of_lays kept before (i ∷ is) s h =
    ap (λ rules. here i.offset rules ++ layout_from (before ++ i ∷ []) is) (sym (kept_rules-summary kept before i s) ∙ h.0)
    ∙ of_lays (kept_behind kept i) (before ++ i ∷ []) is (summary-push kept before i s) h.1

all_summary : (is : List Instruction) → Summarizes (kept_after nothing_kept (words_of is)) is
all_summary is = summary_after nothing_kept [] is summary-nothing

pub has_all : (kept : Layout) → kept_missing kept ≡ [] → HasAll kept
has_all kept h =
    let one = nothing_both (unless kept.has_capability 202) (unless kept.has_memory_model 203 ++ unless kept.has_entry_point 204) h in
    let two = nothing_both (unless kept.has_memory_model 203) (unless kept.has_entry_point 204) one.right in
    record {
      capability = nothing_unless kept.has_capability 202 one.left;
      model = nothing_unless kept.has_memory_model 203 two.left;
      entry = nothing_unless kept.has_entry_point 204 two.right;
    }

none_missing : (kept : Layout) → HasAll kept → kept_missing kept ≡ []
none_missing kept h =
    ap (λ (b : Bool). unless b 202 ++ (unless kept.has_memory_model 203 ++ unless kept.has_entry_point 204)) h.capability
    ∙ ap (λ (b : Bool). unless b 203 ++ unless kept.has_entry_point 204) h.model ∙ ap (λ (b : Bool). unless b 204) h.entry

-- instructions that are no line marks, lay well, and have what a module has
pub laid_out : (end : ℕ) (is : List Instruction) → without_lines is ≡ is → Lays nothing_kept (words_of is) → HasAll (kept_after nothing_kept (words_of is))
    → is_outside (kept_after nothing_kept (words_of is)).place ≡ true → first (group_2 end is) ≡ None
laid_out end is bare lays all out =
    let kept = kept_after nothing_kept (words_of is) in
    let s = all_summary is in
    let missing : missing_rules is ≡ [] = sym (kept_missing-summary kept is s) ∙ none_missing kept all in
    let ends : end_rule is ≡ [] = ap (λ p. unless (is_outside p) 205) (sym s.place) ∙ ap (λ (b : Bool). unless b 205) out in
    ap (λ z. first (here 5 (missing_rules z) ++ (layout_from [] z ++ here end (end_rule z)))) bare
    ∙ ap (λ rules. first (here 5 rules ++ (layout_from [] is ++ here end (end_rule is)))) missing
    ∙ ap (λ bs. first (bs ++ here end (end_rule is))) (of_lays nothing_kept [] is summary-nothing lays)
    ∙ ap (λ rules. first (here end rules)) ends

-- and what is laid out, lays so
pub record LaysWhole (is : List Instruction) : Type 0 where
  pub lays : Lays nothing_kept (words_of is)
  pub all : HasAll (kept_after nothing_kept (words_of is))
  pub out : is_outside (kept_after nothing_kept (words_of is)).place ≡ true

pub lays_whole : (end : ℕ) (insts : List Instruction) → first (group_2 end insts) ≡ None → LaysWhole (without_lines insts)
lays_whole end insts h =
    let is = without_lines insts in
    let kept = kept_after nothing_kept (words_of is) in
    let s = all_summary is in
    let all = nothing_first (group_2 end insts) h in
    let parts = nothing_both (here 5 (missing_rules is)) (layout_from [] is ++ here end (end_rule is)) all in
    let last = nothing_both (layout_from [] is) (here end (end_rule is)) parts.right in
    record {
      lays = lays_of nothing_kept [] is summary-nothing last.left;
      all = has_all kept (kept_missing-summary kept is s ∙ nothing_here 5 (missing_rules is) parts.left);
      out = ap is_outside s.place ∙ nothing_unless (is_outside (place_behind is)) 205 (nothing_here end (end_rule is) last.right);
    }

-- ---- outside functions

-- what is kept is the same, but for a lower section
pub record IsLess (k j : Layout) : Type 0 where
  pub begun : k.begun ≡ j.begun
  pub section : k.section ≤ j.section
  pub capability : k.has_capability ≡ j.has_capability
  pub model : k.has_memory_model ≡ j.has_memory_model
  pub entry : k.has_entry_point ≡ j.has_entry_point
  pub place : k.place ≡ j.place

rules_none : (a b c : Bool) → a ≡ true → b ≡ true → c ≡ true → unless a 201 ++ (unless b 203 ++ unless c 205) ≡ []
rules_none a b c h g k =
    ap (λ (x : Bool). unless x 201 ++ (unless b 203 ++ unless c 205)) h ∙ ap (λ (x : Bool). unless x 203 ++ unless c 205) g
    ∙ ap (λ (x : Bool). unless x 205) k

-- the tests that an instruction passes
pub record Passes (kept : Layout) (i : Instruction) : Type 0 where
  pub section : not (nat_lt (plain_section kept.begun i) kept.section) ≡ true
  pub model : not (is_memory_model i && kept.has_memory_model) ≡ true
  pub fits : fits_place kept.place (plain_section kept.begun i) i ≡ true

pub passes : (kept : Layout) (i : Instruction) → kept_rules kept i ≡ [] → Passes kept i
passes kept i h =
    let a = not (nat_lt (plain_section kept.begun i) kept.section) in
    let b = not (is_memory_model i && kept.has_memory_model) in
    let c = fits_place kept.place (plain_section kept.begun i) i in
    let one = nothing_both (unless a 201) (unless b 203 ++ unless c 205) h in
    let two = nothing_both (unless b 203) (unless c 205) one.right in
    record { section = nothing_unless a 201 one.left; model = nothing_unless b 203 two.left; fits = nothing_unless c 205 two.right }

pub passing : (kept : Layout) (i : Instruction) → Passes kept i → kept_rules kept i ≡ []
passing kept i p =
    rules_none (not (nat_lt (plain_section kept.begun i) kept.section)) (not (is_memory_model i && kept.has_memory_model))
    (fits_place kept.place (plain_section kept.begun i) i) p.section p.model p.fits

still_not_below : (s m n : ℕ) → m ≤ n → not (nat_lt s n) ≡ true → not (nat_lt s m) ≡ true
still_not_below s m n h g = grind (arith, nat_tests)

pub less_rules : (k j : Layout) (i : Instruction) → IsLess k j → kept_rules j i ≡ [] → kept_rules k i ≡ []
less_rules k j i l h =
    let p = passes j i h in
    passing k i (record {
      section =
          ap (λ (b : Bool). not (nat_lt (plain_section b i) k.section)) l.begun
          ∙ still_not_below (plain_section j.begun i) k.section j.section l.section p.section;
      model = ap (λ (b : Bool). not (is_memory_model i && b)) l.model ∙ p.model;
      fits =
          ap (λ (b : Bool). fits_place k.place (plain_section b i) i) l.begun ∙ ap (λ (q : Place). fits_place q (plain_section j.begun i) i) l.place ∙ p.fits;
    })

pub max_less : (m n s : ℕ) → m ≤ n → max m s ≤ max n s
max_less m n s h = omega arith

pub less_step : (k j : Layout) (i : Instruction) → IsLess k j → IsLess (kept_behind k i) (kept_behind j i)
less_step k j i l = record {
  begun = ap (λ (b : Bool). b || is_function i) l.begun;
  section =
      subst (λ b. max k.section (plain_section b i) ≤ max j.section (plain_section j.begun i)) (sym l.begun)
      (max_less k.section j.section (plain_section j.begun i) l.section);
  capability = ap (λ (b : Bool). b || is_capability i) l.capability;
  model = ap (λ (b : Bool). b || is_memory_model i) l.model;
  entry = ap (λ (b : Bool). b || is_entry_point i) l.entry;
  place = ap (λ (q : Place). behind q i) l.place;
}

-- an opcode that opens and ends nothing, and that a module need not have
pub record IsPlain (o : ℕ) : Type 0 where
  pub function : (o == op.FUNCTION) ≡ false
  pub capability : (o == op.CAPABILITY) ≡ false
  pub model : (o == op.MEMORY_MODEL) ≡ false
  pub entry : (o == op.ENTRY_POINT) ≡ false
  pub place : (p : Place) → cond (o == op.FUNCTION) Head
      (cond (o == op.FUNCTION_END) Outside
      (cond (o == op.LABEL) Inside
      (cond (o == op.BRANCH || o == op.BRANCH_CONDITIONAL || o == op.SWITCH || o == op.RETURN || o == op.RETURN_VALUE || o == op.UNREACHABLE) Between p)))
      ≡ p

pub either_gives : {P : Type 0} (a b : Bool) → (a ≡ true → P) → (b ≡ true → P) → (a || b) ≡ true → P
either_gives true b f g h = f refl
either_gives false b f g h = g h

pub or_false : (a b : Bool) → b ≡ false → a ≡ (a || b)
or_false true b h = refl
or_false false b h = sym h

pub less_or : (m n s : ℕ) → m ≤ n → m ≤ max n s
less_or m n s h = omega arith

-- one that goes changes nothing else
pub less_gone : (k j : Layout) (i : Instruction) → IsLess k j → IsPlain (opcode i) → IsLess k (kept_behind j i)
less_gone k j i l p = record {
  begun = l.begun ∙ or_false j.begun (is_function i) p.function;
  section = less_or k.section j.section (plain_section j.begun i) l.section;
  capability = l.capability ∙ or_false j.has_capability (is_capability i) p.capability;
  model = l.model ∙ or_false j.has_memory_model (is_memory_model i) p.model;
  entry = l.entry ∙ or_false j.has_entry_point (is_entry_point i) p.entry;
  place = l.place ∙ sym (p.place j.place);
}

pub record LaysLess (k j : Layout) (ws vs : List (List ℕ)) : Type 0 where
  pub lays : Lays k ws
  pub less : IsLess (kept_after k ws) (kept_after j vs)

-- what is dropped is a line mark, or opens and ends nothing
abbrev pub DropsPlain : (keep : Instruction → Bool) → List Instruction → Type 0
DropsPlain keep is = AllByRecursion (λ i. keep i ≡ false → is_line i ≡ false → IsPlain (opcode i)) is

-- some instructions, and those of them that are kept; induction on the instructions
pub kept_lays : (keep : Instruction → Bool) (k j : Layout) (is : List Instruction) → DropsPlain keep is → IsLess k j → Lays j (words_of (without_lines is))
    → LaysLess k j (words_of (without_lines (filter keep is))) (words_of (without_lines is))
kept_lays keep k j [] plain l h = record { lays = tt; less = l }
kept_lays keep k j (i ∷ is) plain l h = by (is_line i) (keep i) refl refl h (λ p q m g. kept_lays keep p q is plain.1 m g)
  where
    by : (line kept : Bool) → is_line i ≡ line → keep i ≡ kept → Lays j (words_of (cond (not line) (i ∷ without_lines is) (without_lines is)))
        → ((p q : Layout) → IsLess p q → Lays q (words_of (without_lines is))
        → LaysLess p q (words_of (without_lines (filter keep is))) (words_of (without_lines is)))
        → LaysLess k j (words_of (without_lines (cond kept (i ∷ filter keep is) (filter keep is))))
        (words_of (cond (not line) (i ∷ without_lines is) (without_lines is)))
    by true true m e h more =
        subst (λ (b : Bool). LaysLess k j (words_of (cond (not b) (i ∷ without_lines (filter keep is)) (without_lines (filter keep is)))) (words_of (without_lines is)))
        (sym m) (more k j l h)
    by true false m e h more = more k j l h
    by false true m e h more =
        subst
        (λ (b : Bool). LaysLess k j (words_of (cond (not b) (i ∷ without_lines (filter keep is)) (without_lines (filter keep is))))
        (words_of (i ∷ without_lines is)))
        (sym m)
        (let later = more (kept_behind k i) (kept_behind j i) (less_step k j i l) h.1 in
        record { lays = (less_rules k j i l h.0, later.lays); less = later.less })
    by false false m e h more =
        let later = more k (kept_behind j i) (less_gone k j i l (plain.0 e m)) h.1 in
        record { lays = later.lays; less = later.less }

pub nothing_less : IsLess nothing_kept nothing_kept
nothing_less = record { begun = refl; section = omega arith; capability = refl; model = refl; entry = refl; place = refl }

pub without_lines_again : (is : List Instruction) → without_lines (without_lines is) ≡ without_lines is
without_lines_again [] = refl
without_lines_again (i ∷ is) = by (is_line i) refl (without_lines_again is)
  where
    by : (b : Bool) → is_line i ≡ b → without_lines (without_lines is) ≡ without_lines is
        → without_lines (cond (not b) (i ∷ without_lines is) (without_lines is)) ≡ cond (not b) (i ∷ without_lines is) (without_lines is)
    by true e more = more
    by false e more =
        ap (λ (b : Bool). cond (not b) (i ∷ without_lines (without_lines is)) (without_lines (without_lines is))) e ∙ ap (λ z. i ∷ z) more

-- what is left of a module that is laid out is laid out, where what goes is plain
pub kept_is_laid_out : (keep : Instruction → Bool) (end end_again : ℕ) (insts : List Instruction) → DropsPlain keep insts → first (group_2 end insts) ≡ None
    → first (group_2 end_again (filter keep insts)) ≡ None
kept_is_laid_out keep end end_again insts plain h =
    let whole = lays_whole end insts h in
    let kept = kept_lays keep nothing_kept nothing_kept insts plain nothing_less whole.lays in
    let less = kept.less in
    ap (λ is. first (here 5 (missing_rules is) ++ (layout_from [] is ++ here end_again (end_rule is)))) (sym (without_lines_again (filter keep insts)))
    ∙ laid_out end_again (without_lines (filter keep insts)) (without_lines_again (filter keep insts)) kept.lays
    (record { capability = less.capability ∙ whole.all.capability; model = less.model ∙ whole.all.model; entry = less.entry ∙ whole.all.entry })
    (ap (λ (q : Place). is_outside q) less.place ∙ whole.out)
