-- What is kept of the instructions before one tells which rules on the layout it breaks.
use Rattle.std.proofs.Common.{◌≡◌, ℕ, suc, ◌+◌, ◌<◌, ◌≤◌, max, Bool, true, false, cond, ◌&&◌, ◌||◌, ◌==◌, not, nat_lt, List, [], ◌∷◌, ◌++◌, length, refl, sym, ap, subst, ◌∙◌, arith}
use Rattle.std.specs.List.{list_any, fold}
use Rattle.std.proofs.lemmas.Bool.Decides.{nat_tests}
use Rattle.std.proofs.lemmas.List.Folds.{list_any-append}
use Rattle.std.proofs.lemmas.List.Sums.{fold-append}
use Rattle.spv_module.specs.declared.layout.Layout.{Layout}
use Rattle.spv_module.specs.declared.layout.Place.{Place}
use Rattle.spv_module.specs.declared.layout.Place.TheVariants.{Outside}
use Rattle.spv_module.specs.Code.{plain_section, is_function}
use Rattle.spv_module.specs.First.{unless}
use Rattle.spv_module.specs.Instruction.{Instruction}
use Rattle.spv_module.specs.Layout.{is_capability, is_memory_model, is_entry_point, behind, place_behind, plain_sections, section_behind, fits_place, layout_rules, missing_rules}
use Rattle.spv_module.specs.LayoutSteps.{nothing_kept, kept_rules, kept_behind, kept_missing}

-- what is kept is that of these instructions
pub record Summarizes (kept : Layout) (before : List Instruction) : Type 0 where
  pub begun : kept.begun ≡ list_any is_function before
  pub section : (s : ℕ) → list_any (λ t. nat_lt s t) (plain_sections false before) ≡ nat_lt s kept.section
  pub capability : kept.has_capability ≡ list_any is_capability before
  pub memory_model : kept.has_memory_model ≡ list_any is_memory_model before
  pub entry_point : kept.has_entry_point ≡ list_any is_entry_point before
  pub place : kept.place ≡ place_behind before

pub summary-nothing : Summarizes nothing_kept []
summary-nothing = record { begun = refl; section = λ s. grind (arith, nat_tests); capability = refl; memory_model = refl; entry_point = refl; place = refl }

or_false : (b : Bool) → (b || false) ≡ b
or_false true = refl
or_false false = refl

or_assoc : (a b c : Bool) → ((a || b) || c) ≡ (a || (b || c))
or_assoc true b c = refl
or_assoc false b c = refl

lt_max : (s a b : ℕ) → (nat_lt s a || (nat_lt s b || false)) ≡ nat_lt s (max a b)
lt_max s a b = grind (arith, nat_tests)

any_push : (p : Instruction → Bool) (before : List Instruction) (i : Instruction) (b : Bool) → b ≡ list_any p before → (b || p i) ≡ list_any p (before ++ i ∷ [])
any_push p before i b e =
    ap (λ (t : Bool). t || p i) e ∙ ap (λ (t : Bool). list_any p before || t) (sym (or_false (p i))) ∙ sym (list_any-append p before (i ∷ []))

plain_sections-push : (begun : Bool) (before : List Instruction) (i : Instruction) → plain_sections begun (before ++ i ∷ []) ≡ plain_sections begun before ++ plain_section (begun || list_any is_function before) i ∷ []
plain_sections-push begun [] i = ap (λ (b : Bool). plain_section b i ∷ []) (sym (or_false begun))
plain_sections-push begun (j ∷ before) i =
    let later = begun || is_function j in
    ap (λ (rest : List ℕ). plain_section begun j ∷ rest)
    (plain_sections-push later before i
    ∙ ap (λ (b : Bool). plain_sections later before ++ plain_section b i ∷ []) (or_assoc begun (is_function j) (list_any is_function before)))

pub kept_rules-summary : (kept : Layout) (before : List Instruction) (i : Instruction) → Summarizes kept before → kept_rules kept i ≡ layout_rules before i
kept_rules-summary kept before i s =
    rw (s.begun, s.memory_model, s.place, sym (s.section (plain_section (list_any is_function before) i))) refl

pub kept_missing-summary : (kept : Layout) (before : List Instruction) → Summarizes kept before → kept_missing kept ≡ missing_rules before
kept_missing-summary kept before s = rw (s.capability, s.memory_model, s.entry_point) refl

pub summary-push : (kept : Layout) (before : List Instruction) (i : Instruction) → Summarizes kept before → Summarizes (kept_behind kept i) (before ++ i ∷ [])
summary-push kept before i s = record {
  begun = any_push is_function before i kept.begun s.begun;
  section = λ t.
      let of_i = plain_section (list_any is_function before) i in
      ap (λ (xs : List ℕ). list_any (λ u. nat_lt t u) xs) (plain_sections-push false before i)
      ∙ list_any-append (λ u. nat_lt t u) (plain_sections false before) (of_i ∷ [])
      ∙ ap (λ (x : Bool). x || (nat_lt t of_i || false)) (s.section t)
      ∙ lt_max t kept.section of_i
      ∙ ap (λ (b : Bool). nat_lt t (max kept.section (plain_section b i))) (sym s.begun);
  capability = any_push is_capability before i kept.has_capability s.capability;
  memory_model = any_push is_memory_model before i kept.has_memory_model s.memory_model;
  entry_point = any_push is_entry_point before i kept.has_entry_point s.entry_point;
  place = ap (λ (p : Place). behind p i) s.place ∙ sym (fold-append behind Outside before (i ∷ []));
}
