-- Of the rows of the instruction table: what is rewritten is no declaration, and has a type where it has a result.
use Rattle.std.proofs.Common.{◌≡◌, ℕ, Bool, true, false, cond, not, ◌==◌, ◌&&◌, ◌||◌, List, [], ◌∷◌, Option, Some, None, refl, ap, ◌∙◌, eqb-true}
use Rattle.std.specs.List.{list_all, list_any}
use Rattle.std.specs.Option.{option_or}
use Rattle.std.proofs.lemmas.Bool.{and_parts}
use Rattle.spv_grammar.specs.declared.section.TheConstants as section
use Rattle.spv_grammar.specs.Fronts.{has_result, has_result_type, is_result, is_result_type, row_has}
use Rattle.spv_grammar.specs.Table.{Shape, flow_rows, memory_rows, module_rows, pair_rows, row_at, row_of, type_rows, value_rows}
use Rattle.spv_module.specs.Code.{row_section}
use Rattle.spv_typing.specs.Kinds.{is_one_of}
use Rattle.spv_rewritten.specs.Rewritten.{settled_kinds}

abbrev row_passes : ℕ → Shape → Bool
row_passes o s =
    is_one_of settled_kinds o || (not (s.section == section.DECLARATIONS) && (not (list_any is_result s.kinds) || list_any is_result_type s.kinds))

abbrev passes : ℕ → Option Shape → Bool
passes o None = true
passes o (Some s) = row_passes o s

-- by induction on the rows
rows_pass : (rows : List (ℕ × Shape)) → list_all (λ row. row_passes row.0 row.1) rows ≡ true → (o : ℕ) → passes o (row_at rows o) ≡ true
rows_pass [] h o = refl
rows_pass (row ∷ rows) h o = by (o == row.0) refl (rows_pass rows parts.1 o)
  where
    parts : (row_passes row.0 row.1 ≡ true) × (list_all (λ row. row_passes row.0 row.1) rows ≡ true)
    parts = and_parts (row_passes row.0 row.1) (list_all (λ row. row_passes row.0 row.1) rows) h

    by : (c : Bool) → (o == row.0) ≡ c → passes o (row_at rows o) ≡ true → passes o (cond c (Some row.1) (row_at rows o)) ≡ true
    by true e more = ap (λ n. row_passes n row.1) (eqb-true o row.0 e) ∙ parts.0
    by false e more = more

or_passes : (o : ℕ) (x y : Option Shape) → passes o x ≡ true → passes o y ≡ true → passes o (option_or x y) ≡ true
or_passes o None y h g = g
or_passes o (Some s) y h g = h

all_pass : (o : ℕ) → passes o (row_of o) ≡ true
unfolding row_of
all_pass o =
    or_passes o (row_at module_rows o) _ (rows_pass module_rows refl o)
    (or_passes o (row_at type_rows o) _ (rows_pass type_rows refl o)
    (or_passes o (row_at flow_rows o) _ (rows_pass flow_rows refl o)
    (or_passes o (row_at memory_rows o) _ (rows_pass memory_rows refl o)
    (or_passes o (row_at value_rows o) _ (rows_pass value_rows refl o) (rows_pass pair_rows refl o)))))

pub no_declaration : (o : ℕ) → is_one_of settled_kinds o ≡ false → (row_section (row_of o) == section.DECLARATIONS) ≡ false
no_declaration o h = by (row_of o) (all_pass o)
  where
    first : (a b c : Bool) → a ≡ false → (a || (not b && c)) ≡ true → b ≡ false
    first true b c e g = absurd (cc e)
    first false true c e g = absurd (cc g)
    first false false c e g = refl

    by : (row : Option Shape) → passes o row ≡ true → (row_section row == section.DECLARATIONS) ≡ false
    by None g = refl
    by (Some s) g =
        first (is_one_of settled_kinds o) (s.section == section.DECLARATIONS) (not (list_any is_result s.kinds) || list_any is_result_type s.kinds) h g

pub typed_result : (o : ℕ) → is_one_of settled_kinds o ≡ false → has_result o ≡ true → has_result_type o ≡ true
typed_result o h = by (row_of o) (all_pass o)
  where
    last : (a b c d : Bool) → a ≡ false → (a || (not b && (not c || d))) ≡ true → c ≡ true → d ≡ true
    last true b c d e g k = absurd (cc e)
    last false true c d e g k = absurd (cc g)
    last false false false d e g k = absurd (cc k)
    last false false true d e g k = g

    by : (row : Option Shape) → passes o row ≡ true → row_has is_result row ≡ true → row_has is_result_type row ≡ true
    by None g k = absurd (cc k)
    by (Some s) g k = last (is_one_of settled_kinds o) (s.section == section.DECLARATIONS) (list_any is_result s.kinds) (list_any is_result_type s.kinds) h g k
