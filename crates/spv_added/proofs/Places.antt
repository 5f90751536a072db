-- Every id but the new one is defined outside functions in both modules or in neither, and functions have the same parameters.
use Rattle.std.proofs.Common.{◌≡◌, ℕ, suc, Bool, true, false, cond, ◌==◌, ◌||◌, List, [], ◌∷◌, drop, Option, Some, None, refl, sym, ap, ap₂, subst, ◌∙◌, eqb-true, nat_eq}
use Rattle.std.specs.List.{AllByRecursion, slice_index}
use Rattle.std.specs.Option.{option_map, option_map_or}
use Rattle.spv_opcodes.specs.declared.op.TheConstants as op
use Rattle.spv_grammar.specs.Table.{row_of}
use Rattle.spv_grammar.specs.Roles.{is_defined_id}
use Rattle.spv_grammar.specs.declared.kind.Role.{Role}
use Rattle.spv_module.specs.Code.{is_function, is_line}
use Rattle.spv_module.specs.Instruction.{Instruction, opcode, roles, word_with}
use Rattle.spv_ids.specs.Ids.{defines, place_of, used_ids}
use Rattle.spv_ids.proofs.Places.{position-cons}
use Rattle.spv_typing.specs.Kinds.{is_outside}
use Rattle.spv_declarations.proofs.Parts.{TypedWords, first_typed, row_test, used_in, typed-words, defined-typed}
use Rattle.spv_signatures.specs.declared.parameters.Parameter.{Parameter}
use Rattle.spv_signatures.specs.Functions.{is_parameter, leading_parameters, parameter, parameters_at, parameters_of}
use Rattle.spv_added.specs.Added.{starts_function}
use Rattle.spv_added.proofs.Walk.{Adding, FactOf, In, along, inst, is_foreign, itself, new_defines, no_opcode}
use Rattle.spv_added.proofs.Definitions.{defines_others}

foreign_kinds : (is_foreign op.FUNCTION ≡ true) × (is_foreign op.FUNCTION_PARAMETER ≡ true) × (is_foreign op.LINE ≡ true) × (is_foreign op.NO_LINE ≡ true)
unfolding row_of
foreign_kinds = (refl, refl, refl, refl)

parameter_typed : row_test first_typed (row_of op.FUNCTION_PARAMETER) ≡ true
unfolding row_of
parameter_typed = refl

-- the type of an instruction is used
pub first_type : (P : ℕ → Type 0) (i : Instruction) → TypedWords i.words (roles i) → AllByRecursion P (used_ids i) → P (slice_index i.words 1)
first_type P i t all =
    subst (λ (ws : List ℕ). P (slice_index ws 1)) (sym t.words_are)
    (subst (λ (rs : List Role). AllByRecursion P (used_in rs (t.word ∷ t.type ∷ t.result ∷ t.rest))) t.parts_are
    (subst (λ (ws : List ℕ). AllByRecursion P (used_in (roles i) ws)) t.words_are all)).0

-- ---- parameters, along the instructions

abbrev found_parameters : (f : ℕ) → List Instruction → List Parameter
found_parameters f [] = []
found_parameters f (i ∷ is) = cond (defines f i) (cond (is_function i) (leading_parameters is) []) (found_parameters f is)

later_at : (i : Instruction) (is : List Instruction) (p : Option ℕ)
    → option_map_or (parameters_at (i ∷ is)) (option_map (λ k. suc k) p) [] ≡ option_map_or (parameters_at is) p []
later_at i is None = refl
later_at i is (Some k) = refl

parameters_found : (f : ℕ) (is : List Instruction) → parameters_of is f ≡ found_parameters f is
parameters_found f [] = refl
parameters_found f (i ∷ is) =
    ap (λ p. option_map_or (parameters_at (i ∷ is)) p []) (position-cons (defines f) i is)
    ∙ by (defines f i) (later_at i is (place_of is f) ∙ parameters_found f is)
  where
    by : (b : Bool) → option_map_or (parameters_at (i ∷ is)) (option_map (λ k. suc k) (place_of is f)) [] ≡ found_parameters f is
        → option_map_or (parameters_at (i ∷ is)) (cond b (Some 0) (option_map (λ k. suc k) (place_of is f))) []
        ≡ cond b (cond (is_function i) (leading_parameters is) []) (found_parameters f is)
    by true more = refl
    by false more = more

-- none stand where a function begins
none_lead : (is : List Instruction) → starts_function is ≡ true → leading_parameters is ≡ []
none_lead [] h = refl
none_lead (i ∷ is) h =
    ap (λ (o : ℕ). cond (o == op.LINE || o == op.NO_LINE) (leading_parameters is) (cond (o == op.FUNCTION_PARAMETER) (parameter i ∷ leading_parameters is) []))
    (eqb-true (opcode i) op.FUNCTION h)

module _ (t : Adding) where
  -- the new instruction begins no function, is no parameter and no line mark
  pub no_function : (j : Instruction) → j.words ≡ t.new.words → is_function j ≡ false
  no_function j w = ap (λ ws. is_function (inst ws)) w ∙ no_opcode t op.FUNCTION foreign_kinds.0

  pub no_parameter : (j : Instruction) → j.words ≡ t.new.words → is_parameter j ≡ false
  no_parameter j w = ap (λ ws. is_parameter (inst ws)) w ∙ no_opcode t op.FUNCTION_PARAMETER foreign_kinds.1

  pub no_line : (j : Instruction) → j.words ≡ t.new.words → is_line j ≡ false
  no_line j w =
      ap (λ ws. is_line (inst ws)) w ∙ ap₂ (λ (a b : Bool). a || b) (no_opcode t op.LINE foreign_kinds.2) (no_opcode t op.NO_LINE foreign_kinds.3)

  -- ---- outside functions

  module _ (id : ℕ) (s : In t id) where
    abbrev SameOutside : List Instruction → List Instruction → Type 0
    SameOutside is js = is_outside js id ≡ is_outside is id

    pub same_outside : is_outside t.after id ≡ is_outside t.before id
    same_outside =
        along t SameOutside refl
        (λ j is js b w h. ap₂ (λ (a b : Bool). cond a false (cond b true (is_outside js id))) (no_function j w) (new_defines t id j w ∙ s) ∙ h)
        (λ i j is js f w h. ap₂ (λ (ws : List ℕ) (b : Bool). cond (is_function (inst ws)) false (cond (defines id (inst ws)) true b)) w h)

  -- ---- parameters

  module _ (g : ℕ) (s : In t g) where
    -- behind each place, too
    abbrev SameFound : List Instruction → List Instruction → Type 0
    SameFound is js = (found_parameters g js ≡ found_parameters g is) × (leading_parameters js ≡ leading_parameters is)

    found_adds : (j : Instruction) (is js : List Instruction) → starts_function is ≡ true → j.words ≡ t.new.words → SameFound is js → SameFound is (j ∷ js)
    found_adds j is js b w h = (
      ap (λ (d : Bool). cond d (cond (is_function j) (leading_parameters js) []) (found_parameters g js)) (new_defines t g j w ∙ s) ∙ h.0,
      ap₂ (λ (l p : Bool). cond l (leading_parameters js) (cond p (parameter j ∷ leading_parameters js) [])) (no_line j w) (no_parameter j w)
          ∙ sym (none_lead is b),
    )

    found_keeps : (i j : Instruction) (is js : List Instruction) → FactOf t i → j.words ≡ i.words → SameFound is js → SameFound (i ∷ is) (j ∷ js)
    found_keeps i j is js f w h = (
      ap₂ (λ (ws : List ℕ) (ps : List Parameter). cond (defines g (inst ws)) (cond (is_function (inst ws)) (leading_parameters js) []) ps) w h.0
          ∙ ap (λ ps. cond (defines g i) (cond (is_function i) ps []) (found_parameters g is)) h.1,
      ap₂ (λ (ws : List ℕ) (ps : List Parameter). cond (is_line (inst ws)) ps (cond (is_parameter (inst ws)) (parameter (inst ws) ∷ ps) [])) w h.1,
    )

    pub same_parameters : parameters_of t.after g ≡ parameters_of t.before g
    same_parameters = parameters_found g t.after ∙ (along t SameFound (refl, refl) found_adds found_keeps).0 ∙ sym (parameters_found g t.before)

  -- ---- parameters are other ids, with other types

  abbrev Stay : Parameter → Type 0
  Stay p = In t p.id × In t p.ty

  parameter_stays : (i : Instruction) → FactOf t i → (opcode i == op.FUNCTION_PARAMETER) ≡ true → Stay (parameter i)
  parameter_stays i f h =
      let is : opcode i ≡ op.FUNCTION_PARAMETER = eqb-true (opcode i) op.FUNCTION_PARAMETER h in
      let typed : row_test first_typed (row_of (opcode i)) ≡ true = ap (λ o. row_test first_typed (row_of o)) is ∙ parameter_typed in
      let t = typed-words i (opcode i) f.whole refl typed in
      let defined : word_with is_defined_id i ≡ Some (slice_index (drop 1 i.words) 1) = defined-typed i f.whole typed in
      let third : slice_index (drop 1 i.words) 1 ≡ slice_index i.words 2 =
      ap (λ ws. slice_index (drop 1 ws) 1) t.words_are ∙ sym (ap (λ ws. slice_index ws 2) t.words_are) in (
        defines_others _ i f.free (slice_index i.words 2)
            (ap (λ o. option_map_or (nat_eq (slice_index i.words 2)) o false) (defined ∙ ap Some third) ∙ itself (slice_index i.words 2)),
        first_type _ i t f.free.used,
      )

  leading_stay : (is : List Instruction) → AllByRecursion (FactOf t) is → AllByRecursion Stay (leading_parameters is)
  leading_stay [] all = tt
  leading_stay (i ∷ is) all = by (is_line i) (is_parameter i) refl (leading_stay is all.1)
    where
      by : (l p : Bool) → is_parameter i ≡ p → AllByRecursion Stay (leading_parameters is)
          → AllByRecursion Stay (cond l (leading_parameters is) (cond p (parameter i ∷ leading_parameters is) []))
      by true p e more = more
      by false true e more = (parameter_stays i all.0 e, more)
      by false false e more = tt

  found_stay : (g : ℕ) (is : List Instruction) → AllByRecursion (FactOf t) is → AllByRecursion Stay (found_parameters g is)
  found_stay g [] all = tt
  found_stay g (i ∷ is) all = by (defines g i) (is_function i) (leading_stay is all.1) (found_stay g is all.1)
    where
      by : (d f : Bool) → AllByRecursion Stay (leading_parameters is) → AllByRecursion Stay (found_parameters g is)
          → AllByRecursion Stay (cond d (cond f (leading_parameters is) []) (found_parameters g is))
      by true true here more = here
      by true false here more = tt
      by false f here more = more

  pub parameters_stay : (g : ℕ) → AllByRecursion Stay (parameters_of t.before g)
  parameters_stay g = subst (AllByRecursion Stay) (sym (parameters_found g t.before)) (found_stay g t.before t.facts)
