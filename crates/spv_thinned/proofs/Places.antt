-- What stays is defined outside functions in both or in neither, and functions have the same parameters.
use Rattle.std.proofs.Common.{◌≡◌, ℕ, suc, Bool, true, false, cond, ◌==◌, ◌||◌, List, [], ◌∷◌, drop, Option, Some, None, refl, sym, ap, ap₂, subst, ◌∙◌, true≢false, eqb-true, nat_eq, arith}
use Rattle.std.specs.List.{AllByRecursion, list_all, slice_index}
use Rattle.std.specs.Option.{option_map, option_map_or}
use Rattle.std.proofs.lemmas.Bool.Decides.{nat_tests}
use Rattle.spv_opcodes.specs.declared.op.TheConstants as op
use Rattle.spv_grammar.specs.Table.{row_of}
use Rattle.spv_grammar.specs.Roles.{is_defined_id}
use Rattle.spv_grammar.specs.declared.kind.Role.{Role}
use Rattle.spv_module.specs.Code.{is_function, is_line}
use Rattle.spv_module.specs.Instruction.{Instruction, opcode, roles, word_with}
use Rattle.spv_ids.specs.Ids.{defines, place_of, used_ids}
use Rattle.spv_ids.proofs.Places.{position-cons}
use Rattle.spv_typing.specs.Kinds.{is_one_of, is_outside}
use Rattle.spv_declarations.proofs.Parts.{TypedWords, first_typed, row_test, used_in, typed-words, defined-typed}
use Rattle.spv_signatures.specs.declared.parameters.Parameter.{Parameter}
use Rattle.spv_signatures.specs.Functions.{is_parameter, leading_parameters, parameter, parameters_at, parameters_of}
use Rattle.spv_alike_uses.specs.Alike.{Stays}
use Rattle.spv_alike_uses.proofs.Lookups.{each}
use Rattle.spv_thinned.specs.Thinned.{IsThinned, lasting_kinds}
use Rattle.spv_thinned.proofs.Walk.{BehindNone, behind_none, inst, walk}
use Rattle.spv_thinned.proofs.Definitions.{Fact, defines_none}

-- ---- parameters, along the instructions

abbrev found_parameters : (f : ℕ) → List Instruction → List Parameter
found_parameters f [] = []
found_parameters f (i ∷ is) = cond (defines f i) (cond (is_function i) (leading_parameters is) []) (found_parameters f is)

later_at : (i : Instruction) (is : List Instruction) (p : Option ℕ) → option_map_or (parameters_at (i ∷ is)) (option_map (λ k. suc k) p) [] ≡ option_map_or (parameters_at is) p []
later_at i is None = refl
later_at i is (Some k) = refl

parameters_found : (f : ℕ) (is : List Instruction) → parameters_of is f ≡ found_parameters f is
parameters_found f [] = refl
parameters_found f (i ∷ is) =
    ap (λ p. option_map_or (parameters_at (i ∷ is)) p []) (position-cons (defines f) i is) ∙ by (defines f i) (later_at i is (place_of is f) ∙ parameters_found f is)
  where
    by : (b : Bool) → option_map_or (parameters_at (i ∷ is)) (option_map (λ k. suc k) (place_of is f)) [] ≡ found_parameters f is
        → option_map_or (parameters_at (i ∷ is)) (cond b (Some 0) (option_map (λ k. suc k) (place_of is f))) []
        ≡ cond b (cond (is_function i) (leading_parameters is) []) (found_parameters f is)
    by true more = refl
    by false more = more

parameter_typed : row_test first_typed (row_of op.FUNCTION_PARAMETER) ≡ true
unfolding row_of
parameter_typed = refl

pub itself : (k : ℕ) → nat_eq k k ≡ true
itself k = grind (arith, nat_tests)

-- the type of an instruction is used
pub first_type : (gone : ℕ → Bool) (i : Instruction) → TypedWords i.words (roles i) → AllByRecursion (Stays gone) (used_ids i) → Stays gone (slice_index i.words 1)
first_type gone i t all =
    subst (λ (ws : List ℕ). Stays gone (slice_index ws 1)) (sym t.words_are)
    (subst (λ (rs : List Role). AllByRecursion (Stays gone) (used_in rs (t.word ∷ t.type ∷ t.result ∷ t.rest))) t.parts_are
    (subst (λ (ws : List ℕ). AllByRecursion (Stays gone) (used_in (roles i) ws)) t.words_are all)).0

module _ (gone : ℕ → Bool) (keep : Instruction → Bool) (before after : List Instruction) (thin : IsThinned gone keep before after)
    (facts : AllByRecursion (Fact gone keep before) before) where
  abbrev F : Instruction → Type 0
  F i = Fact gone keep before i

  -- opcodes of which nothing is dropped
  pub not_dropped : (os : List ℕ) → list_all (is_one_of lasting_kinds) os ≡ true → (i : Instruction) → F i → keep i ≡ false → is_one_of os (opcode i) ≡ false
  not_dropped os all i f e = by (is_one_of os (opcode i)) refl
    where
      by : (b : Bool) → is_one_of os (opcode i) ≡ b → b ≡ false
      by true h = absurd (true≢false (sym (each (is_one_of lasting_kinds) os all (opcode i) h) ∙ (f.dropped e).passing))
      by false h = refl

  pub or_false : (b : Bool) → (b || false) ≡ false → b ≡ false
  or_false true h = h
  or_false false h = h

  pub no_function : (i : Instruction) → F i → keep i ≡ false → is_function i ≡ false
  no_function i f e = or_false (is_function i) (not_dropped (op.FUNCTION ∷ []) refl i f e)

  no_parameter : (i : Instruction) → F i → keep i ≡ false → is_parameter i ≡ false
  no_parameter i f e = or_false (is_parameter i) (not_dropped (op.FUNCTION_PARAMETER ∷ []) refl i f e)

  -- ---- outside functions

  module _ (id : ℕ) (s : Stays gone id) where
    abbrev SameOutside : List Instruction → List Instruction → Type 0
    SameOutside is js = is_outside js id ≡ is_outside is id

    pub same_outside : is_outside after id ≡ is_outside before id
    same_outside =
        walk keep F SameOutside refl
        (λ i is js f e h. h ∙ sym (ap₂ (λ (a b : Bool). cond a false (cond b true (is_outside is id))) (no_function i f e) (defines_none gone keep before facts id s i f e)))
        (λ i j is js f e w h. ap₂ (λ (ws : List ℕ) (b : Bool). cond (is_function (inst ws)) false (cond (defines id (inst ws)) true b)) w h)
        before after facts thin.words

  -- ---- parameters

  abbrev SameLeading : List Instruction → List Instruction → Type 0
  SameLeading is js = BehindNone keep is → leading_parameters js ≡ leading_parameters is

  leading_drops : (i : Instruction) (is js : List Instruction) → F i → keep i ≡ false → SameLeading is js → SameLeading (i ∷ is) js
  leading_drops i is js f e h behind = h behind.1 ∙ by (is_line i) refl
    where
      by : (b : Bool) → is_line i ≡ b → leading_parameters is ≡ cond b (leading_parameters is) (cond (is_parameter i) (parameter i ∷ leading_parameters is) [])
      by true l = refl
      by false l = behind.0 e l ∙ sym (ap (λ (b : Bool). cond b (parameter i ∷ leading_parameters is) []) (no_parameter i f e))

  leading_keeps : (i j : Instruction) (is js : List Instruction) → F i → keep i ≡ true → j.words ≡ i.words → SameLeading is js → SameLeading (i ∷ is) (j ∷ js)
  leading_keeps i j is js f e w h behind =
      ap₂ (λ (ws : List ℕ) (ps : List Parameter). cond (is_line (inst ws)) ps (cond (is_parameter (inst ws)) (parameter (inst ws) ∷ ps) [])) w (h behind.1)

  module _ (g : ℕ) (s : Stays gone g) where
    -- behind each place, too
    abbrev SameFound : List Instruction → List Instruction → Type 0
    SameFound is js = BehindNone keep is → (found_parameters g js ≡ found_parameters g is) × (leading_parameters js ≡ leading_parameters is)

    pub same_parameters : parameters_of after g ≡ parameters_of before g
    same_parameters =
        parameters_found g after
        ∙ (walk keep F SameFound (λ h. (refl, refl))
        (λ i is js f e h b. (
          (h b.1).0 ∙ sym (ap (λ (d : Bool). cond d (cond (is_function i) (leading_parameters is) []) (found_parameters g is)) (defines_none gone keep before facts g s i f e)),
          leading_drops i is js f e (λ b. (h b).1) b,
        ))
        (λ i j is js f e w h b. (
          ap₂ (λ (ws : List ℕ) (ps : List Parameter). cond (defines g (inst ws)) (cond (is_function (inst ws)) (leading_parameters js) []) ps) w (h b.1).0
              ∙ ap (λ ps. cond (defines g i) (cond (is_function i) ps []) (found_parameters g is)) (h b.1).1,
          leading_keeps i j is js f e w (λ b. (h b).1) b,
        ))
        before after facts thin.words (behind_none keep before thin.parameters)).0
        ∙ sym (parameters_found g before)

  -- ---- parameters stay, with their types

  abbrev Stay : Parameter → Type 0
  Stay p = Stays gone p.id × Stays gone p.ty

  parameter_stays : (i : Instruction) → F i → (opcode i == op.FUNCTION_PARAMETER) ≡ true → Stay (parameter i)
  parameter_stays i f h = by (keep i) refl
    where
      is : opcode i ≡ op.FUNCTION_PARAMETER
      is = eqb-true (opcode i) op.FUNCTION_PARAMETER h

      by : (b : Bool) → keep i ≡ b → Stay (parameter i)
      by false e = absurd (true≢false (sym h ∙ no_parameter i f e))
      by true e =
          let kept = f.kept e in
          let typed : row_test first_typed (row_of (opcode i)) ≡ true = ap (λ o. row_test first_typed (row_of o)) is ∙ parameter_typed in
          let t = typed-words i (opcode i) f.whole refl typed in
          let defined : word_with is_defined_id i ≡ Some (slice_index (drop 1 i.words) 1) = defined-typed i f.whole typed in
          let third : slice_index (drop 1 i.words) 1 ≡ slice_index i.words 2 = ap (λ ws. slice_index (drop 1 ws) 1) t.words_are ∙ sym (ap (λ ws. slice_index ws 2) t.words_are) in (
            kept.defined (slice_index i.words 2)
                (ap (λ o. option_map_or (nat_eq (slice_index i.words 2)) o false) (defined ∙ ap Some third) ∙ itself (slice_index i.words 2)),
            first_type gone i t kept.used,
          )

  leading_stay : (is : List Instruction) → AllByRecursion F is → AllByRecursion Stay (leading_parameters is)
  leading_stay [] all = tt
  leading_stay (i ∷ is) all = by (is_line i) (is_parameter i) refl (leading_stay is all.1)
    where
      by : (l p : Bool) → is_parameter i ≡ p → AllByRecursion Stay (leading_parameters is)
          → AllByRecursion Stay (cond l (leading_parameters is) (cond p (parameter i ∷ leading_parameters is) []))
      by true p e more = more
      by false true e more = (parameter_stays i all.0 e, more)
      by false false e more = tt

  found_stay : (g : ℕ) (is : List Instruction) → AllByRecursion F is → AllByRecursion Stay (found_parameters g is)
  found_stay g [] all = tt
  found_stay g (i ∷ is) all = by (defines g i) (is_function i) (leading_stay is all.1) (found_stay g is all.1)
    where
      by : (d f : Bool) → AllByRecursion Stay (leading_parameters is) → AllByRecursion Stay (found_parameters g is)
          → AllByRecursion Stay (cond d (cond f (leading_parameters is) []) (found_parameters g is))
      by true true here more = here
      by true false here more = tt
      by false f here more = more

  pub parameters_stay : (g : ℕ) → AllByRecursion Stay (parameters_of before g)
  parameters_stay g = subst (AllByRecursion Stay) (sym (parameters_found g before)) (found_stay g before facts)
