-- The rules on ids, from the places of definitions.
use Rattle.std.proofs.Common.{◌≡◌, ℕ, Bool, true, false, cond, ◌&&◌, ◌||◌, not, nat_lt, nat_le, List, [], ◌∷◌, map, Option, Some, None, refl, sym, ap, ◌∙◌, arith}
use Rattle.std.specs.List.{filter, list_any, zip}
use Rattle.std.specs.Option.{is_some, option_map_or}
use Rattle.std.proofs.lemmas.Bool.Decides.{nat_tests}
use Rattle.spv_grammar.specs.declared.kind.Role.{Role}
use Rattle.spv_grammar.specs.Operands.{roles_of}
use Rattle.spv_grammar.specs.Roles.{is_defined_id}
use Rattle.spv_module.specs.Instruction.{Instruction, parts, word_with}
use Rattle.spv_ids.specs.Ids.{defines, place_of, is_defined_before, is_second, is_unknown, is_needed, used_ids}
use Rattle.spv_ids.proofs.Places.{any-take, any-position}

-- a second definition, from the place of the first
pub second-at : (insts : List Instruction) (k : ℕ) (i : Instruction) (id : ℕ) (place : Option ℕ) → word_with is_defined_id i ≡ Some id → place ≡ place_of insts id → option_map_or (λ n. nat_lt n k) place false ≡ is_second insts k i
second-at insts k i id place e f =
    ap (λ (o : Option ℕ). option_map_or (λ n. nat_lt n k) o false) f
    ∙ sym (any-take (defines id) insts k)
    ∙ sym (ap (λ (o : Option ℕ). option_map_or (is_defined_before insts k) o false) e)

unknown_cases : (early : Bool) (k : ℕ) (place : Option ℕ) → option_map_or (λ n. early && nat_le k n) place true ≡ (not (is_some place) || (early && not (option_map_or (λ n. nat_lt n k) place false)))
unknown_cases true k None = refl
unknown_cases false k None = refl
unknown_cases true k (Some n) = grind (arith, nat_tests)
unknown_cases false k (Some n) = refl

-- an unknown id, from the place of its definition
pub unknown-at : (insts : List Instruction) (early : Bool) (k id : ℕ) (place : Option ℕ) → place ≡ place_of insts id → option_map_or (λ n. early && nat_le k n) place true ≡ is_unknown insts early k id
unknown-at insts early k id place e =
    unknown_cases early k place
    ∙ ap (λ (o : Option ℕ). not (is_some o) || (early && not (option_map_or (λ n. nat_lt n k) o false))) e
    ∙ ap (λ (b : Bool). not b || (early && not (option_map_or (λ n. nat_lt n k) (place_of insts id) false))) (sym (any-position (defines id) insts))
    ∙ ap (λ (b : Bool). not (list_any (defines id) insts) || (early && not b)) (sym (any-take (defines id) insts k))

needed_cons : (test : ℕ → Bool) (needed : Bool) (part : Role × ℕ) (rest : List (Role × ℕ)) →
    ((needed && test part.1) || list_any test (map (λ (p : Role × ℕ). p.1) rest)) ≡ list_any test (map (λ (p : Role × ℕ). p.1) (cond needed (part ∷ rest) rest))
needed_cons test true part rest = refl
needed_cons test false part rest = refl

-- induction on the parts
any_needed : (test : ℕ → Bool) (ps : List (Role × ℕ)) → list_any (λ part. is_needed part.0 && test part.1) ps ≡ list_any test (map (λ part. part.1) (filter (λ part. is_needed part.0) ps))
any_needed test [] = refl
any_needed test (p ∷ ps) =
    ap (λ (b : Bool). (is_needed p.0 && test p.1) || b) (any_needed test ps) ∙ needed_cons test (is_needed p.0) p (filter (λ part. is_needed part.0) ps)

-- the needed ids of an instruction, from its parts
pub any-of_parts : (test : ℕ → Bool) (i : Instruction) (rs : List Role) → parts (roles_of i.words) ≡ rs → list_any (λ part. is_needed part.0 && test part.1) (zip rs i.words) ≡ list_any test (used_ids i)
any-of_parts test i rs e =
    ap (λ (roles : List Role). list_any (λ part. is_needed part.0 && test part.1) (zip roles i.words)) (sym e) ∙ any_needed test (zip (parts (roles_of i.words)) i.words)
