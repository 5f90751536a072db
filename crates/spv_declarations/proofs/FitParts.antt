-- What the operands of an operation keep to that fit it, part by part.
use Rattle.std.proofs.Common.{◌≡◌, ℕ, ◌+◌, true, ◌==◌, ◌&&◌, ◌||◌, nat_lt, List, [], ◌∷◌, length, refl}
use Rattle.std.specs.Option.{is_some}
use Rattle.std.specs.List.{list_all}
use Rattle.std.proofs.lemmas.Bool.{and_parts}
use Rattle.spv_module.specs.Instruction.{Instruction}
use Rattle.spv_typing.specs.Kinds.{is_vector, is_constant, has_type, type_of, component, component_count}
use Rattle.spv_typing.specs.declared.operations.Form.TheVariants.{Selects, Shuffles, Extracts, Inserts}
use Rattle.spv_typing.specs.Operations.{shape, has_shape, count_of, part_along, leads_to, literals_lead, picks, all_pick, components_of, condition_fits, is_vector_of, operands_fit}

pub selects-parts : (insts : List Instruction) (t c a b : ℕ) → operands_fit insts Selects t (c ∷ a ∷ b ∷ []) ≡ true →
    (is_some (shape insts t)
    && (is_constant insts c && is_constant insts a && is_constant insts b)
    && (type_of insts a == t && type_of insts b == t)
    && (has_shape true 1 (shape insts (type_of insts c)) || has_shape true (count_of (shape insts t)) (shape insts (type_of insts c)))) ≡ true
selects-parts insts t c a b h =
    let some = and_parts (is_some (shape insts t)) (condition_fits insts (count_of (shape insts t)) c && (has_type insts t a && has_type insts t b)) h in
    let both = and_parts (condition_fits insts (count_of (shape insts t)) c) (has_type insts t a && has_type insts t b) some.1 in
    let values = and_parts (has_type insts t a) (has_type insts t b) both.1 in
    let condition = and_parts (is_constant insts c) (has_shape true 1 (shape insts (type_of insts c)) || has_shape true (count_of (shape insts t)) (shape insts (type_of insts c))) both.0 in
    let first = and_parts (is_constant insts a) (type_of insts a == t) values.0 in
    let other = and_parts (is_constant insts b) (type_of insts b == t) values.1 in
    rw (some.0, condition.0, condition.1, first.0, first.1, other.0, other.1) refl

pub shuffles-parts : (insts : List Instruction) (t a b : ℕ) (literals : List ℕ) → operands_fit insts Shuffles t (a ∷ b ∷ literals) ≡ true →
    (is_vector insts t
    && (is_constant insts a && is_constant insts b)
    && (is_vector insts (type_of insts a) && is_vector insts (type_of insts b))
    && (component insts (type_of insts a) == component insts t && component insts (type_of insts b) == component insts t)
    && length literals == component_count insts t
    && list_all (picks (component_count insts (type_of insts a) + component_count insts (type_of insts b))) literals) ≡ true
shuffles-parts insts t a b literals h =
    let x = component insts t in
    let last = length literals == component_count insts t && all_pick (components_of insts a b) literals in
    let all = and_parts (is_vector insts t) (is_vector_of insts x a && (is_vector_of insts x b && last)) h in
    let first = and_parts (is_vector_of insts x a) (is_vector_of insts x b && last) all.1 in
    let other = and_parts (is_vector_of insts x b) last first.1 in
    let of_a = and_parts (is_constant insts a) (is_vector insts (type_of insts a) && component insts (type_of insts a) == x) first.0 in
    let of_b = and_parts (is_constant insts b) (is_vector insts (type_of insts b) && component insts (type_of insts b) == x) other.0 in
    let vector_a = and_parts (is_vector insts (type_of insts a)) (component insts (type_of insts a) == x) of_a.1 in
    let vector_b = and_parts (is_vector insts (type_of insts b)) (component insts (type_of insts b) == x) of_b.1 in
    let counts = and_parts (length literals == component_count insts t) (all_pick (components_of insts a b) literals) other.1 in
    rw (all.0, of_a.0, of_b.0, vector_a.0, vector_a.1, vector_b.0, vector_b.1, counts.0, counts.1) refl

pub extracts-parts : (insts : List Instruction) (t c : ℕ) (literals : List ℕ) → operands_fit insts Extracts t (c ∷ literals) ≡ true →
    (is_some (shape insts t) && is_constant insts c && nat_lt 0 (length literals) && leads_to t (part_along insts literals (type_of insts c))) ≡ true
extracts-parts insts t c literals h =
    let some = and_parts (is_some (shape insts t)) (is_constant insts c && literals_lead insts literals (type_of insts c) t) h in
    let both = and_parts (is_constant insts c) (literals_lead insts literals (type_of insts c) t) some.1 in
    let lead = and_parts (nat_lt 0 (length literals)) (leads_to t (part_along insts literals (type_of insts c))) both.1 in
    rw (some.0, both.0, lead.0, lead.1) refl

pub inserts-parts : (insts : List Instruction) (t o c : ℕ) (literals : List ℕ) → operands_fit insts Inserts t (o ∷ c ∷ literals) ≡ true →
    (is_some (shape insts t)
    && (is_constant insts o && is_constant insts c)
    && type_of insts c == t
    && nat_lt 0 (length literals)
    && leads_to (type_of insts o) (part_along insts literals t)) ≡ true
inserts-parts insts t o c literals h =
    let some = and_parts (is_some (shape insts t)) (is_constant insts o && (has_type insts t c && literals_lead insts literals t (type_of insts o))) h in
    let object = and_parts (is_constant insts o) (has_type insts t c && literals_lead insts literals t (type_of insts o)) some.1 in
    let other = and_parts (has_type insts t c) (literals_lead insts literals t (type_of insts o)) object.1 in
    let composite = and_parts (is_constant insts c) (type_of insts c == t) other.0 in
    let lead = and_parts (nat_lt 0 (length literals)) (leads_to (type_of insts o) (part_along insts literals t)) other.1 in
    rw (some.0, object.0, composite.0, composite.1, lead.0, lead.1) refl
