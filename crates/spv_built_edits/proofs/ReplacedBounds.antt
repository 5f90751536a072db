-- Words in which other values stand are an instruction of the profile again: what stands there is defined, so it is an id in bound.
use Rattle.std.proofs.Common.{◌≡◌, inl, inr, ℕ, suc, ◌^◌, ◌<◌, Bool, true, false, cond, ◌&&◌, ◌||◌, List, [], ◌∷◌, ◌++◌, Option, Some, None, refl, sym, ap, subst, ◌∙◌, true≢false, eqb-true}
use Rattle.std.specs.Prelude.{nat_eq}
use Rattle.std.specs.List.{AllByRecursion, list_any, position, slice_get, zip}
use Rattle.std.specs.Option.{is_some, option_and_then, option_map, option_map_or}
use Rattle.std.proofs.lemmas.Bool.{or_parts}
use Rattle.spv_grammar.specs.declared.kind.Role.{Role}
use Rattle.spv_grammar.specs.declared.kind.Role.TheVariants.{DefinedId, UsedId}
use Rattle.spv_grammar.specs.Operands.{count_of}
use Rattle.spv_grammar.specs.Roles.{is_defined_id, names_id}
use Rattle.spv_module.specs.Instruction.{Instruction, IsInstruction, bound_rule, enumerant_rule, instruction_rules, is_out_of_bound, part_rules, roles, roles_rules, string_rule}
use Rattle.spv_module.proofs.Ids.{first_nil, is_bad_part, no_bad_part, no_bad_parts, second_nil}
use Rattle.spv_ids.specs.Ids.{defines}
use Rattle.spv_ids.proofs.Places.{position-cons}
use Rattle.spv_values.specs.Values.{value_type}
use Rattle.spv_typed_trees.specs.Typed.{as_instruction}
use Rattle.spv_replaced_values.specs.Replaced.{ReplacesWords, may_stand, stands_in}
use Rattle.spv_replaced_values.proofs.Fixed.{Case, code, first_stays}
use Rattle.spv_replaced_values.proofs.Standing.{no_value_stays, same_type}
use Rattle.spv_built_edits.proofs.ReplacedLines.{Becomes}
use Rattle.spv_built_edits.proofs.ReplacedParts.{as_long, same_answer, same_roles, shift, steady_by}
use Rattle.spv_built_edits.proofs.ReplacedChanges.{stays_or_changes, value_defined}

-- an id in bound
abbrev IsIn : ℕ → Type 0
IsIn id = is_out_of_bound (2 ^ 32) id ≡ false

abbrev bad : Role × ℕ → Bool
bad = is_bad_part (2 ^ 32)

and_false : (a b : Bool) → a ≡ true → (a && b) ≡ false → b ≡ false
and_false true b e h = h
and_false false b e h = absurd (true≢false (sym e))

-- ---- what is defined

defined_names : (r : Role) → is_defined_id r ≡ true → names_id r ≡ true
defined_names DefinedId h = refl
defined_names r h = absurd (true≢false (sym h))

module _ (y : ℕ) where
  abbrev IsWord : Option ℕ → Type 0
  IsWord o = option_map_or (nat_eq y) o false ≡ true

  no_word : (p : Option ℕ) → IsWord (option_and_then (slice_get []) p) → IsIn y
  no_word None h = absurd (true≢false (sym h))
  no_word (Some k) h = absurd (true≢false (sym h))

  -- the result of an instruction; induction on the words
  result_in : (rs : List Role) (ws : List ℕ) → list_any bad (zip rs ws) ≡ false → IsWord (option_and_then (slice_get ws) (position is_defined_id rs)) → IsIn y
  result_in [] ws none h = absurd (true≢false (sym h))
  result_in (r ∷ rs) [] none h = no_word (position is_defined_id (r ∷ rs)) h
  result_in (r ∷ rs) (w ∷ ws) none h =
      let parts = or_parts (bad (r, w)) (list_any bad (zip rs ws)) none in
      by (result_in rs ws parts.1) parts.0 (is_defined_id r) refl
      (subst (λ (o : Option ℕ). IsWord (option_and_then (slice_get (w ∷ ws)) o)) (position-cons is_defined_id r rs) h)
    where
      by : (IsWord (option_and_then (slice_get ws) (position is_defined_id rs)) → IsIn y) → bad (r, w) ≡ false → (b : Bool) → is_defined_id r ≡ b
          → IsWord (option_and_then (slice_get (w ∷ ws)) (cond b (Some 0) (option_map (λ k. suc k) (position is_defined_id rs)))) → IsIn y
      by more fine true e k =
          ap (is_out_of_bound (2 ^ 32)) (eqb-true y w k) ∙ and_false (names_id r) (is_out_of_bound (2 ^ 32) w) (defined_names r e) fine
      by more fine false e k = more (subst IsWord (shift [] w ws (position is_defined_id rs)) k)

abbrev Whole : Instruction → Type 0
Whole i = IsInstruction i.words (roles i)

defined_in_bound : (y : ℕ) (is : List Instruction) → AllByRecursion Whole is → list_any (defines y) is ≡ true → IsIn y
defined_in_bound y [] whole h = absurd (true≢false (sym h))
defined_in_bound y (i ∷ is) whole h = by (defined_in_bound y is whole.1) (defines y i) refl h
  where
    by : (list_any (defines y) is ≡ true → IsIn y) → (b : Bool) → defines y i ≡ b → (b || list_any (defines y) is) ≡ true → IsIn y
    by more true e k = result_in y (roles i) i.words (no_bad_parts (2 ^ 32) i.words (roles i) whole.0.parted whole.0.unbroken) e
    by more false e k = more k

-- what stands for an id in bound is in bound
near_in_bound : (insts : List Instruction) → AllByRecursion Whole insts → (x y : ℕ) → stands_in insts x y ≡ true → IsIn x → IsIn y
near_in_bound insts whole x y near fine = by (value_type insts x) refl
  where
    by : (o : Option ℕ) → value_type insts x ≡ o → IsIn y
    by None e = ap (is_out_of_bound (2 ^ 32)) (no_value_stays insts x y e near) ∙ fine
    by (Some t) e = defined_in_bound y insts whole (value_defined insts y (ap (λ (o : Option ℕ). is_some o) (same_type insts x y near ∙ e)))

-- ---- words

module _ (insts : List Instruction) (near : (x y : ℕ) → stands_in insts x y ≡ true → IsIn x → IsIn y) where
  part_in_bound : (r : Role) (w v : ℕ) → may_stand insts r w v ≡ true → bad (r, w) ≡ false → bad (r, v) ≡ false
  part_in_bound UsedId w v h fine = near w v h fine
  part_in_bound r w v h fine = ap (λ (n : ℕ). bad (r, n)) (eqb-true v w h) ∙ fine

  -- induction on the words
  all_in_bound : (rs : List Role) (ws vs : List ℕ) → ReplacesWords insts rs ws vs → list_any bad (zip rs ws) ≡ false → list_any bad (zip rs vs) ≡ false
  all_in_bound [] [] [] h none = refl
  all_in_bound (r ∷ rs) (w ∷ ws) (v ∷ vs) h none =
      let parts = or_parts (bad (r, w)) (list_any bad (zip rs ws)) none in
      (λ i. part_in_bound r w v h.0 parts.0 i || all_in_bound rs ws vs h.1 parts.1 i)
  all_in_bound rs ws vs h none = absurd h

  rules_again : (rules : List ℕ) (rs : List Role) (ws vs : List ℕ) → ReplacesWords insts rs ws vs → part_rules rules (2 ^ 32) rs ws ≡ []
      → part_rules rules (2 ^ 32) rs vs ≡ []
  rules_again [] rs ws vs h e =
      let none = no_bad_part (list_any bad (zip rs ws)) 103 (first_nil (bound_rule (2 ^ 32) rs ws) (enumerant_rule rs) e) in
      ap (λ (b : Bool). cond b (103 ∷ []) [] ++ enumerant_rule rs) (all_in_bound rs ws vs h none)
      ∙ second_nil (bound_rule (2 ^ 32) rs ws) (enumerant_rule rs) e
  rules_again (rule ∷ rules) rs ws vs h e = e

module _ (c : Case) (steady : steady_by (code c) ≡ true) (near : (x y : ℕ) → stands_in c.insts x y ≡ true → IsIn x → IsIn y) where
  unbroken_again : instruction_rules (2 ^ 32) c.others ≡ []
  unfolding instruction_rules
  unbroken_again =
      let rs = roles (as_instruction c.words) in
      ap (roles_rules (2 ^ 32) c.others) (same_answer c steady)
      ∙ rules_again c.insts near (string_rule rs) rs c.words c.others c.replaces.replaced
      (sym (ap (roles_rules (2 ^ 32) c.words) c.replaces.whole.parted) ∙ c.replaces.whole.unbroken)

  whole_again : IsInstruction c.others (roles (as_instruction c.others))
  whole_again =
      let rs = roles (as_instruction c.words) in
      let long = as_long c.insts rs c.words c.others c.replaces.replaced in
      subst (λ (rs : List Role). IsInstruction c.others rs) (sym (same_roles c steady)) (record {
        some = subst (λ (n : ℕ). 0 < n) (sym long) c.replaces.whole.some;
        counted = ap count_of (first_stays c c.words rs c.replaces.whole.parted c.replaces.replaced) ∙ c.replaces.whole.counted ∙ sym long;
        parted = same_answer c steady;
        long = c.replaces.whole.long ∙ sym long;
        unbroken = unbroken_again;
      })

-- what a line becomes is an instruction
pub becomes_whole : (insts : List Instruction) → AllByRecursion Whole insts → (i j : Instruction) → Whole i → Becomes insts i.words j.words → Whole j
becomes_whole insts all i j whole b = elim (stays_or_changes insts i.words j.words whole b) [
  | inl e ↦ subst (λ (ws : List ℕ). IsInstruction ws (roles (as_instruction ws))) (sym e) whole
  | inr c ↦
      whole_again (record { insts = insts; words = i.words; others = j.words; replaces = c.replaces }) c.steady (near_in_bound insts all)
]
