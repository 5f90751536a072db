-- What an instruction and what it becomes have in common.
use Rattle.std.proofs.Common.{◌≡◌, inl, inr, ℕ, Bool, true, false, cond, ◌==◌, ◌||◌, List, None, Option, refl, sym, ap, ap₂, ◌∙◌, true≢false, eqb-true}
use Rattle.std.specs.List.{slice_index}
use Rattle.std.specs.Option.{option_map_or}
use Rattle.std.specs.Prelude.{nat_eq}
use Rattle.spv_opcodes.specs.declared.op.TheConstants as op
use Rattle.spv_grammar.specs.Roles.{is_defined_id}
use Rattle.spv_module.specs.Code.{is_function, is_line}
use Rattle.spv_module.specs.Instruction.{Instruction, opcode, word_with}
use Rattle.spv_module.specs.Layout.{is_entry_point}
use Rattle.spv_ids.specs.Ids.{defines}
use Rattle.spv_typing.specs.Kinds.{is_one_of}
use Rattle.spv_values.specs.Values.{given_type}
use Rattle.spv_alike_uses.specs.Alike.{firm_kinds}
use Rattle.spv_alike_uses.proofs.Lookups.{each}
use Rattle.spv_entries.specs.Names.{entry_name}
use Rattle.spv_thinned.proofs.Walk.{inst}
use Rattle.spv_rewritten.specs.Rewritten.{IsRewrittenAs, settled_kinds}

pub firm_settled : (o : ℕ) → is_one_of firm_kinds o ≡ true → is_one_of settled_kinds o ≡ true
firm_settled o h = each (is_one_of settled_kinds) firm_kinds refl o h

-- what is not settled has the opcode of nothing that is
pub not_settled : (x o : ℕ) → is_one_of settled_kinds x ≡ true → is_one_of settled_kinds o ≡ false → (o == x) ≡ false
not_settled x o s h = by (o == x) refl
  where
    by : (b : Bool) → (o == x) ≡ b → b ≡ false
    by true e = absurd (true≢false (sym (ap (is_one_of settled_kinds) (eqb-true o x e) ∙ s) ∙ h))
    by false e = refl

-- and is none of them
pub none_settled : (xs : List ℕ) (o : ℕ) → ((n : ℕ) → is_one_of xs n ≡ true → is_one_of settled_kinds n ≡ true) → is_one_of settled_kinds o ≡ false
    → is_one_of xs o ≡ false
none_settled xs o s h = by (is_one_of xs o) refl
  where
    by : (b : Bool) → is_one_of xs o ≡ b → b ≡ false
    by true e = absurd (true≢false (sym (s o e) ∙ h))
    by false e = refl

module _ (b : List Instruction) (i j : Instruction) where
  pub same_opcode : IsRewrittenAs b i j → opcode j ≡ opcode i
  same_opcode (inl e) = ap (λ ws. opcode (inst ws)) e
  same_opcode (inr c) = c.kind

  pub settled_same : IsRewrittenAs b i j → is_one_of settled_kinds (opcode i) ≡ true → j.words ≡ i.words
  settled_same (inl e) s = e
  settled_same (inr c) s = absurd (true≢false (sym s ∙ c.passing))

  -- by one opcode
  pub same_where : (o : ℕ) → is_one_of settled_kinds o ≡ true → IsRewrittenAs b i j → (opcode i == o) ≡ true → j.words ≡ i.words
  same_where o s r h = settled_same r (ap (is_one_of settled_kinds) (eqb-true (opcode i) o h) ∙ s)

  pub same_result : IsRewrittenAs b i j → word_with is_defined_id j ≡ word_with is_defined_id i
  same_result (inl e) = ap (λ ws. word_with is_defined_id (inst ws)) e
  same_result (inr c) = c.result

  pub same_defines : IsRewrittenAs b i j → (id : ℕ) → defines id j ≡ defines id i
  same_defines r id = ap (λ o. option_map_or (nat_eq id) o false) (same_result r)

  pub same_given : IsRewrittenAs b i j → given_type j ≡ given_type i
  same_given (inl e) = ap (λ ws. given_type (inst ws)) e
  same_given (inr c) = ap₂ (λ (o : ℕ) (t : Option ℕ). cond (o == op.FUNCTION) None t) c.kind c.type

  pub same_function : IsRewrittenAs b i j → is_function j ≡ is_function i
  same_function r = ap (λ (o : ℕ). o == op.FUNCTION) (same_opcode r)

  pub same_line : IsRewrittenAs b i j → is_line j ≡ is_line i
  same_line r = ap (λ (o : ℕ). o == op.LINE || o == op.NO_LINE) (same_opcode r)

  pub same_entry_point : IsRewrittenAs b i j → is_entry_point j ≡ is_entry_point i
  same_entry_point r = ap (λ (o : ℕ). o == op.ENTRY_POINT) (same_opcode r)

  -- an entry point is that of the same function, by the same name
  pub entry_function_same : IsRewrittenAs b i j → is_entry_point i ≡ true → slice_index j.words 2 ≡ slice_index i.words 2
  entry_function_same (inl e) h = ap (λ ws. slice_index ws 2) e
  entry_function_same (inr c) h = c.entry h

  pub entry_name_same : IsRewrittenAs b i j → is_entry_point i ≡ true → entry_name j ≡ entry_name i
  entry_name_same (inl e) h = ap (λ ws. entry_name (inst ws)) e
  entry_name_same (inr c) h = c.name h

-- what is told of an instruction by its words where it has an opcode that is settled, and is the same for all others
pub by_opcode : {A : Type 0} (o : ℕ) → is_one_of settled_kinds o ≡ true → (q : Bool → List ℕ → A) (z : A) → ((ws : List ℕ) → q false ws ≡ z)
    → (b : List Instruction) (i j : Instruction) → IsRewrittenAs b i j → q (opcode j == o) j.words ≡ q (opcode i == o) i.words
by_opcode o s q z none b i j (inl e) = ap (λ ws. q (opcode (inst ws) == o) ws) e
by_opcode o s q z none b i j (inr c) =
    ap (λ t. q t j.words) (not_settled o (opcode j) s (ap (is_one_of settled_kinds) c.kind ∙ c.passing)) ∙ none j.words ∙ sym (none i.words)
    ∙ sym (ap (λ t. q t i.words) (not_settled o (opcode i) s c.passing))
