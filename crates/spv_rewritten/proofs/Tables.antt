-- The same is declared: constants have the same meanings, and functions the same parameters.
use Rattle.std.proofs.Common.{◌≡◌, inl, inr, ℕ, zero, suc, Bool, true, false, cond, not, ◌==◌, ◌&&◌, ◌||◌, List, [], ◌∷◌, ◌++◌, length, drop, Option, Some, None, refl, sym, ap, ap₂, ◌∙◌}
use Rattle.std.specs.List.{list_any, slice_index}
use Rattle.std.specs.Option.{is_some, option_map_or}
use Rattle.spv_opcodes.specs.declared.op.TheConstants as op
use Rattle.spv_opcodes.specs.declared.decoration.TheConstants as decoration
use Rattle.spv_grammar.specs.Roles.{is_used_id}
use Rattle.spv_module.specs.Code.{is_function, is_line}
use Rattle.spv_module.specs.Instruction.{Instruction, opcode}
use Rattle.spv_meaning.specs.Meanings.{constant_words}
use Rattle.spv_meaning.specs.Statements as states
use Rattle.spv_meaning.specs.Statements.{Statement, said}
use Rattle.spv_meaning.specs.Types.{Array, Member, RuntimeArray, Struct}
use Rattle.spv_meaning.specs.Constants.{IsConstant, IsType, Table, decorated, defined, first_literal, given, length_at, meaning, member_decorated, members_of, type_at, with_entry}
use Rattle.spv_ids.specs.Ids.{place_of, words_with}
use Rattle.spv_typing.specs.Kinds.{is_one_of}
use Rattle.spv_declarations.specs.Declarations.{Declared, declare, declare_all, declared_before, entry, entry_of, is_specialised, nothing_declared, says}
use Rattle.spv_declarations.specs.Laws.{meanings}
use Rattle.spv_declarations.proofs.Whole.{declared-whole, take_all}
use Rattle.spv_types.specs.Lookup.{kind_in, known_word, specialised, word_in}
use Rattle.spv_signatures.specs.Functions.{begins_function, is_parameter, leading_parameters, parameter, parameters_at, parameters_of}
use Rattle.spv_alike_uses.proofs.Lookups.{each}
use Rattle.spv_thinned.proofs.Walk.{inst}
use Rattle.spv_rewritten.specs.Rewritten.{EachAs, IsRewritten, IsRewrittenAs, settled_kinds}
use Rattle.spv_rewritten.proofs.Common.{none_settled, same_function, same_line, same_opcode, same_where}
use Rattle.spv_rewritten.proofs.Lookups.{same_place}
use Rattle.spv_rewritten.proofs.Pairs.{each_drop, walk}
use Rattle.spv_rewritten.proofs.Statements.{rewritten_entry, same_decorations, same_members}

abbrev known_of : List ℕ → Table → (id k : ℕ) → Option ℕ
known_of ids table id k = word_in (kind_in (is_one_of ids id) (constant_words (meaning table id))) (constant_words (meaning table id)) k

and_none : (b : Bool) → (b && false) ≡ false
and_none true = refl
and_none false = refl

-- ---- what is rewritten declares nothing

by_id : List ℕ
by_id = op.SPEC_CONSTANT_TRUE ∷ op.SPEC_CONSTANT_FALSE ∷ op.SPEC_CONSTANT ∷ []

by_operands : List ℕ
by_operands = op.SPEC_CONSTANT_COMPOSITE ∷ op.SPEC_CONSTANT_OP ∷ []

not_specialised : (all : List Statement) (ids : List ℕ) (i : Instruction) → is_one_of settled_kinds (opcode i) ≡ false → is_specialised all ids i ≡ false
unfolding by_id by_operands
not_specialised all ids i h =
    ap₂ (λ (a b : Bool).
    cond a (is_some (decorated all (slice_index i.words 2) decoration.SPEC_ID)) (b && list_any (is_one_of ids) (words_with is_used_id i)))
    (none_settled by_id (opcode i) (λ n. each (is_one_of settled_kinds) by_id refl n) h)
    (none_settled by_operands (opcode i) (λ n. each (is_one_of settled_kinds) by_operands refl n) h)

declares_none : (all : List Statement) (d : Declared) (i : Instruction) → is_one_of settled_kinds (opcode i) ≡ false
    → declare all d i ≡ record { begun = d.begun || is_function i; table = cond d.begun d.table d.table; specialised = d.specialised }
declares_none all d i h =
    λ k. record {
      begun = d.begun || is_function i;
      table = cond d.begun d.table (with_entry d.table (rewritten_entry i all d.table h k));
      specialised = cond (none k) (d.specialised ++ slice_index i.words 2 ∷ []) d.specialised;
    }
  where
    none : (not d.begun && is_specialised all d.specialised i) ≡ false
    none = ap (λ b. not d.begun && b) (not_specialised all d.specialised i h) ∙ and_none (not d.begun)

module _ (before after : List Instruction) (w : IsRewritten before after) where
  -- ---- what is not declares the same

  -- by induction on the members
  same_members_of : (table : Table) (id n : ℕ) (ts : List ℕ) → members_of (says after) table id n ts ≡ members_of (says before) table id n ts
  same_members_of table id n [] = refl
  same_members_of table id n (t ∷ ts) =
      ap₂ (λ o v. Member (first_literal o) (is_some v) (type_at table t) (members_of (says after) table id (suc n) ts))
      (same_members before before after w id n decoration.OFFSET) (same_members before before after w id n decoration.VOLATILE)
      ∙ ap (λ m.
      Member (first_literal (member_decorated (says before) id n decoration.OFFSET)) (is_some (member_decorated (says before) id n decoration.VOLATILE))
      (type_at table t) m)
      (same_members_of table id (suc n) ts)

  stride : (r : ℕ) → decorated (says after) r decoration.ARRAY_STRIDE ≡ decorated (says before) r decoration.ARRAY_STRIDE
  stride r = same_decorations before before after w r decoration.ARRAY_STRIDE

  spec_id : (r : ℕ) → decorated (says after) r decoration.SPEC_ID ≡ decorated (says before) r decoration.SPEC_ID
  spec_id r = same_decorations before before after w r decoration.SPEC_ID

  same_stated : (table : Table) (st : Statement) → defined (says after) [] table st ≡ defined (says before) [] table st
  same_stated table (states.TypeArray r e l) = ap (λ o. Some (r, IsType (Array (first_literal o) (length_at table l) (type_at table e)))) (stride r)
  same_stated table (states.TypeRuntimeArray r e) = ap (λ o. Some (r, IsType (RuntimeArray (first_literal o) (type_at table e)))) (stride r)
  same_stated table (states.TypeStruct r ms) = ap (λ m. Some (r, IsType (Struct m))) (same_members_of table r 0 ms)
  same_stated table (states.SpecConstant t r ws) = ap (λ o. Some (r, IsConstant (type_at table t) (given o [] (type_at table t) ws))) (spec_id r)
  same_stated table st = refl

  same_entry_of : (table : Table) (sts : List Statement) → entry_of (says after) table sts ≡ entry_of (says before) table sts
  same_entry_of table [] = refl
  same_entry_of table (st ∷ sts) = same_stated table st

  pub same_entry : (table : Table) (i : Instruction) → entry (says after) table i ≡ entry (says before) table i
  same_entry table i = same_entry_of table (said i.words [])

  same_specialised : (ids : List ℕ) (i : Instruction) → is_specialised (says after) ids i ≡ is_specialised (says before) ids i
  same_specialised ids i =
      ap (λ b.
      cond (is_one_of (op.SPEC_CONSTANT_TRUE ∷ op.SPEC_CONSTANT_FALSE ∷ op.SPEC_CONSTANT ∷ []) (opcode i)) b
      (is_one_of (op.SPEC_CONSTANT_COMPOSITE ∷ op.SPEC_CONSTANT_OP ∷ []) (opcode i) && list_any (is_one_of ids) (words_with is_used_id i)))
      (ap is_some (spec_id (slice_index i.words 2)))

  same_declare : (d : Declared) (i j : Instruction) → IsRewrittenAs before i j → declare (says after) d j ≡ declare (says before) d i
  same_declare d i j (inl e) =
      ap (λ ws. declare (says after) d (inst ws)) e
      ∙ ap₂ (λ e s. record {
        begun = d.begun || is_function i;
        table = cond d.begun d.table (with_entry d.table e);
        specialised = cond (not d.begun && s) (d.specialised ++ slice_index i.words 2 ∷ []) d.specialised;
      }) (same_entry d.table i) (same_specialised d.specialised i)
  same_declare d i j (inr c) =
      declares_none (says after) d j (ap (is_one_of settled_kinds) c.kind ∙ c.passing)
      ∙ ap (λ f. record { begun = d.begun || f; table = cond d.begun d.table d.table; specialised = d.specialised }) (same_function before i j (inr c))
      ∙ sym (declares_none (says before) d i c.passing)

  -- ---- so the tables are the same

  pub same_declared : (is js : List Instruction) → EachAs (IsRewrittenAs before) is js → (d : Declared)
      → declare_all (says after) d js ≡ declare_all (says before) d is
  same_declared =
      walk (IsRewrittenAs before) (λ is js. (d : Declared) → declare_all (says after) d js ≡ declare_all (says before) d is) (λ d. refl)
      (λ i j is js r more d. more (declare (says after) d j) ∙ ap (λ e. declare_all (says before) e is) (same_declare d i j r))

  all_declared : declared_before after (length after) ≡ declared_before before (length before)
  all_declared =
      ap (λ is. declare_all (says after) nothing_declared is) (take_all after) ∙ same_declared before after w nothing_declared
      ∙ sym (ap (λ is. declare_all (says before) nothing_declared is) (take_all before))

  same_meanings : meanings after ≡ meanings before
  same_meanings = sym (declared-whole after) ∙ ap (λ (d : Declared). d.table) all_declared ∙ declared-whole before

  same_ids : specialised after ≡ specialised before
  same_ids = ap (λ (d : Declared). d.specialised) all_declared

  pub same_known : (id k : ℕ) → known_word after id k ≡ known_word before id k
  same_known id k = ap₂ (λ ids table. known_of ids table id k) same_ids same_meanings

  -- ---- parameters

  same_leading : (is js : List Instruction) → EachAs (IsRewrittenAs before) is js → leading_parameters js ≡ leading_parameters is
  same_leading = walk (IsRewrittenAs before) (λ is js. leading_parameters js ≡ leading_parameters is) refl more
    where
      one : (i j : Instruction) (is : List Instruction) → IsRewrittenAs before i j → (p : Bool) → is_parameter i ≡ p
          → cond p (parameter j ∷ leading_parameters is) [] ≡ cond p (parameter i ∷ leading_parameters is) []
      one i j is r true e = ap (λ ws. parameter (inst ws) ∷ leading_parameters is) (same_where before i j op.FUNCTION_PARAMETER refl r e)
      one i j is r false e = refl

      more : (i j : Instruction) (is js : List Instruction) → IsRewrittenAs before i j → leading_parameters js ≡ leading_parameters is
          → leading_parameters (j ∷ js) ≡ leading_parameters (i ∷ is)
      more i j is js r h =
          ap₂ (λ (l : Bool) (o : ℕ). cond l (leading_parameters js) (cond (o == op.FUNCTION_PARAMETER) (parameter j ∷ leading_parameters js) []))
          (same_line before i j r) (same_opcode before i j r)
          ∙ ap (λ ps. cond (is_line i) ps (cond (is_parameter i) (parameter j ∷ ps) [])) h
          ∙ ap (λ ps. cond (is_line i) (leading_parameters is) ps) (one i j is r (is_parameter i) refl)

  same_beginning : (is js : List Instruction) → EachAs (IsRewrittenAs before) is js → (k : ℕ) → begins_function js k ≡ begins_function is k
  same_beginning [] [] h k = refl
  same_beginning [] (j ∷ js) h k = absurd h
  same_beginning (i ∷ is) [] h k = absurd h
  same_beginning (i ∷ is) (j ∷ js) h zero = same_function before i j h.0
  same_beginning (i ∷ is) (j ∷ js) h (suc k) = same_beginning is js h.1 k

  same_parameters_at : (k : ℕ) → parameters_at after k ≡ parameters_at before k
  same_parameters_at k =
      ap₂ (λ (b : Bool) ps. cond b ps []) (same_beginning before after w k)
      (same_leading (drop (suc k) before) (drop (suc k) after) (each_drop (IsRewrittenAs before) (suc k) before after w))

  pub same_parameters : (f : ℕ) → parameters_of after f ≡ parameters_of before f
  same_parameters f = ap (λ o. option_map_or (parameters_at after) o []) (same_place before before after w f) ∙ by (place_of before f)
    where
      by : (o : Option ℕ) → option_map_or (parameters_at after) o [] ≡ option_map_or (parameters_at before) o []
      by None = refl
      by (Some k) = same_parameters_at k
