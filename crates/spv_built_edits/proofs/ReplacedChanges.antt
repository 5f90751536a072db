-- A line in which values stand for others of their types is one that is rewritten: it keeps its opcode, its result and its type, and what is settled stays.
use Rattle.std.proofs.Common.{◌≡◌, ◌⊎◌, inl, inr, ℕ, Bool, true, false, cond, not, ◌%◌, ◌==◌, ◌&&◌, ◌||◌, List, [], ◌∷◌, ◌++◌, drop, length, replicate, Option, Some, None, refl, sym, ap, subst, ◌∙◌, true≢false, eqb-true, eq-eqb}
use Rattle.std.specs.Prelude.{find}
use Rattle.std.specs.List.{AllByRecursion, list_all, list_any, slice_index}
use Rattle.std.specs.Option.{is_some, option_and_then, option_map, option_or}
use Rattle.std.proofs.lemmas.Bool.{and_parts}
use Rattle.spv_opcodes.specs.declared.op.TheConstants as op
use Rattle.spv_grammar.specs.declared.kind.Role.{Role}
use Rattle.spv_grammar.specs.declared.kind.Role.TheVariants.{Opcode, TypeId, DefinedId, UsedId}
use Rattle.spv_grammar.specs.declared.kind.Kind.{Kind}
use Rattle.spv_grammar.specs.declared.kind.Kind.TheVariants.{Id, IdPairs, One, OptionalId, ResultId, ResultType}
use Rattle.spv_grammar.specs.declared.kind.Enumerant.TheVariants.{StorageClass}
use Rattle.spv_grammar.specs.Enumerants.{is_known}
use Rattle.spv_grammar.specs.Operands.{all_if, mark, opcode_of, operand_roles}
use Rattle.spv_grammar.specs.Roles.{is_defined_id, is_type_id, is_used_id}
use Rattle.spv_grammar.specs.Table.{Shape, flow_rows, in_section, memory_rows, module_rows, pair_rows, row_at, row_of, type_rows, value_rows}
use Rattle.spv_module.specs.Code.{is_line, row_section}
use Rattle.spv_module.specs.Instruction.{Instruction, IsInstruction, opcode, roles}
use Rattle.spv_ids.specs.Ids.{defines, definition, is_defined, used_ids}
use Rattle.spv_typing.specs.Kinds.{is_constant, is_one_of, pointee, type_of}
use Rattle.spv_values.specs.Values.{given_type, value_type}
use Rattle.spv_usage.specs.Stages.{is_opening, is_outside}
use Rattle.spv_usage.specs.Storage.{class_fits, initialiser_fits, length_fits, storage_fits, variable_fits}
use Rattle.spv_signatures.specs.Calls.{arguments_fit, call_fits}
use Rattle.spv_signatures.specs.Functions.{names_function, parameters_of}
use Rattle.spv_declarations.proofs.Parts.{Front, Row, nil-words, one-front, row-words, row_test}
use Rattle.spv_alike.proofs.Lookups.{and_left, and_right}
use Rattle.spv_alike_uses.proofs.Lookups.{each}
use Rattle.spv_alike_uses.proofs.Used.{tested}
use Rattle.spv_tree.specs.Sound.{is_end, is_step, opcode_in, structure}
use Rattle.spv_typed_trees.specs.Typed.{as_instruction}
use Rattle.spv_replaced_values.specs.Replaced.{ReplacesValues, ReplacesWords, may_stand, stands_in}
use Rattle.spv_replaced_values.proofs.Fixed.{Case, behind_front, near_words, same_code, stays}
use Rattle.spv_replaced_values.proofs.Standing.{NearAll, constant_stays, function_stays, near_at, near_itself, no_value_stays, same_type}
use Rattle.spv_rewritten.specs.Rewritten.{IsRewrittenAs, settled_kinds}
use Rattle.spv_rewritten.proofs.Common.{not_settled}
use Rattle.spv_built_edits.proofs.ReplacedLines.{AChoice, APhi, AnEnd, AnyStep, Becomes, Itself, choices}
use Rattle.spv_built_edits.proofs.ReplacedParts.{are_steady, as_long, same_word, steady_by, uses_stay}
use Rattle.spv_built_edits.proofs.ReplacedSteps.{FitsInside}

-- ---- opcodes of steps, by the rows of the instruction table

abbrev variables : List ℕ
variables = op.VARIABLE ∷ op.UNDEF ∷ []

abbrev step_in : (section o : ℕ) → Bool
step_in section o = (section == 11 || is_one_of variables o) && not (is_one_of structure o)

-- a step has operands whose parts stay, is no entry point, and is settled only as a variable or OpUndef
abbrev step_fits : (section : ℕ) → (steady : Bool) → (o : ℕ) → Bool
step_fits section steady o =
    not (step_in section o) || (steady && (not (o == op.ENTRY_POINT) && (not (is_one_of settled_kinds o) || is_one_of variables o)))

abbrev row_fits : ℕ → Shape → Bool
row_fits o s = step_fits s.section (not (o == op.SPEC_CONSTANT_OP) && are_steady s.kinds) o

abbrev fits_in : ℕ → Option Shape → Bool
fits_in o None = true
fits_in o (Some s) = row_fits o s

-- by induction on the rows
rows_fit : (rows : List (ℕ × Shape)) → list_all (λ row. row_fits row.0 row.1) rows ≡ true → (o : ℕ) → fits_in o (row_at rows o) ≡ true
rows_fit [] h o = refl
rows_fit (row ∷ rows) h o = by (o == row.0) refl (rows_fit rows parts.1 o)
  where
    parts : (row_fits row.0 row.1 ≡ true) × (list_all (λ row. row_fits row.0 row.1) rows ≡ true)
    parts = and_parts (row_fits row.0 row.1) (list_all (λ row. row_fits row.0 row.1) rows) h

    by : (c : Bool) → (o == row.0) ≡ c → fits_in o (row_at rows o) ≡ true → fits_in o (cond c (Some row.1) (row_at rows o)) ≡ true
    by true e more = ap (λ n. row_fits n row.1) (eqb-true o row.0 e) ∙ parts.0
    by false e more = more

or_fit : (o : ℕ) (x y : Option Shape) → fits_in o x ≡ true → fits_in o y ≡ true → fits_in o (option_or x y) ≡ true
or_fit o None y h g = g
or_fit o (Some s) y h g = h

all_fit : (o : ℕ) → fits_in o (row_of o) ≡ true
unfolding row_of
all_fit o =
    or_fit o (row_at module_rows o) _ (rows_fit module_rows refl o)
    (or_fit o (row_at type_rows o) _ (rows_fit type_rows refl o)
    (or_fit o (row_at flow_rows o) _ (rows_fit flow_rows refl o)
    (or_fit o (row_at memory_rows o) _ (rows_fit memory_rows refl o)
    (or_fit o (row_at value_rows o) _ (rows_fit value_rows refl o) (rows_fit pair_rows refl o)))))

record StepOpcode (o : ℕ) : Type 0 where
  steady : steady_by o ≡ true
  entry : (o == op.ENTRY_POINT) ≡ false
  settled : is_one_of settled_kinds o ≡ true → is_one_of variables o ≡ true

variables_have_rows : (o : ℕ) → is_one_of variables o ≡ true → is_some (row_of o) ≡ true
unfolding row_of
variables_have_rows o h = each (λ o. is_some (row_of o)) variables refl o h

not_true : (b : Bool) → not b ≡ true → b ≡ false
not_true true e = sym e
not_true false e = refl

step_opcode : (o : ℕ) → is_step o ≡ true → StepOpcode o
step_opcode o h = by (row_of o) refl
  where
    second : (a b : Bool) → a ≡ true → (not a || b) ≡ true → b ≡ true
    second true b e g = g
    second false b e g = absurd (true≢false (sym e))

    by : (row : Option Shape) → row_of o ≡ row → StepOpcode o
    by None e =
        absurd (true≢false (sym (variables_have_rows o
        (and_left (is_one_of variables o) (not (is_one_of structure o))
        (sym (ap (λ (row : Option Shape). step_in (row_section row) o) e) ∙ h))) ∙ ap (λ (row : Option Shape). is_some row) e))
    by (Some s) e =
        let steady = not (o == op.SPEC_CONSTANT_OP) && are_steady s.kinds in
        let entry = not (o == op.ENTRY_POINT) in
        let settled = not (is_one_of settled_kinds o) || is_one_of variables o in
        let all = second (step_in s.section o) (steady && (entry && settled)) (sym (ap (λ (row : Option Shape). step_in (row_section row) o) e) ∙ h)
        (sym (ap (fits_in o) e) ∙ all_fit o) in
        let behind = and_right steady (entry && settled) all in
        record {
          steady = ap (λ (row : Option Shape). not (o == op.SPEC_CONSTANT_OP) && row_test are_steady row) e ∙ and_left steady (entry && settled) all;
          entry = not_true (o == op.ENTRY_POINT) (and_left entry settled behind);
          settled = λ is. second (is_one_of settled_kinds o) (is_one_of variables o) is (and_right entry settled behind);
        }

-- ---- opcodes of the other lines

abbrev flowing : List ℕ
flowing = op.PHI ∷ op.BRANCH_CONDITIONAL ∷ op.SWITCH ∷ op.RETURN ∷ op.RETURN_VALUE ∷ op.UNREACHABLE ∷ []

abbrev are_plain : (o : ℕ) → Bool
are_plain o = not (o == op.FUNCTION) && (not (o == op.ENTRY_POINT) && (not (o == op.FUNCTION_CALL) && not (is_one_of settled_kinds o)))

record FlowOpcode (o : ℕ) : Type 0 where
  steady : steady_by o ≡ true
  function : (o == op.FUNCTION) ≡ false
  entry : (o == op.ENTRY_POINT) ≡ false
  call : (o == op.FUNCTION_CALL) ≡ false
  settled : is_one_of settled_kinds o ≡ false

flow_is_steady : (o : ℕ) → is_one_of flowing o ≡ true → steady_by o ≡ true
unfolding row_of
flow_is_steady o h = each steady_by flowing refl o h

flow_opcode : (o : ℕ) → is_one_of flowing o ≡ true → FlowOpcode o
flow_opcode o h =
    let all = each are_plain flowing refl o h in
    let first = and_parts (not (o == op.FUNCTION)) _ all in
    let second = and_parts (not (o == op.ENTRY_POINT)) _ first.1 in
    let third = and_parts (not (o == op.FUNCTION_CALL)) (not (is_one_of settled_kinds o)) second.1 in
    record {
      steady = flow_is_steady o h;
      function = not_true (o == op.FUNCTION) first.0;
      entry = not_true (o == op.ENTRY_POINT) second.0;
      call = not_true (o == op.FUNCTION_CALL) third.0;
      settled = not_true (is_one_of settled_kinds o) third.1;
    }

-- ---- operands of some rows

abbrev begins_with_id : List Kind → Bool
begins_with_id (Id ∷ kinds) = true
begins_with_id kinds = false

abbrev only_ids : List Kind → Bool
only_ids [] = true
only_ids (Id ∷ kinds) = only_ids kinds
only_ids kinds = false

-- induction on the operands
ids_alone : (kinds : List Kind) → only_ids kinds ≡ true → (ws : List ℕ) (rs : List Role) → operand_roles kinds ws ≡ Some rs → rs ≡ replicate (length ws) UsedId
ids_alone [] o ws rs fit = let n = nil-words ws rs fit in n.1 ∙ sym (ap (λ (ws : List ℕ). replicate (length ws) UsedId) n.0)
ids_alone (Id ∷ kinds) o ws rs fit =
    let f = one-front UsedId kinds ws rs fit in
    f.parts_are ∙ ap (λ (rs : List Role). UsedId ∷ rs) (ids_alone kinds o f.rest f.others f.fit)
    ∙ sym (ap (λ (ws : List ℕ). replicate (length ws) UsedId) f.words_are)
ids_alone kinds o ws rs fit = absurd (true≢false (sym o))

append_nil : (rs : List Role) → rs ++ [] ≡ rs
append_nil [] = refl
append_nil (r ∷ rs) = ap (λ (x : List Role). r ∷ x) (append_nil rs)

pairs_alone : (ws : List ℕ) (rs : List Role) → operand_roles (IdPairs ∷ []) ws ≡ Some rs → rs ≡ replicate (length ws) UsedId
pairs_alone ws rs fit = by (length ws % 2 == 0) fit ∙ append_nil (replicate (length ws) UsedId)
  where
    by : (b : Bool) → option_and_then (λ t. option_map (λ roles. t.roles ++ roles) (operand_roles [] t.rest)) (all_if b (replicate (length ws) UsedId))
        ≡ Some rs → rs ≡ replicate (length ws) UsedId ++ []
    by true e = cc e
    by false e = absurd (cc e)

tails : (a b : ℕ) (xs ys : List ℕ) → a ∷ xs ≡ b ∷ ys → xs ≡ ys
tails a b xs ys e = cc e

marked : (b : Bool) → is_used_id (mark b) ≡ false
marked true = refl
marked false = refl

record Enumerated (kinds : List Kind) (ws : List ℕ) (rs : List Role) : Type 0 where
  role : Role
  unused : is_used_id role ≡ false
  front : Front role kinds ws rs

enumerated : (enumerant : _) (kinds : List Kind) (ws : List ℕ) (rs : List Role) → operand_roles (One enumerant ∷ kinds) ws ≡ Some rs → Enumerated kinds ws rs
enumerated enumerant kinds [] rs fit = absurd (cc fit)
enumerated enumerant kinds (w ∷ ws) rs fit = record {
  role = mark (is_known enumerant w);
  unused = marked (is_known enumerant w);
  front = one-front (mark (is_known enumerant w)) kinds (w ∷ ws) rs fit;
}

module _ (insts : List Instruction) where
  abbrev Replaces : List Role → (words others : List ℕ) → Type 0
  Replaces = ReplacesWords insts

  -- ---- what becomes of words

  may_itself : (r : Role) (w : ℕ) → may_stand insts r w w ≡ true
  may_itself r w = by (is_used_id r)
    where
      by : (b : Bool) → cond b (stands_in insts w w) (w == w) ≡ true
      by true = near_itself insts w
      by false = eq-eqb w w refl

  -- words stand for themselves; induction on the words
  themselves : (rs : List Role) (ws : List ℕ) → length rs ≡ length ws → Replaces rs ws ws
  themselves [] [] e = tt
  themselves [] (w ∷ ws) e = absurd (cc e)
  themselves (r ∷ rs) [] e = absurd (cc e)
  themselves (r ∷ rs) (w ∷ ws) e = (may_itself r w, themselves rs ws (cc e))

  all_used : (ids news : List ℕ) → NearAll insts ids news → Replaces (replicate (length ids) UsedId) ids news
  all_used [] [] h = tt
  all_used [] (n ∷ news) h = absurd h
  all_used (id ∷ ids) [] h = absurd h
  all_used (id ∷ ids) (n ∷ news) h = (h.0, all_used ids news h.1)

  empty : (ws : List ℕ) (rs : List Role) (vs : List ℕ) → ws ≡ [] → Replaces rs ws vs → vs ≡ ws
  empty ws rs vs none h = by vs (as_long insts rs ws vs h ∙ ap (λ (ws : List ℕ). length ws) none) ∙ sym none
    where
      by : (vs : List ℕ) → length vs ≡ 0 → vs ≡ []
      by [] e = refl
      by (v ∷ vs) e = absurd (cc e)

  -- behind a word that stays
  record Next (role : Role) (kinds : List Kind) (ws : List ℕ) (rs : List Role) (f : Front role kinds ws rs) (vs : List ℕ) : Type 0 where
    more : List ℕ
    rest : Replaces f.others f.rest more
    -- if what is behind it stays, all do
    all : more ≡ f.rest → vs ≡ ws

  next : (role : Role) (kinds : List Kind) (ws : List ℕ) (rs : List Role) (f : Front role kinds ws rs) (vs : List ℕ) → is_used_id role ≡ false
      → Replaces rs ws vs → Next role kinds ws rs f vs
  next role kinds ws rs f vs unused h =
      let b = behind_front insts role kinds ws rs vs f h in
      record {
        more = b.more;
        rest = b.rest;
        all = λ e. b.is ∙ (λ i. stays insts role f.word b.other unused b.stands i ∷ e i) ∙ sym f.words_are;
      }

  -- the words of an instruction with a row
  next_words : (o : ℕ) (kinds : List Kind) (words : List ℕ) (rs : List Role) (r : Row o kinds words rs) (vs : List ℕ) → Replaces rs words vs
      → (more : List ℕ) × Replaces r.others r.rest more × (more ≡ r.rest → vs ≡ words)
  next_words o kinds words rs r vs h =
      let f : Front Opcode kinds words rs =
      record { word = r.word; rest = r.rest; others = r.others; words_are = r.words_are; parts_are = r.parts_are; fit = r.fit } in
      let n = next Opcode kinds words rs f vs refl h in
      (n.more, n.rest, n.all)

  -- ---- lines that are settled

  undefined_stays : (words others : List ℕ) → (opcode_in words == op.UNDEF) ≡ true → ReplacesValues insts words others → others ≡ words
  unfolding row_of
  undefined_stays words others is p =
      let rs = roles (as_instruction words) in
      let r = row-words op.UNDEF (in_section 10 (ResultType ∷ ResultId ∷ [])) words rs refl refl (eqb-true (opcode_in words) op.UNDEF is) p.whole.parted in
      let n = next_words op.UNDEF (ResultType ∷ ResultId ∷ []) words rs r others p.replaced in
      let f = one-front TypeId (ResultId ∷ []) r.rest r.others r.fit in
      let a = next TypeId (ResultId ∷ []) r.rest r.others f n.0 refl n.1 in
      let g = one-front DefinedId [] f.rest f.others f.fit in
      let b = next DefinedId [] f.rest f.others g a.more refl a.rest in
      n.2 (a.all (b.all (empty g.rest g.others b.more (nil-words g.rest g.others g.fit).0 b.rest)))

  -- an initialiser is a constant
  optional_stays : (t : ℕ) (ws : List ℕ) (rs : List Role) (vs : List ℕ) → operand_roles (OptionalId ∷ []) ws ≡ Some rs → Replaces rs ws vs
      → initialiser_fits insts t ws ≡ true → vs ≡ ws
  optional_stays t [] rs vs fit h is = empty [] rs vs refl h
  optional_stays t (w ∷ ws) rs vs fit h is =
      let f = one-front UsedId [] (w ∷ ws) rs fit in
      let b = behind_front insts UsedId [] (w ∷ ws) rs vs f h in
      let same : w ≡ f.word = cc f.words_are in
      let constant : is_constant insts f.word ≡ true = sym (ap (is_constant insts) same) ∙ and_left (is_constant insts w) (type_of insts w == t) is in
      b.is
      ∙ (λ i. constant_stays insts f.word b.other constant b.stands i ∷ empty f.rest f.others b.more (nil-words f.rest f.others f.fit).0 b.rest i)
      ∙ sym f.words_are

  initialised : (words : List ℕ) → (opcode_in words == op.VARIABLE) ≡ true → FitsInside insts words
      → initialiser_fits insts (pointee insts (slice_index words 1)) (drop 4 words) ≡ true
  unfolding storage_fits
  initialised words is f =
      let t = slice_index words 1 in
      let class = slice_index words 3 in
      let init = drop 4 words in
      let fits = variable_fits insts t class init in
      let stored = in_variable (opcode_in words == op.VARIABLE) (is_outside f.stage) (is_opening f.stage) fits _ is f.inside f.fits.storage in
      and_right (length_fits insts (pointee insts t)) (initialiser_fits insts (pointee insts t) init)
      (and_right (class_fits insts t class) (length_fits insts (pointee insts t) && initialiser_fits insts (pointee insts t) init) stored)
    where
      in_variable : (v outside opening fits other : Bool) → v ≡ true → outside ≡ false → cond v (outside || (opening && fits)) other ≡ true → fits ≡ true
      in_variable true false true fits other e g h = h
      in_variable true false false fits other e g h = absurd (true≢false (sym h))
      in_variable true true opening fits other e g h = absurd (true≢false g)
      in_variable false outside opening fits other e g h = absurd (true≢false (sym e))

  variable_stays : (words others : List ℕ) → (opcode_in words == op.VARIABLE) ≡ true → FitsInside insts words → ReplacesValues insts words others
      → others ≡ words
  unfolding row_of
  variable_stays words others is fits p =
      let rs = roles (as_instruction words) in
      let kinds : List Kind = One StorageClass ∷ OptionalId ∷ [] in
      let r =
      row-words op.VARIABLE (in_section 10 (ResultType ∷ ResultId ∷ kinds)) words rs refl refl (eqb-true (opcode_in words) op.VARIABLE is) p.whole.parted in
      let n = next_words op.VARIABLE (ResultType ∷ ResultId ∷ kinds) words rs r others p.replaced in
      let f = one-front TypeId (ResultId ∷ kinds) r.rest r.others r.fit in
      let a = next TypeId (ResultId ∷ kinds) r.rest r.others f n.0 refl n.1 in
      let g = one-front DefinedId kinds f.rest f.others f.fit in
      let b = next DefinedId kinds f.rest f.others g a.more refl a.rest in
      let c = enumerated StorageClass (OptionalId ∷ []) g.rest g.others g.fit in
      let d = next c.role (OptionalId ∷ []) g.rest g.others c.front b.more c.unused b.rest in
      let parts : words ≡ r.word ∷ f.word ∷ g.word ∷ c.front.word ∷ c.front.rest =
      r.words_are
      ∙ ap (λ (ws : List ℕ). r.word ∷ ws) (f.words_are ∙ ap (λ (ws : List ℕ). f.word ∷ ws) (g.words_are ∙ ap (λ (ws : List ℕ). g.word ∷ ws) c.front.words_are)) in
      let init = subst (λ (ws : List ℕ). initialiser_fits insts (pointee insts (slice_index words 1)) (drop 4 ws) ≡ true) parts (initialised words is fits) in
      n.2 (a.all (b.all (d.all (optional_stays (pointee insts (slice_index words 1)) c.front.rest c.front.others d.more c.front.fit d.rest init))))

  -- ---- calls

  callee_stays : (words others : List ℕ) → ReplacesValues insts words others → call_fits insts (as_instruction words) ≡ true
      → (opcode_in words == op.FUNCTION_CALL) ≡ true → slice_index others 3 ≡ slice_index words 3
  unfolding call_fits
  callee_stays words others p fits is =
      let c : Case = record { insts = insts; words = words; others = others; replaces = p } in
      let f = slice_index words 3 in
      function_stays insts f (slice_index others 3)
      (and_left (names_function insts f) (arguments_fit insts (parameters_of insts f) (drop 4 words)) (called (opcode_in words == op.FUNCTION_CALL) _ is fits))
      (near_at insts 3 words others (near_words c))
    where
      called : (a b : Bool) → a ≡ true → (not a || b) ≡ true → b ≡ true
      called true b e h = h
      called false b e h = absurd (true≢false (sym e))

  -- ---- lines that may change

  pub record Changes (words others : List ℕ) : Type 0 where
    pub replaces : ReplacesValues insts words others
    pub steady : steady_by (opcode_in words) ≡ true
    pub settled : is_one_of settled_kinds (opcode_in words) ≡ false
    pub entry : (opcode_in words == op.ENTRY_POINT) ≡ false
    pub callee : (opcode_in words == op.FUNCTION_CALL) ≡ true → slice_index others 3 ≡ slice_index words 3

  abbrev Whole : List ℕ → Type 0
  Whole words = IsInstruction words (roles (as_instruction words))

  flow_changes : (words others : List ℕ) → Whole words → is_one_of flowing (opcode_in words) ≡ true → Replaces (roles (as_instruction words)) words others
      → Changes words others
  flow_changes words others whole is p =
      let o = flow_opcode (opcode_in words) is in
      record {
        replaces = record { whole = whole; inside = o.function; replaced = p };
        steady = o.steady;
        settled = o.settled;
        entry = o.entry;
        callee = λ e. absurd (true≢false (sym e ∙ o.call));
      }

  choice_begins : (o : ℕ) → is_one_of choices o ≡ true → (not (o == op.SPEC_CONSTANT_OP) && row_test begins_with_id (row_of o)) ≡ true
  unfolding row_of
  choice_begins o is = each (λ o. not (o == op.SPEC_CONSTANT_OP) && row_test begins_with_id (row_of o)) choices refl o is

  first_id : (kinds : List Kind) → begins_with_id kinds ≡ true → (ws : List ℕ) (rs : List Role) → operand_roles kinds ws ≡ Some rs
      → (others : List Role) × (rs ≡ UsedId ∷ others)
  first_id [] b ws rs fit = absurd (true≢false (sym b))
  first_id (Id ∷ kinds) b ws rs fit = let f = one-front UsedId kinds ws rs fit in (f.others, f.parts_are)
  first_id kinds b ws rs fit = absurd (true≢false (sym b))

  choice_changes : (head id other : ℕ) (more : List ℕ) → Whole (head ∷ id ∷ more) → is_one_of choices (opcode_of head) ≡ true → stands_in insts id other ≡ true
      → Changes (head ∷ id ∷ more) (head ∷ other ∷ more)
  choice_changes head id other more whole is near =
      let words : List ℕ = head ∷ id ∷ more in
      let t = tested (opcode_of head) begins_with_id (choice_begins (opcode_of head) is) in
      let r = row-words (opcode_of head) t.shape words (roles (as_instruction words)) t.is t.other refl whole.parted in
      let f = first_id t.shape.kinds t.passes r.rest r.others r.fit in
      let parts : roles (as_instruction words) ≡ Opcode ∷ UsedId ∷ f.0 = r.parts_are ∙ ap (λ (rs : List Role). Opcode ∷ rs) f.1 in
      let long : length f.0 ≡ length more = cc (sym (ap (λ (rs : List Role). length rs) parts) ∙ whole.long) in
      flow_changes words (head ∷ other ∷ more) whole (each (is_one_of flowing) choices refl (opcode_of head) is)
      (subst (λ (rs : List Role). Replaces rs words (head ∷ other ∷ more)) (sym parts) (may_itself Opcode head, (near, themselves f.0 more long)))

  ends : List ℕ
  ends = op.RETURN ∷ op.RETURN_VALUE ∷ op.UNREACHABLE ∷ []

  end_has_ids : (o : ℕ) → is_end o ≡ true → (not (o == op.SPEC_CONSTANT_OP) && row_test only_ids (row_of o)) ≡ true
  unfolding row_of ends
  end_has_ids o is = each (λ o. not (o == op.SPEC_CONSTANT_OP) && row_test only_ids (row_of o)) ends refl o is

  end_flows : (o : ℕ) → is_end o ≡ true → is_one_of flowing o ≡ true
  unfolding ends
  end_flows o is = each (is_one_of flowing) ends refl o is

  end_changes : (head : ℕ) (ids news : List ℕ) → Whole (head ∷ ids) → is_end (opcode_of head) ≡ true → NearAll insts ids news
      → Changes (head ∷ ids) (head ∷ news)
  end_changes head ids news whole is near =
      let words : List ℕ = head ∷ ids in
      let t = tested (opcode_of head) only_ids (end_has_ids (opcode_of head) is) in
      let r = row-words (opcode_of head) t.shape words (roles (as_instruction words)) t.is t.other refl whole.parted in
      let same : r.rest ≡ ids = sym (tails head r.word ids r.rest r.words_are) in
      let parts : roles (as_instruction words) ≡ Opcode ∷ replicate (length ids) UsedId =
      r.parts_are ∙ ap (λ (rs : List Role). Opcode ∷ rs)
      (ids_alone t.shape.kinds t.passes r.rest r.others r.fit ∙ ap (λ (ws : List ℕ). replicate (length ws) UsedId) same) in
      flow_changes words (head ∷ news) whole (end_flows (opcode_of head) is)
      (subst (λ (rs : List Role). Replaces rs words (head ∷ news)) (sym parts) (may_itself Opcode head, all_used ids news near))

  phi_changes : (head type result : ℕ) (ids news : List ℕ) → Whole (head ∷ type ∷ result ∷ ids) → opcode_of head ≡ op.PHI → NearAll insts ids news
      → Changes (head ∷ type ∷ result ∷ ids) (head ∷ type ∷ result ∷ news)
  unfolding row_of
  phi_changes head type result ids news whole is near =
      let words : List ℕ = head ∷ type ∷ result ∷ ids in
      let r = row-words op.PHI (in_section 11 (ResultType ∷ ResultId ∷ IdPairs ∷ [])) words (roles (as_instruction words)) refl refl is whole.parted in
      let f = one-front TypeId (ResultId ∷ IdPairs ∷ []) r.rest r.others r.fit in
      let g = one-front DefinedId (IdPairs ∷ []) f.rest f.others f.fit in
      let first : type ∷ result ∷ ids ≡ r.rest = tails head r.word (type ∷ result ∷ ids) r.rest r.words_are in
      let second : result ∷ ids ≡ f.rest = tails type f.word (result ∷ ids) f.rest (first ∙ f.words_are) in
      let third : ids ≡ g.rest = tails result g.word ids g.rest (second ∙ g.words_are) in
      let parts : roles (as_instruction words) ≡ Opcode ∷ TypeId ∷ DefinedId ∷ replicate (length ids) UsedId =
      r.parts_are ∙ ap (λ (rs : List Role). Opcode ∷ rs)
      (f.parts_are ∙ ap (λ (rs : List Role). TypeId ∷ rs)
      (g.parts_are ∙ ap (λ (rs : List Role). DefinedId ∷ rs)
      (pairs_alone g.rest g.others g.fit ∙ ap (λ (ws : List ℕ). replicate (length ws) UsedId) (sym third)))) in
      flow_changes words (head ∷ type ∷ result ∷ news) whole (ap (is_one_of flowing) is)
      (subst (λ (rs : List Role). Replaces rs words (head ∷ type ∷ result ∷ news)) (sym parts)
      (may_itself Opcode head, (may_itself TypeId type, (may_itself DefinedId result, all_used ids news near))))

  step_changes : (words others : List ℕ) → is_step (opcode_in words) ≡ true → FitsInside insts words → ReplacesValues insts words others
      → (others ≡ words) ⊎ Changes words others
  step_changes words others step fits p = by (is_one_of settled_kinds (opcode_in words)) refl
    where
      o : StepOpcode (opcode_in words)
      o = step_opcode (opcode_in words) step

      settled_stays : (v : Bool) → (opcode_in words == op.VARIABLE) ≡ v → (v || ((opcode_in words == op.UNDEF) || false)) ≡ true → others ≡ words
      settled_stays true e h = variable_stays words others e fits p
      settled_stays false e h = undefined_stays words others (left (opcode_in words == op.UNDEF) h) p
        where
          left : (b : Bool) → (b || false) ≡ true → b ≡ true
          left true k = refl
          left false k = k

      by : (b : Bool) → is_one_of settled_kinds (opcode_in words) ≡ b → (others ≡ words) ⊎ Changes words others
      by true e = inl (settled_stays (opcode_in words == op.VARIABLE) refl (o.settled e))
      by false e =
          inr (record { replaces = p; steady = o.steady; settled = e; entry = o.entry; callee = callee_stays words others p fits.fits.call })

  moved : (words others ws vs : List ℕ) → words ≡ ws → others ≡ vs → Whole words → (Whole ws → Changes ws vs) → Changes words others
  moved words others ws vs e f whole h =
      subst (λ (ws : List ℕ). Changes ws others) (sym e) (subst (λ (vs : List ℕ). Changes ws vs) (sym f) (h (subst Whole e whole)))

  pub stays_or_changes : (words others : List ℕ) → Whole words → Becomes insts words others → (others ≡ words) ⊎ Changes words others
  stays_or_changes words others whole (Itself e) = inl e
  stays_or_changes words others whole (AnyStep step fits p) = step_changes words others step fits p
  stays_or_changes words others whole (AChoice head id other more is near e f) =
      inr (moved words others (head ∷ id ∷ more) (head ∷ other ∷ more) e f whole (λ w. choice_changes head id other more w is near))
  stays_or_changes words others whole (AnEnd head ids news is near e f) =
      inr (moved words others (head ∷ ids) (head ∷ news) e f whole (λ w. end_changes head ids news w is near))
  stays_or_changes words others whole (APhi head type result ids news is near e f) =
      inr (moved words others (head ∷ type ∷ result ∷ ids) (head ∷ type ∷ result ∷ news) e f whole (λ w. phi_changes head type result ids news w is near))

  -- ---- what is used is defined

  any_found : (p : Instruction → Bool) (is : List Instruction) (i : Instruction) → find p is ≡ Some i → list_any p is ≡ true
  any_found p [] i e = absurd (cc e)
  any_found p (x ∷ is) i e = by (p x) (any_found p is i) e
    where
      by : (b : Bool) → (find p is ≡ Some i → list_any p is ≡ true) → cond b (Some x) (find p is) ≡ Some i → (b || list_any p is) ≡ true
      by true more e = refl
      by false more e = more e

  pub value_defined : (y : ℕ) → is_some (value_type insts y) ≡ true → is_defined insts y ≡ true
  value_defined y h = by (definition insts y) refl h
    where
      by : (o : Option Instruction) → definition insts y ≡ o → is_some (option_and_then given_type o) ≡ true → is_defined insts y ≡ true
      by None e k = absurd (true≢false (sym k))
      by (Some i) e k = any_found (defines y) insts i e

  near_defined : (x y : ℕ) → stands_in insts x y ≡ true → is_defined insts x ≡ true → is_defined insts y ≡ true
  near_defined x y near known = by (value_type insts x) refl
    where
      by : (o : Option ℕ) → value_type insts x ≡ o → is_defined insts y ≡ true
      by None e = ap (is_defined insts) (no_value_stays insts x y e near) ∙ known
      by (Some t) e = value_defined y (ap (λ (o : Option ℕ). is_some o) (same_type insts x y near ∙ e))

  -- ---- lines that are rewritten

  defined_unused : (r : Role) → is_defined_id r ≡ true → is_used_id r ≡ false
  defined_unused UsedId h = absurd (true≢false (sym h))
  defined_unused r h = refl

  type_unused : (r : Role) → is_type_id r ≡ true → is_used_id r ≡ false
  type_unused UsedId h = absurd (true≢false (sym h))
  type_unused r h = refl

  pub is_rewritten : (i j : Instruction) → IsInstruction i.words (roles i)
      → (is_line i ≡ false → AllByRecursion (λ id. is_defined insts id ≡ true) (used_ids i))
      → Becomes insts i.words j.words → IsRewrittenAs insts i j
  is_rewritten i j whole known b = elim (stays_or_changes i.words j.words whole b) [
    | inl e ↦ inl e
    | inr c ↦
        let k : Case = record { insts = insts; words = i.words; others = j.words; replaces = c.replaces } in
        let line : is_line i ≡ false =
        (λ n. not_settled op.LINE (opcode i) refl c.settled n || not_settled op.NO_LINE (opcode i) refl c.settled n) in
        inr (record {
          passing = c.settled;
          kind = same_code k;
          result = same_word k c.steady is_defined_id defined_unused;
          type = same_word k c.steady is_type_id type_unused;
          count = λ id d. as_long insts (roles i) i.words j.words c.replaces.replaced;
          callee = λ e. c.callee (eq-eqb (opcode i) op.FUNCTION_CALL e);
          entry = λ e. absurd (true≢false (sym e ∙ c.entry));
          name = λ e. absurd (true≢false (sym e ∙ c.entry));
          known = uses_stay k c.steady (λ id. is_defined insts id ≡ true) near_defined (known line);
        })
  ]

  -- and none of them is an entry point
  pub entry_stays : (i j : Instruction) → IsInstruction i.words (roles i) → Becomes insts i.words j.words → (opcode i == op.ENTRY_POINT) ≡ true
      → j.words ≡ i.words
  entry_stays i j whole b is = elim (stays_or_changes i.words j.words whole b) [
    | inl e ↦ e
    | inr c ↦ absurd (true≢false (sym is ∙ c.entry))
  ]
