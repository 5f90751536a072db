-- A module and what it becomes are alike, with nothing gone.
use Rattle.std.proofs.Common.{◌≡◌, inl, inr, ℕ, suc, Bool, true, false, cond, nat_eq, nat_lt, ◌==◌, ◌&&◌, ◌||◌, List, [], ◌∷◌, Option, Some, None, refl, sym, ap, ap₂, ◌∙◌, true≢false, eqb-true, arith}
use Rattle.std.specs.List.{AllByRecursion, slice_get, slice_index}
use Rattle.std.specs.Option.{is_some, option_and_then, option_map, option_map_or}
use Rattle.spv_opcodes.specs.declared.op.TheConstants as op
use Rattle.spv_module.specs.Code.{is_line}
use Rattle.spv_module.specs.Instruction.{Instruction, IsInstruction, opcode, roles, word_with}
use Rattle.spv_module.proofs.Told.{result_told, type_told}
use Rattle.spv_grammar.specs.Roles.{is_defined_id, is_type_id}
use Rattle.spv_ids.specs.Ids.{defines, definition, kind, word_of}
use Rattle.spv_typing.specs.Kinds.{constants, is_closed, is_constant, is_int, is_one_of, is_outside, type_of}
use Rattle.spv_typing.specs.Types.{array_fits, type_fits}
use Rattle.spv_values.specs.Values.{given_type}
use Rattle.spv_declarations.specs.Declarations.{declared_before}
use Rattle.spv_declarations.specs.Laws.{IsUnbroken}
use Rattle.spv_declarations.proofs.Modules.{unbroken}
use Rattle.spv_declarations.proofs.Unbroken.{keeps}
use Rattle.spv_composites.specs.Forms as form
use Rattle.spv_composites.specs.Forms.{FormTable, NoPart, form_at, form_of, forms, forms_behind, parts_behind, plain_types, with_form}
use Rattle.spv_composites.specs.Lengths.{is_signed, known_length, some_length}
use Rattle.spv_signatures.specs.declared.parameters.Parameter.{Parameter}
use Rattle.spv_alike.proofs.Lookups.{and_left, and_right}
use Rattle.spv_alike_uses.specs.Alike.{firm_kinds, is_firm, Stays}
use Rattle.spv_alike_uses.proofs.Lookups.{each, where_true}
use Rattle.spv_thinned.proofs.Walk.{each_at, inst}
use Rattle.spv_rewritten.specs.Rewritten.{EachAs, IsRewritten, IsRewrittenAs, settled_kinds}
use Rattle.spv_rewritten.specs.Laws.{RewrittenIsAlike}
use Rattle.spv_rewritten.proofs.Common.{none_settled, not_settled}
use Rattle.spv_rewritten.proofs.Lookups.{Found, same_definition, same_firm, same_kind, same_outside, same_value}
use Rattle.spv_rewritten.proofs.Pairs.{each_also, each_with, walk}
use Rattle.spv_rewritten.proofs.Rows.{typed_result}
use Rattle.spv_rewritten.proofs.Statements.{same_decorations}
use Rattle.spv_rewritten.proofs.Tables.{same_known, same_parameters}

-- ---- what is known of each pair

abbrev pub HasLength : List Instruction → Instruction → Type 0
HasLength b i =
    (opcode i == op.TYPE_ARRAY) ≡ true → (is_constant b (slice_index i.words 3) ≡ true) × (is_int b (type_of b (slice_index i.words 3)) ≡ true)

pub record IsPair (b : List Instruction) (i j : Instruction) : Type 0 where
  pub rewritten : IsRewrittenAs b i j
  pub whole : IsInstruction i.words (roles i)
  -- the length of an array type is a constant of a type of integers
  pub array : HasLength b i

not_line : (i : Instruction) → (opcode i == op.TYPE_ARRAY) ≡ true → is_line i ≡ false
not_line i h = ap (λ (o : ℕ). o == op.LINE || o == op.NO_LINE) (eqb-true (opcode i) op.TYPE_ARRAY h)

array_fits_by : (insts : List Instruction) (i : Instruction) → (opcode i == op.TYPE_ARRAY) ≡ true
    → type_fits insts i ≡ array_fits insts (slice_index i.words 2) (slice_index i.words 3)
unfolding type_fits
array_fits_by insts i h = rw (eqb-true (opcode i) op.TYPE_ARRAY h) refl

length_constant : (insts : List Instruction) → IsUnbroken insts → (k : ℕ) (i : Instruction) → slice_get insts k ≡ Some i → HasLength insts i
length_constant insts h k i at is =
    let types : type_fits insts i ≡ true =
    (keeps insts (declared_before insts k) k i (not_line i is) (unbroken insts (suc k) h.unrefused k i (omega arith) at)).types in
    let fits : array_fits insts (slice_index i.words 2) (slice_index i.words 3) ≡ true = sym (array_fits_by insts i is) ∙ types in
    let l = slice_index i.words 3 in
    let right = and_right (is_closed insts (slice_index i.words 2)) (is_constant insts l && is_int insts (type_of insts l)) fits in (
      and_left (is_constant insts l) (is_int insts (type_of insts l)) right,
      and_right (is_constant insts l) (is_int insts (type_of insts l)) right,
    )

pub pairs_of : (before after : List Instruction) → IsUnbroken before → IsRewritten before after → EachAs (IsPair before) before after
pairs_of before after h w =
    each_also (λ i j. IsRewrittenAs before i j × (IsInstruction i.words (roles i) × HasLength before i)) (IsPair before)
    (λ i j r. record { rewritten = r.0; whole = r.1.0; array = r.1.1 }) before after
    (each_with (IsRewrittenAs before) (λ i. IsInstruction i.words (roles i) × HasLength before i) before after
    (each_at (λ i. IsInstruction i.words (roles i) × HasLength before i) before (λ k i at. (h.whole k i at, length_constant before h k i at))) w)

pub all_stay : (ids : List ℕ) → AllByRecursion (Stays (λ id. false)) ids
all_stay [] = tt
all_stay (id ∷ ids) = (refl, all_stay ids)

all_parameters : (ps : List Parameter) → AllByRecursion (λ p. Stays (λ id. false) p.id × Stays (λ id. false) p.ty) ps
all_parameters [] = tt
all_parameters (p ∷ ps) = ((refl, refl), all_parameters ps)

-- ---- lengths and forms

constant_kinds : (a b d : Bool) → (a || (b && d)) ≡ true → (b || a) ≡ true
constant_kinds a true d h = refl
constant_kinds true false d h = refl
constant_kinds false false d h = h

none_by : {A : Type 0} (a b c : Bool) (x y z : Option A) → a ≡ false → b ≡ false → c ≡ false → cond a x (cond b y (cond c z None)) ≡ None
none_by true b c x y z h g k = absurd (true≢false h)
none_by false true c x y z h g k = absurd (true≢false g)
none_by false false true x y z h g k = absurd (true≢false k)
none_by false false false x y z h g k = refl

int_firm : (o : ℕ) → (o == op.TYPE_INT) ≡ true → is_one_of firm_kinds o ≡ true
int_firm o h = ap (is_one_of firm_kinds) (eqb-true o op.TYPE_INT h)

-- what gives a result and is rewritten has a type
typed_by : (i : Instruction) → IsInstruction i.words (roles i) → is_one_of settled_kinds (opcode i) ≡ false → (id : ℕ) → defines id i ≡ true
    → given_type i ≡ None → ⊥
typed_by i whole s id d none =
    true≢false
    (sym (type_told i.words (roles i) whole ∙ typed_result (opcode i) s (sym (result_told i.words (roles i) whole) ∙ has (word_with is_defined_id i) d))
    ∙ ap is_some (typed ∙ none))
  where
    has : (o : Option ℕ) → option_map_or (nat_eq id) o false ≡ true → is_some o ≡ true
    has None h = absurd (cc h)
    has (Some x) h = refl

    typed : word_with is_type_id i ≡ given_type i
    typed = sym (ap (λ (b : Bool). cond b None (word_with is_type_id i)) (not_settled op.FUNCTION (opcode i) refl s))

module _ (before after : List Instruction) (h : IsUnbroken before) (w : IsRewritten before after) where
  pairs : EachAs (IsPair before) before after
  pairs = pairs_of before after h w

  same_signed : (id : ℕ) → is_constant before id ≡ true → is_int before (type_of before id) ≡ true → is_signed after id ≡ is_signed before id
  same_signed id c n =
      ap (λ (t : ℕ). word_of after t 3 == 1)
      (same_firm before before after w id ℕ (λ ws. slice_index ws 1) 0
      (each (is_one_of firm_kinds) (op.UNDEF ∷ constants) refl (kind before id)
      (constant_kinds (is_one_of constants (kind before id)) (kind before id == op.UNDEF) (is_outside before id) c)))
      ∙ ap (λ (k : ℕ). k == 1) (same_firm before before after w (type_of before id) ℕ (λ ws. slice_index ws 3) 0 (int_firm (kind before (type_of before id)) n))

  same_length : (id : ℕ) → is_constant before id ≡ true → is_int before (type_of before id) ≡ true → known_length after id ≡ known_length before id
  unfolding known_length
  same_length id c n =
      ap₂ (λ (signed : Bool) (o : Option ℕ). option_and_then (some_length signed) (cond (nat_lt 0 id) o None)) (same_signed id c n)
      (same_known before after w id 0)

  no_form : (insts : List Instruction) (table : FormTable) (i : Instruction) → is_one_of settled_kinds (opcode i) ≡ false → form_of insts table i ≡ None
  no_form insts table i s =
      none_by (is_one_of plain_types (opcode i)) (opcode i == op.TYPE_ARRAY) (opcode i == op.TYPE_STRUCT) _ _ _
      (none_settled plain_types (opcode i) (λ n. each (is_one_of settled_kinds) plain_types refl n) s)
      (not_settled op.TYPE_ARRAY (opcode i) refl s) (not_settled op.TYPE_STRUCT (opcode i) refl s)

  same_form : (table : FormTable) (i : Instruction) → HasLength before i → form_of after table i ≡ form_of before table i
  same_form table i array =
      ap (λ z. cond (is_one_of plain_types (opcode i)) (Some (form.Plain (slice_index i.words 1))) z)
      (where_true (opcode i == op.TYPE_ARRAY) _ _ _ _
      (λ e. ap (λ l. option_map (form.Array l) (form_at table (slice_index i.words 2)))
      (ap (λ o. option_map_or form.Known o (form.Constant (slice_index i.words 3))) (same_length (slice_index i.words 3) (array e).0 (array e).1))) refl)

  next_form : (table : FormTable) (i j : Instruction) → IsPair before i j
      → with_form table (slice_index j.words 1) (form_of after table j) ≡ with_form table (slice_index i.words 1) (form_of before table i)
  next_form table i j p = elim p.rewritten [
    | inl e ↦ ap (λ ws. with_form table (slice_index ws 1) (form_of after table (inst ws))) e
        ∙ ap (with_form table (slice_index i.words 1)) (same_form table i p.array)
    | inr c ↦ ap (with_form table (slice_index j.words 1)) (no_form after table j (ap (is_one_of settled_kinds) c.kind ∙ c.passing))
        ∙ sym (ap (with_form table (slice_index i.words 1)) (no_form before table i c.passing))
  ]

  abbrev SameForms : List Instruction → List Instruction → Type 0
  SameForms is js = (table : FormTable) → forms_behind after table js ≡ forms_behind before table is

  same_forms : forms after ≡ forms before
  unfolding forms
  same_forms =
      walk (IsPair before) SameForms (λ table. refl)
      (λ i j is js p more table. more (with_form table (slice_index j.words 1) (form_of after table j))
      ∙ ap (λ t. forms_behind before t is) (next_form table i j p))
      before after pairs []

  -- ---- what has no type

  third : (id : ℕ) → is_firm before id ≡ false → option_and_then given_type (definition before id) ≡ None → word_of after id 2 ≡ word_of before id 2
  third id loose = by (definition before id) (definition after id) (same_definition before (IsPair before) (λ i j p. p.rewritten) before after pairs id)
    where
      by : (o p : Option Instruction) → Found (λ i j. IsPair before i j × (defines id i ≡ true)) o p → option_and_then given_type o ≡ None
          → option_map_or (λ i. slice_index i.words 2) p 0 ≡ option_map_or (λ i. slice_index i.words 2) o 0
      by None None f none = refl
      by None (Some j) f none = absurd f
      by (Some i) None f none = absurd f
      by (Some i) (Some j) f none = elim f.0.rewritten [
        | inl e ↦ ap (λ ws. slice_index ws 2) e
        | inr c ↦ absurd (typed_by i f.0.whole c.passing id f.1 none)
      ]

pub rewritten_is_alike : RewrittenIsAlike
rewritten_is_alike before after h w = record {
  zero = refl;
  values = λ id s. same_value before before after w id;
  types = λ id t s e. refl;
  fixed = λ id s firm. same_firm before before after w id (List ℕ) (λ ws. ws) [] firm;
  loose = λ id s loose. ap (is_one_of firm_kinds) (same_kind before before after w id) ∙ loose;
  taken = λ id s firm i e. all_stay _;
  outside = λ id s. same_outside before before after w id;
  decorations = λ id d s. same_decorations before before after w id d;
  known = λ id k s. same_known before after w id k;
  forms = λ t s. ap (λ (table : FormTable). form_at table t) (same_forms before after h w);
  parameters = λ f s. same_parameters before after w f;
  parameters_stay = λ f s. all_parameters _;
  thirds = λ id s loose none. third before after h w id loose none;
}
