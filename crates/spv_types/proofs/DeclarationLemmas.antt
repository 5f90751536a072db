-- What the instructions of constants declare, by their opcodes.
use Rattle.std.proofs.Common.{◌≡◌, ℕ, Bool, true, false, cond, not, ◌==◌, ◌&&◌, ◌||◌, List, [], ◌∷◌, length, drop, map, slice_index, Option, Some, refl, sym, ap, ◌∙◌}
use Rattle.std.specs.List.{list_any, list_all, filter, zip}
use Rattle.std.proofs.lemmas.Bool.{and_from, or_parts, not-false}
use Rattle.spv_opcodes.specs.declared.op.TheConstants as op
use Rattle.spv_grammar.specs.declared.kind.Role.{Role}
use Rattle.spv_grammar.specs.declared.section.TheConstants as section
use Rattle.spv_grammar.specs.Operands.{roles_of}
use Rattle.spv_grammar.specs.Roles.{is_used_id}
use Rattle.spv_grammar.specs.Table.{row_of}
use Rattle.spv_module.specs.Code.{row_section}
use Rattle.spv_module.specs.Instruction.{Instruction, opcode, roles, parts}
use Rattle.spv_meaning.specs.Constants.{Meaning, IsConstant, type_at}
use Rattle.spv_ids.specs.Ids.{is_defined, is_defined_before, is_unknown, is_declaration, used_ids, words_with}
use Rattle.spv_typing.specs.Kinds.{is_one_of, is_bool, is_int, is_closed, is_spec}
use Rattle.spv_declarations.specs.Constants.{composite_fits}
use Rattle.spv_declarations.specs.Declarations.{Declared, declared_before, says, entry}
use Rattle.spv_declarations.specs.Sound.{IsBefore, table_before}
use Rattle.spv_declarations.proofs.Declares.{AllOf, one_of-holds}
use Rattle.spv_declarations.proofs.Naming.{type-known}
use Rattle.spv_declarations.proofs.Parts.{first_typed, row_test, typed-words}
use Rattle.spv_declarations.proofs.Sites.{index-on}
use Rattle.spv_types.specs.declared.meaning.Constant.{Constant}
use Rattle.spv_types.specs.declared.meaning.Kept.{Kept}
use Rattle.spv_types.specs.Meanings.{StandFor}
use Rattle.spv_types.specs.Steps.{IsNext, constant_opcodes}
use Rattle.spv_types.specs.Declaring.{OnlyConstants, HasWords, DeclaresWords, flag_at}
use Rattle.spv_types.proofs.ConstantLemmas.{flag_kept}

-- ---- operands that are Specialised

used_cons : (test : ℕ → Bool) (used : Bool) (part : Role × ℕ) (rest : List (Role × ℕ)) →
    ((used && test part.1) || list_any test (map (λ (p : Role × ℕ). p.1) rest)) ≡ list_any test (map (λ (p : Role × ℕ). p.1) (cond used (part ∷ rest) rest))
used_cons test true part rest = refl
used_cons test false part rest = refl

-- induction on the parts
any_used : (test : ℕ → Bool) (ps : List (Role × ℕ)) → list_any (λ part. is_used_id part.0 && test part.1) ps ≡ list_any test (map (λ part. part.1) (filter (λ part. is_used_id part.0) ps))
any_used test [] = refl
any_used test (p ∷ ps) = ap (λ (b : Bool). (is_used_id p.0 && test p.1) || b) (any_used test ps) ∙ used_cons test (is_used_id p.0) p (filter (λ part. is_used_id part.0) ps)

any_same : (p q : ℕ → Bool) (xs : List ℕ) → ((x : ℕ) → p x ≡ q x) → list_any p xs ≡ list_any q xs
any_same p q [] same = refl
any_same p q (x ∷ xs) same = ap (λ (b : Bool). b || list_any p xs) (same x) ∙ ap (λ (b : Bool). q x || b) (any_same p q xs same)

pub names_flagged : (d : Declared) (ks : List (ℕ × Kept)) (i : Instruction) (rs : List Role) → parts (roles_of i.words) ≡ rs → StandFor d.table d.specialised ks → OnlyConstants d →
    list_any (λ part. is_used_id part.0 && flag_at ks part.1) (zip rs i.words) ≡ list_any (is_one_of d.specialised) (words_with is_used_id i)
names_flagged d ks i rs e stand only =
    ap (λ (roles : List Role). list_any (λ part. is_used_id part.0 && flag_at ks part.1) (zip roles i.words)) (sym e)
    ∙ any_used (flag_at ks) (zip (parts (roles_of i.words)) i.words)
    ∙ any_same (flag_at ks) (is_one_of d.specialised) (words_with is_used_id i) (λ id. flag_kept d ks id stand only)

-- ---- constants by their opcodes

-- an instruction of the opcode says something, and has a result of a type
abbrev pub IsDeclarable : ℕ → Type 0
IsDeclarable o = (row_test first_typed (row_of o) ≡ true) × ((row_section (row_of o) == section.DECLARATIONS) ≡ true)

-- by computing
declarable : AllOf IsDeclarable constant_opcodes
unfolding row_of
declarable =
    ((refl, refl), ((refl, refl), ((refl, refl), ((refl, refl), ((refl, refl), ((refl, refl), ((refl, refl), ((refl, refl), ((refl, refl), ((refl, refl), ((refl, refl), tt)))))))))))

known_all : (insts : List Instruction) (k : ℕ) (ids : List ℕ) → list_any (is_unknown insts true k) ids ≡ false → list_all (is_defined_before insts k) ids ≡ true
known_all insts k [] h = refl
known_all insts k (id ∷ ids) h =
    let both = or_parts (is_unknown insts true k id) (list_any (is_unknown insts true k) ids) h in
    let known = not-false (is_defined_before insts k id) (or_parts (not (is_defined insts id)) (not (is_defined_before insts k id)) both.0).1 in
    and_from (is_defined_before insts k id) (list_all (is_defined_before insts k) ids) known (known_all insts k ids both.1)

-- all that a declaration names is defined before it
pub all_known : (insts : List Instruction) (k : ℕ) (i : Instruction) → IsNext insts k i → is_one_of constant_opcodes (opcode i) ≡ true → list_all (is_defined_before insts k) (used_ids i) ≡ true
all_known insts k i next listed =
    let declares : is_declaration false i ≡ true = (one_of-holds IsDeclarable constant_opcodes declarable (opcode i) listed).1 in
    known_all insts k (used_ids i) (sym (ap (λ (b : Bool). list_any (is_unknown insts b k) (used_ids i)) declares) ∙ next.known)

pub type_known : (insts : List Instruction) (k : ℕ) (i : Instruction) → IsNext insts k i → is_one_of constant_opcodes (opcode i) ≡ true → IsBefore insts k (slice_index i.words 1)
type_known insts k i next listed =
    let whole = next.instructions k i next.at in
    let typed = (one_of-holds IsDeclarable constant_opcodes declarable (opcode i) listed).0 in
    type-known (is_defined_before insts k) i.words (roles i) (typed-words i (opcode i) whole refl typed) (all_known insts k i next listed)

abbrev pub rule_by : List Instruction → Declared → (o : ℕ) → List ℕ → Bool
rule_by insts d o words =
    let t = slice_index words 1 in
    cond (is_one_of (op.CONSTANT_TRUE ∷ op.CONSTANT_FALSE ∷ op.SPEC_CONSTANT_TRUE ∷ op.SPEC_CONSTANT_FALSE ∷ []) o) (is_bool insts t)
    (cond (is_one_of (op.CONSTANT ∷ op.SPEC_CONSTANT ∷ []) o) (is_int insts t && length (drop 3 words) == 1)
    (cond (o == op.CONSTANT_NULL) (is_closed insts t)
    (cond (o == op.UNDEF) (is_closed insts t)
    (cond (o == op.SPEC_CONSTANT_COMPOSITE) (composite_fits insts d t (drop 3 words))
    (cond (o == op.CONSTANT_COMPOSITE) (composite_fits insts d t (drop 3 words) && list_all (λ id. not (is_spec insts id)) (drop 3 words))
    true)))))

-- the rule on constants at the opcode
pub rule_at : (insts : List Instruction) (k : ℕ) (i : Instruction) (o : ℕ) → IsNext insts k i → opcode i ≡ o → rule_by insts (declared_before insts k) o i.words ≡ true
rule_at insts k i o next is_o = sym (ap (λ (n : ℕ). rule_by insts (declared_before insts k) n i.words) is_o) ∙ next.constant

-- what it declares, by its words counted without the first
pub declares : (insts : List Instruction) (k : ℕ) (i : Instruction) (c : Constant) (ws : List ℕ) →
    entry (says insts) (table_before insts k) i ≡ Some (slice_index (drop 1 i.words) 1, IsConstant (type_at (table_before insts k) (slice_index (drop 1 i.words) 0)) ws) →
    HasWords (table_before insts k) (type_at (table_before insts k) (slice_index i.words 1)) ws c → DeclaresWords insts k i c
declares insts k i c ws e has = record {
  type = type_at (table_before insts k) (slice_index i.words 1);
  words = ws;
  stands =
      e ∙ ap (λ (r : ℕ). stands_at r (slice_index (drop 1 i.words) 0)) (index-on i.words 1) ∙ ap (λ (t : ℕ). stands_at (slice_index i.words 2) t) (index-on i.words 0);
  has = has;
}
  where
    stands_at : (r t : ℕ) → Option (ℕ × Meaning)
    stands_at r t = Some (r, IsConstant (type_at (table_before insts k) t) ws)
