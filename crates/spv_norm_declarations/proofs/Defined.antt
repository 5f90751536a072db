-- What is defined in a module and is no label is defined in one that is alike.
use Rattle.std.proofs.Common.{◌≡◌, ℕ, suc, Bool, true, false, cond, ◌==◌, ◌||◌, List, [], ◌∷◌, drop, find, length, nat_eq, Option, Some, None, Ok, refl, sym, ap, ◌∙◌, arith}
use Rattle.std.specs.List.{AllByRecursion, list_any, position, slice_get, slice_index}
use Rattle.std.specs.Option.{option_and_then, option_map, option_map_or}
use Rattle.spv_opcodes.specs.declared.op.TheConstants as op
use Rattle.spv_grammar.specs.declared.kind.Role.{Role}
use Rattle.spv_grammar.specs.declared.kind.Role.TheVariants.{Opcode, TypeId, DefinedId}
use Rattle.spv_grammar.specs.Operands.{behind, body_roles, roles_of, opcode_of}
use Rattle.spv_grammar.specs.Roles.{is_type_id}
use Rattle.spv_grammar.specs.Table.{row_of}
use Rattle.spv_module.specs.Instruction.{Instruction, IsInstruction, opcode, roles, word_with}
use Rattle.spv_ids.specs.Ids.{defines, definition, is_defined, kind}
use Rattle.spv_ids.proofs.Places.{position-cons}
use Rattle.spv_typing.specs.Kinds.{is_one_of}
use Rattle.spv_values.specs.Values.{given_type, value_type}
use Rattle.spv_declarations.proofs.Declares.{one_of-holds}
use Rattle.spv_declarations.proofs.Parts.{defined-plain, first_plain, first_typed, row_test, typed-words}
use Rattle.spv_walk.proofs.Unique.{true_equal, truth_apart}
use Rattle.spv_norm_declarations.proofs.Lookups.{LooksAlike, loose}

abbrev pub IsFormed : Instruction → Type 0
IsFormed i = IsInstruction i.words (roles i)

-- ---- the first that passes

pub record IsFound (p : Instruction → Bool) (is : List Instruction) : Type 0 where
  pub inst : Instruction
  pub at : find p is ≡ Some inst
  pub formed : IsFormed inst

found : (p : Instruction → Bool) (is : List Instruction) → AllByRecursion IsFormed is → list_any p is ≡ true → IsFound p is
found p [] h e = absurd (cc e)
found p (i ∷ is) h e = by (p i) refl e (found p is h.1) where
  by : (b : Bool) → p i ≡ b → (b || list_any p is) ≡ true → (list_any p is ≡ true → IsFound p is) → IsFound p (i ∷ is)
  by true g e more = record { inst = i; at = ap (λ z. cond z (Some i) (find p is)) g; formed = h.0 }
  by false g e more = let m = more e in record { inst = m.inst; at = ap (λ z. cond z (Some i) (find p is)) g ∙ m.at; formed = m.formed }

pub some_found : (p : Instruction → Bool) (is : List Instruction) (i : Instruction) → find p is ≡ Some i → list_any p is ≡ true
some_found p [] i e = absurd (cc e)
some_found p (x ∷ is) i e = by (p x) e (some_found p is i) where
  by : (b : Bool) → cond b (Some x) (find p is) ≡ Some i → (find p is ≡ Some i → list_any p is ≡ true) → (b || list_any p is) ≡ true
  by true e more = refl
  by false e more = more e

-- ---- what OpPhi and OpCopyObject define is a value

first_type : (w t r : ℕ) (ws : List ℕ) (others : List Role)
    → option_and_then (slice_get (w ∷ t ∷ r ∷ ws)) (position is_type_id (Opcode ∷ TypeId ∷ DefinedId ∷ others)) ≡ Some t
first_type w t r ws others =
    ap (λ (p : Option ℕ). option_and_then (slice_get (w ∷ t ∷ r ∷ ws)) p)
    (position-cons is_type_id Opcode (TypeId ∷ DefinedId ∷ others)
    ∙ ap (λ (p : Option ℕ). option_map (λ k. suc k) p) (position-cons is_type_id TypeId (DefinedId ∷ others)))

type_given : (i : Instruction) (o : ℕ) → IsFormed i → opcode i ≡ o → row_test first_typed (row_of o) ≡ true → (o == op.FUNCTION) ≡ false → (t : ℕ) ×
    (given_type i ≡ Some t)
type_given i o formed e typed no_function =
    let t = typed-words i o formed e typed in
    let type : word_with is_type_id i ≡ Some t.type =
    ap (λ ws. option_and_then (slice_get ws) (position is_type_id (roles i))) t.words_are
    ∙ ap (λ rs. option_and_then (slice_get (t.word ∷ t.type ∷ t.result ∷ t.rest)) (position is_type_id rs)) t.parts_are
    ∙ first_type t.word t.type t.result t.rest t.others in
    (t.type, ap (λ b. cond b None (word_with is_type_id i)) (ap (λ z. z == op.FUNCTION) e ∙ no_function) ∙ type)

phi_typed : row_test first_typed (row_of op.PHI) ≡ true
unfolding row_of
phi_typed = refl

copy_typed : row_test first_typed (row_of op.COPY_OBJECT) ≡ true
unfolding row_of
copy_typed = refl

-- no instruction has the opcode 0
nothing_zero : (i : Instruction) → IsFormed i → opcode i ≡ 0 → ⊥
unfolding row_of roles_of
nothing_zero i formed e = by i.words e formed.parted where
  by : (ws : List ℕ) → opcode_of (slice_index ws 0) ≡ 0 → roles_of ws ≡ Ok (roles i) → ⊥
  by [] e h = absurd (cc h)
  by (w ∷ ws) e h = absurd (cc (sym (ap (λ o. behind (Opcode ∷ []) (body_roles o ws)) e) ∙ h))

label_row : row_test first_plain (row_of op.LABEL) ≡ true
unfolding row_of
label_row = refl

second_word : (words : List ℕ) → slice_index (drop 1 words) 0 ≡ slice_index words 1
second_word [] = refl
second_word (w ∷ ws) = refl

-- an OpLabel defines its label
pub label_defines : (i : Instruction) → IsFormed i → opcode i ≡ op.LABEL → defines (slice_index i.words 1) i ≡ true
label_defines i formed e =
    ap (λ o. option_map_or (nat_eq (slice_index i.words 1)) o false)
    (defined-plain i formed (ap (λ o. row_test first_plain (row_of o)) e ∙ label_row) ∙ ap Some (second_word i.words))
    ∙ true_equal (slice_index i.words 1) (slice_index i.words 1) refl

module _ (insts again : List Instruction) (alike : LooksAlike insts again) (values : (id : ℕ) → value_type again id ≡ value_type insts id)
    (formed : AllByRecursion IsFormed insts) where
  pub stays_defined : (id : ℕ) → is_defined insts id ≡ true → (kind insts id == op.LABEL) ≡ false → is_defined again id ≡ true
  stays_defined id d n = by (is_one_of loose (kind insts id)) refl where
    f : IsFound (defines id) insts
    f = found (defines id) insts formed d

    kind_is : kind insts id ≡ opcode (f.inst)
    kind_is = ap (λ o. option_map_or opcode o 0) f.at

    words_there : (o : Option Instruction) → definition again id ≡ o → option_map_or (λ i. drop 0 i.words) o [] ≡ f.inst.words → is_defined again id ≡ true
    words_there None at e = let some = f.formed.some in let none = ap length e in absurd (omega (arith, some, none))
    words_there (Some j) at e = some_found (defines id) again j at

    type_there : (o : Option Instruction) → definition again id ≡ o → (t : ℕ) → option_and_then given_type o ≡ Some t → is_defined again id ≡ true
    type_there None at t e = absurd (cc e)
    type_there (Some j) at t e = some_found (defines id) again j at

    value_there : (t : ℕ) × (given_type f.inst ≡ Some t) → is_defined again id ≡ true
    value_there t = type_there (definition again id) refl t.0 (values id ∙ ap (λ o. option_and_then given_type o) f.at ∙ t.1)

    by : (b : Bool) → is_one_of loose (kind insts id) ≡ b → is_defined again id ≡ true
    by true e =
        one_of-holds (λ o. kind insts id ≡ o → is_defined again id ≡ true) loose (
          λ z. absurd (nothing_zero f.inst f.formed (sym kind_is ∙ z)),
          (
            λ z. absurd (truth_apart (op.LABEL == op.LABEL) refl (sym (ap (λ o. o == op.LABEL) z) ∙ n)),
            (
              λ z. value_there (type_given f.inst op.PHI f.formed (sym kind_is ∙ z) phi_typed refl),
              (λ z. value_there (type_given f.inst op.COPY_OBJECT f.formed (sym kind_is ∙ z) copy_typed refl), tt),
            ),
          ),
        )
        (kind insts id) e refl
    by false e = words_there (definition again id) refl (alike.fixed id e ∙ ap (λ o. option_map_or (λ i. drop 0 i.words) o []) f.at)
