-- What is defined alike has the same type as a value, and is defined by the same words where it is not loose.
use Rattle.std.proofs.Common.{◌≡◌, inl, inr, ℕ, suc, Bool, true, false, cond, not, nat_eq, ◌==◌, ◌&&◌, ◌||◌, List, [], ◌∷◌, drop, Option, Some, None, refl, sym, ap, ◌∙◌, subst}
use Rattle.std.specs.List.{AllByRecursion, find, list_any, position, slice_get, slice_index}
use Rattle.std.specs.Option.{is_some, option_and_then, option_map, option_map_or}
use Rattle.spv_opcodes.specs.declared.op.TheConstants as op
use Rattle.spv_grammar.specs.declared.kind.Role.{Role}
use Rattle.spv_grammar.specs.declared.kind.Role.TheVariants.{Opcode, TypeId, DefinedId}
use Rattle.spv_grammar.specs.Fronts.{has_result_type}
use Rattle.spv_grammar.specs.Roles.{is_type_id}
use Rattle.spv_grammar.specs.Table.{row_of}
use Rattle.spv_module.specs.Instruction.{Instruction, IsInstruction, opcode, roles, word_with}
use Rattle.spv_module.proofs.Told.{type_told}
use Rattle.spv_ids.specs.Ids.{defines, definition, kind}
use Rattle.spv_ids.specs.Ids.{words_of as id_words}
use Rattle.spv_ids.proofs.Places.{position-cons}
use Rattle.spv_typing.specs.Kinds.{is_one_of}
use Rattle.spv_values.specs.Values.{given_type, value_type}
use Rattle.spv_declarations.proofs.Parts.{TypedWords, first_typed, row_test, typed-words}
use Rattle.spv_walk.proofs.Unique.{equal_true}
use Rattle.spv_tree.specs.Sound.{opcode_in}
use Rattle.spv_alike.specs.Alike.{is_loose, loose_kinds}
use Rattle.spv_norm.specs.Norm.{function_lines, is_gone, is_label_line}
use Rattle.spv_norm_declared.specs.Laws.{SameDefinition, defining}
use Rattle.spv_norm_declared.proofs.Definers.{copy_row, phi_row}
use Rattle.spv_norm_declared.proofs.Walks.{inst_of}

abbrev pub IsFormed : Instruction → Type 0
IsFormed i = IsInstruction i.words (roles i)

-- instructions, and others in which the same is defined alike, but for labels that went
pub record DefinesAlike (insts again : List Instruction) : Type 0 where
  pub formed : AllByRecursion IsFormed insts
  pub formed_again : AllByRecursion IsFormed again
  pub alike : (id : ℕ) (w : List ℕ) → defining again id ≡ Some w → (v : List ℕ) × (defining insts id ≡ Some v) × SameDefinition v w
  pub every : (id : ℕ) (v : List ℕ) → defining insts id ≡ Some v → is_gone insts id ≡ false → (w : List ℕ) × (defining again id ≡ Some w) × SameDefinition v w

-- ---- what is told by the words of a definition

abbrev pub kind_by : Option (List ℕ) → ℕ
kind_by o = option_map_or opcode_in o 0

abbrev pub words_by : Option (List ℕ) → List ℕ
words_by o = option_map_or (λ w. drop 0 w) o []

abbrev pub given_by : List ℕ → Option ℕ
given_by w = given_type (inst_of w)

abbrev words_at : Option Instruction → Option (List ℕ)
words_at o = option_map (λ i. i.words) o

kind_of_words : (o : Option Instruction) → option_map_or opcode o 0 ≡ kind_by (words_at o)
kind_of_words None = refl
kind_of_words (Some i) = refl

pub kind_told : (insts : List Instruction) (id : ℕ) → kind insts id ≡ kind_by (defining insts id)
kind_told insts id = kind_of_words (definition insts id)

words_of_words : (o : Option Instruction) → option_map_or (λ i. drop 0 i.words) o [] ≡ words_by (words_at o)
words_of_words None = refl
words_of_words (Some i) = refl

pub words_told : (insts : List Instruction) (id : ℕ) → id_words insts id 0 ≡ words_by (defining insts id)
words_told insts id = words_of_words (definition insts id)

value_of_words : (o : Option Instruction) → option_and_then given_type o ≡ option_and_then given_by (words_at o)
value_of_words None = refl
value_of_words (Some i) = refl

pub value_told : (insts : List Instruction) (id : ℕ) → value_type insts id ≡ option_and_then given_by (defining insts id)
value_told insts id = value_of_words (definition insts id)

-- what defines an id is one of the instructions
pub definition_formed : (insts : List Instruction) (id : ℕ) (w : List ℕ) → AllByRecursion IsFormed insts → defining insts id ≡ Some w → IsFormed (inst_of w)
definition_formed [] id w h e = absurd (cc e)
definition_formed (i ∷ is) id w h e = by (defines id i) e (definition_formed is id w h.1) where
  by : (b : Bool) → words_at (cond b (Some i) (find (defines id) is)) ≡ Some w → (defining is id ≡ Some w → IsFormed (inst_of w)) → IsFormed (inst_of w)
  by true e more = subst (λ z. IsFormed (inst_of z)) (let s : i.words ≡ w = cc e in s) h.0
  by false e more = more e

-- ---- types of values

abbrev typed_in : List ℕ → List Role → Option ℕ
typed_in words rs = option_and_then (slice_get words) (position is_type_id rs)

first_type : (w t r : ℕ) (ws : List ℕ) (others : List Role) → typed_in (w ∷ t ∷ r ∷ ws) (Opcode ∷ TypeId ∷ DefinedId ∷ others) ≡ Some t
first_type w t r ws others =
    ap (λ (p : Option ℕ). option_and_then (slice_get (w ∷ t ∷ r ∷ ws)) p)
    (position-cons is_type_id Opcode (TypeId ∷ DefinedId ∷ others)
    ∙ ap (λ (p : Option ℕ). option_map (λ k. suc k) p) (position-cons is_type_id TypeId (DefinedId ∷ others)))

type_is_first : (words : List ℕ) (rs : List Role) → TypedWords words rs → typed_in words rs ≡ Some (slice_index words 1)
type_is_first words rs p = rw (p.words_are, p.parts_are) (first_type p.word p.type p.result p.rest p.others)

-- an OpPhi or OpCopyObject gives a value of the type that its second word is
typed_given : (w : List ℕ) (o : ℕ) → IsFormed (inst_of w) → opcode_in w ≡ o → (o == op.FUNCTION) ≡ false → row_test first_typed (row_of o) ≡ true
    → given_by w ≡ Some (slice_index w 1)
typed_given w o formed e other row =
    ap (λ (b : Bool). cond b None (word_with is_type_id (inst_of w))) (ap (λ k. k == op.FUNCTION) e ∙ other)
    ∙ type_is_first w (roles (inst_of w)) (typed-words (inst_of w) o formed e row)

phi_given : (w : List ℕ) → IsFormed (inst_of w) → opcode_in w ≡ op.PHI → given_by w ≡ Some (slice_index w 1)
phi_given w formed e = typed_given w op.PHI formed e refl phi_row

copy_given : (w : List ℕ) → IsFormed (inst_of w) → opcode_in w ≡ op.COPY_OBJECT → given_by w ≡ Some (slice_index w 1)
copy_given w formed e = typed_given w op.COPY_OBJECT formed e refl copy_row

-- a label is no value
label_type : has_result_type op.LABEL ≡ false
unfolding row_of
label_type = refl

nothing_told : (o : Option ℕ) → is_some o ≡ false → o ≡ None
nothing_told None h = refl
nothing_told (Some x) h = absurd (cc h)

label_given : (w : List ℕ) → IsFormed (inst_of w) → opcode_in w ≡ op.LABEL → given_by w ≡ None
label_given w formed e =
    ap (λ (b : Bool). cond b None (word_with is_type_id (inst_of w))) (ap (λ k. k == op.FUNCTION) e)
    ∙ nothing_told (word_with is_type_id (inst_of w)) (type_told w (roles (inst_of w)) formed ∙ ap has_result_type e ∙ label_type)

-- ---- loose ids

loose_zero : is_one_of loose_kinds 0 ≡ true
loose_zero = refl

loose_phi : is_one_of loose_kinds op.PHI ≡ true
loose_phi = refl

loose_copy : is_one_of loose_kinds op.COPY_OBJECT ≡ true
loose_copy = refl

-- what is not loose is no label
fixed_no_label : (k : ℕ) → is_one_of loose_kinds k ≡ false → (k == op.LABEL) ≡ false
fixed_no_label k h = second (nat_eq k 0) (nat_eq k op.LABEL) (nat_eq k op.PHI || (nat_eq k op.COPY_OBJECT || false)) h where
  second : (a b c : Bool) → (a || (b || c)) ≡ false → b ≡ false
  second true b c h = absurd (cc h)
  second false true c h = absurd (cc h)
  second false false c h = refl

no_label_stays : (a b : Bool) → a ≡ false → (a && b) ≡ false
no_label_stays true b h = absurd (cc h)
no_label_stays false b h = refl

gone_label : (a b : Bool) → (a && b) ≡ true → a ≡ true
gone_label true b h = refl
gone_label false b h = h

module _ (insts again : List Instruction) (d : DefinesAlike insts again) (id : ℕ) where
  pub fixed : is_loose insts id ≡ false → id_words again id 0 ≡ id_words insts id 0
  fixed h = words_told again id ∙ by (defining insts id) refl ∙ sym (words_told insts id) where
    by : (o : Option (List ℕ)) → defining insts id ≡ o → words_by (defining again id) ≡ words_by (defining insts id)
    by None e = absurd (cc (sym h ∙ ap (is_one_of loose_kinds) (kind_told insts id ∙ ap kind_by e)))
    by (Some v) e =
        let stays : is_gone insts id ≡ false =
        no_label_stays (kind insts id == op.LABEL) (not (list_any (is_label_line id) (function_lines insts))) (fixed_no_label (kind insts id) h) in
        let found = d.every id v e stays in
        elim found.2 [
          | inl same ↦ ap words_by (found.1 ∙ ap Some same ∙ sym e)
          | inr p ↦ absurd (cc (sym h ∙ ap (is_one_of loose_kinds) (kind_told insts id ∙ ap kind_by e ∙ p.phi)))
        ]

  pub loose : is_loose insts id ≡ true → is_loose again id ≡ true
  loose h = by (defining again id) refl where
    by : (o : Option (List ℕ)) → defining again id ≡ o → is_loose again id ≡ true
    by None e = ap (is_one_of loose_kinds) (kind_told again id ∙ ap kind_by e)
    by (Some w) e =
        let found = d.alike id w e in
        let here : is_loose again id ≡ is_one_of loose_kinds (opcode_in w) = ap (is_one_of loose_kinds) (kind_told again id ∙ ap kind_by e) in
        elim found.2 [
          | inl same ↦ here ∙ ap (λ z. is_one_of loose_kinds (opcode_in z)) same
              ∙ sym (ap (is_one_of loose_kinds) (kind_told insts id ∙ ap kind_by found.1)) ∙ h
          | inr p ↦ elim p.kind [
            | inl k ↦ here ∙ ap (is_one_of loose_kinds) k
            | inr k ↦ here ∙ ap (is_one_of loose_kinds) k
          ]
        ]

  nothing_given : (o : Option (List ℕ)) → defining again id ≡ None → defining insts id ≡ o → option_and_then given_by o ≡ None
  nothing_given None none e = refl
  nothing_given (Some v) none e = by (is_gone insts id) refl where
    by : (b : Bool) → is_gone insts id ≡ b → given_by v ≡ None
    by true g =
        let label : (kind insts id == op.LABEL) ≡ true = gone_label (kind insts id == op.LABEL) (not (list_any (is_label_line id) (function_lines insts))) g in
        label_given v (definition_formed insts id v d.formed e) (sym (kind_told insts id ∙ ap kind_by e) ∙ equal_true (kind insts id) op.LABEL label)
    by false g = let found = d.every id v e g in absurd (cc (sym none ∙ found.1))

  pub values : value_type again id ≡ value_type insts id
  values = value_told again id ∙ by (defining again id) refl ∙ sym (value_told insts id) where
    by : (o : Option (List ℕ)) → defining again id ≡ o → option_and_then given_by (defining again id) ≡ option_and_then given_by (defining insts id)
    by None e = ap (option_and_then given_by) e ∙ sym (nothing_given (defining insts id) e refl)
    by (Some w) e =
        let found = d.alike id w e in
        ap (option_and_then given_by) e ∙ given found.0 found.1 found.2 ∙ sym (ap (option_and_then given_by) found.1)
      where
        given : (v : List ℕ) → defining insts id ≡ Some v → SameDefinition v w → given_by w ≡ given_by v
        given v f s = elim s [
          | inl same ↦ ap given_by same
          | inr p ↦
              let formed = definition_formed again id w d.formed_again e in
              let before = phi_given v (definition_formed insts id v d.formed f) p.phi in
              elim p.kind [
                | inl k ↦ phi_given w formed k ∙ ap Some p.type ∙ sym before
                | inr k ↦ copy_given w formed k ∙ ap Some p.type ∙ sym before
              ]
        ]
