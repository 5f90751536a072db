-- What an instruction needs is among the words that the operands of its row may need.
use Rattle.std.proofs.Common.{◌≡◌, ℕ, zero, suc, Bool, true, false, cond, ◌==◌, List, [], ◌∷◌, ◌++◌, length, map, drop, take, replicate, Option, Some, None, refl, sym, ap, subst, ◌∙◌}
use Rattle.std.specs.List.{filter, list_any, list_all, slice_index, zip}
use Rattle.std.specs.Option.{option_and_then, option_map}
use Rattle.std.proofs.lemmas.Bool.{and_parts, and_from, or_parts}
use Rattle.spv_opcodes.specs.declared.op.TheConstants as op
use Rattle.spv_grammar.specs.declared.kind.Role.{Role}
use Rattle.spv_grammar.specs.declared.kind.Role.TheVariants.{Opcode, TypeId, DefinedId, UsedId, Literal, UnknownEnumerant}
use Rattle.spv_grammar.specs.declared.kind.Kind.{Kind}
use Rattle.spv_grammar.specs.declared.kind.Kind.TheVariants.{ResultType, ResultId, Id, OptionalId, Ids, IdPairs, Number, SomeNumbers, Numbers, Weights, Cases, Text, OptionalText, SetName, One, MemoryOperands, Decoration, ExtInst}
use Rattle.spv_grammar.specs.Enumerants.{is_known, ext_operands}
use Rattle.spv_grammar.specs.Operands.{Taken, all, all_if, after, mark, text_role, extended, taken, operand_roles}
use Rattle.spv_grammar.specs.Table.{Shape, row_of}
use Rattle.spv_grammar.specs.Text.{text_words}
use Rattle.spv_module.specs.Instruction.{Instruction, IsInstruction, opcode, roles}
use Rattle.spv_ids.specs.Ids.{is_needed, used_ids}
use Rattle.spv_declarations.proofs.Parts.{Front, one-front, nil-words, row-words, used_in}
use Rattle.spv_label_uses.proofs.Uses.{behind_quiet, optional, uses, used_all, Quiet, is_quiet, taken-quiet, mark-quiet, text_role-quiet}

-- ---- parts that need nothing

none_used : (p : ℕ → Bool) (rs : List Role) (ws : List ℕ) → list_any is_needed rs ≡ false → list_all p (used_in rs ws) ≡ true
none_used p [] ws h = refl
none_used p (r ∷ rs) [] h = refl
none_used p (r ∷ rs) (w ∷ ws) h =
    let parts = or_parts (is_needed r) (list_any is_needed rs) h in
    let others : List (Role × ℕ) = filter (λ part. is_needed part.0) (zip rs ws) in
    ap (λ (b : Bool). list_all p (map (λ part. part.1) (cond b ((r, w) ∷ others) others))) parts.0 ∙ none_used p rs ws parts.1

append_nil : (rs : List Role) → rs ++ [] ≡ rs
append_nil [] = refl
append_nil (r ∷ rs) = ap (λ (x : List Role). r ∷ x) (append_nil rs)

-- a last operand
at_end : (t : Option Taken) (rs : List Role) → Quiet t → option_and_then (λ t. option_map (λ roles. t.roles ++ roles) (operand_roles [] t.rest)) t ≡ Some rs
    → list_any is_needed rs ≡ false
at_end None rs quiet h = absurd (cc h)
at_end (Some t) rs quiet h = by t.rest h where
  by : (rest : List ℕ) → option_map (λ roles. t.roles ++ roles) (operand_roles [] rest) ≡ Some rs → list_any is_needed rs ≡ false
  by [] e =
      let same : t.roles ++ [] ≡ rs = cc e in
      ap (list_any is_needed) (sym same) ∙ ap (list_any is_needed) (append_nil t.roles) ∙ quiet
  by (w ∷ ws) e = absurd (cc e)

-- an operand that needs nothing, and all behind it
quiet-covers : (p : ℕ → Bool) (kind : Kind) (kinds : List Kind) (vs : List ℕ) (rs : List Role) → is_quiet kind ≡ true
    → operand_roles (kind ∷ kinds) vs ≡ Some rs → list_all p (behind_quiet kinds vs) ≡ true → list_all p (used_in rs vs) ≡ true
quiet-covers p kind [] vs rs quiet fit h = none_used p rs vs (at_end (taken kind vs) rs (taken-quiet kind vs quiet) fit)
quiet-covers p kind (another ∷ kinds) vs rs quiet fit h = used_all p rs vs h

-- behind words of a part that needs nothing
skip : (p : ℕ → Bool) (n : ℕ) (role : Role) (rs : List Role) (ws : List ℕ) → is_needed role ≡ false → list_all p (drop n ws) ≡ true
    → list_all p (used_in (replicate n role ++ rs) ws) ≡ true
skip p zero role rs ws quiet h = used_all p rs ws h
skip p (suc n) role rs [] quiet h = refl
skip p (suc n) role rs (w ∷ ws) quiet h =
    let others : List (Role × ℕ) = filter (λ part. is_needed part.0) (zip (replicate n role ++ rs) ws) in
    ap (λ (b : Bool). list_all p (map (λ part. part.1) (cond b ((role, w) ∷ others) others))) quiet ∙ skip p n role rs ws quiet h

-- a string, and what stands behind it
text_behind : (p : ℕ → Bool) (kinds : List Kind) (w : ℕ) (ws : List ℕ) (rs : List Role)
    → operand_roles (Text ∷ kinds) (w ∷ ws) ≡ Some rs → list_all p (drop (text_words (w ∷ ws)) (w ∷ ws)) ≡ true → list_all p (used_in rs (w ∷ ws)) ≡ true
text_behind p kinds w ws rs fit h = by (operand_roles kinds (drop n (w ∷ ws))) fit where
  n : ℕ
  n = text_words (w ∷ ws)

  role : Role
  role = text_role (take n (w ∷ ws))

  by : (others : Option (List Role)) → option_map (λ roles. replicate n role ++ roles) others ≡ Some rs → list_all p (used_in rs (w ∷ ws)) ≡ true
  by None e = absurd (cc e)
  by (Some others) e =
      let same : replicate n role ++ others ≡ rs = cc e in
      subst (λ (rs : List Role). list_all p (used_in rs (w ∷ ws)) ≡ true) same (skip p n role others (w ∷ ws) (text_role-quiet (take n (w ∷ ws))) h)

text-covers : (p : ℕ → Bool) (kinds : List Kind) (vs : List ℕ) (rs : List Role) → operand_roles (Text ∷ kinds) vs ≡ Some rs
    → list_all p (behind_quiet kinds (drop (text_words vs) vs)) ≡ true → list_all p (used_in rs vs) ≡ true
text-covers p [] vs rs fit h = none_used p rs vs (at_end (taken Text vs) rs (taken-quiet Text vs refl) fit)
text-covers p (another ∷ kinds) [] rs fit h = absurd (cc fit)
text-covers p (another ∷ kinds) (w ∷ ws) rs fit h = text_behind p (another ∷ kinds) w ws rs fit h

-- ---- one word

-- the word at a place, and those behind it
pub at_front : (ws : List ℕ) (k w : ℕ) (rest : List ℕ) → drop k ws ≡ w ∷ rest → (slice_index ws k ≡ w) × (drop (suc k) ws ≡ rest)
at_front [] zero w rest e = absurd (cc e)
at_front [] (suc k) w rest e = absurd (cc e)
at_front (v ∷ ws) zero w rest e = (cc e, cc e)
at_front (v ∷ ws) (suc k) w rest e = at_front ws k w rest e

pub needed-covers : (p : ℕ → Bool) (role : Role) (kinds : List Kind) (k : ℕ) (words vs : List ℕ) (rs : List Role) → is_needed role ≡ true → vs ≡ drop k words
    → (f : Front role kinds vs rs) → p (slice_index words k) ≡ true → list_all p (used_in f.others f.rest) ≡ true → list_all p (used_in rs vs) ≡ true
needed-covers p role kinds k words vs rs needed same f h more =
    let place = at_front words k f.word f.rest (sym same ∙ f.words_are) in
    let others : List (Role × ℕ) = filter (λ part. is_needed part.0) (zip f.others f.rest) in
    let all : list_all p (used_in (role ∷ f.others) (f.word ∷ f.rest)) ≡ true =
    ap (λ (b : Bool). list_all p (map (λ part. part.1) (cond b ((role, f.word) ∷ others) others))) needed
    ∙ and_from (p f.word) (list_all p (used_in f.others f.rest)) (ap p (sym place.0) ∙ h) more in
    rw (f.words_are, f.parts_are) all

pub quiet_one-covers : (p : ℕ → Bool) (role : Role) (kinds : List Kind) (vs : List ℕ) (rs : List Role) → is_needed role ≡ false
    → (f : Front role kinds vs rs) → list_all p (used_in f.others f.rest) ≡ true → list_all p (used_in rs vs) ≡ true
quiet_one-covers p role kinds vs rs quiet f more =
    let others : List (Role × ℕ) = filter (λ part. is_needed part.0) (zip f.others f.rest) in
    let all : list_all p (used_in (role ∷ f.others) (f.word ∷ f.rest)) ≡ true =
    ap (λ (b : Bool). list_all p (map (λ part. part.1) (cond b ((role, f.word) ∷ others) others))) quiet ∙ more in
    rw (f.words_are, f.parts_are) all

-- what stands behind the word at a place
abbrev pub rest_is : {role : Role} {kinds : List Kind} {vs : List ℕ} {rs : List Role} (words : List ℕ) (k : ℕ) → vs ≡ drop k words
    → (f : Front role kinds vs rs) → f.rest ≡ drop (suc k) words
rest_is words k same f = sym (at_front words k f.word f.rest (sym same ∙ f.words_are)).1

pub one_of : (e : _) (kinds : List Kind) (vs : List ℕ) (rs : List Role) → operand_roles (One e ∷ kinds) vs ≡ Some rs
    → (role : Role) × (is_needed role ≡ false) × Front role kinds vs rs
one_of e kinds [] rs fit = absurd (cc fit)
one_of e kinds (w ∷ ws) rs fit = (mark (is_known e w), mark-quiet (is_known e w), one-front (mark (is_known e w)) kinds (w ∷ ws) rs fit)

-- an extended instruction, whose first word is its number
extended-covers : (p : ℕ → Bool) (kinds : List Kind) (vs : List ℕ) (rs : List Role) → operand_roles (ExtInst ∷ kinds) vs ≡ Some rs
    → list_all p (drop 1 vs) ≡ true → list_all p (used_in rs vs) ≡ true
extended-covers p kinds [] rs fit h = absurd (cc fit)
extended-covers p kinds (w ∷ ws) rs fit h = by_number (ext_operands w) fit where
  first_quiet : (role : Role) (t : Option Taken) → is_needed role ≡ false
      → option_and_then (λ t. option_map (λ roles. t.roles ++ roles) (operand_roles kinds t.rest)) (option_map (after (role ∷ [])) t) ≡ Some rs
      → list_all p (used_in rs (w ∷ ws)) ≡ true
  first_quiet role None quiet e = absurd (cc e)
  first_quiet role (Some t) quiet e = behind (operand_roles kinds t.rest) e where
    behind : (others : Option (List Role)) → option_map (λ roles. (role ∷ t.roles) ++ roles) others ≡ Some rs → list_all p (used_in rs (w ∷ ws)) ≡ true
    behind None e = absurd (cc e)
    behind (Some others) e =
        let same : role ∷ (t.roles ++ others) ≡ rs = cc e in
        let parts : List (Role × ℕ) = filter (λ part. is_needed part.0) (zip (t.roles ++ others) ws) in
        subst (λ (rs : List Role). list_all p (used_in rs (w ∷ ws)) ≡ true) same
        (ap (λ (b : Bool). list_all p (map (λ part. part.1) (cond b ((role, w) ∷ parts) parts))) quiet ∙ used_all p (t.roles ++ others) ws h)

  by_number : (n : Option ℕ) → option_and_then (λ t. option_map (λ roles. t.roles ++ roles) (operand_roles kinds t.rest)) (extended n ws) ≡ Some rs
      → list_all p (used_in rs (w ∷ ws)) ≡ true
  by_number None e = first_quiet UnknownEnumerant (all UsedId ws) refl e
  by_number (Some n) e = first_quiet Literal (all_if (length ws == n) (replicate (length ws) UsedId)) refl e

optional-covers : (p : ℕ → Bool) (kinds : List Kind) (vs : List ℕ) (rs : List Role) → operand_roles (OptionalId ∷ kinds) vs ≡ Some rs
    → list_all p (optional kinds vs) ≡ true → list_all p (used_in rs vs) ≡ true
optional-covers p (kind ∷ kinds) vs rs fit h = used_all p rs vs h
optional-covers p [] [] rs fit h = used_all p rs [] refl
optional-covers p [] (w ∷ []) rs fit h = used_all p rs (w ∷ []) h
optional-covers p [] (w ∷ v ∷ ws) rs fit h = absurd (cc fit)

drop-one : (ws : List ℕ) (k : ℕ) → drop 1 (drop k ws) ≡ drop (suc k) ws
drop-one [] zero = refl
drop-one [] (suc k) = refl
drop-one (w ∷ ws) zero = refl
drop-one (w ∷ ws) (suc k) = drop-one ws k

-- ---- all operands

-- induction on the operands
pub covers : (p : ℕ → Bool) (kinds : List Kind) (k : ℕ) (words vs : List ℕ) (rs : List Role) → vs ≡ drop k words → operand_roles kinds vs ≡ Some rs
    → list_all p (uses kinds k words) ≡ true → list_all p (used_in rs vs) ≡ true
covers p [] k words vs rs same fit h =
    let none = nil-words vs rs fit in
    rw (none.0, none.1) refl
covers p (ResultType ∷ kinds) k words vs rs same fit h =
    let f = one-front TypeId kinds vs rs fit in
    let parts = and_parts (p (slice_index words k)) (list_all p (uses kinds (suc k) words)) h in
    needed-covers p TypeId kinds k words vs rs refl same f parts.0 (covers p kinds (suc k) words f.rest f.others (rest_is words k same f) f.fit parts.1)
covers p (Id ∷ kinds) k words vs rs same fit h =
    let f = one-front UsedId kinds vs rs fit in
    let parts = and_parts (p (slice_index words k)) (list_all p (uses kinds (suc k) words)) h in
    needed-covers p UsedId kinds k words vs rs refl same f parts.0 (covers p kinds (suc k) words f.rest f.others (rest_is words k same f) f.fit parts.1)
covers p (ResultId ∷ kinds) k words vs rs same fit h =
    let f = one-front DefinedId kinds vs rs fit in
    quiet_one-covers p DefinedId kinds vs rs refl f (covers p kinds (suc k) words f.rest f.others (rest_is words k same f) f.fit h)
covers p (Number ∷ kinds) k words vs rs same fit h =
    let f = one-front Literal kinds vs rs fit in
    quiet_one-covers p Literal kinds vs rs refl f (covers p kinds (suc k) words f.rest f.others (rest_is words k same f) f.fit h)
covers p (One e ∷ kinds) k words vs rs same fit h =
    let m = one_of e kinds vs rs fit in
    let f = m.2 in
    quiet_one-covers p m.0 kinds vs rs m.1 f (covers p kinds (suc k) words f.rest f.others (rest_is words k same f) f.fit h)
covers p (SomeNumbers ∷ kinds) k words vs rs same fit h = quiet-covers p SomeNumbers kinds vs rs refl fit (rw same h)
covers p (Numbers ∷ kinds) k words vs rs same fit h = quiet-covers p Numbers kinds vs rs refl fit (rw same h)
covers p (SetName ∷ kinds) k words vs rs same fit h = quiet-covers p SetName kinds vs rs refl fit (rw same h)
covers p (MemoryOperands ∷ kinds) k words vs rs same fit h = quiet-covers p MemoryOperands kinds vs rs refl fit (rw same h)
covers p (Decoration ∷ kinds) k words vs rs same fit h = quiet-covers p Decoration kinds vs rs refl fit (rw same h)
covers p (Text ∷ kinds) k words vs rs same fit h = text-covers p kinds vs rs fit (rw same h)
covers p (ExtInst ∷ kinds) k words vs rs same fit h = extended-covers p kinds vs rs fit (rw same (ap (list_all p) (drop-one words k) ∙ h))
covers p (OptionalId ∷ kinds) k words vs rs same fit h = optional-covers p kinds vs rs fit (rw same h)
covers p (Ids most ∷ kinds) k words vs rs same fit h = used_all p rs vs (rw same h)
covers p (IdPairs ∷ kinds) k words vs rs same fit h = used_all p rs vs (rw same h)
covers p (Weights ∷ kinds) k words vs rs same fit h = used_all p rs vs (rw same h)
covers p (Cases most ∷ kinds) k words vs rs same fit h = used_all p rs vs (rw same h)
covers p (OptionalText ∷ kinds) k words vs rs same fit h = used_all p rs vs (rw same h)

-- ---- an instruction

-- by the row of an opcode
abbrev pub row_uses : Option Shape → (words : List ℕ) → List ℕ
row_uses None words = words
row_uses (Some shape) words = uses shape.kinds 1 words

-- what the words behind the first may need covers what the instruction needs
pub used_by_row : (p : ℕ → Bool) (i : Instruction) (o : ℕ) → IsInstruction i.words (roles i) → opcode i ≡ o → (o == op.SPEC_CONSTANT_OP) ≡ false
    → list_all p (row_uses (row_of o) i.words) ≡ true → list_all p (used_ids i) ≡ true
used_by_row p i o whole is_o other h = by (row_of o) refl h where
  by : (row : Option Shape) → row_of o ≡ row → list_all p (row_uses row i.words) ≡ true → list_all p (used_ids i) ≡ true
  by None e h = used_all p (roles i) i.words h
  by (Some shape) e h =
      let r = row-words o shape i.words (roles i) e other is_o whole.parted in
      let behind : r.rest ≡ drop 1 i.words = sym (ap (drop 1) r.words_are) in
      let all : list_all p (used_in (Opcode ∷ r.others) (r.word ∷ r.rest)) ≡ true = covers p shape.kinds 1 i.words r.rest r.others behind r.fit h in
      subst (λ (ws : List ℕ). list_all p (used_in (roles i) ws) ≡ true) (sym r.words_are)
      (subst (λ (rs : List Role). list_all p (used_in rs (r.word ∷ r.rest)) ≡ true) (sym r.parts_are) all)
