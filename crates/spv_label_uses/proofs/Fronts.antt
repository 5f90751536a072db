-- What the operands in front may need, and all words behind them.
use Rattle.std.proofs.Common.{◌≡◌, ℕ, zero, suc, Bool, true, false, not, ◌==◌, List, [], ◌∷◌, drop, Option, Some, None, refl, sym, ap, subst, ◌∙◌}
use Rattle.std.specs.List.{list_all, slice_index}
use Rattle.std.proofs.lemmas.Bool.{and_parts, not-true}
use Rattle.spv_opcodes.specs.declared.op.TheConstants as op
use Rattle.spv_grammar.specs.declared.kind.Kind.{Kind}
use Rattle.spv_grammar.specs.declared.kind.Kind.TheVariants.{ResultType, ResultId, Id, One}
use Rattle.spv_grammar.specs.declared.kind.Role.{Role}
use Rattle.spv_grammar.specs.declared.kind.Role.TheVariants.{Opcode, TypeId, DefinedId, UsedId}
use Rattle.spv_grammar.specs.Operands.{operand_roles}
use Rattle.spv_grammar.specs.Table.{Shape, row_of}
use Rattle.spv_module.specs.Instruction.{Instruction, IsInstruction, opcode, roles}
use Rattle.spv_ids.specs.Ids.{used_ids}
use Rattle.spv_typing.specs.Kinds.{is_one_of}
use Rattle.spv_declarations.proofs.Parts.{one-front, row-words, used_in}
use Rattle.spv_label_uses.proofs.Covered.{needed-covers, quiet_one-covers, one_of, rest_is}
use Rattle.spv_label_uses.proofs.Free.{one_passes}
use Rattle.spv_label_uses.proofs.Groups.{AllOf, of_one}
use Rattle.spv_label_uses.proofs.Uses.{used_all}

-- what the first n operands may need, and all words behind them
abbrev pub front_uses : (n : ℕ) → List Kind → (k : ℕ) → (words : List ℕ) → List ℕ
front_uses (suc n) (ResultType ∷ kinds) k ws = slice_index ws k ∷ front_uses n kinds (suc k) ws
front_uses (suc n) (ResultId ∷ kinds) k ws = front_uses n kinds (suc k) ws
front_uses (suc n) (Id ∷ kinds) k ws = slice_index ws k ∷ front_uses n kinds (suc k) ws
front_uses (suc n) (One enumerant ∷ kinds) k ws = front_uses n kinds (suc k) ws
front_uses n kinds k ws = drop k ws

-- induction on the operands
front-covers : (p : ℕ → Bool) (n : ℕ) (kinds : List Kind) (k : ℕ) (words vs : List ℕ) (rs : List Role) → vs ≡ drop k words → operand_roles kinds vs ≡ Some rs
    → list_all p (front_uses n kinds k words) ≡ true → list_all p (used_in rs vs) ≡ true
front-covers p (suc n) (ResultType ∷ kinds) k words vs rs same fit h =
    let f = one-front TypeId kinds vs rs fit in
    let parts = and_parts (p (slice_index words k)) (list_all p (front_uses n kinds (suc k) words)) h in
    needed-covers p TypeId kinds k words vs rs refl same f parts.0
    (front-covers p n kinds (suc k) words f.rest f.others (rest_is words k same f) f.fit parts.1)
front-covers p (suc n) (Id ∷ kinds) k words vs rs same fit h =
    let f = one-front UsedId kinds vs rs fit in
    let parts = and_parts (p (slice_index words k)) (list_all p (front_uses n kinds (suc k) words)) h in
    needed-covers p UsedId kinds k words vs rs refl same f parts.0
    (front-covers p n kinds (suc k) words f.rest f.others (rest_is words k same f) f.fit parts.1)
front-covers p (suc n) (ResultId ∷ kinds) k words vs rs same fit h =
    let f = one-front DefinedId kinds vs rs fit in
    quiet_one-covers p DefinedId kinds vs rs refl f (front-covers p n kinds (suc k) words f.rest f.others (rest_is words k same f) f.fit h)
front-covers p (suc n) (One e ∷ kinds) k words vs rs same fit h =
    let m = one_of e kinds vs rs fit in
    let f = m.2 in
    quiet_one-covers p m.0 kinds vs rs m.1 f (front-covers p n kinds (suc k) words f.rest f.others (rest_is words k same f) f.fit h)
front-covers p zero kinds k words vs rs same fit h = used_all p rs vs (rw same h)
front-covers p (suc n) [] k words vs rs same fit h = used_all p rs vs (rw same h)
front-covers p (suc n) (kind ∷ kinds) k words vs rs same fit h = used_all p rs vs (rw same h)

-- ---- an instruction

abbrev pub row_front : (n : ℕ) → Option Shape → (words : List ℕ) → List ℕ
row_front n None words = words
row_front n (Some shape) words = front_uses n shape.kinds 1 words

pub used_by_front : (p : ℕ → Bool) (n : ℕ) (i : Instruction) (o : ℕ) → IsInstruction i.words (roles i) → opcode i ≡ o → (o == op.SPEC_CONSTANT_OP) ≡ false
    → list_all p (row_front n (row_of o) i.words) ≡ true → list_all p (used_ids i) ≡ true
used_by_front p n i o whole is_o other h = by (row_of o) refl h where
  by : (row : Option Shape) → row_of o ≡ row → list_all p (row_front n row i.words) ≡ true → list_all p (used_ids i) ≡ true
  by None e h = used_all p (roles i) i.words h
  by (Some shape) e h =
      let r = row-words o shape i.words (roles i) e other is_o whole.parted in
      let behind : r.rest ≡ drop 1 i.words = sym (ap (drop 1) r.words_are) in
      let all : list_all p (used_in (Opcode ∷ r.others) (r.word ∷ r.rest)) ≡ true = front-covers p n shape.kinds 1 i.words r.rest r.others behind r.fit h in
      subst (λ (ws : List ℕ). list_all p (used_in (roles i) ws) ≡ true) (sym r.words_are)
      (subst (λ (rs : List Role). list_all p (used_in rs (r.word ∷ r.rest)) ≡ true) (sym r.parts_are) all)

-- of one of some opcodes whose rows are alike in front
abbrev pub MayNeedFront : (n : ℕ) → (List ℕ → List ℕ) → ℕ → Type 0
MayNeedFront n pattern o = (words : List ℕ) → row_front n (row_of o) words ≡ pattern words

pub needs_front : (p : ℕ → Bool) (os : List ℕ) (n : ℕ) (pattern : List ℕ → List ℕ) → AllOf (MayNeedFront n pattern) os
    → list_all (λ o. not (o == op.SPEC_CONSTANT_OP)) os ≡ true
    → (i : Instruction) → IsInstruction i.words (roles i) → is_one_of os (opcode i) ≡ true → list_all p (pattern i.words) ≡ true → list_all p
    (used_ids i) ≡ true
needs_front p os n pattern rows plain i whole h all =
    used_by_front p n i (opcode i) whole refl (not-true (opcode i == op.SPEC_CONSTANT_OP)
    (one_passes (λ o. not (o == op.SPEC_CONSTANT_OP)) os (opcode i) plain h))
    (ap (list_all p) (of_one (MayNeedFront n pattern) os (opcode i) rows h i.words) ∙ all)
