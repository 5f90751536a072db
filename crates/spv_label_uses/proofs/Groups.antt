-- What instructions of some opcodes need, where the rows of these are alike.
use Rattle.std.proofs.Common.{◌≡◌, ℕ, Bool, true, not, ◌==◌, nat_eq, List, [], ◌∷◌, refl, sym, ap, subst, ◌∙◌}
use Rattle.std.specs.List.{list_all}
use Rattle.std.proofs.lemmas.Bool.{not-true}
use Rattle.spv_opcodes.specs.declared.op.TheConstants as op
use Rattle.spv_grammar.specs.Table.{row_of}
use Rattle.spv_module.specs.Instruction.{Instruction, IsInstruction, opcode, roles}
use Rattle.spv_ids.specs.Ids.{used_ids}
use Rattle.spv_typing.specs.Kinds.{is_one_of}
use Rattle.spv_label_uses.proofs.Covered.{row_uses, used_by_row}
use Rattle.spv_label_uses.proofs.Free.{or_cases, same_by, one_passes}

-- it holds of each of some opcodes
abbrev pub AllOf : (ℕ → Type 0) → List ℕ → Type 0
AllOf P [] = Unit {0}
AllOf P (o ∷ os) = P o × AllOf P os

pub also : {A B : Type 0} → A → B → A × B
also a b = (a, b)

-- so of one of them; induction on the opcodes
pub of_one : (P : ℕ → Type 0) (os : List ℕ) (o : ℕ) → AllOf P os → is_one_of os o ≡ true → P o
of_one P [] o all h = absurd (cc h)
of_one P (x ∷ xs) o all h = or_cases (nat_eq o x) (is_one_of xs o) h (λ e. subst P (sym (same_by o x e)) all.0) (λ e. of_one P xs o all.1 e)

-- the words that an instruction of an opcode may need
abbrev pub MayNeed : (List ℕ → List ℕ) → ℕ → Type 0
MayNeed pattern o = (words : List ℕ) → row_uses (row_of o) words ≡ pattern words

pub needs : (p : ℕ → Bool) (os : List ℕ) (pattern : List ℕ → List ℕ) → AllOf (MayNeed pattern) os → list_all (λ o. not (o == op.SPEC_CONSTANT_OP)) os ≡ true
    → (i : Instruction) → IsInstruction i.words (roles i) → is_one_of os (opcode i) ≡ true → list_all p (pattern i.words) ≡ true → list_all p
    (used_ids i) ≡ true
needs p os pattern rows plain i whole h all =
    used_by_row p i (opcode i) whole refl (not-true (opcode i == op.SPEC_CONSTANT_OP)
    (one_passes (λ o. not (o == op.SPEC_CONSTANT_OP)) os (opcode i) plain h))
    (ap (list_all p) (of_one (MayNeed pattern) os (opcode i) rows h i.words) ∙ all)
