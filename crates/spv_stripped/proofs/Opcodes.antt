-- What is stripped by its opcode: it defines strings or nothing, and shapes no module; and what stays.
use Rattle.std.proofs.Common.{◌≡◌, ℕ, Bool, true, false, cond, not, nat_eq, ◌==◌, ◌&&◌, ◌||◌, List, [], ◌∷◌, Option, Some, None, refl, sym, ap, ap₂, subst, ◌∙◌, true≢false}
use Rattle.std.specs.List.{AllByRecursion, list_any}
use Rattle.std.specs.Option.{is_some, option_map_or}
use Rattle.spv_opcodes.specs.declared.op.TheConstants as op
use Rattle.spv_grammar.specs.Fronts.{has_result}
use Rattle.spv_grammar.specs.Roles.{is_defined_id}
use Rattle.spv_grammar.specs.Table.{row_of}
use Rattle.spv_module.specs.Code.{is_line}
use Rattle.spv_module.specs.Instruction.{Instruction, IsInstruction, opcode, roles, word_with}
use Rattle.spv_module.proofs.Told.{result_told}
use Rattle.spv_ids.specs.Ids.{defines}
use Rattle.spv_typing.specs.Kinds.{is_one_of}
use Rattle.spv_declarations.proofs.Declares.{AllOf, one_of-holds}
use Rattle.spv_walk.proofs.Unique.{equal_true}
use Rattle.spv_alike.specs.Uses.{namings}
use Rattle.spv_stripped.specs.Strip.{is_debug, stays}

-- the opcodes of what is stripped
abbrev pub stripping : List ℕ
stripping =
    op.STRING ∷ op.SOURCE ∷ op.SOURCE_CONTINUED ∷ op.SOURCE_EXTENSION ∷ op.NAME ∷ op.MEMBER_NAME ∷ op.MODULE_PROCESSED ∷ op.LINE ∷ op.NO_LINE ∷ []

-- what does not stay is one of these
pub is_stripped : (i : Instruction) → stays i ≡ false → is_one_of stripping (opcode i) ≡ true
is_stripped i h =
    by (opcode i == op.STRING) (opcode i == op.SOURCE) (opcode i == op.SOURCE_CONTINUED) (opcode i == op.SOURCE_EXTENSION) (opcode i == op.NAME)
    (opcode i == op.MEMBER_NAME) (opcode i == op.MODULE_PROCESSED) (opcode i == op.LINE) (opcode i == op.NO_LINE) h
  where
    by : (a b c d e f g l n : Bool) → (not (a || (b || (c || (d || (e || (f || (g || false))))))) && not (l || n)) ≡ false
        → (a || (b || (c || (d || (e || (f || (g || (l || (n || false))))))))) ≡ true
    by true b c d e f g l n h = refl
    by false true c d e f g l n h = refl
    by false false true d e f g l n h = refl
    by false false false true e f g l n h = refl
    by false false false false true f g l n h = refl
    by false false false false false true g l n h = refl
    by false false false false false false true l n h = refl
    by false false false false false false false true n h = refl
    by false false false false false false false false true h = refl
    by false false false false false false false false false h = absurd (cc h)

-- a test that none of these passes fails where something does not stay
pub fails_where_stripped : (test : ℕ → Bool) → AllOf (λ o. test o ≡ false) stripping → (i : Instruction) → stays i ≡ false → test (opcode i) ≡ false
fails_where_stripped test fails i h = one_of-holds (λ o. test o ≡ false) stripping fails (opcode i) (is_stripped i h)

-- so what passes such a test stays
pub stays_where : (test : ℕ → Bool) → AllOf (λ o. test o ≡ false) stripping → (i : Instruction) → test (opcode i) ≡ true → stays i ≡ true
stays_where test fails i passes = by (stays i) refl
  where
    by : (b : Bool) → stays i ≡ b → b ≡ true
    by true e = refl
    by false e = absurd (true≢false (sym passes ∙ fails_where_stripped test fails i e))

-- ---- what is defined

nothing_defined : (id : ℕ) (o : Option ℕ) → is_some o ≡ false → option_map_or (nat_eq id) o false ≡ false
nothing_defined id None h = refl
nothing_defined id (Some x) h = absurd (cc h)

results : AllOf (λ o. (has_result o && not (o == op.STRING)) ≡ false) stripping
unfolding row_of
results = (refl, (refl, (refl, (refl, (refl, (refl, (refl, (refl, (refl, tt)))))))))

-- what does not stay and defines an id is an OpString
pub defines_string : (id : ℕ) (i : Instruction) → IsInstruction i.words (roles i) → stays i ≡ false → defines id i ≡ true → opcode i ≡ op.STRING
defines_string id i whole h d = equal_true (opcode i) op.STRING (by (has_result (opcode i)) (opcode i == op.STRING) refl refl
    (one_of-holds (λ o. (has_result o && not (o == op.STRING)) ≡ false) stripping results (opcode i) (is_stripped i h)))
  where
    by : (r s : Bool) → has_result (opcode i) ≡ r → (opcode i == op.STRING) ≡ s → (has_result (opcode i) && not (opcode i == op.STRING)) ≡ false
        → (opcode i == op.STRING) ≡ true
    by r true e g f = g
    by true false e g f = absurd (true≢false (sym (ap₂ (λ (a b : Bool). a && not b) e g) ∙ f))
    by false false e g f =
        absurd (true≢false (sym d ∙ nothing_defined id (word_with is_defined_id i) (result_told i.words (roles i) whole ∙ e)))

-- what stays is no string, no line mark, and names no string
pub record IsPlain (i : Instruction) : Type 0 where
  pub string : (opcode i == op.STRING) ≡ false
  pub line : is_line i ≡ false
  pub naming : is_one_of namings (opcode i) ≡ false

pub plain_where_stays : (i : Instruction) → stays i ≡ true → IsPlain i
plain_where_stays i h =
    let p =
    by (opcode i == op.STRING) (opcode i == op.SOURCE) (opcode i == op.SOURCE_CONTINUED) (opcode i == op.SOURCE_EXTENSION) (opcode i == op.NAME)
    (opcode i == op.MEMBER_NAME) (opcode i == op.MODULE_PROCESSED) (opcode i == op.LINE) (opcode i == op.NO_LINE) h in
    record { string = p.0; line = p.1; naming = p.2 }
  where
    by : (a b c d e f g l n : Bool) → (not (a || (b || (c || (d || (e || (f || (g || false))))))) && not (l || n)) ≡ true
        → (a ≡ false) × ((l || n) ≡ false) × ((e || (f || (b || (l || false)))) ≡ false)
    by false false false false false false false false false h = (refl, refl, refl)
    by true b c d e f g l n h = absurd (cc h)
    by false true c d e f g l n h = absurd (cc h)
    by false false true d e f g l n h = absurd (cc h)
    by false false false true e f g l n h = absurd (cc h)
    by false false false false true f g l n h = absurd (cc h)
    by false false false false false true g l n h = absurd (cc h)
    by false false false false false false true l n h = absurd (cc h)
    by false false false false false false false true n h = absurd (cc h)
    by false false false false false false false false true h = absurd (cc h)
