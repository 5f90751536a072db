-- The words of an OpPhi: its type, its result, and pairs.
use Rattle.std.proofs.Common.{◌≡◌, ℕ, suc, ◌+◌, ◌*◌, ◌%◌, ◌/◌, Bool, true, false, ◌==◌, List, [], ◌∷◌, ◌++◌, length, drop, replicate, slice_index, Some, Ok, refl, sym, ap, ◌∙◌, arith}
use Rattle.std.specs.Option.{option_map, option_and_then}
use Rattle.std.proofs.lemmas.Bool.Decides.{nat_tests}
use Rattle.spv_opcodes.specs.declared.op.TheConstants as op
use Rattle.spv_grammar.specs.declared.kind.Role.{Role}
use Rattle.spv_grammar.specs.declared.kind.Role.TheVariants.{Opcode, TypeId, DefinedId, UsedId}
use Rattle.spv_grammar.specs.declared.kind.Kind.{Kind}
use Rattle.spv_grammar.specs.declared.kind.Kind.TheVariants.{ResultType, ResultId, IdPairs}
use Rattle.spv_grammar.specs.Operands.{roles_of, opcode_of, operand_roles, fitted, behind, Taken, all_if}
use Rattle.spv_grammar.specs.Table.{Shape, row_of, in_section}
use Rattle.spv_module.specs.Instruction.{IsInstruction}
use Rattle.spv_blocks.specs.Cutting.{pairs}
use Rattle.spv_bodies.specs.Listing.{instruction, pair_words}

-- the first word is made of the number of words and the opcode
head_is : (h n k : ℕ) → h / 65536 ≡ n → h % 65536 ≡ k → h ≡ n * 65536 + k
head_is h n k a b = omega arith

-- the parts of words are those of the row of their opcode
row_parts : (h k : ℕ) (shape : Shape) (ws : List ℕ) (rs : List Role) → h % 65536 ≡ k → (k == op.SPEC_CONSTANT_OP) ≡ false → row_of k ≡ Some shape
    → roles_of (h ∷ ws) ≡ Ok rs → behind (Opcode ∷ []) (fitted (operand_roles shape.kinds ws)) ≡ Ok rs
unfolding roles_of
row_parts h k shape ws rs e other row parted = rw (e, other, row) at parted

even_less : (n : ℕ) → suc (suc n) % 2 ≡ 0 → n % 2 ≡ 0
even_less n h = omega arith

pairs_spell : (ws : List ℕ) → length ws % 2 ≡ 0 → pair_words (pairs ws) ≡ ws
pairs_spell [] even = refl
pairs_spell (x ∷ []) even = cc
pairs_spell (x ∷ y ∷ ws) even = ap (λ z. x ∷ y ∷ z) (pairs_spell ws (even_less (length ws) even))

pair_head : (n k : ℕ) → suc (suc (suc n)) * 65536 + k ≡ (suc (suc n) + 1) * 65536 + k
pair_head n k = omega arith

phi_kinds : List Kind
phi_kinds = ResultType ∷ ResultId ∷ IdPairs ∷ []

-- words that fit pairs, behind two other operands, are even in number
even_parts : (b : Bool) (first second : Role) (all rs : List Role)
    → behind (Opcode ∷ []) (fitted (option_map (λ more. first ∷ more)
    (option_map (λ more. second ∷ more) (option_and_then (λ (t : Taken). option_map (λ more. t.roles ++ more) (operand_roles [] t.rest)) (all_if b all)))))
    ≡ Ok rs
    → b ≡ true
even_parts true first second all rs h = refl
even_parts false first second all rs h = cc

pub phi_spelled : (words : List ℕ) (rs : List Role) → IsInstruction words rs → opcode_of (slice_index words 0) ≡ op.PHI
    → words ≡ instruction op.PHI (slice_index words 1 ∷ slice_index words 2 ∷ pair_words (pairs (drop 3 words)))
unfolding row_of phi_kinds
phi_spelled [] rs whole e = absurd (omega (arith, whole.some))
phi_spelled (h ∷ []) rs whole e = let none = row_parts h op.PHI (in_section 11 phi_kinds) [] rs e refl refl whole.parted in cc
phi_spelled (h ∷ a ∷ []) rs whole e = let none = row_parts h op.PHI (in_section 11 phi_kinds) (a ∷ []) rs e refl refl whole.parted in cc
phi_spelled (h ∷ a ∷ b ∷ ws) rs whole e =
    let shown =
    even_parts (length ws % 2 == 0) TypeId DefinedId (replicate (length ws) UsedId) rs
    (row_parts h op.PHI (in_section 11 phi_kinds) (a ∷ b ∷ ws) rs e refl refl whole.parted) in
    let even : length ws % 2 ≡ 0 = grind (arith, nat_tests, shown) in
    ap (λ z. z ∷ a ∷ b ∷ ws) (head_is h (suc (suc (suc (length ws)))) op.PHI whole.counted e ∙ pair_head (length ws) op.PHI)
    ∙ ap (λ z. instruction op.PHI (a ∷ b ∷ z)) (sym (pairs_spell ws even))
