-- The words of the instructions that make up the structure of a function, by their opcode: how they are spelled, that their ids are above 0, and that
-- their control masks are ones of the profile.
use Rattle.std.proofs.Common.{◌≡◌, ℕ, suc, ◌+◌, ◌*◌, ◌%◌, ◌/◌, ◌^◌, ◌<◌, ◌≤◌, Bool, true, false, ◌||◌, ◌&&◌, ◌==◌, nat_le, List, [], ◌∷◌, ◌++◌, length, take, drop, replicate, slice_index, All, Option, Some, None, Result, Ok, Err, refl, sym, ap, ◌∙◌, subst, append-nil, arith}
use Rattle.std.specs.List.{list_any, zip}
use Rattle.std.specs.Option.{option_map, option_and_then}
use Rattle.std.proofs.lemmas.Bool.Decides.{nat_tests}
use Rattle.std.proofs.lemmas.List.Elements.{All-nil, All-cons}
use Rattle.spv_opcodes.specs.declared.op.TheConstants as op
use Rattle.spv_grammar.specs.declared.kind.Role.{Role}
use Rattle.spv_grammar.specs.declared.kind.Role.TheVariants.{Opcode, TypeId, DefinedId, UsedId}
use Rattle.spv_grammar.specs.declared.kind.Kind.{Kind}
use Rattle.spv_grammar.specs.declared.kind.Kind.TheVariants.{ResultType, ResultId, Id, IdPairs, Weights, Cases, One}
use Rattle.spv_grammar.specs.declared.kind.Enumerant.TheVariants.{LoopControl, SelectionControl}
use Rattle.spv_grammar.specs.Operands.{roles_of, opcode_of, operand_roles, fitted, behind, in_turn, mark, Taken, all_if}
use Rattle.spv_grammar.specs.Roles.{is_unknown}
use Rattle.spv_grammar.specs.Table.{Shape, row_of, in_section}
use Rattle.spv_module.specs.Instruction.{IsInstruction, is_out_of_bound, part_rules, roles_rules, instruction_rules, string_rule, bound_rule, enumerant_rule}
use Rattle.spv_module.proofs.Ids.{is_bad_part, second_nil, no_bad_part, no_bad_parts, id_above_zero}
use Rattle.spv_blocks.specs.Cutting.{pairs}
use Rattle.spv_bodies.specs.Listing.{instruction, split_line, pair_words, selection_line, loop_line}
use Rattle.spv_tree.specs.Control.{is_control}
use Rattle.spv_sources.specs.Pairs.{IsIdPair, IsCase}
use Rattle.spv_sources.proofs.Tails.{either_false}

-- ---- what is common to all

-- the first word is made of the number of words and the opcode
head_is : (h n k : ℕ) → h / 65536 ≡ n → h % 65536 ≡ k → h ≡ n * 65536 + k
head_is h n k a b = omega arith

-- the parts of words are those of the row of their opcode
row_parts : (h k : ℕ) (shape : Shape) (ws : List ℕ) (rs : List Role) → h % 65536 ≡ k → (k == op.SPEC_CONSTANT_OP) ≡ false → row_of k ≡ Some shape
    → roles_of (h ∷ ws) ≡ Ok rs → behind (Opcode ∷ []) (fitted (operand_roles shape.kinds ws)) ≡ Ok rs
unfolding roles_of
row_parts h k shape ws rs e other row parted = rw (e, other, row) at parted

unknown_parts : (rules : List ℕ) (bound : ℕ) (rs : List Role) (words : List ℕ) → part_rules rules bound rs words ≡ [] → list_any is_unknown rs ≡ false
unknown_parts [] bound rs words h = no_bad_part (list_any is_unknown rs) 109 (second_nil (bound_rule bound rs words) (enumerant_rule rs) h)
unknown_parts (rule ∷ rules) bound rs words h = cc

unknown_roles : (bound : ℕ) (words : List ℕ) (expected : Result (List Role) ℕ) (rs : List Role) → expected ≡ Ok rs → roles_rules bound words expected ≡ []
    → list_any is_unknown rs ≡ false
unknown_roles bound words (Err rule) rs e h = cc
unknown_roles bound words (Ok found) rs e h =
    let same : found ≡ rs = cc in
    subst (λ (rs : List Role). list_any is_unknown rs ≡ false) same (unknown_parts (string_rule found) bound found words h)

-- an instruction that breaks no rule has no unknown enumerant
no_unknown_parts : (bound : ℕ) (words : List ℕ) (rs : List Role) → roles_of words ≡ Ok rs → instruction_rules bound words ≡ [] → list_any is_unknown rs ≡ false
unfolding instruction_rules
no_unknown_parts bound words rs e h = unknown_roles bound words (roles_of words) rs e h

-- a mask that is not unknown is known
known : (b : Bool) → is_unknown (mark b) ≡ false → b ≡ true
known true h = refl
known false h = cc

no_mark : (b : Bool) → (is_unknown (mark b) || false) ≡ false → is_unknown (mark b) ≡ false
no_mark true h = refl
no_mark false h = cc

even_less : (n : ℕ) → suc (suc n) % 2 ≡ 0 → n % 2 ≡ 0
even_less n h = omega arith

-- ---- without operands

alone : (h k : ℕ) (ws : List ℕ) (rs : List Role) → h % 65536 ≡ k → (k == op.SPEC_CONSTANT_OP) ≡ false → row_of k ≡ Some (in_section 11 [])
    → IsInstruction (h ∷ ws) rs → h ∷ ws ≡ instruction k []
alone h k [] rs e other row whole = ap (λ z. z ∷ []) (head_is h 1 k whole.counted e)
alone h k (w ∷ ws) rs e other row whole = let none = row_parts h k (in_section 11 []) (w ∷ ws) rs e other row whole.parted in cc

pub return_words : (words : List ℕ) (rs : List Role) → IsInstruction words rs → opcode_of (slice_index words 0) ≡ op.RETURN → words ≡ instruction op.RETURN []
unfolding row_of
return_words [] rs whole e = absurd (omega (arith, whole.some))
return_words (h ∷ ws) rs whole e = alone h op.RETURN ws rs e refl refl whole

pub unreachable_words : (words : List ℕ) (rs : List Role) → IsInstruction words rs → opcode_of (slice_index words 0) ≡ op.UNREACHABLE
    → words ≡ instruction op.UNREACHABLE []
unfolding row_of
unreachable_words [] rs whole e = absurd (omega (arith, whole.some))
unreachable_words (h ∷ ws) rs whole e = alone h op.UNREACHABLE ws rs e refl refl whole

pub function_end_words : (words : List ℕ) (rs : List Role) → IsInstruction words rs → opcode_of (slice_index words 0) ≡ op.FUNCTION_END
    → words ≡ instruction op.FUNCTION_END []
unfolding row_of
function_end_words [] rs whole e = absurd (omega (arith, whole.some))
function_end_words (h ∷ ws) rs whole e = alone h op.FUNCTION_END ws rs e refl refl whole

-- ---- with one id

-- one operand of this kind, which is an id
pub record IsOne (opcode : ℕ) (words : List ℕ) : Type 0 where
  pub same : words ≡ instruction opcode (slice_index words 1 ∷ [])
  pub id : 0 < slice_index words 1

one_id : (h k : ℕ) (ws : List ℕ) (rs : List Role) → h % 65536 ≡ k → (k == op.SPEC_CONSTANT_OP) ≡ false → row_of k ≡ Some (in_section 11 (Id ∷ []))
    → IsInstruction (h ∷ ws) rs → IsOne k (h ∷ ws)
one_id h k [] rs e other row whole = let none = row_parts h k (in_section 11 (Id ∷ [])) [] rs e other row whole.parted in cc
one_id h k (w ∷ v ∷ ws) rs e other row whole = let none = row_parts h k (in_section 11 (Id ∷ [])) (w ∷ v ∷ ws) rs e other row whole.parted in cc
one_id h k (w ∷ []) rs e other row whole =
    let parts = row_parts h k (in_section 11 (Id ∷ [])) (w ∷ []) rs e other row whole.parted in
    let roles : rs ≡ Opcode ∷ UsedId ∷ [] = cc in
    record {
      same = ap (λ z. z ∷ w ∷ []) (head_is h 2 k whole.counted e);
      id = id_above_zero (h ∷ w ∷ []) rs 1 whole (rw roles (omega arith)) (rw roles refl);
    }

pub branch_words : (words : List ℕ) (rs : List Role) → IsInstruction words rs → opcode_of (slice_index words 0) ≡ op.BRANCH → IsOne op.BRANCH words
unfolding row_of
branch_words [] rs whole e = absurd (omega (arith, whole.some))
branch_words (h ∷ ws) rs whole e = one_id h op.BRANCH ws rs e refl refl whole

pub return_value_words : (words : List ℕ) (rs : List Role) → IsInstruction words rs → opcode_of (slice_index words 0) ≡ op.RETURN_VALUE
    → IsOne op.RETURN_VALUE words
unfolding row_of
return_value_words [] rs whole e = absurd (omega (arith, whole.some))
return_value_words (h ∷ ws) rs whole e = one_id h op.RETURN_VALUE ws rs e refl refl whole

pub label_words : (words : List ℕ) (rs : List Role) → IsInstruction words rs → opcode_of (slice_index words 0) ≡ op.LABEL → IsOne op.LABEL words
unfolding row_of
label_words [] rs whole e = absurd (omega (arith, whole.some))
label_words (h ∷ []) rs whole e = let none = row_parts h op.LABEL (in_section 11 (ResultId ∷ [])) [] rs e refl refl whole.parted in cc
label_words (h ∷ w ∷ v ∷ ws) rs whole e = let none = row_parts h op.LABEL (in_section 11 (ResultId ∷ [])) (w ∷ v ∷ ws) rs e refl refl whole.parted in cc
label_words (h ∷ w ∷ []) rs whole e =
    let parts = row_parts h op.LABEL (in_section 11 (ResultId ∷ [])) (w ∷ []) rs e refl refl whole.parted in
    let roles : rs ≡ Opcode ∷ DefinedId ∷ [] = cc in
    record {
      same = ap (λ z. z ∷ w ∷ []) (head_is h 2 op.LABEL whole.counted e);
      id = id_above_zero (h ∷ w ∷ []) rs 1 whole (rw roles (omega arith)) (rw roles refl);
    }

-- ---- OpBranchConditional

-- without its weights it is spelled so, and its ids are above 0
pub record IsSplit (words : List ℕ) : Type 0 where
  pub same : instruction op.BRANCH_CONDITIONAL (take 3 (drop 1 words)) ≡ split_line (slice_index words 1) true (slice_index words 2) (slice_index words 3)
  pub condition : 0 < slice_index words 1
  pub first : 0 < slice_index words 2
  pub second : 0 < slice_index words 3

abbrev split_kinds : List Kind
split_kinds = Id ∷ Id ∷ Id ∷ Weights ∷ []

-- three ids before other operands
three_ids : (fits : Option (List Role)) (rs : List Role)
    → behind (Opcode ∷ []) (fitted (option_map (λ more. UsedId ∷ more) (option_map (λ more. UsedId ∷ more) (option_map (λ more. UsedId ∷ more) fits)))) ≡ Ok rs
    → (more : List Role) × (rs ≡ Opcode ∷ UsedId ∷ UsedId ∷ UsedId ∷ more)
three_ids None rs h = cc
three_ids (Some more) rs h = (more, cc)

pub split_words : (words : List ℕ) (rs : List Role) → IsInstruction words rs → opcode_of (slice_index words 0) ≡ op.BRANCH_CONDITIONAL → IsSplit words
unfolding row_of
split_words [] rs whole e = absurd (omega (arith, whole.some))
split_words (h ∷ []) rs whole e = let none = row_parts h op.BRANCH_CONDITIONAL (in_section 11 split_kinds) [] rs e refl refl whole.parted in cc
split_words (h ∷ a ∷ []) rs whole e = let none = row_parts h op.BRANCH_CONDITIONAL (in_section 11 split_kinds) (a ∷ []) rs e refl refl whole.parted in cc
split_words (h ∷ a ∷ b ∷ []) rs whole e = let none = row_parts h op.BRANCH_CONDITIONAL (in_section 11 split_kinds) (a ∷ b ∷ []) rs e refl refl whole.parted in cc
split_words (h ∷ a ∷ b ∷ c ∷ ws) rs whole e =
    let parts = row_parts h op.BRANCH_CONDITIONAL (in_section 11 split_kinds) (a ∷ b ∷ c ∷ ws) rs e refl refl whole.parted in
    let shown = three_ids (operand_roles (Weights ∷ []) ws) rs parts in
    record {
      same = refl;
      condition = id_above_zero (h ∷ a ∷ b ∷ c ∷ ws) rs 1 whole (rw shown.1 (omega arith)) (rw shown.1 refl);
      first = id_above_zero (h ∷ a ∷ b ∷ c ∷ ws) rs 2 whole (rw shown.1 (omega arith)) (rw shown.1 refl);
      second = id_above_zero (h ∷ a ∷ b ∷ c ∷ ws) rs 3 whole (rw shown.1 (omega arith)) (rw shown.1 refl);
    }

-- ---- merge instructions

pub record IsSelection (words : List ℕ) : Type 0 where
  pub long : length words ≡ 3
  pub same : words ≡ selection_line (slice_index words 1) (slice_index words 2)
  pub merge : 0 < slice_index words 1
  pub control : is_control (slice_index words 2) ≡ true

abbrev selection_kinds : List Kind
selection_kinds = Id ∷ One SelectionControl ∷ []

pub selection_words : (words : List ℕ) (rs : List Role) → IsInstruction words rs → opcode_of (slice_index words 0) ≡ op.SELECTION_MERGE → IsSelection words
unfolding row_of
selection_words [] rs whole e = absurd (omega (arith, whole.some))
selection_words (h ∷ []) rs whole e = let none = row_parts h op.SELECTION_MERGE (in_section 11 selection_kinds) [] rs e refl refl whole.parted in cc
selection_words (h ∷ a ∷ []) rs whole e = let none = row_parts h op.SELECTION_MERGE (in_section 11 selection_kinds) (a ∷ []) rs e refl refl whole.parted in cc
selection_words (h ∷ a ∷ b ∷ c ∷ ws) rs whole e = let none = row_parts h op.SELECTION_MERGE (in_section 11 selection_kinds) (a ∷ b ∷ c ∷ ws) rs e refl refl whole.parted in cc
selection_words (h ∷ a ∷ b ∷ []) rs whole e =
    let parts = row_parts h op.SELECTION_MERGE (in_section 11 selection_kinds) (a ∷ b ∷ []) rs e refl refl whole.parted in
    let roles : rs ≡ Opcode ∷ UsedId ∷ mark (is_control b) ∷ [] = cc in
    let unknown = no_unknown_parts (2 ^ 32) (h ∷ a ∷ b ∷ []) rs whole.parted whole.unbroken in
    record {
      long = refl;
      same = ap (λ z. z ∷ a ∷ b ∷ []) (head_is h 3 op.SELECTION_MERGE whole.counted e);
      merge = id_above_zero (h ∷ a ∷ b ∷ []) rs 1 whole (rw roles (omega arith)) (rw roles refl);
      control = known (is_control b) (no_mark (is_control b) (subst (λ (rs : List Role). list_any is_unknown rs ≡ false) roles unknown));
    }

pub record IsLoop (words : List ℕ) : Type 0 where
  pub long : length words ≡ 4
  pub same : words ≡ loop_line (slice_index words 1) (slice_index words 2) (slice_index words 3)
  pub merge : 0 < slice_index words 1
  pub next : 0 < slice_index words 2
  pub control : is_control (slice_index words 3) ≡ true

abbrev loop_kinds : List Kind
loop_kinds = Id ∷ Id ∷ One LoopControl ∷ []

pub loop_words : (words : List ℕ) (rs : List Role) → IsInstruction words rs → opcode_of (slice_index words 0) ≡ op.LOOP_MERGE → IsLoop words
unfolding row_of
loop_words [] rs whole e = absurd (omega (arith, whole.some))
loop_words (h ∷ []) rs whole e = let none = row_parts h op.LOOP_MERGE (in_section 11 loop_kinds) [] rs e refl refl whole.parted in cc
loop_words (h ∷ a ∷ []) rs whole e = let none = row_parts h op.LOOP_MERGE (in_section 11 loop_kinds) (a ∷ []) rs e refl refl whole.parted in cc
loop_words (h ∷ a ∷ b ∷ []) rs whole e = let none = row_parts h op.LOOP_MERGE (in_section 11 loop_kinds) (a ∷ b ∷ []) rs e refl refl whole.parted in cc
loop_words (h ∷ a ∷ b ∷ c ∷ d ∷ ws) rs whole e = let none = row_parts h op.LOOP_MERGE (in_section 11 loop_kinds) (a ∷ b ∷ c ∷ d ∷ ws) rs e refl refl whole.parted in cc
loop_words (h ∷ a ∷ b ∷ c ∷ []) rs whole e =
    let parts = row_parts h op.LOOP_MERGE (in_section 11 loop_kinds) (a ∷ b ∷ c ∷ []) rs e refl refl whole.parted in
    let roles : rs ≡ Opcode ∷ UsedId ∷ UsedId ∷ mark (is_control c) ∷ [] = cc in
    let unknown = no_unknown_parts (2 ^ 32) (h ∷ a ∷ b ∷ c ∷ []) rs whole.parted whole.unbroken in
    record {
      long = refl;
      same = ap (λ z. z ∷ a ∷ b ∷ c ∷ []) (head_is h 4 op.LOOP_MERGE whole.counted e);
      merge = id_above_zero (h ∷ a ∷ b ∷ c ∷ []) rs 1 whole (rw roles (omega arith)) (rw roles refl);
      next = id_above_zero (h ∷ a ∷ b ∷ c ∷ []) rs 2 whole (rw roles (omega arith)) (rw roles refl);
      control = known (is_control c) (no_mark (is_control c) (subst (λ (rs : List Role). list_any is_unknown rs ≡ false) roles unknown));
    }

-- ---- words two by two

pairs_spell : (ws : List ℕ) → length ws % 2 ≡ 0 → pair_words (pairs ws) ≡ ws
pairs_spell [] even = refl
pairs_spell (x ∷ []) even = cc
pairs_spell (x ∷ y ∷ ws) even = ap (λ z. x ∷ y ∷ z) (pairs_spell ws (even_less (length ws) even))

pairs_count : (ws : List ℕ) → length ws % 2 ≡ 0 → 2 * length (pairs ws) ≡ length ws
pairs_count [] even = refl
pairs_count (x ∷ []) even = cc
pairs_count (x ∷ y ∷ ws) even = omega (arith, pairs_count ws (even_less (length ws) even))

pair_head : (n k : ℕ) → suc (suc (suc n)) * 65536 + k ≡ (suc (suc n) + 1) * 65536 + k
pair_head n k = omega arith

-- an instruction of two words and of pairs behind them
pairs_behind : (h k a b : ℕ) (ws : List ℕ) → h / 65536 ≡ suc (suc (suc (length ws))) → h % 65536 ≡ k → length ws % 2 ≡ 0
    → h ∷ a ∷ b ∷ ws ≡ instruction k (a ∷ b ∷ pair_words (pairs ws))
pairs_behind h k a b ws counted e even =
    ap (λ z. z ∷ a ∷ b ∷ ws) (head_is h (suc (suc (suc (length ws)))) k counted e ∙ pair_head (length ws) k) ∙ ap (λ z. instruction k (a ∷ b ∷ z)) (sym (pairs_spell ws even))

-- ---- OpPhi

pub record IsPhi (words : List ℕ) : Type 0 where
  pub long : 3 ≤ length words
  pub same : words ≡ instruction op.PHI (slice_index words 1 ∷ slice_index words 2 ∷ pair_words (pairs (drop 3 words)))
  pub type : 0 < slice_index words 1
  pub result_id : 0 < slice_index words 2
  pub ids : All IsIdPair (pairs (drop 3 words))

abbrev phi_kinds : List Kind
phi_kinds = ResultType ∷ ResultId ∷ IdPairs ∷ []

in_bound : (n : ℕ) → is_out_of_bound (2 ^ 32) n ≡ false → 0 < n
in_bound n h = grind (arith, nat_tests)

used_pairs : (ws : List ℕ) → list_any (is_bad_part (2 ^ 32)) (zip (replicate (length ws) UsedId) ws) ≡ false → All IsIdPair (pairs ws)
used_pairs [] none = All-nil IsIdPair
used_pairs (x ∷ []) none = All-nil IsIdPair
used_pairs (x ∷ y ∷ ws) none =
    let one = either_false (is_out_of_bound (2 ^ 32) x) (is_out_of_bound (2 ^ 32) y || list_any (is_bad_part (2 ^ 32)) (zip (replicate (length ws) UsedId) ws)) none in
    let two = either_false (is_out_of_bound (2 ^ 32) y) (list_any (is_bad_part (2 ^ 32)) (zip (replicate (length ws) UsedId) ws)) one.1 in
    All-cons IsIdPair (x, y) (pairs ws) (in_bound x one.0, in_bound y two.0) (used_pairs ws two.1)

-- words that fit pairs, behind two other operands, are even in number
even_parts : (b : Bool) (first second : Role) (all rs : List Role)
    → behind (Opcode ∷ []) (fitted (option_map (λ more. first ∷ more) (option_map (λ more. second ∷ more) (option_and_then (λ (t : Taken). option_map (λ more. t.roles ++ more) (operand_roles [] t.rest)) (all_if b all))))) ≡ Ok rs
    → (b ≡ true) × (rs ≡ Opcode ∷ first ∷ second ∷ (all ++ []))
even_parts true first second all rs h = (refl, cc)
even_parts false first second all rs h = cc

phi_roles : (h a b : ℕ) (ws : List ℕ) (rs : List Role) → h % 65536 ≡ op.PHI → IsInstruction (h ∷ a ∷ b ∷ ws) rs
    → ((length ws % 2 == 0) ≡ true) × (rs ≡ Opcode ∷ TypeId ∷ DefinedId ∷ (replicate (length ws) UsedId ++ []))
unfolding row_of
phi_roles h a b ws rs e whole =
    even_parts (length ws % 2 == 0) TypeId DefinedId (replicate (length ws) UsedId) rs (row_parts h op.PHI (in_section 11 phi_kinds) (a ∷ b ∷ ws) rs e refl refl whole.parted)

pub phi_words : (words : List ℕ) (rs : List Role) → IsInstruction words rs → opcode_of (slice_index words 0) ≡ op.PHI → IsPhi words
unfolding row_of
phi_words [] rs whole e = absurd (omega (arith, whole.some))
phi_words (h ∷ []) rs whole e = let none = row_parts h op.PHI (in_section 11 phi_kinds) [] rs e refl refl whole.parted in cc
phi_words (h ∷ a ∷ []) rs whole e = let none = row_parts h op.PHI (in_section 11 phi_kinds) (a ∷ []) rs e refl refl whole.parted in cc
phi_words (h ∷ a ∷ b ∷ ws) rs whole e =
    let shown = phi_roles h a b ws rs e whole in
    let even : length ws % 2 ≡ 0 = grind (arith, nat_tests, shown.0) in
    let roles : rs ≡ Opcode ∷ TypeId ∷ DefinedId ∷ replicate (length ws) UsedId = shown.1 ∙ ap (λ z. Opcode ∷ TypeId ∷ DefinedId ∷ z) (append-nil (replicate (length ws) UsedId)) in
    let none = no_bad_parts (2 ^ 32) (h ∷ a ∷ b ∷ ws) rs whole.parted whole.unbroken in
    let one = either_false (is_out_of_bound (2 ^ 32) a) (is_out_of_bound (2 ^ 32) b || list_any (is_bad_part (2 ^ 32)) (zip (replicate (length ws) UsedId) ws)) (subst (λ (rs : List Role). list_any (is_bad_part (2 ^ 32)) (zip rs (h ∷ a ∷ b ∷ ws)) ≡ false) roles none) in
    let two = either_false (is_out_of_bound (2 ^ 32) b) (list_any (is_bad_part (2 ^ 32)) (zip (replicate (length ws) UsedId) ws)) one.1 in
    record {
      long = omega arith;
      same = pairs_behind h op.PHI a b ws whole.counted e even;
      type = in_bound a one.0;
      result_id = in_bound b two.0;
      ids = used_pairs ws two.1;
    }

-- ---- OpSwitch

pub record IsSwitch (words : List ℕ) : Type 0 where
  pub long : 3 ≤ length words
  pub same : words ≡ instruction op.SWITCH (slice_index words 1 ∷ slice_index words 2 ∷ pair_words (pairs (drop 3 words)))
  pub selector : 0 < slice_index words 1
  pub default : 0 < slice_index words 2
  pub count : length (pairs (drop 3 words)) ≤ 16383
  pub cases : All IsCase (pairs (drop 3 words))

abbrev switch_kinds : List Kind
switch_kinds = Id ∷ Id ∷ Cases 16383 ∷ []

case_pairs : (ws : List ℕ) → list_any (is_bad_part (2 ^ 32)) (zip (in_turn ws) ws) ≡ false → All IsCase (pairs ws)
case_pairs [] none = All-nil IsCase
case_pairs (x ∷ []) none = All-nil IsCase
case_pairs (x ∷ y ∷ ws) none =
    let two = either_false (is_out_of_bound (2 ^ 32) y) (list_any (is_bad_part (2 ^ 32)) (zip (in_turn ws) ws)) none in
    All-cons IsCase (x, y) (pairs ws) (in_bound y two.0) (case_pairs ws two.1)

both_true : (a b : Bool) → (a && b) ≡ true → (a ≡ true) × (b ≡ true)
both_true true b h = (refl, h)
both_true false b h = cc

switch_roles : (h a b : ℕ) (ws : List ℕ) (rs : List Role) → h % 65536 ≡ op.SWITCH → IsInstruction (h ∷ a ∷ b ∷ ws) rs
    → ((length ws % 2 == 0 && nat_le (length ws) (2 * 16383)) ≡ true) × (rs ≡ Opcode ∷ UsedId ∷ UsedId ∷ (in_turn ws ++ []))
unfolding row_of
switch_roles h a b ws rs e whole =
    even_parts (length ws % 2 == 0 && nat_le (length ws) (2 * 16383)) UsedId UsedId (in_turn ws) rs (row_parts h op.SWITCH (in_section 11 switch_kinds) (a ∷ b ∷ ws) rs e refl refl whole.parted)

pub switch_words : (words : List ℕ) (rs : List Role) → IsInstruction words rs → opcode_of (slice_index words 0) ≡ op.SWITCH → IsSwitch words
unfolding row_of
switch_words [] rs whole e = absurd (omega (arith, whole.some))
switch_words (h ∷ []) rs whole e = let none = row_parts h op.SWITCH (in_section 11 switch_kinds) [] rs e refl refl whole.parted in cc
switch_words (h ∷ a ∷ []) rs whole e = let none = row_parts h op.SWITCH (in_section 11 switch_kinds) (a ∷ []) rs e refl refl whole.parted in cc
switch_words (h ∷ a ∷ b ∷ ws) rs whole e =
    let shown = switch_roles h a b ws rs e whole in
    let tests = both_true (length ws % 2 == 0) (nat_le (length ws) (2 * 16383)) shown.0 in
    let even : length ws % 2 ≡ 0 = grind (arith, nat_tests, tests.0) in
    let few : length ws ≤ 32766 = grind (arith, nat_tests, tests.1) in
    let roles : rs ≡ Opcode ∷ UsedId ∷ UsedId ∷ in_turn ws = shown.1 ∙ ap (λ z. Opcode ∷ UsedId ∷ UsedId ∷ z) (append-nil (in_turn ws)) in
    let none = no_bad_parts (2 ^ 32) (h ∷ a ∷ b ∷ ws) rs whole.parted whole.unbroken in
    let one = either_false (is_out_of_bound (2 ^ 32) a) (is_out_of_bound (2 ^ 32) b || list_any (is_bad_part (2 ^ 32)) (zip (in_turn ws) ws)) (subst (λ (rs : List Role). list_any (is_bad_part (2 ^ 32)) (zip rs (h ∷ a ∷ b ∷ ws)) ≡ false) roles none) in
    let two = either_false (is_out_of_bound (2 ^ 32) b) (list_any (is_bad_part (2 ^ 32)) (zip (in_turn ws) ws)) one.1 in
    record {
      long = omega arith;
      same = pairs_behind h op.SWITCH a b ws whole.counted e even;
      selector = in_bound a one.0;
      default = in_bound b two.0;
      count = omega (arith, pairs_count ws even, few);
      cases = case_pairs ws two.1;
    }
