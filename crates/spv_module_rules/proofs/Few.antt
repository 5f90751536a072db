-- Functions of few blocks together break 607 nowhere: no more blocks branch to one, and no more returns are nested, than there are blocks.
use Rattle.std.proofs.Common.{◌≡◌, ℕ, ◌+◌, ◌≤◌, true, not, List, [], ◌∷◌, ◌++◌, length, None, refl, sym, ap, subst, ◌∙◌, arith}
use Rattle.std.specs.Prelude.{nat_le}
use Rattle.std.proofs.lemmas.Bool.{le-ltb, leb-true}
use Rattle.std.proofs.lemmas.List.Sums.{count_by-le-length, sum_by-cons}
use Rattle.spv_module.specs.First.{first, here, unless}
use Rattle.spv_module.specs.Instruction.{Instruction}
use Rattle.spv_blocks.specs.Blocks.{Block, Code, end_targets, has}
use Rattle.spv_exits.specs.Exits.{AreNestedTogether, branching, crowded_among, crowded_in_all, exits_fit, functions_of, is_nested_return}
use Rattle.spv_module_rules.specs.Kept.{AreUnbroken, IsFirstCrowded, blocks_together}
use Rattle.spv_module_rules.proofs.Reached.{module-has_nested}

-- induction on the functions
nested-few : (fs : List Code) (n : ℕ) → AreNestedTogether fs n → n ≤ blocks_together fs
nested-few [] n h = omega arith
nested-few (f ∷ fs) n h =
    let one : h.0 ≤ length f = subst (λ m. m ≤ length f) (sym h.2.same) (count_by-le-length (is_nested_return h.2.place) f) in
    let others : h.1 ≤ blocks_together fs = nested-few fs h.1 h.3 in
    let sum : n ≡ h.0 + h.1 = h.4 in
    let all : blocks_together (f ∷ fs) ≡ length f + blocks_together fs = sum_by-cons length f fs in
    omega arith

few-fit : (f : Code) (nested l : ℕ) → length f ≤ 8191 → nested ≤ 8191 → exits_fit f nested l ≡ true
few-fit f nested l few less =
    let branches : branching f l ≤ length f = count_by-le-length (λ b. has (end_targets b.end) l) f in
    ap not (le-ltb 16383 (branching f l + nested) (omega arith))

-- induction on the blocks that are looked at
few-among : (f : Code) (nested : ℕ) (bs : List Block) → length f ≤ 8191 → nested ≤ 8191 → crowded_among f nested bs ≡ []
few-among f nested [] few less = refl
few-among f nested (b ∷ bs) few less =
    ap (λ fits. here b.at (unless fits 607) ++ crowded_among f nested bs) (few-fit f nested b.label few less) ∙ few-among f nested bs few less

-- and on the functions
few-in_all : (fs : List Code) (nested : ℕ) → blocks_together fs ≤ 8191 → nested ≤ 8191 → crowded_in_all fs nested ≡ []
few-in_all [] nested few less = refl
few-in_all (f ∷ fs) nested few less =
    let all : blocks_together (f ∷ fs) ≡ length f + blocks_together fs = sum_by-cons length f fs in
    ap (λ rs. rs ++ crowded_in_all fs nested) (few-among f nested f (omega arith) less) ∙ few-in_all fs nested (omega arith) less

pub few-crowd_none : (insts : List Instruction) → nat_le (blocks_together (functions_of insts)) 8191 ≡ true → AreUnbroken insts
    → IsFirstCrowded (functions_of insts) None
few-crowd_none insts few unbroken =
    let some = module-has_nested insts unbroken in
    let less = nested-few (functions_of insts) some.0 some.1 in
    let within = leb-true (blocks_together (functions_of insts)) 8191 few in
    record { nested = some.0; together = some.1; same = sym (ap first (few-in_all (functions_of insts) some.0 within (omega arith))) }
