-- The rules on merge instructions and terminators that a block breaks in its context.
use Rattle.std.specs.Prelude.{ℕ, Bool, true, false, cond, not, ◌&&◌, ◌||◌, List, [], ◌∷◌, ◌++◌, Option, Some, None, ◌==◌}
use Rattle.std.specs.List.{list_any}
use Rattle.spv_base.specs.declared.fault.Refusal.{Refusal}
use Rattle.spv_module.specs.First.{here, unless}
use Rattle.spv_blocks.specs.Blocks.{Code, Construct, ASelection, ASwitch, ALoop, End, Branch, BranchIf, Switch, Return, Unreachable, Open, Ins, Phi, Selection, Loop, Other, names, is_role, is_first, is_switch}
use Rattle.spv_walk.specs.Contexts.{Context, is_exit, in_next}

-- ---- 403 BadMerge and 405 BadContinue, at merge instructions

-- nothing stands between an instruction and the terminator
abbrev pub is_last : List Ins → Bool
is_last [] = true
is_last (i ∷ is) = false

abbrev pub suits_selection : End → Bool
suits_selection (Branch l) = false
suits_selection (BranchIf a b) = true
suits_selection (Switch d ps) = true
suits_selection Return = false
suits_selection Unreachable = false
suits_selection Open = false

abbrev pub suits_loop : End → Bool
suits_loop (Branch l) = true
suits_loop (BranchIf a b) = true
suits_loop (Switch d ps) = false
suits_loop Return = false
suits_loop Unreachable = false
suits_loop Open = false

-- an OpSelectionMerge of the block h with this merge block is directly before a terminator that suits it, and its merge block may be walked to
abbrev pub selection_fits : Code → (h : ℕ) → End → List Ins → (merge : ℕ) → Bool
selection_fits f h e behind m = is_last behind && suits_selection e && is_role f h m

-- an OpLoopMerge too, and does not stand in the first block; that a continue target is the header is a matter of 405, and no other merge instruction names it
abbrev pub loop_fits : Code → (h : ℕ) → End → List Ins → (merge next : ℕ) → Bool
loop_fits f h e behind m n = is_last behind && suits_loop e && not (is_first f h) && is_role f h m && cond (n == h) (names f n == 1) (is_role f h n)

-- at the merge instructions among the instructions of the block h
abbrev pub merge_faults : Code → (h : ℕ) → End → List Ins → List Refusal
merge_faults f h e [] = []
merge_faults f h e (Phi at t r ps ∷ is) = merge_faults f h e is
merge_faults f h e (Other at ∷ is) = merge_faults f h e is
merge_faults f h e (Selection at m ∷ is) = here at (unless (selection_fits f h e is m) 403) ++ merge_faults f h e is
merge_faults f h e (Loop at m n ∷ is) = here at (unless (loop_fits f h e is m n) 403 ++ unless (not (n == h)) 405) ++ merge_faults f h e is

-- ---- 402, 403, 405, 407, 408 and 410, at the terminator

-- one literal stands twice
abbrev pub same_twice : List (ℕ × ℕ) → Bool
same_twice [] = false
same_twice (p ∷ ps) = list_any (λ q. q.0 == p.0) ps || same_twice ps

-- 407 BareBranch: without a merge instruction one target is an exit
abbrev pub has_exit : Option Construct → Context → (one other : ℕ) → Bool
has_exit None c a b = is_exit c (BranchIf a b) a || is_exit c (BranchIf a b) b
has_exit (Some k) c a b = true

-- 410 HeaderSplit: after OpLoopMerge exactly one target is the merge block
abbrev pub splits_header : Option Construct → (one other : ℕ) → Bool
splits_header None a b = true
splits_header (Some (ASelection m)) a b = true
splits_header (Some (ASwitch m)) a b = true
splits_header (Some (ALoop m n)) a b = cond (a == m) (not (b == m)) (b == m)

-- in the context c, with a construct that the block opens or none; the words of a return and of OpUnreachable tell nothing more
abbrev pub end_rules : Option Construct → Context → End → List ℕ
end_rules k c (Branch l) = []
end_rules k c (BranchIf a b) = unless (has_exit k c a b) 407 ++ (unless (not (a == b)) 408 ++ unless (splits_header k a b) 410)
end_rules k c (Switch d ps) = unless (not (same_twice ps)) 402 ++ unless (is_switch k) 403
end_rules k c Return = unless (not (in_next c)) 405
end_rules k c Unreachable = unless (not (in_next c)) 405
end_rules k c Open = []
