-- 406 BadPhi: the rule on the OpPhi of a block.
use Rattle.std.specs.Prelude.{ℕ, Bool, not, ◌&&◌, List, [], ◌∷◌, ◌++◌, map, filter, ◌==◌}
use Rattle.std.specs.List.{list_all}
use Rattle.spv_base.specs.declared.fault.Refusal.{Refusal}
use Rattle.spv_module.specs.First.{here, unless}
use Rattle.spv_blocks.specs.Blocks.{Code, Ins, Phi, Selection, Loop, Other, has, times, seconds, branches, is_first}

-- the blocks that branch to l, walked or not
abbrev pub predecessors : Code → (l : ℕ) → List ℕ
predecessors f l = filter (λ p. branches f p l) (map (λ b. b.label) f)

-- these are the predecessors, each once
abbrev pub names_each_once : (predecessors parents : List ℕ) → Bool
names_each_once ps parents = list_all (λ p. times parents p == 1) ps && list_all (λ p. has ps p) parents

-- an OpPhi of the block l with this type and these pairs stands where it may
abbrev pub phi_fits : (is_pointer : ℕ → Bool) → Code → (l t : ℕ) → List (ℕ × ℕ) → Bool
phi_fits is_pointer f l t pairs = not (is_first f l) && not (is_pointer t) && names_each_once (predecessors f l) (seconds pairs)

-- an OpPhi behind another instruction
abbrev pub late_phis : List Ins → List Refusal
late_phis [] = []
late_phis (Phi at t r pairs ∷ is) = here at (406 ∷ []) ++ late_phis is
late_phis (Selection at m ∷ is) = late_phis is
late_phis (Loop at m n ∷ is) = late_phis is
late_phis (Other at ∷ is) = late_phis is

-- the OpPhi in front of a block, and those behind another instruction; `is_pointer` tells the types that are pointers
abbrev pub phi_faults : (is_pointer : ℕ → Bool) → Code → (l : ℕ) → List Ins → List Refusal
phi_faults is_pointer f l [] = []
phi_faults is_pointer f l (Phi at t r pairs ∷ is) = here at (unless (phi_fits is_pointer f l t pairs) 406) ++ phi_faults is_pointer f l is
phi_faults is_pointer f l (Selection at m ∷ is) = late_phis is
phi_faults is_pointer f l (Loop at m n ∷ is) = late_phis is
phi_faults is_pointer f l (Other at ∷ is) = late_phis is
