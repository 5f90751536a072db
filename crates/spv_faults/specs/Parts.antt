-- What one instruction breaks in its place among the instructions of a block.
use Rattle.std.specs.Prelude.{ℕ, Bool, true, false, cond, not, ◌&&◌, ◌==◌, List, [], ◌++◌}
use Rattle.spv_base.specs.declared.fault.Refusal.{Refusal}
use Rattle.spv_module.specs.First.{here, unless}
use Rattle.spv_blocks.specs.Blocks.{Code, End, Ins, Phi, Selection, Loop, Other, names, is_first, is_role}
use Rattle.spv_walk.specs.Faults.{suits_selection, suits_loop}
use Rattle.spv_walk.specs.Phis.{phi_fits, late_phis, phi_faults}

-- `selection_fits` and `loop_fits`, where it is known whether nothing stands between the instruction and the terminator
abbrev pub selection_suits : Code → (h : ℕ) → End → (last : Bool) → (merge : ℕ) → Bool
selection_suits f h e last m = last && suits_selection e && is_role f h m

-- a continue target
abbrev pub is_next : Code → (h next : ℕ) → Bool
is_next f h n = cond (n == h) (names f n == 1) (is_role f h n)

abbrev pub loop_suits : Code → (h : ℕ) → End → (last : Bool) → (merge next : ℕ) → Bool
loop_suits f h e last m n = last && suits_loop e && not (is_first f h) && is_role f h m && is_next f h n

-- by a merge instruction
abbrev pub merge_faults_of : Code → (h : ℕ) → End → (last : Bool) → Ins → List Refusal
merge_faults_of f h e last (Phi at t r ps) = []
merge_faults_of f h e last (Other at) = []
merge_faults_of f h e last (Selection at m) = here at (unless (selection_suits f h e last m) 403)
merge_faults_of f h e last (Loop at m n) = here at (unless (loop_suits f h e last m n) 403 ++ unless (not (n == h)) 405)

abbrev pub is_phi : Ins → Bool
is_phi (Phi at t r ps) = true
is_phi (Selection at m) = false
is_phi (Loop at m n) = false
is_phi (Other at) = false

-- by an OpPhi, behind another instruction or not
abbrev pub phi_faults_of : (is_pointer : ℕ → Bool) → Code → (l : ℕ) → (late : Bool) → Ins → List Refusal
phi_faults_of is_pointer f l late (Phi at t r ps) = here at (unless (not late && phi_fits is_pointer f l t ps) 406)
phi_faults_of is_pointer f l late (Selection at m) = []
phi_faults_of is_pointer f l late (Loop at m n) = []
phi_faults_of is_pointer f l late (Other at) = []

-- by the OpPhi of a rest of instructions, behind another instruction or not
abbrev pub phi_faults_from : (is_pointer : ℕ → Bool) → Code → (l : ℕ) → (late : Bool) → List Ins → List Refusal
phi_faults_from is_pointer f l late is = cond late (late_phis is) (phi_faults is_pointer f l is)
