-- How the lines of a walked block go on: what its terminator says, and where it leads.
use Rattle.std.proofs.Common.{◌≡◌, ◌≢◌, ℕ, Bool, true, false, cond, List, [], ◌∷◌, ◌++◌, Some, refl, sym, ◌∙◌, append_assoc}
use Rattle.spv_module.specs.Instruction.{Instruction}
use Rattle.spv_blocks.specs.Blocks.{BranchIf, construct, merge_of, names, next_of}
use Rattle.spv_blocks.specs.Cutting.{blocks_of}
use Rattle.spv_walk.specs.Contexts.{Context, behind}
use Rattle.spv_walk.specs.Walk.{Walk, end_of}
use Rattle.spv_walk.specs.Walked.{Steps}
use Rattle.spv_walk.proofs.Unique.{role_once}
use Rattle.spv_bodies.specs.Listing.{split_line}
use Rattle.spv_spelling.specs.Clean.{IsClean, no_pointers}
use Rattle.spv_spelling.specs.Spelling.{Goes}
use Rattle.spv_spelling.specs.Text.{text, phis, behind_phis}
use Rattle.spv_spelling.proofs.Onward.{goes_on}
use Rattle.spv_spelling.proofs.Settled.{walked_runs}
use Rattle.spv_normal_trees.proofs.Arranging.{IsWalked, targets_differ, walked}
use Rattle.spv_normal_trees.proofs.NormalBlocks.{in_front_and_behind}
use Rattle.spv_normal_trees.proofs.Texts.{end_is, line_end}

-- the lines of a walked block go on with these
pub record Node (insts : List Instruction) (l : ℕ) (c : Context) (rest : List (List ℕ)) : Type 0 where
  pub walk : Walk (blocks_of insts) l c
  pub front : List (List ℕ)
  pub same : text insts l ≡ front ++ rest

pub next_line : (insts : List Instruction) (l : ℕ) (c : Context) (words : List ℕ) (rest : List (List ℕ)) → Node insts l c (words ∷ rest) → Node insts l c rest
next_line insts l c words rest n = record { walk = n.walk; front = n.front ++ words ∷ []; same = n.same ∙ sym (append_assoc n.front (words ∷ []) rest) }

-- a block goes on behind its OpPhi
pub begin_lines : (insts : List Instruction) (l : ℕ) (c : Context) → Walk (blocks_of insts) l c → Node insts l c (behind_phis (text insts l))
begin_lines insts l c w = record { walk = w; front = phis (text insts l); same = sym (in_front_and_behind (text insts l)) }

pub all_lines : (insts : List Instruction) (l : ℕ) (c : Context) → Walk (blocks_of insts) l c → Node insts l c (text insts l)
all_lines insts l c w = record { walk = w; front = []; same = refl }

pub split_end : (condition : ℕ) (on : Bool) (a b : ℕ) → line_end (split_line condition on a b) ≡ cond on (BranchIf a b) (BranchIf b a)
split_end condition true a b = refl
split_end condition false a b = refl

module _ (insts : List Instruction) (clean : IsClean no_pointers (blocks_of insts)) where
  pub walked_at : (l : ℕ) (c : Context) → Walk (blocks_of insts) l c → IsWalked no_pointers (blocks_of insts) l c
  walked_at l c w = walked no_pointers (blocks_of insts) clean l c w

  pub ends_with : (l : ℕ) (c : Context) (last : List ℕ) → Node insts l c (last ∷ []) → end_of (blocks_of insts) l ≡ line_end last
  ends_with l c last n = let b = walked_at l c n.walk in end_is insts l b.block_of b.at b.settled_there.ends n.front last n.same

  pub forks_differ : (l : ℕ) (c : Context) (condition a b : ℕ) → Node insts l c (split_line condition true a b ∷ []) → a ≢ b
  forks_differ l c condition a b n = targets_differ no_pointers (blocks_of insts) clean l c a b n.walk (ends_with l c (split_line condition true a b) n)

  -- ---- steps

  pub merge_role : (l m : ℕ) (c : Context) → Walk (blocks_of insts) l c → merge_of (construct (blocks_of insts) l) ≡ Some m → names (blocks_of insts) m ≡ 1
  merge_role l m c w e = role_once (blocks_of insts) l m ((walked_at l c w).settled_there.merge m e)

  pub next_role : (l n : ℕ) (c : Context) → Walk (blocks_of insts) l c → next_of (construct (blocks_of insts) l) ≡ Some n → names (blocks_of insts) n ≡ 1
  next_role l n c w e = role_once (blocks_of insts) l n ((walked_at l c w).settled_there.next n e)

  pub goes_step : (stays : ℕ → ℕ) (l t : ℕ) (c d : Context) → Walk (blocks_of insts) l c → behind (construct (blocks_of insts) l) l t c ≡ d
      → Goes insts stays l d t
      → Steps (blocks_of insts) l c t d
  goes_step stays l t c d w same g = goes_on insts stays l t c d w (walked_runs no_pointers (blocks_of insts) clean l c w) same g
