-- The broken rules on structured control flow, 401 to 408 and 410, of one function.
use Rattle.std.specs.Prelude.{◌≡◌, ◌⊎◌, ℕ, ◌<◌, ◌≤◌, Bool, true, false, List, [], ◌∷◌, ◌++◌, Option, Some, None}
use Rattle.std.specs.List.{Contains}
use Rattle.spv_base.specs.declared.fault.Refusal.{Refusal}
use Rattle.spv_module.specs.First.{here}
use Rattle.spv_blocks.specs.Blocks.{Code, Block, Open, Ins, Loop, block, of_block, construct, next_of, stops}
use Rattle.spv_walk.specs.Contexts.{Context, behind, is_fall}
use Rattle.spv_walk.specs.Walk.{Walk, Enters, OneBackEdge, leads, tries}
use Rattle.spv_walk.specs.Faults.{merge_faults, end_rules}
use Rattle.spv_walk.specs.Phis.{phi_faults}

-- the place of the terminator of a block
abbrev pub end_at : Code → ℕ → ℕ
end_at f l = of_block (λ b. b.end_at) 0 (block f l)

-- the place of the OpLoopMerge that stands last among instructions
abbrev pub loop_at : List Ins → ℕ
loop_at [] = 0
loop_at (Loop at m n ∷ []) = at
loop_at (i ∷ is) = loop_at is

-- the rules that a block breaks by its own words in its context; behind a header that is its own continue target nothing is looked at
abbrev pub at_front : (is_pointer : ℕ → Bool) → Code → (l : ℕ) → Block → List Refusal
at_front is_pointer f l b = phi_faults is_pointer f l b.body ++ merge_faults f l b.end b.body

abbrev pub at_end : Code → (l : ℕ) → Context → Block → List Refusal
at_end f l c b = here b.end_at (end_rules (construct f l) (behind (construct f l) l l c) b.end)

module _ (is_pointer : ℕ → Bool) (f : Code) where
  -- a rule is broken at a word offset, by a walked block
  pub data Finds : (rule at : ℕ) → Type 0 where
    AtFront : (l : ℕ) (b : Block) (c : Context) (r : Refusal) → Walk f l c → block f l ≡ Some b → Contains (at_front is_pointer f l b) r → Finds r.rule r.at
    AtEnd : (l : ℕ) (b : Block) (c : Context) (r : Refusal) → Walk f l c → block f l ≡ Some b → stops f l ≡ false → Contains (at_end f l c b) r → Finds r.rule r.at
    -- 402 BadTarget: a target that is neither an exit nor the first block of another case, and may not be entered
    BadTarget : (l t : ℕ) (c : Context) → Walk f l c → tries f l c t ≡ true → stops f t ≡ false → (Enters f l t → ⊥) → Finds 402 (end_at f l)
    -- 404 CaseFall: a target that is no exit, and the first block of another case
    CaseFall : (l t : ℕ) (c : Context) → Walk f l c → leads f l c t ≡ true → is_fall f c t ≡ true → Finds 404 (end_at f l)
    -- 405 BadContinue: the continue part does not end in exactly one back edge
    BadContinue : (l n : ℕ) (b : Block) (c : Context) → Walk f l c → block f l ≡ Some b → stops f l ≡ false → next_of (construct f l) ≡ Some n
        → (OneBackEdge f l → ⊥) → Finds 405 (loop_at b.body)
    -- 401 NoTerminator: a block, walked or not, is open where the next begins or the function ends
    NoTerminator : (l : ℕ) (b : Block) → block f l ≡ Some b → b.end ≡ Open → Finds 401 b.end_at

  -- and where nothing else is broken, a block that is never entered
  pub data Broken : (rule at : ℕ) → Type 0 where
    Found : (rule at : ℕ) → Finds rule at → Broken rule at
    NeverEntered : (l : ℕ) (b : Block) → ((rule at : ℕ) → Finds rule at → ⊥) → block f l ≡ Some b → ((c : Context) → Walk f l c → ⊥) → Broken 402 b.at

-- the least word offset, and there the least rule
pub record IsLeast (B : (rule at : ℕ) → Type 0) (refusal : Refusal) : Type 0 where
  pub broken : B refusal.rule refusal.at
  pub least : (rule at : ℕ) → B rule at → (refusal.at < at) ⊎ ((refusal.at ≡ at) × (refusal.rule ≤ rule))

abbrev pub IsFirst : (B : (rule at : ℕ) → Type 0) → Option Refusal → Type 0
IsFirst B None = (rule at : ℕ) → B rule at → ⊥
IsFirst B (Some refusal) = IsLeast B refusal
