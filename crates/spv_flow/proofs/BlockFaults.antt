-- What one block breaks, part by part.
use Rattle.std.proofs.Common.{◌≡◌, ℕ, Bool, Option, Some, None, Result, Ok, Err, refl, sym, ap, subst, ◌∙◌}
use Rattle.std.specs.List.{slice_get}
use Rattle.std.specs.Result.{IfOk}
use Rattle.spv_base.specs.declared.fault.Refusal.{Refusal}
use Rattle.spv_module.specs.First.{here, first}
use Rattle.spv_blocks.specs.Blocks.{Code, Block, Construct, ASelection, ASwitch, ALoop, block, of_block, construct, last_opens}
use Rattle.spv_walk.specs.Contexts.{Context, behind, in_next}
use Rattle.spv_walk.specs.Faults.{end_rules}
use Rattle.spv_walk.specs.Rules.{at_end}
use Rattle.spv_faults.specs.Ends.{TellsExit}
use Rattle.spv_faults.specs.Listed.{Faults, of_context}

-- a merge instruction leads into no continue part
in_next_behind : (k : Option Construct) (l t : ℕ) (c : Context) → in_next (behind k l t c) ≡ in_next c
in_next_behind None l t c = refl
in_next_behind (Some (ASelection m)) l t c = refl
in_next_behind (Some (ASwitch m)) l t c = refl
in_next_behind (Some (ALoop m n)) l t c = refl

one_block : (o : Option Block) (x y : Block) → o ≡ Some x → o ≡ Some y → x ≡ y
one_block o x y e h = cc (e, h)

construct_here : (f : Code) (l : ℕ) (b : Block) → block f l ≡ Some b → construct f l ≡ last_opens b.end b.body
construct_here f l b h = ap (of_block (λ (x : Block). last_opens x.end x.body) None) h

end_here : (f : Code) (l : ℕ) (c : Context) (b : Block) → block f l ≡ Some b →
    at_end f l c b ≡ here b.end_at (end_rules (last_opens b.end b.body) (behind (last_opens b.end b.body) l l c) b.end)
end_here f l c b h = ap (λ k. here b.end_at (end_rules k (behind k l l c) b.end)) (construct_here f l b h)

module _ {E : Type 0} where
  -- the first rule at a terminator, in the context behind the merge instruction of its block
  pub end_told : (result : Result (Option Refusal) E) (k : Option Construct) (exits next : Bool) (f : Code) (l : ℕ) (c : Context) (b : Block)
      → IfOk result (λ fault. (d : Context) → TellsExit exits k d b.end → next ≡ in_next d → fault ≡ first (here b.end_at (end_rules k d b.end)))
      → block f l ≡ Some b → k ≡ last_opens b.end b.body → TellsExit exits k (behind k l l c) b.end → next ≡ in_next c
      → IfOk result (λ fault. fault ≡ first (at_end f l c b))
  end_told (Ok fault) k exits next f l c b told h is e n =
      told (behind k l l c) e (n ∙ sym (in_next_behind k l l c))
      ∙ ap (λ o. first (here b.end_at (end_rules o (behind o l l c) b.end))) is
      ∙ ap first (sym (end_here f l c b h))
  end_told (Err e) k exits next f l c b told h is x n = tt

  -- what a block breaks in its context is what it breaks as one that is walked
  pub walked_told : (result : Result (Option Refusal) E) (faults : Faults) (place : ℕ → Option Context) (f : Code) (k : ℕ) (b : Block) (c : Context)
      → slice_get f k ≡ Some b → place b.label ≡ Some c → IfOk result (λ fault. fault ≡ first (faults b.label c b))
      → IfOk result (λ fault. (x : Block) → slice_get f k ≡ Some x → fault ≡ first (of_context (λ (d : Context). faults x.label d x) (place x.label)))
  walked_told (Ok fault) faults place f k b c at stands told = λ x h.
      subst (λ (y : Block). fault ≡ first (of_context (λ (d : Context). faults y.label d y) (place y.label))) (one_block (slice_get f k) b x at h)
      (told ∙ ap (λ o. first (of_context (λ (d : Context). faults b.label d b) o)) (sym stands))
  walked_told (Err e) faults place f k b c at stands told = tt
