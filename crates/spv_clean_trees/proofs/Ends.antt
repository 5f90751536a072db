-- What the rules on terminators say of a walked block, by its terminator.
use Rattle.std.proofs.Common.{◌≡◌, inl, inr, ℕ, Bool, true, false, not, ◌==◌, List, [], ◌++◌, Some, sym, ap, ◌∙◌}
use Rattle.spv_module.specs.First.{unless}
use Rattle.spv_blocks.specs.Blocks.{Code, ALoop, End, BranchIf, Switch, Return, Unreachable, construct, is_switch}
use Rattle.spv_walk.specs.Contexts.{Context, behind, in_next}
use Rattle.spv_walk.specs.Faults.{end_rules, has_exit, same_twice, splits_header}
use Rattle.spv_walk.specs.Walk.{Walk, end_of}
use Rattle.spv_walk.proofs.Unique.{not_true}
use Rattle.spv_tree.specs.Sound.{is_end, opcode_in}
use Rattle.spv_spelling.specs.Clean.{IsClean}
use Rattle.spv_spelling.proofs.Settled.{none_left, none_right}
use Rattle.spv_normal_trees.proofs.Arranging.{returns_bare, unless_passes, unreachable_bare, walked}
use Rattle.spv_normal_trees.proofs.Growing.{finish_end}
use Rattle.spv_normal_trees.proofs.Texts.{line_end}
use Rattle.spv_structured.specs.Structured.{parts_header}

module _ (is_pointer : ℕ → Bool) (f : Code) (clean : IsClean is_pointer f) where
  rules_at : (l : ℕ) (c : Context) (e : End) → Walk f l c → end_of f l ≡ e → end_rules (construct f l) (behind (construct f l) l l c) e ≡ []
  rules_at l c e w same =
      let i = walked is_pointer f clean l c w in
      ap (end_rules (construct f l) (behind (construct f l) l l c)) (sym same ∙ i.end_there) ∙ i.settled_there.rules

  -- 405: nothing returns in a continue part
  pub ends_outside : (l : ℕ) (c : Context) (words : List ℕ) → is_end (opcode_in words) ≡ true → Walk f l c → end_of f l ≡ line_end words → in_next c ≡ false
  ends_outside l c words is w e = elim (finish_end words is) [
    | inl r ↦
        ap (λ k. in_next (behind k l l c)) (sym (returns_bare is_pointer f clean l c w (e ∙ r)))
        ∙ not_true (in_next (behind (construct f l) l l c)) (unless_passes (not (in_next (behind (construct f l) l l c))) 405 (rules_at l c Return w (e ∙ r)))
    | inr r ↦
        ap (λ k. in_next (behind k l l c)) (sym (unreachable_bare is_pointer f clean l c w (e ∙ r)))
        ∙ not_true (in_next (behind (construct f l) l l c)) (unless_passes (not (in_next (behind (construct f l) l l c))) 405
        (rules_at l c Unreachable w (e ∙ r)))
  ]

  -- 402: no literal stands twice
  pub literals_once : (l : ℕ) (c : Context) (default : ℕ) (cases : List (ℕ × ℕ)) → Walk f l c → end_of f l ≡ Switch default cases → same_twice cases ≡ false
  literals_once l c default cases w e =
      not_true (same_twice cases) (unless_passes (not (same_twice cases)) 402
      (none_left (unless (not (same_twice cases)) 402) (unless (is_switch (construct f l)) 403) (rules_at l c (Switch default cases) w e)))

  -- 410: one target of a header's branch is the merge block
  pub header_parted : (h m n : ℕ) (c : Context) (a b : ℕ) → Walk f h c → construct f h ≡ Some (ALoop m n) → end_of f h ≡ BranchIf a b
      → parts_header (BranchIf a b) m ≡ true
  header_parted h m n c a b w is e =
      let d : Context = behind (construct f h) h h c in
      ap (λ k. splits_header k a b) (sym is)
      ∙ unless_passes (splits_header (construct f h) a b) 410 (none_right (unless (not (a == b)) 408) (unless (splits_header (construct f h) a b) 410)
      (none_right (unless (has_exit (construct f h) d a b) 407) (unless (not (a == b)) 408 ++ unless (splits_header (construct f h) a b) 410)
      (rules_at h c (BranchIf a b) w e)))
