-- What is so of a block that the walk comes to, and of those one step further on.
use Rattle.std.proofs.Common.{◌≡◌, inl, inr, ℕ, ◌+◌, ◌<◌, true, false, Some, sym, ap, subst, ◌∙◌, arith}
use Rattle.spv_blocks.specs.Blocks.{Block, Open, block, branches, construct, is_label, merge_of, next_of, of_block, stops}
use Rattle.spv_walk.specs.Contexts.{Context, is_exit, next_context}
use Rattle.spv_walk.specs.Walk.{Walk}
use Rattle.spv_walk.specs.Walked.{Steps, StepEntered, StepMerged, StepContinued}
use Rattle.spv_walk.proofs.Steps.{step_walked}
use Rattle.spv_walk.proofs.Unique.{truth_apart, goes_unnamed, merge_runs, next_runs, role_label, unnamed_runs}
use Rattle.spv_walking.specs.Table.{context_of}
use Rattle.spv_spelling.specs.Clean.{IsClean, IsSettled, EntersIn, no_pointers}
use Rattle.spv_spelling.specs.Paths.{Path, Onward}
use Rattle.spv_spelling.proofs.Paths.{path_is_walked, paths_are_short}
use Rattle.spv_spelling.proofs.Settled.{walked_runs, clean_is_settled}
use Rattle.spv_parse.specs.declared.scene.Scene.{Scene}
use Rattle.spv_parse.specs.Scene.{code_of, context, context_in, end_in, leaves_in, toward, IsNext, Stands}
use Rattle.spv_parse.specs.Ways.{IsEntered}
use Rattle.spv_parse.proofs.Labelled.{behind_walked, block_of_label, exit_label, walked_label}

module _ (s : Scene) (l left : ℕ) (h : Stands s l left) where
  clean : IsClean no_pointers (code_of s)
  clean = h.scene.admitted.clean

  pub walked : Walk (code_of s) l (context s l)
  walked = path_is_walked (code_of s) h.steps l (context s l) h.path

  pub runs : stops (code_of s) l ≡ false
  runs = walked_runs no_pointers (code_of s) clean l (context s l) walked

  -- some block may lie behind
  pub some_left : 0 < left
  some_left =
      let short = paths_are_short no_pointers (code_of s) clean h.steps l (context s l) h.path in
      let room = h.room in
      omega arith

  pub stands_label : is_label (code_of s) l ≡ true
  stands_label = walked_label no_pointers (code_of s) clean l (context s l) walked

  pub stands_block : (b : Block) × (block (code_of s) l ≡ Some b)
  stands_block = block_of_label (code_of s) l stands_label

  pub settled : IsSettled no_pointers (code_of s) l (context s l) (stands_block.0)
  settled = clean_is_settled no_pointers (code_of s) clean l (context s l) stands_block.0 walked stands_block.1

  pub end_is : end_in s l ≡ stands_block.0.end
  end_is = ap (of_block (λ b. b.end) Open) stands_block.1

  placed : context_of s.walked.now l ≡ Some (context s l)
  placed = let e = h.scene.walk.whole l (context s l) walked runs in e

  -- the walk has its place
  pub has_context : context_of s.walked.now l ≡ Some (context s l)
  has_context = placed

  onward : (t : ℕ) (d : Context) → Steps (code_of s) l (context s l) t d → stops (code_of s) t ≡ false → IsNext s left t d
  onward t d step go =
      let w = step_walked (code_of s) l t (context s l) d walked step in
      let same : context s t ≡ d = ap context_in (h.scene.walk.whole t d w go) in
      record {
        some = some_left;
        stands = record {
          scene = h.scene;
          steps = h.steps + 1;
          path = subst (λ k. Path (code_of s) (h.steps + 1) t k) (sym same) (Onward h.path step);
          room = let room = h.room in let some = some_left in omega arith;
        };
        same = same;
      }

  -- ---- what it branches to

  way_on : (t : ℕ) → EntersIn (code_of s) l (context s l) (stands_block.0) t → IsEntered s l left t
  way_on t i = record {
    goes = record { enters = i.enters; stays_in = ap (λ e. is_exit (toward s l t) e t) end_is ∙ i.stays };
    next = onward t (toward s l t) (StepEntered t i.tried i.enters) (unnamed_runs (code_of s) t (goes_unnamed (code_of s) l t i.enters.free));
  }

  pub entered : (t : ℕ) → branches (code_of s) l t ≡ true → leaves_in s l t ≡ false → IsEntered s l left t
  entered t branch stays = elim (settled.leads t branch) [
    | inl x ↦ truth_apart (is_exit (toward s l t) (stands_block.0.end) t) x (sym (ap (λ e. is_exit (toward s l t) e t) end_is) ∙ stays)
    | inr i ↦ way_on t i
  ]

  pub exit_is_label : (t : ℕ) → leaves_in s l t ≡ true → is_label (code_of s) t ≡ true
  exit_is_label t leaves = exit_label (code_of s) (toward s l t) (end_in s l) t (behind_walked no_pointers (code_of s) clean l t (context s l) walked) leaves

  -- ---- what its construct names

  pub merged : (m : ℕ) → merge_of (construct (code_of s) l) ≡ Some m → IsNext s left m (context s l)
  merged m e = let r = settled.merge m e in onward m (context s l) (StepMerged m runs e r) (merge_runs (code_of s) l m e r)

  pub continued : (n : ℕ) → next_of (construct (code_of s) l) ≡ Some n → IsNext s left n (next_context (construct (code_of s) l) l (context s l))
  continued n e = let r = settled.next n e in onward n (next_context (construct (code_of s) l) l (context s l)) (StepContinued n runs e r) (next_runs (code_of s) l n e r)

  pub merge_is_label : (m : ℕ) → merge_of (construct (code_of s) l) ≡ Some m → is_label (code_of s) m ≡ true
  merge_is_label m e = role_label (code_of s) l m (settled.merge m e)

  pub next_is_label : (n : ℕ) → next_of (construct (code_of s) l) ≡ Some n → is_label (code_of s) n ≡ true
  next_is_label n e = role_label (code_of s) l n (settled.next n e)
