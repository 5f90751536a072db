-- The first block: the walk comes to it first, and it is no header of a loop.
use Rattle.std.proofs.Common.{◌≡◌, inl, inr, ℕ, true, false, cond, not, ◌==◌, ◌&&◌, List, [], ◌∷◌, length, None, refl, sym, ap, subst, ◌∙◌, arith}
use Rattle.std.specs.List.{list_all}
use Rattle.spv_module.specs.Instruction.{Instruction}
use Rattle.spv_blocks.specs.Blocks.{Code, End, Branch, BranchIf, Switch, Return, Unreachable, Open, Ins, Phi, Selection, Loop, Other, is_first, is_label, is_role, last_opens, names, of_block, opens}
use Rattle.spv_blocks.specs.Cutting.{blocks_of}
use Rattle.spv_walk.specs.Contexts.{Context}
use Rattle.spv_walk.specs.Faults.{is_last, loop_fits, merge_faults, suits_loop}
use Rattle.spv_walk.specs.Walk.{Walk, Starts}
use Rattle.spv_walk.specs.Walked.{InPlaces, IsWalk}
use Rattle.spv_walking.specs.Table.{context_of}
use Rattle.spv_walk.proofs.Unique.{both_left, both_right, not_true, tells, truth_apart, true_equal}
use Rattle.spv_normal.specs.Order.{first_label, is_loop}
use Rattle.spv_normal.specs.Lines.{before_labels, behind_label}
use Rattle.spv_spelling.specs.Clean.{no_pointers}
use Rattle.spv_spelling.specs.Spelling.{AreStaying, Spells, SpellsFunction}
use Rattle.spv_spelling.specs.Text.{behind_phis, is_phi, phis, text}
use Rattle.spv_spelling.specs.Whole.{IsAdmitted}
use Rattle.spv_spelling.specs.Paths.{Path, Begins}
use Rattle.spv_spelling.proofs.Merges.{passes_both}
use Rattle.spv_spelling.proofs.Settled.{none_right, walked_runs}
use Rattle.spv_tree.specs.declared.body.Body.{Body}
use Rattle.spv_tree.specs.Tree.{body_of, sequence_body, words_of}
use Rattle.spv_sources.specs.Tail.{phi_insts}
use Rattle.spv_sources.proofs.Behind.{block_of_label, phi_inst_fits, phi_lines_are}
use Rattle.spv_parse.specs.declared.scene.Scene.{Scene}
use Rattle.spv_parse.specs.declared.state.State.TheVariants as state
use Rattle.spv_parse.specs.Scene.{code_of, context, context_in, insts_of, staying, IsScene, Stands}
use Rattle.spv_parse.specs.Ways.{opens_loop}
use Rattle.spv_parse.specs.Ends.{Ends, SpellsLines, SpellsState}
use Rattle.spv_parse.proofs.Labelled.{first_is_label}
use Rattle.spv_parse.proofs.Standing.{settled, stands_block}

label_is_first : (f : Code) → is_label f (first_label f) ≡ true → is_first f (first_label f) ≡ true
label_is_first [] h = absurd (cc (h))
label_is_first (b ∷ bs) h = true_equal b.label b.label refl

pub first_of : (f : Code) (l : ℕ) → l ≡ first_label f → is_label f l ≡ true → is_first f l ≡ true
first_of f l is label = subst (λ k. is_first f k ≡ true) (sym is) (label_is_first f (subst (λ k. is_label f k ≡ true) is label))

pub scene_of : (s : Scene) → s.labels.now ≡ code_of s → IsAdmitted (insts_of s) → IsWalk s.labels.now (InPlaces (context_of s.walked.now)) → IsScene s
scene_of s same admitted walk =
    record { same = same; admitted = admitted; walk = subst (λ (f : Code). IsWalk f (InPlaces (context_of s.walked.now))) same walk }

module _ (s : Scene) (scene : IsScene s) (l : ℕ) (first : is_first (code_of s) l ≡ true) where
  first_walk : Walk (code_of s) l []
  first_walk = Starts l first

  pub first_context : context s l ≡ []
  first_context = ap context_in (scene.walk.whole l [] first_walk (walked_runs no_pointers (code_of s) scene.admitted.clean l [] first_walk))

  pub first_stands : (n : ℕ) → n ≡ length (code_of s) → Stands s l n
  first_stands n all = record {
    scene = scene;
    steps = 0;
    path = subst (λ (c : Context). Path (code_of s) 0 l c) (sym first_context) (Begins first);
    room = omega arith;
  }

-- ---- no loop begins there

no_loop_phi : (e : End) (at t r : ℕ) (pairs : _) → is_loop (opens e (Phi at t r pairs)) ≡ false
no_loop_phi Open at t r pairs = refl
no_loop_phi (Branch a) at t r pairs = refl
no_loop_phi (BranchIf a b) at t r pairs = refl
no_loop_phi (Switch d ps) at t r pairs = refl
no_loop_phi Return at t r pairs = refl
no_loop_phi Unreachable at t r pairs = refl

no_loop_other : (e : End) (at : ℕ) → is_loop (opens e (Other at)) ≡ false
no_loop_other Open at = refl
no_loop_other (Branch a) at = refl
no_loop_other (BranchIf a b) at = refl
no_loop_other (Switch d ps) at = refl
no_loop_other Return at = refl
no_loop_other Unreachable at = refl

no_loop_selection : (e : End) (at m : ℕ) → is_loop (opens e (Selection at m)) ≡ false
no_loop_selection Open at m = refl
no_loop_selection (Branch a) at m = refl
no_loop_selection (BranchIf a b) at m = refl
no_loop_selection (Switch d ps) at m = refl
no_loop_selection Return at m = refl
no_loop_selection Unreachable at m = refl

not_first : (f : Code) (h : ℕ) (e : End) (is : List Ins) (at m n : ℕ) → is_first f h ≡ true → merge_faults f h e (Loop at m n ∷ is) ≡ [] → ⊥
not_first f h e is at m n first none =
    let fits = (passes_both at 403 405 (loop_fits f h e is m n) (not (n == h)) (merge_faults f h e is) none).holds in
    let front = both_left (is_last is && suits_loop e && not (is_first f h) && is_role f h m) (cond (n == h) (names f n == 1) (is_role f h n)) fits in
    let third = both_right (is_last is && suits_loop e) (not (is_first f h)) (both_left (is_last is && suits_loop e && not (is_first f h)) (is_role f h m) front) in
    truth_apart (is_first f h) first (not_true (is_first f h) third)

later : (f : Code) (h : ℕ) (e : End) (i : Ins) (is : List Ins) → merge_faults f h e (i ∷ is) ≡ [] → merge_faults f h e is ≡ []
later f h e (Phi at t r pairs) is none = none
later f h e (Other at) is none = none
later f h e (Selection at m) is none = none_right _ (merge_faults f h e is) none
later f h e (Loop at m n) is none = none_right _ (merge_faults f h e is) none

-- by induction on the instructions
bare_first : (f : Code) (h : ℕ) (e : End) (is : List Ins) → is_first f h ≡ true → merge_faults f h e is ≡ [] → is_loop (last_opens e is) ≡ false
bare_first f h e [] first none = refl
bare_first f h e (Phi at t r pairs ∷ []) first none = no_loop_phi e at t r pairs
bare_first f h e (Other at ∷ []) first none = no_loop_other e at
bare_first f h e (Selection at m ∷ []) first none = no_loop_selection e at m
bare_first f h e (Loop at m n ∷ []) first none = absurd (not_first f h e [] at m n first none)
bare_first f h e (i ∷ j ∷ is) first none = bare_first f h e (j ∷ is) first (later f h e i (j ∷ is) none)

pub first_bare : (s : Scene) (l left : ℕ) (st : Stands s l left) → is_first (code_of s) l ≡ true → opens_loop s l ≡ false
first_bare s l left st first =
    let b = (stands_block s l left st).0 in
    ap (λ o. is_loop (of_block (λ x. last_opens x.end x.body) None o)) ((stands_block s l left st).1)
    ∙ bare_first (code_of s) l b.end b.body first (settled s l left st).merges

-- ---- no OpPhi stands there

no_fits : (f : Code) (l : ℕ) (is : List Instruction) → is_first f l ≡ true → list_all (phi_inst_fits f l) is ≡ true → is ≡ []
no_fits f l [] first all = refl
no_fits f l (i ∷ is) first all =
    let fits = both_left (phi_inst_fits f l i) (list_all (phi_inst_fits f l) is) all in
    let other = not_true (is_first f l) (both_left (not (is_first f l)) (not false) (both_left (not (is_first f l) && not false) _ fits)) in
    truth_apart (is_first f l) first other

no_phis : (lines : List (List ℕ)) → phis lines ≡ [] → behind_phis lines ≡ lines
no_phis [] none = refl
no_phis (words ∷ rest) none = elim (tells (is_phi words)) [
  | inl p ↦ absurd (cc (sym (ap (λ b. cond b (words ∷ phis rest) []) p) ∙ none))
  | inr p ↦ ap (λ b. cond b (behind_phis rest) (words ∷ rest)) p
]

pub first_text : (insts : List Instruction) → IsAdmitted insts → (l : ℕ) → is_first (blocks_of insts) l ≡ true → behind_phis (text insts l) ≡ text insts l
first_text insts admitted l first =
    let block = block_of_label insts admitted l (first_is_label (blocks_of insts) l first) in
    let none = no_fits (blocks_of insts) l (phi_insts (behind_label insts l)) first block.fit in
    no_phis (text insts l) (phi_lines_are (behind_label insts l) ∙ ap words_of none)

-- ---- the whole function

pub spells_whole : (s : Scene) (stays : ℕ → ℕ) (body : Body) → IsScene s → stays ≡ staying s → AreStaying (insts_of s) (staying s)
    → words_of (before_labels (insts_of s)) ≡ body.function.words ∷ words_of body.parameters
    → body.label ≡ first_label (code_of s) → is_first (code_of s) body.label ≡ true → Ends (SpellsState s (state.Behind body.label)) [] (sequence_body body.sequence)
    → SpellsFunction (insts_of s) stays (body_of body)
spells_whole s stays body scene same stay front label first ends =
    subst (λ z. SpellsFunction (insts_of s) z (body_of body)) (sym same)
    (record {
      staying = stay;
      front = front;
      label = label;
      body =
          subst (λ z. Spells (insts_of s) (staying s) body.label z (text (insts_of s) body.label) (sequence_body body.sequence)) (first_context s scene body.label first)
          (subst (λ z. SpellsLines s body.label z (sequence_body body.sequence)) (first_text (insts_of s) scene.admitted body.label first)
          (subst (SpellsLines s body.label (behind_phis (text (insts_of s) body.label))) (sym ends.same) ends.spells));
    })
