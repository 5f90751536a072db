-- Each line of the listing of a fine tree uses what is available there: by recursion on how the tree is spelled.
use Rattle.std.proofs.Common.{◌≡◌, ◌⊎◌, inl, inr, ℕ, suc, ◌+◌, ◌<◌, ◌≤◌, Bool, true, false, cond, ◌==◌, List, [], ◌∷◌, ◌++◌, map, length, Some, None, refl, sym, ap, subst, ◌∙◌, arith, append_assoc}
use Rattle.std.specs.List.{AllByRecursion, flat_map}
use Rattle.spv_opcodes.specs.declared.op.TheConstants as op
use Rattle.spv_grammar.specs.Table.{row_of}
use Rattle.spv_module.specs.Instruction.{Instruction}
use Rattle.spv_blocks.specs.Blocks.{Code, ASelection, ASwitch, ALoop, branches, construct, has, is_label, merge_of, next_of, seconds}
use Rattle.spv_blocks.specs.Cutting.{blocks_of}
use Rattle.spv_walk.specs.Contexts.{Context, InBody, InNext, behind, next_context}
use Rattle.spv_walk.specs.Walk.{Walk}
use Rattle.spv_walk.specs.Walked.{Steps}
use Rattle.spv_walk.proofs.Unique.{equal_true, tells, truth_apart}
use Rattle.spv_bodies.specs.Bodies.{Parameter, Entry, ByBranch as Carried_in, InPlace, Body, Loops, Arms, Function, target}
use Rattle.spv_bodies.specs.Listing.{Branching, arm_lines, arriving, branch_line, branches as branches_of_body, branches_of_arms, first_target, front_lines, instruction, label_line, lines, lines_of_arms, listed, loop_line, pair_words, phi_lines, selection_line, split_line}
use Rattle.spv_normal.specs.Order.{is_front}
use Rattle.spv_tree.specs.Sound.{is_end, is_step, opcode_in}
use Rattle.spv_tree.specs.Tree.{words_of}
use Rattle.spv_normal_trees.specs.Laws.{IsBranching}
use Rattle.spv_normal_trees.proofs.Arranging.{walked_label}
use Rattle.spv_normal_trees.proofs.Growing.{walk_merge, walk_next}
use Rattle.spv_normal_trees.proofs.Listed.{branches_of_blocks}
use Rattle.spv_normal_trees.proofs.Members.{firsts_has, has_cons, has_head, has_nothing, has_tail}
use Rattle.spv_normal_trees.proofs.NormalBlocks.{in_front_and_behind}
use Rattle.spv_normal_trees.proofs.Texts.{opcode_spelled}
use Rattle.spv_trees.specs.Standing.{OneOf}
use Rattle.spv_trees.proofs.Members.{one_left, one_right}
use Rattle.spv_structured.proofs.Lists.{all_at, filter_from, has_one}
use Rattle.spv_spelling.specs.Clean.{no_pointers}
use Rattle.spv_spelling.specs.Spelling as spelled
use Rattle.spv_spelling.specs.Spelling.{Goes, Spells, SpellsArm, SpellsArms, SpellsBranch, SpellsFunction, SpellsHead, SpellsLoop, SpellsPart}
use Rattle.spv_spelling.specs.Text.{copies, firsts, front_of, parameter_of, phis, text}
use Rattle.spv_spelling.specs.Whole.{IsAdmitted}
use Rattle.spv_spelling.proofs.Onward.{continues_on, merges_on}
use Rattle.spv_texts.specs.Laws.{DefinesOnce}
use Rattle.spv_ways.specs.Ways as ways
use Rattle.spv_ways.specs.Ways.{ByBranch}
use Rattle.spv_ways.proofs.BackEdges.{branching_block, forward_is_way, way_walked}
use Rattle.spv_ways.proofs.Reached.{each_is_reached}
use Rattle.spv_availability.specs.Availability.{IsAvailable}
use Rattle.spv_fine.specs.Fine.{ArmsFine, AtFront, Fine, Ids, With, defined_in, results, used_in}
use Rattle.spv_fine.specs.Laws.{stay}
use Rattle.spv_fine.proofs.Available.{Free, Home, IsParameter, all_insts, at, before_here, behind_here, earlier_here, known_here, known_label, n}
use Rattle.spv_fine.proofs.Homes.{homes}
use Rattle.spv_fine.proofs.Kept as kept
use Rattle.spv_fine.proofs.LinesAt as lines_at
use Rattle.spv_fine.proofs.LinesAt.{AllGood, Before', Good, In, Lies, LineIs}
use Rattle.spv_fine.proofs.NoPhis.{no_phis}
use Rattle.spv_fine.proofs.Numbers.{insts}
use Rattle.spv_fine.proofs.Passed as passed
use Rattle.spv_fine.proofs.Uses.{used_branch, used_loop, used_selection, used_split, used_switch}
use Rattle.spv_fine.proofs.Whole.{Any}

-- what stands in a loop behind the front of its header
abbrev pub behind_header : List Branching → Body → List (List ℕ)
behind_header all (Loops entry header control inner next continuing merge rest) =
    lines all (loop_line merge.label next.label control ∷ []) inner
    ++ (front_lines all next ++ (lines all [] continuing ++ (front_lines all merge ++ lines all [] rest)))
behind_header all other = []

-- neither an OpPhi nor a label
abbrev pub IsPlain : ℕ → Type 0
IsPlain o = ((o == op.PHI) ≡ false) × ((o == op.LABEL) ≡ false)

apart_by : (test : ℕ → Bool) (o p : ℕ) → test o ≡ true → test p ≡ false → (o == p) ≡ false
apart_by test o p is other = elim (tells (o == p)) [
  | inl e ↦ truth_apart (test o) is (ap test (equal_true o p e) ∙ other)
  | inr e ↦ e
]

step_plain : (o : ℕ) → is_step o ≡ true → IsPlain o
unfolding row_of
step_plain o h = (apart_by is_step o op.PHI h refl, apart_by is_step o op.LABEL h refl)

end_plain : (o : ℕ) → is_end o ≡ true → IsPlain o
end_plain o h = (apart_by is_end o op.PHI h refl, apart_by is_end o op.LABEL h refl)

split_plain : (condition : ℕ) (on : Bool) (a b : ℕ) → IsPlain (opcode_in (split_line condition on a b))
split_plain condition true a b = (refl, refl)
split_plain condition false a b = (refl, refl)

switch_plain : (words : List ℕ) → IsPlain (opcode_in (instruction op.SWITCH words))
switch_plain words = (
  ap (λ o. o == op.PHI) (opcode_spelled op.SWITCH words (omega arith)),
  ap (λ o. o == op.LABEL) (opcode_spelled op.SWITCH words
      (omega arith)),
)

module _ (before again after : List Instruction) (f : Function) (admitted : IsAdmitted again) (spells : SpellsFunction again stay f)
    (same : words_of again ≡ listed f) (once : DefinesOnce (insts before again after admitted.text)) (P : (label id : ℕ) → Type 0)
    (takes : (id : ℕ) → has (flat_map defined_in f.parameters) id ≡ true → IsParameter (all_insts before again after f admitted once)
    (n before again after f admitted once) id)
    (promised : passed.Promised again f admitted spells P (Home before again after f admitted once)
    (Free before again after f admitted once takes) Any (λ xs ys less h. h))
    (sent : (e : Branching) → OneOf e (branches_of_body f.label f.body) → (id : ℕ) → passed.Carried again f admitted spells P
    (Home before again after f admitted once) (Free before again after f admitted once takes) Any (λ xs ys less h. h) e id
    → passed.Behind again f admitted spells P (Home before again after f admitted once) (Free before again after f admitted once takes) Any
    (λ xs ys less h. h) e.0 id) where
  abbrev g : Code
  g = blocks_of again

  abbrev I : List Instruction
  I = all_insts before again after f admitted once

  abbrev all : List Branching
  all = branches_of_body f.label f.body

  abbrev Start : (l id : ℕ) → Type 0
  Start l id = passed.Before again f admitted spells P (Home before again after f admitted once) (Free before again after f admitted once takes) Any
      (λ xs ys less h. h) l id

  abbrev IsSo : Ids → ℕ → Type 0
  IsSo E l = (id : ℕ) → E id → passed.Behind again f admitted spells P (Home before again after f admitted once)
      (Free before again after f admitted once takes) Any (λ xs ys less h. h) l id

  abbrev Earlier : (l k id : ℕ) → Type 0
  Earlier l k id = Before' before again after f admitted once l k id

  -- what is available in the tree at the k-th line, which stands in the block l
  abbrev So : Ids → (l k : ℕ) → Type 0
  So E l k = (id : ℕ) → E id → Start l id ⊎ Earlier l k id

  abbrev Within : List Branching → Type 0
  Within xs = (e : Branching) → OneOf e xs → OneOf e all

  abbrev Here : (l k id : ℕ) → Type 0
  Here l k id = IsAvailable I id (at before again after f admitted once l k)

  so_end : (E : Ids) (l k : ℕ) → So E l k → IsSo E l
  so_end E l k so id h = elim (so id h) [
    | inl b ↦ passed.before_behind again f admitted spells P (Home before again after f admitted once)
        (Free before again after f admitted once takes) Any (λ xs ys less h. h) l id b
    | inr e ↦ passed.defined_behind again f admitted spells P (Home before again after f admitted once)
        (Free before again after f admitted once takes) Any (λ xs ys less h. h) l id e.0
  ]

  so_on : (E : Ids) (l k : ℕ) → So E l k → So E l (suc k)
  so_on E l k so id h = elim (so id h) [ inl b ↦ inl b | inr e ↦ inr (e.0, (let less = e.1 in omega arith)) ]

  avail : (E : Ids) (l k : ℕ) (c : Context) → Walk g l c → So E l k → (id : ℕ) → E id → (j : ℕ) → k ≤ j → Here l j id
  avail E l k c w so id h j less = elim (so id h) [
    | inl b ↦ before_here before again after f admitted once takes l c id j w (λ p way. b p way tt)
    | inr e ↦ earlier_here before again after f admitted once takes id l j e.0 (let a = e.1 in omega arith)
  ]

  each_here : (E : Ids) (l k : ℕ) (c : Context) → Walk g l c → So E l k → (ids : List ℕ) → AllByRecursion E ids → AllByRecursion (Here l k) ids
  each_here E l k c w so [] h = tt
  each_here E l k c w so (x ∷ xs) h = (avail E l k c w so x h.0 k (omega arith), each_here E l k c w so xs h.1)

  label_known : (t l k : ℕ) → is_label g t ≡ true → Here l k t
  label_known t l k h = known_here before again after f admitted once t (at before again after f admitted once l k)
      (known_label before again after f admitted once t h)

  -- a branch leads to a label
  branch_label : (b t : ℕ) → branches g b t ≡ true → is_label g t ≡ true
  branch_label b t h =
      let k = branching_block g b t h in
      let w = admitted.clean.walked b k.0 k.1 in
      let r = each_is_reached no_pointers g admitted.clean b (walked_label no_pointers g admitted.clean b w.0 w.1) in
      let v = way_walked no_pointers g admitted.clean (b ∷ r.0) t (ways.Onward (forward_is_way g r.0 b r.1) (ByBranch h)) in
      walked_label no_pointers g admitted.clean t v.0 v.1

  exit_label : (e : Branching) → OneOf e all → is_label g e.1.target ≡ true
  exit_label e o = branch_label e.0 e.1.target (passed.leads again f admitted spells P (Home before again after f admitted once)
      (Free before again after f admitted once takes) Any (λ xs ys less h. h) e o)

  walk_label : (l : ℕ) (c : Context) → Walk g l c → is_label g l ≡ true
  walk_label l c w = walked_label no_pointers g admitted.clean l c w

  -- the targets of arms
  arm_target : {l : ℕ} {d : Context} {t : ℕ} {body : Body} → SpellsArm again stay l d t body → target body ≡ t
  arm_target (spelled.out (spelled.leaves s)) = refl
  arm_target (spelled.out (spelled.comes goes taken (spelled.parts is head n m))) = refl
  arm_target (spelled.enters goes i s) = refl

  goes_label : (l t : ℕ) (d : Context) → Goes again stay l d t → is_label g t ≡ true
  goes_label l t d goes = branch_label l t goes.enters.counted.branch

  arm_label : {l : ℕ} {d : Context} {t : ℕ} {body : Body} → SpellsArm again stay l d t body → Within (branches_of_body l body) → is_label g t ≡ true
  arm_label (spelled.out (spelled.leaves {l = l} {exit = exit} s)) within = exit_label (l, exit) (within (l, exit) (inl refl))
  arm_label (spelled.out (spelled.comes {l = l} {h = h} {d = d} goes taken turn)) within = goes_label l h d goes
  arm_label (spelled.enters {l = l} {t = t} {d = d} goes i s) within = goes_label l t d goes

  -- a body that begins at a branch
  arm_whole : {l : ℕ} {d : Context} {t : ℕ} {body : Body} → SpellsArm again stay l d t body → (opened : List (List ℕ))
      → lines all opened body ≡ opened ++ branch_line t ∷ arm_lines all body
  arm_whole (spelled.out (spelled.leaves s)) opened = refl
  arm_whole (spelled.out (spelled.comes {h = h} goes taken (spelled.parts is head n m))) opened =
      append_assoc opened (branch_line h ∷ front_lines all (front_of again stay h)) _
  arm_whole (spelled.enters goes i s) opened = refl

  loop_arm : {h : ℕ} {c : Context} {entry : Entry} {body : Body} → SpellsLoop again stay h c entry body
      → arm_lines all body ≡ front_lines all (front_of again stay h) ++ behind_header all body
  loop_arm (spelled.parts is head n m) = refl

  loop_placed : {h : ℕ} {c : Context} {entry : Entry} {body : Body} → SpellsLoop again stay h c entry body → entry ≡ InPlace
      → lines all [] body ≡ behind_header all body
  loop_placed (spelled.parts {entry = Carried_in values} is head n m) e = absurd (cc (e))
  loop_placed (spelled.parts {entry = InPlace} is head n m) e = refl

  not_joined : {X : Type 0} (l t : ℕ) (c : Context) (front : List (List ℕ)) → construct g l ≡ None → Walk g l c → Goes again stay l c t → is_front g t ≡ false
      → text again l ≡ front ++ branch_line t ∷ [] → X
  not_joined {X} l t c front is w goes i e = kept.not_joined again f admitted spells (no_phis again f admitted spells same) P
      (Home before again after f admitted once) (homes before again after admitted once) (Free before again after f admitted once takes) Any
      (λ xs ys less h. h) promised {X = X} l t c front is w goes i e

  -- ---- single lines

  -- one that is no OpPhi and no label
  plain : (k l : ℕ) (words : List ℕ) → LineIs before again after f admitted once k words → IsPlain (opcode_in words)
      → In before again after f admitted once l k → AllByRecursion (Here l k) (used_in words)
      → Good before again after f admitted once k × In before again after f admitted once l (suc k)
  plain k l words x p inside each =
      let s = lines_at.stays_in before again after f admitted once k l words x p.1 inside in
      (lines_at.plain_good before again after f admitted once k l words x p.0 s.0 each, s.1)

  branch_good : (k l t : ℕ) → LineIs before again after f admitted once k (branch_line t) → In before again after f admitted once l k
      → is_label g t ≡ true → Good before again after f admitted once k
  branch_good k l t x inside h =
      (plain k l (branch_line t) x (refl, refl) inside (subst (AllByRecursion (Here l k)) (sym (used_branch t)) (label_known t l k h, tt))).0

  pair_here : (on : Bool) (l k a b : ℕ) → Here l k a → Here l k b → AllByRecursion (Here l k) (cond on (a ∷ b ∷ []) (b ∷ a ∷ []))
  pair_here true l k a b x y = (x, (y, tt))
  pair_here false l k a b x y = (y, (x, tt))

  split_good : (k l condition : ℕ) (on : Bool) (a b : ℕ) → LineIs before again after f admitted once k (split_line condition on a b)
      → In before again after f admitted once l k → Here l k condition
      → is_label g a ≡ true → is_label g b ≡ true → Good before again after f admitted once k
  split_good k l condition on a b x inside h la lb =
      (plain k l (split_line condition on a b) x (split_plain condition on a b) inside
      (subst (AllByRecursion (Here l k)) (sym (used_split condition on a b)) (h, pair_here on l k a b (label_known a l k la) (label_known b l k lb)))).0

  selection_good : (k l m control : ℕ) → LineIs before again after f admitted once k (selection_line m control)
      → In before again after f admitted once l k → is_label g m ≡ true → Good before again after f admitted once k × In before again after f admitted
      once l (suc k)
  selection_good k l m control x inside h =
      plain k l (selection_line m control) x (refl, refl) inside (subst (AllByRecursion (Here l k)) (sym (used_selection m control)) (label_known m l k h, tt))

  loop_good : (k l m n' control : ℕ) → LineIs before again after f admitted once k (loop_line m n' control)
      → In before again after f admitted once l k → is_label g m ≡ true → is_label g n' ≡ true
      → Good before again after f admitted once k × In before again after f admitted once l (suc k)
  loop_good k l m n' control x inside h i =
      plain k l (loop_line m n' control) x (refl, refl) inside
      (subst (AllByRecursion (Here l k)) (sym (used_loop m n' control)) (label_known m l k h, (label_known n' l k i, tt)))

  -- ---- fronts

  -- behind a front that begins with the k-th line
  pub record FrontGood (k m : ℕ) (lines : List (List ℕ)) : Type 0 where
    pub good : AllGood before again after f admitted once k lines
    pub inside : In before again after f admitted once m (k + length lines)
    pub parameters : (id : ℕ) → has (results (front_of again stay m)) id ≡ true → Earlier m (k + length lines) id

  sent_values : (m : ℕ) (b : Branching) → OneOf b (arriving m all) → (i : ℕ) → i < length (phis (text again m))
      → Here b.0 (length I) (Rattle.std.specs.Prelude.slice_index b.1.values i)
  sent_values m b o i less =
      let r = filter_from (λ (y : Branching). y.1.target == m) b all o in
      let branch = passed.leads again f admitted spells P (Home before again after f admitted once)
      (Free before again after f admitted once takes) Any (λ xs ys less h. h) b r.0 in
      let q = branching_block g b.0 b.1.target branch in
      let w = admitted.clean.walked b.0 q.0 q.1 in
      let there : IsBranching again stay b =
      all_at (IsBranching again stay) all (branches_of_blocks again stay f (record { admitted = admitted; spells = spells })).each b r.0 in
      let count : length (phis (text again m)) ≡ length b.1.values =
      ap (λ t. length (phis (text again t))) (sym (equal_true b.1.target m r.1)) ∙ lines_at.take_length there.block (phis
      (text again b.1.target)) b.1.values there.values in
      behind_here before again after f admitted once takes b.0 w.0 (Rattle.std.specs.Prelude.slice_index b.1.values i) w.1
      (λ p way. sent b r.0 (Rattle.std.specs.Prelude.slice_index b.1.values i) (inr (lines_at.indexed b.1.values i (omega arith))) p way tt)

  front_good : (k m : ℕ) → Lies before again after f admitted once k (front_lines all (front_of again stay m))
      → FrontGood k m (front_lines all (front_of again stay m))
  front_good k m lies =
      let here = arriving m all in
      let ps : List Parameter = map (parameter_of stay) (phis (text again m)) in
      let b = lines_at.begins_in before again after f admitted once k m lies.0 in
      let e : suc k + length (phi_lines 0 here ps) ≡ k + suc (length (phi_lines 0 here ps)) = omega arith in
      let count : length ps ≡ length (phis (text again m)) = lines_at.map_length (parameter_of stay) (phis (text again m)) in
      record {
        good = (
          lines_at.label_good before again after f admitted once k m lies.0,
          lines_at.phis_good before again after f admitted once (suc k) m 0 (length (phis (text again m))) here ps lies.1 (sent_values m) (omega arith),
        );
        inside = subst (λ j. In before again after f admitted once m j) e (lines_at.phis_in before again after f admitted once (suc k) m 0 here ps lies.1 b.1);
        parameters = λ id h. subst (λ j. Earlier m j id) e (lines_at.phis_define before again after f admitted once (suc k) m 0 here ps id lies.1 b.1
            (has_one (results (front_of again stay m)) id h));
      }

  -- what is available behind it
  front_so : (E : Ids) (m k : ℕ) → ((id : ℕ) → E id → Start m id) → ((id : ℕ) → P m id → Start m id)
      → ((id : ℕ) → has (results (front_of again stay m)) id ≡ true → Earlier m k id) → So (AtFront P E (front_of again stay m)) m k
  front_so E m k so kept ps id (inl (inl h)) = inl (so id h)
  front_so E m k so kept ps id (inl (inr h)) = inl (kept id h)
  front_so E m k so kept ps id (inr h) = inr (ps id h)

  -- ---- lines by lines

  step_so : (E : Ids) (l k : ℕ) (words : List ℕ) → LineIs before again after f admitted once k words → is_step (opcode_in words) ≡ true
      → In before again after f admitted once l k → So E l k → So (With E (defined_in words)) l (suc k)
  step_so E l k words x is inside so id (inl h) = so_on E l k so id h
  step_so E l k words x is inside so id (inr h) = inr (lines_at.step_defines before again after f admitted once k l words id x is inside h)

  headed_so : (E : Ids) (h k : ℕ) → ((id : ℕ) → E id → Start h id ⊎ Earlier h k id)
      → ((id : ℕ) → has (results (front_of again stay h)) id ≡ true → Earlier h k id) → So (With E (results (front_of again stay h))) h k
  headed_so E h k so ps id (inl a) = so id a
  headed_so E h k so ps id (inr r) = inr (ps id r)

  arms_label : {l m : ℕ} {c : Context} {labels : List ℕ} {arms : Arms} → SpellsArms again stay l m c labels arms → Within (branches_of_arms l arms) → (t : ℕ)
      → has labels t ≡ true → is_label g t ≡ true
  arms_label (spelled.last {t = u} a) within t h = elim (has_cons u [] t h) [
    | inl e ↦ subst (λ j. is_label g j ≡ true) e (arm_label a within)
    | inr none ↦ has_nothing t none
  ]
  arms_label (spelled.also {l = l} {t = u} {labels = labels} {arm = arm} {arms = arms} a others) within t h = elim (has_cons u labels t h) [
    | inl e ↦ subst (λ j. is_label g j ≡ true) e (arm_label a (λ x o. within x (one_left x (branches_of_body l arm) (branches_of_arms l arms) o)))
    | inr more ↦ arms_label others (λ x o. within x (one_right x (branches_of_body l arm) (branches_of_arms l arms) o)) t more
  ]

  arms_first : {l m : ℕ} {c : Context} {labels : List ℕ} {arms : Arms} → SpellsArms again stay l m c labels arms → has labels (first_target arms) ≡ true
  arms_first (spelled.last {t = u} {arm = arm} a) = has_head u [] (target arm) (sym (arm_target a))
  arms_first (spelled.also {t = u} {labels = labels} {arm = arm} a others) = has_head u labels (target arm) (sym (arm_target a))

  labels_each : (l k : ℕ) (xs : List ℕ) → ((t : ℕ) → has xs t ≡ true → is_label g t ≡ true) → AllByRecursion (Here l k) xs
  labels_each l k [] h = tt
  labels_each l k (x ∷ xs) h = (label_known x l k (h x (has_head x xs x refl)), labels_each l k xs (λ t e. h t (has_tail x xs t e)))

  switch_good : (k l selector default first : ℕ) (cases : List (ℕ × ℕ)) → LineIs before again after f admitted once k (instruction op.SWITCH
      (selector ∷ first ∷ pair_words cases)) → In before again after f admitted once l k
      → Here l k selector → is_label g first ≡ true → ((t : ℕ) → has (firsts (default ∷ seconds cases)) t ≡ true → is_label g t ≡ true)
      → Good before again after f admitted once k
  switch_good k l selector default first cases x inside h lf labels =
      (plain k l (instruction op.SWITCH (selector ∷ first ∷ pair_words cases)) x (switch_plain (selector ∷ first ∷ pair_words cases)) inside
      (used_switch (Here l k) selector first cases h (label_known first l k lf)
      (labels_each l k (seconds cases) (λ t e. labels t (firsts_has (default ∷ seconds cases) t (has_tail default (seconds cases) t e)))))).0

  mutual
    pub lined : {l : ℕ} {c : Context} {rest : List (List ℕ)} {body : Body} → Spells again stay l c rest body → (E : Ids) → Walk g l c
        → (front : List (List ℕ)) → text again l ≡ front ++ rest → (k : ℕ) → In before again after f admitted once l k → So E l k
        → Within (branches_of_body l body) → Fine P E l body
        → Lies before again after f admitted once k (lines all [] body) → AllGood before again after f admitted once k (lines all [] body)
    lined (spelled.steps {l = l} {c = c} {words = words} {rest = rest} {body = body} is d) E w front e k inside so within fine lies =
        let p = plain k l words lies.0 (step_plain (opcode_in words) is) inside (each_here E l k c w so (used_in words) fine.0) in (
          p.0,
          lined d (With E (defined_in words)) w (front ++ words ∷ []) (e ∙ sym (append_assoc front (words ∷ []) rest)) (suc k) p.1
              (step_so E l k words lies.0 is inside so) within fine.1 lies.1,
        )
    lined (spelled.finishes {l = l} {c = c} {words = words} is) E w front e k inside so within fine lies =
        ((plain k l words lies.0 (end_plain (opcode_in words) is) inside (each_here E l k c w so (used_in words) fine)).0, tt)
    lined (spelled.joined {l = l} {t = t} {c = c} is goes i d) E w front e k inside so within fine lies = not_joined l t c front is w goes i e
    lined (spelled.branches {l = l} {t = t} {c = c} {body = body} is b) E w front e k inside so within fine lies =
        let whole = arm_whole (spelled.out b) [] in
        let there = subst (Lies before again after f admitted once k) whole lies in
        subst (AllGood before again after f admitted once k) (sym whole) (
          branch_good k l t there.0 inside (arm_label (spelled.out b) within),
          lined_branch b c E w (sym (ap (λ j. behind j l t c) is)) (suc k) (so_end E l k so) within fine there.1,
        )
    lined (spelled.splits {l = l} {condition = condition} {other = other} {on = on} {c = c} {exit = exit} {body = body} is s a)
        E w front e k inside so within fine lies = (
          split_good k l condition on exit.target (target body) lies.0 inside (avail E l k c w so condition fine.0 k (omega arith))
              (exit_label (l, exit) (within (l, exit) (inl refl))) (ap (is_label g) (arm_target a) ∙ arm_label a (λ x o. within x (inr o))),
          lined_arm a c E w (sym (ap (λ j. behind j l other c) is)) (suc k) (so_end E l k so) (λ x o. within x (inr o)) fine.2 lies.1,
        )
    lined (spelled.selects {l = l} {merge = m} {control = control} {condition = condition} {yes = one} {no = other} {c = c} {first = first} {second = second}
        {rest = rest} is a b p) E w front e k inside so within fine lies =
        let bx : List Branching = branches_of_body l first in
        let by : List Branching = branches_of_body l second in
        let bz : List Branching = branches_of_body m rest in
        let within1 : Within bx = (λ x o. within x (one_left x bx (by ++ bz) o)) in
        let within2 : Within by = (λ x o. within x (one_right x bx (by ++ bz) (one_left x by bz o))) in
        let within3 : Within bz = (λ x o. within x (one_right x bx (by ++ bz) (one_right x by bz o))) in
        let v : Walk g m c = walk_merge again stay stay no_pointers admitted.clean spells.staying l m c (Some (ASelection m)) is w refl in
        let s : Steps g l c m c = merges_on no_pointers g admitted.clean l m c w (ap merge_of is) in
        let xs : List (List ℕ) = arm_lines all first in
        let ys : List (List ℕ) = arm_lines all second in
        let zs : List (List ℕ) = front_lines all (front_of again stay m) in
        let ts : List (List ℕ) = lines all [] rest in
        let sel = selection_good k l m control lies.0 inside (walk_label m c v) in
        let k2 : ℕ = suc (suc k) in
        let k3 : ℕ = k2 + length xs in
        let k4 : ℕ = k3 + length ys in
        let lies3 = lines_at.lies_right before again after f admitted once k2 xs (ys ++ (zs ++ ts)) lies.1.1 in
        let lies4 = lines_at.lies_right before again after f admitted once k3 ys (zs ++ ts) lies3 in
        let fg = front_good k4 m (lines_at.lies_left before again after f admitted once k4 zs ts lies4) in (
          sel.0,
          (
            split_good (suc k) l condition true (target first) (target second) lies.1.0 sel.1 (avail E l k c w so condition fine.0 (suc k) (omega arith))
                (ap (is_label g) (arm_target a) ∙ arm_label a within1) (ap (is_label g) (arm_target b) ∙ arm_label b within2),
            lines_at.good_append before again after f admitted once k2 xs (ys ++ (zs ++ ts))
                (lined_arm a c E w (sym (ap (λ j. behind j l one c) is)) k2 (so_end E l k so) within1 fine.1
                (lines_at.lies_left before again after f admitted once k2 xs (ys ++ (zs ++ ts)) lies.1.1))
                (lines_at.good_append before again after f admitted once k3 ys (zs ++ ts)
                (lined_arm b c E w (sym (ap (λ j. behind j l other c) is)) k3 (so_end E l k so) within2 fine.2
                (lines_at.lies_left before again after f admitted once k3 ys (zs ++ ts) lies3))
                (lines_at.good_append before again after f admitted once k4 zs ts fg.good
                (lined_part p (AtFront P E (front_of again stay m)) v (k4 + length zs) fg.inside
                (front_so E m (k4 + length zs) (kept.step_on again f admitted spells (no_phis again f admitted spells same) P
                (Home before again after f admitted once) (homes before again after admitted once)
                (Free before again after f admitted once takes) Any (λ xs ys less h. h) promised E l m c c w s (so_end E l k so))
                (kept.select_promise again f admitted spells (no_phis again f admitted spells same) P (Home before again after f admitted once)
                (homes before again after admitted once) (Free before again after f admitted once takes) Any
                (λ xs ys less h. h) promised bz is a b E w (so_end E l k so) within fine.1 fine.2 fine.3) fg.parameters)
                fg.parameters within3 fine.4 (lines_at.lies_right before again after f admitted once k4 zs ts lies4)))),
          ),
        )
    lined (spelled.switches {l = l} {merge = m} {control = control} {selector = selector} {default = default} {cases = cases} {c = c} {arms = arms}
        {rest = rest} is a p) E w front e k inside so within fine lies =
        let bx : List Branching = branches_of_arms l arms in
        let bz : List Branching = branches_of_body m rest in
        let within1 : Within bx = (λ x o. within x (one_left x bx bz o)) in
        let within3 : Within bz = (λ x o. within x (one_right x bx bz o)) in
        let v : Walk g m c = walk_merge again stay stay no_pointers admitted.clean spells.staying l m c (Some (ASwitch m)) is w refl in
        let s : Steps g l c m c = merges_on no_pointers g admitted.clean l m c w (ap merge_of is) in
        let xs : List (List ℕ) = lines_of_arms all arms in
        let zs : List (List ℕ) = front_lines all (front_of again stay m) in
        let ts : List (List ℕ) = lines all [] rest in
        let sel = selection_good k l m control lies.0 inside (walk_label m c v) in
        let k2 : ℕ = suc (suc k) in
        let k4 : ℕ = k2 + length xs in
        let lies4 = lines_at.lies_right before again after f admitted once k2 xs (zs ++ ts) lies.1.1 in
        let fg = front_good k4 m (lines_at.lies_left before again after f admitted once k4 zs ts lies4) in (
          sel.0,
          (
            switch_good (suc k) l selector default (first_target arms) cases lies.1.0 sel.1 (avail E l k c w so selector fine.0 (suc k) (omega arith))
                (arms_label a within1 (first_target arms) (arms_first a)) (arms_label a within1),
            lines_at.good_append before again after f admitted once k2 xs (zs ++ ts)
                (lined_arms a E w is k2 (so_end E l k so) within1 fine.1 (lines_at.lies_left before again after f admitted once k2 xs (zs ++ ts) lies.1.1))
                (lines_at.good_append before again after f admitted once k4 zs ts fg.good
                (lined_part p (AtFront P E (front_of again stay m)) v (k4 + length zs) fg.inside
                (front_so E m (k4 + length zs) (kept.step_on again f admitted spells (no_phis again f admitted spells same) P
                (Home before again after f admitted once) (homes before again after admitted once)
                (Free before again after f admitted once takes) Any (λ xs ys less h. h) promised E l m c c w s (so_end E l k so))
                (kept.switch_promise again f admitted spells (no_phis again f admitted spells same) P (Home before again after f admitted once)
                (homes before again after admitted once) (Free before again after f admitted once takes) Any (λ xs ys less h. h) promised is a E w
                (so_end E l k so) within1 fine.1 fine.2) fg.parameters)
                fg.parameters within3 fine.3 (lines_at.lies_right before again after f admitted once k4 zs ts lies4))),
          ),
        )

    pub lined_branch : {l : ℕ} {d : Context} {t : ℕ} {body : Body} → SpellsBranch again stay l d t body → (c : Context) (E : Ids) → Walk g l c
        → d ≡ behind (construct g l) l t c → (k : ℕ) → IsSo E l → Within (branches_of_body l body) → Fine P E l body
        → Lies before again after f admitted once k (arm_lines all body)
        → AllGood before again after f admitted once k (arm_lines all body)
    lined_branch (spelled.leaves s) c E w e k so within fine lies = tt
    lined_branch (spelled.comes {l = l} {h = h} {d = d} {values = values} {body = body} goes taken turn) c E w e k so within fine lies =
        let v = kept.enter again f admitted spells (no_phis again f admitted spells same) P (Home before again after f admitted once)
        (homes before again after admitted once) (Free before again after f admitted once takes) Any (λ xs ys less h. h) promised l h c d w e goes in
        let whole = loop_arm turn in
        let zs : List (List ℕ) = front_lines all (front_of again stay h) in
        let there = subst (Lies before again after f admitted once k) whole lies in
        let fg = front_good k h (lines_at.lies_left before again after f admitted once k zs (behind_header all body) there) in
        subst (AllGood before again after f admitted once k) (sym whole)
        (lines_at.good_append before again after f admitted once k zs (behind_header all body) fg.good
        (lined_loop turn l E v.0 (k + length zs) fg.inside
        (headed_so E h (k + length zs) (λ id a. inl (kept.step_on again f admitted spells (no_phis again f admitted spells same) P
        (Home before again after f admitted once) (homes before again after admitted once) (Free before again after f admitted once takes) Any
        (λ xs ys less h. h) promised E l h c d w v.1 so id a)) fg.parameters) within fine
        (lines_at.lies_right before again after f admitted once k zs (behind_header all body) there)))

    pub lined_arm : {l : ℕ} {d : Context} {t : ℕ} {body : Body} → SpellsArm again stay l d t body → (c : Context) (E : Ids) → Walk g l c
        → d ≡ behind (construct g l) l t c → (k : ℕ) → IsSo E l → Within (branches_of_body l body) → Fine P E l body
        → Lies before again after f admitted once k (arm_lines all body)
        → AllGood before again after f admitted once k (arm_lines all body)
    lined_arm (spelled.out b) c E w e k so within fine lies = lined_branch b c E w e k so within fine lies
    lined_arm (spelled.enters {l = l} {t = t} {d = d} {body = body} goes i s) c E w e k so within fine lies =
        let v = kept.enter again f admitted spells (no_phis again f admitted spells same) P (Home before again after f admitted once)
        (homes before again after admitted once) (Free before again after f admitted once takes) Any (λ xs ys less h. h) promised l t c d w e goes in
        let none = no_phis again f admitted spells same t i in
        let b = lines_at.begins_in before again after f admitted once k t lies.0 in (
          lines_at.label_good before again after f admitted once k t lies.0,
          subst (λ ps. AllGood before again after f admitted once (suc k) (lines all [] (copies ps body))) (sym none)
              (lined s E v.0 (phis (text again t)) (sym (in_front_and_behind (text again t))) (suc k) b.1
              (λ id h. inl (kept.step_on again f admitted spells (no_phis again f admitted spells same) P (Home before again after f admitted once)
              (homes before again after admitted once) (Free before again after f admitted once takes) Any
              (λ xs ys less h. h) promised E l t c d w v.1 so id h))
              (subst (λ ps. Within (branches_of_body t (copies ps body))) none within) (subst (λ ps. Fine P E t (copies ps body)) none fine)
              (subst (λ ps. Lies before again after f admitted once (suc k) (lines all [] (copies ps body))) none lies.1)),
        )

    pub lined_arms : {l m : ℕ} {c : Context} {labels : List ℕ} {arms : Arms} → SpellsArms again stay l m c labels arms → (E : Ids) → Walk g l c
        → construct g l ≡ Some (ASwitch m) → (k : ℕ) → IsSo E l → Within (branches_of_arms l arms) → ArmsFine P E l arms
        → Lies before again after f admitted once k (lines_of_arms all arms)
        → AllGood before again after f admitted once k (lines_of_arms all arms)
    lined_arms (spelled.last {l = l} {merge = m} {t = t} {c = c} {arm = arm} a) E w is k so within fine lies =
        lined_arm a c E w (sym (ap (λ j. behind j l t c) is)) k so within fine lies
    lined_arms (spelled.also {l = l} {merge = m} {t = t} {c = c} {labels = labels} {arm = arm} {arms = arms} a others) E w is k so within fine lies =
        let xs : List (List ℕ) = arm_lines all arm in
        let ys : List (List ℕ) = lines_of_arms all arms in
        lines_at.good_append before again after f admitted once k xs ys
        (lined_arm a c E w (sym (ap (λ j. behind j l t c) is)) k so (λ x o. within x (one_left x (branches_of_body l arm) (branches_of_arms l arms) o)) fine.0
        (lines_at.lies_left before again after f admitted once k xs ys lies))
        (lined_arms others E w is (k + length xs) so (λ x o. within x (one_right x (branches_of_body l arm) (branches_of_arms l arms) o)) fine.1
        (lines_at.lies_right before again after f admitted once k xs ys lies))

    pub lined_part : {l : ℕ} {c : Context} {body : Body} → SpellsPart again stay l c body → (E : Ids) → Walk g l c → (k : ℕ)
        → In before again after f admitted once l k → So E l k
        → ((id : ℕ) → has (results (front_of again stay l)) id ≡ true → Earlier l k id) → Within (branches_of_body l body) → Fine P E l body
        → Lies before again after f admitted once k (lines all [] body) → AllGood before again after f admitted once k (lines all [] body)
    lined_part (spelled.plain {l = l} bare d) E w k inside so ps within fine lies =
        lined d E w (phis (text again l)) (sym (in_front_and_behind (text again l))) k inside so within fine lies
    lined_part (spelled.placed {l = l} {body = body} turn) E w k inside so ps within fine lies =
        let whole = loop_placed turn refl in
        subst (AllGood before again after f admitted once k) (sym whole)
        (lined_loop turn l E w k inside (headed_so E l k so ps) within fine (subst (Lies before again after f admitted once k) whole lies))

    pub lined_loop : {h : ℕ} {c : Context} {entry : Entry} {body : Body} → SpellsLoop again stay h c entry body → (block : ℕ) (E : Ids) → Walk g h c
        → (k : ℕ) → In before again after f admitted once h k → So (With E (results (front_of again stay h))) h k
        → Within (branches_of_body block body) → Fine P E block body
        → Lies before again after f admitted once k (behind_header all body) → AllGood before again after f admitted once k (behind_header all body)
    lined_loop (spelled.parts {h = h} {merge = m} {next = n'} {control = control} {c = c} {entry = entry} {inner = inner} {continuing = continuing}
        {rest = rest}
        is head next merge) block E w k inside so within fine lies =
        let be : List Branching = Rattle.spv_bodies.specs.Listing.entering block h entry in
        let bx : List Branching = branches_of_body h inner in
        let by : List Branching = branches_of_body n' continuing in
        let bz : List Branching = branches_of_body m rest in
        let within0 : Within (bx ++ (by ++ bz)) = (λ x o. within x (one_right x be (bx ++ (by ++ bz)) o)) in
        let within1 : Within bx = (λ x o. within0 x (one_left x bx (by ++ bz) o)) in
        let within2 : Within by = (λ x o. within0 x (one_right x bx (by ++ bz) (one_left x by bz o))) in
        let within3 : Within bz = (λ x o. within0 x (one_right x bx (by ++ bz) (one_right x by bz o))) in
        let F : Ids = With E (results (front_of again stay h)) in
        let v : Walk g n' (InNext h m ∷ c) = walk_next again stay stay no_pointers admitted.clean spells.staying h m n' c is w in
        let s : Steps g h c n' (InNext h m ∷ c) =
        continues_on no_pointers g admitted.clean h n' c (InNext h m ∷ c) w (ap next_of is) (ap (λ j. next_context j h c) is) in
        let u : Walk g m c = walk_merge again stay stay no_pointers admitted.clean spells.staying h m c (Some (ALoop m n')) is w refl in
        let r : Steps g h c m c = merges_on no_pointers g admitted.clean h m c w (ap merge_of is) in
        let hs : List (List ℕ) = lines all (loop_line m n' control ∷ []) inner in
        let fn : List (List ℕ) = front_lines all (front_of again stay n') in
        let cs : List (List ℕ) = lines all [] continuing in
        let fm : List (List ℕ) = front_lines all (front_of again stay m) in
        let ts : List (List ℕ) = lines all [] rest in
        let k2 : ℕ = k + length hs in
        let k3 : ℕ = k2 + length fn in
        let k4 : ℕ = k3 + length cs in
        let k5 : ℕ = k4 + length fm in
        let lies2 = lines_at.lies_right before again after f admitted once k hs (fn ++ (cs ++ (fm ++ ts))) lies in
        let lies3 = lines_at.lies_right before again after f admitted once k2 fn (cs ++ (fm ++ ts)) lies2 in
        let lies4 = lines_at.lies_right before again after f admitted once k3 cs (fm ++ ts) lies3 in
        let gn = front_good k2 n' (lines_at.lies_left before again after f admitted once k2 fn (cs ++ (fm ++ ts)) lies2) in
        let gm = front_good k4 m (lines_at.lies_left before again after f admitted once k4 fm ts lies4) in
        let sof : IsSo F h = so_end F h k so in
        lines_at.good_append before again after f admitted once k hs (fn ++ (cs ++ (fm ++ ts)))
        (lined_head head c F w m n' control is refl refl (walk_label m c u) (walk_label n' (InNext h m ∷ c) v) k inside so within1 fine.1
        (phis (text again h)) (sym (in_front_and_behind (text again h))) (lines_at.lies_left before again after f admitted once k hs (fn ++ (cs ++
        (fm ++ ts))) lies))
        (lines_at.good_append before again after f admitted once k2 fn (cs ++ (fm ++ ts)) gn.good
        (lines_at.good_append before again after f admitted once k3 cs (fm ++ ts)
        (lined_part next (AtFront P F (front_of again stay n')) v k3 gn.inside
        (front_so F n' k3 (kept.step_on again f admitted spells (no_phis again f admitted spells same) P (Home before again after f admitted once)
        (homes before again after admitted once) (Free before again after f admitted once takes) Any (λ xs ys less h. h) promised F h n' c
        (InNext h m ∷ c) w s sof) (kept.next_promise again f admitted spells (no_phis again f admitted spells same) P
        (Home before again after f admitted once) (homes before again after admitted once) (Free before again after f admitted once takes) Any
        (λ xs ys less h. h) promised is head F w sof within1 fine.1 fine.3) gn.parameters)
        gn.parameters within2 fine.2 (lines_at.lies_left before again after f admitted once k3 cs (fm ++ ts) lies3))
        (lines_at.good_append before again after f admitted once k4 fm ts gm.good
        (lined_part merge (AtFront P F (front_of again stay m)) u k5 gm.inside
        (front_so F m k5 (kept.step_on again f admitted spells (no_phis again f admitted spells same) P (Home before again after f admitted once)
        (homes before again after admitted once) (Free before again after f admitted once takes) Any
        (λ xs ys less h. h) promised F h m c c w r sof) (kept.merge_promise again f admitted spells (no_phis again f admitted spells same) P
        (Home before again after f admitted once) (homes before again after admitted once) (Free before again after f admitted once takes) Any
        (λ xs ys less h. h) promised bz is head next F w sof within0 fine.1 fine.2 fine.3 fine.4) gm.parameters)
        gm.parameters within3 fine.5 (lines_at.lies_right before again after f admitted once k4 fm ts lies4)))))

    pub lined_head : {h : ℕ} {d : Context} {opening : List ℕ} {rest : List (List ℕ)} {body : Body} → SpellsHead again stay h d opening rest body
        → (c : Context) (E : Ids) → Walk g h c → (m n' control : ℕ) → construct g h ≡ Some (ALoop m n') → d ≡ InBody h m n' ∷ c
        → opening ≡ loop_line m n' control → is_label g m ≡ true → is_label g n' ≡ true → (k : ℕ) → In before again after f admitted once h k
        → So E h k → Within (branches_of_body h body)
        → Fine P E h body → (front : List (List ℕ)) → text again h ≡ front ++ rest → Lies before again after f admitted once k (lines all (opening ∷ []) body)
        → AllGood before again after f admitted once k (lines all (opening ∷ []) body)
    lined_head (spelled.begins {h = h} {d = d} {opening = opening} {words = words} {rest = rest} {body = body} step s)
        c E w m n' control is e o lm ln k inside so within fine front t lies =
        let p = plain k h words lies.0 (step_plain (opcode_in words) step) inside (each_here E h k c w so (used_in words) fine.0) in (
          p.0,
          lined_head s c (With E (defined_in words)) w m n' control is e o lm ln (suc k) p.1 (step_so E h k words lies.0 step inside so) within fine.1
              (front ++ words ∷ []) (t ∙ sym (append_assoc front (words ∷ []) rest)) lies.1,
        )
    lined_head (spelled.goes {h = h} {t = t} {d = d} {opening = opening} {body = body} a) c E w m n' control is e o lm ln k inside so within fine front
        tx lies =
        let whole = arm_whole a (opening ∷ []) in
        let there = subst (Lies before again after f admitted once k) whole lies in
        let first = loop_good k h m n' control (subst (LineIs before again after f admitted once k) o there.0) inside lm ln in
        subst (AllGood before again after f admitted once k) (sym whole) (
          first.0,
          (
            branch_good (suc k) h t there.1.0 first.1 (arm_label a within),
            lined_arm a c E w (e ∙ sym (ap (λ j. behind j h t c) is)) (suc (suc k)) (so_end E h k so) within fine there.1.1,
          ),
        )
    lined_head (spelled.parted {h = h} {condition = condition} {other = other} {on = on} {d = d} {opening = opening} {exit = exit} {body = body} s a)
        c E w m n' control is e o lm ln k inside so within fine front tx lies =
        let first = loop_good k h m n' control (subst (LineIs before again after f admitted once k) o lies.0) inside lm ln in (
          first.0,
          (
            split_good (suc k) h condition on exit.target (target body) lies.1.0 first.1 (avail E h k c w so condition fine.0 (suc k) (omega arith))
                (exit_label (h, exit) (within (h, exit) (inl refl))) (ap (is_label g) (arm_target a) ∙ arm_label a (λ x y. within x (inr y))),
            lined_arm a c E w (e ∙ sym (ap (λ j. behind j h other c) is)) (suc (suc k)) (so_end E h k so) (λ x y. within x (inr y)) fine.2 lies.1.1,
          ),
        )
