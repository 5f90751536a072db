-- A tree whose lines fit is typed: by recursion on the tree.
use Rattle.std.proofs.Common.{◌≡◌, inl, inr, ℕ, Bool, true, cond, ◌==◌, List, [], ◌∷◌, ◌++◌, Option, None, Some, refl, sym, subst, ◌∙◌, arith}
use Rattle.std.specs.List.{AllByRecursion}
use Rattle.spv_opcodes.specs.declared.op.TheConstants as op
use Rattle.spv_module.specs.First.{unless}
use Rattle.spv_module.specs.Instruction.{Instruction}
use Rattle.spv_blocks.specs.Blocks.{End}
use Rattle.spv_values.specs.Values.{is_bools, is_ints}
use Rattle.spv_walk.specs.Contexts.{Context, InArm, InBody, InNext, InSelection, is_exit}
use Rattle.spv_walk.proofs.Unique.{tells}
use Rattle.spv_arithmetic.specs.Operands.{operands_fit}
use Rattle.spv_arithmetic.specs.Results.{result_fits}
use Rattle.spv_usage.specs.declared.stages.Stage.{Stage}
use Rattle.spv_usage.specs.declared.stages.Stage.TheVariants.{Further}
use Rattle.spv_usage.specs.Stages.{stage_behind}
use Rattle.spv_bodies.specs.Bodies.{Exit, Front, Entry, ByBranch, InPlace, Body, Leaves, Finishes, Step, Enters, Splits, Selects, Switches as SwitchesTo, Loops, Arms, Last, Also, begins_at_branch, target}
use Rattle.spv_bodies.specs.Listing.{Branching, arm_lines, branch_line, branches, branches_of_arms, entering, entry_lines, first_target, front_lines, instruction, label_line, lines, lines_of_arms, loop_line, pair_words, selection_line, split_line}
use Rattle.spv_normal_trees.proofs.Texts.{opcode_spelled}
use Rattle.spv_tree.specs.Fronts.{IsFilled}
use Rattle.spv_tree.specs.Sound.{AreFormed, ArePlaced, ArmsArePlaced, IsEntry, IsFormed, opcode_in}
use Rattle.spv_trees.specs.Standing.{OneOf}
use Rattle.spv_trees.proofs.Members.{one_left, one_right}
use Rattle.spv_structured.specs.Structured.{ArmsFlow, Flows, first_end}
use Rattle.spv_typed_trees.specs.Typed.{ArmsTyped, Begins, Sends, StepFits, Typed, as_instruction}
use Rattle.spv_typed_trees.proofs.Fits.{Fits, both_nothing, results_at, unless_nothing}
use Rattle.spv_typed_trees.proofs.Fronts.{Furthers, IsGood, Knows, exit_known, front_good, in_arm, in_body, in_continuing, in_selection}
use Rattle.spv_typed_trees.proofs.Lines.{branch_operands, step_inner, switch_operands}
use Rattle.spv_typed_trees.proofs.Sent.{IsGiven}
use Rattle.spv_typed_trees.proofs.Shape.{IsInner}
use Rattle.spv_typed_trees.proofs.Walked.{further_on, stage_variable}

pub part_left : {A : Type 0} (P : A → Type 0) (xs ys : List A) → AllByRecursion P (xs ++ ys) → AllByRecursion P xs
part_left P [] ys h = tt
part_left P (x ∷ xs) ys h = (h.0, part_left P xs ys h.1)

pub part_right : {A : Type 0} (P : A → Type 0) (xs ys : List A) → AllByRecursion P (xs ++ ys) → AllByRecursion P ys
part_right P [] ys h = h
part_right P (x ∷ xs) ys h = part_right P xs ys h.1

-- behind what fits there the stage stays
pub further_stays : (w : List ℕ) → IsInner (opcode_in w) → stage_behind Further (as_instruction w) ≡ Further
further_stays w inner = elim (tells (opcode_in w == op.VARIABLE)) [
  | inl v ↦ stage_variable Further (as_instruction w) v
  | inr v ↦ further_on (as_instruction w) inner v
]

module _ (m : List Instruction) (t : ℕ) (next : Option ℕ) (all : List Branching) where
  abbrev Fs : List (List ℕ) → Type 0
  Fs = Furthers m t next

  abbrev Line : List ℕ → Type 0
  Line w = Fits m Further t next (as_instruction w)

  abbrev Good : Front → Type 0
  Good f = IsGood m t next all f

  left : (xs ys : List (List ℕ)) → Fs (xs ++ ys) → Fs xs
  left = part_left Line

  right : (xs ys : List (List ℕ)) → Fs (xs ++ ys) → Fs ys
  right = part_right Line

  pub step_back : (s : Stage) (w : List ℕ) → IsInner (opcode_in w) → Fits m s t next (as_instruction w) → StepFits m s w
  step_back s w inner f =
      let i = as_instruction w in
      record {
        arithmetic =
            both_nothing (unless (operands_fit m i) 501) (unless (result_fits m i) 502) (unless_nothing (operands_fit m i) 501 f.arithmetic)
            (unless_nothing (result_fits m i) 502 f.arithmetic_result);
        composites = f.composites;
        storage = f.storage;
        ordering = f.ordering;
        result = results_at m i None next inner.parameter ∙ f.results;
        call = f.call;
      }

  split_back : (condition : ℕ) (on : Bool) (a b : ℕ) → Line (split_line condition on a b) → is_bools m 1 condition ≡ true
  split_back condition on a b f =
      let w : List ℕ = split_line condition on a b in
      sym (branch_operands m (as_instruction w)
      (opcode_spelled op.BRANCH_CONDITIONAL (condition ∷ cond on (a ∷ b ∷ []) (b ∷ a ∷ [])) (omega arith))) ∙ f.arithmetic

  switch_back : (selector : ℕ) (ws : List ℕ) → Line (instruction op.SWITCH (selector ∷ ws)) → is_ints m 1 selector ≡ true
  switch_back selector ws f =
      let w : List ℕ = instruction op.SWITCH (selector ∷ ws) in
      sym (switch_operands m (as_instruction w) (opcode_spelled op.SWITCH (selector ∷ ws) (omega arith))) ∙ f.arithmetic

  abbrev Within : List Branching → Type 0
  Within xs = (b : Branching) → OneOf b xs → OneOf b all

  abbrev Scope : List Front → Type 0
  Scope fs = (f : Front) → OneOf f fs → IsGiven m all f

  scope_on : (x : Front) (fs : List Front) → IsGiven m all x → Scope fs → Scope (x ∷ fs)
  scope_on x fs g s f (inl e) = subst (λ z. IsGiven m all z) (sym e) g
  scope_on x fs g s f (inr o) = s f o

  none : (f : Front) → None ≡ Some f → Good f
  none f e = absurd (cc e)

  some : (x : Front) → Good x → (f : Front) → Some x ≡ Some f → Good f
  some x g f e = let same : x ≡ f = cc e in subst (λ z. Good z) same g

  sends_back : (c : Context) (scope : List Front) (e : End) (l : ℕ) (exit : Exit) → Knows c scope → Scope scope → OneOf (l, exit) all
      → is_exit c e exit.target ≡ true → Sends m scope exit
  sends_back c scope e l exit k s o h =
      let r = exit_known c scope k e exit.target h in
      record { front = r.front; in_scope = r.one; there = r.there; carries = s r.front r.one (l, exit) o r.there }

  begins_back : (l : ℕ) (header : Front) (entry : Entry) → IsGiven m all header → Within (entering l header.label entry) → Begins m header entry
  begins_back l header (ByBranch values) g w = g (l, record { target = header.label; values = values }) (w _ (inl refl)) refl
  begins_back l header InPlace g w = tt

  entry_good : (opened : List (List ℕ)) (header : Front) (entry : Entry) (front : Option Front) → IsEntry front header entry
      → ((f : Front) → front ≡ Some f → Good f) → IsFilled all header → Fs (entry_lines all opened header entry) → Good header
  entry_good opened header (ByBranch values) front placed part filled fs =
      front_good m t next all header filled (right opened (branch_line header.label ∷ front_lines all header) fs).1
  entry_good opened header InPlace front placed part filled fs = part header placed

  -- the lines of a loop behind the front of its header
  record LoopLines (hs ns cs ms rs : List (List ℕ)) : Type 0 where
    head : Fs hs
    next_front : Fs ns
    continuing : Fs cs
    merge_front : Fs ms
    rest : Fs rs

  loop_lines : (hs ns cs ms rs : List (List ℕ)) → Fs (hs ++ (ns ++ (cs ++ (ms ++ rs)))) → LoopLines hs ns cs ms rs
  loop_lines hs ns cs ms rs h =
      let a = right hs (ns ++ (cs ++ (ms ++ rs))) h in
      let b = right ns (cs ++ (ms ++ rs)) a in
      let c = right cs (ms ++ rs) b in
      record {
        head = left hs (ns ++ (cs ++ (ms ++ rs))) h;
        next_front = left ns (cs ++ (ms ++ rs)) a;
        continuing = left cs (ms ++ rs) b;
        merge_front = left ms rs c;
        rest = right ms rs c;
      }

  -- the branches of a loop
  record LoopBranches (es xs ys zs : List Branching) : Type 0 where
    enter : Within es
    inner : Within xs
    continuing : Within ys
    rest : Within zs

  loop_branches : (es xs ys zs : List Branching) → Within (es ++ (xs ++ (ys ++ zs))) → LoopBranches es xs ys zs
  loop_branches es xs ys zs w = record {
    enter = λ b o. w b (one_left b es (xs ++ (ys ++ zs)) o);
    inner = λ b o. w b (one_right b es (xs ++ (ys ++ zs)) (one_left b xs (ys ++ zs) o));
    continuing = λ b o. w b (one_right b es (xs ++ (ys ++ zs)) (one_right b xs (ys ++ zs) (one_left b ys zs o)));
    rest = λ b o. w b (one_right b es (xs ++ (ys ++ zs)) (one_right b xs (ys ++ zs) (one_right b ys zs o)));
  }

  mutual
    pub back : (body : Body) (l : ℕ) (scope : List Front) (c : Context) (e : End) (front : Option Front) → IsFormed all body → ArePlaced front body
        → Flows c l e body → Knows c scope → Scope scope → ((f : Front) → front ≡ Some f → Good f) → Within (branches l body)
        → (opened : List (List ℕ)) → Fs (lines all opened body) → Typed m t scope Further body
    back (Leaves exit) l scope c e front formed placed flows k s part w opened fs = sends_back c scope e l exit k s (w (l, exit) (inl refl)) flows
    back (Finishes words) l scope c e front formed placed flows k s part w opened fs = (right opened (words ∷ []) fs).0.returns
    back (Step words body) l scope c e front formed placed flows k s part w opened fs =
        let inner = step_inner (opcode_in words) formed.0 in (
          step_back Further words inner fs.0,
          subst (λ z. Typed m t scope z body) (sym (further_stays words inner)) (back body l scope c e None formed.1 placed flows k s none w opened fs.1),
        )
    back (Enters label body) l scope c e front formed placed flows k s part w opened fs =
        back body label scope c (first_end body) None formed placed flows k s none w []
        (right opened (branch_line label ∷ label_line label ∷ lines all [] body) fs).1.1
    back (Splits condition on exit body) l scope c e front formed placed flows k s part w opened fs =
        let here = right opened (split_line condition on exit.target (target body) ∷ arm_lines all body) fs in (
          split_back condition on exit.target (target body) here.0,
          sends_back c scope e l exit k s (w (l, exit) (inl refl)) flows.0,
          back_arm body l scope c e formed.0 formed.1 placed flows.2 k s (λ b o. w b (inr o)) here.1,
        )
    back (Selects control condition first second merge rest) l scope c e front formed placed flows k s part w opened fs =
        let xs : List (List ℕ) = arm_lines all first in
        let ys : List (List ℕ) = arm_lines all second in
        let zs : List (List ℕ) = front_lines all merge in
        let rs : List (List ℕ) = lines all [] rest in
        let here = right opened (selection_line merge.label control ∷ split_line condition true (target first) (target second) ∷ (xs ++ (ys ++
        (zs ++ rs)))) fs in
        let behind_first = right xs (ys ++ (zs ++ rs)) here.1.1 in
        let behind_second = right ys (zs ++ rs) behind_first in
        let good : Good merge = front_good m t next all merge formed.2 (left zs rs behind_second) in
        let known : Knows (InSelection merge.label ∷ c) (merge ∷ scope) = in_selection c scope merge k in
        let inside : Scope (merge ∷ scope) = scope_on merge scope good.given s in
        let bx : List Branching = branches l first in
        let by : List Branching = branches l second in
        let bz : List Branching = branches merge.label rest in (
          split_back condition true (target first) (target second) here.1.0,
          good.types,
          back_arm first l (merge ∷ scope) (InSelection merge.label ∷ c) e formed.0 formed.3 placed.0 flows.1 known inside
              (λ b o. w b (one_left b bx (by ++ bz) o)) (left xs (ys ++ (zs ++ rs)) here.1.1),
          back_arm second l (merge ∷ scope) (InSelection merge.label ∷ c) e formed.1 formed.4 placed.1 flows.2 known inside
              (λ b o. w b (one_right b bx (by ++ bz) (one_left b by bz o))) (left ys (zs ++ rs) behind_first),
          back rest merge.label scope c (first_end rest) (Some merge) formed.5 placed.2 flows.3 k s (some merge good)
              (λ b o. w b (one_right b bx (by ++ bz) (one_right b by bz o))) [] (right zs rs behind_second),
        )
    back (SwitchesTo control selector cases arms merge rest) l scope c e front formed placed flows k s part w opened fs =
        let xs : List (List ℕ) = lines_of_arms all arms in
        let zs : List (List ℕ) = front_lines all merge in
        let rs : List (List ℕ) = lines all [] rest in
        let here = right opened (selection_line merge.label control ∷ instruction op.SWITCH (selector ∷ first_target arms ∷ pair_words cases)
        ∷ (xs ++ (zs ++ rs))) fs in
        let behind = right xs (zs ++ rs) here.1.1 in
        let good : Good merge = front_good m t next all merge formed.1 (left zs rs behind) in
        let bx : List Branching = branches_of_arms l arms in
        let bz : List Branching = branches merge.label rest in (
          switch_back selector (first_target arms ∷ pair_words cases) here.1.0,
          good.types,
          back_arms arms l merge scope c e formed.2 placed.0 flows.1 k (scope_on merge scope good.given s)
              (λ b o. w b (one_left b bx bz o)) (left xs (zs ++ rs) here.1.1),
          back rest merge.label scope c (first_end rest) (Some merge) formed.3 placed.1 flows.2 k s (some merge good)
              (λ b o. w b (one_right b bx bz o)) [] (right zs rs behind),
        )
    back (Loops entry header control first next' continuing merge rest) l scope c e front formed placed flows k s part w opened fs =
        let hs : List (List ℕ) = lines all (loop_line merge.label next'.label control ∷ []) first in
        let ns : List (List ℕ) = front_lines all next' in
        let cs : List (List ℕ) = lines all [] continuing in
        let ms : List (List ℕ) = front_lines all merge in
        let rs : List (List ℕ) = lines all [] rest in
        let es : List (List ℕ) = entry_lines all opened header entry in
        let ls = loop_lines hs ns cs ms rs (right es (hs ++ (ns ++ (cs ++ (ms ++ rs)))) fs) in
        let bs = loop_branches (entering l header.label entry) (branches header.label first) (branches next'.label continuing) (branches merge.label rest) w in
        let good_header : Good header = entry_good opened header entry front placed.0 part formed.1 (left es (hs ++ (ns ++ (cs ++ (ms ++ rs)))) fs) in
        let good_next : Good next' = front_good m t next all next' formed.2 ls.next_front in
        let good_merge : Good merge = front_good m t next all merge formed.3 ls.merge_front in
        let merged : Scope (merge ∷ scope) = scope_on merge scope good_merge.given s in (
          begins_back l header entry good_header.given bs.enter,
          good_header.types,
          good_next.types,
          good_merge.types,
          back first header.label (next' ∷ merge ∷ scope) (InBody header.label merge.label next'.label ∷ c) (first_end first) None formed.4 placed.1 flows.1
              (in_body c scope header.label merge next') (scope_on next' (merge ∷ scope) good_next.given merged) none bs.inner
              (loop_line merge.label next'.label control ∷ []) ls.head,
          back continuing next'.label (header ∷ merge ∷ scope) (InNext header.label merge.label ∷ c) (first_end continuing)
              (Some next') formed.5 placed.2 flows.2
              (in_continuing c scope header merge) (scope_on header (merge ∷ scope) good_header.given merged) (some next' good_next) bs.continuing []
              ls.continuing,
          back rest merge.label scope c (first_end rest) (Some merge) formed.6 placed.3 flows.4 k s (some merge good_merge) bs.rest [] ls.rest,
        )

    pub back_arm : (body : Body) (l : ℕ) (scope : List Front) (c : Context) (e : End) → begins_at_branch body ≡ true → IsFormed all body
        → ArePlaced None body → Flows c l e body → Knows c scope → Scope scope → Within (branches l body) → Fs (arm_lines all body)
        → Typed m t scope Further body
    back_arm (Leaves exit) l scope c e begins formed placed flows k s w fs = sends_back c scope e l exit k s (w (l, exit) (inl refl)) flows
    back_arm (Finishes words) l scope c e begins formed placed flows k s w fs = absurd (cc begins)
    back_arm (Step words body) l scope c e begins formed placed flows k s w fs = absurd (cc begins)
    back_arm (Enters label body) l scope c e begins formed placed flows k s w fs =
        back body label scope c (first_end body) None formed placed flows k s none w [] fs.1
    back_arm (Splits condition on exit body) l scope c e begins formed placed flows k s w fs = absurd (cc begins)
    back_arm (Selects control condition first second merge rest) l scope c e begins formed placed flows k s w fs = absurd (cc begins)
    back_arm (SwitchesTo control selector cases arms merge rest) l scope c e begins formed placed flows k s w fs = absurd (cc begins)
    back_arm (Loops entry header control first next' continuing merge rest) l scope c e begins formed placed flows k s w fs =
        let hs : List (List ℕ) = lines all (loop_line merge.label next'.label control ∷ []) first in
        let ns : List (List ℕ) = front_lines all next' in
        let cs : List (List ℕ) = lines all [] continuing in
        let ms : List (List ℕ) = front_lines all merge in
        let rs : List (List ℕ) = lines all [] rest in
        let es : List (List ℕ) = front_lines all header in
        let ls = loop_lines hs ns cs ms rs (right es (hs ++ (ns ++ (cs ++ (ms ++ rs)))) fs) in
        let bs = loop_branches (entering l header.label entry) (branches header.label first) (branches next'.label continuing) (branches merge.label rest) w in
        let good_header : Good header = front_good m t next all header formed.1 (left es (hs ++ (ns ++ (cs ++ (ms ++ rs)))) fs) in
        let good_next : Good next' = front_good m t next all next' formed.2 ls.next_front in
        let good_merge : Good merge = front_good m t next all merge formed.3 ls.merge_front in
        let merged : Scope (merge ∷ scope) = scope_on merge scope good_merge.given s in (
          begins_back l header entry good_header.given bs.enter,
          good_header.types,
          good_next.types,
          good_merge.types,
          back first header.label (next' ∷ merge ∷ scope) (InBody header.label merge.label next'.label ∷ c) (first_end first) None formed.4 placed.1 flows.1
              (in_body c scope header.label merge next') (scope_on next' (merge ∷ scope) good_next.given merged) none bs.inner
              (loop_line merge.label next'.label control ∷ []) ls.head,
          back continuing next'.label (header ∷ merge ∷ scope) (InNext header.label merge.label ∷ c) (first_end continuing)
              (Some next') formed.5 placed.2 flows.2
              (in_continuing c scope header merge) (scope_on header (merge ∷ scope) good_header.given merged) (some next' good_next) bs.continuing []
              ls.continuing,
          back rest merge.label scope c (first_end rest) (Some merge) formed.6 placed.3 flows.4 k s (some merge good_merge) bs.rest [] ls.rest,
        )

    pub back_arms : (arms : Arms) (l : ℕ) (merge : Front) (scope : List Front) (c : Context) (e : End) → AreFormed all arms → ArmsArePlaced arms
        → ArmsFlow c l merge.label e arms → Knows c scope → Scope (merge ∷ scope) → Within (branches_of_arms l arms) → Fs (lines_of_arms all arms)
        → ArmsTyped m t (merge ∷ scope) arms
    back_arms (Last arm) l merge scope c e formed placed flows k s w fs =
        back_arm arm l (merge ∷ scope) (InArm l merge.label (target arm) ∷ c) e formed.0 formed.1 placed flows (in_arm c scope l (target arm) merge k) s w fs
    back_arms (Also arm arms) l merge scope c e formed placed flows k s w fs =
        let xs : List (List ℕ) = arm_lines all arm in
        let ys : List (List ℕ) = lines_of_arms all arms in
        let bx : List Branching = branches l arm in
        let by : List Branching = branches_of_arms l arms in (
          back_arm arm l (merge ∷ scope) (InArm l merge.label (target arm) ∷ c) e formed.0 formed.1 placed.0 flows.0 (in_arm c scope l (target arm) merge k) s
              (λ b o. w b (one_left b bx by o)) (left xs ys fs),
          back_arms arms l merge scope c e formed.2 placed.1 flows.1 k s (λ b o. w b (one_right b bx by o)) (right xs ys fs),
        )
