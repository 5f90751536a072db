-- What the lines of a block spell stands behind its label: by induction on how they spell it, on the way of the walk.
use Rattle.std.proofs.Common.{◌≡◌, ℕ, Bool, true, false, cond, ◌==◌, ◌||◌, List, [], ◌∷◌, ◌++◌, map, Option, Some, refl, sym, ap, subst, ◌∙◌, append_assoc}
use Rattle.std.specs.Prelude.{slice_index, filter, not}
use Rattle.spv_opcodes.specs.declared.op.TheConstants as op
use Rattle.spv_module.specs.Instruction.{Instruction}
use Rattle.spv_meaning.specs.Statements as says
use Rattle.spv_meaning.specs.Statements.{Statement, said, statements_in, words_of}
use Rattle.spv_machine.specs.Steps as steps
use Rattle.spv_blocks.specs.Blocks.{Code, Construct, ASelection, ASwitch, ALoop, construct, merge_of, next_of, is_label, has, seconds}
use Rattle.spv_blocks.specs.Cutting.{blocks_of}
use Rattle.spv_walk.specs.Contexts.{Context, InSelection, InArm, InBody, InNext, behind, next_context, is_exit}
use Rattle.spv_walk.specs.Walk.{Walk, end_of}
use Rattle.spv_walk.proofs.Steps.{step_walked}
use Rattle.spv_walk.proofs.Unique.{equal_true, equal_false, true_equal, false_equal, left_holds, right_holds, role_label, goes_branches}
use Rattle.spv_bodies.specs.Bodies.{Exit, Front, Entry, ByBranch, InPlace, Body, Finishes, Step, Enters, Splits, Selects, Switches, Loops, Arms, Function, target}
use Rattle.spv_bodies.specs.Listing.{instruction, split_line, loop_line, pair_words, first_target}
use Rattle.spv_normal.specs.Lines as lines
use Rattle.spv_normal.specs.Order.{is_front}
use Rattle.spv_tree.specs.Sound.{is_step, is_end, opcode_in}
use Rattle.spv_spelling.specs.Text as spelled
use Rattle.spv_spelling.specs.Text.{is_phi, text, phis, phi_pairs, Take, front_of, parameter_of, firsts}
use Rattle.spv_spelling.specs.Clean.{IsClean, no_pointers}
use Rattle.spv_spelling.specs.Spelling as spells
use Rattle.spv_spelling.specs.Spelling.{SpellsExit, Goes, Spells, SpellsBranch, SpellsArm, SpellsArms, SpellsPart, SpellsLoop, SpellsHead}
use Rattle.spv_spelling.proofs.Settled.{walked_runs}
use Rattle.spv_spelling.proofs.Onward.{goes_on, merges_on, continues_on}
use Rattle.spv_trees.specs.Standing as standing
use Rattle.spv_trees.specs.Standing.{StandsExit, StandsFront, IsCopied, Apart, copies, Covers, has_arm, Stands, StandsAt, StandsArms, StandsLoop, OneOf, CallsKnown, IsClosed, AreClosed}
use Rattle.spv_trees.proofs.Closing.{known_front, known_rest}
use Rattle.spv_trees.proofs.Spelling.{said_front, switch_said, split_said}
use Rattle.spv_standing.specs.Laws.{results, first_values, ApartInBlocks}
use Rattle.spv_standing.proofs.Saying.{step_leads, end_says}
use Rattle.spv_standing.proofs.Rounds.{round, exit_round, settles, merge_role, next_role, behind_round, one_predecessor, branch_block, goes_label}
use Rattle.spv_standing.proofs.Lines.{split_at}
use Rattle.spv_standing.proofs.Fronts.{FrontSays, front_says}
use Rattle.spv_standing.proofs.Fits.{NamesOnce, phis_fit, one_parent, takes_first, all_mapped}
use Rattle.spv_standing.proofs.Places.{ArePlaced}

-- ---- numbers where they stand first

keeps_by : (test : ℕ → Bool) (z x : ℕ) (b d : Bool) (kept : List ℕ) (had : Bool) → test z ≡ b → (z == x) ≡ d → test x ≡ true → (had ≡ true → has kept x ≡ true)
    → (d || had) ≡ true → has (cond b (z ∷ kept) kept) x ≡ true
keeps_by test z x true true kept had e g p later h = left_holds (z == x) (has kept x) g
keeps_by test z x true false kept had e g p later h = right_holds (z == x) (has kept x) (later h)
keeps_by test z x false true kept had e g p later h = absurd (cc (e, ap test (equal_true z x g), p))
keeps_by test z x false false kept had e g p later h = later h

keeps : (test : ℕ → Bool) (zs : List ℕ) (x : ℕ) → test x ≡ true → has zs x ≡ true → has (filter test zs) x ≡ true
keeps test [] x p h = h
keeps test (z ∷ zs) x p h = keeps_by test z x (test z) (z == x) (filter test zs) (has zs x) refl refl p (keeps test zs x p) h

firsts_by : (y x : ℕ) (ys : List ℕ) (d : Bool) → (y == x) ≡ d → (has ys x ≡ true → has (firsts ys) x ≡ true) → (d || has ys x) ≡ true
    → has (firsts (y ∷ ys)) x ≡ true
firsts_by y x ys true e later h = left_holds (y == x) (has (filter (λ z. not (z == y)) (firsts ys)) x) e
firsts_by y x ys false e later h =
    right_holds (y == x) (has (filter (λ z. not (z == y)) (firsts ys)) x)
    (keeps (λ z. not (z == y)) (firsts ys) x (ap not (false_equal x y (λ g. equal_false y x e (sym g)))) (later h))

firsts_have : (xs : List ℕ) (x : ℕ) → has xs x ≡ true → has (firsts xs) x ≡ true
firsts_have [] x h = h
firsts_have (y ∷ ys) x h = firsts_by y x ys (y == x) refl (firsts_have ys x) h

-- instructions without marks in which no rule is broken, and where they stand in the module
module _ (insts : List Instruction) (stays : ℕ → ℕ) (clean : IsClean no_pointers (blocks_of insts)) (apart : ApartInBlocks insts)
    (all : List Statement) (after : ℕ → List Statement) (placed : ArePlaced all insts after)
    (functions : ℕ → Option Function) (known : (l : ℕ) → is_label (blocks_of insts) l ≡ true → CallsKnown functions (statements_in (text insts l))) where
  abbrev f : Code
  f = blocks_of insts

  -- what stands behind a label, and behind the OpPhi there
  abbrev there : ℕ → List Statement
  there t = statements_in (text insts t) ++ after t

  abbrev behind_all : ℕ → List Statement
  behind_all t = statements_in (spelled.behind_phis (text insts t)) ++ after t

  abbrev sources : ℕ → List ℕ
  sources t = first_values (phis (text insts t))

  front : (t : ℕ) → is_label f t ≡ true → FrontSays (phis (text insts t)) (there t) (behind_all t)
  front t h = front_says (text insts t) (after t) (placed.plain t h)

  -- ---- exits, fronts and copies

  exit_stands : (l : ℕ) (exit : Exit) → is_label f exit.target ≡ true → Take l (phis (text insts exit.target)) exit.values → StandsExit all l exit
  exit_stands l exit h take = record { there = there exit.target; place = placed.place exit.target h; values = (front exit.target h).values l exit.values take }

  ids_again : (ps : List (List ℕ)) → results ps ≡ map (λ p. p.result_id) (map (parameter_of stays) ps)
  ids_again [] = refl
  ids_again (words ∷ ps) = ap (λ rs. slice_index words 2 ∷ rs) (ids_again ps)

  front_stands : (t : ℕ) → is_label f t ≡ true → StandsFront all (front_of insts stays t) (there t)
  front_stands t h = record { place = placed.place t h; parameters = (front t h).results ∙ ids_again (phis (text insts t)) }

  -- ---- calls

  known_by : (words : List ℕ) (ls : List (List ℕ)) (b : Bool)
      → (CallsKnown functions (statements_in ls) → CallsKnown functions (statements_in (spelled.behind_phis ls)))
      → CallsKnown functions (said words (statements_in ls)) → CallsKnown functions (statements_in (cond b (spelled.behind_phis ls) (words ∷ ls)))
  unfolding statements_in
  known_by words ls true later h = later (known_rest functions (said words []) (statements_in ls)
      (subst (CallsKnown functions) (said_front words (statements_in ls)) h))
  known_by words ls false later h = h

  known_behind : (ls : List (List ℕ)) → CallsKnown functions (statements_in ls) → CallsKnown functions (statements_in (spelled.behind_phis ls))
  unfolding statements_in
  known_behind [] h = h
  known_behind (words ∷ ls) h = known_by words ls (is_phi words) (known_behind ls) h

  known_text : (t : ℕ) → is_label f t ≡ true → CallsKnown functions (statements_in (spelled.behind_phis (text insts t)))
  known_text t h = known_behind (text insts t) (known t h)

  copies_closed : (labels : List ℕ) (ps : List (List ℕ)) (body : Body) → IsClosed functions labels body → IsClosed functions labels (spelled.copies ps body)
  copies_closed labels [] body h = h
  copies_closed labels (words ∷ ps) body h = (tt, copies_closed labels ps body h)

  -- ---- what holds of a part: it stands, and its exits and calls lead somewhere

  pub record Held (l : ℕ) (labels : List ℕ) (here : List Statement) (body : Body) : Type 0 where
    pub stands : Stands all l here body
    pub closed : IsClosed functions labels body

  record HeldAt (l t : ℕ) (labels : List ℕ) (body : Body) : Type 0 where
    stands : StandsAt all l t body
    closed : IsClosed functions labels body

  record HeldArms (l : ℕ) (labels : List ℕ) (arms : Arms) : Type 0 where
    stands : StandsArms all l arms
    closed : AreClosed functions labels arms

  record HeldExit (l : ℕ) (labels : List ℕ) (exit : Exit) : Type 0 where
    stands : StandsExit all l exit
    one : OneOf exit.target labels

  record HeldLoop (h : ℕ) (labels : List ℕ) (entry : Entry) (body : Body) : Type 0 where
    by_branch : (l : ℕ) (ids : List ℕ) → entry ≡ ByBranch ids → StandsExit all l (record { target = h; values = ids }) → StandsAt all l h body
    in_place : entry ≡ InPlace → Stands all h (steps.behind_phis (there h)) body
    closed : IsClosed functions labels body

  behind_held : (t : ℕ) (labels : List ℕ) (body : Body) → is_label f t ≡ true → Held t labels (behind_all t) body
      → Held t labels (steps.behind_phis (there t)) body
  behind_held t labels body h held = record { stands = subst (λ z. Stands all t z body) (sym (front t h).behind) held.stands; closed = held.closed }

  -- ---- single lines

  calls_behind : (words : List ℕ) (rest : List (List ℕ)) → CallsKnown functions (said words (statements_in rest)) → CallsKnown functions (statements_in rest)
  calls_behind words rest h = known_rest functions (said words []) (statements_in rest) (subst (CallsKnown functions) (said_front words (statements_in rest)) h)

  step_held : (l : ℕ) (labels words : List ℕ) (rest : List (List ℕ)) (body : Body) (tail : List Statement) → is_step (opcode_in words) ≡ true
      → CallsKnown functions (said words (statements_in rest)) → Held l labels (statements_in rest ++ tail) body
      → Held l labels (said words (statements_in rest) ++ tail) (Step words body)
  step_held l labels words rest body tail e calls h = record {
    stands =
        subst (λ z. Stands all l z (Step words body)) (sym (ap (λ z. z ++ tail) (said_front words (statements_in rest))
        ∙ append_assoc (said words []) (statements_in rest) tail))
        (standing.steps {after = statements_in rest ++ tail} {words = words} {body = body} (step_leads words e) h.stands);
    closed = (
      known_front functions (said words []) (statements_in rest)
          (subst (CallsKnown functions) (said_front words (statements_in rest)) calls),
      h.closed,
    );
  }

  finish_held : (l : ℕ) (labels words : List ℕ) (tail : List Statement) → is_end (opcode_in words) ≡ true
      → Held l labels (said words [] ++ tail) (Finishes words)
  finish_held l labels words tail e =
      let r = end_says words e in
      record {
        stands = subst (λ z. Stands all l (z ++ tail) (Finishes words)) (sym r.same)
            (standing.finishes {statement = r.statement} {after = tail} {words = words} r.same r.finish);
        closed = tt;
      }

  split_held : (l : ℕ) (labels : List ℕ) (condition other : ℕ) (on : Bool) (exit : Exit) (body : Body) (tail : List Statement) → HeldExit l labels exit
      → HeldAt l other labels body
      → Held l labels (said (split_line condition on exit.target other) [] ++ tail) (Splits condition on exit body)
  split_held l labels condition other on exit body tail e h = record {
    stands =
        subst (λ z. Stands all l (z ++ tail) (Splits condition on exit body)) (sym (split_said condition on exit.target other []))
        (standing.splits {condition = condition} {other = other} {on = on} {after = tail} {exit = exit} {body = body} e.stands h.stands);
    closed = (e.one, h.closed);
  }

  select_held : (l : ℕ) (labels : List ℕ) (merge control condition one other : ℕ) (first second rest : Body) (tail : List Statement) → is_label f merge ≡ true
      → HeldAt l one (merge ∷ labels) first → HeldAt l other (merge ∷ labels) second → Held merge labels (steps.behind_phis (there merge)) rest
      → Held l labels (says.Merge ∷ says.BranchConditional condition one other ∷ tail)
      (Selects control condition first second (front_of insts stays merge) rest)
  select_held l labels merge control condition one other first second rest tail label h1 h2 h3 = record {
    stands =
        standing.selects {control = control} {condition = condition} {yes_label = one} {no_label = other} {after = tail} {there = there merge}
        {first = first} {second = second} {rest = rest} {merge = front_of insts stays merge}
        h1.stands h2.stands (front_stands merge label) h3.stands;
    closed = (h1.closed, h2.closed, h3.closed);
  }

  switch_held : (l : ℕ) (labels : List ℕ) (merge control selector default : ℕ) (cases : List (ℕ × ℕ)) (arms : Arms) (rest : Body) (tail : List Statement)
      → is_label f merge ≡ true
      → HeldArms l (merge ∷ labels) arms → Covers arms cases → first_target arms ≡ default → Held merge labels (steps.behind_phis (there merge)) rest
      → Held l labels (says.Merge ∷ (said (instruction op.SWITCH (selector ∷ default ∷ pair_words cases)) [] ++ tail))
      (Switches control selector cases arms (front_of insts stays merge) rest)
  switch_held l labels merge control selector default cases arms rest tail label h1 covers e h2 = record {
    stands =
        subst (λ z. Stands all l (says.Merge ∷ (z ++ tail)) (Switches control selector cases arms (front_of insts stays merge) rest))
        (ap (λ x. says.Switch selector x cases ∷ []) e ∙ sym (switch_said selector default cases []))
        (standing.switches {control = control} {selector = selector} {cases = cases} {after = tail} {there = there merge} {arms = arms} {rest = rest}
        {merge = front_of insts stays merge}
        h1.stands covers (front_stands merge label) h2.stands);
    closed = (h1.closed, h2.closed);
  }

  -- ---- loops

  loop_by_branch : (h : ℕ) (values : List ℕ) (control : ℕ) (inner : Body) (next : Front) (continuing : Body) (merge : Front) (rest : Body)
      → StandsLoop all (front_of insts stays h) (steps.behind_phis (there h)) inner next continuing merge rest → (entry : Entry) → entry ≡ ByBranch values
      → (l : ℕ)
      → StandsExit all l (record { target = h; values = values })
      → StandsAt all l h (Loops entry (front_of insts stays h) control inner next continuing merge rest)
  loop_by_branch h values control inner next continuing merge rest loop entry e l exit =
      subst (λ x. StandsAt all l h (Loops x (front_of insts stays h) control inner next continuing merge rest)) (sym e)
      (standing.loops {control = control} {ids = values} {here = steps.behind_phis (there h)} {header = front_of insts stays h} {next = next} {merge = merge}
      {inner = inner} {continuing = continuing} {rest = rest} exit loop)

  loop_in_place : (h : ℕ) (control : ℕ) (inner : Body) (next : Front) (continuing : Body) (merge : Front) (rest : Body)
      → StandsLoop all (front_of insts stays h) (steps.behind_phis (there h)) inner next continuing merge rest → (entry : Entry) → entry ≡ InPlace
      → Stands all h (steps.behind_phis (there h)) (Loops entry (front_of insts stays h) control inner next continuing merge rest)
  loop_in_place h control inner next continuing merge rest loop entry e =
      subst (λ x. Stands all h (steps.behind_phis (there h)) (Loops x (front_of insts stays h) control inner next continuing merge rest)) (sym e)
      (standing.placed {control = control} {here = steps.behind_phis (there h)} {header = front_of insts stays h} {next = next} {merge = merge}
      {inner = inner} {continuing = continuing} {rest = rest} loop)

  loop_of_parts : (h next merge control : ℕ) (labels : List ℕ) (entry : Entry) (inner continuing rest : Body) → is_label f h ≡ true → is_label f next ≡ true
      → is_label f merge ≡ true
      → Held h (next ∷ h ∷ merge ∷ labels) (behind_all h) inner → Held next (h ∷ merge ∷ labels) (steps.behind_phis (there next)) continuing
      → Held merge labels (steps.behind_phis (there merge)) rest
      → HeldLoop h labels entry (Loops entry (front_of insts stays h) control inner (front_of insts stays next) continuing (front_of insts stays merge) rest)
  loop_of_parts h next merge control labels entry inner continuing rest label1 label2 label3 h1 h2 h3 =
      let loop : StandsLoop all (front_of insts stays h) (steps.behind_phis (there h)) inner (front_of insts stays next) continuing
      (front_of insts stays merge) rest =
      standing.parts {behind_header = there h} {behind_next = there next} {there = there merge} {header = front_of insts stays h}
      {next = front_of insts stays next} {merge = front_of insts stays merge} {inner = inner} {continuing = continuing} {rest = rest}
      (front_stands h label1) (behind_held h (next ∷ h ∷ merge ∷ labels) inner label1 h1).stands (front_stands next label2) h2.stands
      (front_stands merge label3) h3.stands in
      record {
        by_branch = λ l ids e exit. loop_by_branch h ids control inner (front_of insts stays next) continuing
            (front_of insts stays merge) rest loop entry e l exit;
        in_place = λ e. loop_in_place h control inner (front_of insts stays next) continuing (front_of insts stays merge) rest loop entry e;
        closed = (h1.closed, h2.closed, h3.closed);
      }

  -- ---- branches

  module _ (l t : ℕ) (c d : Context) (w : Walk f l c) (same : behind (construct f l) l t c ≡ d) where
    exit_label : is_exit d (end_of f l) t ≡ true → is_label f t ≡ true
    exit_label h = (behind_round f clean l t c w t (subst (λ x. OneOf t (round x)) (sym same) (exit_round d (end_of f l) t h))).label

    module _ (goes : Goes insts stays l d t) where
      target_label : is_label f t ≡ true
      target_label = goes_label f l t goes.enters.free

      target_walked : Walk f t d
      target_walked = step_walked f l t c d w (goes_on insts stays l t c d w (walked_runs no_pointers f clean l c w) same goes)

      module _ (no_front : is_front f t ≡ false) where
        names_one : (words : List ℕ) → NamesOnce f t words → seconds (phi_pairs words) ≡ l ∷ []
        names_one words h =
            let go = goes_branches f l t goes.enters.free in
            let b = branch_block f l t go in
            one_parent f l t b.block_of b.found go (λ q. one_predecessor f clean l t q goes.enters no_front) (seconds (phi_pairs words)) h

        takes_from : Take l (phis (text insts t)) (sources t)
        takes_from =
            let s = split_at insts t target_label in
            let faults = (settles f clean t d target_walked (record { block_of = _; found = s.first })).phis in
            takes_first l (phis (text insts t)) (all_mapped names_one (phis (text insts t)) (phis_fit no_pointers f t (lines.behind_label insts t) faults))

        is_copied : IsCopied all l t (there t) (sources t)
        is_copied = record {
          place = placed.place t target_label;
          values = (front t target_label).values l (sources t) takes_from;
          apart = subst (λ rs. Apart rs (sources t)) (sym (front t target_label).results) (apart.apart t target_label no_front);
        }

        copies_again : (body : Body) → copies (there t) (sources t) body ≡ spelled.copies (phis (text insts t)) body
        copies_again body = (front t target_label).copied body

        joined_held : (labels : List ℕ) (body : Body) (tail : List Statement) → Held t labels (behind_all t) body
            → Held l labels (says.Branch t ∷ tail) (spelled.copies (phis (text insts t)) body)
        joined_held labels body tail h = record {
          stands =
              subst (λ z. Stands all l (says.Branch t ∷ tail) z) (copies_again body)
              (standing.joined {label = t} {after = tail} {there = there t} {sources = sources t} {body = body} is_copied
              (behind_held t labels body target_label h).stands);
          closed = copies_closed labels (phis (text insts t)) body h.closed;
        }

        enters_held : (labels : List ℕ) (body : Body) → Held t labels (behind_all t) body
            → HeldAt l t labels (Enters t (spelled.copies (phis (text insts t)) body))
        enters_held labels body h = record {
          stands =
              subst (λ z. StandsAt all l t (Enters t z)) (copies_again body)
              (standing.enters {label = t} {there = there t} {sources = sources t} {body = body} is_copied (behind_held t labels body target_label h).stands);
          closed = copies_closed labels (phis (text insts t)) body h.closed;
        }

  exit_held : (l : ℕ) (c d : Context) (exit : Exit) → Walk f l c → behind (construct f l) l exit.target c ≡ d → SpellsExit insts stays l d exit
      → HeldExit l (round d) exit
  exit_held l c d exit w same e = record {
    stands = exit_stands l exit (exit_label l exit.target c d w same e.leaves) e.values;
    one = exit_round d (end_of f l) exit.target e.leaves;
  }

  -- ---- the arms of a switch

  loop_target : (h : ℕ) (c : Context) (entry : Entry) (body : Body) → SpellsLoop insts stays h c entry body → target body ≡ h
  loop_target h c entry body (spells.parts e head next merge) = refl

  branch_target : (l : ℕ) (d : Context) (t : ℕ) (body : Body) → SpellsBranch insts stays l d t body → target body ≡ t
  branch_target l d t body (spells.leaves e) = refl
  branch_target l d t body (spells.comes {values = values} {body = inner} goes take loop) = loop_target t d (ByBranch values) inner loop

  arm_target : (l : ℕ) (d : Context) (t : ℕ) (body : Body) → SpellsArm insts stays l d t body → target body ≡ t
  arm_target l d t body (spells.out b) = branch_target l d t body b
  arm_target l d t body (spells.enters goes no_front s) = refl

  arms_have : (l merge : ℕ) (c : Context) (labels : List ℕ) (arms : Arms) → SpellsArms insts stays l merge c labels arms → (x : ℕ) → has labels x ≡ true
      → has_arm arms x ≡ true
  arms_have l merge c labels arms (spells.last {t = t} {arm = arm} a) x h = ap (λ y. y == x) (arm_target l (InArm l merge t ∷ c) t arm a) ∙ alone (t == x) h
    where
      alone : (b : Bool) → (b || false) ≡ true → b ≡ true
      alone true h = refl
      alone false h = h
  arms_have l merge c labels arms (spells.also {t = t} {labels = others} {arm = arm} {arms = rest} a s) x h =
      ap (λ y. cond (y == x) true (has_arm rest x)) (arm_target l (InArm l merge t ∷ c) t arm a)
      ∙ either (t == x) (has others x) (has_arm rest x) (arms_have l merge c others rest s x) h
    where
      either : (a b d : Bool) → (b ≡ true → d ≡ true) → (a || b) ≡ true → cond a true d ≡ true
      either true b d g h = refl
      either false b d g h = g h

  arms_first : (l merge : ℕ) (c : Context) (labels : List ℕ) (arms : Arms) → SpellsArms insts stays l merge c labels arms
      → first_target arms ≡ slice_index labels 0
  arms_first l merge c labels arms (spells.last {t = t} {arm = arm} a) = arm_target l (InArm l merge t ∷ c) t arm a
  arms_first l merge c labels arms (spells.also {t = t} {arm = arm} a s) = arm_target l (InArm l merge t ∷ c) t arm a

  covers_by : (arms : Arms) (cases : List (ℕ × ℕ)) → ((x : ℕ) → has (seconds cases) x ≡ true → has_arm arms x ≡ true) → Covers arms cases
  covers_by arms [] h = tt
  covers_by arms (case ∷ cases) h = (
    h case.1 (left_holds (case.1 == case.1) (has (seconds cases) case.1) (true_equal case.1 case.1 refl)),
    covers_by arms cases
        (λ x g. h x (right_holds (case.1 == x) (has (seconds cases) x) g)),
  )

  arms_cover : (l merge : ℕ) (c : Context) (default : ℕ) (cases : List (ℕ × ℕ)) (arms : Arms)
      → SpellsArms insts stays l merge c (firsts (default ∷ seconds cases)) arms → Covers arms cases
  arms_cover l merge c default cases arms s =
      covers_by arms cases (λ x h. arms_have l merge c (firsts (default ∷ seconds cases)) arms s x
      (firsts_have (default ∷ seconds cases) x (right_holds (default == x) (has (seconds cases) x) h)))

  -- ---- the induction

  part_walked : (l m : ℕ) (c : Context) (k : Construct) → Walk f l c → construct f l ≡ Some k → merge_of (Some k) ≡ Some m → Walk f m c
  part_walked l m c k w e g = step_walked f l m c c w (merges_on no_pointers f clean l m c w (ap merge_of e ∙ g))

  part_label : (l m : ℕ) (c : Context) (k : Construct) → Walk f l c → construct f l ≡ Some k → merge_of (Some k) ≡ Some m → is_label f m ≡ true
  part_label l m c k w e g = role_label f l m (merge_role f clean l m c k w e g)

  next_walked : (h merge next : ℕ) (c : Context) → Walk f h c → construct f h ≡ Some (ALoop merge next) → Walk f next (InNext h merge ∷ c)
  next_walked h merge next c w e =
      step_walked f h next c (InNext h merge ∷ c) w (continues_on no_pointers f clean h next c (InNext h merge ∷ c) w (ap next_of e)
      (ap (λ o. next_context o h c) e))

  next_label : (h merge next : ℕ) (c : Context) → Walk f h c → construct f h ≡ Some (ALoop merge next) → is_label f next ≡ true
  next_label h merge next c w e = role_label f h next (next_role f clean h next c (ALoop merge next) w e refl)

  mutual
    unfolding statements_in

    -- a block that goes on with these lines
    pub held : (l : ℕ) (c : Context) (ls : List (List ℕ)) (body : Body) → Spells insts stays l c ls body → Walk f l c → CallsKnown functions (statements_in ls)
        → (tail : List Statement)
        → Held l (round c) (statements_in ls ++ tail) body
    held l c ls body (spells.steps {words = words} {rest = rest} {body = inner} e s) w calls tail =
        step_held l (round c) words rest inner tail e calls (held l c rest inner s w (calls_behind words rest calls) tail)
    held l c ls body (spells.finishes {words = words} e) w calls tail = finish_held l (round c) words tail e
    held l c ls body (spells.joined {t = t} {body = inner} e goes no_front s) w calls tail =
        let same : behind (construct f l) l t c ≡ c = ap (λ o. behind o l t c) e in
        let label : is_label f t ≡ true = target_label l t c c w same goes in
        joined_held l t c c w same goes no_front (round c) inner tail
        (held t c (spelled.behind_phis (text insts t)) inner s (target_walked l t c c w same goes) (known_text t label) (after t))
    held l c ls body (spells.branches {t = t} e b) w calls tail =
        let h : HeldAt l t (round c) body = branch_held l t c c body b w (ap (λ o. behind o l t c) e) in
        record { stands = standing.branches {label = t} {after = tail} {body = body} h.stands; closed = h.closed }
    held l c ls body (spells.splits {condition = condition} {other = other} {on = on} {exit = exit} {body = inner} e out arm) w calls tail =
        split_held l (round c) condition other on exit inner tail
        (exit_held l c c exit w (ap (λ o. behind o l exit.target c) e) out)
        (arm_held l other c c inner arm w (ap (λ o. behind o l other c) e))
    held l c ls body (spells.selects {merge = merge} {control = control} {condition = condition} {yes = one} {no = other} {first = first} {second = second}
        {rest = rest} e a b part) w calls tail =
        let k : Construct = ASelection merge in
        select_held l (round c) merge control condition one other first second rest tail (part_label l merge c k w e refl)
        (arm_held l one c (InSelection merge ∷ c) first a w (ap (λ o. behind o l one c) e))
        (arm_held l other c (InSelection merge ∷ c) second b w (ap (λ o. behind o l other c) e))
        (part_held merge c rest part (part_walked l merge c k w e refl) (part_label l merge c k w e refl))
    held l c ls body (spells.switches {merge = merge} {control = control} {selector = selector} {default = default} {cases = cases} {arms = arms}
        {rest = rest} e a part) w calls tail =
        let k : Construct = ASwitch merge in
        switch_held l (round c) merge control selector default cases arms rest tail (part_label l merge c k w e refl)
        (arms_held l merge c (firsts (default ∷ seconds cases)) arms a w e)
        (arms_cover l merge c default cases arms a)
        (arms_first l merge c (firsts (default ∷ seconds cases)) arms a)
        (part_held merge c rest part (part_walked l merge c k w e refl) (part_label l merge c k w e refl))

    -- a branch out of the part or to a loop
    branch_held : (l t : ℕ) (c d : Context) (body : Body) → SpellsBranch insts stays l d t body → Walk f l c → behind (construct f l) l t c ≡ d
        → HeldAt l t (round d) body
    branch_held l t c d body (spells.leaves {exit = exit} e) w same =
        let h : HeldExit l (round d) exit = exit_held l c d exit w same e in
        record { stands = standing.leaves {exit = exit} h.stands; closed = h.one }
    branch_held l t c d body (spells.comes {values = values} goes take loop) w same =
        let label : is_label f t ≡ true = target_label l t c d w same goes in
        let h : HeldLoop t (round d) (ByBranch values) body = loop_held t d (ByBranch values) body loop (target_walked l t c d w same goes) label in
        record { stands = h.by_branch l values refl (exit_stands l (record { target = t; values = values }) label take); closed = h.closed }

    arm_held : (l t : ℕ) (c d : Context) (body : Body) → SpellsArm insts stays l d t body → Walk f l c → behind (construct f l) l t c ≡ d
        → HeldAt l t (round d) body
    arm_held l t c d body (spells.out b) w same = branch_held l t c d body b w same
    arm_held l t c d body (spells.enters {body = inner} goes no_front s) w same =
        let label : is_label f t ≡ true = target_label l t c d w same goes in
        enters_held l t c d w same goes no_front (round d) inner
        (held t d (spelled.behind_phis (text insts t)) inner s (target_walked l t c d w same goes) (known_text t label) (after t))

    arms_held : (l merge : ℕ) (c : Context) (labels : List ℕ) (arms : Arms) → SpellsArms insts stays l merge c labels arms → Walk f l c
        → construct f l ≡ Some (ASwitch merge)
        → HeldArms l (merge ∷ round c) arms
    arms_held l merge c labels arms (spells.last {t = t} {arm = arm} a) w e =
        let h : HeldAt l t (merge ∷ round c) arm = arm_held l t c (InArm l merge t ∷ c) arm a w (ap (λ o. behind o l t c) e) in
        record {
          stands = standing.last {arm = arm} (subst (λ x. StandsAt all l x arm) (sym
              (arm_target l (InArm l merge t ∷ c) t arm a)) h.stands);
          closed = h.closed;
        }
    arms_held l merge c labels arms (spells.also {t = t} {labels = others} {arm = arm} {arms = rest} a s) w e =
        let h : HeldAt l t (merge ∷ round c) arm = arm_held l t c (InArm l merge t ∷ c) arm a w (ap (λ o. behind o l t c) e) in
        let g : HeldArms l (merge ∷ round c) rest = arms_held l merge c others rest s w e in
        record {
          stands = standing.also {arm = arm} {arms = rest} (subst (λ x. StandsAt all l x arm)
              (sym (arm_target l (InArm l merge t ∷ c) t arm a)) h.stands) g.stands;
          closed = (h.closed, g.closed);
        }

    -- what begins at a merge block or continue target
    part_held : (m : ℕ) (c : Context) (body : Body) → SpellsPart insts stays m c body → Walk f m c → is_label f m ≡ true
        → Held m (round c) (steps.behind_phis (there m)) body
    part_held m c body (spells.plain e s) w label = behind_held m (round c) body label
        (held m c (spelled.behind_phis (text insts m)) body s w (known_text m label) (after m))
    part_held m c body (spells.placed s) w label =
        let h : HeldLoop m (round c) InPlace body = loop_held m c InPlace body s w label in
        record { stands = h.in_place refl; closed = h.closed }

    loop_held : (h : ℕ) (c : Context) (entry : Entry) (body : Body) → SpellsLoop insts stays h c entry body → Walk f h c → is_label f h ≡ true
        → HeldLoop h (round c) entry body
    loop_held h c entry body (spells.parts {merge = merge} {next = next} {control = control} {inner = inner} {continuing = continuing}
        {rest = rest} e head part1 part2) w label =
        let k : Construct = ALoop merge next in
        loop_of_parts h next merge control (round c) entry inner continuing rest label (next_label h merge next c w e) (part_label h merge c k w e refl)
        (head_held h c (InBody h merge next ∷ c) (loop_line merge next control) (spelled.behind_phis (text insts h)) inner head w
        (λ t. ap (λ o. behind o h t c) e) (λ z. refl) (known_text h label) (after h))
        (part_held next (InNext h merge ∷ c) continuing part1 (next_walked h merge next c w e) (next_label h merge next c w e))
        (part_held merge c rest part2 (part_walked h merge c k w e refl) (part_label h merge c k w e refl))

    -- the header's own lines, with its merge instruction
    head_held : (h : ℕ) (c d : Context) (opening : List ℕ) (ls : List (List ℕ)) (body : Body) → SpellsHead insts stays h d opening ls body → Walk f h c
        → ((t : ℕ) → behind (construct f h) h t c ≡ d) → ((z : List Statement) → said opening z ≡ says.Merge ∷ z) → CallsKnown functions (statements_in ls)
        → (tail : List Statement)
        → Held h (round d) (statements_in ls ++ tail) body
    head_held h c d opening ls body (spells.begins {words = words} {rest = rest} {body = inner} e s) w same opens calls tail =
        step_held h (round d) words rest inner tail e calls (head_held h c d opening rest inner s w same opens (calls_behind words rest calls) tail)
    head_held h c d opening ls body (spells.goes {t = t} arm) w same opens calls tail =
        let a : HeldAt h t (round d) body = arm_held h t c d body arm w (same t) in
        record {
          stands =
              subst (λ z. Stands all h (z ++ tail) body) (sym (opens (says.Branch t ∷ [])))
              (standing.merges {rest = says.Branch t ∷ tail} {body = body} (standing.branches {label = t} {after = tail} {body = body} a.stands));
          closed = a.closed;
        }
    head_held h c d opening ls body (spells.parted {condition = condition} {other = other} {on = on} {exit = exit}
        {body = inner} out arm) w same opens calls tail =
        let split : List Statement = said (split_line condition on exit.target other) [] in
        let a = split_held h (round d) condition other on exit inner tail (exit_held h c d exit w (same exit.target) out)
        (arm_held h other c d inner arm w (same other)) in
        record {
          stands = subst (λ z. Stands all h (z ++ tail) (Splits condition on exit inner)) (sym (opens split))
              (standing.merges {rest = split ++ tail} {body = Splits condition on exit inner} a.stands);
          closed = a.closed;
        }
