-- A function spells one tree: by recursion on how the first is spelled, with the one way in which the second can go on.
use Rattle.std.proofs.Common.{◌≡◌, ℕ, Bool, true, false, not, cond, ◌==◌, List, [], ◌∷◌, Some, refl, sym, ap, ap₂, subst, ◌∙◌}
use Rattle.spv_module.specs.Instruction.{Instruction}
use Rattle.spv_blocks.specs.Blocks.{Code, ALoop, construct, names}
use Rattle.spv_blocks.specs.Cutting.{blocks_of}
use Rattle.spv_walk.specs.Contexts.{Context, InBody, InNext, is_exit}
use Rattle.spv_walk.specs.Walk.{end_of}
use Rattle.spv_walk.proofs.Unique.{right_holds, truth_apart}
use Rattle.spv_bodies.specs.Bodies.{Exit, Entry, ByBranch, Body, Leaves, Step, Enters as EntersBlock, Splits, Selects, Switches, Loops, Arms, Last, Also}
use Rattle.spv_bodies.specs.Listing.{branch_line, loop_line, split_line}
use Rattle.spv_normal.specs.Order.{is_front, is_loop}
use Rattle.spv_tree.specs.Sound.{is_step, opcode_in}
use Rattle.spv_spelling.specs.Spelling as spelled
use Rattle.spv_spelling.specs.Spelling.{Goes, Spells, SpellsArm, SpellsArms, SpellsBranch, SpellsExit, SpellsHead, SpellsLoop, SpellsPart}
use Rattle.spv_spelling.specs.Text.{Take, behind_phis, copies, front_of, phis, text}
use Rattle.spv_respelling.specs.Normal.{ArmsTakeFirst, TakesFirst, leaves_part}
use Rattle.spv_respelling.proofs.Onwards as onwards
use Rattle.spv_respelling.proofs.Onwards.{IsBranch, IsSelection, IsSplit, IsStep, IsSwitch, apart, behind_first, branch_on, copies_take, end_on, first_line, goes_on, kind, one_taken, selection_on, split_condition, split_kind, split_on, split_one, split_two, step_kind, step_on, switch_on, word_at}

-- ---- the head of a loop, by its lines

module _ (insts : List Instruction) (stays : ℕ → ℕ) where
  record HeadStep (h : ℕ) (d : Context) (opening words : List ℕ) (rest : List (List ℕ)) (b : Body) : Type 0 where
    body : Body
    spells : SpellsHead insts stays h d opening rest body
    same : b ≡ Step words body

  data HeadOn (h : ℕ) (d : Context) (opening : List ℕ) (ls : List (List ℕ)) (b : Body) : Type 0 where
    Begins : (words : List ℕ) (rest : List (List ℕ)) → ls ≡ words ∷ rest → is_step (opcode_in words) ≡ true → HeadStep h d opening words rest b
        → HeadOn h d opening ls b
    GoesTo : (t : ℕ) → ls ≡ opening ∷ branch_line t ∷ [] → SpellsArm insts stays h d t b → HeadOn h d opening ls b
    Parts : (condition : ℕ) (on : Bool) (x y : ℕ) → ls ≡ opening ∷ split_line condition on x y ∷ []
        → IsSplit insts stays h d condition (cond on x y) (cond on y x) b → HeadOn h d opening ls b

  head_on : {h : ℕ} {d : Context} {opening : List ℕ} {ls : List (List ℕ)} {b : Body} → SpellsHead insts stays h d opening ls b → HeadOn h d opening ls b
  head_on (spelled.begins {words = words} {rest = rest} {body = body} is r) = Begins words rest refl is (record { body = body; spells = r; same = refl })
  head_on (spelled.goes {t = t} arm) = GoesTo t refl arm
  head_on (spelled.parted {condition = condition} {other = other} {on = on} {exit = exit} {body = body} x arm) =
      Parts condition on exit.target other refl
      (record { on = on; exit = exit; other = other; body = body; first = refl; second = refl; leaves = x; arm = arm; same = refl })

  -- what the same lines go on with, and that their merge instructions are one
  head_step : (h : ℕ) (d : Context) (m n k : ℕ) (words : List ℕ) (rest : List (List ℕ)) (b : Body) → is_step (opcode_in words) ≡ true
      → HeadOn h d (loop_line m n k) (words ∷ rest) b → HeadStep h d (loop_line m n k) words rest b
  head_step h d m n k words rest b is (Begins w r e i g) =
      subst (λ z. HeadStep h d (loop_line m n k) z rest b) (sym (ap first_line e))
      (subst (λ z. HeadStep h d (loop_line m n k) w z b) (sym (ap behind_first e)) g)
  head_step h d m n k words rest b is (GoesTo t e arm) = apart 0 5 (sym (step_kind (opcode_in words) is) ∙ ap kind e) refl
  head_step h d m n k words rest b is (Parts condition on x y e g) = apart 0 5 (sym (step_kind (opcode_in words) is) ∙ ap kind e) refl

  record HeadGoes (h : ℕ) (d : Context) (t j k : ℕ) (b : Body) : Type 0 where
    control : j ≡ k
    arm : SpellsArm insts stays h d t b

  head_goes : (h : ℕ) (d : Context) (m n j k t : ℕ) (b : Body) → HeadOn h d (loop_line m n k) (loop_line m n j ∷ branch_line t ∷ []) b → HeadGoes h d t j k b
  head_goes h d m n j k t b (Begins w r e i g) = apart 5 0 (ap kind e ∙ step_kind (opcode_in w) i) refl
  head_goes h d m n j k t b (GoesTo u e arm) = record {
    control = ap (word_at 3) e;
    arm = subst (λ z. SpellsArm insts stays h d z b) (sym (ap (λ ls. word_at 1 (behind_first ls)) e)) arm;
  }
  head_goes h d m n j k t b (Parts condition on x y e g) = apart 2 3 (ap (λ ls. kind (behind_first ls)) e ∙ split_kind condition on x y []) refl

  record HeadSplit (h : ℕ) (d : Context) (condition one two j k : ℕ) (b : Body) : Type 0 where
    control : j ≡ k
    split : IsSplit insts stays h d condition one two b

  head_split : (h : ℕ) (d : Context) (m n j k condition : ℕ) (on : Bool) (x y : ℕ) (b : Body)
      → HeadOn h d (loop_line m n k) (loop_line m n j ∷ split_line condition on x y ∷ []) b → HeadSplit h d condition (cond on x y) (cond on y x) j k b
  head_split h d m n j k condition on x y b (Begins w r e i g) = apart 5 0 (ap kind e ∙ step_kind (opcode_in w) i) refl
  head_split h d m n j k condition on x y b (GoesTo u e arm) = apart 3 2 (sym (split_kind condition on x y []) ∙ ap (λ ls. kind (behind_first ls)) e) refl
  head_split h d m n j k condition on x y b (Parts o p u v e g) =
      let tail = ap behind_first e in
      let a : o ≡ condition = sym (split_condition o p u v) ∙ sym (ap (word_at 1) tail) ∙ split_condition condition on x y in
      let one : cond p u v ≡ cond on x y = sym (split_one o p u v) ∙ sym (ap (word_at 2) tail) ∙ split_one condition on x y in
      let two : cond p v u ≡ cond on y x = sym (split_two o p u v) ∙ sym (ap (word_at 3) tail) ∙ split_two condition on x y in
      record {
        control = ap (word_at 3) e;
        split = subst (λ z. IsSplit insts stays h d z (cond on x y) (cond on y x) b) a
            (subst (λ z. IsSplit insts stays h d o z (cond on y x) b) one (subst (λ z. IsSplit insts stays h d o (cond p u v) z b) two g));
      }

  -- ---- branches

  abbrev code : Code
  code = blocks_of insts

  -- where a branch leads: out of the part, or to a loop
  data BranchTo (l : ℕ) (d : Context) (t : ℕ) (b : Body) : Type 0 where
    Out : (exit : Exit) → exit.target ≡ t → SpellsExit insts stays l d exit → b ≡ Leaves exit → BranchTo l d t b
    Comes : (values : List ℕ) → Goes insts stays l d t → Take l (phis (text insts t)) values → SpellsLoop insts stays t d (ByBranch values) b → BranchTo l d t b

  branch_to : {l : ℕ} {d : Context} {t : ℕ} {b : Body} → SpellsBranch insts stays l d t b → BranchTo l d t b
  branch_to (spelled.leaves {exit = exit} x) = Out exit refl x refl
  branch_to (spelled.comes {values = values} g take r) = Comes values g take r

  loop_front : {h : ℕ} {c : Context} {entry : Entry} {b : Body} → SpellsLoop insts stays h c entry b → is_front code h ≡ true
  loop_front (spelled.parts {h = h} is head p q) = right_holds (not (names code h == 0)) (is_loop (construct code h)) (ap is_loop is)

  loop_there : {h : ℕ} {c : Context} {entry : Entry} {b : Body} → SpellsLoop insts stays h c entry b → is_loop (construct code h) ≡ true
  loop_there (spelled.parts is head p q) = ap is_loop is

  -- an arm to an exit leaves
  arm_leaves : {l : ℕ} {d : Context} {t : ℕ} {b : Body} → SpellsArm insts stays l d t b → is_exit d (end_of code l) t ≡ true → leaves_part b ≡ true
  arm_leaves (spelled.out (spelled.leaves x)) e = refl
  arm_leaves (spelled.out (spelled.comes {l = l} {h = h} {d = d} g take r)) e = truth_apart (is_exit d (end_of code l) h) e g.stays_in
  arm_leaves (spelled.enters {l = l} {t = t} {d = d} g other r) e = truth_apart (is_exit d (end_of code l) t) e g.stays_in

-- ---- two trees

module _ (insts : List Instruction) (stays more : ℕ → ℕ) (fronts : (t : ℕ) → front_of insts stays t ≡ front_of insts more t) where
  abbrev f : Code
  f = blocks_of insts

  same_exit : (l : ℕ) (c d : Context) (x y : Exit) → SpellsExit insts stays l c x → SpellsExit insts more l d y → x.target ≡ y.target → x ≡ y
  same_exit l c d x y h g e =
      let here : Take l (phis (text insts y.target)) x.values = subst (λ z. Take l (phis (text insts z)) x.values) e h.values in
      let values : x.values ≡ y.values = one_taken l (phis (text insts y.target)) x.values y.values here g.values in
      let made : ℕ → List ℕ → Exit = λ t vs. record { target = t; values = vs } in
      ap₂ made e values

  abbrev Same : Body → Body → Type 0
  Same a b = TakesFirst a → TakesFirst b → a ≡ b

  -- two ways to part, where the arms are the same if their labels are
  same_split : (l : ℕ) (c : Context) (condition other : ℕ) (on : Bool) (exit : Exit) (body b : Body) → SpellsExit insts stays l c exit
      → SpellsArm insts stays l c other body
      → ((x : Body) → SpellsArm insts more l c other x → Same body x)
      → IsSplit insts more l c condition (cond on exit.target other) (cond on other exit.target) b
      → Same (Splits condition on exit body) b
  same_split l c condition other on exit body b x arm again h take take_too =
      let too : TakesFirst (Splits condition h.on h.exit h.body) = subst TakesFirst h.same take_too in
      by on h.on h.first h.second take.0 too.0 ∙ sym h.same
    where
      alike : (o p : Bool) → o ≡ p → h.exit.target ≡ exit.target → h.other ≡ other → Splits condition o exit body ≡ Splits condition p h.exit h.body
      alike o p e to at =
          let exits : exit ≡ h.exit = same_exit l c c exit h.exit x h.leaves (sym to) in
          let bodies : body ≡ h.body = again h.body (subst (λ z. SpellsArm insts more l c z h.body) at h.arm) take.1 (subst TakesFirst h.same take_too).1 in
          ap₂ (λ (u : Bool) (v : Exit). Splits condition u v body) e exits ∙ ap (Splits condition p h.exit) bodies

      by : (o p : Bool) → cond p h.exit.target h.other ≡ cond o exit.target other → cond p h.other h.exit.target ≡ cond o other exit.target
          → (leaves_part body ≡ true → o ≡ true) → (leaves_part h.body ≡ true → p ≡ true) → Splits condition o exit body ≡ Splits condition p h.exit h.body
      by true true one two t u = alike true true refl one two
      by false false one two t u = alike false false refl two one
      by true false one two t u =
          let out : is_exit c (end_of f l) h.other ≡ true = ap (is_exit c (end_of f l)) one ∙ x.leaves in
          absurd (truth_apart false (u (arm_leaves insts more h.arm out)) refl)
      by false true one two t u =
          let out : is_exit c (end_of f l) other ≡ true = ap (is_exit c (end_of f l)) (sym one) ∙ h.leaves.leaves in
          absurd (truth_apart false (t (arm_leaves insts stays arm out)) refl)

  no_arms : {l m : ℕ} {c : Context} {labels : List ℕ} {arms : Arms} → SpellsArms insts more l m c labels arms → labels ≡ [] → ⊥
  no_arms (spelled.last x) e = cc e
  no_arms (spelled.also x rest) e = cc e

  no_arms_there : {l m : ℕ} {c : Context} {labels : List ℕ} {arms : Arms} → SpellsArms insts stays l m c labels arms → labels ≡ [] → ⊥
  no_arms_there (spelled.last x) e = cc e
  no_arms_there (spelled.also x rest) e = cc e

  mutual
    pub same_rest : {l : ℕ} {c : Context} {ls : List (List ℕ)} {a : Body} → Spells insts stays l c ls a → (b : Body) → Spells insts more l c ls b → Same a b
    same_rest (spelled.steps {l = l} {c = c} {words = words} {rest = rest} is r) b d take take_too =
        let h : IsStep insts more l c words rest b = step_on insts more l c words rest b is (goes_on insts more d) in
        ap (Step words) (same_rest r h.body h.spells take (subst TakesFirst h.same take_too)) ∙ sym h.same
    same_rest (spelled.finishes {l = l} {c = c} {words = words} is) b d take take_too = sym (end_on insts more l c words b is (goes_on insts more d))
    same_rest (spelled.joined {l = l} {t = t} {c = c} {body = body} bare g other r) b d take take_too =
        elim (branch_on insts more l c t b (goes_on insts more d)) [
          | onwards.Joined x i j s e ↦
              let inner : body ≡ x =
              same_rest r x s (copies_take (phis (text insts t)) body take) (copies_take (phis (text insts t)) x (subst TakesFirst e take_too)) in
              ap (copies (phis (text insts t))) inner ∙ sym e
          | onwards.Branches s ↦ elim (branch_to insts more s) [
            | Out exit e x same ↦ truth_apart (is_exit c (end_of f l) t) (ap (is_exit c (end_of f l)) (sym e) ∙ x.leaves) g.stays_in
            | Comes values i taken p ↦ truth_apart (is_front f t) (loop_front insts more p) other
          ]
        ]
    same_rest (spelled.branches {l = l} {t = t} {c = c} bare r) b d take take_too = elim (branch_on insts more l c t b (goes_on insts more d)) [
      | onwards.Branches s ↦ same_branch r b s take take_too
      | onwards.Joined x i j s e ↦ elim (branch_to insts stays r) [
        | Out exit to x same ↦ truth_apart (is_exit c (end_of f l) t) (ap (is_exit c (end_of f l)) (sym to) ∙ x.leaves) i.stays_in
        | Comes values k taken p ↦ truth_apart (is_front f t) (loop_front insts stays p) j
      ]
    ]
    same_rest (spelled.splits {l = l} {condition = condition} {other = other} {on = on} {c = c} {exit = exit} {body = body} bare x arm) b d take take_too =
        same_split l c condition other on exit body b x arm (λ y s. same_arm arm y s)
        (split_on insts more l c condition on exit.target other b (goes_on insts more d)) take take_too
    same_rest
        (spelled.selects {l = l} {merge = m} {control = control} {condition = condition} {yes = one} {no = two} {c = c} {rest = rest} is x y p)
        b d take take_too =
        let h : IsSelection insts more l c m control condition one two b =
        selection_on insts more l c m control condition one two b is (goes_on insts more d) in
        let too : TakesFirst (Selects control condition h.first h.second (front_of insts more m) h.rest) = subst TakesFirst h.same take_too in
        ap₂ (λ u v. Selects control condition u v (front_of insts stays m) rest) (same_arm x h.first h.first_arm take.0 too.0)
        (same_arm y h.second h.second_arm take.1 too.1)
        ∙ ap₂ (λ u v. Selects control condition h.first h.second u v) (fronts m) (same_part p h.rest h.part take.2 too.2) ∙ sym h.same
    same_rest
        (spelled.switches {l = l} {merge = m} {control = control} {selector = selector} {default = default} {cases = cases} {c = c} {rest = rest} is x p)
        b d take take_too =
        let h : IsSwitch insts more l c m control selector default cases b =
        switch_on insts more l c m control selector default cases b is (goes_on insts more d) in
        let too : TakesFirst (Switches control selector cases h.arms (front_of insts more m) h.rest) = subst TakesFirst h.same take_too in
        ap (λ u. Switches control selector cases u (front_of insts stays m) rest) (same_arms x h.arms h.are_arms take.0 too.0)
        ∙ ap₂ (λ u v. Switches control selector cases h.arms u v) (fronts m) (same_part p h.rest h.part take.1 too.1) ∙ sym h.same

    same_branch : {l : ℕ} {c : Context} {t : ℕ} {a : Body} → SpellsBranch insts stays l c t a → (b : Body) → SpellsBranch insts more l c t b → Same a b
    same_branch (spelled.leaves {l = l} {d = c} {exit = exit} x) b d take take_too = elim (branch_to insts more d) [
      | Out y e g same ↦ ap Leaves (same_exit l c c exit y x g (sym e)) ∙ sym same
      | Comes values g taken p ↦ truth_apart (is_exit c (end_of f l) exit.target) x.leaves g.stays_in
    ]
    same_branch (spelled.comes {l = l} {h = h} {d = c} {values = values} g taken r) b d take take_too = elim (branch_to insts more d) [
      | Out y e x same ↦ truth_apart (is_exit c (end_of f l) h) (ap (is_exit c (end_of f l)) (sym e) ∙ x.leaves) g.stays_in
      | Comes others i too p ↦
          same_loop r b (subst (λ z. SpellsLoop insts more h c (ByBranch z) b)
          (sym (one_taken l (phis (text insts h)) values others taken too)) p) take take_too
    ]

    same_arm : {l : ℕ} {c : Context} {t : ℕ} {a : Body} → SpellsArm insts stays l c t a → (b : Body) → SpellsArm insts more l c t b → Same a b
    same_arm (spelled.out r) b (spelled.out s) take take_too = same_branch r b s take take_too
    same_arm (spelled.out {l = l} {t = t} {d = c} r) b (spelled.enters g other s) take take_too = elim (branch_to insts stays r) [
      | Out exit e x same ↦ truth_apart (is_exit c (end_of f l) t) (ap (is_exit c (end_of f l)) (sym e) ∙ x.leaves) g.stays_in
      | Comes values i taken p ↦ truth_apart (is_front f t) (loop_front insts stays p) other
    ]
    same_arm (spelled.enters {l = l} {t = t} {d = c} g other r) b (spelled.out s) take take_too = elim (branch_to insts more s) [
      | Out exit e x same ↦ truth_apart (is_exit c (end_of f l) t) (ap (is_exit c (end_of f l)) (sym e) ∙ x.leaves) g.stays_in
      | Comes values i taken p ↦ truth_apart (is_front f t) (loop_front insts more p) other
    ]
    same_arm (spelled.enters {t = t} {body = body} g other r) b (spelled.enters {body = x} i j s) take take_too =
        ap (λ z. EntersBlock t (copies (phis (text insts t)) z))
        (same_rest r x s (copies_take (phis (text insts t)) body take) (copies_take (phis (text insts t)) x take_too))

    same_arms : {l m : ℕ} {c : Context} {labels : List ℕ} {a : Arms} → SpellsArms insts stays l m c labels a → (b : Arms) → SpellsArms insts more l m c labels b
        → ArmsTakeFirst a → ArmsTakeFirst b → a ≡ b
    same_arms (spelled.last x) b (spelled.last {arm = y} s) take take_too = ap Last (same_arm x y s take take_too)
    same_arms (spelled.last x) b (spelled.also s rest) take take_too = absurd (no_arms rest refl)
    same_arms (spelled.also x rest) b (spelled.last s) take take_too = absurd (no_arms_there rest refl)
    same_arms (spelled.also x rest) b (spelled.also {arm = y} {arms = ys} s others) take take_too =
        ap₂ Also (same_arm x y s take.0 take_too.0) (same_arms rest ys others take.1 take_too.1)

    same_part : {l : ℕ} {c : Context} {a : Body} → SpellsPart insts stays l c a → (b : Body) → SpellsPart insts more l c b → Same a b
    same_part (spelled.plain is r) b (spelled.plain i s) take take_too = same_rest r b s take take_too
    same_part (spelled.plain {l = l} is r) b (spelled.placed s) take take_too = truth_apart (is_loop (construct f l)) (loop_there insts more s) is
    same_part (spelled.placed {l = l} r) b (spelled.plain i s) take take_too = truth_apart (is_loop (construct f l)) (loop_there insts stays r) i
    same_part (spelled.placed r) b (spelled.placed s) take take_too = same_loop r b s take take_too

    same_loop : {h : ℕ} {c : Context} {entry : Entry} {a : Body} → SpellsLoop insts stays h c entry a → (b : Body) → SpellsLoop insts more h c entry b
        → Same a b
    same_loop
        (spelled.parts {h = h} {merge = m} {next = n} {control = j} {c = c} {entry = entry} {inner = inner} {continuing = continuing} {rest = rest}
        is head p q) b
        (spelled.parts {merge = u} {next = v} {control = k} {inner = inner_too} {continuing = continuing_too} {rest = rest_too} i head_too r s) take take_too =
        let merges : u ≡ m = (let e : Some (ALoop m n) ≡ Some (ALoop u v) = sym is ∙ i in cc e) in
        let nexts : v ≡ n = (let e : Some (ALoop m n) ≡ Some (ALoop u v) = sym is ∙ i in cc e) in
        let there : SpellsHead insts more h (InBody h m n ∷ c) (loop_line m n k) (behind_phis (text insts h)) inner_too =
        subst (λ z. SpellsHead insts more h (InBody h z n ∷ c) (loop_line z n k) (behind_phis (text insts h)) inner_too) merges
        (subst (λ z. SpellsHead insts more h (InBody h u z ∷ c) (loop_line u z k) (behind_phis (text insts h)) inner_too) nexts head_too) in
        let heads = same_head head inner_too k there take.0 take_too.0 in
        let nexts_same : continuing ≡ continuing_too =
        same_part p continuing_too
        (subst (λ z. SpellsPart insts more n (InNext h z ∷ c) continuing_too) merges
        (subst (λ z. SpellsPart insts more z (InNext h u ∷ c) continuing_too) nexts r)) take.1 take_too.1 in
        let rests : rest ≡ rest_too = same_part q rest_too (subst (λ z. SpellsPart insts more z c rest_too) merges s) take.2 take_too.2 in
        ap₂ (λ x y. Loops entry (front_of insts stays h) x y (front_of insts stays n) continuing (front_of insts stays m) rest) heads.1 heads.0
        ∙ ap₂ (λ x y. Loops entry x k inner_too y continuing (front_of insts stays m) rest) (fronts h) (fronts n ∙ ap (front_of insts more) (sym nexts))
        ∙ ap₂ (λ x y. Loops entry (front_of insts more h) k inner_too (front_of insts more v) x y rest) nexts_same
        (fronts m ∙ ap (front_of insts more) (sym merges))
        ∙ ap (Loops entry (front_of insts more h) k inner_too (front_of insts more v) continuing_too (front_of insts more u)) rests

    -- the bodies, and the controls of the merge instructions
    same_head : {h m n j : ℕ} {d : Context} {ls : List (List ℕ)} {a : Body} → SpellsHead insts stays h d (loop_line m n j) ls a → (b : Body) (k : ℕ)
        → SpellsHead insts more h d (loop_line m n k) ls b → TakesFirst a → TakesFirst b → (a ≡ b) × (j ≡ k)
    same_head {m = m} {n = n} (spelled.begins {h = h} {d = d} {words = words} {rest = rest} is r) b k g take take_too =
        let o = head_step insts more h d m n k words rest b is (head_on insts more g) in
        let on = same_head r o.body k o.spells take (subst TakesFirst o.same take_too) in
        (ap (Step words) on.0 ∙ sym o.same, on.1)
    same_head {m = m} {n = n} {j = j} (spelled.goes {h = h} {t = t} {d = d} arm) b k g take take_too =
        let o = head_goes insts more h d m n j k t b (head_on insts more g) in
        (same_arm arm b o.arm take take_too, o.control)
    same_head {m = m} {n = n} {j = j}
        (spelled.parted {h = h} {condition = condition} {other = other} {on = on} {d = d} {exit = exit} {body = body} x arm) b k g take take_too =
        let o = head_split insts more h d m n j k condition on exit.target other b (head_on insts more g) in
        (same_split h d condition other on exit body b x arm (λ y s. same_arm arm y s) o.split take take_too, o.control)
