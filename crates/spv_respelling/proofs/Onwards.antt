-- A function spells one tree, if where both targets of an OpBranchConditional leave the part the first is taken for the exit: by recursion on how the first
-- tree is
-- spelled, with the one way in which the second can go on.
use Rattle.std.proofs.Common.{◌≡◌, inl, inr, ℕ, Bool, true, false, cond, ◌==◌, ◌||◌, List, [], ◌∷◌, slice_index, drop, Some, refl, sym, ap, ap₂, subst, ◌∙◌}
use Rattle.std.proofs.lemmas.Bool.{eqb-true, eq-eqb}
use Rattle.spv_opcodes.specs.declared.op.TheConstants as op
use Rattle.spv_module.specs.Instruction.{Instruction}
use Rattle.spv_blocks.specs.Blocks.{Code, ASelection, ASwitch, construct, seconds}
use Rattle.spv_blocks.specs.Cutting.{blocks_of, pairs}
use Rattle.spv_walk.specs.Contexts.{Context, InSelection}
use Rattle.spv_walk.proofs.Unique.{either_holds, equal_true, tells, truth_apart}
use Rattle.spv_bodies.specs.Bodies.{Exit, Body, Finishes, Step, Splits, Selects, Switches, Arms}
use Rattle.spv_bodies.specs.Listing.{branch_line, instruction, pair_words, selection_line, split_line}
use Rattle.spv_normal.specs.Order.{is_front}
use Rattle.spv_tree.specs.Sound.{is_end, is_one_of, is_step, opcode_in, structure}
use Rattle.spv_spelling.specs.Spelling as spelled
use Rattle.spv_spelling.specs.Spelling.{Goes, Spells, SpellsArm, SpellsArms, SpellsBranch, SpellsExit, SpellsHead, SpellsLoop, SpellsPart}
use Rattle.spv_spelling.specs.Text.{Take, behind_phis, copies, firsts, front_of, phis, text}
use Rattle.spv_structured.proofs.Middles.{step_is_other}
use Rattle.spv_normal_trees.proofs.Texts.{pairs_spelled}
use Rattle.spv_respelling.specs.Normal.{TakesFirst}

-- ---- the kind of the first of lines

abbrev pub kind_by : ℕ → ℕ
kind_by o = cond (o == op.BRANCH) 2 (cond (o == op.BRANCH_CONDITIONAL) 3 (cond (o == op.SELECTION_MERGE) 4 (cond (o == op.LOOP_MERGE) 5 (cond (is_end o) 1 0))))

abbrev pub kind : List (List ℕ) → ℕ
kind [] = 6
kind (w ∷ ws) = kind_by (opcode_in w)

pub apart : {P : Type 0} (i j : ℕ) → i ≡ j → (i == j) ≡ false → P
apart i j e n = truth_apart (i == j) (eq-eqb i j e) n

other_one : (o p : ℕ) → is_one_of structure o ≡ false → is_one_of structure p ≡ true → (o == p) ≡ false
other_one o p other is = elim (tells (o == p)) [
  | inl e ↦ truth_apart (is_one_of structure o) (ap (is_one_of structure) (equal_true o p e) ∙ is) other
  | inr e ↦ e
]

pub step_kind : (o : ℕ) → is_step o ≡ true → kind_by o ≡ 0
step_kind o h =
    let other = step_is_other o h in
    rw (
      other_one o op.BRANCH other refl,
      other_one o op.BRANCH_CONDITIONAL other refl,
      other_one o op.SELECTION_MERGE other refl,
      other_one o op.LOOP_MERGE other refl,
      other_one o op.RETURN other refl,
      other_one o op.RETURN_VALUE other refl,
      other_one o op.UNREACHABLE other refl,
    ) refl

pub end_kind : (o : ℕ) → is_end o ≡ true → kind_by o ≡ 1
end_kind o h =
    elim (either_holds (o == op.RETURN) ((o == op.RETURN_VALUE) || ((o == op.UNREACHABLE) || false)) h) [
      | inl e ↦ ap kind_by (eqb-true o op.RETURN e)
      | inr g ↦ elim (either_holds (o == op.RETURN_VALUE) ((o == op.UNREACHABLE) || false) g) [
        | inl e ↦ ap kind_by (eqb-true o op.RETURN_VALUE e)
        | inr k ↦ elim (either_holds (o == op.UNREACHABLE) false k) [
          | inl e ↦ ap kind_by (eqb-true o op.UNREACHABLE e)
          | inr f ↦ absurd (cc f)
        ]
      ]
    ]

pub split_kind : (condition : ℕ) (on : Bool) (a b : ℕ) (ls : List (List ℕ)) → kind (split_line condition on a b ∷ ls) ≡ 3
split_kind condition true a b ls = refl
split_kind condition false a b ls = refl

-- ---- words of lines

abbrev pub first_line : List (List ℕ) → List ℕ
first_line [] = []
first_line (w ∷ ws) = w

abbrev pub behind_first : List (List ℕ) → List (List ℕ)
behind_first [] = []
behind_first (w ∷ ws) = ws

abbrev pub word_at : ℕ → List (List ℕ) → ℕ
word_at k ls = slice_index (first_line ls) k

pub split_condition : (condition : ℕ) (on : Bool) (a b : ℕ) → slice_index (split_line condition on a b) 1 ≡ condition
split_condition condition true a b = refl
split_condition condition false a b = refl

pub split_one : (condition : ℕ) (on : Bool) (a b : ℕ) → slice_index (split_line condition on a b) 2 ≡ cond on a b
split_one condition true a b = refl
split_one condition false a b = refl

pub split_two : (condition : ℕ) (on : Bool) (a b : ℕ) → slice_index (split_line condition on a b) 3 ≡ cond on b a
split_two condition true a b = refl
split_two condition false a b = refl

-- ---- values

some_inside : (x y : ℕ) → Some x ≡ Some y → x ≡ y
some_inside x y e = cc e

pub one_taken : (l : ℕ) (ps : List (List ℕ)) (xs ys : List ℕ) → Take l ps xs → Take l ps ys → xs ≡ ys
one_taken l [] [] [] h g = refl
one_taken l [] [] (y ∷ ys) h g = absurd g
one_taken l [] (x ∷ xs) ys h g = absurd h
one_taken l (p ∷ ps) [] ys h g = absurd h
one_taken l (p ∷ ps) (x ∷ xs) [] h g = absurd g
one_taken l (p ∷ ps) (x ∷ xs) (y ∷ ys) h g = ap₂ (λ z zs. z ∷ zs) (some_inside x y (sym h.0 ∙ g.0)) (one_taken l ps xs ys h.1 g.1)

pub copies_take : (ps : List (List ℕ)) (body : Body) → TakesFirst (copies ps body) → TakesFirst body
copies_take [] body h = h
copies_take (p ∷ ps) body h = copies_take ps body h

-- ---- how the second tree may go on

module _ (insts : List Instruction) (stays : ℕ → ℕ) where
  abbrev code : Code
  code = blocks_of insts

  pub record IsStep (l : ℕ) (c : Context) (words : List ℕ) (rest : List (List ℕ)) (b : Body) : Type 0 where
    pub body : Body
    pub spells : Spells insts stays l c rest body
    pub same : b ≡ Step words body

  pub data IsBranch (l : ℕ) (c : Context) (t : ℕ) (b : Body) : Type 0 where
    Joined : (body : Body) → Goes insts stays l c t → is_front code t ≡ false → Spells insts stays t c (behind_phis (text insts t)) body
        → b ≡ copies (phis (text insts t)) body → IsBranch l c t b
    Branches : SpellsBranch insts stays l c t b → IsBranch l c t b

  -- its exit and its arm, which are the two targets in one order or the other
  pub record IsSplit (l : ℕ) (c : Context) (condition one two : ℕ) (b : Body) : Type 0 where
    pub on : Bool
    pub exit : Exit
    pub other : ℕ
    pub body : Body
    pub first : cond on exit.target other ≡ one
    pub second : cond on other exit.target ≡ two
    pub leaves : SpellsExit insts stays l c exit
    pub arm : SpellsArm insts stays l c other body
    pub same : b ≡ Splits condition on exit body

  pub record IsSelection (l : ℕ) (c : Context) (merge control condition one two : ℕ) (b : Body) : Type 0 where
    pub first : Body
    pub second : Body
    pub rest : Body
    pub first_arm : SpellsArm insts stays l (InSelection merge ∷ c) one first
    pub second_arm : SpellsArm insts stays l (InSelection merge ∷ c) two second
    pub part : SpellsPart insts stays merge c rest
    pub same : b ≡ Selects control condition first second (front_of insts stays merge) rest

  pub record IsSwitch (l : ℕ) (c : Context) (merge control selector default : ℕ) (cases : List (ℕ × ℕ)) (b : Body) : Type 0 where
    pub arms : Arms
    pub rest : Body
    pub are_arms : SpellsArms insts stays l merge c (firsts (default ∷ seconds cases)) arms
    pub part : SpellsPart insts stays merge c rest
    pub same : b ≡ Switches control selector cases arms (front_of insts stays merge) rest

  -- what goes on with lines, by them
  pub data Goes_on (l : ℕ) (c : Context) (ls : List (List ℕ)) (b : Body) : Type 0 where
    AStep : (words : List ℕ) (rest : List (List ℕ)) → ls ≡ words ∷ rest → is_step (opcode_in words) ≡ true → IsStep l c words rest b → Goes_on l c ls b
    AnEnd : (words : List ℕ) → ls ≡ words ∷ [] → is_end (opcode_in words) ≡ true → b ≡ Finishes words → Goes_on l c ls b
    ABranch : (t : ℕ) → ls ≡ branch_line t ∷ [] → IsBranch l c t b → Goes_on l c ls b
    ASplit : (condition : ℕ) (on : Bool) (x y : ℕ) → ls ≡ split_line condition on x y ∷ [] → IsSplit l c condition (cond on x y) (cond on y x) b
        → Goes_on l c ls b
    OneSelection : (merge control condition x y : ℕ) → ls ≡ selection_line merge control ∷ split_line condition true x y ∷ []
        → construct code l ≡ Some (ASelection merge)
        → IsSelection l c merge control condition x y b → Goes_on l c ls b
    OneSwitch : (merge control selector default : ℕ) (cases : List (ℕ × ℕ))
        → ls ≡ selection_line merge control ∷ instruction op.SWITCH (selector ∷ default ∷ pair_words cases) ∷ []
        → construct code l ≡ Some (ASwitch merge) → IsSwitch l c merge control selector default cases b → Goes_on l c ls b

  pub goes_on : {l : ℕ} {c : Context} {ls : List (List ℕ)} {b : Body} → Spells insts stays l c ls b → Goes_on l c ls b
  goes_on (spelled.steps {words = words} {rest = rest} {body = body} is r) = AStep words rest refl is (record { body = body; spells = r; same = refl })
  goes_on (spelled.finishes {words = words} is) = AnEnd words refl is refl
  goes_on (spelled.joined {t = t} {body = body} bare g other r) = ABranch t refl (Joined body g other r refl)
  goes_on (spelled.branches {t = t} bare r) = ABranch t refl (Branches r)
  goes_on (spelled.splits {condition = condition} {other = other} {on = on} {exit = exit} {body = body} bare x arm) =
      ASplit condition on exit.target other refl
      (record { on = on; exit = exit; other = other; body = body; first = refl; second = refl; leaves = x; arm = arm; same = refl })
  goes_on
      (spelled.selects {merge = m} {control = control} {condition = condition} {yes = one} {no = two} {first = first} {second = second} {rest = rest}
      is x y p) =
      OneSelection m control condition one two refl is
      (record { first = first; second = second; rest = rest; first_arm = x; second_arm = y; part = p; same = refl })
  goes_on (spelled.switches {merge = m} {control = control} {selector = selector} {default = default} {cases = cases} {arms = arms} {rest = rest} is x p) =
      OneSwitch m control selector default cases refl is (record { arms = arms; rest = rest; are_arms = x; part = p; same = refl })

  -- ---- by the first line

  pub step_on : (l : ℕ) (c : Context) (words : List ℕ) (rest : List (List ℕ)) (b : Body) → is_step (opcode_in words) ≡ true → Goes_on l c (words ∷ rest) b
      → IsStep l c words rest b
  step_on l c words rest b is (AStep w r e i h) =
      subst (λ z. IsStep l c z rest b) (sym (ap first_line e)) (subst (λ z. IsStep l c w z b) (sym (ap behind_first e)) h)
  step_on l c words rest b is (AnEnd w e i h) = apart 0 1 (sym (step_kind (opcode_in words) is) ∙ ap kind e ∙ end_kind (opcode_in w) i) refl
  step_on l c words rest b is (ABranch t e h) = apart 0 2 (sym (step_kind (opcode_in words) is) ∙ ap kind e) refl
  step_on l c words rest b is (ASplit condition on x y e h) = apart 0 3 (sym (step_kind (opcode_in words) is) ∙ ap kind e ∙ split_kind condition on x y []) refl
  step_on l c words rest b is (OneSelection merge control condition x y e k h) = apart 0 4 (sym (step_kind (opcode_in words) is) ∙ ap kind e) refl
  step_on l c words rest b is (OneSwitch merge control selector default cases e k h) = apart 0 4 (sym (step_kind (opcode_in words) is) ∙ ap kind e) refl

  pub end_on : (l : ℕ) (c : Context) (words : List ℕ) (b : Body) → is_end (opcode_in words) ≡ true → Goes_on l c (words ∷ []) b → b ≡ Finishes words
  end_on l c words b is (AStep w r e i h) = apart 1 0 (sym (end_kind (opcode_in words) is) ∙ ap kind e ∙ step_kind (opcode_in w) i) refl
  end_on l c words b is (AnEnd w e i h) = h ∙ ap Finishes (sym (ap first_line e))
  end_on l c words b is (ABranch t e h) = apart 1 2 (sym (end_kind (opcode_in words) is) ∙ ap kind e) refl
  end_on l c words b is (ASplit condition on x y e h) = apart 1 3 (sym (end_kind (opcode_in words) is) ∙ ap kind e ∙ split_kind condition on x y []) refl
  end_on l c words b is (OneSelection merge control condition x y e k h) = apart 1 4 (sym (end_kind (opcode_in words) is) ∙ ap kind e) refl
  end_on l c words b is (OneSwitch merge control selector default cases e k h) = apart 1 4 (sym (end_kind (opcode_in words) is) ∙ ap kind e) refl

  pub branch_on : (l : ℕ) (c : Context) (t : ℕ) (b : Body) → Goes_on l c (branch_line t ∷ []) b → IsBranch l c t b
  branch_on l c t b (AStep w r e i h) = apart 2 0 (ap kind e ∙ step_kind (opcode_in w) i) refl
  branch_on l c t b (AnEnd w e i h) = apart 2 1 (ap kind e ∙ end_kind (opcode_in w) i) refl
  branch_on l c t b (ABranch u e h) = subst (λ z. IsBranch l c z b) (sym (ap (word_at 1) e)) h
  branch_on l c t b (ASplit condition on x y e h) = apart 2 3 (ap kind e ∙ split_kind condition on x y []) refl
  branch_on l c t b (OneSelection merge control condition x y e k h) = apart 2 4 (ap kind e) refl
  branch_on l c t b (OneSwitch merge control selector default cases e k h) = apart 2 4 (ap kind e) refl

  pub split_on : (l : ℕ) (c : Context) (condition : ℕ) (on : Bool) (x y : ℕ) (b : Body) → Goes_on l c (split_line condition on x y ∷ []) b
      → IsSplit l c condition (cond on x y) (cond on y x) b
  split_on l c condition on x y b (AStep w r e i h) = apart 3 0 (sym (split_kind condition on x y []) ∙ ap kind e ∙ step_kind (opcode_in w) i) refl
  split_on l c condition on x y b (AnEnd w e i h) = apart 3 1 (sym (split_kind condition on x y []) ∙ ap kind e ∙ end_kind (opcode_in w) i) refl
  split_on l c condition on x y b (ABranch t e h) = apart 3 2 (sym (split_kind condition on x y []) ∙ ap kind e) refl
  split_on l c condition on x y b (ASplit k o u v e h) =
      let a : k ≡ condition = sym (split_condition k o u v) ∙ sym (ap (word_at 1) e) ∙ split_condition condition on x y in
      let one : cond o u v ≡ cond on x y = sym (split_one k o u v) ∙ sym (ap (word_at 2) e) ∙ split_one condition on x y in
      let two : cond o v u ≡ cond on y x = sym (split_two k o u v) ∙ sym (ap (word_at 3) e) ∙ split_two condition on x y in
      subst (λ z. IsSplit l c z (cond on x y) (cond on y x) b) a
      (subst (λ z. IsSplit l c k z (cond on y x) b) one (subst (λ z. IsSplit l c k (cond o u v) z b) two h))
  split_on l c condition on x y b (OneSelection merge control k u v e i h) = apart 3 4 (sym (split_kind condition on x y []) ∙ ap kind e) refl
  split_on l c condition on x y b (OneSwitch merge control selector default cases e i h) = apart 3 4 (sym (split_kind condition on x y []) ∙ ap kind e) refl

  pub selection_on : (l : ℕ) (c : Context) (merge control condition x y : ℕ) (b : Body) → construct code l ≡ Some (ASelection merge)
      → Goes_on l c (selection_line merge control ∷ split_line condition true x y ∷ []) b → IsSelection l c merge control condition x y b
  selection_on l c merge control condition x y b is (AStep w r e i h) = apart 4 0 (ap kind e ∙ step_kind (opcode_in w) i) refl
  selection_on l c merge control condition x y b is (AnEnd w e i h) = apart 4 1 (ap kind e ∙ end_kind (opcode_in w) i) refl
  selection_on l c merge control condition x y b is (ABranch t e h) = apart 4 2 (ap kind e) refl
  selection_on l c merge control condition x y b is (ASplit k on u v e h) = apart 4 3 (ap kind e ∙ split_kind k on u v []) refl
  selection_on l c merge control condition x y b is (OneSelection m k o u v e i h) =
      let tail = ap behind_first e in
      subst (λ z. IsSelection l c z control condition x y b) (sym (ap (word_at 1) e))
      (subst (λ z. IsSelection l c m z condition x y b) (sym (ap (word_at 2) e))
      (subst (λ z. IsSelection l c m k z x y b) (sym (ap (word_at 1) tail))
      (subst (λ z. IsSelection l c m k o z y b) (sym (ap (word_at 2) tail)) (subst (λ z. IsSelection l c m k o u z b) (sym (ap (word_at 3) tail)) h))))
  selection_on l c merge control condition x y b is (OneSwitch m k selector default cases e i h) = absurd (cc (is, i))

  pub switch_on : (l : ℕ) (c : Context) (merge control selector default : ℕ) (cases : List (ℕ × ℕ)) (b : Body) → construct code l ≡ Some (ASwitch merge)
      → Goes_on l c (selection_line merge control ∷ instruction op.SWITCH (selector ∷ default ∷ pair_words cases) ∷ []) b
      → IsSwitch l c merge control selector default cases b
  switch_on l c merge control selector default cases b is (AStep w r e i h) = apart 4 0 (ap kind e ∙ step_kind (opcode_in w) i) refl
  switch_on l c merge control selector default cases b is (AnEnd w e i h) = apart 4 1 (ap kind e ∙ end_kind (opcode_in w) i) refl
  switch_on l c merge control selector default cases b is (ABranch t e h) = apart 4 2 (ap kind e) refl
  switch_on l c merge control selector default cases b is (ASplit k on u v e h) = apart 4 3 (ap kind e ∙ split_kind k on u v []) refl
  switch_on l c merge control selector default cases b is (OneSelection m k o u v e i h) = absurd (cc (is, i))
  switch_on l c merge control selector default cases b is (OneSwitch m k s d ps e i h) =
      let tail = ap behind_first e in
      let same : ps ≡ cases = sym (pairs_spelled ps) ∙ sym (ap (λ ls. pairs (drop 3 (first_line ls))) tail) ∙ pairs_spelled cases in
      subst (λ z. IsSwitch l c z control selector default cases b) (sym (ap (word_at 1) e))
      (subst (λ z. IsSwitch l c m z selector default cases b) (sym (ap (word_at 2) e))
      (subst (λ z. IsSwitch l c m k z default cases b) (sym (ap (word_at 1) tail))
      (subst (λ z. IsSwitch l c m k s z cases b) (sym (ap (word_at 2) tail)) (subst (λ z. IsSwitch l c m k s d z b) same h))))
