-- The ids that an instruction uses: those that it uses as values, and the labels that OpPhi, branches and merge instructions name.
use Rattle.std.proofs.Common.{◌≡◌, ℕ, suc, ◌≤◌, ◌%◌, Bool, true, false, cond, ◌==◌, ◌||◌, List, [], ◌∷◌, ◌++◌, length, map, drop, replicate, Some, refl, sym, ap, ap₂, subst, ◌∙◌, arith}
use Rattle.std.specs.List.{AllByRecursion, filter, slice_index, zip}
use Rattle.std.specs.Option.{option_and_then, option_map}
use Rattle.spv_opcodes.specs.declared.op.TheConstants as op
use Rattle.spv_grammar.specs.declared.kind.Role.{Role}
use Rattle.spv_grammar.specs.declared.kind.Role.TheVariants.{Opcode, TypeId, DefinedId, UsedId, Literal, UnknownEnumerant}
use Rattle.spv_grammar.specs.declared.kind.Kind.TheVariants.{Id, IdPairs, One, Weights, Cases}
use Rattle.spv_grammar.specs.Operands.{Taken, all_if, in_turn, mark, operand_roles}
use Rattle.spv_grammar.specs.Table.{row_of}
use Rattle.spv_module.specs.Instruction.{Instruction, IsInstruction, opcode, roles}
use Rattle.spv_ids.specs.Ids.{is_needed, used_ids}
use Rattle.spv_typing.specs.Kinds.{is_one_of}
use Rattle.spv_grammar.specs.Enumerants.{is_known}
use Rattle.spv_grammar.specs.declared.kind.Enumerant.{Enumerant}
use Rattle.spv_grammar.specs.declared.kind.Enumerant.TheVariants.{SelectionControl, LoopControl}
use Rattle.spv_blocks.specs.Blocks.{Branch, BranchIf, Switch, Return, Unreachable, Open, seconds, end_targets}
use Rattle.spv_walk.proofs.Unique.{equal_true, true_equal}
use Rattle.spv_declarations.proofs.Parts.{nil-words, one-front, row-words, typed-parts}
use Rattle.spv_blocks.specs.Cutting.{pairs}

-- the ids among words that play these parts
abbrev used : List Role → List ℕ → List ℕ
used rs ws = map (λ part. part.1) (filter (λ part. is_needed part.0) (zip rs ws))

abbrev IsFormed : Instruction → Type 0
IsFormed i = IsInstruction i.words (roles i)

-- ---- parts of one kind

all_used : (ws : List ℕ) → used (replicate (length ws) UsedId) ws ≡ ws
all_used [] = refl
all_used (w ∷ ws) = ap (λ z. w ∷ z) (all_used ws)

none_used : (ws : List ℕ) → used (replicate (length ws) Literal) ws ≡ []
none_used [] = refl
none_used (w ∷ ws) = none_used ws

turns_used : (ws : List ℕ) → used (in_turn ws) ws ≡ seconds (pairs ws)
turns_used [] = refl
turns_used (w ∷ []) = refl
turns_used (w ∷ v ∷ ws) = ap (λ z. v ∷ z) (turns_used ws)

append_nil : (rs : List Role) → rs ++ [] ≡ rs
append_nil [] = refl
append_nil (r ∷ rs) = ap (λ x. r ∷ x) (append_nil rs)

-- what takes all words, if it takes them
taken_all : (fits : Bool) (rs others : List Role)
    → option_and_then (λ (t : Taken). option_map (λ roles. t.roles ++ roles) (operand_roles [] t.rest)) (all_if fits rs) ≡ Some others → others ≡ rs
taken_all true rs others h = (let e : rs ++ [] ≡ others = cc h in sym e) ∙ append_nil rs
taken_all false rs others h = absurd (cc h)

-- a last enumerant
mark_last : (known : Bool) (w : ℕ) (ws : List ℕ) (others : List Role)
    → option_map (λ roles. mark known ∷ roles) (operand_roles [] ws) ≡ Some others → used others (w ∷ ws) ≡ []
mark_last true w [] others h = ap (λ rs. used rs (w ∷ [])) (let e : Literal ∷ [] ≡ others = cc h in sym e)
mark_last false w [] others h = ap (λ rs. used rs (w ∷ [])) (let e : UnknownEnumerant ∷ [] ≡ others = cc h in sym e)
mark_last true w (v ∷ ws) others h = absurd (cc h)
mark_last false w (v ∷ ws) others h = absurd (cc h)

-- ---- by the row of the opcode

pub branch_uses : (i : Instruction) → IsFormed i → opcode i ≡ op.BRANCH → used_ids i ≡ slice_index i.words 1 ∷ []
unfolding row_of
branch_uses i formed e =
    let r = row-words op.BRANCH _ i.words (roles i) refl refl e formed.parted in
    let a = one-front UsedId [] r.rest r.others r.fit in
    let z = nil-words a.rest a.others a.fit in
    let words : i.words ≡ r.word ∷ a.word ∷ [] = r.words_are ∙ ap (λ ws. r.word ∷ ws) (a.words_are ∙ ap (λ ws. a.word ∷ ws) z.0) in
    let parts : roles i ≡ Opcode ∷ UsedId ∷ [] = r.parts_are ∙ ap (λ rs. Opcode ∷ rs) (a.parts_are ∙ ap (λ rs. UsedId ∷ rs) z.1) in
    ap₂ used parts words ∙ sym (ap (λ ws. slice_index ws 1 ∷ []) words)

pub conditional_uses : (i : Instruction) → IsFormed i → opcode i ≡ op.BRANCH_CONDITIONAL
    → used_ids i ≡ slice_index i.words 1 ∷ slice_index i.words 2 ∷ slice_index i.words 3 ∷ []
unfolding row_of
conditional_uses i formed e =
    let r = row-words op.BRANCH_CONDITIONAL _ i.words (roles i) refl refl e formed.parted in
    let a = one-front UsedId (Id ∷ Id ∷ Weights ∷ []) r.rest r.others r.fit in
    let b = one-front UsedId (Id ∷ Weights ∷ []) a.rest a.others a.fit in
    let c = one-front UsedId (Weights ∷ []) b.rest b.others b.fit in
    let words : i.words ≡ r.word ∷ a.word ∷ b.word ∷ c.word ∷ c.rest =
    r.words_are ∙ ap (λ ws. r.word ∷ ws) (a.words_are ∙ ap (λ ws. a.word ∷ ws) (b.words_are ∙ ap (λ ws. b.word ∷ ws) c.words_are)) in
    let parts : roles i ≡ Opcode ∷ UsedId ∷ UsedId ∷ UsedId ∷ replicate (length c.rest) Literal =
    r.parts_are
    ∙ ap (λ rs. Opcode ∷ rs)
    (a.parts_are ∙ ap (λ rs. UsedId ∷ rs) (b.parts_are ∙ ap (λ rs. UsedId ∷ rs) (c.parts_are ∙ ap (λ rs. UsedId ∷ rs)
    (taken_all _ (replicate (length c.rest) Literal) c.others c.fit)))) in
    ap₂ used parts words ∙ ap (λ z. a.word ∷ b.word ∷ c.word ∷ z) (none_used c.rest)
    ∙ sym (ap (λ ws. slice_index ws 1 ∷ slice_index ws 2 ∷ slice_index ws 3 ∷ []) words)

pub switch_uses : (i : Instruction) → IsFormed i → opcode i ≡ op.SWITCH
    → used_ids i ≡ slice_index i.words 1 ∷ slice_index i.words 2 ∷ seconds (pairs (drop 3 i.words))
unfolding row_of
switch_uses i formed e =
    let r = row-words op.SWITCH _ i.words (roles i) refl refl e formed.parted in
    let a = one-front UsedId (Id ∷ Cases 16383 ∷ []) r.rest r.others r.fit in
    let b = one-front UsedId (Cases 16383 ∷ []) a.rest a.others a.fit in
    let words : i.words ≡ r.word ∷ a.word ∷ b.word ∷ b.rest =
    r.words_are ∙ ap (λ ws. r.word ∷ ws) (a.words_are ∙ ap (λ ws. a.word ∷ ws) b.words_are) in
    let parts : roles i ≡ Opcode ∷ UsedId ∷ UsedId ∷ in_turn b.rest =
    r.parts_are ∙ ap (λ rs. Opcode ∷ rs) (a.parts_are ∙ ap (λ rs. UsedId ∷ rs) (b.parts_are ∙ ap (λ rs. UsedId ∷ rs)
    (taken_all _ (in_turn b.rest) b.others b.fit))) in
    ap₂ used parts words ∙ ap (λ z. a.word ∷ b.word ∷ z) (turns_used b.rest)
    ∙ sym (ap (λ ws. slice_index ws 1 ∷ slice_index ws 2 ∷ seconds (pairs (drop 3 ws))) words)

pub phi_uses : (i : Instruction) → IsFormed i → opcode i ≡ op.PHI → used_ids i ≡ slice_index i.words 1 ∷ drop 3 i.words
unfolding row_of
phi_uses i formed e =
    let p = typed-parts op.PHI _ (IdPairs ∷ []) i.words (roles i) refl refl refl e formed.parted in
    let f = p.front in
    let parts : roles i ≡ Opcode ∷ TypeId ∷ DefinedId ∷ replicate (length f.rest) UsedId =
    f.parts_are ∙ ap (λ rs. Opcode ∷ TypeId ∷ DefinedId ∷ rs) (taken_all _ (replicate (length f.rest) UsedId) f.others p.fit) in
    ap₂ used parts f.words_are ∙ ap (λ z. f.type ∷ z) (all_used f.rest) ∙ sym (ap (λ ws. slice_index ws 1 ∷ drop 3 ws) f.words_are)

one_last : (e : Enumerant) (ws : List ℕ) (others : List Role) → operand_roles (One e ∷ []) ws ≡ Some others → used others ws ≡ []
one_last e [] others h = absurd (cc h)
one_last e (w ∷ ws) others h = mark_last (is_known e w) w ws others h

pub selection_uses : (i : Instruction) → IsFormed i → opcode i ≡ op.SELECTION_MERGE → used_ids i ≡ slice_index i.words 1 ∷ []
unfolding row_of
selection_uses i formed e =
    let r = row-words op.SELECTION_MERGE _ i.words (roles i) refl refl e formed.parted in
    let a = one-front UsedId (One SelectionControl ∷ []) r.rest r.others r.fit in
    let words : i.words ≡ r.word ∷ a.word ∷ a.rest = r.words_are ∙ ap (λ ws. r.word ∷ ws) a.words_are in
    let parts : roles i ≡ Opcode ∷ UsedId ∷ a.others = r.parts_are ∙ ap (λ rs. Opcode ∷ rs) a.parts_are in
    ap₂ used parts words ∙ ap (λ z. a.word ∷ z) (one_last SelectionControl a.rest a.others a.fit) ∙ sym (ap (λ ws. slice_index ws 1 ∷ []) words)

pub loop_uses : (i : Instruction) → IsFormed i → opcode i ≡ op.LOOP_MERGE → used_ids i ≡ slice_index i.words 1 ∷ slice_index i.words 2 ∷ []
unfolding row_of
loop_uses i formed e =
    let r = row-words op.LOOP_MERGE _ i.words (roles i) refl refl e formed.parted in
    let a = one-front UsedId (Id ∷ One LoopControl ∷ []) r.rest r.others r.fit in
    let b = one-front UsedId (One LoopControl ∷ []) a.rest a.others a.fit in
    let words : i.words ≡ r.word ∷ a.word ∷ b.word ∷ b.rest = r.words_are ∙ ap (λ ws. r.word ∷ ws) (a.words_are ∙ ap (λ ws. a.word ∷ ws) b.words_are) in
    let parts : roles i ≡ Opcode ∷ UsedId ∷ UsedId ∷ b.others = r.parts_are ∙ ap (λ rs. Opcode ∷ rs) (a.parts_are ∙ ap (λ rs. UsedId ∷ rs) b.parts_are) in
    ap₂ used parts words ∙ ap (λ z. a.word ∷ b.word ∷ z) (one_last LoopControl b.rest b.others b.fit)
    ∙ sym (ap (λ ws. slice_index ws 1 ∷ slice_index ws 2 ∷ []) words)

-- an OpPhi has its words, and pairs behind its result
pub record IsPhi (ws : List ℕ) : Type 0 where
  pub head : ℕ
  pub type : ℕ
  pub name : ℕ
  pub rest : List ℕ
  pub same : ws ≡ head ∷ type ∷ name ∷ rest
  pub even : (length rest % 2 == 0) ≡ true

taken_fits : (fits : Bool) (rs others : List Role)
    → option_and_then (λ (t : Taken). option_map (λ roles. t.roles ++ roles) (operand_roles [] t.rest)) (all_if fits rs) ≡ Some others → fits ≡ true
taken_fits true rs others h = refl
taken_fits false rs others h = absurd (cc h)

pub is_phi : (i : Instruction) → IsFormed i → opcode i ≡ op.PHI → IsPhi i.words
unfolding row_of
is_phi i formed e =
    let p = typed-parts op.PHI _ (IdPairs ∷ []) i.words (roles i) refl refl refl e formed.parted in
    let f = p.front in
    record {
      head = f.word;
      type = f.type;
      name = f.result;
      rest = f.rest;
      same = f.words_are;
      even = taken_fits (length f.rest % 2 == 0) (replicate (length f.rest) UsedId) f.others p.fit;
    }

-- ---- values and labels

-- the ids that an instruction uses, but for the labels that OpPhi, terminators and merge instructions name; by its opcode
abbrev pub values_by : ℕ → List ℕ → (used : List ℕ) → List ℕ
values_by o ws ids =
    cond (o == op.PHI) (slice_index ws 1 ∷ map (λ pair. pair.0) (pairs (drop 3 ws)))
    (cond (o == op.BRANCH_CONDITIONAL || o == op.SWITCH) (slice_index ws 1 ∷ [])
    (cond (is_one_of (op.BRANCH ∷ op.SELECTION_MERGE ∷ op.LOOP_MERGE ∷ []) o) [] ids))

abbrev pub values : Instruction → List ℕ
values i = values_by (opcode i) i.words (used_ids i)

-- and those labels
abbrev pub labels_by : ℕ → List ℕ → List ℕ
labels_by o ws =
    cond (o == op.PHI) (seconds (pairs (drop 3 ws)))
    (cond (o == op.SELECTION_MERGE) (slice_index ws 1 ∷ [])
    (cond (o == op.LOOP_MERGE) (slice_index ws 1 ∷ slice_index ws 2 ∷ [])
    (end_targets
    (cond (o == op.BRANCH) (Branch (slice_index ws 1))
    (cond (o == op.BRANCH_CONDITIONAL) (BranchIf (slice_index ws 2) (slice_index ws 3))
    (cond (o == op.SWITCH) (Switch (slice_index ws 2) (pairs (drop 3 ws)))
    (cond (o == op.RETURN || o == op.RETURN_VALUE) Return
    (cond (o == op.UNREACHABLE) Unreachable
    Open))))))))

abbrev pub labels : Instruction → List ℕ
labels i = labels_by (opcode i) i.words

even_less : (n : ℕ) → (suc (suc n) % 2 == 0) ≡ true → (n % 2 == 0) ≡ true
even_less n h = let e = equal_true (suc (suc n) % 2) 0 h in true_equal (n % 2) 0 (omega (arith, e))

module _ (P : ℕ → Type 0) where
  -- values and labels in turn
  pairs_all : (ws : List ℕ) → (length ws % 2 == 0) ≡ true → AllByRecursion P (map (λ pair. pair.0) (pairs ws)) → AllByRecursion P (seconds (pairs ws))
      → AllByRecursion P ws
  pairs_all [] even h g = tt
  pairs_all (x ∷ []) even h g = absurd (cc even)
  pairs_all (x ∷ y ∷ ws) even h g = (h.0, (g.0, pairs_all ws (even_less (length ws) even) h.1 g.1))

  all_firsts : (ws : List ℕ) → AllByRecursion P ws → AllByRecursion P (map (λ pair. pair.0) (pairs ws))
  all_firsts [] h = tt
  all_firsts (x ∷ []) h = tt
  all_firsts (x ∷ y ∷ ws) h = (h.0, all_firsts ws h.1.1)

  -- the first value stands before the first label
  pub first_value : (ws : List ℕ) → (length ws % 2 == 0) ≡ true → 1 ≤ length ws → AllByRecursion P (map (λ pair. pair.0) (pairs ws)) → P (slice_index ws 0)
  first_value [] even some h = absurd (omega (arith, some))
  first_value (x ∷ []) even some h = absurd (cc even)
  first_value (x ∷ y ∷ ws) even some h = h.0

  -- what holds of values and labels holds of all ids that are used
  pub used_all : (i : Instruction) → IsFormed i → AllByRecursion P (values i) → AllByRecursion P (labels i) → AllByRecursion P (used_ids i)
  used_all i formed v l =
      by (opcode i == op.PHI) (opcode i == op.BRANCH_CONDITIONAL) (opcode i == op.SWITCH) (opcode i == op.BRANCH) (opcode i == op.SELECTION_MERGE)
      (opcode i == op.LOOP_MERGE)
      refl refl refl refl refl refl
    where
      at : (o : ℕ) → opcode i ≡ o → AllByRecursion P (values_by o i.words (used_ids i)) × AllByRecursion P (labels_by o i.words)
      at o e = (subst (λ k. AllByRecursion P (values_by k i.words (used_ids i))) e v, subst (λ k. AllByRecursion P (labels_by k i.words)) e l)

      others : (p c s b m n : Bool) → p ≡ false → c ≡ false → s ≡ false → b ≡ false → m ≡ false → n ≡ false
          → AllByRecursion P
          (cond p (slice_index i.words 1 ∷ map (λ pair. pair.0) (pairs (drop 3 i.words)))
          (cond (c || s) (slice_index i.words 1 ∷ []) (cond (b || (m || (n || false))) [] (used_ids i))))
          → AllByRecursion P (used_ids i)
      others false false false false false false e f g h j k all = all
      others true c s b m n e f g h j k all = absurd (cc e)
      others false true s b m n e f g h j k all = absurd (cc f)
      others false false true b m n e f g h j k all = absurd (cc g)
      others false false false true m n e f g h j k all = absurd (cc h)
      others false false false false true n e f g h j k all = absurd (cc j)
      others false false false false false true e f g h j k all = absurd (cc k)

      by : (p c s b m n : Bool) → (opcode i == op.PHI) ≡ p → (opcode i == op.BRANCH_CONDITIONAL) ≡ c → (opcode i == op.SWITCH) ≡ s →
          (opcode i == op.BRANCH) ≡ b
          → (opcode i == op.SELECTION_MERGE) ≡ m → (opcode i == op.LOOP_MERGE) ≡ n → AllByRecursion P (used_ids i)
      by true c s b m n e f g h j k =
          let o = equal_true (opcode i) op.PHI e in
          let a = at op.PHI o in
          let ws = is_phi i formed o in
          let rest : drop 3 i.words ≡ ws.rest = ap (drop 3) ws.same in
          subst (AllByRecursion P) (sym (phi_uses i formed o))
          (a.0.0, pairs_all (drop 3 i.words) (ap (λ z. length z % 2 == 0) rest ∙ ws.even) a.0.1 a.1)
      by false true s b m n e f g h j k =
          let o = equal_true (opcode i) op.BRANCH_CONDITIONAL f in
          let a = at op.BRANCH_CONDITIONAL o in
          subst (AllByRecursion P) (sym (conditional_uses i formed o)) (a.0.0, a.1)
      by false false true b m n e f g h j k =
          let o = equal_true (opcode i) op.SWITCH g in
          let a = at op.SWITCH o in
          subst (AllByRecursion P) (sym (switch_uses i formed o)) (a.0.0, a.1)
      by false false false true m n e f g h j k =
          let o = equal_true (opcode i) op.BRANCH h in
          subst (AllByRecursion P) (sym (branch_uses i formed o)) (at op.BRANCH o).1
      by false false false false true n e f g h j k =
          let o = equal_true (opcode i) op.SELECTION_MERGE j in
          subst (AllByRecursion P) (sym (selection_uses i formed o)) (at op.SELECTION_MERGE o).1
      by false false false false false true e f g h j k =
          let o = equal_true (opcode i) op.LOOP_MERGE k in
          subst (AllByRecursion P) (sym (loop_uses i formed o)) (at op.LOOP_MERGE o).1
      by false false false false false false e f g h j k =
          others (opcode i == op.PHI) (opcode i == op.BRANCH_CONDITIONAL) (opcode i == op.SWITCH) (opcode i == op.BRANCH) (opcode i == op.SELECTION_MERGE)
          (opcode i == op.LOOP_MERGE)
          e f g h j k v

  -- values are used
  pub values_all : (i : Instruction) → IsFormed i → AllByRecursion P (used_ids i) → AllByRecursion P (values i)
  values_all i formed u = by (opcode i == op.PHI) (opcode i == op.BRANCH_CONDITIONAL) (opcode i == op.SWITCH) refl refl refl where
    last : (b : Bool) → AllByRecursion P (cond b [] (used_ids i))
    last true = tt
    last false = u

    by : (p c s : Bool) → (opcode i == op.PHI) ≡ p → (opcode i == op.BRANCH_CONDITIONAL) ≡ c → (opcode i == op.SWITCH) ≡ s
        → AllByRecursion P
        (cond p (slice_index i.words 1 ∷ map (λ pair. pair.0) (pairs (drop 3 i.words)))
        (cond (c || s) (slice_index i.words 1 ∷ []) (cond (is_one_of (op.BRANCH ∷ op.SELECTION_MERGE ∷ op.LOOP_MERGE ∷ []) (opcode i)) [] (used_ids i))))
    by true c s e f g = let a = subst (AllByRecursion P) (phi_uses i formed (equal_true (opcode i) op.PHI e)) u in (a.0, all_firsts (drop 3 i.words) a.1)
    by false true s e f g = let a = subst (AllByRecursion P) (conditional_uses i formed (equal_true (opcode i) op.BRANCH_CONDITIONAL f)) u in (a.0, tt)
    by false false true e f g = let a = subst (AllByRecursion P) (switch_uses i formed (equal_true (opcode i) op.SWITCH g)) u in (a.0, tt)
    by false false false e f g = last (is_one_of (op.BRANCH ∷ op.SELECTION_MERGE ∷ op.LOOP_MERGE ∷ []) (opcode i))
