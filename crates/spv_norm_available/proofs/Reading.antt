-- A function of a module whose instructions use what is available spells a tree that is fine, also where only what is used as a value is known.
use Rattle.std.proofs.Common.{◌≡◌, inl, inr, ℕ, suc, ◌+◌, ◌<◌, Bool, true, false, cond, ◌||◌, ◌==◌, List, [], ◌∷◌, map, drop, take, slice_index, Some, None, refl, sym, ap, subst, ◌∙◌, arith}
use Rattle.std.specs.Prelude.{count_by, slice_get}
use Rattle.std.specs.List.{AllByRecursion, Contains, flat_map}
use Rattle.std.proofs.lemmas.Bool.Decides.{nat_tests}
use Rattle.spv_opcodes.specs.declared.op.TheConstants as op
use Rattle.spv_grammar.specs.Table.{row_of}
use Rattle.spv_module.specs.Code.{is_function}
use Rattle.spv_module.specs.First.{first}
use Rattle.spv_module.specs.Instruction.{Instruction, IsInstruction, opcode, roles}
use Rattle.spv_module.specs.Layout.{group_2}
use Rattle.spv_ids.specs.Ids.{used_ids}
use Rattle.spv_typing.specs.Kinds.{is_one_of}
use Rattle.spv_blocks.specs.Cutting.{pairs, word}
use Rattle.spv_walk.proofs.Unique.{equal_true, truth_apart}
use Rattle.spv_bodies.specs.Bodies.{Function}
use Rattle.spv_bodies.specs.Listing.{instruction}
use Rattle.spv_normal.specs.Lines.{line}
use Rattle.spv_spelling.specs.Spelling.{SpellsFunction}
use Rattle.spv_spelling.specs.Text.{is_phi, text}
use Rattle.spv_spelling.specs.Whole.{AreInstructions, IsAdmitted}
use Rattle.spv_standing.proofs.Fronts.{line_opcode}
use Rattle.spv_tree.specs.Sound.{is_end, is_step, opcode_in}
use Rattle.spv_trees.specs.Standing.{OneOf}
use Rattle.spv_trees.proofs.Members.{one_right}
use Rattle.spv_availability.specs.Places.{function_of}
use Rattle.spv_fine.specs.Fine.{Ids, IsFine, With, defined_in, used_in}
use Rattle.spv_fine.specs.Laws.{IsKnown}
use Rattle.spv_fine_trees.specs.Laws.{KnowsTypes, UsesAreAvailable, lines_of, types_in}
use Rattle.spv_fine_trees.specs.There.{Decides, IsPromised, IsThere, IsValue, OfEnd, OfStep, UsesWhatIsThere}
use Rattle.spv_fine_trees.proofs.Joined as joined
use Rattle.spv_fine_trees.proofs.Reading as reading
use Rattle.spv_fine_trees.proofs.Used.{line_used}
use Rattle.spv_alike.specs.Uses.{namings, value_uses}

-- ---- lists

contains_one : (x : ℕ) (xs : List ℕ) → OneOf x xs → Contains xs x
contains_one x [] o = absurd o
contains_one x (y ∷ xs) (inl e) = (0, omega arith, sym e)
contains_one x (y ∷ xs) (inr o) = let r = contains_one x xs o in (suc r.0, (let w = r.1 in omega (arith, w)), r.2)

first_of : (pair : ℕ × ℕ) (ps : List (ℕ × ℕ)) → OneOf pair ps → OneOf pair.0 (map (λ p. p.0) ps)
first_of pair [] o = absurd o
first_of pair (p ∷ ps) (inl e) = inl (ap (λ x. x.0) e)
first_of pair (p ∷ ps) (inr o) = inr (first_of pair ps o)

-- ---- what a line uses as a value, its instruction does

-- a step, a return and what stands before the first block use no labels
plain_values : (i : Instruction) → (opcode i == op.PHI) ≡ false → (opcode i == op.BRANCH_CONDITIONAL || opcode i == op.SWITCH) ≡ false
    → is_one_of (op.BRANCH ∷ op.SELECTION_MERGE ∷ op.LOOP_MERGE ∷ []) (opcode i) ≡ false → value_uses i ≡ used_ids i
plain_values i p b m = rw (p, b, m) refl

-- a test that tells apart
apart : (test : ℕ → Bool) (o p : ℕ) → test o ≡ true → test p ≡ false → (o == p) ≡ false
apart test o p h g = by (o == p) refl
  where
    by : (b : Bool) → (o == p) ≡ b → b ≡ false
    by true e = truth_apart (test o) h (ap test (equal_true o p e) ∙ g)
    by false e = refl

-- one test for all that have labels
other_values : (test : ℕ → Bool) (i : Instruction) → test (opcode i) ≡ true → test op.PHI ≡ false → test op.BRANCH_CONDITIONAL ≡ false → test op.SWITCH ≡ false
    → test op.BRANCH ≡ false → test op.SELECTION_MERGE ≡ false → test op.LOOP_MERGE ≡ false → value_uses i ≡ used_ids i
other_values test i h a b c d e f =
    let no_a = apart test (opcode i) op.PHI h a in
    let no_b = apart test (opcode i) op.BRANCH_CONDITIONAL h b in
    let no_c = apart test (opcode i) op.SWITCH h c in
    let no_d = apart test (opcode i) op.BRANCH h d in
    let no_e = apart test (opcode i) op.SELECTION_MERGE h e in
    let no_f = apart test (opcode i) op.LOOP_MERGE h f in
    plain_values i no_a (ap (λ x. x || opcode i == op.SWITCH) no_b ∙ no_c)
    (let z : is_one_of (op.BRANCH ∷ op.SELECTION_MERGE ∷ op.LOOP_MERGE ∷ []) (opcode i) ≡ false = grind (arith, nat_tests, no_d, no_e, no_f) in z)

step_values : (i : Instruction) → is_step (opcode i) ≡ true → value_uses i ≡ used_ids i
unfolding row_of
step_values i h = other_values is_step i h refl refl refl refl refl refl

end_values : (i : Instruction) → is_end (opcode i) ≡ true → value_uses i ≡ used_ids i
end_values i h = other_values is_end i h refl refl refl refl refl refl

abbrev begins : ℕ → Bool
begins o = o == op.FUNCTION || o == op.FUNCTION_PARAMETER

begin_values : (i : Instruction) → begins (opcode i) ≡ true → value_uses i ≡ used_ids i
begin_values i h = other_values begins i h refl refl refl refl refl refl

second_word : (ws : List ℕ) → slice_index (instruction op.BRANCH_CONDITIONAL (take 3 (drop 1 ws))) 1 ≡ slice_index ws 1
second_word [] = refl
second_word (a ∷ []) = refl
second_word (a ∷ b ∷ ws) = refl

line_second : (i : Instruction) → slice_index (line i) 1 ≡ word i 1
line_second i = by (opcode i == op.BRANCH_CONDITIONAL)
  where
    by : (b : Bool) → slice_index (cond b (instruction op.BRANCH_CONDITIONAL (take 3 (drop 1 i.words))) i.words) 1 ≡ slice_index i.words 1
    by true = second_word i.words
    by false = refl

deciding_values : (i : Instruction) → (opcode i == op.BRANCH_CONDITIONAL || opcode i == op.SWITCH) ≡ true → value_uses i ≡ word i 1 ∷ []
deciding_values i h =
    let no : (opcode i == op.PHI) ≡ false = apart (λ o. o == op.BRANCH_CONDITIONAL || o == op.SWITCH) (opcode i) op.PHI h refl in
    rw (no, h) refl

-- nor is it one that may name labels
named_by : (test : ℕ → Bool) (i : Instruction) → test (opcode i) ≡ true → test op.NAME ≡ false → test op.MEMBER_NAME ≡ false → test op.SOURCE ≡ false
    → test op.LINE ≡ false → is_one_of namings (opcode i) ≡ false
named_by test i h a b c d =
    let no_a = apart test (opcode i) op.NAME h a in
    let no_b = apart test (opcode i) op.MEMBER_NAME h b in
    let no_c = apart test (opcode i) op.SOURCE h c in
    let no_d = apart test (opcode i) op.LINE h d in
    let z : is_one_of namings (opcode i) ≡ false = grind (arith, nat_tests, no_a, no_b, no_c, no_d) in z

phi_named : (i : Instruction) → opcode i ≡ op.PHI → is_one_of namings (opcode i) ≡ false
phi_named i e = ap (is_one_of namings) e

value_named : (i : Instruction) (words : List ℕ) (id : ℕ) → line i ≡ words → IsValue words id → is_one_of namings (opcode i) ≡ false
unfolding row_of
value_named i words id e (OfStep h) = named_by is_step i (ap is_step (sym (line_opcode i) ∙ ap opcode_in e) ∙ h) refl refl refl refl
value_named i words id e (OfEnd h) = named_by is_end i (ap is_end (sym (line_opcode i) ∙ ap opcode_in e) ∙ h) refl refl refl refl
value_named i words id e (Decides h is) =
    named_by (λ o. o == op.BRANCH_CONDITIONAL || o == op.SWITCH) i (ap (λ x. x == op.BRANCH_CONDITIONAL || x == op.SWITCH) (sym (line_opcode i) ∙ ap opcode_in e) ∙ h) refl refl refl refl

used_value : (i : Instruction) (words : List ℕ) (id : ℕ) → IsInstruction i.words (roles i) → line i ≡ words → OneOf id (used_in words) → IsValue words id
    → Contains (value_uses i) id
used_value i words id whole e o (OfStep h) =
    subst (λ ids. Contains ids id) (sym (step_values i (ap is_step (sym (line_opcode i) ∙ ap opcode_in e) ∙ h)))
    (contains_one id (used_ids i) (line_used i whole id (subst (λ w. OneOf id (used_in w)) (sym e) o)))
used_value i words id whole e o (OfEnd h) =
    subst (λ ids. Contains ids id) (sym (end_values i (ap is_end (sym (line_opcode i) ∙ ap opcode_in e) ∙ h)))
    (contains_one id (used_ids i) (line_used i whole id (subst (λ w. OneOf id (used_in w)) (sym e) o)))
used_value i words id whole e o (Decides h is) =
    subst (λ ids. Contains ids id) (sym (deciding_values i (ap (λ x. x == op.BRANCH_CONDITIONAL || x == op.SWITCH) (sym (line_opcode i) ∙ ap opcode_in e) ∙ h)))
    (0, omega arith, sym (line_second i) ∙ ap (λ w. slice_index w 1) e ∙ is)

phi_values : (i : Instruction) → opcode i ≡ op.PHI → value_uses i ≡ word i 1 ∷ map (λ pair. pair.0) (pairs (drop 3 i.words))
phi_values i h =
    ap (λ o. cond (o == op.PHI) (slice_index i.words 1 ∷ map (λ pair. pair.0) (pairs (drop 3 i.words)))
    (cond (o == op.BRANCH_CONDITIONAL || o == op.SWITCH) (slice_index i.words 1 ∷ [])
    (cond (is_one_of (op.BRANCH ∷ op.SELECTION_MERGE ∷ op.LOOP_MERGE ∷ []) o) [] (used_ids i)))) h

phi_line : (i : Instruction) (words : List ℕ) → line i ≡ words → is_phi words ≡ true → (opcode i ≡ op.PHI) × (i.words ≡ words)
phi_line i words e h =
    let phi : opcode i ≡ op.PHI = sym (line_opcode i) ∙ ap opcode_in e ∙ equal_true (opcode_in words) op.PHI h in (
      phi,
      sym (ap (λ o. cond (o == op.BRANCH_CONDITIONAL) (instruction op.BRANCH_CONDITIONAL (take 3 (drop 1 i.words))) i.words) phi) ∙ e,
    )

module _ (insts : List Instruction) (end k : ℕ) (stays : ℕ → ℕ) (f : Function) (each : AreInstructions insts)
    (found : first (group_2 end insts) ≡ None) (within : k < count_by is_function insts) (admitted : IsAdmitted (lines_of insts k))
    (spells : SpellsFunction (lines_of insts k) stays f) (types : KnowsTypes insts k) (all : UsesAreAvailable insts) (Known : Ids)
    (knows : (n : ℕ) (i : Instruction) → slice_get insts n ≡ Some i → function_of insts n ≡ k + 1 → is_one_of namings (opcode i) ≡ false
    → (id : ℕ) → Contains (value_uses i) id → IsKnown insts id → Known id) where
  abbrev lines : List Instruction
  lines = lines_of insts k

  abbrev Before : Ids
  Before = With (IsKnown insts) (flat_map defined_in f.parameters)

  abbrev Free : Ids
  Free = With Known (flat_map defined_in f.parameters)

  uses_there : UsesWhatIsThere lines Before
  uses_there = joined.uses_there insts end k stays f each found within admitted spells types all

  freed : (id : ℕ) → (IsKnown insts id → Known id) → Before id → Free id
  freed id more (inl h) = inl (more h)
  freed id more (inr h) = inr h

  there : (l : ℕ) (front : List (List ℕ)) (id : ℕ) → (IsKnown insts id → Known id) → IsThere lines Before l front id → IsThere lines Free l front id
  there l front id more (inl h) = inl (freed id more h)
  there l front id more (inr h) = inr h

  uses_free : UsesWhatIsThere lines Free
  uses_free = record {
    plain = λ l front words rest e quiet id o value.
        let s = joined.line_stands insts end k stays f each found within admitted spells types all l words
        (subst (OneOf words) (sym e) (one_right words front (words ∷ rest) (inl refl))) in
        there l front id (knows s.n s.inst s.stands s.inside (value_named s.inst words id s.line_is value) id (used_value s.inst words id (each s.n s.inst s.stands) s.line_is o value))
        (uses_there.plain l front words rest e quiet id o value);
    values = λ l words o h pair among.
        let s = joined.line_stands insts end k stays f each found within admitted spells types all l words o in
        let phi = phi_line s.inst words s.line_is h in
        there pair.1 (text lines pair.1) pair.0
        (knows s.n s.inst s.stands s.inside (phi_named s.inst phi.0) pair.0
        (subst (λ ids. Contains ids pair.0) (sym (phi_values s.inst phi.0))
        (contains_one pair.0 (word s.inst 1 ∷ map (λ p. p.0) (pairs (drop 3 s.inst.words)))
        (inr (first_of pair (pairs (drop 3 s.inst.words)) (subst (λ w. OneOf pair (pairs (drop 3 w))) (sym phi.1) among))))))
        (uses_there.values l words o h pair among);
    types = λ l words o h.
        let s = joined.line_stands insts end k stays f each found within admitted spells types all l words o in
        let phi = phi_line s.inst words s.line_is h in
        freed (slice_index words 1)
        (knows s.n s.inst s.stands s.inside (phi_named s.inst phi.0) (slice_index words 1)
        (subst (λ ids. Contains ids (slice_index words 1)) (sym (phi_values s.inst phi.0)) (0, omega arith, ap (λ w. slice_index w 1) phi.1)))
        (uses_there.types l words o h);
  }

  -- the types that stand before the first block and in OpPhi
  each_known : (n : ℕ) (i : Instruction) → slice_get insts n ≡ Some i → function_of insts n ≡ k + 1 → is_one_of namings (opcode i) ≡ false → (ids : List ℕ)
      → ((id : ℕ) → OneOf id ids → Contains (value_uses i) id) → AllByRecursion (IsKnown insts) ids → AllByRecursion Known ids
  each_known n i at inside named [] among h = tt
  each_known n i at inside named (id ∷ ids) among h =
      (knows n i at inside named id (among id (inl refl)) h.0, each_known n i at inside named ids (λ x o. among x (inr o)) h.1)

  types_known : (n : ℕ) (i : Instruction) → slice_get insts n ≡ Some i → function_of insts n ≡ k + 1 → AllByRecursion Known (types_in i)
  types_known n i at inside = by (opcode i == op.PHI) (begins (opcode i)) refl refl
    where
      of_types : (p b : Bool) → (opcode i == op.PHI) ≡ p → begins (opcode i) ≡ b → types_in i ≡ cond p (word i 1 ∷ []) (cond b (used_ids i) [])
      of_types p b e g = ap (λ z. cond z (word i 1 ∷ []) (cond (begins (opcode i)) (used_ids i) [])) e ∙ ap (λ z. cond p (word i 1 ∷ []) (cond z (used_ids i) [])) g

      by : (p b : Bool) → (opcode i == op.PHI) ≡ p → begins (opcode i) ≡ b → AllByRecursion Known (types_in i)
      by true b e g =
          let phi : opcode i ≡ op.PHI = equal_true (opcode i) op.PHI e in
          each_known n i at inside (phi_named i phi) (types_in i) (λ id o.
          let o2 : OneOf id (word i 1 ∷ []) = subst (OneOf id) (of_types true b e g) o in
          subst (λ ids. Contains ids id) (sym (phi_values i phi))
          (contains_one id (word i 1 ∷ map (λ p. p.0) (pairs (drop 3 i.words))) (elim o2 [ inl h ↦ inl h | inr none ↦ absurd none ]))) (types n i at inside)
      by false true e g =
          each_known n i at inside (named_by begins i g refl refl refl refl) (types_in i) (λ id o.
          subst (λ ids. Contains ids id) (sym (begin_values i g)) (contains_one id (used_ids i) (subst (OneOf id) (of_types false true e g) o))) (types n i at inside)
      by false false e g = subst (AllByRecursion Known) (sym (of_types false false e g)) tt

  pub read_known : IsFine Known (IsPromised lines) f
  read_known =
      let heads = joined.heads_of insts end k stays f each found within admitted spells types all Known types_known in
      record { function = heads.0; parameters = heads.1; body = reading.reads lines stays f admitted spells Free uses_free }
