-- A function of a module whose instructions use what is available: its lines use what is there.
use Rattle.std.proofs.Common.{◌≡◌, ◌⊎◌, inl, inr, ℕ, suc, ◌+◌, ◌-◌, ◌<◌, true, false, cond, ◌==◌, ◌||◌, List, [], ◌∷◌, ◌++◌, drop, length, take, slice_index, Some, None, refl, sym, ap, subst, ◌∙◌, arith}
use Rattle.std.specs.List.{AllByRecursion, Contains, count_by, flat_map, slice_get}
use Rattle.std.specs.Option.{option_map_or}
use Rattle.spv_opcodes.specs.declared.op.TheConstants as op
use Rattle.spv_grammar.specs.Table.{row_of}
use Rattle.spv_module.specs.Code.{is_function, is_line}
use Rattle.spv_module.specs.First.{first}
use Rattle.spv_module.specs.Instruction.{Instruction, IsInstruction, opcode, roles}
use Rattle.spv_module.specs.Layout.{group_2}
use Rattle.spv_ids.specs.Ids.{definition, defines, place_of, used_ids}
use Rattle.spv_ids.proofs.Places.{find-position}
use Rattle.spv_blocks.specs.Blocks.{Code}
use Rattle.spv_blocks.specs.Cutting.{blocks_of, function_insts, is_function_end, is_label_mark, pairs, word}
use Rattle.spv_walk.proofs.Unique.{equal_true, truth_apart}
use Rattle.spv_bodies.specs.Bodies.{Function}
use Rattle.spv_bodies.specs.Listing.{instruction}
use Rattle.spv_normal.specs.Lines.{line}
use Rattle.spv_tree.specs.Sound.{is_step, opcode_in}
use Rattle.spv_tree.specs.Tree.{words_of}
use Rattle.spv_trees.specs.Standing.{OneOf}
use Rattle.spv_trees.proofs.Members.{one_left, one_right}
use Rattle.spv_structured.proofs.Lists.{all_at, one_map}
use Rattle.spv_standing.proofs.Fronts.{line_opcode}
use Rattle.spv_spelling.specs.Spelling.{SpellsFunction}
use Rattle.spv_spelling.specs.Text.{is_phi, phi_pairs, text}
use Rattle.spv_spelling.specs.Whole.{AreInstructions, IsAdmitted, IsText}
use Rattle.spv_texts.proofs.Marks.{blocks_without_marks}
use Rattle.spv_ways.specs.Ways.{AllPass}
use Rattle.spv_availability.specs.Availability.{Available, Outside, Everywhere, Parameter, Earlier, Passed, ComesBefore, IsAvailable, code_of, end_of, id_use, is_everywhere, pair_use, phi_uses, plain_uses, uses}
use Rattle.spv_availability.specs.Places as places
use Rattle.spv_availability.specs.Places.{Place, function_of, last_label, place_at}
use Rattle.spv_fine.specs.Fine.{Ids, IsFine, With, defined_in, used_in}
use Rattle.spv_fine.specs.Laws.{IsKnown}
use Rattle.spv_fine_trees.specs.There.{IsValue, IsPromised, IsThere, UsesWhatIsThere}
use Rattle.spv_fine_trees.specs.Laws.{KnowsTypes, LinesAreFine, ReadIsFine, UsesAreAvailable, lines_of, types_in}
use Rattle.spv_fine_trees.proofs.Definers.{IsDefiner, OfAll, OfParameter, OfBlock, block_defines, definer, early, front_of_text, no_end, no_mark, of_parameters}
use Rattle.spv_fine_trees.proofs.Inside as inside
use Rattle.spv_fine_trees.proofs.Inside.{LineSpot, Spot, found_passes, no_ends, spot_of, spot_of_line, tidy}
use Rattle.spv_fine_trees.proofs.Reading.{reads}
use Rattle.spv_fine_trees.proofs.Spots.{LastLabel, LineOf, in_block, in_front, last_cut, last_is, line_of}
use Rattle.spv_fine_trees.proofs.Unmarked.{last_both, split_before}
use Rattle.spv_fine_trees.proofs.Used.{line_used}

-- ---- lists

contains_one : {X : Type 0} (x : X) (xs : List X) → OneOf x xs → Contains xs x
contains_one x [] o = absurd o
contains_one x (y ∷ xs) (inl e) = (0, omega arith, sym e)
contains_one x (y ∷ xs) (inr o) = let r = contains_one x xs o in (suc r.0, omega (arith, r.1), r.2)

pub record Split {X : Type 0} (xs : List X) (x : X) : Type 0 where
  pub before : List X
  pub after : List X
  pub same : xs ≡ before ++ x ∷ after

one_at : {X : Type 0} (x : X) (xs : List X) → OneOf x xs → Split xs x
one_at x [] o = absurd o
one_at x (y ∷ ys) (inl e) = record { before = []; after = ys; same = ap (λ z. z ∷ ys) (sym e) }
one_at x (y ∷ ys) (inr o) = let r = one_at x ys o in record { before = y ∷ r.before; after = r.after; same = ap (λ z. y ∷ z) r.same }

parameter_no_step : (o : ℕ) → o ≡ op.FUNCTION_PARAMETER → is_step o ≡ true → {P : Type 0} → P
unfolding row_of
parameter_no_step o e h = truth_apart (is_step o) h (ap is_step e)

phi_no_parameter : (o : ℕ) → o ≡ op.FUNCTION_PARAMETER → o ≡ op.PHI → ⊥
phi_no_parameter o e h = cc (e, h)

module _ (insts : List Instruction) (end k : ℕ) (stays : ℕ → ℕ) (f : Function) (each : AreInstructions insts)
    (found : first (group_2 end insts) ≡ None) (within : k < count_by is_function insts) (admitted : IsAdmitted (lines_of insts k))
    (spells : SpellsFunction (lines_of insts k) stays f) (types : KnowsTypes insts k) (all : UsesAreAvailable insts) where
  abbrev lines : List Instruction
  lines = lines_of insts k

  abbrev g : Code
  g = blocks_of lines

  abbrev Free : Ids
  Free = With (IsKnown insts) (flat_map defined_in f.parameters)

  abbrev SpotOf : (n : ℕ) (i : Instruction) → Type 0
  SpotOf = Spot insts end k found within admitted

  abbrev first_label : ℕ
  first_label = inside.label_before insts end k found within admitted

  abbrev t : IsText lines
  t = admitted.text

  -- ---- definitions

  -- the instruction that defines an id
  record Definition (id at : ℕ) (inst : Instruction) : Type 0 where
    stands : slice_get insts at ≡ Some inst
    defined : defines id inst ≡ true
    whole : IsInstruction inst.words (roles inst)
    plain : is_line inst ≡ false

  definition_of : (id at : ℕ) (inst : Instruction) → place_of insts id ≡ Some at → definition insts id ≡ Some inst → Definition id at inst
  definition_of id at inst is_at is =
      let stands : slice_get insts at ≡ Some inst =
      sym (ap (λ o. option_map_or (slice_get insts) o None) is_at) ∙ sym (find-position (defines id) insts) ∙ is in
      let defined : defines id inst ≡ true = found_passes (defines id) insts inst is in
      let whole : IsInstruction inst.words (roles inst) = each at inst stands in
      record { stands = stands; defined = defined; whole = whole; plain = no_mark id inst whole defined }

  known : (id : ℕ) {p : Place} → (a : IsAvailable insts id p) → (function_of insts a.at ≡ 0) ⊎ (is_everywhere a.inst ≡ true) → IsKnown insts id
  known id a h = record { at = a.at; inst = a.inst; is_at = a.is_at; is = a.is; everywhere = h }

  code_is : (n : ℕ) → n ≡ k + 1 → code_of insts n ≡ g
  code_is n e =
      let back : (k + 1) - 1 ≡ k = omega arith in
      ap (λ m. blocks_of (function_insts (m - 1) insts)) e ∙ ap (λ m. blocks_of (function_insts m insts)) back
      ∙ sym (blocks_without_marks (function_insts k insts))

  -- what a parameter defines is free
  parameter_free : (id : ℕ) (inst : Instruction) → IsInstruction inst.words (roles inst) → defines id inst ≡ true → OneOf inst t.parameters → Free id
  parameter_free id inst whole d o = inr (of_parameters lines t id inst whole d f spells.front o)

  -- what stands in the block before
  abbrev Front : (p : Place) (front : List (List ℕ)) → Type 0
  Front p front =
      (at : ℕ) (inst : Instruction) (s : SpotOf at inst) → at < p.before → LastLabel s.pre p.block → is_label_mark inst ≡ false → is_function_end inst ≡ false
      → OneOf (line inst) front

  module _ (id : ℕ) (p : Place) (front : List (List ℕ)) (here : p.function ≡ k + 1) (a : IsAvailable insts id p) (before : Front p front) where
    d : Definition id a.at a.inst
    d = definition_of id a.at a.inst a.is_at a.is

    everywhere_free : is_everywhere a.inst ≡ true → Free id
    everywhere_free h = inl (known id a (inr h))

    kind_of : (s : SpotOf a.at a.inst) → IsDefiner lines t a.inst
    kind_of s = definer lines t id a.inst d.whole d.defined (subst (OneOf a.inst) (sym s.same) (one_right a.inst s.pre (a.inst ∷ s.post) (inl refl)))

    -- it stands before the first label, or in a block
    block_or : (s : SpotOf a.at a.inst) → is_label_mark a.inst ≡ false → Free id ⊎ LastLabel s.pre (places.block_of insts a.at)
    block_or s plain = elim (last_cut first_label s.pre) [
      | inl none ↦ inl (elim (early lines t id a.inst d.whole d.defined s.pre s.post s.same none) [
        | inl h ↦ everywhere_free h
        | inr o ↦ parameter_free id a.inst d.whole d.defined o
      ])
      | inr r ↦ inr (subst (LastLabel s.pre) (sym (s.block ∙ last_both first_label s.pre (a.inst ∷ [])
          ∙ ap (λ b. cond b (word a.inst 1) (last_label first_label s.pre)) plain)) r)
    ]

    earlier : (s : SpotOf a.at a.inst) → places.block_of insts a.at ≡ p.block → a.at < p.before → IsDefiner lines t a.inst → IsThere lines Free p.block front id
    earlier s block less (OfAll h) = inl (everywhere_free h)
    earlier s block less (OfParameter o) = inl (parameter_free id a.inst d.whole d.defined o)
    earlier s block less (OfBlock plain b) = elim (block_or s plain) [
      | inl free ↦ inl free
      | inr r ↦ inr (inr (record {
        line = line a.inst;
        stands = before a.at a.inst s less (subst (LastLabel s.pre) block r) plain (no_end id a.inst d.whole d.defined);
        defines = block_defines lines t id a.inst d.whole d.defined b;
      }))
    ]

    passed : (s : SpotOf a.at a.inst) → ComesBefore (code_of insts p.function) (places.block_of insts a.at) p.block → IsDefiner lines t a.inst
        → IsThere lines Free p.block front id
    passed s c (OfAll h) = inl (everywhere_free h)
    passed s c (OfParameter o) = inl (parameter_free id a.inst d.whole d.defined o)
    passed s c (OfBlock plain b) = elim (block_or s plain) [
      | inl free ↦ inl free
      | inr r ↦ inr (inl (record {
        block = places.block_of insts a.at;
        passed = subst (λ x. AllPass x (places.block_of insts a.at) p.block) (code_is p.function here) c.passed;
        defined = record {
          line = line a.inst;
          stands = in_block lines admitted (places.block_of insts a.at) s.pre a.inst s.post s.same (tidy insts end k found within admitted)
              (no_ends insts end k found within admitted s.pre a.inst s.post s.same) plain (no_end id a.inst d.whole d.defined) r;
          defines = block_defines lines t id a.inst d.whole d.defined b;
        };
      }))
    ]

    parameter : opcode a.inst ≡ op.FUNCTION_PARAMETER → IsDefiner lines t a.inst → Free id
    parameter e (OfAll h) = everywhere_free h
    parameter e (OfParameter o) = parameter_free id a.inst d.whole d.defined o
    parameter e (OfBlock plain (inl step)) = parameter_no_step (opcode a.inst) e step
    parameter e (OfBlock plain (inr phi)) = absurd (phi_no_parameter (opcode a.inst) e phi)

    spot : function_of insts a.at ≡ p.function → SpotOf a.at a.inst
    spot e = spot_of insts end k found within admitted a.at a.inst d.stands d.plain (e ∙ here)

    -- what is available in the module is there in the function
    pub there : IsThere lines Free p.block front id
    there = by a.available
      where
        by : Available insts a.at a.inst p → IsThere lines Free p.block front id
        by (Outside o) = inl (inl (known id a (inl o)))
        by (Everywhere e) = inl (everywhere_free e)
        by (Parameter e inside) = inl (parameter e (kind_of (spot inside)))
        by (Earlier inside block less) = let s = spot inside in earlier s block less (kind_of s)
        by (Passed inside c) = let s = spot inside in passed s c (kind_of s)

  -- ---- what the lines use

  some_function : (n : ℕ) → function_of insts n ≡ k + 1 → 0 < function_of insts n
  some_function n e = omega (arith, e)

  no_phi : (i : Instruction) (words : List ℕ) → line i ≡ words → is_phi words ≡ false → (opcode i == op.PHI) ≡ false
  no_phi i words e h = ap (λ o. o == op.PHI) (sym (line_opcode i)) ∙ ap is_phi e ∙ h

  a_phi : (i : Instruction) (words : List ℕ) → line i ≡ words → is_phi words ≡ true → (opcode i ≡ op.PHI) × (i.words ≡ words)
  a_phi i words e h =
      let phi : opcode i ≡ op.PHI = sym (line_opcode i) ∙ ap opcode_in e ∙ equal_true (opcode_in words) op.PHI h in (
        phi,
        sym (ap (λ o. cond (o == op.BRANCH_CONDITIONAL) (instruction op.BRANCH_CONDITIONAL (take 3 (drop 1 i.words))) i.words) phi) ∙ e,
      )

  -- a line of a block is that of an instruction of the function
  pub record LineStands (words : List ℕ) : Type 0 where
    pub n : ℕ
    pub inst : Instruction
    pub stands : slice_get insts n ≡ Some inst
    pub inside : function_of insts n ≡ k + 1
    pub line_is : line inst ≡ words

  pub line_stands : (l : ℕ) (words : List ℕ) → OneOf words (text lines l) → LineStands words
  line_stands l words o =
      let c = one_at words (text lines l) o in
      let x : LineOf lines l c.before words = line_of lines admitted l c.before words c.after c.same in
      let ls = spot_of_line insts end k found within admitted (x.outer ++ x.label ∷ x.between) x.inst x.after x.same in
      record { n = ls.n; inst = x.inst; stands = ls.spot.stands; inside = ls.spot.inside; line_is = x.line_is }

  plain_there : (l : ℕ) (front : List (List ℕ)) (words : List ℕ) (rest : List (List ℕ)) → text lines l ≡ front ++ words ∷ rest → is_phi words ≡ false
      → (id : ℕ) → OneOf id (used_in words) → IsValue words id → IsThere lines Free l front id
  plain_there l front words rest e quiet id o value =
      let x : LineOf lines l front words = line_of lines admitted l front words rest e in
      let ls = spot_of_line insts end k found within admitted (x.outer ++ x.label ∷ x.between) x.inst x.after x.same in
      let s = ls.spot in
      let n = ls.n in
      let used : OneOf id (used_ids x.inst) =
      line_used x.inst (each n x.inst s.stands) id (subst (λ w. OneOf id (used_in w)) (sym x.line_is) o) in
      let is_one : Contains (uses insts n x.inst) (id_use (place_at insts n) id) =
      subst (λ us. Contains us (id_use (place_at insts n) id))
      (sym (ap (λ b. cond b (phi_uses insts (function_of insts n) x.inst) (plain_uses (place_at insts n) x.inst)) (no_phi x.inst words x.line_is quiet)))
      (contains_one (id_use (place_at insts n) id) (plain_uses (place_at insts n) x.inst) (one_map (id_use (place_at insts n)) (used_ids x.inst) id used)) in
      let a : IsAvailable insts id (place_at insts n) =
      all n x.inst s.stands (some_function n s.inside) s.plain (id_use (place_at insts n) id) is_one in
      let block : places.block_of insts n ≡ l =
      s.block ∙ ap (λ z. last_label first_label (z ++ x.inst ∷ [])) ls.pre_same
      ∙ last_is first_label x.outer x.label x.between x.inst x.mark x.none x.plain ∙ x.is_it in
      subst (λ b. IsThere lines Free b front id) block
      (there id (place_at insts n) front s.inside a (λ at inst s2 less last plain goes.
      let m = split_before (inside.those insts end k found within admitted) s2.m s.m inst (before_less at n s2.m s.m s2.is_at s.is_at less) s2.get s2.plain in
      in_front lines admitted l front words x s2.pre inst m.0
      (sym ls.pre_same ∙ sym s.pre_is ∙ m.1 ∙ ap (λ z. z ++ inst ∷ m.0) s2.pre_is) (subst (LastLabel s2.pre) block last)))
    where
      before_less : (a n x y : ℕ) → a ≡ length (inside.before insts end k found within admitted) + x
          → n ≡ length (inside.before insts end k found within admitted) + y → a < n → x < y
      before_less a n x y e d h = omega (arith, e, d, h)

  values_there : (l : ℕ) (words : List ℕ) → OneOf words (text lines l) → is_phi words ≡ true → (pair : ℕ × ℕ) → OneOf pair (phi_pairs words)
      → IsThere lines Free pair.1 (text lines pair.1) pair.0
  values_there l words o h pair among =
      let c = one_at words (text lines l) o in
      let x : LineOf lines l c.before words = line_of lines admitted l c.before words c.after c.same in
      let ls = spot_of_line insts end k found within admitted (x.outer ++ x.label ∷ x.between) x.inst x.after x.same in
      let s = ls.spot in
      let n = ls.n in
      let phi = a_phi x.inst words x.line_is h in
      let place : Place = end_of insts (function_of insts n) pair.1 in
      let is_one : Contains (uses insts n x.inst) (pair_use insts (function_of insts n) pair) =
      subst (λ us. Contains us (pair_use insts (function_of insts n) pair))
      (sym (ap (λ o. cond (o == op.PHI) (phi_uses insts (function_of insts n) x.inst) (plain_uses (place_at insts n) x.inst)) phi.0))
      (contains_one (pair_use insts (function_of insts n) pair) (phi_uses insts (function_of insts n) x.inst)
      (one_map (pair_use insts (function_of insts n)) (pairs (drop 3 x.inst.words)) pair (subst (λ w. OneOf pair (pairs (drop 3 w))) (sym phi.1) among))) in
      let a : IsAvailable insts pair.0 place = all n x.inst s.stands (some_function n s.inside) s.plain (pair_use insts (function_of insts n) pair) is_one in
      there pair.0 place (text lines pair.1) s.inside a (λ at inst s2 less last plain goes.
      in_block lines admitted pair.1 s2.pre inst s2.post s2.same (tidy insts end k found within admitted)
      (no_ends insts end k found within admitted s2.pre inst s2.post s2.same) plain goes last)

  types_there : (l : ℕ) (words : List ℕ) → OneOf words (text lines l) → is_phi words ≡ true → Free (slice_index words 1)
  types_there l words o h =
      let c = one_at words (text lines l) o in
      let x : LineOf lines l c.before words = line_of lines admitted l c.before words c.after c.same in
      let ls = spot_of_line insts end k found within admitted (x.outer ++ x.label ∷ x.between) x.inst x.after x.same in
      let phi = a_phi x.inst words x.line_is h in
      let known_types : AllByRecursion (IsKnown insts) (word x.inst 1 ∷ []) =
      subst (AllByRecursion (IsKnown insts))
      (ap (λ o. cond (o == op.PHI) (word x.inst 1 ∷ []) (cond (is_function x.inst || opcode x.inst == op.FUNCTION_PARAMETER) (used_ids x.inst) [])) phi.0)
      (types ls.n x.inst ls.spot.stands ls.spot.inside) in
      inl (subst (λ w. IsKnown insts (slice_index w 1)) phi.1 known_types.0)

  pub uses_there : UsesWhatIsThere lines Free
  uses_there = record { plain = plain_there; values = values_there; types = types_there }

  -- ---- before the first block

  module _ (K : Ids) (those : (n : ℕ) (i : Instruction) → slice_get insts n ≡ Some i → function_of insts n ≡ k + 1 → AllByRecursion K (types_in i)) where
    head_known : (i : Instruction) → OneOf i lines → (o : ℕ) → opcode i ≡ o → (o == op.PHI) ≡ false → (o == op.FUNCTION || o == op.FUNCTION_PARAMETER) ≡ true
        → AllByRecursion K (used_in i.words)
    head_known i o kind e no_phi head =
        let c = one_at i lines o in
        let ls = spot_of_line insts end k found within admitted c.before i c.after c.same in
        subst (AllByRecursion K)
        (ap (λ b. cond b (word i 1 ∷ []) (cond (is_function i || opcode i == op.FUNCTION_PARAMETER) (used_ids i) [])) (ap (λ x. x == op.PHI) e ∙ no_phi)
        ∙ ap (λ b. cond b (used_ids i) []) (ap (λ x. x == op.FUNCTION || x == op.FUNCTION_PARAMETER) e ∙ head))
        (those ls.n i ls.spot.stands ls.spot.inside)

    each_words : (is : List Instruction) → ((i : Instruction) → OneOf i is → AllByRecursion K (used_in i.words))
        → AllByRecursion (λ words. AllByRecursion K (used_in words)) (words_of is)
    each_words [] h = tt
    each_words (i ∷ is) h = (h i (inl refl), each_words is (λ j o. h j (inr o)))

    pub heads_of : AllByRecursion (λ words. AllByRecursion K (used_in words)) (f.function ∷ f.parameters)
    heads_of =
        subst (AllByRecursion (λ words. AllByRecursion K (used_in words))) (ap words_of (sym (front_of_text lines t)) ∙ spells.front)
        (each_words (t.function ∷ t.parameters) (λ i o. elim o [
          | inl e ↦ head_known i (subst (OneOf i) (sym t.same) (inl e)) op.FUNCTION (ap opcode e ∙ t.begins) refl refl
          | inr o ↦ head_known i
              (subst (OneOf i) (sym t.same)
              (inr (one_left i (t.parameters ++ (t.label ∷ t.blocks)) (t.last ∷ []) (one_left i t.parameters (t.label ∷ t.blocks) o))))
              op.FUNCTION_PARAMETER (all_at (λ j. opcode j ≡ op.FUNCTION_PARAMETER) t.parameters t.takes i o) refl refl
        ]))

  heads : AllByRecursion (λ words. AllByRecursion (IsKnown insts) (used_in words)) (f.function ∷ f.parameters)
  heads = heads_of (IsKnown insts) types

  pub read : IsFine (IsKnown insts) (IsPromised lines) f
  read = record { function = heads.0; parameters = heads.1; body = reads lines stays f admitted spells Free uses_there }

pub read_is_fine : ReadIsFine
read_is_fine insts end k stays f each found within admitted spells types all = read insts end k stays f each found within admitted spells types all

pub lines_are_fine : LinesAreFine
lines_are_fine insts stays f free admitted spells uses = reads insts stays f admitted spells (λ id. free id ≡ true) uses
