-- No OpPhi of a block that is joined or entered names the result of an OpPhi of that block: such a value would have to be there at the end of the one block
-- from which it is entered, and no way to that has passed it.
use Rattle.std.proofs.Common.{◌≡◌, ℕ, ◌+◌, ◌-◌, ◌<◌, inl, inr, Bool, true, false, cond, not, nat_eq, ◌==◌, ◌&&◌, ◌||◌, List, [], ◌∷◌, ◌++◌}
use Rattle.std.proofs.Common.{map, Option, Some, None, refl, sym, ap, subst, ◌∙◌, drop, take, arith}
use Rattle.std.specs.Prelude.{filter, slice_get, slice_index, count_by}
use Rattle.std.specs.List.{Contains, list_any}
use Rattle.std.specs.Option.{option_map_or}
use Rattle.std.proofs.lemmas.Bool.Decides.{nat_tests}
use Rattle.spv_base.specs.declared.fault.Refusal.{Refusal}
use Rattle.spv_opcodes.specs.declared.op.TheConstants as op
use Rattle.spv_grammar.specs.Roles.{is_defined_id}
use Rattle.spv_grammar.specs.Table.{row_of}
use Rattle.spv_module.specs.Code.{is_function, is_line}
use Rattle.spv_module.specs.First.{here, unless}
use Rattle.spv_module.specs.Instruction.{Instruction, IsInstruction, opcode, roles, word_with}
use Rattle.spv_ids.specs.Ids.{defines, definition, is_defined, place_of}
use Rattle.spv_ids.proofs.Places.{find-position}
use Rattle.spv_declarations.proofs.Parts.{defined-typed, first_typed, row_test}
use Rattle.spv_body_rules.specs.Broken.{is_of_functions}
use Rattle.spv_blocks.specs.Blocks.{Code, Ins, Phi, Selection, Loop, Other, is_first, is_label, seconds}
use Rattle.spv_blocks.specs.Cutting.{before_close, blocks_of, body_of, function_insts, ins, pairs, word}
use Rattle.spv_walk.specs.Phis.{names_each_once, phi_faults, phi_fits, predecessors}
use Rattle.spv_walk.specs.Walk.{Enters}
use Rattle.spv_walk.proofs.Unique.{both_fail, both_left, equal_true, goes_branches, not_true, truth_apart}
use Rattle.spv_bodies.specs.Bodies.{Function}
use Rattle.spv_normal.specs.Lines.{behind_label, without_marks}
use Rattle.spv_normal.specs.Order.{is_front}
use Rattle.spv_spelling.specs.Clean.{IsClean, no_pointers}
use Rattle.spv_spelling.specs.Spelling.{SpellsFunction}
use Rattle.spv_spelling.specs.Text.{phi_pairs, phis, text}
use Rattle.spv_spelling.specs.Whole.{AreInstructions, IsAdmitted}
use Rattle.spv_texts.specs.Laws.{DefinesOnce}
use Rattle.spv_texts.proofs.Marks.{blocks_without_marks}
use Rattle.spv_ways.specs.Laws.{IsNumbered}
use Rattle.spv_ways.specs.Ways.{AllPass}
use Rattle.spv_ways.proofs.ForwardOrder.{ways_go_forward}
use Rattle.spv_availability.specs.Places.{block_of, function_of, place_at}
use Rattle.spv_availability.specs.Availability.{Available, Outside, Everywhere, Parameter, Earlier, Passed, IsAvailable, IsUnavailable}
use Rattle.spv_availability.specs.Availability.{Use, code_of, end_of, is_everywhere, pair_use, phi_uses, plain_uses, uses}
use Rattle.spv_trees.specs.Standing.{Apart, OneOf}
use Rattle.spv_standing.specs.Laws.{ApartInBlocks, first_values, results}
use Rattle.spv_standing.proofs.Fits.{NamesOnce, one_parent, phis_fit}
use Rattle.spv_standing.proofs.Fronts.{word_3}
use Rattle.spv_standing.proofs.Lines.{split_at}
use Rattle.spv_standing.proofs.Rounds.{branch_block, label_block, one_predecessor, settles}
use Rattle.spv_standing.proofs.Saying.{ends_block}
use Rattle.spv_admitted.proofs.Lists.{contains_head, each_of, first_passes, third_word}
use Rattle.spv_admitted.proofs.Places.{StandsIn, front, more_than_none, front_other, phi_is_no_line, phi_stands}
use Rattle.spv_admitted.proofs.Entering.{entered_from, enters_label, enters_other, not_all_pass}

-- ---- no OpPhi stands in front of the first block

-- what the instructions of a block stand before, by its opcode
abbrev stops_block : ℕ → Bool
stops_block o = ends_block o || o == op.LABEL || o == op.FUNCTION_END

body_phi : (i : Instruction) (is : List Instruction) → opcode i ≡ op.PHI
    → body_of (i ∷ is) ≡ Phi i.offset (word i 1) (word i 2) (pairs (drop 3 i.words)) ∷ body_of is
body_phi i is e =
    let kept : List Instruction = filter (λ j. not (is_line j)) (before_close is) in
    let others : Ins =
    cond (opcode i == op.SELECTION_MERGE) (Selection i.offset (word i 1))
    (cond (opcode i == op.LOOP_MERGE) (Loop i.offset (word i 1) (word i 2)) (Other i.offset)) in
    ap (λ b. map ins (filter (λ j. not (is_line j)) (cond b [] (i ∷ before_close is)))) (ap stops_block e)
    ∙ ap (λ o. map ins (cond (not (o == op.LINE || o == op.NO_LINE)) (i ∷ kept) kept)) e
    ∙ ap (λ o. cond (o == op.PHI) (Phi i.offset (word i 1) (word i 2) (pairs (drop 3 i.words))) others ∷ map ins kept) e

unbroken : (at : ℕ) (b : Bool) (rest : List Refusal) → here at (unless b 406) ++ rest ≡ [] → b ≡ true
unbroken at true rest e = refl
unbroken at false rest e = absurd (cc e)

phi_not_first : (f : Code) (t : ℕ) (i : Instruction) (is : List Instruction) → opcode i ≡ op.PHI
    → phi_faults no_pointers f t (body_of (i ∷ is)) ≡ [] → is_first f t ≡ false
phi_not_first f t i is e h =
    let fit : Bool = phi_fits no_pointers f t (word i 1) (pairs (drop 3 i.words)) in
    let fits = unbroken i.offset fit (phi_faults no_pointers f t (body_of is)) (sym (ap (phi_faults no_pointers f t) (body_phi i is e)) ∙ h) in
    not_true (is_first f t)
    (both_left (not (is_first f t)) (not (no_pointers (word i 1)))
    (both_left (not (is_first f t) && not (no_pointers (word i 1))) (names_each_once (predecessors f t) (seconds (pairs (drop 3 i.words)))) fits))

front_not_first : (f : Code) (t : ℕ) (is : List Instruction) (words : List ℕ) → OneOf words (front is)
    → phi_faults no_pointers f t (body_of is) ≡ [] → is_first f t ≡ false
front_not_first f t [] words o h = absurd o
front_not_first f t (i ∷ is) words o h = by (opcode i == op.PHI) refl where
  by : (b : Bool) → (opcode i == op.PHI) ≡ b → is_first f t ≡ false
  by true e = phi_not_first f t i is (equal_true (opcode i) op.PHI e) h
  by false e = absurd (subst (λ x. OneOf words x) (front_other i is e) o)

-- ---- the one value of an OpPhi with one block

no_seconds : (ps : List (ℕ × ℕ)) → seconds ps ≡ [] → ps ≡ []
no_seconds [] e = refl
no_seconds (p ∷ ps) e = absurd (cc e)

one_pair : (l : ℕ) (ws : List ℕ) → seconds (pairs ws) ≡ l ∷ [] → pairs ws ≡ (slice_index ws 0, l) ∷ []
one_pair l [] e = absurd (cc e)
one_pair l (a ∷ []) e = absurd (cc e)
one_pair l (a ∷ b ∷ ws) e =
    let same : b ≡ l = cc e in
    let none : seconds (pairs ws) ≡ [] = cc e in
    ap (λ ps. (a, b) ∷ ps) (no_seconds (pairs ws) none) ∙ ap (λ x. (a, x) ∷ []) same

-- ---- where the result of an OpPhi is defined

phi_row : row_test first_typed (row_of op.PHI) ≡ true
unfolding row_of
phi_row = refl

phi_defines : (i : Instruction) → IsInstruction i.words (roles i) → opcode i ≡ op.PHI → word_with is_defined_id i ≡ Some (slice_index i.words 2)
phi_defines i whole e = defined-typed i whole (ap (λ o. row_test first_typed (row_of o)) e ∙ phi_row) ∙ ap Some (third_word i.words)

same_id : (n : ℕ) → nat_eq n n ≡ true
same_id n = grind (arith, nat_tests)

phi_place : (insts : List Instruction) → AreInstructions insts → DefinesOnce insts → (at : ℕ) (i : Instruction) → slice_get insts at ≡ Some i
    → opcode i ≡ op.PHI
    → place_of insts (slice_index i.words 2) ≡ Some at
phi_place insts each once at i there e =
    let id : ℕ = slice_index i.words 2 in
    let it : word_with is_defined_id i ≡ Some id = phi_defines i (each at i there) e in
    let defined : defines id i ≡ true = ap (λ o. option_map_or (nat_eq id) o false) it ∙ same_id id in
    let none : is_defined (take at insts) id ≡ false =
    sym (ap (λ o. option_map_or (is_defined (take at insts)) o false) it) ∙ once at i there (phi_is_no_line i e) in
    first_passes (defines id) insts at i there defined none

phi_is_definition : (insts : List Instruction) (at : ℕ) (i : Instruction) (id : ℕ) → slice_get insts at ≡ Some i → place_of insts id ≡ Some at
    → definition insts id ≡ Some i
phi_is_definition insts at i id there place =
    find-position (defines id) insts ∙ ap (λ o. option_map_or (slice_get insts) o None) place ∙ there

phi_not_everywhere : (i : Instruction) → opcode i ≡ op.PHI → is_everywhere i ≡ false
phi_not_everywhere i e = ap (λ o. o == op.FUNCTION || o == op.LABEL) e

phi_is_no_parameter : (o : ℕ) → o ≡ op.FUNCTION_PARAMETER → o ≡ op.PHI → ⊥
phi_is_no_parameter o e h = cc (e, h)

same_place : (o : Option ℕ) (a b : ℕ) → o ≡ Some a → o ≡ Some b → a ≡ b
same_place o a b e h = cc (e, h)

same_instruction : (o : Option Instruction) (a b : Instruction) → o ≡ Some a → o ≡ Some b → a ≡ b
same_instruction o a b e h = cc (e, h)

not_outside : (n k : ℕ) → n ≡ 0 → n ≡ k + 1 → ⊥
not_outside n k e h = absurd (omega (arith, e, h))

back_to_number : (k : ℕ) → (k + 1) - 1 ≡ k
back_to_number k = omega arith

-- ---- apart, by the first values and the results

none_named : (r : ℕ) (ps : List (List ℕ)) → ((b : List ℕ) → OneOf b ps → (slice_index b 3 == r) ≡ false)
    → list_any (λ id. id == r) (first_values ps) ≡ false
none_named r [] h = refl
none_named r (b ∷ ps) h =
    both_fail (slice_index b 3 == r) (list_any (λ id. id == r) (first_values ps)) (h b (inl refl)) (none_named r ps (λ x o. h x (inr o)))

apart_by : (ps : List (List ℕ)) → ((a b : List ℕ) → OneOf a ps → OneOf b ps → (slice_index b 3 == slice_index a 2) ≡ false)
    → Apart (results ps) (first_values ps)
apart_by [] h = tt
apart_by (a ∷ ps) h = (none_named (slice_index a 2) ps (λ b o. h a b (inl refl) (inr o)), apart_by ps (λ x y p q. h x y (inr p) (inr q)))

-- ---- a function of a module

module _ (insts : List Instruction) (each : AreInstructions insts) (once : DefinesOnce insts)
    (fits : (k : ℕ) (i : Instruction) → slice_get insts k ≡ Some i → is_of_functions insts k i ≡ true → IsUnavailable insts k i → ⊥)
    (number : ℕ) (within : number < count_by is_function insts) (stays : ℕ → ℕ) (tree : Function)
    (admitted : IsAdmitted (without_marks (function_insts number insts)))
    (spells : SpellsFunction (without_marks (function_insts number insts)) stays tree) where
  abbrev lines : List Instruction
  lines = without_marks (function_insts number insts)

  abbrev f : Code
  f = blocks_of lines

  abbrev clean : IsClean no_pointers f
  clean = admitted.clean

  ways_are : (order : ℕ → ℕ) × IsNumbered f order
  ways_are = ways_go_forward lines stays tree admitted spells

  code_is : (n : ℕ) → n ≡ number + 1 → code_of insts n ≡ f
  code_is n e =
      ap (λ m. blocks_of (function_insts (m - 1) insts)) e ∙ ap (λ m. blocks_of (function_insts m insts)) (back_to_number number)
      ∙ sym (blocks_without_marks (function_insts number insts))

  module _ (t : ℕ) (label : is_label f t ≡ true) (no_front : is_front f t ≡ false) where
    abbrev ps : List (List ℕ)
    ps = phis (text lines t)

    faults : phi_faults no_pointers f t (body_of (behind_label lines t)) ≡ []
    faults =
        let s = split_at lines t label in
        let b = label_block f t label in
        let w = clean.walked t b.block_of b.found in
        (settles f clean t w.0 w.1 (record { block_of = _; found = s.first })).phis

    enterer : (words : List ℕ) → OneOf words ps → (l : ℕ) × Enters f l t
    enterer words o =
        let b = label_block f t label in
        let w = clean.walked t b.block_of b.found in
        entered_from f clean t no_front (front_not_first f t (behind_label lines t) words o faults) w.0 w.1

    module _ (l : ℕ) (e : Enters f l t) where
      one_block : (words : List ℕ) → OneOf words ps → seconds (phi_pairs words) ≡ l ∷ []
      one_block words o =
          let go = goes_branches f l t e.free in
          let b = branch_block f l t go in
          one_parent f l t b.block_of b.found go (λ q. one_predecessor f clean l t q e no_front) (seconds (phi_pairs words))
          (each_of (NamesOnce f t) ps (phis_fit no_pointers f t (behind_label lines t) faults) words o)

      -- what an OpPhi of the block defines is not there at the end of the block that enters it
      not_there : (n at : ℕ) (i : Instruction) → n ≡ number + 1 → opcode i ≡ op.PHI → function_of insts at ≡ number + 1 → block_of insts at ≡ t
          → Available insts at i (end_of insts n l) → ⊥
      not_there n at i same phi inside block (Outside h) = not_outside (function_of insts at) number h inside
      not_there n at i same phi inside block (Everywhere h) = truth_apart (is_everywhere i) h (phi_not_everywhere i phi)
      not_there n at i same phi inside block (Parameter h g) = phi_is_no_parameter (opcode i) h phi
      not_there n at i same phi inside block (Earlier h g less) = enters_other f ways_are.0 ways_are.1 l t e (sym block ∙ g)
      not_there n at i same phi inside block (Passed h before) =
          not_all_pass f ways_are.0 ways_are.1 clean l t (enters_label f l t e) e
          (subst (λ x. AllPass f x l) block (subst (λ x. AllPass x (block_of insts at) l) (code_is n same) before.passed))

      absent : (a : List ℕ) (pa : StandsIn insts number t a) (id n : ℕ) → n ≡ number + 1 → place_of insts id ≡ Some pa.at
          → definition insts id ≡ Some pa.inst
          → IsAvailable insts id (end_of insts n l) → ⊥
      absent a pa id n same place is av =
          let at : av.at ≡ pa.at = same_place (place_of insts id) av.at pa.at av.is_at place in
          let inst : av.inst ≡ pa.inst = same_instruction (definition insts id) av.inst pa.inst av.is is in
          not_there n av.at av.inst same (ap opcode inst ∙ pa.is_phi) (ap (function_of insts) at ∙ pa.function) (ap (block_of insts) at ∙ pa.block)
          av.available

      no_use : (a b : List ℕ) → StandsIn insts number t a → StandsIn insts number t b → seconds (phi_pairs b) ≡ l ∷ []
          → slice_index b 3 ≡ slice_index a 2 → ⊥
      no_use a b pa pb one same =
          let i : Instruction = pb.inst in
          let n : ℕ = function_of insts pb.at in
          let used : Use = pair_use insts n (slice_index (drop 3 i.words) 0, l) in
          let all : uses insts pb.at i ≡ used ∷ [] =
          ap (λ o. cond (o == op.PHI) (phi_uses insts n i) (plain_uses (place_at insts pb.at) i)) pb.is_phi
          ∙ ap (map (pair_use insts n)) (one_pair l (drop 3 i.words) (ap (λ w. seconds (pairs (drop 3 w))) pb.same ∙ one)) in
          let named : slice_index (drop 3 i.words) 0 ≡ slice_index pa.inst.words 2 =
          word_3 i.words ∙ ap (λ w. slice_index w 3) pb.same ∙ same ∙ sym (ap (λ w. slice_index w 2) pa.same) in
          let place : place_of insts used.id ≡ Some pa.at = ap (place_of insts) named ∙ phi_place insts each once pa.at pa.inst pa.there pa.is_phi in
          let is : definition insts used.id ≡ Some pa.inst = phi_is_definition insts pa.at pa.inst used.id pa.there place in
          fits pb.at i pb.there pb.inside (record {
            inside = more_than_none n number pb.function;
            missing = record {
              u = used;
              is_used = subst (λ us. Contains us used) (sym all) (contains_head used []);
              missing = λ av. absent a pa used.id n pb.function place is av;
            };
          })

    apart_there : Apart (results ps) (first_values ps)
    apart_there = apart_by ps (λ a b o p. by a b o p (slice_index b 3 == slice_index a 2) refl) where
      by : (a b : List ℕ) → OneOf a ps → OneOf b ps → (c : Bool) → (slice_index b 3 == slice_index a 2) ≡ c → (slice_index b 3 == slice_index a 2) ≡ false
      by a b o p false h = h
      by a b o p true h =
          let e = enterer b p in
          absurd (no_use e.0 e.1 a b (phi_stands insts number t within a o) (phi_stands insts number t within b p) (one_block e.0 e.1 b p)
          (equal_true (slice_index b 3) (slice_index a 2) h))

  pub apart_in_blocks : ApartInBlocks lines
  apart_in_blocks = record { apart = λ t label no_front. apart_there t label no_front }
