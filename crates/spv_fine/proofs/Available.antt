-- What is known, is a parameter, or has its home in blocks that every way passes, is available.
use Rattle.std.proofs.Common.{◌≡◌, ◌≢◌, ◌⊎◌, inl, inr, ℕ, ◌+◌, ◌<◌, Bool, true, false, cond, ◌||◌, ◌==◌, List, [], ◌∷◌, ◌++◌, length, drop, slice_index, Some, refl, sym, ap, subst, ◌∙◌, arith}
use Rattle.std.specs.List.{AllByRecursion, Contains, flat_map, slice_get}
use Rattle.std.proofs.lemmas.Bool.Decides.{eqb_tells}
use Rattle.graph.proofs.Elements.{contains_cases}
use Rattle.spv_opcodes.specs.declared.op.TheConstants as op
use Rattle.spv_grammar.specs.Roles.{is_defined_id}
use Rattle.spv_grammar.specs.Table.{row_of}
use Rattle.spv_module.specs.Code.{is_function}
use Rattle.spv_module.specs.Instruction.{Instruction, IsInstruction, opcode, roles, word_with}
use Rattle.spv_ids.specs.Ids.{definition, place_of, used_ids}
use Rattle.spv_declarations.proofs.Parts.{defined-plain, first_plain, row_test}
use Rattle.spv_blocks.specs.Blocks.{Code, has, is_label}
use Rattle.spv_blocks.specs.Cutting.{blocks_of, is_label_mark, pairs, word}
use Rattle.spv_walk.specs.Contexts.{Context}
use Rattle.spv_walk.specs.Walk.{Walk}
use Rattle.spv_walk.proofs.Unique.{equal_true, right_holds, true_equal, truth_apart}
use Rattle.spv_bodies.specs.Bodies.{Function}
use Rattle.spv_normal_trees.proofs.Arranging.{walked_label}
use Rattle.spv_trees.specs.Standing.{OneOf}
use Rattle.spv_structured.proofs.Lists.{contained, each_at, map_from}
use Rattle.spv_spelling.specs.Clean.{IsClean, no_pointers}
use Rattle.spv_spelling.specs.Whole.{IsAdmitted}
use Rattle.spv_texts.specs.Laws.{DefinesOnce}
use Rattle.spv_ways.specs.Ways.{Way}
use Rattle.spv_ways.proofs.BackEdges.{cut, forward_is_way, way_walked}
use Rattle.spv_ways.proofs.Reached.{each_is_reached}
use Rattle.spv_availability.specs.Availability.{AllAvailable, AreAvailable, Available, Outside, Everywhere, Parameter, Earlier, Passed, ComesBefore, IsAvailable, Use, id_use, is_everywhere, pair_use, phi_uses, plain_uses}
use Rattle.spv_availability.specs.Places as places
use Rattle.spv_availability.specs.Places.{Place, function_of, place_at}
use Rattle.spv_fine.specs.Fine.{Ids, With, defined_in, used_in}
use Rattle.spv_fine.specs.Laws.{IsKnown}
use Rattle.spv_fine.proofs.Homes.{IsHome}
use Rattle.spv_fine.proofs.Numbers.{insts, its_code, number}
use Rattle.spv_fine.proofs.Passed.{Found, HoldsBy}
use Rattle.spv_fine.proofs.Places.{defined_at, get_behind, get_front, label_at}

or_left : (a b : Bool) → (a || b) ≡ false → a ≡ false
or_left true b h = h
or_left false b h = refl

or_right : (a b : Bool) → (a || b) ≡ false → b ≡ false
or_right true b h = absurd (cc (h))
or_right false b h = h

-- a label's instruction defines it
label_defines : (i : Instruction) → IsInstruction i.words (roles i) → is_label_mark i ≡ true → word_with is_defined_id i ≡ Some (word i 1)
unfolding row_of
label_defines i whole h =
    defined-plain i whole (ap (λ o. row_test first_plain (row_of o)) (equal_true (opcode i) op.LABEL h)) ∙ ap Some (second i.words)
  where
    second : (ws : List ℕ) → slice_index (drop 1 ws) 0 ≡ slice_index ws 1
    second [] = refl
    second (w ∷ ws) = refl

-- a parameter of the function defines the id
pub record IsParameter (insts : List Instruction) (function id : ℕ) : Type 0 where
  pub at : ℕ
  pub inst : Instruction
  pub is_at : place_of insts id ≡ Some at
  pub is : definition insts id ≡ Some inst
  pub inside : function_of insts at ≡ function
  pub parameter : opcode inst ≡ op.FUNCTION_PARAMETER

module _ (before again after : List Instruction) (f : Function) (admitted : IsAdmitted again) (once : DefinesOnce
    (insts before again after admitted.text)) where
  abbrev pub all_insts : List Instruction
  all_insts = insts before again after admitted.text

  abbrev pub n : ℕ
  n = number before again after admitted.text

  abbrev pub g : Code
  g = blocks_of again

  clean : IsClean no_pointers g
  clean = admitted.clean

  abbrev pub at : (block before : ℕ) → Place
  at block k = record { function = n; block = block; before = k }

  abbrev pub Home : (block id : ℕ) → Type 0
  Home block id = IsHome all_insts n block id

  -- a label is known
  pub known_label : (t : ℕ) → is_label g t ≡ true → IsKnown all_insts t
  known_label t h =
      let x = label_at again t h in
      let k = length before + x.at in
      let there : slice_get all_insts k ≡ Some x.inst = get_behind before (again ++ after) x.at ∙ get_front again after x.at x.inst x.get in
      let opcode_is : opcode x.inst ≡ op.LABEL = equal_true (opcode x.inst) op.LABEL x.mark in
      let d = defined_at all_insts once k x.inst t there (ap (λ o. o == op.LINE || o == op.NO_LINE) opcode_is)
      (label_defines x.inst (admitted.each x.at x.inst x.get) x.mark ∙ ap Some x.label) in
      record { at = k; inst = x.inst; is_at = d.0; is = d.1; everywhere = inr (right_holds (is_function x.inst) (is_label_mark x.inst) x.mark) }

  pub known_here : (id : ℕ) (p : Place) → IsKnown all_insts id → IsAvailable all_insts id p
  known_here id p k = record { at = k.at; inst = k.inst; is_at = k.is_at; is = k.is; available = by k.everywhere }
    where
      by : (function_of all_insts k.at ≡ 0) ⊎ (is_everywhere k.inst ≡ true) → Available all_insts k.at k.inst p
      by (inl o) = Outside o
      by (inr e) = Everywhere e

  module _ (takes : (id : ℕ) → has (flat_map defined_in f.parameters) id ≡ true → IsParameter all_insts n id) where
    abbrev pub Free : Ids
    Free = With (IsKnown all_insts) (flat_map defined_in f.parameters)

    pub free_here : (id block k : ℕ) → Free id → IsAvailable all_insts id (at block k)
    free_here id block k (inl known) = known_here id (at block k) known
    free_here id block k (inr h) =
        let p = takes id h in
        record { at = p.at; inst = p.inst; is_at = p.is_at; is = p.is; available = Parameter p.parameter p.inside }

    same_place : (id a b : ℕ) → place_of all_insts id ≡ Some a → place_of all_insts id ≡ Some b → a ≡ b
    same_place id a b h k = cc (h, k)

    same_inst : (id : ℕ) (a b : Instruction) → definition all_insts id ≡ Some a → definition all_insts id ≡ Some b → a ≡ b
    same_inst id a b h k = cc (h, k)

    -- what has a home in a block is none of these
    home_apart : (id l : ℕ) → Free id → Home l id → ⊥
    home_apart id l (inl known) h = by known.everywhere
      where
        by : (function_of all_insts known.at ≡ 0) ⊎ (is_everywhere known.inst ≡ true) → ⊥
        by (inl o) =
            let e = same_place id known.at h.at known.is_at h.stands.is_at in
            let z : n ≡ 0 = sym h.stands.inside ∙ ap (function_of all_insts) (sym e) ∙ o in
            omega (arith, z)
        by (inr e) =
            let same = same_inst id known.inst h.stands.inst known.is h.stands.is in
            truth_apart (is_everywhere h.stands.inst) (ap is_everywhere (sym same) ∙ e)
            (or_left (is_everywhere h.stands.inst) (opcode h.stands.inst == op.FUNCTION_PARAMETER) h.stands.inner)
    home_apart id l (inr k) h =
        let p = takes id k in
        let same = same_inst id p.inst h.stands.inst p.is h.stands.is in
        truth_apart (opcode h.stands.inst == op.FUNCTION_PARAMETER) (true_equal (opcode h.stands.inst) op.FUNCTION_PARAMETER (ap opcode (sym same)
        ∙ p.parameter))
        (or_right (is_everywhere h.stands.inst) (opcode h.stands.inst == op.FUNCTION_PARAMETER) h.stands.inner)

    -- it has one home
    one_home : (id l m : ℕ) → Home l id → Home m id → l ≡ m
    one_home id l m h k =
        let e = same_place id h.at k.at h.stands.is_at k.stands.is_at in
        sym h.stands.block ∙ ap (places.block_of all_insts) e ∙ k.stands.block

    -- what stands before in the block
    pub earlier_here : (id l k : ℕ) (h : Home l id) → h.at < k → IsAvailable all_insts id (at l k)
    earlier_here id l k h less = record {
      at = h.at;
      inst = h.stands.inst;
      is_at = h.stands.is_at;
      is = h.stands.is;
      available = Earlier h.stands.inside h.stands.block less;
    }

    -- what every way has passed
    passed_here : (id l d k : ℕ) → Home d id → is_label g l ≡ true → is_label g d ≡ true
        → ((passed : List ℕ) → Way g passed l → Contains passed d) → IsAvailable all_insts id (at l k)
    passed_here id l d k h label home all = record {
      at = h.at;
      inst = h.stands.inst;
      is_at = h.stands.is_at;
      is = h.stands.is;
      available = Passed h.stands.inside
          (subst (λ c. ComesBefore c (places.block_of all_insts h.at) l) (ap blocks_of (sym (its_code before again after admitted.text)))
          (subst (λ b. ComesBefore g b l) (sym h.stands.block) (record { has_other = home; has_block = label; passed = all })));
    }

    -- a block on a way is one of the function
    passed_label : (passed : List ℕ) (l d : ℕ) → Way g passed l → Contains passed d → is_label g d ≡ true
    passed_label passed l d w c =
        let k = cut g passed l d w c in
        let v = way_walked no_pointers g clean k.front d k.way in
        walked_label no_pointers g clean d v.0 v.1

    some_way : (l : ℕ) (c : Context) → Walk g l c → (passed : List ℕ) × Way g passed l
    some_way l c w =
        let r = each_is_reached no_pointers g clean l (walked_label no_pointers g clean l c w) in
        (r.0, forward_is_way g r.0 l r.1)

    -- so is what each way to a block has passed
    pub before_here : (l : ℕ) (c : Context) (id k : ℕ) → Walk g l c → ((passed : List ℕ) → Way g passed l → HoldsBy Home Free passed id)
        → IsAvailable all_insts id (at l k)
    before_here l c id k w all = by (all x.0 x.1)
      where
        x : (passed : List ℕ) × Way g passed l
        x = some_way l c w

        by : HoldsBy Home Free x.0 id → IsAvailable all_insts id (at l k)
        by (inl free) = free_here id l k free
        by (inr found) =
            passed_here id l found.block k found.defined (walked_label no_pointers g clean l c w) (passed_label x.0 l found.block x.1 found.passed_it)
            (λ passed way. elim (all passed way) [
              | inl free ↦ absurd (home_apart id found.block free found.defined)
              | inr r ↦ subst (λ b. Contains passed b) (one_home id r.block found.block r.defined found.defined) r.passed_it
            ])

    -- and at the end of a block, what each way to it has passed with the block itself
    pub behind_here : (l : ℕ) (c : Context) (id : ℕ) → Walk g l c → ((passed : List ℕ) → Way g passed l → HoldsBy Home Free (l ∷ passed) id)
        → IsAvailable all_insts id (at l (length all_insts))
    behind_here l c id w all = by (all x.0 x.1)
      where
        x : (passed : List ℕ) × Way g passed l
        x = some_way l c w

        later : (d : ℕ) → d ≢ l → (passed : List ℕ) → Contains (l ∷ passed) d → Contains passed d
        later d other passed c = elim (contains_cases passed l d c) [ inl e ↦ absurd (other e) | inr h ↦ h ]

        apart : (found : Found Home (l ∷ x.0) id) → found.block ≢ l → IsAvailable all_insts id (at l (length all_insts))
        apart found other =
            passed_here id l found.block (length all_insts) found.defined (walked_label no_pointers g clean l c w)
            (passed_label x.0 l found.block x.1 (later found.block other x.0 found.passed_it))
            (λ passed way. elim (all passed way) [
              | inl free ↦ absurd (home_apart id found.block free found.defined)
              | inr r ↦ later found.block other passed (subst (λ b. Contains (l ∷ passed) b)
                  (one_home id r.block found.block r.defined found.defined) r.passed_it)
            ])

        by : HoldsBy Home Free (l ∷ x.0) id → IsAvailable all_insts id (at l (length all_insts))
        by (inl free) = free_here id l (length all_insts) free
        by (inr found) = elim (eqb_tells found.block l) [
          | inl (e, same) ↦
              let h : Home l id = subst (λ b. Home b id) same found.defined in
              earlier_here id l (length all_insts) h h.stands.within
          | inr (e, other) ↦ apart found other
        ]

  -- ---- what an instruction uses

  pub plain_available : (k l : ℕ) (i : Instruction) → (opcode i == op.PHI) ≡ false → function_of all_insts k ≡ n → places.block_of all_insts k ≡ l
      → AllByRecursion (λ id. IsAvailable all_insts id (at l k)) (used_in i.words) → AreAvailable all_insts k i
  plain_available k l i other inside block each =
      let here : place_at all_insts k ≡ at l k =
      ap (λ m. record { function = m; block = places.block_of all_insts k; before = k }) inside
      ∙ ap (λ b. record { function = n; block = b; before = k }) block in
      subst (AllAvailable all_insts)
      (sym (ap (λ b. cond b (phi_uses all_insts (function_of all_insts k) i) (plain_uses (place_at all_insts k) i)) other ∙ ap (λ p. plain_uses p i) here))
      (λ u c. let m = map_from (id_use (at l k)) (used_ids i) u (contained (plain_uses (at l k) i) u c) in
      subst (λ (v : Use). IsAvailable all_insts v.id v.place) (sym m.same)
      (each_at (λ id. IsAvailable all_insts id (at l k)) (used_ids i) each m.from m.one))

  pub phi_available : (k : ℕ) (i : Instruction) → opcode i ≡ op.PHI → function_of all_insts k ≡ n
      → ((pair : ℕ × ℕ) → OneOf pair (pairs (drop 3 i.words)) → IsAvailable all_insts pair.0 (at pair.1 (length all_insts))) → AreAvailable all_insts k i
  phi_available k i phi inside each =
      subst (AllAvailable all_insts)
      (sym (ap (λ o. cond (o == op.PHI) (phi_uses all_insts (function_of all_insts k) i) (plain_uses (place_at all_insts k) i)) phi
      ∙ ap (λ m. phi_uses all_insts m i) inside))
      (λ u c. let m = map_from (pair_use all_insts n) (pairs (drop 3 i.words)) u (contained (phi_uses all_insts n i) u c) in
      subst (λ (v : Use). IsAvailable all_insts v.id v.place) (sym m.same) (each m.from m.one))
