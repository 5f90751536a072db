-- A fine function uses what is available where it stands in its module.
use Rattle.std.proofs.Common.{◌≡◌, inl, inr, ℕ, suc, ◌+◌, ◌<◌, true, false, ◌||◌, ◌==◌, List, [], ◌∷◌, ◌++◌, length, Some, refl, sym, ap, subst, ◌∙◌, arith, append_assoc}
use Rattle.std.specs.List.{AllByRecursion, flat_map, slice_get}
use Rattle.std.proofs.lemmas.List.{length-append}
use Rattle.std.proofs.lemmas.Option.{slice_get_within}
use Rattle.spv_opcodes.specs.declared.op.TheConstants as op
use Rattle.spv_grammar.specs.Roles.{is_defined_id}
use Rattle.spv_module.specs.Instruction.{Instruction, opcode, word_with}
use Rattle.spv_blocks.specs.Blocks.{has}
use Rattle.spv_bodies.specs.Bodies.{Function}
use Rattle.spv_bodies.specs.Listing.{branches, instruction, label_line, lines, listed}
use Rattle.spv_tree.specs.Sound.{opcode_in}
use Rattle.spv_tree.specs.Tree.{words_of}
use Rattle.spv_structured.specs.Laws.{Opens}
use Rattle.spv_spelling.specs.Spelling.{SpellsFunction}
use Rattle.spv_spelling.specs.Whole.{IsAdmitted}
use Rattle.spv_normal_trees.proofs.Listed.{walk}
use Rattle.spv_normal_trees.proofs.Members.{has_either, has_nothing}
use Rattle.spv_clean_trees.proofs.Structures.{opens}
use Rattle.spv_respelling.proofs.Admitted.{listing_is_admitted}
use Rattle.spv_respelling.proofs.Whole.{respells_listing}
use Rattle.spv_texts.specs.Laws.{DefinesOnce}
use Rattle.spv_availability.specs.Availability.{AreAvailable, IsAvailable}
use Rattle.spv_availability.specs.Places as places
use Rattle.spv_fine.specs.Fine.{IsFine, as_instruction, defined_in, used_in}
use Rattle.spv_fine.specs.Laws.{FineIsAvailable, IsKnown, ListingIsAvailable, stay}
use Rattle.spv_fine.proofs.Available.{Free, Home, IsParameter, all_insts, at, known_here, n}
use Rattle.spv_fine.proofs.Homes.{has_defined, homes}
use Rattle.spv_fine.proofs.Lines.{lined}
use Rattle.spv_fine.proofs.LinesAt as lines_at
use Rattle.spv_fine.proofs.LinesAt.{AllGood, Good, Lies, LineIs}
use Rattle.spv_fine.proofs.NoPhis.{no_phis}
use Rattle.spv_fine.proofs.Numbers.{in_function, insts}
use Rattle.spv_fine.proofs.Places.{defined_at, get_behind, get_front}
use Rattle.spv_fine.proofs.Uses.{used_end}
use Rattle.spv_fine.proofs.Whole.{promised, sent}

module _ (before again after : List Instruction) (f : Function) (admitted : IsAdmitted again) (spells : SpellsFunction again stay f)
    (same : words_of again ≡ listed f) (once : DefinesOnce (insts before again after admitted.text)) (P : (label id : ℕ) → Type 0)
    (fine : IsFine (IsKnown (insts before again after admitted.text)) P f) where
  abbrev I : List Instruction
  I = all_insts before again after f admitted once

  -- where the instructions stand
  get_there : (j : ℕ) (i : Instruction) → slice_get again j ≡ Some i → slice_get I (length before + j) ≡ Some i
  get_there j i e = get_behind before (again ++ after) j ∙ get_front again after j i e

  lies_from : (front rest : List Instruction) → again ≡ front ++ rest → Lies before again after f admitted once (length before + length front) (words_of rest)
  lies_from front [] e = tt
  lies_from front (i ∷ is) e =
      let j : ℕ = length front in
      let here : slice_get again j ≡ Some i =
      ap (λ z. slice_get z j) e ∙ (let d : j ≡ length front + 0 = omega arith in ap (slice_get (front ++ i ∷ is)) d) ∙ get_behind front (i ∷ is) 0 in
      let less : j < length again = slice_get_within again j i here in
      let d : length before + length (front ++ i ∷ []) ≡ suc (length before + j) = omega (arith, length-append front (i ∷ [])) in (
        record {
          inst = i;
          get = get_there j i here;
          words_are = refl;
          whole = admitted.each j i here;
          inside = in_function before again after
              admitted.text j less;
        },
        subst (λ k. Lies before again after f admitted once k (words_of is)) d (lies_from (front ++ i ∷ []) is (e ∙ sym (append_assoc front (i ∷ []) is))),
      )

  abbrev K : ℕ
  K = length before + length {A = Instruction} []

  lies : Lies before again after f admitted once K (listed f)
  lies = subst (Lies before again after f admitted once K) same (lies_from [] again refl)

  opened : Opens f
  opened = opens again stay f admitted spells

  -- ---- before the first block

  parameter_at : (k : ℕ) (words : List ℕ) → LineIs before again after f admitted once k words → opcode_in words ≡ op.FUNCTION_PARAMETER → (id : ℕ)
      → has (defined_in words) id ≡ true
      → IsParameter I (n before again after f admitted once) id
  parameter_at k words x is id h =
      let parameter : opcode x.inst ≡ op.FUNCTION_PARAMETER = ap opcode_in x.words_are ∙ is in
      let d = defined_at I once k x.inst id x.get (ap (λ o. o == op.LINE || o == op.NO_LINE) parameter)
      (subst (λ w. word_with is_defined_id (as_instruction w) ≡ Some id) (sym x.words_are) (has_defined words id h)) in
      record { at = k; inst = x.inst; is_at = d.0; is = d.1; inside = x.inside; parameter = parameter }

  takes_from : (k : ℕ) (ps : List (List ℕ)) → Lies before again after f admitted once k ps → AllByRecursion
      (λ words. opcode_in words ≡ op.FUNCTION_PARAMETER) ps → (id : ℕ)
      → has (flat_map defined_in ps) id ≡ true → IsParameter I (n before again after f admitted once) id
  takes_from k [] there are id h = has_nothing id h
  takes_from k (p ∷ ps) there are id h = elim (has_either (defined_in p) (flat_map defined_in ps) id h) [
    | inl d ↦ parameter_at k p there.0 are.0 id d
    | inr d ↦ takes_from (suc k) ps there.1 are.1 id d
  ]

  abbrev rest : List (List ℕ)
  rest = label_line f.label ∷ (lines (branches f.label f.body) [] f.body ++ instruction op.FUNCTION_END [] ∷ [])

  takes : (id : ℕ) → has (flat_map defined_in f.parameters) id ≡ true → IsParameter I (n before again after f admitted once) id
  takes id h = takes_from (suc K) f.parameters (lines_at.lies_left before again after f admitted once (suc K) f.parameters rest lies.1) opened.parameters id h

  each_known : (l k : ℕ) (ids : List ℕ) → AllByRecursion (IsKnown I) ids → AllByRecursion (λ id. IsAvailable I id
      (at before again after f admitted once l k)) ids
  each_known l k [] h = tt
  each_known l k (x ∷ xs) h = (known_here before again after f admitted once x (at before again after f admitted once l k) h.0, each_known l k xs h.1)

  known_good : (k : ℕ) (words : List ℕ) → LineIs before again after f admitted once k words → (opcode_in words == op.PHI) ≡ false
      → AllByRecursion (IsKnown I) (used_in words) → Good before again after f admitted once k
  known_good k words x other h = lines_at.plain_good before again after f admitted once k (places.block_of I k) words x other refl (each_known
      (places.block_of I k) k (used_in words) h)

  parameters_good : (k : ℕ) (ps : List (List ℕ)) → Lies before again after f admitted once k ps
      → AllByRecursion (λ words. opcode_in words ≡ op.FUNCTION_PARAMETER) ps
      → AllByRecursion (λ words. AllByRecursion (IsKnown I) (used_in words)) ps → AllGood before again after f admitted once k ps
  parameters_good k [] there are h = tt
  parameters_good k (p ∷ ps) there are h =
      (known_good k p there.0 (ap (λ o. o == op.PHI) are.0) h.0, parameters_good (suc k) ps there.1 are.1 h.1)

  -- ---- all lines

  all_good : AllGood before again after f admitted once K (listed f)
  all_good =
      let body : List (List ℕ) = lines (branches f.label f.body) [] f.body in
      let last : List (List ℕ) = instruction op.FUNCTION_END [] ∷ [] in
      let k1 : ℕ = suc K + length f.parameters in
      let there = lines_at.lies_right before again after f admitted once (suc K) f.parameters rest lies.1 in
      let lies_body = lines_at.lies_left before again after f admitted once (suc k1) body last there.1 in
      let lies_last = lines_at.lies_right before again after f admitted once (suc k1) body last there.1 in
      let bare = no_phis again f admitted spells same in (
        known_good K f.function lies.0 (ap (λ o. o == op.PHI) opened.function) fine.function,
        lines_at.good_append before again after f admitted once (suc K) f.parameters rest
            (parameters_good (suc K) f.parameters (lines_at.lies_left before again after f admitted once
            (suc K) f.parameters rest lies.1) opened.parameters fine.parameters) (
              lines_at.label_good before again after f admitted once k1 f.label there.0,
              lines_at.good_append before again after f admitted once (suc k1) body last
                  (lined before again after f admitted spells same once P takes
                  (promised again f admitted spells bare P (Home before again after f admitted once) (homes before again after admitted once)
                  (Free before again after f admitted once takes) fine.body)
                  (sent again f admitted spells bare P (Home before again after f admitted once) (homes before again after admitted once)
                  (Free before again after f admitted once takes) fine.body)
                  spells.body (Free before again after f admitted once takes) (walk again stay f admitted spells) [] refl (suc k1)
                  (lines_at.begins_in before again after f admitted once k1 f.label there.0).1
                  (λ id h. inl (λ passed way any. inl h)) (λ e o. o) fine.body lies_body) (
                    known_good (suc k1 + length body) (instruction op.FUNCTION_END []) lies_last.0 refl (subst (AllByRecursion (IsKnown I))
                        (sym used_end) tt),
                    tt,
                  ),
            ),
      )

  pub available : (j : ℕ) (i : Instruction) → slice_get again j ≡ Some i → AreAvailable I (length before + j) i
  available j i e =
      let less : j < length (listed f) = (let a = slice_get_within again j i e in let b = ap length same in let c = lines_at.map_length (λ
      (x : Instruction). x.words) again in omega arith) in
      let k : K + j ≡ length before + j = omega arith in
      subst (Good before again after f admitted once) k (lines_at.good_at before again after f admitted once K (listed f) j all_good less) i (get_there j i e)

pub fine_is_available : FineIsAvailable
fine_is_available before again after f promised once admitted spells same fine j i e =
    available before again after f admitted spells same once (λ label id. promised label id ≡ true) fine j i e

pub listing_is_available : ListingIsAvailable
listing_is_available texts stays f admitted spells before again after promised once each same fine j i e =
    fine_is_available before again after f promised once (listing_is_admitted texts stays f admitted spells again same each)
    (respells_listing texts stays f admitted spells again same) same fine j i e
