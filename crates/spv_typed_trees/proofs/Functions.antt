-- A function whose lines fit is walked, from wherever it begins.
use Rattle.std.proofs.Common.{◌≡◌, inl, inr, ℕ, zero, suc, ◌+◌, ◌<◌, true, false, ◌==◌, nat_eq, List, [], ◌∷◌, ◌++◌, drop, length, take, Option, None, Some, refl, sym, ap, subst, ◌∙◌, arith}
use Rattle.std.specs.Prelude.{slice_get, slice_index}
use Rattle.std.specs.List.{AllByRecursion, fold}
use Rattle.std.specs.Option.{option_map_or}
use Rattle.std.proofs.lemmas.Bool.{eq-eqb}
use Rattle.spv_opcodes.specs.declared.op.TheConstants as op
use Rattle.spv_module.specs.Instruction.{Instruction, opcode}
use Rattle.spv_arithmetic.specs.Results.{result_fits}
use Rattle.spv_composites.specs.Broken.{composite_rules}
use Rattle.spv_composites.specs.Composites.{composite_operands_fit, composite_result_fits}
use Rattle.spv_composites.specs.Memory.{atomic_operands_fit, atomic_result_fits, memory_operands_fit, memory_result_fits}
use Rattle.spv_composites.specs.Vectors.{vector_operands_fit, vector_result_fits}
use Rattle.spv_usage.specs.Orderings.{ordering_fits}
use Rattle.spv_usage.specs.Storage.{storage_fits}
use Rattle.spv_usage.specs.declared.stages.Stage.{Stage}
use Rattle.spv_usage.specs.declared.stages.Stage.TheVariants.{Head, Opening}
use Rattle.spv_usage.specs.Stages.{stage_behind}
use Rattle.spv_signatures.specs.Calls.{call_fits}
use Rattle.spv_signatures.specs.Contexts.{result_type_in, return_fits, types_in, result_fits as function_result_fits}
use Rattle.spv_signatures.specs.Functions.{function_fits, parameter_types}
use Rattle.spv_tree.specs.Sound.{opcode_in}
use Rattle.spv_tree.specs.Tree.{words_of}
use Rattle.spv_bodies.specs.Listing.{Branching, label_line}
use Rattle.spv_typed_trees.specs.Typed.{TakeTypes, as_instruction}
use Rattle.spv_typed_trees.proofs.Fits.{Fits, function_moved, moved, next_moved}
use Rattle.spv_typed_trees.proofs.Lines.{LineFits, label_still}
use Rattle.spv_typed_trees.proofs.Passes.{no_form}
use Rattle.spv_typed_trees.proofs.Shape.{Opens, Still, opens_words}
use Rattle.spv_typed_trees.proofs.Trees.{OpeningLines}
use Rattle.spv_typed_trees.proofs.Walked.{Walked, Where, behind, behind_first, behind_function, behind_inner, behind_parameter, stage_variable, within}
use Rattle.spv_typed_trees.proofs.Words.{same_words}

-- ---- an OpFunction and its parameters

module _ (m : List Instruction) (i : Instruction) where
  function_composites : opcode i ≡ op.FUNCTION → composite_rules m i ≡ []
  unfolding vector_operands_fit composite_operands_fit memory_operands_fit atomic_operands_fit
      vector_result_fits composite_result_fits memory_result_fits atomic_result_fits
  function_composites e = rw e refl

  function_line : opcode i ≡ op.FUNCTION → function_fits m i ≡ true → function_result_fits m None i ≡ true → Fits m Opening 0 None i
  unfolding result_fits storage_fits ordering_fits call_fits return_fits
  function_line e f r = record {
    arithmetic = no_form m i op.FUNCTION refl e;
    arithmetic_result = rw e refl;
    composites = function_composites e;
    storage = rw e refl;
    ordering = rw e refl;
    function = f;
    results = r;
    call = rw e refl;
    returns = rw e refl;
  }

  parameter_composites : opcode i ≡ op.FUNCTION_PARAMETER → composite_rules m i ≡ []
  unfolding vector_operands_fit composite_operands_fit memory_operands_fit atomic_operands_fit
      vector_result_fits composite_result_fits memory_result_fits atomic_result_fits
  parameter_composites e = rw e refl

  parameter_line : (t : ℕ) (next : Option ℕ) → opcode i ≡ op.FUNCTION_PARAMETER → next ≡ Some (slice_index i.words 1) → Fits m Head t next i
  unfolding result_fits storage_fits ordering_fits function_fits function_result_fits call_fits return_fits
  parameter_line t next e g = record {
    arithmetic = no_form m i op.FUNCTION_PARAMETER refl e;
    arithmetic_result = rw e refl;
    composites = parameter_composites e;
    storage = rw e refl;
    ordering = rw e refl;
    function = rw e refl;
    results = rw e (ap (λ (o : Option ℕ). option_map_or (nat_eq (slice_index i.words 1)) o false) g
        ∙ eq-eqb (slice_index i.words 1) (slice_index i.words 1) refl);
    call = rw e refl;
    returns = rw e refl;
  }

-- ---- what stands in the blocks

module _ (m : List Instruction) (f : Instruction) (n : ℕ) where
  abbrev type : ℕ
  type = slice_index f.words 1

  abbrev next : Option ℕ
  next = slice_get (types_in m (Some f)) n

  abbrev IsReady : Instruction → Type 0
  IsReady i = Fits m Opening type None i

  still_walked : (s : Stage) (is : List Instruction) → Still opcode is → AllByRecursion IsReady is → Walked m (within s f n) is
  still_walked s [] h r = tt
  still_walked s (i ∷ is) h r = (
    λ inside plain. moved m i Opening s type None next h.0.variable h.0.inner.parameter r.0,
    subst (λ w. Walked m w is) (sym (behind_inner s f n i h.0.inner)) (still_walked (stage_behind s i) is h.1 r.1),
  )

  -- variables stand in the head of the first block
  opens_walked : (is : List Instruction) → Opens opcode is → AllByRecursion IsReady is → Walked m (within Opening f n) is
  opens_walked [] h r = tt
  opens_walked (i ∷ is) h r = (
    λ inside plain. next_moved m i Opening type None next h.0.parameter r.0,
    subst (λ w. Walked m w is) (sym (behind_inner Opening f n i h.0)) (elim h.1 [
      | inl v ↦ subst (λ s. Walked m (within s f n) is) (sym (stage_variable Opening i v.0)) (opens_walked is v.1 r.1)
      | inr v ↦ still_walked (stage_behind Opening i) is v.1 r.1
    ]),
  )

  ready : (is : List Instruction) → AllByRecursion (LineFits m type) (words_of is) → AllByRecursion IsReady is
  ready [] h = tt
  ready (i ∷ is) h = (h.0 i refl, ready is h.1)

  -- the label of the first block, and the lines behind it
  pub blocks_walked : (all : List Branching) (l : ℕ) (ws : List (List ℕ)) (is : List Instruction) → words_of is ≡ label_line l ∷ ws → OpeningLines m type all ws
      → Walked m (within Head f n) is
  blocks_walked all l ws [] e h = absurd (cc e)
  blocks_walked all l ws (i ∷ is) e h =
      let here : i.words ≡ label_line l = cc e in
      let more : words_of is ≡ ws = cc e in
      let label : opcode i ≡ op.LABEL = ap opcode_in here in (
        λ inside plain. moved m i Opening Head type None next (ap (λ o. o == op.VARIABLE) label) (ap (λ o. o == op.FUNCTION_PARAMETER) label)
            ((label_still m type l).fits i here),
        subst (λ w. Walked m w is) (sym (behind_first f n i label))
            (opens_walked is (opens_words is (subst (Opens opcode_in) (sym more) h.opens))
            (ready is (subst (AllByRecursion (LineFits m type)) (sym more) h.fit))),
      )

-- ---- the front

record FirstType (t : ℕ) (ts types : List ℕ) (n : ℕ) : Type 0 where
  here : slice_get types n ≡ Some t
  more : drop (suc n) types ≡ ts

first_type : (t : ℕ) (ts types : List ℕ) (n : ℕ) → drop n types ≡ t ∷ ts → FirstType t ts types n
first_type t ts [] zero e = absurd (cc e)
first_type t ts (u ∷ us) zero e = record { here = (let same : u ≡ t = cc e in ap Some same); more = (let same : us ≡ ts = cc e in same) }
first_type t ts [] (suc n) e = absurd (cc e)
first_type t ts (u ∷ us) (suc n) e = let r = first_type t ts us n e in record { here = r.here; more = r.more }

module _ (m : List Instruction) (f : Instruction) where
  -- the parameters, and what stands behind them; by induction on the parameters
  parameters_walked : (n : ℕ) (types : List ℕ) (ps : List (List ℕ)) (rest : List (List ℕ)) (is : List Instruction)
      → drop n (types_in m (Some f)) ≡ types → TakeTypes types ps → AllByRecursion (λ words. opcode_in words ≡ op.FUNCTION_PARAMETER) ps
      → words_of is ≡ ps ++ rest
      → ((k : ℕ) (back : List Instruction) → words_of back ≡ rest → Walked m (within Head f k) back) → Walked m (within Head f n) is
  parameters_walked n types [] rest is d takes are e later = later n is e
  parameters_walked n [] (p ∷ ps) rest is d takes are e later = absurd takes
  parameters_walked n (t ∷ ts) (p ∷ ps) rest [] d takes are e later = absurd (cc e)
  parameters_walked n (t ∷ ts) (p ∷ ps) rest (i ∷ is) d takes are e later =
      let here : i.words ≡ p = cc e in
      let more : words_of is ≡ ps ++ rest = cc e in
      let parameter : opcode i ≡ op.FUNCTION_PARAMETER = ap opcode_in here ∙ are.0 in
      let r = first_type t ts (types_in m (Some f)) n d in (
        λ inside plain. parameter_line m i (slice_index f.words 1) (slice_get (types_in m (Some f)) n) parameter
            (r.here ∙ ap Some (sym takes.0) ∙ ap (λ ws. Some (slice_index ws 1)) (sym here)),
        subst (λ w. Walked m w is) (sym (behind_parameter f n i parameter)) (parameters_walked (suc n) ts ps rest is r.more takes.1 are.1 more later),
      )

-- the whole, by its words
pub function_walked : (m : List Instruction) (all : List Branching) (w : Where) (front : List ℕ) (ps : List (List ℕ)) (l : ℕ) (ws : List (List ℕ))
    (is : List Instruction)
    → opcode_in front ≡ op.FUNCTION → function_fits m (as_instruction front) ≡ true → function_result_fits m None (as_instruction front) ≡ true
    → TakeTypes (parameter_types m (slice_index front 4)) ps → AllByRecursion (λ words. opcode_in words ≡ op.FUNCTION_PARAMETER) ps
    → OpeningLines m (slice_index front 1) all ws
    → words_of is ≡ front ∷ (ps ++ label_line l ∷ ws) → Walked m w is
function_walked m all w front ps l ws [] begins fits result takes are opens e = absurd (cc e)
function_walked m all w front ps l ws (i ∷ is) begins fits result takes are opens e =
    let here : i.words ≡ front = cc e in
    let more : words_of is ≡ ps ++ label_line l ∷ ws = cc e in
    let function : opcode i ≡ op.FUNCTION = ap opcode_in here ∙ begins in
    let line = same_words m Opening 0 None (as_instruction front) i here (function_line m (as_instruction front) begins fits result) in (
      λ inside plain. function_moved m i Opening w.stage 0 (result_type_in w.function) None (slice_get (types_in m w.function) w.count) function line,
      subst (λ z. Walked m z is) (sym (behind_function w i function))
          (parameters_walked m i 0 (types_in m (Some i)) ps (label_line l ∷ ws) is refl
          (subst (λ words. TakeTypes (parameter_types m (slice_index words 4)) ps) (sym here) takes) are more
          (λ k back same. blocks_walked m i k all l ws back same (subst (λ words. OpeningLines m (slice_index words 1) all ws) (sym here) opens))),
    )

-- ---- behind other instructions

pub behind_before : (w : Where) (xs ys : List Instruction) (k : ℕ)
    → fold behind w (take (length xs + k) (xs ++ ys)) ≡ fold behind (fold behind w xs) (take k ys)
behind_before w [] ys k = let e : 0 + k ≡ k = omega arith in ap (λ j. fold behind w (take j ys)) e
behind_before w (x ∷ xs) ys k =
    let e : suc (length xs) + k ≡ suc (length xs + k) = omega arith in
    ap (λ j. fold behind w (take j (x ∷ xs ++ ys))) e ∙ behind_before (behind w x) xs ys k

pub behind_front : (w : Where) (xs ys : List Instruction) (k : ℕ) → k < length xs → fold behind w (take k (xs ++ ys)) ≡ fold behind w (take k xs)
behind_front w xs ys zero less = refl
behind_front w [] ys (suc k) less = absurd (omega arith)
behind_front w (x ∷ xs) ys (suc k) less = behind_front (behind w x) xs ys k (omega arith)
