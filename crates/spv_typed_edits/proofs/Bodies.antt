-- An edited body is typed: by induction on the body, wherever what it shows is kept and each Step's lines fit in turn.
use Rattle.std.proofs.Common.{◌≡◌, ℕ, Bool, true, false, cond, ◌==◌, ◌&&◌, not, List, [], ◌∷◌, ◌++◌, map, Option, None, Some, refl, sym, ap, ◌∙◌, true≢false}
use Rattle.std.specs.Prelude.{nat_eq, slice_index}
use Rattle.std.specs.List.{AllByRecursion}
use Rattle.std.specs.Option.{option_and_then, option_map_or}
use Rattle.spv_opcodes.specs.declared.op.TheConstants as op
use Rattle.spv_module.specs.Instruction.{Instruction}
use Rattle.spv_typing.specs.Kinds.{is_closed, is_void}
use Rattle.spv_typing.specs.Operations.{has_shape, shape}
use Rattle.spv_values.specs.Values.{is_bools, is_ints, is_value_of, value_type}
use Rattle.spv_usage.specs.declared.stages.Stage.{Stage}
use Rattle.spv_usage.specs.declared.stages.Stage.TheVariants.{Further}
use Rattle.spv_usage.specs.Stages.{stage_behind}
use Rattle.spv_signatures.specs.Contexts.{return_fits}
use Rattle.spv_bodies.specs.Bodies.{Parameter, Exit, Front, Entry, ByBranch, InPlace, Body, Leaves, Finishes, Step, Enters, Splits, Selects, Switches, Loops, Arms, Last, Also}
use Rattle.spv_tree.specs.Sound.{opcode_in}
use Rattle.spv_editing.specs.Editing.{Edit, edited, edited_arms, edited_end, edited_entry, edited_exit, steps_before}
use Rattle.spv_editing.specs.Showing.{AStep, AUse, Shown, carried, operands, shown, shown_in_arms, uses}
use Rattle.spv_typed_trees.specs.Typed.{ArmsTyped, Begins, Carries, Sends, StepFits, Typed, as_instruction}
use Rattle.spv_typed_edits.specs.Edits.{HasItsType}
use Rattle.spv_typed_edits.proofs.Members.{behind, in_front}

-- ---- lines in turn

-- each line fits at the stage where it stands behind those before it
abbrev pub InTurn : (m : List Instruction) → Stage → List (List ℕ) → Type 0
InTurn m stage [] = Unit {0}
InTurn m stage (words ∷ lines) = StepFits m stage words × InTurn m (stage_behind stage (as_instruction words)) lines

abbrev pub stage_after : Stage → List (List ℕ) → Stage
stage_after stage [] = stage
stage_after stage (words ∷ lines) = stage_after (stage_behind stage (as_instruction words)) lines

typed_behind : (m : List Instruction) (t : ℕ) (fronts : List Front) (stage : Stage) (lines : List (List ℕ)) (body : Body) → InTurn m stage lines
    → Typed m t fronts (stage_after stage lines) body → Typed m t fronts stage (steps_before lines body)
typed_behind m t fronts stage [] body h g = g
typed_behind m t fronts stage (words ∷ lines) body h g =
    (h.0, typed_behind m t fronts (stage_behind stage (as_instruction words)) lines body h.1 g)

-- ---- returned values

-- a returned value may be another one of the same type
return_by : (returns gives void here there : Bool) → (here ≡ true → there ≡ true) → cond returns void (cond gives (not void && here) true) ≡ true
    → cond returns void (cond gives (not void && there) true) ≡ true
return_by true gives void here there keeps h = h
return_by false false void here there keeps h = refl
return_by false true true here there keeps h = h
return_by false true false here there keeps h = keeps h

-- ---- edits

module _ (before after : List Instruction) (e : Edit)
    -- what is so of all that the body shows
    (Kept : Shown → Type 0)
    -- how a stage in the edited body is to one in the body
    (Follows : Stage → Stage → Type 0)
    (further : Follows Further Further)
    (steps : (s r : Stage) (words : List ℕ) → Kept (AStep words) → Follows s r → StepFits before s words
    → InTurn after r (e.steps words) × Follows (stage_behind s (as_instruction words)) (stage_after r (e.steps words)))
    (ids : (id : ℕ) → Kept (AUse id) → HasItsType before after id (e.uses id))
    (shapes : (t : ℕ) → shape after t ≡ shape before t)
    (closed : (t : ℕ) → is_closed after t ≡ is_closed before t)
    (voids : (t : ℕ) → is_void after t ≡ is_void before t)
    (nothing : (t : ℕ) → is_value_of before t 0 ≡ true → is_value_of after t 0 ≡ true) where
  abbrev AllKept : List Shown → Type 0
  AllKept all = AllByRecursion Kept all

  -- ---- ids

  -- a value of a type, or of a shape, becomes another one
  value_by : (t : ℕ) (here there : Option ℕ) → ((u : ℕ) → here ≡ Some u → there ≡ Some u) → option_map_or (nat_eq t) here false ≡ true
      → option_map_or (nat_eq t) there false ≡ true
  value_by t None there keeps h = absurd (true≢false (sym h))
  value_by t (Some u) there keeps h = ap (λ (o : Option ℕ). option_map_or (nat_eq t) o false) (keeps u refl) ∙ h

  value : (t id : ℕ) → Kept (AUse id) → is_value_of before t id ≡ true → is_value_of after t (e.uses id) ≡ true
  value t id k h = value_by t (value_type before id) (value_type after (e.uses id)) (ids id k) h

  shape_by : (is_boolean : Bool) (here there : Option ℕ) → ((u : ℕ) → here ≡ Some u → there ≡ Some u)
      → has_shape is_boolean 1 (option_and_then (shape before) here) ≡ true → has_shape is_boolean 1 (option_and_then (shape after) there) ≡ true
  shape_by is_boolean None there keeps h = absurd (true≢false (sym h))
  shape_by is_boolean (Some u) there keeps h =
      ap (λ (o : Option ℕ). has_shape is_boolean 1 (option_and_then (shape after) o)) (keeps u refl) ∙ ap (has_shape is_boolean 1) (shapes u) ∙ h

  bools : (id : ℕ) → Kept (AUse id) → is_bools before 1 id ≡ true → is_bools after 1 (e.uses id) ≡ true
  bools id k h = shape_by true (value_type before id) (value_type after (e.uses id)) (ids id k) h

  ints : (id : ℕ) → Kept (AUse id) → is_ints before 1 id ≡ true → is_ints after 1 (e.uses id) ≡ true
  ints id k h = shape_by false (value_type before id) (value_type after (e.uses id)) (ids id k) h

  -- ---- fronts, and values that are carried to them

  has_types : (ps : List Parameter) → AllByRecursion (λ p. is_closed before p.type ≡ true) ps → AllByRecursion (λ p. is_closed after p.type ≡ true) ps
  has_types [] h = tt
  has_types (p ∷ ps) h = (closed p.type ∙ h.0, has_types ps h.1)

  carries : (ps : List Parameter) (values : List ℕ) → AllKept (uses values) → Carries before ps values → Carries after ps (map e.uses values)
  carries [] values k h = tt
  carries (p ∷ ps) [] k h = h
  carries (p ∷ ps) (id ∷ ids) k h = (value p.type id k.0 h.0, carries ps ids k.1 h.1)

  sends : (fronts : List Front) (exit : Exit) → AllKept (uses exit.values) → Sends before fronts exit → Sends after fronts (edited_exit e exit)
  sends fronts exit k h = record {
    front = h.front;
    in_scope = h.in_scope;
    there = h.there;
    carries = carries h.front.parameters exit.values k h.carries;
  }

  begins : (header : Front) (entry : Entry) → AllKept (uses (carried entry)) → Begins before header entry → Begins after header (edited_entry e entry)
  begins header (ByBranch values) k h = carries header.parameters values k h
  begins header InPlace k h = tt

  -- ---- ends

  returned : (t : ℕ) (values : List ℕ) → AllKept (uses values) → is_value_of before t (slice_index values 0) ≡ true
      → is_value_of after t (slice_index (map e.uses values) 0) ≡ true
  returned t [] k h = nothing t h
  returned t (id ∷ ids) k h = value t id k.0 h

  finishes : (t : ℕ) (words : List ℕ) → AllKept (uses (operands words)) → return_fits before t (as_instruction words) ≡ true
      → return_fits after t (as_instruction (edited_end e words)) ≡ true
  unfolding return_fits
  finishes t [] k h = refl
  finishes t (head ∷ values) k h =
      let o = opcode_in (head ∷ values) in
      let here = is_value_of before t (slice_index values 0) in
      let there = is_value_of after t (slice_index (map e.uses values) 0) in
      ap (λ (void : Bool). cond (o == op.RETURN) void (cond (o == op.RETURN_VALUE) (not void && there) true)) (voids t)
      ∙ return_by (o == op.RETURN) (o == op.RETURN_VALUE) (is_void before t) here there (returned t values k) h

  -- ---- bodies

  module _ (t : ℕ) where
    mutual
      pub typed : (fronts : List Front) (s r : Stage) (b : Body) → AllKept (shown b) → Follows s r → Typed before t fronts s b
          → Typed after t fronts r (edited e b)
      typed fronts s r (Leaves exit) k f h = sends fronts exit k h
      typed fronts s r (Finishes words) k f h = finishes t words k h
      typed fronts s r (Step words body) k f h =
          let now = steps s r words k.0 f h.0 in
          typed_behind after t fronts r (e.steps words) (edited e body) now.0
          (typed fronts (stage_behind s (as_instruction words)) (stage_after r (e.steps words)) body k.1 now.1 h.1)
      typed fronts s r (Enters label body) k f h = typed fronts Further Further body k further h
      typed fronts s r (Splits condition on exit body) k f h = (
        bools condition k.0 h.0,
        sends fronts exit (in_front Kept (uses exit.values) (shown body) k.1) h.1,
        typed fronts Further Further body (behind Kept (uses exit.values) (shown body) k.1) further h.2,
      )
      typed fronts s r (Selects control condition first second merge rest) k f h =
          let more = behind Kept (shown first) (shown second ++ shown rest) k.1 in (
            bools condition k.0 h.0,
            has_types merge.parameters h.1,
            typed (merge ∷ fronts) Further Further first (in_front Kept (shown first) (shown second ++ shown rest) k.1) further h.2,
            typed (merge ∷ fronts) Further Further second (in_front Kept (shown second) (shown rest) more) further h.3,
            typed fronts Further Further rest (behind Kept (shown second) (shown rest) more) further h.4,
          )
      typed fronts s r (Switches control selector cases arms merge rest) k f h = (
        ints selector k.0 h.0,
        has_types merge.parameters h.1,
        arms_typed (merge ∷ fronts) arms (in_front Kept (shown_in_arms arms) (shown rest) k.1) h.2,
        typed fronts Further Further rest (behind Kept (shown_in_arms arms) (shown rest) k.1) further h.3,
      )
      typed fronts s r (Loops entry header control inner next continuing merge rest) k f h =
          let within = behind Kept (uses (carried entry)) (shown inner ++ (shown continuing ++ shown rest)) k in
          let more = behind Kept (shown inner) (shown continuing ++ shown rest) within in (
            begins header entry (in_front Kept (uses (carried entry)) (shown inner ++ (shown continuing ++ shown rest)) k) h.0,
            has_types header.parameters h.1,
            has_types next.parameters h.2,
            has_types merge.parameters h.3,
            typed (next ∷ merge ∷ fronts) Further Further inner (in_front Kept (shown inner) (shown continuing ++ shown rest) within) further h.4,
            typed (header ∷ merge ∷ fronts) Further Further continuing (in_front Kept (shown continuing) (shown rest) more) further h.5,
            typed fronts Further Further rest (behind Kept (shown continuing) (shown rest) more) further h.6,
          )

      arms_typed : (fronts : List Front) (arms : Arms) → AllKept (shown_in_arms arms) → ArmsTyped before t fronts arms
          → ArmsTyped after t fronts (edited_arms e arms)
      arms_typed fronts (Last arm) k h = typed fronts Further Further arm k further h
      arms_typed fronts (Also arm arms) k h = (
        typed fronts Further Further arm (in_front Kept (shown arm) (shown_in_arms arms) k) further h.0,
        arms_typed fronts arms (behind Kept (shown arm) (shown_in_arms arms) k) h.1,
      )
