-- A typed function is typed in a module that is alike but for what has gone, where its lines use what stays, and where so does what it uses elsewhere and each
-- type of a parameter of a front, if something defines it.
use Rattle.std.proofs.Common.{◌≡◌, ℕ, Bool, true, false, List, [], ◌∷◌, ◌++◌, nat_eq, Option, Some, None, refl, sym, ap, ap₂, subst, ◌∙◌}
use Rattle.std.specs.List.{AllByRecursion, slice_index}
use Rattle.std.specs.Option.{option_and_then, option_map_or}
use Rattle.std.proofs.lemmas.Bool.{and_parts}
use Rattle.spv_opcodes.specs.declared.op.TheConstants as op
use Rattle.spv_grammar.specs.Table.{row_of}
use Rattle.spv_module.specs.First.{unless}
use Rattle.spv_module.specs.Instruction.{Instruction, opcode}
use Rattle.spv_ids.specs.Ids.{definition, words_of}
use Rattle.spv_typing.specs.Kinds.{data_types, is_closed, is_data, is_one_of}
use Rattle.spv_typing.specs.Operations.{has_shape, shape}
use Rattle.spv_values.specs.Values.{given_type, is_bools, is_ints, is_value_of}
use Rattle.spv_usage.specs.declared.stages.Stage.{Stage}
use Rattle.spv_usage.specs.declared.stages.Stage.TheVariants.{Further, Opening}
use Rattle.spv_usage.specs.Stages.{stage_behind}
use Rattle.spv_alike_uses.specs.Laws.{SameRulesBut, UsesWhatStays}
use Rattle.spv_alike_uses.proofs.Lookups.{Case, In, same_bools, same_closed, same_ints, same_value_of}
use Rattle.spv_alike_uses.proofs.Rules.{rules_stay}
use Rattle.spv_alike_uses.proofs.Used.{used_word, word_uses}
use Rattle.spv_bodies.specs.Bodies.{Entry, Exit, Front, Parameter, ByBranch, InPlace, Body, Leaves, Finishes, Step, Enters, Splits, Selects, Switches, Loops, Arms, Last, Also, Function}
use Rattle.spv_bodies.specs.Listing.{Branching, arriving}
use Rattle.spv_tree.specs.Branches.{branches_in}
use Rattle.spv_tree.specs.Sound.{opcode_in}
use Rattle.spv_functions.specs.Functions.{is_pointer}
use Rattle.spv_editing.specs.Showing.{AStep, AUse, Shown, carried, shown, shown_in_arms, uses}
use Rattle.spv_fine_edits.specs.Giving.{fronts_in_arms, fronts_of}
use Rattle.spv_respelling.proofs.EachLine.{OfArms, OfSteps}
use Rattle.spv_structured.specs.Structured.{ArmsFit, FrontFits, IsStructured, ParameterFits, ParametersFit}
use Rattle.spv_typed_trees.specs.Typed.{ArmsTyped, Begins, Carries, HasTypes, IsTyped, Sends, StepFits, TakeTypes, Typed, as_instruction}
use Rattle.spv_built.proofs.Lists.{all_left, all_right}

function_uses : (word_uses 0 op.FUNCTION ≡ true) × (word_uses 3 op.FUNCTION ≡ true)
unfolding row_of
function_uses = (refl, refl)

module _ (c : Case) where
  -- ---- what stays

  -- all that a line uses
  abbrev pub Line : List ℕ → Type 0
  Line ws = UsesWhatStays c.gone (as_instruction ws)

  -- an id, if something defines it
  abbrev pub Lasts : ℕ → Type 0
  Lasts id = (i : Instruction) → definition c.before id ≡ Some i → In c id

  -- an id that is used elsewhere
  abbrev pub OfUse : Shown → Type 0
  OfUse (AStep words) = Unit {0}
  OfUse (AUse id) = Lasts id

  -- the type of a parameter of a front
  abbrev pub OfParameter : Parameter → Type 0
  OfParameter p = Lasts p.type

  abbrev pub OfFront : Front → Type 0
  OfFront front = AllByRecursion OfParameter front.parameters

  abbrev Us : List Shown → Type 0
  Us all = AllByRecursion OfUse all

  abbrev Fs : List Front → Type 0
  Fs fronts = AllByRecursion OfFront fronts

  -- ---- lines

  same_rules : (ws : List ℕ) → Line ws → SameRulesBut c.gone c.before c.after (as_instruction ws) (as_instruction ws)
  same_rules ws uses = rules_stay c.gone c.before c.after c.unbroken c.alike (as_instruction ws) (as_instruction ws) uses refl

  step_again : (stage : Stage) (words : List ℕ) → Line words → StepFits c.before stage words → StepFits c.after stage words
  step_again stage words uses f =
      let s = same_rules words uses in
      record {
        arithmetic = ap₂ (λ (a b : Bool). unless a 501 ++ unless b 502) s.arithmetic s.arithmetic_result ∙ f.arithmetic;
        composites = s.composites ∙ f.composites;
        storage = s.storage stage ∙ f.storage;
        ordering = s.ordering ∙ f.ordering;
        result = s.results None ∙ f.result;
        call = s.call ∙ f.call;
      }

  -- ---- what has a type or is one is defined, so it stays

  value_stays : (u id : ℕ) → Lasts id → is_value_of c.before u id ≡ true → In c id
  value_stays u id lasts h = by (definition c.before id) refl h
    where
      by : (o : Option Instruction) → definition c.before id ≡ o → option_map_or (nat_eq u) (option_and_then given_type o) false ≡ true → In c id
      by None e h = absurd (cc h)
      by (Some i) e h = lasts i e

  shaped_stays : (b : Bool) (id : ℕ) → Lasts id → has_shape b 1 (option_and_then (shape c.before) (option_and_then given_type (definition c.before id))) ≡ true
      → In c id
  shaped_stays b id lasts h = by (definition c.before id) refl h
    where
      by : (o : Option Instruction) → definition c.before id ≡ o → has_shape b 1 (option_and_then (shape c.before) (option_and_then given_type o)) ≡ true
          → In c id
      by None e h = absurd (cc h)
      by (Some i) e h = lasts i e

  closed_stays : (u : ℕ) → Lasts u → is_closed c.before u ≡ true → In c u
  closed_stays u lasts h = by (definition c.before u) refl (and_parts (is_data c.before u) _ h).0
    where
      by : (o : Option Instruction) → definition c.before u ≡ o → is_one_of data_types (option_map_or opcode o 0) ≡ true → In c u
      by None e h = absurd (cc h)
      by (Some i) e h = lasts i e

  value_again : (u id : ℕ) → Lasts id → is_value_of c.before u id ≡ true → is_value_of c.after u id ≡ true
  value_again u id lasts h = same_value_of c u id (value_stays u id lasts h) ∙ h

  bools_again : (id : ℕ) → Lasts id → is_bools c.before 1 id ≡ true → is_bools c.after 1 id ≡ true
  bools_again id lasts h = same_bools c 1 id (shaped_stays true id lasts h) ∙ h

  ints_again : (id : ℕ) → Lasts id → is_ints c.before 1 id ≡ true → is_ints c.after 1 id ≡ true
  ints_again id lasts h = same_ints c 1 id (shaped_stays false id lasts h) ∙ h

  closed_again : (u : ℕ) → Lasts u → is_closed c.before u ≡ true → is_closed c.after u ≡ true
  closed_again u lasts h = same_closed c u (closed_stays u lasts h) ∙ h

  -- ---- values that are carried

  carries_again : (ps : List Parameter) (ids : List ℕ) → Us (uses ids) → Carries c.before ps ids → Carries c.after ps ids
  carries_again [] ids k h = tt
  carries_again (p ∷ ps) [] k h = absurd h
  carries_again (p ∷ ps) (id ∷ ids) k h = (value_again p.type id k.0 h.0, carries_again ps ids k.1 h.1)

  sends_again : (fronts : List Front) (exit : Exit) → Us (uses exit.values) → Sends c.before fronts exit → Sends c.after fronts exit
  sends_again fronts exit k h =
      record { front = h.front; in_scope = h.in_scope; there = h.there; carries = carries_again h.front.parameters exit.values k h.carries }

  begins_again : (header : Front) (entry : Entry) → Us (uses (carried entry)) → Begins c.before header entry → Begins c.after header entry
  begins_again header (ByBranch values) k h = carries_again header.parameters values k h
  begins_again header InPlace k h = tt

  all_closed : (ps : List Parameter) → AllByRecursion OfParameter ps → AllByRecursion (λ p. is_closed c.before p.type ≡ true) ps
      → AllByRecursion (λ p. is_closed c.after p.type ≡ true) ps
  all_closed [] lasts h = tt
  all_closed (p ∷ ps) lasts h = (closed_again p.type lasts.0 h.0, all_closed ps lasts.1 h.1)

  types_again : (front : Front) → OfFront front → HasTypes c.before front → HasTypes c.after front
  types_again front lasts h = all_closed front.parameters lasts h

  -- ---- bodies, by recursion

  use_left : (xs ys : List Shown) → Us (xs ++ ys) → Us xs
  use_left = all_left OfUse

  use_right : (xs ys : List Shown) → Us (xs ++ ys) → Us ys
  use_right = all_right OfUse

  front_left : (xs ys : List Front) → Fs (xs ++ ys) → Fs xs
  front_left = all_left OfFront

  front_right : (xs ys : List Front) → Fs (xs ++ ys) → Fs ys
  front_right = all_right OfFront

  module _ (result : ℕ) (own : In c result) where
    mutual
      body_again : (fronts : List Front) (s : Stage) (b : Body) → OfSteps Line b → Us (shown b) → Fs (fronts_of b) → Typed c.before result fronts s b
          → Typed c.after result fronts s b
      body_again fronts s (Leaves exit) ls us fs h = sends_again fronts exit us h
      body_again fronts s (Finishes words) ls us fs h = (same_rules words ls).returns result own ∙ h
      body_again fronts s (Step words b) ls us fs h =
          (step_again s words ls.0 h.0, body_again fronts (stage_behind s (as_instruction words)) b ls.1 us.1 fs h.1)
      body_again fronts s (Enters label b) ls us fs h = body_again fronts Further b ls us fs h
      body_again fronts s (Splits condition on exit b) ls us fs h = (
        bools_again condition us.0 h.0,
        sends_again fronts exit (use_left (uses exit.values) (shown b) us.1) h.1,
        body_again fronts Further b ls (use_right (uses exit.values) (shown b) us.1) fs h.2,
      )
      body_again fronts s (Selects control condition first second merge rest) ls us fs h =
          let more = use_right (shown first) (shown second ++ shown rest) us.1 in
          let others = front_right (fronts_of first) (fronts_of second ++ fronts_of rest) fs.1 in (
            bools_again condition us.0 h.0,
            types_again merge fs.0 h.1,
            body_again (merge ∷ fronts) Further first ls.0 (use_left (shown first) (shown second ++ shown rest) us.1)
                (front_left (fronts_of first) (fronts_of second ++ fronts_of rest) fs.1) h.2,
            body_again (merge ∷ fronts) Further second ls.1 (use_left (shown second) (shown rest) more)
                (front_left (fronts_of second) (fronts_of rest) others) h.3,
            body_again fronts Further rest ls.2 (use_right (shown second) (shown rest) more) (front_right (fronts_of second) (fronts_of rest) others) h.4,
          )
      body_again fronts s (Switches control selector cases arms merge rest) ls us fs h = (
        ints_again selector us.0 h.0,
        types_again merge fs.0 h.1,
        arms_again (merge ∷ fronts) arms ls.0 (use_left (shown_in_arms arms) (shown rest) us.1) (front_left (fronts_in_arms arms) (fronts_of rest) fs.1) h.2,
        body_again fronts Further rest ls.1 (use_right (shown_in_arms arms) (shown rest) us.1) (front_right (fronts_in_arms arms) (fronts_of rest) fs.1) h.3,
      )
      body_again fronts s (Loops entry header control inner next continuing merge rest) ls us fs h =
          let within = use_right (uses (carried entry)) (shown inner ++ (shown continuing ++ shown rest)) us in
          let more = use_right (shown inner) (shown continuing ++ shown rest) within in
          let others = front_right (fronts_of inner) (fronts_of continuing ++ fronts_of rest) fs.1.1.1 in (
            begins_again header entry (use_left (uses (carried entry)) (shown inner ++ (shown continuing ++ shown rest)) us) h.0,
            types_again header fs.0 h.1,
            types_again next fs.1.0 h.2,
            types_again merge fs.1.1.0 h.3,
            body_again (next ∷ merge ∷ fronts) Further inner ls.0 (use_left (shown inner) (shown continuing ++ shown rest) within)
                (front_left (fronts_of inner) (fronts_of continuing ++ fronts_of rest) fs.1.1.1) h.4,
            body_again (header ∷ merge ∷ fronts) Further continuing ls.1 (use_left (shown continuing) (shown rest) more)
                (front_left (fronts_of continuing) (fronts_of rest) others) h.5,
            body_again fronts Further rest ls.2 (use_right (shown continuing) (shown rest) more)
                (front_right (fronts_of continuing) (fronts_of rest) others) h.6,
          )

      arms_again : (fronts : List Front) (arms : Arms) → OfArms Line arms → Us (shown_in_arms arms) → Fs (fronts_in_arms arms)
          → ArmsTyped c.before result fronts arms → ArmsTyped c.after result fronts arms
      arms_again fronts (Last b) ls us fs h = body_again fronts Further b ls us fs h
      arms_again fronts (Also b arms) ls us fs h = (
        body_again fronts Further b ls.0 (use_left (shown b) (shown_in_arms arms) us) (front_left (fronts_of b) (fronts_in_arms arms) fs) h.0,
        arms_again fronts arms ls.1 (use_right (shown b) (shown_in_arms arms) us) (front_right (fronts_of b) (fronts_in_arms arms) fs) h.1,
      )

  -- ---- the types of parameters of fronts are no pointers, and stay so

  module _ (pointers : (u : ℕ) → In c u → is_pointer c.after u ≡ is_pointer c.before u) where
    front_fits : (here : List Branching) (ps : List Parameter) → AllByRecursion OfParameter ps → AllByRecursion (λ p. is_closed c.before p.type ≡ true) ps
        → AllByRecursion (ParameterFits (is_pointer c.before) here) ps → AllByRecursion (ParameterFits (is_pointer c.after) here) ps
    front_fits here [] lasts k h = tt
    front_fits here (p ∷ ps) lasts k h = (
      record { value = pointers p.type (closed_stays p.type lasts.0 k.0) ∙ h.0.value; named = h.0.named },
      front_fits here ps lasts.1 k.1 h.1,
    )

    fits_again : (all : List Branching) (front : Front) → OfFront front → HasTypes c.before front → FrontFits (is_pointer c.before) all front
        → FrontFits (is_pointer c.after) all front
    fits_again all front lasts k h = front_fits (arriving front.label all) front.parameters lasts k h

    module _ (result : ℕ) (all : List Branching) where
      mutual
        structured_again : (fronts : List Front) (s : Stage) (b : Body) → Fs (fronts_of b) → Typed c.before result fronts s b
            → ParametersFit (is_pointer c.before) all b → ParametersFit (is_pointer c.after) all b
        structured_again fronts s (Leaves exit) fs k h = tt
        structured_again fronts s (Finishes words) fs k h = tt
        structured_again fronts s (Step words b) fs k h = structured_again fronts (stage_behind s (as_instruction words)) b fs k.1 h
        structured_again fronts s (Enters label b) fs k h = structured_again fronts Further b fs k h
        structured_again fronts s (Splits condition on exit b) fs k h = structured_again fronts Further b fs k.2 h
        structured_again fronts s (Selects control condition first second merge rest) fs k h =
            let others = front_right (fronts_of first) (fronts_of second ++ fronts_of rest) fs.1 in (
              fits_again all merge fs.0 k.1 h.0,
              structured_again (merge ∷ fronts) Further first (front_left (fronts_of first) (fronts_of second ++ fronts_of rest) fs.1) k.2 h.1,
              structured_again (merge ∷ fronts) Further second (front_left (fronts_of second) (fronts_of rest) others) k.3 h.2,
              structured_again fronts Further rest (front_right (fronts_of second) (fronts_of rest) others) k.4 h.3,
            )
        structured_again fronts s (Switches control selector cases arms merge rest) fs k h = (
          fits_again all merge fs.0 k.1 h.0,
          arms_structured (merge ∷ fronts) arms (front_left (fronts_in_arms arms) (fronts_of rest) fs.1) k.2 h.1,
          structured_again fronts Further rest (front_right (fronts_in_arms arms) (fronts_of rest) fs.1) k.3 h.2,
        )
        structured_again fronts s (Loops entry header control inner next continuing merge rest) fs k h =
            let others = front_right (fronts_of inner) (fronts_of continuing ++ fronts_of rest) fs.1.1.1 in (
              fits_again all header fs.0 k.1 h.0,
              fits_again all next fs.1.0 k.2 h.1,
              fits_again all merge fs.1.1.0 k.3 h.2,
              structured_again (next ∷ merge ∷ fronts) Further inner (front_left (fronts_of inner) (fronts_of continuing ++ fronts_of rest) fs.1.1.1) k.4 h.3,
              structured_again (header ∷ merge ∷ fronts) Further continuing (front_left (fronts_of continuing) (fronts_of rest) others) k.5 h.4,
              structured_again fronts Further rest (front_right (fronts_of continuing) (fronts_of rest) others) k.6 h.5,
            )

        arms_structured : (fronts : List Front) (arms : Arms) → Fs (fronts_in_arms arms) → ArmsTyped c.before result fronts arms
            → ArmsFit (is_pointer c.before) all arms → ArmsFit (is_pointer c.after) all arms
        arms_structured fronts (Last b) fs k h = structured_again fronts Further b fs k h
        arms_structured fronts (Also b arms) fs k h = (
          structured_again fronts Further b (front_left (fronts_of b) (fronts_in_arms arms) fs) k.0 h.0,
          arms_structured fronts arms (front_right (fronts_of b) (fronts_in_arms arms) fs) k.1 h.1,
        )

    pub structure_again : (f : Function) → Fs (fronts_of f.body) → IsTyped c.before f → IsStructured (is_pointer c.before) f
        → IsStructured (is_pointer c.after) f
    structure_again f fs k h = record {
      flows = h.flows;
      parameters = structured_again (slice_index f.function 1) (branches_in f) [] Opening f.body fs k.body h.parameters;
      arms = h.arms;
    }

  -- ---- functions

  pub typed_again : ((u : ℕ) → In c u → words_of c.after u 3 ≡ words_of c.before u 3) → (f : Function) → opcode_in f.function ≡ op.FUNCTION → Line f.function
      → OfSteps Line f.body → Us (shown f.body) → Fs (fronts_of f.body) → IsTyped c.before f → IsTyped c.after f
  typed_again words f is own ls us fs h =
      let s = same_rules f.function own in
      let i = as_instruction f.function in
      let result : In c (slice_index f.function 1) = used_word (In c) i own.whole own.used 0 (ap (word_uses 0) is ∙ function_uses.0) in
      let type : In c (slice_index f.function 4) = used_word (In c) i own.whole own.used 3 (ap (word_uses 3) is ∙ function_uses.1) in
      record {
        function = s.function ∙ h.function;
        result = s.results None ∙ h.result;
        parameters = subst (λ types. TakeTypes types f.parameters) (sym (words (slice_index f.function 4) type)) h.parameters;
        body = body_again (slice_index f.function 1) result [] Opening f.body ls us fs h.body;
      }
