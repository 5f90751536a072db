-- The functions of a module that is alike, with the words of a front and of lines that fit, break no rule on bodies.
use Rattle.std.proofs.Common.{◌≡◌, inl, inr, ℕ, suc, Bool, true, false, cond, ◌==◌, ◌&&◌, ◌||◌, not, List, [], ◌∷◌, ◌++◌, drop, Option, None, Some, refl, sym, ap, subst, ◌∙◌}
use Rattle.std.specs.Prelude.{slice_get, slice_index}
use Rattle.std.specs.List.{AllByRecursion, fold}
use Rattle.std.specs.Option.{option_map_or}
use Rattle.spv_opcodes.specs.declared.op.TheConstants as op
use Rattle.spv_module.specs.Code.{is_function}
use Rattle.spv_module.specs.Instruction.{Instruction, IsInstruction, opcode, roles}
use Rattle.spv_ids.specs.Ids.{definition, kind, words_of as words_at}
use Rattle.spv_typing.specs.Kinds.{is_one_of}
use Rattle.spv_declarations.specs.Laws.{IsUnbroken}
use Rattle.spv_walk.proofs.Unique.{both_fail, both_left, equal_true, truth_apart}
use Rattle.spv_tree.specs.Sound.{opcode_in}
use Rattle.spv_tree.specs.Tree.{words_of}
use Rattle.spv_spelling.specs.Whole.{IsText}
use Rattle.spv_norm_means.proofs.InOrder.{joined}
use Rattle.spv_norm_structured.proofs.Pieces.{BeginsNone}
use Rattle.spv_usage.specs.declared.stages.Stage.{Stage}
use Rattle.spv_usage.specs.declared.stages.Stage.TheVariants.{Head, Opening}
use Rattle.spv_usage.specs.Stages.{stage_behind}
use Rattle.spv_signatures.specs.Contexts.{result_type_in, types_in}
use Rattle.spv_signatures.specs.Functions.{function_fits, is_function_type, parameter_types, parameters_of}
use Rattle.spv_alike.specs.Alike.{AreAlike, loose_kinds}
use Rattle.spv_alike.specs.Laws.{RulesStay}
use Rattle.spv_norm_typed.proofs.Fits.{Fits, fits_same, function_moved, moved, next_moved, stay}
use Rattle.spv_norm_typed.proofs.Made.{IsSource, LineFits}
use Rattle.spv_norm_typed.proofs.Placed.{Placed}
use Rattle.spv_norm_typed.proofs.Shape.{Opens, Still, opens_words}
use Rattle.spv_norm_typed.proofs.Texts.{FitsUnless, HasParts, IsParameter}
use Rattle.spv_norm_typed.proofs.Walked.{Walked, Where, behind, behind_first, behind_function, behind_inner, behind_parameter, stage_variable, walked_both, within}

-- ---- what stands in the blocks of a function of the normal form

module _ (m : List Instruction) (f : Instruction) (n : ℕ) where
  abbrev type : ℕ
  type = slice_index f.words 1

  abbrev next : Option ℕ
  next = slice_get (types_in m (Some f)) n

  -- it is asked for what it is asked for anywhere
  abbrev IsReady : Instruction → Type 0
  IsReady i = (opcode i == op.FUNCTION_PARAMETER) ≡ false → Fits m Opening type None i

  still_walked : (s : Stage) (is : List Instruction) → Still opcode is → AllByRecursion IsReady is → Walked m (within s f n) is
  still_walked s [] h r = tt
  still_walked s (i ∷ is) h r = (
    λ inside plain. moved m i Opening s type None next h.0.variable h.0.inner.parameter (r.0 h.0.inner.parameter),
    subst (λ w. Walked m w is) (sym (behind_inner s f n i h.0.inner)) (still_walked (stage_behind s i) is h.1 r.1),
  )

  -- variables stand in the head of the first block
  opens_walked : (is : List Instruction) → Opens opcode is → AllByRecursion IsReady is → Walked m (within Opening f n) is
  opens_walked [] h r = tt
  opens_walked (i ∷ is) h r = (
    λ inside plain. next_moved m i Opening type None next h.0.parameter (r.0 h.0.parameter),
    subst (λ w. Walked m w is) (sym (behind_inner Opening f n i h.0)) (elim h.1 [
      | inl v ↦ subst (λ s. Walked m (within s f n) is) (sym (stage_variable Opening i v.0)) (opens_walked is v.1 r.1)
      | inr v ↦ still_walked (stage_behind Opening i) is v.1 r.1
    ]),
  )

  pub placed_walked : (is : List Instruction) → Placed opcode is → AllByRecursion IsReady is → Walked m (within Head f n) is
  placed_walked [] h r = absurd h
  placed_walked (i ∷ is) h r =
      let p : (opcode i == op.FUNCTION_PARAMETER) ≡ false = ap (λ o. o == op.FUNCTION_PARAMETER) h.0 in (
        λ inside plain. moved m i Opening Head type None next (ap (λ o. o == op.VARIABLE) h.0) p (r.0 p),
        subst (λ w. Walked m w is) (sym (behind_first f n i h.0)) (opens_walked is h.1 r.1),
      )

-- by the words
pub placed_words : (is : List Instruction) → Placed opcode_in (words_of is) → Placed opcode is
placed_words [] h = h
placed_words (i ∷ is) h = (h.0, opens_words is h.1)

pub lines_ready : (m : List Instruction) (t : ℕ) (is : List Instruction) → AllByRecursion (LineFits m t) (words_of is)
    → AllByRecursion (λ i. (opcode i == op.FUNCTION_PARAMETER) ≡ false → Fits m Opening t None i) is
lines_ready m t [] h = tt
lines_ready m t (i ∷ is) h = (λ plain. h.0 plain i refl, lines_ready m t is h.1)

pub all_back : {A : Type 0} (P : A → Type 0) (xs ys : List A) → AllByRecursion P (xs ++ ys) → AllByRecursion P ys
all_back P [] ys h = h
all_back P (x ∷ xs) ys h = all_back P xs ys h.1

-- ---- a module, and its normal form

module _ (rules_stay : RulesStay) (insts again : List Instruction) (unbroken : IsUnbroken insts) (alike : AreAlike insts again) where
  -- function types are the same
  behind_three : (m : List Instruction) (id : ℕ) → words_at m id 3 ≡ drop 3 (words_at m id 0)
  behind_three m id = by (definition m id)
    where
      by : (o : Option Instruction)
          → option_map_or (λ (i : Instruction). drop 3 i.words) o [] ≡ drop 3 (option_map_or (λ (i : Instruction). drop 0 i.words) o [])
      by None = refl
      by (Some i) = refl

  same_parameters : (id : ℕ) → kind insts id ≡ op.TYPE_FUNCTION → parameter_types again id ≡ parameter_types insts id
  same_parameters id e =
      behind_three again id ∙ ap (drop 3) (alike.fixed id (ap (is_one_of loose_kinds) e)) ∙ sym (behind_three insts id)

  function_type : (f : Instruction) → opcode f ≡ op.FUNCTION → function_fits insts f ≡ true → kind insts (slice_index f.words 4) ≡ op.TYPE_FUNCTION
  unfolding function_fits
  function_type f e h =
      let same = is_function_type insts (slice_index f.words 4) in
      let count = Rattle.std.specs.Prelude.length (parameter_types insts (slice_index f.words 4))
      == Rattle.std.specs.Prelude.length (parameters_of insts (slice_index f.words 2)) in
      equal_true (kind insts (slice_index f.words 4)) op.TYPE_FUNCTION
      (both_left same count (sym (ap (λ o. not (o == op.FUNCTION) || (same && count)) e) ∙ h))

  module _ (f g : Instruction) (same : g.words ≡ f.words) (begins : opcode f ≡ op.FUNCTION) (fits : function_fits insts f ≡ true) where
    same_types : types_in again (Some g) ≡ types_in insts (Some f)
    same_types =
        ap (λ ws. parameter_types again (slice_index ws 4)) same ∙ same_parameters (slice_index f.words 4) (function_type f begins fits)

    -- the parameters, and what stands behind them; by induction on the parameters
    parameters_walked : (n : ℕ) (ps qs back : List Instruction) → words_of qs ≡ words_of ps → AllByRecursion IsParameter ps → Walked insts (within Head f n) ps
        → ((k : ℕ) → Walked again (within Head g k) back) → Walked again (within Head g n) (qs ++ back)
    parameters_walked n [] [] back e h w later = later n
    parameters_walked n [] (q ∷ qs) back e h w later = absurd (cc e)
    parameters_walked n (p ∷ ps) [] back e h w later = absurd (cc e)
    parameters_walked n (p ∷ ps) (q ∷ qs) back e h w later =
        let here : q.words ≡ p.words = cc e in
        let more : words_of qs ≡ words_of ps = cc e in
        let is : opcode q ≡ op.FUNCTION_PARAMETER = ap opcode_in here ∙ h.0 in
        let start = w.0 refl (ap (λ o. o == op.LINE || o == op.NO_LINE) h.0) in (
          λ inside plain. fits_same again q Head Head (slice_index f.words 1) (slice_index g.words 1)
              (slice_get (types_in insts (Some f)) n) (slice_get (types_in again (Some g)) n) refl
              (ap (λ ws. slice_index ws 1) (sym same)) (ap (λ ts. slice_get ts n) (sym same_types))
              (stay rules_stay insts again unbroken alike p q here Head (slice_index f.words 1) (slice_get (types_in insts (Some f)) n) start),
          subst (λ z. Walked again z (qs ++ back)) (sym (behind_parameter g n q is))
              (parameters_walked (suc n) ps qs back more h.1 (subst (λ z. Walked insts z ps) (behind_parameter f n p h.0) w.1) later),
        )

  right : (b c : Bool) → c ≡ true → (b || c) ≡ true
  right true c h = refl
  right false c h = h

  -- the front of a function, and its blocks
  pub front_walked : (is : List Instruction) (t : IsText is) → HasParts insts is t → (front back : List Instruction)
      → words_of front ≡ words_of (t.function ∷ t.parameters)
      → ((g : Instruction) → g.words ≡ t.function.words → (k : ℕ) → Walked again (within Head g k) back) → (w : Where) → Walked again w (front ++ back)
  front_walked is t parts [] back e later w = absurd (cc e)
  front_walked is t parts (g ∷ qs) back e later w =
      let same : g.words ≡ t.function.words = cc e in
      let more : words_of qs ≡ words_of t.parameters = cc e in
      let begins : opcode g ≡ op.FUNCTION = ap opcode_in same ∙ t.begins in
      let v = parts.at in
      let there =
      parts.function (right v.inside (is_function t.function) (ap (λ o. o == op.FUNCTION) t.begins)) (ap (λ o. o == op.LINE || o == op.NO_LINE) t.begins) in
      let type = result_type_in v.function in
      let next = slice_get (types_in insts v.function) v.count in (
        λ inside plain. function_moved again g v.stage w.stage type (result_type_in w.function) next (slice_get (types_in again w.function) w.count) begins
            (stay rules_stay insts again unbroken alike t.function g same v.stage type next there),
        subst (λ z. Walked again z (qs ++ back)) (sym (behind_function w g begins))
            (parameters_walked t.function g same t.begins there.function 0 t.parameters qs back more parts.takes parts.parameters (λ k. later g same k)),
      )

  -- instructions that fit in the module are what the lines are made of
  pub sources : (t : ℕ) (is : List Instruction) → AllByRecursion (FitsUnless insts t) is → AllByRecursion (λ i. IsInstruction i.words (roles i)) is
      → AllByRecursion (IsSource again t) is
  sources t [] h g = tt
  sources t (i ∷ is) h g = (
    record { fits = λ plain j e. stay rules_stay insts again unbroken alike i j e Opening t None (h.0 plain); whole = g.0 },
    sources t is h.1 g.1,
  )

  pub joined_walked : (ts : List (List Instruction)) → ((k : ℕ) (t : List Instruction) → slice_get ts k ≡ Some t → (w : Where) → Walked again w t)
      → (w : Where) → Walked again w (joined ts)
  joined_walked [] h w = tt
  joined_walked (t ∷ ts) h w = walked_both again w t (joined ts) (h 0 t refl w) (joined_walked ts (λ k u e. h (suc k) u e) (fold behind w t))

  pub outside_walked : (xs ys : List Instruction) → AllByRecursion BeginsNone xs → ((w : Where) → Walked again w ys) → (w : Where) → w.inside ≡ false
      → Walked again w (xs ++ ys)
  outside_walked [] ys h later w none = later w
  outside_walked (x ∷ xs) ys h later w none = (
    λ inside plain. truth_apart (w.inside || is_function x) inside (both_fail w.inside (is_function x) none h.0),
    outside_walked xs ys h.1 later (behind w x) (ap (λ (b : Bool). cond b true w.inside) h.0 ∙ none),
  )
