-- The tree of a function that breaks no rule on bodies where it stands is typed.
use Rattle.std.proofs.Common.{◌≡◌, inl, inr, ◌⊎◌, ℕ, zero, suc, ◌+◌, ◌<◌, Bool, true, false, cond, ◌==◌, ◌||◌, nat_eq, List, [], ◌∷◌, ◌++◌, drop, length, Option, None, Some, refl, sym, ap, subst, ◌∙◌, arith}
use Rattle.std.specs.Prelude.{slice_get, slice_index}
use Rattle.std.specs.List.{AllByRecursion, fold}
use Rattle.std.specs.Option.{option_map_or}
use Rattle.std.proofs.lemmas.Option.{slice_get_within}
use Rattle.spv_opcodes.specs.declared.op.TheConstants as op
use Rattle.spv_module.specs.Code.{is_function}
use Rattle.spv_module.specs.Instruction.{Instruction, opcode}
use Rattle.spv_blocks.specs.Blocks.{End}
use Rattle.spv_walk.proofs.Unique.{both_fail, equal_true, tells, truth_apart}
use Rattle.spv_usage.specs.declared.stages.Stage.TheVariants.{Further, Head, Opening}
use Rattle.spv_bodies.specs.Bodies.{ByBranch, InPlace, Body, Leaves, Finishes, Step, Enters, Splits, Selects, Switches, Loops, Function, target}
use Rattle.spv_bodies.specs.Listing.{Branching, branches, instruction, label_line, lines, split_line}
use Rattle.spv_normal_trees.proofs.Texts.{opcode_spelled}
use Rattle.spv_tree.specs.Branches.{branches_in}
use Rattle.spv_tree.specs.Sound.{ArePlaced, IsFormed, opcode_in}
use Rattle.spv_tree.specs.Tree.{words_of}
use Rattle.spv_trees.specs.Standing.{OneOf}
use Rattle.spv_structured.specs.Structured.{Flows, first_end}
use Rattle.spv_signatures.specs.Contexts.{result_type_in, types_in, result_fits as function_result_fits}
use Rattle.spv_signatures.specs.Functions.{function_fits, parameter_types}
use Rattle.spv_typed_trees.specs.Laws.{AreListed, BreakNone, UnbrokenIsTyped}
use Rattle.spv_typed_trees.specs.Typed.{IsTyped, TakeTypes, Typed, as_instruction}
use Rattle.spv_typed_trees.proofs.Back.{back, further_stays, part_left, step_back}
use Rattle.spv_typed_trees.proofs.Fits.{Fits, moved, results_at}
use Rattle.spv_typed_trees.proofs.Fronts.{Furthers, nothing_known}
use Rattle.spv_typed_trees.proofs.Functions.{behind_before, behind_front}
use Rattle.spv_typed_trees.proofs.Inner.{Inners, end_of_function_inner, inner}
use Rattle.spv_typed_trees.proofs.Lines.{end_still, step_inner}
use Rattle.spv_typed_trees.proofs.Sent.{all_both}
use Rattle.spv_typed_trees.proofs.Shape.{IsInner}
use Rattle.spv_typed_trees.proofs.Walked.{FitsAt, Walked, Where, behind, behind_first, behind_function, behind_inner, behind_parameter, fits_here, opening_over, stage_variable, start, walked_at, within}
use Rattle.spv_typed_trees.proofs.Words.{same_words}

-- ---- lines in the first block: variables in front

module _ (m : List Instruction) (t : ℕ) (next : Option ℕ) where
  abbrev pub Openings : List (List ℕ) → Type 0
  Openings [] = Unit {0}
  Openings (w ∷ ws) =
      Fits m Opening t next (as_instruction w)
      × ((((opcode_in w == op.VARIABLE) ≡ true) × Openings ws) ⊎ (((opcode_in w == op.VARIABLE) ≡ false) × Furthers m t next ws))

  openings_left : (xs ys : List (List ℕ)) → Openings (xs ++ ys) → Openings xs
  openings_left [] ys h = tt
  openings_left (x ∷ xs) ys h = (
    h.0,
    elim h.1 [
      | inl v ↦ inl (v.0, openings_left xs ys v.1)
      | inr v ↦ inr (v.0, part_left (λ w. Fits m Further t next (as_instruction w)) xs ys v.1)
    ],
  )

  -- the first of some lines is no variable
  abbrev BeginsStill : List (List ℕ) → Type 0
  BeginsStill [] = Unit {0}
  BeginsStill (w ∷ ws) = ((opcode_in w == op.VARIABLE) ≡ false) × ((opcode_in w == op.FUNCTION_PARAMETER) ≡ false)

  furthers_of : (ws : List (List ℕ)) → BeginsStill ws → Openings ws → Furthers m t next ws
  furthers_of [] s h = tt
  furthers_of (w ∷ ws) s h = elim h.1 [
    | inl is ↦ truth_apart (opcode_in w == op.VARIABLE) is.0 s.0
    | inr is ↦ (moved m (as_instruction w) Opening Further t next next s.0 s.1 h.0, is.1)
  ]

  module _ (all : List Branching) where
    abbrev Within : List Branching → Type 0
    Within xs = (b : Branching) → OneOf b xs → OneOf b all

    -- behind the head of the first block
    behind_head : (body : Body) (l : ℕ) (e : End) → IsFormed all body → ArePlaced None body → Flows [] l e body → Within (branches l body)
        → Furthers m t next (lines all [] body) → Typed m t [] Further body
    behind_head body l e formed placed flows w fs =
        back m t next all body l [] [] e None formed placed flows nothing_known (λ f o. absurd o) (λ f same. absurd (cc same)) w [] fs

    split_opcode : (condition : ℕ) (on : Bool) (a b : ℕ) → opcode_in (split_line condition on a b) ≡ op.BRANCH_CONDITIONAL
    split_opcode condition on a b = opcode_spelled op.BRANCH_CONDITIONAL (condition ∷ cond on (a ∷ b ∷ []) (b ∷ a ∷ [])) (omega arith)

    pub head_typed : (body : Body) (l : ℕ) (e : End) → IsFormed all body → ArePlaced None body → Flows [] l e body → Within (branches l body)
        → Openings (lines all [] body) → Typed m t [] Opening body
    head_typed (Step words body) l e formed placed flows w h =
        let inside : IsInner (opcode_in words) = step_inner (opcode_in words) formed.0 in (
          step_back m t next all Opening words inside h.0,
          elim h.1 [
            | inl v ↦ subst (λ z. Typed m t [] z body) (sym (stage_variable Opening (as_instruction words) v.0))
                (head_typed body l e formed.1 placed flows w v.1)
            | inr v ↦ subst (λ z. Typed m t [] z body) (sym (opening_over (as_instruction words) inside v.0))
                (behind_head body l e formed.1 placed flows w v.1)
          ],
        )
    head_typed (Leaves exit) l e formed placed flows w h =
        behind_head (Leaves exit) l e formed placed flows w (furthers_of (lines all [] (Leaves exit)) (refl, refl) h)
    head_typed (Finishes words) l e formed placed flows w h =
        let s = end_still (opcode_in words) formed in
        behind_head (Finishes words) l e formed placed flows w (furthers_of (lines all [] (Finishes words)) (s.variable, s.inner.parameter) h)
    head_typed (Enters label body) l e formed placed flows w h =
        behind_head (Enters label body) l e formed placed flows w (furthers_of (lines all [] (Enters label body)) (refl, refl) h)
    head_typed (Splits condition on exit body) l e formed placed flows w h =
        let o = split_opcode condition on exit.target (target body) in
        behind_head (Splits condition on exit body) l e formed placed flows w
        (furthers_of (lines all [] (Splits condition on exit body)) (ap (λ z. z == op.VARIABLE) o, ap (λ z. z == op.FUNCTION_PARAMETER) o) h)
    head_typed (Selects control condition first second merge rest) l e formed placed flows w h =
        behind_head (Selects control condition first second merge rest) l e formed placed flows w
        (furthers_of (lines all [] (Selects control condition first second merge rest)) (refl, refl) h)
    head_typed (Switches control selector cases arms merge rest) l e formed placed flows w h =
        behind_head (Switches control selector cases arms merge rest) l e formed placed flows w
        (furthers_of (lines all [] (Switches control selector cases arms merge rest)) (refl, refl) h)
    head_typed (Loops InPlace header control first after continuing merge rest) l e formed placed flows w h = absurd (cc placed.0)
    head_typed (Loops (ByBranch values) header control first after continuing merge rest) l e formed placed flows w h =
        behind_head (Loops (ByBranch values) header control first after continuing merge rest) l e formed placed flows w
        (furthers_of (lines all [] (Loops (ByBranch values) header control first after continuing merge rest)) (refl, refl) h)

-- ---- from where they stand

module _ (m : List Instruction) (f : Instruction) (n : ℕ) where
  abbrev type : ℕ
  type = slice_index f.words 1

  abbrev next : Option ℕ
  next = slice_get (types_in m (Some f)) n

  further_lines : (is : List Instruction) → Inners (words_of is) → Walked m (within Further f n) is → Furthers m type next (words_of is)
  further_lines [] h w = tt
  further_lines (i ∷ is) h w = (
    same_words m Further type next i (as_instruction i.words) refl (w.0 refl (both_fail (opcode i == op.LINE) (opcode i == op.NO_LINE) h.0.mark h.0.end_mark)),
    further_lines is h.1 (subst (λ z. Walked m z is) (behind_inner Further f n i h.0 ∙ ap (λ s. within s f n) (further_stays i.words h.0)) w.1),
  )

  opening_lines : (is : List Instruction) → Inners (words_of is) → Walked m (within Opening f n) is → Openings m type next (words_of is)
  opening_lines [] h w = tt
  opening_lines (i ∷ is) h w = (
    same_words m Opening type next i (as_instruction i.words) refl (w.0 refl (both_fail (opcode i == op.LINE) (opcode i == op.NO_LINE) h.0.mark h.0.end_mark)),
    elim (tells (opcode i == op.VARIABLE)) [
      | inl v ↦ inl (
        v,
        opening_lines is h.1
            (subst (λ z. Walked m z is) (behind_inner Opening f n i h.0 ∙ ap (λ s. within s f n) (stage_variable Opening i v)) w.1),
      )
      | inr v ↦ inr (
        v,
        further_lines is h.1
            (subst (λ z. Walked m z is) (behind_inner Opening f n i h.0 ∙ ap (λ s. within s f n) (opening_over i h.0 v)) w.1),
      )
    ],
  )

  -- behind the label of the first block
  pub block_lines : (l : ℕ) (ws : List (List ℕ)) (is : List Instruction) → words_of is ≡ label_line l ∷ ws → Inners ws → Walked m (within Head f n) is
      → Openings m type next ws
  block_lines l ws [] e h w = absurd (cc e)
  block_lines l ws (i ∷ is) e h w =
      let here : i.words ≡ label_line l = cc e in
      let more : words_of is ≡ ws = cc e in
      subst (Openings m type next) more
      (opening_lines is (subst Inners (sym more) h) (subst (λ z. Walked m z is) (behind_first f n i (ap opcode_in here)) w.1))

-- ---- the parameters

parameter_result : (m : List Instruction) (i : Instruction) (next : Option ℕ) → opcode i ≡ op.FUNCTION_PARAMETER
    → function_result_fits m next i ≡ option_map_or (nat_eq (slice_index i.words 1)) next false
unfolding function_result_fits
parameter_result m i next e = rw e refl

dropped : (types : List ℕ) (n u : ℕ) → slice_get types n ≡ Some u → drop n types ≡ u ∷ drop (suc n) types
dropped [] n u e = absurd (cc e)
dropped (x ∷ xs) zero u e = let same : x ≡ u = cc e in ap (λ z. z ∷ xs) same
dropped (x ∷ xs) (suc n) u e = dropped xs n u e

next_is : (types : List ℕ) (n x : ℕ) → option_map_or (nat_eq x) (slice_get types n) false ≡ true → drop n types ≡ x ∷ drop (suc n) types
next_is types n x h = by (slice_get types n) refl h
  where
    by : (o : Option ℕ) → slice_get types n ≡ o → option_map_or (nat_eq x) o false ≡ true → drop n types ≡ x ∷ drop (suc n) types
    by None e g = absurd (cc g)
    by (Some u) e g = dropped types n x (e ∙ ap Some (sym (equal_true x u g)))

module _ (m : List Instruction) (f : Instruction) where
  abbrev types : List ℕ
  types = types_in m (Some f)

  record Parted (n : ℕ) (ps rest : List (List ℕ)) : Type 0 where
    takes : TakeTypes (drop n types) ps
    count : ℕ
    back : List Instruction
    words : words_of back ≡ rest
    walked : Walked m (within Head f count) back

  parted : (n : ℕ) (ps rest : List (List ℕ)) (is : List Instruction) → AllByRecursion (λ words. opcode_in words ≡ op.FUNCTION_PARAMETER) ps
      → words_of is ≡ ps ++ rest → Walked m (within Head f n) is → Parted n ps rest
  parted n [] rest is are e w = record { takes = tt; count = n; back = is; words = e; walked = w }
  parted n (p ∷ ps) rest [] are e w = absurd (cc e)
  parted n (p ∷ ps) rest (i ∷ is) are e w =
      let here : i.words ≡ p = cc e in
      let more : words_of is ≡ ps ++ rest = cc e in
      let parameter : opcode i ≡ op.FUNCTION_PARAMETER = ap opcode_in here ∙ are.0 in
      let fits = w.0 refl (ap (λ o. o == op.LINE || o == op.NO_LINE) parameter) in
      let there = next_is types n (slice_index i.words 1) (sym (parameter_result m i (slice_get types n) parameter) ∙ fits.results) in
      let later = parted (suc n) ps rest is are.1 more (subst (λ z. Walked m z is) (behind_parameter f n i parameter) w.1) in
      record {
        takes = subst (λ ts. TakeTypes ts (p ∷ ps)) (sym there) (ap (λ ws. slice_index ws 1) (sym here), later.takes);
        count = later.count;
        back = later.back;
        words = later.words;
        walked = later.walked;
      }

-- ---- the whole

record Unwalked (m : List Instruction) (front : List ℕ) (ps : List (List ℕ)) (ws : List (List ℕ)) : Type 0 where
  function : function_fits m (as_instruction front) ≡ true
  result : function_result_fits m None (as_instruction front) ≡ true
  takes : TakeTypes (parameter_types m (slice_index front 4)) ps
  next : Option ℕ
  openings : Openings m (slice_index front 1) next ws

right : (b c : Bool) → c ≡ true → (b || c) ≡ true
right true c h = refl
right false c h = h

unwalked : (m : List Instruction) (w : Where) (front : List ℕ) (ps : List (List ℕ)) (l : ℕ) (ws : List (List ℕ)) (is : List Instruction)
    → opcode_in front ≡ op.FUNCTION → AllByRecursion (λ words. opcode_in words ≡ op.FUNCTION_PARAMETER) ps → Inners ws
    → words_of is ≡ front ∷ (ps ++ label_line l ∷ ws) → Walked m w is → Unwalked m front ps ws
unwalked m w front ps l ws [] begins are inners e h = absurd (cc e)
unwalked m w front ps l ws (i ∷ is) begins are inners e h =
    let here : i.words ≡ front = cc e in
    let more : words_of is ≡ ps ++ label_line l ∷ ws = cc e in
    let function : opcode i ≡ op.FUNCTION = ap opcode_in here ∙ begins in
    let next0 : Option ℕ = slice_get (types_in m w.function) w.count in
    let there = h.0 (right w.inside (is_function i) (ap (λ o. o == op.FUNCTION) function)) (ap (λ o. o == op.LINE || o == op.NO_LINE) function) in
    let fits = same_words m w.stage (result_type_in w.function) next0 i (as_instruction front) (sym here) there in
    let p = parted m i 0 ps (label_line l ∷ ws) is are more (subst (λ z. Walked m z is) (behind_function w i function) h.1) in
    record {
      function = fits.function;
      result = results_at m (as_instruction front) None next0 (ap (λ o. o == op.FUNCTION_PARAMETER) begins) ∙ fits.results;
      takes = subst (λ words. TakeTypes (parameter_types m (slice_index words 4)) ps) here p.takes;
      next = slice_get (types_in m (Some i)) p.count;
      openings =
          subst (λ words. Openings m (slice_index words 1) (slice_get (types_in m (Some i)) p.count) ws) here
          (block_lines m i p.count l ws p.back p.words inners p.walked);
    }

module _ (before again after : List Instruction) (f : Function) (listed : AreListed again f) (unbroken : BreakNone before again after) where
  abbrev m : List Instruction
  m = before ++ (again ++ after)

  abbrev w : Where
  w = fold behind start before

  walked : Walked m w again
  walked =
      walked_at m w again (λ k i e.
      let less : k < length again = slice_get_within again k i e in
      subst (λ z. FitsAt m z i) (behind_before start before (again ++ after) k ∙ behind_front w again after k less)
      (fits_here m (length before + k) i (unbroken k i e)))

  abbrev body : List (List ℕ)
  body = lines (branches_in f) [] f.body

  abbrev last : List (List ℕ)
  last = instruction op.FUNCTION_END [] ∷ []

  pub typed : IsTyped m f
  typed =
      let inners : Inners (body ++ last) =
      all_both (λ ws. IsInner (opcode_in ws)) body last (inner (branches_in f) f.body listed.sound.formed [] tt) (end_of_function_inner, tt) in
      let u = unwalked m w f.function f.parameters f.label (body ++ last) again listed.opens.function listed.opens.parameters inners listed.lists walked in
      record {
        function = u.function;
        result = u.result;
        parameters = u.takes;
        body =
            head_typed m (slice_index f.function 1) u.next (branches_in f) f.body f.label
            (first_end f.body) listed.sound.formed listed.sound.placed listed.structured.flows (λ b o. o)
            (openings_left m (slice_index f.function 1) u.next body last u.openings);
      }

pub unbroken_is_typed : UnbrokenIsTyped
unbroken_is_typed before again after f listed unbroken = typed before again after f listed unbroken
