-- The lines of a listing where they stand in a module, and what is available at them.
use Rattle.std.proofs.Common.{◌≡◌, inl, inr, ℕ, zero, suc, ◌+◌, ◌<◌, ◌≤◌, true, false, ◌==◌, List, [], ◌∷◌, ◌++◌, map, length, take, drop, slice_index, Some, refl, sym, ap, subst, ◌∙◌, arith}
use Rattle.std.specs.List.{AllByRecursion, flat_map, slice_get}
use Rattle.spv_opcodes.specs.declared.op.TheConstants as op
use Rattle.spv_grammar.specs.Roles.{is_defined_id}
use Rattle.spv_module.specs.Instruction.{Instruction, IsInstruction, opcode, roles, word_with}
use Rattle.spv_blocks.specs.Blocks.{has}
use Rattle.spv_blocks.specs.Cutting.{pairs}
use Rattle.spv_bodies.specs.Bodies.{Function, Parameter}
use Rattle.spv_bodies.specs.Listing.{Branching, from_block, from_others, in_order, label_line, pair_words, phi_line, phi_lines, phi_pairs}
use Rattle.spv_tree.specs.Sound.{is_step, opcode_in}
use Rattle.spv_normal_trees.proofs.Texts.{opcode_spelled, pairs_spelled}
use Rattle.spv_trees.specs.Standing.{OneOf}
use Rattle.spv_structured.proofs.Lists.{filter_from, map_from, one_split}
use Rattle.spv_spelling.specs.Text.{Take}
use Rattle.spv_spelling.specs.Whole.{IsAdmitted}
use Rattle.spv_texts.specs.Laws.{DefinesOnce}
use Rattle.spv_availability.specs.Availability.{AreAvailable, IsAvailable}
use Rattle.spv_availability.specs.Places as places
use Rattle.spv_availability.specs.Places.{function_of, last_label}
use Rattle.spv_fine.specs.Fine.{as_instruction, defined_in, used_in}
use Rattle.spv_fine.proofs.Available.{Home, all_insts, at, n, phi_available, plain_available}
use Rattle.spv_fine.proofs.Homes.{has_defined, phi_defines, phi_inner, phi_no_line, stands_at, step_inner, step_no_label, step_no_line}
use Rattle.spv_fine.proofs.Numbers.{insts}
use Rattle.spv_fine.proofs.Places.{label_here, label_on}
use Rattle.spv_fine.proofs.Uses.{used_label}

-- ---- branches in order are branches

flat_from : (all : List Branching) (x : Branching) (blocks : List ℕ) → OneOf x (flat_map (from_block all) blocks) → OneOf x all
flat_from all x [] o = absurd o
flat_from all x (b ∷ bs) o = elim (one_split x (from_block all b) (flat_map (from_block all) bs) o) [
  | inl h ↦ (filter_from (λ (y : Branching). y.0 == b) x all h).0
  | inr h ↦ flat_from all x bs h
]

order_from : (all : List Branching) (x : Branching) (blocks : List ℕ) → OneOf x (in_order blocks all) → OneOf x all
order_from all x blocks o = elim (one_split x (flat_map (from_block all) blocks) (from_others all blocks) o) [
  | inl h ↦ flat_from all x blocks h
  | inr h ↦ (filter_from _ x all h).0
]

-- an index within a list gives one of it
pub indexed : (xs : List ℕ) (j : ℕ) → j < length xs → OneOf (slice_index xs j) xs
indexed [] j less = absurd (omega arith)
indexed (x ∷ xs) zero less = inl refl
indexed (x ∷ xs) (suc j) less = inr (indexed xs j (omega arith))

pub take_length : (b : ℕ) (ps : List (List ℕ)) (values : List ℕ) → Take b ps values → length ps ≡ length values
take_length b [] [] t = refl
take_length b [] (v ∷ vs) t = absurd t
take_length b (p ∷ ps) [] t = absurd t
take_length b (p ∷ ps) (v ∷ vs) t = ap suc (take_length b ps vs t.1)

pub map_length : {X Y : Type 0} (f : X → Y) (xs : List X) → length (map f xs) ≡ length xs
map_length f [] = refl
map_length f (x ∷ xs) = ap suc (map_length f xs)

each_mapped : (P Q : ℕ → Type 0) (xs : List ℕ) → ((x : ℕ) → P x → Q x) → AllByRecursion P xs → AllByRecursion Q xs
each_mapped P Q [] h a = tt
each_mapped P Q (x ∷ xs) h a = (h x a.0, each_mapped P Q xs h a.1)

module _ (before again after : List Instruction) (f : Function) (admitted : IsAdmitted again) (once : DefinesOnce
    (insts before again after admitted.text)) where
  abbrev I : List Instruction
  I = all_insts before again after f admitted once

  -- the k-th line
  pub record LineIs (k : ℕ) (words : List ℕ) : Type 0 where
    pub inst : Instruction
    pub get : slice_get I k ≡ Some inst
    pub words_are : inst.words ≡ words
    pub whole : IsInstruction inst.words (roles inst)
    pub inside : function_of I k ≡ n before again after f admitted once

  -- from the k-th on
  abbrev pub Lies : (k : ℕ) → List (List ℕ) → Type 0
  Lies k [] = Unit {0}
  Lies k (w ∷ ws) = LineIs k w × Lies (suc k) ws

  pub lies_left : (k : ℕ) (xs ys : List (List ℕ)) → Lies k (xs ++ ys) → Lies k xs
  lies_left k [] ys h = tt
  lies_left k (x ∷ xs) ys h = (h.0, lies_left (suc k) xs ys h.1)

  pub lies_right : (k : ℕ) (xs ys : List (List ℕ)) → Lies k (xs ++ ys) → Lies (k + length xs) ys
  lies_right k [] ys h = (let e : k ≡ k + 0 = omega arith in subst (λ j. Lies j ys) e h)
  lies_right k (x ∷ xs) ys h =
      (let e : suc k + length xs ≡ k + suc (length xs) = omega arith in subst (λ j. Lies j ys) e (lies_right (suc k) xs ys h.1))

  -- what it uses is available
  abbrev pub Good : (k : ℕ) → Type 0
  Good k = (i : Instruction) → slice_get I k ≡ Some i → AreAvailable I k i

  abbrev pub AllGood : (k : ℕ) → List (List ℕ) → Type 0
  AllGood k [] = Unit {0}
  AllGood k (w ∷ ws) = Good k × AllGood (suc k) ws

  pub good_append : (k : ℕ) (xs ys : List (List ℕ)) → AllGood k xs → AllGood (k + length xs) ys → AllGood k (xs ++ ys)
  good_append k [] ys h g = (let e : k + 0 ≡ k = omega arith in subst (λ j. AllGood j ys) e g)
  good_append k (x ∷ xs) ys h g =
      (h.0, good_append (suc k) xs ys h.1 (let e : k + suc (length xs) ≡ suc k + length xs = omega arith in subst (λ j. AllGood j ys) e g))

  pub good_at : (k : ℕ) (xs : List (List ℕ)) (j : ℕ) → AllGood k xs → j < length xs → Good (k + j)
  good_at k [] j h less = absurd (omega arith)
  good_at k (x ∷ xs) zero h less = (let e : k ≡ k + 0 = omega arith in subst Good e h.0)
  good_at k (x ∷ xs) (suc j) h less =
      (let e : suc k + j ≡ k + suc j = omega arith in subst Good e (good_at (suc k) xs j h.1 (omega arith)))

  same_inst : (k : ℕ) (i j : Instruction) → slice_get I k ≡ Some i → slice_get I k ≡ Some j → i ≡ j
  same_inst k i j a b = cc (a, b)

  good_by : (k : ℕ) (words : List ℕ) → (x : LineIs k words) → AreAvailable I k x.inst → Good k
  good_by k words x h i e = subst (λ j. AreAvailable I k j) (same_inst k x.inst i x.get e) h

  pub plain_good : (k l : ℕ) (words : List ℕ) → LineIs k words → (opcode_in words == op.PHI) ≡ false → places.block_of I k ≡ l
      → AllByRecursion (λ id. IsAvailable I id (at before again after f admitted once l k)) (used_in words) → Good k
  plain_good k l words x other block each =
      good_by k words x
      (plain_available before again after f admitted once k l x.inst (ap (λ w. opcode_in w == op.PHI) x.words_are ∙ other) x.inside block
      (subst (λ w. AllByRecursion (λ id. IsAvailable I id (at before again after f admitted once l k)) (used_in w)) (sym x.words_are) each))

  -- ---- the block of a line

  abbrev pub In : (l k : ℕ) → Type 0
  In l k = last_label 0 (take k I) ≡ l

  one_more : (k : ℕ) → k + 1 ≡ suc k
  one_more k = omega arith

  pub stays_in : (k l : ℕ) (words : List ℕ) → LineIs k words → (opcode_in words == op.LABEL) ≡ false → In l k → (places.block_of I k ≡ l) × In l (suc k)
  stays_in k l words x other inside =
      let e : places.block_of I k ≡ l = label_on I k x.inst x.get (ap (λ w. opcode_in w == op.LABEL) x.words_are ∙ other) ∙ inside in
      (e, ap (λ m. last_label 0 (take m I)) (sym (one_more k)) ∙ e)

  pub begins_in : (k l : ℕ) → LineIs k (label_line l) → (places.block_of I k ≡ l) × In l (suc k)
  begins_in k l x =
      let e : places.block_of I k ≡ l =
      label_here I k x.inst x.get (ap (λ w. opcode_in w == op.LABEL) x.words_are) ∙ ap (λ w. slice_index w 1) x.words_are in
      (e, ap (λ m. last_label 0 (take m I)) (sym (one_more k)) ∙ e)

  pub label_good : (k l : ℕ) → LineIs k (label_line l) → Good k
  label_good k l x =
      plain_good k l (label_line l) x refl (begins_in k l x).0
      (subst (AllByRecursion (λ id. IsAvailable I id (at before again after f admitted once l k))) (sym (used_label l)) tt)

  -- ---- what is defined before in the block

  abbrev pub Before' : (l k id : ℕ) → Type 0
  Before' l k id = (h : Home before again after f admitted once l id) × (h.at < k)

  pub step_defines : (k l : ℕ) (words : List ℕ) (id : ℕ) → LineIs k words → is_step (opcode_in words) ≡ true → In l k → has (defined_in words) id ≡ true
      → Before' l (suc k) id
  step_defines k l words id x step inside h =
      let is : is_step (opcode x.inst) ≡ true = ap (λ w. is_step (opcode_in w)) x.words_are ∙ step in
      let block : places.block_of I k ≡ l = label_on I k x.inst x.get (step_no_label x.inst is) ∙ inside in
      let d = subst (λ w. word_with is_defined_id (as_instruction w) ≡ Some id) (sym x.words_are) (has_defined words id h) in (
        record {
          at = k;
          stands = stands_at before again after admitted once k x.inst l id x.get (step_no_line x.inst is) d x.inside block
              (step_inner x.inst is);
        },
        omega arith,
      )

  phi_opcode : (j : ℕ) (here : List Branching) (p : Parameter) → opcode_in (phi_line j here p) ≡ op.PHI
  phi_opcode j here p = opcode_spelled op.PHI (p.type ∷ p.result_id ∷ pair_words (phi_pairs j (in_order p.parents here))) (omega arith)

  phi_in : (k m j : ℕ) (here : List Branching) (p : Parameter) → LineIs k (phi_line j here p) → In m k → (places.block_of I k ≡ m) × In m (suc k)
  phi_in k m j here p x inside = stays_in k m (phi_line j here p) x (ap (λ o. o == op.LABEL) (phi_opcode j here p)) inside

  earlier_on : (l k j id : ℕ) → k ≤ j → Before' l k id → Before' l j id
  earlier_on l k j id less h = (h.0, (let a = h.1 in omega arith))

  -- the OpPhi of a block stand in it, and define their results
  pub phis_in : (k m j : ℕ) (here : List Branching) (ps : List Parameter) → Lies k (phi_lines j here ps) → In m k → In m (k + length (phi_lines j here ps))
  phis_in k m j here [] lies inside = (let e : k ≡ k + 0 = omega arith in subst (λ i. In m i) e inside)
  phis_in k m j here (p ∷ ps) lies inside =
      let r = phis_in (suc k) m (j + 1) here ps lies.1 (phi_in k m j here p lies.0 inside).1 in
      let e : suc k + length (phi_lines (j + 1) here ps) ≡ k + suc (length (phi_lines (j + 1) here ps)) = omega arith in
      subst (λ i. In m i) e r

  pub phis_define : (k m j : ℕ) (here : List Branching) (ps : List Parameter) (id : ℕ) → Lies k (phi_lines j here ps) → In m k
      → OneOf id (map (λ (p : Parameter). p.result_id) ps) → Before' m (k + length (phi_lines j here ps)) id
  phis_define k m j here [] id lies inside o = absurd o
  phis_define k m j here (p ∷ ps) id lies inside (inl e) =
      let x : LineIs k (phi_line j here p) = lies.0 in
      let phi : opcode x.inst ≡ op.PHI = ap opcode_in x.words_are ∙ phi_opcode j here p in
      let d : word_with is_defined_id x.inst ≡ Some id =
      phi_defines x.inst x.whole phi ∙ ap (λ w. Some (slice_index w 2)) x.words_are ∙ ap Some (sym e) in
      earlier_on m (suc k) (k + length (phi_lines j here (p ∷ ps))) id (omega arith) (
        record {
          at = k;
          stands = stands_at before again after admitted once k x.inst m id x.get (phi_no_line x.inst phi) d x.inside (phi_in k m j here p x inside).0
              (phi_inner x.inst phi);
        },
        omega arith,
      )
  phis_define k m j here (p ∷ ps) id lies inside (inr o) =
      let r = phis_define (suc k) m (j + 1) here ps id lies.1 (phi_in k m j here p lies.0 inside).1 o in
      earlier_on m (suc k + length (phi_lines (j + 1) here ps)) (k + suc (length (phi_lines (j + 1) here ps))) id (omega arith) r

  -- what they use is available, where each branch to the block keeps its values
  pub phis_good : (k m j total : ℕ) (here : List Branching) (ps : List Parameter) → Lies k (phi_lines j here ps)
      → ((b : Branching) → OneOf b here → (i : ℕ) → i < total → IsAvailable I (slice_index b.1.values i) (at before again after f admitted once b.0 (length I)))
      → j + length ps ≤ total → AllGood k (phi_lines j here ps)
  phis_good k m j total here [] lies sent less = tt
  phis_good k m j total here (p ∷ ps) lies sent less = (
    good_by k (phi_line j here p) lies.0
        (phi_available before again after f admitted once k lies.0.inst (ap opcode_in lies.0.words_are ∙ phi_opcode j here p) lies.0.inside (λ pair o.
        let o2 : OneOf pair (phi_pairs j (in_order p.parents here)) =
        subst (OneOf pair) (ap (λ w. pairs (drop 3 w)) lies.0.words_are ∙ pairs_spelled (phi_pairs j (in_order p.parents here))) o in
        let b = map_from (λ (branching : Branching). (slice_index branching.1.values j, branching.0)) (in_order p.parents here) pair o2 in
        subst (λ (q : ℕ × ℕ). IsAvailable I q.0 (at before again after f admitted once q.1 (length I))) (sym b.same)
        (sent b.from (order_from here b.from p.parents b.one) j (omega arith)))),
    phis_good (suc k) m (j + 1) total here ps lies.1 sent (omega arith),
  )
