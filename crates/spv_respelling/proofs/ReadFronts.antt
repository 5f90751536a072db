-- The OpPhi of a front, as it is listed, are read as its parameters, and take the values that each branch carries.
use Rattle.std.proofs.Common.{◌≡◌, ℕ, ◌+◌, inl, inr, Bool, true, false, ◌==◌, cond, List, [], ◌∷◌, ◌++◌, map, length, find, slice_index, Some, None, refl, sym, ap, ap₂, ◌∙◌, subst, append_assoc, arith, length-append}
use Rattle.std.specs.List.{AllByRecursion}
use Rattle.std.specs.Option.{option_map}
use Rattle.std.proofs.lemmas.List.{map-id}
use Rattle.spv_opcodes.specs.declared.op.TheConstants as op
use Rattle.spv_machine.specs.Steps as steps
use Rattle.spv_blocks.specs.Blocks.{seconds}
use Rattle.spv_walk.specs.Contexts.{Context, InSelection, InArm, InBody, InNext}
use Rattle.spv_bodies.specs.Bodies.{Exit, Parameter, Front, ByBranch, InPlace, Body, Leaves, Finishes, Step, Enters, Splits, Selects, Switches, Loops, Arms, Last, Also, target}
use Rattle.spv_bodies.specs.Listing.{Branching, arriving, in_order, phi_pairs, pair_words, branch_line, split_line, phi_line, phi_lines, selection_line, loop_line}
use Rattle.spv_tree.specs.Fronts.{IsFilled}
use Rattle.spv_tree.specs.Sound.{opcode_in, opens, IsFormed, AreFormed, fronts, fronts_of_arms}
use Rattle.spv_trees.specs.Standing.{OneOf}
use Rattle.spv_trees.specs.Sound.{SameValues}
use Rattle.spv_trees.proofs.Members.{phi_takes, one_left, one_right}
use Rattle.spv_spelling.specs.Text as read
use Rattle.spv_spelling.specs.Text.{Take, behind_phis, is_phi, parameter_of, phis, value_from}
use Rattle.spv_structured.specs.Spots.{Spot, others, others_of_arms}
use Rattle.spv_structured.proofs.Lists.{one_split}
use Rattle.spv_structured.proofs.Unbroken.{seconds_of}
use Rattle.spv_normal_trees.proofs.Grown.{end_no_phi, step_no_phi}
use Rattle.spv_normal_trees.proofs.Texts.{opcode_spelled, pairs_spelled}
use Rattle.spv_respelling.specs.Normal.{NamesParents}
use Rattle.spv_respelling.proofs.OwnLines.{own}

-- ---- where the OpPhi end

-- lines that do not begin with one
pub record NoPhi (t : List (List ℕ)) : Type 0 where
  pub none : phis t ≡ []
  pub whole : behind_phis t ≡ t

no_phi : (w : List ℕ) (t : List (List ℕ)) → is_phi w ≡ false → NoPhi (w ∷ t)
no_phi w t e = record { none = ap (λ b. cond b (w ∷ phis t) []) e; whole = ap (λ b. cond b (behind_phis t) (w ∷ t)) e }

split_no_phi : (condition : ℕ) (on : Bool) (a b : ℕ) → is_phi (split_line condition on a b) ≡ false
split_no_phi condition true a b = refl
split_no_phi condition false a b = refl

-- nor do those of a body
pub header_no_phi : (all : List Branching) (body : Body) (merge next control : ℕ) → opens body ≡ true → IsFormed all body
    → NoPhi (own (loop_line merge next control ∷ []) body)
header_no_phi all (Step words body) m n c o formed = no_phi words (own (loop_line m n c ∷ []) body) (step_no_phi (opcode_in words) formed.0)
header_no_phi all (Splits condition on exit body) m n c o formed = no_phi (loop_line m n c) _ refl
header_no_phi all (Leaves exit) m n c o formed = no_phi (loop_line m n c) _ refl
header_no_phi all (Enters label body) m n c o formed = no_phi (loop_line m n c) _ refl
header_no_phi all (Loops (ByBranch values) header control inner next continuing merge rest) m n c o formed = no_phi (loop_line m n c) _ refl
header_no_phi all other m n c o formed = absurd (cc o)

pub body_no_phi : (all : List Branching) (body : Body) → IsFormed all body → NoPhi (own [] body)
body_no_phi all (Leaves exit) formed = no_phi (branch_line exit.target) [] refl
body_no_phi all (Finishes words) formed = no_phi words [] (end_no_phi (opcode_in words) formed)
body_no_phi all (Step words body) formed = no_phi words (own [] body) (step_no_phi (opcode_in words) formed.0)
body_no_phi all (Enters label body) formed = no_phi (branch_line label) [] refl
body_no_phi all (Splits condition on exit body) formed =
    no_phi (split_line condition on exit.target (target body)) [] (split_no_phi condition on exit.target (target body))
body_no_phi all (Selects control condition first second merge rest) formed = no_phi (selection_line merge.label control) _ refl
body_no_phi all (Switches control selector cases arms merge rest) formed = no_phi (selection_line merge.label control) _ refl
body_no_phi all (Loops (ByBranch values) header control inner next continuing merge rest) formed = no_phi (branch_line header.label) [] refl
body_no_phi all (Loops InPlace header control inner next continuing merge rest) formed =
    header_no_phi all inner merge.label next.label control formed.0 formed.4

-- ---- OpPhi as they are listed

phi_is_phi : (k : ℕ) (here : List Branching) (p : Parameter) → is_phi (phi_line k here p) ≡ true
phi_is_phi k here p = ap (λ o. o == op.PHI) (opcode_spelled op.PHI (p.type ∷ p.result_id ∷ pair_words (phi_pairs k (in_order p.parents here))) (omega arith))

pub listed_phis : (k : ℕ) (here : List Branching) (ps : List Parameter) (t : List (List ℕ)) → NoPhi t → phis (phi_lines k here ps ++ t) ≡ phi_lines k here ps
listed_phis k here [] t h = h.none
listed_phis k here (p ∷ ps) t h =
    ap (λ b. cond b (phi_line k here p ∷ phis (phi_lines (k + 1) here ps ++ t)) []) (phi_is_phi k here p)
    ∙ ap (λ z. phi_line k here p ∷ z) (listed_phis (k + 1) here ps t h)

pub behind_listed : (k : ℕ) (here : List Branching) (ps : List Parameter) (t : List (List ℕ)) → NoPhi t → behind_phis (phi_lines k here ps ++ t) ≡ t
behind_listed k here [] t h = h.whole
behind_listed k here (p ∷ ps) t h =
    ap (λ b. cond b (behind_phis (phi_lines (k + 1) here ps ++ t)) (phi_line k here p ∷ (phi_lines (k + 1) here ps ++ t))) (phi_is_phi k here p)
    ∙ behind_listed (k + 1) here ps t h

-- each is read as its parameter, where this names its parents
parameter_again : (k : ℕ) (here : List Branching) (p : Parameter) → NamesParents here p → parameter_of (λ l. l) (phi_line k here p) ≡ p
parameter_again k here p named =
    ap (λ ps. record p { parents = ps })
    (map-id (seconds (read.phi_pairs (phi_line k here p))) ∙ ap seconds (pairs_spelled (phi_pairs k (in_order p.parents here)))
    ∙ seconds_of k (in_order p.parents here) ∙ named)

pub parameters_again : (k : ℕ) (here : List Branching) (ps : List Parameter) → AllByRecursion (NamesParents here) ps
    → map (parameter_of (λ l. l)) (phi_lines k here ps) ≡ ps
parameters_again k here [] named = refl
parameters_again k here (p ∷ ps) named = ap₂ (λ q qs. q ∷ qs) (parameter_again k here p named.0) (parameters_again (k + 1) here ps named.1)

-- ---- values

value_by : (block : ℕ) (pairs : List (ℕ × ℕ)) → option_map (λ (pair : ℕ × ℕ). pair.0) (find (λ pair. pair.1 == block) pairs) ≡ steps.from_block pairs block
value_by block [] = refl
value_by block (pair ∷ pairs) = by (pair.1 == block) (value_by block pairs)
  where
    by : (b : Bool) → option_map (λ (pair : ℕ × ℕ). pair.0) (find (λ pair. pair.1 == block) pairs) ≡ steps.from_block pairs block
        → option_map (λ (pair : ℕ × ℕ). pair.0) (cond b (Some pair) (find (λ pair. pair.1 == block) pairs))
        ≡ cond b (Some pair.0) (steps.from_block pairs block)
    by true e = refl
    by false e = e

module _ (all : List Branching) (same : SameValues all) (block : ℕ) (exit : Exit) (label : ℕ) (from : OneOf (block, exit) all) (to : exit.target ≡ label) where
  value_taken : (k : ℕ) (p : Parameter) → value_from block (phi_line k (arriving label all) p) ≡ Some (slice_index exit.values k)
  value_taken k p =
      let pairs = phi_pairs k (in_order p.parents (arriving label all)) in
      ap (λ z. option_map (λ (pair : ℕ × ℕ). pair.0) (find (λ pair. pair.1 == block) z)) (pairs_spelled pairs)
      ∙ value_by block pairs ∙ phi_takes all same k block exit label p.parents from to

  -- the k-th on
  taken_from : (k : ℕ) (ps : List Parameter) (before values : List ℕ) → exit.values ≡ before ++ values → length before ≡ k → length values ≡ length ps
      → Take block (phi_lines k (arriving label all) ps) values
  taken_from k [] before [] is at count = tt
  taken_from k [] before (v ∷ vs) is at count = absurd (omega (arith, count))
  taken_from k (p ∷ ps) before [] is at count = absurd (omega (arith, count))
  taken_from k (p ∷ ps) before (v ∷ vs) is at count = (
    value_taken k p ∙ ap Some (ap (λ z. slice_index z k) is ∙ index_behind before v vs k at),
    taken_from (k + 1) ps (before ++ v ∷ []) vs (is ∙ sym (append_assoc before (v ∷ []) vs)) (length_more before v k at) (omega (arith, count)),
  )
    where
      index_behind : (xs : List ℕ) (v : ℕ) (vs : List ℕ) (k : ℕ) → length xs ≡ k → slice_index (xs ++ v ∷ vs) k ≡ v
      index_behind xs v vs k at = subst (λ n. slice_index (xs ++ v ∷ vs) n ≡ v) at (there xs)
        where
          there : (xs : List ℕ) → slice_index (xs ++ v ∷ vs) (length xs) ≡ v
          there [] = refl
          there (x ∷ xs) = there xs

      length_more : (xs : List ℕ) (v k : ℕ) → length xs ≡ k → length (xs ++ v ∷ []) ≡ k + 1
      length_more xs v k at = let both = length-append xs (v ∷ []) in omega (arith, both, at)

  pub all_taken : (ps : List Parameter) → length exit.values ≡ length ps → Take block (phi_lines 0 (arriving label all) ps) exit.values
  all_taken ps count = taken_from 0 ps [] exit.values refl refl count

-- ---- the block of a front

-- a front of a tree, by its label, with the block that begins with it
pub record FrontAt (all : List Branching) (spots : List Spot) (t : ℕ) : Type 0 where
  pub spot : Spot
  pub front : Front
  pub one : OneOf spot spots
  pub at : spot.label ≡ t
  pub is : spot.front ≡ Some front
  pub label : front.label ≡ t
  pub filled : IsFilled all front

module _ (all : List Branching) (t : ℕ) where
  found_left : (xs ys : List Spot) → FrontAt all xs t → FrontAt all (xs ++ ys) t
  found_left xs ys h =
      record { spot = h.spot; front = h.front; one = one_left h.spot xs ys h.one; at = h.at; is = h.is; label = h.label; filled = h.filled }

  found_right : (xs ys : List Spot) → FrontAt all ys t → FrontAt all (xs ++ ys) t
  found_right xs ys h =
      record { spot = h.spot; front = h.front; one = one_right h.spot xs ys h.one; at = h.at; is = h.is; label = h.label; filled = h.filled }

  found_here : (c : Context) (from : ℕ) (front : Front) (body : Body) (spots : List Spot) → IsFilled all front → t ≡ front.label
      → FrontAt all (record { context = c; from = from; label = front.label; front = Some front; body = body } ∷ spots) t
  found_here c from front body spots filled e = record {
    spot = record { context = c; from = from; label = front.label; front = Some front; body = body };
    front = front;
    one = inl refl;
    at = sym e;
    is = refl;
    label = sym e;
    filled = filled;
  }

  -- the fronts of a loop behind its header
  loop_found : (c : Context) (header : Front) (control : ℕ) (inner : Body) (next : Front) (continuing : Body) (merge : Front) (rest : Body)
      → IsFilled all next → IsFilled all merge
      → (OneOf t (fronts inner) → FrontAt all (others (InBody header.label merge.label next.label ∷ c) header.label inner) t)
      → (OneOf t (fronts continuing) → FrontAt all (others (InNext header.label merge.label ∷ c) next.label continuing) t)
      → (OneOf t (fronts rest) → FrontAt all (others c merge.label rest) t)
      → OneOf t ((next.label ∷ merge.label ∷ fronts inner) ++ fronts continuing ++ fronts rest)
      → FrontAt all (others c header.label (Loops InPlace header control inner next continuing merge rest)) t
  loop_found c header control inner next continuing merge rest fill_next fill_merge one two three h =
      let i = InBody header.label merge.label next.label ∷ c in
      let j = InNext header.label merge.label ∷ c in
      let last : List Spot = record { context = c; from = header.label; label = merge.label; front = Some merge; body = rest } ∷ others c merge.label rest in
      let behind = others j next.label continuing ++ last in
      let middle : List Spot = record { context = j; from = header.label; label = next.label; front = Some next; body = continuing } ∷ behind in
      let in_last : FrontAt all last t → FrontAt all (others i header.label inner ++ middle) t = λ z.
      found_right (others i header.label inner) middle
      (found_right (record { context = j; from = header.label; label = next.label; front = Some next; body = continuing } ∷ []) behind
      (found_right (others j next.label continuing) last z)) in
      elim (one_split t ((next.label ∷ merge.label ∷ fronts inner) ++ fronts continuing) (fronts rest) h) [
        | inr g ↦ in_last (found_right (record { context = c; from = header.label; label = merge.label; front = Some merge; body = rest } ∷ [])
            (others c merge.label rest) (three g))
        | inl g ↦ elim (one_split t (next.label ∷ merge.label ∷ fronts inner) (fronts continuing) g) [
          | inr k ↦
              found_right (others i header.label inner) middle
              (found_right (record { context = j; from = header.label; label = next.label; front = Some next; body = continuing } ∷ []) behind
              (found_left (others j next.label continuing) last (two k)))
          | inl (inl e) ↦ found_right (others i header.label inner) middle (found_here j header.label next continuing behind fill_next e)
          | inl (inr (inl e)) ↦ in_last (found_here c header.label merge rest (others c merge.label rest) fill_merge e)
          | inl (inr (inr k)) ↦ found_left (others i header.label inner) middle (one k)
        ]
      ]

  mutual
    pub front_found : (body : Body) (c : Context) (l : ℕ) → IsFormed all body → OneOf t (fronts body) → FrontAt all (others c l body) t
    front_found (Leaves exit) c l formed h = absurd h
    front_found (Finishes words) c l formed h = absurd h
    front_found (Step words body) c l formed h = front_found body c l formed.1 h
    front_found (Enters label body) c l formed h =
        found_right (record { context = c; from = l; label = label; front = None; body = body } ∷ []) (others c label body) (front_found body c label formed h)
    front_found (Splits condition on exit body) c l formed h = front_found body c l formed.1 h
    front_found (Selects control condition first second merge rest) c l formed h =
        let i = InSelection merge.label ∷ c in
        let last : List Spot = record { context = c; from = l; label = merge.label; front = Some merge; body = rest } ∷ others c merge.label rest in
        let in_last : FrontAt all last t → FrontAt all (others i l first ++ (others i l second ++ last)) t = λ z.
        found_right (others i l first) (others i l second ++ last) (found_right (others i l second) last z) in
        elim (one_split t ((merge.label ∷ fronts first) ++ fronts second) (fronts rest) h) [
          | inr g ↦ in_last (found_right (record { context = c; from = l; label = merge.label; front = Some merge; body = rest } ∷ [])
              (others c merge.label rest)
              (front_found rest c merge.label formed.5 g))
          | inl g ↦ elim (one_split t (merge.label ∷ fronts first) (fronts second) g) [
            | inr k ↦ found_right (others i l first) (others i l second ++ last) (found_left (others i l second) last (front_found second i l formed.4 k))
            | inl (inl e) ↦ in_last (found_here c l merge rest (others c merge.label rest) formed.2 e)
            | inl (inr k) ↦ found_left (others i l first) (others i l second ++ last) (front_found first i l formed.3 k)
          ]
        ]
    front_found (Switches control selector cases arms merge rest) c l formed h =
        let last : List Spot = record { context = c; from = l; label = merge.label; front = Some merge; body = rest } ∷ others c merge.label rest in
        elim (one_split t (merge.label ∷ fronts_of_arms arms) (fronts rest) h) [
          | inr g ↦ found_right (others_of_arms c l merge.label arms) last
              (found_right (record { context = c; from = l; label = merge.label; front = Some merge; body = rest } ∷ []) (others c merge.label rest)
              (front_found rest c merge.label formed.3 g))
          | inl (inl e) ↦ found_right (others_of_arms c l merge.label arms) last (found_here c l merge rest (others c merge.label rest) formed.1 e)
          | inl (inr k) ↦ found_left (others_of_arms c l merge.label arms) last (arm_front_found arms c l merge.label formed.2 k)
        ]
    front_found (Loops (ByBranch values) header control inner next continuing merge rest) c l formed (inl e) =
        found_here c l header (Loops InPlace header control inner next continuing merge rest)
        (others c l (Loops InPlace header control inner next continuing merge rest)) formed.1 e
    front_found (Loops (ByBranch values) header control inner next continuing merge rest) c l formed (inr h) =
        let loop = Loops InPlace header control inner next continuing merge rest in
        found_right (record { context = c; from = l; label = header.label; front = Some header; body = loop } ∷ []) (others c l loop)
        (loop_found c header control inner next continuing merge rest formed.2 formed.3
        (front_found inner (InBody header.label merge.label next.label ∷ c) header.label formed.4)
        (front_found continuing (InNext header.label merge.label ∷ c) next.label formed.5) (front_found rest c merge.label formed.6) h)
    front_found (Loops InPlace header control inner next continuing merge rest) c l formed h =
        loop_found c header control inner next continuing merge rest formed.2 formed.3
        (front_found inner (InBody header.label merge.label next.label ∷ c) header.label formed.4)
        (front_found continuing (InNext header.label merge.label ∷ c) next.label formed.5) (front_found rest c merge.label formed.6) h

    arm_front_found : (arms : Arms) (c : Context) (l m : ℕ) → AreFormed all arms → OneOf t (fronts_of_arms arms) → FrontAt all (others_of_arms c l m arms) t
    arm_front_found (Last arm) c l m formed h = front_found arm (InArm l m (target arm) ∷ c) l formed.1 h
    arm_front_found (Also arm arms) c l m formed h =
        let i = InArm l m (target arm) ∷ c in
        elim (one_split t (fronts arm) (fronts_of_arms arms) h) [
          | inl g ↦ found_left (others i l arm) (others_of_arms c l m arms) (front_found arm i l formed.1 g)
          | inr g ↦ found_right (others i l arm) (others_of_arms c l m arms) (arm_front_found arms c l m formed.2 g)
        ]
