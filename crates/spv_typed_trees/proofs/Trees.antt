-- The lines of a typed tree fit, and variables stand in front: by recursion on the tree.
use Rattle.std.proofs.Common.{◌≡◌, inl, inr, ℕ, zero, suc, ◌+◌, true, ◌==◌, List, [], ◌∷◌, ◌++◌, drop, refl, subst, arith}
use Rattle.std.specs.Prelude.{slice_index}
use Rattle.std.specs.List.{AllByRecursion}
use Rattle.spv_opcodes.specs.declared.op.TheConstants as op
use Rattle.spv_module.specs.Instruction.{Instruction}
use Rattle.spv_typing.specs.Kinds.{is_closed}
use Rattle.spv_values.specs.Values.{is_value_of}
use Rattle.spv_walk.proofs.Unique.{equal_true, tells}
use Rattle.spv_usage.specs.declared.stages.Stage.TheVariants.{Further, Opening}
use Rattle.spv_bodies.specs.Bodies.{Parameter, Front, Entry, ByBranch, InPlace, Body, Leaves, Finishes, Step, Enters, Splits, Selects, Switches, Loops, Arms, Last, Also, begins_at_branch, target}
use Rattle.spv_bodies.specs.Listing.{Branching, arm_lines, arriving, branch_line, first_target, front_lines, instruction, label_line, lines, lines_of_arms, loop_line, pair_words, phi_lines, selection_line, split_line}
use Rattle.spv_tree.specs.Sound.{AreFormed, IsFormed, opcode_in}
use Rattle.spv_trees.specs.Standing.{OneOf}
use Rattle.spv_trees.proofs.Members.{one_left, one_right}
use Rattle.spv_structured.proofs.Lists.{filter_from}
use Rattle.spv_typed_trees.specs.Typed.{ArmsTyped, Carries, HasTypes, Typed, as_instruction}
use Rattle.spv_typed_trees.proofs.Lines.{LineFits, StillLine, branch_still, finish_still, label_still, loop_still, phi_still, selection_still, split_still, step_inner, step_line, step_still, switch_still}
use Rattle.spv_typed_trees.proofs.Sent.{IsGiven, all_both, fronts_in, fronts_in_arms, own_front}
use Rattle.spv_typed_trees.proofs.Shape.{IsInner, Opens, Still, still_opens}
use Rattle.spv_typed_trees.proofs.Walked.{further_on, opening_over, stage_variable}

module _ (m : List Instruction) (t : ℕ) (all : List Branching) where
  abbrev pub Stills : List (List ℕ) → Type 0
  Stills ws = AllByRecursion (StillLine m t) ws

  both : (xs ys : List (List ℕ)) → Stills xs → Stills ys → Stills (xs ++ ys)
  both = all_both (StillLine m t)

  abbrev pub Given : List Front → Type 0
  Given fs = (f : Front) → OneOf f fs → IsGiven m all f

  given_left : (xs ys : List Front) → Given (xs ++ ys) → Given xs
  given_left xs ys g f o = g f (one_left f xs ys o)

  given_right : (xs ys : List Front) → Given (xs ++ ys) → Given ys
  given_right xs ys g f o = g f (one_right f xs ys o)

  -- ---- fronts

  record Carried (p : Parameter) (ps : List Parameter) (k : ℕ) (values : List ℕ) : Type 0 where
    value : is_value_of m p.type (slice_index values k) ≡ true
    more : Carries m ps (drop (suc k) values)

  carried : (p : Parameter) (ps : List Parameter) (k : ℕ) (values : List ℕ) → Carries m (p ∷ ps) (drop k values) → Carried p ps k values
  carried p ps zero [] h = absurd h
  carried p ps zero (v ∷ vs) h = record { value = h.0; more = h.1 }
  carried p ps (suc k) [] h = absurd h
  carried p ps (suc k) (v ∷ vs) h = let c = carried p ps k vs h in record { value = c.value; more = c.more }

  phis_still : (k : ℕ) (here : List Branching) (ps : List Parameter) → AllByRecursion (λ p. is_closed m p.type ≡ true) ps
      → ((b : Branching) → OneOf b here → Carries m ps (drop k b.1.values)) → Stills (phi_lines k here ps)
  phis_still k here [] types h = tt
  phis_still k here (p ∷ ps) types h = (
    phi_still m t k here p types.0 (λ b o. (carried p ps k b.1.values (h b o)).value),
    phis_still (k + 1) here ps types.1 (λ b o.
        let e : suc k ≡ k + 1 = omega arith in
        subst (λ j. Carries m ps (drop j b.1.values)) e (carried p ps k b.1.values (h b o)).more),
  )

  pub front_still : (f : Front) → HasTypes m f → IsGiven m all f → Stills (front_lines all f)
  front_still f types g = (
    label_still m t f.label,
    phis_still 0 (arriving f.label all) f.parameters types (λ b o.
        let r = filter_from (λ (x : Branching). x.1.target == f.label) b all o in
        g b r.0 (equal_true b.1.target f.label r.1)),
  )

  -- ---- loops

  -- the parts of a loop behind its header's front
  loop_parts : (hs ns cs ms rs : List (List ℕ)) → Stills hs → Stills ns → Stills cs → Stills ms → Stills rs → Stills (hs ++ (ns ++ (cs ++ (ms ++ rs))))
  loop_parts hs ns cs ms rs h n c g r = both hs (ns ++ (cs ++ (ms ++ rs))) h (both ns (cs ++ (ms ++ rs)) n (both cs (ms ++ rs) c (both ms rs g r)))

  entry_still : (opened : List (List ℕ)) (header : Front) (entry : Entry) → Stills opened → HasTypes m header → Given (own_front entry header)
      → Stills (Rattle.spv_bodies.specs.Listing.entry_lines all opened header entry)
  entry_still opened header (ByBranch values) o types g =
      both opened (branch_line header.label ∷ front_lines all header) o (branch_still m t header.label, front_still header types (g header (inl refl)))
  entry_still opened header InPlace o types g = tt

  -- the fronts of a loop
  record LoopGiven (header next merge : Front) (entry : Entry) (inner continuing rest : Body) : Type 0 where
    own : Given (own_front entry header)
    next_given : IsGiven m all next
    merge_given : IsGiven m all merge
    inner_given : Given (fronts_in inner)
    continuing_given : Given (fronts_in continuing)
    rest_given : Given (fronts_in rest)

  loop_given : (header next merge : Front) (entry : Entry) (inner continuing rest : Body)
      → Given (own_front entry header ++ (next ∷ merge ∷ (fronts_in inner ++ (fronts_in continuing ++ fronts_in rest))))
      → LoopGiven header next merge entry inner continuing rest
  loop_given header next merge entry inner continuing rest g =
      let behind : List Front = next ∷ merge ∷ (fronts_in inner ++ (fronts_in continuing ++ fronts_in rest)) in
      let tail = given_right (own_front entry header) behind g in
      let inside : Given (fronts_in inner ++ (fronts_in continuing ++ fronts_in rest)) = (λ f o. tail f (inr (inr o))) in
      let more = given_right (fronts_in inner) (fronts_in continuing ++ fronts_in rest) inside in
      record {
        own = given_left (own_front entry header) behind g;
        next_given = tail next (inl refl);
        merge_given = tail merge (inr (inl refl));
        inner_given = given_left (fronts_in inner) (fronts_in continuing ++ fronts_in rest) inside;
        continuing_given = given_left (fronts_in continuing) (fronts_in rest) more;
        rest_given = given_right (fronts_in continuing) (fronts_in rest) more;
      }

  -- ---- what stands behind the head of the first block

  mutual
    pub still : (body : Body) (scope : List Front) → IsFormed all body → Typed m t scope Further body → Given (fronts_in body) → (opened : List (List ℕ))
        → Stills opened → Stills (lines all opened body)
    still (Leaves exit) scope formed typed g opened o = both opened (branch_line exit.target ∷ []) o (branch_still m t exit.target, tt)
    still (Finishes words) scope formed typed g opened o = both opened (words ∷ []) o (finish_still m t words formed typed, tt)
    still (Step words body) scope formed typed g opened o =
        let s = step_still m t words formed.0 typed.0 in
        let on = further_on (as_instruction words) s.still.inner s.still.variable in
        (s, still body scope formed.1 (subst (λ z. Typed m t scope z body) on typed.1) g opened o)
    still (Enters label body) scope formed typed g opened o =
        both opened (branch_line label ∷ label_line label ∷ lines all [] body) o
        (branch_still m t label, (label_still m t label, still body scope formed typed g [] tt))
    still (Splits condition on exit body) scope formed typed g opened o =
        both opened (split_line condition on exit.target (target body) ∷ arm_lines all body) o
        (split_still m t condition on exit.target (target body) typed.0, still_arm body scope formed.0 formed.1 typed.2 g)
    still (Selects control condition first second merge rest) scope formed typed g opened o =
        let tail : Given (fronts_in first ++ (fronts_in second ++ fronts_in rest)) = (λ f p. g f (inr p)) in
        let more = given_right (fronts_in first) (fronts_in second ++ fronts_in rest) tail in
        both opened (selection_line merge.label control ∷ split_line condition true (target first) (target second)
        ∷ (arm_lines all first ++ (arm_lines all second ++ (front_lines all merge ++ lines all [] rest)))) o (
          selection_still m t merge.label control,
          (
            split_still m t condition true (target first) (target second) typed.0,
            both (arm_lines all first) (arm_lines all second ++ (front_lines all merge ++ lines all [] rest))
                (still_arm first (merge ∷ scope) formed.0 formed.3 typed.2 (given_left (fronts_in first) (fronts_in second ++ fronts_in rest) tail))
                (both (arm_lines all second) (front_lines all merge ++ lines all [] rest)
                (still_arm second (merge ∷ scope) formed.1 formed.4 typed.3 (given_left (fronts_in second) (fronts_in rest) more))
                (both (front_lines all merge) (lines all [] rest) (front_still merge typed.1 (g merge (inl refl)))
                (still rest scope formed.5 typed.4 (given_right (fronts_in second) (fronts_in rest) more) [] tt))),
          ),
        )
    still (Switches control selector cases arms merge rest) scope formed typed g opened o =
        let tail : Given (fronts_in_arms arms ++ fronts_in rest) = (λ f p. g f (inr p)) in
        both opened (selection_line merge.label control ∷ instruction op.SWITCH (selector ∷ first_target arms ∷ pair_words cases)
        ∷ (lines_of_arms all arms ++ (front_lines all merge ++ lines all [] rest))) o (
          selection_still m t merge.label control,
          (
            switch_still m t selector (first_target arms ∷ pair_words cases) typed.0,
            both (lines_of_arms all arms) (front_lines all merge ++ lines all [] rest)
                (still_arms arms (merge ∷ scope) formed.2 typed.2 (given_left (fronts_in_arms arms) (fronts_in rest) tail))
                (both (front_lines all merge) (lines all [] rest) (front_still merge typed.1 (g merge (inl refl)))
                (still rest scope formed.3 typed.3 (given_right (fronts_in_arms arms) (fronts_in rest) tail) [] tt)),
          ),
        )
    still (Loops entry header control inner next continuing merge rest) scope formed typed g opened o =
        let l = loop_given header next merge entry inner continuing rest g in
        both (Rattle.spv_bodies.specs.Listing.entry_lines all opened header entry)
        (lines all (loop_line merge.label next.label control ∷ []) inner
        ++ (front_lines all next ++ (lines all [] continuing ++ (front_lines all merge ++ lines all [] rest))))
        (entry_still opened header entry o typed.1 l.own)
        (loop_parts (lines all (loop_line merge.label next.label control ∷ []) inner) (front_lines all next) (lines all [] continuing)
        (front_lines all merge) (lines all [] rest)
        (still inner (next ∷ merge ∷ scope) formed.4 typed.4 l.inner_given (loop_line merge.label next.label control ∷ [])
        (loop_still m t merge.label next.label control, tt))
        (front_still next typed.2 l.next_given)
        (still continuing (header ∷ merge ∷ scope) formed.5 typed.5 l.continuing_given [] tt)
        (front_still merge typed.3 l.merge_given)
        (still rest scope formed.6 typed.6 l.rest_given [] tt))

    pub still_arm : (body : Body) (scope : List Front) → begins_at_branch body ≡ true → IsFormed all body → Typed m t scope Further body
        → Given (fronts_in body) → Stills (arm_lines all body)
    still_arm (Leaves exit) scope begins formed typed g = tt
    still_arm (Finishes words) scope begins formed typed g = tt
    still_arm (Step words body) scope begins formed typed g = tt
    still_arm (Enters label body) scope begins formed typed g = (label_still m t label, still body scope formed typed g [] tt)
    still_arm (Splits condition on exit body) scope begins formed typed g = tt
    still_arm (Selects control condition first second merge rest) scope begins formed typed g = tt
    still_arm (Switches control selector cases arms merge rest) scope begins formed typed g = tt
    still_arm (Loops InPlace header control inner next continuing merge rest) scope begins formed typed g = absurd (cc begins)
    still_arm (Loops (ByBranch values) header control inner next continuing merge rest) scope begins formed typed g =
        let l = loop_given header next merge (ByBranch values) inner continuing rest g in
        both (front_lines all header)
        (lines all (loop_line merge.label next.label control ∷ []) inner
        ++ (front_lines all next ++ (lines all [] continuing ++ (front_lines all merge ++ lines all [] rest))))
        (front_still header typed.1 (l.own header (inl refl)))
        (loop_parts (lines all (loop_line merge.label next.label control ∷ []) inner) (front_lines all next) (lines all [] continuing)
        (front_lines all merge) (lines all [] rest)
        (still inner (next ∷ merge ∷ scope) formed.4 typed.4 l.inner_given (loop_line merge.label next.label control ∷ [])
        (loop_still m t merge.label next.label control, tt))
        (front_still next typed.2 l.next_given)
        (still continuing (header ∷ merge ∷ scope) formed.5 typed.5 l.continuing_given [] tt)
        (front_still merge typed.3 l.merge_given)
        (still rest scope formed.6 typed.6 l.rest_given [] tt))

    pub still_arms : (arms : Arms) (scope : List Front) → AreFormed all arms → ArmsTyped m t scope arms → Given (fronts_in_arms arms)
        → Stills (lines_of_arms all arms)
    still_arms (Last arm) scope formed typed g = still_arm arm scope formed.0 formed.1 typed g
    still_arms (Also arm arms) scope formed typed g =
        both (arm_lines all arm) (lines_of_arms all arms)
        (still_arm arm scope formed.0 formed.1 typed.0 (given_left (fronts_in arm) (fronts_in_arms arms) g))
        (still_arms arms scope formed.2 typed.1 (given_right (fronts_in arm) (fronts_in_arms arms) g))

  -- ---- the whole body

  pub record OpeningLines (ws : List (List ℕ)) : Type 0 where
    pub opens : Opens opcode_in ws
    pub fit : AllByRecursion (LineFits m t) ws

  all_still : (ws : List (List ℕ)) → Stills ws → Still opcode_in ws
  all_still [] h = tt
  all_still (w ∷ ws) h = (h.0.still, all_still ws h.1)

  all_fit : (ws : List (List ℕ)) → Stills ws → AllByRecursion (LineFits m t) ws
  all_fit [] h = tt
  all_fit (w ∷ ws) h = (h.0.fits, all_fit ws h.1)

  pub opens_still : (ws : List (List ℕ)) → Stills ws → OpeningLines ws
  opens_still ws h = record { opens = still_opens opcode_in ws (all_still ws h); fit = all_fit ws h }

  pub opening : (body : Body) (scope : List Front) → IsFormed all body → Typed m t scope Opening body → Given (fronts_in body)
      → OpeningLines (lines all [] body)
  opening (Step words body) scope formed typed g =
      let inner : IsInner (opcode_in words) = step_inner (opcode_in words) formed.0 in
      let fits : LineFits m t words = step_line m t words formed.0 typed.0 in
      elim (tells (opcode_in words == op.VARIABLE)) [
        | inl v ↦ let later = opening body scope formed.1 (subst (λ z. Typed m t scope z body) (stage_variable Opening (as_instruction words) v) typed.1) g in
            record { opens = (inner, inl (v, later.opens)); fit = (fits, later.fit) }
        | inr v ↦ let later = still body scope formed.1 (subst (λ z. Typed m t scope z body) (opening_over (as_instruction words) inner v) typed.1) g [] tt in
            record { opens = (inner, inr (v, all_still (lines all [] body) later)); fit = (fits, all_fit (lines all [] body) later) }
      ]
  opening (Leaves exit) scope formed typed g = opens_still (lines all [] (Leaves exit)) (still (Leaves exit) scope formed typed g [] tt)
  opening (Finishes words) scope formed typed g = opens_still (lines all [] (Finishes words)) (still (Finishes words) scope formed typed g [] tt)
  opening (Enters label body) scope formed typed g =
      opens_still (lines all [] (Enters label body)) (still (Enters label body) scope formed typed g [] tt)
  opening (Splits condition on exit body) scope formed typed g =
      opens_still (lines all [] (Splits condition on exit body)) (still (Splits condition on exit body) scope formed typed g [] tt)
  opening (Selects control condition first second merge rest) scope formed typed g =
      opens_still (lines all [] (Selects control condition first second merge rest))
      (still (Selects control condition first second merge rest) scope formed typed g [] tt)
  opening (Switches control selector cases arms merge rest) scope formed typed g =
      opens_still (lines all [] (Switches control selector cases arms merge rest))
      (still (Switches control selector cases arms merge rest) scope formed typed g [] tt)
  opening (Loops entry header control inner next continuing merge rest) scope formed typed g =
      opens_still (lines all [] (Loops entry header control inner next continuing merge rest))
      (still (Loops entry header control inner next continuing merge rest) scope formed typed g [] tt)
