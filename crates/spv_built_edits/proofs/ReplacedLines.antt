-- The listing of a function and of the edited one, line by line, where values stand for others of their types: by induction on the tree.
use Rattle.std.proofs.Common.{◌≡◌, ℕ, suc, ◌+◌, ◌*◌, ◌^◌, ◌<◌, Bool, true, false, cond, List, [], ◌∷◌, ◌++◌, filter, length, map, refl, sym, ap, subst, arith}
use Rattle.std.specs.List.{AllByRecursion, flat_map}
use Rattle.std.proofs.lemmas.Nat.{mod-mul-add}
use Rattle.spv_opcodes.specs.declared.op.TheConstants as op
use Rattle.spv_grammar.specs.Operands.{opcode_of}
use Rattle.spv_module.specs.Instruction.{Instruction}
use Rattle.spv_typing.specs.Kinds.{is_one_of}
use Rattle.spv_bodies.specs.Bodies.{Parameter, Front, Entry, ByBranch, InPlace, Body, Leaves, Finishes, Step, Enters, Splits, Selects, Switches, Loops, Arms, Last, Also, Function, begins_at_branch, target}
use Rattle.spv_bodies.specs.Listing.{Branching, arm_lines, arriving, branch_line, branches, branches_of_arms, entering, entry_lines, first_target, from_block, from_others, front_lines, in_order, instruction, label_line, lines, lines_of_arms, listed, loop_line, pair_words, phi_line, phi_lines, phi_pairs, selection_line, split_line}
use Rattle.spv_tree.specs.Branches.{branches_in}
use Rattle.spv_tree.specs.Sound.{AreFormed, IsFormed, IsSound, is_end, is_step, opcode_in}
use Rattle.spv_editing.specs.Editing.{Edit, edited, edited_arms, edited_end, edited_entry, edited_function, steps_before}
use Rattle.spv_editing.specs.Showing.{Shown, carried, operands, shown, shown_in_arms, uses}
use Rattle.spv_editing.proofs.Kept.{branches-in-kept}
use Rattle.spv_editing.proofs.Soundness.{arriving-mapped, in-order-mapped, mapped, target-kept}
use Rattle.spv_structured_edits.proofs.Ends.{first-target-kept}
use Rattle.spv_typed_edits.proofs.Members.{Of, and_also, behind, both, in_front, of_both}
use Rattle.spv_typed_trees.specs.Typed.{IsTyped}
use Rattle.spv_replaced_values.specs.Replaced.{ReplacesValues, stands_in}
use Rattle.spv_replaced_values.proofs.Standing.{NearAll, near_at, near_itself, near_length}
use Rattle.spv_built_edits.specs.Edits.{PutsLine, PutsValues}
use Rattle.spv_built_edits.proofs.ReplacedSteps.{FitsInside, StepFitsInside, typed_steps_fit}

-- OpBranchConditional and OpSwitch
abbrev pub choices : List ℕ
choices = op.BRANCH_CONDITIONAL ∷ op.SWITCH ∷ []

-- what a line becomes
pub data Becomes (insts : List Instruction) (words others : List ℕ) : Type 0 where
  -- it stays
  Itself : others ≡ words → Becomes insts words others
  -- a step, in which other values stand
  AnyStep : is_step (opcode_in words) ≡ true → FitsInside insts words → ReplacesValues insts words others → Becomes insts words others
  -- a condition or a selector, behind the first word
  AChoice :
      (head id other : ℕ) (more : List ℕ) → is_one_of choices (opcode_of head) ≡ true → stands_in insts id other ≡ true → words ≡ head ∷ id ∷ more
      → others ≡ head ∷ other ∷ more → Becomes insts words others
  -- what is returned
  AnEnd :
      (head : ℕ) (ids news : List ℕ) → is_end (opcode_of head) ≡ true → NearAll insts ids news → words ≡ head ∷ ids → others ≡ head ∷ news
      → Becomes insts words others
  -- the pairs of an OpPhi
  APhi :
      (head type result : ℕ) (ids news : List ℕ) → opcode_of head ≡ op.PHI → NearAll insts ids news → words ≡ head ∷ type ∷ result ∷ ids
      → others ≡ head ∷ type ∷ result ∷ news → Becomes insts words others

-- one for one
abbrev pub Each : List Instruction → (olds news : List (List ℕ)) → Type 0
Each insts [] [] = Unit {0}
Each insts [] (n ∷ news) = ⊥
Each insts (o ∷ olds) [] = ⊥
Each insts (o ∷ olds) (n ∷ news) = Becomes insts o n × Each insts olds news

spelled : (o : ℕ) (words : List ℕ) → o < 65536 → opcode_of ((length words + 1) * 2 ^ 16 + o) ≡ o
spelled o words h = mod-mul-add (length words + 1) 65536 o h

module _ (insts : List Instruction) where
  -- ---- lists of lines

  pub all_themselves : (ls : List (List ℕ)) → Each insts ls ls
  all_themselves [] = tt
  all_themselves (l ∷ ls) = (Itself refl, all_themselves ls)

  pub each_both : (xs ys olds news : List (List ℕ)) → Each insts xs ys → Each insts olds news → Each insts (xs ++ olds) (ys ++ news)
  each_both [] [] olds news h g = g
  each_both [] (y ∷ ys) olds news h g = absurd h
  each_both (x ∷ xs) [] olds news h g = absurd h
  each_both (x ∷ xs) (y ∷ ys) olds news h g = (h.0, each_both xs ys olds news h.1 g)

  opened_too : (opened olds news : List (List ℕ)) → Each insts olds news → Each insts (opened ++ olds) (opened ++ news)
  opened_too opened olds news h = each_both opened opened olds news (all_themselves opened) h

  module _ (e : Edit) where
    -- what is put for an id
    abbrev PutsFor : ℕ → Type 0
    PutsFor id = stands_in insts id (e.uses id) ≡ true

    -- what is so of all that a body shows
    abbrev Put : Shown → Type 0
    Put s = Of (PutsLine insts e) PutsFor s × StepFitsInside insts s

    abbrev Carries : Branching → Type 0
    Carries branching = NearAll insts branching.1.values (map e.uses branching.1.values)

    put_left : (xs ys : List Shown) → AllByRecursion Put (xs ++ ys) → AllByRecursion Put xs
    put_left = in_front Put

    put_right : (xs ys : List Shown) → AllByRecursion Put (xs ++ ys) → AllByRecursion Put ys
    put_right = behind Put

    near_values : (ids : List ℕ) → AllByRecursion Put (uses ids) → NearAll insts ids (map e.uses ids)
    near_values [] h = tt
    near_values (id ∷ ids) h = (h.0.0, near_values ids h.1)

    -- ---- what branches carry

    abbrev AllCarry : List Branching → Type 0
    AllCarry all = AllByRecursion Carries all

    join : (xs ys : List Branching) → AllCarry xs → AllCarry ys → AllCarry (xs ++ ys)
    join = both Carries

    entering_carries : (block header : ℕ) (entry : Entry) → AllByRecursion Put (uses (carried entry)) → AllCarry (entering block header entry)
    entering_carries block header (ByBranch values) put = (near_values values put, tt)
    entering_carries block header InPlace put = tt

    mutual
      all_carry : (block : ℕ) (b : Body) → AllByRecursion Put (shown b) → AllCarry (branches block b)
      all_carry block (Leaves exit) put = (near_values exit.values put, tt)
      all_carry block (Finishes words) put = tt
      all_carry block (Step words body) put = all_carry block body put.1
      all_carry block (Enters label body) put = all_carry label body put
      all_carry block (Splits condition on exit body) put = (
        near_values exit.values (put_left (uses exit.values) (shown body) put.1),
        all_carry block body (put_right (uses exit.values) (shown body) put.1),
      )
      all_carry block (Selects control condition first second merge rest) put =
          let later = put_right (shown first) (shown second ++ shown rest) put.1 in
          join (branches block first) (branches block second ++ branches merge.label rest)
          (all_carry block first (put_left (shown first) (shown second ++ shown rest) put.1))
          (join (branches block second) (branches merge.label rest) (all_carry block second (put_left (shown second) (shown rest) later))
          (all_carry merge.label rest (put_right (shown second) (shown rest) later)))
      all_carry block (Switches control selector cases arms merge rest) put =
          join (branches_of_arms block arms) (branches merge.label rest) (arms_carry block arms (put_left (shown_in_arms arms) (shown rest) put.1))
          (all_carry merge.label rest (put_right (shown_in_arms arms) (shown rest) put.1))
      all_carry block (Loops entry header control inner next continuing merge rest) put =
          let inside = put_right (uses (carried entry)) (shown inner ++ (shown continuing ++ shown rest)) put in
          let later = put_right (shown inner) (shown continuing ++ shown rest) inside in
          join (entering block header.label entry) (branches header.label inner ++ (branches next.label continuing ++ branches merge.label rest))
          (entering_carries block header.label entry (put_left (uses (carried entry)) (shown inner ++ (shown continuing ++ shown rest)) put))
          (join (branches header.label inner) (branches next.label continuing ++ branches merge.label rest)
          (all_carry header.label inner (put_left (shown inner) (shown continuing ++ shown rest) inside))
          (join (branches next.label continuing) (branches merge.label rest) (all_carry next.label continuing (put_left (shown continuing) (shown rest) later))
          (all_carry merge.label rest (put_right (shown continuing) (shown rest) later))))

      arms_carry : (block : ℕ) (arms : Arms) → AllByRecursion Put (shown_in_arms arms) → AllCarry (branches_of_arms block arms)
      arms_carry block (Last arm) put = all_carry block arm put
      arms_carry block (Also arm arms) put =
          join (branches block arm) (branches_of_arms block arms) (all_carry block arm (put_left (shown arm) (shown_in_arms arms) put))
          (arms_carry block arms (put_right (shown arm) (shown_in_arms arms) put))

    -- those that pass a test
    some_carry : (test : Branching → Bool) (all : List Branching) → AllCarry all → AllCarry (filter test all)
    some_carry test [] h = tt
    some_carry test (b ∷ all) h = by (test b) (some_carry test all h.1)
      where
        by : (c : Bool) → AllCarry (filter test all) → AllCarry (cond c (b ∷ filter test all) (filter test all))
        by true more = (h.0, more)
        by false more = more

    blocks_carry : (blocks : List ℕ) (all : List Branching) → AllCarry all → AllCarry (flat_map (from_block all) blocks)
    blocks_carry [] all h = tt
    blocks_carry (block ∷ blocks) all h =
        join (from_block all block) (flat_map (from_block all) blocks) (some_carry _ all h) (blocks_carry blocks all h)

    ordered_carry : (blocks : List ℕ) (all : List Branching) → AllCarry all → AllCarry (in_order blocks all)
    ordered_carry blocks all h = join (flat_map (from_block all) blocks) (from_others all blocks) (blocks_carry blocks all h) (some_carry _ all h)

    -- ---- OpPhi

    near_pairs : (k : ℕ) (bs : List Branching) → AllCarry bs → NearAll insts (pair_words (phi_pairs k bs)) (pair_words (phi_pairs k (mapped e bs)))
    near_pairs k [] h = tt
    near_pairs k (b ∷ bs) h = (near_at insts k b.1.values (map e.uses b.1.values) h.0, (near_itself insts b.0, near_pairs k bs h.1))

    phi_becomes : (k : ℕ) (here : List Branching) (p : Parameter) → AllCarry here → Becomes insts (phi_line k here p) (phi_line k (mapped e here) p)
    phi_becomes k here p carry =
        let ids : List ℕ = pair_words (phi_pairs k (in_order p.parents here)) in
        let news : List ℕ = pair_words (phi_pairs k (in_order p.parents (mapped e here))) in
        let near : NearAll insts ids news =
        subst (λ (bs : List Branching). NearAll insts ids (pair_words (phi_pairs k bs))) (sym (in-order-mapped e p.parents here))
        (near_pairs k (in_order p.parents here) (ordered_carry p.parents here carry)) in
        APhi ((length (p.type ∷ p.result_id ∷ ids) + 1) * 2 ^ 16 + op.PHI) p.type p.result_id ids news
        (spelled op.PHI (p.type ∷ p.result_id ∷ ids) (omega arith)) near refl
        (ap (λ (n : ℕ). ((suc (suc n) + 1) * 2 ^ 16 + op.PHI) ∷ p.type ∷ p.result_id ∷ news) (near_length insts ids news near))

    phis_become : (k : ℕ) (here : List Branching) (ps : List Parameter) → AllCarry here → Each insts (phi_lines k here ps) (phi_lines k (mapped e here) ps)
    phis_become k here [] carry = tt
    phis_become k here (p ∷ ps) carry = (phi_becomes k here p carry, phis_become (k + 1) here ps carry)

    -- ---- the ends of blocks

    end_becomes : (words : List ℕ) → is_end (opcode_in words) ≡ true → AllByRecursion Put (uses (operands words)) → Becomes insts words (edited_end e words)
    end_becomes [] is put = Itself refl
    end_becomes (head ∷ ids) is put = AnEnd head ids (map e.uses ids) is (near_values ids put) refl refl

    split_becomes : (condition : ℕ) (on : Bool) (exit other : ℕ) → PutsFor condition
        → Becomes insts (split_line condition on exit other) (split_line (e.uses condition) on exit other)
    split_becomes condition on exit other near =
        let more : List ℕ = cond on (exit ∷ other ∷ []) (other ∷ exit ∷ []) in
        AChoice ((length (condition ∷ more) + 1) * 2 ^ 16 + op.BRANCH_CONDITIONAL) condition (e.uses condition) more
        (ap (is_one_of choices) (spelled op.BRANCH_CONDITIONAL (condition ∷ more) (omega arith))) near refl refl

    switch_becomes : (selector : ℕ) (more : List ℕ) → PutsFor selector
        → Becomes insts (instruction op.SWITCH (selector ∷ more)) (instruction op.SWITCH (e.uses selector ∷ more))
    switch_becomes selector more near =
        AChoice ((length (selector ∷ more) + 1) * 2 ^ 16 + op.SWITCH) selector (e.uses selector) more
        (ap (is_one_of choices) (spelled op.SWITCH (selector ∷ more) (omega arith))) near refl refl

    -- ---- constructs

    module _ (all : List Branching) (carry : AllCarry all) where
      front_becomes : (front : Front) → Each insts (front_lines all front) (front_lines (mapped e all) front)
      front_becomes front = (
        Itself refl,
        subst (λ (here : List Branching). Each insts (phi_lines 0 (arriving front.label all) front.parameters) (phi_lines 0 here front.parameters))
            (sym (arriving-mapped e front.label all))
            (phis_become 0 (arriving front.label all) front.parameters (some_carry _ all carry)),
      )

      entry_becomes : (opened : List (List ℕ)) (header : Front) (entry : Entry)
          → Each insts (entry_lines all opened header entry) (entry_lines (mapped e all) opened header (edited_entry e entry))
      entry_becomes opened header (ByBranch values) =
          opened_too opened (branch_line header.label ∷ front_lines all header) (branch_line header.label ∷ front_lines (mapped e all) header)
          (Itself refl, front_becomes header)
      entry_becomes opened header InPlace = tt

      -- a front and what stands behind it
      merged : (front : Front) (old new : List (List ℕ)) → Each insts old new
          → Each insts (front_lines all front ++ old) (front_lines (mapped e all) front ++ new)
      merged front old new h = each_both (front_lines all front) (front_lines (mapped e all) front) old new (front_becomes front) h

      -- a loop behind the front of its header: its body, its continue part, and what stands behind it
      loop_becomes : (next merge : Front) (in_old in_new on_old on_new old new : List (List ℕ)) → Each insts in_old in_new → Each insts on_old on_new
          → Each insts old new
          → Each insts (in_old ++ (front_lines all next ++ (on_old ++ (front_lines all merge ++ old))))
          (in_new ++ (front_lines (mapped e all) next ++ (on_new ++ (front_lines (mapped e all) merge ++ new))))
      loop_becomes next merge in_old in_new on_old on_new old new first second third =
          each_both in_old in_new (front_lines all next ++ (on_old ++ (front_lines all merge ++ old)))
          (front_lines (mapped e all) next ++ (on_new ++ (front_lines (mapped e all) merge ++ new))) first
          (merged next (on_old ++ (front_lines all merge ++ old)) (on_new ++ (front_lines (mapped e all) merge ++ new))
          (each_both on_old on_new (front_lines all merge ++ old) (front_lines (mapped e all) merge ++ new) second (merged merge old new third)))

      mutual
        lines_become : (opened : List (List ℕ)) (b : Body) → IsFormed all b → AllByRecursion Put (shown b)
            → Each insts (lines all opened b) (lines (mapped e all) opened (edited e b))
        lines_become opened (Leaves exit) formed put = all_themselves (opened ++ branch_line exit.target ∷ [])
        lines_become opened (Finishes words) formed put =
            opened_too opened (words ∷ []) (edited_end e words ∷ []) (end_becomes words formed put, tt)
        lines_become opened (Step words body) formed put =
            let p = put.0.0 in
            subst (λ (ls : List (List ℕ)). Each insts (words ∷ lines all opened body) (lines (mapped e all) opened (steps_before ls (edited e body))))
            (sym p.is)
            (AnyStep formed.0 put.0.1 p.replaces, lines_become opened body formed.1 put.1)
        lines_become opened (Enters label body) formed put =
            opened_too opened (branch_line label ∷ label_line label ∷ lines all [] body)
            (branch_line label ∷ label_line label ∷ lines (mapped e all) [] (edited e body))
            (Itself refl, (Itself refl, lines_become [] body formed put))
        lines_become opened (Splits condition on exit body) formed put =
            opened_too opened (split_line condition on exit.target (target body) ∷ arm_lines all body)
            (split_line (e.uses condition) on exit.target (target (edited e body)) ∷ arm_lines (mapped e all) (edited e body)) (
              subst (λ (t : ℕ). Becomes insts (split_line condition on exit.target (target body)) (split_line (e.uses condition) on exit.target t))
                  (sym (target-kept e body formed.0)) (split_becomes condition on exit.target (target body) put.0.0),
              arm_becomes body formed.0 formed.1 (put_right (uses exit.values) (shown body) put.1),
            )
        lines_become opened (Selects control condition first second merge rest) formed put =
            let later = put_right (shown first) (shown second ++ shown rest) put.1 in
            opened_too opened
            (selection_line merge.label control ∷ split_line condition true (target first) (target second)
            ∷ (arm_lines all first ++ (arm_lines all second ++ (front_lines all merge ++ lines all [] rest))))
            (selection_line merge.label control ∷ split_line (e.uses condition) true (target (edited e first)) (target (edited e second))
            ∷ (arm_lines (mapped e all) (edited e first)
            ++ (arm_lines (mapped e all) (edited e second) ++ (front_lines (mapped e all) merge ++ lines (mapped e all) [] (edited e rest))))) (
              Itself refl,
              (
                subst (λ (line : List ℕ). Becomes insts (split_line condition true (target first) (target second)) line)
                    (λ i. split_line (e.uses condition) true (sym (target-kept e first formed.0) i) (sym (target-kept e second formed.1) i))
                    (split_becomes condition true (target first) (target second) put.0.0),
                each_both (arm_lines all first) (arm_lines (mapped e all) (edited e first))
                    (arm_lines all second ++ (front_lines all merge ++ lines all [] rest))
                    (arm_lines (mapped e all) (edited e second) ++ (front_lines (mapped e all) merge ++ lines (mapped e all) [] (edited e rest)))
                    (arm_becomes first formed.0 formed.3 (put_left (shown first) (shown second ++ shown rest) put.1))
                    (each_both (arm_lines all second) (arm_lines (mapped e all) (edited e second)) (front_lines all merge ++ lines all [] rest)
                    (front_lines (mapped e all) merge ++ lines (mapped e all) [] (edited e rest))
                    (arm_becomes second formed.1 formed.4 (put_left (shown second) (shown rest) later))
                    (merged merge (lines all [] rest) (lines (mapped e all) [] (edited e rest))
                    (lines_become [] rest formed.5 (put_right (shown second) (shown rest) later)))),
              ),
            )
        lines_become opened (Switches control selector cases arms merge rest) formed put =
            opened_too opened
            (selection_line merge.label control ∷ instruction op.SWITCH (selector ∷ first_target arms ∷ pair_words cases)
            ∷ (lines_of_arms all arms ++ (front_lines all merge ++ lines all [] rest)))
            (selection_line merge.label control ∷ instruction op.SWITCH (e.uses selector ∷ first_target (edited_arms e arms) ∷ pair_words cases)
            ∷ (lines_of_arms (mapped e all) (edited_arms e arms) ++ (front_lines (mapped e all) merge ++ lines (mapped e all) [] (edited e rest)))) (
              Itself refl,
              (
                subst (λ (t : ℕ). Becomes insts (instruction op.SWITCH (selector ∷ first_target arms ∷ pair_words cases))
                    (instruction op.SWITCH (e.uses selector ∷ t ∷ pair_words cases))) (sym (first-target-kept e all arms formed.2))
                    (switch_becomes selector (first_target arms ∷ pair_words cases) put.0.0),
                each_both (lines_of_arms all arms) (lines_of_arms (mapped e all) (edited_arms e arms)) (front_lines all merge ++ lines all [] rest)
                    (front_lines (mapped e all) merge ++ lines (mapped e all) [] (edited e rest))
                    (arms_become arms formed.2 (put_left (shown_in_arms arms) (shown rest) put.1))
                    (merged merge (lines all [] rest) (lines (mapped e all) [] (edited e rest))
                    (lines_become [] rest formed.3 (put_right (shown_in_arms arms) (shown rest) put.1))),
              ),
            )
        lines_become opened (Loops entry header control inner next continuing merge rest) formed put =
            let inside = put_right (uses (carried entry)) (shown inner ++ (shown continuing ++ shown rest)) put in
            let later = put_right (shown inner) (shown continuing ++ shown rest) inside in
            let own : List (List ℕ) = loop_line merge.label next.label control ∷ [] in
            each_both (entry_lines all opened header entry) (entry_lines (mapped e all) opened header (edited_entry e entry))
            (lines all own inner ++ (front_lines all next ++ (lines all [] continuing ++ (front_lines all merge ++ lines all [] rest))))
            (lines (mapped e all) own (edited e inner)
            ++ (front_lines (mapped e all) next
            ++ (lines (mapped e all) [] (edited e continuing) ++ (front_lines (mapped e all) merge ++ lines (mapped e all) [] (edited e rest)))))
            (entry_becomes opened header entry)
            (loop_becomes next merge (lines all own inner) (lines (mapped e all) own (edited e inner)) (lines all [] continuing)
            (lines (mapped e all) [] (edited e continuing)) (lines all [] rest) (lines (mapped e all) [] (edited e rest))
            (lines_become own inner formed.4 (put_left (shown inner) (shown continuing ++ shown rest) inside))
            (lines_become [] continuing formed.5 (put_left (shown continuing) (shown rest) later))
            (lines_become [] rest formed.6 (put_right (shown continuing) (shown rest) later)))

        arm_becomes : (b : Body) → begins_at_branch b ≡ true → IsFormed all b → AllByRecursion Put (shown b)
            → Each insts (arm_lines all b) (arm_lines (mapped e all) (edited e b))
        arm_becomes (Step words body) begins formed put = absurd (cc begins)
        arm_becomes (Enters label body) begins formed put = (Itself refl, lines_become [] body formed put)
        arm_becomes (Loops entry header control inner next continuing merge rest) begins formed put =
            let inside = put_right (uses (carried entry)) (shown inner ++ (shown continuing ++ shown rest)) put in
            let later = put_right (shown inner) (shown continuing ++ shown rest) inside in
            let own : List (List ℕ) = loop_line merge.label next.label control ∷ [] in
            each_both (front_lines all header) (front_lines (mapped e all) header)
            (lines all own inner ++ (front_lines all next ++ (lines all [] continuing ++ (front_lines all merge ++ lines all [] rest))))
            (lines (mapped e all) own (edited e inner)
            ++ (front_lines (mapped e all) next
            ++ (lines (mapped e all) [] (edited e continuing) ++ (front_lines (mapped e all) merge ++ lines (mapped e all) [] (edited e rest)))))
            (front_becomes header)
            (loop_becomes next merge (lines all own inner) (lines (mapped e all) own (edited e inner)) (lines all [] continuing)
            (lines (mapped e all) [] (edited e continuing)) (lines all [] rest) (lines (mapped e all) [] (edited e rest))
            (lines_become own inner formed.4 (put_left (shown inner) (shown continuing ++ shown rest) inside))
            (lines_become [] continuing formed.5 (put_left (shown continuing) (shown rest) later))
            (lines_become [] rest formed.6 (put_right (shown continuing) (shown rest) later)))
        arm_becomes (Leaves exit) begins formed put = tt
        arm_becomes (Finishes words) begins formed put = tt
        arm_becomes (Splits condition on exit body) begins formed put = tt
        arm_becomes (Selects control condition first second merge rest) begins formed put = tt
        arm_becomes (Switches control selector cases arms merge rest) begins formed put = tt

        arms_become : (arms : Arms) → AreFormed all arms → AllByRecursion Put (shown_in_arms arms)
            → Each insts (lines_of_arms all arms) (lines_of_arms (mapped e all) (edited_arms e arms))
        arms_become (Last arm) formed put = arm_becomes arm formed.0 formed.1 put
        arms_become (Also arm arms) formed put =
            each_both (arm_lines all arm) (arm_lines (mapped e all) (edited e arm)) (lines_of_arms all arms)
            (lines_of_arms (mapped e all) (edited_arms e arms))
            (arm_becomes arm formed.0 formed.1 (put_left (shown arm) (shown_in_arms arms) put))
            (arms_become arms formed.2 (put_right (shown arm) (shown_in_arms arms) put))

    -- ---- the function

    pub function_becomes : (f : Function) → IsSound f → IsTyped insts f → PutsValues insts e f → Each insts (listed f) (listed (edited_function e f))
    function_becomes f sound typed values =
        let put =
        and_also (Of (PutsLine insts e) PutsFor) (StepFitsInside insts) (shown f.body)
        (of_both (PutsLine insts e) PutsFor (shown f.body) values.steps values.uses) (typed_steps_fit insts f typed) in
        let body : Each insts (lines (branches_in f) [] f.body) (lines (branches_in (edited_function e f)) [] (edited e f.body)) =
        subst (λ (all : List Branching). Each insts (lines (branches_in f) [] f.body) (lines all [] (edited e f.body))) (sym (branches-in-kept e f))
        (lines_become (branches_in f) (all_carry f.label f.body put) [] f.body sound.formed put) in (
          Itself refl,
          opened_too f.parameters
              (label_line f.label ∷ (lines (branches_in f) [] f.body ++ instruction op.FUNCTION_END [] ∷ []))
              (label_line f.label ∷ (lines (branches_in (edited_function e f)) [] (edited e f.body) ++ instruction op.FUNCTION_END [] ∷ [])) (
                Itself refl,
                each_both (lines (branches_in f) [] f.body) (lines (branches_in (edited_function e f)) [] (edited e f.body))
                    (instruction op.FUNCTION_END [] ∷ []) (instruction op.FUNCTION_END [] ∷ []) body (all_themselves (instruction op.FUNCTION_END [] ∷ [])),
              ),
        )
