-- Small functions spell their trees.
use Rattle.std.proofs.Common.{◌≡◌, inl, inr, ℕ, ◌==◌, true, false, cond, not, ◌&&◌, ◌||◌, List, [], ◌∷◌, Option, Some, None, is_none, refl, sym, ap, subst}
use Rattle.spv_grammar.specs.Table.{row_of}
use Rattle.spv_module.specs.Instruction.{Instruction}
use Rattle.spv_blocks.specs.Blocks.{Code, Block, End, Branch, BranchIf, Switch, Return, Unreachable, Open, has, of_block, block, end_targets, targets, construct}
use Rattle.spv_blocks.specs.Cutting.{blocks_of}
use Rattle.spv_walk.specs.Contexts.{InSelection, InArm, InBody, InNext}
use Rattle.spv_walk.specs.Walk.{Begins, Back, Enters}
use Rattle.spv_walk.proofs.Entering.{one_of, label_among, from_one, from_two, no_case, no_loops, no_back_from_first, enters}
use Rattle.spv_walk.proofs.NumberingAlike.{branches_of_case}
use Rattle.spv_walk.proofs.Unique.{tells, both_left, equal_true}
use Rattle.spv_normal.specs.Facts.{written, in_two, mixed}
use Rattle.spv_normal.specs.Lines.{without_marks}
use Rattle.spv_normal.specs.Order.{is_branch_to, is_front, joins}
use Rattle.spv_spelling.specs.Spelling.{SpellsExit, steps, finishes, joined, branches, selects, switches, leaves, comes, out, enters as enters_block, last, also, plain, parts, parted, AreStaying}
use Rattle.spv_spelling.specs.Facts.{stays_in_two, BlocksAreJoined, stays_mixed, SelectionsAreSpelled, cases, SwitchesAreSpelled, counting, LoopsAreSpelled}

-- ---- joined blocks

branch_among : (t : ℕ) (e : End) → is_branch_to t e ≡ true → has (end_targets e) t ≡ true
branch_among t (Branch u) h = ap (λ x. x || false) h
branch_among t (BranchIf a b) h = absurd (cc (h))
branch_among t (Switch d ps) h = absurd (cc (h))
branch_among t Return h = absurd (cc (h))
branch_among t Unreachable h = absurd (cc (h))
branch_among t Open h = absurd (cc (h))

branch_of : (t : ℕ) (o : Option Block) → of_block (λ b. is_branch_to t b.end) false o ≡ true → has (of_block (λ b. end_targets b.end) [] o) t ≡ true
branch_of t None h = absurd (cc (h))
branch_of t (Some b) h = branch_among t b.end h

-- a block branches to the one that is joined with it
joined_target : (f : Code) (l t : ℕ) → joins f l t ≡ true → has (targets f l) t ≡ true
joined_target f l t h =
    branch_of t (block f l)
    (both_left (of_block (λ b. is_branch_to t b.end) false (block f l)) (is_none (construct f l))
    (both_left (of_block (λ b. is_branch_to t b.end) false (block f l) && is_none (construct f l)) (not (is_front f t)) h))

-- ---- a joined block

abbrev two : List Instruction
two = without_marks (written in_two)

pub enters_joined : Enters (blocks_of two) 4 5
enters_joined =
    enters (blocks_of two) 4 5 refl refl (λ back. no_loops (blocks_of two) refl back.top) (λ falls. no_case (blocks_of two) refl falls.switch 5 falls.to_case)

staying_in_two : AreStaying two stays_in_two
staying_in_two = record {
  joined = λ l t i j.
      one_of (λ l. (t : ℕ) → joins (blocks_of two) l t ≡ true → stays_in_two t ≡ stays_in_two l) (4 ∷ 5 ∷ []) (
        (λ t j. one_of (λ t. stays_in_two t ≡ 4) (5 ∷ []) (refl, tt) t (joined_target (blocks_of two) 4 t j)),
        ((λ t j. absurd (cc (j))), tt),
      ) l (label_among (blocks_of two) l i) t j;
  own = λ t none. elim (tells (t == 5)) [
    | inl e ↦ absurd (none 4 refl (ap (joins (blocks_of two) 4) (equal_true t 5 e)))
    | inr e ↦ ap (λ x. cond x 4 t) e
  ];
}

pub blocks_are_joined : BlocksAreJoined
unfolding row_of
blocks_are_joined = record {
  spells = record {
    staying = staying_in_two;
    front = refl;
    label = refl;
    body = joined refl (record { enters = enters_joined; stays_in = refl }) refl (steps refl (finishes refl));
  };
  lists = refl;
  normal = refl;
}

-- ---- a selection

abbrev picking : List Instruction
picking = written mixed

enters_first : Enters (blocks_of picking) 4 5
enters_first =
    enters (blocks_of picking) 4 5 refl refl (λ back. no_loops (blocks_of picking) refl back.top) (λ falls. no_case (blocks_of picking) refl falls.switch 5 falls.to_case)

enters_second : Enters (blocks_of picking) 4 6
enters_second =
    enters (blocks_of picking) 4 6 refl refl (λ back. no_loops (blocks_of picking) refl back.top) (λ falls. no_case (blocks_of picking) refl falls.switch 6 falls.to_case)

enters_behind : Enters (blocks_of picking) 5 8
enters_behind =
    enters (blocks_of picking) 5 8 refl refl (λ back. no_loops (blocks_of picking) refl back.top) (λ falls. no_case (blocks_of picking) refl falls.switch 8 falls.to_case)

staying_mixed : AreStaying picking stays_mixed
staying_mixed = record {
  joined = λ l t i j.
      one_of (λ l. (t : ℕ) → joins (blocks_of picking) l t ≡ true → stays_mixed t ≡ stays_mixed l) (4 ∷ 6 ∷ 7 ∷ 5 ∷ 8 ∷ []) (
        (λ t j. absurd (cc (j))),
        (
          (λ t j.
              let seven = one_of (λ t. t ≡ 7) (7 ∷ []) (refl, tt) t (joined_target (blocks_of picking) 6 t j) in
              let no : joins (blocks_of picking) 6 7 ≡ true = subst (λ z. joins (blocks_of picking) 6 z ≡ true) seven j in
              absurd (cc (no))),
          (
            (λ t j. absurd (cc (j))),
            (
              (λ t j. one_of (λ t. stays_mixed t ≡ 5) (8 ∷ []) (refl, tt) t (joined_target (blocks_of picking) 5 t j)),
              (
                (λ t j.
                    let seven = one_of (λ t. t ≡ 7) (7 ∷ []) (refl, tt) t (joined_target (blocks_of picking) 8 t j) in
                    let no : joins (blocks_of picking) 8 7 ≡ true = subst (λ z. joins (blocks_of picking) 8 z ≡ true) seven j in
                    absurd (cc (no))),
                tt,
              ),
            ),
          ),
        ),
      ) l (label_among (blocks_of picking) l i) t j;
  own = λ t none. elim (tells (t == 8)) [
    | inl e ↦ absurd (none 5 refl (ap (joins (blocks_of picking) 5) (equal_true t 8 e)))
    | inr e ↦ ap (λ x. cond x 5 t) e
  ];
}

first_leaves : SpellsExit picking stays_mixed 8 (InSelection 7 ∷ []) (record { target = 7; values = 24 ∷ [] })
first_leaves = record { leaves = refl; values = (refl, tt) }

second_leaves : SpellsExit picking stays_mixed 6 (InSelection 7 ∷ []) (record { target = 7; values = 23 ∷ [] })
second_leaves = record { leaves = refl; values = (refl, tt) }

pub selections_are_spelled : SelectionsAreSpelled
selections_are_spelled = record {
  spells = record {
    staying = staying_mixed;
    front = refl;
    label = refl;
    body =
        selects refl
        (enters_block (record { enters = enters_first; stays_in = refl }) refl
        (joined refl (record { enters = enters_behind; stays_in = refl }) refl (branches refl (leaves first_leaves))))
        (enters_block (record { enters = enters_second; stays_in = refl }) refl (branches refl (leaves second_leaves)))
        (plain refl (finishes refl));
  };
  lists = refl;
  normal = refl;
}

-- ---- a switch

abbrev choosing : List Instruction
choosing = written cases

enters_case : Enters (blocks_of choosing) 4 5
enters_case =
    enters (blocks_of choosing) 4 5 refl refl (λ back. no_loops (blocks_of choosing) refl back.top)
    (λ falls. falls.other (sym (from_one (blocks_of choosing) 5 4 refl falls.switch (branches_of_case (blocks_of choosing) falls.switch 5 falls.to_case))))

enters_other_case : Enters (blocks_of choosing) 4 6
enters_other_case =
    enters (blocks_of choosing) 4 6 refl refl (λ back. no_loops (blocks_of choosing) refl back.top)
    (λ falls. falls.other (sym (from_one (blocks_of choosing) 6 4 refl falls.switch (branches_of_case (blocks_of choosing) falls.switch 6 falls.to_case))))

staying_choosing : AreStaying choosing (λ l. l)
staying_choosing = record {
  joined = λ l t i j.
      one_of (λ l. (t : ℕ) → joins (blocks_of choosing) l t ≡ true → t ≡ l) (4 ∷ 5 ∷ 6 ∷ 7 ∷ []) (
        (λ t j. absurd (cc (j))),
        (
          (λ t j.
              let seven = one_of (λ t. t ≡ 7) (7 ∷ []) (refl, tt) t (joined_target (blocks_of choosing) 5 t j) in
              let no : joins (blocks_of choosing) 5 7 ≡ true = subst (λ z. joins (blocks_of choosing) 5 z ≡ true) seven j in
              absurd (cc (no))),
          ((λ t j. absurd (cc (j))), ((λ t j. absurd (cc (j))), tt)),
        ),
      ) l (label_among (blocks_of choosing) l i) t j;
  own = λ t none. refl;
}

default_leaves : SpellsExit choosing (λ l. l) 4 (InArm 4 7 7 ∷ []) (record { target = 7; values = 30 ∷ [] })
default_leaves = record { leaves = refl; values = (refl, tt) }

case_leaves : SpellsExit choosing (λ l. l) 5 (InArm 4 7 5 ∷ []) (record { target = 7; values = 31 ∷ [] })
case_leaves = record { leaves = refl; values = (refl, tt) }

pub switches_are_spelled : SwitchesAreSpelled
switches_are_spelled = record {
  spells = record {
    staying = staying_choosing;
    front = refl;
    label = refl;
    body =
        switches refl
        (also (out (leaves default_leaves))
        (also (enters_block (record { enters = enters_case; stays_in = refl }) refl (branches refl (leaves case_leaves)))
        (last (enters_block (record { enters = enters_other_case; stays_in = refl }) refl (finishes refl)))))
        (plain refl (finishes refl));
  };
  lists = refl;
  normal = refl;
}

-- ---- a loop

abbrev turning : List Instruction
turning = written counting

back_edge : Back (blocks_of turning) 5 7
back_edge = record { top = Begins 5 7 refl refl; bare = refl }

enters_loop : Enters (blocks_of turning) 4 5
enters_loop = record {
  free = refl;
  counted = record {
    branch = refl;
    no_back = no_back_from_first (blocks_of turning) 5 4 refl;
    no_fall = λ falls. no_case (blocks_of turning) refl falls.switch 5 falls.to_case;
  };
  one = λ q counted. elim (from_two (blocks_of turning) 5 4 7 refl q counted.branch) [
    | inl four ↦ four
    | inr seven ↦ absurd (counted.no_back (subst (λ z. Back (blocks_of turning) 5 z) (sym seven) back_edge))
  ];
}

enters_body : Enters (blocks_of turning) 5 8
enters_body =
    enters (blocks_of turning) 5 8 refl refl (λ back. let e = back.bare in cc (e)) (λ falls. no_case (blocks_of turning) refl falls.switch 8 falls.to_case)

staying_turning : AreStaying turning (λ l. l)
staying_turning = record {
  joined = λ l t i j.
      one_of (λ l. (t : ℕ) → joins (blocks_of turning) l t ≡ true → t ≡ l) (4 ∷ 5 ∷ 8 ∷ 7 ∷ 6 ∷ []) (
        (λ t j.
            let five = one_of (λ t. t ≡ 5) (5 ∷ []) (refl, tt) t (joined_target (blocks_of turning) 4 t j) in
            let no : joins (blocks_of turning) 4 5 ≡ true = subst (λ z. joins (blocks_of turning) 4 z ≡ true) five j in
            absurd (cc (no))),
        (
          (λ t j. absurd (cc (j))),
          (
            (λ t j.
                let seven = one_of (λ t. t ≡ 7) (7 ∷ []) (refl, tt) t (joined_target (blocks_of turning) 8 t j) in
                let no : joins (blocks_of turning) 8 7 ≡ true = subst (λ z. joins (blocks_of turning) 8 z ≡ true) seven j in
                absurd (cc (no))),
            (
              (λ t j.
                  let five = one_of (λ t. t ≡ 5) (5 ∷ []) (refl, tt) t (joined_target (blocks_of turning) 7 t j) in
                  let no : joins (blocks_of turning) 7 5 ≡ true = subst (λ z. joins (blocks_of turning) 7 z ≡ true) five j in
                  absurd (cc (no))),
              ((λ t j. absurd (cc (j))), tt),
            ),
          ),
        ),
      ) l (label_among (blocks_of turning) l i) t j;
  own = λ t none. refl;
}

body_leaves : SpellsExit turning (λ l. l) 8 (InBody 5 6 7 ∷ []) (record { target = 7; values = [] })
body_leaves = record { leaves = refl; values = tt }

next_leaves : SpellsExit turning (λ l. l) 7 (InNext 5 6 ∷ []) (record { target = 5; values = 31 ∷ [] })
next_leaves = record { leaves = refl; values = (refl, tt) }

pub loops_are_spelled : LoopsAreSpelled
unfolding row_of
loops_are_spelled = record {
  spells = record {
    staying = staying_turning;
    front = refl;
    label = refl;
    body =
        branches refl
        (comes (record { enters = enters_loop; stays_in = refl }) (refl, tt)
        (parts refl
        (parted (record { leaves = refl; values = tt })
        (enters_block (record { enters = enters_body; stays_in = refl }) refl (branches refl (leaves body_leaves))))
        (plain refl (steps refl (branches refl (leaves next_leaves))))
        (plain refl (finishes refl))));
  };
  lists = refl;
  normal = refl;
}
