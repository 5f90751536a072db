-- The blocks of a function as it is listed are those of its tree: what stands behind a label up to the next terminator is what the body there begins with.
use Rattle.std.proofs.Common.{◌≡◌, ℕ, ◌+◌, ◌<◌, inl, inr, Bool, true, false, ◌==◌, ◌||◌, not, cond, List, [], ◌∷◌, ◌++◌, map, length, Some, None, refl, sym, ap, ◌∙◌, subst, append_assoc, append-nil, arith}
use Rattle.std.specs.Prelude.{slice_index, drop, filter}
use Rattle.std.specs.List.{find, AllByRecursion}
use Rattle.std.proofs.lemmas.Bool.{eqb-true}
use Rattle.std.proofs.lemmas.Nat.{mod-mul-add}
use Rattle.spv_opcodes.specs.declared.op.TheConstants as op
use Rattle.spv_grammar.specs.Table.{row_of}
use Rattle.spv_module.specs.Code.{is_line}
use Rattle.spv_module.specs.Instruction.{Instruction, opcode}
use Rattle.spv_blocks.specs.Blocks.{Ins, Phi, Selection, Loop, Other, End, Branch, BranchIf, Switch, Return, Unreachable, Open, Block}
use Rattle.spv_blocks.specs.Cutting.{pairs, ins, ending, closes, is_label_mark, before_close, body_of, end_of, block_of, blocks_of}
use Rattle.spv_walk.specs.Contexts.{Context, InSelection, InArm, InBody, InNext}
use Rattle.spv_walk.proofs.Unique.{either_holds, both_fail}
use Rattle.spv_bodies.specs.Bodies.{Parameter, Front, ByBranch, InPlace, Body, Leaves, Finishes, Step, Enters, Splits, Selects, Switches, Loops, Arms, Last, Also, target, begins_at_branch}
use Rattle.spv_bodies.specs.Listing.{Branching, arriving, in_order, phi_pairs, pair_words, instruction, label_line, branch_line, split_line, phi_lines, front_lines, selection_line, loop_line, lines, arm_lines, first_target, lines_of_arms}
use Rattle.spv_tree.specs.Branches.{branches_in}
use Rattle.spv_tree.specs.Tree.{words_of}
use Rattle.spv_tree.specs.Sound.{is_step, is_end, is_one_of, structure, opcode_in, IsFormed, AreFormed}
use Rattle.spv_structured.specs.Structured.{finish, first_end}
use Rattle.spv_structured.specs.Spots.{Spot, others, others_of_arms, first_spot, phi_ins, inside, block_of_spot, blocks_in, bare_ins, bare_block}
use Rattle.spv_structured.specs.Laws.{ListedBlocks}
use Rattle.spv_structured.proofs.Middles.{step_is_other}

-- ---- blocks of lines of words, by their opcodes

abbrev line_by : ℕ → Bool
line_by o = o == op.LINE || o == op.NO_LINE

abbrev label_by : ℕ → Bool
label_by o = o == op.LABEL

abbrev closes_by : ℕ → Bool
closes_by o =
    (o == op.BRANCH || o == op.BRANCH_CONDITIONAL || o == op.SWITCH || o == op.RETURN || o == op.RETURN_VALUE || o == op.UNREACHABLE) || o == op.LABEL || o == op.FUNCTION_END

abbrev ins_by : ℕ → List ℕ → Ins
ins_by o ws =
    cond (o == op.PHI) (Phi 0 (slice_index ws 1) (slice_index ws 2) (pairs (drop 3 ws)))
    (cond (o == op.SELECTION_MERGE) (Selection 0 (slice_index ws 1))
    (cond (o == op.LOOP_MERGE) (Loop 0 (slice_index ws 1) (slice_index ws 2))
    (Other 0)))

abbrev ending_by : ℕ → List ℕ → End
ending_by o ws =
    cond (o == op.BRANCH) (Branch (slice_index ws 1))
    (cond (o == op.BRANCH_CONDITIONAL) (BranchIf (slice_index ws 2) (slice_index ws 3))
    (cond (o == op.SWITCH) (Switch (slice_index ws 2) (pairs (drop 3 ws)))
    (cond (o == op.RETURN || o == op.RETURN_VALUE) Return
    (cond (o == op.UNREACHABLE) Unreachable
    Open))))

-- an instruction before others of a block, before its terminator and as that
abbrev before_by : ℕ → List ℕ → List Ins → List Ins
before_by o w is = cond (closes_by o) [] (cond (line_by o) is (ins_by o w ∷ is))

abbrev before : List (List ℕ) → List Ins
before [] = []
before (w ∷ ws) = before_by (opcode_in w) w (before ws)

abbrev end_by : ℕ → List ℕ → End → End
end_by o w e = cond (closes_by o) (ending_by o w) e

abbrev end_in : List (List ℕ) → End
end_in [] = Open
end_in (w ∷ ws) = end_by (opcode_in w) w (end_in ws)

abbrev cut_block : List ℕ → List Ins → End → Block
cut_block w is e = record { label = slice_index w 1; at = 0; body = is; end_at = 0; end = e }

abbrev cut_by : ℕ → Block → List Block → List Block
cut_by o b bs = cond (label_by o) (b ∷ bs) bs

abbrev cut : List (List ℕ) → List Block
cut [] = []
cut (w ∷ ws) = cut_by (opcode_in w) (cut_block w (before ws) (end_in ws)) (cut ws)

-- ---- the blocks of instructions, with their offsets struck out, are these

bare_of_ins : (i : Instruction) → bare_ins (ins i) ≡ ins_by (opcode i) i.words
bare_of_ins i = by (opcode i == op.PHI) (opcode i == op.SELECTION_MERGE) (opcode i == op.LOOP_MERGE)
  where
    by : (a b c : Bool) → bare_ins (cond a (Phi i.offset (slice_index i.words 1) (slice_index i.words 2) (pairs (drop 3 i.words))) (cond b (Selection i.offset (slice_index i.words 1)) (cond c (Loop i.offset (slice_index i.words 1) (slice_index i.words 2)) (Other i.offset))))
        ≡ cond a (Phi 0 (slice_index i.words 1) (slice_index i.words 2) (pairs (drop 3 i.words))) (cond b (Selection 0 (slice_index i.words 1)) (cond c (Loop 0 (slice_index i.words 1) (slice_index i.words 2)) (Other 0)))
    by true b c = refl
    by false true c = refl
    by false false true = refl
    by false false false = refl

bare_before : (is : List Instruction) → map bare_ins (body_of is) ≡ before (words_of is)
bare_before [] = refl
bare_before (i ∷ is) = by (closes i) (is_line i) (bare_before is)
  where
    by : (a b : Bool) → map bare_ins (body_of is) ≡ before (words_of is)
        → map bare_ins (map ins (filter (λ i. not (is_line i)) (cond a [] (i ∷ before_close is)))) ≡ cond a [] (cond (is_line i) (before (words_of is)) (ins_by (opcode i) i.words ∷ before (words_of is)))
    by true b e = refl
    by false b e = kept (is_line i)
      where
        kept : (b : Bool) → map bare_ins (map ins (cond (not b) (i ∷ filter (λ i. not (is_line i)) (before_close is)) (filter (λ i. not (is_line i)) (before_close is))))
            ≡ cond b (before (words_of is)) (ins_by (opcode i) i.words ∷ before (words_of is))
        kept true = e
        kept false = ap (λ j. j ∷ map bare_ins (body_of is)) (bare_of_ins i) ∙ ap (λ js. ins_by (opcode i) i.words ∷ js) e

end_found : (is : List Instruction) → end_of (find closes is) ≡ end_in (words_of is)
end_found [] = refl
end_found (i ∷ is) = by (closes i) (end_found is)
  where
    by : (a : Bool) → end_of (find closes is) ≡ end_in (words_of is) → end_of (cond a (Some i) (find closes is)) ≡ cond a (ending i) (end_in (words_of is))
    by true e = refl
    by false e = e

bare_of_block : (i : Instruction) (is : List Instruction) → bare_block (block_of i is) ≡ cut_block i.words (before (words_of is)) (end_in (words_of is))
bare_of_block i is = ap (λ b. cut_block i.words b (end_of (find closes is))) (bare_before is) ∙ ap (cut_block i.words (before (words_of is))) (end_found is)

bare_blocks : (is : List Instruction) → map bare_block (blocks_of is) ≡ cut (words_of is)
bare_blocks [] = refl
bare_blocks (i ∷ is) = by (is_label_mark i) (bare_blocks is)
  where
    by : (a : Bool) → map bare_block (blocks_of is) ≡ cut (words_of is)
        → map bare_block (cond a (block_of i is ∷ blocks_of is) (blocks_of is)) ≡ cond a (cut_block i.words (before (words_of is)) (end_in (words_of is)) ∷ cut (words_of is)) (cut (words_of is))
    by true e = ap (λ b. b ∷ map bare_block (blocks_of is)) (bare_of_block i is) ∙ ap (λ bs. cut_block i.words (before (words_of is)) (end_in (words_of is)) ∷ bs) e
    by false e = e

-- ---- single lines

opcode_again : (o : ℕ) (words : List ℕ) → o < 65536 → opcode_in (instruction o words) ≡ o
opcode_again o words lt = mod-mul-add (length words + 1) 65536 o lt

pairs_again : (ps : List (ℕ × ℕ)) → pairs (pair_words ps) ≡ ps
pairs_again [] = refl
pairs_again (p ∷ ps) = ap (λ l. p ∷ l) (pairs_again ps)

-- what stands in the middle of a block
record IsMiddle (w : List ℕ) : Type 0 where
  before : (is : List Ins) → before_by (opcode_in w) w is ≡ Other 0 ∷ is
  end : (e : End) → end_by (opcode_in w) w e ≡ e
  cut : (b : Block) (bs : List Block) → cut_by (opcode_in w) b bs ≡ bs

not_one : (o : ℕ) (opcodes : List ℕ) → is_one_of opcodes o ≡ false → (p : ℕ) → is_one_of opcodes p ≡ true → (o == p) ≡ false
not_one o opcodes h p g = by (o == p) refl
  where
    by : (b : Bool) → (o == p) ≡ b → b ≡ false
    by true e = absurd (cc (g, h, ap (is_one_of opcodes) (eqb-true o p e)))
    by false e = refl

step_is_no_line : (o : ℕ) → is_step o ≡ true → line_by o ≡ false
unfolding row_of
step_is_no_line o h = both_fail (o == op.LINE) (o == op.NO_LINE) (by (o == op.LINE) refl) (by2 (o == op.NO_LINE) refl)
  where
    by : (b : Bool) → (o == op.LINE) ≡ b → b ≡ false
    by true e = sym h ∙ ap is_step (eqb-true o op.LINE e)
    by false e = refl

    by2 : (b : Bool) → (o == op.NO_LINE) ≡ b → b ≡ false
    by2 true e = sym h ∙ ap is_step (eqb-true o op.NO_LINE e)
    by2 false e = refl

step_is_middle : (w : List ℕ) → is_step (opcode_in w) ≡ true → IsMiddle w
step_is_middle w h =
    let o = opcode_in w in
    let other = step_is_other o h in
    let no = λ (p : ℕ) (g : is_one_of structure p ≡ true). not_one o structure other p g in
    let closes_no : closes_by o ≡ false =
    rw (no op.BRANCH refl, no op.BRANCH_CONDITIONAL refl, no op.SWITCH refl, no op.RETURN refl, no op.RETURN_VALUE refl, no op.UNREACHABLE refl, no op.LABEL refl, no op.FUNCTION_END refl) refl in
    let ins_no : ins_by o w ≡ Other 0 = rw (no op.PHI refl, no op.SELECTION_MERGE refl, no op.LOOP_MERGE refl) refl in
    record {
      before = λ is.
          ap (λ b. cond b [] (cond (line_by o) is (ins_by o w ∷ is))) closes_no ∙ ap (λ b. cond b is (ins_by o w ∷ is)) (step_is_no_line o h) ∙ ap (λ i. i ∷ is) ins_no;
      end = λ e. ap (λ b. cond b (ending_by o w) e) closes_no;
      cut = λ b bs. ap (λ x. cond x (b ∷ bs) bs) (no op.LABEL refl);
    }

-- what ends a block
record IsLast (w : List ℕ) (last : End) : Type 0 where
  before : (is : List Ins) → before_by (opcode_in w) w is ≡ []
  end : (e : End) → end_by (opcode_in w) w e ≡ last
  cut : (b : Block) (bs : List Block) → cut_by (opcode_in w) b bs ≡ bs

last_by : (w : List ℕ) (o : ℕ) (last : End) → opcode_in w ≡ o → closes_by o ≡ true → label_by o ≡ false → ending_by o w ≡ last → IsLast w last
last_by w o last same ends other is = record {
  before = λ before. ap (λ p. before_by p w before) same ∙ ap (λ b. cond b [] (cond (line_by o) before (ins_by o w ∷ before))) ends;
  end = λ e. ap (λ p. end_by p w e) same ∙ ap (λ b. cond b (ending_by o w) e) ends ∙ is;
  cut = λ b bs. ap (λ p. cut_by p b bs) same ∙ ap (λ x. cond x (b ∷ bs) bs) other;
}

finish_is_last : (w : List ℕ) → is_end (opcode_in w) ≡ true → IsLast w (finish w)
finish_is_last w h =
    let o = opcode_in w in
    elim (either_holds (o == op.RETURN) ((o == op.RETURN_VALUE) || ((o == op.UNREACHABLE) || false)) h) [
      | inl e ↦
          let same = eqb-true o op.RETURN e in
          last_by w op.RETURN (finish w) same refl refl (sym (ap (λ p. cond (p == op.UNREACHABLE) Unreachable Return) same))
      | inr g ↦ elim (either_holds (o == op.RETURN_VALUE) ((o == op.UNREACHABLE) || false) g) [
        | inl e ↦
            let same = eqb-true o op.RETURN_VALUE e in
            last_by w op.RETURN_VALUE (finish w) same refl refl (sym (ap (λ p. cond (p == op.UNREACHABLE) Unreachable Return) same))
        | inr k ↦ elim (either_holds (o == op.UNREACHABLE) false k) [
          | inl e ↦
              let same = eqb-true o op.UNREACHABLE e in
              last_by w op.UNREACHABLE (finish w) same refl refl (sym (ap (λ p. cond (p == op.UNREACHABLE) Unreachable Return) same))
          | inr f ↦ absurd (cc f)
        ]
      ]
    ]

branch_is_last : (label : ℕ) → IsLast (branch_line label) (Branch label)
branch_is_last label = last_by (branch_line label) op.BRANCH (Branch label) refl refl refl refl

split_is_last : (condition : ℕ) (on : Bool) (exit other : ℕ) → IsLast (split_line condition on exit other) (BranchIf (cond on exit other) (cond on other exit))
split_is_last condition true exit other = last_by (split_line condition true exit other) op.BRANCH_CONDITIONAL (BranchIf exit other) refl refl refl refl
split_is_last condition false exit other = last_by (split_line condition false exit other) op.BRANCH_CONDITIONAL (BranchIf other exit) refl refl refl refl

switch_is_last : (selector default : ℕ) (cases : List (ℕ × ℕ)) → IsLast (instruction op.SWITCH (selector ∷ default ∷ pair_words cases)) (Switch default cases)
switch_is_last selector default cases =
    let words = selector ∷ default ∷ pair_words cases in
    last_by (instruction op.SWITCH words) op.SWITCH (Switch default cases) (opcode_again op.SWITCH words (omega arith)) refl refl (ap (Switch default) (pairs_again cases))

-- ---- lines one after another

-- what a block begins with and ends with, whatever follows
record Starts (ls : List (List ℕ)) (is : List Ins) (e : End) : Type 0 where
  before : (z : List (List ℕ)) → before (ls ++ z) ≡ is
  end : (z : List (List ℕ)) → end_in (ls ++ z) ≡ e

starts_more : (a b : List (List ℕ)) (is : List Ins) (e : End) → Starts a is e → Starts (a ++ b) is e
starts_more a b is e h = record {
  before = λ z. ap before (append_assoc a b z) ∙ h.before (b ++ z);
  end = λ z. ap end_in (append_assoc a b z) ∙ h.end (b ++ z);
}

starts_last : (w : List ℕ) (ls : List (List ℕ)) (e : End) → IsLast w e → Starts (w ∷ ls) [] e
starts_last w ls e h = record { before = λ z. h.before (before (ls ++ z)); end = λ z. h.end (end_in (ls ++ z)) }

starts_middle : (w : List ℕ) (ls : List (List ℕ)) (is : List Ins) (e : End) → IsMiddle w → Starts ls is e → Starts (w ∷ ls) (Other 0 ∷ is) e
starts_middle w ls is e m h = record {
  before = λ z. m.before (before (ls ++ z)) ∙ ap (λ js. Other 0 ∷ js) (h.before z);
  end = λ z. m.end (end_in (ls ++ z)) ∙ h.end z;
}

starts_selection : (merge control : ℕ) (ls : List (List ℕ)) (e : End) → Starts ls [] e → Starts (selection_line merge control ∷ ls) (Selection 0 merge ∷ []) e
starts_selection merge control ls e h = record { before = λ z. ap (λ js. Selection 0 merge ∷ js) (h.before z); end = λ z. h.end z }

-- the merge instruction before a terminator
record IsOpened (opened : List (List ℕ)) (is : List Ins) : Type 0 where
  before : (z : List (List ℕ)) → before (opened ++ z) ≡ is ++ before z
  end : (z : List (List ℕ)) → end_in (opened ++ z) ≡ end_in z
  cut : (z : List (List ℕ)) → cut (opened ++ z) ≡ cut z

none_opened : IsOpened [] []
none_opened = record { before = λ z. refl; end = λ z. refl; cut = λ z. refl }

loop_opened : (merge next control : ℕ) → IsOpened (loop_line merge next control ∷ []) (Loop 0 merge next ∷ [])
loop_opened merge next control = record { before = λ z. refl; end = λ z. refl; cut = λ z. refl }

starts_opened : (opened ls : List (List ℕ)) (is js : List Ins) (e : End) → IsOpened opened is → Starts ls js e → Starts (opened ++ ls) (is ++ js) e
starts_opened opened ls is js e o h = record {
  before = λ z. ap before (append_assoc opened ls z) ∙ o.before (ls ++ z) ∙ ap (λ ks. is ++ ks) (h.before z);
  end = λ z. ap end_in (append_assoc opened ls z) ∙ o.end (ls ++ z) ∙ h.end z;
}

-- and nothing more before it
starts_at : (opened ls : List (List ℕ)) (is : List Ins) (e : End) → IsOpened opened is → Starts ls [] e → Starts (opened ++ ls) is e
starts_at opened ls is e o h = subst (λ ks. Starts (opened ++ ls) ks e) (append-nil is) (starts_opened opened ls is [] e o h)

module _ (all : List Branching) where
  body_starts : (body : Body) (opened : List (List ℕ)) (is : List Ins) → IsOpened opened is → IsFormed all body → Starts (lines all opened body) (inside is body) (first_end body)
  body_starts (Leaves exit) opened is o formed = starts_at opened (branch_line exit.target ∷ []) is (Branch exit.target) o (starts_last (branch_line exit.target) [] (Branch exit.target) (branch_is_last exit.target))
  body_starts (Finishes words) opened is o formed = starts_at opened (words ∷ []) is (finish words) o (starts_last words [] (finish words) (finish_is_last words formed))
  body_starts (Step words body) opened is o formed =
      starts_middle words (lines all opened body) (inside is body) (first_end body) (step_is_middle words formed.0) (body_starts body opened is o formed.1)
  body_starts (Enters label body) opened is o formed =
      let others = label_line label ∷ lines all [] body in
      starts_at opened (branch_line label ∷ others) is (Branch label) o (starts_last (branch_line label) others (Branch label) (branch_is_last label))
  body_starts (Splits condition on exit body) opened is o formed =
      let line = split_line condition on exit.target (target body) in
      let e = BranchIf (cond on exit.target (target body)) (cond on (target body) exit.target) in
      starts_at opened (line ∷ arm_lines all body) is e o (starts_last line (arm_lines all body) e (split_is_last condition on exit.target (target body)))
  body_starts (Selects control condition first second merge rest) opened is o formed =
      let line = split_line condition true (target first) (target second) in
      let e = BranchIf (target first) (target second) in
      let others = arm_lines all first ++ (arm_lines all second ++ (front_lines all merge ++ lines all [] rest)) in
      starts_opened opened (selection_line merge.label control ∷ line ∷ others) is (Selection 0 merge.label ∷ []) e o
      (starts_selection merge.label control (line ∷ others) e (starts_last line others e (split_is_last condition true (target first) (target second))))
  body_starts (Switches control selector cases arms merge rest) opened is o formed =
      let line = instruction op.SWITCH (selector ∷ first_target arms ∷ pair_words cases) in
      let e = Switch (first_target arms) cases in
      let others = lines_of_arms all arms ++ (front_lines all merge ++ lines all [] rest) in
      starts_opened opened (selection_line merge.label control ∷ line ∷ others) is (Selection 0 merge.label ∷ []) e o
      (starts_selection merge.label control (line ∷ others) e (starts_last line others e (switch_is_last selector (first_target arms) cases)))
  body_starts (Loops (ByBranch values) header control inner next continuing merge rest) opened is o formed =
      let e = Branch header.label in
      starts_more (opened ++ branch_line header.label ∷ front_lines all header)
      (lines all (loop_line merge.label next.label control ∷ []) inner ++ (front_lines all next ++ (lines all [] continuing ++ (front_lines all merge ++ lines all [] rest)))) is e
      (starts_at opened (branch_line header.label ∷ front_lines all header) is e o (starts_last (branch_line header.label) (front_lines all header) e (branch_is_last header.label)))
  body_starts (Loops InPlace header control inner next continuing merge rest) opened is o formed =
      starts_more (lines all (loop_line merge.label next.label control ∷ []) inner) (front_lines all next ++ (lines all [] continuing ++ (front_lines all merge ++ lines all [] rest)))
      (inside (Loop 0 merge.label next.label ∷ []) inner) (first_end inner)
      (body_starts inner (loop_line merge.label next.label control ∷ []) (Loop 0 merge.label next.label ∷ []) (loop_opened merge.label next.label control) formed.4)

  -- lines that spell the blocks of these spots
  abbrev Cuts : List (List ℕ) → List Spot → Type 0
  Cuts ls spots = (z : List (List ℕ)) → cut (ls ++ z) ≡ map (block_of_spot all) spots ++ cut z

  map_append : (xs ys : List Spot) (bs : List Block) → map (block_of_spot all) xs ++ (map (block_of_spot all) ys ++ bs) ≡ map (block_of_spot all) (xs ++ ys) ++ bs
  map_append [] ys bs = refl
  map_append (x ∷ xs) ys bs = ap (λ cs. block_of_spot all x ∷ cs) (map_append xs ys bs)

  cuts_append : (a b : List (List ℕ)) (xs ys : List Spot) → Cuts a xs → Cuts b ys → Cuts (a ++ b) (xs ++ ys)
  cuts_append a b xs ys h g z =
      ap cut (append_assoc a b z) ∙ h (b ++ z) ∙ ap (λ bs. map (block_of_spot all) xs ++ bs) (g z) ∙ map_append xs ys (cut z)

  cuts_opened : (opened ls : List (List ℕ)) (is : List Ins) (xs : List Spot) → IsOpened opened is → Cuts ls xs → Cuts (opened ++ ls) xs
  cuts_opened opened ls is xs o h z = ap cut (append_assoc opened ls z) ∙ o.cut (ls ++ z) ∙ h z

  cuts_last : (w : List ℕ) (ls : List (List ℕ)) (e : End) (xs : List Spot) → IsLast w e → Cuts ls xs → Cuts (w ∷ ls) xs
  cuts_last w ls e xs l h z = l.cut (cut_block w (before (ls ++ z)) (end_in (ls ++ z))) (cut (ls ++ z)) ∙ h z

  none_cut : Cuts [] []
  none_cut z = refl

  cuts_label : (s : Spot) (ls : List (List ℕ)) (is : List Ins) (e : End) (xs : List Spot) → block_of_spot all s ≡ record { label = s.label; at = 0; body = is; end_at = 0; end = e } → Starts ls is e → Cuts ls xs
      → Cuts (label_line s.label ∷ ls) (s ∷ xs)
  cuts_label s ls is e xs same h g z =
      ap (λ b. b ∷ cut (ls ++ z))
      (ap (λ js. cut_block (label_line s.label) js (end_in (ls ++ z))) (h.before z) ∙ ap (cut_block (label_line s.label) is) (h.end z) ∙ sym same)
      ∙ ap (λ bs. block_of_spot all s ∷ bs) (g z)

  phis_start : (k : ℕ) (here : List Branching) (ps : List Parameter) (ls : List (List ℕ)) (is : List Ins) (e : End) → Starts ls is e → Starts (phi_lines k here ps ++ ls) (phi_ins k here ps ++ is) e
  phis_start k here [] ls is e h = h
  phis_start k here (p ∷ ps) ls is e h =
      let later = phis_start (k + 1) here ps ls is e h in
      let words = p.type ∷ p.result_id ∷ pair_words (phi_pairs k (in_order p.parents here)) in
      let w = instruction op.PHI words in
      let same = opcode_again op.PHI words (omega arith) in
      record {
        before = λ z.
            ap (λ o. before_by o w (before ((phi_lines (k + 1) here ps ++ ls) ++ z))) same
            ∙ ap (λ qs. Phi 0 p.type p.result_id qs ∷ before ((phi_lines (k + 1) here ps ++ ls) ++ z)) (pairs_again (phi_pairs k (in_order p.parents here)))
            ∙ ap (λ js. Phi 0 p.type p.result_id (phi_pairs k (in_order p.parents here)) ∷ js) (later.before z);
        end = λ z. ap (λ o. end_by o w (end_in ((phi_lines (k + 1) here ps ++ ls) ++ z))) same ∙ later.end z;
      }

  phis_cut : (k : ℕ) (here : List Branching) (ps : List Parameter) (ls : List (List ℕ)) (xs : List Spot) → Cuts ls xs → Cuts (phi_lines k here ps ++ ls) xs
  phis_cut k here [] ls xs h = h
  phis_cut k here (p ∷ ps) ls xs h = λ z.
      let words = p.type ∷ p.result_id ∷ pair_words (phi_pairs k (in_order p.parents here)) in
      let w = instruction op.PHI words in
      let more = (phi_lines (k + 1) here ps ++ ls) ++ z in
      ap (λ o. cut_by o (cut_block w (before more) (end_in more)) (cut more)) (opcode_again op.PHI words (omega arith))
      ∙ phis_cut (k + 1) here ps ls xs h z

  -- a block with parameters
  cuts_front : (c : Context) (from : ℕ) (front : Front) (body : Body) (ls : List (List ℕ)) (xs : List Spot) → Starts ls (inside [] body) (first_end body) → Cuts ls xs
      → Cuts (front_lines all front ++ ls) (record { context = c; from = from; label = front.label; front = Some front; body = body } ∷ xs)
  cuts_front c from front body ls xs h g =
      let here = arriving front.label all in
      cuts_label (record { context = c; from = from; label = front.label; front = Some front; body = body }) (phi_lines 0 here front.parameters ++ ls)
      (phi_ins 0 here front.parameters ++ inside [] body) (first_end body) xs refl
      (phis_start 0 here front.parameters ls (inside [] body) (first_end body) h) (phis_cut 0 here front.parameters ls xs g)

  part_cut : (c : Context) (from : ℕ) (front : Front) (rest : Body) → IsFormed all rest → Cuts (lines all [] rest) (others c front.label rest)
      → Cuts (front_lines all front ++ lines all [] rest) (record { context = c; from = from; label = front.label; front = Some front; body = rest } ∷ others c front.label rest)
  part_cut c from front rest formed h = cuts_front c from front rest (lines all [] rest) (others c front.label rest) (body_starts rest [] [] none_opened formed) h

  loop_cut : (header : Front) (control : ℕ) (inner : Body) (next : Front) (continuing : Body) (merge : Front) (rest : Body) (c : Context) → IsFormed all (Loops InPlace header control inner next continuing merge rest)
      → Cuts (lines all (loop_line merge.label next.label control ∷ []) inner) (others (InBody header.label merge.label next.label ∷ c) header.label inner)
      → Cuts (lines all [] continuing) (others (InNext header.label merge.label ∷ c) next.label continuing) → Cuts (lines all [] rest) (others c merge.label rest)
      → Cuts (lines all (loop_line merge.label next.label control ∷ []) inner ++ (front_lines all next ++ (lines all [] continuing ++ (front_lines all merge ++ lines all [] rest))))
      (others c header.label (Loops InPlace header control inner next continuing merge rest))
  loop_cut header control inner next continuing merge rest c formed one two three =
      let opening = loop_line merge.label next.label control ∷ [] in
      let in_next = InNext header.label merge.label ∷ c in
      let last : List Spot = record { context = c; from = header.label; label = merge.label; front = Some merge; body = rest } ∷ others c merge.label rest in
      let middle = others in_next next.label continuing ++ last in
      let behind = front_lines all merge ++ lines all [] rest in
      cuts_append (lines all opening inner) (front_lines all next ++ (lines all [] continuing ++ behind)) (others (InBody header.label merge.label next.label ∷ c) header.label inner)
      (record { context = in_next; from = header.label; label = next.label; front = Some next; body = continuing } ∷ middle) one
      (cuts_front in_next header.label next continuing (lines all [] continuing ++ behind) middle
      (starts_more (lines all [] continuing) behind (inside [] continuing) (first_end continuing) (body_starts continuing [] [] none_opened formed.5))
      (cuts_append (lines all [] continuing) behind (others in_next next.label continuing) last two (part_cut c header.label merge rest formed.6 three)))

  mutual
    body_cut : (body : Body) (opened : List (List ℕ)) (is : List Ins) (c : Context) (l : ℕ) → IsOpened opened is → IsFormed all body → Cuts (lines all opened body) (others c l body)
    body_cut (Leaves exit) opened is c l o formed =
        cuts_opened opened (branch_line exit.target ∷ []) is [] o (cuts_last (branch_line exit.target) [] (Branch exit.target) [] (branch_is_last exit.target) none_cut)
    body_cut (Finishes words) opened is c l o formed = cuts_opened opened (words ∷ []) is [] o (cuts_last words [] (finish words) [] (finish_is_last words formed) none_cut)
    body_cut (Step words body) opened is c l o formed = λ z.
        (step_is_middle words formed.0).cut (cut_block words (before (lines all opened body ++ z)) (end_in (lines all opened body ++ z))) (cut (lines all opened body ++ z))
        ∙ body_cut body opened is c l o formed.1 z
    body_cut (Enters label body) opened is c l o formed =
        let s : Spot = record { context = c; from = l; label = label; front = None; body = body } in
        let spots = others c label body in
        cuts_opened opened (branch_line label ∷ label_line label ∷ lines all [] body) is (s ∷ spots) o
        (cuts_last (branch_line label) (label_line label ∷ lines all [] body) (Branch label) (s ∷ spots) (branch_is_last label)
        (cuts_label s (lines all [] body) (inside [] body) (first_end body) spots refl (body_starts body [] [] none_opened formed) (body_cut body [] [] c label none_opened formed)))
    body_cut (Splits condition on exit body) opened is c l o formed =
        let line = split_line condition on exit.target (target body) in
        let e = BranchIf (cond on exit.target (target body)) (cond on (target body) exit.target) in
        cuts_opened opened (line ∷ arm_lines all body) is (others c l body) o
        (cuts_last line (arm_lines all body) e (others c l body) (split_is_last condition on exit.target (target body)) (arm_cut body c l formed.0 formed.1))
    body_cut (Selects control condition first second merge rest) opened is c l o formed =
        let line = split_line condition true (target first) (target second) in
        let e = BranchIf (target first) (target second) in
        let inner = InSelection merge.label ∷ c in
        let last : List Spot = record { context = c; from = l; label = merge.label; front = Some merge; body = rest } ∷ others c merge.label rest in
        let spots = others inner l first ++ (others inner l second ++ last) in
        let behind = arm_lines all first ++ (arm_lines all second ++ (front_lines all merge ++ lines all [] rest)) in
        cuts_opened opened (selection_line merge.label control ∷ line ∷ behind) is spots o
        (cuts_last line behind e spots (split_is_last condition true (target first) (target second))
        (cuts_append (arm_lines all first) (arm_lines all second ++ (front_lines all merge ++ lines all [] rest)) (others inner l first) (others inner l second ++ last) (arm_cut first inner l formed.0 formed.3)
        (cuts_append (arm_lines all second) (front_lines all merge ++ lines all [] rest) (others inner l second) last (arm_cut second inner l formed.1 formed.4)
        (part_cut c l merge rest formed.5 (body_cut rest [] [] c merge.label none_opened formed.5)))))
    body_cut (Switches control selector cases arms merge rest) opened is c l o formed =
        let line = instruction op.SWITCH (selector ∷ first_target arms ∷ pair_words cases) in
        let e = Switch (first_target arms) cases in
        let last : List Spot = record { context = c; from = l; label = merge.label; front = Some merge; body = rest } ∷ others c merge.label rest in
        let spots = others_of_arms c l merge.label arms ++ last in
        let behind = lines_of_arms all arms ++ (front_lines all merge ++ lines all [] rest) in
        cuts_opened opened (selection_line merge.label control ∷ line ∷ behind) is spots o
        (cuts_last line behind e spots (switch_is_last selector (first_target arms) cases)
        (cuts_append (lines_of_arms all arms) (front_lines all merge ++ lines all [] rest) (others_of_arms c l merge.label arms) last (arms_cut arms c l merge.label formed.2)
        (part_cut c l merge rest formed.3 (body_cut rest [] [] c merge.label none_opened formed.3))))
    body_cut (Loops (ByBranch values) header control inner next continuing merge rest) opened is c l o formed =
        let loop = Loops InPlace header control inner next continuing merge rest in
        let opening = loop_line merge.label next.label control ∷ [] in
        let behind = front_lines all next ++ (lines all [] continuing ++ (front_lines all merge ++ lines all [] rest)) in
        let spots = others c l loop in
        let s : Spot = record { context = c; from = l; label = header.label; front = Some header; body = loop } in
        let whole = lines all opening inner ++ behind in
        let h : Cuts (front_lines all header ++ whole) (s ∷ spots) =
        cuts_front c l header loop whole spots (body_starts loop [] [] none_opened formed)
        (loop_cut header control inner next continuing merge rest c formed (body_cut inner opening (Loop 0 merge.label next.label ∷ []) (InBody header.label merge.label next.label ∷ c) header.label (loop_opened merge.label next.label control) formed.4)
        (body_cut continuing [] [] (InNext header.label merge.label ∷ c) next.label none_opened formed.5) (body_cut rest [] [] c merge.label none_opened formed.6)) in
        λ z.
        ap cut (ap (λ ls. ls ++ z) (append_assoc opened (branch_line header.label ∷ front_lines all header) whole))
        ∙ cuts_opened opened (branch_line header.label ∷ (front_lines all header ++ whole)) is (s ∷ spots) o
        (cuts_last (branch_line header.label) (front_lines all header ++ whole) (Branch header.label) (s ∷ spots) (branch_is_last header.label) h) z
    body_cut (Loops InPlace header control inner next continuing merge rest) opened is c l o formed =
        loop_cut header control inner next continuing merge rest c formed
        (body_cut inner (loop_line merge.label next.label control ∷ []) (Loop 0 merge.label next.label ∷ []) (InBody header.label merge.label next.label ∷ c) header.label (loop_opened merge.label next.label control) formed.4)
        (body_cut continuing [] [] (InNext header.label merge.label ∷ c) next.label none_opened formed.5) (body_cut rest [] [] c merge.label none_opened formed.6)

    arm_cut : (arm : Body) (c : Context) (l : ℕ) → begins_at_branch arm ≡ true → IsFormed all arm → Cuts (arm_lines all arm) (others c l arm)
    arm_cut (Leaves exit) c l begins formed = none_cut
    arm_cut (Enters label body) c l begins formed =
        cuts_label (record { context = c; from = l; label = label; front = None; body = body }) (lines all [] body) (inside [] body) (first_end body) (others c label body) refl
        (body_starts body [] [] none_opened formed) (body_cut body [] [] c label none_opened formed)
    arm_cut (Loops (ByBranch values) header control inner next continuing merge rest) c l begins formed =
        let loop = Loops InPlace header control inner next continuing merge rest in
        let opening = loop_line merge.label next.label control ∷ [] in
        cuts_front c l header loop (lines all opening inner ++ (front_lines all next ++ (lines all [] continuing ++ (front_lines all merge ++ lines all [] rest)))) (others c l loop)
        (body_starts loop [] [] none_opened formed)
        (loop_cut header control inner next continuing merge rest c formed (body_cut inner opening (Loop 0 merge.label next.label ∷ []) (InBody header.label merge.label next.label ∷ c) header.label (loop_opened merge.label next.label control) formed.4)
        (body_cut continuing [] [] (InNext header.label merge.label ∷ c) next.label none_opened formed.5) (body_cut rest [] [] c merge.label none_opened formed.6))
    arm_cut other c l begins formed = absurd (cc begins)

    arms_cut : (arms : Arms) (c : Context) (l merge : ℕ) → AreFormed all arms → Cuts (lines_of_arms all arms) (others_of_arms c l merge arms)
    arms_cut (Last arm) c l merge formed = arm_cut arm (InArm l merge (target arm) ∷ c) l formed.0 formed.1
    arms_cut (Also arm arms) c l merge formed =
        cuts_append (arm_lines all arm) (lines_of_arms all arms) (others (InArm l merge (target arm) ∷ c) l arm) (others_of_arms c l merge arms)
        (arm_cut arm (InArm l merge (target arm) ∷ c) l formed.0 formed.1) (arms_cut arms c l merge formed.2)

-- ---- functions

cut_other : (w : List ℕ) (ws : List (List ℕ)) (o : ℕ) → opcode_in w ≡ o → label_by o ≡ false → cut (w ∷ ws) ≡ cut ws
cut_other w ws o same other =
    ap (λ p. cut_by p (cut_block w (before ws) (end_in ws)) (cut ws)) same
    ∙ ap (λ b. cond b (cut_block w (before ws) (end_in ws) ∷ cut ws) (cut ws)) other

cut_parameters : (ps ws : List (List ℕ)) → AllByRecursion (λ words. opcode_in words ≡ op.FUNCTION_PARAMETER) ps → cut (ps ++ ws) ≡ cut ws
cut_parameters [] ws h = refl
cut_parameters (p ∷ ps) ws h = cut_other p (ps ++ ws) op.FUNCTION_PARAMETER h.0 refl ∙ cut_parameters ps ws h.1

pub listed_blocks : ListedBlocks
listed_blocks f insts sound opened same =
    let all = branches_in f in
    let last = instruction op.FUNCTION_END [] ∷ [] in
    let behind = label_line f.label ∷ (lines all [] f.body ++ last) in
    bare_blocks insts ∙ ap cut same ∙ cut_other f.function (f.parameters ++ behind) op.FUNCTION opened.function refl ∙ cut_parameters f.parameters behind opened.parameters
    ∙ cuts_label all (first_spot f) (lines all [] f.body) (inside [] f.body) (first_end f.body) (others [] f.label f.body) refl
    (body_starts all f.body [] [] none_opened sound.formed) (body_cut all f.body [] [] [] f.label none_opened sound.formed) last
    ∙ append-nil (blocks_in f)
