-- The labels of a tree's listing are those of the tree in its order: each stands once, and is a label of the function that spells the tree.
use Rattle.std.proofs.Common.{◌≡◌, inl, inr, ℕ, ◌+◌, ◌≤◌, Bool, true, false, cond, ◌==◌, List, [], ◌∷◌, ◌++◌, map, refl, sym, ap, ◌∙◌, subst, arith, append_assoc, append-nil}
use Rattle.std.specs.List.{AllByRecursion, flat_map, list_any}
use Rattle.std.proofs.lemmas.Bool.Decides.{nat_tests}
use Rattle.spv_opcodes.specs.declared.op.TheConstants as op
use Rattle.spv_grammar.specs.Table.{row_of}
use Rattle.spv_module.specs.Instruction.{Instruction, opcode}
use Rattle.spv_meaning.specs.Statements as says
use Rattle.spv_meaning.specs.Statements.{Statement, said, statements_in, words_of}
use Rattle.spv_blocks.specs.Blocks.{has, is_label, times}
use Rattle.spv_blocks.specs.Cutting.{block_of, blocks_of, is_label_mark, word}
use Rattle.spv_walk.proofs.Unique.{equal_true}
use Rattle.spv_bodies.specs.Bodies.{Front, Parameter, ByBranch, InPlace, Body, Leaves, Finishes, Step, Enters, Splits, Selects, Switches, Loops, Arms, Last, Also, Function, begins_at_branch}
use Rattle.spv_bodies.specs.Listing.{Branching, arriving, branches, instruction, listed}
use Rattle.spv_tree.specs.Branches.{branches_in}
use Rattle.spv_tree.specs.Sound.{AreFormed, IsFormed, is_end, is_step, opcode_in}
use Rattle.spv_normal.specs.Lines.{without_marks}
use Rattle.spv_spelling.specs.Clean.{no_pointers}
use Rattle.spv_spelling.proofs.Paths.{below_walked}
use Rattle.spv_normal_trees.proofs.Arranging.{walked_label}
use Rattle.spv_normal_trees.proofs.FrontPhis.{labels_among}
use Rattle.spv_normal_trees.proofs.Members as members
use Rattle.spv_normal_trees.proofs.Members.{has_cons, has_not}
use Rattle.spv_sound_trees.proofs.Apart.{rest_piece}
use Rattle.spv_sound_trees.proofs.Marks.{marks, marks_of_arms, distinct_times, no_times, some_times}
use Rattle.spv_sound_trees.proofs.Nodes.{all_lines}
use Rattle.spv_sound_trees.proofs.Sound.{first_walk, spelled_is_sound}
use Rattle.spv_structured.proofs.Counting.{times_append}
use Rattle.spv_trees.specs.Sound.{Distinct, labels_in}
use Rattle.spv_trees.specs.Standing.{is_parameter}
use Rattle.spv_trees.proofs.Spelling.{function_says, say, say_arm, say_arms, say_front, say_phis, statements_append}
use Rattle.spv_standing.proofs.Lines.{label_said, marks_say_nothing, says_append}
use Rattle.spv_standing.proofs.Spelled.{takes_parameters}
use Rattle.spv_norm_means.specs.Laws.{AreRead, ReadsAs}
use Rattle.spv_norm_means.proofs.Cut.{id_of, opening}
use Rattle.spv_norm_means.proofs.Saying.{label_not_said}

-- ---- labels of statements

pub labels_append : (a b : List Statement) → labels_in (a ++ b) ≡ labels_in a ++ labels_in b
labels_append [] b = refl
labels_append (says.Label r ∷ a) b = ap (λ z. r ∷ z) (labels_append a b)
labels_append (other ∷ a) b = labels_append a b

past : (a b : List Statement) → labels_in a ≡ [] → labels_in (a ++ b) ≡ labels_in b
past a b h = labels_append a b ∙ ap (λ z. z ++ labels_in b) h

step_no_label : (o : ℕ) → is_step o ≡ true → (o == op.LABEL) ≡ false
unfolding row_of
step_no_label o h = by (o == op.LABEL) refl where
  by : (b : Bool) → (o == op.LABEL) ≡ b → b ≡ false
  by true e =
      let none : is_step op.LABEL ≡ false = refl in
      absurd (cc (none, ap is_step (equal_true o op.LABEL e), h))
  by false e = refl

end_no_label : (o : ℕ) → is_end o ≡ true → (o == op.LABEL) ≡ false
end_no_label o h = by (o == op.LABEL) refl where
  by : (b : Bool) → (o == op.LABEL) ≡ b → b ≡ false
  by true e =
      let none : is_end op.LABEL ≡ false = refl in
      absurd (cc (none, ap is_end (equal_true o op.LABEL e), h))
  by false e = refl

-- ---- labels of a tree, as it says them

module _ (bs : List Branching) where
  phis_labels : (k : ℕ) (here : List Branching) (ps : List Parameter) (rest : List Statement) → labels_in (say_phis k here ps rest) ≡ labels_in rest
  phis_labels k here [] rest = refl
  phis_labels k here (p ∷ ps) rest = phis_labels (k + 1) here ps rest

  front_labels : (front : Front) (rest : List Statement) → labels_in (say_front bs front rest) ≡ front.label ∷ labels_in rest
  front_labels front rest = ap (λ z. front.label ∷ z) (phis_labels 0 (arriving front.label bs) front.parameters rest)

  abbrev SaysMarks : (merges : List Statement) → Body → Type 0
  SaysMarks merges body = (rest : List Statement) → labels_in (say bs merges body rest) ≡ marks body ++ labels_in rest

  -- the parts of a loop
  loop_labels : (inner continuing body : Body) (next merge : Front) → SaysMarks (says.Merge ∷ []) inner → SaysMarks [] continuing → SaysMarks [] body
      → (rest : List Statement)
      → labels_in (say bs (says.Merge ∷ []) inner (say_front bs next (say bs [] continuing (say_front bs merge (say bs [] body rest)))))
      ≡ (marks inner ++ (next.label ∷ marks continuing ++ merge.label ∷ marks body)) ++ labels_in rest
  loop_labels inner continuing body next merge hi hc hb rest =
      hi (say_front bs next (say bs [] continuing (say_front bs merge (say bs [] body rest))))
      ∙ ap (λ z. marks inner ++ z)
      (front_labels next (say bs [] continuing (say_front bs merge (say bs [] body rest)))
      ∙ ap (λ z. next.label ∷ z)
      (hc (say_front bs merge (say bs [] body rest))
      ∙ ap (λ z. marks continuing ++ z) (front_labels merge (say bs [] body rest) ∙ ap (λ z. merge.label ∷ z) (hb rest))
      ∙ sym (append_assoc (marks continuing) (merge.label ∷ marks body) (labels_in rest))))
      ∙ sym (append_assoc (marks inner) (next.label ∷ marks continuing ++ merge.label ∷ marks body) (labels_in rest))

  module _ (all : List Branching) where
    mutual
      said_labels : (body : Body) → IsFormed all body → (merges : List Statement) → labels_in merges ≡ [] → SaysMarks merges body
      said_labels (Leaves exit) h merges e rest = past merges (says.Branch exit.target ∷ rest) e
      said_labels (Finishes words) h merges e rest =
          past merges (said words rest) e ∙ label_not_said words (opcode_in words) rest (end_no_label (opcode_in words) h)
      said_labels (Step words body) h merges e rest =
          label_not_said words (opcode_in words) (say bs merges body rest) (step_no_label (opcode_in words) h.0) ∙ said_labels body h.1 merges e rest
      said_labels (Enters label body) h merges e rest =
          past merges (says.Branch label ∷ says.Label label ∷ say bs [] body rest) e ∙ ap (λ z. label ∷ z) (said_labels body h [] refl rest)
      said_labels (Splits condition on exit body) h merges e rest = past merges _ e ∙ arm_labels body h.0 h.1 rest
      said_labels (Selects control condition first second merge body) h merges e rest =
          past merges _ e
          ∙ arm_labels first h.0 h.3 (say_arm bs second (say_front bs merge (say bs [] body rest)))
          ∙ ap (λ z. marks first ++ z)
          (arm_labels second h.1 h.4 (say_front bs merge (say bs [] body rest))
          ∙ ap (λ z. marks second ++ z) (front_labels merge (say bs [] body rest) ∙ ap (λ z. merge.label ∷ z) (said_labels body h.5 [] refl rest))
          ∙ sym (append_assoc (marks second) (merge.label ∷ marks body) (labels_in rest)))
          ∙ sym (append_assoc (marks first) (marks second ++ merge.label ∷ marks body) (labels_in rest))
      said_labels (Switches control selector cases arms merge body) h merges e rest =
          past merges _ e
          ∙ arms_labels arms h.2 (say_front bs merge (say bs [] body rest))
          ∙ ap (λ z. marks_of_arms arms ++ z) (front_labels merge (say bs [] body rest) ∙ ap (λ z. merge.label ∷ z) (said_labels body h.3 [] refl rest))
          ∙ sym (append_assoc (marks_of_arms arms) (merge.label ∷ marks body) (labels_in rest))
      said_labels (Loops (ByBranch ids) header control inner next continuing merge body) h merges e rest =
          past merges _ e
          ∙ front_labels header (say bs (says.Merge ∷ []) inner (say_front bs next (say bs [] continuing (say_front bs merge (say bs [] body rest)))))
          ∙ ap (λ z. header.label ∷ z)
          (loop_labels inner continuing body next merge (said_labels inner h.4 (says.Merge ∷ []) refl) (said_labels continuing h.5 [] refl) (said_labels body h.6 [] refl) rest)
      said_labels (Loops InPlace header control inner next continuing merge body) h merges e rest =
          loop_labels inner continuing body next merge (said_labels inner h.4 (says.Merge ∷ []) refl) (said_labels continuing h.5 [] refl) (said_labels body h.6 [] refl) rest

      arm_labels : (body : Body) → begins_at_branch body ≡ true → IsFormed all body → (rest : List Statement)
          → labels_in (say_arm bs body rest) ≡ marks body ++ labels_in rest
      arm_labels (Leaves exit) b h rest = refl
      arm_labels (Enters label body) b h rest = ap (λ z. label ∷ z) (said_labels body h [] refl rest)
      arm_labels (Loops (ByBranch ids) header control inner next continuing merge body) b h rest =
          front_labels header (say bs (says.Merge ∷ []) inner (say_front bs next (say bs [] continuing (say_front bs merge (say bs [] body rest)))))
          ∙ ap (λ z. header.label ∷ z)
          (loop_labels inner continuing body next merge (said_labels inner h.4 (says.Merge ∷ []) refl) (said_labels continuing h.5 [] refl) (said_labels body h.6 [] refl) rest)
      arm_labels (Loops InPlace header control inner next continuing merge body) b h rest = absurd (cc)
      arm_labels (Finishes words) b h rest = absurd (cc)
      arm_labels (Step words body) b h rest = absurd (cc)
      arm_labels (Splits condition on exit body) b h rest = absurd (cc)
      arm_labels (Selects control condition first second merge body) b h rest = absurd (cc)
      arm_labels (Switches control selector cases arms merge body) b h rest = absurd (cc)

      arms_labels : (arms : Arms) → AreFormed all arms → (rest : List Statement) → labels_in (say_arms bs arms rest) ≡ marks_of_arms arms ++ labels_in rest
      arms_labels (Last arm) h rest = arm_labels arm h.0 h.1 rest
      arms_labels (Also arm arms) h rest =
          arm_labels arm h.0 h.1 (say_arms bs arms rest) ∙ ap (λ z. marks arm ++ z) (arms_labels arms h.2 rest)
          ∙ sym (append_assoc (marks arm) (marks_of_arms arms) (labels_in rest))

-- ---- labels of instructions

parameters_labels : (ss rest : List Statement) → AllByRecursion (λ s. is_parameter s ≡ true) ss → labels_in (ss ++ rest) ≡ labels_in rest
parameters_labels [] rest h = refl
parameters_labels (says.FunctionParameter t r ∷ ss) rest h = parameters_labels ss rest h.1
parameters_labels (other ∷ ss) rest h = absurd (cc)

blocks_labels : (is : List Instruction) → labels_in (statements_in (words_of is)) ≡ map (λ b. b.label) (blocks_of is)
unfolding statements_in
blocks_labels [] = refl
blocks_labels (i ∷ is) = by (is_label_mark i) refl (blocks_labels is) where
  by : (b : Bool) → is_label_mark i ≡ b → labels_in (statements_in (words_of is)) ≡ map (λ b. b.label) (blocks_of is)
      → labels_in (said i.words (statements_in (words_of is))) ≡ map (λ b. b.label) (cond (is_label_mark i) (block_of i is ∷ blocks_of is) (blocks_of is))
  by true e more =
      ap labels_in (label_said i (word i 1) (statements_in (words_of is)) e refl) ∙ ap (λ z. word i 1 ∷ z) more
      ∙ ap (λ (b : Bool). map (λ x. x.label) (cond b (block_of i is ∷ blocks_of is) (blocks_of is))) (sym e)
  by false e more =
      label_not_said i.words (opcode i) (statements_in (words_of is)) e ∙ more
      ∙ ap (λ (b : Bool). map (λ x. x.label) (cond b (block_of i is ∷ blocks_of is) (blocks_of is))) (sym e)

-- ---- a function and its listing

end_labels : labels_in (statements_in (instruction op.FUNCTION_END [] ∷ [])) ≡ []
unfolding statements_in
end_labels = refl

module _ (insts : List Instruction) (f : Function) (h : ReadsAs insts f) where
  abbrev is : List Instruction
  is = without_marks insts

  listed_labels : labels_in (statements_in (listed f)) ≡ f.label ∷ marks f.body
  listed_labels =
      let sound = spelled_is_sound is h.stays f h.admitted h.spells in
      let bs = branches f.label f.body in
      let end = statements_in (instruction op.FUNCTION_END [] ∷ []) in
      ap (λ ls. labels_in (statements_in ls)) (sym (append-nil (listed f)))
      ∙ ap labels_in (function_says (id_of f) f (opening insts f h) [])
      ∙ parameters_labels (statements_in f.parameters) (says.Label f.label ∷ say bs [] f.body end)
      (takes_parameters is h.stays (id_of f) f h.admitted.text h.spells (opening insts f h))
      ∙ ap (λ z. f.label ∷ z) (said_labels bs (branches_in f) f.body sound.formed [] refl end ∙ ap (λ z. marks f.body ++ z) end_labels ∙ append-nil (marks f.body))

  own_piece : (x : ℕ) → has (f.label ∷ marks f.body) x ≡ true → is_label (blocks_of is) x ≡ true
  own_piece x e =
      let walk = first_walk is h.stays f h.admitted h.spells in
      let piece = rest_piece is h.stays h.admitted.clean h.spells.body (all_lines is f.label [] walk) in
      elim (has_cons f.label (marks f.body) x e) [
        | inl same ↦ walked_label no_pointers (blocks_of is) h.admitted.clean x [] (subst (λ z. Rattle.spv_walk.specs.Walk.Walk (blocks_of is) z []) same walk)
        | inr g ↦ let u = (piece.labels x g).0 in
            walked_label no_pointers (blocks_of is) h.admitted.clean x u.context
            (below_walked no_pointers (blocks_of is) h.admitted.clean f.label [] u.steps x u.context walk u.below)
      ]

  own_distinct : members.Distinct (f.label ∷ marks f.body)
  own_distinct =
      let walk = first_walk is h.stays f h.admitted h.spells in
      let piece = rest_piece is h.stays h.admitted.clean h.spells.body (all_lines is f.label [] walk) in
      (has_not (marks f.body) f.label (λ g. (piece.labels f.label g).1 refl), piece.distinct)

  text_labels : labels_in (statements_in (words_of insts)) ≡ map (λ b. b.label) (blocks_of is)
  text_labels = ap labels_in (marks_say_nothing insts) ∙ blocks_labels is

  -- no label stands more often in the listing
  pub no_more_labels : (l : ℕ) → times (labels_in (statements_in (listed f))) l ≤ times (labels_in (statements_in (words_of insts))) l
  no_more_labels l =
      subst (λ z. times z l ≤ times (labels_in (statements_in (words_of insts))) l) (sym listed_labels)
      (subst (λ z. times (f.label ∷ marks f.body) l ≤ times z l) (sym text_labels) (by (has (f.label ∷ marks f.body) l) refl))
    where
      by : (b : Bool) → has (f.label ∷ marks f.body) l ≡ b → times (f.label ∷ marks f.body) l ≤ times (map (λ b. b.label) (blocks_of is)) l
      by true e =
          let once = distinct_times (f.label ∷ marks f.body) l own_distinct in
          let there = some_times (map (λ b. b.label) (blocks_of is)) l (labels_among (blocks_of is) l (own_piece l e)) in
          omega (arith, once, there)
      by false e = let none = no_times (f.label ∷ marks f.body) l e in omega (arith, none)

-- ---- modules

abbrev joined : List (List Instruction) → List Instruction
joined texts = flat_map (λ insts. insts) texts

times_both : (a b : List Statement) (l : ℕ) → times (labels_in (a ++ b)) l ≡ times (labels_in a) l + times (labels_in b) l
times_both a b l = ap (λ z. times z l) (labels_append a b) ∙ times_append (labels_in a) (labels_in b) l

no_statement : statements_in [] ≡ []
unfolding statements_in
no_statement = refl

-- by induction on the functions
pub no_more_in_all : (texts : List (List Instruction)) (trees : List Function) → AreRead texts trees → (l : ℕ)
    → times (labels_in (statements_in (flat_map listed trees))) l ≤ times (labels_in (statements_in (words_of (joined texts)))) l
no_more_in_all [] [] h l = omega arith
no_more_in_all [] (g ∷ gs) h l = absurd h
no_more_in_all (t ∷ ts) [] h l = absurd h
no_more_in_all (t ∷ ts) (g ∷ gs) h l =
    let a = ap (λ ss. times (labels_in ss) l) (statements_append (listed g) (flat_map listed gs)) ∙ times_both (statements_in (listed g)) (statements_in (flat_map listed gs)) l in
    let b = ap (λ ss. times (labels_in ss) l) (says_append t (joined ts)) ∙ times_both (statements_in (words_of t)) (statements_in (words_of (joined ts))) l in
    let here = no_more_labels t g h.0 l in
    let later = no_more_in_all ts gs h.1 l in
    omega (arith, a, b, here, later)

-- ---- each label once

turned : (a b : ℕ) → (a == b) ≡ (b == a)
turned a b = grind (arith, nat_tests)

any_turned : (x : ℕ) (xs : List ℕ) → list_any (λ y. x == y) xs ≡ has xs x
any_turned x xs = λ i. list_any (λ y. turned x y i) xs

to_members : (xs : List ℕ) → Distinct xs → members.Distinct xs
to_members [] h = tt
to_members (x ∷ xs) h = (sym (any_turned x xs) ∙ h.0, to_members xs h.1)

from_members : (xs : List ℕ) → members.Distinct xs → Distinct xs
from_members [] h = tt
from_members (x ∷ xs) h = (any_turned x xs ∙ h.0, from_members xs h.1)

pub distinct_of_fewer : (xs ys : List ℕ) → Distinct ys → ((l : ℕ) → times xs l ≤ times ys l) → Distinct xs
distinct_of_fewer xs ys h fewer =
    from_members xs (Rattle.spv_sound_trees.proofs.Marks.times_distinct xs (λ l. let a = fewer l in let b = distinct_times ys l (to_members ys h) in omega (arith, a, b)))

pub labels_stay_distinct : (out : List Statement) (texts : List (List Instruction)) (trees : List Function) → AreRead texts trees
    → Distinct (labels_in (out ++ statements_in (words_of (joined texts)))) → Distinct (labels_in (out ++ statements_in (flat_map listed trees)))
labels_stay_distinct out texts trees h d =
    distinct_of_fewer (labels_in (out ++ statements_in (flat_map listed trees))) (labels_in (out ++ statements_in (words_of (joined texts)))) d
    (λ l.
    let a = times_both out (statements_in (flat_map listed trees)) l in
    let b = times_both out (statements_in (words_of (joined texts))) l in
    let fewer = no_more_in_all texts trees h l in
    omega (arith, a, b, fewer))
