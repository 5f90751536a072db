-- The word count of each line of a listing stands in half a word.
use Rattle.std.proofs.Common.{◌≡◌, ℕ, zero, suc, ◌*◌, ◌≤◌, Bool, true, false, ◌==◌, cond, List, [], ◌∷◌, ◌++◌, length, slice_index, take, drop, refl, sym, subst, arith}
use Rattle.std.specs.List.{AllByRecursion}
use Rattle.std.proofs.lemmas.List.{length-map, length-take}
use Rattle.spv_opcodes.specs.declared.op.TheConstants as op
use Rattle.spv_module.specs.Instruction.{Instruction, opcode}
use Rattle.spv_bodies.specs.Bodies.{Function, Parameter}
use Rattle.spv_bodies.specs.Listing.{Branching, in_order, instruction, label_line, lines, listed, pair_words, phi_line, phi_pairs, split_line}
use Rattle.spv_normal.specs.Lines.{before_labels, line}
use Rattle.spv_tree.specs.Branches.{branches_in}
use Rattle.spv_tree.specs.Fronts.{IsShort}
use Rattle.spv_tree.specs.Sound.{IsSound}
use Rattle.spv_tree.specs.Tree.{words_of}
use Rattle.spv_spelling.specs.Spelling.{SpellsFunction}
use Rattle.spv_spelling.specs.Text.{copy_of, is_phi}
use Rattle.spv_spelling.specs.Whole.{AreShort, IsAdmitted}
use Rattle.spv_respelling.proofs.EachLine.{OfLines, OfSteps, body_each, both}
use Rattle.spv_respelling.proofs.SpelledSteps.{all_before, all_lines, all_mapped, rest_steps}

Short : List ℕ → Type 0
Short w = length w ≤ 65535

pairs_count : (ps : List (ℕ × ℕ)) → length (pair_words ps) ≡ 2 * length ps
pairs_count [] = refl
pairs_count (p ∷ ps) = let h = pairs_count ps in omega (arith, h)

split_short : (condition : ℕ) (on : Bool) (exit other : ℕ) → Short (split_line condition on exit other)
unfolding Short
split_short condition true exit other = omega arith
split_short condition false exit other = omega arith

phi_short : (k : ℕ) (here : List Branching) (p : Parameter) → IsShort here p → Short (phi_line k here p)
unfolding Short
phi_short k here p short =
    let count = pairs_count (phi_pairs k (in_order p.parents here)) in
    let pair : Branching → ℕ × ℕ = λ branching. (slice_index branching.1.values k, branching.0) in
    let mapped = length-map (in_order p.parents here) pair in
    omega (arith, count, mapped, short)

are_short : OfLines Short
unfolding Short
are_short = record {
  label = λ label. omega arith;
  branch = λ label. omega arith;
  split = split_short;
  selection = λ merge control. omega arith;
  loop = λ merge next control. omega arith;
  switch = λ selector default cases count. (let pairs = pairs_count cases in omega (arith, pairs, count));
  phi = phi_short;
}

-- branch weights only make a line longer
line_short : (i : Instruction) → length i.words ≤ 65535 → Short (line i)
unfolding Short
line_short i h = by (opcode i == op.BRANCH_CONDITIONAL)
  where
    by : (b : Bool) → length (cond b (instruction op.BRANCH_CONDITIONAL (take 3 (drop 1 i.words))) i.words) ≤ 65535
    by true = let count = length-take 3 (drop 1 i.words) in omega (arith, count)
    by false = h

-- ---- instructions by their places

abbrev HasFew : Instruction → Type 0
HasFew i = length i.words ≤ 65535

each_few : (is : List Instruction) → AreShort is → AllByRecursion HasFew is
each_few [] h = tt
each_few (i ∷ is) h = (h 0 i refl, each_few is (λ k j e. h (suc k) j e))

at_each : (is : List Instruction) → AllByRecursion Short (words_of is) → AreShort is
unfolding Short
at_each [] h k i e = absurd (cc e)
at_each (x ∷ is) h zero i e = let here : x ≡ i = cc e in subst (λ (j : Instruction). length j.words ≤ 65535) here h.0
at_each (x ∷ is) h (suc k) i e = at_each is h.1 k i e

copy_short : (w : List ℕ) → is_phi w ≡ true → Short w → Short (copy_of w)
unfolding Short
copy_short w e h = omega arith

end_short : Short (instruction op.FUNCTION_END [])
unfolding Short
end_short = omega arith

few_short : (i : Instruction) → HasFew i → Short i.words
unfolding Short
few_short i h = h

-- ---- functions

pub listing_short : (insts : List Instruction) (stays : ℕ → ℕ) (f : Function) → IsAdmitted insts → SpellsFunction insts stays f → IsSound f
    → (again : List Instruction) → words_of again ≡ listed f → AreShort again
listing_short insts stays f admitted spells sound again same =
    let all = branches_in f in
    let few = each_few insts admitted.short in
    let texts = all_lines HasFew Short line_short insts few in
    let steps : OfSteps Short f.body = (rest_steps insts stays Short texts copy_short spells.body (texts f.label)).hold in
    let body = body_each Short all are_short f.body [] tt sound.formed steps in
    let front : AllByRecursion Short (f.function ∷ f.parameters) =
    subst (λ z. AllByRecursion Short z) spells.front (all_mapped HasFew Short (λ i. i.words) few_short (before_labels insts) (all_before HasFew insts few)) in
    let whole : AllByRecursion Short (listed f) = (
      front.0,
      both Short f.parameters (label_line f.label ∷ (lines all [] f.body ++ instruction op.FUNCTION_END [] ∷ [])) front.1
          (are_short.label f.label, both Short (lines all [] f.body) (instruction op.FUNCTION_END [] ∷ []) body (end_short, tt)),
    ) in
    at_each again (subst (λ z. AllByRecursion Short z) (sym same) whole)
