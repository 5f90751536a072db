-- The OpPhi in front of a block's lines, and the same among statements.
use Rattle.std.proofs.Common.{◌≡◌, ℕ, ◌+◌, ◌⊎◌, inl, inr, Bool, true, false, cond, ◌==◌, List, [], ◌∷◌, ◌++◌, map, length, Some, refl, sym, ap, subst, ◌∙◌, drop, take, arith}
use Rattle.std.proofs.lemmas.Nat.{mod-mul-add}
use Rattle.std.specs.Prelude.{slice_index, find}
use Rattle.std.specs.Option.{option_map}
use Rattle.std.specs.List.{AllByRecursion}
use Rattle.spv_opcodes.specs.declared.op.TheConstants as op
use Rattle.spv_module.specs.Instruction.{Instruction, opcode}
use Rattle.spv_module.specs.Layout.{is_terminator}
use Rattle.spv_meaning.specs.Statements as says
use Rattle.spv_meaning.specs.Statements.{Statement, said, statements_in, words_of}
use Rattle.spv_machine.specs.State.{some_cons}
use Rattle.spv_machine.specs.Steps.{from_block, phi_results, phi_sources, behind_phis}
use Rattle.spv_blocks.specs.Cutting as cutting
use Rattle.spv_bodies.specs.Bodies.{Body, Step}
use Rattle.spv_bodies.specs.Listing.{instruction}
use Rattle.spv_normal.specs.Lines.{line, up_to_terminator}
use Rattle.spv_tree.specs.Sound.{opcode_in}
use Rattle.spv_spelling.specs.Text as spelled
use Rattle.spv_spelling.specs.Text.{is_phi, phis, phi_pairs, value_from, Take, copy_of}
use Rattle.spv_trees.specs.Standing.{copies}
use Rattle.spv_trees.proofs.Listed.{Plain, plain_first}
use Rattle.spv_walk.proofs.Unique.{equal_true, true_equal}
use Rattle.spv_standing.specs.Laws.{results, first_values}
use Rattle.spv_standing.proofs.Lines.{second_word}
use Rattle.spv_standing.proofs.Saying.{ends_block, SaysOther, phi_said, line_said}

-- ---- words of an OpPhi

pairs_alike : (ws : List ℕ) → says.pairs ws ≡ cutting.pairs ws
pairs_alike [] = refl
pairs_alike (a ∷ []) = refl
pairs_alike (a ∷ b ∷ ws) = ap (λ l. (a, b) ∷ l) (pairs_alike ws)

behind_three : (ws : List ℕ) → drop 2 (drop 1 ws) ≡ drop 3 ws
behind_three [] = refl
behind_three (a ∷ []) = refl
behind_three (a ∷ b ∷ []) = refl
behind_three (a ∷ b ∷ c ∷ ws) = refl

word_2 : (ws : List ℕ) → slice_index (drop 1 ws) 1 ≡ slice_index ws 2
word_2 [] = refl
word_2 (a ∷ []) = refl
word_2 (a ∷ b ∷ []) = refl
word_2 (a ∷ b ∷ c ∷ ws) = refl

pub word_3 : (ws : List ℕ) → slice_index (drop 3 ws) 0 ≡ slice_index ws 3
word_3 [] = refl
word_3 (a ∷ []) = refl
word_3 (a ∷ b ∷ []) = refl
word_3 (a ∷ b ∷ c ∷ []) = refl
word_3 (a ∷ b ∷ c ∷ d ∷ ws) = refl

phi_says : (words : List ℕ) (rest : List Statement) → is_phi words ≡ true
    → said words rest ≡ says.Phi (slice_index words 1) (slice_index words 2) (phi_pairs words) ∷ rest
phi_says words rest h =
    phi_said words rest (equal_true (opcode_in words) op.PHI h)
    ∙ ap (λ t. says.Phi t (slice_index (drop 1 words) 1) (says.pairs (drop 2 (drop 1 words))) ∷ rest) (second_word words)
    ∙ ap (λ r. says.Phi (slice_index words 1) r (says.pairs (drop 2 (drop 1 words))) ∷ rest) (word_2 words)
    ∙ ap (λ ps. says.Phi (slice_index words 1) (slice_index words 2) ps ∷ rest) (pairs_alike (drop 2 (drop 1 words)) ∙ ap cutting.pairs (behind_three words))

-- ---- what an OpPhi takes from a block

from_by : (block : ℕ) (p : ℕ × ℕ) (ps : List (ℕ × ℕ)) (b : Bool) → from_block ps block ≡ option_map (λ pair. pair.0) (find (λ pair. pair.1 == block) ps)
    → cond b (Some p.0) (from_block ps block) ≡ option_map (λ pair. pair.0) (cond b (Some p) (find (λ pair. pair.1 == block) ps))
from_by block p ps true h = refl
from_by block p ps false h = h

from_again : (block : ℕ) (ps : List (ℕ × ℕ)) → from_block ps block ≡ option_map (λ pair. pair.0) (find (λ pair. pair.1 == block) ps)
from_again block [] = refl
from_again block (p ∷ ps) = from_by block p ps (p.1 == block) (from_again block ps)

-- ---- all OpPhi in front

-- what statements are that say these OpPhi, and then others that do not begin with one
pub record FrontSays (ps : List (List ℕ)) (here others : List Statement) : Type 0 where
  pub results : phi_results here ≡ results ps
  pub behind : behind_phis here ≡ others
  pub values : (block : ℕ) (vs : List ℕ) → Take block ps vs → phi_sources here block ≡ Some vs
  pub copied : (body : Body) → copies here (first_values ps) body ≡ spelled.copies ps body

front_plain : (here : List Statement) → Plain here → FrontSays [] here here
front_plain here plain = record {
  results = plain.results;
  behind = plain.behind;
  values = λ block vs take. plain.sources block ∙ none_left block vs take;
  copied = plain.copied;
}
  where
    none_left : (block : ℕ) (vs : List ℕ) → Take block [] vs → Some [] ≡ Some vs
    none_left block [] take = refl
    none_left block (v ∷ vs) take = absurd take

front_phi : (words : List ℕ) (ps : List (List ℕ)) (rest others : List Statement) → FrontSays ps rest others
    → FrontSays (words ∷ ps) (says.Phi (slice_index words 1) (slice_index words 2) (phi_pairs words) ∷ rest) others
front_phi words ps rest others h = record {
  results = ap (λ rs. slice_index words 2 ∷ rs) h.results;
  behind = h.behind;
  values = taken;
  copied = λ body. ap (λ b. Step (copy_of words) b) (h.copied body);
}
  where
    taken : (block : ℕ) (vs : List ℕ) → Take block (words ∷ ps) vs → some_cons (from_block (phi_pairs words) block) (phi_sources rest block) ≡ Some vs
    taken block [] take = absurd take
    taken block (v ∷ vs) take =
        ap (λ o. some_cons o (phi_sources rest block)) (from_again block (phi_pairs words) ∙ take.0)
        ∙ ap (some_cons (Some v)) (h.values block vs take.1)

front_by : (words : List ℕ) (lines : List (List ℕ)) (after : List Statement) (b : Bool) → is_phi words ≡ b
    → (Plain (statements_in (spelled.behind_phis lines) ++ after) → FrontSays (phis lines) (statements_in lines ++ after)
    (statements_in (spelled.behind_phis lines) ++ after))
    → Plain (statements_in (cond b (spelled.behind_phis lines) (words ∷ lines)) ++ after)
    → FrontSays (cond b (words ∷ phis lines) []) (said words (statements_in lines) ++ after)
    (statements_in (cond b (spelled.behind_phis lines) (words ∷ lines)) ++ after)
unfolding statements_in
front_by words lines after true e later plain =
    subst (λ here. FrontSays (words ∷ phis lines) here (statements_in (spelled.behind_phis lines) ++ after))
    (sym (ap (λ l. l ++ after) (phi_says words (statements_in lines) e)))
    (front_phi words (phis lines) (statements_in lines ++ after) (statements_in (spelled.behind_phis lines) ++ after) (later plain))
front_by words lines after false e later plain = front_plain (said words (statements_in lines) ++ after) plain

pub front_says : (lines : List (List ℕ)) (after : List Statement) → Plain (statements_in (spelled.behind_phis lines) ++ after)
    → FrontSays (phis lines) (statements_in lines ++ after) (statements_in (spelled.behind_phis lines) ++ after)
unfolding statements_in
front_says [] after plain = front_plain after plain
front_says (words ∷ lines) after plain = front_by words lines after (is_phi words) refl (front_says lines after) plain

-- ---- what does not begin with OpPhi

-- instructions of a function: each is an OpPhi or says one other statement
abbrev pub SaysOne : Instruction → Type 0
SaysOne i = (opcode i ≡ op.PHI) ⊎ SaysOther i.words

line_opcode_by : (i : Instruction) (b : Bool) → (opcode i == op.BRANCH_CONDITIONAL) ≡ b
    → opcode_in (cond b (instruction op.BRANCH_CONDITIONAL (take 3 (drop 1 i.words))) i.words) ≡ opcode i
line_opcode_by i true e =
    mod-mul-add (length (take 3 (drop 1 i.words)) + 1) 65536 op.BRANCH_CONDITIONAL (omega arith) ∙ sym (equal_true (opcode i) op.BRANCH_CONDITIONAL e)
line_opcode_by i false e = refl

pub line_opcode : (i : Instruction) → opcode_in (line i) ≡ opcode i
line_opcode i = line_opcode_by i (opcode i == op.BRANCH_CONDITIONAL) refl

no_end : (i : Instruction) → opcode i ≡ op.PHI → is_terminator i ≡ false
no_end i e = ap ends_block e

other_first : (i : Instruction) (lines : List (List ℕ)) (after : List Statement) → (opcode i == op.PHI) ≡ false → SaysOther i.words
    → Plain (statements_in (spelled.behind_phis (line i ∷ lines)) ++ after)
unfolding statements_in
other_first i lines after e s =
    subst (λ b. Plain (statements_in (cond b (spelled.behind_phis lines) (line i ∷ lines)) ++ after)) (sym (ap (λ o. o == op.PHI) (line_opcode i) ∙ e))
    (subst (λ l. Plain (l ++ after)) (sym (line_said i (statements_in lines) ∙ s.same (statements_in lines)))
    (plain_first s.statement (statements_in lines ++ after) s.other))

phi_first : (i : Instruction) (lines : List (List ℕ)) (after : List Statement) → opcode i ≡ op.PHI → Plain (statements_in (spelled.behind_phis lines) ++ after)
    → Plain (statements_in (spelled.behind_phis (line i ∷ lines)) ++ after)
phi_first i lines after e plain =
    subst (λ b. Plain (statements_in (cond b (spelled.behind_phis lines) (line i ∷ lines)) ++ after))
    (sym (true_equal (opcode_in (line i)) op.PHI (line_opcode i ∙ e))) plain

ended_by : (i : Instruction) (is : List Instruction) (after : List Statement) (b : Bool) → (opcode i == op.PHI) ≡ false → SaysOther i.words
    → Plain (statements_in (spelled.behind_phis (map line (cond b (i ∷ []) (i ∷ up_to_terminator is)))) ++ after)
ended_by i is after true e s = other_first i [] after e s
ended_by i is after false e s = other_first i (map line (up_to_terminator is)) after e s

phi_by : (i : Instruction) (is : List Instruction) (after : List Statement) (b : Bool) → is_terminator i ≡ b → opcode i ≡ op.PHI
    → Plain (statements_in (spelled.behind_phis (map line (up_to_terminator is))) ++ after)
    → Plain (statements_in (spelled.behind_phis (map line (cond b (i ∷ []) (i ∷ up_to_terminator is)))) ++ after)
phi_by i is after true h e plain = absurd (cc (h, no_end i e))
phi_by i is after false h e plain = phi_first i (map line (up_to_terminator is)) after e plain

one_by : (i : Instruction) (is : List Instruction) (after : List Statement) (b : Bool) → (opcode i == op.PHI) ≡ b → SaysOne i
    → Plain (statements_in (spelled.behind_phis (map line (up_to_terminator is))) ++ after)
    → Plain (statements_in (spelled.behind_phis (map line (up_to_terminator (i ∷ is)))) ++ after)
one_by i is after true e s plain = phi_by i is after (is_terminator i) refl (equal_true (opcode i) op.PHI e) plain
one_by i is after false e (inl h) plain = absurd (cc (true_equal (opcode i) op.PHI h, e))
one_by i is after false e (inr s) plain = ended_by i is after (is_terminator i) e s

-- behind the OpPhi of a block something else stands: its terminator, or at last OpFunctionEnd
pub block_plain : (is : List Instruction) (last : Instruction) (after : List Statement) → AllByRecursion SaysOne is → (opcode last == op.PHI) ≡ false
    → SaysOther last.words
    → Plain (statements_in (spelled.behind_phis (map line (up_to_terminator (is ++ last ∷ [])))) ++ after)
block_plain [] last after h e s = ended_by last [] after (is_terminator last) e s
block_plain (i ∷ is) last after h e s = one_by i (is ++ last ∷ []) after (opcode i == op.PHI) refl h.0 (block_plain is last after h.1 e s)
