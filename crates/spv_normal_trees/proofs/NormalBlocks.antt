-- The lines of a block in the normal form, from its text.
use Rattle.std.proofs.Common.{◌≡◌, ◌≢◌, inl, inr, ℕ, Bool, true, false, cond, ◌==◌, List, [], ◌∷◌, ◌++◌, take, drop, map, Some, refl, sym, ap, ap₂, ◌∙◌, arith}
use Rattle.std.proofs.lemmas.Bool.Decides.{nat_tests}
use Rattle.spv_opcodes.specs.declared.op.TheConstants as op
use Rattle.spv_module.specs.Instruction.{Instruction, opcode}
use Rattle.spv_module.specs.Layout.{is_terminator}
use Rattle.spv_blocks.specs.Blocks.{Code, Block, Open, block}
use Rattle.spv_blocks.specs.Cutting.{blocks_of, is_function_end, is_label_mark}
use Rattle.spv_walk.proofs.Unique.{tells}
use Rattle.spv_bodies.specs.Listing.{instruction, label_line, pair_words}
use Rattle.spv_normal.specs.Lines.{behind_label, line}
use Rattle.spv_normal.specs.Normal.{block_lines, joins_next, kept, normal_line}
use Rattle.spv_normal.specs.Order.{is_front}
use Rattle.spv_spelling.specs.Text.{behind_phis, copy_of, is_phi, phi_pairs, phis, text}
use Rattle.spv_normal_trees.proofs.Texts.{IsClosed, NoneCloses, but_last, but_last_append, closed_block, last_append, last_of, opcode_spelled, terminates_closes, text_is}

-- an OpPhi whose pairs name other labels
abbrev pub renamed_words : (stays : ℕ → ℕ) → List ℕ → List ℕ
renamed_words stays words = take 3 words ++ pair_words (map (λ pair. (pair.0, stays pair.1)) (phi_pairs words))

-- a line of a block in the normal form
abbrev pub normal_words : (stays : ℕ → ℕ) → (front : Bool) → List ℕ → List ℕ
normal_words stays front words = cond (is_phi words) (cond front (renamed_words stays words) (copy_of words)) words

-- no line is an OpPhi
abbrev pub NoPhis : List (List ℕ) → Type 0
NoPhis [] = Unit {0}
NoPhis (words ∷ rest) = (is_phi words ≡ false) × NoPhis rest

abbrev pub AllPhis : List (List ℕ) → Type 0
AllPhis [] = Unit {0}
AllPhis (words ∷ rest) = (is_phi words ≡ true) × AllPhis rest

pub phis_are : (lines : List (List ℕ)) → AllPhis (phis lines)
phis_are [] = tt
phis_are (words ∷ rest) = elim (tells (is_phi words)) [
  | inl h ↦ rw h (h, phis_are rest)
  | inr h ↦ rw h tt
]

pub in_front_and_behind : (lines : List (List ℕ)) → phis lines ++ behind_phis lines ≡ lines
in_front_and_behind [] = refl
in_front_and_behind (words ∷ rest) = elim (tells (is_phi words)) [
  | inl h ↦ rw h (ap (λ z. words ∷ z) (in_front_and_behind rest))
  | inr h ↦ rw h refl
]

module _ (stays : ℕ → ℕ) where
  pub plain_lines : (front : Bool) (lines : List (List ℕ)) → NoPhis lines → map (normal_words stays front) lines ≡ lines
  plain_lines front [] h = refl
  plain_lines front (words ∷ rest) h = ap₂ (λ x y. x ∷ y) (ap (λ b. cond b (cond front (renamed_words stays words) (copy_of words)) words) h.0)
      (plain_lines front rest h.1)

  pub renamed_lines : (lines : List (List ℕ)) → AllPhis lines → map (normal_words stays true) lines ≡ map (renamed_words stays) lines
  renamed_lines [] h = refl
  renamed_lines (words ∷ rest) h = ap₂ (λ x y. x ∷ y) (ap (λ b. cond b (renamed_words stays words) words) h.0) (renamed_lines rest h.1)

  pub copied_lines : (lines : List (List ℕ)) → AllPhis lines → map (normal_words stays false) lines ≡ map copy_of lines
  copied_lines [] h = refl
  copied_lines (words ∷ rest) h = ap₂ (λ x y. x ∷ y) (ap (λ b. cond b (copy_of words) words) h.0) (copied_lines rest h.1)

  -- ---- of instructions

  phi_line_is : (front b : Bool) (i : Instruction) → (opcode i == op.BRANCH_CONDITIONAL) ≡ b → normal_line stays front i ≡ normal_words stays front (line i)
  phi_line_is front true i e =
      let p : opcode i ≡ op.BRANCH_CONDITIONAL = grind (arith, nat_tests) in
      let same : line i ≡ spelled = ap (λ c. cond c (instruction op.BRANCH_CONDITIONAL (take 3 (drop 1 i.words))) i.words) e in
      ap (λ o. cond (o == op.PHI) (cond front (renamed_words stays i.words) (copy_of i.words)) (line i)) p
      ∙ same
      ∙ sym (ap (λ o. cond (o == op.PHI) (cond front (renamed_words stays spelled) (copy_of spelled)) spelled)
      (opcode_spelled op.BRANCH_CONDITIONAL (take 3 (drop 1 i.words)) (omega arith)))
      ∙ sym (ap (λ w. normal_words stays front w) same)
    where
      spelled : List ℕ
      spelled = instruction op.BRANCH_CONDITIONAL (take 3 (drop 1 i.words))
  phi_line_is front false i e =
      let same : line i ≡ i.words = ap (λ c. cond c (instruction op.BRANCH_CONDITIONAL (take 3 (drop 1 i.words))) i.words) e in
      ap (λ w. cond (opcode i == op.PHI) (cond front (renamed_words stays i.words) (copy_of i.words)) w) same ∙ sym (ap (λ w. normal_words stays front w) same)

  pub normal_line_is : (front : Bool) (i : Instruction) → normal_line stays front i ≡ normal_words stays front (line i)
  normal_line_is front i = phi_line_is front (opcode i == op.BRANCH_CONDITIONAL) i refl

  kept_is : (j : Bool) (xs : List Instruction) (i : Instruction) → NoneCloses xs → is_terminator i ≡ true → kept j (xs ++ i ∷ []) ≡ xs ++ cond j [] (i ∷ [])
  kept_is true [] i n t = rw t refl
  kept_is false [] i n t = refl
  kept_is true (x ∷ xs) i n t =
      ap (λ b. cond b [] (x ∷ kept true (xs ++ i ∷ []))) (terminates_closes (is_terminator x) (is_label_mark x) (is_function_end x) n.0)
      ∙ ap (λ z. x ∷ z) (kept_is true xs i n.1 t)
  kept_is false (x ∷ xs) i n t = ap (λ z. x ∷ z) (kept_is false xs i n.1 t)

  normal_lines_are : (front j : Bool) (xs : List Instruction) (i : Instruction)
      → map (normal_line stays front) (xs ++ cond j [] (i ∷ [])) ≡ map (normal_words stays front) (map line xs ++ cond j [] (line i ∷ []))
  normal_lines_are front true [] i = refl
  normal_lines_are front false [] i = ap (λ w. w ∷ []) (normal_line_is front i)
  normal_lines_are front j (x ∷ xs) i = ap₂ (λ w ws. w ∷ ws) (normal_line_is front x) (normal_lines_are front j xs i)

  -- ---- of a block

  module _ (insts : List Instruction) (l : ℕ) (b : Block) (at : block (blocks_of insts) l ≡ Some b) (ends : b.end ≢ Open) where
    pub block_is : (s : ℕ) (front : List (List ℕ)) (last : List ℕ) → text insts l ≡ front ++ last ∷ [] →
        block_lines insts (blocks_of insts) stays (l, s)
        ≡ cond (l == s) (label_line l ∷ []) []
        ++ map (normal_words stays (is_front (blocks_of insts) l)) (front ++ cond (joins_next (blocks_of insts) l) [] (last ∷ []))
    block_is s front last e =
        let f : Code = blocks_of insts in
        let j : Bool = joins_next f l in
        let c : IsClosed (behind_label insts l) = closed_block insts l b at ends in
        let t : text insts l ≡ map line c.inner ++ line c.last ∷ [] = text_is insts l b at ends in
        let same : map line c.inner ++ line c.last ∷ [] ≡ front ++ last ∷ [] = sym t ∙ e in
        ap (λ z. cond (l == s) (label_line l ∷ []) [] ++ z)
        (ap (λ z. map (normal_line stays (is_front f l)) (kept j z)) c.whole
        ∙ ap (map (normal_line stays (is_front f l))) (kept_is j c.inner c.last c.none c.terminates)
        ∙ normal_lines_are (is_front f l) j c.inner c.last
        ∙ ap₂ (λ x y. map (normal_words stays (is_front f l)) (x ++ cond j [] (y ∷ [])))
        (sym (but_last_append (map line c.inner) (line c.last)) ∙ ap but_last same ∙ but_last_append front last)
        (sym (last_append [] (map line c.inner) (line c.last)) ∙ ap (last_of []) same ∙ last_append [] front last))
