-- Where a function is its own normal form, each label that its instructions name is a label of its blocks.
use Rattle.std.proofs.Common.{◌≡◌, ℕ, suc, Bool, true, false, cond, ◌==◌, List, [], ◌∷◌, ◌++◌, drop, map, take, Option, Some, None, refl, sym, ap, subst, ◌∙◌, append_assoc, arith}
use Rattle.std.specs.Prelude.{All}
use Rattle.std.specs.List.{AllByRecursion, flat_map, slice_index}
use Rattle.std.proofs.lemmas.List.Elements.{All-head, All-tail}
use Rattle.spv_opcodes.specs.declared.op.TheConstants as op
use Rattle.spv_grammar.specs.Operands.{opcode_of}
use Rattle.spv_module.specs.Instruction.{Instruction, opcode}
use Rattle.spv_blocks.specs.Blocks.{Code, is_label, seconds}
use Rattle.spv_blocks.specs.Cutting.{blocks_of, is_label_mark, pairs}
use Rattle.spv_walk.proofs.Unique.{equal_true}
use Rattle.spv_bodies.specs.Bodies.{Function}
use Rattle.spv_bodies.specs.Listing.{instruction, label_line, pair_words}
use Rattle.spv_normal.specs.Lines.{before_labels, block_insts, behind_label, line, without_marks}
use Rattle.spv_normal.specs.Normal.{block_lines, copied, joins_next, kept, normal_function, normal_line, renamed}
use Rattle.spv_normal.specs.Order.{is_front, label_behind, ordered, with_labels}
use Rattle.spv_spelling.specs.Spelling.{SpellsFunction}
use Rattle.spv_spelling.specs.Whole.{AreInstructions, IsAdmitted, IsText}
use Rattle.spv_normal_trees.specs.Laws.{stays_by}
use Rattle.spv_normal_trees.proofs.Texts.{opcode_spelled, pairs_spelled}
use Rattle.spv_norm_declared.proofs.FunctionLines.{all_behind, all_both, all_kept, all_pairs, all_up_to, order_labels, stays_have}
use Rattle.spv_norm_declarations.proofs.BlockLabels.{block_labels}
use Rattle.spv_norm_declarations.proofs.Defined.{IsFormed}
use Rattle.spv_norm_declarations.proofs.MadeValues.{at_zero}
use Rattle.spv_norm_declarations.proofs.Uses.{is_phi, labels, labels_by}

all_mapped : (P : Instruction → Type 0) (Q : List ℕ → Type 0) (g : Instruction → List ℕ) → ((i : Instruction) → P i → Q (g i)) → (is : List Instruction)
    → AllByRecursion P is → AllByRecursion Q (map g is)
all_mapped P Q g to [] h = tt
all_mapped P Q g to (i ∷ is) h = (to i h.0, all_mapped P Q g to is h.1)

pub all_formed : (is : List Instruction) → AreInstructions is → AllByRecursion IsFormed is
all_formed [] h = tt
all_formed (i ∷ is) h = (h 0 i refl, all_formed is (λ k j e. h (suc k) j e))

-- ---- lines

module _ (R : ℕ → Type 0) where
  abbrev pub Names : Instruction → Type 0
  Names i = AllByRecursion R (labels i)

  abbrev pub LineNames : List ℕ → Type 0
  LineNames w = AllByRecursion R (labels (at_zero w))

  back_words : (ws : List ℕ) → R (slice_index ws 2) → R (slice_index ws 3)
      → R (slice_index (instruction op.BRANCH_CONDITIONAL (take 3 (drop 1 ws))) 2) × R
      (slice_index (instruction op.BRANCH_CONDITIONAL (take 3 (drop 1 ws))) 3)
  back_words [] h g = (h, g)
  back_words (x ∷ []) h g = (h, g)
  back_words (x ∷ a ∷ []) h g = (h, g)
  back_words (x ∷ a ∷ b ∷ []) h g = (h, g)
  back_words (x ∷ a ∷ b ∷ c ∷ ws) h g = (h, g)

  line_labels : (i : Instruction) → Names i → LineNames (line i)
  line_labels i u = by (opcode i == op.BRANCH_CONDITIONAL) refl where
    split : List ℕ
    split = instruction op.BRANCH_CONDITIONAL (take 3 (drop 1 i.words))

    by : (b : Bool) → (opcode i == op.BRANCH_CONDITIONAL) ≡ b → LineNames (cond b split i.words)
    by true e =
        let own : R (slice_index i.words 2) × (R (slice_index i.words 3) × Unit {0}) = subst (λ o. AllByRecursion R (labels_by o i.words))
        (equal_true (opcode i) op.BRANCH_CONDITIONAL e) u in
        let moved = back_words i.words own.0 own.1.0 in
        subst (λ o. AllByRecursion R (labels_by o split)) (sym (opcode_spelled op.BRANCH_CONDITIONAL (take 3 (drop 1 i.words)) (omega arith)))
        (moved.0, (moved.1, tt))
    by false e = u

  seconds_moved : (stays : ℕ → ℕ) → ((x : ℕ) → R x → R (stays x)) → (ps : List (ℕ × ℕ)) → AllByRecursion R (seconds ps)
      → AllByRecursion R (seconds (map (λ (pair : ℕ × ℕ). (pair.0, stays pair.1)) ps))
  seconds_moved stays to [] h = tt
  seconds_moved stays to (p ∷ ps) h = (to p.1 h.0, seconds_moved stays to ps h.1)

  renamed_labels : (stays : ℕ → ℕ) → ((x : ℕ) → R x → R (stays x)) → (i : Instruction) → IsFormed i → opcode i ≡ op.PHI → Names i → LineNames
      (renamed stays i)
  renamed_labels stays to i formed e u =
      let p = is_phi i formed e in
      let own : AllByRecursion R (seconds (pairs p.rest)) =
      subst (λ ws. AllByRecursion R (seconds (pairs (drop 3 ws)))) p.same (subst (λ o. AllByRecursion R (labels_by o i.words)) e u) in
      let moved = map (λ (pair : ℕ × ℕ). (pair.0, stays pair.1)) (pairs p.rest) in
      let there : List ℕ = p.head ∷ p.type ∷ p.name ∷ pair_words moved in
      let begins : opcode_of p.head ≡ op.PHI = sym (ap (λ ws. opcode_of (slice_index ws 0)) p.same) ∙ e in
      subst (λ ws. LineNames (take 3 ws ++ pair_words (map (λ (pair : ℕ × ℕ). (pair.0, stays pair.1)) (pairs (drop 3 ws))))) (sym p.same)
      (subst (λ o. AllByRecursion R (labels_by o there)) (sym begins)
      (subst (λ ps. AllByRecursion R (seconds ps)) (sym (pairs_spelled moved)) (seconds_moved stays to (pairs p.rest) own)))

  copied_labels : (i : Instruction) → LineNames (copied i)
  copied_labels i = tt

  label_labels : (l : ℕ) → LineNames (label_line l)
  label_labels l = tt

  end_labels : LineNames (instruction op.FUNCTION_END [])
  end_labels = tt

  normal_labels : (stays : ℕ → ℕ) → ((x : ℕ) → R x → R (stays x)) → (front : Bool) (i : Instruction) → IsFormed i → Names i → LineNames
      (normal_line stays front i)
  normal_labels stays to front i formed u = by (opcode i == op.PHI) front refl where
    by : (phi b : Bool) → (opcode i == op.PHI) ≡ phi → LineNames (cond phi (cond b (renamed stays i) (copied i)) (line i))
    by true true e = renamed_labels stays to i formed (equal_true (opcode i) op.PHI e) u
    by true false e = copied_labels i
    by false b e = line_labels i u

-- what stands before the first block names no label
before_none : (R : ℕ → Type 0) (is : List Instruction) → IsText is → AllByRecursion (Names R) (before_labels is)
before_none R is t = subst (λ z. AllByRecursion (Names R) (before_labels z)) (sym same)
    (by (is_label_mark t.function) (parameters t.parameters t.takes)) where
      same : is ≡ t.function ∷ (t.parameters ++ ((t.label ∷ t.blocks) ++ t.last ∷ []))
      same = t.same ∙ ap (λ z. t.function ∷ z) (append_assoc t.parameters (t.label ∷ t.blocks) (t.last ∷ []))

      none : (i : Instruction) (o : ℕ) → opcode i ≡ o → labels_by o i.words ≡ [] → Names R i
      none i o e n = subst (AllByRecursion R) (sym (ap (λ k. labels_by k i.words) e ∙ n)) tt

      at_label : AllByRecursion (Names R) (before_labels ((t.label ∷ t.blocks) ++ t.last ∷ []))
      at_label = subst (λ (b : Bool). AllByRecursion (Names R) (cond b [] (t.label ∷ before_labels (t.blocks ++ t.last ∷ [])))) (sym t.first) tt

      parameters : (ps : List Instruction) → All (λ i. opcode i ≡ op.FUNCTION_PARAMETER) ps → AllByRecursion (Names R)
          (before_labels (ps ++ ((t.label ∷ t.blocks) ++ t.last ∷ [])))
      parameters [] h = at_label
      parameters (p ∷ ps) h = one (is_label_mark p) (parameters ps (All-tail (λ i. opcode i ≡ op.FUNCTION_PARAMETER) p ps h)) where
        one : (b : Bool) → AllByRecursion (Names R) (before_labels (ps ++ ((t.label ∷ t.blocks) ++ t.last ∷ [])))
            → AllByRecursion (Names R) (cond b [] (p ∷ before_labels (ps ++ ((t.label ∷ t.blocks) ++ t.last ∷ []))))
        one true more = tt
        one false more = (none p op.FUNCTION_PARAMETER (All-head (λ i. opcode i ≡ op.FUNCTION_PARAMETER) p ps h) refl, more)

      by : (b : Bool) → AllByRecursion (Names R) (before_labels (t.parameters ++ ((t.label ∷ t.blocks) ++ t.last ∷ [])))
          → AllByRecursion (Names R) (cond b [] (t.function ∷ before_labels (t.parameters ++ ((t.label ∷ t.blocks) ++ t.last ∷ []))))
      by true more = tt
      by false more = (none t.function op.FUNCTION t.begins refl, more)

module _ (insts : List Instruction) (stays : ℕ → ℕ) (tree : Function) (admitted : IsAdmitted insts) (spells : SpellsFunction insts stays tree) where
  abbrev f : Code
  f = blocks_of insts

  abbrev IsLabel : ℕ → Type 0
  IsLabel t = is_label f t ≡ true

  abbrev given : ℕ → ℕ
  given = stays_by f

  given_label : (x : ℕ) → IsLabel x → IsLabel (given x)
  given_label x h = stays_have insts stays tree admitted spells IsLabel (λ l g. g) x h

  block_formed : (l : ℕ) → AllByRecursion IsFormed (block_insts insts l)
  block_formed l = all_up_to IsFormed (behind_label insts l) (all_behind IsFormed insts l (all_formed insts admitted.each))

  block_named : (l h : ℕ) → IsLabel l → AllByRecursion (LineNames IsLabel) (block_lines insts f given (l, h))
  block_named l h label =
      all_both (LineNames IsLabel) (cond (l == h) (label_line l ∷ []) []) (map (normal_line given (is_front f l))
      (kept (joins_next f l) (block_insts insts l)))
      (own (l == h))
      (all_mapped (λ i. IsFormed i × Names IsLabel i) (LineNames IsLabel) (normal_line given (is_front f l))
      (λ i u. normal_labels IsLabel given given_label (is_front f l) i u.0 u.1) (kept (joins_next f l) (block_insts insts l))
      (all_kept (λ i. IsFormed i × Names IsLabel i) (joins_next f l) (block_insts insts l)
      (all_pairs IsFormed (Names IsLabel) (block_insts insts l) (block_formed l) (block_labels insts admitted.clean l label))))
    where
      own : (b : Bool) → AllByRecursion (LineNames IsLabel) (cond b (label_line l ∷ []) [])
      own true = (label_labels IsLabel l, tt)
      own false = tt

  blocks_named : (before : Option (ℕ × ℕ)) (ls : List ℕ) → AllByRecursion IsLabel ls → AllByRecursion (LineNames IsLabel)
      (flat_map (block_lines insts f given) (with_labels f before ls))
  blocks_named before [] h = tt
  blocks_named before (l ∷ ls) h =
      let stay = label_behind f before l in
      all_both (LineNames IsLabel) (block_lines insts f given (l, stay)) (flat_map (block_lines insts f given) (with_labels f (Some (l, stay)) ls))
      (block_named l stay h.0) (blocks_named (Some (l, stay)) ls h.1)

  lines_named : AllByRecursion (LineNames IsLabel)
      (map line (before_labels insts) ++ (flat_map (block_lines insts f given) (with_labels f None (ordered f)) ++ instruction op.FUNCTION_END [] ∷ []))
  lines_named =
      let blocks = flat_map (block_lines insts f given) (with_labels f None (ordered f)) in
      let end = instruction op.FUNCTION_END [] ∷ [] in
      all_both (LineNames IsLabel) (map line (before_labels insts)) (blocks ++ end)
      (all_mapped (Names IsLabel) (LineNames IsLabel) line (line_labels IsLabel) (before_labels insts) (before_none IsLabel insts admitted.text))
      (all_both (LineNames IsLabel) blocks end (blocks_named None (ordered f) (order_labels insts stays tree admitted spells)) (end_labels IsLabel, tt))

-- the labels that the lines of the normal form name are labels of the function
pub function_labels : (text : List Instruction) (stays : ℕ → ℕ) (tree : Function) → IsAdmitted (without_marks text) → SpellsFunction
    (without_marks text) stays tree
    → AllByRecursion (LineNames (λ t. is_label (blocks_of (without_marks text)) t ≡ true)) (normal_function text)
function_labels text stays tree admitted spells = lines_named (without_marks text) stays tree admitted spells
