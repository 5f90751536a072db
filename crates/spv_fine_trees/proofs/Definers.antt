-- Which instructions of a function define ids: it itself, its parameters, labels, and steps and OpPhi of blocks.
use Rattle.std.proofs.Common.{◌≡◌, ◌⊎◌, inl, inr, ℕ, Bool, true, false, cond, ◌==◌, ◌||◌, nat_eq, List, [], ◌∷◌, ◌++◌, drop, take, slice_index, Option, Some, None, refl, sym, ap, subst, ◌∙◌, append_assoc}
use Rattle.std.specs.List.{flat_map}
use Rattle.std.specs.Option.{is_some, option_map_or}
use Rattle.graph.proofs.Elements.{equal}
use Rattle.spv_opcodes.specs.declared.op.TheConstants as op
use Rattle.spv_grammar.specs.Fronts.{has_result}
use Rattle.spv_grammar.specs.Roles.{is_defined_id}
use Rattle.spv_grammar.specs.Table.{row_of}
use Rattle.spv_module.specs.Code.{is_function, is_line}
use Rattle.spv_module.specs.Instruction.{Instruction, IsInstruction, opcode, roles, word_with}
use Rattle.spv_module.specs.Layout.{is_terminator}
use Rattle.spv_module.proofs.Told.{result_told}
use Rattle.spv_ids.specs.Ids.{defines}
use Rattle.spv_blocks.specs.Blocks.{has}
use Rattle.spv_blocks.specs.Cutting.{is_function_end, is_label_mark}
use Rattle.spv_walk.proofs.Unique.{either_holds, equal_true, left_holds, right_holds, true_equal, truth_apart}
use Rattle.spv_bodies.specs.Bodies.{Function}
use Rattle.spv_bodies.specs.Listing.{instruction}
use Rattle.spv_normal.specs.Lines.{before_labels, line}
use Rattle.spv_tree.specs.Sound.{is_one_of, is_step, opcode_in}
use Rattle.spv_tree.specs.Tree.{words_of}
use Rattle.spv_trees.specs.Standing.{OneOf}
use Rattle.spv_structured.proofs.Lists.{all_at, one_has, one_map, one_split}
use Rattle.spv_trees.proofs.Members.{one_left, one_right}
use Rattle.spv_spelling.specs.Text.{is_phi}
use Rattle.spv_spelling.specs.Whole.{IsText, block_marks, is_in_block}
use Rattle.spv_availability.specs.Availability.{is_everywhere}
use Rattle.spv_fine.specs.Fine.{defined_in}
use Rattle.spv_fine.proofs.Homes.{NoLabels, phi_defines}

-- ---- what defines nothing

nothing_defined : (id : ℕ) (o : Option ℕ) → is_some o ≡ false → option_map_or (nat_eq id) o false ≡ false
nothing_defined id None h = refl
nothing_defined id (Some x) h = absurd (cc h)

no_result : (id k : ℕ) (i : Instruction) → IsInstruction i.words (roles i) → opcode i ≡ k → has_result k ≡ false → defines id i ≡ true → {P : Type 0} → P
no_result id k i whole e none h =
    truth_apart (defines id i) h (nothing_defined id (word_with is_defined_id i) (result_told i.words (roles i) whole ∙ ap has_result e ∙ none))

-- the opcodes of terminators, merge instructions, OpFunctionEnd and line marks
abbrev quiet : List ℕ
quiet =
    op.BRANCH ∷ op.BRANCH_CONDITIONAL ∷ op.SWITCH ∷ op.RETURN ∷ op.RETURN_VALUE ∷ op.UNREACHABLE ∷ op.LOOP_MERGE ∷ op.SELECTION_MERGE ∷ op.FUNCTION_END
    ∷ op.LINE ∷ op.NO_LINE ∷ []

abbrev NoneHave : List ℕ → Type 0
NoneHave [] = Unit {0}
NoneHave (o ∷ os) = (has_result o ≡ false) × NoneHave os

none_have : NoneHave quiet
unfolding row_of
none_have = (refl, (refl, (refl, (refl, (refl, (refl, (refl, (refl, (refl, (refl, (refl, tt)))))))))))

quiet_by : (id : ℕ) (i : Instruction) → IsInstruction i.words (roles i) → (os : List ℕ) → NoneHave os → OneOf (opcode i) os → defines id i ≡ true
    → {P : Type 0} → P
quiet_by id i whole [] none o h = absurd o
quiet_by id i whole (x ∷ os) none (inl e) h = no_result id x i whole e none.0 h
quiet_by id i whole (x ∷ os) none (inr o) h = quiet_by id i whole os none.1 o h

pub defines_nothing : (id : ℕ) (i : Instruction) → IsInstruction i.words (roles i) → OneOf (opcode i) quiet → defines id i ≡ true → {P : Type 0} → P
defines_nothing id i whole o h = quiet_by id i whole quiet none_have o h

pub no_mark : (id : ℕ) (i : Instruction) → IsInstruction i.words (roles i) → defines id i ≡ true → is_line i ≡ false
no_mark id i whole h = by (is_line i) refl where
  by : (b : Bool) → is_line i ≡ b → b ≡ false
  by false e = refl
  by true e = elim (either_holds (opcode i == op.LINE) (opcode i == op.NO_LINE) e) [
    | inl k ↦ defines_nothing id i whole
        (inr (inr (inr (inr (inr (inr (inr (inr (inr (inl (equal_true (opcode i) op.LINE k))))))))))) h
    | inr k ↦ defines_nothing id i whole
        (inr (inr (inr (inr (inr (inr (inr (inr (inr (inr (inl (equal_true (opcode i) op.NO_LINE k)))))))))))) h
  ]

pub no_end : (id : ℕ) (i : Instruction) → IsInstruction i.words (roles i) → defines id i ≡ true → is_function_end i ≡ false
no_end id i whole h = by (is_function_end i) refl where
  by : (b : Bool) → is_function_end i ≡ b → b ≡ false
  by false e = refl
  by true e = defines_nothing id i whole (inr (inr (inr (inr (inr (inr (inr (inr (inl (equal_true (opcode i) op.FUNCTION_END e)))))))))) h

-- the id that an instruction defines
pub defined_word : (id : ℕ) (i : Instruction) → defines id i ≡ true → word_with is_defined_id i ≡ Some id
defined_word id i h = by (word_with is_defined_id i) h where
  by : (o : Option ℕ) → option_map_or (nat_eq id) o false ≡ true → o ≡ Some id
  by None e = absurd (cc (e))
  by (Some x) e = ap Some (sym (equal id x e))

pub defined_has : (id : ℕ) (i : Instruction) → word_with is_defined_id i ≡ Some id → OneOf id (defined_in i.words)
defined_has id i e = subst (OneOf id) (sym (ap (λ o. option_map_or (λ x. x ∷ []) o []) e)) (inl refl)

-- ---- the parts of a function

-- what an instruction of a function that defines an id is
pub data IsDefiner (is : List Instruction) (t : IsText is) (i : Instruction) : Type 0 where
  OfAll : is_everywhere i ≡ true → IsDefiner is t i
  OfParameter : OneOf i t.parameters → IsDefiner is t i
  OfBlock : is_label_mark i ≡ false → (is_step (opcode i) ≡ true) ⊎ (opcode i ≡ op.PHI) → IsDefiner is t i

label_everywhere : (i : Instruction) → is_label_mark i ≡ true → is_everywhere i ≡ true
label_everywhere i h = right_holds (is_function i) (is_label_mark i) h

function_everywhere : (i : Instruction) → opcode i ≡ op.FUNCTION → is_everywhere i ≡ true
function_everywhere i h = left_holds (is_function i) (is_label_mark i) (true_equal (opcode i) op.FUNCTION h)

terminator_quiet : (i : Instruction) → is_terminator i ≡ true → OneOf (opcode i) quiet
terminator_quiet i h = by (opcode i) h where
  by : (o : ℕ)
      → (o == op.BRANCH || o == op.BRANCH_CONDITIONAL || o == op.SWITCH || o == op.RETURN || o == op.RETURN_VALUE || o == op.UNREACHABLE) ≡ true → OneOf o quiet
  by o e = elim (either_holds
      (o == op.BRANCH || o == op.BRANCH_CONDITIONAL || o == op.SWITCH || o == op.RETURN || o == op.RETURN_VALUE) (o == op.UNREACHABLE) e) [
        | inr k ↦ inr (inr (inr (inr (inr (inl (equal_true o op.UNREACHABLE k))))))
        | inl e ↦ elim (either_holds (o == op.BRANCH || o == op.BRANCH_CONDITIONAL || o == op.SWITCH || o == op.RETURN) (o == op.RETURN_VALUE) e) [
          | inr k ↦ inr (inr (inr (inr (inl (equal_true o op.RETURN_VALUE k)))))
          | inl e ↦ elim (either_holds (o == op.BRANCH || o == op.BRANCH_CONDITIONAL || o == op.SWITCH) (o == op.RETURN) e) [
            | inr k ↦ inr (inr (inr (inl (equal_true o op.RETURN k))))
            | inl e ↦ elim (either_holds (o == op.BRANCH || o == op.BRANCH_CONDITIONAL) (o == op.SWITCH) e) [
              | inr k ↦ inr (inr (inl (equal_true o op.SWITCH k)))
              | inl e ↦ elim (either_holds (o == op.BRANCH) (o == op.BRANCH_CONDITIONAL) e) [
                | inl k ↦ inl (equal_true o op.BRANCH k)
                | inr k ↦ inr (inl (equal_true o op.BRANCH_CONDITIONAL k))
              ]
            ]
          ]
        ]
      ]

cut_front : (xs : List Instruction) (label : Instruction) (ys : List Instruction) → ((j : Instruction) → OneOf j xs → is_label_mark j ≡ false)
    → is_label_mark label ≡ true → before_labels (xs ++ label ∷ ys) ≡ xs
cut_front [] label ys none mark = ap (λ b. cond b [] (label ∷ before_labels ys)) mark
cut_front (x ∷ xs) label ys none mark =
    ap (λ b. cond b [] (x ∷ before_labels (xs ++ label ∷ ys))) (none x (inl refl)) ∙ ap (λ z. x ∷ z) (cut_front xs label ys (λ j o. none j (inr o)) mark)

-- before the first label stand OpFunction and the parameters
pub front_of_text : (is : List Instruction) (t : IsText is) → before_labels is ≡ t.function ∷ t.parameters
front_of_text is t =
    ap before_labels (t.same ∙ ap (λ z. t.function ∷ z) (append_assoc t.parameters (t.label ∷ t.blocks) (t.last ∷ [])))
    ∙ cut_front (t.function ∷ t.parameters) t.label (t.blocks ++ t.last ∷ []) (λ j o. elim o [
      | inl e ↦ ap (λ o. o == op.LABEL) (ap opcode e ∙ t.begins)
      | inr o ↦ ap (λ o. o == op.LABEL) (all_at (λ k. opcode k ≡ op.FUNCTION_PARAMETER) t.parameters t.takes j o)
    ]) t.first

step_no_branch : (o : ℕ) → is_step o ≡ true → (o == op.BRANCH_CONDITIONAL) ≡ false
unfolding row_of
step_no_branch o h = by (o == op.BRANCH_CONDITIONAL) refl where
  by : (b : Bool) → (o == op.BRANCH_CONDITIONAL) ≡ b → b ≡ false
  by false e = refl
  by true e = truth_apart (is_step o) h (ap is_step (equal_true o op.BRANCH_CONDITIONAL e))

module _ (is : List Instruction) (t : IsText is) (id : ℕ) (i : Instruction) (whole : IsInstruction i.words (roles i)) (d : defines id i ≡ true) where
  mark_definer : is_label_mark i ≡ false → is_one_of block_marks (opcode i) ≡ true → IsDefiner is t i
  mark_definer plain h = elim (either_holds (nat_eq (opcode i) op.PHI) _ h) [
    | inl k ↦ OfBlock plain (inr (equal (opcode i) op.PHI k))
    | inr h ↦ elim (either_holds (nat_eq (opcode i) op.LOOP_MERGE) _ h) [
      | inl k ↦ defines_nothing id i whole (inr (inr (inr (inr (inr (inr (inl (equal (opcode i) op.LOOP_MERGE k)))))))) d
      | inr h ↦ elim (either_holds (nat_eq (opcode i) op.SELECTION_MERGE) false h) [
        | inl k ↦ defines_nothing id i whole (inr (inr (inr (inr (inr (inr (inr (inl (equal (opcode i) op.SELECTION_MERGE k))))))))) d
        | inr k ↦ absurd (cc (k))
      ]
    ]
  ]

  block_definer : is_in_block i ≡ true → IsDefiner is t i
  block_definer h = by (is_label_mark i) refl
      (either_holds (is_label_mark i || is_terminator i || is_step (opcode i)) (is_one_of block_marks (opcode i)) h)
    where
      by : (b : Bool) → is_label_mark i ≡ b
          → ((is_label_mark i || is_terminator i || is_step (opcode i)) ≡ true) ⊎ (is_one_of block_marks (opcode i) ≡ true) → IsDefiner is t i
      by true e h = OfAll (label_everywhere i e)
      by false e (inr m) = mark_definer e m
      by false e (inl h) = elim (either_holds (is_label_mark i || is_terminator i) (is_step (opcode i)) h) [
        | inr s ↦ OfBlock e (inl s)
        | inl h ↦ elim (either_holds (is_label_mark i) (is_terminator i) h) [
          | inl k ↦ truth_apart (is_label_mark i) k e
          | inr k ↦ defines_nothing id i whole (terminator_quiet i k) d
        ]
      ]

  pub definer : OneOf i is → IsDefiner is t i
  definer o = elim (subst (OneOf i) t.same o) [
    | inl e ↦ OfAll (function_everywhere i (ap opcode e ∙ t.begins))
    | inr o ↦ elim (one_split i (t.parameters ++ (t.label ∷ t.blocks)) (t.last ∷ []) o) [
      | inl o ↦ elim (one_split i t.parameters (t.label ∷ t.blocks) o) [
        | inl o ↦ OfParameter o
        | inr o ↦ elim o [
          | inl e ↦ OfAll (label_everywhere i (ap is_label_mark e ∙ t.first))
          | inr o ↦ block_definer (all_at (λ j. is_in_block j ≡ true) t.blocks t.inside i o)
        ]
      ]
      | inr o ↦ elim o [
        | inl e ↦ defines_nothing id i whole (inr (inr (inr (inr (inr (inr (inr (inr (inl (ap opcode e ∙ t.ends)))))))))) d
        | inr none ↦ absurd none
      ]
    ]
  ]

  -- before the first label stand OpFunction and the parameters
  before_first : (xs : List Instruction) (label : Instruction) (ys pre post : List Instruction) → xs ++ label ∷ ys ≡ pre ++ i ∷ post
      → is_label_mark label ≡ true → NoLabels pre → OneOf i xs ⊎ (i ≡ label)
  before_first [] label ys [] post e mark none = inr (sym (cc (e)))
  before_first [] label ys (p ∷ pre) post e mark none =
      let same : label ≡ p = cc (e) in truth_apart (is_label_mark p) (ap is_label_mark (sym same) ∙ mark) none.0
  before_first (x ∷ xs) label ys [] post e mark none = inl (inl (sym (cc (e))))
  before_first (x ∷ xs) label ys (p ∷ pre) post e mark none = elim (before_first xs label ys pre post (cc (e)) mark none.1) [
    | inl o ↦ inl (inr o)
    | inr e ↦ inr e
  ]

  pub early : (pre post : List Instruction) → is ≡ pre ++ i ∷ post → NoLabels pre → (is_everywhere i ≡ true) ⊎ OneOf i t.parameters
  early pre post e none =
      elim (before_first (t.function ∷ t.parameters) t.label (t.blocks ++ t.last ∷ []) pre post (sym parted ∙ e) t.first none) [
        | inl o ↦ elim o [
          | inl e ↦ inl (function_everywhere i (ap opcode e ∙ t.begins))
          | inr o ↦ inr o
        ]
        | inr e ↦ inl (label_everywhere i (ap is_label_mark e ∙ t.first))
      ]
    where
      parted : is ≡ (t.function ∷ t.parameters) ++ t.label ∷ (t.blocks ++ t.last ∷ [])
      parted = t.same ∙ ap (λ z. t.function ∷ z) (append_assoc t.parameters (t.label ∷ t.blocks) (t.last ∷ []))

  -- the line of what defines an id in a block defines it
  pub block_defines : (is_step (opcode i) ≡ true) ⊎ (opcode i ≡ op.PHI)
      → ((is_step (opcode_in (line i)) ≡ true) × (has (defined_in (line i)) id ≡ true)) ⊎ ((is_phi (line i) ≡ true) × (slice_index (line i) 2 ≡ id))
  block_defines (inl s) =
      let plain : (opcode i == op.BRANCH_CONDITIONAL) ≡ false = step_no_branch (opcode i) s in
      let same : line i ≡ i.words = ap (λ b. cond b (instruction op.BRANCH_CONDITIONAL (take 3 (drop 1 i.words))) i.words) plain in
      inl (
        ap (λ w. is_step (opcode_in w)) same ∙ s,
        ap (λ w. has (defined_in w) id) same ∙ one_has (defined_in i.words) id (defined_has id i (defined_word id i d)),
      )
  block_defines (inr p) =
      let same : line i ≡ i.words = ap (λ o. cond (o == op.BRANCH_CONDITIONAL) (instruction op.BRANCH_CONDITIONAL (take 3 (drop 1 i.words))) i.words) p in
      let first : word_with is_defined_id i ≡ Some (slice_index i.words 2) = phi_defines i whole p in
      inr (ap is_phi same ∙ ap (λ o. o == op.PHI) p, ap (λ w. slice_index w 2) same ∙ some_same (slice_index i.words 2) id (sym first ∙ defined_word id i d))
    where
      some_same : (a b : ℕ) → Some a ≡ Some b → a ≡ b
      some_same a b e = cc (e)

  -- the tree has what its parameters define
  pub of_parameters : (f : Function) → words_of (before_labels is) ≡ f.function ∷ f.parameters → OneOf i t.parameters
      → has (flat_map defined_in f.parameters) id ≡ true
  of_parameters f e o =
      one_has (flat_map defined_in f.parameters) id (flat_one f.parameters
      (subst (OneOf i.words) (tail_same (ap words_of (sym (front_of_text is t)) ∙ e)) (one_map (λ (j : Instruction). j.words) t.parameters i o)))
    where
      tail_same : {x y : List ℕ} {xs ys : List (List ℕ)} → x ∷ xs ≡ y ∷ ys → xs ≡ ys
      tail_same e = cc (e)

      flat_one : (ws : List (List ℕ)) → OneOf i.words ws → OneOf id (flat_map defined_in ws)
      flat_one [] o = absurd o
      flat_one (w ∷ ws) (inl e) =
          one_left id (defined_in w) (flat_map defined_in ws) (subst (λ z. OneOf id (defined_in z)) e (defined_has id i (defined_word id i d)))
      flat_one (w ∷ ws) (inr o) = one_right id (defined_in w) (flat_map defined_in ws) (flat_one ws o)
