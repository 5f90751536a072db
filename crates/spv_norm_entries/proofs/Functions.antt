-- Each function of the normal form is the normal form of a function of the module: by the places of their OpFunction.
use Rattle.std.proofs.Common.{◌≡◌, inl, inr, ◌⊎◌, ℕ, suc, Bool, true, cond, not, ◌==◌, ◌||◌, List, [], ◌∷◌, ◌++◌, map, drop, take, slice_get, Option, Some, None, refl, sym, ap, subst, ◌∙◌}
use Rattle.std.specs.List.{AllByRecursion, flat_map}
use Rattle.spv_opcodes.specs.declared.op.TheConstants as op
use Rattle.spv_module.specs.Code.{is_function, is_line}
use Rattle.spv_module.specs.Instruction.{Instruction, opcode}
use Rattle.spv_blocks.specs.Cutting.{begun_function, blocks_of, function_from, function_insts, rest_of_function, starts}
use Rattle.spv_walk.proofs.Unique.{equal_true, truth_apart}
use Rattle.spv_bodies.specs.Listing.{instruction}
use Rattle.spv_normal.specs.Lines.{before_labels, line, without_marks}
use Rattle.spv_normal.specs.Normal.{block_lines, normal_function}
use Rattle.spv_normal.specs.Order.{ordered, with_labels}
use Rattle.spv_normal_trees.specs.Laws.{stays_by}
use Rattle.spv_tree.specs.declared.body.Body.{Body}
use Rattle.spv_tree.specs.Tree.{body_of, words_of}
use Rattle.spv_spelling.specs.Whole.{IsText}
use Rattle.spv_calls.specs.Calls.{function_at, function_in, up_to_function}
use Rattle.spv_structured.proofs.Lists.{each_at}
use Rattle.spv_trees.specs.Standing.{OneOf}
use Rattle.spv_norm_means.proofs.InOrder.{joined}
use Rattle.spv_norm_structured.specs.Laws.{IsNormAgain, IsReadAsTrees}
use Rattle.spv_norm_structured.proofs.Again.{IsAgain, are_pieces, halves, known, outside_again, pieces, whole}
use Rattle.spv_norm_structured.proofs.Pieces.{BeginsNone}
use Rattle.spv_norm_entries.proofs.Lists.{IsBack, IsFront, drop_at, filtered_one, front_or_back, one_filtered}
use Rattle.spv_norm_entries.proofs.Made.{IsMade, function_made, made_of_more}
use Rattle.spv_norm_entries.proofs.Starts.{begins_none_at, begun_at, outside_none, rest_within, start_of}

-- ---- the first line of a function

-- the lines of a function's instructions without line marks, from the first label on
abbrev block_part : List Instruction → List (List ℕ)
block_part is =
    flat_map (block_lines is (blocks_of is) (stays_by (blocks_of is))) (with_labels (blocks_of is) None (ordered (blocks_of is)))
    ++ instruction op.FUNCTION_END [] ∷ []

abbrev lines_from : List Instruction → List (List ℕ)
lines_from is = map line (before_labels is) ++ block_part is

abbrev lines_behind : (j : Instruction) (is : List Instruction) → List (List ℕ)
lines_behind j is = map line (before_labels is) ++ block_part (j ∷ is)

first_line : (j : Instruction) (rest : List Instruction) → is_function j ≡ true → normal_function (j ∷ rest) ≡ j.words ∷ lines_behind j (without_marks rest)
first_line j rest h =
    let e = equal_true (opcode j) op.FUNCTION h in
    let is : List Instruction = without_marks rest in
    ap (λ (b : Bool). lines_from (cond (not b) (j ∷ is) is)) (ap (λ o. o == op.LINE || o == op.NO_LINE) e)
    ∙ ap (λ (b : Bool). map line (cond b [] (j ∷ before_labels is)) ++ block_part (j ∷ is)) (ap (λ o. o == op.LABEL) e)
    ∙ ap (λ (b : Bool). cond b (instruction op.BRANCH_CONDITIONAL (take 3 (drop 1 j.words))) j.words ∷ lines_behind j is)
    (ap (λ o. o == op.BRANCH_CONDITIONAL) e)

-- ---- what holds of lines holds of instructions with their words

all_with_words : (Q : List ℕ → Type 0) (is : List Instruction) (ws : List (List ℕ)) → words_of is ≡ ws → AllByRecursion Q ws
    → AllByRecursion (λ (i : Instruction). Q i.words) is
all_with_words Q [] ws e h = tt
all_with_words Q (i ∷ is) [] e h = absurd (cc e)
all_with_words Q (i ∷ is) (w ∷ ws) e h =
    let here : i.words ≡ w = cc e in
    let later : words_of is ≡ ws = cc e in
    (subst Q (sym here) h.0, all_with_words Q is ws later h.1)

-- the instructions of the function at a place, without line marks
abbrev pub plain_at : List Instruction → (q : ℕ) → List Instruction
plain_at insts q = without_marks (function_at insts q)

no_text : IsText [] → ⊥
no_text t = absurd (cc t.same)

module _ (insts again : List Instruction) (bodies : List Body) (h : IsReadAsTrees insts bodies) (n : IsNormAgain insts again) where
  -- the function at p of the normal form is made of that at q of the module
  pub record Corresponds (p q : ℕ) : Type 0 where
    pub first : Instruction
    pub there : slice_get again p ≡ Some first
    pub source : Instruction
    pub stands : slice_get insts q ≡ Some source
    pub begins : is_function source ≡ true
    pub same : first.words ≡ source.words
    pub made : (i : Instruction) → OneOf i (function_at again p) → IsMade insts (plain_at insts q) i.words

  abbrev front : List Instruction
  front = (halves insts again bodies h n).front

  abbrev texts : List (List Instruction)
  texts = (pieces insts again bodies h n).texts

  pub front_begins : AllByRecursion BeginsNone front
  front_begins = subst (AllByRecursion BeginsNone) (outside_again insts again bodies h n) (outside_none again)

  -- the lines of a function of the normal form are made of one of the module
  pub text_made : (f : ℕ) (t : List Instruction) → IsAgain insts bodies f t
      → AllByRecursion (λ (x : Instruction). IsMade insts (without_marks (function_insts f insts)) x.words) t
  text_made f t a =
      let s = a.tree.parsed.spelled in
      all_with_words (IsMade insts (without_marks (function_insts f insts))) t (normal_function (function_insts f insts)) (a.lists ∙ a.tree.normal)
      (function_made insts h.instructions h.once f s.stays (body_of a.body) s.admitted s.spells)

  -- the function is the one with this number
  by_start : (p : ℕ) (i : Instruction) → slice_get again p ≡ Some i → (f : ℕ) (t rest : List Instruction) → IsAgain insts bodies f t → t ≡ i ∷ rest
      → function_at again p ≡ t → (o : Option ℕ) → slice_get (starts insts) f ≡ o → (q : ℕ) × Corresponds p q
  by_start p i there f t rest a same text None e =
      let empty : without_marks (function_insts f insts) ≡ [] = ap (λ o. without_marks (function_from insts o)) e in
      absurd (no_text (subst IsText empty a.tree.parsed.spelled.admitted.text))
  by_start p i there f t rest a same text (Some q) e =
      let st = start_of insts f q e in
      let j : Instruction = st.0 in
      let behind : List Instruction = drop (suc q) insts in
      let function : function_insts f insts ≡ j ∷ rest_of_function behind =
      ap (function_from insts) e ∙ ap begun_function (drop_at insts q j st.1) in
      let here : function_at insts q ≡ j ∷ up_to_function behind =
      ap function_in (drop_at insts q j st.1) ∙ ap (λ (b : Bool). cond b (j ∷ up_to_function behind) []) st.2 in
      let lines : words_of t ≡ normal_function (function_insts f insts) = a.lists ∙ a.tree.normal in
      let firsts : i.words ∷ words_of rest ≡ j.words ∷ lines_behind j (without_marks (rest_of_function behind)) =
      ap words_of (sym same) ∙ lines ∙ ap normal_function function ∙ first_line j (rest_of_function behind) st.2 in
      let words : i.words ≡ j.words = cc firsts in (
        q,
        record {
          first = i;
          there = there;
          source = j;
          stands = st.1;
          begins = st.2;
          same = words;
          made = λ x one. made_of_more insts (without_marks (function_insts f insts)) (plain_at insts q) x.words (within j behind function here)
              (each_at (λ (x : Instruction). IsMade insts (without_marks (function_insts f insts)) x.words) t (text_made f t a) x (subst (OneOf x) text one));
        },
      )
    where
      within : (j : Instruction) (behind : List Instruction) → function_insts f insts ≡ j ∷ rest_of_function behind
          → function_at insts q ≡ j ∷ up_to_function behind → (x : Instruction) → OneOf x (without_marks (function_insts f insts)) → OneOf x (plain_at insts q)
      within j behind function here x one =
          let k = filtered_one (λ i. not (is_line i)) (function_insts f insts) x one in
          one_filtered (λ i. not (is_line i)) (function_at insts q) x
          (subst (OneOf x) (sym here) (wider (subst (OneOf x) function k.0))) k.1
        where
          wider : OneOf x (j ∷ rest_of_function behind) → OneOf x (j ∷ up_to_function behind)
          wider (inl s) = inl s
          wider (inr o) = inr (rest_within behind x o)

  -- each function of the normal form is made of one
  pub corresponding : (p : ℕ) (i : Instruction) → slice_get again p ≡ Some i → is_function i ≡ true → (q : ℕ) × Corresponds p q
  corresponding p i there f =
      by (front_or_back front (joined texts) p i (ap (λ z. slice_get z p) (sym (whole insts again bodies h n)) ∙ there))
    where
      by : IsFront front (joined texts) p i ⊎ IsBack front (joined texts) p i → (q : ℕ) × Corresponds p q
      by (inl r) = truth_apart (is_function i) f (begins_none_at front p i front_begins r.there)
      by (inr r) =
          let b = begun_at texts (are_pieces insts again bodies h n) r.place i r.there f in
          let text : function_at again p ≡ b.text =
          ap (λ z. function_in (drop p z)) (whole insts again bodies h n) ∙ ap function_in r.behind ∙ b.begun in
          by_start p i there b.number b.text b.rest (known insts again bodies h n b.number b.text b.at) b.same text (slice_get (starts insts) b.number) refl
