-- The lines of a listing are those of a function: OpFunction, its parameters, the lines of blocks and OpFunctionEnd. None is a line mark.
use Rattle.std.proofs.Common.{◌≡◌, ℕ, inl, inr, Bool, true, false, not, ◌==◌, ◌||◌, cond, List, [], ◌∷◌, ◌++◌, refl, sym, ap, ap₂, ◌∙◌, subst, append_assoc, arith, All}
use Rattle.std.specs.List.{AllByRecursion}
use Rattle.std.proofs.lemmas.Bool.{eqb-true}
use Rattle.std.proofs.lemmas.List.Elements.{All-cons, All-nil, All-head, All-tail}
use Rattle.spv_opcodes.specs.declared.op.TheConstants as op
use Rattle.spv_grammar.specs.Table.{row_of}
use Rattle.spv_module.specs.Code.{is_line}
use Rattle.spv_module.specs.Instruction.{Instruction, opcode}
use Rattle.spv_walk.proofs.Unique.{either_holds, equal_true, left_holds, right_holds, tells, truth_apart}
use Rattle.spv_bodies.specs.Bodies.{Parameter, Body, Function}
use Rattle.spv_bodies.specs.Listing.{Branching, in_order, phi_pairs, pair_words, instruction, label_line, branch_line, split_line, phi_line, selection_line, loop_line, lines, listed}
use Rattle.spv_normal.specs.Lines.{without_marks}
use Rattle.spv_tree.specs.Branches.{branches_in}
use Rattle.spv_tree.specs.Sound.{is_step, is_end, is_one_of, opcode_in, IsFormed, IsSound}
use Rattle.spv_tree.specs.Tree.{words_of}
use Rattle.spv_spelling.specs.Whole.{IsText, block_marks, is_in_block}
use Rattle.spv_structured.specs.Laws.{Opens}
use Rattle.spv_normal_trees.proofs.Texts.{opcode_spelled}
use Rattle.spv_respelling.proofs.EachLine.{OfLines, body_each, steps_by}

-- ---- lines of blocks

abbrev in_block : ℕ → Bool
in_block o =
    o == op.LABEL
    || (o == op.BRANCH || o == op.BRANCH_CONDITIONAL || o == op.SWITCH || o == op.RETURN || o == op.RETURN_VALUE || o == op.UNREACHABLE) || is_step o
    || is_one_of block_marks o

abbrev Inside : List ℕ → Type 0
Inside w = in_block (opcode_in w) ≡ true

inside_by : (w : List ℕ) (o : ℕ) → opcode_in w ≡ o → in_block o ≡ true → Inside w
inside_by w o same is = ap in_block same ∙ is

step_inside : (w : List ℕ) → is_step (opcode_in w) ≡ true → Inside w
step_inside w h =
    let o = opcode_in w in
    left_holds (o == op.LABEL ||
    (o == op.BRANCH || o == op.BRANCH_CONDITIONAL || o == op.SWITCH || o == op.RETURN || o == op.RETURN_VALUE || o == op.UNREACHABLE) || is_step o)
    (is_one_of block_marks o)
    (right_holds (o == op.LABEL ||
    (o == op.BRANCH || o == op.BRANCH_CONDITIONAL || o == op.SWITCH || o == op.RETURN || o == op.RETURN_VALUE || o == op.UNREACHABLE)) (is_step o) h)

end_inside : (w : List ℕ) → is_end (opcode_in w) ≡ true → Inside w
unfolding row_of
end_inside w h =
    let o = opcode_in w in
    elim (either_holds (o == op.RETURN) ((o == op.RETURN_VALUE) || ((o == op.UNREACHABLE) || false)) h) [
      | inl e ↦ inside_by w op.RETURN (eqb-true o op.RETURN e) refl
      | inr g ↦ elim (either_holds (o == op.RETURN_VALUE) ((o == op.UNREACHABLE) || false) g) [
        | inl e ↦ inside_by w op.RETURN_VALUE (eqb-true o op.RETURN_VALUE e) refl
        | inr k ↦ elim (either_holds (o == op.UNREACHABLE) false k) [
          | inl e ↦ inside_by w op.UNREACHABLE (eqb-true o op.UNREACHABLE e) refl
          | inr f ↦ absurd (cc f)
        ]
      ]
    ]

label_inside : (label : ℕ) → Inside (label_line label)
unfolding row_of
label_inside label = refl

branch_inside : (label : ℕ) → Inside (branch_line label)
unfolding row_of
branch_inside label = refl

split_inside : (condition : ℕ) (on : Bool) (exit other : ℕ) → Inside (split_line condition on exit other)
unfolding row_of
split_inside condition true exit other = refl
split_inside condition false exit other = refl

selection_inside : (merge control : ℕ) → Inside (selection_line merge control)
unfolding row_of
selection_inside merge control = refl

loop_inside : (merge next control : ℕ) → Inside (loop_line merge next control)
unfolding row_of
loop_inside merge next control = refl

switch_inside : (words : List ℕ) → Inside (instruction op.SWITCH words)
unfolding row_of
switch_inside words = inside_by (instruction op.SWITCH words) op.SWITCH (opcode_spelled op.SWITCH words (omega arith)) refl

phi_inside : (k : ℕ) (here : List Branching) (p : Parameter) → Inside (phi_line k here p)
unfolding row_of
phi_inside k here p =
    let words = p.type ∷ p.result_id ∷ pair_words (phi_pairs k (in_order p.parents here)) in
    inside_by (instruction op.PHI words) op.PHI (opcode_spelled op.PHI words (omega arith)) refl

are_inside : OfLines Inside
are_inside = record {
  label = label_inside;
  branch = branch_inside;
  split = split_inside;
  selection = selection_inside;
  loop = loop_inside;
  switch = λ selector default cases count. switch_inside (selector ∷ default ∷ pair_words cases);
  phi = λ k here p short. phi_inside k here p;
}

body_inside : (all : List Branching) (b : Body) → IsFormed all b → AllByRecursion Inside (lines all [] b)
body_inside all b formed = body_each Inside all are_inside b [] tt formed (steps_by Inside all step_inside end_inside b formed)

-- ---- instructions with these words

-- instructions in two parts, by their words
record Parted (is : List Instruction) (xs ys : List (List ℕ)) : Type 0 where
  front : List Instruction
  back : List Instruction
  same : is ≡ front ++ back
  front_words : words_of front ≡ xs
  back_words : words_of back ≡ ys

one_more : (i : Instruction) (is : List Instruction) (x : List ℕ) (xs ys : List (List ℕ)) → i.words ≡ x → Parted is xs ys → Parted (i ∷ is) (x ∷ xs) ys
one_more i is x xs ys e r = record {
  front = i ∷ r.front;
  back = r.back;
  same = ap (λ z. i ∷ z) r.same;
  front_words = ap₂ (λ z zs. z ∷ zs) e r.front_words;
  back_words = r.back_words;
}

parted : (is : List Instruction) (xs ys : List (List ℕ)) → words_of is ≡ xs ++ ys → Parted is xs ys
parted is [] ys e = record { front = []; back = is; same = refl; front_words = refl; back_words = e }
parted [] (x ∷ xs) ys e = absurd (cc e)
parted (i ∷ is) (x ∷ xs) ys e =
    let here : i.words ≡ x = cc e in
    let later : words_of is ≡ xs ++ ys = cc e in
    one_more i is x xs ys here (parted is xs ys later)

-- one with the words of a line
record One (is : List Instruction) (w : List ℕ) : Type 0 where
  one : Instruction
  same : is ≡ one ∷ []
  words : one.words ≡ w

one_of : (is : List Instruction) (w : List ℕ) → words_of is ≡ w ∷ [] → One is w
one_of [] w e = absurd (cc e)
one_of (i ∷ []) w e = record { one = i; same = refl; words = (let h : i.words ≡ w = cc e in h) }
one_of (i ∷ j ∷ is) w e = absurd (cc e)

all_by_words : (P : List ℕ → Type 0) (is : List Instruction) (ws : List (List ℕ)) → words_of is ≡ ws → AllByRecursion P ws
    → All (λ (i : Instruction). P i.words) is
all_by_words P is ws e h = each is (subst (λ z. AllByRecursion P z) (sym e) h)
  where
    each : (is : List Instruction) → AllByRecursion P (words_of is) → All (λ (i : Instruction). P i.words) is
    each [] h = All-nil (λ (i : Instruction). P i.words)
    each (i ∷ is) h = All-cons (λ (i : Instruction). P i.words) i is h.0 (each is h.1)

-- the parts of a function, put together
assembled : (insts xs front ys parameters zs labels us blocks : List Instruction) (function label last : Instruction) → insts ≡ front ++ xs
    → front ≡ function ∷ [] → xs ≡ parameters ++ ys → ys ≡ labels ++ zs → labels ≡ label ∷ [] → zs ≡ blocks ++ us → us ≡ last ∷ []
    → insts ≡ function ∷ (parameters ++ (label ∷ blocks) ++ last ∷ [])
assembled insts xs front ys parameters zs labels us blocks function label last e1 e2 e3 e4 e5 e6 e7 =
    e1 ∙ ap (λ z. z ++ xs) e2 ∙ ap (λ z. function ∷ z) e3 ∙ ap (λ z. function ∷ (parameters ++ z)) e4
    ∙ ap (λ z. function ∷ (parameters ++ (z ++ zs))) e5 ∙ ap (λ z. function ∷ (parameters ++ label ∷ z)) e6
    ∙ ap (λ z. function ∷ (parameters ++ label ∷ (blocks ++ z))) e7
    ∙ ap (λ z. function ∷ z) (sym (append_assoc parameters (label ∷ blocks) (last ∷ [])))

-- the listing of a sound function has the shape of a function
pub listing_text : (f : Function) (again : List Instruction) → IsSound f → Opens f → words_of again ≡ listed f → IsText again
listing_text f again sound opened same =
    let all = branches_in f in
    let last = instruction op.FUNCTION_END [] ∷ [] in
    let body = lines all [] f.body in
    let a = parted again (f.function ∷ []) (f.parameters ++ label_line f.label ∷ (body ++ last)) same in
    let b = parted a.back f.parameters (label_line f.label ∷ (body ++ last)) a.back_words in
    let c = parted b.back (label_line f.label ∷ []) (body ++ last) b.back_words in
    let d = parted c.back body last c.back_words in
    let function = one_of a.front f.function a.front_words in
    let label = one_of c.front (label_line f.label) c.front_words in
    let end = one_of d.back (instruction op.FUNCTION_END []) d.back_words in
    record {
      function = function.one;
      parameters = b.front;
      label = label.one;
      blocks = d.front;
      last = end.one;
      same =
          assembled again a.back a.front b.back b.front c.back c.front d.back d.front function.one label.one end.one a.same function.same b.same c.same label.same
          d.same end.same;
      begins = ap opcode_in function.words ∙ opened.function;
      takes = all_by_words (λ w. opcode_in w ≡ op.FUNCTION_PARAMETER) b.front f.parameters b.front_words opened.parameters;
      first = ap (λ w. opcode_in w == op.LABEL) label.words;
      inside = all_by_words Inside d.front body d.front_words (body_inside all f.body sound.formed);
      ends = ap opcode_in end.words;
    }

-- ---- line marks

apart_from : (test : ℕ → Bool) (o p : ℕ) → test o ≡ true → test p ≡ false → (o == p) ≡ false
apart_from test o p is other = elim (tells (o == p)) [
  | inl e ↦ truth_apart (test o) is (ap test (equal_true o p e) ∙ other)
  | inr e ↦ e
]

block_no_mark : (i : Instruction) → is_in_block i ≡ true → is_line i ≡ false
unfolding row_of
block_no_mark i h = rw (apart_from in_block (opcode i) op.LINE h refl, apart_from in_block (opcode i) op.NO_LINE h refl) refl

opcode_no_mark : (i : Instruction) (o : ℕ) → opcode i ≡ o → (o == op.LINE || o == op.NO_LINE) ≡ false → is_line i ≡ false
opcode_no_mark i o same other = ap (λ p. p == op.LINE || p == op.NO_LINE) same ∙ other

kept_first : (i : Instruction) (is : List Instruction) → is_line i ≡ false → without_marks is ≡ is → without_marks (i ∷ is) ≡ i ∷ is
kept_first i is e h = ap (λ b. cond (not b) (i ∷ without_marks is) (without_marks is)) e ∙ ap (λ z. i ∷ z) h

kept_all : (xs ys : List Instruction) → All (λ i. is_line i ≡ false) xs → without_marks ys ≡ ys → without_marks (xs ++ ys) ≡ xs ++ ys
kept_all [] ys h g = g
kept_all (x ∷ xs) ys h g =
    kept_first x (xs ++ ys) (All-head (λ i. is_line i ≡ false) x xs h) (kept_all xs ys (All-tail (λ i. is_line i ≡ false) x xs h) g)

all_also : (P Q : Instruction → Type 0) (is : List Instruction) → ((i : Instruction) → P i → Q i) → All P is → All Q is
all_also P Q [] h a = All-nil Q
all_also P Q (i ∷ is) h a = All-cons Q i is (h i (All-head P i is a)) (all_also P Q is h (All-tail P i is a))

-- a function without line marks stays when they are dropped
pub no_marks : (insts : List Instruction) → IsText insts → without_marks insts ≡ insts
no_marks insts t =
    let Plain : Instruction → Type 0 = λ i. is_line i ≡ false in
    let parameters = all_also (λ i. opcode i ≡ op.FUNCTION_PARAMETER) Plain t.parameters (λ i e. opcode_no_mark i op.FUNCTION_PARAMETER e refl) t.takes in
    let blocks = all_also (λ i. is_in_block i ≡ true) Plain t.blocks block_no_mark t.inside in
    let first : is_line t.label ≡ false = opcode_no_mark t.label op.LABEL (eqb-true (opcode t.label) op.LABEL t.first) refl in
    let end : without_marks (t.last ∷ []) ≡ t.last ∷ [] = kept_first t.last [] (opcode_no_mark t.last op.FUNCTION_END t.ends refl) refl in
    let whole : t.function ∷ (t.parameters ++ (t.label ∷ t.blocks) ++ t.last ∷ []) ≡ t.function ∷ (t.parameters ++ (t.label ∷ (t.blocks ++ t.last ∷ []))) =
    ap (λ z. t.function ∷ z) (append_assoc t.parameters (t.label ∷ t.blocks) (t.last ∷ [])) in
    ap without_marks (t.same ∙ whole)
    ∙ kept_first t.function (t.parameters ++ (t.label ∷ (t.blocks ++ t.last ∷ []))) (opcode_no_mark t.function op.FUNCTION t.begins refl)
    (kept_all t.parameters (t.label ∷ (t.blocks ++ t.last ∷ [])) parameters
    (kept_first t.label (t.blocks ++ t.last ∷ []) first (kept_all t.blocks (t.last ∷ []) blocks end)))
    ∙ sym (t.same ∙ whole)
