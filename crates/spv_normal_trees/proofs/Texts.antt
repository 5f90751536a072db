-- The lines of a block: what they tell of its end, and what they are in the normal form.
use Rattle.std.proofs.Common.{◌≡◌, ◌≢◌, inl, inr, ℕ, ◌+◌, ◌<◌, Bool, true, false, cond, ◌||◌, ◌==◌, List, [], ◌∷◌, ◌++◌, length, take, drop, map, find, slice_index, Option, Some, None, refl, sym, ap, subst, ◌∙◌, arith}
use Rattle.std.proofs.lemmas.Bool.Decides.{eqb_tells}
use Rattle.std.proofs.lemmas.Nat.{mod-mul-add}
use Rattle.std.proofs.lemmas.List.{map-append}
use Rattle.spv_opcodes.specs.declared.op.TheConstants as op
use Rattle.spv_module.specs.Instruction.{Instruction, opcode}
use Rattle.spv_module.specs.Layout.{is_terminator}
use Rattle.spv_blocks.specs.Blocks.{Block, End, Branch, BranchIf, Switch, Return, Unreachable, Open, block, of_block}
use Rattle.spv_blocks.specs.Cutting.{before_close, block_of, blocks_of, body_of, closes, ending, end_of, is_function_end, is_label_mark, pairs, word}
use Rattle.spv_walk.specs.Walk as walk
use Rattle.spv_walk.proofs.Unique.{tells}
use Rattle.spv_bodies.specs.Listing.{instruction, pair_words}
use Rattle.spv_normal.specs.Lines.{behind_label, line, up_to_terminator}
use Rattle.spv_tree.specs.Sound.{opcode_in}
use Rattle.spv_spelling.specs.Text.{text}

-- ---- the block of a label

-- a block is cut from these instructions behind its label
pub record IsCut (b : Block) (is : List Instruction) : Type 0 where
  pub body : b.body ≡ body_of is
  pub end : b.end ≡ end_of (find closes is)

body_in : Option Block → List Instruction → Type 0
body_in None is = ⊥
body_in (Some b) is = IsCut b is

cut_some : (i : Instruction) (is : List Instruction) (b : Block) → Some (block_of i is) ≡ Some b → IsCut b is
unfolding body_in
cut_some i is b e = subst (λ o. body_in o is) e (record { body = refl; end = refl })

pub cut : (insts : List Instruction) (l : ℕ) (b : Block) → block (blocks_of insts) l ≡ Some b → IsCut b (behind_label insts l)
cut [] l b e = absurd (cc)
cut (i ∷ is) l b e = elim (is_label_mark i) as (λ m. block (cond m (block_of i is ∷ blocks_of is) (blocks_of is)) l ≡ Some b
    → IsCut b (cond (cond m (word i 1 == l) false) is (behind_label is l))) [
      | true ↦ elim (word i 1 == l) as (λ n. cond n (Some (block_of i is)) (block (blocks_of is) l) ≡ Some b → IsCut b (cond n is (behind_label is l))) [
        | true ↦ cut_some i is b
        | false ↦ cut is l b
      ]
      | false ↦ cut is l b
    ] e

-- ---- up to the terminator

abbrev pub NoneCloses : List Instruction → Type 0
NoneCloses [] = Unit {0}
NoneCloses (i ∷ is) = (closes i ≡ false) × NoneCloses is

-- these instructions begin with those of a block, of which the last is its terminator
pub record IsClosed (is : List Instruction) : Type 0 where
  pub inner : List Instruction
  pub last : Instruction
  pub whole : up_to_terminator is ≡ inner ++ last ∷ []
  pub before : before_close is ≡ inner
  pub found : find closes is ≡ Some last
  pub none : NoneCloses inner
  pub terminates : is_terminator last ≡ true

some_end : (a b c d e u : Bool) (x y z : End) → cond a x (cond b y (cond c z (cond (d || e) Return (cond u Unreachable Open)))) ≢ Open
    → (a || b || c || d || e || u) ≡ true
some_end true b c d e u x y z n = refl
some_end false true c d e u x y z n = refl
some_end false false true d e u x y z n = refl
some_end false false false true e u x y z n = refl
some_end false false false false true u x y z n = refl
some_end false false false false false true x y z n = refl
some_end false false false false false false x y z n = absurd (n refl)

ending_terminates : (i : Instruction) → ending i ≢ Open → is_terminator i ≡ true
ending_terminates i n =
    some_end (opcode i == op.BRANCH) (opcode i == op.BRANCH_CONDITIONAL) (opcode i == op.SWITCH) (opcode i == op.RETURN) (opcode i == op.RETURN_VALUE)
    (opcode i == op.UNREACHABLE)
    (Branch (word i 1)) (BranchIf (word i 2) (word i 3)) (Switch (word i 2) (pairs (drop 3 i.words))) n

pub terminates_closes : (t m e : Bool) → (t || m || e) ≡ false → t ≡ false
terminates_closes true m e h = h
terminates_closes false m e h = refl

closed_here : (i : Instruction) (is : List Instruction) → closes i ≡ true → is_terminator i ≡ true → IsClosed (i ∷ is)
closed_here i is c t = record {
  inner = [];
  last = i;
  whole = ap (λ b. cond b (i ∷ []) (i ∷ up_to_terminator is)) t;
  before = ap (λ b. cond b [] (i ∷ before_close is)) c;
  found = ap (λ b. cond b (Some i) (find closes is)) c;
  none = tt;
  terminates = t;
}

closed_on : (i : Instruction) (is : List Instruction) → closes i ≡ false → IsClosed is → IsClosed (i ∷ is)
closed_on i is c r = record {
  inner = i ∷ r.inner;
  last = r.last;
  whole = ap (λ b. cond b (i ∷ []) (i ∷ up_to_terminator is)) (terminates_closes (is_terminator i) (is_label_mark i) (is_function_end i) c) ∙ ap
      (λ z. i ∷ z) r.whole;
  before = ap (λ b. cond b [] (i ∷ before_close is)) c ∙ ap (λ z. i ∷ z) r.before;
  found = ap (λ b. cond b (Some i) (find closes is)) c ∙ r.found;
  none = (c, r.none);
  terminates = r.terminates;
}

pub closed : (is : List Instruction) → end_of (find closes is) ≢ Open → IsClosed is
closed [] n = absurd (n refl)
closed (i ∷ is) n = elim (tells (closes i)) [
  | inl c ↦ closed_here i is c (ending_terminates i (λ e. n (ap (λ b. end_of (cond b (Some i) (find closes is))) c ∙ e)))
  | inr c ↦ closed_on i is c (closed is (λ e. n (ap (λ b. end_of (cond b (Some i) (find closes is))) c ∙ e)))
]

-- ---- the opcode of lines

pub opcode_spelled : (o : ℕ) (words : List ℕ) → o < 65536 → opcode_in (instruction o words) ≡ o
opcode_spelled o words h = mod-mul-add (length words + 1) 65536 o h

pub pairs_spelled : (ps : List (ℕ × ℕ)) → pairs (pair_words ps) ≡ ps
pairs_spelled [] = refl
pairs_spelled (p ∷ ps) = ap (λ z. p ∷ z) (pairs_spelled ps)

-- the end that a line makes
abbrev pub line_end : List ℕ → End
line_end words = ending (record { offset = 0; words = words })

unfoldable pub end_by : (o : ℕ) → List ℕ → End
end_by o words =
    cond (o == op.BRANCH) (Branch (slice_index words 1))
    (cond (o == op.BRANCH_CONDITIONAL) (BranchIf (slice_index words 2) (slice_index words 3))
    (cond (o == op.SWITCH) (Switch (slice_index words 2) (pairs (drop 3 words)))
    (cond (o == op.RETURN || o == op.RETURN_VALUE) Return
    (cond (o == op.UNREACHABLE) Unreachable
    Open))))

pub end_is_by : (words : List ℕ) (o : ℕ) → opcode_in words ≡ o → line_end words ≡ end_by o words
unfolding end_by
end_is_by words o e = ap (λ j. end_by j words) e

pub switch_end : (selector default : ℕ) (cases : List (ℕ × ℕ)) → line_end (instruction op.SWITCH (selector ∷ default ∷ pair_words cases)) ≡ Switch default cases
unfolding end_by
switch_end selector default cases =
    end_is_by (instruction op.SWITCH (selector ∷ default ∷ pair_words cases)) op.SWITCH
    (opcode_spelled op.SWITCH (selector ∷ default ∷ pair_words cases) (omega arith))
    ∙ ap (Switch default) (pairs_spelled cases)

-- branch weights do not matter
weights : (ws : List ℕ) → BranchIf (slice_index ws 2) (slice_index ws 3) ≡ line_end (instruction op.BRANCH_CONDITIONAL (take 3 (drop 1 ws)))
weights [] = refl
weights (h ∷ []) = refl
weights (h ∷ a ∷ []) = refl
weights (h ∷ a ∷ b ∷ []) = refl
weights (h ∷ a ∷ b ∷ c ∷ ws) = refl

pub line_ends : (i : Instruction) → ending i ≡ line_end (line i)
unfolding end_by
line_ends i = elim (eqb_tells (opcode i) op.BRANCH_CONDITIONAL) [
  | inl (e, p) ↦ end_is_by i.words op.BRANCH_CONDITIONAL p ∙ weights i.words
      ∙ ap (λ b. line_end (cond b (instruction op.BRANCH_CONDITIONAL (take 3 (drop 1 i.words))) i.words)) (sym e)
  | inr (e, p) ↦ ap (λ b. line_end (cond b (instruction op.BRANCH_CONDITIONAL (take 3 (drop 1 i.words))) i.words)) (sym e)
]

-- ---- the last of a list

abbrev pub but_last : {A : Type 0} → List A → List A
but_last [] = []
but_last (x ∷ []) = []
but_last (x ∷ y ∷ ys) = x ∷ but_last (y ∷ ys)

abbrev pub last_of : {A : Type 0} → A → List A → A
last_of d [] = d
last_of d (x ∷ xs) = last_of x xs

pub but_last_append : {A : Type 0} (xs : List A) (x : A) → but_last (xs ++ x ∷ []) ≡ xs
but_last_append [] x = refl
but_last_append (y ∷ []) x = refl
but_last_append (y ∷ z ∷ zs) x = ap (λ k. y ∷ k) (but_last_append (z ∷ zs) x)

pub last_append : {A : Type 0} (d : A) (xs : List A) (x : A) → last_of d (xs ++ x ∷ []) ≡ x
last_append d [] x = refl
last_append d (y ∷ ys) x = last_append y ys x

-- ---- the lines of a block

-- where a block ends with a terminator, its text is lines and the line of the terminator, which tells its end
module _ (insts : List Instruction) (l : ℕ) (b : Block) (at : block (blocks_of insts) l ≡ Some b) (ends : b.end ≢ Open) where
  pub cut_here : IsCut b (behind_label insts l)
  cut_here = cut insts l b at

  pub closed_block : IsClosed (behind_label insts l)
  closed_block = closed (behind_label insts l) (λ e. ends (cut_here.end ∙ e))

  pub text_is : text insts l ≡ map line closed_block.inner ++ line closed_block.last ∷ []
  text_is = ap (map line) closed_block.whole ∙ map-append line closed_block.inner (closed_block.last ∷ [])

  pub end_is : (front : List (List ℕ)) (last : List ℕ) → text insts l ≡ front ++ last ∷ [] → walk.end_of (blocks_of insts) l ≡ line_end last
  end_is front last e =
      ap (of_block (λ b. b.end) Open) at ∙ cut_here.end ∙ ap end_of closed_block.found ∙ line_ends closed_block.last
      ∙ ap line_end (sym (last_append [] (map line closed_block.inner) (line closed_block.last)) ∙ ap (last_of []) (sym text_is ∙ e)
      ∙ last_append [] front last)
