-- What is read of terminators and merge instructions.
use Rattle.std.proofs.Common.{◌≡◌, ◌≢◌, inl, inr, ℕ, ◌+◌, ◌<◌, true, false, ◌==◌, ◌||◌, List, [], ◌∷◌, length, map, drop, Some, Result, Ok, Err, IfOk, refl, sym, ap, subst, ◌∙◌, arith}
use Rattle.std.specs.List.{slice_get}
use Rattle.std.proofs.lemmas.List.{drop_all}
use Rattle.std.proofs.lemmas.Option.{slice_get_cases}
use Rattle.spv_blocks.proofs.Slices.{drop-at}
use Rattle.spv_base.specs.declared.fault.NoMemory.{NoMemory}
use Rattle.spv_opcodes.specs.declared.op.TheConstants as op
use Rattle.spv_grammar.specs.declared.kind.Role.{Role}
use Rattle.spv_module.specs.Instruction.{Instruction, IsInstruction, opcode}
use Rattle.spv_module.specs.Code.{is_line}
use Rattle.spv_module.specs.Layout.{is_terminator}
use Rattle.spv_blocks.specs.Blocks.{ASelection, ASwitch, ALoop, Selection, Loop, Branch, Switch, Return, Unreachable, last_opens}
use Rattle.spv_blocks.specs.Cutting.{closes, ending, ins, is_function_end, is_label_mark, pairs, word, body_of}
use Rattle.spv_bodies.specs.Listing.{instruction, branch_line, selection_line, loop_line, pair_words}
use Rattle.spv_normal.specs.Lines.{line, up_to_terminator}
use Rattle.spv_tree.specs.declared.body.Case.{Case}
use Rattle.spv_tree.specs.Tree.{case_of}
use Rattle.spv_walk.specs.Faults.{suits_selection, suits_loop}
use Rattle.spv_walk.proofs.Unique.{either_holds, equal_true, left_holds}
use Rattle.spv_sources.specs.declared.close.Fork.{Fork}
use Rattle.spv_sources.specs.declared.close.LoopEnd.{LoopEnd}
use Rattle.spv_sources.specs.declared.close.LoopEnd.TheVariants as loop_end
use Rattle.spv_sources.specs.declared.close.Close.{Close}
use Rattle.spv_sources.specs.declared.close.Close.TheVariants as close
use Rattle.spv_sources.specs.Close.{fork_line, fork_end, loop_end_end}
use Rattle.spv_sources.specs.Tail.{IsFork, IsLoopEnd, IsBare, IsMerged, IsClose, IsClosing, Bare, Selected, Looped, tail_end}
use Rattle.spv_sources.proofs.Tails.{ends_by}
use Rattle.spv_sources.proofs.Words.{branch_words, return_words, return_value_words, unreachable_words, switch_words, selection_words, loop_words}

-- ---- terminators

pub bare_branch : (t : Instruction) (rs : List Role) (target : ℕ) → IsInstruction t.words rs → opcode t ≡ op.BRANCH → target ≡ word t 1
    → IsBare t (close.Branch target)
bare_branch t rs target whole e is =
    let line_is : line t ≡ t.words = rw e refl in
    let end_is : ending t ≡ Branch (word t 1) = rw e refl in
    record { lines = ap (λ z. z ∷ []) (line_is ∙ (branch_words t.words rs whole e).same ∙ ap branch_line (sym is)); opens = refl; ends = end_is ∙ ap Branch (sym is) }

pub bare_split : (t : Instruction) (fork : Fork) → IsFork t fork → IsBare t (close.Split fork)
bare_split t fork read = record { lines = ap (λ z. z ∷ []) read.line; opens = refl; ends = read.end }

pub bare_return : (t : Instruction) (rs : List Role) → IsInstruction t.words rs → opcode t ≡ op.RETURN → IsBare t close.Return
bare_return t rs whole e =
    let line_is : line t ≡ t.words = rw e refl in
    let end_is : ending t ≡ Return = rw e refl in
    record { lines = ap (λ z. z ∷ []) (line_is ∙ return_words t.words rs whole e); opens = refl; ends = end_is }

pub bare_value : (t : Instruction) (rs : List Role) (value : ℕ) → IsInstruction t.words rs → opcode t ≡ op.RETURN_VALUE → value ≡ word t 1
    → IsBare t (close.ReturnValue value)
bare_value t rs value whole e is =
    let line_is : line t ≡ t.words = rw e refl in
    let end_is : ending t ≡ Return = rw e refl in
    record { lines = ap (λ z. z ∷ []) (line_is ∙ (return_value_words t.words rs whole e).same ∙ ap (λ z. instruction op.RETURN_VALUE (z ∷ [])) (sym is)); opens = refl; ends = end_is }

-- the terminator that is none of the others
other_end : (t : Instruction) → is_terminator t ≡ true → (opcode t == op.SWITCH) ≡ false → opcode t ≢ op.BRANCH → opcode t ≢ op.BRANCH_CONDITIONAL
    → opcode t ≢ op.RETURN
    → opcode t ≢ op.RETURN_VALUE → opcode t ≡ op.UNREACHABLE
other_end t ends switch a b d e =
    elim (either_holds (opcode t == op.BRANCH || opcode t == op.BRANCH_CONDITIONAL || opcode t == op.SWITCH || opcode t == op.RETURN || opcode t == op.RETURN_VALUE) (opcode t == op.UNREACHABLE) ends) [
      | inr h ↦ equal_true (opcode t) op.UNREACHABLE h
      | inl h ↦ elim (either_holds (opcode t == op.BRANCH || opcode t == op.BRANCH_CONDITIONAL || opcode t == op.SWITCH || opcode t == op.RETURN) (opcode t == op.RETURN_VALUE) h) [
        | inr g ↦ absurd (e (equal_true (opcode t) op.RETURN_VALUE g))
        | inl g ↦ elim (either_holds (opcode t == op.BRANCH || opcode t == op.BRANCH_CONDITIONAL || opcode t == op.SWITCH) (opcode t == op.RETURN) g) [
          | inr k ↦ absurd (d (equal_true (opcode t) op.RETURN k))
          | inl k ↦ elim (either_holds (opcode t == op.BRANCH || opcode t == op.BRANCH_CONDITIONAL) (opcode t == op.SWITCH) k) [
            | inr m ↦ absurd (cc (sym switch ∙ m))
            | inl m ↦ elim (either_holds (opcode t == op.BRANCH) (opcode t == op.BRANCH_CONDITIONAL) m) [
              | inl n ↦ absurd (a (equal_true (opcode t) op.BRANCH n))
              | inr n ↦ absurd (b (equal_true (opcode t) op.BRANCH_CONDITIONAL n))
            ]
          ]
        ]
      ]
    ]

pub bare_unreachable : (t : Instruction) (rs : List Role) → IsInstruction t.words rs → is_terminator t ≡ true → (opcode t == op.SWITCH) ≡ false
    → opcode t ≢ op.BRANCH
    → opcode t ≢ op.BRANCH_CONDITIONAL → opcode t ≢ op.RETURN → opcode t ≢ op.RETURN_VALUE → IsBare t close.Unreachable
bare_unreachable t rs whole ends switch a b d f =
    let e = other_end t ends switch a b d f in
    let line_is : line t ≡ t.words = rw e refl in
    let end_is : ending t ≡ Unreachable = rw e refl in
    record { lines = ap (λ z. z ∷ []) (line_is ∙ unreachable_words t.words rs whole e); opens = refl; ends = end_is }

pub loop_branch : (t : Instruction) (rs : List Role) (target : ℕ) → IsInstruction t.words rs → opcode t ≡ op.BRANCH → target ≡ word t 1
    → IsLoopEnd t (loop_end.Branch target)
loop_branch t rs target whole e is =
    let line_is : line t ≡ t.words = rw e refl in
    let end_is : ending t ≡ Branch (word t 1) = rw e refl in
    record { line = line_is ∙ (branch_words t.words rs whole e).same ∙ ap branch_line (sym is); end = end_is ∙ ap Branch (sym is) }

-- ---- with merge instructions

pub merged_choice : (m t : Instruction) (rs : List Role) (control merge : ℕ) (fork : Fork) → IsInstruction m.words rs → opcode m ≡ op.SELECTION_MERGE
    → IsFork t fork
    → control ≡ word m 2 → merge ≡ word m 1 → IsMerged m t (close.Choice control merge fork)
merged_choice m t rs control merge fork whole e read a b =
    let words = selection_words m.words rs whole e in
    let opens : ins m ≡ Selection m.offset (word m 1) = rw e refl in
    record {
      lines = subst (λ z. m.words ∷ line t ∷ [] ≡ selection_line z control ∷ fork_line fork ∷ []) (sym b) (subst (λ z. m.words ∷ line t ∷ [] ≡ selection_line (word m 1) z ∷ fork_line fork ∷ []) (sym a) (ap (λ z. z ∷ line t ∷ []) words.same ∙ ap (λ z. selection_line (word m 1) (word m 2) ∷ z ∷ []) read.line));
      opens = ap (λ e. last_opens e (ins m ∷ [])) read.end ∙ ap (λ i. last_opens (fork_end fork) (i ∷ [])) opens ∙ ap (λ z. Some (ASelection z)) (sym b);
      ends = read.end;
    }

pub merged_switch : (m t : Instruction) (rs ts : List Role) (control merge selector default : ℕ) (cases : List Case) → IsInstruction m.words rs
    → IsInstruction t.words ts
    → opcode m ≡ op.SELECTION_MERGE → opcode t ≡ op.SWITCH → control ≡ word m 2 → merge ≡ word m 1 → selector ≡ word t 1 → default ≡ word t 2 → map case_of cases ≡ pairs (drop 3 t.words)
    → IsMerged m t (close.Switch control merge selector default cases)
merged_switch m t rs ts control merge selector default cases whole ended e d a b f g h =
    let words = selection_words m.words rs whole e in
    let switch = switch_words t.words ts ended d in
    let opens : ins m ≡ Selection m.offset (word m 1) = rw e refl in
    let line_is : line t ≡ t.words = rw d refl in
    let end_is : ending t ≡ Switch (word t 2) (pairs (drop 3 t.words)) = rw d refl in
    let first : m.words ≡ selection_line merge control = words.same ∙ ap (λ z. selection_line z (word m 2)) (sym b) ∙ ap (selection_line merge) (sym a) in
    let second : line t ≡ instruction op.SWITCH (selector ∷ default ∷ pair_words (map case_of cases)) =
    line_is ∙ switch.same ∙ ap (λ z. instruction op.SWITCH (z ∷ word t 2 ∷ pair_words (pairs (drop 3 t.words)))) (sym f)
    ∙ ap (λ z. instruction op.SWITCH (selector ∷ z ∷ pair_words (pairs (drop 3 t.words)))) (sym g) ∙ ap (λ z. instruction op.SWITCH (selector ∷ default ∷ pair_words z)) (sym h) in
    record {
      lines = ap (λ z. z ∷ line t ∷ []) first ∙ ap (λ z. selection_line merge control ∷ z ∷ []) second;
      opens = ap (λ e. last_opens e (ins m ∷ [])) end_is ∙ ap (λ i. last_opens (Switch (word t 2) (pairs (drop 3 t.words))) (i ∷ [])) opens ∙ ap (λ z. Some (ASwitch z)) (sym b);
      ends = end_is ∙ ap (λ z. Switch z (pairs (drop 3 t.words))) (sym g) ∙ ap (Switch default) (sym h);
    }

opens_loop : (end : LoopEnd) (at m n : ℕ) → last_opens (loop_end_end end) (Loop at m n ∷ []) ≡ Some (ALoop m n)
opens_loop (loop_end.Branch target) at m n = refl
opens_loop (loop_end.Split fork) at m n = refl

pub merged_loop : (m t : Instruction) (rs : List Role) (control merge next : ℕ) (end : LoopEnd) → IsInstruction m.words rs → opcode m ≡ op.LOOP_MERGE
    → IsLoopEnd t end
    → control ≡ word m 3 → merge ≡ word m 1 → next ≡ word m 2 → IsMerged m t (close.Loop control merge next end)
merged_loop m t rs control merge next end whole e read a b d =
    let words = loop_words m.words rs whole e in
    let opens : ins m ≡ Loop m.offset (word m 1) (word m 2) = rw e refl in
    let first : m.words ≡ loop_line merge next control =
    words.same ∙ ap (λ z. loop_line z (word m 2) (word m 3)) (sym b) ∙ ap (λ z. loop_line merge z (word m 3)) (sym d) ∙ ap (loop_line merge next) (sym a) in
    record {
      lines = ap (λ z. z ∷ line t ∷ []) first ∙ ap (λ z. loop_line merge next control ∷ z ∷ []) read.line;
      opens = ap (λ e. last_opens e (ins m ∷ [])) read.end ∙ ap (λ i. last_opens (loop_end_end end) (i ∷ [])) opens ∙ opens_loop end m.offset (word m 1) (word m 2)
          ∙ ap (λ z. Some (ALoop z (word m 2))) (sym b) ∙ ap (λ z. Some (ALoop merge z)) (sym d);
      ends = read.end;
    }

-- ---- what closes a block

none_closing : (is : List Instruction) → is ≡ [] → IsClosing is → ⊥
none_closing _ e (Bare t is term other) = absurd (cc (e))
none_closing _ e (Selected m t is merge suits) = absurd (cc (e))
none_closing _ e (Looped m t is merge suits) = absurd (cc (e))

pub some_closing : (insts : List Instruction) (k : ℕ) → IsClosing (drop k insts) → k < length insts
some_closing insts k closing = elim (slice_get_cases insts k).1 [
  | inl found ↦ found.1
  | inr past ↦ absurd (none_closing (drop k insts) (drop_all k insts past.0) closing)
]

head_same : (a b : Instruction) (more rest : List Instruction) → a ∷ more ≡ b ∷ rest → a ≡ b
head_same a b more rest e = cc

-- a terminator that this holds of stands behind
pub record IsNext (holds : Instruction → Type 0) (is : List Instruction) : Type 0 where
  pub end : Instruction
  pub rest : List Instruction
  pub behind : is ≡ end ∷ rest
  pub suits : holds end

after_selection : (m : Instruction) (is all : List Instruction) → all ≡ m ∷ is → IsClosing all → opcode m ≡ op.SELECTION_MERGE
    → IsNext (λ t. suits_selection (ending t) ≡ true) is
after_selection m is _ e (Bare t js term other) merge =
    let same : t ≡ m = cc in
    let term2 = subst (λ (i : Instruction). is_terminator i ≡ true) same term in
    absurd (cc (rw merge at term2))
after_selection m is _ e (Selected n t js merges suits) merge = let same : is ≡ t ∷ js = cc in record { end = t; rest = js; behind = same; suits = suits }
after_selection m is _ e (Looped n t js merges suits) merge =
    let same : n ≡ m = cc in
    let other : opcode m ≡ op.LOOP_MERGE = subst (λ (i : Instruction). opcode i ≡ op.LOOP_MERGE) same merges in
    absurd (omega (arith, other, merge))

after_loop : (m : Instruction) (is all : List Instruction) → all ≡ m ∷ is → IsClosing all → opcode m ≡ op.LOOP_MERGE
    → IsNext (λ t. suits_loop (ending t) ≡ true) is
after_loop m is _ e (Bare t js term other) merge =
    let same : t ≡ m = cc in
    let term2 = subst (λ (i : Instruction). is_terminator i ≡ true) same term in
    absurd (cc (rw merge at term2))
after_loop m is _ e (Looped n t js merges suits) merge = let same : is ≡ t ∷ js = cc in record { end = t; rest = js; behind = same; suits = suits }
after_loop m is _ e (Selected n t js merges suits) merge =
    let same : n ≡ m = cc in
    let other : opcode m ≡ op.SELECTION_MERGE = subst (λ (i : Instruction). opcode i ≡ op.SELECTION_MERGE) same merges in
    absurd (omega (arith, other, merge))

bare_here : (t : Instruction) (is all : List Instruction) → all ≡ t ∷ is → IsClosing all → opcode t ≢ op.SELECTION_MERGE → opcode t ≢ op.LOOP_MERGE
    → (is_terminator t ≡ true) × ((opcode t == op.SWITCH) ≡ false)
bare_here t is _ e (Bare n js term other) a b =
    let same : n ≡ t = cc in
    (subst (λ (i : Instruction). is_terminator i ≡ true) same term, subst (λ (i : Instruction). (opcode i == op.SWITCH) ≡ false) same other)
bare_here t is _ e (Selected n u js merges suits) a b = let same : n ≡ t = cc in absurd (a (subst (λ (i : Instruction). opcode i ≡ op.SELECTION_MERGE) same merges))
bare_here t is _ e (Looped n u js merges suits) a b = let same : n ≡ t = cc in absurd (b (subst (λ (i : Instruction). opcode i ≡ op.LOOP_MERGE) same merges))

module _ (insts : List Instruction) (k : ℕ) (closing : IsClosing (drop k insts)) (i : Instruction) (at : slice_get insts k ≡ Some i) where
  pub selection_next : opcode i ≡ op.SELECTION_MERGE → IsNext (λ t. suits_selection (ending t) ≡ true) (drop (k + 1) insts)
  selection_next e = after_selection i (drop (k + 1) insts) (drop k insts) (drop-at insts k i at) closing e

  pub loop_next : opcode i ≡ op.LOOP_MERGE → IsNext (λ t. suits_loop (ending t) ≡ true) (drop (k + 1) insts)
  loop_next e = after_loop i (drop (k + 1) insts) (drop k insts) (drop-at insts k i at) closing e

  pub bare_next : opcode i ≢ op.SELECTION_MERGE → opcode i ≢ op.LOOP_MERGE → (is_terminator i ≡ true) × ((opcode i == op.SWITCH) ≡ false)
  bare_next a b = bare_here i (drop (k + 1) insts) (drop k insts) (drop-at insts k i at) closing a b

  -- the whole, by what was read
  pub bare_close : (close : Close) → is_terminator i ≡ true → IsBare i close → IsClose (drop k insts) close
  bare_close close term read =
      let here = drop-at insts k i at in
      let c : closes i ≡ true = left_holds (is_terminator i || is_label_mark i) (is_function_end i) (left_holds (is_terminator i) (is_label_mark i) term) in
      let upto : up_to_terminator (drop k insts) ≡ i ∷ [] = ap up_to_terminator here ∙ rw term refl in
      let end : tail_end (drop k insts) ≡ ending i = ap tail_end here ∙ rw c refl in
      let body : body_of (drop k insts) ≡ [] = ap body_of here ∙ rw c refl in
      record {
        lines = ap (map line) upto ∙ read.lines;
        opens = ap (last_opens (tail_end (drop k insts))) body ∙ read.opens;
        ends = end ∙ read.ends;
      }

within_next : (insts rest : List Instruction) (k : ℕ) (t : Instruction) → drop (k + 1) insts ≡ t ∷ rest → k + 1 < length insts
within_next insts rest k t e = elim (slice_get_cases insts (k + 1)).1 [
  | inl found ↦ found.1
  | inr past ↦ absurd (cc (sym (drop_all (k + 1) insts past.0) ∙ e))
]

pub next_within : (holds : Instruction → Type 0) (insts : List Instruction) (k : ℕ) → IsNext holds (drop (k + 1) insts) → k + 1 < length insts
next_within holds insts k next = within_next insts next.rest k next.end next.behind

pub next_is : (holds : Instruction → Type 0) (insts : List Instruction) (k : ℕ) (t : Instruction) → IsNext holds (drop (k + 1) insts)
    → slice_get insts (k + 1) ≡ Some t → holds t
next_is holds insts k t next at =
    let same : next.end ≡ t = head_same next.end t next.rest (drop (k + 1 + 1) insts) (sym next.behind ∙ drop-at insts (k + 1) t at) in
    subst holds same next.suits

merge_line : (m : Instruction) → (opcode m == op.BRANCH_CONDITIONAL) ≡ false → line m ≡ m.words
merge_line m h = rw h refl

-- a merge instruction and the terminator behind it
merged_close : (insts : List Instruction) (k : ℕ) (m t : Instruction) (close : Close) → slice_get insts k ≡ Some m → slice_get insts (k + 1) ≡ Some t
    → closes m ≡ false → is_terminator m ≡ false → is_line m ≡ false → (opcode m == op.BRANCH_CONDITIONAL) ≡ false → is_terminator t ≡ true → IsMerged m t close → IsClose (drop k insts) close
merged_close insts k m t close at next goes plain mark other term read =
    let here : drop k insts ≡ m ∷ t ∷ drop (k + 1 + 1) insts = drop-at insts k m at ∙ ap (λ z. m ∷ z) (drop-at insts (k + 1) t next) in
    let c : closes t ≡ true = left_holds (is_terminator t || is_label_mark t) (is_function_end t) (left_holds (is_terminator t) (is_label_mark t) term) in
    let upto : up_to_terminator (drop k insts) ≡ m ∷ t ∷ [] = ap up_to_terminator here ∙ rw (plain, term) refl in
    let end : tail_end (drop k insts) ≡ ending t = ap tail_end here ∙ rw (goes, c) refl in
    let body : body_of (drop k insts) ≡ ins m ∷ [] = ap body_of here ∙ rw (goes, c, mark) refl in
    record {
      lines = ap (map line) upto ∙ ap (λ z. z ∷ line t ∷ []) (merge_line m other) ∙ read.lines;
      opens = ap (λ e. last_opens e (body_of (drop k insts))) end ∙ ap (last_opens (ending t)) body ∙ read.opens;
      ends = end ∙ read.ends;
    }

suits_end : (t : Instruction) → suits_selection (ending t) ≡ true → is_terminator t ≡ true
suits_end t suits = ends_by t (λ o. absurd (cc (sym suits ∙ ap suits_selection o)))

suits_loop_end : (t : Instruction) → suits_loop (ending t) ≡ true → is_terminator t ≡ true
suits_loop_end t suits = ends_by t (λ o. absurd (cc (sym suits ∙ ap suits_loop o)))

pub selected_close : (insts : List Instruction) (k : ℕ) (m t : Instruction) (close : Close) → slice_get insts k ≡ Some m → slice_get insts (k + 1) ≡ Some t
    → opcode m ≡ op.SELECTION_MERGE
    → suits_selection (ending t) ≡ true → IsMerged m t close → IsClose (drop k insts) close
selected_close insts k m t close at next e suits read =
    merged_close insts k m t close at next (rw e refl) (rw e refl) (rw e refl) (rw e refl) (suits_end t suits) read

pub looped_close : (insts : List Instruction) (k : ℕ) (m t : Instruction) (close : Close) → slice_get insts k ≡ Some m → slice_get insts (k + 1) ≡ Some t
    → opcode m ≡ op.LOOP_MERGE
    → suits_loop (ending t) ≡ true → IsMerged m t close → IsClose (drop k insts) close
looped_close insts k m t close at next e suits read =
    merged_close insts k m t close at next (rw e refl) (rw e refl) (rw e refl) (rw e refl) (suits_loop_end t suits) read

pub selected_result : (insts : List Instruction) (k : ℕ) → IsClosing (drop k insts) → (m t : Instruction) (result : Result Close NoMemory)
    → slice_get insts k ≡ Some m → slice_get insts (k + 1) ≡ Some t
    → opcode m ≡ op.SELECTION_MERGE → IfOk result (λ close. IsMerged m t close) → IfOk result (λ close. IsClose (drop k insts) close)
selected_result insts k closing m t (Err e) at next merge read = tt
selected_result insts k closing m t (Ok close) at next merge read =
    selected_close insts k m t close at next merge (next_is (λ t. suits_selection (ending t) ≡ true) insts k t (selection_next insts k closing m at merge) next) read
