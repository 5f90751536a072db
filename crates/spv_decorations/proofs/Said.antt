-- What one instruction decorates, and what instructions one after the other do.
use Rattle.std.proofs.Common.{◌≡◌, ℕ, ◌+◌, ◌==◌, ◌&&◌, Bool, true, false, cond, nat_eq, List, [], ◌∷◌, ◌++◌, drop, slice_index, Option, Some, None, refl, ap, ◌∙◌, true≢false, eqb-true}
use Rattle.std.proofs.lemmas.List.{get_or-drop}
use Rattle.std.proofs.lemmas.Grind.{get_or_after_one}
use Rattle.std.specs.Map.{lookup}
use Rattle.std.specs.Option.{option_or}
use Rattle.spv_opcodes.specs.declared.op.TheConstants as op
use Rattle.spv_grammar.specs.Operands.{opcode_of}
use Rattle.spv_module.specs.Instruction.{Instruction, opcode}
use Rattle.spv_meaning.specs.Statements as says
use Rattle.spv_meaning.specs.Statements.{Statement, by_row, rows, said, statements_in, words_of, is_silent_opcode}
use Rattle.spv_meaning.specs.Constants.{decorated, member_decorated, first_literal}
use Rattle.spv_decorations.specs.Index.{literal_by, member_literal_by}
use Rattle.spv_decorations.specs.Decorations.{decoration_of, member_decoration_of}
use Rattle.spv_decorations.proofs.Rows.{IsPlain, row_plain}

-- ---- one after the other

said_append : (silent : Bool) (s : Statement) (xs ys : List Statement) → cond silent (xs ++ ys) (s ∷ (xs ++ ys)) ≡ cond silent xs (s ∷ xs) ++ ys
said_append true s xs ys = refl
said_append false s xs ys = refl

-- induction on the first ones
statements-append : (xs ys : List (List ℕ)) → statements_in (xs ++ ys) ≡ statements_in xs ++ statements_in ys
unfolding statements_in
statements-append [] ys = refl
statements-append (w ∷ ws) ys =
    let o = opcode_of (slice_index w 0) in
    ap (said w) (statements-append ws ys)
    ∙ said_append (is_silent_opcode o) (by_row (lookup (nat_eq o) rows) (drop 1 w)) (statements_in ws) (statements_in ys)

words-append : (xs ys : List Instruction) → words_of (xs ++ ys) ≡ words_of xs ++ words_of ys
words-append [] ys = refl
words-append (x ∷ xs) ys = ap (λ (ws : List (List ℕ)). x.words ∷ ws) (words-append xs ys)

all_append : (xs ys : List Instruction) → statements_in (words_of (xs ++ ys)) ≡ statements_in (words_of xs) ++ statements_in (words_of ys)
all_append xs ys = ap statements_in (words-append xs ys) ∙ statements-append (words_of xs) (words_of ys)

found_first : (b : Bool) (x : List ℕ) (o p : Option (List ℕ)) → cond b (Some x) (option_or o p) ≡ option_or (cond b (Some x) o) p
found_first true x o p = refl
found_first false x o p = refl

-- induction on the first ones
decorated-append : (xs ys : List Statement) (id d : ℕ) → decorated (xs ++ ys) id d ≡ option_or (decorated xs id d) (decorated ys id d)
decorated-append [] ys id d = refl
decorated-append (says.Decorate target what literals ∷ xs) ys id d =
    ap (λ (o : Option (List ℕ)). cond (target == id && what == d) (Some literals) o) (decorated-append xs ys id d)
    ∙ found_first (target == id && what == d) literals (decorated xs id d) (decorated ys id d)
decorated-append (s ∷ xs) ys id d = decorated-append xs ys id d

member_decorated-append : (xs ys : List Statement) (id member d : ℕ) → member_decorated (xs ++ ys) id member d ≡ option_or (member_decorated xs id member d) (member_decorated ys id member d)
member_decorated-append [] ys id member d = refl
member_decorated-append (says.MemberDecorate target number what literals ∷ xs) ys id member d =
    ap (λ (o : Option (List ℕ)). cond (target == id && (number == member && what == d)) (Some literals) o) (member_decorated-append xs ys id member d)
    ∙ found_first (target == id && (number == member && what == d)) literals (member_decorated xs id member d) (member_decorated ys id member d)
member_decorated-append (s ∷ xs) ys id member d = member_decorated-append xs ys id member d

first-or : (o p : Option (List ℕ)) → first_literal (option_or o p) ≡ option_or (first_literal o) (first_literal p)
first-or None p = refl
first-or (Some x) p = refl

-- ---- one instruction

-- what an instruction of this opcode and with these words behind the first says alone
abbrev says_alone : ℕ → List ℕ → List Statement
says_alone o ws = cond (is_silent_opcode o) [] (by_row (lookup (nat_eq o) rows) ws ∷ [])

plain_decorates : (s : Statement) (id d : ℕ) → IsPlain s → decorated (s ∷ []) id d ≡ None
plain_decorates (says.Decorate target what literals) id d plain = absurd (true≢false plain)
plain_decorates other id d plain = refl

plain_member_decorates : (s : Statement) (id member d : ℕ) → IsPlain s → member_decorated (s ∷ []) id member d ≡ None
plain_member_decorates (says.MemberDecorate target number what literals) id member d plain = absurd (true≢false plain)
plain_member_decorates other id member d plain = refl

silent_or : (silent : Bool) (s : Statement) (id d : ℕ) → IsPlain s → decorated (cond silent [] (s ∷ [])) id d ≡ None
silent_or true s id d plain = refl
silent_or false s id d plain = plain_decorates s id d plain

silent_or_member : (silent : Bool) (s : Statement) (id member d : ℕ) → IsPlain s → member_decorated (cond silent [] (s ∷ [])) id member d ≡ None
silent_or_member true s id member d plain = refl
silent_or_member false s id member d plain = plain_member_decorates s id member d plain

one_found : (b : Bool) (x : List ℕ) → first_literal (cond b (Some x) None) ≡ cond b (Some (slice_index x 0)) None
one_found true x = refl
one_found false x = refl

-- by the opcode: OpDecorate, OpMemberDecorate, another
alone : (o : ℕ) (b c : Bool) (ws : List ℕ) (id d : ℕ) → nat_eq o op.DECORATE ≡ b → nat_eq o op.MEMBER_DECORATE ≡ c →
    first_literal (decorated (says_alone o ws) id d) ≡ cond (b && (slice_index ws 0 == id && slice_index ws 1 == d)) (Some (slice_index (drop 2 ws) 0)) None
alone o true c ws id d e f =
    ap (λ (n : ℕ). first_literal (decorated (says_alone n ws) id d)) (eqb-true o op.DECORATE e) ∙ one_found (slice_index ws 0 == id && slice_index ws 1 == d) (drop 2 ws)
alone o false true ws id d e f = ap (λ (n : ℕ). first_literal (decorated (says_alone n ws) id d)) (eqb-true o op.MEMBER_DECORATE f)
alone o false false ws id d e f = ap first_literal (silent_or (is_silent_opcode o) (by_row (lookup (nat_eq o) rows) ws) id d (row_plain o e f ws))

member_alone : (o : ℕ) (b c : Bool) (ws : List ℕ) (id member d : ℕ) → nat_eq o op.DECORATE ≡ b → nat_eq o op.MEMBER_DECORATE ≡ c →
    first_literal (member_decorated (says_alone o ws) id member d)
    ≡ cond (c && (slice_index ws 0 == id && (slice_index ws 1 == member && slice_index ws 2 == d))) (Some (slice_index (drop 3 ws) 0)) None
member_alone o b true ws id member d e f =
    ap (λ (n : ℕ). first_literal (member_decorated (says_alone n ws) id member d)) (eqb-true o op.MEMBER_DECORATE f)
    ∙ one_found (slice_index ws 0 == id && (slice_index ws 1 == member && slice_index ws 2 == d)) (drop 3 ws)
member_alone o true false ws id member d e f = ap (λ (n : ℕ). first_literal (member_decorated (says_alone n ws) id member d)) (eqb-true o op.DECORATE e)
member_alone o false false ws id member d e f =
    ap first_literal (silent_or_member (is_silent_opcode o) (by_row (lookup (nat_eq o) rows) ws) id member d (row_plain o e f ws))

-- words counted from the first, and from the one behind it
word_behind : (words : List ℕ) (k : ℕ) → slice_index (drop 1 words) k ≡ slice_index words (1 + k)
word_behind words k = get_or_after_one words k 0

word_far : (words : List ℕ) (n : ℕ) → slice_index (drop n (drop 1 words)) 0 ≡ slice_index words (1 + (n + 0))
word_far words n = get_or-drop n (drop 1 words) 0 0 ∙ word_behind words (n + 0)

said_alone : (i : Instruction) (id d : ℕ) → first_literal (decorated (statements_in (words_of (i ∷ []))) id d) ≡ literal_by i id d
unfolding statements_in
said_alone i id d =
    let b = opcode i == op.DECORATE in
    let ws = drop 1 i.words in
    alone (opcode i) b (opcode i == op.MEMBER_DECORATE) ws id d refl refl
    ∙ ap (λ (x : ℕ). cond (b && (x == id && slice_index ws 1 == d)) (Some (slice_index (drop 2 ws) 0)) None) (word_behind i.words 0)
    ∙ ap (λ (x : ℕ). cond (b && (slice_index i.words 1 == id && x == d)) (Some (slice_index (drop 2 ws) 0)) None) (word_behind i.words 1)
    ∙ ap (λ (x : ℕ). cond (b && (slice_index i.words 1 == id && slice_index i.words 2 == d)) (Some x) None) (word_far i.words 2)

said_alone_of_member : (i : Instruction) (id member d : ℕ) → first_literal (member_decorated (statements_in (words_of (i ∷ []))) id member d) ≡ member_literal_by i id member d
unfolding statements_in
said_alone_of_member i id member d =
    let c = opcode i == op.MEMBER_DECORATE in
    let ws = drop 1 i.words in
    member_alone (opcode i) (opcode i == op.DECORATE) c ws id member d refl refl
    ∙ ap (λ (x : ℕ). cond (c && (x == id && (slice_index ws 1 == member && slice_index ws 2 == d))) (Some (slice_index (drop 3 ws) 0)) None) (word_behind i.words 0)
    ∙ ap (λ (x : ℕ). cond (c && (slice_index i.words 1 == id && (x == member && slice_index ws 2 == d))) (Some (slice_index (drop 3 ws) 0)) None) (word_behind i.words 1)
    ∙ ap (λ (x : ℕ). cond (c && (slice_index i.words 1 == id && (slice_index i.words 2 == member && x == d))) (Some (slice_index (drop 3 ws) 0)) None) (word_behind i.words 2)
    ∙ ap (λ (x : ℕ). cond (c && (slice_index i.words 1 == id && (slice_index i.words 2 == member && slice_index i.words 3 == d))) (Some x) None) (word_far i.words 3)

-- ---- one instruction more

pub decoration-push : (is : List Instruction) (i : Instruction) (id d : ℕ) → decoration_of (is ++ i ∷ []) id d ≡ option_or (decoration_of is id d) (literal_by i id d)
decoration-push is i id d =
    let front = statements_in (words_of is) in
    let last = statements_in (words_of (i ∷ [])) in
    ap (λ (ss : List Statement). first_literal (decorated ss id d)) (all_append is (i ∷ []))
    ∙ ap first_literal (decorated-append front last id d)
    ∙ first-or (decorated front id d) (decorated last id d)
    ∙ ap (option_or (decoration_of is id d)) (said_alone i id d)

pub member_decoration-push : (is : List Instruction) (i : Instruction) (id member d : ℕ) → member_decoration_of (is ++ i ∷ []) id member d ≡ option_or (member_decoration_of is id member d) (member_literal_by i id member d)
member_decoration-push is i id member d =
    let front = statements_in (words_of is) in
    let last = statements_in (words_of (i ∷ [])) in
    ap (λ (ss : List Statement). first_literal (member_decorated ss id member d)) (all_append is (i ∷ []))
    ∙ ap first_literal (member_decorated-append front last id member d)
    ∙ first-or (member_decorated front id member d) (member_decorated last id member d)
    ∙ ap (option_or (member_decoration_of is id member d)) (said_alone_of_member i id member d)
