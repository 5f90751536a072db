-- A list of instructions after more words were added behind them.
use Rattle.std.proofs.Common.{◌≡◌, ℕ, ◌-◌, ◌≤◌, List, [], ◌∷◌, ◌++◌, length, get_or, take, drop, map, Option, Some, None, inl, refl, sym, ap, subst, ◌∙◌, arith}
use Rattle.std.specs.List.{All, AllPairs, AllByRecursion as ByRecursion, slice_get, slice_range}
use Rattle.std.specs.Option.{option_map, unwrap_or}
use Rattle.std.proofs.lemmas.List.{map-append, take-append-le, drop-append-le, take_all, drop_all, length-append, length-drop}
use Rattle.std.proofs.lemmas.List.Elements.{All-push, recursion_from_All}
use Rattle.std.proofs.lemmas.List.Quantifiers.{all_pairs_push}
use Rattle.std.proofs.lemmas.Option.{slice_get-map, slice_get_within, get_or_from_slice_get}
use Rattle.spv_grammar.specs.declared.kind.Role.{Role}
use Rattle.spv_module.specs.declared.list.Span.{Span}
use Rattle.spv_module.specs.Instruction.{Instruction, IsInstruction, parts, roles}
use Rattle.spv_module.specs.List.{instruction_at, AreApart, IsSpan}

-- what stands before the end stays
slice_range-append : {X : Type 0} (xs ys : List X) (a b : ℕ) → a ≤ b → b ≤ length xs → slice_range (xs ++ ys) a b ≡ slice_range xs a b
slice_range-append {X} xs ys a b h k =
    ap (take (b - a)) (drop-append-le a xs ys (omega arith))
    ∙ take-append-le (b - a) (drop a xs) ys (omega (arith, length-drop a xs))

-- what was added stands behind
slice_range-added : {X : Type 0} (xs ys : List X) → slice_range (xs ++ ys) (length xs) (length (xs ++ ys)) ≡ ys
slice_range-added xs ys =
    ap (take (length (xs ++ ys) - length xs)) (drop-append-le (length xs) xs ys (omega arith) ∙ ap (λ zs. zs ++ ys) (drop_all (length xs) xs (omega arith)))
    ∙ take_all (length (xs ++ ys) - length xs) ys (omega (arith, length-append xs ys))

span_stays : (words ws : List ℕ) (roles rs : List Role) (span : Span) → length roles ≡ length words → IsSpan words roles span → IsSpan (words ++ ws) (roles ++ rs) span
span_stays words ws roles rs span same s = record {
  ordered = s.ordered;
  within = omega (arith, s.within, length-append words ws);
  whole =
      rw (slice_range-append words ws span.start span.end s.ordered s.within, slice_range-append roles rs span.start span.end s.ordered (omega (arith, s.within, same)))
      s.whole;
}

instruction_stays : (words ws : List ℕ) (roles : List Role) (span : Span) → IsSpan words roles span → instruction_at (words ++ ws) span ≡ instruction_at words span
instruction_stays words ws roles span s =
    ap (λ found. record { offset = span.offset; words = found }) (slice_range-append words ws span.start span.end s.ordered s.within)

added_span : (words ws : List ℕ) (roles rs : List Role) (span : Span) → length roles ≡ length words → span.start ≡ length words → span.end ≡ length (words ++ ws) → IsInstruction ws rs →
    IsSpan (words ++ ws) (roles ++ rs) span
added_span words ws roles rs span same start end whole =
    let longer : length (words ++ ws) ≡ length (roles ++ rs) = omega (arith, length-append words ws, length-append roles rs, same, whole.long) in
    let at_words : slice_range (words ++ ws) span.start span.end ≡ ws = rw (start, end) (slice_range-added words ws) in
    let at_roles : slice_range (roles ++ rs) span.start span.end ≡ rs = rw (start ∙ sym same, end ∙ longer) (slice_range-added roles rs) in
    record {
      ordered = omega (arith, start, end, length-append words ws);
      within = omega (arith, end);
      whole = rw (at_words, at_roles) whole;
    }

-- a list before and after an instruction was added
pub record Adds (words words2 ws : List ℕ) (roles roles2 rs : List Role) (spans spans2 : List Span) (span : Span) : Type 0 where
  pub words_are : words2 ≡ words ++ ws
  pub roles_are : roles2 ≡ roles ++ rs
  pub spans_are : spans2 ≡ spans ++ span ∷ []
  pub same : length roles ≡ length words
  pub starts : span.start ≡ length words
  pub ends : span.end ≡ length words2
  pub whole : IsInstruction ws rs
  pub before : All (IsSpan words roles) spans

-- the instructions in front, and the one that was added, are spans of the longer list
pub spans-added : (words words2 ws : List ℕ) (roles roles2 rs : List Role) (spans spans2 : List Span) (span : Span) → Adds words words2 ws roles roles2 rs spans spans2 span → All (IsSpan words2 roles2) spans2
spans-added words words2 ws roles roles2 rs spans spans2 span a =
    rw (a.words_are, a.roles_are, a.spans_are)
    (All-push (IsSpan (words ++ ws) (roles ++ rs)) spans span (λ k d here. span_stays words ws roles rs (get_or spans k d) a.same (a.before k d here))
    (added_span words ws roles rs span a.same a.starts (a.ends ∙ ap length a.words_are) a.whole))

-- no word of the one that was added belongs to another
pub spans-apart : (words words2 ws : List ℕ) (roles roles2 rs : List Role) (spans spans2 : List Span) (span : Span) → Adds words words2 ws roles roles2 rs spans spans2 span → AllPairs AreApart spans → AllPairs AreApart spans2
spans-apart words words2 ws roles roles2 rs spans spans2 span a apart =
    rw a.spans_are
    (all_pairs_push AreApart spans span apart (λ k d here. inl (omega (arith, (a.before k d here).within, a.starts))))

instructions_stay : (words ws : List ℕ) (roles : List Role) (spans : List Span) → ByRecursion (IsSpan words roles) spans → map (instruction_at (words ++ ws)) spans ≡ map (instruction_at words) spans
instructions_stay words ws roles [] all = refl
instructions_stay words ws roles (span ∷ spans) all = cc (instruction_stays words ws roles span all.0, instructions_stay words ws roles spans all.1)

-- they are the instructions before, and the one that was added
pub instructions-added : (words words2 ws : List ℕ) (roles roles2 rs : List Role) (spans spans2 : List Span) (span : Span) → Adds words words2 ws roles roles2 rs spans spans2 span →
    map (instruction_at words2) spans2 ≡ map (instruction_at words) spans ++ (record { offset = span.offset; words = ws }) ∷ []
instructions-added words words2 ws roles roles2 rs spans spans2 span a =
    let at_words : slice_range (words ++ ws) span.start span.end ≡ ws = rw (a.starts, a.ends, a.words_are) (slice_range-added words ws) in
    rw (a.words_are, a.spans_are, map-append (instruction_at (words ++ ws)) spans (span ∷ []), instructions_stay words ws roles spans (recursion_from_All (IsSpan words roles) spans a.before), at_words) refl

-- words of an instruction, which has the parts that they spell
with_its_parts : (i : Instruction) (rs : List Role) → IsInstruction i.words rs → IsInstruction i.words (roles i)
with_its_parts i rs whole = rw (ap parts whole.parted) whole

spanned_here : (words : List ℕ) (parts_of : List Role) (spans : List Span) (k : ℕ) (i : Instruction) (found : Option Span) → All (IsSpan words parts_of) spans →
    slice_get spans k ≡ found → option_map (instruction_at words) found ≡ Some i → IsInstruction i.words (roles i)
spanned_here words parts_of spans k i None all e h = cc
spanned_here words parts_of spans k i (Some span) all e h =
    let span_at : get_or spans k span ≡ span = get_or_from_slice_get spans k span span e in
    let whole : IsSpan words parts_of span = subst (IsSpan words parts_of) span_at (all k span (slice_get_within spans k span e)) in
    let same : instruction_at words span ≡ i = ap (λ (o : Option Instruction). unwrap_or o i) h in
    subst (λ (j : Instruction). IsInstruction j.words (roles j)) same (with_its_parts (instruction_at words span) (slice_range parts_of span.start span.end) whole.whole)

-- each instruction of a list has the words and parts of one
pub spanned : (words : List ℕ) (parts_of : List Role) (spans : List Span) (k : ℕ) (i : Instruction) → All (IsSpan words parts_of) spans →
    slice_get (map (instruction_at words) spans) k ≡ Some i → IsInstruction i.words (roles i)
spanned words parts_of spans k i all h = spanned_here words parts_of spans k i (slice_get spans k) all refl (sym (slice_get-map (instruction_at words) spans k) ∙ h)
