-- A list of instructions after its first ones were moved behind the others.
use Rattle.std.proofs.Common.{◌≡◌, ℕ, ◌-◌, ◌+◌, ◌≤◌, List, ◌++◌, length, get_or, take, drop, map, inl, inr, ⊎_elim, ap, ◌∙◌, arith}
use Rattle.std.specs.List.{All, AllPairs, RotatedLeft}
use Rattle.std.proofs.lemmas.Bool.{cases_lt}
use Rattle.std.proofs.lemmas.List.{map-append, drop-map, take-map}
use Rattle.std.proofs.lemmas.List.Elements.{All-append, All-drop, All-take}
use Rattle.spv_grammar.specs.declared.kind.Role.{Role}
use Rattle.spv_module.specs.declared.list.Span.{Span}
use Rattle.spv_module.specs.List.{instruction_at, AreApart, IsSpan}

either_way : (a b : Span) → AreApart a b → AreApart b a
either_way a b apart = ⊎_elim (λ left. inr left) (λ right. inl right) apart

-- they are spans of the same words
pub spans-turned : (words : List ℕ) (roles : List Role) (spans spans2 : List Span) (k : ℕ) → spans2 ≡ drop k spans ++ take k spans → All (IsSpan words roles) spans → All (IsSpan words roles) spans2
spans-turned words roles spans spans2 k e all =
    rw e (All-append (IsSpan words roles) (drop k spans) (take k spans) (All-drop (IsSpan words roles) k spans all) (All-take (IsSpan words roles) k spans all))

-- no word belongs to two of them
pub apart-turned : (spans spans2 : List Span) (k : ℕ) → k ≤ length spans → length spans2 ≡ length spans → RotatedLeft spans spans2 (length spans) k → AllPairs AreApart spans → AllPairs AreApart spans2
apart-turned spans spans2 k few long turned apart i j d lt within =
    let n = length spans in
    ⊎_elim
    (λ both. rw (turned.0 i d (omega arith), turned.0 j d both) (apart (i + k) (j + k) d (omega arith) both))
    (λ behind. ⊎_elim
    (λ before.
    rw (turned.0 i d before, turned.1 j d behind (omega arith))
    (either_way (get_or spans (j + k - n) d) (get_or spans (i + k) d) (apart (j + k - n) (i + k) d (omega arith) before)))
    (λ after. rw (turned.1 i d after (omega arith), turned.1 j d behind (omega arith)) (apart (i + k - n) (j + k - n) d (omega arith) (omega arith)))
    (cases_lt (i + k) n))
    (cases_lt (j + k) n)

-- they are the same instructions, of which the first stand behind the others
pub instructions-turned : (words : List ℕ) (spans spans2 : List Span) (k : ℕ) → spans2 ≡ drop k spans ++ take k spans →
    map (instruction_at words) spans2 ≡ drop k (map (instruction_at words) spans) ++ take k (map (instruction_at words) spans)
instructions-turned words spans spans2 k e =
    ap (map (instruction_at words)) e ∙ map-append (instruction_at words) (drop k spans) (take k spans)
    ∙ cc (drop-map (instruction_at words) k spans, take-map (instruction_at words) k spans)
