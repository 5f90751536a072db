-- How often ids stand in lists, one id or one instruction after the other.
use Rattle.std.proofs.Common.{◌≡◌, ℕ, zero, suc, ◌+◌, ◌<◌, ◌≤◌, Bool, true, false, cond, max, ◌==◌, List, [], ◌∷◌, ◌++◌, length, get_or, take, map, filter, Some}
use Rattle.std.proofs.Common.{refl, sym, ap, ◌∙◌, arith, add-one}
use Rattle.std.specs.List.{zip}
use Rattle.spv_grammar.specs.declared.kind.Role.{Role}
use Rattle.spv_draft.specs.declared.tally.Tally.{Tally}
use Rattle.std.specs.List.{flat_map, slice_get}
use Rattle.std.proofs.Math.Seq.{take-suc}
use Rattle.std.proofs.lemmas.List.{append-nil, map-append, take_all}
use Rattle.std.proofs.lemmas.List.Concat.{flat_map-append}
use Rattle.spv_module.specs.Instruction.{Instruction, IsInstruction, parts}
use Rattle.spv_draft.specs.Named.{greatest, times, words_with}
use Rattle.spv_draft.specs.Tallies.{Adds, Counts, tallied}
use Rattle.spv_placing.proofs.Steps.{take-at}

times_step : (b : Bool) (n m : ℕ) → cond b (n + m + 1) (n + m) ≡ cond b (n + 1) n + m
times_step true n m = omega arith
times_step false n m = omega arith

-- induction on the ids in front
pub times-append : (id : ℕ) (xs ys : List ℕ) → times id (xs ++ ys) ≡ times id xs + times id ys
times-append id [] ys = omega arith
times-append id (x ∷ xs) ys = ap (λ n. cond (x == id) (n + 1) n) (times-append id xs ys) ∙ times_step (x == id) (times id xs) (times id ys)

-- the words whose part passes a test, by recursion
abbrev pub picked : (Role → Bool) → List Role → List ℕ → List ℕ
picked test (r ∷ rs) (w ∷ ws) = cond (test r) (w ∷ picked test rs ws) (picked test rs ws)
picked test rs ws = []

picked_step : (b : Bool) (part : Role × ℕ) (rest : List (Role × ℕ))
    → map (λ (p : Role × ℕ). p.1) (cond b (part ∷ rest) rest) ≡ cond b (part.1 ∷ map (λ (p : Role × ℕ). p.1) rest) (map (λ (p : Role × ℕ). p.1) rest)
picked_step true part rest = refl
picked_step false part rest = refl

pub picked-is : (test : Role → Bool) (rs : List Role) (ws : List ℕ)
    → map (λ (p : Role × ℕ). p.1) (filter (λ (p : Role × ℕ). test p.0) (zip rs ws)) ≡ picked test rs ws
picked-is test [] ws = refl
picked-is test (r ∷ rs) [] = refl
picked-is test (r ∷ rs) (w ∷ ws) =
    picked_step (test r) (r, w) (filter (λ (p : Role × ℕ). test p.0) (zip rs ws))
    ∙ ap (λ xs. cond (test r) (w ∷ xs) xs) (picked-is test rs ws)

more_step : (b : Bool) (w : ℕ) (xs ys : List ℕ) → cond b (w ∷ (xs ++ ys)) (xs ++ ys) ≡ cond b (w ∷ xs) xs ++ ys
more_step true w xs ys = refl
more_step false w xs ys = refl

-- one word more; induction on those before it
picked-more : (test : Role → Bool) (rs : List Role) (ws : List ℕ) (k : ℕ) (r : Role) → k < length ws → length rs ≡ length ws →
    picked test (take (suc k) rs) (take (suc k) ws) ≡ picked test (take k rs) (take k ws) ++ cond (test (get_or rs k r)) (get_or ws k 0 ∷ []) []
picked-more test [] [] k r h e = absurd (omega (arith, h))
picked-more test [] (w ∷ ws) k r h e = absurd (omega (arith, e))
picked-more test (q ∷ rs) [] k r h e = absurd (omega (arith, e))
picked-more test (q ∷ rs) (w ∷ ws) zero r h e = refl
picked-more test (q ∷ rs) (w ∷ ws) (suc k) r h e =
    ap (λ xs. cond (test q) (w ∷ xs) xs) (picked-more test rs ws k r (omega (arith, h)) (omega (arith, e)))
    ∙ more_step (test q) w (picked test (take k rs) (take k ws)) (cond (test (get_or rs k r)) (get_or ws k 0 ∷ []) [])

pub adds-none : (tally : Tally) → Adds tally tally []
adds-none tally = record { at = λ id. omega arith }

-- two lists one after the other
pub adds-both : (old mid new : Tally) (xs ys zs : List ℕ) → zs ≡ xs ++ ys → Adds old mid xs → Adds mid new ys → Adds old new zs
adds-both old mid new xs ys zs e first second = record {
  at = λ id. let sum = times-append id xs ys in let a = first.at id in let b = second.at id in omega (arith, a, b, sum, ap (times id) e);
}

pub adds-picked : (test : Role → Bool) (old mid new : Tally) (rs : List Role) (ws : List ℕ) (k w : ℕ) (d : Role) (counts : Bool) → k < length ws
    → length rs ≡ length ws → counts ≡ test (get_or rs k d) → w ≡ get_or ws k 0 →
    Adds old mid (picked test (take k rs) (take k ws)) → Adds mid new (cond counts (w ∷ []) []) → Adds old new (picked test (take (k + 1) rs) (take (k + 1) ws))
adds-picked test old mid new rs ws k w d counts h e at is first second =
    adds-both old mid new (picked test (take k rs) (take k ws)) (cond counts (w ∷ []) []) (picked test (take (k + 1) rs) (take (k + 1) ws))
    (rw add-one (picked-more test rs ws k d h e)
    ∙ ap (λ b. picked test (take k rs) (take k ws) ++ cond b (get_or ws k 0 ∷ []) []) (sym at)
    ∙ ap (λ v. picked test (take k rs) (take k ws) ++ cond counts (v ∷ []) []) (sym is))
    first second

-- all words
pub picked-all : (test : Role → Bool) (i : Instruction) (rs : List Role) (n : ℕ) → length i.words ≤ n → IsInstruction i.words rs
    → picked test (take n rs) (take n i.words) ≡ words_with test i
picked-all test i rs n e whole =
    ap (λ (roles : List Role). picked test roles (take n i.words)) (take_all n rs (omega (arith, e, whole.long)))
    ∙ ap (picked test rs) (take_all n i.words (omega (arith, e)))
    ∙ sym (picked-is test rs i.words)
    ∙ ap (λ (roles : List Role). map (λ (p : Role × ℕ). p.1) (filter (λ (p : Role × ℕ). test p.0) (zip roles i.words))) (sym (ap parts whole.parted))

-- one instruction more
flat-more : (f : Instruction → List ℕ) (insts : List Instruction) (k : ℕ) (i : Instruction) → k < length insts → slice_get insts k ≡ Some i
    → flat_map f (take (k + 1) insts) ≡ flat_map f (take k insts) ++ f i
flat-more f insts k i h at =
    ap (flat_map f) (take-at insts k i h at)
    ∙ flat_map-append f (take k insts) (i ∷ [])
    ∙ ap (λ xs. flat_map f (take k insts) ++ xs) (append-nil (f i))

pub counts-more : (f : Instruction → List ℕ) (old new : Tally) (insts : List Instruction) (k : ℕ) (i : Instruction) → k < length insts
    → slice_get insts k ≡ Some i → Counts old (flat_map f (take k insts)) → Adds old new (f i) → Counts new (flat_map f (take (k + 1) insts))
counts-more f old new insts k i h at first second = record {
  at = λ id.
      let front = flat_map f (take k insts) in
      let a = first.at id in
      let b = second.at id in
      let sum = times-append id front (f i) in
      let all : times id (flat_map f (take (k + 1) insts)) ≡ times id (front ++ f i) = ap (times id) (flat-more f insts k i h at) in
      omega (arith, a, b, sum, all);
}

pub counts-added : (old new : Tally) (xs ys : List ℕ) → Counts old xs → Adds old new ys → (id : ℕ) → tallied new id ≡ times id (xs ++ ys)
counts-added old new xs ys first second id = let a = first.at id in let b = second.at id in omega (arith, a, b, times-append id xs ys)

-- ---- the greatest

pub greatest-append : (xs ys : List ℕ) → greatest (xs ++ ys) ≡ max (greatest xs) (greatest ys)
greatest-append [] ys = grind arith
greatest-append (x ∷ xs) ys = ap (λ (n : ℕ). max x n) (greatest-append xs ys) ∙ max_three x (greatest xs) (greatest ys)
  where
    max_three : (x y z : ℕ) → max x (max y z) ≡ max (max x y) z
    max_three x y z = omega arith

one_or_none : (b : Bool) (w : ℕ) → greatest (cond b (w ∷ []) []) ≡ cond b w 0
one_or_none true w = omega arith
one_or_none false w = refl

pub greatest-picked : (test : Role → Bool) (rs : List Role) (ws : List ℕ) (k : ℕ) (d : Role) → k < length ws → length rs ≡ length ws →
    max (greatest (picked test (take k rs) (take k ws))) (cond (test (get_or rs k d)) (get_or ws k 0) 0) ≡ greatest
    (picked test (take (k + 1) rs) (take (k + 1) ws))
greatest-picked test rs ws k d h e =
    ap (λ (n : ℕ). max (greatest (picked test (take k rs) (take k ws))) n) (sym (one_or_none (test (get_or rs k d)) (get_or ws k 0)))
    ∙ sym (greatest-append (picked test (take k rs) (take k ws)) (cond (test (get_or rs k d)) (get_or ws k 0 ∷ []) []))
    ∙ ap greatest (sym (rw add-one (picked-more test rs ws k d h e)))

pub greatest-more : (f : Instruction → List ℕ) (insts : List Instruction) (k : ℕ) (i : Instruction) → k < length insts → slice_get insts k ≡ Some i
    → max (greatest (flat_map f (take k insts))) (greatest (f i)) ≡ greatest (flat_map f (take (k + 1) insts))
greatest-more f insts k i h at = sym (greatest-append (flat_map f (take k insts)) (f i)) ∙ ap greatest (sym (flat-more f insts k i h at))
