-- The words of an OpPhi, one pair after the other, and that they are one instruction of the profile.
use Rattle.std.proofs.Common.{◌≡◌, ℕ, zero, suc, ◌+◌, ◌*◌, ◌%◌, ◌/◌, ◌<◌, ◌≤◌, Bool, false, ◌||◌, ◌&&◌, List, [], ◌∷◌, ◌++◌, length, take, get_or, replicate, slice_index, All, Ok, refl, sym, ap, ◌∙◌, subst, append_assoc, append-nil, arith}
use Rattle.std.specs.Borrow.{Bor}
use Rattle.std.specs.List.{list_any, zip}
use Rattle.std.proofs.lemmas.List.{map-append, length-map, get_or-map}
use Rattle.std.proofs.lemmas.List.Folds.{list_any-append}
use Rattle.spv_grammar.specs.declared.kind.Role.TheVariants.{Opcode, TypeId, DefinedId, UsedId}
use Rattle.spv_grammar.specs.Operands.{roles_of, count_of}
use Rattle.spv_grammar.specs.Roles.{names_id, is_unknown, is_bad_octets}
use Rattle.spv_grammar.specs.Table.{row_of}
use Rattle.spv_module.specs.Instruction.{instruction_rules, is_out_of_bound}
use Rattle.spv_bodies.specs.Listing.{instruction, pair_words, phi_pairs}
use Rattle.spv_tree.specs.declared.branch.Branch.{Branch}
use Rattle.spv_tree.specs.Branches.{branching_of, shown}
use Rattle.spv_tree.specs.Phi.{AddsIds, Carries, IsMade}
use Rattle.spv_tree.proofs.Equations.{one_more}
use Rattle.spv_tree.proofs.Made.{unbroken_by}

-- ---- ids that are added

any-append : {X : Type 0} (p : X → Bool) (xs ys : List X) → list_any p xs ≡ false → list_any p ys ≡ false → list_any p (xs ++ ys) ≡ false
any-append p xs ys a b = list_any-append p xs ys ∙ ap (λ z. z || list_any p ys) a ∙ b

pub adds-more : (old new end x y : List ℕ) → AddsIds old new x → AddsIds new end y → AddsIds old end (x ++ y)
adds-more old new end x y a b = record {
  behind = b.behind ∙ ap (λ z. z ++ y) a.behind ∙ append_assoc old x y;
  within = any-append (is_out_of_bound 4294967296) x y a.within b.within;
}

-- ---- pairs

pairs-push : (pairs : List (ℕ × ℕ)) (pair : ℕ × ℕ) → pair_words (pairs ++ pair ∷ []) ≡ pair_words pairs ++ pair.0 ∷ pair.1 ∷ []
pairs-push [] pair = refl
pairs-push (q ∷ pairs) pair = ap (λ z. q.0 ∷ q.1 ∷ z) (pairs-push pairs pair)

pub pairs-more : (k : ℕ) (branches : List (Bor Branch)) (i : ℕ) (b : Bor Branch) (old new end : List ℕ) → i < length branches → b ≡ get_or branches i b
    → AddsIds old new (pair_words (phi_pairs k (shown (take i branches)))) → AddsIds new end (slice_index b.now.values k ∷ b.now.block ∷ [])
    → AddsIds old end (pair_words (phi_pairs k (shown (take (i + 1) branches))))
pairs-more k branches i b old new end lt is before here =
    subst (AddsIds old end)
    (sym (ap (λ z. pair_words (phi_pairs k (shown z))) (one_more branches i b lt is)
    ∙ ap (λ z. pair_words (phi_pairs k z)) (map-append (λ branch. branching_of branch.now) (take i branches) (b ∷ []))
    ∙ ap pair_words (map-append (λ branching. (slice_index branching.1.values k, branching.0)) (shown (take i branches)) (branching_of b.now ∷ []))
    ∙ pairs-push (phi_pairs k (shown (take i branches))) (slice_index b.now.values k, b.now.block)))
    (adds-more old new end (pair_words (phi_pairs k (shown (take i branches)))) (slice_index b.now.values k ∷ b.now.block ∷ []) before here)

pub carries-at : (k : ℕ) (branches : List (Bor Branch)) (i : ℕ) (b : Bor Branch) → i < length branches → b ≡ get_or branches i b → All (Carries k) (shown branches) → k < length b.now.values
carries-at k branches i b lt is all =
    let same : get_or (shown branches) i (branching_of b.now) ≡ branching_of b.now =
    get_or-map (λ branch. branching_of branch.now) branches i b (branching_of b.now) lt ∙ ap (λ branch. branching_of branch.now) (sym is) in
    let long : length (shown branches) ≡ length branches = length-map branches (λ branch. branching_of branch.now) in
    subst (Carries k) same (all i (branching_of b.now) (omega arith))

pairs-length : (pairs : List (ℕ × ℕ)) → length (pair_words pairs) ≡ 2 * length pairs
pairs-length [] = refl
pairs-length (pair ∷ pairs) = omega (arith, pairs-length pairs)

-- ---- the instruction

used-bound : (ws : List ℕ) → list_any (λ part. names_id part.0 && is_out_of_bound 4294967296 part.1) (zip (replicate (length ws) UsedId) ws) ≡ list_any (is_out_of_bound 4294967296) ws
used-bound [] = refl
used-bound (w ∷ ws) = ap (λ z. is_out_of_bound 4294967296 w || z) (used-bound ws)

used-octets : (n : ℕ) → list_any is_bad_octets (replicate n UsedId) ≡ false
used-octets zero = refl
used-octets (suc n) = used-octets n

used-known : (n : ℕ) → list_any is_unknown (replicate n UsedId) ≡ false
used-known zero = refl
used-known (suc n) = used-known n

phi-roles : (h type result : ℕ) (ws : List ℕ) → h % 65536 ≡ 245 → length ws % 2 ≡ 0
    → roles_of (h ∷ type ∷ result ∷ ws) ≡ Ok (Opcode ∷ TypeId ∷ DefinedId ∷ replicate (length ws) UsedId)
unfolding roles_of row_of
phi-roles h type result ws e even = rw e (rw even (ap (λ z. Ok (Opcode ∷ TypeId ∷ DefinedId ∷ z)) (append-nil (replicate (length ws) UsedId))))

phi-head : (n : ℕ) → (n + 3) * 65536 + 245 ≡ (suc (suc n) + 1) * 65536 + 245
phi-head n = omega arith

phi-opcode : (h n : ℕ) → h ≡ (n + 3) * 65536 + 245 → h % 65536 ≡ 245
phi-opcode h n e = omega arith

phi-count : (h n : ℕ) → h ≡ (n + 3) * 65536 + 245 → h / 65536 ≡ suc (suc (suc n))
phi-count h n e = omega arith

even-twice : (n : ℕ) → (2 * n) % 2 ≡ 0
even-twice n = omega arith

phi-made : (h type result : ℕ) (ws words : List ℕ) → h ≡ (length ws + 3) * 65536 + 245 → length ws % 2 ≡ 0 → length ws + 3 < 65536 → words ≡ h ∷ type ∷ result ∷ ws
    → list_any (is_out_of_bound 4294967296) (type ∷ result ∷ ws) ≡ false → IsMade words (instruction 245 (type ∷ result ∷ ws))
phi-made h type result ws words e even short made ids = record {
  same = made ∙ ap (λ z. z ∷ type ∷ result ∷ ws) (e ∙ phi-head (length ws));
  some = subst (λ z. 0 < length z) (sym made) (omega arith);
  counted = subst (λ z. count_of (slice_index z 0) ≡ length z) (sym made) (phi-count h (length ws) e);
  unbroken = subst (λ z. instruction_rules 4294967296 z ≡ []) (sym made)
      (unbroken_by (h ∷ type ∷ result ∷ ws) (Opcode ∷ TypeId ∷ DefinedId ∷ replicate (length ws) UsedId) (phi-roles h type result ws (phi-opcode h (length ws) e) even) (used-octets (length ws))
      (ap (λ z. is_out_of_bound 4294967296 type || (is_out_of_bound 4294967296 result || z)) (used-bound ws) ∙ ids) (used-known (length ws)));
}

-- the words as they are put one behind the other, for n branches
pub phi-built : (n h type result : ℕ) (ws w0 w1 w2 w3 w4 : List ℕ) → w0 ≡ [] → w1 ≡ w0 ++ h ∷ [] → AddsIds w1 w2 (type ∷ []) → AddsIds w2 w3 (result ∷ []) → AddsIds w3 w4 ws
    → h ≡ (3 + 2 * n) * 65536 + 245 → length ws ≡ 2 * n → 3 + 2 * n ≤ 65535 → IsMade w4 (instruction 245 (type ∷ result ∷ ws))
phi-built n h type result ws w0 w1 w2 w3 w4 e0 e1 a b c e long short =
    let all : AddsIds w1 w4 (type ∷ result ∷ ws) = adds-more w1 w2 w4 (type ∷ []) (result ∷ ws) a (adds-more w2 w3 w4 (result ∷ []) ws b c) in
    phi-made h type result ws w4 (e ∙ omega arith) (rw long (even-twice n)) (omega arith) (all.behind ∙ ap (λ z. z ++ type ∷ result ∷ ws) (e1 ∙ ap (λ z. z ++ h ∷ []) e0)) all.within

pub phi-length : (k : ℕ) (branches : List (Bor Branch)) → length (pair_words (phi_pairs k (shown branches))) ≡ 2 * length branches
phi-length k branches =
    pairs-length (phi_pairs k (shown branches))
    ∙ ap (λ n. 2 * n) (length-map (shown branches) (λ branching. (slice_index branching.1.values k, branching.0)) ∙ length-map branches (λ branch. branching_of branch.now))
