-- The ids that the lines of a normal form use: those of the instructions that they are made of, or labels that stay for one of these.
use Rattle.std.proofs.Common.{◌≡◌, inl, inr, ◌⊎◌, ℕ, suc, ◌*◌, ◌%◌, ◌≤◌, Bool, true, false, nat_eq, ◌||◌, ◌==◌, List, [], ◌∷◌, ◌++◌, length, take, drop, map, filter, replicate, Result, Ok, refl, sym, ap, subst, ◌∙◌, arith}
use Rattle.std.specs.List.{slice_index, zip}
use Rattle.graph.proofs.Elements.{same_test}
use Rattle.std.specs.Option.{option_map, option_and_then}
use Rattle.spv_opcodes.specs.declared.op.TheConstants as op
use Rattle.spv_grammar.specs.declared.kind.Role.{Role}
use Rattle.spv_grammar.specs.declared.kind.Role.TheVariants.{Opcode, TypeId, DefinedId, UsedId, Literal}
use Rattle.spv_grammar.specs.declared.kind.Kind.{Kind}
use Rattle.spv_grammar.specs.declared.kind.Kind.TheVariants.{ResultType, ResultId, Id, IdPairs, Weights}
use Rattle.spv_grammar.specs.Operands.{roles_of, operand_roles, fitted, behind, Taken, all_if}
use Rattle.spv_grammar.specs.Table.{row_of, in_section}
use Rattle.spv_module.specs.Instruction.{Instruction, parts}
use Rattle.spv_ids.specs.Ids.{is_needed, used_ids}
use Rattle.spv_blocks.specs.Cutting.{pairs}
use Rattle.spv_walk.proofs.Unique.{either_holds, equal_true, left_holds, right_holds}
use Rattle.spv_bodies.specs.Listing.{instruction, label_line, pair_words}
use Rattle.spv_normal.specs.Normal.{copied, renamed}
use Rattle.spv_tree.specs.Sound.{opcode_in}
use Rattle.spv_calls.specs.Interfaces.{has}
use Rattle.spv_norm_declared.proofs.Instructions.{by_row}
use Rattle.spv_norm_entries.proofs.Lists.{has_front, inst_of}

-- the ids that words use
abbrev pub uses : List ℕ → List ℕ
uses w = used_ids (inst_of w)

abbrev needed : List Role → List ℕ → List ℕ
needed rs w = map (λ part. part.1) (filter (λ part. is_needed part.0) (zip rs w))

uses_by : (w : List ℕ) (rs : List Role) → roles_of w ≡ Ok rs → uses w ≡ needed rs w
uses_by w rs e = ap (λ r. needed (parts r) w) e

-- ---- labels, and OpFunctionEnd

pub label_uses : (l : ℕ) → uses (label_line l) ≡ []
unfolding roles_of row_of
label_uses l = uses_by (label_line l) (Opcode ∷ DefinedId ∷ []) refl

pub end_uses : uses (instruction op.FUNCTION_END []) ≡ []
unfolding roles_of row_of
end_uses = uses_by (instruction op.FUNCTION_END []) (Opcode ∷ []) refl

-- ---- branches without weights

abbrev split_kinds : List Kind
split_kinds = Id ∷ Id ∷ Id ∷ Weights ∷ []

split_uses : (a b c : ℕ) → uses (instruction op.BRANCH_CONDITIONAL (a ∷ b ∷ c ∷ [])) ≡ a ∷ b ∷ c ∷ []
unfolding roles_of row_of
split_uses a b c = uses_by (instruction op.BRANCH_CONDITIONAL (a ∷ b ∷ c ∷ [])) (Opcode ∷ UsedId ∷ UsedId ∷ UsedId ∷ []) refl

three_used : (b : Bool) (all rs : List Role)
    → behind (Opcode ∷ []) (fitted (option_map (λ more. UsedId ∷ more) (option_map (λ more. UsedId ∷ more) (option_map (λ more. UsedId ∷ more)
    (option_and_then (λ (t : Taken). option_map (λ more. t.roles ++ more) (operand_roles [] t.rest)) (all_if b all))))))
    ≡ Ok rs
    → rs ≡ Opcode ∷ UsedId ∷ UsedId ∷ UsedId ∷ (all ++ [])
three_used true all rs h = cc
three_used false all rs h = absurd (cc)

split_parts : (h : ℕ) (ws : List ℕ) (rs : List Role) → h % 65536 ≡ op.BRANCH_CONDITIONAL → roles_of (h ∷ ws) ≡ Ok rs
    → behind (Opcode ∷ []) (fitted (operand_roles split_kinds ws)) ≡ Ok rs
unfolding row_of
split_parts h ws rs e parted = sym (by_row h op.BRANCH_CONDITIONAL (in_section 11 split_kinds) ws e refl refl) ∙ parted

-- what it uses without weights, the branch used
pub branch_uses : (w : List ℕ) (rs : List Role) → roles_of w ≡ Ok rs → opcode_in w ≡ op.BRANCH_CONDITIONAL → (id : ℕ)
    → has (uses (instruction op.BRANCH_CONDITIONAL (take 3 (drop 1 w)))) id ≡ true → has (uses w) id ≡ true
branch_uses [] rs parted e id h = absurd (omega (arith, e))
branch_uses (h ∷ []) rs parted e id u =
    let none = split_parts h [] rs e parted in
    absurd (cc)
branch_uses (h ∷ a ∷ []) rs parted e id u =
    let none = split_parts h (a ∷ []) rs e parted in
    absurd (cc)
branch_uses (h ∷ a ∷ b ∷ []) rs parted e id u =
    let none = split_parts h (a ∷ b ∷ []) rs e parted in
    absurd (cc)
branch_uses (h ∷ a ∷ b ∷ c ∷ ws) rs parted e id u =
    let more : List Role = replicate (length ws) Literal ++ [] in
    let roles = three_used (length ws == 0 || length ws == 2) (replicate (length ws) Literal) rs (split_parts h (a ∷ b ∷ c ∷ ws) rs e parted) in
    let all : uses (h ∷ a ∷ b ∷ c ∷ ws) ≡ (a ∷ b ∷ c ∷ []) ++ needed more ws =
    uses_by (h ∷ a ∷ b ∷ c ∷ ws) rs parted ∙ ap (λ r. needed r (h ∷ a ∷ b ∷ c ∷ ws)) roles in
    ap (λ xs. has xs id) all ∙ has_front (a ∷ b ∷ c ∷ []) (needed more ws) id (ap (λ xs. has xs id) (sym (split_uses a b c)) ∙ u)

-- ---- OpPhi

-- the words of an OpPhi
pub record IsPhiOf (w : List ℕ) : Type 0 where
  pub head : ℕ
  pub type : ℕ
  pub name : ℕ
  pub rest : List ℕ
  pub same : w ≡ head ∷ type ∷ name ∷ rest
  pub begins : head % 65536 ≡ op.PHI
  pub even : (length rest % 2 == 0) ≡ true

abbrev phi_kinds : List Kind
phi_kinds = ResultType ∷ ResultId ∷ IdPairs ∷ []

abbrev phi_fitted : (even : Bool) (all : List Role) → Result (List Role) ℕ
phi_fitted even all =
    behind (Opcode ∷ []) (fitted (option_map (λ more. TypeId ∷ more) (option_map (λ more. DefinedId ∷ more)
    (option_and_then (λ (t : Taken). option_map (λ more. t.roles ++ more) (operand_roles [] t.rest)) (all_if even all)))))

phi_roles : (h a b : ℕ) (ws : List ℕ) → h % 65536 ≡ op.PHI → (length ws % 2 == 0) ≡ true
    → roles_of (h ∷ a ∷ b ∷ ws) ≡ Ok (Opcode ∷ TypeId ∷ DefinedId ∷ (replicate (length ws) UsedId ++ []))
unfolding row_of
phi_roles h a b ws e even =
    by_row h op.PHI (in_section 11 phi_kinds) (a ∷ b ∷ ws) e refl refl ∙ ap (λ (t : Bool). phi_fitted t (replicate (length ws) UsedId)) even

all_needed : (ws : List ℕ) → needed (replicate (length ws) UsedId ++ []) ws ≡ ws
all_needed [] = refl
all_needed (w ∷ ws) = ap (λ z. w ∷ z) (all_needed ws)

phi_uses : (h a b : ℕ) (ws : List ℕ) → h % 65536 ≡ op.PHI → (length ws % 2 == 0) ≡ true → uses (h ∷ a ∷ b ∷ ws) ≡ a ∷ ws
phi_uses h a b ws e even =
    uses_by (h ∷ a ∷ b ∷ ws) (Opcode ∷ TypeId ∷ DefinedId ∷ (replicate (length ws) UsedId ++ [])) (phi_roles h a b ws e even) ∙ ap (λ z. a ∷ z) (all_needed ws)

abbrev named_by : (stays : ℕ → ℕ) → List ℕ → List ℕ
named_by stays ws = pair_words (map (λ pair. (pair.0, stays pair.1)) (pairs ws))

pairs_length : (ps : List (ℕ × ℕ)) → length (pair_words ps) ≡ 2 * length ps
pairs_length [] = refl
pairs_length (p ∷ ps) = ap (λ n. suc (suc n)) (pairs_length ps) ∙ twice (length ps) where
  twice : (n : ℕ) → suc (suc (2 * n)) ≡ 2 * suc n
  twice n = omega arith

twice_even : (n m : ℕ) → n ≡ 2 * m → n % 2 ≡ 0
twice_even n m e = omega arith

pairs_even : (ps : List (ℕ × ℕ)) → (length (pair_words ps) % 2 == 0) ≡ true
pairs_even ps = ap (λ n. n == 0) (twice_even (length (pair_words ps)) (length ps) (pairs_length ps))

-- one of these, or the label that stays for one
pub record IsNamed (stays : ℕ → ℕ) (ids : List ℕ) (id : ℕ) : Type 0 where
  pub named : ℕ
  pub one : has ids named ≡ true
  pub same : (id ≡ named) ⊎ (id ≡ stays named)

later_named : (stays : ℕ → ℕ) (xs ids : List ℕ) (id : ℕ) → ((n : ℕ) → has ids n ≡ true → has xs n ≡ true) → IsNamed stays ids id → IsNamed stays xs id
later_named stays xs ids id h n = record { named = n.named; one = h n.named n.one; same = n.same }

first_has : (x : ℕ) (xs : List ℕ) (id : ℕ) → nat_eq id x ≡ true → has (x ∷ xs) id ≡ true
first_has x xs id e = left_holds (nat_eq id x) (has xs id) e

self_has : (x : ℕ) (xs : List ℕ) → has (x ∷ xs) x ≡ true
self_has x xs = first_has x xs x (same_test x x refl)

-- by induction on the pairs
named_has : (stays : ℕ → ℕ) (ws : List ℕ) (id : ℕ) → has (named_by stays ws) id ≡ true → IsNamed stays ws id
named_has stays [] id h = absurd (cc h)
named_has stays (x ∷ []) id h = absurd (cc h)
named_has stays (x ∷ y ∷ ws) id h = elim (either_holds (nat_eq id x) (nat_eq id (stays y) || has (named_by stays ws) id) h) [
  | inl e ↦ record { named = x; one = self_has x (y ∷ ws); same = inl (equal_true id x e) }
  | inr g ↦ elim (either_holds (nat_eq id (stays y)) (has (named_by stays ws) id) g) [
    | inl e ↦ record { named = y; one = right_holds (nat_eq y x) (has (y ∷ ws) y) (self_has y ws); same = inr (equal_true id (stays y) e) }
    | inr k ↦ later_named stays (x ∷ y ∷ ws) ws id
        (λ n u. right_holds (nat_eq n x) (has (y ∷ ws) n) (right_holds (nat_eq n y) (has ws n) u)) (named_has stays ws id k)
  ]
]

renamed_words : (stays : ℕ → ℕ) (h a b : ℕ) (ws : List ℕ) → h % 65536 ≡ op.PHI → (length ws % 2 == 0) ≡ true → (id : ℕ)
    → has (uses (h ∷ a ∷ b ∷ named_by stays ws)) id ≡ true → IsNamed stays (uses (h ∷ a ∷ b ∷ ws)) id
renamed_words stays h a b ws e even id u =
    subst (λ xs. IsNamed stays xs id) (sym (phi_uses h a b ws e even))
    (by (either_holds (nat_eq id a) (has (named_by stays ws) id)
    (ap (λ xs. has xs id) (sym (phi_uses h a b (named_by stays ws) e (pairs_even (map (λ pair. (pair.0, stays pair.1)) (pairs ws))))) ∙ u)))
  where
    by : (nat_eq id a ≡ true) ⊎ (has (named_by stays ws) id ≡ true) → IsNamed stays (a ∷ ws) id
    by (inl s) = record { named = a; one = self_has a ws; same = inl (equal_true id a s) }
    by (inr g) = later_named stays (a ∷ ws) ws id (λ n k. right_holds (nat_eq n a) (has ws n) k) (named_has stays ws id g)

pub renamed_uses : (stays : ℕ → ℕ) (i : Instruction) → IsPhiOf i.words → (id : ℕ) → has (uses (renamed stays i)) id ≡ true → IsNamed stays (used_ids i) id
renamed_uses stays i p id h =
    subst (λ w. IsNamed stays (uses w) id) (sym p.same)
    (renamed_words stays p.head p.type p.name p.rest p.begins p.even id
    (ap (λ w. has (uses (take 3 w ++ named_by stays (drop 3 w))) id) (sym p.same) ∙ h))

-- a copy of an OpPhi's value
copy_uses : (a b c : ℕ) → uses (instruction op.COPY_OBJECT (a ∷ b ∷ c ∷ [])) ≡ a ∷ c ∷ []
unfolding roles_of row_of
copy_uses a b c = uses_by (instruction op.COPY_OBJECT (a ∷ b ∷ c ∷ [])) (Opcode ∷ TypeId ∷ DefinedId ∷ UsedId ∷ []) refl

copied_words : (h a b c : ℕ) (ws : List ℕ) → h % 65536 ≡ op.PHI → (length (c ∷ ws) % 2 == 0) ≡ true → (id : ℕ)
    → has (uses (instruction op.COPY_OBJECT (a ∷ b ∷ c ∷ []))) id ≡ true → has (uses (h ∷ a ∷ b ∷ c ∷ ws)) id ≡ true
copied_words h a b c ws e even id u =
    ap (λ xs. has xs id) (phi_uses h a b (c ∷ ws) e even) ∙ has_front (a ∷ c ∷ []) ws id (ap (λ xs. has xs id) (sym (copy_uses a b c)) ∙ u)

copied_by : (h a b : ℕ) (ws : List ℕ) → h % 65536 ≡ op.PHI → (length ws % 2 == 0) ≡ true → 1 ≤ length ws → (id : ℕ)
    → has (uses (instruction op.COPY_OBJECT (a ∷ b ∷ slice_index ws 0 ∷ []))) id ≡ true → has (uses (h ∷ a ∷ b ∷ ws)) id ≡ true
copied_by h a b [] e even some id u = absurd (omega (arith, some))
copied_by h a b (c ∷ ws) e even some id u = copied_words h a b c ws e even id u

pub copied_uses : (i : Instruction) → IsPhiOf i.words → 4 ≤ length i.words → (id : ℕ) → has (uses (copied i)) id ≡ true → has (used_ids i) id ≡ true
copied_uses i p some id h =
    let long = ap length p.same in
    subst (λ w. has (uses w) id ≡ true) (sym p.same)
    (copied_by p.head p.type p.name p.rest p.begins p.even (omega (arith, some, long)) id
    (ap (λ w. has (uses (instruction op.COPY_OBJECT (slice_index w 1 ∷ slice_index w 2 ∷ slice_index w 3 ∷ []))) id) (sym p.same) ∙ h))
