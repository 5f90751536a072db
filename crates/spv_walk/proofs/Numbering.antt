-- A function with other labels breaks the same rules; one with the numbers of its blocks is a case of it.
use Rattle.std.proofs.Common.{◌≡◌, ◌↔◌, ℕ, zero, suc, ◌+◌, ◌<◌, ◌≤◌, ◌==◌, Bool, true, false, cond, not, List, [], ◌∷◌, map, length, Option, Some, None, refl, sym, ap, ◌∙◌, subst, arith, one-add, ltb, le_of_eq}
use Rattle.std.proofs.lemmas.Bool.{ne_eqb, eqb-true, eq-eqb, ltb-true, lt-ltb}
use Rattle.std.specs.Prelude.{slice_get}
use Rattle.std.specs.List.{position_or_len}
use Rattle.std.specs.Option.{unwrap_or}
use Rattle.spv_base.specs.declared.fault.Refusal.{Refusal}
use Rattle.spv_blocks.specs.Blocks.{End, Branch, BranchIf, Switch, Return, Unreachable, Open, Ins, Phi, Selection, Loop, Other, Block, Code, block}
use Rattle.spv_walk.specs.Numbering.{number_of, relabelled_pairs, relabelled_ins, relabelled_end, relabelled_block, relabelled, numbered}
use Rattle.spv_walk.specs.Rules.{Broken, IsFirst}
use Rattle.spv_walk.specs.Laws.{KeepsApart, RelabellingLaw, NumbersLaw, SameRulesLaw, SameFirstLaw, NumberedBlocksLaw, NumberedApartLaw}
use Rattle.spv_walk.proofs.NumberingAlike.{Alike, SamePairs, NoPair, APair, SameIns, SamePhi, SameSelection, SameLoop, SameOther, SameBody, NoIns, AnIns, SameEnd, SameBranch, SameBranchIf, SameSwitch, SameReturn, SameUnreachable, SameOpen, SameBlock, SameCode, NoBlock, ABlock}
use Rattle.spv_walk.proofs.NumberingRules.{same_rules}

-- ---- a function with other labels is alike

abbrev pub Becomes : (ℕ → ℕ) → ℕ → ℕ → Type 0
Becomes r a b = r a ≡ b

pairs_become : (r : ℕ → ℕ) (ps : List (ℕ × ℕ)) → SamePairs (Becomes r) ps (relabelled_pairs r ps)
pairs_become r [] = NoPair
pairs_become r (p ∷ ps) = APair refl refl (pairs_become r ps)

ins_becomes : (r : ℕ → ℕ) (i : Ins) → SameIns (Becomes r) i (relabelled_ins r i)
ins_becomes r (Phi at t result pairs) = SamePhi (pairs_become r pairs)
ins_becomes r (Selection at m) = SameSelection refl
ins_becomes r (Loop at m n) = SameLoop refl refl
ins_becomes r (Other at) = SameOther

body_becomes : (r : ℕ → ℕ) (is : List Ins) → SameBody (Becomes r) is (map (relabelled_ins r) is)
body_becomes r [] = NoIns
body_becomes r (i ∷ is) = AnIns (ins_becomes r i) (body_becomes r is)

end_becomes : (r : ℕ → ℕ) (e : End) → SameEnd (Becomes r) e (relabelled_end r e)
end_becomes r (Branch l) = SameBranch refl
end_becomes r (BranchIf a b) = SameBranchIf refl refl
end_becomes r (Switch d cases) = SameSwitch refl (pairs_become r cases)
end_becomes r Return = SameReturn
end_becomes r Unreachable = SameUnreachable
end_becomes r Open = SameOpen

block_becomes : (r : ℕ → ℕ) (b : Block) → SameBlock (Becomes r) b (relabelled_block r b)
block_becomes r b = record { label = refl; at = refl; body = body_becomes r b.body; end_at = refl; end = end_becomes r b.end }

code_becomes : (r : ℕ → ℕ) (f : Code) → SameCode (Becomes r) f (relabelled r f)
code_becomes r [] = NoBlock
code_becomes r (b ∷ f) = ABlock (block_becomes r b) (code_becomes r f)

alike : (r : ℕ → ℕ) → KeepsApart r → (f : Code) → Alike (Becomes r) f (relabelled r f)
alike r apart f = record { one = record { there = λ a b c p q. sym p ∙ q; back = λ a b c p q. apart a b (p ∙ sym q) }; code = code_becomes r f }

pub relabelling : RelabellingLaw
relabelling r apart is_pointer f rule at = same_rules (Becomes r) f (relabelled r f) (alike r apart f) is_pointer rule at

-- ---- numbers of labels are apart

abbrev place : Code → ℕ → ℕ
place f l = position_or_len (λ b. b.label == l) f

-- the block at the place of a label has it
record HasLabel (f : Code) (l k : ℕ) : Type 0 where
  there : Block
  here : slice_get f k ≡ Some there
  label : there.label ≡ l

-- one place further on
further : (b : Block) (f : Code) (l n : ℕ) → HasLabel f l n → HasLabel (b ∷ f) l (1 + n)
further b f l n h = subst (λ k. HasLabel (b ∷ f) l k) (sym (one-add n)) (record { there = h.there; here = h.here; label = h.label })

at_place_by : (b : Block) (f : Code) (l n : ℕ) (t : Bool) → (b.label == l) ≡ t → cond (not t) (1 + n) 0 < suc (length f) → (n < length f → HasLabel f l n) → HasLabel (b ∷ f) l (cond (not t) (1 + n) 0)
at_place_by b f l n true e within rest = record { there = b; here = refl; label = eqb-true b.label l e }
at_place_by b f l n false e within rest = further b f l n (rest (omega arith))

at_place : (f : Code) (l : ℕ) → place f l < length f → HasLabel f l (place f l)
at_place [] l within = absurd (omega arith)
at_place (b ∷ f) l within = at_place_by b f l (place f l) (b.label == l) refl within (at_place f l)

-- the place of a label is the first of a block that has it
no_later_by : (l k n : ℕ) (t : Bool) → n ≤ k → cond (not t) (1 + n) 0 ≤ suc k
no_later_by l k n true h = omega arith
no_later_by l k n false h = omega arith

no_later : (f : Code) (k : ℕ) (b : Block) → slice_get f k ≡ Some b → place f b.label ≤ k
no_later [] k b e = cc
no_later (c ∷ f) zero b e =
    let i : c ≡ b = cc in
    le_of_eq (ap (λ t. cond (not t) (1 + place f b.label) 0) (eq-eqb c.label b.label (ap (λ z. z.label) i)))
no_later (c ∷ f) (suc k) b e = no_later_by b.label k (place f b.label) (c.label == b.label) (no_later f k b e)

within : (f : Code) (k : ℕ) (b : Block) → slice_get f k ≡ Some b → k < length f
within [] k b e = cc
within (c ∷ f) zero b e = omega arith
within (c ∷ f) (suc k) b e = let h : k < length f = within f k b e in omega arith

number_by : (f : Code) (l : ℕ) (t : Bool) → ltb (place f l) (length f) ≡ t → number_of f l ≡ cond t (place f l) (length f + l)
number_by f l true e = ap (λ t. unwrap_or (cond t (Some (place f l)) None) (length f + l)) e
number_by f l false e = ap (λ t. unwrap_or (cond t (Some (place f l)) None) (length f + l)) e

number_within : (f : Code) (l : ℕ) → place f l < length f → number_of f l ≡ place f l
number_within f l h = number_by f l true (lt-ltb _ _ h)

-- two blocks found at one place have one label
one_label : (f : Code) (a b j k : ℕ) → j ≡ k → HasLabel f a j → HasLabel f b k → a ≡ b
one_label f a b j k e x y =
    let same : Some x.there ≡ Some y.there = sym x.here ∙ (ap (slice_get f) e ∙ y.here) in
    let one : x.there ≡ y.there = cc in
    sym x.label ∙ (ap (λ z. z.label) one ∙ y.label)

apart_by : (f : Code) (a b : ℕ) (t u : Bool) → ltb (place f a) (length f) ≡ t → ltb (place f b) (length f) ≡ u → number_of f a ≡ number_of f b → a ≡ b
apart_by f a b true true p q e =
    let h : place f a < length f = ltb-true _ _ p in
    let i : place f b < length f = ltb-true _ _ q in
    one_label f a b (place f a) (place f b) (sym (number_by f a true p) ∙ (e ∙ number_by f b true q)) (at_place f a h) (at_place f b i)
apart_by f a b true false p q e =
    let h : place f a < length f = ltb-true _ _ p in
    let same : place f a ≡ length f + b = sym (number_by f a true p) ∙ (e ∙ number_by f b false q) in
    absurd (omega arith)
apart_by f a b false true p q e =
    let h : place f b < length f = ltb-true _ _ q in
    let same : length f + a ≡ place f b = sym (number_by f a false p) ∙ (e ∙ number_by f b true q) in
    absurd (omega arith)
apart_by f a b false false p q e =
    let same : length f + a ≡ length f + b = sym (number_by f a false p) ∙ (e ∙ number_by f b false q) in
    omega arith

numbers_apart : (f : Code) → KeepsApart (number_of f)
numbers_apart f a b e = apart_by f a b (ltb (place f a) (length f)) (ltb (place f b) (length f)) refl refl e

-- ---- the numbered function

record FromBlock (r : ℕ → ℕ) (f : Code) (k : ℕ) (d : Block) : Type 0 where
  block : Block
  here : slice_get f k ≡ Some block
  label : d.label ≡ r block.label

from_block : (r : ℕ → ℕ) (f : Code) (k : ℕ) (d : Block) → slice_get (relabelled r f) k ≡ Some d → FromBlock r f k d
from_block r [] k d e = cc
from_block r (b ∷ f) zero d e =
    let i : relabelled_block r b ≡ d = cc in
    record { block = b; here = refl; label = sym (ap (λ z. z.label) i) }
from_block r (b ∷ f) (suc k) d e = let h = from_block r f k d e in record { block = h.block; here = h.here; label = h.label }

pub numbers : NumbersLaw
unfolding numbered
numbers f own k d e =
    let from = from_block (number_of f) f k d e in
    let first : place f from.block.label ≤ k = no_later f k from.block from.here in
    let fits : k < length f = within f k from.block from.here in
    let near : place f from.block.label < length f = omega arith in
    let here = at_place f from.block.label near in
    from.label ∙ (number_within f from.block.label near ∙ own (place f from.block.label) k here.there from.block here.here from.here here.label)

pub same_rules_numbered : SameRulesLaw
unfolding numbered
same_rules_numbered is_pointer f rule at = relabelling (number_of f) (numbers_apart f) is_pointer f rule at

first_of_same : (B C : (rule at : ℕ) → Type 0) → ((rule at : ℕ) → B rule at ↔ C rule at) → (refusal : Option Refusal) → IsFirst B refusal → IsFirst C refusal
first_of_same B C same None none = λ rule at broken. none rule at ((same rule at).1 broken)
first_of_same B C same (Some refusal) first =
    record { broken = (same refusal.rule refusal.at).0 first.broken; least = λ rule at broken. first.least rule at ((same rule at).1 broken) }

pub same_first_numbered : SameFirstLaw
same_first_numbered is_pointer f refusal =
    let same = same_rules_numbered is_pointer f in (
      first_of_same (Broken is_pointer f) (Broken is_pointer (numbered f)) same refusal,
      first_of_same (Broken is_pointer (numbered f)) (Broken is_pointer f) (λ rule at. let s = same rule at in (s.1, s.0)) refusal,
    )

-- ---- blocks by their numbers

-- the labels of blocks go up by one from n
abbrev pub NumberedFrom : (n : ℕ) → Code → Type 0
NumberedFrom n f = (k : ℕ) (b : Block) → slice_get f k ≡ Some b → b.label ≡ n + k

next_numbered : (n : ℕ) (b : Block) (f : Code) → NumberedFrom n (b ∷ f) → NumberedFrom (suc n) f
next_numbered n b f by_number k c e = let h : c.label ≡ n + suc k = by_number (suc k) c e in omega arith

front_label : (n : ℕ) (b : Block) (f : Code) → NumberedFrom n (b ∷ f) → b.label ≡ n
front_label n b f by_number = let h : b.label ≡ n + 0 = by_number 0 b refl in omega arith

block_from : (f : Code) (n k l : ℕ) → NumberedFrom n f → l ≡ n + k → block f l ≡ slice_get f k
block_from [] n k l by_number e = refl
block_from (b ∷ f) n zero l by_number e =
    let h : b.label ≡ n = front_label n b f by_number in
    let i : b.label ≡ l = omega arith in
    ap (λ t. cond t (Some b) (block f l)) (eq-eqb b.label l i)
block_from (b ∷ f) n (suc k) l by_number e =
    let h : b.label ≡ n = front_label n b f by_number in
    let i : b.label ≡ l → ⊥ = λ s. omega arith in
    ap (λ t. cond t (Some b) (block f l)) (ne_eqb b.label l i) ∙ block_from f (suc n) k l (next_numbered n b f by_number) (omega arith)

pub numbered_blocks : NumberedBlocksLaw
numbered_blocks f by_number k = block_from f 0 k k (λ j b e. let h : b.label ≡ j = by_number j b e in omega arith) (omega arith)

pub numbered_apart : NumberedApartLaw
numbered_apart f by_number j k a b at_j at_k same = sym (by_number j a at_j) ∙ (same ∙ by_number k b at_k)
