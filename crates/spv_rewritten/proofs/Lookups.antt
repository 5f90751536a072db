-- Each id is defined where it was, by an instruction that became that one.
use Rattle.std.proofs.Common.{◌≡◌, ℕ, zero, suc, Bool, true, false, cond, ◌==◌, ◌&&◌, List, [], ◌∷◌, length, drop, Option, Some, None, refl, sym, ap, ap₂, subst, ◌∙◌, inl, inr}
use Rattle.std.specs.Option.{option_and_then, option_map, option_map_or}
use Rattle.spv_opcodes.specs.declared.op.TheConstants as op
use Rattle.spv_module.specs.Code.{is_function}
use Rattle.spv_module.specs.Instruction.{Instruction, opcode}
use Rattle.spv_ids.specs.Ids.{defines, definition, is_defined, kind, place_of, words_of}
use Rattle.spv_ids.proofs.Places.{position-cons}
use Rattle.spv_typing.specs.Kinds.{is_one_of, is_outside}
use Rattle.spv_values.specs.Values.{given_type, value_type}
use Rattle.spv_alike_uses.specs.Alike.{firm_kinds, is_firm}
use Rattle.spv_calls.specs.Calls.{is_global}
use Rattle.spv_rewritten.specs.Rewritten.{EachAs, IsRewrittenAs}
use Rattle.spv_rewritten.specs.Laws.{KindsStay}
use Rattle.spv_rewritten.proofs.Common.{firm_settled, same_defines, same_function, same_given, same_opcode, settled_same}
use Rattle.spv_rewritten.proofs.Pairs.{same_any, walk}

-- both are found, as a pair, or neither
abbrev pub Found : (R : Instruction → Instruction → Type 0) → Option Instruction → Option Instruction → Type 0
Found R None None = Unit {0}
Found R None (Some j) = ⊥
Found R (Some i) None = ⊥
Found R (Some i) (Some j) = R i j

drop_long : (k : ℕ) (xs ys : List ℕ) → length ys ≡ length xs → length (drop k ys) ≡ length (drop k xs)
drop_long zero xs ys h = h
drop_long (suc k) [] [] h = refl
drop_long (suc k) [] (y ∷ ys) h = absurd (cc h)
drop_long (suc k) (x ∷ xs) [] h = absurd (cc h)
drop_long (suc k) (x ∷ xs) (y ∷ ys) h = drop_long k xs ys (cc h)

-- where a pair is one of an instruction and what it becomes
module _ (b : List Instruction) (R : Instruction → Instruction → Type 0) (rewritten : (i j : Instruction) → R i j → IsRewrittenAs b i j)
    (is js : List Instruction) (h : EachAs R is js) (id : ℕ) where
  abbrev Defines : Instruction → Instruction → Type 0
  Defines i j = R i j × (defines id i ≡ true)

  one_more : (i j : Instruction) (is js : List Instruction) → R i j → Found Defines (definition is id) (definition js id)
      → Found Defines (definition (i ∷ is) id) (definition (j ∷ js) id)
  one_more i j is js r more =
      subst (λ (c : Bool). Found Defines (definition (i ∷ is) id) (cond c (Some j) (definition js id))) (sym (same_defines b i j (rewritten i j r) id))
      (by (defines id i) refl)
    where
      by : (c : Bool) → defines id i ≡ c → Found Defines (cond c (Some i) (definition is id)) (cond c (Some j) (definition js id))
      by true e = (r, e)
      by false e = more

  pub same_definition : Found Defines (definition is id) (definition js id)
  same_definition = walk R (λ is js. Found Defines (definition is id) (definition js id)) tt one_more is js h

module _ (b is js : List Instruction) (h : EachAs (IsRewrittenAs b) is js) (id : ℕ) where
  abbrev D : Instruction → Instruction → Type 0
  D i j = IsRewrittenAs b i j × (defines id i ≡ true)

  found : Found D (definition is id) (definition js id)
  found = same_definition b (IsRewrittenAs b) (λ i j r. r) is js h id

  pub same_kind : kind js id ≡ kind is id
  same_kind = by (definition is id) (definition js id) found
    where
      by : (o p : Option Instruction) → Found D o p → option_map_or opcode p 0 ≡ option_map_or opcode o 0
      by None None f = refl
      by None (Some j) f = absurd f
      by (Some i) None f = absurd f
      by (Some i) (Some j) f = same_opcode b i j f.0

  pub same_value : value_type js id ≡ value_type is id
  same_value = by (definition is id) (definition js id) found
    where
      by : (o p : Option Instruction) → Found D o p → option_and_then given_type p ≡ option_and_then given_type o
      by None None f = refl
      by None (Some j) f = absurd f
      by (Some i) None f = absurd f
      by (Some i) (Some j) f = same_given b i j f.0

  -- what is firm has the same words
  pub same_firm : (A : Type 0) (read : List ℕ → A) (z : A) → is_firm is id ≡ true
      → option_map_or (λ (i : Instruction). read i.words) (definition js id) z ≡ option_map_or (λ (i : Instruction). read i.words) (definition is id) z
  same_firm A read z = by (definition is id) (definition js id) found
    where
      by : (o p : Option Instruction) → Found D o p → is_one_of firm_kinds (option_map_or opcode o 0) ≡ true
          → option_map_or (λ (i : Instruction). read i.words) p z ≡ option_map_or (λ (i : Instruction). read i.words) o z
      by None None f firm = refl
      by None (Some j) f firm = absurd f
      by (Some i) None f firm = absurd f
      by (Some i) (Some j) f firm = ap read (settled_same b i j f.0 (firm_settled (opcode i) firm))

  -- and what defines an id has as many words
  pub same_count : (k : ℕ) → length (words_of js id k) ≡ length (words_of is id k)
  same_count k = by (definition is id) (definition js id) found
    where
      by : (o p : Option Instruction) → Found D o p
          → length (option_map_or (λ (i : Instruction). drop k i.words) p []) ≡ length (option_map_or (λ (i : Instruction). drop k i.words) o [])
      by None None f = refl
      by None (Some j) f = absurd f
      by (Some i) None f = absurd f
      by (Some i) (Some j) f = elim f.0 [
        | inl w ↦ ap (λ ws. length (drop k ws)) w
        | inr c ↦ drop_long k i.words j.words (c.count id f.1)
      ]

  pub same_defined : is_defined js id ≡ is_defined is id
  same_defined = same_any (IsRewrittenAs b) (defines id) (defines id) (λ i j r. same_defines b i j r id) is js h

  pub same_place : place_of js id ≡ place_of is id
  same_place =
      walk (IsRewrittenAs b) (λ is js. place_of js id ≡ place_of is id) refl
      (λ i j is js r more. position-cons (defines id) j js
      ∙ ap₂ (λ (c : Bool) o. cond c (Some 0) (option_map (λ k. suc k) o)) (same_defines b i j r id) more
      ∙ sym (position-cons (defines id) i is)) is js h

  pub same_outside : is_outside js id ≡ is_outside is id
  same_outside =
      walk (IsRewrittenAs b) (λ is js. is_outside js id ≡ is_outside is id) refl
      (λ i j is js r more. ap₂ (λ (f d : Bool). cond f false (cond d true (is_outside js id))) (same_function b i j r) (same_defines b i j r id)
      ∙ ap (λ o. cond (is_function i) false (cond (defines id i) true o)) more) is js h

  pub same_global : is_global js id ≡ is_global is id
  same_global = ap₂ (λ (k : ℕ) (o : Bool). k == op.VARIABLE && o) same_kind same_outside

pub kinds_stay : KindsStay
kinds_stay before after w id = (same_kind before before after w id, same_defined before before after w id)
