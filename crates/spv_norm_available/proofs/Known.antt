-- What is known in a module, and is no label, is known in one that is like it.
use Rattle.std.proofs.Common.{◌≡◌, ◌≢◌, ◌⊎◌, inl, inr, ℕ, zero, suc, ◌+◌, Bool, true, false, cond, ◌||◌, ◌==◌, List, [], ◌∷◌, take, find, position, drop, Option, Some, None, refl, sym, ap, ◌∙◌, arith}
use Rattle.std.specs.Prelude.{count_by, slice_index}
use Rattle.std.specs.Option.{option_map, option_map_or}
use Rattle.std.proofs.lemmas.List.Sums.{sum_by-cons}
use Rattle.spv_opcodes.specs.declared.op.TheConstants as op
use Rattle.spv_grammar.specs.Operands.{opcode_of}
use Rattle.spv_module.specs.Code.{is_function}
use Rattle.spv_module.specs.Instruction.{Instruction, opcode}
use Rattle.spv_blocks.specs.Cutting.{is_label_mark}
use Rattle.spv_ids.specs.Ids.{defines, definition, kind, place_of, words_of}
use Rattle.spv_ids.proofs.Places.{position-cons}
use Rattle.spv_typing.specs.Kinds.{is_one_of, is_outside}
use Rattle.spv_walk.proofs.Unique.{equal_true}
use Rattle.spv_availability.specs.Places.{function_of}
use Rattle.spv_fine.specs.Laws.{IsKnown}
use Rattle.spv_alike.specs.Alike.{AreAlike, is_loose, loose_kinds}

-- ---- where an id is defined

-- the instruction that defines an id, and its place
pub record Defined (insts : List Instruction) (id : ℕ) : Type 0 where
  pub at : ℕ
  pub inst : Instruction
  pub is_at : place_of insts id ≡ Some at
  pub is : definition insts id ≡ Some inst

abbrev here_defined : (i : Instruction) (is : List Instruction) (id : ℕ) → defines id i ≡ true → Defined (i ∷ is) id
here_defined i is id h = record {
  at = 0;
  inst = i;
  is_at = position-cons (defines id) i is ∙ ap (λ b. cond b (Some 0) (option_map (λ k. suc k) (position (defines id) is))) h;
  is = ap (λ b. cond b (Some i) (find (defines id) is)) h;
}

abbrev further_defined : (i : Instruction) (is : List Instruction) (id : ℕ) → defines id i ≡ false → Defined is id → Defined (i ∷ is) id
further_defined i is id h d = record {
  at = suc d.at;
  inst = d.inst;
  is_at = position-cons (defines id) i is ∙ ap (λ b. cond b (Some 0) (option_map (λ k. suc k) (position (defines id) is))) h ∙ ap (option_map (λ k. suc k)) d.is_at;
  is = ap (λ b. cond b (Some i) (find (defines id) is)) h ∙ d.is;
}

-- by the definition alone; induction on the instructions
pub place_too : (insts : List Instruction) (id : ℕ) (inst : Instruction) → definition insts id ≡ Some inst → Defined insts id
place_too [] id inst e = absurd (cc e)
place_too (i ∷ is) id inst e = by (defines id i) refl e (place_too is id inst)
  where
    by : (b : Bool) → defines id i ≡ b → cond b (Some i) (find (defines id) is) ≡ Some inst → (definition is id ≡ Some inst → Defined is id) → Defined (i ∷ is) id
    by true h e more = here_defined i is id h
    by false h e more = further_defined i is id h (more e)

-- ---- outside functions

count : List Instruction → ℕ
count is = count_by is_function is

count_front : (i : Instruction) (is : List Instruction) → count (i ∷ is) ≡ cond (is_function i) 1 0 + count is
unfolding count
count_front i is = sum_by-cons (λ (x : Instruction). cond (is_function x) 1 0) i is

count_nothing : count [] ≡ 0
unfolding count
count_nothing = refl

-- the instruction in front
number_here : (i : Instruction) (is : List Instruction) → function_of (i ∷ is) 0 ≡ cond (is_function i) 1 0
unfolding count
number_here i is = by (count_front i []) count_nothing
  where
    by : count (i ∷ []) ≡ cond (is_function i) 1 0 + count [] → count [] ≡ 0 → count (i ∷ []) ≡ cond (is_function i) 1 0
    by e n = omega (arith, e, n)

-- and those behind it
number_behind : (i : Instruction) (is : List Instruction) (k : ℕ) → function_of (i ∷ is) (suc k) ≡ cond (is_function i) 1 0 + function_of is k
unfolding count
number_behind i is k = ap (λ (n : ℕ). count (take n (i ∷ is))) more ∙ count_front i (take (k + 1) is)
  where
    more : suc k + 1 ≡ suc (k + 1)
    more = omega arith

pub record DefinedOutside (insts : List Instruction) (id : ℕ) : Type 0 where
  pub defined : Defined insts id
  pub outside : function_of insts defined.at ≡ 0

-- induction on the instructions
pub outside_defined : (insts : List Instruction) (id : ℕ) → is_outside insts id ≡ true → DefinedOutside insts id
outside_defined [] id e = absurd (cc e)
outside_defined (i ∷ is) id e = by (is_function i) (defines id i) refl refl e (outside_defined is id)
  where
    by : (f d : Bool) → is_function i ≡ f → defines id i ≡ d → cond f false (cond d true (is_outside is id)) ≡ true
        → (is_outside is id ≡ true → DefinedOutside is id) → DefinedOutside (i ∷ is) id
    by true d f h e more = absurd (cc e)
    by false true f h e more = record { defined = here_defined i is id h; outside = number_here i is ∙ ap (λ b. cond b 1 0) f }
    by false false f h e more =
        let d : DefinedOutside is id = more e in
        record {
          defined = further_defined i is id h d.defined;
          outside = number_behind i is d.defined.at ∙ ap (λ b. cond b 1 0 + function_of is d.defined.at) f ∙ (let z = d.outside in omega arith);
        }

-- and the other way round
pub defined_outside : (insts : List Instruction) (id : ℕ) (at : ℕ) → place_of insts id ≡ Some at → function_of insts at ≡ 0 → is_outside insts id ≡ true
defined_outside [] id at e none = absurd (cc e)
defined_outside (i ∷ is) id at e none =
    by (is_function i) (defines id i) refl refl (position (defines id) is) refl (sym (position-cons (defines id) i is) ∙ e) (defined_outside is id)
  where
    by : (f d : Bool) → is_function i ≡ f → defines id i ≡ d → (o : Option ℕ) → position (defines id) is ≡ o → cond (defines id i) (Some 0) (option_map (λ k. suc k) (position (defines id) is)) ≡ Some at
        → ((k : ℕ) → place_of is id ≡ Some k → function_of is k ≡ 0 → is_outside is id ≡ true) → cond (is_function i) false (cond (defines id i) true (is_outside is id)) ≡ true
    by true d f h o p q more = absurd (opened f at none)
      where
        opened : is_function i ≡ true → (k : ℕ) → function_of (i ∷ is) k ≡ 0 → ⊥
        opened f zero z = let e = number_here i is ∙ ap (λ b. cond b 1 0) f in omega (arith, e, z)
        opened f (suc k) z = let e = number_behind i is k ∙ ap (λ b. cond b 1 0 + function_of is k) f in omega (arith, e, z)
    by false true f h o p q more = ap (λ b. cond b false (cond (defines id i) true (is_outside is id))) f ∙ ap (λ b. cond b true (is_outside is id)) h
    by false false f h None p q more =
        absurd (cc (q, sym (ap (λ b. cond b (Some 0) (option_map (λ k. suc k) (position (defines id) is))) h ∙ ap (option_map (λ k. suc k)) p)))
    by false false f h (Some k) p q more =
        let there : suc k ≡ at = cc (q, ap (λ b. cond b (Some 0) (option_map (λ n. suc n) (position (defines id) is))) h ∙ ap (option_map (λ n. suc n)) p) in
        let z : function_of is k ≡ 0 = (let e = number_behind i is k ∙ ap (λ b. cond b 1 0 + function_of is k) f in let g = ap (function_of (i ∷ is)) there ∙ none in omega (arith, e, g)) in
        ap (λ b. cond b false (cond (defines id i) true (is_outside is id))) f ∙ ap (λ b. cond b true (is_outside is id)) h ∙ more k p z

-- ---- modules that are alike

module _ (before after : List Instruction) (alike : AreAlike before after) where
  known_outside : (id : ℕ) (at : ℕ) → place_of before id ≡ Some at → function_of before at ≡ 0 → IsKnown after id
  known_outside id at e none =
      let d : DefinedOutside after id = outside_defined after id (alike.outside id ∙ defined_outside before id at e none) in
      record { at = d.defined.at; inst = d.defined.inst; is_at = d.defined.is_at; is = d.defined.is; everywhere = inl d.outside }

  -- a function is defined by the same words
  known_function : (id : ℕ) (inst : Instruction) → definition before id ≡ Some inst → is_function inst ≡ true → IsKnown after id
  known_function id inst e f = by (definition after id) refl
    where
      opcode_is : opcode inst ≡ op.FUNCTION
      opcode_is = equal_true (opcode inst) op.FUNCTION f

      fixed : is_loose before id ≡ false
      fixed = ap (λ o. is_one_of loose_kinds (option_map_or opcode o 0)) e ∙ ap (is_one_of loose_kinds) opcode_is

      same : words_of after id 0 ≡ inst.words
      same = alike.fixed id fixed ∙ ap (λ o. option_map_or (λ (i : Instruction). drop 0 i.words) o []) e

      by : (o : Option Instruction) → definition after id ≡ o → IsKnown after id
      by None d =
          let nothing : inst.words ≡ [] = sym same ∙ ap (λ o. option_map_or (λ (i : Instruction). drop 0 i.words) o []) d in
          absurd (no_opcode inst nothing opcode_is)
        where
          no_opcode : (i : Instruction) → i.words ≡ [] → opcode i ≡ op.FUNCTION → ⊥
          no_opcode i w o = let z : opcode i ≡ 0 = ap (λ ws. opcode_of (slice_index ws 0)) w in cc (z, o)
      by (Some i) d =
          let p : Defined after id = place_too after id i d in
          let words : i.words ≡ inst.words = sym (ap (λ o. option_map_or (λ (j : Instruction). drop 0 j.words) o []) d) ∙ same in
          let one : i ≡ p.inst = cc (d, p.is) in
          let begins : is_function p.inst ≡ true = ap is_function (sym one) ∙ ap (λ ws. opcode_of (slice_index ws 0) == op.FUNCTION) words ∙ f in
          record { at = p.at; inst = p.inst; is_at = p.is_at; is = p.is; everywhere = inr (ap (λ b. b || is_label_mark p.inst) begins) }

  pub known_alike : (id : ℕ) → IsKnown before id → kind before id ≢ op.LABEL → IsKnown after id
  known_alike id h other = elim h.everywhere [
    | inl outside ↦ known_outside id h.at h.is_at outside
    | inr everywhere ↦ elim (either (is_function h.inst) (is_label_mark h.inst) everywhere) [
      | inl f ↦ known_function id h.inst h.is f
      | inr l ↦ absurd (other (ap (λ o. option_map_or opcode o 0) h.is ∙ equal_true (opcode h.inst) op.LABEL l))
    ]
  ]
    where
      either : (a b : Bool) → (a || b) ≡ true → (a ≡ true) ⊎ (b ≡ true)
      either true b e = inl refl
      either false b e = inr e
