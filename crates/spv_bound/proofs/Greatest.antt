-- The greatest id of instructions.
use Rattle.std.proofs.Common.{◌≡◌, ℕ, ◌+◌, ◌<◌, max, Bool, true, false, cond, List, [], ◌∷◌, ◌++◌, length, take, map, Some, refl, sym, ap, ◌∙◌, arith}
use Rattle.std.specs.List.{filter, fold, slice_get, zip}
use Rattle.std.proofs.lemmas.List.{append-nil}
use Rattle.std.proofs.lemmas.List.Concat.{flat_map-append}
use Rattle.spv_grammar.specs.declared.kind.Role.{Role}
use Rattle.spv_grammar.specs.Operands.{roles_of}
use Rattle.spv_grammar.specs.Roles.{names_id}
use Rattle.spv_module.specs.Instruction.{Instruction, parts}
use Rattle.spv_bound.specs.Bound.{greatest, named_ids, words_with}
use Rattle.spv_bound.proofs.Places.{take-at}

-- induction on the numbers in front
greatest-append : (xs ys : List ℕ) → greatest (xs ++ ys) ≡ max (greatest xs) (greatest ys)
greatest-append [] ys = grind arith
greatest-append (x ∷ xs) ys = ap (λ (n : ℕ). max x n) (greatest-append xs ys) ∙ max_three x (greatest xs) (greatest ys)
  where
    max_three : (x y z : ℕ) → max x (max y z) ≡ max (max x y) z
    max_three x y z = omega arith

-- the words of parts that name an id
abbrev pub named_words : List (Role × ℕ) → List ℕ
named_words parts = map (λ part. part.1) (filter (λ part. names_id part.0) parts)

most_cons : (names : Bool) (most w : ℕ) (ws : List ℕ) → max (max most (cond names w 0)) (greatest ws) ≡ max most (greatest (cond names (w ∷ ws) ws))
most_cons true most w ws = omega arith
most_cons false most w ws = omega arith

map_cond : (b : Bool) (part : Role × ℕ) (rest : List (Role × ℕ)) → map (λ (p : Role × ℕ). p.1) (cond b (part ∷ rest) rest) ≡ cond b (part.1 ∷ map (λ (p : Role × ℕ). p.1) rest) (map (λ (p : Role × ℕ). p.1) rest)
map_cond true part rest = refl
map_cond false part rest = refl

-- induction on the parts, for any number before them
fold-greatest : (most : ℕ) (ps : List (Role × ℕ)) → fold (λ n part. max n (cond (names_id part.0) part.1 0)) most ps ≡ max most (greatest (named_words ps))
fold-greatest most [] = omega arith
fold-greatest most (p ∷ ps) =
    fold-greatest (max most (cond (names_id p.0) p.1 0)) ps
    ∙ most_cons (names_id p.0) most p.1 (named_words ps)
    ∙ ap (λ (ws : List ℕ). max most (greatest ws)) (sym (map_cond (names_id p.0) p (filter (λ part. names_id part.0) ps)))

-- the greatest id of an instruction, from its parts
pub greatest-of_parts : (i : Instruction) (rs : List Role) → parts (roles_of i.words) ≡ rs → fold (λ n part. max n (cond (names_id part.0) part.1 0)) 0 (zip rs i.words) ≡ greatest (words_with names_id i)
greatest-of_parts i rs e =
    ap (λ (roles : List Role). fold (λ n part. max n (cond (names_id part.0) part.1 0)) 0 (zip roles i.words)) (sym e)
    ∙ fold-greatest 0 (zip (parts (roles_of i.words)) i.words)
    ∙ (omega arith)

-- one instruction more
pub greatest-step : (insts : List Instruction) (k : ℕ) (i : Instruction) → k < length insts → slice_get insts k ≡ Some i → greatest (named_ids (take (k + 1) insts)) ≡ max (greatest (named_ids (take k insts))) (greatest (words_with names_id i))
greatest-step insts k i fits at =
    ap (λ (is : List Instruction). greatest (named_ids is)) (take-at insts k i fits at)
    ∙ ap greatest (flat_map-append (words_with names_id) (take k insts) (i ∷ []) ∙ ap (λ (ws : List ℕ). named_ids (take k insts) ++ ws) (append-nil (words_with names_id i)))
    ∙ greatest-append (named_ids (take k insts)) (words_with names_id i)
