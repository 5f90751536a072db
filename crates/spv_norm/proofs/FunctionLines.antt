-- The lines of the functions, function by function.
use Rattle.std.proofs.Common.{◌≡◌, ℕ, suc, ◌+◌, ◌≤◌, List, [], ◌∷◌, ◌++◌, length, slice_get, Some, sym, ap, ◌∙◌, arith, append-nil}
use Rattle.std.specs.List.{flat_map, range_with_len}
use Rattle.spv_module.specs.Instruction.{Instruction}
use Rattle.spv_blocks.specs.Cutting.{function_insts}
use Rattle.spv_normal.specs.Normal.{normal_function}
use Rattle.spv_norm.specs.Norm.{function_lines}
use Rattle.std.proofs.lemmas.Grind.{flat_map-append}
use Rattle.spv_bodies.specs.Listing.{listed}
use Rattle.spv_tree.specs.declared.body.Body.{Body}
use Rattle.spv_tree.specs.Sound.{IsSound}
use Rattle.spv_tree.specs.Tree.{body_of, words_of}
use Rattle.spv_norm.specs.Bodies.{AreTrees}
use Rattle.graph.proofs.Predecessors.{range-push}

-- those of the first n functions
abbrev pub lines_below : List Instruction → (n : ℕ) → List (List ℕ)
lines_below insts n = flat_map (λ k. normal_function (function_insts k insts)) (range_with_len 0 n)

lines_more : (insts : List Instruction) (n : ℕ) → lines_below insts (n + 1) ≡ lines_below insts n ++ normal_function (function_insts n insts)
lines_more insts n =
    ap (lines_below insts) (suc_more n) ∙ ap (flat_map (λ k. normal_function (function_insts k insts))) (range-push 0 n)
    ∙ flat_map-append (λ k. normal_function (function_insts k insts)) (range_with_len 0 n) ((0 + n) ∷ [])
    ∙ ap (λ xs. lines_below insts n ++ xs) (append-nil (normal_function (function_insts (0 + n) insts)) ∙ ap (λ m. normal_function (function_insts m insts)) (zero_more n))
  where
    suc_more : (n : ℕ) → n + 1 ≡ suc n
    suc_more n = omega arith

    zero_more : (n : ℕ) → 0 + n ≡ n
    zero_more n = omega arith

-- the tree at a place is sound
pub body_sound : (insts : List Instruction) (bodies : List Body) (k : ℕ) (body : Body) → AreTrees insts bodies → slice_get bodies k ≡ Some body → IsSound (body_of body)
body_sound insts bodies k body trees at = (trees.each k body at).sound

-- one function more
pub function_next : (insts now after : List Instruction) (bodies : List Body) (k : ℕ) (body : Body) → AreTrees insts bodies → slice_get bodies k ≡ Some body
    → words_of now ≡ lines_below insts k → words_of after ≡ words_of now ++ listed (body_of body) → words_of after ≡ lines_below insts (k + 1)
function_next insts now after bodies k body trees at e d =
    d ∙ ap (λ xs. xs ++ listed (body_of body)) e ∙ ap (λ xs. lines_below insts k ++ xs) (trees.each k body at).normal ∙ sym (lines_more insts k)

-- all functions
pub functions_all : (insts now : List Instruction) (bodies : List Body) (k : ℕ) → AreTrees insts bodies → length bodies ≤ k → k ≤ length bodies → words_of now ≡ lines_below insts k
    → words_of now ≡ function_lines insts
functions_all insts now bodies k trees over within e = e ∙ ap (lines_below insts) (all_of k (length bodies) over within ∙ trees.count)
  where
    all_of : (m n : ℕ) → n ≤ m → m ≤ n → m ≡ n
    all_of m n a b = omega arith
