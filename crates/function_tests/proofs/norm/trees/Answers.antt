use Rattle.std.proofs.Common.{◌≡◌, ℕ, zero, suc, ◌+◌, ◌≤◌, Bool, List, [], ◌∷◌, ◌++◌, length, Some, refl, sym, ap, ◌∙◌, subst, arith}
use Rattle.std.specs.List.{count_by, slice_get}
use Rattle.std.proofs.lemmas.List.{length-append}
use Rattle.spv_module.specs.Code.{is_function}
use Rattle.spv_module.specs.Instruction.{Instruction}
use Rattle.spv_blocks.specs.Cutting.{function_insts}
use Rattle.spv_functions.specs.Functions.{IsTree, is_pointer}
use Rattle.spv_tree.specs.declared.body.Body.{Body}
use Rattle.spv_norm.specs.Bodies.{AreTrees, IsTreeOf}
use Rattle.function_tests.proofs.norm.trees.Goals as goal

-- what holds of each element and of one more holds of each; induction on the elements
each_pushed : (P : ℕ → Body → Type 0) (xs : List Body) (x : Body) → ((k : ℕ) (y : Body) → slice_get xs k ≡ Some y → P k y) → P (length xs) x
    → (k : ℕ) (y : Body) → slice_get (xs ++ x ∷ []) k ≡ Some y → P k y
each_pushed P [] x each last zero y e = let same : x ≡ y = cc (e) in subst (P zero) same last
each_pushed P [] x each last (suc k) y e = absurd (cc (e))
each_pushed P (z ∷ zs) x each last zero y e = each zero y e
each_pushed P (z ∷ zs) x each last (suc k) y e = each_pushed (λ n. P (suc n)) zs x (λ n w. each (suc n) w) last k y e

abbrev AreFirst : List Instruction → List Body → ℕ → Type 0
AreFirst insts bodies k = (length bodies ≡ k) × ((j : ℕ) (body : Body) → slice_get bodies j ≡ Some body → IsTreeOf (function_insts j insts) body)

-- one function more
tree_pushed : (insts : List Instruction) (bodies after : List Body) (k : ℕ) (body : Body) → AreFirst insts bodies k → IsTree (is_pointer insts) (function_insts k insts) body
    → after ≡ bodies ++ body ∷ [] → AreFirst insts after (k + 1)
tree_pushed insts bodies after k body (e, each) tree is = (
  ap length is ∙ length-append bodies (body ∷ []) ∙ ap (λ n. n + 1) e,
  subst (λ bs. (j : ℕ) (b : Body) → slice_get bs j ≡ Some b → IsTreeOf (function_insts j insts) b) (sym is)
      (each_pushed (λ j b. IsTreeOf (function_insts j insts) b) bodies body each (subst (λ n. IsTreeOf (function_insts n insts) body) (sym e) own)),
)
  where
    own : IsTreeOf (function_insts k insts) body
    own = record { sound = tree.sound; normal = tree.normal }

-- all functions
all_trees : (insts : List Instruction) (bodies : List Body) (k end : ℕ) → AreFirst insts bodies k → end ≤ k → k ≤ end → end ≡ count_by is_function insts → AreTrees insts bodies
all_trees insts bodies k end (e, each) over within is = record { count = e ∙ all_of k end over within ∙ is; each = each }
  where
    all_of : (m n : ℕ) → n ≤ m → m ≤ n → m ≡ n
    all_of m n a b = omega arith

pub functions-preserved : goal.functions-preserved
functions-preserved c =
    tree_pushed c.args.flat.now.insts c.functions.bodies.items c.push_tree.new.bodies.items c.functions.f c.in_ok-parse.field-0 c.functions.invariant c.in_ok-parse.ensures
    c.in_ok-push_tree.ensures

pub returns : goal.returns
returns c =
    all_trees c.args.flat.now.insts c.functions.bodies.items c.functions.f c.functions-f-end.result c.functions.invariant c.functions-test.false c.functions.auto.f-end
    c.functions-f-end.ensures
