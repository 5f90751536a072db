-- In a function that spells a tree no rule is broken, and its blocks can be numbered in the order of the tree.
use Rattle.std.proofs.Common.{◌≡◌, ℕ, Bool, List, sym, ◌∙◌, subst}
use Rattle.spv_module.specs.Instruction.{Instruction}
use Rattle.spv_blocks.specs.Blocks.{Code}
use Rattle.spv_blocks.specs.Cutting.{blocks_of}
use Rattle.spv_normal.specs.Lines.{without_marks}
use Rattle.spv_parse.specs.Functions.{IsParsed}
use Rattle.spv_spelling.specs.Clean.{IsClean}
use Rattle.spv_texts.proofs.Marks.{blocks_without_marks}
use Rattle.spv_tree.specs.declared.body.Body.{Body}
use Rattle.spv_tree.specs.Tree.{body_of}
use Rattle.spv_ways.specs.Laws.{IsNumbered}
use Rattle.spv_ways.proofs.ForwardOrder.{ways_go_forward}

pub clean_blocks : (p : ℕ → Bool) (insts : List Instruction) (body : Body) (f g : Code) → IsParsed p insts body → g ≡ f → f ≡ blocks_of insts
    → (is_pointer : ℕ → Bool) × IsClean is_pointer g
clean_blocks p insts body f g parsed same blocks = (p, subst (IsClean p) (sym (same ∙ blocks)) parsed.clean)

pub numbered_blocks : (p : ℕ → Bool) (insts : List Instruction) (body : Body) (f g : Code) → IsParsed p insts body → g ≡ f → f ≡ blocks_of insts
    → (number : ℕ → ℕ) × IsNumbered g number
numbered_blocks p insts body f g parsed same blocks =
    let s = parsed.spelled in
    let n = ways_go_forward (without_marks insts) s.stays (body_of body) s.admitted s.spells in
    (n.0, subst (λ (z : Code). IsNumbered z n.0) (blocks_without_marks insts ∙ sym (same ∙ blocks)) n.1)
