-- What is told of a function's tree, and of the instructions that spell it.
use Rattle.std.proofs.Common.{◌≡◌, ℕ, Bool, List, Result, Ok, Err, ◌∙◌}
use Rattle.spv_base.specs.declared.fault.Fault.{Fault}
use Rattle.spv_base.specs.declared.fault.Fault.TheVariants as faults
use Rattle.spv_module.specs.Instruction.{Instruction}
use Rattle.spv_bodies.specs.Listing.{listed}
use Rattle.spv_normal.specs.Lines.{without_marks}
use Rattle.spv_normal_trees.proofs.Listed.{spelled_is_normal}
use Rattle.spv_sound_trees.proofs.Sound.{spelled_is_sound}
use Rattle.spv_tree.specs.declared.body.Body.{Body}
use Rattle.spv_tree.specs.Tree.{body_of, words_of}
use Rattle.spv_parse.specs.Functions.{IsParsed, Parses}
use Rattle.spv_functions.specs.Functions.{Answers, IsNormal, IsTree}

pub parsed_is_tree : (is_pointer : ℕ → Bool) (insts : List Instruction) (body : Body) → IsParsed is_pointer insts body → IsTree is_pointer insts body
parsed_is_tree is_pointer insts body h =
    let s = h.spelled in
    record {
      parsed = h;
      sound = spelled_is_sound (without_marks insts) s.stays (body_of body) s.admitted s.spells;
      normal = spelled_is_normal insts s.stays (body_of body) s.admitted s.spells;
    }

pub parses_answers : (is_pointer : ℕ → Bool) (insts : List Instruction) (result : Result Body Fault) → Parses is_pointer insts result → Answers is_pointer insts result
parses_answers is_pointer insts (Ok body) h = parsed_is_tree is_pointer insts body h
parses_answers is_pointer insts (Err (faults.Refused refusal)) h = h
parses_answers is_pointer insts (Err faults.Nesting) h = h
parses_answers is_pointer insts (Err faults.NoMemory) h = tt

-- the instructions of the tree are the normal form
pub tree_is_normal : (is_pointer : ℕ → Bool) (insts : List Instruction) (body : Body) (normal : List Instruction) → IsTree is_pointer insts body
    → words_of normal ≡ listed (body_of body) → IsNormal is_pointer insts normal
tree_is_normal is_pointer insts body normal h e = record { depth = h.parsed.depth; nested = h.parsed.nested; within = h.parsed.within; same = e ∙ h.normal }
