-- A normal function is spelled by its listing, and so is what a clean function spells.
use Rattle.std.proofs.Common.{◌≡◌, ℕ, Bool, true, false, ◌==◌, cond, List, [], ◌∷◌, ◌++◌, refl, sym, ap, ◌∙◌}
use Rattle.std.specs.List.{AllByRecursion}
use Rattle.spv_opcodes.specs.declared.op.TheConstants as op
use Rattle.spv_module.specs.Instruction.{Instruction}
use Rattle.spv_blocks.specs.Blocks.{Code}
use Rattle.spv_blocks.specs.Cutting.{blocks_of, is_label_mark}
use Rattle.spv_bodies.specs.Listing.{instruction, label_line, lines}
use Rattle.spv_normal.specs.Lines.{before_labels}
use Rattle.spv_normal.specs.Order.{first_label}
use Rattle.spv_tree.specs.Branches.{branches_in}
use Rattle.spv_tree.specs.Sound.{opcode_in}
use Rattle.spv_tree.specs.Tree.{words_of}
use Rattle.spv_spelling.specs.Clean.{no_pointers}
use Rattle.spv_structured.proofs.Bare.{bare}
use Rattle.spv_structured.proofs.ListedBlocks.{listed_blocks}
use Rattle.spv_sound_trees.proofs.Sound.{spelled_is_sound}
use Rattle.spv_clean_trees.proofs.Structures.{opens, spelled_is_structured}
use Rattle.spv_respelling.specs.Laws.{NormalIsSpelled, RespellsListing}
use Rattle.spv_respelling.proofs.Apart.{none_joins}
use Rattle.spv_respelling.proofs.Normals.{spelled_tree_is_normal}
use Rattle.spv_respelling.proofs.Respelled.{body_again}

-- ---- what stands before the first block

abbrev before : List (List ℕ) → List (List ℕ)
before [] = []
before (w ∷ ws) = cond (opcode_in w == op.LABEL) [] (w ∷ before ws)

words_before : (is : List Instruction) → words_of (before_labels is) ≡ before (words_of is)
words_before [] = refl
words_before (i ∷ is) = by (is_label_mark i) (words_before is)
  where
    by : (b : Bool) → words_of (before_labels is) ≡ before (words_of is)
        → words_of (cond b [] (i ∷ before_labels is)) ≡ cond b [] (i.words ∷ before (words_of is))
    by true e = refl
    by false e = ap (λ z. i.words ∷ z) e

before_line : (w : List ℕ) (ws : List (List ℕ)) (o : ℕ) → opcode_in w ≡ o → (o == op.LABEL) ≡ false → before (w ∷ ws) ≡ w ∷ before ws
before_line w ws o same other = ap (λ b. cond b [] (w ∷ before ws)) (ap (λ p. p == op.LABEL) same ∙ other)

before_parameters : (ps ws : List (List ℕ)) (label : ℕ) → AllByRecursion (λ words. opcode_in words ≡ op.FUNCTION_PARAMETER) ps
    → before (ps ++ label_line label ∷ ws) ≡ ps
before_parameters [] ws label h = refl
before_parameters (p ∷ ps) ws label h =
    before_line p (ps ++ label_line label ∷ ws) op.FUNCTION_PARAMETER h.0 refl ∙ ap (λ z. p ∷ z) (before_parameters ps ws label h.1)

-- ---- the first label

first_bare : (f : Code) → first_label (bare f) ≡ first_label f
first_bare [] = refl
first_bare (b ∷ bs) = refl

-- ---- functions

pub normal_is_spelled : NormalIsSpelled
normal_is_spelled f again sound opened structured normal same =
    let rest = lines (branches_in f) [] f.body ++ instruction op.FUNCTION_END [] ∷ [] in
    record {
      staying = record {
        joined = λ l t label j. absurd (none_joins f again sound opened structured same normal l t j);
        own = λ t none. refl;
      };
      front =
          words_before again ∙ ap before same
          ∙ before_line f.function (f.parameters ++ label_line f.label ∷ rest) op.FUNCTION opened.function refl
          ∙ ap (λ z. f.function ∷ z) (before_parameters f.parameters rest f.label opened.parameters);
      label = sym (ap first_label (listed_blocks f again sound opened same)) ∙ first_bare (blocks_of again);
      body = body_again f again sound opened structured same normal;
    }

pub respells_listing : RespellsListing
respells_listing insts stays f admitted spells again same =
    normal_is_spelled f again (spelled_is_sound insts stays f admitted spells) (opens insts stays f admitted spells)
    (spelled_is_structured no_pointers insts stays f admitted admitted.clean spells) (spelled_tree_is_normal insts stays f admitted spells) same
