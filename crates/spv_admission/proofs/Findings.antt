-- Where no rule on bodies and on the whole module is broken, none of the instructions breaks one, one by one; and the trees are sound.
use Rattle.std.proofs.Common.{List, None, refl}
use Rattle.spv_module.specs.Code.{Code}
use Rattle.spv_module.specs.Instruction.{Instruction}
use Rattle.spv_walk.specs.Rules.{IsFirst}
use Rattle.spv_calls.proofs.Deciding.{tests_of}
use Rattle.spv_spelling.specs.Whole.{AreInstructions}
use Rattle.spv_tree.specs.declared.body.Body.{Body}
use Rattle.spv_functions.specs.Functions.{IsDeclared}
use Rattle.spv_control.specs.Control.{AreParsed}
use Rattle.spv_check.specs.Broken.{BrokenInBodies, Listed, NotAvailable}
use Rattle.spv_module_rules.specs.Broken.{BrokenInWhole, OfModule}
use Rattle.spv_norm.specs.Bodies.{AreTrees}
use Rattle.spv_admitted.specs.Laws.{FindNothing}
use Rattle.spv_norm_profile.proofs.Entered.{entry_holds}

pub parsed_are_trees : (insts : List Instruction) (bodies : List Body) → AreParsed insts bodies → AreTrees insts bodies
parsed_are_trees insts bodies h = record {
  count = h.count;
  each = λ k body at. let tree = h.each k body at in record { sound = tree.sound; normal = tree.normal };
}

-- ---- all

pub find_nothing : (code : Code) (bodies : List Body) → AreInstructions code.insts → IsDeclared code.insts → AreParsed code.insts bodies
    → IsFirst (BrokenInBodies code.insts) None → IsFirst (BrokenInWhole code.insts) None → FindNothing code bodies
find_nothing code bodies each d p b w = record {
  end = d.end;
  instructions = each;
  laid_out = d.laid_out;
  declared = d.declared;
  count = p.count;
  trees = p.each;
  fit = λ k i at rule h. b rule i.offset (record { k = k; i = i; is = at; broken = Listed rule h; place = refl });
  available = λ k i at inside h. b 503 i.offset (record { k = k; i = i; is = at; broken = NotAvailable inside h; place = refl });
  entered = λ k i at rule h. let t = tests_of code.insts in w rule i.offset (OfModule t.0 rule i.offset t.1 (entry_holds t.0 code.insts k i rule at h));
}
