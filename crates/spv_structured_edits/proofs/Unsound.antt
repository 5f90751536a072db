-- A selection one of whose arms begins with an instruction: without it both arms go to one block.
use Rattle.std.proofs.Common.{false, [], refl, arith}
use Rattle.spv_bodies.specs.Bodies.{Body, Selects, Step}
use Rattle.spv_bodies.specs.Facts.{leave, of_body, plain, returns}
use Rattle.spv_structured.specs.Structured.{IsStructured}
use Rattle.spv_editing.specs.Editing.{Edit}
use Rattle.spv_structured_edits.specs.Laws.{UnsoundMayNot}

abbrev stepping : Body
stepping = Selects 0 5 (Step [] (leave 7)) (leave 7) (plain 7) returns

stepping-is : IsStructured (λ type. false) (of_body stepping)
stepping-is = record {
  flows = ((λ e. omega (arith, e)), refl, refl, refl);
  parameters = (tt, tt, tt, tt);
  arms = (tt, tt, tt);
}

abbrev without-steps : Edit
without-steps = record { steps = λ words. []; uses = λ id. id }

pub unsound_may_not : UnsoundMayNot
unsound_may_not law = (law without-steps (λ type. false) (of_body stepping) stepping-is).flows.0 refl
