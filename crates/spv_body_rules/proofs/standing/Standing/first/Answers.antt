use Rattle.spv_body_rules.proofs.standing.Standing.first.Goals as goal

pub returns : goal.returns
returns c = λ insts. record { stage = c.first.ensures insts; context = c.first-2.ensures insts }
