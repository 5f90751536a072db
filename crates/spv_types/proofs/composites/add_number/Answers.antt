use Rattle.spv_types.proofs.PartLemmas.{adds_number}
use Rattle.spv_types.proofs.composites.add_number.Goals as goal

pub returns-in_ok-push-in-Ok : goal.returns-in_ok-push-in-Ok
returns-in_ok-push-in-Ok c = λ table specialised h.
    adds_number table c.args.id c.in-Some.number c.in-Ok.number c.args.numbers.now.items c.push.new.self.items (c.in-Some.ensures.found table specialised h)
    c.in-Ok.ensures.1
    c.in_ok-push-in-Ok.ensures.items
