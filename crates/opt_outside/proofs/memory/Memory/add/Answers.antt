use Rattle.std.proofs.Common.{refl}
use Rattle.opt_outside.proofs.HeldFiles.{held-add, bytes_at-append}
use Rattle.opt_outside.proofs.memory.Memory.add.Goals as goal

pub returns-clause-ok : goal.returns-clause-ok
returns-clause-ok c =
    rw (← c.self.view_is, c.in_ok-add.ensures.ok) (record {
      others = rw (bytes_at-append c.self.inside.files (c.args.name.now, c.args.bytes.now) c.self.inside.input c.self.invariant.1) refl;
      holds = λ q. held-add c.self.inside.files c.args.name.now c.args.bytes.now q;
    })
