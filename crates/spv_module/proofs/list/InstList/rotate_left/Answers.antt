use Rattle.std.proofs.Common.{◌≤◌, ◌∙◌, ap, List, take, drop, length, ◌++◌, sym, subst, arith}
use Rattle.std.specs.List.{RotatedLeft}
use Rattle.std.proofs.lemmas.List.{length-map}
use Rattle.spv_module.specs.Instruction.{Instruction}
use Rattle.spv_module.specs.List.{instruction_at}
use Rattle.spv_module.proofs.Turned.{spans-turned, apart-turned, instructions-turned}
use Rattle.spv_module.proofs.list.InstList.rotate_left.Goals as goal

pub invariant_of-self : goal.invariant_of-self
invariant_of-self c =
    let spans = c.self.inside.spans.items in
    let few : c.args.count ≤ length spans = omega (arith, c.requires, ap length c.self.view_is, length-map spans (instruction_at c.self.inside.pool.words.items)) in
    record {
      whole = spans-turned c.self.inside.pool.words.items c.self.inside.pool.roles.items spans c.rotate_left.new.self.items c.args.count c.rotate_left.ensures.items c.self.invariant.whole;
      apart = apart-turned spans c.rotate_left.new.self.items c.args.count few (sym c.rotate_left.new.self.ok.0 ∙ c.rotate_left.ensures.len ∙ c.self.inside.spans.ok.0)
          (subst (λ n. RotatedLeft spans c.rotate_left.new.self.items n c.args.count) c.self.inside.spans.ok.0 c.rotate_left.ensures.by_index) c.self.invariant.apart;
    }

pub returns : goal.returns
returns c =
    instructions-turned c.self.inside.pool.words.items c.self.inside.spans.items c.rotate_left.new.self.items c.args.count c.rotate_left.ensures.items
    ∙ ap (λ (list : List Instruction). drop c.args.count list ++ take c.args.count list) c.self.view_is
