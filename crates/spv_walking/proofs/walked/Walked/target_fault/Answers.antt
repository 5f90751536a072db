use Rattle.std.proofs.Common.{◌∙◌, sym, ap}
use Rattle.spv_blocks.specs.Tables.{found}
use Rattle.spv_module.specs.First.{here, first, least}
use Rattle.spv_blocks.specs.Blocks.{targets}
use Rattle.spv_blocks.specs.Seen.{seen_block}
use Rattle.spv_walk.specs.Rules.{end_at}
use Rattle.spv_walk.specs.Found.{all_target_rules}
use Rattle.spv_walking.specs.Places.{context_at}
use Rattle.spv_walking.proofs.Refused.{no_rules, targets_here, end_here, fault_at, no_fault_at}
use Rattle.spv_walking.proofs.walked.Walked.target_fault.Goals as goal

pub returns-then-stops : goal.returns-then-stops
returns-then-stops c =
    let f = c.args.labels.now in
    let l = c.args.label in
    ap (λ rs. first (here (end_at f l) rs)) (sym (no_rules f (found c.args.enterers.now) l (context_at c.args.self.now.rows c.args.place) (sym c.stops.ensures ∙ c.if-stops.true) (targets f l)))

pub returns-in-Some : goal.returns-in-Some
returns-in-Some c =
    let f = c.args.labels.now in
    let l = c.args.label in
    fault_at (end_at f l) c.args.block.now.end_at (all_target_rules f (found c.args.enterers.now) l (context_at c.args.self.now.rows c.args.place) (targets f l)) c.in-Some.rule
    (sym c.in-Some.is ∙ c.targets_rule.ensures
    ∙ ap (λ ts. least (all_target_rules f (found c.args.enterers.now) l (context_at c.args.self.now.rows c.args.place) ts))
    (c.deref.ensures.value ∙ c.in_ok-targets.ensures ∙ targets_here f l (seen_block c.args.block.now) c.requires.here))
    (end_here f l (seen_block c.args.block.now) c.requires.here)

pub returns : goal.returns
returns c =
    let f = c.args.labels.now in
    let l = c.args.label in
    no_fault_at (end_at f l) (all_target_rules f (found c.args.enterers.now) l (context_at c.args.self.now.rows c.args.place) (targets f l))
    (sym c.in-None.is ∙ c.targets_rule.ensures
    ∙ ap (λ ts. least (all_target_rules f (found c.args.enterers.now) l (context_at c.args.self.now.rows c.args.place) ts))
    (c.deref.ensures.value ∙ c.in_ok-targets.ensures ∙ targets_here f l (seen_block c.args.block.now) c.requires.here))
