use Rattle.std.proofs.Common.{◌∙◌, refl, ap, arith}
use Rattle.spv_blocks.specs.Blocks.{is_it}
use Rattle.spv_walk.proofs.Unique.{true_equal}
use Rattle.spv_sources.proofs.Chains.{following_begins, following_on, following_ends, following_short}
use Rattle.spv_sources.proofs.staying.follow.Goals as goal

pub chain-init : goal.chain-init
chain-init c = following_begins c.args.labels.now c.requires.clean c.args.head c.number-last.result c.args.stays.now c.number-last.ensures.same c.requires.is

pub returns-in_default : goal.returns-in_default
returns-in_default c =
    following_ends c.args.labels.now c.requires.clean c.args.head c.chain.k c.chain.last c.args.stays.now c.chain.stays c.chain.invariant (λ t. c.joined_with.ensures t ∙ ap (is_it t) c.in_default.is)

pub chain-preserved : goal.chain-preserved
chain-preserved c =
    following_on c.args.labels.now c.requires.clean c.args.head c.chain.k c.chain.last c.in-Some.next c.args.stays.now c.chain.stays c.put.new.stays c.chain.invariant
    (c.joined_with.ensures c.in-Some.next ∙ ap (is_it c.in-Some.next) c.in-Some.is ∙ true_equal c.in-Some.next c.in-Some.next refl) c.in_ok-put.ensures

pub unreachable-requires : goal.unreachable-requires
unreachable-requires c = following_short c.args.labels.now c.requires.clean c.args.head c.chain.k c.chain.last c.args.stays.now c.chain.stays c.chain.invariant (omega arith)
