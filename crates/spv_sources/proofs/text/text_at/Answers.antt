use Rattle.spv_sources.proofs.Sources.{text_closing, text_read}
use Rattle.spv_sources.proofs.text.text_at.Goals as goal

pub close_at-requires : goal.close_at-requires
close_at-requires c =
    text_closing c.args.insts.now c.args.start c.past_phis-from.result c.stop_from-stop.result c.requires.tail c.past_phis-from.ensures.behind c.stop_from-stop.ensures.from

pub returns : goal.returns
returns c =
    text_read c.args.insts.now c.args.start c.past_phis-from.result c.stop_from-stop.result (record { steps = c.in_ok-steps.steps; close = c.in_ok-close.close }) c.requires.tail c.past_phis-from.ensures.behind
    c.stop_from-stop.ensures.before c.stop_from-stop.ensures.from c.in_ok-steps.ensures c.in_ok-close.ensures
