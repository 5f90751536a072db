use Rattle.std.proofs.Common.{◌∙◌, sym, ap}
use Rattle.spv_blocks.specs.Blocks.{is_label}
use Rattle.spv_sources.proofs.Followed.{chain_more, chain_other, is_label_of}
use Rattle.spv_sources.proofs.staying.add_chain.Goals as goal

pub id_of-requires : goal.id_of-requires
id_of-requires c = c.requires.ids c.in-Some.label (is_label_of c.args.labels.now c.args.k c.in-Some.label (sym c.in-Some.is ∙ c.label.ensures))

pub follow-requires-clause-is : goal.follow-requires-clause-is
follow-requires-clause-is c =
    ap (is_label c.args.labels.now) c.id_of.ensures ∙ is_label_of c.args.labels.now c.args.k c.in-Some.label (sym c.in-Some.is ∙ c.label.ensures)

pub returns-in_ok-follow : goal.returns-in_ok-follow
returns-in_ok-follow c =
    chain_more c.args.labels.now c.requires.clean c.args.k c.in-Some.label c.id_of.result c.args.stays.now c.follow.new.stays (sym c.in-Some.is ∙ c.label.ensures)
    (sym (c.requires.joined c.in-Some.label) ∙ sym c.contains.ensures ∙ c.if-not-contains.true) c.id_of.ensures c.in_ok-follow.ensures

pub returns-else-not-contains : goal.returns-else-not-contains
returns-else-not-contains c =
    chain_other c.args.labels.now c.requires.clean c.args.k c.in-Some.label c.args.stays.now (sym c.in-Some.is ∙ c.label.ensures)
    (sym (c.requires.joined c.in-Some.label) ∙ sym c.contains.ensures ∙ c.if-not-contains.false)
