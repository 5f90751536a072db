use Rattle.std.proofs.Common.{◌≡◌, ◌∙◌, true, ap, sym, subst}
use Rattle.spv_blocks.specs.Blocks.{is_label}
use Rattle.spv_blocks.specs.Cutting.{blocks_of}
use Rattle.spv_module.specs.View.{seen}
use Rattle.spv_normal.specs.Order.{first_label}
use Rattle.spv_sources.specs.Source.{Told}
use Rattle.spv_sources.proofs.Sources.{mark_is, first_is_label}
use Rattle.spv_sources.proofs.Words.{label_words}
use Rattle.spv_sources.proofs.source.Source.first.Goals as goal

pub id_at-requires : goal.id_at-requires
id_at-requires c =
    (label_words c.at.result.words.now c.at.result.roles.now c.at.result.whole (mark_is c.self.inside.insts c.first_mark.result (seen c.at.result) c.first_mark.ensures c.at.ensures).0).id

pub returns-clause-same : goal.returns-clause-same
returns-clause-same c =
    c.id_at.ensures ∙ sym (mark_is c.self.inside.insts c.first_mark.result (seen c.at.result) c.first_mark.ensures c.at.ensures).1
    ∙ ap (λ (told : Told). first_label (blocks_of told.insts)) c.self.view_is

pub returns-clause-is : goal.returns-clause-is
returns-clause-is c =
    ap (is_label (blocks_of c.args.self.now.insts)) (returns-clause-same c)
    ∙ subst (λ (told : Told). is_label (blocks_of told.insts) (first_label (blocks_of told.insts)) ≡ true) c.self.view_is (first_is_label c.self.inside.insts c.self.invariant.admitted.text)
