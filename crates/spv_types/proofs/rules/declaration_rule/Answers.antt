use Rattle.std.proofs.Common.{Bool, ◌&&◌, not, refl, sym, ap, ◌∙◌}
use Rattle.spv_module.specs.View.{seen}
use Rattle.spv_typing.specs.Types.{type_fits}
use Rattle.spv_decorations.specs.Targets.{decoration_fits}
use Rattle.spv_decorations.specs.Globals.{global_fits}
use Rattle.spv_types.proofs.FirstFailing.{failing-same}
use Rattle.spv_types.proofs.rules.declaration_rule.Goals as goal

pub returns : goal.returns
returns c = λ d begun asked known.
    let insts = c.args.kinds.now in
    let i = seen c.args.inst.now in
    c.first_failing.ensures
    ∙ failing-same _ _ 303 _ _ (c.type_holds.ensures ∙ ap (λ (b : Bool). type_fits insts i && not b) (sym asked.occurs_is))
    (failing-same _ _ 304 _ _ (c.constant_holds.ensures d begun asked.stand (λ outside. asked.lengths outside known))
    (failing-same _ _ 305 _ _ c.spec_op_fits.ensures
    (failing-same _ _ 306 _ _ (c.decoration_holds.ensures ∙ ap (λ (b : Bool). decoration_fits insts i && not b) (sym asked.repeats_is))
    (failing-same _ _ 307 _ _ (c.layout_fits.ensures d begun asked.stand)
    (failing-same _ _ 308 _ _ (c.global_fits.ensures ∙ ap (λ (b : Bool). global_fits insts b i) (sym begun)) refl)))))
