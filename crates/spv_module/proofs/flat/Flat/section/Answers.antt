use Rattle.std.proofs.Common.{◌≡◌, ℕ, ◌∙◌, ap, List, length, slice_index, arith}
use Rattle.std.proofs.lemmas.List.{get_or_default}
use Rattle.spv_module.specs.Code.{Code, sections_of}
use Rattle.spv_module.proofs.Sections.{length-sections_of}
use Rattle.spv_module.proofs.flat.Flat.section.Goals as goal

pub index-requires : goal.index-requires
index-requires c =
    let long : length c.self.inside.sections.items ≡ length c.args.self.now.insts =
    ap length c.self.invariant.0 ∙ length-sections_of c.self.inside.insts ∙ ap (λ (code : Code). length code.insts) c.self.view_is in
    omega (arith, long)

pub returns : goal.returns
returns c =
    let long : length c.self.inside.sections.items ≡ length c.args.self.now.insts =
    ap length c.self.invariant.0 ∙ length-sections_of c.self.inside.insts ∙ ap (λ (code : Code). length code.insts) c.self.view_is in
    c.index.ensures
    ∙ get_or_default c.self.inside.sections.items c.args.k c.index.result.now 0 (omega (arith, long))
    ∙ ap (λ (sections : List ℕ). slice_index sections c.args.k) (c.self.invariant.0 ∙ ap (λ (code : Code). sections_of code.insts) c.self.view_is)
