use Rattle.std.proofs.Common.{ℕ, Option, sym, subst, ◌∙◌, refl, arith, ◌<◌}
use Rattle.std.specs.Option.{IfSome}
use Rattle.spv_types.proofs.WordLemmas.{part-here, part-later, part-none}
use Rattle.spv_types.proofs.words.find_part.Goals as goal

pub parts-init : goal.parts-init
parts-init c = λ table ids h. refl

pub returns-in_default-clause-found : goal.returns-in_default-clause-found
returns-in_default-clause-found c = λ table ids h.
    part-here table c.args.parts.now c.parts.part-index c.parts.k c.args.k c.cells_numbered.result c.parts-test.true (omega arith) (c.cells_numbered.ensures table ids h)
    (subst (λ (r : Option ℕ). IfSome r (λ cells. c.parts.k < cells)) (sym c.in-Some.is) c.if-cells-k.false) (c.parts.invariant table ids h)

pub returns-in_default-2-clause-found : goal.returns-in_default-2-clause-found
returns-in_default-2-clause-found c = λ table ids h.
    part-here table c.args.parts.now c.parts.part-index c.parts.k c.args.k c.cells_numbered.result c.parts-test.true (omega arith) (c.cells_numbered.ensures table ids h)
    (subst (λ (r : Option ℕ). IfSome r (λ cells. c.parts.k < cells)) (sym c.in_default.is) tt) (c.parts.invariant table ids h)

pub parts-preserved : goal.parts-preserved
parts-preserved c = λ table ids h.
    part-later table c.args.parts.now c.parts.part-index c.parts.k c.args.k c.in-Some.cells c.parts-test.true (sym c.in-Some.is ∙ c.cells_numbered.ensures table ids h) c.if-cells-k.true (c.parts.invariant table ids h)

pub returns-clause-absent : goal.returns-clause-absent
returns-clause-absent c = λ table ids h.
    part-none table c.args.parts.now c.parts.part-index c.parts.k c.args.k (omega (arith, c.parts-test.false)) (c.parts.invariant table ids h)
