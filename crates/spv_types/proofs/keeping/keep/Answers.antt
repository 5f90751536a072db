use Rattle.std.proofs.Common.{ℕ, Option, subst}
use Rattle.spv_module.specs.View.{seen}
use Rattle.spv_declarations.specs.Declarations.{declared_before}
use Rattle.spv_types.specs.declared.meaning.Kept.{Kept}
use Rattle.spv_types.specs.Entries.{KeepsEntry}
use Rattle.spv_types.proofs.Entries.{nothing-declared, too-deep, one-declared}
use Rattle.spv_types.proofs.keeping.keep.Goals as goal

pub returns-in_default : goal.returns-in_default
returns-in_default c = λ k next are.
    nothing-declared c.args.kinds.now k (seen c.args.inst.now) c.args.meanings.now.entries next
    (subst (λ (e : Option (ℕ × Kept)). KeepsEntry c.args.kinds.now (declared_before c.args.kinds.now k) (seen c.args.inst.now) e) c.in_default.is (c.in_ok-id.ensures k next are)) are

pub returns-then-not-depth_fits : goal.returns-then-not-depth_fits
returns-then-not-depth_fits c = λ k next are.
    too-deep c.args.kinds.now k (seen c.args.inst.now) c.in-Some.id c.in-Some.kept c.depth_fits.result c.args.meanings.now.entries c.refused.result
    (subst (λ (e : Option (ℕ × Kept)). KeepsEntry c.args.kinds.now (declared_before c.args.kinds.now k) (seen c.args.inst.now) e) c.in-Some.is (c.in_ok-id.ensures k next are))
    c.depth_fits.ensures c.if-not-depth_fits.true c.refused.ensures

pub returns : goal.returns
returns c = λ k next are.
    one-declared c.args.kinds.now k (seen c.args.inst.now) c.in-Some.id c.in-Some.kept c.depth_fits.result c.args.meanings.now.entries c.add.new.meanings.entries next
    (subst (λ (e : Option (ℕ × Kept)). KeepsEntry c.args.kinds.now (declared_before c.args.kinds.now k) (seen c.args.inst.now) e) c.in-Some.is (c.in_ok-id.ensures k next are))
    c.depth_fits.ensures c.if-not-depth_fits.false are c.in_ok-add.ensures
