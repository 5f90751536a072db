use Rattle.std.proofs.Common.{◌≡◌, List, ℕ, ap, subst, OnOk}
use Rattle.spv_bodies.specs.Bodies.{Body}
use Rattle.spv_spelling.specs.Text.{copies}
use Rattle.spv_spelling.specs.Whole.{IsAdmitted}
use Rattle.spv_tree.specs.Tree.{items_then}
use Rattle.spv_sources.specs.Source.{Told}
use Rattle.spv_sources.proofs.Sources.{copies_ready, phis_are}
use Rattle.spv_sources.proofs.source.Source.copies.Goals as goal

pub push_copies-requires : goal.push_copies-requires
push_copies-requires c =
    copies_ready c.args.self.now.insts c.self.inside.insts (ap (λ (told : Told). told.insts) c.self.view_is) (subst (λ (told : Told). IsAdmitted told.insts) c.self.view_is c.self.invariant.admitted)
    c.args.label c.requires.label c.begin.result.now c.begin.ensures c.requires.plain c.in_ok-phis.phis.items c.deref.result.now c.in_ok-phis.ensures c.deref.ensures.value

pub returns : goal.returns
returns c =
    subst (λ (words : List (List ℕ)). OnOk c.push_copies.result ((rest : Body) → items_then c.push_copies.new.items.items rest ≡ items_then c.args.items.now.items (copies words rest)))
    (phis_are c.args.self.now.insts c.self.inside.insts (ap (λ (told : Told). told.insts) c.self.view_is) (subst (λ (told : Told). IsAdmitted told.insts) c.self.view_is c.self.invariant.admitted)
    c.args.label c.requires.label c.begin.result.now c.begin.ensures c.in_ok-phis.phis.items c.deref.result.now c.in_ok-phis.ensures c.deref.ensures.value)
    c.push_copies.ensures
