use Rattle.std.proofs.Common.{ℕ, Option, slice_index, subst}
use Rattle.indexmap.proofs.MapLemmas.{OnOk-map}
use Rattle.spv_module.specs.View.{seen}
use Rattle.spv_composites.specs.Forms.{form_of, with_form}
use Rattle.spv_composites.specs.Numbering.{HasNumbers, IsNumber, Grows}
use Rattle.spv_composites.proofs.Typing.{numbers-put, numbers-stay}
use Rattle.spv_composites.proofs.numbering.add_type.Goals as goal

pub returns-in-Some : goal.returns-in-Some
returns-in-Some c =
    let new = c.number_of_type.new.nodes in
    let i = seen c.args.inst.now in
    OnOk-map c.put.result _ _
    (λ put table h.
    subst (λ (t : ℕ). HasNumbers new c.put.new.numbers (with_form table t (form_of c.args.tables.now table i))) c.word.ensures
    (numbers-put c.args.nodes.now new c.args.numbers.now c.put.new.numbers table c.word.result c.in-Some.number (form_of c.args.tables.now table i) h
    (subst (λ (o : Option ℕ). Grows c.args.nodes.now new × IsNumber new o (form_of c.args.tables.now table i)) c.in-Some.is
    (c.in_ok-number.ensures table h)) put))
    c.put.ensures

pub returns-in-None : goal.returns-in-None
returns-in-None c = λ table h.
    let new = c.number_of_type.new.nodes in
    let i = seen c.args.inst.now in
    numbers-stay c.args.nodes.now new c.args.numbers.now table (slice_index i.words 1) (form_of c.args.tables.now table i) h
    (subst (λ (o : Option ℕ). Grows c.args.nodes.now new × IsNumber new o (form_of c.args.tables.now table i)) c.in-None.is (c.in_ok-number.ensures table h))
