use Rattle.std.proofs.Common.{ℕ, List, Err, sym, ap, subst, ◌∙◌, arith}
use Rattle.std.proofs.lemmas.Result.{err_from_is_err_and}
use Rattle.std.specs.Global.{Global}
use Rattle.std.specs.declared.hash.DefaultHasher.{DefaultHasher}
use Rattle.indexmap.specs.declared.map.IndexMap.{IndexMap}
use Rattle.spv_module.specs.First.{first}
use Rattle.spv_module.specs.Instruction.{Instruction}
use Rattle.spv_module.specs.View.{seen}
use Rattle.spv_repeats.specs.Repeats.{occurs_before, repeats_before}
use Rattle.spv_repeats.specs.Marks.{AreMarks}
use Rattle.spv_declarations.specs.Broken.{group_3}
use Rattle.spv_seed.specs.declared.Seed.{Seed}
use Rattle.spv_types.specs.declared.meaning.Kept.{Kept}
use Rattle.spv_types.specs.declared.rules.Standing.{Standing}
use Rattle.spv_types.specs.Entries.{IsReading, Reads}
use Rattle.spv_types.specs.Whole.{Finds, HasMeanings}
use Rattle.spv_types.proofs.AllRead.{read-begins, reading-at, read-stops, read-goes-on, read-ends}
use Rattle.spv_types.proofs.building.meanings_of.Goals as goal

pub instructions-init : goal.instructions-init
instructions-init c = read-begins c.args.flat.now.insts c.with_hasher-meanings.result.entries c.requires.rises c.with_hasher-meanings.ensures.empty

pub returns-in_err-read : goal.returns-in_err-read
returns-in_err-read c =
    let insts = c.args.flat.now.insts in
    let i = seen c.at-inst.result in
    let fault = err_from_is_err_and c.from_residual-in_err-read.result c.from_residual-in_err-read.ensures.1 in
    let types : AreMarks occurs_before insts c.in_ok-types.types =
    subst (λ (insts : List Instruction). AreMarks occurs_before insts c.in_ok-types.types) c.insts-insts.ensures.same c.in_ok-types.ensures in
    let repeats : AreMarks repeats_before insts c.in_ok-repeats.repeats =
    subst (λ (insts : List Instruction). AreMarks repeats_before insts c.in_ok-repeats.repeats) c.insts-insts.ensures.same c.in_ok-repeats.ensures in
    let standing : Standing = record { number = c.instructions.k; begun = c.instructions.begun; occurs = c.has.result; repeats = c.has-in-instructions.result } in
    let reading =
    reading-at insts c.instructions.k i c.instructions.begun c.has.result c.has-in-instructions.result c.in_ok-types.types c.in_ok-repeats.repeats c.instructions.meanings.entries
    c.requires.instructions c.instructions.invariant c.at-inst.ensures types c.has.ensures repeats c.has-in-instructions.ensures in
    let reads =
    subst (λ (insts : List Instruction). Reads insts c.instructions.k i c.read.new.meanings.entries c.read.result) c.requires.kinds
    (c.read.ensures c.instructions.k (subst (λ (insts : List Instruction). IsReading insts c.instructions.k i standing c.instructions.meanings.entries) (sym c.requires.kinds) reading)) in
    subst (λ r. Finds (first (group_3 insts)) (λ (meanings : IndexMap ℕ Kept Seed Global DefaultHasher). HasMeanings insts insts meanings.entries) r) (sym (fault.1 ∙ ap Err fault.2))
    (read-stops (λ (meanings : IndexMap ℕ Kept Seed Global DefaultHasher). HasMeanings insts insts meanings.entries) insts c.instructions.k i c.instructions.begun c.instructions.meanings.entries c.read.new.meanings.entries c.in_err-read.field-0.0
    c.instructions.invariant c.at-inst.ensures (subst (Reads insts c.instructions.k i c.read.new.meanings.entries) c.in_err-read.was reads))

pub instructions-preserved : goal.instructions-preserved
instructions-preserved c =
    let insts = c.args.flat.now.insts in
    let i = seen c.at-inst.result in
    let types : AreMarks occurs_before insts c.in_ok-types.types =
    subst (λ (insts : List Instruction). AreMarks occurs_before insts c.in_ok-types.types) c.insts-insts.ensures.same c.in_ok-types.ensures in
    let repeats : AreMarks repeats_before insts c.in_ok-repeats.repeats =
    subst (λ (insts : List Instruction). AreMarks repeats_before insts c.in_ok-repeats.repeats) c.insts-insts.ensures.same c.in_ok-repeats.ensures in
    let standing : Standing = record { number = c.instructions.k; begun = c.instructions.begun; occurs = c.has.result; repeats = c.has-in-instructions.result } in
    let reading =
    reading-at insts c.instructions.k i c.instructions.begun c.has.result c.has-in-instructions.result c.in_ok-types.types c.in_ok-repeats.repeats c.instructions.meanings.entries
    c.requires.instructions c.instructions.invariant c.at-inst.ensures types c.has.ensures repeats c.has-in-instructions.ensures in
    let reads =
    subst (λ (insts : List Instruction). Reads insts c.instructions.k i c.read.new.meanings.entries c.read.result) c.requires.kinds
    (c.read.ensures c.instructions.k (subst (λ (insts : List Instruction). IsReading insts c.instructions.k i standing c.instructions.meanings.entries) (sym c.requires.kinds) reading)) in
    read-goes-on insts c.instructions.k i c.instructions.begun c.has_begun-begun.result c.instructions.meanings.entries c.read.new.meanings.entries
    c.instructions.invariant c.at-inst.ensures (subst (Reads insts c.instructions.k i c.read.new.meanings.entries) c.in_ok-read.was reads) c.has_begun-begun.ensures

pub returns : goal.returns
returns c =
    read-ends c.args.flat.now.insts c.instructions.k c.instructions.begun c.instructions.meanings.entries c.requires.instructions c.instructions.invariant
    (omega (arith, c.instructions-test.false, c.instructions.auto.k-end, c.count-k-end.ensures))
