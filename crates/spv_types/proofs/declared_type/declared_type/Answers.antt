use Rattle.std.proofs.Common.{sym, ◌∙◌}
use Rattle.std.specs.List.{slice_index}
use Rattle.spv_module.specs.View.{seen}
use Rattle.spv_meaning.specs.Constants.{type_at}
use Rattle.spv_types.proofs.DeclaredTypes.{bool_keeps, int_keeps, vector_keeps, array_keeps, runtime_array_keeps, struct_keeps, pointer_keeps}
use Rattle.spv_types.proofs.declared_type.declared_type.Goals as goal

pub returns-in-20 : goal.returns-in-20
returns-in-20 c = λ table ids h. bool_keeps c.args.kinds.now table (seen c.args.inst.now) c.boolean.result (sym c.opcode.ensures ∙ c.in-20.is) c.boolean.ensures

pub returns-in-21 : goal.returns-in-21
returns-in-21 c = λ table ids h.
    int_keeps c.args.kinds.now table (seen c.args.inst.now) c.integer.result c.word.result c.word-in-21.result (sym c.opcode.ensures ∙ c.in-21.is)
    c.word.ensures c.word-in-21.ensures c.integer.ensures

pub returns-in-23 : goal.returns-in-23
returns-in-23 c = λ table ids h.
    vector_keeps c.args.kinds.now table (seen c.args.inst.now) c.vector.result c.word-in-23.result (sym c.opcode.ensures ∙ c.in-23.is)
    c.word-in-23.ensures (c.vector.ensures (type_at table (slice_index c.args.inst.now.words.now 2)) (c.part_facts.ensures table ids h))

pub returns-in-28 : goal.returns-in-28
returns-in-28 c = λ table ids h.
    array_keeps c.args.kinds.now c.args.decorations.now table (seen c.args.inst.now) c.array.result c.stride.result c.word-in-28.result c.length_of-count.result
    (sym c.opcode.ensures ∙ c.in-28.is) c.requires.same c.stride.ensures c.word-in-28.ensures (c.length_of-count.ensures table ids h)
    (c.array.ensures (type_at table (slice_index c.args.inst.now.words.now 2)) (c.part_facts-in-28.ensures table ids h))

pub returns-in-29 : goal.returns-in-29
returns-in-29 c = λ table ids h.
    runtime_array_keeps c.args.kinds.now c.args.decorations.now table (seen c.args.inst.now) c.runtime_array.result c.stride-in-29.result
    (sym c.opcode.ensures ∙ c.in-29.is) c.requires.same c.stride-in-29.ensures
    (c.runtime_array.ensures (type_at table (slice_index c.args.inst.now.words.now 2)) (c.part_facts-in-29.ensures table ids h))

pub returns-in-30 : goal.returns-in-30
returns-in-30 c = λ table ids h.
    struct_keeps c.args.kinds.now c.args.decorations.now table (seen c.args.inst.now) c.struct_facts.result (sym c.opcode.ensures ∙ c.in-30.is) c.requires.same (c.struct_facts.ensures table ids h)

pub returns-in-32 : goal.returns-in-32
returns-in-32 c = λ table ids h.
    pointer_keeps c.args.kinds.now table (seen c.args.inst.now) c.type_facts.result c.word-in-32.result (sym c.opcode.ensures ∙ c.in-32.is) c.word-in-32.ensures (c.type_facts.ensures table ids h)
