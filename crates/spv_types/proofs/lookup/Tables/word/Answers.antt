use Rattle.std.proofs.Common.{ℕ, List, ap, ◌∙◌}
use Rattle.spv_module.specs.Instruction.{Instruction}
use Rattle.spv_meaning.specs.Constants.{meaning}
use Rattle.spv_meaning.specs.Meanings.{constant_words}
use Rattle.spv_typing.specs.Kinds.{is_one_of}
use Rattle.spv_declarations.specs.Laws.{meanings}
use Rattle.spv_types.specs.Lookup.{specialised, known_word}
use Rattle.spv_types.proofs.Lookups.{known_is, specialised_is, no_constant_is, whole_stands}
use Rattle.spv_types.proofs.lookup.Tables.word.Goals as goal

pub returns-in-Known : goal.returns-in-Known
returns-in-Known c =
    let insts = c.self.inside.kinds in
    let table = meanings insts in
    let stands = whole_stands insts c.self.inside.decorations c.self.inside.meanings.entries c.self.invariant in
    c.word_at.ensures table (specialised insts) stands
    ∙ known_is c.args.k c.kind_of.result (meaning table c.number-id.result) c.in-Known.is (is_one_of (specialised insts) c.number-id.result) (c.kind_of.ensures table (specialised insts) stands)
    ∙ ap (λ (n : ℕ). known_word insts n c.args.k) c.number-id.ensures.same
    ∙ ap (λ (is : List Instruction). known_word is c.args.id c.args.k) c.self.view_is

pub returns-in-Specialised : goal.returns-in-Specialised
returns-in-Specialised c =
    let insts = c.self.inside.kinds in
    let table = meanings insts in
    let stands = whole_stands insts c.self.inside.decorations c.self.inside.meanings.entries c.self.invariant in
    specialised_is c.args.k c.kind_of.result (constant_words (meaning table c.number-id.result)) (is_one_of (specialised insts) c.number-id.result) c.in-Specialised.is (c.kind_of.ensures table (specialised insts) stands)
    ∙ ap (λ (n : ℕ). known_word insts n c.args.k) c.number-id.ensures.same
    ∙ ap (λ (is : List Instruction). known_word is c.args.id c.args.k) c.self.view_is

pub returns-in-NotConstant : goal.returns-in-NotConstant
returns-in-NotConstant c =
    let insts = c.self.inside.kinds in
    let table = meanings insts in
    let stands = whole_stands insts c.self.inside.decorations c.self.inside.meanings.entries c.self.invariant in
    no_constant_is c.args.k c.kind_of.result (constant_words (meaning table c.number-id.result)) (is_one_of (specialised insts) c.number-id.result) c.in-NotConstant.is (c.kind_of.ensures table (specialised insts) stands)
    ∙ ap (λ (n : ℕ). known_word insts n c.args.k) c.number-id.ensures.same
    ∙ ap (λ (is : List Instruction). known_word is c.args.id c.args.k) c.self.view_is
