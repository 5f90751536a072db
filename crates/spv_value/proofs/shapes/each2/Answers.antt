use Rattle.std.proofs.Common.{◌∙◌, sym, refl}
use Rattle.spv_value.proofs.WordLists.{each_word2, held, length-words_of}
use Rattle.spv_value.proofs.shapes.each2.Goals as goal

pub returns-clause-len : goal.returns-clause-len
returns-clause-len g c = length-words_of _ ∙ sym (length-words_of c.args.a.now)

pub returns-clause-words : goal.returns-clause-words
returns-clause-words g c = λ f p.
    held c.args.a.now.len _ refl
    ∙ each_word2 f c.args.a.now c.args.b.now _ _ _ _ c.requires.few c.requires.alike (p _ _ _ c.f.ensures) (p _ _ _ c.f-2.ensures) (p _ _ _ c.f-3.ensures) (p _ _ _ c.f-4.ensures)
