use Rattle.std.proofs.Common.{◌≡◌, ℕ, ◌≤◌, List, [], ◌∷◌, length, refl}
use Rattle.std.proofs.lemmas.List.Elements.{All-cons, All-nil}
use Rattle.spv_value.specs.Words.{words_of}
use Rattle.spv_typing.specs.declared.operations.Form.TheVariants as forms
use Rattle.spv_folding.specs.Folding.{AreComponents}
use Rattle.spv_folding.proofs.Forms.{form_can_eval, eval_few}
use Rattle.rule_tests.proofs.folding.two.Goals as goal

two_components : (c : ℕ) (ws vs : List ℕ) → 1 ≤ c → c ≤ 4 → length ws ≡ c → length vs ≡ c → AreComponents 2 c (ws ∷ vs ∷ [])
two_components c ws vs some few first second = record {
  some = some;
  few = few;
  count = refl;
  sized = let P : List ℕ → Type 0 = λ us. length us ≡ c in All-cons P ws (vs ∷ []) first (All-cons P vs [] second (All-nil P));
}

pub evaluate-requires-clause-suited : goal.evaluate-requires-clause-suited
evaluate-requires-clause-suited c =
    form_can_eval c.args.opcode (forms.Ints 2) (length (words_of c.args.a.now)) _ c.requires.form
    (two_components (length (words_of c.args.a.now)) (words_of c.args.a.now) (words_of c.args.b.now) c.requires.some c.requires.few refl c.requires.alike)

pub evaluate-requires-clause-few : goal.evaluate-requires-clause-few
evaluate-requires-clause-few c =
    eval_few c.args.opcode (forms.Ints 2) (length (words_of c.args.a.now)) _ c.requires.form
    (two_components (length (words_of c.args.a.now)) (words_of c.args.a.now) (words_of c.args.b.now) c.requires.some c.requires.few refl c.requires.alike)
