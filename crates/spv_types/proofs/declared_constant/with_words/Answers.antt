use Rattle.std.proofs.Common.{◌∙◌, ◌≡◌, ap, sym, ◌⊎◌, inl, inr, ◌∷◌, [], arith, ℕ}
use Rattle.spv_module.specs.View.{seen}
use Rattle.spv_types.proofs.OpcodeLemmas.{true_declares, false_declares, number_declares, composite_at, null_at, operation_declares, others_zero}
use Rattle.spv_types.proofs.CompositeLemmas.{if_ok}
use Rattle.spv_types.proofs.declared_constant.with_words.Goals as goal

along : (x y a b : ℕ) → x ≡ y → (x ≡ a) ⊎ (x ≡ b) → (y ≡ a) ⊎ (y ≡ b)
along x y a b e (inl h) = inl (sym e ∙ h)
along x y a b e (inr h) = inr (sym e ∙ h)

pub returns-in-41-clause-words : goal.returns-in-41-clause-words
returns-in-41-clause-words c = λ k ready listed.
    true_declares c.args.kinds.now k (seen c.args.inst.now) c.args.meanings.now.entries c.of_word.result c.small.result ready listed (along _ _ _ _ c.opcode.ensures c.in-41.is) c.small.ensures.words c.of_word.ensures

pub returns-in-42-clause-words : goal.returns-in-42-clause-words
returns-in-42-clause-words c = λ k ready listed.
    false_declares c.args.kinds.now k (seen c.args.inst.now) c.args.meanings.now.entries c.of_word-in-42.result c.small-in-42.result ready listed (along _ _ _ _ c.opcode.ensures c.in-42.is) c.small-in-42.ensures.words c.of_word-in-42.ensures

pub returns-in-43-clause-words : goal.returns-in-43-clause-words
returns-in-43-clause-words c = λ k ready listed.
    number_declares c.args.kinds.now k (seen c.args.inst.now) c.args.meanings.now.entries c.of_word-in-43.result c.small-in-43.result ready listed (along _ _ _ _ c.opcode.ensures c.in-43.is) c.small-in-43.ensures.words
    (c.of_word-in-43.ensures ∙ ap (λ w. w ∷ []) c.word.ensures)

pub returns-in-44-clause-words : goal.returns-in-44-clause-words
returns-in-44-clause-words c =
    if_ok _ _ c.composite.result
    (λ constant has k ready listed. composite_at c.args.kinds.now k (seen c.args.inst.now) c.args.meanings.now.entries constant c.word-t.result c.words_from.result.now ready listed
    (along _ _ _ _ c.opcode.ensures c.in-44.is) c.word-t.ensures c.words_from.ensures (has k (seen c.args.inst.now) ready))
    c.composite.ensures.words

pub returns-in-52-clause-words : goal.returns-in-52-clause-words
returns-in-52-clause-words c = λ k ready listed.
    operation_declares c.args.kinds.now k (seen c.args.inst.now) c.args.meanings.now.entries c.computed_constant.result c.small-in-52.result ready listed (sym c.opcode.ensures ∙ c.in-52.is) c.small-in-52.ensures.words
    (λ t words e. c.computed_constant.ensures k t words ready (sym c.opcode.ensures ∙ c.in-52.is) e)

pub returns-in_default-clause-words : goal.returns-in_default-clause-words
returns-in_default-clause-words c = λ k ready listed.
    null_at c.args.kinds.now k (seen c.args.inst.now) c.args.meanings.now.entries c.null.result c.word-t.result ready listed
    (others_zero _ (grind arith) (grind arith) (grind arith) (grind arith) (grind arith) (grind arith) (grind arith) (grind arith) (grind arith) listed)
    c.word-t.ensures (c.null.ensures.words k (seen c.args.inst.now) ready)
