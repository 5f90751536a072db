-- Trees that small functions spell, and whether they are structured.
use Rattle.std.proofs.Common.{◌≡◌, ℕ, true, List, [], ◌∷◌, refl, sym, arith, lit<}
use Rattle.std.proofs.lemmas.Bool.{false≢true}
use Rattle.spv_blocks.specs.Cutting.{blocks_of}
use Rattle.spv_module.specs.Instruction.{Instruction}
use Rattle.spv_walk.specs.Rules.{AtEnd, Found}
use Rattle.spv_walk.specs.Walk.{Starts}
use Rattle.spv_walk.proofs.Entering.{label_among, one_of}
use Rattle.spv_normal.specs.Facts.{in_one, written}
use Rattle.spv_normal.specs.Order.{joins}
use Rattle.spv_spelling.specs.Clean.{no_pointers}
use Rattle.spv_spelling.specs.Facts.{joined_tree}
use Rattle.spv_spelling.specs.Spelling.{AreStaying, finishes, last, leaves, out, plain, switches}
use Rattle.spv_sound_trees.specs.Facts.{OneBlockIsSound}
use Rattle.spv_sound_trees.proofs.SmallTrees.{one_block_is_sound}
use Rattle.spv_clean_trees.specs.Facts.{LiteralTwice, OneBlock, PointersAreNotStructured, SpelledAreStructured, literal_twice}
use Rattle.spv_clean_trees.proofs.Structures.{listing_is_unbroken, spelled_is_structured}

pub spelled_are_structured : SpelledAreStructured
spelled_are_structured = record {
  joined = record { flows = refl; parameters = tt; arms = tt };
  selection = record {
    flows = ((λ e. omega (arith, e)), refl, refl, refl);
    parameters = ((record { value = refl; named = refl }, tt), tt, tt, tt);
    arms = (tt, tt, tt);
  };
  switch = record {
    flows = (refl, (refl, (refl, refl)), refl);
    parameters = ((record { value = refl; named = refl }, tt), (tt, (tt, tt)), tt);
    arms = (refl, (tt, (tt, tt)), tt);
  };
  loop = record {
    flows = (refl, (refl, (λ e. omega (arith, e)), refl), refl, refl, refl);
    parameters = ((record { value = refl; named = refl }, tt), tt, tt, tt, tt, tt);
    arms = (tt, tt, tt);
  };
}

pub pointers_are_not_structured : PointersAreNotStructured
pointers_are_not_structured = record {
  selection = λ h. false≢true (sym h.parameters.0.0.value);
  loop = λ h. false≢true (sym h.parameters.0.0.value);
}

-- ---- a literal that stands twice

abbrev switching : List Instruction
switching = written literal_twice

staying : AreStaying switching (λ l. l)
staying = record {
  joined = λ l t i j.
      one_of (λ l. (t : ℕ) → joins (blocks_of switching) l t ≡ true → t ≡ l) (4 ∷ 5 ∷ []) ((λ t j. absurd (cc (j))), ((λ t j. absurd (cc (j))), tt)) l
      (label_among (blocks_of switching) l i) t j;
  own = λ t none. refl;
}

pub literal_stands_twice : LiteralTwice
literal_stands_twice = record {
  spells = record {
    staying = staying;
    front = refl;
    label = refl;
    body = switches refl (last (out (leaves (record { leaves = refl; values = tt })))) (plain refl (finishes refl));
  };
  breaks = Found 402 0 (AtEnd 4 _ [] (record { rule = 402; at = 0 }) (Starts 4 refl) refl refl (0, lit< tt, refl));
  not = λ h. false≢true (sym h.flows.0);
}

-- ---- one block

pub one_block : OneBlock
one_block =
    let h : OneBlockIsSound = one_block_is_sound in
    record {
      structured = spelled_is_structured no_pointers (written in_one) (λ l. l) joined_tree h.admitted h.admitted.clean h.spells;
      unbroken = listing_is_unbroken no_pointers (written in_one) (written in_one) (λ l. l) joined_tree h.admitted h.admitted.clean h.spells refl;
    }
