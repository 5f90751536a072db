-- Which small trees are normal, and a function that is in normal form.
use Rattle.std.proofs.Common.{ℕ, List, [], ◌∷◌, length, refl, ap, arith}
use Rattle.std.proofs.lemmas.Bool.{false≢true}
use Rattle.spv_normal.specs.Facts.{in_one, written}
use Rattle.spv_spelling.specs.Facts.{joined_tree}
use Rattle.spv_sound_trees.specs.Facts.{OneBlockIsSound}
use Rattle.spv_sound_trees.proofs.SmallTrees.{one_block_is_sound}
use Rattle.spv_respelling.specs.Facts.{NotNormal, OneBlockStays, PlainAreNormal, SpelledAreNormal, TwoExits}
use Rattle.spv_respelling.proofs.Admitted.{normal_stays}
use Rattle.spv_respelling.proofs.Whole.{respells_listing}

pub spelled_are_normal : SpelledAreNormal
spelled_are_normal = record {
  joined = tt;
  selection = ((refl, tt), (refl, tt), (refl, tt), tt);
  switch = (refl, (refl, tt), (tt, ((refl, tt), (refl, tt))), tt);
  loop = ((refl, tt), tt, tt, (refl, tt), tt, tt);
}

pub plain_are_normal : PlainAreNormal
plain_are_normal = record { loop = (tt, tt, tt, (refl, tt), tt, tt) }

second : List ℕ → ℕ
second [] = 0
second (x ∷ []) = 0
second (x ∷ y ∷ ys) = y

pub not_normal : NotNormal
unfolding second
not_normal = record {
  blocks = λ h. false≢true h.0;
  arms = λ h. (let e = ap second h.0 in absurd (omega (arith, e)));
  selection = λ h. (let e = ap length h.0.0 in absurd (omega (arith, e)));
  loop = λ h. (let e = ap length h.0.0 in absurd (omega (arith, e)));
}

pub one_block_stays : OneBlockStays
one_block_stays =
    let h : OneBlockIsSound = one_block_is_sound in
    record {
      spells = respells_listing (written in_one) (λ l. l) joined_tree h.admitted h.spells (written in_one) refl;
      stays = normal_stays (written in_one) (λ l. l) joined_tree h.admitted h.spells (written in_one) refl h.admitted.each;
    }

pub two_exits : TwoExits
two_exits = record { alike = refl; first = (tt, ((λ e. refl), tt), tt); second = λ h. false≢true (h.1.0 refl); taken = refl }
