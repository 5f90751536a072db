-- Small functions that are edited.
use Rattle.std.proofs.Common.{◌≡◌, ◌⊎◌, inl, inr, ℕ, Bool, true, false, cond, ◌==◌, List, [], ◌∷◌, length, refl, sym, ap, subst, ◌∙◌, arith}
use Rattle.std.proofs.lemmas.Bool.{eqb-true, false≢true}
use Rattle.std.specs.List.{IsDistinct}
use Rattle.spv_grammar.specs.Operands.{roles_of}
use Rattle.spv_grammar.specs.Table.{row_of}
use Rattle.spv_blocks.specs.Blocks.{has}
use Rattle.spv_tree.specs.Sound.{IsSound}
use Rattle.spv_editing.specs.Editing.{edited_function}
use Rattle.spv_fine.specs.Fine.{Ids, IsFine, With}
use Rattle.spv_fine.specs.Facts.{known, none, ten_at}
use Rattle.spv_fine_edits.specs.Giving.{FitsFunction, Given, Offers}
use Rattle.spv_fine_edits.specs.Laws.{DropsIn, Put, PutsIn, replacing_only}
use Rattle.spv_fine_edits.specs.Facts.{Apply, Needed, drops, is, of_a_copy, of_an_arm, of_its_source, of_two_sums, puts, small, small_giving, the_first, two_lines, without_it}
use Rattle.spv_fine_edits.proofs.Edited.{fine_where_given}
use Rattle.spv_fine_edits.proofs.Replaced.{replaced, used}

-- what is known is not replaced
known_put : (old new : ℕ) → (has (2 ∷ 3 ∷ 4 ∷ 5 ∷ 6 ∷ 7 ∷ 8 ∷ 9 ∷ 12 ∷ 20 ∷ []) old ≡ false) → (x y : ℕ) → known x → (y ≡ x) ⊎ (y ≡ cond (x == old) new x) → known y
known_put old new not_known x y k (inl same) = subst known (sym same) k
known_put old new not_known x y k (inr put) = subst known (sym put) (at (x == old) refl) where
  at : (t : Bool) → (x == old) ≡ t → known (cond t new x)
  at true e = absurd (false≢true (sym not_known ∙ subst known (eqb-true x old e) k))
  at false e = k

source : PutsIn (replacing_only (puts 11 10)) known known of_a_copy
unfolding roles_of row_of
source = record {
  known = λ y p. known_put 11 10 refl p.1.0 y p.1.1 p.1.2;
  begins = ((refl, (refl, tt)), tt);
  parameters = tt;
  fronts = tt;
  body = (
    (inl (record { line = _; is = refl; defines = refl; uses = (inl refl, (inl refl, (inl refl, tt))) }), (inl refl, tt)),
    (
      (
        inl (record { line = _; is = refl; defines = refl; uses = (inl refl, (inr (refl, (10, refl, inl refl)), tt)) }),
        (inr (inr (refl, (10, refl, inl refl))), tt),
      ),
      (inr refl, tt),
    ),
  );
}

unused : DropsIn (is 11) (drops 11) known known of_its_source
unfolding roles_of row_of
unused = record {
  known = λ id k stays. k;
  begins = ((refl, (refl, tt)), tt);
  body = (inl (refl, (refl, (refl, (refl, tt)))), (inr (refl, (refl, tt)), ((refl, refl), tt)));
}

first : PutsIn the_first known known of_two_sums
unfolding roles_of row_of
first = record {
  known = λ y p. known_put 13 10 refl p.1.0 y p.1.1 p.1.2;
  begins = ((refl, (refl, tt)), tt);
  parameters = tt;
  fronts = tt;
  body = (
    (inl (record { line = _; is = refl; defines = refl; uses = (inl refl, (inl refl, (inl refl, tt))) }), (inl refl, tt)),
    ((inr (record { is = refl; gone = (refl, tt) }), (inr (inr (refl, (10, refl, inl refl))), tt)), (inr refl, tt)),
  );
}

offered : Offers none the_first.wants (With known []) of_two_sums.body
unfolding roles_of row_of
offered = (tt, ((inr refl, tt), tt))

put : edited_function (puts 11 10) of_a_copy ≡ of_its_source
put = refl

dropped : edited_function (drops 11) of_its_source ≡ without_it
unfolding roles_of row_of
dropped = refl

both : edited_function the_first.edit of_two_sums ≡ without_it
unfolding roles_of row_of
both = refl

-- ---- by the laws

copy_fine : IsFine known none of_a_copy
unfolding roles_of row_of
copy_fine = record {
  function = (refl, (refl, tt));
  parameters = tt;
  body = ((inl refl, (inl refl, (inl refl, tt))), ((inl (inl refl), (inr refl, tt)), (inr refl, tt)));
}

copy_sound : IsSound of_a_copy
unfolding IsDistinct row_of
copy_sound = record {
  labels = (tt, tt);
  arrive = λ k d h. absurd (omega (arith, h));
  alike = λ i j d g h. absurd (omega (arith, h));
  formed = (refl, (refl, refl));
  placed = tt;
}

put_fine : IsFine known (λ label. Put (replacing_only (puts 11 10)) (none label)) of_its_source
put_fine = used small (puts 11 10) of_a_copy copy_sound source copy_fine

sums_fine : IsFine known none of_two_sums
unfolding roles_of row_of
sums_fine = record {
  function = (refl, (refl, tt));
  parameters = tt;
  body = ((inl refl, (inl refl, (inl refl, tt))), ((inl (inl refl), (inl (inl refl), (inl (inl refl), tt))), (inr refl, tt)));
}

sums_sound : IsSound of_two_sums
unfolding IsDistinct row_of
sums_sound = record {
  labels = (tt, tt);
  arrive = λ k d h. absurd (omega (arith, h));
  alike = λ i j d g h. absurd (omega (arith, h));
  formed = (refl, (refl, refl));
  placed = tt;
}

both_fine : IsFine known (λ label. Put the_first (none label)) without_it
both_fine = subst (IsFine known (λ label. Put the_first (none label))) both (replaced small the_first of_two_sums sums_sound first offered sums_fine)

-- ---- several lines for a step

stays_defined : (A : Ids) (defined : List ℕ) (x y : ℕ) → has defined x ≡ true → y ≡ x → With A defined y
stays_defined A defined x y d same = inr (subst (λ z. has defined z ≡ true) (sym same) d)

several : FitsFunction small_giving of_a_copy
unfolding roles_of row_of
several = record {
  begins = ((refl, (refl, tt)), tt);
  giving = record {
    known = λ x y k same. subst known (sym same) k;
    given = λ label x y p same. absurd p;
    promised = λ label y p. absurd p;
  };
  parameters = λ x y d same. stays_defined known [] x y d same;
  fronts = tt;
  body = (
    record {
      uses = ((inl refl, (inl refl, (inl refl, tt))), ((inl (inl refl), (inr refl, tt)), tt));
      defines = λ x y d same. stays_defined (With (Given small_giving (9 ∷ 20 ∷ 20 ∷ [])) (14 ∷ [])) (10 ∷ []) x y d same;
    },
    (
      record {
        uses = ((inl refl, (inr (10, refl, refl), tt)), tt);
        defines = λ x y d same. stays_defined (Given small_giving (9 ∷ 10 ∷ [])) (11 ∷ []) x y d same;
      },
      (inr refl, tt),
    ),
  );
  offers = (tt, (tt, tt));
}

several_fine : IsFine known none (edited_function two_lines of_a_copy)
several_fine = fine_where_given small_giving of_a_copy copy_sound several copy_fine

pub apply : Apply
apply = record {
  source = source;
  put = put;
  put_fine = put_fine;
  unused = unused;
  dropped = dropped;
  first = first;
  offered = offered;
  both = both;
  both_fine = both_fine;
  several = several;
  several_fine = several_fine;
}

-- ---- what is needed

copy_of_nothing : ¬ IsFine known none (edited_function (drops 10) of_a_copy)
unfolding roles_of row_of
copy_of_nothing h = elim h.body.0.1.0 [ inl k ↦ false≢true k | inr k ↦ false≢true k ]

arm_fine : IsFine known (ten_at 7) of_an_arm
unfolding roles_of row_of
arm_fine = record {
  function = (refl, (refl, tt));
  parameters = tt;
  body = (
    inl refl,
    ((inl refl, (inl refl, (inl refl, tt))), (tt, λ id p. subst (λ j. With (With known []) (10 ∷ []) j) (sym p.1) (inr refl))),
    (inl refl, tt),
    (λ e id p. (let n = ap length e in absurd (omega (arith, n)))),
    (inl (inl (inl refl)), tt),
  );
}

arm_of_nothing : ¬ IsFine known (ten_at 7) (edited_function (drops 10) of_an_arm)
unfolding roles_of row_of
arm_of_nothing h = elim (h.body.1.1 10 (refl, refl)) [ inl k ↦ false≢true k | inr k ↦ false≢true k ]

nothing_put : ¬ IsFine known none (edited_function (puts 11 14) of_a_copy)
unfolding roles_of row_of
nothing_put h = elim h.body.1.1.0 [
  | inr k ↦ false≢true k
  | inl j ↦ elim j [ inr k ↦ false≢true k | inl i ↦ elim i [ inl k ↦ false≢true k | inr k ↦ false≢true k ] ]
]

pub needed : Needed
needed = record { unused = (copy_fine, copy_of_nothing); unpromised = (arm_fine, arm_of_nothing); available = nothing_put }
