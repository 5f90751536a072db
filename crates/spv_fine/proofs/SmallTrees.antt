-- Which small trees are fine.
use Rattle.std.proofs.Common.{inl, inr, ℕ, Bool, [], ◌∷◌, length, refl, sym, ap, subst, arith}
use Rattle.std.proofs.lemmas.Bool.{false≢true}
use Rattle.spv_grammar.specs.Operands.{roles_of}
use Rattle.spv_grammar.specs.Table.{row_of}
use Rattle.spv_fine.specs.Fine.{IsFine, With}
use Rattle.spv_fine.specs.Facts.{AreFine, NotFine, known, none, told, ten_at, of_one_arm, of_a_body, of_a_phi, of_the_only_arm, of_a_loop}

-- what is promised at the merge block is to be kept by the arm, or the exit, that does not define it
one_arm : (promised : ℕ → ℕ → Bool) → ¬ IsFine known (told promised) of_one_arm
unfolding roles_of row_of
one_arm promised h =
    let second = h.body.2.1 10 in
    elim h.body.4.0 [
      | inr e ↦ false≢true e
      | inl e ↦ elim e [
        | inr p ↦ elim (second p) [ inl k ↦ false≢true k | inr k ↦ false≢true k ]
        | inl k ↦ elim k [ inl j ↦ false≢true j | inr j ↦ false≢true j ]
      ]
    ]

a_body : (promised : ℕ → ℕ → Bool) → ¬ IsFine known (told promised) of_a_body
unfolding roles_of row_of
a_body promised h =
    let exit = h.body.1.1.1 10 in
    elim h.body.5.0 [
      | inr e ↦ false≢true e
      | inl e ↦ elim e [
        | inr p ↦ elim (exit p) [ inr k ↦ false≢true k | inl k ↦ elim k [ inl j ↦ false≢true j | inr j ↦ false≢true j ] ]
        | inl k ↦ elim k [ inr j ↦ false≢true j | inl j ↦ elim j [ inl i ↦ false≢true i | inr i ↦ false≢true i ] ]
      ]
    ]

pub not_fine : NotFine
not_fine = record { arm = one_arm; body = a_body }

-- ---- trees that are fine

phi : IsFine known none of_a_phi
unfolding roles_of row_of
phi = record {
  function = (refl, (refl, tt));
  parameters = tt;
  body = (
    inl refl,
    ((inl refl, (inl refl, (inl refl, tt))), ((inr refl, tt), λ id p. absurd p)),
    ((inl refl, tt), λ id p. absurd p),
    (λ e id p. absurd p),
    (inr refl, tt),
  );
}

only : IsFine known (ten_at 7) of_the_only_arm
unfolding roles_of row_of
only = record {
  function = (refl, (refl, tt));
  parameters = tt;
  body = (
    inl refl,
    ((inl refl, (inl refl, (inl refl, tt))), (tt, λ id p. subst (λ j. With (With known []) (10 ∷ []) j) (sym p.1) (inr refl))),
    (inl refl, tt),
    (λ e id p. (let n = ap length e in absurd (omega (arith, n)))),
    (inl (inr (refl, refl)), tt),
  );
}

loop : IsFine known (ten_at 12) of_a_loop
unfolding roles_of row_of
loop = record {
  function = (refl, (refl, tt));
  parameters = tt;
  body = (
    (inl refl, tt),
    (
      inl (inl refl),
      (tt, λ id p. absurd (omega (arith, p.0))),
      (
        (inl (inl refl), (inl (inl refl), (inl (inl refl), tt))),
        (
          tt,
          λ id p. subst (λ j. With (With (With known []) (11 ∷ [])) (10 ∷ []) j) (sym p.1)
              (inr refl),
        ),
      ),
    ),
    ((inl (inr (refl, refl)), tt), λ id p. absurd (omega (arith, p.0))),
    (λ e id p. (let n = ap length e in absurd (omega (arith, n)))),
    (λ e id p. absurd (omega (arith, p.0))),
    (inl (inl (inr refl)), tt),
  );
}

unpromised : ¬ IsFine known none of_the_only_arm
unfolding roles_of row_of
unpromised h = elim h.body.4.0 [
  | inr e ↦ false≢true e
  | inl e ↦ elim e [
    | inr p ↦ absurd p
    | inl k ↦ elim k [ inl j ↦ false≢true j | inr j ↦ false≢true j ]
  ]
]

pub are_fine : AreFine
are_fine = record { phi = phi; only = only; loop = loop; unpromised = unpromised }
