-- Where the OpPhi of a front fit, each branch there carries values of its types; and which fronts a branch out of a part may go to.
use Rattle.std.proofs.Common.{◌≡◌, inl, inr, ℕ, zero, suc, ◌+◌, Bool, true, false, ◌==◌, ◌&&◌, ◌||◌, not, nat_eq, List, [], ◌∷◌, ◌++◌, drop, length, Option, refl, sym, ap, subst, ◌∙◌, arith}
use Rattle.std.specs.Prelude.{slice_index}
use Rattle.std.specs.List.{AllByRecursion, flat_map, list_all, list_any}
use Rattle.spv_opcodes.specs.declared.op.TheConstants as op
use Rattle.spv_module.specs.First.{unless}
use Rattle.spv_module.specs.Instruction.{Instruction}
use Rattle.spv_blocks.specs.Blocks.{End}
use Rattle.spv_typing.specs.Kinds.{is_closed}
use Rattle.spv_values.specs.Values.{is_value_of}
use Rattle.spv_walk.specs.Contexts.{Context, InArm, InBody, InNext, InSelection, is_exit, leaves_inner, leaves_loop, leaves_switch, is_back_pair}
use Rattle.spv_walk.proofs.Unique.{both_left, either_holds, equal_true, true_equal}
use Rattle.spv_composites.specs.Composites.{merges}
use Rattle.spv_usage.specs.declared.stages.Stage.TheVariants.{Further}
use Rattle.spv_bodies.specs.Bodies.{Front, Parameter}
use Rattle.spv_bodies.specs.Listing.{Branching, arriving, from_block, from_others, front_lines, in_order, pair_words, phi_line, phi_lines, phi_pairs}
use Rattle.spv_normal_trees.proofs.Texts.{opcode_spelled}
use Rattle.spv_tree.specs.Fronts.{CarriesAll, IsFilled}
use Rattle.spv_trees.specs.Standing.{OneOf}
use Rattle.spv_trees.proofs.Members.{one_left, one_right}
use Rattle.spv_structured.proofs.Lists.{all_at, filter_in, list_all_at, one_map}
use Rattle.spv_typed_trees.specs.Typed.{Carries, HasTypes, as_instruction}
use Rattle.spv_typed_trees.proofs.Fits.{Fits}
use Rattle.spv_typed_trees.proofs.Lines.{pairs_back}
use Rattle.spv_typed_trees.proofs.Passes.{phi_composites}
use Rattle.spv_typed_trees.proofs.Sent.{IsGiven}

-- ---- branches are among those in order

flat_step : (all : List Branching) (x : Branching) (b : ℕ) (bs : List ℕ) → OneOf x all
    → (list_any (nat_eq x.0) bs ≡ true → OneOf x (flat_map (from_block all) bs)) → (is : Bool) → (x.0 == b) ≡ is
    → (is || list_any (nat_eq x.0) bs) ≡ true → OneOf x (from_block all b ++ flat_map (from_block all) bs)
flat_step all x b bs h ih true e any = one_left x (from_block all b) (flat_map (from_block all) bs) (filter_in (λ (y : Branching). y.0 == b) x all h e)
flat_step all x b bs h ih false e any = one_right x (from_block all b) (flat_map (from_block all) bs) (ih any)

flat_in : (all : List Branching) (x : Branching) (blocks : List ℕ) → OneOf x all → list_any (nat_eq x.0) blocks ≡ true
    → OneOf x (flat_map (from_block all) blocks)
flat_in all x [] h e = absurd (cc e)
flat_in all x (b ∷ bs) h e = flat_step all x b bs h (flat_in all x bs h) (x.0 == b) refl e

order_in : (all : List Branching) (x : Branching) (blocks : List ℕ) → OneOf x all → OneOf x (in_order blocks all)
order_in all x blocks h = by (list_any (nat_eq x.0) blocks) refl
  where
    by : (is : Bool) → list_any (nat_eq x.0) blocks ≡ is → OneOf x (in_order blocks all)
    by true e = one_left x (flat_map (from_block all) blocks) (from_others all blocks) (flat_in all x blocks h e)
    by false e =
        one_right x (flat_map (from_block all) blocks) (from_others all blocks)
        (filter_in (λ (y : Branching). not (list_any (nat_eq y.0) blocks)) x all h (ap not e))

-- ---- fronts

module _ (m : List Instruction) (t : ℕ) (next : Option ℕ) where
  abbrev pub Furthers : List (List ℕ) → Type 0
  Furthers ws = AllByRecursion (λ w. Fits m Further t next (as_instruction w)) ws

  record PhiFits (here : List Branching) (k : ℕ) (p : Parameter) : Type 0 where
    values : (b : Branching) → OneOf b here → is_value_of m p.type (slice_index b.1.values k) ≡ true
    closed : is_closed m p.type ≡ true

  both_empty : (a b : Bool) → unless a 501 ++ unless b 502 ≡ [] → (a ≡ true) × (b ≡ true)
  both_empty true true h = (refl, refl)
  both_empty true false h = absurd (cc h)
  both_empty false b h = absurd (cc h)

  phi_fits : (here : List Branching) (k : ℕ) (p : Parameter) → Fits m Further t next (as_instruction (phi_line k here p)) → PhiFits here k p
  phi_fits here k p fits =
      let ps : List (ℕ × ℕ) = phi_pairs k (in_order p.parents here) in
      let is = opcode_spelled op.PHI (p.type ∷ p.result_id ∷ pair_words ps) (omega arith) in
      let parts = both_empty (merges m p.type (pair_words ps)) (is_closed m p.type)
      (sym (phi_composites m (as_instruction (phi_line k here p)) is) ∙ fits.composites) in
      let each : list_all (λ (pair : ℕ × ℕ). is_value_of m p.type pair.0) ps ≡ true =
      ap (list_all (λ (pair : ℕ × ℕ). is_value_of m p.type pair.0)) (sym (pairs_back ps)) ∙ parts.0 in
      record {
        values = λ b o. list_all_at (λ (pair : ℕ × ℕ). is_value_of m p.type pair.0) ps each (slice_index b.1.values k, b.0)
            (one_map (λ (x : Branching). (slice_index x.1.values k, x.0)) (in_order p.parents here) b (order_in here b p.parents o));
        closed = parts.1;
      }

  carry : (p : Parameter) (ps : List Parameter) (k : ℕ) (values : List ℕ) → is_value_of m p.type (slice_index values k) ≡ true
      → suc (length ps) ≡ length (drop k values) → (length ps ≡ length (drop (suc k) values) → Carries m ps (drop (suc k) values))
      → Carries m (p ∷ ps) (drop k values)
  carry p ps zero [] h e more = absurd (omega (arith, e))
  carry p ps zero (v ∷ vs) h e more = (h, more (omega (arith, e)))
  carry p ps (suc k) [] h e more = absurd (omega (arith, e))
  carry p ps (suc k) (v ∷ vs) h e more = carry p ps k vs h e more

  phis_carry : (here : List Branching) (k : ℕ) (ps : List Parameter) → Furthers (phi_lines k here ps) → (b : Branching) → OneOf b here
      → length ps ≡ length (drop k b.1.values) → Carries m ps (drop k b.1.values)
  phis_carry here k [] fits b o e = tt
  phis_carry here k (p ∷ ps) fits b o e =
      carry p ps k b.1.values ((phi_fits here k p fits.0).values b o) e (λ same.
      let d : k + 1 ≡ suc k = omega arith in
      subst (λ j. Carries m ps (drop j b.1.values)) d
      (phis_carry here (k + 1) ps fits.1 b o (subst (λ j. length ps ≡ length (drop j b.1.values)) (sym d) same)))

  phis_closed : (here : List Branching) (k : ℕ) (ps : List Parameter) → Furthers (phi_lines k here ps)
      → AllByRecursion (λ (p : Parameter). is_closed m p.type ≡ true) ps
  phis_closed here k [] fits = tt
  phis_closed here k (p ∷ ps) fits = ((phi_fits here k p fits.0).closed, phis_closed here (k + 1) ps fits.1)

  pub record IsGood (all : List Branching) (front : Front) : Type 0 where
    pub types : HasTypes m front
    pub given : IsGiven m all front

  pub front_good : (all : List Branching) (front : Front) → IsFilled all front → Furthers (front_lines all front) → IsGood all front
  front_good all front filled fits = record {
    types = phis_closed (arriving front.label all) 0 front.parameters fits.1;
    given = λ b o e.
        let h : OneOf b (arriving front.label all) =
        filter_in (λ (x : Branching). x.1.target == front.label) b all o (true_equal b.1.target front.label e) in
        phis_carry (arriving front.label all) 0 front.parameters fits.1 b h
        (sym (all_at (CarriesAll (length front.parameters)) (arriving front.label all) filled.values b h));
  }

-- ---- exits

pub record InScope (scope : List Front) (t : ℕ) : Type 0 where
  pub front : Front
  pub one : OneOf front scope
  pub there : t ≡ front.label

-- the exits of a context go to fronts in scope
pub record Knows (c : Context) (scope : List Front) : Type 0 where
  pub loop : (t : ℕ) → leaves_loop c t ≡ true → InScope scope t
  pub switch : (t : ℕ) → leaves_switch c t ≡ true → InScope scope t
  pub inner : (e : End) (t : ℕ) → leaves_inner c e t ≡ true → InScope scope t

pub exit_known : (c : Context) (scope : List Front) → Knows c scope → (e : End) (t : ℕ) → is_exit c e t ≡ true → InScope scope t
exit_known c scope k e t h = by (leaves_inner c e t) (leaves_switch c t) (leaves_loop c t) refl refl refl h
  where
    by : (x y z : Bool) → leaves_inner c e t ≡ x → leaves_switch c t ≡ y → leaves_loop c t ≡ z → (x || y || z) ≡ true → InScope scope t
    by true y z a b d g = k.inner e t a
    by false true z a b d g = k.switch t b
    by false false true a b d g = k.loop t d
    by false false false a b d g = absurd (cc g)

wider : (x : Front) (scope : List Front) (t : ℕ) → InScope scope t → InScope (x ∷ scope) t
wider x scope t s = record { front = s.front; one = inr s.one; there = s.there }

first : (x : Front) (scope : List Front) (t : ℕ) → (t == x.label) ≡ true → InScope (x ∷ scope) t
first x scope t e = record { front = x; one = inl refl; there = equal_true t x.label e }

pub nothing_known : Knows [] []
nothing_known = record { loop = λ t h. absurd (cc h); switch = λ t h. absurd (cc h); inner = λ e t h. absurd (cc h) }

pub in_selection : (c : Context) (scope : List Front) (merge : Front) → Knows c scope → Knows (InSelection merge.label ∷ c) (merge ∷ scope)
in_selection c scope merge k = record {
  loop = λ t h. wider merge scope t (k.loop t h);
  switch = λ t h. wider merge scope t (k.switch t h);
  inner = λ e t h. first merge scope t h;
}

pub in_arm : (c : Context) (scope : List Front) (header arm : ℕ) (merge : Front) → Knows c scope → Knows (InArm header merge.label arm ∷ c) (merge ∷ scope)
in_arm c scope header arm merge k = record {
  loop = λ t h. wider merge scope t (k.loop t h);
  switch = λ t h. first merge scope t h;
  inner = λ e t h. first merge scope t h;
}

pub in_body : (c : Context) (scope : List Front) (header : ℕ) (merge next : Front)
    → Knows (InBody header merge.label next.label ∷ c) (next ∷ merge ∷ scope)
in_body c scope header merge next = record {
  loop = λ t h. elim (either_holds (t == merge.label) (t == next.label) h) [
    | inl e ↦ wider next (merge ∷ scope) t (first merge scope t e)
    | inr e ↦ first next (merge ∷ scope) t e
  ];
  switch = λ t h. absurd (cc h);
  inner = λ e t h. absurd (cc h);
}

pub in_continuing : (c : Context) (scope : List Front) (header merge : Front) → Knows (InNext header.label merge.label ∷ c) (header ∷ merge ∷ scope)
in_continuing c scope header merge = record {
  loop = λ t h. absurd (cc h);
  switch = λ t h. absurd (cc h);
  inner = λ e t h. elim (either_holds (t == header.label) (t == merge.label && is_back_pair header.label merge.label e) h) [
    | inl g ↦ first header (merge ∷ scope) t g
    | inr g ↦ wider header (merge ∷ scope) t (first merge scope t (both_left (t == merge.label) (is_back_pair header.label merge.label e) g))
  ];
}
