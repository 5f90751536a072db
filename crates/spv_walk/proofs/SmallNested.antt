-- A loop with another loop in its continue part breaks nothing.
use Rattle.std.proofs.Common.{◌≡◌, ◌≢◌, ◌⊎◌, inl, inr, ℕ, Bool, true, [], ◌∷◌, Some, None, refl, sym, subst, arith}
use Rattle.std.proofs.lemmas.Bool.{eqb-true}
use Rattle.spv_blocks.specs.Blocks.{is_label, branches, construct, merge_of, next_of, goes}
use Rattle.spv_walk.specs.Contexts.{Context, InBody, InNext}
use Rattle.spv_walk.specs.Walk.{Top, Begins, Past, Along, Back, Enters, Walk, Starts, Entered, Merged, Continued, OneBackEdge}
use Rattle.spv_walk.specs.Rules.{Broken, IsFirst}
use Rattle.spv_walk.specs.Facts.{nested}
use Rattle.spv_walk.proofs.NumberingAlike.{branches_of_goes}
use Rattle.spv_walk.proofs.Entering.{one_of, label_among, from_two, no_case, no_back_from_first, first_outside, enters}
use Rattle.spv_walk.proofs.Finding.{Going, Goes, Place, bare, quiet, Places, Nothing, unbroken, seen}

-- ---- tops and back edges

-- at the top of the inner loop is its continue target alone
inner_top : {h b : ℕ} → Top nested h b → h ≡ 5 → b ≡ 6
inner_top (Begins h c next role) e =
    let i : next_of (construct nested 5) ≡ Some c = subst (λ z. next_of (construct nested z) ≡ Some c) e next in
    let j : 6 ≡ c = cc in
    sym j
inner_top (Past h b m top goes_on merge role) e =
    let i : merge_of (construct nested 6) ≡ Some m = subst (λ z. merge_of (construct nested z) ≡ Some m) (inner_top top e) merge in
    cc
inner_top (Along h b t top bare leads_to other tops bares) e =
    let i : goes nested 6 t ≡ true = subst (λ z. goes nested z t ≡ true) (inner_top top e) leads_to in
    let j : t ≢ 5 = subst (λ z. t ≢ z) e other in
    one_of (λ t. goes nested 6 t ≡ true → t ≢ 5 → t ≡ 6) (5 ∷ 7 ∷ []) ((λ k ne. absurd (ne refl)), ((λ k ne. cc), tt)) t (branches_of_goes nested 6 t i) i j

inner_back : Back nested 5 6
inner_back = record { top = Begins 5 6 refl refl; bare = refl }

only_inner_back : (q : ℕ) → q ≢ 4 → branches nested q 5 ≡ true → q ≡ 6
only_inner_back q ne branch = elim (from_two nested 5 4 6 refl q branch) [ inl four ↦ absurd (ne four) | inr six ↦ six ]

-- the header of the inner loop is at the top of the outer loop's continue part, and so is the merge block behind it
top_five : Top nested 2 5
top_five = Along 2 4 5 (Begins 2 4 refl refl) refl refl (λ e. omega arith)
    (λ q ne branch. subst (λ z. Top nested 5 z) (sym (only_inner_back q ne branch)) inner_back.top)
    (λ q ne branch. subst (λ z. construct nested z ≡ None) (sym (only_inner_back q ne branch)) inner_back.bare)

outer_back : Back nested 2 7
outer_back = record { top = Past 2 5 7 top_five refl refl refl; bare = refl }

-- ---- what is entered

enters_outer : Enters nested 1 2
enters_outer = record {
  free = refl;
  counted = record { branch = refl; no_back = no_back_from_first nested 2 1 refl; no_fall = λ falls. no_case nested refl falls.switch 2 falls.to_case };
  one = λ q counted. elim (from_two nested 2 1 7 refl q counted.branch) [
    | inl one ↦ one
    | inr seven ↦ absurd (counted.no_back (subst (λ z. Back nested 2 z) (sym seven) outer_back))
  ];
}

enters_body : Enters nested 2 3
enters_body = enters nested 2 3 refl refl (λ back. let e = back.bare in cc) (λ falls. no_case nested refl falls.switch 3 falls.to_case)

enters_inner : Enters nested 4 5
enters_inner = record {
  free = refl;
  counted = record {
    branch = refl;
    no_back = λ back. let e : ◌≡◌ {A = ℕ} 4 6 = inner_top back.top refl in omega arith;
    no_fall = λ falls. no_case nested refl falls.switch 5 falls.to_case;
  };
  one = λ q counted. elim (from_two nested 5 4 6 refl q counted.branch) [
    | inl four ↦ four
    | inr six ↦ absurd (counted.no_back (subst (λ z. Back nested 5 z) (sym six) inner_back))
  ];
}

-- ---- the walk

data Seen : ℕ → Context → Type 0 where
  Entry : Seen 1 []
  Outer : Seen 2 []
  Body : Seen 3 (InBody 2 8 4 ∷ [])
  Next : Seen 4 (InNext 2 8 ∷ [])
  Inner : Seen 5 (InNext 2 8 ∷ [])
  InnerNext : Seen 6 (InNext 5 7 ∷ InNext 2 8 ∷ [])
  InnerAfter : Seen 7 (InNext 2 8 ∷ [])
  After : Seen 8 []

place : (is_pointer : ℕ → Bool) (P : (rule at : ℕ) → Type 0) → OneBackEdge nested 2 ⊎ P 405 22 → OneBackEdge nested 5 ⊎ P 405 52
    → (l : ℕ) (c : Context) → Seen l c → Place is_pointer nested Seen P l c
place is_pointer P two five l c Entry = bare is_pointer nested Seen P 1 [] refl ((λ e. Goes enters_outer Outer), tt) ((λ a e. cc), tt) tt tt
place is_pointer P two five l c Outer = record {
  to = ((λ e. Goes enters_body Body), ((λ e. cc), tt));
  falls = ((λ a e. cc), ((λ a e. cc), tt));
  merge = λ m e role. let i : 8 ≡ m = cc in subst (λ z. Seen z []) i After;
  next = λ n e role. let i : 4 ≡ n = cc in subst (λ z. Seen z (InNext 2 8 ∷ [])) i Next;
  front = tt;
  end = tt;
  back_edge = λ n e. two;
}
place is_pointer P two five l c Body = quiet is_pointer nested Seen P 3 (InBody 2 8 4 ∷ []) refl (refl, tt) tt tt
place is_pointer P two five l c Next = bare is_pointer nested Seen P 4 (InNext 2 8 ∷ []) refl ((λ e. Goes enters_inner Inner), tt) ((λ a e. cc), tt) tt tt
place is_pointer P two five l c Inner = record {
  to = ((λ e. cc), tt);
  falls = ((λ a e. cc), tt);
  merge = λ m e role. let i : 7 ≡ m = cc in subst (λ z. Seen z (InNext 2 8 ∷ [])) i InnerAfter;
  next = λ n e role. let i : 6 ≡ n = cc in subst (λ z. Seen z (InNext 5 7 ∷ InNext 2 8 ∷ [])) i InnerNext;
  front = tt;
  end = tt;
  back_edge = λ n e. five;
}
place is_pointer P two five l c InnerNext = quiet is_pointer nested Seen P 6 (InNext 5 7 ∷ InNext 2 8 ∷ []) refl (refl, (refl, tt)) tt tt
place is_pointer P two five l c InnerAfter = quiet is_pointer nested Seen P 7 (InNext 2 8 ∷ []) refl (refl, tt) tt tt
place is_pointer P two five l c After = quiet is_pointer nested Seen P 8 [] refl tt tt tt

at_outer : Walk nested 2 []
at_outer = Entered 1 2 [] (Starts 1 refl) refl enters_outer

at_next : Walk nested 4 (InNext 2 8 ∷ [])
at_next = Continued 2 4 [] at_outer refl refl refl

at_inner : Walk nested 5 (InNext 2 8 ∷ [])
at_inner = Entered 4 5 (InNext 2 8 ∷ []) at_next refl enters_inner

at_inner_after : Walk nested 7 (InNext 2 8 ∷ [])
at_inner_after = Merged 5 7 (InNext 2 8 ∷ []) at_inner refl refl refl

at_inner_next : Walk nested 6 (InNext 5 7 ∷ InNext 2 8 ∷ [])
at_inner_next = Continued 5 6 (InNext 2 8 ∷ []) at_inner refl refl refl

-- ---- back edges in the walk

abbrev pub Anything : (rule at : ℕ) → Type 0
Anything rule at = Unit {0}

in_next_context : (l : ℕ) (c : Context) → Seen l c → l ≡ 4 → c ≡ InNext 2 8 ∷ []
in_next_context l c Entry e = absurd (omega arith)
in_next_context l c Outer e = absurd (omega arith)
in_next_context l c Body e = absurd (omega arith)
in_next_context l c Next e = refl
in_next_context l c Inner e = absurd (omega arith)
in_next_context l c InnerNext e = absurd (omega arith)
in_next_context l c InnerAfter e = absurd (omega arith)
in_next_context l c After e = absurd (omega arith)

not_in_inner : (m : ℕ) (c : Context) → Walk nested 4 (InNext 5 m ∷ c) → ⊥
not_in_inner m c walk =
    let is_pointer : ℕ → Bool = λ t. true in
    let all : Places is_pointer nested Seen Anything = record { starts = λ l e. subst (λ z. Seen z []) (eqb-true 1 l e) Entry; at = λ l c s. Going (place is_pointer Anything (inr tt) (inr tt) l c s) } in
    let same : InNext 5 m ∷ c ≡ InNext 2 8 ∷ [] = in_next_context 4 (InNext 5 m ∷ c) (seen is_pointer nested Seen Anything all walk) refl in
    let header : ◌≡◌ {A = ℕ} 5 2 = cc in
    omega arith

one_outer : OneBackEdge nested 2
one_outer = record {
  block = 7;
  ends = record { context = []; merge = 8; walked = at_inner_after; bare = refl; branch = refl };
  one = λ b back. elim (from_two nested 2 1 7 refl b back.branch) [
    | inl one ↦
        let walk : Walk nested 1 (InNext 2 back.merge ∷ back.context) = subst (λ z. Walk nested z (InNext 2 back.merge ∷ back.context)) one back.walked in
        let outside : InNext 2 back.merge ∷ back.context ≡ [] = first_outside nested walk refl refl in
        cc
    | inr seven ↦ seven
  ];
}

one_inner : OneBackEdge nested 5
one_inner = record {
  block = 6;
  ends = record { context = InNext 2 8 ∷ []; merge = 7; walked = at_inner_next; bare = refl; branch = refl };
  one = λ b back. elim (from_two nested 5 4 6 refl b back.branch) [
    | inl four ↦ absurd (not_in_inner back.merge back.context (subst (λ z. Walk nested z (InNext 5 back.merge ∷ back.context)) four back.walked))
    | inr six ↦ six
  ];
}

walked : (l : ℕ) → is_label nested l ≡ true → (c : Context) × Walk nested l c
walked l e =
    one_of (λ l. (c : Context) × Walk nested l c) (1 ∷ 2 ∷ 3 ∷ 4 ∷ 5 ∷ 6 ∷ 7 ∷ 8 ∷ []) (
      ([], Starts 1 refl),
      (
        ([], at_outer),
        (
          (_, Entered 2 3 [] at_outer refl enters_body),
          (
            (_, at_next),
            (
              (_, at_inner),
              (
                (_, at_inner_next),
                (
                  (_, at_inner_after),
                  (([], Merged 2 8 [] at_outer refl refl refl), tt),
                ),
              ),
            ),
          ),
        ),
      ),
    )
    l (label_among nested l e)

pub fine : (is_pointer : ℕ → Bool) → IsFirst (Broken is_pointer nested) None
fine is_pointer =
    unbroken is_pointer nested Seen
    (record { starts = λ l e. subst (λ z. Seen z []) (eqb-true 1 l e) Entry; at = λ l c s. Going (place is_pointer Nothing (inl one_outer) (inl one_inner) l c s) })
    refl walked
