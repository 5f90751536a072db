-- Facts of small functions with selections and switches.
use Rattle.std.proofs.Common.{◌≡◌, inl, inr, ℕ, Bool, true, [], ◌∷◌, Some, None, refl, sym, subst, arith, le_refl, lit<}
use Rattle.std.proofs.lemmas.Bool.{eqb-true}
use Rattle.spv_blocks.specs.Blocks.{is_label, is_role, is_case}
use Rattle.spv_walk.specs.Contexts.{Context, InSelection, InArm}
use Rattle.spv_walk.specs.Walk.{Here, Falls, Enters, Walk, Starts, Entered, Merged}
use Rattle.spv_walk.specs.Rules.{Finds, AtFront, CaseFall, Broken, Found, IsFirst}
use Rattle.spv_walk.specs.Facts.{refusal, selection, one_merge_block, case_falls}
use Rattle.spv_walk.proofs.NumberingAlike.{branches_of_case}
use Rattle.spv_walk.proofs.Entering.{one_of, label_among, from_one, from_two, no_case, no_loops, enters}
use Rattle.spv_walk.proofs.Finding.{Going, Goes, Whatever, Place, bare, quiet, Nothing, unbroken, From, first_found}

-- ---- a selection

enters_one : Enters selection 1 2
enters_one = enters selection 1 2 refl refl (λ back. no_loops selection refl back.top) (λ falls. no_case selection refl falls.switch 2 falls.to_case)

enters_two : Enters selection 1 3
enters_two = enters selection 1 3 refl refl (λ back. no_loops selection refl back.top) (λ falls. no_case selection refl falls.switch 3 falls.to_case)

data Seen : ℕ → Context → Type 0 where
  Header : Seen 1 []
  One : Seen 2 (InSelection 4 ∷ [])
  Two : Seen 3 (InSelection 4 ∷ [])
  After : Seen 4 []

place : (is_pointer : ℕ → Bool) (l : ℕ) (c : Context) → Seen l c → Place is_pointer selection Seen Nothing l c
place is_pointer l c Header = record {
  to = ((λ e. Goes enters_one One), ((λ e. Goes enters_two Two), tt));
  falls = ((λ a e. cc), ((λ a e. cc), tt));
  merge = λ m e role. let i : 4 ≡ m = cc in subst (λ z. Seen z []) i After;
  next = λ n e role. cc;
  front = tt;
  end = tt;
  back_edge = λ n e. cc;
}
place is_pointer l c One = quiet is_pointer selection Seen Nothing 2 (InSelection 4 ∷ []) refl (refl, tt) tt tt
place is_pointer l c Two = quiet is_pointer selection Seen Nothing 3 (InSelection 4 ∷ []) refl (refl, tt) tt tt
place is_pointer l c After = quiet is_pointer selection Seen Nothing 4 [] refl tt tt tt

walked : (l : ℕ) → is_label selection l ≡ true → (c : Context) × Walk selection l c
walked l e =
    one_of (λ l. (c : Context) × Walk selection l c) (1 ∷ 2 ∷ 3 ∷ 4 ∷ []) (
      ([], Starts 1 refl),
      (
        (_, Entered 1 2 [] (Starts 1 refl) refl enters_one),
        (
          (_, Entered 1 3 [] (Starts 1 refl) refl enters_two),
          (([], Merged 1 4 [] (Starts 1 refl) refl refl refl), tt),
        ),
      ),
    )
    l (label_among selection l e)

pub fine : (is_pointer : ℕ → Bool) → IsFirst (Broken is_pointer selection) None
fine is_pointer = unbroken is_pointer selection Seen (record { starts = λ l e. subst (λ z. Seen z []) (eqb-true 1 l e) Header; at = λ l c s. Going (place is_pointer l c s) }) refl walked

-- ---- two selections with one merge block

enters_inner : Enters one_merge_block 1 2
enters_inner =
    enters one_merge_block 1 2 refl refl (λ back. no_loops one_merge_block refl back.top) (λ falls. no_case one_merge_block refl falls.switch 2 falls.to_case)

data SeenMerging : ℕ → Context → Type 0 where
  Outer : SeenMerging 1 []
  Inner : SeenMerging 2 (InSelection 4 ∷ [])
  Innermost : SeenMerging 3 (InSelection 4 ∷ InSelection 4 ∷ [])

place_merging : (is_pointer : ℕ → Bool) (l : ℕ) (c : Context) → SeenMerging l c → Place is_pointer one_merge_block SeenMerging (From (refusal 403 12)) l c
place_merging is_pointer l c Outer = record {
  to = ((λ e. Goes enters_inner Inner), ((λ e. cc), tt));
  falls = ((λ a e. cc), ((λ a e. cc), tt));
  merge = λ m e role. let i : 4 ≡ m = cc in let h = subst (λ z. is_role one_merge_block 1 z ≡ true) (sym i) role in cc;
  next = λ n e role. cc;
  front = (inr (refl, le_refl 403), tt);
  end = tt;
  back_edge = λ n e. cc;
}
place_merging is_pointer l c Inner = record {
  to = ((λ e. Whatever (inl (lit< tt)) Innermost), ((λ e. cc), tt));
  falls = ((λ a e. cc), ((λ a e. cc), tt));
  merge = λ m e role. let i : 4 ≡ m = cc in let h = subst (λ z. is_role one_merge_block 2 z ≡ true) (sym i) role in cc;
  next = λ n e role. cc;
  front = (inl (lit< tt), tt);
  end = tt;
  back_edge = λ n e. cc;
}
place_merging is_pointer l c Innermost =
    quiet is_pointer one_merge_block SeenMerging (From (refusal 403 12)) 3 (InSelection 4 ∷ InSelection 4 ∷ []) refl (refl, tt) tt tt

at_outer : (is_pointer : ℕ → Bool) → Finds is_pointer one_merge_block 403 12
at_outer is_pointer = AtFront 1 _ [] (refusal 403 12) (Starts 1 refl) refl (0, lit< tt, refl)

pub outer : (is_pointer : ℕ → Bool) → IsFirst (Broken is_pointer one_merge_block) (Some (refusal 403 12))
outer is_pointer =
    first_found is_pointer one_merge_block SeenMerging (refusal 403 12)
    (record { starts = λ l e. subst (λ z. SeenMerging z []) (eqb-true 1 l e) Outer; at = λ l c s. Going (place_merging is_pointer l c s) }) refl (at_outer is_pointer)

pub inner : (is_pointer : ℕ → Bool) → Broken is_pointer one_merge_block 403 22
inner is_pointer = Found 403 22 (AtFront 2 _ _ (refusal 403 22) (Entered 1 2 [] (Starts 1 refl) refl enters_inner) refl (0, lit< tt, refl))

-- ---- a case that branches to another

enters_case : Enters case_falls 1 2
enters_case = enters case_falls 1 2 refl refl (λ back. no_loops case_falls refl back.top)
    (λ falls. falls.other (sym (from_one case_falls 2 1 refl falls.switch (branches_of_case case_falls falls.switch 2 falls.to_case))))

switch_is : (s : ℕ) → is_case case_falls s 3 ≡ true → s ≡ 1
switch_is s e = elim (from_two case_falls 3 1 2 refl s (branches_of_case case_falls s 3 e)) [
  | inl one ↦ one
  | inr two ↦ let h : is_case case_falls 2 3 ≡ true = subst (λ z. is_case case_falls z 3 ≡ true) two e in cc
]

case_two_falls : Falls case_falls 3 2
case_two_falls = record { switch = 1; from = 2; other = λ e. omega arith; to_case = refl; from_case = refl; differ = λ e. omega arith; inside = Here }

pub enters_other : Enters case_falls 1 3
enters_other = record {
  free = refl;
  counted = record { branch = refl; no_back = λ back. no_loops case_falls refl back.top; no_fall = λ falls. falls.other (sym (switch_is falls.switch falls.to_case)) };
  one = λ q counted. elim (from_two case_falls 3 1 2 refl q counted.branch) [
    | inl one ↦ one
    | inr two ↦ absurd (counted.no_fall (subst (λ z. Falls case_falls 3 z) (sym two) case_two_falls))
  ];
}

data SeenFalling : ℕ → Context → Type 0 where
  TheSwitch : SeenFalling 1 []
  CaseTwo : SeenFalling 2 (InArm 1 4 2 ∷ [])
  CaseThree : SeenFalling 3 (InArm 1 4 3 ∷ [])
  Behind : SeenFalling 4 []

place_falling : (is_pointer : ℕ → Bool) (l : ℕ) (c : Context) → SeenFalling l c → Place is_pointer case_falls SeenFalling (From (refusal 404 28)) l c
place_falling is_pointer l c TheSwitch = record {
  to = ((λ e. cc), ((λ e. Goes enters_case CaseTwo), ((λ e. Goes enters_other CaseThree), tt)));
  falls = ((λ a e. cc), ((λ a e. cc), ((λ a e. cc), tt)));
  merge = λ m e role. let i : 4 ≡ m = cc in subst (λ z. SeenFalling z []) i Behind;
  next = λ n e role. cc;
  front = tt;
  end = tt;
  back_edge = λ n e. cc;
}
place_falling is_pointer l c CaseTwo =
    bare is_pointer case_falls SeenFalling (From (refusal 404 28)) 2 (InArm 1 4 2 ∷ []) refl ((λ e. cc), tt) ((λ a e. inr (refl, le_refl 404)), tt) tt tt
place_falling is_pointer l c CaseThree = quiet is_pointer case_falls SeenFalling (From (refusal 404 28)) 3 (InArm 1 4 3 ∷ []) refl (refl, tt) tt tt
place_falling is_pointer l c Behind = quiet is_pointer case_falls SeenFalling (From (refusal 404 28)) 4 [] refl tt tt tt

at_case : (is_pointer : ℕ → Bool) → Finds is_pointer case_falls 404 28
at_case is_pointer = CaseFall 2 3 (InArm 1 4 2 ∷ []) (Entered 1 2 [] (Starts 1 refl) refl enters_case) refl refl

pub falls : (is_pointer : ℕ → Bool) → IsFirst (Broken is_pointer case_falls) (Some (refusal 404 28))
falls is_pointer =
    first_found is_pointer case_falls SeenFalling (refusal 404 28)
    (record { starts = λ l e. subst (λ z. SeenFalling z []) (eqb-true 1 l e) TheSwitch; at = λ l c s. Going (place_falling is_pointer l c s) }) refl (at_case is_pointer)
