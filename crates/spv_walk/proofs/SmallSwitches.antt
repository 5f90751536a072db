-- Facts of small functions with a switch that names what a merge instruction names too.
use Rattle.std.proofs.Common.{◌≡◌, inl, inr, ℕ, Bool, true, [], ◌∷◌, Some, refl, sym, subst, le_refl, lit<}
use Rattle.std.proofs.lemmas.Bool.{eqb-true}
use Rattle.spv_blocks.specs.Blocks.{is_case}
use Rattle.spv_walk.specs.Contexts.{Context, InSelection, InArm}
use Rattle.spv_walk.specs.Walk.{Enters, Starts, Entered}
use Rattle.spv_walk.specs.Rules.{Finds, CaseFall, Broken, IsFirst}
use Rattle.spv_walk.specs.Facts.{refusal, case_is_merge, case_is_own_target}
use Rattle.spv_walk.proofs.NumberingAlike.{branches_of_case}
use Rattle.spv_walk.proofs.Entering.{from_one, no_loops, no_back_from_first, enters}
use Rattle.spv_walk.proofs.Finding.{At, Going, Halts, Goes, Refused, Stopping, Place, bare, quiet, From, first_found}

-- ---- a case that is a merge block

enters_switch : Enters case_is_merge 1 6
enters_switch = enters case_is_merge 1 6 refl refl (λ back. no_loops case_is_merge refl back.top)
    (λ falls.
    let one = from_one case_is_merge 6 1 refl falls.switch (branches_of_case case_is_merge falls.switch 6 falls.to_case) in
    let h : is_case case_is_merge 1 6 ≡ true = subst (λ z. is_case case_is_merge z 6 ≡ true) one falls.to_case in
    cc)

enters_two : Enters case_is_merge 6 2
enters_two = enters case_is_merge 6 2 refl refl (λ back. no_loops case_is_merge refl back.top)
    (λ falls. falls.other (sym (from_one case_is_merge 2 6 refl falls.switch (branches_of_case case_is_merge falls.switch 2 falls.to_case))))

enters_three : Enters case_is_merge 6 3
enters_three = enters case_is_merge 6 3 refl refl (λ back. no_loops case_is_merge refl back.top)
    (λ falls. falls.other (sym (from_one case_is_merge 3 6 refl falls.switch (branches_of_case case_is_merge falls.switch 3 falls.to_case))))

enters_four : Enters case_is_merge 3 4
enters_four = enters case_is_merge 3 4 refl refl (λ back. no_loops case_is_merge refl back.top)
    (λ falls.
    let one = from_one case_is_merge 4 3 refl falls.switch (branches_of_case case_is_merge falls.switch 4 falls.to_case) in
    let h : is_case case_is_merge 3 4 ≡ true = subst (λ z. is_case case_is_merge z 4 ≡ true) one falls.to_case in
    cc)

merge_shut : Enters case_is_merge 6 5 → ⊥
merge_shut e = let free = e.free in cc

data Seen : ℕ → Context → Type 0 where
  Entry : Seen 1 []
  Two : Seen 2 (InArm 6 7 2 ∷ [])
  Three : Seen 3 (InArm 6 7 3 ∷ [])
  Four : Seen 4 (InSelection 5 ∷ InArm 6 7 3 ∷ [])
  Five : Seen 5 (InArm 6 7 3 ∷ [])
  TheSwitch : Seen 6 []
  After : Seen 7 []

place : (is_pointer : ℕ → Bool) (l : ℕ) (c : Context) → Seen l c → Place is_pointer case_is_merge Seen (From (refusal 404 28)) l c
place is_pointer l c Entry = bare is_pointer case_is_merge Seen (From (refusal 404 28)) 1 [] refl ((λ e. Goes enters_switch TheSwitch), tt) ((λ a e. cc), tt) tt tt
place is_pointer l c Two =
    bare is_pointer case_is_merge Seen (From (refusal 404 28)) 2 (InArm 6 7 2 ∷ []) refl ((λ e. cc), tt) ((λ a e. inr (refl, le_refl 404)), tt) tt tt
place is_pointer l c Three = record {
  to = ((λ e. Goes enters_four Four), ((λ e. cc), tt));
  falls = ((λ a e. cc), ((λ a e. cc), tt));
  merge = λ m e role. let i : 5 ≡ m = cc in subst (λ z. Seen z (InArm 6 7 3 ∷ [])) i Five;
  next = λ n e role. cc;
  front = tt;
  end = tt;
  back_edge = λ n e. cc;
}
place is_pointer l c Four =
    quiet is_pointer case_is_merge Seen (From (refusal 404 28)) 4 (InSelection 5 ∷ InArm 6 7 3 ∷ []) refl (refl, tt) tt tt
place is_pointer l c Five = quiet is_pointer case_is_merge Seen (From (refusal 404 28)) 5 (InArm 6 7 3 ∷ []) refl (refl, tt) tt tt
place is_pointer l c TheSwitch = record {
  to = ((λ e. cc), ((λ e. Goes enters_two Two), ((λ e. Goes enters_three Three), ((λ e. Refused merge_shut refl (inl (lit< tt))), tt))));
  falls = ((λ a e. cc), ((λ a e. cc), ((λ a e. cc), ((λ a e. cc), tt))));
  merge = λ m e role. let i : 7 ≡ m = cc in subst (λ z. Seen z []) i After;
  next = λ n e role. cc;
  front = tt;
  end = tt;
  back_edge = λ n e. cc;
}
place is_pointer l c After = quiet is_pointer case_is_merge Seen (From (refusal 404 28)) 7 [] refl tt tt tt

at_merge : (is_pointer : ℕ → Bool) → Finds is_pointer case_is_merge 404 28
at_merge is_pointer =
    CaseFall 2 5 (InArm 6 7 2 ∷ []) (Entered 6 2 [] (Entered 1 6 [] (Starts 1 refl) refl enters_switch) refl enters_two) refl refl

pub merge_falls : (is_pointer : ℕ → Bool) → IsFirst (Broken is_pointer case_is_merge) (Some (refusal 404 28))
merge_falls is_pointer =
    first_found is_pointer case_is_merge Seen (refusal 404 28)
    (record { starts = λ l e. subst (λ z. Seen z []) (eqb-true 1 l e) Entry; at = λ l c s. Going (place is_pointer l c s) }) refl (at_merge is_pointer)

-- ---- a case that is a header and its own continue target

enters_case : Enters case_is_own_target 1 2
enters_case = enters case_is_own_target 1 2 refl refl (no_back_from_first case_is_own_target 2 1 refl)
    (λ falls. falls.other (sym (from_one case_is_own_target 2 1 refl falls.switch (branches_of_case case_is_own_target falls.switch 2 falls.to_case))))

data SeenOwn : ℕ → Context → Type 0 where
  Header : SeenOwn 1 []
  CaseTwo : SeenOwn 2 (InArm 1 4 2 ∷ [])
  Own : SeenOwn 3 (InArm 1 4 3 ∷ [])
  Behind : SeenOwn 4 []

at_own : (is_pointer : ℕ → Bool) (l : ℕ) (c : Context) → SeenOwn l c → At is_pointer case_is_own_target SeenOwn (From (refusal 404 28)) l c
at_own is_pointer l c Header = Going (record {
  to = ((λ e. cc), ((λ e. Goes enters_case CaseTwo), ((λ e. Stopping refl Own), tt)));
  falls = ((λ a e. cc), ((λ a e. cc), ((λ a e. cc), tt)));
  merge = λ m e role. let i : 4 ≡ m = cc in subst (λ z. SeenOwn z []) i Behind;
  next = λ n e role. cc;
  front = tt;
  end = tt;
  back_edge = λ n e. cc;
})
at_own is_pointer l c CaseTwo =
    Going (bare is_pointer case_is_own_target SeenOwn (From (refusal 404 28)) 2 (InArm 1 4 2 ∷ []) refl ((λ e. cc), tt) ((λ a e. inr (refl, le_refl 404)), tt) tt tt)
at_own is_pointer l c Own = Halts refl (inl (lit< tt), tt)
at_own is_pointer l c Behind = Going (quiet is_pointer case_is_own_target SeenOwn (From (refusal 404 28)) 4 [] refl tt tt tt)

at_case : (is_pointer : ℕ → Bool) → Finds is_pointer case_is_own_target 404 28
at_case is_pointer = CaseFall 2 3 (InArm 1 4 2 ∷ []) (Entered 1 2 [] (Starts 1 refl) refl enters_case) refl refl

pub own_falls : (is_pointer : ℕ → Bool) → IsFirst (Broken is_pointer case_is_own_target) (Some (refusal 404 28))
own_falls is_pointer =
    first_found is_pointer case_is_own_target SeenOwn (refusal 404 28)
    (record { starts = λ l e. subst (λ z. SeenOwn z []) (eqb-true 1 l e) Header; at = at_own is_pointer }) refl (at_case is_pointer)
