-- Facts of small functions with loops.
use Rattle.std.proofs.Common.{◌≡◌, inl, inr, ℕ, Bool, true, [], ◌∷◌, Some, None, refl, sym, ◌∙◌, subst, arith, le_refl, lit<, lit≤}
use Rattle.std.proofs.lemmas.Bool.{eqb-true}
use Rattle.spv_blocks.specs.Blocks.{is_label, is_role, construct, merge_of, next_of, goes}
use Rattle.spv_walk.specs.Contexts.{Context, InBody, InNext}
use Rattle.spv_walk.specs.Walk.{Top, Begins, Past, Along, Back, Counted, Enters, Walk, Starts, Entered, Stopped, Merged, Continued, BackEdge, OneBackEdge}
use Rattle.spv_walk.specs.Rules.{Finds, AtFront, AtEnd, BadTarget, BadContinue, Broken, Found, NeverEntered, IsFirst}
use Rattle.spv_walk.specs.Facts.{refusal, loop, back_from_body, no_such_target, returns_in_next, own_target}
use Rattle.spv_walk.proofs.NumberingAlike.{branches_of_goes}
use Rattle.spv_walk.proofs.Entering.{one_of, label_among, label_of_next, from_one, from_two, no_case, no_back_from_first, first_outside, enters}
use Rattle.spv_walk.proofs.Finding.{At, Going, Halts, Goes, Refused, Whatever, Stopping, Place, bare, quiet, Nothing, unbroken, From, first_found, found_only}

-- ---- a body that branches to its loop's header

tops : {h b : ℕ} → Top back_from_body h b → (h ≡ 2) × (b ≡ 4)
tops (Begins h c next role) =
    one_of (λ h. (c : ℕ) → next_of (construct back_from_body h) ≡ Some c → (h ≡ 2) × (c ≡ 4)) (1 ∷ 2 ∷ 3 ∷ 4 ∷ 5 ∷ [])
    ((λ c e. cc), ((λ c e. let i : 4 ≡ c = cc in (refl, sym i)), ((λ c e. cc), ((λ c e. cc), ((λ c e. cc), tt)))))
    h (label_among back_from_body h (label_of_next back_from_body h c next)) c next
tops (Past h b m top goes_on merge role) =
    let e : b ≡ 4 = (tops top).1 in
    let i : merge_of (construct back_from_body 4) ≡ Some m = subst (λ z. merge_of (construct back_from_body z) ≡ Some m) e merge in
    cc
tops (Along h b t top bare leads_to other all_tops bares) =
    let e = tops top in
    let i : goes back_from_body 4 t ≡ true = subst (λ z. goes back_from_body z t ≡ true) e.1 leads_to in
    absurd (other (one_of (λ t. t ≡ 2) (2 ∷ []) (refl, tt) t (branches_of_goes back_from_body 4 t i) ∙ sym e.0))

body_counts : Counted back_from_body 2 3
body_counts = record {
  branch = refl;
  no_back = λ back. let e : ◌≡◌ {A = ℕ} 3 4 = (tops back.top).1 in omega arith;
  no_fall = λ falls. no_case back_from_body refl falls.switch 2 falls.to_case;
}

not_entered : Enters back_from_body 1 2 → ⊥
not_entered entered = let e : ◌≡◌ {A = ℕ} 3 1 = entered.one 3 body_counts in omega arith

data SeenBefore : ℕ → Context → Type 0 where
  Before : SeenBefore 1 []

place_before : (is_pointer : ℕ → Bool) (l : ℕ) (c : Context) → SeenBefore l c → Place is_pointer back_from_body SeenBefore (From (refusal 402 18)) l c
place_before is_pointer l c Before =
    bare is_pointer back_from_body SeenBefore (From (refusal 402 18)) 1 [] refl ((λ e. Refused not_entered refl (inr (refl, le_refl 402))), tt) ((λ a e. cc), tt) tt tt

pub from_body : (is_pointer : ℕ → Bool) → IsFirst (Broken is_pointer back_from_body) (Some (refusal 402 18))
from_body is_pointer =
    first_found is_pointer back_from_body SeenBefore (refusal 402 18)
    (record { starts = λ l e. subst (λ z. SeenBefore z []) (eqb-true 1 l e) Before; at = λ l c s. Going (place_before is_pointer l c s) }) refl
    (BadTarget 1 2 [] (Starts 1 refl) refl refl not_entered)

-- ---- a continue target that is no label

enters_unnamed : Enters no_such_target 1 2
enters_unnamed = enters no_such_target 1 2 refl refl (no_back_from_first no_such_target 2 1 refl) (λ falls. no_case no_such_target refl falls.switch 2 falls.to_case)

data SeenUnnamed : ℕ → Context → Type 0 where
  ToUnnamed : SeenUnnamed 1 []
  Unnamed : SeenUnnamed 2 []
  InUnnamed : SeenUnnamed 3 (InBody 2 5 4 ∷ [])
  AfterUnnamed : SeenUnnamed 5 []

place_unnamed : (is_pointer : ℕ → Bool) (l : ℕ) (c : Context) → SeenUnnamed l c → Place is_pointer no_such_target SeenUnnamed (From (refusal 403 22)) l c
place_unnamed is_pointer l c ToUnnamed =
    bare is_pointer no_such_target SeenUnnamed (From (refusal 403 22)) 1 [] refl ((λ e. Goes enters_unnamed Unnamed), tt) ((λ a e. cc), tt) tt tt
place_unnamed is_pointer l c Unnamed = record {
  to = ((λ e. Whatever (inl (lit< tt)) InUnnamed), ((λ e. cc), tt));
  falls = ((λ a e. cc), ((λ a e. cc), tt));
  merge = λ m e role. let i : 5 ≡ m = cc in subst (λ z. SeenUnnamed z []) i AfterUnnamed;
  next = λ n e role. let i : 4 ≡ n = cc in let h = subst (λ z. is_role no_such_target 2 z ≡ true) (sym i) role in cc;
  front = (inr (refl, le_refl 403), tt);
  end = tt;
  back_edge = λ n e. inr (inr (refl, lit≤ tt));
}
place_unnamed is_pointer l c InUnnamed = quiet is_pointer no_such_target SeenUnnamed (From (refusal 403 22)) 3 (InBody 2 5 4 ∷ []) refl (refl, tt) tt tt
place_unnamed is_pointer l c AfterUnnamed = quiet is_pointer no_such_target SeenUnnamed (From (refusal 403 22)) 5 [] refl tt tt tt

pub no_label : (is_pointer : ℕ → Bool) → IsFirst (Broken is_pointer no_such_target) (Some (refusal 403 22))
no_label is_pointer =
    first_found is_pointer no_such_target SeenUnnamed (refusal 403 22)
    (record { starts = λ l e. subst (λ z. SeenUnnamed z []) (eqb-true 1 l e) ToUnnamed; at = λ l c s. Going (place_unnamed is_pointer l c s) }) refl
    (AtFront 2 _ [] (refusal 403 22) (Entered 1 2 [] (Starts 1 refl) refl enters_unnamed) refl (0, lit< tt, refl))

-- ---- a continue part that returns

enters_returning : Enters returns_in_next 1 2
enters_returning = enters returns_in_next 1 2 refl refl (no_back_from_first returns_in_next 2 1 refl) (λ falls. no_case returns_in_next refl falls.switch 2 falls.to_case)

returning : Walk returns_in_next 2 []
returning = Entered 1 2 [] (Starts 1 refl) refl enters_returning

pub returns : (is_pointer : ℕ → Bool) → Broken is_pointer returns_in_next 405 48
returns is_pointer = Found 405 48 (AtEnd 4 _ (InNext 2 5 ∷ []) (refusal 405 48) (Continued 2 4 [] returning refl refl refl) refl refl (0, lit< tt, refl))

no_back_edge_there : (b : ℕ) → BackEdge returns_in_next 2 b → ⊥
no_back_edge_there b back =
    let one : b ≡ 1 = from_one returns_in_next 2 1 refl b back.branch in
    let walk : Walk returns_in_next 1 (InNext 2 back.merge ∷ back.context) = subst (λ z. Walk returns_in_next z (InNext 2 back.merge ∷ back.context)) one back.walked in
    let outside : InNext 2 back.merge ∷ back.context ≡ [] = first_outside returns_in_next walk refl refl in
    cc

data SeenReturning : ℕ → Context → Type 0 where
  ToReturning : SeenReturning 1 []
  Returning : SeenReturning 2 []
  InReturning : SeenReturning 3 (InBody 2 5 4 ∷ [])
  NextReturning : SeenReturning 4 (InNext 2 5 ∷ [])
  AfterReturning : SeenReturning 5 []

place_returning : (is_pointer : ℕ → Bool) (l : ℕ) (c : Context) → SeenReturning l c → Place is_pointer returns_in_next SeenReturning (From (refusal 405 22)) l c
place_returning is_pointer l c ToReturning =
    bare is_pointer returns_in_next SeenReturning (From (refusal 405 22)) 1 [] refl ((λ e. Goes enters_returning Returning), tt) ((λ a e. cc), tt) tt tt
place_returning is_pointer l c Returning = record {
  to = ((λ e. Whatever (inl (lit< tt)) InReturning), ((λ e. cc), tt));
  falls = ((λ a e. cc), ((λ a e. cc), tt));
  merge = λ m e role. let i : 5 ≡ m = cc in subst (λ z. SeenReturning z []) i AfterReturning;
  next = λ n e role. let i : 4 ≡ n = cc in subst (λ z. SeenReturning z (InNext 2 5 ∷ [])) i NextReturning;
  front = tt;
  end = tt;
  back_edge = λ n e. inr (inr (refl, le_refl 405));
}
place_returning is_pointer l c InReturning = quiet is_pointer returns_in_next SeenReturning (From (refusal 405 22)) 3 (InBody 2 5 4 ∷ []) refl (refl, tt) tt tt
place_returning is_pointer l c NextReturning = quiet is_pointer returns_in_next SeenReturning (From (refusal 405 22)) 4 (InNext 2 5 ∷ []) refl tt tt (inl (lit< tt), tt)
place_returning is_pointer l c AfterReturning = quiet is_pointer returns_in_next SeenReturning (From (refusal 405 22)) 5 [] refl tt tt tt

pub no_back_edge : (is_pointer : ℕ → Bool) → IsFirst (Broken is_pointer returns_in_next) (Some (refusal 405 22))
no_back_edge is_pointer =
    first_found is_pointer returns_in_next SeenReturning (refusal 405 22)
    (record { starts = λ l e. subst (λ z. SeenReturning z []) (eqb-true 1 l e) ToReturning; at = λ l c s. Going (place_returning is_pointer l c s) }) refl
    (BadContinue 2 4 _ [] returning refl refl refl (λ one. no_back_edge_there one.block one.ends))

-- ---- a continue target that is the header

abbrev pub Only : (rule at : ℕ) → Type 0
Only rule at = (rule ≡ 405) × (at ≡ 22)

data SeenOwn : ℕ → Context → Type 0 where
  ToOwn : SeenOwn 1 []
  Own : SeenOwn 2 []

at_own : (is_pointer : ℕ → Bool) (l : ℕ) (c : Context) → SeenOwn l c → At is_pointer own_target SeenOwn Only l c
at_own is_pointer l c ToOwn = Going (bare is_pointer own_target SeenOwn Only 1 [] refl ((λ e. Stopping refl Own), tt) ((λ a e. cc), tt) tt tt)
at_own is_pointer l c Own = Halts refl ((refl, refl), tt)

own_found : (is_pointer : ℕ → Bool) {rule at : ℕ} → Finds is_pointer own_target rule at → Only rule at
own_found is_pointer finds =
    found_only is_pointer own_target SeenOwn Only (record { starts = λ l e. subst (λ z. SeenOwn z []) (eqb-true 1 l e) ToOwn; at = at_own is_pointer }) refl finds

at_own_header : (is_pointer : ℕ → Bool) → Finds is_pointer own_target 405 22
at_own_header is_pointer = AtFront 2 _ [] (refusal 405 22) (Stopped 1 2 [] (Starts 1 refl) refl refl) refl (0, lit< tt, refl)

pub own : (is_pointer : ℕ → Bool) → Broken is_pointer own_target 405 22
own is_pointer = Found 405 22 (at_own_header is_pointer)

pub only_own : (is_pointer : ℕ → Bool) (rule at : ℕ) → Broken is_pointer own_target rule at → Only rule at
only_own is_pointer rule at broken = go broken
  where
    go : {rule at : ℕ} → Broken is_pointer own_target rule at → Only rule at
    go (Found rule at finds) = own_found is_pointer finds
    go (NeverEntered l b nothing at_l never) = absurd (nothing 405 22 (at_own_header is_pointer))

-- ---- a loop

back_edge_of_loop : Back loop 2 4
back_edge_of_loop = record { top = Begins 2 4 refl refl; bare = refl }

enters_loop : Enters loop 1 2
enters_loop = record {
  free = refl;
  counted = record { branch = refl; no_back = no_back_from_first loop 2 1 refl; no_fall = λ falls. no_case loop refl falls.switch 2 falls.to_case };
  one = λ q counted. elim (from_two loop 2 1 4 refl q counted.branch) [
    | inl one ↦ one
    | inr four ↦ absurd (counted.no_back (subst (λ z. Back loop 2 z) (sym four) back_edge_of_loop))
  ];
}

enters_body : Enters loop 2 3
enters_body = enters loop 2 3 refl refl (λ back. let e = back.bare in cc) (λ falls. no_case loop refl falls.switch 3 falls.to_case)

at_header : Walk loop 2 []
at_header = Entered 1 2 [] (Starts 1 refl) refl enters_loop

one_back_edge : OneBackEdge loop 2
one_back_edge = record {
  block = 4;
  ends = record { context = []; merge = 5; walked = Continued 2 4 [] at_header refl refl refl; bare = refl; branch = refl };
  one = λ b back. elim (from_two loop 2 1 4 refl b back.branch) [
    | inl one ↦
        let walk : Walk loop 1 (InNext 2 back.merge ∷ back.context) = subst (λ z. Walk loop z (InNext 2 back.merge ∷ back.context)) one back.walked in
        let outside : InNext 2 back.merge ∷ back.context ≡ [] = first_outside loop walk refl refl in
        cc
    | inr four ↦ four
  ];
}

data Seen : ℕ → Context → Type 0 where
  Entry : Seen 1 []
  Header : Seen 2 []
  Body : Seen 3 (InBody 2 5 4 ∷ [])
  Next : Seen 4 (InNext 2 5 ∷ [])
  After : Seen 5 []

place : (is_pointer : ℕ → Bool) (l : ℕ) (c : Context) → Seen l c → Place is_pointer loop Seen Nothing l c
place is_pointer l c Entry = bare is_pointer loop Seen Nothing 1 [] refl ((λ e. Goes enters_loop Header), tt) ((λ a e. cc), tt) tt tt
place is_pointer l c Header = record {
  to = ((λ e. Goes enters_body Body), ((λ e. cc), tt));
  falls = ((λ a e. cc), ((λ a e. cc), tt));
  merge = λ m e role. let i : 5 ≡ m = cc in subst (λ z. Seen z []) i After;
  next = λ n e role. let i : 4 ≡ n = cc in subst (λ z. Seen z (InNext 2 5 ∷ [])) i Next;
  front = tt;
  end = tt;
  back_edge = λ n e. inl one_back_edge;
}
place is_pointer l c Body = quiet is_pointer loop Seen Nothing 3 (InBody 2 5 4 ∷ []) refl (refl, tt) tt tt
place is_pointer l c Next = quiet is_pointer loop Seen Nothing 4 (InNext 2 5 ∷ []) refl (refl, tt) tt tt
place is_pointer l c After = quiet is_pointer loop Seen Nothing 5 [] refl tt tt tt

walked : (l : ℕ) → is_label loop l ≡ true → (c : Context) × Walk loop l c
walked l e =
    one_of (λ l. (c : Context) × Walk loop l c) (1 ∷ 2 ∷ 3 ∷ 4 ∷ 5 ∷ []) (
      ([], Starts 1 refl),
      (
        ([], at_header),
        (
          (_, Entered 2 3 [] at_header refl enters_body),
          (
            (_, Continued 2 4 [] at_header refl refl refl),
            (([], Merged 2 5 [] at_header refl refl refl), tt),
          ),
        ),
      ),
    )
    l (label_among loop l e)

pub fine : (is_pointer : ℕ → Bool) → IsFirst (Broken is_pointer loop) None
fine is_pointer = unbroken is_pointer loop Seen (record { starts = λ l e. subst (λ z. Seen z []) (eqb-true 1 l e) Entry; at = λ l c s. Going (place is_pointer l c s) }) refl walked
