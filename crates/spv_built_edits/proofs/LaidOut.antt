-- A module of which the functions become others that are sound, with the same instructions outside functions, is laid out as it was.
use Rattle.std.proofs.Common.{◌≡◌, ℕ, zero, suc, ◌+◌, ◌<◌, Bool, true, cond, List, [], ◌∷◌, ◌++◌, length, filter, slice_get, Some, refl, sym, ap, ap₂, ◌∙◌, subst, arith}
use Rattle.std.specs.Prelude.{count_by}
use Rattle.std.specs.List.{AllByRecursion, flat_map, range_with_len}
use Rattle.std.specs.Option.{option_map_or}
use Rattle.spv_module.specs.Code.{is_function}
use Rattle.spv_module.specs.Instruction.{Instruction}
use Rattle.spv_bodies.specs.Bodies.{Function}
use Rattle.spv_bodies.specs.Listing.{listed}
use Rattle.spv_tree.specs.Sound.{IsSound}
use Rattle.spv_tree.specs.Tree.{words_of}
use Rattle.spv_structured.specs.Laws.{Opens}
use Rattle.spv_norm.specs.Norm.{outside, stays_outside, staying}
use Rattle.spv_norm_declared.proofs.LaidOut.{AreBare, IsFunction, LaysFully, norm_bare, norm_lays, without_none}
use Rattle.spv_norm_declared.proofs.Laying.{laid_out}
use Rattle.spv_norm_declared.proofs.Walks.{behind_first, function_walks}
use Rattle.spv_built.proofs.Functions.{are_listed, count_is}
use Rattle.spv_built.proofs.Normal.{are_normal}
use Rattle.spv_built_edits.specs.Edits.{AreSoundFunctions}
use Rattle.spv_built_edits.specs.Laws.{LayoutStays}

-- ---- listings by number

abbrev listing_at : List Function → ℕ → List (List ℕ)
listing_at gs k = option_map_or listed (slice_get gs k) []

-- by induction on the functions
listings : (G : ℕ → List (List ℕ)) (a : ℕ) (gs : List Function) → ((j : ℕ) (g : Function) → slice_get gs j ≡ Some g → G (a + j) ≡ listed g)
    → flat_map G (range_with_len a (length gs)) ≡ flat_map listed gs
listings G a [] h = refl
listings G a (g ∷ gs) h =
    ap₂ (λ x y. x ++ y) (ap G (none_more a) ∙ h 0 g refl) (listings G (a + 1) gs (λ j f e. ap G (one_later a j) ∙ h (suc j) f e))
  where
    none_more : (n : ℕ) → n ≡ n + 0
    none_more n = omega arith

    one_later : (n k : ℕ) → (n + 1) + k ≡ n + suc k
    one_later n k = omega arith

all_kept : (p : Instruction → Bool) (is : List Instruction) → AllByRecursion (λ i. p i ≡ true) is → filter p is ≡ is
all_kept p [] h = refl
all_kept p (i ∷ is) h = ap (λ (b : Bool). cond b (i ∷ filter p is) (filter p is)) h.0 ∙ ap (λ z. i ∷ z) (all_kept p is h.1)

-- ---- a function's lines

is_function_listed : (g : Function) → IsSound g → Opens g → IsFunction (listed g)
is_function_listed g sound opens = record {
  function = g.function;
  rest = behind_first g;
  same = refl;
  begins = opens.function;
  walks = function_walks g sound (record { function = opens.function; parameters = opens.parameters });
}

each_function : (gs : List Function) (k : ℕ) → AreSoundFunctions gs → k < length gs → IsFunction (listing_at gs k)
each_function [] k h below = absurd (omega (arith, below))
each_function (g ∷ gs) zero h below = is_function_listed g h.0.0 h.0.1
each_function (g ∷ gs) (suc k) h below = each_function gs k h.1 (omega (arith, below))

pub layout_stays : LayoutStays
layout_stays before after fs gs formed b same count sound end =
    laid_out end after (without_none after (subst AreBare (sym words) bare)) (subst LaysFully (sym words) lays).lays (subst LaysFully (sym words) lays).all
    (subst LaysFully (sym words) lays).out
  where
    number : count_by is_function before ≡ length gs
    number = count_is before fs (are_listed before fs b) formed ∙ sym count

    each : (j : ℕ) → j < count_by is_function before → IsFunction (listing_at gs (0 + j))
    each j below = each_function gs (0 + j) sound (let m = number in omega (arith, below, m))

    lays : LaysFully (words_of (staying before) ++ flat_map (listing_at gs) (range_with_len 0 (count_by is_function before)))
    lays = norm_lays 0 before (b.laid_out 0) (listing_at gs) each

    bare : AreBare (words_of (staying before) ++ flat_map (listing_at gs) (range_with_len 0 (count_by is_function before)))
    bare = norm_bare before (listing_at gs) each

    all_stay : staying before ≡ outside before
    all_stay = all_kept (stays_outside before) (outside before) (are_normal before fs b formed).stays

    words : words_of after ≡ words_of (staying before) ++ flat_map (listing_at gs) (range_with_len 0 (count_by is_function before))
    words =
        same ∙ ap (λ z. z ++ flat_map listed gs) (ap words_of (sym all_stay))
        ∙ ap (λ z. words_of (staying before) ++ z)
        (sym (listings (listing_at gs) 0 gs (λ j g e. ap (λ o. option_map_or listed o []) (ap (slice_get gs) (at_once j) ∙ e)))
        ∙ ap (λ n. flat_map (listing_at gs) (range_with_len 0 n)) (sym number))
      where
        at_once : (n : ℕ) → 0 + n ≡ n
        at_once n = omega arith
