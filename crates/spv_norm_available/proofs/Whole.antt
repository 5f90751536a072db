-- Where 503 is broken nowhere in a module, it is broken nowhere in its normal form.
use Rattle.std.proofs.Common.{◌≡◌, ℕ, zero, suc, ◌+◌, ◌<◌, ◌≤◌, ◌||◌, Bool, true, false, cond, List, [], ◌∷◌, ◌++◌, length, Some, None, refl, sym, ap, subst, ◌∙◌, arith}
use Rattle.std.specs.Prelude.{count_by, slice_get}
use Rattle.std.proofs.lemmas.List.Sums.{sum_by-take-le}
use Rattle.spv_module.specs.Code.{is_function, is_line}
use Rattle.spv_module.specs.First.{first}
use Rattle.spv_module.specs.Instruction.{Instruction}
use Rattle.spv_module.specs.Layout.{group_2}
use Rattle.spv_module.specs.declared.layout.Place.{Place}
use Rattle.spv_module.specs.declared.layout.Place.TheVariants.{Head, Outside}
use Rattle.spv_module.specs.Layout.{behind}
use Rattle.spv_blocks.specs.Cutting.{function_insts, rest_of_function}
use Rattle.spv_normal.specs.Lines.{without_marks}
use Rattle.spv_tree.specs.declared.body.Body.{Body}
use Rattle.spv_tree.specs.Tree.{body_of}
use Rattle.spv_respelling.proofs.Admitted.{listing_is_admitted}
use Rattle.spv_respelling.proofs.Whole.{respells_listing}
use Rattle.spv_texts.specs.Laws.{DefinesOnce}
use Rattle.spv_texts.proofs.Functions.{Fits, FitsSomewhere, behind_first, fits_in_module, marks_front, marks_function}
use Rattle.spv_availability.specs.Availability.{AreAvailable, IsAvailable, Use, uses}
use Rattle.spv_availability.specs.Places.{function_of}
use Rattle.spv_fine.specs.Fine.{IsFine}
use Rattle.spv_fine.specs.Laws.{IsKnown}
use Rattle.spv_fine.proofs.Modules.{available}
use Rattle.spv_fine_trees.specs.Laws.{UsesAreAvailable, lines_of}
use Rattle.spv_fine_trees.specs.There.{IsPromised}
use Rattle.spv_fine_trees.proofs.Numbered.{FunctionAt, function_at, located}
use Rattle.spv_fine_trees.proofs.Tidy.{behind_rest, idle_behind, none_begins, rest_again}
use Rattle.spv_norm_structured.specs.Laws.{HasNormalFunctions, IsNormAgain, IsReadAsTrees}
use Rattle.spv_norm_structured.proofs.Again.{IsAgain, again_at, functions_law}
use Rattle.spv_alike.specs.Alike.{AreAlike}
use Rattle.spv_alike.specs.Uses.{UsesNoLabels}
use Rattle.spv_norm_available.specs.Laws.{KnowsAllTypes, NoneMissing, NormIsAvailable}
use Rattle.spv_norm_available.proofs.Finite.{all_or_not, each_or_not}
use Rattle.spv_norm_available.proofs.Known.{known_alike}
use Rattle.spv_norm_available.proofs.Reading.{read_known}

-- ---- where instructions stand

-- what stands behind fits somewhere; induction on what stands before
fits_behind : (place : Place) (begun : Bool) (xs ys : List Instruction) → Fits place begun (xs ++ ys) → FitsSomewhere ys
fits_behind place begun [] ys fits = record { place = place; begun = begun; fits = fits }
fits_behind place begun (x ∷ xs) ys fits = fits_behind (behind place x) (begun || is_function x) xs ys fits.2

at_most : (insts : List Instruction) (k : ℕ) → function_of insts k ≤ count_by is_function insts
at_most insts k = sum_by-take-le (λ (x : Instruction). cond (is_function x) 1 0) insts (k + 1)

-- ---- nothing is missing, so all is available, as far as nothing follows otherwise

abbrev Used : List Instruction → ℕ → Instruction → Type 0
Used insts n i = 0 < function_of insts n → is_line i ≡ false → AreAvailable insts n i

fits_or_not : (insts : List Instruction) → NoneMissing insts → (n : ℕ) (i : Instruction) → slice_get insts n ≡ Some i → (Used insts n i → ⊥) → ⊥
fits_or_not insts none n i at not_fit = by (function_of insts n) (is_line i) refl refl
  where
    by : (f : ℕ) (b : Bool) → function_of insts n ≡ f → is_line i ≡ b → ⊥
    by zero b e g = not_fit (λ inside plain. absurd (omega (arith, inside, e)))
    by (suc f) true e g = not_fit (λ inside plain. absurd (cc (g, plain)))
    by (suc f) false e g =
        all_or_not (uses insts n i) (λ (u : Use). IsAvailable insts u.id u.place)
        (λ u among missing. none n i at g (record { inside = omega (arith, e); missing = record { u = u; is_used = among; missing = missing } }))
        (λ all. not_fit (λ inside plain. all))

pub all_available_or_not : (insts : List Instruction) → NoneMissing insts → (UsesAreAvailable insts → ⊥) → ⊥
all_available_or_not insts none not_all = each_or_not insts (Used insts) (fits_or_not insts none) (λ all. not_all (λ n i at inside plain. all n i at inside plain))

-- ---- one instruction of the normal form

module _ (insts again : List Instruction) (bodies : List Body) (h : IsReadAsTrees insts bodies) (n : IsNormAgain insts again)
    (laid_out : (end : ℕ) → first (group_2 end again) ≡ None) (once : DefinesOnce again) (alike : AreAlike insts again) (no_labels : UsesNoLabels insts)
    (types : KnowsAllTypes insts) (all : UsesAreAvailable insts) where
  functions : HasNormalFunctions insts again
  functions = functions_law insts again bodies h n

  module _ (f : ℕ) (below : f < count_by is_function again) where
    a : IsAgain insts bodies f (function_insts f again)
    a = again_at insts again bodies h n f below

    below_before : f < count_by is_function insts
    below_before = subst (λ m. f < m) functions.count below

    fine_of : (t : List Instruction) (b : IsAgain insts bodies f t) → IsFine (IsKnown again) (IsPromised (lines_of insts f)) (body_of b.body)
    fine_of t b =
        let s = b.tree.parsed.spelled in
        read_known insts h.end f s.stays (body_of b.body) h.instructions h.laid_out below_before s.admitted s.spells (types f below_before) all (IsKnown again)
        (λ m i at inside named id among known. known_alike insts again alike id known (no_labels.at m i at named id among))

    -- the function stands in its module: what stands before it, and what stands behind it
    abbrev start : FunctionAt again f
    start = function_at again f below

    abbrev inner : List Instruction
    inner = rest_of_function start.rest

    abbrev those : List Instruction
    those = start.function ∷ inner

    abbrev behind_all : List Instruction
    behind_all = behind_rest start.rest

    whole : again ≡ start.before ++ (those ++ behind_all)
    whole = start.whole ∙ ap (λ z. start.before ++ start.function ∷ z) (sym (rest_again start.rest))

    fits : Fits Head true (without_marks start.rest)
    fits =
        let parted : without_marks again ≡ without_marks start.before ++ start.function ∷ without_marks start.rest =
        ap without_marks start.whole ∙ marks_front start.before (start.function ∷ start.rest)
        ∙ ap (λ z. without_marks start.before ++ z) (marks_function start.function start.rest start.begins) in
        behind_first start.function (without_marks start.rest) start.begins
        (fits_behind Outside false (without_marks start.before) (start.function ∷ without_marks start.rest)
        (subst (Fits Outside false) parted (fits_in_module 0 again (laid_out 0))))

    here : IsAgain insts bodies f those
    here = subst (IsAgain insts bodies f) start.same a

    -- each of its instructions uses what is available
    those_available : (j : ℕ) (i : Instruction) → slice_get those j ≡ Some i → AreAvailable (start.before ++ (those ++ behind_all)) (length start.before + j) i
    those_available j i at =
        let s = here.tree.parsed.spelled in
        available start.before those behind_all (body_of here.body)
        (listing_is_admitted (lines_of insts f) s.stays (body_of here.body) s.admitted s.spells those here.lists here.instructions)
        (respells_listing (lines_of insts f) s.stays (body_of here.body) s.admitted s.spells those here.lists) here.lists
        (subst DefinesOnce whole once) (IsPromised (lines_of insts f)) (subst (λ (z : List Instruction). IsFine (IsKnown z) (IsPromised (lines_of insts f)) (body_of here.body)) whole (fine_of those here)) j i at

    function_available : (k : ℕ) (i : Instruction) → slice_get again k ≡ Some i → is_line i ≡ false → function_of again k ≡ f + 1 → AreAvailable again k i
    function_available k i at plain in_it =
        let place = located again start.before start.function inner behind_all f whole start.begins start.count (none_begins start.rest)
        (idle_behind Head start.rest fits) k i at plain in_it in
        subst (λ (m : ℕ). AreAvailable again m i) (sym place.1)
        (subst (λ (z : List Instruction). AreAvailable z (length start.before + place.0) i) (sym whole) (those_available place.0 i place.2))

  -- an instruction of functions stands in one of them
  each_available : (k : ℕ) (i : Instruction) → slice_get again k ≡ Some i → is_line i ≡ false → 0 < function_of again k → AreAvailable again k i
  each_available k i at plain some = by (function_of again k) refl
    where
      by : (m : ℕ) → function_of again k ≡ m → AreAvailable again k i
      by zero e = absurd (omega (arith, some, e))
      by (suc f) e =
          let most : function_of again k ≤ count_by is_function again = at_most again k in
          function_available f (omega (arith, most, e)) k i at plain (e ∙ (let z : suc f ≡ f + 1 = omega arith in z))

pub norm_is_available : NormIsAvailable
norm_is_available insts again bodies h n laid_out once alike no_labels types none k i at plain u =
    all_available_or_not insts none (λ all.
    u.missing.missing (each_available insts again bodies h n laid_out once alike no_labels types all k i at plain u.inside u.missing.u u.missing.is_used))
