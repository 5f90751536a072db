-- Small modules stand as their trees say.
use Rattle.std.proofs.Common.{◌≡◌, ℕ, Bool, true, false, ◌==◌, not, ◌||◌, cond, inl, inr, List, [], ◌∷◌, drop, Some, None, refl, sym, ap, ◌∙◌, subst}
use Rattle.std.proofs.lemmas.Bool.{eqb-true, eq-eqb}
use Rattle.std.specs.List.{AllByRecursion}
use Rattle.spv_opcodes.specs.declared.op.TheConstants as op
use Rattle.spv_meaning.specs.Statements as says
use Rattle.spv_meaning.specs.Statements.{Statement}
use Rattle.spv_machine.specs.Facts.{module_of}
use Rattle.spv_machine.specs.Steps.{behind_function}
use Rattle.spv_bodies.specs.Bodies.{Body, Selects, Enters, Function}
use Rattle.spv_bodies.specs.Listing.{Branching, branches, instruction, listed}
use Rattle.spv_trees.specs.Standing as standing
use Rattle.spv_trees.specs.Standing.{OneOf, Stands, CallsKnown, StandsFunction, AllStand}
use Rattle.spv_trees.specs.Sound.{IsEnd, IsSound, SameValues, labels_in, Distinct}
use Rattle.spv_trees.specs.Facts.{as_written, as_parsed, as_listed, swapping, placing, functions_of, function_of, adding, front, parameter, leave, stores, returns, calls, to}
use Rattle.spv_trees.proofs.Listed.{listing_law}

abbrev all : List Statement
all = module_of as_written

-- behind the label 5, behind its OpPhi, behind the label 3, and behind the OpPhi of the label 12
abbrev behind_5 : List Statement
behind_5 = drop 12 as_written

abbrev behind_12 : List Statement
behind_12 = drop 4 as_written

abbrev selection : Body
selection = Selects 0 33 (Enters 3 (leave 5 (15 ∷ []))) (leave 5 (13 ∷ [])) (front 5 (parameter 10 ∷ [])) (stores 10 returns)

rest_stands : Stands all 5 (drop 13 as_written) (stores 10 returns)
rest_stands = standing.steps {after = drop 14 as_written} {words = instruction op.STORE (30 ∷ 10 ∷ [])} (refl, tt) (standing.finishes {statement = says.Return} {after = drop 15 as_written} refl refl)

arm_stands : Stands all 3 (drop 10 as_written) (leave 5 (15 ∷ []))
arm_stands = standing.branches {label = 5} {after = drop 11 as_written} (standing.leaves (record { there = behind_5; place = refl; values = refl }))

selection_stands : Stands all 12 (drop 7 as_written) (selection)
selection_stands =
    standing.selects {control = 0} {condition = 33} {yes_label = 3} {no_label = 5} {after = drop 9 as_written} {there = behind_5} {merge = front 5 (parameter 10 ∷ [])}
    (standing.enters {there = drop 10 as_written} {sources = []} {body = leave 5 (15 ∷ [])} (record { place = refl; values = refl; apart = tt }) arm_stands)
    (standing.leaves {exit = to 5 (13 ∷ [])} (record { there = behind_5; place = refl; values = refl }))
    (record { place = refl; parameters = refl })
    rest_stands

body_stands : Stands all 2 (drop 2 as_written) as_parsed
body_stands =
    standing.joined {label = 12} {after = drop 3 as_written} {there = behind_12} {sources = 31 ∷ 32 ∷ []} {body = calls 15 7 14 selection}
    (record { place = refl; values = refl; apart = (refl, (refl, tt)) })
    (standing.steps {after = drop 7 as_written} {words = instruction op.FUNCTION_CALL (20 ∷ 15 ∷ 7 ∷ 14 ∷ [])} (refl, tt) selection_stands)

main_stands : StandsFunction all (functions_of as_parsed) 1 (function_of 1 [] 2 as_parsed)
unfolding says.statements_in
main_stands = record {
  first_block = drop 2 as_written;
  place = refl;
  parameters = tt;
  stands = body_stands;
  closed = (tt, (tt, ((refl, tt), (inl refl, inl refl, (tt, tt)))));
}

adding_stands : StandsFunction all (functions_of as_parsed) 7 adding
unfolding says.statements_in
adding_stands = record {
  first_block = drop 19 as_written;
  place = refl;
  parameters = (refl, tt);
  stands = standing.steps {after = drop 20 as_written} {words = instruction op.I_ADD (20 ∷ 10 ∷ 8 ∷ 31 ∷ [])} (refl, tt) (standing.finishes {statement = says.ReturnValue 10} {after = drop 21 as_written} refl refl);
  closed = (tt, tt);
}

two_functions : (body : Body) (all : List Statement) → StandsFunction all (functions_of body) 1 (function_of 1 [] 2 body) → StandsFunction all (functions_of body) 7 adding
    → (f : ℕ) (function : Function) (first other : Bool) → (f == 1) ≡ first → (f == 7) ≡ other → cond first (Some (function_of 1 [] 2 body)) (cond other (Some adding) None) ≡ Some function
    → StandsFunction all (functions_of body) f function
two_functions body all one seven f function true other e k h =
    let same : function_of 1 [] 2 body ≡ function = cc in
    subst (λ z. StandsFunction all (functions_of body) z function) (sym (eqb-true f 1 e)) (subst (StandsFunction all (functions_of body) 1) same one)
two_functions body all one seven f function false true e k h =
    let same : adding ≡ function = cc in
    subst (λ z. StandsFunction all (functions_of body) z function) (sym (eqb-true f 7 k)) (subst (StandsFunction all (functions_of body) 7) same seven)
two_functions body all one seven f function false false e k h = absurd (cc h)

pub all_stand : AllStand all (functions_of as_parsed)
all_stand f function e = two_functions as_parsed all main_stands adding_stands f function (f == 1) (f == 7) refl refl e

-- ---- modules as they are listed

-- branches of two blocks, or to two targets
abbrev differ : Branching → Branching → Bool
differ x y = not (x.0 == y.0) || not (x.1.target == y.1.target)

abbrev AllDiffer : List Branching → Type 0
AllDiffer [] = Unit {0}
AllDiffer (x ∷ xs) = AllByRecursion (λ y. differ x y ≡ true) xs × AllDiffer xs

differ_at : (a b : Bool) → a ≡ true → b ≡ true → (not a || not b) ≡ true → ⊥
differ_at true true e f h = cc h
differ_at true false e f h = cc f
differ_at false b e f h = cc e

differs : (x y : Branching) → differ x y ≡ true → x.0 ≡ y.0 → x.1.target ≡ y.1.target → ⊥
differs x y h e f = differ_at (x.0 == y.0) (x.1.target == y.1.target) (eq-eqb x.0 y.0 e) (eq-eqb x.1.target y.1.target f) h

differs_from : (x y : Branching) (xs : List Branching) → AllByRecursion (λ z. differ x z ≡ true) xs → OneOf y xs → differ x y ≡ true
differs_from x y [] h g = absurd g
differs_from x y (z ∷ zs) h (inl e) = ap (differ x) e ∙ h.0
differs_from x y (z ∷ zs) h (inr g) = differs_from x y zs h.1 g

same_values : (all : List Branching) → AllDiffer all → SameValues all
same_values [] h x y g k e f = absurd g
same_values (z ∷ zs) h x y (inl g) (inl k) e f = ap (λ b. b.1.values) (g ∙ sym k)
same_values (z ∷ zs) h x y (inl g) (inr k) e f =
    absurd (differs z y (differs_from z y zs h.0 k) (ap (λ b. b.0) (sym g) ∙ e) (ap (λ b. b.1.target) (sym g) ∙ f))
same_values (z ∷ zs) h x y (inr g) (inl k) e f =
    absurd (differs z x (differs_from z x zs h.0 g) (ap (λ b. b.0) (sym k) ∙ sym e) (ap (λ b. b.1.target) (sym k) ∙ sym f))
same_values (z ∷ zs) h x y (inr g) (inr k) e f = same_values zs h.1 x y g k e f

main_listed : (body : Body) → SameValues (branches 2 body) → IsSound None [] body → CallsKnown (functions_of body) (says.statements_in (listed (function_of 1 [] 2 body))) → Distinct (labels_in (as_listed body)) → StandsFunction (as_listed body) (functions_of body) 1 (function_of 1 [] 2 body)
unfolding says.statements_in
main_listed body same sound known distinct =
    listing_law (functions_of body) 1 (function_of 1 [] 2 body) [] (listed adding) (record { function = refl; parameters = tt; values = same; body = sound }) known refl distinct

adding_listed : (body : Body) → behind_function (says.statements_in (listed (function_of 1 [] 2 body))) 7 ≡ None → Distinct (labels_in (as_listed body)) → StandsFunction (as_listed body) (functions_of body) 7 adding
unfolding says.statements_in
adding_listed body none distinct =
    listing_law (functions_of body) 7 adding (listed (function_of 1 [] 2 body)) []
    (record {
      function = refl;
      parameters = (refl, tt);
      values = same_values (branches 9 adding.body) tt;
      body = (((refl, refl), tt), record { statement = says.ReturnValue 10; same = refl; finish = refl });
    })
    tt
    none
    distinct

is_return : IsEnd (instruction op.RETURN [])
is_return = record { statement = says.Return; same = refl; finish = refl }

distinct_swapping : Distinct (labels_in (as_listed swapping))
unfolding says.statements_in
distinct_swapping = (refl, (refl, (refl, (refl, (refl, (refl, tt))))))

sound_swapping : IsSound None [] swapping
sound_swapping = (
  refl,
  (inr (inr (inl (refl, refl))), refl, inl (refl, refl)),
  inl (refl, refl),
  (((refl, refl), tt), is_return),
)

pub all_listed : AllStand (as_listed swapping) (functions_of swapping)
unfolding says.statements_in
all_listed f function e =
    two_functions swapping (as_listed swapping)
    (main_listed swapping (same_values (branches 2 swapping) ((refl, (refl, (refl, tt))), ((refl, (refl, tt)), ((refl, tt), (tt, tt))))) sound_swapping tt distinct_swapping)
    (adding_listed swapping refl distinct_swapping) f function (f == 1) (f == 7) refl refl e

-- ---- a loop as an arm, and headers in place

distinct_placing : Distinct (labels_in (as_listed (placing 33)))
unfolding says.statements_in
distinct_placing = (refl, (refl, (refl, (refl, (refl, (refl, (refl, (refl, (refl, (refl, (refl, tt)))))))))))

sound_placing : IsSound None [] (placing 33)
sound_placing = (
  refl,
  inl (refl, refl),
  refl,
  (refl, inr (inr (inl (refl, refl))), inl (refl, refl), inl (refl, refl)),
  (
    refl,
    (((refl, refl), tt), (inr (inr (inl (refl, refl))), refl, inl (refl, refl))),
    (refl, inr (inr (inl (refl, refl))), inl (refl, refl), inl (refl, refl)),
    is_return,
  ),
)

pub all_placed : AllStand (as_listed (placing 33)) (functions_of (placing 33))
unfolding says.statements_in
all_placed f function e =
    two_functions (placing 33) (as_listed (placing 33))
    (main_listed (placing 33) (same_values (branches 2 (placing 33)) ((refl, (refl, (refl, (refl, (refl, (refl, (refl, (refl, (refl, tt))))))))), ((refl, (refl, (refl, (refl, (refl, (refl, (refl, (refl, tt)))))))), ((refl, (refl, (refl, (refl, (refl, (refl, (refl, tt))))))), ((refl, (refl, (refl, (refl, (refl, (refl, tt)))))), ((refl, (refl, (refl, (refl, (refl, tt))))), ((refl, (refl, (refl, (refl, tt)))), ((refl, (refl, (refl, tt))), ((refl, (refl, tt)), ((refl, tt), (tt, tt))))))))))) sound_placing tt distinct_placing)
    (adding_listed (placing 33) refl distinct_placing) f function (f == 1) (f == 7) refl refl e
