-- The parameters that instructions begin with, and the rows of parameters that are kept of functions.
use Rattle.std.proofs.Common.{◌≡◌, ℕ, zero, suc, ◌+◌, ◌-◌, ◌≤◌, Bool, true, false, cond, nat_eq, nat_lt, List, [], ◌∷◌, ◌++◌, length, drop, take, Option, Some, None, refl, sym, ap, subst, ◌∙◌, arith, length-append, length-drop, append_assoc, append-nil, add-one}
use Rattle.std.specs.Prelude.{slice_get, slice_range}
use Rattle.std.specs.BTreeMap.{BTreeMap, get}
use Rattle.std.specs.Option.{option_map_or}
use Rattle.std.specs.Ordering.{nat_cmp}
use Rattle.std.proofs.Math.Seq.{drop-append_seam, take-length}
use Rattle.std.proofs.lemmas.Bool.Decides.{nat_tests}
use Rattle.std.proofs.lemmas.List.{drop-append-le, take-append-le}
use Rattle.spv_module.specs.Code.{is_function, is_line}
use Rattle.spv_module.specs.Instruction.{Instruction}
use Rattle.spv_signatures.specs.declared.rows.Row.{Row}
use Rattle.spv_signatures.specs.Functions.{Parameter, is_parameter, parameter, leading_parameters, parameters_at}
use Rattle.spv_signatures.specs.Rows.{row_of, IsWithin, HasRows}

-- the elements from the k-th on; induction on k
pub drop-at : {X : Type 0} (xs : List X) (k : ℕ) (x : X) → slice_get xs k ≡ Some x → drop k xs ≡ x ∷ drop (suc k) xs
drop-at [] k x e = cc
drop-at (y ∷ ys) zero x e = cc
drop-at (y ∷ ys) (suc k) x e = drop-at ys k x e

leading_cases : (line is : Bool) (i : Instruction) (rest : List Instruction) → is_line i ≡ line → is_parameter i ≡ is →
    leading_parameters (i ∷ rest) ≡ cond line (leading_parameters rest) (cond is (parameter i ∷ leading_parameters rest) [])
leading_cases line is i rest e f = rw (e, f) refl

leading_at : (insts : List Instruction) (k : ℕ) (i : Instruction) → slice_get insts k ≡ Some i → leading_parameters (drop k insts) ≡ leading_parameters (i ∷ drop (k + 1) insts)
leading_at insts k i at = ap leading_parameters (drop-at insts k i at) ∙ ap (λ (n : ℕ). leading_parameters (i ∷ drop n insts)) (sym (add-one k))

-- parameters that are followed by those that the instructions from the k-th on begin with
pub leading-pushed : (insts : List Instruction) (k : ℕ) (i : Instruction) (before after : List Parameter) (p : Parameter) → slice_get insts k ≡ Some i → is_line i ≡ false →
    is_parameter i ≡ true → p ≡ parameter i → after ≡ before ++ p ∷ [] → after ++ leading_parameters (drop (k + 1) insts) ≡ before ++ leading_parameters (drop k insts)
leading-pushed insts k i before after p at line is e f =
    ap (λ (ps : List Parameter). ps ++ leading_parameters (drop (k + 1) insts)) f
    ∙ append_assoc before (p ∷ []) (leading_parameters (drop (k + 1) insts))
    ∙ ap (λ (q : Parameter). before ++ q ∷ leading_parameters (drop (k + 1) insts)) e
    ∙ ap (λ (ps : List Parameter). before ++ ps) (sym (leading_at insts k i at ∙ leading_cases false true i (drop (k + 1) insts) line is))

pub leading-line : (insts : List Instruction) (k : ℕ) (i : Instruction) (before : List Parameter) → slice_get insts k ≡ Some i → is_line i ≡ true →
    before ++ leading_parameters (drop (k + 1) insts) ≡ before ++ leading_parameters (drop k insts)
leading-line insts k i before at line =
    ap (λ (ps : List Parameter). before ++ ps) (sym (leading_at insts k i at ∙ leading_cases true (is_parameter i) i (drop (k + 1) insts) line refl))

pub leading-other : (insts : List Instruction) (k : ℕ) (i : Instruction) (before : List Parameter) → slice_get insts k ≡ Some i → is_line i ≡ false → is_parameter i ≡ false →
    before ≡ before ++ leading_parameters (drop k insts)
leading-other insts k i before at line is =
    sym (append-nil before) ∙ ap (λ (ps : List Parameter). before ++ ps) (sym (leading_at insts k i at ∙ leading_cases false false i (drop (k + 1) insts) line is))

-- a range of a list is one of a longer list
range-longer : (all more : List Parameter) (from to : ℕ) → from ≤ to → to ≤ length all → slice_range (all ++ more) from to ≡ slice_range all from to
range-longer all more from to ordered within =
    let fits : to - from ≤ length (drop from all) = omega (arith, length-drop from all) in
    ap (λ (ps : List Parameter). take (to - from) ps) (drop-append-le from all more (omega arith)) ∙ take-append-le (to - from) (drop from all) more fits

-- what is added at the end of a list
range-new : (all more : List Parameter) → slice_range (all ++ more) (length all) (length (all ++ more)) ≡ more
range-new all more =
    let count : length (all ++ more) - length all ≡ length more = omega (arith, length-append all more) in
    ap (λ (ps : List Parameter). take (length (all ++ more) - length all) ps) (drop-append_seam all more)
    ∙ ap (λ (n : ℕ). take n more) count
    ∙ take-length more

bound_more : (p k : ℕ) (xs : List Parameter) → (k ≡ p → xs ≡ []) → cond (nat_lt p k) xs [] ≡ cond (nat_lt p (k + 1)) xs []
bound_more p k xs e = grind (arith, nat_tests)

bound_here : (p k : ℕ) (xs : List Parameter) → k ≡ p → xs ≡ cond (nat_lt p (k + 1)) xs []
bound_here p k xs e = grind (arith, nat_tests)

none_at : (insts : List Instruction) (k : ℕ) (i : Instruction) → slice_get insts k ≡ Some i → is_function i ≡ false → parameters_at insts k ≡ []
none_at insts k i at begins = rw (at, begins) refl

some_at : (insts : List Instruction) (k : ℕ) (i : Instruction) → slice_get insts k ≡ Some i → is_function i ≡ true → leading_parameters (drop (k + 1) insts) ≡ parameters_at insts k
some_at insts k i at begins = rw (at, begins) (ap (λ (n : ℕ). leading_parameters (drop n insts)) (add-one k))

-- no row is kept of what begins no function
pub rows-same : (rows : BTreeMap ℕ Row) (all : List Parameter) (insts : List Instruction) (k : ℕ) (i : Instruction) → HasRows rows all insts k → slice_get insts k ≡ Some i →
    is_function i ≡ false → HasRows rows all insts (k + 1)
rows-same rows all insts k i has at begins = record {
  within = has.within;
  at = λ p. has.at p ∙ bound_more p k (parameters_at insts p) (λ e. ap (parameters_at insts) (sym e) ∙ none_at insts k i at begins);
}

row_longer : (all more : List Parameter) (found : Option Row) → ((row : Row) → found ≡ Some row → IsWithin all row) →
    option_map_or (λ row. slice_range (all ++ more) row.start row.end) found [] ≡ option_map_or (λ row. slice_range all row.start row.end) found []
row_longer all more None within = refl
row_longer all more (Some row) within = range-longer all more row.start row.end (within row refl).ordered (within row refl).within

within_put : (all more : List Parameter) (new : Row) (found : Option Row) (same : Bool) → new.start ≡ length all → new.end ≡ length (all ++ more) →
    ((row : Row) → found ≡ Some row → IsWithin all row) → (row : Row) → cond same (Some new) found ≡ Some row → IsWithin (all ++ more) row
within_put all more new found true s t within row e =
    let is : new ≡ row = cc in
    let P : Row → Type 0 = λ r. IsWithin (all ++ more) r in
    subst P is (record { ordered = omega (arith, length-append all more); within = omega arith })
within_put all more new found false s t within row e = record {
  ordered = (within row e).ordered;
  within = let h : row.end ≤ length all = (within row e).within in omega (arith, h, length-append all more);
}

row_put : (all more : List Parameter) (insts : List Instruction) (k p : ℕ) (new : Row) (found : Option Row) (same : Bool) → nat_eq k p ≡ same →
    new.start ≡ length all → new.end ≡ length (all ++ more) → more ≡ parameters_at insts k → ((row : Row) → found ≡ Some row → IsWithin all row) →
    option_map_or (λ row. slice_range all row.start row.end) found [] ≡ cond (nat_lt p k) (parameters_at insts p) [] →
    option_map_or (λ row. slice_range (all ++ more) row.start row.end) (cond same (Some new) found) [] ≡ cond (nat_lt p (k + 1)) (parameters_at insts p) []
row_put all more insts k p new found true e s t m within old =
    let same : k ≡ p = grind (arith, nat_tests) in
    ap (λ (n : ℕ). slice_range (all ++ more) n new.end) s
    ∙ ap (λ (n : ℕ). slice_range (all ++ more) (length all) n) t
    ∙ range-new all more
    ∙ m
    ∙ ap (parameters_at insts) same
    ∙ bound_here p k (parameters_at insts p) same
row_put all more insts k p new found false e s t m within old =
    let other : (k ≡ p) → ⊥ = λ h. grind (arith, nat_tests) in
    row_longer all more found within ∙ old ∙ bound_more p k (parameters_at insts p) (λ h. absurd (other h))

-- a row more is kept of a function, and its parameters behind those of the others
pub rows-more : (old new : BTreeMap ℕ Row) (all added : List Parameter) (insts : List Instruction) (k : ℕ) (i : Instruction) (row : Row) → HasRows old all insts k →
    slice_get insts k ≡ Some i → is_function i ≡ true → added ≡ all ++ leading_parameters (drop (k + 1) insts) → row.start ≡ length all → row.end ≡ length added →
    ((p : ℕ) → get nat_cmp new p ≡ cond (nat_eq k p) (Some row) (get nat_cmp old p)) → HasRows new added insts (k + 1)
rows-more old new all added insts k i row has at begins adds s t put =
    let more : List Parameter = leading_parameters (drop (k + 1) insts) in
    let t' : row.end ≡ length (all ++ more) = t ∙ ap (λ (ps : List Parameter). length ps) adds in
    let W : List Parameter → Type 0 = λ ps. (q : ℕ) (r : Row) → get nat_cmp new q ≡ Some r → IsWithin ps r in
    record {
      within = record {
        at = subst W (sym adds) (λ q r e. within_put all more row (get nat_cmp old q) (nat_eq k q) s t' (has.within.at q) r (sym (put q) ∙ e));
      };
      at = λ p.
          ap (λ (ps : List Parameter). row_of new ps p) adds
          ∙ ap (λ (o : Option Row). option_map_or (λ r. slice_range (all ++ more) r.start r.end) o []) (put p)
          ∙ row_put all more insts k p row (get nat_cmp old p) (nat_eq k p) refl s t' (some_at insts k i at begins) (has.within.at p) (has.at p);
    }

-- no row is kept at first
pub rows-none : (rows : BTreeMap ℕ Row) (all : List Parameter) (insts : List Instruction) → ((p : ℕ) → get nat_cmp rows p ≡ None) → HasRows rows all insts 0
rows-none rows all insts none = record {
  within = record { at = λ p row e. absurd (let h : None ≡ Some row = sym (none p) ∙ e in cc) };
  at = λ p. ap (λ (o : Option Row). option_map_or (λ r. slice_range all r.start r.end) o []) (none p) ∙ grind (arith, nat_tests);
}
