-- Where instructions stand, if no rule on the layout is broken: those of functions behind an OpFunction, and declarations before all of them.
use Rattle.std.proofs.Common.{◌≡◌, ℕ, zero, suc, Bool, true, false, cond, not, List, [], ◌∷◌, ◌++◌, take, Some, None, refl, sym, ap, subst, ◌∙◌}
use Rattle.std.specs.Prelude.{nat_lt}
use Rattle.std.specs.List.{list_any, slice_get}
use Rattle.std.proofs.lemmas.Bool.{not-true}
use Rattle.spv_base.specs.declared.fault.Refusal.{Refusal}
use Rattle.spv_module.specs.Code.{is_line}
use Rattle.spv_module.specs.First.{here, unless, first}
use Rattle.spv_module.specs.Instruction.{Instruction}
use Rattle.spv_module.specs.Layout.{place_behind, plain_sections, section_behind, order_rule, second_model_rule, shape_rule, fits_place, layout_rules, layout_from, missing_rules, end_rule, without_lines, group_2}
use Rattle.spv_module.proofs.Ids.{first_nil, second_nil}

-- ---- no rule is broken

pub nothing_first : (bs : List Refusal) → first bs ≡ None → bs ≡ []
nothing_first [] h = refl
nothing_first (b ∷ bs) h = absurd (cc h)

pub nothing_here : (at : ℕ) (rules : List ℕ) → here at rules ≡ [] → rules ≡ []
nothing_here at [] h = refl
nothing_here at (rule ∷ rules) h = absurd (cc h)

pub nothing_left : {X : Type 0} (xs ys : List X) → xs ++ ys ≡ [] → xs ≡ []
nothing_left [] ys h = refl
nothing_left (x ∷ xs) ys h = absurd (cc h)

pub nothing_right : {X : Type 0} (xs ys : List X) → xs ++ ys ≡ [] → ys ≡ []
nothing_right [] ys h = h
nothing_right (x ∷ xs) ys h = absurd (cc h)

pub passes : (b : Bool) (rule : ℕ) → unless b rule ≡ [] → b ≡ true
passes true rule h = refl
passes false rule h = absurd (cc h)

-- what the rules on the layout say of an instruction behind others
pub record Fits (before : List Instruction) (i : Instruction) : Type 0 where
  pub ordered : list_any (λ section. nat_lt (section_behind before i) section) (plain_sections false before) ≡ false
  pub shaped : fits_place (place_behind before) (section_behind before i) i ≡ true

pub fits : (before : List Instruction) (i : Instruction) → layout_rules before i ≡ [] → Fits before i
fits before i h =
    let others = second_nil (order_rule before i) (second_model_rule before i ++ shape_rule before i) h in
    record {
      ordered = not-true (list_any (λ section. nat_lt (section_behind before i) section) (plain_sections false before))
          (passes _ 201 (first_nil (order_rule before i) (second_model_rule before i ++ shape_rule before i) h));
      shaped = passes (fits_place (place_behind before) (section_behind before i) i) 205
          (second_nil (second_model_rule before i) (shape_rule before i) others);
    }

pub append_push : (xs : List Instruction) (i : Instruction) (is : List Instruction) → (xs ++ i ∷ []) ++ is ≡ xs ++ i ∷ is
append_push [] i is = refl
append_push (x ∷ xs) i is = ap (λ ys. x ∷ ys) (append_push xs i is)

pub append_nil : (xs : List Instruction) → xs ++ [] ≡ xs
append_nil [] = refl
append_nil (x ∷ xs) = ap (λ ys. x ∷ ys) (append_nil xs)

-- those of the first k that are no line marks stand behind others; induction on the instructions
fits_from : (before is : List Instruction) → layout_from before (without_lines is) ≡ [] → (k : ℕ) (i : Instruction) → slice_get is k ≡ Some i
    → is_line i ≡ false
    → Fits (before ++ without_lines (take k is)) i
unfolding layout_from
fits_from before [] h k i at plain = absurd (cc at)
fits_from before (x ∷ xs) h zero i at plain =
    let same : x ≡ i = cc at in
    let it : is_line x ≡ false = ap is_line same ∙ plain in
    let all : layout_from before (cond (not (is_line x)) (x ∷ without_lines xs) (without_lines xs)) ≡ [] = h in
    let first_rules : here x.offset (layout_rules before x) ++ layout_from (before ++ x ∷ []) (without_lines xs) ≡ [] = rw it at all in
    subst (λ (i : Instruction). Fits (before ++ []) i) same
    (subst (λ (b : List Instruction). Fits b x) (sym (append_nil before))
    (fits before x (nothing_here x.offset (layout_rules before x)
    (nothing_left (here x.offset (layout_rules before x)) (layout_from (before ++ x ∷ []) (without_lines xs)) first_rules))))
fits_from before (x ∷ xs) h (suc k) i at plain =
    by (is_line x) h (λ before g. fits_from before xs g k i at plain)
  where
    by : (b : Bool) → layout_from before (cond (not b) (x ∷ without_lines xs) (without_lines xs)) ≡ []
        → ((before : List Instruction) → layout_from before (without_lines xs) ≡ [] → Fits (before ++ without_lines (take k xs)) i)
        → Fits (before ++ cond (not b) (x ∷ without_lines (take k xs)) (without_lines (take k xs))) i
    by true g more = more before g
    by false g more =
        subst (λ (b : List Instruction). Fits b i) (append_push before x (without_lines (take k xs)))
        (more (before ++ x ∷ []) (nothing_right (here x.offset (layout_rules before x)) (layout_from (before ++ x ∷ []) (without_lines xs)) g))

pub fits_at : (end : ℕ) (insts : List Instruction) → first (group_2 end insts) ≡ None → (k : ℕ) (i : Instruction) → slice_get insts k ≡ Some i
    → is_line i ≡ false
    → Fits (without_lines (take k insts)) i
fits_at end insts h k i at plain =
    let others = nothing_right (here 5 (missing_rules (without_lines insts)))
    (layout_from [] (without_lines insts) ++ here end (end_rule (without_lines insts)))
    (nothing_first (group_2 end insts) h) in
    fits_from [] insts (nothing_left (layout_from [] (without_lines insts)) (here end (end_rule (without_lines insts))) others) k i at plain
