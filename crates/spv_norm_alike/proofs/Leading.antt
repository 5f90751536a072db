-- The parameters of a function are the leading lines behind its own: by the words of a module, and of one function after the other.
use Rattle.std.proofs.Common.{◌≡◌, ℕ, suc, Bool, true, false, cond, not, ◌==◌, ◌&&◌, ◌||◌, List, [], ◌∷◌, ◌++◌, map, Option, Some, None, refl, sym, ap, ap₂, ◌∙◌, append_assoc}
use Rattle.std.specs.List.{AllByRecursion, find}
use Rattle.std.specs.Option.{option_map, option_map_or}
use Rattle.spv_opcodes.specs.declared.op.TheConstants as op
use Rattle.spv_module.specs.Code.{is_function, is_line}
use Rattle.spv_module.specs.Instruction.{Instruction, opcode}
use Rattle.spv_ids.specs.Ids.{defines, kind, place_of}
use Rattle.spv_ids.proofs.Places.{position-cons}
use Rattle.spv_signatures.specs.declared.parameters.Parameter.{Parameter}
use Rattle.spv_signatures.specs.Functions.{is_parameter, leading_parameters, parameter, parameters_at, parameters_of}
use Rattle.spv_normal.specs.Lines.{without_marks}
use Rattle.spv_texts.proofs.Marks.{line_is_no_function}
use Rattle.spv_tree.specs.Sound.{opcode_in}
use Rattle.spv_tree.specs.Tree.{words_of}
use Rattle.spv_norm_declared.proofs.Definitions.{defines_by}
use Rattle.spv_norm_declared.proofs.Walks.{inst_of}

-- ---- by words

abbrev pub parameter_in : List ℕ → Parameter
parameter_in w = parameter (inst_of w)

abbrev pub leading_by : List (List ℕ) → List Parameter
leading_by [] = []
leading_by (w ∷ ws) = cond (is_line (inst_of w)) (leading_by ws) (cond (is_parameter (inst_of w)) (parameter_in w ∷ leading_by ws) [])

-- behind the first line of a function that defines the id
abbrev pub found_by : (f : ℕ) → List (List ℕ) → List Parameter
found_by f [] = []
found_by f (w ∷ ws) = cond (is_function (inst_of w) && defines_by f w) (leading_by ws) (found_by f ws)

leading_told : (is : List Instruction) → leading_parameters is ≡ leading_by (words_of is)
leading_told [] = refl
leading_told (i ∷ is) = ap (λ ps. cond (is_line i) ps (cond (is_parameter i) (parameter i ∷ ps) [])) (leading_told is)

here_or_later : (i : Instruction) (is : List Instruction) (b : Bool) (o : Option ℕ)
    → option_map_or (parameters_at (i ∷ is)) (cond b (Some 0) (option_map (λ k. suc k) o)) []
    ≡ cond b (cond (is_function i) (leading_parameters is) []) (option_map_or (parameters_at is) o [])
here_or_later i is true o = refl
here_or_later i is false None = refl
here_or_later i is false (Some k) = refl

begun_here : (b : Bool) (ps qs others : List Parameter) → ps ≡ qs → cond b ps [] ≡ cond b (cond (b && true) qs others) []
begun_here true ps qs others h = h
begun_here false ps qs others h = refl

begun_later : (b d : Bool) (ps qs others : List Parameter) → ps ≡ cond d others [] → ps ≡ cond d (cond (b && false) qs others) []
begun_later true d ps qs others h = h
begun_later false d ps qs others h = h

-- by induction on the instructions
pub parameters_told : (is : List Instruction) (f : ℕ) → parameters_of is f ≡ cond (kind is f == op.FUNCTION) (found_by f (words_of is)) []
parameters_told [] f = refl
parameters_told (i ∷ is) f =
    ap (λ o. option_map_or (parameters_at (i ∷ is)) o []) (position-cons (defines f) i is)
    ∙ here_or_later i is (defines f i) (place_of is f)
    ∙ by (defines f i) (parameters_told is f)
  where
    by : (b : Bool) → parameters_of is f ≡ cond (kind is f == op.FUNCTION) (found_by f (words_of is)) []
        → cond b (cond (is_function i) (leading_parameters is) []) (parameters_of is f)
        ≡ cond (option_map_or opcode (cond b (Some i) (find (defines f) is)) 0 == op.FUNCTION)
        (cond (is_function i && b) (leading_by (words_of is)) (found_by f (words_of is))) []
    by true more = begun_here (is_function i) (leading_parameters is) (leading_by (words_of is)) (found_by f (words_of is)) (leading_told is)
    by false more = begun_later (is_function i) (kind is f == op.FUNCTION) (parameters_of is f) (leading_by (words_of is)) (found_by f (words_of is)) more

-- ---- line marks do not matter

leading_unmarked : (is : List Instruction) → leading_by (words_of is) ≡ leading_by (words_of (without_marks is))
leading_unmarked [] = refl
leading_unmarked (i ∷ is) = by (is_line i) refl (leading_unmarked is) where
  by : (b : Bool) → is_line i ≡ b → leading_by (words_of is) ≡ leading_by (words_of (without_marks is))
      → cond (is_line i) (leading_by (words_of is)) (cond (is_parameter i) (parameter i ∷ leading_by (words_of is)) [])
      ≡ leading_by (words_of (cond (not b) (i ∷ without_marks is) (without_marks is)))
  by true e more = ap (λ (b : Bool). cond b (leading_by (words_of is)) (cond (is_parameter i) (parameter i ∷ leading_by (words_of is)) [])) e ∙ more
  by false e more = ap (λ ps. cond (is_line i) ps (cond (is_parameter i) (parameter i ∷ ps) [])) more

pub found_unmarked : (f : ℕ) (is : List Instruction) → found_by f (words_of is) ≡ found_by f (words_of (without_marks is))
found_unmarked f [] = refl
found_unmarked f (i ∷ is) = by (is_line i) refl (found_unmarked f is) where
  by : (b : Bool) → is_line i ≡ b → found_by f (words_of is) ≡ found_by f (words_of (without_marks is))
      → cond (is_function i && defines f i) (leading_by (words_of is)) (found_by f (words_of is))
      ≡ found_by f (words_of (cond (not b) (i ∷ without_marks is) (without_marks is)))
  by true e more =
      ap (λ (b : Bool). cond (b && defines f i) (leading_by (words_of is)) (found_by f (words_of is))) (line_is_no_function i e) ∙ more
  by false e more = ap₂ (λ ps qs. cond (is_function i && defines f i) ps qs) (leading_unmarked is) more

-- ---- one function after the other

abbrev pub NoFunction : List ℕ → Type 0
NoFunction w = (opcode_in w == op.FUNCTION) ≡ false

abbrev pub IsParameterLine : List ℕ → Type 0
IsParameterLine w = opcode_in w ≡ op.FUNCTION_PARAMETER

-- the line of OpFunction, those of its parameters, that of its first label, and others among which no function begins
pub record IsFunctionText (ws : List (List ℕ)) : Type 0 where
  pub function : List ℕ
  pub parameters : List (List ℕ)
  pub label : List ℕ
  pub rest : List (List ℕ)
  pub same : ws ≡ function ∷ (parameters ++ label ∷ rest)
  pub begins : opcode_in function ≡ op.FUNCTION
  pub takes : AllByRecursion IsParameterLine parameters
  pub first : opcode_in label ≡ op.LABEL
  pub none : AllByRecursion NoFunction rest

-- where no function begins
pub found_front : (f : ℕ) (xs ys : List (List ℕ)) → AllByRecursion NoFunction xs → found_by f (xs ++ ys) ≡ found_by f ys
found_front f [] ys h = refl
found_front f (x ∷ xs) ys h =
    ap (λ (b : Bool). cond (b && defines_by f x) (leading_by (xs ++ ys)) (found_by f (xs ++ ys))) h.0 ∙ found_front f xs ys h.1

pub no_function_lines : (ps : List (List ℕ)) (label : List ℕ) (rest : List (List ℕ)) → AllByRecursion IsParameterLine ps → opcode_in label ≡ op.LABEL
    → AllByRecursion NoFunction rest
    → AllByRecursion NoFunction (ps ++ label ∷ rest)
no_function_lines [] label rest h e none = (ap (λ o. o == op.FUNCTION) e, none)
no_function_lines (p ∷ ps) label rest h e none = (ap (λ o. o == op.FUNCTION) h.0, no_function_lines ps label rest h.1 e none)

-- the leading lines, up to the label; by induction on them
leading_lines : (ps : List (List ℕ)) (label : List ℕ) (rest : List (List ℕ)) → AllByRecursion IsParameterLine ps → opcode_in label ≡ op.LABEL
    → leading_by (ps ++ label ∷ rest) ≡ map parameter_in ps
leading_lines [] label rest h e =
    ap (λ o. cond (o == op.LINE || o == op.NO_LINE) (leading_by rest) (cond (o == op.FUNCTION_PARAMETER) (parameter_in label ∷ leading_by rest) [])) e
leading_lines (p ∷ ps) label rest h e =
    ap (λ o. cond (o == op.LINE || o == op.NO_LINE) (leading_by (ps ++ label ∷ rest))
    (cond (o == op.FUNCTION_PARAMETER) (parameter_in p ∷ leading_by (ps ++ label ∷ rest)) [])) h.0
    ∙ ap (λ qs. parameter_in p ∷ qs) (leading_lines ps label rest h.1 e)

pub found_text : (f : ℕ) (ws more : List (List ℕ)) (t : IsFunctionText ws)
    → found_by f (ws ++ more) ≡ cond (defines_by f t.function) (map parameter_in t.parameters) (found_by f more)
found_text f ws more t =
    let behind : (t.parameters ++ t.label ∷ t.rest) ++ more ≡ t.parameters ++ t.label ∷ (t.rest ++ more) = append_assoc t.parameters (t.label ∷ t.rest) more in
    ap (λ z. found_by f (z ++ more)) t.same
    ∙ ap (λ o. cond ((o == op.FUNCTION) && defines_by f t.function) (leading_by ((t.parameters ++ t.label ∷ t.rest) ++ more))
    (found_by f ((t.parameters ++ t.label ∷ t.rest) ++ more))) t.begins
    ∙ ap₂ (λ ps qs. cond (defines_by f t.function) ps qs)
    (ap leading_by behind ∙ leading_lines t.parameters t.label (t.rest ++ more) t.takes t.first)
    (found_front f (t.parameters ++ t.label ∷ t.rest) more (no_function_lines t.parameters t.label t.rest t.takes t.first t.none))

-- two texts with the same first lines
pub record SameFront (ws vs : List (List ℕ)) : Type 0 where
  pub one : IsFunctionText ws
  pub other : IsFunctionText vs
  pub function : one.function ≡ other.function
  pub parameters : one.parameters ≡ other.parameters

pub found_same : (f : ℕ) (ws vs more others : List (List ℕ)) → SameFront ws vs → found_by f more ≡ found_by f others
    → found_by f (ws ++ more) ≡ found_by f (vs ++ others)
found_same f ws vs more others s h =
    found_text f ws more s.one
    ∙ (λ i. cond (defines_by f (s.function i)) (map parameter_in (s.parameters i)) (h i))
    ∙ sym (found_text f vs others s.other)
