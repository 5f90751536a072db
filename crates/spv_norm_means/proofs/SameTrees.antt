-- What a tree means is told by the tables, the dispatch, the size and the decorations: settings that differ elsewhere give it one meaning.
use Rattle.std.proofs.Common.{◌≡◌, ℕ, zero, suc, ◌==◌, cond, List, [], ◌∷◌, map, Option, Some, None, refl, sym, ap, ◌∙◌}
use Rattle.std.specs.Prelude.{nat_eq, slice_index, replicate, is_some}
use Rattle.std.specs.Map.{lookup}
use Rattle.spv_opcodes.specs.declared.decoration.TheConstants as decoration
use Rattle.spv_opcodes.specs.declared.storage_class.TheConstants as storage_class
use Rattle.interleaving.specs.Machine.{Answer}
use Rattle.spv_meaning.specs.Constants.{Meaning, IsType, IsPointer, IsConstant, IsVariable, meaning, decorated, literal, type_at, pointer_at, initial}
use Rattle.spv_meaning.specs.Statements as says
use Rattle.spv_meaning.specs.Statements.{Statement, said, statements_in}
use Rattle.spv_meaning.specs.Types.{number_in}
use Rattle.spv_machine.specs.Dispatch.{size_of}
use Rattle.spv_machine.specs.Operations.{outcome, size_at}
use Rattle.spv_machine.specs.Places.{Triple, Memory, Buffer, Uniform, Push, Workgroup, Input, Private, Local, Place, object_at, is_within}
use Rattle.spv_machine.specs.Setting.{Setting, builtin_words}
use Rattle.spv_machine.specs.State.{Words, Points, Value, Data, top, depth_of, set_of, binding_of, memory_of, is_volatile_id, global, value_or, value, all_some, values, words_of_value}
use Rattle.spv_machine.specs.State.{held, read_held}
use Rattle.spv_machine.specs.Steps.{chosen, passed}
use Rattle.spv_bodies.specs.Bodies as bodies
use Rattle.spv_bodies.specs.Bodies.{Exit, Front, ByBranch, InPlace, Body, Leaves, Finishes, Step, Enters, Splits, Selects, Switches, Loops, Arms, Last, Also, Function, target}
use Rattle.spv_bodies.specs.Listing.{first_target}
use Rattle.spv_trees.specs.Meaning.{LeavesFor, Returns, RunsOut, Sticks, Onward, Entry, only, given, either, behind, then_return, does, all_do, finishes, leaves, enters}
use Rattle.spv_trees.specs.Meaning.{then_at, turning, begins, meaning as meaning_of, meaning_at, bound, called, tree}
use Rattle.spv_congruence.specs.Operands.{sight, effect, performed}
use Rattle.spv_congruence.proofs.Operands.{effect_law}

module _ (c : Setting) (all2 : List Statement) (h : (id kind : ℕ) → decorated c.all id kind ≡ decorated all2 id kind) where
  abbrev pub c2 : Setting
  c2 = record c { all = all2 }

  -- ---- values

  volatile_same : (id : ℕ) → is_volatile_id c id ≡ is_volatile_id c2 id
  volatile_same id = ap (λ o. is_some o) (h id decoration.VOLATILE)

  set_same : (id : ℕ) → set_of c id ≡ set_of c2 id
  set_same id = ap literal (h id decoration.DESCRIPTOR_SET)

  binding_same : (id : ℕ) → binding_of c id ≡ binding_of c2 id
  binding_same id = ap literal (h id decoration.BINDING)

  memory_same : (group : Triple) (class id : ℕ) → memory_of c group class id ≡ memory_of c2 group class id
  memory_same group class id = λ i.
      cond (class == storage_class.STORAGE_BUFFER) (Buffer (set_same id i) (binding_same id i))
      (cond (class == storage_class.UNIFORM) (Uniform (set_same id i) (binding_same id i))
      (cond (class == storage_class.PUSH_CONSTANT) Push
      (cond (class == storage_class.WORKGROUP) (Workgroup group id)
      (cond (class == storage_class.INPUT) (Input id) (Private id)))))

  global_same : (group : Triple) (id : ℕ) (m : Option Meaning) → global c group id m ≡ global c2 group id m
  global_same group id (Some (IsConstant t words)) = refl
  global_same group id (Some (IsVariable class target words)) = λ i. Some (Points (record {
    class = class;
    target = target;
    place = Some (object_at class (memory_same group class id i) 0 target);
    volatile = volatile_same id i;
  }))
  global_same group id (Some (IsType t)) = refl
  global_same group id (Some (IsPointer class t)) = refl
  global_same group id None = refl

  value_same : (d : Data) (id : ℕ) → value c d id ≡ value c2 d id
  value_same d id = ap (value_or (lookup (nat_eq id) (top d.frames).values)) (global_same d.group id (meaning c.table id))

  values_same : (d : Data) (ids : List ℕ) → values c d ids ≡ values c2 d ids
  values_same d ids = λ i. all_some (map (λ id. value_same d id i) ids)

  held_same : (d : Data) (m : Memory) → held c d m ≡ held c2 d m
  held_same d (Input variable) = λ i. builtin_words c d.group d.local (literal (h variable decoration.BUILTIN i))
  held_same d (Buffer s b) = refl
  held_same d (Uniform s b) = refl
  held_same d Push = refl
  held_same d (Workgroup group id) = refl
  held_same d (Private id) = refl
  held_same d (Local depth id) = refl

  read_same : (d : Data) (count : ℕ) (p : Option Place) → read_held c d count p ≡ read_held c2 d count p
  read_same d count None = refl
  read_same d count (Some p) = λ i.
      cond (is_within (size_of c.dispatch p.memory) p.positions) (map (slice_index (held_same d p.memory i)) p.positions) (replicate count 0)

  size_same : (p : Option Place) → size_at c p ≡ size_at c2 p
  size_same None = refl
  size_same (Some p) = refl

  sight_same : (d : Data) → sight c d ≡ sight c2 d
  sight_same d = λ i. record {
    value_of = λ id. value_same d id i;
    held_at = λ count p. read_same d count p i;
    depth = depth_of d;
    type_of = type_at c.table;
    pointer_of = pointer_at c.table;
    initial_of = initial c.table;
    size_of = λ p. size_same p i;
    is_volatile = λ id. volatile_same id i;
  }

  outcome_same : (d : Data) (s : Statement) → outcome c d s ≡ outcome c2 d s
  outcome_same d s = effect_law c d s ∙ (ap (λ v. performed d (effect v s)) (sight_same d) ∙ sym (effect_law c2 d s))

  passed_same : (r : ℕ) (v : Value) → passed c r v ≡ passed c2 r v
  passed_same r (Words t ws) = refl
  passed_same r (Points p) = λ i. Points (record p { volatile = volatile_same r i })

  -- ---- parts

  leaves_same : (exit : Exit) (d : Data) (xs : List Answer) → leaves c exit d xs ≡ leaves c2 exit d xs
  leaves_same exit d xs = λ i. given (values_same d exit.values i) (λ vs. only (LeavesFor exit.target vs d xs))

  finishes_same : (ss : List Statement) (d : Data) (xs : List Answer) → finishes c ss d xs ≡ finishes c2 ss d xs
  finishes_same (says.ReturnValue id ∷ rest) d xs = λ i. given (value_same d id i) (λ v. only (Returns (Some v) d xs))
  finishes_same [] d xs = refl
  finishes_same other d xs = refl

  begins_same : (entry : bodies.Entry) (header : Front) (turns turns2 : Onward) (p : turns ≡ turns2) (d : Data) (xs : List Answer)
      → begins c entry header turns d xs ≡ begins c2 entry header turns2 d xs
  begins_same (ByBranch ids) header turns turns2 p d xs = λ i. given (values_same d ids i) (λ vs. enters header (p i) vs d xs)
  begins_same InPlace header turns turns2 p d xs = λ i. p i d xs

  module _ (call call2 : ℕ → Entry) (k : call ≡ call2) where
    does_same : (s : Statement) (d : Data) (xs : List Answer) (go go2 : Onward) (g : go ≡ go2) → does c call s d xs go ≡ does c2 call2 s d xs go2
    does_same (says.FunctionCall t r function arguments) d xs go go2 g = λ i.
        given (values_same d arguments i) (λ vs. then_return r (g i) (k i function vs d xs))
    does_same other d xs go go2 g = λ i. behind (outcome_same d other i) xs (g i)

    all_do_same : (ss : List Statement) (d : Data) (xs : List Answer) (go go2 : Onward) (g : go ≡ go2) → all_do c call ss d xs go ≡ all_do c2 call2 ss d xs go2
    all_do_same [] d xs go go2 g = λ i. g i d xs
    all_do_same (s ∷ ss) d xs go go2 g =
        does_same s d xs (λ e ys. all_do c call ss e ys go) (λ e ys. all_do c2 call2 ss e ys go2) (λ i e ys. all_do_same ss e ys go go2 g i)

    module _ (turns : ℕ) where
      mutual
        -- by recursion on the body
        meaning_same : (body : Body) (d : Data) (xs : List Answer) → meaning_of c call turns body d xs ≡ meaning_of c2 call2 turns body d xs
        meaning_same (Leaves exit) d xs = leaves_same exit d xs
        meaning_same (Finishes words) d xs = finishes_same (said words []) d xs
        meaning_same (Step words body) d xs =
            all_do_same (said words []) d xs (meaning_of c call turns body) (meaning_of c2 call2 turns body) (λ i e ys. meaning_same body e ys i)
        meaning_same (Enters label body) d xs = meaning_same body d xs
        meaning_same (Splits condition on exit body) d xs = λ i.
            given (words_of_value (value_same d condition i)) (λ ws.
            either (number_in ws == 1)
            (cond on (λ e ys. leaves_same exit e ys i) (λ e ys. meaning_same body e ys i))
            (cond on (λ e ys. meaning_same body e ys i) (λ e ys. leaves_same exit e ys i)) d xs)
        meaning_same (Selects control condition first second merge rest) d xs = λ i.
            then_at merge.label (enters merge (λ e ys. meaning_same rest e ys i))
            (given (words_of_value (value_same d condition i)) (λ ws.
            either (number_in ws == 1) (λ e ys. meaning_same first e ys i) (λ e ys. meaning_same second e ys i) d xs))
        meaning_same (Switches control selector cases arms merge rest) d xs = λ i.
            then_at merge.label (enters merge (λ e ys. meaning_same rest e ys i))
            (given (words_of_value (value_same d selector i)) (λ ws. arms_same arms (chosen (number_in ws) (first_target arms) cases) d xs i))
        meaning_same (Loops entry header control inner next continuing merge rest) d xs = λ i.
            then_at merge.label (enters merge (λ e ys. meaning_same rest e ys i))
            (begins_same entry header
            (turning turns header next.label (meaning_of c call turns inner) (enters next (meaning_of c call turns continuing)))
            (turning turns header next.label (meaning_of c2 call2 turns inner) (enters next (meaning_of c2 call2 turns continuing)))
            (λ j. turning turns header next.label (λ e ys. meaning_same inner e ys j) (enters next (λ e ys. meaning_same continuing e ys j)))
            d xs i)

        arms_same : (arms : Arms) (label : ℕ) (d : Data) (xs : List Answer) → meaning_at c call turns arms label d xs ≡ meaning_at c2 call2 turns arms label d xs
        arms_same (Last arm) label d xs = λ i. either (target arm == label) (λ e ys. meaning_same arm e ys i) (λ e ys. only Sticks) d xs
        arms_same (Also arm arms) label d xs = λ i.
            either (target arm == label) (λ e ys. meaning_same arm e ys i) (λ e ys. arms_same arms label e ys i) d xs

  -- ---- functions

  bound_same : (ps : List Statement) (vs : List Value) (entries : List (ℕ × Value)) → bound c ps vs entries ≡ bound c2 ps vs entries
  bound_same (says.FunctionParameter t r ∷ rest) (v ∷ vs) entries =
      bound_same rest vs ((r, passed c r v) ∷ entries) ∙ ap (λ w. bound c2 rest vs ((r, w) ∷ entries)) (passed_same r v)
  bound_same (says.FunctionParameter t r ∷ rest) [] entries = refl
  bound_same [] [] entries = refl
  bound_same [] (v ∷ vs) entries = refl
  bound_same other vs entries = refl

  module _ (functions : ℕ → Option Function) where
    called_same : (go go2 : Body → Onward) (p : go ≡ go2) (f : ℕ) (vs : List Value) (d : Data) (xs : List Answer)
        → called c functions go f vs d xs ≡ called c2 functions go2 f vs d xs
    called_same go go2 p f vs d xs = λ i.
        given (functions f) (λ function.
        given (bound_same (statements_in function.parameters) vs [] i) (λ entries.
        p i function.body (record d { frames = record { values = entries; variables = [] } ∷ d.frames }) xs))

    -- by induction on how deep calls may be
    pub tree_same : (calls turns f : ℕ) (vs : List Value) (d : Data) (xs : List Answer)
        → tree c functions calls turns f vs d xs ≡ tree c2 functions calls turns f vs d xs
    tree_same zero turns f vs d xs = called_same (λ body e ys. only RunsOut) (λ body e ys. only RunsOut) refl f vs d xs
    tree_same (suc calls) turns f vs d xs =
        called_same (meaning_of c (tree c functions calls turns) turns) (meaning_of c2 (tree c2 functions calls turns) turns)
        (λ i body e ys. meaning_same (tree c functions calls turns) (tree c2 functions calls turns) (λ j g ws b zs. tree_same calls turns g ws b zs j) turns body e ys i)
        f vs d xs
