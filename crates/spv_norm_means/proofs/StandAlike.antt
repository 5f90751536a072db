-- Modules that say the same outside functions, and whose functions stand as the same trees, make the same accesses.
use Rattle.std.proofs.Common.{◌≡◌, ◌≤◌, ℕ, Bool, false, List, [], ◌∷◌, map, Option, Some, None, refl, sym, ap, ◌∙◌, subst}
use Rattle.std.specs.Prelude.{IsSome, IfSome}
use Rattle.std.specs.List.{AllByRecursion}
use Rattle.std.specs.Option.{unwrap_or}
use Rattle.interleaving.specs.Machine.{Answer}
use Rattle.interleaving.specs.Trace.{Trace}
use Rattle.interleaving.specs.Keeps.{without, Alike}
use Rattle.spv_meaning.specs.Constants.{decorated, table_of}
use Rattle.spv_meaning.specs.Meanings.{statements}
use Rattle.spv_meaning.specs.Statements.{Statement}
use Rattle.spv_machine.specs.Access.{Access}
use Rattle.spv_machine.specs.Alike.{Renaming, SameMemory, SamePlace, SameAccess}
use Rattle.spv_machine.specs.Dispatch.{Dispatch}
use Rattle.spv_machine.specs.Laws as modules_law
use Rattle.spv_machine.specs.Machine as modules
use Rattle.spv_machine.specs.Machine.{Fits}
use Rattle.spv_machine.specs.Places.{Memory, Buffer, Uniform, Push, Workgroup, Input, Private, Local, Place}
use Rattle.spv_machine.specs.Setting.{Setting, setting, entry_function, array_lengths, no_triple, IsSize, FitsStatements}
use Rattle.spv_machine.specs.Steps.{first_data}
use Rattle.spv_bodies.specs.Bodies.{Function}
use Rattle.spv_trees.specs.Laws.{trace_of_tree}
use Rattle.spv_trees.specs.Meaning.{tree}
use Rattle.spv_congruence.specs.Laws.{TreeKeeps}
use Rattle.spv_congruence.specs.Relation.{Future, Kept}
use Rattle.spv_congruence.proofs.Machines.{modules_keep}
use Rattle.spv_norm_means.specs.Laws.{SameOutside, StandAlike}
use Rattle.spv_norm_means.proofs.SameTrees.{tree_same}

-- ---- each access is alike itself

abbrev pub as_it_is : Renaming
as_it_is v = Some v

abbrev pub none_left : Access → Bool
none_left a = false

memory_self : (m : Memory) → SameMemory as_it_is m m
memory_self (Workgroup group variable) = (variable, refl, refl)
memory_self (Buffer s b) = refl
memory_self (Uniform s b) = refl
memory_self Push = refl
memory_self (Input v) = refl
memory_self (Private v) = refl
memory_self (Local depth v) = refl

place_self : (p : Option Place) → SamePlace as_it_is p p
place_self None = tt
place_self (Some p) = record { memory = memory_self p.memory; first = refl; positions = refl }

pub access_self : (a : Access) → SameAccess as_it_is a a
access_self a = record {
  action = refl;
  opcode = refl;
  place = place_self a.place;
  count = refl;
  operands = refl;
  scopes = refl;
  semantics = refl;
  memory = refl;
  volatile = refl;
}

alike_self : (list : List Access) → Alike (SameAccess as_it_is) list list
alike_self [] = tt
alike_self (a ∷ list) = (access_self a, alike_self list)

without_none : {X : Type 0} (list : List Access) (xs : List X) → without (map none_left list) xs ≡ xs
without_none [] xs = refl
without_none (a ∷ list) [] = refl
without_none (a ∷ list) (x ∷ xs) = ap (λ ys. x ∷ ys) (without_none list xs)

kept_self : (t : Trace Access) (future : Future) (xs : List Answer) → t ≡ future xs → Kept none_left (SameAccess as_it_is) t future xs
kept_self t future xs e over =
    let w : without (map none_left t.accesses) xs ≡ xs = without_none t.accesses xs in (
      subst (λ ys. Alike (SameAccess as_it_is) (without (map none_left t.accesses) t.accesses) (future ys).accesses) (sym w)
          (subst (λ z. Alike (SameAccess as_it_is) (without (map none_left t.accesses) t.accesses) z.accesses) e
          (subst (λ zs. Alike (SameAccess as_it_is) zs t.accesses) (sym (without_none t.accesses t.accesses)) (alike_self t.accesses))),
      ap (λ ys. (future ys).end) w ∙ ap (λ z. z.end) (sym e),
    )

-- ---- settings

abbrev Trees : Setting → Setting → (ℕ → Option Function) → (f i : ℕ) → Type 0
Trees c c2 functions f i = TreeKeeps none_left (SameAccess as_it_is) c functions f [] (first_data c i) c2 functions f [] (first_data c2 i)

all_of : (all : List Statement) (d : Dispatch) → (setting all d).all ≡ all
unfolding setting
all_of all d = refl

module _ (all all2 : List Statement) (same : SameOutside all all2) where
  setting_same : (d : Dispatch) → record (setting all d) { all = all2 } ≡ setting all2 d
  unfolding setting
  setting_same d = λ i. record {
    all = all2;
    table = same.tables d.specialisation i;
    dispatch = d;
    function = same.entries d.entry i;
    size = unwrap_or (same.sizes d i) no_triple;
  }

  changed_all : (c : Setting) (functions : ℕ → Option Function) (f i : ℕ) → c.all ≡ all → Trees c (record c { all = all2 }) functions f i
  changed_all c functions f i e calls turns xs =
      kept_self (trace_of_tree (tree c functions calls turns f [] (first_data c i) xs))
      (λ ys. trace_of_tree (tree (record c { all = all2 }) functions calls turns f [] (first_data c i) ys)) xs
      (ap trace_of_tree (tree_same c all2 (subst (λ z. (id kind : ℕ) → decorated z id kind ≡ decorated all2 id kind) (sym e) same.decorations) functions calls turns f [] (first_data c i) xs))

  trees_keep : (d : Dispatch) (functions : ℕ → Option Function) (f i : ℕ) → Trees (setting all d) (setting all2 d) functions f i
  trees_keep d functions f i =
      subst (λ z. Trees (setting all d) z functions f i) (setting_same d) (changed_all (setting all d) functions f i (all_of all d))

  fits_both : (d : Dispatch) → FitsStatements all d → FitsStatements all2 d
  fits_both d h = record {
    entry = subst (λ o. IsSome o) (same.entries d.entry) h.entry;
    sized = subst (λ o. IsSome o) (same.sizes d) h.sized;
    size = subst (λ o. IfSome o IsSize) (same.sizes d) h.size;
    lengths = subst (λ t. AllByRecursion (λ n. 1 ≤ n) (array_lengths all2 t)) (same.tables d.specialisation)
        (subst (λ ns. AllByRecursion (λ n. 1 ≤ n) ns) (same.lengths (table_of all d.specialisation)) h.lengths);
  }

pub turned_round : (all all2 : List Statement) → SameOutside all all2 → SameOutside all2 all
turned_round all all2 same = record {
  entries = λ name. sym (same.entries name);
  decorations = λ id kind. sym (same.decorations id kind);
  tables = λ s. sym (same.tables s);
  sizes = λ d. sym (same.sizes d);
  lengths = λ table. sym (same.lengths table);
}

-- ---- modules

pub stand_alike : StandAlike
unfolding Fits modules.workgroup_size
stand_alike before after functions same stand stand2 entered = record {
  accesses = λ d h. keeps d (entry_function (statements before) d.entry) refl h.entry;
  size = λ d. sym (same.sizes d);
  fits = λ d. (fits_both (statements before) (statements after) same d, fits_both (statements after) (statements before) (turned_round (statements before) (statements after) same) d);
} where
  keeps : (d : Dispatch) (o : Option ℕ) → entry_function (statements before) d.entry ≡ o → IsSome o → modules_law.Keeps before d after d none_left as_it_is
  keeps d None e h = absurd (cc)
  keeps d (Some f) e h =
      modules_keep before after d d none_left as_it_is functions functions f f stand stand2 e (entered d.entry f e) (sym (same.entries d.entry) ∙ e) (entered d.entry f e)
      (λ i lt. trees_keep (statements before) (statements after) same d functions f i)
