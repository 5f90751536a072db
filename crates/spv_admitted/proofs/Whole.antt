-- A module in which the rules find nothing is read.
use Rattle.std.proofs.Common.{◌≡◌, ℕ, ◌<◌, List, map, Option, Some, None, refl, sym, subst, ◌∙◌, length}
use Rattle.std.specs.Prelude.{slice_get, slice_index, count_by, IsSome}
use Rattle.std.specs.Option.{option_map}
use Rattle.std.proofs.lemmas.List.{length-map}
use Rattle.std.proofs.lemmas.Option.{slice_get-map, slice_get_within}
use Rattle.spv_module.specs.Code.{Code, is_function}
use Rattle.spv_module.specs.Instruction.{Instruction}
use Rattle.spv_meaning.specs.Meanings.{statements}
use Rattle.spv_machine.specs.Setting.{entry_function}
use Rattle.spv_blocks.specs.Cutting.{function_insts}
use Rattle.spv_bodies.specs.Bodies.{Function}
use Rattle.spv_texts.specs.Laws.{DefinesOnce}
use Rattle.spv_texts.proofs.Functions.{fits_in_module}
use Rattle.spv_texts.proofs.Labels.{unbroken_defines_once}
use Rattle.spv_tree.specs.declared.body.Body.{Body}
use Rattle.spv_tree.specs.Tree.{body_of}
use Rattle.spv_trees.specs.Standing.{CallsKnown}
use Rattle.spv_norm_means.specs.Laws.{ReadsAs, function_of}
use Rattle.spv_norm_means.proofs.Whole.{norm_keeps}
use Rattle.spv_admitted.specs.Laws.{FindNothing, AdmittedIsRead, AdmittedMeansAsMuch}
use Rattle.spv_admitted.proofs.Lists.{all_by_place}
use Rattle.spv_admitted.proofs.Apart.{apart_in_blocks}
use Rattle.spv_admitted.proofs.Named.{AreTrees, call_is_of_functions, call_names, entry_names, names_tree}
use Rattle.spv_admitted.proofs.Saying.{KnowsCallee, KnowsEntered, calls_are_known, entered_is_known}

-- the k-th tree is that of the k-th body
record TreeOf (bodies : List Body) (k : ℕ) (f : Function) : Type 0 where
  body : Body
  there : slice_get bodies k ≡ Some body
  same : body_of body ≡ f

tree_by : (bodies : List Body) (k : ℕ) (f : Function) (o : Option Body) → slice_get bodies k ≡ o → option_map body_of o ≡ Some f → TreeOf bodies k f
tree_by bodies k f None e h = absurd (cc h)
tree_by bodies k f (Some body) e h = record { body = body; there = e; same = cc h }

tree_of : (bodies : List Body) (k : ℕ) (f : Function) → slice_get (map body_of bodies) k ≡ Some f → TreeOf bodies k f
tree_of bodies k f e = tree_by bodies k f (slice_get bodies k) refl (sym (slice_get-map body_of bodies k) ∙ e)

module _ (code : Code) (bodies : List Body) (h : FindNothing code bodies) where
  abbrev insts : List Instruction
  insts = code.insts

  abbrev trees : List Function
  trees = map body_of bodies

  once : DefinesOnce insts
  once = unbroken_defines_once insts h.declared

  count : length trees ≡ count_by is_function insts
  count = length-map bodies body_of ∙ h.count

  reads_body : (k : ℕ) (body : Body) → slice_get bodies k ≡ Some body → ReadsAs (function_insts k insts) (body_of body)
  reads_body k body e =
      let s = (h.trees k body e).parsed.spelled in
      let within : k < count_by is_function insts = subst (λ n. k < n) h.count (slice_get_within bodies k body e) in
      record {
        stays = s.stays;
        admitted = s.admitted;
        spells = s.spells;
        apart = apart_in_blocks insts h.instructions once h.available k within s.stays (body_of body) s.admitted s.spells;
      }

  reads : (k : ℕ) (f : Function) → slice_get trees k ≡ Some f → ReadsAs (function_insts k insts) f
  reads k f e = let t = tree_of bodies k f e in subst (ReadsAs (function_insts k insts)) t.same (reads_body k t.body t.there)

  are_trees : AreTrees insts trees
  are_trees k f e = let r = reads k f e in (r.stays, r.spells)

  knows_callee : (k : ℕ) (i : Instruction) → slice_get insts k ≡ Some i → KnowsCallee (function_of trees) i
  knows_callee k i there call =
      let inside = call_is_of_functions insts (fits_in_module h.end insts h.laid_out) k i there call in
      names_tree insts h.instructions trees count are_trees (slice_index i.words 3) (call_names insts k i inside (h.fit k i there 506) call)

  knows_entered : (name : List ℕ) (f k : ℕ) (i : Instruction) → slice_get insts k ≡ Some i → KnowsEntered (function_of trees) name f i
  knows_entered name f k i there entry =
      names_tree insts h.instructions trees count are_trees (slice_index i.words 2) (entry_names insts k i (h.entered k i there 606) entry)

  called : CallsKnown (function_of trees) (statements code)
  called = calls_are_known (function_of trees) insts (all_by_place (KnowsCallee (function_of trees)) insts knows_callee)

  entered : (name : List ℕ) (f : ℕ) → entry_function (statements code) name ≡ Some f → IsSome (function_of trees f)
  entered name f e = entered_is_known (function_of trees) name f insts (all_by_place (KnowsEntered (function_of trees) name f) insts (knows_entered name f)) e

pub admitted_is_read : AdmittedIsRead
admitted_is_read code bodies h = record {
  end = h.end;
  instructions = h.instructions;
  laid_out = h.laid_out;
  once = once code bodies h;
  count = count code bodies h;
  each = reads code bodies h;
  called = called code bodies h;
  entered = entered code bodies h;
}

pub admitted_means_as_much : AdmittedMeansAsMuch
admitted_means_as_much before after bodies h norm = norm_keeps before after (map body_of bodies) (admitted_is_read before bodies h) norm
