-- The listing of the tree of a function that is built is admitted, breaks no rule on structured control flow, nests no deeper than the tree, and is in normal
-- form.
use Rattle.std.proofs.Common.{◌≡◌, ℕ, zero, suc, ◌<◌, ◌≤◌, Bool, List, [], ◌∷◌, length, refl, sym, ◌∙◌, subst, arith}
use Rattle.std.specs.List.{AllByRecursion}
use Rattle.spv_module.specs.Instruction.{Instruction}
use Rattle.spv_blocks.specs.Cutting.{blocks_of}
use Rattle.spv_walk.specs.Rules.{Broken}
use Rattle.spv_bodies.specs.Bodies.{Body, Leaves, Finishes, Step, Enters, Splits, Selects, Switches, Loops, Arms, Last, Also, Front, Function, Parameter, depth}
use Rattle.spv_bodies.specs.Listing.{Branching, arriving, listed}
use Rattle.spv_normal.specs.Normal.{normal_function}
use Rattle.spv_normal.specs.Lines.{without_marks}
use Rattle.spv_normal_trees.proofs.Listed.{spelled_is_normal}
use Rattle.spv_tree.specs.Branches.{branches_in}
use Rattle.spv_tree.specs.Tree.{words_of}
use Rattle.spv_spelling.specs.Clean.{no_pointers}
use Rattle.spv_spelling.specs.Spelling.{SpellsFunction}
use Rattle.spv_spelling.specs.Whole.{AreInstructions, AreShort, IsAdmitted, IsText}
use Rattle.spv_structured.specs.Structured.{ArmsFit, FrontFits, IsStructured, ParameterFits, ParametersFit}
use Rattle.spv_structured.proofs.Unbroken.{structured_is_unbroken}
use Rattle.spv_respelling.proofs.Admitted.{listing_clean, listing_labels}
use Rattle.spv_respelling.proofs.Inside.{listing_text, no_marks}
use Rattle.spv_respelling.proofs.Whole.{normal_is_spelled}
use Rattle.spv_fine.specs.Laws.{stay}
use Rattle.spv_parse.specs.Functions.{IsTooDeep}
use Rattle.spv_functions.specs.Functions.{is_pointer}
use Rattle.spv_norm_structured.proofs.Depths.{no_deeper, tree_depth}
use Rattle.spv_walk.specs.Walk.{Walk}
use Rattle.spv_built.specs.Built.{FunctionIsBuilt, IsShort}

-- ---- where types that are pointers are told, and where they are not

parameters_without : (points : ℕ → Bool) (here : List Branching) (ps : List Parameter) → AllByRecursion (ParameterFits points here) ps
    → AllByRecursion (ParameterFits no_pointers here) ps
parameters_without points here [] h = tt
parameters_without points here (p ∷ ps) h = (record { value = refl; named = h.0.named }, parameters_without points here ps h.1)

front_without : (points : ℕ → Bool) (all : List Branching) (front : Front) → FrontFits points all front → FrontFits no_pointers all front
front_without points all front h = parameters_without points (arriving front.label all) front.parameters h

mutual
  body_without : (points : ℕ → Bool) (all : List Branching) (b : Body) → ParametersFit points all b → ParametersFit no_pointers all b
  body_without points all (Leaves exit) h = tt
  body_without points all (Finishes words) h = tt
  body_without points all (Step words body) h = body_without points all body h
  body_without points all (Enters label body) h = body_without points all body h
  body_without points all (Splits condition on exit body) h = body_without points all body h
  body_without points all (Selects control condition first second merge rest) h =
      (front_without points all merge h.0, body_without points all first h.1, body_without points all second h.2, body_without points all rest h.3)
  body_without points all (Switches control selector cases arms merge rest) h =
      (front_without points all merge h.0, arms_without points all arms h.1, body_without points all rest h.2)
  body_without points all (Loops entry header control inner next continuing merge rest) h = (
    front_without points all header h.0,
    front_without points all next h.1,
    front_without points all merge h.2,
    body_without points all inner h.3,
    body_without points all continuing h.4,
    body_without points all rest h.5,
  )

  arms_without : (points : ℕ → Bool) (all : List Branching) (arms : Arms) → ArmsFit points all arms → ArmsFit no_pointers all arms
  arms_without points all (Last arm) h = body_without points all arm h
  arms_without points all (Also arm arms) h = (body_without points all arm h.0, arms_without points all arms h.1)

pub without_pointers : (points : ℕ → Bool) (f : Function) → IsStructured points f → IsStructured no_pointers f
without_pointers points f h = record { flows = h.flows; parameters = body_without points (branches_in f) f.body h.parameters; arms = h.arms }

-- ---- word counts

short_by_words : (is : List Instruction) (lines : List (List ℕ)) → words_of is ≡ lines → AllByRecursion IsShort lines → AreShort is
short_by_words [] lines e h k i at = absurd (cc at)
short_by_words (x ∷ xs) [] e h k i at = absurd (cc e)
short_by_words (x ∷ xs) (w ∷ ws) e h zero i at =
    let here : x ≡ i = cc at in
    let words : x.words ≡ w = cc e in
    subst (λ (j : Instruction). length j.words ≤ 65535) here (subst IsShort (sym words) h.0)
short_by_words (x ∷ xs) (w ∷ ws) e h (suc k) i at = let later : words_of xs ≡ ws = cc e in short_by_words xs ws later h.1 k i at

-- ---- the listing of a function

too_deep : (a b : ℕ) → a ≤ b → b ≤ 255 → 255 < a → ⊥
too_deep a b h low above = omega (arith, h, low, above)

module _ (insts t : List Instruction) (f : Function) (built : FunctionIsBuilt insts f) (lists : words_of t ≡ listed f) (formed : AreInstructions t) where
  pub plain : IsStructured no_pointers f
  plain = without_pointers (is_pointer insts) f built.structured

  pub text : IsText t
  text = listing_text f t built.sound built.opens lists

  pub spells : SpellsFunction t stay f
  spells = normal_is_spelled f t built.sound built.opens plain built.normal lists

  pub admitted : IsAdmitted t
  admitted = record {
    text = text;
    each = formed;
    short = short_by_words t (listed f) lists built.short;
    own = listing_labels f t built.sound built.opens plain lists;
    clean = listing_clean f t built.sound built.opens plain lists;
  }

  pub unbroken : (rule at : ℕ) → Broken (is_pointer insts) (blocks_of t) rule at → ⊥
  unbroken = structured_is_unbroken f t (is_pointer insts) built.sound built.opens built.structured lists

  pub shallow : IsTooDeep (is_pointer insts) t → ⊥
  shallow deep =
      too_deep deep.depth (depth f.body)
      (no_deeper (blocks_of t) (Walk (blocks_of t)) deep.depth (depth f.body) deep.nested.greatest (tree_depth t stay f admitted spells)) built.shallow deep.above

  -- it is its own normal form
  pub normal_stays : normal_function t ≡ words_of t
  normal_stays =
      let bare : without_marks t ≡ t = no_marks t text in
      sym (spelled_is_normal t stay f (subst IsAdmitted (sym bare) admitted) (subst (λ (z : List Instruction). SpellsFunction z stay f) (sym bare) spells)) ∙ sym lists
