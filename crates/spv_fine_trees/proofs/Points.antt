-- What is available at points of a function, and how it goes on: behind lines, along a way, and behind the front of a block.
use Rattle.std.proofs.Common.{◌≡◌, ◌⊎◌, inl, inr, ℕ, Bool, true, false, cond, List, [], ◌∷◌, ◌++◌, map, slice_index, refl, sym, ap, subst, ◌∙◌}
use Rattle.std.specs.List.{AllByRecursion}
use Rattle.std.proofs.lemmas.Bool.Decides.{eqb_tells}
use Rattle.graph.proofs.Elements.{contains_cases, contains_none}
use Rattle.spv_module.specs.Instruction.{Instruction}
use Rattle.spv_blocks.specs.Blocks.{Code, has as among, is_first}
use Rattle.spv_blocks.specs.Cutting.{blocks_of}
use Rattle.spv_walk.proofs.Unique.{truth_apart}
use Rattle.spv_bodies.specs.Bodies.{Parameter}
use Rattle.spv_tree.specs.Sound.{is_step, opcode_in}
use Rattle.spv_trees.specs.Standing.{OneOf}
use Rattle.spv_structured.proofs.Lists.{one_has, one_map, one_split}
use Rattle.spv_normal_trees.proofs.Grown.{step_no_phi}
use Rattle.spv_spelling.specs.Text.{front_of, is_phi, parameter_of, phis, text}
use Rattle.spv_ways.specs.Ways as ways
use Rattle.spv_ways.specs.Ways.{AllPass, Follows, Way}
use Rattle.spv_fine.specs.Fine.{AtFront, Headed, Ids, With, defined_in, results}
use Rattle.spv_fine_trees.specs.There.{IsDefinedBy, IsPromised, IsThere}

-- ---- lists

pub each_of : (P : ℕ → Type 0) (xs : List ℕ) → ((x : ℕ) → OneOf x xs → P x) → AllByRecursion P xs
each_of P [] h = tt
each_of P (x ∷ xs) h = (h x (inl refl), each_of P xs (λ y o. h y (inr o)))

-- ---- what stands in front is an OpPhi

phi_here : (x : List ℕ) (rest more : List (List ℕ)) (phi : List ℕ) (b : Bool) → is_phi x ≡ b
    → OneOf phi (cond b (x ∷ rest) [])
    → (OneOf phi rest → OneOf phi more × (is_phi phi ≡ true)) → OneOf phi (x ∷ more) × (is_phi phi ≡ true)
phi_here x rest more phi true e (inl same) later = (inl same, ap is_phi same ∙ e)
phi_here x rest more phi true e (inr o) later = let r = later o in (inr r.0, r.1)
phi_here x rest more phi false e o later = absurd o

pub phi_in : (lines : List (List ℕ)) (phi : List ℕ) → OneOf phi (phis lines) → OneOf phi lines × (is_phi phi ≡ true)
phi_in [] phi o = absurd o
phi_in (x ∷ xs) phi o = phi_here x (phis xs) xs phi (is_phi x) refl o (phi_in xs phi)

-- ---- lines that define nothing

pub record Silent (words : List ℕ) : Type 0 where
  pub step : is_step (opcode_in words) ≡ false
  pub phi : is_phi words ≡ false

module _ (insts : List Instruction) (Free : Ids) where
  abbrev g : Code
  g = blocks_of insts

  abbrev pub At : (l : ℕ) (front : List (List ℕ)) → Ids
  At l front = IsThere insts Free l front

  abbrev pub Ends : ℕ → Ids
  Ends l = IsThere insts Free l (text insts l)

  -- what is available there is so in the tree
  abbrev pub Has : Ids → (l : ℕ) → (front : List (List ℕ)) → Type 0
  Has E l front = (id : ℕ) → At l front id → E id

  abbrev pub HasEnd : Ids → (l : ℕ) → Type 0
  HasEnd E l = (id : ℕ) → Ends l id → E id

  -- ---- behind a line

  line_split : {X : Type 0} (x y : X) (xs : List X) → OneOf x (xs ++ y ∷ []) → OneOf x xs ⊎ (x ≡ y)
  line_split x y xs o = elim (one_split x xs (y ∷ []) o) [ inl h ↦ inl h | inr h ↦ elim h [ inl e ↦ inr e | inr none ↦ absurd none ] ]

  pushed : (E F : Ids) (l : ℕ) (front : List (List ℕ)) (words : List ℕ) → Has E l front → ((id : ℕ) → E id → F id)
      → ((id : ℕ) → (d : IsDefinedBy (front ++ words ∷ []) id) → d.line ≡ words → F id) → Has F l (front ++ words ∷ [])
  pushed E F l front words has more new id (inl free) = more id (has id (inl free))
  pushed E F l front words has more new id (inr (inl p)) = more id (has id (inr (inl p)))
  pushed E F l front words has more new id (inr (inr d)) = elim (line_split d.line words front d.stands) [
    | inl o ↦ more id (has id (inr (inr (record { line = d.line; stands = o; defines = d.defines }))))
    | inr e ↦ new id d e
  ]

  pub behind_step : (E : Ids) (l : ℕ) (front : List (List ℕ)) (words : List ℕ) → is_step (opcode_in words) ≡ true → Has E l front
      → Has (With E (defined_in words)) l (front ++ words ∷ [])
  behind_step E l front words step has =
      pushed E (With E (defined_in words)) l front words has (λ id h. inl h) (λ id d e. inr (by id d.line e d.defines))
    where
      by : (id : ℕ) (line : List ℕ) → line ≡ words
          → ((is_step (opcode_in line) ≡ true) × (among (defined_in line) id ≡ true)) ⊎ ((is_phi line ≡ true) × (slice_index line 2 ≡ id))
          → among (defined_in words) id ≡ true
      by id line e (inl h) = subst (λ w. among (defined_in w) id ≡ true) e h.1
      by id line e (inr h) = truth_apart (is_phi words) (ap is_phi (sym e) ∙ h.0) (step_no_phi (opcode_in words) step)

  pub behind_phi : (E : Ids) (new : List ℕ) (l : ℕ) (front : List (List ℕ)) (words : List ℕ) → is_phi words ≡ true
      → among new (slice_index words 2) ≡ true
      → Has E l front → Has (With E new) l (front ++ words ∷ [])
  behind_phi E new l front words phi result has =
      pushed E (With E new) l front words has (λ id h. inl h) (λ id d e. inr (by id d.line e d.defines))
    where
      by : (id : ℕ) (line : List ℕ) → line ≡ words
          → ((is_step (opcode_in line) ≡ true) × (among (defined_in line) id ≡ true)) ⊎ ((is_phi line ≡ true) × (slice_index line 2 ≡ id))
          → among new id ≡ true
      by id line e (inl h) = truth_apart (is_phi words) phi (step_no_phi (opcode_in words) (ap (λ w. is_step (opcode_in w)) (sym e) ∙ h.0))
      by id line e (inr h) =
          subst (λ x. among new x ≡ true) (ap (λ w. slice_index w 2) (sym e) ∙ h.1) result

  pub behind_silent : (E : Ids) (l : ℕ) (front : List (List ℕ)) (words : List ℕ) → Silent words → Has E l front → Has E l (front ++ words ∷ [])
  behind_silent E l front words s has = pushed E E l front words has (λ id h. h) (λ id d e. by id d.line e d.defines)
    where
      by : (id : ℕ) (line : List ℕ) → line ≡ words
          → ((is_step (opcode_in line) ≡ true) × (among (defined_in line) id ≡ true)) ⊎ ((is_phi line ≡ true) × (slice_index line 2 ≡ id))
          → E id
      by id line e (inl h) = truth_apart (is_step (opcode_in words)) (ap (λ w. is_step (opcode_in w)) (sym e) ∙ h.0) s.step
      by id line e (inr h) = truth_apart (is_phi words) (ap is_phi (sym e) ∙ h.0) s.phi

  -- the whole block
  pub at_the_end : (E : Ids) (l : ℕ) (front : List (List ℕ)) → text insts l ≡ front → Has E l front → HasEnd E l
  at_the_end E l front e has id h = has id (subst (λ z. IsThere insts Free l z id) e h)

  -- ---- along a way

  -- what every way to t has passed is l or what every way to l has passed
  follows_back : (l t d : ℕ) → Follows g l t → AllPass g d t → (d ≡ l) ⊎ AllPass g d l
  follows_back l t d s all = elim (eqb_tells d l) [
    | inl (e, same) ↦ inl same
    | inr (e, other) ↦ inr (λ passed w. elim (contains_cases passed l d (all (l ∷ passed) (ways.Onward w s))) [
      | inl x ↦ absurd (other x)
      | inr h ↦ h
    ])
  ]

  pub promise_back : (l t id : ℕ) → Follows g l t → IsPromised insts t id → Ends l id
  promise_back l t id s p = elim (follows_back l t p.block s p.passed) [
    | inl same ↦ inr (inr (record {
      line = p.defined.line;
      stands = subst (λ j. OneOf p.defined.line (text insts j)) same p.defined.stands;
      defines = p.defined.defines;
    }))
    | inr all ↦ inr (inl (record { block = p.block; passed = all; defined = p.defined }))
  ]

  start_back : (l t id : ℕ) → Follows g l t → At t [] id → Ends l id
  start_back l t id s (inl free) = inl free
  start_back l t id s (inr (inl p)) = promise_back l t id s p
  start_back l t id s (inr (inr d)) = absurd d.stands

  -- where the block l goes on to t, what is available at t was so at the end of l
  pub onto : (E : Ids) (l t : ℕ) → Follows g l t → HasEnd E l → Has E t []
  onto E l t s has id h = has id (start_back l t id s h)

  -- no way to the first block has passed any
  pub at_first : (E : Ids) (l : ℕ) → is_first g l ≡ true → ((id : ℕ) → Free id → E id) → Has E l []
  at_first E l first free id (inl f) = free id f
  at_first E l first free id (inr (inl p)) = absurd (contains_none p.block (p.passed [] (ways.Begins first)))
  at_first E l first free id (inr (inr d)) = absurd d.stands

  -- ---- behind the front of a block

  result_here : (stays : ℕ → ℕ) (l : ℕ) (words : List ℕ) → OneOf words (phis (text insts l))
      → among (results (front_of insts stays l)) (slice_index words 2) ≡ true
  result_here stays l words o =
      one_has (results (front_of insts stays l)) (slice_index words 2)
      (one_map (λ (p : Parameter). p.result_id) (map (parameter_of stays) (phis (text insts l))) (parameter_of stays words)
      (one_map (parameter_of stays) (phis (text insts l)) words o))

  defined_front : (stays : ℕ → ℕ) (l id : ℕ) → IsDefinedBy (phis (text insts l)) id
      → among (results (front_of insts stays l)) id ≡ true
  defined_front stays l id d = by d.defines
    where
      by : ((is_step (opcode_in d.line) ≡ true) × (among (defined_in d.line) id ≡ true))
          ⊎ ((is_phi d.line ≡ true) × (slice_index d.line 2 ≡ id)) → among (results (front_of insts stays l)) id ≡ true
      by (inl h) = truth_apart (is_phi d.line) (phi_in (text insts l) d.line d.stands).1 (step_no_phi (opcode_in d.line) h.0)
      by (inr h) = subst (λ x. among (results (front_of insts stays l)) x ≡ true) h.1 (result_here stays l d.line d.stands)

  -- of a loop's header
  pub behind_header : (stays : ℕ → ℕ) (E : Ids) (h : ℕ) → Has E h [] → Has (Headed E (front_of insts stays h)) h (phis (text insts h))
  behind_header stays E h has id (inl free) = inl (has id (inl free))
  behind_header stays E h has id (inr (inl p)) = inl (has id (inr (inl p)))
  behind_header stays E h has id (inr (inr d)) = inr (defined_front stays h id d)

  -- of a merge block or continue target
  pub behind_front : (stays : ℕ → ℕ) (E : Ids) (m : ℕ) → ((id : ℕ) → Free id → E id)
      → Has (AtFront (IsPromised insts) E (front_of insts stays m)) m (phis (text insts m))
  behind_front stays E m free id (inl f) = inl (inl (free id f))
  behind_front stays E m free id (inr (inl p)) = inl (inr p)
  behind_front stays E m free id (inr (inr d)) = inr (defined_front stays m id d)
