-- What a typed function uses besides what its steps use are values: conditions, selectors, what branches carry, and what is returned.
use Rattle.std.proofs.Common.{◌≡◌, ◌⊎◌, inl, inr, ℕ, suc, Bool, true, false, ◌==◌, List, [], ◌∷◌, ◌++◌, length, Ok, refl, sym, ap, subst, ◌∙◌, eqb-true, eq-eqb, true≢false}
use Rattle.std.specs.Prelude.{map}
use Rattle.std.specs.List.{AllByRecursion, filter, zip}
use Rattle.spv_opcodes.specs.declared.op.TheConstants as op
use Rattle.spv_grammar.specs.declared.kind.Role.{Role}
use Rattle.spv_grammar.specs.declared.kind.Role.TheVariants.{Opcode}
use Rattle.spv_grammar.specs.Operands.{behind, body_roles, opcode_of, roles_of}
use Rattle.spv_grammar.specs.Table.{row_of}
use Rattle.spv_module.specs.Instruction.{Instruction, IsInstruction, parts, roles}
use Rattle.spv_ids.specs.Ids.{is_needed}
use Rattle.spv_values.specs.Values.{is_bools, is_ints, is_value_of}
use Rattle.spv_usage.specs.declared.stages.Stage.{Stage}
use Rattle.spv_usage.specs.declared.stages.Stage.TheVariants.{Further}
use Rattle.spv_usage.specs.Stages.{stage_behind}
use Rattle.spv_bodies.specs.Bodies.{Exit, Entry, Front, Parameter, Body, Leaves, Finishes, Step, Enters, Splits, Selects, Switches, Loops, Arms, Last, Also, ByBranch, InPlace}
use Rattle.spv_bodies.specs.Listing.{Branching, arriving, branches, branches_of_arms, entering}
use Rattle.spv_tree.specs.Fronts.{CarriesAll, IsFilled}
use Rattle.spv_tree.specs.Sound.{AreFormed, IsFormed, is_end, opcode_in}
use Rattle.spv_editing.specs.Showing.{Shown, AStep, AUse, carried, operands, shown, shown_in_arms, uses}
use Rattle.spv_fine.specs.Fine.{used_in}
use Rattle.spv_fine_edits.proofs.Lists.{one_or}
use Rattle.spv_trees.specs.Standing.{OneOf}
use Rattle.spv_trees.proofs.Members.{one_left, one_right}
use Rattle.spv_structured.proofs.Lists.{all_at, filter_in}
use Rattle.spv_typed_trees.specs.Typed.{ArmsTyped, Begins, Carries, Sends, Typed, as_instruction}
use Rattle.spv_respelling.proofs.EachLine.{OfArms, OfSteps}
use Rattle.spv_built_edits.proofs.KeptSteps.{all_join}

-- ---- what the end of a function uses

abbrev picked : List Role → List ℕ → List ℕ
picked rs ws = map (λ part. part.1) (filter (λ part. is_needed part.0) (zip rs ws))

module _ (P : ℕ → Type 0) (head : ℕ) where
  -- where an instruction of the opcode has its parts, and what it uses passes, so do its words
  abbrev Passes : (opcode : ℕ) → List ℕ → Type 0
  Passes opcode ids =
      (rs : List Role) → behind (Opcode ∷ []) (body_roles opcode ids) ≡ Ok rs
      → AllByRecursion P (picked (parts (behind (Opcode ∷ []) (body_roles opcode ids))) (head ∷ ids)) → AllByRecursion P ids

  return_passes : (ids : List ℕ) → Passes op.RETURN ids
  unfolding row_of
  return_passes [] rs e h = tt
  return_passes (x ∷ xs) rs e h = absurd (cc e)

  unreachable_passes : (ids : List ℕ) → Passes op.UNREACHABLE ids
  unfolding row_of
  unreachable_passes [] rs e h = tt
  unreachable_passes (x ∷ xs) rs e h = absurd (cc e)

  value_passes : (ids : List ℕ) → Passes op.RETURN_VALUE ids
  unfolding row_of
  value_passes [] rs e h = tt
  value_passes (x ∷ []) rs e h = h
  value_passes (x ∷ y ∷ ys) rs e h = absurd (cc e)

  end_passes : (opcode : ℕ) (ids : List ℕ) → is_end opcode ≡ true → Passes opcode ids
  end_passes opcode ids e = elim (one_or (opcode == op.RETURN) _ e) [
    | inl a ↦ subst (λ n. Passes n ids) (sym (eqb-true opcode op.RETURN a)) (return_passes ids)
    | inr b ↦ elim (one_or (opcode == op.RETURN_VALUE) _ b) [
      | inl a ↦ subst (λ n. Passes n ids) (sym (eqb-true opcode op.RETURN_VALUE a)) (value_passes ids)
      | inr c ↦ elim (one_or (opcode == op.UNREACHABLE) _ c) [
        | inl a ↦ subst (λ n. Passes n ids) (sym (eqb-true opcode op.UNREACHABLE a)) (unreachable_passes ids)
        | inr d ↦ absurd (true≢false (sym d))
      ]
    ]
  ]

end_uses : (P : ℕ → Type 0) (words : List ℕ) → is_end (opcode_in words) ≡ true → IsInstruction words (roles (as_instruction words))
    → AllByRecursion P (used_in words) → AllByRecursion P (operands words)
unfolding roles_of
end_uses P [] e whole h = tt
end_uses P (head ∷ ids) e whole h = end_passes P head (opcode_of head) ids e (roles (as_instruction (head ∷ ids))) whole.parted h

-- ---- bodies

-- where it is a use, its id passes
abbrev pub OfUse : (P : ℕ → Type 0) → Shown → Type 0
OfUse P (AStep words) = Unit {0}
OfUse P (AUse id) = P id

-- the words of a line are those of an instruction, and what it uses passes
abbrev pub Line : (P : ℕ → Type 0) → List ℕ → Type 0
Line P words = IsInstruction words (roles (as_instruction words)) × AllByRecursion P (used_in words)

module _ (insts : List Instruction) (P : ℕ → Type 0) (values : (t id : ℕ) → is_value_of insts t id ≡ true → P id)
    (bools : (id : ℕ) → is_bools insts 1 id ≡ true → P id) (ints : (id : ℕ) → is_ints insts 1 id ≡ true → P id) (t : ℕ) (all : List Branching) where
  abbrev Us : List Shown → Type 0
  Us xs = AllByRecursion (OfUse P) xs

  join : (xs ys : List Shown) → Us xs → Us ys → Us (xs ++ ys)
  join = all_join (OfUse P)

  all_uses : (ids : List ℕ) → AllByRecursion P ids → Us (uses ids)
  all_uses [] h = tt
  all_uses (id ∷ ids) h = (h.0, all_uses ids h.1)

  -- as many values as parameters
  carry : (ps : List Parameter) (ids : List ℕ) → length ids ≡ length ps → Carries insts ps ids → Us (uses ids)
  carry [] [] e h = tt
  carry [] (id ∷ ids) e h = absurd (cc e)
  carry (p ∷ ps) [] e h = absurd h
  carry (p ∷ ps) (id ∷ ids) e h = let more : length ids ≡ length ps = cc e in (values p.type id h.0, carry ps ids more h.1)

  abbrev Within : List Branching → Type 0
  Within xs = (b : Branching) → OneOf b xs → OneOf b all

  as_many : (l : ℕ) (exit : Exit) (front : Front) → OneOf (l, exit) all → IsFilled all front → exit.target ≡ front.label
      → length exit.values ≡ length front.parameters
  as_many l exit front h filled e =
      all_at (CarriesAll (length front.parameters)) (arriving front.label all) filled.values (l, exit)
      (filter_in (λ branching. branching.1.target == front.label) (l, exit) all h (eq-eqb exit.target front.label e))

  abbrev Scope : List Front → Type 0
  Scope fronts = (front : Front) → OneOf front fronts → IsFilled all front

  scope_on : (front : Front) (fronts : List Front) → IsFilled all front → Scope fronts → Scope (front ∷ fronts)
  scope_on front fronts filled s f (inl e) = subst (IsFilled all) (sym e) filled
  scope_on front fronts filled s f (inr o) = s f o

  send : (l : ℕ) (exit : Exit) (fronts : List Front) → OneOf (l, exit) all → Scope fronts → Sends insts fronts exit → Us (uses exit.values)
  send l exit fronts one s h =
      carry h.front.parameters exit.values (as_many l exit h.front one (s h.front h.in_scope) h.there) h.carries

  begin : (l : ℕ) (header : Front) (entry : Entry) → IsFilled all header → Within (entering l header.label entry) → Begins insts header entry
      → Us (uses (carried entry))
  begin l header (ByBranch ids) filled w h =
      carry header.parameters ids
      (as_many l (record { target = header.label; values = ids }) header (w (l, record { target = header.label; values = ids }) (inl refl)) filled refl) h
  begin l header InPlace filled w h = tt

  finish : (words : List ℕ) → is_end (opcode_in words) ≡ true → Line P words → Us (uses (operands words))
  finish words e line = all_uses (operands words) (end_uses P words e line.0 line.1)

  -- by recursion on the body
  mutual
    pub values_used : (fronts : List Front) (s : Stage) (l : ℕ) (b : Body) → IsFormed all b → Scope fronts → Within (branches l b) → OfSteps (Line P) b
        → Typed insts t fronts s b → Us (shown b)
    values_used fronts s l (Leaves exit) formed scope w ends h = send l exit fronts (w (l, exit) (inl refl)) scope h
    values_used fronts s l (Finishes words) formed scope w ends h = finish words formed ends
    values_used fronts s l (Step words b) formed scope w ends h =
        (tt, values_used fronts (stage_behind s (as_instruction words)) l b formed.1 scope w ends.1 h.1)
    values_used fronts s l (Enters label b) formed scope w ends h = values_used fronts Further label b formed scope w ends h
    values_used fronts s l (Splits condition on exit b) formed scope w ends h = (
      bools condition h.0,
      join (uses exit.values) (shown b) (send l exit fronts (w (l, exit) (inl refl)) scope h.1)
          (values_used fronts Further l b formed.1 scope (λ x o. w x (inr o)) ends h.2),
    )
    values_used fronts s l (Selects control condition first second merge rest) formed scope w ends h =
        let inside : Scope (merge ∷ fronts) = scope_on merge fronts formed.2 scope in
        let xs = branches l first in
        let ys = branches l second in
        let zs = branches merge.label rest in (
          bools condition h.0,
          join (shown first) (shown second ++ shown rest)
              (values_used (merge ∷ fronts) Further l first formed.3 inside (λ x o. w x (one_left x xs (ys ++ zs) o)) ends.0 h.2)
              (join (shown second) (shown rest)
              (values_used (merge ∷ fronts) Further l second formed.4 inside (λ x o. w x (one_right x xs (ys ++ zs) (one_left x ys zs o))) ends.1 h.3)
              (values_used fronts Further merge.label rest formed.5 scope (λ x o. w x (one_right x xs (ys ++ zs) (one_right x ys zs o))) ends.2 h.4)),
        )
    values_used fronts s l (Switches control selector cases arms merge rest) formed scope w ends h =
        let xs = branches_of_arms l arms in
        let zs = branches merge.label rest in (
          ints selector h.0,
          join (shown_in_arms arms) (shown rest)
              (arms_used (merge ∷ fronts) l arms formed.2 (scope_on merge fronts formed.1 scope) (λ x o. w x (one_left x xs zs o)) ends.0 h.2)
              (values_used fronts Further merge.label rest formed.3 scope (λ x o. w x (one_right x xs zs o)) ends.1 h.3),
        )
    values_used fronts s l (Loops entry header control inner next continuing merge rest) formed scope w ends h =
        let es = entering l header.label entry in
        let xs = branches header.label inner in
        let ys = branches next.label continuing in
        let zs = branches merge.label rest in
        let merged : Scope (merge ∷ fronts) = scope_on merge fronts formed.3 scope in
        join (uses (carried entry)) (shown inner ++ (shown continuing ++ shown rest))
        (begin l header entry formed.1 (λ x o. w x (one_left x es (xs ++ (ys ++ zs)) o)) h.0)
        (join (shown inner) (shown continuing ++ shown rest)
        (values_used (next ∷ merge ∷ fronts) Further header.label inner formed.4 (scope_on next (merge ∷ fronts) formed.2 merged)
        (λ x o. w x (one_right x es (xs ++ (ys ++ zs)) (one_left x xs (ys ++ zs) o))) ends.0 h.4)
        (join (shown continuing) (shown rest)
        (values_used (header ∷ merge ∷ fronts) Further next.label continuing formed.5 (scope_on header (merge ∷ fronts) formed.1 merged)
        (λ x o. w x (one_right x es (xs ++ (ys ++ zs)) (one_right x xs (ys ++ zs) (one_left x ys zs o)))) ends.1 h.5)
        (values_used fronts Further merge.label rest formed.6 scope
        (λ x o. w x (one_right x es (xs ++ (ys ++ zs)) (one_right x xs (ys ++ zs) (one_right x ys zs o)))) ends.2 h.6)))

    arms_used : (fronts : List Front) (l : ℕ) (arms : Arms) → AreFormed all arms → Scope fronts → Within (branches_of_arms l arms) → OfArms (Line P) arms
        → ArmsTyped insts t fronts arms → Us (shown_in_arms arms)
    arms_used fronts l (Last b) formed scope w ends h = values_used fronts Further l b formed.1 scope w ends h
    arms_used fronts l (Also b arms) formed scope w ends h =
        let xs = branches l b in
        let ys = branches_of_arms l arms in
        join (shown b) (shown_in_arms arms) (values_used fronts Further l b formed.1 scope (λ x o. w x (one_left x xs ys o)) ends.0 h.0)
        (arms_used fronts l arms formed.2 scope (λ x o. w x (one_right x xs ys o)) ends.1 h.1)
