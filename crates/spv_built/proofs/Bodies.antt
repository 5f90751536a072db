-- The rules on the instructions of functions, 501 to 507: none is broken in a module that is built.
use Rattle.std.proofs.Common.{◌≡◌, inl, inr, ℕ, ◌+◌, Bool, true, false, cond, not, ◌&&◌, List, [], ◌++◌, length, Some, None, sym, ap, ◌∙◌, subst, arith}
use Rattle.std.specs.List.{Contains, slice_get}
use Rattle.spv_module.specs.Code.{is_line}
use Rattle.spv_module.specs.Instruction.{Instruction}
use Rattle.spv_walk.specs.Rules.{IsFirst}
use Rattle.spv_bodies.specs.Bodies.{Function}
use Rattle.spv_spelling.specs.Whole.{AreInstructions}
use Rattle.spv_texts.specs.Laws.{DefinesOnce}
use Rattle.spv_texts.proofs.Labels.{unbroken_defines_once}
use Rattle.spv_body_rules.specs.Broken.{body_rules, is_of_functions, rules_in_functions}
use Rattle.spv_typed_trees.specs.Typed.{IsTyped}
use Rattle.spv_typed_trees.proofs.Whole.{typed_is_unbroken}
use Rattle.spv_availability.specs.Availability.{AreAvailable}
use Rattle.spv_fine.specs.Fine.{IsFine}
use Rattle.spv_fine.specs.Laws.{IsKnown, Told}
use Rattle.spv_fine.proofs.Modules.{fine_is_available}
use Rattle.spv_check.specs.Broken.{Breaks, BrokenInBodies, Listed, NotAvailable}
use Rattle.spv_built.specs.Built.{AreBuilt}
use Rattle.spv_built.proofs.Functions.{AreListed, IsOfTree, Located, are_listed, begun, known, locate, pieces}
use Rattle.spv_built.proofs.Trees as trees

-- what stands before the first function breaks none
no_function : (a l : Bool) → a ≡ false → (a && l) ≡ false
no_function a l h = ap (λ (b : Bool). b && l) h

outside_fits : (insts : List Instruction) (k : ℕ) (i : Instruction) → begun insts k i ≡ false → body_rules insts k i ≡ []
unfolding body_rules
outside_fits insts k i h = ap (λ (b : Bool). cond b (rules_in_functions insts k i) []) (no_function (begun insts k i) (not (is_line i)) h)

none_contained : (rules : List ℕ) (rule : ℕ) → rules ≡ [] → Contains rules rule → ⊥
none_contained rules rule e c = nothing (subst (λ z. Contains z rule) e c) where
  nothing : Contains [] rule → ⊥
  nothing (k, within, is) = absurd (omega arith)

module _ (insts : List Instruction) (fs : List Function) (b : AreBuilt insts fs) (formed : AreInstructions insts) where
  listing : AreListed insts fs
  listing = are_listed insts fs b

  once : DefinesOnce insts
  once = unbroken_defines_once insts b.declared

  module _ (k : ℕ) (i : Instruction) (l : Located insts (pieces insts fs listing formed).texts k i) where
    of_tree : IsOfTree insts fs l.number l.text
    of_tree = known insts fs listing formed l.number l.text l.is_text

    abbrev parted : List Instruction
    parted = l.before ++ (l.text ++ l.after)

    fits_inside : body_rules insts k i ≡ []
    fits_inside =
        let o = of_tree in
        let there : body_rules parted (length l.before + l.place) i ≡ [] =
        typed_is_unbroken l.before l.text l.after o.function (record {
          sound = o.built.sound;
          opens = o.built.opens;
          structured = trees.plain insts l.text o.function o.built o.lists o.formed;
          lists = o.lists;
        }) (subst (λ (z : List Instruction). IsTyped z o.function) l.same o.built.typed) l.place i l.at in
        ap (λ (z : List Instruction). body_rules z k i) l.same ∙ ap (λ m. body_rules parted m i) l.counted ∙ there

    available_inside : AreAvailable insts k i
    available_inside =
        let o = of_tree in
        let there : AreAvailable parted (length l.before + l.place) i =
        fine_is_available l.before l.text l.after o.function o.built.promised (subst DefinesOnce l.same once)
        (trees.admitted insts l.text o.function o.built o.lists o.formed) (trees.spells insts l.text o.function o.built o.lists o.formed) o.lists
        (subst (λ (z : List Instruction). IsFine (IsKnown z) (λ label. Told (o.built.promised label)) o.function) l.same o.built.fine) l.place i l.at in
        subst (λ (z : List Instruction). AreAvailable z k i) (sym l.same) (subst (λ m. AreAvailable parted m i) (sym l.counted) there)

  each_fits : (k : ℕ) (i : Instruction) → slice_get insts k ≡ Some i → body_rules insts k i ≡ []
  each_fits k i at = elim (locate insts fs listing formed k i at) [ inl none ↦ outside_fits insts k i none | inr l ↦ fits_inside k i l ]

  each_available : (k : ℕ) (i : Instruction) → slice_get insts k ≡ Some i → is_of_functions insts k i ≡ true → AreAvailable insts k i
  each_available k i at inside = elim (locate insts fs listing formed k i at) [
    | inl none ↦ absurd (let outside : is_of_functions insts k i ≡ false = no_function (begun insts k i) (not (is_line i)) none in cc (inside, outside))
    | inr l ↦ available_inside k i l
  ]

  breaks_none : (k : ℕ) (i : Instruction) → slice_get insts k ≡ Some i → (rule : ℕ) → Breaks insts k i rule → ⊥
  breaks_none k i at rule (Listed r h) = none_contained (body_rules insts k i) rule (each_fits k i at) h
  breaks_none k i at rule (NotAvailable inside u) = u.missing.missing (each_available k i at inside u.missing.u u.missing.is_used)

  pub none_broken : IsFirst (BrokenInBodies insts) None
  none_broken = λ rule at h. breaks_none h.k h.i h.is rule h.broken
