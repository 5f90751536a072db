-- What is built is a module: each group of rules by its own law.
use Rattle.std.proofs.Common.{◌≡◌, ℕ, ◌<◌, List, [], ◌∷◌, length, Option, None, refl, sym, ap, subst, ◌∙◌}
use Rattle.std.specs.List.{AllByRecursion}
use Rattle.spv_base.specs.declared.fault.Refusal.{Refusal}
use Rattle.spv_module.specs.Broken.{group_1}
use Rattle.spv_module.specs.Code.{Code, code_of, spelling}
use Rattle.spv_module.specs.Decode.{first_in_decode}
use Rattle.spv_module.specs.First.{first, first_group}
use Rattle.spv_module.specs.Instruction.{Instruction, instruction_rules}
use Rattle.spv_module.specs.Layout.{group_2}
use Rattle.spv_bound.specs.Bound.{bound_of_ids}
use Rattle.spv_blocks.specs.Cutting.{function_insts}
use Rattle.spv_walk.specs.Rules.{IsFirst}
use Rattle.spv_bodies.specs.Bodies.{Function}
use Rattle.spv_tree.specs.Tree.{words_of}
use Rattle.spv_spelling.specs.Whole.{AreInstructions}
use Rattle.spv_machine.proofs.Spelling.{AllCounted, spelled_again}
use Rattle.spv_norm_declared.proofs.CutAgain.{group_none}
use Rattle.spv_norm_declared.proofs.Instructions.{Are}
use Rattle.spv_norm_declared.proofs.Whole.{bound_some}
use Rattle.spv_module_rules.specs.Broken.{BrokenInWhole, ManyExits, OfModule}
use Rattle.spv_profile.specs.Profile.{IsInProfile, IsModule}
use Rattle.spv_norm_profile.proofs.Entered.{none_listed}
use Rattle.spv_norm_profile.proofs.Words.{all_counted, same_bound, same_instructions, same_spelling}
use Rattle.spv_built.specs.Built.{IsBuilt}
use Rattle.spv_built.specs.Laws.{BuiltIsModule}
use Rattle.spv_built.proofs.Bodies.{none_broken}
use Rattle.spv_built.proofs.Functions.{are_listed, tree_at}
use Rattle.spv_built.proofs.Normal.{normal_again}
use Rattle.spv_built.proofs.Trees as trees

-- counted instructions that break no rule below a bound
both_are : (bound : ℕ) (is : List Instruction) → AllCounted is → AllByRecursion (λ i. instruction_rules bound i.words ≡ []) is → Are bound is
both_are bound [] counted rules = tt
both_are bound (i ∷ is) counted rules = (record { counted = counted.0; rules = rules.0 }, both_are bound is counted.1 rules.1)

nothing_found : (a b : Option Refusal) → a ≡ None → b ≡ None → first_group a b ≡ None
nothing_found a b h g = ap (λ (o : Option Refusal). first_group o b) h ∙ g

module _ (code : Code) (fs : List Function) (b : IsBuilt code fs) where
  abbrev after : Code
  after = code_of (spelling code)

  abbrev again : List Instruction
  again = after.insts

  -- ---- written as words and read

  counted : AllCounted code.insts
  counted = all_counted code.insts b.unbroken.instructions

  lines_again : words_of again ≡ words_of code.insts
  lines_again = spelled_again code counted

  formed : AreInstructions again
  formed = same_instructions again code.insts lines_again b.unbroken.instructions

  some : 0 < code.header.bound
  some = subst (λ n. 0 < n) (sym b.header.bound) (bound_some code.insts)

  decoded : first_in_decode (spelling code) ≡ None
  decoded =
      nothing_found (first (group_1 (spelling code))) (first (group_2 (length (spelling code)) again))
      (group_none code b.header.version some b.header.within b.header.schema (both_are code.header.bound code.insts counted b.unbroken.rules))
      (b.placed.laid_out (length (spelling code)))

  -- ---- the groups of rules

  whole : IsFirst (BrokenInWhole again) None
  whole = λ rule at h. by rule at h
    where
      by : (rule at : ℕ) → BrokenInWhole again rule at → ⊥
      by rule at (OfModule tests r a are h) = none_listed again tests are b.placed.entered rule at h
      by rule at (ManyExits nested r a together h) = b.placed.uncrowded nested rule at together h

  profile : IsInProfile (spelling code)
  profile = record {
    structured = record {
      front = record {
        front = record { decoded = decoded; declared = b.placed.declared };
        unbroken = λ rule at h.
            let o = tree_at again fs (are_listed again fs b.placed) formed h.function h.is in
            trees.unbroken again (function_insts h.function again) o.function o.built o.lists o.formed rule at h.broken;
      };
      shallow = λ h.
          let o = tree_at again fs (are_listed again fs b.placed) formed h.function h.is in
          trees.shallow again (function_insts h.function again) o.function o.built o.lists o.formed h.deep;
    };
    bodies = none_broken again fs b.placed formed;
    whole = whole;
  }

  -- ---- written again

  spells_same : spelling after ≡ spelling code
  spells_same = same_spelling after code refl lines_again

  header_again : after.header ≡ (record after.header { bound = bound_of_ids again })
  header_again = ap (λ (n : ℕ). record after.header { bound = n }) (b.header.bound ∙ sym (same_bound again code.insts lines_again))

  is_module : IsModule after
  is_module = record {
    placed = ap code_of spells_same;
    profile = subst IsInProfile (sym spells_same) profile;
    normal = record { lines = sym (normal_again again fs b.placed formed); header = header_again };
  }

pub built_is_module : BuiltIsModule
built_is_module code fs b = is_module code fs b
