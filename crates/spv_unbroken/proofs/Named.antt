-- Where all arms are named there is none that no case names: so what is unbroken with them is an unbroken tree.
use Rattle.std.proofs.Common.{◌≡◌, ℕ, inl, inr, true, false, not, List, ap}
use Rattle.std.specs.List.{AllByRecursion}
use Rattle.spv_blocks.specs.Blocks.{Switch, end_targets, has}
use Rattle.spv_walk.proofs.Unique.{truth_apart}
use Rattle.spv_bodies.specs.Bodies.{Body, Leaves, Finishes, Step, Enters, Splits, Selects, Switches, Loops, Arms, Last, Also, target}
use Rattle.spv_bodies.specs.Listing.{Branching, first_target}
use Rattle.spv_tree.specs.Branches.{branches_in}
use Rattle.spv_tree.specs.Sound.{IsFormed, AreFormed, IsSwitch, targets}
use Rattle.spv_trees.specs.Standing.{OneOf}
use Rattle.spv_structured.specs.Structured.{NamesArms, NamesInArms, are_named}
use Rattle.spv_structured.proofs.Lists.{filter_from, list_all_at}
use Rattle.spv_unbroken.specs.Pruned.{EachUnseen, EachUnseenIn, is_loop, is_named, arm_list, behind_default, unseen}
use Rattle.spv_unbroken.specs.Laws.{NamedIsUnbrokenTree}
use Rattle.spv_unbroken.proofs.Survey.{hidden_arm, each_of, behind_in}

target_in : (arms : Arms) (arm : Body) → OneOf arm (arm_list arms) → OneOf (target arm) (targets arms)
target_in (Last a) arm (inl e) = inl (ap target e)
target_in (Last a) arm (inr h) = absurd h
target_in (Also a arms) arm (inl e) = inl (ap target e)
target_in (Also a arms) arm (inr h) = inr (target_in arms arm h)

module _ (P : Body → Type 0) (all : List Branching) where
  none_here : (cases : List (ℕ × ℕ)) (arms : Arms) → IsSwitch cases arms → are_named arms cases ≡ true
      → AllByRecursion P (unseen cases arms)
  none_here cases arms s named =
      each_of P (unseen cases arms)
      (λ arm h.
      let member = behind_in arms arm (filter_from (λ a. not (is_named cases a)) arm (behind_default arms) h).0 in
      absurd (truth_apart (has (end_targets (Switch (first_target arms) cases)) (target arm))
      (list_all_at (has (end_targets (Switch (first_target arms) cases))) (targets arms) named (target arm) (target_in arms arm member))
      (hidden_arm cases arms arm s.distinct h)))

  mutual
    none_unseen : (b : Body) → IsFormed all b → NamesArms b → EachUnseen P b
    none_unseen (Leaves exit) p n = tt
    none_unseen (Finishes words) p n = tt
    none_unseen (Step words b) p n = none_unseen b p.1 n
    none_unseen (Enters label b) p n = none_unseen b p n
    none_unseen (Splits condition on exit b) p n = none_unseen b p.1 n
    none_unseen (Selects control condition first second merge rest) p n =
        (none_unseen first p.3 n.0, none_unseen second p.4 n.1, none_unseen rest p.5 n.2)
    none_unseen (Switches control selector cases arms merge rest) p n = (none_here cases arms p.0 n.0, none_unseen_in arms p.2 n.1, none_unseen rest p.3 n.2)
    none_unseen (Loops entry header control inner next continuing merge rest) p n =
        (none_unseen inner p.4 n.0, none_unseen continuing p.5 n.1, none_unseen rest p.6 n.2)

    none_unseen_in : (arms : Arms) → AreFormed all arms → NamesInArms arms → EachUnseenIn P arms
    none_unseen_in (Last arm) p n = none_unseen arm p.1 n
    none_unseen_in (Also arm arms) p n = (none_unseen arm p.1 n.0, none_unseen_in arms p.2 n.1)

pub named_is_tree : NamedIsUnbrokenTree
named_is_tree is_pointer r f insts u = record {
  sound = u.sound;
  opens = u.opens;
  loops = inl (none_unseen (λ arm. is_loop arm ≡ false) (branches_in f) f.body u.sound.formed u.arms);
  function = u.function;
  parameters = u.parameters;
  words = u.words;
  none = u.none;
}
