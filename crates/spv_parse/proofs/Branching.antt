-- How a block goes on without a merge instruction.
use Rattle.std.proofs.Common.{◌≡◌, ◌⊎◌, inl, inr, ℕ, Bool, true, false, not, ◌==◌, cond, List, [], ◌∷◌, ◌++◌, Option, Some, None, refl, sym, ap, subst, ◌∙◌}
use Rattle.spv_module.specs.First.{unless}
use Rattle.spv_blocks.specs.Blocks.{ALoop, Branch, BranchIf, End, Code, block, branches, construct, end_targets, has, of_block, Open}
use Rattle.spv_walk.specs.Contexts.{behind, is_exit}
use Rattle.spv_walk.specs.Faults.{end_rules, has_exit, splits_header}
use Rattle.spv_walk.specs.Walk.{end_of}
use Rattle.spv_walk.proofs.Unique.{tells, either_holds, right_holds, left_holds, true_equal}
use Rattle.spv_bodies.specs.Bodies.{Body, Leaves, Splits, Enters}
use Rattle.spv_bodies.specs.Listing.{branch_line}
use Rattle.spv_spelling.specs.Spelling.{Goes, SpellsExit, Spells, SpellsBranch, SpellsArm, joined, branches as branching, splits, out}
use Rattle.spv_spelling.specs.Text.{Take, behind_phis, copies, phis, text}
use Rattle.spv_tree.specs.declared.body.End.TheVariants as end
use Rattle.spv_tree.specs.declared.body.Entry.TheVariants as entry
use Rattle.spv_tree.specs.declared.body.Exit.{Exit}
use Rattle.spv_tree.specs.declared.body.Item.{Item}
use Rattle.spv_tree.specs.declared.body.Item as item
use Rattle.spv_tree.specs.declared.body.Next.TheVariants as next
use Rattle.spv_tree.specs.declared.body.Split.{Split}
use Rattle.spv_tree.specs.Tree.{end_body, exit_of, going_on, item_then, items_then}
use Rattle.spv_tree.proofs.Equations.{then_push, then_split}
use Rattle.spv_sources.specs.declared.close.Close.TheVariants as close
use Rattle.spv_sources.specs.declared.close.Fork.{Fork}
use Rattle.spv_sources.specs.Close.{fork_line}
use Rattle.spv_parse.specs.declared.scene.Scene.{Scene}
use Rattle.spv_parse.specs.declared.state.State.TheVariants as state
use Rattle.spv_parse.specs.declared.state.Parting.{Parting}
use Rattle.spv_parse.specs.Scene.{code_of, context, end_in, insts_of, leaves_in, staying, toward, Stands}
use Rattle.spv_parse.specs.Ways.{IsEntered, IsExit, IsParting, opens_loop}
use Rattle.spv_parse.specs.Ends.{Ends, Leads, Reads, SpellsLines}
use Rattle.spv_parse.proofs.Standing.{settled, end_is}
use Rattle.spv_parse.proofs.Spelled.{entered_front, toward_bare, way_block, way_exit, way_loop}

-- ---- targets of terminators

block_targets : (o : Option _) → of_block (λ b. end_targets b.end) [] o ≡ end_targets (of_block (λ b. b.end) Open o)
block_targets None = refl
block_targets (Some b) = refl

pub branches_by_end : (f : Code) (l t : ℕ) (e : End) → end_of f l ≡ e → has (end_targets e) t ≡ true → branches f l t ≡ true
branches_by_end f l t e is h = ap (λ ts. has ts t) (block_targets (block f l) ∙ ap end_targets is) ∙ h

pub first_has : (t : ℕ) (ts : List ℕ) → has (t ∷ ts) t ≡ true
first_has t ts = left_holds (t == t) (has ts t) (true_equal t t refl)

pub second_has : (x t : ℕ) (ts : List ℕ) → has (x ∷ t ∷ ts) t ≡ true
second_has x t ts = right_holds (x == t) (has (t ∷ ts) t) (first_has t ts)

pub branch_to : (s : Scene) (l left t : ℕ) → Reads s l left (close.Branch t) → branches (code_of s) l t ≡ true
branch_to s l left t r = branches_by_end (code_of s) l t (Branch t) r.ends (first_has t [])

-- ---- OpBranch

module _ (s : Scene) (l left t : ℕ) (r : Reads s l left (close.Branch t)) (old new : List Item) where
  bare_branch : (body : Body) → SpellsBranch (insts_of s) (staying s) l (toward s l t) t body → SpellsLines s l (branch_line t ∷ []) body
  bare_branch body spells =
      branching r.opens (subst (λ c. SpellsBranch (insts_of s) (staying s) l c t body) (toward_bare s l t r.opens) spells)

  pub branch_exits : (exit : Exit) → IsExit s l t exit → new ≡ old → Ends (SpellsLines s l (branch_line t ∷ [])) old (items_then new (end_body (end.Exit exit)))
  branch_exits exit e same = record {
    body = Leaves (exit_of exit);
    spells = bare_branch (Leaves (exit_of exit)) (way_exit s l t exit e);
    same = ap (λ z. items_then z (Leaves (exit_of exit))) same;
  }

  pub branch_loops : (values : List ℕ) → IsEntered s l left t → opens_loop s t ≡ true → Take l (phis (text (insts_of s) t)) values → new ≡ old
      → Leads s (SpellsLines s l (branch_line t ∷ [])) left old new (state.Loop t (entry.Branch values))
  branch_loops values e loop takes same = record {
    some = e.next.some;
    stands = (e.next.stands, loop);
    spells = λ rest spells. record {
      body = rest;
      spells = bare_branch rest (way_loop s l left t values rest e takes spells);
      same = ap (λ z. items_then z rest) same;
    };
  }

  pub branch_joins : IsEntered s l left t → opens_loop s t ≡ false
      → ((rest : Body) → items_then new rest ≡ items_then old (copies (phis (text (insts_of s) t)) rest))
      → Leads s (SpellsLines s l (branch_line t ∷ [])) left old new (state.Behind t)
  branch_joins e bare copied = record {
    some = e.next.some;
    stands = (e.next.stands, bare);
    spells = λ rest spells. record {
      body = copies (phis (text (insts_of s) t)) rest;
      spells =
          joined r.opens (subst (λ c. Goes (insts_of s) (staying s) l c t) (toward_bare s l t r.opens) e.goes) (entered_front s l left t e bare)
          (subst (λ c. Spells (insts_of s) (staying s) t c (behind_phis (text (insts_of s) t)) rest) (e.next.same ∙ toward_bare s l t r.opens) spells);
      same = copied rest;
    };
  }

-- ---- OpBranchConditional

pub fork_first : (s : Scene) (l : ℕ) (fork : Fork) → end_in s l ≡ BranchIf fork.first fork.second → branches (code_of s) l fork.first ≡ true
fork_first s l fork e = branches_by_end (code_of s) l fork.first (BranchIf fork.first fork.second) e (first_has fork.first (fork.second ∷ []))

pub fork_second : (s : Scene) (l : ℕ) (fork : Fork) → end_in s l ≡ BranchIf fork.first fork.second → branches (code_of s) l fork.second ≡ true
fork_second s l fork e = branches_by_end (code_of s) l fork.second (BranchIf fork.first fork.second) e (second_has fork.first fork.second [])

-- three rules that are not broken
three_hold : (p q r : Bool) → unless p 407 ++ (unless q 408 ++ unless r 410) ≡ [] → (p ≡ true) × (r ≡ true)
three_hold true true true e = (refl, refl)
three_hold true true false e = absurd (cc (e))
three_hold true false r e = absurd (cc (e))
three_hold false q r e = absurd (cc (e))

-- without a merge instruction one target is an exit
pub bare_exit : (s : Scene) (l left : ℕ) (fork : Fork) → Reads s l left (close.Split fork) → (leaves_in s l fork.first ≡ true) ⊎ (leaves_in s l fork.second ≡ true)
bare_exit s l left fork r =
    let st = r.stands in
    let rules = (settled s l left st).rules in
    let end_eq = sym (end_is s l left st) ∙ r.ends in
    let at_end = ap (λ e. end_rules (construct (code_of s) l) (behind (construct (code_of s) l) l l (context s l)) e) (sym end_eq) ∙ rules in
    let bare = ap (λ k. end_rules k (behind k l l (context s l)) (BranchIf fork.first fork.second)) (sym r.opens) ∙ at_end in
    let one = (three_hold (has_exit None (context s l) fork.first fork.second) (not (fork.first == fork.second)) (splits_header None fork.first fork.second) bare).0 in
    let leaves = λ (t : ℕ) (h : is_exit (context s l) (BranchIf fork.first fork.second) t ≡ true).
    ap (λ c. is_exit c (end_in s l) t) (toward_bare s l t r.opens) ∙ ap (λ e. is_exit (context s l) e t) r.ends ∙ h in
    elim (either_holds (is_exit (context s l) (BranchIf fork.first fork.second) fork.first) (is_exit (context s l) (BranchIf fork.first fork.second) fork.second) one) [
      | inl x ↦ inl (leaves fork.first x)
      | inr x ↦ inr (leaves fork.second x)
    ]

module _ (s : Scene) (l left : ℕ) (fork : Fork) (r : Reads s l left (close.Split fork)) (p : Parting) (parts : IsParting s l fork p) (sp : Split)
    (condition : sp.condition ≡ fork.condition) (on : sp.on ≡ p.on) (exit : sp.exit ≡ p.exit) (old new : List Item) where
  bare_arm : (body : Body) → SpellsArm (insts_of s) (staying s) l (toward s l p.other) p.other body
      → SpellsLines s l (fork_line fork ∷ []) (Splits fork.condition p.on (exit_of p.exit) body)
  bare_arm body spells =
      subst (λ line. SpellsLines s l (line ∷ []) (Splits fork.condition p.on (exit_of p.exit) body)) (sym parts.line)
      (splits r.opens (subst (λ c. SpellsExit (insts_of s) (staying s) l c (exit_of p.exit)) (toward_bare s l parts.target r.opens) parts.exits.spells)
      (subst (λ c. SpellsArm (insts_of s) (staying s) l c p.other body) (toward_bare s l p.other r.opens) spells))

  split_item : (rest : Body) → item_then (item.Split sp) rest ≡ Splits fork.condition p.on (exit_of p.exit) (going_on sp.next rest)
  split_item rest = then_split sp rest ∙ ap (λ z. Splits z sp.on (exit_of sp.exit) (going_on sp.next rest)) condition
      ∙ ap (λ z. Splits fork.condition z (exit_of sp.exit) (going_on sp.next rest)) on ∙ ap (λ z. Splits fork.condition p.on (exit_of z) (going_on sp.next rest)) exit

  at_branch : sp.next ≡ next.Branch → new ≡ old ++ item.Split sp ∷ [] → (rest : Body)
      → items_then new rest ≡ items_then old (Splits fork.condition p.on (exit_of p.exit) rest)
  at_branch is pushed rest =
      ap (λ z. items_then z rest) pushed ∙ then_push old (item.Split sp) rest ∙ ap (items_then old) (split_item rest)
      ∙ ap (λ z. items_then old (Splits fork.condition p.on (exit_of p.exit) (going_on z rest))) is

  pub split_exits : (ex : Exit) → IsExit s l p.other ex → sp.next ≡ next.Branch → new ≡ old ++ item.Split sp ∷ []
      → Ends (SpellsLines s l (fork_line fork ∷ [])) old (items_then new (end_body (end.Exit ex)))
  split_exits ex e is pushed = record {
    body = Splits fork.condition p.on (exit_of p.exit) (Leaves (exit_of ex));
    spells = bare_arm (Leaves (exit_of ex)) (out (way_exit s l p.other ex e));
    same = at_branch is pushed (Leaves (exit_of ex));
  }

  pub split_loops : (values : List ℕ) → IsEntered s l left p.other → opens_loop s p.other ≡ true → Take l (phis (text (insts_of s) p.other)) values
      → sp.next ≡ next.Branch → new ≡ old ++ item.Split sp ∷ []
      → Leads s (SpellsLines s l (fork_line fork ∷ [])) left old new (state.Loop p.other (entry.Branch values))
  split_loops values e loop takes is pushed = record {
    some = e.next.some;
    stands = (e.next.stands, loop);
    spells = λ rest spells. record {
      body = Splits fork.condition p.on (exit_of p.exit) rest;
      spells = bare_arm rest (out (way_loop s l left p.other values rest e takes spells));
      same = at_branch is pushed rest;
    };
  }

  pub split_enters : (mid : List Item) → IsEntered s l left p.other → opens_loop s p.other ≡ false → sp.next ≡ next.Block p.other → mid ≡ old ++ item.Split sp ∷ []
      → ((rest : Body) → items_then new rest ≡ items_then mid (copies (phis (text (insts_of s) p.other)) rest))
      → Leads s (SpellsLines s l (fork_line fork ∷ [])) left old new (state.Behind p.other)
  split_enters mid e bare is pushed copied = record {
    some = e.next.some;
    stands = (e.next.stands, bare);
    spells = λ rest spells.
        let behind = copies (phis (text (insts_of s) p.other)) rest in
        record {
          body = Splits fork.condition p.on (exit_of p.exit) (Enters p.other behind);
          spells = bare_arm (Enters p.other behind) (way_block s l left p.other rest e bare spells);
          same =
              copied rest ∙ ap (λ z. items_then z behind) pushed ∙ then_push old (item.Split sp) behind ∙ ap (items_then old) (split_item behind)
              ∙ ap (λ z. items_then old (Splits fork.condition p.on (exit_of p.exit) (going_on z behind))) is;
        };
  }

-- ---- behind OpLoopMerge

-- one target is the merge block, which is an exit
pub header_exit : (s : Scene) (l left control merge nextl : ℕ) (fork : Fork) → Stands s l left → construct (code_of s) l ≡ Some (ALoop merge nextl)
    → end_in s l ≡ BranchIf fork.first fork.second → (leaves_in s l fork.first ≡ true) ⊎ (leaves_in s l fork.second ≡ true)
header_exit s l left control merge nextl fork st opens ends =
    let rules = (settled s l left st).rules in
    let end_eq = sym (end_is s l left st) ∙ ends in
    let at_end = ap (λ e. end_rules (construct (code_of s) l) (behind (construct (code_of s) l) l l (context s l)) e) (sym end_eq) ∙ rules in
    let looping = ap (λ k. end_rules k (behind k l l (context s l)) (BranchIf fork.first fork.second)) (sym opens) ∙ at_end in
    let k = Some (ALoop merge nextl) in
    let splits_at = (three_hold (has_exit k (behind k l l (context s l)) fork.first fork.second) (not (fork.first == fork.second)) (splits_header k fork.first fork.second) looping).1 in
    let leaves = λ (t : ℕ) (h : (t == merge) ≡ true).
    ap (λ k. is_exit (behind k l t (context s l)) (end_in s l) t) opens
    ∙ left_holds (t == merge) (t == nextl) h in
    elim (tells (fork.first == merge)) [
      | inl x ↦ inl (leaves fork.first x)
      | inr x ↦ inr (leaves fork.second (ap (λ b. cond b (not (fork.second == merge)) (fork.second == merge)) (sym x) ∙ splits_at))
    ]
