-- How what a part spells grows, construct by construct.
use Rattle.std.proofs.Common.{◌≡◌, ◌≢◌, ◌⊎◌, inl, inr, ℕ, ◌≤◌, Bool, true, false, not, cond, ◌&&◌, ◌||◌, ◌==◌, List, [], ◌∷◌, ◌++◌, map, Option, Some, None, refl, sym, ap, ap₂, subst, ◌∙◌, arith, append_assoc, append-nil}
use Rattle.std.specs.List.{flat_map, list_any}
use Rattle.std.proofs.lemmas.Bool.Decides.{eqb_tells}
use Rattle.spv_opcodes.specs.declared.op.TheConstants as op
use Rattle.spv_module.specs.Instruction.{Instruction}
use Rattle.spv_blocks.specs.Blocks.{Code, Construct, ASelection, ASwitch, ALoop, Branch, BranchIf, Switch, Return, Unreachable, branches, construct, end_targets, is_role, merge_of, names, next_of, seconds, stops, targets}
use Rattle.spv_blocks.specs.Cutting.{blocks_of}
use Rattle.spv_walk.specs.Contexts.{Context, InBody, InNext, behind, is_exit, next_context}
use Rattle.spv_walk.specs.Walk.{Walk, Entered, end_of, leads}
use Rattle.spv_walk.proofs.Letter.{entered_tries}
use Rattle.spv_walk.proofs.Steps.{step_walked}
use Rattle.spv_walk.proofs.Unique.{tells, truth_apart, false_equal, both_hold, not_false, left_holds, right_holds, goes_branches, merge_is_named, next_is_named}
use Rattle.spv_bodies.specs.Bodies.{Exit, Entry, ByBranch, InPlace, Body, Leaves, Finishes, Step, Enters as EntersBlock, Splits, Selects, Switches, Loops, Arms, Last, Also}
use Rattle.spv_bodies.specs.Listing.{Branching, arm_lines, branch_line, branches as branches_of_body, branches_of_arms, entering, front_lines, instruction, lines, loop_line, pair_words, selection_line, split_line}
use Rattle.spv_normal.specs.Normal.{joins_next}
use Rattle.spv_normal.specs.Order.{is_front, is_loop, joins}
use Rattle.spv_tree.specs.Sound.{is_end, is_step, opcode_in}
use Rattle.spv_spelling.specs.Clean.{IsClean}
use Rattle.spv_spelling.specs.Spelling as spelled
use Rattle.spv_spelling.specs.Spelling.{AreStaying, Goes, Spells, SpellsArm, SpellsArms, SpellsBranch, SpellsExit, SpellsHead, SpellsLoop, SpellsPart}
use Rattle.spv_spelling.specs.Text.{Take, behind_phis, copies, firsts, front_of, is_phi, phis, text}
use Rattle.spv_spelling.proofs.Onward.{continues_on, merges_on}
use Rattle.spv_spelling.proofs.Settled.{walked_runs}
use Rattle.spv_normal_trees.proofs.Regions.{Arranged, LeadsOut, Onto, Region, leaf, comes, enters, nowhere, more, bare, selection, switch, loop, of_region, of_way, of_ways, exits, exits_of_way, exits_of_ways}
use Rattle.spv_normal_trees.proofs.Leaving.{leads_front}
use Rattle.spv_normal_trees.proofs.NormalBlocks.{in_front_and_behind}
use Rattle.spv_normal_trees.proofs.Staying.{IsFree, entered_free, front_free, joins_bare, joins_branch, joins_from, joins_label, joins_not_front, walked_staying}
use Rattle.spv_normal_trees.proofs.Texts.{end_is, line_end, end_is_by, end_by, switch_end, opcode_spelled}
use Rattle.spv_normal_trees.proofs.Arranging.{arranged_firsts, arranged_same, arranged_turned, returns_bare, target_end, targets_differ, two_distinct, unreachable_bare, walked, walked_label}
use Rattle.spv_normal_trees.proofs.Grown.{Given, Grown, GrownHead, GrownLoop, GrownPart, GrownWay, GrownWays, block_text, copies_branches, end_no_phi, flat_two, front_whole, joined_whole, map_two, named, own_whole, region_of, step_no_phi}

-- ---- blocks that join nothing

abbrev pub JoinsNone : Code → ℕ → Type 0
JoinsNone f l = (t : ℕ) → joins f l t ≡ true → ⊥

pub construct_joins_none : (f : Code) (l : ℕ) (k : Construct) → construct f l ≡ Some k → JoinsNone f l
construct_joins_none f l k e t j = let none = joins_bare f l t j in absurd (cc)

no_targets_join : (f : Code) (l : ℕ) → targets f l ≡ [] → JoinsNone f l
no_targets_join f l e t j = let one = joins_branch f l t j in absurd (cc)

two_targets_join : (f : Code) (l a b : ℕ) → targets f l ≡ a ∷ b ∷ [] → JoinsNone f l
two_targets_join f l a b e t j = absurd (two_not_one (sym e ∙ joins_branch f l t j))
  where
    two_not_one : a ∷ b ∷ [] ≡ t ∷ [] → ⊥
    two_not_one h = absurd (cc (h))

front_joins_none : (f : Code) (l u : ℕ) → targets f l ≡ u ∷ [] → is_front f u ≡ true → JoinsNone f l
front_joins_none f l u e i t j =
    truth_apart (is_front f t) (subst (λ k. is_front f k ≡ true) (ap (λ z. elim z [ [] ↦ u | x ∷ xs ↦ x ]) (sym e ∙ joins_branch f l t j)) i)
    (joins_not_front f l t j)

pub joins_no_next : (f : Code) (l : ℕ) → JoinsNone f l → joins_next f l ≡ false
joins_no_next f l n = none_of (targets f l)
  where
    none_of : (ts : List ℕ) → list_any (joins f l) ts ≡ false
    none_of [] = refl
    none_of (t ∷ ts) = elim (tells (joins f l t)) [ inl j ↦ absurd (n t j) | inr j ↦ rw j (none_of ts) ]

pub named_front : (f : Code) (l : ℕ) → 1 ≤ names f l → is_front f l ≡ true
named_front f l h = left_holds (not (names f l == 0)) (is_loop (construct f l)) (not_false (names f l == 0) (false_equal (names f l) 0 (λ e. omega arith)))

-- ---- lines that end a function

pub finish_end : (words : List ℕ) → is_end (opcode_in words) ≡ true → (line_end words ≡ Return) ⊎ (line_end words ≡ Unreachable)
unfolding end_by
finish_end words h = elim (eqb_tells (opcode_in words) op.RETURN) [
  | inl (e, p) ↦ inl (end_is_by words op.RETURN p)
  | inr (e, p) ↦ elim (eqb_tells (opcode_in words) op.RETURN_VALUE) [
    | inl (d, q) ↦ inl (end_is_by words op.RETURN_VALUE q)
    | inr (d, q) ↦ elim (eqb_tells (opcode_in words) op.UNREACHABLE) [
      | inl (c, r) ↦ inr (end_is_by words op.UNREACHABLE r)
      | inr (c, r) ↦ truth_apart (is_end (opcode_in words)) h (none_is (opcode_in words) p q r)
    ]
  ]
]
  where
    none_is : (o : ℕ) → o ≢ op.RETURN → o ≢ op.RETURN_VALUE → o ≢ op.UNREACHABLE → is_end o ≡ false
    none_is o p q r = rw (false_equal o op.RETURN p, false_equal o op.RETURN_VALUE q, false_equal o op.UNREACHABLE r) refl

split_no_phi : (condition : ℕ) (on : Bool) (a b : ℕ) → is_phi (split_line condition on a b) ≡ false
split_no_phi condition true a b = refl
split_no_phi condition false a b = refl

switch_no_phi : (words : List ℕ) → is_phi (instruction op.SWITCH words) ≡ false
switch_no_phi words = ap (λ o. o == op.PHI) (opcode_spelled op.SWITCH words (omega arith))

module _ (insts : List Instruction) (stays given : ℕ → ℕ) (is_pointer : ℕ → Bool) (clean : IsClean is_pointer (blocks_of insts))
    (staying : AreStaying insts stays) where
  abbrev pub f : Code
  f = blocks_of insts

  abbrev pub Takes : (l t : ℕ) → List ℕ → Type 0
  Takes = Given insts stays given

  abbrev pub lines_of : ℕ → List (List ℕ)
  lines_of = block_text insts stays given

  -- ---- facts of walked blocks

  own : (l : ℕ) → IsFree f l → stays l ≡ l
  own l h = staying.own l (λ k label j. h k j)

  pub front_own : (l : ℕ) → is_front f l ≡ true → stays l ≡ l
  front_own l h = own l (front_free f l h)

  same : (l t : ℕ) → joins f l t ≡ true → stays t ≡ stays l
  same l t j = staying.joined l t (joins_label f l t j) j

  runs : (l : ℕ) (c : Context) → Walk f l c → stops f l ≡ false
  runs l c w = walked_runs is_pointer f clean l c w

  joined_other : (l t : ℕ) (d : Context) → Walk f t d → joins f l t ≡ true → (t == stays t) ≡ false
  joined_other l t d w j =
      false_equal t (stays t) (λ e. (walked_staying f is_pointer clean stays same own runs t d w).free l (subst (λ k. joins f l k ≡ true) e j))

  pub end_here : (l : ℕ) (c : Context) (front : List (List ℕ)) (last : List ℕ) → Walk f l c → text insts l ≡ front ++ last ∷ [] → end_of f l ≡ line_end last
  end_here l c front last w e = let i = walked is_pointer f clean l c w in end_is insts l i.block_of i.at i.settled_there.ends front last e

  targets_here : (l : ℕ) (c : Context) (front : List (List ℕ)) (last : List ℕ) → Walk f l c → text insts l ≡ front ++ last ∷ []
      → targets f l ≡ end_targets (line_end last)
  targets_here l c front last w e = target_end f l ∙ ap end_targets (end_here l c front last w e)

  pub onto : (l t : ℕ) (c d : Context) → Walk f l c → d ≡ behind (construct f l) l t c → Goes insts stays l d t → Onto f l c t d
  onto l t c d w e g =
      let inside : is_exit (behind (construct f l) l t c) (end_of f l) t ≡ false = ap (λ k. is_exit k (end_of f l) t) (sym e) ∙ g.stays_in in
      let leading : leads f l c t ≡ true =
      both_hold (not (stops f l) && branches f l t) (not (is_exit (behind (construct f l) l t c) (end_of f l) t))
      (both_hold (not (stops f l)) (branches f l t) (not_false (stops f l) (runs l c w)) (goes_branches f l t g.enters.free))
      (not_false (is_exit (behind (construct f l) l t c) (end_of f l) t) inside) in
      record { same = e; enters = g.enters; tried = entered_tries f l t c w leading g.enters }

  pub walk_on : (l t : ℕ) (c d : Context) → Walk f l c → Onto f l c t d → Walk f t d
  walk_on l t c d w o = subst (λ j. Walk f t j) (sym o.same) (Entered l t c w o.tried o.enters)

  pub merge_role : (l m : ℕ) (c : Context) (k : Option Construct) → construct f l ≡ k → Walk f l c → merge_of k ≡ Some m → is_role f l m ≡ true
  merge_role l m c k e w is = (walked is_pointer f clean l c w).settled_there.merge m (ap merge_of e ∙ is)

  pub next_role : (l n : ℕ) (c : Context) (k : Option Construct) → construct f l ≡ k → Walk f l c → next_of k ≡ Some n → is_role f l n ≡ true
  next_role l n c k e w is = (walked is_pointer f clean l c w).settled_there.next n (ap next_of e ∙ is)

  pub walk_merge : (l m : ℕ) (c : Context) (k : Option Construct) → construct f l ≡ k → Walk f l c → merge_of k ≡ Some m → Walk f m c
  walk_merge l m c k e w is = step_walked f l m c c w (merges_on is_pointer f clean l m c w (ap merge_of e ∙ is))

  pub walk_next : (l m n : ℕ) (c : Context) → construct f l ≡ Some (ALoop m n) → Walk f l c → Walk f n (InNext l m ∷ c)
  walk_next l m n c e w =
      step_walked f l n c (InNext l m ∷ c) w (continues_on is_pointer f clean l n c (InNext l m ∷ c) w (ap next_of e) (ap (λ k. next_context k l c) e))

  pub merge_front : (l m : ℕ) (k : Option Construct) → construct f l ≡ k → merge_of k ≡ Some m → is_front f m ≡ true
  merge_front l m k e is = named_front f m (merge_is_named f l m (ap merge_of e ∙ is))

  pub next_front : (l n : ℕ) (k : Option Construct) → construct f l ≡ k → next_of k ≡ Some n → is_front f n ≡ true
  next_front l n k e is = named_front f n (next_is_named f l n (ap next_of e ∙ is))

  out_there : (l : ℕ) (c d : Context) (exit : Exit) → d ≡ behind (construct f l) l exit.target c → SpellsExit insts stays l d exit → LeadsOut f l c exit.target
  out_there l c d exit e s = ap (λ k. is_exit k (end_of f l) exit.target) (sym e) ∙ s.leaves

  -- ---- ways

  pub leaves_way : (l : ℕ) (c d : Context) (exit : Exit) → d ≡ behind (construct f l) l exit.target c → SpellsExit insts stays l d exit
      → GrownWay insts stays given l c exit.target (Leaves exit)
  leaves_way l c d exit e s = record {
    way = leaf (out_there l c d exit e s) s.values;
    leaving = refl;
    leads = refl;
    opening = λ all opened. refl;
    listing = λ all right. refl;
  }

  pub comes_way : (l h : ℕ) (c d : Context) (values : List ℕ) (body : Body) → Onto f l c h d → Take l (phis (text insts h)) values
      → GrownLoop insts stays given h d (ByBranch values) body → GrownWay insts stays given l c h body
  comes_way l h c d values body o taken g = record {
    way = comes o g.loops taken g.part;
    leaving = g.leaving (stays l);
    leads = g.leads;
    opening = λ all opened.
        g.begins all opened ∙ append_assoc opened (branch_line h ∷ front_lines all (front_of insts stays h)) (g.inner all)
        ∙ ap (λ z. opened ++ branch_line h ∷ z) (sym (g.arm all));
    listing = λ all right. g.arm all ∙ g.listing all right;
  }

  pub enters_way : (l t : ℕ) (c d : Context) (body : Body) → Walk f l c → Onto f l c t d → JoinsNone f l → is_front f t ≡ false
      → Grown insts stays given t d (behind_phis (text insts t)) body → GrownWay insts stays given l c t (EntersBlock t (copies (phis (text insts t)) body))
  enters_way l t c d body w o none i g =
      let keeps : stays t ≡ t = own t (entered_free f is_pointer clean l t o.enters (elim (tells (joins f l t)) [ inl j ↦ absurd (none t j) | inr j ↦ j ])) in
      record {
        way = enters o i (region_of insts stays given g (walk_on l t c d w o));
        leaving = g.leaving ∙ ap (λ b. branches_of_body b body) keeps ∙ sym (copies_branches t (phis (text insts t)) body);
        leads = refl;
        opening = λ all opened. refl;
        listing = own_whole insts stays given is_pointer clean t d body g (walk_on l t c d w o) i keeps;
      }

  -- ---- lines

  pub step_grown : (l : ℕ) (c : Context) (words : List ℕ) (rest : List (List ℕ)) (body : Body) → is_step (opcode_in words) ≡ true
      → Grown insts stays given l c rest body
      → Grown insts stays given l c (words ∷ rest) (Step words body)
  step_grown l c words rest body is g = record {
    opened = g.opened;
    ts = g.ts;
    is = g.is;
    arranged = g.arranged;
    ways = g.ways;
    parts = g.parts;
    leaving = g.leaving;
    steps = words ∷ g.steps;
    last = g.last;
    split = ap (λ z. words ∷ z) g.split;
    quiet = (step_no_phi (opcode_in words) is, g.quiet);
    listing = λ all right. ap (λ z. words ∷ z) (g.listing all right);
  }

  -- the last line, where nothing is joined
  last_kept : (l : ℕ) (last : List ℕ) (rest : List (List ℕ)) → JoinsNone f l → last ∷ rest ≡ cond (joins_next f l) [] (last ∷ []) ++ rest
  last_kept l last rest n = sym (ap (λ b. cond b [] (last ∷ []) ++ rest) (joins_no_next f l n))

  pub finish_grown : (l : ℕ) (c : Context) (words : List ℕ) (front : List (List ℕ)) → is_end (opcode_in words) ≡ true → Walk f l c
      → text insts l ≡ front ++ words ∷ []
      → Grown insts stays given l c (words ∷ []) (Finishes words)
  finish_grown l c words front is w e =
      let at = end_here l c front words w e in
      let nothing : (construct f l ≡ None) × (targets f l ≡ []) = elim (finish_end words is) [
        | inl r ↦ (returns_bare is_pointer f clean l c w (at ∙ r), targets_here l c front words w e ∙ ap end_targets r)
        | inr r ↦ (unreachable_bare is_pointer f clean l c w (at ∙ r), targets_here l c front words w e ∙ ap end_targets r)
      ] in
      record {
        opened = None;
        ts = [];
        is = nothing.0;
        arranged = subst (λ xs. Arranged f l c xs []) (sym nothing.1) (arranged_same f l c [] tt);
        ways = nowhere;
        parts = bare;
        leaving = refl;
        steps = [];
        last = words;
        split = refl;
        quiet = (end_no_phi (opcode_in words) is, tt);
        listing = λ all right. last_kept l words [] (no_targets_join f l nothing.1);
      }

  -- a branch, on which the lines go on, or not
  pub branch_grown : (l t : ℕ) (c : Context) (front : List (List ℕ)) (body : Body) → construct f l ≡ None → Walk f l c
      → text insts l ≡ front ++ branch_line t ∷ []
      → GrownWay insts stays given l c t body → is_front f t ≡ true → Grown insts stays given l c (branch_line t ∷ []) body
  branch_grown l t c front body is w e g i =
      let one : targets f l ≡ t ∷ [] = targets_here l c front (branch_line t) w e in
      record {
        opened = None;
        ts = t ∷ [];
        is = is;
        arranged = subst (λ xs. Arranged f l c xs (t ∷ [])) (sym one) (arranged_same f l c (t ∷ []) (refl, tt));
        ways = more g.way nowhere;
        parts = bare;
        leaving = ap (map (named insts stays given)) (append-nil (exits_of_way f Takes g.way ++ []) ∙ append-nil (exits_of_way f Takes g.way)) ∙ g.leaving;
        steps = [];
        last = branch_line t;
        split = refl;
        quiet = (refl, tt);
        listing = λ all right.
            g.opening all [] ∙ ap (λ z. branch_line t ∷ z)
            (g.listing all right ∙ ap (flat_map lines_of) (sym (append-nil (of_way f Takes g.way ++ []) ∙ append-nil (of_way f Takes g.way))))
            ∙ last_kept l (branch_line t) (flat_map lines_of ((of_way f Takes g.way ++ []) ++ [])) (front_joins_none f l t one i);
      }

  pub joined_grown : (l t : ℕ) (c : Context) (front : List (List ℕ)) (body : Body) → construct f l ≡ None → (w : Walk f l c)
      → text insts l ≡ front ++ branch_line t ∷ []
      → (o : Onto f l c t c) → is_front f t ≡ false → Grown insts stays given t c (behind_phis (text insts t)) body
      → Grown insts stays given l c (branch_line t ∷ []) (copies (phis (text insts t)) body)
  joined_grown l t c front body is w e o i g =
      let one : targets f l ≡ t ∷ [] = targets_here l c front (branch_line t) w e in
      let v : Walk f t c = walk_on l t c c w o in
      let r : Region f Takes t c = region_of insts stays given g v in
      let end : end_of f l ≡ Branch t = end_here l c front (branch_line t) w e in
      let j : joins f l t ≡ true = joins_from f l t end is i in
      record {
        opened = None;
        ts = t ∷ [];
        is = is;
        arranged = subst (λ xs. Arranged f l c xs (t ∷ [])) (sym one) (arranged_same f l c (t ∷ []) (refl, tt));
        ways = more (enters o i r) nowhere;
        parts = bare;
        leaving =
            ap (map (named insts stays given)) (append-nil (exits f Takes r ++ []) ∙ append-nil (exits f Takes r)) ∙ g.leaving
            ∙ ap (λ b. branches_of_body b body) (same l t j) ∙ sym (copies_branches (stays l) (phis (text insts t)) body);
        steps = [];
        last = branch_line t;
        split = refl;
        quiet = (refl, tt);
        listing = λ all right.
            joined_whole insts stays given is_pointer clean t c body g v i (joined_other l t c v j) all right
            ∙ ap (flat_map lines_of) (sym (append-nil (of_region f Takes r ++ []) ∙ append-nil (of_region f Takes r)))
            ∙ sym (ap (λ b. cond b [] (branch_line t ∷ []) ++ flat_map lines_of ((of_region f Takes r ++ []) ++ []))
            (ap (λ ts. list_any (joins f l) ts) one ∙ ap (λ b. b || false) j));
      }

  -- ---- conditional exits

  -- the targets of a conditional branch of which the first is an exit
  exit_targets : (l : ℕ) (c : Context) (condition a other : ℕ) (on : Bool) (front : List (List ℕ)) → Walk f l c → LeadsOut f l c a
      → text insts l ≡ front ++ split_line condition on a other ∷ [] → Arranged f l c (targets f l) (a ∷ other ∷ [])
  exit_targets l c condition a other true front w out e =
      let at : end_of f l ≡ BranchIf a other = end_here l c front (split_line condition true a other) w e in
      subst (λ xs. Arranged f l c xs (a ∷ other ∷ [])) (sym (target_end f l ∙ ap end_targets at))
      (arranged_same f l c (a ∷ other ∷ []) (two_distinct a other (targets_differ is_pointer f clean l c a other w at)))
  exit_targets l c condition a other false front w out e =
      let at : end_of f l ≡ BranchIf other a = end_here l c front (split_line condition false a other) w e in
      subst (λ xs. Arranged f l c xs (a ∷ other ∷ [])) (sym (target_end f l ∙ ap end_targets at))
      (arranged_turned f l c a other w out (targets_differ is_pointer f clean l c other a w at))

  pub split_joins_none : (l : ℕ) (c : Context) (condition a other : ℕ) (on : Bool) (front : List (List ℕ)) → Walk f l c
      → text insts l ≡ front ++ split_line condition on a other ∷ [] → JoinsNone f l
  split_joins_none l c condition a other true front w e = two_targets_join f l a other (targets_here l c front (split_line condition true a other) w e)
  split_joins_none l c condition a other false front w e = two_targets_join f l other a (targets_here l c front (split_line condition false a other) w e)

  pub split_grown : (l condition other : ℕ) (on : Bool) (c : Context) (exit : Exit) (front : List (List ℕ)) (body : Body) → construct f l ≡ None → Walk f l c
      → text insts l ≡ front ++ split_line condition on exit.target other ∷ [] → SpellsExit insts stays l c exit → GrownWay insts stays given l c other body
      → Grown insts stays given l c (split_line condition on exit.target other ∷ []) (Splits condition on exit body)
  split_grown l condition other on c exit front body is w e s g =
      let out : LeadsOut f l c exit.target = out_there l c c exit (sym (ap (λ k. behind k l exit.target c) is)) s in
      record {
        opened = None;
        ts = exit.target ∷ other ∷ [];
        is = is;
        arranged = exit_targets l c condition exit.target other on front w out e;
        ways = more (leaf out s.values) (more g.way nowhere);
        parts = bare;
        leaving =
            ap (λ z. (stays l, exit) ∷ map (named insts stays given) z)
            (append-nil (exits_of_way f Takes g.way ++ []) ∙ append-nil (exits_of_way f Takes g.way))
            ∙ ap (λ z. (stays l, exit) ∷ z) g.leaving;
        steps = [];
        last = split_line condition on exit.target other;
        split = refl;
        quiet = (split_no_phi condition on exit.target other, tt);
        listing = λ all right.
            ap₂ (λ t z. split_line condition on exit.target t ∷ z) g.leads
            (g.listing all right ∙ ap (flat_map lines_of) (sym (append-nil (of_way f Takes g.way ++ []) ∙ append-nil (of_way f Takes g.way))))
            ∙ last_kept l (split_line condition on exit.target other) (flat_map lines_of ((of_way f Takes g.way ++ []) ++ []))
            (split_joins_none l c condition exit.target other on front w e);
      }

  -- ---- selections and switches

  -- the merge instruction and the last line, where nothing is joined
  both_kept : (l : ℕ) (k : Construct) (one last : List ℕ) (rest : List (List ℕ)) → construct f l ≡ Some k
      → one ∷ last ∷ rest ≡ (one ∷ [] ++ cond (joins_next f l) [] (last ∷ [])) ++ rest
  both_kept l k one last rest e = ap (λ z. one ∷ z) (last_kept l last rest (construct_joins_none f l k e))

  -- the lines of two arms and of what follows
  three_parts : (xs ys zs : List ℕ) (a b p : List (List ℕ)) → a ≡ flat_map lines_of xs → b ≡ flat_map lines_of ys → p ≡ flat_map lines_of zs
      → a ++ (b ++ p) ≡ flat_map lines_of ((xs ++ (ys ++ [])) ++ zs)
  three_parts xs ys zs a b p d e g =
      ap₂ (λ x y. x ++ y) d (ap₂ (λ x y. x ++ y) e g)
      ∙ sym (append_assoc (flat_map lines_of xs) (flat_map lines_of ys) (flat_map lines_of zs))
      ∙ ap (λ z. z ++ flat_map lines_of zs) (sym (flat_two lines_of xs ys) ∙ ap (λ j. flat_map lines_of (xs ++ j)) (sym (append-nil ys)))
      ∙ sym (flat_two lines_of (xs ++ (ys ++ [])) zs)

  three_leavings : (xs ys zs : List Branching) (a b p : List Branching) → map (named insts stays given) xs ≡ a → map (named insts stays given) ys ≡ b
      → map (named insts stays given) zs ≡ p → map (named insts stays given) ((xs ++ (ys ++ [])) ++ zs) ≡ a ++ (b ++ p)
  three_leavings xs ys zs a b p d e g =
      ap (λ z. map (named insts stays given) ((xs ++ z) ++ zs)) (append-nil ys)
      ∙ map_two (named insts stays given) (xs ++ ys) zs (a ++ b) p (map_two (named insts stays given) xs ys a b d e) g
      ∙ append_assoc a b p

  pub select_grown : (l merge control condition one other : ℕ) (c : Context) (front : List (List ℕ)) (first second rest : Body)
      → construct f l ≡ Some (ASelection merge)
      → Walk f l c → text insts l ≡ front ++ selection_line merge control ∷ split_line condition true one other ∷ []
      → GrownWay insts stays given l c one first → GrownWay insts stays given l c other second → GrownPart insts stays given merge c rest
      → Grown insts stays given l c (selection_line merge control ∷ split_line condition true one other ∷ [])
      (Selects control condition first second (front_of insts stays merge) rest)
  select_grown l merge control condition one other c front first second rest is w e g h p =
      let sel : List ℕ = selection_line merge control in
      let last : List ℕ = split_line condition true one other in
      let at : end_of f l ≡ BranchIf one other = end_here l c (front ++ sel ∷ []) last w (e ∙ sym (append_assoc front (sel ∷ []) (last ∷ []))) in
      record {
        opened = Some (ASelection merge);
        ts = one ∷ other ∷ [];
        is = is;
        arranged = subst (λ xs. Arranged f l c xs (one ∷ other ∷ [])) (sym (target_end f l ∙ ap end_targets at))
            (arranged_same f l c (one ∷ other ∷ []) (two_distinct one other (targets_differ is_pointer f clean l c one other w at)));
        ways = more g.way (more h.way nowhere);
        parts = selection (merge_role l merge c (Some (ASelection merge)) is w refl) p.part;
        leaving = three_leavings (exits_of_way f Takes g.way) (exits_of_way f Takes h.way) (exits f Takes p.part)
            (branches_of_body (stays l) first) (branches_of_body (stays l) second) (branches_of_body merge rest) g.leaving h.leaving p.leaving;
        steps = sel ∷ [];
        last = last;
        split = refl;
        quiet = (refl, (refl, tt));
        listing = λ all right.
            ap₂ (λ t u. sel ∷ split_line condition true t u ∷
            (arm_lines all first ++ (arm_lines all second ++ (front_lines all (front_of insts stays merge) ++ lines all [] rest))))
            g.leads h.leads
            ∙ ap (λ z. sel ∷ last ∷ z) (three_parts (of_way f Takes g.way) (of_way f Takes h.way) (of_region f Takes p.part) (arm_lines all first)
            (arm_lines all second)
            (front_lines all (front_of insts stays merge) ++ lines all [] rest) (g.listing all right) (h.listing all right) (p.listing all right))
            ∙ both_kept l (ASelection merge) sel last
            (flat_map lines_of ((of_way f Takes g.way ++ (of_way f Takes h.way ++ [])) ++ of_region f Takes p.part)) is;
      }

  pub switch_grown : (l merge control selector default : ℕ) (cases : List (ℕ × ℕ)) (c : Context) (front : List (List ℕ)) (arms : Arms) (rest : Body)
      → construct f l ≡ Some (ASwitch merge) → Walk f l c
      → text insts l ≡ front ++ selection_line merge control ∷ instruction op.SWITCH (selector ∷ default ∷ pair_words cases) ∷ []
      → GrownWays insts stays given l c (firsts (default ∷ seconds cases)) arms → GrownPart insts stays given merge c rest
      → Grown insts stays given l c (selection_line merge control ∷ instruction op.SWITCH (selector ∷ default ∷ pair_words cases) ∷ [])
      (Switches control selector cases arms (front_of insts stays merge) rest)
  switch_grown l merge control selector default cases c front arms rest is w e g p =
      let sel : List ℕ = selection_line merge control in
      let last : List ℕ = instruction op.SWITCH (selector ∷ default ∷ pair_words cases) in
      let at : end_of f l ≡ Switch default cases =
      end_here l c (front ++ sel ∷ []) last w (e ∙ sym (append_assoc front (sel ∷ []) (last ∷ []))) ∙ switch_end selector default cases in
      record {
        opened = Some (ASwitch merge);
        ts = firsts (default ∷ seconds cases);
        is = is;
        arranged = subst (λ xs. Arranged f l c xs (firsts (default ∷ seconds cases))) (sym (target_end f l ∙ ap end_targets at))
            (arranged_firsts f l c (default ∷ seconds cases));
        ways = g.ways;
        parts = switch (merge_role l merge c (Some (ASwitch merge)) is w refl) p.part;
        leaving = map_two (named insts stays given) (exits_of_ways f Takes g.ways) (exits f Takes p.part) (branches_of_arms (stays l) arms)
            (branches_of_body merge rest) g.leaving p.leaving;
        steps = sel ∷ [];
        last = last;
        split = refl;
        quiet = (refl, (switch_no_phi (selector ∷ default ∷ pair_words cases), tt));
        listing = λ all right.
            ap₂ (λ t z. sel ∷ instruction op.SWITCH (selector ∷ t ∷ pair_words cases) ∷ z) (g.first default _ refl)
            (ap₂ (λ x y. x ++ y) (g.listing all right) (p.listing all right) ∙ sym (flat_two lines_of (of_ways f Takes g.ways) (of_region f Takes p.part)))
            ∙ both_kept l (ASwitch merge) sel last (flat_map lines_of (of_ways f Takes g.ways ++ of_region f Takes p.part)) is;
      }

  -- the arms of a switch
  pub last_ways : (l t : ℕ) (c : Context) (arm : Body) → GrownWay insts stays given l c t arm → GrownWays insts stays given l c (t ∷ []) (Last arm)
  last_ways l t c arm g = record {
    ways = more g.way nowhere;
    leaving = ap (map (named insts stays given)) (append-nil (exits_of_way f Takes g.way)) ∙ g.leaving;
    first = λ u us e. g.leads ∙ ap (λ z. elim z [ [] ↦ t | x ∷ xs ↦ x ]) e;
    listing = λ all right. g.listing all right ∙ ap (flat_map lines_of) (sym (append-nil (of_way f Takes g.way)));
  }

  pub also_ways : (l t : ℕ) (labels : List ℕ) (c : Context) (arm : Body) (arms : Arms) → GrownWay insts stays given l c t arm
      → GrownWays insts stays given l c labels arms
      → GrownWays insts stays given l c (t ∷ labels) (Also arm arms)
  also_ways l t labels c arm arms g h = record {
    ways = more g.way h.ways;
    leaving = map_two (named insts stays given) (exits_of_way f Takes g.way) (exits_of_ways f Takes h.ways) (branches_of_body (stays l) arm)
        (branches_of_arms (stays l) arms) g.leaving h.leaving;
    first = λ u us e. g.leads ∙ ap (λ z. elim z [ [] ↦ t | x ∷ xs ↦ x ]) e;
    listing = λ all right. ap₂ (λ x y. x ++ y) (g.listing all right) (h.listing all right) ∙ sym
        (flat_two lines_of (of_way f Takes g.way) (of_ways f Takes h.ways));
  }

  -- ---- headers

  pub step_head : (h : ℕ) (c : Context) (opening words : List ℕ) (rest : List (List ℕ)) (body : Body) → is_step (opcode_in words) ≡ true
      → GrownHead insts stays given h c opening rest body → GrownHead insts stays given h c opening (words ∷ rest) (Step words body)
  step_head h c opening words rest body is g = record {
    ts = g.ts;
    arranged = g.arranged;
    ways = g.ways;
    leaving = g.leaving;
    steps = words ∷ g.steps;
    last = g.last;
    split = ap (λ z. words ∷ z) g.split;
    quiet = (step_no_phi (opcode_in words) is, g.quiet);
    listing = λ all right. ap (λ z. words ∷ z) (g.listing all right);
  }

  pub goes_head : (h t : ℕ) (c : Context) (opening : List ℕ) (front : List (List ℕ)) (body : Body) → is_phi opening ≡ false → Walk f h c
      → text insts h ≡ front ++ opening ∷ branch_line t ∷ [] → GrownWay insts stays given h c t body
      → GrownHead insts stays given h c opening (opening ∷ branch_line t ∷ []) body
  goes_head h t c opening front body quiet w e g =
      let one : targets f h ≡ t ∷ [] = targets_here h c (front ++ opening ∷ []) (branch_line t) w
      (e ∙ sym (append_assoc front (opening ∷ []) (branch_line t ∷ []))) in
      record {
        ts = t ∷ [];
        arranged = subst (λ xs. Arranged f h c xs (t ∷ [])) (sym one) (arranged_same f h c (t ∷ []) (refl, tt));
        ways = more g.way nowhere;
        leaving = ap (map (named insts stays given)) (append-nil (exits_of_way f Takes g.way)) ∙ g.leaving;
        steps = opening ∷ [];
        last = branch_line t;
        split = refl;
        quiet = (quiet, (refl, tt));
        listing = λ all right.
            g.opening all (opening ∷ []) ∙ ap (λ z. opening ∷ branch_line t ∷ z)
            (g.listing all right ∙ ap (flat_map lines_of) (sym (append-nil (of_way f Takes g.way))));
      }

  pub parted_head : (h condition other : ℕ) (on : Bool) (c d : Context) (opening : List ℕ) (exit : Exit) (front : List (List ℕ)) (body : Body)
      → is_phi opening ≡ false
      → Walk f h c → d ≡ behind (construct f h) h exit.target c → text insts h ≡ front ++ opening ∷ split_line condition on exit.target other ∷ []
      → SpellsExit insts stays h d exit → GrownWay insts stays given h c other body
      → GrownHead insts stays given h c opening (opening ∷ split_line condition on exit.target other ∷ []) (Splits condition on exit body)
  parted_head h condition other on c d opening exit front body quiet w same e s g =
      let out : LeadsOut f h c exit.target = out_there h c d exit same s in
      let at = e ∙ sym (append_assoc front (opening ∷ []) (split_line condition on exit.target other ∷ [])) in
      record {
        ts = exit.target ∷ other ∷ [];
        arranged = exit_targets h c condition exit.target other on (front ++ opening ∷ []) w out at;
        ways = more (leaf out s.values) (more g.way nowhere);
        leaving = ap (λ z. (stays h, exit) ∷ map (named insts stays given) z) (append-nil (exits_of_way f Takes g.way)) ∙ ap
            (λ z. (stays h, exit) ∷ z) g.leaving;
        steps = opening ∷ [];
        last = split_line condition on exit.target other;
        split = refl;
        quiet = (quiet, (split_no_phi condition on exit.target other, tt));
        listing = λ all right.
            ap₂ (λ t z. opening ∷ split_line condition on exit.target t ∷ z) g.leads
            (g.listing all right ∙ ap (flat_map lines_of) (sym (append-nil (of_way f Takes g.way))));
      }

  -- ---- parts and loops

  pub plain_part : (l : ℕ) (c : Context) (body : Body) → Walk f l c → is_front f l ≡ true → Grown insts stays given l c (behind_phis (text insts l)) body
      → GrownPart insts stays given l c body
  plain_part l c body w i g = record {
    part = region_of insts stays given g w;
    leaving = g.leaving ∙ ap (λ b. branches_of_body b body) (front_own l i);
    listing = front_whole insts stays given is_pointer clean l c body g w (walked_label is_pointer f clean l c w) i (front_own l i);
  }

  pub part_of_loop : (h : ℕ) (c : Context) (body : Body) → GrownLoop insts stays given h c InPlace body → GrownPart insts stays given h c body
  part_of_loop h c body g = record {
    part = g.part;
    leaving = g.leaving h;
    listing = λ all right. ap (λ z. front_lines all (front_of insts stays h) ++ z) (g.begins all []) ∙ g.listing all right;
  }

  pub loop_grown : (h merge next control : ℕ) (c : Context) (entry : Entry) (inner continuing rest : Body) → construct f h ≡ Some (ALoop merge next)
      → Walk f h c
      → GrownHead insts stays given h c (loop_line merge next control) (behind_phis (text insts h)) inner
      → GrownPart insts stays given next (InNext h merge ∷ c) continuing → GrownPart insts stays given merge c rest
      → GrownLoop insts stays given h c entry
      (Loops entry (front_of insts stays h) control inner (front_of insts stays next) continuing (front_of insts stays merge) rest)
  loop_grown h merge next control c entry inner continuing rest is w g n p =
      let loops : is_loop (construct f h) ≡ true = ap is_loop is in
      let i : is_front f h ≡ true = right_holds (not (names f h == 0)) (is_loop (construct f h)) loops in
      let body : Body = Loops InPlace (front_of insts stays h) control inner (front_of insts stays next) continuing (front_of insts stays merge) rest in
      let whole : Grown insts stays given h c (behind_phis (text insts h)) body = record {
        opened = Some (ALoop merge next);
        ts = g.ts;
        is = is;
        arranged = g.arranged;
        ways = g.ways;
        parts = loop (next_role h next c (Some (ALoop merge next)) is w refl) (merge_role h merge c (Some (ALoop merge next)) is w refl) n.part p.part;
        leaving =
            map_two (named insts stays given) (exits_of_ways f Takes g.ways) (exits f Takes n.part ++ exits f Takes p.part)
            (branches_of_body h inner) (branches_of_body next continuing ++ branches_of_body merge rest)
            (g.leaving ∙ ap (λ b. branches_of_body b inner) (front_own h i))
            (map_two (named insts stays given) (exits f Takes n.part) (exits f Takes p.part) (branches_of_body next continuing)
            (branches_of_body merge rest) n.leaving p.leaving);
        steps = g.steps;
        last = g.last;
        split = g.split;
        quiet = g.quiet;
        listing = λ all right. loop_lines all (of_ways f Takes g.ways) (of_region f Takes n.part) (of_region f Takes p.part)
            (lines all (loop_line merge next control ∷ []) inner) (front_lines all (front_of insts stays next)) (lines all [] continuing)
            (front_lines all (front_of insts stays merge) ++ lines all [] rest) g.steps g.last
            (g.listing all right) (n.listing all right) (p.listing all right);
      } in
      record {
        part = region_of insts stays given whole w;
        loops = loops;
        leaving = λ block. ap (λ z. entering block h entry ++ z) whole.leaving;
        leads = refl;
        inner = λ all. lines all [] body;
        begins = λ all opened. refl;
        arm = λ all. refl;
        listing = front_whole insts stays given is_pointer clean h c body whole w (walked_label is_pointer f clean h c w) i (front_own h i);
      }
    where
      loop_lines : (all : List Branching) (ws ns ms : List ℕ) (head fn cn after : List (List ℕ)) (steps : List (List ℕ)) (last : List ℕ)
          → head ≡ (steps ++ last ∷ []) ++ flat_map lines_of ws → fn ++ cn ≡ flat_map lines_of ns → after ≡ flat_map lines_of ms
          → head ++ (fn ++ (cn ++ after)) ≡ (steps ++ cond (joins_next f h) [] (last ∷ [])) ++ flat_map lines_of (ws ++ (ns ++ ms))
      loop_lines all ws ns ms head fn cn after steps last a b d =
          ap₂ (λ x y. x ++ y) a (sym (append_assoc fn cn after) ∙ ap₂ (λ x y. x ++ y) b d ∙ sym (flat_two lines_of ns ms))
          ∙ append_assoc (steps ++ last ∷ []) (flat_map lines_of ws) (flat_map lines_of (ns ++ ms))
          ∙ ap (λ z. (steps ++ last ∷ []) ++ z) (sym (flat_two lines_of ws (ns ++ ms)))
          ∙ sym (ap (λ j. (steps ++ cond j [] (last ∷ [])) ++ flat_map lines_of (ws ++ (ns ++ ms)))
          (joins_no_next f h (construct_joins_none f h (ALoop merge next) is)))

  -- ---- whatever is spelled: by induction on how

  mutual
    pub spell : {l : ℕ} {c : Context} {rest : List (List ℕ)} {body : Body} → Spells insts stays l c rest body → Walk f l c → (front : List (List ℕ))
        → text insts l ≡ front ++ rest
        → Grown insts stays given l c rest body
    spell (spelled.steps {l = l} {c = c} {words = words} {rest = rest} {body = body} is d) w front e =
        step_grown l c words rest body is (spell d w (front ++ words ∷ []) (e ∙ sym (append_assoc front (words ∷ []) rest)))
    spell (spelled.finishes {l = l} {c = c} {words = words} is) w front e = finish_grown l c words front is w e
    spell (spelled.joined {l = l} {t = t} {c = c} {body = body} is goes i d) w front e =
        let o : Onto f l c t c = onto l t c c w (sym (ap (λ k. behind k l t c) is)) goes in
        joined_grown l t c front body is w e o i (spell d (walk_on l t c c w o) (phis (text insts t)) (sym (in_front_and_behind (text insts t))))
    spell (spelled.branches {l = l} {t = t} {c = c} {body = body} is b) w front e =
        let r = spell_branch b c w (sym (ap (λ k. behind k l t c) is)) in
        branch_grown l t c front body is w e r.0 r.1
    spell (spelled.splits {l = l} {condition = condition} {other = other} {on = on} {c = c} {exit = exit} {body = body} is s a) w front e =
        split_grown l condition other on c exit front body is w e s
        (spell_arm a c w (sym (ap (λ k. behind k l other c) is)) (split_joins_none l c condition exit.target other on front w e))
    spell (spelled.selects {l = l} {merge = merge} {control = control} {condition = condition} {yes = one} {no = other}
        {c = c} {first = first} {second = second} {rest = rest} is a b p) w front e =
        select_grown l merge control condition one other c front first second rest is w e
        (spell_arm a c w (sym (ap (λ k. behind k l one c) is)) (construct_joins_none f l (ASelection merge) is))
        (spell_arm b c w (sym (ap (λ k. behind k l other c) is)) (construct_joins_none f l (ASelection merge) is))
        (spell_part p (walk_merge l merge c (Some (ASelection merge)) is w refl) (merge_front l merge (Some (ASelection merge)) is refl))
    spell (spelled.switches {l = l} {merge = merge} {control = control} {selector = selector} {default = default}
        {cases = cases} {c = c} {arms = arms} {rest = rest} is a p) w front e =
        switch_grown l merge control selector default cases c front arms rest is w e
        (spell_arms a w is)
        (spell_part p (walk_merge l merge c (Some (ASwitch merge)) is w refl) (merge_front l merge (Some (ASwitch merge)) is refl))

    pub spell_branch : {l : ℕ} {d : Context} {t : ℕ} {body : Body} → SpellsBranch insts stays l d t body → (c : Context) → Walk f l c
        → d ≡ behind (construct f l) l t c
        → GrownWay insts stays given l c t body × (is_front f t ≡ true)
    spell_branch (spelled.leaves {l = l} {d = d} {exit = exit} s) c w e =
        (leaves_way l c d exit e s, leads_front f l c exit.target w (out_there l c d exit e s))
    spell_branch (spelled.comes {l = l} {h = h} {d = d} {values = values} {body = body} goes taken turn) c w e =
        let o : Onto f l c h d = onto l h c d w e goes in
        let g = spell_loop turn (walk_on l h c d w o) in
        (comes_way l h c d values body o taken g, right_holds (not (names f h == 0)) (is_loop (construct f h)) g.loops)

    pub spell_arm : {l : ℕ} {d : Context} {t : ℕ} {body : Body} → SpellsArm insts stays l d t body → (c : Context) → Walk f l c
        → d ≡ behind (construct f l) l t c → JoinsNone f l
        → GrownWay insts stays given l c t body
    spell_arm (spelled.out b) c w e none = (spell_branch b c w e).0
    spell_arm (spelled.enters {l = l} {t = t} {d = d} {body = body} goes i s) c w e none =
        let o : Onto f l c t d = onto l t c d w e goes in
        enters_way l t c d body w o none i (spell s (walk_on l t c d w o) (phis (text insts t)) (sym (in_front_and_behind (text insts t))))

    pub spell_arms : {l merge : ℕ} {c : Context} {labels : List ℕ} {arms : Arms} → SpellsArms insts stays l merge c labels arms → Walk f l c
        → construct f l ≡ Some (ASwitch merge)
        → GrownWays insts stays given l c labels arms
    spell_arms (spelled.last {l = l} {merge = merge} {t = t} {c = c} {arm = arm} a) w is =
        last_ways l t c arm (spell_arm a c w (sym (ap (λ k. behind k l t c) is)) (construct_joins_none f l (ASwitch merge) is))
    spell_arms (spelled.also {l = l} {merge = merge} {t = t} {c = c} {labels = labels} {arm = arm} {arms = arms} a others) w is =
        also_ways l t labels c arm arms (spell_arm a c w (sym (ap (λ k. behind k l t c) is)) (construct_joins_none f l (ASwitch merge) is))
        (spell_arms others w is)

    pub spell_part : {l : ℕ} {c : Context} {body : Body} → SpellsPart insts stays l c body → Walk f l c → is_front f l ≡ true
        → GrownPart insts stays given l c body
    spell_part (spelled.plain {l = l} {c = c} {body = body} no_loop d) w i = plain_part l c body w i
        (spell d w (phis (text insts l)) (sym (in_front_and_behind (text insts l))))
    spell_part (spelled.placed {l = l} {c = c} {body = body} turn) w i = part_of_loop l c body (spell_loop turn w)

    pub spell_loop : {h : ℕ} {c : Context} {entry : Entry} {body : Body} → SpellsLoop insts stays h c entry body → Walk f h c
        → GrownLoop insts stays given h c entry body
    spell_loop (spelled.parts {h = h} {merge = merge} {next = next} {control = control} {c = c} {entry = entry}
        {inner = inner} {continuing = continuing} {rest = rest} is head n m) w =
        loop_grown h merge next control c entry inner continuing rest is w
        (spell_head head c w merge next is refl refl (phis (text insts h)) (sym (in_front_and_behind (text insts h))))
        (spell_part n (walk_next h merge next c is w) (next_front h next (Some (ALoop merge next)) is refl))
        (spell_part m (walk_merge h merge c (Some (ALoop merge next)) is w refl) (merge_front h merge (Some (ALoop merge next)) is refl))

    pub spell_head : {h : ℕ} {d : Context} {opening : List ℕ} {rest : List (List ℕ)} {body : Body} → SpellsHead insts stays h d opening rest body
        → (c : Context) → Walk f h c
        → (merge next : ℕ) → construct f h ≡ Some (ALoop merge next) → d ≡ InBody h merge next ∷ c → is_phi opening ≡ false → (front : List (List ℕ))
        → text insts h ≡ front ++ rest
        → GrownHead insts stays given h c opening rest body
    spell_head (spelled.begins {h = h} {d = d} {opening = opening} {words = words} {rest = rest} {body = body} step s) c w merge next is same quiet front e =
        step_head h c opening words rest body step
        (spell_head s c w merge next is same quiet (front ++ words ∷ []) (e ∙ sym (append_assoc front (words ∷ []) rest)))
    spell_head (spelled.goes {h = h} {t = t} {d = d} {opening = opening} {body = body} a) c w merge next is same quiet front e =
        goes_head h t c opening front body quiet w e
        (spell_arm a c w (same ∙ sym (ap (λ k. behind k h t c) is)) (construct_joins_none f h (ALoop merge next) is))
    spell_head (spelled.parted {h = h} {condition = condition} {other = other} {on = on} {d = d} {opening = opening}
        {exit = exit} {body = body} s a) c w merge next is same quiet front e =
        parted_head h condition other on c d opening exit front body quiet w (same ∙ sym (ap (λ k. behind k h exit.target c) is)) e s
        (spell_arm a c w (same ∙ sym (ap (λ k. behind k h other c) is)) (construct_joins_none f h (ALoop merge next) is))
