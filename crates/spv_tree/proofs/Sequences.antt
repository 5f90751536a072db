-- The items of a sequence, one after the other, and its end.
use Rattle.std.proofs.Common.{◌≡◌, ℕ, ◌+◌, ◌<◌, Bool, true, false, Some, List, [], ◌∷◌, ◌++◌, length, drop, get_or, slice_get, refl, sym, ap, ◌∙◌, subst, append-nil}
use Rattle.std.specs.Option.{is_some}
use Rattle.std.proofs.lemmas.Option.{get_or_from_slice_get}
use Rattle.std.proofs.lemmas.Bool.{false≢true}
use Rattle.spv_bodies.specs.Bodies.{Body, begins_at_branch, target}
use Rattle.spv_bodies.specs.Listing.{Branching, arm_lines, lines}
use Rattle.spv_tree.specs.declared.body.Next.{Next}
use Rattle.spv_tree.specs.declared.body.Next.TheVariants as next
use Rattle.spv_tree.specs.declared.body.End.{End}
use Rattle.spv_tree.specs.declared.body.End.TheVariants as end
use Rattle.spv_module.specs.declared.inst.Inst.{Inst}
use Rattle.spv_tree.specs.declared.body.Entry.TheVariants as entry
use Rattle.spv_tree.specs.declared.body.Choice.{Choice}
use Rattle.spv_tree.specs.declared.body.Switch.{Switch}
use Rattle.spv_tree.specs.declared.body.Split as split
use Rattle.spv_tree.specs.declared.body.Loop.{Loop}
use Rattle.spv_tree.specs.declared.body.Entered.{Entered, out-Entered}
use Rattle.spv_tree.specs.declared.body.Arm.{Arm}
use Rattle.spv_tree.specs.declared.body.Arm as arm
use Rattle.spv_tree.specs.declared.body.Item as item
use Rattle.spv_tree.specs.declared.body.Item.{Item, Op, Choice', Switch', Loop', Split}
use Rattle.spv_tree.specs.Tree.{arm_body, end_body, going_on, sequence_body, item_then, items_then}
use Rattle.spv_tree.specs.Sound.{IsFormed}
use Rattle.spv_tree.specs.Lines.{AddsItem, Comes, IsFormedArm, is_branch, leads_on, nothing}
use Rattle.spv_tree.proofs.Equations.{arm_loop, then_op, then_choice, then_switch, then_split}
use Rattle.spv_tree.proofs.Listed.{from_next}

-- ---- one item

on-alone : (all : List Branching) (n : Next) → (begins_at_branch (going_on n nothing) ≡ true) × IsFormed all (going_on n nothing)
on-alone all (next.Block label) = (refl, tt)
on-alone all next.Branch = (refl, tt)

on-rest : (all : List Branching) (n : Next) (rest : Body) → IsFormed all (going_on n rest) → IsFormed all rest
on-rest all (next.Block label) rest h = h
on-rest all next.Branch rest h = h

on-last : (n : Next) (rest : Body) → is_branch n ≡ true → begins_at_branch (going_on n rest) ≡ true → begins_at_branch rest ≡ true
on-last (next.Block label) rest e h = absurd (false≢true e)
on-last next.Branch rest e h = h

-- what is formed with what follows it is formed alone
pub item_alone : (all : List Branching) (i : Item) (rest : Body) → IsFormed all (item_then i rest) → IsFormed all (item_then i nothing)
unfolding item_then
item_alone all (Op inst) rest h = (h.0, tt)
item_alone all (Choice' control condition first second merge) rest h = (h.0, h.1, h.2, h.3, h.4, tt)
item_alone all (Switch' control selector cases first shape others merge) rest h = (h.0, h.1, h.2, tt)
item_alone all (Loop' entry header steps control opening next shape row end merge) rest h = (h.0, h.1, h.2, h.3, h.4, h.5, tt)
item_alone all (Split s) rest h = on-alone all s.next

pub item_rest : (all : List Branching) (i : Item) (rest : Body) → IsFormed all (item_then i rest) → IsFormed all rest
unfolding item_then
item_rest all (Op inst) rest h = h.1
item_rest all (Choice' control condition first second merge) rest h = h.5
item_rest all (Switch' control selector cases first shape others merge) rest h = h.3
item_rest all (Loop' entry header steps control opening next shape row end merge) rest h = h.6
item_rest all (Split s) rest h = on-rest all s.next rest h.1

item-last : (all : List Branching) (i : Item) (rest : Body) → IsFormed all (item_then i rest) → leads_on i ≡ true → begins_at_branch rest ≡ true
unfolding item_then
item-last all (Op inst) rest h e = absurd (false≢true e)
item-last all (Choice' control condition first second merge) rest h e = absurd (false≢true e)
item-last all (Switch' control selector cases first shape others merge) rest h e = absurd (false≢true e)
item-last all (Loop' entry header steps control opening next shape row end merge) rest h e = absurd (false≢true e)
item-last all (Split s) rest h e = on-last s.next rest e h.0

-- whether an item begins at a branch is told by the item alone
item-begins : (i : Item) (rest after : Body) → begins_at_branch (item_then i rest) ≡ begins_at_branch (item_then i after)
unfolding item_then
item-begins (Op inst) rest after = refl
item-begins (Choice' control condition first second merge) rest after = refl
item-begins (Switch' control selector cases first shape others merge) rest after = refl
item-begins (Loop' (entry.Branch values) header steps control opening next shape row end merge) rest after = refl
item-begins (Loop' entry.InPlace header steps control opening next shape row end merge) rest after = refl
item-begins (Split s) rest after = refl

-- an item that no branch goes to has its lines where none does
pub adds_at : (all : List Branching) (begun begun' : Bool) (w0 w1 : List (List ℕ)) (i j : Item) (rest : Body) → i ≡ j → begins_at_branch (item_then j nothing) ≡ false
    → (begun ≡ true → begins_at_branch (item_then i nothing) ≡ true) → AddsItem all false begun' w0 w1 j rest → AddsItem all begun begun' w0 w1 i rest
adds_at all true begun' w0 w1 i j rest is none first adds = absurd (false≢true (sym none ∙ ap (λ z. begins_at_branch (item_then z nothing)) (sym is) ∙ first refl))
adds_at all false begun' w0 w1 i j rest is none first adds = subst (λ z. AddsItem all false begun' w0 w1 z rest) (sym is) adds

pub op-none : (inst : Inst) → begins_at_branch (item_then (item.Op inst) nothing) ≡ false
op-none inst = ap begins_at_branch (then_op inst nothing)

pub choice-none : (c : Choice) → begins_at_branch (item_then (item.Choice c) nothing) ≡ false
choice-none c = ap begins_at_branch (then_choice c nothing)

pub switch-none : (s : Switch) → begins_at_branch (item_then (item.Switch s) nothing) ≡ false
switch-none s = ap begins_at_branch (then_switch s nothing)

pub split-none : (s : split.Split) → begins_at_branch (item_then (item.Split s) nothing) ≡ false
split-none s = ap begins_at_branch (then_split s nothing)

pub never : (i j : Item) → i ≡ j → begins_at_branch (item_then j nothing) ≡ false → begins_at_branch (item_then i nothing) ≡ true → ⊥
never i j is none first = false≢true (sym none ∙ ap (λ z. begins_at_branch (item_then z nothing)) (sym is) ∙ first)

-- the first of some items
pub first-begins : (items : List Item) (i : Item) (rest : Body) → slice_get items 0 ≡ Some i → begins_at_branch (items_then items rest) ≡ true → begins_at_branch (item_then i nothing) ≡ true
first-begins [] i rest is h = absurd (false≢true (ap is_some is))
first-begins (j ∷ items) i rest is h = item-begins i nothing (items_then items rest) ∙ ap (λ z. begins_at_branch (item_then z (items_then items rest))) (sym (get_or_from_slice_get (j ∷ items) 0 i i is)) ∙ h

pub first-target : (items : List Item) (i : Item) (t : ℕ) (rest : Body) → slice_get items 0 ≡ Some i → ((after : Body) → t ≡ target (item_then i after)) → t ≡ target (items_then items rest)
first-target [] i t rest is h = absurd (false≢true (ap is_some is))
first-target (j ∷ items) i t rest is h = h (items_then items rest) ∙ ap (λ z. target (item_then z (items_then items rest))) (sym (get_or_from_slice_get (j ∷ items) 0 i i is))

-- ---- a loop that is an arm

pub entered_turn : (all : List Branching) (a : Arm) (e : Entered) (l : Loop) → a ≡ arm.Loop e → l ≡ (out-Entered e).turn.value → IsFormedArm all a
    → IsFormed all (item_then (item.Loop l) nothing)
entered_turn all a e l is same h =
    let rest : Body = sequence_body (out-Entered e).rest in
    item_alone all (item.Loop l) rest (subst (IsFormed all) (ap arm_body is ∙ arm_loop e ∙ ap (λ z. item_then (item.Loop z) rest) (sym same)) h)

pub entered_rest : (all : List Branching) (a : Arm) (e : Entered) → a ≡ arm.Loop e → IsFormedArm all a → IsFormed all (sequence_body (out-Entered e).rest)
entered_rest all a e is h =
    item_rest all (item.Loop (out-Entered e).turn.value) (sequence_body (out-Entered e).rest) (subst (IsFormed all) (ap arm_body is ∙ arm_loop e) h)

-- ---- the loop over the items

unroll : (items : List Item) (k : ℕ) (i : Item) (rest : Body) → k < length items → i ≡ get_or items k i → items_then (drop k items) rest ≡ item_then i (items_then (drop (k + 1) items) rest)
unroll items k i rest lt is = ap (λ z. items_then z rest) (from_next items k i lt is)

pub next_alone : (all : List Branching) (items : List Item) (k : ℕ) (i : Item) (rest : Body) → k < length items → i ≡ get_or items k i → IsFormed all (items_then (drop k items) rest)
    → IsFormed all (item_then i nothing)
next_alone all items k i rest lt is h = item_alone all i (items_then (drop (k + 1) items) rest) (subst (IsFormed all) (unroll items k i rest lt is) h)

pub next_last : (all : List Branching) (items : List Item) (k : ℕ) (i : Item) (rest : Body) → k < length items → i ≡ get_or items k i → IsFormed all (items_then (drop k items) rest)
    → leads_on i ≡ true → begins_at_branch (items_then (drop (k + 1) items) rest) ≡ true
next_last all items k i rest lt is h e = item-last all i (items_then (drop (k + 1) items) rest) (subst (IsFormed all) (unroll items k i rest lt is) h) e

pub next_first : (all : List Branching) (begun : Bool) (wanted found : List (List ℕ)) (items : List Item) (k : ℕ) (i : Item) (rest : Body) → k < length items → i ≡ get_or items k i
    → Comes all begun wanted found (items_then (drop k items) rest) → begun ≡ true → begins_at_branch (item_then i nothing) ≡ true
next_first all begun wanted found items k i rest lt is h e =
    item-begins i nothing (items_then (drop (k + 1) items) rest) ∙ ap begins_at_branch (sym (unroll items k i rest lt is)) ∙ h.last e

-- what the loop keeps: with what is left these are the lines wanted, and what is left is formed
pub record Keeps (all : List Branching) (ended : Bool) (wanted found : List (List ℕ)) (rest : Body) : Type 0 where
  pub formed : IsFormed all rest
  pub comes : Comes all ended wanted found rest

pub keeps_more : (all : List Branching) (items : List Item) (k : ℕ) (i : Item) (rest : Body) (begun begun' : Bool) (wanted w1 w2 : List (List ℕ)) → k < length items → i ≡ get_or items k i
    → Keeps all begun wanted w1 (items_then (drop k items) rest) → AddsItem all begun begun' w1 w2 i (items_then (drop (k + 1) items) rest)
    → Keeps all begun' wanted w2 (items_then (drop (k + 1) items) rest)
keeps_more all items k i rest begun begun' wanted w1 w2 lt is h adds =
    let tail : Body = items_then (drop (k + 1) items) rest in
    let formed : IsFormed all (item_then i tail) = subst (IsFormed all) (unroll items k i rest lt is) h.formed in
    let comes : Comes all begun wanted w1 (item_then i tail) = subst (Comes all begun wanted w1) (unroll items k i rest lt is) h.comes in
    record {
      formed = item_rest all i tail formed;
      comes = record { same = adds.same ∙ comes.same; last = λ e. item-last all i tail formed (sym adds.last ∙ e) };
    }

pub keeps_none : (all : List Branching) (items : List Item) (rest : Body) (w0 : List (List ℕ)) → IsFormed all (items_then items rest)
    → Keeps all false (w0 ++ lines all [] (items_then items rest)) w0 (items_then items rest)
keeps_none all items rest w0 h = record {
  formed = h;
  comes = record { same = refl; last = λ e. absurd (false≢true e) };
}

pub keeps_all : (all : List Branching) (ended : Bool) (items : List Item) (k : ℕ) (rest : Body) (wanted found : List (List ℕ)) → drop k items ≡ []
    → Keeps all ended wanted found (items_then (drop k items) rest) → Comes all ended wanted found rest
keeps_all all ended items k rest wanted found none h = subst (λ z. Comes all ended wanted found (items_then z rest)) none h.comes

-- ---- the end

pub end-lines : (all : List Branching) (e : End) → lines [] [] (end_body e) ≡ lines all [] (end_body e)
end-lines all (end.Exit exit) = refl
end-lines all end.Return = refl
end-lines all (end.ReturnValue value) = refl
end-lines all end.Unreachable = refl

no-lines : (all : List Branching) (e : End) → begins_at_branch (end_body e) ≡ true → arm_lines all (end_body e) ≡ []
no-lines all (end.Exit exit) h = refl
no-lines all end.Return h = absurd (false≢true h)
no-lines all (end.ReturnValue value) h = absurd (false≢true h)
no-lines all end.Unreachable h = absurd (false≢true h)

pub sequence_ended : (all : List Branching) (ended : Bool) (e : End) (wanted found : List (List ℕ)) → ended ≡ true → Comes all ended wanted found (end_body e) → found ≡ wanted
sequence_ended all ended e wanted found is h =
    let at : Comes all true wanted found (end_body e) = subst (λ b. Comes all b wanted found (end_body e)) is h in
    sym (append-nil found) ∙ ap (λ z. found ++ z) (sym (no-lines all e (at.last refl))) ∙ at.same

pub sequence_goes : (all : List Branching) (ended : Bool) (e : End) (wanted found : List (List ℕ)) → ended ≡ false → Comes all ended wanted found (end_body e)
    → found ++ lines [] [] (end_body e) ≡ wanted
sequence_goes all ended e wanted found is h =
    let at : Comes all false wanted found (end_body e) = subst (λ b. Comes all b wanted found (end_body e)) is h in
    ap (λ z. found ++ z) (end-lines all e) ∙ at.same
