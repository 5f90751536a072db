-- Of two exits the first may be taken: what is spelled is spelled so too. So two trees of one function are alike but for that.
use Rattle.std.proofs.Common.{◌≡◌, ℕ, Bool, true, false, List, [], ◌∷◌, None, refl, sym, ap, subst}
use Rattle.spv_module.specs.Instruction.{Instruction}
use Rattle.spv_blocks.specs.Blocks.{Code, construct}
use Rattle.spv_blocks.specs.Cutting.{blocks_of}
use Rattle.spv_walk.specs.Contexts.{Context}
use Rattle.spv_bodies.specs.Bodies.{Exit, Entry, Body, Leaves, Finishes, Step, Enters as EntersBlock, Splits, Selects, Switches, Loops, Arms, Last, Also}
use Rattle.spv_bodies.specs.Listing.{branch_line, split_line}
use Rattle.spv_spelling.specs.Spelling as spelled
use Rattle.spv_spelling.specs.Spelling.{Spells, SpellsArm, SpellsArms, SpellsBranch, SpellsExit, SpellsHead, SpellsLoop, SpellsPart}
use Rattle.spv_spelling.specs.Text.{copies, copy_of, phis, text}
use Rattle.spv_respelling.specs.Laws.{FirstIsTaken, ReadsAlike, SpelledAreAlike}
use Rattle.spv_respelling.specs.Normal.{ArmsTakeFirst, TakesFirst, first_taken, first_taken_in, taken_split}
use Rattle.spv_respelling.proofs.Admitted.{listing_is_admitted}
use Rattle.spv_respelling.proofs.Reading.{spelled_is_one}
use Rattle.spv_respelling.proofs.Whole.{respells_listing}

-- ---- trees

-- the first is taken
split_takes : (condition : ℕ) (on : Bool) (exit : Exit) (b : Body) → TakesFirst b → TakesFirst (taken_split condition on exit b)
split_takes condition true exit (Leaves other) h = ((λ e. refl), tt)
split_takes condition false exit (Leaves other) h = ((λ e. refl), tt)
split_takes condition on exit (Finishes words) h = ((λ e. absurd (cc e)), h)
split_takes condition on exit (Step words b) h = ((λ e. absurd (cc e)), h)
split_takes condition on exit (EntersBlock label b) h = ((λ e. absurd (cc e)), h)
split_takes condition on exit (Splits k o x b) h = ((λ e. absurd (cc e)), h)
split_takes condition on exit (Selects control k first second merge rest) h = ((λ e. absurd (cc e)), h)
split_takes condition on exit (Switches control selector cases arms merge rest) h = ((λ e. absurd (cc e)), h)
split_takes condition on exit (Loops entry header control inner next continuing merge rest) h = ((λ e. absurd (cc e)), h)

mutual
  taken_takes : (b : Body) → TakesFirst (first_taken b)
  taken_takes (Leaves exit) = tt
  taken_takes (Finishes words) = tt
  taken_takes (Step words b) = taken_takes b
  taken_takes (EntersBlock label b) = taken_takes b
  taken_takes (Splits condition on exit b) = split_takes condition on exit (first_taken b) (taken_takes b)
  taken_takes (Selects control condition first second merge rest) = (taken_takes first, taken_takes second, taken_takes rest)
  taken_takes (Switches control selector cases arms merge rest) = (arms_take arms, taken_takes rest)
  taken_takes (Loops entry header control inner next continuing merge rest) = (taken_takes inner, taken_takes continuing, taken_takes rest)

  arms_take : (arms : Arms) → ArmsTakeFirst (first_taken_in arms)
  arms_take (Last arm) = taken_takes arm
  arms_take (Also arm arms) = (taken_takes arm, arms_take arms)

copies_taken : (ps : List (List ℕ)) (b : Body) → first_taken (copies ps b) ≡ copies ps (first_taken b)
copies_taken [] b = refl
copies_taken (p ∷ ps) b = ap (Step (copy_of p)) (copies_taken ps b)

-- ---- how they are spelled

module _ (insts : List Instruction) (stays : ℕ → ℕ) where
  abbrev code : Code
  code = blocks_of insts

  -- where the arm leaves too, it may be the exit
  split_spelled : {l : ℕ} {c : Context} {other : ℕ} {b : Body} (condition : ℕ) (on : Bool) (exit : Exit) → construct code l ≡ None
      → SpellsExit insts stays l c exit → SpellsArm insts stays l c other b
      → Spells insts stays l c (split_line condition on exit.target other ∷ []) (taken_split condition on exit b)
  split_spelled condition true exit bare x (spelled.out (spelled.leaves y)) = spelled.splits bare x (spelled.out (spelled.leaves y))
  split_spelled condition false exit bare x (spelled.out (spelled.leaves y)) = spelled.splits bare y (spelled.out (spelled.leaves x))
  split_spelled condition on exit bare x (spelled.out (spelled.comes g take (spelled.parts is head p q))) =
      spelled.splits bare x (spelled.out (spelled.comes g take (spelled.parts is head p q)))
  split_spelled condition on exit bare x (spelled.enters g other r) = spelled.splits bare x (spelled.enters g other r)

  head_split : {h : ℕ} {d : Context} {other : ℕ} {b : Body} (opening : List ℕ) (condition : ℕ) (on : Bool) (exit : Exit)
      → SpellsExit insts stays h d exit → SpellsArm insts stays h d other b
      → SpellsHead insts stays h d opening (opening ∷ split_line condition on exit.target other ∷ []) (taken_split condition on exit b)
  head_split opening condition true exit x (spelled.out (spelled.leaves y)) = spelled.parted x (spelled.out (spelled.leaves y))
  head_split opening condition false exit x (spelled.out (spelled.leaves y)) = spelled.parted y (spelled.out (spelled.leaves x))
  head_split opening condition on exit x (spelled.out (spelled.comes g take (spelled.parts is head p q))) =
      spelled.parted x (spelled.out (spelled.comes g take (spelled.parts is head p q)))
  head_split opening condition on exit x (spelled.enters g other r) = spelled.parted x (spelled.enters g other r)

  mutual
    rest_taken : {l : ℕ} {c : Context} {ls : List (List ℕ)} {b : Body} → Spells insts stays l c ls b → Spells insts stays l c ls (first_taken b)
    rest_taken (spelled.steps is r) = spelled.steps is (rest_taken r)
    rest_taken (spelled.finishes is) = spelled.finishes is
    rest_taken (spelled.joined {l = l} {t = t} {c = c} {body = body} bare g other r) =
        subst (λ z. Spells insts stays l c (branch_line t ∷ []) z) (sym (copies_taken (phis (text insts t)) body)) (spelled.joined bare g other (rest_taken r))
    rest_taken (spelled.branches bare r) = spelled.branches bare (branch_taken r)
    rest_taken (spelled.splits {condition = condition} {on = on} {exit = exit} bare x arm) = split_spelled condition on exit bare x (arm_taken arm)
    rest_taken (spelled.selects is x y p) = spelled.selects is (arm_taken x) (arm_taken y) (part_taken p)
    rest_taken (spelled.switches is x p) = spelled.switches is (arms_taken x) (part_taken p)

    branch_taken : {l : ℕ} {c : Context} {t : ℕ} {b : Body} → SpellsBranch insts stays l c t b → SpellsBranch insts stays l c t (first_taken b)
    branch_taken (spelled.leaves x) = spelled.leaves x
    branch_taken (spelled.comes g take r) = spelled.comes g take (loop_taken r)

    arm_taken : {l : ℕ} {c : Context} {t : ℕ} {b : Body} → SpellsArm insts stays l c t b → SpellsArm insts stays l c t (first_taken b)
    arm_taken (spelled.out r) = spelled.out (branch_taken r)
    arm_taken (spelled.enters {l = l} {t = t} {d = c} {body = body} g other r) =
        subst (λ z. SpellsArm insts stays l c t (EntersBlock t z)) (sym (copies_taken (phis (text insts t)) body)) (spelled.enters g other (rest_taken r))

    arms_taken : {l m : ℕ} {c : Context} {labels : List ℕ} {arms : Arms} → SpellsArms insts stays l m c labels arms
        → SpellsArms insts stays l m c labels (first_taken_in arms)
    arms_taken (spelled.last x) = spelled.last (arm_taken x)
    arms_taken (spelled.also x rest) = spelled.also (arm_taken x) (arms_taken rest)

    part_taken : {l : ℕ} {c : Context} {b : Body} → SpellsPart insts stays l c b → SpellsPart insts stays l c (first_taken b)
    part_taken (spelled.plain is r) = spelled.plain is (rest_taken r)
    part_taken (spelled.placed r) = spelled.placed (loop_taken r)

    loop_taken : {h : ℕ} {c : Context} {entry : Entry} {b : Body} → SpellsLoop insts stays h c entry b → SpellsLoop insts stays h c entry (first_taken b)
    loop_taken (spelled.parts is head p q) = spelled.parts is (head_taken head) (part_taken p) (part_taken q)

    head_taken : {h : ℕ} {d : Context} {opening : List ℕ} {ls : List (List ℕ)} {b : Body} → SpellsHead insts stays h d opening ls b
        → SpellsHead insts stays h d opening ls (first_taken b)
    head_taken (spelled.begins is r) = spelled.begins is (head_taken r)
    head_taken (spelled.goes arm) = spelled.goes (arm_taken arm)
    head_taken (spelled.parted {condition = condition} {on = on} {opening = opening} {exit = exit} x arm) =
        head_split opening condition on exit x (arm_taken arm)

-- ---- functions

pub first_is_taken : FirstIsTaken
first_is_taken insts stays f spells = (
  record { staying = spells.staying; front = spells.front; label = spells.label; body = rest_taken insts stays spells.body },
  taken_takes f.body,
)

pub spelled_are_alike : SpelledAreAlike
spelled_are_alike insts stays more f g admitted spells spells_too =
    let one = first_is_taken insts stays f spells in
    let two = first_is_taken insts more g spells_too in
    spelled_is_one insts stays more (record f { body = first_taken f.body }) (record g { body = first_taken g.body }) admitted one.0 two.0 one.1 two.1

pub reads_alike : ReadsAlike
reads_alike insts stays f admitted spells again same each more g spells_too =
    spelled_are_alike again more (λ l. l) g f (listing_is_admitted insts stays f admitted spells again same each) spells_too
    (respells_listing insts stays f admitted spells again same)
