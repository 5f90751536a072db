-- A sound, structured and normal function is spelled by its listing: construct by construct, each block by its own lines.
use Rattle.std.proofs.Common.{◌≡◌, ℕ, inl, inr, Bool, true, false, not, ◌==◌, ◌||◌, List, [], ◌∷◌, ◌++◌, map, length, Option, Some, None, refl, sym, ap, ap₂, ◌∙◌, subst}
use Rattle.std.specs.List.{AllByRecursion}
use Rattle.std.proofs.lemmas.Bool.{eq-eqb}
use Rattle.spv_module.specs.Instruction.{Instruction}
use Rattle.spv_blocks.specs.Blocks.{Code, construct}
use Rattle.spv_blocks.specs.Cutting.{blocks_of}
use Rattle.spv_walk.specs.Contexts.{Context, InSelection, InArm, InBody, InNext, is_exit}
use Rattle.spv_walk.specs.Walk.{end_of}
use Rattle.spv_walk.proofs.Unique.{tells}
use Rattle.spv_bodies.specs.Bodies.{Exit, Front, Entry, ByBranch, InPlace, Body, Leaves, Finishes, Step, Enters, Splits, Selects, Switches, Loops, Arms, Last, Also, Function, target, begins_at_branch}
use Rattle.spv_bodies.specs.Listing.{Branching, arriving, listed, loop_line, phi_lines}
use Rattle.spv_normal.specs.Order.{is_front, is_loop}
use Rattle.spv_tree.specs.Branches.{branches_in}
use Rattle.spv_tree.specs.Fronts.{CarriesAll}
use Rattle.spv_tree.specs.Sound.{ArePlaced, IsSound, opens, targets}
use Rattle.spv_tree.specs.Tree.{words_of}
use Rattle.spv_trees.specs.Standing.{OneOf}
use Rattle.spv_trees.specs.Sound.{SameValues}
use Rattle.spv_spelling.specs.Clean.{no_pointers}
use Rattle.spv_spelling.specs.Spelling as spelled
use Rattle.spv_spelling.specs.Spelling.{Goes, Spells, SpellsArm, SpellsArms, SpellsBranch, SpellsExit, SpellsHead, SpellsLoop, SpellsPart}
use Rattle.spv_spelling.specs.Text.{Take, behind_phis, copies, front_of, parameter_of, phis, text}
use Rattle.spv_structured.specs.Laws.{Opens}
use Rattle.spv_structured.specs.Spots.{Spot, others, spots_in, blocks_in}
use Rattle.spv_structured.specs.Structured.{IsStructured, first_end}
use Rattle.spv_structured.proofs.Bare.{bare}
use Rattle.spv_structured.proofs.Entered.{enters, no_exit}
use Rattle.spv_structured.proofs.ListedBlocks.{listed_blocks}
use Rattle.spv_structured.proofs.Lists.{all_at, contained, filter_in, pairs_at, Same, Before, Behind}
use Rattle.spv_structured.proofs.Looked.{construct_of, end_at, names_of}
use Rattle.spv_structured.proofs.Naming.{entered_unnamed}
use Rattle.spv_structured.proofs.Positions.{ArmsPosition, Going, Node, Position, arms_behind, arms_of, construct_in, entered_going, entered_node, first_arm, first_node, header_going, header_node, in_header, last_arm, merge_node, next_arm, next_node, past_split, second_arm, selection_node, stepped, switch_node}
use Rattle.spv_structured.proofs.Targets.{AllLeaveWell, structured_leaves}
use Rattle.spv_respelling.specs.Normal.{AreNormal, IsNamed, IsNormal, IsNormalBody}
use Rattle.spv_respelling.proofs.OwnLines.{own, spot_lines}
use Rattle.spv_respelling.proofs.ListedTexts.{spot_text}
use Rattle.spv_respelling.proofs.ReadFronts.{FrontAt, all_taken, behind_listed, body_no_phi, front_found, listed_phis, parameters_again}

-- ---- loops in place

abbrev is_placed : Body → Bool
is_placed (Loops InPlace header control inner next continuing merge rest) = true
is_placed other = false

-- none stands where there is no front
not_placed : (b : Body) → ArePlaced None b → is_placed b ≡ false
not_placed (Loops InPlace header control inner next continuing merge rest) placed = absurd (cc (placed.0))
not_placed (Loops (ByBranch values) header control inner next continuing merge rest) placed = refl
not_placed (Leaves exit) placed = refl
not_placed (Finishes words) placed = refl
not_placed (Step words body) placed = refl
not_placed (Enters label body) placed = refl
not_placed (Splits condition on exit body) placed = refl
not_placed (Selects control condition first second merge rest) placed = refl
not_placed (Switches control selector cases arms merge rest) placed = refl

-- so the block opens no loop
no_loop : (b : Body) (front : Option Front) → ArePlaced front b → is_placed b ≡ false → is_loop (construct_in b) ≡ false
no_loop (Loops InPlace header control inner next continuing merge rest) front placed e = absurd (cc e)
no_loop (Loops (ByBranch values) header control inner next continuing merge rest) front placed e = refl
no_loop (Leaves exit) front placed e = refl
no_loop (Finishes words) front placed e = refl
no_loop (Step words body) front placed e = no_loop body None placed (not_placed body placed)
no_loop (Enters label body) front placed e = refl
no_loop (Splits condition on exit body) front placed e = refl
no_loop (Selects control condition first second merge rest) front placed e = refl
no_loop (Switches control selector cases arms merge rest) front placed e = refl

module _ (f : Function) (again : List Instruction) (sound : IsSound f) (opened : Opens f) (structured : IsStructured no_pointers f)
    (same : words_of again ≡ listed f) where
  abbrev g : Code
  g = blocks_of again

  abbrev all : List Branching
  all = branches_in f

  abbrev NodeOf : Spot → Type 0
  NodeOf s = Node no_pointers f s

  abbrev PositionOf : Spot → Context → ℕ → Body → Type 0
  PositionOf s c l b = Position no_pointers f s c l b

  abbrev stay : ℕ → ℕ
  stay l = l

  alike : bare g ≡ blocks_in f
  alike = listed_blocks f again sound opened same

  well : AllLeaveWell no_pointers f
  well = structured_leaves no_pointers f structured

  -- ---- what a block of the listing is

  opens_at : (s : Spot) (l : ℕ) → NodeOf s → s.label ≡ l → construct g l ≡ construct_in s.body
  opens_at s l n e = ap (construct g) (sym e) ∙ construct_of no_pointers f sound structured.arms g alike s n

  ends_at : (s : Spot) (l : ℕ) → NodeOf s → s.label ≡ l → end_of g l ≡ first_end s.body
  ends_at s l n e = ap (end_of g) (sym e) ∙ end_at no_pointers f sound structured.arms g alike s n

  text_at : (s : Spot) → NodeOf s → text again s.label ≡ spot_lines all s
  text_at s n = spot_text f again sound opened same s n.member n.position.formed

  -- of one with a front
  front_text : (s : Spot) (front : Front) → NodeOf s → s.front ≡ Some front
      → text again s.label ≡ phi_lines 0 (arriving front.label all) front.parameters ++ own [] s.body
  front_text s front n is = text_at s n ∙ ap (λ z. Rattle.spv_respelling.proofs.OwnLines.front_phis all z ++ own [] s.body) is

  front_phi_lines : (s : Spot) (front : Front) → NodeOf s → s.front ≡ Some front
      → phis (text again s.label) ≡ phi_lines 0 (arriving front.label all) front.parameters
  front_phi_lines s front n is =
      ap phis (front_text s front n is)
      ∙ listed_phis 0 (arriving front.label all) front.parameters (own [] s.body) (body_no_phi all s.body n.position.formed)

  behind_front : (s : Spot) (front : Front) → NodeOf s → s.front ≡ Some front → behind_phis (text again s.label) ≡ own [] s.body
  behind_front s front n is =
      ap behind_phis (front_text s front n is)
      ∙ behind_listed 0 (arriving front.label all) front.parameters (own [] s.body) (body_no_phi all s.body n.position.formed)

  front_again : (s : Spot) (front : Front) → NodeOf s → s.front ≡ Some front → IsNamed all front → front_of again stay front.label ≡ front
  front_again s front n is named =
      let at : front.label ≡ s.label = (n.fits front is).0 in
      ap (λ ps. record front { parameters = ps })
      (ap (λ l. map (parameter_of stay) (phis (text again l))) at ∙ ap (map (parameter_of stay)) (front_phi_lines s front n is)
      ∙ parameters_again 0 (arriving front.label all) front.parameters named)

  -- ---- branches

  same_values : SameValues all
  same_values x y a b from to = elim (pairs_at Rattle.spv_tree.specs.Sound.AreAlike all sound.alike x y a b) [
    | Same e ↦ ap (λ z. z.1.values) e
    | Before r ↦ r from to
    | Behind r ↦ sym (r (sym from) (sym to))
  ]

  -- the OpPhi of its target take the values of a branch
  taken : (l : ℕ) (exit : Exit) → OneOf (l, exit) all → Take l (phis (text again exit.target)) exit.values
  taken l exit h =
      let there : FrontAt all (others [] f.label f.body) exit.target =
      front_found all exit.target f.body [] f.label sound.formed
      (contained (Rattle.spv_tree.specs.Sound.fronts f.body) exit.target
      (all_at (λ branching. Rattle.std.specs.Prelude.Contains (Rattle.spv_tree.specs.Sound.fronts f.body) branching.1.target) all sound.arrive (l, exit) h)) in
      let n : NodeOf there.spot = Rattle.spv_structured.proofs.Induction.each_node no_pointers f sound structured.arms there.spot (inr there.one) in
      let count : length exit.values ≡ length there.front.parameters =
      all_at (CarriesAll (length there.front.parameters)) (arriving there.front.label all) there.filled.values (l, exit)
      (filter_in (λ branching. branching.1.target == there.front.label) (l, exit) all h (eq-eqb exit.target there.front.label (sym there.label))) in
      subst (λ z. Take l z exit.values)
      (sym (front_phi_lines there.spot there.front n there.is) ∙ ap (λ z. phis (text again z)) there.at)
      (all_taken all same_values l exit there.front.label h (sym there.label) there.front.parameters count)

  exit_again : (s : Spot) (c : Context) (l : ℕ) (exit : Exit) → NodeOf s → s.label ≡ l → OneOf (l, exit) all → is_exit c (first_end s.body) exit.target ≡ true
      → SpellsExit again stay l c exit
  exit_again s c l exit n e h out = record { leaves = ap (λ z. is_exit c z exit.target) (ends_at s l n e) ∙ out; values = taken l exit h }

  goes_again : (s r : Spot) (l : ℕ) → NodeOf s → NodeOf r → Going no_pointers f s r → r.from ≡ s.label → s.label ≡ l → Goes again stay l r.context r.label
  goes_again s r l n k going from e = subst (λ z. Goes again stay z r.context r.label) e (record {
    enters = enters no_pointers f sound structured.arms g alike well s r n k going from;
    stays_in = elim (tells (is_exit r.context (end_of g s.label) r.label)) [
      | inr out ↦ out
      | inl leaves ↦ absurd (no_exit no_pointers f sound structured.arms g alike s r (first_end s.body) n k going
          (ap (λ d. is_exit d (first_end s.body) r.label) (sym going.inside) ∙ ap (λ z. is_exit r.context z r.label) (sym (ends_at s s.label n refl)) ∙ leaves))
    ];
  })

  -- a block that one branch enters is no front
  no_front : (r : Spot) → NodeOf r → OneOf r.label (Rattle.spv_structured.proofs.Naming.unnamed f.body) → is_placed r.body ≡ false → is_front g r.label ≡ false
  no_front r n h other =
      ap₂ (λ k b. not (k == 0) || b) (names_of no_pointers f sound structured.arms g alike r.label ∙ entered_unnamed f sound r.label h)
      (ap is_loop (opens_at r r.label n refl) ∙ no_loop r.body n.position.front n.position.placed other)

  -- ---- how each body is spelled

  -- the block that a merge block, a continue target or a header begins
  abbrev part_spot : Context → (from : ℕ) → Front → Body → Spot
  part_spot c from front b = record { context = c; from = from; label = front.label; front = Some front; body = b }

  -- where it stands right in a block, at the end of one, at the end of a header, and as a loop in place
  record IsSpelled (b : Body) : Type 0 where
    body : (s : Spot) (c : Context) (l : ℕ) → NodeOf s → PositionOf s c l b → construct_in b ≡ construct_in s.body → is_placed b ≡ false
        → IsNormalBody all false b
        → Spells again stay l c (own [] b) b
    arm : (s : Spot) (c : Context) (l : ℕ) → NodeOf s → PositionOf s c l b → begins_at_branch b ≡ true → IsNormalBody all true b
        → SpellsArm again stay l c (target b) b
    head : (s : Spot) (c : Context) (l : ℕ) (opening : List ℕ) → NodeOf s → PositionOf s c l b → opens b ≡ true → IsNormalBody all true b
        → SpellsHead again stay l c opening (own (opening ∷ []) b) b
    placed : (c : Context) (from : ℕ) (front : Front) → NodeOf (part_spot c from front b) → is_placed b ≡ true → IsNormalBody all false b
        → SpellsLoop again stay front.label c InPlace b

  abbrev AreSpelled : Arms → Type 0
  AreSpelled arms = (s : Spot) (c : Context) (l m : ℕ) → NodeOf s → ArmsPosition no_pointers f s c l m arms → AreNormal all arms
      → SpellsArms again stay l m c (targets arms) arms

  -- a merge block or continue target
  part_again : (b : Body) (c : Context) (from : ℕ) (front : Front) → IsSpelled b → NodeOf (part_spot c from front b) → IsNormalBody all false b
      → SpellsPart again stay front.label c b
  part_again b c from front h n normal =
      let s = part_spot c from front b in
      elim (tells (is_placed b)) [
        | inl e ↦ spelled.placed (h.placed c from front n e normal)
        | inr e ↦ spelled.plain (ap is_loop (opens_at s front.label n refl) ∙ no_loop b n.position.front n.position.placed e)
            (subst (λ z. Spells again stay front.label c z b) (sym (behind_front s front n refl)) (h.body s c front.label n n.position refl e normal))
      ]

  -- a loop, by its header's block
  loop_again : (entry : Entry) (header : Front) (control : ℕ) (inner : Body) (next : Front) (continuing : Body) (merge : Front) (rest : Body)
      (c : Context) (from : ℕ)
      → NodeOf (part_spot c from header (Loops InPlace header control inner next continuing merge rest)) → IsSpelled inner → IsSpelled continuing
      → IsSpelled rest
      → IsNormalBody all false (Loops InPlace header control inner next continuing merge rest)
      → SpellsLoop again stay header.label c entry (Loops entry header control inner next continuing merge rest)
  loop_again entry header control inner next continuing merge rest c from n one two three normal =
      let loop = Loops InPlace header control inner next continuing merge rest in
      let s = part_spot c from header loop in
      let p = n.position in
      let i = InBody header.label merge.label next.label ∷ c in
      let j = InNext header.label merge.label ∷ c in
      let opening = loop_line merge.label next.label control in
      let next_led = next_node no_pointers f s c header.label header control inner next continuing merge rest n p in
      let merge_led = merge_node no_pointers f s c header.label header control inner next continuing merge rest n p in
      let made : SpellsLoop again stay header.label c entry
      (Loops entry (front_of again stay header.label) control inner (front_of again stay next.label) continuing (front_of again stay merge.label) rest) =
      spelled.parts (opens_at s header.label n refl)
      (subst (λ z. SpellsHead again stay header.label i opening z inner) (sym (behind_front s header n refl))
      (one.head s i header.label opening n (in_header no_pointers f s c header.label header control inner next continuing merge rest p) p.formed.0 normal.3))
      (part_again continuing j header.label next two next_led.node normal.4) (part_again rest c header.label merge three merge_led.node normal.5) in
      subst (λ z. SpellsLoop again stay header.label c entry (Loops entry header control inner next continuing z rest))
      (front_again (part_spot c header.label merge rest) merge merge_led.node refl normal.2)
      (subst (λ z. SpellsLoop again stay header.label c entry (Loops entry header control inner z continuing (front_of again stay merge.label) rest))
      (front_again (part_spot j header.label next continuing) next next_led.node refl normal.1)
      (subst (λ z. SpellsLoop again stay header.label c entry
      (Loops entry z control inner (front_of again stay next.label) continuing (front_of again stay merge.label) rest))
      (front_again s header n refl normal.0) made))

  -- a loop in place, by the front that it stands behind
  loop_placed : (header : Front) (control : ℕ) (inner : Body) (next : Front) (continuing : Body) (merge : Front) (rest : Body)
      (c : Context) (from : ℕ) (front : Front)
      → NodeOf (part_spot c from front (Loops InPlace header control inner next continuing merge rest)) → IsSpelled inner → IsSpelled continuing
      → IsSpelled rest
      → IsNormalBody all false (Loops InPlace header control inner next continuing merge rest)
      → SpellsLoop again stay front.label c InPlace (Loops InPlace header control inner next continuing merge rest)
  loop_placed header control inner next continuing merge rest c from front n one two three normal =
      let loop = Loops InPlace header control inner next continuing merge rest in
      let here : front ≡ header = cc ((n.position.at header n.position.placed.0).1) in
      subst (λ (z : Front). SpellsLoop again stay z.label c InPlace loop) (sym here)
      (loop_again InPlace header control inner next continuing merge rest c from
      (subst (λ (z : Front). NodeOf (part_spot c from z loop)) here n) one two three normal)

  -- ---- branches and arms

  leaves_again : (exit : Exit) (s : Spot) (c : Context) (l : ℕ) → NodeOf s → PositionOf s c l (Leaves exit)
      → SpellsBranch again stay l c exit.target (Leaves exit)
  leaves_again exit s c l n p = spelled.leaves (exit_again s c l exit n p.label (n.within (l, exit) (p.sends (l, exit) (inl refl))) (p.flows structured))

  comes_again : (values : List ℕ) (header : Front) (control : ℕ) (inner : Body) (next : Front) (continuing : Body) (merge : Front) (rest : Body)
      (s : Spot) (c : Context) (l : ℕ) → NodeOf s
      → PositionOf s c l (Loops (ByBranch values) header control inner next continuing merge rest) → IsSpelled inner → IsSpelled continuing → IsSpelled rest
      → IsNormalBody all false (Loops InPlace header control inner next continuing merge rest)
      → SpellsBranch again stay l c header.label (Loops (ByBranch values) header control inner next continuing merge rest)
  comes_again values header control inner next continuing merge rest s c l n p one two three normal =
      let exit : Exit = record { target = header.label; values = values } in
      let led = header_node no_pointers f s c l values header control inner next continuing merge rest n p in
      let going = header_going no_pointers f s c l values header control inner next continuing merge rest p in
      let r = part_spot c l header (Loops InPlace header control inner next continuing merge rest) in
      spelled.comes (goes_again s r l n led.node going led.child.from p.label) (taken l exit (n.within (l, exit) (p.sends (l, exit) (inl refl))))
      (loop_again (ByBranch values) header control inner next continuing merge rest c l led.node one two three normal)

  enters_again : (label : ℕ) (b : Body) (s : Spot) (c : Context) (l : ℕ) → NodeOf s → PositionOf s c l (Enters label b) → IsSpelled b → IsNormalBody all false b
      → SpellsArm again stay l c label (Enters label b)
  enters_again label b s c l n p h normal =
      let led = entered_node no_pointers f s c l label b n p in
      let going = entered_going no_pointers f s c l label b p in
      let r : Spot = record { context = c; from = l; label = label; front = None; body = b } in
      let other = not_placed b p.placed in
      let none = body_no_phi all b led.node.position.formed in
      let lines : text again label ≡ own [] b = text_at r led.node in
      let on = h.body r c label led.node led.node.position refl other normal in
      let made : SpellsArm again stay l c label (Enters label (copies (phis (text again label)) b)) =
      spelled.enters (goes_again s r l n led.node going led.child.from p.label) (no_front r led.node going.entered other)
      (subst (λ z. Spells again stay label c z b) (sym (ap behind_phis lines ∙ none.whole)) on) in
      subst (λ z. SpellsArm again stay l c label (Enters label (copies z b))) (ap phis lines ∙ none.none) made

  -- ---- lines

  splits_again : (condition : ℕ) (on : Bool) (exit : Exit) (s : Spot) (c : Context) (l : ℕ) (b : Body) → NodeOf s
      → PositionOf s c l (Splits condition on exit b)
      → SpellsExit again stay l c exit
  splits_again condition on exit s c l b n p =
      exit_again s c l exit n p.label (n.within (l, exit) (p.sends (l, exit) (inl refl))) (p.flows structured).0

  selects_again : (control condition : ℕ) (first second : Body) (merge : Front) (rest : Body) → IsSpelled first → IsSpelled second → IsSpelled rest
      → (s : Spot) (c : Context) (l : ℕ) → NodeOf s
      → PositionOf s c l (Selects control condition first second merge rest)
      → construct_in (Selects control condition first second merge rest) ≡ construct_in s.body
      → IsNormalBody all false (Selects control condition first second merge rest)
      → Spells again stay l c (own [] (Selects control condition first second merge rest)) (Selects control condition first second merge rest)
  selects_again control condition first second merge rest one two three s c l n p k normal =
      let led = selection_node no_pointers f s c l control condition first second merge rest n p in
      subst (λ z. Spells again stay l c (own [] (Selects control condition first second merge rest)) (Selects control condition first second z rest))
      (front_again (part_spot c l merge rest) merge led.node refl normal.0)
      (spelled.selects (opens_at s l n p.label ∙ sym k)
      (one.arm s (InSelection merge.label ∷ c) l n (first_arm no_pointers f s c l control condition first second merge rest p) p.formed.0 normal.1)
      (two.arm s (InSelection merge.label ∷ c) l n (second_arm no_pointers f s c l control condition first second merge rest p) p.formed.1 normal.2)
      (part_again rest c l merge three led.node normal.3))

  switches_again : (control selector : ℕ) (cases : List (ℕ × ℕ)) (arms : Arms) (merge : Front) (rest : Body) → AreSpelled arms → IsSpelled rest
      → (s : Spot) (c : Context) (l : ℕ) → NodeOf s
      → PositionOf s c l (Switches control selector cases arms merge rest)
      → construct_in (Switches control selector cases arms merge rest) ≡ construct_in s.body
      → IsNormalBody all false (Switches control selector cases arms merge rest)
      → Spells again stay l c (own [] (Switches control selector cases arms merge rest)) (Switches control selector cases arms merge rest)
  switches_again control selector cases arms merge rest one two s c l n p k normal =
      let led = switch_node no_pointers f s c l control selector cases arms merge rest n p in
      subst (λ z. Spells again stay l c (own [] (Switches control selector cases arms merge rest)) (Switches control selector cases arms z rest))
      (front_again (part_spot c l merge rest) merge led.node refl normal.1)
      (spelled.switches (opens_at s l n p.label ∙ sym k)
      (subst (λ z. SpellsArms again stay l merge.label c z arms) normal.0
      (one s c l merge.label n (arms_of no_pointers f s c l control selector cases arms merge rest p) normal.2))
      (part_again rest c l merge two led.node normal.3))

  mutual
    is_spelled : (b : Body) → IsSpelled b
    is_spelled (Leaves exit) = record {
      body = λ s c l n p k e normal. spelled.branches (opens_at s l n p.label ∙ sym k) (leaves_again exit s c l n p);
      arm = λ s c l n p e normal. spelled.out (leaves_again exit s c l n p);
      head = λ s c l opening n p e normal. spelled.goes (spelled.out (leaves_again exit s c l n p));
      placed = λ c from front n e normal. absurd (cc e);
    }
    is_spelled (Finishes words) = record {
      body = λ s c l n p k e normal. spelled.finishes p.formed;
      arm = λ s c l n p e normal. absurd (cc e);
      head = λ s c l opening n p e normal. absurd (cc e);
      placed = λ c from front n e normal. absurd (cc e);
    }
    is_spelled (Step words b) =
        let on = is_spelled b in
        record {
          body = λ s c l n p k e normal.
              spelled.steps p.formed.0 (on.body s c l n (stepped no_pointers f s c l words b p) k (not_placed b p.placed) normal);
          arm = λ s c l n p e normal. absurd (cc e);
          head = λ s c l opening n p e normal. spelled.begins p.formed.0 (on.head s c l opening n (stepped no_pointers f s c l words b p) e normal);
          placed = λ c from front n e normal. absurd (cc e);
        }
    is_spelled (Enters label b) =
        let on = is_spelled b in
        record {
          body = λ s c l n p k e normal. absurd (cc (normal.0));
          arm = λ s c l n p e normal. enters_again label b s c l n p on normal.1;
          head = λ s c l opening n p e normal. spelled.goes (enters_again label b s c l n p on normal.1);
          placed = λ c from front n e normal. absurd (cc e);
        }
    is_spelled (Splits condition on exit b) =
        let after = is_spelled b in
        record {
          body = λ s c l n p k e normal.
              spelled.splits (opens_at s l n p.label ∙ sym k) (splits_again condition on exit s c l b n p)
              (after.arm s c l n (past_split no_pointers f s c l condition on exit b p) p.formed.0 normal);
          arm = λ s c l n p e normal. absurd (cc e);
          head = λ s c l opening n p e normal.
              spelled.parted (splits_again condition on exit s c l b n p)
              (after.arm s c l n (past_split no_pointers f s c l condition on exit b p) p.formed.0 normal);
          placed = λ c from front n e normal. absurd (cc e);
        }
    is_spelled (Selects control condition first second merge rest) =
        let one = is_spelled first in
        let two = is_spelled second in
        let three = is_spelled rest in
        record {
          body = λ s c l n p k e normal. selects_again control condition first second merge rest one two three s c l n p k normal;
          arm = λ s c l n p e normal. absurd (cc e);
          head = λ s c l opening n p e normal. absurd (cc e);
          placed = λ c from front n e normal. absurd (cc e);
        }
    is_spelled (Switches control selector cases arms merge rest) =
        let one = are_spelled arms in
        let two = is_spelled rest in
        record {
          body = λ s c l n p k e normal. switches_again control selector cases arms merge rest one two s c l n p k normal;
          arm = λ s c l n p e normal. absurd (cc e);
          head = λ s c l opening n p e normal. absurd (cc e);
          placed = λ c from front n e normal. absurd (cc e);
        }
    is_spelled (Loops (ByBranch values) header control inner next continuing merge rest) =
        let one = is_spelled inner in
        let two = is_spelled continuing in
        let three = is_spelled rest in
        record {
          body = λ s c l n p k e normal.
              spelled.branches (opens_at s l n p.label ∙ sym k)
              (comes_again values header control inner next continuing merge rest s c l n p one two three normal);
          arm = λ s c l n p e normal. spelled.out (comes_again values header control inner next continuing merge rest s c l n p one two three normal);
          head = λ s c l opening n p e normal.
              spelled.goes (spelled.out (comes_again values header control inner next continuing merge rest s c l n p one two three normal));
          placed = λ c from front n e normal. absurd (cc e);
        }
    is_spelled (Loops InPlace header control inner next continuing merge rest) =
        let one = is_spelled inner in
        let two = is_spelled continuing in
        let three = is_spelled rest in
        record {
          body = λ s c l n p k e normal. absurd (cc e);
          arm = λ s c l n p e normal. absurd (cc e);
          head = λ s c l opening n p e normal. absurd (cc e);
          placed = λ c from front n e normal. loop_placed header control inner next continuing merge rest c from front n one two three normal;
        }

    are_spelled : (arms : Arms) → AreSpelled arms
    are_spelled (Last arm) =
        let one = is_spelled arm in
        λ s c l m n p normal. spelled.last (one.arm s (InArm l m (target arm) ∷ c) l n (last_arm no_pointers f s c l m arm p) p.formed.0 normal)
    are_spelled (Also arm arms) =
        let one = is_spelled arm in
        let more = are_spelled arms in
        λ s c l m n p normal.
        spelled.also (one.arm s (InArm l m (target arm) ∷ c) l n (next_arm no_pointers f s c l m arm arms p) p.formed.0 normal.0)
        (more s c l m n (arms_behind no_pointers f s c l m arm arms p) normal.1)

  -- the function's body, from its first block
  pub body_again : IsNormal f → Spells again stay f.label [] (text again f.label) f.body
  body_again normal =
      let s = Rattle.spv_structured.specs.Spots.first_spot f in
      let n = first_node no_pointers f sound structured.arms in
      subst (λ z. Spells again stay f.label [] z f.body) (sym (text_at s n))
      ((is_spelled f.body).body s [] f.label n n.position refl (not_placed f.body sound.placed) normal)
