-- The instructions of a sound function stand as its tree says.
use Rattle.std.proofs.Common.{◌≡◌, ℕ, ◌+◌, inl, inr, Bool, true, false, ◌==◌, ◌||◌, cond, List, [], ◌∷◌, ◌++◌, map, length, drop, Option, Some, None, refl, sym, ap, ◌∙◌, subst, add-one, arith}
use Rattle.std.specs.Prelude.{slice_index}
use Rattle.std.specs.List.{list_any, AllByRecursion}
use Rattle.std.proofs.lemmas.Bool.{eq-eqb}
use Rattle.std.proofs.Math.Seq.{drop-cons, drop-length}
use Rattle.spv_opcodes.specs.declared.op.TheConstants as op
use Rattle.spv_meaning.specs.Statements as says
use Rattle.spv_meaning.specs.Statements.{Statement, said, statements_in}
use Rattle.spv_machine.specs.State.{some_cons}
use Rattle.spv_machine.specs.Steps.{behind_label, behind_function, phi_results, phi_sources, behind_phis}
use Rattle.spv_bodies.specs.Bodies.{Exit, Parameter, Front, ByBranch, InPlace, Body, Leaves, Finishes, Step, Enters, Splits, Selects, Switches, Loops, Arms, Last, Also, target, begins_at_branch}
use Rattle.spv_bodies.specs.Listing.{Branching, branches, branches_of_arms, arriving, instruction, listed, first_target}
use Rattle.spv_trees.specs.Standing as standing
use Rattle.spv_trees.specs.Standing.{StandsExit, StandsFront, IsCopied, Apart, copies, leads_on, is_finish, is_parameter, Stands, StandsAt, StandsArms, StandsLoop, OneOf, IsClosed, StandsFunction}
use Rattle.spv_trees.specs.Sound.{Reaches, is_phi, IsSound, AreSound, SameValues, labels_in, Distinct}
use Rattle.spv_trees.specs.Laws.{ListingLaw}
use Rattle.spv_trees.proofs.Members.{one_left, one_right, phi_takes}
use Rattle.spv_trees.proofs.Closing.{closed_function}
use Rattle.spv_trees.proofs.Ends.{Ends, ends_behind, ends_said, ends_front, ends_body, ends_arm, ends_arms}
use Rattle.spv_trees.proofs.Spelling.{say, say_arm, say_arms, say_front, say_phis, said_front, statements_append, function_says}

-- ---- places by labels

listed_label : (front : List Statement) (r label : ℕ) (rest : List Statement) → (r == label) ≡ true → list_any (λ y. r == y) (labels_in (front ++ says.Label label ∷ rest)) ≡ true
listed_label [] r label rest e = ap (λ b. b || list_any (λ y. r == y) (labels_in rest)) e
listed_label (says.Label q ∷ front) r label rest e = or_behind (r == q) (list_any (λ y. r == y) (labels_in (front ++ says.Label label ∷ rest))) (listed_label front r label rest e)
  where
    or_behind : (a b : Bool) → b ≡ true → (a || b) ≡ true
    or_behind true b h = refl
    or_behind false b h = h
listed_label (other ∷ front) r label rest e = listed_label front r label rest e

not_listed : (b : Bool) (r label : ℕ) (front rest : List Statement) → (r == label) ≡ b → list_any (λ y. r == y) (labels_in (front ++ says.Label label ∷ rest)) ≡ false → (r == label) ≡ false
not_listed true r label front rest e h = absurd (cc (listed_label front r label rest e, h))
not_listed false r label front rest e h = e

place_in : (front : List Statement) (label : ℕ) (rest : List Statement) → Distinct (labels_in (front ++ says.Label label ∷ rest)) → behind_label (front ++ says.Label label ∷ rest) label ≡ Some rest
place_in [] label rest h = ap (λ b. cond b (Some rest) (behind_label rest label)) (eq-eqb label label refl)
place_in (says.Label r ∷ front) label rest h =
    ap (λ b. cond b (Some (front ++ says.Label label ∷ rest)) (behind_label (front ++ says.Label label ∷ rest) label)) (not_listed (r == label) r label front rest refl h.0)
    ∙ place_in front label rest h.1
place_in (other ∷ front) label rest h = place_in front label rest h

pub place : (all : List Statement) → Distinct (labels_in all) → (label : ℕ) (rest : List Statement) → Ends all (says.Label label ∷ rest) → behind_label all label ≡ Some rest
place all distinct label rest h =
    subst (λ z. behind_label z label ≡ Some rest) (sym h.1) (place_in h.0 label rest (subst (λ z. Distinct (labels_in z)) h.1 distinct))

-- ---- statements that do not begin with OpPhi

pub record Plain (rest : List Statement) : Type 0 where
  pub sources : (block : ℕ) → phi_sources rest block ≡ Some []
  pub results : phi_results rest ≡ []
  pub behind : behind_phis rest ≡ rest
  pub copied : (body : Body) → copies rest [] body ≡ body

pub plain_first : (s : Statement) (rest : List Statement) → is_phi s ≡ false → Plain (s ∷ rest)
plain_first (says.Phi t r pairs) rest e = absurd (cc e)
plain_first other rest e = record { sources = λ block. refl; results = refl; behind = refl; copied = λ body. refl }

plain_middle : (statements rest : List Statement) → AllByRecursion (λ s. (leads_on s ≡ true) × (is_phi s ≡ false)) statements → Plain rest → Plain (statements ++ rest)
plain_middle [] rest h plain = plain
plain_middle (s ∷ ss) rest h plain = plain_first s (ss ++ rest) h.0.1

finish_no_phi : (s : Statement) → is_finish s ≡ true → is_phi s ≡ false
finish_no_phi (says.Phi t r pairs) e = absurd (cc e)
finish_no_phi other e = refl

-- merge instructions
abbrev AllMerge : List Statement → Type 0
AllMerge ms = AllByRecursion (λ s. s ≡ says.Merge) ms

plain_merges : (ms rest : List Statement) → AllMerge ms → Plain rest → Plain (ms ++ rest)
plain_merges [] rest h plain = plain
plain_merges (m ∷ ms) rest h plain = plain_first m (ms ++ rest) (ap is_phi h.0)

plain_says : (bs : List Branching) (ms : List Statement) → AllMerge ms → (behind : Option Front) (fronts : List Front) (body : Body) → IsSound behind fronts body → (rest : List Statement) → Plain (say bs ms body rest)
plain_says bs ms merges o fronts (Leaves exit) h rest = plain_merges ms (says.Branch exit.target ∷ rest) merges (plain_first (says.Branch exit.target) rest refl)
plain_says bs ms merges o fronts (Finishes words) h rest =
    plain_merges ms (said words rest) merges
    (subst Plain (sym (said_front words rest ∙ ap (λ l. l ++ rest) h.same)) (plain_first h.statement rest (finish_no_phi h.statement h.finish)))
plain_says bs ms merges o fronts (Step words body) h rest =
    subst Plain (sym (said_front words (say bs ms body rest))) (plain_middle (said words []) (say bs ms body rest) h.0 (plain_says bs ms merges None fronts body h.1 rest))
plain_says bs ms merges o fronts (Enters label body) h rest = plain_merges ms (says.Branch label ∷ says.Label label ∷ say bs [] body rest) merges (plain_first (says.Branch label) (says.Label label ∷ say bs [] body rest) refl)
plain_says bs ms merges o fronts (Splits condition on exit body) h rest =
    let s : Statement = says.BranchConditional condition (cond on exit.target (target body)) (cond on (target body) exit.target) in
    plain_merges ms (s ∷ say_arm bs body rest) merges (plain_first s (say_arm bs body rest) refl)
plain_says bs ms merges o fronts (Selects control condition first second merge body) h rest =
    let others : List Statement = says.BranchConditional condition (target first) (target second) ∷ say_arm bs first (say_arm bs second (say_front bs merge (say bs [] body rest))) in
    plain_merges ms (says.Merge ∷ others) merges (plain_first says.Merge others refl)
plain_says bs ms merges o fronts (Switches control selector cases arms merge body) h rest =
    let others : List Statement = says.Switch selector (first_target arms) cases ∷ say_arms bs arms (say_front bs merge (say bs [] body rest)) in
    plain_merges ms (says.Merge ∷ others) merges (plain_first says.Merge others refl)
plain_says bs ms merges o fronts (Loops (ByBranch ids) header control inner next continuing merge body) h rest =
    let others : List Statement = say_front bs header (say bs (says.Merge ∷ []) inner (say_front bs next (say bs [] continuing (say_front bs merge (say bs [] body rest))))) in
    plain_merges ms (says.Branch header.label ∷ others) merges (plain_first (says.Branch header.label) others refl)
plain_says bs ms merges o fronts (Loops InPlace header control inner next continuing merge body) h rest =
    plain_says bs (says.Merge ∷ []) (refl, tt) None (next ∷ header ∷ merge ∷ fronts) inner h.1 (say_front bs next (say bs [] continuing (say_front bs merge (say bs [] body rest))))

-- ---- the OpPhi of a block

phis_results : (k : ℕ) (bs : List Branching) (ps : List Parameter) (rest : List Statement) → Plain rest → phi_results (say_phis k bs ps rest) ≡ map (λ p. p.result_id) ps
phis_results k bs [] rest plain = plain.results
phis_results k bs (p ∷ ps) rest plain = ap (λ l. p.result_id ∷ l) (phis_results (k + 1) bs ps rest plain)

phis_behind : (k : ℕ) (bs : List Branching) (ps : List Parameter) (rest : List Statement) → Plain rest → behind_phis (say_phis k bs ps rest) ≡ rest
phis_behind k bs [] rest plain = plain.behind
phis_behind k bs (p ∷ ps) rest plain = phis_behind (k + 1) bs ps rest plain

phis_take : (bs : List Branching) → SameValues bs → (block : ℕ) (exit : Exit) → OneOf (block, exit) bs → (label : ℕ) → exit.target ≡ label
    → (k : ℕ) (ps : List Parameter) (rest : List Statement) → Plain rest → length exit.values ≡ k + length ps → phi_sources (say_phis k (arriving label bs) ps rest) block ≡ Some (drop k exit.values)
phis_take bs same block exit h label e k [] rest plain long =
    let all : length exit.values ≡ k = omega arith in
    plain.sources block ∙ ap Some (sym (ap (λ n. drop n exit.values) (sym all) ∙ drop-length exit.values))
phis_take bs same block exit h label e k (p ∷ ps) rest plain long =
    let others : List Statement = say_phis (k + 1) (arriving label bs) ps rest in
    ap (λ o. some_cons o (phi_sources others block)) (phi_takes bs same k block exit label p.parents h e)
    ∙ ap (some_cons (Some (slice_index exit.values k))) (phis_take bs same block exit h label e (k + 1) ps rest plain (omega arith))
    ∙ ap Some (ap (λ n. slice_index exit.values k ∷ drop n exit.values) (add-one k) ∙ sym (drop-cons exit.values k 0 (omega arith)))

-- what stands in the middle of a block leads on
lead : (statements : List Statement) → AllByRecursion (λ s. (leads_on s ≡ true) × (is_phi s ≡ false)) statements → AllByRecursion (λ s. leads_on s ≡ true) statements
lead [] h = tt
lead (s ∷ ss) h = (h.0.0, lead ss h.1)

-- a block in scope: it stands behind its label
record FrontStands (all : List Statement) (bs : List Branching) (front : Front) : Type 0 where
  rest : List Statement
  place : behind_label all front.label ≡ Some (say_phis 0 (arriving front.label bs) front.parameters rest)
  plain : Plain rest

exit_stands : (all : List Statement) (bs : List Branching) → SameValues bs → (block : ℕ) (exit : Exit) → OneOf (block, exit) bs → (fronts : List Front) → AllByRecursion (FrontStands all bs) fronts → Reaches fronts exit → StandsExit all block exit
exit_stands all bs same block exit h [] stand reaches = absurd reaches
exit_stands all bs same block exit h (front ∷ fronts) stand (inl e) = record {
  there = say_phis 0 (arriving front.label bs) front.parameters stand.0.rest;
  place = ap (behind_label all) e.0 ∙ stand.0.place;
  values = phis_take bs same block exit h front.label e.0 0 front.parameters stand.0.rest stand.0.plain (omega (arith, e.1));
}
exit_stands all bs same block exit h (front ∷ fronts) stand (inr reaches) = exit_stands all bs same block exit h fronts stand.1 reaches

-- ---- bodies

module _ (all : List Statement) (distinct : Distinct (labels_in all)) (bs : List Branching) (same : SameValues bs) where
  abbrev Scope : List Front → Type 0
  Scope fronts = AllByRecursion (FrontStands all bs) fronts

  abbrev Within : List Branching → Type 0
  Within some = (x : Branching) → OneOf x some → OneOf x bs

  merged : (ms rest : List Statement) (block : ℕ) (body : Body) → AllMerge ms → Stands all block rest body → Stands all block (ms ++ rest) body
  merged [] rest block body h stands = stands
  merged (m ∷ ms) rest block body h stands =
      subst (λ z. Stands all block (z ∷ (ms ++ rest)) body) (sym h.0) (standing.merges (merged ms rest block body h.1 stands))

  front_stands : (front : Front) (rest : List Statement) → Ends all (say_front bs front rest) → Plain rest → FrontStands all bs front
  front_stands front rest h plain = record { rest = rest; place = place all distinct front.label (say_phis 0 (arriving front.label bs) front.parameters rest) h; plain = plain }

  stands_front : (front : Front) (rest : List Statement) → Ends all (say_front bs front rest) → Plain rest → StandsFront all front (say_phis 0 (arriving front.label bs) front.parameters rest)
  stands_front front rest h plain = record {
    place = place all distinct front.label (say_phis 0 (arriving front.label bs) front.parameters rest) h;
    parameters = phis_results 0 (arriving front.label bs) front.parameters rest plain;
  }

  behind_front : (front : Front) (rest : List Statement) (body : Body) → Plain rest → Stands all front.label rest body → Stands all front.label (behind_phis (say_phis 0 (arriving front.label bs) front.parameters rest)) body
  behind_front front rest body plain stands = subst (λ z. Stands all front.label z body) (sym (phis_behind 0 (arriving front.label bs) front.parameters rest plain)) stands

  entered : (block label : ℕ) (there : List Statement) (body : Body) → Plain there → Ends all (says.Label label ∷ there) → Stands all label there body → StandsAt all block label (Enters label body)
  entered block label there body plain h stands =
      subst (λ z. StandsAt all block label (Enters label z)) (plain.copied body)
      (standing.enters {there = there} {sources = []} {body = body}
      (record { place = place all distinct label there h; values = plain.sources block; apart = subst (λ rs. Apart rs []) (sym plain.results) tt })
      (subst (λ z. Stands all label z body) (sym plain.behind) stands))

  -- what a part begins behind stands before it
  abbrev Begins : (behind : Option Front) → (block : ℕ) → (here : List Statement) → Type 0
  Begins None block here = Unit {0}
  Begins (Some front) block here = (block ≡ front.label) × (behind_label all front.label ≡ Some (say_phis 0 (arriving front.label bs) front.parameters here))

  begins_behind : (front : Front) (rest : List Statement) → Ends all (say_front bs front rest) → Begins (Some front) front.label rest
  begins_behind front rest h = (refl, place all distinct front.label (say_phis 0 (arriving front.label bs) front.parameters rest) h)

  -- a sound body stands, wherever it is listed
  abbrev IsStanding : Body → Type 0
  IsStanding body =
      (behind : Option Front) (fronts : List Front) → IsSound behind fronts body → Scope fronts → (block : ℕ) → Within (branches block body) → (ms : List Statement) → AllMerge ms → (rest : List Statement)
      → Ends all (say bs ms body rest) → Begins behind block (say bs ms body rest) → Stands all block (say bs ms body rest) body

  -- a loop behind the front of its header
  loop_stands : (header : Front) (inner : Body) (next : Front) (continuing : Body) (merge : Front) (body : Body) → IsStanding inner → IsStanding continuing → IsStanding body
      → (fronts : List Front) → IsSound None (next ∷ header ∷ merge ∷ fronts) inner → IsSound (Some next) (header ∷ merge ∷ fronts) continuing → IsSound (Some merge) fronts body
      → Scope fronts → Within (branches header.label inner ++ (branches next.label continuing ++ branches merge.label body)) → (rest : List Statement)
      → let first : List Statement = say bs (says.Merge ∷ []) inner (say_front bs next (say bs [] continuing (say_front bs merge (say bs [] body rest)))) in
      Ends all first → behind_label all header.label ≡ Some (say_phis 0 (arriving header.label bs) header.parameters first)
      → FrontStands all bs header × StandsLoop all header (behind_phis (say_phis 0 (arriving header.label bs) header.parameters first)) inner next continuing merge body
  loop_stands header inner next continuing merge body one two three fronts sound1 sound2 sound3 scope within rest h2 at_header =
      let b1 : List Branching = branches header.label inner in
      let b2 : List Branching = branches next.label continuing in
      let b3 : List Branching = branches merge.label body in
      let last : List Statement = say bs [] body rest in
      let third : List Statement = say bs [] continuing (say_front bs merge last) in
      let first : List Statement = say bs (says.Merge ∷ []) inner (say_front bs next third) in
      let h3 : Ends all (say_front bs next third) = ends_body all bs inner (says.Merge ∷ []) (say_front bs next third) h2 in
      let h4 : Ends all third = ends_front all bs next third h3 in
      let h5 : Ends all (say_front bs merge last) = ends_body all bs continuing [] (say_front bs merge last) h4 in
      let plain1 : Plain first = plain_says bs (says.Merge ∷ []) (refl, tt) None (next ∷ header ∷ merge ∷ fronts) inner sound1 (say_front bs next third) in
      let plain2 : Plain third = plain_says bs [] tt (Some next) (header ∷ merge ∷ fronts) continuing sound2 (say_front bs merge last) in
      let plain3 : Plain last = plain_says bs [] tt (Some merge) fronts body sound3 rest in
      let header_stands : FrontStands all bs header = record { rest = first; place = at_header; plain = plain1 } in
      let inside : Scope (header ∷ merge ∷ fronts) = (header_stands, (front_stands merge last h5 plain3, scope)) in (
        header_stands,
        standing.parts {header = header} {next = next} {merge = merge} {inner = inner} {continuing = continuing} {rest = body}
            (record { place = at_header; parameters = phis_results 0 (arriving header.label bs) header.parameters first plain1 })
            (behind_front header first inner plain1
            (one None (next ∷ header ∷ merge ∷ fronts) sound1 (front_stands next third h3 plain2, inside) header.label (λ x g. within x (one_left x b1 (b2 ++ b3) g)) (says.Merge ∷ []) (refl, tt) (say_front bs next third) h2 tt))
            (stands_front next third h3 plain2)
            (behind_front next third continuing plain2
            (two (Some next) (header ∷ merge ∷ fronts) sound2 inside next.label (λ x g. within x (one_right x b1 (b2 ++ b3) (one_left x b2 b3 g))) [] tt (say_front bs merge last) h4 (begins_behind next third h3)))
            (stands_front merge last h5 plain3)
            (behind_front merge last body plain3
            (three (Some merge) fronts sound3 scope merge.label (λ x g. within x (one_right x b1 (b2 ++ b3) (one_right x b2 b3 g))) [] tt rest (ends_front all bs merge last h5) (begins_behind merge last h5))),
      )

  loop_by_branch : (ids : List ℕ) (header : Front) (control : ℕ) (inner : Body) (next : Front) (continuing : Body) (merge : Front) (body : Body) → IsStanding inner → IsStanding continuing → IsStanding body
      → (behind : Option Front) (fronts : List Front) → IsSound behind fronts (Loops (ByBranch ids) header control inner next continuing merge body) → Scope fronts
      → (block : ℕ) → Within (branches block (Loops (ByBranch ids) header control inner next continuing merge body)) → (rest : List Statement)
      → Ends all (say_arm bs (Loops (ByBranch ids) header control inner next continuing merge body) rest)
      → StandsAt all block header.label (Loops (ByBranch ids) header control inner next continuing merge body)
  loop_by_branch ids header control inner next continuing merge body one two three o fronts sound scope block within rest h =
      let exit : Exit = record { target = header.label; values = ids } in
      let first : List Statement = say bs (says.Merge ∷ []) inner (say_front bs next (say bs [] continuing (say_front bs merge (say bs [] body rest)))) in
      let loop = loop_stands header inner next continuing merge body one two three fronts sound.1 sound.2 sound.3 scope (λ x g. within x (inr g)) rest (ends_front all bs header first h)
      (place all distinct header.label (say_phis 0 (arriving header.label bs) header.parameters first) h) in
      standing.loops {control = control} {ids = ids} {header = header} {next = next} {merge = merge} {inner = inner} {continuing = continuing} {rest = body}
      (exit_stands all bs same block exit (within (block, exit) (inl refl)) (header ∷ []) (loop.0, tt) (inl (refl, sound.0)))
      loop.1

  loop_in_place : (header : Front) (control : ℕ) (inner : Body) (next : Front) (continuing : Body) (merge : Front) (body : Body) → IsStanding inner → IsStanding continuing → IsStanding body
      → (fronts : List Front) → IsSound None (next ∷ header ∷ merge ∷ fronts) inner → IsSound (Some next) (header ∷ merge ∷ fronts) continuing → IsSound (Some merge) fronts body → Scope fronts
      → (block : ℕ) → Within (branches header.label inner ++ (branches next.label continuing ++ branches merge.label body)) → (rest : List Statement)
      → let first : List Statement = say bs (says.Merge ∷ []) inner (say_front bs next (say bs [] continuing (say_front bs merge (say bs [] body rest)))) in
      Ends all first → Begins (Some header) block first → Stands all block first (Loops InPlace header control inner next continuing merge body)
  loop_in_place header control inner next continuing merge body one two three fronts sound1 sound2 sound3 scope block within rest h begins =
      let first : List Statement = say bs (says.Merge ∷ []) inner (say_front bs next (say bs [] continuing (say_front bs merge (say bs [] body rest)))) in
      let whole : Body = Loops InPlace header control inner next continuing merge body in
      let loop = loop_stands header inner next continuing merge body one two three fronts sound1 sound2 sound3 scope within rest h begins.1 in
      let plain : Plain first = plain_says bs (says.Merge ∷ []) (refl, tt) None (next ∷ header ∷ merge ∷ fronts) inner sound1 (say_front bs next (say bs [] continuing (say_front bs merge (say bs [] body rest)))) in
      subst (λ k. Stands all k first whole) (sym begins.0)
      (subst (λ z. Stands all header.label z whole) (phis_behind 0 (arriving header.label bs) header.parameters first plain)
      (standing.placed {control = control} {header = header} {next = next} {merge = merge} {inner = inner} {continuing = continuing} {rest = body} loop.1))

  mutual
    body_stands : (body : Body) (behind : Option Front) (fronts : List Front) → IsSound behind fronts body → Scope fronts → (block : ℕ) → Within (branches block body) → (ms : List Statement) → AllMerge ms → (rest : List Statement)
        → Ends all (say bs ms body rest) → Begins behind block (say bs ms body rest) → Stands all block (say bs ms body rest) body
    body_stands (Leaves exit) o fronts sound scope block within ms merges rest h behind =
        merged ms (says.Branch exit.target ∷ rest) block (Leaves exit) merges (standing.branches (standing.leaves (exit_stands all bs same block exit (within (block, exit) (inl refl)) fronts scope sound)))
    body_stands (Finishes words) o fronts sound scope block within ms merges rest h behind =
        merged ms (said words rest) block (Finishes words) merges
        (subst (λ z. Stands all block z (Finishes words)) (sym (said_front words rest ∙ ap (λ l. l ++ rest) sound.same)) (standing.finishes {statement = sound.statement} {after = rest} sound.same sound.finish))
    body_stands (Step words body) o fronts sound scope block within ms merges rest h behind =
        subst (λ z. Stands all block z (Step words body)) (sym (said_front words (say bs ms body rest)))
        (standing.steps {after = say bs ms body rest} {words = words} {body = body} (lead (said words []) sound.0)
        (body_stands body None fronts sound.1 scope block within ms merges rest (ends_said all words (say bs ms body rest) h) tt))
    body_stands (Enters label body) o fronts sound scope block within ms merges rest h behind =
        let there : List Statement = say bs [] body rest in
        let h1 : Ends all (says.Label label ∷ there) = ends_behind all (says.Branch label ∷ []) (says.Label label ∷ there) (ends_behind all ms (says.Branch label ∷ says.Label label ∷ there) h) in
        merged ms (says.Branch label ∷ says.Label label ∷ there) block (Enters label body) merges (standing.branches
        (entered block label there body (plain_says bs [] tt None fronts body sound rest) h1
        (body_stands body None fronts sound scope label within [] tt rest (ends_behind all (says.Label label ∷ []) there h1) tt)))
    body_stands (Splits condition on exit body) o fronts sound scope block within ms merges rest h behind =
        let s : Statement = says.BranchConditional condition (cond on exit.target (target body)) (cond on (target body) exit.target) in
        merged ms (s ∷ say_arm bs body rest) block (Splits condition on exit body) merges
        (standing.splits {condition = condition} {other = target body} {on = on} {after = say_arm bs body rest} {exit = exit} {body = body}
        (exit_stands all bs same block exit (within (block, exit) (inl refl)) fronts scope sound.0)
        (arm_stands body fronts sound.1 sound.2 scope block (λ x g. within x (inr g)) rest (ends_behind all (s ∷ []) (say_arm bs body rest) (ends_behind all ms (s ∷ say_arm bs body rest) h))))
    body_stands (Selects control condition first second merge body) o fronts sound scope block within ms merges rest h behind =
        let s : Statement = says.BranchConditional condition (target first) (target second) in
        let last : List Statement = say bs [] body rest in
        let at_merge : List Statement = say_front bs merge last in
        let middle : List Statement = say_arm bs second at_merge in
        let h1 : Ends all (say_arm bs first middle) = ends_behind all (says.Merge ∷ s ∷ []) (say_arm bs first middle) (ends_behind all ms (says.Merge ∷ s ∷ say_arm bs first middle) h) in
        let h2 : Ends all middle = ends_arm all bs first middle h1 in
        let h3 : Ends all at_merge = ends_arm all bs second at_merge h2 in
        let plain : Plain last = plain_says bs [] tt (Some merge) fronts body sound.4 rest in
        let inside : Scope (merge ∷ fronts) = (front_stands merge last h3 plain, scope) in
        merged ms (says.Merge ∷ s ∷ say_arm bs first middle) block (Selects control condition first second merge body) merges
        (standing.selects {control = control} {condition = condition} {yes_label = target first} {no_label = target second} {after = say_arm bs first middle} {first = first} {second = second} {rest = body} {merge = merge}
        (arm_stands first (merge ∷ fronts) sound.0 sound.1 inside block (λ x g. within x (one_left x (branches block first) (branches block second ++ branches merge.label body) g)) middle h1)
        (arm_stands second (merge ∷ fronts) sound.2 sound.3 inside block (λ x g. within x (one_right x (branches block first) (branches block second ++ branches merge.label body) (one_left x (branches block second) (branches merge.label body) g))) at_merge h2)
        (stands_front merge last h3 plain)
        (behind_front merge last body plain
        (body_stands body (Some merge) fronts sound.4 scope merge.label (λ x g. within x (one_right x (branches block first) (branches block second ++ branches merge.label body) (one_right x (branches block second) (branches merge.label body) g))) [] tt rest (ends_front all bs merge last h3) (begins_behind merge last h3))))
    body_stands (Switches control selector cases arms merge body) o fronts sound scope block within ms merges rest h behind =
        let s : Statement = says.Switch selector (first_target arms) cases in
        let last : List Statement = say bs [] body rest in
        let at_merge : List Statement = say_front bs merge last in
        let h1 : Ends all (say_arms bs arms at_merge) = ends_behind all (says.Merge ∷ s ∷ []) (say_arms bs arms at_merge) (ends_behind all ms (says.Merge ∷ s ∷ say_arms bs arms at_merge) h) in
        let h2 : Ends all at_merge = ends_arms all bs arms at_merge h1 in
        let plain : Plain last = plain_says bs [] tt (Some merge) fronts body sound.2 rest in
        merged ms (says.Merge ∷ s ∷ say_arms bs arms at_merge) block (Switches control selector cases arms merge body) merges
        (standing.switches {control = control} {selector = selector} {cases = cases} {after = say_arms bs arms at_merge} {arms = arms} {rest = body} {merge = merge}
        (arms_stand arms (merge ∷ fronts) sound.0 (front_stands merge last h2 plain, scope) block (λ x g. within x (one_left x (branches_of_arms block arms) (branches merge.label body) g)) at_merge h1)
        sound.1
        (stands_front merge last h2 plain)
        (behind_front merge last body plain
        (body_stands body (Some merge) fronts sound.2 scope merge.label (λ x g. within x (one_right x (branches_of_arms block arms) (branches merge.label body) g)) [] tt rest (ends_front all bs merge last h2) (begins_behind merge last h2))))
    body_stands (Loops (ByBranch ids) header control inner next continuing merge body) o fronts sound scope block within ms merges rest h behind =
        let first : List Statement = say bs (says.Merge ∷ []) inner (say_front bs next (say bs [] continuing (say_front bs merge (say bs [] body rest)))) in
        let h1 : Ends all (say_front bs header first) = ends_behind all (says.Branch header.label ∷ []) (say_front bs header first) (ends_behind all ms (says.Branch header.label ∷ say_front bs header first) h) in
        merged ms (says.Branch header.label ∷ say_front bs header first) block (Loops (ByBranch ids) header control inner next continuing merge body) merges (standing.branches
        (loop_by_branch ids header control inner next continuing merge body (body_stands inner) (body_stands continuing) (body_stands body) o fronts sound scope block within rest h1))
    body_stands (Loops InPlace header control inner next continuing merge body) o fronts sound scope block within ms merges rest h behind =
        loop_in_place header control inner next continuing merge body (body_stands inner) (body_stands continuing) (body_stands body) fronts sound.1 sound.2 sound.3 scope block within rest h
        (subst (λ z. Begins z block (say bs (says.Merge ∷ []) inner (say_front bs next (say bs [] continuing (say_front bs merge (say bs [] body rest)))))) sound.0 behind)

    arm_stands : (arm : Body) (fronts : List Front) → begins_at_branch arm ≡ true → IsSound None fronts arm → Scope fronts → (block : ℕ) → Within (branches block arm) → (rest : List Statement) → Ends all (say_arm bs arm rest) → StandsAt all block (target arm) arm
    arm_stands (Leaves exit) fronts begins sound scope block within rest h = standing.leaves (exit_stands all bs same block exit (within (block, exit) (inl refl)) fronts scope sound)
    arm_stands (Enters label body) fronts begins sound scope block within rest h =
        let there : List Statement = say bs [] body rest in
        entered block label there body (plain_says bs [] tt None fronts body sound rest) h
        (body_stands body None fronts sound scope label within [] tt rest (ends_behind all (says.Label label ∷ []) there h) tt)
    arm_stands (Loops (ByBranch ids) header control inner next continuing merge body) fronts begins sound scope block within rest h =
        loop_by_branch ids header control inner next continuing merge body (body_stands inner) (body_stands continuing) (body_stands body) None fronts sound scope block within rest h
    arm_stands other fronts begins sound scope block within rest h = absurd (cc begins)

    arms_stand : (arms : Arms) (fronts : List Front) → AreSound fronts arms → Scope fronts → (block : ℕ) → Within (branches_of_arms block arms) → (rest : List Statement) → Ends all (say_arms bs arms rest) → StandsArms all block arms
    arms_stand (Last arm) fronts sound scope block within rest h = standing.last (arm_stands arm fronts sound.0 sound.1 scope block within rest h)
    arms_stand (Also arm arms) fronts sound scope block within rest h =
        standing.also
        (arm_stands arm fronts sound.0 sound.1 scope block (λ x g. within x (one_left x (branches block arm) (branches_of_arms block arms) g)) (say_arms bs arms rest) h)
        (arms_stand arms fronts sound.2 scope block (λ x g. within x (one_right x (branches block arm) (branches_of_arms block arms) g)) rest (ends_arm all bs arm (say_arms bs arms rest) h))

-- ---- functions

no_other : {X : Type 0} (b : Bool) (x : X) (o : Option X) → cond b (Some x) o ≡ None → (b ≡ false) × (o ≡ None)
no_other true x o e = absurd (cc e)
no_other false x o e = (refl, e)

pub function_behind : (front : List Statement) (r : ℕ) (rest : List Statement) → behind_function front r ≡ None → behind_function (front ++ says.Function r ∷ rest) r ≡ Some rest
function_behind [] r rest h = ap (λ b. cond b (Some rest) (behind_function rest r)) (eq-eqb r r refl)
function_behind (says.Function q ∷ front) r rest h =
    let parts = no_other (q == r) front (behind_function front r) h in
    ap (λ b. cond b (Some (front ++ says.Function r ∷ rest)) (behind_function (front ++ says.Function r ∷ rest) r)) parts.0 ∙ function_behind front r rest parts.1
function_behind (other ∷ front) r rest h = function_behind front r rest h

pub listing_law : ListingLaw
listing_law functions r f first last sound known absent distinct =
    let bs : List Branching = branches f.label f.body in
    let all : List Statement = statements_in (first ++ (listed f ++ last)) in
    let rest : List Statement = statements_in (instruction op.FUNCTION_END [] ∷ last) in
    let body : List Statement = say bs [] f.body rest in
    let parameters : List Statement = statements_in f.parameters in
    let whole : all ≡ statements_in first ++ says.Function r ∷ (parameters ++ says.Label f.label ∷ body) = statements_append first (listed f ++ last) ∙ ap (λ l. statements_in first ++ l) (function_says r f sound.function last) in
    let h : Ends all (says.Function r ∷ (parameters ++ says.Label f.label ∷ body)) = (statements_in first, whole) in
    record {
      first_block = body;
      place = ap (λ l. behind_function l r) whole ∙ function_behind (statements_in first) r (parameters ++ says.Label f.label ∷ body) absent;
      parameters = sound.parameters;
      stands =
          body_stands all distinct bs sound.values f.body None [] sound.body tt f.label (λ x g. g) [] tt rest
          (ends_behind all (says.Label f.label ∷ []) body (ends_behind all parameters (says.Label f.label ∷ body) (ends_behind all (says.Function r ∷ []) (parameters ++ says.Label f.label ∷ body) h)))
          tt;
      closed = closed_function functions r f sound known;
    }
