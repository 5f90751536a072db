-- What the instructions of a body say, as they are listed.
use Rattle.std.proofs.Common.{◌≡◌, ℕ, ◌+◌, ◌<◌, Bool, true, false, cond, nat_eq, List, [], ◌∷◌, ◌++◌, length, refl, sym, ap, ◌∙◌, append_assoc, arith}
use Rattle.std.proofs.lemmas.Nat.{mod-mul-add}
use Rattle.std.specs.Prelude.{slice_index, drop}
use Rattle.std.specs.Map.{lookup}
use Rattle.spv_grammar.specs.Operands.{opcode_of}
use Rattle.spv_opcodes.specs.declared.op.TheConstants as op
use Rattle.spv_meaning.specs.Statements as says
use Rattle.spv_meaning.specs.Statements.{Statement, said, statements_in, by_row, rows, is_silent_opcode, pairs}
use Rattle.spv_bodies.specs.Bodies.{Parameter, Front, ByBranch, InPlace, Body, Leaves, Finishes, Step, Enters, Splits, Selects, Switches, Loops, Arms, Last, Also, Function, target}
use Rattle.spv_bodies.specs.Listing.{Branching, arriving, in_order, phi_pairs, pair_words, instruction, label_line, branch_line, split_line, phi_line, phi_lines, front_lines, selection_line, loop_line, lines, arm_lines, first_target, lines_of_arms, branches, listed}

-- ---- statements in the order of the lines, before others

abbrev pub say_phis : (k : ℕ) → List Branching → List Parameter → List Statement → List Statement
say_phis k all [] rest = rest
say_phis k all (p ∷ ps) rest = says.Phi p.type p.result_id (phi_pairs k (in_order p.parents all)) ∷ say_phis (k + 1) all ps rest

abbrev pub say_front : List Branching → Front → List Statement → List Statement
say_front all front rest = says.Label front.label ∷ say_phis 0 (arriving front.label all) front.parameters rest

abbrev mutual
  pub say : List Branching → (merges : List Statement) → Body → List Statement → List Statement
  say all merges (Leaves exit) rest = merges ++ says.Branch exit.target ∷ rest
  say all merges (Finishes words) rest = merges ++ said words rest
  say all merges (Step words body) rest = said words (say all merges body rest)
  say all merges (Enters label body) rest = merges ++ says.Branch label ∷ says.Label label ∷ say all [] body rest
  say all merges (Splits condition on exit body) rest =
      merges ++ says.BranchConditional condition (cond on exit.target (target body)) (cond on (target body) exit.target) ∷ say_arm all body rest
  say all merges (Selects control condition first second merge body) rest =
      merges ++ says.Merge ∷ says.BranchConditional condition (target first) (target second) ∷ say_arm all first (say_arm all second (say_front all merge (say all [] body rest)))
  say all merges (Switches control selector cases arms merge body) rest =
      merges ++ says.Merge ∷ says.Switch selector (first_target arms) cases ∷ say_arms all arms (say_front all merge (say all [] body rest))
  say all merges (Loops (ByBranch ids) header control inner next continuing merge body) rest =
      merges ++ says.Branch header.label ∷ say_front all header (say all (says.Merge ∷ []) inner (say_front all next (say all [] continuing (say_front all merge (say all [] body rest)))))
  say all merges (Loops InPlace header control inner next continuing merge body) rest =
      say all (says.Merge ∷ []) inner (say_front all next (say all [] continuing (say_front all merge (say all [] body rest))))

  pub say_arm : List Branching → Body → List Statement → List Statement
  say_arm all (Enters label body) rest = says.Label label ∷ say all [] body rest
  say_arm all (Loops entry header control inner next continuing merge body) rest =
      say_front all header (say all (says.Merge ∷ []) inner (say_front all next (say all [] continuing (say_front all merge (say all [] body rest)))))
  say_arm all other rest = rest

  pub say_arms : List Branching → Arms → List Statement → List Statement
  say_arms all (Last arm) rest = say_arm all arm rest
  say_arms all (Also arm arms) rest = say_arm all arm (say_arms all arms rest)

-- ---- single lines

silent_or_said : (b : Bool) (s : Statement) (rest : List Statement) → cond b rest (s ∷ rest) ≡ cond b [] (s ∷ []) ++ rest
silent_or_said true s rest = refl
silent_or_said false s rest = refl

pub said_front : (words : List ℕ) (rest : List Statement) → said words rest ≡ said words [] ++ rest
said_front words rest = silent_or_said (is_silent_opcode (opcode_of (slice_index words 0))) (by_row (lookup (nat_eq (opcode_of (slice_index words 0))) rows) (drop 1 words)) rest

pub pairs_again : (ps : List (ℕ × ℕ)) → pairs (pair_words ps) ≡ ps
pairs_again [] = refl
pairs_again (p ∷ ps) = ap (λ l. p ∷ l) (pairs_again ps)

-- what words of an opcode say
abbrev pub said_by : (opcode : ℕ) → List ℕ → List Statement → List Statement
said_by opcode words rest = cond (is_silent_opcode opcode) rest (by_row (lookup (nat_eq opcode) rows) words ∷ rest)

pub said_instruction : (opcode : ℕ) (words : List ℕ) (rest : List Statement) → opcode < 65536 → said (instruction opcode words) rest ≡ said_by opcode words rest
said_instruction opcode words rest lt = ap (λ o. said_by o words rest) (mod-mul-add (length words + 1) 65536 opcode lt)

phi_said : (k : ℕ) (all : List Branching) (p : Parameter) (rest : List Statement) → said (phi_line k all p) rest ≡ says.Phi p.type p.result_id (phi_pairs k (in_order p.parents all)) ∷ rest
phi_said k all p rest =
    said_instruction op.PHI (p.type ∷ p.result_id ∷ pair_words (phi_pairs k (in_order p.parents all))) rest (omega arith)
    ∙ ap (λ ps. says.Phi p.type p.result_id ps ∷ rest) (pairs_again (phi_pairs k (in_order p.parents all)))

pub switch_said : (selector default : ℕ) (cases : List (ℕ × ℕ)) (rest : List Statement) → said (instruction op.SWITCH (selector ∷ default ∷ pair_words cases)) rest ≡ says.Switch selector default cases ∷ rest
switch_said selector default cases rest =
    said_instruction op.SWITCH (selector ∷ default ∷ pair_words cases) rest (omega arith)
    ∙ ap (λ ps. says.Switch selector default ps ∷ rest) (pairs_again cases)

pub split_said : (condition : ℕ) (on : Bool) (exit other : ℕ) (rest : List Statement) → said (split_line condition on exit other) rest ≡ says.BranchConditional condition (cond on exit other) (cond on other exit) ∷ rest
split_said condition true exit other rest = refl
split_said condition false exit other rest = refl

-- ---- lines one after another

pub statements_append : (a b : List (List ℕ)) → statements_in (a ++ b) ≡ statements_in a ++ statements_in b
unfolding statements_in
statements_append [] b = refl
statements_append (w ∷ ws) b =
    ap (said w) (statements_append ws b)
    ∙ said_front w (statements_in ws ++ statements_in b)
    ∙ sym (append_assoc (said w []) (statements_in ws) (statements_in b))
    ∙ ap (λ l. l ++ statements_in b) (sym (said_front w (statements_in ws)))

-- one list of lines and then another
then_say : (a b c : List (List ℕ)) (said_of : List Statement → List Statement) (rest : List Statement) → ((z : List (List ℕ)) → statements_in (a ++ z) ≡ said_of (statements_in z)) → statements_in (b ++ c) ≡ rest → statements_in ((a ++ b) ++ c) ≡ said_of rest
then_say a b c said_of rest h e = ap statements_in (append_assoc a b c) ∙ h (b ++ c) ∙ ap said_of e

phis_say : (k : ℕ) (all : List Branching) (ps : List Parameter) (z : List (List ℕ)) → statements_in (phi_lines k all ps ++ z) ≡ say_phis k all ps (statements_in z)
unfolding statements_in
phis_say k all [] z = refl
phis_say k all (p ∷ ps) z =
    phi_said k all p (statements_in (phi_lines (k + 1) all ps ++ z))
    ∙ ap (λ l. says.Phi p.type p.result_id (phi_pairs k (in_order p.parents all)) ∷ l) (phis_say (k + 1) all ps z)

front_says : (all : List Branching) (front : Front) (z : List (List ℕ)) → statements_in (front_lines all front ++ z) ≡ say_front all front (statements_in z)
unfolding statements_in
front_says all front z = ap (λ l. says.Label front.label ∷ l) (phis_say 0 (arriving front.label all) front.parameters z)

mutual
  unfolding statements_in

  lines_say : (all : List Branching) (opened : List (List ℕ)) (body : Body) (z : List (List ℕ)) → statements_in (lines all opened body ++ z) ≡ say all (statements_in opened) body (statements_in z)
  lines_say all opened (Leaves exit) z =
      then_say opened (branch_line exit.target ∷ []) z (λ l. statements_in opened ++ l) (says.Branch exit.target ∷ statements_in z) (statements_append opened) refl
  lines_say all opened (Finishes words) z = then_say opened (words ∷ []) z (λ l. statements_in opened ++ l) (said words (statements_in z)) (statements_append opened) refl
  lines_say all opened (Step words body) z = ap (said words) (lines_say all opened body z)
  lines_say all opened (Enters label body) z =
      then_say opened (branch_line label ∷ label_line label ∷ lines all [] body) z (λ l. statements_in opened ++ l) (says.Branch label ∷ says.Label label ∷ say all [] body (statements_in z)) (statements_append opened)
      (ap (λ l. says.Branch label ∷ says.Label label ∷ l) (lines_say all [] body z))
  lines_say all opened (Splits condition on exit body) z =
      then_say opened (split_line condition on exit.target (target body) ∷ arm_lines all body) z (λ l. statements_in opened ++ l)
      (says.BranchConditional condition (cond on exit.target (target body)) (cond on (target body) exit.target) ∷ say_arm all body (statements_in z)) (statements_append opened)
      (split_said condition on exit.target (target body) (statements_in (arm_lines all body ++ z))
      ∙ ap (λ l. says.BranchConditional condition (cond on exit.target (target body)) (cond on (target body) exit.target) ∷ l) (arm_says all body z))
  lines_say all opened (Selects control condition first second merge body) z =
      then_say opened
      (selection_line merge.label control ∷ split_line condition true (target first) (target second) ∷ (arm_lines all first ++ (arm_lines all second ++ (front_lines all merge ++ lines all [] body)))) z
      (λ l. statements_in opened ++ l)
      (says.Merge ∷ says.BranchConditional condition (target first) (target second) ∷ say_arm all first (say_arm all second (say_front all merge (say all [] body (statements_in z))))) (statements_append opened)
      (ap (λ l. says.Merge ∷ says.BranchConditional condition (target first) (target second) ∷ l)
      (then_say (arm_lines all first) (arm_lines all second ++ (front_lines all merge ++ lines all [] body)) z (say_arm all first) (say_arm all second (say_front all merge (say all [] body (statements_in z)))) (arm_says all first)
      (then_say (arm_lines all second) (front_lines all merge ++ lines all [] body) z (say_arm all second) (say_front all merge (say all [] body (statements_in z))) (arm_says all second)
      (then_say (front_lines all merge) (lines all [] body) z (say_front all merge) (say all [] body (statements_in z)) (front_says all merge)
      (lines_say all [] body z)))))
  lines_say all opened (Switches control selector cases arms merge body) z =
      then_say opened
      (selection_line merge.label control ∷ instruction op.SWITCH (selector ∷ first_target arms ∷ pair_words cases) ∷ (lines_of_arms all arms ++ (front_lines all merge ++ lines all [] body))) z
      (λ l. statements_in opened ++ l)
      (says.Merge ∷ says.Switch selector (first_target arms) cases ∷ say_arms all arms (say_front all merge (say all [] body (statements_in z)))) (statements_append opened)
      (ap (λ l. says.Merge ∷ l)
      (switch_said selector (first_target arms) cases (statements_in ((lines_of_arms all arms ++ (front_lines all merge ++ lines all [] body)) ++ z))
      ∙ ap (λ l. says.Switch selector (first_target arms) cases ∷ l)
      (then_say (lines_of_arms all arms) (front_lines all merge ++ lines all [] body) z (say_arms all arms) (say_front all merge (say all [] body (statements_in z))) (arms_say all arms)
      (then_say (front_lines all merge) (lines all [] body) z (say_front all merge) (say all [] body (statements_in z)) (front_says all merge)
      (lines_say all [] body z)))))
  lines_say all opened (Loops (ByBranch ids) header control inner next continuing merge body) z =
      let opening = loop_line merge.label next.label control ∷ [] in
      let last : List Statement = say_front all merge (say all [] body (statements_in z)) in
      let middle : List Statement = say_front all next (say all [] continuing last) in
      let lines_inside = lines all opening inner ++ (front_lines all next ++ (lines all [] continuing ++ (front_lines all merge ++ lines all [] body))) in
      then_say (opened ++ branch_line header.label ∷ front_lines all header) lines_inside z
      (λ l. statements_in opened ++ says.Branch header.label ∷ say_front all header l) (say all (says.Merge ∷ []) inner middle)
      (λ y. then_say opened (branch_line header.label ∷ front_lines all header) y (λ l. statements_in opened ++ l) (says.Branch header.label ∷ say_front all header (statements_in y)) (statements_append opened)
      (ap (λ l. says.Branch header.label ∷ l) (front_says all header y)))
      (then_say (lines all opening inner) (front_lines all next ++ (lines all [] continuing ++ (front_lines all merge ++ lines all [] body))) z (say all (says.Merge ∷ []) inner) middle (lines_say all opening inner)
      (then_say (front_lines all next) (lines all [] continuing ++ (front_lines all merge ++ lines all [] body)) z (say_front all next) (say all [] continuing last) (front_says all next)
      (then_say (lines all [] continuing) (front_lines all merge ++ lines all [] body) z (say all [] continuing) last (lines_say all [] continuing)
      (then_say (front_lines all merge) (lines all [] body) z (say_front all merge) (say all [] body (statements_in z)) (front_says all merge)
      (lines_say all [] body z)))))
  lines_say all opened (Loops InPlace header control inner next continuing merge body) z =
      let opening = loop_line merge.label next.label control ∷ [] in
      let last : List Statement = say_front all merge (say all [] body (statements_in z)) in
      let middle : List Statement = say_front all next (say all [] continuing last) in
      then_say (lines all opening inner) (front_lines all next ++ (lines all [] continuing ++ (front_lines all merge ++ lines all [] body))) z (say all (says.Merge ∷ []) inner) middle (lines_say all opening inner)
      (then_say (front_lines all next) (lines all [] continuing ++ (front_lines all merge ++ lines all [] body)) z (say_front all next) (say all [] continuing last) (front_says all next)
      (then_say (lines all [] continuing) (front_lines all merge ++ lines all [] body) z (say all [] continuing) last (lines_say all [] continuing)
      (then_say (front_lines all merge) (lines all [] body) z (say_front all merge) (say all [] body (statements_in z)) (front_says all merge)
      (lines_say all [] body z))))

  arm_says : (all : List Branching) (arm : Body) (z : List (List ℕ)) → statements_in (arm_lines all arm ++ z) ≡ say_arm all arm (statements_in z)
  arm_says all (Enters label body) z = ap (λ l. says.Label label ∷ l) (lines_say all [] body z)
  arm_says all (Loops entry header control inner next continuing merge body) z =
      let opening = loop_line merge.label next.label control ∷ [] in
      let last : List Statement = say_front all merge (say all [] body (statements_in z)) in
      let middle : List Statement = say_front all next (say all [] continuing last) in
      then_say (front_lines all header) (lines all opening inner ++ (front_lines all next ++ (lines all [] continuing ++ (front_lines all merge ++ lines all [] body)))) z (say_front all header) (say all (says.Merge ∷ []) inner middle) (front_says all header)
      (then_say (lines all opening inner) (front_lines all next ++ (lines all [] continuing ++ (front_lines all merge ++ lines all [] body))) z (say all (says.Merge ∷ []) inner) middle (lines_say all opening inner)
      (then_say (front_lines all next) (lines all [] continuing ++ (front_lines all merge ++ lines all [] body)) z (say_front all next) (say all [] continuing last) (front_says all next)
      (then_say (lines all [] continuing) (front_lines all merge ++ lines all [] body) z (say all [] continuing) last (lines_say all [] continuing)
      (then_say (front_lines all merge) (lines all [] body) z (say_front all merge) (say all [] body (statements_in z)) (front_says all merge)
      (lines_say all [] body z)))))
  arm_says all other z = refl

  arms_say : (all : List Branching) (arms : Arms) (z : List (List ℕ)) → statements_in (lines_of_arms all arms ++ z) ≡ say_arms all arms (statements_in z)
  arms_say all (Last arm) z = arm_says all arm z
  arms_say all (Also arm arms) z = then_say (arm_lines all arm) (lines_of_arms all arms) z (say_arm all arm) (say_arms all arms (statements_in z)) (arm_says all arm) (arms_say all arms z)

-- ---- functions

-- what a listed function says
pub function_says : (r : ℕ) (f : Function) → said f.function [] ≡ says.Function r ∷ [] → (last : List (List ℕ))
    → statements_in (listed f ++ last) ≡ says.Function r ∷ (statements_in f.parameters ++ says.Label f.label ∷ say (branches f.label f.body) [] f.body (statements_in (instruction op.FUNCTION_END [] ∷ last)))
unfolding statements_in
function_says r f h last =
    let bs : List Branching = branches f.label f.body in
    let end : List (List ℕ) = instruction op.FUNCTION_END [] ∷ [] in
    let body : List Statement = say bs [] f.body (statements_in (end ++ last)) in
    let behind : List (List ℕ) = label_line f.label ∷ (lines bs [] f.body ++ end) in
    said_front f.function (statements_in ((f.parameters ++ behind) ++ last))
    ∙ ap (λ l. l ++ statements_in ((f.parameters ++ behind) ++ last)) h
    ∙ ap (λ l. says.Function r ∷ l)
    (then_say f.parameters behind last (λ l. statements_in f.parameters ++ l) (says.Label f.label ∷ body) (statements_append f.parameters)
    (ap (λ l. says.Label f.label ∷ l) (then_say (lines bs [] f.body) end last (say bs [] f.body) (statements_in (end ++ last)) (lines_say bs [] f.body) refl)))
