-- Where the lines of a tree stand: each fits its place, in the section of functions, and the place behind all of a body is between blocks.
use Rattle.std.proofs.Common.{◌≡◌, ℕ, ◌+◌, ◌<◌, Bool, true, false, cond, not, nat_eq, ◌&&◌, ◌||◌, ◌==◌, List, [], ◌∷◌, ◌++◌, refl, sym, ap, subst, ◌∙◌, arith, append_assoc, All}
use Rattle.std.specs.List.{AllByRecursion}
use Rattle.std.proofs.lemmas.Bool.Decides.{nat_tests}
use Rattle.std.proofs.lemmas.List.Elements.{All-head, All-tail}
use Rattle.spv_opcodes.specs.declared.op.TheConstants as op
use Rattle.spv_grammar.specs.Table.{row_of}
use Rattle.spv_module.specs.declared.layout.Place.{Place}
use Rattle.spv_module.specs.declared.layout.Place.TheVariants.{Outside, Head, Between, Inside}
use Rattle.spv_module.specs.Code.{plain_section, row_section}
use Rattle.spv_module.specs.Instruction.{Instruction, opcode}
use Rattle.spv_module.specs.Layout.{behind, fits_place, is_memory_model, is_head, is_inside, is_outside}
use Rattle.spv_walk.proofs.Unique.{equal_true}
use Rattle.spv_bodies.specs.Bodies.{Body, ByBranch, InPlace, Leaves, Finishes, Step, Enters, Splits, Selects, Switches, Loops, Front, Parameter, Arms, Last, Also, Function, begins_at_branch, target}
use Rattle.spv_bodies.specs.Listing.{Branching, arm_lines, arriving, branch_line, branches, first_target, front_lines, in_order, instruction, label_line, lines, lines_of_arms, loop_line, pair_words, phi_lines, phi_pairs, selection_line, split_line}
use Rattle.spv_tree.specs.Sound.{AreFormed, IsFormed, IsSound, is_end, is_one_of, is_step, opcode_in, structure}
use Rattle.spv_blocks.specs.Cutting.{is_label_mark}
use Rattle.spv_normal.specs.Lines.{before_labels}
use Rattle.spv_tree.specs.Tree.{words_of}
use Rattle.spv_spelling.specs.Spelling.{SpellsFunction}
use Rattle.spv_spelling.specs.Whole.{IsAdmitted}
use Rattle.spv_normal_trees.proofs.Texts.{opcode_spelled}

-- a line as an instruction, wherever it stands
abbrev pub inst_of : List ℕ → Instruction
inst_of w = record { offset = 0; words = w }

-- ---- opcodes in functions

-- a line in the section of functions, no memory model, fits a place, and another place is behind it
pub record Goes (p : Place) (w : List ℕ) (q : Place) : Type 0 where
  pub section : plain_section true (inst_of w) ≡ 11
  pub plain : is_memory_model (inst_of w) ≡ false
  pub fits : fits_place p 11 (inst_of w) ≡ true
  pub next : behind p (inst_of w) ≡ q

-- the same, by the opcode
pub record OpcodeGoes (p : Place) (o : ℕ) (q : Place) : Type 0 where
  pub section : cond (o == op.VARIABLE || o == op.UNDEF) 11 (row_section (row_of o)) ≡ 11
  pub plain : (o == op.MEMORY_MODEL) ≡ false
  pub fits :
      cond (o == op.FUNCTION) (is_outside p)
      (cond (o == op.FUNCTION_PARAMETER) (is_head p)
      (cond (o == op.FUNCTION_END) (not (is_outside p) && not (is_head p))
      (cond (o == op.LABEL) (not (is_outside p)) (is_inside p))))
      ≡ true
  pub next :
      cond (o == op.FUNCTION) Head
      (cond (o == op.FUNCTION_END) Outside
      (cond (o == op.LABEL) Inside
      (cond (o == op.BRANCH || o == op.BRANCH_CONDITIONAL || o == op.SWITCH || o == op.RETURN || o == op.RETURN_VALUE || o == op.UNREACHABLE) Between p)))
      ≡ q

goes_by : (p q : Place) (w : List ℕ) (o : ℕ) → opcode_in w ≡ o → OpcodeGoes p o q → Goes p w q
goes_by p q w o e g =
    let own : OpcodeGoes p (opcode_in w) q = subst (λ k. OpcodeGoes p k q) (sym e) g in
    record { section = own.section; plain = own.plain; fits = own.fits; next = own.next }

label_inside : OpcodeGoes Inside op.LABEL Inside
unfolding row_of
label_inside = record { section = refl; plain = refl; fits = refl; next = refl }

label_between : OpcodeGoes Between op.LABEL Inside
unfolding row_of
label_between = record { section = refl; plain = refl; fits = refl; next = refl }

label_head : OpcodeGoes Head op.LABEL Inside
unfolding row_of
label_head = record { section = refl; plain = refl; fits = refl; next = refl }

parameter_head : OpcodeGoes Head op.FUNCTION_PARAMETER Head
unfolding row_of
parameter_head = record { section = refl; plain = refl; fits = refl; next = refl }

end_between : OpcodeGoes Between op.FUNCTION_END Outside
unfolding row_of
end_between = record { section = refl; plain = refl; fits = refl; next = refl }

branch_goes : OpcodeGoes Inside op.BRANCH Between
unfolding row_of
branch_goes = record { section = refl; plain = refl; fits = refl; next = refl }

split_goes : OpcodeGoes Inside op.BRANCH_CONDITIONAL Between
unfolding row_of
split_goes = record { section = refl; plain = refl; fits = refl; next = refl }

switch_goes : OpcodeGoes Inside op.SWITCH Between
unfolding row_of
switch_goes = record { section = refl; plain = refl; fits = refl; next = refl }

return_goes : OpcodeGoes Inside op.RETURN Between
unfolding row_of
return_goes = record { section = refl; plain = refl; fits = refl; next = refl }

return_value_goes : OpcodeGoes Inside op.RETURN_VALUE Between
unfolding row_of
return_value_goes = record { section = refl; plain = refl; fits = refl; next = refl }

unreachable_goes : OpcodeGoes Inside op.UNREACHABLE Between
unfolding row_of
unreachable_goes = record { section = refl; plain = refl; fits = refl; next = refl }

selection_goes : OpcodeGoes Inside op.SELECTION_MERGE Inside
unfolding row_of
selection_goes = record { section = refl; plain = refl; fits = refl; next = refl }

loop_goes : OpcodeGoes Inside op.LOOP_MERGE Inside
unfolding row_of
loop_goes = record { section = refl; plain = refl; fits = refl; next = refl }

phi_goes : OpcodeGoes Inside op.PHI Inside
unfolding row_of
phi_goes = record { section = refl; plain = refl; fits = refl; next = refl }

-- an instruction of a tree

model_row : row_section (row_of op.MEMORY_MODEL) ≡ 3
unfolding row_of
model_row = refl

model_is_no_step : is_step op.MEMORY_MODEL ≡ false
unfolding row_of
model_is_no_step = refl

no_model : (o : ℕ) → is_step o ≡ true → (o == op.MEMORY_MODEL) ≡ false
no_model o h = by (o == op.MEMORY_MODEL) refl
  where
    by : (b : Bool) → (o == op.MEMORY_MODEL) ≡ b → b ≡ false
    by true e = absurd (cc (model_is_no_step, ap is_step (equal_true o op.MEMORY_MODEL e), h))
    by false e = refl

step_fits : (f r e l b c s t v u ph lm sm : Bool)
    → not (f || (r || (e || (l || (ph || (lm || (sm || (b || (c || (s || (t || (v || (u || false))))))))))))) ≡ true
    → (cond f (is_outside Inside) (cond r (is_head Inside)
    (cond e (not (is_outside Inside) && not (is_head Inside)) (cond l (not (is_outside Inside)) (is_inside Inside)))) ≡ true)
    × (cond f Head (cond e Outside (cond l Inside (cond (b || c || s || t || v || u) Between Inside))) ≡ Inside)
step_fits true r e l b c s t v u ph lm sm h = absurd (cc h)
step_fits false true e l b c s t v u ph lm sm h = absurd (cc h)
step_fits false false true l b c s t v u ph lm sm h = absurd (cc h)
step_fits false false false true b c s t v u ph lm sm h = absurd (cc h)
step_fits false false false false b c s t v u true lm sm h = absurd (cc h)
step_fits false false false false b c s t v u false true sm h = absurd (cc h)
step_fits false false false false b c s t v u false false true h = absurd (cc h)
step_fits false false false false true c s t v u false false false h = absurd (cc h)
step_fits false false false false false true s t v u false false false h = absurd (cc h)
step_fits false false false false false false true t v u false false false h = absurd (cc h)
step_fits false false false false false false false true v u false false false h = absurd (cc h)
step_fits false false false false false false false false true u false false false h = absurd (cc h)
step_fits false false false false false false false false false true false false false h = absurd (cc h)
step_fits false false false false false false false false false false false false false h = (refl, refl)

first_holds : (a b : Bool) → (a && b) ≡ true → a ≡ true
first_holds true b h = refl
first_holds false b h = h

second_holds : (a b : Bool) → (a && b) ≡ true → b ≡ true
second_holds true b h = h
second_holds false b h = absurd (cc h)

step_section : (n : ℕ) (v u : Bool) → (n == 11 || (v || (u || false))) ≡ true → cond (v || u) 11 n ≡ 11
step_section n true u h = refl
step_section n false true h = refl
step_section n false false h = grind (arith, nat_tests)

step_goes : (o : ℕ) → is_step o ≡ true → OpcodeGoes Inside o Inside
step_goes o h =
    let others : not (is_one_of structure o) ≡ true =
    second_holds (row_section (row_of o) == 11 || is_one_of (op.VARIABLE ∷ op.UNDEF ∷ []) o) (not (is_one_of structure o)) h in
    let fit =
    step_fits (o == op.FUNCTION) (o == op.FUNCTION_PARAMETER) (o == op.FUNCTION_END) (o == op.LABEL) (o == op.BRANCH) (o == op.BRANCH_CONDITIONAL)
    (o == op.SWITCH)
    (o == op.RETURN) (o == op.RETURN_VALUE) (o == op.UNREACHABLE) (o == op.PHI) (o == op.LOOP_MERGE) (o == op.SELECTION_MERGE) others in
    record {
      section = step_section (row_section (row_of o)) (o == op.VARIABLE) (o == op.UNDEF)
          (first_holds (row_section (row_of o) == 11 || is_one_of (op.VARIABLE ∷ op.UNDEF ∷ []) o) (not (is_one_of structure o)) h);
      plain = no_model o h;
      fits = fit.0;
      next = fit.1;
    }

either_gives : {P : Type 0} (a b : Bool) → (a ≡ true → P) → (b ≡ true → P) → (a || b) ≡ true → P
either_gives true b f g h = f refl
either_gives false b f g h = g h

end_goes : (o : ℕ) → is_end o ≡ true → OpcodeGoes Inside o Between
end_goes o h =
    either_gives (nat_eq o op.RETURN) (nat_eq o op.RETURN_VALUE || (nat_eq o op.UNREACHABLE || false)) (like op.RETURN return_goes)
    (either_gives (nat_eq o op.RETURN_VALUE) (nat_eq o op.UNREACHABLE || false) (like op.RETURN_VALUE return_value_goes)
    (either_gives (nat_eq o op.UNREACHABLE) false (like op.UNREACHABLE unreachable_goes) (λ e. absurd (cc e)))) h
  where
    like : (k : ℕ) → OpcodeGoes Inside k Between → nat_eq o k ≡ true → OpcodeGoes Inside o Between
    like k g e = subst (λ z. OpcodeGoes Inside z Between) (sym (equal_true o k e)) g

-- a line that is made
made : (p q : Place) (o : ℕ) (ws : List ℕ) → o < 65536 → OpcodeGoes p o q → Goes p (instruction o ws) q
made p q o ws low g = goes_by p q (instruction o ws) o (opcode_spelled o ws low) g

-- ---- lines one after another

pub data Walks : Place → List (List ℕ) → Place → Type 0 where
  Ends : {p : Place} → Walks p [] p
  Goes_on : {p m q : Place} {w : List ℕ} {ws : List (List ℕ)} → Goes p w m → Walks m ws q → Walks p (w ∷ ws) q

pub walks_both : (p m q : Place) (xs ys : List (List ℕ)) → Walks p xs m → Walks m ys q → Walks p (xs ++ ys) q
walks_both p m q [] ys Ends g = g
walks_both p m q (x ∷ xs) ys (Goes_on {m = n} h more) g = Goes_on h (walks_both n m q xs ys more g)

one_line : (p q : Place) (w : List ℕ) → Goes p w q → Walks p (w ∷ []) q
one_line p q w g = Goes_on g Ends

two_lines : (p m q : Place) (w v : List ℕ) → Goes p w m → Goes m v q → Walks p (w ∷ v ∷ []) q
two_lines p m q w v g h = Goes_on g (Goes_on h Ends)

label_walks : (l : ℕ) → Goes Between (label_line l) Inside
label_walks l = made Between Inside op.LABEL (l ∷ []) (omega arith) label_between

branch_walks : (l : ℕ) → Goes Inside (branch_line l) Between
branch_walks l = made Inside Between op.BRANCH (l ∷ []) (omega arith) branch_goes

split_walks : (c : ℕ) (on : Bool) (x y : ℕ) → Goes Inside (split_line c on x y) Between
split_walks c on x y = made Inside Between op.BRANCH_CONDITIONAL (c ∷ cond on (x ∷ y ∷ []) (y ∷ x ∷ [])) (omega arith) split_goes

module _ (all : List Branching) where
  phis_walk : (k : ℕ) (here : List Branching) (ps : List Parameter) → Walks Inside (phi_lines k here ps) Inside
  phis_walk k here [] = Ends
  phis_walk k here (p ∷ ps) =
      Goes_on (made Inside Inside op.PHI (p.type ∷ p.result_id ∷ pair_words (phi_pairs k (in_order p.parents here))) (omega arith) phi_goes)
      (phis_walk (k + 1) here ps)

  front_walks : (front : Front) → Walks Between (front_lines all front) Inside
  front_walks front = Goes_on (label_walks front.label) (phis_walk 0 (arriving front.label all) front.parameters)

  abbrev BodyWalks : List (List ℕ) → Body → Type 0
  BodyWalks opened b = Walks Inside (lines all opened b) Between

  part_walks : (front : Front) (rest : Body) → BodyWalks [] rest → Walks Between (front_lines all front ++ lines all [] rest) Between
  part_walks front rest h = walks_both Between Inside Between (front_lines all front) (lines all [] rest) (front_walks front) h

  loop_walks : (next merge : Front) (control : ℕ) (inner continuing rest : Body) → BodyWalks (loop_line merge.label next.label control ∷ []) inner
      → BodyWalks [] continuing → BodyWalks [] rest
      → Walks Inside (lines all (loop_line merge.label next.label control ∷ []) inner
      ++ (front_lines all next ++ (lines all [] continuing ++ (front_lines all merge ++ lines all [] rest)))) Between
  loop_walks next merge control inner continuing rest one two three =
      walks_both Inside Between Between (lines all (loop_line merge.label next.label control ∷ []) inner) _ one
      (walks_both Between Inside Between (front_lines all next) (lines all [] continuing ++ (front_lines all merge ++ lines all [] rest)) (front_walks next)
      (walks_both Inside Between Between (lines all [] continuing) (front_lines all merge ++ lines all [] rest) two (part_walks merge rest three)))

  loop_opened : (merge next control : ℕ) → Walks Inside (loop_line merge next control ∷ []) Inside
  loop_opened merge next control =
      one_line Inside Inside (loop_line merge next control) (made Inside Inside op.LOOP_MERGE (merge ∷ next ∷ control ∷ []) (omega arith) loop_goes)

  selection_opened : (merge control : ℕ) → Goes Inside (selection_line merge control) Inside
  selection_opened merge control = made Inside Inside op.SELECTION_MERGE (merge ∷ control ∷ []) (omega arith) selection_goes

  mutual
    body_walks : (b : Body) (opened : List (List ℕ)) → Walks Inside opened Inside → IsFormed all b → BodyWalks opened b
    body_walks (Leaves exit) opened o h =
        walks_both Inside Inside Between opened (branch_line exit.target ∷ []) o (one_line Inside Between (branch_line exit.target) (branch_walks exit.target))
    body_walks (Finishes words) opened o h =
        walks_both Inside Inside Between opened (words ∷ []) o
        (one_line Inside Between words (goes_by Inside Between words (opcode_in words) refl (end_goes (opcode_in words) h)))
    body_walks (Step words b) opened o h =
        Goes_on (goes_by Inside Inside words (opcode_in words) refl (step_goes (opcode_in words) h.0)) (body_walks b opened o h.1)
    body_walks (Enters label b) opened o h =
        walks_both Inside Inside Between opened (branch_line label ∷ label_line label ∷ lines all [] b) o
        (Goes_on (branch_walks label) (Goes_on (label_walks label) (body_walks b [] Ends h)))
    body_walks (Splits condition on exit b) opened o h =
        walks_both Inside Inside Between opened (split_line condition on exit.target (target b) ∷ arm_lines all b) o
        (Goes_on (split_walks condition on exit.target (target b)) (arm_walks b h.0 h.1))
    body_walks (Selects control condition first second merge rest) opened o h =
        walks_both Inside Inside Between opened
        (selection_line merge.label control ∷ split_line condition true (target first) (target second)
        ∷ (arm_lines all first ++ (arm_lines all second ++ (front_lines all merge ++ lines all [] rest)))) o
        (Goes_on (selection_opened merge.label control) (Goes_on (split_walks condition true (target first) (target second))
        (walks_both Between Between Between (arm_lines all first) (arm_lines all second ++ (front_lines all merge ++ lines all [] rest))
        (arm_walks first h.0 h.3)
        (walks_both Between Between Between (arm_lines all second) (front_lines all merge ++ lines all [] rest) (arm_walks second h.1 h.4)
        (part_walks merge rest (body_walks rest [] Ends h.5))))))
    body_walks (Switches control selector cases arms merge rest) opened o h =
        walks_both Inside Inside Between opened
        (selection_line merge.label control ∷ instruction op.SWITCH (selector ∷ first_target arms ∷ pair_words cases)
        ∷ (lines_of_arms all arms ++ (front_lines all merge ++ lines all [] rest))) o
        (Goes_on (selection_opened merge.label control)
        (Goes_on (made Inside Between op.SWITCH (selector ∷ first_target arms ∷ pair_words cases) (omega arith) switch_goes)
        (walks_both Between Between Between (lines_of_arms all arms) (front_lines all merge ++ lines all [] rest) (arms_walk arms h.2)
        (part_walks merge rest (body_walks rest [] Ends h.3)))))
    body_walks (Loops (ByBranch values) header control inner next continuing merge rest) opened o h =
        walks_both Inside Inside Between (opened ++ branch_line header.label ∷ front_lines all header)
        (lines all [] (Loops InPlace header control inner next continuing merge rest))
        (walks_both Inside Inside Inside opened (branch_line header.label ∷ front_lines all header) o
        (Goes_on (branch_walks header.label) (front_walks header)))
        (loop_walks next merge control inner continuing rest
        (body_walks inner (loop_line merge.label next.label control ∷ []) (loop_opened merge.label next.label control) h.4)
        (body_walks continuing [] Ends h.5) (body_walks rest [] Ends h.6))
    body_walks (Loops InPlace header control inner next continuing merge rest) opened o h =
        loop_walks next merge control inner continuing rest
        (body_walks inner (loop_line merge.label next.label control ∷ []) (loop_opened merge.label next.label control) h.4)
        (body_walks continuing [] Ends h.5) (body_walks rest [] Ends h.6)

    arm_walks : (b : Body) → begins_at_branch b ≡ true → IsFormed all b → Walks Between (arm_lines all b) Between
    arm_walks (Leaves exit) begins h = Ends
    arm_walks (Enters label b) begins h = Goes_on (label_walks label) (body_walks b [] Ends h)
    arm_walks (Loops (ByBranch values) header control inner next continuing merge rest) begins h =
        walks_both Between Inside Between (front_lines all header) (lines all [] (Loops InPlace header control inner next continuing merge rest))
        (front_walks header)
        (loop_walks next merge control inner continuing rest
        (body_walks inner (loop_line merge.label next.label control ∷ []) (loop_opened merge.label next.label control) h.4)
        (body_walks continuing [] Ends h.5) (body_walks rest [] Ends h.6))
    arm_walks other begins h = absurd (cc begins)

    arms_walk : (arms : Arms) → AreFormed all arms → Walks Between (lines_of_arms all arms) Between
    arms_walk (Last arm) h = arm_walks arm h.0 h.1
    arms_walk (Also arm arms) h = walks_both Between Between Between (arm_lines all arm) (lines_of_arms all arms) (arm_walks arm h.0 h.1) (arms_walk arms h.2)

-- ---- functions

-- the lines before the first block of a function are an OpFunction and its parameters
abbrev AreParameters : List (List ℕ) → Type 0
AreParameters ws = AllByRecursion (λ w. opcode_in w ≡ op.FUNCTION_PARAMETER) ws

pub record Opens (f : Function) : Type 0 where
  pub function : opcode_in f.function ≡ op.FUNCTION
  pub parameters : AreParameters f.parameters

abbrev AreOpening : List (List ℕ) → Type 0
AreOpening [] = ⊥
AreOpening (w ∷ ws) = (opcode_in w ≡ op.FUNCTION) × AreParameters ws

before_parameters : (ps : List Instruction) (i : Instruction) (is : List Instruction) → All (λ j. opcode j ≡ op.FUNCTION_PARAMETER) ps
    → is_label_mark i ≡ true
    → AreParameters (words_of (before_labels (ps ++ i ∷ is)))
before_parameters [] i is h mark = subst (λ (b : Bool). AreParameters (words_of (cond b [] (i ∷ before_labels is)))) (sym mark) tt
before_parameters (p ∷ ps) i is h mark =
    let here : opcode p ≡ op.FUNCTION_PARAMETER = All-head (λ j. opcode j ≡ op.FUNCTION_PARAMETER) p ps h in
    let plain : is_label_mark p ≡ false = ap (λ o. o == op.LABEL) here in
    subst (λ (b : Bool). AreParameters (words_of (cond b [] (p ∷ before_labels (ps ++ i ∷ is))))) (sym plain)
    (here, before_parameters ps i is (All-tail (λ j. opcode j ≡ op.FUNCTION_PARAMETER) p ps h) mark)

pub opens : (insts : List Instruction) (stays : ℕ → ℕ) (f : Function) → IsAdmitted insts → SpellsFunction insts stays f → Opens f
opens insts stays f admitted spells =
    let t = admitted.text in
    let parted : insts ≡ t.function ∷ (t.parameters ++ t.label ∷ (t.blocks ++ t.last ∷ [])) =
    t.same ∙ ap (λ z. t.function ∷ z) (append_assoc t.parameters (t.label ∷ t.blocks) (t.last ∷ [])) in
    let plain : is_label_mark t.function ≡ false = ap (λ o. o == op.LABEL) t.begins in
    let opening : AreOpening (words_of (before_labels insts)) =
    subst (λ z. AreOpening (words_of (before_labels z))) (sym parted)
    (subst (λ (b : Bool). AreOpening (words_of (cond b [] (t.function ∷ before_labels (t.parameters ++ t.label ∷ (t.blocks ++ t.last ∷ [])))))) (sym plain)
    (t.begins, before_parameters t.parameters t.label (t.blocks ++ t.last ∷ []) t.takes t.first)) in
    let lines : AreOpening (f.function ∷ f.parameters) = subst AreOpening spells.front opening in
    record { function = lines.0; parameters = lines.1 }

parameters_walk : (ps : List (List ℕ)) → AllByRecursion (λ w. opcode_in w ≡ op.FUNCTION_PARAMETER) ps → Walks Head ps Head
parameters_walk [] h = Ends
parameters_walk (p ∷ ps) h = Goes_on (goes_by Head Head p op.FUNCTION_PARAMETER h.0 parameter_head) (parameters_walk ps h.1)

-- the lines of a sound function behind its OpFunction, which end outside functions
abbrev pub behind_first : Function → List (List ℕ)
behind_first f = f.parameters ++ label_line f.label ∷ (lines (branches f.label f.body) [] f.body ++ instruction op.FUNCTION_END [] ∷ [])

pub function_walks : (f : Function) → IsSound f → Opens f → Walks Head (behind_first f) Outside
function_walks f sound opens =
    let all = branches f.label f.body in
    let end = instruction op.FUNCTION_END [] ∷ [] in
    let body = body_walks all f.body [] Ends sound.formed in
    walks_both Head Head Outside f.parameters (label_line f.label ∷ (lines all [] f.body ++ end)) (parameters_walk f.parameters opens.parameters)
    (Goes_on (made Head Inside op.LABEL (f.label ∷ []) (omega arith) label_head)
    (walks_both Inside Between Outside (lines all [] f.body) end body
    (one_line Between Outside (instruction op.FUNCTION_END []) (made Between Outside op.FUNCTION_END [] (omega arith) end_between))))
