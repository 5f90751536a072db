-- The OpPhi of a block that is branched to from one block alone take their one value from there, where no rule on OpPhi is broken.
use Rattle.std.proofs.Common.{◌≡◌, ℕ, ◌+◌, Bool, true, false, cond, ◌==◌, ◌||◌, ◌&&◌, not, List, [], ◌∷◌, ◌++◌, map, Some, refl, sym, ap, subst, ◌∙◌, drop, take, arith}
use Rattle.std.specs.Prelude.{slice_index, find, filter}
use Rattle.std.specs.Option.{option_map}
use Rattle.std.specs.List.{AllByRecursion, list_all}
use Rattle.spv_opcodes.specs.declared.op.TheConstants as op
use Rattle.spv_base.specs.declared.fault.Refusal.{Refusal}
use Rattle.spv_module.specs.Instruction.{Instruction, opcode}
use Rattle.spv_module.specs.Code.{is_line}
use Rattle.spv_module.specs.First.{here, unless}
use Rattle.spv_module.specs.Layout.{is_terminator}
use Rattle.spv_blocks.specs.Blocks.{Code, Block, Ins, Phi, Selection, Loop, Other, block, branches, has, times, seconds, is_first}
use Rattle.spv_blocks.specs.Cutting.{pairs, ins, word, before_close, body_of}
use Rattle.spv_walk.specs.Phis.{predecessors, names_each_once, phi_fits, phi_faults}
use Rattle.spv_bodies.specs.Listing.{instruction}
use Rattle.spv_normal.specs.Lines.{line, up_to_terminator}
use Rattle.spv_spelling.specs.Text.{is_phi, phis, phi_pairs, Take}
use Rattle.spv_walk.proofs.Unique.{both_left, both_right, equal_true, true_equal}
use Rattle.spv_standing.specs.Laws.{first_values}
use Rattle.spv_standing.proofs.Saying.{ends_block}
use Rattle.spv_standing.proofs.Fronts.{word_3, line_opcode}

-- ---- an OpPhi in front of the instructions of a block

-- what the instructions of a block stand before, by its opcode
abbrev stops_block : ℕ → Bool
stops_block o = ends_block o || o == op.LABEL || o == op.FUNCTION_END

body_phi : (i : Instruction) (is : List Instruction) → opcode i ≡ op.PHI
    → body_of (i ∷ is) ≡ Phi i.offset (word i 1) (word i 2) (pairs (drop 3 i.words)) ∷ body_of is
body_phi i is e =
    let kept : List Instruction = filter (λ j. not (is_line j)) (before_close is) in
    let others : Ins =
    cond (opcode i == op.SELECTION_MERGE) (Selection i.offset (word i 1))
    (cond (opcode i == op.LOOP_MERGE) (Loop i.offset (word i 1) (word i 2)) (Other i.offset)) in
    ap (λ b. map ins (filter (λ j. not (is_line j)) (cond b [] (i ∷ before_close is)))) (ap stops_block e)
    ∙ ap (λ o. map ins (cond (not (o == op.LINE || o == op.NO_LINE)) (i ∷ kept) kept)) e
    ∙ ap (λ o. cond (o == op.PHI) (Phi i.offset (word i 1) (word i 2) (pairs (drop 3 i.words))) others ∷ map ins kept) e

lines_phi : (i : Instruction) (is : List Instruction) → opcode i ≡ op.PHI → map line (up_to_terminator (i ∷ is)) ≡ i.words ∷ map line (up_to_terminator is)
lines_phi i is e =
    ap (λ o. map line (cond (ends_block o) (i ∷ []) (i ∷ up_to_terminator is))) e
    ∙ ap (λ o. cond (o == op.BRANCH_CONDITIONAL) (instruction op.BRANCH_CONDITIONAL (take 3 (drop 1 i.words))) i.words ∷ map line (up_to_terminator is)) e

phis_phi : (words : List ℕ) (rest : List (List ℕ)) → is_phi words ≡ true → phis (words ∷ rest) ≡ words ∷ phis rest
phis_phi words rest h = ap (λ b. cond b (words ∷ phis rest) []) h

phis_other_by : (i : Instruction) (is : List Instruction) (b : Bool) → is_phi (line i) ≡ false
    → phis (map line (cond b (i ∷ []) (i ∷ up_to_terminator is))) ≡ []
phis_other_by i is true h = ap (λ b. cond b (line i ∷ []) []) h
phis_other_by i is false h = ap (λ b. cond b (line i ∷ phis (map line (up_to_terminator is))) []) h

-- ---- they fit

-- an OpPhi names each predecessor of the block once
abbrev pub NamesOnce : Code → (label : ℕ) → List ℕ → Type 0
NamesOnce f t words = names_each_once (predecessors f t) (seconds (phi_pairs words)) ≡ true

unbroken : (at : ℕ) (b : Bool) (rest : List Refusal) → here at (unless b 406) ++ rest ≡ [] → (b ≡ true) × (rest ≡ [])
unbroken at true rest e = (refl, e)
unbroken at false rest e = absurd (cc e)

module _ (pointer : ℕ → Bool) (f : Code) (t : ℕ) where
  fits_by : (i : Instruction) (is : List Instruction) (b : Bool) → (opcode i == op.PHI) ≡ b
      → (phi_faults pointer f t (body_of is) ≡ [] → AllByRecursion (NamesOnce f t) (phis (map line (up_to_terminator is))))
      → phi_faults pointer f t (body_of (i ∷ is)) ≡ [] → AllByRecursion (NamesOnce f t) (phis (map line (up_to_terminator (i ∷ is))))
  fits_by i is true e later h =
      let phi : opcode i ≡ op.PHI = equal_true (opcode i) op.PHI e in
      let fit : Bool = phi_fits pointer f t (word i 1) (pairs (drop 3 i.words)) in
      let parts = unbroken i.offset fit (phi_faults pointer f t (body_of is)) (sym (ap (phi_faults pointer f t) (body_phi i is phi)) ∙ h) in
      subst (λ ps. AllByRecursion (NamesOnce f t) ps) (sym (ap phis (lines_phi i is phi) ∙ phis_phi i.words (map line (up_to_terminator is)) e)) (
        both_right (not (is_first f t) && not (pointer (word i 1))) (names_each_once (predecessors f t)
            (seconds (pairs (drop 3 i.words)))) parts.0,
        later parts.1,
      )
  fits_by i is false e later h =
      subst (λ ps. AllByRecursion (NamesOnce f t) ps) (sym (phis_other_by i is (is_terminator i) (ap (λ o. o == op.PHI) (line_opcode i) ∙ e))) tt

  pub phis_fit : (is : List Instruction) → phi_faults pointer f t (body_of is) ≡ [] → AllByRecursion (NamesOnce f t) (phis (map line (up_to_terminator is)))
  phis_fit [] h = tt
  phis_fit (i ∷ is) h = fits_by i is (opcode i == op.PHI) refl (phis_fit is) h

-- ---- one predecessor

-- what holds of each element of a filtered list
filtered_by : (b : Bool) (x : ℕ) (test : ℕ → Bool) (kept : List ℕ) → b ≡ true → list_all test (cond b (x ∷ kept) kept) ≡ true → test x ≡ true
filtered_by true x test kept e h = both_left (test x) (list_all test kept) h
filtered_by false x test kept e h = absurd (cc e)

later_by : (b : Bool) (x : ℕ) (test : ℕ → Bool) (kept : List ℕ) → list_all test (cond b (x ∷ kept) kept) ≡ true → list_all test kept ≡ true
later_by true x test kept h = both_right (test x) (list_all test kept) h
later_by false x test kept h = h

kept_by : (b : Bool) (b1 : Block) (bs : Code) (l : ℕ) (found : Block) (pass test : ℕ → Bool) → (b1.label == l) ≡ b → cond b (Some b1) (block bs l) ≡ Some found
    → pass l ≡ true
    → (block bs l ≡ Some found → list_all test (filter pass (map (λ k. k.label) bs)) ≡ true → test l ≡ true)
    → list_all test (filter pass (map (λ k. k.label) (b1 ∷ bs))) ≡ true → test l ≡ true
kept_by true b1 bs l found pass test e is p later h =
    let same : b1.label ≡ l = equal_true b1.label l e in
    subst (λ x. test x ≡ true) same (filtered_by (pass b1.label) b1.label test (filter pass (map (λ k. k.label) bs)) (ap pass same ∙ p) h)
kept_by false b1 bs l found pass test e is p later h = later is (later_by (pass b1.label) b1.label test (filter pass (map (λ k. k.label) bs)) h)

kept_passes : (f : Code) (l : ℕ) (found : Block) (pass test : ℕ → Bool) → block f l ≡ Some found → pass l ≡ true
    → list_all test (filter pass (map (λ k. k.label) f)) ≡ true → test l ≡ true
kept_passes [] l found pass test is p h = absurd (cc is)
kept_passes (b1 ∷ bs) l found pass test is p h = kept_by (b1.label == l) b1 bs l found pass test refl is p (λ is. kept_passes bs l found pass test is p) h

-- what a filtered list has passes
has_by : (pass : ℕ → Bool) (x p : ℕ) (b c : Bool) (kept : List ℕ) → pass x ≡ b → (x == p) ≡ c → (has kept p ≡ true → pass p ≡ true)
    → has (cond b (x ∷ kept) kept) p ≡ true → pass p ≡ true
has_by pass x p true true kept e g later h = ap pass (sym (equal_true x p g)) ∙ e
has_by pass x p true false kept e g later h = later (subst (λ b. (b || has kept p) ≡ true) g h)
has_by pass x p false c kept e g later h = later h

has_passes : (pass : ℕ → Bool) (xs : List ℕ) (p : ℕ) → has (filter pass xs) p ≡ true → pass p ≡ true
has_passes pass [] p h = absurd (cc h)
has_passes pass (x ∷ xs) p h = has_by pass x p (pass x) (x == p) (filter pass xs) refl refl (has_passes pass xs p) h

all_one : (f : Code) (l t : ℕ) → ((q : ℕ) → branches f q t ≡ true → q ≡ l) → (parents : List ℕ) → list_all (λ p. has (predecessors f t) p) parents ≡ true
    → AllByRecursion (λ p. p ≡ l) parents
all_one f l t one [] h = tt
all_one f l t one (p ∷ ps) h = (
  one p (has_passes (λ q. branches f q t) (map (λ b. b.label) f) p (both_left (has (predecessors f t) p) (list_all (λ q. has (predecessors f t) q) ps) h)),
  all_one f l t one ps (both_right (has (predecessors f t) p) (list_all (λ q. has (predecessors f t) q) ps) h),
)

times_here : (x l : ℕ) (xs : List ℕ) → x ≡ l → times (x ∷ xs) l ≡ times xs l + 1
times_here x l xs e = ap (λ b. cond b (times xs l + 1) (times xs l)) (true_equal x l e)

once_alone : (l : ℕ) (parents : List ℕ) → AllByRecursion (λ p. p ≡ l) parents → times parents l ≡ 1 → parents ≡ l ∷ []
once_alone l [] h e = absurd (omega (arith, e))
once_alone l (x ∷ []) h e = ap (λ y. y ∷ []) h.0
once_alone l (x ∷ y ∷ zs) h e = absurd (omega (arith, e, times_here x l (y ∷ zs) h.0, times_here y l zs h.1.0))

pub one_parent : (f : Code) (l t : ℕ) (found : Block) → block f l ≡ Some found → branches f l t ≡ true → ((q : ℕ) → branches f q t ≡ true → q ≡ l)
    → (parents : List ℕ)
    → names_each_once (predecessors f t) parents ≡ true → parents ≡ l ∷ []
one_parent f l t found is go one parents h =
    let ps : List ℕ = predecessors f t in
    let once = both_left (list_all (λ p. times parents p == 1) ps) (list_all (λ p. has ps p) parents) h in
    let all = both_right (list_all (λ p. times parents p == 1) ps) (list_all (λ p. has ps p) parents) h in
    once_alone l parents (all_one f l t one parents all)
    (equal_true (times parents l) 1 (kept_passes f l found (λ q. branches f q t) (λ p. times parents p == 1) is go once))

-- ---- and one value

one_value : (l : ℕ) (ws : List ℕ) → seconds (pairs ws) ≡ l ∷ [] → option_map (λ pair. pair.0) (find (λ pair. pair.1 == l) (pairs ws)) ≡ Some (slice_index ws 0)
one_value l [] e = absurd (cc e)
one_value l (a ∷ []) e = absurd (cc e)
one_value l (a ∷ b ∷ ws) e =
    let same : b ≡ l = cc e in
    ap (λ t. option_map (λ pair. pair.0) (cond t (Some (a, b)) (find (λ pair. pair.1 == l) (pairs ws)))) (true_equal b l same)

pub takes_first : (l : ℕ) (ps : List (List ℕ)) → AllByRecursion (λ words. seconds (phi_pairs words) ≡ l ∷ []) ps → Take l ps (first_values ps)
takes_first l [] h = tt
takes_first l (words ∷ ps) h = (one_value l (drop 3 words) h.0 ∙ ap Some (word_3 words), takes_first l ps h.1)

pub all_mapped : {P Q : List ℕ → Type 0} → ((words : List ℕ) → P words → Q words) → (ps : List (List ℕ)) → AllByRecursion P ps → AllByRecursion Q ps
all_mapped h [] all = tt
all_mapped h (words ∷ ps) all = (h words all.0, all_mapped h ps all.1)
