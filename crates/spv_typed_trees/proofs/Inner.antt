-- What stands behind the head of the first block is neither an OpFunction, a parameter nor a line mark: by recursion on the tree.
use Rattle.std.proofs.Common.{◌≡◌, ℕ, ◌+◌, Bool, true, false, cond, ◌==◌, List, [], ◌∷◌, ◌++◌, refl, sym, subst, arith}
use Rattle.std.specs.List.{AllByRecursion}
use Rattle.spv_opcodes.specs.declared.op.TheConstants as op
use Rattle.spv_bodies.specs.Bodies.{Parameter, Front, Entry, ByBranch, InPlace, Body, Leaves, Finishes, Step, Enters, Splits, Selects, Switches, Loops, Arms, Last, Also, target}
use Rattle.spv_bodies.specs.Listing.{Branching, arm_lines, arriving, branch_line, entry_lines, first_target, front_lines, in_order, instruction, label_line, lines, lines_of_arms, loop_line, pair_words, phi_line, phi_lines, phi_pairs, selection_line, split_line}
use Rattle.spv_normal_trees.proofs.Texts.{opcode_spelled}
use Rattle.spv_tree.specs.Sound.{AreFormed, IsFormed, opcode_in}
use Rattle.spv_typed_trees.proofs.Lines.{end_still, step_inner}
use Rattle.spv_typed_trees.proofs.Sent.{all_both}
use Rattle.spv_typed_trees.proofs.Shape.{IsInner}

abbrev pub Inners : List (List ℕ) → Type 0
Inners ws = AllByRecursion (λ w. IsInner (opcode_in w)) ws

both : (xs ys : List (List ℕ)) → Inners xs → Inners ys → Inners (xs ++ ys)
both = all_both (λ w. IsInner (opcode_in w))

inner_by : (o : ℕ) (w : List ℕ) → opcode_in w ≡ o → (o == op.FUNCTION) ≡ false → (o == op.FUNCTION_PARAMETER) ≡ false → (o == op.LINE) ≡ false
    → (o == op.NO_LINE) ≡ false → IsInner (opcode_in w)
inner_by o w e a b c d = subst IsInner (sym e) (record { function = a; parameter = b; mark = c; end_mark = d })

label_inner : (l : ℕ) → IsInner (opcode_in (label_line l))
label_inner l = inner_by op.LABEL (label_line l) refl refl refl refl refl

branch_inner : (l : ℕ) → IsInner (opcode_in (branch_line l))
branch_inner l = inner_by op.BRANCH (branch_line l) refl refl refl refl refl

pub end_of_function_inner : IsInner (opcode_in (instruction op.FUNCTION_END []))
end_of_function_inner = inner_by op.FUNCTION_END (instruction op.FUNCTION_END []) refl refl refl refl refl

selection_inner : (merge control : ℕ) → IsInner (opcode_in (selection_line merge control))
selection_inner merge control = inner_by op.SELECTION_MERGE (selection_line merge control) refl refl refl refl refl

loop_inner : (merge next control : ℕ) → IsInner (opcode_in (loop_line merge next control))
loop_inner merge next control = inner_by op.LOOP_MERGE (loop_line merge next control) refl refl refl refl refl

split_inner : (condition : ℕ) (on : Bool) (a b : ℕ) → IsInner (opcode_in (split_line condition on a b))
split_inner condition on a b =
    inner_by op.BRANCH_CONDITIONAL (split_line condition on a b)
    (opcode_spelled op.BRANCH_CONDITIONAL (condition ∷ cond on (a ∷ b ∷ []) (b ∷ a ∷ [])) (omega arith)) refl refl refl refl

switch_inner : (ws : List ℕ) → IsInner (opcode_in (instruction op.SWITCH ws))
switch_inner ws = inner_by op.SWITCH (instruction op.SWITCH ws) (opcode_spelled op.SWITCH ws (omega arith)) refl refl refl refl

phis_inner : (k : ℕ) (here : List Branching) (ps : List Parameter) → Inners (phi_lines k here ps)
phis_inner k here [] = tt
phis_inner k here (p ∷ ps) = (
  inner_by op.PHI (phi_line k here p) (opcode_spelled op.PHI (p.type ∷ p.result_id ∷ pair_words (phi_pairs k (in_order p.parents here))) (omega arith))
      refl refl refl refl,
  phis_inner (k + 1) here ps,
)

module _ (all : List Branching) where
  front_inner : (f : Front) → Inners (front_lines all f)
  front_inner f = (label_inner f.label, phis_inner 0 (arriving f.label all) f.parameters)

  loop_parts : (hs ns cs ms rs : List (List ℕ)) → Inners hs → Inners ns → Inners cs → Inners ms → Inners rs → Inners (hs ++ (ns ++ (cs ++ (ms ++ rs))))
  loop_parts hs ns cs ms rs h n c g r = both hs (ns ++ (cs ++ (ms ++ rs))) h (both ns (cs ++ (ms ++ rs)) n (both cs (ms ++ rs) c (both ms rs g r)))

  entry_inner : (opened : List (List ℕ)) (header : Front) (entry : Entry) → Inners opened → Inners (entry_lines all opened header entry)
  entry_inner opened header (ByBranch values) o =
      both opened (branch_line header.label ∷ front_lines all header) o (branch_inner header.label, front_inner header)
  entry_inner opened header InPlace o = tt

  mutual
    pub inner : (body : Body) → IsFormed all body → (opened : List (List ℕ)) → Inners opened → Inners (lines all opened body)
    inner (Leaves exit) formed opened o = both opened (branch_line exit.target ∷ []) o (branch_inner exit.target, tt)
    inner (Finishes words) formed opened o = both opened (words ∷ []) o ((end_still (opcode_in words) formed).inner, tt)
    inner (Step words body) formed opened o = (step_inner (opcode_in words) formed.0, inner body formed.1 opened o)
    inner (Enters label body) formed opened o =
        both opened (branch_line label ∷ label_line label ∷ lines all [] body) o (branch_inner label, (label_inner label, inner body formed [] tt))
    inner (Splits condition on exit body) formed opened o =
        both opened (split_line condition on exit.target (target body) ∷ arm_lines all body) o
        (split_inner condition on exit.target (target body), inner_arm body formed.1)
    inner (Selects control condition first second merge rest) formed opened o =
        both opened (selection_line merge.label control ∷ split_line condition true (target first) (target second)
        ∷ (arm_lines all first ++ (arm_lines all second ++ (front_lines all merge ++ lines all [] rest)))) o (
          selection_inner merge.label control,
          (
            split_inner condition true (target first) (target second),
            both (arm_lines all first) (arm_lines all second ++ (front_lines all merge ++ lines all [] rest)) (inner_arm first formed.3)
                (both (arm_lines all second) (front_lines all merge ++ lines all [] rest) (inner_arm second formed.4)
                (both (front_lines all merge) (lines all [] rest) (front_inner merge) (inner rest formed.5 [] tt))),
          ),
        )
    inner (Switches control selector cases arms merge rest) formed opened o =
        both opened (selection_line merge.label control ∷ instruction op.SWITCH (selector ∷ first_target arms ∷ pair_words cases)
        ∷ (lines_of_arms all arms ++ (front_lines all merge ++ lines all [] rest))) o (
          selection_inner merge.label control,
          (
            switch_inner (selector ∷ first_target arms ∷ pair_words cases),
            both (lines_of_arms all arms) (front_lines all merge ++ lines all [] rest) (inner_arms arms formed.2)
                (both (front_lines all merge) (lines all [] rest) (front_inner merge) (inner rest formed.3 [] tt)),
          ),
        )
    inner (Loops entry header control first next continuing merge rest) formed opened o =
        both (entry_lines all opened header entry)
        (lines all (loop_line merge.label next.label control ∷ []) first
        ++ (front_lines all next ++ (lines all [] continuing ++ (front_lines all merge ++ lines all [] rest))))
        (entry_inner opened header entry o)
        (loop_parts (lines all (loop_line merge.label next.label control ∷ []) first) (front_lines all next) (lines all [] continuing)
        (front_lines all merge) (lines all [] rest)
        (inner first formed.4 (loop_line merge.label next.label control ∷ []) (loop_inner merge.label next.label control, tt))
        (front_inner next) (inner continuing formed.5 [] tt) (front_inner merge) (inner rest formed.6 [] tt))

    inner_arm : (body : Body) → IsFormed all body → Inners (arm_lines all body)
    inner_arm (Leaves exit) formed = tt
    inner_arm (Finishes words) formed = tt
    inner_arm (Step words body) formed = tt
    inner_arm (Enters label body) formed = (label_inner label, inner body formed [] tt)
    inner_arm (Splits condition on exit body) formed = tt
    inner_arm (Selects control condition first second merge rest) formed = tt
    inner_arm (Switches control selector cases arms merge rest) formed = tt
    inner_arm (Loops entry header control first next continuing merge rest) formed =
        both (front_lines all header)
        (lines all (loop_line merge.label next.label control ∷ []) first
        ++ (front_lines all next ++ (lines all [] continuing ++ (front_lines all merge ++ lines all [] rest))))
        (front_inner header)
        (loop_parts (lines all (loop_line merge.label next.label control ∷ []) first) (front_lines all next) (lines all [] continuing)
        (front_lines all merge) (lines all [] rest)
        (inner first formed.4 (loop_line merge.label next.label control ∷ []) (loop_inner merge.label next.label control, tt))
        (front_inner next) (inner continuing formed.5 [] tt) (front_inner merge) (inner rest formed.6 [] tt))

    inner_arms : (arms : Arms) → AreFormed all arms → Inners (lines_of_arms all arms)
    inner_arms (Last arm) formed = inner_arm arm formed.1
    inner_arms (Also arm arms) formed = both (arm_lines all arm) (lines_of_arms all arms) (inner_arm arm formed.1) (inner_arms arms formed.2)
