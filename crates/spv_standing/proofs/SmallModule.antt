-- A small module, in which no rule is broken, is spelled and stands.
use Rattle.std.proofs.Common.{◌≡◌, ℕ, zero, suc, ◌≤◌, ◌==◌, Bool, true, false, cond, not, ◌&&◌, List, [], ◌∷◌, length, Option, Some, None, refl, sym, ap, subst, ◌∙◌, arith, lit<}
use Rattle.std.specs.Prelude.{slice_get, take, drop, All}
use Rattle.std.specs.Option.{option_map}
use Rattle.std.specs.List.{AllByRecursion}
use Rattle.std.proofs.lemmas.Bool.{eqb-true}
use Rattle.std.proofs.lemmas.List.Elements.{All-nil, All-cons}
use Rattle.spv_opcodes.specs.declared.op.TheConstants as op
use Rattle.spv_grammar.specs.Operands.{roles_of}
use Rattle.spv_grammar.specs.Table.{row_of}
use Rattle.spv_module.specs.Instruction.{Instruction, IsInstruction, opcode, roles, instruction_rules}
use Rattle.spv_meaning.specs.Statements as says
use Rattle.spv_blocks.specs.Blocks.{Code, Block, branches, construct, is_label, is_some_block, next_of, stops, Construct, ASelection, ASwitch, ALoop}
use Rattle.spv_blocks.specs.Cutting.{blocks_of}
use Rattle.spv_walk.specs.Contexts.{Context, behind, is_exit, is_fall}
use Rattle.spv_walk.specs.Numbering.{HasOwnLabels}
use Rattle.spv_walk.specs.Walk.{Enters, Walk, Starts, Entered, end_of, leads, tries}
use Rattle.spv_walk.proofs.Unique.{both_left, both_right}
use Rattle.spv_walk.proofs.Entering.{one_of, label_among, no_loop, passes}
use Rattle.spv_walk.proofs.Finding.{Going, Goes, Places, Place, bare, quiet, Nothing, unbroken, seen}
use Rattle.spv_bodies.specs.Bodies.{Function}
use Rattle.spv_normal.specs.Facts.{written, in_two}
use Rattle.spv_normal.specs.Lines.{without_marks}
use Rattle.spv_spelling.specs.Text.{text, phis}
use Rattle.spv_trees.specs.Standing.{Apart}
use Rattle.spv_spelling.specs.Clean.{IsClean, no_pointers}
use Rattle.spv_spelling.specs.Whole.{IsText, AreInstructions, AreShort, is_in_block}
use Rattle.spv_spelling.specs.Facts.{stays_in_two, joined_tree}
use Rattle.spv_spelling.proofs.SmallSpellings.{enters_joined, blocks_are_joined}
use Rattle.spv_standing.specs.Laws.{ApartInBlocks, results, first_values, IsSpelled}
use Rattle.spv_standing.specs.Facts.{small_module, known, JoinedIsAdmitted, JoinedIsSpelled, JoinedStands, InTurnIsNotApart}
use Rattle.spv_standing.proofs.Spelled.{all_spelled_stand}

abbrev insts : List Instruction
insts = without_marks (written in_two)

abbrev f : Code
f = blocks_of insts

-- ---- nothing is broken

tried_branch : (f : Code) (l t : ℕ) (c : Context) → tries f l c t ≡ true → branches f l t ≡ true
tried_branch f l t c e =
    let out : Bool = is_exit (behind (construct f l) l t c) (end_of f l) t in
    both_right (not (stops f l)) (branches f l t) (both_left (not (stops f l) && branches f l t) (not out) (both_left (leads f l c t) (not (is_fall f c t)) e))

data Seen : ℕ → Context → Type 0 where
  First : Seen 4 []
  Second : Seen 5 []

place : (l : ℕ) (c : Context) → Seen l c → Place no_pointers f Seen Nothing l c
place l c First = bare no_pointers f Seen Nothing 4 [] refl ((λ e. Goes enters_joined Second), tt) ((λ a e. cc), tt) tt tt
place l c Second = quiet no_pointers f Seen Nothing 5 [] refl tt tt tt

places : Places no_pointers f Seen Nothing
places = record { starts = λ l e. subst (λ z. Seen z []) (eqb-true 4 l e) First; at = λ l c s. Going (place l c s) }

walked : (l : ℕ) → is_label f l ≡ true → (c : Context) × Walk f l c
walked l e =
    one_of (λ l. (c : Context) × Walk f l c) (4 ∷ 5 ∷ []) (([], Starts 4 refl), (([], Entered 4 5 [] (Starts 4 refl) refl enters_joined), tt)) l
    (label_among f l e)

-- the first block enters the second, and this enters none
entered : (l t : ℕ) (c : Context) → Seen l c → tries f l c t ≡ true → Enters f l t
entered l t c First e = one_of (λ t. Enters f 4 t) (5 ∷ []) (enters_joined, tt) t (tried_branch f 4 t [] e)
entered l t c Second e = let no = tried_branch f 5 t [] e in cc

no_next : (k : Option Construct) (n : ℕ) → no_loop k ≡ true → next_of k ≡ Some n → ⊥
no_next None n h e = cc e
no_next (Some (ASelection m)) n h e = cc e
no_next (Some (ASwitch m)) n h e = cc e
no_next (Some (ALoop m c)) n h e = cc h

clean : IsClean no_pointers f
clean = record {
  unbroken = unbroken no_pointers f Seen places refl walked;
  walked = λ l b e. walked l (ap is_some_block e);
  entered = λ l t c w e runs. entered l t c (seen no_pointers f Seen Nothing places w) e;
  turned = λ l n c w e. absurd (no_next (construct f l) n (passes no_loop refl f refl l) e);
}

-- ---- its instructions

each_of : (P : Instruction → Type 0) (is : List Instruction) → AllByRecursion P is → (k : ℕ) (i : Instruction) → slice_get is k ≡ Some i → P i
each_of P [] h k i e = absurd (cc e)
each_of P (x ∷ is) h zero i e = let same : x ≡ i = cc e in subst P same h.0
each_of P (x ∷ is) h (suc k) i e = each_of P is h.1 k i e

each : AreInstructions insts
unfolding row_of roles_of instruction_rules
each = each_of (λ i. IsInstruction i.words (roles i)) insts (
  record { some = lit< tt; counted = refl; parted = refl; long = refl; unbroken = refl },
  (
    record { some = lit< tt; counted = refl; parted = refl; long = refl; unbroken = refl },
    (
      record { some = lit< tt; counted = refl; parted = refl; long = refl; unbroken = refl },
      (
        record { some = lit< tt; counted = refl; parted = refl; long = refl; unbroken = refl },
        (
          record { some = lit< tt; counted = refl; parted = refl; long = refl; unbroken = refl },
          (
            record { some = lit< tt; counted = refl; parted = refl; long = refl; unbroken = refl },
            (
              record { some = lit< tt; counted = refl; parted = refl; long = refl; unbroken = refl },
              (
                record { some = lit< tt; counted = refl; parted = refl; long = refl; unbroken = refl },
                tt,
              ),
            ),
          ),
        ),
      ),
    ),
  ),
)

short : AreShort insts
short = each_of (λ i. length i.words ≤ 65535) insts
    (omega arith, (omega arith, (omega arith, (omega arith, (omega arith, (omega arith, (omega arith, (omega arith, tt))))))))

text_of : IsText insts
unfolding row_of
text_of = record {
  function = record { offset = 0; words = 0x0005_0036 ∷ 2 ∷ 1 ∷ 0 ∷ 3 ∷ [] };
  parameters = [];
  label = record { offset = 0; words = 0x0002_00F8 ∷ 4 ∷ [] };
  blocks = drop 2 (take 7 insts);
  last = record { offset = 0; words = 0x0001_0038 ∷ [] };
  same = refl;
  begins = refl;
  takes = All-nil (λ i. opcode i ≡ op.FUNCTION_PARAMETER);
  first = refl;
  inside = all_of (drop 2 (take 7 insts)) (refl, (refl, (refl, (refl, (refl, tt)))));
  ends = refl;
}
  where
    all_of : (is : List Instruction) → AllByRecursion (λ i. is_in_block i ≡ true) is → All (λ i. is_in_block i ≡ true) is
    all_of [] h = All-nil (λ i. is_in_block i ≡ true)
    all_of (i ∷ is) h = All-cons (λ j. is_in_block j ≡ true) i is h.0 (all_of is h.1)

label_at : (k l : ℕ) (a : Block) → slice_get f k ≡ Some a → option_map (λ b. b.label) (slice_get f k) ≡ Some l → a.label ≡ l
label_at k l a e h = let same : Some a.label ≡ Some l = sym (ap (option_map (λ b. b.label)) e) ∙ h in cc same

own_labels : HasOwnLabels f
own_labels zero zero a b e g same = refl
own_labels zero (suc zero) a b e g same = absurd (omega (arith, label_at 0 4 a e refl, label_at 1 5 b g refl, same))
own_labels (suc zero) zero a b e g same = absurd (omega (arith, label_at 1 5 a e refl, label_at 0 4 b g refl, same))
own_labels (suc zero) (suc zero) a b e g same = refl
own_labels (suc (suc j)) k a b e g same = absurd (cc e)
own_labels zero (suc (suc k)) a b e g same = absurd (cc g)
own_labels (suc zero) (suc (suc k)) a b e g same = absurd (cc g)

pub joined_is_admitted : JoinedIsAdmitted
joined_is_admitted = record { text = text_of; each = each; short = short; own = own_labels; clean = clean }

-- ---- it is spelled, and stands

apart : ApartInBlocks insts
apart = record { apart = λ t label no_front. one_of Fine (4 ∷ 5 ∷ []) (tt, ((refl, tt), tt)) t (label_among f t label) }
  where
    Fine : ℕ → Type 0
    Fine t = Apart (results (phis (text insts t))) (first_values (phis (text insts t)))

one_is_spelled : IsSpelled small_module known 1 joined_tree
unfolding says.statements_in
one_is_spelled = record {
  first = [];
  insts = written in_two;
  last = [];
  stays = stays_in_two;
  whole = refl;
  admitted = joined_is_admitted;
  spells = blocks_are_joined.spells;
  apart = apart;
  function = refl;
  calls = tt;
  absent = refl;
}

spelled_by : (r : ℕ) (g : Function) (b : Bool) → (r == 1) ≡ b → cond b (Some joined_tree) None ≡ Some g → IsSpelled small_module known r g
spelled_by r g true e h =
    let same : joined_tree ≡ g = cc h in
    subst (λ x. IsSpelled small_module known r x) same (subst (λ k. IsSpelled small_module known k joined_tree) (sym (eqb-true r 1 e)) one_is_spelled)
spelled_by r g false e h = absurd (cc h)

pub joined_is_spelled : JoinedIsSpelled
joined_is_spelled r g e = spelled_by r g (r == 1) refl e

pub joined_stands : JoinedStands
unfolding says.statements_in
joined_stands = all_spelled_stand small_module known (refl, (refl, tt)) joined_is_spelled 1 joined_tree refl

pub in_turn_is_not_apart : InTurnIsNotApart
in_turn_is_not_apart h = let no = (h.apart 5 refl refl).0 in cc
