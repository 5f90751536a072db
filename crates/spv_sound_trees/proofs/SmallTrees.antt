-- A function of one block is admitted and its tree is sound; how deep small trees are.
use Rattle.std.proofs.Common.{◌≡◌, ℕ, zero, suc, ◌≤◌, true, List, [], ◌∷◌, length, slice_get, Some, refl, ap, subst, arith}
use Rattle.std.proofs.lemmas.Bool.{eqb-true}
use Rattle.std.proofs.lemmas.List.Elements.{All-cons, All-nil}
use Rattle.spv_grammar.specs.Operands.{roles_of}
use Rattle.spv_grammar.specs.Table.{row_of}
use Rattle.spv_module.specs.Instruction.{Instruction, IsInstruction, roles, instruction_rules}
use Rattle.spv_blocks.specs.Blocks.{Block, Code, block, branches, construct, is_label, is_some_block, next_of}
use Rattle.spv_blocks.specs.Cutting.{blocks_of}
use Rattle.spv_walk.specs.Contexts.{Context}
use Rattle.spv_walk.specs.Rules.{Broken, Found, NeverEntered}
use Rattle.spv_walk.specs.Walk.{Walk, Starts}
use Rattle.spv_walk.proofs.Entering.{one_of, label_among}
use Rattle.spv_walk.proofs.Finding.{At, Going, quiet, Places, Nothing, found_only, seen}
use Rattle.spv_walk.proofs.Unique.{tries_leads, leads_branches}
use Rattle.spv_normal.specs.Facts.{in_one, written}
use Rattle.spv_normal.specs.Order.{joins}
use Rattle.spv_spelling.specs.Clean.{IsClean, no_pointers}
use Rattle.spv_spelling.specs.Facts.{joined_tree}
use Rattle.spv_spelling.specs.Spelling.{steps, finishes, SpellsFunction}
use Rattle.spv_spelling.specs.Whole.{IsAdmitted, IsText, is_in_block}
use Rattle.spv_sound_trees.specs.Facts.{OneBlockIsSound, SmallDepths}
use Rattle.spv_sound_trees.proofs.Sound.{spelled_is_sound}

abbrev alone : List Instruction
alone = written in_one

abbrev code : Code
code = blocks_of alone

-- ---- its instructions

abbrev IsWhole : Instruction → Type 0
IsWhole i = IsInstruction i.words (roles i) × (length i.words ≤ 65535)

abbrev AreWhole : List Instruction → Type 0
AreWhole [] = Unit {0}
AreWhole (i ∷ is) = IsWhole i × AreWhole is

at_each : (is : List Instruction) → AreWhole is → (k : ℕ) (i : Instruction) → slice_get is k ≡ Some i → IsWhole i
at_each [] h k i e = absurd (cc (e))
at_each (x ∷ xs) h zero i e = let same : x ≡ i = cc in subst (λ j. IsWhole j) same h.0
at_each (x ∷ xs) h (suc k) i e = at_each xs h.1 k i e

all_whole : AreWhole alone
unfolding roles_of row_of instruction_rules
all_whole = (
  (record { some = omega arith; counted = refl; parted = refl; long = refl; unbroken = refl }, omega arith),
  (
    (record { some = omega arith; counted = refl; parted = refl; long = refl; unbroken = refl }, omega arith),
    (
      (record { some = omega arith; counted = refl; parted = refl; long = refl; unbroken = refl }, omega arith),
      (
        (record { some = omega arith; counted = refl; parted = refl; long = refl; unbroken = refl }, omega arith),
        (
          (record { some = omega arith; counted = refl; parted = refl; long = refl; unbroken = refl }, omega arith),
          ((record { some = omega arith; counted = refl; parted = refl; long = refl; unbroken = refl }, omega arith), tt),
        ),
      ),
    ),
  ),
)

abbrev at_start : List ℕ → Instruction
at_start words = record { offset = 0; words = words }

abbrev InBlock : Instruction → Type 0
InBlock i = is_in_block i ≡ true

abbrev copy : Instruction
copy = at_start (0x0004_0053 ∷ 7 ∷ 6 ∷ 8 ∷ [])

abbrev store : Instruction
store = at_start (0x0003_003E ∷ 9 ∷ 6 ∷ [])

abbrev return : Instruction
return = at_start (0x0001_00FD ∷ [])

copy_in : InBlock copy
unfolding row_of
copy_in = refl

store_in : InBlock store
unfolding row_of
store_in = refl

return_in : InBlock return
unfolding row_of
return_in = refl

texted : IsText alone
texted = record {
  function = at_start (0x0005_0036 ∷ 2 ∷ 1 ∷ 0 ∷ 3 ∷ []);
  parameters = [];
  label = at_start (0x0002_00F8 ∷ 4 ∷ []);
  blocks = copy ∷ store ∷ return ∷ [];
  last = at_start (0x0001_0038 ∷ []);
  same = refl;
  begins = refl;
  takes = All-nil _;
  first = refl;
  inside = All-cons InBlock copy (store ∷ return ∷ []) copy_in
      (All-cons InBlock store (return ∷ []) store_in (All-cons InBlock return [] return_in (All-nil InBlock)));
  ends = refl;
}

-- ---- its walk

data Seen : ℕ → Context → Type 0 where
  Entry : Seen 4 []

places : Places no_pointers code Seen Nothing
places = record { starts = λ l e. subst (λ z. Seen z []) (eqb-true 4 l e) Entry; at = at }
  where
    at : (l : ℕ) (c : Context) → Seen l c → At no_pointers code Seen Nothing l c
    at l c Entry = Going (quiet no_pointers code Seen Nothing 4 [] refl tt tt tt)

only_first : (l : ℕ) (c : Context) → Seen l c → l ≡ 4
only_first l c Entry = refl

walked_only : (l : ℕ) (c : Context) → Walk code l c → l ≡ 4
walked_only l c w = only_first l c (seen no_pointers code Seen Nothing places w)

block_only : (l : ℕ) (b : Block) → block code l ≡ Some b → (c : Context) × Walk code l c
block_only l b e = one_of (λ j. (c : Context) × Walk code j c) (4 ∷ []) (([], Starts 4 refl), tt) l (label_among code l (ap is_some_block e))

unbroken : (rule at : ℕ) → Broken no_pointers code rule at → ⊥
unbroken rule at (Found r a finds) = found_only no_pointers code Seen Nothing places refl finds
unbroken rule at (NeverEntered l b none e never) = let w = block_only l b e in never w.0 w.1

-- the block has no targets and no construct
no_target : (l t : ℕ) → l ≡ 4 → branches code l t ≡ true → ⊥
no_target l t same h = let b : branches code 4 t ≡ true = subst (λ j. branches code j t ≡ true) same h in cc (b)

no_construct : (l n : ℕ) → l ≡ 4 → next_of (construct code l) ≡ Some n → ⊥
no_construct l n same h = let b : next_of (construct code 4) ≡ Some n = subst (λ j. next_of (construct code j) ≡ Some n) same h in cc (b)

clean : IsClean no_pointers code
clean = record {
  unbroken = unbroken;
  walked = block_only;
  entered = λ l t c w h runs. absurd (no_target l t (walked_only l c w) (leads_branches code l c t (tries_leads code l c t h)));
  turned = λ l n c w h. absurd (no_construct l n (walked_only l c w) h);
}

own_labels : (j k : ℕ) (a b : Block) → slice_get code j ≡ Some a → slice_get code k ≡ Some b → a.label ≡ b.label → j ≡ k
own_labels zero zero a b e g same = refl
own_labels zero (suc k) a b e g same = absurd (cc (g))
own_labels (suc j) k a b e g same = absurd (cc (e))

admitted : IsAdmitted alone
admitted = record {
  text = texted;
  each = λ k i e. (at_each alone all_whole k i e).0;
  short = λ k i e. (at_each alone all_whole k i e).1;
  own = own_labels;
  clean = clean;
}

-- ---- its tree

none_joined : (l t : ℕ) → is_label code l ≡ true → joins code l t ≡ true → ⊥
none_joined l t h j = one_of (λ k. joins code k t ≡ true → ⊥) (4 ∷ []) ((λ k. cc (k)), tt) l (label_among code l h) j

spells : SpellsFunction alone (λ l. l) joined_tree
unfolding row_of
spells = record {
  staying = record { joined = λ l t h j. absurd (none_joined l t h j); own = λ t none. refl };
  front = refl;
  label = refl;
  body = steps refl (steps refl (finishes refl));
}

pub one_block_is_sound : OneBlockIsSound
one_block_is_sound = record { admitted = admitted; spells = spells; sound = spelled_is_sound alone (λ l. l) joined_tree admitted spells }

pub small_depths : SmallDepths
small_depths = record { joined = refl; selection = refl; switch = refl; loop = refl; inside = refl; behind = refl }
