-- A small module is read, and its normal form means as much.
use Rattle.std.proofs.Common.{◌≡◌, ℕ, zero, suc, ◌+◌, Bool, true, false, cond, List, [], ◌∷◌, Some, None, refl, subst, arith, lit<}
use Rattle.std.specs.Prelude.{slice_get, nat_eq, IsSome}
use Rattle.std.specs.Cmp.Lexicographic.{pointwise}
use Rattle.std.specs.Str.{chars, is_utf8}
use Rattle.spv_words.specs.Words.{bytes_of_words}
use Rattle.spv_grammar.specs.Operands.{roles_of}
use Rattle.spv_grammar.specs.Table.{row_of}
use Rattle.spv_bound.specs.Bound.{bound_of_ids}
use Rattle.spv_module.specs.First.{first}
use Rattle.spv_module.specs.Instruction.{Instruction, IsInstruction, roles, instruction_rules}
use Rattle.spv_module.specs.Layout.{group_2, layout_from}
use Rattle.spv_meaning.specs.Statements as says
use Rattle.spv_ids.specs.Ids.{is_second}
use Rattle.spv_blocks.specs.Cutting.{blocks_of, function_insts}
use Rattle.spv_walk.proofs.Entering.{one_of, label_among}
use Rattle.spv_bodies.specs.Bodies.{Function}
use Rattle.spv_normal.specs.Facts.{written, in_two}
use Rattle.spv_normal.specs.Lines.{without_marks}
use Rattle.spv_spelling.specs.Facts.{joined_tree, stays_in_two}
use Rattle.spv_spelling.specs.Text.{text, phis}
use Rattle.spv_spelling.specs.Whole.{AreInstructions}
use Rattle.spv_spelling.proofs.SmallSpellings.{blocks_are_joined}
use Rattle.spv_trees.specs.Standing.{Apart}
use Rattle.spv_standing.specs.Laws.{ApartInBlocks, results, first_values}
use Rattle.spv_standing.proofs.SmallModule.{joined_is_admitted}
use Rattle.spv_texts.specs.Laws.{DefinesOnce}
use Rattle.spv_norm_means.specs.Facts.{small, small_norm, SmallIsRead, SmallIsNormal, SmallMeans}
use Rattle.spv_norm_means.specs.Laws.{ReadsAs, function_of}
use Rattle.spv_norm_means.proofs.Whole.{norm_keeps}

abbrev insts : List Instruction
insts = small.insts

-- ---- its instructions

abbrev AllAt : (P : ℕ → Instruction → Type 0) → (n : ℕ) → List Instruction → Type 0
AllAt P n [] = Unit {0}
AllAt P n (i ∷ is) = P n i × AllAt P (suc n) is

each_at : (P : ℕ → Instruction → Type 0) (n : ℕ) (is : List Instruction) → AllAt P n is → (k : ℕ) (i : Instruction) → slice_get is k ≡ Some i → P (n + k) i
each_at P n [] h k i e = absurd (cc e)
each_at P n (x ∷ is) h zero i e = let same : x ≡ i = cc e in subst (λ m. P m i) (at_once n) (subst (P n) same h.0) where
  at_once : (m : ℕ) → m ≡ m + 0
  at_once m = omega arith
each_at P n (x ∷ is) h (suc k) i e = subst (λ m. P m i) (one_later n k) (each_at P (suc n) is h.1 k i e) where
  one_later : (m j : ℕ) → suc m + j ≡ m + suc j
  one_later m j = omega arith

each : AreInstructions insts
unfolding row_of roles_of instruction_rules bytes_of_words is_utf8 chars lib.Utf8.encode
each = each_at (λ n i. IsInstruction i.words (roles i)) 0 insts (
  record { some = lit< tt; counted = refl; parted = refl; long = refl; unbroken = refl },
  (
    record { some = lit< tt; counted = refl; parted = refl; long = refl; unbroken = refl },
    (
      record { some = lit< tt; counted = refl; parted = refl; long = refl; unbroken = refl },
      (
        record { some = lit< tt; counted = refl; parted = refl; long = refl; unbroken = refl },
        (
          record { some = lit< tt; counted = refl; parted = refl; long = refl; unbroken = refl },
          (
            record { some = lit< tt; counted = refl; parted = refl; long = refl; unbroken = refl },
            (
              record { some = lit< tt; counted = refl; parted = refl; long = refl; unbroken = refl },
              (
                record { some = lit< tt; counted = refl; parted = refl; long = refl; unbroken = refl },
                (
                  record { some = lit< tt; counted = refl; parted = refl; long = refl; unbroken = refl },
                  (
                    record { some = lit< tt; counted = refl; parted = refl; long = refl; unbroken = refl },
                    (
                      record { some = lit< tt; counted = refl; parted = refl; long = refl; unbroken = refl },
                      (record { some = lit< tt; counted = refl; parted = refl; long = refl; unbroken = refl }, tt),
                    ),
                  ),
                ),
              ),
            ),
          ),
        ),
      ),
    ),
  ),
)

laid_out : first (group_2 100 insts) ≡ None
unfolding row_of layout_from
laid_out = refl

defines_once : DefinesOnce insts
unfolding row_of roles_of bytes_of_words is_utf8 chars lib.Utf8.encode
defines_once k i e plain =
    subst (λ m. is_second insts m i ≡ false) (none_more k)
    (each_at (λ n j. is_second insts n j ≡ false) 0 insts
    (refl, (refl, (refl, (refl, (refl, (refl, (refl, (refl, (refl, (refl, (refl, (refl, tt)))))))))))) k i e)
  where
    none_more : (m : ℕ) → 0 + m ≡ m
    none_more m = omega arith

-- ---- its function

apart : ApartInBlocks (without_marks (written in_two))
apart = record { apart = λ t label no_front. one_of Fine (4 ∷ 5 ∷ []) (tt, ((refl, tt), tt)) t (label_among (blocks_of (without_marks (written in_two))) t label) }
  where
    Fine : ℕ → Type 0
    Fine t = Apart (results (phis (text (without_marks (written in_two)) t))) (first_values (phis (text (without_marks (written in_two)) t)))

reads : ReadsAs (function_insts 0 insts) joined_tree
reads = record { stays = stays_in_two; admitted = joined_is_admitted; spells = blocks_are_joined.spells; apart = apart }

each_reads : (k : ℕ) (f : Function) → slice_get (joined_tree ∷ []) k ≡ Some f → ReadsAs (function_insts k insts) f
each_reads zero f e = let same : joined_tree ≡ f = cc e in subst (ReadsAs (function_insts 0 insts)) same reads
each_reads (suc k) f e = absurd (cc e)

entered_by : (b : Bool) (f : ℕ) → cond b (Some 1) None ≡ Some f → IsSome (function_of (joined_tree ∷ []) f)
entered_by true f e = let same : 1 ≡ f = cc e in subst (λ n. IsSome (function_of (joined_tree ∷ []) n)) same refl
entered_by false f e = absurd (cc e)

pub small_is_read : SmallIsRead
unfolding says.statements_in bytes_of_words
small_is_read = record {
  end = 100;
  instructions = each;
  laid_out = laid_out;
  once = defines_once;
  count = refl;
  each = each_reads;
  called = tt;
  entered = λ name f e. entered_by (pointwise nat_eq (0x6D ∷ []) name) f e;
}

pub small_is_normal : SmallIsNormal
unfolding row_of roles_of bound_of_ids bytes_of_words is_utf8 chars lib.Utf8.encode
small_is_normal = record { lines = refl; header = refl }

pub small_means : SmallMeans
small_means = norm_keeps small small_norm (joined_tree ∷ []) small_is_read small_is_normal
