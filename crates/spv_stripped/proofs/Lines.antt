-- No instruction of a function is stripped: so what is left of a module is what is left outside its functions, and they.
use Rattle.std.proofs.Common.{◌≡◌, ℕ, Bool, true, false, cond, ◌==◌, ◌||◌, List, [], ◌∷◌, ◌++◌, filter, map, refl, sym, ap, ap₂, subst, ◌∙◌}
use Rattle.std.specs.Prelude.{All}
use Rattle.std.specs.List.{AllByRecursion, flat_map}
use Rattle.std.proofs.lemmas.List.Elements.{All-head, All-tail, filter-append}
use Rattle.spv_opcodes.specs.declared.op.TheConstants as op
use Rattle.spv_grammar.specs.Table.{row_of}
use Rattle.spv_module.specs.Instruction.{Instruction, opcode}
use Rattle.spv_declarations.proofs.Declares.{AllOf}
use Rattle.spv_blocks.specs.Cutting.{is_label_mark}
use Rattle.spv_walk.proofs.Unique.{true_equal}
use Rattle.spv_bodies.specs.Bodies.{Function}
use Rattle.spv_bodies.specs.Listing.{listed}
use Rattle.spv_tree.specs.Sound.{IsSound, is_step}
use Rattle.spv_tree.specs.Sound as sound
use Rattle.spv_tree.specs.Tree.{words_of}
use Rattle.spv_structured.specs.Laws.{Opens}
use Rattle.spv_spelling.specs.Whole.{IsText, block_marks, is_in_block}
use Rattle.spv_respelling.proofs.Inside.{listing_text}
use Rattle.spv_norm.specs.Norm.{outside}
use Rattle.spv_built.specs.Built.{AreBuilt, FunctionIsBuilt}
use Rattle.spv_stripped.specs.Strip.{stays}
use Rattle.spv_stripped.proofs.Opcodes.{stays_where, stripping}
use Rattle.spv_built_edits.proofs.KeptSteps.{all_join}

abbrev pub inst : List ℕ → Instruction
inst ws = record { offset = 0; words = ws }

-- ---- the instructions of a function

abbrev in_block : ℕ → Bool
in_block o =
    o == op.LABEL
    || (o == op.BRANCH || o == op.BRANCH_CONDITIONAL || o == op.SWITCH || o == op.RETURN || o == op.RETURN_VALUE || o == op.UNREACHABLE) || is_step o
    || sound.is_one_of block_marks o

abbrev Stay : Instruction → Type 0
Stay i = stays i ≡ true

block_stays : (i : Instruction) → is_in_block i ≡ true → Stay i
unfolding row_of
block_stays i h = stays_where in_block (refl, (refl, (refl, (refl, (refl, (refl, (refl, (refl, (refl, tt))))))))) i h

stays_at : (k : ℕ) → AllOf (λ o. (o == k) ≡ false) stripping → (i : Instruction) → opcode i ≡ k → Stay i
stays_at k fails i e = stays_where (λ o. o == k) fails i (true_equal (opcode i) k e)

all_stay : (P : Instruction → Type 0) (is : List Instruction) → ((i : Instruction) → P i → Stay i) → All P is → AllByRecursion Stay is
all_stay P [] to h = tt
all_stay P (i ∷ is) to h = (to i (All-head P i is h), all_stay P is to (All-tail P i is h))

text_stays : (t : List Instruction) → IsText t → AllByRecursion Stay t
text_stays t s =
    subst (AllByRecursion Stay) (sym s.same) (
      stays_at op.FUNCTION (refl, (refl, (refl, (refl, (refl, (refl, (refl, (refl, (refl, tt))))))))) s.function s.begins,
      all_join Stay (s.parameters ++ s.label ∷ s.blocks) (s.last ∷ [])
          (all_join Stay s.parameters (s.label ∷ s.blocks)
          (all_stay (λ i. opcode i ≡ op.FUNCTION_PARAMETER) s.parameters
          (stays_at op.FUNCTION_PARAMETER (refl, (refl, (refl, (refl, (refl, (refl, (refl, (refl, (refl, tt)))))))))) s.takes) (
            stays_where (λ o. o == op.LABEL) (refl, (refl, (refl, (refl, (refl, (refl, (refl, (refl, (refl, tt))))))))) s.label s.first,
            all_stay (λ i. is_in_block i ≡ true) s.blocks block_stays s.inside,
          ))
          (stays_at op.FUNCTION_END (refl, (refl, (refl, (refl, (refl, (refl, (refl, (refl, (refl, tt))))))))) s.last s.ends, tt),
    )

-- ---- by words

abbrev StayWords : List ℕ → Type 0
StayWords ws = stays (inst ws) ≡ true

to_words : (Q : List ℕ → Type 0) (is : List Instruction) → AllByRecursion (λ (i : Instruction). Q i.words) is → AllByRecursion Q (words_of is)
to_words Q [] h = tt
to_words Q (i ∷ is) h = (h.0, to_words Q is h.1)

words_again : (ls : List (List ℕ)) → words_of (map inst ls) ≡ ls
words_again [] = refl
words_again (ws ∷ ls) = ap (λ z. ws ∷ z) (words_again ls)

-- the lines of a function stay
pub lines_stay : (f : Function) → IsSound f → Opens f → AllByRecursion StayWords (listed f)
lines_stay f sound opens =
    subst (AllByRecursion StayWords) (words_again (listed f))
    (to_words StayWords (map inst (listed f)) (text_stays (map inst (listed f)) (listing_text f (map inst (listed f)) sound opens (words_again (listed f)))))

all_lines_stay : (insts : List Instruction) (fs : List Function) → AllByRecursion (FunctionIsBuilt insts) fs → AllByRecursion StayWords (flat_map listed fs)
all_lines_stay insts [] h = tt
all_lines_stay insts (f ∷ fs) h =
    all_join StayWords (listed f) (flat_map listed fs) (lines_stay f h.0.sound h.0.opens) (all_lines_stay insts fs h.1)

pub words_filtered : (is : List Instruction) → words_of (filter stays is) ≡ filter (λ ws. stays (inst ws)) (words_of is)
words_filtered [] = refl
words_filtered (i ∷ is) = by (stays i) (words_filtered is)
  where
    by : (b : Bool) → words_of (filter stays is) ≡ filter (λ ws. stays (inst ws)) (words_of is)
        → words_of (cond b (i ∷ filter stays is) (filter stays is))
        ≡ cond b (i.words ∷ filter (λ ws. stays (inst ws)) (words_of is)) (filter (λ ws. stays (inst ws)) (words_of is))
    by true more = ap (λ z. i.words ∷ z) more
    by false more = more

none_goes : (ls : List (List ℕ)) → AllByRecursion StayWords ls → filter (λ ws. stays (inst ws)) ls ≡ ls
none_goes [] h = refl
none_goes (ws ∷ ls) h =
    ap (λ (b : Bool). cond b (ws ∷ filter (λ ws. stays (inst ws)) ls) (filter (λ ws. stays (inst ws)) ls)) h.0 ∙ ap (λ z. ws ∷ z) (none_goes ls h.1)

-- what stays of a module that is built
pub stripped_lines : (insts : List Instruction) (fs : List Function) → AreBuilt insts fs
    → words_of (filter stays insts) ≡ words_of (filter stays (outside insts)) ++ flat_map listed fs
stripped_lines insts fs b =
    words_filtered insts ∙ ap (filter (λ ws. stays (inst ws))) b.lines
    ∙ filter-append (λ ws. stays (inst ws)) (words_of (outside insts)) (flat_map listed fs)
    ∙ ap₂ (λ xs ys. xs ++ ys) (sym (words_filtered (outside insts))) (none_goes (flat_map listed fs) (all_lines_stay insts fs b.functions))
