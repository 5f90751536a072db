-- What depends on the words of instructions alone, wherever they stand.
use Rattle.std.proofs.Common.{◌≡◌, ℕ, zero, suc, ◌+◌, List, [], ◌∷◌, ◌++◌, Some, refl, sym, ap, ap₂, subst, ◌∙◌}
use Rattle.std.specs.List.{flat_map, slice_get}
use Rattle.spv_grammar.specs.Roles.{names_id}
use Rattle.spv_module.specs.Code.{Code, spelling}
use Rattle.spv_module.specs.Instruction.{Instruction, IsInstruction, roles}
use Rattle.spv_bound.specs.Bound.{bound_of_ids, greatest, named_ids, words_with}
use Rattle.spv_machine.proofs.Spelling.{AllCounted, IsCounted}
use Rattle.spv_spelling.specs.Whole.{AreInstructions}
use Rattle.spv_tree.specs.Tree.{words_of}

-- the ids that they name; induction on both lists
same_named : (xs ys : List Instruction) → words_of xs ≡ words_of ys → named_ids xs ≡ named_ids ys
same_named [] [] e = refl
same_named [] (y ∷ ys) e = absurd (cc e)
same_named (x ∷ xs) [] e = absurd (cc e)
same_named (x ∷ xs) (y ∷ ys) e =
    let first : x.words ≡ y.words = cc e in
    let rest : words_of xs ≡ words_of ys = cc e in
    ap₂ (λ (ws : List ℕ) (ids : List ℕ). words_with names_id (record { offset = 0; words = ws }) ++ ids) first (same_named xs ys rest)

pub same_bound : (xs ys : List Instruction) → words_of xs ≡ words_of ys → bound_of_ids xs ≡ bound_of_ids ys
unfolding bound_of_ids
same_bound xs ys e = ap (λ ids. greatest ids + 1) (same_named xs ys e)

-- all their words one behind the other
same_words : (xs ys : List Instruction) → words_of xs ≡ words_of ys → flat_map (λ i. i.words) xs ≡ flat_map (λ i. i.words) ys
same_words [] [] e = refl
same_words [] (y ∷ ys) e = absurd (cc e)
same_words (x ∷ xs) [] e = absurd (cc e)
same_words (x ∷ xs) (y ∷ ys) e =
    let first : x.words ≡ y.words = cc e in
    let rest : words_of xs ≡ words_of ys = cc e in
    ap₂ (λ (ws : List ℕ) (more : List ℕ). ws ++ more) first (same_words xs ys rest)

pub same_spelling : (one other : Code) → one.header ≡ other.header → words_of one.insts ≡ words_of other.insts → spelling one ≡ spelling other
same_spelling one other h e =
    ap (λ header. spelling (record { header = header; insts = one.insts })) h
    ∙ ap (λ (ws : List ℕ). 0x0723_0203 ∷ other.header.version ∷ other.header.generator ∷ other.header.bound ∷ other.header.schema ∷ ws) (same_words one.insts other.insts e)

-- whether they are instructions
pub same_instructions : (xs ys : List Instruction) → words_of xs ≡ words_of ys → AreInstructions ys → AreInstructions xs
same_instructions [] ys e h k i at = absurd (cc at)
same_instructions (x ∷ xs) [] e h k i at = absurd (cc e)
same_instructions (x ∷ xs) (y ∷ ys) e h zero i at =
    let first : x.words ≡ y.words = cc e in
    let here : x ≡ i = cc at in
    subst (λ (j : Instruction). IsInstruction j.words (roles j)) here
    (subst (λ (ws : List ℕ). IsInstruction ws (roles (record { offset = 0; words = ws }))) (sym first) (h 0 y refl))
same_instructions (x ∷ xs) (y ∷ ys) e h (suc k) i at = let rest : words_of xs ≡ words_of ys = cc e in same_instructions xs ys rest (λ n j get. h (suc n) j get) k i at

-- the word count of each is the number of its words
pub all_counted : (insts : List Instruction) → AreInstructions insts → AllCounted insts
all_counted [] h = tt
all_counted (i ∷ is) h = let here = h 0 i refl in (record { some = here.some; counted = here.counted }, all_counted is (λ k j e. h (suc k) j e))
