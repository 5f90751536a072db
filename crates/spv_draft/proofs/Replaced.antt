-- Instructions in which one id is put for another, one word after the other.
use Rattle.std.proofs.Common.{◌≡◌, ℕ, zero, suc, ◌+◌, ◌<◌, ◌≤◌, Bool, true, false, cond, ◌==◌, ◌&&◌, List, [], ◌∷◌, ◌++◌, length, get_or, take, drop, map}
use Rattle.std.proofs.Common.{Some, Ok, refl, sym, ap, subst, ◌∙◌, arith, add-one}
use Rattle.std.specs.List.{slice_get, slice_set, slice_index}
use Rattle.std.proofs.lemmas.List.{length-set, take_all}
use Rattle.std.proofs.lemmas.List.Edits.{map_over_more}
use Rattle.std.proofs.lemmas.Option.{get_or_from_slice_get, slice_get-get_or}
use Rattle.spv_grammar.specs.declared.kind.Role.{Role}
use Rattle.spv_grammar.specs.declared.kind.Role.TheVariants.{Opcode}
use Rattle.spv_grammar.specs.Operands.{roles_of}
use Rattle.spv_grammar.specs.Roles.{is_used_id}
use Rattle.spv_module.specs.Instruction.{Instruction, IsInstruction, parts, roles}
use Rattle.spv_placing.specs.Placing.{size_in}
use Rattle.spv_draft.specs.Named.{is_annotation, replaced, replaced_in, replaced_word, replaced_words, uses_at, with_word}
use Rattle.spv_draft.proofs.Lists.{no_more, size-replaced}
use Rattle.spv_draft.proofs.PutWhole.{parts_stay}

pub length-replaced : (a b : ℕ) (rs : List Role) (ws : List ℕ) → length (replaced_words a b rs ws) ≡ length ws
length-replaced a b [] ws = refl
length-replaced a b (r ∷ rs) [] = refl
length-replaced a b (r ∷ rs) (w ∷ ws) = ap suc (length-replaced a b rs ws)

-- a word that uses `a`
put_hit : (a b : ℕ) (rs : List Role) (ws : List ℕ) (k : ℕ) (d : Role) → k < length ws → length rs ≡ length ws
    → is_used_id (get_or rs k d) && get_or ws k 0 == a ≡ true → slice_set (replaced_words a b (take k rs) ws) k b ≡ replaced_words a b (take (suc k) rs) ws
put_hit a b [] [] k d h e hit = absurd (omega (arith, h))
put_hit a b [] (w ∷ ws) k d h e hit = absurd (omega (arith, e))
put_hit a b (r ∷ rs) [] k d h e hit = absurd (omega (arith, e))
put_hit a b (r ∷ rs) (w ∷ ws) zero d h e hit = ap (λ c. cond c b w ∷ ws) (sym hit)
put_hit a b (r ∷ rs) (w ∷ ws) (suc k) d h e hit =
    ap (λ vs. replaced_word a b r w ∷ vs) (put_hit a b rs ws k d (omega (arith, h)) (omega (arith, e)) hit)

-- another
put_other : (a b : ℕ) (rs : List Role) (ws : List ℕ) (k : ℕ) (d : Role) → k < length ws → length rs ≡ length ws
    → is_used_id (get_or rs k d) && get_or ws k 0 == a ≡ false → replaced_words a b (take k rs) ws ≡ replaced_words a b (take (suc k) rs) ws
put_other a b [] [] k d h e hit = absurd (omega (arith, h))
put_other a b [] (w ∷ ws) k d h e hit = absurd (omega (arith, e))
put_other a b (r ∷ rs) [] k d h e hit = absurd (omega (arith, e))
put_other a b (r ∷ rs) (w ∷ ws) zero d h e hit = ap (λ c. cond c b w ∷ ws) (sym hit)
put_other a b (r ∷ rs) (w ∷ ws) (suc k) d h e hit =
    ap (λ vs. replaced_word a b r w ∷ vs) (put_other a b rs ws k d (omega (arith, h)) (omega (arith, e)) hit)

stays_behind : (a b : ℕ) (rs : List Role) (ws : List ℕ) (k : ℕ) → length rs ≡ length ws → get_or (replaced_words a b (take k rs) ws) k 0 ≡ get_or ws k 0
stays_behind a b [] [] zero e = refl
stays_behind a b [] [] (suc k) e = refl
stays_behind a b [] (w ∷ ws) k e = absurd (omega (arith, e))
stays_behind a b (r ∷ rs) [] k e = absurd (omega (arith, e))
stays_behind a b (r ∷ rs) (w ∷ ws) zero e = refl
stays_behind a b (r ∷ rs) (w ∷ ws) (suc k) e = stays_behind a b rs ws k (omega (arith, e))

abbrev pub replaced_up_to : (a b k : ℕ) → Instruction → Instruction
replaced_up_to a b k i = record { offset = i.offset; words = replaced_words a b (take k (roles i)) i.words }

-- the k-th of the instructions is replaced in its first words
pub record IsReplaced (a b : ℕ) (start now : List Instruction) (k at : ℕ) (i : Instruction) : Type 0 where
  pub is : now ≡ slice_set start k (replaced_up_to a b at i)
  pub parted : roles_of (replaced_words a b (take at (roles i)) i.words) ≡ Ok (roles i)
  pub long : length (roles i) ≡ length i.words

set_here : (start : List Instruction) (k : ℕ) (i : Instruction) → slice_get start k ≡ Some i → slice_set start k i ≡ start
set_here [] k i e = absurd (cc e)
set_here (j ∷ start) zero i e = let same : j ≡ i = cc e in ap (λ x. x ∷ start) (sym same)
set_here (j ∷ start) (suc k) i e = ap (λ is. j ∷ is) (set_here start k i e)

set_again : (start : List Instruction) (k : ℕ) (i j : Instruction) → slice_set (slice_set start k i) k j ≡ slice_set start k j
set_again [] zero i j = refl
set_again [] (suc k) i j = refl
set_again (x ∷ start) zero i j = refl
set_again (x ∷ start) (suc k) i j = ap (λ is. x ∷ is) (set_again start k i j)

get_put : (start : List Instruction) (k : ℕ) (i : Instruction) → k < length start → slice_get (slice_set start k i) k ≡ Some i
get_put [] k i h = absurd (omega (arith, h))
get_put (x ∷ start) zero i h = refl
get_put (x ∷ start) (suc k) i h = get_put start k i (omega (arith, h))

pub one_of : (i j : Instruction) → Some i ≡ Some j → i ≡ j
one_of i j e = cc e

none_of : (a b : ℕ) (start : List Instruction) (k : ℕ) (i : Instruction) (rs : List Role) → slice_get start k ≡ Some i → IsInstruction i.words rs
    → IsReplaced a b start start k 0 i
none_of a b start k i rs at whole = record {
  is = sym (set_here start k i at);
  parted = whole.parted ∙ ap (λ (r : List Role). Ok r) (sym (ap parts whole.parted));
  long = ap length (ap parts whole.parted) ∙ whole.long;
}

pub replaced_none : (a b : ℕ) (start : List Instruction) (k : ℕ) (i j : Instruction) (rs : List Role) → slice_get start k ≡ Some i
    → slice_get start k ≡ Some j → IsInstruction j.words rs → IsReplaced a b start start k 0 i
replaced_none a b start k i j rs at here whole =
    none_of a b start k i rs at (subst (λ (x : Instruction). IsInstruction x.words rs) (one_of j i (sym here ∙ at)) whole)

pub as_long : (a b : ℕ) (start now : List Instruction) (k at : ℕ) (i : Instruction) → IsReplaced a b start now k at i → k < length start → k < length now
as_long a b start now k at i h within = omega (arith, within, ap length h.is, length-set start k (replaced_up_to a b at i))

-- a name or a decoration stays
pub annotation_stays : (a b : ℕ) (start : List Instruction) (k : ℕ) (i j : Instruction) → slice_get start k ≡ Some i → slice_get start k ≡ Some j
    → is_annotation j ≡ true → start ≡ slice_set start k (replaced_in a b i)
annotation_stays a b start k i j at here e =
    let same : j ≡ i = one_of j i (sym here ∙ at) in
    sym (set_here start k i at)
    ∙ ap (λ (c : Bool). slice_set start k (cond c i (record { offset = i.offset; words = replaced_words a b (roles i) i.words })))
    (sym (ap is_annotation (sym same) ∙ e))

module _ (a b : ℕ) (start now : List Instruction) (k at : ℕ) (i j : Instruction) (h : IsReplaced a b start now k at i) (within : k < length start)
    (inside : at < length i.words) (seen_is : slice_get now k ≡ Some j) where
  pub here : j ≡ replaced_up_to a b at i
  here = one_of j (replaced_up_to a b at i) (sym seen_is ∙ ap (λ is. slice_get is k) h.is ∙ get_put start k (replaced_up_to a b at i) within)

  pub long_here : length j.words ≡ length i.words
  long_here = ap (λ (x : Instruction). length x.words) here ∙ length-replaced a b (take at (roles i)) i.words

  same_roles : roles j ≡ roles i
  same_roles = ap roles here ∙ ap parts h.parted

  word_here : slice_index j.words at ≡ get_or i.words at 0
  word_here = ap (λ (x : Instruction). get_or x.words at 0) here ∙ stays_behind a b (roles i) i.words at h.long

  hit_is : uses_at j at && slice_index j.words at == a ≡ (is_used_id (get_or (roles i) at Opcode) && get_or i.words at 0 == a)
  hit_is =
      ap (λ (rs : List Role). is_used_id (get_or rs at Opcode) && slice_index j.words at == a) same_roles
      ∙ ap (λ (w : ℕ). is_used_id (get_or (roles i) at Opcode) && w == a) word_here

  -- a use of `a` was replaced
  pub replaced-hit : (after : List Instruction) → uses_at j at && slice_index j.words at == a ≡ true → after ≡ slice_set now k (with_word j at b)
      → IsReplaced a b start after k (at + 1) i
  replaced-hit after hit put =
      let found : is_used_id (get_or (roles i) at Opcode) && get_or i.words at 0 == a ≡ true = sym hit_is ∙ hit in
      let words : slice_set (replaced_words a b (take at (roles i)) i.words) at b ≡ replaced_words a b (take (at + 1) (roles i)) i.words =
      rw add-one (put_hit a b (roles i) i.words at Opcode inside h.long found) in
      record {
        is =
            put
            ∙ ap (λ (x : Instruction). slice_set now k (with_word x at b)) here
            ∙ ap (λ is. slice_set is k (with_word (replaced_up_to a b at i) at b)) h.is
            ∙ set_again start k (replaced_up_to a b at i) (with_word (replaced_up_to a b at i) at b)
            ∙ ap (λ ws. slice_set start k (record { offset = i.offset; words = ws })) words;
        parted =
            ap roles_of (sym words)
            ∙ parts_stay (roles i) (replaced_words a b (take at (roles i)) i.words) at b Opcode
            (omega (arith, inside, length-replaced a b (take at (roles i)) i.words))
            (h.long ∙ sym (length-replaced a b (take at (roles i)) i.words)) (both_true _ _ found) h.parted;
        long = h.long;
      }
    where
      both_true : (x y : Bool) → x && y ≡ true → x ≡ true
      both_true true y e = refl
      both_true false y e = cc

  -- no other word is
  pub replaced-other : uses_at j at && slice_index j.words at == a ≡ false → IsReplaced a b start now k (at + 1) i
  replaced-other hit =
      let words : replaced_words a b (take at (roles i)) i.words ≡ replaced_words a b (take (at + 1) (roles i)) i.words =
      rw add-one (put_other a b (roles i) i.words at Opcode inside h.long (sym hit_is ∙ hit)) in
      record {
        is = h.is ∙ ap (λ ws. slice_set start k (record { offset = i.offset; words = ws })) words;
        parted = ap roles_of (sym words) ∙ h.parted;
        long = h.long;
      }

pub replaced-all : (a b : ℕ) (start now : List Instruction) (k at : ℕ) (i : Instruction) → IsReplaced a b start now k at i → length i.words ≤ at
    → now ≡ slice_set start k (record { offset = i.offset; words = replaced_words a b (roles i) i.words })
replaced-all a b start now k at i h n =
    h.is
    ∙ ap (λ (rs : List Role). slice_set start k (record { offset = i.offset; words = replaced_words a b rs i.words }))
    (take_all at (roles i) (omega (arith, h.long, n)))

pub use_of : (i : Instruction) (at a : ℕ) → uses_at i at && slice_index i.words at == a ≡ true → uses_at i at ≡ true
use_of i at a e = left (uses_at i at) (slice_index i.words at == a) e
  where
    left : (x y : Bool) → x && y ≡ true → x ≡ true
    left true y e = refl
    left false y e = cc

-- one instruction more
pub replaced-more : (a b : ℕ) (start now after : List Instruction) (k : ℕ) → k < length start
    → now ≡ map (replaced_in a b) (take k start) ++ drop k start
    → ((i : Instruction) → slice_get now k ≡ Some i → after ≡ slice_set now k (replaced_in a b i))
    → after ≡ map (replaced_in a b) (take (k + 1) start) ++ drop (k + 1) start
replaced-more a b start now after k h is put =
    let none : Instruction = record { offset = 0; words = [] } in
    let i : Instruction = get_or now k none in
    let long : length now ≡ length start = ap length is ∙ long_again (replaced_in a b) start k in
    let at : slice_get now k ≡ Some i = slice_get-get_or now k none (omega (arith, h, long)) in
    put i at ∙ map_over_more (replaced_in a b) start now k i h is (sym (get_or_from_slice_get now k i i at))
  where
    long_again : (f : Instruction → Instruction) (is : List Instruction) (k : ℕ) → length (map f (take k is) ++ drop k is) ≡ length is
    long_again f is zero = refl
    long_again f [] (suc k) = refl
    long_again f (i ∷ is) (suc k) = ap suc (long_again f is k)

pub size-with_word : (insts : List Instruction) (k at w size : ℕ) (i : Instruction) → k < length insts → slice_get insts k ≡ Some i → size ≡ size_in insts
    → size ≡ size_in (slice_set insts k (with_word i at w))
size-with_word insts k at w size i h here is =
    size-replaced insts i (with_word i at w) k (length i.words) size size h here refl is (omega (arith, length-set i.words at w, no_less))
  where
    no_less : length i.words ≤ size
    no_less = no_more insts i k (length i.words) size here refl is
