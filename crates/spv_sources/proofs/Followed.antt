-- The table of the labels that stay.
use Rattle.std.proofs.Common.{◌≡◌, ◌⊎◌, inl, inr, ℕ, zero, suc, ◌+◌, ◌<◌, Bool, true, false, ◌==◌, ◌||◌, List, [], ◌∷◌, length, take, Option, Some, None, refl, sym, ap, subst, ◌∙◌, arith}
use Rattle.std.specs.BTreeMap.{BTreeMap, get}
use Rattle.std.specs.List.{list_any, slice_get}
use Rattle.std.specs.Option.{option_map, unwrap_or}
use Rattle.std.specs.Ordering.{nat_cmp}
use Rattle.std.proofs.lemmas.Bool.{cases_order}
use Rattle.std.proofs.lemmas.List.Folds.{list_any-append}
use Rattle.std.proofs.lemmas.Option.{slice_get_within, slice_get_cases}
use Rattle.spv_blocks.proofs.Slices.{take-at}
use Rattle.spv_module.specs.Instruction.{Instruction}
use Rattle.spv_blocks.specs.Blocks.{Code, Block, block, is_label}
use Rattle.spv_blocks.specs.Cutting.{blocks_of}
use Rattle.spv_walk.proofs.Unique.{either_holds, equal_true, left_holds, right_holds, tells, true_equal}
use Rattle.spv_normal.specs.Order.{joins}
use Rattle.spv_spelling.specs.Clean.{IsClean, no_pointers}
use Rattle.spv_spelling.specs.Spelling.{AreStaying}
use Rattle.spv_spelling.proofs.Paths.{path_of_walk}
use Rattle.spv_sources.specs.Source.{label_in}
use Rattle.spv_sources.specs.Staying as chain
use Rattle.spv_sources.specs.Staying.{Chain, IsHead, IsBehind, Puts, Follows, AreFollowed}
use Rattle.spv_sources.proofs.Chains.{join_label, label_block, one_head, HasHead, head_of}

-- a block with a label has a number
at_label : (f : Code) (l : ℕ) (b : Block) → block f l ≡ Some b → (j : ℕ) × (c : Block) × (slice_get f j ≡ Some c) × (c.label ≡ l)
at_label [] l b e = absurd (cc (e))
at_label (c ∷ f) l b e = elim (tells (c.label == l)) [
  | inl h ↦ (0, c, refl, equal_true c.label l h)
  | inr h ↦ let more = at_label f l b (rw h at e) in (suc more.0, more.1, more.2, more.3)
]

-- a test that a block passes
any_at : (p : Block → Bool) (f : Code) (j : ℕ) (c : Block) → slice_get f j ≡ Some c → p c ≡ true → list_any p f ≡ true
any_at p [] j c e h = absurd (cc (e))
any_at p (b ∷ f) zero c e h = let same : b ≡ c = cc in left_holds (p b) (list_any p f) (ap p same ∙ h)
any_at p (b ∷ f) (suc j) c e h = right_holds (p b) (list_any p f) (any_at p f j c e h)

some_at : (p : Block → Bool) (f : Code) → list_any p f ≡ true → (b : Block) × (p b ≡ true)
some_at p [] h = absurd (cc (h))
some_at p (b ∷ f) h = elim (either_holds (p b) (list_any p f) h) [
  | inl g ↦ (b, g)
  | inr g ↦ some_at p f g
]

pub no_head : (f : Code) (t : ℕ) → list_any (λ (b : Block). joins f b.label t) f ≡ true → IsHead f t → ⊥
no_head f t h head = let b = some_at (λ (b : Block). joins f b.label t) f h in head b.0.label b.1

some_same : (a b : ℕ) → Some a ≡ Some b → a ≡ b
some_same a b e = cc

some_block : (a b : Block) → Some a ≡ Some b → a ≡ b
some_block a b e = cc

earlier : (j k : ℕ) → j < k + 1 → (j < k) ⊎ (j ≡ k)
earlier j k below = elim (cases_order j k) [
  | inl e ↦ inr e
  | inr x ↦ elim x [
    | inl lt ↦ inl lt
    | inr gt ↦ absurd (omega arith)
  ]
]

or_false : (b : Bool) → (b || false) ≡ b
or_false true = refl
or_false false = refl

-- the label of the k-th block
pub labelled : (f : Code) (k label : ℕ) (o : Option Block) → slice_get f k ≡ o → Some label ≡ option_map (λ (b : Block). b.label) o
    → (b : Block) × (slice_get f k ≡ Some b) × (b.label ≡ label)
labelled f k label None at e = absurd (cc (e))
labelled f k label (Some b) at e = (b, at, some_same b.label label (sym e))

pub label_at : (f : Code) (k : ℕ) (b : Block) → slice_get f k ≡ Some b → is_label f b.label ≡ true
label_at [] k b e = absurd (cc (e))
label_at (c ∷ f) zero b e = let same : c.label ≡ b.label = ap (λ (z : Block). z.label) (some_block c b e) in let h = true_equal c.label b.label same in rw h refl
label_at (c ∷ f) (suc k) b e = elim (tells (c.label == b.label)) [
  | inl h ↦ rw h refl
  | inr h ↦ rw h (label_at f k b e)
]

pub joined-more : (f : Code) (k : ℕ) (old new : ℕ → Bool) → k < length f
    → ((b : Block) → slice_get f k ≡ Some b → (t : ℕ) → new t ≡ (old t || joins f b.label t))
    → ((t : ℕ) → old t ≡ list_any (λ (b : Block). joins f b.label t) (take k f)) → (t : ℕ) → new t ≡ list_any (λ (b : Block). joins f b.label t) (take (k + 1) f)
joined-more f k old new within adds told t = elim (slice_get_cases f k).1 [
  | inr past ↦ absurd (omega (arith, past.0))
  | inl found ↦
      adds found.0 found.2 t ∙ ap (λ z. z || joins f found.0.label t) (told t)
      ∙ sym (ap (list_any (λ (b : Block). joins f b.label t)) (take-at f k found.0 found.2) ∙ list_any-append (λ (b : Block). joins f b.label t) (take k f) (found.0 ∷ [])
      ∙ ap (λ z. list_any (λ (b : Block). joins f b.label t) (take k f) || z) (or_false (joins f found.0.label t)))
]

module _ (f : Code) (clean : IsClean no_pointers f) where
  pub is_head : (t : ℕ) → list_any (λ (b : Block). joins f b.label t) f ≡ false → IsHead f t
  is_head t h l j =
      let found = label_block f l (join_label f clean l t j) in
      let at = at_label f l found.0 found.1 in
      absurd (cc (sym h ∙ any_at (λ (b : Block). joins f b.label t) f at.0 at.1 at.2 (ap (λ z. joins f z t) at.3 ∙ j)))

  pub followed-more : (k : ℕ) (b : Block) (stays stays2 : BTreeMap ℕ ℕ) → slice_get f k ≡ Some b → IsHead f b.label → Follows f b.label stays stays2
      → AreFollowed f k stays → AreFollowed f (k + 1) stays2
  followed-more k b stays stays2 at head follows followed = record {
    sound = λ t h e. elim (follows.off t) [
      | inl same ↦ followed.sound t h (sym same ∙ e)
      | inr x ↦ let same : b.label ≡ h = some_same b.label h (sym x.0 ∙ e) in (subst (IsHead f) same head, subst (λ z. IsBehind f z t) same x.1)
    ];
    whole = λ j c l t below found own before joined. elim (earlier j k below) [
      | inl lt ↦ elim (follows.off t) [
        | inl same ↦ same ∙ followed.whole j c l t lt found own before joined
        | inr x ↦ x.0 ∙ ap Some (one_head f clean b.label c.label t t refl head own (chain.Onward x.1.before t x.1.chain x.1.joined) (chain.Onward l t before joined))
      ]
      | inr e ↦
          let same : b ≡ c = some_block b c (sym at ∙ ap (slice_get f) (sym e) ∙ found) in
          follows.on l t (subst (λ (z : Block). Chain f z.label l) (sym same) before) joined ∙ ap (λ (z : Block). Some z.label) same
    ];
  }

  pub followed-other : (k : ℕ) (b : Block) (stays : BTreeMap ℕ ℕ) → slice_get f k ≡ Some b → list_any (λ (c : Block). joins f c.label b.label) f ≡ true
      → AreFollowed f k stays → AreFollowed f (k + 1) stays
  followed-other k b stays at joined followed = record {
    sound = followed.sound;
    whole = λ j c l t below found own before join. elim (earlier j k below) [
      | inl lt ↦ followed.whole j c l t lt found own before join
      | inr e ↦
          let same : b ≡ c = some_block b c (sym at ∙ ap (slice_get f) (sym e) ∙ found) in
          absurd (no_head f b.label joined (subst (λ (z : Block). IsHead f z.label) (sym same) own))
    ];
  }

  pub chain_more : (k label head : ℕ) (stays new : BTreeMap ℕ ℕ) → Some label ≡ option_map (λ (b : Block). b.label) (slice_get f k)
      → list_any (λ (b : Block). joins f b.label label) f ≡ false → head ≡ label
      → Follows f head stays new → AreFollowed f k stays → AreFollowed f (k + 1) new
  chain_more k label head stays new e none same follows followed =
      let b = labelled f k label (slice_get f k) refl e in
      followed-more k b.0 stays new b.1 (is_head b.0.label (ap (λ z. list_any (λ (c : Block). joins f c.label z) f) b.2 ∙ none)) (subst (λ z. Follows f z stays new) (same ∙ sym b.2) follows) followed

  pub chain_other : (k label : ℕ) (stays : BTreeMap ℕ ℕ) → Some label ≡ option_map (λ (b : Block). b.label) (slice_get f k)
      → list_any (λ (b : Block). joins f b.label label) f ≡ true
      → AreFollowed f k stays → AreFollowed f (k + 1) stays
  chain_other k label stays e joined followed =
      let b = labelled f k label (slice_get f k) refl e in
      followed-other k b.0 stays b.1 (ap (λ z. list_any (λ (c : Block). joins f c.label z) f) b.2 ∙ joined) followed

  -- a block that something is joined with, has a head with a number
  has_head : (l : ℕ) → is_label f l ≡ true → HasHead f clean l
  has_head l is =
      let found = label_block f l is in
      let walked = clean.walked l found.0 found.1 in
      let path = path_of_walk f l walked.0 walked.1 in
      head_of f clean path.0 l walked.0 path.1

  head_label : (h l : ℕ) → Chain f h l → is_label f l ≡ true → is_label f h ≡ true
  head_label h _ chain.Alone is = is
  head_label h _ (chain.Onward l t before joined) is = head_label h l before (join_label f clean l t joined)

  module _ (stays : BTreeMap ℕ ℕ) (followed : AreFollowed f (length f) stays) where
    -- what is joined has its head in the table
    in_table : (h l t : ℕ) → IsHead f h → Chain f h l → joins f l t ≡ true → get nat_cmp stays t ≡ Some h
    in_table h l t own before joined =
        let label = head_label h l before (join_label f clean l t joined) in
        let found = label_block f h label in
        let at = at_label f h found.0 found.1 in
        followed.whole at.0 at.1 l t (slice_get_within f at.0 at.1 at.2) at.2 (subst (IsHead f) (sym at.3) own) (subst (λ z. Chain f z l) (sym at.3) before) joined ∙ ap Some at.3

    not_in_table : (t : ℕ) (o : Option ℕ) → get nat_cmp stays t ≡ o → IsHead f t → o ≡ None
    not_in_table t None e own = refl
    not_in_table t (Some h) e own = let x = followed.sound t h e in absurd (own x.1.before x.1.joined)

    head_stays : (h l : ℕ) → IsHead f h → Chain f h l → label_in stays.entries l ≡ h
    head_stays h _ own chain.Alone = ap (λ (o : Option ℕ). unwrap_or o h) (not_in_table h (get nat_cmp stays h) refl own)
    head_stays h _ own (chain.Onward l t before joined) = ap (λ (o : Option ℕ). unwrap_or o t) (in_table h l t own before joined)

    pub joined_stay : (l t : ℕ) → is_label f l ≡ true → joins f l t ≡ true → label_in stays.entries t ≡ label_in stays.entries l
    joined_stay l t is joined =
        let head = has_head l is in
        head_stays head.head t head.is_head (chain.Onward l t head.chain joined) ∙ sym (head_stays head.head l head.is_head head.chain)

    pub own_stay : (t : ℕ) → ((l : ℕ) → is_label f l ≡ true → joins f l t ≡ true → ⊥) → label_in stays.entries t ≡ t
    own_stay t none = ap (λ (o : Option ℕ). unwrap_or o t) (not_in_table t (get nat_cmp stays t) refl (λ l j. none l (join_label f clean l t j) j))

pub are_staying : (insts : List Instruction) (stays : BTreeMap ℕ ℕ) → IsClean no_pointers (blocks_of insts)
    → AreFollowed (blocks_of insts) (length (blocks_of insts)) stays → AreStaying insts (label_in stays.entries)
are_staying insts stays clean followed = record { joined = joined_stay (blocks_of insts) clean stays followed; own = own_stay (blocks_of insts) clean stays followed }

-- the label of the k-th block is a label
pub is_label_of : (f : Code) (k label : ℕ) → Some label ≡ option_map (λ (b : Block). b.label) (slice_get f k) → is_label f label ≡ true
is_label_of f k label e =
    let b = labelled f k label (slice_get f k) refl e in
    ap (is_label f) (sym b.2) ∙ label_at f k b.0 b.1
