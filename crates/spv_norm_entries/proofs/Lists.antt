-- Elements of lists, and what some of them pass.
use Rattle.std.proofs.Common.{◌≡◌, inl, inr, ℕ, zero, suc, ◌⊎◌, Bool, true, false, cond, nat_eq, ◌||◌, List, [], ◌∷◌, ◌++◌, take, drop, Option, Some, None, refl, sym, ap, ◌∙◌}
use Rattle.std.specs.List.{AllByRecursion, cons_option, filter, filter_map, flat_map, list_any, slice_get}
use Rattle.graph.proofs.Elements.{same_test}
use Rattle.spv_module.specs.Instruction.{Instruction}
use Rattle.spv_calls.specs.Interfaces.{has}
use Rattle.spv_trees.specs.Standing.{OneOf}
use Rattle.spv_tree.specs.Tree.{words_of}
use Rattle.spv_walk.proofs.Unique.{either_holds, equal_true, left_holds, right_holds}

-- an instruction with these words
abbrev pub inst_of : List ℕ → Instruction
inst_of w = record { offset = 0; words = w }

-- ---- by their places

pub one_there : {X : Type 0} (xs : List X) (k : ℕ) (x : X) → slice_get xs k ≡ Some x → OneOf x xs
one_there [] k x e = absurd (cc e)
one_there (y ∷ ys) zero x e = inl (let s : y ≡ x = cc e in sym s)
one_there (y ∷ ys) (suc k) x e = inr (one_there ys k x e)

pub there_of : {X : Type 0} (xs : List X) (x : X) → OneOf x xs → (k : ℕ) × (slice_get xs k ≡ Some x)
there_of [] x h = absurd h
there_of (y ∷ ys) x (inl e) = (0, ap Some (sym e))
there_of (y ∷ ys) x (inr h) = let r = there_of ys x h in (suc r.0, r.1)

pub one_front : {X : Type 0} (x : X) (xs ys : List X) → OneOf x xs → OneOf x (xs ++ ys)
one_front x [] ys h = absurd h
one_front x (z ∷ zs) ys (inl e) = inl e
one_front x (z ∷ zs) ys (inr h) = inr (one_front x zs ys h)

pub one_back : {X : Type 0} (x : X) (xs ys : List X) → OneOf x ys → OneOf x (xs ++ ys)
one_back x [] ys h = h
one_back x (z ∷ zs) ys h = inr (one_back x zs ys h)

pub all_when : {X : Type 0} (P : X → Type 0) (xs : List X) → ((x : X) → OneOf x xs → P x) → AllByRecursion P xs
all_when P [] h = tt
all_when P (x ∷ xs) h = (h x (inl refl), all_when P xs (λ y g. h y (inr g)))

pub filtered_one : {X : Type 0} (test : X → Bool) (xs : List X) (x : X) → OneOf x (filter test xs) → OneOf x xs × (test x ≡ true)
filtered_one test [] x h = absurd h
filtered_one test (y ∷ ys) x h = by (test y) refl h (filtered_one test ys x) where
  by : (b : Bool) → test y ≡ b → OneOf x (cond b (y ∷ filter test ys) (filter test ys)) → (OneOf x (filter test ys) → OneOf x ys × (test x ≡ true))
      → OneOf x (y ∷ ys) × (test x ≡ true)
  by true e (inl s) more = (inl s, ap test s ∙ e)
  by true e (inr g) more = let r = more g in (inr r.0, r.1)
  by false e g more = let r = more g in (inr r.0, r.1)

pub one_filtered : {X : Type 0} (test : X → Bool) (xs : List X) (x : X) → OneOf x xs → test x ≡ true → OneOf x (filter test xs)
one_filtered test [] x h t = absurd h
one_filtered test (y ∷ ys) x h t = by (test y) refl h (one_filtered test ys x) where
  by : (b : Bool) → test y ≡ b → OneOf x (y ∷ ys) → (OneOf x ys → test x ≡ true → OneOf x (filter test ys))
      → OneOf x (cond b (y ∷ filter test ys) (filter test ys))
  by true e (inl s) more = inl s
  by true e (inr g) more = inr (more g t)
  by false e (inl s) more = absurd (cc (t, ap test s ∙ e))
  by false e (inr g) more = more g t

-- the same words stand in a list of the same words
pub one_by_words : (xs ys : List Instruction) → words_of xs ≡ words_of ys → (x : Instruction) → OneOf x xs
    → (y : Instruction) × OneOf y ys × (y.words ≡ x.words)
one_by_words [] ys e x h = absurd h
one_by_words (z ∷ zs) [] e x h = absurd (cc e)
one_by_words (z ∷ zs) (y ∷ ys) e x (inl s) =
    let here : z.words ≡ y.words = cc e in
    (y, inl refl, sym here ∙ ap (λ (i : Instruction). i.words) (sym s))
one_by_words (z ∷ zs) (y ∷ ys) e x (inr h) =
    let later : words_of zs ≡ words_of ys = cc e in
    let r = one_by_words zs ys later x h in
    (r.0, inr r.1, r.2)

-- ---- in front or behind

pub record IsFront {X : Type 0} (xs ys : List X) (k : ℕ) (x : X) : Type 0 where
  pub there : slice_get xs k ≡ Some x
  pub before : take k (xs ++ ys) ≡ take k xs

pub record IsBack {X : Type 0} (xs ys : List X) (k : ℕ) (x : X) : Type 0 where
  pub place : ℕ
  pub there : slice_get ys place ≡ Some x
  pub before : take k (xs ++ ys) ≡ xs ++ take place ys
  pub behind : drop k (xs ++ ys) ≡ drop place ys

pub front_or_back : {X : Type 0} (xs ys : List X) (k : ℕ) (x : X) → slice_get (xs ++ ys) k ≡ Some x → IsFront xs ys k x ⊎ IsBack xs ys k x
front_or_back [] ys k x e = inr (record { place = k; there = e; before = refl; behind = refl })
front_or_back (z ∷ zs) ys zero x e = inl (record { there = e; before = refl })
front_or_back (z ∷ zs) ys (suc k) x e = elim (front_or_back zs ys k x e) [
  | inl f ↦ inl (record { there = f.there; before = ap (λ r. z ∷ r) f.before })
  | inr b ↦ inr (record { place = b.place; there = b.there; before = ap (λ r. z ∷ r) b.before; behind = b.behind })
]

pub drop_at : {X : Type 0} (xs : List X) (k : ℕ) (x : X) → slice_get xs k ≡ Some x → drop k xs ≡ x ∷ drop (suc k) xs
drop_at [] k x e = absurd (cc e)
drop_at (y ∷ ys) zero x e = let same : y ≡ x = cc e in ap (λ z. z ∷ ys) same
drop_at (y ∷ ys) (suc k) x e = drop_at ys k x e

-- ---- tests of some

pub any_same : {X : Type 0} (p q : X → Bool) (xs : List X) → ((x : X) → p x ≡ q x) → list_any p xs ≡ list_any q xs
any_same p q [] h = refl
any_same p q (x ∷ xs) h = ap (λ (b : Bool). b || list_any p xs) (h x) ∙ ap (λ b. q x || b) (any_same p q xs h)

pub any_words : (p : List ℕ → Bool) (is : List Instruction) → list_any (λ (i : Instruction). p i.words) is ≡ list_any p (words_of is)
any_words p [] = refl
any_words p (i ∷ is) = ap (λ b. p i.words || b) (any_words p is)

pub none_filtered : {X : Type 0} (p test : X → Bool) (xs : List X) → list_any p xs ≡ false → list_any p (filter test xs) ≡ false
none_filtered p test [] h = refl
none_filtered p test (x ∷ xs) h = by (p x) (test x) refl h (none_filtered p test xs) where
  by : (b c : Bool) → p x ≡ b → (b || list_any p xs) ≡ false → (list_any p xs ≡ false → list_any p (filter test xs) ≡ false)
      → list_any p (cond c (x ∷ filter test xs) (filter test xs)) ≡ false
  by true c e h more = absurd (cc h)
  by false true e h more = ap (λ (b : Bool). b || list_any p (filter test xs)) e ∙ more h
  by false false e h more = more h

pub one_any : {X : Type 0} (p : X → Bool) (xs : List X) (x : X) → OneOf x xs → p x ≡ true → list_any p xs ≡ true
one_any p [] x h e = absurd h
one_any p (y ∷ ys) x (inl s) e = left_holds (p y) (list_any p ys) (ap p (sym s) ∙ e)
one_any p (y ∷ ys) x (inr h) e = right_holds (p y) (list_any p ys) (one_any p ys x h e)

pub any_one : {X : Type 0} (p : X → Bool) (xs : List X) → list_any p xs ≡ true → (x : X) × OneOf x xs × (p x ≡ true)
any_one p [] e = absurd (cc e)
any_one p (y ∷ ys) e = elim (either_holds (p y) (list_any p ys) e) [
  | inl h ↦ (y, inl refl, h)
  | inr h ↦ (let r = any_one p ys h in (r.0, inr r.1, r.2))
]

-- ---- numbers that a list has

pub has_front : (xs ys : List ℕ) (x : ℕ) → has xs x ≡ true → has (xs ++ ys) x ≡ true
has_front [] ys x h = absurd (cc h)
has_front (z ∷ zs) ys x h = elim (either_holds (nat_eq x z) (has zs x) h) [
  | inl e ↦ left_holds (nat_eq x z) (has (zs ++ ys) x) e
  | inr g ↦ right_holds (nat_eq x z) (has (zs ++ ys) x) (has_front zs ys x g)
]

pub has_back : (xs ys : List ℕ) (x : ℕ) → has ys x ≡ true → has (xs ++ ys) x ≡ true
has_back [] ys x h = h
has_back (z ∷ zs) ys x h = right_holds (nat_eq x z) (has (zs ++ ys) x) (has_back zs ys x h)

pub has_either : (xs ys : List ℕ) (x : ℕ) → has (xs ++ ys) x ≡ true → (has xs x ≡ true) ⊎ (has ys x ≡ true)
has_either [] ys x h = inr h
has_either (z ∷ zs) ys x h = elim (either_holds (nat_eq x z) (has (zs ++ ys) x) h) [
  | inl e ↦ inl (left_holds (nat_eq x z) (has zs x) e)
  | inr g ↦ elim (has_either zs ys x g) [
    | inl k ↦ inl (right_holds (nat_eq x z) (has zs x) k)
    | inr k ↦ inr k
  ]
]

pub flat_has : {X : Type 0} (F : X → List ℕ) (xs : List X) (n : ℕ) → has (flat_map F xs) n ≡ true → (x : X) × OneOf x xs × (has (F x) n ≡ true)
flat_has F [] n h = absurd (cc h)
flat_has F (x ∷ xs) n h = elim (has_either (F x) (flat_map F xs) n h) [
  | inl g ↦ (x, inl refl, g)
  | inr g ↦ (let r = flat_has F xs n g in (r.0, inr r.1, r.2))
]

pub has_flat : {X : Type 0} (F : X → List ℕ) (xs : List X) (n : ℕ) (x : X) → OneOf x xs → has (F x) n ≡ true → has (flat_map F xs) n ≡ true
has_flat F [] n x o h = absurd o
has_flat F (y ∷ ys) n x (inl e) h = has_front (F y) (flat_map F ys) n (ap (λ z. has (F z) n) (sym e) ∙ h)
has_flat F (y ∷ ys) n x (inr o) h = has_back (F y) (flat_map F ys) n (has_flat F ys n x o h)

option_has : (o : Option ℕ) (rest : List ℕ) (n : ℕ) → has (cons_option o rest) n ≡ true → (o ≡ Some n) ⊎ (has rest n ≡ true)
option_has None rest n h = inr h
option_has (Some x) rest n h = elim (either_holds (nat_eq n x) (has rest n) h) [
  | inl e ↦ inl (ap Some (sym (equal_true n x e)))
  | inr g ↦ inr g
]

has_option : (o : Option ℕ) (rest : List ℕ) (n : ℕ) → (o ≡ Some n) ⊎ (has rest n ≡ true) → has (cons_option o rest) n ≡ true
has_option None rest n (inl e) = absurd (cc e)
has_option None rest n (inr h) = h
has_option (Some x) rest n (inl e) =
    let same : x ≡ n = cc e in
    left_holds (nat_eq n x) (has rest n) (ap (nat_eq n) same ∙ same_test n n refl)
has_option (Some x) rest n (inr h) = right_holds (nat_eq n x) (has rest n) h

pub mapped_has : {X : Type 0} (F : X → Option ℕ) (xs : List X) (n : ℕ) → has (filter_map F xs) n ≡ true → (x : X) × OneOf x xs × (F x ≡ Some n)
mapped_has F [] n h = absurd (cc h)
mapped_has F (x ∷ xs) n h = elim (option_has (F x) (filter_map F xs) n h) [
  | inl e ↦ (x, inl refl, e)
  | inr g ↦ (let r = mapped_has F xs n g in (r.0, inr r.1, r.2))
]

pub has_mapped : {X : Type 0} (F : X → Option ℕ) (xs : List X) (n : ℕ) (x : X) → OneOf x xs → F x ≡ Some n → has (filter_map F xs) n ≡ true
has_mapped F [] n x o e = absurd o
has_mapped F (y ∷ ys) n x (inl s) e = has_option (F y) (filter_map F ys) n (inl (ap F (sym s) ∙ e))
has_mapped F (y ∷ ys) n x (inr o) e = has_option (F y) (filter_map F ys) n (inr (has_mapped F ys n x o e))

pub kept_has : (test : ℕ → Bool) (xs : List ℕ) (n : ℕ) → has (filter test xs) n ≡ true → (has xs n ≡ true) × (test n ≡ true)
kept_has test [] n h = absurd (cc h)
kept_has test (x ∷ xs) n h = by (test x) refl h (kept_has test xs n) where
  by : (b : Bool) → test x ≡ b → has (cond b (x ∷ filter test xs) (filter test xs)) n ≡ true
      → (has (filter test xs) n ≡ true → (has xs n ≡ true) × (test n ≡ true)) → (has (x ∷ xs) n ≡ true) × (test n ≡ true)
  by true e g more = elim (either_holds (nat_eq n x) (has (filter test xs) n) g) [
    | inl s ↦ (left_holds (nat_eq n x) (has xs n) s, ap test (equal_true n x s) ∙ e)
    | inr k ↦ (let r = more k in (right_holds (nat_eq n x) (has xs n) r.0, r.1))
  ]
  by false e g more = let r = more g in (right_holds (nat_eq n x) (has xs n) r.0, r.1)

pub has_kept : (test : ℕ → Bool) (xs : List ℕ) (n : ℕ) → has xs n ≡ true → test n ≡ true → has (filter test xs) n ≡ true
has_kept test [] n h t = absurd (cc h)
has_kept test (x ∷ xs) n h t = by (test x) refl (either_holds (nat_eq n x) (has xs n) h) (has_kept test xs n) where
  by : (b : Bool) → test x ≡ b → (nat_eq n x ≡ true) ⊎ (has xs n ≡ true) → (has xs n ≡ true → test n ≡ true → has (filter test xs) n ≡ true)
      → has (cond b (x ∷ filter test xs) (filter test xs)) n ≡ true
  by true e (inl s) more = left_holds (nat_eq n x) (has (filter test xs) n) s
  by true e (inr g) more = right_holds (nat_eq n x) (has (filter test xs) n) (more g t)
  by false e (inl s) more = absurd (cc (t, ap test (equal_true n x s) ∙ e))
  by false e (inr g) more = more g t
