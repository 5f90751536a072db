-- Lists with marks, and lists that are alike.
use Rattle.std.proofs.Common.{◌≡◌, ℕ, suc, Bool, true, false, cond, ◌||◌, List, [], ◌∷◌, ◌++◌, map, length, refl, sym, ap, ◌∙◌, subst}
use Rattle.std.proofs.Math.Nat.{suc_inj}
use Rattle.interleaving.specs.Machine.{Answer}
use Rattle.interleaving.specs.Keeps.{without, Alike, LastKept}
use Rattle.interleaving.specs.Loses.{marks_of, LastIs}

-- nothing is left of nothing
pub without_nothing : {X : Type 0} (bs : List Bool) → without {X = X} bs [] ≡ []
without_nothing [] = refl
without_nothing (b ∷ bs) = refl

-- lists that are alike stay so without what is marked
pub alike_without : {A B : Type 0} (R : A → B → Type 0) (bs : List Bool) (xs : List A) (ys : List B) → Alike R xs ys → Alike R (without bs xs) (without bs ys)
alike_without R [] xs ys h = h
alike_without R (b ∷ bs) [] [] h = tt
alike_without R (b ∷ bs) [] (y ∷ ys) h = absurd h
alike_without R (b ∷ bs) (x ∷ xs) [] h = absurd h
alike_without R (true ∷ bs) (x ∷ xs) (y ∷ ys) h = alike_without R bs xs ys h.1
alike_without R (false ∷ bs) (x ∷ xs) (y ∷ ys) h = (h.0, alike_without R bs xs ys h.1)

-- alike lists compose, as their elements do
pub alike_compose : {A B C : Type 0} (R : A → B → Type 0) (Q : B → C → Type 0) (T : A → C → Type 0) → ((x : A) (y : B) (z : C) → R x y → Q y z → T x z) → (xs : List A) (ys : List B) (zs : List C) → Alike R xs ys → Alike Q ys zs → Alike T xs zs
alike_compose R Q T join [] [] [] h k = tt
alike_compose R Q T join [] [] (z ∷ zs) h k = absurd k
alike_compose R Q T join [] (y ∷ ys) zs h k = absurd h
alike_compose R Q T join (x ∷ xs) [] zs h k = absurd h
alike_compose R Q T join (x ∷ xs) (y ∷ ys) [] h k = absurd k
alike_compose R Q T join (x ∷ xs) (y ∷ ys) (z ∷ zs) h k = (join x y z h.0 k.0, alike_compose R Q T join xs ys zs h.1 k.1)

-- a list is alike to itself, as its elements are
pub alike_self : {A : Type 0} (R : A → A → Type 0) → ((x : A) → R x x) → (xs : List A) → Alike R xs xs
alike_self R self [] = tt
alike_self R self (x ∷ xs) = (self x, alike_self R self xs)

-- what the last element is in the second of two alike lists, it is in the first
pub last_back : {A B : Type 0} (R : A → B → Type 0) (P : A → Type 0) (Q : B → Type 0) → ((x : A) (y : B) → R x y → Q y → P x) → (xs : List A) (ys : List B) → Alike R xs ys → LastIs Q ys → LastIs P xs
last_back R P Q back [] [] h k = k
last_back R P Q back [] (y ∷ ys) h k = absurd h
last_back R P Q back (x ∷ xs) [] h k = absurd h
last_back R P Q back (x ∷ []) (y ∷ []) h k = back x y h.0 k
last_back R P Q back (x ∷ []) (y ∷ z ∷ ys) h k = absurd h.1
last_back R P Q back (x ∷ w ∷ xs) (y ∷ []) h k = absurd h.1
last_back R P Q back (x ∷ w ∷ xs) (y ∷ z ∷ ys) h k = last_back R P Q back (w ∷ xs) (z ∷ ys) h.1 k

-- there is an element
abbrev pub Filled : {A : Type 0} → List A → Type 0
Filled [] = ⊥
Filled (x ∷ xs) = Unit {0}

-- a list of some length has an element, and so has its image
pub filled : {A : Type 0} (xs : List A) (n : ℕ) → length xs ≡ suc n → Filled xs
filled [] n e = absurd (cc e)
filled (x ∷ xs) n e = tt

pub filled_map : {A B : Type 0} (f : A → B) (xs : List A) → Filled xs → Filled (map f xs)
filled_map f [] h = h
filled_map f (x ∷ xs) h = tt

-- what is not marked is left
some_left : {A : Type 0} (b : Bool) (bs : List Bool) (xs : List A) → length xs ≡ suc (length bs) → LastKept (b ∷ bs) → Filled (without (b ∷ bs) xs)
some_left b bs [] e kept = absurd (cc e)
some_left b [] (x ∷ []) e kept = subst (λ z. Filled (cond z [] (x ∷ []))) (sym kept) tt
some_left b [] (x ∷ y ∷ xs) e kept = absurd (cc e)
some_left b (c ∷ bs) (x ∷ []) e kept = absurd (cc e)
some_left true (c ∷ bs) (x ∷ y ∷ xs) e kept = some_left c bs (y ∷ xs) (suc_inj e) kept
some_left false (c ∷ bs) (x ∷ y ∷ xs) e kept = tt

pub behind_last : {A : Type 0} (P : A → Type 0) (x : A) (xs : List A) → Filled xs → LastIs P (x ∷ xs) → LastIs P xs
behind_last P x [] f h = absurd f
behind_last P x (y ∷ xs) f h = h

-- the last element stays the last where it is not marked
pub last_stays : {A : Type 0} (P : A → Type 0) (bs : List Bool) (xs : List A) → length xs ≡ length bs → LastKept bs → LastIs P (without bs xs) → LastIs P xs
last_stays P [] xs e kept h = h
last_stays P (b ∷ bs) [] e kept h = absurd (cc e)
last_stays P (b ∷ []) (x ∷ []) e kept h = subst (λ z. LastIs P (cond z [] (x ∷ []))) kept h
last_stays P (b ∷ []) (x ∷ y ∷ xs) e kept h = absurd (cc e)
last_stays P (b ∷ c ∷ bs) (x ∷ []) e kept h = absurd (cc e)
last_stays P (true ∷ c ∷ bs) (x ∷ y ∷ xs) e kept h = last_stays P (c ∷ bs) (y ∷ xs) (suc_inj e) kept h
last_stays P (false ∷ c ∷ bs) (x ∷ y ∷ xs) e kept h = last_stays P (c ∷ bs) (y ∷ xs) (suc_inj e) kept (behind_last P x (without (c ∷ bs) (y ∷ xs)) (some_left c bs (y ∷ xs) (suc_inj e) kept) h)

-- marks that are set where either of two lists of marks sets them, where the second stands by what the first leaves
abbrev pub joined : List Bool → List Bool → List Bool
joined [] cs = cs
joined (true ∷ bs) cs = true ∷ joined bs cs
joined (false ∷ bs) [] = false ∷ joined bs []
joined (false ∷ bs) (c ∷ cs) = c ∷ joined bs cs

-- to leave out by the one and then by the other is to leave out by both
pub without_joined : {X : Type 0} (bs cs : List Bool) (xs : List X) → without (joined bs cs) xs ≡ without cs (without bs xs)
without_joined [] cs xs = refl
without_joined (true ∷ bs) cs [] = sym (without_nothing cs)
without_joined (true ∷ bs) cs (x ∷ xs) = without_joined bs cs xs
without_joined (false ∷ bs) [] [] = refl
without_joined (false ∷ bs) [] (x ∷ xs) = ap (λ z. x ∷ z) (without_joined bs [] xs)
without_joined (false ∷ bs) (c ∷ cs) [] = refl
without_joined (false ∷ bs) (true ∷ cs) (x ∷ xs) = without_joined bs cs xs
without_joined (false ∷ bs) (false ∷ cs) (x ∷ xs) = ap (λ z. x ∷ z) (without_joined bs cs xs)

-- there are as many marks as answers, and one
pub length_marks : (f : List Answer → Bool) (xs : List Answer) → length (marks_of f xs) ≡ suc (length xs)
length_marks f [] = refl
length_marks f (x ∷ xs) = ap suc (length_marks (λ ys. f (x ∷ ys)) xs)

-- the last mark is that behind all answers
pub last_mark : (f : List Answer → Bool) (xs : List Answer) → LastKept (marks_of f xs) → f xs ≡ false
last_mark f [] h = h
last_mark f (x ∷ []) h = h
last_mark f (x ∷ y ∷ xs) h = last_mark (λ ys. f (x ∷ ys)) (y ∷ xs) h

pub mark_last : (f : List Answer → Bool) (xs : List Answer) → f xs ≡ false → LastKept (marks_of f xs)
mark_last f [] h = h
mark_last f (x ∷ []) h = h
mark_last f (x ∷ y ∷ xs) h = mark_last (λ ys. f (x ∷ ys)) (y ∷ xs) h

-- marks by two functions that agree on the answers in question are the same
pub same_marks : (f g : List Answer → Bool) (xs : List Answer) → ((ys zs : List Answer) → xs ≡ ys ++ zs → f ys ≡ g ys) → marks_of f xs ≡ marks_of g xs
same_marks f g [] h = ap (λ b. b ∷ []) (h [] [] refl)
same_marks f g (x ∷ xs) h =
    ap (λ b. b ∷ marks_of (λ ys. f (x ∷ ys)) xs) (h [] (x ∷ xs) refl)
    ∙ ap (λ bs. g [] ∷ bs) (same_marks (λ ys. f (x ∷ ys)) (λ ys. g (x ∷ ys)) xs (λ ys zs e. h (x ∷ ys) zs (ap (λ z. x ∷ z) e)))

begins_at : (b : Bool) (x : Answer) (l m zs : List Answer) → l ≡ m ++ zs → cond b l (x ∷ l) ≡ cond b m (x ∷ m) ++ zs
begins_at true x l m zs e = e
begins_at false x l m zs e = ap (λ z. x ∷ z) e

-- what is left of the first answers begins what is left of all
pub without_begins : (f : List Answer → Bool) (xs ys : List Answer) → (zs : List Answer) × (without (marks_of f (xs ++ ys)) (xs ++ ys) ≡ without (marks_of f xs) xs ++ zs)
without_begins f [] ys = (without (marks_of f ys) ys, refl)
without_begins f (x ∷ xs) ys =
    let r = without_begins (λ zs. f (x ∷ zs)) xs ys in
    (r.0, begins_at (f []) x (without (marks_of (λ zs. f (x ∷ zs)) (xs ++ ys)) (xs ++ ys)) (without (marks_of (λ zs. f (x ∷ zs)) xs) xs) r.0 r.1)

-- both tell what is left out: the first at once, and the second by the answers that the first leaves
abbrev pub either : (List Answer → Bool) → (List Answer → Bool) → List Answer → Bool
either f g ys = f ys || g (without (marks_of f ys) ys)

start : (b c : Bool) → b ≡ false → (b || c) ∷ [] ≡ joined (b ∷ []) (c ∷ [])
start true c e = absurd (cc e)
start false c e = refl

more : (b : Bool) (f g : List Answer → Bool) (x : Answer) (xs : List Answer)
    → ((h : List Answer → Bool) → marks_of (either f h) xs ≡ joined (marks_of f xs) (marks_of h (without (marks_of f xs) xs)))
    → (b || g []) ∷ marks_of (λ ys. f ys || g (cond b (without (marks_of f ys) ys) (x ∷ without (marks_of f ys) ys))) xs
    ≡ joined (b ∷ marks_of f xs) (marks_of g (cond b (without (marks_of f xs) xs) (x ∷ without (marks_of f xs) xs)))
more true f g x xs ih = ap (λ z. true ∷ z) (ih g)
more false f g x xs ih = ap (λ z. g [] ∷ z) (ih (λ ys. g (x ∷ ys)))

-- the marks by both are the joined marks, where the last access is not left out by the first
pub marks_joined : (f g : List Answer → Bool) (xs : List Answer) → f xs ≡ false → marks_of (either f g) xs ≡ joined (marks_of f xs) (marks_of g (without (marks_of f xs) xs))
marks_joined f g [] last = start (f []) (g []) last
marks_joined f g (x ∷ xs) last =
    more (f []) (λ ys. f (x ∷ ys)) g x xs (λ h. marks_joined (λ ys. f (x ∷ ys)) h xs last)
