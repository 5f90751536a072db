-- Whether a tree is fine is decided, where what is known is, and what is promised stands in a list.
use Rattle.std.proofs.Common.{◌≡◌, ◌⊎◌, inl, inr, ℕ, Bool, true, false, ◌==◌, ◌&&◌, ◌||◌, List, [], ◌∷◌, ◌++◌, refl, sym, ap, ap₂, subst}
use Rattle.std.specs.List.{AllByRecursion, flat_map}
use Rattle.std.proofs.lemmas.Bool.{eq-eqb}
use Rattle.spv_blocks.specs.Blocks.{has}
use Rattle.spv_walk.proofs.Unique.{equal_true}
use Rattle.spv_bodies.specs.Bodies.{Arms, Last, Also, Body, Leaves, Finishes, Step, Enters, Splits, Selects, Switches, Loops, Entry, ByBranch, InPlace, Exit, Front, Function}
use Rattle.spv_bodies.specs.Listing.{Branching, arriving, branches, branches_of_arms}
use Rattle.spv_fine.specs.Fine.{ArmsFine, AtFront, Carries, Covers, Fine, Headed, Ids, IsFine, Keeps, Sends, With, at_end, defined_in, results, used_in}
use Rattle.spv_fine.specs.Laws.{Told}
use Rattle.spv_trees.specs.Standing.{OneOf}
use Rattle.spv_built.proofs.Choosing.{Decided}

-- ---- a label and an id in a list

abbrev pub promised : List (ℕ × ℕ) → (label id : ℕ) → Bool
promised [] label id = false
promised (p ∷ ps) label id = ((p.0 == label) && (p.1 == id)) || promised ps label id

abbrev pub Promised : List (ℕ × ℕ) → (label id : ℕ) → Type 0
Promised ps label = Told (promised ps label)

or_right : (a b : Bool) → b ≡ true → (a || b) ≡ true
or_right true b h = refl
or_right false b h = h

or_left : (a b : Bool) → a ≡ true → (a || b) ≡ true
or_left a b h = ap (λ z. z || b) h

either : {P : Type 0} (a b : Bool) → (a ≡ true → P) → (b ≡ true → P) → (a || b) ≡ true → P
either true b f g h = f refl
either false b f g h = g h

both : (a b : Bool) → (a && b) ≡ true → (a ≡ true) × (b ≡ true)
both true b e = (refl, e)
both false b e = absurd (cc e)

both_hold : (a b : Bool) → a ≡ true → b ≡ true → (a && b) ≡ true
both_hold true b e h = h
both_hold false b e h = absurd (cc e)

pub of_promised : (ps : List (ℕ × ℕ)) (label id : ℕ) → Promised ps label id → OneOf (label, id) ps
of_promised [] label id h = absurd (cc h)
of_promised (p ∷ ps) label id h =
    either ((p.0 == label) && (p.1 == id)) (promised ps label id) (λ e.
    let r = both (p.0 == label) (p.1 == id) e in
    let first : p.0 ≡ label = equal_true p.0 label r.0 in
    let second : p.1 ≡ id = equal_true p.1 id r.1 in
    inl (pair label id p first second)) (λ e. inr (of_promised ps label id e)) h
  where
    pair : (label id : ℕ) (p : ℕ × ℕ) → p.0 ≡ label → p.1 ≡ id → (label, id) ≡ p
    pair label id p e g = sym (ap₂ (λ (x y : ℕ). (x, y)) e g)

pub is_promised : (ps : List (ℕ × ℕ)) (label id : ℕ) → OneOf (label, id) ps → Promised ps label id
is_promised [] label id h = absurd h
is_promised (p ∷ ps) label id (inl e) =
    or_left ((p.0 == label) && (p.1 == id)) (promised ps label id)
    (both_hold (p.0 == label) (p.1 == id) (eq-eqb p.0 label (sym (ap (λ (q : ℕ × ℕ). q.0) e))) (eq-eqb p.1 id (sym (ap (λ (q : ℕ × ℕ). q.1) e))))
is_promised (p ∷ ps) label id (inr o) = or_right ((p.0 == label) && (p.1 == id)) (promised ps label id) (is_promised ps label id o)

-- ---- statements together

two : {A B : Type 0} → Decided A → Decided B → Decided (A × B)
two (inl a) (inl b) = inl (a, b)
two (inr n) b = inr (λ t. n t.0)
two (inl a) (inr n) = inr (λ t. n t.1)

three : {A B C : Type 0} → Decided A → Decided B → Decided C → Decided (A × B × C)
three (inl a) (inl b) (inl c) = inl (a, b, c)
three (inr n) b c = inr (λ t. n t.0)
three (inl a) (inr n) c = inr (λ t. n t.1)
three (inl a) (inl b) (inr n) = inr (λ t. n t.2)

of_two : {A B C : Type 0} → Decided A → Decided B → ((t : A × B) → C) → (C → A) → (C → B) → Decided C
of_two (inl a) (inl b) make first second = inl (make (a, b))
of_two (inr n) b make first second = inr (λ t. n (first t))
of_two (inl a) (inr n) make first second = inr (λ t. n (second t))

four : {A B C D : Type 0} → Decided A → Decided B → Decided C → Decided D → Decided (A × B × C × D)
four a b c d = of_two (two a b) (two c d) (λ t. (t.0.0, t.0.1, t.1.0, t.1.1)) (λ t. (t.0, t.1)) (λ t. (t.2, t.3))

five : {A B C D E : Type 0} → Decided A → Decided B → Decided C → Decided D → Decided E → Decided (A × B × C × D × E)
five a b c d e = of_two (three a b c) (two d e) (λ t. (t.0.0, t.0.1, t.0.2, t.1.0, t.1.1)) (λ t. (t.0, t.1, t.2)) (λ t. (t.3, t.4))

six : {A B C D E F : Type 0} → Decided A → Decided B → Decided C → Decided D → Decided E → Decided F → Decided (A × B × C × D × E × F)
six a b c d e f = of_two (three a b c) (three d e f) (λ t. (t.0.0, t.0.1, t.0.2, t.1.0, t.1.1, t.1.2)) (λ t. (t.0, t.1, t.2)) (λ t. (t.3, t.4, t.5))

pub told : (b : Bool) → Decided (b ≡ true)
told true = inl refl
told false = inr (λ e. absurd (cc e))

pub either_of : {A B : Type 0} → Decided A → Decided B → Decided (A ⊎ B)
either_of (inl a) b = inl (inl a)
either_of (inr n) (inl b) = inl (inr b)
either_of (inr n) (inr m) = inr (λ s. elim s [ inl a ↦ n a | inr b ↦ m b ])

-- ---- ids

abbrev pub Known : Ids → Type 0
Known E = (id : ℕ) → Decided (E id)

each : {X : Type 0} (P : X → Type 0) → ((x : X) → Decided (P x)) → (xs : List X) → Decided (AllByRecursion P xs)
each P d [] = inl tt
each P d (x ∷ xs) = two (d x) (each P d xs)

with_ids : (E : Ids) (ids : List ℕ) → Known E → Known (With E ids)
with_ids E ids d id = either_of (d id) (told (has ids id))

end_known : (body : Body) (E : Ids) → Known E → Known (at_end E body)
end_known (Step words body) E d = end_known body (With E (defined_in words)) (with_ids E (defined_in words) d)
end_known (Leaves exit) E d = d
end_known (Finishes words) E d = d
end_known (Enters label body) E d = d
end_known (Splits condition on exit body) E d = d
end_known (Selects control condition first second merge rest) E d = d
end_known (Switches control selector cases arms merge rest) E d = d
end_known (Loops entry header control inner next continuing merge rest) E d = d

carries : (E : Ids) → Known E → (entry : Entry) → Decided (Carries E entry)
carries E d (ByBranch values) = each E d values
carries E d InPlace = inl tt

keeps : (ps : List (ℕ × ℕ)) (E : Ids) → Known E → (label : ℕ) → Decided (Keeps (Promised ps) E label)
keeps [] E d label = inl (λ id h. absurd (cc h))
keeps (p ∷ ps) E d label = elim (keeps ps E d label) [
  | inr n ↦ inr (λ k. n (λ id h. k id (or_right ((p.0 == label) && (p.1 == id)) (promised ps label id) h)))
  | inl rest ↦ by (p.0 == label) refl (d p.1) rest
]
  where
    by : (b : Bool) → (p.0 == label) ≡ b → Decided (E p.1) → Keeps (Promised ps) E label → Decided (Keeps (Promised (p ∷ ps)) E label)
    by false e h rest = inl (λ id k. either ((p.0 == label) && (p.1 == id)) (promised ps label id)
        (λ g. absurd (let r = both (p.0 == label) (p.1 == id) g in let t = r.0 in cc (e, t))) (λ g. rest id g) k)
    by true e (inl here) rest = inl (λ id k. either ((p.0 == label) && (p.1 == id)) (promised ps label id)
        (λ g. let r = both (p.0 == label) (p.1 == id) g in subst E (equal_true p.1 id r.1) here) (λ g. rest id g) k)
    by true e (inr n) rest = inr (λ k. n (k p.1 (or_left ((p.0 == label) && (p.1 == p.1)) (promised ps label p.1)
        (both_hold (p.0 == label) (p.1 == p.1) e (eq-eqb p.1 p.1 refl)))))

module _ (ps : List (ℕ × ℕ)) where
  sends : (E : Ids) → Known E → (exit : Exit) → Decided (Sends (Promised ps) E exit)
  sends E d exit = two (each E d exit.values) (keeps ps E d exit.target)

  covers_by : (here : List Branching) (K : Type 0) → Decided K → Decided (here ≡ [] → K)
  covers_by [] K (inl k) = inl (λ e. k)
  covers_by [] K (inr n) = inr (λ h. n (h refl))
  covers_by (b ∷ bs) K k = inl (λ e. absurd (cc e))

  covers : (sent : List Branching) (E : Ids) → Known E → (label : ℕ) → Decided (Covers (Promised ps) sent E label)
  covers sent E d label = covers_by (arriving label sent) (Keeps (Promised ps) E label) (keeps ps E d label)

  at_front : (E : Ids) → Known E → (front : Front) → Known (AtFront (Promised ps) E front)
  at_front E d front =
      with_ids (λ id. E id ⊎ Promised ps front.label id) (results front) (λ id. either_of (d id) (told (promised ps front.label id)))

  -- ---- trees

  mutual
    pub fine : (body : Body) (E : Ids) → Known E → (l : ℕ) → Decided (Fine (Promised ps) E l body)
    fine (Leaves exit) E d l = sends E d exit
    fine (Finishes words) E d l = each E d (used_in words)
    fine (Step words body) E d l =
        two (each E d (used_in words)) (fine body (With E (defined_in words)) (with_ids E (defined_in words) d) l)
    fine (Enters label body) E d l = fine body E d label
    fine (Splits condition on exit body) E d l = three (d condition) (sends E d exit) (fine body E d l)
    fine (Selects control condition first second merge rest) E d l =
        five (d condition) (fine first E d l) (fine second E d l) (covers (branches l first ++ branches l second) E d merge.label)
        (fine rest (AtFront (Promised ps) E merge) (at_front E d merge) merge.label)
    fine (Switches control selector cases arms merge rest) E d l =
        four (d selector) (arms_fine arms E d l) (covers (branches_of_arms l arms) E d merge.label)
        (fine rest (AtFront (Promised ps) E merge) (at_front E d merge) merge.label)
    fine (Loops entry header control inner next continuing merge rest) E d l =
        let headed : Known (Headed E header) = with_ids E (results header) d in
        let ends : Known (at_end (Headed E header) inner) = end_known inner (Headed E header) headed in
        six (carries E d entry) (fine inner (Headed E header) headed header.label)
        (fine continuing (AtFront (Promised ps) (Headed E header) next) (at_front (Headed E header) headed next) next.label)
        (covers (branches header.label inner) (at_end (Headed E header) inner) ends next.label)
        (covers (branches header.label inner ++ branches next.label continuing) (at_end (Headed E header) inner) ends merge.label)
        (fine rest (AtFront (Promised ps) (Headed E header) merge) (at_front (Headed E header) headed merge) merge.label)

    pub arms_fine : (arms : Arms) (E : Ids) → Known E → (l : ℕ) → Decided (ArmsFine (Promised ps) E l arms)
    arms_fine (Last arm) E d l = fine arm E d l
    arms_fine (Also arm arms) E d l = two (fine arm E d l) (arms_fine arms E d l)

  pub function_fine : (E : Ids) → Known E → (f : Function) → Decided (IsFine E (Promised ps) f)
  function_fine E d f =
      elim (three (each E d (used_in f.function)) (each (λ words. AllByRecursion E (used_in words)) (λ words. each E d (used_in words)) f.parameters)
      (fine f.body (With E (flat_map defined_in f.parameters)) (with_ids E (flat_map defined_in f.parameters) d) f.label)) [
        | inl t ↦ inl (record { function = t.0; parameters = t.1; body = t.2 })
        | inr n ↦ inr (λ (h : IsFine E (Promised ps) f). n (h.function, h.parameters, h.body))
      ]
