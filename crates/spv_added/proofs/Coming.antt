-- Each instruction of the module after is one of the module before, with those in front of it, or the new one.
use Rattle.std.proofs.Common.{◌≡◌, ℕ, true, List, [], ◌∷◌, ◌++◌, refl, sym, ap, ap₂, ◌∙◌, subst}
use Rattle.std.specs.List.{AllByRecursion}
use Rattle.spv_module.specs.Instruction.{Instruction}
use Rattle.spv_meaning.specs.Statements.{words_of}
use Rattle.spv_added.specs.Added.{starts_function}
use Rattle.spv_added.proofs.Walk.{walk, walk_same}

-- some instructions of the module after are these of the one before, with the new one or without it
pub data Stand (new : Instruction) (front pre qs : List Instruction) : Type 0 where
  Same : words_of qs ≡ words_of pre → Stand new front pre qs
  More : (rest : List Instruction) → pre ≡ front ++ rest → starts_function rest ≡ true → words_of qs ≡ words_of front ++ new.words ∷ words_of rest
      → Stand new front pre qs

-- an instruction behind them is one of the module before, where they are these of that, or the new one
pub record IsOld (new : Instruction) (front before qs : List Instruction) (j : Instruction) : Type 0 where
  pub pre : List Instruction
  pub inst : Instruction
  pub post : List Instruction
  pub cut : before ≡ pre ++ inst ∷ post
  pub same : j.words ≡ inst.words
  pub stand : Stand new front pre qs

pub data Comes (new : Instruction) (front before qs : List Instruction) (j : Instruction) : Type 0 where
  IsNew : j.words ≡ new.words → words_of qs ≡ words_of front → Comes new front before qs j
  Old : IsOld new front before qs j → Comes new front before qs j

record At (is qs : List Instruction) (j : Instruction) : Type 0 where
  pre : List Instruction
  inst : Instruction
  post : List Instruction
  cut : is ≡ pre ++ inst ∷ post
  same : j.words ≡ inst.words
  before : words_of qs ≡ words_of pre

-- among instructions of the same words
at_same : (is qs : List Instruction) (j : Instruction) (post : List Instruction) → words_of (qs ++ j ∷ post) ≡ words_of is → At is qs j
at_same [] [] j post e = absurd (cc e)
at_same [] (q ∷ qs) j post e = absurd (cc e)
at_same (x ∷ is) [] j post e =
    let here : j.words ≡ x.words = cc e in
    record { pre = []; inst = x; post = is; cut = refl; same = here; before = refl }
at_same (x ∷ is) (q ∷ qs) j post e = more (cc e) (at_same is qs j post (cc e))
  where
    more : q.words ≡ x.words → At is qs j → At (x ∷ is) (q ∷ qs) j
    more here m = record {
      pre = x ∷ m.pre;
      inst = m.inst;
      post = m.post;
      cut = ap (λ z. x ∷ z) m.cut;
      same = m.same;
      before = ap₂ (λ (w : List ℕ) ws. w ∷ ws) here m.before;
    }

-- a beginning of what begins with a function does so too
front_starts : (xs : List Instruction) (y : Instruction) (ys : List Instruction) → starts_function (xs ++ y ∷ ys) ≡ true → starts_function xs ≡ true
front_starts [] y ys h = refl
front_starts (x ∷ xs) y ys h = h

module _ (new : Instruction) (rest : List Instruction) (starts : starts_function rest ≡ true) where
  -- by induction on what stands in front of the new one
  comes : (front qs : List Instruction) (j : Instruction) (post : List Instruction)
      → words_of (qs ++ j ∷ post) ≡ words_of front ++ new.words ∷ words_of rest → Comes new front (front ++ rest) qs j
  comes [] [] j post e = let here : j.words ≡ new.words = cc e in IsNew here refl
  comes [] (q ∷ qs) j post e = more (cc e) (at_same rest qs j post (cc e))
    where
      more : q.words ≡ new.words → At rest qs j → Comes new [] rest (q ∷ qs) j
      more here m =
          Old (record {
            pre = m.pre;
            inst = m.inst;
            post = m.post;
            cut = m.cut;
            same = m.same;
            stand =
                More m.pre refl (front_starts m.pre m.inst m.post (subst (λ z. starts_function z ≡ true) m.cut starts))
                (ap₂ (λ (w : List ℕ) ws. w ∷ ws) here m.before);
          })
  comes (x ∷ front) [] j post e =
      let here : j.words ≡ x.words = cc e in
      Old (record { pre = []; inst = x; post = front ++ rest; cut = refl; same = here; stand = Same refl })
  comes (x ∷ front) (q ∷ qs) j post e =
      let here : q.words ≡ x.words = cc e in
      let later : words_of (qs ++ j ∷ post) ≡ words_of front ++ new.words ∷ words_of rest = cc e in
      one_more here (comes front qs j post later)
    where
      stands_more : (pre : List Instruction) → q.words ≡ x.words → Stand new front pre qs → Stand new (x ∷ front) (x ∷ pre) (q ∷ qs)
      stands_more pre w (Same h) = Same (ap₂ (λ (w : List ℕ) ws. w ∷ ws) w h)
      stands_more pre w (More r cut s h) = More r (ap (λ z. x ∷ z) cut) s (ap₂ (λ (w : List ℕ) ws. w ∷ ws) w h)

      one_more : q.words ≡ x.words → Comes new front (front ++ rest) qs j → Comes new (x ∷ front) (x ∷ (front ++ rest)) (q ∷ qs) j
      one_more w (IsNew same h) = IsNew same (ap₂ (λ (w : List ℕ) ws. w ∷ ws) w h)
      one_more w (Old m) =
          Old (record {
            pre = x ∷ m.pre;
            inst = m.inst;
            post = m.post;
            cut = ap (λ z. x ∷ z) m.cut;
            same = m.same;
            stand = stands_more m.pre w m.stand;
          })

pub comes_of : (new : Instruction) (front rest before after qs : List Instruction) (j : Instruction) (post : List Instruction) → starts_function rest ≡ true
    → before ≡ front ++ rest → words_of after ≡ words_of front ++ new.words ∷ words_of rest → after ≡ qs ++ j ∷ post → Comes new front before qs j
comes_of new front rest before after qs j post s parts e cut =
    subst (λ is. Comes new front is qs j) (sym parts) (comes new rest s front qs j post (ap words_of (sym cut) ∙ e))

-- induction along them
pub stand_along : (new : Instruction) (F : Instruction → Type 0) (M : List Instruction → List Instruction → Type 0) → M [] []
    → ((j : Instruction) (is js : List Instruction) → starts_function is ≡ true → j.words ≡ new.words → M is js → M is (j ∷ js))
    → ((i j : Instruction) (is js : List Instruction) → F i → j.words ≡ i.words → M is js → M (i ∷ is) (j ∷ js))
    → (front pre qs : List Instruction) → AllByRecursion F pre → Stand new front pre qs → M pre qs
stand_along new F M nil adds keeps front pre qs all (Same h) = walk_same new F M nil adds keeps pre qs all h
stand_along new F M nil adds keeps front pre qs all (More rest cut s h) =
    subst (λ is. M is qs) (sym cut) (walk new F M nil adds keeps front rest qs s (subst (AllByRecursion F) cut all) h)
