-- What an operation does, by what it sees: each outcome is the effect at the data, and effects are the same where what is seen is.
use Rattle.std.proofs.Common.{◌≡◌, inl, inr, ℕ, Bool, true, false, cond, List, [], ◌∷◌, ◌++◌, map, Option, Some, None, refl, sym, ap, ◌∙◌}
use Rattle.interleaving.specs.Machine.{Answer}
use Rattle.spv_meaning.specs.Statements as says
use Rattle.spv_meaning.specs.Statements.{Statement}
use Rattle.spv_meaning.specs.Types.{DataType, cells, booleans, fitted}
use Rattle.spv_meaning.specs.Constants.{type_at, zeros}
use Rattle.spv_machine.specs.Places.{Place, is_shared}
use Rattle.spv_machine.specs.Setting.{Setting}
use Rattle.spv_machine.specs.State.{Pointer, Words, Data, value, some_cons, words_of_value, typed_of_value, pointer_of_value, word_lists, typed_lists}
use Rattle.spv_machine.specs.Operations.{Outcome, Wants, with_some, load_access, atomic_access, first_or_zero, joined, atomic_result, outcome}
use Rattle.spv_trees.specs.Standing.{OneOf}
use Rattle.spv_congruence.specs.Statements as rule
use Rattle.spv_congruence.specs.Statements.{Comparison, is_call, DoAlike}
use Rattle.spv_congruence.specs.Operands.{Sight, sight, Binds, changed, Effect, Changes, Accesses, Faults, EffectKept, EffectDropped, performed, seen, declared}
use Rattle.spv_congruence.specs.Operands.{chain, load, store, length_of, operation, copy, control_barrier, memory_barrier, atomic_change, atomic, words_seen}
use Rattle.spv_congruence.specs.Operands.{typed_seen, pointer_seen, effect, EffectLaw, renamed, SameSight, RenamedLaw}

-- ---- outcomes

through : {X : Type 0} (d : Data) (o : Option X) (go : X → Outcome) (by : X → Effect) → ((x : X) → go x ≡ performed d (by x))
    → with_some o go ≡ performed d (seen o by)
through d None go by h = refl
through d (Some x) go by h = h x

either_way : (d : Data) (b : Bool) (e e2 : Effect) → cond b (performed d e) (performed d e2) ≡ performed d (cond b e e2)
either_way d true e e2 = refl
either_way d false e e2 = refl

atomic_same : (c : Setting) (d : Data) (t r : List ℕ) (answer : Answer)
    → atomic_result c d t r answer ≡ changed (atomic_change (map (type_at c.table) t) r answer) d
atomic_same c d [] r answer = refl
atomic_same c d (t ∷ ts) [] answer = refl
atomic_same c d (t ∷ ts) (r ∷ rs) answer = refl

pub effect_law : EffectLaw
unfolding outcome
effect_law c d (says.Variable t r class initialiser) = refl
effect_law c d (says.AccessChain t r base indexes) =
    let v = sight c d in
    through d (pointer_of_value (value c d base)) _ _ (λ p. through d (word_lists c d indexes) _ _ (λ wss. refl))
effect_law c d (says.Load t r pointer memory) = through d (pointer_of_value (value c d pointer)) _ _ (λ p. either_way d (is_shared p.class) _ _)
effect_law c d (says.Store pointer object memory) =
    through d (pointer_of_value (value c d pointer)) _ _ (λ p. through d (words_of_value (value c d object)) _ _
    (λ words. either_way d (is_shared p.class) _ _))
effect_law c d (says.ArrayLength t r pointer member) = through d (pointer_of_value (value c d pointer)) _ _ (λ p. refl)
effect_law c d (says.Operation computation t r operands) = through d (typed_lists c d operands) _ _ (λ vs. refl)
effect_law c d (says.Undef t r) = refl
effect_law c d (says.CopyObject t r object) = through d (value c d object) _ _ (λ v. refl)
effect_law c d (says.ControlBarrier execution scope semantics) =
    through d (word_lists c d (execution ∷ scope ∷ [])) _ _ (λ wss. through d (word_lists c d (semantics ∷ [])) _ _ (λ orders. refl))
effect_law c d (says.MemoryBarrier scope semantics) =
    through d (word_lists c d (scope ∷ [])) _ _ (λ wss. through d (word_lists c d (semantics ∷ [])) _ _ (λ orders. refl))
effect_law c d (says.Atomic opcode t r pointer scope semantics operands) =
    through d (pointer_of_value (value c d pointer)) _ _ (λ p.
    through d (word_lists c d (scope ∷ [])) _ _ (λ wss.
    through d (word_lists c d semantics) _ _ (λ orders.
    through d (word_lists c d operands) _ _ (λ values. λ i. Wants (atomic_access opcode (first_or_zero r) p (joined values) wss orders)
    (λ answer. atomic_same c d t r answer i)))))
effect_law c d other = refl

-- ---- the same sights

-- loads through one pointer
load_through : (r : ℕ) (memory : List ℕ) (t t2 : DataType) (held held2 : (count : ℕ) → Option Place → List ℕ) → t ≡ t2 → (p : Pointer) (b : Bool)
    → is_shared p.class ≡ b → ((count : ℕ) → b ≡ false → held count p.place ≡ held2 count p.place)
    → cond b (Accesses (load_access r (cells t) p memory) (λ answer. Binds r (Words t (fitted (booleans t) answer))))
    (Changes (Binds r (Words t (held (cells t) p.place))))
    ≡ cond b (Accesses (load_access r (cells t2) p memory) (λ answer. Binds r (Words t2 (fitted (booleans t2) answer))))
    (Changes (Binds r (Words t2 (held2 (cells t2) p.place))))
load_through r memory t t2 held held2 e p true is h = λ i. Accesses (load_access r (cells (e i)) p memory)
    (λ answer. Binds r (Words (e i) (fitted (booleans (e i)) answer)))
load_through r memory t t2 held held2 e p false is h =
    ap (λ z. Changes (Binds r (Words t z))) (h (cells t) refl) ∙ ap (λ z. Changes (Binds r (Words z (held2 (cells z) p.place)))) e

load_same : (r : ℕ) (memory : List ℕ) (t t2 : DataType) (held held2 : (count : ℕ) → Option Place → List ℕ) → t ≡ t2 → (o : Option Pointer)
    → ((p : Pointer) (count : ℕ) → o ≡ Some p → is_shared p.class ≡ false → held count p.place ≡ held2 count p.place)
    → load r t held memory o ≡ load r t2 held2 memory o
load_same r memory t t2 held held2 e None h = refl
load_same r memory t t2 held held2 e (Some p) h = load_through r memory t t2 held held2 e p (is_shared p.class) refl (λ count is. h p count refl is)

module _ (u : ℕ → ℕ) (v v2 : Sight) where
  words_same : (ids : List ℕ) → ((x : ℕ) → OneOf x ids → v.value_of x ≡ v2.value_of (u x)) → words_seen v ids ≡ words_seen v2 (map u ids)
  words_same [] h = refl
  words_same (x ∷ xs) h = λ i. some_cons (words_of_value (h x (inl refl) i)) (words_same xs (λ y m. h y (inr m)) i)

  typed_same : (ids : List ℕ) → ((x : ℕ) → OneOf x ids → v.value_of x ≡ v2.value_of (u x)) → typed_seen v ids ≡ typed_seen v2 (map u ids)
  typed_same [] h = refl
  typed_same (x ∷ xs) h = λ i. some_cons (typed_of_value (h x (inl refl) i)) (typed_same xs (λ y m. h y (inr m)) i)

  types_same : (ts : List ℕ) → ((t : ℕ) → OneOf t ts → v.type_of t ≡ v2.type_of (u t)) → map v.type_of ts ≡ map v2.type_of (map u ts)
  types_same [] h = refl
  types_same (t ∷ ts) h = λ i. h t (inl refl) i ∷ types_same ts (λ y m. h y (inr m)) i

  among_first : (x : ℕ) (xs ys : List ℕ) → OneOf x xs → OneOf x (xs ++ ys)
  among_first x [] ys h = absurd h
  among_first x (y ∷ xs) ys (inl h) = inl h
  among_first x (y ∷ xs) ys (inr h) = inr (among_first x xs ys h)

  among_last : (x : ℕ) (xs ys : List ℕ) → OneOf x ys → OneOf x (xs ++ ys)
  among_last x [] ys h = h
  among_last x (y ∷ xs) ys h = inr (among_last x xs ys h)

  sight_same : (s : Statement) → SameSight u s v v2 → effect v s ≡ effect v2 (renamed u s)
  sight_same (says.Variable t r class initialiser) h =
      λ i. declared r (h.pointers t (inl refl) i) (h.depth i) (h.volatiles r i) (first_words i) where
        first_words : v.initial_of (v.pointer_of t).1 initialiser ≡ v2.initial_of (v2.pointer_of (u t)).1 (map u initialiser)
        first_words = h.initials (v.pointer_of t).1 ∙ ap (λ (p : ℕ × DataType). v2.initial_of p.1 (map u initialiser)) (h.pointers t (inl refl))
  sight_same (says.AccessChain t r base indexes) h =
      λ i. chain r (h.pointers t (inl refl) i) (λ place. h.sizes place i) (pointer_of_value (h.values base (inl refl) i))
      (words_same indexes (λ x m. h.values x (inr m)) i)
  sight_same (says.Load t r pointer memory) h =
      load_same r memory (v.type_of t) (v2.type_of (u t)) v.held_at v2.held_at (h.types t (inl refl)) (pointer_seen v pointer)
      (λ p count e shared. h.held p count (e, shared))
      ∙ ap (λ z. load r (v2.type_of (u t)) v2.held_at memory (pointer_of_value z)) (h.values pointer (inl refl))
  sight_same (says.Store pointer object memory) h = λ i. store memory (pointer_of_value (h.values pointer (inl refl) i))
      (words_of_value (h.values object (inr (inl refl)) i))
  sight_same (says.ArrayLength t r pointer member) h = λ i. length_of r (h.types t (inl refl) i) (λ place. h.sizes place i) member
      (pointer_of_value (h.values pointer (inl refl) i))
  sight_same (says.Operation computation t r operands) h = λ i. operation computation r (h.types t (inl refl) i) (typed_same operands h.values i)
  sight_same (says.Undef t r) h = ap (λ z. Changes (Binds r (Words z (zeros z)))) (h.types t (inl refl))
  sight_same (says.CopyObject t r object) h = λ i. copy r (h.values object (inl refl) i)
  sight_same (says.ControlBarrier execution scope semantics) h =
      λ i. control_barrier (words_same (execution ∷ scope ∷ []) (λ x m. h.values x (first_two x m)) i)
      (words_same (semantics ∷ []) (λ x m. h.values x (inr (inr m))) i) where
        first_two : (x : ℕ) → OneOf x (execution ∷ scope ∷ []) → OneOf x (execution ∷ scope ∷ semantics ∷ [])
        first_two x (inl m) = inl m
        first_two x (inr (inl m)) = inr (inl m)
        first_two x (inr (inr m)) = absurd m
  sight_same (says.MemoryBarrier scope semantics) h =
      λ i. memory_barrier (words_same (scope ∷ []) (λ x m. h.values x (first_one x m)) i) (words_same (semantics ∷ []) (λ x m. h.values x (inr m)) i) where
        first_one : (x : ℕ) → OneOf x (scope ∷ []) → OneOf x (scope ∷ semantics ∷ [])
        first_one x (inl m) = inl m
        first_one x (inr m) = absurd m
  sight_same (says.Atomic opcode t r pointer scope semantics operands) h =
      λ i. atomic opcode (types_same t h.types i) r (pointer_of_value (h.values pointer (inl refl) i))
      (words_same (scope ∷ []) (λ x m. h.values x (inr (scope_first x m))) i)
      (words_same semantics (λ x m. h.values x (inr (inr (among_first x semantics operands m)))) i)
      (words_same operands (λ x m. h.values x (inr (inr (among_last x semantics operands m)))) i) where
        scope_first : (x : ℕ) → OneOf x (scope ∷ []) → OneOf x (scope ∷ semantics ++ operands)
        scope_first x (inl m) = inl m
        scope_first x (inr m) = absurd m
  sight_same other h = refl

pub renamed_law : RenamedLaw
renamed_law u s v v2 h = sight_same u v v2 s h

-- ---- side by side

module _ (p : Comparison) (Behind : Data → Data → Type 0) where
  kept_at : (s s2 : Statement) (d d2 : Data) (e : Effect) → is_call s ≡ false → outcome p.first d s ≡ performed d e → outcome p.second d2 s2 ≡ performed d2 e
      → EffectKept p Behind d d2 e
      → DoAlike p Behind (s ∷ []) d (s2 ∷ []) d2
  kept_at s s2 d d2 (Changes change) is o o2 h = rule.goes o (rule.goes_second o2 (rule.done h))
  kept_at s s2 d d2 (Accesses a by_answer) is o o2 h = rule.asks o o2 h.0 h.1 (λ x. rule.done (h.2 x))
  kept_at s s2 d d2 Faults is o o2 h = rule.fails is o

  -- statements of one effect
  pub effect_alike : (s s2 : Statement) (d d2 : Data) → is_call s ≡ false → effect (sight p.first d) s ≡ effect (sight p.second d2) s2
      → EffectKept p Behind d d2 (effect (sight p.first d) s)
      → DoAlike p Behind (s ∷ []) d (s2 ∷ []) d2
  effect_alike s s2 d d2 is e h =
      kept_at s s2 d d2 (effect (sight p.first d) s) is (effect_law p.first d s) (effect_law p.second d2 s2 ∙ ap (performed d2) (sym e)) h

  dropped_at : (s : Statement) (d d2 : Data) (e : Effect) → is_call s ≡ false → outcome p.first d s ≡ performed d e → EffectDropped p Behind d d2 e
      → DoAlike p Behind (s ∷ []) d [] d2
  dropped_at s d d2 (Changes change) is o h = rule.goes o (rule.done h)
  dropped_at s d d2 (Accesses a by_answer) is o h = rule.leaves_out o h.0 (λ x. rule.done (h.1 x))
  dropped_at s d d2 Faults is o h = rule.fails is o

  -- a statement that the second does not have
  pub effect_dropped : (s : Statement) (d d2 : Data) → is_call s ≡ false → EffectDropped p Behind d d2 (effect (sight p.first d) s)
      → DoAlike p Behind (s ∷ []) d [] d2
  effect_dropped s d d2 is h = dropped_at s d d2 (effect (sight p.first d) s) is (effect_law p.first d s) h
