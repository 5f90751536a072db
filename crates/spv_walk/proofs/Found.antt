-- What is found is what the lists of the walked blocks hold.
use Rattle.std.proofs.Common.{◌≡◌, ◌⊎◌, inl, inr, ℕ, Bool, true, false, cond, not, ◌==◌, ◌&&◌, ◌||◌, List, [], ◌∷◌, ◌++◌, Option, Some, None, refl, sym, ap, subst, arith}
use Rattle.std.specs.List.{Contains}
use Rattle.std.proofs.lemmas.List.Elements.{Contains-append_left, Contains-append_right, Contains-append_cases, Contains-push, Contains-push_cases}
use Rattle.spv_base.specs.declared.fault.Refusal.{Refusal}
use Rattle.spv_module.specs.First.{here, unless}
use Rattle.spv_blocks.specs.Blocks.{Code, Block, block, of_block, end_targets, has, targets, construct, next_of, is_it, stops}
use Rattle.spv_walk.specs.Contexts.{Context, is_fall}
use Rattle.spv_walk.specs.Walk.{Enters, leads, tries, Walk}
use Rattle.spv_walk.specs.Rules.{at_front, at_end, end_at, loop_at, Finds, AtFront, AtEnd, BadTarget, CaseFall, BadContinue, NoTerminator}
use Rattle.spv_walk.specs.Walked.{admits}
use Rattle.spv_walk.specs.Found.{refuses, target_rules, all_target_rules, loop_rules, behind_faults, block_faults, FoundAt, AtBlock, AtOpen, FaultTables, SameFound}
use Rattle.spv_walk.proofs.Unique.{tells, truth_apart, both_left, both_right, both_hold, both_fail, not_true, not_false, equal_true, either_holds, is_it_equal, equal_is_it, leads_runs, leads_branches, tries_leads}
use Rattle.spv_walk.proofs.Letter.{entered_tries}

-- ---- lists

pub no_element : {A : Type 0} (x : A) → Contains [] x → ⊥
no_element x h = let l = h.1 in omega arith

cons_cases : {A : Type 0} (y : A) (xs : List A) (x : A) → Contains (y ∷ xs) x → (y ≡ x) ⊎ Contains xs x
cons_cases y xs x h = elim (Contains-append_cases (y ∷ []) xs x h) [
  | inl e ↦ elim (Contains-push_cases [] y x e) [ inl g ↦ absurd (no_element x g) | inr g ↦ inl g ]
  | inr e ↦ inr e
]

at_head : {A : Type 0} (y : A) (xs : List A) (x : A) → y ≡ x → Contains (y ∷ xs) x
at_head y xs x e = Contains-append_left (y ∷ []) xs x (subst (λ j. Contains (j ∷ []) x) (sym e) (Contains-push [] x))

here_cases : (at : ℕ) (rules : List ℕ) (r : Refusal) → Contains (here at rules) r → Contains rules r.rule × (r.at ≡ at)
here_cases at [] r h = absurd (no_element r h)
here_cases at (x ∷ xs) r h = elim (cons_cases (record { rule = x; at = at }) (here at xs) r h) [
  | inl e ↦ (at_head x xs r.rule (ap (λ j. j.rule) e), ap (λ j. j.at) (sym e))
  | inr e ↦ let g = here_cases at xs r e in (Contains-append_right (x ∷ []) xs r.rule g.0, g.1)
]

in_here : (at : ℕ) (rules : List ℕ) (rule : ℕ) → Contains rules rule → Contains (here at rules) (record { rule = rule; at = at })
in_here at [] rule h = absurd (no_element rule h)
in_here at (x ∷ xs) rule h = elim (cons_cases x xs rule h) [
  | inl e ↦ at_head (record { rule = x; at = at }) (here at xs) (record { rule = rule; at = at }) (ap (λ j. record { rule = j; at = at }) e)
  | inr e ↦ Contains-append_right (record { rule = x; at = at } ∷ []) (here at xs) (record { rule = rule; at = at }) (in_here at xs rule e)
]

unless_cases : (p : Bool) (rule x : ℕ) → Contains (unless p rule) x → (p ≡ false) × (rule ≡ x)
unless_cases true rule x h = absurd (no_element x h)
unless_cases false rule x h = elim (cons_cases rule [] x h) [ inl e ↦ (refl, e) | inr e ↦ absurd (no_element x e) ]

in_unless : (p : Bool) (rule x : ℕ) → p ≡ false → rule ≡ x → Contains (unless p rule) x
in_unless true rule x h e = absurd (cc)
in_unless false rule x h e = at_head rule [] x e

not_not : (a : Bool) → not a ≡ false → a ≡ true
not_not true h = refl
not_not false h = sym h

-- ---- targets

module _ (f : Code) (enterer : ℕ → Option ℕ) (b : ℕ) (c : Context) where
  target_cases : (ts : List ℕ) (x : ℕ) → Contains (all_target_rules f enterer b c ts) x → (t : ℕ) × Contains (target_rules f enterer b c t) x
  target_cases [] x h = absurd (no_element x h)
  target_cases (t ∷ ts) x h = elim (Contains-append_cases (target_rules f enterer b c t) (all_target_rules f enterer b c ts) x h) [
    | inl e ↦ (t, e)
    | inr e ↦ target_cases ts x e
  ]

  in_targets : (ts : List ℕ) (t x : ℕ) → has ts t ≡ true → Contains (target_rules f enterer b c t) x → Contains (all_target_rules f enterer b c ts) x
  in_targets [] t x h e = absurd (cc (h))
  in_targets (u ∷ ts) t x h e = elim (either_holds (u == t) (has ts t) h) [
    | inl g ↦
        Contains-append_left (target_rules f enterer b c u) (all_target_rules f enterer b c ts) x
        (subst (λ j. Contains (target_rules f enterer b c j) x) (sym (equal_true u t g)) e)
    | inr g ↦ Contains-append_right (target_rules f enterer b c u) (all_target_rules f enterer b c ts) x (in_targets ts t x g e)
  ]

  refuses_leads : (t : ℕ) → refuses f enterer b c t ≡ true → leads f b c t ≡ true
  refuses_leads t h = both_left (leads f b c t) (not (admits f enterer b c t)) h

  refuses_neither : (t : ℕ) → refuses f enterer b c t ≡ true → admits f enterer b c t ≡ false
  refuses_neither t h = not_true (admits f enterer b c t) (both_right (leads f b c t) (not (admits f enterer b c t)) h)

  in_target_rules : (t x : ℕ) → refuses f enterer b c t ≡ true → cond (is_fall f c t) 404 402 ≡ x → Contains (target_rules f enterer b c t) x
  in_target_rules t x h e = in_unless (not (refuses f enterer b c t)) (cond (is_fall f c t) 404 402) x (ap not h) e

fall_rule : (a : Bool) (rule : ℕ) → a ≡ true → cond a 404 402 ≡ rule → 404 ≡ rule
fall_rule true rule h e = e
fall_rule false rule h e = absurd (cc (h))

target_rule : (a : Bool) (rule : ℕ) → a ≡ false → cond a 404 402 ≡ rule → 402 ≡ rule
target_rule true rule h e = absurd (cc (h))
target_rule false rule h e = e

neither_left : (a b : Bool) → (a || b) ≡ false → a ≡ false
neither_left true b h = h
neither_left false b h = refl

neither_right : (a b : Bool) → (a || b) ≡ false → b ≡ false
neither_right true b h = absurd (cc)
neither_right false b h = h

-- no other case, and so no header that is its own continue target
runs_by : (a b : Bool) → (a && not b) ≡ false → b ≡ false → a ≡ false
runs_by true true h g = absurd (cc)
runs_by true false h g = h
runs_by false b h g = refl

left_fails : (a b : Bool) → a ≡ false → (a && not b) ≡ false
left_fails true b h = absurd (cc)
left_fails false b h = refl

right_fails : (a b : Bool) → b ≡ true → (a && not b) ≡ false
right_fails true true h = refl
right_fails true false h = absurd (cc)
right_fails false b h = refl

some_block : (o : Option Block) (t : ℕ) → has (of_block (λ b. end_targets b.end) [] o) t ≡ true → (b : Block) × (o ≡ Some b)
some_block None t h = absurd (cc (h))
some_block (Some b) t h = (b, refl)

loop_cases : (has_one : Bool) (next : Option ℕ) (x : ℕ) → Contains (loop_rules has_one next) x → (n : ℕ) × (next ≡ Some n) × (has_one ≡ false) × (405 ≡ x)
loop_cases has_one None x h = absurd (no_element x h)
loop_cases has_one (Some n) x h = let e = unless_cases has_one 405 x h in (n, refl, e.0, e.1)

in_loop : (has_one : Bool) (next : Option ℕ) (n : ℕ) → next ≡ Some n → has_one ≡ false → Contains (loop_rules has_one next) 405
in_loop has_one None n h e = absurd (cc)
in_loop has_one (Some m) n h e = in_unless has_one 405 405 e refl

-- ---- what is found

module _ (is_pointer : ℕ → Bool) (f : Code) (enterer : ℕ → Option ℕ) (ends : ℕ → Bool) (In : ℕ → Context → Type 0) (t : FaultTables f enterer ends In) where
  behind_in : (l : ℕ) (c : Context) (b : Block) (r : Refusal) → stops f l ≡ false → Contains (behind_faults f enterer ends l c b) r
      → Contains (block_faults is_pointer f enterer ends l c b) r
  behind_in l c b r s h =
      Contains-append_right (at_front is_pointer f l b) (cond (stops f l) [] (behind_faults f enterer ends l c b)) r (rw s h)

  target_in : (l k rule : ℕ) (c : Context) → Walk f l c → refuses f enterer l c k ≡ true → cond (is_fall f c k) 404 402 ≡ rule
      → FoundAt is_pointer f enterer ends In rule (end_at f l)
  target_in l k rule c w h e =
      let leading = refuses_leads f enterer l c k h in
      let s = leads_runs f l c k leading in
      let branch = leads_branches f l c k leading in
      let b = some_block (block f l) k branch in
      let rules = in_targets f enterer l c (targets f l) k rule branch (in_target_rules f enterer l c k rule h e) in
      AtBlock l b.0 c (record { rule = rule; at = end_at f l }) (t.walk.whole l c w s) b.1
      (behind_in l c b.0 (record { rule = rule; at = end_at f l }) s
      (Contains-append_right (at_end f l c b.0)
      (here (end_at f l) (all_target_rules f enterer l c (targets f l)) ++ here (loop_at b.0.body) (loop_rules (ends l) (next_of (construct f l))))
      (record { rule = rule; at = end_at f l })
      (Contains-append_left (here (end_at f l) (all_target_rules f enterer l c (targets f l))) (here (loop_at b.0.body) (loop_rules (ends l) (next_of (construct f l))))
      (record { rule = rule; at = end_at f l })
      (in_here (end_at f l) (all_target_rules f enterer l c (targets f l)) rule rules))))

  not_by_table : (l k : ℕ) → (Enters f l k → ⊥) → is_it l (enterer k) ≡ false
  not_by_table l k n = elim (tells (is_it l (enterer k))) [
    | inl e ↦ absurd (n (t.enterers.sound l k (is_it_equal l (enterer k) e)))
    | inr e ↦ e
  ]

  refused : (l k : ℕ) (c : Context) → leads f l c k ≡ true → (stops f k && not (is_fall f c k)) ≡ false → (Enters f l k → ⊥) → refuses f enterer l c k ≡ true
  refused l k c x s n =
      both_hold (leads f l c k) (not (admits f enterer l c k)) x
      (not_false (admits f enterer l c k) (both_fail (stops f k && not (is_fall f c k)) (is_it l (enterer k)) s (not_by_table l k n)))

  tries_no_fall : (l k : ℕ) (c : Context) → tries f l c k ≡ true → is_fall f c k ≡ false
  tries_no_fall l k c x = not_true (is_fall f c k) (both_right (leads f l c k) (not (is_fall f c k)) x)

  fall_not_entered : (l k : ℕ) (c : Context) → Walk f l c → leads f l c k ≡ true → is_fall f c k ≡ true → Enters f l k → ⊥
  fall_not_entered l k c w x e n = truth_apart (is_fall f c k) e (tries_no_fall l k c (entered_tries f l k c w x n))

  pub finds_at : (rule at : ℕ) → Finds is_pointer f rule at → FoundAt is_pointer f enterer ends In rule at
  finds_at rule at (AtFront l b c r w x y) =
      let i = t.walk.some l c w in
      AtBlock l b i.0 r i.1 x (Contains-append_left (at_front is_pointer f l b) (cond (stops f l) [] (behind_faults f enterer ends l i.0 b)) r y)
  finds_at rule at (AtEnd l b c r w x s y) =
      AtBlock l b c r (t.walk.whole l c w s) x
      (behind_in l c b r s
      (Contains-append_left (at_end f l c b)
      (here (end_at f l) (all_target_rules f enterer l c (targets f l)) ++ here (loop_at b.body) (loop_rules (ends l) (next_of (construct f l)))) r y))
  finds_at rule at (BadTarget l k c w x s n) =
      target_in l k 402 c w (refused l k c (tries_leads f l c k x) (left_fails (stops f k) (is_fall f c k) s) n) (ap (λ j. cond j 404 402) (tries_no_fall l k c x))
  finds_at rule at (CaseFall l k c w x e) =
      target_in l k 404 c w (refused l k c x (right_fails (stops f k) (is_fall f c k) e) (fall_not_entered l k c w x e)) (ap (λ j. cond j 404 402) e)
  finds_at rule at (BadContinue l m b c w x s y n) =
      let one : ends l ≡ false = elim (tells (ends l)) [ inl e ↦ absurd (n (t.one_back_edge.sound l e)) | inr e ↦ e ] in
      AtBlock l b c (record { rule = 405; at = loop_at b.body }) (t.walk.whole l c w s) x
      (behind_in l c b (record { rule = 405; at = loop_at b.body }) s
      (Contains-append_right (at_end f l c b)
      (here (end_at f l) (all_target_rules f enterer l c (targets f l)) ++ here (loop_at b.body) (loop_rules (ends l) (next_of (construct f l))))
      (record { rule = 405; at = loop_at b.body })
      (Contains-append_right (here (end_at f l) (all_target_rules f enterer l c (targets f l))) (here (loop_at b.body) (loop_rules (ends l) (next_of (construct f l))))
      (record { rule = 405; at = loop_at b.body })
      (in_here (loop_at b.body) (loop_rules (ends l) (next_of (construct f l))) 405 (in_loop (ends l) (next_of (construct f l)) m y one)))))
  finds_at rule at (NoTerminator l b x y) = AtOpen l b x y

  target_found : (l : ℕ) (c : Context) (r : Refusal) → Walk f l c → Contains (here (end_at f l) (all_target_rules f enterer l c (targets f l))) r → Finds is_pointer f r.rule r.at
  target_found l c r w h =
      let a = here_cases (end_at f l) (all_target_rules f enterer l c (targets f l)) r h in
      let k = target_cases f enterer l c (targets f l) r.rule a.0 in
      let u = unless_cases (not (refuses f enterer l c k.0)) (cond (is_fall f c k.0) 404 402) r.rule k.1 in
      let yes_refused : refuses f enterer l c k.0 ≡ true = not_not (refuses f enterer l c k.0) u.0 in
      let leading = refuses_leads f enterer l c k.0 yes_refused in
      let neither = refuses_neither f enterer l c k.0 yes_refused in
      subst (λ j. Finds is_pointer f r.rule j) (sym a.1)
      (elim (tells (is_fall f c k.0)) [
        | inl e ↦ subst (λ j. Finds is_pointer f j (end_at f l)) (fall_rule (is_fall f c k.0) r.rule e u.1) (CaseFall l k.0 c w leading e)
        | inr e ↦
            subst (λ j. Finds is_pointer f j (end_at f l)) (target_rule (is_fall f c k.0) r.rule e u.1)
            (BadTarget l k.0 c w (both_hold (leads f l c k.0) (not (is_fall f c k.0)) leading (not_false (is_fall f c k.0) e))
            (runs_by (stops f k.0) (is_fall f c k.0) (neither_left (stops f k.0 && not (is_fall f c k.0)) (is_it l (enterer k.0)) neither) e)
            (λ n. truth_apart (is_it l (enterer k.0)) (equal_is_it l (enterer k.0) (t.enterers.whole l k.0 n))
            (neither_right (stops f k.0 && not (is_fall f c k.0)) (is_it l (enterer k.0)) neither)))
      ])

  loop_found : (l : ℕ) (b : Block) (c : Context) (r : Refusal) → Walk f l c → block f l ≡ Some b → stops f l ≡ false
      → Contains (here (loop_at b.body) (loop_rules (ends l) (next_of (construct f l)))) r → Finds is_pointer f r.rule r.at
  loop_found l b c r w x s h =
      let a = here_cases (loop_at b.body) (loop_rules (ends l) (next_of (construct f l))) r h in
      let k = loop_cases (ends l) (next_of (construct f l)) r.rule a.0 in
      subst (λ j. Finds is_pointer f r.rule j) (sym a.1)
      (subst (λ j. Finds is_pointer f j (loop_at b.body)) k.3
      (BadContinue l k.0 b c w x s k.1 (λ o. truth_apart (ends l) (t.one_back_edge.whole l o) k.2)))

  behind_found : (l : ℕ) (b : Block) (c : Context) (r : Refusal) → Walk f l c → block f l ≡ Some b → stops f l ≡ false → Contains (behind_faults f enterer ends l c b) r
      → Finds is_pointer f r.rule r.at
  behind_found l b c r w x s h =
      elim (Contains-append_cases (at_end f l c b)
      (here (end_at f l) (all_target_rules f enterer l c (targets f l)) ++ here (loop_at b.body) (loop_rules (ends l) (next_of (construct f l)))) r h) [
        | inl e ↦ AtEnd l b c r w x s e
        | inr e ↦
            elim (Contains-append_cases (here (end_at f l) (all_target_rules f enterer l c (targets f l)))
            (here (loop_at b.body) (loop_rules (ends l) (next_of (construct f l)))) r e) [
              | inl g ↦ target_found l c r w g
              | inr g ↦ loop_found l b c r w x s g
            ]
      ]

  pub at_finds : (rule at : ℕ) → FoundAt is_pointer f enterer ends In rule at → Finds is_pointer f rule at
  at_finds rule at (AtOpen l b x y) = NoTerminator l b x y
  at_finds rule at (AtBlock l b c r i x y) =
      let w = t.walk.sound l c i in
      elim (Contains-append_cases (at_front is_pointer f l b) (cond (stops f l) [] (behind_faults f enterer ends l c b)) r y) [
        | inl e ↦ AtFront l b c r w x e
        | inr e ↦ elim (tells (stops f l)) [
          | inl s ↦ absurd (no_element r (subst (λ j. Contains (cond j [] (behind_faults f enterer ends l c b)) r) s e))
          | inr s ↦ behind_found l b c r w x s (subst (λ j. Contains (cond j [] (behind_faults f enterer ends l c b)) r) s e)
        ]
      ]

  pub same_found : SameFound is_pointer f enterer ends In
  same_found = record { finds = finds_at; found = at_finds }
