-- The keys of instructions in sets.
use Rattle.std.proofs.Common.{◌≡◌, ℕ, Bool, true, false, cond, ◌&&◌, ◌||◌, ◌==◌, List, [], ◌∷◌, ◌++◌, slice_index, Option, Some, None, refl, sym, ap, ◌∙◌}
use Rattle.std.specs.declared.cmp.Ordering.{Ordering}
use Rattle.std.specs.BTreeSet.{BTreeSet, contains}
use Rattle.std.specs.Cmp.{both_tied, unsigned_ties}
use Rattle.std.specs.List.{list_any}
use Rattle.std.specs.Ordering.{eq_by_cmp, nat_cmp, ordering_then}
use Rattle.std.proofs.lemmas.List.Folds.{list_any-append}
use Rattle.spv_module.specs.Instruction.{Instruction}
use Rattle.spv_repeats.specs.Repeats.{is_one_of, single_decorations, is_decorate, is_member_decorate, repeats_on_target, repeats_on_member}
use Rattle.spv_repeats.specs.Steps.{Adds, Follows, HasKeys, HasTargets, HasMembers, is_some_and, pair_cmp, triple_cmp, is_on_target, is_on_member}

or_last : (a b : Bool) → (a || (b || false)) ≡ (a || b)
or_last true b = refl
or_last false true = refl
or_last false false = refl

-- one instruction more
pub any-push : (test : Instruction → Bool) (before : List Instruction) (i : Instruction) → list_any test (before ++ i ∷ []) ≡ (list_any test before || test i)
any-push test before i = list_any-append test before (i ∷ []) ∙ or_last (list_any test before) (test i)

-- a set with one key more has the keys of one instruction more
pub has-add : {K : Type 0} (cmp : K → K → Ordering) (is_key_of : K → Instruction → Bool) (old new : BTreeSet K) (key : Option K) (known : Bool) (before : List Instruction) (i : Instruction) →
    Adds cmp old new key known → ((q : K) → is_some_and (eq_by_cmp cmp q) key ≡ is_key_of q i) → HasKeys cmp is_key_of old before → HasKeys cmp is_key_of new (before ++ i ∷ [])
has-add cmp is_key_of old new key known before i adds same h =
    record {
      has = λ q.
          adds.keys q
          ∙ ap (λ (b : Bool). b || is_some_and (eq_by_cmp cmp q) key) (h.has q)
          ∙ ap (λ (b : Bool). list_any (is_key_of q) before || b) (same q)
          ∙ sym (any-push (is_key_of q) before i);
    }

-- a key that is there under a condition
some_and-cond : {K : Type 0} (test : K → Bool) (c : Bool) (key : K) → is_some_and test (cond c (Some key) None) ≡ (c && test key)
some_and-cond test true key = refl
some_and-cond test false key = refl

some_and-of : {K : Type 0} (test : K → Bool) (c : Bool) (key : K) (o : Option K) → o ≡ cond c (Some key) None → is_some_and test o ≡ (c && test key)
some_and-of test c key o e = ap (is_some_and test) e ∙ some_and-cond test c key

and_cong : (c a b : Bool) → a ≡ b → (c && a) ≡ (c && b)
and_cong c a b e = ap (λ (x : Bool). c && x) e

-- adding the key of an instruction that has one under a condition, where the answer is also that another condition holds
follows-add : {K : Type 0} (cmp : K → K → Ordering) (is_key_of : K → Instruction → Bool) (old new : BTreeSet K) (key : K) (o : Option K) (c known single answer : Bool) (i : Instruction) (test : List Instruction → Instruction → Bool) →
    o ≡ cond c (Some key) None → Adds cmp old new o known → answer ≡ (known && single) → ((q : K) → (c && eq_by_cmp cmp q key) ≡ is_key_of q i) →
    ((before : List Instruction) → (c && list_any (is_key_of key) before && single) ≡ test before i) → Follows (HasKeys cmp is_key_of) test old new i answer
follows-add cmp is_key_of old new key o c known single answer i test e adds a same tests =
    record {
      answers = λ before h. a ∙ ap (λ (b : Bool). b && single) (adds.known ∙ some_and-of (contains cmp old) c key o e ∙ and_cong c _ _ (h.has key)) ∙ tests before;
      kept = λ before h. has-add cmp is_key_of old new o known before i adds (λ q. some_and-of (eq_by_cmp cmp q) c key o e ∙ same q) h;
    }

-- keys that their orders tell apart
pair_ties : (x y : ℕ × ℕ) → eq_by_cmp pair_cmp x y ≡ (x.0 == y.0 && x.1 == y.1)
pair_ties x y = sym (both_tied _ _ (nat_cmp x.0 y.0) (nat_cmp x.1 y.1) (unsigned_ties x.0 y.0) (unsigned_ties x.1 y.1))

triple_ties : (x y : ℕ × ℕ × ℕ) → eq_by_cmp triple_cmp x y ≡ (x.0 == y.0 && x.1 == y.1 && x.2 == y.2)
triple_ties x y =
    sym (both_tied _ _ (ordering_then (nat_cmp x.0 y.0) (nat_cmp x.1 y.1)) (nat_cmp x.2 y.2)
    (both_tied _ _ (nat_cmp x.0 y.0) (nat_cmp x.1 y.1) (unsigned_ties x.0 y.0) (unsigned_ties x.1 y.1)) (unsigned_ties x.2 y.2))

pub follows-target : (old new : BTreeSet (ℕ × ℕ)) (o : Option (ℕ × ℕ)) (known answer : Bool) (i : Instruction) → o ≡ cond (is_decorate i) (Some (slice_index i.words 1, slice_index i.words 2)) None →
    Adds pair_cmp old new o known → answer ≡ (known && is_one_of single_decorations (slice_index i.words 2)) → Follows HasTargets repeats_on_target old new i answer
follows-target old new o known answer i e adds a =
    let key : ℕ × ℕ = (slice_index i.words 1, slice_index i.words 2) in
    follows-add pair_cmp is_on_target old new key o (is_decorate i) known (is_one_of single_decorations key.1) answer i repeats_on_target e adds a (λ q. and_cong (is_decorate i) _ _ (pair_ties q key)) (λ before. refl)

pub follows-member : (old new : BTreeSet (ℕ × ℕ × ℕ)) (o : Option (ℕ × ℕ × ℕ)) (known answer : Bool) (i : Instruction) →
    o ≡ cond (is_member_decorate i) (Some (slice_index i.words 1, slice_index i.words 2, slice_index i.words 3)) None →
    Adds triple_cmp old new o known → answer ≡ (known && is_one_of single_decorations (slice_index i.words 3)) → Follows HasMembers repeats_on_member old new i answer
follows-member old new o known answer i e adds a =
    let key : ℕ × ℕ × ℕ = (slice_index i.words 1, slice_index i.words 2, slice_index i.words 3) in
    follows-add triple_cmp is_on_member old new key o (is_member_decorate i) known (is_one_of single_decorations key.2) answer i repeats_on_member e adds a (λ q. and_cong (is_member_decorate i) _ _ (triple_ties q key)) (λ before. refl)
