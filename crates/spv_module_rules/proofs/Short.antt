-- Where no rule on structured control flow is broken, nothing refutes that a function is clean. So what can be decided of clean functions holds of it: targets
-- are entered, and the paths of the walk are short.
use Rattle.std.proofs.Common.{◌≡◌, inl, inr, ℕ, ◌<◌, Bool, true, false, cond, ◌==◌, [], ◌∷◌, length, Option, Some, None, refl, subst, arith}
use Rattle.std.proofs.lemmas.Bool.{false≢true, cases_lt}
use Rattle.spv_blocks.specs.Blocks.{Block, Code, block, branches, construct, goes, last_opens, next_of, of_block, stops}
use Rattle.spv_walk.specs.Contexts.{Context}
use Rattle.spv_walk.specs.Rules.{Broken, Found, NeverEntered, BadContinue, BadTarget, end_at, loop_at}
use Rattle.spv_walk.specs.Walk.{Enters, OneBackEdge, Walk, tries}
use Rattle.spv_walk.proofs.Unique.{equal_false, equal_true, tells}
use Rattle.spv_exits.proofs.OwnTargets.{walked-runs}
use Rattle.spv_spelling.specs.Clean.{IsClean}
use Rattle.spv_spelling.specs.Paths.{Path}
use Rattle.spv_spelling.proofs.Paths.{paths_are_short}

-- ---- what can be decided holds where nothing refutes it

stable_bool : (b : Bool) → ((b ≡ true → ⊥) → ⊥) → b ≡ true
stable_bool true k = refl
stable_bool false k = absurd (k false≢true)

stable_equal : (a b : ℕ) → ((a ≡ b → ⊥) → ⊥) → a ≡ b
stable_equal a b k = elim (tells (a == b)) [ inl e ↦ equal_true a b e | inr e ↦ absurd (k (equal_false a b e)) ]

stable_less : (a b : ℕ) → ((a < b → ⊥) → ⊥) → a < b
stable_less a b k = elim (cases_lt a b) [ inl h ↦ h | inr h ↦ absurd (k (λ g. omega arith)) ]

-- ---- of all labels of some blocks

module _ (R : ℕ → Type 0) where
  pick : (b : Block) (g : Code) (l : ℕ) (x : Block) (t : Bool) → (b.label == l) ≡ t → cond t (Some b) (block g l) ≡ Some x → R b.label
      → (block g l ≡ Some x → R l) → R l
  pick b g l x true e h here later = subst R (equal_true b.label l e) here
  pick b g l x false e h here later = later h

  -- what nothing refutes of each label, nothing refutes of all labels; induction on the blocks
  all_labels : ((l : ℕ) → (R l → ⊥) → ⊥) → (g : Code) → (((l : ℕ) (x : Block) → block g l ≡ Some x → R l) → ⊥) → ⊥
  all_labels each [] k = k (λ l x e. absurd (cc (e)))
  all_labels each (b ∷ g) k =
      each b.label (λ here. all_labels each g (λ later. k (λ l x e. pick b g l x (b.label == l) refl e here (later l x))))

-- ---- a function

module _ (is_pointer : ℕ → Bool) (f : Code) (nothing : (rule at : ℕ) → Broken is_pointer f rule at → ⊥) where
  pub entered : (l t : ℕ) (c : Context) → Walk f l c → tries f l c t ≡ true → stops f t ≡ false → Enters f l t
  entered l t c w h s =
      let some : (Enters f l t → ⊥) → ⊥ = λ k. nothing 402 (end_at f l) (Found 402 (end_at f l) (BadTarget l t c w h s k)) in
      record {
        free = stable_bool (goes f l t) (λ no. some (λ e. no e.free));
        counted = record {
          branch = stable_bool (branches f l t) (λ no. some (λ e. no e.counted.branch));
          no_back = λ b. some (λ e. e.counted.no_back b);
          no_fall = λ b. some (λ e. e.counted.no_fall b);
        };
        one = λ q h. stable_equal q l (λ no. some (λ e. no (e.one q h)));
      }

  abbrev IsWalked : ℕ → Type 0
  IsWalked l = (b : Block) → block f l ≡ Some b → (c : Context) × Walk f l c

  abbrev IsTurned : ℕ → Type 0
  IsTurned l = (n : ℕ) (c : Context) → Walk f l c → next_of (construct f l) ≡ Some n → OneBackEdge f l

  walked_by : (l : ℕ) (o : Option Block) → block f l ≡ o → (((b : Block) → o ≡ Some b → (c : Context) × Walk f l c) → ⊥) → ⊥
  walked_by l None at k = k (λ b e. absurd (cc (e)))
  walked_by l (Some b) at k =
      nothing 402 b.at (NeverEntered l b (λ r at g. nothing r at (Found r at g)) at (λ c w. k (λ _ _. (c, w))))

  has_block : (l n : ℕ) (o : Option Block) → block f l ≡ o → next_of (of_block (λ b. last_opens b.end b.body) None o) ≡ Some n
      → (b : Block) × (block f l ≡ Some b)
  has_block l n None at h = absurd (cc (h))
  has_block l n (Some b) at h = (b, at)

  not_unturned : (l n : ℕ) (c : Context) → Walk f l c → next_of (construct f l) ≡ Some n → (OneBackEdge f l → ⊥) → ⊥
  not_unturned l n c w h k =
      let b = has_block l n (block f l) refl h in
      nothing 405 (loop_at (b.0).body) (Found 405 (loop_at (b.0).body) (BadContinue l n b.0 c w b.1 (walked-runs is_pointer f nothing l c w) h k))

  turned_by : (l : ℕ) → (IsTurned l → ⊥) → ⊥
  turned_by l k = k (λ n c w h. absurd (not_unturned l n c w h (λ o. k (λ _ _ _ _. o))))

  not_unclean : (IsClean is_pointer f → ⊥) → ⊥
  not_unclean k =
      all_labels IsWalked (λ l. walked_by l (block f l) refl) f (λ walked. all_labels IsTurned turned_by f (λ turned. k record {
        unbroken = nothing;
        walked = λ l b at. walked l b at b at;
        entered = entered;
        turned = λ l n c w h. let b = has_block l n (block f l) refl h in turned l b.0 b.1 n c w h;
      }))

  pub short : (n l : ℕ) (c : Context) → Path f n l c → n < length f
  short n l c p = stable_less n (length f) (λ no. not_unclean (λ clean. no (paths_are_short is_pointer f clean n l c p)))
