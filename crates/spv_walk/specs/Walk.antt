-- The walk through a function by its structured control flow: which blocks are entered, and in which context.
use Rattle.std.specs.Prelude.{◌≡◌, ◌≢◌, ℕ, Bool, true, false, not, ◌&&◌, [], ◌∷◌, Some, None}
use Rattle.spv_blocks.specs.Blocks.{Code, End, Open, block, of_block, branches, construct, merge_of, next_of, is_role, is_first, stops, goes, is_case}
use Rattle.spv_walk.specs.Contexts.{Context, InNext, behind, next_context, is_exit, is_fall}

-- ---- which branches count, whatever the walk finds

-- b stands at the top of the continue part of the loop h: no construct lies between
pub data Top (f : Code) : (h b : ℕ) → Type 0 where
  Begins : (h c : ℕ) → next_of (construct f h) ≡ Some c → is_role f h c ≡ true → Top f h c
  Past : (h b m : ℕ) → Top f h b → stops f b ≡ false → merge_of (construct f b) ≡ Some m → is_role f b m ≡ true → Top f h m
  -- the other blocks that branch to t are its own back edges
  Along : (h b t : ℕ) → Top f h b → construct f b ≡ None → goes f b t ≡ true → t ≢ h
      → ((q : ℕ) → q ≢ b → branches f q t ≡ true → Top f t q)
      → ((q : ℕ) → q ≢ b → branches f q t ≡ true → construct f q ≡ None)
      → Top f h t

-- p is reached from x, past merge instructions
pub data Inside (f : Code) (x : ℕ) : (p : ℕ) → Type 0 where
  Here : Inside f x x
  ToMerge : (b m : ℕ) → Inside f x b → stops f b ≡ false → merge_of (construct f b) ≡ Some m → is_role f b m ≡ true → Inside f x m
  ToNext : (b c : ℕ) → Inside f x b → stops f b ≡ false → next_of (construct f b) ≡ Some c → is_role f b c ≡ true → Inside f x c
  Into : (b t : ℕ) → Inside f x b → stops f b ≡ false → goes f b t ≡ true → Inside f x t

-- a branch from p to t is a back edge of the loop t
pub record Back (f : Code) (t p : ℕ) : Type 0 where
  pub top : Top f t p
  pub bare : construct f p ≡ None

-- a branch from p to t leads from one case of a switch to another
pub record Falls (f : Code) (t p : ℕ) : Type 0 where
  pub switch : ℕ
  pub from : ℕ
  pub other : p ≢ switch
  pub to_case : is_case f switch t ≡ true
  pub from_case : is_case f switch from ≡ true
  pub differ : from ≢ t
  pub inside : Inside f from p

-- p branches to t, and is counted as its predecessor
pub record Counted (f : Code) (t p : ℕ) : Type 0 where
  pub branch : branches f p t ≡ true
  pub no_back : Back f t p → ⊥
  pub no_fall : Falls f t p → ⊥

-- t may be entered from b: b is its one counted predecessor
pub record Enters (f : Code) (b t : ℕ) : Type 0 where
  pub free : goes f b t ≡ true
  pub counted : Counted f t b
  pub one : (q : ℕ) → Counted f t q → q ≡ b

-- ---- the walk

abbrev pub end_of : Code → ℕ → End
end_of f l = of_block (λ b. b.end) Open (block f l)

-- t is a target of b in the context c, and no exit
abbrev pub leads : Code → (b : ℕ) → Context → (t : ℕ) → Bool
leads f b c t = not (stops f b) && branches f b t && not (is_exit (behind (construct f b) b t c) (end_of f b) t)

-- and no first block of another case either
abbrev pub tries : Code → (b : ℕ) → Context → (t : ℕ) → Bool
tries f b c t = leads f b c t && not (is_fall f c t)

-- the blocks that are walked, each with its context
pub data Walk (f : Code) : ℕ → Context → Type 0 where
  Starts : (l : ℕ) → is_first f l ≡ true → Walk f l []
  Entered : (b t : ℕ) (c : Context) → Walk f b c → tries f b c t ≡ true → Enters f b t → Walk f t (behind (construct f b) b t c)
  -- a header that is its own continue target is walked, and nothing behind it
  Stopped : (b t : ℕ) (c : Context) → Walk f b c → tries f b c t ≡ true → stops f t ≡ true → Walk f t (behind (construct f b) b t c)
  Merged : (b m : ℕ) (c : Context) → Walk f b c → stops f b ≡ false → merge_of (construct f b) ≡ Some m → is_role f b m ≡ true → Walk f m c
  Continued : (b n : ℕ) (c : Context) → Walk f b c → stops f b ≡ false → next_of (construct f b) ≡ Some n → is_role f b n ≡ true
      → Walk f n (next_context (construct f b) b c)

-- b is walked and ends with the back edge of the loop h
pub record BackEdge (f : Code) (h b : ℕ) : Type 0 where
  pub context : Context
  pub merge : ℕ
  pub walked : Walk f b (InNext h merge ∷ context)
  pub bare : construct f b ≡ None
  pub branch : branches f b h ≡ true

-- the continue part of the loop h ends in exactly one back edge
pub record OneBackEdge (f : Code) (h : ℕ) : Type 0 where
  pub block : ℕ
  pub ends : BackEdge f h block
  pub one : (b : ℕ) → BackEdge f h b → b ≡ block
