-- Where blocks stand below a construct: none of its arms ends with a back edge to its merge block or continue target.
use Rattle.std.proofs.Common.{◌≡◌, ◌≢◌, ℕ, Bool, true, false, [], ◌∷◌, ◌++◌, length, Option, Some, None, sym, ap, subst, ◌∙◌, arith, append_assoc}
use Rattle.std.proofs.lemmas.Bool.{false≢true}
use Rattle.std.proofs.lemmas.List.{length-append}
use Rattle.spv_blocks.specs.Blocks.{Code, Construct, ASelection, ASwitch, ALoop, construct, next_of}
use Rattle.spv_walk.specs.Contexts.{Context, Level, InSelection, InArm, InBody, InNext}
use Rattle.spv_walk.specs.Walk.{Back, Top, Begins, Past, Along, Walk}
use Rattle.spv_walk.proofs.Letter.{top_walked}
use Rattle.spv_spelling.specs.Clean.{IsClean}
use Rattle.spv_spelling.proofs.Onward.{same_context}

-- ---- contexts

-- of two contexts that are one, what stands right before the same rest is one
pub same_level : (xs ys : Context) (v u : Level) (c : Context) → xs ++ v ∷ c ≡ ys ++ u ∷ c → v ≡ u
same_level [] [] v u c e = cc (e)
same_level [] (y ∷ ys) v u c e =
    let n : length (v ∷ c) ≡ length (y ∷ (ys ++ u ∷ c)) = ap length e in
    absurd (omega (arith, n, length-append ys (u ∷ c)))
same_level (x ∷ xs) [] v u c e =
    let n : length (x ∷ (xs ++ v ∷ c)) ≡ length (u ∷ c) = ap length e in
    absurd (omega (arith, n, length-append xs (v ∷ c)))
same_level (x ∷ xs) (y ∷ ys) v u c e = same_level xs ys v u c (cc (e))

longer : (ys : Context) (u : Level) (c : Context) → c ≡ ys ++ u ∷ c → ⊥
longer ys u c e =
    let n : length c ≡ length (ys ++ u ∷ c) = ap length e in
    absurd (omega (arith, n, length-append ys (u ∷ c)))

-- an arm or a loop's body, and no continue part
abbrev pub is_inner : Level → Bool
is_inner (InSelection m) = true
is_inner (InArm h m a) = true
is_inner (InBody h m n) = true
is_inner (InNext h m) = false

-- ---- blocks below

-- b is walked in this context, or deeper
pub record Deep (g : Code) (c : Context) (b : ℕ) : Type 0 where
  pub more : Context
  pub walked : Walk g b (more ++ c)

-- b is l, or is walked in this context, or deeper
pub data Arm (g : Code) (l : ℕ) (d : Context) (b : ℕ) : Type 0 where
  Itself : b ≡ l → Arm g l d b
  Below : Deep g d b → Arm g l d b

-- b is l, or stands in an arm or the body of its construct
pub data Inner (g : Code) (l : ℕ) (c : Context) (b : ℕ) : Type 0 where
  AtIt : b ≡ l → Inner g l c b
  InArms : (v : Level) → is_inner v ≡ true → Deep g (v ∷ c) b → Inner g l c b

pub deep_out : (g : Code) (v : Level) (c : Context) (b : ℕ) → Deep g (v ∷ c) b → Deep g c b
deep_out g v c b d = record { more = d.more ++ v ∷ []; walked = subst (λ k. Walk g b k) (sym (append_assoc d.more (v ∷ []) c)) d.walked }

pub deep_here : (g : Code) (l : ℕ) (c : Context) (b : ℕ) → Walk g l c → b ≡ l → Deep g c b
deep_here g l c b w e = record { more = []; walked = subst (λ j. Walk g j c) (sym e) w }

pub arm_deep : (g : Code) (l : ℕ) (c : Context) (b : ℕ) → Walk g l c → Arm g l c b → Deep g c b
arm_deep g l c b w (Itself e) = deep_here g l c b w e
arm_deep g l c b w (Below d) = d

pub arm_inner : (g : Code) (l : ℕ) (v : Level) (c : Context) (b : ℕ) → is_inner v ≡ true → Arm g l (v ∷ c) b → Inner g l c b
arm_inner g l v c b i (Itself e) = AtIt e
arm_inner g l v c b i (Below d) = InArms v i d

pub inner_deep : (g : Code) (l : ℕ) (c : Context) (b : ℕ) → Walk g l c → Inner g l c b → Deep g c b
inner_deep g l c b w (AtIt e) = deep_here g l c b w e
inner_deep g l c b w (InArms v i d) = deep_out g v c b d

-- ---- back edges

next_of_top : (g : Code) (h b : ℕ) → Top g h b → (n : ℕ) × (next_of (construct g h) ≡ Some n)
next_of_top g h b (Begins i c e r) = (b, e)
next_of_top g h b (Past i a m t x y z) = next_of_top g h a t
next_of_top g h b (Along i a k t x y z u v) = next_of_top g h a t

loop_of : (k : Option Construct) (n : ℕ) → next_of k ≡ Some n → (m : ℕ) × (k ≡ Some (ALoop m n))
loop_of None n e = absurd (cc (e))
loop_of (Some (ASelection m)) n e = absurd (cc (e))
loop_of (Some (ASwitch m)) n e = absurd (cc (e))
loop_of (Some (ALoop m o)) n e = (m, ap (λ j. Some (ALoop m j)) (cc (e)))

-- the block of a back edge stands in the continue part
back_place : (g : Code) (t b : ℕ) (c : Context) → Walk g t c → Back g t b → (m : ℕ) × Walk g b (InNext t m ∷ c)
back_place g t b c w k =
    let n = next_of_top g t b k.top in
    let m = loop_of (construct g t) n.0 n.1 in
    (m.0, top_walked g t b m.0 n.0 c m.1 w k.top)

module _ (is_pointer : ℕ → Bool) (g : Code) (clean : IsClean is_pointer g) where
  apart_here : (l b : ℕ) (c ys : Context) (u : Level) → Walk g l c → b ≡ l → Walk g b (ys ++ u ∷ c) → ⊥
  apart_here l b c ys u w e v =
      longer ys u c (same_context is_pointer g clean l c (ys ++ u ∷ c) w (subst (λ j. Walk g j (ys ++ u ∷ c)) e v))

  apart_below : (b : ℕ) (c ys : Context) (v u : Level) → Deep g (v ∷ c) b → Walk g b (ys ++ u ∷ c) → v ≡ u
  apart_below b c ys v u d w = same_level d.more ys v u c (same_context is_pointer g clean b (d.more ++ v ∷ c) (ys ++ u ∷ c) d.walked w)

  -- an arm or a body is no continue part
  inner_apart : (l b h m : ℕ) (c ys : Context) → Walk g l c → Inner g l c b → Walk g b (ys ++ InNext h m ∷ c) → ⊥
  inner_apart l b h m c ys w (AtIt e) v = apart_here l b c ys (InNext h m) w e v
  inner_apart l b h m c ys w (InArms u i d) v =
      false≢true (ap is_inner (sym (apart_below b c ys u (InNext h m) d v)) ∙ i)

  -- so no back edge leads from the arms or the body of a construct to its merge block
  pub no_back_merge : (l b m : ℕ) (c : Context) → Walk g l c → Walk g m c → Inner g l c b → Back g m b → ⊥
  no_back_merge l b m c w v i k = let p = back_place g m b c v k in inner_apart l b m p.0 c [] w i p.1

  -- nor from a body to the continue target
  pub no_back_next : (h b m n : ℕ) (c : Context) → Walk g h c → Walk g n (InNext h m ∷ c) → Inner g h c b → Back g n b → ⊥
  no_back_next h b m n c w v i k =
      let p = back_place g n b (InNext h m ∷ c) v k in inner_apart h b h m c (InNext n p.0 ∷ []) w i p.1

  -- nor from a continue part to the merge block
  pub no_back_part : (h b m : ℕ) (c : Context) → Walk g m c → m ≢ h → Deep g (InNext h m ∷ c) b → Back g m b → ⊥
  no_back_part h b m c v other d k =
      let p = back_place g m b c v k in
      let same = apart_below b c [] (InNext h m) (InNext m p.0) d p.1 in
      other (sym (header_of same))
    where
      header_of : {n : ℕ} → InNext h m ≡ InNext m n → h ≡ m
      header_of e = cc (e)
