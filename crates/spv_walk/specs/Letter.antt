-- What is not counted, against the walk: a back edge of a walked loop is one in the walk, and a branch to another case is not counted.
use Rattle.std.specs.Prelude.{◌≡◌, ℕ, Bool, true, false, not, ◌&&◌, ◌||◌, List, [], ◌∷◌, ◌==◌}
use Rattle.std.specs.List.{list_any}
use Rattle.spv_blocks.specs.Blocks.{Code, branches, is_case, names}
use Rattle.spv_walk.specs.Contexts.{InSelection, InArm, InBody, InNext, Context, is_fall}
use Rattle.spv_walk.specs.Walk.{Back, Falls, Counted, Enters, Walk, BackEdge, leads, tries}

-- a branch to the header of a walked loop that is not counted as its back edge is one in the walk
abbrev pub BackIsWalked : Type 0
BackIsWalked = (f : Code) (h b : ℕ) (c : Context) → Walk f h c → Back f h b → branches f b h ≡ true → BackEdge f h b

-- a branch in the walk to the first block of another case leads from one case to another, so it is not counted, where no merge instruction names that block
abbrev pub FallIsNotCounted : Type 0
FallIsNotCounted = (f : Code) (l t : ℕ) (c : Context) → Walk f l c → leads f l c t ≡ true → names f t ≡ 0 → is_fall f c t ≡ true → Falls f t l × (Counted f t l → ⊥)

-- so a target that is entered is no such block
abbrev pub EnteredIsNoFall : Type 0
EnteredIsNoFall = (f : Code) (b t : ℕ) (c : Context) → Walk f b c → leads f b c t ≡ true → Enters f b t → tries f b c t ≡ true

-- a label begins another case of a switch round a walked place where the header of the switch leads to it
abbrev pub is_led : Code → Context → (t : ℕ) → Bool
is_led f [] t = false
is_led f (InSelection m ∷ c) t = is_led f c t
is_led f (InArm h m a ∷ c) t = (leads f h c t && not (t == a)) || is_led f c t
is_led f (InBody h m n ∷ c) t = is_led f c t
is_led f (InNext h m ∷ c) t = is_led f c t

abbrev pub FallIsLed : Type 0
FallIsLed = (f : Code) (l t : ℕ) (c : Context) → Walk f l c → is_fall f c t ≡ is_led f c t

-- the switches round a place, each with the case where it is
abbrev pub arms : Context → List (ℕ × ℕ)
arms [] = []
arms (InSelection m ∷ c) = arms c
arms (InArm h m a ∷ c) = (h, a) ∷ arms c
arms (InBody h m n ∷ c) = arms c
arms (InNext h m ∷ c) = arms c

-- by them another case is told, where no merge instruction names it
abbrev pub FallByArms : Type 0
FallByArms = (f : Code) (l t : ℕ) (c : Context) → Walk f l c → names f t ≡ 0 → is_fall f c t ≡ list_any (λ p. is_case f p.0 t && not (t == p.1)) (arms c)
