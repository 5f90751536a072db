-- Contexts that are alike but for the headers and labels of the arms of switches, which no exit asks about.
use Rattle.std.proofs.Common.{◌≡◌, ℕ, true, ◌||◌, ◌∷◌, refl, sym, ap₂, ◌∙◌}
use Rattle.spv_blocks.specs.Blocks.{End}
use Rattle.spv_walk.specs.Contexts.{InSelection, InArm, InBody, InNext, Context, in_next, is_exit, leaves_inner, leaves_loop, leaves_switch}

pub record Alike (c d : Context) : Type 0 where
  pub inner : (e : End) (t : ℕ) → leaves_inner c e t ≡ leaves_inner d e t
  pub switch : (t : ℕ) → leaves_switch c t ≡ leaves_switch d t
  pub loop : (t : ℕ) → leaves_loop c t ≡ leaves_loop d t
  pub next : in_next c ≡ in_next d

pub alike_same : (c : Context) → Alike c c
alike_same c = record { inner = λ e t. refl; switch = λ t. refl; loop = λ t. refl; next = refl }

-- behind a level that both have
pub in_selection : (c d : Context) (m : ℕ) → Alike c d → Alike (InSelection m ∷ c) (InSelection m ∷ d)
in_selection c d m a = record { inner = λ e t. refl; switch = a.switch; loop = a.loop; next = a.next }

pub in_arm : (c d : Context) (m h k x y : ℕ) → Alike c d → Alike (InArm h m x ∷ c) (InArm k m y ∷ d)
in_arm c d m h k x y a = record { inner = λ e t. refl; switch = λ t. refl; loop = a.loop; next = a.next }

pub in_body : (c d : Context) (h m n : ℕ) → Alike c d → Alike (InBody h m n ∷ c) (InBody h m n ∷ d)
in_body c d h m n a = record { inner = λ e t. refl; switch = λ t. refl; loop = λ t. refl; next = a.next }

pub in_part : (c d : Context) (h m : ℕ) → Alike (InNext h m ∷ c) (InNext h m ∷ d)
in_part c d h m = record { inner = λ e t. refl; switch = λ t. refl; loop = λ t. refl; next = refl }

-- an exit of one is one of the other
pub exit_alike : (c d : Context) (e : End) (t : ℕ) → Alike c d → is_exit c e t ≡ true → is_exit d e t ≡ true
exit_alike c d e t a h = ap₂ (λ x y. x || y) (ap₂ (λ x y. x || y) (sym (a.inner e t)) (sym (a.switch t))) (sym (a.loop t)) ∙ h
