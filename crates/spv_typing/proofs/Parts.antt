-- The last of some words, and the members of structs.
use Rattle.std.proofs.Common.{◌≡◌, ℕ, ◌-◌, Bool, true, false, ◌&&◌, List, [], ◌∷◌, ◌++◌, length, refl, sym, ap, ◌∙◌, arith}
use Rattle.std.specs.List.{list_all, slice_get}
use Rattle.std.specs.Option.{unwrap_or}
use Rattle.spv_module.specs.Instruction.{Instruction}
use Rattle.spv_typing.specs.Kinds.{is_closed, last_id}
use Rattle.spv_typing.specs.Types.{last_fits, struct_fits}

-- induction on the words behind the first
last_cons : (x : ℕ) (xs : List ℕ) → unwrap_or (slice_get (x ∷ xs) (length xs)) 0 ≡ last_id (x ∷ xs)
last_cons x [] = refl
last_cons x (y ∷ ys) = last_cons y ys

-- the last word, by its place
pub last-at : (xs : List ℕ) → unwrap_or (slice_get xs (length xs - 1)) 0 ≡ last_id xs
last-at [] = refl
last-at (x ∷ xs) = let e : length (x ∷ xs) - 1 ≡ length xs = omega arith in rw e (last_cons x xs)

and_assoc : (a b c : Bool) → (a && (b && c)) ≡ ((a && b) && c)
and_assoc true b c = refl
and_assoc false b c = refl

-- the members of a struct, from the last one; induction on those in front
pub struct_fits-last : (insts : List Instruction) (ms : List ℕ) (m : ℕ) → struct_fits insts (ms ++ m ∷ []) ≡ (list_all (is_closed insts) ms && last_fits insts m)
struct_fits-last insts [] m = refl
struct_fits-last insts (x ∷ []) m = and_assoc (is_closed insts x) true (last_fits insts m)
struct_fits-last insts (x ∷ y ∷ ys) m =
    ap (λ (b : Bool). is_closed insts x && b) (struct_fits-last insts (y ∷ ys) m) ∙ and_assoc (is_closed insts x) (list_all (is_closed insts) (y ∷ ys)) (last_fits insts m)

pub struct_fits-split : (insts : List Instruction) (ms others : List ℕ) (m : ℕ) (closed fits : Bool) → ms ≡ others ++ m ∷ [] → closed ≡ list_all (is_closed insts) others → fits ≡ last_fits insts m →
    (closed && fits) ≡ struct_fits insts ms
struct_fits-split insts ms others m closed fits split all last =
    ap (λ (b : Bool). b && fits) all
    ∙ ap (λ (b : Bool). list_all (is_closed insts) others && b) last
    ∙ sym (struct_fits-last insts others m)
    ∙ ap (struct_fits insts) (sym split)
