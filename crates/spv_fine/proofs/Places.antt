-- Where the instructions of a function stand in its module: in which function and block, and which id is defined there.
use Rattle.std.proofs.Common.{◌≡◌, ℕ, zero, suc, ◌+◌, ◌≤◌, Bool, true, false, cond, ◌||◌, ◌==◌, nat_eq, List, [], ◌∷◌, ◌++◌, find, length, take, drop, Some, refl, sym, ap, ◌∙◌, arith}
use Rattle.std.specs.List.{list_any, position, slice_get}
use Rattle.std.specs.Option.{option_map, option_map_or}
use Rattle.std.proofs.lemmas.Bool.Decides.{nat_tests}
use Rattle.spv_grammar.specs.Roles.{is_defined_id}
use Rattle.spv_module.specs.Code.{is_line}
use Rattle.spv_module.specs.Instruction.{Instruction, word_with}
use Rattle.spv_ids.specs.Ids.{definition, defines, is_defined_before, place_of}
use Rattle.spv_ids.proofs.Places.{position-cons}
use Rattle.spv_blocks.specs.Blocks.{Code, block, has, is_label}
use Rattle.spv_blocks.specs.Cutting.{block_of, blocks_of, is_label_mark, word}
use Rattle.spv_blocks.proofs.Slices.{take-at}
use Rattle.spv_walk.proofs.Unique.{equal_true}
use Rattle.spv_texts.specs.Laws.{DefinesOnce}
use Rattle.spv_availability.specs.Places.{last_label}

-- ---- lists

pub get_behind : {X : Type 0} (xs ys : List X) (j : ℕ) → slice_get (xs ++ ys) (length xs + j) ≡ slice_get ys j
get_behind [] ys j = let e : 0 + j ≡ j = omega arith in ap (slice_get ys) e
get_behind (x ∷ xs) ys j =
    let e : suc (length xs) + j ≡ suc (length xs + j) = omega arith in
    ap (slice_get (x ∷ (xs ++ ys))) e ∙ get_behind xs ys j

pub get_front : {X : Type 0} (xs ys : List X) (j : ℕ) (x : X) → slice_get xs j ≡ Some x → slice_get (xs ++ ys) j ≡ Some x
get_front [] ys j x e = absurd (cc (e))
get_front (y ∷ xs) ys zero x e = e
get_front (y ∷ xs) ys (suc j) x e = get_front xs ys j x e

pub take_behind : {X : Type 0} (xs ys : List X) (j : ℕ) → take (length xs + j) (xs ++ ys) ≡ xs ++ take j ys
take_behind [] ys j = let e : 0 + j ≡ j = omega arith in ap (λ n. take n ys) e
take_behind (x ∷ xs) ys j =
    let e : suc (length xs) + j ≡ suc (length xs + j) = omega arith in
    ap (λ n. take n (x ∷ (xs ++ ys))) e ∙ ap (λ z. x ∷ z) (take_behind xs ys j)

pub take_front : {X : Type 0} (xs ys : List X) (j : ℕ) → j ≤ length xs → take j (xs ++ ys) ≡ take j xs
take_front xs ys zero less = refl
take_front [] ys (suc j) less = absurd (omega arith)
take_front (x ∷ xs) ys (suc j) less = ap (λ z. x ∷ z) (take_front xs ys j (omega arith))

pub drop_behind : {X : Type 0} (xs ys : List X) → drop (length xs) (xs ++ ys) ≡ ys
drop_behind [] ys = refl
drop_behind (x ∷ xs) ys = drop_behind xs ys

-- where a test passes first
first_place : {X : Type 0} (p : X → Bool) (xs : List X) (k : ℕ) (x : X) → slice_get xs k ≡ Some x → p x ≡ true → list_any p (take k xs) ≡ false
    → (position p xs ≡ Some k) × (find p xs ≡ Some x)
first_place p [] k x e h none = absurd (cc (e))
first_place p (y ∷ xs) zero x e h none =
    let same : y ≡ x = cc (e) in
    let passes : p y ≡ true = ap p same ∙ h in (
      position-cons p y xs ∙ ap (λ b. cond b (Some 0) (option_map (λ k. suc k) (position p xs))) passes,
      ap (λ b. cond b (Some y) (find p xs)) passes ∙ ap Some same,
    )
first_place p (y ∷ xs) (suc k) x e h none =
    let here : p y ≡ false = or_left (p y) (list_any p (take k xs)) none in
    let r = first_place p xs k x e h (or_right (p y) (list_any p (take k xs)) none) in (
      position-cons p y xs ∙ ap (λ b. cond b (Some 0) (option_map (λ k. suc k) (position p xs))) here ∙ ap (option_map (λ k. suc k)) r.0,
      ap (λ b. cond b (Some y) (find p xs)) here ∙ r.1,
    )
  where
    or_left : (a b : Bool) → (a || b) ≡ false → a ≡ false
    or_left true b h = h
    or_left false b h = refl

    or_right : (a b : Bool) → (a || b) ≡ false → b ≡ false
    or_right true b h = absurd (cc (h))
    or_right false b h = h

pub last_push : (l : ℕ) (xs : List Instruction) (i : Instruction) → last_label l (xs ++ i ∷ []) ≡ last_label (last_label l xs) (i ∷ [])
last_push l [] i = refl
last_push l (x ∷ xs) i = last_push (cond (is_label_mark x) (word x 1) l) xs i

-- ---- definitions

-- an instruction that defines an id is the one that does
pub defined_at : (insts : List Instruction) → DefinesOnce insts → (k : ℕ) (i : Instruction) (id : ℕ) → slice_get insts k ≡ Some i → is_line i ≡ false
    → word_with is_defined_id i ≡ Some id → (place_of insts id ≡ Some k) × (definition insts id ≡ Some i)
defined_at insts once k i id at plain is =
    first_place (defines id) insts k i at (ap (λ o. option_map_or (nat_eq id) o false) is ∙ same id)
    (sym (ap (λ o. option_map_or (is_defined_before insts k) o false) is) ∙ once k i at plain)
  where
    same : (n : ℕ) → nat_eq n n ≡ true
    same n = grind (arith, nat_tests)

-- ---- blocks

module _ (insts : List Instruction) (k : ℕ) (i : Instruction) (at : slice_get insts k ≡ Some i) where
  pub label_on : is_label_mark i ≡ false → last_label 0 (take (k + 1) insts) ≡ last_label 0 (take k insts)
  label_on other =
      ap (last_label 0) (take-at insts k i at) ∙ last_push 0 (take k insts) i
      ∙ ap (λ b. cond b (word i 1) (last_label 0 (take k insts))) other

  pub label_here : is_label_mark i ≡ true → last_label 0 (take (k + 1) insts) ≡ word i 1
  label_here label =
      ap (last_label 0) (take-at insts k i at) ∙ last_push 0 (take k insts) i
      ∙ ap (λ b. cond b (word i 1) (last_label 0 (take k insts))) label

-- a label of the blocks stands among the instructions
pub record LabelAt (is : List Instruction) (l : ℕ) : Type 0 where
  pub at : ℕ
  pub inst : Instruction
  pub get : slice_get is at ≡ Some inst
  pub mark : is_label_mark inst ≡ true
  pub label : word inst 1 ≡ l

label_further : (i : Instruction) (is : List Instruction) (l : ℕ) → LabelAt is l → LabelAt (i ∷ is) l
label_further i is l r = record { at = suc r.at; inst = r.inst; get = r.get; mark = r.mark; label = r.label }

pub label_at : (is : List Instruction) (l : ℕ) → is_label (blocks_of is) l ≡ true → LabelAt is l
label_at [] l h = absurd (cc (h))
label_at (i ∷ is) l h = by (is_label_mark i) refl h (label_at is l)
  where
    some : (o : Bool) → (word i 1 == l) ≡ o → is_label_mark i ≡ true → Rattle.spv_blocks.specs.Blocks.is_some_block (cond o (Some (block_of i is))
        (block (blocks_of is) l)) ≡ true
        → (is_label (blocks_of is) l ≡ true → LabelAt is l) → LabelAt (i ∷ is) l
    some true e m h more = record { at = 0; inst = i; get = refl; mark = m; label = equal_true (word i 1) l e }
    some false e m h more = label_further i is l (more h)

    by : (b : Bool) → is_label_mark i ≡ b → is_label (cond b (block_of i is ∷ blocks_of is) (blocks_of is)) l ≡ true
        → (is_label (blocks_of is) l ≡ true → LabelAt is l) → LabelAt (i ∷ is) l
    by true e h more = some (word i 1 == l) refl e h more
    by false e h more = label_further i is l (more h)
