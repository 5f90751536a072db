-- Known integer constants.
use Rattle.std.proofs.Common.{◌≡◌, ℕ, Bool, true, false, cond, nat_eq, List, [], ◌∷◌, Option, Some, None, refl, sym, ap, ◌∙◌}
use Rattle.std.specs.List.{find}
use Rattle.std.specs.Option.{option_and_then, option_map_or}
use Rattle.std.proofs.lemmas.Bool.{eqb-true}
use Rattle.spv_grammar.specs.Roles.{is_defined_id}
use Rattle.spv_module.specs.Instruction.{Instruction, word_with}
use Rattle.spv_ids.specs.Ids.{defines, definition}
use Rattle.spv_typing.specs.Operations.{shape, has_shape}
use Rattle.spv_types.specs.Lookup.{known_word}
use Rattle.spv_values.specs.Values.{given_type, is_ints}
use Rattle.spv_usage.specs.Orderings.{known_integer}

found_first : {X : Type 0} (p : X → Bool) (b : Bool) (y x : X) (rest : Option X) → p y ≡ b → cond b (Some y) rest ≡ Some x → (rest ≡ Some x → p x ≡ true) → p x ≡ true
found_first p true y x rest h e later = let same : y ≡ x = cc in ap p (sym same) ∙ h
found_first p false y x rest h e later = later e

-- what is found passes; induction on the elements
find_passes : {X : Type 0} (p : X → Bool) (xs : List X) (x : X) → find p xs ≡ Some x → p x ≡ true
find_passes p [] x e = cc
find_passes p (y ∷ ys) x e = found_first p (p y) y x (find p ys) refl e (λ h. find_passes p ys x h)

id_of : (id : ℕ) (word : Option ℕ) → option_map_or (nat_eq id) word false ≡ true → word ≡ Some id
id_of id None h = cc
id_of id (Some n) h = ap Some (sym (eqb-true id n h))

-- the shape that a definition gives
ints_of : List Instruction → Option Instruction → Bool
ints_of insts found = has_shape false 1 (option_and_then (shape insts) (option_and_then given_type found))

undefined : (insts : List Instruction) (id : ℕ) → definition insts id ≡ None → is_ints insts 1 id ≡ true → ⊥
unfolding ints_of
undefined insts id e h = let f : false ≡ true = sym (ap (ints_of insts) e) ∙ h in cc

-- a definition of an integer defines that id
defined_by : (insts : List Instruction) (id : ℕ) (found : Option Instruction) → definition insts id ≡ found → is_ints insts 1 id ≡ true →
    option_and_then (word_with is_defined_id) found ≡ Some id
defined_by insts id None e h = absurd (undefined insts id e h)
defined_by insts id (Some i) e h = id_of id (word_with is_defined_id i) (find_passes (defines id) insts i e)

when_integer : (b : Bool) (word : Option ℕ) → b ≡ true → word ≡ cond b word None
when_integer true word h = refl
when_integer false word h = cc

-- the word of a constant that is an integer
pub integer-of : (insts : List Instruction) (id known : ℕ) (word : Option ℕ) → is_ints insts 1 id ≡ true →
    Some known ≡ option_and_then (word_with is_defined_id) (definition insts id) → word ≡ known_word insts known 0 → word ≡ known_integer insts id
unfolding known_integer
integer-of insts id known word ints e f =
    let both : Some known ≡ Some id = e ∙ defined_by insts id (definition insts id) refl ints in
    let same : known ≡ id = cc in
    f ∙ ap (λ (n : ℕ). known_word insts n 0) same ∙ when_integer (is_ints insts 1 id) (known_word insts id 0) ints

-- an integer is defined
pub integer-defined : (insts : List Instruction) (id : ℕ) → is_ints insts 1 id ≡ true → None ≡ option_and_then (word_with is_defined_id) (definition insts id) → ⊥
integer-defined insts id ints e =
    let both : None ≡ Some id = e ∙ defined_by insts id (definition insts id) refl ints in
    cc

pub integer-none : (insts : List Instruction) (id : ℕ) → is_ints insts 1 id ≡ false → None ≡ known_integer insts id
unfolding known_integer
integer-none insts id h = rw h refl

-- whether an id is an integer, told of the same module
pub ints-told : (insts kinds : List Instruction) (id : ℕ) (told answer : Bool) → kinds ≡ insts → told ≡ is_ints kinds 1 id → told ≡ answer → is_ints insts 1 id ≡ answer
ints-told insts kinds id told answer same is a = sym (ap (λ (all : List Instruction). is_ints all 1 id) same) ∙ sym is ∙ a
