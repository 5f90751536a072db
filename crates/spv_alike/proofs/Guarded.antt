-- Behind a test that is the same in both, what need be the same only where the test passes. And vectors and what pointers point to, which are read so.
use Rattle.std.proofs.Common.{◌≡◌, ℕ, Bool, true, false, cond, ◌&&◌, List, Option, Some, None, refl, ap, ap₂, ◌∙◌}
use Rattle.std.proofs.Math.Path.{fun_ext}
use Rattle.std.specs.Option.{option_and_then, option_map, option_map_or}
use Rattle.spv_module.specs.Instruction.{Instruction}
use Rattle.spv_typing.specs.Kinds.{is_vector, is_pointer, pointee, pointer_class}
use Rattle.spv_values.specs.Values.{value_type, pointer_type}
use Rattle.spv_composites.specs.Memory.{target_of}
use Rattle.spv_composites.specs.Vectors.{as_vector, vector_type}
use Rattle.spv_usage.specs.Storage.{class_of}
use Rattle.spv_alike.specs.Alike.{AreAlike}
use Rattle.spv_alike.proofs.Lookups.{same_vector, same_pointee, same_pointer_class, same_pointer_type}

pub on : {A : Type 0} (b c : Bool) (x y z w : A) → b ≡ c → (c ≡ true → x ≡ y) → z ≡ w → cond b x z ≡ cond c y w
on b true x y z w e p q = ap (λ (t : Bool). cond t x z) e ∙ p refl
on b false x y z w e p q = ap (λ (t : Bool). cond t x z) e ∙ q

pub and_on : (b c x y : Bool) → b ≡ c → (c ≡ true → x ≡ y) → (b && x) ≡ (c && y)
and_on b true x y e p = ap (λ (t : Bool). t && x) e ∙ p refl
and_on b false x y e p = ap (λ (t : Bool). t && x) e

-- a branch by one test
pub branch : {A : Type 0} (b : Bool) (x y z w : A) → x ≡ y → z ≡ w → cond b x z ≡ cond b y w
branch b x y z w p q = ap₂ (cond b) p q

-- what passes a test
abbrev pub passing : (ℕ → Bool) → Option ℕ → Option ℕ
passing test o = option_and_then (λ t. cond (test t) (Some t) None) o

passed : {A : Type 0} (f g : ℕ → A) (z : A) (t : ℕ) (b : Bool) → (b ≡ true → f t ≡ g t) →
    option_map_or f (cond b (Some t) None) z ≡ option_map_or g (cond b (Some t) None) z
passed f g z t true h = h refl
passed f g z t false h = refl

pub passing_or : {A : Type 0} (test : ℕ → Bool) (f g : ℕ → A) (z : A) → ((t : ℕ) → test t ≡ true → f t ≡ g t) → (o : Option ℕ) →
    option_map_or f (passing test o) z ≡ option_map_or g (passing test o) z
passing_or test f g z h None = refl
passing_or test f g z h (Some t) = passed f g z t (test t) (h t)

mapped : {A : Type 0} (f g : ℕ → A) (t : ℕ) (b : Bool) → (b ≡ true → f t ≡ g t) → option_map f (cond b (Some t) None) ≡ option_map g (cond b (Some t) None)
mapped f g t true h = ap Some (h refl)
mapped f g t false h = refl

pub passing_map : {A : Type 0} (test : ℕ → Bool) (f g : ℕ → A) → ((t : ℕ) → test t ≡ true → f t ≡ g t) → (o : Option ℕ) →
    option_map f (passing test o) ≡ option_map g (passing test o)
passing_map test f g h None = refl
passing_map test f g h (Some t) = mapped f g t (test t) (h t)

module _ (before after : List Instruction) (alike : AreAlike before after) where
  pub same_as_vector : (t : ℕ) → as_vector after t ≡ as_vector before t
  same_as_vector t = ap (λ (b : Bool). cond b (Some t) None) (same_vector before after alike t)

  pub same_vector_type : (id : ℕ) → vector_type after id ≡ vector_type before id
  same_vector_type id = ap₂ (λ (f : ℕ → Option ℕ) (o : Option ℕ). option_and_then f o) (fun_ext same_as_vector) (alike.values id)

  -- what is read of the type of a vector
  pub by_vector : {A : Type 0} (f g : ℕ → A) (z : A) → ((t : ℕ) → is_vector before t ≡ true → f t ≡ g t) → (id : ℕ) →
      option_map_or f (vector_type after id) z ≡ option_map_or g (vector_type before id) z
  by_vector f g z h id =
      ap (λ (o : Option ℕ). option_map_or f o z) (same_vector_type id) ∙ passing_or (is_vector before) f g z h (value_type before id)

  -- what is read of the type of a pointer
  pub by_pointer : {A : Type 0} (f g : ℕ → A) (z : A) → ((t : ℕ) → is_pointer before t ≡ true → f t ≡ g t) → (id : ℕ) →
      option_map_or f (pointer_type after id) z ≡ option_map_or g (pointer_type before id) z
  by_pointer f g z h id =
      ap (λ (o : Option ℕ). option_map_or f o z) (same_pointer_type before after alike id) ∙ passing_or (is_pointer before) f g z h (value_type before id)

  pub same_target : (id : ℕ) → target_of after id ≡ target_of before id
  same_target id =
      ap (option_map (pointee after)) (same_pointer_type before after alike id)
      ∙ passing_map (is_pointer before) (pointee after) (pointee before) (same_pointee before after alike) (value_type before id)

  pub same_class_of : (id : ℕ) → class_of after id ≡ class_of before id
  same_class_of id =
      ap (option_map (pointer_class after)) (same_pointer_type before after alike id)
      ∙ passing_map (is_pointer before) (pointer_class after) (pointer_class before) (same_pointer_class before after alike) (value_type before id)
