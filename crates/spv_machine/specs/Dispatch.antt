-- Dispatches: what is run, how often, and on what.
use Rattle.std.specs.Prelude.{ℕ, ◌*◌, ◌/◌, ◌%◌, ◌^◌, ◌<◌, cond, ◌==◌, ◌&&◌, List, [], ◌∷◌, length, Option, Some, None}
use Rattle.std.specs.List.{AllByRecursion}
pub use Rattle.spv_meaning.specs.Constants.{Specialisation}
use Rattle.spv_machine.specs.Places.{Triple, Memory, Buffer, Uniform, Push, Workgroup, Input, Private, Local}

-- the words of the memory that is bound to a set and binding
pub record Bound : Type 0 where
  pub set : ℕ
  pub binding : ℕ
  pub words : List ℕ

-- the entry point by its name in octets, how many workgroups there are, and what they find
pub record Dispatch : Type 0 where
  pub entry : List ℕ
  pub groups : Triple
  pub specialisation : Specialisation
  pub uniforms : List Bound
  pub push : List ℕ
  pub buffers : List Bound

-- the same dispatch under another specialisation
abbrev pub specialised : Dispatch → Specialisation → Dispatch
specialised d s = record d { specialisation = s }

-- numbers and words are those of 32 bits
abbrev pub AreWords : List ℕ → Type 0
AreWords ws = AllByRecursion (λ w. w < 2 ^ 32) ws

pub record IsBound (b : Bound) : Type 0 where
  pub set : b.set < 2 ^ 32
  pub binding : b.binding < 2 ^ 32
  pub words : AreWords b.words

pub record IsDispatch (d : Dispatch) : Type 0 where
  pub entry : AllByRecursion (λ octet. octet < 2 ^ 8) d.entry
  pub groups : AreWords (d.groups.x ∷ d.groups.y ∷ d.groups.z ∷ [])
  pub specialisation : AllByRecursion (λ (e : ℕ × List ℕ). (e.0 < 2 ^ 32) × AreWords e.1) d.specialisation
  pub uniforms : AllByRecursion IsBound d.uniforms
  pub push : AreWords d.push
  pub buffers : AllByRecursion IsBound d.buffers

-- the words of the memory with a set and binding; of two with one pair the first counts, and one that is not there has no words
abbrev pub words_bound : List Bound → (set binding : ℕ) → List ℕ
words_bound [] set binding = []
words_bound (b ∷ bs) set binding = cond (b.set == set && b.binding == binding) b.words (words_bound bs set binding)

-- how many words a memory has, where it may be too short for an object
abbrev pub size_of : Dispatch → Memory → Option ℕ
size_of d (Buffer set binding) = Some (length (words_bound d.buffers set binding))
size_of d (Uniform set binding) = Some (length (words_bound d.uniforms set binding))
size_of d Push = Some (length d.push)
size_of d (Workgroup group variable) = None
size_of d (Input variable) = None
size_of d (Private variable) = None
size_of d (Local depth variable) = None

-- how many places there are in a grid, and which of them has a number, counted along x, then y, then z
abbrev pub volume : Triple → ℕ
volume t = t.x * t.y * t.z

abbrev pub triple_at : Triple → ℕ → Triple
triple_at t n = record { x = n % t.x; y = n / t.x % t.y; z = n / (t.x * t.y) }

abbrev pub words_of_triple : Triple → List ℕ
words_of_triple t = t.x ∷ t.y ∷ t.z ∷ []
