-- What the tables tell of an id, by what is kept of it.
use Rattle.std.proofs.Common.{◌≡◌, ℕ, ◌+◌, Bool, true, false, cond, List, slice_get, Option, Some, None, refl, sym, ap, subst, ◌∙◌}
use Rattle.std.specs.Prelude.{nat_eq}
use Rattle.std.specs.Map.{lookup}
use Rattle.std.specs.Option.{option_map}
use Rattle.spv_module.specs.Instruction.{Instruction}
use Rattle.spv_meaning.specs.Constants.{Table, Meaning, IsType, IsPointer, IsConstant, IsVariable, meaning, words_in}
use Rattle.spv_meaning.specs.Meanings.{constant_words}
use Rattle.spv_meaning.specs.Types.{DataType, cells}
use Rattle.spv_typing.specs.Kinds.{is_one_of}
use Rattle.spv_declarations.specs.Laws.{meanings}
use Rattle.spv_declarations.proofs.Whole.{declared-whole}
use Rattle.spv_types.specs.declared.meaning.Kept.{Kept}
use Rattle.spv_types.specs.declared.meaning.Kept.TheVariants as kept
use Rattle.spv_types.specs.declared.meaning.ConstKind.{ConstKind}
use Rattle.spv_types.specs.declared.meaning.ConstKind.TheVariants as kinds
use Rattle.spv_types.specs.declared.facts.TypeFacts.{TypeFacts}
use Rattle.spv_types.specs.Facts.{facts, in_64_bits}
use Rattle.spv_types.specs.Lookup.{specialised, kind_in, kind_of_kept, word_in, cells_in}
use Rattle.spv_types.specs.Meanings.{StandFor, constant_of_kept}
use Rattle.spv_types.specs.Whole.{HasMeanings}
use Rattle.spv_types.proofs.Standing.{AreAlike, AreAlikeEntries, StandFrom-lookup, StandFrom-at}

kind_alike : (table : Table) (ids : List ℕ) (r : ℕ) (k : Option Kept) (m : Option Meaning) → AreAlike table ids r k m →
    kind_of_kept (constant_of_kept k) ≡ kind_in (is_one_of ids r) (constant_words m)
kind_alike table ids r None None h = refl
kind_alike table ids r None (Some m) h = absurd h
kind_alike table ids r (Some k) None h = absurd h
kind_alike table ids r (Some (kept.Type f)) (Some (IsType t)) h = refl
kind_alike table ids r (Some (kept.Type f)) (Some (IsPointer class t)) h = absurd h.1
kind_alike table ids r (Some (kept.Type f)) (Some (IsConstant t words)) h = absurd h.1
kind_alike table ids r (Some (kept.Type f)) (Some (IsVariable class t words)) h = absurd h.1
kind_alike table ids r (Some (kept.Pointer f)) (Some (IsType t)) h = absurd h.1
kind_alike table ids r (Some (kept.Pointer f)) (Some (IsPointer class t)) h = refl
kind_alike table ids r (Some (kept.Pointer f)) (Some (IsConstant t words)) h = absurd h.1
kind_alike table ids r (Some (kept.Pointer f)) (Some (IsVariable class t words)) h = absurd h.1
kind_alike table ids r (Some (kept.Constant c)) (Some (IsType t)) h = absurd h.1
kind_alike table ids r (Some (kept.Constant c)) (Some (IsPointer class t)) h = absurd h.1
kind_alike table ids r (Some (kept.Constant c)) (Some (IsConstant t words)) h =
    ap (λ (b : Bool). cond b kinds.Specialised kinds.Known) h.1.1.1
kind_alike table ids r (Some (kept.Constant c)) (Some (IsVariable class t words)) h = absurd h.1
kind_alike table ids r (Some kept.Variable) (Some (IsType t)) h = absurd h.1
kind_alike table ids r (Some kept.Variable) (Some (IsPointer class t)) h = absurd h.1
kind_alike table ids r (Some kept.Variable) (Some (IsConstant t words)) h = absurd h.1
kind_alike table ids r (Some kept.Variable) (Some (IsVariable class t words)) h = refl

-- what is kept of an id says what kind of a constant it is
pub kind_kept : (table : Table) (ids : List ℕ) (ks : List (ℕ × Kept)) (id : ℕ) → StandFor table ids ks →
    kind_of_kept (constant_of_kept (lookup (nat_eq id) ks)) ≡ kind_in (is_one_of ids id) (constant_words (meaning table id))
kind_kept table ids ks id h = kind_alike table ids id (lookup (nat_eq id) ks) (meaning table id) (StandFrom-lookup table ids 0 ks table h id)

id_alike : (table : Table) (ids : List ℕ) (n : ℕ) (k : Option (ℕ × Kept)) (t : Option (ℕ × Meaning)) → AreAlikeEntries table ids n k t →
    option_map (λ (e : ℕ × Kept). e.0) k ≡ option_map (λ (e : ℕ × Meaning). e.0) t
id_alike table ids n None None h = refl
id_alike table ids n None (Some t) h = absurd h
id_alike table ids n (Some k) None h = absurd h
id_alike table ids n (Some k) (Some t) h = ap Some h.0

-- entries are of the same ids
pub id_kept : (table : Table) (ids : List ℕ) (ks : List (ℕ × Kept)) (n : ℕ) → StandFor table ids ks →
    option_map (λ (e : ℕ × Kept). e.0) (slice_get ks n) ≡ option_map (λ (e : ℕ × Meaning). e.0) (slice_get table n)
id_kept table ids ks n h = id_alike table ids (0 + n) (slice_get ks n) (slice_get table n) (StandFrom-at table ids 0 ks table h n)

-- what is kept of a whole module stands for the meanings of its ids
pub whole_stands : (insts decorations : List Instruction) (ks : List (ℕ × Kept)) → HasMeanings insts decorations ks → StandFor (meanings insts) (specialised insts) ks
whole_stands insts decorations ks h = subst (λ (table : Table). StandFor table (specialised insts) ks) (declared-whole insts) h.stand

-- the word of a Known constant
pub known_is : (k : ℕ) (kind : ConstKind) (m : Option Meaning) → kind ≡ kinds.Known → (b : Bool) → kind ≡ kind_in b (constant_words m) →
    slice_get (words_in m) k ≡ word_in (kind_in b (constant_words m)) (constant_words m) k
known_is k kind None known b e = refl
known_is k kind (Some (IsType t)) known b e = refl
known_is k kind (Some (IsPointer class t)) known b e = refl
known_is k kind (Some (IsVariable class t words)) known b e = refl
known_is k kind (Some (IsConstant t words)) known false e = refl
known_is k kind (Some (IsConstant t words)) known true e = absurd (differ (sym known ∙ e))
  where
    differ : kinds.Known ≡ kinds.Specialised → ⊥
    differ h = cc

-- no word of another
pub specialised_is : (k : ℕ) (kind : ConstKind) (words : Option (List ℕ)) (b : Bool) → kind ≡ kinds.Specialised → kind ≡ kind_in b words →
    None ≡ word_in (kind_in b words) words k
specialised_is k kind words b is e = ap (λ (x : ConstKind). word_in x words k) (sym is ∙ e)

pub no_constant_is : (k : ℕ) (kind : ConstKind) (words : Option (List ℕ)) (b : Bool) → kind ≡ kinds.NotConstant → kind ≡ kind_in b words →
    None ≡ word_in (kind_in b words) words k
no_constant_is k kind words b is e = ap (λ (x : ConstKind). word_in x words k) (sym is ∙ e)

-- what is kept of a type says how many words a value of a data type has
pub cells_are : (f : TypeFacts) (t : DataType) (b : Bool) → f ≡ facts t → f.is_data ≡ b → cond b f.cells None ≡ cells_in t
cells_are f t b e is =
    ap (λ (n : Option ℕ). cond b n None) (ap (λ (g : TypeFacts). g.cells) e)
    ∙ ap (λ (c : Bool). cond c (in_64_bits (cells t)) None) (sym is ∙ ap (λ (g : TypeFacts). g.is_data) e)
