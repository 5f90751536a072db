-- What the rules on declarations that find nothing say of each instruction, and of what defines an id.
use Rattle.std.proofs.Common.{◌≡◌, ℕ, suc, Bool, true, false, ◌==◌, ◌||◌, List, [], ◌∷◌, drop, take, Option, Some, None, refl, sym, ap, ◌∙◌, arith}
use Rattle.std.specs.List.{list_any, slice_index, slice_get}
use Rattle.std.specs.Option.{option_map_or}
use Rattle.spv_module.specs.Code.{is_function, is_line}
use Rattle.spv_module.specs.Instruction.{Instruction, opcode}
use Rattle.spv_ids.specs.Ids.{defines, definition, kind, place_of, word_of, words_of}
use Rattle.spv_ids.proofs.Places.{find-position}
use Rattle.spv_meaning.specs.Statements.{Statement}
use Rattle.spv_declarations.specs.Declarations.{Declared, declare, declare_all, declared_before, nothing_declared, says}
use Rattle.spv_declarations.specs.Laws.{IsUnbroken}
use Rattle.spv_declarations.proofs.Modules.{unbroken}
use Rattle.spv_declarations.proofs.Unbroken.{Keeps, keeps}
use Rattle.spv_label_uses.proofs.Free.{same_by}

pub kept_at : (insts : List Instruction) → IsUnbroken insts → (k : ℕ) (i : Instruction) → slice_get insts k ≡ Some i → is_line i ≡ false
    → Keeps insts (declared_before insts k) k i
kept_at insts h k i at plain = keeps insts (declared_before insts k) k i plain (unbroken insts (suc k) h.unrefused k i (omega arith) at)

-- ---- whether a function has begun

or_more : (a b c : Bool) → ((a || b) || c) ≡ (a || (b || c))
or_more true b c = refl
or_more false b c = refl

or_none : (a : Bool) → a ≡ (a || false)
or_none true = refl
or_none false = refl

begun_behind : (all : List Statement) (d : Declared) (is : List Instruction) → (declare_all all d is).begun ≡ (d.begun || list_any is_function is)
begun_behind all d [] = or_none d.begun
begun_behind all d (i ∷ is) = begun_behind all (declare all d i) is ∙ or_more d.begun (is_function i) (list_any is_function is)

pub begun_is : (insts : List Instruction) (k : ℕ) → (declared_before insts k).begun ≡ list_any is_function (take k insts)
begun_is insts k = begun_behind (says insts) nothing_declared (take k insts)

-- ---- what defines an id

pub record Defined (insts : List Instruction) (id o : ℕ) : Type 0 where
  pub place : ℕ
  pub inst : Instruction
  pub at : slice_get insts place ≡ Some inst
  pub is_definition : definition insts id ≡ Some inst
  pub is_o : opcode inst ≡ o

-- the first that passes stands somewhere
pub record Stands (insts : List Instruction) (i : Instruction) : Type 0 where
  pub place : ℕ
  pub at : slice_get insts place ≡ Some i

stands_at : (insts : List Instruction) (id : ℕ) (i : Instruction) → definition insts id ≡ Some i → Stands insts i
stands_at insts id i e = by (place_of insts id) (sym (find-position (defines id) insts) ∙ e) where
  by : (place : Option ℕ) → option_map_or (slice_get insts) place None ≡ Some i → Stands insts i
  by None h = absurd (cc h)
  by (Some k) h = record { place = k; at = h }

pub defined : (insts : List Instruction) (id o : ℕ) → (o == 0) ≡ false → (kind insts id == o) ≡ true → Defined insts id o
defined insts id o some h = by (definition insts id) refl h where
  by : (d : Option Instruction) → definition insts id ≡ d → (option_map_or opcode d 0 == o) ≡ true → Defined insts id o
  by None e h = let same : 0 ≡ o = same_by 0 o h in absurd (cc (ap (λ n. n == 0) same ∙ some))
  by (Some d) e h =
      let s = stands_at insts id d e in
      record { place = s.place; inst = d; at = s.at; is_definition = e; is_o = same_by (opcode d) o h }

pub word_is : (insts : List Instruction) (id o n : ℕ) (d : Defined insts id o) → word_of insts id n ≡ slice_index d.inst.words n
word_is insts id o n d = ap (λ (i : Option Instruction). option_map_or (λ (i : Instruction). slice_index i.words n) i 0) d.is_definition

pub words_are : (insts : List Instruction) (id o n : ℕ) (d : Defined insts id o) → words_of insts id n ≡ drop n d.inst.words
words_are insts id o n d = ap (λ (i : Option Instruction). option_map_or (λ (i : Instruction). drop n i.words) i []) d.is_definition
