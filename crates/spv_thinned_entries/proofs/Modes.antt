-- Entry points and their modes are kept, and so is the decoration that makes a constant the size of workgroups.
use Rattle.std.proofs.Common.{◌≡◌, ℕ, Bool, true, false, cond, ◌==◌, ◌&&◌, ◌||◌, List, [], ◌∷◌, Option, Some, None, refl, sym, ap, ◌∙◌, true≢false}
use Rattle.std.specs.List.{AllByRecursion, slice_index}
use Rattle.spv_opcodes.specs.declared.op.TheConstants as op
use Rattle.spv_opcodes.specs.declared.execution_mode.TheConstants as execution_mode
use Rattle.spv_module.specs.Instruction.{Instruction, opcode}
use Rattle.spv_module.specs.Layout.{is_entry_point}
use Rattle.spv_entries.specs.Sizes.{entry_function, id_function, is_mode, literal_function, names}
use Rattle.spv_repeats.specs.Repeats.{is_workgroup_size}
use Rattle.spv_thinned.proofs.Walk.{each_at}
use Rattle.spv_thinned_entries.proofs.Cases.{Thinning}
use Rattle.spv_thinned_entries.proofs.Kept.{Misses}

-- ---- what names the functions of entry points

or_parts : (a b : Bool) → (a || b) ≡ false → (a ≡ false) × (b ≡ false)
or_parts true b h = absurd (cc h)
or_parts false b h = (refl, h)

-- no entry point and no mode
pub record IsPlain (i : Instruction) : Type 0 where
  pub entry : is_entry_point i ≡ false
  pub mode : (opcode i == op.EXECUTION_MODE) ≡ false
  pub by_ids : (opcode i == op.EXECUTION_MODE_ID) ≡ false

all_also : (P Q : Instruction → Type 0) (is : List Instruction) → ((i : Instruction) → P i → Q i) → AllByRecursion P is → AllByRecursion Q is
all_also P Q [] h a = tt
all_also P Q (i ∷ is) h a = (h i a.0, all_also P Q is h a.1)

module _ (t : Thinning) where
  abbrev Lasts : Instruction → Type 0
  Lasts i = (is_entry_point i || (is_mode i || is_workgroup_size i)) ≡ true → t.keep i ≡ true

  abbrev DropsPlain : Instruction → Type 0
  DropsPlain i = t.keep i ≡ false → IsPlain i

  drops_plain : (i : Instruction) → Lasts i → DropsPlain i
  drops_plain i h e = by (is_entry_point i || (is_mode i || is_workgroup_size i)) refl
    where
      by : (b : Bool) → (is_entry_point i || (is_mode i || is_workgroup_size i)) ≡ b → IsPlain i
      by true g = absurd (true≢false (sym (h g) ∙ e))
      by false g =
          let a = or_parts (is_entry_point i) (is_mode i || is_workgroup_size i) g in
          let m = or_parts (is_mode i) (is_workgroup_size i) a.1 in
          let b = or_parts (opcode i == op.EXECUTION_MODE) (opcode i == op.EXECUTION_MODE_ID) m.0 in
          record { entry = a.0; mode = b.0; by_ids = b.1 }

  -- none of the others is dropped
  pub plain_dropped : AllByRecursion DropsPlain t.before
  plain_dropped = all_also Lasts DropsPlain t.before drops_plain (each_at Lasts t.before t.keeps_entries)

  abbrev pub MissesOf : (Instruction → Option ℕ) → (f : ℕ) → Type 0
  MissesOf kind f = AllByRecursion (Misses t.keep (λ i. names (kind i) f)) t.before

  pub missing : (kind : Instruction → Option ℕ) (f : ℕ) → ((i : Instruction) → IsPlain i → names (kind i) f ≡ false) → MissesOf kind f
  missing kind f h = all_also DropsPlain (Misses t.keep (λ i. names (kind i) f)) t.before (λ i d e. h i (d e)) plain_dropped

  pub entry_missing : (f : ℕ) → MissesOf entry_function f
  entry_missing f = missing entry_function f (λ i p. ap (λ (b : Bool). names (cond b (Some (slice_index i.words 2)) None) f) p.entry)

  pub literal_misses : (i : Instruction) (f : ℕ) → IsPlain i → names (literal_function i) f ≡ false
  literal_misses i f p = ap (λ (b : Bool). names (cond (b && slice_index i.words 2 == execution_mode.LOCAL_SIZE) (Some (slice_index i.words 1)) None) f) p.mode

  pub id_misses : (i : Instruction) (f : ℕ) → IsPlain i → names (id_function i) f ≡ false
  id_misses i f p = ap (λ (b : Bool). names (cond (b && slice_index i.words 2 == execution_mode.LOCAL_SIZE_ID) (Some (slice_index i.words 1)) None) f) p.by_ids

  pub literal_missing : (f : ℕ) → MissesOf literal_function f
  literal_missing f = missing literal_function f (λ i. literal_misses i f)

  pub id_missing : (f : ℕ) → MissesOf id_function f
  id_missing f = missing id_function f (λ i. id_misses i f)

  -- what makes a constant the size of workgroups is kept
  pub size_kept : AllByRecursion (λ i. is_workgroup_size i ≡ true → t.keep i ≡ true) t.before
  size_kept = all_also Lasts (λ i. is_workgroup_size i ≡ true → t.keep i ≡ true) t.before (λ i h g. h (or_last (is_entry_point i) (is_mode i) (is_workgroup_size i) g)) (each_at Lasts t.before t.keeps_entries)
    where
      or_last : (a b c : Bool) → c ≡ true → (a || (b || c)) ≡ true
      or_last true b c h = refl
      or_last false true c h = refl
      or_last false false c h = h
