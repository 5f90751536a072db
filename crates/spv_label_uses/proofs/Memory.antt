-- What instructions on memory need.
use Rattle.std.proofs.Common.{◌≡◌, ℕ, ◌+◌, Bool, true, false, cond, not, ◌==◌, ◌&&◌, List, [], ◌∷◌, length, drop, Option, Some, None, refl, sym, ap, ◌∙◌}
use Rattle.std.specs.List.{list_all, slice_index}
use Rattle.std.specs.Option.{is_some, option_and_then, option_map, option_map_or}
use Rattle.std.proofs.lemmas.Bool.{and_parts, not-true}
use Rattle.spv_opcodes.specs.declared.op.TheConstants as op
use Rattle.spv_grammar.specs.Table.{row_of}
use Rattle.spv_module.specs.Instruction.{Instruction, IsInstruction, opcode, roles}
use Rattle.spv_ids.specs.Ids.{word_of}
use Rattle.spv_typing.specs.Kinds.{is_one_of, is_int, is_pointer, is_closed, ends_open, members, pointer_class, pointee}
use Rattle.spv_typing.specs.Operations.{leads_to, part_behind}
use Rattle.spv_types.specs.Lookup.{known_word}
use Rattle.spv_values.specs.Values.{pointer_type, is_value_of, is_ints}
use Rattle.spv_composites.specs.Memory.{target_of, has_runtime_array, loads, stores, part_picked, chain_along, chain_target, has_class, is_chain_to, measures, is_unsigned, acts, atomics, memory_operands_fit, atomic_operands_fit, memory_result_fits, atomic_result_fits}
use Rattle.spv_usage.specs.Orderings.{known_integer, is_execution_scope, is_memory_scope, are_semantics, execution_fits, scope_fits, semantics_fit, access_fits, ordering_fits}
use Rattle.spv_usage.specs.Storage as storage
use Rattle.spv_label_uses.proofs.Covered.{used_by_row}
use Rattle.spv_label_uses.proofs.Free.{same_by, one_passes, all_2, all_3, all_cons, all_weaker, is_free, free_kind, free_closed, free_value_of, free_ints, free_pointer}
use Rattle.spv_label_uses.proofs.Fronts.{MayNeedFront, needs_front}
use Rattle.spv_label_uses.proofs.Groups.{AllOf, also}
use Rattle.spv_label_uses.proofs.Parts.{leads_somewhere}
use Rattle.spv_label_uses.proofs.Types.{NeedsFree}

-- ---- pointers

mapped : (insts : List Instruction) (found : Option ℕ) → is_some (option_map (pointee insts) found) ≡ true → is_some found ≡ true
mapped insts None h = h
mapped insts (Some t) h = refl

free_target : (insts : List Instruction) (id : ℕ) → is_some (target_of insts id) ≡ true → is_free insts id ≡ true
free_target insts id h = free_pointer insts id (mapped insts (pointer_type insts id) h)

if_some : (p : ℕ → Bool) (found : Option ℕ) → option_map_or p found false ≡ true → is_some found ≡ true
if_some p None h = absurd (cc h)
if_some p (Some x) h = refl

made_some : {X : Type 0} (f : ℕ → Option X) (found : Option ℕ) → is_some (option_and_then f found) ≡ true → is_some found ≡ true
made_some f None h = absurd (cc h)
made_some f (Some x) h = refl

pub load_needs : (insts : List Instruction) (i : Instruction) → IsInstruction i.words (roles i) → opcode i ≡ op.LOAD
    → memory_operands_fit insts i ≡ true → memory_result_fits insts i ≡ true → NeedsFree insts i
unfolding row_of memory_operands_fit memory_result_fits
load_needs insts i whole e h k =
    let t : ℕ = slice_index i.words 1 in
    let p : ℕ = slice_index i.words 3 in
    let fits : loads insts (slice_index i.words 1) (slice_index i.words 3) ≡ true = rw e at h in
    let gives : is_closed insts (slice_index i.words 1) ≡ true = rw e at k in
    let leads = (and_parts (leads_to t (target_of insts p)) (not (has_runtime_array insts t)) fits).0 in
    used_by_row (is_free insts) i op.LOAD whole e refl
    (all_2 (is_free insts) t p (free_closed insts t gives) (free_target insts p (leads_somewhere t (target_of insts p) leads)))

stored_free : (insts : List Instruction) (p v : ℕ) → stores insts p v ≡ true → (is_free insts p ≡ true) × (is_free insts v ≡ true)
stored_free insts p v h = by (target_of insts p) refl h where
  by : (u : Option ℕ) → target_of insts p ≡ u → option_map_or (λ u. is_value_of insts u v) u false ≡ true
      → (is_free insts p ≡ true) × (is_free insts v ≡ true)
  by None e h = absurd (cc h)
  by (Some u) e h = (free_target insts p (ap is_some e), free_value_of insts u v h)

pub store_needs : (insts : List Instruction) (i : Instruction) → IsInstruction i.words (roles i) → opcode i ≡ op.STORE → memory_operands_fit insts i ≡ true
    → NeedsFree insts i
unfolding row_of memory_operands_fit
store_needs insts i whole e h =
    let fits : stores insts (slice_index i.words 1) (slice_index i.words 2) ≡ true = rw e at h in
    let both = stored_free insts (slice_index i.words 1) (slice_index i.words 2) fits in
    used_by_row (is_free insts) i op.STORE whole e refl (all_2 (is_free insts) (slice_index i.words 1) (slice_index i.words 2) both.0 both.1)

-- induction on the indexes
indexes_free : (insts : List Instruction) (indexes : List ℕ) (t : ℕ) → is_some (chain_along insts indexes t) ≡ true → list_all (is_free insts) indexes ≡ true
indexes_free insts [] t h = refl
indexes_free insts (index ∷ rest) t h = by (is_ints insts 1 index) refl h (λ u k. indexes_free insts rest u k) where
  behind : (part : Option ℕ) → is_ints insts 1 index ≡ true → is_some (part_behind (chain_along insts rest) part) ≡ true
      → ((u : ℕ) → is_some (chain_along insts rest u) ≡ true → list_all (is_free insts) rest ≡ true) → list_all (is_free insts) (index ∷ rest) ≡ true
  behind None e h more = absurd (cc h)
  behind (Some u) e h more = all_cons (is_free insts) index rest (free_ints insts 1 index e) (more u h)

  by : (b : Bool) → is_ints insts 1 index ≡ b → is_some (part_behind (chain_along insts rest) (cond b (part_picked insts t index) None)) ≡ true
      → ((u : ℕ) → is_some (chain_along insts rest u) ≡ true → list_all (is_free insts) rest ≡ true) → list_all (is_free insts) (index ∷ rest) ≡ true
  by true e h more = behind (part_picked insts t index) e h more
  by false e h more = absurd (cc h)

abbrev pub chains : List ℕ
chains = op.ACCESS_CHAIN ∷ op.IN_BOUNDS_ACCESS_CHAIN ∷ []

abbrev chain_uses : List ℕ → List ℕ
chain_uses words = slice_index words 1 ∷ slice_index words 3 ∷ drop 4 words

chain_rows : AllOf (MayNeedFront 3 chain_uses) chains
unfolding row_of
chain_rows = also (λ ws. refl) (also (λ ws. refl) tt)

-- an opcode of a list is not another one
differs : (os : List ℕ) (other o : ℕ) → list_all (λ o. not (o == other)) os ≡ true → is_one_of os o ≡ true → (o == other) ≡ false
differs os other o apart m = not-true (o == other) (one_passes (λ o. not (o == other)) os o apart m)

chained : (insts : List Instruction) (base : ℕ) (indexes : List ℕ) → is_some (chain_target insts base indexes) ≡ true
    → list_all (is_free insts) (base ∷ indexes) ≡ true
chained insts base indexes h = by (target_of insts base) refl h where
  by : (t : Option ℕ) → target_of insts base ≡ t → is_some (option_and_then (chain_along insts indexes) t) ≡ true
      → list_all (is_free insts) (base ∷ indexes) ≡ true
  by None e h = absurd (cc h)
  by (Some t) e h = all_cons (is_free insts) base indexes (free_target insts base (ap is_some e)) (indexes_free insts indexes t h)

pub chain_needs : (insts : List Instruction) (i : Instruction) → IsInstruction i.words (roles i) → is_one_of chains (opcode i) ≡ true
    → memory_operands_fit insts i ≡ true → memory_result_fits insts i ≡ true → NeedsFree insts i
unfolding memory_operands_fit memory_result_fits
chain_needs insts i whole m h k =
    let t : ℕ = slice_index i.words 1 in
    let base : ℕ = slice_index i.words 3 in
    let no_load = differs chains op.LOAD (opcode i) refl m in
    let no_store = differs chains op.STORE (opcode i) refl m in
    let fits : is_some (chain_target insts (slice_index i.words 3) (drop 4 i.words)) ≡ true = rw (no_load, no_store, m) at h in
    let gives : is_chain_to insts (slice_index i.words 1) (slice_index i.words 3) (drop 4 i.words) ≡ true = rw (no_load, m) at k in
    let pointer = (and_parts (is_pointer insts t) (has_class insts (pointer_class insts t) base && leads_to (pointee insts t)
    (chain_target insts base (drop 4 i.words))) gives).0 in
    needs_front (is_free insts) chains 3 chain_uses chain_rows refl i whole m
    (all_cons (is_free insts) t (base ∷ drop 4 i.words) (free_kind insts t op.TYPE_POINTER pointer refl) (chained insts base (drop 4 i.words) fits))

pub length_needs : (insts : List Instruction) (i : Instruction) → IsInstruction i.words (roles i) → opcode i ≡ op.ARRAY_LENGTH
    → memory_operands_fit insts i ≡ true → memory_result_fits insts i ≡ true → NeedsFree insts i
unfolding row_of memory_operands_fit memory_result_fits
length_needs insts i whole e h k =
    let t : ℕ = slice_index i.words 1 in
    let p : ℕ = slice_index i.words 3 in
    let fits : measures insts (slice_index i.words 3) (slice_index i.words 4) ≡ true = rw e at h in
    let gives : is_unsigned insts (slice_index i.words 1) ≡ true = rw e at k in
    used_by_row (is_free insts) i op.ARRAY_LENGTH whole e refl
    (all_2 (is_free insts) t p (free_kind insts t op.TYPE_INT (and_parts (is_int insts t) (word_of insts t 3 == 0) gives).0 refl)
    (free_target insts p (if_some (λ u. ends_open insts u && slice_index i.words 4 + 1 == length (members insts u)) (target_of insts p) fits)))

-- ---- scopes and semantics

integer_free : (insts : List Instruction) (id : ℕ) → is_some (known_integer insts id) ≡ true → is_free insts id ≡ true
unfolding known_integer
integer_free insts id h = by (is_ints insts 1 id) refl h where
  by : (b : Bool) → is_ints insts 1 id ≡ b → is_some (cond b (known_word insts id 0) None) ≡ true → is_free insts id ≡ true
  by true e h = free_ints insts 1 id e
  by false e h = absurd (cc h)

access_free : (insts : List Instruction) (s m : ℕ) → access_fits insts s m ≡ true → (is_free insts s ≡ true) × (is_free insts m ≡ true)
access_free insts s m h =
    let both = and_parts (scope_fits insts s) (semantics_fit insts m) h in (
      integer_free insts s (if_some is_memory_scope (known_integer insts s) both.0),
      integer_free insts m
          (if_some are_semantics (known_integer insts m) both.1),
    )

pub control_barrier_needs : (insts : List Instruction) (i : Instruction) → IsInstruction i.words (roles i) → opcode i ≡ op.CONTROL_BARRIER
    → ordering_fits insts i ≡ true
    → NeedsFree insts i
unfolding row_of ordering_fits
control_barrier_needs insts i whole e h =
    let x : ℕ = slice_index i.words 1 in
    let fits : (execution_fits insts (slice_index i.words 1) && access_fits insts (slice_index i.words 2) (slice_index i.words 3)) ≡ true = rw e at h in
    let both = and_parts (execution_fits insts x) (access_fits insts (slice_index i.words 2) (slice_index i.words 3)) fits in
    let access = access_free insts (slice_index i.words 2) (slice_index i.words 3) both.1 in
    used_by_row (is_free insts) i op.CONTROL_BARRIER whole e refl
    (all_3 (is_free insts) x (slice_index i.words 2) (slice_index i.words 3)
    (integer_free insts x (if_some is_execution_scope (known_integer insts x) both.0))
    access.0 access.1)

pub memory_barrier_needs : (insts : List Instruction) (i : Instruction) → IsInstruction i.words (roles i) → opcode i ≡ op.MEMORY_BARRIER
    → ordering_fits insts i ≡ true
    → NeedsFree insts i
unfolding row_of ordering_fits
memory_barrier_needs insts i whole e h =
    let fits : access_fits insts (slice_index i.words 1) (slice_index i.words 2) ≡ true = rw e at h in
    let access = access_free insts (slice_index i.words 1) (slice_index i.words 2) fits in
    used_by_row (is_free insts) i op.MEMORY_BARRIER whole e refl (all_2 (is_free insts) (slice_index i.words 1) (slice_index i.words 2) access.0 access.1)

-- ---- atomics

-- the pointer, the values, and what it points to
record Acted (insts : List Instruction) (p : ℕ) (vs : List ℕ) : Type 0 where
  pointer : is_free insts p ≡ true
  values : list_all (is_free insts) vs ≡ true
  target : (t : ℕ) → leads_to t (target_of insts p) ≡ true → is_free insts t ≡ true

acted : (insts : List Instruction) (p : ℕ) (vs : List ℕ) → acts insts p vs ≡ true → Acted insts p vs
acted insts p vs h = by (target_of insts p) refl h where
  by : (u : Option ℕ) → target_of insts p ≡ u → option_map_or (λ u. is_int insts u && list_all (is_value_of insts u) vs) u false ≡ true → Acted insts p vs
  by None e h = absurd (cc h)
  by (Some u) e h =
      let both = and_parts (is_int insts u) (list_all (is_value_of insts u) vs) h in
      record {
        pointer = free_target insts p (ap is_some e);
        values = all_weaker (is_value_of insts u) (is_free insts) vs (free_value_of insts u) both.1;
        target = λ t k. ap (is_free insts) (sym (same_by u t (sym (ap (leads_to t) e) ∙ k))) ∙ free_kind insts u op.TYPE_INT both.0 refl;
      }

abbrev atomic_uses : List ℕ → List ℕ
atomic_uses words = slice_index words 1 ∷ slice_index words 3 ∷ slice_index words 4 ∷ slice_index words 5 ∷ drop 6 words

atomic_rows : AllOf (MayNeedFront 5 atomic_uses) atomics
unfolding row_of
atomic_rows =
    also (λ ws. refl) (also (λ ws. refl) (also (λ ws. refl) (also (λ ws. refl) (also (λ ws. refl) (also (λ ws. refl) (also (λ ws. refl)
    (also (λ ws. refl) (also (λ ws. refl) (also (λ ws. refl) (also (λ ws. refl)
    (also (λ ws. refl) (also (λ ws. refl) tt))))))))))))

-- the scope and the semantics of an atomic with a result
atomic_access : (insts : List Instruction) (i : Instruction) → is_one_of atomics (opcode i) ≡ true → ordering_fits insts i ≡ true
    → access_fits insts (slice_index i.words 4) (slice_index i.words 5) ≡ true
unfolding ordering_fits
atomic_access insts i m h =
    let no_barrier = differs atomics op.CONTROL_BARRIER (opcode i) refl m in
    let no_memory_barrier = differs atomics op.MEMORY_BARRIER (opcode i) refl m in
    let no_store = differs atomics op.ATOMIC_STORE (opcode i) refl m in
    let no_exchange = differs atomics op.ATOMIC_COMPARE_EXCHANGE (opcode i) refl m in
    let is_ordered = one_passes (is_one_of storage.atomics) atomics (opcode i) refl m in
    rw (is_ordered, no_barrier, no_memory_barrier, no_store, no_exchange) at h

atomic_acts : (insts : List Instruction) (i : Instruction) → is_one_of atomics (opcode i) ≡ true → atomic_operands_fit insts i ≡ true
    → acts insts (slice_index i.words 3) (drop 6 i.words) ≡ true
unfolding atomic_operands_fit
atomic_acts insts i m h = rw m at h

atomic_leads : (insts : List Instruction) (i : Instruction) → is_one_of (op.ATOMIC_COMPARE_EXCHANGE ∷ atomics) (opcode i) ≡ true
    → atomic_result_fits insts i ≡ true
    → leads_to (slice_index i.words 1) (target_of insts (slice_index i.words 3)) ≡ true
unfolding atomic_result_fits
atomic_leads insts i m h = rw m at h

pub atomic_needs : (insts : List Instruction) (i : Instruction) → IsInstruction i.words (roles i) → is_one_of atomics (opcode i) ≡ true
    → atomic_operands_fit insts i ≡ true → atomic_result_fits insts i ≡ true → ordering_fits insts i ≡ true → NeedsFree insts i
atomic_needs insts i whole m h k o =
    let t : ℕ = slice_index i.words 1 in
    let p : ℕ = slice_index i.words 3 in
    let it = acted insts p (drop 6 i.words) (atomic_acts insts i m h) in
    let leads = atomic_leads insts i (one_passes (is_one_of (op.ATOMIC_COMPARE_EXCHANGE ∷ atomics)) atomics (opcode i) refl m) k in
    let access = access_free insts (slice_index i.words 4) (slice_index i.words 5) (atomic_access insts i m o) in
    needs_front (is_free insts) atomics 5 atomic_uses atomic_rows refl i whole m
    (all_cons (is_free insts) t (p ∷ slice_index i.words 4 ∷ slice_index i.words 5 ∷ drop 6 i.words) (it.target t leads)
    (all_cons (is_free insts) p (slice_index i.words 4 ∷ slice_index i.words 5 ∷ drop 6 i.words) it.pointer
    (all_cons (is_free insts) (slice_index i.words 4) (slice_index i.words 5 ∷ drop 6 i.words) access.0
    (all_cons (is_free insts) (slice_index i.words 5) (drop 6 i.words) access.1 it.values))))

abbrev exchange_uses : List ℕ → List ℕ
exchange_uses words = slice_index words 1 ∷ slice_index words 3 ∷ slice_index words 4 ∷ slice_index words 5 ∷ slice_index words 6 ∷ drop 7 words

exchange_rows : AllOf (MayNeedFront 6 exchange_uses) (op.ATOMIC_COMPARE_EXCHANGE ∷ [])
unfolding row_of
exchange_rows = (λ ws. refl, tt)

pub exchange_needs : (insts : List Instruction) (i : Instruction) → IsInstruction i.words (roles i) → opcode i ≡ op.ATOMIC_COMPARE_EXCHANGE
    → atomic_operands_fit insts i ≡ true → atomic_result_fits insts i ≡ true → ordering_fits insts i ≡ true → NeedsFree insts i
unfolding atomic_operands_fit ordering_fits
exchange_needs insts i whole e h k o =
    let t : ℕ = slice_index i.words 1 in
    let p : ℕ = slice_index i.words 3 in
    let s : ℕ = slice_index i.words 4 in
    let a : ℕ = slice_index i.words 5 in
    let b : ℕ = slice_index i.words 6 in
    let fits : acts insts (slice_index i.words 3) (drop 7 i.words) ≡ true = rw e at h in
    let it = acted insts p (drop 7 i.words) fits in
    let leads = atomic_leads insts i (ap (is_one_of (op.ATOMIC_COMPARE_EXCHANGE ∷ atomics)) e) k in
    let orders : (access_fits insts (slice_index i.words 4) (slice_index i.words 5) && semantics_fit insts (slice_index i.words 6)) ≡ true = rw e at o in
    let both = and_parts (access_fits insts s a) (semantics_fit insts b) orders in
    let access = access_free insts s a both.0 in
    needs_front (is_free insts) (op.ATOMIC_COMPARE_EXCHANGE ∷ []) 6 exchange_uses exchange_rows refl i whole
    (ap (is_one_of (op.ATOMIC_COMPARE_EXCHANGE ∷ [])) e)
    (all_cons (is_free insts) t (p ∷ s ∷ a ∷ b ∷ drop 7 i.words) (it.target t leads)
    (all_cons (is_free insts) p (s ∷ a ∷ b ∷ drop 7 i.words) it.pointer
    (all_cons (is_free insts) s (a ∷ b ∷ drop 7 i.words) access.0
    (all_cons (is_free insts) a (b ∷ drop 7 i.words) access.1
    (all_cons (is_free insts) b (drop 7 i.words) (integer_free insts b (if_some are_semantics (known_integer insts b) both.1)) it.values)))))

abbrev store_uses : List ℕ → List ℕ
store_uses words = slice_index words 1 ∷ slice_index words 2 ∷ slice_index words 3 ∷ drop 4 words

store_rows : AllOf (MayNeedFront 3 store_uses) (op.ATOMIC_STORE ∷ [])
unfolding row_of
store_rows = (λ ws. refl, tt)

pub atomic_store_needs : (insts : List Instruction) (i : Instruction) → IsInstruction i.words (roles i) → opcode i ≡ op.ATOMIC_STORE
    → atomic_operands_fit insts i ≡ true → ordering_fits insts i ≡ true → NeedsFree insts i
unfolding atomic_operands_fit ordering_fits
atomic_store_needs insts i whole e h o =
    let p : ℕ = slice_index i.words 1 in
    let fits : acts insts (slice_index i.words 1) (drop 4 i.words) ≡ true = rw e at h in
    let it = acted insts p (drop 4 i.words) fits in
    let orders : access_fits insts (slice_index i.words 2) (slice_index i.words 3) ≡ true = rw e at o in
    let access = access_free insts (slice_index i.words 2) (slice_index i.words 3) orders in
    needs_front (is_free insts) (op.ATOMIC_STORE ∷ []) 3 store_uses store_rows refl i whole (ap (is_one_of (op.ATOMIC_STORE ∷ [])) e)
    (all_cons (is_free insts) p (slice_index i.words 2 ∷ slice_index i.words 3 ∷ drop 4 i.words) it.pointer
    (all_cons (is_free insts) (slice_index i.words 2) (slice_index i.words 3 ∷ drop 4 i.words) access.0
    (all_cons (is_free insts) (slice_index i.words 3) (drop 4 i.words) access.1 it.values)))
