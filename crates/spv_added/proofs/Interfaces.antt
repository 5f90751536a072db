-- 602: the ids that an entry point lists are global variables that were there; and what a function names it named.
use Rattle.std.proofs.Common.{◌≡◌, inl, inr, ℕ, Bool, true, false, cond, nat_eq, ◌==◌, ◌&&◌, List, [], ◌∷◌, Option, Some, None, refl, sym, ap, ap₂, subst, ◌∙◌, eqb-true}
use Rattle.std.specs.List.{AllByRecursion, filter, list_all, slice_index}
use Rattle.std.specs.Option.{option_map_or}
use Rattle.std.proofs.lemmas.Bool.{and_parts}
use Rattle.spv_opcodes.specs.declared.op.TheConstants as op
use Rattle.spv_grammar.specs.Table.{row_of}
use Rattle.spv_module.specs.Code.{is_line}
use Rattle.spv_module.specs.Instruction.{Instruction, opcode}
use Rattle.spv_module.specs.Layout.{is_entry_point}
use Rattle.spv_ids.specs.Ids.{defines, definition, kind, used_ids}
use Rattle.spv_typing.specs.Kinds.{is_outside}
use Rattle.spv_walk.proofs.Unique.{either_holds, equal_true}
use Rattle.spv_alike_uses.proofs.Used.{used_word, word_uses}
use Rattle.spv_calls.specs.Calls.{function_at, globals_of, is_global}
use Rattle.spv_calls.specs.Interfaces.{InterfaceFits, IsInterface, IsReferenced, has, interface}
use Rattle.spv_norm_entries.proofs.Lists.{flat_has, has_flat, has_kept, kept_has}
use Rattle.spv_added.proofs.Walk.{Adding, FactOf, In, found, inst}
use Rattle.spv_added.proofs.Definitions.{defines_others, same_kind}
use Rattle.spv_added.proofs.Places.{same_outside}
use Rattle.spv_added.proofs.Calling.{reached_before}
use Rattle.spv_added.proofs.Standing.{function_stood, lower, place_stood}

entry_uses : word_uses 1 op.ENTRY_POINT ≡ true
unfolding row_of
entry_uses = refl

-- ---- what functions name

-- what an instruction names
record IsNaming (insts : List Instruction) (i : Instruction) (id : ℕ) : Type 0 where
  plain : is_line i ≡ false
  used : has (used_ids i) id ≡ true
  global : is_global insts id ≡ true

naming_of : (insts : List Instruction) (i : Instruction) (id : ℕ) → has (globals_of insts i) id ≡ true → IsNaming insts i id
naming_of insts i id h = by (is_line i) refl h
  where
    by : (b : Bool) → is_line i ≡ b → has (cond b [] (filter (is_global insts) (used_ids i))) id ≡ true → IsNaming insts i id
    by true e h = absurd (cc h)
    by false e h = let k = kept_has (is_global insts) (used_ids i) id h in record { plain = e; used = k.0; global = k.1 }

of_naming : (insts : List Instruction) (i : Instruction) (id : ℕ) → IsNaming insts i id → has (globals_of insts i) id ≡ true
of_naming insts i id m =
    ap (λ (b : Bool). has (cond b [] (filter (is_global insts) (used_ids i))) id) m.plain ∙ has_kept (is_global insts) (used_ids i) id m.used m.global

all_has : (P : ℕ → Type 0) (xs : List ℕ) (id : ℕ) → AllByRecursion P xs → has xs id ≡ true → P id
all_has P [] id all h = absurd (cc h)
all_has P (x ∷ xs) id all h = elim (either_holds (nat_eq id x) (has xs id) h) [
  | inl e ↦ subst P (sym (equal_true id x e)) all.0
  | inr g ↦ all_has P xs id all.1 g
]

module _ (t : Adding) where
  pub entry_function_stays : (i : Instruction) → FactOf t i → is_entry_point i ≡ true → In t (slice_index i.words 2)
  entry_function_stays i f h = used_word (In t) i f.whole f.free.used 1 (ap (word_uses 1) (eqb-true (opcode i) op.ENTRY_POINT h) ∙ entry_uses)

  -- what is defined by the module before is another id
  pub defined_stays : (id : ℕ) (i : Instruction) → definition t.before id ≡ Some i → In t id
  defined_stays id i e = let f = found (defines id) (FactOf t) t.before i t.facts e in defines_others t.r i f.0.free id f.1

  global_stays : (id : ℕ) → is_global t.before id ≡ true → In t id
  global_stays id h = by (definition t.before id) refl (and_parts (kind t.before id == op.VARIABLE) (is_outside t.before id) h).0
    where
      by : (o : Option Instruction) → definition t.before id ≡ o → (option_map_or opcode o 0 == op.VARIABLE) ≡ true → In t id
      by None e h = absurd (cc h)
      by (Some i) e h = defined_stays id i e

  same_global : (id : ℕ) → In t id → is_global t.after id ≡ is_global t.before id
  same_global id s = ap₂ (λ (k : ℕ) (b : Bool). k == op.VARIABLE && b) (same_kind t id s) (same_outside t id s)

  -- by induction on the ids
  globals_stay : (ids : List ℕ) → list_all (is_global t.before) ids ≡ true → list_all (is_global t.after) ids ≡ true
  globals_stay [] h = refl
  globals_stay (id ∷ ids) h =
      let parts = and_parts (is_global t.before id) (list_all (is_global t.before) ids) h in
      ap₂ (λ (a b : Bool). a && b) (same_global id (global_stays id parts.0) ∙ parts.0) (globals_stay ids parts.1)

  referenced_before : (f id : ℕ) → In t f → IsReferenced t.after f id → IsReferenced t.before f id
  referenced_before f id s r =
      let m = flat_has (globals_of t.after) (function_at t.after r.place) id r.named in
      let o = function_stood t r.place m.0 m.1 in
      let n = naming_of t.after o.inst id (ap (λ (ws : List ℕ). has (globals_of t.after (inst ws)) id) (sym o.words) ∙ m.2) in
      let stays : In t id = all_has (In t) (used_ids o.inst) id o.fact.free.used n.used in
      let global : is_global t.before id ≡ true = sym (same_global id stays) ∙ n.global in
      record {
        entry = lower t.front r.entry;
        defined = place_stood t f s r.entry r.defined;
        place = lower t.front r.place;
        reached = reached_before t r.entry r.place r.reached;
        named =
            has_flat (globals_of t.before) (function_at t.before (lower t.front r.place)) id o.inst o.one
            (of_naming t.before o.inst id (record { plain = n.plain; used = n.used; global = global }));
      }

  pub interface_stays : (i j : Instruction) → FactOf t i → j.words ≡ i.words → InterfaceFits t.before i → InterfaceFits t.after j
  interface_stays i j f w fit h =
      let entry : is_entry_point i ≡ true = ap (λ (ws : List ℕ). is_entry_point (inst ws)) (sym w) ∙ h in
      let old = fit entry in
      subst (λ (ws : List ℕ). IsInterface t.after (slice_index ws 2) (interface (inst ws))) (sym w) (record {
        globals = globals_stay (interface i) old.globals;
        once = old.once;
        all = λ id r. old.all id (referenced_before (slice_index i.words 2) id (entry_function_stays i f entry) r);
      })
