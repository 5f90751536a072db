-- 602: each global variable that a function of the normal form names is named by the function of the module, so interfaces have them.
use Rattle.std.proofs.Common.{◌≡◌, inl, inr, ◌⊎◌, ℕ, Bool, true, false, cond, not, ◌==◌, ◌&&◌, List, [], ◌∷◌, filter, slice_index, refl, sym, ap, subst, ◌∙◌}
use Rattle.std.specs.List.{list_all}
use Rattle.spv_opcodes.specs.declared.op.TheConstants as op
use Rattle.spv_module.specs.Code.{is_line}
use Rattle.spv_module.specs.Instruction.{Instruction}
use Rattle.spv_module.specs.Layout.{is_entry_point}
use Rattle.spv_ids.specs.Ids.{kind, used_ids}
use Rattle.spv_typing.specs.Kinds.{is_outside}
use Rattle.spv_walk.proofs.Unique.{both_left, not_true}
use Rattle.spv_tree.specs.declared.body.Body.{Body}
use Rattle.spv_calls.specs.Calls.{function_at, globals_at, globals_of, is_global}
use Rattle.spv_calls.specs.Interfaces.{InterfaceFits, IsInterface, IsReferenced, has, interface}
use Rattle.spv_trees.specs.Standing.{OneOf}
use Rattle.spv_alike.specs.Alike.{AreAlike}
use Rattle.spv_norm_structured.specs.Laws.{IsNormAgain, IsReadAsTrees}
use Rattle.spv_norm_entries.proofs.Calls.{named_function, origin, place_of_function, reached_too}
use Rattle.spv_norm_entries.proofs.Functions.{Corresponds}
use Rattle.spv_norm_entries.proofs.Lists.{filtered_one, flat_has, has_flat, has_kept, inst_of, kept_has}
use Rattle.spv_norm_entries.proofs.Lookups.{same_global}

-- what an instruction names
record IsNaming (insts : List Instruction) (i : Instruction) (id : ℕ) : Type 0 where
  used : has (used_ids i) id ≡ true
  global : is_global insts id ≡ true

naming_of : (insts : List Instruction) (i : Instruction) (id : ℕ) → has (globals_of insts i) id ≡ true → IsNaming insts i id
naming_of insts i id h = by (is_line i) h where
  by : (b : Bool) → has (cond b [] (filter (is_global insts) (used_ids i))) id ≡ true → IsNaming insts i id
  by true h = absurd (cc h)
  by false h = let k = kept_has (is_global insts) (used_ids i) id h in record { used = k.0; global = k.1 }

of_naming : (insts : List Instruction) (i : Instruction) (id : ℕ) → not (is_line i) ≡ true → IsNaming insts i id → has (globals_of insts i) id ≡ true
of_naming insts i id plain m =
    ap (λ (b : Bool). has (cond b [] (filter (is_global insts) (used_ids i))) id) (not_true (is_line i) plain)
    ∙ has_kept (is_global insts) (used_ids i) id m.used m.global

no_label : (insts : List Instruction) (id : ℕ) → is_global insts id ≡ true → kind insts id ≡ op.LABEL → ⊥
no_label insts id g e = absurd (cc (both_left (kind insts id == op.VARIABLE) (is_outside insts id) g, ap (λ o. o == op.VARIABLE) e))

all_same : (p q : ℕ → Bool) (xs : List ℕ) → ((x : ℕ) → p x ≡ q x) → list_all p xs ≡ list_all q xs
all_same p q [] h = refl
all_same p q (x ∷ xs) h = ap (λ (b : Bool). b && list_all p xs) (h x) ∙ ap (λ b. q x && b) (all_same p q xs h)

module _ (insts again : List Instruction) (bodies : List Body) (h : IsReadAsTrees insts bodies) (n : IsNormAgain insts again) (a : AreAlike insts again) where
  named_too : (p q id : ℕ) → Corresponds insts again bodies h n p q → has (globals_at again p) id ≡ true → has (globals_at insts q) id ≡ true
  named_too p q id c e =
      let m = flat_has (globals_of again) (function_at again p) id e in
      let k = naming_of again m.0 id m.2 in
      let global : is_global insts id ≡ true = sym (same_global insts again a id) ∙ k.global in
      by global ((c.made m.0 m.1).used id k.used)
    where
      by : is_global insts id ≡ true
          → (kind insts id ≡ op.LABEL) ⊎ ((j : Instruction) × OneOf j (filter (λ i. not (is_line i)) (function_at insts q)) × (has (used_ids j) id ≡ true))
          → has (globals_at insts q) id ≡ true
      by global (inl label) = absurd (no_label insts id global label)
      by global (inr u) =
          let f = filtered_one (λ i. not (is_line i)) (function_at insts q) u.0 u.1 in
          has_flat (globals_of insts) (function_at insts q) id u.0 f.0 (of_naming insts u.0 id f.1 (record { used = u.2; global = global }))

  referenced_too : (f id : ℕ) → IsReferenced again f id → IsReferenced insts f id
  referenced_too f id r =
      let m = flat_has (globals_of again) (function_at again r.place) id r.named in
      let e = origin again r.entry r.place r.reached (place_of_function again r.place m.0 m.1) in
      let g = named_function insts again bodies h n f r.entry r.defined e in
      let w = reached_too insts again bodies h n r.entry g.place r.place g.same r.reached in
      record { entry = g.place; defined = g.defined; place = w.place; reached = w.reached; named = named_too r.place w.place id w.same r.named }

  interface_too : (f : ℕ) (ids : List ℕ) → IsInterface insts f ids → IsInterface again f ids
  interface_too f ids i = record {
    globals = all_same (is_global again) (is_global insts) ids (same_global insts again a) ∙ i.globals;
    once = i.once;
    all = λ id r. i.all id (referenced_too f id r);
  }

  pub interface_stays : (i j : Instruction) → j.words ≡ i.words → InterfaceFits insts i → InterfaceFits again j
  interface_stays i j s fit e =
      subst (λ w. IsInterface again (slice_index w 2) (interface (inst_of w))) (sym s)
      (interface_too (slice_index i.words 2) (interface i) (fit (ap (λ w. is_entry_point (inst_of w)) (sym s) ∙ e)))
