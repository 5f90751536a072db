-- Slots and names that are taken, behind one instruction more.
use Rattle.std.proofs.Common.{◌≡◌, ℕ, Bool, true, false, cond, ◌&&◌, ◌||◌, ◌==◌, not, nat_eq, List, [], ◌∷◌, Option, Some, None, refl, sym, ap, ◌∙◌}
use Rattle.std.specs.Global.{Vec}
use Rattle.std.specs.BTreeSet.{BTreeSet}
use Rattle.std.specs.Cmp.{both_tied, unsigned_ties}
use Rattle.std.specs.Cmp.Lexicographic.{pointwise, texts_ties}
use Rattle.std.specs.List.{list_any}
use Rattle.std.specs.Option.{option_map, option_map_or}
use Rattle.std.specs.Ordering.{eq_by_cmp, nat_cmp, ordering_then}
use Rattle.spv_module.specs.Code.{is_function}
use Rattle.spv_module.specs.Instruction.{Instruction}
use Rattle.spv_module.specs.Layout.{is_entry_point}
use Rattle.spv_repeats.specs.Steps.{Adds, Follows, is_some_and, triple_cmp, vec_cmp}
use Rattle.spv_repeats.proofs.KeySets.{any-push, has-add}
use Rattle.spv_entries.specs.declared.bindings.Slots.{Slots}
use Rattle.spv_entries.specs.Bindings.{Slot, slot_of, is_same_slot, stands_at, binding_fits}
use Rattle.spv_entries.specs.Names.{entry_name, has_name, name_fits}
use Rattle.spv_entries.specs.Slots.{HasSlots, HasNames, is_named, clashes, is_named_again}

-- slots that their order tells apart
triple_ties : (x y : Slot) → eq_by_cmp triple_cmp x y ≡ is_same_slot x y
triple_ties x y =
    sym (both_tied _ _ (ordering_then (nat_cmp x.0 y.0) (nat_cmp x.1 y.1)) (nat_cmp x.2 y.2)
    (both_tied _ _ (nat_cmp x.0 y.0) (nat_cmp x.1 y.1) (unsigned_ties x.0 y.0) (unsigned_ties x.1 y.1)) (unsigned_ties x.2 y.2))

pub slot_ties : (q : Slot) (o : Option Slot) → is_some_and (eq_by_cmp triple_cmp q) o ≡ option_map_or (is_same_slot q) o false
slot_ties q None = refl
slot_ties q (Some s) = triple_ties q s

pub slots-more : (insts : List Instruction) (old new : Slots) (i : Instruction) (slot : Option Slot) (known fits : Bool) → slot ≡ slot_of insts i → Adds triple_cmp old.taken new.taken slot known → new.begun ≡ (old.begun || is_function i) → ((before : List Instruction) → HasSlots insts old before → fits ≡ binding_fits insts before i) →
    Follows (HasSlots insts) (clashes insts) old new i (not fits)
slots-more insts old new i slot known fits e adds begun tells =
    record {
      answers = λ before h. ap not (tells before h);
      kept = λ before h.
          record {
            begun = begun ∙ ap (λ (b : Bool). b || is_function i) h.begun ∙ sym (any-push is_function before i);
            taken =
                has-add triple_cmp (stands_at insts) old.taken new.taken slot known before i adds
                (λ q. slot_ties q slot ∙ ap (λ (o : Option Slot). option_map_or (is_same_slot q) o false) e) h.taken;
          };
    }

twice_not : (b : Bool) → b ≡ not (not b)
twice_not true = refl
twice_not false = refl

abbrev of_some : Option (List ℕ) → List ℕ
of_some None = []
of_some (Some ws) = ws

named_again : (before : List Instruction) (i : Instruction) (b : Bool) → b ≡ (is_entry_point i && list_any (has_name (entry_name i)) before) → b ≡ is_named_again before i
unfolding name_fits
named_again before i b e = e ∙ twice_not (is_entry_point i && list_any (has_name (entry_name i)) before)

pub follows-name : (old new : BTreeSet (Vec ℕ)) (key : Option (Vec ℕ)) (known : Bool) (i : Instruction) →
    option_map (λ (k : Vec ℕ). k.items) key ≡ cond (is_entry_point i) (Some (entry_name i)) None → Adds vec_cmp old new key known → Follows HasNames is_named_again old new i known
follows-name old new key known i e adds = by (is_entry_point i) refl key e adds
  where
    by : (entry : Bool) → is_entry_point i ≡ entry → (o : Option (Vec ℕ)) → option_map (λ (k : Vec ℕ). k.items) o ≡ cond entry (Some (entry_name i)) None → Adds vec_cmp old new o known → Follows HasNames is_named_again old new i known
    by true u None e' adds' = cc
    by true u (Some k) e' adds' =
        let items : k.items ≡ entry_name i = ap of_some e' in
        record {
          answers = λ before h.
              named_again before i known
              (adds'.known ∙ h.has k
              ∙ ap (λ (ws : List ℕ). list_any (has_name ws) before) items
              ∙ ap (λ (b : Bool). b && list_any (has_name (entry_name i)) before) (sym u));
          kept = λ before h.
              has-add vec_cmp is_named old new (Some k) known before i adds'
              (λ q. sym (texts_ties q.items k.items) ∙ ap (pointwise nat_eq q.items) items ∙ ap (λ (b : Bool). b && pointwise nat_eq q.items (entry_name i)) (sym u)) h;
        }
    by false u None e' adds' =
        record {
          answers = λ before h. named_again before i known (adds'.known ∙ ap (λ (b : Bool). b && list_any (has_name (entry_name i)) before) (sym u));
          kept = λ before h. has-add vec_cmp is_named old new None known before i adds' (λ q. ap (λ (b : Bool). b && pointwise nat_eq q.items (entry_name i)) (sym u)) h;
        }
    by false u (Some k) e' adds' = cc
