-- The numbers of a struct's members, one after the other.
use Rattle.std.proofs.Common.{◌≡◌, ℕ, List, [], ◌∷◌, Option, Some, None, refl, sym, ap, subst, ◌∙◌}
use Rattle.std.specs.BTreeMap.{BTreeMap, get}
use Rattle.std.specs.Option.{option_and_then}
use Rattle.std.specs.Ordering.{nat_cmp}
use Rattle.spv_composites.specs.declared.numbering.Nodes.{Nodes}
use Rattle.spv_composites.specs.Forms.{Form, Parts, NoPart, Part, FormTable, form_at, parts_behind}
use Rattle.spv_composites.specs.Numbering.{node_at, number_of, number_of_parts, AreNumbered, Grows, IsNumber, IsNumberOfParts, HasNumbers}
use Rattle.spv_composites.proofs.Growing.{grows-same, grows-more, HasNumbers-kept, number_of_parts-kept}

-- so many members have been numbered, and the rest makes the whole
pub record MembersNumbered (old new : Nodes) (table : FormTable) (types rest : List ℕ) (number : ℕ) : Type 0 where
  pub grows : Grows old new
  pub front : Parts
  pub is : number_of_parts (node_at new) front ≡ Some number
  pub whole : parts_behind table NoPart types ≡ parts_behind table front rest

pub members-none : (nodes : Nodes) (numbers : BTreeMap ℕ ℕ) (table : FormTable) (types : List ℕ) → HasNumbers nodes numbers table →
    MembersNumbered nodes nodes table types types 0
members-none nodes numbers table types h = record { grows = grows-same nodes h.numbered; front = NoPart; is = refl; whole = refl }

form_of_number : (nodes : Nodes) (n : ℕ) (f : Option Form) → IsNumber nodes (Some n) f → (g : Form) × (f ≡ Some g) × (number_of (node_at nodes) g ≡ Some n)
form_of_number nodes n None h = absurd h
form_of_number nodes n (Some g) h = (g, refl, h)

-- one member more
pub members-more : (old mid new : Nodes) (numbers : BTreeMap ℕ ℕ) (table : FormTable) (types rest : List ℕ) (t front member number : ℕ) →
    HasNumbers old numbers table →
    MembersNumbered old mid table types (t ∷ rest) front → get nat_cmp numbers t ≡ Some member → (AreNumbered mid → Grows mid new) →
    node_at new (4, front, member) ≡ Some number →
    MembersNumbered old new table types rest number
members-more old mid new numbers table types rest t front member number h m found grows at =
    let more = grows m.grows.numbered in
    let kept = HasNumbers-kept old new numbers table (grows-more old mid new m.grows more) h in
    let f = form_of_number new member (form_at table t) (subst (λ (o : Option ℕ). IsNumber new o (form_at table t)) found (kept.at t)) in
    record {
      grows = grows-more old mid new m.grows more;
      front = Part m.front f.0;
      is =
          ap (λ (o : Option ℕ). option_and_then (λ p. option_and_then (λ e. node_at new (4, p, e)) (number_of (node_at new) f.0)) o)
          (number_of_parts-kept mid new more m.front front m.is)
          ∙ ap (λ (o : Option ℕ). option_and_then (λ e. node_at new (4, front, e)) o) f.2
          ∙ at;
      whole = m.whole ∙ ap (λ (o : Option Form). option_and_then (λ g. parts_behind table (Part m.front g) rest) o) f.1;
    }

-- no number of a member
pub members-missing : (old mid : Nodes) (numbers : BTreeMap ℕ ℕ) (table : FormTable) (types rest : List ℕ) (t front : ℕ) → HasNumbers old numbers table →
    MembersNumbered old mid table types (t ∷ rest) front → get nat_cmp numbers t ≡ None → IsNumberOfParts mid None (parts_behind table NoPart types)
members-missing old mid numbers table types rest t front h m found =
    let none = form_missing old (form_at table t) (subst (λ (o : Option ℕ). IsNumber old o (form_at table t)) found (h.at t)) in
    subst (IsNumberOfParts mid None) (sym (m.whole ∙ ap (λ (o : Option Form). option_and_then (λ g. parts_behind table (Part m.front g) rest) o) none)) tt
  where
    form_missing : (nodes : Nodes) (f : Option Form) → IsNumber nodes None f → f ≡ None
    form_missing nodes None h = refl
    form_missing nodes (Some g) h = absurd h

pub members-all : (old new : Nodes) (table : FormTable) (types : List ℕ) (number : ℕ) → MembersNumbered old new table types [] number →
    IsNumberOfParts new (Some number) (parts_behind table NoPart types)
members-all old new table types number m = subst (IsNumberOfParts new (Some number)) (sym m.whole) m.is
