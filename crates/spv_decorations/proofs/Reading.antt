-- The tables of decorations, read one instruction after the other.
use Rattle.std.proofs.Common.{◌≡◌, ℕ, ◌+◌, ◌<◌, ◌==◌, ◌&&◌, Bool, true, false, cond, List, [], ◌∷◌, ◌++◌, length, take, slice_index, Option, Some, None, is_some, refl, sym, ap, ◌∙◌, subst, true≢false, eqb-true, add-one}
use Rattle.std.specs.List.{slice_get}
use Rattle.std.specs.Map.{lookup}
use Rattle.std.specs.Option.{option_or}
use Rattle.std.proofs.Math.Seq.{take-suc}
use Rattle.std.proofs.lemmas.Bool.{and_parts}
use Rattle.std.proofs.lemmas.Option.{get_or_from_slice_get}
use Rattle.indexmap.specs.IndexMap.{get, Updates}
use Rattle.spv_opcodes.specs.declared.op.TheConstants as op
use Rattle.spv_module.specs.Instruction.{Instruction, opcode}
use Rattle.spv_meaning.specs.Statements.{statements_in}
use Rattle.spv_decorations.specs.Decorations.{decoration_of, member_decoration_of}
use Rattle.spv_decorations.specs.Index.{Targets, Members, is_same, is_same_member, HasTargets, HasMembers, AddsTarget, AddsMember, literal_by, member_literal_by}
use Rattle.spv_decorations.proofs.Said.{decoration-push, member_decoration-push}

-- ---- an entry that was not there

added_first : (b : Bool) (o : Option ℕ) (v : ℕ) → (b ≡ true → o ≡ None) → cond b (Some v) o ≡ option_or o (cond b (Some v) None)
added_first true o v absent = sym (ap (λ (p : Option ℕ). option_or p (Some v)) (absent refl))
added_first false None v absent = refl
added_first false (Some x) v absent = refl

not_some : (o : Option ℕ) → is_some o ≡ false → o ≡ None
not_some None h = refl
not_some (Some x) h = absurd (true≢false h)

same_target : (x y : ℕ × ℕ) → is_same x y ≡ true → x ≡ y
same_target x y h =
    let both = and_parts (x.0 == y.0) (x.1 == y.1) h in
    λ j. (eqb-true x.0 y.0 both.0 j, eqb-true x.1 y.1 both.1 j)

same_member : (x y : ℕ × ℕ × ℕ) → is_same_member x y ≡ true → x ≡ y
same_member x y h =
    let both = and_parts (x.0 == y.0 && x.1 == y.1) (x.2 == y.2) h in
    let front = and_parts (x.0 == y.0) (x.1 == y.1) both.0 in
    λ j. (eqb-true x.0 y.0 front.0 j, eqb-true x.1 y.1 front.1 j, eqb-true x.2 y.2 both.1 j)

and_assoc : (a b c : Bool) → ((a && b) && c) ≡ (a && (b && c))
and_assoc true b c = refl
and_assoc false b c = refl

-- OpDecorate adds its target
pub adds_target : (old new : Targets) (i : Instruction) (x y v : ℕ) → (opcode i == op.DECORATE) ≡ true → x ≡ slice_index i.words 1 → y ≡ slice_index i.words 2 → v ≡ slice_index i.words 3 →
    is_some (get is_same old (x, y)) ≡ false → Updates is_same old new (x, y) (Some v) → AddsTarget old new i
adds_target old new i x y v here e f g absent updates = record {
  at = λ id d.
      updates.0 (id, d)
      ∙ added_first (x == id && y == d) (get is_same old (id, d)) v (λ same. subst (λ (k : ℕ × ℕ). get is_same old k ≡ None) (same_target (x, y) (id, d) same) (not_some (get is_same old (x, y)) absent))
      ∙ ap (λ (n : ℕ). option_or (get is_same old (id, d)) (cond (n == id && y == d) (Some v) None)) e
      ∙ ap (λ (n : ℕ). option_or (get is_same old (id, d)) (cond (slice_index i.words 1 == id && n == d) (Some v) None)) f
      ∙ ap (λ (n : ℕ). option_or (get is_same old (id, d)) (cond (slice_index i.words 1 == id && slice_index i.words 2 == d) (Some n) None)) g
      ∙ ap (λ (b : Bool). option_or (get is_same old (id, d)) (cond (b && (slice_index i.words 1 == id && slice_index i.words 2 == d)) (Some (slice_index i.words 3)) None)) (sym here);
}

-- OpMemberDecorate adds its member
pub adds_member : (old new : Members) (i : Instruction) (x y z v : ℕ) → (opcode i == op.MEMBER_DECORATE) ≡ true → x ≡ slice_index i.words 1 → y ≡ slice_index i.words 2 → z ≡ slice_index i.words 3 → v ≡ slice_index i.words 4 →
    is_some (get is_same_member old (x, y, z)) ≡ false → Updates is_same_member old new (x, y, z) (Some v) → AddsMember old new i
adds_member old new i x y z v here e f g h absent updates = record {
  at = λ id member d.
      let o = get is_same_member old (id, member, d) in
      updates.0 (id, member, d)
      ∙ added_first ((x == id && y == member) && z == d) o v
      (λ same. subst (λ (k : ℕ × ℕ × ℕ). get is_same_member old k ≡ None) (same_member (x, y, z) (id, member, d) same) (not_some (get is_same_member old (x, y, z)) absent))
      ∙ ap (λ (b : Bool). option_or o (cond b (Some v) None)) (and_assoc (x == id) (y == member) (z == d))
      ∙ ap (λ (n : ℕ). option_or o (cond (n == id && (y == member && z == d)) (Some v) None)) e
      ∙ ap (λ (n : ℕ). option_or o (cond (slice_index i.words 1 == id && (n == member && z == d)) (Some v) None)) f
      ∙ ap (λ (n : ℕ). option_or o (cond (slice_index i.words 1 == id && (slice_index i.words 2 == member && n == d)) (Some v) None)) g
      ∙ ap (λ (n : ℕ). option_or o (cond (slice_index i.words 1 == id && (slice_index i.words 2 == member && slice_index i.words 3 == d)) (Some n) None)) h
      ∙ ap (λ (b : Bool). option_or o (cond (b && (slice_index i.words 1 == id && (slice_index i.words 2 == member && slice_index i.words 3 == d))) (Some (slice_index i.words 4)) None)) (sym here);
}

-- ---- no instruction, and one more

pub has-none_targets : (targets : Targets) → targets.entries ≡ [] → HasTargets targets []
unfolding statements_in
has-none_targets targets empty = record { at = λ id d. ap (lookup (is_same (id, d))) empty }

pub has-none_members : (members : Members) → members.entries ≡ [] → HasMembers members []
unfolding statements_in
has-none_members members empty = record { at = λ id member d. ap (lookup (is_same_member (id, member, d))) empty }

take-at : (insts : List Instruction) (k : ℕ) (i : Instruction) → k < length insts → slice_get insts k ≡ Some i → take (k + 1) insts ≡ take k insts ++ i ∷ []
take-at insts k i fits at = rw add-one (take-suc insts k i fits ∙ ap (λ (j : Instruction). take k insts ++ j ∷ []) (get_or_from_slice_get insts k i i at))

pub has-more_targets : (old new : Targets) (insts : List Instruction) (k : ℕ) (i : Instruction) → HasTargets old (take k insts) → AddsTarget old new i → k < length insts → slice_get insts k ≡ Some i → HasTargets new (take (k + 1) insts)
has-more_targets old new insts k i has adds fits at = record {
  at = λ id d.
      adds.at id d
      ∙ ap (λ (o : Option ℕ). option_or o (literal_by i id d)) (has.at id d)
      ∙ sym (decoration-push (take k insts) i id d)
      ∙ ap (λ (is : List Instruction). decoration_of is id d) (sym (take-at insts k i fits at));
}

pub has-more_members : (old new : Members) (insts : List Instruction) (k : ℕ) (i : Instruction) → HasMembers old (take k insts) → AddsMember old new i → k < length insts → slice_get insts k ≡ Some i → HasMembers new (take (k + 1) insts)
has-more_members old new insts k i has adds fits at = record {
  at = λ id member d.
      adds.at id member d
      ∙ ap (λ (o : Option ℕ). option_or o (member_literal_by i id member d)) (has.at id member d)
      ∙ sym (member_decoration-push (take k insts) i id member d)
      ∙ ap (λ (is : List Instruction). member_decoration_of is id member d) (sym (take-at insts k i fits at));
}
