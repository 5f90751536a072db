-- The table of the beginnings of blocks, one instruction after the other.
use Rattle.std.proofs.Common.{◌≡◌, ◌⊎◌, inl, inr, ℕ, ◌+◌, ◌<◌, ◌≤◌, Bool, true, false, cond, ◌==◌, List, length, drop, Option, Some, None, refl, sym, ap, subst, ◌∙◌, arith}
use Rattle.std.specs.BTreeMap.{BTreeMap, get}
use Rattle.std.specs.List.{slice_get}
use Rattle.std.specs.Option.{option_or}
use Rattle.std.specs.Ordering.{nat_cmp}
use Rattle.spv_module.specs.Instruction.{Instruction}
use Rattle.spv_blocks.specs.Blocks.{is_label}
use Rattle.spv_blocks.specs.Cutting.{blocks_of, is_label_mark, word}
use Rattle.spv_blocks.proofs.Slices.{drop-at}
use Rattle.spv_normal.specs.Lines.{behind_label}
use Rattle.spv_sources.specs.declared.begins.Begin.{Begin}
use Rattle.spv_sources.specs.Filling.{IsFilled}
use Rattle.spv_sources.specs.Tail.{phi_insts}
use Rattle.spv_sources.specs.Values.{taken_from, AddsBegin, IsBegin}

-- what is found in a table with one more
found : (o : Option Begin) (t : Bool) (new b : Begin) → option_or o (cond t (Some new) None) ≡ Some b → (o ≡ Some b) ⊎ ((o ≡ None) × (t ≡ true) × (new ≡ b))
found None true new b e = let same : new ≡ b = cc in inr (refl, refl, same)
found None false new b e = absurd (cc (e))
found (Some x) t new b e = inl e

lost : (o : Option Begin) (t : Bool) (new : Begin) → option_or o (cond t (Some new) None) ≡ None → (o ≡ None) × (t ≡ false)
lost None true new e = absurd (cc (e))
lost None false new e = (refl, refl)
lost (Some x) t new e = absurd (cc (e))

module _ (insts : List Instruction) (k : ℕ) (i : Instruction) (at : slice_get insts k ≡ Some i) (within : k < length insts) where
  -- behind an instruction that begins no block with the label
  other_behind : (l : ℕ) → cond (is_label_mark i) (word i 1 == l) false ≡ false → behind_label (drop k insts) l ≡ behind_label (drop (k + 1) insts) l
  other_behind l h = ap (λ z. behind_label z l) (drop-at insts k i at) ∙ rw h refl

  other_label : (l : ℕ) → is_label_mark i ≡ true → (word i 1 == l) ≡ false → is_label (blocks_of (drop k insts)) l ≡ is_label (blocks_of (drop (k + 1) insts)) l
  other_label l m h = ap (λ z. is_label (blocks_of z) l) (drop-at insts k i at) ∙ rw (m, h) refl

  no_label_here : (l : ℕ) → is_label_mark i ≡ false → is_label (blocks_of (drop k insts)) l ≡ is_label (blocks_of (drop (k + 1) insts)) l
  no_label_here l m = ap (λ z. is_label (blocks_of z) l) (drop-at insts k i at) ∙ rw m refl

  pub filled-other : (begins : BTreeMap ℕ Begin) → is_label_mark i ≡ false → IsFilled insts k begins → IsFilled insts (k + 1) begins
  filled-other begins m filled = record {
    each = filled.each;
    behind = λ l none. filled.behind l none ∙ other_behind l (rw m refl);
    labels = λ l none. filled.labels l none ∙ no_label_here l m;
  }

  module _ (old new : BTreeMap ℕ Begin) (label : ℕ) (m : is_label_mark i ≡ true) (is : label ≡ word i 1) (adds : AddsBegin insts (k + 1) label old new) (filled : IsFilled insts k old) where
    begins_here : (l : ℕ) → (label == l) ≡ true → behind_label (drop k insts) l ≡ drop (k + 1) insts
    begins_here l h =
        let e : (word i 1 == l) ≡ true = ap (λ n. n == l) (sym is) ∙ h in
        ap (λ z. behind_label z l) (drop-at insts k i at) ∙ rw (m, e) refl

    new_begin : (l : ℕ) → get nat_cmp old l ≡ None → (label == l) ≡ true → IsBegin insts l adds.begin
    new_begin l none h =
        let rest : drop (k + 1) insts ≡ behind_label insts l = sym (filled.behind l none ∙ begins_here l h) in
        record {
          within = subst (λ n. n ≤ length insts) (sym adds.made.place) (omega arith);
          rest = ap (λ n. drop n insts) adds.made.place ∙ rest;
          values = λ block. adds.made.values block ∙ ap (λ z. taken_from block (phi_insts z)) rest;
        }

    pub filled-more : IsFilled insts (k + 1) new
    filled-more = record {
      each = λ l b e. elim (found (get nat_cmp old l) (label == l) adds.begin b (sym (adds.at l) ∙ e)) [
        | inl h ↦ filled.each l b h
        | inr h ↦ subst (IsBegin insts l) h.2 (new_begin l h.0 h.1)
      ];
      behind = λ l e.
          let h = lost (get nat_cmp old l) (label == l) adds.begin (sym (adds.at l) ∙ e) in
          filled.behind l h.0 ∙ other_behind l (rw m (ap (λ n. n == l) (sym is) ∙ h.1));
      labels = λ l e.
          let h = lost (get nat_cmp old l) (label == l) adds.begin (sym (adds.at l) ∙ e) in
          filled.labels l h.0 ∙ other_label l m (ap (λ n. n == l) (sym is) ∙ h.1);
    }
