-- Members of structs, summed up one by one.
use Rattle.std.proofs.Common.{◌≡◌, ℕ, ◌+◌, min, max, Bool, true, false, ◌&&◌, Option, refl, ap, ◌∙◌, arith}
use Rattle.std.proofs.lemmas.List.{get_or-drop}
use Rattle.spv_meaning.specs.Types.{DataType, Members, Member, cells as cells_in}
use Rattle.spv_declarations.specs.Depth.{depth as depth_in, is_laid_out as laid_out_in, is_offset, are_laid_out}
use Rattle.spv_types.specs.declared.facts.TypeFacts.{TypeFacts}
use Rattle.spv_types.specs.Facts.{in_64_bits, facts}
use Rattle.spv_types.specs.Members.{SumUp}

deeper : (d e m n : ℕ) → d ≡ min m 256 → e ≡ min n 256 → max d e ≡ min (max m n) 256
deeper d e m n h k = omega arith

all_of : (a b c d : Bool) → ((a && (b && c)) && d) ≡ (a && (b && (c && d)))
all_of true true c d = refl
all_of true false c d = refl
all_of false b c d = refl

-- with one member more, its facts are part of the sum
pub one_member_more : (summed member : TypeFacts) (offset : Option ℕ) (is_volatile : Bool) (t : DataType) (rest whole : Members) (depth : ℕ) (is_laid_out : Bool) (cells : Option ℕ) →
    depth ≡ max summed.depth member.depth →
    is_laid_out ≡ (summed.is_laid_out && (is_offset offset && member.is_laid_out)) →
    ((n m : ℕ) → summed.cells ≡ in_64_bits n → member.cells ≡ in_64_bits m → cells ≡ in_64_bits (n + m)) →
    member ≡ facts t → SumUp summed (Member offset is_volatile t rest) whole →
    SumUp (record { depth = depth; is_laid_out = is_laid_out; is_data = summed.is_data; cells = cells }) rest whole
one_member_more summed member offset is_volatile t rest whole depth is_laid_out cells deep laid plus is s = record {
  deepest = max s.deepest (depth_in t);
  depth = deep ∙ deeper summed.depth member.depth s.deepest (depth_in t) s.depth (ap (λ f. f.depth) is);
  deep = omega (arith, s.deep);
  laid_out =
      ap (λ b. b && are_laid_out rest) (laid ∙ ap (λ f. summed.is_laid_out && (is_offset offset && f.is_laid_out)) is)
      ∙ (all_of summed.is_laid_out (is_offset offset) (laid_out_in t) (are_laid_out rest) ∙ s.laid_out);
  is_data = s.is_data;
  words = s.words + cells_in t;
  cells = plus s.words (cells_in t) s.cells (ap (λ f. f.cells) is);
  sum = omega (arith, s.sum);
}

-- a word behind others
pub ruleset members = (get_or-drop)
