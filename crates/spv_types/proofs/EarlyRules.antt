-- The first rule that an instruction breaks, by its tests, is the least of those that it breaks.
use Rattle.std.proofs.Common.{◌≡◌, ℕ, ◌+◌, ◌≤◌, Bool, true, false, cond, not, ◌&&◌, ◌||◌, List, [], ◌∷◌, ◌++◌, Option, Some, None, refl, sym, ap, ◌∙◌, arith}
use Rattle.std.specs.Prelude.{min}
use Rattle.std.specs.Option.{option_map, option_or, unwrap_or}
use Rattle.spv_module.specs.Code.{is_line}
use Rattle.spv_module.specs.First.{least, unless}
use Rattle.spv_module.specs.Instruction.{Instruction}
use Rattle.spv_ids.specs.Ids.{id_rules, is_second, names_unknown}
use Rattle.spv_repeats.specs.Repeats.{occurs_before, repeats_before}
use Rattle.spv_typing.specs.Types.{type_fits}
use Rattle.spv_typing.specs.Operations.{spec_op_fits}
use Rattle.spv_decorations.specs.Targets.{decoration_fits}
use Rattle.spv_decorations.specs.Globals.{global_fits}
use Rattle.spv_declarations.specs.Constants.{constant_fits}
use Rattle.spv_declarations.specs.Broken.{rules_at, declaration_rules, layout_fits, depth_fits}
use Rattle.spv_declarations.specs.Declarations.{Declared, says, entry}
use Rattle.spv_types.specs.Progress.{AreKnown, first_failing, declaration_tests, early_tests}

-- ---- ids

ids_none : (line second unknown : Bool) → line ≡ false → None ≡ least (cond line [] (unless (not second) 301 ++ unless (not unknown) 302)) → (second ≡ false) × (unknown ≡ false)
ids_none true second unknown loud e = cc
ids_none false true unknown loud e = cc
ids_none false false true loud e = cc
ids_none false false false loud e = (refl, refl)

behind_ids : (second unknown : Bool) (r rest : Option ℕ) → second ≡ false → unknown ≡ false → r ≡ rest → r ≡ cond (not second) (cond (not unknown) rest (Some 302)) (Some 301)
behind_ids true unknown r rest s u e = cc
behind_ids false true r rest s u e = cc
behind_ids false false r rest s u e = e

pub early-none : (insts : List Instruction) (d : Declared) (k : ℕ) (i : Instruction) (r : Option ℕ) → is_line i ≡ false → None ≡ least (id_rules insts d.begun k i) →
    (AreKnown insts d k i → r ≡ first_failing (declaration_tests insts d k i)) → r ≡ first_failing (early_tests insts d k i)
early-none insts d k i r loud none rest =
    let both = ids_none (is_line i) (is_second insts k i) (names_unknown insts d.begun k i) loud none in
    behind_ids (is_second insts k i) (names_unknown insts d.begun k i) r (first_failing (declaration_tests insts d k i)) both.0 both.1 (rest both.1)

ids_some : (line second unknown : Bool) (rest : Option ℕ) (rule : ℕ) → line ≡ false → Some rule ≡ least (cond line [] (unless (not second) 301 ++ unless (not unknown) 302)) →
    Some rule ≡ cond (not second) (cond (not unknown) rest (Some 302)) (Some 301)
ids_some true second unknown rest rule loud e = cc
ids_some false true true rest rule loud e = e
ids_some false true false rest rule loud e = e
ids_some false false true rest rule loud e = e
ids_some false false false rest rule loud e = cc

pub early-some : (insts : List Instruction) (d : Declared) (k : ℕ) (i : Instruction) (rule : ℕ) → is_line i ≡ false → Some rule ≡ least (id_rules insts d.begun k i) →
    Some rule ≡ first_failing (early_tests insts d k i)
early-some insts d k i rule loud e =
    ids_some (is_line i) (is_second insts k i) (names_unknown insts d.begun k i) (first_failing (declaration_tests insts d k i)) rule loud e

-- ---- all rules

-- no rule is below a number
abbrev AllFrom : (n : ℕ) → List ℕ → Type 0
AllFrom n [] = Unit {0}
AllFrom n (rule ∷ rules) = (n ≤ rule) × AllFrom n rules

from_less : (n m : ℕ) (rules : List ℕ) → n ≤ m → AllFrom m rules → AllFrom n rules
from_less n m [] below h = tt
from_less n m (rule ∷ rules) below h = (omega (arith, below, h.0), from_less n m rules below h.1)

from_unless : (n : ℕ) (b : Bool) (rules : List ℕ) → AllFrom n rules → AllFrom n (unless b n ++ rules)
from_unless n true rules h = h
from_unless n false rules h = (omega arith, h)

-- the least is none, or not below it either
abbrev IsFrom : (n : ℕ) → Option ℕ → Type 0
IsFrom n None = Unit {0}
IsFrom n (Some x) = n ≤ x

from_both : (n rule : ℕ) (o : Option ℕ) → n ≤ rule → IsFrom n o → n ≤ unwrap_or (option_map (λ (other : ℕ). min rule other) o) rule
from_both n rule None below h = below
from_both n rule (Some x) below h = omega (arith, below, h)

least_is_from : (n : ℕ) (rules : List ℕ) → AllFrom n rules → IsFrom n (least rules)
least_is_from n [] h = tt
least_is_from n (rule ∷ rules) h = from_both n rule (least rules) h.0 (least_is_from n rules h.1)

least_itself : (n : ℕ) (o : Option ℕ) → IsFrom n o → unwrap_or (option_map (λ (other : ℕ). min n other) o) n ≡ n
least_itself n None h = refl
least_itself n (Some x) h = omega (arith, h)

-- rules from a number on, whose least is that of the first tests or else another
record Chain (n : ℕ) (rules : List ℕ) (found last : Option ℕ) : Type 0 where
  from : AllFrom n rules
  least_is : least rules ≡ option_or found last

one_more : (n : ℕ) (b : Bool) (rules : List ℕ) (found last : Option ℕ) → Chain (n + 1) rules found last → Chain n (unless b n ++ rules) (cond b found (Some n)) last
one_more n b rules found last h = record { from = from_unless n b rules below; least_is = is b }
  where
    below : AllFrom n rules
    below = from_less n (n + 1) rules (omega arith) h.from

    is : (b : Bool) → least (unless b n ++ rules) ≡ option_or (cond b found (Some n)) last
    is true = h.least_is
    is false = ap Some (least_itself n (least rules) (least_is_from n rules below))

last_one : (n : ℕ) (b : Bool) → Chain n (unless b n) None (least (unless b n))
last_one n true = record { from = tt; least_is = refl }
last_one n false = record { from = (omega arith, tt); least_is = refl }

id_more : (line a b : Bool) (rules : List ℕ) (found last : Option ℕ) → line ≡ false → Chain 303 rules found last →
    least (cond line [] (cond line [] (unless a 301 ++ unless b 302) ++ rules)) ≡ option_or (cond a (cond b found (Some 302)) (Some 301)) last
id_more true a b rules found last loud h = cc
id_more false true b rules found last loud h = (one_more 302 b rules found last h).least_is
id_more false false true rules found last loud h = (one_more 301 false rules found last (record { from = from_less 302 303 rules (omega arith) h.from; least_is = h.least_is })).least_is
id_more false false false rules found last loud h = (one_more 301 false (302 ∷ rules) _ last (one_more 302 false rules found last h)).least_is

-- the least rule is that of the first of the early tests that fails, or else the last
pub least-rules : (insts : List Instruction) (d : Declared) (k : ℕ) (i : Instruction) → is_line i ≡ false →
    least (rules_at insts d k i) ≡ option_or (first_failing (early_tests insts d k i)) (least (unless (depth_fits (cond d.begun None (entry (says insts) d.table i))) 309))
unfolding rules_at
least-rules insts d k i loud =
    id_more (is_line i) (not (is_second insts k i)) (not (names_unknown insts d.begun k i)) (declaration_rules insts d k i) (first_failing (declaration_tests insts d k i)) _ loud
    (one_more 303 (type_fits insts i && not (occurs_before insts k i)) _ _ _
    (one_more 304 (d.begun || constant_fits insts d i) _ _ _
    (one_more 305 (spec_op_fits insts i) _ _ _
    (one_more 306 (decoration_fits insts i && not (repeats_before insts k i)) _ _ _
    (one_more 307 (layout_fits d i) _ _ _
    (one_more 308 (global_fits insts d.begun i) _ _ _
    (last_one 309 (depth_fits (cond d.begun None (entry (says insts) d.table i))))))))))

-- an early test fails
pub rules-early : (insts : List Instruction) (d : Declared) (k : ℕ) (i : Instruction) (rule : ℕ) → is_line i ≡ false →
    Some rule ≡ first_failing (early_tests insts d k i) → least (rules_at insts d k i) ≡ Some rule
rules-early insts d k i rule loud e =
    least-rules insts d k i loud ∙ sym (ap (λ (o : Option ℕ). option_or o (least (unless (depth_fits (cond d.begun None (entry (says insts) d.table i))) 309))) e)

-- none does
pub rules-late : (insts : List Instruction) (d : Declared) (k : ℕ) (i : Instruction) (b : Bool) → is_line i ≡ false →
    None ≡ first_failing (early_tests insts d k i) → depth_fits (cond d.begun None (entry (says insts) d.table i)) ≡ b →
    least (rules_at insts d k i) ≡ cond b None (Some 309)
rules-late insts d k i b loud e depth =
    least-rules insts d k i loud
    ∙ sym (ap (λ (o : Option ℕ). option_or o (least (unless (depth_fits (cond d.begun None (entry (says insts) d.table i))) 309))) e)
    ∙ ap (λ p. least (unless p 309)) depth ∙ last b
  where
    last : (b : Bool) → least (unless b 309) ≡ cond b None (Some 309)
    last true = refl
    last false = refl
