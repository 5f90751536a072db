-- The rules one by one: an instruction that breaks none keeps to each, and the other way round; and where each instruction keeps to all, nothing is found.
use Rattle.std.proofs.Common.{◌≡◌, ℕ, ◌+◌, Bool, true, false, cond, not, ◌&&◌, ◌||◌, List, [], ◌∷◌, ◌++◌, length, None, refl, sym, ap, ap₂, ◌∙◌, append_assoc, arith}
use Rattle.std.proofs.lemmas.Bool.{and_parts, not-true}
use Rattle.spv_module.specs.Code.{is_line}
use Rattle.spv_module.specs.First.{first, here, unless}
use Rattle.spv_module.specs.Instruction.{Instruction}
use Rattle.spv_module.proofs.Ids.{first_nil, second_nil}
use Rattle.spv_meaning.specs.Statements.{Statement}
use Rattle.spv_ids.specs.Ids.{id_rules, is_second, names_unknown}
use Rattle.spv_typing.specs.Types.{type_fits}
use Rattle.spv_typing.specs.Operations.{spec_op_fits}
use Rattle.spv_repeats.specs.Repeats.{occurs_before, repeats_before}
use Rattle.spv_decorations.specs.Targets.{decoration_fits}
use Rattle.spv_declarations.specs.Constants.{constant_fits}
use Rattle.spv_declarations.specs.Declarations.{Declared, says, declare, declare_all, nothing_declared}
use Rattle.spv_declarations.specs.Broken.{rules_at, declaration_rules, group_3, group_3_from}
use Rattle.spv_declarations.proofs.Unbroken.{Keeps, keeps}

-- and its decoration is new
pub record KeepsAll (insts : List Instruction) (d : Declared) (k : ℕ) (i : Instruction) : Type 0 where
  pub kept : Keeps insts d k i
  pub new_decoration : repeats_before insts k i ≡ false

passes : (b : Bool) (rule : ℕ) → unless b rule ≡ [] → b ≡ true
passes true rule h = refl
passes false rule h = absurd (cc h)

at_cond : (b : Bool) (rules : List ℕ) → b ≡ false → cond b [] rules ≡ [] → rules ≡ []
at_cond true rules e h = absurd (cc e)
at_cond false rules e h = h

pub keeps_all : (insts : List Instruction) (d : Declared) (k : ℕ) (i : Instruction) → is_line i ≡ false → rules_at insts d k i ≡ [] → KeepsAll insts d k i
unfolding rules_at
keeps_all insts d k i plain h =
    let all = at_cond (is_line i) (id_rules insts d.begun k i ++ declaration_rules insts d k i) plain h in
    let r3 = second_nil (id_rules insts d.begun k i) (declaration_rules insts d k i) all in
    let r4 = second_nil (unless (type_fits insts i && not (occurs_before insts k i)) 303) _ r3 in
    let r5 = second_nil (unless (d.begun || constant_fits insts d i) 304) _ r4 in
    let r6 = second_nil (unless (spec_op_fits insts i) 305) _ r5 in
    let both =
    and_parts (decoration_fits insts i) (not (repeats_before insts k i))
    (passes _ 306 (first_nil (unless (decoration_fits insts i && not (repeats_before insts k i)) 306) _ r6)) in
    record { kept = keeps insts d k i plain h; new_decoration = not-true (repeats_before insts k i) both.1 }

nil_both : {A : Type 0} (xs ys : List A) → xs ≡ [] → ys ≡ [] → xs ++ ys ≡ []
nil_both xs ys h g = ap₂ (λ x y. x ++ y) h g

not_broken : (b : Bool) (rule : ℕ) → b ≡ true → unless b rule ≡ []
not_broken b rule h = ap (λ z. unless z rule) h

both_true : (a b : Bool) → a ≡ true → b ≡ false → (a && not b) ≡ true
both_true a b h g = ap₂ (λ y z. y && not z) h g

pub breaks_none : (insts : List Instruction) (d : Declared) (k : ℕ) (i : Instruction) → KeepsAll insts d k i → rules_at insts d k i ≡ []
unfolding rules_at
breaks_none insts d k i keeps = by (is_line i) where
  ids : unless (not (is_second insts k i)) 301 ++ unless (not (names_unknown insts d.begun k i)) 302 ≡ []
  ids =
      nil_both _ _ (not_broken (not (is_second insts k i)) 301 (ap not keeps.kept.once))
      (not_broken (not (names_unknown insts d.begun k i)) 302 (ap not keeps.kept.known))

  declarations : declaration_rules insts d k i ≡ []
  declarations =
      nil_both _ _ (not_broken _ 303 (both_true (type_fits insts i) (occurs_before insts k i) keeps.kept.types keeps.kept.new_type))
      (nil_both _ _ (not_broken _ 304 keeps.kept.constants)
      (nil_both _ _ (not_broken _ 305 keeps.kept.operations)
      (nil_both _ _ (not_broken _ 306 (both_true (decoration_fits insts i) (repeats_before insts k i) keeps.kept.decorations keeps.new_decoration))
      (nil_both _ _ (not_broken _ 307 keeps.kept.layouts)
      (nil_both _ _ (not_broken _ 308 keeps.kept.globals) (not_broken _ 309 keeps.kept.depths))))))

  by : (b : Bool)
      → cond b [] (cond b [] (unless (not (is_second insts k i)) 301 ++ unless (not
      (names_unknown insts d.begun k i)) 302) ++ declaration_rules insts d k i) ≡ []
  by true = refl
  by false = nil_both _ _ ids declarations

-- ---- a whole module

pub declare_one_more : (all : List Statement) (d : Declared) (is : List Instruction) (i : Instruction)
    → declare_all all d (is ++ i ∷ []) ≡ declare all (declare_all all d is) i
declare_one_more all d [] i = refl
declare_one_more all d (x ∷ is) i = declare_one_more all (declare all d x) is i

length_one_more : (is : List Instruction) (i : Instruction) → length (is ++ i ∷ []) ≡ length is + 1
length_one_more [] i = refl
length_one_more (x ∷ is) i = let more = length_one_more is i in omega (arith, more)

-- what stands before a place: the instructions, what they declare, and how many they are
abbrev pub NoneAt : List Instruction → (before : List Instruction) → Instruction → Type 0
NoneAt all before i = rules_at all (declare_all (says all) nothing_declared before) (length before) i ≡ []

-- by induction on the instructions that are left
none_from : (all before is : List Instruction) → all ≡ before ++ is
    → ((qs : List Instruction) (j : Instruction) (post : List Instruction) → all ≡ qs ++ j ∷ post → NoneAt all qs j)
    → group_3_from all (declare_all (says all) nothing_declared before) (length before) is ≡ []
unfolding group_3_from
none_from all before [] e each = refl
none_from all before (i ∷ is) e each =
    nil_both _ _ (ap (here i.offset) (each before i is e))
    (ap₂ (λ d k. group_3_from all d k is) (sym (declare_one_more (says all) nothing_declared before i)) (sym (length_one_more before i))
    ∙ none_from all (before ++ i ∷ []) is (e ∙ sym (append_assoc before (i ∷ []) is)) each)

pub none_found : (all : List Instruction)
    → ((qs : List Instruction) (j : Instruction) (post : List Instruction) → all ≡ qs ++ j ∷ post → NoneAt all qs j) → first (group_3 all) ≡ None
none_found all each = ap first (none_from all [] all refl each)
