-- What is defined outside functions is so in both: what goes there defines nothing.
use Rattle.std.proofs.Common.{◌≡◌, ℕ, Bool, true, false, cond, ◌||◌, List, [], ◌∷◌, refl, sym, ap, ◌∙◌}
use Rattle.std.specs.List.{AllByRecursion, filter, list_any}
use Rattle.spv_grammar.specs.Fronts.{has_result}
use Rattle.spv_grammar.specs.Table.{row_of}
use Rattle.spv_module.specs.Code.{is_function}
use Rattle.spv_module.specs.Instruction.{Instruction, opcode}
use Rattle.spv_ids.specs.Ids.{defines}
use Rattle.spv_typing.specs.Kinds.{is_outside}
use Rattle.spv_declarations.proofs.Declares.{AllOf}
use Rattle.spv_tree.specs.Tree.{words_of}
use Rattle.spv_norm.specs.Norm.{outside, stays_outside, staying}
use Rattle.spv_norm_declared.proofs.Definitions.{defines_by}
use Rattle.spv_norm_declared.proofs.Definitions.{no_result}
use Rattle.spv_norm_alike.proofs.Lists.{going, of_going}
use Rattle.spv_norm_alike.proofs.Values.{IsFormed}

or_by : (b x y : Bool) → x ≡ y → cond b true x ≡ (b || y)
or_by true x y h = refl
or_by false x y h = h

-- by induction on the instructions
pub outside_told : (is : List Instruction) (id : ℕ) → is_outside is id ≡ list_any (defines_by id) (words_of (outside is))
outside_told [] id = refl
outside_told (i ∷ is) id = by (is_function i) (outside_told is id) where
  by : (b : Bool) → is_outside is id ≡ list_any (defines_by id) (words_of (outside is))
      → cond b false (cond (defines id i) true (is_outside is id)) ≡ list_any (defines_by id) (words_of (cond b [] (i ∷ outside is)))
  by true more = refl
  by false more = or_by (defines id i) (is_outside is id) (list_any (defines_by id) (words_of (outside is))) more

none_has_result : AllOf (λ o. has_result o ≡ false) going
unfolding row_of
none_has_result = (refl, (refl, (refl, (refl, (refl, tt)))))

gone_defines_nothing : (insts : List Instruction) (id : ℕ) (i : Instruction) → IsFormed i → stays_outside insts i ≡ false → defines id i ≡ false
gone_defines_nothing insts id i formed h = no_result id (opcode i) i formed refl (of_going (λ o. has_result o ≡ false) none_has_result insts i h)

-- by induction on the instructions
staying_define : (insts : List Instruction) (id : ℕ) (is : List Instruction) → AllByRecursion IsFormed is
    → list_any (defines_by id) (words_of (filter (stays_outside insts) is)) ≡ list_any (defines_by id) (words_of is)
staying_define insts id [] h = refl
staying_define insts id (i ∷ is) h = by (stays_outside insts i) refl (staying_define insts id is h.1) where
  by : (b : Bool) → stays_outside insts i ≡ b
      → list_any (defines_by id) (words_of (filter (stays_outside insts) is)) ≡ list_any (defines_by id) (words_of is)
      → list_any (defines_by id) (words_of (cond b (i ∷ filter (stays_outside insts) is) (filter (stays_outside insts) is)))
      ≡ (defines id i || list_any (defines_by id) (words_of is))
  by true e more = ap (λ b. defines id i || b) more
  by false e more = more ∙ sym (ap (λ b. b || list_any (defines_by id) (words_of is)) (gone_defines_nothing insts id i h.0 e))

pub all_outside : (P : Instruction → Type 0) (is : List Instruction) → AllByRecursion P is → AllByRecursion P (outside is)
all_outside P [] h = tt
all_outside P (i ∷ is) h = by (is_function i) (all_outside P is h.1) where
  by : (b : Bool) → AllByRecursion P (outside is) → AllByRecursion P (cond b [] (i ∷ outside is))
  by true more = tt
  by false more = (h.0, more)

pub outside_alike : (insts again : List Instruction) → AllByRecursion IsFormed insts → words_of (outside again) ≡ words_of (staying insts)
    → (id : ℕ) → is_outside again id ≡ is_outside insts id
outside_alike insts again formed same id =
    outside_told again id ∙ ap (list_any (defines_by id)) same ∙ staying_define insts id (outside insts) (all_outside IsFormed insts formed)
    ∙ sym (outside_told insts id)
