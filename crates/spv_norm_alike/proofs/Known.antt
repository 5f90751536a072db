-- The same constants are Specialised, and so Known: in functions nothing is declared, and what goes outside them is no constant.
use Rattle.std.proofs.Common.{◌≡◌, ℕ, Bool, true, false, cond, not, ◌&&◌, ◌||◌, List, [], ◌∷◌, ◌++◌, Option, refl, sym, ap, ◌∙◌}
use Rattle.std.specs.Prelude.{slice_index, is_some}
use Rattle.std.specs.List.{filter, list_any}
use Rattle.spv_opcodes.specs.declared.op.TheConstants as op
use Rattle.spv_opcodes.specs.declared.decoration.TheConstants as decoration
use Rattle.spv_grammar.specs.Roles.{is_used_id}
use Rattle.spv_module.specs.Code.{is_function}
use Rattle.spv_module.specs.Instruction.{Instruction, opcode}
use Rattle.spv_meaning.specs.Constants.{Table, decorated, meaning}
use Rattle.spv_meaning.specs.Meanings.{constant_words}
use Rattle.spv_meaning.specs.Statements.{Statement}
use Rattle.spv_ids.specs.Ids.{words_with}
use Rattle.spv_typing.specs.Kinds.{is_one_of}
use Rattle.spv_declarations.specs.Declarations.{Declared, declare, declare_all, is_specialised, nothing_declared, says}
use Rattle.spv_declarations.specs.Laws.{meanings}
use Rattle.spv_declarations.proofs.Declares.{AllOf}
use Rattle.spv_declarations.proofs.Whole.{take_all}
use Rattle.spv_types.specs.Lookup.{kind_in, known_word, specialised, word_in}
use Rattle.spv_walk.proofs.Unique.{equal_true}
use Rattle.spv_tree.specs.Tree.{words_of}
use Rattle.spv_norm.specs.Norm.{outside, stays_outside, staying}
use Rattle.spv_norm_declared.proofs.Walks.{inst_of}
use Rattle.spv_norm_alike.proofs.Lists.{going, of_going}

-- the ids of Specialised constants behind some lines
abbrev pub specialised_by : (all : List Statement) → List ℕ → List (List ℕ) → List ℕ
specialised_by all ids [] = ids
specialised_by all ids (w ∷ ws) = specialised_by all (cond (is_specialised all ids (inst_of w)) (ids ++ slice_index w 2 ∷ []) ids) ws

-- ---- functions declare nothing

begun_keeps : (all : List Statement) (is : List Instruction) (d : Declared) → d.begun ≡ true → (declare_all all d is).specialised ≡ d.specialised
begun_keeps all [] d h = refl
begun_keeps all (i ∷ is) d h =
    begun_keeps all is (declare all d i) (ap (λ b. b || is_function i) h)
    ∙ ap (λ (b : Bool). cond (not b && is_specialised all d.specialised i) (d.specialised ++ slice_index i.words 2 ∷ []) d.specialised) h

-- what no opcode of a Specialised constant has
abbrev pub NotSpecialised : ℕ → Type 0
NotSpecialised o =
    (is_one_of (op.SPEC_CONSTANT_TRUE ∷ op.SPEC_CONSTANT_FALSE ∷ op.SPEC_CONSTANT ∷ []) o ≡ false)
    × (is_one_of (op.SPEC_CONSTANT_COMPOSITE ∷ op.SPEC_CONSTANT_OP ∷ []) o ≡ false)

not_specialised : (all : List Statement) (ids : List ℕ) (i : Instruction) → NotSpecialised (opcode i) → is_specialised all ids i ≡ false
not_specialised all ids i h =
    ap (λ (b : Bool). cond b (is_some (decorated all (slice_index i.words 2) decoration.SPEC_ID))
    (is_one_of (op.SPEC_CONSTANT_COMPOSITE ∷ op.SPEC_CONSTANT_OP ∷ []) (opcode i) && list_any (is_one_of ids) (words_with is_used_id i))) h.0
    ∙ ap (λ (b : Bool). b && list_any (is_one_of ids) (words_with is_used_id i)) h.1

function_not : (i : Instruction) → is_function i ≡ true → NotSpecialised (opcode i)
function_not i h =
    let e = equal_true (opcode i) op.FUNCTION h in (
      ap (is_one_of (op.SPEC_CONSTANT_TRUE ∷ op.SPEC_CONSTANT_FALSE ∷ op.SPEC_CONSTANT ∷ [])) e,
      ap (is_one_of (op.SPEC_CONSTANT_COMPOSITE ∷ op.SPEC_CONSTANT_OP ∷ [])) e,
    )

-- by induction on the instructions
specialised_outside : (all : List Statement) (is : List Instruction) (d : Declared) → d.begun ≡ false
    → (declare_all all d is).specialised ≡ specialised_by all d.specialised (words_of (outside is))
specialised_outside all [] d h = refl
specialised_outside all (i ∷ is) d h = by (is_function i) refl (specialised_outside all is (declare all d i)) where
  here : (declare all d i).specialised ≡ cond (is_specialised all d.specialised i) (d.specialised ++ slice_index i.words 2 ∷ []) d.specialised
  here = ap (λ (b : Bool). cond (not b && is_specialised all d.specialised i) (d.specialised ++ slice_index i.words 2 ∷ []) d.specialised) h

  by : (b : Bool) → is_function i ≡ b
      → ((declare all d i).begun ≡ false
      → (declare_all all (declare all d i) is).specialised ≡ specialised_by all (declare all d i).specialised (words_of (outside is)))
      → (declare_all all (declare all d i) is).specialised ≡ specialised_by all d.specialised (words_of (cond b [] (i ∷ outside is)))
  by true e more =
      begun_keeps all is (declare all d i) (ap (λ b. b || is_function i) h ∙ e)
      ∙ here ∙ ap (λ (b : Bool). cond b (d.specialised ++ slice_index i.words 2 ∷ []) d.specialised) (not_specialised all d.specialised i (function_not i e))
  by false e more =
      more (ap (λ b. b || is_function i) h ∙ e)
      ∙ ap (λ ids. specialised_by all ids (words_of (outside is))) here

-- ---- what goes is no constant

gone_not : AllOf NotSpecialised going
gone_not = ((refl, refl), ((refl, refl), ((refl, refl), ((refl, refl), ((refl, refl), tt)))))

-- by induction on the instructions
staying_specialised : (insts : List Instruction) (all : List Statement) (is : List Instruction) (ids : List ℕ)
    → specialised_by all ids (words_of (filter (stays_outside insts) is)) ≡ specialised_by all ids (words_of is)
staying_specialised insts all [] ids = refl
staying_specialised insts all (i ∷ is) ids = by (stays_outside insts i) refl (staying_specialised insts all is) where
  next : List ℕ
  next = cond (is_specialised all ids i) (ids ++ slice_index i.words 2 ∷ []) ids

  by : (b : Bool) → stays_outside insts i ≡ b
      → ((jds : List ℕ) → specialised_by all jds (words_of (filter (stays_outside insts) is)) ≡ specialised_by all jds (words_of is))
      → specialised_by all ids (words_of (cond b (i ∷ filter (stays_outside insts) is) (filter (stays_outside insts) is)))
      ≡ specialised_by all next (words_of is)
  by true e more = more next
  by false e more =
      more ids ∙ sym (ap (λ (b : Bool). specialised_by all (cond b (ids ++ slice_index i.words 2 ∷ []) ids) (words_of is))
      (not_specialised all ids i (of_going NotSpecialised gone_not insts i e)))

-- ---- the statements matter by their decorations alone

module _ (all all2 : List Statement) (same : (id d : ℕ) → decorated all2 id d ≡ decorated all id d) where
  is_specialised_same : (ids : List ℕ) (i : Instruction) → is_specialised all2 ids i ≡ is_specialised all ids i
  is_specialised_same ids i =
      ap (λ (o : Option (List ℕ)). cond (is_one_of (op.SPEC_CONSTANT_TRUE ∷ op.SPEC_CONSTANT_FALSE ∷ op.SPEC_CONSTANT ∷ []) (opcode i)) (is_some o)
      (is_one_of (op.SPEC_CONSTANT_COMPOSITE ∷ op.SPEC_CONSTANT_OP ∷ []) (opcode i) && list_any (is_one_of ids) (words_with is_used_id i)))
      (same (slice_index i.words 2) decoration.SPEC_ID)

  specialised_same : (ws : List (List ℕ)) (ids : List ℕ) → specialised_by all2 ids ws ≡ specialised_by all ids ws
  specialised_same [] ids = refl
  specialised_same (w ∷ ws) ids =
      ap (λ (b : Bool). specialised_by all2 (cond b (ids ++ slice_index w 2 ∷ []) ids) ws) (is_specialised_same ids (inst_of w))
      ∙ specialised_same ws (cond (is_specialised all ids (inst_of w)) (ids ++ slice_index w 2 ∷ []) ids)

specialised_told : (insts : List Instruction) → specialised insts ≡ specialised_by (says insts) [] (words_of (outside insts))
specialised_told insts =
    ap (λ is. (declare_all (says insts) nothing_declared is).specialised) (take_all insts)
    ∙ specialised_outside (says insts) insts nothing_declared refl

pub specialised_alike : (insts again : List Instruction) → words_of (outside again) ≡ words_of (staying insts)
    → ((id d : ℕ) → decorated (says again) id d ≡ decorated (says insts) id d) → specialised again ≡ specialised insts
specialised_alike insts again same decorations =
    specialised_told again ∙ ap (specialised_by (says again) []) same
    ∙ specialised_same (says insts) (says again) decorations (words_of (staying insts)) []
    ∙ staying_specialised insts (says insts) (outside insts) []
    ∙ sym (specialised_told insts)

abbrev known_of : List ℕ → Table → (id k : ℕ) → Option ℕ
known_of ids table id k =
    word_in (kind_in (is_one_of ids id) (constant_words (meaning table id))) (constant_words (meaning table id)) k

pub known_alike : (insts again : List Instruction) → specialised again ≡ specialised insts → meanings again ≡ meanings insts
    → (id k : ℕ) → known_word again id k ≡ known_word insts id k
known_alike insts again ids tables id k = λ i. known_of (ids i) (tables i) id k
