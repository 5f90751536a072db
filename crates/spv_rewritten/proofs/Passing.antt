-- What is rewritten is no type, constant, decoration or global variable, so it breaks none of the rules on these.
use Rattle.std.proofs.Common.{◌≡◌, ℕ, Bool, true, false, cond, not, ◌==◌, ◌&&◌, ◌||◌, List, [], ◌∷◌, None, refl, ap, ap₂, ◌∙◌}
use Rattle.std.specs.List.{list_any, slice_index}
use Rattle.spv_opcodes.specs.declared.builtin.TheConstants as builtin
use Rattle.spv_opcodes.specs.declared.decoration.TheConstants as decoration
use Rattle.spv_opcodes.specs.declared.op.TheConstants as op
use Rattle.spv_module.specs.Instruction.{Instruction, opcode}
use Rattle.spv_meaning.specs.Statements.{Statement}
use Rattle.spv_ids.specs.Ids.{is_declaration}
use Rattle.spv_repeats.specs.Repeats.{is_same_decoration, is_same_member_decoration, is_same_spec_id, is_same_type, is_unique_type, is_workgroup_size, occurs, repeats, single_decorations, unique_types}
use Rattle.spv_repeats.specs.Repeats as repeating
use Rattle.spv_typing.specs.Kinds.{is_one_of}
use Rattle.spv_typing.specs.Operations.{spec_op_fits}
use Rattle.spv_typing.specs.Types.{type_fits}
use Rattle.spv_decorations.specs.Globals.{global_fits}
use Rattle.spv_decorations.specs.Targets.{decoration_fits}
use Rattle.spv_declarations.specs.Broken.{depth_fits, layout_fits}
use Rattle.spv_declarations.specs.Constants.{constant_fits}
use Rattle.spv_declarations.specs.Declarations.{Declared, entry}
use Rattle.spv_alike_uses.proofs.Lookups.{each}
use Rattle.spv_rewritten.specs.Rewritten.{settled_kinds}
use Rattle.spv_rewritten.proofs.Common.{none_settled, not_settled}
use Rattle.spv_rewritten.proofs.Rows.{no_declaration}
use Rattle.spv_rewritten.proofs.Statements.{rewritten_entry}

off : {A : Type 0} (b : Bool) (x y : A) → b ≡ false → cond b x y ≡ y
off b x y e = ap (λ z. cond z x y) e

and_none : (b : Bool) → (b && false) ≡ false
and_none true = refl
and_none false = refl

or_true : (b : Bool) → (b || true) ≡ true
or_true true = refl
or_true false = refl

not_first : (b x : Bool) → b ≡ false → (not b || x) ≡ true
not_first true x e = absurd (cc e)
not_first false x e = refl

not_second : (a b x : Bool) → b ≡ false → (a || not b || x) ≡ true
not_second a true x e = absurd (cc e)
not_second true false x e = refl
not_second false false x e = refl

not_third : (a b x y : Bool) → b ≡ false → (a || not b || x || y) ≡ true
not_third a true x y e = absurd (cc e)
not_third true false x y e = refl
not_third false false x y e = refl

no_depth : (b : Bool) → depth_fits (cond b None None) ≡ true
no_depth true = refl
no_depth false = refl

truths : List ℕ
truths = op.CONSTANT_TRUE ∷ op.CONSTANT_FALSE ∷ op.SPEC_CONSTANT_TRUE ∷ op.SPEC_CONSTANT_FALSE ∷ []

numbers : List ℕ
numbers = op.CONSTANT ∷ op.SPEC_CONSTANT ∷ []

module _ (j : Instruction) (s : is_one_of settled_kinds (opcode j) ≡ false) where
  abbrev o : ℕ
  o = opcode j

  pub declares_nothing : (begun : Bool) → is_declaration begun j ≡ false
  declares_nothing begun = ap (λ b. not begun && b) (no_declaration (opcode j) s) ∙ and_none (not begun)

  pub type_passes : (insts : List Instruction) → type_fits insts j ≡ true
  unfolding type_fits
  type_passes insts =
      off (o == op.TYPE_INT) _ _ (not_settled op.TYPE_INT o refl s) ∙ off (o == op.TYPE_VECTOR) _ _ (not_settled op.TYPE_VECTOR o refl s)
      ∙ off (o == op.TYPE_ARRAY) _ _ (not_settled op.TYPE_ARRAY o refl s) ∙ off (o == op.TYPE_RUNTIME_ARRAY) _ _ (not_settled op.TYPE_RUNTIME_ARRAY o refl s)
      ∙ off (o == op.TYPE_STRUCT) _ _ (not_settled op.TYPE_STRUCT o refl s) ∙ off (o == op.TYPE_POINTER) _ _ (not_settled op.TYPE_POINTER o refl s)
      ∙ off (o == op.TYPE_FUNCTION) _ _ (not_settled op.TYPE_FUNCTION o refl s)

  pub new_type_passes : (before : List Instruction) → occurs before j ≡ false
  new_type_passes before =
      ap (λ b. b && list_any (is_same_type j) before) (none_settled unique_types o (λ n. each (is_one_of settled_kinds) unique_types refl n) s)

  constant_passes : (insts : List Instruction) (d : Declared) → constant_fits insts d j ≡ true
  unfolding truths numbers
  constant_passes insts d =
      off (is_one_of truths o) _ _ (none_settled truths o (λ n. each (is_one_of settled_kinds) truths refl n) s)
      ∙ off (is_one_of numbers o) _ _ (none_settled numbers o (λ n. each (is_one_of settled_kinds) numbers refl n) s)
      ∙ off (o == op.CONSTANT_NULL) _ _ (not_settled op.CONSTANT_NULL o refl s) ∙ off (o == op.UNDEF) _ _ (not_settled op.UNDEF o refl s)
      ∙ off (o == op.SPEC_CONSTANT_COMPOSITE) _ _ (not_settled op.SPEC_CONSTANT_COMPOSITE o refl s)
      ∙ off (o == op.CONSTANT_COMPOSITE) _ _ (not_settled op.CONSTANT_COMPOSITE o refl s)

  pub constants_pass : (insts : List Instruction) (d : Declared) → (d.begun || constant_fits insts d j) ≡ true
  constants_pass insts d = ap (λ b. d.begun || b) (constant_passes insts d) ∙ or_true d.begun

  pub operation_passes : (insts : List Instruction) → spec_op_fits insts j ≡ true
  unfolding spec_op_fits
  operation_passes insts = not_first (o == op.SPEC_CONSTANT_OP) _ (not_settled op.SPEC_CONSTANT_OP o refl s)

  pub decoration_passes : (insts : List Instruction) → decoration_fits insts j ≡ true
  unfolding decoration_fits
  decoration_passes insts =
      off (o == op.DECORATE) _ _ (not_settled op.DECORATE o refl s) ∙ off (o == op.MEMBER_DECORATE) _ _ (not_settled op.MEMBER_DECORATE o refl s)

  pub new_decoration_passes : (before : List Instruction) → repeats before j ≡ false
  new_decoration_passes before =
      ap₂ (λ (a b : Bool).
      (a && list_any (is_same_decoration j) before && repeating.is_one_of single_decorations (slice_index j.words 2))
      || (b && list_any (is_same_member_decoration j) before && repeating.is_one_of single_decorations (slice_index j.words 3))
      || ((a && (slice_index j.words 2 == decoration.SPEC_ID)) && list_any (is_same_spec_id j) before)
      || ((a && ((slice_index j.words 2 == decoration.BUILTIN) && (slice_index j.words 3 == builtin.WORKGROUP_SIZE))) && list_any is_workgroup_size before))
      (not_settled op.DECORATE o refl s) (not_settled op.MEMBER_DECORATE o refl s)

  pub layouts_pass : (d : Declared) → layout_fits d j ≡ true
  layouts_pass d = not_third d.begun (o == op.VARIABLE) _ _ (not_settled op.VARIABLE o refl s)

  pub globals_pass : (insts : List Instruction) (begun : Bool) → global_fits insts begun j ≡ true
  unfolding global_fits
  globals_pass insts begun = not_second begun (o == op.VARIABLE) _ (not_settled op.VARIABLE o refl s)

  pub depths_pass : (all : List Statement) (d : Declared) → depth_fits (cond d.begun None (entry all d.table j)) ≡ true
  depths_pass all d = ap (λ e. depth_fits (cond d.begun None e)) (rewritten_entry j all d.table s) ∙ no_depth d.begun
