-- What an instruction keeps to that breaks no rule.
use Rattle.std.proofs.Common.{◌≡◌, ℕ, Bool, true, false, cond, not, ◌&&◌, ◌||◌, List, [], ◌++◌, None, refl}
use Rattle.std.proofs.lemmas.Bool.{and_parts, not-true, or_parts}
use Rattle.spv_module.specs.Code.{is_line}
use Rattle.spv_module.specs.First.{unless}
use Rattle.spv_module.specs.Instruction.{Instruction, opcode}
use Rattle.spv_module.proofs.Ids.{first_nil, second_nil}
use Rattle.spv_meaning.specs.Statements.{is_silent_opcode, is_debug_opcode, is_line_opcode}
use Rattle.spv_ids.specs.Ids.{id_rules, is_second, names_unknown}
use Rattle.spv_typing.specs.Types.{type_fits}
use Rattle.spv_typing.specs.Operations.{spec_op_fits}
use Rattle.spv_repeats.specs.Repeats.{occurs_before, repeats_before}
use Rattle.spv_decorations.specs.Targets.{decoration_fits}
use Rattle.spv_decorations.specs.Globals.{global_fits}
use Rattle.spv_declarations.specs.Constants.{constant_fits}
use Rattle.spv_declarations.specs.Declarations.{Declared, says, entry}
use Rattle.spv_declarations.specs.Broken.{rules_at, declaration_rules, layout_fits, depth_fits}

-- the rules that an instruction keeps which breaks none and is no line mark
pub record Keeps (insts : List Instruction) (d : Declared) (k : ℕ) (i : Instruction) : Type 0 where
  pub once : is_second insts k i ≡ false
  pub known : names_unknown insts d.begun k i ≡ false
  pub types : type_fits insts i ≡ true
  pub new_type : occurs_before insts k i ≡ false
  pub constants : (d.begun || constant_fits insts d i) ≡ true
  pub operations : spec_op_fits insts i ≡ true
  pub decorations : decoration_fits insts i ≡ true
  pub layouts : layout_fits d i ≡ true
  pub globals : global_fits insts d.begun i ≡ true
  pub depths : depth_fits (cond d.begun None (entry (says insts) d.table i)) ≡ true

passes : (b : Bool) (rule : ℕ) → unless b rule ≡ [] → b ≡ true
passes true rule h = refl
passes false rule h = cc

at_cond : (b : Bool) (rules : List ℕ) → b ≡ false → cond b [] rules ≡ [] → rules ≡ []
at_cond true rules e h = cc
at_cond false rules e h = h

pub keeps : (insts : List Instruction) (d : Declared) (k : ℕ) (i : Instruction) → is_line i ≡ false → rules_at insts d k i ≡ [] → Keeps insts d k i
unfolding rules_at
keeps insts d k i plain h =
    let all = at_cond (is_line i) (id_rules insts d.begun k i ++ declaration_rules insts d k i) plain h in
    let ids =
    at_cond (is_line i) (unless (not (is_second insts k i)) 301 ++ unless (not (names_unknown insts d.begun k i)) 302) plain
    (first_nil (id_rules insts d.begun k i) (declaration_rules insts d k i) all) in
    let r3 = second_nil (id_rules insts d.begun k i) (declaration_rules insts d k i) all in
    let r4 = second_nil (unless (type_fits insts i && not (occurs_before insts k i)) 303) _ r3 in
    let r5 = second_nil (unless (d.begun || constant_fits insts d i) 304) _ r4 in
    let r6 = second_nil (unless (spec_op_fits insts i) 305) _ r5 in
    let r7 = second_nil (unless (decoration_fits insts i && not (repeats_before insts k i)) 306) _ r6 in
    let r8 = second_nil (unless (layout_fits d i) 307) _ r7 in
    let r9 = second_nil (unless (global_fits insts d.begun i) 308) _ r8 in
    let types_both =
    and_parts (type_fits insts i) (not (occurs_before insts k i))
    (passes _ 303 (first_nil (unless (type_fits insts i && not (occurs_before insts k i)) 303) _ r3)) in
    let decorations_both =
    and_parts (decoration_fits insts i) (not (repeats_before insts k i))
    (passes _ 306 (first_nil (unless (decoration_fits insts i && not (repeats_before insts k i)) 306) _ r6)) in
    record {
      once = not-true (is_second insts k i) (passes _ 301 (first_nil (unless (not (is_second insts k i)) 301) _ ids));
      known = not-true (names_unknown insts d.begun k i) (passes _ 302 (second_nil (unless (not (is_second insts k i)) 301) _ ids));
      types = types_both.0;
      new_type = not-true (occurs_before insts k i) types_both.1;
      constants = passes _ 304 (first_nil (unless (d.begun || constant_fits insts d i) 304) _ r4);
      operations = passes _ 305 (first_nil (unless (spec_op_fits insts i) 305) _ r5);
      decorations = decorations_both.0;
      layouts = passes _ 307 (first_nil (unless (layout_fits d i) 307) _ r7);
      globals = passes _ 308 (first_nil (unless (global_fits insts d.begun i) 308) _ r8);
      depths = passes _ 309 r9;
    }

-- what says something is no line mark
pub loud-plain : (i : Instruction) → is_silent_opcode (opcode i) ≡ false → is_line i ≡ false
loud-plain i h = (or_parts (is_debug_opcode (opcode i)) (is_line_opcode (opcode i)) h).1
