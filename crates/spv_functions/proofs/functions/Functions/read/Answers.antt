use Rattle.std.proofs.Common.{◌≡◌, ◌<◌, ℕ, Bool, length, sym, subst, arith}
use Rattle.std.proofs.Math.Path.{fun_ext}
use Rattle.std.specs.BTreeSet.{contains}
use Rattle.std.specs.Ordering.{nat_cmp}
use Rattle.std.specs.Prelude.{IfOk}
use Rattle.spv_blocks.specs.Cutting.{blocks_of, function_at}
use Rattle.spv_spelling.specs.Whole.{AreInstructions}
use Rattle.spv_parse.specs.Parsed.{tree_of}
use Rattle.spv_functions.specs.Functions.{Answers, AreFunctions, is_pointer}
use Rattle.spv_functions.proofs.Answering.{parses_answers}
use Rattle.spv_functions.proofs.Declared.{declared_own, declared_text, function_is, start_at, start_within}
use Rattle.spv_functions.proofs.functions.Functions.read.Goals as goal

pub index-requires : goal.index-requires
index-requires c =
    let own = subst (AreFunctions c.args.flat.now.insts) (sym c.self.view_is) c.requires.own in
    let within : c.args.f < length c.self.inside.starts.items = start_within c.args.flat.now.insts c.self.inside.starts.items c.args.f own.starts c.requires.within in
    omega arith

pub parse_function-requires-clause-text : goal.parse_function-requires-clause-text
parse_function-requires-clause-text c =
    let insts = c.args.flat.now.insts in
    let own = subst (AreFunctions insts) (sym c.self.view_is) c.requires.own in
    let first = c.index.result.now in
    let at = start_at insts c.self.inside.starts.items c.args.f first own.starts c.requires.within c.index.ensures in
    declared_text insts c.args.f first at (subst AreInstructions c.insts.ensures.same c.each_is_instruction.ensures) c.requires.declared c.requires.within

pub parse_function-requires-clause-own : goal.parse_function-requires-clause-own
parse_function-requires-clause-own c =
    let insts = c.args.flat.now.insts in
    let own = subst (AreFunctions insts) (sym c.self.view_is) c.requires.own in
    let first = c.index.result.now in
    let at = start_at insts c.self.inside.starts.items c.args.f first own.starts c.requires.within c.index.ensures in
    declared_own insts c.args.f first at (subst AreInstructions c.insts.ensures.same c.each_is_instruction.ensures) c.requires.declared

pub returns-clause-tree : goal.returns-clause-tree
returns-clause-tree c =
    let insts = c.args.flat.now.insts in
    let own = subst (AreFunctions insts) (sym c.self.view_is) c.requires.own in
    let first = c.index.result.now in
    let at = start_at insts c.self.inside.starts.items c.args.f first own.starts c.requires.within c.index.ensures in
    let tree = tree_of c.parse_function.result in
    let told = parses_answers (contains nat_cmp c.self.inside.pointers) (function_at first insts) tree c.parse_function.ensures.tree in
    subst (λ is. Answers (is_pointer insts) is tree) (sym (function_is insts c.args.f first at))
    (subst (λ (p : ℕ → Bool). Answers p (function_at first insts) tree) (fun_ext own.pointers) told)

pub returns-clause-shape : goal.returns-clause-shape
returns-clause-shape c =
    let insts = c.args.flat.now.insts in
    let own = subst (AreFunctions insts) (sym c.self.view_is) c.requires.own in
    let first = c.index.result.now in
    let at = start_at insts c.self.inside.starts.items c.args.f first own.starts c.requires.within c.index.ensures in
    subst (λ is. IfOk c.parse_function.result (λ parsed. parsed.shape ≡ blocks_of is)) (sym (function_is insts c.args.f first at)) c.parse_function.ensures.shape
