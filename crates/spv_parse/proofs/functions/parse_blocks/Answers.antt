use Rattle.std.proofs.Common.{ℕ, Bool, None, refl, subst, sym, ap, ◌∙◌}
use Rattle.std.specs.List.{slice_get}
use Rattle.std.specs.BTreeSet.{contains}
use Rattle.std.specs.Ordering.{nat_cmp}
use Rattle.std.specs.Prelude.{Result}
use Rattle.std.specs.Result.{IfOk}
use Rattle.spv_base.specs.declared.fault.Refusal.{Refusal}
use Rattle.spv_blocks.specs.Blocks.{Code}
use Rattle.spv_blocks.specs.Cutting.{function_at}
use Rattle.spv_blocks.specs.Tables.{found}
use Rattle.spv_walk.specs.Rules.{Broken, IsFirst}
use Rattle.spv_walk.specs.Walked.{AreEnterers, InPlaces, IsWalk}
use Rattle.spv_walking.specs.Depths.{IsDepth}
use Rattle.spv_walking.specs.Table.{context_of}
use Rattle.spv_flow.specs.declared.flows.Flow.{Flow}
use Rattle.spv_flow.specs.Known.{AreToldLoops}
use Rattle.spv_spelling.specs.Whole.{AreInstructions}
use Rattle.spv_texts.proofs.Marks.{blocks_without_marks}
use Rattle.spv_parse.proofs.Admitted.{IsTold, told_admitted, told_clean, told_nested}
use Rattle.spv_parse.proofs.functions.parse_blocks.Goals as goal

pub returns-then-depth-gt-DEPTH-clause-tree : goal.returns-then-depth-gt-DEPTH-clause-tree
returns-then-depth-gt-DEPTH-clause-tree c =
    let f = c.args.function.now in
    let flow = c.in-Ok.flow in
    let is_pointer : ℕ → Bool = contains nat_cmp c.args.pointers.now in
    let insts = function_at c.args.first c.args.flat.now.insts in
    let told : IsTold is_pointer insts f (found flow.enterers) (context_of flow.walked) = record {
      same = c.requires.blocks;
      unbroken = subst (λ (r : Result Flow Refusal). IfOk r (λ x. IsFirst (Broken is_pointer f) None)) c.in-Ok.is c.in_ok-refusal.ensures.clean;
      enterers = subst (λ (r : Result Flow Refusal). IfOk r (λ x. AreEnterers f (found x.enterers))) c.in-Ok.is c.in_ok-refusal.ensures.enterers;
      walk = subst (λ (r : Result Flow Refusal). IfOk r (λ x. IsWalk f (InPlaces (context_of x.walked)))) c.in-Ok.is c.in_ok-refusal.ensures.walk;
      loops = subst (λ (r : Result Flow Refusal). IfOk r (λ x. AreToldLoops f)) c.in-Ok.is c.in_ok-refusal.ensures.loops;
    } in
    let nested =
    told_nested is_pointer insts f (found flow.enterers) (context_of flow.walked) told c.depth.result
    (subst (λ (z : Code). IsDepth z (InPlaces (context_of flow.walked)) c.depth.result) c.in_ok-labels.ensures c.depth.ensures) in
    record { depth = c.depth.result; nested = nested; above = c.if-depth-gt-DEPTH.true }

pub parse_unbroken-requires-clause-admitted : goal.parse_unbroken-requires-clause-admitted
parse_unbroken-requires-clause-admitted c =
    let f = c.args.function.now in
    let flow = c.in-Ok.flow in
    let is_pointer : ℕ → Bool = contains nat_cmp c.args.pointers.now in
    let insts = function_at c.args.first c.args.flat.now.insts in
    let told : IsTold is_pointer insts f (found flow.enterers) (context_of flow.walked) = record {
      same = c.requires.blocks;
      unbroken = subst (λ (r : Result Flow Refusal). IfOk r (λ x. IsFirst (Broken is_pointer f) None)) c.in-Ok.is c.in_ok-refusal.ensures.clean;
      enterers = subst (λ (r : Result Flow Refusal). IfOk r (λ x. AreEnterers f (found x.enterers))) c.in-Ok.is c.in_ok-refusal.ensures.enterers;
      walk = subst (λ (r : Result Flow Refusal). IfOk r (λ x. IsWalk f (InPlaces (context_of x.walked)))) c.in-Ok.is c.in_ok-refusal.ensures.walk;
      loops = subst (λ (r : Result Flow Refusal). IfOk r (λ x. AreToldLoops f)) c.in-Ok.is c.in_ok-refusal.ensures.loops;
    } in
    told_admitted is_pointer insts f (found flow.enterers) (context_of flow.walked) told c.args.flat.now.insts c.args.first refl c.requires.text
    (subst AreInstructions c.insts.ensures.same c.each_is_instruction.ensures)
    (λ k i at. c.each_is_short.ensures k i (ap (λ is. slice_get is k) c.from.ensures ∙ at)) c.requires.own

pub parse_unbroken-requires-clause-same : goal.parse_unbroken-requires-clause-same
parse_unbroken-requires-clause-same c =
    c.in_ok-labels.ensures ∙ c.requires.blocks ∙ sym (blocks_without_marks (function_at c.args.first c.args.flat.now.insts))

pub returns-clause-tree : goal.returns-clause-tree
returns-clause-tree c =
    let f = c.args.function.now in
    let flow = c.in-Ok.flow in
    let is_pointer : ℕ → Bool = contains nat_cmp c.args.pointers.now in
    let insts = function_at c.args.first c.args.flat.now.insts in
    let told : IsTold is_pointer insts f (found flow.enterers) (context_of flow.walked) = record {
      same = c.requires.blocks;
      unbroken = subst (λ (r : Result Flow Refusal). IfOk r (λ x. IsFirst (Broken is_pointer f) None)) c.in-Ok.is c.in_ok-refusal.ensures.clean;
      enterers = subst (λ (r : Result Flow Refusal). IfOk r (λ x. AreEnterers f (found x.enterers))) c.in-Ok.is c.in_ok-refusal.ensures.enterers;
      walk = subst (λ (r : Result Flow Refusal). IfOk r (λ x. IsWalk f (InPlaces (context_of x.walked)))) c.in-Ok.is c.in_ok-refusal.ensures.walk;
      loops = subst (λ (r : Result Flow Refusal). IfOk r (λ x. AreToldLoops f)) c.in-Ok.is c.in_ok-refusal.ensures.loops;
    } in
    let nested =
    told_nested is_pointer insts f (found flow.enterers) (context_of flow.walked) told c.depth.result
    (subst (λ (z : Code). IsDepth z (InPlaces (context_of flow.walked)) c.depth.result) c.in_ok-labels.ensures c.depth.ensures) in
    record { depth = c.depth.result; nested = nested; within = c.if-depth-gt-DEPTH.false; clean = told_clean is_pointer insts f (found flow.enterers) (context_of flow.walked) told; spelled = c.in_ok-body-in-Ok.ensures }

pub returns-clause-shaped : goal.returns-clause-shaped
returns-clause-shaped c =
    let f = c.args.function.now in
    let flow = c.in-Ok.flow in
    record {
      is_pointer = contains nat_cmp c.args.pointers.now;
      unbroken = subst (λ (r : Result Flow Refusal). IfOk r (λ x. IsFirst (Broken (contains nat_cmp c.args.pointers.now) f) None)) c.in-Ok.is c.in_ok-refusal.ensures.clean;
      enterers = subst (λ (r : Result Flow Refusal). IfOk r (λ x. AreEnterers f (found x.enterers))) c.in-Ok.is c.in_ok-refusal.ensures.enterers;
      walk = subst (λ (r : Result Flow Refusal). IfOk r (λ x. IsWalk f (InPlaces (context_of x.walked)))) c.in-Ok.is c.in_ok-refusal.ensures.walk;
      loops = subst (λ (r : Result Flow Refusal). IfOk r (λ x. AreToldLoops f)) c.in-Ok.is c.in_ok-refusal.ensures.loops;
    }
