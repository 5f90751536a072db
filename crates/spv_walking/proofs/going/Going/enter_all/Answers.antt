use Rattle.std.proofs.Common.{◌+◌, ◌≤◌, ◌∷◌, [], ℕ, List, length, take, get_or, subst, arith}
use Rattle.std.proofs.lemmas.List.{take_all, take_more}
use Rattle.spv_blocks.specs.Blocks.{end_targets}
use Rattle.spv_blocks.specs.Tables.{found}
use Rattle.spv_blocks.specs.Seen.{seen_block}
use Rattle.spv_walking.specs.Onward.{Goes}
use Rattle.spv_walking.specs.Places.{context_at}
use Rattle.spv_walking.specs.Steps.{Comes}
use Rattle.spv_walking.proofs.Targets.{comes_context, comes_within, goes_none, goes_more}
use Rattle.spv_walking.proofs.going.Going.enter_all.Goals as goal

pub enter-requires : goal.enter-requires
enter-requires c =
    comes_within c.args.labels.now c.args.self.now c.targets.self
    (Goes c.args.labels.now (found c.args.enterers.now) c.args.header (seen_block c.args.block.now) (context_at c.args.self.now.walked.rows c.args.shared) (take c.targets.k (end_targets (seen_block c.args.block.now).end)))
    c.args.shared c.targets.invariant c.requires

pub targets-init : goal.targets-init
targets-init c = goes_none c.args.labels.now (found c.args.enterers.now) c.args.header (seen_block c.args.block.now) c.args.self.now (context_at c.args.self.now.walked.rows c.args.shared)

pub targets-preserved : goal.targets-preserved
targets-preserved c =
    let f = c.args.labels.now in
    let enterer = found c.args.enterers.now in
    let b = c.args.header in
    let x = seen_block c.args.block.now in
    let s = context_at c.args.self.now.walked.rows c.args.shared in
    let ts = end_targets x.end in
    let i = c.targets.k in
    let mid = context_at c.targets.self.walked.rows c.args.shared in
    goes_more f enterer b x c.args.self.now c.targets.self c.enter.new.self s mid (take i ts) (take (i + 1) ts) (get_or ts i 0) c.targets.invariant
    (comes_context f c.args.self.now c.targets.self (Goes f enterer b x s (take i ts)) c.args.shared c.targets.invariant c.requires)
    (subst (λ (t : ℕ). Comes f c.targets.self c.enter.new.self (Goes f enterer b x mid (t ∷ []))) c.target.ensures c.in_ok-enter.ensures)
    (take_more ts i 0 (omega arith))

pub returns : goal.returns
returns c =
    let f = c.args.labels.now in
    let x = seen_block c.args.block.now in
    let s = context_at c.args.self.now.walked.rows c.args.shared in
    let ts = end_targets x.end in
    let all : length ts ≤ c.targets.k = omega arith in
    subst (λ (us : List ℕ). Comes f c.args.self.now c.targets.self (Goes f (found c.args.enterers.now) c.args.header x s us)) (take_all c.targets.k ts all) c.targets.invariant
