use Rattle.std.proofs.Common.{◌≡◌, List, length, sym, ap, subst, ◌∙◌, arith}
use Rattle.std.specs.List.{flat_map}
use Rattle.spv_base.specs.declared.header.Header.{Header}
use Rattle.spv_module.specs.Code.{Code}
use Rattle.spv_module.specs.Instruction.{Instruction}
use Rattle.spv_module.specs.List.{instructions_in}
use Rattle.spv_module.proofs.Spans.{spanned}
use Rattle.spv_placing.specs.Placing.{placed_from}
use Rattle.spv_placing.proofs.Spelled.{few_from_words, spelled_placed, AreInstructions}
use Rattle.spv_placing.proofs.Steps.{placed_count, placed_words}
use Rattle.spv_placing.proofs.placing.placed.Goals as goal

pub from_parts-requires-2-clause-few : goal.from_parts-requires-2-clause-few
from_parts-requires-2-clause-few c =
    let same = c.into_parts-pool.ensures.insts ∙ c.into_parts-insts.ensures.insts in
    let whole : AreInstructions c.args.flat.insts =
    subst AreInstructions same
    (λ k i at. spanned c.into_parts-pool.result.0.words.items c.into_parts-pool.result.0.roles.items c.into_parts-pool.result.1.items k i
    c.into_parts-pool.ensures.spans.whole at) in
    omega (
      arith,
      ap length (c.from_parts.ensures ∙ c.place_all.ensures.placed ∙ ap (placed_from 5) same),
      placed_count 5 c.args.flat.insts,
      few_from_words c.args.flat.insts whole,
      c.requires,
    )

pub from_parts-requires-2-clause-room : goal.from_parts-requires-2-clause-room
from_parts-requires-2-clause-room c =
    c.into_parts-insts.ensures.room
    ∙ ap length (sym (c.into_parts-pool.ensures.insts ∙ c.into_parts-insts.ensures.insts))
    ∙ sym (ap length (c.from_parts.ensures ∙ c.place_all.ensures.placed)
    ∙ placed_count 5 (instructions_in c.into_parts-pool.result.0 c.into_parts-pool.result.1.items))

pub returns-clause-same : goal.returns-clause-same
returns-clause-same c =
    let insts : c.from_parts.result ≡ placed_from 5 c.args.flat.insts =
    c.from_parts.ensures ∙ c.place_all.ensures.placed ∙ ap (placed_from 5) (c.into_parts-pool.ensures.insts ∙ c.into_parts-insts.ensures.insts) in
    let whole : AreInstructions c.args.flat.insts =
    subst AreInstructions (c.into_parts-pool.ensures.insts ∙ c.into_parts-insts.ensures.insts)
    (λ k i at. spanned c.into_parts-pool.result.0.words.items c.into_parts-pool.result.0.roles.items c.into_parts-pool.result.1.items k i
    c.into_parts-pool.ensures.spans.whole at) in
    c.from_parts-2.ensures
    ∙ ap (λ (h : Header). record { header = h; insts = c.from_parts.result }) c.into_parts-insts.ensures.header
    ∙ ap (λ (is : List Instruction). record { header = c.args.flat.header; insts = is }) insts
    ∙ sym (spelled_placed c.args.flat whole)

pub returns-clause-small : goal.returns-clause-small
returns-clause-small c =
    let insts : c.from_parts.result ≡ placed_from 5 c.args.flat.insts =
    c.from_parts.ensures ∙ c.place_all.ensures.placed ∙ ap (placed_from 5) (c.into_parts-pool.ensures.insts ∙ c.into_parts-insts.ensures.insts) in
    omega (
      arith,
      ap (λ (code : Code). length (flat_map (λ (i : Instruction). i.words) code.insts)) c.from_parts-2.ensures,
      ap (λ (is : List Instruction). length (flat_map (λ (i : Instruction). i.words) is)) insts,
      ap length (placed_words 5 c.args.flat.insts),
      c.requires,
    )
