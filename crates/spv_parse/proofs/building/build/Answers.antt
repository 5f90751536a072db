use Rattle.std.proofs.Common.{List, length, refl, subst, ap, ◌∙◌}
use Rattle.spv_tree.specs.declared.body.Item.{Item}
use Rattle.spv_tree.specs.Tree.{sequence_body}
use Rattle.spv_sources.specs.Source.{stays_of}
use Rattle.spv_parse.specs.declared.scene.Scene.{Scene}
use Rattle.spv_parse.specs.declared.state.State.TheVariants as state
use Rattle.spv_parse.specs.Scene.{code_of}
use Rattle.spv_parse.specs.Ends.{Ends, SpellsState}
use Rattle.spv_parse.proofs.First.{first_bare, first_of, first_stands, scene_of, spells_whole}
use Rattle.spv_parse.proofs.building.build.Goals as goal

pub sequence-requires : goal.sequence-requires
sequence-requires c =
    let s : Scene = record { source = c.args.source; labels = c.args.labels; walked = c.args.walked } in
    let label = c.first-label.result in
    let scene = scene_of s c.requires.same c.is_admitted.ensures c.requires.walk in
    let first = first_of (code_of s) label c.first-label.ensures.same c.first-label.ensures.is in
    let stands = first_stands s scene label first c.count.result (c.count.ensures ∙ ap length c.requires.same) in
    (stands, first_bare s label c.count.result stands first)

pub returns : goal.returns
returns c =
    let s : Scene = record { source = c.args.source; labels = c.args.labels; walked = c.args.walked } in
    let label = c.first-label.result in
    let scene = scene_of s c.requires.same c.is_admitted.ensures c.requires.walk in
    let first = first_of (code_of s) label c.first-label.ensures.same c.first-label.ensures.is in
    spells_whole s (stays_of c.args.source.now)
    record { function = c.in_ok-function.field-0.function; parameters = c.in_ok-function.field-0.parameters; label = label; sequence = c.in_ok-sequence.sequence }
    scene refl c.are_staying.ensures c.in_ok-function.ensures c.first-label.ensures.same first
    (subst (λ (z : List Item). Ends (SpellsState s (state.Behind label)) z (sequence_body c.in_ok-sequence.sequence)) c.new.ensures.items c.in_ok-sequence.ensures)
