-- The blocks that the structs of the code hold.
use Rattle.std.specs.Prelude.{List, map}
use Rattle.spv_blocks.specs.declared.block.Ins.{Ins as DeclaredIns}
use Rattle.spv_blocks.specs.declared.block.Ins.TheVariants as the
use Rattle.spv_blocks.specs.declared.block.End.{End as DeclaredEnd}
use Rattle.spv_blocks.specs.declared.block.End.TheVariants as the_end
use Rattle.spv_blocks.specs.declared.block.Block.{Block as DeclaredBlock}
use Rattle.spv_blocks.specs.declared.block.Construct.{Construct as DeclaredConstruct}
use Rattle.spv_blocks.specs.declared.block.Construct.TheVariants as the_construct
use Rattle.spv_blocks.specs.Blocks.{Ins, Phi, Selection, Loop, Other, End, Branch, BranchIf, Switch, Return, Unreachable, Open, Block, Construct, ASelection, ASwitch, ALoop, Code}

abbrev pub seen_ins : DeclaredIns → Ins
seen_ins (the.Phi at t r pairs) = Phi at t r pairs.items
seen_ins (the.Selection at merge) = Selection at merge
seen_ins (the.Loop at merge next) = Loop at merge next
seen_ins (the.Other at) = Other at

abbrev pub seen_end : DeclaredEnd → End
seen_end (the_end.Branch target) = Branch target
seen_end (the_end.BranchIf one other) = BranchIf one other
seen_end (the_end.Switch default cases) = Switch default cases.items
seen_end the_end.Return = Return
seen_end the_end.Unreachable = Unreachable
seen_end the_end.Open = Open

abbrev pub seen_block : DeclaredBlock → Block
seen_block block = record {
  label = block.label;
  at = block.at;
  body = map seen_ins block.body.items;
  end_at = block.end_at;
  end = seen_end block.end;
}

abbrev pub seen_code : List DeclaredBlock → Code
seen_code blocks = map seen_block blocks

abbrev pub seen_construct : DeclaredConstruct → Construct
seen_construct (the_construct.Selection merge) = ASelection merge
seen_construct (the_construct.Switch merge) = ASwitch merge
seen_construct (the_construct.Loop merge next) = ALoop merge next
