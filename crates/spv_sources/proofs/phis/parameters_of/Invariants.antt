use Rattle.std.proofs.Common.{◌≡◌, map, take}
use Rattle.spv_spelling.specs.Text.{parameter_of as parameter_in}
use Rattle.spv_tree.specs.Tree.{parameter_of, words_of}
use Rattle.spv_sources.specs.Source.{label_in}
use Rattle.spv_sources.specs.Values.{shown}
use Rattle.spv_sources.proofs.phis.parameters_of.Given as goal

abbrev pub invariant-phis : goal.invariant-phis
invariant-phis l = map parameter_of l.made ≡ map (parameter_in (label_in l.stays.entries)) (words_of (shown (take l.phi-index l.phis)))
