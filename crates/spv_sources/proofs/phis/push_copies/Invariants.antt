use Rattle.std.proofs.Common.{◌≡◌, take}
use Rattle.spv_bodies.specs.Bodies.{Body}
use Rattle.spv_spelling.specs.Text.{copies}
use Rattle.spv_tree.specs.Tree.{items_then, words_of}
use Rattle.spv_sources.specs.Values.{shown}
use Rattle.spv_sources.proofs.phis.push_copies.Given as goal

abbrev pub invariant-phis : goal.invariant-phis
invariant-phis l = (rest : Body) → items_then l.items.items rest ≡ items_then l.fn.items.items (copies (words_of (shown (take l.phi-index l.phis))) rest)
