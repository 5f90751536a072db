-- A small module in which the rules find nothing.
use Rattle.std.specs.Prelude.{◌≡◌, ℕ, List, [], ◌∷◌, ◌++◌}
use Rattle.spv_base.specs.declared.header.Header.{Header}
use Rattle.spv_module.specs.Code.{Code}
use Rattle.spv_bodies.specs.Bodies.{Finishes, Function}
use Rattle.spv_normal.specs.Facts.{written, opening, ending}
use Rattle.spv_tree.specs.declared.body.Body.{Body}
use Rattle.spv_tree.specs.Tree.{body_of}
use Rattle.spv_admitted.specs.Laws.{FindNothing}

-- OpCapability Shader; OpMemoryModel; OpEntryPoint GLCompute %1 "m"; OpExecutionMode %1 LocalSize 1 1 1; %2 = OpTypeVoid; %3 = OpTypeFunction %2
abbrev pub opened : List (List ℕ)
opened =
    (0x0002_0011 ∷ 1 ∷ []) ∷ (0x0003_000E ∷ 0 ∷ 1 ∷ []) ∷ (0x0004_000F ∷ 5 ∷ 1 ∷ 0x6D ∷ []) ∷ (0x0006_0010 ∷ 1 ∷ 17 ∷ 1 ∷ 1 ∷ 1 ∷ [])
    ∷ (0x0002_0013 ∷ 2 ∷ []) ∷ (0x0003_0021 ∷ 3 ∷ 2 ∷ []) ∷ []

-- the function %1: %4: OpReturn
abbrev pub returning : List (List ℕ)
returning = opening ∷ (0x0002_00F8 ∷ 4 ∷ []) ∷ (0x0001_00FD ∷ []) ∷ ending ∷ []

abbrev pub small_header : Header
small_header = record { version = 0x0001_0600; generator = 0; bound = 5; schema = 0 }

abbrev pub small : Code
small = record { header = small_header; insts = written (opened ++ returning) }

-- its tree
abbrev pub small_tree : Function
small_tree = record { function = opening; parameters = []; label = 4; body = Finishes (0x0001_00FD ∷ []) }

-- the rules find nothing in it, with any tree that code has of its function
abbrev pub SmallFindsNothing : Type 0
SmallFindsNothing = (body : Body) → body_of body ≡ small_tree → FindNothing small (body ∷ [])
