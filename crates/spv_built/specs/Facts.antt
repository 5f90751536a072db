-- What is not built.
use Rattle.std.specs.Prelude.{List, []}
use Rattle.spv_base.specs.declared.header.Header.{Header}
use Rattle.spv_bodies.specs.Bodies.{Function}
use Rattle.spv_built.specs.Built.{IsBuilt}

-- a header alone is not built, whatever the functions
abbrev pub HeaderIsNotBuilt : Type 0
HeaderIsNotBuilt = (header : Header) (fs : List Function) → ¬ IsBuilt (record { header = header; insts = [] }) fs
