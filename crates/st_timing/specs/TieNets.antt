-- Ready tied to 1.
use Rattle.std.specs.Prelude.{◌≡◌, ◌<◌, true}
use Rattle.netlist.specs.Nets.{NetValue}
use Rattle.netlist.specs.Netlists.{Netlist}
use Rattle.netlist.specs.Runs.{Always}
use Rattle.stream_machines.specs.Stage.{Shape, PassesAll}
use Rattle.stream_machines.specs.Buffers.{direct_side}
use Rattle.stream_machines.specs.Wires.{wire_shape}

-- a side of any pace upstream, and downstream the same with ready latency 0 and a sink that must always be ready, with a
-- test that all channels pass
pub record IsTieShape (shape : Shape) : Type 0 where
  pub is : shape ≡ wire_shape shape.passes shape.up (direct_side shape.up) 0 true
  pub some : 0 < shape.up.symbols
  pub passes : PassesAll shape.passes shape.up

-- the net is always 1
abbrev pub IsTied : Netlist → NetValue → Type 0
IsTied netlist net = Always netlist (λ cycle. cycle.net net.number ≡ 1)
