-- Wires between the parts, and what may differ on their two sides: the longest burst.
use Rattle.std.specs.Prelude.{◌≡◌, ℕ, ◌≤◌}
use Rattle.memory_runs.specs.Views.{Shape}
use Rattle.memory_machines.specs.Link.{Port}

-- with a burstcount of so many bits
abbrev pub shape_with : ℕ → Shape → Shape
shape_with bits shape = record shape { burst_bits = bits }

abbrev pub with_bursts : ℕ → Port → Port
with_bursts bits port = record port { shape = shape_with bits port.shape }

-- a wire: all is one on both sides, but that bursts may be longer below
pub record IsWire (up down : Port) : Type 0 where
  pub same : with_bursts down.shape.burst_bits up ≡ down
  pub longer : up.shape.burst_bits ≤ down.shape.burst_bits

-- where nothing is shown a wire may lead to any words
pub record HandsAllOn (up down : Port) : Type 0 where
  pub commands : up.commands ≡ down.commands
  pub answers : up.answers ≡ down.answers
