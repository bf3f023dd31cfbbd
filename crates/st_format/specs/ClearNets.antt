-- The empty symbols of each beat set to 0.
use Rattle.std.specs.Prelude.{◌≡◌, ℕ, ◌-◌, ◌*◌, ◌/◌, ◌^◌, ◌<◌, ◌==◌, if◌then◌else◌, true, false}
use Rattle.netlist.specs.Netlists.{Netlist}
use Rattle.netlist.specs.Runs.{Always}
use Rattle.netlist.specs.Longer.{Extends}
use Rattle.stream_runs.specs.View.{Beat}
use Rattle.stream_machines.specs.Stage.{Shape, PassesAll}
use Rattle.stream_machines.specs.Wires.{wire_shape}
use Rattle.stage_core.specs.declared.beat.BeatNets.{BeatNets}
use Rattle.stage_core.specs.Beats.{beat_in}

-- a side of so many symbols of so many bits, the first symbol in the high-order bits, at both ends, with a test that all
-- channels pass
pub record IsClearShape (symbols bits : ℕ) (shape : Shape) : Type 0 where
  pub is : shape ≡ wire_shape shape.passes shape.up shape.up shape.up.pace.latency false
  pub symbols_are : shape.up.symbols ≡ symbols
  pub bits_are : shape.up.symbol_bits ≡ bits
  pub first_high : shape.up.first_high ≡ true
  pub some : 0 < shape.up.symbols
  pub passes : PassesAll shape.passes shape.up

-- the word with its lowest bits set to 0
abbrev pub without_low : ℕ → ℕ → ℕ
without_low low word = word / 2 ^ low * 2 ^ low

-- with the lowest of so many symbols set to 0, as many as are empty
abbrev pub without_empty : ℕ → ℕ → ℕ → ℕ → ℕ
without_empty bits symbols empty word = without_low (bits * (symbols - (symbols - empty))) word

-- the empty symbols at a packet's end set to 0
abbrev pub cleared : ℕ → ℕ → Beat → Beat
cleared symbols bits beat = record beat { word = without_empty bits symbols (if beat.last == 1 then beat.empty else 0) beat.word }

-- the beat goes through with its empty symbols set to 0
pub record ClearsBeat (symbols bits : ℕ) (from to : BeatNets) (netlist : Netlist) : Type 0 where
  pub valid : to.valid ≡ from.valid
  pub shows : Always netlist (λ cycle. beat_in cycle to ≡ cleared symbols bits (beat_in cycle from))

-- this lasts. No contract reads the proof; the law of the stage cites it
pub clears_lasts : (symbols bits : ℕ) (from to : BeatNets) (old new : Netlist) → ClearsBeat symbols bits from to old
    → Extends old new → ClearsBeat symbols bits from to new
clears_lasts symbols bits from to old new h e =
    record { valid = h.valid; shows = λ cycle v. h.shows cycle (e.valuations cycle v) }
