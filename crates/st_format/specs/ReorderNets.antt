-- The symbols of each beat in the other order.
use Rattle.std.specs.Prelude.{◌≡◌, ℕ, ◌<◌, false}
use Rattle.netlist.specs.Netlists.{Netlist}
use Rattle.netlist.specs.Runs.{Always}
use Rattle.netlist.specs.Longer.{Extends}
use Rattle.stream_machines.specs.Stage.{Shape, PassesAll}
use Rattle.stream_machines.specs.Wires.{wire_shape, turned_side}
use Rattle.stream_machines.specs.Words.{turned_word}
use Rattle.stage_core.specs.declared.beat.BeatNets.{BeatNets}
use Rattle.stage_core.specs.Beats.{beat_in}

-- a side of so many symbols of so many bits upstream, and downstream the same with its symbols in the other order, with a
-- test that all channels pass
pub record IsReorderShape (symbols bits : ℕ) (shape : Shape) : Type 0 where
  pub is : shape ≡ wire_shape shape.passes shape.up (turned_side shape.up) shape.up.pace.latency false
  pub symbols_are : shape.up.symbols ≡ symbols
  pub bits_are : shape.up.symbol_bits ≡ bits
  pub some : 0 < shape.up.symbols
  pub passes : PassesAll shape.passes shape.up

-- the beat goes through with the symbols of its word in the other order
pub record TurnsBeat (symbols bits : ℕ) (from to : BeatNets) (netlist : Netlist) : Type 0 where
  pub valid : to.valid ≡ from.valid
  pub shows : Always netlist (λ cycle. beat_in cycle to
      ≡ (record (beat_in cycle from) { word = turned_word bits symbols (cycle.net from.word.number) }))

-- this lasts. No contract reads the proof; the law of the stage cites it
pub turns_lasts : (symbols bits : ℕ) (from to : BeatNets) (old new : Netlist) → TurnsBeat symbols bits from to old
    → Extends old new → TurnsBeat symbols bits from to new
turns_lasts symbols bits from to old new h e = record { valid = h.valid; shows = λ cycle v. h.shows cycle (e.valuations cycle v) }
