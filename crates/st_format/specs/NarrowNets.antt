-- A wide beat that comes apart: its first part, and the rest of it.
use Rattle.std.specs.Prelude.{◌≡◌, ℕ, ◌+◌, ◌-◌, ◌*◌, ◌/◌, ◌%◌, ◌^◌, ◌<◌, Bool, true, not, ◌&&◌, ◌==◌, nat_lt, if◌then◌else◌}
use Rattle.netlist.specs.Nets.{NetValue}
use Rattle.netlist.specs.Netlists.{Netlist, IsWaiting}
use Rattle.netlist.specs.Runs.{Cycle, Run, cycle_of, IsRun, Always}
use Rattle.netlist.specs.Longer.{Extends}
use Rattle.stream_runs.specs.View.{Beat}
use Rattle.stream_machines.specs.Stage.{Shape, PassesAll}
use Rattle.stream_machines.specs.Parts.{narrow_shape, of_symbols}
use Rattle.stage_core.specs.declared.beat.BeatNets.{BeatNets}
use Rattle.net_parts.specs.Nets.{IsBit}
use Rattle.stage_core.specs.Beats.{AreBeatNets, HaveSameWidths}
use Rattle.stage_core.specs.Groups.{Shown, shown_in, AreNumbered, IsOfBeat, AreRegisters, StartsEmpty}
use Rattle.net_parts.specs.Laws.{net_lasts}
use Rattle.stage_core.specs.Lasting.{beat_lasts, registers_last}
use Rattle.st_format.specs.declared.sizes.Sizes.{Sizes}
use Rattle.st_format.specs.declared.narrow.NarrowKept.{NarrowKept}
use Rattle.st_format.specs.Counted.{counted}

-- a side of wide beats upstream, and downstream the same with narrow ones, both with the first symbol in the high-order bits
-- and ready latency 0, with a test that all channels pass
pub record IsNarrowShape (sizes : Sizes) (shape : Shape) : Type 0 where
  pub is : shape ≡ narrow_shape shape.passes shape.up (of_symbols shape.up sizes.symbols)
  pub symbols_are : shape.up.symbols ≡ sizes.symbols * sizes.parts
  pub bits_are : shape.up.symbol_bits ≡ sizes.bits
  pub first_high : shape.up.first_high ≡ true
  pub at_once : shape.up.pace.latency ≡ 0
  pub passes : PassesAll shape.passes shape.up

-- with so many empty symbols a part follows the first one
abbrev pub more_follow : Sizes → ℕ → Bool
more_follow sizes empty = nat_lt empty (sizes.symbols * (sizes.parts - 1))

-- a part follows the first one: there are symbols behind it
abbrev pub has_more : Sizes → Beat → Bool
has_more sizes beat = more_follow sizes beat.empty

-- the empty symbols of the first part
abbrev pub piece_empty : Sizes → ℕ → ℕ
piece_empty sizes empty = if more_follow sizes empty then 0 else empty - sizes.symbols * (sizes.parts - 1)

-- the first part of a wide beat whose empty counts
abbrev pub piece_of : Sizes → Beat → Beat
piece_of sizes beat =
    record {
      word = beat.word / 2 ^ (sizes.bits * (sizes.symbols * (sizes.parts - 1))) % 2 ^ (sizes.bits * sizes.symbols);
      channel = beat.channel;
      error = beat.error;
      first = beat.first;
      last = if has_more sizes beat then 0 else beat.last;
      empty = piece_empty sizes beat.empty;
    }

-- what is left behind the first part, as a wide beat whose lowest part is 0
abbrev pub rest_of : Sizes → Beat → Beat
rest_of sizes beat =
    record {
      word = beat.word % 2 ^ (sizes.bits * (sizes.symbols * (sizes.parts - 1))) * 2 ^ (sizes.bits * sizes.symbols);
      channel = beat.channel;
      error = beat.error;
      first = 0;
      last = beat.last;
      empty = (beat.empty + sizes.symbols) % 2 ^ sizes.count;
    }

abbrev pub shown_piece : Sizes → Shown → Shown
shown_piece sizes shown = record { valid = shown.valid; beat = piece_of sizes shown.beat }

-- the same as it is held: its word has all parts but the lowest one, which is 0
abbrev pub shown_rest : Sizes → Shown → Shown
shown_rest sizes shown =
    record {
      valid = if has_more sizes shown.beat then 1 else 0;
      beat =
          record (rest_of sizes shown.beat) { word = shown.beat.word % 2 ^ (sizes.bits * (sizes.symbols * (sizes.parts - 1))) };
    }

-- what is held above the lowest part of a word
abbrev pub laid_above : Sizes → Shown → ℕ → Shown
laid_above sizes held word =
    record {
      valid = held.valid;
      beat =
          record held.beat { word = held.beat.word * 2 ^ (sizes.bits * sizes.symbols) + word % 2 ^ (sizes.bits * sizes.symbols) };
    }

-- the wide beat of the cycle: what is held of one, or else the one that is shown. The lowest part of the one that is shown stands
-- below what is held too, and counts for nothing there
abbrev pub now_of : Sizes → Shown → Shown → Shown
now_of sizes held from = if held.valid == 1 then laid_above sizes held from.beat.word else counted sizes.count from

abbrev pub shown_now : Sizes → Cycle → BeatNets → BeatNets → Shown
shown_now sizes cycle held from = now_of sizes (shown_in cycle held) (shown_in cycle from)

-- the nets are as wide as these, but for a word of one part less
pub record HaveRestWidths (sizes : Sizes) (nets like : BeatNets) : Type 0 where
  pub word : nets.word.width ≡ sizes.bits * (sizes.symbols * (sizes.parts - 1))
  pub channel : nets.channel.width ≡ like.channel.width
  pub error : nets.error.width ≡ like.error.width
  pub empty : nets.empty.width ≡ like.empty.width

-- between the calls
pub record NarrowKeeps (kept : NarrowKept) (netlist : Netlist) : Type 0 where
  pub held : AreBeatNets netlist kept.held
  pub rest : AreBeatNets netlist kept.rest
  pub widths : HaveSameWidths kept.rest kept.held
  pub registers : AreRegisters netlist kept.held kept.held.valid.number
  pub shown : IsBit netlist kept.shown

-- after the first call: nothing is held at first, and the first part of the wide beat is shown
pub record NarrowForward (sizes : Sizes) (from to : BeatNets) (kept : NarrowKept) (netlist : Netlist) : Type 0 where
  pub shown_is : kept.shown ≡ to.valid
  pub numbers : AreNumbered kept.held kept.held.valid.number
  pub starts : StartsEmpty netlist kept.held
  pub shows : Always netlist (λ cycle. shown_in cycle to ≡ shown_piece sizes (shown_now sizes cycle kept.held from))
  pub rests : Always netlist (λ cycle. shown_in cycle kept.rest ≡ shown_rest sizes (shown_now sizes cycle kept.held from))

-- after the second call: ready is passed on while nothing is held, and where the part goes the rest is held
pub record NarrowBackward (kept : NarrowKept) (ready up : NetValue) (netlist : Netlist) : Type 0 where
  pub asks : Always netlist (λ cycle. (cycle.net up.number == 1)
      ≡ (not (cycle.net kept.held.valid.number == 1) && (cycle.net ready.number == 1)))
  pub moves : (run : Run) (cycles : ℕ) → IsRun netlist run cycles → (c : ℕ) → c + 1 < cycles
      → shown_in (cycle_of run (c + 1)) kept.held
      ≡ (if (run.net c kept.shown.number == 1) && (run.net c ready.number == 1) then shown_in (cycle_of run c) kept.rest
      else shown_in (cycle_of run c) kept.held)

-- ---- what stands lasts. No contract reads these proofs; the law of the stage cites them

pub keeps_lasts : (kept : NarrowKept) (old new : Netlist) → NarrowKeeps kept old → Extends old new
    → ((n : ℕ) → IsOfBeat kept.held n → IsWaiting old n → IsWaiting new n) → NarrowKeeps kept new
keeps_lasts kept old new h e w = record {
  held = beat_lasts old new kept.held e h.held;
  rest = beat_lasts old new kept.rest e h.rest;
  widths = h.widths;
  registers = registers_last old new kept.held kept.held.valid.number w h.registers;
  shown = net_lasts old new kept.shown 1 e h.shown;
}

pub forward_lasts : (sizes : Sizes) (from to : BeatNets) (kept : NarrowKept) (old new : Netlist)
    → NarrowForward sizes from to kept old → Extends old new → NarrowForward sizes from to kept new
forward_lasts sizes from to kept old new h e = record {
  shown_is = h.shown_is;
  numbers = h.numbers;
  starts = λ run cycles r. h.starts run cycles (e.runs run cycles r);
  shows = λ cycle v. h.shows cycle (e.valuations cycle v);
  rests = λ cycle v. h.rests cycle (e.valuations cycle v);
}

pub backward_lasts : (kept : NarrowKept) (ready up : NetValue) (old new : Netlist) → NarrowBackward kept ready up old
    → Extends old new → NarrowBackward kept ready up new
backward_lasts kept ready up old new h e = record {
  asks = λ cycle v. h.asks cycle (e.valuations cycle v);
  moves = λ run cycles r. h.moves run cycles (e.runs run cycles r);
}
