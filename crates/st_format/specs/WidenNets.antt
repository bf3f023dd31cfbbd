-- Narrow beats that are joined to a wide one: what is gathered, and the beat that joins it with the one that is shown.
use Rattle.std.specs.Prelude.{◌≡◌, ℕ, zero, suc, ◌+◌, ◌-◌, ◌*◌, ◌/◌, ◌%◌, ◌^◌, ◌<◌, Bool, true, false, not, ◌&&◌, ◌||◌, ◌==◌, if◌then◌else◌, bit_or, IsFalse}
use Rattle.netlist.specs.Nets.{NetValue}
use Rattle.netlist.specs.Netlists.{Netlist, IsWaiting}
use Rattle.netlist.specs.Runs.{Run, cycle_of, IsRun, Always}
use Rattle.netlist.specs.Longer.{Extends}
use Rattle.stream_machines.specs.Stage.{Shape, PassesAll}
use Rattle.stream_machines.specs.Parts.{widen_shape, of_symbols}
use Rattle.stage_core.specs.declared.beat.BeatNets.{BeatNets}
use Rattle.net_parts.specs.Nets.{IsBit}
use Rattle.stage_core.specs.Beats.{AreBeatNets, HaveSameWidths}
use Rattle.stage_core.specs.Groups.{Shown, shown_in, nothing_shown, AreNumbered, IsOfBeat, AreRegisters, StartsEmpty}
use Rattle.net_parts.specs.Laws.{net_lasts}
use Rattle.stage_core.specs.Lasting.{beat_lasts, registers_last}
use Rattle.st_format.specs.declared.sizes.Sizes.{Sizes}
use Rattle.st_format.specs.declared.widen.Widen.{Widen}
use Rattle.st_format.specs.declared.widen.WidenKept.{WidenKept}

-- a side of narrow beats upstream, and downstream the same with wide ones, both with the first symbol in the high-order bits
-- and ready latency 0, with a test that all channels pass; without packets there is one channel
pub record IsWidenShape (stage : Widen) (shape : Shape) : Type 0 where
  pub is : shape
      ≡ widen_shape shape.passes stage.sizes.parts shape.up (of_symbols shape.up (stage.sizes.symbols * stage.sizes.parts))
  pub symbols_are : shape.up.symbols ≡ stage.sizes.symbols
  pub bits_are : shape.up.symbol_bits ≡ stage.sizes.bits
  pub unmarked : stage.packets ≡ false → IsFalse shape.up.packets
  pub first_high : shape.up.first_high ≡ true
  pub at_once : shape.up.pace.latency ≡ 0
  pub strict : shape.up.pace.allowance ≡ 0
  pub channels : IsFalse shape.up.packets → shape.up.max_channel ≡ 0
  pub passes : PassesAll shape.passes shape.up

-- part number q of a word from the low-order end, in its place: the coming word where so many symbols are gathered before it
abbrev pub part_at : ℕ → ℕ → ℕ → ℕ → ℕ → ℕ → ℕ → ℕ
part_at bits symbols parts held coming gathered q =
    if gathered == symbols * (parts - 1 - q) then coming else held / 2 ^ (bits * (symbols * q)) % 2 ^ (bits * symbols)

-- the lowest parts of a word of which one is the coming word
abbrev pub laid : ℕ → ℕ → ℕ → ℕ → ℕ → ℕ → ℕ → ℕ
laid bits symbols parts held coming gathered zero = 0
laid bits symbols parts held coming gathered (suc q) =
    part_at bits symbols parts held coming gathered q * 2 ^ (bits * (symbols * q))
    + laid bits symbols parts held coming gathered q

-- the word that joins what is gathered, where something is, with the coming word: with packets each in its place, from the
-- high-order end on, and without the coming one behind those before it
abbrev pub joined_by : Widen → ℕ → ℕ → ℕ → ℕ → ℕ
joined_by stage some held coming gathered =
    if stage.packets
    then laid stage.sizes.bits stage.sizes.symbols stage.sizes.parts
    ((if some == 1 then held else 0) * 2 ^ (stage.sizes.bits * stage.sizes.symbols)) coming gathered stage.sizes.parts
    else held * 2 ^ (stage.sizes.bits * stage.sizes.symbols) + coming

-- the bits below those of a joined word that are held: with packets those of the last place
abbrev pub bits_left_out : Widen → ℕ
bits_left_out stage = if stage.packets then stage.sizes.bits * stage.sizes.symbols else 0

-- all of a joined word but one part
abbrev pub held_of : Widen → ℕ → ℕ
held_of stage word = word / 2 ^ bits_left_out stage % 2 ^ (stage.sizes.bits * (stage.sizes.symbols * (stage.sizes.parts - 1)))

-- the beat that is shown ends a packet, or takes the last place
abbrev pub is_full : Sizes → Shown → Shown → Bool
is_full sizes held from = (from.beat.last == 1) || (held.beat.empty == sizes.symbols * (sizes.parts - 1))

-- empty of the joined beat: the symbols that are missing behind the coming ones, and empty of these
abbrev pub missing_in : Sizes → ℕ → ℕ → ℕ
missing_in sizes gathered empty =
    ((sizes.symbols * (sizes.parts - 1) + (2 ^ sizes.count - gathered)) % 2 ^ sizes.count
    + empty % 2 ^ sizes.count) % 2 ^ sizes.count

-- what is gathered, joined with the beat that is shown; empty of what is gathered says how many symbols that are
abbrev pub shown_joined : Widen → Shown → Shown → Shown
shown_joined stage held from =
    record {
      valid = if (from.valid == 1) && is_full stage.sizes held from then 1 else 0;
      beat = record {
        word = joined_by stage held.valid held.beat.word from.beat.word held.beat.empty;
        channel = from.beat.channel;
        error = bit_or held.beat.error from.beat.error;
        first = if held.valid == 1 then held.beat.first else from.beat.first;
        last = from.beat.last;
        empty = missing_in stage.sizes held.beat.empty from.beat.empty;
      };
    }

-- the joined word but for a part with the count of its symbols, and the other marks of a beat of nothing
abbrev pub shown_gathered : Widen → ℕ → Shown → Shown → Shown → Shown
shown_gathered stage valid held joined none =
    record {
      valid = valid;
      beat = record {
        word = held_of stage joined.beat.word;
        channel = none.beat.channel;
        error = joined.beat.error;
        first = joined.beat.first;
        last = none.beat.last;
        empty = (held.beat.empty + stage.sizes.symbols) % 2 ^ stage.sizes.count;
      };
    }

-- what is gathered then
abbrev pub shown_filled : Widen → Shown → Shown → Shown
shown_filled stage held from =
    record {
      valid = from.valid;
      beat = record {
        word = held_of stage (joined_by stage held.valid held.beat.word from.beat.word held.beat.empty);
        channel = 0;
        error = bit_or held.beat.error from.beat.error;
        first = if held.valid == 1 then held.beat.first else from.beat.first;
        last = 0;
        empty = (held.beat.empty + stage.sizes.symbols) % 2 ^ stage.sizes.count;
      };
    }

-- what is held next: the joined word but for a part, and the marks of nothing where a wide beat goes
abbrev pub shown_next : Bool → Shown → Shown → Shown
shown_next goes none filled =
    record {
      valid = if goes then none.valid else filled.valid;
      beat = record (if goes then none.beat else filled.beat) { word = filled.beat.word };
    }

-- between the calls
pub record WidenKeeps (kept : WidenKept) (netlist : Netlist) : Type 0 where
  pub held : AreBeatNets netlist kept.held
  pub none : AreBeatNets netlist kept.none
  pub none_widths : HaveSameWidths kept.none kept.held
  pub filled : AreBeatNets netlist kept.filled
  pub filled_widths : HaveSameWidths kept.filled kept.held
  pub registers : AreRegisters netlist kept.held kept.held.valid.number
  pub coming : IsBit netlist kept.coming
  pub full : IsBit netlist kept.full

-- after the first call: nothing is gathered at first, and what is gathered is shown with the beat that is shown upstream
pub record WidenForward (stage : Widen) (from to : BeatNets) (kept : WidenKept) (netlist : Netlist) : Type 0 where
  pub coming_is : kept.coming ≡ from.valid
  pub full_is : kept.full ≡ to.valid
  pub numbers : AreNumbered kept.held kept.held.valid.number
  pub starts : StartsEmpty netlist kept.held
  pub word_fits : Always netlist (λ cycle. cycle.net from.word.number < 2 ^ (stage.sizes.bits * stage.sizes.symbols))
  pub held_fits : Always netlist (λ cycle. cycle.net kept.held.word.number
      < 2 ^ (stage.sizes.bits * (stage.sizes.symbols * (stage.sizes.parts - 1))))
  pub shows : Always netlist (λ cycle. shown_in cycle to ≡ shown_joined stage (shown_in cycle kept.held) (shown_in cycle from))
  pub fills : Always netlist (λ cycle. shown_in cycle kept.filled
      ≡ shown_filled stage (shown_in cycle kept.held) (shown_in cycle from))
  pub empties : Always netlist (λ cycle. shown_in cycle kept.none ≡ nothing_shown)

-- after the second call: ready is shown where no wide beat is, or with ready; a beat that comes is gathered, or all go with it,
-- and then what is left of the word counts for nothing
pub record WidenBackward (kept : WidenKept) (ready up : NetValue) (netlist : Netlist) : Type 0 where
  pub asks : Always netlist (λ cycle. (cycle.net up.number == 1)
      ≡ (not (cycle.net kept.full.number == 1) || (cycle.net ready.number == 1)))
  pub moves : (run : Run) (cycles : ℕ) → IsRun netlist run cycles → (c : ℕ) → c + 1 < cycles
      → shown_in (cycle_of run (c + 1)) kept.held
      ≡ (if (run.net c kept.coming.number == 1) && (run.net c up.number == 1)
      then shown_next (run.net c kept.full.number == 1) (shown_in (cycle_of run c) kept.none)
      (shown_in (cycle_of run c) kept.filled)
      else shown_in (cycle_of run c) kept.held)

-- ---- what stands lasts. No contract reads these proofs; the law of the stage cites them

pub keeps_lasts : (kept : WidenKept) (old new : Netlist) → WidenKeeps kept old → Extends old new
    → ((n : ℕ) → IsOfBeat kept.held n → IsWaiting old n → IsWaiting new n) → WidenKeeps kept new
keeps_lasts kept old new h e w = record {
  held = beat_lasts old new kept.held e h.held;
  none = beat_lasts old new kept.none e h.none;
  none_widths = h.none_widths;
  filled = beat_lasts old new kept.filled e h.filled;
  filled_widths = h.filled_widths;
  registers = registers_last old new kept.held kept.held.valid.number w h.registers;
  coming = net_lasts old new kept.coming 1 e h.coming;
  full = net_lasts old new kept.full 1 e h.full;
}

pub forward_lasts : (stage : Widen) (from to : BeatNets) (kept : WidenKept) (old new : Netlist)
    → WidenForward stage from to kept old → Extends old new → WidenForward stage from to kept new
forward_lasts stage from to kept old new h e = record {
  coming_is = h.coming_is;
  full_is = h.full_is;
  numbers = h.numbers;
  starts = λ run cycles r. h.starts run cycles (e.runs run cycles r);
  word_fits = λ cycle v. h.word_fits cycle (e.valuations cycle v);
  held_fits = λ cycle v. h.held_fits cycle (e.valuations cycle v);
  shows = λ cycle v. h.shows cycle (e.valuations cycle v);
  fills = λ cycle v. h.fills cycle (e.valuations cycle v);
  empties = λ cycle v. h.empties cycle (e.valuations cycle v);
}

pub backward_lasts : (kept : WidenKept) (ready up : NetValue) (old new : Netlist) → WidenBackward kept ready up old
    → Extends old new → WidenBackward kept ready up new
backward_lasts kept ready up old new h e = record {
  asks = λ cycle v. h.asks cycle (e.valuations cycle v);
  moves = λ run cycles r. h.moves run cycles (e.runs run cycles r);
}
