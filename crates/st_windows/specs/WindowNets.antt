-- A window of symbols: what its two calls leave in a netlist.
use Rattle.std.specs.Prelude.{◌≡◌, ℕ, ◌+◌, ◌^◌, ◌<◌, true, not, ◌&&◌, ◌||◌, ◌==◌, if◌then◌else◌, IsFalse}
use Rattle.netlist.specs.Nets.{NetValue}
use Rattle.netlist.specs.Netlists.{Netlist, IsWaiting}
use Rattle.netlist.specs.Runs.{Run, cycle_of, IsRun, Always}
use Rattle.netlist.specs.Longer.{Extends}
use Rattle.stream_machines.specs.Stage.{Shape, PassesAll}
use Rattle.stream_machines.specs.Windows.{window_shape}
use Rattle.stream_machines.specs.Parts.{of_symbols}
use Rattle.net_parts.specs.Nets.{IsBit}
use Rattle.net_parts.specs.Laws.{net_lasts}
use Rattle.stage_core.specs.declared.beat.BeatNets.{BeatNets}
use Rattle.stage_core.specs.Beats.{AreBeatNets, HaveSameWidths}
use Rattle.stage_core.specs.Groups.{shown_in, AreNumbered, IsOfBeat, AreRegisters, StartsEmpty}
use Rattle.stage_core.specs.Lasting.{beat_lasts, registers_last}
use Rattle.st_windows.specs.declared.sizes.WindowSizes.{WindowSizes}
use Rattle.st_windows.specs.declared.window.WindowKept.{WindowKept}
use Rattle.st_windows.specs.Rows.{is_alone, row_next, shown_front, row_left, row_gathered}

-- a side of beats upstream, and downstream the same with beats of the other size, both with the first symbol in the high-order
-- bits and ready latency 0, with a test that all channels pass; without packets there is one channel
pub record IsWindowShape (sizes : WindowSizes) (shape : Shape) : Type 0 where
  pub is : shape ≡ window_shape shape.passes shape.up (of_symbols shape.up sizes.into)
  pub symbols_are : shape.up.symbols ≡ sizes.from
  pub bits_are : shape.up.symbol_bits ≡ sizes.bits
  pub first_high : shape.up.first_high ≡ true
  pub at_once : shape.up.pace.latency ≡ 0
  pub strict : shape.up.pace.allowance ≡ 0
  pub channels : IsFalse shape.up.packets → shape.up.max_channel ≡ 0
  pub passes : PassesAll shape.passes shape.up

-- between the calls
pub record WindowKeeps (kept : WindowKept) (netlist : Netlist) : Type 0 where
  pub held : AreBeatNets netlist kept.held
  pub rest : AreBeatNets netlist kept.rest
  pub rest_widths : HaveSameWidths kept.rest kept.held
  pub gathered : AreBeatNets netlist kept.gathered
  pub gathered_widths : HaveSameWidths kept.gathered kept.held
  pub registers : AreRegisters netlist kept.held kept.held.valid.number
  pub alone : IsBit netlist kept.alone
  pub coming : IsBit netlist kept.coming
  pub full : IsBit netlist kept.full

-- after the first call: nothing is held at first, and the front of what is held and comes is shown
pub record WindowForward (sizes : WindowSizes) (from to : BeatNets) (kept : WindowKept) (netlist : Netlist) : Type 0 where
  pub coming_is : kept.coming ≡ from.valid
  pub full_is : kept.full ≡ to.valid
  pub numbers : AreNumbered kept.held kept.held.valid.number
  pub starts : StartsEmpty netlist kept.held
  pub count_fits : Always netlist (λ cycle. cycle.net kept.held.empty.number < 2 ^ sizes.count)
  pub alone_is : Always netlist (λ cycle. (cycle.net kept.alone.number == 1) ≡ is_alone sizes (shown_in cycle kept.held))
  pub shows : Always netlist (λ cycle. shown_in cycle to
      ≡ shown_front sizes (row_next sizes (shown_in cycle kept.held) (shown_in cycle from)))
  pub leaves : Always netlist (λ cycle. shown_in cycle kept.rest
      ≡ row_left sizes (shown_in cycle kept.held) (shown_in cycle from))
  pub gathers : Always netlist (λ cycle. shown_in cycle kept.gathered
      ≡ row_gathered sizes (row_next sizes (shown_in cycle kept.held) (shown_in cycle from)))

-- after the second call: ready is shown where no beat is held that goes by itself, and no beat is shown or with ready. What is
-- held changes where a beat goes or comes
pub record WindowBackward (kept : WindowKept) (ready up : NetValue) (netlist : Netlist) : Type 0 where
  pub asks : Always netlist (λ cycle. (cycle.net up.number == 1)
      ≡ (not (cycle.net kept.alone.number == 1) && (not (cycle.net kept.full.number == 1) || (cycle.net ready.number == 1))))
  pub moves : (run : Run) (cycles : ℕ) → IsRun netlist run cycles → (c : ℕ) → c + 1 < cycles
      → shown_in (cycle_of run (c + 1)) kept.held
      ≡ (if (run.net c kept.full.number == 1) && (run.net c ready.number == 1) then shown_in (cycle_of run c) kept.rest
      else (if (run.net c kept.coming.number == 1) && (run.net c up.number == 1) then shown_in (cycle_of run c) kept.gathered
      else shown_in (cycle_of run c) kept.held))

-- ---- what stands lasts. No contract reads these proofs; the law of the stage cites them

pub keeps_lasts : (kept : WindowKept) (old new : Netlist) → WindowKeeps kept old → Extends old new
    → ((n : ℕ) → IsOfBeat kept.held n → IsWaiting old n → IsWaiting new n) → WindowKeeps kept new
keeps_lasts kept old new h e w = record {
  held = beat_lasts old new kept.held e h.held;
  rest = beat_lasts old new kept.rest e h.rest;
  rest_widths = h.rest_widths;
  gathered = beat_lasts old new kept.gathered e h.gathered;
  gathered_widths = h.gathered_widths;
  registers = registers_last old new kept.held kept.held.valid.number w h.registers;
  alone = net_lasts old new kept.alone 1 e h.alone;
  coming = net_lasts old new kept.coming 1 e h.coming;
  full = net_lasts old new kept.full 1 e h.full;
}

pub forward_lasts : (sizes : WindowSizes) (from to : BeatNets) (kept : WindowKept) (old new : Netlist)
    → WindowForward sizes from to kept old → Extends old new → WindowForward sizes from to kept new
forward_lasts sizes from to kept old new h e = record {
  coming_is = h.coming_is;
  full_is = h.full_is;
  numbers = h.numbers;
  starts = λ run cycles r. h.starts run cycles (e.runs run cycles r);
  count_fits = λ cycle v. h.count_fits cycle (e.valuations cycle v);
  alone_is = λ cycle v. h.alone_is cycle (e.valuations cycle v);
  shows = λ cycle v. h.shows cycle (e.valuations cycle v);
  leaves = λ cycle v. h.leaves cycle (e.valuations cycle v);
  gathers = λ cycle v. h.gathers cycle (e.valuations cycle v);
}

pub backward_lasts : (kept : WindowKept) (ready up : NetValue) (old new : Netlist) → WindowBackward kept ready up old
    → Extends old new → WindowBackward kept ready up new
backward_lasts kept ready up old new h e = record {
  asks = λ cycle v. h.asks cycle (e.valuations cycle v);
  moves = λ run cycles r. h.moves run cycles (e.runs run cycles r);
}
