-- A delay of ready: what its two calls leave in a netlist.
use Rattle.std.specs.Prelude.{◌≡◌, ℕ, ◌-◌, ◌<◌, false}
use Rattle.std.proofs.Common.{refl}
use Rattle.std.specs.Int.{bit_at}
use Rattle.netlist.specs.Nets.{NetValue}
use Rattle.netlist.specs.Netlists.{Netlist, IsWaiting}
use Rattle.netlist.specs.Runs.{Always}
use Rattle.netlist.specs.Longer.{Extends}
use Rattle.stream_machines.specs.Stage.{Shape, PassesAll}
use Rattle.stream_machines.specs.Wires.{wire_shape, delayed_side}
use Rattle.stage_core.specs.declared.beat.BeatNets.{BeatNets}
use Rattle.net_parts.specs.Nets.{IsBit, StartsLow}
use Rattle.stage_core.specs.Beats.{beat_in}
use Rattle.net_parts.specs.Laws.{net_lasts}
use Rattle.st_timing.specs.declared.delay.DelayKept.{DelayKept}
use Rattle.st_timing.specs.declared.delay.DelayKept.TheVariants.{Wire, Register}
use Rattle.st_timing.specs.TransferNets.{moving}
use Rattle.net_parts.specs.Histories.{IsHistory, TakesBit, history_lasts, takes_lasts}

-- a side of this ready latency upstream, and downstream the same with one that is larger by so many cycles, with a test that
-- all channels pass
pub record IsDelayShape (latency cycles : ℕ) (shape : Shape) : Type 0 where
  pub is : shape ≡ wire_shape shape.passes shape.up (delayed_side shape.up cycles) shape.up.pace.latency false
  pub behind : shape.up.pace.latency ≡ latency
  pub strict : shape.up.pace.allowance ≡ shape.up.pace.latency
  pub some : 0 < shape.up.symbols
  pub passes : PassesAll shape.passes shape.up

-- the number of its register
abbrev pub delay_owns : DelayKept → ℕ → Type 0
delay_owns Wire n = ⊥
delay_owns (Register history ready) n = n ≡ history.number

-- the register and the ready that is shown upstream are of this netlist
pub record KeepsRegister (cycles : ℕ) (history ready : NetValue) (netlist : Netlist) : Type 0 where
  pub some : 0 < cycles
  pub waits : IsHistory netlist history history.width
  pub shown : IsBit netlist ready

-- between the calls
abbrev pub DelayKeeps : ℕ → DelayKept → Netlist → Type 0
DelayKeeps cycles Wire netlist = Unit {0}
DelayKeeps cycles (Register history ready) netlist = KeepsRegister cycles history ready netlist

-- the register begins low, its highest bit is the ready that is shown upstream, and a beat goes through; behind ready
-- latency 0 it is shown only where that ready is high
pub record GatesBeat (latency cycles : ℕ) (from to : BeatNets) (history ready : NetValue) (netlist : Netlist) : Type 0 where
  pub some : 0 < cycles
  pub width : history.width ≡ cycles
  pub starts : StartsLow netlist history
  pub ready_is : Always netlist (λ cycle. cycle.net ready.number ≡ bit_at (cycle.net history.number) (cycles - 1))
  pub valid : Always netlist (λ cycle. cycle.net to.valid.number
      ≡ moving latency (cycle.net from.valid.number) (cycle.net ready.number))
  pub beat : Always netlist (λ cycle. beat_in cycle to ≡ beat_in cycle from)

-- after the first call
abbrev pub DelayForward : ℕ → ℕ → BeatNets → BeatNets → DelayKept → Netlist → Type 0
DelayForward latency cycles from to Wire netlist = (to ≡ from) × (cycles ≡ 0)
DelayForward latency cycles from to (Register history ready) netlist = GatesBeat latency cycles from to history ready netlist

-- the register takes ready, and the ready of some cycles before is shown upstream
pub record SetsRegister (cycles : ℕ) (history shown ready up : NetValue) (netlist : Netlist) : Type 0 where
  pub some : 0 < cycles
  pub up_is : up ≡ shown
  pub takes : TakesBit netlist history ready

-- after the second call
abbrev pub DelayBackward : ℕ → DelayKept → NetValue → NetValue → Netlist → Type 0
DelayBackward cycles Wire ready up netlist = up ≡ ready
DelayBackward cycles (Register history shown) ready up netlist = SetsRegister cycles history shown ready up netlist

-- ---- what stands lasts. No contract reads these proofs; the law of the delay cites them

pub keeps_lasts : (cycles : ℕ) (kept : DelayKept) (old new : Netlist) → DelayKeeps cycles kept old → Extends old new
    → ((n : ℕ) → delay_owns kept n → IsWaiting old n → IsWaiting new n) → DelayKeeps cycles kept new
keeps_lasts cycles Wire old new h e w = tt
keeps_lasts cycles (Register history ready) old new h e w = record {
  some = h.some;
  waits = history_lasts old new history history.width e (w history.number refl) h.waits;
  shown = net_lasts old new ready 1 e h.shown;
}

pub forward_lasts : (latency cycles : ℕ) (from to : BeatNets) (kept : DelayKept) (old new : Netlist)
    → DelayForward latency cycles from to kept old → Extends old new → DelayForward latency cycles from to kept new
forward_lasts latency cycles from to Wire old new h e = h
forward_lasts latency cycles from to (Register history ready) old new h e = record {
  some = h.some;
  width = h.width;
  starts = λ run count r. h.starts run count (e.runs run count r);
  ready_is = λ cycle v. h.ready_is cycle (e.valuations cycle v);
  valid = λ cycle v. h.valid cycle (e.valuations cycle v);
  beat = λ cycle v. h.beat cycle (e.valuations cycle v);
}

pub backward_lasts : (cycles : ℕ) (kept : DelayKept) (ready up : NetValue) (old new : Netlist)
    → DelayBackward cycles kept ready up old → Extends old new → DelayBackward cycles kept ready up new
backward_lasts cycles Wire ready up old new h e = h
backward_lasts cycles (Register history shown) ready up old new h e =
    record { some = h.some; up_is = h.up_is; takes = takes_lasts old new history ready e h.takes }
