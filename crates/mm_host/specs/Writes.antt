-- The end of each command of a host: what two calls leave in a netlist.
use Rattle.std.specs.Prelude.{◌≡◌, ℕ, ◌+◌, ◌-◌, ◌<◌, true, not, ◌&&◌, nat_eq, if◌then◌else◌, Option, Some, None}
use Rattle.histories.specs.History.{is_raised, one_if}
use Rattle.iface_roles.specs.declared.records.HostPort.{HostPort}
use Rattle.netlist.specs.Nets.{NetValue}
use Rattle.netlist.specs.Netlists.{Netlist}
use Rattle.netlist.specs.Runs.{Run, IsRun, Always}
use Rattle.netlist.specs.Longer.{Extends}
use Rattle.net_parts.specs.Nets.{IsNetOfWidth, StartsLow}
use Rattle.net_parts.specs.Laws.{net_lasts}
use Rattle.memory_runs.specs.Sides.{burst_width}
use Rattle.mm_host.specs.declared.writes.HeldWrites.{HeldWrites}

-- ---- after the first call

abbrev pub owns_writes : Option HeldWrites → ℕ → Type 0
owns_writes None n = ⊥
owns_writes (Some held) n = n ≡ held.left.number

-- the beats of a write burst, with the one that is shown: those that it lacks, or its count where it begins
abbrev pub beats_of : ℕ → ℕ → ℕ
beats_of left count = if nat_eq left 0 then count else left

-- each command has one beat
pub record OneBeat (netlist : Netlist) (write count more : NetValue) : Type 0 where
  pub single : Always netlist (λ cycle. is_raised (cycle.net write.number) ≡ true → cycle.net count.number ≡ 1)
  pub low : Always netlist (λ cycle. cycle.net more.number ≡ 0)

-- a register holds the beats that a write burst lacks
pub record LacksBeats (netlist : Netlist) (port : HostPort) (write count more : NetValue) (held : HeldWrites) : Type 0 where
  pub left : IsNetOfWidth netlist held.left (burst_width port.burst_bits)
  pub beats : IsNetOfWidth netlist held.beats (burst_width port.burst_bits)
  pub starts : StartsLow netlist held.left
  pub beats_are : Always netlist (λ cycle. cycle.net held.beats.number
      ≡ beats_of (cycle.net held.left.number) (cycle.net count.number))
  pub joins : Always netlist (λ cycle. cycle.net more.number
      ≡ one_if (is_raised (cycle.net write.number) && not (nat_eq (cycle.net held.beats.number) 1)))

abbrev pub AreWritesHeld : Netlist → HostPort → NetValue → NetValue → NetValue → Option HeldWrites → Type 0
AreWritesHeld netlist port write count more None = OneBeat netlist write count more
AreWritesHeld netlist port write count more (Some held) = LacksBeats netlist port write count more held

-- ---- after the second call

-- where a beat is taken below, one beat fewer is lacking
abbrev pub LacksOn : Netlist → NetValue → NetValue → HeldWrites → Type 0
LacksOn netlist write wait held =
    (run : Run) (cycles : ℕ) → IsRun netlist run cycles → (c : ℕ) → c + 1 < cycles
    → run.net (c + 1) held.left.number
    ≡ (if is_raised (run.net c write.number) && not (is_raised (run.net c wait.number)) then run.net c held.beats.number - 1
    else run.net c held.left.number)

abbrev pub WritesGoOn : Netlist → NetValue → NetValue → Option HeldWrites → Type 0
WritesGoOn netlist write wait None = Unit {0}
WritesGoOn netlist write wait (Some held) = LacksOn netlist write wait held

-- ---- what stands lasts. No contract reads these proofs; the laws of the host cite them

pub writes_last : (old new : Netlist) (port : HostPort) (write count more : NetValue) (held : Option HeldWrites)
    → AreWritesHeld old port write count more held → Extends old new → AreWritesHeld new port write count more held
writes_last old new port write count more None h e =
    record { single = λ cycle v. h.single cycle (e.valuations cycle v); low = λ cycle v. h.low cycle (e.valuations cycle v) }
writes_last old new port write count more (Some held) h e = record {
  left = net_lasts old new held.left (burst_width port.burst_bits) e h.left;
  beats = net_lasts old new held.beats (burst_width port.burst_bits) e h.beats;
  starts = λ run cycles r. h.starts run cycles (e.runs run cycles r);
  beats_are = λ cycle v. h.beats_are cycle (e.valuations cycle v);
  joins = λ cycle v. h.joins cycle (e.valuations cycle v);
}

pub writes_go_on : (old new : Netlist) (write wait : NetValue) (held : Option HeldWrites) → WritesGoOn old write wait held
    → Extends old new → WritesGoOn new write wait held
writes_go_on old new write wait None h e = tt
writes_go_on old new write wait (Some held) h e = λ run cycles r. h run cycles (e.runs run cycles r)
