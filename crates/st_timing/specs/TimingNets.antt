-- The front part of what lies between a source and a sink, which leads from the source's ready latency to 0.
use Rattle.std.specs.Prelude.{◌≡◌, ℕ, ◌%◌, ◌≤◌, Bool, not, ◌&&◌, ◌==◌, IsTrue, IsFalse}
use Rattle.netlist.specs.Nets.{NetValue}
use Rattle.netlist.specs.Netlists.{Netlist, IsWaiting, WaitsForWrite}
use Rattle.netlist.specs.Longer.{Extends}
use Rattle.iface_roles.specs.declared.records.StreamPort.{StreamPort}
use Rattle.item_queues.specs.Queues.{owns, owns_memories}
use Rattle.stream_runs.specs.View.{Side}
use Rattle.stream_runs.specs.Ends.{pace_of}
use Rattle.stream_machines.specs.Stage.{Shape}
use Rattle.stream_machines.specs.Buffers.{direct_side}
use Rattle.stage_core.specs.declared.beat.BeatNets.{BeatNets}
use Rattle.stage_core.specs.PassNets.{IsPassShape}
use Rattle.st_timing.specs.declared.timing.Timing.{Timing}
use Rattle.st_timing.specs.declared.timing.Timing.TheVariants.{Tie, Buffer, Allowance, Wire}
use Rattle.st_timing.specs.declared.timing.TimingKept.{TimingKept}
use Rattle.st_timing.specs.declared.timing.TimingKept.TheVariants.{Tied, Buffered, Allowed, Straight}
use Rattle.st_timing.specs.Ends.{declared}
use Rattle.st_timing.specs.TieNets.{IsTieShape, IsTied}
use Rattle.st_timing.specs.BufferNets.{IsReadyBufferShape, buffer_owns, buffer_owns_memories, BufferKeeps, BufferForward, BufferBackward, keeps_lasts, forward_lasts, backward_lasts}
use Rattle.st_timing.specs.AllowanceNets.{IsAllowanceShape, AllowanceKeeps, AllowanceForward, AllowanceBackward, keeps_lasts as allowance_keeps_lasts, forward_lasts as allowance_forward_lasts, backward_lasts as allowance_backward_lasts}

-- ---- which it is

-- the sink is always ready, and has room for whole beats of the source
abbrev pub ties_ready : StreamPort → StreamPort → Bool
ties_ready source sink = not sink.ready && (sink.symbols % source.symbols == 0)

-- a stage of this latency and allowance stands behind a source where ready isn't tied
pub record StandsBehind (source sink : StreamPort) (latency allowance : ℕ) : Type 0 where
  pub loose : IsFalse (ties_ready source sink)
  pub latency_is : latency ≡ (pace_of (declared source)).latency
  pub allowance_is : allowance ≡ (pace_of (declared source)).allowance

-- ready is tied where the sink is always ready, a buffer stands behind a ready latency above 0, a longer one behind an allowance
-- above that, and else nothing
abbrev pub IsTimingOf : StreamPort → StreamPort → Timing → Type 0
IsTimingOf source sink (Tie stage) = IsTrue (ties_ready source sink)
IsTimingOf source sink (Buffer stage) = StandsBehind source sink stage.latency stage.latency
IsTimingOf source sink (Allowance stage) = StandsBehind source sink stage.latency stage.allowance
IsTimingOf source sink (Wire stage) = StandsBehind source sink 0 0

-- ---- as a stage

abbrev pub timing_shape : Timing → Shape → Type 0
timing_shape (Tie stage) shape = IsTieShape shape
timing_shape (Buffer stage) shape = IsReadyBufferShape stage.latency shape
timing_shape (Allowance stage) shape = IsAllowanceShape stage.latency stage.allowance shape
timing_shape (Wire stage) shape = IsPassShape shape

-- it keeps its law from this side to the same with ready latency 0, with this test; no symbol stays in it for good, none raises
-- its rank, and its rank is at most the ready latency
pub record LeadsToZero (timing : Timing) (passes : ℕ → Bool) (side : Side) : Type 0 where
  pub shape : Shape
  pub has : timing_shape timing shape
  pub up : shape.up ≡ side
  pub down : shape.down ≡ direct_side side
  pub test : shape.passes ≡ passes
  pub rest : shape.rest ≡ 0
  pub step : shape.step ≡ 0
  pub largest : shape.largest ≤ side.pace.latency

abbrev pub timing_forward_nets : Timing → ℕ
timing_forward_nets (Buffer stage) = 45
timing_forward_nets (Allowance stage) = 43
timing_forward_nets _ = 0

abbrev pub timing_backward_nets : Timing → ℕ
timing_backward_nets (Tie stage) = 1
timing_backward_nets (Buffer stage) = 46
timing_backward_nets (Allowance stage) = 33
timing_backward_nets (Wire stage) = 0

abbrev pub timing_memories : Timing → ℕ
timing_memories (Buffer stage) = 6
timing_memories (Allowance stage) = 6
timing_memories _ = 0

-- the numbers of a buffer's registers
abbrev pub timing_owns : TimingKept → ℕ → Type 0
timing_owns Tied n = ⊥
timing_owns (Buffered kept) n = buffer_owns kept n
timing_owns (Allowed kept) n = owns kept.stored.queue n
timing_owns Straight n = ⊥

-- and of its memories
abbrev pub timing_owns_memories : TimingKept → ℕ → Type 0
timing_owns_memories Tied m = ⊥
timing_owns_memories (Buffered kept) m = buffer_owns_memories kept m
timing_owns_memories (Allowed kept) m = owns_memories kept.stored.queue m
timing_owns_memories Straight m = ⊥

-- between the calls: what is kept is of the part that it is, and each buffer keeps what it does
abbrev pub TimingKeeps : Timing → TimingKept → Netlist → Type 0
TimingKeeps (Tie stage) Tied netlist = Unit {0}
TimingKeeps (Buffer stage) (Buffered kept) netlist = BufferKeeps kept stage.latency netlist
TimingKeeps (Allowance stage) (Allowed kept) netlist = AllowanceKeeps kept stage.allowance netlist
TimingKeeps (Wire stage) Straight netlist = Unit {0}
TimingKeeps _ _ netlist = ⊥

-- after the first call
abbrev pub TimingForward : Timing → BeatNets → BeatNets → TimingKept → Netlist → Type 0
TimingForward (Tie stage) from to Tied netlist = to ≡ from
TimingForward (Buffer stage) from to (Buffered kept) netlist = BufferForward from to kept stage.latency netlist
TimingForward (Allowance stage) from to (Allowed kept) netlist = AllowanceForward from to kept stage.allowance netlist
TimingForward (Wire stage) from to Straight netlist = to ≡ from
TimingForward _ from to _ netlist = ⊥

-- after the second call
abbrev pub TimingBackward : TimingKept → NetValue → NetValue → Netlist → Type 0
TimingBackward Tied ready up netlist = IsTied netlist up
TimingBackward (Buffered kept) ready up netlist = BufferBackward kept ready up netlist
TimingBackward (Allowed kept) ready up netlist = AllowanceBackward kept ready up netlist
TimingBackward Straight ready up netlist = up ≡ ready

-- ---- what stands lasts. No contract reads these proofs; the law of the timing cites them

pub timing_keeps_lasts : (timing : Timing) (kept : TimingKept) (old new : Netlist) → TimingKeeps timing kept old → Extends old new
    → ((n : ℕ) → timing_owns kept n → IsWaiting old n → IsWaiting new n)
    → ((m : ℕ) → timing_owns_memories kept m → WaitsForWrite old m → WaitsForWrite new m) → TimingKeeps timing kept new
timing_keeps_lasts (Tie stage) Tied old new h e w v = h
timing_keeps_lasts (Buffer stage) (Buffered kept) old new h e w v = keeps_lasts kept stage.latency old new h e w v
timing_keeps_lasts (Allowance stage) (Allowed kept) old new h e w v = allowance_keeps_lasts kept stage.allowance old new h e w v
timing_keeps_lasts (Wire stage) Straight old new h e w v = h
timing_keeps_lasts _ _ old new h e w v = absurd h

pub timing_forward_lasts : (timing : Timing) (from to : BeatNets) (kept : TimingKept) (old new : Netlist)
    → TimingForward timing from to kept old → Extends old new → TimingForward timing from to kept new
timing_forward_lasts (Tie stage) from to Tied old new h e = h
timing_forward_lasts (Buffer stage) from to (Buffered kept) old new h e = forward_lasts from to kept stage.latency old new h e
timing_forward_lasts (Allowance stage) from to (Allowed kept) old new h e =
    allowance_forward_lasts from to kept stage.allowance old new h e
timing_forward_lasts (Wire stage) from to Straight old new h e = h
timing_forward_lasts _ from to _ old new h e = absurd h

pub timing_backward_lasts : (kept : TimingKept) (ready up : NetValue) (old new : Netlist) → TimingBackward kept ready up old
    → Extends old new → TimingBackward kept ready up new
timing_backward_lasts Tied ready up old new h e = λ cycle v. h cycle (e.valuations cycle v)
timing_backward_lasts (Buffered kept) ready up old new h e = backward_lasts kept ready up old new h e
timing_backward_lasts (Allowed kept) ready up old new h e = allowance_backward_lasts kept ready up old new h e
timing_backward_lasts Straight ready up old new h e = h
