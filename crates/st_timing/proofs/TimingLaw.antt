-- The nets of a timing keep the law of the part that it is.
use Rattle.std.proofs.Common.{◌≡◌, ℕ, ◌+◌, ◌<◌, Bool, true, ◌==◌, List, sym, subst, ap, ◌∙◌, arith}
use Rattle.netlist.specs.Nets.{NetValue}
use Rattle.netlist.specs.Netlists.{Netlist}
use Rattle.netlist.specs.Runs.{Cycle, Run, IsEndlessRun, IsValuation}
use Rattle.stream_runs.specs.View.{EndView, Side, Beat}
use Rattle.stream_machines.specs.Stage.{Shape, KeepsStageLaw, PassesReady, PassesAll, pass_shape, pass_run}
use Rattle.stream_machines.specs.Parts.{plain_run}
use Rattle.stream_machines.specs.Buffers.{IsBufferRun, IsAllowanceRun, buffer_shape, direct_side}
use Rattle.stream_machines.specs.Wires.{wire_shape, IsTieRun}
use Rattle.stage_core.specs.declared.beat.BeatNets.{BeatNets}
use Rattle.stage_core.specs.Beats.{view_of, ShowSame}
use Rattle.stage_core.specs.Law.{KeepsShape, ReadyPasses}
use Rattle.stage_core.specs.Between.{pass_between}
use Rattle.net_parts.specs.Memories.{SameWords}
use Rattle.st_timing.specs.declared.timing.Timing.{Timing}
use Rattle.st_timing.specs.declared.timing.Timing.TheVariants.{Tie, Buffer, Allowance, Wire}
use Rattle.st_timing.specs.declared.timing.TimingKept.{TimingKept}
use Rattle.st_timing.specs.declared.timing.TimingKept.TheVariants.{Tied, Buffered, Allowed, Straight}
use Rattle.st_timing.specs.declared.buffer.BufferKept.{BufferKept}
use Rattle.st_timing.specs.declared.allowance.AllowanceKept.{AllowanceKept}
use Rattle.st_timing.specs.BufferNets.{BufferKeeps}
use Rattle.st_timing.specs.AllowanceNets.{AllowanceKeeps}
use Rattle.st_timing.specs.TimingNets.{timing_shape, timing_owns, timing_owns_memories, TimingKeeps, TimingForward, TimingBackward}
use Rattle.st_timing.proofs.TieLaw.{tie_between, tie_ready}
use Rattle.st_timing.proofs.BufferLaw.{buffer_between, buffer_ready, buffer_ignores}
use Rattle.st_timing.proofs.AllowanceLaw.{allowance_between, allowance_ready, allowance_ignores}

pub timing_between : (timing : Timing) (shape : Shape) (from to : BeatNets) (kept : TimingKept) (ready up : NetValue) (netlist : Netlist) (run : Run) → timing_shape timing shape → TimingForward timing from to kept netlist → TimingBackward kept ready up netlist →
    IsEndlessRun netlist run →
    ((passes : ℕ → Bool) (side : Side) (up down : EndView) → IsTieRun up down → 0 < side.symbols → PassesAll passes side → KeepsStageLaw (wire_shape passes side (direct_side side) 0 true) (plain_run up down)) →
    ((passes : ℕ → Bool) (side : Side) (up down : EndView) (held : ℕ → List Beat) → IsBufferRun side up down held → side.pace.allowance ≡ side.pace.latency → 0 < side.symbols → PassesAll passes side → KeepsStageLaw (buffer_shape passes (side.pace.latency + 1) side) (plain_run up down)) →
    ((passes : ℕ → Bool) (places : ℕ) (side : Side) (up down : EndView) (held : ℕ → List Beat) → IsAllowanceRun places side up down held → 0 < side.pace.latency → side.pace.latency < side.pace.allowance → side.pace.allowance < places → 0 < side.symbols → PassesAll passes side → KeepsStageLaw (buffer_shape passes places side) (plain_run up down)) →
    ((passes : ℕ → Bool) (side : Side) (view : EndView) → 0 < side.symbols → PassesAll passes side → KeepsStageLaw (pass_shape passes side) (pass_run side view)) →
    KeepsShape shape (view_of run from up) (view_of run to ready)
timing_between (Tie stage) shape from to Tied ready up netlist run p f b endless tie buffer allowance pass = tie_between shape from to ready up netlist run p f b endless tie
timing_between (Buffer stage) shape from to (Buffered kept) ready up netlist run p f b endless tie buffer allowance pass = buffer_between stage.latency shape from to kept ready up netlist run p f b endless buffer
timing_between (Allowance stage) shape from to (Allowed kept) ready up netlist run p f b endless tie buffer allowance pass = allowance_between stage.latency stage.allowance stage.some stage.larger shape from to kept ready up netlist run p f b endless allowance
timing_between (Wire stage) shape from to Straight ready up netlist run p f b endless tie buffer allowance pass = pass_between shape from to ready up run p f b pass
timing_between _ shape from to _ ready up netlist run p f b endless tie buffer allowance pass = absurd f

pub timing_ready : (timing : Timing) (shape : Shape) (from to : BeatNets) (kept : TimingKept) (ready up : NetValue) (netlist : Netlist) (run : Run) → timing_shape timing shape → TimingForward timing from to kept netlist → TimingBackward kept ready up netlist →
    IsEndlessRun netlist run →
    ((passes : ℕ → Bool) (side : Side) (up down : EndView) → IsTieRun up down → PassesReady (wire_shape passes side (direct_side side) 0 true) (plain_run up down)) →
    ((passes : ℕ → Bool) (side : Side) (up down : EndView) (held : ℕ → List Beat) → IsBufferRun side up down held → side.pace.allowance ≡ side.pace.latency → PassesReady (buffer_shape passes (side.pace.latency + 1) side) (plain_run up down)) →
    ((passes : ℕ → Bool) (places : ℕ) (side : Side) (up down : EndView) (held : ℕ → List Beat) → IsAllowanceRun places side up down held → 0 < side.pace.latency → side.pace.latency < side.pace.allowance → side.pace.allowance < places → PassesReady (buffer_shape passes places side) (plain_run up down)) →
    ReadyPasses shape (view_of run from up) (view_of run to ready)
timing_ready (Tie stage) shape from to Tied ready up netlist run p f b endless tie buffer allowance = tie_ready shape from to ready up netlist run p f b endless tie
timing_ready (Buffer stage) shape from to (Buffered kept) ready up netlist run p f b endless tie buffer allowance = buffer_ready stage.latency shape from to kept ready up netlist run p f b endless buffer
timing_ready (Allowance stage) shape from to (Allowed kept) ready up netlist run p f b endless tie buffer allowance = allowance_ready stage.latency stage.allowance stage.some stage.larger shape from to kept ready up netlist run p f b endless allowance
timing_ready (Wire stage) shape from to Straight ready up netlist run p f b endless tie buffer allowance = λ c legal before. ap (λ (n : NetValue). run.net c n.number == 1) b ∙ before c (omega arith)
timing_ready _ shape from to _ ready up netlist run p f b endless tie buffer allowance = absurd f

pub timing_ignores : (timing : Timing) (from to : BeatNets) (kept : TimingKept) (netlist : Netlist) (one other : Cycle) → TimingForward timing from to kept netlist → IsValuation netlist one → IsValuation netlist other → ((n : ℕ) → timing_owns kept n → one.net n ≡ other.net n) → SameWords (timing_owns_memories kept) netlist one other →
    ShowSame from one other → ShowSame to one other
timing_ignores (Tie stage) from to Tied netlist one other f v w state words same = subst (λ (n : BeatNets). ShowSame n one other) (sym f) same
timing_ignores (Buffer stage) from to (Buffered kept) netlist one other f v w state words same = buffer_ignores stage.latency from to kept netlist one other f v w state words same
timing_ignores (Allowance stage) from to (Allowed kept) netlist one other f v w state words same = allowance_ignores stage.allowance from to kept netlist one other f v w state words same
timing_ignores (Wire stage) from to Straight netlist one other f v w state words same = subst (λ (n : BeatNets). ShowSame n one other) (sym f) same
timing_ignores _ from to _ netlist one other f v w state words same = absurd f

-- what a buffer keeps, by its own latency
pub buffer_kept : (timing : Timing) (kept : BufferKept) (netlist : Netlist) (latency : ℕ) → latency ≡ kept.latency → TimingKeeps timing (Buffered kept) netlist → BufferKeeps kept latency netlist
buffer_kept (Tie stage) kept netlist latency e h = absurd h
buffer_kept (Buffer stage) kept netlist latency e h = subst (λ n. BufferKeeps kept n netlist) (sym (e ∙ h.latency_is)) h
buffer_kept (Allowance stage) kept netlist latency e h = absurd h
buffer_kept (Wire stage) kept netlist latency e h = absurd h

-- and by its own allowance
pub allowance_kept : (timing : Timing) (kept : AllowanceKept) (netlist : Netlist) → TimingKeeps timing (Allowed kept) netlist → AllowanceKeeps kept kept.buffer.allowance netlist
allowance_kept (Tie stage) kept netlist h = absurd h
allowance_kept (Buffer stage) kept netlist h = absurd h
allowance_kept (Allowance stage) kept netlist h = subst (λ n. AllowanceKeeps kept n netlist) (sym h.allowance_is) h
allowance_kept (Wire stage) kept netlist h = absurd h
