-- What a run has done so far, in four counts.
use Rattle.std.specs.Prelude.{ℕ, length, flat_map, sum_by}
use Rattle.histories.specs.History.{before, only_if}
use Rattle.memory_runs.specs.Commands.{Transfer, agent_accepts, accepted}
use Rattle.memory_runs.specs.Legal.{given}
use Rattle.stream_runs.specs.View.{is_high}
use Rattle.stream_runs.specs.Symbols.{delivered_symbols}
use Rattle.trace_lines.specs.declared.counts.Counts.{Counts}
use Rattle.trace_lines.specs.Told.{HostEnd, AgentEnd, StreamEnds, RunEnds}

-- the beats of writes that an agent took before a cycle, and the words that reads asked of it
abbrev pub beats_taken : ℕ → AgentEnd → ℕ
beats_taken c agent =
    length
    (flat_map (λ (transfer : Transfer). transfer.beats)
    (accepted agent.side.shape agent.view.signals (agent_accepts agent.side agent.view) c))

-- the words that a host was given
abbrev pub words_given : ℕ → HostEnd → ℕ
words_given c host = length (given host.side host.view c)

-- the symbols that a sink was given
abbrev pub symbols_delivered : ℕ → StreamEnds → ℕ
symbols_delivered c stream = length (delivered_symbols stream.sink.side stream.sink.view c)

-- the beats of a stream that were dropped
abbrev pub beats_dropped : ℕ → StreamEnds → ℕ
beats_dropped c stream = length (before (λ k. only_if (is_high stream.dropped k) k) c)

-- all of them, before a cycle
abbrev pub counts_before : RunEnds → ℕ → Counts
counts_before run c = record {
  taken = sum_by (beats_taken c) run.agents;
  answered = sum_by (words_given c) run.hosts;
  delivered = sum_by (symbols_delivered c) run.streams;
  dropped = sum_by (beats_dropped c) run.streams;
}
