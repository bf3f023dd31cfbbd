-- What one cycle adds to the counts of a run.
use Rattle.std.specs.Prelude.{ℕ, ◌+◌, length, sum_by, if◌then◌else◌}
use Rattle.histories.specs.History.{one_if}
use Rattle.memory_runs.specs.Commands.{agent_accepts}
use Rattle.memory_runs.specs.Legal.{gives_word}
use Rattle.stream_runs.specs.View.{beat_at, is_high}
use Rattle.stream_runs.specs.Symbols.{symbol_count}
use Rattle.trace_lines.specs.declared.counts.Counts.{Counts}
use Rattle.trace_lines.specs.Told.{HostEnd, AgentEnd, StreamEnds, RunEnds, taken_at, moves_at}

-- the beats of the transfer that an agent takes in a cycle
abbrev pub beats_taken_in : ℕ → AgentEnd → ℕ
beats_taken_in c agent = if agent_accepts agent.side agent.view c then length (taken_at c agent).beats else 0

-- the symbols that a sink is given
abbrev pub symbols_delivered_in : ℕ → StreamEnds → ℕ
symbols_delivered_in c stream = if moves_at c stream.sink then symbol_count stream.sink.side (beat_at stream.sink.view c) else 0

-- what a cycle adds
abbrev pub counts_in : RunEnds → ℕ → Counts
counts_in run c = record {
  taken = sum_by (beats_taken_in c) run.agents;
  answered = sum_by (λ (host : HostEnd). one_if (gives_word host.side host.view c)) run.hosts;
  delivered = sum_by (symbols_delivered_in c) run.streams;
  dropped = sum_by (λ (stream : StreamEnds). one_if (is_high stream.dropped c)) run.streams;
}

abbrev pub with_counts : Counts → Counts → Counts
with_counts one two = record {
  taken = one.taken + two.taken;
  answered = one.answered + two.answered;
  delivered = one.delivered + two.delivered;
  dropped = one.dropped + two.dropped;
}
