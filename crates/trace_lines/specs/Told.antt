-- What is told of a cycle, by what stands at the interfaces.
use Rattle.std.specs.Prelude.{ℕ, ◌+◌, ◌*◌, ◌%◌, Bool, List, [], ◌∷◌, ◌++◌, map, flat_map, length, nat_eq, Option, Some, None, if◌then◌else◌}
use Rattle.av_base.specs.Word.{word}
use Rattle.histories.specs.History.{before, only_if}
use Rattle.memory_runs.specs.Views.{HostSide, HostView, AgentSide, AgentView}
use Rattle.memory_runs.specs.Operations.{Beat}
use Rattle.memory_runs.specs.Commands.{Transfer, agent_accepts, byte_address, burst_before, transfer_at, is_of_reads}
use Rattle.memory_runs.specs.Legal.{gives_word}
use Rattle.stream_runs.specs.View.{EndView, Side, is_high, is_transfer}
use Rattle.trace_lines.specs.declared.events.ShownBeat.{ShownBeat}
use Rattle.trace_lines.specs.Lines.{get_line, write_line, read_line, sent_line, got_line, dropped_line, end_line}

-- a host, an agent or an end of a stream in a run, by its name
pub record HostEnd : Type 0 where
  pub name : List ℕ
  pub side : HostSide
  pub view : HostView

pub record AgentEnd : Type 0 where
  pub name : List ℕ
  pub side : AgentSide
  pub view : AgentView

pub record StreamEnd : Type 0 where
  pub name : List ℕ
  pub side : Side
  pub view : EndView

-- both ends of a stream, and where its beats are dropped
pub record StreamEnds : Type 0 where
  pub source : StreamEnd
  pub sink : StreamEnd
  pub dropped : ℕ → ℕ

-- all interfaces of a run
pub record RunEnds : Type 0 where
  pub hosts : List HostEnd
  pub agents : List AgentEnd
  pub streams : List StreamEnds

-- the code that a host shows in a cycle, where it has `response`
abbrev pub code_at : ℕ → HostEnd → Option ℕ
code_at c host = if host.side.has_response then Some (host.view.response c) else None

-- of a host: the word that it is given, with its code
abbrev pub told_of_host : ℕ → HostEnd → List (List ℕ)
told_of_host c host =
    only_if (gives_word host.side host.view c)
    (get_line c host.name (word (8 * host.side.word_bytes) (host.view.readdata c)) (code_at c host))

-- what an agent shows when it takes a transfer
abbrev pub taken_at : ℕ → AgentEnd → Transfer
taken_at c agent = transfer_at agent.side.shape agent.view.signals (agent_accepts agent.side agent.view) c

abbrev pub told_of_write : ℕ → AgentEnd → Beat → List ℕ
told_of_write c agent beat =
    write_line c agent.name (agent.view.grant c) (beat.address % agent.side.span) (word agent.side.word_bytes beat.enables)
    (word (8 * agent.side.word_bytes) beat.word)

abbrev pub told_of_read : ℕ → AgentEnd → Transfer → List ℕ
told_of_read c agent transfer =
    read_line c agent.name (agent.view.grant c) (transfer.first % agent.side.span)
    (word agent.side.word_bytes (agent.view.enables c)) (length transfer.beats)

-- a read is told once, and of a write its beat
abbrev pub told_of_transfer : ℕ → AgentEnd → Transfer → List (List ℕ)
told_of_transfer c agent transfer =
    if is_of_reads transfer.kind then told_of_read c agent transfer ∷ [] else map (told_of_write c agent) transfer.beats

-- the byte address of the word that the address port names, and of the word of the beat of a write that stands
abbrev pub read_address : ℕ → AgentEnd → ℕ
read_address c agent = byte_address agent.side.shape (agent.view.address c)

abbrev pub write_address : ℕ → AgentEnd → ℕ
write_address c agent =
    let burst = burst_before agent.side.shape agent.view.signals (agent_accepts agent.side agent.view) c in
    if nat_eq burst.left 0 then read_address c agent else burst.first + burst.done * agent.side.word_bytes

-- of an agent: the transfer that it takes
abbrev pub told_of_agent : ℕ → AgentEnd → List (List ℕ)
told_of_agent c agent = if agent_accepts agent.side agent.view c then told_of_transfer c agent (taken_at c agent) else []

-- the beat that an end shows
abbrev pub shown_at : ℕ → StreamEnd → ShownBeat
shown_at c end = record {
  word = word (end.side.symbols * end.side.symbol_bits) (end.view.word c);
  channel = end.view.channel c;
  error = end.view.error c;
  first = is_high end.view.first c;
  last = is_high end.view.last c;
  empty = end.view.empty c;
}

-- whether it transfers
abbrev pub moves_at : ℕ → StreamEnd → Bool
moves_at c end = is_transfer end.side.pace end.view c

-- of a stream: the beat that is sent, the beat that is got, and that one is dropped
abbrev pub told_of_stream : ℕ → StreamEnds → List (List ℕ)
told_of_stream c stream =
    only_if (moves_at c stream.source) (sent_line c stream.source.name (shown_at c stream.source))
    ++ only_if (moves_at c stream.sink) (got_line c stream.sink.name (shown_at c stream.sink))
    ++ only_if (is_high stream.dropped c) (dropped_line c stream.sink.name)

-- the lines of a cycle: hosts, agents and streams, each in order
abbrev pub told_in : RunEnds → ℕ → List (List ℕ)
told_in run c =
    flat_map (told_of_host c) run.hosts ++ flat_map (told_of_agent c) run.agents ++ flat_map (told_of_stream c) run.streams

-- the lines of so many cycles
abbrev pub trace_of : RunEnds → ℕ → List (List ℕ)
trace_of run cycles = before (told_in run) cycles ++ end_line cycles ∷ []
