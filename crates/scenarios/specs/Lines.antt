-- What a line states.
use Rattle.std.specs.Prelude.{ℕ, Bool, not, List, [], ◌∷◌, length, Option, Some, None, is_some, Ok, Err, if◌then◌else◌}
use Rattle.iface_roles.specs.declared.kinds.Side.TheVariants.{Start, End}
use Rattle.iface_roles.specs.declared.records.AgentPort.{AgentPort}
use Rattle.iface_roles.specs.declared.records.StreamPort.{StreamPort}
use Rattle.system_tables.specs.Tables.{SystemTable}
use Rattle.waves.specs.declared.keywords.Keyword.{Keyword}
use Rattle.waves.specs.declared.keywords.Keyword.TheVariants.{Cycles, Write, Read, Idle, Fill, Code, Stall, Latency, Beat, Gap}
use Rattle.waves.specs.Keywords.{keyword_in, fits_words}
use Rattle.waves.specs.Words.{is_silent, is_clean, words_of, first_word, word_at}
use Rattle.waves.specs.Spelling.{is_count, count_in}
use Rattle.scenarios.specs.declared.faults.ScenarioRule.{ScenarioRule}
use Rattle.scenarios.specs.declared.faults.ScenarioRule.TheVariants.{Characters, Statements, Words, Interfaces, Spelling, Ranges, Beginning}
use Rattle.scenarios.specs.declared.interfaces.Named.{Named}
use Rattle.scenarios.specs.declared.so_far.SoFar.{SoFar}
use Rattle.scenarios.specs.Rules.{first_broken}
use Rattle.scenarios.specs.Interfaces.{host_named, agent_named, stream_named}
use Rattle.scenarios.specs.SoFar.{Reading, judged}
use Rattle.scenarios.specs.Hosts.{is_rest, write_in, read_in, idle_in}
use Rattle.scenarios.specs.Agents.{fill_in, code_in, agent_stall_in, sink_stall_in, latency_in}
use Rattle.scenarios.specs.Streams.{beat_in, gap_in}

-- ---- `cycles COUNT`

abbrev pub cycles_rule : SoFar → List (List ℕ) → Option ScenarioRule
cycles_rule so_far words = first_broken
    ((not (is_count (word_at 1 words)), Spelling)
    ∷ (not (is_rest (count_in (word_at 1 words))), Ranges)
    ∷ (is_some so_far.cycles, Beginning)
    ∷ [])

unfoldable pub cycles_in : SoFar → List (List ℕ) → Reading
cycles_in so_far words = judged (cycles_rule so_far words) (record so_far { cycles = Some (count_in (word_at 1 words)) })

-- ---- a statement of an interface that fits it

abbrev pub at_one : {X : Type 0} → Option X → (X → Reading) → Reading
at_one {X} None reading = Err Interfaces
at_one {X} (Some one) reading = reading one

-- where what the statement needs is there
abbrev pub where_there : Bool → Reading → Reading
where_there there reading = if there then reading else Err Interfaces

-- an agent stalls by `waitrequest`, a sink by `ready`
abbrev pub stall_by : SoFar → List (List ℕ) → Option (Named AgentPort) → Option (Named StreamPort) → Reading
stall_by so_far words (Some agent) sink = where_there agent.port.waitrequest (agent_stall_in so_far agent words)
stall_by so_far words None sink = at_one sink (λ one. where_there one.port.ready (sink_stall_in so_far one words))

abbrev pub stall_at : SystemTable → SoFar → List (List ℕ) → Reading
stall_at system so_far words =
    stall_by so_far words (agent_named system (word_at 1 words)) (stream_named system End (word_at 1 words))

-- a code comes by `response`, and a latency counts where words come with `readdatavalid`
abbrev pub statement_in : SystemTable → SoFar → List (List ℕ) → Keyword → Reading
statement_in system so_far words Cycles = cycles_in so_far words
statement_in system so_far words Write = at_one (host_named system (word_at 1 words)) (λ host. write_in so_far host words)
statement_in system so_far words Read = at_one (host_named system (word_at 1 words)) (λ host. read_in so_far host words)
statement_in system so_far words Idle = at_one (host_named system (word_at 1 words)) (λ host. idle_in so_far host words)
statement_in system so_far words Fill = at_one (agent_named system (word_at 1 words)) (λ agent. fill_in so_far agent words)
statement_in system so_far words Code =
    at_one (agent_named system (word_at 1 words)) (λ agent. where_there agent.port.response (code_in so_far agent words))
statement_in system so_far words Stall = stall_at system so_far words
statement_in system so_far words Latency =
    at_one (agent_named system (word_at 1 words)) (λ agent. where_there agent.port.readdatavalid (latency_in so_far agent words))
statement_in system so_far words Beat =
    at_one (stream_named system Start (word_at 1 words)) (λ source. beat_in so_far source words)
statement_in system so_far words Gap = at_one (stream_named system Start (word_at 1 words)) (λ source. gap_in so_far source words)

-- ---- a line

abbrev pub by_keyword : SystemTable → SoFar → List (List ℕ) → Option Keyword → Reading
by_keyword system so_far words None = Err Statements
by_keyword system so_far words (Some keyword) =
    if fits_words keyword (length words) then statement_in system so_far words keyword else Err Words

unfoldable pub words_in : SystemTable → SoFar → List (List ℕ) → Reading
words_in system so_far words = by_keyword system so_far words (keyword_in (first_word words))

-- what a line states besides what those before it have stated
unfoldable pub line_in : SystemTable → SoFar → List ℕ → Reading
line_in system so_far line =
    if is_silent line then Ok so_far else (if is_clean line then words_in system so_far (words_of line) else Err Characters)
