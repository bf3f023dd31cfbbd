-- The agents of a test bench.
use Rattle.std.specs.Prelude.{◌≡◌, ◌*◌, ◌%◌, ◌<◌, ℕ, Bool, not, ◌&&◌, nat_eq, List, [], ◌∷◌, length, slice_get, Some, if◌then◌else◌}
use Rattle.av_base.specs.Word.{word}
use Rattle.histories.specs.History.{is_raised, one_if}
use Rattle.iface_roles.specs.declared.records.AgentPort.{AgentPort}
use Rattle.iface_roles.specs.Proper.{IsBoundedAgent, span_of}
use Rattle.address_map.specs.Maps.{agents_of}
use Rattle.system_tables.specs.Tables.{SystemTable}
use Rattle.map_text.specs.Text.{end_name}
use Rattle.cycle_sim.specs.Sims.{SimValue}
use Rattle.memory_runs.specs.Views.{Levels, AgentView, levels_at}
use Rattle.memory_runs.specs.Legal.{Word as CodedWord}
use Rattle.port_rows.specs.Levels.{Level}
use Rattle.scenario_tables.specs.declared.statements.AgentStatement.{AgentStatement}
use Rattle.scenario_tables.specs.Scenarios.{IsAgentAt}
use Rattle.scenario_tables.specs.Statements.{all_lanes}
use Rattle.stand_ins.specs.StandIns.{stalls_in}
use Rattle.stand_ins.specs.Whole.{AgentStandInValue, IsFirst, IsBehind, accepts, address_shown, gives, word_shown, word_now, code_shown, code_now}
use Rattle.port_rows.specs.declared.agent_ends.places.AgentLevels.{AgentLevels}
use Rattle.port_rows.specs.declared.agent_ends.places.AgentPlaces.{AgentPlaces}
use Rattle.port_rows.specs.declared.agent_ends.places.AgentPorts.{AgentPorts}
use Rattle.port_rows.specs.Agents.{AllHoldBytes, agent_places, agent_outputs, agent_levels}
use Rattle.trace_lines.specs.declared.counts.Counts.{Counts}
use Rattle.trace_lines.specs.Lines.{write_line, read_line}
use Rattle.benches.specs.Outputs.{level_now, IsOutputIf}

-- an agent of a bench as contracts see it: the name that a trace tells, where its signals stand, which outputs command it, and
-- what stands in for it
pub record BenchAgentValue : Type 0 where
  pub name : List ℕ
  pub places : AgentPlaces
  pub ports : AgentPorts
  pub stand_in : AgentStandInValue

-- what is kept: its port, which is that of its stand-in
pub record IsKept (port : AgentPort) (stand_in : AgentStandInValue) : Type 0 where
  pub bounded : IsBoundedAgent port
  pub same : stand_in.port ≡ port

-- ---- what it is

-- it is the agent of this number in a system
pub record IsAgentOf (system : SystemTable) (number : ℕ) (agent : BenchAgentValue) : Type 0 where
  pub at : IsAgentAt system number agent.stand_in.port
  pub name : agent.name ≡ end_name system at.end
  pub places : agent.places ≡ agent_places system at.end
  pub ports : agent.ports ≡ agent_outputs system at.end

-- it is, and stands before the first cycle of its script, with room for so many cycles
pub record IsFirstAgent (system : SystemTable) (number : ℕ) (script : List AgentStatement) (cycles : ℕ)
    (agent : BenchAgentValue) : Type 0 where
  pub of : IsAgentOf system number agent
  pub first : IsFirst agent.stand_in.port script cycles agent.stand_in
  pub bytes : AllHoldBytes script

-- these are the agents of a system, each before its first cycle
pub record AreFirstAgents (system : SystemTable) (scripts : List (List AgentStatement)) (cycles : ℕ)
    (agents : List BenchAgentValue) : Type 0 where
  pub count : length agents ≡ length (agents_of system)
  pub each : (a : ℕ) (agent : BenchAgentValue) (script : List AgentStatement) → slice_get agents a ≡ Some agent
      → slice_get scripts a ≡ Some script → IsFirstAgent system a script cycles agent

-- ---- one cycle

-- the command signals that it is shown; absent byte enables are all ones, an absent burst count is 1
abbrev pub commanded : BenchAgentValue → SimValue → Levels
commanded agent sim = record {
  read = level_now sim 0 agent.ports.read;
  write = level_now sim 0 agent.ports.write;
  address = level_now sim 0 agent.ports.address;
  word = level_now sim 0 agent.ports.word;
  enables = level_now sim (all_lanes agent.stand_in.port.word_bytes) agent.ports.enables;
  count = level_now sim 1 agent.ports.count;
}

-- what it shows, with this word on `readdata` and its code on `response`
abbrev pub levels_with : BenchAgentValue → CodedWord → AgentLevels
levels_with agent answer =
    record {
      wait =
          stalls_in agent.stand_in.stalls agent.stand_in.cycle;
      valid = gives agent.stand_in;
      word = answer.word;
      code = answer.code;
    }

-- the word of the cycle before its command is known, and its code
abbrev pub first_word : BenchAgentValue → CodedWord
first_word agent = record { word = word_shown agent.stand_in; code = code_shown agent.stand_in }

-- what it sets in a row then
abbrev pub sets : BenchAgentValue → List Level
sets agent = agent_levels agent.places (levels_with agent (first_word agent))

-- it gives a word in the very cycle in which it takes the read
abbrev pub gives_at_once : BenchAgentValue → Bool
gives_at_once agent = not agent.stand_in.port.readdatavalid && nat_eq agent.stand_in.port.read_latency 0

-- the word of the cycle once the command is known, and its code
abbrev pub word_answered : BenchAgentValue → SimValue → CodedWord
word_answered agent sim = record {
  word = if gives_at_once agent then word_now agent.stand_in (commanded agent sim) else word_shown agent.stand_in;
  code = if gives_at_once agent then code_now agent.stand_in (commanded agent sim) else code_shown agent.stand_in;
}

-- what it sets then
abbrev pub sets_answered : BenchAgentValue → SimValue → List Level
sets_answered agent sim = agent_levels agent.places (levels_with agent (word_answered agent sim))

-- the outputs that command it are there, as wide as its ports, and a further cycle has room
pub record Fits (agent : BenchAgentValue) (sim : SimValue) : Type 0 where
  pub read : IsOutputIf sim.netlist 1 agent.ports.read
  pub write : IsOutputIf sim.netlist 1 agent.ports.write
  pub address : IsOutputIf sim.netlist 32 agent.ports.address
  pub word : IsOutputIf sim.netlist (8 * agent.stand_in.port.word_bytes) agent.ports.word
  pub enables : IsOutputIf sim.netlist agent.stand_in.port.word_bytes agent.ports.enables
  pub count : IsOutputIf sim.netlist 11 agent.ports.count
  pub grant : IsOutputIf sim.netlist 4 agent.ports.grant
  pub room : agent.stand_in.cycle < agent.stand_in.cycles

-- the line that tells of what it takes: a beat of a write, or a read
abbrev pub taken_line : BenchAgentValue → SimValue → ℕ → Levels → List ℕ
taken_line agent sim c levels =
    let host = level_now sim 0 agent.ports.grant in
    let offset = address_shown agent.stand_in levels % span_of agent.stand_in.port in
    let enables = word agent.stand_in.port.word_bytes levels.enables in
    if is_raised levels.write
    then write_line c agent.name host offset enables (word (8 * agent.stand_in.port.word_bytes) levels.word)
    else read_line c agent.name host offset enables levels.count

abbrev pub tells : BenchAgentValue → SimValue → ℕ → List (List ℕ)
tells agent sim c = if accepts agent.stand_in (commanded agent sim) then taken_line agent sim c (commanded agent sim) ∷ [] else []

-- the beats that it takes: one of a write, and as many of a read as it asks words
abbrev pub beats_taken : BenchAgentValue → Levels → ℕ
beats_taken agent levels = if accepts agent.stand_in levels then (if is_raised levels.write then 1 else levels.count) else 0

-- what it adds to the counts
abbrev pub counts : BenchAgentValue → SimValue → Counts
counts agent sim = record { taken = beats_taken agent (commanded agent sim); answered = 0; delivered = 0; dropped = 0 }

-- how it may stand behind the cycle
pub record Follows (agent : BenchAgentValue) (sim : SimValue) (after : BenchAgentValue) : Type 0 where
  pub name : after.name ≡ agent.name
  pub places : after.places ≡ agent.places
  pub ports : after.ports ≡ agent.ports
  pub stand_in : IsBehind agent.stand_in (commanded agent sim) after.stand_in

-- a view of an agent shows in the present cycle what the bench shows and what the outputs command
pub record IsSeen (view : AgentView) (sim : SimValue) (agent : BenchAgentValue) : Type 0 where
  pub signals : levels_at view.signals agent.stand_in.cycle ≡ commanded agent sim
  pub waitrequest : view.waitrequest agent.stand_in.cycle ≡ one_if (stalls_in agent.stand_in.stalls agent.stand_in.cycle)
  pub grant : view.grant agent.stand_in.cycle ≡ level_now sim 0 agent.ports.grant
