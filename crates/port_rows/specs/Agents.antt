-- The signals of an agent in a row of values, and in a run.
use Rattle.std.specs.Prelude.{◌≡◌, ◌*◌, ◌<◌, ℕ, slice_index, Option, List, [], ◌∷◌}
use Rattle.iface_roles.specs.declared.records.AgentPort.{AgentPort}
use Rattle.system_tables.specs.declared.tables.EndId.{EndId}
use Rattle.system_tables.specs.Tables.{SystemTable}
use Rattle.netlist.specs.Netlists.{Netlist}
use Rattle.netlist.specs.Runs.{Run}
use Rattle.histories.specs.History.{one_if}
use Rattle.memory_runs.specs.Views.{Levels, AgentView}
use Rattle.port_tables.specs.declared.roles.PortRole.TheVariants as role
use Rattle.port_tables.specs.Ports.{bits_if}
use Rattle.port_tables.specs.PortMaps.{port_at}
use Rattle.port_rows.specs.declared.driven.Driven.{Driven}
use Rattle.port_rows.specs.Levels.{Level, levels_for}
use Rattle.port_rows.specs.Rows.{level_of}
use Rattle.scenario_tables.specs.declared.statements.AgentStatement.{AgentStatement}
use Rattle.scenario_tables.specs.declared.statements.AgentStatement.TheVariants.{Stall, Latency, Fill, Code}
use Rattle.scenario_tables.specs.Statements.{all_lanes}
use Rattle.stand_ins.specs.StandIns.{stall_pattern, stalls_in, gives_in, word_in, code_in}
use Rattle.port_rows.specs.declared.agent_ends.places.AgentLevels.{AgentLevels}
use Rattle.port_rows.specs.declared.agent_ends.places.AgentPlaces.{AgentPlaces}
use Rattle.port_rows.specs.declared.agent_ends.places.AgentPorts.{AgentPorts}
use Rattle.port_rows.specs.Inputs.{place_at, FitsPort}

-- where the signals of the agent at an end stand
abbrev pub agent_places : SystemTable → EndId → AgentPlaces
agent_places system end = record {
  wait = place_at system end role.WaitRequest;
  valid = place_at system end role.ReadDataValid;
  word = place_at system end role.ReadData;
  response = place_at system end role.Response;
}

-- the outputs that command it
abbrev pub agent_outputs : SystemTable → EndId → AgentPorts
agent_outputs system end = record {
  address = port_at system end role.Address;
  read = port_at system end role.Read;
  write = port_at system end role.Write;
  word = port_at system end role.WriteData;
  enables = port_at system end role.ByteEnable;
  count = port_at system end role.BurstCount;
  grant = port_at system end role.Grant;
}

-- the levels of its command signals in a cycle, as the nets at these outputs have them; without byteenable all lanes are enabled,
-- and without burstcount a command is of one beat
abbrev pub commanded : Netlist → Run → ℕ → ℕ → AgentPorts → Levels
commanded netlist run c bytes ports = record {
  read = level_of netlist run c 0 ports.read;
  write = level_of netlist run c 0 ports.write;
  address = level_of netlist run c 0 ports.address;
  word = level_of netlist run c 0 ports.word;
  enables = level_of netlist run c (all_lanes bytes) ports.enables;
  count = level_of netlist run c 1 ports.count;
}

abbrev drives : Option ℕ → ℕ → Driven
drives place bits = record { place = place; bits = bits }

-- the levels of an agent, signal by signal
abbrev pub agent_driven : AgentPlaces → AgentLevels → List Driven
agent_driven places levels =
    drives places.wait (one_if levels.wait)
    ∷ drives places.valid (one_if levels.valid)
    ∷ drives places.word levels.word
    ∷ drives places.response levels.code
    ∷ []

-- and what they set in a row
abbrev pub agent_levels : AgentPlaces → AgentLevels → List Level
agent_levels places levels = levels_for (agent_driven places levels)

-- levels have room at the ports of an agent; at absent ones they are 0
pub record FitsPorts (port : AgentPort) (levels : AgentLevels) : Type 0 where
  pub wait : FitsPort (bits_if port.waitrequest 1) 0 (one_if levels.wait)
  pub valid : FitsPort (bits_if port.readdatavalid 1) 0 (one_if levels.valid)
  pub word : FitsPort (bits_if port.reads (8 * port.word_bytes)) 0 levels.word
  pub code : FitsPort (bits_if port.response 2) 0 levels.code

-- an agent shows these levels in a cycle
pub record AreShownBy (view : AgentView) (c : ℕ) (levels : AgentLevels) : Type 0 where
  pub waitrequest : view.waitrequest c ≡ one_if levels.wait
  pub readdatavalid : view.readdatavalid c ≡ one_if levels.valid
  pub readdata : view.readdata c ≡ levels.word
  pub response : view.response c ≡ levels.code

-- what an agent's stand-in shows in a cycle
abbrev pub stand_in_levels : AgentPort → List AgentStatement → AgentView → ℕ → AgentLevels
stand_in_levels port script view c = record {
  wait = stalls_in (stall_pattern script) c;
  valid = gives_in port script view c;
  word = word_in port script view c;
  code = code_in port script view c;
}

-- what a script fills are bytes
abbrev pub HoldsBytes : AgentStatement → Type 0
HoldsBytes (Stall pattern) = Unit {0}
HoldsBytes (Latency cycles) = Unit {0}
HoldsBytes (Fill offset bytes) = (k : ℕ) → slice_index bytes k < 256
HoldsBytes (Code offset code) = Unit {0}

abbrev pub AllHoldBytes : List AgentStatement → Type 0
AllHoldBytes [] = Unit {0}
AllHoldBytes (first ∷ later) = HoldsBytes first × AllHoldBytes later
