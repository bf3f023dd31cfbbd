-- What a run shows at an agent.
use Rattle.std.proofs.Common.{◌≡◌, ℕ, false, List, slice_get, Some, refl}
use Rattle.std.proofs.lemmas.Nat.{pow_pos}
use Rattle.av_base.specs.Word.{Word}
use Rattle.iface_roles.specs.declared.records.AgentPort.{AgentPort}
use Rattle.iface_roles.specs.declared.records.Finished.{Finished}
use Rattle.iface_roles.specs.declared.records.Finished.TheVariants.{Agent}
use Rattle.system_tables.specs.declared.tables.EndId.{EndId}
use Rattle.system_tables.specs.Tables.{SystemTable}
use Rattle.address_map.specs.Footprints.{known_at}
use Rattle.netlist.specs.Netlists.{Netlist}
use Rattle.netlist.specs.Runs.{Run}
use Rattle.cycle_sim.specs.Sims.{widths_of, input_widths}
use Rattle.histories.specs.History.{one_if}
use Rattle.port_tables.specs.declared.roles.RolePort.{RolePort}
use Rattle.port_tables.specs.Lists.{Among, among_at}
use Rattle.port_tables.specs.Ports.{agent_ports, is_output, name_at, ends_of, ports_of}
use Rattle.port_tables.specs.PortMaps.{HasKnownPorts}
use Rattle.interconnect.specs.Memory.{agent_view}
use Rattle.port_rows.specs.declared.driven.Driven.{Driven}
use Rattle.port_rows.specs.Levels.{AllFit, AllStand, level_if, levels_for}
use Rattle.port_rows.specs.Rows.{IsGivenRow, shown_at}
use Rattle.port_rows.specs.declared.agent_ends.places.AgentLevels.{AgentLevels}
use Rattle.port_rows.specs.Inputs.{EachFits, FitsPort, IsInputOf, place_at}
use Rattle.port_rows.specs.Agents.{AreShownBy, FitsPorts, agent_driven, agent_levels, agent_places}

-- ---- what is known of inputs

abbrev pub AreShown : Type 0
AreShown = (system : SystemTable) (netlist : Netlist) (run : Run) (c : ℕ) (row : List Word) → HasKnownPorts system → IsGivenRow system netlist run c row
    → (end : EndId) (there : Finished) (port : RolePort) (absent level : ℕ) → IsInputOf system end there port → FitsPort port.width absent level
    → AllStand row (level_if (place_at system end port.role) level) → shown_at system netlist run end port.role absent c ≡ level

abbrev pub HaveRoom : Type 0
HaveRoom = (system : SystemTable) (row : List Word) → HasKnownPorts system → widths_of row ≡ input_widths (ports_of system)
    → (end : EndId) (there : Finished) (port : RolePort) (absent level : ℕ) → IsInputOf system end there port → FitsPort port.width absent level
    → AllFit row (level_if (place_at system end port.role) level)

abbrev pub EachStands : Type 0
EachStands = (row : List Word) (driven : List Driven) (k : ℕ) (one : Driven) → slice_get driven k ≡ Some one → AllStand row (levels_for driven) → AllStand row (level_if one.place one.bits)

abbrev pub AllHaveRoom : Type 0
AllHaveRoom = (row : List Word) (driven : List Driven) → EachFits row driven → AllFit row (levels_for driven)

-- ---- at an agent

pub low_fits : (width : ℕ) → FitsPort width 0 0
low_fits width = record { room = λ some. pow_pos width; default = λ none. refl }

-- the port of this number among those of an agent
agent_input : (system : SystemTable) (end : EndId) (agent : AgentPort) (k : ℕ) (port : RolePort) → Among end (ends_of system) → known_at system end ≡ Agent agent
    → slice_get (agent_ports agent) k ≡ Some port → is_output false port.role ≡ false → IsInputOf system end (Agent agent) port
agent_input system end agent k port among known at input = record { among = among; known = known; may = among_at (agent_ports agent) k port at; input = input }

pub agent_shown : (system : SystemTable) (netlist : Netlist) (run : Run) (c : ℕ) (row : List Word) → AreShown → EachStands → HasKnownPorts system → IsGivenRow system netlist run c row
    → (end : EndId) (agent : AgentPort) (levels : AgentLevels) → Among end (ends_of system) → known_at system end ≡ Agent agent → FitsPorts agent levels
    → AllStand row (agent_levels (agent_places system end) levels)
    → AreShownBy (agent_view netlist run agent.word_bytes (name_at system end)) c levels
agent_shown system netlist run c row law each known given end agent levels among there fits stand =
    let driven = agent_driven (agent_places system end) levels in
    let shown = λ (k : ℕ) (port : RolePort) (level : ℕ) (at : slice_get (agent_ports agent) k ≡ Some port) (input : is_output false port.role ≡ false) (room : FitsPort port.width 0 level) (stands : AllStand row (level_if (place_at system end port.role) level)).
    law system netlist run c row known given end (Agent agent) port 0 level (agent_input system end agent k port among there at input) room stands in
    record {
      waitrequest = shown 6 _ (one_if levels.wait) refl refl fits.wait (each row driven 0 _ refl stand);
      readdatavalid = shown 8 _ (one_if levels.valid) refl refl fits.valid (each row driven 1 _ refl stand);
      readdata = shown 7 _ levels.word refl refl fits.word (each row driven 2 _ refl stand);
      response = shown 9 _ levels.code refl refl fits.code (each row driven 3 _ refl stand);
    }

pub agent_fits : (system : SystemTable) (row : List Word) → HaveRoom → AllHaveRoom → HasKnownPorts system → widths_of row ≡ input_widths (ports_of system)
    → (end : EndId) (agent : AgentPort) (levels : AgentLevels) → Among end (ends_of system) → known_at system end ≡ Agent agent → FitsPorts agent levels
    → AllFit row (agent_levels (agent_places system end) levels)
agent_fits system row law all known same end agent levels among there fits =
    let room = λ (k : ℕ) (port : RolePort) (level : ℕ) (at : slice_get (agent_ports agent) k ≡ Some port) (input : is_output false port.role ≡ false) (h : FitsPort port.width 0 level).
    law system row known same end (Agent agent) port 0 level (agent_input system end agent k port among there at input) h in
    all row (agent_driven (agent_places system end) levels) (
      room 6 _ (one_if levels.wait) refl refl fits.wait,
      (
        room 8 _ (one_if levels.valid) refl refl fits.valid,
        (room 7 _ levels.word refl refl fits.word, (room 9 _ levels.code refl refl fits.code, tt)),
      ),
    )
