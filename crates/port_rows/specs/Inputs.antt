-- Levels at the inputs of a plan's module, by the ports of its ends.
use Rattle.std.specs.Prelude.{◌≡◌, ◌^◌, ◌<◌, ℕ, false, List, [], ◌∷◌, slice_get, Option, Some}
use Rattle.av_base.specs.Word.{Word}
use Rattle.iface_roles.specs.declared.records.Finished.{Finished}
use Rattle.system_tables.specs.declared.tables.EndId.{EndId}
use Rattle.system_tables.specs.Tables.{SystemTable}
use Rattle.address_map.specs.Footprints.{known_at}
use Rattle.netlist.specs.Netlists.{Netlist}
use Rattle.netlist.specs.Runs.{Run}
use Rattle.cycle_sim.specs.Sims.{input_widths, widths_of}
use Rattle.port_tables.specs.declared.roles.PortRole.{PortRole}
use Rattle.port_tables.specs.declared.roles.RolePort.{RolePort}
use Rattle.port_tables.specs.Lists.{Among}
use Rattle.port_tables.specs.Ports.{is_output, may_have, starts, ends_of, ports_of}
use Rattle.port_tables.specs.PortMaps.{HasKnownPorts, port_at}
use Rattle.port_rows.specs.declared.driven.Driven.{Driven}
use Rattle.port_rows.specs.Levels.{AllFit, AllStand, level_if, levels_for}
use Rattle.port_rows.specs.Rows.{IsGivenRow, place_among, shown_at}

-- where the value of an input of this role stands in a row
abbrev pub place_at : SystemTable → EndId → PortRole → Option ℕ
place_at system end role = place_among (ports_of system) (port_at system end role)

-- these bits, where there is such a place
abbrev pub drives : Option ℕ → ℕ → Driven
drives place bits = record { place = place; bits = bits }

-- an end may have this port, which is an input of the module
pub record IsInputOf (system : SystemTable) (end : EndId) (there : Finished) (port : RolePort) : Type 0 where
  pub among : Among end (ends_of system)
  pub known : known_at system end ≡ there
  pub may : Among port (may_have there)
  pub input : is_output (starts there) port.role ≡ false

-- a level has room at a port of so many bits; where there are none, the port is absent, and the level is the one that is stated
-- for that
pub record FitsPort (width absent level : ℕ) : Type 0 where
  pub room : 0 < width → level < 2 ^ width
  pub default : width ≡ 0 → level ≡ absent

-- each of these has room in a row where it has a place
abbrev pub EachFits : List Word → List Driven → Type 0
EachFits row [] = Unit {0}
EachFits row (one ∷ later) = AllFit row (level_if one.place one.bits) × EachFits row later

-- ---- what holds of inputs

-- what stands in a row at the place of an input is what the run shows there, and an absent input shows what is stated for it
abbrev pub InputsAreShown : Type 0
InputsAreShown =
    (system : SystemTable) (netlist : Netlist) (run : Run) (c : ℕ) (row : List Word) → HasKnownPorts system
    → IsGivenRow system netlist run c row
    → (end : EndId) (there : Finished) (port : RolePort) (absent level : ℕ) → IsInputOf system end there port
    → FitsPort port.width absent level
    → AllStand row (level_if (place_at system end port.role) level) → shown_at system netlist run end port.role absent c ≡ level

-- what has room at a port has it in a row
abbrev pub InputsHaveRoom : Type 0
InputsHaveRoom = (system : SystemTable) (row : List Word) → HasKnownPorts system → widths_of row ≡ input_widths (ports_of system)
    → (end : EndId) (there : Finished) (port : RolePort) (absent level : ℕ) → IsInputOf system end there port
    → FitsPort port.width absent level
    → AllFit row (level_if (place_at system end port.role) level)

-- where all that is driven stands in a row, each of it does
abbrev pub EachStands : Type 0
EachStands =
    (row : List Word) (driven : List Driven) (k : ℕ) (one : Driven) → slice_get driven k ≡ Some one
    → AllStand row (levels_for driven) → AllStand row (level_if one.place one.bits)

-- where each of it has room, all does
abbrev pub AllHaveRoom : Type 0
AllHaveRoom = (row : List Word) (driven : List Driven) → EachFits row driven → AllFit row (levels_for driven)
