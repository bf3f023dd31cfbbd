-- Levels that are given to inputs of a plan's module, by ends and roles.
use Rattle.std.specs.Prelude.{◌≡◌, ℕ, List, [], ◌∷◌, flat_map}
use Rattle.system_tables.specs.declared.tables.EndId.{EndId}
use Rattle.system_tables.specs.Tables.{SystemTable}
use Rattle.port_tables.specs.declared.roles.PortRole.{PortRole}
use Rattle.port_tables.specs.Lists.{Among}
use Rattle.port_tables.specs.Ports.{ends_of, ports_of}
use Rattle.port_tables.specs.PortMaps.{port_at}
use Rattle.port_rows.specs.Levels.{Level, level_if}
use Rattle.port_rows.specs.Rows.{place_among, IsInputRole}

-- the bits for the input of a role at an end
pub record Given : Type 0 where
  pub end : EndId
  pub role : PortRole
  pub bits : ℕ

-- what they set in a row
abbrev pub levels_of : SystemTable → Given → List Level
levels_of system one = level_if (place_among (ports_of system) (port_at system one.end one.role)) one.bits

abbrev pub given_levels : SystemTable → List Given → List Level
given_levels system given = flat_map (levels_of system) given

-- an input of an end of the system
pub record IsInputGiven (system : SystemTable) (one : Given) : Type 0 where
  pub among : Among one.end (ends_of system)
  pub input : IsInputRole system one.end one.role

-- none of these is for the same role of the same end
abbrev pub IsAlone : Given → List Given → Type 0
IsAlone one [] = Unit {0}
IsAlone one (other ∷ later) = (one.end ≡ other.end → one.role ≡ other.role → ⊥) × IsAlone one later

-- inputs of the system, each given once
abbrev pub AreGivenOnce : SystemTable → List Given → Type 0
AreGivenOnce system [] = Unit {0}
AreGivenOnce system (one ∷ later) = IsInputGiven system one × IsAlone one later × AreGivenOnce system later
