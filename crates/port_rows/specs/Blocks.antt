-- Levels that are given to the inputs of a plan's module, end by end.
use Rattle.std.specs.Prelude.{◌≡◌, ℕ, false, List, [], ◌∷◌, map, flat_map}
use Rattle.iface_roles.specs.declared.records.Finished.{Finished}
use Rattle.system_tables.specs.declared.tables.EndId.{EndId}
use Rattle.system_tables.specs.Tables.{SystemTable}
use Rattle.address_map.specs.Footprints.{known_at}
use Rattle.port_tables.specs.declared.roles.PortRole.{PortRole}
use Rattle.port_tables.specs.declared.roles.RolePort.{RolePort}
use Rattle.port_tables.specs.Lists.{Among}
use Rattle.port_tables.specs.Ports.{is_output, may_have, starts}
use Rattle.port_rows.specs.Levels.{Level}
use Rattle.port_rows.specs.Given.{Given, given_levels}

-- the bits for the input of a role
pub record RoleLevel : Type 0 where
  pub role : PortRole
  pub bits : ℕ

-- what is given at an end
pub record EndLevels : Type 0 where
  pub end : EndId
  pub levels : List RoleLevel

-- an end of which so much is known may have this role, and it is an input of the module
pub record IsGivenRole (there : Finished) (role : PortRole) : Type 0 where
  pub port : RolePort
  pub may : Among port (may_have there)
  pub role_is : port.role ≡ role
  pub input : is_output (starts there) port.role ≡ false

abbrev pub AreGivenRoles : Finished → List RoleLevel → Type 0
AreGivenRoles there [] = Unit {0}
AreGivenRoles there (one ∷ later) = IsGivenRole there one.role × AreGivenRoles there later

-- none of these is for this role
abbrev pub IsNoRoleOf : PortRole → List RoleLevel → Type 0
IsNoRoleOf role [] = Unit {0}
IsNoRoleOf role (one ∷ later) = (role ≡ one.role → ⊥) × IsNoRoleOf role later

-- each role is given once
abbrev pub AreOnce : List RoleLevel → Type 0
AreOnce [] = Unit {0}
AreOnce (one ∷ later) = IsNoRoleOf one.role later × AreOnce later

-- what is given at an end are inputs of it, each once
pub record AreEndInputs (system : SystemTable) (given : EndLevels) : Type 0 where
  pub there : Finished
  pub known : known_at system given.end ≡ there
  pub inputs : AreGivenRoles there given.levels
  pub once : AreOnce given.levels

abbrev pub AllAreEndInputs : SystemTable → List EndLevels → Type 0
AllAreEndInputs system [] = Unit {0}
AllAreEndInputs system (one ∷ later) = AreEndInputs system one × AllAreEndInputs system later

-- what is given at an end, input by input
abbrev pub given_at : EndId → RoleLevel → Given
given_at end level = record { end = end; role = level.role; bits = level.bits }

abbrev pub given_of : EndLevels → List Given
given_of given = map (given_at given.end) given.levels

-- and what that sets in a row
abbrev pub end_levels : SystemTable → EndLevels → List Level
end_levels system given = given_levels system (given_of given)
