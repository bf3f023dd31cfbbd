-- What is kept with a host that is under way.
use Rattle.std.specs.Prelude.{◌≡◌, ◌<◌, ℕ, Bool, true, false, List, [], ◌∷◌, length, All}
use Rattle.iface_roles.specs.declared.records.HostPort.{HostPort}
use Rattle.iface_roles.specs.Proper.{IsBoundedHost}
use Rattle.scenario_tables.specs.declared.statements.HostStatement.{HostStatement}
use Rattle.scenario_tables.specs.declared.statements.HostStatement.TheVariants.{Idle, Write, Read}
use Rattle.scenario_tables.specs.Statements.{FitsHost}
use Rattle.stand_ins.specs.Steps.{Step, steps_of}
use Rattle.stand_ins.specs.Steps.Step.{Rests, Presents}

-- fewer steps of the first statement are done than it has; none where no statement is left
abbrev pub IsWithinFirst : HostPort → List HostStatement → ℕ → Type 0
IsWithinFirst port [] done = done ≡ 0
IsWithinFirst port (first ∷ later) done = done < length (steps_of port first)

pub record IsUnderWay (port : HostPort) (script : List HostStatement) (done : ℕ) : Type 0 where
  pub bounded : IsBoundedHost port
  pub fits : All (FitsHost port) script
  pub within : IsWithinFirst port script done

-- a statement of beats, not of rests
abbrev pub has_beats : HostStatement → Bool
has_beats (Idle cycles) = false
has_beats (Write address enables words) = true
has_beats (Read address enables count) = true

-- the first of the steps is a beat
abbrev pub presents_first : List Step → Bool
presents_first [] = false
presents_first (Rests ∷ later) = false
presents_first (Presents levels ∷ later) = true
