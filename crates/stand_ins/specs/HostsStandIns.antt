-- What stands in for a host, by what the cycles before have shown.
use Rattle.std.specs.Prelude.{◌≡◌, ◌<◌, ℕ, zero, suc, List}
use Rattle.iface_roles.specs.declared.records.HostPort.{HostPort}
use Rattle.histories.specs.History.{is_raised}
use Rattle.memory_runs.specs.Views.{levels_at, HostView}
use Rattle.scenario_tables.specs.declared.statements.HostStatement.{HostStatement}
use Rattle.stand_ins.specs.Steps.{Step, all_steps, shown, left_after}

-- the steps that are left when a cycle begins, by the levels of `waitrequest` before
abbrev pub left_before : List Step → (ℕ → ℕ) → ℕ → List Step
left_before steps waitrequest zero = steps
left_before steps waitrequest (suc cycle) = left_after (left_before steps waitrequest cycle) (is_raised (waitrequest cycle))

-- a host that works through its statements in order
abbrev pub IsHostStandIn : HostPort → List HostStatement → HostView → ℕ → Type 0
IsHostStandIn port script view end =
    (c : ℕ) → c < end → levels_at view.signals c ≡ shown port (left_before (all_steps port script) view.waitrequest c)

-- a stand-in as contracts see it: its port, and the steps that are left
pub record HostStandInValue : Type 0 where
  pub port : HostPort
  pub left : List Step
