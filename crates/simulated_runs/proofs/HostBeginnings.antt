-- Hosts that show the same in their first cycles.
use Rattle.std.proofs.Common.{◌≡◌, ℕ, zero, suc, ◌<◌, ◌≤◌, List, refl, sym, ap, ap₂, ◌∙◌, arith}
use Rattle.histories.specs.History.{is_raised}
use Rattle.iface_roles.specs.declared.records.HostPort.{HostPort}
use Rattle.memory_runs.specs.Views.{HostView}
use Rattle.memory_runs.specs.Beginnings.{HostsAgree}
use Rattle.scenario_tables.specs.declared.statements.HostStatement.{HostStatement}
use Rattle.stand_ins.specs.Steps.{Step, all_steps, shown, left_after}
use Rattle.stand_ins.specs.HostsStandIns.{left_before, IsHostStandIn}

same_left : (steps : List Step) (one two : ℕ → ℕ) (c : ℕ) → ((k : ℕ) → k < c → one k ≡ two k) → left_before steps one c ≡ left_before steps two c
same_left steps one two zero same = refl
same_left steps one two (suc c) same =
    ap₂ left_after (same_left steps one two c (λ k low. same k (omega arith))) (ap is_raised (same c (omega arith)))

pub same_host : (port : HostPort) (script : List HostStatement) (one two : HostView) (end : ℕ) → HostsAgree one two end → IsHostStandIn port script one end → IsHostStandIn port script two end
same_host port script one two end agree stands =
    λ c low. sym (agree.signals c low) ∙ stands c low
    ∙ ap (shown port) (same_left (all_steps port script) one.waitrequest two.waitrequest c (λ k below. agree.waitrequest k (omega arith)))

pub same_steps : (steps : List Step) (one two : HostView) (end : ℕ) → HostsAgree one two end → left_before steps one.waitrequest end ≡ left_before steps two.waitrequest end
same_steps steps one two end agree = same_left steps one.waitrequest two.waitrequest end (λ k low. agree.waitrequest k low)
