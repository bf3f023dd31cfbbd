-- Runs of a plan's module that show the same in their first cycles.
use Rattle.std.specs.Prelude.{◌≡◌, ◌<◌, ℕ}
use Rattle.system_tables.specs.declared.tables.EndId.{EndId}
use Rattle.link_rules.specs.Plans.{PlanTable}
use Rattle.netlist.specs.Netlists.{Netlist}
use Rattle.netlist.specs.Runs.{Run}
use Rattle.stream_runs.specs.View.{AgreeBefore}
use Rattle.memory_runs.specs.Beginnings.{RunsAgreeBefore}
use Rattle.port_tables.specs.Ports.{name_at}
use Rattle.interconnect.specs.Memory.{module_run}
use Rattle.interconnect.specs.Streams.{dropped_signal}
use Rattle.simulated_runs.specs.Ends.{stream_view}

-- two runs show the same at each interface of a plan in the cycles before `end`
pub record InterfacesAgree (plan : PlanTable) (netlist : Netlist) (one two : Run) (end : ℕ) : Type 0 where
  pub memory : RunsAgreeBefore (module_run plan netlist one) (module_run plan netlist two) end
  pub streams : (at : EndId) → AgreeBefore (stream_view plan.system netlist one at) (stream_view plan.system netlist two at) end
  pub dropped : (at : EndId) (k : ℕ) → k < end
      → dropped_signal netlist one (name_at plan.system at) k ≡ dropped_signal netlist two (name_at plan.system at) k
