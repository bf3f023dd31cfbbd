use Rattle.port_tables.specs.Ports.{name_at}
use Rattle.simulated_runs.proofs.Growing.{hosts_agree, agents_agree, streams_agree, dropped_agrees}
use Rattle.simulated_runs.proofs.laws.earlier_cycles_stay.Goals as goal

pub returns-clause-hosts : goal.returns-clause-hosts
returns-clause-hosts c = hosts_agree

pub returns-clause-agents : goal.returns-clause-agents
returns-clause-agents c = agents_agree

pub returns-clause-streams : goal.returns-clause-streams
returns-clause-streams c = λ plan netlist run k cycle end. streams_agree plan netlist run k cycle end

pub returns-clause-dropped : goal.returns-clause-dropped
returns-clause-dropped c = λ plan netlist run k cycle end j low. dropped_agrees plan netlist run k cycle (name_at plan.system end) j low
