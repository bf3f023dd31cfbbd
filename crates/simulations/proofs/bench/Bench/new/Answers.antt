use Rattle.simulations.specs.Benches.{BenchValue}
use Rattle.simulations.proofs.Beginning.{first_under_way}
use Rattle.simulations.proofs.bench.Bench.new.Goals as goal

pub returns-clause-under_way : goal.returns-clause-under_way
returns-clause-under_way c = λ sim run stands.
    let bench : BenchValue = record { sim = sim; row = c.in_ok-row.row; hosts = c.in_ok-hosts.hosts.items; agents = c.in_ok-agents.agents.items; streams = c.in_ok-streams.streams.items } in
    first_under_way c.stand_ins_stand_for_runs.ensures.begins c.args.plan.now c.args.scenario.now run bench stands c.args.module.now.ports c.in_ok-row.ensures c.requires.module.ports
    c.in_ok-hosts.ensures c.in_ok-agents.ensures c.in_ok-streams.ensures
