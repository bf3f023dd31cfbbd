use Rattle.std.proofs.Common.{◌≤◌, length, List, sym, subst}
use Rattle.system_tables.specs.declared.tables.EndId.{EndId}
use Rattle.address_map.specs.Maps.{hosts_of, agents_of}
use Rattle.system_tables.specs.Tables.{SystemTable}
use Rattle.link_rules.specs.Plans.{IsPlan, AreNumbered}
use Rattle.link_rules.proofs.CountLemmas.{within_limit}
use Rattle.link_rules.proofs.plan.Plan.make.Goals as goal

pub memory_connections-requires-clause-few_hosts : goal.memory_connections-requires-clause-few_hosts
memory_connections-requires-clause-few_hosts c =
    subst (λ (ends : List EndId). length ends ≤ 16) (sym c.in_ok-numbers.ensures.hosts) (within_limit 16 (length (hosts_of c.args.system.now)) (c.in_ok-numbers.ensures.limits 1))

pub memory_connections-requires-clause-few_agents : goal.memory_connections-requires-clause-few_agents
memory_connections-requires-clause-few_agents c =
    subst (λ (ends : List EndId). length ends ≤ 32) (sym c.in_ok-numbers.ensures.agents) (within_limit 32 (length (agents_of c.args.system.now)) (c.in_ok-numbers.ensures.limits 2))

pub invariant_of-result : goal.invariant_of-result
invariant_of-result c =
    let numbers = c.in_ok-numbers.numbers in
    let is_plan : IsPlan (record { system = c.args.system.now; maps = c.args.maps }) =
    record { system = c.well_made.ensures; maps = c.requires; links = c.in_ok-numbers.ensures.links; limits = c.in_ok-numbers.ensures.limits } in
    subst
    (λ (s : SystemTable). AreNumbered (record { system = s; maps = c.args.maps }) numbers.hosts numbers.agents numbers.streams c.in_ok-stream_connections.stream_connections c.in_ok-memory_connections.memory_connections)
    (sym c.in_ok-system.ensures)
    (record {
      is_plan = is_plan;
      hosts_are = c.in_ok-numbers.ensures.hosts;
      agents_are = c.in_ok-numbers.ensures.agents;
      streams_are = c.in_ok-numbers.ensures.streams;
      stream_connections_are = c.in_ok-stream_connections.ensures;
      memory_connections_are = c.in_ok-memory_connections.ensures;
    })

pub returns-clause-kept : goal.returns-clause-kept
returns-clause-kept c =
    let is_plan : IsPlan (record { system = c.args.system.now; maps = c.args.maps }) =
    record { system = c.well_made.ensures; maps = c.requires; links = c.in_ok-numbers.ensures.links; limits = c.in_ok-numbers.ensures.limits } in
    subst (λ (s : SystemTable). IsPlan (record { system = s; maps = c.args.maps })) (sym c.in_ok-system.ensures) is_plan
