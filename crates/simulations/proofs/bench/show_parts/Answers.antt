use Rattle.std.specs.Prelude.{flat_map}
use Rattle.benches.specs.Hosts as of_hosts
use Rattle.benches.specs.Agents.{BenchAgentValue}
use Rattle.benches.specs.Agents as of_agents
use Rattle.benches.specs.Streams as of_streams
use Rattle.simulations.proofs.Stepping.{first_part_fits, second_part_fits, third_part_fits, set_in_three}
use Rattle.simulations.proofs.bench.show_parts.Goals as goal

pub show_all-requires : goal.show_all-requires
show_all-requires c = first_part_fits c.levels_stand.ensures.first_fits c.args.row.now (flat_map of_hosts.sets c.args.hosts.now) (flat_map of_agents.sets c.args.agents.now) (flat_map of_streams.sets c.args.streams.now) c.requires

pub show_all-requires-2 : goal.show_all-requires-2
show_all-requires-2 c = second_part_fits c.levels_stand.ensures.first_fits c.levels_stand.ensures.second_fits c.args.row.now c.show_all.new.row (flat_map of_hosts.sets c.args.hosts.now) (flat_map of_agents.sets c.args.agents.now) (flat_map of_streams.sets c.args.streams.now) c.requires c.show_all.ensures

pub show_all-requires-3 : goal.show_all-requires-3
show_all-requires-3 c =
    third_part_fits c.levels_stand.ensures.second_fits c.levels_stand.ensures.in_two c.args.row.now c.show_all.new.row c.show_all-2.new.row (flat_map of_hosts.sets c.args.hosts.now) (flat_map of_agents.sets c.args.agents.now) (flat_map of_streams.sets c.args.streams.now) c.requires c.show_all.ensures c.show_all-2.ensures

pub returns : goal.returns
returns c = set_in_three c.levels_stand.ensures.in_two c.args.row.now c.show_all.new.row c.show_all-2.new.row c.show_all-3.new.row (flat_map of_hosts.sets c.args.hosts.now) (flat_map of_agents.sets c.args.agents.now) (flat_map of_streams.sets c.args.streams.now) c.show_all.ensures c.show_all-2.ensures c.show_all-3.ensures
