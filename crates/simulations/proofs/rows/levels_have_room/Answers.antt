use Rattle.std.proofs.Common.{◌++◌, flat_map, ◌∙◌}
use Rattle.benches.specs.Hosts as of_hosts
use Rattle.benches.specs.Streams as of_streams
use Rattle.simulations.specs.Benches.{sets_with}
use Rattle.simulations.proofs.Setting.{AreOf, all_apart, all_fit_both, all_fit_many, stream_count_is}
use Rattle.simulations.proofs.rows.levels_have_room.Goals as goal

pub returns-clause-all : goal.returns-clause-all
returns-clause-all c = λ plan scenario netlist run k bench words row set all fits wide.
    let hosts = all_fit_many row of_hosts.sets bench.hosts (λ h host at. (
    let sound = c.components_are_sound.ensures.hosts plan scenario netlist run k bench set all h host at in
    c.hosts_take_part.ensures.room plan.system row h host set.known wide sound.stands.of (fits.hosts h host at))) in
    let agents = all_fit_many row (sets_with words) bench.agents (λ a agent at. (
    let sound = c.components_are_sound.ensures.agents plan scenario netlist run k bench set all a agent at in
    c.agents_take_part.ensures.room plan.system row a agent (words agent) set.known wide sound.stands.of (fits.agents a agent at))) in
    let streams = all_fit_many row of_streams.sets bench.streams (λ s stream at. (
    let sound = c.components_are_sound.ensures.streams plan scenario netlist run k bench set all s stream at in
    c.streams_take_part.ensures.room plan.system row s sound.script stream set.known set.is_plan.system wide sound.stands.of (fits.sources s stream at) (fits.sinks s stream at))) in
    let memory = all_fit_both row (flat_map of_hosts.sets bench.hosts) (flat_map (sets_with words) bench.agents) hosts agents in
    all_fit_both row (flat_map of_hosts.sets bench.hosts ++ flat_map (sets_with words) bench.agents) (flat_map of_streams.sets bench.streams) memory streams

pub returns-clause-apart : goal.returns-clause-apart
returns-clause-apart c = λ plan scenario netlist run k bench words set all.
    let are : AreOf plan.system bench = record {
      host_count = all.host_count;
      agent_count = all.agent_count;
      stream_count = all.stream_count ∙ stream_count_is plan.system (c.streams_are_numbered.ensures.numbers plan.system set.is_plan.system);
      hosts = λ h host at. (c.components_are_sound.ensures.hosts plan scenario netlist run k bench set all h host at).stands.of;
      agents = λ a agent at. (c.components_are_sound.ensures.agents plan scenario netlist run k bench set all a agent at).stands.of;
      streams = λ s stream at. (let sound = c.components_are_sound.ensures.streams plan scenario netlist run k bench set all s stream at in (sound.script, sound.stands.of));
    } in
    all_apart plan.system bench words c.inputs_of_ends_are_apart.ensures (c.streams_are_numbered.ensures.links plan.system set.is_plan.system) set.known are

pub returns-clause-stand : goal.returns-clause-stand
returns-clause-stand c = λ plan scenario netlist run k bench words row set all fits. c.levels_stand.ensures.stands row _ fits (returns-clause-apart c plan scenario netlist run k bench words set all)
