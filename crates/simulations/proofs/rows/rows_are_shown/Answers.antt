use Rattle.std.proofs.Common.{ℕ, sym, ap, subst, ◌∙◌}
use Rattle.memory_runs.specs.Views.{HostView, AgentView, levels_at}
use Rattle.port_rows.specs.Rows.{IsGivenRow}
use Rattle.port_rows.specs.Agents.{AreShownBy}
use Rattle.benches.specs.Present.{IsPresent}
use Rattle.benches.specs.Hosts as of_hosts
use Rattle.benches.specs.Agents.{levels_with}
use Rattle.benches.specs.Streams as of_streams
use Rattle.simulations.specs.Benches.{sets_with}
use Rattle.simulations.proofs.Ends.{host_in_is, agent_in_is}
use Rattle.simulations.proofs.Setting.{one_of_many_stands, hosts_stand, agents_stand, streams_stand}
use Rattle.simulations.proofs.rows.rows_are_shown.Goals as goal

pub returns-clause-memory : goal.returns-clause-memory
returns-clause-memory c = λ plan scenario netlist run other k0 k bench words row sim set all fits stands given same present.
    let front = c.levels_stand.ensures.front in
    let back = c.levels_stand.ensures.back in
    record {
      hosts = λ h host at.
          let sound = c.components_are_sound.ensures.hosts plan scenario netlist run k0 bench set all h host at in
          let of = sound.stands.of in
          let stand = one_of_many_stands front back row of_hosts.sets bench.hosts h host at (hosts_stand front row bench words stands) in
          subst (λ (view : HostView). of_hosts.IsSeen view k sim host) (sym (host_in_is plan netlist other h host.stand_in.port of.at))
          (c.hosts_take_part.ensures.seen plan.system netlist other k row sim h host of set.known given same present (fits.hosts h host at) stand);
      agents = λ a agent at.
          let sound = c.components_are_sound.ensures.agents plan scenario netlist run k0 bench set all a agent at in
          let of = sound.stands.of in
          let stand = one_of_many_stands front back row (sets_with words) bench.agents a agent at (agents_stand front back row bench words stands) in
          let is = agent_in_is plan netlist other a agent.stand_in.port of.at in
          record {
            shown = subst (λ (view : AgentView). AreShownBy view k (levels_with agent (words agent))) (sym is)
                (c.agents_take_part.ensures.shown plan.system netlist other k row a agent (words agent) of set.known given (fits.agents a agent at) stand);
            commanded_is = ap (λ (view : AgentView). levels_at view.signals k) is ∙ c.agents_take_part.ensures.commanded plan.system netlist other k sim a agent of given.ports same present;
            granted = ap (λ (view : AgentView). view.grant k) is ∙ c.agents_take_part.ensures.granted plan.system netlist other k sim a agent of given.ports same present;
          };
    }

pub returns-clause-streams : goal.returns-clause-streams
returns-clause-streams c = λ plan scenario netlist run other k bench words row sim set all fits stands given same present s stream at script of.
    let front = c.levels_stand.ensures.front in
    let back = c.levels_stand.ensures.back in
    let sound = c.components_are_sound.ensures.streams plan scenario netlist run k bench set all s stream at in
    let now = sym sound.stands.cycle in
    let stand = one_of_many_stands front back row of_streams.sets bench.streams s stream at (streams_stand back row bench words stands) in
    c.streams_take_part.ensures.seen plan.system netlist other row sim s script stream of set.known set.is_plan.system
    (subst (λ (d : ℕ). IsGivenRow plan.system netlist other d row) now given) same (subst (λ (d : ℕ). IsPresent other d sim) now present) (fits.sources s stream at) (fits.sinks s stream at) stand
