use Rattle.std.proofs.Common.{◌≡◌, ℕ, List, sym, subst}
use Rattle.stand_ins.specs.Steps.{Step, shown}
use Rattle.port_rows.specs.Hosts.{FitsPorts}
use Rattle.interconnect.specs.Memory.{host_in, agent_in}
use Rattle.simulated_runs.specs.Ends.{stream_view}
use Rattle.stand_ins.specs.Sources.{keeping_at}
use Rattle.simulations.proofs.sound.first_words_fit.Goals as goal

pub returns : goal.returns
returns c = λ plan scenario netlist run k bench set all. record {
  hosts = λ h host at.
      let sound = c.components_are_sound.ensures.hosts plan scenario netlist run k bench set all h host at in
      let port = host.stand_in.port in
      subst (λ (left : List Step). FitsPorts port (shown port left)) (sym sound.stands.left)
      (c.shown_hosts_fit.ensures port sound.script (host_in plan netlist run h).waitrequest k sound.bounded sound.fits);
  agents = λ a agent at.
      let sound = c.components_are_sound.ensures.agents plan scenario netlist run k bench set all a agent at in
      c.agents_show.ensures.fits sound.script (agent_in plan netlist run a) agent sound.bounded sound.fits sound.stands.bytes sound.stands.stands (λ silent d low. sound.unread silent run d);
  sources = λ s stream at.
      let sound = c.components_are_sound.ensures.streams plan scenario netlist run k bench set all s stream at in
      c.streams_show.ensures.source_fits stream sound.statements (stream_view plan.system netlist run sound.stands.of.link.source_end) sound.source_fits sound.soon
      (subst (λ (d : ℕ). stream.keeping ≡ keeping_at stream.source sound.statements (stream_view plan.system netlist run sound.stands.of.link.source_end) d) (sym sound.stands.cycle) sound.stands.keeping);
  sinks = λ s stream at.
      let sound = c.components_are_sound.ensures.streams plan scenario netlist run k bench set all s stream at in
      c.streams_show.ensures.ready_fits stream sound.sink_fits;
}
