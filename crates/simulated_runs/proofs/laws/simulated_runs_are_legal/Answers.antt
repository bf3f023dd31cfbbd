use Rattle.std.proofs.lemmas.Option.{slice_get_within}
use Rattle.simulated_runs.proofs.LegalLemmas.{legal_host, legal_agent, legal_source}
use Rattle.simulated_runs.proofs.laws.simulated_runs_are_legal.Goals as goal

pub returns : goal.returns
returns c plan scenario netlist run end is_plan fits simulated = record {
  memory = record {
    hosts = legal_host plan scenario netlist run end c.ends_are_known.ensures.hosts c.stand_in_hosts_are_legal.ensures is_plan fits simulated;
    agents = legal_agent plan scenario netlist run end c.ends_are_known.ensures.agents c.stand_in_agents_are_legal.ensures is_plan fits simulated;
  };
  sources = λ s link at. legal_source plan scenario netlist run end c.stand_in_sources_are_legal.ensures fits simulated s link at (slice_get_within _ s link at);
}
