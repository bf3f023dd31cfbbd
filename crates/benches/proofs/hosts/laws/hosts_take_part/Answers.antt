use Rattle.std.proofs.Common.{sym, ap, subst, ◌∙◌}
use Rattle.port_rows.specs.declared.host_ends.places.HostPlaces.{HostPlaces}
use Rattle.port_rows.specs.Hosts.{host_levels}
use Rattle.port_rows.specs.Levels.{AllFit, AllStand}
use Rattle.benches.specs.Outputs.{level_now}
use Rattle.benches.specs.Hosts.{shown_by}
use Rattle.benches.proofs.hosts.HostEnds.{host_is_among}
use Rattle.benches.proofs.hosts.Taking.{host_fits, level_is}
use Rattle.benches.proofs.hosts.laws.hosts_take_part.Goals as goal

pub returns-clause-fit : goal.returns-clause-fit
returns-clause-fit c = host_fits

pub returns-clause-room : goal.returns-clause-room
returns-clause-room c system row number host known same of fits =
    subst (λ (places : HostPlaces). AllFit row (host_levels places (shown_by host))) (sym of.places)
    (c.hosts_are_shown.ensures.room system row known same of.at.end host.stand_in.port (shown_by host) (host_is_among system number of.at.end of.at.end_is) of.at.is fits)

pub returns-clause-seen : goal.returns-clause-seen
returns-clause-seen c system netlist run cycle row sim number host of known given same shown fits stand =
    let end = of.at.end in
    let port = host.stand_in.port in
    let stands = subst (λ (places : HostPlaces). AllStand row (host_levels places (shown_by host))) of.places stand in
    let answered = c.hosts_are_answered.ensures in
    record {
      signals = c.hosts_are_shown.ensures.shown system netlist run cycle row known given end port (shown_by host) (host_is_among system number end of.at.end_is) of.at.is fits stands;
      waitrequest = answered.wait system netlist run cycle port.word_bytes end given.ports ∙ level_is netlist run cycle 0 sim _ same shown ∙ ap (λ ports. level_now sim 0 ports.wait) (sym of.ports);
      readdatavalid = answered.valid system netlist run cycle port.word_bytes end given.ports ∙ level_is netlist run cycle 0 sim _ same shown ∙ ap (λ ports. level_now sim 0 ports.valid) (sym of.ports);
      readdata = answered.word system netlist run cycle port.word_bytes end given.ports ∙ level_is netlist run cycle 0 sim _ same shown ∙ ap (λ ports. level_now sim 0 ports.word) (sym of.ports);
      response = answered.response system netlist run cycle port.word_bytes end given.ports ∙ level_is netlist run cycle 0 sim _ same shown ∙ ap (λ ports. level_now sim 0 ports.response) (sym of.ports);
    }
