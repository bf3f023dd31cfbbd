use Rattle.std.proofs.Common.{◌≤◌, sym, subst}
use Rattle.iface_roles.specs.declared.records.StreamPort.{StreamPort}
use Rattle.iface_roles.specs.Records.{ready_latency}
use Rattle.benches.proofs.streams.laws.streams_show.Goals as goal

pub returns-clause-short_latency : goal.returns-clause-short_latency
returns-clause-short_latency c = λ plan number script stream is of.
    subst (λ (port : StreamPort). ready_latency port ≤ 8) (sym of.source) (c.links_are_sound.ensures plan is number of.link of.link_is).soon
