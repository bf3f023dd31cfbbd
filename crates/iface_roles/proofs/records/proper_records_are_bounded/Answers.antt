use Rattle.iface_roles.proofs.ProperLemmas.{proper_host, proper_agent, proper_source, proper_sink}
use Rattle.iface_roles.proofs.records.proper_records_are_bounded.Goals as goal

pub returns : goal.returns
returns c = record { host = proper_host; agent = proper_agent; source = proper_source; sink = proper_sink }
