use Rattle.link_rules.proofs.LinkLemmas.{stream_numbers, stream_is, rising}
use Rattle.link_rules.proofs.laws.streams_are_numbered.Goals as goal

pub returns : goal.returns
returns c = record { numbers = stream_numbers; links = stream_is; rising = rising }
