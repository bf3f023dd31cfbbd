use Rattle.replays.proofs.TextLemmas.{written_thrice}
use Rattle.replays.proofs.traces.put_cycle.Goals as goal

pub returns : goal.returns
returns c = written_thrice _ _ _ _ _ _ _ c.in_ok-write.ensures.bytes c.in_ok-put_ports.ensures c.in_ok-push_str.ensures.bytes
