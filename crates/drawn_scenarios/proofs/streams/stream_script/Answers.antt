use Rattle.drawn_scenarios.proofs.StreamLemmas.{stream_drawn}
use Rattle.drawn_scenarios.proofs.streams.stream_script.Goals as goal

pub returns : goal.returns
returns c = stream_drawn c.args.link.now _ _ _ _ _ c.in_ok-beats.ensures c.in_ok-stalls.ensures
