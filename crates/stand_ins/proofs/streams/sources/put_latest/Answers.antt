use Rattle.stand_ins.proofs.streams.StepLemmas.{put_first}
use Rattle.stand_ins.proofs.streams.sources.put_latest.Goals as goal

pub returns : goal.returns
returns c = put_first c.args.lately.now c.rotate_right.new.self c.args.ready c.told-lately c.rotate_right.ensures.after
