use Rattle.link_core.proofs.OneTag.{one_tag}
use Rattle.link_core.proofs.delay.stages_keep_one_tag.Goals as goal

pub returns : goal.returns
returns c = λ stages up down runs tag tags is same. one_tag tag tags is runs same
