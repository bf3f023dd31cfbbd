use Rattle.std.proofs.Common.{◌*◌, arith}
use Rattle.net_parts.specs.Laws.{grows_within}
use Rattle.mm_fabric.proofs.Below.{between}
use Rattle.mm_fabric.proofs.stages.finish_stages.Goals as goal

pub returns-in_err-tag-clause-grows : goal.returns-in_err-tag-clause-grows
returns-in_err-tag-clause-grows c = grows_within (24 * c.args.stages) c.args.stages (25 * c.args.stages) _ _ _ c.finish_pipe.ensures.grows c.tag_above.ensures.grows (omega arith)

pub returns-in_err-tag-clause-waits : goal.returns-in_err-tag-clause-waits
returns-in_err-tag-clause-waits c n other w = c.tag_above.ensures.waits n (c.finish_pipe.ensures.waits n other w)

pub returns-clause-grows : goal.returns-clause-grows
returns-clause-grows c = grows_within (24 * c.args.stages) c.args.stages (25 * c.args.stages) _ _ _ c.finish_pipe.ensures.grows c.tag_above.ensures.grows (omega arith)

pub returns-clause-waits : goal.returns-clause-waits
returns-clause-waits c n other w = c.tag_above.ensures.waits n (c.finish_pipe.ensures.waits n other w)

pub returns-clause-machine : goal.returns-clause-machine
returns-clause-machine c asked command stands alone =
    between c.stages_are_a_pipe.ensures c.stages_keep_one_tag.ensures c.args.builder.now c.finish_pipe.new.builder c.tag_above.new.builder c.args.stages c.args.several asked command c.args.kept
    c.args.made.now.waitrequest c.args.made.now.answer c.in_ok-wait.wait c.in_ok-wait.answer c.in_ok-tag.tag c.args.made.now.answer_tag stands c.in_ok-wait.ensures.machine
    c.finish_pipe.ensures.grows.extends c.tag_above.ensures.grows.extends c.in_ok-tag.ensures.later c.in_ok-tag.ensures.alone alone
