use Rattle.std.proofs.Common.{arith}
use Rattle.std.proofs.lemmas.Result.{IfOk-weaker}
use Rattle.st_path.specs.Parts.{source_of, sink_of}
use Rattle.st_path.proofs.Fronts.{pace_is, delay_front, delay_takes_in, carries}
use Rattle.st_path.proofs.stages.emit_delay.Goals as goal

pub returns-clause-carries : goal.returns-clause-carries
returns-clause-carries c =
    let source = source_of c.args.joint.now in
    let sink = sink_of c.args.joint.now in
    let depth = c.args.joint.now.depth in
    let source_pace = pace_is c.args.joint.now.source in
    let sink_pace = pace_is c.args.joint.now.sink in
    let front = delay_front source sink depth c.new.result.up c.new.result.cycles c.requires.joined c.requires.enough (omega arith) (omega arith) in
    carries source sink depth _ _ c.requires.joined front _ c.args.from c.args.ready c.emit_stream.result c.emit_stream.ensures.keeps c.emit_stream.ensures.passes
    (IfOk-weaker c.emit_stream.result _ _
    (λ made stands free. delay_takes_in source sink depth c.new.result.up c.new.result.cycles c.requires.joined c.requires.enough (omega arith) (omega arith) c.emit_stream.new.builder c.args.from made c.args.ready)
    c.emit_stream.ensures.stands)
    c.emit_stream.ensures.ignores_ready
