use Rattle.std.proofs.Common.{◌≡◌, arith, rules}
use Rattle.std.proofs.lemmas.Result.{IfOk-weaker}
use Rattle.stage_core.specs.Beats.{widths_of}
use Rattle.net_parts.specs.Memories.{memory_grows_fewer, forward_grown}
use Rattle.st_path.specs.Parts.{source_of, sink_of}
use Rattle.st_path.proofs.Fronts.{carries}
use Rattle.st_path.proofs.Opens.{whole, takes_in}
use Rattle.st_path.proofs.stages.emit_formed.Goals as goal

pub emit_stream-requires-clause-widths : goal.emit_stream-requires-clause-widths
emit_stream-requires-clause-widths g c =
    let front = c.requires.front.nets (widths_of c.args.from) c.requires.widths in
    let rear = c.rear_of.ensures.nets _ front.gives in
    ((front.takes, tt), rear.takes)

pub returns-clause-nets : goal.returns-clause-nets
returns-clause-nets g c =
    let front = c.requires.front.nets (widths_of c.args.from) c.requires.widths in
    let rear = c.rear_of.ensures.nets _ front.gives in
    search rules

pub returns-clause-carries : goal.returns-clause-carries
returns-clause-carries g c =
    let joint = c.args.joint.now in
    let source = source_of joint in
    let sink = sink_of joint in
    let places = c.new.result.depth in
    let front = c.requires.front.leads in
    let rear = c.rear_of.ensures.leads in
    let depth = c.new.ensures in
    let same : places ≡ joint.depth = omega (arith, depth) in
    carries source sink joint.depth _ _ c.requires.joined (whole source sink joint.depth places _ _ _ _ _ _ c.requires.joined same front rear) c.emit_stream.new.builder c.args.from c.args.ready c.emit_stream.result c.emit_stream.ensures.keeps c.emit_stream.ensures.passes
    (IfOk-weaker c.emit_stream.result _ _
    (λ made stands.
    takes_in source sink joint.depth places _ _ _ _ _ _ c.requires.joined same front rear c.queue_takes_in.ensures c.emit_stream.new.builder c.args.from made c.args.ready
    (c.queue_is_between.ensures c.args.from made.beat c.args.ready made.ready c.emit_stream.new.builder stands))
    c.emit_stream.ensures.stands)
    c.emit_stream.ensures.ignores_ready

pub returns-clause-grows : goal.returns-clause-grows
returns-clause-grows g c =
    let front = c.requires.front.nets (widths_of c.args.from) c.requires.widths in
    let rear = c.rear_of.ensures.nets _ front.gives in
    let few_front = front.few in
    let few_rear = rear.few in
    let front_memories = c.requires.front.few_memories in
    let rear_memories = c.rear_of.ensures.few_memories in
    let depth = c.new.ensures in
    let shallow = c.requires.shallow in
    memory_grows_fewer _ _ _ _ _ _ (grind (arith, few_front, few_rear, depth, shallow)) (grind (arith, front_memories, rear_memories)) (forward_grown _ _ _ _ c.emit_stream.ensures.grows)

pub returns-clause-full : goal.returns-clause-full
returns-clause-full g c room e =
    let front = c.requires.front.nets (widths_of c.args.from) c.requires.widths in
    let rear = c.rear_of.ensures.nets _ front.gives in
    let few_front = front.few in
    let few_rear = rear.few in
    let front_memories = c.requires.front.few_memories in
    let rear_memories = c.rear_of.ensures.few_memories in
    let depth = c.new.ensures in
    let shallow = c.requires.shallow in
    let full = c.emit_stream.ensures.full (grind (arith, front_memories, rear_memories, room)) e in
    grind (arith, few_front, few_rear, depth, shallow, full)
