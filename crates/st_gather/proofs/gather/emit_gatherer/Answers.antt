use Rattle.std.proofs.Common.{arith}
use Rattle.net_parts.specs.Laws.{extends_twice, net_lasts}
use Rattle.st_gather.specs.Gatherers.{gatherer_run}
use Rattle.st_gather.proofs.Gathering.{gathers_in}
use Rattle.st_gather.proofs.Growing.{leaves_twice, leaves_fewer}
use Rattle.st_gather.proofs.gather.emit_gatherer.Goals as goal

pub returns-clause-ready : goal.returns-clause-ready
returns-clause-ready c = net_lasts _ _ _ _ c.in_ok-word.ensures.whole.extends c.in_ok-made.ensures.nets.room

pub returns-clause-valid : goal.returns-clause-valid
returns-clause-valid c = net_lasts _ _ _ _ c.in_ok-word.ensures.whole.extends c.in_ok-made.ensures.nets.valid

pub returns-clause-gathers : goal.returns-clause-gathers
returns-clause-gathers c longer extends run endless gatherer has count legal =
    let counted = c.in_ok-made.ensures.whole.extends in
    let joined = c.in_ok-word.ensures.whole.extends in
    let is = gathers_in c.args.builder.now c.count_channels.new.builder c.join_words.new.builder longer c.args.shape c.args.from.now c.args.ready c.in_ok-word.word c.in_ok-made.made c.requires.shape
    c.requires.from (extends_twice _ _ _ counted (extends_twice _ _ _ joined extends)) c.in_ok-made.ensures.counts (extends_twice _ _ _ joined extends) c.in_ok-word.ensures.joins extends run endless gatherer has in
    let channels = has.channels in
    let some = c.requires.shape.some_channels in
    let parts = has.parts in
    let some_parts = c.requires.shape.some_parts in
    c.gatherer_gathers.ensures gatherer (gatherer_run run c.args.from.now c.args.ready (record { ready = c.in_ok-made.made.room; valid = c.in_ok-made.made.valid; word = c.in_ok-word.word })) is.0 count is.1
    (omega (arith, channels, some)) has.symbols (omega (arith, parts, some_parts)) legal

pub returns-clause-whole : goal.returns-clause-whole
returns-clause-whole c = leaves_fewer _ _ _ _ (omega arith) (leaves_twice _ _ _ _ _ c.in_ok-made.ensures.whole c.in_ok-word.ensures.whole)
