use Rattle.std.proofs.Common.{arith}
use Rattle.net_parts.specs.Laws.{width_fits}
use Rattle.st_mux.specs.DemultiplexerNets.{demultiplexer_run, demultiplexer_between}
use Rattle.st_mux.proofs.demux.emit_demultiplexer.Goals as goal

pub returns-clause-count : goal.returns-clause-count
returns-clause-count c = c.in_ok-valids.ensures.each.lengths

pub returns-clause-demultiplexes : goal.returns-clause-demultiplexes
returns-clause-demultiplexes c longer extends run endless demux outputs count legal =
    let each = c.in_ok-valids.ensures.each in
    let some = c.requires.some in
    c.demultiplexer_demultiplexes.ensures demux (demultiplexer_run run c.args.from.now c.args.channel c.in_ok-ready.ready c.in_ok-valids.valids.items c.args.readies.now) count
    (demultiplexer_between longer run c.args.from.now c.args.channel c.in_ok-ready.ready c.in_ok-valids.valids.items c.args.readies.now c.args.bits demux endless
    (λ cycle v. each.value cycle (c.select_bit.ensures.adds.grows.extends.valuations cycle (extends.valuations cycle v)))
    (λ cycle v. c.in_ok-ready.ensures.value cycle (extends.valuations cycle v))
    (λ cycle v. width_fits _ _ _ c.requires.channel cycle (c.shown_on_each.ensures.adds.grows.extends.valuations cycle (c.select_bit.ensures.adds.grows.extends.valuations cycle (extends.valuations cycle v))))
    (returns-clause-count c)
    outputs)
    (omega (arith, outputs, some)) legal
