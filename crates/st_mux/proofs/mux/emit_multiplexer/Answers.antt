use Rattle.net_parts.specs.Laws.{if_ok}
use Rattle.st_mux.specs.MultiplexerNets.{multiplexer_run, ShowsSomeInput, MultiplexesInLonger, all_last, turns_in, shows_some, multiplexer_here}
use Rattle.st_mux.proofs.mux.emit_multiplexer.Goals as goal

pub returns-clause-shows : goal.returns-clause-shows
returns-clause-shows c =
    if_ok c.make_multiplexer.result _ (λ made. ShowsSomeInput c.make_multiplexer.new.builder c.args.inputs.now made.beat)
    (λ made nets longer extends run endless cycle.
    shows_some longer c.args.inputs.now c.args.bits c.args.ready made (all_last _ longer c.args.inputs.now c.args.bits c.args.ready made extends nets) c.requires.some c.requires.few run endless cycle)
    c.make_multiplexer.ensures.nets

pub returns-clause-multiplexes : goal.returns-clause-multiplexes
returns-clause-multiplexes c =
    if_ok c.make_multiplexer.result _ (λ made. MultiplexesInLonger c.make_multiplexer.new.builder c.args.inputs.now made c.args.ready)
    (λ made nets longer extends run endless mux same count legal. (
    let all = all_last _ longer c.args.inputs.now c.args.bits c.args.ready made extends nets in
    c.multiplexer_multiplexes.ensures mux (multiplexer_run run c.args.inputs.now made c.args.ready)
    (turns_in longer c.args.inputs.now c.args.bits c.args.ready made all c.requires.some c.requires.few run endless) count
    (multiplexer_here longer c.args.inputs.now c.args.bits c.args.ready made all c.requires.some c.requires.few run endless mux same) legal))
    c.make_multiplexer.ensures.nets
