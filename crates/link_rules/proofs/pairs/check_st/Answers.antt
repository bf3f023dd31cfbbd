use Rattle.std.proofs.Common.{below_more, sym, ◌∙◌, arith}
use Rattle.link_rules.specs.Pairs.{stream_tests}
use Rattle.link_rules.proofs.PairLemmas.{KeepsAll-from_numbers}
use Rattle.link_rules.proofs.pairs.check_st.Goals as goal

pub breaks_stream-requires-clause-source : goal.breaks_stream-requires-clause-source
breaks_stream-requires-clause-source c = (c.proper_records_are_bounded.ensures.source c.args.source.now c.requires.source).some

pub breaks_stream-requires-clause-sink : goal.breaks_stream-requires-clause-sink
breaks_stream-requires-clause-sink c = (c.proper_records_are_bounded.ensures.sink c.args.sink.now c.requires.sink).some

pub loop-rule-preserved : goal.loop-rule-preserved
loop-rule-preserved c = below_more _ _ c.loop-rule.invariant (sym c.breaks_stream.ensures ∙ c.if-breaks_stream.false)

pub returns : goal.returns
returns c =
    KeepsAll-from_numbers (stream_tests c.args.source.now c.args.sink.now c.args.same_clock) c.loop-rule.rule (omega arith) c.loop-rule.invariant
