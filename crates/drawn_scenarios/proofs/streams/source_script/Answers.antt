use Rattle.std.proofs.Common.{arith, rules}
use Rattle.drawn_scenarios.specs.Streams.{source_statement, source_script}
use Rattle.drawn_scenarios.proofs.DrawLemmas.{repeat_more, repeat_done}
use Rattle.drawn_scenarios.proofs.streams.source_script.Goals as goal

pub beats-preserved : goal.beats-preserved
beats-preserved c = repeat_more (source_statement c.args.source.now) 32 c.beats.counter _ _ _ _ _ _ (omega arith) c.source_statement.ensures (search rules) c.beats.invariant

pub returns : goal.returns
unfolding source_script
returns c = repeat_done (source_statement c.args.source.now) 32 c.beats.counter _ _ _ (omega arith) c.beats.invariant
