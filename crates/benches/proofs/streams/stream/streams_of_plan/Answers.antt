use Rattle.std.proofs.Common.{arith}
use Rattle.std.proofs.lemmas.List.{length-append}
use Rattle.benches.proofs.streams.Keeping.{one_more}
use Rattle.benches.proofs.streams.stream.streams_of_plan.Goals as goal

pub first_stream-requires-clause-statements : goal.first_stream-requires-clause-statements
first_stream-requires-clause-statements c = λ link at. c.requires.statements c.links.number link c.script.result.now at c.script.ensures

pub first_stream-requires-clause-script : goal.first_stream-requires-clause-script
first_stream-requires-clause-script c = λ link at. c.requires.patterns c.links.number link c.script-in-links.result.now at c.script-in-links.ensures

pub links-preserved : goal.links-preserved
links-preserved c =
    record {
      count = (let long = c.links.invariant.count in rw (c.in_ok-push.ensures.items, length-append) (omega (arith, long)));
      first = rw c.in_ok-push.ensures.items
          (one_more c.args.plan.now.system c.args.sources.now c.args.sinks.now c.links.streams.items c.links.number c.first_stream.result c.script.result.now c.script-in-links.result.now
          c.links.invariant.count c.links.invariant.first c.script.ensures c.script-in-links.ensures c.first_stream.ensures);
    }
