use Rattle.std.proofs.Common.{refl, arith, rules}
use Rattle.st_path.specs.Parts.{source_of, sink_of}
use Rattle.stream_runs.specs.Ends.{side_of}
use Rattle.st_path.specs.Between.{filtered, joined_test}
use Rattle.st_path.proofs.Fronts.{side_channel, joined_all, timing_few, begun}
use Rattle.st_path.proofs.stages.timed.Goals as goal

pub returns : goal.returns
returns c =
    let from = c.args.joint.now.source in
    let source = source_of c.args.joint.now in
    let sink = sink_of c.args.joint.now in
    let channel = side_channel source c.requires.source_fits in
    let gate = c.filter_of.ensures.leads (side_of source) refl (omega (arith, channel)) c.requires.source_fits.some in
    let leads = c.timing_of.ensures.leads (joined_test source sink) (filtered source sink) refl c.requires.source_fits.some (joined_all source sink (filtered source sink) refl) in
    record {
      leads = begun from c.args.joint.now.sink c.filter_of.result c.timing_of.result c.requires c.timing_of.ensures.timing c.filter_of.ensures.latency gate leads;
      nets = λ widths fit. search rules;
      few_memories = (let few = timing_few c.timing_of.result in omega (arith, few));
    }
