use Rattle.std.proofs.Common.{arith, rules}
use Rattle.std.proofs.lemmas.Option.{slice_get-get_or}
use Rattle.drawn_scenarios.specs.Streams.{stream_scripts}
use Rattle.drawn_scenarios.proofs.StreamLemmas.{both_first, both_more, both_done}
use Rattle.drawn_scenarios.proofs.streams.stream_scripts.Goals as goal

pub streams-init : goal.streams-init
unfolding stream_scripts
streams-init c = both_first c.args.links.now _ _ _ (search rules) (search rules)

pub stream_script-requires : goal.stream_script-requires
stream_script-requires c = c.requires c.streams.link-index _ (slice_get-get_or c.args.links.now c.streams.link-index _ c.streams-test.true)

pub streams-preserved : goal.streams-preserved
streams-preserved c =
    both_more c.args.links.now c.streams.link-index _ c.streams.sources c.add.new.self c.streams.sinks c.add-in-streams.new.self c.in_ok-beats.beats c.in_ok-beats.stalls c.streams.generator c.stream_script.new.generator _
    (slice_get-get_or c.args.links.now c.streams.link-index _ c.streams-test.true) c.in_ok-beats.ensures (search rules) (search rules) c.streams.invariant

pub returns : goal.returns
returns c = both_done c.args.links.now c.streams.link-index _ _ _ _ (omega arith) c.streams.invariant
