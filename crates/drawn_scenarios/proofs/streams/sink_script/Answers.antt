use Rattle.std.proofs.Common.{◌≡◌, [], ◌∷◌, rules}
use Rattle.drawn_scenarios.proofs.StreamLemmas.{sink_stalls, sink_free}
use Rattle.drawn_scenarios.proofs.streams.sink_script.Goals.{then-sink+in_ok-pattern+in_ok-push, else-sink}
use Rattle.drawn_scenarios.proofs.streams.sink_script.Goals as goal

pub returns : goal.returns
returns c = elim c.if-sink.branch [
  | then-sink+in_ok-pattern+in_ok-push w ↦ let drawn = sink_stalls c.args.sink.now _ _ _ w.if-sink.true w.in_ok-pattern.ensures in let pushed : w.push.new.self ≡ w.in_ok-pattern.pattern ∷ [] = search rules in cc
  | else-sink w ↦ let drawn = sink_free c.args.sink.now c.args.generator.now w.if-sink.false in cc
]
