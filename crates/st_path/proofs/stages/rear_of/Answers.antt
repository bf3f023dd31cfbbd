use Rattle.std.proofs.Common.{inr, refl, arith}
use Rattle.st_path.specs.Parts.{source_of, sink_of}
use Rattle.st_path.specs.Between.{formed, ordered, at_sink, still}
use Rattle.st_path.proofs.Fronts.{pace_is, behind, turn_part, delay_part}
use Rattle.st_path.proofs.Widths.{rear_given, no_memories}
use Rattle.st_path.proofs.stages.rear_of.Goals as goal

pub returns : goal.returns
returns c =
    let joint = c.args.joint.now in
    let source = source_of joint in
    let sink = sink_of joint in
    let pace = pace_is joint.sink in
    let turn = turn_part source sink c.turn_back_of.result.stage c.requires c.turn_back_of.ensures in
    let delay = delay_part source sink c.new-delay.result.up c.new-delay.result.cycles c.requires (omega arith) (omega arith) in
    record {
      leads = behind source sink (formed source sink) (ordered source sink) (at_sink source sink) still still still 1 _ _ _ _ _ turn delay
          refl c.requires.sink_fits.some (inr (omega arith)) (λ e s. e) (record { least = omega arith; most = omega arith; rest = omega arith; step = omega arith; largest = omega arith });
      nets = λ widths fit. rear_given source sink c.turn_back_of.result.stage widths c.requires c.turn_back_of.ensures fit;
      few_memories = (let none = no_memories c.turn_back_of.result.stage in omega (arith, none));
    }
