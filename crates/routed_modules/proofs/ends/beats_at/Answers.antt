use Rattle.std.proofs.Common.{◌≡◌, ◌+◌, ◌*◌, List, sym, subst, arith}
use Rattle.st_mux.specs.declared.packet.PacketNets.{PacketNets}
use Rattle.routed_modules.specs.Ends.{HasEndAt, IsBeatAt, AreBeats}
use Rattle.routed_modules.proofs.InputBeats.{MakesBeats, no_beats, one_more_beat, ends_last}
use Rattle.routed_modules.proofs.ends.beats_at.Goals as goal

pub loop-number-init : goal.loop-number-init
loop-number-init c = no_beats c.args.builder.now c.args.stride c.args.has c.new-beats.result.items c.new-beats.ensures.items

pub beat_at-requires-clause-stands : goal.beat_at-requires-clause-stands
beat_at-requires-clause-stands c =
    subst (λ n. HasEndAt c.loop-number.builder (c.args.stride * n) c.args.has) (sym c.from.ensures)
    (ends_last c.args.builder.now c.loop-number.builder c.args.stride c.args.has c.args.count c.loop-number.invariant.adds.grows.extends c.requires.ends c.loop-number.number c.loop-number-test.true)

pub loop-number-preserved : goal.loop-number-preserved
loop-number-preserved c =
    subst (λ (beats : List PacketNets). MakesBeats c.args.builder.now c.beat_at.new.builder c.args.stride c.args.has (c.loop-number.number + 1) beats) (sym {A = List PacketNets} c.in_ok-push.ensures.items)
    (one_more_beat c.args.builder.now c.loop-number.builder c.beat_at.new.builder c.args.stride c.args.has c.loop-number.number c.loop-number.beats.items c.in_ok-beat.beat c.loop-number.invariant c.beat_at.ensures.adds
    (record {
      nets = c.in_ok-beat.ensures.nets;
      at = subst (λ n. IsBeatAt c.beat_at.new.builder (c.args.stride * n) c.args.has c.in_ok-beat.beat) c.from.ensures c.in_ok-beat.ensures.at;
      wide = c.in_ok-beat.ensures.wide;
    }))

pub returns-clause-beats : goal.returns-clause-beats
returns-clause-beats c =
    let most = c.loop-number.auto.number-end in
    let all = c.loop-number-test.false in
    let same : c.loop-number.number ≡ c.args.count = omega (arith, most, all) in
    subst (λ n. AreBeats c.loop-number.builder c.args.stride c.args.has n c.loop-number.beats.items) same c.loop-number.invariant.are
