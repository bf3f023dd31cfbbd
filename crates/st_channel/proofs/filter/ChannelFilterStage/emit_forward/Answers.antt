use Rattle.std.proofs.Common.{◌<◌, ◌^◌, refl, sym, subst, ap, inl, arith}
use Rattle.stage_core.specs.declared.beat.BeatNets.{BeatNets}
use Rattle.stage_core.specs.Beats.{AreBeatNets}
use Rattle.stage_core.specs.Lasting.{beat_lasts}
use Rattle.net_parts.specs.Laws.{extends_twice, net_fits, net_lasts, adds_grow, adds_twice, grows_fewer}
use Rattle.stage_core.specs.Refusing.{handed_on}
use Rattle.st_channel.proofs.filter.ChannelFilterStage.emit_forward.Goals as goal

pub returns-clause-beat : goal.returns-clause-beat
returns-clause-beat c =
    let more = extends_twice _ _ _ c.fit_bits.ensures.adds.grows.extends c.shown.ensures.adds.grows.extends in
    let copied : AreBeatNets c.shown.new.builder c.copied.result = subst (AreBeatNets c.shown.new.builder) (sym c.copied.ensures) (beat_lasts _ _ _ more c.requires.from) in
    record {
      valid = c.in_ok-valid.ensures.net;
      word = copied.word;
      channel = c.shown.ensures.adds.grows.extends.nets _ _ c.in_ok-channel.ensures.net.is_net;
      error = copied.error;
      first = copied.first;
      last = copied.last;
      empty = copied.empty;
    }

pub returns-clause-made : goal.returns-clause-made
returns-clause-made c = record {
  kept_is = refl;
  same = ap (λ (n : BeatNets). record n { valid = c.in_ok-valid.valid; channel = c.in_ok-channel.channel }) c.copied.ensures;
  fits = λ cycle v.
      (let more = extends_twice _ _ _ c.fit_bits.ensures.adds.grows.extends c.shown.ensures.adds.grows.extends in
      subst (λ n. cycle.net c.args.from.channel.number < 2 ^ n) c.requires.widths (net_fits _ _ c.requires.from.channel cycle (more.valuations cycle v)));
  channel = λ cycle v. c.in_ok-channel.ensures.value cycle (c.shown.ensures.adds.grows.extends.valuations cycle v);
  valid = c.in_ok-valid.ensures.value;
}

pub returns-in_err-channel-clause-waits : goal.returns-in_err-channel-clause-waits
returns-in_err-channel-clause-waits c n w = c.fit_bits.ensures.adds.grows.waits n w

pub returns-in_err-valid-clause-waits : goal.returns-in_err-valid-clause-waits
returns-in_err-valid-clause-waits c n w = c.shown.ensures.adds.grows.waits n (c.fit_bits.ensures.adds.grows.waits n w)

pub returns-clause-waits : goal.returns-clause-waits
returns-clause-waits c n w = c.shown.ensures.adds.grows.waits n (c.fit_bits.ensures.adds.grows.waits n w)

pub returns-clause-newly : goal.returns-clause-newly
returns-clause-newly c n w = inl (c.fit_bits.ensures.adds.grows.no_more_wait n (c.shown.ensures.adds.grows.no_more_wait n w))

pub fit_bits-requires-clause-net : goal.fit_bits-requires-clause-net
fit_bits-requires-clause-net c = record { is_net = c.requires.from.channel; has_width = c.requires.widths }

pub shown-requires-clause-valid : goal.shown-requires-clause-valid
shown-requires-clause-valid c = net_lasts _ _ _ _ c.fit_bits.ensures.adds.grows.extends c.requires.from.valid

pub shown-requires-clause-channel : goal.shown-requires-clause-channel
shown-requires-clause-channel c = record { is_net = c.fit_bits.ensures.adds.grows.extends.nets _ _ c.requires.from.channel; has_width = c.requires.widths }

pub returns-in_err-channel-clause-grows : goal.returns-in_err-channel-clause-grows
returns-in_err-channel-clause-grows c = grows_fewer _ _ _ _ (omega arith) (adds_grow _ _ _ c.fit_bits.ensures.adds)

pub returns-in_err-valid-clause-grows : goal.returns-in_err-valid-clause-grows
returns-in_err-valid-clause-grows c = adds_grow _ _ _ (adds_twice _ _ _ _ _ c.fit_bits.ensures.adds c.shown.ensures.adds)

pub returns-clause-grows : goal.returns-clause-grows
returns-clause-grows c = adds_grow _ _ _ (adds_twice _ _ _ _ _ c.fit_bits.ensures.adds c.shown.ensures.adds)

pub returns-in_err-channel-clause-full : goal.returns-in_err-channel-clause-full
returns-in_err-channel-clause-full c room e = let full = c.fit_bits.ensures.full (handed_on _ _ _ _ c.in_err-channel.was c.from_residual.ensures.1 e) in omega (arith, full)

pub returns-in_err-valid-clause-full : goal.returns-in_err-valid-clause-full
returns-in_err-valid-clause-full c room e = let most = c.fit_bits.ensures.adds.most in let full = c.shown.ensures.full (handed_on _ _ _ _ c.in_err-valid.was c.from_residual-in_err-valid.ensures.1 e) in omega (arith, most, full)

pub returns-clause-full : goal.returns-clause-full
returns-clause-full c room e = cc
