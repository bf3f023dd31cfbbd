use Rattle.std.proofs.Common.{◌≡◌, ◌^◌, ◌≤◌, ◌==◌, if◌then◌else◌, max, sym, subst, ap, ◌∙◌, arith, inl}
use Rattle.std.proofs.Math.Nat.{le-max_left, le-max_right}
use Rattle.std.proofs.Math.Pow.{pow_mono}
use Rattle.stage_core.specs.declared.beat.BeatNets.{BeatNets}
use Rattle.stage_core.specs.Beats.{AreBeatNets}
use Rattle.stage_core.specs.Groups.{Shown, shown_in}
use Rattle.stage_core.specs.Lasting.{beat_lasts}
use Rattle.net_parts.specs.Laws.{extends_twice, adds_grow, grows_fewer, grows_twice, net_fits}
use Rattle.net_parts.specs.Fitting.{fits_more}
use Rattle.st_format.specs.ClearNets.{cleared, without_empty}
use Rattle.st_format.proofs.PartsLemmas.{beat_same}
use Rattle.stage_core.specs.Refusing.{handed_on}
use Rattle.st_format.proofs.clear.ClearStage.emit_forward.Goals as goal

pub returns-clause-beat : goal.returns-clause-beat
returns-clause-beat c =
    let more = (extends_twice _ _ _ c.count_empty.ensures.adds.grows.extends c.clear_symbols.ensures.adds.grows.extends) in
    let base = subst (AreBeatNets c.clear_symbols.new.builder) (sym c.copied.ensures) (beat_lasts _ _ _ more c.requires.from) in
    record { valid = base.valid; word = c.in_ok-word.ensures.net.is_net; channel = base.channel; error = base.error; first = base.first; last = base.last; empty = base.empty }

pub returns-clause-made : goal.returns-clause-made
returns-clause-made c = record {
  valid = ap (λ (n : BeatNets). n.valid) c.copied.ensures;
  shows = λ cycle v2. (
      let v1 = c.clear_symbols.ensures.adds.grows.extends.valuations cycle v2 in
      let v0 = c.count_empty.ensures.adds.grows.extends.valuations cycle v1 in
      let base = ap (shown_in cycle) c.copied.ensures in
      let within : c.args.from.empty.width ≤ c.max-width.result = subst (λ w. c.args.from.empty.width ≤ w) (sym c.max-width.ensures) (subst (λ w. w ≤ max c.width.result c.address_bits.result) c.width.ensures.value (le-max_left _ _)) in
      let whole = fits_more (cycle.net c.args.from.empty.number) c.args.from.empty.width c.max-width.result (net_fits _ _ c.requires.from.empty cycle v0) within in
      let empty = ap (λ (x : Shown). x.beat.empty) (c.in_ok-counted.ensures.value cycle v1) ∙ ap (λ n. if cycle.net c.args.from.last.number == 1 then n else 0) whole in
      let word = c.in_ok-word.ensures.value cycle v2 ∙ ap (λ n. without_empty c.args.self.now.bits c.args.self.now.symbols n (cycle.net c.args.from.word.number)) empty in
      beat_same _ (cleared c.args.self.now.symbols c.args.self.now.bits (shown_in cycle c.args.from).beat) word (ap (λ (x : Shown). x.beat.channel) base) (ap (λ (x : Shown). x.beat.error) base) (ap (λ (x : Shown). x.beat.first) base) (ap (λ (x : Shown). x.beat.last) base) (ap (λ (x : Shown). x.beat.empty) base));
}

pub returns-in_err-counted-clause-grows : goal.returns-in_err-counted-clause-grows
returns-in_err-counted-clause-grows c = grows_fewer _ _ _ _ (omega arith) (adds_grow _ _ _ c.count_empty.ensures.adds)

pub returns-in_err-word-clause-grows : goal.returns-in_err-word-clause-grows
returns-in_err-word-clause-grows c = grows_fewer _ _ _ _ (omega arith) (grows_twice _ _ _ _ _ (adds_grow _ _ _ c.count_empty.ensures.adds) (adds_grow _ _ _ c.clear_symbols.ensures.adds))

pub returns-clause-grows : goal.returns-clause-grows
returns-clause-grows c = grows_fewer _ _ _ _ (omega arith) (grows_twice _ _ _ _ _ (adds_grow _ _ _ c.count_empty.ensures.adds) (adds_grow _ _ _ c.clear_symbols.ensures.adds))

pub returns-in_err-counted-clause-waits : goal.returns-in_err-counted-clause-waits
returns-in_err-counted-clause-waits c n w = c.count_empty.ensures.adds.grows.waits n w

pub returns-in_err-word-clause-waits : goal.returns-in_err-word-clause-waits
returns-in_err-word-clause-waits c n w = c.clear_symbols.ensures.adds.grows.waits n (c.count_empty.ensures.adds.grows.waits n w)

pub returns-clause-waits : goal.returns-clause-waits
returns-clause-waits c n w = c.clear_symbols.ensures.adds.grows.waits n (c.count_empty.ensures.adds.grows.waits n w)

pub returns-in_err-counted-clause-full : goal.returns-in_err-counted-clause-full
returns-in_err-counted-clause-full c room e = let full = c.count_empty.ensures.full (handed_on _ _ _ _ c.in_err-counted.was c.from_residual.ensures.1 e) in omega (arith, full)

pub returns-in_err-word-clause-full : goal.returns-in_err-word-clause-full
returns-in_err-word-clause-full c room e = let most0 = c.count_empty.ensures.adds.most in let full = c.clear_symbols.ensures.full (handed_on _ _ _ _ c.in_err-word.was c.from_residual-in_err-word.ensures.1 e) in omega (arith, most0, full)

pub returns-clause-full : goal.returns-clause-full
returns-clause-full c room e = cc

pub returns-clause-newly : goal.returns-clause-newly
returns-clause-newly c n w = inl (c.count_empty.ensures.adds.grows.no_more_wait n (c.clear_symbols.ensures.adds.grows.no_more_wait n w))

pub count_empty-requires-clause-from : goal.count_empty-requires-clause-from
count_empty-requires-clause-from c = c.requires.from

pub clear_symbols-requires-clause-counts : goal.clear_symbols-requires-clause-counts
clear_symbols-requires-clause-counts c =
    let wide : c.in_ok-counted.counted.empty.width ≡ c.max-width.result = c.in_ok-counted.ensures.widths.empty in
    let most : c.address_bits.result ≤ c.max-width.result = subst (λ w. c.address_bits.result ≤ w) (sym c.max-width.ensures) (le-max_right _ _) in
    let more = pow_mono most in
    let fits = c.address_bits.ensures.fits in
    subst (λ w. c.args.self.now.symbols ≤ 2 ^ w) (sym wide) (omega (arith, more, fits))
