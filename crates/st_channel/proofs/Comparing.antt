-- What a filter lets through and drops, by its tests.
use Rattle.std.proofs.Common.{◌≡◌, ℕ, ◌^◌, ◌<◌, ◌≤◌, Bool, true, false, not, ◌&&◌, ◌||◌, ◌==◌, nat_lt, IsTrue, refl, inl, inr, arith}
use Rattle.std.proofs.lemmas.Bool.{ltb-true, ltb-false, le-ltb, or_cases, or_parts}
use Rattle.std.proofs.Math.Pow.{pow_mono}
use Rattle.netlist.specs.Nets.{NetValue}
use Rattle.netlist.specs.Runs.{Cycle}
use Rattle.stage_core.specs.declared.beat.BeatNets.{BeatNets}
use Rattle.st_channel.specs.declared.filter.ChannelFilter.{ChannelFilter}
use Rattle.st_channel.specs.FilterNets.{compares, lets_through, takes_beat, drops}
use Rattle.st_channel.proofs.Numbers.{le_not_lt}

-- the sink's largest channel fits the source's bits where channels are compared
pub sink_fits : (filter : ChannelFilter) → compares filter ≡ true → filter.sink.largest < 2 ^ filter.source.bits
sink_fits filter compared =
    elim (or_cases (nat_lt filter.sink.largest filter.source.largest) (nat_lt filter.sink.bits filter.source.bits) compared) [
      | inl more ↦ (let above = ltb-true filter.sink.largest filter.source.largest more in let fits = filter.source.fits in omega (arith, above, fits))
      | inr cut ↦ (let fewer : filter.sink.bits < filter.source.bits = ltb-true filter.sink.bits filter.source.bits cut in let le : filter.sink.bits ≤ filter.source.bits = omega (arith, fewer) in let fits = filter.sink.fits in let wide = pow_mono le in omega (arith, fits, wide))
    ]

pub lets_within : (filter : ChannelFilter) (channel : ℕ) → compares filter ≡ true → lets_through filter channel ≡ not (nat_lt filter.sink.largest channel)
lets_within filter channel compared = rw compared (le_not_lt channel filter.sink.largest)

taken_late : (v a : Bool) → (v && a) ≡ ((v && true) && not (not a))
taken_late true true = refl
taken_late true false = refl
taken_late false a = refl

taken_now : (v a r : Bool) → ((v && a) && r) ≡ ((v && r) && not (not a))
taken_now true true true = refl
taken_now true true false = refl
taken_now true false true = refl
taken_now true false false = refl
taken_now false a r = refl

module _ (filter : ChannelFilter) (cycle : Cycle) (from : BeatNets) (ready : NetValue) where
  pub drops_late : compares filter ≡ true → nat_lt 0 filter.latency ≡ true → ((cycle.net from.valid.number == 1) && nat_lt filter.sink.largest (cycle.net from.channel.number)) ≡ drops filter cycle from ready
  drops_late compared late = rw (lets_within filter (cycle.net from.channel.number) compared, late) (taken_late (cycle.net from.valid.number == 1) (nat_lt filter.sink.largest (cycle.net from.channel.number)))

  pub drops_now : compares filter ≡ true → nat_lt 0 filter.latency ≡ false → (((cycle.net from.valid.number == 1) && nat_lt filter.sink.largest (cycle.net from.channel.number)) && (cycle.net ready.number == 1)) ≡ drops filter cycle from ready
  drops_now compared now = rw (lets_within filter (cycle.net from.channel.number) compared, now) (taken_now (cycle.net from.valid.number == 1) (nat_lt filter.sink.largest (cycle.net from.channel.number)) (cycle.net ready.number == 1))

  -- a legal source
  pub drops_legal : (IsTrue (cycle.net from.valid.number == 1) → cycle.net from.channel.number ≤ filter.source.largest) → drops filter cycle from ready ≡ (takes_beat filter cycle from ready && nat_lt filter.sink.largest (cycle.net from.channel.number))
  drops_legal legal = by_test (compares filter) refl
    where
      twice : (t a : Bool) → (t && not (not a)) ≡ (t && a)
      twice true true = refl
      twice true false = refl
      twice false a = refl

      none : (v w a : Bool) → (v ≡ true → a ≡ false) → ((v && w) && false) ≡ ((v && w) && a)
      none false w a h = refl
      none true true a h = rw (h refl) refl
      none true false a h = refl

      by_test : (t : Bool) → compares filter ≡ t → drops filter cycle from ready ≡ (takes_beat filter cycle from ready && nat_lt filter.sink.largest (cycle.net from.channel.number))
      by_test true compared = rw (lets_within filter (cycle.net from.channel.number) compared) (twice (takes_beat filter cycle from ready) (nat_lt filter.sink.largest (cycle.net from.channel.number)))
      by_test false plain =
          rw plain
          (none (cycle.net from.valid.number == 1) (nat_lt 0 filter.latency || (cycle.net ready.number == 1)) (nat_lt filter.sink.largest (cycle.net from.channel.number))
          (λ high. (let few = ltb-false filter.sink.largest filter.source.largest (or_parts (nat_lt filter.sink.largest filter.source.largest) (nat_lt filter.sink.bits filter.source.bits) plain).0 in let within = legal high in
          le-ltb filter.sink.largest (cycle.net from.channel.number) (omega (arith, few, within)))))
