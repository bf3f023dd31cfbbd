use Rattle.std.proofs.Common.{◌≡◌, ℕ, [], ◌∷◌, None, refl, arith, lit<, ap}
use Rattle.histories.specs.Below.{each_below}
use Rattle.stream_runs.specs.View.{Beat}
use Rattle.stand_ins.specs.Sources.{Shows, beat_shown}
use Rattle.stand_ins.specs.StreamsWorked.{byte_port, with_gap, one, two, row}
use Rattle.stand_ins.proofs.streams.laws.direct_sources.Goals as goal

pub returns-clause-waits : goal.returns-clause-waits
returns-clause-waits c = λ cycle below. each_below (λ k. let view = row (0 ∷ 1 ∷ 0 ∷ 0 ∷ 1 ∷ []) (one ∷ one ∷ None ∷ None ∷ two ∷ []) in Shows view k (beat_shown (byte_port 0 0) with_gap view k)) 6 cycle ((((((tt, record { valid = refl; signals = refl }), record { valid = refl; signals = refl }), record { valid = refl; signals = refl }), record { valid = refl; signals = refl }), record { valid = refl; signals = refl }), record { valid = refl; signals = refl }) below

pub returns-clause-withdrawn : goal.returns-clause-withdrawn
returns-clause-withdrawn c = λ stands. let e : ◌≡◌ {A = ℕ} 0 1 = (stands 1 (lit< tt)).valid in omega arith

pub returns-clause-gap_of_ready_cycles : goal.returns-clause-gap_of_ready_cycles
returns-clause-gap_of_ready_cycles c = λ stands. let e : ◌≡◌ {A = ℕ} 0 1 = (stands 3 (lit< tt)).valid in omega arith

pub returns-clause-sent_twice : goal.returns-clause-sent_twice
returns-clause-sent_twice c = λ stands. let e : ◌≡◌ {A = ℕ} 0x11 0x22 = ap (λ (beat : Beat). beat.word) (stands 1 (lit< tt)).signals in omega arith
