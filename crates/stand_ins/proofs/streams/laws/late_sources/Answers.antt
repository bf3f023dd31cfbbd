use Rattle.std.proofs.Common.{◌≡◌, ℕ, [], ◌∷◌, None, refl, arith, lit<}
use Rattle.histories.specs.Below.{each_below}
use Rattle.stand_ins.specs.Sources.{Shows, beat_shown}
use Rattle.stand_ins.specs.StreamsWorked.{byte_port, two_beats, one, two, row}
use Rattle.stand_ins.proofs.streams.laws.late_sources.Goals as goal

pub returns-clause-ready_cycles : goal.returns-clause-ready_cycles
returns-clause-ready_cycles c = λ cycle below. each_below (λ k. let view = row (1 ∷ 0 ∷ 1 ∷ []) (None ∷ None ∷ one ∷ None ∷ two ∷ []) in Shows view k (beat_shown (byte_port 2 2) two_beats view k)) 6 cycle ((((((tt, record { valid = refl; signals = refl }), record { valid = refl; signals = refl }), record { valid = refl; signals = refl }), record { valid = refl; signals = refl }), record { valid = refl; signals = refl }), record { valid = refl; signals = refl }) below

pub returns-clause-too_early : goal.returns-clause-too_early
returns-clause-too_early c = λ stands. let e : ◌≡◌ {A = ℕ} 1 0 = (stands 0 (lit< tt)).valid in omega arith

pub returns-clause-held : goal.returns-clause-held
returns-clause-held c = λ stands. let e : ◌≡◌ {A = ℕ} 1 0 = (stands 3 (lit< tt)).valid in omega arith
