use Rattle.std.proofs.Common.{◌≡◌, ℕ, [], ◌∷◌, None, refl, arith, lit<}
use Rattle.histories.specs.Below.{each_below}
use Rattle.stand_ins.specs.Sources.{Shows, beat_shown}
use Rattle.stand_ins.specs.StreamsWorked.{byte_port, four_beats, one, two, three, four, row}
use Rattle.stand_ins.proofs.streams.laws.allowed_sources.Goals as goal

pub returns-clause-three_more : goal.returns-clause-three_more
returns-clause-three_more c = λ cycle below. each_below (λ k. let view = row (0 ∷ 1 ∷ []) (None ∷ None ∷ one ∷ two ∷ three ∷ None ∷ []) in Shows view k (beat_shown (byte_port 1 3) four_beats view k)) 7 cycle (((((((tt, record { valid = refl; signals = refl }), record { valid = refl; signals = refl }), record { valid = refl; signals = refl }), record { valid = refl; signals = refl }), record { valid = refl; signals = refl }), record { valid = refl; signals = refl }), record { valid = refl; signals = refl }) below

pub returns-clause-by_ready : goal.returns-clause-by_ready
returns-clause-by_ready c = λ cycle below. each_below (λ k. let view = row (0 ∷ 1 ∷ 0 ∷ 1 ∷ []) (None ∷ None ∷ one ∷ two ∷ three ∷ four ∷ []) in Shows view k (beat_shown (byte_port 1 3) four_beats view k)) 7 cycle (((((((tt, record { valid = refl; signals = refl }), record { valid = refl; signals = refl }), record { valid = refl; signals = refl }), record { valid = refl; signals = refl }), record { valid = refl; signals = refl }), record { valid = refl; signals = refl }), record { valid = refl; signals = refl }) below

pub returns-clause-one_too_many : goal.returns-clause-one_too_many
returns-clause-one_too_many c = λ stands. let e : ◌≡◌ {A = ℕ} 1 0 = (stands 5 (lit< tt)).valid in omega arith

pub returns-clause-one_too_few : goal.returns-clause-one_too_few
returns-clause-one_too_few c = λ stands. let e : ◌≡◌ {A = ℕ} 0 1 = (stands 4 (lit< tt)).valid in omega arith

pub returns-clause-too_early : goal.returns-clause-too_early
returns-clause-too_early c = λ stands. let e : ◌≡◌ {A = ℕ} 1 0 = (stands 1 (lit< tt)).valid in omega arith
