use Rattle.std.proofs.Common.{◌≡◌, ℕ, [], ◌∷◌, refl, arith, lit<}
use Rattle.histories.specs.Below.{each_below}
use Rattle.histories.specs.History.{one_if}
use Rattle.stream_runs.specs.Rows.{signal_of}
use Rattle.stand_ins.specs.Sinks.{ready_in}
use Rattle.stand_ins.specs.StreamsWorked.{two_of_three}
use Rattle.stand_ins.proofs.streams.laws.pattern_sinks.Goals as goal

pub returns-clause-over_and_over : goal.returns-clause-over_and_over
returns-clause-over_and_over c = λ cycle below. each_below (λ k. signal_of (1 ∷ 0 ∷ 0 ∷ 1 ∷ []) k ≡ one_if (ready_in two_of_three k)) 4 cycle ((((tt, refl), refl), refl), refl) below

pub returns-clause-always : goal.returns-clause-always
returns-clause-always c = λ cycle below. each_below (λ k. signal_of (1 ∷ 1 ∷ []) k ≡ one_if (ready_in [] k)) 2 cycle ((tt, refl), refl) below

pub returns-clause-turned : goal.returns-clause-turned
returns-clause-turned c = λ stands. let e : ◌≡◌ {A = ℕ} 0 1 = stands 0 (lit< tt) in omega arith

pub returns-clause-but_once : goal.returns-clause-but_once
returns-clause-but_once c = λ stands. let e : ◌≡◌ {A = ℕ} 1 0 = stands 4 (lit< tt) in omega arith
