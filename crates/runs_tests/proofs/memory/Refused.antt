-- The tight clauses refuse the runs that hang, starve and block.
use Rattle.std.proofs.Common.{ℕ, arith, refl}
use Rattle.runs_tests.specs.MoreExamples.{byte_target}
use Rattle.runs_tests.specs.Hung.{hung_top, hung_middle, owing_top, owing_middle, starving_top, starving_bottom, debt_top, debt_bottom}
use Rattle.runs_tests.specs.Laxer.{FallsByWords}
use Rattle.memory_machines.specs.Rank.{AnswersPromptly}
use Rattle.runs_tests.proofs.memory.Ranks.{never_three}

pub hung_falls_not : (rank : ℕ → ℕ) → FallsByWords byte_target hung_top hung_middle rank 2 4 → ⊥
hung_falls_not rank f = never_three rank 1 (f.bounded 1 (omega arith)) (f.falls 1 (omega arith) refl refl refl) (f.falls 2 (omega arith) refl refl refl) (f.falls 3 (omega arith) refl refl refl)

pub owing_falls_not : (rank : ℕ → ℕ) → FallsByWords byte_target owing_top owing_middle rank 2 5 → ⊥
owing_falls_not rank f = never_three rank 2 (f.bounded 2 (omega arith)) (f.falls 2 (omega arith) refl refl refl) (f.falls 3 (omega arith) refl refl refl) (f.falls 4 (omega arith) refl refl refl)

pub debt_falls_not : (rank : ℕ → ℕ) → FallsByWords byte_target debt_top debt_bottom rank 2 5 → ⊥
debt_falls_not rank f = never_three rank 2 (f.bounded 2 (omega arith)) (f.falls 2 (omega arith) refl refl refl) (f.falls 3 (omega arith) refl refl refl) (f.falls 4 (omega arith) refl refl refl)

pub starving_answers_not : AnswersPromptly byte_target starving_top starving_bottom 3 → ⊥
starving_answers_not prompt = let given = prompt 2 (omega arith) refl in cc
