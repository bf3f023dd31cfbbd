use Rattle.std.proofs.Common.{◌≡◌, arith, refl, IsTrue, IsFalse, MatchOption}
use Rattle.histories.specs.Below.{each_below}
use Rattle.memory_runs.specs.Commands.{shows}
use Rattle.memory_machines.specs.Turns.{chosen, grant_before, asks_at}
use Rattle.runs_tests.specs.TurnRows.{seats, askers, granted, by_shares}
use Rattle.runs_tests.proofs.memory.turns_at_ports.Goals as goal

pub returns-clause-right : goal.returns-clause-right
returns-clause-right c = λ k h.
    each_below (λ k. MatchOption (chosen (grant_before seats askers (granted by_shares) k) (asks_at askers k)).host (IsFalse (shows (granted by_shares).commands.signals k)) (λ host.
    IsTrue (shows (granted by_shares).commands.signals k) × ((granted by_shares).commands.tag k ≡ (askers host).commands.tag k))) 12 k
    ((((((((((((tt, (refl, refl)), (refl, refl)), (refl, refl)), (refl, refl)), (refl, refl)), (refl, refl)), (refl, refl)), (refl, refl)), (refl, refl)), (refl, refl)), (refl, refl)), (refl, refl)) h

pub returns-clause-one_each : goal.returns-clause-one_each
returns-clause-one_each c = λ rule. let bad = (rule 1 (omega arith)).1 in cc

pub returns-clause-first : goal.returns-clause-first
returns-clause-first c = λ rule. let bad = (rule 3 (omega arith)).1 in cc
