use Rattle.std.proofs.Common.{◌≡◌, ℕ, ◌≤◌, Bool, true, false, refl, ◌∙◌, arith}
use Rattle.std.specs.Prelude.{if◌then◌else◌}
use Rattle.st_timing.specs.Ends.{IsPaced}
use Rattle.adapters_tests.proofs.timings.nets_between.Goals as goal

even : (ready : Bool) (latency allowance : ℕ) → latency ≤ 8 → allowance ≡ latency
    → IsPaced (if ready then record { latency = latency; allowance = allowance } else record { latency = 0; allowance = 0 })
even true latency allowance short same = record { short = short; ordered = omega (arith, same); few = omega (arith, short, same); direct = λ none. same ∙ none }
even false latency allowance short same = record { short = omega arith; ordered = omega arith; few = omega arith; direct = λ none. refl }

pub timing_of-requires-clause-pace : goal.timing_of-requires-clause-pace
timing_of-requires-clause-pace c = even c.args.source.now.ready c.args.source.now.latency c.args.source.now.allowance c.requires.latency c.requires.allowance
