use Rattle.std.proofs.Common.{ap, ℕ, List, Bool, arith, rules}
use Rattle.scenario_tables.specs.declared.statements.Pattern.{Pattern}
use Rattle.drawn_scenarios.specs.Draws.{stalls, pattern}
use Rattle.drawn_scenarios.proofs.DrawLemmas.{repeat_more, repeat_done}
use Rattle.drawn_scenarios.proofs.generator.Generator.pattern.Goals as goal

pub cycles-preserved : goal.cycles-preserved
cycles-preserved c = repeat_more stalls 16 c.cycles.counter _ _ _ _ _ _ (omega arith) c.stalls.ensures (search rules) c.cycles.invariant

pub returns : goal.returns
unfolding pattern
returns c =
    let P : List Bool × ℕ → Pattern × ℕ = λ p. (record { stalls = p.0 }, p.1) in
    ap P (repeat_done stalls 16 c.cycles.counter _ _ _ (omega arith) c.cycles.invariant)
