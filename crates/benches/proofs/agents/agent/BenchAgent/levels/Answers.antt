use Rattle.std.proofs.Common.{◌<◌, ◌^◌, ℕ, subst, sym, arith}
use Rattle.iface_roles.specs.declared.records.AgentPort.{AgentPort}
use Rattle.benches.proofs.agents.Reading.{few_bytes, kept_few, lanes_low, wider}
use Rattle.benches.proofs.agents.agent.BenchAgent.levels.Goals as goal

pub level_at-requires-clause-there : goal.level_at-requires-clause-there
level_at-requires-clause-there c =
    let fits = rw (← c.self.view_is) at c.requires.fits in
    let few = kept_few _ _ c.self.invariant in
    wider _ _ 128 _ (omega (arith, few)) fits.word

pub all_lanes-requires : goal.all_lanes-requires
all_lanes-requires c = few_bytes _ c.self.invariant.bounded.ports.word

pub short_at-requires-clause-there : goal.short_at-requires-clause-there
short_at-requires-clause-there c =
    let fits = rw (← c.self.view_is) at c.requires.fits in
    wider _ _ 16 _ (kept_few _ _ c.self.invariant) fits.enables

pub returns-clause-enables : goal.returns-clause-enables
returns-clause-enables c =
    let fits = rw (← c.self.view_is) at c.requires.fits in
    let bytes = c.self.inside.port.word_bytes in
    let low : c.all_lanes.result < 2 ^ bytes = subst (λ (n : ℕ). n < 2 ^ bytes) (sym c.all_lanes.ensures) (lanes_low bytes) in
    rw (← c.self.view_is)
    (c.short_at.ensures.fits c.self.inside.stand_in.port.word_bytes fits.enables (subst (λ (port : AgentPort). c.all_lanes.result < 2 ^ port.word_bytes) (sym c.self.invariant.same) low))
