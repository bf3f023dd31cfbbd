use Rattle.std.proofs.Common.{◌*◌, ◌<◌, ◌^◌, subst, arith}
use Rattle.iface_roles.specs.declared.records.AgentPort.{AgentPort}
use Rattle.benches.proofs.agents.Reading.{few_bytes, some_byte}
use Rattle.benches.proofs.agents.agent.BenchAgent.taken_line.Goals as goal

pub overflow_mul-self-inside : goal.overflow_mul-self-inside
overflow_mul-self-inside c = let few = few_bytes _ c.self.invariant.bounded.ports.word in record { fits = omega (arith, few) }

pub unwrap-word-requires : goal.unwrap-word-requires
unwrap-word-requires c =
    let few = few_bytes _ c.self.invariant.bounded.ports.word in
    let some = some_byte _ c.self.invariant.bounded.ports.word in
    let low = rw (← c.self.view_is) at c.requires.word in
    c.new-then-levels.ensures.some.1 (record {
      some_bit = omega (arith, some);
      small = omega (arith, few);
      fits = subst (λ (port : AgentPort). c.args.levels.now.word < 2 ^ (8 * port.word_bytes)) c.self.invariant.same low;
    })
