use Rattle.std.proofs.Common.{◌≡◌, ◌^◌, ◌-◌, arith, rules}
use Rattle.scenarios.proofs.PortLemmas.{longest_small}
use Rattle.scenarios.proofs.ports.longest.Goals as goal

pub returns-clause-small : goal.returns-clause-small
returns-clause-small c =
    let small = longest_small c.args.host.now.burst_bits c.requires.ports.burst in
    let same : c.pow.result ≡ 2 ^ (c.args.host.now.burst_bits - 1) = search rules in
    omega arith
