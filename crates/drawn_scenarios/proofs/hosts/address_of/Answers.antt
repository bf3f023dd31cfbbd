use Rattle.std.proofs.Common.{◌≡◌, ◌*◌, ap, rules}
use Rattle.drawn_scenarios.proofs.HostLemmas.{below_range}
use Rattle.drawn_scenarios.proofs.hosts.address_of.Goals as goal

pub overflow_cast-result : goal.overflow_cast-result
overflow_cast-result c =
    let below = below_range c.args.link.now c.args.words c.requires.reached c.requires.within in
    let far = c.requires.reached.host.range in
    let same : c.args.words * c.from-2.result ≡ c.args.words * c.args.link.now.host.word_bytes = ap (λ b. c.args.words * b) c.from-2.ensures in
    search rules
