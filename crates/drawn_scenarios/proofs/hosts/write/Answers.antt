use Rattle.std.proofs.Common.{◌≡◌, [], ◌∷◌, rules}
use Rattle.drawn_scenarios.proofs.HostLemmas.{writes}
use Rattle.drawn_scenarios.proofs.hosts.write.Goals as goal

pub returns : goal.returns
returns c =
    let pushed : c.push.new.self ≡ c.word.result ∷ [] = search rules in
    let drawn = writes c.args.host.now c.args.address _ _ _ c.word.ensures.drawn in
    cc
