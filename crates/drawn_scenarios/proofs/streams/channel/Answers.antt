use Rattle.std.proofs.Common.{◌+◌, ◌∙◌, ap, ℕ, arith}
use Rattle.std.proofs.lemmas.Bool.Decides.{nat_tests}
use Rattle.drawn_scenarios.specs.Draws.{draw}
use Rattle.drawn_scenarios.proofs.StreamLemmas.{channel_drawn, channel_none}
use Rattle.drawn_scenarios.proofs.streams.channel.Goals as goal

pub returns-then-source-eq0 : goal.returns-then-source-eq0
returns-then-source-eq0 c = channel_none c.args.source.now c.args.generator.now (grind (arith, nat_tests))

pub returns : goal.returns
returns c =
    let P : ℕ → ℕ × ℕ = λ most. draw (most + 1) c.args.generator.now in
    c.draw.ensures.drawn ∙ ap P c.from-channels.ensures ∙ channel_drawn c.args.source.now c.args.generator.now (grind (arith, nat_tests))
