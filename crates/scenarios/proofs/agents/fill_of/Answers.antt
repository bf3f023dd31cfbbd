use Rattle.std.proofs.Common.{arith, ap, ◌∙◌}
use Rattle.waves.specs.Spelling.{hexadecimal_in}
use Rattle.scenarios.proofs.PortLemmas.{offset_small}
use Rattle.scenarios.proofs.agents.fill_of.Goals as goal

pub overflow_cast-result : goal.overflow_cast-result
overflow_cast-result c =
    let small = offset_small c.args.agent.now c.args.words.now c.requires.fits c.requires.agent.span in
    let same = c.hexadecimal.ensures ∙ ap hexadecimal_in c.word.ensures in
    omega arith
