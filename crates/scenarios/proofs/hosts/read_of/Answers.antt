use Rattle.std.proofs.Common.{arith, ap, ◌∙◌}
use Rattle.waves.specs.Spelling.{hexadecimal_in}
use Rattle.scenarios.proofs.PortLemmas.{enables_small}
use Rattle.scenarios.proofs.hosts.read_of.Goals as goal

pub overflow_cast-result-2 : goal.overflow_cast-result-2
overflow_cast-result-2 c =
    let small = enables_small c.args.host.now c.args.words.now c.requires.host.ports.word c.requires.fits.command in
    let same = c.hexadecimal-2.ensures ∙ ap hexadecimal_in c.word-2.ensures in
    omega arith
