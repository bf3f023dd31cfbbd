use Rattle.std.proofs.Common.{◌+◌, ◌*◌, ◌%◌, ap, ◌∙◌}
use Rattle.std.proofs.Math.Nat.{add-mul-mod_self_right}
use Rattle.stand_ins.proofs.burst.WriteBurst.address.Goals as goal

pub returns-else-self-eq0-clause-whole : goal.returns-else-self-eq0-clause-whole
returns-else-self-eq0-clause-whole c =
    let n = c.args.port.now.word_bytes in
    let first = c.args.self.now.first in
    ap (λ b. (first + c.from.result * b) % n) c.from-else-self-eq0.ensures ∙ add-mul-mod_self_right first c.from.result n ∙ c.requires.kept.whole
