use Rattle.std.proofs.Common.{sym, ◌∙◌}
use Rattle.std.proofs.lemmas.Bool.{le-ltb}
use Rattle.st_format.proofs.ClearLaw.{not_largest}
use Rattle.st_format.proofs.clear.is_largest.Goals as goal

pub returns-else-bits-lt8 : goal.returns-else-bits-lt8
returns-else-bits-lt8 c =
    let many = c.if-bits-lt8.false in
    le-ltb c.args.bits 8 many ∙ sym (not_largest c.args.bits c.args.number c.requires many)
