use Rattle.std.proofs.Common.{Ok, sym, ap, ◌∙◌}
use Rattle.system_scripts.proofs.EndingLemmas.{under_name}
use Rattle.system_scripts.proofs.reading.system_over.Goals as goal

pub with_tables-requires-clause-system : goal.with_tables-requires-clause-system
with_tables-requires-clause-system c = λ name named. (c.in_ok-tables.ensures.system name named).0

pub returns-clause-accepted : goal.returns-clause-accepted
returns-clause-accepted c =
    under_name c.take_file.new.self.name c.in_ok-tables.ensures.created
    (λ name named. (c.in_ok-tables.ensures.system name named).1 ∙ ap Ok (sym (c.with_tables.ensures name named)))
