use Rattle.std.proofs.Common.{◌≡◌, List, Ok, subst}
use Rattle.std.specs.Prelude.{IfOk, IfErr}
use Rattle.script_words.specs.Judgements.{IsFaultOf}
use Rattle.component_scripts.specs.Tables.{ComponentTable}
use Rattle.system_scripts.specs.Clocks.{system_over}
use Rattle.system_scripts.proofs.reading.read_system.Goals as goal

pub returns-clause-accepted : goal.returns-clause-accepted
returns-clause-accepted c =
    subst (λ (l : List ComponentTable). IfOk c.system_over.result (λ system. system_over l c.args.commands.now ≡ Ok system)) c.in_ok-library.ensures c.system_over.ensures.accepted

pub returns-clause-refused : goal.returns-clause-refused
returns-clause-refused c =
    subst (λ (l : List ComponentTable). IfErr c.system_over.result (λ fault. IsFaultOf fault (system_over l c.args.commands.now))) c.in_ok-library.ensures c.system_over.ensures.refused
