use Rattle.std.proofs.Common.{List, subst, ap, ◌∙◌}
use Rattle.netlist.specs.declared.line.PortLine.{PortLine}
use Rattle.netlist.specs.Netlists.{Netlist, IsOutputPort}
use Rattle.adapters_tests.proofs.Ports.{header, no_output}
use Rattle.adapters_tests.proofs.builders.empty_builder.Goals as goal

pub new-requires : goal.new-requires
new-requires c = rw (c.in_ok-name.ensures, c.new-ports.ensures) header

pub returns-clause-no_output : goal.returns-clause-no_output
returns-clause-no_output c k w i =
    no_output k w (subst (λ (ps : List PortLine). IsOutputPort ps k w) (ap (λ (b : Netlist). b.ports) c.in_ok-new.ensures.started ∙ c.new-ports.ensures) i)
