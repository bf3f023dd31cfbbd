use Rattle.std.proofs.Common.{refl, ap, ◌∙◌}
use Rattle.netlist.proofs.Growth.{input_value}
use Rattle.netlist.proofs.Ports.{driven_value, input_port_net, named_signal}
use Rattle.netlist.specs.Netlists.{input_net}
use Rattle.netlist.proofs.laws.signals.Goals as goal

pub returns-clause-output : goal.returns-clause-output
returns-clause-output c netlist k n e run at = driven_value netlist run at k n e

pub returns-clause-input : goal.returns-clause-input
returns-clause-input c netlist h k w i cycle v =
    ap cycle.net (input_port_net netlist k w h i) ∙ input_value netlist k w (input_net netlist.ports k) h refl i cycle v

pub returns-clause-input_net : goal.returns-clause-input_net
returns-clause-input_net c netlist h k w i = input_value netlist k w (input_net netlist.ports k) h refl i

pub returns-clause-named : goal.returns-clause-named
returns-clause-named c = named_signal
