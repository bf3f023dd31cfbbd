use Rattle.std.proofs.Common.{subst, ap, length, arith}
use Rattle.netlist.specs.declared.line.PortLine.{PortLine}
use Rattle.netlist.proofs.Lists.{slice_get-within}
use Rattle.netlist.specs.Netlists.{Netlist, IsWellMade}
use Rattle.netlist.proofs.Growth.{input_made, input_is_net, input_holds}
use Rattle.netlist.proofs.builder.Builder.input.Goals as goal

pub returns-clause-net : goal.returns-clause-net
returns-clause-net c =
    let well : IsWellMade c.args.self.now = subst IsWellMade c.self.view_is c.self.invariant in
    let made = input_made _ c.args.self.now c.as_slice-ports.result.now c.args.port c.count_inputs-number.result c.index-ports-port.result c.new.result c.self.view_is c.as_slice-ports.ensures c.count_inputs-number.ensures c.new.ensures in
    input_is_net c.args.self.now c.args.port c.requires.0 c.new.result well made c.requires.1

pub returns-clause-number : goal.returns-clause-number
returns-clause-number c =
    (input_made _ c.args.self.now c.as_slice-ports.result.now c.args.port c.count_inputs-number.result c.index-ports-port.result c.new.result c.self.view_is c.as_slice-ports.ensures c.count_inputs-number.ensures c.new.ensures).number

pub returns-clause-width : goal.returns-clause-width
returns-clause-width c =
    (input_made _ c.args.self.now c.as_slice-ports.result.now c.args.port c.count_inputs-number.result c.index-ports-port.result c.new.result c.self.view_is c.as_slice-ports.ensures c.count_inputs-number.ensures c.new.ensures).width

pub returns-clause-value : goal.returns-clause-value
returns-clause-value c =
    let well : IsWellMade c.args.self.now = subst IsWellMade c.self.view_is c.self.invariant in
    let made = input_made _ c.args.self.now c.as_slice-ports.result.now c.args.port c.count_inputs-number.result c.index-ports-port.result c.new.result c.self.view_is c.as_slice-ports.ensures c.count_inputs-number.ensures c.new.ensures in
    input_holds c.args.self.now c.args.port c.requires.0 c.new.result well made c.requires.1

pub bounds-ports-port : goal.bounds-ports-port
bounds-ports-port c = let at = slice_get-within c.args.self.now.ports c.args.port c.requires.1.port c.requires.1.is in let same = ap (λ (x : Netlist). length x.ports) c.self.view_is in let slice = ap (length {A = PortLine}) c.as_slice-ports.ensures in omega (arith, at, same, slice)

pub bounds-ports-port-2 : goal.bounds-ports-port-2
bounds-ports-port-2 c = let at = slice_get-within c.args.self.now.ports c.args.port c.requires.1.port c.requires.1.is in let same = ap (λ (x : Netlist). length x.ports) c.self.view_is in let slice = ap (length {A = PortLine}) c.as_slice-ports.ensures in omega (arith, at, same, slice)
