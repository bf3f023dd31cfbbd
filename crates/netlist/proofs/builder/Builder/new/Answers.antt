use Rattle.std.proofs.Common.{◌≡◌, ◌≤◌, ◌^◌, [], arith, map}
use Rattle.netlist.specs.Netlists.{input_count, input_lines, undriven}
use Rattle.netlist.proofs.Growth.{IsWellMade-started, IsClocked-started, IsWritten-started}
use Rattle.netlist.proofs.Inputs.{undriven-none}
use Rattle.netlist.proofs.builder.Builder.new.Goals as goal

pub invariant_of-result : goal.invariant_of-result
invariant_of-result c =
    let count : input_count c.args.ports ≡ c.count_inputs.result = cc in
    let few : input_count c.args.ports ≤ 2 ^ 20 = omega arith in
    let lines : c.in_ok-lines.lines.items ≡ input_lines 0 c.args.ports = cc (c.in_ok-lines.ensures.lines) in
    let drivers : c.in_ok-drivers.drivers.items ≡ map undriven c.args.ports = cc (c.in_ok-drivers.ensures.drivers) in
    let memories : c.new.result.items ≡ [] = c.new.ensures.items in
    rw (lines, drivers, memories) (IsWellMade-started c.args.name c.args.ports c.requires few)

pub returns-clause-well_made : goal.returns-clause-well_made
returns-clause-well_made c = invariant_of-result c

pub returns-clause-clocked : goal.returns-clause-clocked
returns-clause-clocked c =
    let lines : c.in_ok-lines.lines.items ≡ input_lines 0 c.args.ports = cc (c.in_ok-lines.ensures.lines) in
    let drivers : c.in_ok-drivers.drivers.items ≡ map undriven c.args.ports = cc (c.in_ok-drivers.ensures.drivers) in
    let memories : c.new.result.items ≡ [] = c.new.ensures.items in
    rw (lines, drivers, memories) (IsClocked-started c.args.name c.args.ports)

pub returns-clause-written : goal.returns-clause-written
returns-clause-written c =
    let lines : c.in_ok-lines.lines.items ≡ input_lines 0 c.args.ports = cc (c.in_ok-lines.ensures.lines) in
    let drivers : c.in_ok-drivers.drivers.items ≡ map undriven c.args.ports = cc (c.in_ok-drivers.ensures.drivers) in
    let memories : c.new.result.items ≡ [] = c.new.ensures.items in
    rw (lines, drivers, memories) (IsWritten-started c.args.name c.args.ports)

pub returns-clause-undriven : goal.returns-clause-undriven
returns-clause-undriven c k =
    let drivers : c.in_ok-drivers.drivers.items ≡ map undriven c.args.ports = cc (c.in_ok-drivers.ensures.drivers) in
    rw drivers (undriven-none c.args.ports k)
