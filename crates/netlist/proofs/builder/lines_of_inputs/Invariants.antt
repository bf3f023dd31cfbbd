use Rattle.std.proofs.Common.{◌≡◌, take}
use Rattle.netlist.specs.Netlists.{input_lines}
use Rattle.netlist.proofs.builder.lines_of_inputs.Given as goal

abbrev pub invariant-loop-k : goal.invariant-loop-k
invariant-loop-k l = l.lines.items ≡ input_lines 0 (take l.k l.ports)
