use Rattle.std.proofs.Common.{◌≡◌, length}
use Rattle.dumps.proofs.RunLemmas.{IsDumped}
use Rattle.dumps.proofs.traces.dump_run.Given as goal

abbrev pub invariant-cycles : goal.invariant-cycles
invariant-cycles l = record {
  room : length l.inputs.items ≡ length l.waves.widths;
  count : length l.row.items ≡ length l.fn.sim.netlist.ports;
  dumped : IsDumped l.fn.sim.netlist l.waves.rows l.sim l.cycle l.sink.bytes l.dumper;
}
