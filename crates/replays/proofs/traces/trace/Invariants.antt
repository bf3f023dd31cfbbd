use Rattle.std.proofs.Common.{◌≡◌, length, string_bytes}
use Rattle.replays.proofs.RunLemmas.{IsTraced}
use Rattle.replays.proofs.traces.trace.Given as goal

abbrev pub invariant-cycles : goal.invariant-cycles
invariant-cycles l = record {
  room : length l.row.items ≡ length l.waves.widths;
  traced : IsTraced l.fn.sim.netlist l.waves.rows l.sim l.cycle (string_bytes l.text);
}
