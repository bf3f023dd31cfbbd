use Rattle.std.proofs.Common.{sym, subst}
use Rattle.netlist.specs.Netlists.{IsDriven, IsClocked, IsWritten}
use Rattle.netlist.proofs.builder.Builder.finish.Goals as goal

pub of_parts-requires : goal.of_parts-requires
of_parts-requires c = record {
  well_made = c.self.invariant;
  driven = subst IsDriven (sym c.self.view_is) c.requires.driven;
  clocked = subst IsClocked (sym c.self.view_is) c.requires.clocked;
  written = subst IsWritten (sym c.self.view_is) c.requires.written;
}
