use Rattle.std.specs.Prelude.{ℕ, List}
use Rattle.simulations.specs.Value.{value_of}
use Rattle.simulations.proofs.NotedHosts.{NotesSoFar}
use Rattle.simulations.proofs.noting.note_host.Given as goal

abbrev pub invariant-cycles : goal.invariant-cycles
invariant-cycles g l = record {
  beats : ℕ;
  words : List ℕ;
  so_far : NotesSoFar l.plan l.scenario l.fn.module l.counter (value_of l.simulation) l.host beats words;
  noted : g.N.HostNotes.notes l.fn.notes l.notes beats words;
}
