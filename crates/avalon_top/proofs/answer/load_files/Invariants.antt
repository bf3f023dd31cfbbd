use Rattle.std.proofs.Common.{◌≡◌, ℕ, ◌+◌, ◌^◌, ◌<◌, ◌≤◌, length}
use Rattle.avalon_top.specs.Run.{AreLoaded}
use Rattle.avalon_top.proofs.answer.load_files.Given as goal

abbrev pub invariant-loop-file : goal.invariant-loop-file
invariant-loop-file g l = record {
  loaded : AreLoaded l.fn.task (g.S.Shelf.told l.fn.shelf) l.files.items;
  count : length l.files.items + 1 ≡ l.file;
  grows : g.S.Shelf.faults l.fn.shelf ≤ g.S.Shelf.faults l.shelf;
  below : g.S.Shelf.faults l.fn.shelf < 2 ^ 64 → g.S.Shelf.faults l.shelf < 2 ^ 64;
  told : (k : ℕ) → g.S.Shelf.told l.shelf k ≡ g.S.Shelf.told l.fn.shelf k;
}
