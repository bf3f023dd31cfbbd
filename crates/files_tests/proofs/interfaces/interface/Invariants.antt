use Rattle.std.proofs.Common.{◌≡◌}
use Rattle.files_tests.proofs.interfaces.interface.Given as goal

abbrev pub invariant-loop-port : goal.invariant-loop-port
invariant-loop-port l = l.made.kind ≡ l.kind

abbrev pub invariant-loop-setting : goal.invariant-loop-setting
invariant-loop-setting l = l.made.kind ≡ l.kind
