use Rattle.std.proofs.Common.{refl}
use Rattle.waves.proofs.laws.read_files.Goals as goal

pub returns-clause-two_inputs : goal.returns-clause-two_inputs
returns-clause-two_inputs c = record { cycles = refl; each = refl }

pub returns-clause-no_inputs : goal.returns-clause-no_inputs
returns-clause-no_inputs c = record { cycles = refl; each = refl }
