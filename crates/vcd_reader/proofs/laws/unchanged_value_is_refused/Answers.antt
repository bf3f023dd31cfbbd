use Rattle.std.proofs.Common.{refl}
use Rattle.std.specs.Fmt.{digits}
use Rattle.vcd_reader.specs.Found.{hole}
use Rattle.vcd_reader.proofs.laws.unchanged_value_is_refused.Goals as goal

pub returns : goal.returns
unfolding hole digits
returns c = refl
