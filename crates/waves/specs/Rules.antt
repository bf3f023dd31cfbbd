-- The numbers of the rules.
use Rattle.std.specs.Prelude.{ℕ}
use Rattle.waves.specs.declared.faults.WavesRule.{WavesRule}
use Rattle.waves.specs.declared.faults.WavesRule.TheVariants.{Lines, Values, Spelling}

abbrev pub number_of : WavesRule → ℕ
number_of Lines = 1
number_of Values = 2
number_of Spelling = 3
