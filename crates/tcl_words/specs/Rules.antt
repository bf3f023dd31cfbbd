-- The numbers of the rules.
use Rattle.std.specs.Prelude.{ℕ}
use Rattle.tcl_words.specs.declared.rule.Rule.{Rule}
use Rattle.tcl_words.specs.declared.rule.Rule.TheVariants.{Substitution, Backslash, OpenBrace, OpenQuote, AfterClose, NotUtf8, ZeroByte}

abbrev pub number_of : Rule → ℕ
number_of Substitution = 1
number_of Backslash = 2
number_of OpenBrace = 3
number_of OpenQuote = 4
number_of AfterClose = 5
number_of NotUtf8 = 6
number_of ZeroByte = 7
