-- The numbers of the rules on commands.
use Rattle.std.specs.Prelude.{ℕ}
use Rattle.script_words.specs.declared.rule.CommandRule.{CommandRule}
use Rattle.script_words.specs.declared.rule.CommandRule.TheVariants.{UnknownCommand, WrongCount, NotAName, Taken, NotStated, UnknownKind, WrongDirection, UnknownRole, UnknownProperty, Misread, OutOfRange, PackageWords, Creation, TypeName, TypeTaken, UnlikeEnds, StreamTaken, Misplaced, UnknownPortProperty, NotAnEnd}

abbrev pub rule_number : CommandRule → ℕ
rule_number UnknownCommand = 1
rule_number WrongCount = 2
rule_number NotAName = 3
rule_number Taken = 4
rule_number NotStated = 5
rule_number UnknownKind = 6
rule_number WrongDirection = 7
rule_number UnknownRole = 8
rule_number UnknownProperty = 9
rule_number Misread = 10
rule_number OutOfRange = 11
rule_number PackageWords = 12
rule_number Creation = 13
rule_number TypeName = 14
rule_number TypeTaken = 15
rule_number UnlikeEnds = 16
rule_number StreamTaken = 17
rule_number Misplaced = 18
rule_number UnknownPortProperty = 19
rule_number NotAnEnd = 20
