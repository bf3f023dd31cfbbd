use Rattle.std.proofs.Common.{sym, ◌∙◌}
use Rattle.marked_bytes.proofs.Resting.{rest_is_whole, whole_is_rest, bad_rests_not}
use Rattle.marked_bytes.proofs.unpacker.Unpacker.at_rest.Goals as goal

pub returns-clause-rests : goal.returns-clause-rests
returns-clause-rests c = λ fed items h.
    (λ r. rest_is_whole fed items c.args.self.now h (sym c.has_begun_nothing.ensures ∙ r), λ w. c.has_begun_nothing.ensures ∙ whole_is_rest fed items c.args.self.now h w)

pub returns-clause-bad : goal.returns-clause-bad
returns-clause-bad c = λ rule b. c.has_begun_nothing.ensures ∙ bad_rests_not c.args.self.now rule b
