use Rattle.std.proofs.Common.{refl}
use Rattle.std.proofs.lemmas.Result.{MatchResult-weaker}
use Rattle.tcl_words.proofs.ScriptLaws.{encoded_from}
use Rattle.tcl_words.proofs.Reader.{tells_spelled, tells_only, refused_only, encoding_only}
use Rattle.tcl_words.proofs.words.Commands.read.Goals as goal

pub returns-in_err-check_encoding-clause-only : goal.returns-in_err-check_encoding-clause-only
returns-in_err-check_encoding-clause-only c = λ script s.
    absurd (encoding_only c.args.file c.args.bytes.now script _ c.in_err-check_encoding.field-0.0 s refl c.in_err-check_encoding.ensures)

pub commands_of-requires-clause-utf8 : goal.commands_of-requires-clause-utf8
commands_of-requires-clause-utf8 c = (encoded_from c.args.bytes.now c.in_ok-check_encoding.ensures).utf8

pub returns-clause-spelled : goal.returns-clause-spelled
returns-clause-spelled c =
    MatchResult-weaker c.commands_of.result c.commands_of.ensures (λ script h. tells_spelled c.args.file c.args.bytes.now script c.in_ok-check_encoding.ensures h.0 h.1) (λ e h. tt)

pub returns-clause-only : goal.returns-clause-only
returns-clause-only c = λ script s.
    MatchResult-weaker c.commands_of.result c.commands_of.ensures (λ told h. tells_only c.args.file c.args.bytes.now told script s h.0 h.1) (λ e h. refused_only c.args.file c.args.bytes.now script e s h)
