use Rattle.std.proofs.Common.{arith}
use Rattle.std.proofs.lemmas.Str.{utf8_valid_len_le}
use Rattle.tcl_words.proofs.words.encoding_flaw.Goals as goal

pub returns-then-zero_at-valid-clause-within : goal.returns-then-zero_at-valid-clause-within
returns-then-zero_at-valid-clause-within c = omega (arith, utf8_valid_len_le c.args.bytes.now, c.valid_len-valid.ensures, c.if-zero_at-valid.true)
