use Rattle.std.proofs.Common.{◌≡◌, arith}
use Rattle.std.proofs.lemmas.Fmt.{parse-decimal}
use Rattle.std.proofs.lemmas.Slice.Eq.{bytes_eq-Decides}
use Rattle.task_words.proofs.routed.number_of.Goals as goal

pub returns-in_default : goal.returns-in_default
returns-in_default c =
    λ n few is. let e = parse-decimal 32 n c.args.word.now c.parse.result few (omega (arith, few)) is c.parse.ensures.value.0 in
    let d = c.in_default.is in cc

pub returns-else-eq : goal.returns-else-eq
returns-else-eq c =
    λ n few is. let e = parse-decimal 32 n c.args.word.now c.parse.result few (omega (arith, few)) is c.parse.ensures.value.0 in
    let read = c.in-Ok.is in
    let text = c.put_number.ensures.text in
    let wide = c.from.ensures in
    let none = c.new-spelled.ensures in
    let spelled : c.as_slice.result.now ≡ c.as_bytes.result.now = cc (c.as_slice.ensures, c.as_bytes.ensures.value, is, e, read, text, wide, none) in
    let same = (bytes_eq-Decides c.as_slice.result.now c.as_bytes.result.now).1 spelled in
    let other = c.if-eq.ensures in cc
