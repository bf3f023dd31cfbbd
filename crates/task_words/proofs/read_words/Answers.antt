use Rattle.std.specs.Prelude.{string_bytes}
use Rattle.task_words.proofs.WordsLemmas.{asked, asked_plain, asked_enough}
use Rattle.task_words.proofs.read_words.Goals as goal
use Rattle.task_words.proofs.read_words.Goals.{else-are_enough-via-then-are_enough+else-are_plain, else-are_enough-via-else-are_enough}

pub returns-then-are_plain : goal.returns-then-are_plain
returns-then-are_plain c =
    asked string_bytes c.args.words.now c.in-Some.task c.in-Some.ensures (c.are_enough.ensures.0 c.if-are_enough.true) (c.are_plain.ensures.0 c.if-are_plain.true)

pub returns-else-are_enough : goal.returns-else-are_enough
returns-else-are_enough c =
    λ task h.
    let enough = asked_enough string_bytes c.args.words.now c.in-Some.task task c.in-Some.ensures h in
    let plain = asked_plain string_bytes c.args.words.now task h in
    elim c.else-are_enough.branch [
      | else-are_enough-via-then-are_enough+else-are_plain w ↦ let other = w.if-are_plain.ensures.1 plain in cc
      | else-are_enough-via-else-are_enough w ↦ let other = w.if-are_enough.ensures.1 enough in cc
    ]
