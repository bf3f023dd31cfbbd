use Rattle.std.proofs.Common.{◌≡◌, sym, ◌∙◌, arith}
use Rattle.std.proofs.lemmas.Fmt.{decimal_injective}
use Rattle.task_words.proofs.routed.small_number_of.Goals as goal

pub returns-in_default : goal.returns-in_default
returns-in_default c n spelled = let few = spelled.small in c.in_default.ensures n (omega (arith, few)) spelled.is

pub returns-else-number-lt256 : goal.returns-else-number-lt256
returns-else-number-lt256 c n spelled =
    let few = spelled.small in
    let most = c.number_of.type_inv in
    let more = c.if-number-lt256.false in
    let same : n ≡ c.in-Some.number = decimal_injective n c.in-Some.number (omega (arith, few)) (omega arith) (sym spelled.is ∙ c.in-Some.ensures) in
    omega (arith, few, more, same)
