use Rattle.std.proofs.Common.{◌≡◌, ◌==◌, ◌<◌, length, false, sym, subst, refl, None}
use Rattle.std.specs.List.{position_or_len}
use Rattle.std.proofs.lemmas.Str.Pattern.{split_once_first}
use Rattle.script_words.specs.Names.{parts_round, stands_in}
use Rattle.script_words.specs.Laws.{fails_at_each}
use Rattle.script_words.proofs.values.parts_round.Goals as goal

pub returns-in_err-front : goal.returns-in_err-front
unfolding parts_round
returns-in_err-front c =
    let text = c.args.text.now in
    let small : c.from.result < 128 = subst (λ k. k < 128) (sym c.from.ensures) c.requires in
    let past : position_or_len (λ b. b == c.from.result) text ≡ length text = split_once_first c.from.result text None c.in_err-front.ensures.cases small in
    let none : stands_in c.from.result text ≡ false = fails_at_each (λ b. b == c.from.result) text past in
    let lacks : stands_in c.args.mark text ≡ false = subst (λ k. stands_in k text ≡ false) c.from.ensures none in
    rw (c.from_residual.ensures, lacks) refl
