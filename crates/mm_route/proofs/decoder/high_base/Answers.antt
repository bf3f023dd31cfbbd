use Rattle.std.proofs.Common.{◌/◌, ◌-◌, ◌^◌, sym, subst}
use Rattle.av_base.specs.Word.{IsWord}
use Rattle.mm_route.proofs.Decoding.{base_is_word}
use Rattle.mm_route.proofs.decoder.high_base.Goals as goal

pub unwrap-requires : goal.unwrap-requires
unwrap-requires c =
    c.new.ensures.some.1 (subst (λ n. IsWord (c.args.width - c.args.entry.now.bits) (n / 2 ^ c.args.entry.now.bits)) (sym c.from.ensures)
    (base_is_word c.args.entry.now c.args.width c.requires.entry c.requires.some c.requires.small))
