use Rattle.std.proofs.Common.{◌≡◌, ◌+◌, ◌-◌, ◌*◌, ap, ◌∙◌, arith}
use Rattle.netlist.specs.Runs.{Always}
use Rattle.net_parts.specs.Laws.{if_ok}
use Rattle.net_parts.specs.Nets.{IsNetOfWidth}
use Rattle.mm_split.proofs.Bits.{place_within, narrow_power}
use Rattle.mm_split.proofs.command.piece_offset.Goals as goal

pub overflow_sub-bits : goal.overflow_sub-bits
overflow_sub-bits c = place_within _ _ _ _ c.requires.sizes.pieces c.requires.sizes.whole c.requires.sizes.some_bytes

pub returns-clause-net : goal.returns-clause-net
returns-clause-net c =
    let within = place_within _ _ _ _ c.requires.sizes.pieces c.requires.sizes.whole c.requires.sizes.some_bytes in
    if_ok c.raise.result _ (λ net. IsNetOfWidth c.raise.new.builder net c.args.sizes.now.wide_bits)
    (λ net made. record {
      is_net = made.is_net;
      has_width = made.has_width ∙ ap (λ n. n + (c.args.sizes.now.wide_bits - c.args.sizes.now.place_bits)) c.requires.number.has_width ∙ omega (arith, within);
    })
    c.raise.ensures.net

pub returns-clause-value : goal.returns-clause-value
returns-clause-value c =
    let within = place_within _ _ _ _ c.requires.sizes.pieces c.requires.sizes.whole c.requires.sizes.some_bytes in
    if_ok c.raise.result _ (λ net. Always c.raise.new.builder (λ cycle. cycle.net net.number ≡ cycle.net c.args.number.number * c.args.sizes.now.narrow_bytes))
    (λ net value cycle v. value cycle v ∙ ap (λ n. cycle.net c.args.number.number * n) (narrow_power _ _ _ _ c.requires.sizes.pieces c.requires.sizes.whole within))
    c.raise.ensures.value
