use Rattle.std.proofs.Common.{◌≡◌, false, sym, ◌∙◌, nat_lt, arith}
use Rattle.std.proofs.lemmas.Bool.Decides.{nat_tests}
use Rattle.iface_roles.proofs.RuleLemmas.{has_odd_channel-wide}
use Rattle.iface_roles.proofs.interface.Interface.has_odd_channel.Goals as goal

pub returns-else-bits-lt32 : goal.returns-else-bits-lt32
returns-else-bits-lt32 c =
    let odd = has_odd_channel-wide c.args.self.now c.width-bits.result c.setting-greatest.result c.width-bits.ensures c.setting-greatest.ensures.value (sym c.has.ensures ∙ c.if-not-has.false) c.if-bits-lt32.false (omega arith) in
    let narrow : nat_lt c.width-bits.result 32 ≡ false = grind (arith, nat_tests) in
    narrow ∙ sym odd
