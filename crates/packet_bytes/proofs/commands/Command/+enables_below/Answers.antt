use Rattle.std.proofs.Common.{◌≡◌, ◌-◌, ◌^◌, ◌<◌, sym, ◌∙◌, arith}
use Rattle.packet_bytes.proofs.Lanes.{enables_same, doubled}
use Rattle.packet_bytes.proofs.commands.Command.+enables_below.Goals as goal

pub returns-then-is_touched-clause-small : goal.returns-then-is_touched-clause-small
returns-then-is_touched-clause-small t c =
    let d = doubled c.args.lanes c.if-lanes-eq0.false in
    let s : c.enables_below-below.result < 2 ^ (c.args.lanes - 1) = c.enables_below-below.ensures.small in
    let p : c.pow.result ≡ 2 ^ (c.args.lanes - 1) = c.pow.ensures in
    omega arith

pub returns-else-is_touched-clause-value : goal.returns-else-is_touched-clause-value
returns-else-is_touched-clause-value t c =
    c.enables_below-below.ensures.value
    ∙ enables_same c.args.self.now.word_bytes c.args.self.now.bytes.now c.args.self.now.word c.args.lanes c.if-lanes-eq0.false (sym c.is_touched.ensures ∙ c.if-is_touched.false)

pub returns-else-is_touched-clause-small : goal.returns-else-is_touched-clause-small
returns-else-is_touched-clause-small t c =
    let d = doubled c.args.lanes c.if-lanes-eq0.false in
    let s : c.enables_below-below.result < 2 ^ (c.args.lanes - 1) = c.enables_below-below.ensures.small in
    omega arith
