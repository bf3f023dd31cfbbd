use Rattle.std.proofs.Common.{◌≡◌, ℕ, ◌^◌, ◌≤◌, ◌*◌, max, Bool, true, if◌then◌else◌, Option, subst, ap, ◌∙◌, arith}
use Rattle.std.specs.Prelude.{IfSome}
use Rattle.av_base.specs.Word.{Word, word}
use Rattle.std.proofs.Math.Nat.{le-max_left}
use Rattle.netlist.specs.Runs.{Always}
use Rattle.net_parts.specs.Laws.{if_ok}
use Rattle.mm_agent.specs.Agents.{PlacesAddress}
use Rattle.mm_agent.proofs.Levels.{width_reaches, byte_placed, first_byte}
use Rattle.mm_agent.proofs.fields.place_byte.Goals as goal

reaches : (bits bytes width : ℕ) (units : Bool) → units ≡ true → (if units then max (2 ^ bits) bytes else 2 ^ bits * bytes) ≤ 2 ^ width → bits ≤ width
reaches bits bytes width units counts h =
    let span : max (2 ^ bits) bytes ≤ 2 ^ width = subst (λ t. (if t then max (2 ^ bits) bytes else 2 ^ bits * bytes) ≤ 2 ^ width) counts h in
    let part : 2 ^ bits ≤ max (2 ^ bits) bytes = le-max_left (2 ^ bits) bytes in
    width_reaches bits width (omega (arith, span, part))

pub slice-requires-clause-inside : goal.slice-requires-clause-inside
slice-requires-clause-inside c = let all = reaches _ _ _ _ c.requires.counts c.requires.reaches in omega (arith, all, c.requires.some)

pub returns-then-port-low-clause-value : goal.returns-then-port-low-clause-value
returns-then-port-low-clause-value c =
    if_ok c.constant.result _ (λ made. Always c.constant.new.self (λ cycle. PlacesAddress c.args.port.now (cycle.net c.args.address.number) (cycle.net made.number)))
    (λ made value cycle v. (
    let zero : c.unwrap.result ≡ word c.args.port.now.address_bits 0 = subst (λ (o : Option Word). IfSome o (λ v. v ≡ word c.args.port.now.address_bits 0)) c.unwrap.ensures c.new.ensures.value in
    first_byte _ _ c.lane_bits-low.result _ _ _ c.requires.counts c.if-port-low.true c.lane_bits-low.ensures.power ((value cycle v).1 ∙ ap (λ (w : Word). w.bits) zero)))
    c.constant.ensures.value

pub returns-clause-value : goal.returns-clause-value
returns-clause-value c =
    if_ok c.raise.result _ (λ made. Always c.raise.new.builder (λ cycle. PlacesAddress c.args.port.now (cycle.net c.args.address.number) (cycle.net made.number)))
    (λ made value cycle v. (
    let v1 = c.raise.ensures.adds.grows.extends.valuations cycle v in
    byte_placed _ _ c.lane_bits-low.result _ _ _ _ c.requires.counts (omega (arith, c.if-port-low.false)) c.lane_bits-low.ensures.power (c.in_ok-high.ensures.value cycle v1).1 (value cycle v)))
    c.raise.ensures.value
