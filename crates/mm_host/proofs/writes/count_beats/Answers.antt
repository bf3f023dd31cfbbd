use Rattle.std.proofs.Common.{◌≡◌, arith, sym, ◌∙◌}
use Rattle.netlist.specs.Runs.{Always}
use Rattle.net_parts.specs.Laws.{if_ok, adds_fewer, adds_twice, grows_once}
use Rattle.mm_host.specs.Writes.{beats_of}
use Rattle.mm_host.proofs.Levels.{beats_chosen}
use Rattle.net_parts.specs.Refusing.{handed_on}
use Rattle.net_parts.specs.Nets.{IsNetOfWidth}
use Rattle.mm_host.proofs.writes.count_beats.Goals as goal

pub returns-clause-value : goal.returns-clause-value
returns-clause-value c =
    if_ok c.choose.result _ (λ beats. Always c.choose.new.builder (λ cycle. cycle.net beats.number ≡ beats_of (cycle.net c.args.left.number) (cycle.net c.args.count.number)))
    (λ beats value cycle v. beats_chosen _ _ _ _ (c.in_ok-under_way.ensures.value cycle (c.choose.ensures.adds.grows.extends.valuations cycle v)).1 (value cycle v))
    c.choose.ensures.value

pub choose-requires-clause-bit : goal.choose-requires-clause-bit
choose-requires-clause-bit c = record { is_net = c.in_ok-under_way.ensures.net.0; has_width = c.in_ok-under_way.ensures.net.1 }

pub choose-requires-clause-one : goal.choose-requires-clause-one
choose-requires-clause-one c = c.any.ensures.extends.nets _ _ c.requires.left.is_net

pub choose-requires-clause-other : goal.choose-requires-clause-other
choose-requires-clause-other c = c.any.ensures.extends.nets _ _ c.requires.count.is_net

pub choose-requires-clause-widths : goal.choose-requires-clause-widths
choose-requires-clause-widths c = c.requires.left.has_width ∙ sym c.requires.count.has_width

pub returns-clause-net : goal.returns-clause-net
returns-clause-net c =
    if_ok c.choose.result _ (λ beats. IsNetOfWidth c.choose.new.builder beats c.args.bits) (λ beats net. record { is_net = net.is_net; has_width = net.has_width ∙ c.requires.left.has_width }) c.choose.ensures.net

pub returns-in_err-under_way-clause-adds : goal.returns-in_err-under_way-clause-adds
returns-in_err-under_way-clause-adds c = adds_fewer _ _ _ _ (omega arith) (grows_once _ _ c.any.ensures.extends c.any.ensures.grows)

pub returns-in_err-under_way-clause-full : goal.returns-in_err-under_way-clause-full
returns-in_err-under_way-clause-full c e = let full = c.any.ensures.full.0 (handed_on _ _ _ _ c.in_err-under_way.was c.from_residual.ensures.1 e) in omega (arith, full)

pub returns-clause-adds : goal.returns-clause-adds
returns-clause-adds c = adds_fewer _ _ _ _ (omega arith) (adds_twice _ _ _ _ _ (grows_once _ _ c.any.ensures.extends c.any.ensures.grows) c.choose.ensures.adds)

pub returns-clause-full : goal.returns-clause-full
returns-clause-full c e =
    let most0 = c.any.ensures.grows.most in
    let full = c.choose.ensures.full e in
    omega (arith, most0, full)
