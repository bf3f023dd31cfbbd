use Rattle.std.proofs.Common.{◌≡◌, arith}
use Rattle.histories.specs.History.{one_if}
use Rattle.netlist.specs.Runs.{Always}
use Rattle.net_parts.specs.Laws.{if_ok, adds_fewer, adds_twice}
use Rattle.net_parts.specs.Refusing.{handed_on}
use Rattle.mm_route.specs.Decoder.{held_in, asked_lasts}
use Rattle.mm_route.proofs.Decoding.{kind_held}
use Rattle.mm_route.proofs.decoder.hit.Goals as goal

pub of_kind-requires-clause-asked : goal.of_kind-requires-clause-asked
of_kind-requires-clause-asked c = asked_lasts _ _ _ c.is_inside.ensures.adds.grows.extends c.requires.asked

pub returns-clause-value : goal.returns-clause-value
returns-clause-value c =
    if_ok c.of_kind.result _ (λ held. Always c.of_kind.new.builder (λ cycle. cycle.net held.number ≡ one_if (held_in cycle c.args.asked.now c.args.entry.now)))
    (λ held value cycle v. kind_held c.args.entry.now (cycle.net c.args.asked.now.write.number) (cycle.net c.args.asked.now.address.number) (cycle.net c.in_ok-inside.inside.number) (cycle.net held.number) (c.in_ok-inside.ensures.value cycle (c.of_kind.ensures.adds.grows.extends.valuations cycle v)) (value cycle v)) c.of_kind.ensures.value

pub returns-in_err-inside-clause-adds : goal.returns-in_err-inside-clause-adds
returns-in_err-inside-clause-adds c = adds_fewer _ _ _ _ (omega arith) c.is_inside.ensures.adds

pub returns-in_err-inside-clause-full : goal.returns-in_err-inside-clause-full
returns-in_err-inside-clause-full c e = let full = c.is_inside.ensures.full (handed_on _ _ _ _ c.in_err-inside.was c.from_residual.ensures.1 e) in omega (arith, full)

pub returns-clause-adds : goal.returns-clause-adds
returns-clause-adds c = adds_fewer _ _ _ _ (omega arith) (adds_twice _ _ _ _ _ c.is_inside.ensures.adds c.of_kind.ensures.adds)

pub returns-clause-full : goal.returns-clause-full
returns-clause-full c e = let most = c.is_inside.ensures.adds.most in let full = c.of_kind.ensures.full e in omega (arith, most, full)

pub returns-clause-net : goal.returns-clause-net
returns-clause-net c = c.of_kind.ensures.net
