use Rattle.std.proofs.Common.{◌≡◌, arith}
use Rattle.histories.specs.History.{is_raised}
use Rattle.netlist.specs.Runs.{Always}
use Rattle.net_parts.specs.Laws.{if_ok, adds_fewer, adds_twice}
use Rattle.net_parts.specs.Refusing.{handed_on}
use Rattle.mm_select.specs.SelectNets.{is_asked}
use Rattle.mm_select.proofs.select.asks_now.Goals as goal

pub returns-in_err-reads-clause-adds : goal.returns-in_err-reads-clause-adds
returns-in_err-reads-clause-adds c =
    adds_fewer _ _ _ _ (omega arith) c.unless.ensures.adds

pub returns-in_err-reads-clause-full : goal.returns-in_err-reads-clause-full
returns-in_err-reads-clause-full c e =
    let full = c.unless.ensures.full (handed_on _ _ _ _ c.in_err-reads.was c.from_residual.ensures.1 e) in
    omega (arith, full)

pub returns-clause-adds : goal.returns-clause-adds
returns-clause-adds c =
    adds_fewer _ _ _ _ (omega arith) (adds_twice _ _ _ _ _ c.unless.ensures.adds c.unless-2.ensures.adds)

pub returns-clause-full : goal.returns-clause-full
returns-clause-full c e =
    let most0 = c.unless.ensures.adds.most in
    let full = c.unless-2.ensures.full e in
    omega (arith, most0, full)

pub returns-clause-value : goal.returns-clause-value
returns-clause-value c =
    if_ok c.unless-2.result _ (λ asks. Always c.unless-2.new.builder (λ cycle. is_raised (cycle.net asks.number) ≡ is_asked cycle c.args.read c.args.write c.args.wait))
    (λ asks value cycle v2. (
    let reads = c.in_ok-reads.ensures.value cycle (c.unless-2.ensures.adds.grows.extends.valuations cycle v2) in
    let fact = value cycle v2 in cc))
    c.unless-2.ensures.value
