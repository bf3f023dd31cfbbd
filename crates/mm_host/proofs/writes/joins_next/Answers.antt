use Rattle.std.proofs.Common.{◌≡◌, not, ◌&&◌, nat_eq, if◌then◌else◌, ap, ◌∙◌, arith, sym}
use Rattle.histories.specs.History.{is_raised, one_if}
use Rattle.netlist.specs.Runs.{Always}
use Rattle.net_parts.specs.Laws.{bit_fits, extends_twice, net_lasts, adds_fewer, adds_twice, grows_once}
use Rattle.command_nets.specs.Levels.{level_is, one_fits}
use Rattle.mm_host.proofs.Levels.{raised_if, if_both}
use Rattle.net_parts.specs.Refusing.{handed_on}
use Rattle.mm_host.proofs.writes.joins_next.Goals as goal

pub constant-requires-clause-fits : goal.constant-requires-clause-fits
constant-requires-clause-fits c = one_fits _ c.requires.some

pub returns-clause-value : goal.returns-clause-value
returns-clause-value c =
    if_both c.unless.result _ _ (λ more. Always c.unless.new.builder (λ cycle. cycle.net more.number ≡ one_if (is_raised (cycle.net c.args.write.number) && not (nat_eq (cycle.net c.args.beats.number) 1))))
    (λ more net value cycle v. (
    let v1 = c.unless.ensures.adds.grows.extends.valuations cycle v in
    let ends = (c.in_ok-ends.ensures.value cycle v1).1 in
    let one = c.in_ok-one.ensures.value cycle (c.eq.ensures.extends.valuations cycle v1) in
    level_is _ (bit_fits _ _ net cycle v) ∙ ap one_if (value cycle v ∙ ap (λ t. is_raised (cycle.net c.args.write.number) && not t)
    (ap is_raised (ends ∙ ap (λ n. if nat_eq (cycle.net c.args.beats.number) n then 1 else 0) one) ∙ raised_if (nat_eq (cycle.net c.args.beats.number) 1)))))
    c.unless.ensures.net c.unless.ensures.value

pub eq-requires-clause-a_is : goal.eq-requires-clause-a_is
eq-requires-clause-a_is c = c.constant.ensures.adds.grows.extends.nets _ _ c.requires.beats.is_net

pub eq-requires-clause-b_is : goal.eq-requires-clause-b_is
eq-requires-clause-b_is c = c.in_ok-one.ensures.net.is_net

pub eq-requires-clause-widths : goal.eq-requires-clause-widths
eq-requires-clause-widths c = c.requires.beats.has_width ∙ sym c.in_ok-one.ensures.net.has_width

pub unless-requires-clause-a : goal.unless-requires-clause-a
unless-requires-clause-a c = net_lasts _ _ _ _ (extends_twice _ _ _ c.constant.ensures.adds.grows.extends c.eq.ensures.extends) c.requires.write

pub unless-requires-clause-b : goal.unless-requires-clause-b
unless-requires-clause-b c = record { is_net = c.in_ok-ends.ensures.net.0; has_width = c.in_ok-ends.ensures.net.1 }

pub returns-clause-net : goal.returns-clause-net
returns-clause-net c = c.unless.ensures.net

pub returns-in_err-one-clause-adds : goal.returns-in_err-one-clause-adds
returns-in_err-one-clause-adds c = adds_fewer _ _ _ _ (omega arith) c.constant.ensures.adds

pub returns-in_err-one-clause-full : goal.returns-in_err-one-clause-full
returns-in_err-one-clause-full c e = let full = c.constant.ensures.full (handed_on _ _ _ _ c.in_err-one.was c.from_residual.ensures.1 e) in omega (arith, full)

pub returns-in_err-ends-clause-adds : goal.returns-in_err-ends-clause-adds
returns-in_err-ends-clause-adds c = adds_fewer _ _ _ _ (omega arith) (adds_twice _ _ _ _ _ c.constant.ensures.adds (grows_once _ _ c.eq.ensures.extends c.eq.ensures.grows))

pub returns-in_err-ends-clause-full : goal.returns-in_err-ends-clause-full
returns-in_err-ends-clause-full c e =
    let most0 = c.constant.ensures.adds.most in
    let full = c.eq.ensures.full.0 (handed_on _ _ _ _ c.in_err-ends.was c.from_residual-in_err-ends.ensures.1 e) in
    omega (arith, most0, full)

pub returns-clause-adds : goal.returns-clause-adds
returns-clause-adds c = adds_fewer _ _ _ _ (omega arith) (adds_twice _ _ _ _ _ (adds_twice _ _ _ _ _ c.constant.ensures.adds (grows_once _ _ c.eq.ensures.extends c.eq.ensures.grows)) c.unless.ensures.adds)

pub returns-clause-full : goal.returns-clause-full
returns-clause-full c e =
    let most0 = c.constant.ensures.adds.most in
    let most1 = c.eq.ensures.grows.most in
    let full = c.unless.ensures.full e in
    omega (arith, most0, most1, full)
