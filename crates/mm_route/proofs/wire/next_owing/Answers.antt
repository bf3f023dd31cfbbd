use Rattle.std.proofs.Common.{◌≡◌, ◌||◌, sym, ap, ◌∙◌, arith}
use Rattle.histories.specs.History.{is_raised}
use Rattle.netlist.specs.Runs.{Always}
use Rattle.net_parts.specs.Laws.{if_ok, adds_fewer, adds_twice, net_lasts}
use Rattle.net_parts.specs.Refusing.{handed_on}
use Rattle.mm_route.specs.Taken.{reads_in}
use Rattle.mm_route.specs.Wire.{read_taken}
use Rattle.mm_route.proofs.wire.next_owing.Goals as goal

pub returns-clause-value : goal.returns-clause-value
returns-clause-value c =
    if_ok c.owes_on.result _ (λ next. Always c.owes_on.new.builder (λ cycle. is_raised (cycle.net next.number) ≡ (is_raised (cycle.net c.args.wire.now.owing.number) || reads_in cycle c.args.wire.now.command c.args.wait)))
    (λ next value cycle v. (
    let taken = c.in_ok-taken.ensures.value cycle (c.owes_on.ensures.adds.grows.extends.valuations cycle v) in
    value cycle v ∙ ap (λ t. is_raised (cycle.net c.args.wire.now.owing.number) || t) (taken ∙ sym (read_taken cycle c.args.wire.now.command c.args.wait))))
    c.owes_on.ensures.value

pub returns-in_err-taken-clause-adds : goal.returns-in_err-taken-clause-adds
returns-in_err-taken-clause-adds c = adds_fewer _ _ _ _ (omega arith) c.unless.ensures.adds

pub returns-in_err-taken-clause-full : goal.returns-in_err-taken-clause-full
returns-in_err-taken-clause-full c e = let full = c.unless.ensures.full (handed_on _ _ _ _ c.in_err-taken.was c.from_residual.ensures.1 e) in omega (arith, full)

pub returns-clause-adds : goal.returns-clause-adds
returns-clause-adds c = adds_fewer _ _ _ _ (omega arith) (adds_twice _ _ _ _ _ c.unless.ensures.adds c.owes_on.ensures.adds)

pub returns-clause-full : goal.returns-clause-full
returns-clause-full c e = let most = c.unless.ensures.adds.most in let full = c.owes_on.ensures.full e in omega (arith, most, full)

pub unless-requires-clause-a : goal.unless-requires-clause-a
unless-requires-clause-a c = c.requires.command.read

pub owes_on-requires-clause-owing : goal.owes_on-requires-clause-owing
owes_on-requires-clause-owing c = net_lasts _ _ _ 1 c.unless.ensures.adds.grows.extends c.requires.owing

pub owes_on-requires-clause-taken : goal.owes_on-requires-clause-taken
owes_on-requires-clause-taken c = c.in_ok-taken.ensures.net

pub returns-clause-net : goal.returns-clause-net
returns-clause-net c = c.owes_on.ensures.net
