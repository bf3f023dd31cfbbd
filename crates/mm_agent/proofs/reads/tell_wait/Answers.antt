use Rattle.std.proofs.Common.{◌||◌, ap, ◌∙◌, arith}
use Rattle.histories.specs.History.{is_raised}
use Rattle.net_parts.specs.Laws.{if_ok, net_lasts, adds_fewer, adds_twice}
use Rattle.mm_agent.specs.Reads.{TellsWait}
use Rattle.net_parts.specs.Refusing.{handed_on}
use Rattle.mm_agent.proofs.reads.tell_wait.Goals as goal

pub returns-clause-tells : goal.returns-clause-tells
returns-clause-tells c =
    if_ok c.either.result _ (TellsWait c.either.new.builder c.args.read c.args.full c.args.busy)
    (λ told value cycle v. value cycle v ∙ ap (λ t. t || is_raised (cycle.net c.args.busy.number)) (c.in_ok-shut.ensures.value cycle (c.either.ensures.adds.grows.extends.valuations cycle v)))
    c.either.ensures.value

pub returns-in_err-shut-clause-adds : goal.returns-in_err-shut-clause-adds
returns-in_err-shut-clause-adds c = adds_fewer _ _ _ _ (omega arith) c.both.ensures.adds

pub returns-in_err-shut-clause-full : goal.returns-in_err-shut-clause-full
returns-in_err-shut-clause-full c e = let full = c.both.ensures.full (handed_on _ _ _ _ c.in_err-shut.was c.from_residual.ensures.1 e) in omega (arith, full)

pub returns-clause-adds : goal.returns-clause-adds
returns-clause-adds c = adds_fewer _ _ _ _ (omega arith) (adds_twice _ _ _ _ _ c.both.ensures.adds c.either.ensures.adds)

pub returns-clause-full : goal.returns-clause-full
returns-clause-full c e =
    let most0 = c.both.ensures.adds.most in
    let full = c.either.ensures.full e in
    omega (arith, most0, full)

pub both-requires-clause-a : goal.both-requires-clause-a
both-requires-clause-a c = c.requires.full

pub both-requires-clause-b : goal.both-requires-clause-b
both-requires-clause-b c = c.requires.read

pub either-requires-clause-a : goal.either-requires-clause-a
either-requires-clause-a c = c.in_ok-shut.ensures.net

pub either-requires-clause-b : goal.either-requires-clause-b
either-requires-clause-b c = net_lasts _ _ _ _ c.both.ensures.adds.grows.extends c.requires.busy
