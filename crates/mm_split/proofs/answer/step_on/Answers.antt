use Rattle.std.proofs.Common.{◌≡◌, ◌+◌, ◌%◌, ◌^◌, if◌then◌else◌, ap, ◌∙◌, sym, arith}
use Rattle.histories.specs.History.{is_raised}
use Rattle.netlist.specs.Runs.{Always}
use Rattle.net_parts.specs.Laws.{if_ok, adds_twice, adds_fewer}
use Rattle.net_parts.specs.Refusing.{handed_on}
use Rattle.command_nets.specs.Levels.{one_fits}
use Rattle.mm_split.proofs.answer.step_on.Goals as goal

pub returns-in_err-next-clause-adds : goal.returns-in_err-next-clause-adds
returns-in_err-next-clause-adds c = adds_fewer _ _ _ _ (omega arith) (c.emit_word.ensures.adds)

pub returns-in_err-next-clause-full : goal.returns-in_err-next-clause-full
returns-in_err-next-clause-full c e =
    let full = c.emit_word.ensures.full (handed_on _ _ _ _ c.in_err-next.was c.from_residual.ensures.1 e) in
    omega (arith, full)

pub returns-clause-adds : goal.returns-clause-adds
returns-clause-adds c = adds_fewer _ _ _ _ (omega arith) (adds_twice _ _ _ _ _ c.emit_word.ensures.adds c.step.ensures.adds)

pub returns-clause-full : goal.returns-clause-full
returns-clause-full c e =
    let most0 = c.emit_word.ensures.adds.most in
    let full = c.step.ensures.full e in
    omega (arith, most0, full)

pub emit_word-requires : goal.emit_word-requires
emit_word-requires c =
    let wide = c.width.ensures.value in
    let bounds = c.width.ensures.bounds in
    (c.requires.register, (bounds.0, bounds.1, one_fits _ bounds.0), sym wide)

pub returns-clause-value : goal.returns-clause-value
returns-clause-value c =
    if_ok c.step.result _ (λ net. Always c.step.new.builder (λ cycle. cycle.net net.number ≡ (if is_raised (cycle.net c.args.clears.number) then 0 else if is_raised (cycle.net c.args.moves.number) then (cycle.net c.args.register.number + 1) % 2 ^ c.args.register.width else cycle.net c.args.register.number)))
    (λ net value cycle v. (
    let v0 = c.step.ensures.adds.grows.extends.valuations cycle v in
    value cycle v ∙ ap (λ x. if is_raised (cycle.net c.args.clears.number) then 0 else if is_raised (cycle.net c.args.moves.number) then x else cycle.net c.args.register.number) (c.in_ok-next.ensures.value cycle v0)))
    c.step.ensures.value
