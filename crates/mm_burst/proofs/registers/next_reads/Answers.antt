use Rattle.std.proofs.Common.{◌≡◌, not, if◌then◌else◌, ap, ◌∙◌, arith}
use Rattle.histories.specs.History.{is_raised, one_if}
use Rattle.netlist.specs.Runs.{Always}
use Rattle.net_parts.specs.Laws.{if_ok, bit_fits, adds_fewer, adds_twice}
use Rattle.command_nets.specs.Levels.{level_is}
use Rattle.net_parts.specs.Refusing.{handed_on}
use Rattle.mm_burst.proofs.registers.next_reads.Goals as goal

pub returns-clause-value : goal.returns-clause-value
returns-clause-value c =
    if_ok c.pick.result _ (λ made. Always c.pick.new.builder (λ cycle. cycle.net made.number ≡ (if is_raised (cycle.net c.args.taken.number) then one_if (not (is_raised (cycle.net c.args.writes.number))) else cycle.net c.args.held.number)))
    (λ made value cycle v. (
    let v0 = c.pick.ensures.adds.grows.extends.valuations cycle v in
    let reads = level_is (cycle.net c.in_ok-reads.reads.number) (bit_fits _ _ c.in_ok-reads.ensures.net cycle v0) ∙ ap one_if (c.in_ok-reads.ensures.value cycle v0) in
    value cycle v ∙ ap (λ n. if is_raised (cycle.net c.args.taken.number) then n else cycle.net c.args.held.number) reads))
    c.pick.ensures.value

pub returns-in_err-reads-clause-adds : goal.returns-in_err-reads-clause-adds
returns-in_err-reads-clause-adds c = adds_fewer _ _ _ _ (omega arith) c.turned.ensures.adds

pub returns-in_err-reads-clause-full : goal.returns-in_err-reads-clause-full
returns-in_err-reads-clause-full c e =
    let full = c.turned.ensures.full (handed_on _ _ _ _ c.in_err-reads.was c.from_residual.ensures.1 e) in
    omega (arith, full)

pub returns-clause-adds : goal.returns-clause-adds
returns-clause-adds c = adds_fewer _ _ _ _ (omega arith) (adds_twice _ _ _ _ _ c.turned.ensures.adds c.pick.ensures.adds)

pub returns-clause-full : goal.returns-clause-full
returns-clause-full c e =
    let most0 = c.turned.ensures.adds.most in
    let full = c.pick.ensures.full e in
    omega (arith, most0, full)
