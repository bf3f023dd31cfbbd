use Rattle.std.proofs.Common.{◌≡◌, ◌-◌, ◌==◌, if◌then◌else◌, ◌∙◌, ap}
use Rattle.netlist.specs.Runs.{Always}
use Rattle.net_parts.specs.Laws.{if_ok}
use Rattle.stage_core.specs.Groups.{shown_in}
use Rattle.st_windows.specs.Cuts.{cut_of, rest_at, chosen_at}
use Rattle.st_windows.specs.Rows.{shown_left, held_few}
use Rattle.st_windows.proofs.rows.leave_row.Goals as goal

pub returns-clause-value : goal.returns-clause-value
returns-clause-value c =
    if_ok c.hold_few.result _ (λ made. Always c.hold_few.new.builder (λ cycle. shown_in cycle made ≡ held_few c.args.sizes.now (shown_left c.args.sizes.now (shown_in cycle c.args.row.now) (if cycle.net c.args.alone.number == 1 then cut_of c.args.sizes.now.bits c.args.sizes.now.held c.args.sizes.now.into c.args.sizes.now.held (cycle.net c.args.held.now.word.number) else chosen_at (cycle.net c.args.held.now.empty.number) (rest_at c.args.sizes.now.bits c.args.sizes.now.from c.args.sizes.now.into c.args.sizes.now.held (cycle.net c.args.from.now.word.number)) (c.args.sizes.now.into - 1)) (if cycle.net c.args.alone.number == 1 then cycle.net c.args.held.now.error.number else cycle.net c.args.from.now.error.number))))
    (λ made value cycle v. value cycle v ∙ ap (held_few c.args.sizes.now) (c.in_ok-rest.ensures.value cycle (c.hold_few.ensures.adds.grows.extends.valuations cycle v)))
    c.hold_few.ensures.value
