use Rattle.std.proofs.Common.{◌≡◌, if◌then◌else◌, ap₂, ◌∙◌}
use Rattle.histories.specs.History.{is_raised}
use Rattle.netlist.specs.Runs.{Always}
use Rattle.net_parts.specs.Laws.{if_ok}
use Rattle.command_nets.specs.Groups.{chosen_raised}
use Rattle.mm_split.specs.Pieces.{lane, is_marked}
use Rattle.mm_split.proofs.gather.fill_lane.Goals as goal

pub returns-clause-value : goal.returns-clause-value
returns-clause-value c =
    if_ok c.choose.result _ (λ net. Always c.choose.new.builder (λ cycle. cycle.net net.number ≡ (if is_marked (cycle.net c.args.gather.now.here.number) c.args.number then cycle.net c.args.gather.now.piece.number else lane c.args.bits (cycle.net c.args.gather.now.word.number) c.args.number)))
    (λ net value cycle v. (
    let v1 = c.choose.ensures.adds.grows.extends.valuations cycle v in
    let v0 = c.piece-2.ensures.adds.grows.extends.valuations cycle v1 in
    value cycle v ∙ chosen_raised (cycle.net c.in_ok-here.here.number) (cycle.net c.args.gather.now.piece.number) (cycle.net c.in_ok-kept.kept.number)
    ∙ ap₂ (λ x y. if is_raised x then cycle.net c.args.gather.now.piece.number else y) (c.in_ok-here.ensures.value cycle v0) (c.in_ok-kept.ensures.value cycle v1)))
    c.choose.ensures.value
