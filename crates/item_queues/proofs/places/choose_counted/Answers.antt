use Rattle.std.proofs.Common.{◌≡◌, ◌==◌, if◌then◌else◌, ap, ◌∙◌, refl, arith}
use Rattle.netlist.specs.Runs.{Always}
use Rattle.net_parts.specs.Groups.{values_of, nets_last}
use Rattle.net_parts.specs.Laws.{extends_twice, if_ok}
use Rattle.item_queues.proofs.Shifts.{chosen_here}
use Rattle.item_queues.proofs.places.choose_counted.Goals as goal

pub choose_all-requires : goal.choose_all-requires
choose_all-requires g c =
    let later = extends_twice _ _ _ c.constant.ensures.adds.grows.extends c.eq.ensures.extends in (
      (let few = c.requires.few_nets in omega arith),
      (
        record { is_net = c.in_ok-here.ensures.net.0; has_width = c.in_ok-here.ensures.net.1 },
        (nets_last _ _ _ later c.requires.place, (nets_last _ _ _ later c.requires.other, c.requires.widths)),
      ),
    )

pub returns-clause-value : goal.returns-clause-value
returns-clause-value g c =
    if_ok c.choose_all.result _ (λ made. Always c.choose_all.new.builder (λ cycle. values_of cycle made ≡ (if cycle.net c.args.count.number == c.args.number then values_of cycle c.args.place.now else values_of cycle c.args.other.now)))
    (λ made chosen cycle v3. (
    let v2 = c.choose_all.ensures.adds.grows.extends.valuations cycle v3 in
    let v1 = c.eq.ensures.extends.valuations cycle v2 in
    chosen_here (cycle.net c.args.count.number == c.args.number) c.args.number (cycle.net c.args.count.number) (cycle.net c.in_ok-here.here.number) _ _ _ refl
    ((c.in_ok-here.ensures.value cycle v2).1 ∙ ap (λ k. if cycle.net c.args.count.number == k then 1 else 0) (c.in_ok-limit.ensures.value cycle v1)) (chosen cycle v3)))
    c.choose_all.ensures.chosen
