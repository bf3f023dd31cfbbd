use Rattle.std.proofs.Common.{sym, ◌∙◌, arith}
use Rattle.netlist.specs.Runs.{cycle_of}
use Rattle.net_parts.specs.Bits.{chosen_high}
use Rattle.net_parts.specs.Groups.{nets_last}
use Rattle.net_parts.specs.Laws.{bit_fits}
use Rattle.item_queues.proofs.places.shift_place.Goals as goal

pub set_all_next-requires : goal.set_all_next-requires
set_all_next-requires g c =
    let more = c.choose_all.ensures.adds.grows in
    let waits = c.requires.waits in (
      (let few = c.requires.few_nets in omega arith),
      (
        nets_last _ _ _ more.extends c.requires.place,
        (
          record { start = waits.start; numbers = waits.numbers; wait = λ n o. more.waits n (waits.wait n o) },
          (c.in_ok-taken.ensures.nets, c.requires.widths ∙ sym c.in_ok-taken.ensures.widths),
        ),
      ),
    )

pub returns-clause-value : goal.returns-clause-value
returns-clause-value g c run cycles r n lt =
    let v2 = (c.set_all_next.ensures.grows.extends.runs run cycles r).valuations n (omega arith) in
    let v1 = c.choose_all.ensures.adds.grows.extends.valuations (cycle_of run n) v2 in
    c.set_all_next.ensures.value run cycles r n lt ∙ c.in_ok-taken.ensures.chosen (cycle_of run n) v2 ∙ chosen_high (run.net n c.args.comes.number) _ _ (bit_fits _ _ c.requires.comes (cycle_of run n) v1)
