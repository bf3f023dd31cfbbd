use Rattle.std.proofs.Common.{sym, ◌∙◌, arith}
use Rattle.netlist.specs.Runs.{cycle_of}
use Rattle.net_parts.specs.Bits.{chosen_high}
use Rattle.net_parts.specs.Laws.{bit_fits, adds_grow, grows_fewer, grows_twice}
use Rattle.net_parts.specs.RowLaws.{place_lasts}
use Rattle.net_parts.proofs.places.load_place.Goals as goal

pub set_next_place-requires : goal.set_next_place-requires
set_next_place-requires g c =
    let more = c.choose_place.ensures.adds.grows in (
      (let few = c.requires.few in omega arith),
      (
        c.requires.few,
        (place_lasts _ _ _ more.extends c.requires.place, (λ n o. more.waits n (c.requires.wait n o), (c.requires.numbers, (c.in_ok-taken.ensures.place, sym (c.in_ok-taken.ensures.widths ∙ c.requires.widths))))),
      ),
    )

pub returns-clause-value : goal.returns-clause-value
returns-clause-value g c run cycles r n lt =
    let v2 = (c.set_next_place.ensures.grows.extends.runs run cycles r).valuations n (omega arith) in
    let v1 = c.choose_place.ensures.adds.grows.extends.valuations (cycle_of run n) v2 in
    c.set_next_place.ensures.value run cycles r n lt ∙ c.in_ok-taken.ensures.chosen (cycle_of run n) v2 ∙ chosen_high (run.net n c.args.loads.number) _ _ (bit_fits _ _ c.requires.loads (cycle_of run n) v1)

pub returns-clause-grows : goal.returns-clause-grows
returns-clause-grows g c = grows_fewer _ _ _ _ (omega arith) (grows_twice _ _ _ _ _ (adds_grow _ _ _ c.choose_place.ensures.adds) c.set_next_place.ensures.grows)

pub returns-clause-no_more_wait : goal.returns-clause-no_more_wait
returns-clause-no_more_wait g c n w =
    let set = c.set_next_place.ensures.no_more_wait n w in
    (c.choose_place.ensures.adds.grows.no_more_wait n set.0, set.1)
