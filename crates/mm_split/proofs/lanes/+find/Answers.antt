use Rattle.std.proofs.Common.{◌-◌, arith, refl}
use Rattle.netlist.specs.Runs.{Always}
use Rattle.mm_split.proofs.Outcomes.{both_ok}
use Rattle.mm_split.specs.Pieces.{is_marked, AreFound}
use Rattle.mm_split.specs.Searches.{search_lasts}
use Rattle.mm_split.proofs.Marks.{count_most, first_found, more_found}
use Rattle.mm_split.proofs.lanes.+find.Goals as goal

pub look_at-requires-clause-search : goal.look_at-requires-clause-search
look_at-requires-clause-search t c = search_lasts _ _ _ c.constant.ensures.adds.grows.extends c.requires.search

pub returns-then-count-eq1-clause-value : goal.returns-then-count-eq1-clause-value
returns-then-count-eq1-clause-value t c =
    both_ok c.look_at.result _ _ (λ made. Always c.look_at.new.builder (λ cycle. AreFound (cycle.net c.args.search.now.mask.number) (cycle.net c.args.search.now.place.number) c.args.count (cycle.net made.here.number) (cycle.net made.count.number)))
    (λ made here count cycle v. (
    let none = c.in_ok-none.ensures.value cycle (c.look_at.ensures.adds.grows.extends.valuations cycle v) in
    first_found (cycle.net c.args.search.now.mask.number) (cycle.net c.args.search.now.place.number) c.args.count (cycle.net c.in_ok-none.none.number) (cycle.net made.here.number) (cycle.net made.count.number) c.if-count-eq1.true none (here cycle v) (count cycle v)))
    c.look_at.ensures.here c.look_at.ensures.count

pub look_at-requires-2-clause-search : goal.look_at-requires-2-clause-search
look_at-requires-2-clause-search t c = search_lasts _ _ _ c.find.ensures.adds.grows.extends c.requires.search

pub look_at-requires-2-clause-small : goal.look_at-requires-2-clause-small
look_at-requires-2-clause-small t c cycle v =
    let count = (c.in_ok-below.ensures.value cycle v).count_is in
    let most = count_most (is_marked (cycle.net c.args.search.now.mask.number)) (c.args.count - 1) in
    let few = c.requires.few in
    omega (arith, count, most, few)

pub returns-clause-value : goal.returns-clause-value
returns-clause-value t c cycle v =
    let v1 = c.concat.ensures.extends.valuations cycle v in
    let v0 = c.look_at-2.ensures.adds.grows.extends.valuations cycle v1 in
    let below = c.in_ok-below.ensures.value cycle v0 in
    let found =
    more_found (cycle.net c.args.search.now.mask.number) (cycle.net c.args.search.now.place.number) c.args.count c.in_ok-below.below.here.width
    (cycle.net c.in_ok-below.below.here.number) (cycle.net c.in_ok-below.below.count.number) (cycle.net c.in_ok-next.next.here.number) (cycle.net c.in_ok-next.next.count.number) _
    c.requires.some c.in_ok-below.ensures.here_net.has_width below (c.in_ok-next.ensures.here cycle v1) (c.in_ok-next.ensures.count cycle v1) refl in
    record { here_is = let is = found.here_is in let here = (c.in_ok-here.ensures.value cycle v).1 in cc; count_is = found.count_is }
