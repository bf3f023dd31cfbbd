use Rattle.std.proofs.Common.{◌≡◌, ℕ, ◌+◌, ◌-◌, ◌^◌, ◌<◌, ◌≤◌, List, ◌∷◌, length, take, subst, sym, ap, ◌∙◌, arith}
use Rattle.netlist.specs.Nets.{NetValue}
use Rattle.netlist.specs.Runs.{Always}
use Rattle.net_parts.specs.Groups.{values_of}
use Rattle.net_parts.specs.Laws.{if_ok, net_fits}
use Rattle.item_queues.specs.declared.storage.Storage.{Storage}
use Rattle.item_queues.specs.Places.{ArePlacesFrom, values_in, item_in}
use Rattle.item_queues.specs.Memories.{item_at}
use Rattle.item_queues.specs.Storages.{IsStorage, held_of, shown_oldest}
use Rattle.item_queues.proofs.Shifts.{places_like}
use Rattle.item_queues.proofs.Steps.{newest_shown, first_shown}
use Rattle.item_queues.proofs.storage.oldest_item.Goals as goal

pub choose_held-requires : goal.choose_held-requires
choose_held-requires g c =
    let same : c.from.result ≡ c.args.bound = omega arith in
    let row : take c.args.bound c.in-InRegisters.places ≡ c.in-Some.first.now ∷ c.in-Some.rest.now = ap (λ k. take k c.in-InRegisters.places) (sym same) ∙ c.in-Some.ensures.cases.0 in
    let h = subst (λ (storage : Storage g.row.N). IsStorage c.args.builder.now c.args.like.now c.args.bound storage) c.in-InRegisters.is c.requires.storage in
    let start = h.places.start in
    let places = subst (λ (places : List (List NetValue)). ArePlacesFrom c.args.builder.now c.args.like.now start places) row h.places.from_start in
    let count = h.count_is in
    let few = h.few in
    let wide = c.requires.wide in
    let more = ap (length {A = List NetValue}) row in
    let rest : length c.in-Some.rest.now + 1 ≡ c.args.bound = omega (arith, count, more) in (
      (let few_nets = c.requires.few_nets in omega arith),
      (
        c.requires.few_nets,
        (
          c.requires.count,
          (
            omega (arith, rest, few),
            (
              subst (λ k. k < 2 ^ c.args.count.width) (sym rest) wide,
              (places.0.nets, record { start = start + length c.in-Some.first.now; from_start = places_like _ _ _ _ _ (sym places.0.widths) places.1 }),
            ),
          ),
        ),
      ),
    )

pub returns-in-Some-clause-value : goal.returns-in-Some-clause-value
returns-in-Some-clause-value g c =
    let same : c.from.result ≡ c.args.bound = omega arith in
    let row : take c.args.bound c.in-InRegisters.places ≡ c.in-Some.first.now ∷ c.in-Some.rest.now = ap (λ k. take k c.in-InRegisters.places) (sym same) ∙ c.in-Some.ensures.cases.0 in
    if_ok c.choose_held.result _ (λ made. Always c.choose_held.new.builder (λ cycle. 1 ≤ cycle.net c.args.count.number → (coming : List ℕ) → shown_oldest (held_of cycle c.args.bound (cycle.net c.args.count.number) c.args.storage.now) coming ≡ 1 ∷ values_of cycle made))
    (λ made value cycle v some coming.
    subst (λ (storage : Storage g.row.N). shown_oldest (held_of cycle c.args.bound (cycle.net c.args.count.number) storage) coming ≡ 1 ∷ values_of cycle made) (sym c.in-InRegisters.is)
    (newest_shown (values_in cycle (take c.args.bound c.in-InRegisters.places)) (cycle.net c.args.count.number) (values_of cycle made) coming some
    (value cycle v some ∙ ap (λ (places : List (List NetValue)). item_in (values_in cycle places) (cycle.net c.args.count.number - 1)) (sym row))))
    c.choose_held.ensures.value

pub returns-in-InMemories-clause-value : goal.returns-in-InMemories-clause-value
returns-in-InMemories-clause-value g c =
    let h = subst (λ (storage : Storage g.row.N). IsStorage c.args.builder.now c.args.like.now c.args.bound storage) c.in-InMemories.is c.requires.storage in
    if_ok c.read_item.result _ (λ made. Always c.read_item.new.builder (λ cycle. 1 ≤ cycle.net c.args.count.number → (coming : List ℕ) → shown_oldest (held_of cycle c.args.bound (cycle.net c.args.count.number) c.args.storage.now) coming ≡ 1 ∷ values_of cycle made))
    (λ made value cycle v some coming.
    subst (λ (storage : Storage g.row.N). shown_oldest (held_of cycle c.args.bound (cycle.net c.args.count.number) storage) coming ≡ 1 ∷ values_of cycle made) (sym c.in-InMemories.is)
    (first_shown (item_at cycle c.in-InMemories.stored.memories) (2 ^ c.in-InMemories.stored.pointers.first.width) (cycle.net c.in-InMemories.stored.pointers.first.number) (cycle.net c.args.count.number) (values_of cycle made) coming some
    (net_fits c.args.builder.now c.in-InMemories.stored.pointers.first h.pointers.first_net cycle (c.read_item.ensures.adds.grows.extends.valuations cycle v)) (value cycle v)))
    c.read_item.ensures.value
