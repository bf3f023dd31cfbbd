use Rattle.std.proofs.Common.{◌∷◌, List, ap, sym, ◌∙◌, arith}
use Rattle.net_parts.specs.Groups.{nets_last, group_widths}
use Rattle.net_parts.specs.Laws.{bit_fits, extends_twice, adds_fewer, adds_twice, grows_once}
use Rattle.net_parts.specs.Refusing.{handed_on}
use Rattle.item_queues.specs.Storages.{storage_lasts}
use Rattle.item_queues.proofs.Counts.{shown_full}
use Rattle.item_queues.proofs.Steps.{shows_oldest}
use Rattle.item_queues.proofs.queue.show_oldest.Goals as goal

pub oldest_item-requires : goal.oldest_item-requires
oldest_item-requires g c = (
  (let few = c.requires.few_nets in omega arith),
  (
    (let few = c.requires.few_nets in omega arith),
    (
      c.requires.few_nets,
      (
        c.requires.queue.some,
        (
          c.any.ensures.extends.nets _ _ c.requires.queue.count_net,
          (c.requires.queue.wide, storage_lasts _ _ _ _ _ c.requires.queue.storage c.any.ensures.extends),
        ),
      ),
    ),
  ),
)

pub choose_all-requires : goal.choose_all-requires
choose_all-requires g c =
    let more = extends_twice _ _ _ c.any.ensures.extends c.oldest_item.ensures.adds.grows.extends in (
      (let few = c.requires.few_nets in omega arith),
      (
        record { is_net = c.oldest_item.ensures.adds.grows.extends.nets _ _ c.in_ok-some.ensures.net.0; has_width = c.in_ok-some.ensures.net.1 },
        (
          c.in_ok-oldest.ensures.nets,
          (
            nets_last _ _ _ more c.requires.coming.item,
            c.in_ok-oldest.ensures.widths,
          ),
        ),
      ),
    )

pub or-requires-clause-a_is : goal.or-requires-clause-a_is
or-requires-clause-a_is g c = (extends_twice _ _ _ c.oldest_item.ensures.adds.grows.extends c.choose_all.ensures.adds.grows.extends).nets _ _ c.in_ok-some.ensures.net.0

pub or-requires-clause-b_is : goal.or-requires-clause-b_is
or-requires-clause-b_is g c = (extends_twice _ _ _ c.any.ensures.extends (extends_twice _ _ _ c.oldest_item.ensures.adds.grows.extends c.choose_all.ensures.adds.grows.extends)).nets _ _ c.requires.coming.full.is_net

pub or-requires-clause-widths : goal.or-requires-clause-widths
or-requires-clause-widths g c = c.in_ok-some.ensures.net.1 ∙ sym c.requires.coming.full.has_width

pub returns-clause-place : goal.returns-clause-place
returns-clause-place g c = record {
  full = record { is_net = c.in_ok-full.ensures.net.0; has_width = c.in_ok-full.ensures.net.1 ∙ c.in_ok-some.ensures.net.1 };
  item = nets_last _ _ _ c.or.ensures.extends c.in_ok-item.ensures.nets;
}

pub returns-clause-widths : goal.returns-clause-widths
returns-clause-widths g c =
    ap (λ k. k ∷ group_widths c.in_ok-item.item) (c.in_ok-full.ensures.net.1 ∙ c.in_ok-some.ensures.net.1 ∙ sym c.requires.coming.full.has_width)
    ∙ ap (λ (ks : List _). c.args.coming.now.full.width ∷ ks) (c.in_ok-item.ensures.widths ∙ c.in_ok-oldest.ensures.widths)

pub returns-clause-value : goal.returns-clause-value
returns-clause-value g c cycle v3 =
    let v2 = c.or.ensures.extends.valuations cycle v3 in
    let v1 = c.choose_all.ensures.adds.grows.extends.valuations cycle v2 in
    let v0 = c.oldest_item.ensures.adds.grows.extends.valuations cycle v1 in
    let v = c.any.ensures.extends.valuations cycle v0 in
    let some = (c.in_ok-some.ensures.value cycle v0).1 in
    shows_oldest cycle c.args.queue.now.bound (cycle.net c.args.queue.now.count.number) c.args.queue.now.storage _ _ _ _ _ _ some
    (shown_full _ _ _ _ some (bit_fits _ _ c.requires.coming.full cycle v) (c.in_ok-full.ensures.value cycle v3).1)
    (c.in_ok-oldest.ensures.value cycle v1) (c.in_ok-item.ensures.chosen cycle v2)

pub returns-in_err-some-clause-adds : goal.returns-in_err-some-clause-adds
returns-in_err-some-clause-adds g c = adds_fewer _ _ _ _ (omega arith) (grows_once _ _ c.any.ensures.extends c.any.ensures.grows)

pub returns-in_err-oldest-clause-adds : goal.returns-in_err-oldest-clause-adds
returns-in_err-oldest-clause-adds g c = adds_fewer _ _ _ _ (omega arith) (adds_twice _ _ _ _ _ (grows_once _ _ c.any.ensures.extends c.any.ensures.grows) c.oldest_item.ensures.adds)

pub returns-in_err-item-clause-adds : goal.returns-in_err-item-clause-adds
returns-in_err-item-clause-adds g c = adds_fewer _ _ _ _ (omega arith) (adds_twice _ _ _ _ _ (adds_twice _ _ _ _ _ (grows_once _ _ c.any.ensures.extends c.any.ensures.grows) c.oldest_item.ensures.adds) c.choose_all.ensures.adds)

pub returns-in_err-full-clause-adds : goal.returns-in_err-full-clause-adds
returns-in_err-full-clause-adds g c =
    adds_fewer _ _ _ _ (omega arith) (adds_twice _ _ _ _ _ (adds_twice _ _ _ _ _ (adds_twice _ _ _ _ _ (grows_once _ _ c.any.ensures.extends c.any.ensures.grows) c.oldest_item.ensures.adds) c.choose_all.ensures.adds) (grows_once _ _ c.or.ensures.extends c.or.ensures.grows))

pub returns-clause-adds : goal.returns-clause-adds
returns-clause-adds g c =
    adds_fewer _ _ _ _ (omega arith) (adds_twice _ _ _ _ _ (adds_twice _ _ _ _ _ (adds_twice _ _ _ _ _ (grows_once _ _ c.any.ensures.extends c.any.ensures.grows) c.oldest_item.ensures.adds) c.choose_all.ensures.adds) (grows_once _ _ c.or.ensures.extends c.or.ensures.grows))

pub returns-in_err-some-clause-full : goal.returns-in_err-some-clause-full
returns-in_err-some-clause-full g c e = let full = c.any.ensures.full.0 (handed_on _ _ _ _ c.in_err-some.was c.from_residual.ensures.1 e) in omega (arith, full)

pub returns-in_err-oldest-clause-full : goal.returns-in_err-oldest-clause-full
returns-in_err-oldest-clause-full g c e =
    let most0 = c.any.ensures.grows.most in
    let full = c.oldest_item.ensures.full (handed_on _ _ _ _ c.in_err-oldest.was c.from_residual-in_err-oldest.ensures.1 e) in
    omega (arith, most0, full)

pub returns-in_err-item-clause-full : goal.returns-in_err-item-clause-full
returns-in_err-item-clause-full g c e =
    let most0 = c.any.ensures.grows.most in
    let most1 = c.oldest_item.ensures.adds.most in
    let full = c.choose_all.ensures.full (handed_on _ _ _ _ c.in_err-item.was c.from_residual-in_err-item.ensures.1 e) in
    omega (arith, most0, most1, full)

pub returns-in_err-full-clause-full : goal.returns-in_err-full-clause-full
returns-in_err-full-clause-full g c e =
    let most0 = c.any.ensures.grows.most in
    let most1 = c.oldest_item.ensures.adds.most in
    let most2 = c.choose_all.ensures.adds.most in
    let full = c.or.ensures.full.0 (handed_on _ _ _ _ c.in_err-full.was c.from_residual-in_err-full.ensures.1 e) in
    omega (arith, most0, most1, most2, full)

pub returns-clause-full : goal.returns-clause-full
returns-clause-full g c e = cc
