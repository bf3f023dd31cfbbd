use Rattle.std.proofs.Common.{◌≡◌, ◌+◌, List, [], ◌∷◌, ◌++◌, take, sym, subst, ap, ◌∙◌, arith}
use Rattle.std.proofs.lemmas.List.{take_more}
use Rattle.netlist.specs.Nets.{NetValue}
use Rattle.net_parts.specs.Groups.{AreNets, group_widths, nets_last}
use Rattle.item_queues.proofs.Shifts.{ItemShown, shown_more, shown_grows, place_at}
use Rattle.item_queues.proofs.places.choose_held.Goals as goal

pub choose_counted-requires : goal.choose_counted-requires
choose_counted-requires g c =
    let more = c.loop-k.invariant.adds.grows.extends in
    let at = subst (λ (place : List NetValue). AreNets c.args.builder.now place × (group_widths place ≡ group_widths c.args.first.now)) (sym c.index-rest-k.is)
    (place_at c.args.builder.now c.args.first.now c.requires.rest.start c.args.rest.now c.loop-k.k c.index-rest-k.result c.requires.rest.from_start (omega arith)) in (
      (let few = c.requires.few_nets in omega arith),
      (
        c.requires.few_nets,
        (
          more.nets _ _ c.requires.count,
          (
            (let wide = c.requires.wide in omega (arith, wide)),
            (
              nets_last _ _ _ more at.0,
              (c.loop-k.invariant.nets, at.1 ∙ sym c.loop-k.invariant.widths),
            ),
          ),
        ),
      ),
    )

pub returns-in_err-shown-clause-adds : goal.returns-in_err-shown-clause-adds
returns-in_err-shown-clause-adds g c = shown_grows _ _ _ _ _ _ _ _ _ _ c.loop-k.invariant c.choose_counted.ensures.adds (omega arith)

pub loop-k-preserved : goal.loop-k-preserved
loop-k-preserved g c =
    let at = subst (λ (place : List NetValue). AreNets c.args.builder.now place × (group_widths place ≡ group_widths c.args.first.now)) (sym c.index-rest-k.is)
    (place_at c.args.builder.now c.args.first.now c.requires.rest.start c.args.rest.now c.loop-k.k c.index-rest-k.result c.requires.rest.from_start (omega arith)) in
    let split : take (c.loop-k.k + 1) c.args.rest.now ≡ take c.loop-k.k c.args.rest.now ++ c.index-rest-k.result ∷ [] =
    take_more c.args.rest.now c.loop-k.k c.index-rest-k.result (omega arith) ∙ ap (λ (place : List NetValue). take c.loop-k.k c.args.rest.now ++ place ∷ []) (sym c.index-rest-k.is) in
    subst (λ (rest : List (List NetValue)). ItemShown c.args.builder.now c.choose_counted.new.builder c.args.count c.args.first.now rest c.in_ok-shown.shown (g.row.N + 2) (c.loop-k.k + 1)) (sym split)
    (shown_more c.args.builder.now c.loop-k.builder c.choose_counted.new.builder c.args.count c.args.first.now c.index-rest-k.result (take c.loop-k.k c.args.rest.now) c.loop-k.shown c.in_ok-shown.shown (g.row.N + 2) c.loop-k.k (c.loop-k.k + 2) c.loop-k.invariant (omega arith)
    c.in_ok-shown.ensures.nets c.in_ok-shown.ensures.widths at.1 c.choose_counted.ensures.adds c.in_ok-shown.ensures.value)
