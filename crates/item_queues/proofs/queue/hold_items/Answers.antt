use Rattle.std.proofs.Common.{◌≡◌, ℕ, zero, suc, ◌<◌, List, [], ◌∷◌, length, Some, arith}
use Rattle.netlist.specs.declared.line.Line.{Line}
use Rattle.netlist.specs.Netlists.{width_at}
use Rattle.item_queues.proofs.queue.hold_items.Goals as goal

-- a net is one of the nets
net_within : (lines : List Line) (n w : ℕ) → width_at lines n ≡ Some w → n < length lines
net_within [] n w e = cc
net_within (line ∷ lines) zero w e = omega arith
net_within (line ∷ lines) (suc n) w e = let below = net_within lines n w e in omega arith

pub make_storage-requires : goal.make_storage-requires
make_storage-requires g c = (
  (let few = c.requires.few_nets in omega arith),
  (
    (let few = c.requires.few_nets in omega arith),
    (c.requires.some_net, (c.requires.few_nets, c.requires.like)),
  ),
)

pub returns-clause-made : goal.returns-clause-made
returns-clause-made g c = record {
  some = c.requires.some;
  count_net = c.make_storage.ensures.grows.extends.nets _ _ c.requires.count;
  wide = c.requires.wide;
  least = c.requires.least;
  storage = c.in_ok-storage.ensures.made;
  before = λ n o. (let own = c.in_ok-storage.ensures.owned n o in let within = net_within c.args.builder.now.lines c.args.count.number c.args.count.width c.requires.count in omega (arith, own.0, within));
}
