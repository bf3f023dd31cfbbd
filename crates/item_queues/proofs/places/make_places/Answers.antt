use Rattle.std.proofs.Common.{◌≡◌, ◌+◌, List, length-set, take, sym, subst, arith}
use Rattle.std.proofs.lemmas.List.{take_more_set}
use Rattle.netlist.specs.Nets.{NetValue}
use Rattle.net_parts.specs.Groups.{nets_last}
use Rattle.item_queues.specs.Places.{InPlaces}
use Rattle.item_queues.proofs.Shifts.{PlacesMade, made_more, made_grows, places_between}
use Rattle.item_queues.proofs.places.make_places.Goals as goal

pub low_registers-requires : goal.low_registers-requires
low_registers-requires g c = ((let few = c.requires.few_nets in omega arith), nets_last _ _ _ c.loop-k.invariant.0.grows.extends c.requires.like)

pub returns-in_err-made-clause-grows : goal.returns-in_err-made-clause-grows
returns-in_err-made-clause-grows g c = made_grows _ _ _ _ _ _ _ _ c.loop-k.invariant.0 c.low_registers.ensures.grows (omega arith)

pub loop-k-preserved : goal.loop-k-preserved
loop-k-preserved g c =
    let made = c.in_ok-made.ensures in (
      subst (λ (row : List (List NetValue)). PlacesMade c.args.builder.now c.low_registers.new.builder c.args.like.now g.row.N row (c.loop-k.k + 1)) (sym (take_more_set c.loop-k.made c.loop-k.k c.in_ok-made.field-0 (omega arith)))
          (made_more c.args.builder.now c.loop-k.builder c.low_registers.new.builder c.args.like.now g.row.N (take c.loop-k.k c.loop-k.made) c.loop-k.k c.in_ok-made.field-0 (omega arith) c.loop-k.invariant.0
          made.nets made.widths made.numbers made.count made.waits c.low_registers.ensures.grows c.low_registers.ensures.still_wait made.newly),
      (let same = length-set c.loop-k.made c.loop-k.k c.in_ok-made.field-0 in omega (arith, same)),
    )

pub returns-clause-owned : goal.returns-clause-owned
returns-clause-owned g c n o =
    let all : c.loop-k.k ≡ c.args.count = omega arith in
    places_between _ _ _ _ _ _ (omega arith) c.loop-k.invariant.0 n (subst (λ k. InPlaces (take k c.loop-k.made) n) (sym all) o)
