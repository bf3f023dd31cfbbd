use Rattle.std.proofs.Common.{◌≡◌, inl, inr}
use Rattle.net_parts.specs.Growth.{WaitsWithout}
use Rattle.net_parts.specs.Laws.{on_ok}
use Rattle.item_queues.specs.Steps.{MovesBy}
use Rattle.item_queues.specs.Registers.{owns_pointers, PointersGoOn}
use Rattle.item_queues.proofs.pointers.finish_pointers.Goals as goal

pub returns-clause-on : goal.returns-clause-on
returns-clause-on c =
    on_ok c.move_pointer-2.result (MovesBy c.move_pointer-2.new.builder c.args.pointers.next c.args.comes) (PointersGoOn c.move_pointer-2.new.builder c.args.pointers c.args.comes c.args.goes)
    (λ next. record { first = λ run cycles r. c.in_ok-move_pointer.ensures.value run cycles (c.move_pointer-2.ensures.grows.extends.runs run cycles r); next = next })
    c.move_pointer-2.ensures.value

pub returns-clause-no_more_wait : goal.returns-clause-no_more_wait
returns-clause-no_more_wait c =
    on_ok c.move_pointer-2.result (WaitsWithout (λ n. n ≡ c.args.pointers.next.number) c.move_pointer.new.builder c.move_pointer-2.new.builder) (WaitsWithout (owns_pointers c.args.pointers) c.args.builder.now c.move_pointer-2.new.builder)
    (λ last n w.
    (let next = last n w in
    let first = c.in_ok-move_pointer.ensures.no_more_wait n next.0 in (
      first.0,
      λ o. elim o [ inl e ↦ first.1 e | inr e ↦ next.1 e ],
    )))
    c.move_pointer-2.ensures.no_more_wait
