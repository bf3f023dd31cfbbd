-- A queue may move, by the items that it holds.
use Rattle.std.proofs.Common.{◌≡◌, ◌<◌, ◌⊎◌, true, ◌==◌, length, subst}
use Rattle.netlist.specs.Nets.{NetValue}
use Rattle.netlist.specs.Runs.{Cycle}
use Rattle.item_queues.specs.declared.queue.ItemQueue.{ItemQueue}
use Rattle.item_queues.specs.Queues.{IsInOrder, MayMove, held_in}
use Rattle.item_queues.specs.Laws.{held_count}

pub queue_may : (queue : ItemQueue 6) (comes goes : NetValue) (cycle : Cycle) → IsInOrder queue cycle → ((cycle.net comes.number == 1) ≡ true → length (held_in cycle queue) < queue.bound)
    → ((cycle.net goes.number == 1) ≡ true → (0 < length (held_in cycle queue)) ⊎ ((cycle.net comes.number == 1) ≡ true)) → MayMove queue comes goes cycle
queue_may queue comes goes cycle order room some = record {
  in_order = order;
  room = λ high. subst (λ n. n < queue.bound) (held_count cycle queue) (room high);
  some = λ high. subst (λ n. (0 < n) ⊎ ((cycle.net comes.number == 1) ≡ true)) (held_count cycle queue) (some high);
}
