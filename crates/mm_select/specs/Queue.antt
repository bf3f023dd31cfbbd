-- The queue of the places of the reads under way, and the word that is taken for the oldest.
use Rattle.std.specs.Prelude.{◌≡◌, ℕ, ◌*◌, ◌/◌, ◌%◌, ◌^◌, ◌≤◌, List, [], ◌∷◌}
use Rattle.netlist.specs.Nets.{NetValue}
use Rattle.netlist.specs.Netlists.{Netlist}
use Rattle.netlist.specs.Runs.{Always}
use Rattle.netlist.specs.Longer.{Extends}
use Rattle.item_queues.specs.declared.queue.ItemQueue.{ItemQueue}
use Rattle.item_queues.specs.Storages.{shown_oldest}
use Rattle.item_queues.specs.Queues.{held_in}

-- `word` is the narrow word of `wide`, of so many bits, that stands at the oldest place, where one is held
pub record TakesOldest (netlist : Netlist) (queue : ItemQueue 1) (wide word : NetValue) (width : ℕ) : Type 0 where
  pub place : NetValue
  pub oldest : Always netlist (λ cycle. 1 ≤ cycle.net queue.count.number → (coming : List ℕ)
      → shown_oldest (held_in cycle queue) coming ≡ 1 ∷ cycle.net place.number ∷ [])
  pub word_is : Always netlist (λ cycle. cycle.net word.number
      ≡ cycle.net wide.number / 2 ^ (width * cycle.net place.number) % 2 ^ width)

-- what stands lasts. No contract reads this proof
pub taking_lasts : (old new : Netlist) (queue : ItemQueue 1) (wide word : NetValue) (width : ℕ)
    → TakesOldest old queue wide word width → Extends old new → TakesOldest new queue wide word width
taking_lasts old new queue wide word width h e = record {
  place = h.place;
  oldest = λ cycle v. h.oldest cycle (e.valuations cycle v);
  word_is = λ cycle v. h.word_is cycle (e.valuations cycle v);
}
