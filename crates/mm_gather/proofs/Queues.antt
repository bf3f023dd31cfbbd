-- A queue of items like these is one of items of the same widths, and queues of one bound have counts of one width.
use Rattle.std.proofs.Common.{◌≡◌, ℕ, zero, suc, ◌+◌, ◌^◌, ◌<◌, ◌≤◌, arith, List, [], ◌∷◌, length, take, ◌∙◌, refl, sym, ap}
use Rattle.netlist.specs.Nets.{NetValue}
use Rattle.netlist.specs.Netlists.{Netlist}
use Rattle.net_parts.specs.Groups.{group_widths}
use Rattle.item_queues.specs.declared.queue.ItemQueue.{ItemQueue}
use Rattle.item_queues.specs.declared.storage.Storage.{Storage}
use Rattle.item_queues.specs.declared.storage.Storage.TheVariants.{InRegisters, InMemories}
use Rattle.item_queues.specs.Places.{ArePlacesFrom}
use Rattle.item_queues.specs.Storages.{IsStorage}
use Rattle.item_queues.specs.Queues.{IsQueueMade}
use Rattle.mm_gather.specs.declared.reads.HeldReads.{HeldReads}
use Rattle.mm_gather.specs.Reads.{AreReadsHeld}

places_like : (netlist : Netlist) (like other : List NetValue) (from : ℕ) (row : List (List NetValue)) → group_widths like ≡ group_widths other → ArePlacesFrom netlist like from row → ArePlacesFrom netlist other from row
places_like netlist like other from [] same h = tt
places_like netlist like other from (place ∷ row) same h =
    (record { nets = h.0.nets; widths = h.0.widths ∙ same; numbers = h.0.numbers }, places_like netlist like other (from + length place) row same h.1)

storage_like : {N : ℕ} (netlist : Netlist) (like other : List NetValue) (bound : ℕ) (storage : Storage N) → group_widths like ≡ group_widths other → IsStorage netlist like bound storage → IsStorage netlist other bound storage
storage_like netlist like other bound (InRegisters places) same h = record {
  few = h.few;
  count_is = h.count_is;
  places = record { start = h.places.start; from_start = places_like netlist like other h.places.start (take bound places) same h.places.from_start };
}
storage_like netlist like other bound (InMemories stored) same h = record {
  pointers = h.pointers;
  depth = h.depth;
  least = h.least;
  memories = h.memories;
  numbers = h.numbers;
  widths = h.widths ∙ same;
}

pub queue_like : {N : ℕ} (netlist : Netlist) (like other : List NetValue) (queue : ItemQueue N) → group_widths like ≡ group_widths other → IsQueueMade netlist like queue → IsQueueMade netlist other queue
queue_like netlist like other queue same h = record {
  some = h.some;
  count_net = h.count_net;
  wide = h.wide;
  least = h.least;
  storage = storage_like netlist like other queue.bound queue.storage same h.storage;
  before = h.before;
}

some_bits : (bound bits : ℕ) → 1 ≤ bound → bound < 2 ^ bits → 1 ≤ bits
some_bits bound zero some fits = absurd (omega (arith, some, fits))
some_bits bound (suc bits) some fits = omega arith

-- neither count is wider than it takes to reach the bound
pub same_counts : {N M : ℕ} (netlist : Netlist) (like other : List NetValue) (one : ItemQueue N) (two : ItemQueue M) → IsQueueMade netlist like one → IsQueueMade netlist other two → one.bound ≡ two.bound → one.count.width ≡ two.count.width
same_counts netlist like other one two h g same =
    let first = h.wide in
    let second = g.wide in
    let low = h.least two.count.width (some_bits _ _ g.some second) (omega (arith, second, same)) in
    let high = g.least one.count.width (some_bits _ _ h.some first) (omega (arith, first, same)) in
    omega (arith, low, high)

-- the same reads with words of so many bits
pub reads_as : (netlist : Netlist) (place count : NetValue) (bits reads wide : ℕ) (held : HeldReads) → AreReadsHeld netlist place count bits reads held → bits ≡ wide → AreReadsHeld netlist place count wide held.entries.bound held
reads_as netlist place count bits reads wide held h e = record {
  entries = h.entries;
  like = h.like;
  widths = h.widths ∙ ap (λ n. n ∷ 2 ∷ []) e;
  words = h.words;
  entries_bound = refl;
  words_bound = h.words_bound ∙ sym h.entries_bound;
  given = h.given;
  apart = h.apart;
  given_apart = h.given_apart;
  memories_apart = h.memories_apart;
}
