-- The unanswered reads of a host that reads in bursts: a queue holds their counts, and a register the words that the oldest has
-- got.
use Rattle.std.specs.Prelude.{◌≡◌, ℕ, ◌+◌, ◌-◌, ◌≤◌, Bool, not, ◌&&◌, ◌||◌, nat_eq, if◌then◌else◌, ◌⊎◌, List, [], ◌∷◌}
use Rattle.histories.specs.History.{is_raised, one_if}
use Rattle.netlist.specs.Nets.{NetValue}
use Rattle.netlist.specs.Netlists.{Netlist}
use Rattle.netlist.specs.Runs.{Always}
use Rattle.netlist.specs.Longer.{Extends}
use Rattle.net_parts.specs.Nets.{IsBit, IsNetOfWidth, StartsLow, TakesNext}
use Rattle.net_parts.specs.Laws.{net_lasts}
use Rattle.item_queues.specs.declared.queue.ItemQueue.{ItemQueue}
use Rattle.item_queues.specs.Storages.{shown_oldest}
use Rattle.item_queues.specs.Queues.{owns, IsQueueMade, StartsEmpty, StepsQueue, held_in}
use Rattle.item_queues.specs.Laws.{starts_last, steps_last}
use Rattle.mm_host.specs.declared.queue.HeldWords.{HeldWords}

-- ---- the queue as it is made

-- its registers
abbrev pub owns_words : HeldWords → ℕ → Type 0
owns_words held n = owns held.queue n ⊎ (n ≡ held.got.number)

-- none is held, and the oldest has got no word
pub record AreWordsHeld (netlist : Netlist) (bits : ℕ) (count unanswered : NetValue) (held : HeldWords) : Type 0 where
  pub made : IsQueueMade netlist (count ∷ []) held.queue
  pub count_is : held.queue.count ≡ unanswered
  pub bound : held.queue.bound ≡ 16
  pub empty : StartsEmpty netlist held.queue
  pub got_net : IsNetOfWidth netlist held.got bits
  pub none_got : StartsLow netlist held.got
  pub apart : ¬ owns held.queue held.got.number

-- ---- from cycle to cycle

-- where a word comes and it is the last one that the oldest read lacks, the oldest read goes; else it has got one word more
pub record IsOldestAnswered (came some : Bool) (lacks got : ℕ) (last : Bool) (next : ℕ) : Type 0 where
  pub ends : last ≡ ((came && some) && nat_eq lacks 1)
  pub goes : next ≡ (if last then 0 else got + one_if ((came && some) && not (nat_eq lacks 0)))

-- in each cycle in which the oldest read hasn't got more words than it has
abbrev pub AnswersOldest : Netlist → NetValue → NetValue → NetValue → NetValue → NetValue → NetValue → Type 0
AnswersOldest netlist valid some beats got last next =
    Always netlist (λ cycle. cycle.net got.number ≤ cycle.net beats.number
    → IsOldestAnswered (is_raised (cycle.net valid.number)) (is_raised (cycle.net some.number))
    (cycle.net beats.number - cycle.net got.number) (cycle.net got.number) (is_raised (cycle.net last.number))
    (cycle.net next.number))

-- a queue holds the counts of the unanswered reads: one that is taken comes, and the oldest one goes with its last word
pub record WordsGoOn (netlist : Netlist) (count unanswered taken valid : NetValue) : Type 0 where
  pub queue : ItemQueue 1
  pub got : NetValue
  pub some : NetValue
  pub beats : NetValue
  pub last : NetValue
  pub next : NetValue
  pub count_is : queue.count ≡ unanswered
  pub bound : queue.bound ≡ 16
  pub empty : StartsEmpty netlist queue
  pub none_got : StartsLow netlist got
  pub last_bit : IsBit netlist last
  pub some_is : Always netlist (λ cycle. is_raised (cycle.net some.number) ≡ not (nat_eq (cycle.net queue.count.number) 0))
  pub oldest : Always netlist (λ cycle. 1 ≤ cycle.net queue.count.number → (coming : List ℕ)
      → shown_oldest (held_in cycle queue) coming ≡ 1 ∷ cycle.net beats.number ∷ [])
  pub answered : AnswersOldest netlist valid some beats got last next
  pub steps : StepsQueue netlist queue (count ∷ []) taken last
  pub follows : TakesNext netlist got next

-- a read waits while there is no room; one that is taken comes into the queue
pub record QueuesOn (netlist : Netlist) (read count shown unanswered full wait valid told : NetValue) : Type 0 where
  pub tells : Always netlist (λ cycle. is_raised (cycle.net told.number)
      ≡ ((is_raised (cycle.net full.number) && is_raised (cycle.net read.number)) || is_raised (cycle.net wait.number)))
  pub taken : NetValue
  pub taken_bit : IsBit netlist taken
  pub takes : Always netlist (λ cycle. is_raised (cycle.net taken.number)
      ≡ (is_raised (cycle.net shown.number) && not (is_raised (cycle.net wait.number))))
  pub words : WordsGoOn netlist count unanswered taken valid

-- ---- what stands lasts. No contract reads these proofs; the laws of the host cite them

pub words_go_on : (old new : Netlist) (count unanswered taken valid : NetValue) → WordsGoOn old count unanswered taken valid
    → Extends old new → WordsGoOn new count unanswered taken valid
words_go_on old new count unanswered taken valid h e = record {
  queue = h.queue;
  got = h.got;
  some = h.some;
  beats = h.beats;
  last = h.last;
  next = h.next;
  count_is = h.count_is;
  bound = h.bound;
  empty = starts_last old new h.queue h.empty e;
  none_got = λ run cycles r. h.none_got run cycles (e.runs run cycles r);
  last_bit = net_lasts old new h.last 1 e h.last_bit;
  some_is = λ cycle v. h.some_is cycle (e.valuations cycle v);
  oldest = λ cycle v. h.oldest cycle (e.valuations cycle v);
  answered = λ cycle v. h.answered cycle (e.valuations cycle v);
  steps = steps_last old new h.queue (count ∷ []) taken h.last h.steps e;
  follows = λ run cycles r. h.follows run cycles (e.runs run cycles r);
}

pub queue_goes_on : (old new : Netlist) (read count shown unanswered full wait valid told : NetValue)
    → QueuesOn old read count shown unanswered full wait valid told → Extends old new
    → QueuesOn new read count shown unanswered full wait valid told
queue_goes_on old new read count shown unanswered full wait valid told h e = record {
  tells = λ cycle v. h.tells cycle (e.valuations cycle v);
  taken = h.taken;
  taken_bit = net_lasts old new h.taken 1 e h.taken_bit;
  takes = λ cycle v. h.takes cycle (e.valuations cycle v);
  words = words_go_on old new count unanswered h.taken valid h.words e;
}
