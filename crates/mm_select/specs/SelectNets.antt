-- A lane selector: what its two calls leave in a netlist.
use Rattle.std.specs.Prelude.{◌≡◌, ℕ, ◌*◌, ◌/◌, ◌^◌, ◌<◌, ◌≤◌, Bool, true, not, ◌&&◌, ◌||◌, nat_lt, List, [], ◌∷◌, if◌then◌else◌}
use Rattle.iface_roles.specs.Proper.{IsWordSize}
use Rattle.histories.specs.History.{is_raised}
use Rattle.netlist.specs.Nets.{NetValue}
use Rattle.netlist.specs.Netlists.{Netlist, IsNet, IsWaiting, WaitsForWrite}
use Rattle.netlist.specs.Runs.{Cycle, Always}
use Rattle.netlist.specs.Longer.{Extends}
use Rattle.net_parts.specs.Nets.{IsBit}
use Rattle.net_parts.specs.Laws.{net_lasts}
use Rattle.memory_runs.specs.Views.{Shape}
use Rattle.memory_machines.specs.Link.{Target, Port}
use Rattle.memory_links.specs.Selects.{IsSelectPlan, RunsAsSelect, select_form, selected, silenced, offset_in, repeated}
use Rattle.command_nets.specs.declared.nets.CommandNets.{CommandNets}
use Rattle.command_nets.specs.declared.nets.AnswerNets.{AnswerNets}
use Rattle.command_nets.specs.Nets.{Widths, AreCommandNets, raw_in}
use Rattle.command_nets.specs.Groups.{command_lasts}
use Rattle.link_core.specs.Form.{Form}
use Rattle.mm_select.specs.declared.select.Select.{Select}
use Rattle.mm_select.specs.declared.select.SelectKept.{SelectKept}
use Rattle.item_queues.specs.Queues.{owns, owns_memories, IsQueueMade, StartsEmpty, StepsQueue}
use Rattle.item_queues.specs.Laws.{queue_lasts, starts_last, steps_last}
use Rattle.mm_select.specs.Queue.{TakesOldest, taking_lasts}

-- between words of its sizes, the wide ones the agent's own
pub record IsSelectForm (s : Select) (form : Form) : Type 0 where
  pub many : ℕ
  pub plan : IsSelectPlan form.link.target form.up form.down many
  pub narrow : form.up.word_bytes ≡ s.narrow_bytes
  pub wide : form.down.word_bytes ≡ s.wide_bytes
  pub bytes : form.up.unit_bytes ≡ 1
  pub is : form.link ≡ select_form form.link.target
  pub deep : 1 < s.reads

-- what it does: the machine of a lane selector, with some queue of offsets
pub record SelectRuns (s : Select) (target : Target) (up down : Port) : Type 0 where
  pub many : ℕ
  pub plan : IsSelectPlan target up.shape down.shape many
  pub some : 1 < s.reads
  pub offsets : ℕ → List ℕ
  pub run : RunsAsSelect s.reads up down offsets

-- sizes of words, the first one the smaller, and 2 to 16 reads
pub record IsSelect (s : Select) : Type 0 where
  pub narrow : IsWordSize s.narrow_bytes
  pub wide : IsWordSize s.wide_bytes
  pub smaller : s.narrow_bytes < s.wide_bytes
  pub some : 2 ≤ s.reads
  pub few : s.reads ≤ 16

-- nets of a narrow beat, whose address reaches all bytes of a wide word
pub record TakesWidths (s : Select) (widths : Widths) : Type 0 where
  pub is : IsSelect s
  pub word : widths.word ≡ s.narrow_bytes * 8
  pub enables : widths.enables ≡ s.narrow_bytes
  pub reach : s.wide_bytes ≤ 2 ^ widths.address

abbrev pub given_widths : Select → Widths → Widths
given_widths s widths =
    record { address = widths.address; word = s.wide_bytes * 8; enables = s.wide_bytes; count = widths.count; tag = widths.tag }

-- a side of words of so many bytes, of which the address counts bytes
abbrev pub bytes_shape : ℕ → Shape
bytes_shape bytes = record { word_bytes = bytes; unit_bytes = 1; burst_bits = 1; has_enables = true }

-- the nets of the wide beat, as numbers
pub record IsSentCommand (netlist : Netlist) (from to : CommandNets) (shut place : NetValue) (lanes : ℕ) : Type 0 where
  pub read : Always netlist (λ cycle. cycle.net to.read.number
      ≡ (if is_raised (cycle.net shut.number) then 0 else cycle.net from.read.number))
  pub write : to.write ≡ from.write
  pub address : Always netlist (λ cycle. cycle.net to.address.number ≡ cycle.net from.address.number / 2 ^ lanes * 2 ^ lanes)
  pub word : (bytes : ℕ) → from.word.width ≡ bytes * 8
      → Always netlist (λ cycle. cycle.net to.word.number ≡ repeated bytes (2 ^ place.width) (cycle.net from.word.number))
  pub enables : Always netlist (λ cycle. cycle.net to.enables.number
      ≡ cycle.net from.enables.number * 2 ^ (from.enables.width * cycle.net place.number))
  pub count : Always netlist (λ cycle. cycle.net to.count.number ≡ 1)
  pub more : to.more ≡ from.more
  pub tag : to.tag ≡ from.tag
  pub address_width : to.address.width ≡ from.address.width
  pub word_width : to.word.width ≡ from.word.width * 2 ^ place.width
  pub enables_width : to.enables.width ≡ from.enables.width * 2 ^ place.width
  pub count_width : to.count.width ≡ from.count.width

-- a read is taken
abbrev pub is_asked : Cycle → NetValue → NetValue → NetValue → Bool
is_asked cycle read write wait =
    (is_raised (cycle.net read.number) && not (is_raised (cycle.net write.number))) && not (is_raised (cycle.net wait.number))

-- between the calls: the queue waits
pub record SelectKeeps (s : Select) (kept : SelectKept) (netlist : Netlist) : Type 0 where
  pub is : IsSelect s
  pub ratio : s.wide_bytes ≡ s.narrow_bytes * 2 ^ kept.place.width
  pub few : kept.place.width ≤ 4
  pub queue : IsQueueMade netlist (kept.place ∷ []) kept.queue
  pub waits : (n : ℕ) → owns kept.queue n → IsWaiting netlist n
  pub waits_for_write : (m : ℕ) → owns_memories kept.queue m → WaitsForWrite netlist m
  pub read : IsBit netlist kept.read
  pub write : IsBit netlist kept.write
  pub shut : IsBit netlist kept.shut
  pub place : IsNet netlist kept.place

-- after the first call: the beat of the wide word, of which a read is shut out while the queue is full, and an empty queue
pub record SelectCommand (s : Select) (from to : CommandNets) (kept : SelectKept) (netlist : Netlist) : Type 0 where
  pub is : IsSelect s
  pub ratio : s.wide_bytes ≡ s.narrow_bytes * 2 ^ kept.place.width
  pub from_nets : AreCommandNets netlist from
  pub enables_width : from.enables.width ≡ s.narrow_bytes
  pub place_net : IsNet netlist kept.place
  pub read_is : kept.read ≡ to.read
  pub write_is : kept.write ≡ from.write
  pub more_is : to.more ≡ from.more
  pub tag_is : to.tag ≡ from.tag
  pub shut : Always netlist (λ cycle. is_raised (cycle.net kept.shut.number)
      ≡ (not (is_raised (cycle.net from.write.number)) && not (nat_lt (cycle.net kept.queue.count.number) s.reads)))
  pub levels : Always netlist (λ cycle. (raw_in cycle to).levels
      ≡ silenced (is_raised (cycle.net kept.shut.number))
      (selected (bytes_shape s.narrow_bytes) (bytes_shape s.wide_bytes) (raw_in cycle from).levels))
  pub place : Always netlist (λ cycle. cycle.net kept.place.number * s.narrow_bytes
      ≡ offset_in (bytes_shape s.narrow_bytes) (bytes_shape s.wide_bytes) (cycle.net from.address.number))
  pub bound : kept.queue.bound ≡ s.reads
  pub none : StartsEmpty netlist kept.queue

-- after the second call: the word at the place of the oldest read goes up, and the queue moves
pub record SelectAnswer (s : Select) (kept : SelectKept) (wait : NetValue) (answer : AnswerNets) (up : NetValue)
    (back : AnswerNets) (netlist : Netlist) : Type 0 where
  pub waits : Always netlist (λ cycle. is_raised (cycle.net up.number)
      ≡ (is_raised (cycle.net kept.shut.number) || is_raised (cycle.net wait.number)))
  pub valid_is : back.valid ≡ answer.valid
  pub code_is : back.code ≡ answer.code
  pub asks : NetValue
  pub goes : NetValue
  pub asks_bit : IsBit netlist asks
  pub goes_bit : IsBit netlist goes
  pub asks_is : Always netlist (λ cycle. is_raised (cycle.net asks.number) ≡ is_asked cycle kept.read kept.write wait)
  pub goes_is : Always netlist (λ cycle. is_raised (cycle.net goes.number)
      ≡ (is_raised (cycle.net answer.valid.number) && nat_lt 0 (cycle.net kept.queue.count.number)))
  pub takes : TakesOldest netlist kept.queue answer.word back.word (s.narrow_bytes * 8)
  pub moves : StepsQueue netlist kept.queue (kept.place ∷ []) asks goes

-- ---- what stands lasts. No contract reads these proofs; the law of the selector cites them

pub select_keeps_lasts : (s : Select) (kept : SelectKept) (old new : Netlist) → SelectKeeps s kept old → Extends old new
    → ((n : ℕ) → owns kept.queue n → IsWaiting old n → IsWaiting new n)
    → ((m : ℕ) → owns_memories kept.queue m → WaitsForWrite old m → WaitsForWrite new m) → SelectKeeps s kept new
select_keeps_lasts s kept old new h e w v = record {
  is = h.is;
  ratio = h.ratio;
  few = h.few;
  queue = queue_lasts old new (kept.place ∷ []) kept.queue h.queue e;
  waits = λ n o. w n o (h.waits n o);
  waits_for_write = λ m o. v m o (h.waits_for_write m o);
  read = net_lasts old new kept.read 1 e h.read;
  write = net_lasts old new kept.write 1 e h.write;
  shut = net_lasts old new kept.shut 1 e h.shut;
  place = e.nets _ _ h.place;
}

pub select_command_lasts : (s : Select) (from to : CommandNets) (kept : SelectKept) (old new : Netlist)
    → SelectCommand s from to kept old → Extends old new → SelectCommand s from to kept new
select_command_lasts s from to kept old new h e = record {
  is = h.is;
  ratio = h.ratio;
  from_nets = command_lasts old new from e h.from_nets;
  enables_width = h.enables_width;
  place_net = e.nets _ _ h.place_net;
  read_is = h.read_is;
  write_is = h.write_is;
  more_is = h.more_is;
  tag_is = h.tag_is;
  shut = λ cycle v. h.shut cycle (e.valuations cycle v);
  levels = λ cycle v. h.levels cycle (e.valuations cycle v);
  place = λ cycle v. h.place cycle (e.valuations cycle v);
  bound = h.bound;
  none = starts_last old new kept.queue h.none e;
}

pub select_answer_lasts : (s : Select) (kept : SelectKept) (wait : NetValue) (answer : AnswerNets) (up : NetValue)
    (back : AnswerNets) (old new : Netlist)
    → SelectAnswer s kept wait answer up back old → Extends old new → SelectAnswer s kept wait answer up back new
select_answer_lasts s kept wait answer up back old new h e = record {
  waits = λ cycle v. h.waits cycle (e.valuations cycle v);
  valid_is = h.valid_is;
  code_is = h.code_is;
  asks = h.asks;
  goes = h.goes;
  asks_bit = net_lasts old new h.asks 1 e h.asks_bit;
  goes_bit = net_lasts old new h.goes 1 e h.goes_bit;
  asks_is = λ cycle v. h.asks_is cycle (e.valuations cycle v);
  goes_is = λ cycle v. h.goes_is cycle (e.valuations cycle v);
  takes = taking_lasts old new kept.queue answer.word back.word _ h.takes e;
  moves = steps_last old new kept.queue (kept.place ∷ []) h.asks h.goes h.moves e;
}
