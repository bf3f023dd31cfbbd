-- What gathers the reads of wide words as a link: its form, and what its two calls leave in a netlist.
use Rattle.std.specs.Prelude.{◌≡◌, ℕ, ◌+◌, ◌-◌, ◌*◌, ◌/◌, ◌%◌, ◌^◌, ◌<◌, ◌≤◌, not, ◌&&◌, ◌||◌, nat_lt, [], ◌∷◌, if◌then◌else◌}
use Rattle.iface_roles.specs.Proper.{IsWordSize}
use Rattle.histories.specs.History.{is_raised}
use Rattle.netlist.specs.Nets.{NetValue}
use Rattle.netlist.specs.Netlists.{Netlist, IsNet, IsWaiting, WaitsForWrite}
use Rattle.netlist.specs.Runs.{Always}
use Rattle.netlist.specs.Longer.{Extends}
use Rattle.net_parts.specs.Nets.{IsBit, IsNetOfWidth}
use Rattle.net_parts.specs.Laws.{net_lasts}
use Rattle.item_queues.specs.Queues.{held_in}
use Rattle.item_queues.specs.Storages.{shown_oldest}
use Rattle.memory_machines.specs.Link.{Target, Port}
use Rattle.memory_links.specs.Gathers.{GatherState, RunsAsGather, IsGatherPlan, LieInWords, gathered, gather_form, spread}
use Rattle.memory_links.specs.Selects.{silenced, offset_in, repeated}
use Rattle.command_nets.specs.declared.nets.CommandNets.{CommandNets}
use Rattle.command_nets.specs.declared.nets.AnswerNets.{AnswerNets}
use Rattle.command_nets.specs.Nets.{Widths, AreCommandNets, raw_in}
use Rattle.command_nets.specs.Groups.{command_lasts}
use Rattle.link_core.specs.Form.{Form}
use Rattle.mm_select.specs.SelectNets.{bytes_shape, is_asked}
use Rattle.mm_gather.specs.declared.gather.Gather.{Gather}
use Rattle.mm_gather.specs.declared.gather.GatherKept.{GatherKept}
use Rattle.mm_gather.specs.Reads.{AreReadsHeld, HoldNoReads, GivesNow, ReadsGoOn, owns_reads, owns_read_memories, reads_last, no_reads_last, giving_lasts, going_lasts}

-- between words of its sizes, the wide ones the agent's own
pub record IsGatherForm (s : Gather) (form : Form) : Type 0 where
  pub many : ℕ
  pub plan : IsGatherPlan form.link.target form.up form.down many
  pub narrow : form.up.word_bytes ≡ s.narrow_bytes
  pub wide : form.down.word_bytes ≡ s.wide_bytes
  pub bytes : form.up.unit_bytes ≡ 1
  pub is : form.link ≡ gather_form form.link.target
  pub deep : 1 < s.reads

-- what it does: the machine, with its state
pub record GatherRuns (s : Gather) (target : Target) (up down : Port) : Type 0 where
  pub many : ℕ
  pub plan : IsGatherPlan target up.shape down.shape many
  pub some : 1 < s.reads
  pub state : GatherState
  pub run : RunsAsGather s.reads up down state

-- it asks that each burst lies in one wide word
abbrev pub AsksInWords : Gather → Port → ℕ → Type 0
AsksInWords s up end = LieInWords up (bytes_shape s.wide_bytes) end

-- sizes of words, the first one the smaller, and 2 reads or more
pub record IsGather (s : Gather) : Type 0 where
  pub narrow : IsWordSize s.narrow_bytes
  pub wide : IsWordSize s.wide_bytes
  pub smaller : s.narrow_bytes < s.wide_bytes
  pub some : 2 ≤ s.reads

-- nets of a narrow beat, whose count tells the words of a wide one, and whose address reaches all bytes of it
pub record TakesWidths (s : Gather) (widths : Widths) : Type 0 where
  pub is : IsGather s
  pub word : widths.word ≡ s.narrow_bytes * 8
  pub enables : widths.enables ≡ s.narrow_bytes
  pub count : s.wide_bytes ≡ s.narrow_bytes * 2 ^ (widths.count - 1)
  pub reach : s.wide_bytes ≤ 2 ^ widths.address

abbrev pub given_widths : Gather → Widths → Widths
given_widths s widths =
    record { address = widths.address; word = s.wide_bytes * 8; enables = s.wide_bytes; count = 1; tag = widths.tag }

-- the nets of the wide beat, as numbers
pub record IsSentBeat (netlist : Netlist) (from to : CommandNets) (shut place : NetValue) (lanes : ℕ) : Type 0 where
  pub read : Always netlist (λ cycle. cycle.net to.read.number
      ≡ (if is_raised (cycle.net shut.number) then 0 else cycle.net from.read.number))
  pub write : to.write ≡ from.write
  pub address : Always netlist (λ cycle. cycle.net to.address.number ≡ cycle.net from.address.number / 2 ^ lanes * 2 ^ lanes)
  pub word : (bytes : ℕ) → from.word.width ≡ bytes * 8
      → Always netlist (λ cycle. cycle.net to.word.number ≡ repeated bytes (2 ^ place.width) (cycle.net from.word.number))
  pub enables : Always netlist (λ cycle. cycle.net to.enables.number
      ≡ (spread from.enables.width (cycle.net from.count.number) (cycle.net from.enables.number)
      * 2 ^ (from.enables.width * cycle.net place.number)) % 2 ^
      (from.enables.width * 2 ^ place.width))
  pub count : Always netlist (λ cycle. cycle.net to.count.number ≡ 1)
  pub more : to.more ≡ from.more
  pub tag : to.tag ≡ from.tag
  pub address_width : to.address.width ≡ from.address.width
  pub word_width : to.word.width ≡ from.word.width * 2 ^ place.width
  pub enables_width : to.enables.width ≡ from.enables.width * 2 ^ place.width
  pub count_width : to.count.width ≡ 1

-- between the calls: both queues wait, and so does the count of what is given
pub record GatherKeeps (s : Gather) (kept : GatherKept) (netlist : Netlist) : Type 0 where
  pub is : IsGather s
  pub ratio : s.wide_bytes ≡ s.narrow_bytes * 2 ^ kept.place.width
  pub some : 1 ≤ kept.place.width
  pub few : kept.place.width ≤ 4
  pub place : IsNet netlist kept.place
  pub count : IsNetOfWidth netlist kept.count (kept.place.width + 1)
  pub read : IsBit netlist kept.read
  pub write : IsBit netlist kept.write
  pub shut : IsBit netlist kept.shut
  pub held : AreReadsHeld netlist kept.place kept.count (s.wide_bytes * 8) s.reads kept.held
  pub waits : (n : ℕ) → owns_reads kept.held n → IsWaiting netlist n
  pub waits_for_write : (m : ℕ) → owns_read_memories kept.held m → WaitsForWrite netlist m

-- after the first call: the beat of the wide word, of which a read is shut out while all reads are under way, and empty queues
pub record GatherCommand (s : Gather) (from to : CommandNets) (kept : GatherKept) (netlist : Netlist) : Type 0 where
  pub is : IsGather s
  pub ratio : s.wide_bytes ≡ s.narrow_bytes * 2 ^ kept.place.width
  pub from_nets : AreCommandNets netlist from
  pub enables_width : from.enables.width ≡ s.narrow_bytes
  pub place_net : IsNet netlist kept.place
  pub count_width : from.count.width ≡ kept.place.width + 1
  pub read_is : kept.read ≡ to.read
  pub write_is : kept.write ≡ from.write
  pub count_is : kept.count ≡ from.count
  pub more_is : to.more ≡ from.more
  pub tag_is : to.tag ≡ from.tag
  pub shut : Always netlist (λ cycle. is_raised (cycle.net kept.shut.number)
      ≡ (not (is_raised (cycle.net from.write.number)) && not (nat_lt (cycle.net kept.held.entries.count.number) s.reads)))
  pub levels : Always netlist (λ cycle. (raw_in cycle to).levels
      ≡ silenced (is_raised (cycle.net kept.shut.number))
      (gathered (bytes_shape s.narrow_bytes) (bytes_shape s.wide_bytes) (raw_in cycle from).levels))
  pub place : Always netlist (λ cycle. cycle.net kept.place.number * s.narrow_bytes
      ≡ offset_in (bytes_shape s.narrow_bytes) (bytes_shape s.wide_bytes) (cycle.net from.address.number))
  pub held : AreReadsHeld netlist kept.place kept.count (s.wide_bytes * 8) s.reads kept.held
  pub begins : HoldNoReads netlist kept.held

-- after the second call: a word that a read waits for comes, the narrow word that is due goes up, and the queues move
pub record GatherAnswer (s : Gather) (kept : GatherKept) (wait : NetValue) (answer : AnswerNets) (up : NetValue)
    (back : AnswerNets) (netlist : Netlist) : Type 0 where
  pub waits : Always netlist (λ cycle. is_raised (cycle.net up.number)
      ≡ (is_raised (cycle.net kept.shut.number) || is_raised (cycle.net wait.number)))
  pub comes : NetValue
  pub wide : NetValue
  pub asks : NetValue
  pub last : NetValue
  pub next : NetValue
  pub valid_bit : IsBit netlist back.valid
  pub comes_bit : IsBit netlist comes
  pub asks_bit : IsBit netlist asks
  pub last_bit : IsBit netlist last
  pub comes_is : Always netlist (λ cycle. is_raised (cycle.net comes.number)
      ≡ (is_raised (cycle.net answer.valid.number)
      && nat_lt (cycle.net kept.held.words.count.number) (cycle.net kept.held.entries.count.number)))
  pub asks_is : Always netlist (λ cycle. is_raised (cycle.net asks.number) ≡ is_asked cycle kept.read kept.write wait)
  pub shows : Always netlist (λ cycle. cycle.net back.valid.number ∷ cycle.net wide.number ∷ cycle.net back.code.number ∷ []
      ≡ shown_oldest (held_in cycle kept.held.words)
      (cycle.net comes.number ∷ cycle.net answer.word.number ∷ cycle.net answer.code.number ∷ []))
  pub gives : GivesNow netlist s.narrow_bytes kept.place.width kept.held back.valid wide back.word last next
  pub goes_on : ReadsGoOn netlist kept.held kept.place kept.count answer.word answer.code asks comes last next

-- ---- what stands lasts. No contract reads these proofs; the law of the link cites them

pub gather_keeps_lasts : (s : Gather) (kept : GatherKept) (old new : Netlist) → GatherKeeps s kept old → Extends old new
    → ((n : ℕ) → owns_reads kept.held n → IsWaiting old n → IsWaiting new n)
    → ((m : ℕ) → owns_read_memories kept.held m → WaitsForWrite old m → WaitsForWrite new m) → GatherKeeps s kept new
gather_keeps_lasts s kept old new h e w v = record {
  is = h.is;
  ratio = h.ratio;
  some = h.some;
  few = h.few;
  place = e.nets _ _ h.place;
  count = net_lasts old new kept.count _ e h.count;
  read = net_lasts old new kept.read 1 e h.read;
  write = net_lasts old new kept.write 1 e h.write;
  shut = net_lasts old new kept.shut 1 e h.shut;
  held = reads_last old new kept.place kept.count _ _ kept.held h.held e;
  waits = λ n o. w n o (h.waits n o);
  waits_for_write = λ m o. v m o (h.waits_for_write m o);
}

pub gather_command_lasts : (s : Gather) (from to : CommandNets) (kept : GatherKept) (old new : Netlist)
    → GatherCommand s from to kept old → Extends old new → GatherCommand s from to kept new
gather_command_lasts s from to kept old new h e = record {
  is = h.is;
  ratio = h.ratio;
  from_nets = command_lasts old new from e h.from_nets;
  enables_width = h.enables_width;
  place_net = e.nets _ _ h.place_net;
  count_width = h.count_width;
  read_is = h.read_is;
  write_is = h.write_is;
  count_is = h.count_is;
  more_is = h.more_is;
  tag_is = h.tag_is;
  shut = λ cycle v. h.shut cycle (e.valuations cycle v);
  levels = λ cycle v. h.levels cycle (e.valuations cycle v);
  place = λ cycle v. h.place cycle (e.valuations cycle v);
  held = reads_last old new kept.place kept.count _ _ kept.held h.held e;
  begins = no_reads_last old new kept.held h.begins e;
}

pub gather_answer_lasts : (s : Gather) (kept : GatherKept) (wait : NetValue) (answer : AnswerNets) (up : NetValue)
    (back : AnswerNets) (old new : Netlist)
    → GatherAnswer s kept wait answer up back old → Extends old new → GatherAnswer s kept wait answer up back new
gather_answer_lasts s kept wait answer up back old new h e = record {
  waits = λ cycle v. h.waits cycle (e.valuations cycle v);
  comes = h.comes;
  wide = h.wide;
  asks = h.asks;
  last = h.last;
  next = h.next;
  valid_bit = net_lasts old new back.valid 1 e h.valid_bit;
  comes_bit = net_lasts old new h.comes 1 e h.comes_bit;
  asks_bit = net_lasts old new h.asks 1 e h.asks_bit;
  last_bit = net_lasts old new h.last 1 e h.last_bit;
  comes_is = λ cycle v. h.comes_is cycle (e.valuations cycle v);
  asks_is = λ cycle v. h.asks_is cycle (e.valuations cycle v);
  shows = λ cycle v. h.shows cycle (e.valuations cycle v);
  gives = giving_lasts old new s.narrow_bytes kept.place.width kept.held back.valid h.wide back.word h.last h.next h.gives e;
  goes_on = going_lasts old new kept.held kept.place kept.count answer.word answer.code h.asks h.comes h.last h.next h.goes_on e;
}
