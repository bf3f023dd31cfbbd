-- The cutter of bursts as a link: its form, and what its two calls leave in a netlist.
use Rattle.std.specs.Prelude.{◌≡◌, ℕ, ◌+◌, ◌*◌, ◌^◌, ◌≤◌, not, ◌&&◌, ◌||◌, max, nat_lt, nat_eq, if◌then◌else◌, IsFalse}
use Rattle.histories.specs.History.{is_raised}
use Rattle.iface_roles.specs.Proper.{IsWordSize}
use Rattle.netlist.specs.Nets.{NetValue}
use Rattle.netlist.specs.Netlists.{Netlist, IsWaiting}
use Rattle.netlist.specs.Runs.{Always}
use Rattle.netlist.specs.Longer.{Extends}
use Rattle.net_parts.specs.Groups.{AreWaiting, InGroup, StartAllLow, TakeAllNext}
use Rattle.memory_machines.specs.Link.{Target, Port}
use Rattle.memory_links.specs.Cutters.{Reach, CutterState, RunsAsCutter, IsCutPlan, cut_form}
use Rattle.command_nets.specs.declared.nets.CommandNets.{CommandNets}
use Rattle.command_nets.specs.declared.nets.AnswerNets.{AnswerNets}
use Rattle.command_nets.specs.Nets.{Widths, AreCommandNets, raw_in}
use Rattle.command_nets.specs.Groups.{command_lasts}
use Rattle.link_core.specs.Form.{Form}
use Rattle.mm_burst.specs.declared.cutter.Cutter.{Cutter}
use Rattle.mm_burst.specs.declared.cutter.CutterKept.{CutterKept}
use Rattle.mm_burst.specs.declared.registers.CutterRegisters.{CutterRegisters}
use Rattle.mm_burst.specs.Pieces.{reach_by, longest_by, registers_of, AreRegisters, held_in, ArePieceNets, FitsRegisters, piece_in, piece_now, HasRoom, shown_piece, behind_piece, registers_last, piece_lasts}

-- from counts of so many bits to counts of no more, which tell the words of a wide word where reads are cut at its end
pub record IsCutter (s : Cutter) : Type 0 where
  pub word : IsWordSize s.word_bytes
  pub some : 1 ≤ s.below_bits
  pub fewer : s.below_bits ≤ s.count_bits
  pub few : s.count_bits ≤ 11
  pub places : IsFalse (nat_eq s.place_bits 0) → s.below_bits ≡ s.place_bits + 1

-- how its reads are cut, and the most beats of its write bursts
abbrev pub reach_of : Cutter → Reach
reach_of s = reach_by s.place_bits s.word_bytes s.below_bits

abbrev pub longest_of : Cutter → ℕ
longest_of s = longest_by s.place_bits s.below_bits

-- words of so many bytes, whose bursts are cut so
pub record IsCutterForm (s : Cutter) (form : Form) : Type 0 where
  pub plan : IsCutPlan (reach_of s) (longest_of s) form.up form.down
  pub words : form.up.word_bytes ≡ s.word_bytes
  pub bytes : form.up.unit_bytes ≡ 1
  pub is : form.link ≡ cut_form form.link.target

-- the machine, with its state
pub record CutterRuns (s : Cutter) (target : Target) (up down : Port) : Type 0 where
  pub plan : IsCutPlan (reach_of s) (longest_of s) up.shape down.shape
  pub state : CutterState
  pub run : RunsAsCutter (reach_of s) (longest_of s) up down state

-- the nets of a command, whose address reaches all bytes of a word
pub record TakesWidths (s : Cutter) (widths : Widths) : Type 0 where
  pub is : IsCutter s
  pub word : widths.word ≡ s.word_bytes * 8
  pub enables : widths.enables ≡ s.word_bytes
  pub some : 1 ≤ widths.count
  pub count : widths.count ≤ s.count_bits
  pub reach : s.word_bytes ≤ 2 ^ widths.address
  pub few : widths.address ≤ 64

-- how many bits of a byte address tell the bytes of a word of 1 to 16 bytes apart
abbrev pub lane_exponent : ℕ → ℕ
lane_exponent bytes =
    if nat_lt bytes 2 then 0 else if nat_lt bytes 4 then 1 else if nat_lt bytes 8 then 2 else if nat_lt bytes 16 then 3 else 4

-- in so many bits no address of a burst wraps, where `lanes` bits of it tell the bytes of a word apart
abbrev pub address_bits : ℕ → ℕ → ℕ → ℕ
address_bits address count lanes = max address (count + lanes) + 1

abbrev pub given_widths : Cutter → Widths → Widths
given_widths s widths =
    record widths { address = address_bits widths.address s.count_bits (lane_exponent s.word_bytes); count = s.below_bits }

abbrev pub owns_cutter : CutterKept → ℕ → Type 0
owns_cutter kept n = InGroup (registers_of kept.registers) n

-- between the calls: the registers wait
pub record CutterKeeps (s : Cutter) (kept : CutterKept) (netlist : Netlist) : Type 0 where
  pub is : IsCutter s
  pub registers : AreRegisters netlist kept.registers
  pub count : kept.registers.left.width ≡ s.count_bits
  pub piece : ArePieceNets netlist kept.piece
  pub fits : FitsRegisters kept.registers kept.piece
  pub within : Always netlist (λ cycle. HasRoom (piece_in cycle kept.piece))
  pub waits : AreWaiting netlist (registers_of kept.registers)

-- after the first call: the registers begin at 0, and by them and by the beat above a piece is shown below
pub record CutterCommand (s : Cutter) (from to : CommandNets) (kept : CutterKept) (netlist : Netlist) : Type 0 where
  pub is : IsCutter s
  pub from_nets : AreCommandNets netlist from
  pub count : from.count.width ≤ s.count_bits
  pub address : kept.registers.next.width ≡ address_bits from.address.width s.count_bits (lane_exponent s.word_bytes)
  pub starts : StartAllLow netlist (registers_of kept.registers)
  pub piece : Always netlist (λ cycle. piece_in cycle kept.piece
      ≡ piece_now (reach_of s) s.word_bytes (raw_in cycle from) (held_in cycle kept.registers))
  pub shows : Always netlist (λ cycle. raw_in cycle to
      ≡ shown_piece (longest_of s) (cycle.net from.word.number) (piece_in cycle kept.piece))

-- after the second call: it waits while the cutter sends by itself, answers are wires, and the registers take these nets
pub record CutterAnswer (s : Cutter) (kept : CutterKept) (wait : NetValue) (answer : AnswerNets) (up : NetValue)
    (back : AnswerNets) (netlist : Netlist) : Type 0 where
  pub waits : Always netlist (λ cycle. is_raised (cycle.net up.number)
      ≡ (is_raised (cycle.net kept.piece.sends.number) || is_raised (cycle.net wait.number)))
  pub back_is : back ≡ answer
  pub next : CutterRegisters
  pub next_is : Always netlist (λ cycle.
      let taken = is_raised (cycle.net kept.piece.shows.number) && not (is_raised (cycle.net wait.number)) in
      held_in cycle next
      ≡ behind_piece s.word_bytes (2 ^ kept.registers.next.width) (held_in cycle kept.registers)
      (piece_in cycle kept.piece) taken)
  pub takes : TakeAllNext netlist (registers_of kept.registers) (registers_of next)

-- ---- what stands lasts. No contract reads these proofs; the law cites them

pub cutter_keeps_lasts : (s : Cutter) (kept : CutterKept) (old new : Netlist) → CutterKeeps s kept old → Extends old new
    → ((n : ℕ) → owns_cutter kept n → IsWaiting old n → IsWaiting new n) → CutterKeeps s kept new
cutter_keeps_lasts s kept old new h e w = record {
  is = h.is;
  registers = registers_last old new kept.registers e h.registers;
  count = h.count;
  piece = piece_lasts old new kept.piece e h.piece;
  fits = h.fits;
  within = λ cycle v. h.within cycle (e.valuations cycle v);
  waits = record { start = h.waits.start; numbers = h.waits.numbers; wait = λ n o. w n o (h.waits.wait n o) };
}

pub cutter_command_lasts : (s : Cutter) (from to : CommandNets) (kept : CutterKept) (old new : Netlist)
    → CutterCommand s from to kept old → Extends old new → CutterCommand s from to kept new
cutter_command_lasts s from to kept old new h e = record {
  is = h.is;
  from_nets = command_lasts old new from e h.from_nets;
  count = h.count;
  address = h.address;
  starts = λ run cycles r. h.starts run cycles (e.runs run cycles r);
  piece = λ cycle v. h.piece cycle (e.valuations cycle v);
  shows = λ cycle v. h.shows cycle (e.valuations cycle v);
}

pub cutter_answer_lasts : (s : Cutter) (kept : CutterKept) (wait : NetValue) (answer : AnswerNets) (up : NetValue)
    (back : AnswerNets) (old new : Netlist)
    → CutterAnswer s kept wait answer up back old → Extends old new → CutterAnswer s kept wait answer up back new
cutter_answer_lasts s kept wait answer up back old new h e = record {
  waits = λ cycle v. h.waits cycle (e.valuations cycle v);
  back_is = h.back_is;
  next = h.next;
  next_is = λ cycle v. h.next_is cycle (e.valuations cycle v);
  takes = λ run cycles r. h.takes run cycles (e.runs run cycles r);
}
