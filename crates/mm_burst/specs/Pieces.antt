-- The registers of a cutter of bursts, and what it makes of them and of the beat above in a cycle.
use Rattle.std.specs.Prelude.{◌≡◌, ℕ, ◌+◌, ◌-◌, ◌*◌, ◌%◌, ◌^◌, ◌≤◌, Bool, true, not, ◌&&◌, ◌||◌, nat_lt, nat_eq, List, [], ◌∷◌, drop, if◌then◌else◌}
use Rattle.histories.specs.History.{is_raised, one_if}
use Rattle.netlist.specs.Nets.{NetValue}
use Rattle.netlist.specs.Netlists.{Netlist, IsNet}
use Rattle.netlist.specs.Runs.{Cycle}
use Rattle.netlist.specs.Longer.{Extends}
use Rattle.memory_runs.specs.Commands.{longest_burst}
use Rattle.memory_machines.specs.Machines.{Raw}
use Rattle.memory_links.specs.Cutters.{Reach, beats_of, reach_longest, reach_words}
use Rattle.net_parts.specs.Nets.{IsBit, IsNetOfWidth}
use Rattle.net_parts.specs.Laws.{net_lasts}
use Rattle.command_nets.specs.Groups.{first_value, is_shown}
use Rattle.mm_burst.specs.declared.registers.CutterRegisters.{CutterRegisters}
use Rattle.mm_burst.specs.declared.pieces.PieceNets.{PieceNets}

-- ---- the registers

abbrev pub registers_of : CutterRegisters → List NetValue
registers_of r = r.left ∷ r.next ∷ r.reads ∷ r.enables ∷ r.more ∷ r.tag ∷ []

pub record AreRegisters (netlist : Netlist) (r : CutterRegisters) : Type 0 where
  pub left : IsNet netlist r.left
  pub next : IsNet netlist r.next
  pub reads : IsBit netlist r.reads
  pub enables : IsNet netlist r.enables
  pub more : IsBit netlist r.more
  pub tag : IsNet netlist r.tag

-- what they show in a cycle
pub record Held : Type 0 where
  pub left : ℕ
  pub next : ℕ
  pub reads : ℕ
  pub enables : ℕ
  pub more : ℕ
  pub tag : ℕ

abbrev pub held_in : Cycle → CutterRegisters → Held
held_in cycle r = record {
  left = cycle.net r.left.number;
  next = cycle.net r.next.number;
  reads = cycle.net r.reads.number;
  enables = cycle.net r.enables.number;
  more = cycle.net r.more.number;
  tag = cycle.net r.tag.number;
}

-- those that show these values
abbrev pub held_of : List ℕ → Held
held_of values = record {
  left = first_value values;
  next = first_value (drop 1 values);
  reads = first_value (drop 2 values);
  enables = first_value (drop 3 values);
  more = first_value (drop 4 values);
  tag = first_value (drop 5 values);
}

-- ---- how reads are cut

-- like writes, or up to the end of a wide word, in which 2 ^ places words of so many bytes stand
abbrev pub reach_by : ℕ → ℕ → ℕ → Reach
reach_by places bytes below = if nat_eq places 0 then reach_longest (longest_burst below) else reach_words bytes (2 ^ places)

-- the most beats of a write burst
abbrev pub longest_by : ℕ → ℕ → ℕ
longest_by places below = if nat_eq places 0 then longest_burst below else 1

-- ---- the piece of a burst that a cycle may show below

pub record Piece : Type 0 where
  pub sends : Bool  -- the cutter sends it by itself
  pub shows : Bool
  pub writes : Bool
  pub left : ℕ  -- how many beats of its burst haven't gone
  pub address : ℕ
  pub step : ℕ  -- how many beats it may have
  pub follows : Bool  -- another piece of its burst follows
  pub enables : ℕ
  pub more : ℕ
  pub tag : ℕ

-- by the beat above, whose byte address is `start`, by the registers, and by the bits that tell of what kind it is: the cutter
-- sends by itself, some beats of a burst are left, a write stands above, anything does
abbrev pub piece_by : Reach → ℕ → Raw → Held → Bool → Bool → Bool → Bool → Piece
piece_by reach start raw held sends some write shown =
    let writes = write && not sends in
    let old = sends || (some && writes) in
    let left = if old then held.left else raw.levels.count in
    let address = if old then held.next else start in
    let step = if writes then 1 else reach address in
    record {
      sends = sends;
      shows = sends || shown;
      writes = writes;
      left = left;
      address = address;
      step = step;
      follows = nat_lt step left;
      enables = if sends then held.enables else raw.levels.enables;
      more = if sends then held.more else raw.more;
      tag = if sends then held.tag else raw.tag;
    }

abbrev pub piece_from : Reach → ℕ → Raw → Held → Piece
piece_from reach start raw held =
    piece_by reach start raw held (is_raised held.reads && nat_lt 0 held.left) (nat_lt 0 held.left) (is_raised raw.levels.write)
    (is_shown raw)

abbrev pub piece_now : Reach → ℕ → Raw → Held → Piece
piece_now reach bytes raw held = piece_from reach (raw.levels.address - raw.levels.address % bytes) raw held

-- where another one follows, it has no more beats than are left
abbrev pub HasRoom : Piece → Type 0
HasRoom piece = piece.follows ≡ true → piece.step ≤ piece.left

-- the beat below, where a write burst has at most so many beats
abbrev pub shown_piece : ℕ → ℕ → Piece → Raw
shown_piece longest word piece = record {
  levels = record {
    read = one_if (piece.shows && not piece.writes);
    write = one_if piece.writes;
    address = piece.address;
    word = if piece.writes then word else 0;
    enables = piece.enables;
    count = beats_of (if piece.writes then longest else piece.step) piece.left;
  };
  more = if piece.follows && not piece.writes then 1 else piece.more;
  tag = piece.tag;
}

-- the registers behind it, of which `next` has values below `limit`
abbrev pub behind_piece : ℕ → ℕ → Held → Piece → Bool → Held
behind_piece bytes limit held piece taken = record {
  left = if taken then (if piece.follows then piece.left - piece.step else 0) else held.left;
  next = if taken then (piece.address + piece.step * bytes) % limit else held.next;
  reads = if taken then one_if (not piece.writes) else held.reads;
  enables = piece.enables;
  more = piece.more;
  tag = piece.tag;
}

-- ---- its nets

pub record ArePieceNets (netlist : Netlist) (piece : PieceNets) : Type 0 where
  pub sends : IsBit netlist piece.sends
  pub shows : IsBit netlist piece.shows
  pub writes : IsBit netlist piece.writes
  pub left : IsNet netlist piece.left
  pub address : IsNet netlist piece.address
  pub step : IsNetOfWidth netlist piece.step piece.left.width
  pub follows : IsBit netlist piece.follows
  pub enables : IsNet netlist piece.enables
  pub more : IsBit netlist piece.more
  pub tag : IsNet netlist piece.tag

-- they are as wide as the registers that keep them
pub record FitsRegisters (r : CutterRegisters) (piece : PieceNets) : Type 0 where
  pub left : piece.left.width ≡ r.left.width
  pub address : piece.address.width ≡ r.next.width
  pub enables : piece.enables.width ≡ r.enables.width
  pub tag : piece.tag.width ≡ r.tag.width

abbrev pub piece_in : Cycle → PieceNets → Piece
piece_in cycle piece = record {
  sends = is_raised (cycle.net piece.sends.number);
  shows = is_raised (cycle.net piece.shows.number);
  writes = is_raised (cycle.net piece.writes.number);
  left = cycle.net piece.left.number;
  address = cycle.net piece.address.number;
  step = cycle.net piece.step.number;
  follows = is_raised (cycle.net piece.follows.number);
  enables = cycle.net piece.enables.number;
  more = cycle.net piece.more.number;
  tag = cycle.net piece.tag.number;
}

-- ---- what stands lasts. No contract reads these proofs

pub registers_last : (a b : Netlist) (r : CutterRegisters) → Extends a b → AreRegisters a r → AreRegisters b r
registers_last a b r e h = record {
  left = e.nets r.left.number r.left.width h.left;
  next = e.nets r.next.number r.next.width h.next;
  reads = net_lasts a b r.reads 1 e h.reads;
  enables = e.nets r.enables.number r.enables.width h.enables;
  more = net_lasts a b r.more 1 e h.more;
  tag = e.nets r.tag.number r.tag.width h.tag;
}

pub piece_lasts : (a b : Netlist) (piece : PieceNets) → Extends a b → ArePieceNets a piece → ArePieceNets b piece
piece_lasts a b piece e h = record {
  sends = net_lasts a b piece.sends 1 e h.sends;
  shows = net_lasts a b piece.shows 1 e h.shows;
  writes = net_lasts a b piece.writes 1 e h.writes;
  left = e.nets piece.left.number piece.left.width h.left;
  address = e.nets piece.address.number piece.address.width h.address;
  step = net_lasts a b piece.step piece.left.width e h.step;
  follows = net_lasts a b piece.follows 1 e h.follows;
  enables = e.nets piece.enables.number piece.enables.width h.enables;
  more = net_lasts a b piece.more 1 e h.more;
  tag = e.nets piece.tag.number piece.tag.width h.tag;
}
