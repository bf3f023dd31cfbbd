-- The answer side of a splitter: what it takes, the word that stands above, and what its registers take.
use Rattle.std.specs.Prelude.{◌≡◌, ℕ, suc, ◌+◌, ◌-◌, ◌*◌, ◌%◌, ◌^◌, ◌<◌, max, Bool, not, ◌&&◌, ◌||◌, nat_lt, if◌then◌else◌}
use Rattle.histories.specs.History.{is_raised, one_if}
use Rattle.netlist.specs.Nets.{NetValue}
use Rattle.netlist.specs.Netlists.{Netlist}
use Rattle.netlist.specs.Runs.{Cycle}
use Rattle.netlist.specs.Longer.{Extends}
use Rattle.net_parts.specs.Nets.{IsBit, IsNetOfWidth}
use Rattle.net_parts.specs.Laws.{net_lasts}
use Rattle.command_nets.specs.declared.nets.CommandNets.{CommandNets}
use Rattle.command_nets.specs.declared.nets.AnswerNets.{AnswerNets}
use Rattle.mm_split.specs.declared.sizes.Sizes.{Sizes}
use Rattle.mm_split.specs.declared.registers.SplitRegisters.{SplitRegisters}
use Rattle.mm_split.specs.declared.command.Part.{Part}
use Rattle.mm_split.specs.declared.answer.Coming.{Coming}
use Rattle.mm_split.specs.declared.answer.Taken.{Taken}
use Rattle.mm_split.specs.Pieces.{is_marked, count_of, fill}
use Rattle.mm_split.specs.Parts.{here_of, stands_whole}

-- the beat above is done with what is taken below
abbrev pub is_done : Cycle → Part → NetValue → Bool
is_done cycle part below =
    is_raised (cycle.net part.opens.number)
    && (is_raised (cycle.net part.above.none.number)
    || (is_raised (cycle.net below.number) && is_raised (cycle.net part.above.last.number)))

pub record AreTakenNets (netlist : Netlist) (taken : Taken) : Type 0 where
  pub waits : IsBit netlist taken.waits
  pub above : IsBit netlist taken.above
  pub below : IsBit netlist taken.below

pub record AreComingNets (netlist : Netlist) (sizes : Sizes) (coming : Coming) : Type 0 where
  pub word : IsNetOfWidth netlist coming.word (2 ^ sizes.wide_bits * 8)
  pub low : IsNetOfWidth netlist coming.low ((sizes.pieces - 1) * (sizes.narrow_bytes * 8))
  pub code : IsNetOfWidth netlist coming.code 2
  pub completes : IsBit netlist coming.completes

-- the first pieces of the word that stands above
abbrev pub filled_to : Sizes → SplitRegisters → AnswerNets → Cycle → ℕ → ℕ
filled_to sizes registers answer cycle count =
    fill (is_marked (here_of sizes (cycle.net registers.set.number) (cycle.net registers.come.number))) (sizes.narrow_bytes * 8)
    (cycle.net registers.word.number) (cycle.net answer.word.number) count

-- the word that stands above with the piece that comes
pub record TellsComing (sizes : Sizes) (registers : SplitRegisters) (answer : AnswerNets) (coming : Coming)
    (cycle : Cycle) : Type 0 where
  pub completes : is_raised (cycle.net coming.completes.number)
      ≡ nat_lt (count_of (is_marked (cycle.net registers.set.number)) sizes.pieces) (suc (suc (cycle.net registers.come.number)))
  pub word : cycle.net coming.word.number
      ≡ cycle.net answer.word.number * 2 ^ ((sizes.pieces - 1) * (sizes.narrow_bytes * 8))
      + (if stands_whole sizes (cycle.net registers.set.number) then cycle.net registers.word.number
      else cycle.net coming.low.number)
  pub low : cycle.net coming.low.number ≡ filled_to sizes registers answer cycle (sizes.pieces - 1)
  pub code : cycle.net coming.code.number ≡ max (cycle.net registers.code.number) (cycle.net answer.code.number)

-- what the registers take
pub record NextAre (sizes : Sizes) (registers : SplitRegisters) (from : CommandNets) (part : Part) (taken : Taken)
    (coming : Coming) (arrives valid : NetValue) (next : SplitRegisters) (cycle : Cycle) : Type 0 where
  pub place : cycle.net next.place.number
      ≡ (if is_raised (cycle.net taken.above.number) then 0
      else if is_raised (cycle.net taken.below.number) then (cycle.net registers.place.number + 1) % 2 ^ sizes.place_bits
      else cycle.net registers.place.number)
  pub set : cycle.net next.set.number
      ≡ (if is_raised (cycle.net taken.below.number) && not (is_raised (cycle.net part.below.write.number))
      then cycle.net part.asked.number else cycle.net registers.set.number)
  pub reads : cycle.net registers.reads.number
      + one_if (is_raised (cycle.net taken.above.number) && not (is_raised (cycle.net from.write.number)))
      < 2 ^ sizes.room_bits
      → cycle.net next.reads.number
      ≡ (cycle.net registers.reads.number
      + one_if (is_raised (cycle.net taken.above.number) && not (is_raised (cycle.net from.write.number))))
      - one_if (is_raised (cycle.net valid.number))
  pub come : cycle.net next.come.number
      ≡ (if is_raised (cycle.net valid.number) then 0
      else if is_raised (cycle.net arrives.number) then (cycle.net registers.come.number + 1) % 2 ^ sizes.place_bits
      else cycle.net registers.come.number)
  pub word : cycle.net next.word.number
      ≡ (if is_raised (cycle.net arrives.number) then cycle.net coming.low.number else cycle.net registers.word.number)
  pub code : cycle.net next.code.number
      ≡ (if is_raised (cycle.net valid.number) then 0
      else if is_raised (cycle.net arrives.number) then cycle.net coming.code.number
      else cycle.net registers.code.number)

-- ---- what stands lasts. No contract reads these proofs

pub coming_lasts : (old new : Netlist) (sizes : Sizes) (coming : Coming) → Extends old new → AreComingNets old sizes coming
    → AreComingNets new sizes coming
coming_lasts old new sizes coming e h = record {
  word = net_lasts old new coming.word (2 ^ sizes.wide_bits * 8) e h.word;
  low = net_lasts old new coming.low ((sizes.pieces - 1) * (sizes.narrow_bytes * 8)) e h.low;
  code = net_lasts old new coming.code 2 e h.code;
  completes = net_lasts old new coming.completes 1 e h.completes;
}

pub taken_lasts : (old new : Netlist) (taken : Taken) → Extends old new → AreTakenNets old taken → AreTakenNets new taken
taken_lasts old new taken e h =
    record {
      waits =
          net_lasts old new taken.waits 1 e h.waits;
      above =
          net_lasts old new taken.above 1 e h.above;
      below = net_lasts old new taken.below 1 e h.below;
    }
