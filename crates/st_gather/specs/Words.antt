-- The words that each channel has, in a memory.
use Rattle.std.specs.Prelude.{ℕ, ◌+◌, ◌-◌, ◌*◌, ◌%◌, ◌^◌, ◌<◌, ◌≡◌, ◌==◌, ◌&&◌, if◌then◌else◌}
use Rattle.netlist.specs.Nets.{NetValue}
use Rattle.netlist.specs.Netlists.{Netlist}
use Rattle.netlist.specs.Runs.{Run, IsRun, Always}
use Rattle.stream_runs.specs.View.{EndView}
use Rattle.net_parts.specs.Nets.{IsBit, IsNetOfWidth}
use Rattle.st_gather.specs.declared.words.WordNets.{WordNets}

-- the nets are those of a word of so many bits on a channel of so many
pub record AreWordNets (netlist : Netlist) (channel_bits word_bits : ℕ) (nets : WordNets) : Type 0 where
  pub valid : IsBit netlist nets.valid
  pub word : IsNetOfWidth netlist nets.word word_bits
  pub channel : IsNetOfWidth netlist nets.channel channel_bits

-- what an end with these nets shows, without packets and errors
abbrev pub word_view : Run → WordNets → NetValue → EndView
word_view run nets ready = record {
  valid = λ c. run.net c nets.valid.number;
  word = λ c. run.net c nets.word.number;
  channel = λ c. run.net c nets.channel.number;
  error = λ c. 0;
  first = λ c. 0;
  last = λ c. 0;
  empty = λ c. 0;
  ready = λ c. run.net c ready.number;
}

-- some memory has words of the channels. The net shows those of the one that is shown and behind them the word that comes, and
-- where a word moves its channel has the latest of these from then on, one fewer than a beat
pub record JoinsWords (netlist : Netlist) (from : WordNets) (channel_bits word_bits parts : ℕ)
    (moves word : NetValue) : Type 0 where
  pub memory : ℕ
  pub fits : Always netlist (λ cycle. (k : ℕ) → k < 2 ^ channel_bits → cycle.cell memory k < 2 ^ (word_bits * (parts - 1)))
  pub shows : Always netlist (λ cycle. cycle.net word.number
      ≡ cycle.cell memory (cycle.net from.channel.number) * 2 ^ word_bits + cycle.net from.word.number)
  pub keeps : (run : Run) (cycles : ℕ) → IsRun netlist run cycles → (c : ℕ) → c + 1 < cycles → (k : ℕ) → k < 2 ^ channel_bits
      → run.cell (c + 1) memory k
      ≡ (if (run.net c moves.number == 1) && (run.net c from.channel.number == k)
      then run.net c word.number % 2 ^ (word_bits * (parts - 1)) else run.cell c memory k)
