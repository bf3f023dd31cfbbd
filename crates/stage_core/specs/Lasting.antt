-- What is said of nets lasts in longer netlists. No contract reads a proof of theirs; the laws of stages cite them.
use Rattle.std.specs.Prelude.{ℕ}
use Rattle.netlist.specs.Netlists.{Netlist, IsWaiting}
use Rattle.netlist.specs.Longer.{Extends}
use Rattle.stage_core.specs.declared.beat.BeatNets.{BeatNets}
use Rattle.net_parts.specs.Laws.{net_lasts}
use Rattle.stage_core.specs.Beats.{AreBeatNets}
use Rattle.stage_core.specs.Groups.{IsOfBeat, AreRegisters}

pub beat_lasts : (a b : Netlist) (beat : BeatNets) → Extends a b → AreBeatNets a beat → AreBeatNets b beat
beat_lasts a b beat e h = record {
  valid = net_lasts a b beat.valid 1 e h.valid;
  word = e.nets beat.word.number beat.word.width h.word;
  channel = e.nets beat.channel.number beat.channel.width h.channel;
  error = e.nets beat.error.number beat.error.width h.error;
  first = net_lasts a b beat.first 1 e h.first;
  last = net_lasts a b beat.last 1 e h.last;
  empty = e.nets beat.empty.number beat.empty.width h.empty;
}

pub registers_last : (a b : Netlist) (nets : BeatNets) (from : ℕ) → ((n : ℕ) → IsOfBeat nets n → IsWaiting a n → IsWaiting b n)
    → AreRegisters a nets from → AreRegisters b nets from
registers_last a b nets from wait h = record { numbers = h.numbers; wait = λ n o. wait n o (h.wait n o) }
