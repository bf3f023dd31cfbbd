-- The nets of a beat, and what they show in a cycle and in a run.
use Rattle.std.specs.Prelude.{◌≡◌, ℕ, List, [], ◌∷◌}
use Rattle.netlist.specs.Nets.{NetValue}
use Rattle.netlist.specs.Netlists.{Netlist, IsNet}
use Rattle.netlist.specs.Runs.{Cycle, Run}
use Rattle.stream_runs.specs.View.{Beat, EndView}
use Rattle.net_parts.specs.Nets.{IsBit}
use Rattle.stage_core.specs.declared.beat.BeatNets.{BeatNets}

-- the nets of a beat as a group
abbrev pub group_of : BeatNets → List NetValue
group_of beat = beat.valid ∷ beat.word ∷ beat.channel ∷ beat.error ∷ beat.first ∷ beat.last ∷ beat.empty ∷ []

-- the widths of the nets of a beat that don't always have one bit
pub record Widths : Type 0 where
  pub word : ℕ
  pub channel : ℕ
  pub error : ℕ
  pub empty : ℕ

abbrev pub widths_of : BeatNets → Widths
widths_of beat =
    record { word = beat.word.width; channel = beat.channel.width; error = beat.error.width; empty = beat.empty.width }

-- the nets of a beat are nets of this netlist
pub record AreBeatNets (netlist : Netlist) (beat : BeatNets) : Type 0 where
  pub valid : IsBit netlist beat.valid
  pub word : IsNet netlist beat.word
  pub channel : IsNet netlist beat.channel
  pub error : IsNet netlist beat.error
  pub first : IsBit netlist beat.first
  pub last : IsBit netlist beat.last
  pub empty : IsNet netlist beat.empty

-- the nets of two beats have the same widths
pub record HaveSameWidths (one other : BeatNets) : Type 0 where
  pub valid : one.valid.width ≡ other.valid.width
  pub word : one.word.width ≡ other.word.width
  pub channel : one.channel.width ≡ other.channel.width
  pub error : one.error.width ≡ other.error.width
  pub first : one.first.width ≡ other.first.width
  pub last : one.last.width ≡ other.last.width
  pub empty : one.empty.width ≡ other.empty.width

-- the beat on these nets in a cycle
abbrev pub beat_in : Cycle → BeatNets → Beat
beat_in cycle beat = record {
  word = cycle.net beat.word.number;
  channel = cycle.net beat.channel.number;
  error = cycle.net beat.error.number;
  first = cycle.net beat.first.number;
  last = cycle.net beat.last.number;
  empty = cycle.net beat.empty.number;
}

-- what an end with these nets shows in a run
abbrev pub view_of : Run → BeatNets → NetValue → EndView
view_of run beat ready = record {
  valid = λ c. run.net c beat.valid.number;
  word = λ c. run.net c beat.word.number;
  channel = λ c. run.net c beat.channel.number;
  error = λ c. run.net c beat.error.number;
  first = λ c. run.net c beat.first.number;
  last = λ c. run.net c beat.last.number;
  empty = λ c. run.net c beat.empty.number;
  ready = λ c. run.net c ready.number;
}

-- these nets show the same in both cycles
pub record ShowSame (nets : BeatNets) (one other : Cycle) : Type 0 where
  pub valid : one.net nets.valid.number ≡ other.net nets.valid.number
  pub beat : beat_in one nets ≡ beat_in other nets
