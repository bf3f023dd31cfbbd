-- Beats whose empty counts in each beat.
use Rattle.std.specs.Prelude.{◌≡◌, ℕ, ◌%◌, ◌^◌, ◌==◌, if◌then◌else◌}
use Rattle.stream_runs.specs.View.{Beat}
use Rattle.stage_core.specs.declared.beat.BeatNets.{BeatNets}
use Rattle.stage_core.specs.Groups.{Shown}

-- empty has so many bits, and is 0 where the beat isn't the last of a packet
abbrev pub counted_beat : ℕ → Beat → Beat
counted_beat count beat = record beat { empty = if beat.last == 1 then beat.empty % 2 ^ count else 0 }

abbrev pub counted : ℕ → Shown → Shown
counted count shown = record shown { beat = counted_beat count shown.beat }

-- the nets are as wide as these, but for an empty of so many bits
pub record HaveCountedWidths (count : ℕ) (nets like : BeatNets) : Type 0 where
  pub word : nets.word.width ≡ like.word.width
  pub channel : nets.channel.width ≡ like.channel.width
  pub error : nets.error.width ≡ like.error.width
  pub empty : nets.empty.width ≡ count
