-- The nets of a gatherer, and that they are one.
use Rattle.std.specs.Prelude.{ℕ, ◌*◌, ◌^◌, ◌<◌, ◌≤◌, ◌≡◌}
use Rattle.netlist.specs.Nets.{NetValue}
use Rattle.netlist.specs.Netlists.{Netlist}
use Rattle.netlist.specs.Runs.{Run, IsEndlessRun}
use Rattle.netlist.specs.Longer.{Extends}
use Rattle.stream_runs.specs.Source.{IsLegalSource}
use Rattle.routed_runs.specs.Gathered.{Gatherer, GathererRun, input_side, IsGathered}
use Rattle.st_gather.specs.declared.words.WordNets.{WordNets}
use Rattle.st_gather.specs.declared.gather.GathererShape.{GathererShape}
use Rattle.st_gather.specs.declared.gather.GathererNets.{GathererNets}
use Rattle.st_gather.specs.Words.{word_view}

-- its numbers are in their ranges
pub record IsShape (shape : GathererShape) : Type 0 where
  pub some_channels : 1 ≤ shape.channels
  pub most_channels : shape.channels ≤ 16
  pub channels : shape.channels ≤ 2 ^ shape.channel_bits
  pub some_channel : 1 ≤ shape.channel_bits
  pub few_channels : shape.channel_bits ≤ 4
  pub some_bit : 1 ≤ shape.word_bits
  pub some_parts : 2 ≤ shape.parts
  pub few_parts : shape.parts ≤ 16
  pub narrow : shape.word_bits * shape.parts ≤ 128

-- the gatherer has this shape
pub record HasShape (gatherer : Gatherer) (shape : GathererShape) : Type 0 where
  pub channels : gatherer.channels ≡ shape.channels
  pub symbols : 0 < gatherer.symbols
  pub word : gatherer.bits * gatherer.symbols ≡ shape.word_bits
  pub parts : gatherer.parts ≡ shape.parts

-- a run of a gatherer: what its input shows, and the beat of its output on the same channel
abbrev pub gatherer_run : Run → WordNets → NetValue → GathererNets → GathererRun
gatherer_run run from ready made =
    record {
      input = word_view run from made.ready;
      output = word_view run (record { valid = made.valid; word = made.word; channel = from.channel }) ready;
    }

-- in each endless run of each longer netlist they gather as long as the input is legal
abbrev pub GathersInLonger : Netlist → GathererShape → WordNets → NetValue → GathererNets → Type 0
GathersInLonger netlist shape from ready made =
    (longer : Netlist) → Extends netlist longer → (run : Run) → IsEndlessRun longer run
    → (gatherer : Gatherer) → HasShape gatherer shape → (count : ℕ)
    → IsLegalSource (input_side gatherer) (gatherer_run run from ready made).input count
    → IsGathered gatherer (gatherer_run run from ready made) count
