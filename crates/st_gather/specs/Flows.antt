-- What happens in a gatherer in a cycle, by the counts of its channels.
use Rattle.std.specs.Prelude.{ℕ, ◌+◌, ◌-◌, ◌%◌, ◌^◌, ◌≤◌, ◌≡◌, ◌==◌, not, ◌&&◌, ◌||◌, if◌then◌else◌}
use Rattle.netlist.specs.Nets.{NetValue}
use Rattle.netlist.specs.Netlists.{Netlist}
use Rattle.netlist.specs.Runs.{Always}
use Rattle.net_parts.specs.Nets.{IsBit, IsNetOfWidth, StartsLow, TakesNext}
use Rattle.st_gather.specs.declared.words.WordNets.{WordNets}
use Rattle.st_gather.specs.declared.gather.GathererShape.{GathererShape}
use Rattle.st_gather.specs.declared.gather.FlowNets.{FlowNets}
use Rattle.st_gather.specs.Counts.{field, Picks, AreLater}

-- so many bits count the parts before the last one
pub record IsCountBits (shape : GathererShape) (bits : ℕ) : Type 0 where
  pub some : 1 ≤ bits
  pub few : bits ≤ 4
  pub fits : shape.parts ≤ 2 ^ bits
  pub channels : shape.channels ≤ 16

-- the nets of a flow but its count
pub record IsFlow (netlist : Netlist) (flow : FlowNets) : Type 0 where
  pub last : IsBit netlist flow.last
  pub room : IsBit netlist flow.room
  pub valid : IsBit netlist flow.valid
  pub moves : IsBit netlist flow.moves

-- and with it
pub record AreFlowNets (netlist : Netlist) (bits : ℕ) (flow : FlowNets) : Type 0 where
  pub count : IsNetOfWidth netlist flow.count bits
  pub is : IsFlow netlist flow

-- the count is that of the channel; with the last word a beat goes out, and it comes where the beat is taken
pub record Flows (netlist : Netlist) (shape : GathererShape) (bits : ℕ) (counts : NetValue) (from : WordNets) (ready : NetValue)
    (flow : FlowNets) : Type 0 where
  pub picks : Always netlist (λ cycle. Picks (λ k. field bits k (cycle.net counts.number))
      (cycle.net from.channel.number) shape.channel_bits 0 shape.channels (cycle.net flow.count.number))
  pub last_is : Always netlist (λ cycle. cycle.net flow.last.number
      ≡ (if cycle.net flow.count.number == shape.parts - 1 then 1 else 0))
  pub room_is : Always netlist (λ cycle. (cycle.net flow.room.number == 1)
      ≡ (not (cycle.net flow.last.number == 1) || (cycle.net ready.number == 1)))
  pub valid_is : Always netlist (λ cycle. (cycle.net flow.valid.number == 1)
      ≡ ((cycle.net from.valid.number == 1) && (cycle.net flow.last.number == 1)))
  pub moves_is : Always netlist (λ cycle. (cycle.net flow.moves.number == 1)
      ≡ ((cycle.net from.valid.number == 1) && (cycle.net flow.room.number == 1)))

-- the counts a cycle later: one more for the channel on which a word comes, and 0 behind a beat's last one
pub record CountsOn (netlist : Netlist) (shape : GathererShape) (bits : ℕ) (counts channel : NetValue) (flow : FlowNets)
    (later : NetValue) : Type 0 where
  pub next : NetValue
  pub next_is : Always netlist (λ cycle. cycle.net next.number
      ≡ (if cycle.net flow.last.number == 1 then 0 else (cycle.net flow.count.number + 1) % 2 ^ bits))
  pub later_is : Always netlist (AreLater counts flow.moves channel next bits shape.channels later)

-- so in each run, from counts of 0 on
pub record CountsWords (netlist : Netlist) (shape : GathererShape) (from : WordNets) (ready : NetValue)
    (flow : FlowNets) : Type 0 where
  pub bits : ℕ
  pub fits : shape.parts ≤ 2 ^ bits
  pub counts : NetValue
  pub starts : StartsLow netlist counts
  pub flows : Flows netlist shape bits counts from ready flow
  pub later : NetValue
  pub goes_on : CountsOn netlist shape bits counts from.channel flow later
  pub takes : TakesNext netlist counts later
