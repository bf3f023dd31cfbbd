-- The nets of an end of packets, and what it shows in a run.
use Rattle.std.specs.Prelude.{ℕ}
use Rattle.netlist.specs.Nets.{NetValue}
use Rattle.netlist.specs.Netlists.{Netlist, IsNet}
use Rattle.netlist.specs.Runs.{Run}
use Rattle.stream_runs.specs.View.{EndView}
use Rattle.net_parts.specs.Nets.{IsBit}
use Rattle.st_mux.specs.declared.packet.PacketNets.{PacketNets}

-- the nets of a beat are nets of this netlist
pub record ArePacketNets (netlist : Netlist) (packet : PacketNets) : Type 0 where
  pub valid : IsBit netlist packet.valid
  pub word : IsNet netlist packet.word
  pub first : IsBit netlist packet.first
  pub last : IsBit netlist packet.last
  pub empty : IsNet netlist packet.empty

-- what an end with these nets shows, with this channel and no error
abbrev pub packet_view : Run → PacketNets → (ℕ → ℕ) → NetValue → EndView
packet_view run packet channel ready = record {
  valid = λ c. run.net c packet.valid.number;
  word = λ c. run.net c packet.word.number;
  channel = channel;
  error = λ c. 0;
  first = λ c. run.net c packet.first.number;
  last = λ c. run.net c packet.last.number;
  empty = λ c. run.net c packet.empty.number;
  ready = λ c. run.net c ready.number;
}
