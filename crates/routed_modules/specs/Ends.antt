-- The nets of the inputs at the ends of a module.
use Rattle.std.specs.Prelude.{◌≡◌, ℕ, ◌+◌, ◌*◌, ◌<◌, true, false, List, length, Option, Some, None, unwrap_or, slice_index_or}
use Rattle.std.specs.Option.{is_some}
use Rattle.histories.specs.History.{one_if}
use Rattle.netlist.specs.Nets.{NetValue}
use Rattle.netlist.specs.Netlists.{Netlist, input_net}
use Rattle.netlist.specs.Runs.{Always}
use Rattle.net_parts.specs.Nets.{IsNetOfWidth}
use Rattle.st_mux.specs.declared.packet.PacketNets.{PacketNets}
use Rattle.st_mux.specs.Packets.{ArePacketNets}
use Rattle.st_gather.specs.declared.words.WordNets.{WordNets}
use Rattle.routed_modules.specs.declared.header.EndPorts.{EndPorts}
use Rattle.routed_modules.specs.Ports.{end_ports}
use Rattle.routed_modules.specs.Drivers.{StandsAt}

-- the net is that of the input at this port
pub record IsInputAt (netlist : Netlist) (port width : ℕ) (net : NetValue) : Type 0 where
  pub number : net.number ≡ input_net netlist.ports port
  pub is : IsNetOfWidth netlist net width

-- where there is no port for it the net is always 0
abbrev pub IsInputIf : Netlist → ℕ → Option ℕ → NetValue → Type 0
IsInputIf netlist port (Some width) net = IsInputAt netlist port width net
IsInputIf netlist port None net = Always netlist (λ cycle. cycle.net net.number ≡ 0)

-- how many ports stand before the marks of an end
abbrev pub marks_at : EndPorts → ℕ
marks_at has = 3 + one_if (is_some has.channel)

-- the ports of an end that beats come in at stand from this place on
pub record HasEndAt (netlist : Netlist) (place : ℕ) (has : EndPorts) : Type 0 where
  pub end : List ℕ
  pub stands : StandsAt netlist.ports place (end_ports true has end)

-- the nets are those of the beat at an end whose ports stand there
pub record IsBeatAt (netlist : Netlist) (place : ℕ) (has : EndPorts) (beat : PacketNets) : Type 0 where
  pub valid : IsInputAt netlist (place + 1) 1 beat.valid
  pub word : IsInputAt netlist (place + 2) has.word beat.word
  pub first : IsInputAt netlist (place + marks_at has) 1 beat.first
  pub last : IsInputAt netlist (place + marks_at has + 1) 1 beat.last
  pub empty : IsInputIf netlist (place + marks_at has + 2) has.empty beat.empty

-- and the channel
abbrev pub IsChannelAt : Netlist → ℕ → ℕ → NetValue → Type 0
IsChannelAt netlist place width net = IsInputAt netlist (place + 3) width net

-- the nets are those of the word at an end without packets whose ports stand there
pub record IsWordAt (netlist : Netlist) (place word_bits channel_bits : ℕ) (nets : WordNets) : Type 0 where
  pub valid : IsInputAt netlist (place + 1) 1 nets.valid
  pub word : IsInputAt netlist (place + 2) word_bits nets.word
  pub channel : IsChannelAt netlist place channel_bits nets.channel

-- each of so many ends begins with a ready that comes in, so many ports behind that of the end before
abbrev pub HaveReadies : Netlist → ℕ → ℕ → ℕ → Type 0
HaveReadies netlist place stride count =
    (k : ℕ) → k < count
    → (end : List ℕ) × (has : EndPorts) × StandsAt netlist.ports (place + stride * k) (end_ports false has end)

-- these are the nets of them
pub record AreReadies (netlist : Netlist) (place stride count : ℕ) (nets : List NetValue) : Type 0 where
  pub lengths : length nets ≡ count
  pub each : (k : ℕ) (other : NetValue) → k < count → IsInputAt netlist (place + stride * k) 1 (slice_index_or nets k other)

-- each of so many ends in a row has its ports, so many behind those of the end before
abbrev pub HaveEnds : Netlist → ℕ → EndPorts → ℕ → Type 0
HaveEnds netlist stride has count = (k : ℕ) → k < count → HasEndAt netlist (stride * k) has

-- the nets of the beat at such an end, with an `empty` of one bit where there is no port for it
pub record IsEndBeat (netlist : Netlist) (place : ℕ) (has : EndPorts) (beat : PacketNets) : Type 0 where
  pub nets : ArePacketNets netlist beat
  pub at : IsBeatAt netlist place has beat
  pub wide : beat.empty.width ≡ unwrap_or has.empty 1

-- these are the beats of them
pub record AreBeats (netlist : Netlist) (stride : ℕ) (has : EndPorts) (count : ℕ) (beats : List PacketNets) : Type 0 where
  pub lengths : length beats ≡ count
  pub each : (k : ℕ) (other : PacketNets) → k < count → IsEndBeat netlist (stride * k) has (slice_index_or beats k other)
