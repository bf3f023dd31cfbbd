-- What the module of a multiplexer must be: its name, its ports, and what every run of it does.
use Rattle.std.specs.Prelude.{◌≡◌, ℕ, ◌*◌, ◌≤◌, Bool, true, false, List, ◌++◌, codes, length, Option, Some, None, slice_index_or}
use Rattle.histories.specs.History.{before}
use Rattle.netlist.specs.declared.line.PortLine.{PortLine}
use Rattle.netlist.specs.Nets.{NetValue}
use Rattle.netlist.specs.Netlists.{Netlist, IsDriven, IsClocked, IsWritten}
use Rattle.netlist.specs.Runs.{Run, IsRun}
use Rattle.routed_runs.specs.Multiplexed.{Multiplexer, MultiplexerRun, AreLegalInputs, IsMultiplexed}
use Rattle.st_mux.specs.declared.packet.PacketNets.{PacketNets}
use Rattle.routed_modules.specs.declared.header.EndPorts.{EndPorts}
use Rattle.routed_modules.specs.Sizes.{bits_for, empty_bits}
use Rattle.routed_modules.specs.Ports.{numbered, end_ports, numbered_ports, end_view}
use Rattle.routed_modules.specs.Drivers.{coming_drivers, going_drivers}

abbrev pub multiplexer : ℕ → ℕ → ℕ → Multiplexer
multiplexer inputs symbols bits = record { inputs = inputs; symbols = symbols; bits = bits }

-- the ports at each input, and at the output
abbrev pub coming : Multiplexer → EndPorts
coming mux = record { word = mux.symbols * mux.bits; channel = None; packets = true; empty = empty_bits mux.symbols }

abbrev pub going : Multiplexer → EndPorts
going mux = record (coming mux) { channel = Some (bits_for mux.inputs) }

abbrev pub multiplexer_ports : Multiplexer → List PortLine
multiplexer_ports mux = numbered_ports true (coming mux) (codes "in") mux.inputs ++ end_ports false (going mux) (codes "out")

-- what stands at the ports in a run
abbrev pub multiplexer_at : Multiplexer → Netlist → Run → MultiplexerRun
multiplexer_at mux netlist run =
    record {
      inputs = λ i. end_view netlist run (coming mux) (numbered (codes "in") i);
      output = end_view netlist run (going mux) (codes "out");
    }

-- every run whose inputs are legal multiplexes
abbrev pub Multiplexes : Multiplexer → Netlist → Type 0
Multiplexes mux netlist =
    (run : Run) (cycles : ℕ) → IsRun netlist run cycles → AreLegalInputs mux (multiplexer_at mux netlist run) cycles
    → IsMultiplexed mux (multiplexer_at mux netlist run) cycles

-- the module is that of the multiplexer
pub record IsMultiplexerModule (mux : Multiplexer) (netlist : Netlist) : Type 0 where
  pub name : netlist.name ≡ codes "mux_interconnect"
  pub ports : netlist.ports ≡ multiplexer_ports mux
  pub few : length netlist.lines ≤ 16384
  pub multiplexes : Multiplexes mux netlist

-- and its netlist is whole
pub record IsFilled (mux : Multiplexer) (netlist : Netlist) : Type 0 where
  pub is : IsMultiplexerModule mux netlist
  pub driven : IsDriven netlist
  pub clocked : IsClocked netlist
  pub written : IsWritten netlist

-- ---- what drives its ports

abbrev pub multiplexer_drivers : List NetValue → PacketNets → NetValue → Bool → List (Option NetValue)
multiplexer_drivers readies beat channel empty =
    before (λ i. coming_drivers (slice_index_or readies i channel) false empty) (length readies)
    ++ going_drivers beat (Some channel) empty
