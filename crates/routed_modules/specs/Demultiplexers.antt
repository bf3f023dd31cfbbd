-- What the module of a demultiplexer must be: its name, its ports, and what every run of it does.
use Rattle.std.specs.Prelude.{◌≡◌, ℕ, ◌*◌, ◌≤◌, Bool, true, false, List, ◌++◌, codes, length, Option, Some, None, slice_index_or}
use Rattle.histories.specs.History.{before}
use Rattle.netlist.specs.declared.line.PortLine.{PortLine}
use Rattle.netlist.specs.Nets.{NetValue}
use Rattle.netlist.specs.Netlists.{Netlist, IsDriven, IsClocked, IsWritten}
use Rattle.netlist.specs.Runs.{Run, IsRun}
use Rattle.stream_runs.specs.Source.{IsLegalSource}
use Rattle.routed_runs.specs.Demultiplexed.{Demultiplexer, DemultiplexerRun, input_side, IsDemultiplexed}
use Rattle.st_mux.specs.declared.packet.PacketNets.{PacketNets}
use Rattle.routed_modules.specs.declared.header.EndPorts.{EndPorts}
use Rattle.routed_modules.specs.Sizes.{bits_for, empty_bits}
use Rattle.routed_modules.specs.Ports.{numbered, end_ports, numbered_ports, end_view}
use Rattle.routed_modules.specs.Drivers.{coming_drivers, going_drivers}

-- so many ends that share, and so many symbols of so many bits a beat
pub record AreSizes (ends symbols bits : ℕ) : Type 0 where
  pub some_ends : 2 ≤ ends
  pub few_ends : ends ≤ 16
  pub some_symbols : 1 ≤ symbols
  pub few_symbols : symbols ≤ 16
  pub some_bits : 1 ≤ bits
  pub narrow : symbols * bits ≤ 128

abbrev pub demultiplexer : ℕ → ℕ → ℕ → Demultiplexer
demultiplexer outputs symbols bits = record { outputs = outputs; symbols = symbols; bits = bits }

-- the ports at the input, and at each output
abbrev pub coming : Demultiplexer → EndPorts
coming demux =
    record {
      word =
          demux.symbols * demux.bits;
      channel = Some (bits_for demux.outputs);
      packets = true;
      empty = empty_bits demux.symbols;
    }

abbrev pub going : Demultiplexer → EndPorts
going demux = record (coming demux) { channel = None }

abbrev pub demultiplexer_ports : Demultiplexer → List PortLine
demultiplexer_ports demux =
    end_ports true (coming demux) (codes "in") ++ numbered_ports false (going demux) (codes "out") demux.outputs

-- what stands at the ports in a run
abbrev pub demultiplexer_at : Demultiplexer → Netlist → Run → DemultiplexerRun
demultiplexer_at demux netlist run =
    record {
      input = end_view netlist run (coming demux) (codes "in");
      outputs = λ k. end_view netlist run (going demux) (numbered (codes "out") k);
    }

-- every run whose input is legal demultiplexes
abbrev pub Demultiplexes : Demultiplexer → Netlist → Type 0
Demultiplexes demux netlist =
    (run : Run) (cycles : ℕ) → IsRun netlist run cycles
    → IsLegalSource (input_side demux) (demultiplexer_at demux netlist run).input cycles
    → IsDemultiplexed demux (demultiplexer_at demux netlist run) cycles

-- the module is that of the demultiplexer
pub record IsDemultiplexerModule (demux : Demultiplexer) (netlist : Netlist) : Type 0 where
  pub name : netlist.name ≡ codes "demux_interconnect"
  pub ports : netlist.ports ≡ demultiplexer_ports demux
  pub few : length netlist.lines ≤ 16384
  pub demultiplexes : Demultiplexes demux netlist

-- and its netlist is whole
pub record IsFilled (demux : Demultiplexer) (netlist : Netlist) : Type 0 where
  pub is : IsDemultiplexerModule demux netlist
  pub driven : IsDriven netlist
  pub clocked : IsClocked netlist
  pub written : IsWritten netlist

-- ---- what drives its ports

-- the beat as an output shows it
abbrev pub shown_at : PacketNets → List NetValue → ℕ → PacketNets
shown_at from valids k = record from { valid = slice_index_or valids k from.valid }

abbrev pub demultiplexer_drivers : PacketNets → NetValue → List NetValue → Bool → List (Option NetValue)
demultiplexer_drivers from ready valids empty =
    coming_drivers ready true empty ++ before (λ k. going_drivers (shown_at from valids k) None empty) (length valids)
