-- What the module of a gatherer must be: its name, its ports, and what every run of it does.
use Rattle.std.specs.Prelude.{◌≡◌, ℕ, ◌*◌, ◌≤◌, true, false, List, [], ◌∷◌, ◌++◌, codes, length, Option, Some, None}
use Rattle.netlist.specs.declared.line.PortLine.{PortLine}
use Rattle.netlist.specs.Nets.{NetValue}
use Rattle.netlist.specs.Netlists.{Netlist, IsDriven, IsClocked, IsWritten}
use Rattle.netlist.specs.Runs.{Run, IsRun}
use Rattle.stream_runs.specs.Source.{IsLegalSource}
use Rattle.routed_runs.specs.Gathered.{Gatherer, GathererRun, gathered_symbols, input_side, IsGathered}
use Rattle.st_gather.specs.declared.words.WordNets.{WordNets}
use Rattle.st_gather.specs.declared.gather.GathererNets.{GathererNets}
use Rattle.routed_modules.specs.declared.header.EndPorts.{EndPorts}
use Rattle.routed_modules.specs.Sizes.{bits_for}
use Rattle.routed_modules.specs.Ports.{end_ports, end_view}

-- so many channels, so many symbols of so many bits in a beat that comes, and so many of those in one that goes
pub record AreGathererSizes (channels symbols parts bits : ℕ) : Type 0 where
  pub some_channels : 2 ≤ channels
  pub few_channels : channels ≤ 16
  pub some_symbols : 1 ≤ symbols
  pub few_symbols : symbols ≤ 16
  pub some_parts : 2 ≤ parts
  pub few_parts : parts ≤ 16
  pub some_bits : 1 ≤ bits
  pub few_gathered : symbols * parts ≤ 32
  pub narrow : symbols * parts * bits ≤ 128

abbrev pub gatherer : ℕ → ℕ → ℕ → ℕ → Gatherer
gatherer channels symbols parts bits = record { channels = channels; symbols = symbols; parts = parts; bits = bits }

-- the ports at its input, and at its output
abbrev pub gathered_in : Gatherer → EndPorts
gathered_in g = record { word = g.symbols * g.bits; channel = Some (bits_for g.channels); packets = false; empty = None }

abbrev pub gathered_out : Gatherer → EndPorts
gathered_out g =
    record { word = gathered_symbols g * g.bits; channel = Some (bits_for g.channels); packets = false; empty = None }

abbrev pub gatherer_ports : Gatherer → List PortLine
gatherer_ports g = end_ports true (gathered_in g) (codes "in") ++ end_ports false (gathered_out g) (codes "out")

-- what stands at the ports in a run
abbrev pub gatherer_at : Gatherer → Netlist → Run → GathererRun
gatherer_at g netlist run =
    record {
      input = end_view netlist run (gathered_in g) (codes "in");
      output = end_view netlist run (gathered_out g) (codes "out");
    }

-- every run whose input is legal gathers
abbrev pub Gathers : Gatherer → Netlist → Type 0
Gathers g netlist =
    (run : Run) (cycles : ℕ) → IsRun netlist run cycles → IsLegalSource (input_side g) (gatherer_at g netlist run).input cycles
    → IsGathered g (gatherer_at g netlist run) cycles

-- the module is that of the gatherer
pub record IsGathererModule (g : Gatherer) (netlist : Netlist) : Type 0 where
  pub name : netlist.name ≡ codes "gather_interconnect"
  pub ports : netlist.ports ≡ gatherer_ports g
  pub few : length netlist.lines ≤ 16384
  pub gathers : Gathers g netlist

-- and its netlist is whole
pub record IsGathererWhole (g : Gatherer) (netlist : Netlist) : Type 0 where
  pub is : IsGathererModule g netlist
  pub driven : IsDriven netlist
  pub clocked : IsClocked netlist
  pub written : IsWritten netlist

-- ---- what drives its ports

abbrev pub gatherer_drivers : WordNets → GathererNets → List (Option NetValue)
gatherer_drivers from made =
    Some made.ready ∷ None ∷ None ∷ None ∷ None ∷ Some made.valid ∷ Some made.word ∷ Some from.channel ∷ []
