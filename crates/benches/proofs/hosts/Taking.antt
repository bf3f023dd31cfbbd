-- What a run shows of a host of a bench.
use Rattle.std.proofs.Common.{◌≡◌, ◌*◌, ℕ, Option, Some, None, refl, sym, subst}
use Rattle.system_tables.specs.Tables.{SystemTable}
use Rattle.netlist.specs.Netlists.{Netlist}
use Rattle.netlist.specs.Runs.{Run}
use Rattle.cycle_sim.specs.Sims.{SimValue}
use Rattle.port_tables.specs.Ports.{ports_of}
use Rattle.port_tables.specs.PortMaps.{HasKnownPorts}
use Rattle.port_rows.specs.Rows.{level_of}
use Rattle.port_rows.specs.declared.host_ends.places.HostPorts.{HostPorts}
use Rattle.benches.specs.Outputs.{IsOutputIf, level_now}
use Rattle.benches.specs.Present.{IsPresent}
use Rattle.benches.specs.Hosts.{BenchHostValue, Fits, IsHostOf}
use Rattle.benches.proofs.hosts.HostEnds.{host_output}
use Rattle.benches.proofs.hosts.Widths.{few_bits, output_within}

pub host_fits : (system : SystemTable) (number : ℕ) (host : BenchHostValue) (sim : SimValue) → HasKnownPorts system → sim.netlist.ports ≡ ports_of system
    → IsHostOf system number host → Fits host sim
host_fits system number host sim known same of =
    let port = host.stand_in.port in
    let end = of.at.end in
    record {
      wait =
          subst (λ (ports : HostPorts). IsOutputIf sim.netlist 1 ports.wait) (sym of.ports)
          (output_within sim.netlist (ports_of system) _ 1 _ same (few_bits port.waitrequest 1) (host_output system number end port 6 _ known of.at.end_is of.at.is refl refl));
      valid =
          subst (λ (ports : HostPorts). IsOutputIf sim.netlist 1 ports.valid) (sym of.ports)
          (output_within sim.netlist (ports_of system) _ 1 _ same (few_bits port.readdatavalid 1) (host_output system number end port 8 _ known of.at.end_is of.at.is refl refl));
      word =
          subst (λ (ports : HostPorts). IsOutputIf sim.netlist (8 * port.word_bytes) ports.word) (sym of.ports)
          (output_within sim.netlist (ports_of system) _ (8 * port.word_bytes) _ same (few_bits port.reads (8 * port.word_bytes)) (host_output system number end port 7 _ known of.at.end_is of.at.is refl refl));
      response =
          subst (λ (ports : HostPorts). IsOutputIf sim.netlist 2 ports.response) (sym of.ports)
          (output_within sim.netlist (ports_of system) _ 2 _ same (few_bits port.response 2) (host_output system number end port 9 _ known of.at.end_is of.at.is refl refl));
    }

-- the level at a port in a cycle is that in the present one
pub level_is : (netlist : Netlist) (run : Run) (c absent : ℕ) (sim : SimValue) (port : Option ℕ) → sim.netlist ≡ netlist → IsPresent run c sim
    → level_of netlist run c absent port ≡ level_now sim absent port
level_is netlist run c absent sim None same shown = refl
level_is netlist run c absent sim (Some port) same shown = rw (← same) (shown _)
