-- What stands at the ports of a netlist in a run.
use Rattle.std.specs.Prelude.{ℕ, List, Option, option_map, unwrap_or}
use Rattle.std.specs.List.{position_from}
use Rattle.std.specs.Str.{bytes_eq}
use Rattle.netlist.specs.declared.line.PortLine.{PortLine}
use Rattle.netlist.specs.Netlists.{Netlist, driver_of, input_net}
use Rattle.netlist.specs.Runs.{Run}

-- the net at port k: the one that drives an output, and an input's own
abbrev pub port_net : Netlist → ℕ → ℕ
port_net netlist k = unwrap_or (driver_of netlist k) (input_net netlist.ports k)

-- the value at port k in a cycle of a run
abbrev pub port_value : Netlist → Run → ℕ → ℕ → ℕ
port_value netlist run c k = run.net c (port_net netlist k)

-- the number of the port with this name
abbrev pub port_named : List PortLine → List ℕ → Option ℕ
port_named ports name = position_from (λ (port : PortLine). bytes_eq port.name name) 0 ports

-- the signal at the port with this name, as a function of the cycle
abbrev pub signal : Netlist → Run → List ℕ → Option (ℕ → ℕ)
signal netlist run name = option_map (λ k. λ c. port_value netlist run c k) (port_named netlist.ports name)
