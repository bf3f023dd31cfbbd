-- What a run shows at an input.
use Rattle.std.proofs.Common.{◌≡◌, ℕ, List, Option, Some, None, refl, sym, ap, subst, ◌∙◌}
use Rattle.std.specs.Option.{option_map}
use Rattle.av_base.specs.Word.{Word}
use Rattle.system_tables.specs.declared.tables.EndId.{EndId}
use Rattle.system_tables.specs.Tables.{SystemTable}
use Rattle.netlist.specs.declared.line.PortLine.{PortLine}
use Rattle.netlist.specs.Netlists.{Netlist, IsWellMade, IsInputPort, input_net}
use Rattle.netlist.specs.Runs.{Run, Always, cycle_of}
use Rattle.netlist.specs.Signals.{port_net, port_value, port_named}
use Rattle.cycle_sim.specs.Sims.{bits_at}
use Rattle.stream_runs.specs.Ends.{signal_or}
use Rattle.port_tables.specs.declared.roles.PortRole.{PortRole}
use Rattle.port_tables.specs.Ports.{role_word, port_name, name_at, ports_of}
use Rattle.port_tables.specs.PortMaps.{port_at}
use Rattle.port_rows.specs.Rows.{place_among, level_in, IsGivenRow, IsInputRole, shown_at}

-- an input's net has the input's value
abbrev pub HaveInputs : Type 0
HaveInputs = (netlist : Netlist) → IsWellMade netlist → (k w : ℕ) → IsInputPort netlist.ports k w → Always netlist (λ cycle. cycle.net (port_net netlist k) ≡ cycle.input k)

-- the signal at the port of this number, if there is one
abbrev signal_of : Netlist → Run → Option ℕ → Option (ℕ → ℕ)
signal_of netlist run port = option_map (λ k. λ c. port_value netlist run c k) port

at_port : (system : SystemTable) (netlist : Netlist) (run : Run) (c : ℕ) (row : List Word) → HaveInputs → IsGivenRow system netlist run c row → (absent : ℕ) (port : Option ℕ)
    → ((k : ℕ) → port ≡ Some k → (w : ℕ) × IsInputPort (ports_of system) k w)
    → signal_or absent (signal_of netlist run port) c ≡ level_in row absent (place_among (ports_of system) port)
at_port system netlist run c row law given absent None input = refl
at_port system netlist run c row law given absent (Some k) input =
    let there = input k refl in
    let here : IsInputPort netlist.ports k there.0 = subst (λ (ports : List PortLine). IsInputPort ports k there.0) (sym given.ports) there.1 in
    law netlist given.is_module.well_made k there.0 here (cycle_of run c) given.valuation ∙ given.inputs k there.0 here
    ∙ ap (λ (ports : List PortLine). bits_at row (input_net ports k)) given.ports

pub row_shown : (system : SystemTable) (netlist : Netlist) (run : Run) (c : ℕ) (row : List Word) → HaveInputs → IsGivenRow system netlist run c row
    → (end : EndId) (role : PortRole) (absent : ℕ) → IsInputRole system end role
    → shown_at system netlist run end role absent c ≡ level_in row absent (place_among (ports_of system) (port_at system end role))
row_shown system netlist run c row law given end role absent input =
    ap (λ (ports : List PortLine). signal_or absent (signal_of netlist run (port_named ports (port_name (name_at system end) (role_word role)))) c) given.ports
    ∙ at_port system netlist run c row law given absent (port_at system end role) input
