-- The ports of modules that lead beats by their channels, and what the ends show on them.
use Rattle.std.specs.Prelude.{ℕ, Bool, true, false, not, List, [], ◌∷◌, ◌++◌, codes, decimal, Option, Some, None, if◌then◌else◌}
use Rattle.std.specs.Option.{is_some}
use Rattle.histories.specs.History.{before}
use Rattle.netlist.specs.declared.line.PortLine.{PortLine}
use Rattle.netlist.specs.Netlists.{Netlist}
use Rattle.netlist.specs.Runs.{Run}
use Rattle.netlist.specs.Signals.{signal}
use Rattle.stream_runs.specs.View.{EndView}
use Rattle.stream_runs.specs.Ends.{view_of}
use Rattle.routed_modules.specs.declared.header.EndPorts.{EndPorts}

-- an end with a number
abbrev pub numbered : List ℕ → ℕ → List ℕ
numbered end number = end ++ decimal number

-- the name of a port: end$st$role
abbrev pub port_name : List ℕ → List ℕ → List ℕ
port_name end role = end ++ (codes "$st$" ++ role)

abbrev pub port_line : List ℕ → List ℕ → ℕ → Bool → PortLine
port_line end role width output = record { name = port_name end role; width = width; output = output }

-- a port of so many bits, where there is one
abbrev pub port_if : List ℕ → List ℕ → Option ℕ → Bool → List PortLine
port_if end role (Some width) output = port_line end role width output ∷ []
port_if end role None output = []

-- the marks of packets, where there are packets
abbrev pub mark_ports : List ℕ → Bool → Bool → List PortLine
mark_ports end true output = port_line end (codes "startofpacket") 1 output ∷ port_line end (codes "endofpacket") 1 output ∷ []
mark_ports end false output = []

-- the ports of an end in the order of their roles. Where beats come in the module drives `ready` alone, and where they go out all
-- the others
abbrev pub end_ports : Bool → EndPorts → List ℕ → List PortLine
end_ports comes has end =
    port_line end (codes "ready") 1 comes
    ∷ port_line end (codes "valid") 1 (not comes)
    ∷ port_line end (codes "data") has.word (not comes)
    ∷ (port_if end (codes "channel") has.channel (not comes)
    ++ (mark_ports end has.packets (not comes) ++ port_if end (codes "empty") has.empty (not comes)))

-- those of so many ends, numbered from 0
abbrev pub numbered_ports : Bool → EndPorts → List ℕ → ℕ → List PortLine
numbered_ports comes has end count = before (λ number. end_ports comes has (numbered end number)) count

-- ---- what an end shows in a run

-- the signal on a port, where the end has it
abbrev pub signal_if : Bool → Netlist → Run → List ℕ → List ℕ → Option (ℕ → ℕ)
signal_if has netlist run end role = if has then signal netlist run (port_name end role) else None

-- what an end shows: 0 on each port that it hasn't
abbrev pub end_view : Netlist → Run → EndPorts → List ℕ → EndView
end_view netlist run has end =
    view_of (record {
      ready = signal netlist run (port_name end (codes "ready"));
      valid = signal netlist run (port_name end (codes "valid"));
      word = signal netlist run (port_name end (codes "data"));
      channel = signal_if (is_some has.channel) netlist run end (codes "channel");
      error = None;
      startofpacket = signal_if has.packets netlist run end (codes "startofpacket");
      endofpacket = signal_if has.packets netlist run end (codes "endofpacket");
      empty = signal_if (is_some has.empty) netlist run end (codes "empty");
    })
