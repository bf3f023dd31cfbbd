use Rattle.std.proofs.Common.{◌≡◌, ◌++◌, drop, string_bytes}
use Rattle.cycle_sim.specs.Sims.{present}
use Rattle.replays.specs.Traces.{ports_text}
use Rattle.replays.proofs.traces.put_ports.Given as goal

-- what is written and what the ports left are to give is what all of them are to give
abbrev pub invariant-loop-k : goal.invariant-loop-k
invariant-loop-k l =
    string_bytes l.text ++ ports_text l.sim.netlist (present l.sim) l.k (drop l.k l.sim.netlist.ports) ≡ string_bytes l.fn.text ++ ports_text l.sim.netlist (present l.sim) 0 l.sim.netlist.ports
