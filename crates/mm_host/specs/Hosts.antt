-- The nets at the ports of a host, and what they show.
use Rattle.std.specs.Prelude.{◌≡◌, ◌*◌, ◌^◌, Bool, not, ◌&&◌, nat_eq}
use Rattle.iface_roles.specs.declared.records.HostPort.{HostPort}
use Rattle.iface_roles.specs.Proper.{range_of}
use Rattle.netlist.specs.Netlists.{Netlist, IsNet}
use Rattle.netlist.specs.Runs.{Cycle, Run, cycle_of}
use Rattle.net_parts.specs.Nets.{IsBit, IsNetOfWidth}
use Rattle.memory_runs.specs.Views.{Signals, HostView}
use Rattle.memory_runs.specs.Commands.{byte_address}
use Rattle.memory_runs.specs.Sides.{host_side, burst_width}
use Rattle.command_nets.specs.Ports.{HasNet, value_or, all_ones}
use Rattle.mm_host.specs.declared.nets.HostNets.{HostNets}
use Rattle.mm_host.specs.declared.nets.HostAnswer.{HostAnswer}
use Rattle.mm_host.specs.declared.fields.Fields.{Fields}

abbrev pub bursts : HostPort → Bool
bursts port = not (nat_eq port.burst_bits 0)

-- the host may have several reads unanswered, each of one word
abbrev pub reads_words : HostPort → Bool
reads_words port = port.readdatavalid && nat_eq port.burst_bits 0

-- what a host gives
pub record AreHostNets (netlist : Netlist) (port : HostPort) (nets : HostNets) : Type 0 where
  pub address : IsNetOfWidth netlist nets.address port.address_bits
  pub read : HasNet netlist port.reads 1 nets.read
  pub write : HasNet netlist port.writes 1 nets.write
  pub writedata : HasNet netlist port.writes (port.word_bytes * 8) nets.writedata
  pub byteenable : HasNet netlist port.enables port.word_bytes nets.byteenable
  pub burstcount : HasNet netlist (bursts port) (burst_width port.burst_bits) nets.burstcount

-- what a host gives in a run: byte enables that are all ones and the count 1 where it has no such port, and 0 for each other port
abbrev pub host_signals : HostPort → HostNets → Run → Signals
host_signals port nets run = record {
  read = λ c. value_or 0 nets.read (cycle_of run c);
  write = λ c. value_or 0 nets.write (cycle_of run c);
  address = λ c. run.net c nets.address.number;
  word = λ c. value_or 0 nets.writedata (cycle_of run c);
  enables = λ c. value_or (all_ones port.word_bytes) nets.byteenable (cycle_of run c);
  count = λ c. value_or 1 nets.burstcount (cycle_of run c);
}

-- what a run shows at the host
abbrev pub host_view : HostPort → HostNets → HostAnswer → Run → HostView
host_view port nets answer run = record {
  signals = host_signals port nets run;
  waitrequest = λ c. run.net c answer.waitrequest.number;
  readdata = λ c. run.net c answer.readdata.number;
  readdatavalid = λ c. value_or 0 answer.readdatavalid (cycle_of run c);
  response = λ c. value_or 0 answer.response (cycle_of run c);
}

-- the nets of a command that the host alone determines
pub record AreFields (netlist : Netlist) (port : HostPort) (made : Fields) : Type 0 where
  pub read : IsBit netlist made.read
  pub write : IsBit netlist made.write
  pub address : IsNet netlist made.address
  pub reaches : 2 ^ made.address.width ≡ range_of port
  pub word : IsNetOfWidth netlist made.word (port.word_bytes * 8)
  pub enables : IsNetOfWidth netlist made.enables port.word_bytes
  pub count : IsNetOfWidth netlist made.count (burst_width port.burst_bits)
  pub tag : IsBit netlist made.tag

-- and what they are in a cycle
pub record ShowFields (port : HostPort) (nets : HostNets) (made : Fields) (cycle : Cycle) : Type 0 where
  pub read : cycle.net made.read.number ≡ value_or 0 nets.read cycle
  pub write : cycle.net made.write.number ≡ value_or 0 nets.write cycle
  pub address : cycle.net made.address.number ≡ byte_address (host_side port).shape (cycle.net nets.address.number)
  pub word : cycle.net made.word.number ≡ value_or 0 nets.writedata cycle
  pub enables : cycle.net made.enables.number ≡ value_or (all_ones port.word_bytes) nets.byteenable cycle
  pub count : cycle.net made.count.number ≡ value_or 1 nets.burstcount cycle
  pub tag : cycle.net made.tag.number ≡ 0
