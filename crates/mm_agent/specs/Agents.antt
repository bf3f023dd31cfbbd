-- The nets at the ports of an agent, what they are in a run, and the nets that are made for it.
use Rattle.std.specs.Prelude.{◌≡◌, ℕ, ◌*◌, ◌%◌, Bool, true, not, ◌&&◌, ◌||◌, nat_eq, nat_lt, if◌then◌else◌, Option, Some, None}
use Rattle.iface_roles.specs.declared.records.AgentPort.{AgentPort}
use Rattle.iface_roles.specs.Proper.{span_of}
use Rattle.netlist.specs.Nets.{NetValue}
use Rattle.netlist.specs.Netlists.{Netlist}
use Rattle.netlist.specs.Runs.{Cycle, Run, cycle_of, Always}
use Rattle.netlist.specs.Longer.{Extends}
use Rattle.net_parts.specs.Nets.{IsBit, IsNetOfWidth}
use Rattle.memory_runs.specs.Views.{Shape, Signals, AgentView}
use Rattle.memory_runs.specs.Commands.{byte_address}
use Rattle.memory_runs.specs.Sides.{unit_of, burst_width}
use Rattle.command_nets.specs.declared.nets.CommandNets.{CommandNets}
use Rattle.command_nets.specs.declared.nets.AnswerNets.{AnswerNets}
use Rattle.command_nets.specs.Nets.{AreAnswerNets}
use Rattle.command_nets.specs.Ports.{HasNet, value_or, all_ones, has_lasts}
use Rattle.mm_agent.specs.declared.nets.AgentNets.{AgentNets}
use Rattle.mm_agent.specs.declared.nets.AgentMade.{AgentMade}

abbrev pub has_address : AgentPort → Bool
has_address port = not (nat_eq port.address_bits 0)

abbrev pub bursts : AgentPort → Bool
bursts port = not (nat_eq port.burst_bits 0)

-- a read may ask for more than one word. A burstcount of one bit is always 1
abbrev pub counts_words : AgentPort → Bool
counts_words port = nat_lt 1 port.burst_bits

-- no beat stands before it is accepted
pub record AcceptsAtOnce (port : AgentPort) : Type 0 where
  pub read : port.read_wait ≡ 0
  pub write : port.write_wait ≡ 0

-- unanswered reads are to be kept in a queue: they are of several hosts or have several words, and words answer them at any time
abbrev pub needs_queue : Bool → AgentPort → Bool
needs_queue several port = (several || counts_words port) && (port.reads && port.readdatavalid)

-- the net that tells how many words a read asks for, where it may be more than one
abbrev pub count_of : AgentPort → CommandNets → Option NetValue
count_of port command = if counts_words port then Some command.count else None

-- how many bits tell that, on a net of such a width
abbrev pub count_bits : AgentPort → ℕ → Option ℕ
count_bits port width = if counts_words port then Some width else None

-- what an agent gives
pub record AreAgentNets (netlist : Netlist) (port : AgentPort) (nets : AgentNets) : Type 0 where
  pub waitrequest : HasNet netlist port.waitrequest 1 nets.waitrequest
  pub readdata : HasNet netlist port.reads (port.word_bytes * 8) nets.readdata
  pub readdatavalid : HasNet netlist port.readdatavalid 1 nets.readdatavalid
  pub response : HasNet netlist port.response 2 nets.response

-- each command bears this one tag, as where one host is joined
pub record BearsOneTag (netlist : Netlist) (command : CommandNets) : Type 0 where
  pub tag : ℕ
  pub always : Always netlist (λ cycle. cycle.net command.tag.number ≡ tag)

-- the side above: the agent's words and bursts, addresses that count bytes, and an enable for each lane
abbrev pub shape_above : AgentPort → Shape
shape_above port =
    record { word_bytes = port.word_bytes; unit_bytes = 1; burst_bits = burst_width port.burst_bits; has_enables = true }

-- `placed`, in the agent's unit, is the offset in its span of the word at a byte address
abbrev pub PlacesAddress : AgentPort → ℕ → ℕ → Type 0
PlacesAddress port address placed =
    placed * unit_of port.byte_units port.word_bytes ≡ byte_address (shape_above port) address % span_of port

-- words go on in their cycle, with their codes
pub record GivesAnswer (nets : AgentNets) (answer : AnswerNets) (cycle : Cycle) : Type 0 where
  pub valid : cycle.net answer.valid.number ≡ value_or 0 nets.readdatavalid cycle
  pub word : cycle.net answer.word.number ≡ value_or 0 nets.readdata cycle
  pub code : cycle.net answer.code.number ≡ value_or 0 nets.response cycle

abbrev pub read_of : AgentPort → NetValue → Option NetValue
read_of port shown = if port.reads then Some shown else None

-- what is made
pub record AreMadeNets (netlist : Netlist) (port : AgentPort) (command : CommandNets) (made : AgentMade) : Type 0 where
  pub address : HasNet netlist (has_address port) port.address_bits made.address
  pub read : HasNet netlist port.reads 1 made.read
  pub waitrequest : IsBit netlist made.waitrequest
  pub answer : AreAnswerNets netlist made.answer (port.word_bytes * 8)
  pub answer_tag : IsNetOfWidth netlist made.answer_tag command.tag.width

-- what an agent is shown in a run: byte enables that are all ones and the count 1 where it has no such port, and 0 for each other
-- port
abbrev pub agent_signals : AgentPort → CommandNets → AgentMade → Run → Signals
agent_signals port command made run = record {
  read = λ c. value_or 0 made.read (cycle_of run c);
  write = λ c. if port.writes then run.net c command.write.number else 0;
  address = λ c. value_or 0 made.address (cycle_of run c);
  word = λ c. if port.writes then run.net c command.word.number else 0;
  enables = λ c. if port.enables then run.net c command.enables.number else all_ones port.word_bytes;
  count = λ c. if bursts port then run.net c command.count.number else 1;
}

-- what a run shows at the agent
abbrev pub agent_view : AgentPort → AgentNets → CommandNets → AgentMade → Run → AgentView
agent_view port nets command made run = record {
  signals = agent_signals port command made run;
  waitrequest = λ c. value_or 0 nets.waitrequest (cycle_of run c);
  readdata = λ c. value_or 0 nets.readdata (cycle_of run c);
  readdatavalid = λ c. value_or 0 nets.readdatavalid (cycle_of run c);
  response = λ c. value_or 0 nets.response (cycle_of run c);
  grant = λ c. run.net c command.tag.number;
}

-- ---- what stands lasts. No contract reads these proofs; the laws of an agent cite them

pub agent_lasts : (old new : Netlist) (port : AgentPort) (nets : AgentNets) → AreAgentNets old port nets → Extends old new
    → AreAgentNets new port nets
agent_lasts old new port nets h e = record {
  waitrequest = has_lasts old new port.waitrequest 1 nets.waitrequest h.waitrequest e;
  readdata = has_lasts old new port.reads (port.word_bytes * 8) nets.readdata h.readdata e;
  readdatavalid = has_lasts old new port.readdatavalid 1 nets.readdatavalid h.readdatavalid e;
  response = has_lasts old new port.response 2 nets.response h.response e;
}
