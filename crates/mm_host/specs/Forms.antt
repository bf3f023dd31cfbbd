-- The part next to a host: what its two calls leave in a netlist, and that it runs as the machine of a host.
use Rattle.std.specs.Prelude.{◌≡◌, ℕ, ◌*◌, ◌<◌, true, false, if◌then◌else◌, Option, Some, None, ◌⊎◌, ◌&&◌, IsTrue}
use Rattle.histories.specs.History.{is_raised}
use Rattle.iface_roles.specs.declared.records.HostPort.{HostPort}
use Rattle.netlist.specs.Nets.{NetValue}
use Rattle.netlist.specs.Netlists.{Netlist}
use Rattle.netlist.specs.Runs.{Cycle, Run, IsEndlessRun, IsValuation, Always}
use Rattle.netlist.specs.Longer.{Extends}
use Rattle.net_parts.specs.Nets.{IsBit, IsNetOfWidth}
use Rattle.net_parts.specs.Laws.{net_lasts}
use Rattle.memory_runs.specs.Views.{Shape}
use Rattle.memory_runs.specs.Views.Responses.{AreCodes}
use Rattle.memory_parts.specs.Host.{HostState, IsHostMachine}
use Rattle.memory_runs.specs.Sides.{host_side, burst_width}
use Rattle.command_nets.specs.declared.nets.CommandNets.{CommandNets}
use Rattle.command_nets.specs.declared.nets.AnswerNets.{AnswerNets}
use Rattle.command_nets.specs.Nets.{port_in, ShowSame}
use Rattle.command_nets.specs.Ports.{HasNet, value_or, SameLevel, has_lasts}
use Rattle.mm_host.specs.declared.nets.HostNets.{HostNets}
use Rattle.mm_host.specs.declared.nets.HostAnswer.{HostAnswer}
use Rattle.mm_host.specs.declared.fields.Fields.{Fields}
use Rattle.mm_host.specs.declared.host.HeldHost.{HeldHost}
use Rattle.mm_host.specs.Hosts.{AreHostNets, AreFields, ShowFields, host_view}
use Rattle.mm_host.specs.Reads.{owns_reads, AreReadsHeld, ReadsGoOn, is_unbounded, unanswered_in, reads_last, reads_go_on}
use Rattle.mm_host.specs.Writes.{owns_writes, AreWritesHeld, WritesGoOn, writes_last, writes_go_on}

-- ---- after the first call

-- the numbers of the registers
abbrev pub owns : HeldHost → ℕ → Type 0
owns held n = owns_reads held.reads n ⊎ owns_writes held.writes n

abbrev pub command_of : Fields → NetValue → NetValue → CommandNets
command_of fields shown more =
    record {
      read =
          shown;
      write =
          fields.write;
      address =
          fields.address;
      word = fields.word;
      enables = fields.enables;
      count = fields.count;
      more = more;
      tag = fields.tag;
    }

-- what the host alone determines
abbrev pub fields_of : HeldHost → Fields
fields_of held = record {
  read = held.read;
  write = held.command.write;
  address = held.command.address;
  word = held.command.word;
  enables = held.command.enables;
  count = held.command.count;
  tag = held.command.tag;
}

-- the command is the host's, its reads are bounded, and its beats are joined
pub record IsHeld (netlist : Netlist) (port : HostPort) (held : HeldHost) : Type 0 where
  pub host : AreHostNets netlist port held.nets
  pub shown : IsBit netlist held.command.read
  pub more : IsBit netlist held.command.more
  pub fields : AreFields netlist port (fields_of held)
  pub values : Always netlist (ShowFields port held.nets (fields_of held))
  pub reads : AreReadsHeld netlist port held.read held.command.read held.reads
  pub writes : AreWritesHeld netlist port held.command.write held.command.count held.command.more held.writes
  pub apart : (n : ℕ) → owns_reads held.reads n → owns_writes held.writes n → ⊥

-- a host gives the same in both cycles
pub record GivesSame (nets : HostNets) (one other : Cycle) : Type 0 where
  pub address : one.net nets.address.number ≡ other.net nets.address.number
  pub read : SameLevel nets.read one other
  pub write : SameLevel nets.write one other
  pub writedata : SameLevel nets.writedata one other
  pub byteenable : SameLevel nets.byteenable one other
  pub burstcount : SameLevel nets.burstcount one other

-- the command doesn't depend on the wait or the answer of its cycle
abbrev pub IgnoresAnswer : Netlist → HeldHost → Type 0
IgnoresAnswer netlist held =
    (one other : Cycle) → IsValuation netlist one → IsValuation netlist other
    → ((n : ℕ) → owns held n → one.net n ≡ other.net n) → GivesSame held.nets one other → ShowSame held.command one other

-- ---- after the second call

-- what the host is told, where it has the port
pub record AreAnswersTo (netlist : Netlist) (port : HostPort) (made : HostAnswer) : Type 0 where
  pub waitrequest : IsBit netlist made.waitrequest
  pub readdata : IsNetOfWidth netlist made.readdata (port.word_bytes * 8)
  pub readdatavalid : HasNet netlist port.readdatavalid 1 made.readdatavalid
  pub response : HasNet netlist port.response 2 made.response

abbrev pub valid_of : HostPort → NetValue → Option NetValue
valid_of port valid = if port.readdatavalid then Some valid else None

-- the code of a word that comes, where the host has the port; 0 without a word
abbrev pub response_in : HostPort → AnswerNets → Cycle → ℕ
response_in port answer cycle =
    if port.response && is_raised (cycle.net answer.valid.number) then cycle.net answer.code.number else 0

pub record HostGoesOn (netlist : Netlist) (held : HeldHost) (port : HostPort) (wait : NetValue) (answer : AnswerNets)
    (made : HostAnswer) : Type 0 where
  pub reads : ReadsGoOn netlist held.read held.command.count held.command.read wait answer.valid made.waitrequest held.reads
  pub writes : WritesGoOn netlist held.command.write wait held.writes
  pub word : made.readdata ≡ answer.word
  pub valid : made.readdatavalid ≡ valid_of port answer.valid
  pub response : Always netlist (λ cycle. value_or 0 made.response cycle ≡ response_in port answer cycle)

-- the shape of the side below: addresses count bytes, and each lane has its enable
abbrev pub shape_below : HostPort → Shape
shape_below port =
    record { word_bytes = port.word_bytes; unit_bytes = 1; burst_bits = burst_width port.burst_bits; has_enables = true }

-- the run has a state with which it is one of the machine of a host
pub record IsHostRun (port : HostPort) (held : HeldHost) (wait : NetValue) (answer : AnswerNets) (made : HostAnswer) (run : Run)
    (end : ℕ) : Type 0 where
  pub state : HostState
  pub machine : IsHostMachine AreCodes (host_side port) (host_view port held.nets made run)
      (port_in (shape_below port) run held.command wait answer) state end

-- so is each endless run of each longer netlist
abbrev pub RunsAsHost : Netlist → HostPort → HeldHost → NetValue → AnswerNets → HostAnswer → Type 0
RunsAsHost netlist port held wait answer made =
    (longer : Netlist) → Extends netlist longer → (run : Run) → IsEndlessRun longer run → (end : ℕ)
    → IsHostRun port held wait answer made run end

-- where nothing next to the host bounds its reads, fewer than 16 are unanswered in each cycle before `end`
abbrev pub IsBoundedBelow : HeldHost → NetValue → AnswerNets → Run → ℕ → Type 0
IsBoundedBelow held wait answer run end =
    IsTrue (is_unbounded held.reads) → (c : ℕ) → c < end → unanswered_in run held.command.read wait answer.valid c < 16

-- each endless run of each longer netlist is one of the machine of a host while its reads are bounded
abbrev pub RunsAsHostWhile : Netlist → HostPort → HeldHost → NetValue → AnswerNets → HostAnswer → Type 0
RunsAsHostWhile netlist port held wait answer made =
    (longer : Netlist) → Extends netlist longer → (run : Run) → IsEndlessRun longer run → (end : ℕ)
    → IsBoundedBelow held wait answer run end → IsHostRun port held wait answer made run end

-- a host whose reads are bounded next to it runs whatever stands below
pub bounded_hosts_run : (netlist : Netlist) (port : HostPort) (held : HeldHost) (wait : NetValue) (answer : AnswerNets)
    (made : HostAnswer)
    → is_unbounded held.reads ≡ false → RunsAsHostWhile netlist port held wait answer made
    → RunsAsHost netlist port held wait answer made
bounded_hosts_run netlist port held wait answer made bounded h longer e run endless end =
    h longer e run endless end (λ some. absurd (let none = bounded in cc))

-- ---- what stands lasts. No contract reads these proofs; the laws of a host cite them

pub host_lasts : (old new : Netlist) (port : HostPort) (nets : HostNets) → AreHostNets old port nets → Extends old new
    → AreHostNets new port nets
host_lasts old new port nets h e = record {
  address = net_lasts old new nets.address port.address_bits e h.address;
  read = has_lasts old new port.reads 1 nets.read h.read e;
  write = has_lasts old new port.writes 1 nets.write h.write e;
  writedata = has_lasts old new port.writes (port.word_bytes * 8) nets.writedata h.writedata e;
  byteenable = has_lasts old new port.enables port.word_bytes nets.byteenable h.byteenable e;
  burstcount = has_lasts old new _ (burst_width port.burst_bits) nets.burstcount h.burstcount e;
}

pub fields_last : (old new : Netlist) (port : HostPort) (made : Fields) → AreFields old port made → Extends old new
    → AreFields new port made
fields_last old new port made h e = record {
  read = net_lasts old new made.read 1 e h.read;
  write = net_lasts old new made.write 1 e h.write;
  address = e.nets made.address.number made.address.width h.address;
  reaches = h.reaches;
  word = net_lasts old new made.word (port.word_bytes * 8) e h.word;
  enables = net_lasts old new made.enables port.word_bytes e h.enables;
  count = net_lasts old new made.count (burst_width port.burst_bits) e h.count;
  tag = net_lasts old new made.tag 1 e h.tag;
}

pub held_lasts : (old new : Netlist) (port : HostPort) (held : HeldHost) → IsHeld old port held → Extends old new
    → IsHeld new port held
held_lasts old new port held h e = record {
  host = host_lasts old new port held.nets h.host e;
  shown = net_lasts old new held.command.read 1 e h.shown;
  more = net_lasts old new held.command.more 1 e h.more;
  fields = fields_last old new port (fields_of held) h.fields e;
  values = λ cycle v. h.values cycle (e.valuations cycle v);
  reads = reads_last old new port held.read held.command.read held.reads h.reads e;
  writes = writes_last old new port held.command.write held.command.count held.command.more held.writes h.writes e;
  apart = h.apart;
}

pub goes_on_lasts : (old new : Netlist) (held : HeldHost) (port : HostPort) (wait : NetValue) (answer : AnswerNets)
    (made : HostAnswer)
    → HostGoesOn old held port wait answer made → Extends old new → HostGoesOn new held port wait answer made
goes_on_lasts old new held port wait answer made g e = record {
  reads =
      reads_go_on old new held.read held.command.count held.command.read wait answer.valid made.waitrequest held.reads g.reads e;
  writes = writes_go_on old new held.command.write wait held.writes g.writes e;
  word = g.word;
  valid = g.valid;
  response = λ cycle v. g.response cycle (e.valuations cycle v);
}
