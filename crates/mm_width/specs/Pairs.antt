-- What a host and an agent need between them, and what is asked of the host's command.
use Rattle.std.specs.Prelude.{◌≡◌, ℕ, ◌+◌, ◌-◌, ◌*◌, ◌^◌, ◌<◌, ◌≤◌, max, Bool, true, not, ◌&&◌, ◌==◌, if◌then◌else◌, nat_lt}
use Rattle.iface_roles.specs.declared.records.HostPort.{HostPort}
use Rattle.iface_roles.specs.declared.records.AgentPort.{AgentPort}
use Rattle.iface_roles.specs.Proper.{IsWordSize}
use Rattle.memory_runs.specs.Sides.{burst_width}
use Rattle.netlist.specs.Netlists.{Netlist}
use Rattle.netlist.specs.Runs.{Always}
use Rattle.command_nets.specs.declared.nets.CommandNets.{CommandNets}
use Rattle.command_nets.specs.Nets.{Widths}
use Rattle.mm_burst.specs.declared.cutter.Cutter.{Cutter}
use Rattle.mm_burst.specs.CutterNets.{given_widths, lane_exponent}

-- a beat may have no enabled lane, and the agent couldn't see it
abbrev pub needs_drop : HostPort → AgentPort → Bool
needs_drop host agent = host.enables && not agent.enables

-- each beat of the host is one of the agent
abbrev pub keeps_beats : HostPort → AgentPort → Bool
keeps_beats host agent = (host.word_bytes == agent.word_bytes) && not (needs_drop host agent)

-- the host's read bursts are gathered from wide words
abbrev pub packs : HostPort → AgentPort → Bool
packs host agent = nat_lt host.word_bytes agent.word_bytes && nat_lt 1 host.burst_bits

-- else its narrow words are selected from wide ones
abbrev pub selects : HostPort → AgentPort → Bool
selects host agent = nat_lt host.word_bytes agent.word_bytes && not (packs host agent)

-- the bits of a narrow word's place in a wide one, where reads are gathered
abbrev pub place_bits : HostPort → AgentPort → ℕ
place_bits host agent = if packs host agent then lane_exponent agent.word_bytes - lane_exponent host.word_bytes else 0

-- bursts may go on with so many bits of burstcount: the agent's, or where a beat may become none or many, or many one, that of
-- single beats
abbrev pub bits_between : HostPort → AgentPort → ℕ
bits_between host agent = if keeps_beats host agent then burst_width agent.burst_bits else 1

-- the host may have longer ones
abbrev pub needs_cut : HostPort → AgentPort → Bool
needs_cut host agent = nat_lt (bits_between host agent) (burst_width host.burst_bits)

-- a cutter leaves them so many bits: those, and where reads are gathered enough for the narrow words of a wide one
abbrev pub bits_cut : HostPort → AgentPort → ℕ
bits_cut host agent = bits_between host agent + place_bits host agent

-- nothing stands between them
abbrev pub is_wire_pair : HostPort → AgentPort → Bool
is_wire_pair host agent = keeps_beats host agent && not (needs_cut host agent)

-- words and bursts have sizes of the standard, and an agent that is wider than its host has byte enables
pub record MayMeet (host : HostPort) (agent : AgentPort) : Type 0 where
  pub host_word : IsWordSize host.word_bytes
  pub agent_word : IsWordSize agent.word_bytes
  pub host_bursts : host.burst_bits ≤ 11
  pub agent_bursts : agent.burst_bits ≤ 11
  pub lanes : host.word_bytes < agent.word_bytes → agent.enables ≡ true

-- the nets of a host's command have its word and its burstcount, and an address that counts the bytes of a word of either end
pub record MayAskOf (host : HostPort) (agent : AgentPort) (widths : Widths) : Type 0 where
  pub word : widths.word ≡ host.word_bytes * 8
  pub enables : widths.enables ≡ host.word_bytes
  pub count : widths.count ≡ burst_width host.burst_bits
  pub reaches_word : host.word_bytes ≤ 2 ^ widths.address
  pub reaches_agent : agent.word_bytes ≤ 2 ^ widths.address
  pub few : widths.address ≤ 64

-- what cuts the host's bursts, where that is needed
abbrev pub cutter_between : HostPort → AgentPort → Cutter
cutter_between host agent =
    record {
      word_bytes =
          host.word_bytes;
      count_bits =
          max (burst_width host.burst_bits) (bits_cut host agent);
      below_bits =
          bits_cut host agent;
      place_bits = place_bits host agent;
    }

-- below the cutter
abbrev pub widths_between : HostPort → AgentPort → Widths → Widths
widths_between host agent widths = if needs_cut host agent then given_widths (cutter_between host agent) widths else widths

-- the same with the agent's word, and with bursts that may go on
abbrev pub widths_below : HostPort → AgentPort → Widths → Widths
widths_below host agent widths =
    record (widths_between host agent widths) {
      word =
          agent.word_bytes * 8;
      enables =
          agent.word_bytes;
      count = if needs_cut host agent then bits_between host agent else widths.count;
    }

-- each command bears this one tag, the number of its host
pub record BearsOneTag (netlist : Netlist) (command : CommandNets) : Type 0 where
  pub tag : ℕ
  pub always : Always netlist (λ cycle. cycle.net command.tag.number ≡ tag)
