-- What lines state fits the system.
use Rattle.std.proofs.Common.{◌≡◌, ℕ, ◌≤◌, inl, inr, Bool, true, false, List, [], ◌∷◌, ◌++◌, length, slice_get, Option, Some, None, refl, sym, ap, subst, ◌∙◌, length-append, arith}
use Rattle.std.proofs.lemmas.List.{append-nil}
use Rattle.std.specs.Prelude.{◌||◌, nat_lt, option_and_then}
use Rattle.std.proofs.lemmas.Bool.Decides.{nat_tests}
use Rattle.std.proofs.lemmas.Option.{same_Some}
use Rattle.iface_roles.specs.declared.kinds.Side.{Side}
use Rattle.iface_roles.specs.declared.kinds.Side.TheVariants.{Start, End}
use Rattle.iface_roles.specs.declared.records.HostPort.{HostPort}
use Rattle.iface_roles.specs.declared.records.AgentPort.{AgentPort}
use Rattle.iface_roles.specs.declared.records.StreamPort.{StreamPort}
use Rattle.system_tables.specs.declared.tables.EndId.{EndId}
use Rattle.system_tables.specs.Tables.{SystemTable}
use Rattle.address_map.specs.Footprints.{known_at}
use Rattle.address_map.specs.Maps.{hosts_of, agents_of}
use Rattle.link_rules.specs.declared.plan_connections.StreamConnection.{StreamConnection}
use Rattle.link_rules.specs.PlanConnections.{stream_connections}
use Rattle.scenario_tables.specs.declared.statements.HostStatement.{HostStatement}
use Rattle.scenario_tables.specs.declared.statements.AgentStatement.{AgentStatement}
use Rattle.scenario_tables.specs.declared.statements.AgentStatement.TheVariants.{Stall, Latency}
use Rattle.scenario_tables.specs.declared.statements.SourceStatement.{SourceStatement}
use Rattle.scenario_tables.specs.declared.statements.Pattern.{Pattern}
use Rattle.scenario_tables.specs.Statements.{IsRest, FitsHost, FitsAgent, FitsStall, IsHostScript, IsAgentScript, IsSourceScript, IsSinkScript, stalls_of, latencies_of}
use Rattle.scenario_tables.specs.Scenarios.{IsHostAt, IsAgentAt}
use Rattle.scenarios.specs.declared.interfaces.Named.{Named}
use Rattle.scenarios.specs.declared.so_far.SoFar.{SoFar}
use Rattle.scenarios.specs.Interfaces.{numbered, host_in, as_host, host_at, host_named, agent_in, as_agent, agent_at, agent_named, stream_port, stream_at, stream_named}
use Rattle.scenarios.specs.SoFar.{HasScripts, script_at, with_one, with_host, with_agent, with_source, with_sink}
use Rattle.scenarios.specs.Hosts.{is_full}
use Rattle.scenarios.specs.Agents.{has_stall, has_latency}
use Rattle.scenarios.proofs.ScriptLemmas.{length-changed_at, changed_there, script_is, one_more, all_more, stalls_of-append, latencies_of-append}

pub record AreFitting (system : SystemTable) (so_far : SoFar) : Type 0 where
  pub scripts : HasScripts system so_far
  pub cycles : (n : ℕ) → so_far.cycles ≡ Some n → IsRest n
  pub hosts : (h : ℕ) (port : HostPort) (script : List HostStatement) → IsHostAt system h port → slice_get so_far.hosts h ≡ Some script → IsHostScript port script
  pub agents : (a : ℕ) (port : AgentPort) (script : List AgentStatement) → IsAgentAt system a port → slice_get so_far.agents a ≡ Some script → IsAgentScript port script
  pub sources : (s : ℕ) (link : StreamConnection) (script : List SourceStatement) → slice_get (stream_connections system) s ≡ Some link → slice_get so_far.sources s ≡ Some script → IsSourceScript link.source script
  pub sinks : (s : ℕ) (link : StreamConnection) (script : List Pattern) → slice_get (stream_connections system) s ≡ Some link → slice_get so_far.sinks s ≡ Some script → IsSinkScript link.sink script

-- ---- what is named is there, by its number

numbered_is : {P : Type 0} (n : ℕ) (o : Option P) (one : Named P) → numbered n o ≡ Some one → one.number ≡ n
numbered_is n None one e = cc
numbered_is {P} n (Some port) one e = ap (λ (x : Named P). x.number) (sym (same_Some _ _ e))

number_is : {X P : Type 0} (n : ℕ) (port_of : X → Option P) (o : Option X) (one : Named P) → option_and_then (λ x. numbered n (port_of x)) o ≡ Some one → one.number ≡ n
number_is n port_of None one e = cc
number_is n port_of (Some x) one e = numbered_is n (port_of x) one e

at_number : {P : Type 0} (at : ℕ → Option (Named P)) (o : Option ℕ) (one : Named P) → ((n : ℕ) → at n ≡ Some one → one.number ≡ n) → option_and_then at o ≡ Some one → at one.number ≡ Some one
at_number at None one number e = cc
at_number at (Some n) one number e = subst (λ k. at k ≡ Some one) (sym (number n e)) e

pub host_is : (system : SystemTable) (word : List ℕ) (host : Named HostPort) → host_named system word ≡ Some host → host_at system host.number ≡ Some host
unfolding host_named
host_is system word host e = at_number (host_at system) _ host (λ n. number_is n (λ (end : EndId). host_in (known_at system end)) (slice_get (hosts_of system) n) host) e

pub agent_is : (system : SystemTable) (word : List ℕ) (agent : Named AgentPort) → agent_named system word ≡ Some agent → agent_at system agent.number ≡ Some agent
unfolding agent_named
agent_is system word agent e = at_number (agent_at system) _ agent (λ n. number_is n (λ (end : EndId). agent_in (known_at system end)) (slice_get (agents_of system) n) agent) e

pub stream_is : (system : SystemTable) (side : Side) (word : List ℕ) (stream : Named StreamPort) → stream_named system side word ≡ Some stream → stream_at system side stream.number ≡ Some stream
unfolding stream_named
stream_is system side word stream e = at_number (stream_at system side) _ stream (λ n. number_is n (λ (link : StreamConnection). Some (stream_port side link)) (slice_get (stream_connections system) n) stream) e

-- ---- with its record

same_port : {P : Type 0} (at : ℕ → Option (Named P)) (n : ℕ) (one : Named P) (port : P) → at one.number ≡ Some one → n ≡ one.number → at n ≡ Some (record { number = n; port = port }) → one.port ≡ port
same_port {P} at n one port is e here = ap (λ (x : Named P). x.port) (same_Some _ _ (sym is ∙ ap at (sym e) ∙ here))

host_port : (system : SystemTable) (n : ℕ) (host : Named HostPort) (port : HostPort) → host_at system host.number ≡ Some host → n ≡ host.number → IsHostAt system n port → host.port ≡ port
host_port system n host port at e is = same_port (host_at system) n host port at e (ap (option_and_then (λ (end : EndId). as_host n (known_at system end))) is.end_is ∙ ap (as_host n) is.is)

agent_port : (system : SystemTable) (n : ℕ) (agent : Named AgentPort) (port : AgentPort) → agent_at system agent.number ≡ Some agent → n ≡ agent.number → IsAgentAt system n port → agent.port ≡ port
agent_port system n agent port at e is = same_port (agent_at system) n agent port at e (ap (option_and_then (λ (end : EndId). as_agent n (known_at system end))) is.end_is ∙ ap (as_agent n) is.is)

own_port : (system : SystemTable) (side : Side) (n : ℕ) (stream : Named StreamPort) (link : StreamConnection) → stream_at system side stream.number ≡ Some stream → n ≡ stream.number → slice_get (stream_connections system) n ≡ Some link
    → stream.port ≡ stream_port side link
own_port system side n stream link at e is = same_port (stream_at system side) n stream (stream_port side link) at e (ap (option_and_then (λ (l : StreamConnection). numbered n (Some (stream_port side l)))) is)

-- ---- one script grows, and stays a script of its port

grown : {X Port : Type 0} (IsScript : Port → List X → Type 0) (scripts : List (List X)) (n k : ℕ) (own port : Port) (statement : X) (script old : List X) → (IsScript own (script_at n scripts) → IsScript own (script_at n scripts ++ statement ∷ []))
    → k ≡ n → own ≡ port → slice_get scripts k ≡ Some old → script ≡ old ++ statement ∷ [] → IsScript port old → IsScript port script
grown IsScript scripts n k own port statement script old more e same there is fits =
    let old_is : script_at n scripts ≡ old = script_is scripts n old (ap (slice_get scripts) (sym e) ∙ there) in
    let before : IsScript own (script_at n scripts) = subst (IsScript own) (sym old_is) (subst (λ p. IsScript p old) (sym same) fits) in
    subst (λ p. IsScript p script) same (subst (IsScript own) (ap (λ xs. xs ++ statement ∷ []) old_is ∙ sym is) (more before))

-- with a statement more of one port, all are scripts of their ports, where they were before
all_grown : {Item Port X : Type 0} (IsScript : Port → List X → Type 0) (IsAt : ℕ → Item → Type 0) (port_of : Item → Port) (scripts : List (List X)) (one : Named Port) (statement : X)
    → ((n : ℕ) (item : Item) (script : List X) → IsAt n item → slice_get scripts n ≡ Some script → IsScript (port_of item) script)
    → ((n : ℕ) (item : Item) → n ≡ one.number → IsAt n item → one.port ≡ port_of item)
    → (IsScript one.port (script_at one.number scripts) → IsScript one.port (script_at one.number scripts ++ statement ∷ []))
    → (n : ℕ) (item : Item) (script : List X) → IsAt n item → slice_get (with_one one.number statement scripts) n ≡ Some script → IsScript (port_of item) script
all_grown IsScript IsAt port_of scripts one statement all same more n item script is there = elim (changed_there one.number n (λ old. old ++ statement ∷ []) scripts script there) [
  | inl before ↦ all n item script is before
  | inr new ↦ grown IsScript scripts one.number n one.port (port_of item) statement script new.1 more new.0 (same n item new.0 is) new.2 new.3 (all n item new.1 is new.2)
]

pub host_more : (system : SystemTable) (so_far : SoFar) (host : Named HostPort) (statement : HostStatement) → AreFitting system so_far → host_at system host.number ≡ Some host
    → (IsHostScript host.port (script_at host.number so_far.hosts) → IsHostScript host.port (script_at host.number so_far.hosts ++ statement ∷ []))
    → AreFitting system (with_host host.number statement so_far)
host_more system so_far host statement h at more = record {
  scripts = record { hosts = length-changed_at host.number _ so_far.hosts ∙ h.scripts.hosts; agents = h.scripts.agents; sources = h.scripts.sources; sinks = h.scripts.sinks };
  cycles = h.cycles;
  hosts = all_grown IsHostScript (IsHostAt system) (λ (port : HostPort). port) so_far.hosts host statement h.hosts (λ n port e is. host_port system n host port at e is) more;
  agents = h.agents;
  sources = h.sources;
  sinks = h.sinks;
}

pub agent_more : (system : SystemTable) (so_far : SoFar) (agent : Named AgentPort) (statement : AgentStatement) → AreFitting system so_far → agent_at system agent.number ≡ Some agent
    → (IsAgentScript agent.port (script_at agent.number so_far.agents) → IsAgentScript agent.port (script_at agent.number so_far.agents ++ statement ∷ []))
    → AreFitting system (with_agent agent.number statement so_far)
agent_more system so_far agent statement h at more = record {
  scripts = record { hosts = h.scripts.hosts; agents = length-changed_at agent.number _ so_far.agents ∙ h.scripts.agents; sources = h.scripts.sources; sinks = h.scripts.sinks };
  cycles = h.cycles;
  hosts = h.hosts;
  agents = all_grown IsAgentScript (IsAgentAt system) (λ (port : AgentPort). port) so_far.agents agent statement h.agents (λ n port e is. agent_port system n agent port at e is) more;
  sources = h.sources;
  sinks = h.sinks;
}

-- the link of a stream
abbrev IsLinkAt : SystemTable → ℕ → StreamConnection → Type 0
IsLinkAt system n link = slice_get (stream_connections system) n ≡ Some link

pub source_more : (system : SystemTable) (so_far : SoFar) (source : Named StreamPort) (statement : SourceStatement) → AreFitting system so_far → stream_at system Start source.number ≡ Some source
    → (IsSourceScript source.port (script_at source.number so_far.sources) → IsSourceScript source.port (script_at source.number so_far.sources ++ statement ∷ []))
    → AreFitting system (with_source source.number statement so_far)
source_more system so_far source statement h at more = record {
  scripts = record { hosts = h.scripts.hosts; agents = h.scripts.agents; sources = length-changed_at source.number _ so_far.sources ∙ h.scripts.sources; sinks = h.scripts.sinks };
  cycles = h.cycles;
  hosts = h.hosts;
  agents = h.agents;
  sources = all_grown IsSourceScript (IsLinkAt system) (stream_port Start) so_far.sources source statement h.sources (λ n link e is. own_port system Start n source link at e is) more;
  sinks = h.sinks;
}

pub sink_more : (system : SystemTable) (so_far : SoFar) (sink : Named StreamPort) (pattern : Pattern) → AreFitting system so_far → stream_at system End sink.number ≡ Some sink
    → (IsSinkScript sink.port (script_at sink.number so_far.sinks) → IsSinkScript sink.port (script_at sink.number so_far.sinks ++ pattern ∷ []))
    → AreFitting system (with_sink sink.number pattern so_far)
sink_more system so_far sink pattern h at more = record {
  scripts = record { hosts = h.scripts.hosts; agents = h.scripts.agents; sources = h.scripts.sources; sinks = length-changed_at sink.number _ so_far.sinks ∙ h.scripts.sinks };
  cycles = h.cycles;
  hosts = h.hosts;
  agents = h.agents;
  sources = h.sources;
  sinks = all_grown IsSinkScript (IsLinkAt system) (stream_port End) so_far.sinks sink pattern h.sinks (λ n link e is. own_port system End n sink link at e is) more;
}

-- ---- a statement more of a script

pub host_script : (port : HostPort) (script : List HostStatement) (statement : HostStatement) → FitsHost port statement → is_full (length script) ≡ false → IsHostScript port script → IsHostScript port (script ++ statement ∷ [])
host_script port script statement fits room h = record { short = one_more script statement room; each = all_more (FitsHost port) script statement h.each fits }

-- a statement that is neither a stall nor a latency
pub plain_script : (port : AgentPort) (script : List AgentStatement) (statement : AgentStatement) → stalls_of (statement ∷ []) ≡ [] → latencies_of (statement ∷ []) ≡ [] → FitsAgent port statement
    → is_full (length script) ≡ false → IsAgentScript port script → IsAgentScript port (script ++ statement ∷ [])
plain_script port script statement no_stall no_latency fits room h =
    let stalls : stalls_of (script ++ statement ∷ []) ≡ stalls_of script = stalls_of-append script (statement ∷ []) ∙ ap (λ more. stalls_of script ++ more) no_stall ∙ append-nil (stalls_of script) in
    let latencies : latencies_of (script ++ statement ∷ []) ≡ latencies_of script = latencies_of-append script (statement ∷ []) ∙ ap (λ more. latencies_of script ++ more) no_latency ∙ append-nil (latencies_of script) in
    record {
      short = one_more script statement room;
      each = all_more (FitsAgent port) script statement h.each fits;
      one_stall = rw stalls h.one_stall;
      one_latency = rw latencies h.one_latency;
    }

parted : (full has : Bool) → (full || has) ≡ false → (full ≡ false) × (has ≡ false)
parted true has e = cc
parted false has e = (refl, e)

one_at_last : {X : Type 0} (before : List X) (item : X) → nat_lt 0 (length before) ≡ false → length (before ++ item ∷ []) ≤ 1
one_at_last before item e = let more = length-append before (item ∷ []) in grind (arith, nat_tests)

pub stall_script : (port : AgentPort) (script : List AgentStatement) (pattern : Pattern) → FitsAgent port (Stall pattern) → (is_full (length script) || has_stall script) ≡ false → IsAgentScript port script
    → IsAgentScript port (script ++ Stall pattern ∷ [])
stall_script port script pattern fits room h =
    let both = parted (is_full (length script)) (has_stall script) room in
    let latencies : latencies_of (script ++ Stall pattern ∷ []) ≡ latencies_of script = latencies_of-append script (Stall pattern ∷ []) ∙ append-nil (latencies_of script) in
    record {
      short = one_more script (Stall pattern) both.0;
      each = all_more (FitsAgent port) script (Stall pattern) h.each fits;
      one_stall = rw (stalls_of-append script (Stall pattern ∷ [])) (one_at_last (stalls_of script) pattern both.1);
      one_latency = rw latencies h.one_latency;
    }

pub latency_script : (port : AgentPort) (script : List AgentStatement) (cycles : ℕ) → FitsAgent port (Latency cycles) → (is_full (length script) || has_latency script) ≡ false → IsAgentScript port script
    → IsAgentScript port (script ++ Latency cycles ∷ [])
latency_script port script cycles fits room h =
    let both = parted (is_full (length script)) (has_latency script) room in
    let stalls : stalls_of (script ++ Latency cycles ∷ []) ≡ stalls_of script = stalls_of-append script (Latency cycles ∷ []) ∙ append-nil (stalls_of script) in
    record {
      short = one_more script (Latency cycles) both.0;
      each = all_more (FitsAgent port) script (Latency cycles) h.each fits;
      one_stall = rw stalls h.one_stall;
      one_latency = rw (latencies_of-append script (Latency cycles ∷ [])) (one_at_last (latencies_of script) cycles both.1);
    }

pub sink_script : (port : StreamPort) (script : List Pattern) (pattern : Pattern) → FitsStall port.ready pattern → nat_lt 0 (length script) ≡ false → IsSinkScript port script → IsSinkScript port (script ++ pattern ∷ [])
sink_script port script pattern fits room h = record { one = one_at_last script pattern room; each = all_more (FitsStall port.ready) script pattern h.each fits }
