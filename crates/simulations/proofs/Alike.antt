-- What two runs show in a cycle each, where the nets at their ports have the same values.
use Rattle.std.proofs.Common.{◌≡◌, ℕ, ◌<◌, List, Option, Some, None, slice_get, refl}
use Rattle.std.specs.Prelude.{codes}
use Rattle.std.specs.Option.{option_map, option_map_or}
use Rattle.system_tables.specs.declared.tables.EndId.{EndId}
use Rattle.address_map.specs.Maps.{hosts_of, agents_of}
use Rattle.link_rules.specs.Plans.{PlanTable}
use Rattle.netlist.specs.Netlists.{Netlist}
use Rattle.netlist.specs.Runs.{Run}
use Rattle.netlist.specs.Signals.{port_value, port_named, signal}
use Rattle.stream_runs.specs.View.{EndView, Beat, AgreeBefore, beat_at}
use Rattle.stream_runs.specs.Ends.{signal_or}
use Rattle.memory_runs.specs.Views.{Levels, HostView, AgentView, levels_at}
use Rattle.memory_runs.specs.Beginnings.{HostsAgree, AgentsAgree}
use Rattle.memory_plans.specs.Systems.{memory_system}
use Rattle.memory_plans.specs.Shown.{silent_host, silent_agent}
use Rattle.port_tables.specs.Ports.{EndName, port_name, name_at}
use Rattle.interconnect.specs.Memory.{level, host_view, agent_view, host_in, agent_in}
use Rattle.interconnect.specs.Streams.{dropped_signal}
use Rattle.simulated_runs.specs.Ends.{stream_view}
use Rattle.simulations.specs.Agreeing.{InterfacesAgree}

-- ---- what is shown

pub record HostsAlike (one two : HostView) (j k : ℕ) : Type 0 where
  pub signals : levels_at one.signals j ≡ levels_at two.signals k
  pub waitrequest : one.waitrequest j ≡ two.waitrequest k
  pub readdata : one.readdata j ≡ two.readdata k
  pub readdatavalid : one.readdatavalid j ≡ two.readdatavalid k
  pub response : one.response j ≡ two.response k

pub record AgentsAlike (one two : AgentView) (j k : ℕ) : Type 0 where
  pub signals : levels_at one.signals j ≡ levels_at two.signals k
  pub waitrequest : one.waitrequest j ≡ two.waitrequest k
  pub readdata : one.readdata j ≡ two.readdata k
  pub readdatavalid : one.readdatavalid j ≡ two.readdatavalid k
  pub response : one.response j ≡ two.response k
  pub grant : one.grant j ≡ two.grant k

pub record StreamsAlike (one two : EndView) (j k : ℕ) : Type 0 where
  pub valid : one.valid j ≡ two.valid k
  pub beat : beat_at one j ≡ beat_at two k
  pub ready : one.ready j ≡ two.ready k

same_levels : (a b c d e f a' b' c' d' e' f' : ℕ) → a ≡ a' → b ≡ b' → c ≡ c' → d ≡ d' → e ≡ e' → f ≡ f' →
    let one : Levels = record { read = a; write = b; address = c; word = d; enables = e; count = f } in
    let two : Levels = record { read = a'; write = b'; address = c'; word = d'; enables = e'; count = f' } in
    one ≡ two
same_levels a b c d e f a' b' c' d' e' f' p q r s t u = rw (p, q, r, s, t, u) refl

same_beat : (a b c d e f a' b' c' d' e' f' : ℕ) → a ≡ a' → b ≡ b' → c ≡ c' → d ≡ d' → e ≡ e' → f ≡ f' →
    let one : Beat = record { word = a; channel = b; error = c; first = d; last = e; empty = f } in
    let two : Beat = record { word = a'; channel = b'; error = c'; first = d'; last = e'; empty = f' } in
    one ≡ two
same_beat a b c d e f a' b' c' d' e' f' p q r s t u = rw (p, q, r, s, t, u) refl

-- ---- at the ports of a netlist

-- each port of a name has one value in both
abbrev pub PortsAlike : Netlist → Run → Run → ℕ → ℕ → Type 0
PortsAlike netlist one two j k = (name : List ℕ) (port : ℕ) → port_named netlist.ports name ≡ Some port → port_value netlist one j port ≡ port_value netlist two k port

module _ (netlist : Netlist) (one two : Run) (j k : ℕ) (same : PortsAlike netlist one two j k) where
  at_port : (absent : ℕ) (port : Option ℕ) → ((p : ℕ) → port ≡ Some p → port_value netlist one j p ≡ port_value netlist two k p)
      → signal_or absent (option_map (λ (p : ℕ). λ (c : ℕ). port_value netlist one c p) port) j ≡ signal_or absent (option_map (λ (p : ℕ). λ (c : ℕ). port_value netlist two c p) port) k
  at_port absent None here = refl
  at_port absent (Some p) here = here p refl

  same_signal : (name : List ℕ) (absent : ℕ) → signal_or absent (signal netlist one name) j ≡ signal_or absent (signal netlist two name) k
  same_signal name absent = at_port absent (port_named netlist.ports name) (same name)

  same_level : (name : EndName) (absent : ℕ) (role : List ℕ) → level netlist one name absent role j ≡ level netlist two name absent role k
  same_level name absent role = same_signal (port_name name role) absent

  host_views : (bytes : ℕ) (name : EndName) → HostsAlike (host_view netlist one bytes name) (host_view netlist two bytes name) j k
  host_views bytes name = record {
    signals = same_levels _ _ _ _ _ _ _ _ _ _ _ _ (same_level name 0 (codes "read")) (same_level name 0 (codes "write")) (same_level name 0 (codes "address"))
        (same_level name 0 (codes "writedata")) (same_level name _ (codes "byteenable")) (same_level name 1 (codes "burstcount"));
    waitrequest = same_level name 0 (codes "waitrequest");
    readdata = same_level name 0 (codes "readdata");
    readdatavalid = same_level name 0 (codes "readdatavalid");
    response = same_level name 0 (codes "response");
  }

  agent_views : (bytes : ℕ) (name : EndName) → AgentsAlike (agent_view netlist one bytes name) (agent_view netlist two bytes name) j k
  agent_views bytes name = record {
    signals = same_levels _ _ _ _ _ _ _ _ _ _ _ _ (same_level name 0 (codes "read")) (same_level name 0 (codes "write")) (same_level name 0 (codes "address"))
        (same_level name 0 (codes "writedata")) (same_level name _ (codes "byteenable")) (same_level name 1 (codes "burstcount"));
    waitrequest = same_level name 0 (codes "waitrequest");
    readdata = same_level name 0 (codes "readdata");
    readdatavalid = same_level name 0 (codes "readdatavalid");
    response = same_level name 0 (codes "response");
    grant = same_level name 0 (codes "grant");
  }

  -- ---- at the interfaces of a plan

  module _ (plan : PlanTable) where
    host_there : (h : ℕ) (end : Option EndId)
        → HostsAlike (option_map_or (λ (e : EndId). host_view netlist one ((memory_system plan).host h).word_bytes (name_at plan.system e)) end silent_host)
        (option_map_or (λ (e : EndId). host_view netlist two ((memory_system plan).host h).word_bytes (name_at plan.system e)) end silent_host) j k
    host_there h None = record { signals = refl; waitrequest = refl; readdata = refl; readdatavalid = refl; response = refl }
    host_there h (Some end) = host_views ((memory_system plan).host h).word_bytes (name_at plan.system end)

    pub hosts_alike : (h : ℕ) → HostsAlike (host_in plan netlist one h) (host_in plan netlist two h) j k
    hosts_alike h = host_there h (slice_get (hosts_of plan.system) h)

    agent_there : (a : ℕ) (end : Option EndId)
        → AgentsAlike (option_map_or (λ (e : EndId). agent_view netlist one ((memory_system plan).agent a).word_bytes (name_at plan.system e)) end silent_agent)
        (option_map_or (λ (e : EndId). agent_view netlist two ((memory_system plan).agent a).word_bytes (name_at plan.system e)) end silent_agent) j k
    agent_there a None = record { signals = refl; waitrequest = refl; readdata = refl; readdatavalid = refl; response = refl; grant = refl }
    agent_there a (Some end) = agent_views ((memory_system plan).agent a).word_bytes (name_at plan.system end)

    pub agents_alike : (a : ℕ) → AgentsAlike (agent_in plan netlist one a) (agent_in plan netlist two a) j k
    agents_alike a = agent_there a (slice_get (agents_of plan.system) a)

    streams_alike : (end : EndId) → StreamsAlike (stream_view plan.system netlist one end) (stream_view plan.system netlist two end) j k
    streams_alike end =
        let name = name_at plan.system end in
        record {
          valid = same_signal (port_name name (codes "valid")) 0;
          beat = same_beat _ _ _ _ _ _ _ _ _ _ _ _ (same_signal (port_name name (codes "data")) 0) (same_signal (port_name name (codes "channel")) 0)
              (same_signal (port_name name (codes "error")) 0) (same_signal (port_name name (codes "startofpacket")) 0)
              (same_signal (port_name name (codes "endofpacket")) 0) (same_signal (port_name name (codes "empty")) 0);
          ready = same_signal (port_name name (codes "ready")) 1;
        }

    dropped_alike : (end : EndId) → dropped_signal netlist one (name_at plan.system end) j ≡ dropped_signal netlist two (name_at plan.system end) k
    dropped_alike end = same_signal (port_name (name_at plan.system end) (codes "dropped")) 0

-- ---- before a cycle

module _ (netlist : Netlist) (one two : Run) (end : ℕ) (same : (k : ℕ) → k < end → PortsAlike netlist one two k k) (plan : PlanTable) where
  hosts_before : (h : ℕ) → HostsAgree (host_in plan netlist one h) (host_in plan netlist two h) end
  hosts_before h = record {
    signals = λ k low. (hosts_alike netlist one two k k (same k low) plan h).signals;
    waitrequest = λ k low. (hosts_alike netlist one two k k (same k low) plan h).waitrequest;
    readdata = λ k low. (hosts_alike netlist one two k k (same k low) plan h).readdata;
    readdatavalid = λ k low. (hosts_alike netlist one two k k (same k low) plan h).readdatavalid;
    response = λ k low. (hosts_alike netlist one two k k (same k low) plan h).response;
  }

  agents_before : (a : ℕ) → AgentsAgree (agent_in plan netlist one a) (agent_in plan netlist two a) end
  agents_before a = record {
    signals = λ k low. (agents_alike netlist one two k k (same k low) plan a).signals;
    waitrequest = λ k low. (agents_alike netlist one two k k (same k low) plan a).waitrequest;
    readdata = λ k low. (agents_alike netlist one two k k (same k low) plan a).readdata;
    readdatavalid = λ k low. (agents_alike netlist one two k k (same k low) plan a).readdatavalid;
    response = λ k low. (agents_alike netlist one two k k (same k low) plan a).response;
    grant = λ k low. (agents_alike netlist one two k k (same k low) plan a).grant;
  }

  streams_before : (at : EndId) → AgreeBefore (stream_view plan.system netlist one at) (stream_view plan.system netlist two at) end
  streams_before at = record {
    valid = λ k low. (streams_alike netlist one two k k (same k low) plan at).valid;
    beat = λ k low. (streams_alike netlist one two k k (same k low) plan at).beat;
    ready = λ k low. (streams_alike netlist one two k k (same k low) plan at).ready;
  }

  pub interfaces_agree : InterfacesAgree plan netlist one two end
  interfaces_agree = record {
    memory = record { hosts = hosts_before; agents = agents_before };
    streams = streams_before;
    dropped = λ at k low. dropped_alike netlist one two k k (same k low) plan at;
  }
