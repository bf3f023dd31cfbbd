-- A run with one cycle more shows the same in the cycles before.
use Rattle.std.proofs.Common.{◌≡◌, ◌⊎◌, inl, inr, ℕ, zero, suc, ◌+◌, ◌<◌, ◌≤◌, ◌==◌, Bool, true, false, cond, List, Option, Some, None, slice_get, refl, sym, ap, ap₂, subst, ◌∙◌, arith}
use Rattle.std.specs.Prelude.{codes}
use Rattle.std.specs.Option.{option_map, option_map_or}
use Rattle.std.proofs.lemmas.Bool.{cases_Bool, cases_order, eqb-true}
use Rattle.histories.specs.History.{one_if}
use Rattle.iface_roles.specs.declared.records.HostPort.{HostPort}
use Rattle.iface_roles.specs.declared.records.AgentPort.{AgentPort}
use Rattle.iface_roles.specs.declared.records.StreamPort.{StreamPort}
use Rattle.system_tables.specs.declared.tables.EndId.{EndId}
use Rattle.system_tables.specs.Tables.{SystemTable}
use Rattle.address_map.specs.Maps.{hosts_of, agents_of}
use Rattle.link_rules.specs.declared.plan_connections.StreamConnection.{StreamConnection}
use Rattle.link_rules.specs.Plans.{PlanTable}
use Rattle.netlist.specs.Netlists.{Netlist}
use Rattle.netlist.specs.Runs.{Run, Cycle}
use Rattle.netlist.specs.Signals.{port_net, port_value, port_named, signal}
use Rattle.cycle_sim.specs.Standing.{IsClearedRun, with_cycle}
use Rattle.stream_runs.specs.View.{EndView, Beat, AgreeBefore, beat_at}
use Rattle.stream_runs.specs.Ends.{signal_or}
use Rattle.memory_runs.specs.Views.{Levels, HostView, AgentView, levels_at}
use Rattle.memory_runs.specs.Beginnings.{HostsAgree, AgentsAgree}
use Rattle.memory_plans.specs.Systems.{memory_system}
use Rattle.memory_plans.specs.Shown.{silent_host, silent_agent}
use Rattle.port_tables.specs.Ports.{EndName, port_name, name_at}
use Rattle.interconnect.specs.Memory.{level, host_view, agent_view, host_in, agent_in}
use Rattle.interconnect.specs.Streams.{dropped_signal}
use Rattle.simulated_runs.specs.Ends.{stream_view}

same_levels : (a b c d e f a' b' c' d' e' f' : ℕ) → a ≡ a' → b ≡ b' → c ≡ c' → d ≡ d' → e ≡ e' → f ≡ f' →
    let one : Levels = record { read = a; write = b; address = c; word = d; enables = e; count = f } in
    let two : Levels = record { read = a'; write = b'; address = c'; word = d'; enables = e'; count = f' } in
    one ≡ two
same_levels a b c d e f a' b' c' d' e' f' p q r s t u = rw (p, q, r, s, t, u) refl

same_beat : (a b c d e f a' b' c' d' e' f' : ℕ) → a ≡ a' → b ≡ b' → c ≡ c' → d ≡ d' → e ≡ e' → f ≡ f' →
    let one : Beat = record { word = a; channel = b; error = c; first = d; last = e; empty = f } in
    let two : Beat = record { word = a'; channel = b'; error = c'; first = d'; last = e'; empty = f' } in
    one ≡ two
same_beat a b c d e f a' b' c' d' e' f' p q r s t u = rw (p, q, r, s, t, u) refl

not_yet : (k c : ℕ) → k < c → (k == c) ≡ false
not_yet k c low = elim (cases_Bool (k == c)) [
  | inl e ↦ let same = eqb-true k c e in absurd (omega (arith, same))
  | inr e ↦ e
]

module _ (plan : PlanTable) (netlist : Netlist) (run : Run) (c : ℕ) (cycle : Cycle) where
  abbrev later : Run
  later = with_cycle run c cycle

  same_net : (k n : ℕ) → k < c → run.net k n ≡ later.net k n
  same_net k n low = rw (not_yet k c low) refl

  at_port : (port : Option ℕ) (absent k : ℕ) → k < c
      → signal_or absent (option_map (λ (p : ℕ). λ (d : ℕ). port_value netlist run d p) port) k ≡ signal_or absent (option_map (λ (p : ℕ). λ (d : ℕ). port_value netlist later d p) port) k
  at_port None absent k low = refl
  at_port (Some p) absent k low = same_net k (port_net netlist p) low

  same_signal : (name : List ℕ) (absent k : ℕ) → k < c → signal_or absent (signal netlist run name) k ≡ signal_or absent (signal netlist later name) k
  same_signal name absent k low = at_port (port_named netlist.ports name) absent k low

  same_level : (name : EndName) (absent : ℕ) (role : List ℕ) (k : ℕ) → k < c → level netlist run name absent role k ≡ level netlist later name absent role k
  same_level name absent role k low = same_signal (port_name name role) absent k low

  host_views : (bytes : ℕ) (name : EndName) → HostsAgree (host_view netlist run bytes name) (host_view netlist later bytes name) c
  host_views bytes name = record {
    signals = λ k low. same_levels _ _ _ _ _ _ _ _ _ _ _ _ (same_level name 0 (codes "read") k low) (same_level name 0 (codes "write") k low) (same_level name 0 (codes "address") k low)
        (same_level name 0 (codes "writedata") k low) (same_level name _ (codes "byteenable") k low) (same_level name 1 (codes "burstcount") k low);
    waitrequest = λ k low. same_level name 0 (codes "waitrequest") k low;
    readdata = λ k low. same_level name 0 (codes "readdata") k low;
    readdatavalid = λ k low. same_level name 0 (codes "readdatavalid") k low;
    response = λ k low. same_level name 0 (codes "response") k low;
  }

  agent_views : (bytes : ℕ) (name : EndName) → AgentsAgree (agent_view netlist run bytes name) (agent_view netlist later bytes name) c
  agent_views bytes name = record {
    signals = λ k low. same_levels _ _ _ _ _ _ _ _ _ _ _ _ (same_level name 0 (codes "read") k low) (same_level name 0 (codes "write") k low) (same_level name 0 (codes "address") k low)
        (same_level name 0 (codes "writedata") k low) (same_level name _ (codes "byteenable") k low) (same_level name 1 (codes "burstcount") k low);
    waitrequest = λ k low. same_level name 0 (codes "waitrequest") k low;
    readdata = λ k low. same_level name 0 (codes "readdata") k low;
    readdatavalid = λ k low. same_level name 0 (codes "readdatavalid") k low;
    response = λ k low. same_level name 0 (codes "response") k low;
    grant = λ k low. same_level name 0 (codes "grant") k low;
  }

  host_there : (h : ℕ) (end : Option EndId)
      → HostsAgree (option_map_or (λ (e : EndId). host_view netlist run ((memory_system plan).host h).word_bytes (name_at plan.system e)) end silent_host)
      (option_map_or (λ (e : EndId). host_view netlist later ((memory_system plan).host h).word_bytes (name_at plan.system e)) end silent_host) c
  host_there h None = record { signals = λ k low. refl; waitrequest = λ k low. refl; readdata = λ k low. refl; readdatavalid = λ k low. refl; response = λ k low. refl }
  host_there h (Some end) = host_views ((memory_system plan).host h).word_bytes (name_at plan.system end)

  pub hosts_agree : (h : ℕ) → HostsAgree (host_in plan netlist run h) (host_in plan netlist later h) c
  hosts_agree h = host_there h (slice_get (hosts_of plan.system) h)

  agent_there : (a : ℕ) (end : Option EndId)
      → AgentsAgree (option_map_or (λ (e : EndId). agent_view netlist run ((memory_system plan).agent a).word_bytes (name_at plan.system e)) end silent_agent)
      (option_map_or (λ (e : EndId). agent_view netlist later ((memory_system plan).agent a).word_bytes (name_at plan.system e)) end silent_agent) c
  agent_there a None = record { signals = λ k low. refl; waitrequest = λ k low. refl; readdata = λ k low. refl; readdatavalid = λ k low. refl; response = λ k low. refl; grant = λ k low. refl }
  agent_there a (Some end) = agent_views ((memory_system plan).agent a).word_bytes (name_at plan.system end)

  pub agents_agree : (a : ℕ) → AgentsAgree (agent_in plan netlist run a) (agent_in plan netlist later a) c
  agents_agree a = agent_there a (slice_get (agents_of plan.system) a)

  pub streams_agree : (end : EndId) → AgreeBefore (stream_view plan.system netlist run end) (stream_view plan.system netlist later end) c
  streams_agree end =
      let name = name_at plan.system end in
      record {
        valid = λ k low. same_signal (port_name name (codes "valid")) 0 k low;
        beat = λ k low. same_beat _ _ _ _ _ _ _ _ _ _ _ _ (same_signal (port_name name (codes "data")) 0 k low) (same_signal (port_name name (codes "channel")) 0 k low)
            (same_signal (port_name name (codes "error")) 0 k low) (same_signal (port_name name (codes "startofpacket")) 0 k low)
            (same_signal (port_name name (codes "endofpacket")) 0 k low) (same_signal (port_name name (codes "empty")) 0 k low);
        ready = λ k low. same_signal (port_name name (codes "ready")) 1 k low;
      }

  pub dropped_agrees : (name : EndName) (k : ℕ) → k < c → dropped_signal netlist run name k ≡ dropped_signal netlist later name k
  dropped_agrees name k low = same_signal (port_name name (codes "dropped")) 0 k low

-- what holds before a cycle and in it holds before the next one
pub grown : (P : ℕ → Type 0) (c : ℕ) → ((k : ℕ) → k < c → P k) → P c → (k : ℕ) → k < suc c → P k
grown P c before now k low = elim (cases_order k c) [
  | inl e ↦ subst P (sym e) now
  | inr (inl below) ↦ before k below
  | inr (inr above) ↦ absurd (omega arith)
]
