-- What a run of a finished module shows at the ports of hosts and agents.
use Rattle.std.proofs.Common.{◌≡◌, ℕ, ◌*◌, ◌-◌, ◌<◌, ◌^◌, Bool, true, false, not, nat_eq, List, Option, Some, None, refl, sym, ap, subst, ◌∙◌, arith}
use Rattle.std.specs.Prelude.{IfSome, option_map, unwrap_or, if◌then◌else◌}
use Rattle.std.proofs.lemmas.Bool.{false≢true}
use Rattle.iface_roles.specs.Proper.{IsBoundedHost, IsBoundedAgent}
use Rattle.system_tables.specs.declared.tables.EndId.{EndId}
use Rattle.system_tables.specs.Tables.{SystemTable}
use Rattle.netlist.specs.declared.line.PortLine.{PortLine}
use Rattle.netlist.specs.Nets.{NetValue, net_of}
use Rattle.netlist.specs.Netlists.{Netlist, IsInputPort, IsWellMade, driver_of, input_net}
use Rattle.netlist.specs.Runs.{Cycle, Run, cycle_of}
use Rattle.netlist.specs.Signals.{port_net, port_named}
use Rattle.stream_runs.specs.Ends.{signal_or}
use Rattle.memory_runs.specs.Sides.{burst_width}
use Rattle.memory_runs.specs.Views.{Levels, HostView, AgentView, levels_at}
use Rattle.command_nets.specs.Ports.{HasNet, value_or}
use Rattle.mm_host.specs.Hosts.{bursts}
use Rattle.mm_host.specs.Forms.{AreAnswersTo}
use Rattle.mm_agent.specs.declared.nets.AgentNets.{AgentNets}
use Rattle.mm_agent.specs.Agents.{AreMadeNets, has_address}
use Rattle.mm_agent.specs.Agents.{bursts as agent_bursts}
use Rattle.mm_fabric.specs.declared.parts.HostPart.{HostPart}
use Rattle.mm_fabric.specs.declared.parts.AgentPart.{AgentPart}
use Rattle.mm_fabric.specs.Fabrics.{seen_at_host, seen_at_agent}
use Rattle.port_tables.specs.declared.roles.PortRole.{PortRole}
use Rattle.port_tables.specs.declared.roles.PortRole.TheVariants as role
use Rattle.port_tables.specs.Ports.{EndName, role_word, bits_if, port_name, name_at, ports_of}
use Rattle.port_tables.specs.PortMaps.{IsPortIf, port_at}
use Rattle.interconnect.specs.Memory.{level, host_view, agent_view}
use Rattle.interconnect.specs.Outputs.{input_at, AreDrivenAt}
use Rattle.interconnect.specs.Hosts.{AreHostInputs, host_roles, host_net, host_outputs}
use Rattle.interconnect.specs.Agents.{agent_inputs, agent_roles, agent_net, agent_outputs}
use Rattle.interconnect.proofs.Driving.{role_driven}
use Rattle.interconnect.proofs.Shown.{shown, shown_at, no_driver}
use Rattle.interconnect.proofs.HostPorts.{AreHostPorts, AreAgentPorts, some_bytes, some_bits, some_burst, some_number, address_bits}

-- ---- views that are the same in one cycle

pub record HostsAgreeAt (one two : HostView) (c : ℕ) : Type 0 where
  pub signals : levels_at one.signals c ≡ levels_at two.signals c
  pub waitrequest : one.waitrequest c ≡ two.waitrequest c
  pub readdata : one.readdata c ≡ two.readdata c
  pub readdatavalid : one.readdatavalid c ≡ two.readdatavalid c
  pub response : one.response c ≡ two.response c

pub record AgentsAgreeAt (one two : AgentView) (c : ℕ) : Type 0 where
  pub signals : levels_at one.signals c ≡ levels_at two.signals c
  pub waitrequest : one.waitrequest c ≡ two.waitrequest c
  pub readdata : one.readdata c ≡ two.readdata c
  pub readdatavalid : one.readdatavalid c ≡ two.readdatavalid c
  pub response : one.response c ≡ two.response c
  pub grant : one.grant c ≡ two.grant c

pub same_levels : {a b d e f g a' b' d' e' f' g' : ℕ} → a ≡ a' → b ≡ b' → d ≡ d' → e ≡ e' → f ≡ f' → g ≡ g' →
    let one : Levels = record { read = a; write = b; address = d; word = e; enables = f; count = g } in
    let other : Levels = record { read = a'; write = b'; address = d'; word = e'; enables = f'; count = g' } in
    one ≡ other
same_levels p q r s t u = cc

-- ---- two runs that are the same in a cycle

-- what is shown at a port depends on the cycle alone
pub level_same : (netlist : Netlist) (run other : Run) (name : EndName) (absent : ℕ) (word : List ℕ) (c : ℕ) → cycle_of other c ≡ cycle_of run c → level netlist run name absent word c ≡ level netlist other name absent word c
level_same netlist run other name absent word c same = by (port_named netlist.ports (port_name name word))
  where
    by : (o : Option ℕ) → signal_or absent (shown netlist run o) c ≡ signal_or absent (shown netlist other o) c
    by None = refl
    by (Some k) = ap (λ (x : Cycle). x.net (port_net netlist k)) (sym same)

pub host_same : (netlist : Netlist) (run other : Run) (bytes : ℕ) (name : EndName) (c : ℕ) → cycle_of other c ≡ cycle_of run c → HostsAgreeAt (host_view netlist run bytes name) (host_view netlist other bytes name) c
host_same netlist run other bytes name c same =
    let here = λ (absent : ℕ) (word : List ℕ). level_same netlist run other name absent word c same in
    record {
      signals = same_levels (here 0 _) (here 0 _) (here 0 _) (here 0 _) (here (2 ^ bytes - 1) _) (here 1 _);
      waitrequest = here 0 _;
      readdata = here 0 _;
      readdatavalid = here 0 _;
      response = here 0 _;
    }

pub agent_same : (netlist : Netlist) (run other : Run) (bytes : ℕ) (name : EndName) (c : ℕ) → cycle_of other c ≡ cycle_of run c → AgentsAgreeAt (agent_view netlist run bytes name) (agent_view netlist other bytes name) c
agent_same netlist run other bytes name c same =
    let here = λ (absent : ℕ) (word : List ℕ). level_same netlist run other name absent word c same in
    record {
      signals = same_levels (here 0 _) (here 0 _) (here 0 _) (here 0 _) (here (2 ^ bytes - 1) _) (here 1 _);
      waitrequest = here 0 _;
      readdata = here 0 _;
      readdatavalid = here 0 _;
      response = here 0 _;
      grant = here 0 _;
    }

-- ---- a port

input_by : (ports : List PortLine) (netlist : Netlist) (run : Run) (width bits absent : ℕ) (net : Option NetValue) (o : Option ℕ) (c : ℕ) → IsWellMade netlist → netlist.ports ≡ ports → IsPortIf ports false width o
    → net ≡ option_map (λ (k : ℕ). net_of (input_net ports k) bits) o → signal_or absent (shown netlist run o) c ≡ value_or absent net (cycle_of run c)
input_by ports netlist run width bits absent net None c h e p is = ap (λ (n : Option NetValue). value_or absent n (cycle_of run c)) (sym is)
input_by ports netlist run width bits absent net (Some k) c h e p is =
    let input : IsInputPort netlist.ports k width = subst (λ (ps : List PortLine). IsInputPort ps k width) (sym e) (record { port = p.port; is = p.is; input = p.output_is; width = p.width_is }) in
    let none = no_driver netlist k width h input (driver_of netlist k) refl in
    let at : port_net netlist k ≡ input_net ports k = ap (λ (d : Option ℕ). unwrap_or d (input_net netlist.ports k)) none ∙ ap (λ (ps : List PortLine). input_net ps k) e in
    ap (run.net c) at ∙ ap (λ (n : Option NetValue). value_or absent n (cycle_of run c)) (sym is)

-- a port that a net drives, where it is there
output_by : (ports : List PortLine) (netlist : Netlist) (run : Run) (there : Bool) (bits absent : ℕ) (net : NetValue) (o : Option ℕ) (c : ℕ) → (there ≡ true → 0 < bits) → IsPortIf ports true (bits_if there bits) o
    → IfSome o (λ k. driver_of netlist k ≡ Some net.number) → signal_or absent (shown netlist run o) c ≡ (if there then run.net c net.number else absent)
output_by ports netlist run true bits absent net None c some p driven = (let more = some refl in absurd (omega (arith, more, p)))
output_by ports netlist run true bits absent net (Some k) c some p driven =
    let at : port_net netlist k ≡ net.number = ap (λ (d : Option ℕ). unwrap_or d (input_net netlist.ports k)) driven in
    ap (run.net c) at
output_by ports netlist run false bits absent net None c some p driven = refl
output_by ports netlist run false bits absent net (Some k) c some p driven = (let none = p.some in absurd (omega (arith, none)))

-- a net that is made where there is a port
made_value : (netlist : Netlist) (there : Bool) (bits absent : ℕ) (made : Option NetValue) (other : NetValue) (cycle : Cycle) → HasNet netlist there bits made
    → (if there then cycle.net (unwrap_or made other).number else absent) ≡ value_or absent made cycle
made_value netlist true bits absent None other cycle h = absurd (false≢true (sym h))
made_value netlist true bits absent (Some net) other cycle h = refl
made_value netlist false bits absent None other cycle h = refl
made_value netlist false bits absent (Some net) other cycle h = absurd (false≢true h.0)

addressed : (n : ℕ) → not (nat_eq n 0) ≡ true → 0 < n
addressed n e = some_number n (by (nat_eq n 0) e)
  where
    by : (b : Bool) → not b ≡ true → b ≡ false
    by true h = absurd (false≢true h)
    by false h = refl

-- ---- at an end

-- an end of a finished netlist
pub record IsEndIn (system : SystemTable) (netlist : Netlist) : Type 0 where
  pub well_made : IsWellMade netlist
  pub ports : netlist.ports ≡ ports_of system

module _ (system : SystemTable) (netlist : Netlist) (at : IsEndIn system netlist) (end : EndId) (run : Run) (c : ℕ) where
  -- what is shown at the port of a role
  here : (r : PortRole) (absent : ℕ) → level netlist run (name_at system end) absent (role_word r) c ≡ signal_or absent (shown netlist run (port_at system end r)) c
  here r absent = ap (λ (s : Option (ℕ → ℕ)). signal_or absent s c) (shown_at system netlist run end r at.ports)

  in_level : (r : PortRole) (width bits absent : ℕ) (net : Option NetValue) → IsPortIf (ports_of system) false width (port_at system end r) → net ≡ input_at system end r bits
      → level netlist run (name_at system end) absent (role_word r) c ≡ value_or absent net (cycle_of run c)
  in_level r width bits absent net port is = here r absent ∙ input_by (ports_of system) netlist run width bits absent net (port_at system end r) c at.well_made at.ports port is

  out_level : (r : PortRole) (there : Bool) (bits absent : ℕ) (net : NetValue) → (there ≡ true → 0 < bits) → IsPortIf (ports_of system) true (bits_if there bits) (port_at system end r)
      → IfSome (port_at system end r) (λ k. driver_of netlist k ≡ Some net.number) → level netlist run (name_at system end) absent (role_word r) c ≡ (if there then run.net c net.number else absent)
  out_level r there bits absent net some port driven = here r absent ∙ output_by (ports_of system) netlist run there bits absent net (port_at system end r) c some port driven

  made_level : (r : PortRole) (there : Bool) (bits absent : ℕ) (made : Option NetValue) (other : NetValue) → (there ≡ true → 0 < bits) → IsPortIf (ports_of system) true (bits_if there bits) (port_at system end r) → HasNet netlist there bits made
      → IfSome (port_at system end r) (λ k. driver_of netlist k ≡ Some (unwrap_or made other).number) → level netlist run (name_at system end) absent (role_word r) c ≡ value_or absent made (cycle_of run c)
  made_level r there bits absent made other some port has driven = out_level r there bits absent (unwrap_or made other) some port driven ∙ made_value netlist there bits absent made other (cycle_of run c) has

  -- ---- a host

  pub host_shown : (part : HostPart) → AreHostPorts system end part.port → IsBoundedHost part.port → part.port.waitrequest ≡ true → AreHostInputs system end part.port part.held.nets → AreAnswersTo netlist part.port part.told
      → AreDrivenAt system end (host_outputs part) netlist → HostsAgreeAt (host_view netlist run part.port.word_bytes (name_at system end)) (seen_at_host part run) c
  host_shown part ports bounded waits inputs told driven =
      let port = part.port in
      let out = role_driven system end (host_net part.told) host_roles netlist driven in
      record {
        signals = same_levels
            (in_level role.Read (bits_if port.reads 1) 1 0 part.held.nets.read ports.read inputs.read)
            (in_level role.Write (bits_if port.writes 1) 1 0 part.held.nets.write ports.write inputs.write)
            (in_level role.Address port.address_bits port.address_bits 0 (Some part.held.nets.address) ports.address (sym inputs.address))
            (in_level role.WriteData (bits_if port.writes (port.word_bytes * 8)) (port.word_bytes * 8) 0 part.held.nets.writedata ports.writedata inputs.writedata)
            (in_level role.ByteEnable (bits_if port.enables port.word_bytes) port.word_bytes (2 ^ port.word_bytes - 1) part.held.nets.byteenable ports.byteenable inputs.byteenable)
            (in_level role.BurstCount (bits_if (bursts port) (burst_width port.burst_bits)) (burst_width port.burst_bits) 1 part.held.nets.burstcount ports.burstcount inputs.burstcount);
        waitrequest = out_level role.WaitRequest port.waitrequest 1 0 part.told.waitrequest (λ is. omega arith) ports.waitrequest (out 0 role.WaitRequest refl)
            ∙ ap (λ (b : Bool). if b then run.net c part.told.waitrequest.number else 0) waits;
        readdata = out_level role.ReadData port.reads (port.word_bytes * 8) 0 part.told.readdata (λ is. some_bits port.word_bytes bounded.ports.word) ports.readdata (out 1 role.ReadData refl);
        readdatavalid = made_level role.ReadDataValid port.readdatavalid 1 0 part.told.readdatavalid part.told.waitrequest (λ is. omega arith) ports.readdatavalid told.readdatavalid (out 2 role.ReadDataValid refl);
        response = made_level role.Response port.response 2 0 part.told.response part.told.waitrequest (λ is. omega arith) ports.response told.response (out 3 role.Response refl);
      }

  -- ---- an agent

  pub agent_shown : (part : AgentPart) → AreAgentPorts system end part.port → IsBoundedAgent part.port → part.nets ≡ agent_inputs system end part.port
      → AreMadeNets netlist part.port part.command part.made → AreDrivenAt system end (agent_outputs part) netlist
      → AgentsAgreeAt (agent_view netlist run part.port.word_bytes (name_at system end)) (seen_at_agent part run) c
  agent_shown part ports bounded nets made driven =
      let agent = part.port in
      let command = part.command in
      let out = role_driven system end (agent_net part) agent_roles netlist driven in
      record {
        signals = same_levels
            (made_level role.Read agent.reads 1 0 part.made.read command.write (λ is. omega arith) ports.read made.read (out 1 role.Read refl))
            (out_level role.Write agent.writes 1 0 command.write (λ is. omega arith) ports.write (out 2 role.Write refl))
            (made_level role.Address (has_address agent) agent.address_bits 0 part.made.address command.write (addressed agent.address_bits)
            (subst (λ (n : ℕ). IsPortIf (ports_of system) true n (port_at system end role.Address)) (address_bits agent.address_bits) ports.address) made.address (out 0 role.Address refl))
            (out_level role.WriteData agent.writes (agent.word_bytes * 8) 0 command.word (λ is. some_bits agent.word_bytes bounded.ports.word) ports.writedata (out 3 role.WriteData refl))
            (out_level role.ByteEnable agent.enables agent.word_bytes (2 ^ agent.word_bytes - 1) command.enables (λ is. some_bytes agent.word_bytes bounded.ports.word) ports.byteenable (out 4 role.ByteEnable refl))
            (out_level role.BurstCount (agent_bursts agent) (burst_width agent.burst_bits) 1 command.count (λ is. some_burst agent.burst_bits) ports.burstcount (out 5 role.BurstCount refl));
        waitrequest = in_level role.WaitRequest (bits_if agent.waitrequest 1) 1 0 part.nets.waitrequest ports.waitrequest (ap (λ (n : AgentNets). n.waitrequest) nets);
        readdata = in_level role.ReadData (bits_if agent.reads (agent.word_bytes * 8)) (agent.word_bytes * 8) 0 part.nets.readdata ports.readdata (ap (λ (n : AgentNets). n.readdata) nets);
        readdatavalid = in_level role.ReadDataValid (bits_if agent.readdatavalid 1) 1 0 part.nets.readdatavalid ports.readdatavalid (ap (λ (n : AgentNets). n.readdatavalid) nets);
        response = in_level role.Response (bits_if agent.response 2) 2 0 part.nets.response ports.response (ap (λ (n : AgentNets). n.response) nets);
        grant = out_level role.Grant true 4 0 command.tag (λ is. omega arith) ports.grant (out 6 role.Grant refl);
      }
