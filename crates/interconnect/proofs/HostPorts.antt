-- The ports of hosts and agents: the nets of those that the module reads, and the widths of the others.
use Rattle.std.proofs.Common.{◌≡◌, inl, inr, ℕ, zero, suc, ◌*◌, ◌<◌, ◌≤◌, ◌^◌, Bool, true, false, not, nat_eq, List, Option, Some, None, refl, sym, subst, arith}
use Rattle.std.specs.Prelude.{IfSome, option_map, unwrap_or}
use Rattle.std.proofs.lemmas.Bool.{false≢true}
use Rattle.std.proofs.lemmas.Bool.Decides.{Decides-eqb}
use Rattle.std.proofs.Math.Pow.{pow_mono}
use Rattle.iface_roles.specs.declared.records.Finished.TheVariants.{Host, Agent}
use Rattle.iface_roles.specs.declared.records.HostPort.{HostPort}
use Rattle.iface_roles.specs.declared.records.AgentPort.{AgentPort}
use Rattle.iface_roles.specs.Proper.{IsWordSize, IsBoundedHost, IsBoundedAgent}
use Rattle.system_tables.specs.declared.tables.EndId.{EndId}
use Rattle.system_tables.specs.Tables.{SystemTable}
use Rattle.address_map.specs.Footprints.{known_at}
use Rattle.netlist.specs.declared.line.PortLine.{PortLine}
use Rattle.netlist.specs.Nets.{NetValue, net_of}
use Rattle.netlist.specs.Netlists.{Netlist, IsInputPort, input_net}
use Rattle.net_parts.specs.Nets.{IsBit, IsNetOfWidth}
use Rattle.memory_runs.specs.Sides.{burst_width}
use Rattle.command_nets.specs.Ports.{HasNet}
use Rattle.mm_host.specs.declared.nets.HostNets.{HostNets}
use Rattle.mm_host.specs.Hosts.{AreHostNets, bursts}
use Rattle.mm_host.specs.Forms.{AreAnswersTo}
use Rattle.mm_agent.specs.declared.nets.AgentNets.{AgentNets}
use Rattle.mm_agent.specs.Agents.{AreAgentNets, has_address}
use Rattle.mm_agent.specs.Agents.{bursts as agent_bursts}
use Rattle.mm_fabric.specs.declared.parts.HostPart.{HostPart}
use Rattle.mm_fabric.specs.declared.parts.AgentPart.{AgentPart}
use Rattle.mm_fabric.specs.Parts.{IsAgentPart}
use Rattle.port_tables.specs.declared.roles.PortRole.{PortRole}
use Rattle.port_tables.specs.declared.roles.PortRole.TheVariants as role
use Rattle.port_tables.specs.declared.roles.RolePort.{RolePort}
use Rattle.port_tables.specs.Lists.{Among}
use Rattle.port_tables.specs.Ports.{bits_if, port_of, host_ports, agent_ports, ends_of, ports_of}
use Rattle.port_tables.specs.PortMaps.{IsPortIf, HasKnownPorts, port_at}
use Rattle.interconnect.specs.Outputs.{IsInput, input_at, HaveOwnRoles, MayDrive, MayDriveAt, AreUndriven}
use Rattle.interconnect.specs.Hosts.{AreHostInputs, host_roles, host_net, host_outputs}
use Rattle.interconnect.specs.Agents.{agent_inputs, agent_roles, agent_net, agent_outputs}
use Rattle.interconnect.proofs.Driving.{can_drive, own_roles, each_at, may_by}
use Rattle.interconnect.proofs.Inputs.{IsRead}

-- ---- ports

-- the ports of a host
pub record AreHostPorts (system : SystemTable) (end : EndId) (host : HostPort) : Type 0 where
  pub address : IsPortIf (ports_of system) false host.address_bits (port_at system end role.Address)
  pub read : IsPortIf (ports_of system) false (bits_if host.reads 1) (port_at system end role.Read)
  pub write : IsPortIf (ports_of system) false (bits_if host.writes 1) (port_at system end role.Write)
  pub writedata : IsPortIf (ports_of system) false (bits_if host.writes (host.word_bytes * 8)) (port_at system end role.WriteData)
  pub byteenable : IsPortIf (ports_of system) false (bits_if host.enables host.word_bytes) (port_at system end role.ByteEnable)
  pub burstcount : IsPortIf (ports_of system) false (bits_if (bursts host) (burst_width host.burst_bits)) (port_at system end role.BurstCount)
  pub waitrequest : IsPortIf (ports_of system) true (bits_if host.waitrequest 1) (port_at system end role.WaitRequest)
  pub readdata : IsPortIf (ports_of system) true (bits_if host.reads (host.word_bytes * 8)) (port_at system end role.ReadData)
  pub readdatavalid : IsPortIf (ports_of system) true (bits_if host.readdatavalid 1) (port_at system end role.ReadDataValid)
  pub response : IsPortIf (ports_of system) true (bits_if host.response 2) (port_at system end role.Response)

-- the ports of an agent
pub record AreAgentPorts (system : SystemTable) (end : EndId) (agent : AgentPort) : Type 0 where
  pub address : IsPortIf (ports_of system) true agent.address_bits (port_at system end role.Address)
  pub read : IsPortIf (ports_of system) true (bits_if agent.reads 1) (port_at system end role.Read)
  pub write : IsPortIf (ports_of system) true (bits_if agent.writes 1) (port_at system end role.Write)
  pub writedata : IsPortIf (ports_of system) true (bits_if agent.writes (agent.word_bytes * 8)) (port_at system end role.WriteData)
  pub byteenable : IsPortIf (ports_of system) true (bits_if agent.enables agent.word_bytes) (port_at system end role.ByteEnable)
  pub burstcount : IsPortIf (ports_of system) true (bits_if (agent_bursts agent) (burst_width agent.burst_bits)) (port_at system end role.BurstCount)
  pub waitrequest : IsPortIf (ports_of system) false (bits_if agent.waitrequest 1) (port_at system end role.WaitRequest)
  pub readdata : IsPortIf (ports_of system) false (bits_if agent.reads (agent.word_bytes * 8)) (port_at system end role.ReadData)
  pub readdatavalid : IsPortIf (ports_of system) false (bits_if agent.readdatavalid 1) (port_at system end role.ReadDataValid)
  pub response : IsPortIf (ports_of system) false (bits_if agent.response 2) (port_at system end role.Response)
  pub grant : IsPortIf (ports_of system) true 4 (port_at system end role.Grant)

pub some_number : (n : ℕ) → nat_eq n 0 ≡ false → 0 < n
some_number zero e = absurd (false≢true (sym e))
some_number (suc n) e = omega arith

eight : (n : ℕ) → 8 * n ≡ n * 8
eight n = omega arith

burst_bits : (n : ℕ) → n ≡ bits_if (not (nat_eq n 0)) (burst_width n)
burst_bits n = by (nat_eq n 0) refl
  where
    by : (b : Bool) → nat_eq n 0 ≡ b → n ≡ bits_if (not (nat_eq n 0)) (burst_width n)
    by true e = let none = (Decides-eqb n 0).0 e in rw e none
    by false e = rw e refl

pub host_ports_are : (system : SystemTable) (end : EndId) (host : HostPort) → HasKnownPorts system → Among end (ends_of system) → known_at system end ≡ Host host → AreHostPorts system end host
host_ports_are system end host h a e =
    let port = λ (p : RolePort) (may : Among p (host_ports host)). h.known end (Host host) p a e may in
    record {
      address = port (port_of role.Address host.address_bits) (inl refl);
      read = port (port_of role.Read (bits_if host.reads 1)) (inr (inl refl));
      write = port (port_of role.Write (bits_if host.writes 1)) (inr (inr (inl refl)));
      writedata = subst (λ (n : ℕ). IsPortIf (ports_of system) false (bits_if host.writes n) (port_at system end role.WriteData)) (eight host.word_bytes) (port (port_of role.WriteData (bits_if host.writes (8 * host.word_bytes))) (inr (inr (inr (inl refl)))));
      byteenable = port (port_of role.ByteEnable (bits_if host.enables host.word_bytes)) (inr (inr (inr (inr (inl refl)))));
      burstcount = subst (λ (n : ℕ). IsPortIf (ports_of system) false n (port_at system end role.BurstCount)) (burst_bits host.burst_bits) (port (port_of role.BurstCount host.burst_bits) (inr (inr (inr (inr (inr (inl refl)))))));
      waitrequest = port (port_of role.WaitRequest (bits_if host.waitrequest 1)) (inr (inr (inr (inr (inr (inr (inl refl)))))));
      readdata = subst (λ (n : ℕ). IsPortIf (ports_of system) true (bits_if host.reads n) (port_at system end role.ReadData)) (eight host.word_bytes) (port (port_of role.ReadData (bits_if host.reads (8 * host.word_bytes))) (inr (inr (inr (inr (inr (inr (inr (inl refl)))))))));
      readdatavalid = port (port_of role.ReadDataValid (bits_if host.readdatavalid 1)) (inr (inr (inr (inr (inr (inr (inr (inr (inl refl)))))))));
      response = port (port_of role.Response (bits_if host.response 2)) (inr (inr (inr (inr (inr (inr (inr (inr (inr (inl refl))))))))));
    }

pub agent_ports_are : (system : SystemTable) (end : EndId) (agent : AgentPort) → HasKnownPorts system → Among end (ends_of system) → known_at system end ≡ Agent agent → AreAgentPorts system end agent
agent_ports_are system end agent h a e =
    let port = λ (p : RolePort) (may : Among p (agent_ports agent)). h.known end (Agent agent) p a e may in
    record {
      address = port (port_of role.Address agent.address_bits) (inl refl);
      read = port (port_of role.Read (bits_if agent.reads 1)) (inr (inl refl));
      write = port (port_of role.Write (bits_if agent.writes 1)) (inr (inr (inl refl)));
      writedata = subst (λ (n : ℕ). IsPortIf (ports_of system) true (bits_if agent.writes n) (port_at system end role.WriteData)) (eight agent.word_bytes) (port (port_of role.WriteData (bits_if agent.writes (8 * agent.word_bytes))) (inr (inr (inr (inl refl)))));
      byteenable = port (port_of role.ByteEnable (bits_if agent.enables agent.word_bytes)) (inr (inr (inr (inr (inl refl)))));
      burstcount = subst (λ (n : ℕ). IsPortIf (ports_of system) true n (port_at system end role.BurstCount)) (burst_bits agent.burst_bits) (port (port_of role.BurstCount agent.burst_bits) (inr (inr (inr (inr (inr (inl refl)))))));
      waitrequest = port (port_of role.WaitRequest (bits_if agent.waitrequest 1)) (inr (inr (inr (inr (inr (inr (inl refl)))))));
      readdata = subst (λ (n : ℕ). IsPortIf (ports_of system) false (bits_if agent.reads n) (port_at system end role.ReadData)) (eight agent.word_bytes) (port (port_of role.ReadData (bits_if agent.reads (8 * agent.word_bytes))) (inr (inr (inr (inr (inr (inr (inr (inl refl)))))))));
      readdatavalid = port (port_of role.ReadDataValid (bits_if agent.readdatavalid 1)) (inr (inr (inr (inr (inr (inr (inr (inr (inl refl)))))))));
      response = port (port_of role.Response (bits_if agent.response 2)) (inr (inr (inr (inr (inr (inr (inr (inr (inr (inl refl))))))))));
      grant = port (port_of role.Grant 4) (inr (inr (inr (inr (inr (inr (inr (inr (inr (inr (inl refl)))))))))));
    }

-- ---- inputs

-- an input of some bits is there
pub input_there : (system : SystemTable) (end : EndId) (r : PortRole) (width : ℕ) → 0 < width → IsPortIf (ports_of system) false width (port_at system end r) → IsInput system end r width
input_there system end r width some port = by_place (port_at system end r) refl port
  where
    by_place : (o : Option ℕ) → port_at system end r ≡ o → IsPortIf (ports_of system) false width o → IsInput system end r width
    by_place None e p = absurd (omega (arith, some, p))
    by_place (Some k) e p = record { place = k; place_is = e; port = record { port = p.port; is = p.is; input = p.output_is; width = p.width_is } }

pub input_if : (ports : List PortLine) (present : Bool) (bits : ℕ) (o : Option ℕ) → IsPortIf ports false (bits_if present bits) o → IfSome o (λ k. IsInputPort ports k bits)
input_if ports present bits None p = tt
input_if ports true bits (Some k) p = record { port = p.port; is = p.is; input = p.output_is; width = p.width_is }
input_if ports false bits (Some k) p = (let some = p.some in absurd (omega (arith, some)))

-- the net of an input is there exactly where the port is
has_net : (ports : List PortLine) (netlist : Netlist) (there : Bool) (bits : ℕ) (net : Option NetValue) (o : Option ℕ) → 0 < bits → IsPortIf ports false (bits_if there bits) o
    → net ≡ option_map (λ (k : ℕ). net_of (input_net ports k) bits) o → IfSome net (λ n. IsNetOfWidth netlist n bits) → HasNet netlist there bits net
has_net ports netlist true bits net None some p e is = absurd (omega (arith, some, p))
has_net ports netlist true bits None (Some k) some p e is = absurd (let none : None ≡ Some (net_of (input_net ports k) bits) = e in cc)
has_net ports netlist true bits (Some n) (Some k) some p e is = (refl, is)
has_net ports netlist false bits None o some p e is = refl
has_net ports netlist false bits (Some n) None some p e is = absurd (let none : Some n ≡ None = e in cc)
has_net ports netlist false bits (Some n) (Some k) some p e is = (let none = p.some in absurd (omega (arith, none)))

-- what was read of an input that may be there
pub read_is : (system : SystemTable) (netlist : Netlist) (end : EndId) (r : PortRole) (there : Bool) (bits : ℕ) (net : Option NetValue) → IsPortIf (ports_of system) false (bits_if there bits) (port_at system end r)
    → IsRead system netlist end r net → net ≡ input_at system end r bits
read_is system netlist end r there bits net p read = read.net_is bits (input_if (ports_of system) there bits (port_at system end r) p)

pub read_has : (system : SystemTable) (netlist : Netlist) (end : EndId) (r : PortRole) (there : Bool) (bits : ℕ) (net : Option NetValue) → 0 < bits → IsPortIf (ports_of system) false (bits_if there bits) (port_at system end r)
    → IsRead system netlist end r net → HasNet netlist there bits net
read_has system netlist end r there bits net some p read =
    let here = input_if (ports_of system) there bits (port_at system end r) p in
    has_net (ports_of system) netlist there bits net (port_at system end r) some p (read.net_is bits here) (read.is bits here)

pub some_bytes : (bytes : ℕ) → IsWordSize bytes → 0 < bytes
some_bytes bytes size = let low : 0 ≤ size.exponent = omega arith in let least : 2 ^ 0 ≤ 2 ^ size.exponent = pow_mono low in let is = size.power in omega (arith, least, is)

pub some_bits : (bytes : ℕ) → IsWordSize bytes → 0 < bytes * 8
some_bits bytes size = let some = some_bytes bytes size in omega (arith, some)

pub some_burst : (n : ℕ) → 0 < burst_width n
some_burst n = by (nat_eq n 0) refl
  where
    by : (b : Bool) → nat_eq n 0 ≡ b → 0 < burst_width n
    by true e = rw e (omega arith)
    by false e = rw e (some_number n e)

-- what was read of a host
pub record IsHostRead (system : SystemTable) (netlist : Netlist) (end : EndId) (host : HostPort) (nets : HostNets) : Type 0 where
  pub ports : AreHostPorts system end host
  pub bounded : IsBoundedHost host
  pub address_is : input_at system end role.Address host.address_bits ≡ Some nets.address
  pub address : IsNetOfWidth netlist nets.address host.address_bits
  pub read : IsRead system netlist end role.Read nets.read
  pub write : IsRead system netlist end role.Write nets.write
  pub writedata : IsRead system netlist end role.WriteData nets.writedata
  pub byteenable : IsRead system netlist end role.ByteEnable nets.byteenable
  pub burstcount : IsRead system netlist end role.BurstCount nets.burstcount

pub host_inputs : (system : SystemTable) (netlist : Netlist) (end : EndId) (host : HostPort) (nets : HostNets) → IsHostRead system netlist end host nets → AreHostInputs system end host nets
host_inputs system netlist end host nets h = record {
  address = h.address_is;
  read = read_is system netlist end role.Read host.reads 1 nets.read h.ports.read h.read;
  write = read_is system netlist end role.Write host.writes 1 nets.write h.ports.write h.write;
  writedata = read_is system netlist end role.WriteData host.writes (host.word_bytes * 8) nets.writedata h.ports.writedata h.writedata;
  byteenable = read_is system netlist end role.ByteEnable host.enables host.word_bytes nets.byteenable h.ports.byteenable h.byteenable;
  burstcount = read_is system netlist end role.BurstCount (bursts host) (burst_width host.burst_bits) nets.burstcount h.ports.burstcount h.burstcount;
}

pub host_nets_are : (system : SystemTable) (netlist : Netlist) (end : EndId) (host : HostPort) (nets : HostNets) → IsHostRead system netlist end host nets → AreHostNets netlist host nets
host_nets_are system netlist end host nets h = record {
  address = h.address;
  read = read_has system netlist end role.Read host.reads 1 nets.read (omega arith) h.ports.read h.read;
  write = read_has system netlist end role.Write host.writes 1 nets.write (omega arith) h.ports.write h.write;
  writedata = read_has system netlist end role.WriteData host.writes (host.word_bytes * 8) nets.writedata (some_bits host.word_bytes h.bounded.ports.word) h.ports.writedata h.writedata;
  byteenable = read_has system netlist end role.ByteEnable host.enables host.word_bytes nets.byteenable (some_bytes host.word_bytes h.bounded.ports.word) h.ports.byteenable h.byteenable;
  burstcount = read_has system netlist end role.BurstCount (bursts host) (burst_width host.burst_bits) nets.burstcount (some_burst host.burst_bits) h.ports.burstcount h.burstcount;
}

-- ---- outputs

bit_there : (netlist : Netlist) (net : NetValue) (present : Bool) → IsBit netlist net → 0 < bits_if present 1 → IsNetOfWidth netlist net (bits_if present 1)
bit_there netlist net true is some = is
bit_there netlist net false is some = absurd (omega (arith, some))

word_there : (netlist : Netlist) (net : NetValue) (present : Bool) (bits : ℕ) → IsNetOfWidth netlist net bits → 0 < bits_if present bits → IsNetOfWidth netlist net (bits_if present bits)
word_there netlist net true bits is some = is
word_there netlist net false bits is some = absurd (omega (arith, some))

-- a net that is made where there is a port
made_there : (netlist : Netlist) (there : Bool) (bits : ℕ) (net : Option NetValue) (other : NetValue) → HasNet netlist there bits net → 0 < bits_if there bits → IsNetOfWidth netlist (unwrap_or net other) (bits_if there bits)
made_there netlist true bits None other h some = absurd (false≢true (sym h))
made_there netlist true bits (Some net) other h some = h.1
made_there netlist false bits net other h some = absurd (omega (arith, some))

pub address_bits : (n : ℕ) → n ≡ bits_if (not (nat_eq n 0)) n
address_bits n = by (nat_eq n 0) refl
  where
    by : (b : Bool) → nat_eq n 0 ≡ b → n ≡ bits_if (not (nat_eq n 0)) n
    by true e = let none = (Decides-eqb n 0).0 e in rw e none
    by false e = rw e refl

-- what a host is told may drive its outputs, where nothing does
pub host_may : (system : SystemTable) (end : EndId) (part : HostPart) (netlist : Netlist) → AreHostPorts system end part.port → netlist.ports ≡ ports_of system → AreAnswersTo netlist part.port part.told
    → AreUndriven system end netlist → MayDriveAt system end (host_outputs part) netlist
host_may system end part netlist h ports are undriven =
    let host = part.port in
    let told = part.told in
    may_by system end (host_net told) host_roles netlist
    (λ n r is. each_at (λ (r : PortRole). IfSome (port_at system end r) (MayDrive netlist (host_net told r))) host_roles n r (
      can_drive netlist (ports_of system) (bits_if host.waitrequest 1) told.waitrequest (port_at system end role.WaitRequest) ports h.waitrequest (bit_there netlist told.waitrequest host.waitrequest are.waitrequest) (undriven role.WaitRequest),
      (
        can_drive netlist (ports_of system) (bits_if host.reads (host.word_bytes * 8)) told.readdata (port_at system end role.ReadData) ports h.readdata (word_there netlist told.readdata host.reads (host.word_bytes * 8) are.readdata) (undriven role.ReadData),
        (
          can_drive netlist (ports_of system) (bits_if host.readdatavalid 1) (unwrap_or told.readdatavalid told.waitrequest) (port_at system end role.ReadDataValid) ports h.readdatavalid
              (made_there netlist host.readdatavalid 1 told.readdatavalid told.waitrequest are.readdatavalid) (undriven role.ReadDataValid),
          (
            can_drive netlist (ports_of system) (bits_if host.response 2) (unwrap_or told.response told.waitrequest) (port_at system end role.Response) ports h.response
                (made_there netlist host.response 2 told.response told.waitrequest are.response) (undriven role.Response),
            tt,
          ),
        ),
      ),
    ) is)

-- the place of a role among the outputs of a host
abbrev host_place : PortRole → ℕ
host_place role.WaitRequest = 0
host_place role.ReadData = 1
host_place role.ReadDataValid = 2
host_place _ = 3

pub host_own : (part : HostPart) → HaveOwnRoles (host_outputs part)
host_own part = own_roles (host_net part.told) host_place host_roles (refl, (refl, (refl, (refl, tt))))

-- the nets next to an agent may drive its outputs, where nothing does
pub agent_may : (system : SystemTable) (end : EndId) (stages : ℕ) (part : AgentPart) (netlist : Netlist) → AreAgentPorts system end part.port → netlist.ports ≡ ports_of system
    → IsAgentPart netlist stages part → AreUndriven system end netlist → MayDriveAt system end (agent_outputs part) netlist
agent_may system end stages part netlist h ports b undriven =
    let agent = part.port in
    let command = part.command in
    let word : IsNetOfWidth netlist command.word (agent.word_bytes * 8) = record { is_net = b.command.word; has_width = b.word } in
    let enables : IsNetOfWidth netlist command.enables agent.word_bytes = record { is_net = b.command.enables; has_width = b.enables } in
    let count : IsNetOfWidth netlist command.count (burst_width agent.burst_bits) = record { is_net = b.command.count; has_width = b.count } in
    let tagged : IsNetOfWidth netlist command.tag 4 = record { is_net = b.command.tag; has_width = b.tag } in
    may_by system end (agent_net part) agent_roles netlist
    (λ n r is. each_at (λ (r : PortRole). IfSome (port_at system end r) (MayDrive netlist (agent_net part r))) agent_roles n r (
      can_drive netlist (ports_of system) (bits_if (has_address agent) agent.address_bits) (unwrap_or part.made.address command.write) (port_at system end role.Address) ports
          (subst (λ (n : ℕ). IsPortIf (ports_of system) true n (port_at system end role.Address)) (address_bits agent.address_bits) h.address)
          (made_there netlist (has_address agent) agent.address_bits part.made.address command.write b.made.address) (undriven role.Address),
      (
        can_drive netlist (ports_of system) (bits_if agent.reads 1) (unwrap_or part.made.read command.write) (port_at system end role.Read) ports h.read
            (made_there netlist agent.reads 1 part.made.read command.write b.made.read) (undriven role.Read),
        (
          can_drive netlist (ports_of system) (bits_if agent.writes 1) command.write (port_at system end role.Write) ports h.write (bit_there netlist command.write agent.writes b.command.write) (undriven role.Write),
          (
            can_drive netlist (ports_of system) (bits_if agent.writes (agent.word_bytes * 8)) command.word (port_at system end role.WriteData) ports h.writedata
                (word_there netlist command.word agent.writes (agent.word_bytes * 8) word) (undriven role.WriteData),
            (
              can_drive netlist (ports_of system) (bits_if agent.enables agent.word_bytes) command.enables (port_at system end role.ByteEnable) ports h.byteenable
                  (word_there netlist command.enables agent.enables agent.word_bytes enables) (undriven role.ByteEnable),
              (
                can_drive netlist (ports_of system) (bits_if (agent_bursts agent) (burst_width agent.burst_bits)) command.count (port_at system end role.BurstCount) ports h.burstcount
                    (word_there netlist command.count (agent_bursts agent) (burst_width agent.burst_bits) count) (undriven role.BurstCount),
                (can_drive netlist (ports_of system) 4 command.tag (port_at system end role.Grant) ports h.grant (λ some. tagged) (undriven role.Grant), tt),
              ),
            ),
          ),
        ),
      ),
    ) is)

-- the place of a role among the outputs of an agent
abbrev agent_place : PortRole → ℕ
agent_place role.Address = 0
agent_place role.Read = 1
agent_place role.Write = 2
agent_place role.WriteData = 3
agent_place role.ByteEnable = 4
agent_place role.BurstCount = 5
agent_place _ = 6

pub agent_own : (part : AgentPart) → HaveOwnRoles (agent_outputs part)
agent_own part = own_roles (agent_net part) agent_place agent_roles (refl, (refl, (refl, (refl, (refl, (refl, (refl, tt)))))))

-- ---- an agent

-- what was read of an agent
pub record IsAgentRead (system : SystemTable) (netlist : Netlist) (end : EndId) (agent : AgentPort) (nets : AgentNets) : Type 0 where
  pub ports : AreAgentPorts system end agent
  pub bounded : IsBoundedAgent agent
  pub waitrequest : IsRead system netlist end role.WaitRequest nets.waitrequest
  pub readdata : IsRead system netlist end role.ReadData nets.readdata
  pub readdatavalid : IsRead system netlist end role.ReadDataValid nets.readdatavalid
  pub response : IsRead system netlist end role.Response nets.response

same_nets : {a b d e f g h i : Option NetValue} → a ≡ f → b ≡ g → d ≡ h → e ≡ i →
    let one : AgentNets = record { waitrequest = a; readdata = b; readdatavalid = d; response = e } in
    let other : AgentNets = record { waitrequest = f; readdata = g; readdatavalid = h; response = i } in
    one ≡ other
same_nets p q r s = cc

pub agent_inputs_are : (system : SystemTable) (netlist : Netlist) (end : EndId) (agent : AgentPort) (nets : AgentNets) → IsAgentRead system netlist end agent nets → nets ≡ agent_inputs system end agent
agent_inputs_are system netlist end agent nets h =
    same_nets (read_is system netlist end role.WaitRequest agent.waitrequest 1 nets.waitrequest h.ports.waitrequest h.waitrequest)
    (read_is system netlist end role.ReadData agent.reads (agent.word_bytes * 8) nets.readdata h.ports.readdata h.readdata)
    (read_is system netlist end role.ReadDataValid agent.readdatavalid 1 nets.readdatavalid h.ports.readdatavalid h.readdatavalid)
    (read_is system netlist end role.Response agent.response 2 nets.response h.ports.response h.response)

pub agent_nets_are : (system : SystemTable) (netlist : Netlist) (end : EndId) (agent : AgentPort) (nets : AgentNets) → IsAgentRead system netlist end agent nets → AreAgentNets netlist agent nets
agent_nets_are system netlist end agent nets h = record {
  waitrequest = read_has system netlist end role.WaitRequest agent.waitrequest 1 nets.waitrequest (omega arith) h.ports.waitrequest h.waitrequest;
  readdata = read_has system netlist end role.ReadData agent.reads (agent.word_bytes * 8) nets.readdata (some_bits agent.word_bytes h.bounded.ports.word) h.ports.readdata h.readdata;
  readdatavalid = read_has system netlist end role.ReadDataValid agent.readdatavalid 1 nets.readdatavalid (omega arith) h.ports.readdatavalid h.readdatavalid;
  response = read_has system netlist end role.Response agent.response 2 nets.response (omega arith) h.ports.response h.response;
}
