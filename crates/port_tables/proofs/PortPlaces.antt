-- Where the ports of ends stand in the header, by their roles.
use Rattle.std.proofs.Common.{◌≡◌, inl, inr, ℕ, suc, ◌+◌, ◌<◌, ◌^◌, Bool, true, false, cond, List, [], ◌∷◌, ◌++◌, length, map, slice_get, Option, Some, None, codes, refl, sym, ap, subst, ◌∙◌, arith, length-append}
use Rattle.std.specs.Prelude.{option_map}
use Rattle.std.specs.List.{flat_map, position_from}
use Rattle.std.specs.Str.{bytes_eq}
use Rattle.std.proofs.lemmas.Bool.{false≢true, ltb-true, ltb-false}
use Rattle.std.proofs.lemmas.List.{map-append, length-map}
use Rattle.std.proofs.lemmas.Option.{slice_get-map, slice_get_within}
use Rattle.std.proofs.lemmas.Simd.{map-map}
use Rattle.std.proofs.lemmas.Slice.Eq.{bytes_eq-Decides}
use Rattle.iface_roles.specs.declared.records.Finished.{Finished}
use Rattle.iface_roles.specs.declared.records.Finished.TheVariants.{Agent, Sink}
use Rattle.system_tables.specs.declared.tables.EndId.{EndId}
use Rattle.system_tables.specs.declared.tables.Connection.{Connection}
use Rattle.system_tables.specs.Tables.{SystemTable, IsEnd}
use Rattle.address_map.specs.Footprints.{known_at}
use Rattle.address_map.specs.Maps.{hosts_of, agents_of}
use Rattle.link_rules.specs.Links.{streams_of}
use Rattle.netlist.specs.declared.line.PortLine.{PortLine}
use Rattle.netlist.specs.Signals.{port_named}
use Rattle.port_tables.specs.declared.roles.PortRole.{PortRole}
use Rattle.port_tables.specs.declared.roles.PortRole.TheVariants as role
use Rattle.port_tables.specs.declared.roles.RolePort.{RolePort}
use Rattle.port_tables.specs.declared.port_table.PortEntry.{PortEntry}
use Rattle.port_tables.specs.declared.port_table.PortMap.{PortMap}
use Rattle.port_tables.specs.Ends.{IsStreamPlace}
use Rattle.port_tables.specs.Ports.{port_of, connection_ends, role_word, is_output, may_have, has_bits, role_ports, starts, name_at, port_name, port_line, end_ports, ends_of, ports_of}
use Rattle.port_tables.specs.PortMaps.{IsPortIf, IsOneRole, IsOwned, entry_of, end_entries, entries_of, line_of_entry, port_at, IsEntryAt, IsPlaceOf, module_role, IsPlaceFor, port_for, IsAt as IsAtEnd, IsTold, AreSinks, IsMapOf, AreTold}
use Rattle.port_tables.specs.EndFacts.{IsPlanned, known_is}
use Rattle.port_tables.proofs.Names.{one_name}
use Rattle.port_tables.specs.Numbering.{plan_end, ends_at, agent_known, sink_known}
use Rattle.port_tables.proofs.Words.{word_of, distinct_may_have}
use Rattle.port_tables.proofs.Headers.{end_named, one_end, distinct_ports, ports-few}
use Rattle.port_tables.proofs.Signals.{named_at, absent}
use Rattle.port_tables.specs.Lists.{Among, among_flat, among_at, at_among, among_front, among_back, among_map, among_flat_map, among_filter, among_kept, among_image, Distinct, slice_get-append, slice_get-front, nat_less}

-- ---- the header by its entries

lines-end : (system : SystemTable) (end : EndId) → map (line_of_entry system) (end_entries system end) ≡ end_ports system end
lines-end system end = map-map (line_of_entry system) (entry_of end (starts (known_at system end))) (role_ports (known_at system end))

lines-flat : (system : SystemTable) (ends : List EndId) → map (line_of_entry system) (flat_map (end_entries system) ends) ≡ flat_map (end_ports system) ends
lines-flat system [] = refl
lines-flat system (end ∷ ends) =
    map-append (line_of_entry system) (end_entries system end) (flat_map (end_entries system) ends)
    ∙ ap (λ (lines : List PortLine). lines ++ map (line_of_entry system) (flat_map (end_entries system) ends)) (lines-end system end)
    ∙ ap (λ (lines : List PortLine). end_ports system end ++ lines) (lines-flat system ends)

pub lines-are : (system : SystemTable) → map (line_of_entry system) (entries_of system) ≡ ports_of system
lines-are system = lines-flat system (ends_of system)

-- the line of an entry
line_at : (system : SystemTable) (k : ℕ) (entry : PortEntry) → slice_get (entries_of system) k ≡ Some entry → slice_get (ports_of system) k ≡ Some (line_of_entry system entry)
line_at system k entry e =
    ap (λ (ports : List PortLine). slice_get ports k) (sym (lines-are system)) ∙ slice_get-map (line_of_entry system) (entries_of system) k ∙ ap (option_map (line_of_entry system)) e

record HasEntry (system : SystemTable) (k : ℕ) (line : PortLine) : Type 0 where
  entry : PortEntry
  is : slice_get (entries_of system) k ≡ Some entry
  line_is : line_of_entry system entry ≡ line

entry_at : (system : SystemTable) (k : ℕ) (line : PortLine) → slice_get (ports_of system) k ≡ Some line → HasEntry system k line
entry_at system k line e =
    by_found (slice_get (entries_of system) k) refl (sym (slice_get-map (line_of_entry system) (entries_of system) k) ∙ ap (λ (ports : List PortLine). slice_get ports k) (lines-are system) ∙ e)
  where
    by_found : (o : Option PortEntry) → slice_get (entries_of system) k ≡ o → option_map (line_of_entry system) o ≡ Some line → HasEntry system k line
    by_found None f g = absurd (let none : None ≡ Some line = g in cc)
    by_found (Some entry) f g = record { entry = entry; is = f; line_is = cc }

-- ---- roles by their words

-- the role of a word
abbrev role_of : List ℕ → PortRole
role_of word =
    cond (bytes_eq word (codes "address")) role.Address
    (cond (bytes_eq word (codes "read")) role.Read
    (cond (bytes_eq word (codes "write")) role.Write
    (cond (bytes_eq word (codes "writedata")) role.WriteData
    (cond (bytes_eq word (codes "byteenable")) role.ByteEnable
    (cond (bytes_eq word (codes "burstcount")) role.BurstCount
    (cond (bytes_eq word (codes "waitrequest")) role.WaitRequest
    (cond (bytes_eq word (codes "readdata")) role.ReadData
    (cond (bytes_eq word (codes "readdatavalid")) role.ReadDataValid
    (cond (bytes_eq word (codes "response")) role.Response
    (cond (bytes_eq word (codes "grant")) role.Grant
    (cond (bytes_eq word (codes "ready")) role.Ready
    (cond (bytes_eq word (codes "valid")) role.Valid
    (cond (bytes_eq word (codes "data")) role.Data
    (cond (bytes_eq word (codes "channel")) role.Channel
    (cond (bytes_eq word (codes "error")) role.Error
    (cond (bytes_eq word (codes "startofpacket")) role.StartOfPacket
    (cond (bytes_eq word (codes "endofpacket")) role.EndOfPacket
    (cond (bytes_eq word (codes "empty")) role.Empty role.Dropped))))))))))))))))))

role_of-word : (r : PortRole) → role_of (role_word r) ≡ r
role_of-word role.Address = refl
role_of-word role.Read = refl
role_of-word role.Write = refl
role_of-word role.WriteData = refl
role_of-word role.ByteEnable = refl
role_of-word role.BurstCount = refl
role_of-word role.WaitRequest = refl
role_of-word role.ReadData = refl
role_of-word role.ReadDataValid = refl
role_of-word role.Response = refl
role_of-word role.Grant = refl
role_of-word role.Ready = refl
role_of-word role.Valid = refl
role_of-word role.Data = refl
role_of-word role.Channel = refl
role_of-word role.Error = refl
role_of-word role.StartOfPacket = refl
role_of-word role.EndOfPacket = refl
role_of-word role.Empty = refl
role_of-word role.Dropped = refl

one_word : (r s : PortRole) → role_word r ≡ role_word s → r ≡ s
one_word r s e = sym (role_of-word r) ∙ ap role_of e ∙ role_of-word s

-- ---- ports by their names

-- the port that was found has the name
pub record IsNamedAt (ports : List PortLine) (j k : ℕ) (name : List ℕ) : Type 0 where
  pub place : ℕ
  pub number : k ≡ j + place
  pub port : PortLine
  pub is : slice_get ports place ≡ Some port
  pub named : port.name ≡ name

named_from : (ports : List PortLine) (j k : ℕ) (name : List ℕ) → position_from (λ (p : PortLine). bytes_eq p.name name) j ports ≡ Some k → IsNamedAt ports j k name
named_from [] j k name e = absurd (let none : None ≡ Some k = e in cc)
named_from (p ∷ ports) j k name e = by_test (λ f. named_from ports (j + 1) k name f) (bytes_eq p.name name) refl e
  where
    by_test : (position_from (λ (p : PortLine). bytes_eq p.name name) (j + 1) ports ≡ Some k → IsNamedAt ports (j + 1) k name) → (b : Bool) → bytes_eq p.name name ≡ b → cond b (Some j) (position_from (λ (p : PortLine). bytes_eq p.name name) (j + 1) ports) ≡ Some k → IsNamedAt (p ∷ ports) j k name
    by_test more true f g = record { place = 0; number = (let is : j ≡ k = cc in omega (arith, is)); port = p; is = refl; named = (bytes_eq-Decides p.name name).0 f }
    by_test more false f g = (let rest = more g in
        record { place = suc rest.place; number = (let n = rest.number in omega (arith, n)); port = rest.port; is = rest.is; named = rest.named })

-- the port at a place that was found
pub record IsFound (ports : List PortLine) (k : ℕ) (name : List ℕ) : Type 0 where
  pub port : PortLine
  pub is : slice_get ports k ≡ Some port
  pub named : port.name ≡ name

pub found_at : (ports : List PortLine) (k : ℕ) (name : List ℕ) → port_named ports name ≡ Some k → IsFound ports k name
found_at ports k name e =
    let at = named_from ports 0 k name e in
    let n : at.place ≡ k = (let m = at.number in omega (arith, m)) in
    record { port = at.port; is = subst (λ (i : ℕ). slice_get ports i ≡ Some at.port) n at.is; named = at.named }

one_port : (system : SystemTable) (a b : EndId) (r s : PortRole) → IsPlanned system → Among a (ends_of system) → Among b (ends_of system)
    → port_name (name_at system a) (role_word r) ≡ port_name (name_at system b) (role_word s) → IsOneRole a b r s
one_port system a b r s h k l e =
    let x = plan_end system a h k in
    let y = plan_end system b h l in
    let one = one_name (name_at system a) (name_at system b) (role_word r) (role_word s) (end_named system a x.known h.kept x.is) (end_named system b y.known h.kept y.is) e in
    record { end = one_end system a b x.known y.known h.kept x.is y.is one.instance one.interface; role = one_word r s one.word }

-- a port stands for one end and one role
pub one_role : (system : SystemTable) (a b : EndId) (r s : PortRole) (k : ℕ) → IsPlanned system → Among a (ends_of system) → Among b (ends_of system)
    → port_at system a r ≡ Some k → port_at system b s ≡ Some k → IsOneRole a b r s
one_role system a b r s k h i j e f =
    let x = found_at (ports_of system) k _ e in
    let y = found_at (ports_of system) k _ f in
    let p = x.is in
    let q = y.is in
    let same : x.port ≡ y.port = cc in
    one_port system a b r s h i j (sym x.named ∙ ap (λ (p : PortLine). p.name) same ∙ y.named)

-- ---- what the map tells

end_of_entry : (system : SystemTable) (k : ℕ) (entry : PortEntry) → slice_get (entries_of system) k ≡ Some entry → Among entry.end (ends_of system)
end_of_entry system k entry e =
    let from = among_flat_map (end_entries system) (ends_of system) entry (among_at (entries_of system) k entry e) in
    let made = among_map (entry_of from.from (starts (known_at system from.from))) (role_ports (known_at system from.from)) entry from.makes in
    subst (λ (end : EndId). Among end (ends_of system)) (ap (λ (entry : PortEntry). entry.end) made.makes) from.among

-- a port of the name is an entry of the end and the role
pub entry_of_port : (system : SystemTable) (end : EndId) (r : PortRole) (k : ℕ) → IsPlanned system → Among end (ends_of system) → port_at system end r ≡ Some k → IsEntryAt (entries_of system) k end r
entry_of_port system end r k h a e =
    let found = found_at (ports_of system) k _ e in
    let has = entry_at system k found.port found.is in
    let one = one_port system has.entry.end end has.entry.port.role r h (end_of_entry system k has.entry has.is) a (ap (λ (p : PortLine). p.name) has.line_is ∙ found.named) in
    record { entry = has.entry; is = has.is; end_is = one.end; role_is = one.role }

-- and an entry of them has the name
port_of_entry : (system : SystemTable) (end : EndId) (r : PortRole) (k : ℕ) → IsPlanned system → IsEntryAt (entries_of system) k end r → port_at system end r ≡ Some k
port_of_entry system end r k h at =
    let line = line_at system k at.entry at.is in
    let named = named_at (ports_of system) k (line_of_entry system at.entry) (distinct_ports system h) line in
    ap (λ (e : EndId). port_named (ports_of system) (port_name (name_at system e) (role_word r))) (sym at.end_is)
    ∙ ap (λ (s : PortRole). port_named (ports_of system) (port_name (name_at system at.entry.end) (role_word s))) (sym at.role_is)
    ∙ named

pub place_is : (system : SystemTable) (entries : List PortEntry) (end : EndId) (r : PortRole) (place : Option ℕ) → IsPlanned system → entries ≡ entries_of system → Among end (ends_of system)
    → IsPlaceOf entries end r place → place ≡ port_at system end r
place_is system entries end r (Some k) h e a at = sym (port_of_entry system end r k h (subst (λ (es : List PortEntry). IsEntryAt es k end r) e at))
place_is system entries end r None h e a none = by_found (port_at system end r) refl
  where
    by_found : (o : Option ℕ) → port_at system end r ≡ o → None ≡ port_at system end r
    by_found None f = sym f
    by_found (Some k) f = absurd (none k (subst (λ (es : List PortEntry). IsEntryAt es k end r) (sym e) (entry_of_port system end r k h a f)))

pub place_for : (system : SystemTable) (entries : List PortEntry) (end : EndId) (r : Option PortRole) (place : Option ℕ) → IsPlanned system → entries ≡ entries_of system → Among end (ends_of system)
    → IsPlaceFor entries end r place → place ≡ port_for system end r
place_for system entries end None place h e a at = at
place_for system entries end (Some r) place h e a at = place_is system entries end r place h e a at

-- a port that is there is told by the number of its end
pub told : (system : SystemTable) (ends : List EndId) (entries : List PortEntry) (number : ℕ) (end : EndId) (r : PortRole) (k : ℕ) → IsPlanned system → entries ≡ entries_of system
    → Among end (ends_of system) → slice_get ends number ≡ Some end → port_at system end r ≡ Some k → IsTold system end r (IsAtEnd ends entries number r)
told system ends entries number end r k h e a at is =
    record {
      place = k;
      told = record { end = end; end_is = at; is = subst (λ (es : List PortEntry). IsEntryAt es k end r) (sym e) (entry_of_port system end r k h a is) };
      only = λ other there. (let p = there.end_is in
          let same : there.end ≡ end = cc in
          let q = port_of_entry system end r other h (subst (λ (x : EndId). IsEntryAt (entries_of system) other x r) same (subst (λ (es : List PortEntry). IsEntryAt es other there.end r) e there.is)) in
          let both : Some other ≡ Some k = sym q ∙ is in
          cc);
      named = is;
    }

-- ---- the port of a role that an end may have

-- of ports with distinct words two of one word are one
one_of_word : (ports : List RolePort) (p q : RolePort) → Distinct (map word_of ports) → Among p ports → Among q ports → word_of p ≡ word_of q → p ≡ q
one_of_word [] p q d h k e = absurd h
one_of_word (x ∷ ports) p q d (inl a) (inl b) e = sym a ∙ b
one_of_word (x ∷ ports) p q d (inl a) (inr b) e = absurd (d.0 (subst (λ (w : List ℕ). Among w (map word_of ports)) (sym e ∙ ap word_of (sym a)) (among_image word_of ports q b)))
one_of_word (x ∷ ports) p q d (inr a) (inl b) e = absurd (d.0 (subst (λ (w : List ℕ). Among w (map word_of ports)) (e ∙ ap word_of (sym b)) (among_image word_of ports p a)))
one_of_word (x ∷ ports) p q d (inr a) (inr b) e = one_of_word ports p q d.1 a b e

port_there : (system : SystemTable) (end : EndId) (known : Finished) (p : RolePort) → IsPlanned system → Among end (ends_of system) → known_at system end ≡ known → Among p (may_have known)
    → has_bits p ≡ true → IsPortIf (ports_of system) (is_output (starts known) p.role) p.width (port_at system end p.role)
port_there system end known p h a e may present =
    let there : Among p (role_ports known) = among_kept has_bits (may_have known) p may present in
    let here : Among p (role_ports (known_at system end)) = subst (λ (k : Finished). Among p (role_ports k)) (sym e) there in
    let line : PortLine = port_line (name_at system end) (starts (known_at system end)) p in
    let among = among_flat (end_ports system) (ends_of system) end line a (among_image (port_line (name_at system end) (starts (known_at system end))) (role_ports (known_at system end)) p here) in
    let at = at_among (ports_of system) line among in
    let named : port_at system end p.role ≡ Some at.place = named_at (ports_of system) at.place line (distinct_ports system h) at.is in
    subst (IsPortIf (ports_of system) (is_output (starts known) p.role) p.width) (sym named) (record {
      port = line;
      is = at.is;
      output_is = ap (λ (k : Finished). is_output (starts k) p.role) e;
      width_is = refl;
      some = ltb-true 0 p.width present;
    })

port_missing : (system : SystemTable) (end : EndId) (known : Finished) (p : RolePort) → IsPlanned system → Among end (ends_of system) → known_at system end ≡ known → Among p (may_have known)
    → has_bits p ≡ false → IsPortIf (ports_of system) (is_output (starts known) p.role) p.width (port_at system end p.role)
port_missing system end known p h a e may missing_bits =
    let x = plan_end system end h a in
    let none : Among (word_of p) (map word_of (role_ports x.known)) → ⊥ =
    λ among. (let from = among_map word_of (role_ports x.known) (word_of p) among in
    let is : x.known ≡ known = sym (known_is system end x.known x.is) ∙ e in
    let kept = among_filter has_bits (may_have known) from.from (subst (λ (k : Finished). Among from.from (role_ports k)) is from.among) in
    let same = one_of_word (may_have known) from.from p (distinct_may_have known) kept.0 may from.makes in
    let both : false ≡ true = sym missing_bits ∙ ap has_bits (sym same) ∙ kept.1 in
    false≢true both) in
    let missing : port_at system end p.role ≡ None = absent system end x.known (word_of p) h x.is none in
    let width : p.width ≡ 0 = (let most = ltb-false 0 p.width missing_bits in omega (arith, most)) in
    subst (IsPortIf (ports_of system) (is_output (starts known) p.role) p.width) (sym missing) width

pub port_known : (system : SystemTable) (end : EndId) (known : Finished) (p : RolePort) → IsPlanned system → Among end (ends_of system) → known_at system end ≡ known → Among p (may_have known)
    → IsPortIf (ports_of system) (is_output (starts known) p.role) p.width (port_at system end p.role)
port_known system end known p h a e may = by_bits (has_bits p) refl
  where
    by_bits : (b : Bool) → has_bits p ≡ b → IsPortIf (ports_of system) (is_output (starts known) p.role) p.width (port_at system end p.role)
    by_bits true f = port_there system end known p h a e may f
    by_bits false f = port_missing system end known p h a e may f

-- the end and the role of a port
pub port_owner : (system : SystemTable) (k : ℕ) (port : PortLine) → IsPlanned system → slice_get (ports_of system) k ≡ Some port → IsOwned system k port
port_owner system k port h e =
    let from = among_flat_map (end_ports system) (ends_of system) port (among_at (ports_of system) k port e) in
    let known = known_at system from.from in
    let line = among_map (port_line (name_at system from.from) (starts known)) (role_ports known) port from.makes in
    let kept = among_filter has_bits (may_have known) line.from line.among in
    record {
      end = from.from;
      role_port = line.from;
      among = from.among;
      may = kept.0;
      some = ltb-true 0 line.from.width kept.1;
      named = named_at (ports_of system) k (port_line (name_at system from.from) (starts known) line.from) (distinct_ports system h) (e ∙ ap Some (sym line.makes));
      output = ap (λ (p : PortLine). p.output) (sym line.makes);
    }

-- ---- the whole map

pub sinks_more : (system : SystemTable) (number : ℕ) (sinks more : List EndId) (connection : Connection) → AreSinks system number sinks → IsStreamPlace system number connection → more ≡ sinks ++ connection.end ∷ []
    → AreSinks system (number + 1) more
sinks_more system number sinks more connection h at e =
    record {
      count = (let whole = ap (λ (xs : List EndId). length xs) e ∙ length-append sinks (connection.end ∷ []) in let count = h.count in omega (arith, whole, count));
      each = λ n place a below f g. ap (λ (xs : List EndId). slice_get xs n) e ∙ elim (nat_less n number below) [
        | inl earlier ↦ slice_get-front sinks (connection.end ∷ []) n a.end (h.each n place a earlier f g)
        | inr same ↦ (let here : slice_get (streams_of system) number ≡ Some place = subst (λ (m : ℕ). slice_get (streams_of system) m ≡ Some place) same f in
            let mine = at.place_is in
            let places : at.place ≡ place = cc in
            let there = at.connection_is in
            let connections : Some connection ≡ Some a = sym there ∙ ap (slice_get system.connections) places ∙ g in
            let one : connection ≡ a = cc in
            let last : length sinks + 0 ≡ n = (let count = h.count in omega (arith, count, same)) in
            subst (λ (m : ℕ). slice_get (sinks ++ connection.end ∷ []) m ≡ Some a.end) last (slice_get-append sinks (connection.end ∷ []) 0 ∙ ap (λ (c : Connection). Some c.end) one))
      ];
    }

port_some : (ports : List PortLine) (output : Bool) (width : ℕ) (o : Option ℕ) → IsPortIf ports output (suc width) o → (k : ℕ) × (o ≡ Some k)
port_some ports output width None e = absurd (omega (arith, e))
port_some ports output width (Some k) p = (k, refl)

agent_among : (system : SystemTable) (number : ℕ) (end : EndId) → slice_get (agents_of system) number ≡ Some end → Among end (ends_of system)
agent_among system number end e =
    among_front (hosts_of system ++ agents_of system) (flat_map (connection_ends system) (streams_of system)) end (among_back (hosts_of system) (agents_of system) end (among_at (agents_of system) number end e))

sink_among : (system : SystemTable) (number place : ℕ) (connection : Connection) → slice_get (streams_of system) number ≡ Some place → slice_get system.connections place ≡ Some connection → Among connection.end (ends_of system)
sink_among system number place connection e f =
    among_back (hosts_of system ++ agents_of system) (flat_map (connection_ends system) (streams_of system)) connection.end
    (among_flat (connection_ends system) (streams_of system) place connection.end (among_at (streams_of system) number place e)
    (subst (λ (ends : List EndId). Among connection.end ends) (sym (ends_at system place connection f)) (inr (inl refl))))

pub are_told : (system : SystemTable) (ports : PortMap) → IsPlanned system → IsMapOf system ports → AreTold system ports
are_told system ports h m =
    record {
      places = λ number end e r place at. place_for system ports.entries end (module_role r) place h m.entries (among_at (ends_of system) number end e) at;
      grants = λ number end e. (let a = agent_among system number end e in
          let known = agent_known system number end h e in
          let at = port_some (ports_of system) true 3 (port_at system end role.Grant)
          (port_known system end (Agent known.0) (port_of role.Grant 4) h a known.1 (inr (inr (inr (inr (inr (inr (inr (inr (inr (inr (inl refl)))))))))))) in
          told system ports.agents ports.entries number end role.Grant at.0 h m.entries a (ap (λ (ends : List EndId). slice_get ends number) m.agents ∙ e) at.1);
      dropped = λ number place connection e f. (let a = sink_among system number place connection e f in
          let known = sink_known system number place connection h e f in
          let at = port_some (ports_of system) true 0 (port_at system connection.end role.Dropped)
          (port_known system connection.end (Sink known.0) (port_of role.Dropped 1) h a known.1 (inr (inr (inr (inr (inr (inr (inr (inr (inl refl)))))))))) in
          told system ports.sinks ports.entries number connection.end role.Dropped at.0 h m.entries a
          (m.sinks.each number place connection (slice_get_within (streams_of system) number place e) e f) at.1);
    }

pub entries-few : (system : SystemTable) (entries : List PortEntry) → IsPlanned system → entries ≡ entries_of system → length entries < 2 ^ 32
entries-few system entries h e =
    let same = ap (λ (es : List PortEntry). length es) e in
    let mapped = length-map (entries_of system) (line_of_entry system) in
    let lines = ap (λ (ps : List PortLine). length ps) (lines-are system) in
    let few = ports-few system h in
    omega (arith, same, mapped, lines, few)

-- the end of an entry is one of the system's
pub entry_end : (system : SystemTable) (entries : List PortEntry) (k : ℕ) (entry : PortEntry) → IsPlanned system → entries ≡ entries_of system → slice_get entries k ≡ Some entry
    → (known : Finished) × IsEnd system entry.end known
entry_end system entries k entry h e is =
    let at = plan_end system entry.end h (end_of_entry system k entry (subst (λ (es : List PortEntry). slice_get es k ≡ Some entry) e is)) in
    (at.known, at.is)
