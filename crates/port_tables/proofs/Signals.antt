-- The ports of an end by their names, and the signals at them.
use Rattle.std.proofs.Common.{◌≡◌, ◌≢◌, ◌⊎◌, inl, inr, ℕ, zero, suc, ◌+◌, Bool, true, false, List, [], ◌∷◌, map, get_or, slice_get, Some, None, refl, sym, ap, subst, ◌∙◌, arith, AllPairs}
use Rattle.std.specs.List.{position_from}
use Rattle.std.specs.Str.{bytes_eq}
use Rattle.std.proofs.lemmas.Bool.{false_from_ne_true}
use Rattle.std.proofs.lemmas.Option.{get_or_from_slice_get, slice_get_within}
use Rattle.std.proofs.lemmas.Slice.Eq.{bytes_eq-Decides}
use Rattle.iface_roles.specs.declared.records.Finished.{Finished}
use Rattle.system_tables.specs.declared.tables.EndId.{EndId}
use Rattle.system_tables.specs.Tables.{SystemTable, IsEnd}
use Rattle.address_map.specs.Footprints.{known_at}
use Rattle.netlist.specs.declared.line.PortLine.{PortLine}
use Rattle.netlist.specs.Signals.{port_named}
use Rattle.port_tables.specs.declared.roles.RolePort.{RolePort}
use Rattle.port_tables.specs.Ports.{role_ports, starts, name_at, port_name, port_line, end_ports, ends_of, ports_of}
use Rattle.port_tables.specs.EndFacts.{IsPlanned, known_is}
use Rattle.port_tables.proofs.Names.{one_name}
use Rattle.port_tables.proofs.Words.{word_of}
use Rattle.port_tables.specs.Numbering.{plan_end}
use Rattle.port_tables.proofs.Headers.{end_named, one_end}
use Rattle.port_tables.specs.Lists.{Among, among_map, among_flat_map, among_image}

-- no two ports have one name, so each is found by its own
found_from : (ports : List PortLine) (j k : ℕ) (port : PortLine) → AllPairs (λ (p q : PortLine). p.name ≢ q.name) ports → slice_get ports k ≡ Some port →
    position_from (λ (p : PortLine). bytes_eq p.name port.name) j ports ≡ Some (j + k)
found_from [] j k port h e = absurd (let none : None ≡ Some port = e in cc)
found_from (p ∷ ports) j zero port h e =
    let is : p ≡ port = cc in
    let same : bytes_eq p.name port.name ≡ true = (bytes_eq-Decides p.name port.name).1 (ap (λ (q : PortLine). q.name) is) in
    let z : j + 0 ≡ j = omega arith in
    rw (same, z) refl
found_from (p ∷ ports) j (suc k) port h e =
    let below = slice_get_within ports k port e in
    let at : get_or ports k port ≡ port = get_or_from_slice_get ports k port port e in
    let other : p.name ≢ port.name = subst (λ (q : PortLine). p.name ≢ q.name) at (h 0 (suc k) port (omega arith) (omega arith)) in
    let differ = false_from_ne_true (bytes_eq p.name port.name) (λ s. other ((bytes_eq-Decides p.name port.name).0 s)) in
    let z : j + suc k ≡ (j + 1) + k = omega arith in
    rw (differ, z) (found_from ports (j + 1) k port (λ m n d lt in_list. h (suc m) (suc n) d (omega arith) (omega arith)) e)

pub named_at : (ports : List PortLine) (k : ℕ) (port : PortLine) → AllPairs (λ (p q : PortLine). p.name ≢ q.name) ports → slice_get ports k ≡ Some port → port_named ports port.name ≡ Some k
named_at ports k port h e = let z : 0 + k ≡ k = omega arith in found_from ports 0 k port h e ∙ ap Some z

-- a name that no port has
none_named : (ports : List PortLine) (j : ℕ) (name : List ℕ) → ((p : PortLine) → Among p ports → p.name ≢ name) → position_from (λ (p : PortLine). bytes_eq p.name name) j ports ≡ None
none_named [] j name h = refl
none_named (p ∷ ports) j name h =
    let differ = false_from_ne_true (bytes_eq p.name name) (λ s. h p (inl refl) ((bytes_eq-Decides p.name name).0 s)) in
    rw differ (none_named ports (j + 1) name (λ q a. h q (inr a)))

-- of a role that the end hasn't there is no port
pub absent : (system : SystemTable) (end : EndId) (known : Finished) (word : List ℕ) → IsPlanned system → IsEnd system end known → (Among word (map word_of (role_ports known)) → ⊥)
    → port_named (ports_of system) (port_name (name_at system end) word) ≡ None
absent system end known word h is none =
    none_named (ports_of system) 0 (port_name (name_at system end) word)
    (λ p a same. (let from = among_flat_map (end_ports system) (ends_of system) p a in
    let at = plan_end system from.from h from.among in
    let line = among_map (port_line (name_at system from.from) (starts (known_at system from.from))) (role_ports (known_at system from.from)) p from.makes in
    let names : port_name (name_at system from.from) (word_of line.from) ≡ port_name (name_at system end) word = ap (λ (q : PortLine). q.name) line.makes ∙ same in
    let one = one_name (name_at system from.from) (name_at system end) (word_of line.from) word (end_named system from.from at.known h.kept at.is) (end_named system end known h.kept is) names in
    let ends = one_end system from.from end at.known known h.kept at.is is one.instance one.interface in
    let there : known_at system from.from ≡ known = ap (known_at system) ends ∙ known_is system end known is in
    let among = among_image word_of (role_ports (known_at system from.from)) line.from line.among in
    none (subst (λ (k : Finished). Among word (map word_of (role_ports k))) there (subst (λ (w : List ℕ). Among w (map word_of (role_ports (known_at system from.from)))) one.word among))))

-- a role among the ports of an end
pub record IsRoleAt (word : List ℕ) (roles : List RolePort) : Type 0 where
  pub place : ℕ
  pub port : RolePort
  pub is : slice_get roles place ≡ Some port
  pub named : word_of port ≡ word

find_next : (word : List ℕ) (role : RolePort) (roles : List RolePort) → (b : Bool) → bytes_eq (word_of role) word ≡ b → IsRoleAt word roles ⊎ (Among word (map word_of roles) → ⊥)
    → IsRoleAt word (role ∷ roles) ⊎ (Among word (map word_of (role ∷ roles)) → ⊥)
find_next word role roles true e rest = inl (record { place = 0; port = role; is = refl; named = (bytes_eq-Decides (word_of role) word).0 e })
find_next word role roles false e (inl at) = inl (record { place = suc at.place; port = at.port; is = at.is; named = at.named })
find_next word role roles false e (inr none) =
    inr (λ a. elim a [
      | inl same ↦ (let yes = (bytes_eq-Decides (word_of role) word).1 same in let both : false ≡ true = sym e ∙ yes in cc)
      | inr more ↦ none more
    ])

pub find_role : (word : List ℕ) (roles : List RolePort) → IsRoleAt word roles ⊎ (Among word (map word_of roles) → ⊥)
find_role word [] = inr (λ a. a)
find_role word (role ∷ roles) = find_next word role roles (bytes_eq (word_of role) word) refl (find_role word roles)
