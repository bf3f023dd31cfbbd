-- The name of host 0, as a word of a scenario.
use Rattle.std.proofs.Common.{◌≡◌, ℕ, suc, ◌<◌, ◌≤◌, ◌&&◌, Bool, true, List, [], ◌∷◌, ◌++◌, length, slice_get, Option, Some, codes, refl, sym, ap, subst, ◌∙◌, length-append, arith}
use Rattle.std.specs.Prelude.{nat_le, position, option_and_then}
use Rattle.std.specs.Option.{option_map_or}
use Rattle.std.specs.List.{list_all}
use Rattle.std.specs.Str.{bytes_eq}
use Rattle.std.proofs.lemmas.Bool.{lt-ltb, leb-true, and_parts}
use Rattle.std.proofs.lemmas.Bool.Decides.{nat_tests}
use Rattle.std.proofs.lemmas.Slice.Eq.{bytes_eq-Decides}
use Rattle.iface_roles.specs.declared.records.HostPort.{HostPort}
use Rattle.iface_roles.specs.declared.records.Finished.{Finished}
use Rattle.system_tables.specs.declared.tables.EndId.{EndId}
use Rattle.system_tables.specs.Names.{is_name_byte, begins_with_letter, is_name}
use Rattle.system_tables.specs.Tables.{SystemTable, InstanceTable, IsEnd, IsSystem}
use Rattle.address_map.specs.Footprints.{known_at}
use Rattle.address_map.specs.Maps.{hosts_of}
use Rattle.link_rules.specs.Plans.{instance_name_at, interface_name_of, interface_name_at}
use Rattle.map_text.specs.Text.{end_name}
use Rattle.scenario_tables.specs.Scenarios.{IsHostAt}
use Rattle.waves.specs.Words.{is_filled}
use Rattle.scenarios.specs.Interfaces.{as_host, host_at, host_named}
use Rattle.scenario_runs.specs.Stated.{host_name}
use Rattle.scenario_runs.proofs.transfers.Cutting.{is_solid, IsWord}
use Rattle.scenario_runs.proofs.transfers.Numbers.{both_pass}
use Rattle.scenario_runs.proofs.transfers.Stating.{IsNamed}

-- ---- names as words

byte_solid : (byte : ℕ) → is_name_byte byte ≡ true → is_solid byte ≡ true
byte_solid byte h = grind (arith, nat_tests)

solid : (name : List ℕ) → list_all is_name_byte name ≡ true → list_all is_solid name ≡ true
solid [] h = refl
solid (byte ∷ name) h = let parts = and_parts (is_name_byte byte) (list_all is_name_byte name) h in rw (byte_solid byte parts.0, solid name parts.1) refl

record IsShortName (name : List ℕ) : Type 0 where
  all : list_all is_name_byte name ≡ true
  few : length name ≤ 64

short_name : (name : List ℕ) → is_name name ≡ true → IsShortName name
unfolding is_name
short_name name h =
    let parts = and_parts (begins_with_letter name && list_all is_name_byte name) (nat_le (length name) 64) h in
    record { all = (and_parts (begins_with_letter name) (list_all is_name_byte name) parts.0).1; few = leb-true (length name) 64 parts.1 }

filled_behind : (one other : List ℕ) (byte : ℕ) → is_filled ((one ++ byte ∷ []) ++ other) ≡ true
filled_behind [] other byte = refl
filled_behind (first ∷ one) other byte = refl

pair_word : (one other : List ℕ) → IsShortName one → IsShortName other → IsWord (one ++ codes "." ++ other)
pair_word one other a b = record {
  solid = both_pass is_solid (one ++ codes ".") other (both_pass is_solid one (codes ".") (solid one a.all) refl) (solid other b.all);
  some = filled_behind one other 46;
}

pair_few : (one other : List ℕ) → IsShortName one → IsShortName other → length (one ++ codes "." ++ other) ≤ 129
pair_few one other a b = let x = a.few in let y = b.few in simp length-append (omega (arith, x, y))

-- ---- the end of a host

instance_is : (system : SystemTable) (end : EndId) (known : Finished) → IsSystem system → IsEnd system end known → IsShortName (instance_name_at system end)
instance_is system end known kept is =
    subst IsShortName (sym (ap (λ (o : Option InstanceTable). option_map_or (λ (instance : InstanceTable). instance.name) o []) is.instance_is))
    (short_name is.instance.name (kept.instances end.instance is.instance is.instance_is).name)

interface_is : (system : SystemTable) (end : EndId) (known : Finished) → IsSystem system → IsEnd system end known → IsShortName (interface_name_at system end)
interface_is system end known kept is =
    subst IsShortName (sym (ap (λ (o : Option InstanceTable). interface_name_of o end.interface) is.instance_is ∙ ap (λ o. option_map_or (λ table. table.name) o []) is.interface_is))
    (short_name is.interface.name ((kept.instances end.instance is.instance is.instance_is).interfaces end.interface is.interface is.interface_is))

first_place : {X : Type 0} (p : X → Bool) (xs : List X) (x : X) → slice_get xs 0 ≡ Some x → p x ≡ true → position p xs ≡ Some 0
first_place {X} p [] x e h = absurd (cc)
first_place {X} p (y ∷ ys) x e h =
    let same : y ≡ x = cc in
    rw (ap p same ∙ h, lt-ltb 0 (suc (length ys)) (omega arith)) refl

named_first : (system : SystemTable) (port : HostPort) (at : IsHostAt system 0 port) → host_named system (end_name system at.end) ≡ Some (record { number = 0; port = port })
unfolding host_named
named_first system port at =
    let word = end_name system at.end in
    ap (option_and_then (host_at system)) (first_place (λ (end : EndId). bytes_eq (end_name system end) word) (hosts_of system) at.end at.end_is ((bytes_eq-Decides word word).1 refl))
    ∙ ap (option_and_then (λ (end : EndId). as_host 0 (known_at system end))) at.end_is ∙ ap (as_host 0) at.is

pub host_is_named : (system : SystemTable) (port : HostPort) (at : IsHostAt system 0 port) (known : Finished) → IsSystem system → IsEnd system at.end known → IsNamed system (host_name system) port
host_is_named system port at known kept is =
    let one = instance_is system at.end known kept is in
    let other = interface_is system at.end known kept is in
    let name : end_name system at.end ≡ host_name system = sym (ap (λ (o : Option EndId). option_map_or (end_name system) o []) at.end_is) in
    subst (λ (word : List ℕ). IsNamed system word port) name (record {
      is_word = pair_word (instance_name_at system at.end) (interface_name_at system at.end) one other;
      few = pair_few (instance_name_at system at.end) (interface_name_at system at.end) one other;
      named = named_first system port at;
    })

some_left : {X : Type 0} (xs : List X) (x : X) → slice_get xs 0 ≡ Some x → 0 < length xs
some_left {X} [] x e = absurd (cc)
some_left {X} (y ∷ ys) x e = omega arith

pub some_host : (system : SystemTable) (port : HostPort) → IsHostAt system 0 port → 0 < length (hosts_of system)
some_host system port at = some_left (hosts_of system) at.end at.end_is
