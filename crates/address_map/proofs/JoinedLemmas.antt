-- Where hosts, agents and the entries of maps come from.
use Rattle.std.proofs.Common.{◌≡◌, ℕ, ◌+◌, zero, suc, Bool, true, false, not, cond, List, [], ◌∷◌, Option, Some, None, map, slice_get, refl, sym, ap, subst, ◌∙◌, arith}
use Rattle.std.specs.Prelude.{filter}
use Rattle.std.specs.Option.{option_map}
use Rattle.std.proofs.lemmas.Option.{slice_get-map, same_Some, none-some}
use Rattle.iface_roles.specs.declared.kinds.Side.{Side}
use Rattle.system_tables.specs.declared.tables.Connection.{Connection}
use Rattle.system_tables.specs.declared.tables.EndId.{EndId}
use Rattle.system_tables.specs.Tables.{SystemTable}
use Rattle.address_map.specs.Ends.{is_same_end, each_once}
use Rattle.address_map.specs.Footprints.{Footprint, known_at, footprint_of, footprints}
use Rattle.address_map.specs.Maps.{MapEntry, is_mm, end_at, mm_connections, mm_ends, hosts_of, entry_of, AreMapsOf, IsJoined, IsEntryOf}
use Rattle.address_map.proofs.JudgeLemmas.{host-footprint}
use Rattle.address_map.proofs.PlaceLemmas.{At, later, of_map}

-- an item of a filtered list is one of the list, and passes
record Kept {X : Type 0} (p : X → Bool) (xs : List X) (x : X) : Type 0 where
  there : At xs x
  passes : p x ≡ true

kept : {X : Type 0} (p : X → Bool) (xs : List X) (k : ℕ) (x : X) → slice_get (filter p xs) k ≡ Some x → Kept p xs x
kept p [] k x is = absurd (none-some x is)
kept {X} p (y ∷ xs) k x is = by (p y) refl k is (λ j at. kept p xs j x at)
  where
    after : Kept p xs x → Kept p (y ∷ xs) x
    after more = record { there = later y xs x more.there; passes = more.passes }

    by : (b : Bool) → p y ≡ b → (k : ℕ) → slice_get (cond (p y) (y ∷ filter p xs) (filter p xs)) k ≡ Some x → ((j : ℕ) → slice_get (filter p xs) j ≡ Some x → Kept p xs x) → Kept p (y ∷ xs) x
    by true e zero h rest =
        let same : y ≡ x = same_Some y x (rw e at h) in
        record { there = record { place = 0; is = ap Some same }; passes = subst (λ (z : X). p z ≡ true) same e }
    by true e (suc k) h rest = after (rest k (rw e at h))
    by false e k h rest = after (rest k (rw e at h))

-- where an item of a mapped list comes from
record From {X Y : Type 0} (f : X → Y) (xs : List X) (k : ℕ) (y : Y) : Type 0 where
  item : X
  is : slice_get xs k ≡ Some item
  makes : f item ≡ y

mapped : {X Y : Type 0} (f : X → Y) (xs : List X) (k : ℕ) (y : Y) → slice_get (map f xs) k ≡ Some y → From f xs k y
mapped {X} f xs k y at = by (slice_get xs k) refl
  where
    by : (o : Option X) → slice_get xs k ≡ o → From f xs k y
    by None none = absurd (none-some y (ap (option_map f) (sym none) ∙ sym (slice_get-map f xs k) ∙ at))
    by (Some x) is = record { item = x; is = is; makes = same_Some (f x) y (ap (option_map f) (sym is) ∙ sym (slice_get-map f xs k) ∙ at) }

at_once : (ends : List EndId) (k : ℕ) (end : EndId) → slice_get (each_once ends) k ≡ Some end → At ends end
at_once [] k end is = absurd (none-some end is)
at_once (e ∷ ends) zero end is = record { place = 0; is = is }
at_once (e ∷ ends) (suc k) end is =
    let there = (kept (λ other. not (is_same_end e other)) (each_once ends) k end is).there in
    later e ends end (at_once ends there.place end there.is)

pub joined : (system : SystemTable) (side : Side) (number : ℕ) (end : EndId) → slice_get (mm_ends side system) number ≡ Some end → IsJoined system side end
joined system side number end is =
    let once = at_once (map (end_at side) (mm_connections system)) number end is in
    let from = mapped (end_at side) (mm_connections system) once.place end once.is in
    let mm = kept (λ connection. is_mm connection.kind) system.connections once.place from.item from.is in
    record { number = mm.there.place; connection = from.item; is = mm.there.is; kind = mm.passes; there = from.makes }

pub entry_joined : (system : SystemTable) (maps : List (List MapEntry)) → AreMapsOf system maps → (number : ℕ) (host : EndId) (entries : List MapEntry) → slice_get (hosts_of system) number ≡ Some host → slice_get maps number ≡ Some entries
    → (k : ℕ) (entry : MapEntry) → slice_get entries k ≡ Some entry → IsEntryOf system host entry
entry_joined system maps are number host entries at_host at_map k entry at =
    let of = of_map host (footprints system) entries entry (are.placed.each number host entries at_host at_map) (record { place = k; is = at }) in
    let from = mapped (footprint_of system) system.connections of.number (Some of.footprint) of.there in
    let zero_more : 0 + of.number ≡ of.number = omega arith in
    let is_entry : entry ≡ entry_of of.number of.footprint = of.is ∙ ap (λ n. entry_of n of.footprint) zero_more in
    let numbered : of.number ≡ entry.connection = sym (ap (λ (e : MapEntry). e.connection) is_entry) in
    record {
      connection = from.item;
      footprint = of.footprint;
      is = subst (λ n. slice_get system.connections n ≡ Some from.item) numbered from.is;
      of_host = sym (host-footprint from.item (known_at system from.item.start) (known_at system from.item.end) of.footprint from.makes) ∙ of.of_host;
      takes = from.makes;
      same = is_entry ∙ ap (λ n. entry_of n of.footprint) numbered;
    }
