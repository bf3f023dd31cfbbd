-- The connections of a system, judged one by one.
use Rattle.std.proofs.Common.{◌≡◌, ℕ, ◌+◌, ◌^◌, ◌<◌, ◌≤◌, ◌⊎◌, inl, inr, zero, suc, Bool, true, false, ◌||◌, cond, List, [], ◌∷◌, Option, Some, None, length, get_or, take, map, replicate, refl, sym, ap, subst, ◌∙◌, arith, IsPermutation}
use Rattle.std.specs.Prelude.{filter, slice_get, position}
use Rattle.std.specs.List.{list_any, position_or_len}
use Rattle.std.specs.Option.{option_map}
use Rattle.std.proofs.lemmas.Bool.{cases_lt}
use Rattle.std.proofs.lemmas.Bool.Decides.{nat_tests}
use Rattle.std.proofs.lemmas.List.{length-take, get_or-take, take_all, get_or_past, get_or-map, length-map, length-replicate}
use Rattle.std.proofs.lemmas.List.Sums.{position_or_len_is}
use Rattle.std.proofs.lemmas.List.Sorted.{IsPermutation-refl}
use Rattle.std.proofs.lemmas.Option.{slice_get-map, slice_get-get_or, same_Some, none-some}
use Rattle.iface_roles.specs.declared.kinds.Side.{Side}
use Rattle.iface_roles.specs.declared.kinds.Side.TheVariants.{Start}
use Rattle.iface_roles.specs.declared.records.Finished.{Finished}
use Rattle.iface_roles.specs.declared.records.Finished.TheVariants.{Host, Agent, Source, Sink, Other}
use Rattle.system_tables.specs.declared.tables.Connection.{Connection}
use Rattle.system_tables.specs.declared.tables.EndId.{EndId}
use Rattle.system_tables.specs.Tables.{SystemTable}
use Rattle.address_map.specs.declared.faults.MapFault.{MapFault}
use Rattle.address_map.specs.declared.faults.MapFault.TheVariants.{Refused, NoMemory}
use Rattle.address_map.specs.Ends.{is_same_end}
use Rattle.address_map.specs.Footprints.{Footprint, known_at, footprint_as, footprint_of, footprints}
use Rattle.address_map.specs.MapRules.{breaks_after, KeepsMapRules, IsRefused, IsCause, IsCauseAt}
use Rattle.address_map.specs.Maps.{MapEntry, IsRising, is_mm, end_at, mm_connections, mm_ends, hosts_of, AreMapsFor, AreMapsOf}
use Rattle.address_map.proofs.EndsLemmas.{any-each_once, is_same_end-refl, there_at}
use Rattle.address_map.proofs.HostLemmas.{zeros}
use Rattle.address_map.proofs.PlacedLemmas.{AreMapsFor-skip, take-next}

-- the first element that passes, in the front of a list
pub found_in_front : {X : Type 0} (p : X → Bool) (xs : List X) (n i : ℕ) (d : X) → n ≤ length xs → i < n → ((k : ℕ) → k < i → p (get_or xs k d) ≡ false) → p (get_or xs i d) ≡ true → position p (take n xs) ≡ Some i
found_in_front p xs n i d few within before here =
    let long : length (take n xs) ≡ n = omega (arith, length-take n xs) in
    let fails : (k : ℕ) → k < i → p (get_or (take n xs) k d) ≡ false =
    λ k less. subst (λ x. p x ≡ false) (sym (get_or-take n xs k d (omega arith))) (before k less) in
    let passes : i < length (take n xs) → p (get_or (take n xs) i d) ≡ true =
    λ w. subst (λ x. p x ≡ true) (sym (get_or-take n xs i d within)) here in
    let at : position_or_len p (take n xs) ≡ i = position_or_len_is p (take n xs) i d (omega arith) fails passes in
    grind (arith, nat_tests)

pub none_in_front : {X : Type 0} (p : X → Bool) (xs : List X) (n : ℕ) (d : X) → n ≤ length xs → ((k : ℕ) → k < n → p (get_or xs k d) ≡ false) → position p (take n xs) ≡ None
none_in_front p xs n d few before =
    let long : length (take n xs) ≡ n = omega (arith, length-take n xs) in
    let fails : (k : ℕ) → k < n → p (get_or (take n xs) k d) ≡ false =
    λ k less. subst (λ x. p x ≡ false) (sym (get_or-take n xs k d less)) (before k less) in
    let at : position_or_len p (take n xs) ≡ n = position_or_len_is p (take n xs) n d (omega arith) fails (λ w. absurd (omega arith)) in
    grind (arith, nat_tests)

-- the footprint of a connection by its number
pub footprint_there : (system : SystemTable) (k : ℕ) (connection : Connection) → slice_get system.connections k ≡ Some connection → slice_get (footprints system) k ≡ Some (footprint_of system connection)
footprint_there system k connection at = slice_get-map (footprint_of system) system.connections k ∙ ap (option_map (footprint_of system)) at

pub footprint_read : (system : SystemTable) (connections : List Connection) (k : ℕ) (d : Connection) → connections ≡ system.connections → k < length system.connections
    → get_or (footprints system) k None ≡ footprint_of system (get_or connections k d)
footprint_read system connections k d same within =
    get_or-map (footprint_of system) system.connections k d None within ∙ ap (λ (l : List Connection). footprint_of system (get_or l k d)) (sym same)

pub length-footprints : (system : SystemTable) → length (footprints system) ≡ length system.connections
length-footprints system = length-map system.connections (footprint_of system)

-- a footprint is in the map of the host that starts its connection
pub host-footprint : (connection : Connection) (start end : Finished) (f : Footprint) → footprint_as connection start end ≡ Some f → f.host ≡ connection.start
host-footprint connection (Host host) (Agent agent) f is = sym (ap (λ (x : Footprint). x.host) (same_Some _ f is))
host-footprint connection (Host host) (Host end) f is = absurd (none-some f is)
host-footprint connection (Host host) (Source end) f is = absurd (none-some f is)
host-footprint connection (Host host) (Sink end) f is = absurd (none-some f is)
host-footprint connection (Host host) Other f is = absurd (none-some f is)
host-footprint connection (Agent start) end f is = absurd (none-some f is)
host-footprint connection (Source start) end f is = absurd (none-some f is)
host-footprint connection (Sink start) end f is = absurd (none-some f is)
host-footprint connection Other end f is = absurd (none-some f is)

started : (side : Side) (connections : List Connection) (k : ℕ) (connection : Connection) → slice_get connections k ≡ Some connection → is_mm connection.kind ≡ true
    → list_any (is_same_end (end_at side connection)) (map (end_at side) (filter (λ c. is_mm c.kind) connections)) ≡ true
started side [] k connection at mm = absurd (none-some connection at)
started side (c ∷ connections) zero connection at mm =
    let same : c ≡ connection = same_Some c connection at in
    let kind : is_mm c.kind ≡ true = ap (λ (x : Connection). is_mm x.kind) same ∙ mm in
    let start : is_same_end (end_at side connection) (end_at side c) ≡ true = subst (λ (x : Connection). is_same_end (end_at side x) (end_at side c) ≡ true) same (is_same_end-refl (end_at side c)) in
    rw (kind, start) refl
started side (c ∷ connections) (suc k) connection at mm = more (is_mm c.kind) refl (started side connections k connection at mm)
  where
    or-true : (a : Bool) → (a || true) ≡ true
    or-true true = refl
    or-true false = refl

    more : (b : Bool) → is_mm c.kind ≡ b → list_any (is_same_end (end_at side connection)) (map (end_at side) (filter (λ x. is_mm x.kind) connections)) ≡ true
        → list_any (is_same_end (end_at side connection)) (map (end_at side) (cond (is_mm c.kind) (c ∷ filter (λ x. is_mm x.kind) connections) (filter (λ x. is_mm x.kind) connections))) ≡ true
    more true is rest =
        ap (λ b. list_any (is_same_end (end_at side connection)) (map (end_at side) (cond b (c ∷ filter (λ x. is_mm x.kind) connections) (filter (λ x. is_mm x.kind) connections)))) is
        ∙ ap (λ b. is_same_end (end_at side connection) (end_at side c) || b) rest ∙ or-true (is_same_end (end_at side connection) (end_at side c))
    more false is rest =
        ap (λ b. list_any (is_same_end (end_at side connection)) (map (end_at side) (cond b (c ∷ filter (λ x. is_mm x.kind) connections) (filter (λ x. is_mm x.kind) connections)))) is
        ∙ rest

-- the host of a connection is among the hosts
pub host_is_there : (system : SystemTable) (k : ℕ) (connection : Connection) (host : EndId) → host ≡ connection.start → slice_get system.connections k ≡ Some connection → is_mm connection.kind ≡ true → list_any (is_same_end host) (hosts_of system) ≡ true
host_is_there system k connection host is at mm =
    subst (λ (e : EndId). list_any (is_same_end e) (hosts_of system) ≡ true) (sym is)
    (any-each_once connection.start (map (end_at Start) (mm_connections system)) ∙ started Start system.connections k connection at mm)

-- an end of a connection has a number
pub numbered : (system : SystemTable) (side : Side) (k : ℕ) (connection : Connection) → slice_get system.connections k ≡ Some connection → is_mm connection.kind ≡ true → (number : ℕ) × (slice_get (mm_ends side system) number ≡ Some (end_at side connection))
numbered system side k connection at mm =
    there_at (mm_ends side system) (end_at side connection) (any-each_once (end_at side connection) (map (end_at side) (mm_connections system)) ∙ started side system.connections k connection at mm)

-- a stream's connection breaks no rule on maps, and a number past the last neither
kept_none : (earlier : List (Option Footprint)) (rule : ℕ) → breaks_after earlier None rule ≡ false
kept_none earlier zero = refl
kept_none earlier (suc k) = refl

pub KeepsMapRules-none : (fs : List (Option Footprint)) (k : ℕ) → get_or fs k None ≡ None → KeepsMapRules fs k
KeepsMapRules-none fs k none rule = subst (λ (o : Option Footprint). breaks_after (take k fs) o rule ≡ false) (sym none) (kept_none (take k fs) rule)

pub skipped : (hosts : List EndId) (fs : List (Option Footprint)) (maps : List (List MapEntry)) (k : ℕ) → slice_get fs k ≡ Some None → AreMapsFor hosts (take k fs) maps → AreMapsFor hosts (take (k + 1) fs) maps
skipped hosts fs maps k at are = subst (λ (l : List (Option Footprint)). AreMapsFor hosts l maps) (sym (take-next fs k None at)) (AreMapsFor-skip hosts (take k fs) maps are)

-- the same of the connection that was read
pub judged_host : (system : SystemTable) (connections : List Connection) (hosts : List EndId) (k : ℕ) (f : Footprint) → connections ≡ system.connections → hosts ≡ hosts_of system → k < length system.connections
    → Some f ≡ footprint_of system (get_or connections k zeros) → true ≡ is_mm (get_or connections k zeros).kind → list_any (is_same_end f.host) hosts ≡ true
judged_host system connections hosts k f same are within is mm =
    let connection = get_or connections k zeros in
    let at : slice_get system.connections k ≡ Some connection = slice_get-get_or system.connections k zeros within ∙ ap (λ (l : List Connection). Some (get_or l k zeros)) (sym same) in
    let host = host-footprint connection (known_at system connection.start) (known_at system connection.end) f (sym is) in
    subst (λ (l : List EndId). list_any (is_same_end f.host) l ≡ true) (sym are) (host_is_there system k connection f.host host at (sym mm))

pub judged_stream : (system : SystemTable) (connections : List Connection) (hosts : List EndId) (maps : List (List MapEntry)) (k : ℕ) → connections ≡ system.connections → k < length system.connections
    → None ≡ footprint_of system (get_or connections k zeros) → AreMapsFor hosts (take k (footprints system)) maps → AreMapsFor hosts (take (k + 1) (footprints system)) maps
judged_stream system connections hosts maps k same within is are =
    let long = length-footprints system in
    let at : slice_get (footprints system) k ≡ Some None = slice_get-get_or (footprints system) k None (omega arith) ∙ ap Some (footprint_read system connections k zeros same within ∙ sym is) in
    skipped hosts (footprints system) maps k at are

-- maps before the first connection
empty-at : (n k : ℕ) (entries : List MapEntry) → slice_get (replicate n []) k ≡ Some entries → [] ≡ entries
empty-at zero k entries at = absurd (none-some entries at)
empty-at (suc n) zero entries at = same_Some [] entries at
empty-at (suc n) (suc k) entries at = empty-at n k entries at

pub AreMapsFor-start : (hosts : List EndId) → AreMapsFor hosts [] (replicate (length hosts) [])
AreMapsFor-start hosts = record {
  fit = λ k f at. absurd (none-some (Some f) at);
  count = length-replicate (length hosts) [];
  each = λ number host entries at_host at_map. record {
    same = subst (λ (l : List MapEntry). IsPermutation [] l) (empty-at (length hosts) number entries at_map) (IsPermutation-refl []);
    rising = subst IsRising (empty-at (length hosts) number entries at_map) (record { filled = λ k d within. absurd (omega arith); apart = λ i j d less within. absurd (omega arith) });
  };
}

-- the maps of all connections
pub AreMapsOf-all : (system : SystemTable) (hosts : List EndId) (maps : List (List MapEntry)) (k : ℕ) → hosts ≡ hosts_of system → length system.connections ≤ k → k ≤ 2 ^ 32
    → ((j : ℕ) → j < k → KeepsMapRules (footprints system) j) → AreMapsFor hosts (take k (footprints system)) maps → AreMapsOf system maps
AreMapsOf-all system hosts maps k are_hosts past few kept are =
    let long = length-footprints system in
    record {
      kept = λ j. by j (cases_lt j k);
      few = omega arith;
      placed = subst (λ (l : List EndId). AreMapsFor l (footprints system) maps) are_hosts (subst (λ (l : List (Option Footprint)). AreMapsFor hosts l maps) (take_all k (footprints system) (omega arith)) are);
    }
  where
    by : (j : ℕ) → (j < k) ⊎ (k ≤ j) → KeepsMapRules (footprints system) j
    by j (inl h) = kept j h
    by j (inr h) = let long = length-footprints system in KeepsMapRules-none (footprints system) j (get_or_past (footprints system) j None (omega arith))

-- the first connection that is refused, where all before it keep the rules
pub IsCause-first : (fs : List (Option Footprint)) (k : ℕ) (fault : MapFault) → ((j : ℕ) → j < k → KeepsMapRules fs j) → IsCauseAt fs k fault → IsCause fs fault
IsCause-first fs k (Refused connection rule other) kept cause =
    let at = cause.same in
    record {
      refused = subst (λ n. IsRefused fs n rule other) (sym cause.same) cause.refused;
      first = λ j less. kept j (omega arith);
    }
IsCause-first fs k NoMemory kept cause = tt
