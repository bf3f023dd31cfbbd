-- The bits of an address below the host's word don't decide where it goes.
use Rattle.std.proofs.Common.{◌≡◌, ℕ, ◌+◌, ◌-◌, ◌*◌, ◌/◌, ◌%◌, ◌^◌, ◌<◌, ◌≤◌, ◌⊎◌, inl, inr, zero, suc, Bool, true, false, not, ◌&&◌, cond, max, nat_le, nat_eq, List, [], ◌∷◌, Option, Some, None, get_or, map, take, refl, sym, ap, subst, ◌∙◌, arith}
use Rattle.std.specs.Prelude.{find, slice_get}
use Rattle.std.specs.Option.{option_map}
use Rattle.std.proofs.Math.Nat.{div-add-mod', mod-lt, mul-le-mul_left, mul_comm}
use Rattle.std.proofs.Math.Pow.{pow_mono}
use Rattle.std.proofs.lemmas.Bool.{cases_lt}
use Rattle.std.proofs.lemmas.Bool.Decides.{nat_tests, Decides-eqb}
use Rattle.std.proofs.lemmas.List.Sorted.{Contains-permutation, IsPermutation-sym}
use Rattle.std.proofs.lemmas.Nat.{pow-add}
use Rattle.std.proofs.lemmas.Option.{get_or_from_slice_get, same_Some, none-some}
use Rattle.iface_roles.specs.declared.records.AgentPort.{AgentPort}
use Rattle.iface_roles.specs.declared.records.Finished.{Finished}
use Rattle.iface_roles.specs.declared.records.Finished.TheVariants.{Host, Agent, Source, Sink, Other}
use Rattle.iface_roles.specs.declared.records.HostPort.{HostPort}
use Rattle.iface_roles.specs.Proper.{IsProper, IsBoundedHost, IsBoundedAgent, span_of}
use Rattle.system_tables.specs.declared.tables.Connection.{Connection}
use Rattle.system_tables.specs.declared.tables.EndId.{EndId}
use Rattle.system_tables.specs.Tables.{SystemTable, IsEnd, IsSystem}
use Rattle.address_map.specs.Footprints.{Footprint, footprint_as, footprint_of, footprints, footprint_bytes, known_at}
use Rattle.address_map.specs.MapRules.{breaks_after, is_misplaced}
use Rattle.address_map.specs.Maps.{MapEntry, holds, connection_at, entries_of, hosts_of, AreMapsOf}
use Rattle.address_map.proofs.EndLemmas.{known_at-end}
use Rattle.address_map.proofs.JudgeLemmas.{host-footprint}
use Rattle.address_map.proofs.PlaceLemmas.{contains, at_contained, entry_is}

-- a multiple of a number
pub record IsTimes (w n : ℕ) : Type 0 where
  pub times : ℕ
  pub is : n ≡ w * times

below_next : (a p w r : ℕ) → r < w → w * p ≤ w * a + r → p ≤ a
below_next a p w r small h = by (cases_lt a p)
  where
    by : (a < p) ⊎ (p ≤ a) → p ≤ a
    by (inl more) = absurd (let more_than : a + 1 ≤ p = omega arith in omega (arith, mul-le-mul_left w more_than))
    by (inr less) = less

under_next : (a s w r : ℕ) → r < w → w * a < w * s → w * a + r < w * s
under_next a s w r small h = by (cases_lt a s)
  where
    by : (a < s) ⊎ (s ≤ a) → w * a + r < w * s
    by (inl less) = let more_than : a + 1 ≤ s = omega arith in omega (arith, mul-le-mul_left w more_than)
    by (inr more) = absurd (omega (arith, mul-le-mul_left w more))

-- bytes that are whole words hold an address exactly where they hold its word
same_low : (first a r w p : ℕ) → r < w → first ≡ w * p → nat_le first (w * a) ≡ nat_le first (w * a + r)
same_low first a r w p small is = by (cases_lt (w * a + r) first)
  where
    by : (w * a + r < first) ⊎ (first ≤ w * a + r) → nat_le first (w * a) ≡ nat_le first (w * a + r)
    by (inl h) = grind (arith, nat_tests)
    by (inr h) =
        let order : p ≤ a = below_next a p w r small (omega arith) in
        let step : first ≤ w * a = omega (arith, mul-le-mul_left w order) in
        grind (arith, nat_tests)

same_high : (end a r w s : ℕ) → r < w → 1 ≤ end → end ≡ w * s → nat_le (w * a) (end - 1) ≡ nat_le (w * a + r) (end - 1)
same_high end a r w s small some is = by (cases_lt (w * a) end)
  where
    by : (w * a < end) ⊎ (end ≤ w * a) → nat_le (w * a) (end - 1) ≡ nat_le (w * a + r) (end - 1)
    by (inl h) =
        let next : w * a + r < w * s = under_next a s w r small (omega arith) in
        let within : w * a + r < end = omega arith in
        grind (arith, nat_tests)
    by (inr h) = grind (arith, nat_tests)

same_entry : (e : MapEntry) (address w : ℕ) (first last : ℕ) → 1 ≤ w → IsTimes w first → IsTimes w last → 1 ≤ last → e.first ≡ first → e.last ≡ last - 1 → holds (address - address % w) e ≡ holds address e
same_entry e address w first last word tf tl some ef el =
    let whole = div-add-mod' address w in
    let comm = mul_comm (address / w) w in
    let small : address % w < w = mod-lt address word in
    let low : address - address % w ≡ w * (address / w) = omega arith in
    let all : address ≡ w * (address / w) + address % w = omega arith in
    let a = same_low first (address / w) (address % w) w tf.times small tf.is in
    let b = same_high last (address / w) (address % w) w tl.times small some tl.is in
    let first_low : nat_le e.first (address - address % w) ≡ nat_le e.first address =
    subst (λ n. nat_le n (address - address % w) ≡ nat_le n address) (sym ef) (ap (nat_le first) low ∙ a ∙ sym (ap (nat_le first) all)) in
    let last_low : nat_le (address - address % w) e.last ≡ nat_le address e.last =
    subst (λ n. nat_le (address - address % w) n ≡ nat_le address n) (sym el) (ap (λ n. nat_le n (last - 1)) low ∙ b ∙ sym (ap (λ n. nat_le n (last - 1)) all)) in
    ap (λ x. x && nat_le (address - address % w) e.last) first_low ∙ ap (λ x. nat_le e.first address && x) last_low

find_agree : {X : Type 0} (p q : X → Bool) (xs : List X) → ((k : ℕ) (x : X) → slice_get xs k ≡ Some x → p x ≡ q x) → find p xs ≡ find q xs
find_agree p q [] agree = refl
find_agree {X} p q (x ∷ xs) agree =
    ap (λ b. cond b (Some x) (find p xs)) (agree 0 x refl) ∙ ap (λ (o : Option X). cond (q x) (Some x) o) (find_agree p q xs (λ k y at. agree (suc k) y at))

power_times : (i k : ℕ) → i ≤ k → IsTimes (2 ^ i) (2 ^ k)
power_times i k h =
    let sum : k ≡ i + (k - i) = omega arith in
    record { times = 2 ^ (k - i); is = ap (λ n. 2 ^ n) sum ∙ pow-add 2 i (k - i) }

max_power : (s i : ℕ) → IsTimes (2 ^ i) (max (2 ^ s) (2 ^ i))
max_power s i = by (cases_lt s i)
  where
    by : (s < i) ⊎ (i ≤ s) → IsTimes (2 ^ i) (max (2 ^ s) (2 ^ i))
    by (inl less) =
        let le : s ≤ i = omega arith in
        let order : 2 ^ s ≤ 2 ^ i = pow_mono le in
        record { times = 1; is = omega arith }
    by (inr more) =
        let order : 2 ^ i ≤ 2 ^ s = pow_mono more in
        let same : max (2 ^ s) (2 ^ i) ≡ 2 ^ s = omega arith in
        let times = power_times i s more in
        record { times = times.times; is = same ∙ times.is }

span_as : (units : Bool) (b j word : ℕ) → word ≡ 2 ^ j → (s : ℕ) × (cond units (max (2 ^ b) word) (2 ^ b * word) ≡ 2 ^ s)
span_as true b j word is = by (cases_lt b j)
  where
    by : (b < j) ⊎ (j ≤ b) → (s : ℕ) × (max (2 ^ b) word ≡ 2 ^ s)
    by (inl less) =
        let le : b ≤ j = omega arith in
        let order : 2 ^ b ≤ 2 ^ j = pow_mono le in
        (j, omega arith)
    by (inr more) = let order : 2 ^ j ≤ 2 ^ b = pow_mono more in (b, omega arith)
span_as false b j word is = (b + j, ap (λ n. 2 ^ b * n) is ∙ sym (pow-add 2 b j))

-- the ends of a footprint's connection
record Parts (start end : Finished) (f : Footprint) : Type 0 where
  pub host : HostPort
  pub agent : AgentPort
  pub start_is : start ≡ Host host
  pub end_is : end ≡ Agent agent
  pub bytes : f.bytes ≡ footprint_bytes host agent

parts : (connection : Connection) (start end : Finished) (f : Footprint) → footprint_as connection start end ≡ Some f → Parts start end f
parts connection (Host host) (Agent agent) f is = record { host = host; agent = agent; start_is = refl; end_is = refl; bytes = sym (ap (λ (x : Footprint). x.bytes) (same_Some _ f is)) }
parts connection (Host host) (Host end) f is = absurd (none-some f is)
parts connection (Host host) (Source end) f is = absurd (none-some f is)
parts connection (Host host) (Sink end) f is = absurd (none-some f is)
parts connection (Host host) Other f is = absurd (none-some f is)
parts connection (Agent start) end f is = absurd (none-some f is)
parts connection (Source start) end f is = absurd (none-some f is)
parts connection (Sink start) end f is = absurd (none-some f is)
parts connection Other end f is = absurd (none-some f is)

-- a footprint is a multiple of its host's word
bytes_times : (host : HostPort) (agent : AgentPort) (bytes : ℕ) → IsBoundedHost host → IsBoundedAgent agent → bytes ≡ footprint_bytes host agent → IsTimes host.word_bytes bytes
bytes_times host agent bytes bounded_host bounded_agent is =
    let word = bounded_host.ports.word in
    let agent_word = bounded_agent.ports.word in
    let span = span_as agent.byte_units agent.address_bits agent_word.exponent agent.word_bytes agent_word.power in
    let both : max (span_of agent) host.word_bytes ≡ max (2 ^ span.0) (2 ^ word.exponent) = ap (λ n. max n host.word_bytes) span.1 ∙ ap (max (2 ^ span.0)) word.power in
    let times = max_power span.0 word.exponent in
    record { times = times.times; is = is ∙ both ∙ times.is ∙ ap (λ n. n * times.times) (sym word.power) }

-- and so is its base
base_times : (f : Footprint) (w : ℕ) → IsTimes w f.bytes → is_misplaced f ≡ false → IsTimes w f.base
base_times f w bytes kept =
    let none : f.base % f.bytes ≡ 0 = by (nat_eq (f.base % f.bytes) 0) refl in
    let whole = div-add-mod' f.base f.bytes in
    record { times = bytes.times * (f.base / f.bytes); is = (let e : f.base ≡ f.base / f.bytes * f.bytes = omega arith in e ∙ ap (λ n. f.base / f.bytes * n) bytes.is ∙ (turn (f.base / f.bytes) w bytes.times)) }
  where
    turn : (a b c : ℕ) → a * (b * c) ≡ b * (c * a)
    turn a b c = grind arith

    by : (b : Bool) → nat_eq (f.base % f.bytes) 0 ≡ b → f.base % f.bytes ≡ 0
    by true is = (Decides-eqb (f.base % f.bytes) 0).0 is
    by false is = absurd (let no : true ≡ false = sym (ap not is) ∙ kept in cc)

sum_times : (w a b : ℕ) → IsTimes w a → IsTimes w b → IsTimes w (a + b)
sum_times w a b ta tb =
    let x = ta.is in
    let y = tb.is in
    record { times = ta.times + tb.times; is = (let e : w * (ta.times + tb.times) ≡ w * ta.times + w * tb.times = grind arith in omega arith) }

record IsIn (connections : List Connection) (f : Option Footprint) (of : Connection → Option Footprint) (k : ℕ) : Type 0 where
  pub connection : Connection
  pub at : slice_get connections k ≡ Some connection
  pub is : of connection ≡ f

is_in : (of : Connection → Option Footprint) (connections : List Connection) (f : Option Footprint) (k : ℕ) → slice_get (map of connections) k ≡ Some f → IsIn connections f of k
is_in of [] f k at = absurd (none-some f at)
is_in of (c ∷ connections) f zero at = record { connection = c; at = refl; is = same_Some (of c) f at }
is_in of (c ∷ connections) f (suc k) at = let rest = is_in of connections f k at in record { connection = rest.connection; at = rest.at; is = rest.is }

pub low_bits : (system : SystemTable) (maps : List (List MapEntry)) → IsSystem system → AreMapsOf system maps
    → ((h : HostPort) → IsProper (Host h) → IsBoundedHost h) → ((a : AgentPort) → IsProper (Agent a) → IsBoundedAgent a)
    → (number : ℕ) (end : EndId) (host : HostPort) (entries : List MapEntry) → slice_get (hosts_of system) number ≡ Some end → IsEnd system end (Host host) → slice_get maps number ≡ Some entries
    → (address : ℕ) → connection_at entries (address - address % host.word_bytes) ≡ connection_at entries address
low_bits system maps is are hosts agents number end host entries at_host known at_map address =
    ap (option_map (λ (e : MapEntry). e.connection)) (find_agree (holds (address - address % host.word_bytes)) (holds address) entries same)
  where
    same : (k : ℕ) (e : MapEntry) → slice_get entries k ≡ Some e → holds (address - address % host.word_bytes) e ≡ holds address e
    same k e at =
        let map_of = are.placed.each number end entries at_host at_map in
        let before = at_contained (entries_of end (footprints system)) e (Contains-permutation entries (entries_of end (footprints system)) e (IsPermutation-sym (entries_of end (footprints system)) entries map_of.same) (contains entries e (record { place = k; is = at }))) in
        let entry = entry_is end 0 (footprints system) e before.place before.is in
        let f = entry.footprint in
        let there = is_in (footprint_of system) system.connections (Some f) entry.number entry.there in
        let connection = there.connection in
        let logic = is.connections entry.number connection there.at in
        let ends = parts connection (known_at system connection.start) (known_at system connection.end) f there.is in
        let start : connection.start ≡ end = sym (host-footprint connection (known_at system connection.start) (known_at system connection.end) f there.is) ∙ entry.of_host in
        let start_is : Host ends.host ≡ Host host = sym ends.start_is ∙ ap (known_at system) start ∙ known_at-end system end (Host host) known in
        let host_is : ends.host ≡ host = cc in
        let host_proper : IsProper (Host host) = subst IsProper (sym (known_at-end system connection.start logic.start_known logic.start) ∙ ends.start_is ∙ start_is) logic.start_proper in
        let agent_proper : IsProper (Agent ends.agent) = subst IsProper (sym (known_at-end system connection.end logic.end_known logic.end) ∙ ends.end_is) logic.end_proper in
        let bounded = hosts host host_proper in
        let word : 1 ≤ host.word_bytes = one_word host bounded in
        let times = bytes_times host ends.agent f.bytes bounded (agents ends.agent agent_proper) (ends.bytes ∙ ap (λ (h : HostPort). footprint_bytes h ends.agent) host_is) in
        let here : get_or (footprints system) entry.number None ≡ Some f = get_or_from_slice_get (footprints system) entry.number (Some f) None entry.there in
        let kept : is_misplaced f ≡ false = subst (λ (o : Option Footprint). breaks_after (take entry.number (footprints system)) o 1 ≡ false) here (are.kept entry.number 1) in
        let base = base_times f host.word_bytes times kept in
        let some = (are.placed.fit entry.number f entry.there).some in
        same_entry e address host.word_bytes f.base (f.base + f.bytes) word base (sum_times host.word_bytes f.base f.bytes base times) (omega arith)
        (ap (λ (x : MapEntry). x.first) entry.is) (ap (λ (x : MapEntry). x.last) entry.is)
      where
        one_word : (h : HostPort) → IsBoundedHost h → 1 ≤ h.word_bytes
        one_word h bounded = let order : 0 ≤ bounded.ports.word.exponent = omega arith in let least : 2 ^ 0 ≤ 2 ^ bounded.ports.word.exponent = pow_mono order in let power = bounded.ports.word.power in omega arith
