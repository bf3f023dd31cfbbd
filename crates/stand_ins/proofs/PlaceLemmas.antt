-- Where the words of an agent lie.
use Rattle.std.proofs.Common.{◌≡◌, ◌+◌, ◌-◌, ◌*◌, ◌/◌, ◌%◌, ◌^◌, ◌<◌, ◌≤◌, ℕ, zero, suc, Bool, true, false, max, if◌then◌else◌, ◌∷◌, map, filter, refl, sym, ap, ◌∙◌, subst, inl, inr, arith, mul_comm, zero-add, pow-add}
use Rattle.std.proofs.lemmas.Bool.{cases_lt}
use Rattle.std.proofs.lemmas.Nat.{mul-add-lt}
use Rattle.std.proofs.Math.Pow.{pow_mono}
use Rattle.std.proofs.Math.Nat.{div-add-mod, mul-mod_left, mul-mod_right, mod_self, mod-mod_of_dvd, dvd_of_mod-eq-zero, mod-eq_of_lt, mul-add-mod_self_left, div-lt_iff_lt-mul, max-eq_left, max-eq_right, one-le-pow, mul-le-mul, mul-le-mul_left}
use Rattle.iface_roles.specs.declared.records.AgentPort.{AgentPort}
use Rattle.iface_roles.specs.Proper.{IsWordSize, IsBoundedAgent, span_of}
use Rattle.histories.specs.History.{numbers}
use Rattle.memory_runs.specs.Views.Kind.{Writes}
use Rattle.memory_runs.specs.Operations.{Operation, own_operations, is_enabled, byte_at}
use Rattle.memory_runs.specs.Operations.Operation.{Write}
use Rattle.memory_runs.specs.Sides.{agent_side}
use Rattle.stand_ins.specs.Contents.{number_of, word_at}
use Rattle.stand_ins.specs.Memory.{MemoryValue, contents_of, lane_write, lane_writes}
use Rattle.stand_ins.proofs.Bytes.{number_same}

pub few_bytes : (bytes : ℕ) → IsWordSize bytes → bytes ≤ 16
few_bytes bytes size = subst (λ n. n ≤ 16) (sym size.power) (pow_mono size.small)

pub some_bytes : (bytes : ℕ) → IsWordSize bytes → 1 ≤ bytes
some_bytes bytes size = subst (λ n. 1 ≤ n) (sym size.power) (one-le-pow size.exponent 2 (omega arith))

-- ---- addresses in bytes

pub whole_address : (bytes word_bytes : ℕ) → (bytes - bytes % word_bytes) % word_bytes ≡ 0
whole_address bytes word_bytes =
    let same : bytes - bytes % word_bytes ≡ word_bytes * (bytes / word_bytes) = omega (arith, div-add-mod bytes word_bytes) in
    ap (λ n. n % word_bytes) same ∙ mul-mod_right word_bytes (bytes / word_bytes)

pub few_addresses : (address unit : ℕ) → address < 2 ^ 32 → unit ≤ 16 → address * unit < 2 ^ 36
few_addresses address unit low few = let h : address * unit ≤ address * 16 = mul-le-mul_left address few in omega (arith, h)

-- ---- places

powers_whole : (bits exponent : ℕ) → max (2 ^ bits) (2 ^ exponent) % 2 ^ exponent ≡ 0
powers_whole bits exponent =
    elim (cases_lt bits exponent) [
      | inl less ↦ let low : 2 ^ bits ≤ 2 ^ exponent = pow_mono (omega arith) in ap (λ n. n % 2 ^ exponent) (max-eq_right low) ∙ mod_self (2 ^ exponent)
      | inr more ↦
          let low : 2 ^ exponent ≤ 2 ^ bits = pow_mono more in
          let parts : bits ≡ (bits - exponent) + exponent = omega arith in
          ap (λ n. n % 2 ^ exponent) (max-eq_left low ∙ ap (λ n. 2 ^ n) parts ∙ pow-add 2 (bits - exponent) exponent) ∙ mul-mod_left (2 ^ (bits - exponent)) (2 ^ exponent)
    ]

whole_span_of : (units : Bool) (bits bytes : ℕ) → IsWordSize bytes → (if units then max (2 ^ bits) bytes else 2 ^ bits * bytes) % bytes ≡ 0
whole_span_of true bits bytes size = subst (λ n. max (2 ^ bits) n % n ≡ 0) (sym size.power) (powers_whole bits size.exponent)
whole_span_of false bits bytes size = mul-mod_left (2 ^ bits) bytes

some_span_of : (units : Bool) (bits bytes : ℕ) → IsWordSize bytes → 1 ≤ (if units then max (2 ^ bits) bytes else 2 ^ bits * bytes)
some_span_of true bits bytes size = omega (arith, some_bytes bytes size)
some_span_of false bits bytes size =
    let one : 1 ≤ 2 ^ bits = one-le-pow bits 2 (omega arith) in
    let h : 1 * 1 ≤ 2 ^ bits * bytes = mul-le-mul one (some_bytes bytes size) in omega (arith, h)

pub whole_span : (port : AgentPort) → IsBoundedAgent port → span_of port % port.word_bytes ≡ 0
whole_span port bounded = whole_span_of port.byte_units port.address_bits port.word_bytes bounded.ports.word

pub some_span : (port : AgentPort) → IsBoundedAgent port → 1 ≤ span_of port
some_span port bounded = some_span_of port.byte_units port.address_bits port.word_bytes bounded.ports.word

pub place_is : (address span n lane : ℕ) → 0 < n → 0 < span → span % n ≡ 0 → address % n ≡ 0 → lane < n → (address + lane) % span ≡ address % span / n * n + lane
place_is address span n lane some wide whole begins inside =
    let r = address % span in
    let r_whole : r % n ≡ 0 = mod-mod_of_dvd n address (dvd_of_mod-eq-zero n whole) ∙ begins in
    let r_is : r / n * n ≡ r = mul_comm (r / n) n ∙ omega (arith, div-add-mod r n) in
    let span_is : span / n * n ≡ span = mul_comm (span / n) n ∙ omega (arith, div-add-mod span n) in
    let low : r < span / n * n = subst (λ s. r < s) (sym span_is) (omega arith) in
    let number : r / n < span / n = (div-lt_iff_lt-mul some).1 low in
    let below : r / n * n + lane < n * (span / n) = mul-add-lt (r / n) n lane (span / n) number inside in
    let turned : n * (span / n) ≡ span = mul_comm n (span / n) ∙ span_is in
    let parts : address + lane ≡ span * (address / span) + (r / n * n + lane) = omega (arith, div-add-mod address span) in
    ap (λ a. a % span) parts ∙ mul-add-mod_self_left span (address / span) (r / n * n + lane) ∙ mod-eq_of_lt (omega arith)

pub word_is_at : (port : AgentPort) (memory : MemoryValue) (address number : ℕ) → memory.word_bytes ≡ port.word_bytes →
    ((lane : ℕ) → lane < port.word_bytes → (address + lane) % span_of port ≡ number * port.word_bytes + lane) →
    number_of (contents_of memory) (number * memory.word_bytes) memory.word_bytes ≡ word_at (agent_side port) (contents_of memory) address
word_is_at port memory address number same places =
    ap (λ n. number_of (contents_of memory) (number * n) n) same
    ∙ number_same (contents_of memory) (λ lane. contents_of memory ((address + lane) % span_of port)) (number * port.word_bytes) 0 port.word_bytes (λ k less.
    ap (contents_of memory) (sym (places k less)) ∙ ap (λ lane. contents_of memory ((address + lane) % span_of port)) (sym (zero-add k)))

-- ---- the operations of a beat

map_lanes : (f g : ℕ → Operation) (test : ℕ → Bool) (first count : ℕ) → ((k : ℕ) → k < first + count → f k ≡ g k) → map f (filter test (numbers first count)) ≡ map g (filter test (numbers first count))
map_lanes f g test first zero same = refl
map_lanes f g test first (suc count) same =
    let rest = filter test (numbers (suc first) count) in
    let later : map f rest ≡ map g rest = map_lanes f g test (suc first) count (λ k less. same k (omega arith)) in
    elim (test first) as (λ t. map f (if t then first ∷ rest else rest) ≡ map g (if t then first ∷ rest else rest)) [
      | true ↦ ap (λ x. x ∷ map f rest) (same first (omega arith)) ∙ ap (λ xs. g first ∷ xs) later
      | false ↦ later
    ]

-- the operations of a write beat are the writes of its lanes
pub own_lanes : (port : AgentPort) (address number word enables n : ℕ) → n ≡ port.word_bytes → ((lane : ℕ) → lane < port.word_bytes → (address + lane) % span_of port ≡ number * port.word_bytes + lane) →
    lane_writes n number word enables (numbers 0 n) ≡ own_operations (agent_side port).shape (agent_side port).span (record { kind = Writes; address = address; word = word; enables = enables })
own_lanes port address number word enables n same places =
    ap (λ w. lane_writes w number word enables (numbers 0 w)) same
    ∙ map_lanes (lane_write port.word_bytes number word) (λ lane. Write ((address + lane) % span_of port) (byte_at word lane)) (is_enabled enables) 0 port.word_bytes
    (λ k less. ap (λ place. Write place (byte_at word k)) (sym (places k (omega arith))))
