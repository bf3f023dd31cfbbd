-- The sides of proper hosts and agents.
use Rattle.std.proofs.Common.{◌≡◌, ℕ, ◌+◌, ◌*◌, ◌^◌, ◌<◌, ◌≤◌, ◌⊎◌, inl, inr, zero, suc, Bool, true, false, not, cond, max, nat_eq, IsTrue, refl, sym, ap, subst, ◌∙◌, arith}
use Rattle.std.proofs.Math.Nat.{mul-le-mul_left, mul-one, mul_comm}
use Rattle.std.specs.Bool.{IsFalse}
use Rattle.std.proofs.lemmas.Bool.{cases_lt}
use Rattle.std.proofs.lemmas.Bool.Decides.{nat_tests}
use Rattle.std.proofs.lemmas.Nat.{pow_pos, pow-add}
use Rattle.std.proofs.Math.Pow.{pow_mono}
use Rattle.iface_roles.specs.declared.records.HostPort.{HostPort}
use Rattle.iface_roles.specs.declared.records.AgentPort.{AgentPort}
use Rattle.iface_roles.specs.Proper.{IsWordSize, IsBoundedHost, IsBoundedAgent, span_of}
use Rattle.memory_runs.specs.Plan.{IsPowerOfTwo, IsShape}
use Rattle.memory_runs.specs.Sides.{unit_of, burst_width, host_side, agent_side, bound_of}

unit_is : (byte_units : Bool) (word : ℕ) → (unit_of byte_units word ≡ 1) ⊎ (unit_of byte_units word ≡ word)
unit_is true word = inl refl
unit_is false word = inr refl

not_zero : (n : ℕ) → nat_eq (suc n) 0 ≡ false
not_zero n = grind (arith, nat_tests)

some_burst : (bits : ℕ) → 0 < burst_width bits
some_burst zero = omega arith
some_burst (suc bits) = subst (λ b. 0 < cond b 1 (suc bits)) (sym (not_zero bits)) (omega arith)

-- without burstcount its width counts as 1
pub plain_width : (bits : ℕ) → IsFalse (not (nat_eq bits 0)) → burst_width bits ≡ 1
plain_width zero plain = refl
plain_width (suc bits) plain = absurd (let no : true ≡ false = ap not (sym (not_zero bits)) ∙ plain in cc)

pub has_width : (bits : ℕ) → IsTrue (not (nat_eq bits 0)) → 0 < bits
has_width zero has = absurd (let no : false ≡ true = has in cc)
has_width (suc bits) has = omega arith

no_width : (bits : ℕ) (valid : Bool) → (0 < bits → valid ≡ true) → IsFalse valid → IsFalse (not (nat_eq bits 0))
no_width zero valid needs none = refl
no_width (suc bits) valid needs none = absurd (let no : true ≡ false = sym (needs (omega arith)) ∙ none in cc)

shape_is : (byte_units : Bool) (word bits : ℕ) (enables : Bool) → IsWordSize word
    → IsShape (record { word_bytes = word; unit_bytes = unit_of byte_units word; burst_bits = burst_width bits; has_enables = enables })
shape_is byte_units word bits enables size = record { word = (size.exponent, size.power); unit = unit_is byte_units word; burst = some_burst bits }

pub host_shape : (host : HostPort) → IsBoundedHost host → IsShape (host_side host).shape
host_shape host bounded = shape_is host.byte_units host.word_bytes host.burst_bits host.enables bounded.ports.word

pub agent_shape : (agent : AgentPort) → IsBoundedAgent agent → IsShape (agent_side agent).shape
agent_shape agent bounded = shape_is agent.byte_units agent.word_bytes agent.burst_bits agent.enables bounded.ports.word

pub some_bound : (agent : AgentPort) → 1 ≤ bound_of agent
some_bound agent = by agent.pending
  where
    by : (n : ℕ) → 1 ≤ cond (nat_eq n 0) 1 n
    by zero = omega arith
    by (suc n) = subst (λ b. 1 ≤ cond b 1 (suc n)) (sym (not_zero n)) (omega arith)

-- an agent that is read at a fixed latency has no bursts
pub fixed_is_plain : (agent : AgentPort) → IsBoundedAgent agent → IsTrue agent.reads → IsFalse agent.readdatavalid → IsFalse (agent_side agent).has_burst
fixed_is_plain agent bounded reads none = no_width agent.burst_bits agent.readdatavalid (λ some. bounded.ports.burst_valid some reads) none

pub bursts_wait : (agent : AgentPort) → IsBoundedAgent agent → IsTrue (agent_side agent).has_burst → IsTrue agent.waitrequest
bursts_wait agent bounded has = bounded.ports.burst_waits (has_width agent.burst_bits has)

-- a span is a power of two of at least a word
span_as : (byte_units : Bool) (bits exponent word : ℕ) → word ≡ 2 ^ exponent → IsPowerOfTwo (cond byte_units (max (2 ^ bits) word) (2 ^ bits * word))
span_as true bits exponent word is = by (cases_lt bits exponent)
  where
    by : (bits < exponent) ⊎ (exponent ≤ bits) → IsPowerOfTwo (max (2 ^ bits) word)
    by (inl less) =
        let low : bits ≤ exponent = omega arith in
        let order : 2 ^ bits ≤ 2 ^ exponent = pow_mono low in
        (exponent, omega arith)
    by (inr more) = let order : 2 ^ exponent ≤ 2 ^ bits = pow_mono more in (bits, omega arith)
span_as false bits exponent word is = (bits + exponent, ap (λ n. 2 ^ bits * n) is ∙ sym (pow-add 2 bits exponent))

a_word : (byte_units : Bool) (bits word : ℕ) → word ≤ cond byte_units (max (2 ^ bits) word) (2 ^ bits * word)
a_word true bits word = omega arith
a_word false bits word =
    let more = mul-le-mul_left word (pow_pos bits) in
    let one = mul-one word in
    let turn = mul_comm word (2 ^ bits) in
    omega (arith, more, one, turn)

pub span_is : (agent : AgentPort) → IsBoundedAgent agent → IsPowerOfTwo (span_of agent) × (agent.word_bytes ≤ span_of agent)
span_is agent bounded =
    let word = bounded.ports.word in
    (span_as agent.byte_units agent.address_bits word.exponent agent.word_bytes word.power, a_word agent.byte_units agent.address_bits agent.word_bytes)
