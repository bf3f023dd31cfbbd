-- Which links of a pair fit its words, and how long the bursts below its cutter and below those links may be.
use Rattle.std.proofs.Common.{◌≡◌, ℕ, zero, suc, ◌+◌, ◌-◌, ◌*◌, ◌^◌, ◌≤◌, ◌<◌, not, ◌&&◌, ◌==◌, Bool, true, false, if◌then◌else◌, nat_eq, nat_lt, refl, sym, subst, ap, ap₂, ◌∙◌, arith}
use Rattle.std.proofs.lemmas.Bool.{ltb-true, ltb-false, lt-ltb, le-ltb, eqb-true, eqb-false, and_parts}
use Rattle.std.proofs.lemmas.Nat.{pow-add}
use Rattle.std.proofs.Math.Pow.{pow_mono}
use Rattle.iface_roles.specs.declared.records.HostPort.{HostPort}
use Rattle.iface_roles.specs.declared.records.AgentPort.{AgentPort}
use Rattle.memory_runs.specs.Sides.{burst_width}
use Rattle.mm_burst.specs.CutterNets.{lane_exponent}
use Rattle.mm_width.specs.Pairs.{MayMeet, needs_drop, keeps_beats, packs, selects, place_bits, bits_between, bits_cut, needs_cut}

-- ---- widths of burstcount

some_of : (bits : ℕ) → (bits ≡ 0 → ⊥) → 1 ≤ bits
some_of zero some = absurd (some refl)
some_of (suc bits) some = omega arith

some_by : (none : Bool) (bits : ℕ) → nat_eq bits 0 ≡ none → 1 ≤ (if none then 1 else bits)
some_by true bits n = omega arith
some_by false bits n = let some = eqb-false bits 0 n in some_of bits some

some_width : (bits : ℕ) → 1 ≤ burst_width bits
some_width bits = some_by (nat_eq bits 0) bits refl

most_by : (none : Bool) (bits : ℕ) → bits ≤ 11 → (if none then 1 else bits) ≤ 11
most_by true bits few = omega arith
most_by false bits few = few

pub most_width : (bits : ℕ) → bits ≤ 11 → burst_width bits ≤ 11
most_width bits few = most_by (nat_eq bits 0) bits few

between_by : (keeps : Bool) (most : ℕ) → 1 ≤ most → 1 ≤ (if keeps then most else 1)
between_by true most some = some
between_by false most some = omega arith

pub some_between : (host : HostPort) (agent : AgentPort) → 1 ≤ bits_between host agent
some_between host agent = between_by (keeps_beats host agent) (burst_width agent.burst_bits) (some_width agent.burst_bits)

-- ---- which links fit words

module _ (host : HostPort) (agent : AgentPort) (P : Bool → Bool → Bool → Type 0)
    (select : host.word_bytes < agent.word_bytes → nat_lt 1 host.burst_bits ≡ false → packs host agent ≡ false → P true false false)
    (gather : host.word_bytes < agent.word_bytes → packs host agent ≡ true → P false true false)
    (split : agent.word_bytes < host.word_bytes → packs host agent ≡ false → P false false true)
    (same : host.word_bytes ≡ agent.word_bytes → packs host agent ≡ false → P false false false) where
  by_tests : (narrower bursts wider : Bool) → nat_lt host.word_bytes agent.word_bytes ≡ narrower → nat_lt 1 host.burst_bits ≡ bursts → nat_lt agent.word_bytes host.word_bytes ≡ wider →
      P (narrower && not (narrower && bursts)) (narrower && bursts) wider
  by_tests true bursts true n b w = let less = ltb-true host.word_bytes agent.word_bytes n in let more = ltb-true agent.word_bytes host.word_bytes w in absurd (omega (arith, less, more))
  by_tests true true false n b w = gather (ltb-true host.word_bytes agent.word_bytes n) (ap₂ (λ x y. x && y) n b)
  by_tests true false false n b w = select (ltb-true host.word_bytes agent.word_bytes n) b (ap₂ (λ x y. x && y) n b)
  by_tests false bursts true n b w = split (ltb-true agent.word_bytes host.word_bytes w) (ap (λ x. x && nat_lt 1 host.burst_bits) n)
  by_tests false bursts false n b w =
      let least = ltb-false host.word_bytes agent.word_bytes n in
      let most = ltb-false agent.word_bytes host.word_bytes w in
      same (omega (arith, least, most)) (ap (λ x. x && nat_lt 1 host.burst_bits) n)

  -- narrow words are selected or gathered, or wide ones are split, or words are the same
  pub by_words : P (selects host agent) (packs host agent) (nat_lt agent.word_bytes host.word_bytes)
  by_words = by_tests (nat_lt host.word_bytes agent.word_bytes) (nat_lt 1 host.burst_bits) (nat_lt agent.word_bytes host.word_bytes) refl refl refl

-- ---- places in a wide word

pub exponent_is : (bytes lanes : ℕ) → lanes ≤ 4 → bytes ≡ 2 ^ lanes → lane_exponent bytes ≡ lanes
exponent_is bytes zero few e = ap lane_exponent e
exponent_is bytes (suc zero) few e = ap lane_exponent e
exponent_is bytes (suc (suc zero)) few e = ap lane_exponent e
exponent_is bytes (suc (suc (suc zero))) few e = ap lane_exponent e
exponent_is bytes (suc (suc (suc (suc zero)))) few e = ap lane_exponent e
exponent_is bytes (suc (suc (suc (suc (suc lanes))))) few e = absurd (omega arith)

-- two sizes, of which the second is the larger: how many bits tell the places of the first in the second
pub record ArePlaces (small large places : ℕ) : Type 0 where
  pub some : 1 ≤ places
  pub few : places ≤ 4
  pub whole : large ≡ 2 ^ places * small

pub larger : (a b : ℕ) → 2 ^ a < 2 ^ b → a < b
larger a b h = by_less (nat_lt a b) refl
  where
    by_less : (t : Bool) → nat_lt a b ≡ t → a < b
    by_less true e = ltb-true a b e
    by_less false e = let least = ltb-false a b e in let power : 2 ^ b ≤ 2 ^ a = pow_mono least in absurd (omega (arith, h, power))

powers : (small large a b : ℕ) → small ≡ 2 ^ a → large ≡ 2 ^ b → b ≤ 4 → small < large → ArePlaces small large (b - a)
powers small large a b s l few less =
    let more : a < b = larger a b (omega (arith, s, l, less)) in
    let size : b ≡ (b - a) + a = omega (arith, more) in
    record { some = omega (arith, more); few = omega (arith, few); whole = l ∙ ap (λ n. 2 ^ n) size ∙ pow-add 2 (b - a) a ∙ ap (λ n. 2 ^ (b - a) * n) (sym s) }

pub narrower : (host : HostPort) (agent : AgentPort) → packs host agent ≡ true → host.word_bytes < agent.word_bytes
narrower host agent p = ltb-true host.word_bytes agent.word_bytes (and_parts (nat_lt host.word_bytes agent.word_bytes) (nat_lt 1 host.burst_bits) p).0

pub no_places : (host : HostPort) (agent : AgentPort) → packs host agent ≡ false → place_bits host agent ≡ 0
no_places host agent p = ap (λ (b : Bool). if b then lane_exponent agent.word_bytes - lane_exponent host.word_bytes else 0) p

exponents : (host : HostPort) (agent : AgentPort) (pair : MayMeet host agent) → lane_exponent agent.word_bytes - lane_exponent host.word_bytes ≡ pair.agent_word.exponent - pair.host_word.exponent
exponents host agent pair =
    ap₂ (λ (n k : ℕ). n - k) (exponent_is agent.word_bytes pair.agent_word.exponent pair.agent_word.small pair.agent_word.power) (exponent_is host.word_bytes pair.host_word.exponent pair.host_word.small pair.host_word.power)

pub places_of : (host : HostPort) (agent : AgentPort) → MayMeet host agent → packs host agent ≡ true → ArePlaces host.word_bytes agent.word_bytes (place_bits host agent)
places_of host agent pair p =
    let is : place_bits host agent ≡ pair.agent_word.exponent - pair.host_word.exponent = ap (λ (b : Bool). if b then lane_exponent agent.word_bytes - lane_exponent host.word_bytes else 0) p ∙ exponents host agent pair in
    subst (ArePlaces host.word_bytes agent.word_bytes) (sym is) (powers host.word_bytes agent.word_bytes pair.host_word.exponent pair.agent_word.exponent pair.host_word.power pair.agent_word.power pair.agent_word.small (narrower host agent p))

-- ---- below the cutter, and below what fits words

-- the bits of burstcount below the cutter, or where there is none
abbrev pub bits_below : HostPort → AgentPort → ℕ
bits_below host agent = if needs_cut host agent then bits_cut host agent else burst_width host.burst_bits

-- and with which bursts go on
abbrev pub bits_low : HostPort → AgentPort → ℕ
bits_low host agent = if needs_cut host agent then bits_between host agent else burst_width host.burst_bits

pub same_cut : (host : HostPort) (agent : AgentPort) → packs host agent ≡ false → bits_cut host agent ≡ bits_between host agent
same_cut host agent p = let none = no_places host agent p in omega (arith, none)

-- only a gatherer makes them shorter
pub same_below : (host : HostPort) (agent : AgentPort) → packs host agent ≡ false → bits_below host agent ≡ bits_low host agent
same_below host agent p = ap (λ n. if needs_cut host agent then n else burst_width host.burst_bits) (same_cut host agent p)

single_by : (cuts keeps : Bool) (most host : ℕ) → cuts ≡ nat_lt (if keeps then most else 1) host → keeps ≡ false → 1 ≤ host → (if cuts then (if keeps then most else 1) else host) ≡ 1
single_by cuts true most host c k some = absurd (cc)
single_by true false most host c k some = refl
single_by false false most host c k some = let few = ltb-false 1 host (sym c) in omega (arith, few, some)

-- single beats, where a beat may become none or many
pub single_low : (host : HostPort) (agent : AgentPort) → keeps_beats host agent ≡ false → bits_low host agent ≡ 1
single_low host agent k = single_by (needs_cut host agent) (keeps_beats host agent) (burst_width agent.burst_bits) (burst_width host.burst_bits) refl k (some_width host.burst_bits)

no_longer_by : (cuts keeps : Bool) (most host : ℕ) → cuts ≡ nat_lt (if keeps then most else 1) host → 1 ≤ most → (if cuts then (if keeps then most else 1) else host) ≤ most
no_longer_by true true most host c some = omega arith
no_longer_by true false most host c some = some
no_longer_by false true most host c some = ltb-false most host (sym c)
no_longer_by false false most host c some = let few = ltb-false 1 host (sym c) in omega (arith, few, some)

-- and never longer ones than the agent takes
pub no_longer_low : (host : HostPort) (agent : AgentPort) → bits_low host agent ≤ burst_width agent.burst_bits
no_longer_low host agent = no_longer_by (needs_cut host agent) (keeps_beats host agent) (burst_width agent.burst_bits) (burst_width host.burst_bits) refl (some_width agent.burst_bits)

differ_by : (same drops : Bool) → (same ≡ true → ⊥) → (same && not drops) ≡ false
differ_by true drops never = absurd (never refl)
differ_by false drops never = refl

pub words_differ : (host : HostPort) (agent : AgentPort) → (host.word_bytes ≡ agent.word_bytes → ⊥) → keeps_beats host agent ≡ false
words_differ host agent differ = differ_by (host.word_bytes == agent.word_bytes) (needs_drop host agent) (λ same. differ (eqb-true host.word_bytes agent.word_bytes same))

dropped_by : (same drops : Bool) → drops ≡ true → (same && not drops) ≡ false
dropped_by true true d = refl
dropped_by true false d = absurd (cc)
dropped_by false drops d = refl

pub beats_dropped : (host : HostPort) (agent : AgentPort) → needs_drop host agent ≡ true → keeps_beats host agent ≡ false
beats_dropped host agent d = dropped_by (host.word_bytes == agent.word_bytes) (needs_drop host agent) d

-- ---- bursts that are gathered

pub packed_differ : (host : HostPort) (agent : AgentPort) → packs host agent ≡ true → keeps_beats host agent ≡ false
packed_differ host agent p = let less = narrower host agent p in words_differ host agent (λ e. omega (arith, e, less))

pub single_between : (host : HostPort) (agent : AgentPort) → packs host agent ≡ true → bits_between host agent ≡ 1
single_between host agent p = ap (λ (b : Bool). if b then burst_width agent.burst_bits else 1) (packed_differ host agent p)

longer_by : (none : Bool) (bits : ℕ) → 1 < bits → nat_eq bits 0 ≡ none → 1 < (if none then 1 else bits)
longer_by true bits more n = let zero = eqb-true bits 0 n in absurd (omega (arith, zero, more))
longer_by false bits more n = more

-- and always cut
pub packed_cut : (host : HostPort) (agent : AgentPort) → packs host agent ≡ true → needs_cut host agent ≡ true
packed_cut host agent p =
    let bursts = ltb-true 1 host.burst_bits (and_parts (nat_lt host.word_bytes agent.word_bytes) (nat_lt 1 host.burst_bits) p).1 in
    let longer = longer_by (nat_eq host.burst_bits 0) host.burst_bits bursts refl in
    let single = single_between host agent p in
    lt-ltb (bits_between host agent) (burst_width host.burst_bits) (omega (arith, longer, single))

one_by : (none : Bool) (bits : ℕ) → bits ≤ 1 → nat_eq bits 0 ≡ none → (if none then 1 else bits) ≤ 1
one_by true bits few n = omega arith
one_by false bits few n = few

-- single words aren't
pub uncut : (host : HostPort) (agent : AgentPort) → nat_lt 1 host.burst_bits ≡ false → needs_cut host agent ≡ false
uncut host agent single =
    let few = ltb-false 1 host.burst_bits single in
    let one = one_by (nat_eq host.burst_bits 0) host.burst_bits few refl in
    let some = some_between host agent in
    le-ltb (bits_between host agent) (burst_width host.burst_bits) (omega (arith, one, some))

-- a cutter leaves some bits, and no more than a burstcount has
pub some_cut : (host : HostPort) (agent : AgentPort) → 1 ≤ bits_cut host agent
some_cut host agent = let some = some_between host agent in omega (arith, some)

between_few : (keeps : Bool) (most : ℕ) → most ≤ 11 → (if keeps then most else 1) ≤ 11
between_few true most few = few
between_few false most few = omega arith

pub few_cut : (host : HostPort) (agent : AgentPort) → MayMeet host agent → bits_cut host agent ≤ 11
few_cut host agent pair = by (packs host agent) refl
  where
    by : (b : Bool) → packs host agent ≡ b → bits_cut host agent ≤ 11
    by true p = let one = single_between host agent p in let few = (places_of host agent pair p).few in omega (arith, one, few)
    by false p = let none = no_places host agent p in let few = between_few (keeps_beats host agent) (burst_width agent.burst_bits) (most_width agent.burst_bits pair.agent_bursts) in omega (arith, none, few)

-- where there are places, a cut burst may have as many words as a wide word
pub places_cut : (host : HostPort) (agent : AgentPort) → nat_eq (place_bits host agent) 0 ≡ false → bits_cut host agent ≡ place_bits host agent + 1
places_cut host agent some = by (packs host agent) refl
  where
    by : (b : Bool) → packs host agent ≡ b → bits_cut host agent ≡ place_bits host agent + 1
    by true p = let one = single_between host agent p in omega (arith, one)
    by false p = absurd (eqb-false (place_bits host agent) 0 some (no_places host agent p))
