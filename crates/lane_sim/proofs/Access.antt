-- Where a memory's word is looked up.
use Rattle.std.proofs.Common.{◌≡◌, ℕ, ◌+◌, ◌*◌, ◌%◌, ◌^◌, ◌<◌, ◌≤◌, List, length, slice_get, get_or, Some, refl, subst, ap, ◌∙◌, arith}
use Rattle.std.proofs.Math.Nat.{pow-le-pow_right}
use Rattle.std.proofs.lemmas.Option.{get_or_from_slice_get, slice_get_within, slice_get_read}
use Rattle.av_base.specs.Word.{Word}
use Rattle.netlist.specs.declared.line.Line.{Line}
use Rattle.netlist.specs.declared.line.Memory.{Memory}
use Rattle.netlist.specs.declared.line.Equation.TheVariants.{Read}
use Rattle.netlist.specs.Netlists.{Netlist, IsModule, width_at}
use Rattle.cycle_sim.specs.Sims.{AreNets, AreWords, ArePlaces, bits_at, place_of, size_of}
use Rattle.cycle_sim.specs.Given.{IsGiven}
use Rattle.lane_sim.proofs.Values.{width_at-line, bits_at-is}
use Rattle.lane_sim.proofs.Places.{place_within, place_small}
use Rattle.lane_sim.proofs.Evaluation.{net_fits}
use Rattle.lane_sim.proofs.Lines.{Here, operand, given}

pub operand_fits : (lines : List Line) (nets : List Word) (a w : ℕ) → AreNets lines nets → width_at lines a ≡ Some w → bits_at nets a < 2 ^ w
operand_fits lines nets a w h e =
    let at = width_at-line lines a w e in
    subst (λ v. bits_at nets a < 2 ^ v) at.2 (net_fits lines nets a at.0 h at.1)

-- what an address that was read from the nets is
pub address_is : (lines : List Line) (nets : List Word) (a w : ℕ) → AreNets lines nets → width_at lines a ≡ Some w → (x : Word) → x ≡ get_or nets a x → (bits : ℕ) → bits ≡ x.bits → bits ≡ bits_at nets a
address_is lines nets a w h e x is bits of = of ∙ ap (λ (y : Word). y.bits) (operand lines nets a w h e x is)

pub address_small : (b : Netlist) → IsModule b → (m : ℕ) (memory : Memory) → slice_get b.memories m ≡ Some memory → (address : ℕ) → address < size_of memory → address < 1024
address_small b h m memory at address lt =
    let few = (h.well_made.memories m memory at).few_addresses in
    let p : 2 ^ memory.address_bits ≤ 2 ^ 10 = pow-le-pow_right {n = 2} (omega arith) few in
    omega arith

pub place_is : (memories : List Memory) (places : List ℕ) (m : ℕ) (memory : Memory) → ArePlaces memories places → slice_get memories m ≡ Some memory → (p : ℕ) → p ≡ get_or places m p → p ≡ place_of memories m
place_is memories places m memory h at p is = is ∙ get_or_from_slice_get places m (place_of memories m) p (h.is m (slice_get_within memories m memory at))

pub in_places : (memories : List Memory) (places : List ℕ) (m : ℕ) (memory : Memory) → ArePlaces memories places → slice_get memories m ≡ Some memory → m < length places
in_places memories places m memory h at = let lt = slice_get_within memories m memory at in let c = h.count in omega arith

pub in_words : (memories : List Memory) (words : List Word) (m : ℕ) (memory : Memory) (address : ℕ) → AreWords memories words → slice_get memories m ≡ Some memory → address < size_of memory → (j : ℕ) →
    j ≡ place_of memories m + address → j < length words
in_words memories words m memory address h at lt j is = let p = place_within memories m memory address at lt in let c = h.count in omega arith

pub sum_small : (b : Netlist) → IsModule b → (m : ℕ) (memory : Memory) → slice_get b.memories m ≡ Some memory → (address : ℕ) → address < size_of memory → (p q : ℕ) → p ≡ place_of b.memories m → q ≡ address → p + q < 2 ^ 32
sum_small b h m memory at address lt p q ep eq =
    let few = place_small b h m in
    let small = address_small b h m memory at address lt in
    omega (arith, few, small, ep, eq)

-- the value that a read gives
pub given_read : (b : Netlist) (words nets : List Word) (n m a : ℕ) → AreNets b.lines nets → AreWords b.memories words → (h : Here b n (Read m a)) → (value : Word) (j : ℕ) → j ≡ place_of b.memories m + bits_at nets a →
    value ≡ get_or words j value → (line : Line) → slice_get b.lines n ≡ Some line → IsGiven b words nets n line value
given_read b words nets n m a hn hw h value j at_j is =
    let s = h.sound in
    let fits = operand_fits b.lines nets a s.memory.address_bits hn s.address.width in
    let lt = in_words b.memories words m s.memory (bits_at nets a) hw s.is fits j at_j in
    let stands : slice_get words (place_of b.memories m + bits_at nets a) ≡ Some value = subst (λ k. slice_get words k ≡ Some value) at_j (slice_get_read words (length words) j value refl lt is) in
    let its = hw.fit m s.memory s.is (bits_at nets a) value fits stands in
    given b words nets n (Read m a) h value value refl refl (its.width ∙ s.width) (ap Some (bits_at-is words (place_of b.memories m + bits_at nets a) value stands))

pub size_small : (bits : ℕ) → bits ≤ 10 → 2 ^ bits ≤ 1024
size_small bits h = pow-le-pow_right {n = 2} (omega arith) h

pub shifted : (bits : ℕ) → bits ≤ 10 → (1 * 2 ^ bits) % 18446744073709551616 ≡ 2 ^ bits
shifted bits h = let small = size_small bits h in omega arith
