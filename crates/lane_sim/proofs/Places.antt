-- Where the words of memories stand: one memory after another, with no word in common.
use Rattle.std.proofs.Common.{◌≡◌, ◌≢◌, ℕ, zero, suc, ◌+◌, ◌<◌, ◌≤◌, List, [], ◌∷◌, length, slice_get, get_or, take, Some, inl, inr, ap, ◌∙◌, arith, All}
use Rattle.std.proofs.Math.Nat.{pow-le-pow_right}
use Rattle.std.proofs.lemmas.Bool.{cases_lt}
use Rattle.std.proofs.lemmas.List.Sums.{sum_by-cons, sum_by_more, sum_by-take-le, sum_by-le}
use Rattle.std.proofs.lemmas.Option.{get_or_from_slice_get, slice_get_within, slice_get-get_or}
use Rattle.netlist.specs.declared.line.Memory.{Memory}
use Rattle.netlist.specs.Netlists.{Netlist, IsModule}
use Rattle.cycle_sim.specs.Sims.{size_of, place_of}

pub place_more : (memories : List Memory) (m : ℕ) (memory : Memory) → slice_get memories m ≡ Some memory → place_of memories (m + 1) ≡ place_of memories m + size_of memory
place_more memories m memory at =
    sum_by_more size_of memories m memory (slice_get_within memories m memory at) ∙ ap (λ (x : Memory). place_of memories m + size_of x) (get_or_from_slice_get memories m memory memory at)

-- the words of a later memory begin after those of an earlier one
pub place_after : (memories : List Memory) (m k : ℕ) (memory : Memory) → slice_get memories m ≡ Some memory → m < k → place_of memories m + size_of memory ≤ place_of memories k
place_after [] m k memory at lt = cc
place_after (x ∷ xs) m zero memory at lt = absurd (omega arith)
place_after (x ∷ xs) zero (suc k) memory at lt =
    let is : x ≡ memory = cc in
    let size : size_of x ≡ size_of memory = ap size_of is in
    omega (arith, sum_by-cons size_of x (take k xs), size)
place_after (x ∷ xs) (suc m) (suc k) memory at lt =
    omega (arith, sum_by-cons size_of x (take m xs), sum_by-cons size_of x (take k xs), place_after xs m k memory at (omega arith))

-- two memories have no word in common
pub place_apart : (memories : List Memory) (m k : ℕ) (first second : Memory) (a b : ℕ) → slice_get memories m ≡ Some first → slice_get memories k ≡ Some second → a < size_of first → b < size_of second → m ≢ k →
    place_of memories m + a ≢ place_of memories k + b
place_apart memories m k first second a b at_m at_k in_m in_k d e = elim (cases_lt m k) [
  | inl lt ↦ (let h = place_after memories m k first at_m lt in omega arith)
  | inr le ↦ (let lt : k < m = omega (arith, d) in let h = place_after memories k m second at_k lt in omega arith)
]

-- a word within the whole list of words
pub place_within : (memories : List Memory) (m : ℕ) (memory : Memory) (a : ℕ) → slice_get memories m ≡ Some memory → a < size_of memory → place_of memories m + a < place_of memories (length memories)
place_within memories m memory a at lt = omega (arith, place_after memories m (length memories) memory at (slice_get_within memories m memory at))

size_small : (b : Netlist) → IsModule b → All (λ (memory : Memory). size_of memory ≤ 1024) b.memories
size_small b h m d lt =
    let at = slice_get-get_or b.memories m d lt in
    let few = (h.well_made.memories m (get_or b.memories m d) at).few_addresses in
    pow-le-pow_right {n = 2} (omega arith) few

-- there are few words
pub place_small : (b : Netlist) → IsModule b → (m : ℕ) → place_of b.memories m ≤ 67108864
place_small b h m =
    let whole = sum_by-le size_of 1024 b.memories (size_small b h) in
    let part = sum_by-take-le size_of b.memories m in
    let few = h.well_made.few_memories in
    omega arith
