-- How many beats the bursts of a cutter have, by its way.
use Rattle.std.proofs.Common.{◌≡◌, ℕ, ◌+◌, ◌-◌, ◌*◌, ◌/◌, ◌%◌, ◌^◌, ◌<◌, ◌≤◌, Bool, true, false, if◌then◌else◌, nat_eq, suc, refl, sym, ap, ◌∙◌, arith}
use Rattle.std.proofs.Math.Nat.{pow-suc, one-le-pow}
use Rattle.memory_runs.specs.Commands.{longest_burst}
use Rattle.memory_links.specs.Cutters.{Reach, beats_of, reach_longest, reach_words}
use Rattle.mm_burst.specs.Pieces.{reach_by, longest_by}

reach_plain : (places bytes below : ℕ) → places ≡ 0 → reach_by places bytes below ≡ reach_longest (longest_burst below)
reach_plain places bytes below e = ap (λ n. reach_by n bytes below) e

longest_plain : (places below : ℕ) → places ≡ 0 → longest_by places below ≡ longest_burst below
longest_plain places below e = ap (λ n. longest_by n below) e

reach_ahead : (places bytes below : ℕ) → nat_eq places 0 ≡ false → reach_by places bytes below ≡ reach_words bytes (2 ^ places)
reach_ahead places bytes below e = ap (λ (b : Bool). if b then reach_longest (longest_burst below) else reach_words bytes (2 ^ places)) e

longest_ahead : (places below : ℕ) → nat_eq places 0 ≡ false → longest_by places below ≡ 1
longest_ahead places below e = ap (λ (b : Bool). if b then longest_burst below else 1) e

pub plain_count : (places bytes below step address left : ℕ) (writes : Bool) → places ≡ 0 → step ≡ (if writes then 1 else reach_by places bytes below address) → beats_of (longest_burst below) left ≡ beats_of (if writes then longest_by places below else step) left
plain_count places bytes below step address left true e f = ap (λ n. beats_of n left) (sym (longest_plain places below e))
plain_count places bytes below step address left false e f = ap (λ n. beats_of n left) (sym (f ∙ ap (λ (r : Reach). r address) (reach_plain places bytes below e)))

pub ahead_count : (places bytes below step address left : ℕ) (writes : Bool) → nat_eq places 0 ≡ false → step ≡ (if writes then 1 else reach_by places bytes below address) → beats_of step left ≡ beats_of (if writes then longest_by places below else step) left
ahead_count places bytes below step address left true e f = ap (λ n. beats_of n left) (f ∙ sym (longest_ahead places below e))
ahead_count places bytes below step address left false e f = refl

pub ahead_few : (places bytes below step address : ℕ) (writes : Bool) → nat_eq places 0 ≡ false → below ≡ places + 1 → step ≡ (if writes then 1 else reach_by places bytes below address) → step < 2 ^ below
ahead_few places bytes below step address writes e same f =
    let one_more : places + 1 ≡ suc places = omega arith in
    let twice : 2 ^ below ≡ 2 ^ places * 2 = ap (λ n. 2 ^ n) (same ∙ one_more) ∙ pow-suc 2 places in
    let some : 1 ≤ 2 ^ places = one-le-pow places 2 (omega arith) in
    by_writes writes f (omega (arith, twice, some))
  where
    by_writes : (w : Bool) → step ≡ (if w then 1 else reach_by places bytes below address) → 2 ^ places < 2 ^ below → step < 2 ^ below
    by_writes true g more = let some : 1 ≤ 2 ^ places = one-le-pow places 2 (omega arith) in omega (arith, g, more, some)
    by_writes false g more = let is : step ≡ 2 ^ places - (address / bytes) % 2 ^ places = g ∙ ap (λ (r : Reach). r address) (reach_ahead places bytes below e) in omega (arith, is, more)
