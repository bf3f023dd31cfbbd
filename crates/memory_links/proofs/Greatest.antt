-- Codes that are the greatest of those below stay so where more answers come, and how many answers the words of a side hold.
use Rattle.std.proofs.Common.{ℕ, ◌≤◌, ◌≡◌, ◌+◌, Bool, true, false, List, [], ◌∷◌, ◌++◌, if◌then◌else◌, arith, refl, sym, ap, subst, ◌∙◌, length, flat_map, drop, zip, nat_lt, length-append, length-drop, ltb-false}
use Rattle.std.proofs.lemmas.List.{length-map, take-append-le, drop-append-le}
use Rattle.histories.specs.History.{IsPrefix, total}
use Rattle.memory_runs.specs.Legal.{Word}
use Rattle.memory_runs.specs.Operations.{Beat, filled_lanes}
use Rattle.memory_machines.specs.Blocks.{Block, block, blocks_at, worded, sizes_of, highest, AreGreatest}
use Rattle.memory_machines.specs.Link.{Target, Port, read_beats, taken_at, words_at, answers_at, bytes_in}

-- words without an answer hold none
pub worded_total : (bs : List Block) → total (sizes_of (worded bs)) ≡ total (sizes_of bs)
worded_total [] = refl
worded_total (b ∷ bs) = by_size (nat_lt 0 b.size) refl (worded_total bs)
  where
    by_size : (t : Bool) → nat_lt 0 b.size ≡ t → total (sizes_of (worded bs)) ≡ total (sizes_of bs) → total (sizes_of (if t then b ∷ worded bs else worded bs)) ≡ b.size + total (sizes_of bs)
    by_size true e rest = ap (λ n. b.size + n) rest
    by_size false e rest = let none = ltb-false 0 b.size e in omega (arith, none, rest)

pub total_blocks : (target : Target) (port : Port) (c : ℕ) → total (sizes_of (blocks_at target port c)) ≡ length (answers_at target port c)
total_blocks target port c = all_of (zip (read_beats (taken_at port c)) (words_at port c))
  where
    all_of : (pairs : List (Beat × Word)) → total (sizes_of (flat_map (block target port) pairs)) ≡ length (flat_map (λ (p : Beat × Word). bytes_in target port.shape p.0 p.1) pairs)
    all_of [] = refl
    all_of (p ∷ pairs) =
        let one : length (bytes_in target port.shape p.0 p.1) ≡ length (filled_lanes port.shape target.shape p.0.enables) = length-map (filled_lanes port.shape target.shape p.0.enables) _ in
        let sum = length-append (bytes_in target port.shape p.0 p.1) (flat_map (λ (p : Beat × Word). bytes_in target port.shape p.0 p.1) pairs) in
        let rest = all_of pairs in
        omega (arith, one, sum, rest)

-- more answers below change nothing
greatest_grows : (bs : List Block) (codes more : List ℕ) → total (sizes_of bs) ≤ length codes → AreGreatest bs codes → AreGreatest bs (codes ++ more)
greatest_grows [] codes more h g = tt
greatest_grows (b ∷ bs) codes more h g =
    let enough : b.size ≤ length codes = omega (arith, h) in
    let left : total (sizes_of bs) ≤ length (drop b.size codes) = (let size = length-drop b.size codes in omega (arith, h, size)) in (
      (λ some. g.0 some ∙ ap highest (sym (take-append-le b.size codes more enough))),
      subst (λ l. AreGreatest bs l) (sym (drop-append-le b.size codes more enough)) (greatest_grows bs (drop b.size codes) more left g.1),
    )

pub greatest_behind : (up : List Block) (codes lower : List ℕ) → IsPrefix codes lower → total (sizes_of up) ≤ length codes → AreGreatest up codes → AreGreatest up lower
greatest_behind up codes lower p enough g = subst (λ l. AreGreatest up l) p.joins (greatest_grows up codes p.rest enough g)
