-- What the register of a history holds in a run. No contract reads a proof of these.
use Rattle.std.proofs.Common.{◌≡◌, ℕ, zero, suc, ◌+◌, ◌-◌, ◌*◌, ◌/◌, ◌%◌, ◌^◌, ◌<◌, ◌≤◌, refl, sym, subst, ap, ◌∙◌, arith}
use Rattle.std.specs.Int.{bit_at}
use Rattle.std.proofs.Math.Dec.{leb-suc-zero, leb-suc-suc}
use Rattle.std.proofs.lemmas.Bool.{le-leb}
use Rattle.std.proofs.lemmas.Nat.{mod-pow-add}
use Rattle.std.proofs.lemmas.Nat.Bits.{bit_at-zero, bit_at-suc, bit_at_lowest}
use Rattle.netlist.specs.Nets.{NetValue}
use Rattle.netlist.specs.Netlists.{Netlist}
use Rattle.netlist.specs.Runs.{Run, cycle_of, IsEndlessRun}
use Rattle.net_parts.specs.Nets.{StartsLow}
use Rattle.net_parts.specs.Histories.{earlier, TakesBit}

-- a bit below the highest that is kept
bit_at-mod : (x m n : ℕ) → n < m → bit_at (x % 2 ^ m) n ≡ bit_at x n
bit_at-mod x zero n h = absurd (omega arith)
bit_at-mod x (suc m) zero h =
    bit_at_lowest (x % 2 ^ suc m)
    ∙ (let e = mod-pow-add x m 1 in
    let one : m + 1 ≡ suc m = omega arith in
    let same : x % 2 ^ suc m ≡ x / 2 ^ 1 % 2 ^ m * 2 ^ 1 + x % 2 ^ 1 = ap (λ k. x % 2 ^ k) (sym one) ∙ e in
    omega (arith, same))
    ∙ sym (bit_at_lowest x)
bit_at-mod x (suc m) (suc n) h =
    let one : m + 1 ≡ suc m = omega arith in
    let same : x % 2 ^ suc m ≡ x / 2 ^ 1 % 2 ^ m * 2 ^ 1 + x % 2 ^ 1 = ap (λ k. x % 2 ^ k) (sym one) ∙ mod-pow-add x m 1 in
    let half : x % 2 ^ suc m / 2 ≡ x / 2 % 2 ^ m = omega (arith, same) in
    bit_at-suc (x % 2 ^ suc m) n ∙ ap (λ k. bit_at k n) half ∙ bit_at-mod (x / 2) m n (omega arith) ∙ sym (bit_at-suc x n)

bit_below : (r x : ℕ) → r < 2 → bit_at (r + 2 * x) 0 ≡ r
bit_below r x h = bit_at_lowest (r + 2 * x) ∙ omega arith

bit_above : (r x n : ℕ) → r < 2 → bit_at (r + 2 * x) (suc n) ≡ bit_at x n
bit_above r x n h = bit_at-suc (r + 2 * x) n ∙ ap (λ k. bit_at k n) (omega arith)

-- a history of one bit keeps nothing of what it had
pub kept_none : (r h w : ℕ) → w ≡ 1 → r ≡ r + 2 * (h % 2 ^ (w - 1))
kept_none r h w e =
    let none : h % 2 ^ 0 ≡ 0 = omega arith in
    let now : r ≡ r + 2 * (h % 2 ^ 0) = omega arith in
    let zero : 0 ≡ w - 1 = omega arith in
    now ∙ ap (λ n. r + 2 * (h % 2 ^ n)) zero

-- a bit below those that are kept
pub kept_some : (h k l r w p : ℕ) → 2 ≤ w → p ≡ 1 → k ≡ h / 2 ^ 0 % 2 ^ (w - 2 - 0 + 1) → l ≡ k * 2 ^ p + r
    → l ≡ r + 2 * (h % 2 ^ (w - 1))
kept_some h k l r w p some one kept is =
    let whole : h / 2 ^ 0 ≡ h = omega arith in
    let same : w - 2 - 0 + 1 ≡ w - 1 = omega arith in
    let bits : k ≡ h % 2 ^ (w - 1) = kept ∙ ap (λ n. n % 2 ^ (w - 2 - 0 + 1)) whole ∙ ap (λ n. h % 2 ^ n) same in
    let twice : k * 2 ^ p + r ≡ k * 2 ^ 1 + r = ap (λ n. k * 2 ^ n + r) one in
    let turned : k * 2 ^ 1 + r ≡ r + 2 * k = omega arith in
    is ∙ twice ∙ turned ∙ ap (λ n. r + 2 * n) bits

pub earlier_none : (signal : ℕ → ℕ) (n : ℕ) → earlier signal (suc n) 0 ≡ 0
earlier_none signal n = rw (leb-suc-zero n) refl

pub earlier_one : (signal : ℕ → ℕ) (c : ℕ) → earlier signal 1 (suc c) ≡ signal c
earlier_one signal c = rw (le-leb 1 (suc c) (omega arith)) (ap signal (omega arith))

pub earlier_more : (signal : ℕ → ℕ) (n c : ℕ) → earlier signal (suc n) (suc c) ≡ earlier signal n c
earlier_more signal n c = let same : suc c - suc n ≡ c - n = omega arith in rw (leb-suc-suc n c, same) refl

module _ (netlist : Netlist) (history bit : NetValue) (run : Run) (endless : IsEndlessRun netlist run)
    (starts : StartsLow netlist history) (takes : TakesBit netlist history bit) where
  signal : ℕ → ℕ
  signal c = run.net c bit.number

  next : (c : ℕ)
      → run.net (suc c) history.number ≡ run.net c bit.number + 2 * (run.net c history.number % 2 ^ (history.width - 1))
  next c =
      subst (λ k. run.net k history.number ≡ run.net c bit.number + 2 * (run.net c history.number % 2 ^ (history.width - 1)))
      (omega arith) (takes.moves run (c + 2) (endless (c + 2)) c (omega arith))

  fits : (c : ℕ) → run.net c bit.number < 2
  fits c = takes.is_bit (cycle_of run c) ((endless (c + 1)).valuations c (omega arith))

  -- bit n is the one of n + 1 cycles before
  pub history_bits : (c n : ℕ) → n < history.width
      → bit_at (run.net c history.number) n ≡ earlier (λ d. run.net d bit.number) (suc n) c
  history_bits zero n h =
      ap (λ k. bit_at k n) (starts run 1 (endless 1) (omega arith)) ∙ bit_at-zero n
      ∙ sym (earlier_none (λ d. run.net d bit.number) n)
  history_bits (suc c) zero h =
      ap (λ k. bit_at k 0) (next c)
      ∙ bit_below (run.net c bit.number) (run.net c history.number % 2 ^ (history.width - 1)) (fits c)
      ∙ sym (earlier_one (λ d. run.net d bit.number) c)
  history_bits (suc c) (suc n) h =
      ap (λ k. bit_at k (suc n)) (next c)
      ∙ bit_above (run.net c bit.number) (run.net c history.number % 2 ^ (history.width - 1)) n (fits c)
      ∙ bit_at-mod (run.net c history.number) (history.width - 1) n (omega arith)
      ∙ history_bits c n (omega arith)
      ∙ sym (earlier_more (λ d. run.net d bit.number) (suc n) c)
