-- Laws of numbers that bytes write. No contract reads a proof of theirs; the crates above cite them.
use Rattle.std.proofs.Common.{◌≡◌, ◌+◌, ◌*◌, ◌^◌, ◌<◌, ℕ, zero, suc, refl, sym, ap, ◌∙◌, subst, arith, add-zero, pow-suc}
use Rattle.std.proofs.Math.Nat.{two-pow-succ, pow-succ'}
use Rattle.stand_ins.specs.Contents.{number_of}

-- a byte is eight bits
pub byte_shift : (lane : ℕ) → 2 ^ (8 * lane) ≡ 256 ^ lane
byte_shift zero = refl
byte_shift (suc lane) =
    let more : 8 * suc lane ≡ suc (suc (suc (suc (suc (suc (suc (suc (8 * lane)))))))) = omega arith in
    let ih = byte_shift lane in
    let one = two-pow-succ (8 * lane) in
    let two = two-pow-succ (suc (8 * lane)) in
    let three = two-pow-succ (suc (suc (8 * lane))) in
    let four = two-pow-succ (suc (suc (suc (8 * lane)))) in
    let five = two-pow-succ (suc (suc (suc (suc (8 * lane))))) in
    let six = two-pow-succ (suc (suc (suc (suc (suc (8 * lane)))))) in
    let seven = two-pow-succ (suc (suc (suc (suc (suc (suc (8 * lane))))))) in
    let eight = two-pow-succ (suc (suc (suc (suc (suc (suc (suc (8 * lane)))))))) in
    let large = pow-suc 256 lane in
    ap (λ n. 2 ^ n) more ∙ omega (arith, ih, one, two, three, four, five, six, seven, eight, large)

next_place : (from k : ℕ) → from + 1 + k ≡ from + suc k
next_place from k = omega arith

-- bytes write a number below the power of 256 for so many
pub number_below : (bytes : ℕ → ℕ) (from count : ℕ) → ((k : ℕ) → k < count → bytes (from + k) < 256)
    → number_of bytes from count < 256 ^ count
number_below bytes from zero small = omega arith
number_below bytes from (suc count) small =
    let first : bytes from < 256 = subst (λ n. bytes n < 256) (add-zero from) (small 0 (omega arith)) in
    let later = number_below bytes (from + 1) count
    (λ k less. subst (λ n. bytes n < 256) (sym (next_place from k)) (small (suc k) (omega arith))) in
    omega (arith, pow-succ' 256 count)
