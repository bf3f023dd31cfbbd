-- What nets make of the symbols of words.
use Rattle.std.proofs.Common.{◌≡◌, ℕ, ◌+◌, ◌-◌, ◌*◌, ◌/◌, ◌%◌, ◌^◌, ◌<◌, ◌≤◌, Bool, true, false, nat_le, if◌then◌else◌, refl, sym, ap, ◌∙◌, arith}
use Rattle.std.proofs.lemmas.Bool.{leb-true, leb-false}
use Rattle.std.proofs.Math.Nat.{mul-le-mul_left}
use Rattle.st_windows.specs.Cuts.{cut_of, front_at}
use Rattle.st_windows.proofs.CutLemmas.{front_some}

parted : (b left wanted : ℕ) → wanted ≤ left → b * (left - wanted) + b * wanted ≡ b * left
parted b left wanted h = let sum : b * ((left - wanted) + wanted) ≡ b * (left - wanted) + b * wanted = omega arith in sym sum ∙ ap (λ n. b * n) (omega arith)

some_product : (b k : ℕ) → 1 ≤ b → 1 ≤ k → 1 ≤ b * k
some_product b k h i = let most : b * 1 ≤ b * k = mul-le-mul_left b i in let one : b * 1 ≡ b = omega arith in omega (arith, most, one, h)

pub middle_cut : (b size skipped wanted word out : ℕ) → 1 ≤ b → 1 ≤ wanted → skipped < size → wanted ≤ size - skipped →
    out ≡ word / 2 ^ (b * (size - skipped - wanted)) % 2 ^ (b * (size - skipped) - 1 - b * (size - skipped - wanted) + 1) → out ≡ cut_of b size skipped wanted word
middle_cut b size skipped wanted word out some_bits some inside fits is = is ∙ ap (λ n. word / 2 ^ (b * (size - skipped - wanted)) % 2 ^ n) width ∙ by_size (nat_le size skipped) refl (nat_le wanted (size - skipped)) refl
  where
    width : b * (size - skipped) - 1 - b * (size - skipped - wanted) + 1 ≡ b * wanted
    width = let all = parted b (size - skipped) wanted fits in let one = some_product b wanted some_bits some in omega (arith, all, one)

    by_size : (s : Bool) → nat_le size skipped ≡ s → (t : Bool) → nat_le wanted (size - skipped) ≡ t →
        word / 2 ^ (b * (size - skipped - wanted)) % 2 ^ (b * wanted) ≡ (if s then 0 else (if t then word / 2 ^ (b * (size - skipped - wanted)) % 2 ^ (b * wanted) else word % 2 ^ (b * (size - skipped)) * 2 ^ (b * (wanted - (size - skipped)))))
    by_size true e t f = let most = leb-true size skipped e in absurd (omega (arith, most, inside))
    by_size false e true f = refl
    by_size false e false f = let more = leb-false wanted (size - skipped) f in absurd (omega (arith, more, fits))

-- the widths of what is cut and of the zeros behind it
pub tail_widths : (b left wanted : ℕ) → 1 ≤ b → 1 ≤ left → left ≤ wanted → (b * left - 1 - 0 + 1) + b * (wanted - left) ≡ b * wanted
tail_widths b left wanted some_bits some more = let all = parted b wanted left more in let one = some_product b left some_bits some in omega (arith, all, one)

pub tail_cut : (b size skipped wanted word low zeros width out : ℕ) → 1 ≤ b → skipped < size → size - skipped < wanted →
    low ≡ word / 2 ^ 0 % 2 ^ (b * (size - skipped) - 1 - 0 + 1) → zeros ≡ 0 → width ≡ b * (wanted - (size - skipped)) → out ≡ low * 2 ^ width + zeros → out ≡ cut_of b size skipped wanted word
tail_cut b size skipped wanted word low zeros width out some_bits inside more cut none wide is =
    is ∙ ap (λ n. low * 2 ^ n + zeros) wide ∙ ap (λ n. low * 2 ^ (b * (wanted - (size - skipped))) + n) none ∙ bare ∙ ap (λ n. n * 2 ^ (b * (wanted - (size - skipped)))) low_is
    ∙ by_size (nat_le size skipped) refl (nat_le wanted (size - skipped)) refl
  where
    bare : low * 2 ^ (b * (wanted - (size - skipped))) + 0 ≡ low * 2 ^ (b * (wanted - (size - skipped)))
    bare = omega arith

    low_is : low ≡ word % 2 ^ (b * (size - skipped))
    low_is =
        let one = some_product b (size - skipped) some_bits (omega (arith, inside)) in
        let width : b * (size - skipped) - 1 - 0 + 1 ≡ b * (size - skipped) = omega (arith, one) in
        let whole : word / 2 ^ 0 ≡ word = omega arith in
        cut ∙ ap (λ n. word / 2 ^ 0 % 2 ^ n) width ∙ ap (λ n. n % 2 ^ (b * (size - skipped))) whole

    by_size : (s : Bool) → nat_le size skipped ≡ s → (t : Bool) → nat_le wanted (size - skipped) ≡ t →
        word % 2 ^ (b * (size - skipped)) * 2 ^ (b * (wanted - (size - skipped))) ≡ (if s then 0 else (if t then word / 2 ^ (b * (size - skipped - wanted)) % 2 ^ (b * wanted) else word % 2 ^ (b * (size - skipped)) * 2 ^ (b * (wanted - (size - skipped)))))
    by_size true e t f = let most = leb-true size skipped e in absurd (omega (arith, most, inside))
    by_size false e true f = let fits = leb-true wanted (size - skipped) f in absurd (omega (arith, more, fits))
    by_size false e false f = refl

-- the front, of what is held and what comes behind it
pub front_joined : (b from into held word coming k older newer width out : ℕ) → ¬ (k ≡ 0) → older ≡ cut_of b held 0 k word → newer ≡ cut_of b from 0 (into - k) coming → width ≡ b * (into - k) → out ≡ older * 2 ^ width + newer →
    out ≡ front_at b from into held word coming k
front_joined b from into held word coming k older newer width out some old new wide is =
    is ∙ ap (λ n. older * 2 ^ n + newer) wide ∙ ap (λ n. n * 2 ^ (b * (into - k)) + newer) old ∙ ap (λ n. cut_of b held 0 k word * 2 ^ (b * (into - k)) + n) new
    ∙ sym (front_some b from into held word coming k some)

pub front_fits : (b into k : ℕ) → k ≤ into → b * k + b * (into - k) ≡ b * into
front_fits b into k h = let all = parted b into k h in omega (arith, all)
