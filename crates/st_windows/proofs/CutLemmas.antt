-- The symbols of words that are cut and joined.
use Rattle.std.proofs.Common.{◌≡◌, ℕ, zero, suc, ◌+◌, ◌-◌, ◌*◌, ◌/◌, ◌%◌, ◌^◌, ◌<◌, ◌≤◌, Bool, true, false, ◌==◌, nat_le, if◌then◌else◌, refl, sym, subst, ap, ◌∙◌, arith}
use Rattle.std.proofs.lemmas.Bool.{leb-true, leb-false, le-leb, ne_eqb, eqb-true, eq-eqb, both_ways}
use Rattle.std.proofs.lemmas.Nat.{mod-pow-add, shr-shr, shl-shr, shr_high, mod_low, pow_pos, pow-add, shl_below}
use Rattle.std.proofs.Math.Nat.{mod-lt, mod-eq_of_lt, mul_assoc, mul-mod_left, zero-div}
use Rattle.std.proofs.Math.Pow.{mod-mod-pow}
use Rattle.st_windows.specs.Cuts.{symbol, cut_of, front_at, rest_at, chosen_at, chosen_below}

-- ---- bits

-- bits in the middle of a word that is cut above them
cut_above : (x e r m : ℕ) → x % 2 ^ ((r + m) + e) / 2 ^ e % 2 ^ m ≡ x / 2 ^ e % 2 ^ m
cut_above x e r m =
    let split = mod-pow-add x (r + m) e in
    let high = shr_high (x / 2 ^ e % 2 ^ (r + m)) e (x % 2 ^ e) (mod-lt x (pow_pos e)) in
    ap (λ n. n / 2 ^ e % 2 ^ m) split ∙ ap (λ n. n % 2 ^ m) high ∙ mod-mod-pow (x / 2 ^ e) r m

above_one : (b above place : ℕ) → b * (above + 1 + place) ≡ (b * above + b) + b * place
above_one b above place = omega arith

spread : (b d e : ℕ) → b * (d + e) ≡ b * d + b * e
spread b d e = omega arith

-- below a cut
below_cut : (x b top place : ℕ) → place < top → x % 2 ^ (b * top) / 2 ^ (b * place) % 2 ^ b ≡ x / 2 ^ (b * place) % 2 ^ b
below_cut x b top place below =
    let sum : top ≡ (top - 1 - place) + 1 + place = omega (arith, below) in
    ap (λ n. x % 2 ^ n / 2 ^ (b * place) % 2 ^ b) (ap (λ n. b * n) sum ∙ above_one b (top - 1 - place) place) ∙ cut_above x (b * place) (b * (top - 1 - place)) b

-- where a shift brings a symbol
shifted : (x b d place : ℕ) → d ≤ place → x * 2 ^ (b * d) / 2 ^ (b * place) % 2 ^ b ≡ x / 2 ^ (b * (place - d)) % 2 ^ b
shifted x b d place above =
    let sum : place ≡ d + (place - d) = omega (arith, above) in
    let parted : b * place ≡ b * d + b * (place - d) = ap (λ n. b * n) sum ∙ spread b d (place - d) in
    ap (λ n. x * 2 ^ (b * d) / 2 ^ n % 2 ^ b) parted
    ∙ ap (λ n. n % 2 ^ b) (sym (shr-shr (x * 2 ^ (b * d)) (b * d) (b * (place - d))))
    ∙ ap (λ n. n / 2 ^ (b * (place - d)) % 2 ^ b) (shl-shr x (b * d))

-- a symbol that a shift leaves empty
left_empty : (x b d place : ℕ) → place < d → x * 2 ^ (b * d) / 2 ^ (b * place) % 2 ^ b ≡ 0
left_empty x b d place below =
    let above : ℕ = d - 1 - place in
    let sum : d ≡ above + 1 + place = omega (arith, below) in
    let parted : b * d ≡ (b * above + b) + b * place = ap (λ n. b * n) sum ∙ above_one b above place in
    ap (λ n. x * 2 ^ n / 2 ^ (b * place) % 2 ^ b) parted
    ∙ ap (λ n. x * n / 2 ^ (b * place) % 2 ^ b) (pow-add 2 (b * above + b) (b * place))
    ∙ ap (λ n. n / 2 ^ (b * place) % 2 ^ b) (sym (mul_assoc x (2 ^ (b * above + b)) (2 ^ (b * place))))
    ∙ ap (λ n. n % 2 ^ b) (shl-shr (x * 2 ^ (b * above + b)) (b * place))
    ∙ ap (λ n. x * n % 2 ^ b) (pow-add 2 (b * above) b)
    ∙ ap (λ n. n % 2 ^ b) (sym (mul_assoc x (2 ^ (b * above)) (2 ^ b)))
    ∙ mul-mod_left (x * 2 ^ (b * above)) (2 ^ b)

-- a symbol of what is shifted down
lower : (x b d place : ℕ) → x / 2 ^ (b * d) / 2 ^ (b * place) % 2 ^ b ≡ x / 2 ^ (b * (d + place)) % 2 ^ b
lower x b d place = ap (λ n. n % 2 ^ b) (shr-shr x (b * d) (b * place)) ∙ ap (λ n. x / 2 ^ n % 2 ^ b) (sym (spread b d place))

-- ---- cuts

-- each symbol of 0 is 0
pub none_of : (b size j : ℕ) → symbol b size 0 j ≡ 0
none_of b size j = ap (λ n. n % 2 ^ b) (zero-div (2 ^ (b * (size - 1 - j)))) ∙ mod-eq_of_lt (pow_pos b)

-- a symbol that is cut out is one of the word
pub cut_symbol : (b size skipped wanted word j : ℕ) → j < wanted → skipped + j < size → symbol b wanted (cut_of b size skipped wanted word) j ≡ symbol b size word (skipped + j)
cut_symbol b size skipped wanted word j inside within = by_size (nat_le size skipped) refl (nat_le wanted (size - skipped)) refl
  where
    by_size : (s : Bool) → nat_le size skipped ≡ s → (t : Bool) → nat_le wanted (size - skipped) ≡ t →
        symbol b wanted (if s then 0 else (if t then word / 2 ^ (b * (size - skipped - wanted)) % 2 ^ (b * wanted) else word % 2 ^ (b * (size - skipped)) * 2 ^ (b * (wanted - (size - skipped))))) j ≡ symbol b size word (skipped + j)
    by_size true e t f = let most = leb-true size skipped e in absurd (omega (arith, most, within))
    by_size false e true f =
        let fits = leb-true wanted (size - skipped) f in
        below_cut (word / 2 ^ (b * (size - skipped - wanted))) b wanted (wanted - 1 - j) (omega (arith, inside))
        ∙ lower word b (size - skipped - wanted) (wanted - 1 - j)
        ∙ ap (λ n. word / 2 ^ (b * n) % 2 ^ b) (omega (arith, fits, inside, within))
    by_size false e false f =
        let more = leb-false wanted (size - skipped) f in
        shifted (word % 2 ^ (b * (size - skipped))) b (wanted - (size - skipped)) (wanted - 1 - j) (omega (arith, more, inside, within))
        ∙ below_cut word b (size - skipped) (wanted - 1 - j - (wanted - (size - skipped))) (omega (arith, more, inside, within))
        ∙ ap (λ n. word / 2 ^ (b * n) % 2 ^ b) (omega (arith, more, inside, within))

-- where the word has no more, it is 0
pub cut_beyond : (b size skipped wanted word j : ℕ) → j < wanted → size ≤ skipped + j → symbol b wanted (cut_of b size skipped wanted word) j ≡ 0
cut_beyond b size skipped wanted word j inside beyond = by_size (nat_le size skipped) refl (nat_le wanted (size - skipped)) refl
  where
    by_size : (s : Bool) → nat_le size skipped ≡ s → (t : Bool) → nat_le wanted (size - skipped) ≡ t →
        symbol b wanted (if s then 0 else (if t then word / 2 ^ (b * (size - skipped - wanted)) % 2 ^ (b * wanted) else word % 2 ^ (b * (size - skipped)) * 2 ^ (b * (wanted - (size - skipped))))) j ≡ 0
    by_size true e t f = none_of b wanted j
    by_size false e true f = let fits = leb-true wanted (size - skipped) f in absurd (omega (arith, fits, inside, beyond))
    by_size false e false f =
        let more = leb-false wanted (size - skipped) f in
        left_empty (word % 2 ^ (b * (size - skipped))) b (wanted - (size - skipped)) (wanted - 1 - j) (omega (arith, more, inside, beyond))

pub cut_fits : (b size skipped wanted word : ℕ) → cut_of b size skipped wanted word < 2 ^ (b * wanted)
cut_fits b size skipped wanted word = by_size (nat_le size skipped) (nat_le wanted (size - skipped)) refl
  where
    by_size : (s t : Bool) → nat_le wanted (size - skipped) ≡ t →
        (if s then 0 else (if t then word / 2 ^ (b * (size - skipped - wanted)) % 2 ^ (b * wanted) else word % 2 ^ (b * (size - skipped)) * 2 ^ (b * (wanted - (size - skipped))))) < 2 ^ (b * wanted)
    by_size true t f = pow_pos (b * wanted)
    by_size false true f = mod-lt _ (pow_pos (b * wanted))
    by_size false false f =
        let more = leb-false wanted (size - skipped) f in
        let sum : b * (size - skipped) + b * (wanted - (size - skipped)) ≡ b * wanted = sym (spread b (size - skipped) (wanted - (size - skipped))) ∙ ap (λ n. b * n) (omega (arith, more)) in
        subst (λ n. word % 2 ^ (b * (size - skipped)) * 2 ^ (b * (wanted - (size - skipped))) < 2 ^ n) sum (shl_below (word % 2 ^ (b * (size - skipped))) (b * (size - skipped)) (b * (wanted - (size - skipped))) (mod-lt word (pow_pos (b * (size - skipped)))))

-- ---- joined words

-- a symbol of the upper word
upper_symbol : (b into k top low j : ℕ) → low < 2 ^ (b * (into - k)) → k ≤ into → j < k → symbol b into (top * 2 ^ (b * (into - k)) + low) j ≡ symbol b k top j
upper_symbol b into k top low j fits few inside =
    let place : into - 1 - j ≡ (into - k) + (k - 1 - j) = omega (arith, few, inside) in
    ap (λ n. (top * 2 ^ (b * (into - k)) + low) / 2 ^ (b * n) % 2 ^ b) place
    ∙ sym (lower (top * 2 ^ (b * (into - k)) + low) b (into - k) (k - 1 - j))
    ∙ ap (λ n. n / 2 ^ (b * (k - 1 - j)) % 2 ^ b) (shr_high top (b * (into - k)) low fits)

-- and one of the lower word
lower_symbol : (b into k top low j : ℕ) → low < 2 ^ (b * (into - k)) → k ≤ j → j < into → symbol b into (top * 2 ^ (b * (into - k)) + low) j ≡ symbol b (into - k) low (j - k)
lower_symbol b into k top low j fits above inside =
    let place : into - 1 - j ≡ (into - k) - 1 - (j - k) = omega (arith, above, inside) in
    ap (λ n. (top * 2 ^ (b * (into - k)) + low) / 2 ^ (b * n) % 2 ^ b) place
    ∙ sym (below_cut (top * 2 ^ (b * (into - k)) + low) b (into - k) ((into - k) - 1 - (j - k)) (omega (arith, above, inside)))
    ∙ ap (λ n. n / 2 ^ (b * ((into - k) - 1 - (j - k))) % 2 ^ b) (mod_low top (b * (into - k)) low fits)

-- ---- the front and the rest

-- the front where some are held
pub front_some : (b from into held word coming k : ℕ) → ¬ (k ≡ 0) → front_at b from into held word coming k ≡ cut_of b held 0 k word * 2 ^ (b * (into - k)) + cut_of b from 0 (into - k) coming
front_some b from into held word coming k some =
    ap (λ t. if t then cut_of b from 0 into coming else cut_of b held 0 k word * 2 ^ (b * (into - k)) + cut_of b from 0 (into - k) coming) (ne_eqb k 0 some)

-- a symbol of the front that is held
pub front_older : (b from into held word coming k j : ℕ) → k < into → k ≤ held → j < k → symbol b into (front_at b from into held word coming k) j ≡ symbol b held word j
front_older b from into held word coming k j few fits older =
    ap (λ n. symbol b into n j) (front_some b from into held word coming k (λ none. (absurd (omega (arith, none, older)))))
    ∙ upper_symbol b into k (cut_of b held 0 k word) (cut_of b from 0 (into - k) coming) j (cut_fits b from 0 (into - k) coming) (omega (arith, few)) older
    ∙ cut_symbol b held 0 k word j older (omega (arith, fits, older))
    ∙ ap (λ n. symbol b held word n) (omega arith)

-- and one that comes
pub front_newer : (b from into held word coming k j : ℕ) → k ≤ j → j < into → j < k + from → symbol b into (front_at b from into held word coming k) j ≡ symbol b from coming (j - k)
front_newer b from into held word coming zero j above inside within =
    cut_symbol b from 0 into coming j inside (omega (arith, within)) ∙ ap (λ n. symbol b from coming n) (omega arith)
front_newer b from into held word coming (suc k) j above inside within =
    ap (λ n. symbol b into n j) (front_some b from into held word coming (suc k) (λ none. (absurd (omega (arith, none)))))
    ∙ lower_symbol b into (suc k) (cut_of b held 0 (suc k) word) (cut_of b from 0 (into - suc k) coming) j (cut_fits b from 0 (into - suc k) coming) above inside
    ∙ cut_symbol b from 0 (into - suc k) coming (j - suc k) (omega (arith, above, inside)) (omega (arith, above, within))
    ∙ ap (λ n. symbol b from coming n) (omega arith)

-- where no more come, it is 0
pub front_beyond : (b from into held word coming k j : ℕ) → k ≤ j → j < into → k + from ≤ j → symbol b into (front_at b from into held word coming k) j ≡ 0
front_beyond b from into held word coming zero j above inside beyond = cut_beyond b from 0 into coming j inside (omega (arith, beyond))
front_beyond b from into held word coming (suc k) j above inside beyond =
    ap (λ n. symbol b into n j) (front_some b from into held word coming (suc k) (λ none. (absurd (omega (arith, none)))))
    ∙ lower_symbol b into (suc k) (cut_of b held 0 (suc k) word) (cut_of b from 0 (into - suc k) coming) j (cut_fits b from 0 (into - suc k) coming) above inside
    ∙ cut_beyond b from 0 (into - suc k) coming (j - suc k) (omega (arith, above, inside)) (omega (arith, above, beyond))

-- a symbol that is left is one that comes
pub rest_symbol : (b from into held coming k j : ℕ) → j < held → (into - k) + j < from → symbol b held (rest_at b from into held coming k) j ≡ symbol b from coming ((into - k) + j)
rest_symbol b from into held coming k j inside within = cut_symbol b from (into - k) held coming j inside within

-- the choice by a count that isn't above the largest
pub chosen_is : (count : ℕ) (choice : ℕ → ℕ) (k : ℕ) → count ≤ k → chosen_at count choice k ≡ choice count
chosen_is count choice zero few = ap choice (omega (arith, few))
chosen_is count choice (suc k) few = by_count (chosen_is count choice k) (count == suc k) refl
  where
    by_count : (count ≤ k → chosen_at count choice k ≡ choice count) → (t : Bool) → (count == suc k) ≡ t → (if t then choice (suc k) else chosen_at count choice k) ≡ choice count
    by_count below true e = ap choice (sym (eqb-true count (suc k) e))
    by_count below false e = let apart : count ≡ suc k → ⊥ = (λ same. both_ways _ e (eq-eqb count (suc k) same)) in below (omega (arith, few, apart))

-- the choice by a count below the bound
pub below_is : (count : ℕ) (choice : ℕ → ℕ) (other k : ℕ) → count < k → chosen_below count choice other k ≡ choice count
below_is count choice other zero few = absurd (omega (arith, few))
below_is count choice other (suc k) few = by_count (below_is count choice other k) (count == k) refl
  where
    by_count : (count < k → chosen_below count choice other k ≡ choice count) → (t : Bool) → (count == k) ≡ t → (if t then choice k else chosen_below count choice other k) ≡ choice count
    by_count below true e = ap choice (sym (eqb-true count k e))
    by_count below false e = let apart : count ≡ k → ⊥ = (λ same. both_ways _ e (eq-eqb count k same)) in below (omega (arith, few, apart))

-- and by one that isn't
pub above_is : (count : ℕ) (choice : ℕ → ℕ) (other k : ℕ) → k ≤ count → chosen_below count choice other k ≡ other
above_is count choice other zero many = refl
above_is count choice other (suc k) many =
    ap (λ t. if t then choice k else chosen_below count choice other k) (ne_eqb count k (λ same. (absurd (omega (arith, many, same)))))
    ∙ above_is count choice other k (omega (arith, many))

-- nothing is left of a word of nothing
cut_none : (b size skipped wanted : ℕ) → cut_of b size skipped wanted 0 ≡ 0
cut_none b size skipped wanted = by_size (nat_le size skipped)
  where
    by_wanted : (t : Bool) → (if t then 0 / 2 ^ (b * (size - skipped - wanted)) % 2 ^ (b * wanted) else 0 % 2 ^ (b * (size - skipped)) * 2 ^ (b * (wanted - (size - skipped)))) ≡ 0
    by_wanted true = ap (λ n. n % 2 ^ (b * wanted)) (zero-div (2 ^ (b * (size - skipped - wanted)))) ∙ mod-eq_of_lt (pow_pos (b * wanted))
    by_wanted false = ap (λ n. n * 2 ^ (b * (wanted - (size - skipped)))) (mod-eq_of_lt (pow_pos (b * (size - skipped)))) ∙ omega arith

    by_size : (t : Bool) → (if t then 0 else (if nat_le wanted (size - skipped) then 0 / 2 ^ (b * (size - skipped - wanted)) % 2 ^ (b * wanted) else 0 % 2 ^ (b * (size - skipped)) * 2 ^ (b * (wanted - (size - skipped))))) ≡ 0
    by_size true = refl
    by_size false = by_wanted (nat_le wanted (size - skipped))

rest_none : (b from into held count k : ℕ) → chosen_at count (rest_at b from into held 0) k ≡ 0
rest_none b from into held count zero = cut_none b from (into - 0) held
rest_none b from into held count (suc k) = by_test (count == suc k) (rest_none b from into held count k)
  where
    by_test : (t : Bool) → chosen_at count (rest_at b from into held 0) k ≡ 0 → (if t then cut_of b from (into - suc k) held 0 else chosen_at count (rest_at b from into held 0) k) ≡ 0
    by_test true none = cut_none b from (into - suc k) held
    by_test false none = none

-- where no more is held than a beat has, what is left is the same whether it goes alone or a masked word comes
pub masked_rest : (b from into held count word coming k : ℕ) (alone : Bool) → held ≤ into →
    chosen_at count (rest_at b from into held (if alone then 0 else coming)) k ≡ (if alone then cut_of b held into held word else chosen_at count (rest_at b from into held coming) k)
masked_rest b from into held count word coming k true few = rest_none b from into held count k ∙ sym (ap (λ t. if t then 0 else (if nat_le held (held - into) then word / 2 ^ (b * (held - into - held)) % 2 ^ (b * held) else word % 2 ^ (b * (held - into)) * 2 ^ (b * (held - (held - into))))) (le-leb held into few))
masked_rest b from into held count word coming k false few = refl

-- and where more is held
pub chosen_rest : (b from into held count word coming k : ℕ) (alone : Bool) →
    (if alone then cut_of b held into held word else chosen_at count (rest_at b from into held (if alone then 0 else coming)) k) ≡ (if alone then cut_of b held into held word else chosen_at count (rest_at b from into held coming) k)
chosen_rest b from into held count word coming k true = refl
chosen_rest b from into held count word coming k false = refl
