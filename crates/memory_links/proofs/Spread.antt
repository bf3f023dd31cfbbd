-- Byte enables that stand on neighbouring places of a wide word: the lanes of each place in turn.
use Rattle.std.proofs.Common.{ℕ, zero, suc, ◌<◌, ◌≤◌, ◌≡◌, ◌+◌, ◌-◌, ◌*◌, ◌/◌, ◌%◌, ◌^◌, Bool, false, List, [], ◌∷◌, ◌++◌, if◌then◌else◌, arith, refl, sym, ap, ap₂, ◌∙◌, filter, nat_eq, append-nil, zero-mul, mul_assoc, mul-div_cancel}
use Rattle.std.proofs.lemmas.List.Elements.{filter-append}
use Rattle.std.proofs.lemmas.Nat.{pow-add}
use Rattle.std.proofs.Math.Nat.{add-mul-div_right, add-mul-mod_self_right, div-div-eq-div-mul, div-eq_of_lt, one-le-pow}
use Rattle.histories.specs.History.{numbers}
use Rattle.memory_runs.specs.Operations.{is_enabled}

-- ---- lanes below and above a place

-- below it, what stands from it on doesn't count
low_lane : (x y h lane : ℕ) → lane < h → is_enabled (x + y * 2 ^ h) lane ≡ is_enabled x lane
low_lane x y h lane less =
    let k = h - lane - 1 in
    let size : h ≡ suc k + lane = omega (arith, less) in
    let some : 0 < 2 ^ lane = one-le-pow lane 2 (omega arith) in
    let one : suc k ≡ k + 1 = omega arith in
    let high : y * 2 ^ h ≡ (y * 2 ^ k * 2) * 2 ^ lane =
    ap (λ n. y * 2 ^ n) size ∙ ap (λ n. y * n) (pow-add 2 (suc k) lane) ∙ sym (mul_assoc y (2 ^ suc k) (2 ^ lane))
    ∙ ap (λ n. y * n * 2 ^ lane) (ap (λ n. 2 ^ n) one ∙ pow-add 2 k 1) ∙ ap (λ n. n * 2 ^ lane) (sym (mul_assoc y (2 ^ k) 2)) in
    ap (λ n. nat_eq (n % 2) 1) (ap (λ n. (x + n) / 2 ^ lane) high ∙ add-mul-div_right x (y * 2 ^ k * 2) some)
    ∙ ap (λ n. nat_eq n 1) (add-mul-mod_self_right (x / 2 ^ lane) (y * 2 ^ k) 2)

-- from it on, what stands below doesn't
high_lane : (x y h lane : ℕ) → x < 2 ^ h → h ≤ lane → is_enabled (x + y * 2 ^ h) lane ≡ is_enabled (y * 2 ^ h) lane
high_lane x y h lane small more =
    let t = lane - h in
    let size : lane ≡ h + t = omega (arith, more) in
    let some : 0 < 2 ^ h = one-le-pow h 2 (omega arith) in
    let none : 0 + y ≡ y = omega arith in
    let cut : (x + y * 2 ^ h) / 2 ^ h ≡ y = add-mul-div_right x y some ∙ ap (λ n. n + y) (div-eq_of_lt small) ∙ none in
    let both : (z : ℕ) → z / 2 ^ lane ≡ z / 2 ^ h / 2 ^ t = λ z. ap (λ n. z / n) (ap (λ n. 2 ^ n) size ∙ pow-add 2 h t) ∙ sym (div-div-eq-div-mul z (2 ^ h) (2 ^ t)) in
    ap (λ n. nat_eq (n % 2) 1) (both (x + y * 2 ^ h) ∙ ap (λ n. n / 2 ^ t) (cut ∙ sym (mul-div_cancel y some)) ∙ sym (both (y * 2 ^ h)))

none_high : (x h lane : ℕ) → x < 2 ^ h → h ≤ lane → is_enabled x lane ≡ false
none_high x h lane small more =
    let none = zero-mul (2 ^ h) in
    let same : x + 0 * 2 ^ h ≡ x = omega (arith, none) in
    ap (λ n. is_enabled n lane) (sym same) ∙ high_lane x 0 h lane small more ∙ ap (λ n. is_enabled n lane) none ∙ no_lane lane
  where
    no_lane : (lane : ℕ) → is_enabled 0 lane ≡ false
    no_lane lane = ap (λ n. nat_eq (n % 2) 1) (div-eq_of_lt (one-le-pow lane 2 (omega arith)))

none_low : (y h lane : ℕ) → lane < h → is_enabled (y * 2 ^ h) lane ≡ false
none_low y h lane less =
    let none : 0 + y * 2 ^ h ≡ y * 2 ^ h = omega arith in
    ap (λ n. is_enabled n lane) (sym none) ∙ low_lane 0 y h lane less ∙ ap (λ n. nat_eq (n % 2) 1) (div-eq_of_lt (one-le-pow lane 2 (omega arith)))

-- ---- lists of lanes

filter_same : (f g : ℕ → Bool) (from count : ℕ) → ((i : ℕ) → from ≤ i → i < from + count → f i ≡ g i) → filter f (numbers from count) ≡ filter g (numbers from count)
filter_same f g from zero same = refl
filter_same f g from (suc count) same =
    ap₂ (λ b l. if b then from ∷ l else l) (same from (omega arith) (omega arith)) (filter_same f g (suc from) count (λ i low high. same i (omega (arith, low)) (omega (arith, high))))

filter_none : (f : ℕ → Bool) (from count : ℕ) → ((i : ℕ) → from ≤ i → i < from + count → f i ≡ false) → filter f (numbers from count) ≡ []
filter_none f from zero none = refl
filter_none f from (suc count) none =
    ap (λ b. if b then from ∷ filter f (numbers (suc from) count) else filter f (numbers (suc from) count)) (none from (omega arith) (omega arith))
    ∙ filter_none f (suc from) count (λ i low high. none i (omega (arith, low)) (omega (arith, high)))

pub numbers_split : (k a b : ℕ) → numbers k (a + b) ≡ numbers k a ++ numbers (k + a) b
numbers_split k zero b = let whole : 0 + b ≡ b = omega arith in let start : k ≡ k + 0 = omega arith in ap (numbers k) whole ∙ ap (λ n. numbers n b) start
numbers_split k (suc a) b =
    let size : suc a + b ≡ suc (a + b) = omega arith in
    let start : suc k + a ≡ k + suc a = omega arith in
    ap (numbers k) size ∙ ap (λ l. k ∷ l) (numbers_split (suc k) a b ∙ ap (λ n. numbers (suc k) a ++ numbers n b) start)

abbrev pub lanes : ℕ → ℕ → List ℕ
lanes wide enables = filter (is_enabled enables) (numbers 0 wide)

-- the lanes below a place, and then those from it on
pub lanes_split : (wide x y h : ℕ) → h ≤ wide → x < 2 ^ h → lanes wide (x + y * 2 ^ h) ≡ lanes wide x ++ lanes wide (y * 2 ^ h)
lanes_split wide x y h fits small =
    let parts : (e : ℕ) → lanes wide e ≡ filter (is_enabled e) (numbers 0 h) ++ filter (is_enabled e) (numbers h (wide - h)) =
    λ e. (let size : wide ≡ h + (wide - h) = omega (arith, fits) in let zeros : 0 + h ≡ h = omega arith in
    ap (λ n. filter (is_enabled e) (numbers 0 n)) size ∙ ap (filter (is_enabled e)) (numbers_split 0 h (wide - h) ∙ ap (λ n. numbers 0 h ++ numbers n (wide - h)) zeros)
    ∙ filter-append (is_enabled e) (numbers 0 h) (numbers h (wide - h))) in
    let one = parts (x + y * 2 ^ h)
    ∙ ap₂ (λ a b. a ++ b) (filter_same (is_enabled (x + y * 2 ^ h)) (is_enabled x) 0 h (λ i low high. low_lane x y h i (omega (arith, high))))
    (filter_same (is_enabled (x + y * 2 ^ h)) (is_enabled (y * 2 ^ h)) h (wide - h) (λ i low high. high_lane x y h i small low)) in
    let left : lanes wide x ≡ filter (is_enabled x) (numbers 0 h) =
    parts x ∙ ap (λ l. filter (is_enabled x) (numbers 0 h) ++ l) (filter_none (is_enabled x) h (wide - h) (λ i low high. none_high x h i small low)) ∙ append-nil _ in
    let right : lanes wide (y * 2 ^ h) ≡ filter (is_enabled (y * 2 ^ h)) (numbers h (wide - h)) =
    parts (y * 2 ^ h) ∙ ap (λ l. l ++ filter (is_enabled (y * 2 ^ h)) (numbers h (wide - h))) (filter_none (is_enabled (y * 2 ^ h)) 0 h (λ i low high. none_low y h i (omega (arith, high)))) in
    one ∙ sym (ap₂ (λ a b. a ++ b) left right)

pub no_lanes : (wide : ℕ) → lanes wide 0 ≡ []
no_lanes wide = filter_none (is_enabled 0) 0 wide (λ i low high. ap (λ n. nat_eq (n % 2) 1) (div-eq_of_lt (one-le-pow i 2 (omega arith))))
