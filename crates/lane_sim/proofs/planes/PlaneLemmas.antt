-- What an operation on eight numbers gives in a lane.
use Rattle.std.proofs.Common.{◌≡◌, ℕ, ◌+◌, ◌-◌, ◌*◌, ◌/◌, ◌%◌, ◌^◌, ◌<◌, ◌≤◌, Bool, true, false, cond, not, List, [], ◌∷◌, length, zero, suc, get_or, replicate, map, refl, sym, subst, ap, ◌∙◌, arith, eqb, w64}
use Rattle.std.proofs.Math.Nat.{mod-lt, div-le_self, zero-div}
use Rattle.std.proofs.lemmas.Bool.{eqb-true, eq-eqb}
use Rattle.std.proofs.lemmas.Nat.{or_lt, xor_lt, and_mask, pow_pos}
use Rattle.std.proofs.lemmas.Nat.Bits.{ones_shr}
use Rattle.std.specs.Int.Bits.{and_le_l}
use Rattle.std.proofs.lemmas.Simd.{tops_compared, length-zip2, length-sel_l, get_or-sel_l, get_or-zip2, get_or-replicate, length-replicate, mask_l-mod, bit_mask_l}
use Rattle.std.specs.Simd.Lanes.{zip2, sel_l, mask_l, top}
use Rattle.std.specs.Prelude.{bit_and, bit_or, bit_xor, if◌then◌else◌, IsTrue, ◌↔◌}
use Rattle.lane_sim.specs.Planes.{AreLanes, lane}

pub lane-zip2 : (f : ℕ → ℕ → ℕ) (xs ys : List ℕ) (j : ℕ) → AreLanes 64 xs → AreLanes 64 ys → j < 8 → lane (zip2 f xs ys) j ≡ f (lane xs j) (lane ys j)
lane-zip2 f xs ys j h k lt = get_or-zip2 f xs ys j 0 0 0 (let c = h.count in omega arith) (let c = k.count in omega arith)

pub lanes-zip2 : (f : ℕ → ℕ → ℕ) (xs ys : List ℕ) → AreLanes 64 xs → AreLanes 64 ys → ((a b : ℕ) → a < 2 ^ 64 → b < 2 ^ 64 → f a b < 2 ^ 64) → AreLanes 64 (zip2 f xs ys)
lanes-zip2 f xs ys h k fits = record {
  count = length-zip2 f xs ys (h.count ∙ sym k.count) ∙ h.count;
  fit = λ j lt. subst (λ n. n < 2 ^ 64) (sym (lane-zip2 f xs ys j h k lt)) (fits (lane xs j) (lane ys j) (h.fit j lt) (k.fit j lt));
}

-- one number in each lane
pub lane-splat : (n j : ℕ) → j < 8 → lane (replicate 8 n) j ≡ n
lane-splat n j lt = get_or-replicate 8 j n 0 lt

pub lanes-splat : (n : ℕ) → n < 2 ^ 64 → AreLanes 64 (replicate 8 n)
lanes-splat n fits = record {
  count = length-replicate 8 n;
  fit = λ j lt. subst (λ x. x < 2 ^ 64) (sym (lane-splat n j lt)) fits;
}

pub and_below : (a b : ℕ) → a < 2 ^ 64 → b < 2 ^ 64 → bit_and a b < 2 ^ 64
and_below a b h k = let le = and_le_l a b in omega arith

pub or_below : (a b : ℕ) → a < 2 ^ 64 → b < 2 ^ 64 → bit_or a b < 2 ^ 64
or_below a b h k = or_lt 64 a b h k

pub xor_below : (a b : ℕ) → a < 2 ^ 64 → b < 2 ^ 64 → bit_xor a b < 2 ^ 64
xor_below a b h k = xor_lt 64 a b h k

pub mod_below : (n : ℕ) → n % 2 ^ 64 < 2 ^ 64
mod_below n = mod-lt n (omega arith)

pub div_below : (a b : ℕ) → a < 2 ^ 64 → a / b < 2 ^ 64
div_below a b h = let le = div-le_self a b in omega arith

-- of two lists lane by lane, by a comparison of two others
abbrev pub chosen : (ℕ → ℕ → Bool) → List ℕ → List ℕ → List ℕ → List ℕ → List ℕ
chosen t xs ys zs ws = sel_l (map (top 63) (zip2 (λ a b. cond (t a b) (2 ^ 64 - 1) 0) xs ys)) zs ws

chosen_is : (t : ℕ → ℕ → Bool) (xs ys zs ws : List ℕ) → chosen t xs ys zs ws ≡ sel_l (zip2 t xs ys) zs ws
chosen_is t xs ys zs ws = ap (λ ms. sel_l ms zs ws) (tops_compared w64 t xs ys)

pub lane-chosen : (t : ℕ → ℕ → Bool) (xs ys zs ws : List ℕ) (j : ℕ) → AreLanes 64 xs → AreLanes 64 ys → AreLanes 64 zs → AreLanes 64 ws → j < 8 →
    lane (chosen t xs ys zs ws) j ≡ cond (t (lane xs j) (lane ys j)) (lane zs j) (lane ws j)
lane-chosen t xs ys zs ws j h k l m lt =
    let long = length-zip2 t xs ys (h.count ∙ sym k.count) in
    let a = h.count in
    let b = k.count in
    let c = l.count in
    let d = m.count in
    ap (λ ns. lane ns j) (chosen_is t xs ys zs ws) ∙ get_or-sel_l (zip2 t xs ys) zs ws j 0 (omega arith) (omega arith) (omega arith)
    ∙ ap (λ b. cond b (lane zs j) (lane ws j)) (get_or-zip2 t xs ys j 0 0 false (omega arith) (omega arith))

cond_below : (b : Bool) (x y : ℕ) → x < 2 ^ 64 → y < 2 ^ 64 → cond b x y < 2 ^ 64
cond_below true x y h k = h
cond_below false x y h k = k

pub lanes-chosen : (t : ℕ → ℕ → Bool) (xs ys zs ws : List ℕ) → AreLanes 64 xs → AreLanes 64 ys → AreLanes 64 zs → AreLanes 64 ws → AreLanes 64 (chosen t xs ys zs ws)
lanes-chosen t xs ys zs ws h k l m = record {
  count = ap length (chosen_is t xs ys zs ws)
      ∙ (let long = length-zip2 t xs ys (h.count ∙ sym k.count) in let a = h.count in let c = l.count in let d = m.count in
      omega (arith, length-sel_l (zip2 t xs ys) zs ws (omega arith) (omega arith)));
  fit = λ j lt. subst (λ n. n < 2 ^ 64) (sym (lane-chosen t xs ys zs ws j h k l m lt)) (cond_below (t (lane xs j) (lane ys j)) (lane zs j) (lane ws j) (l.fit j lt) (m.fit j lt));
}

-- 1 where the comparison holds, else 0
pub lane-tested : (t : ℕ → ℕ → Bool) (xs ys x y : List ℕ) (j : ℕ) → AreLanes 64 xs → AreLanes 64 ys → xs ≡ x → ys ≡ y → j < 8 →
    lane (chosen t xs ys (replicate 8 1) (replicate 8 0)) j ≡ (if t (lane x j) (lane y j) then 1 else 0)
lane-tested t xs ys x y j h k ex ey lt =
    lane-chosen t xs ys (replicate 8 1) (replicate 8 0) j h k (lanes-splat 1 (omega arith)) (lanes-splat 0 (omega arith)) lt
    ∙ ap (λ n. cond (t (lane xs j) (lane ys j)) n (lane (replicate 8 0) j)) (lane-splat 1 j lt)
    ∙ ap (λ n. cond (t (lane xs j) (lane ys j)) 1 n) (lane-splat 0 j lt)
    ∙ ap (λ n. cond (t (lane n j) (lane ys j)) 1 0) ex
    ∙ ap (λ n. cond (t (lane x j) (lane n j)) 1 0) ey

-- by a number in each lane that is compared with 0
pub lane-picked : (xs zs ws x z w : List ℕ) (j : ℕ) → AreLanes 64 xs → AreLanes 64 zs → AreLanes 64 ws → xs ≡ x → zs ≡ z → ws ≡ w → j < 8 →
    lane (chosen eqb xs (replicate 8 0) zs ws) j ≡ (if eqb (lane x j) 0 then lane z j else lane w j)
lane-picked xs zs ws x z w j h k l ex ez ew lt =
    lane-chosen eqb xs (replicate 8 0) zs ws j h (lanes-splat 0 (omega arith)) k l lt
    ∙ ap (λ n. cond (eqb (lane xs j) n) (lane zs j) (lane ws j)) (lane-splat 0 j lt)
    ∙ ap (λ n. cond (eqb (lane n j) 0) (lane zs j) (lane ws j)) ex
    ∙ ap (λ n. cond (eqb (lane x j) 0) (lane n j) (lane ws j)) ez
    ∙ ap (λ n. cond (eqb (lane x j) 0) (lane z j) (lane n j)) ew

-- an operation with one number in each lane
pub lane-with : (f : ℕ → ℕ → ℕ) (xs x : List ℕ) (n j : ℕ) → AreLanes 64 xs → xs ≡ x → n < 2 ^ 64 → j < 8 → lane (zip2 f xs (replicate 8 n)) j ≡ f (lane x j) n
lane-with f xs x n j h ex fits lt =
    lane-zip2 f xs (replicate 8 n) j h (lanes-splat n fits) lt ∙ ap (f (lane xs j)) (lane-splat n j lt) ∙ ap (λ ns. f (lane ns j) n) ex

-- ---- whether two lists are the same

abbrev differ : ℕ → ℕ → Bool
differ a b = not (eqb a b)

no_mask : (ms : List Bool) → ((j : ℕ) → j < length ms → get_or ms j false ≡ false) → mask_l ms ≡ 0
no_mask [] none = refl
no_mask (m ∷ ms) none =
    let rest = no_mask ms (λ j lt. none (suc j) (omega arith)) in
    let first : m ≡ false = none 0 (omega arith) in
    rw (first, rest) refl

false_bit : (b : Bool) (n : ℕ) → n ≡ cond b 1 0 → n ≡ 0 → b ≡ false
false_bit true n e z = absurd (omega arith)
false_bit false n e z = refl

same_number : (a b : ℕ) → not (eqb a b) ≡ false → a ≡ b
same_number a b e = by_test (eqb a b) refl e where
  by_test : (t : Bool) → eqb a b ≡ t → not t ≡ false → a ≡ b
  by_test true is e = eqb-true a b is
  by_test false is e = cc

abbrev mask_of : List ℕ → List ℕ → ℕ
mask_of xs ys = mask_l (map (top 63) (zip2 (λ a b. cond (differ a b) (2 ^ 64 - 1) 0) xs ys)) % 2 ^ 64

mask_is : (xs ys : List ℕ) → AreLanes 64 xs → AreLanes 64 ys → mask_of xs ys ≡ mask_l (zip2 differ xs ys)
mask_is xs ys h k =
    let long = length-zip2 differ xs ys (h.count ∙ sym k.count) in
    let c = h.count in
    ap (λ ms. mask_l ms % 2 ^ 64) (tops_compared w64 differ xs ys) ∙ mask_l-mod (zip2 differ xs ys) 64 (omega arith)

bit_is : (xs ys : List ℕ) (j : ℕ) → AreLanes 64 xs → AreLanes 64 ys → j < 8 → get_or (zip2 differ xs ys) j false ≡ differ (lane xs j) (lane ys j)
bit_is xs ys j h k lt = get_or-zip2 differ xs ys j 0 0 false (let c = h.count in omega arith) (let c = k.count in omega arith)

pub same_lanes : (xs ys x y : List ℕ) → AreLanes 64 xs → AreLanes 64 ys → xs ≡ x → ys ≡ y → IsTrue (eqb (mask_of xs ys) 0) ↔ ((j : ℕ) → j < 8 → lane x j ≡ lane y j)
same_lanes xs ys x y h k ex ey = (
  λ t j lt.
      let none : mask_l (zip2 differ xs ys) ≡ 0 = sym (mask_is xs ys h k) ∙ eqb-true _ 0 t in
      let bit : 0 / 2 ^ j % 2 ≡ cond (get_or (zip2 differ xs ys) j false) 1 0 = ap (λ n. n / 2 ^ j % 2) (sym none) ∙ bit_mask_l (zip2 differ xs ys) j in
      let zeroed : 0 / 2 ^ j % 2 ≡ 0 = ap (λ n. n % 2) (zero-div (2 ^ j)) in
      let is : get_or (zip2 differ xs ys) j false ≡ false = false_bit _ (0 / 2 ^ j % 2) bit zeroed in
      sym (ap (λ ns. lane ns j) ex) ∙ same_number (lane xs j) (lane ys j) (sym (bit_is xs ys j h k lt) ∙ is) ∙ ap (λ ns. lane ns j) ey,
  λ same.
      let long = length-zip2 differ xs ys (h.count ∙ sym k.count) in
      let c = h.count in
      eq-eqb _ 0 (mask_is xs ys h k ∙ no_mask (zip2 differ xs ys) (λ j lt.
      let below : j < 8 = omega arith in
      let e : lane xs j ≡ lane ys j = ap (λ ns. lane ns j) ex ∙ same j below ∙ sym (ap (λ ns. lane ns j) ey) in
      bit_is xs ys j h k below ∙ ap not (eq-eqb (lane xs j) (lane ys j) e))),
)

-- ---- numbers of so many bits

pub greatest_lem : (w : ℕ) → 1 ≤ w → w ≤ 64 → 18446744073709551615 / 2 ^ (64 - w) + 1 ≡ 2 ^ w
greatest_lem w h k =
    let e : (2 ^ 64 - 1) / 2 ^ (64 - w) ≡ 2 ^ (64 - (64 - w)) - 1 = ones_shr 64 (64 - w) (omega arith) in
    let f : 64 - (64 - w) ≡ w = omega arith in
    let g : (2 ^ 64 - 1) / 2 ^ (64 - w) ≡ 2 ^ w - 1 = e ∙ ap (λ n. 2 ^ n - 1) f in
    let p : 0 < 2 ^ w = pow_pos w in
    let q : 2 ^ w - 1 + 1 ≡ 2 ^ w = omega arith in
    ap (λ n. n + 1) g ∙ q

pub masked : (n m k : ℕ) → m + 1 ≡ 2 ^ k → bit_and n m ≡ n % 2 ^ k
masked n m k e =
    let f : m ≡ 2 ^ k - 1 = omega arith in
    ap (bit_and n) f ∙ and_mask n k
