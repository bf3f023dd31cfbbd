-- What the nets between narrow words and wide ones are as numbers. No contract reads a proof of these.
use Rattle.std.proofs.Common.{◌≡◌, ℕ, zero, suc, ◌+◌, ◌-◌, ◌*◌, ◌/◌, ◌%◌, ◌^◌, ◌<◌, ◌≤◌, Bool, true, false, not, ◌&&◌, ◌||◌, nat_lt, if◌then◌else◌, refl, sym, subst, ap, ap₂, ◌∙◌, arith, zero-mul, one-mul, add-mul, mul_assoc, mul-le-mul_right, mul-div_cancel}
use Rattle.std.proofs.lemmas.Nat.{pow-add, pow_pos, mod-mul-add}
use Rattle.std.proofs.lemmas.Bool.{ltb-true, ltb-false}
use Rattle.std.proofs.Math.Nat.{pow-suc, mod-eq_of_lt, mod-lt, div-lt_iff_lt-mul, div-eq_of_lt, mul_comm, mul_right_comm, div-div-eq-div-mul, mod-eq-sub-div-mul, div-mul-le_self}
use Rattle.std.proofs.Math.Pow.{pow_mono, pow-lt}
use Rattle.histories.specs.History.{is_raised}
use Rattle.command_nets.specs.Levels.{bit_same}
use Rattle.command_nets.specs.Nets.{Widths}
use Rattle.iface_roles.specs.Proper.{IsWordSize}
use Rattle.memory_runs.specs.Views.{Levels}
use Rattle.memory_runs.specs.Commands.{byte_address}
use Rattle.memory_links.specs.Selects.{selected, silenced, offset_in, repeated}
use Rattle.mm_select.specs.SelectNets.{bytes_shape}

pub byte_powers : (bytes : ℕ) → 2 ^ (bytes * 8) ≡ 256 ^ bytes
byte_powers zero = refl
byte_powers (suc bytes) =
    let more : suc bytes * 8 ≡ bytes * 8 + 8 = omega arith in
    ap (λ n. 2 ^ n) more ∙ pow-add 2 (bytes * 8) 8 ∙ ap (λ n. n * 256) (byte_powers bytes) ∙ sym (pow-suc 256 bytes)

-- ---- bits

pub raised_if : (x : Bool) (r : ℕ) → is_raised (if x then 0 else r) ≡ (if x then false else is_raised r)
raised_if true r = refl
raised_if false r = refl

-- a read is taken below exactly where one is taken above
pub asked_bits : (x r w k : Bool) → (((if x then false else r) && not w) && not k) ≡ (((r || w) && not (x || k)) && not w)
asked_bits true true true k = refl
asked_bits true true false k = refl
asked_bits true false true k = refl
asked_bits true false false k = refl
asked_bits false true true true = refl
asked_bits false true true false = refl
asked_bits false true false true = refl
asked_bits false true false false = refl
asked_bits false false true true = refl
asked_bits false false true false = refl
asked_bits false false false k = refl

pub let_through : (x r w k : Bool) → (((if x then false else r) && not w) && not k) ≡ true → (x ≡ false) × (w ≡ false)
let_through true r w k e = cc
let_through false true true k e = cc
let_through false true false k e = (refl, refl)
let_through false false w k e = cc

pub and_turned : (a b : Bool) → (a && b) ≡ (b && a)
and_turned true true = refl
and_turned true false = refl
and_turned false true = refl
and_turned false false = refl

-- as many as the bound
pub full_bit : (n bound f : ℕ) → 1 ≤ bound → f ≡ (if nat_lt (bound - 1) n then 1 else 0) → is_raised f ≡ not (nat_lt n bound)
full_bit n bound f some e = by_case (nat_lt n bound) (nat_lt (bound - 1) n) refl refl
  where
    by_case : (t s : Bool) → nat_lt n bound ≡ t → nat_lt (bound - 1) n ≡ s → is_raised f ≡ not t
    by_case true true below above =
        absurd (let low = ltb-true n bound below in let high = ltb-true (bound - 1) n above in omega (arith, low, high))
    by_case true false below above = ap is_raised (e ∙ ap (λ t. if t then 1 else 0) above)
    by_case false true below above = ap is_raised (e ∙ ap (λ t. if t then 1 else 0) above)
    by_case false false below above =
        absurd (let low = ltb-false n bound below in let high = ltb-false (bound - 1) n above in omega (arith, low, high, some))

pub aligned_none : (lanes address low : ℕ) → address < 2 ^ lanes → low ≡ 0 → low ≡ address / 2 ^ lanes * 2 ^ lanes
aligned_none lanes address low few e = e ∙ sym (ap (λ n. n * 2 ^ lanes) (div-eq_of_lt few) ∙ zero-mul (2 ^ lanes))

pub aligned : (width same lanes low_width address high low made : ℕ) → same ≡ width → lanes < width → low_width ≡ lanes
    → address < 2 ^ width → high ≡ address / 2 ^ lanes % 2 ^ (same - 1 - lanes + 1) → low ≡ 0 → made ≡ high * 2 ^ low_width + low
    → made ≡ address / 2 ^ lanes * 2 ^ lanes
aligned width same lanes low_width address high low made is some wide fits e f g =
    let size : width ≡ (width - lanes) + lanes = omega (arith, some) in
    let rest : same - 1 - lanes + 1 ≡ width - lanes = omega (arith, is, some) in
    let below : address / 2 ^ lanes < 2 ^ (width - lanes) = (div-lt_iff_lt-mul (pow_pos lanes)).1 (subst
    (λ k. address < k) (ap (λ n. 2 ^ n) size ∙ pow-add 2 (width - lanes) lanes) fits) in
    let high_is : high ≡ address / 2 ^ lanes = e ∙ ap (λ k. address / 2 ^ lanes % 2 ^ k) rest ∙ mod-eq_of_lt below in
    let plain : high * 2 ^ lanes + 0 ≡ high * 2 ^ lanes = omega arith in
    g ∙ ap₂ (λ n k. high * 2 ^ n + k) wide f ∙ plain ∙ ap (λ n. n * 2 ^ lanes) high_is

-- a read, unless it is shut out
pub sent_read : (read shut sent : ℕ) → read < 2 → sent < 2 → is_raised sent ≡ (is_raised read && not (is_raised shut))
    → sent ≡ (if is_raised shut then 0 else read)
sent_read read shut sent h k e = by_shut (is_raised shut) e
  where
    none : (b : Bool) → (b && false) ≡ false
    none true = refl
    none false = refl

    all : (b : Bool) → (b && true) ≡ b
    all true = refl
    all false = refl

    by_shut : (b : Bool) → is_raised sent ≡ (is_raised read && not b) → sent ≡ (if b then 0 else read)
    by_shut true f = bit_same sent 0 k (omega arith) (f ∙ none (is_raised read))
    by_shut false f = bit_same sent read k h (f ∙ all (is_raised read))

-- ---- places and sizes

pub lanes_order : (n w first lanes : ℕ) → n ≡ 2 ^ first → w ≡ 2 ^ lanes → n < w → first < lanes
lanes_order n w first lanes e f less = by_case (nat_lt first lanes) refl
  where
    by_case : (t : Bool) → nat_lt first lanes ≡ t → first < lanes
    by_case true below = ltb-true first lanes below
    by_case false above =
        absurd
        (let high = ltb-false first lanes above in
        let power : 2 ^ lanes ≤ 2 ^ first = pow_mono high in omega (arith, e, f, less, power))

pub ratio_is : (n w first lanes width : ℕ) → n ≡ 2 ^ first → w ≡ 2 ^ lanes → first < lanes → width ≡ lanes - 1 - first + 1
    → w ≡ n * 2 ^ width
ratio_is n w first lanes width e f less is =
    let sum : lanes ≡ first + width = omega (arith, is, less) in
    f ∙ ap (λ k. 2 ^ k) sum ∙ pow-add 2 first width ∙ ap (λ k. k * 2 ^ width) (sym e)

-- the place of a whole narrow word in its wide word
place_of : (x narrow many wide : ℕ) → 0 < narrow → 0 < many → wide ≡ many * narrow
    → (x - x % narrow) % wide ≡ (x / narrow % many) * narrow
place_of x narrow many wide some more whole =
    let k = x / narrow in
    let multiple : x - x % narrow ≡ k * narrow = (let low = mod-eq-sub-div-mul x narrow in let fits = div-mul-le_self x narrow in omega (arith, low, fits)) in
    let r = k % many in
    let few : r < many = mod-lt k more in
    let parts : k ≡ k / many * many + r = (let low = mod-eq-sub-div-mul k many in let fits = div-mul-le_self k many in omega (arith, low, fits)) in
    let spread : (k / many * many + r) * narrow ≡ k / many * (many * narrow) + r * narrow = add-mul (k / many * many) r narrow ∙ ap
    (λ n. n + r * narrow) (mul_assoc (k / many) many narrow) in
    let step : (r + 1) * narrow ≤ many * narrow = mul-le-mul_right narrow (omega (arith, few)) in
    let last : (r + 1) * narrow ≡ r * narrow + narrow = add-mul r 1 narrow ∙ ap (λ n. r * narrow + n) (one-mul narrow) in
    ap₂ (λ a b. a % b) multiple whole ∙ ap (λ n. (n * narrow) % (many * narrow)) parts ∙ ap (λ n. n % (many * narrow)) spread
    ∙ mod-mul-add (k / many) (many * narrow) (r * narrow) (omega (arith, step, last, some))

module _ (n w first lanes width a : ℕ) (e : n ≡ 2 ^ first) (f : w ≡ 2 ^ lanes) (less : first < lanes)
    (is : width ≡ lanes - 1 - first + 1) where
  ratio : w ≡ n * 2 ^ width
  ratio = ratio_is n w first lanes width e f less is

  turned : w ≡ 2 ^ width * n
  turned = ratio ∙ mul_comm n (2 ^ width)

  some : 0 < n
  some = subst (λ k. 0 < k) (sym e) (pow_pos first)

  unit : a * 1 ≡ a
  unit = omega arith

  pub offset_is : (a * 1 - (a * 1) % n) % w ≡ (a / n % 2 ^ width) * n
  offset_is = ap (λ x. (x - x % n) % w) unit ∙ place_of a n (2 ^ width) w some (pow_pos width) turned

  pub place_is : (place : ℕ) → place ≡ a / 2 ^ first % 2 ^ (lanes - 1 - first + 1) → place * n ≡ (a * 1 - (a * 1) % n) % w
  place_is place g = ap (λ k. k * n) (g ∙ ap₂ (λ x k. a / x % 2 ^ k) (sym e) (sym is)) ∙ sym offset_is

  pub address_is : a / 2 ^ lanes * 2 ^ lanes ≡ (a * 1 - (a * 1) % n) - (a * 1 - (a * 1) % n) % w
  address_is =
      let x = a / n * n in
      let multiple : a - a % n ≡ x = (let low = mod-eq-sub-div-mul a n in let fits = div-mul-le_self a n in omega (arith, low, fits)) in
      let whole : x - x % w ≡ x / w * w = (let low = mod-eq-sub-div-mul x w in let fits = div-mul-le_self x w in omega (arith, low, fits)) in
      let cut : x / w ≡ a / w = ap (λ k. x / k) ratio ∙ sym (div-div-eq-div-mul x n (2 ^ width)) ∙ ap
      (λ k. k / 2 ^ width) (mul-div_cancel (a / n) some) ∙ div-div-eq-div-mul a n (2 ^ width) ∙ ap (λ k. a / k) (sym ratio) in
      sym
      (ap (λ k. (k - k % n) - (k - k % n) % w) unit ∙ ap (λ k. k - k % w) multiple ∙ whole ∙ ap (λ k. k * w) cut
      ∙ ap (λ k. a / k * k) f)

  pub many_is : w / n ≡ 2 ^ width
  many_is = ap (λ k. k / n) turned ∙ mul-div_cancel (2 ^ width) some

-- ---- the beat of the wide word

abbrev levels_from : ℕ → ℕ → ℕ → ℕ → ℕ → ℕ → Levels
levels_from r w a d e c = record { read = r; write = w; address = a; word = d; enables = e; count = c }

pub levels_is : (to from : Levels) (n w : ℕ) (b : Bool) → to.read ≡ (if b then 0 else from.read) → to.write ≡ from.write →
    to.address ≡ byte_address (bytes_shape n) from.address - offset_in (bytes_shape n) (bytes_shape w) from.address
    → to.word ≡ repeated n (w / n) from.word →
    to.enables ≡ from.enables * 2 ^ offset_in (bytes_shape n) (bytes_shape w) from.address → to.count ≡ 1
    → to ≡ silenced b (selected (bytes_shape n) (bytes_shape w) from)
levels_is to from n w b r wr a d e c =
    let goal = silenced b (selected (bytes_shape n) (bytes_shape w) from) in
    ap₂ (λ x y. levels_from x y to.address to.word to.enables to.count) r wr
    ∙ ap₂ (λ x y. levels_from goal.read goal.write x y to.enables to.count) a d
    ∙ ap₂ (λ x y. levels_from goal.read goal.write goal.address goal.word x y) e c

pub in_bytes : (word bytes place : ℕ)
    → word / 2 ^ (bytes * 8 * place) % 2 ^ (bytes * 8) ≡ word / 256 ^ (place * bytes) % 256 ^ bytes
in_bytes word bytes place =
    let product : bytes * 8 * place ≡ place * bytes * 8 = mul_comm (bytes * 8) place ∙ sym (mul_assoc place bytes 8) in
    ap₂ (λ x y. word / x % y) (ap (λ k. 2 ^ k) product ∙ byte_powers (place * bytes)) (byte_powers bytes)

pub sizes_times : (n w bits : ℕ) → w ≡ n * 2 ^ bits → n * 8 * 2 ^ bits ≡ w * 8
sizes_times n w bits e = mul_right_comm n 8 (2 ^ bits) ∙ ap (λ k. k * 8) (sym e)

pub word_size_few : (w : ℕ) → IsWordSize w → w ≤ 16
word_size_few w size = let power : 2 ^ size.exponent ≤ 16 = pow_mono size.small in let is = size.power in omega (arith, is, power)

pub word_size_some : (w : ℕ) → IsWordSize w → 1 ≤ w
word_size_some w size = subst (λ k. 0 < k) (sym size.power) (pow_pos size.exponent)

pub lanes_reach : (w lanes address : ℕ) → w ≡ 2 ^ lanes → w ≤ 2 ^ address → lanes ≤ address
lanes_reach w lanes address e reach = by_case (nat_lt address lanes) refl
  where
    by_case : (t : Bool) → nat_lt address lanes ≡ t → lanes ≤ address
    by_case true above =
        absurd (let less = ltb-true address lanes above in let power = pow-lt less in omega (arith, e, reach, power))
    by_case false below = ltb-false address lanes below

abbrev widths_from : ℕ → ℕ → ℕ → ℕ → ℕ → Widths
widths_from a w e k t = record { address = a; word = w; enables = e; count = k; tag = t }

pub widths_are : (a w e k t b v f l u : ℕ) → a ≡ b → w ≡ v → e ≡ f → k ≡ l → t ≡ u → widths_from a w e k t ≡ widths_from b v f l u
widths_are a w e k t b v f l u p q r s y =
    ap₂ (λ x z. widths_from x z e k t) p q ∙ ap₂ (λ x z. widths_from b v x z t) r s ∙ ap (widths_from b v f l) y
