-- One lane more.
use Rattle.std.proofs.Common.{◌≡◌, ℕ, zero, suc, ◌+◌, ◌-◌, ◌^◌, cond, false, List, ◌++◌, Result, Ok, Err, refl, sym, ap, ◌∙◌, append_assoc, arith}
use Rattle.std.specs.Prelude.{OnOk}
use Rattle.verilog_writer.specs.Text.{hex_digits}
use Rattle.packet_bytes.specs.Commands.{is_touched, lane_byte, enables_below, lanes_text}

pub enables_same : (word_bytes : ℕ) (bytes : List ℕ) (word lanes : ℕ) → (lanes ≡ 0 → ⊥) → is_touched word_bytes bytes word (lanes - 1) ≡ false
    → enables_below word_bytes bytes word (lanes - 1) ≡ enables_below word_bytes bytes word lanes
enables_same word_bytes bytes word zero n f = absurd (n refl)
enables_same word_bytes bytes word (suc k) n f =
    let e : suc k - 1 ≡ k = omega arith in
    let g : is_touched word_bytes bytes word k ≡ false = ap (is_touched word_bytes bytes word) (sym e) ∙ f in
    let z : enables_below word_bytes bytes word k ≡ enables_below word_bytes bytes word k + 0 = omega arith in
    ap (enables_below word_bytes bytes word) e ∙ z ∙ ap (λ b. enables_below word_bytes bytes word k + cond b (2 ^ k) 0) (sym g)

pub doubled : (lanes : ℕ) → (lanes ≡ 0 → ⊥) → 2 ^ lanes ≡ 2 ^ (lanes - 1) + 2 ^ (lanes - 1)
doubled zero n = absurd (n refl)
doubled (suc k) n =
    let e : suc k - 1 ≡ k = omega arith in
    let p : 2 ^ suc k ≡ 2 ^ k + 2 ^ k = omega arith in
    p ∙ ap (λ m. 2 ^ m + 2 ^ m) (sym e)

pub lanes_more : (word_bytes : ℕ) (bytes : List ℕ) (word lanes : ℕ) → (lanes ≡ 0 → ⊥)
    → hex_digits 2 (lane_byte word_bytes bytes word (lanes - 1)) ++ lanes_text word_bytes bytes word (lanes - 1) ≡ lanes_text word_bytes bytes word lanes
lanes_more word_bytes bytes word zero n = absurd (n refl)
lanes_more word_bytes bytes word (suc k) n =
    let e : suc k - 1 ≡ k = omega arith in
    ap (λ m. hex_digits 2 (lane_byte word_bytes bytes word m) ++ lanes_text word_bytes bytes word m) e

pub lanes_text_more : (old mid after : List ℕ) (n word_bytes : ℕ) (bytes : List ℕ) (word lanes : ℕ) → (lanes ≡ 0 → ⊥) → mid ≡ old ++ hex_digits 2 n → n ≡ lane_byte word_bytes bytes word (lanes - 1)
    → after ≡ mid ++ lanes_text word_bytes bytes word (lanes - 1) → after ≡ old ++ lanes_text word_bytes bytes word lanes
lanes_text_more old mid after n word_bytes bytes word lanes z m b a =
    a ∙ ap (λ t. t ++ lanes_text word_bytes bytes word (lanes - 1)) m ∙ append_assoc old (hex_digits 2 n) (lanes_text word_bytes bytes word (lanes - 1))
    ∙ ap (λ x. old ++ (hex_digits 2 x ++ lanes_text word_bytes bytes word (lanes - 1))) b ∙ ap (λ t. old ++ t) (lanes_more word_bytes bytes word lanes z)

pub on_ok : {T E : Type 0} (r : Result T E) (P Q : Type 0) → (P → Q) → OnOk r P → OnOk r Q
on_ok (Ok x) P Q f p = f p
on_ok (Err e) P Q f p = tt
