-- The lanes of the words of transactions.
use Rattle.std.proofs.Common.{◌≡◌, ℕ, zero, suc, ◌+◌, ◌-◌, ◌*◌, ◌^◌, ◌<◌, ◌≤◌, Bool, true, false, cond, List, length, refl, sym, ap, subst, ◌∙◌, length-append, arith}
use Rattle.std.specs.Prelude.{slice_index}
use Rattle.std.specs.List.{list_all}
use Rattle.std.proofs.lemmas.Bool.{lt-ltb, le-leb}
use Rattle.std.proofs.Math.Nat.{mul-le-mul_right}
use Rattle.waves.specs.Digits.{is_digit, number_behind}
use Rattle.verilog_writer.specs.Text.{hex_digits}
use Rattle.packet_bytes.specs.Codes.{size_in}
use Rattle.packet_bytes.specs.Counts.{words_of}
use Rattle.packet_bytes.specs.Commands.{first_lane, lane_at, is_touched, lane_byte, enables_below, lanes_text}
use Rattle.scenario_runs.specs.Commands.{word_below}
use Rattle.scenario_runs.proofs.transfers.Numbers.{both_pass, behind_more, hexes_behind, hexes_are_digits, length-hex_digits}

-- bytes are below 256
abbrev pub AreBytes : List ℕ → Type 0
AreBytes bytes = (i : ℕ) → slice_index bytes i < 256

lane_small : (word_bytes : ℕ) (bytes : List ℕ) (word lane : ℕ) (touched : Bool) → AreBytes bytes → cond touched (slice_index bytes (8 + (lane_at word_bytes word lane - first_lane word_bytes bytes))) 0 < 256
lane_small word_bytes bytes word lane true are = are _
lane_small word_bytes bytes word lane false are = omega arith

pub byte_small : (word_bytes : ℕ) (bytes : List ℕ) (word lane : ℕ) → AreBytes bytes → lane_byte word_bytes bytes word lane < 256
byte_small word_bytes bytes word lane are = lane_small word_bytes bytes word lane (is_touched word_bytes bytes word lane) are

-- ---- words

more_256 : (k : ℕ) → 256 ^ suc k ≡ 256 * 256 ^ k
more_256 k = omega arith

more_2 : (k : ℕ) → 2 ^ suc k ≡ 2 * 2 ^ k
more_2 k = omega arith

put_on : (before byte k more below : ℕ) → more ≡ 256 * k → (before * 256 + byte) * k + below ≡ before * more + (below + byte * k)
put_on before byte k more below e = rw e (omega arith)

pub lanes_behind : (word_bytes : ℕ) (bytes : List ℕ) (word before lanes : ℕ) → AreBytes bytes
    → number_behind 16 before (lanes_text word_bytes bytes word lanes) ≡ before * 256 ^ lanes + word_below word_bytes bytes word lanes
lanes_behind word_bytes bytes word before zero are = omega arith
lanes_behind word_bytes bytes word before (suc lane) are =
    let byte = lane_byte word_bytes bytes word lane in
    let small = byte_small word_bytes bytes word lane are in
    let two : 16 ^ 2 ≡ 256 = refl in
    behind_more 16 before (hex_digits 2 byte) (lanes_text word_bytes bytes word lane)
    ∙ ap (λ (n : ℕ). number_behind 16 n (lanes_text word_bytes bytes word lane)) (hexes_behind before 2 byte small)
    ∙ lanes_behind word_bytes bytes word (before * 256 + byte) lane are
    ∙ put_on before byte (256 ^ lane) (256 ^ suc lane) (word_below word_bytes bytes word lane) (more_256 lane)

stays : (byte k more below : ℕ) → more ≡ 256 * k → byte < 256 → below < k → below + byte * k < more
stays byte k more below e small less =
    let most : byte * k ≤ 255 * k = mul-le-mul_right k (omega (arith, small)) in
    rw e (omega arith)

pub word_small : (word_bytes : ℕ) (bytes : List ℕ) (word lanes : ℕ) → AreBytes bytes → word_below word_bytes bytes word lanes < 256 ^ lanes
word_small word_bytes bytes word zero are = omega arith
word_small word_bytes bytes word (suc lane) are =
    stays (lane_byte word_bytes bytes word lane) (256 ^ lane) (256 ^ suc lane) (word_below word_bytes bytes word lane) (more_256 lane) (byte_small word_bytes bytes word lane are) (word_small word_bytes bytes word lane are)

pub length-lanes_text : (word_bytes : ℕ) (bytes : List ℕ) (word lanes : ℕ) → length (lanes_text word_bytes bytes word lanes) ≡ 2 * lanes
length-lanes_text word_bytes bytes word zero = refl
length-lanes_text word_bytes bytes word (suc lane) =
    length-append (hex_digits 2 (lane_byte word_bytes bytes word lane)) (lanes_text word_bytes bytes word lane)
    ∙ omega (arith, length-lanes_text word_bytes bytes word lane, length-hex_digits 2 (lane_byte word_bytes bytes word lane))

pub lanes_are_digits : (word_bytes : ℕ) (bytes : List ℕ) (word lanes : ℕ) → list_all is_digit (lanes_text word_bytes bytes word lanes) ≡ true
lanes_are_digits word_bytes bytes word zero = refl
lanes_are_digits word_bytes bytes word (suc lane) =
    both_pass is_digit (hex_digits 2 (lane_byte word_bytes bytes word lane)) (lanes_text word_bytes bytes word lane) (hexes_are_digits 2 (lane_byte word_bytes bytes word lane)) (lanes_are_digits word_bytes bytes word lane)

-- ---- enables

one_lane : (touched : Bool) (n k : ℕ) → n < k → n + cond touched k 0 < 2 * k
one_lane true n k h = omega arith
one_lane false n k h = omega arith

pub enables_small : (word_bytes : ℕ) (bytes : List ℕ) (word lanes : ℕ) → enables_below word_bytes bytes word lanes < 2 ^ lanes
enables_small word_bytes bytes word zero = omega arith
enables_small word_bytes bytes word (suc lane) =
    subst (λ (n : ℕ). enables_below word_bytes bytes word (suc lane) < n) (sym (more_2 lane))
    (one_lane (is_touched word_bytes bytes word lane) (enables_below word_bytes bytes word lane) (2 ^ lane) (enables_small word_bytes bytes word lane))

-- of words of one byte the one lane is enabled
touched_alone : (bytes : List ℕ) (word : ℕ) → word < words_of 1 bytes → is_touched 1 bytes word 0 ≡ true
touched_alone bytes word h = rw (le-leb (first_lane 1 bytes) (lane_at 1 word 0) (omega arith), lt-ltb (lane_at 1 word 0) (first_lane 1 bytes + size_in bytes) (omega (arith, h))) refl

pub one_enabled : (bytes : List ℕ) (word : ℕ) → word < words_of 1 bytes → enables_below 1 bytes word 1 ≡ 1
one_enabled bytes word h = ap (λ (t : Bool). 0 + cond t (2 ^ 0) 0) (touched_alone bytes word h)
