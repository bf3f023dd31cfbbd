-- The header of a multiplexer.
use Rattle.std.proofs.Common.{◌≡◌, ◌≢◌, ℕ, ◌^◌, ◌≤◌, Bool, true, false, ◌∷◌, [], length, length-append, codes, get_or, refl, ap, arith}
use Rattle.std.specs.Prelude.{nat_le, if◌then◌else◌}
use Rattle.netlist.specs.Netlists.{IsHeader}
use Rattle.routed_runs.specs.Multiplexed.{Multiplexer}
use Rattle.routed_modules.specs.Ports.{numbered, end_ports, numbered_ports}
use Rattle.routed_modules.specs.Sizes.{bits_for}
use Rattle.routed_modules.specs.Demultiplexers.{AreSizes}
use Rattle.routed_modules.specs.Multiplexers.{coming, going, multiplexer_ports}
use Rattle.routed_modules.proofs.Names.{IsEnd, of_end, apart_append, apart_end, apart_ends, ends_new, named_append, named_of, named_ends}
use Rattle.routed_modules.proofs.Headers.{IsWideEnd, some_product, wide_append, wide_end, wide_ends, bits_width, empty_width, few_end, few_ends, header_of}

coming_wide : (mux : Multiplexer) → AreSizes mux.inputs mux.symbols mux.bits → IsWideEnd (coming mux)
coming_wide mux h = record { word = (some_product mux.symbols mux.bits h.some_symbols h.some_bits, h.narrow); channel = tt; empty = empty_width mux.symbols }

going_wide : (mux : Multiplexer) → AreSizes mux.inputs mux.symbols mux.bits → IsWideEnd (going mux)
going_wide mux h = let wide = coming_wide mux h in record { word = wide.word; channel = bits_width mux.inputs; empty = wide.empty }

pub few_mux_ports : (mux : Multiplexer) → AreSizes mux.inputs mux.symbols mux.bits → length (multiplexer_ports mux) ≤ 119
few_mux_ports mux h =
    let many = few_ends true (coming mux) (codes "in") mux.inputs in
    let one = few_end false (going mux) (codes "out") in
    let whole = length-append (numbered_ports true (coming mux) (codes "in") mux.inputs) (end_ports false (going mux) (codes "out")) in
    let few = h.few_ends in
    omega (arith, one, many, whole, few)

-- so few numbers have the channel's bits
pub few_numbers : (count : ℕ) → 2 ^ bits_for count ≤ 16
few_numbers count = by_tests (nat_le count 2) (nat_le count 4) (nat_le count 8)
  where
    by_tests : (a b c : Bool) → 2 ^ (if a then 1 else if b then 2 else if c then 3 else 4) ≤ 16
    by_tests true b c = omega arith
    by_tests false true c = omega arith
    by_tests false false true = omega arith
    by_tests false false false = omega arith

output_apart : (number : ℕ) → numbered (codes "in") number ≢ codes "out"
output_apart number same = absurd (let no : get_or (codes "in") 0 0 ≡ get_or (codes "out") 0 0 = ap (λ w. get_or w 0 0) same in omega (arith, no))

pub mux_header : (mux : Multiplexer) → AreSizes mux.inputs mux.symbols mux.bits → IsHeader (codes "mux_interconnect") (multiplexer_ports mux)
mux_header mux h =
    let few = few_mux_ports mux h in
    let ins = numbered_ports true (coming mux) (codes "in") mux.inputs in
    let out = end_ports false (going mux) (codes "out") in
    let is_in : IsEnd (codes "in") = record { first = refl; bytes = refl } in
    let is_out : IsEnd (codes "out") = record { first = refl; bytes = refl } in
    header_of (codes "mux_interconnect") (multiplexer_ports mux) (record { first = refl; bytes = refl; suffix = refl })
    (named_append ins out (named_ends true (coming mux) 105 (110 ∷ []) mux.inputs is_in h.few_ends) (named_of (codes "out") out is_out (of_end false (going mux) (codes "out"))))
    (apart_append ins out (apart_ends true (coming mux) 105 (110 ∷ []) is_in mux.inputs h.few_ends) (apart_end false (going mux) (codes "out"))
    (ends_new true (coming mux) 105 (110 ∷ []) is_in (codes "out") out mux.inputs h.few_ends is_out (of_end false (going mux) (codes "out")) output_apart))
    (wide_append ins out (wide_ends true (coming mux) (codes "in") mux.inputs (coming_wide mux h)) (wide_end false (going mux) (codes "out") (going_wide mux h)))
    (omega (arith, few))
