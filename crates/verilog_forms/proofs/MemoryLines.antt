-- The form of a memory's line reads exactly the lines of memories.
use Rattle.std.proofs.Common.{◌≡◌, ℕ, zero, suc, ◌+◌, ◌-◌, ◌==◌, ◌<◌, ◌≤◌, ◌^◌, Bool, true, false, List, [], ◌∷◌, ◌++◌, slice_get, Some, None, refl, sym, ap, subst, ◌∙◌, arith, codes, decimal, append_assoc}
use Rattle.std.specs.Prelude.{nat_lt, if◌then◌else◌}
use Rattle.std.proofs.lemmas.Bool.{eqb-true, lt-ltb, ltb-true}
use Rattle.std.proofs.lemmas.Option.{slice_get_within}
use Rattle.netlist.specs.declared.line.Line.{Line}
use Rattle.netlist.specs.declared.line.Memory.{Memory}
use Rattle.netlist.specs.Netlists.{Netlist, IsModule, IsSoundMemory, memory_with}
use Rattle.verilog_writer.specs.Text.{memory_line}
use Rattle.verilog_forms.specs.declared.rule.Rule.TheVariants.{Width, Spelling, Depth}
use Rattle.verilog_forms.specs.Forms.{Form, fixed, Due, Reads}
use Rattle.verilog_forms.specs.RightSides.{same_bytes, value_of}
use Rattle.verilog_forms.specs.WireLines.{high_test, number_test}
use Rattle.verilog_forms.specs.MemoryLines.{bits_among, address_bits_of, last_test, memory_form}
use Rattle.verilog_forms.proofs.Memories.{memory_shape, few_words}
use Rattle.verilog_forms.proofs.RightReads.{fixed_due, number_passes, numbered_due}
use Rattle.verilog_forms.specs.Walked.{inverted}
use Rattle.verilog_forms.proofs.RightSound.{unless_held, number_held, fixed_walked}
use Rattle.verilog_forms.specs.Spellings.{same_equal}
use Rattle.verilog_forms.proofs.WireLines.{number_test_passes}

pub record Found (last bits : ℕ) : Type 0 where
  pub some : 1 ≤ bits
  pub few : bits ≤ 10
  pub is : 2 ^ bits - 1 ≡ last

abbrev AllFew : List ℕ → Type 0
AllFew [] = Unit {0}
AllFew (k ∷ ks) = (1 ≤ k) × (k ≤ 10) × AllFew ks

found_as : (k : ℕ) (ks : List ℕ) (last : ℕ) (t : Bool) → (2 ^ k - 1 == last) ≡ t → AllFew (k ∷ ks) → nat_lt 0 (if t then k else bits_among ks last) ≡ true
    → (nat_lt 0 (bits_among ks last) ≡ true → Found last (bits_among ks last)) → Found last (if t then k else bits_among ks last)
found_as k ks last true is few some later = record { some = few.0; few = few.1; is = eqb-true (2 ^ k - 1) last is }
found_as k ks last false is few some later = later some

no_zero : {X : Type 0} → nat_lt 0 0 ≡ true → X
no_zero e = absurd (omega (arith, ltb-true 0 0 e))

found_among : (ks : List ℕ) (last : ℕ) → AllFew ks → nat_lt 0 (bits_among ks last) ≡ true → Found last (bits_among ks last)
found_among [] last few some = no_zero some
found_among (k ∷ ks) last few some = found_as k ks last (2 ^ k - 1 == last) refl few some (λ h. found_among ks last few.2 h)

all_few : AllFew (1 ∷ 2 ∷ 3 ∷ 4 ∷ 5 ∷ 6 ∷ 7 ∷ 8 ∷ 9 ∷ 10 ∷ [])
all_few = (
  omega arith,
  omega arith,
  (
    omega arith,
    omega arith,
    (
      omega arith,
      omega arith,
      (
        omega arith,
        omega arith,
        (
          omega arith,
          omega arith,
          (
            omega arith,
            omega arith,
            (
              omega arith,
              omega arith,
              (
                omega arith,
                omega arith,
                (omega arith, omega arith, (omega arith, omega arith, tt)),
              ),
            ),
          ),
        ),
      ),
    ),
  ),
)

bits_found : (last : ℕ) → nat_lt 0 (address_bits_of last) ≡ true → Found last (address_bits_of last)
bits_found last some = found_among (1 ∷ 2 ∷ 3 ∷ 4 ∷ 5 ∷ 6 ∷ 7 ∷ 8 ∷ 9 ∷ 10 ∷ []) last all_few some

small_depth : (last : ℕ) → nat_lt 0 (address_bits_of last) ≡ true → last < 2 ^ 64
small_depth last some = let found = bits_found last some in omega (arith, few_words (address_bits_of last) found.few, found.is)

bits_are : (b : ℕ) → 1 ≤ b → b ≤ 10 → address_bits_of (2 ^ b - 1) ≡ b
bits_are zero some few = absurd (omega (arith, some))
bits_are (suc zero) some few = refl
bits_are (suc (suc zero)) some few = refl
bits_are (suc (suc (suc zero))) some few = refl
bits_are (suc (suc (suc (suc zero)))) some few = refl
bits_are (suc (suc (suc (suc (suc zero))))) some few = refl
bits_are (suc (suc (suc (suc (suc (suc zero)))))) some few = refl
bits_are (suc (suc (suc (suc (suc (suc (suc zero))))))) some few = refl
bits_are (suc (suc (suc (suc (suc (suc (suc (suc zero)))))))) some few = refl
bits_are (suc (suc (suc (suc (suc (suc (suc (suc (suc zero))))))))) some few = refl
bits_are (suc (suc (suc (suc (suc (suc (suc (suc (suc (suc zero)))))))))) some few = refl
bits_are (suc (suc (suc (suc (suc (suc (suc (suc (suc (suc (suc b))))))))))) some few = absurd (omega (arith, few))

memory_due : (m w b : ℕ) (rest : List ℕ) → m < 2 ^ 64 → 1 ≤ w → w ≤ 128 → 1 ≤ b → b ≤ 10
    → Due (Form.whole (memory_with w b)) rest (memory_form m) (codes "  reg [" ++ (decimal (w - 1) ++ (codes ":0] m" ++ (decimal m ++ (codes " [0:" ++ (decimal (2 ^ b - 1) ++ codes "];\n"))))))
memory_due m w b rest few some small some_bit few_bits =
    let due = Form.whole (memory_with w b) in
    let make_last = λ (v k : ℕ). (fixed (codes "];\n") (Form.whole (memory_with v (address_bits_of k)))) in
    let is_b = bits_are b some_bit few_bits in
    let ended : Due due rest (fixed (codes "];\n") due) (codes "];\n") = fixed_due due rest (codes "];\n") _ [] Due.nothing in
    let made : Due due rest (make_last w (2 ^ b - 1)) (codes "];\n") = subst (λ (x : ℕ). Due due rest (fixed (codes "];\n") (Form.whole (memory_with w x))) (codes "];\n")) (sym is_b) ended in
    let deep : 2 ^ b - 1 < 2 ^ 64 = omega (arith, few_words b few_bits) in
    let fits : nat_lt 0 (address_bits_of (2 ^ b - 1)) ≡ true = ap (λ (x : ℕ). nat_lt 0 x) is_b ∙ lt-ltb 0 b some_bit in
    let last = numbered_due due rest last_test (λ k. make_last w k) (2 ^ b - 1) (codes "];\n") deep refl (number_passes (2 ^ b - 1) (λ k. nat_lt 0 (address_bits_of k)) Depth (λ k. None) deep fits) made in
    let behind = λ (v : ℕ). (fixed (codes " [0:") (Form.hole last_test (λ run. make_last v (value_of run)))) in
    let opened = fixed_due due rest (codes " [0:") (Form.hole last_test (λ run. make_last w (value_of run))) (decimal (2 ^ b - 1) ++ codes "];\n") last in
    let number = numbered_due due rest (number_test m) (λ k. behind w) m _ few refl (number_test_passes m) opened in
    let spelled = codes " m" ++ (decimal m ++ (codes " [0:" ++ (decimal (2 ^ b - 1) ++ codes "];\n"))) in
    let make = λ (v : ℕ). (fixed (codes " m") (Form.hole (number_test m) (λ run. behind v))) in
    let named : Due due rest (make w) spelled = fixed_due due rest (codes " m") (Form.hole (number_test m) (λ run. behind w)) _ number in
    let back : (w - 1) + 1 ≡ w = omega (arith, some) in
    let low : w - 1 < 128 = omega (arith, some, small) in
    let below : w - 1 < 2 ^ 64 = omega (arith, low) in
    let ranged = fixed_due due rest (codes ":0]") (make ((w - 1) + 1)) spelled (subst (λ (v : ℕ). Due due rest (make v) spelled) (sym back) named) in
    let high = numbered_due due rest high_test (λ k. fixed (codes ":0]") (make (k + 1))) (w - 1) _ below refl (number_passes (w - 1) (λ k. nat_lt k 128) Width (λ k. None) below (lt-ltb (w - 1) 128 low)) ranged in
    fixed_due due rest (codes "  reg [") _ _ high

regrouped : (a b c d e f g r : List ℕ) → a ++ (b ++ (c ++ (d ++ (e ++ (f ++ (g ++ r)))))) ≡ (a ++ (b ++ (c ++ (d ++ (e ++ (f ++ g)))))) ++ r
regrouped a b c d e f g r = simp append_assoc

pub memory_read : (m : ℕ) (memory : Memory) (rest : List ℕ) → m < 2 ^ 64 → 1 ≤ memory.width → memory.width ≤ 128 → 1 ≤ memory.address_bits → memory.address_bits ≤ 10
    → Reads (memory_form m) (memory_line m memory ++ rest) (memory_with memory.width memory.address_bits) rest
memory_read m memory rest few some small some_bit few_bits = record {
  front = codes "  reg [" ++ (decimal (memory.width - 1) ++ (codes ":0] m" ++ (decimal m ++ (codes " [0:" ++ (decimal (2 ^ memory.address_bits - 1) ++ codes "];\n")))));
  parts = memory_shape m memory rest ∙ regrouped (codes "  reg [") (decimal (memory.width - 1)) (codes ":0] m") (decimal m) (codes " [0:") (decimal (2 ^ memory.address_bits - 1)) (codes "];\n") rest;
  good = memory_due m memory.width memory.address_bits rest few some small some_bit few_bits;
}

pub memory_sound : (lines : List Line) (m : ℕ) (memory : Memory) (text rest : List ℕ) → Reads (memory_form m) text memory rest → IsSoundMemory lines memory × (memory.write ≡ None) × (text ≡ memory_line m memory ++ rest)
memory_sound lines m memory text rest r =
    let begun = fixed_walked memory rest (codes "  reg [") _ r.front r.good in
    let (run, left, parts, none, walked, run_ends) = inverted memory refl begun.2 in
    let high = number_held run (λ k. nat_lt k 128) Width (λ k. None) (λ t. omega (arith, ltb-true (value_of run) 128 t)) none in
    let w = value_of run + 1 in
    let some : 1 ≤ w = omega arith in
    let below : value_of run < 128 = ltb-true (value_of run) 128 high.1 in
    let small : w ≤ 128 = omega (arith, below) in
    let behind = λ (v : ℕ). (fixed (codes " [0:") (Form.hole last_test (λ run. fixed (codes "];\n") (Form.whole (memory_with v (address_bits_of (value_of run))))))) in
    let named = fixed_walked memory rest (codes ":0] m") (Form.hole (number_test m) (λ r. behind w)) left walked in
    let (name, after, name_parts, name_none, name_walked, name_ends) = inverted memory refl named.2 in
    let held = unless_held (same_bytes name (decimal m)) Spelling None name_none in
    let is_m : name ≡ decimal m = same_equal name (decimal m) held.0 in
    let opened = fixed_walked memory rest (codes " [0:") (Form.hole last_test (λ run. fixed (codes "];\n") (Form.whole (memory_with w (address_bits_of (value_of run)))))) after name_walked in
    let (deep, closing, deep_parts, deep_none, deep_walked, deep_ends) = inverted memory refl opened.2 in
    let depth = number_held deep (λ k. nat_lt 0 (address_bits_of k)) Depth (λ k. None) (λ t. small_depth (value_of deep) t) deep_none in
    let b = address_bits_of (value_of deep) in
    let found = bits_found (value_of deep) depth.1 in
    let ended = fixed_walked memory rest (codes "];\n") (Form.whole (memory_with w b)) closing deep_walked in
    let last = inverted memory refl ended.2 in
    let one : w - 1 ≡ value_of run = omega arith in
    let is_high : run ≡ decimal (w - 1) = high.0 ∙ ap (λ (k : ℕ). decimal k) (sym one) in
    let is_deep : deep ≡ decimal (2 ^ b - 1) = depth.0 ∙ ap (λ (k : ℕ). decimal k) (sym found.is) in
    let closing_is : closing ≡ codes "];\n" = ended.1 ∙ ap (λ (t : List ℕ). codes "];\n" ++ t) last.1 in
    let opened_is : opened.0 ≡ decimal (2 ^ b - 1) ++ codes "];\n" = deep_parts ∙ ap (λ (t : List ℕ). t ++ closing) is_deep ∙ ap (λ (t : List ℕ). decimal (2 ^ b - 1) ++ t) closing_is in
    let after_is : after ≡ codes " [0:" ++ (decimal (2 ^ b - 1) ++ codes "];\n") = opened.1 ∙ ap (λ (t : List ℕ). codes " [0:" ++ t) opened_is in
    let name_is : named.0 ≡ decimal m ++ (codes " [0:" ++ (decimal (2 ^ b - 1) ++ codes "];\n")) = name_parts ∙ ap (λ (t : List ℕ). t ++ after) is_m ∙ ap (λ (t : List ℕ). decimal m ++ t) after_is in
    let left_is : left ≡ codes ":0] m" ++ (decimal m ++ (codes " [0:" ++ (decimal (2 ^ b - 1) ++ codes "];\n"))) = named.1 ∙ ap (λ (t : List ℕ). codes ":0] m" ++ t) name_is in
    let begun_is : begun.0 ≡ decimal (w - 1) ++ (codes ":0] m" ++ (decimal m ++ (codes " [0:" ++ (decimal (2 ^ b - 1) ++ codes "];\n")))) =
    parts ∙ ap (λ (t : List ℕ). t ++ left) is_high ∙ ap (λ (t : List ℕ). decimal (w - 1) ++ t) left_is in
    let front_is : r.front ≡ codes "  reg [" ++ (decimal (w - 1) ++ (codes ":0] m" ++ (decimal m ++ (codes " [0:" ++ (decimal (2 ^ b - 1) ++ codes "];\n"))))) = begun.1 ∙ ap (λ (t : List ℕ). codes "  reg [" ++ t) begun_is in
    let all : text ≡ memory_line m (memory_with w b) ++ rest = r.parts ∙ ap (λ (t : List ℕ). t ++ rest) front_is
    ∙ sym (regrouped (codes "  reg [") (decimal (w - 1)) (codes ":0] m") (decimal m) (codes " [0:") (decimal (2 ^ b - 1)) (codes "];\n") rest) ∙ sym (memory_shape m (memory_with w b) rest) in
    subst (λ (x : Memory). IsSoundMemory lines x × (x.write ≡ None) × (text ≡ memory_line m x ++ rest)) last.0
    (record { some_bit = some; small = small; some_address = found.some; few_addresses = found.few; write = tt }, refl, all)

-- the line of a module's memory
pub module_memory : (one : Netlist) (m : ℕ) (memory : Memory) (rest : List ℕ) → IsModule one → slice_get one.memories m ≡ Some memory
    → Reads (memory_form m) (memory_line m memory ++ rest) (memory_with memory.width memory.address_bits) rest
module_memory one m memory rest is at =
    let inside = slice_get_within one.memories m memory at in
    let sound = is.well_made.memories m memory at in
    memory_read m memory rest (omega (arith, inside, is.well_made.few_memories)) sound.some_bit sound.small sound.some_address sound.few_addresses
