-- The form of a memory's line. What is written to the memory is told by its clocked line.
use Rattle.std.specs.Prelude.{ℕ, ◌-◌, ◌^◌, ◌==◌, nat_lt, List, [], ◌∷◌, Option, None, codes, if◌then◌else◌}
use Rattle.netlist.specs.declared.line.Memory.{Memory}
use Rattle.netlist.specs.Netlists.{memory_with}
use Rattle.verilog_forms.specs.declared.rule.Rule.{Rule}
use Rattle.verilog_forms.specs.declared.rule.Rule.TheVariants.{Spelling, Depth}
use Rattle.verilog_forms.specs.Forms.{Form, fixed}
use Rattle.verilog_forms.specs.RightSides.{unless, value_of, is_number}
use Rattle.verilog_forms.specs.WireLines.{range_form, number_test}

-- the first of these numbers of address bits that has this last address, or 0
abbrev pub bits_among : List ℕ → ℕ → ℕ
bits_among [] last = 0
bits_among (k ∷ ks) last = if 2 ^ k - 1 == last then k else bits_among ks last

abbrev pub address_bits_of : ℕ → ℕ
address_bits_of last = bits_among (1 ∷ 2 ∷ 3 ∷ 4 ∷ 5 ∷ 6 ∷ 7 ∷ 8 ∷ 9 ∷ 10 ∷ []) last

abbrev pub last_test : List ℕ → Option Rule
last_test run = unless (is_number run) Spelling (unless (nat_lt 0 (address_bits_of (value_of run))) Depth None)

-- the line of memory m
abbrev pub memory_form : ℕ → Form Memory
memory_form m =
    fixed (codes "  reg ")
    (range_form (λ w. fixed (codes " m")
    (Form.hole (number_test m) (λ run. fixed (codes " [0:") (Form.hole last_test (λ last. fixed (codes "];\n")
    (Form.whole (memory_with w (address_bits_of (value_of last))))))))))
