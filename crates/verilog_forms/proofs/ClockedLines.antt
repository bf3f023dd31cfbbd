-- The forms of the clocked lines and of the lines of outputs read exactly those of registers, memories and outputs.
use Rattle.std.proofs.Common.{◌≡◌, ℕ, ◌+◌, ◌/◌, ◌==◌, ◌<◌, ◌≤◌, ◌^◌, ◌&&◌, Bool, true, not, List, [], ◌++◌, length, Option, Some, None, inl, inr, ◌⊎◌, refl, sym, ap, subst, ◌∙◌, arith, codes, decimal, append_assoc}
use Rattle.std.specs.Prelude.{nat_lt, if◌then◌else◌}
use Rattle.std.proofs.lemmas.Bool.{eq-eqb, eqb-true, lt-ltb, ltb-true}
use Rattle.std.proofs.lemmas.Option.{slice_get_within}
use Rattle.av_base.specs.declared.value.Val.{Val}
use Rattle.netlist.specs.Names.{IsPortName}
use Rattle.netlist.specs.declared.line.Equation.{Equation}
use Rattle.netlist.specs.declared.line.Equation.TheVariants.{Constant, Reg}
use Rattle.netlist.specs.declared.line.Line.{Line}
use Rattle.netlist.specs.declared.line.Memory.{Memory}
use Rattle.netlist.specs.declared.line.MemWrite.{MemWrite}
use Rattle.netlist.specs.declared.line.PortLine.{PortLine}
use Rattle.netlist.specs.Netlists.{width_at, line_of, write_of, IsValue, IsWriteOf}
use Rattle.verilog_writer.specs.Text.{hex_digits, constant_text, net_name, memory_name, clock_line, write_line, assign_line}
use Rattle.verilog_forms.specs.declared.rule.Rule.TheVariants.{Name, Spelling, NotThere, Order}
use Rattle.verilog_forms.specs.Forms.{Form, next, ends_hole, fixed, Due, Reads}
use Rattle.verilog_forms.specs.RightSides.{unless, same_bytes, value_of, net_of, is_net, width_of, constant_form}
use Rattle.verilog_forms.specs.Headers.{is_next}
use Rattle.verilog_forms.specs.ClockedLines.{net_form, clocked_net_test, clocked_memory_test, none_due, clocked_net_form, clocked_memory_form, always_form, other_net_form, other_memory_form, register_with, next_form, clock_form, write_form, none_clocked_form, output_test, driver_form, assign_form}
use Rattle.verilog_forms.proofs.Nets.{width_at-line}
use Rattle.verilog_forms.specs.Spellings.{same-refl, value-decimal, same_equal}
use Rattle.verilog_forms.proofs.RightReads.{number_passes, net_is, net_hole, side, operand_due, constant_due, constant_front, fixed_due, numbered_due}
use Rattle.verilog_forms.specs.Walked.{inverted, Walked}
use Rattle.verilog_forms.proofs.RightSound.{unless_held, net_spelled, number_held, operand_walked, constant_read_as, cond_walked, fixed_walked}
use Rattle.verilog_forms.proofs.PortLines.{five_together}
use Rattle.verilog_forms.proofs.Followed.{followed_walked, then_due}

-- a net that is there

net_within : (lines : List Line) (a w : ℕ) → width_at lines a ≡ Some w → a < length lines
net_within lines a w e = let found = width_at-line lines a w e in slice_get_within lines a found.0 found.1

pub net_due : {A : Type 0} (due : Form A) (rest : List ℕ) (lines : List Line) (w : ℕ) (form : ℕ → Form A) (a : ℕ) (front : List ℕ) → length lines < 2 ^ 64 → width_at lines a ≡ Some w → ends_hole (front ++ rest) ≡ true
    → Due due rest (form a) front → Due due rest (net_form lines (λ v. v == w) form) (net_name a ++ front)
net_due due rest lines w form a front few is ends d =
    operand_due due rest lines (length lines) (λ v. v == w) form a front
    (side lines (length lines) a w (λ v. v == w) few (record { below = net_within lines a w is; width = is }) (eq-eqb w w refl)) ends d

record NetRead {A : Type 0} (lines : List Line) (w : ℕ) (form : ℕ → Form A) (e : A) (rest front : List ℕ) : Type 0 where
  pub net : ℕ
  pub later : List ℕ
  pub spelled : front ≡ net_name net ++ later
  pub width : width_at lines net ≡ Some w
  pub walked : Walked e rest (form net) later

net_walked : {A : Type 0} (lines : List Line) (w : ℕ) (form : ℕ → Form A) (e : A) (rest front : List ℕ) → length lines < 2 ^ 64 → Walked e rest (net_form lines (λ v. v == w) form) front → NetRead lines w form e rest front
net_walked lines w form e rest front few d =
    let o = operand_walked lines (length lines) (λ v. v == w) form e rest front few (omega arith) d in
    record { net = o.net; later = o.later; spelled = o.spelled; width = o.is.width ∙ ap (λ (v : ℕ). Some v) (eqb-true (width_of lines o.net) w o.fit); walked = o.walked }

-- the register that is due

clocked_net_passes : (lines : List Line) (n : ℕ) → n < 2 ^ 64 → n < length lines → clocked_net_test lines (λ k. k == n) (net_name n) ≡ None
clocked_net_passes lines n few there =
    ap (λ (t : Bool). unless t Spelling (unless (nat_lt (net_of (net_name n)) (length lines)) NotThere (unless (net_of (net_name n) == n) Order None))) (net_is n few)
    ∙ ap (λ (m : ℕ). unless (nat_lt m (length lines)) NotThere (unless (m == n) Order None)) (value-decimal n few)
    ∙ ap (λ (t : Bool). unless t NotThere (unless (n == n) Order None)) (lt-ltb n (length lines) there)
    ∙ ap (λ (t : Bool). unless t Order None) (eq-eqb n n refl)

clocked_net_due : {A : Type 0} (due : Form A) (rest : List ℕ) (lines : List Line) (n : ℕ) (form : Form A) (front : List ℕ) → n < 2 ^ 64 → n < length lines → ends_hole (front ++ rest) ≡ true
    → Due due rest form front → Due due rest (Form.hole (clocked_net_test lines (λ k. k == n)) (λ run. form)) (net_name n ++ front)
clocked_net_due due rest lines n form front few there ends d =
    Due.hole (clocked_net_test lines (λ k. k == n)) (λ run. form) (net_name n) (net_hole n (front ++ rest) few ends) (clocked_net_passes lines n few there) d

clocked_net_walked : {A : Type 0} (lines : List Line) (n : ℕ) (form : Form A) (e : A) (rest front : List ℕ) → length lines < 2 ^ 64 → Walked e rest (Form.hole (clocked_net_test lines (λ k. k == n)) (λ run. form)) front
    → (later : List ℕ) × (front ≡ net_name n ++ later) × Walked e rest form later
clocked_net_walked lines n form e rest front few d =
    let (run, later, parts, none, walked, ends) = inverted e refl d in
    let spelled = unless_held (is_net run) Spelling _ none in
    let there = unless_held (nat_lt (net_of run) (length lines)) NotThere _ spelled.1 in
    let is_due = unless_held (net_of run == n) Order None there.1 in
    let below : net_of run < length lines = ltb-true (net_of run) (length lines) there.0 in
    let is_n : run ≡ net_name n = net_spelled run spelled.0 (omega (arith, below, few)) ∙ ap (λ (k : ℕ). net_name k) (eqb-true (net_of run) n is_due.0) in
    (later, parts ∙ ap (λ (t : List ℕ). t ++ later) is_n, walked)

-- what isn't due is never read

no_other_net : {A X : Type 0} (lines : List Line) (e : A) (rest front : List ℕ) → Walked e rest (other_net_form lines) front → X
no_other_net lines e rest front d =
    let word = fixed_walked e rest (codes "reset) ") (Form.hole (clocked_net_test lines none_due) (λ run. Form.refuse Order)) front d in
    let (run, later, parts, none, walked, ends) = inverted e refl word.2 in
    absurd (inverted e refl walked)

no_other_memory : {A X : Type 0} (memories : List Memory) (lines : List Line) (e : A) (rest front : List ℕ) → Walked e rest (other_memory_form memories lines) front → X
no_other_memory memories lines e rest front d =
    let (net, left, net_parts, net_none, net_walked, net_ends) = inverted e refl d in
    let word = fixed_walked e rest (codes ") m") (Form.hole (clocked_memory_test memories none_due) (λ run. Form.refuse Order)) left net_walked in
    let (run, later, parts, none, walked, ends) = inverted e refl word.2 in
    absurd (inverted e refl walked)

always_walked : {A : Type 0} (register memory : Form A) (e : A) (rest front : List ℕ) → Walked e rest (always_form register memory) front
    → (later : List ℕ) × (front ≡ codes "lways @(posedge clk) if (" ++ later) × (Walked e rest register later ⊎ Walked e rest memory later)
always_walked register memory e rest front d =
    let word = fixed_walked e rest (codes "lways @(posedge clk) if (") (Form.turn (λ b. if is_next (codes "r") b then register else memory)) front d in
    (word.0, word.1, cond_walked e rest (is_next (codes "r") (next (word.0 ++ rest))) register memory word.0 (inverted e refl word.2))

-- the clocked line of a register is read

value_due : (value : Val) (w : ℕ) (rest : List ℕ) → IsValue value w → ends_hole rest ≡ true → Due (Form.whole (Constant value)) rest (constant_form w) (constant_text value.width value.bits)
value_due value w rest is ends =
    let here = constant_due value.width value.bits rest is.word ends in
    let spelled = subst (λ (t : List ℕ). Due (Form.whole (Constant value)) rest (constant_form value.width) t) (sym (constant_front (decimal value.width) (codes "'h") (hex_digits ((value.width + 3) / 4) value.bits))) here in
    subst (λ (v : ℕ). Due (Form.whole (Constant value)) rest (constant_form v) (constant_text value.width value.bits)) is.width spelled

nine_together : (a b c d e f g h i : List ℕ) → a ++ (b ++ (c ++ (d ++ (e ++ (f ++ (g ++ (h ++ i))))))) ≡ a ++ b ++ c ++ d ++ e ++ f ++ g ++ h ++ i
nine_together a b c d e f g h i = simp append_assoc

clock_regroup : (n next : ℕ) (value : Val) → codes "  always @(posedge clk) if (reset) " ++ (net_name n ++ (codes " <= " ++ (constant_text value.width value.bits ++ (codes "; else " ++ (net_name n ++ (codes " <= " ++ (net_name next ++ codes ";\n")))))))
    ≡ clock_line n value.width value.bits next
clock_regroup n next value =
    nine_together (codes "  always @(posedge clk) if (reset) ") (net_name n) (codes " <= ") (constant_text value.width value.bits) (codes "; else ") (net_name n) (codes " <= ") (net_name next) (codes ";\n")

abbrev pub behind_value : List Line → ℕ → ℕ → Equation → Form Line
behind_value lines n w reset =
    fixed (codes "; else ") (Form.hole (clocked_net_test lines (λ k. k == n)) (λ run. fixed (codes " <= ") (net_form lines (λ v. v == w) (λ next. fixed (codes ";\n") (Form.whole (register_with w reset next))))))

pub clock_due : (memories : List Memory) (lines : List Line) (n w : ℕ) (value : Val) (next : ℕ) (rest : List ℕ) → length lines < 2 ^ 64 → n < length lines → IsValue value w → width_at lines next ≡ Some w
    → Due (Form.whole (line_of w (Reg value next))) rest (clock_form memories lines n w) (clock_line n value.width value.bits next)
clock_due memories lines n w value next rest few there is width =
    let due = Form.whole (line_of w (Reg value next)) in
    let small : n < 2 ^ 64 = omega (arith, few, there) in
    let last = λ (k : ℕ). (fixed (codes ";\n") (Form.whole (register_with w (Constant value) k))) in
    let ended : Due due rest (last next) (codes ";\n") = fixed_due due rest (codes ";\n") due [] Due.nothing in
    let net = net_due due rest lines w last next (codes ";\n") few width refl ended in
    let again = clocked_net_due due rest lines n (fixed (codes " <= ") (net_form lines (λ v. v == w) last)) _ small there refl (fixed_due due rest (codes " <= ") (net_form lines (λ v. v == w) last) _ net) in
    let tail = codes "; else " ++ (net_name n ++ (codes " <= " ++ (net_name next ++ codes ";\n"))) in
    let choice : Due due rest (behind_value lines n w (Constant value)) tail = fixed_due due rest (codes "; else ") _ _ again in
    let reset = then_due (constant_form w) (behind_value lines n w) (Constant value) due rest (constant_text value.width value.bits) tail (value_due value w (tail ++ rest) is refl) choice in
    let arrow = fixed_due due rest (codes " <= ") (next_form lines n w) _ reset in
    let net = clocked_net_due due rest lines n (fixed (codes " <= ") (next_form lines n w)) _ small there refl arrow in
    let register = fixed_due due rest (codes "reset) ") _ _ net in
    let turned = Due.turn (λ b. if is_next (codes "r") b then clocked_net_form lines (λ k. k == n) (fixed (codes " <= ") (next_form lines n w)) else other_memory_form memories lines) register in
    subst (λ (t : List ℕ). Due due rest (clock_form memories lines n w) t) (clock_regroup n next value) (fixed_due due rest (codes "  always @(posedge clk) if (") _ _ turned)

pub clock_read : (memories : List Memory) (lines : List Line) (n w : ℕ) (value : Val) (next : ℕ) (rest : List ℕ) → length lines < 2 ^ 64 → n < length lines → IsValue value w → width_at lines next ≡ Some w
    → Reads (clock_form memories lines n w) (clock_line n value.width value.bits next ++ rest) (line_of w (Reg value next)) rest
clock_read memories lines n w value next rest few there is width =
    record { front = clock_line n value.width value.bits next; parts = refl; good = clock_due memories lines n w value next rest few there is width }

-- and what is read is one

pub record ClockMeaning (lines : List Line) (n w : ℕ) (line : Line) (front : List ℕ) : Type 0 where
  pub value : Val
  pub next : ℕ
  pub good : IsValue value w
  pub width : width_at lines next ≡ Some w
  pub is : line ≡ line_of w (Reg value next)
  pub spelled : front ≡ clock_line n value.width value.bits next

clock_register : (lines : List Line) (n w : ℕ) (line : Line) (rest front register : List ℕ) → length lines < 2 ^ 64 → 1 ≤ w → w ≤ 128 → front ≡ codes "  always @(posedge clk) if (" ++ register
    → Walked line rest (clocked_net_form lines (λ k. k == n) (fixed (codes " <= ") (next_form lines n w))) register → ClockMeaning lines n w line front
clock_register lines n w line rest front register few some small begun d =
    let word = fixed_walked line rest (codes "reset) ") (Form.hole (clocked_net_test lines (λ k. k == n)) (λ run. fixed (codes " <= ") (next_form lines n w))) register d in
    let net = clocked_net_walked lines n (fixed (codes " <= ") (next_form lines n w)) line rest word.0 few word.2 in
    let arrow = fixed_walked line rest (codes " <= ") (next_form lines n w) net.0 net.2 in
    let apart = followed_walked line rest (constant_form w) (behind_value lines n w) arrow.0 arrow.2 in
    let reset = constant_read_as w apart.value (apart.behind ++ rest) apart.ahead some small apart.first in
    let last = λ (k : ℕ). (fixed (codes ";\n") (Form.whole (register_with w apart.value k))) in
    let choice = fixed_walked line rest (codes "; else ") (Form.hole (clocked_net_test lines (λ k. k == n)) (λ run. fixed (codes " <= ") (net_form lines (λ v. v == w) last))) apart.behind apart.second in
    let again = clocked_net_walked lines n (fixed (codes " <= ") (net_form lines (λ v. v == w) last)) line rest choice.0 few choice.2 in
    let takes = fixed_walked line rest (codes " <= ") (net_form lines (λ v. v == w) last) again.0 again.2 in
    let next = net_walked lines w last line rest takes.0 few takes.2 in
    let ended = fixed_walked line rest (codes ";\n") (Form.whole (register_with w apart.value next.net)) next.later next.walked in
    let whole = inverted line refl ended.2 in
    let tail : apart.behind ≡ codes "; else " ++ (net_name n ++ (codes " <= " ++ (net_name next.net ++ codes ";\n"))) =
    choice.1 ∙ ap (λ (t : List ℕ). codes "; else " ++ t) (again.1 ∙ ap (λ (t : List ℕ). net_name n ++ t) (takes.1 ∙ ap (λ (t : List ℕ). codes " <= " ++ t) (next.spelled ∙ ap (λ (t : List ℕ). net_name next.net ++ t)
    (ended.1 ∙ ap (λ (t : List ℕ). codes ";\n" ++ t) whole.1)))) in
    let value = reset.value in
    let assigned : arrow.0 ≡ constant_text value.width value.bits ++ (codes "; else " ++ (net_name n ++ (codes " <= " ++ (net_name next.net ++ codes ";\n")))) =
    apart.parts ∙ ap (λ (t : List ℕ). t ++ apart.behind) reset.spelled ∙ ap (λ (t : List ℕ). constant_text value.width value.bits ++ t) tail in
    let text : front ≡ clock_line n value.width value.bits next.net =
    begun ∙ ap (λ (t : List ℕ). codes "  always @(posedge clk) if (" ++ t) (word.1 ∙ ap (λ (t : List ℕ). codes "reset) " ++ t) (net.1 ∙ ap (λ (t : List ℕ). net_name n ++ t) (arrow.1 ∙ ap (λ (t : List ℕ). codes " <= " ++ t) assigned)))
    ∙ clock_regroup n next.net value in
    record { value = value; next = next.net; good = reset.good; width = next.width; is = sym whole.0 ∙ ap (λ (e : Equation). register_with w e next.net) reset.is; spelled = text }

pub clock_walked : (memories : List Memory) (lines : List Line) (n w : ℕ) (line : Line) (rest front : List ℕ) → length lines < 2 ^ 64 → 1 ≤ w → w ≤ 128 → Walked line rest (clock_form memories lines n w) front → ClockMeaning lines n w line front
clock_walked memories lines n w line rest front few some small d =
    let register = clocked_net_form lines (λ k. k == n) (fixed (codes " <= ") (next_form lines n w)) in
    let begun = fixed_walked line rest (codes "  a") (always_form register (other_memory_form memories lines)) front d in
    let always = always_walked register (other_memory_form memories lines) line rest begun.0 begun.2 in
    let start : front ≡ codes "  always @(posedge clk) if (" ++ always.0 = begun.1 ∙ ap (λ (t : List ℕ). codes "  a" ++ t) always.1 in
    elim (always.2) [
      | inl one ↦ clock_register lines n w line rest front always.0 few some small start one
      | inr other ↦ no_other_memory memories lines line rest always.0 other
    ]

pub clock_sound : (memories : List Memory) (lines : List Line) (n w : ℕ) (line : Line) (text rest : List ℕ) → length lines < 2 ^ 64 → 1 ≤ w → w ≤ 128 → Reads (clock_form memories lines n w) text line rest
    → (value : Val) × (next : ℕ) × IsValue value w × (width_at lines next ≡ Some w) × (line ≡ line_of w (Reg value next)) × (text ≡ clock_line n value.width value.bits next ++ rest)
clock_sound memories lines n w line text rest few some small r =
    let m = clock_walked memories lines n w line rest r.front few some small r.good in
    (m.value, m.next, m.good, m.width, m.is, r.parts ∙ ap (λ (t : List ℕ). t ++ rest) m.spelled)

-- the same for a memory's clocked line

write_regroup : (m : ℕ) (write : MemWrite) → codes "  always @(posedge clk) if (" ++ (net_name write.enable ++ (codes ") " ++ (memory_name m ++ (codes "[" ++ (net_name write.address ++ (codes "] <= " ++ (net_name write.word ++ codes ";\n")))))))
    ≡ write_line m write
write_regroup m write = nine_together (codes "  always @(posedge clk) if (") (net_name write.enable) (codes ") ") (memory_name m) (codes "[") (net_name write.address) (codes "] <= ") (net_name write.word) (codes ";\n")

pub write_due : (memories : List Memory) (lines : List Line) (m : ℕ) (memory : Memory) (write : MemWrite) (rest : List ℕ) → length lines < 2 ^ 64 → length memories < 2 ^ 64 → m < length memories → IsWriteOf lines memory write
    → Due (Form.whole write) rest (write_form memories lines m memory) (write_line m write)
write_due memories lines m memory write rest few few_memories there is =
    let due = Form.whole write in
    let small : m < 2 ^ 64 = omega (arith, few_memories, there) in
    let last = λ (e a d : ℕ). (fixed (codes ";\n") (Form.whole (write_of e a d))) in
    let behind_address = λ (e a : ℕ). (fixed (codes "] <= ") (net_form lines (λ v. v == memory.width) (last e a))) in
    let behind_memory = λ (e : ℕ). (fixed (codes "[") (net_form lines (λ v. v == memory.address_bits) (behind_address e))) in
    let behind_enable = λ (e : ℕ). (fixed (codes ") m") (Form.hole (clocked_memory_test memories (λ k. k == m)) (λ run. behind_memory e))) in
    let ended : Due due rest (last write.enable write.address write.word) (codes ";\n") = fixed_due due rest (codes ";\n") due [] Due.nothing in
    let word = net_due due rest lines memory.width (last write.enable write.address) write.word (codes ";\n") few is.word refl ended in
    let arrow : Due due rest (behind_address write.enable write.address) (codes "] <= " ++ (net_name write.word ++ codes ";\n")) = fixed_due due rest (codes "] <= ") _ _ word in
    let address = net_due due rest lines memory.address_bits (behind_address write.enable) write.address _ few is.address refl arrow in
    let opened : Due due rest (behind_memory write.enable) (codes "[" ++ (net_name write.address ++ (codes "] <= " ++ (net_name write.word ++ codes ";\n")))) = fixed_due due rest (codes "[") _ _ address in
    let number = numbered_due due rest (clocked_memory_test memories (λ k. k == m)) (λ k. behind_memory write.enable) m _ small refl
    (number_passes m (λ k. nat_lt k (length memories)) NotThere (λ k. unless (k == m) Order None) small (lt-ltb m (length memories) there) ∙ ap (λ (t : Bool). unless t Order None) (eq-eqb m m refl)) opened in
    let enabled : Due due rest (behind_enable write.enable) (codes ") m" ++ (decimal m ++ (codes "[" ++ (net_name write.address ++ (codes "] <= " ++ (net_name write.word ++ codes ";\n")))))) = fixed_due due rest (codes ") m") _ _ number in
    let enable = net_due due rest lines 1 behind_enable write.enable _ few is.enable refl enabled in
    let turned = Due.turn (λ b. if is_next (codes "r") b then other_net_form lines else net_form lines (λ v. v == 1) behind_enable) enable in
    subst (λ (t : List ℕ). Due due rest (write_form memories lines m memory) t) (write_regroup m write) (fixed_due due rest (codes "  always @(posedge clk) if (") _ _ turned)

pub write_read : (memories : List Memory) (lines : List Line) (m : ℕ) (memory : Memory) (write : MemWrite) (rest : List ℕ) → length lines < 2 ^ 64 → length memories < 2 ^ 64 → m < length memories → IsWriteOf lines memory write
    → Reads (write_form memories lines m memory) (write_line m write ++ rest) write rest
write_read memories lines m memory write rest few few_memories there is =
    record { front = write_line m write; parts = refl; good = write_due memories lines m memory write rest few few_memories there is }

pub record WriteMeaning (lines : List Line) (m : ℕ) (memory : Memory) (write : MemWrite) (front : List ℕ) : Type 0 where
  pub good : IsWriteOf lines memory write
  pub spelled : front ≡ write_line m write

write_memory : (memories : List Memory) (lines : List Line) (m : ℕ) (memory : Memory) (write : MemWrite) (rest front enabled : List ℕ) → length lines < 2 ^ 64 → length memories < 2 ^ 64 → front ≡ codes "  always @(posedge clk) if (" ++ enabled
    → Walked write rest (clocked_memory_form memories lines (λ k. k == m) (λ e. fixed (codes "[") (net_form lines (λ v. v == memory.address_bits) (λ a. fixed (codes "] <= ") (net_form lines (λ v. v == memory.width) (λ d. fixed (codes ";\n") (Form.whole (write_of e a d)))))))) enabled
    → WriteMeaning lines m memory write front
write_memory memories lines m memory write rest front enabled few few_memories begun d =
    let last = λ (e a d : ℕ). (fixed (codes ";\n") (Form.whole (write_of e a d))) in
    let behind_address = λ (e a : ℕ). (fixed (codes "] <= ") (net_form lines (λ v. v == memory.width) (last e a))) in
    let behind_memory = λ (e : ℕ). (fixed (codes "[") (net_form lines (λ v. v == memory.address_bits) (behind_address e))) in
    let behind_enable = λ (e : ℕ). (fixed (codes ") m") (Form.hole (clocked_memory_test memories (λ k. k == m)) (λ run. behind_memory e))) in
    let enable = net_walked lines 1 behind_enable write rest enabled few d in
    let named = fixed_walked write rest (codes ") m") (Form.hole (clocked_memory_test memories (λ k. k == m)) (λ run. behind_memory enable.net)) enable.later enable.walked in
    let (run, left, parts, none, walked, ends) = inverted write refl named.2 in
    let number = number_held run (λ k. nat_lt k (length memories)) NotThere (λ k. unless (k == m) Order None) (λ t. omega (arith, ltb-true (value_of run) (length memories) t, few_memories)) none in
    let is_due = unless_held (value_of run == m) Order None number.2 in
    let is_m : run ≡ decimal m = number.0 ∙ ap (λ (k : ℕ). decimal k) (eqb-true (value_of run) m is_due.0) in
    let opened = fixed_walked write rest (codes "[") (net_form lines (λ v. v == memory.address_bits) (behind_address enable.net)) left walked in
    let address = net_walked lines memory.address_bits (behind_address enable.net) write rest opened.0 few opened.2 in
    let arrow = fixed_walked write rest (codes "] <= ") (net_form lines (λ v. v == memory.width) (last enable.net address.net)) address.later address.walked in
    let word = net_walked lines memory.width (last enable.net address.net) write rest arrow.0 few arrow.2 in
    let ended = fixed_walked write rest (codes ";\n") (Form.whole (write_of enable.net address.net word.net)) word.later word.walked in
    let whole = inverted write refl ended.2 in
    let taken : arrow.0 ≡ net_name word.net ++ codes ";\n" = word.spelled ∙ ap (λ (t : List ℕ). net_name word.net ++ t) (ended.1 ∙ ap (λ (t : List ℕ). codes ";\n" ++ t) whole.1) in
    let there : opened.0 ≡ net_name address.net ++ (codes "] <= " ++ (net_name word.net ++ codes ";\n")) =
    address.spelled ∙ ap (λ (t : List ℕ). net_name address.net ++ t) (arrow.1 ∙ ap (λ (t : List ℕ). codes "] <= " ++ t) taken) in
    let memory_is : named.0 ≡ decimal m ++ (codes "[" ++ (net_name address.net ++ (codes "] <= " ++ (net_name word.net ++ codes ";\n")))) =
    parts ∙ ap (λ (t : List ℕ). t ++ left) is_m ∙ ap (λ (t : List ℕ). decimal m ++ t) (opened.1 ∙ ap (λ (t : List ℕ). codes "[" ++ t) there) in
    let text : front ≡ write_line m (write_of enable.net address.net word.net) =
    begun ∙ ap (λ (t : List ℕ). codes "  always @(posedge clk) if (" ++ t) (enable.spelled ∙ ap (λ (t : List ℕ). net_name enable.net ++ t) (named.1 ∙ ap (λ (t : List ℕ). codes ") m" ++ t) memory_is))
    ∙ write_regroup m (write_of enable.net address.net word.net) in
    subst (λ (x : MemWrite). WriteMeaning lines m memory x front) whole.0 (record { good = record { enable = enable.width; address = address.width; word = word.width }; spelled = text })

pub write_walked : (memories : List Memory) (lines : List Line) (m : ℕ) (memory : Memory) (write : MemWrite) (rest front : List ℕ) → length lines < 2 ^ 64 → length memories < 2 ^ 64 → Walked write rest (write_form memories lines m memory) front → WriteMeaning lines m memory write front
write_walked memories lines m memory write rest front few few_memories d =
    let enabled = clocked_memory_form memories lines (λ k. k == m) (λ e. fixed (codes "[") (net_form lines (λ v. v == memory.address_bits) (λ a. fixed (codes "] <= ") (net_form lines (λ v. v == memory.width) (λ d. fixed (codes ";\n") (Form.whole (write_of e a d))))))) in
    let begun = fixed_walked write rest (codes "  a") (always_form (other_net_form lines) enabled) front d in
    let always = always_walked (other_net_form lines) enabled write rest begun.0 begun.2 in
    let start : front ≡ codes "  always @(posedge clk) if (" ++ always.0 = begun.1 ∙ ap (λ (t : List ℕ). codes "  a" ++ t) always.1 in
    elim (always.2) [
      | inl other ↦ no_other_net lines write rest always.0 other
      | inr one ↦ write_memory memories lines m memory write rest front always.0 few few_memories start one
    ]

pub write_sound : (memories : List Memory) (lines : List Line) (m : ℕ) (memory : Memory) (write : MemWrite) (text rest : List ℕ) → length lines < 2 ^ 64 → length memories < 2 ^ 64 → Reads (write_form memories lines m memory) text write rest
    → (text ≡ write_line m write ++ rest) × IsWriteOf lines memory write
write_sound memories lines m memory write text rest few few_memories r =
    let w = write_walked memories lines m memory write rest r.front few few_memories r.good in
    (r.parts ∙ ap (λ (t : List ℕ). t ++ rest) w.spelled, w.good)

-- the line of an output

assign_regroup : (port : PortLine) (net : ℕ) → port.output ≡ true → codes "  assign " ++ (port.name ++ (codes " = " ++ (net_name net ++ codes ";\n"))) ≡ assign_line port (Some net)
assign_regroup port net out =
    five_together (codes "  assign ") port.name (codes " = ") (net_name net) (codes ";\n") ∙ ap (λ (b : Bool). if b then codes "  assign " ++ port.name ++ codes " = " ++ net_name net ++ codes ";\n" else []) (sym out)

output_passes : (name : List ℕ) → output_test name name ≡ None
output_passes name = rw (same-refl name) refl

pub assign_due : (memories : List Memory) (lines : List Line) (assigned : Bool) (port : PortLine) (net : ℕ) (rest : List ℕ) → length lines < 2 ^ 64 → IsPortName port.name → port.output ≡ true → width_at lines net ≡ Some port.width
    → Due (Form.whole net) rest (assign_form memories lines assigned port) (assign_line port (Some net))
assign_due memories lines assigned port net rest few is out width =
    let due = Form.whole net in
    let last = λ (k : ℕ). (fixed (codes ";\n") (Form.whole k)) in
    let ended : Due due rest (last net) (codes ";\n") = fixed_due due rest (codes ";\n") due [] Due.nothing in
    let right = net_due due rest lines port.width last net (codes ";\n") few width refl ended in
    let equals = fixed_due due rest (codes " = ") (net_form lines (λ v. v == port.width) last) _ right in
    let name = Due.hole (output_test port.name) (λ run. fixed (codes " = ") (net_form lines (λ v. v == port.width) last)) port.name (record { bytes = is.bytes; ends = refl }) (output_passes port.name) equals in
    let word = fixed_due due rest (codes "ssign ") _ _ name in
    subst (λ (t : List ℕ). Due due rest (assign_form memories lines assigned port) t) (assign_regroup port net out)
    (fixed_due due rest (codes "  a") _ _ (Due.turn (none_clocked_form memories lines assigned (driver_form lines port)) word))

pub assign_read : (memories : List Memory) (lines : List Line) (assigned : Bool) (port : PortLine) (net : ℕ) (rest : List ℕ) → length lines < 2 ^ 64 → IsPortName port.name → port.output ≡ true → width_at lines net ≡ Some port.width
    → Reads (assign_form memories lines assigned port) (assign_line port (Some net) ++ rest) net rest
assign_read memories lines assigned port net rest few is out width =
    record { front = assign_line port (Some net); parts = refl; good = assign_due memories lines assigned port net rest few is out width }

pub record AssignMeaning (lines : List Line) (port : PortLine) (net : ℕ) (front : List ℕ) : Type 0 where
  pub width : width_at lines net ≡ Some port.width
  pub spelled : front ≡ assign_line port (Some net)

-- no clocked line is read where none is due
pub none_clocked : {A : Type 0} (memories : List Memory) (lines : List Line) (assigned : Bool) (form : Form A) (b : Option ℕ) (e : A) (rest front : List ℕ) → Walked e rest (none_clocked_form memories lines assigned form b) front → Walked e rest form front
none_clocked memories lines assigned form b e rest front d =
    elim (cond_walked e rest (is_next (codes "l") b && not assigned) (always_form (other_net_form lines) (other_memory_form memories lines)) form front d) [
      | inl clocked ↦
          let always = always_walked (other_net_form lines) (other_memory_form memories lines) e rest front clocked in
          elim (always.2) [
            | inl register ↦ no_other_net lines e rest always.0 register
            | inr memory ↦ no_other_memory memories lines e rest always.0 memory
          ]
      | inr other ↦ other
    ]

pub assign_walked : (memories : List Memory) (lines : List Line) (assigned : Bool) (port : PortLine) (net : ℕ) (rest front : List ℕ) → length lines < 2 ^ 64 → port.output ≡ true → Walked net rest (assign_form memories lines assigned port) front → AssignMeaning lines port net front
assign_walked memories lines assigned port net rest front few out d =
    let last = λ (k : ℕ). (fixed (codes ";\n") (Form.whole k)) in
    let begun = fixed_walked net rest (codes "  a") (Form.turn (none_clocked_form memories lines assigned (driver_form lines port))) front d in
    let driver = none_clocked memories lines assigned (driver_form lines port) (next (begun.0 ++ rest)) net rest begun.0 (inverted net refl begun.2) in
    let word = fixed_walked net rest (codes "ssign ") (Form.hole (output_test port.name) (λ run. fixed (codes " = ") (net_form lines (λ v. v == port.width) last))) begun.0 driver in
    let (run, left, parts, none, walked, ends) = inverted net refl word.2 in
    let held = unless_held (same_bytes run port.name) Name None none in
    let is_name : run ≡ port.name = same_equal run port.name held.0 in
    let equals = fixed_walked net rest (codes " = ") (net_form lines (λ v. v == port.width) last) left walked in
    let right = net_walked lines port.width last net rest equals.0 few equals.2 in
    let ended = fixed_walked net rest (codes ";\n") (Form.whole right.net) right.later right.walked in
    let whole = inverted net refl ended.2 in
    let side : equals.0 ≡ net_name right.net ++ codes ";\n" = right.spelled ∙ ap (λ (t : List ℕ). net_name right.net ++ t) (ended.1 ∙ ap (λ (t : List ℕ). codes ";\n" ++ t) whole.1) in
    let named : word.0 ≡ port.name ++ (codes " = " ++ (net_name right.net ++ codes ";\n")) =
    parts ∙ ap (λ (t : List ℕ). t ++ left) is_name ∙ ap (λ (t : List ℕ). port.name ++ t) (equals.1 ∙ ap (λ (t : List ℕ). codes " = " ++ t) side) in
    let text : front ≡ assign_line port (Some right.net) =
    begun.1 ∙ ap (λ (t : List ℕ). codes "  a" ++ t) (word.1 ∙ ap (λ (t : List ℕ). codes "ssign " ++ t) named) ∙ assign_regroup port right.net out in
    subst (λ (x : ℕ). AssignMeaning lines port x front) whole.0 (record { width = right.width; spelled = text })

pub assign_sound : (memories : List Memory) (lines : List Line) (assigned : Bool) (port : PortLine) (net : ℕ) (text rest : List ℕ) → length lines < 2 ^ 64 → port.output ≡ true → Reads (assign_form memories lines assigned port) text net rest
    → (text ≡ assign_line port (Some net) ++ rest) × (width_at lines net ≡ Some port.width)
assign_sound memories lines assigned port net text rest few out r =
    let m = assign_walked memories lines assigned port net rest r.front few out r.good in
    (r.parts ∙ ap (λ (t : List ℕ). t ++ rest) m.spelled, m.width)
