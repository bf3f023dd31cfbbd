-- The lines of memories tell what they spell.
use Rattle.std.proofs.Common.{◌≡◌, ℕ, suc, ◌+◌, ◌-◌, ◌<◌, ◌≤◌, ◌^◌, Bool, true, false, List, [], ◌∷◌, ◌++◌, slice_get, Option, Some, refl, sym, ap, ◌∙◌, arith, codes, decimal, append_assoc}
use Rattle.std.proofs.lemmas.List.{append_cancel_left}
use Rattle.std.proofs.lemmas.Nat.{pow_below, pow_pos}
use Rattle.std.proofs.Math.Nat.{pow-le-pow_right}
use Rattle.netlist.specs.declared.line.Line.{Line}
use Rattle.netlist.specs.declared.line.PortLine.{PortLine}
use Rattle.netlist.specs.declared.line.Memory.{Memory}
use Rattle.netlist.specs.declared.line.MemWrite.{MemWrite}
use Rattle.netlist.specs.Netlists.{is_register}
use Rattle.verilog_writer.specs.Text.{net_name, memory_name, memory_line, memories_text, net_line, nets_text, write_line, written_line, writes_text}
use Rattle.verilog_forms.proofs.Cuts.{first, behind, cut_numbers}
use Rattle.verilog_forms.proofs.Lines.{Told, Sound, Each, third, wire_third, net_register, register_shape, begins_net}
use Rattle.verilog_forms.specs.Spellings.{true_false}

abbrev with : ℕ → ℕ → MemWrite → Memory
with w bits write = record { width = w; address_bits = bits; write = Some write }

-- a memory with its write
pub record Whole (memory : Memory) : Type 0 where
  pub write : MemWrite
  pub is : memory.write ≡ Some write
  pub enable : write.enable < 2 ^ 64
  pub address : write.address < 2 ^ 64
  pub word : write.word < 2 ^ 64
  pub some_bit : 1 ≤ memory.width
  pub small : memory.width ≤ 128
  pub some_address : 1 ≤ memory.address_bits
  pub few : memory.address_bits ≤ 10

pub record SameSize (a b : Memory) : Type 0 where
  pub width : a.width ≡ b.width
  pub bits : a.address_bits ≡ b.address_bits

abbrev pub AllSameSize : List Memory → List Memory → Type 0
AllSameSize [] [] = Unit {0}
AllSameSize [] (b ∷ bs) = ⊥
AllSameSize (a ∷ as_) [] = ⊥
AllSameSize (a ∷ as_) (b ∷ bs) = SameSize a b × AllSameSize as_ bs

abbrev pub EachMemory : List Memory → Type 0
EachMemory ms = (k : ℕ) (memory : Memory) → slice_get ms k ≡ Some memory → Whole memory

memory_parts : (a b1 b2 b3 c d e f g r : List ℕ) → (a ++ (b1 ++ b2 ++ b3) ++ c ++ d ++ e ++ f ++ g) ++ r ≡ a ++ (b1 ++ (b2 ++ (b3 ++ (c ++ (d ++ (e ++ (f ++ (g ++ r))))))))
memory_parts a b1 b2 b3 c d e f g r = simp append_assoc

pub memory_shape : (m : ℕ) (memory : Memory) (r : List ℕ)
    → memory_line m memory ++ r ≡ codes "  reg [" ++ (decimal (memory.width - 1) ++ (codes ":0] m" ++ (decimal m ++ (codes " [0:" ++ (decimal (2 ^ memory.address_bits - 1) ++ (codes "];\n" ++ r))))))
memory_shape m memory r = memory_parts (codes "  reg ") (codes "[") (decimal (memory.width - 1)) (codes ":0]") (codes " ") (memory_name m) (codes " [0:") (decimal (2 ^ memory.address_bits - 1)) (codes "];\n") r

pub few_words : (k : ℕ) → k ≤ 10 → 2 ^ k ≤ 2 ^ 10
few_words k h = pow-le-pow_right {n = 2} (omega arith) h

one_depth : (j k : ℕ) → 2 ^ j - 1 ≡ 2 ^ k - 1 → j ≡ k
one_depth j k e = grind (arith, pow_below j k, pow_below k j, pow_pos j, pow_pos k)

memory_tells : (m : ℕ) (a b : Memory) (r r' : List ℕ) → Whole a → Whole b → memory_line m a ++ r ≡ memory_line m b ++ r' → Told (SameSize a b) r r'
memory_tells m a b r r' s s' is =
    let one = append_cancel_left (codes "  reg [") _ _ (sym (memory_shape m a r) ∙ is ∙ memory_shape m b r') in
    let width = cut_numbers (a.width - 1) (b.width - 1) _ _ (omega (arith, s.small)) (omega (arith, s'.small)) refl refl one in
    let two = append_cancel_left (codes " [0:") _ _ (append_cancel_left (decimal m) _ _ (append_cancel_left (codes ":0] m") _ _ width.rest)) in
    let depth = cut_numbers (2 ^ a.address_bits - 1) (2 ^ b.address_bits - 1) _ _ (omega (arith, few_words a.address_bits s.few)) (omega (arith, few_words b.address_bits s'.few)) refl refl two in
    record {
      what = record { width = omega (arith, width.same, s.some_bit, s'.some_bit); bits = one_depth a.address_bits b.address_bits depth.same };
      rest = append_cancel_left (codes "];\n") r r' depth.rest;
    }

-- a text that begins with no line of a memory
abbrev pub NoMemory : List ℕ → Type 0
NoMemory t = (w : ℕ) → w < 2 ^ 64 → (x : List ℕ) → t ≡ codes "  reg [" ++ (decimal w ++ (codes ":0] m" ++ x)) → ⊥

no_memory_as : (ports : List PortLine) (n : ℕ) (line : Line) (r : List ℕ) → Sound line → (b : Bool) → is_register line.equation ≡ b → NoMemory (net_line ports n line ++ r)
no_memory_as ports n line r s true k w small x is =
    let one = append_cancel_left (codes "  reg [") _ _ (sym (register_shape n line.width r) ∙ ap (λ (t : List ℕ). t ++ r) (sym (net_register ports n line k)) ∙ is) in
    let width = cut_numbers (line.width - 1) w _ _ (omega (arith, s.small)) small refl refl one in
    let clash : 110 ≡ 109 = ap (λ (t : List ℕ). first (behind (behind (behind (behind t))))) width.rest in
    omega (arith, clash)
no_memory_as ports n line r s false k w small x is =
    let clash : 119 ≡ 114 = sym (wire_third ports n line r k) ∙ ap third is in
    omega (arith, clash)

pub no_memory_in_nets : (ports : List PortLine) (n : ℕ) (lines : List Line) (r : List ℕ) → Each Sound lines → begins_net r ≡ false → NoMemory (nets_text ports n lines ++ r)
no_memory_in_nets ports n [] r each stop w small x is = true_false (sym (ap begins_net is) ∙ stop)
no_memory_in_nets ports n (line ∷ lines) r each stop w small x is =
    no_memory_as ports n line (nets_text ports (n + 1) lines ++ r) (each 0 line refl) (is_register line.equation) refl w small x
    (sym (append_assoc (net_line ports n line) (nets_text ports (n + 1) lines) r) ∙ is)

pub memories_tell : (m : ℕ) (as_ bs : List Memory) (r r' : List ℕ) → EachMemory as_ → EachMemory bs → NoMemory r → NoMemory r' → memories_text m as_ ++ r ≡ memories_text m bs ++ r' → Told (AllSameSize as_ bs) r r'
memories_tell m [] [] r r' sa sb stop stop' is = record { what = tt; rest = is }
memories_tell m [] (b ∷ bs) r r' sa sb stop stop' is =
    absurd (stop (b.width - 1) (omega (arith, (sb 0 b refl).small)) _ (is ∙ append_assoc (memory_line m b) (memories_text (m + 1) bs) r' ∙ memory_shape m b (memories_text (m + 1) bs ++ r')))
memories_tell m (a ∷ as_) [] r r' sa sb stop stop' is =
    absurd (stop' (a.width - 1) (omega (arith, (sa 0 a refl).small)) _ (sym is ∙ append_assoc (memory_line m a) (memories_text (m + 1) as_) r ∙ memory_shape m a (memories_text (m + 1) as_ ++ r)))
memories_tell m (a ∷ as_) (b ∷ bs) r r' sa sb stop stop' is =
    let here = memory_tells m a b (memories_text (m + 1) as_ ++ r) (memories_text (m + 1) bs ++ r') (sa 0 a refl) (sb 0 b refl)
    (sym (append_assoc (memory_line m a) (memories_text (m + 1) as_) r) ∙ is ∙ append_assoc (memory_line m b) (memories_text (m + 1) bs) r') in
    let later = memories_tell (m + 1) as_ bs r r' (λ k x e. sa (suc k) x e) (λ k x e. sb (suc k) x e) stop stop' here.rest in
    record { what = (here.what, later.what); rest = later.rest }

pub write_parts : (a b c d e f g h i r : List ℕ) → (a ++ b ++ c ++ d ++ e ++ f ++ g ++ h ++ i) ++ r ≡ a ++ (b ++ (c ++ (d ++ (e ++ (f ++ (g ++ (h ++ (i ++ r))))))))
write_parts a b c d e f g h i r = simp append_assoc

write_is : (e e' a a' w w' : ℕ) → e ≡ e' → a ≡ a' → w ≡ w' → (let x : MemWrite = record { enable = e; address = a; word = w } in x) ≡ record { enable = e'; address = a'; word = w' }
write_is e e' a a' w w' p q s = cc

write_tells : (m : ℕ) (x y : MemWrite) (r r' : List ℕ) → x.enable < 2 ^ 64 → x.address < 2 ^ 64 → x.word < 2 ^ 64 → y.enable < 2 ^ 64 → y.address < 2 ^ 64 → y.word < 2 ^ 64
    → write_line m x ++ r ≡ write_line m y ++ r' → Told (x ≡ y) r r'
write_tells m x y r r' a1 a2 a3 b1 b2 b3 is =
    let begins = codes "  always @(posedge clk) if (" in
    let all = sym (write_parts begins (net_name x.enable) (codes ") ") (memory_name m) (codes "[") (net_name x.address) (codes "] <= ") (net_name x.word) (codes ";\n") r)
    ∙ is ∙ write_parts begins (net_name y.enable) (codes ") ") (memory_name m) (codes "[") (net_name y.address) (codes "] <= ") (net_name y.word) (codes ";\n") r' in
    let enable = cut_numbers x.enable y.enable _ _ a1 b1 refl refl (append_cancel_left (codes "n") _ _ (append_cancel_left begins _ _ all)) in
    let address = cut_numbers x.address y.address _ _ a2 b2 refl refl (append_cancel_left (codes "[n") _ _ (append_cancel_left (memory_name m) _ _ (append_cancel_left (codes ") ") _ _ enable.rest))) in
    let word = cut_numbers x.word y.word _ _ a3 b3 refl refl (append_cancel_left (codes "] <= n") _ _ address.rest) in
    record { what = write_is x.enable y.enable x.address y.address x.word y.word enable.same address.same word.same; rest = append_cancel_left (codes ";\n") r r' word.rest }

memory_is : (a b : Memory) (x y : MemWrite) → SameSize a b → a.write ≡ Some x → b.write ≡ Some y → x ≡ y → a ≡ b
memory_is a b x y size e f same =
    let writes : a.write ≡ b.write = e ∙ ap (λ (w : MemWrite). Some w) same ∙ sym f in
    let make = λ (w bits : ℕ) (write : Option MemWrite). (let it : Memory = record { width = w; address_bits = bits; write = write } in it) in
    ap (λ (w : Option MemWrite). make a.width a.address_bits w) writes ∙ ap (λ (n : ℕ). make n a.address_bits b.write) size.width ∙ ap (λ (n : ℕ). make b.width n b.write) size.bits

pub writes_tell : (m : ℕ) (as_ bs : List Memory) (r r' : List ℕ) → EachMemory as_ → EachMemory bs → AllSameSize as_ bs → writes_text m as_ ++ r ≡ writes_text m bs ++ r' → Told (as_ ≡ bs) r r'
writes_tell m [] [] r r' sa sb size is = record { what = refl; rest = is }
writes_tell m [] (b ∷ bs) r r' sa sb size is = absurd size
writes_tell m (a ∷ as_) [] r r' sa sb size is = absurd size
writes_tell m (a ∷ as_) (b ∷ bs) r r' sa sb size is =
    let s = sa 0 a refl in
    let s' = sb 0 b refl in
    let here = write_tells m s.write s'.write (writes_text (m + 1) as_ ++ r) (writes_text (m + 1) bs ++ r') s.enable s.address s.word s'.enable s'.address s'.word
    (ap (λ (w : Option MemWrite). written_line m w ++ (writes_text (m + 1) as_ ++ r)) (sym s.is)
    ∙ sym (append_assoc (written_line m a.write) (writes_text (m + 1) as_) r) ∙ is ∙ append_assoc (written_line m b.write) (writes_text (m + 1) bs) r'
    ∙ ap (λ (w : Option MemWrite). written_line m w ++ (writes_text (m + 1) bs ++ r')) s'.is) in
    let later = writes_tell (m + 1) as_ bs r r' (λ k x e. sa (suc k) x e) (λ k x e. sb (suc k) x e) size.1 here.rest in
    let same = memory_is a b s.write s'.write size.0 s.is s'.is here.what in
    record { what = ap (λ (x : Memory). x ∷ as_) same ∙ ap (λ (xs : List Memory). b ∷ xs) later.what; rest = later.rest }
