-- The lines of nets, memories and outputs tell what they spell.
use Rattle.std.proofs.Common.{◌≡◌, ℕ, suc, ◌+◌, ◌-◌, ◌==◌, ◌<◌, ◌≤◌, ◌^◌, Bool, true, false, ◌||◌, List, [], ◌∷◌, ◌++◌, slice_get, Some, refl, sym, ap, ◌∙◌, arith, codes, decimal, append_assoc}
use Rattle.std.proofs.lemmas.List.{append_cancel_left}
use Rattle.av_base.specs.Word.{IsWord}
use Rattle.av_base.specs.declared.value.Val.{Val}
use Rattle.netlist.specs.declared.line.Equation.{Equation}
use Rattle.netlist.specs.declared.line.Equation.TheVariants.{Constant, Reg}
use Rattle.netlist.specs.declared.line.Line.{Line}
use Rattle.netlist.specs.declared.line.PortLine.{PortLine}
use Rattle.netlist.specs.Netlists.{is_input, is_register, line_of, line_with}
use Rattle.verilog_writer.specs.Text.{constant_text, net_name, right_text, wire_line, register_line, net_line, nets_text, clock_line, clocked_line, clocked_text}
use Rattle.verilog_forms.proofs.Cuts.{first, behind, cut_numbers}
use Rattle.verilog_forms.proofs.Rights.{IsPlain, right_of, right_reads}
use Rattle.verilog_forms.specs.Spellings.{true_false}

-- what a line's equation may be
pub data Kind (w : ℕ) (e : Equation) : Type 0 where
  of_input : is_input e ≡ true → Kind w e
  of_register : (reset : Val) (next : ℕ) → e ≡ Reg reset next → IsWord reset.width reset.bits → next < 2 ^ 64 → Kind w e
  of_net : is_register e ≡ false → IsPlain e → Kind w e

pub record Sound (line : Line) : Type 0 where
  pub some_bit : 1 ≤ line.width
  pub small : line.width ≤ 128
  pub still : line.waits ≡ false
  pub kind : Kind line.width line.equation

-- lines that differ at most in what a register takes
pub data Alike (a b : Line) : Type 0 where
  equal : a ≡ b → Alike a b
  both_registers : (w : ℕ) (reset reset' : Val) (next next' : ℕ) → a ≡ line_of w (Reg reset next) → b ≡ line_of w (Reg reset' next') → IsWord reset.width reset.bits → IsWord reset'.width reset'.bits
      → next < 2 ^ 64 → next' < 2 ^ 64 → Alike a b

abbrev pub AllAlike : List Line → List Line → Type 0
AllAlike [] [] = Unit {0}
AllAlike [] (b ∷ bs) = ⊥
AllAlike (a ∷ as_) [] = ⊥
AllAlike (a ∷ as_) (b ∷ bs) = Alike a b × AllAlike as_ bs

pub record Told (P : Type 0) (r s : List ℕ) : Type 0 where
  pub what : P
  pub rest : r ≡ s

abbrev pub third : List ℕ → ℕ
third t = first (behind (behind t))

pub wire_parts : (a b1 b2 b3 c d e f g r : List ℕ) → (a ++ (b1 ++ b2 ++ b3) ++ c ++ d ++ e ++ f ++ g) ++ r ≡ a ++ (b1 ++ (b2 ++ (b3 ++ (c ++ (d ++ (e ++ (f ++ (g ++ r))))))))
wire_parts a b1 b2 b3 c d e f g r = simp append_assoc

wire_shape : (ports : List PortLine) (n w : ℕ) (e : Equation) (r : List ℕ)
    → wire_line ports n w e ++ r ≡ codes "  wire [" ++ (decimal (w - 1) ++ (codes ":0] n" ++ (decimal n ++ (codes " = " ++ (right_text ports e ++ (codes ";\n" ++ r))))))
wire_shape ports n w e r = wire_parts (codes "  wire ") (codes "[") (decimal (w - 1)) (codes ":0]") (codes " ") (net_name n) (codes " = ") (right_text ports e) (codes ";\n") r

register_parts : (a b1 b2 b3 c d e r : List ℕ) → (a ++ (b1 ++ b2 ++ b3) ++ c ++ d ++ e) ++ r ≡ a ++ (b1 ++ (b2 ++ (b3 ++ (c ++ (d ++ (e ++ r))))))
register_parts a b1 b2 b3 c d e r = simp append_assoc

pub register_shape : (n w : ℕ) (r : List ℕ) → register_line n w ++ r ≡ codes "  reg [" ++ (decimal (w - 1) ++ (codes ":0] n" ++ (decimal n ++ (codes ";\n" ++ r))))
register_shape n w r = register_parts (codes "  reg ") (codes "[") (decimal (w - 1)) (codes ":0]") (codes " ") (net_name n) (codes ";\n") r

pub record SameEquation (w w' : ℕ) (e e' : Equation) : Type 0 where
  pub width : w ≡ w'
  pub equation : e ≡ e'

wire_tells : (ports : List PortLine) (n w w' : ℕ) (e e' : Equation) (r r' : List ℕ) → 1 ≤ w → w ≤ 128 → 1 ≤ w' → w' ≤ 128 → IsPlain e → IsPlain e'
    → wire_line ports n w e ++ r ≡ wire_line ports n w' e' ++ r' → Told (SameEquation w w' e e') r r'
wire_tells ports n w w' e e' r r' lo hi lo' hi' plain plain' is =
    let all = sym (wire_shape ports n w e r) ∙ is ∙ wire_shape ports n w' e' r' in
    let one = append_cancel_left (codes "  wire [") _ _ all in
    let width = cut_numbers (w - 1) (w' - 1) _ _ (omega arith) (omega arith) refl refl one in
    let two = append_cancel_left (codes " = ") _ _ (append_cancel_left (decimal n) _ _ (append_cancel_left (codes ":0] n") _ _ width.rest)) in
    let same : e ≡ e' = sym (right_reads ports e (codes ";\n" ++ r) plain refl) ∙ ap right_of two ∙ right_reads ports e' (codes ";\n" ++ r') plain' refl in
    let three = append_cancel_left (right_text ports e) _ _ (two ∙ ap (λ (x : Equation). right_text ports x ++ (codes ";\n" ++ r')) (sym same)) in
    record { what = record { width = omega (arith, width.same); equation = same }; rest = append_cancel_left (codes ";\n") r r' three }

register_tells : (n w w' : ℕ) (r r' : List ℕ) → 1 ≤ w → w ≤ 128 → 1 ≤ w' → w' ≤ 128 → register_line n w ++ r ≡ register_line n w' ++ r' → Told (w ≡ w') r r'
register_tells n w w' r r' lo hi lo' hi' is =
    let all = sym (register_shape n w r) ∙ is ∙ register_shape n w' r' in
    let one = append_cancel_left (codes "  reg [") _ _ all in
    let width = cut_numbers (w - 1) (w' - 1) _ _ (omega arith) (omega arith) refl refl one in
    let two = append_cancel_left (codes ";\n") r r' (append_cancel_left (decimal n) _ _ (append_cancel_left (codes ":0] n") _ _ width.rest)) in
    record { what = omega (arith, width.same); rest = two }

pub net_register : (ports : List PortLine) (n : ℕ) (line : Line) → is_register line.equation ≡ true → net_line ports n line ≡ register_line n line.width
net_register ports n line e = rw e refl

pub net_wire : (ports : List PortLine) (n : ℕ) (line : Line) → is_register line.equation ≡ false → net_line ports n line ≡ wire_line ports n line.width line.equation
net_wire ports n line e = rw e refl

is_reg : (e : Equation) (reset : Val) (next : ℕ) → e ≡ Reg reset next → is_register e ≡ true
is_reg e reset next is = ap is_register is

pub line_is : (line : Line) (w : ℕ) (e : Equation) → line.waits ≡ false → line.width ≡ w → line.equation ≡ e → line ≡ line_of w e
line_is line w e still width equation =
    ap (λ (x : Bool). line_with line.width line.equation x) still ∙ ap (λ (x : ℕ). line_with x line.equation false) width ∙ ap (λ (x : Equation). line_with w x false) equation

abbrev pub AgreeOnInputs : Line → Line → Type 0
AgreeOnInputs a b = (is_input a.equation ≡ true → a ≡ b) × (is_input b.equation ≡ true → a ≡ b)

not_alike : {X : Type 0} (t t' : List ℕ) → third t ≡ 114 → third t' ≡ 119 → t ≡ t' → X
not_alike t t' a b e = let same : third t ≡ third t' = ap third e in absurd (omega (arith, a, b, same))

same_rest : (ports : List PortLine) (n : ℕ) (a b : Line) (r r' : List ℕ) → a ≡ b → net_line ports n a ++ r ≡ net_line ports n b ++ r' → Told (Alike a b) r r'
same_rest ports n a b r r' same is =
    record { what = Alike.equal same; rest = append_cancel_left (net_line ports n a) r r' (is ∙ ap (λ (l : Line). net_line ports n l ++ r') (sym same)) }

pub wire_third : (ports : List PortLine) (n : ℕ) (a : Line) (r : List ℕ) → is_register a.equation ≡ false → third (net_line ports n a ++ r) ≡ 119
wire_third ports n a r k = ap (λ (t : List ℕ). third (t ++ r)) (net_wire ports n a k) ∙ ap third (wire_shape ports n a.width a.equation r)

register_third : (ports : List PortLine) (n : ℕ) (a : Line) (r : List ℕ) → is_register a.equation ≡ true → third (net_line ports n a ++ r) ≡ 114
register_third ports n a r k = ap (λ (t : List ℕ). third (t ++ r)) (net_register ports n a k) ∙ ap third (register_shape n a.width r)

kinds_tell : (ports : List PortLine) (n : ℕ) (a b : Line) (r r' : List ℕ) → Sound a → Sound b → Kind a.width a.equation → Kind b.width b.equation → AgreeOnInputs a b
    → net_line ports n a ++ r ≡ net_line ports n b ++ r' → Told (Alike a b) r r'
kinds_tell ports n a b r r' s s' (Kind.of_input i) k agree is = same_rest ports n a b r r' (agree.0 i) is
kinds_tell ports n a b r r' s s' k (Kind.of_input i) agree is = same_rest ports n a b r r' (agree.1 i) is
kinds_tell ports n a b r r' s s' (Kind.of_register reset next e fits few) (Kind.of_register reset' next' e' fits' few') agree is =
    let told = register_tells n a.width b.width r r' s.some_bit s.small s'.some_bit s'.small
    (ap (λ (t : List ℕ). t ++ r) (sym (net_register ports n a (is_reg _ reset next e))) ∙ is ∙ ap (λ (t : List ℕ). t ++ r') (net_register ports n b (is_reg _ reset' next' e'))) in
    record {
      what = Alike.both_registers a.width reset reset' next next' (line_is a a.width (Reg reset next) s.still refl e) (line_is b a.width (Reg reset' next') s'.still (sym told.what) e') fits fits' few few';
      rest = told.rest;
    }
kinds_tell ports n a b r r' s s' (Kind.of_register reset next e fits few) (Kind.of_net k' p') agree is =
    not_alike _ _ (register_third ports n a r (is_reg _ reset next e)) (wire_third ports n b r' k') is
kinds_tell ports n a b r r' s s' (Kind.of_net k p) (Kind.of_register reset' next' e' fits' few') agree is =
    not_alike _ _ (register_third ports n b r' (is_reg _ reset' next' e')) (wire_third ports n a r k) (sym is)
kinds_tell ports n a b r r' s s' (Kind.of_net k p) (Kind.of_net k' p') agree is =
    let told = wire_tells ports n a.width b.width a.equation b.equation r r' s.some_bit s.small s'.some_bit s'.small p p'
    (ap (λ (t : List ℕ). t ++ r) (sym (net_wire ports n a k)) ∙ is ∙ ap (λ (t : List ℕ). t ++ r') (net_wire ports n b k')) in
    let left = line_is a b.width b.equation s.still told.what.width told.what.equation in
    let right = line_is b b.width b.equation s'.still refl refl in
    record { what = Alike.equal (left ∙ sym right); rest = told.rest }

-- a text that begins with no line of a net
abbrev pub begins_net : List ℕ → Bool
begins_net t = third t == 119 || third t == 114

net_begins_as : (ports : List PortLine) (n : ℕ) (a : Line) (r : List ℕ) (b : Bool) → is_register a.equation ≡ b → begins_net (net_line ports n a ++ r) ≡ true
net_begins_as ports n a r true k = ap (λ (x : ℕ). x == 119 || x == 114) (register_third ports n a r k)
net_begins_as ports n a r false k = ap (λ (x : ℕ). x == 119 || x == 114) (wire_third ports n a r k)

net_begins : (ports : List PortLine) (n : ℕ) (a : Line) (r : List ℕ) → begins_net (net_line ports n a ++ r) ≡ true
net_begins ports n a r = net_begins_as ports n a r (is_register a.equation) refl

abbrev pub Each : (Line → Type 0) → List Line → Type 0
Each P lines = (k : ℕ) (line : Line) → slice_get lines k ≡ Some line → P line

abbrev pub Pairs : (Line → Line → Type 0) → List Line → List Line → Type 0
Pairs P as_ bs = (k : ℕ) (a b : Line) → slice_get as_ k ≡ Some a → slice_get bs k ≡ Some b → P a b

no_net : {X : Type 0} (t : List ℕ) (s : List ℕ) → begins_net t ≡ true → begins_net s ≡ false → t ≡ s → X
no_net t s does doesnt e = absurd (let clash : true ≡ false = sym does ∙ ap begins_net e ∙ doesnt in true_false clash)

pub nets_tell : (ports : List PortLine) (n : ℕ) (as_ bs : List Line) (r r' : List ℕ) → Each Sound as_ → Each Sound bs → Pairs AgreeOnInputs as_ bs → begins_net r ≡ false → begins_net r' ≡ false
    → nets_text ports n as_ ++ r ≡ nets_text ports n bs ++ r' → Told (AllAlike as_ bs) r r'
nets_tell ports n [] [] r r' sa sb agree stop stop' is = record { what = tt; rest = is }
nets_tell ports n [] (b ∷ bs) r r' sa sb agree stop stop' is =
    no_net _ r (net_begins ports n b (nets_text ports (n + 1) bs ++ r')) stop (sym (is ∙ append_assoc (net_line ports n b) (nets_text ports (n + 1) bs) r'))
nets_tell ports n (a ∷ as_) [] r r' sa sb agree stop stop' is =
    no_net _ r' (net_begins ports n a (nets_text ports (n + 1) as_ ++ r)) stop' (sym (append_assoc (net_line ports n a) (nets_text ports (n + 1) as_) r) ∙ is)
nets_tell ports n (a ∷ as_) (b ∷ bs) r r' sa sb agree stop stop' is =
    let s = sa 0 a refl in
    let s' = sb 0 b refl in
    let here = kinds_tell ports n a b (nets_text ports (n + 1) as_ ++ r) (nets_text ports (n + 1) bs ++ r') s s' s.kind s'.kind (agree 0 a b refl refl)
    (sym (append_assoc (net_line ports n a) (nets_text ports (n + 1) as_) r) ∙ is ∙ append_assoc (net_line ports n b) (nets_text ports (n + 1) bs) r') in
    let later = nets_tell ports (n + 1) as_ bs r r' (λ k line e. sa (suc k) line e) (λ k line e. sb (suc k) line e) (λ k x y e f. agree (suc k) x y e f) stop stop' here.rest in
    record { what = (here.what, later.what); rest = later.rest }

-- the registers' clocked lines

pub clock_parts : (a b c d e f g h i r : List ℕ) → (a ++ b ++ c ++ d ++ e ++ f ++ g ++ h ++ i) ++ r ≡ a ++ (b ++ (c ++ (d ++ (e ++ (f ++ (g ++ (h ++ (i ++ r))))))))
clock_parts a b c d e f g h i r = simp append_assoc

abbrev value_of : Val → Equation → Val
value_of d (Constant value) = value
value_of d _ = d

clock_tells : (n : ℕ) (reset reset' : Val) (next next' : ℕ) (r r' : List ℕ) → IsWord reset.width reset.bits → IsWord reset'.width reset'.bits → next < 2 ^ 64 → next' < 2 ^ 64
    → clock_line n reset.width reset.bits next ++ r ≡ clock_line n reset'.width reset'.bits next' ++ r' → Told (Reg reset next ≡ Reg reset' next') r r'
clock_tells n reset reset' next next' r r' fits fits' few few' is =
    let begins = codes "  always @(posedge clk) if (reset) " in
    let all = sym (clock_parts begins (net_name n) (codes " <= ") (constant_text reset.width reset.bits) (codes "; else ") (net_name n) (codes " <= ") (net_name next) (codes ";\n") r)
    ∙ is ∙ clock_parts begins (net_name n) (codes " <= ") (constant_text reset'.width reset'.bits) (codes "; else ") (net_name n) (codes " <= ") (net_name next') (codes ";\n") r' in
    let one = append_cancel_left (codes " <= ") _ _ (append_cancel_left (net_name n) _ _ (append_cancel_left begins _ _ all)) in
    let rest = λ (m : ℕ) (t : List ℕ). codes "; else " ++ (net_name n ++ (codes " <= " ++ (net_name m ++ (codes ";\n" ++ t)))) in
    let value : Constant reset ≡ Constant reset' =
    sym (right_reads [] (Constant reset) (rest next r) fits refl) ∙ ap right_of one ∙ right_reads [] (Constant reset') (rest next' r') fits' refl in
    let value_is : reset ≡ reset' = ap (value_of reset) value in
    let two = append_cancel_left (constant_text reset.width reset.bits) _ _ (one ∙ ap (λ (v : Val). constant_text v.width v.bits ++ rest next' r') (sym value_is)) in
    let three = append_cancel_left (codes " <= n") _ _ (append_cancel_left (net_name n) _ _ (append_cancel_left (codes "; else ") _ _ two)) in
    let number_is = cut_numbers next next' (codes ";\n" ++ r) (codes ";\n" ++ r') few few' refl refl three in
    record {
      what = ap (λ (v : Val). Reg v next) value_is ∙ ap (λ (m : ℕ). Reg reset' m) number_is.same;
      rest = append_cancel_left (codes ";\n") r r' number_is.rest;
    }

clocked_here : (n : ℕ) (a b : Line) (r r' : List ℕ) → Alike a b → clocked_line n a.equation ++ r ≡ clocked_line n b.equation ++ r' → Told (a ≡ b) r r'
clocked_here n a b r r' (Alike.equal e) is =
    record { what = e; rest = append_cancel_left (clocked_line n a.equation) r r' (is ∙ ap (λ (l : Line). clocked_line n l.equation ++ r') (sym e)) }
clocked_here n a b r r' (Alike.both_registers w reset reset' next next' e e' fits fits' few few') is =
    let told = clock_tells n reset reset' next next' r r' fits fits' few few'
    (ap (λ (l : Line). clocked_line n l.equation ++ r) (sym e) ∙ is ∙ ap (λ (l : Line). clocked_line n l.equation ++ r') e') in
    record { what = e ∙ ap (line_of w) told.what ∙ sym e'; rest = told.rest }

pub clocked_tell : (n : ℕ) (as_ bs : List Line) (r r' : List ℕ) → AllAlike as_ bs → clocked_text n as_ ++ r ≡ clocked_text n bs ++ r' → Told (as_ ≡ bs) r r'
clocked_tell n [] [] r r' alike is = record { what = refl; rest = is }
clocked_tell n [] (b ∷ bs) r r' alike is = absurd alike
clocked_tell n (a ∷ as_) [] r r' alike is = absurd alike
clocked_tell n (a ∷ as_) (b ∷ bs) r r' alike is =
    let here = clocked_here n a b (clocked_text (n + 1) as_ ++ r) (clocked_text (n + 1) bs ++ r') alike.0
    (sym (append_assoc (clocked_line n a.equation) (clocked_text (n + 1) as_) r) ∙ is ∙ append_assoc (clocked_line n b.equation) (clocked_text (n + 1) bs) r') in
    let later = clocked_tell (n + 1) as_ bs r r' alike.1 here.rest in
    record { what = ap (λ (x : Line). x ∷ as_) here.what ∙ ap (λ (xs : List Line). b ∷ xs) later.what; rest = later.rest }
