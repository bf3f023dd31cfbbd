-- The header and the lines of outputs tell what they spell.
use Rattle.std.proofs.Common.{◌≡◌, ℕ, suc, ◌-◌, ◌<◌, ◌≤◌, ◌^◌, Bool, true, false, ◌||◌, List, [], ◌∷◌, ◌++◌, slice_get, Option, Some, None, refl, sym, ap, ◌∙◌, arith, codes, decimal, append_assoc}
use Rattle.std.specs.List.{list_all}
use Rattle.std.specs.Prelude.{if◌then◌else◌}
use Rattle.std.proofs.lemmas.List.{append_cancel_left}
use Rattle.netlist.specs.declared.line.PortLine.{PortLine}
use Rattle.netlist.specs.Names.{is_name_byte, is_dollar}
use Rattle.verilog_writer.specs.Text.{net_name, port_text, ports_text, assign_line, assigns_text}
use Rattle.verilog_forms.proofs.Cuts.{first, behind, cut, cut_numbers}
use Rattle.verilog_forms.specs.Spellings.{stops, true_false}
use Rattle.verilog_forms.proofs.Lines.{Told}

abbrev pub name_byte : ℕ → Bool
name_byte b = is_name_byte b || is_dollar b

pub record GoodPort (port : PortLine) : Type 0 where
  pub name : list_all name_byte port.name ≡ true
  pub some_bit : 1 ≤ port.width
  pub small : port.width ≤ 128

abbrev pub EachPort : List PortLine → Type 0
EachPort ports = (k : ℕ) (port : PortLine) → slice_get ports k ≡ Some port → GoodPort port

port_parts : (a b c d1 d2 d3 e f r : List ℕ) → (a ++ b ++ c ++ (d1 ++ d2 ++ d3) ++ e ++ f) ++ r ≡ a ++ (b ++ (c ++ (d1 ++ (d2 ++ (d3 ++ (e ++ (f ++ r)))))))
port_parts a b c d1 d2 d3 e f r = simp append_assoc

abbrev direction : Bool → List ℕ
direction out = if out then codes "output" else codes "input"

port_shape : (port : PortLine) (r : List ℕ) → port_text port ++ r ≡ codes ",\n  " ++ (direction port.output ++ (codes " wire [" ++ (decimal (port.width - 1) ++ (codes ":0] " ++ (port.name ++ r)))))
port_shape port r = port_parts (codes ",\n  ") (direction port.output) (codes " wire ") (codes "[") (decimal (port.width - 1)) (codes ":0]") (codes " ") port.name r

directions_tell : (x y : Bool) (r r' : List ℕ) → direction x ++ r ≡ direction y ++ r' → Told (x ≡ y) r r'
directions_tell true true r r' is = record { what = refl; rest = append_cancel_left (codes "output") r r' is }
directions_tell false false r r' is = record { what = refl; rest = append_cancel_left (codes "input") r r' is }
directions_tell true false r r' is = let clash : 111 ≡ 105 = ap first is in absurd (omega (arith, clash))
directions_tell false true r r' is = let clash : 105 ≡ 111 = ap first is in absurd (omega (arith, clash))

port_is : (p q : PortLine) → p.name ≡ q.name → p.width ≡ q.width → p.output ≡ q.output → p ≡ q
port_is p q a b c =
    let make = λ (n : List ℕ) (w : ℕ) (out : Bool). (let it : PortLine = record { name = n; width = w; output = out } in it) in
    ap (λ (n : List ℕ). make n p.width p.output) a ∙ ap (λ (w : ℕ). make q.name w p.output) b ∙ ap (λ (o : Bool). make q.name q.width o) c

port_tells : (p q : PortLine) (r r' : List ℕ) → GoodPort p → GoodPort q → stops name_byte r ≡ true → stops name_byte r' ≡ true → port_text p ++ r ≡ port_text q ++ r' → Told (p ≡ q) r r'
port_tells p q r r' g g' stop stop' is =
    let way = directions_tell p.output q.output _ _ (append_cancel_left (codes ",\n  ") _ _ (sym (port_shape p r) ∙ is ∙ port_shape q r')) in
    let width = cut_numbers (p.width - 1) (q.width - 1) _ _ (omega (arith, g.small)) (omega (arith, g'.small)) refl refl (append_cancel_left (codes " wire [") _ _ way.rest) in
    let name = cut name_byte p.name q.name r r' g.name g'.name stop stop' (append_cancel_left (codes ":0] ") _ _ width.rest) in
    record { what = port_is p q name.run (omega (arith, width.same, g.some_bit, g'.some_bit)) way.what; rest = name.rest }

-- behind the ports a line ends
abbrev ending : List ℕ → List ℕ
ending r = 10 ∷ r

ports_stop : (ports : List PortLine) (r : List ℕ) → stops name_byte (ports_text ports ++ ending r) ≡ true
ports_stop [] r = refl
ports_stop (p ∷ ports) r =
    ap (stops name_byte) (append_assoc (port_text p) (ports_text ports) (ending r)) ∙ ap (stops name_byte) (port_shape p (ports_text ports ++ ending r))

pub ports_tell : (ps qs : List PortLine) (r r' : List ℕ) → EachPort ps → EachPort qs → ports_text ps ++ (10 ∷ r) ≡ ports_text qs ++ (10 ∷ r') → Told (ps ≡ qs) r r'
ports_tell [] [] r r' gs gs' is = record { what = refl; rest = ap behind is }
ports_tell [] (q ∷ qs) r r' gs gs' is =
    let clash : 10 ≡ 44 = ap first (is ∙ append_assoc (port_text q) (ports_text qs) (ending r') ∙ port_shape q (ports_text qs ++ ending r')) in
    absurd (omega (arith, clash))
ports_tell (p ∷ ps) [] r r' gs gs' is =
    let clash : 10 ≡ 44 = ap first (sym is ∙ append_assoc (port_text p) (ports_text ps) (ending r) ∙ port_shape p (ports_text ps ++ ending r)) in
    absurd (omega (arith, clash))
ports_tell (p ∷ ps) (q ∷ qs) r r' gs gs' is =
    let here = port_tells p q (ports_text ps ++ ending r) (ports_text qs ++ ending r') (gs 0 p refl) (gs' 0 q refl) (ports_stop ps r) (ports_stop qs r')
    (sym (append_assoc (port_text p) (ports_text ps) (ending r)) ∙ is ∙ append_assoc (port_text q) (ports_text qs) (ending r')) in
    let later = ports_tell ps qs r r' (λ k x e. gs (suc k) x e) (λ k x e. gs' (suc k) x e) here.rest in
    record { what = ap (λ (x : PortLine). x ∷ ps) here.what ∙ ap (λ (xs : List PortLine). q ∷ xs) later.what; rest = later.rest }

-- what may drive a port
pub data Driven (port : PortLine) (driver : Option ℕ) : Type 0 where
  by_none : port.output ≡ false → driver ≡ None → Driven port driver
  by_net : (n : ℕ) → port.output ≡ true → driver ≡ Some n → n < 2 ^ 64 → Driven port driver

abbrev pub AllDriven : List PortLine → List (Option ℕ) → Type 0
AllDriven [] [] = Unit {0}
AllDriven [] (d ∷ ds) = ⊥
AllDriven (p ∷ ps) [] = ⊥
AllDriven (p ∷ ps) (d ∷ ds) = Driven p d × AllDriven ps ds

pub assign_parts : (a b c d e r : List ℕ) → (a ++ b ++ c ++ d ++ e) ++ r ≡ a ++ (b ++ (c ++ (d ++ (e ++ r))))
assign_parts a b c d e r = simp append_assoc

assign_shape : (port : PortLine) (n : ℕ) (d : Option ℕ) (r : List ℕ) → port.output ≡ true → d ≡ Some n
    → assign_line port d ++ r ≡ codes "  assign " ++ (port.name ++ (codes " = " ++ (net_name n ++ (codes ";\n" ++ r))))
assign_shape port n d r out is =
    ap (λ (x : Option ℕ). assign_line port x ++ r) is
    ∙ ap (λ (b : Bool). (if b then codes "  assign " ++ port.name ++ codes " = " ++ net_name n ++ codes ";\n" else []) ++ r) out
    ∙ assign_parts (codes "  assign ") port.name (codes " = ") (net_name n) (codes ";\n") r

assign_tells : (port : PortLine) (d e : Option ℕ) (r r' : List ℕ) → Driven port d → Driven port e → assign_line port d ++ r ≡ assign_line port e ++ r' → Told (d ≡ e) r r'
assign_tells port d e r r' (Driven.by_none a f) (Driven.by_none b g) is =
    let same : d ≡ e = f ∙ sym g in
    record { what = same; rest = append_cancel_left (assign_line port d) r r' (is ∙ ap (λ (x : Option ℕ). assign_line port x ++ r') (sym same)) }
assign_tells port d e r r' (Driven.by_none a f) (Driven.by_net n b g small) is = absurd (true_false (sym b ∙ a))
assign_tells port d e r r' (Driven.by_net n a f small) (Driven.by_none b g) is = absurd (true_false (sym a ∙ b))
assign_tells port d e r r' (Driven.by_net n a f small) (Driven.by_net m b g small') is =
    let all = sym (assign_shape port n d r a f) ∙ is ∙ assign_shape port m e r' b g in
    let told = cut_numbers n m _ _ small small' refl refl (append_cancel_left (codes " = n") _ _ (append_cancel_left port.name _ _ (append_cancel_left (codes "  assign ") _ _ all))) in
    record { what = f ∙ ap (λ (x : ℕ). Some x) told.same ∙ sym g; rest = append_cancel_left (codes ";\n") r r' told.rest }

pub assigns_tell : (ports : List PortLine) (ds es : List (Option ℕ)) (r r' : List ℕ) → AllDriven ports ds → AllDriven ports es → assigns_text ports ds ++ r ≡ assigns_text ports es ++ r' → Told (ds ≡ es) r r'
assigns_tell [] [] [] r r' a b is = record { what = refl; rest = is }
assigns_tell [] [] (e ∷ es) r r' a b is = absurd b
assigns_tell [] (d ∷ ds) es r r' a b is = absurd a
assigns_tell (p ∷ ps) [] es r r' a b is = absurd a
assigns_tell (p ∷ ps) (d ∷ ds) [] r r' a b is = absurd b
assigns_tell (p ∷ ps) (d ∷ ds) (e ∷ es) r r' a b is =
    let here = assign_tells p d e (assigns_text ps ds ++ r) (assigns_text ps es ++ r') a.0 b.0
    (sym (append_assoc (assign_line p d) (assigns_text ps ds) r) ∙ is ∙ append_assoc (assign_line p e) (assigns_text ps es) r') in
    let later = assigns_tell ps ds es r r' a.1 b.1 here.rest in
    record { what = ap (λ (x : Option ℕ). x ∷ ds) here.what ∙ ap (λ (xs : List (Option ℕ)). e ∷ xs) later.what; rest = later.rest }
