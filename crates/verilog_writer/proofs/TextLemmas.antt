-- the next item of a list, and what its text adds
use Rattle.std.proofs.Common.{◌≡◌, ℕ, zero, suc, ◌+◌, ◌<◌, true, false, List, [], ◌∷◌, ◌++◌, length, drop, slice_get, Option, Some, None, refl, sym, ap, ◌∙◌, arith, append_assoc, drop-cons, codes, decimal}
use Rattle.std.proofs.lemmas.Option.{slice_get_within, get_or_from_slice_get}
use Rattle.av_base.specs.declared.value.Val.{Val}
use Rattle.netlist.specs.declared.line.Line.{Line}
use Rattle.netlist.specs.declared.line.PortLine.{PortLine}
use Rattle.netlist.specs.declared.line.Memory.{Memory}
use Rattle.netlist.specs.declared.line.MemWrite.{MemWrite}
use Rattle.netlist.specs.declared.line.Equation.{Equation}
use Rattle.netlist.specs.declared.line.Equation.TheVariants.{Reg}
use Rattle.netlist.specs.Netlists.{Netlist, HasWidth, is_register, line_of}
use Rattle.verilog_writer.specs.Text.{wire_line, register_line, net_line, net_name, nets_text, constant_text, clock_line, clocked_line, clocked_text, memory_name, memory_line, memories_text, write_line, written_line, writes_text, assign_line, assigns_text}

-- what is left to write, after one more piece of it
pub written_more : (old new add rest next total : List ℕ) → new ≡ old ++ add → rest ≡ add ++ next → old ++ rest ≡ total → new ++ next ≡ total
written_more old new add rest next total now is known =
    ap (λ (t : List ℕ). t ++ next) now ∙ append_assoc old add next ∙ ap (λ (t : List ℕ). old ++ t) (sym is) ∙ known

drop_get : {X : Type 0} (xs : List X) (n : ℕ) (x : X) → slice_get xs n ≡ Some x → drop n xs ≡ x ∷ drop (n + 1) xs
drop_get xs n x e =
    let inside = slice_get_within xs n x e in
    let one : suc n ≡ n + 1 = omega arith in
    drop-cons xs n x inside ∙ ap (λ y. y ∷ drop (suc n) xs) (get_or_from_slice_get xs n x x e) ∙ ap (λ (k : ℕ). x ∷ drop k xs) one

pub nets_step : (ports : List PortLine) (lines : List Line) (n : ℕ) (line : Line) → slice_get lines n ≡ Some line →
    nets_text ports n (drop n lines) ≡ net_line ports n line ++ nets_text ports (n + 1) (drop (n + 1) lines)
nets_step ports lines n line e = ap (nets_text ports n) (drop_get lines n line e)

pub clocked_step : (lines : List Line) (n : ℕ) (line : Line) → slice_get lines n ≡ Some line →
    clocked_text n (drop n lines) ≡ clocked_line n line.equation ++ clocked_text (n + 1) (drop (n + 1) lines)
clocked_step lines n line e = ap (clocked_text n) (drop_get lines n line e)

pub memories_step : (memories : List Memory) (m : ℕ) (memory : Memory) → slice_get memories m ≡ Some memory →
    memories_text m (drop m memories) ≡ memory_line m memory ++ memories_text (m + 1) (drop (m + 1) memories)
memories_step memories m memory e = ap (memories_text m) (drop_get memories m memory e)

pub writes_step : (memories : List Memory) (m : ℕ) (memory : Memory) → slice_get memories m ≡ Some memory →
    writes_text m (drop m memories) ≡ written_line m memory.write ++ writes_text (m + 1) (drop (m + 1) memories)
writes_step memories m memory e = ap (writes_text m) (drop_get memories m memory e)

pub assigns_step : (ports : List PortLine) (drivers : List (Option ℕ)) (k : ℕ) (port : PortLine) (driver : Option ℕ) → slice_get ports k ≡ Some port → slice_get drivers k ≡ Some driver →
    assigns_text (drop k ports) (drop k drivers) ≡ assign_line port driver ++ assigns_text (drop (k + 1) ports) (drop (k + 1) drivers)
assigns_step ports drivers k port driver e f =
    ap (λ (ps : List PortLine). assigns_text ps (drop k drivers)) (drop_get ports k port e) ∙ ap (assigns_text (port ∷ drop (k + 1) ports)) (drop_get drivers k driver f)

-- an input has no line
pub assign_input : (port : PortLine) (driver : Option ℕ) → port.output ≡ false → assign_line port driver ≡ []
assign_input port None e = refl
assign_input port (Some net) e = rw e refl

pub assign_output : (port : PortLine) (net : ℕ) → port.output ≡ true → assign_line port (Some net) ≡ codes "  assign " ++ port.name ++ codes " = " ++ net_name net ++ codes ";\n"
assign_output port net e = rw e refl

pub item_at : {X : Type 0} (xs : List X) (n : ℕ) → n < length xs → (x : X) × (slice_get xs n ≡ Some x)
item_at [] n h = absurd (omega arith)
item_at (x ∷ xs) zero h = (x, refl)
item_at (x ∷ xs) (suc n) h = item_at xs n (omega arith)

-- a line, by its width and equation
pub line_here : (netlist : Netlist) (n w : ℕ) (e : Equation) (line : Line) → HasWidth netlist n w → ((v : ℕ) → HasWidth netlist n v → slice_get netlist.lines n ≡ Some (line_of v e))
    → slice_get netlist.lines n ≡ Some line → line ≡ line_of w e
line_here netlist n w e line has same at = let is = same w has in cc

pub equation_here : (netlist : Netlist) (n : ℕ) (e : Equation) (line : Line) → ((v : ℕ) → HasWidth netlist n v → slice_get netlist.lines n ≡ Some (line_of v e))
    → slice_get netlist.lines n ≡ Some line → line.equation ≡ e
equation_here netlist n e line same at =
    let has : HasWidth netlist n line.width = rw at refl in
    let is : line ≡ line_of line.width e = line_here netlist n line.width e line has same at in
    ap (λ (l : Line). l.equation) is

pub net_line-register : (ports : List PortLine) (n w : ℕ) (e : Equation) (line : Line) → line ≡ line_of w e → is_register e ≡ true → net_line ports n line ≡ register_line n w
net_line-register ports n w e line is t = rw (is, t) refl

pub net_line-wire : (ports : List PortLine) (n w : ℕ) (e : Equation) (line : Line) → line ≡ line_of w e → is_register e ≡ false → net_line ports n line ≡ wire_line ports n w e
net_line-wire ports n w e line is t = rw (is, t) refl

-- a net that is no register has no clocked line
pub unclocked : (n : ℕ) (e : Equation) → ((reset : Val) (next : ℕ) → e ≡ Reg reset next → ⊥) → clocked_line n e ≡ []
unclocked n (Reg reset next) h = absurd (h reset next refl)
unclocked n _ h = refl

-- three pieces written one after the other
pub written_thrice : (old a b c x y z whole : List ℕ) → a ≡ old ++ x → b ≡ a ++ y → c ≡ b ++ z → x ++ (y ++ z) ≡ whole → c ≡ old ++ whole
written_thrice old a b c x y z whole e f g is = let all : c ≡ old ++ x ++ y ++ z = cc in all ∙ simp append_assoc (ap (λ (t : List ℕ). old ++ t) is)

regrouped : (a b c d e f g h i : List ℕ) → a ++ b ++ c ++ d ++ e ++ f ++ g ++ h ++ i ≡ (a ++ (b ++ c)) ++ (d ++ (e ++ (f ++ (g ++ (h ++ i)))))
regrouped a b c d e f g h i = simp append_assoc

-- the parts in which a clocked line is written
pub clock_line-parts : (n width reset next : ℕ) →
    clock_line n width reset next ≡ (codes "  always @(posedge clk) if (reset) n" ++ (decimal n ++ codes " <= ")) ++ (constant_text width reset ++ (codes "; else n" ++ (decimal n ++ (codes " <= n" ++ (decimal next ++ codes ";\n")))))
clock_line-parts n width reset next = regrouped (codes "  always @(posedge clk) if (reset) ") (net_name n) (codes " <= ") (constant_text width reset) (codes "; else ") (net_name n) (codes " <= ") (net_name next) (codes ";\n")

rightward : (a b c d e f g h i : List ℕ) → a ++ b ++ c ++ d ++ e ++ f ++ g ++ h ++ i ≡ a ++ (b ++ (c ++ (d ++ (e ++ (f ++ (g ++ (h ++ i)))))))
rightward a b c d e f g h i = simp append_assoc

-- the parts in which a memory's clocked line is written
pub write_line-parts : (m : ℕ) (write : MemWrite) →
    write_line m write ≡ codes "  always @(posedge clk) if (n" ++ (decimal write.enable ++ (codes ") m" ++ (decimal m ++ (codes "[n" ++ (decimal write.address ++ (codes "] <= n" ++ (decimal write.word ++ codes ";\n")))))))
write_line-parts m write = rightward (codes "  always @(posedge clk) if (") (net_name write.enable) (codes ") ") (memory_name m) (codes "[") (net_name write.address) (codes "] <= ") (net_name write.word) (codes ";\n")
