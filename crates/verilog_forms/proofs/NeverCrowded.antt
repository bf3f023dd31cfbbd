-- No form but those of nets breaks for want of room.
use Rattle.std.proofs.Common.{◌≡◌, ◌≢◌, ℕ, zero, suc, ◌+◌, ◌-◌, ◌^◌, ◌==◌, Bool, true, false, cond, List, [], ◌∷◌, ◌++◌, length, slice_get, Option, Some, None, codes}
use Rattle.std.specs.Char.{is_digit}
use Rattle.std.proofs.lemmas.Option.{none-some}
use Rattle.netlist.specs.declared.line.Equation.{Equation}
use Rattle.netlist.specs.declared.line.Equation.TheVariants.{Input, And, Or, Xor, Add, Sub, Eq, Less, Concat, Not, Any, Mux, Read}
use Rattle.netlist.specs.declared.line.Line.{Line}
use Rattle.netlist.specs.declared.line.Memory.{Memory}
use Rattle.netlist.specs.declared.line.PortLine.{PortLine}
use Rattle.netlist.specs.declared.line.MemWrite.{MemWrite}
use Rattle.netlist.specs.Netlists.{Netlist, is_register, line_of, memory_with, started, write_of}
use Rattle.verilog_forms.specs.declared.rule.Rule.{Rule}
use Rattle.verilog_forms.specs.declared.rule.Rule.TheVariants.{OtherByte, Name, Width, Spelling, NotThere, Bounds, Depth, Order, AfterEnd, TooManyNets}
use Rattle.verilog_forms.specs.Forms.{Form, fixed, followed}
use Rattle.verilog_forms.specs.RightSides.{unless, is_char, guarded, value_of, net_of, width_of, fit_any, second, bits_of, operand, choice_form, sign_form, slice_form, behind_form, constant_form, read_form, concat_form, begun_form, right_form}
use Rattle.verilog_forms.specs.WireLines.{range_form, number_test, named_form, ending_form, wire_form}
use Rattle.verilog_forms.specs.RegisterLines.{untold, register_form}
use Rattle.verilog_forms.specs.MemoryLines.{address_bits_of, last_test, memory_form}
use Rattle.verilog_forms.specs.Headers.{is_next, port_name_test, port_of, described_form, port_form, ports_form, header_form}
use Rattle.verilog_forms.specs.InputLines.{port_test, no_input_form, input_wire_form, input_form}
use Rattle.verilog_forms.specs.ClockedLines.{net_form, none_due, register_with, clocked_memory_test, clocked_net_form, clocked_memory_form, always_form, other_net_form, other_memory_form, next_form, clock_form, write_form, none_clocked_form, driver_form, assign_form}
use Rattle.verilog_forms.specs.WholeTexts.{listed, told, late_memory_form, memories_form, clocked_form, all_clocked_form, written, all_written_form, driven, all_driven_form, nothing_form, last_form, has_output, behind_nets_form}
use Rattle.verilog_forms.proofs.ClockedLines.{behind_value}
use Rattle.verilog_forms.proofs.Crowded.{Never}

other_byte : OtherByte ≢ TooManyNets
other_byte e = cc

name : Name ≢ TooManyNets
name e = cc

width : Width ≢ TooManyNets
width e = cc

spelling : Spelling ≢ TooManyNets
spelling e = cc

not_there : NotThere ≢ TooManyNets
not_there e = cc

bounds : Bounds ≢ TooManyNets
bounds e = cc

depth : Depth ≢ TooManyNets
depth e = cc

order : Order ≢ TooManyNets
order e = cc

after_end : AfterEnd ≢ TooManyNets
after_end e = cc

same_rule : (rule other : Rule) → Some rule ≡ Some other → rule ≡ other
same_rule rule other e = cc

unless_never : (t : Bool) (rule : Rule) (later : Option Rule) → rule ≢ TooManyNets → later ≢ Some TooManyNets → unless t rule later ≢ Some TooManyNets
unless_never true rule later differs more = more
unless_never false rule later differs more = λ e. differs (same_rule rule TooManyNets e)

none_never : None ≢ Some TooManyNets
none_never = none-some TooManyNets

cond_never : {A : Type 0} (t : Bool) (f g : Form A) → Never f → Never g → Never (cond t f g)
cond_never true f g x y = x
cond_never false f g x y = y

guarded_never : {A : Type 0} (t : Bool) (rule : Rule) (form : Form A) → rule ≢ TooManyNets → Never form → Never (guarded t rule form)
guarded_never true rule form differs x = x
guarded_never false rule form differs x = differs

pub followed_never : {A B : Type 0} (form : Form A) (later : A → Form B) → Never form → ((a : A) → Never (later a)) → Never (followed form later)
followed_never (Form.whole a) later x more = more a
followed_never (Form.byte b form) later x more = followed_never form later x more
followed_never (Form.hole test form) later x more = (x.0, λ run. followed_never (form run) later (x.1 run) more)
followed_never (Form.turn form) later x more = λ b. followed_never (form b) later (x b) more
followed_never (Form.ahead form) later x more = λ t. followed_never (form t) later (x t) more
followed_never (Form.refuse rule) later x more = x

listed_never : {X : Type 0} (one : Form X) (others : Form (List X)) → Never one → Never others → Never (listed one others)
listed_never one others x y = followed_never one (λ a. followed others (λ more. Form.whole (a ∷ more))) x (λ a. followed_never others (λ more. Form.whole (a ∷ more)) y (λ more. tt))

told_never : {X Y : Type 0} (form : Form X) (make : X → Y) → Never form → Never (told form make)
told_never form make x = followed_never form (λ a. Form.whole (make a)) x (λ a. tt)

range_never : {A : Type 0} (make : ℕ → Form A) → ((w : ℕ) → Never (make w)) → Never (range_form make)
range_never make later = (λ run. unless_never _ Spelling _ spelling (unless_never _ Width None width none_never), λ run. later _)

-- right sides

operand_never : {A : Type 0} (lines : List Line) (n : ℕ) (fits : ℕ → Bool) (form : ℕ → Form A) → ((a : ℕ) → Never (form a)) → Never (operand lines n fits form)
operand_never lines n fits form later = (λ run. unless_never _ Spelling _ spelling (unless_never _ NotThere _ not_there (unless_never _ Width None width none_never)), λ run. later (net_of run))

fixed_never : {A : Type 0} (bs : List ℕ) (form : Form A) → Never form → Never (fixed bs form)
fixed_never [] form x = x
fixed_never (b ∷ bs) form x = fixed_never bs form x

abbrev last_operand : List Line → ℕ → (ℕ → Bool) → (ℕ → Equation) → Form Equation
last_operand lines n fits make = operand lines n fits (λ b. Form.whole (make b))

last_never_as : (lines : List Line) (n : ℕ) (fits : ℕ → Bool) (make : ℕ → Equation) → Never (last_operand lines n fits make)
last_never_as lines n fits make = operand_never lines n fits (λ b. Form.whole (make b)) (λ b. tt)

choice_never : (lines : List Line) (n w s : ℕ) → Never (choice_form lines n w s)
choice_never lines n w s =
    operand_never lines n (λ v. v == w) (λ a. fixed (codes " : ") (last_operand lines n (λ v. v == w) (λ b. Mux s a b))) (λ a. last_never_as lines n (λ v. v == w) (λ b. Mux s a b))

abbrev operator_form : List Line → ℕ → Bool → Bool → List ℕ → (ℕ → Bool) → (ℕ → Equation) → Form Equation → Form Equation
operator_form lines n is test sign fits make other = cond is (guarded test Width (second lines n sign fits make)) other

operator_never : (lines : List Line) (n : ℕ) (is test : Bool) (sign : List ℕ) (fits : ℕ → Bool) (make : ℕ → Equation) (other : Form Equation) → Never other → Never (operator_form lines n is test sign fits make other)
operator_never lines n is test sign fits make other x =
    cond_never is (guarded test Width (second lines n sign fits make)) other
    (guarded_never test Width (second lines n sign fits make) width (fixed_never sign (last_operand lines n fits make) (last_never_as lines n fits make))) x

sign_never : (lines : List Line) (n w a : ℕ) (b : Option ℕ) → Never (sign_form lines n w a b)
sign_never lines n w a None = other_byte
sign_never lines n w a (Some sign) =
    let v = width_of lines a in
    let same = v == w in
    let choice : Form Equation = cond (is_char (codes "?") sign) (guarded (v == 1) Width (choice_form lines n w a)) (Form.refuse OtherByte) in
    let choice_is : Never choice =
    cond_never (is_char (codes "?") sign) (guarded (v == 1) Width (choice_form lines n w a)) (Form.refuse OtherByte) (guarded_never (v == 1) Width (choice_form lines n w a) width (choice_never lines n w a)) other_byte in
    let less = operator_form lines n (is_char (codes "<") sign) (w == 1) (codes "< ") (λ u. u == v) (Less a) choice in
    let less_is : Never less = operator_never lines n (is_char (codes "<") sign) (w == 1) (codes "< ") (λ u. u == v) (Less a) choice choice_is in
    let equal = operator_form lines n (is_char (codes "=") sign) (w == 1) (codes "== ") (λ u. u == v) (Eq a) less in
    let equal_is : Never equal = operator_never lines n (is_char (codes "=") sign) (w == 1) (codes "== ") (λ u. u == v) (Eq a) less less_is in
    let minus = operator_form lines n (is_char (codes "-") sign) same (codes "- ") (λ u. u == w) (Sub a) equal in
    let minus_is : Never minus = operator_never lines n (is_char (codes "-") sign) same (codes "- ") (λ u. u == w) (Sub a) equal equal_is in
    let plus = operator_form lines n (is_char (codes "+") sign) same (codes "+ ") (λ u. u == w) (Add a) minus in
    let plus_is : Never plus = operator_never lines n (is_char (codes "+") sign) same (codes "+ ") (λ u. u == w) (Add a) minus minus_is in
    let xor = operator_form lines n (is_char (codes "^") sign) same (codes "^ ") (λ u. u == w) (Xor a) plus in
    let xor_is : Never xor = operator_never lines n (is_char (codes "^") sign) same (codes "^ ") (λ u. u == w) (Xor a) plus plus_is in
    let or = operator_form lines n (is_char (codes "|") sign) same (codes "| ") (λ u. u == w) (Or a) xor in
    let or_is : Never or = operator_never lines n (is_char (codes "|") sign) same (codes "| ") (λ u. u == w) (Or a) xor xor_is in
    operator_never lines n (is_char (codes "&") sign) same (codes "& ") (λ u. u == w) (And a) or or_is

slice_never : (lines : List Line) (w a : ℕ) → Never (slice_form lines w a)
slice_never lines w a = (λ run. unless_never _ Spelling _ spelling (unless_never _ Bounds None bounds none_never), λ high. (λ run. unless_never _ Spelling _ spelling (unless_never _ Bounds None bounds none_never), λ low. tt))

behind_never : (lines : List Line) (n w a : ℕ) (b : Option ℕ) → Never (behind_form lines n w a b)
behind_never lines n w a None = other_byte
behind_never lines n w a (Some b) =
    cond_never (is_char (codes "[") b) (slice_form lines w a) (fixed (codes " ") (Form.turn (sign_form lines n w a))) (slice_never lines w a) (λ sign. sign_never lines n w a sign)

constant_never : (w : ℕ) → Never (constant_form w)
constant_never w = (λ run. unless_never _ Spelling _ spelling (unless_never _ Width None width none_never), λ run. (λ digits. unless_never _ Spelling None spelling none_never, λ digits. tt))

read_never : (memories : List Memory) (lines : List Line) (n w : ℕ) → Never (read_form memories lines n w)
read_never memories lines n w = (
  λ run. unless_never _ Spelling _ spelling (unless_never _ NotThere _ not_there (unless_never _ Width None width none_never)),
  λ m. operand_never lines n (λ v. v == bits_of (slice_get memories (value_of m))) (λ a. fixed (codes "]") (Form.whole (Read (value_of m) a))) (λ a. tt),
)

concat_never : (lines : List Line) (n w : ℕ) → Never (concat_form lines n w)
concat_never lines n w =
    operand_never lines n fit_any (λ a. fixed (codes ", ") (operand lines n (λ v. width_of lines a + v == w) (λ b. fixed (codes "}") (Form.whole (Concat a b)))))
    (λ a. operand_never lines n (λ v. width_of lines a + v == w) (λ b. fixed (codes "}") (Form.whole (Concat a b))) (λ b. tt))

begun_never : (memories : List Memory) (lines : List Line) (n w : ℕ) (b : Option ℕ) → Never (begun_form memories lines n w b)
begun_never memories lines n w None = other_byte
begun_never memories lines n w (Some b) =
    let not_form : Form Equation = fixed (codes "~") (last_operand lines n (λ v. v == w) Not) in
    let any_form : Form Equation = fixed (codes "|") (last_operand lines n fit_any Any) in
    let net : Form Equation = operand lines n fit_any (λ a. Form.turn (behind_form lines n w a)) in
    let sixth : Form Equation = cond (is_char (codes "m") b) (read_form memories lines n w) (Form.refuse OtherByte) in
    let sixth_is : Never sixth = cond_never (is_char (codes "m") b) (read_form memories lines n w) (Form.refuse OtherByte) (read_never memories lines n w) other_byte in
    let fifth : Form Equation = cond (is_char (codes "n") b) net sixth in
    let fifth_is : Never fifth = cond_never (is_char (codes "n") b) net sixth (operand_never lines n fit_any (λ a. Form.turn (behind_form lines n w a)) (λ a. λ c. behind_never lines n w a c)) sixth_is in
    let fourth : Form Equation = cond (is_char (codes "{") b) (concat_form lines n w) fifth in
    let fourth_is : Never fourth = cond_never (is_char (codes "{") b) (concat_form lines n w) fifth (concat_never lines n w) fifth_is in
    let third : Form Equation = cond (is_char (codes "|") b) (guarded (w == 1) Width any_form) fourth in
    let third_is : Never third = cond_never (is_char (codes "|") b) (guarded (w == 1) Width any_form) fourth (guarded_never (w == 1) Width any_form width (last_never_as lines n fit_any Any)) fourth_is in
    let second_form : Form Equation = cond (is_char (codes "~") b) not_form third in
    let second_is : Never second_form = cond_never (is_char (codes "~") b) not_form third (last_never_as lines n (λ v. v == w) Not) third_is in
    cond_never (is_digit b 10) (constant_form w) second_form (constant_never w) second_is

-- lines

pub wire_never : (memories : List Memory) (lines : List Line) (n : ℕ) → Never (wire_form memories lines n)
wire_never memories lines n =
    range_never (λ w. fixed (codes " ") (named_form n (fixed (codes " = ") (ending_form memories lines n w))))
    (λ w. (λ run. unless_never _ Spelling None spelling none_never, λ run. followed_never (right_form memories lines n w) (λ e. fixed (codes ";\n") (Form.whole (line_of w e))) (λ b. begun_never memories lines n w b) (λ e. tt)))

pub register_never : (n : ℕ) → Never (register_form n)
register_never n = range_never (λ w. fixed (codes " ") (named_form n (fixed (codes ";\n") (Form.whole (untold n w))))) (λ w. (λ run. unless_never _ Spelling None spelling none_never, λ run. tt))

memory_never : (m : ℕ) → Never (memory_form m)
memory_never m =
    range_never (λ w. fixed (codes " m") (Form.hole (number_test m) (λ run. fixed (codes " [0:") (Form.hole last_test (λ last. fixed (codes "];\n") (Form.whole (memory_with w (address_bits_of (value_of last)))))))))
    (λ w. (λ run. unless_never _ Spelling None spelling none_never, λ run. (λ last. unless_never _ Spelling _ spelling (unless_never _ Depth None depth none_never), λ last. tt)))

described_never : (ports : List PortLine) (output : Bool) → Never (described_form ports output)
described_never ports output =
    range_never (λ w. fixed (codes " ") (Form.hole (port_name_test ports) (λ name. Form.whole (port_of name w output)))) (λ w. (λ run. unless_never _ Name None name none_never, λ run. tt))

port_never : (ports : List PortLine) → Never (port_form ports)
port_never ports b = cond_never (is_next (codes "o") b) (fixed (codes "output") (described_form ports true)) (fixed (codes "input") (described_form ports false)) (described_never ports true) (described_never ports false)

ports_never : (few : ℕ) (ports : List PortLine) → Never (ports_form few ports)
ports_never zero ports = tt
ports_never (suc few) ports =
    let later = λ (port : PortLine). (ports_form few (ports ++ port ∷ [])) in
    λ b. cond_never (is_next (codes ",") b) (followed (port_form ports) later) (Form.whole ports) (followed_never (port_form ports) later (port_never ports) (λ port. ports_never few (ports ++ port ∷ []))) tt

pub header_never : Never header_form
header_never = (λ run. unless_never _ Name None name none_never, λ run. followed_never (ports_form (2 ^ 32 - 1) []) (λ ports. fixed (codes "\n);\n") (Form.whole (started run ports))) (ports_never (2 ^ 32 - 1) []) (λ ports. tt))

pub memories_never : (few m : ℕ) → Never (memories_form few m)
memories_never zero m = λ text. cond_never _ late_memory_form (Form.whole []) (range_never {A = List Memory} (λ w. fixed (codes " m") (Form.refuse Spelling)) (λ w. spelling)) tt
memories_never (suc few) m = λ text. cond_never _ (listed (memory_form m) (memories_form few (m + 1))) (Form.whole []) (listed_never (memory_form m) (memories_form few (m + 1)) (memory_never m) (memories_never few (m + 1))) tt

pub input_never : (n k : ℕ) (port : PortLine) → Never (input_form n k port)
input_never n k port =
    λ b. cond_never _ no_input_form (input_wire_form n k port) (range_never {A = Line} (λ w. fixed (codes " n") (Form.refuse Name)) (λ w. name))
    (range_never (λ w. fixed (codes " ") (named_form n (fixed (codes " = ") (Form.hole (port_test port w) (λ run. fixed (codes ";\n") (Form.whole (line_of port.width (Input k)))))))) (λ w. (λ run. unless_never _ Spelling None spelling none_never, λ run. (λ port_run. unless_never _ Name _ name (unless_never _ Width None width none_never), λ port_run. tt))))

clocked_net_never : {A : Type 0} (lines : List Line) (is_due : ℕ → Bool) (form : Form A) → Never form → Never (clocked_net_form lines is_due form)
clocked_net_never lines is_due form x = (λ run. unless_never _ Spelling _ spelling (unless_never _ NotThere _ not_there (unless_never _ Order None order none_never)), λ run. x)

clocked_memory_never : {A : Type 0} (memories : List Memory) (lines : List Line) (is_due : ℕ → Bool) (form : ℕ → Form A) → ((e : ℕ) → Never (form e)) → Never (clocked_memory_form memories lines is_due form)
clocked_memory_never memories lines is_due form x =
    operand_never lines (length lines) (λ v. v == 1) (λ e. fixed (codes ") m") (Form.hole (clocked_memory_test memories is_due) (λ run. form e)))
    (λ e. (λ run. unless_never _ Spelling _ spelling (unless_never _ NotThere _ not_there (unless_never _ Order None order none_never)), λ run. x e))

always_never : {A : Type 0} (register memory : Form A) → Never register → Never memory → Never (always_form register memory)
always_never register memory x y = λ b. cond_never _ register memory x y

other_net_never : (A : Type 0) (lines : List Line) → Never (other_net_form {A = A} lines)
other_net_never A lines = clocked_net_never {A = A} lines none_due (Form.refuse Order) order

other_memory_never : (A : Type 0) (memories : List Memory) (lines : List Line) → Never (other_memory_form {A = A} memories lines)
other_memory_never A memories lines = clocked_memory_never {A = A} memories lines none_due (λ e. Form.refuse Order) (λ e. order)

next_never : (lines : List Line) (n w : ℕ) → Never (next_form lines n w)
next_never lines n w =
    followed_never (constant_form w) (behind_value lines n w) (constant_never w)
    (λ reset. (λ run. unless_never _ Spelling _ spelling (unless_never _ NotThere _ not_there (unless_never _ Order None order none_never)), λ run. operand_never lines (length lines) (λ v. v == w) (λ next. fixed (codes ";\n") (Form.whole (register_with w reset next))) (λ next. tt)))

clock_never : (memories : List Memory) (lines : List Line) (n w : ℕ) → Never (clock_form memories lines n w)
clock_never memories lines n w =
    always_never (clocked_net_form lines (λ k. k == n) (fixed (codes " <= ") (next_form lines n w))) (other_memory_form memories lines)
    (clocked_net_never lines (λ k. k == n) (fixed (codes " <= ") (next_form lines n w)) (next_never lines n w)) (other_memory_never Line memories lines)

write_never : (memories : List Memory) (lines : List Line) (m : ℕ) (memory : Memory) → Never (write_form memories lines m memory)
write_never memories lines m memory =
    let last = λ (e a d : ℕ). (fixed (codes ";\n") (Form.whole (write_of e a d))) in
    let behind_address = λ (e a : ℕ). (fixed (codes "] <= ") (net_form lines (λ v. v == memory.width) (last e a))) in
    let behind_memory = λ (e : ℕ). (fixed (codes "[") (net_form lines (λ v. v == memory.address_bits) (behind_address e))) in
    always_never (other_net_form lines) (clocked_memory_form memories lines (λ k. k == m) behind_memory) (other_net_never MemWrite lines)
    (clocked_memory_never memories lines (λ k. k == m) behind_memory
    (λ e. operand_never lines (length lines) (λ v. v == memory.address_bits) (behind_address e) (λ a. operand_never lines (length lines) (λ v. v == memory.width) (last e a) (λ d. tt))))

none_clocked_never : {A : Type 0} (memories : List Memory) (lines : List Line) (assigned : Bool) (form : Form A) (b : Option ℕ) → Never form → Never (none_clocked_form memories lines assigned form b)
none_clocked_never {A} memories lines assigned form b x =
    cond_never _ (always_form (other_net_form lines) (other_memory_form memories lines)) form
    (always_never (other_net_form lines) (other_memory_form memories lines) (other_net_never A lines) (other_memory_never A memories lines)) x

assign_never : (memories : List Memory) (lines : List Line) (assigned : Bool) (port : PortLine) → Never (assign_form memories lines assigned port)
assign_never memories lines assigned port =
    λ b. none_clocked_never memories lines assigned (driver_form lines port) b (λ run. unless_never _ Name None name none_never, λ run. operand_never lines (length lines) (λ v. v == port.width) (λ net. fixed (codes ";\n") (Form.whole net)) (λ net. tt))

-- sections behind the nets

all_clocked_never : (memories : List Memory) (lines : List Line) (n : ℕ) (todo : List Line) → Never (all_clocked_form memories lines n todo)
all_clocked_never memories lines n [] = tt
all_clocked_never memories lines n (line ∷ others) =
    listed_never (clocked_form memories lines n line) (all_clocked_form memories lines (n + 1) others) (cond_never (is_register line.equation) _ _ (clock_never memories lines n line.width) tt) (all_clocked_never memories lines (n + 1) others)

all_written_never : (memories : List Memory) (lines : List Line) (m : ℕ) (todo : List Memory) → Never (all_written_form memories lines m todo)
all_written_never memories lines m [] = tt
all_written_never memories lines m (memory ∷ others) =
    listed_never (told (write_form memories lines m memory) (written memory)) (all_written_form memories lines (m + 1) others) (told_never (write_form memories lines m memory) (written memory) (write_never memories lines m memory))
    (all_written_never memories lines (m + 1) others)

all_driven_never : (memories : List Memory) (lines : List Line) (assigned : Bool) (ports : List PortLine) → Never (all_driven_form memories lines assigned ports)
all_driven_never memories lines assigned [] = tt
all_driven_never memories lines assigned (port ∷ ports) =
    cond_never port.output _ _
    (listed_never (told (assign_form memories lines assigned port) driven) (all_driven_form memories lines true ports) (told_never (assign_form memories lines assigned port) driven (assign_never memories lines assigned port))
    (all_driven_never memories lines true ports)) (listed_never (Form.whole None) (all_driven_form memories lines assigned ports) tt (all_driven_never memories lines assigned ports))

nothing_never : {A : Type 0} (a : A) (b : Option ℕ) → Never (nothing_form a b)
nothing_never a None = tt
nothing_never a (Some b) = after_end

last_never : {A : Type 0} (memories : List Memory) (lines : List Line) (assigned : Bool) (a : A) → Never (last_form memories lines assigned a)
last_never {A} memories lines assigned a =
    let over : Form A = fixed (codes "ssign ") (Form.refuse Name) in
    λ b. cond_never _ (fixed (codes "  a") (Form.turn (none_clocked_form memories lines assigned over))) (fixed (codes "endmodule\n") (Form.turn (nothing_form a))) (λ c. none_clocked_never memories lines assigned over c name) (λ c. nothing_never a c)

pub behind_nets_never : (header : Netlist) (memories : List Memory) (lines : List Line) → Never (behind_nets_form header memories lines)
behind_nets_never header memories lines =
    let last = λ (clocked : List Line) (kept : List Memory) (drivers : List (Option ℕ)).
    (let it : Netlist = record header { lines = clocked; drivers = drivers; memories = kept } in let f : Form Netlist = last_form memories lines (has_output header.ports) it in f) in
    let assigns = λ (clocked : List Line) (kept : List Memory). (followed (all_driven_form memories lines false header.ports) (λ drivers. last clocked kept drivers)) in
    let writes = λ (clocked : List Line). (followed (all_written_form memories lines 0 memories) (λ kept. assigns clocked kept)) in
    followed_never (all_clocked_form memories lines 0 lines) writes (all_clocked_never memories lines 0 lines)
    (λ clocked. followed_never (all_written_form memories lines 0 memories) (λ kept. assigns clocked kept) (all_written_never memories lines 0 memories)
    (λ kept. followed_never (all_driven_form memories lines false header.ports) (λ drivers. last clocked kept drivers) (all_driven_never memories lines false header.ports)
    (λ drivers. last_never memories lines (has_output header.ports) _)))
