-- There is no room for a net exactly behind 2^20 of them.
use Rattle.std.proofs.Common.{◌≡◌, ℕ, zero, suc, ◌+◌, ◌-◌, ◌<◌, ◌≤◌, ◌^◌, ◌&&◌, Bool, true, false, cond, not, List, [], ◌∷◌, ◌++◌, length, slice_get, Some, inl, inr, ◌⊎◌, refl, sym, ap, subst, ◌∙◌, arith, append_assoc, length-append}
use Rattle.std.specs.Prelude.{nat_lt, if◌then◌else◌}
use Rattle.std.proofs.lemmas.Bool.{and_parts, not-true, lt-ltb, ltb-true, cases_lt}
use Rattle.netlist.specs.declared.line.Equation.TheVariants.{Input}
use Rattle.netlist.specs.declared.line.Line.{Line}
use Rattle.netlist.specs.declared.line.Memory.{Memory}
use Rattle.netlist.specs.declared.line.PortLine.{PortLine}
use Rattle.netlist.specs.Netlists.{Netlist, IsModule, input_lines, line_of, started}
use Rattle.verilog_writer.specs.Text.{header_text, memories_text, nets_text, net_line, wire_line, register_line}
use Rattle.verilog_forms.specs.declared.rule.Rule.TheVariants.{TooManyNets}
use Rattle.verilog_forms.specs.Forms.{Form, followed, Due, Misfits, HasFault}
use Rattle.verilog_forms.specs.RegisterLines.{register_form}
use Rattle.verilog_forms.specs.WireLines.{wire_form}
use Rattle.verilog_forms.specs.Headers.{header_form}
use Rattle.verilog_forms.specs.InputLines.{input_form}
use Rattle.verilog_forms.specs.WholeTexts.{is_wire_line, is_reg_line, is_net_line, is_memory_line, listed, memories_form, room_form, inputs_form, nets_form, behind_nets_form, module_form, declared_text}
use Rattle.verilog_forms.specs.Spellings.{true_false}
use Rattle.verilog_forms.proofs.Lines.{net_wire}
use Rattle.verilog_forms.proofs.PortLines.{header_walked}
use Rattle.verilog_forms.proofs.InputLines.{input_walked}
use Rattle.verilog_forms.proofs.WireLines.{wire_walked}
use Rattle.verilog_forms.proofs.RegisterLines.{register_sound}
use Rattle.std.proofs.lemmas.List.{append_cancel_right}
use Rattle.verilog_forms.proofs.ModuleLines.{AllOf, all_more, walked_reads, blank, blank_length, bare, bare_length, bare_text, nets_text-append, no_memory_line}
use Rattle.verilog_forms.proofs.ModuleReads.{StandFrom, stands_first, stand_behind, NetLine, AreNets, IsSmall, behind_of, net_small, length-more, net_due}
use Rattle.verilog_forms.proofs.WholeReads.{from_zero, nets_together, behinds, are_nets, small_bare, all_apart, nets_behind, inputs_behind, declared_due}
use Rattle.verilog_forms.proofs.WholeWalked.{memories_walked, inputs_walked}
use Rattle.verilog_forms.proofs.WholeSound.{inputs_small}
use Rattle.verilog_forms.proofs.Crowded.{Broken, never_broken, followed_broken, stepped, MisfitIn, misfitted}
use Rattle.verilog_forms.proofs.NeverCrowded.{header_never, memories_never, input_never, wire_never, register_never, behind_nets_never}

-- a step of what breaks for want of room

ahead_broken : {A : Type 0} (form : List ℕ → Form A) (front rest : List ℕ) → Broken (Form.ahead form) front rest → Broken (form (front ++ rest)) front rest
ahead_broken {A} form front rest b =
    elim (stepped b.good) [
      | inl stop ↦ absurd (subst (λ (f : Form A). MisfitIn rest f TooManyNets) stop.0 (misfitted b.misfit))
      | inr go ↦ record { due = b.due; good = go; misfit = b.misfit }
    ]

cond_broken : {A : Type 0} (t : Bool) (f g : Form A) (front rest : List ℕ) → Broken (cond t f g) front rest → ((t ≡ true) × Broken f front rest) ⊎ ((t ≡ false) × Broken g front rest)
cond_broken true f g front rest b = inl (refl, b)
cond_broken false f g front rest b = inr (refl, b)

refused_here : {A : Type 0} (form : Form A) (front rest : List ℕ) → form ≡ Form.refuse TooManyNets → Broken form front rest → front ≡ []
refused_here {A} form front rest is b =
    let moved : Broken (Form.refuse TooManyNets) front rest = subst (λ (f : Form A). Broken f front rest) is b in
    let stop = stepped moved.good in
    stop.1

-- lines of nets up to the last that may be
record Full (ports : List PortLine) (n : ℕ) (front rest : List ℕ) : Type 0 where
  pub lines : List Line
  pub spelled : front ≡ nets_text ports n lines
  pub count : n + length lines ≡ 2 ^ 20
  pub ahead : is_net_line rest ≡ true

full_here : (ports : List PortLine) (n : ℕ) (front rest : List ℕ) → n + 0 ≡ 2 ^ 20 → front ≡ [] → is_net_line (front ++ rest) ≡ true → Full ports n front rest
full_here ports n front rest count none net = record { lines = []; spelled = none; count = count; ahead = ap (λ (t : List ℕ). is_net_line (t ++ rest)) (sym none) ∙ net }

not_below : (n : ℕ) → not (nat_lt n (2 ^ 20)) ≡ true → n ≤ 2 ^ 20 → n + 0 ≡ 2 ^ 20
not_below n e small =
    elim (cases_lt n (2 ^ 20)) [
      | inl below ↦ absurd (true_false (sym (lt-ltb n (2 ^ 20) below) ∙ not-true (nat_lt n (2 ^ 20)) e))
      | inr above ↦ omega (arith, above, small)
    ]

below_as : (b : Bool) → (true && not b) ≡ false → b ≡ true
below_as true e = refl
below_as false e = absurd (true_false e)

-- the inputs

input_broken : (all : List PortLine) (n k : ℕ) (port : PortLine) (ports : List PortLine) (front rest : List ℕ) → n ≤ 2 ^ 20 → slice_get all k ≡ Some port
    → ((m : ℕ) (back : List ℕ) → m ≤ 2 ^ 20 → Broken (inputs_form m (k + 1) ports) back rest → Full all m back rest) → Broken (room_form n (listed (input_form n k port) (inputs_form (n + 1) (k + 1) ports))) front rest → Full all n front rest
input_broken all n k port ports front rest small at later b =
    let others = inputs_form (n + 1) (k + 1) ports in
    let made = λ (x : Line) (xs : List Line). (let f : Form (List Line) = Form.whole (x ∷ xs) in f) in
    let behind = λ (x : Line). (followed others (made x)) in
    let test = is_net_line (front ++ rest) && not (nat_lt n (2 ^ 20)) in
    elim (cond_broken test (Form.refuse TooManyNets) (listed (input_form n k port) others) front rest (ahead_broken _ front rest b)) [
      | inl full ↦
          let parts = and_parts (is_net_line (front ++ rest)) (not (nat_lt n (2 ^ 20))) full.0 in
          full_here all n front rest (not_below n parts.1 small) (refused_here (Form.refuse TooManyNets) front rest refl full.1) parts.0
      | inr room ↦ elim (followed_broken (input_form n k port) behind front rest room.1) [
        | inl first ↦ never_broken (input_form n k port) front rest (input_never n k port) first
        | inr l ↦
            let here = input_walked all n k port l.value (l.behind ++ rest) l.ahead at l.first in
            let line = wire_line all n port.width (Input k) in
            let begun : front ≡ line ++ l.behind = l.parts ∙ ap (λ (t : List ℕ). t ++ l.behind) here.1 in
            let net : is_net_line (front ++ rest) ≡ true = ap (λ (t : List ℕ). is_net_line (t ++ rest)) begun in
            let below : n < 2 ^ 20 = ltb-true n (2 ^ 20) (below_as (nat_lt n (2 ^ 20)) (ap (λ (t : Bool). t && not (nat_lt n (2 ^ 20))) (sym net) ∙ room.0)) in
            elim (followed_broken others (made l.value) l.behind rest l.second) [
              | inl more ↦
                  let full = later (n + 1) l.behind (omega (arith, below)) more in
                  record {
                    lines = line_of port.width (Input k) ∷ full.lines;
                    spelled = begun ∙ ap (λ (t : List ℕ). line ++ t) full.spelled;
                    count = omega (arith, full.count);
                    ahead = full.ahead;
                  }
              | inr whole ↦ never_broken (made l.value whole.value) whole.behind rest tt whole.second
            ]
      ]
    ]

inputs_broken_as : (all : List PortLine) (n k : ℕ) (name : List ℕ) (w : ℕ) (output : Bool) (ports : List PortLine) (front rest : List ℕ) → n ≤ 2 ^ 20
    → (let port : PortLine = record { name = name; width = w; output = output } in slice_get all k ≡ Some port)
    → ((m : ℕ) (back : List ℕ) → m ≤ 2 ^ 20 → Broken (inputs_form m (k + 1) ports) back rest → Full all m back rest)
    → (let port : PortLine = record { name = name; width = w; output = output } in Broken (inputs_form n k (port ∷ ports)) front rest) → Full all n front rest
inputs_broken_as all n k name w true ports front rest small at later b = later n front small b
inputs_broken_as all n k name w false ports front rest small at later b = input_broken all n k (record { name = name; width = w; output = false }) ports front rest small at later b

inputs_broken : (all : List PortLine) (n k : ℕ) (ports : List PortLine) (front rest : List ℕ) → n ≤ 2 ^ 20 → StandFrom all k ports → Broken (inputs_form n k ports) front rest → Full all n front rest
inputs_broken all n k [] front rest small stand b = never_broken (Form.whole []) front rest tt b
inputs_broken all n k (port ∷ ports) front rest small stand b =
    inputs_broken_as all n k port.name port.width port.output ports front rest small (stands_first all k port ports stand) (λ m back fits more. inputs_broken all m (k + 1) ports back rest fits (stand_behind all k port ports stand) more) b

-- the other nets

one_more : (ports : List PortLine) (done : List Line) (line : Line) (front behind rest : List ℕ) → front ≡ net_line ports (length done) line ++ behind → Full ports (length (done ++ line ∷ [])) behind rest → Full ports (length done) front rest
one_more ports done line front behind rest begun full = record {
  lines = line ∷ full.lines;
  spelled = begun ∙ ap (λ (t : List ℕ). net_line ports (length done) line ++ t) (full.spelled ∙ ap (λ (k : ℕ). nets_text ports k full.lines) (length-more done line));
  count = omega (arith, full.count, length-more done line);
  ahead = full.ahead;
}

nets_broken : (ports : List PortLine) (few : ℕ) (memories : List Memory) (done : List Line) (front rest : List ℕ) → length memories ≤ 2 ^ 16 → length done + few ≡ 2 ^ 20 → AllOf IsSmall done → Broken (nets_form few memories done) front rest
    → Full ports (length done) front rest
nets_broken ports zero memories done front rest few_memories room small b =
    elim (cond_broken (is_net_line (front ++ rest)) (Form.refuse TooManyNets) (Form.whole done) front rest (ahead_broken _ front rest b)) [
      | inl full ↦ full_here ports (length done) front rest room (refused_here (Form.refuse TooManyNets) front rest refl full.1) full.0
      | inr whole ↦ never_broken (Form.whole done) front rest tt whole.1
    ]
nets_broken ports (suc few) memories done front rest few_memories room small b =
    let n = length done in
    let next_form = λ (line : Line). (nets_form few memories (done ++ line ∷ [])) in
    let register = followed (register_form n) next_form in
    let grown = λ (line : Line). (let counted : length (done ++ line ∷ []) + few ≡ 2 ^ 20 = omega (arith, room, length-more done line) in counted) in
    elim (cond_broken (is_wire_line (front ++ rest)) (followed (wire_form memories done n) next_form) (if is_reg_line (front ++ rest) then register else Form.whole done) front rest (ahead_broken _ front rest b)) [
      | inl wire ↦ elim (followed_broken (wire_form memories done n) next_form front rest wire.1) [
        | inl first ↦ never_broken (wire_form memories done n) front rest (wire_never memories done n) first
        | inr l ↦
            let m = wire_walked ports memories done n l.value (l.behind ++ rest) l.ahead (behind_of memories done few_memories (omega (arith, room)) small) l.first in
            one_more ports done l.value front l.behind rest (l.parts ∙ ap (λ (t : List ℕ). t ++ l.behind) (m.spelled ∙ sym (net_wire ports n l.value m.wire.right.no_register)))
            (nets_broken ports few memories (done ++ l.value ∷ []) l.behind rest few_memories (grown l.value) (all_more IsSmall done l.value small m.wire.small) l.second)
      ]
      | inr other ↦ elim (cond_broken (is_reg_line (front ++ rest)) register (Form.whole done) front rest other.1) [
        | inl reg ↦ elim (followed_broken (register_form n) next_form front rest reg.1) [
          | inl first ↦ never_broken (register_form n) front rest (register_never n) first
          | inr l ↦
              let (w, some, narrow, is, text) = register_sound n l.value (l.ahead ++ (l.behind ++ rest)) (l.behind ++ rest) (walked_reads (register_form n) l.value (l.behind ++ rest) l.ahead l.first) in
              let line = append_cancel_right l.ahead (register_line n w) (l.behind ++ rest) text in
              let net : NetLine ports memories done l.value = NetLine.register w some narrow is in
              one_more ports done l.value front l.behind rest (l.parts ∙ ap (λ (t : List ℕ). t ++ l.behind) line ∙ ap (λ (x : Line). net_line ports n x ++ l.behind) (sym is))
              (nets_broken ports few memories (done ++ l.value ∷ []) l.behind rest few_memories (grown l.value) (all_more IsSmall done l.value small (net_small ports memories done l.value net)) l.second)
        ]
        | inr whole ↦ never_broken (Form.whole done) front rest tt whole.1
      ]
    ]

-- a whole text

pub record Overfull (front rest : List ℕ) : Type 0 where
  pub one : Netlist
  pub count : length one.lines ≡ 2 ^ 20
  pub spelled : front ≡ declared_text one
  pub ahead : is_net_line rest ≡ true

abbrev with_nets : Netlist → List Memory → List Line → Netlist
with_nets header memories lines = record header { memories = memories; lines = lines }

declared_parts : (h m n : List ℕ) → h ++ (m ++ n) ≡ h ++ m ++ n
declared_parts h m n = simp append_assoc

nets_full : (header : Netlist) (memories : List Memory) (front rest : List ℕ) → Full header.ports 0 front rest → Overfull (header_text header ++ (memories_text 0 memories ++ front)) rest
nets_full header memories front rest full = record {
  one = with_nets header memories full.lines;
  count = omega (arith, full.count);
  spelled = ap (λ (t : List ℕ). header_text header ++ (memories_text 0 memories ++ t)) full.spelled ∙ declared_parts (header_text header) (memories_text 0 memories) (nets_text header.ports 0 full.lines);
  ahead = full.ahead;
}

behind_inputs : (ports : List PortLine) (inputs : List Line) (front rest : List ℕ) → Full ports (length inputs) front rest → Full ports 0 (nets_text ports 0 inputs ++ front) rest
behind_inputs ports inputs front rest full = record {
  lines = inputs ++ full.lines;
  spelled = ap (λ (t : List ℕ). nets_text ports 0 inputs ++ t) (full.spelled ∙ ap (λ (k : ℕ). nets_text ports k full.lines) (sym (from_zero (length inputs)))) ∙ sym (nets_text-append ports 0 inputs full.lines);
  count = omega (arith, full.count, length-append inputs full.lines);
  ahead = full.ahead;
}

inputs_part_broken : (header : Netlist) (memories : List Memory) (front rest : List ℕ) → AllOf IsSmall (input_lines 0 header.ports) → length memories ≤ 2 ^ 16 → Broken (inputs_behind header memories) front rest → Full header.ports 0 front rest
inputs_part_broken header memories front rest small few_memories b =
    let ports = header.ports in
    let inputs = input_lines 0 ports in
    let stand : StandFrom ports 0 ports = λ j port e. (ap (slice_get ports) (from_zero j) ∙ e) in
    elim (followed_broken (inputs_form 0 0 ports) (nets_behind header memories) front rest b) [
      | inl first ↦ inputs_broken ports 0 0 ports front rest (omega arith) stand first
      | inr l ↦
          let listed = inputs_walked ports 0 0 ports l.value (l.behind ++ rest) l.ahead stand l.first in
          let fits : 0 + length inputs ≤ 2 ^ 20 = listed.fits (omega arith) in
          let room : length inputs + (2 ^ 20 - length inputs) ≡ 2 ^ 20 = omega (arith, fits) in
          let nets = subst (λ (ls : List Line). Broken (nets_behind header memories ls) l.behind rest) listed.is l.second in
          let begun : front ≡ nets_text ports 0 inputs ++ l.behind = l.parts ∙ ap (λ (t : List ℕ). t ++ l.behind) listed.spelled in
          elim (followed_broken (nets_form (2 ^ 20 - length inputs) memories inputs) (λ lines. behind_nets_form header memories lines) l.behind rest nets) [
            | inl more ↦ subst (λ (t : List ℕ). Full ports 0 t rest) (sym begun) (behind_inputs ports inputs l.behind rest (nets_broken ports (2 ^ 20 - length inputs) memories inputs l.behind rest few_memories room small more))
            | inr last ↦ never_broken (behind_nets_form header memories last.value) last.behind rest (behind_nets_never header memories last.value) last.second
          ]
    ]

memories_part_broken : (header : Netlist) (front rest : List ℕ) → AllOf IsSmall (input_lines 0 header.ports) → Broken (followed (memories_form (2 ^ 16) 0) (inputs_behind header)) front rest → Overfull (header_text header ++ front) rest
memories_part_broken header front rest small b =
    elim (followed_broken (memories_form (2 ^ 16) 0) (inputs_behind header) front rest b) [
      | inl first ↦ never_broken (memories_form (2 ^ 16) 0) front rest (memories_never (2 ^ 16) 0) first
      | inr l ↦
          let stored = memories_walked (2 ^ 16) 0 l.value (l.behind ++ rest) l.ahead l.first in
          let full = nets_full header l.value l.behind rest (inputs_part_broken header l.value l.behind rest small stored.fits l.second) in
          let begun : front ≡ memories_text 0 l.value ++ l.behind = l.parts ∙ ap (λ (t : List ℕ). t ++ l.behind) stored.spelled in
          subst (λ (t : List ℕ). Overfull (header_text header ++ t) rest) (sym begun) full
    ]

pub module_broken : (front rest : List ℕ) → Broken module_form front rest → Overfull front rest
module_broken front rest b =
    let later = λ (h : Netlist). (followed (memories_form (2 ^ 16) 0) (inputs_behind h)) in
    elim (followed_broken header_form later front rest b) [
      | inl first ↦ never_broken header_form front rest header_never first
      | inr l ↦
          let header = header_walked l.value (l.behind ++ rest) l.ahead l.first in
          let full = memories_part_broken l.value l.behind rest (inputs_small l.value.ports l.value.name header.is) l.second in
          let begun : front ≡ header_text l.value ++ l.behind = l.parts ∙ ap (λ (t : List ℕ). t ++ l.behind) header.spelled in
          subst (λ (t : List ℕ). Overfull t rest) (sym begun) full
    ]

pub crowded_sound : (text : List ℕ) (at : ℕ) → HasFault module_form text at TooManyNets
    → (one : Netlist) × (rest : List ℕ) × (length one.lines ≡ 2 ^ 20) × (text ≡ declared_text one ++ rest) × (at ≡ length (declared_text one)) × (is_net_line rest ≡ true)
crowded_sound text at f =
    let full = module_broken f.front f.rest (record { due = f.due; good = f.good; misfit = f.misfit }) in
    (full.one, f.rest, full.count, f.parts ∙ ap (λ (t : List ℕ). t ++ f.rest) full.spelled, sym f.place ∙ ap (λ (t : List ℕ). length t) full.spelled, full.ahead)

-- and there it is met

followed_under : {A B : Type 0} {due : Form A} {rest : List ℕ} {form : Form A} {front : List ℕ} (later : A → Form B) → Due due rest form front → Due (followed due later) rest (followed form later) front
followed_under later Due.nothing = Due.nothing
followed_under later (Due.byte b d) = Due.byte b (followed_under later d)
followed_under later (Due.hole test form run is none d) = Due.hole test (λ r. followed (form r) later) run is none (followed_under later d)
followed_under later (Due.turn form d) = Due.turn (λ b. followed (form b) later) (followed_under later d)
followed_under later (Due.ahead form d) = Due.ahead (λ t. followed (form t) later) (followed_under later d)

crowded_due : (ports : List PortLine) (few : ℕ) (memories : List Memory) (done todo : List Line) (rest : List ℕ) → length memories ≤ 2 ^ 16 → AllOf IsSmall done → AreNets ports memories done todo → length todo ≡ few → length done + length todo ≤ 2 ^ 20
    → is_net_line rest ≡ true → Due (Form.refuse TooManyNets) rest (nets_form few memories done) (nets_text ports (length done) todo)
crowded_due ports zero memories done [] rest few_memories small are fits room net =
    let here : Due (Form.refuse TooManyNets) rest (cond (is_net_line rest) (Form.refuse TooManyNets) (Form.whole done)) [] =
    subst (λ (t : Bool). Due (Form.refuse TooManyNets) rest (cond t (Form.refuse TooManyNets) (Form.whole done)) []) (sym net) Due.nothing in
    Due.ahead _ here
crowded_due ports zero memories done (x ∷ xs) rest few_memories small are fits room net = absurd (omega (arith, fits))
crowded_due ports (suc few) memories done [] rest few_memories small are fits room net = absurd (omega (arith, fits))
crowded_due ports (suc few) memories done (x ∷ xs) rest few_memories small are fits room net =
    let grown : length (done ++ x ∷ []) + length xs ≤ 2 ^ 20 = omega (arith, room, length-more done x) in
    let fewer : length xs ≡ few = omega (arith, fits) in
    let later = crowded_due ports few memories (done ++ x ∷ []) xs rest few_memories (all_more IsSmall done x small (net_small ports memories done x are.0)) are.1 fewer grown net in
    let more = subst (λ (k : ℕ). Due (Form.refuse TooManyNets) rest (nets_form few memories (done ++ x ∷ [])) (nets_text ports k xs)) (length-more done x) later in
    net_due ports few memories done x (Form.refuse TooManyNets) rest (nets_text ports (length done + 1) xs) are.0 (behind_of memories done few_memories (omega (arith, room)) small) more

net_first : (ports : List PortLine) (lines : List Line) (rest : List ℕ) → AllOf IsSmall lines → 1 ≤ length lines → is_memory_line (nets_text ports 0 lines ++ rest) ≡ false
net_first ports [] rest small some = absurd (omega (arith, some))
net_first ports (x ∷ xs) rest small some = ap is_memory_line (append_assoc (net_line ports 0 x) (nets_text ports 1 xs) rest) ∙ no_memory_line ports 0 x (nets_text ports 1 xs ++ rest) small.0

pub crowded_met : (one : Netlist) (rest : List ℕ) → IsModule one → length one.lines ≡ 2 ^ 20 → is_net_line rest ≡ true → HasFault module_form (declared_text one ++ rest) (length (declared_text one)) TooManyNets
crowded_met one rest is count net =
    let ports = one.ports in
    let memories = blank one.memories in
    let inputs = input_lines 0 ports in
    let split = behinds one is in
    let todo = split.todo in
    let header = started one.name ports in
    let due : Form Netlist = Form.refuse TooManyNets in
    let counted : length inputs + length todo ≡ length one.lines = sym (length-append inputs todo) ∙ ap (λ (ls : List Line). length ls) (sym split.is) ∙ bare_length 0 one.lines in
    let room : length inputs + length todo ≤ 2 ^ 20 = omega (arith, counted, count) in
    let fits : length todo ≡ 2 ^ 20 - length inputs = omega (arith, counted, count) in
    let small = small_bare one is in
    let apart = all_apart IsSmall inputs todo (subst (AllOf IsSmall) split.is small) in
    let few_memories : length memories ≤ 2 ^ 16 = omega (arith, is.well_made.few_memories, blank_length one.memories) in
    let back = nets_text ports (length inputs) todo in
    let nets : Due due rest (nets_behind header memories inputs) back =
    followed_under (λ lines. behind_nets_form header memories lines) (crowded_due ports (2 ^ 20 - length inputs) memories inputs todo rest few_memories apart.0 (are_nets one inputs todo is split.is (omega arith)) fits room net) in
    let together : nets_text ports 0 inputs ++ back ≡ nets_text ports 0 one.lines = nets_together one todo split.is in
    let some : 1 ≤ length (bare 0 one.lines) = omega (arith, bare_length 0 one.lines, count) in
    let no_memory : is_memory_line ((nets_text ports 0 inputs ++ back) ++ rest) ≡ false =
    ap (λ (t : List ℕ). is_memory_line (t ++ rest)) (together ∙ sym (bare_text ports 0 one.lines)) ∙ net_first ports (bare 0 one.lines) rest small some in
    let all = declared_due one due rest back is no_memory nets in
    let text : header_text one ++ (memories_text 0 one.memories ++ (nets_text ports 0 inputs ++ back)) ≡ declared_text one =
    ap (λ (t : List ℕ). header_text one ++ (memories_text 0 one.memories ++ t)) together ∙ declared_parts (header_text one) (memories_text 0 one.memories) (nets_text ports 0 one.lines) in
    record { front = declared_text one; rest = rest; parts = refl; place = refl; due = due; good = subst (λ (t : List ℕ). Due due rest module_form t) text all; misfit = Misfits.refuse TooManyNets }
