-- What the sections of a text find, line after line.
use Rattle.std.proofs.Common.{◌≡◌, ℕ, zero, suc, ◌+◌, ◌-◌, ◌<◌, ◌≤◌, ◌^◌, ◌&&◌, Bool, true, false, cond, not, List, [], ◌∷◌, ◌++◌, length, drop, get_or, slice_get, Some, refl, sym, ap, subst, ◌∙◌, arith, append_assoc, length-append}
use Rattle.std.specs.Prelude.{nat_lt, replicate}
use Rattle.std.proofs.Math.Seq.{drop-cons}
use Rattle.std.proofs.lemmas.List.{append-nil, length-replicate}
use Rattle.netlist.specs.declared.line.Equation.TheVariants.{Input}
use Rattle.netlist.specs.declared.line.Line.{Line}
use Rattle.netlist.specs.declared.line.Memory.{Memory}
use Rattle.netlist.specs.declared.line.PortLine.{PortLine}
use Rattle.netlist.specs.Netlists.{line_of}
use Rattle.verilog_writer.specs.Text.{wire_line}
use Rattle.verilog_forms.specs.declared.rule.Rule.TheVariants.{TooManyNets}
use Rattle.verilog_reader.specs.declared.spot.Spot.{Spot}
use Rattle.verilog_reader.specs.declared.spot.Spot.TheVariants.{At, Flawed}
use Rattle.verilog_forms.specs.Forms.{Form, Reads, followed}
use Rattle.verilog_forms.specs.MemoryLines.{memory_form}
use Rattle.verilog_forms.specs.InputLines.{input_form}
use Rattle.verilog_forms.specs.WholeTexts.{is_net_line, is_memory_line, listed, late_memory_form, memories_form, room_form, inputs_form}
use Rattle.verilog_forms.specs.Walks.{Outcome, pushed, walk}
use Rattle.verilog_reader.specs.Spots.{found, IsWithin, ahead_of, refused}
use Rattle.verilog_reader.specs.Sections.{is_flawed, Leads}
use Rattle.verilog_forms.specs.Spellings.{true_false}
use Rattle.verilog_forms.specs.Walked.{room_walked}
use Rattle.verilog_forms.specs.WalkLaws.{apart, walk_reads}
use Rattle.verilog_reader.proofs.Steps.{ahead_found, refuse_found, followed_found}

-- behind a flaw each form finds the flaw
pub flawed_same : {A : Type 0} (one other : Form A) (text : List ℕ) (spot : Spot) → is_flawed spot ≡ true → found one text spot ≡ found other text spot
unfolding found
flawed_same one other text (At at) flawed = absurd (true_false (sym flawed))
flawed_same one other text (Flawed at rule) flawed = refl

-- one line, and the others behind it

pub listed_found : {X : Type 0} (one : Form X) (others : Form (List X)) (text : List ℕ) (spot : Spot) (x : X) (behind : Spot) → IsWithin text spot → IsWithin text behind → found one text spot ≡ found (Form.whole x) text behind
    → found (listed one others) text spot ≡ found (followed others (λ xs. Form.whole (x ∷ xs))) text behind
listed_found one others text spot x behind from_ to_ e = followed_found one (λ y. followed others (λ xs. Form.whole (y ∷ xs))) text spot x behind from_ to_ e

pub listed_whole : {X : Type 0} (one : Form X) (others : Form (List X)) (text : List ℕ) (spot : Spot) (x : X) (behind : Spot) (xs : List X) (end : Spot) → IsWithin text spot → IsWithin text behind → IsWithin text end
    → found one text spot ≡ found (Form.whole x) text behind → found others text behind ≡ found (Form.whole xs) text end → found (listed one others) text spot ≡ found (Form.whole (x ∷ xs)) text end
listed_whole one others text spot x behind xs end from_ by to_ e f =
    listed_found one others text spot x behind from_ by e ∙ followed_found others (λ ys. Form.whole (x ∷ ys)) text behind xs end by to_ f

-- the sections, from the start on

pub leads_first : {X : Type 0} (all : Form (List X)) (text : List ℕ) (start : Spot) → Leads all text start [] all start
leads_first all text start xs end within e = e

pub leads_same : {X : Type 0} (all : Form (List X)) (text : List ℕ) (start : Spot) (done : List X) (form other : Form (List X)) (spot : Spot) → Leads all text start done form spot → found form text spot ≡ found other text spot → Leads all text start done other spot
leads_same all text start done form other spot leads same xs end within e = leads xs end within (same ∙ e)

pub leads_on : {X : Type 0} (all : Form (List X)) (text : List ℕ) (start : Spot) (done : List X) (one : Form X) (others : Form (List X)) (spot : Spot) (x : X) (behind : Spot) → IsWithin text spot → IsWithin text behind
    → Leads all text start done (listed one others) spot → found one text spot ≡ found (Form.whole x) text behind → Leads all text start (done ++ x ∷ []) others behind
leads_on all text start done one others spot x behind from_ by leads here xs end to_ e =
    leads (x ∷ xs) end to_ (listed_whole one others text spot x behind xs end from_ by to_ here e) ∙ ap (λ ys. found (Form.whole ys) text end) (sym (append_assoc done (x ∷ []) xs))

pub leads_to : {X : Type 0} (all : Form (List X)) (text : List ℕ) (start : Spot) (done : List X) (form : Form (List X)) (spot end : Spot) → Leads all text start done form spot → IsWithin text end → found form text spot ≡ found (Form.whole []) text end
    → found all text start ≡ found (Form.whole done) text end
leads_to all text start done form spot end leads within e = leads [] end within e ∙ ap (λ ys. found (Form.whole ys) text end) (append-nil done)

-- a flaw in a line is the section's
pub leads_flawed : {X : Type 0} (all : Form (List X)) (text : List ℕ) (start : Spot) (done : List X) (one : Form X) (others : Form (List X)) (spot : Spot) (x : X) (behind : Spot) → IsWithin text spot → IsWithin text behind
    → Leads all text start done (listed one others) spot → found one text spot ≡ found (Form.whole x) text behind → is_flawed behind ≡ true → found all text start ≡ found (Form.whole done) text behind
leads_flawed all text start done one others spot x behind from_ by leads here flawed =
    leads_to all text start done (listed one others) spot behind leads by (listed_found one others text spot x behind from_ by here ∙ flawed_same (followed others (λ xs. Form.whole (x ∷ xs))) (Form.whole []) text behind flawed)

-- memories

pub memory_stands : (few left m : ℕ) (text : List ℕ) (spot : Spot) → few ≡ suc left → is_memory_line (ahead_of text spot) ≡ true → found (memories_form few m) text spot ≡ found (listed (memory_form m) (memories_form left (m + 1))) text spot
memory_stands few left m text spot is line =
    let one = listed (memory_form m) (memories_form left (m + 1)) in
    ap (λ (k : ℕ). found (memories_form k m) text spot) is
    ∙ ahead_found (λ (rest : List ℕ). cond (is_memory_line rest) one (Form.whole [])) text spot
    ∙ ap (λ (b : Bool). found (cond b one (Form.whole [])) text spot) line

pub no_memory_stands : (few m : ℕ) (text : List ℕ) (spot : Spot) → is_memory_line (ahead_of text spot) ≡ false → found (memories_form few m) text spot ≡ found (Form.whole []) text spot
no_memory_stands zero m text spot line =
    ahead_found (λ (rest : List ℕ). cond (is_memory_line rest) late_memory_form (Form.whole [])) text spot ∙ ap (λ (b : Bool). found (cond b late_memory_form (Form.whole [])) text spot) line
no_memory_stands (suc few) m text spot line =
    let one = listed (memory_form m) (memories_form few (m + 1)) in
    ahead_found (λ (rest : List ℕ). cond (is_memory_line rest) one (Form.whole [])) text spot ∙ ap (λ (b : Bool). found (cond b one (Form.whole [])) text spot) line

pub late_memory_stands : (few m : ℕ) (text : List ℕ) (spot : Spot) → few ≡ 0 → is_memory_line (ahead_of text spot) ≡ true → found (memories_form few m) text spot ≡ found late_memory_form text spot
late_memory_stands few m text spot none line =
    ap (λ (k : ℕ). found (memories_form k m) text spot) none
    ∙ ahead_found (λ (rest : List ℕ). cond (is_memory_line rest) late_memory_form (Form.whole [])) text spot
    ∙ ap (λ (b : Bool). found (cond b late_memory_form (Form.whole [])) text spot) line

pub none_long : {X : Type 0} (xs : List X) (n : ℕ) → xs ≡ [] → length xs ≤ n
none_long {X} xs n e = subst (λ (ys : List X). length ys ≤ n) (sym e) (omega arith)

-- where the first memory, and where the next is due
pub memories_begin : (most : ℕ) (memories : List Memory) (text : List ℕ) (start : Spot) → memories ≡ [] → Leads (memories_form most 0) text start memories (memories_form (most - length memories) (length memories)) start
memories_begin most memories text start none =
    let all = memories_form most 0 in
    let count : most - 0 ≡ most = omega arith in
    subst (λ (ms : List Memory). Leads all text start ms (memories_form (most - length ms) (length ms)) start) (sym none)
    (leads_same all text start [] all (memories_form (most - 0) 0) start (leads_first all text start) (ap (λ (k : ℕ). found (memories_form k 0) text start) (sym count)))

pub memories_on : (most : ℕ) (text : List ℕ) (start : Spot) (old new : List Memory) (spot : Spot) (x : Memory) (behind : Spot) → IsWithin text spot → IsWithin text behind → new ≡ old ++ x ∷ [] → length old < most
    → is_memory_line (ahead_of text spot) ≡ true → found (memory_form (length old)) text spot ≡ found (Form.whole x) text behind → Leads (memories_form most 0) text start old (memories_form (most - length old) (length old)) spot
    → Leads (memories_form most 0) text start new (memories_form (most - length new) (length new)) behind
memories_on most text start old new spot x behind from_ to_ pushed fits line here leads =
    let all = memories_form most 0 in
    let m = length old in
    let left = most - (m + 1) in
    let few : most - m ≡ suc left = omega (arith, fits) in
    let due = leads_same all text start old (memories_form (most - m) m) (listed (memory_form m) (memories_form left (m + 1))) spot leads (memory_stands (most - m) left m text spot few line) in
    let on = leads_on all text start old (memory_form m) (memories_form left (m + 1)) spot x behind from_ to_ due here in
    let grown = old ++ x ∷ [] in
    subst (λ (ms : List Memory). Leads all text start ms (memories_form (most - length ms) (length ms)) behind) (sym pushed)
    (leads_same all text start grown (memories_form left (m + 1)) (memories_form (most - length grown) (length grown)) behind on (ap (λ (k : ℕ). found (memories_form (most - k) k) text behind) (sym (length-append old (x ∷ [])))))

-- inputs

pub no_room_found : {A : Type 0} (n : ℕ) (form : Form A) (text : List ℕ) (spot : Spot) (x : A) (behind : Spot) → (is_net_line (ahead_of text spot) && not (nat_lt n (2 ^ 20))) ≡ true → behind ≡ refused TooManyNets spot
    → found (room_form n form) text spot ≡ found (Form.whole x) text behind
no_room_found n form text spot x behind full refused_ =
    let refusal = Form.refuse TooManyNets in
    ahead_found (λ (rest : List ℕ). cond (is_net_line rest && not (nat_lt n (2 ^ 20))) refusal form) text spot
    ∙ ap (λ (b : Bool). found (cond b refusal form) text spot) full
    ∙ refuse_found TooManyNets (Form.whole x) text spot behind refused_

pub room_found : {A : Type 0} (n : ℕ) (form : Form A) (text : List ℕ) (spot : Spot) → (is_net_line (ahead_of text spot) && not (nat_lt n (2 ^ 20))) ≡ false → found (room_form n form) text spot ≡ found form text spot
room_found n form text spot room =
    let refusal = Form.refuse TooManyNets in
    ahead_found (λ (rest : List ℕ). cond (is_net_line rest && not (nat_lt n (2 ^ 20))) refusal form) text spot ∙ ap (λ (b : Bool). found (cond b refusal form) text spot) room

-- a form of room, and what stands there
room_as : {A B : Type 0} (n : ℕ) (one : Form A) (later : A → Form B) (text : List ℕ) (spot : Spot) → found (room_form n (followed one later)) text spot ≡ found (followed (room_form n one) later) text spot
room_as n one later text spot =
    let test = λ (rest : List ℕ). (is_net_line rest && not (nat_lt n (2 ^ 20))) in
    ahead_found (λ (rest : List ℕ). cond (test rest) (Form.refuse TooManyNets) (followed one later)) text spot
    ∙ by_test (test (ahead_of text spot)) one later text spot
    ∙ sym (ahead_found (λ (rest : List ℕ). followed (cond (test rest) (Form.refuse TooManyNets) one) later) text spot)
  where
    by_test : {A B : Type 0} (b : Bool) (one : Form A) (later : A → Form B) (text : List ℕ) (spot : Spot)
        → found (cond b (Form.refuse TooManyNets) (followed one later)) text spot ≡ found (followed (cond b (Form.refuse TooManyNets) one) later) text spot
    by_test true one later text spot = refl
    by_test false one later text spot = refl

-- what is found without a flaw is read
good_of : {A : Type 0} (k : ℕ) (o : Outcome A) (a : A) (rest : List ℕ) → pushed k o ≡ Outcome.good a rest → o ≡ Outcome.good a rest
good_of k (Outcome.good b back) a rest e = e
good_of k (Outcome.bad at rule) a rest e = absurd (apart a rest (k + at) rule (sym e))

good_reads : {A : Type 0} (form : Form A) (text : List ℕ) (spot : Spot) (x : A) (behind : Spot) → found form text spot ≡ found (Form.whole x) text behind → is_flawed behind ≡ false → (rest : List ℕ) × Reads form (ahead_of text spot) x rest
unfolding found
good_reads form text spot x (Flawed at rule) e good = absurd (true_false good)
good_reads form text (At at) x (At k) e good = (drop k text, walk_reads form (drop at text) x (drop k text) (good_of at (walk form (drop at text)) x (drop k text) e))
good_reads form text (Flawed at rule) x (At k) e good = absurd (apart x (drop k text) at rule (sym e))

-- what input lines are
abbrev pub AreSound : Type 0
AreSound = (ports : List PortLine) (n k : ℕ) (port : PortLine) (line : Line) (text rest : List ℕ) → slice_get ports k ≡ Some port → Reads (input_form n k port) text line rest → (line ≡ line_of port.width (Input k)) × (text ≡ wire_line ports n port.width (Input k) ++ rest)

slice_get-middle : {X : Type 0} (xs : List X) (y : X) (ys : List X) → slice_get (xs ++ y ∷ ys) (length xs) ≡ Some y
slice_get-middle [] y ys = refl
slice_get-middle (x ∷ xs) y ys = slice_get-middle xs y ys

pub has_room : AreSound → (n k : ℕ) (port : PortLine) (text : List ℕ) (spot : Spot) (line : Line) (behind : Spot) → found (room_form n (input_form n k port)) text spot ≡ found (Form.whole line) text behind → is_flawed behind ≡ false → n < 2 ^ 20
has_room sound n k port text spot line behind e good =
    let r = good_reads (room_form n (input_form n k port)) text spot line behind e good in
    let room = room_walked n (input_form n k port) line r.0 r.1.front r.1.good in
    let others = replicate k port in
    let at : slice_get (others ++ port ∷ []) k ≡ Some port = ap (slice_get (others ++ port ∷ [])) (sym (length-replicate k port)) ∙ slice_get-middle others port [] in
    let here = sound (others ++ port ∷ []) n k port line (r.1.front ++ r.0) r.0 at (record { front = r.1.front; parts = refl; good = room.1 }) in
    room.0 (ap is_net_line here.1)

pub port_skipped : (n k : ℕ) (port : PortLine) (ports : List PortLine) (all : Form (List Line)) (text : List ℕ) (start : Spot) (done : List Line) (spot : Spot) → port.output ≡ true
    → Leads all text start done (inputs_form n k (port ∷ ports)) spot → Leads all text start done (inputs_form n (k + 1) ports) spot
port_skipped n k port ports all text start done spot output leads =
    let later = inputs_form n (k + 1) ports in
    let room = room_form n (listed (input_form n k port) (inputs_form (n + 1) (k + 1) ports)) in
    leads_same all text start done (inputs_form n k (port ∷ ports)) later spot leads (ap (λ (b : Bool). found (cond b later room) text spot) output)

pub port_read : (k : ℕ) (port : PortLine) (ports : List PortLine) (all : Form (List Line)) (text : List ℕ) (start : Spot) (old new : List Line) (spot : Spot) (line : Line) (behind : Spot) → port.output ≡ false → IsWithin text spot → IsWithin text behind
    → new ≡ old ++ line ∷ [] → found (room_form (length old) (input_form (length old) k port)) text spot ≡ found (Form.whole line) text behind
    → Leads all text start old (inputs_form (length old) k (port ∷ ports)) spot → Leads all text start new (inputs_form (length new) (k + 1) ports) behind
port_read k port ports all text start old new spot line behind input from_ to_ pushed here leads =
    let n = length old in
    let one = input_form n k port in
    let others = inputs_form (n + 1) (k + 1) ports in
    let later = λ (x : Line). (followed others (λ xs. Form.whole (x ∷ xs))) in
    let due : found (inputs_form n k (port ∷ ports)) text spot ≡ found (listed (room_form n one) others) text spot =
    ap (λ (b : Bool). found (cond b (inputs_form n (k + 1) ports) (room_form n (listed one others))) text spot) input ∙ room_as n one later text spot in
    let on = leads_on all text start old (room_form n one) others spot line behind from_ to_ (leads_same all text start old (inputs_form n k (port ∷ ports)) (listed (room_form n one) others) spot leads due) here in
    let grown = old ++ line ∷ [] in
    subst (λ (ls : List Line). Leads all text start ls (inputs_form (length ls) (k + 1) ports) behind) (sym pushed)
    (leads_same all text start grown others (inputs_form (length grown) (k + 1) ports) behind on (ap (λ (j : ℕ). found (inputs_form j (k + 1) ports) text behind) (sym (length-append old (line ∷ [])))))

-- the port that is due, and those behind it
pub port_due : (ports : List PortLine) (text : List ℕ) (start : Spot) (lines : List Line) (k i : ℕ) (port : PortLine) (spot : Spot) → k ≡ i → i < length ports → port ≡ get_or ports i port
    → Leads (inputs_form 0 0 ports) text start lines (inputs_form (length lines) i (drop i ports)) spot → Leads (inputs_form 0 0 ports) text start lines (inputs_form (length lines) k (port ∷ drop (i + 1) ports)) spot
port_due ports text start lines k i port spot counted inside is leads =
    let all = inputs_form 0 0 ports in
    let one : suc i ≡ i + 1 = omega arith in
    let here : drop i ports ≡ port ∷ drop (i + 1) ports = drop-cons ports i port inside ∙ ap (λ (p : PortLine). p ∷ drop (suc i) ports) (sym is) ∙ ap (λ (j : ℕ). port ∷ drop j ports) one in
    leads_same all text start lines (inputs_form (length lines) i (drop i ports)) (inputs_form (length lines) k (port ∷ drop (i + 1) ports)) spot leads
    (ap (λ (ps : List PortLine). found (inputs_form (length lines) i ps) text spot) here ∙ ap (λ (j : ℕ). found (inputs_form (length lines) j (port ∷ drop (i + 1) ports)) text spot) (sym counted))
