-- The nets that are always low, and how a module begins.
use Rattle.std.proofs.Common.{◌≡◌, inl, inr, ℕ, zero, suc, ◌+◌, ◌*◌, ◌<◌, ◌≤◌, ◌^◌, Bool, true, false, not, cond, List, [], ◌∷◌, ◌++◌, length, take, slice_get, Option, Some, None, refl, sym, ap, subst, ◌∙◌, arith, append_assoc, length-append}
use Rattle.std.specs.Prelude.{if◌then◌else◌}
use Rattle.std.specs.List.{count_by}
use Rattle.std.proofs.lemmas.List.Sums.{sum_by-cons, sum_by-append, count_by-le-length}
use Rattle.std.proofs.lemmas.Option.{slice_get_within}
use Rattle.system_tables.specs.Tables.{SystemTable}
use Rattle.link_rules.specs.declared.plan_connections.StreamConnection.{StreamConnection}
use Rattle.link_rules.specs.Links.{streams_of}
use Rattle.link_rules.specs.PlanConnections.{IsStreamConnection}
use Rattle.netlist.specs.declared.line.Line.{Line}
use Rattle.netlist.specs.declared.line.PortLine.{PortLine}
use Rattle.netlist.specs.declared.line.Memory.{Memory}
use Rattle.netlist.specs.declared.line.Equation.TheVariants.{Input}
use Rattle.netlist.specs.Nets.{NetValue, net_of}
use Rattle.netlist.specs.Netlists.{Netlist, IsClocked, IsWritten, driver_of, input_count, input_lines, line_of, started, appended}
use Rattle.net_parts.specs.Growth.{StillWait}
use Rattle.port_tables.specs.Lists.{slice_get-append, slice_get-front, take_one_more, nat_less}
use Rattle.port_tables.specs.Ports.{ports_of, module_name}
use Rattle.port_tables.specs.PortMaps.{HasKnownPorts}
use Rattle.port_tables.specs.Wires.{is_wire, is_wire_link, is_wire_at, wires_before}
use Rattle.interconnect.specs.Streams.{low_line}
use Rattle.interconnect.specs.Joins.{low_at, low_lines, with_lows, AddsLow, AreLows, IsBegun}
use Rattle.interconnect.proofs.StreamEnds.{connection_of, start_known, finish_known}

-- ---- how many nets

input_count-cons : (p : PortLine) (ports : List PortLine) → input_count (p ∷ ports) ≡ cond (not p.output) 1 0 + input_count ports
input_count-cons p ports = sum_by-cons (λ (port : PortLine). cond (not port.output) 1 0) p ports

counted : (b : Bool) (l : Line) (xs : List Line) (n : ℕ) → length xs ≡ n → length (if b then xs else l ∷ xs) ≡ cond (not b) 1 0 + n
counted true l xs n e = omega (arith, e)
counted false l xs n e = omega (arith, e)

pub length-input_lines : (ports : List PortLine) (j : ℕ) → length (input_lines j ports) ≡ input_count ports
length-input_lines [] j = refl
length-input_lines (p ∷ ports) j =
    rw input_count-cons (counted p.output (line_of p.width (Input j)) (input_lines (j + 1) ports) (input_count ports) (length-input_lines ports (j + 1)))

-- ---- the nets that are always low

low_lines-more : (count : ℕ) → low_lines count ++ low_line ∷ [] ≡ low_lines (suc count)
low_lines-more zero = refl
low_lines-more (suc count) = ap (λ (lines : List Line). low_line ∷ lines) (low_lines-more count)

length-low_lines : (count : ℕ) → length (low_lines count) ≡ count
length-low_lines zero = refl
length-low_lines (suc count) = ap suc (length-low_lines count)

low_lines-at : (count n : ℕ) → n < count → slice_get (low_lines count) n ≡ Some low_line
low_lines-at zero n h = absurd (omega arith)
low_lines-at (suc count) zero h = refl
low_lines-at (suc count) (suc n) h = low_lines-at count n (omega arith)

with_more : (netlist : Netlist) (count : ℕ) → appended (with_lows netlist count) low_line ≡ with_lows netlist (suc count)
with_more netlist count =
    ap (λ (lines : List Line). record netlist { lines = lines }) (append_assoc netlist.lines (low_lines count) (low_line ∷ []) ∙ ap (λ (lines : List Line). netlist.lines ++ lines) (low_lines-more count))

count_more : (test : ℕ → Bool) (xs : List ℕ) (x : ℕ) (b : Bool) → test x ≡ b → count_by test (xs ++ x ∷ []) ≡ count_by test xs + cond b 1 0
count_more test xs x b e = sum_by-append (λ (y : ℕ). cond (test y) 1 0) xs (x ∷ []) ∙ ap (λ (n : ℕ). count_by test xs + n) (one b e)
  where
    one : (b : Bool) → test x ≡ b → count_by test (x ∷ []) ≡ cond b 1 0
    one b e = sum_by-cons (λ (y : ℕ). cond (test y) 1 0) x [] ∙ rw e (omega arith)

wires_more : (system : SystemTable) (number place : ℕ) (b : Bool) → slice_get (streams_of system) number ≡ Some place → is_wire_at system place ≡ b → wires_before system (number + 1) ≡ wires_before system number + cond b 1 0
wires_more system number place b e is = ap (count_by (is_wire_at system)) (take_one_more (streams_of system) number place e) ∙ count_more (is_wire_at system) (take number (streams_of system)) place b is

pub wire_test : (system : SystemTable) (number : ℕ) (link : StreamConnection) → IsStreamConnection system number link → is_wire_at system link.connection ≡ is_wire_link link
wire_test system number link at =
    let of = connection_of system number link at.connection at at.connection_is in
    let start = start_known system number link at.connection at of in
    let end = finish_known system number link at.connection at of in
    let fifo = at.fifo in
    let is = at.connection_is in
    let known : is_wire system at.connection ≡ is_wire_link link = rw (start, end, fifo) refl in
    rw is known

-- how far the low nets are made
pub record AreLowsTo (system : SystemTable) (number : ℕ) (old now : Netlist) (made : List (Option NetValue)) : Type 0 where
  pub lows : AreLows system number made
  pub lines : now ≡ with_lows old (wires_before system number)
  pub no_more_wait : StillWait now old
  pub inside : number ≤ length (streams_of system)

pub lows_more : (system : SystemTable) (number place : ℕ) (lows : List (Option NetValue)) (low : Option NetValue) → AreLows system number lows → slice_get (streams_of system) number ≡ Some place
    → low ≡ low_at system number place → AreLows system (number + 1) (lows ++ low ∷ [])
lows_more system number place lows low h e is =
    record {
      count = (let whole = length-append lows (low ∷ []) in let count = h.count in omega (arith, whole, count));
      each = λ n p below f. elim (nat_less n number below) [
        | inl earlier ↦ slice_get-front lows (low ∷ []) n (low_at system n p) (h.each n p earlier f)
        | inr same ↦ (let here : slice_get (streams_of system) number ≡ Some p = subst (λ (m : ℕ). slice_get (streams_of system) m ≡ Some p) same f in
            let places : place ≡ p = cc in
            let zero_more : length lows + 0 ≡ n = (let count = h.count in omega (arith, count, same)) in
            subst (λ (m : ℕ). slice_get (lows ++ low ∷ []) m ≡ Some (low_at system n p)) zero_more
            (slice_get-append lows (low ∷ []) 0 ∙ ap Some (is ∙ ap (low_at system number) places ∙ ap (λ (m : ℕ). low_at system m p) (sym same))))
      ];
    }

lows_length : (system : SystemTable) (old : Netlist) (count : ℕ) → old ≡ started (module_name system) (ports_of system) → length (with_lows old count).lines ≡ input_count (ports_of system) + count
lows_length system old count is =
    let lines = ap (λ (n : Netlist). length n.lines) is in
    let inputs = length-input_lines (ports_of system) 0 in
    let whole = length-append old.lines (low_lines count) in
    let lows = length-low_lines count in
    omega (arith, lines, inputs, whole, lows)

wires-few : (system : SystemTable) (number : ℕ) → wires_before system number ≤ length (streams_of system)
wires-few system number =
    let counted = count_by-le-length (is_wire_at system) (take number (streams_of system)) in
    let taken = length-take number (streams_of system) in
    omega (arith, counted, taken)
  where
    length-take : {X : Type 0} (k : ℕ) (xs : List X) → length (take k xs) ≤ length xs
    length-take zero [] = omega arith
    length-take zero (x ∷ xs) = omega arith
    length-take (suc k) [] = omega arith
    length-take (suc k) (x ∷ xs) = (let rest = length-take k xs in omega (arith, rest))

pub low_room : (system : SystemTable) (number : ℕ) (old now : Netlist) (lows : List (Option NetValue)) → HasKnownPorts system → old ≡ started (module_name system) (ports_of system) → AreLowsTo system number old now lows
    → length now.lines < 2 ^ 20
low_room system number old now lows h is to =
    let lines = ap (λ (n : Netlist). length n.lines) to.lines in
    let long = lows_length system old (wires_before system number) is in
    let wires = wires-few system number in
    let inputs = h.few_inputs in
    let streams = h.planned.few_streams in
    omega (arith, lines, long, wires, inputs, streams)

-- a wire gets a low net
pub wire_low : (system : SystemTable) (number : ℕ) (link : StreamConnection) (old now new : Netlist) (lows : List (Option NetValue)) (net : NetValue) → old ≡ started (module_name system) (ports_of system)
    → IsStreamConnection system number link → is_wire_link link ≡ true → AreLowsTo system number old now lows → new ≡ appended now low_line → net ≡ net_of (length now.lines) 1 → StillWait new now
    → AreLowsTo system (number + 1) old new (lows ++ Some net ∷ [])
wire_low system number link old now new lows net is at wire to e f waits =
    let test = wire_test system number link at ∙ wire in
    let more : wires_before system (number + 1) ≡ suc (wires_before system number) = (let n = wires_more system number link.connection true at.place_is test in omega (arith, n)) in
    let long : length now.lines ≡ input_count (ports_of system) + wires_before system number = ap (λ (n : Netlist). length n.lines) to.lines ∙ lows_length system old (wires_before system number) is in
    let low : low_at system number link.connection ≡ Some (net_of (input_count (ports_of system) + wires_before system number) 1) =
    ap (λ (b : Bool). if b then Some (net_of (input_count (ports_of system) + wires_before system number) 1) else None) test in
    record {
      lows = lows_more system number link.connection lows (Some net) to.lows at.place_is (ap Some (f ∙ ap (λ (n : ℕ). net_of n 1) long) ∙ sym low);
      lines = e ∙ ap (λ (n : Netlist). appended n low_line) to.lines ∙ with_more old (wires_before system number) ∙ ap (with_lows old) (sym more);
      no_more_wait = λ n w. to.no_more_wait n (waits n w);
      inside = (let within = slice_get_within (streams_of system) number link.connection at.place_is in omega (arith, within));
    }

-- another stream gets none
pub no_low : (system : SystemTable) (number : ℕ) (link : StreamConnection) (old now : Netlist) (lows : List (Option NetValue)) → IsStreamConnection system number link → is_wire_link link ≡ false
    → AreLowsTo system number old now lows → AreLowsTo system (number + 1) old now (lows ++ None ∷ [])
no_low system number link old now lows at wire to =
    let test = wire_test system number link at ∙ wire in
    let same : wires_before system (number + 1) ≡ wires_before system number = (let n = wires_more system number link.connection false at.place_is test in omega (arith, n)) in
    let low : low_at system number link.connection ≡ None = ap (λ (b : Bool). if b then Some (net_of (input_count (ports_of system) + wires_before system number) 1) else None) test in
    record {
      lows = lows_more system number link.connection lows None to.lows at.place_is (sym low);
      lines = to.lines ∙ ap (with_lows old) (sym same);
      no_more_wait = to.no_more_wait;
      inside = (let within = slice_get_within (streams_of system) number link.connection at.place_is in omega (arith, within));
    }

-- one stream more, whether a wire or not
pub low_more : (system : SystemTable) (number : ℕ) (link : StreamConnection) (old now new : Netlist) (lows more : List (Option NetValue)) (low : Option NetValue) → old ≡ started (module_name system) (ports_of system)
    → IsStreamConnection system number link → AreLowsTo system number old now lows → AddsLow (is_wire_link link) now new low → more ≡ lows ++ low ∷ [] → AreLowsTo system (number + 1) old new more
low_more system number link old now new lows more low is at to adds e = subst (AreLowsTo system (number + 1) old new) (sym e) (by_wire (is_wire_link link) refl adds)
  where
    by_wire : (b : Bool) → is_wire_link link ≡ b → AddsLow b now new low → AreLowsTo system (number + 1) old new (lows ++ low ∷ [])
    by_wire true wire added = subst (λ (o : Option NetValue). AreLowsTo system (number + 1) old new (lows ++ o ∷ [])) (sym added.1)
        (wire_low system number link old now new lows (net_of (length now.lines) 1) is at wire to added.0 refl added.2)
    by_wire false wire added = subst (λ (o : Option NetValue). AreLowsTo system (number + 1) old new (lows ++ o ∷ [])) (sym added.1)
        (subst (λ (n : Netlist). AreLowsTo system (number + 1) old n (lows ++ None ∷ [])) (sym added.0) (no_low system number link old now lows at wire to))

-- ---- the beginning

pub begins : (system : SystemTable) (old now : Netlist) → old ≡ started (module_name system) (ports_of system) → now ≡ with_lows old (wires_before system (length (streams_of system))) → StillWait now old
    → IsClocked old → IsWritten old → ((k : ℕ) → driver_of old k ≡ None) → IsBegun system now
begins system old now is e waits clocked written undriven =
    let count = wires_before system (length (streams_of system)) in
    let lines : now.lines ≡ old.lines ++ low_lines count = ap (λ (n : Netlist). n.lines) e in
    let inputs : length old.lines ≡ input_count (ports_of system) = ap (λ (n : Netlist). length n.lines) is ∙ length-input_lines (ports_of system) 0 in
    let memories : now.memories ≡ old.memories = ap (λ (n : Netlist). n.memories) e in
    record {
      name = ap (λ (n : Netlist). n.name) e ∙ ap (λ (n : Netlist). n.name) is;
      ports = ap (λ (n : Netlist). n.ports) e ∙ ap (λ (n : Netlist). n.ports) is;
      lows = λ n below. ap (λ (ls : List Line). slice_get ls (input_count (ports_of system) + n)) lines
          ∙ ap (λ (m : ℕ). slice_get (old.lines ++ low_lines count) (m + n)) (sym inputs)
          ∙ slice_get-append old.lines (low_lines count) n
          ∙ low_lines-at count n below;
      undriven = λ k. ap (λ (n : Netlist). driver_of n k) e ∙ undriven k;
      clocked = λ n w. clocked n (waits n w);
      written = λ m w. written m (record { memory = w.memory; is = subst (λ (ms : List Memory). slice_get ms m ≡ Some w.memory) memories w.is; waits = w.waits });
      memories = memories ∙ ap (λ (n : Netlist). n.memories) is;
      few = (let long = ap (λ (n : Netlist). length n.lines) e ∙ lows_length system old count is in let wires = wires-few system (length (streams_of system)) in omega (arith, long, wires));
    }

-- ---- numbers

take_all : {X : Type 0} (xs : List X) → take (length xs) xs ≡ xs
take_all [] = refl
take_all (x ∷ xs) = ap (λ ys. x ∷ ys) (take_all xs)

pub mul_some : (a b : ℕ) → 1 ≤ a → 1 ≤ b → 0 < a * b
mul_some zero b h k = absurd (omega arith)
mul_some (suc a) zero h k = absurd (omega arith)
mul_some (suc a) (suc b) h k = omega arith

-- the wires before one are fewer than all
pub wire_below : (system : SystemTable) (number place : ℕ) → slice_get (streams_of system) number ≡ Some place → is_wire_at system place ≡ true → wires_before system number < wires_before system (length (streams_of system))
wire_below system number place e is =
    let more = wires_more system number place true e is in
    let inside = slice_get_within (streams_of system) number place e in
    let most = count_grows (is_wire_at system) (number + 1) (streams_of system) in
    let whole = ap (count_by (is_wire_at system)) (take_all (streams_of system)) in
    omega (arith, more, most, whole)
  where
    count_grows : (test : ℕ → Bool) (k : ℕ) (xs : List ℕ) → count_by test (take k xs) ≤ count_by test xs
    count_grows test zero xs = omega arith
    count_grows test (suc k) [] = omega arith
    count_grows test (suc k) (x ∷ xs) =
        let rest = count_grows test k xs in
        let one = sum_by-cons (λ (y : ℕ). cond (test y) 1 0) x (take k xs) in
        let other = sum_by-cons (λ (y : ℕ). cond (test y) 1 0) x xs in
        omega (arith, rest, one, other)
