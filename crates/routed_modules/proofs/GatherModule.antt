-- In each run of a module whose ports stand on the nets of a gatherer, it is one.
use Rattle.std.proofs.Common.{◌≡◌, ℕ, zero, suc, not, get_or, ◌+◌, ◌*◌, ◌<◌, ◌≤◌, Bool, true, false, List, length, codes, slice_get, Option, Some, None, refl, sym, ap, subst, ◌∙◌, arith}
use Rattle.std.specs.Prelude.{IsTrue}
use Rattle.std.proofs.Math.Path.{fun_ext}
use Rattle.std.proofs.Math.Nat.{mul_comm, mul_assoc}
use Rattle.netlist.specs.declared.line.PortLine.{PortLine}
use Rattle.netlist.specs.declared.line.Line.{Line}
use Rattle.netlist.specs.Nets.{NetValue}
use Rattle.netlist.specs.Netlists.{Netlist, IsWellMade, IsDriven, IsClocked, IsWritten, IsInputPort, IsHeader, driver_of}
use Rattle.netlist.specs.Runs.{Run, cycle_of, IsRun, GoesOn}
use Rattle.netlist.specs.Longer.{Extends}
use Rattle.netlist.specs.Signals.{port_net, signal}
use Rattle.net_parts.specs.Nets.{IsBit, IsNetOfWidth}
use Rattle.net_parts.specs.Laws.{extends_twice, extends_none}
use Rattle.stream_runs.specs.View.{Beat, AgreeBefore, is_high}
use Rattle.stream_runs.specs.Source.{IsLegalSource}
use Rattle.stream_runs.specs.Symbols.{Symbol, symbol_count, transferred_symbols}
use Rattle.routed_runs.specs.Routes.{direct, symbols_on, FollowWithin}
use Rattle.routed_runs.specs.Gathered.{Gatherer, GathererRun, gathered_symbols, input_side, output_side, IsOwed, IsGathered}
use Rattle.pruned_netlists.specs.Pruned.{IsPruned}
use Rattle.st_gather.specs.declared.words.WordNets.{WordNets}
use Rattle.st_gather.specs.declared.gather.GathererShape.{GathererShape}
use Rattle.st_gather.specs.declared.gather.GathererNets.{GathererNets}
use Rattle.st_gather.specs.Words.{word_view}
use Rattle.st_gather.specs.Whole.{LeavesWhole}
use Rattle.st_gather.specs.Gatherers.{HasShape, gatherer_run, GathersInLonger}
use Rattle.routed_modules.specs.declared.header.EndPorts.{EndPorts}
use Rattle.routed_modules.specs.Sizes.{bits_for}
use Rattle.routed_modules.specs.Ports.{port_line, end_ports, end_view}
use Rattle.routed_modules.specs.Drivers.{StandsAt, HasSameNets, AreDriven, MayDriveEach}
use Rattle.routed_modules.specs.Ends.{IsInputAt, IsWordAt}
use Rattle.routed_modules.specs.Gatherers.{AreGathererSizes, gathered_in, gathered_out, gatherer_ports, gatherer_at, Gathers, gatherer_drivers, IsGathererModule, IsGathererWhole}
use Rattle.routed_modules.proofs.Beginnings.{SameLegal, agree_turned, same_symbols, same_ready, same_transfer}
use Rattle.routed_modules.proofs.Names.{IsEnd, of_end, apart_append, apart_end, far, named_append, named_of}
use Rattle.routed_modules.proofs.Headers.{IsWideEnd, wide_append, wide_end, bits_width, header_of}
use Rattle.routed_modules.proofs.Places.{stands, stands_front, stands_behind}
use Rattle.routed_modules.proofs.InputPorts.{input_lasts}
use Rattle.routed_modules.proofs.AtPorts.{IsNamed, beat_by_parts, at_port}
use Rattle.routed_modules.proofs.DemuxModule.{net_by, input_by, waiting_as, unwritten_as, end_by}

-- ---- what a gatherer does depends on what its ends show alone

pub record AgreeAtEnds (one two : GathererRun) (count : ℕ) : Type 0 where
  pub input : AgreeBefore one.input two.input count
  pub output : AgreeBefore one.output two.output count

module _ (law : SameLegal) (g : Gatherer) (one two : GathererRun) (count : ℕ) (same : AgreeAtEnds one two count) where
  given : (c : ℕ) → c ≤ count → transferred_symbols (output_side g) one.output c ≡ transferred_symbols (output_side g) two.output c
  given c le = same_symbols one.output two.output count same.output (output_side g) c le

  taken : (c : ℕ) → c ≤ count → transferred_symbols (input_side g) one.input c ≡ transferred_symbols (input_side g) two.input c
  taken c le = same_symbols one.input two.input count same.input (input_side g) c le

  ready_before : (c : ℕ) → c < count → IsTrue (is_high two.output.ready c) → IsTrue (is_high one.output.ready c)
  ready_before c lt h = subst IsTrue (sym (same_ready one.output two.output count same.output c lt)) h

  owed : (c : ℕ) → c < count → IsOwed g two c → IsOwed g one c
  owed c lt h = record {
    ready = ready_before c lt h.ready;
    channel = h.channel;
    is_channel = h.is_channel;
    undelivered =
        subst (λ (xs : List Symbol). length (symbols_on h.channel xs) + gathered_symbols g ≤ length (symbols_on h.channel (transferred_symbols (input_side g) one.input c))) (sym (given c (omega (arith, lt))))
        (subst (λ (ys : List Symbol). length (symbols_on h.channel (transferred_symbols (output_side g) two.output c)) + gathered_symbols g ≤ length (symbols_on h.channel ys)) (sym (taken c (omega (arith, lt)))) h.undelivered);
  }

  pub same_gathered : IsGathered g one count → IsGathered g two count
  same_gathered h = record {
    legal = law (output_side g) one.output two.output count same.output h.legal;
    follows = λ k is c le.
        subst (λ (xs : List Symbol). FollowWithin (3 * gathered_symbols g) (symbols_on k (transferred_symbols (input_side g) two.input c)) (symbols_on k xs)) (given c le)
        (subst (λ (ys : List Symbol). FollowWithin (3 * gathered_symbols g) (symbols_on k ys) (symbols_on k (transferred_symbols (output_side g) one.output c))) (taken c le) (h.follows k is c le));
    full = λ c lt moves.
        (let here = h.full c lt (subst IsTrue (sym (same_transfer one.output two.output count same.output direct c lt)) moves) in
        ap (λ (beat : Beat). symbol_count (output_side g) beat) (sym (same.output.beat c lt)) ∙ here);
    accepts = λ start inside waiting.
        (let moves = h.accepts start inside (λ c from to. ready_before c (omega (arith, to, inside)) (waiting c from to)) in
        let to = moves.2 in
        (moves.0, moves.1, to, subst IsTrue (same_ready one.input two.input count same.input moves.0 (omega (arith, to, inside))) moves.3));
    delivers = λ start inside owing.
        (let moves = h.delivers start inside (λ c from to. owed c (omega (arith, to, inside)) (owing c from to)) in
        let to = moves.2 in
        (moves.0, moves.1, to, subst IsTrue (same_transfer one.output two.output count same.output direct moves.0 (omega (arith, to, inside))) moves.3));
  }

-- ---- from nets to ports

-- the nets at the ports of an end without packets
pub record AreWordsAtPorts (netlist : Netlist) (place : ℕ) (nets : WordNets) (ready : NetValue) : Type 0 where
  pub ready_is : port_net netlist place ≡ ready.number
  pub valid : port_net netlist (place + 1) ≡ nets.valid.number
  pub word : port_net netlist (place + 2) ≡ nets.word.number
  pub channel : port_net netlist (place + 3) ≡ nets.channel.number

-- its ports
abbrev pub word_end : ℕ → ℕ → EndPorts
word_end word_bits channel_bits = record { word = word_bits; channel = Some channel_bits; packets = false; empty = None }

module _ (netlist : Netlist) (run endless : Run) (cycles : ℕ) (well : IsWellMade netlist) (named : IsNamed) (begins : (c : ℕ) → c < cycles → cycle_of endless c ≡ cycle_of run c)
    (comes : Bool) (place word_bits channel_bits : ℕ) (end : List ℕ) (nets : WordNets) (ready : NetValue) (stand : StandsAt netlist.ports place (end_ports comes (word_end word_bits channel_bits) end))
    (at : AreWordsAtPorts netlist place nets ready) where
  item : (j n : ℕ) (port : PortLine) → slice_get (end_ports comes (word_end word_bits channel_bits) end) j ≡ Some port → n ≡ place + j → slice_get netlist.ports n ≡ Some port
  item j n port is e = stands netlist.ports (end_ports comes (word_end word_bits channel_bits) end) place j n port stand is e

  pub shows_words : AgreeBefore (word_view endless nets ready) (end_view netlist run (word_end word_bits channel_bits) end) cycles
  shows_words = record {
    valid = λ c lt. at_port netlist run endless cycles well named begins (place + 1) nets.valid.number 0 c (port_line end (codes "valid") 1 (not comes)) lt (item 1 (place + 1) _ refl refl) at.valid;
    ready = λ c lt. at_port netlist run endless cycles well named begins place ready.number 1 c (port_line end (codes "ready") 1 comes) lt (item 0 place _ refl (omega arith)) at.ready_is;
    beat = λ c lt. beat_by_parts _ _ _ _ _ _ _ _ _ _
        (at_port netlist run endless cycles well named begins (place + 2) nets.word.number 0 c (port_line end (codes "data") word_bits (not comes)) lt (item 2 (place + 2) _ refl refl) at.word)
        (at_port netlist run endless cycles well named begins (place + 3) nets.channel.number 0 c (port_line end (codes "channel") channel_bits (not comes)) lt (item 3 (place + 3) _ refl refl) at.channel)
        refl refl refl;
  }

-- where both ends stand
pub input_stands : (g : Gatherer) → StandsAt (gatherer_ports g) 0 (end_ports true (gathered_in g) (codes "in"))
input_stands g = stands_front (end_ports true (gathered_in g) (codes "in")) (end_ports false (gathered_out g) (codes "out"))

pub output_stands : (g : Gatherer) → StandsAt (gatherer_ports g) 4 (end_ports false (gathered_out g) (codes "out"))
output_stands g =
    stands_behind (end_ports true (gathered_in g) (codes "in")) (end_ports false (gathered_out g) (codes "out")) (end_ports false (gathered_out g) (codes "out")) 0
    (stands_whole (end_ports false (gathered_out g) (codes "out")))
  where
    stands_whole : (xs : List PortLine) → StandsAt xs 0 xs
    stands_whole xs j item is = let n : 0 + j ≡ j = omega arith in subst (λ m. slice_get xs m ≡ Some item) (sym n) is

pub ready_input : (g : Gatherer) (netlist : Netlist) → netlist.ports ≡ gatherer_ports g → IsInputPort netlist.ports 4 1
ready_input g netlist ports = record { port = port_line (codes "out") (codes "ready") 1 false; is = ap (λ (ps : List PortLine). slice_get ps 4) ports; input = refl; width = refl }

-- the nets at the ports
pub record IsJoined (g : Gatherer) (netlist : Netlist) (shape : GathererShape) (from : WordNets) (ready : NetValue) (made : GathererNets) : Type 0 where
  pub well_made : IsWellMade netlist
  pub ports : netlist.ports ≡ gatherer_ports g
  pub word_is : IsWordAt netlist 0 (g.symbols * g.bits) (bits_for g.channels) from
  pub ready_is : IsInputAt netlist 4 1 ready
  pub driven : AreDriven netlist (gatherer_drivers from made)
  pub inputs : (k : ℕ) → slice_get (gatherer_drivers from made) k ≡ Some None → driver_of netlist k ≡ None
  pub shape_is : HasShape g shape
  pub law : GathersInLonger netlist shape from ready made

-- in every run
pub gathers : (g : Gatherer) (netlist : Netlist) (shape : GathererShape) (from : WordNets) (ready : NetValue) (made : GathererNets) → IsJoined g netlist shape from ready made
    → IsNamed → SameLegal → Extends netlist netlist → ((run : Run) (cycles : ℕ) → IsRun netlist run cycles → GoesOn netlist run cycles) → Gathers g netlist
gathers g netlist shape from ready made j named legal_law self goes_on run cycles is_run legal =
    let on = goes_on run cycles is_run in
    same_gathered legal_law g (gatherer_run on.endless from ready made) (gatherer_at g netlist run) cycles
    (record { input = input_agrees on.endless on.begins; output = output_agrees on.endless on.begins })
    (j.law netlist self on.endless on.is_run g j.shape_is cycles
    (legal_law (input_side g) _ (word_view on.endless from made.ready) cycles (agree_turned _ _ cycles (input_agrees on.endless on.begins)) legal))
  where
    input_agrees : (endless : Run) → ((c : ℕ) → c < cycles → cycle_of endless c ≡ cycle_of run c) → AgreeBefore (word_view endless from made.ready) (end_view netlist run (gathered_in g) (codes "in")) cycles
    input_agrees endless begins =
        shows_words netlist run endless cycles j.well_made named begins true 0 (g.symbols * g.bits) (bits_for g.channels) (codes "in") from made.ready
        (subst (λ (ports : List PortLine). StandsAt ports 0 (end_ports true (gathered_in g) (codes "in"))) (sym j.ports) (input_stands g))
        (record {
          ready_is = net_by netlist 0 made.ready.number (j.driven 0 made.ready refl);
          valid = input_by netlist 1 1 from.valid (j.inputs 1 refl) j.word_is.valid;
          word = input_by netlist 2 (g.symbols * g.bits) from.word (j.inputs 2 refl) j.word_is.word;
          channel = input_by netlist 3 (bits_for g.channels) from.channel (j.inputs 3 refl) j.word_is.channel;
        })

    output_agrees : (endless : Run) → ((c : ℕ) → c < cycles → cycle_of endless c ≡ cycle_of run c)
        → AgreeBefore (word_view endless (record { valid = made.valid; word = made.word; channel = from.channel }) ready) (end_view netlist run (gathered_out g) (codes "out")) cycles
    output_agrees endless begins =
        shows_words netlist run endless cycles j.well_made named begins false 4 (gathered_symbols g * g.bits) (bits_for g.channels) (codes "out") (record { valid = made.valid; word = made.word; channel = from.channel }) ready
        (subst (λ (ports : List PortLine). StandsAt ports 4 (end_ports false (gathered_out g) (codes "out"))) (sym j.ports) (output_stands g))
        (record {
          ready_is = input_by netlist 4 1 ready (j.inputs 4 refl) j.ready_is;
          valid = net_by netlist 5 made.valid.number (j.driven 5 made.valid refl);
          word = net_by netlist 6 made.word.number (j.driven 6 made.word refl);
          channel = net_by netlist 7 from.channel.number (j.driven 7 from.channel refl);
        })

-- ---- all of it

-- what was made of an empty module
pub record IsMadeOf (g : Gatherer) (old made new : Netlist) (shape : GathererShape) (from : WordNets) (ready : NetValue) (nets : GathererNets) : Type 0 where
  pub name : old.name ≡ codes "gather_interconnect"
  pub ports : old.ports ≡ gatherer_ports g
  pub few_inputs : length old.lines ≤ 8
  pub clocked : IsClocked old
  pub written : IsWritten old
  pub grows : LeavesWhole (9 * shape.channels + 11) old made
  pub word_is : IsWordAt old 0 (g.symbols * g.bits) (bits_for g.channels) from
  pub ready_is : IsInputAt old 4 1 ready
  pub ready_bit : IsBit made nets.ready
  pub valid_bit : IsBit made nets.valid
  pub beat : IsNetOfWidth made nets.word (shape.word_bits * shape.parts)
  pub shape_is : HasShape g shape
  pub law : GathersInLonger made shape from ready nets

module _ (g : Gatherer) (old made new : Netlist) (shape : GathererShape) (from : WordNets) (ready : NetValue) (nets : GathererNets) (m : IsMadeOf g old made new shape from ready nets) where
  made_ports : made.ports ≡ gatherer_ports g
  made_ports = m.grows.extends.keeps.ports ∙ m.ports

  word_later : (later : Netlist) → Extends old later → IsWordAt later 0 (g.symbols * g.bits) (bits_for g.channels) from
  word_later later e = record {
    valid = input_lasts old later 1 1 from.valid e m.word_is.valid;
    word = input_lasts old later 2 (g.symbols * g.bits) from.word e m.word_is.word;
    channel = input_lasts old later 3 (bits_for g.channels) from.channel e m.word_is.channel;
  }

  beat_bits : shape.word_bits * shape.parts ≡ gathered_symbols g * g.bits
  beat_bits =
      ap (λ n. n * shape.parts) (sym m.shape_is.word) ∙ ap (λ n. g.bits * g.symbols * n) (sym m.shape_is.parts) ∙ turned g.bits g.symbols g.parts
    where
      turned : (a b c : ℕ) → a * b * c ≡ b * c * a
      turned a b c = mul_assoc a b c ∙ mul_comm a (b * c)

  pub each_drives : MayDriveEach made made.ports (gatherer_drivers from nets)
  each_drives = subst (λ (ports : List PortLine). MayDriveEach made ports (gatherer_drivers from nets)) (sym made_ports)
      (let later = word_later made m.grows.extends in (
        (refl, m.ready_bit),
        (
          refl,
          (
            refl,
            (
              refl,
              (
                refl,
                ((refl, m.valid_bit), ((refl, subst (λ n. IsNetOfWidth made nets.word n) beat_bits m.beat), ((refl, later.channel.is), tt))),
              ),
            ),
          ),
        ),
      ))

  pub is_whole : AreGathererSizes g.channels g.symbols g.parts g.bits → HasSameNets made new → Extends made new → AreDriven new (gatherer_drivers from nets)
      → ((k : ℕ) → slice_get (gatherer_drivers from nets) k ≡ Some None → driver_of new k ≡ None) → IsDriven new → IsWellMade new
      → IsNamed → SameLegal → ((run : Run) (cycles : ℕ) → IsRun new run cycles → GoesOn new run cycles) → IsGathererWhole g new
  is_whole sizes same e driven inputs whole well named legal_law goes_on =
      let begun = m.few_inputs in
      let most = m.grows.most in
      let channels = m.shape_is.channels in
      let few = sizes.few_channels in
      let size = ap (λ (lines : List Line). length lines) same.lines in
      let on = extends_twice old made new m.grows.extends e in
      record {
        is = record {
          name = same.name ∙ m.grows.extends.keeps.name ∙ m.name;
          ports = same.ports ∙ made_ports;
          few = omega (arith, begun, most, channels, few, size);
          gathers = gathers g new shape from ready nets
              (record {
                well_made = well;
                ports = same.ports ∙ made_ports;
                word_is = word_later new on;
                ready_is = input_lasts old new 4 1 ready on m.ready_is;
                driven = driven;
                inputs = inputs;
                shape_is = m.shape_is;
                law = λ longer longer_extends. m.law longer (extends_twice made new longer e longer_extends);
              }) named legal_law (extends_none new) goes_on;
        };
        driven = whole;
        clocked = λ n waits. m.clocked n (m.grows.waits n (waiting_as made new n same.lines waits));
        written = λ k waits. m.written k (m.grows.waits_for_write k (unwritten_as made new k same.memories waits));
      }

-- ---- the header

-- a part is no wider than the whole
pub part_less : (symbols parts bits : ℕ) → 1 ≤ parts → symbols * bits ≤ symbols * parts * bits
part_less symbols parts bits some =
    let whole : symbols * parts * bits ≡ parts * (symbols * bits) = ap (λ n. n * bits) (mul_comm symbols parts) ∙ mul_assoc parts symbols bits in
    let more = times_more parts (symbols * bits) some in
    omega (arith, whole, more)
  where
    times_more : (p n : ℕ) → 1 ≤ p → n ≤ p * n
    times_more zero n some = absurd (omega (arith, some))
    times_more (suc p) n some = let whole : suc p * n ≡ p * n + n = omega arith in omega (arith, whole)

pub gatherer_header : (g : Gatherer) → AreGathererSizes g.channels g.symbols g.parts g.bits → IsHeader (codes "gather_interconnect") (gatherer_ports g)
gatherer_header g h =
    let ins = end_ports true (gathered_in g) (codes "in") in
    let outs = end_ports false (gathered_out g) (codes "out") in
    let is_in : IsEnd (codes "in") = record { first = refl; bytes = refl } in
    let is_out : IsEnd (codes "out") = record { first = refl; bytes = refl } in
    header_of (codes "gather_interconnect") (gatherer_ports g) (record { first = refl; bytes = refl; suffix = refl })
    (named_append ins outs (named_of (codes "in") ins is_in (of_end true (gathered_in g) (codes "in"))) (named_of (codes "out") outs is_out (of_end false (gathered_out g) (codes "out"))))
    (apart_append ins outs (apart_end true (gathered_in g) (codes "in")) (apart_end false (gathered_out g) (codes "out"))
    (far (codes "in") (codes "out") ins outs is_in is_out (λ same. (let no : get_or (codes "in") 0 0 ≡ get_or (codes "out") 0 0 = ap (λ w. get_or w 0 0) same in absurd (omega (arith, no)))) (of_end true (gathered_in g) (codes "in")) (of_end false (gathered_out g) (codes "out"))))
    (wide_append ins outs (wide_end true (gathered_in g) (codes "in") in_wide) (wide_end false (gathered_out g) (codes "out") out_wide))
    (omega arith)
  where
    some_product : (a b : ℕ) → 1 ≤ a → 1 ≤ b → 1 ≤ a * b
    some_product zero b some more = absurd (omega (arith, some))
    some_product (suc a) b some more = let whole : suc a * b ≡ a * b + b = omega arith in omega (arith, whole, more)

    some_parts : 1 ≤ g.parts
    some_parts = let some = h.some_parts in omega (arith, some)

    in_wide : IsWideEnd (gathered_in g)
    in_wide =
        let less = part_less g.symbols g.parts g.bits some_parts in
        let narrow = h.narrow in
        record { word = (some_product g.symbols g.bits h.some_symbols h.some_bits, omega (arith, less, narrow)); channel = bits_width g.channels; empty = tt }

    out_wide : IsWideEnd (gathered_out g)
    out_wide = record { word = (some_product (g.symbols * g.parts) g.bits (some_product g.symbols g.parts h.some_symbols some_parts) h.some_bits, h.narrow); channel = bits_width g.channels; empty = tt }

-- ---- without what no output depends on

pub gather_pruned : (g : Gatherer) (whole pruned : Netlist) → IsPruned whole pruned → IsGathererModule g whole → IsGathererModule g pruned
gather_pruned g whole pruned p h = record {
  name = p.name ∙ h.name;
  ports = p.ports ∙ h.ports;
  few = (let fewer = p.few in let few = h.few in omega (arith, fewer, few));
  gathers = λ run cycles is legal. (
      let w = p.runs run cycles is in
      let same : signal whole w.whole_run ≡ signal pruned run = fun_ext w.signals in
      subst (λ (shows : List ℕ → Option (ℕ → ℕ)). IsGathered g (record { input = end_by shows (gathered_in g) (codes "in"); output = end_by shows (gathered_out g) (codes "out") }) cycles) same
      (h.gathers w.whole_run cycles w.is_run (subst (λ (shows : List ℕ → Option (ℕ → ℕ)). IsLegalSource (input_side g) (end_by shows (gathered_in g) (codes "in")) cycles) (sym same) legal)));
}
