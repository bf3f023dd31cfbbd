-- In each run of a module whose ports stand on the nets of a multiplexer, it is one.
use Rattle.std.proofs.Common.{◌≡◌, ℕ, suc, ◌+◌, ◌*◌, ◌^◌, ◌<◌, ◌≤◌, Bool, true, false, List, length, codes, slice_get, get_or, Option, Some, None, refl, sym, ap, subst, ◌∙◌, arith}
use Rattle.std.specs.Prelude.{unwrap_or, IfSome}
use Rattle.std.specs.Option.{is_some}
use Rattle.std.proofs.Math.Path.{fun_ext}
use Rattle.histories.specs.History.{before, one_if}
use Rattle.netlist.specs.declared.line.PortLine.{PortLine}
use Rattle.netlist.specs.declared.line.Line.{Line}
use Rattle.netlist.specs.Nets.{NetValue}
use Rattle.netlist.specs.Netlists.{Netlist, IsWellMade, IsDriven, IsClocked, IsWritten, IsInputPort, driver_of}
use Rattle.netlist.specs.Runs.{Run, cycle_of, IsRun, IsEndlessRun, GoesOn}
use Rattle.netlist.specs.Longer.{Extends}
use Rattle.netlist.specs.Signals.{port_net, signal}
use Rattle.net_parts.specs.Nets.{IsNetOfWidth}
use Rattle.net_parts.specs.Growth.{AddsNets, GrowsBy, StillWait}
use Rattle.net_parts.specs.Laws.{extends_twice, extends_none}
use Rattle.stream_runs.specs.View.{AgreeBefore}
use Rattle.routed_runs.specs.Multiplexed.{Multiplexer, AreLegalInputs, input_side, IsMultiplexed}
use Rattle.pruned_netlists.specs.Pruned.{IsPruned}
use Rattle.st_mux.specs.declared.packet.PacketNets.{PacketNets}
use Rattle.st_mux.specs.declared.mux.MultiplexerNets.{MultiplexerNets}
use Rattle.st_mux.specs.Packets.{ArePacketNets, packet_view}
use Rattle.st_mux.specs.PacketChoices.{Shown, HaveSameWidths, IsLike}
use Rattle.st_mux.specs.Selecting.{AreBits}
use Rattle.st_mux.specs.MultiplexerNets.{multiplexer_run, ShowsSomeInput, MultiplexesInLonger}
use Rattle.routed_modules.specs.declared.header.EndPorts.{EndPorts}
use Rattle.routed_modules.specs.Sizes.{bits_for, empty_bits}
use Rattle.routed_modules.specs.Ports.{numbered, port_line, end_ports, numbered_ports, end_view}
use Rattle.routed_modules.specs.Drivers.{StandsAt, HasSameNets, AreDriven, MayDriveEach, coming_drivers, going_drivers}
use Rattle.routed_modules.specs.Ends.{IsInputAt, IsInputIf, HaveEnds, IsEndBeat, AreBeats, marks_at}
use Rattle.routed_modules.specs.Demultiplexers.{AreSizes}
use Rattle.routed_modules.specs.Multiplexers.{IsFilled, IsMultiplexerModule, coming, going, multiplexer_ports, multiplexer_at, Multiplexes, multiplexer_drivers}
use Rattle.routed_modules.proofs.Beginnings.{SameLegal, agree_turned}
use Rattle.routed_modules.proofs.MuxBeginnings.{same_multiplexed}
use Rattle.routed_modules.proofs.Driving.{aligned_append, aligned_before}
use Rattle.routed_modules.proofs.MuxHeaders.{few_mux_ports, few_numbers}
use Rattle.routed_modules.proofs.Places.{stands, stands_first, stands_whole, stands_behind, stands_as, stands_in, length_before}
use Rattle.routed_modules.proofs.EndItems.{end_length, coming_length}
use Rattle.routed_modules.proofs.InputPorts.{input_lasts}
use Rattle.routed_modules.proofs.InputBeats.{beats_last}
use Rattle.routed_modules.proofs.AtPorts.{IsNamed, EmptyAt, AreAtPorts, shows_at_ports, channel_at_port}
use Rattle.routed_modules.proofs.DemuxModule.{net_by, input_by, empty_comes, empty_goes, waiting_as, unwritten_as, end_by}

-- how many ports each input has
abbrev pub stride : Multiplexer → ℕ
stride mux = 5 + one_if (is_some (empty_bits mux.symbols))

module _ (mux : Multiplexer) where
  abbrev ins : List PortLine
  ins = numbered_ports true (coming mux) (codes "in") mux.inputs

  abbrev out : List PortLine
  out = end_ports false (going mux) (codes "out")

  input_size : (n : ℕ) → length (end_ports true (coming mux) (numbered (codes "in") n)) ≡ stride mux
  input_size n = let size = end_length true (mux.symbols * mux.bits) None (empty_bits mux.symbols) (numbered (codes "in") n) in omega (arith, size)

  pub input_stands : (k : ℕ) → k < mux.inputs → StandsAt (multiplexer_ports mux) (stride mux * k) (end_ports true (coming mux) (numbered (codes "in") k))
  input_stands k lt =
      stands_first ins out (end_ports true (coming mux) (numbered (codes "in") k)) (stride mux * k)
      (stands_in (λ number. end_ports true (coming mux) (numbered (codes "in") number)) (stride mux) input_size mux.inputs k lt)

  pub output_stands : StandsAt (multiplexer_ports mux) (stride mux * mux.inputs) out
  output_stands =
      let front : length ins ≡ stride mux * mux.inputs = length_before (λ number. end_ports true (coming mux) (numbered (codes "in") number)) (stride mux) input_size mux.inputs in
      stands_as (multiplexer_ports mux) out (length ins + 0) (stride mux * mux.inputs) (omega (arith, front)) (stands_behind ins out out 0 (stands_whole out))

  -- what drives them stands at the same places
  module _ (readies : List NetValue) (beat : PacketNets) (channel : NetValue) where
    abbrev e : Bool
    e = is_some (empty_bits mux.symbols)

    abbrev in_drivers : ℕ → List (Option NetValue)
    in_drivers k = coming_drivers (get_or readies k channel) false e

    driver_size : (n : ℕ) → length (in_drivers n) ≡ stride mux
    driver_size n = let size = coming_length (get_or readies n channel) false e in omega (arith, size)

    pub input_drivers_stand : (k : ℕ) → k < length readies → StandsAt (multiplexer_drivers readies beat channel e) (stride mux * k) (in_drivers k)
    input_drivers_stand k lt =
        stands_first (before in_drivers (length readies)) (going_drivers beat (Some channel) e) (in_drivers k) (stride mux * k) (stands_in in_drivers (stride mux) driver_size (length readies) k lt)

    pub output_drivers_stand : length readies ≡ mux.inputs → StandsAt (multiplexer_drivers readies beat channel e) (stride mux * mux.inputs) (going_drivers beat (Some channel) e)
    output_drivers_stand same =
        let front : length (before in_drivers (length readies)) ≡ stride mux * length readies = length_before in_drivers (stride mux) driver_size (length readies) in
        let whole : length (before in_drivers (length readies)) + 0 ≡ stride mux * mux.inputs = subst (λ n. length (before in_drivers (length readies)) + 0 ≡ stride mux * n) same (omega (arith, front)) in
        stands_as (multiplexer_drivers readies beat channel e) (going_drivers beat (Some channel) e) (length (before in_drivers (length readies)) + 0) (stride mux * mux.inputs) whole
        (stands_behind (before in_drivers (length readies)) (going_drivers beat (Some channel) e) (going_drivers beat (Some channel) e) 0 (stands_whole (going_drivers beat (Some channel) e)))

abbrev pub drivers_of : Multiplexer → MultiplexerNets → List (Option NetValue)
drivers_of mux made = multiplexer_drivers made.readies.items made.beat made.channel (is_some (empty_bits mux.symbols))

-- the nets at the ports
pub record IsJoined (mux : Multiplexer) (netlist : Netlist) (inputs : List PacketNets) (made : MultiplexerNets) (ready : NetValue) : Type 0 where
  pub well_made : IsWellMade netlist
  pub ports : netlist.ports ≡ multiplexer_ports mux
  pub beats : AreBeats netlist (stride mux) (coming mux) mux.inputs inputs
  pub ready_is : IsInputAt netlist (stride mux * mux.inputs) 1 ready
  pub count : length made.readies.items ≡ mux.inputs
  pub driven : AreDriven netlist (drivers_of mux made)
  pub undriven : (k : ℕ) → slice_get (drivers_of mux made) k ≡ Some None → driver_of netlist k ≡ None
  pub shows : ShowsSomeInput netlist inputs made.beat
  pub law : MultiplexesInLonger netlist inputs made ready

module _ (mux : Multiplexer) (netlist : Netlist) (inputs : List PacketNets) (made : MultiplexerNets) (ready : NetValue) (j : IsJoined mux netlist inputs made ready)
    (named : IsNamed) (legal_law : SameLegal) (self : Extends netlist netlist) (run endless : Run) (cycles : ℕ) (begins : (c : ℕ) → c < cycles → cycle_of endless c ≡ cycle_of run c) (is_run : IsEndlessRun netlist endless) where
  abbrev empty : Option ℕ
  empty = empty_bits mux.symbols

  abbrev drivers : List (Option NetValue)
  drivers = drivers_of mux made

  module _ (k : ℕ) (is_input : k < mux.inputs) where
    abbrev place : ℕ
    place = stride mux * k

    abbrev beat : PacketNets
    beat = get_or inputs k made.beat

    abbrev its_ready : NetValue
    its_ready = get_or made.readies.items k made.channel

    at : IsEndBeat netlist place (coming mux) beat
    at = j.beats.each k made.beat is_input

    drives : StandsAt drivers place (coming_drivers its_ready false (is_some empty))
    drives = input_drivers_stand mux made.readies.items made.beat made.channel k (let same = j.count in omega (arith, is_input, same))

    none_at : (i n : ℕ) → slice_get (coming_drivers its_ready false (is_some empty)) i ≡ Some None → n ≡ place + i → driver_of netlist n ≡ None
    none_at i n is here = j.undriven n (stands drivers (coming_drivers its_ready false (is_some empty)) place i n None drives is here)

    at_five : (o : Option ℕ) (width : ℕ) → o ≡ Some width → slice_get (coming_drivers its_ready false (is_some o)) 5 ≡ Some None
    at_five None width is = cc
    at_five (Some w) width is = refl

    empty_at : (o : Option ℕ) (port : ℕ) → IsInputIf netlist port o beat.empty → ((width : ℕ) → o ≡ Some width → driver_of netlist port ≡ None) → EmptyAt netlist endless port o beat.empty.number
    empty_at None port low none = λ c. low (cycle_of endless c) ((is_run (suc c)).valuations c (omega arith))
    empty_at (Some width) port here none = input_by netlist port width beat.empty (none width refl) here

    at_input : AreAtPorts netlist endless place (coming mux) beat its_ready
    at_input = record {
      ready_is = net_by netlist place its_ready.number (j.driven place its_ready (stands drivers (coming_drivers its_ready false (is_some empty)) place 0 place (Some its_ready) drives refl (omega arith)));
      valid = input_by netlist (place + 1) 1 beat.valid (none_at 1 (place + 1) refl refl) at.at.valid;
      word = input_by netlist (place + 2) (mux.symbols * mux.bits) beat.word (none_at 2 (place + 2) refl refl) at.at.word;
      first = input_by netlist (place + marks_at (coming mux)) 1 beat.first (none_at 3 (place + marks_at (coming mux)) refl (omega arith)) at.at.first;
      last = input_by netlist (place + marks_at (coming mux) + 1) 1 beat.last (none_at 4 (place + marks_at (coming mux) + 1) refl (omega arith)) at.at.last;
      empty = empty_at empty (place + marks_at (coming mux) + 2) at.at.empty (λ width some. none_at 5 (place + marks_at (coming mux) + 2) (at_five empty width some) (omega arith));
    }

    input_agrees : AgreeBefore (packet_view endless beat (λ c. 0) its_ready) (end_view netlist run (coming mux) (numbered (codes "in") k)) cycles
    input_agrees = shows_at_ports netlist run endless cycles j.well_made named begins true place (coming mux) (numbered (codes "in") k) beat its_ready (λ c. 0) refl
        (subst (λ (ports : List PortLine). StandsAt ports place (end_ports true (coming mux) (numbered (codes "in") k))) (sym j.ports) (input_stands mux k is_input))
        at_input (λ c lt. refl)

  abbrev out_place : ℕ
  out_place = stride mux * mux.inputs

  abbrev out_drivers : Option ℕ → List (Option NetValue)
  out_drivers o = going_drivers made.beat (Some made.channel) (is_some o)

  out_drives : StandsAt drivers out_place (out_drivers empty)
  out_drives = output_drivers_stand mux made.readies.items made.beat made.channel j.count

  out_stands : StandsAt netlist.ports out_place (end_ports false (going mux) (codes "out"))
  out_stands = subst (λ (ports : List PortLine). StandsAt ports out_place (end_ports false (going mux) (codes "out"))) (sym j.ports) (output_stands mux)

  driven_at : (i n : ℕ) (net : NetValue) → slice_get (out_drivers empty) i ≡ Some (Some net) → n ≡ out_place + i → port_net netlist n ≡ net.number
  driven_at i n net is here = net_by netlist n net.number (j.driven n net (stands drivers (out_drivers empty) out_place i n (Some net) out_drives is here))

  at_six : (o : Option ℕ) (width : ℕ) → o ≡ Some width → slice_get (out_drivers o) 6 ≡ Some (Some made.beat.empty)
  at_six None width is = cc
  at_six (Some w) width is = refl

  -- where there is no port for `empty` each input's net is always 0, and so is the output's
  low_empty : empty ≡ None → (c : ℕ) → endless.net c made.beat.empty.number ≡ 0
  low_empty none c =
      let from = j.shows netlist self endless is_run c in
      let below = from.1 in
      let size = j.beats.lengths in
      let inside : from.0 < mux.inputs = omega (arith, below, size) in
      ap (λ (s : Shown). s.empty) (from.2 made.beat)
      ∙ subst (λ (o : Option ℕ). IsInputIf netlist (stride mux * from.0 + marks_at (coming mux) + 2) o (get_or inputs from.0 made.beat).empty) none (at from.0 inside).at.empty (cycle_of endless c)
      ((is_run (suc c)).valuations c (omega arith))

  out_empty : (o : Option ℕ) → empty ≡ o → EmptyAt netlist endless (out_place + marks_at (going mux) + 2) o made.beat.empty.number
  out_empty None is = low_empty is
  out_empty (Some width) is = driven_at 6 (out_place + marks_at (going mux) + 2) made.beat.empty (at_six empty width is) (omega arith)

  at_output : AreAtPorts netlist endless out_place (going mux) made.beat ready
  at_output = record {
    ready_is = input_by netlist out_place 1 ready (j.undriven out_place (stands drivers (out_drivers empty) out_place 0 out_place None out_drives refl (omega arith))) j.ready_is;
    valid = driven_at 1 (out_place + 1) made.beat.valid refl refl;
    word = driven_at 2 (out_place + 2) made.beat.word refl refl;
    first = driven_at 4 (out_place + marks_at (going mux)) made.beat.first refl (omega arith);
    last = driven_at 5 (out_place + marks_at (going mux) + 1) made.beat.last refl (omega arith);
    empty = out_empty empty refl;
  }

  output_agrees : AgreeBefore (packet_view endless made.beat (λ c. endless.net c made.channel.number) ready) (end_view netlist run (going mux) (codes "out")) cycles
  output_agrees = shows_at_ports netlist run endless cycles j.well_made named begins false out_place (going mux) (codes "out") made.beat ready (λ c. endless.net c made.channel.number) refl out_stands at_output
      (channel_at_port netlist run endless cycles j.well_made named begins false out_place (going mux) (codes "out") (bits_for mux.inputs) made.channel out_stands refl (driven_at 3 (out_place + 3) made.channel refl refl))

  multiplexes_here : AreLegalInputs mux (multiplexer_at mux netlist run) cycles → IsMultiplexed mux (multiplexer_at mux netlist run) cycles
  multiplexes_here legal =
      same_multiplexed legal_law mux (multiplexer_run endless inputs made ready) (multiplexer_at mux netlist run) cycles
      (record { inputs = input_agrees; output = output_agrees })
      (j.law netlist self endless is_run mux (sym j.beats.lengths) cycles
      (λ i is. legal_law (input_side mux) _ (packet_view endless (get_or inputs i made.beat) (λ c. 0) (get_or made.readies.items i made.channel)) cycles (agree_turned _ _ cycles (input_agrees i is)) (legal i is)))

-- in every run
pub multiplexes : (mux : Multiplexer) (netlist : Netlist) (inputs : List PacketNets) (made : MultiplexerNets) (ready : NetValue) → IsJoined mux netlist inputs made ready
    → IsNamed → SameLegal → Extends netlist netlist → ((run : Run) (cycles : ℕ) → IsRun netlist run cycles → GoesOn netlist run cycles) → Multiplexes mux netlist
multiplexes mux netlist inputs made ready joined named legal_law self goes_on run cycles is_run legal =
    let on = goes_on run cycles is_run in
    multiplexes_here mux netlist inputs made ready joined named legal_law self run on.endless cycles on.begins on.is_run legal

-- ---- what may drive its ports

pub record CanDriveAll (mux : Multiplexer) (netlist : Netlist) (made : MultiplexerNets) : Type 0 where
  pub readies_are : AreBits netlist made.readies.items
  pub count : length made.readies.items ≡ mux.inputs
  pub beat : ArePacketNets netlist made.beat
  pub word : made.beat.word.width ≡ mux.symbols * mux.bits
  pub channel : IsNetOfWidth netlist made.channel (bits_for mux.inputs)
  pub empty : IfSome (empty_bits mux.symbols) (IsNetOfWidth netlist made.beat.empty)

pub drives_all : (mux : Multiplexer) (netlist : Netlist) (made : MultiplexerNets) → CanDriveAll mux netlist made → MayDriveEach netlist (multiplexer_ports mux) (drivers_of mux made)
drives_all mux netlist made can =
    let e = empty_bits mux.symbols in
    aligned_append netlist (numbered_ports true (coming mux) (codes "in") mux.inputs) (end_ports false (going mux) (codes "out")) _ (going_drivers made.beat (Some made.channel) (is_some e))
    (subst (λ count. MayDriveEach netlist (numbered_ports true (coming mux) (codes "in") mux.inputs) (before (λ i. coming_drivers (get_or made.readies.items i made.channel) false (is_some e)) count)) (sym can.count)
    (aligned_before netlist (λ number. end_ports true (coming mux) (numbered (codes "in") number)) (λ i. coming_drivers (get_or made.readies.items i made.channel) false (is_some e)) mux.inputs
    (λ k lt. (
      (refl, can.readies_are made.channel k (let same = can.count in omega (arith, lt, same))),
      (refl, (refl, (refl, (refl, empty_comes netlist (numbered (codes "in") k) e)))),
    )))) (
      refl,
      (
        (refl, can.beat.valid),
        (
          (refl, record { is_net = can.beat.word; has_width = can.word }),
          ((refl, can.channel), ((refl, can.beat.first), ((refl, can.beat.last), empty_goes netlist (codes "out") e made.beat.empty can.empty))),
        ),
      ),
    )

-- ---- from the ports

pub have_ends : (mux : Multiplexer) (netlist : Netlist) (has : EndPorts) (more : ℕ) → netlist.ports ≡ multiplexer_ports mux → has ≡ coming mux → more ≡ stride mux → HaveEnds netlist more has mux.inputs
have_ends mux netlist has more ports is size k lt = record {
  end = numbered (codes "in") k;
  stands =
      subst (λ n. StandsAt netlist.ports (n * k) (end_ports true has (numbered (codes "in") k))) (sym size)
      (subst (λ (h : EndPorts). StandsAt netlist.ports (stride mux * k) (end_ports true h (numbered (codes "in") k))) (sym is)
      (subst (λ (ps : List PortLine). StandsAt ps (stride mux * k) (end_ports true (coming mux) (numbered (codes "in") k))) (sym ports) (input_stands mux k lt)));
}

pub ready_port_of : (mux : Multiplexer) (netlist : Netlist) (place : ℕ) → netlist.ports ≡ multiplexer_ports mux → place ≡ stride mux * mux.inputs → IsInputPort netlist.ports place 1
ready_port_of mux netlist place ports is =
    let out = end_ports false (going mux) (codes "out") in
    record {
      port = port_line (codes "out") (codes "ready") 1 false;
      is = subst (λ (ps : List PortLine). slice_get ps place ≡ Some (port_line (codes "out") (codes "ready") 1 false)) (sym ports)
          (stands (multiplexer_ports mux) out (stride mux * mux.inputs) 0 place (port_line (codes "out") (codes "ready") 1 false) (output_stands mux) refl (omega (arith, is)));
      input = refl;
      width = refl;
    }

-- ---- all of it

-- what was made of an empty module, step by step
pub record IsMadeOf (mux : Multiplexer) (old first whole : Netlist) (inputs : List PacketNets) (made : MultiplexerNets) (ready : NetValue) : Type 0 where
  pub name : old.name ≡ codes "mux_interconnect"
  pub ports : old.ports ≡ multiplexer_ports mux
  pub few_inputs : length old.lines ≤ length (multiplexer_ports mux)
  pub clocked : IsClocked old
  pub written : IsWritten old
  pub one : AddsNets mux.inputs old first
  pub more : GrowsBy (14 * length inputs + 4 * 2 ^ bits_for mux.inputs) first whole
  pub no_more_wait : StillWait whole first
  pub beats : AreBeats first (stride mux) (coming mux) mux.inputs inputs
  pub ready_is : IsInputAt first (stride mux * mux.inputs) 1 ready
  pub beat : ArePacketNets whole made.beat
  pub like : IsLike made.beat inputs
  pub channel : IsNetOfWidth whole made.channel (bits_for mux.inputs)
  pub readies_are : AreBits whole made.readies.items
  pub count : length made.readies.items ≡ length inputs
  pub shows : ShowsSomeInput whole inputs made.beat
  pub law : MultiplexesInLonger whole inputs made ready

module _ (mux : Multiplexer) (old first whole : Netlist) (inputs : List PacketNets) (made : MultiplexerNets) (ready : NetValue) (m : IsMadeOf mux old first whole inputs made ready)
    (sizes : AreSizes mux.inputs mux.symbols mux.bits) where
  made_ports : whole.ports ≡ multiplexer_ports mux
  made_ports = m.more.extends.keeps.ports ∙ m.one.grows.extends.keeps.ports ∙ m.ports

  some_input : 0 < mux.inputs
  some_input = let some = sizes.some_ends in omega (arith, some)

  -- the beat of the output has the widths of the first input's
  widths : HaveSameWidths made.beat (get_or inputs 0 made.beat)
  widths = m.like made.beat 0 (let some = some_input in let size = m.beats.lengths in omega (arith, some, size))

  empty_of : (o : Option ℕ) → empty_bits mux.symbols ≡ o → IfSome o (IsNetOfWidth whole made.beat.empty)
  empty_of None is = tt
  empty_of (Some width) is = record {
    is_net = m.beat.empty;
    has_width = widths.empty ∙ (m.beats.each 0 made.beat some_input).wide ∙ ap (λ (o : Option ℕ). unwrap_or o 1) is;
  }

  can_all : CanDriveAll mux whole made
  can_all = record {
    readies_are = m.readies_are;
    count = m.count ∙ m.beats.lengths;
    beat = m.beat;
    word = widths.word ∙ (m.beats.each 0 made.beat some_input).at.word.is.has_width;
    channel = m.channel;
    empty = empty_of (empty_bits mux.symbols) refl;
  }

  pub each_drives : MayDriveEach whole whole.ports (drivers_of mux made)
  each_drives = subst (λ (ports : List PortLine). MayDriveEach whole ports (drivers_of mux made)) (sym made_ports) (drives_all mux whole made can_all)

  pub is_filled : (new : Netlist) → HasSameNets whole new → Extends whole new → AreDriven new (drivers_of mux made)
      → ((k : ℕ) → slice_get (drivers_of mux made) k ≡ Some None → driver_of new k ≡ None) → IsDriven new → IsWellMade new
      → IsNamed → SameLegal → ((run : Run) (cycles : ℕ) → IsRun new run cycles → GoesOn new run cycles) → IsFilled mux new
  is_filled new same e driven undriven drives well named legal_law goes_on =
      let few = few_mux_ports mux sizes in
      let begun = m.few_inputs in
      let one = m.one.most in
      let more = m.more.most in
      let inputs_are = m.beats.lengths in
      let most = sizes.few_ends in
      let numbers = few_numbers mux.inputs in
      let size = ap (λ (lines : List Line). length lines) same.lines in
      let on = extends_twice first whole new m.more.extends e in
      record {
        is = record {
          name = same.name ∙ m.more.extends.keeps.name ∙ m.one.grows.extends.keeps.name ∙ m.name;
          ports = same.ports ∙ made_ports;
          few = omega (arith, few, begun, one, more, inputs_are, most, numbers, size);
          multiplexes = multiplexes mux new inputs made ready
              (record {
                well_made = well;
                ports = same.ports ∙ made_ports;
                beats = beats_last first new (stride mux) (coming mux) mux.inputs inputs on m.beats;
                ready_is = input_lasts first new (stride mux * mux.inputs) 1 ready on m.ready_is;
                count = m.count ∙ m.beats.lengths;
                driven = driven;
                undriven = undriven;
                shows = λ longer longer_extends. m.shows longer (extends_twice whole new longer e longer_extends);
                law = λ longer longer_extends. m.law longer (extends_twice whole new longer e longer_extends);
              }) named legal_law (extends_none new) goes_on;
        };
        driven = drives;
        clocked = λ n waits. m.clocked n (m.one.grows.no_more_wait n (m.no_more_wait n (waiting_as whole new n same.lines waits)));
        written = λ k waits. m.written k (unwritten_as old whole k (m.more.memories ∙ m.one.grows.memories) (unwritten_as whole new k same.memories waits));
      }

-- ---- without what no output depends on

pub mux_pruned : (mux : Multiplexer) (whole pruned : Netlist) → IsPruned whole pruned → IsMultiplexerModule mux whole → IsMultiplexerModule mux pruned
mux_pruned mux whole pruned p h = record {
  name = p.name ∙ h.name;
  ports = p.ports ∙ h.ports;
  few = (let fewer = p.few in let few = h.few in omega (arith, fewer, few));
  multiplexes = λ run cycles is legal. (
      let w = p.runs run cycles is in
      let same : signal whole w.whole_run ≡ signal pruned run = fun_ext w.signals in
      subst (λ (shows : List ℕ → Option (ℕ → ℕ)). IsMultiplexed mux (record { inputs = λ i. end_by shows (coming mux) (numbered (codes "in") i); output = end_by shows (going mux) (codes "out") }) cycles) same
      (h.multiplexes w.whole_run cycles w.is_run
      (subst (λ (shows : List ℕ → Option (ℕ → ℕ)). AreLegalInputs mux (record { inputs = λ i. end_by shows (coming mux) (numbered (codes "in") i); output = end_by shows (going mux) (codes "out") }) cycles) (sym same) legal)));
}
