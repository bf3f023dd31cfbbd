-- In each run of a module whose ports stand on the nets of a demultiplexer, it is one.
use Rattle.std.proofs.Common.{◌≡◌, ℕ, suc, ◌+◌, ◌*◌, ◌<◌, ◌≤◌, true, false, List, ◌-◌, length, codes, slice_get, get_or, Option, Some, None, refl, sym, ap, subst, ◌∙◌, arith}
use Rattle.std.specs.Prelude.{unwrap_or, IfSome, if◌then◌else◌}
use Rattle.std.specs.Option.{is_some}
use Rattle.std.proofs.Math.Path.{fun_ext}
use Rattle.histories.specs.History.{before, one_if}
use Rattle.netlist.specs.declared.line.PortLine.{PortLine}
use Rattle.netlist.specs.Nets.{NetValue}
use Rattle.netlist.specs.declared.line.Line.{Line}
use Rattle.netlist.specs.declared.line.Memory.{Memory}
use Rattle.netlist.specs.Netlists.{Netlist, IsWellMade, IsDriven, IsClocked, IsWritten, IsWaiting, WaitsForWrite, driver_of, input_net}
use Rattle.net_parts.specs.Growth.{AddsNets}
use Rattle.net_parts.specs.Laws.{extends_twice, extends_none}
use Rattle.netlist.specs.Runs.{Run, cycle_of, IsRun, IsEndlessRun, GoesOn}
use Rattle.netlist.specs.Longer.{Extends}
use Rattle.netlist.specs.Signals.{port_net, signal}
use Rattle.net_parts.specs.Nets.{IsBit, IsNetOfWidth}
use Rattle.st_mux.specs.Selecting.{AreBits}
use Rattle.stream_runs.specs.View.{EndView, AgreeBefore}
use Rattle.stream_runs.specs.Ends.{view_of}
use Rattle.stream_runs.specs.Source.{IsLegalSource}
use Rattle.routed_runs.specs.Demultiplexed.{Demultiplexer, input_side, IsDemultiplexed}
use Rattle.pruned_netlists.specs.Pruned.{IsPruned}
use Rattle.st_mux.specs.declared.packet.PacketNets.{PacketNets}
use Rattle.st_mux.specs.Packets.{packet_view}
use Rattle.st_mux.specs.DemultiplexerNets.{demultiplexer_run, DemultiplexesInLonger}
use Rattle.routed_modules.specs.declared.header.EndPorts.{EndPorts}
use Rattle.routed_modules.specs.Sizes.{bits_for, empty_bits}
use Rattle.routed_modules.specs.Ports.{port_name, numbered, port_if, end_ports, numbered_ports, end_view}
use Rattle.routed_modules.specs.Drivers.{StandsAt, HasSameNets, AreDriven, MayDriveEach, coming_drivers, going_drivers, driver_if, none_if}
use Rattle.routed_modules.specs.Ends.{IsInputAt, IsInputIf, HasEndAt, IsBeatAt, IsChannelAt, HaveReadies, AreReadies, marks_at}
use Rattle.routed_modules.specs.Demultiplexers.{AreSizes, IsFilled, IsDemultiplexerModule, coming, going, demultiplexer_ports, demultiplexer_at, Demultiplexes, shown_at, demultiplexer_drivers}
use Rattle.routed_modules.proofs.Beginnings.{SameLegal, agree_turned, same_demultiplexed}
use Rattle.routed_modules.proofs.Driving.{aligned_append, aligned_before}
use Rattle.routed_modules.proofs.Headers.{few_demux_ports}
use Rattle.routed_modules.proofs.Places.{stands, stands_front, stands_behind, stands_as, stands_in}
use Rattle.routed_modules.proofs.EndItems.{end_length, coming_length, going_length}
use Rattle.routed_modules.proofs.InputPorts.{input_lasts}
use Rattle.routed_modules.proofs.AtPorts.{IsNamed, EmptyAt, AreAtPorts, shows_at_ports, channel_at_port}

-- how many ports stand before those of the outputs, and how many each output has
abbrev pub extra : Demultiplexer → ℕ
extra demux = one_if (is_some (empty_bits demux.symbols))

pub output_stands : (demux : Demultiplexer) (k : ℕ) → k < demux.outputs
    → StandsAt (demultiplexer_ports demux) (6 + extra demux + (5 + extra demux) * k) (end_ports false (going demux) (numbered (codes "out") k))
output_stands demux k lt =
    let front = end_length true (demux.symbols * demux.bits) (Some (bits_for demux.outputs)) (empty_bits demux.symbols) (codes "in") in
    stands_as (demultiplexer_ports demux) (end_ports false (going demux) (numbered (codes "out") k)) (length (end_ports true (coming demux) (codes "in")) + (5 + extra demux) * k) _ (omega (arith, front))
    (stands_behind (end_ports true (coming demux) (codes "in")) (numbered_ports false (going demux) (codes "out") demux.outputs) (end_ports false (going demux) (numbered (codes "out") k)) ((5 + extra demux) * k)
    (stands_in (λ number. end_ports false (going demux) (numbered (codes "out") number)) (5 + extra demux)
    (λ n. (let size = end_length false (demux.symbols * demux.bits) None (empty_bits demux.symbols) (numbered (codes "out") n) in omega (arith, size))) demux.outputs k lt))

driver_stands : (demux : Demultiplexer) (from : PacketNets) (ready : NetValue) (valids : List NetValue) (k : ℕ) → k < length valids
    → StandsAt (demultiplexer_drivers from ready valids (is_some (empty_bits demux.symbols))) (6 + extra demux + (5 + extra demux) * k) (going_drivers (shown_at from valids k) None (is_some (empty_bits demux.symbols)))
driver_stands demux from ready valids k lt =
    let front = coming_length ready true (is_some (empty_bits demux.symbols)) in
    stands_as (demultiplexer_drivers from ready valids (is_some (empty_bits demux.symbols))) (going_drivers (shown_at from valids k) None (is_some (empty_bits demux.symbols))) (length (coming_drivers ready true (is_some (empty_bits demux.symbols))) + (5 + extra demux) * k) _ (omega (arith, front))
    (stands_behind (coming_drivers ready true (is_some (empty_bits demux.symbols))) (before (λ n. going_drivers (shown_at from valids n) None (is_some (empty_bits demux.symbols))) (length valids)) (going_drivers (shown_at from valids k) None (is_some (empty_bits demux.symbols))) ((5 + extra demux) * k)
    (stands_in (λ n. going_drivers (shown_at from valids n) None (is_some (empty_bits demux.symbols))) (5 + extra demux)
    (λ n. (let size = going_length (shown_at from valids n) None (is_some (empty_bits demux.symbols)) in omega (arith, size))) (length valids) k lt))

-- the nets at the ports
pub record IsJoined (demux : Demultiplexer) (netlist : Netlist) (from : PacketNets) (channel ready : NetValue) (valids readies : List NetValue) : Type 0 where
  pub well_made : IsWellMade netlist
  pub ports : netlist.ports ≡ demultiplexer_ports demux
  pub beat : IsBeatAt netlist 0 (coming demux) from
  pub channel_is : IsChannelAt netlist 0 (bits_for demux.outputs) channel
  pub are_readies : AreReadies netlist (6 + extra demux) (5 + extra demux) demux.outputs readies
  pub lengths : length valids ≡ demux.outputs
  pub driven : AreDriven netlist (demultiplexer_drivers from ready valids (is_some (empty_bits demux.symbols)))
  pub inputs : (k : ℕ) → slice_get (demultiplexer_drivers from ready valids (is_some (empty_bits demux.symbols))) k ≡ Some None → driver_of netlist k ≡ None
  pub law : DemultiplexesInLonger netlist from channel ready valids readies

-- the net at a port by what drives it
pub net_by : (netlist : Netlist) (k n : ℕ) → driver_of netlist k ≡ Some n → port_net netlist k ≡ n
net_by netlist k n e = ap (λ (o : Option ℕ). unwrap_or o (input_net netlist.ports k)) e

pub input_by : (netlist : Netlist) (k width : ℕ) (net : NetValue) → driver_of netlist k ≡ None → IsInputAt netlist k width net → port_net netlist k ≡ net.number
input_by netlist k width net e at = ap (λ (o : Option ℕ). unwrap_or o (input_net netlist.ports k)) e ∙ sym at.number

module _ (demux : Demultiplexer) (netlist : Netlist) (from : PacketNets) (channel ready : NetValue) (valids readies : List NetValue) (j : IsJoined demux netlist from channel ready valids readies)
    (named : IsNamed) (legal_law : SameLegal) (self : Extends netlist netlist) (run endless : Run) (cycles : ℕ) (begins : (c : ℕ) → c < cycles → cycle_of endless c ≡ cycle_of run c) (is_run : IsEndlessRun netlist endless) where
  abbrev e : Option ℕ
  e = empty_bits demux.symbols

  -- where there is no port for `empty` its net is always 0
  at_empty : (o : Option ℕ) (from_port port : ℕ) → IsInputIf netlist from_port o from.empty → ((width : ℕ) → o ≡ Some width → port_net netlist port ≡ from.empty.number) → EmptyAt netlist endless port o from.empty.number
  at_empty None from_port port low here = λ c. low (cycle_of endless c) ((is_run (suc c)).valuations c (omega arith))
  at_empty (Some width) from_port port low here = here width refl

  at_six : (o : Option ℕ) (width : ℕ) → o ≡ Some width → slice_get (demultiplexer_drivers from ready valids (is_some o)) 6 ≡ Some None
  at_six None width is = cc
  at_six (Some w) width is = refl

  six_at : (o : Option ℕ) (width : ℕ) → o ≡ Some width → IsInputIf netlist 6 o from.empty → IsInputAt netlist 6 width from.empty
  six_at None width is at = cc
  six_at (Some w) width is at = (let same : w ≡ width = cc in subst (λ n. IsInputAt netlist 6 n from.empty) same at)

  at_input : AreAtPorts netlist endless 0 (coming demux) from ready
  at_input = record {
    ready_is = net_by netlist 0 ready.number (j.driven 0 ready refl);
    valid = input_by netlist 1 1 from.valid (j.inputs 1 refl) j.beat.valid;
    word = input_by netlist 2 (demux.symbols * demux.bits) from.word (j.inputs 2 refl) j.beat.word;
    first = input_by netlist 4 1 from.first (j.inputs 4 refl) j.beat.first;
    last = input_by netlist 5 1 from.last (j.inputs 5 refl) j.beat.last;
    empty = at_empty e 6 6 j.beat.empty (λ width some. input_by netlist 6 width from.empty (j.inputs 6 (at_six e width some)) (six_at e width some j.beat.empty));
  }

  input_stands : StandsAt netlist.ports 0 (end_ports true (coming demux) (codes "in"))
  input_stands = subst (λ (ports : List PortLine). StandsAt ports 0 (end_ports true (coming demux) (codes "in"))) (sym j.ports)
      (stands_front (end_ports true (coming demux) (codes "in")) (numbered_ports false (going demux) (codes "out") demux.outputs))

  input_agrees : AgreeBefore (packet_view endless from (λ c. endless.net c channel.number) ready) (end_view netlist run (coming demux) (codes "in")) cycles
  input_agrees = shows_at_ports netlist run endless cycles j.well_made named begins true 0 (coming demux) (codes "in") from ready (λ c. endless.net c channel.number) refl input_stands at_input
      (channel_at_port netlist run endless cycles j.well_made named begins true 0 (coming demux) (codes "in") (bits_for demux.outputs) channel input_stands refl
      (input_by netlist 3 (bits_for demux.outputs) channel (j.inputs 3 refl) j.channel_is))

  module _ (k : ℕ) (is_output : k < demux.outputs) where
    abbrev place : ℕ
    place = 6 + extra demux + (5 + extra demux) * k

    abbrev beat : PacketNets
    beat = shown_at from valids k

    drives : StandsAt (demultiplexer_drivers from ready valids (is_some e)) place (going_drivers beat None (is_some e))
    drives = driver_stands demux from ready valids k (let same = j.lengths in omega (arith, is_output, same))

    driven_at : (i n : ℕ) (net : NetValue) → slice_get (going_drivers beat None (is_some e)) i ≡ Some (Some net) → n ≡ place + i → port_net netlist n ≡ net.number
    driven_at i n net is at = net_by netlist n net.number (j.driven n net (stands (demultiplexer_drivers from ready valids (is_some e)) (going_drivers beat None (is_some e)) place i n (Some net) drives is at))

    at_five : (o : Option ℕ) (width : ℕ) → o ≡ Some width → slice_get (going_drivers beat None (is_some o)) 5 ≡ Some (Some beat.empty)
    at_five None width is = cc
    at_five (Some w) width is = refl

    at_output : AreAtPorts netlist endless place (going demux) beat (get_or readies k from.valid)
    at_output = record {
      ready_is = input_by netlist place 1 (get_or readies k from.valid) (j.inputs place (stands (demultiplexer_drivers from ready valids (is_some e)) (going_drivers beat None (is_some e)) place 0 place None drives refl (omega arith)))
          (j.are_readies.each k from.valid is_output);
      valid = driven_at 1 (place + 1) beat.valid refl refl;
      word = driven_at 2 (place + 2) from.word refl refl;
      first = driven_at 3 (place + marks_at (going demux)) from.first refl (omega arith);
      last = driven_at 4 (place + marks_at (going demux) + 1) from.last refl (omega arith);
      empty = at_empty e 6 (place + marks_at (going demux) + 2) j.beat.empty (λ width some. driven_at 5 (place + marks_at (going demux) + 2) from.empty (at_five e width some) (omega arith));
    }

    output_agrees : AgreeBefore (packet_view endless beat (λ c. 0) (get_or readies k from.valid)) (end_view netlist run (going demux) (numbered (codes "out") k)) cycles
    output_agrees = shows_at_ports netlist run endless cycles j.well_made named begins false place (going demux) (numbered (codes "out") k) beat (get_or readies k from.valid) (λ c. 0) refl
        (subst (λ (ports : List PortLine). StandsAt ports place (end_ports false (going demux) (numbered (codes "out") k))) (sym j.ports) (output_stands demux k is_output))
        at_output (λ c lt. refl)

  demultiplexes_here : IsLegalSource (input_side demux) (demultiplexer_at demux netlist run).input cycles → IsDemultiplexed demux (demultiplexer_at demux netlist run) cycles
  demultiplexes_here legal =
      same_demultiplexed legal_law demux (demultiplexer_run endless from channel ready valids readies) (demultiplexer_at demux netlist run) cycles
      (record { input = input_agrees; outputs = output_agrees })
      (j.law netlist self endless is_run demux (sym j.are_readies.lengths) cycles
      (legal_law (input_side demux) _ (packet_view endless from (λ c. endless.net c channel.number) ready) cycles (agree_turned _ _ cycles input_agrees) legal))

-- in every run
pub demultiplexes : (demux : Demultiplexer) (netlist : Netlist) (from : PacketNets) (channel ready : NetValue) (valids readies : List NetValue) → IsJoined demux netlist from channel ready valids readies
    → IsNamed → SameLegal → Extends netlist netlist → ((run : Run) (cycles : ℕ) → IsRun netlist run cycles → GoesOn netlist run cycles) → Demultiplexes demux netlist
demultiplexes demux netlist from channel ready valids readies joined named legal_law self goes_on run cycles is_run legal =
    let on = goes_on run cycles is_run in
    demultiplexes_here demux netlist from channel ready valids readies joined named legal_law self run on.endless cycles on.begins on.is_run legal

-- ---- what may drive its ports

pub record CanDriveAll (demux : Demultiplexer) (netlist : Netlist) (from : PacketNets) (ready : NetValue) (valids : List NetValue) : Type 0 where
  pub ready_is : IsBit netlist ready
  pub valids_are : AreBits netlist valids
  pub count : length valids ≡ demux.outputs
  pub word : IsNetOfWidth netlist from.word (demux.symbols * demux.bits)
  pub first : IsBit netlist from.first
  pub last : IsBit netlist from.last
  pub empty : IfSome (empty_bits demux.symbols) (IsNetOfWidth netlist from.empty)

pub empty_comes : (netlist : Netlist) (end : List ℕ) (o : Option ℕ) → MayDriveEach netlist (port_if end (codes "empty") o false) (none_if (is_some o))
empty_comes netlist end None = tt
empty_comes netlist end (Some width) = (refl, tt)

pub empty_goes : (netlist : Netlist) (end : List ℕ) (o : Option ℕ) (net : NetValue) → IfSome o (IsNetOfWidth netlist net) → MayDriveEach netlist (port_if end (codes "empty") o true) (driver_if (is_some o) net)
empty_goes netlist end None net h = tt
empty_goes netlist end (Some width) net h = ((refl, h), tt)

pub drives_all : (demux : Demultiplexer) (netlist : Netlist) (from : PacketNets) (ready : NetValue) (valids : List NetValue) → CanDriveAll demux netlist from ready valids
    → MayDriveEach netlist (demultiplexer_ports demux) (demultiplexer_drivers from ready valids (is_some (empty_bits demux.symbols)))
drives_all demux netlist from ready valids can =
    let e = empty_bits demux.symbols in
    aligned_append netlist (end_ports true (coming demux) (codes "in")) (numbered_ports false (going demux) (codes "out") demux.outputs) (coming_drivers ready true (is_some e)) _
    ((refl, can.ready_is), (refl, (refl, (refl, (refl, (refl, empty_comes netlist (codes "in") e))))))
    (subst (λ count. MayDriveEach netlist (numbered_ports false (going demux) (codes "out") demux.outputs) (before (λ k. going_drivers (shown_at from valids k) None (is_some e)) count)) (sym can.count)
    (aligned_before netlist (λ number. end_ports false (going demux) (numbered (codes "out") number)) (λ k. going_drivers (shown_at from valids k) None (is_some e)) demux.outputs
    (λ k lt. (
      refl,
      (
        (refl, can.valids_are from.valid k (let same = can.count in omega (arith, lt, same))),
        ((refl, can.word), ((refl, can.first), ((refl, can.last), empty_goes netlist (numbered (codes "out") k) e from.empty can.empty))),
      ),
    ))))

-- ---- what waits

pub waiting_as : (old new : Netlist) (n : ℕ) → new.lines ≡ old.lines → IsWaiting new n → IsWaiting old n
waiting_as old new n e w = record { line = w.line; is = subst (λ (lines : List Line). slice_get lines n ≡ Some w.line) e w.is; waits = w.waits }

pub unwritten_as : (old new : Netlist) (m : ℕ) → new.memories ≡ old.memories → WaitsForWrite new m → WaitsForWrite old m
unwritten_as old new m e w = record { memory = w.memory; is = subst (λ (memories : List Memory). slice_get memories m ≡ Some w.memory) e w.is; waits = w.waits }

-- ---- from the ports

pub input_end : (demux : Demultiplexer) (netlist : Netlist) (has : EndPorts) → netlist.ports ≡ demultiplexer_ports demux → has ≡ coming demux → HasEndAt netlist 0 has
input_end demux netlist has ports is = record {
  end = codes "in";
  stands =
      subst (λ (h : EndPorts). StandsAt netlist.ports 0 (end_ports true h (codes "in"))) (sym is)
      (subst (λ (ps : List PortLine). StandsAt ps 0 (end_ports true (coming demux) (codes "in"))) (sym ports)
      (stands_front (end_ports true (coming demux) (codes "in")) (numbered_ports false (going demux) (codes "out") demux.outputs)));
}

pub have_readies : (demux : Demultiplexer) (netlist : Netlist) (more : ℕ) → netlist.ports ≡ demultiplexer_ports demux → more ≡ extra demux → HaveReadies netlist (6 + more) (5 + more) demux.outputs
have_readies demux netlist more ports is k lt = (
  numbered (codes "out") k,
  going demux,
  subst (λ n. StandsAt netlist.ports (6 + n + (5 + n) * k) (end_ports false (going demux) (numbered (codes "out") k))) (sym is)
      (subst (λ (ps : List PortLine). StandsAt ps (6 + extra demux + (5 + extra demux) * k) (end_ports false (going demux) (numbered (codes "out") k))) (sym ports) (output_stands demux k lt)),
)

pub beat_of : (demux : Demultiplexer) (old new : Netlist) (from : PacketNets) → Extends old new → IsBeatAt old 0 (coming demux) from → IsBeatAt new 0 (coming demux) from
beat_of demux old new from e at = record {
  valid = input_lasts old new 1 1 from.valid e at.valid;
  word = input_lasts old new 2 (demux.symbols * demux.bits) from.word e at.word;
  first = input_lasts old new 4 1 from.first e at.first;
  last = input_lasts old new 5 1 from.last e at.last;
  empty = empty_lasts (empty_bits demux.symbols) at.empty;
}
  where
    empty_lasts : (o : Option ℕ) → IsInputIf old 6 o from.empty → IsInputIf new 6 o from.empty
    empty_lasts None low = λ cycle v. low cycle (e.valuations cycle v)
    empty_lasts (Some width) at = input_lasts old new 6 width from.empty e at

pub empty_of : (demux : Demultiplexer) (netlist : Netlist) (from : PacketNets) → IsBeatAt netlist 0 (coming demux) from → IfSome (empty_bits demux.symbols) (IsNetOfWidth netlist from.empty)
empty_of demux netlist from at = by_port (empty_bits demux.symbols) at.empty
  where
    by_port : (o : Option ℕ) → IsInputIf netlist 6 o from.empty → IfSome o (IsNetOfWidth netlist from.empty)
    by_port None low = tt
    by_port (Some width) here = here.is

pub readies_last : (old new : Netlist) (place stride count : ℕ) (nets : List NetValue) → Extends old new → AreReadies old place stride count nets → AreReadies new place stride count nets
readies_last old new place stride count nets e h = record { lengths = h.lengths; each = λ k other lt. input_lasts old new (place + stride * k) 1 (get_or nets k other) e (h.each k other lt) }

-- ---- all of it

-- what was made of an empty module, step by step
pub record IsMadeOf (demux : Demultiplexer) (old first made new : Netlist) (from : PacketNets) (channel ready : NetValue) (valids readies : List NetValue) : Type 0 where
  pub name : old.name ≡ codes "demux_interconnect"
  pub ports : old.ports ≡ demultiplexer_ports demux
  pub few_inputs : length old.lines ≤ length (demultiplexer_ports demux)
  pub clocked : IsClocked old
  pub written : IsWritten old
  pub one : AddsNets 1 old first
  pub more : AddsNets (5 * length readies - 2) first made
  pub beat : IsBeatAt first 0 (coming demux) from
  pub channel_is : IsChannelAt first 0 (bits_for demux.outputs) channel
  pub are_readies : AreReadies first (6 + extra demux) (5 + extra demux) demux.outputs readies
  pub ready_is : IsBit made ready
  pub valids_are : AreBits made valids
  pub count : length valids ≡ length readies
  pub law : DemultiplexesInLonger made from channel ready valids readies

module _ (demux : Demultiplexer) (old first made new : Netlist) (from : PacketNets) (channel ready : NetValue) (valids readies : List NetValue) (m : IsMadeOf demux old first made new from channel ready valids readies) where
  made_ports : made.ports ≡ demultiplexer_ports demux
  made_ports = m.more.grows.extends.keeps.ports ∙ m.one.grows.extends.keeps.ports ∙ m.ports

  pub can_all : CanDriveAll demux made from ready valids
  can_all =
      let later = beat_of demux first made from m.more.grows.extends m.beat in
      record {
        ready_is = m.ready_is;
        valids_are = m.valids_are;
        count = m.count ∙ m.are_readies.lengths;
        word = later.word.is;
        first = later.first.is;
        last = later.last.is;
        empty = empty_of demux made from later;
      }

  pub each_drives : MayDriveEach made made.ports (demultiplexer_drivers from ready valids (is_some (empty_bits demux.symbols)))
  each_drives = subst (λ (ports : List PortLine). MayDriveEach made ports (demultiplexer_drivers from ready valids (is_some (empty_bits demux.symbols)))) (sym made_ports) (drives_all demux made from ready valids can_all)

  pub is_filled : AreSizes demux.outputs demux.symbols demux.bits → HasSameNets made new → Extends made new → AreDriven new (demultiplexer_drivers from ready valids (is_some (empty_bits demux.symbols)))
      → ((k : ℕ) → slice_get (demultiplexer_drivers from ready valids (is_some (empty_bits demux.symbols))) k ≡ Some None → driver_of new k ≡ None) → IsDriven new → IsWellMade new
      → IsNamed → SameLegal → ((run : Run) (cycles : ℕ) → IsRun new run cycles → GoesOn new run cycles) → IsFilled demux new
  is_filled sizes same e driven inputs whole well named legal_law goes_on =
      let few = few_demux_ports demux sizes in
      let begun = m.few_inputs in
      let one = m.one.most in
      let more = m.more.most in
      let outputs = m.are_readies.lengths in
      let most = sizes.few_ends in
      let size = ap (λ (lines : List Line). length lines) same.lines in
      let on = extends_twice first made new m.more.grows.extends e in
      record {
        is = record {
          name = same.name ∙ m.more.grows.extends.keeps.name ∙ m.one.grows.extends.keeps.name ∙ m.name;
          ports = same.ports ∙ made_ports;
          few = omega (arith, few, begun, one, more, outputs, most, size);
          demultiplexes = demultiplexes demux new from channel ready valids readies
              (record {
                well_made = well;
                ports = same.ports ∙ made_ports;
                beat = beat_of demux first new from on m.beat;
                channel_is = input_lasts first new 3 (bits_for demux.outputs) channel on m.channel_is;
                are_readies = readies_last first new (6 + extra demux) (5 + extra demux) demux.outputs readies on m.are_readies;
                lengths = m.count ∙ m.are_readies.lengths;
                driven = driven;
                inputs = inputs;
                law = λ longer longer_extends. m.law longer (extends_twice made new longer e longer_extends);
              }) named legal_law (extends_none new) goes_on;
        };
        driven = whole;
        clocked = λ n waits. m.clocked n (m.one.grows.no_more_wait n (m.more.grows.no_more_wait n (waiting_as made new n same.lines waits)));
        written = λ k waits. m.written k (unwritten_as old made k (m.more.grows.memories ∙ m.one.grows.memories) (unwritten_as made new k same.memories waits));
      }

-- ---- without what no output depends on

-- what an end shows by the signals on its ports
abbrev pub end_by : (List ℕ → Option (ℕ → ℕ)) → EndPorts → List ℕ → EndView
end_by shows has end =
    view_of (record {
      ready = shows (port_name end (codes "ready"));
      valid = shows (port_name end (codes "valid"));
      word = shows (port_name end (codes "data"));
      channel = if is_some has.channel then shows (port_name end (codes "channel")) else None;
      error = None;
      startofpacket = if has.packets then shows (port_name end (codes "startofpacket")) else None;
      endofpacket = if has.packets then shows (port_name end (codes "endofpacket")) else None;
      empty = if is_some has.empty then shows (port_name end (codes "empty")) else None;
    })

pub demux_pruned : (demux : Demultiplexer) (whole pruned : Netlist) → IsPruned whole pruned → IsDemultiplexerModule demux whole → IsDemultiplexerModule demux pruned
demux_pruned demux whole pruned p h = record {
  name = p.name ∙ h.name;
  ports = p.ports ∙ h.ports;
  few = (let fewer = p.few in let few = h.few in omega (arith, fewer, few));
  demultiplexes = λ run cycles is legal. (
      let w = p.runs run cycles is in
      let same : signal whole w.whole_run ≡ signal pruned run = fun_ext w.signals in
      subst (λ (shows : List ℕ → Option (ℕ → ℕ)). IsDemultiplexed demux (record { input = end_by shows (coming demux) (codes "in"); outputs = λ k. end_by shows (going demux) (numbered (codes "out") k) }) cycles) same
      (h.demultiplexes w.whole_run cycles w.is_run (subst (λ (shows : List ℕ → Option (ℕ → ℕ)). IsLegalSource (input_side demux) (end_by shows (coming demux) (codes "in")) cycles) (sym same) legal)));
}
