-- What the ends show on their ports is what stands on the nets, in the cycles of a run.
use Rattle.std.proofs.Common.{◌≡◌, ℕ, ◌+◌, ◌<◌, Bool, true, not, List, codes, slice_get, Option, Some, None, refl, sym, ap, ◌∙◌, arith}
use Rattle.std.specs.Option.{is_some}
use Rattle.netlist.specs.declared.line.PortLine.{PortLine}
use Rattle.netlist.specs.Nets.{NetValue}
use Rattle.netlist.specs.Netlists.{Netlist, IsWellMade}
use Rattle.netlist.specs.Runs.{Run, Cycle, cycle_of}
use Rattle.netlist.specs.Signals.{port_net, port_value, signal}
use Rattle.stream_runs.specs.View.{Beat, AgreeBefore}
use Rattle.stream_runs.specs.Ends.{signal_or}
use Rattle.st_mux.specs.declared.packet.PacketNets.{PacketNets}
use Rattle.st_mux.specs.Packets.{packet_view}
use Rattle.routed_modules.specs.declared.header.EndPorts.{EndPorts}
use Rattle.routed_modules.specs.Ports.{port_line, end_ports, signal_if, end_view}
use Rattle.routed_modules.specs.Drivers.{StandsAt}
use Rattle.routed_modules.specs.Ends.{marks_at}
use Rattle.routed_modules.proofs.Places.{stands}
use Rattle.routed_modules.proofs.EndItems.{first_item, last_item, empty_item, channel_item}

-- what the lower crate says of signals by their names
abbrev pub IsNamed : Type 0
IsNamed = (netlist : Netlist) → IsWellMade netlist → (k : ℕ) (port : PortLine) → slice_get netlist.ports k ≡ Some port → (run : Run) → signal netlist run port.name ≡ Some (λ c. port_value netlist run c k)

pub beat_by_parts : (w w' ch ch' f f' l l' m m' : ℕ) → w ≡ w' → ch ≡ ch' → f ≡ f' → l ≡ l' → m ≡ m'
    → ◌≡◌ {A = Beat} (record { word = w; channel = ch; error = 0; first = f; last = l; empty = m }) (record { word = w'; channel = ch'; error = 0; first = f'; last = l'; empty = m' })
beat_by_parts w w' ch ch' f f' l l' m m' p0 p1 p2 p3 p4 = rw (p0, p1, p2, p3, p4) refl

-- `empty` stands on a net, which is 0 where there is no port for it
abbrev pub EmptyAt : Netlist → Run → ℕ → Option ℕ → ℕ → Type 0
EmptyAt netlist endless port (Some width) net = port_net netlist port ≡ net
EmptyAt netlist endless port None net = (c : ℕ) → endless.net c net ≡ 0

-- the nets at the ports of an end with packets
pub record AreAtPorts (netlist : Netlist) (endless : Run) (place : ℕ) (has : EndPorts) (beat : PacketNets) (ready : NetValue) : Type 0 where
  pub ready_is : port_net netlist place ≡ ready.number
  pub valid : port_net netlist (place + 1) ≡ beat.valid.number
  pub word : port_net netlist (place + 2) ≡ beat.word.number
  pub first : port_net netlist (place + marks_at has) ≡ beat.first.number
  pub last : port_net netlist (place + marks_at has + 1) ≡ beat.last.number
  pub empty : EmptyAt netlist endless (place + marks_at has + 2) has.empty beat.empty.number

module _ (netlist : Netlist) (run endless : Run) (cycles : ℕ) (well : IsWellMade netlist) (named : IsNamed) (begins : (c : ℕ) → c < cycles → cycle_of endless c ≡ cycle_of run c) where
  same_net : (c : ℕ) → c < cycles → (n : ℕ) → endless.net c n ≡ run.net c n
  same_net c lt n = ap (λ (cycle : Cycle). cycle.net n) (begins c lt)

  pub at_port : (k n level c : ℕ) (port : PortLine) → c < cycles → slice_get netlist.ports k ≡ Some port → port_net netlist k ≡ n → endless.net c n ≡ signal_or level (signal netlist run port.name) c
  at_port k n level c port lt is at =
      same_net c lt n ∙ ap (λ m. run.net c m) (sym at) ∙ sym (ap (λ (o : Option (ℕ → ℕ)). signal_or level o c) (named netlist well k port is run))

  -- the channel at an end that has one
  pub channel_at_port : (comes : Bool) (place : ℕ) (has : EndPorts) (end : List ℕ) (width : ℕ) (net : NetValue) → StandsAt netlist.ports place (end_ports comes has end) → has.channel ≡ Some width
      → port_net netlist (place + 3) ≡ net.number → (c : ℕ) → c < cycles → endless.net c net.number ≡ signal_or 0 (signal_if (is_some has.channel) netlist run end (codes "channel")) c
  channel_at_port comes place has end width net stand is here c lt =
      at_port (place + 3) net.number 0 c (port_line end (codes "channel") width (not comes)) lt
      (stands netlist.ports (end_ports comes has end) place 3 (place + 3) _ stand (channel_item comes has end width is) refl) here
      ∙ ap (λ o. signal_or 0 (signal_if (is_some o) netlist run end (codes "channel")) c) (sym is)

  module _ (comes : Bool) (place : ℕ) (has : EndPorts) (end : List ℕ) (beat : PacketNets) (ready : NetValue) (channel : ℕ → ℕ)
      (packets : has.packets ≡ true) (stand : StandsAt netlist.ports place (end_ports comes has end)) (at : AreAtPorts netlist endless place has beat ready)
      (channels : (c : ℕ) → c < cycles → channel c ≡ signal_or 0 (signal_if (is_some has.channel) netlist run end (codes "channel")) c) where
    item : (j n : ℕ) (port : PortLine) → slice_get (end_ports comes has end) j ≡ Some port → n ≡ place + j → slice_get netlist.ports n ≡ Some port
    item j n port is e = stands netlist.ports (end_ports comes has end) place j n port stand is e

    empty_level : (c : ℕ) → c < cycles → endless.net c beat.empty.number ≡ signal_or 0 (signal_if (is_some has.empty) netlist run end (codes "empty")) c
    empty_level c lt = by_port has.empty refl at.empty
      where
        by_port : (o : Option ℕ) → has.empty ≡ o → EmptyAt netlist endless (place + marks_at has + 2) o beat.empty.number
            → endless.net c beat.empty.number ≡ signal_or 0 (signal_if (is_some o) netlist run end (codes "empty")) c
        by_port (Some width) is here =
            at_port (place + marks_at has + 2) beat.empty.number 0 c (port_line end (codes "empty") width (not comes)) lt
            (item (marks_at has + 2) (place + marks_at has + 2) _ (empty_item comes has end packets width is) (omega arith)) here
        by_port None is here = here c

    pub shows_at_ports : AgreeBefore (packet_view endless beat channel ready) (end_view netlist run has end) cycles
    shows_at_ports = record {
      valid = λ c lt. at_port (place + 1) beat.valid.number 0 c (port_line end (codes "valid") 1 (not comes)) lt (item 1 (place + 1) _ refl refl) at.valid;
      ready = λ c lt. at_port place ready.number 1 c (port_line end (codes "ready") 1 comes) lt (item 0 place _ refl (omega arith)) at.ready_is;
      beat = λ c lt. beat_by_parts _ _ _ _ _ _ _ _ _ _
          (at_port (place + 2) beat.word.number 0 c (port_line end (codes "data") has.word (not comes)) lt (item 2 (place + 2) _ refl refl) at.word)
          (channels c lt)
          (at_port (place + marks_at has) beat.first.number 0 c (port_line end (codes "startofpacket") 1 (not comes)) lt (item (marks_at has) (place + marks_at has) _ (first_item comes has end packets) refl) at.first
          ∙ ap (λ b. signal_or 0 (signal_if b netlist run end (codes "startofpacket")) c) (sym packets))
          (at_port (place + marks_at has + 1) beat.last.number 0 c (port_line end (codes "endofpacket") 1 (not comes)) lt (item (marks_at has + 1) (place + marks_at has + 1) _ (last_item comes has end packets) (omega arith)) at.last
          ∙ ap (λ b. signal_or 0 (signal_if b netlist run end (codes "endofpacket")) c) (sym packets))
          (empty_level c lt);
    }
