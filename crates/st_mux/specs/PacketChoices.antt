-- A choice between the nets of beats.
use Rattle.std.specs.Prelude.{ℕ, ◌+◌, ◌<◌, ◌≡◌, Bool, true, false, if◌then◌else◌, List, length, take, drop}
use Rattle.std.proofs.Common.{refl, sym, ◌∙◌, arith, subst, get_or, length-take, length-drop}
use Rattle.std.proofs.lemmas.List.{get_or-take, get_or-drop}
use Rattle.netlist.specs.Netlists.{Netlist}
use Rattle.netlist.specs.Runs.{Cycle}
use Rattle.netlist.specs.Longer.{Extends}
use Rattle.net_parts.specs.Laws.{net_lasts}
use Rattle.st_mux.specs.declared.packet.PacketNets.{PacketNets}
use Rattle.st_mux.specs.Packets.{ArePacketNets}

-- what the nets show in a cycle
pub record Shown : Type 0 where
  pub valid : ℕ
  pub word : ℕ
  pub first : ℕ
  pub last : ℕ
  pub empty : ℕ

abbrev pub shown_in : Cycle → PacketNets → Shown
shown_in cycle packet = record {
  valid = cycle.net packet.valid.number;
  word = cycle.net packet.word.number;
  first = cycle.net packet.first.number;
  last = cycle.net packet.last.number;
  empty = cycle.net packet.empty.number;
}

-- words and empties of one width
pub record HaveSameWidths (one other : PacketNets) : Type 0 where
  pub word : one.word.width ≡ other.word.width
  pub empty : one.empty.width ≡ other.empty.width

-- beats of this netlist, all of the same widths
pub record AreAlike (netlist : Netlist) (packets : List PacketNets) : Type 0 where
  pub nets : (other : PacketNets) (k : ℕ) → k < length packets → ArePacketNets netlist (get_or packets k other)
  pub widths : (other : PacketNets) (j k : ℕ) → j < length packets → k < length packets
      → HaveSameWidths (get_or packets j other) (get_or packets k other)

-- the beat has the widths of these
abbrev pub IsLike : PacketNets → List PacketNets → Type 0
IsLike packet packets = (other : PacketNets) (k : ℕ) → k < length packets → HaveSameWidths packet (get_or packets k other)

-- ---- laws. No contract reads a proof of these

pub packet_chosen : (t : Bool) (made one other : Shown) → made.valid ≡ (if t then other.valid else one.valid)
    → made.word ≡ (if t then other.word else one.word)
    → made.first ≡ (if t then other.first else one.first) → made.last ≡ (if t then other.last else one.last)
    → made.empty ≡ (if t then other.empty else one.empty)
    → made ≡ (if t then other else one)
packet_chosen true made one other a b d e f = rw (a, b, d, e, f) refl
packet_chosen false made one other a b d e f = rw (a, b, d, e, f) refl

pub packet_lasts : (a b : Netlist) (packet : PacketNets) → Extends a b → ArePacketNets a packet → ArePacketNets b packet
packet_lasts a b packet e h = record {
  valid = net_lasts a b packet.valid 1 e h.valid;
  word = e.nets packet.word.number packet.word.width h.word;
  first = net_lasts a b packet.first 1 e h.first;
  last = net_lasts a b packet.last 1 e h.last;
  empty = e.nets packet.empty.number packet.empty.width h.empty;
}

pub alike_last : (a b : Netlist) (packets : List PacketNets) → Extends a b → AreAlike a packets → AreAlike b packets
alike_last a b packets e h =
    record { nets = λ other k below. packet_lasts a b (get_or packets k other) e (h.nets other k below); widths = h.widths }

pub alike_before : (netlist : Netlist) (packets : List PacketNets) (n : ℕ) → AreAlike netlist packets
    → AreAlike netlist (take n packets)
alike_before netlist packets n h =
    let most = length-take n packets in
    record {
      nets =
          λ other k below. subst (ArePacketNets netlist) (sym (get_or-take n packets k other (omega (arith, below, most))))
          (h.nets other k (omega (arith, below, most)));
      widths = λ other j k less below.
          subst (λ (packet : PacketNets). HaveSameWidths packet (get_or (take n packets) k other))
          (sym (get_or-take n packets j other (omega (arith, less, most))))
          (subst (HaveSameWidths (get_or packets j other)) (sym (get_or-take n packets k other (omega (arith, below, most))))
          (h.widths other j k (omega (arith, less, most)) (omega (arith, below, most))));
    }

pub alike_behind : (netlist : Netlist) (packets : List PacketNets) (n : ℕ) → AreAlike netlist packets
    → AreAlike netlist (drop n packets)
alike_behind netlist packets n h =
    let rest = length-drop n packets in
    record {
      nets =
          λ other k below. subst (ArePacketNets netlist) (sym (get_or-drop n packets k other))
          (h.nets other (n + k) (omega (arith, below, rest)));
      widths = λ other j k less below.
          subst (λ (packet : PacketNets). HaveSameWidths packet (get_or (drop n packets) k other))
          (sym (get_or-drop n packets j other))
          (subst (HaveSameWidths (get_or packets (n + j) other)) (sym (get_or-drop n packets k other))
          (h.widths other (n + j) (n + k) (omega (arith, less, rest)) (omega (arith, below, rest))));
    }

widths_twice : (one middle other : PacketNets) → HaveSameWidths one middle → HaveSameWidths middle other
    → HaveSameWidths one other
widths_twice one middle other p q = record { word = p.word ∙ q.word; empty = p.empty ∙ q.empty }

widths_turned : (one other : PacketNets) → HaveSameWidths one other → HaveSameWidths other one
widths_turned one other p = record { word = sym p.word; empty = sym p.empty }

-- what is like those behind a place is like all
pub like_front : (netlist : Netlist) (packets : List PacketNets) (n : ℕ) (packet : PacketNets) → AreAlike netlist packets
    → n < length packets → IsLike packet (drop n packets) → IsLike packet packets
like_front netlist packets n packet alike inside like other k below =
    let rest = length-drop n packets in
    let same : n + 0 ≡ n = omega arith in
    widths_twice packet (get_or packets n other) (get_or packets k other)
    (subst (λ j. HaveSameWidths packet (get_or packets j other)) same
    (subst (HaveSameWidths packet) (get_or-drop n packets 0 other) (like other 0 (omega (arith, rest, inside)))))
    (alike.widths other n k inside below)

-- what is like the ones in front is like what is like the ones behind
pub like_both : (netlist : Netlist) (packets : List PacketNets) (n : ℕ) (low high : PacketNets) → AreAlike netlist packets → 0 < n
    → n < length packets
    → IsLike low (take n packets) → IsLike high (drop n packets) → HaveSameWidths high low
like_both netlist packets n low high alike some inside in_front behind =
    let most = length-take n packets in
    widths_twice high (get_or packets 0 low) low
    (like_front netlist packets n high alike inside behind low 0 (omega (arith, inside)))
    (widths_turned low (get_or packets 0 low)
    (subst (HaveSameWidths low) (get_or-take n packets 0 low some) (in_front low 0 (omega (arith, some, most, inside)))))

pub like_through : (made packet : PacketNets) (packets : List PacketNets) → HaveSameWidths made packet → IsLike packet packets
    → IsLike made packets
like_through made packet packets same like other k below =
    widths_twice made packet (get_or packets k other) same (like other k below)
