-- The input ports at an end, and their nets.
use Rattle.std.proofs.Common.{◌≡◌, ◌⊎◌, inl, inr, ℕ, ◌+◌, ◌*◌, ◌<◌, ◌≤◌, true, false, List, [], ◌∷◌, ◌++◌, length, length-append, get_or, codes, slice_get, Some, refl, sym, ap, subst, ◌∙◌, arith}
use Rattle.std.proofs.lemmas.List.{get_or_append_left}
use Rattle.std.proofs.Math.Seq.{get_or-append_seam}
use Rattle.std.proofs.lemmas.Bool.{cases_lt}
use Rattle.netlist.specs.declared.line.PortLine.{PortLine}
use Rattle.netlist.specs.Nets.{NetValue}
use Rattle.netlist.specs.Netlists.{Netlist, IsNet, IsInputPort, input_net}
use Rattle.netlist.specs.Longer.{Extends}
use Rattle.net_parts.specs.Laws.{net_lasts}
use Rattle.routed_modules.specs.declared.header.EndPorts.{EndPorts}
use Rattle.routed_modules.specs.Ports.{port_line, end_ports}
use Rattle.routed_modules.specs.Ends.{IsInputAt, HasEndAt, HaveReadies, AreReadies, marks_at}
use Rattle.routed_modules.proofs.Places.{stands}
use Rattle.routed_modules.proofs.EndItems.{first_item, last_item, empty_item, channel_item}

module _ (netlist : Netlist) (place : ℕ) (has : EndPorts) (h : HasEndAt netlist place has) where
  input_port : (j n width : ℕ) (role : List ℕ) → slice_get (end_ports true has h.end) j ≡ Some (port_line h.end role width false) → n ≡ place + j → IsInputPort netlist.ports n width
  input_port j n width role is e =
      record { port = port_line h.end role width false; is = stands netlist.ports (end_ports true has h.end) place j n (port_line h.end role width false) h.stands is e; input = refl; width = refl }

  pub valid_port : (n : ℕ) → n ≡ place + 1 → IsInputPort netlist.ports n 1
  valid_port n e = input_port 1 n 1 (codes "valid") refl e

  pub word_port : (n : ℕ) → n ≡ place + 2 → IsInputPort netlist.ports n has.word
  word_port n e = input_port 2 n has.word (codes "data") refl e

  pub channel_port : (n width : ℕ) → has.channel ≡ Some width → n ≡ place + 3 → IsInputPort netlist.ports n width
  channel_port n width some e = input_port 3 n width (codes "channel") (channel_item true has h.end width some) e

  pub first_port : (n : ℕ) → has.packets ≡ true → n ≡ place + marks_at has → IsInputPort netlist.ports n 1
  first_port n packets e = input_port (marks_at has) n 1 (codes "startofpacket") (first_item true has h.end packets) e

  pub last_port : (n : ℕ) → has.packets ≡ true → n ≡ place + marks_at has + 1 → IsInputPort netlist.ports n 1
  last_port n packets e = input_port (marks_at has + 1) n 1 (codes "endofpacket") (last_item true has h.end packets) (omega (arith, e))

  pub empty_port : (n width : ℕ) → has.packets ≡ true → has.empty ≡ Some width → n ≡ place + marks_at has + 2 → IsInputPort netlist.ports n width
  empty_port n width packets some e = input_port (marks_at has + 2) n width (codes "empty") (empty_item true has h.end packets width some) (omega (arith, e))

pub ready_port : (netlist : Netlist) (place stride count k n : ℕ) → HaveReadies netlist place stride count → k < count → n ≡ place + stride * k → IsInputPort netlist.ports n 1
ready_port netlist place stride count k n h lt e =
    let at = h k lt in
    record {
      port = port_line at.0 (codes "ready") 1 false;
      is = stands netlist.ports (end_ports false at.1 at.0) (place + stride * k) 0 n (port_line at.0 (codes "ready") 1 false) at.2 refl (omega (arith, e));
      input = refl;
      width = refl;
    }

-- the net of a port, as the builder gives it
pub is_input_at : (netlist : Netlist) (port width : ℕ) (net : NetValue) → IsInputPort netlist.ports port width → IsNet netlist net → net.number ≡ input_net netlist.ports port
    → ((w : ℕ) → IsInputPort netlist.ports port w → net.width ≡ w) → (n : ℕ) → port ≡ n → IsInputAt netlist n width net
is_input_at netlist port width net is is_net number widths n e =
    record { number = number ∙ ap (input_net netlist.ports) e; is = record { is_net = is_net; has_width = widths width is } }

-- it stays so in a longer netlist
pub input_lasts : (old new : Netlist) (port width : ℕ) (net : NetValue) → Extends old new → IsInputAt old port width net → IsInputAt new port width net
input_lasts old new port width net e at =
    record { number = at.number ∙ ap (λ (ports : List PortLine). input_net ports port) (sym e.keeps.ports); is = net_lasts old new net width e at.is }

-- ---- readies, one after the other

pub no_readies : (netlist : Netlist) (place stride : ℕ) (nets : List NetValue) → nets ≡ [] → AreReadies netlist place stride 0 nets
no_readies netlist place stride nets none = record { lengths = ap length none; each = λ k other lt. absurd (omega (arith, lt)) }

pub one_more_ready : (netlist : Netlist) (place stride count : ℕ) (nets : List NetValue) (net : NetValue) → AreReadies netlist place stride count nets → IsInputAt netlist (place + stride * count) 1 net
    → AreReadies netlist place stride (count + 1) (nets ++ net ∷ [])
one_more_ready netlist place stride count nets net was here = record {
  lengths = length-append nets (net ∷ []) ∙ ap (λ n. n + 1) was.lengths;
  each = λ k other lt. by_place k other lt (cases_lt k (length nets));
}
  where
    by_place : (k : ℕ) (other : NetValue) → k < count + 1 → (k < length nets) ⊎ (length nets ≤ k) → IsInputAt netlist (place + stride * k) 1 (get_or (nets ++ net ∷ []) k other)
    by_place k other lt (inl less) =
        let same = was.lengths in
        subst (IsInputAt netlist (place + stride * k) 1) (sym (get_or_append_left nets (net ∷ []) other k less)) (was.each k other (omega (arith, less, same)))
    by_place k other lt (inr more) =
        let same = was.lengths in
        let last : length nets ≡ k = omega (arith, lt, more, same) in
        let is : count ≡ k = omega (arith, same, last) in
        subst (λ n. IsInputAt netlist (place + stride * k) 1 (get_or (nets ++ net ∷ []) n other)) last
        (subst (IsInputAt netlist (place + stride * k) 1) (sym (get_or-append_seam nets net [] other)) (subst (λ n. IsInputAt netlist (place + stride * n) 1 net) is here))
