-- The beats at several ends in a row.
use Rattle.std.proofs.Common.{◌≡◌, ◌⊎◌, inl, inr, ℕ, ◌+◌, ◌*◌, ◌<◌, ◌≤◌, List, [], ◌∷◌, ◌++◌, length, length-append, get_or, Option, Some, None, true, sym, ap, subst, ◌∙◌, arith}
use Rattle.std.proofs.lemmas.List.{get_or_append_left}
use Rattle.std.proofs.Math.Seq.{get_or-append_seam}
use Rattle.std.proofs.lemmas.Bool.{cases_lt}
use Rattle.netlist.specs.declared.line.PortLine.{PortLine}
use Rattle.netlist.specs.Nets.{NetValue}
use Rattle.netlist.specs.Netlists.{Netlist}
use Rattle.netlist.specs.Longer.{Extends}
use Rattle.net_parts.specs.Growth.{AddsNets}
use Rattle.net_parts.specs.Laws.{adds_none, adds_twice}
use Rattle.st_mux.specs.declared.packet.PacketNets.{PacketNets}
use Rattle.st_mux.specs.PacketChoices.{AreAlike, packet_lasts}
use Rattle.routed_modules.specs.declared.header.EndPorts.{EndPorts}
use Rattle.routed_modules.specs.Ports.{end_ports}
use Rattle.routed_modules.specs.Drivers.{StandsAt}
use Rattle.routed_modules.specs.Ends.{IsInputIf, IsEndBeat, HaveEnds, AreBeats, marks_at}
use Rattle.routed_modules.proofs.InputPorts.{input_lasts}

-- ---- in a longer netlist

pub input_if_lasts : (old new : Netlist) (port : ℕ) (o : Option ℕ) (net : NetValue) → Extends old new → IsInputIf old port o net → IsInputIf new port o net
input_if_lasts old new port None net e low = λ cycle v. low cycle (e.valuations cycle v)
input_if_lasts old new port (Some width) net e at = input_lasts old new port width net e at

pub end_beat_lasts : (old new : Netlist) (place : ℕ) (has : EndPorts) (beat : PacketNets) → Extends old new → IsEndBeat old place has beat → IsEndBeat new place has beat
end_beat_lasts old new place has beat e h = record {
  nets = packet_lasts old new beat e h.nets;
  at = record {
    valid = input_lasts old new (place + 1) 1 beat.valid e h.at.valid;
    word = input_lasts old new (place + 2) has.word beat.word e h.at.word;
    first = input_lasts old new (place + marks_at has) 1 beat.first e h.at.first;
    last = input_lasts old new (place + marks_at has + 1) 1 beat.last e h.at.last;
    empty = input_if_lasts old new (place + marks_at has + 2) has.empty beat.empty e h.at.empty;
  };
  wide = h.wide;
}

pub beats_last : (old new : Netlist) (stride : ℕ) (has : EndPorts) (count : ℕ) (beats : List PacketNets) → Extends old new → AreBeats old stride has count beats → AreBeats new stride has count beats
beats_last old new stride has count beats e h =
    record { lengths = h.lengths; each = λ k other lt. end_beat_lasts old new (stride * k) has (get_or beats k other) e (h.each k other lt) }

pub ends_last : (old new : Netlist) (stride : ℕ) (has : EndPorts) (count : ℕ) → Extends old new → HaveEnds old stride has count → HaveEnds new stride has count
ends_last old new stride has count e h k lt =
    let at = h k lt in
    record { end = at.end; stands = subst (λ (ports : List PortLine). StandsAt ports (stride * k) (end_ports true has at.end)) (sym e.keeps.ports) at.stands }

-- ---- one after the other

pub record MakesBeats (old new : Netlist) (stride : ℕ) (has : EndPorts) (count : ℕ) (beats : List PacketNets) : Type 0 where
  pub are : AreBeats new stride has count beats
  pub adds : AddsNets count old new

pub no_beats : (netlist : Netlist) (stride : ℕ) (has : EndPorts) (beats : List PacketNets) → beats ≡ [] → MakesBeats netlist netlist stride has 0 beats
no_beats netlist stride has beats none =
    record { are = record { lengths = ap length none; each = λ k other lt. absurd (omega (arith, lt)) }; adds = adds_none netlist }

pub one_more_beat : (old now new : Netlist) (stride : ℕ) (has : EndPorts) (count : ℕ) (beats : List PacketNets) (beat : PacketNets) → MakesBeats old now stride has count beats → AddsNets 1 now new
    → IsEndBeat new (stride * count) has beat → MakesBeats old new stride has (count + 1) (beats ++ beat ∷ [])
one_more_beat old now new stride has count beats beat was adds here = record {
  are = record {
    lengths = length-append beats (beat ∷ []) ∙ ap (λ n. n + 1) was.are.lengths;
    each = λ k other lt. by_place k other lt (cases_lt k (length beats));
  };
  adds = adds_twice _ _ _ _ _ was.adds adds;
}
  where
    by_place : (k : ℕ) (other : PacketNets) → k < count + 1 → (k < length beats) ⊎ (length beats ≤ k) → IsEndBeat new (stride * k) has (get_or (beats ++ beat ∷ []) k other)
    by_place k other lt (inl less) =
        let same = was.are.lengths in
        subst (IsEndBeat new (stride * k) has) (sym (get_or_append_left beats (beat ∷ []) other k less))
        (end_beat_lasts now new (stride * k) has (get_or beats k other) adds.grows.extends (was.are.each k other (omega (arith, less, same))))
    by_place k other lt (inr more) =
        let same = was.are.lengths in
        let last : length beats ≡ k = omega (arith, lt, more, same) in
        let is : count ≡ k = omega (arith, same, last) in
        subst (λ n. IsEndBeat new (stride * k) has (get_or (beats ++ beat ∷ []) n other)) last
        (subst (IsEndBeat new (stride * k) has) (sym (get_or-append_seam beats beat [] other)) (subst (λ n. IsEndBeat new (stride * n) has beat) is here))

-- they are all of the same widths
pub beats_alike : (netlist : Netlist) (stride : ℕ) (has : EndPorts) (count : ℕ) (beats : List PacketNets) → AreBeats netlist stride has count beats → AreAlike netlist beats
beats_alike netlist stride has count beats h =
    let same = h.lengths in
    record {
      nets = λ other k below. (h.each k other (omega (arith, below, same))).nets;
      widths = λ other j k less below.
          (let one = h.each j other (omega (arith, less, same)) in
          let two = h.each k other (omega (arith, below, same)) in
          record { word = one.at.word.is.has_width ∙ sym two.at.word.is.has_width; empty = one.wide ∙ sym two.wide });
    }
