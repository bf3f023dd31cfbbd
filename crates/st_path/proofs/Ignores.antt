-- The beat to a sink doesn't depend on the ready of the same cycle.
use Rattle.std.proofs.Common.{◌≡◌, ℕ, ◌%◌, ◌^◌, ◌≤◌, ◌<◌, Bool, true, false, Option, Some, None, refl, ap, sym, ◌∙◌, subst, arith, nat_lt}
use Rattle.std.specs.Prelude.{IfSome, unwrap_or}
use Rattle.std.proofs.lemmas.Bool.{ltb-true, ltb-false}
use Rattle.netlist.specs.Nets.{NetValue}
use Rattle.netlist.specs.Netlists.{Netlist}
use Rattle.netlist.specs.Runs.{Cycle, IsValuation, Always}
use Rattle.netlist.specs.Longer.{Extends}
use Rattle.stream_runs.specs.View.{Beat}
use Rattle.stage_core.specs.declared.beat.BeatNets.{BeatNets}
use Rattle.stage_core.specs.Beats.{ShowSame}
use Rattle.stage_core.specs.Law.{IgnoresInLonger}
use Rattle.net_parts.specs.Laws.{extends_twice}
use Rattle.st_path.specs.declared.ends.SourceNets.{SourceNets}
use Rattle.st_path.specs.Between.{beat_of}
use Rattle.st_path.specs.Serving.{IsSameNet, SendsSame, IgnoresReady}
use Rattle.st_path.proofs.Runs.{beat_by_parts}

-- the beat with an empty of so many bits, where there are any
module _ (bits : ℕ) (from : SourceNets) (netlist old : Netlist) (low fitted : NetValue) (beat : BeatNets) (is_low : Always netlist (λ cycle. cycle.net low.number ≡ 0))
    (is_fitted : 0 < bits → Always netlist (λ cycle. cycle.net fitted.number ≡ cycle.net beat.empty.number % 2 ^ bits)) (unfitted : bits ≡ 0 → fitted ≡ beat.empty) where
  module _ (one other : Cycle) (v : IsValuation netlist one) (w : IsValuation netlist other) where
    port_same : (o : Option NetValue) → IfSome o (IsSameNet one other) → IsSameNet one other (unwrap_or o low)
    port_same (Some net) h = h
    port_same None h = is_low one v ∙ sym (is_low other w)

    source_same : SendsSame from one other → ShowSame (beat_of from low) one other
    source_same h = record {
      valid = h.valid;
      beat = beat_by_parts _ _ _ _ _ _ _ _ _ _ _ _ h.word (port_same from.channel h.channel) (port_same from.error h.error)
          (port_same from.startofpacket h.startofpacket) (port_same from.endofpacket h.endofpacket) (port_same from.empty h.empty);
    }

    fitted_same : (b : Bool) → nat_lt 0 bits ≡ b → IsSameNet one other beat.empty → IsSameNet one other fitted
    fitted_same true some h = let value = is_fitted (ltb-true 0 bits some) in value one v ∙ ap (λ n. n % 2 ^ bits) h ∙ sym (value other w)
    fitted_same false none h = subst (λ (n : NetValue). IsSameNet one other n) (sym (unfitted (let few : bits ≤ 0 = ltb-false 0 bits none in omega (arith, few)))) h

    sink_same : ShowSame beat one other → ShowSame (record beat { empty = fitted }) one other
    sink_same h = record {
      valid = h.valid;
      beat = beat_by_parts _ _ _ _ _ _ _ _ _ _ _ _ (ap (λ (b : Beat). b.word) h.beat) (ap (λ (b : Beat). b.channel) h.beat) (ap (λ (b : Beat). b.error) h.beat)
          (ap (λ (b : Beat). b.first) h.beat) (ap (λ (b : Beat). b.last) h.beat) (fitted_same (nat_lt 0 bits) refl (ap (λ (b : Beat). b.empty) h.beat));
    }

  pub ignores_ready : (ready dropped : NetValue) → Extends old netlist → IgnoresInLonger old (beat_of from low) beat → IgnoresReady from (record { ready = ready; beat = record beat { empty = fitted }; dropped = dropped }) netlist
  ignores_ready ready dropped on ignores longer e one other v w state same =
      let here = e.valuations one v in
      let there = e.valuations other w in
      sink_same one other here there (ignores longer (extends_twice old netlist longer on e) one other v w state (source_same one other here there same))
