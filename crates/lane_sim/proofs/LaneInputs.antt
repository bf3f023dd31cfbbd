-- The values of a cycle's inputs, whose turn it is.
use Rattle.std.proofs.Common.{◌≡◌, ℕ, ◌<◌, ◌≤◌, false, List, length, slice_get, get_or, take, [], ◌∷◌, zero, suc, refl, Some, sym, subst, ap, ◌∙◌, arith}
use Rattle.std.proofs.lemmas.Option.{get_or_from_slice_get, slice_get_within}
use Rattle.std.proofs.lemmas.List as lists
use Rattle.av_base.specs.Word.{Word}
use Rattle.netlist.specs.declared.line.PortLine.{PortLine}
use Rattle.cycle_sim.specs.Sims.{input_widths, widths_of}
use Rattle.lane_sim.specs.LaneWords.{LaneWord, value_at}
use Rattle.lane_sim.specs.LaneSims.{lane_words, widths_in}
use Rattle.lane_sim.proofs.Inputs.{at_turn}
use Rattle.lane_sim.proofs.LaneLists.{lane_count, lane_widths}

pub record IsTurn (inputs : List LaneWord) (t : ℕ) (p : PortLine) : Type 0 where
  pub within : t < length inputs
  pub width : (x : LaneWord) → (get_or inputs t x).width ≡ p.width

taken_words : (inputs : List LaneWord) (t : ℕ) → take t (lane_words 0 inputs) ≡ lane_words 0 (take t inputs)
taken_words [] zero = refl
taken_words [] (suc t) = refl
taken_words (x ∷ xs) zero = refl
taken_words (x ∷ xs) (suc t) = ap (λ ws. value_at x 0 ∷ ws) (taken_words xs t)

pub lane_turn : (ports : List PortLine) (inputs : List LaneWord) (k t : ℕ) (p : PortLine) → widths_in (take t inputs) ≡ input_widths (take k ports) → slice_get ports k ≡ Some p → p.output ≡ false →
    widths_in inputs ≡ input_widths ports → IsTurn inputs t p
lane_turn ports inputs k t p taken at o all =
    let turn = at_turn ports (lane_words 0 inputs) k t p (ap widths_of (taken_words inputs t) ∙ lane_widths 0 (take t inputs) ∙ taken) at o (lane_widths 0 inputs ∙ all) in
    let lt : t < length inputs = (let h = slice_get_within (lane_words 0 inputs) t turn.0 turn.1 in omega (arith, h, lane_count 0 inputs)) in
    record {
      within = lt;
      width = λ x. ap (λ (w : Word). w.width) (sym (lists.get_or-map (λ (y : LaneWord). value_at y 0) inputs t x turn.0 lt) ∙ get_or_from_slice_get (lane_words 0 inputs) t turn.0 turn.0 turn.1) ∙ turn.2;
    }
