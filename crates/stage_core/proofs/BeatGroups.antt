-- The nets of a beat as a group of seven.
use Rattle.std.proofs.Common.{◌≡◌, ℕ, Bool, true, false, if◌then◌else◌, refl, ap, arith, inl, inr}
use Rattle.netlist.specs.Runs.{Cycle}
use Rattle.net_parts.specs.Groups.{group_widths, values_of, AreNumberedFrom, InGroup, all_low}
use Rattle.stage_core.specs.declared.beat.BeatNets.{BeatNets}
use Rattle.stage_core.specs.Beats.{HaveSameWidths, group_of}
use Rattle.stage_core.specs.Groups.{shown_in, nothing_shown, AreNumbered, IsOfBeat}
use Rattle.stage_core.specs.BeatPlaces.{shown_of}
use Rattle.stage_core.specs.BeatLaws.{of_each}

pub same_widths : (one other : BeatNets) → HaveSameWidths one other → group_widths (group_of one) ≡ group_widths (group_of other)
same_widths one other h = rw (h.valid, h.word, h.channel, h.error, h.first, h.last, h.empty) refl

pub widths_same : (one other : BeatNets) → group_widths (group_of one) ≡ group_widths (group_of other) → HaveSameWidths one other
widths_same one other e = record { valid = cc; word = cc; channel = cc; error = cc; first = cc; last = cc; empty = cc }

pub numbered_of : (beat : BeatNets) (from : ℕ) → AreNumberedFrom from (group_of beat) → AreNumbered beat from
numbered_of beat from h = record {
  valid = h.0;
  word = h.1.0;
  channel = (let e = h.1.1.0 in omega (arith, e));
  error = (let e = h.1.1.1.0 in omega (arith, e));
  first = (let e = h.1.1.1.1.0 in omega (arith, e));
  last = (let e = h.1.1.1.1.1.0 in omega (arith, e));
  empty = (let e = h.1.1.1.1.1.1.0 in omega (arith, e));
}

pub numbered_from : (beat : BeatNets) (from : ℕ) → AreNumbered beat from → AreNumberedFrom from (group_of beat)
numbered_from beat from h = (h.valid, (h.word, ((let e = h.channel in omega (arith, e)), ((let e = h.error in omega (arith, e)), ((let e = h.first in omega (arith, e)), ((let e = h.last in omega (arith, e)), ((let e = h.empty in omega (arith, e)), tt)))))))

-- the numbers of the beat are those of the group
pub of_beat : (beat : BeatNets) (from : ℕ) → AreNumbered beat from → (n : ℕ) → InGroup (group_of beat) n → IsOfBeat beat n
of_beat beat from h n o =
    let e0 = h.valid in
    let e1 = h.word in
    let e2 = h.channel in
    let e3 = h.error in
    let e4 = h.first in
    let e5 = h.last in
    let e6 = h.empty in
    elim o [
      | inl s ↦ record { from = omega (arith, s); below = omega (arith, s) }
      | inr o1 ↦ elim o1 [
        | inl s ↦ record { from = omega (arith, s); below = omega (arith, s) }
        | inr o2 ↦ elim o2 [
          | inl s ↦ record { from = omega (arith, s); below = omega (arith, s) }
          | inr o3 ↦ elim o3 [
            | inl s ↦ record { from = omega (arith, s); below = omega (arith, s) }
            | inr o4 ↦ elim o4 [
              | inl s ↦ record { from = omega (arith, s); below = omega (arith, s) }
              | inr o5 ↦ elim o5 [
                | inl s ↦ record { from = omega (arith, s); below = omega (arith, s) }
                | inr o6 ↦ elim o6 [ inl s ↦ record { from = omega (arith, s); below = omega (arith, s) } | inr none ↦ absurd none ]
              ]
            ]
          ]
        ]
      ]
    ]

pub in_beat : (beat : BeatNets) (from : ℕ) → AreNumbered beat from → (n : ℕ) → IsOfBeat beat n → InGroup (group_of beat) n
in_beat beat from h n o =
    of_each (InGroup (group_of beat)) beat from h (inl refl) (inr (inl refl)) (inr (inr (inl refl))) (inr (inr (inr (inl refl)))) (inr (inr (inr (inr (inl refl))))) (inr (inr (inr (inr (inr (inl refl)))))) (inr (inr (inr (inr (inr (inr (inl refl))))))) n o

-- what is shown, from the values of the group
pub chosen_of : (t : Bool) (cycle : Cycle) (beat one other : BeatNets) → values_of cycle (group_of beat) ≡ (if t then values_of cycle (group_of other) else values_of cycle (group_of one)) → shown_in cycle beat ≡ (if t then shown_in cycle other else shown_in cycle one)
chosen_of true cycle beat one other e = ap shown_of e
chosen_of false cycle beat one other e = ap shown_of e

pub low_of : (cycle : Cycle) (beat : BeatNets) → values_of cycle (group_of beat) ≡ all_low (group_of beat) → shown_in cycle beat ≡ nothing_shown
low_of cycle beat e = ap shown_of e
