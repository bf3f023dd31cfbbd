-- The nets of a beat as those of a place, and the beat that is read from the values of its item.
use Rattle.std.proofs.Common.{◌≡◌, ℕ, List, [], ◌∷◌, drop, sym, subst, ap, ◌∙◌}
use Rattle.netlist.specs.Netlists.{Netlist}
use Rattle.netlist.specs.Runs.{Cycle}
use Rattle.stream_runs.specs.View.{Beat}
use Rattle.net_parts.specs.declared.places.PlaceNets.{PlaceNets}
use Rattle.net_parts.specs.Groups.{AreNets, group_widths}
use Rattle.net_parts.specs.Places.{Place, row_as}
use Rattle.net_parts.specs.PlaceRows.{nets_of, ArePlaceNets, HaveSameWidths, row_in}
use Rattle.stage_core.specs.declared.beat.BeatNets.{BeatNets}
use Rattle.stage_core.specs.Beats.{AreBeatNets, group_of, Widths, widths_of}
use Rattle.stage_core.specs.Groups.{Shown}

-- the nets of a beat as a place: full where valid is high
abbrev pub place_nets : BeatNets → PlaceNets 6
place_nets beat =
    record { full = beat.valid; item = beat.word ∷ beat.channel ∷ beat.error ∷ beat.first ∷ beat.last ∷ beat.empty ∷ [] }

abbrev pub first_value : List ℕ → ℕ
first_value [] = 0
first_value (value ∷ values) = value

-- the beat with these values
abbrev pub beat_of : List ℕ → Beat
beat_of values = record {
  word = first_value values;
  channel = first_value (drop 1 values);
  error = first_value (drop 2 values);
  first = first_value (drop 3 values);
  last = first_value (drop 4 values);
  empty = first_value (drop 5 values);
}

-- what is shown with these values, and the values of what is shown
abbrev pub shown_of : List ℕ → Shown
shown_of values = record { valid = first_value values; beat = beat_of (drop 1 values) }

abbrev pub values_shown : Shown → List ℕ
values_shown shown =
    shown.valid ∷ shown.beat.word ∷ shown.beat.channel ∷ shown.beat.error ∷ shown.beat.first ∷ shown.beat.last ∷ shown.beat.empty
    ∷ []

-- the places of a row in a cycle, with their beats
abbrev pub beats_in : Cycle → List (PlaceNets 6) → List (Place Beat)
beats_in cycle row = row_as beat_of (row_in cycle row)

-- ---- laws. No contract reads a proof of these

pub place_are : (netlist : Netlist) (beat : BeatNets) → AreBeatNets netlist beat → ArePlaceNets netlist (place_nets beat)
place_are netlist beat h =
    record { full = h.valid; item = (h.word, (h.channel, (h.error, (h.first.is_net, (h.last.is_net, (h.empty, tt)))))) }

pub beat_of_group : (netlist : Netlist) (beat : BeatNets) → AreNets netlist (group_of beat) → beat.valid.width ≡ 1
    → beat.first.width ≡ 1 → beat.last.width ≡ 1 → AreBeatNets netlist beat
beat_of_group netlist beat h v f l = record {
  valid = record { is_net = h.0; has_width = v };
  word = h.1.0;
  channel = h.1.1.0;
  error = h.1.1.1.0;
  first = record { is_net = h.1.1.1.1.0; has_width = f };
  last = record { is_net = h.1.1.1.1.1.0; has_width = l };
  empty = h.1.1.1.1.1.1.0;
}

-- a beat whose nets are those of a place of the widths of a beat
pub beat_are : (netlist old : Netlist) (beat like : BeatNets) (place : PlaceNets 6) → group_of beat ≡ nets_of place
    → ArePlaceNets netlist place → HaveSameWidths place (place_nets like) → AreBeatNets old like → AreBeatNets netlist beat
beat_are netlist old beat like place same h widths l =
    let wide : group_widths (group_of beat) ≡ group_widths (group_of like) = ap group_widths same ∙ widths in
    beat_of_group netlist beat (subst (AreNets netlist) (sym same) (h.full.is_net, h.item))
    (ap first_value wide ∙ l.valid.has_width)
    (ap (λ values. first_value (drop 4 values)) wide ∙ l.first.has_width)
    (ap (λ values. first_value (drop 5 values)) wide ∙ l.last.has_width)

pub place_widths : (beat like : BeatNets) (place : PlaceNets 6) → group_of beat ≡ nets_of place
    → HaveSameWidths place (place_nets like) → widths_of beat ≡ widths_of like
place_widths beat like place same widths = ap widths_read (ap group_widths same ∙ widths)
  where
    widths_read : List ℕ → Widths
    widths_read values =
        record {
          word =
              first_value (drop 1 values);
          channel =
              first_value (drop 2 values);
          error = first_value (drop 3 values);
          empty = first_value (drop 6 values);
        }
