use Rattle.std.proofs.Common.{◌==◌, sym, subst, ap, ◌∙◌, lit<}
use Rattle.net_parts.specs.declared.places.PlaceNets.{PlaceNets}
use Rattle.net_parts.specs.Bits.{chosen_high}
use Rattle.net_parts.specs.Laws.{bit_fits}
use Rattle.net_parts.specs.Groups.{AreNets, group_widths, ChooseAll}
use Rattle.net_parts.specs.PlaceRows.{nets_of, ArePlaceNets}
use Rattle.stage_core.specs.Beats.{group_of}
use Rattle.stage_core.specs.BeatPlaces.{beat_of_group, place_are}
use Rattle.stage_core.proofs.BeatGroups.{same_widths, widths_same, chosen_of}
use Rattle.stage_core.proofs.makers.mux_beat.Goals as goal

pub choose_place-requires : goal.choose_place-requires
choose_place-requires c = (
  lit< tt,
  (
    lit< tt,
    (
      c.requires.bit,
      (
        subst (λ (place : PlaceNets 6). ArePlaceNets c.args.builder.now place) (sym c.place.ensures) (place_are _ _ c.requires.one),
        (
          subst (λ (place : PlaceNets 6). ArePlaceNets c.args.builder.now place) (sym c.place-2.ensures) (place_are _ _ c.requires.other),
          ap (λ (place : PlaceNets 6). group_widths (nets_of place)) c.place.ensures ∙ same_widths _ _ c.requires.widths ∙ sym (ap (λ (place : PlaceNets 6). group_widths (nets_of place)) c.place-2.ensures),
        ),
      ),
    ),
  ),
)

pub returns-clause-widths : goal.returns-clause-widths
returns-clause-widths c =
    widths_same c.of_place.result c.args.one.now (ap group_widths c.of_place.ensures ∙ c.in_ok-made.ensures.widths ∙ ap (λ (place : PlaceNets 6). group_widths (nets_of place)) c.place.ensures)

pub returns-clause-beat : goal.returns-clause-beat
returns-clause-beat c =
    let same = returns-clause-widths c in
    let nets = c.in_ok-made.ensures.place in
    beat_of_group _ c.of_place.result (subst (AreNets c.choose_place.new.builder) (sym c.of_place.ensures) (nets.full.is_net, nets.item)) (same.valid ∙ c.requires.one.valid.has_width) (same.first ∙ c.requires.one.first.has_width) (same.last ∙ c.requires.one.last.has_width)

pub returns-clause-value : goal.returns-clause-value
returns-clause-value c cycle v =
    let chosen = subst (λ (one : PlaceNets 6). ChooseAll c.choose_place.new.builder c.args.bit (nets_of one) (group_of c.args.other.now) (group_of c.of_place.result)) c.place.ensures
    (subst (λ (other : PlaceNets 6). ChooseAll c.choose_place.new.builder c.args.bit (nets_of c.place.result) (nets_of other) (group_of c.of_place.result)) c.place-2.ensures
    (subst (ChooseAll c.choose_place.new.builder c.args.bit (nets_of c.place.result) (nets_of c.place-2.result)) (sym c.of_place.ensures) c.in_ok-made.ensures.chosen)) in
    chosen_of (cycle.net c.args.bit.number == 0) cycle c.of_place.result c.args.one.now c.args.other.now (chosen cycle v)
    ∙ chosen_high (cycle.net c.args.bit.number) _ _ (bit_fits _ _ c.requires.bit cycle (c.choose_place.ensures.adds.grows.extends.valuations cycle v))

pub returns-clause-adds : goal.returns-clause-adds
returns-clause-adds c = c.choose_place.ensures.adds
