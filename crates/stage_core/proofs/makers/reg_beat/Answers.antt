use Rattle.std.proofs.Common.{List, length, sym, subst, ap, ◌+◌, ◌∙◌, lit<, inl, inr}
use Rattle.netlist.specs.Nets.{NetValue}
use Rattle.netlist.specs.Runs.{cycle_of}
use Rattle.net_parts.specs.declared.places.PlaceNets.{PlaceNets}
use Rattle.net_parts.specs.Groups.{AreNets, group_widths, AreNumberedFrom, InGroup, StartAllLow}
use Rattle.net_parts.specs.PlaceRows.{nets_of, ArePlaceNets}
use Rattle.stage_core.specs.BeatPlaces.{beat_of_group, place_are}
use Rattle.stage_core.proofs.BeatGroups.{widths_same, numbered_of, of_beat, in_beat, low_of}
use Rattle.stage_core.proofs.makers.reg_beat.Goals as goal

pub low_place-requires : goal.low_place-requires
low_place-requires c = (lit< tt, (lit< tt, subst (λ (place : PlaceNets 6). ArePlaceNets c.args.builder.now place) (sym c.place.ensures) (place_are _ _ c.requires)))

pub returns-clause-widths : goal.returns-clause-widths
returns-clause-widths c =
    widths_same c.of_place.result c.args.like.now (ap group_widths c.of_place.ensures ∙ c.in_ok-made.ensures.place.widths ∙ ap (λ (place : PlaceNets 6). group_widths (nets_of place)) c.place.ensures)

pub returns-clause-beat : goal.returns-clause-beat
returns-clause-beat c =
    let same = returns-clause-widths c in
    let nets = c.in_ok-made.ensures.place.nets_are in
    beat_of_group _ c.of_place.result (subst (AreNets c.low_place.new.builder) (sym c.of_place.ensures) (nets.full.is_net, nets.item)) (same.valid ∙ c.requires.valid.has_width) (same.first ∙ c.requires.first.has_width) (same.last ∙ c.requires.last.has_width)

pub returns-clause-registers : goal.returns-clause-registers
returns-clause-registers c =
    let numbers = numbered_of c.of_place.result (length c.args.builder.now.lines) (subst (AreNumberedFrom (length c.args.builder.now.lines)) (sym c.of_place.ensures) c.in_ok-made.ensures.place.numbers) in
    record {
      numbers = numbers;
      wait = λ n o. c.in_ok-made.ensures.place.wait n (subst (λ (group : List NetValue). InGroup group n) c.of_place.ensures (in_beat c.of_place.result (length c.args.builder.now.lines) numbers n o));
    }

pub returns-clause-count : goal.returns-clause-count
returns-clause-count c = c.in_ok-made.ensures.count ∙ ap (λ (group : List NetValue). length c.args.builder.now.lines + length group) (sym c.of_place.ensures)

pub returns-clause-starts : goal.returns-clause-starts
returns-clause-starts c run cycles r lt = low_of (cycle_of run 0) c.of_place.result ((subst (StartAllLow c.low_place.new.builder) (sym c.of_place.ensures) c.in_ok-made.ensures.starts) run cycles r lt)

pub returns-clause-grows : goal.returns-clause-grows
returns-clause-grows c = c.low_place.ensures.grows

pub returns-clause-newly : goal.returns-clause-newly
returns-clause-newly c n w =
    let numbers = numbered_of c.of_place.result (length c.args.builder.now.lines) (subst (AreNumberedFrom (length c.args.builder.now.lines)) (sym c.of_place.ensures) c.in_ok-made.ensures.place.numbers) in
    elim (c.in_ok-made.ensures.newly n w) [ inl old ↦ inl old | inr o ↦ inr (of_beat c.of_place.result (length c.args.builder.now.lines) numbers n (subst (λ (group : List NetValue). InGroup group n) (sym c.of_place.ensures) o)) ]
