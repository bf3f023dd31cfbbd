use Rattle.std.proofs.Common.{◌==◌, sym, subst, ap, ◌∙◌, lit<}
use Rattle.net_parts.specs.declared.places.PlaceNets.{PlaceNets}
use Rattle.net_parts.specs.Groups.{group_widths, AreNumberedFrom, InGroup, LoadsAll}
use Rattle.net_parts.specs.Growth.{WaitsWithout}
use Rattle.net_parts.specs.Bits.{of_chosen}
use Rattle.net_parts.specs.Laws.{on_ok}
use Rattle.net_parts.specs.PlaceRows.{nets_of, ArePlaceNets, WaitsForNext}
use Rattle.stage_core.specs.Beats.{group_of}
use Rattle.stage_core.specs.Groups.{IsOfBeat, LoadsBeat}
use Rattle.stage_core.specs.BeatPlaces.{shown_of, place_are}
use Rattle.stage_core.proofs.BeatGroups.{same_widths, numbered_from, of_beat, in_beat}
use Rattle.stage_core.proofs.makers.load_beat.Goals as goal

pub load_place-requires : goal.load_place-requires
load_place-requires c = (
  lit< tt,
  (
    lit< tt,
    (
      subst (λ (place : PlaceNets 6). ArePlaceNets c.args.builder.now place) (sym c.place.ensures) (place_are _ _ c.requires.registers),
      (
        subst (λ (place : PlaceNets 6). WaitsForNext c.args.builder.now place) (sym c.place.ensures)
            (λ n o. c.requires.wait.wait n (of_beat c.args.registers.now c.args.registers.now.valid.number c.requires.wait.numbers n o)),
        (
          subst (λ (place : PlaceNets 6). AreNumberedFrom place.full.number (nets_of place)) (sym c.place.ensures) (numbered_from c.args.registers.now c.args.registers.now.valid.number c.requires.wait.numbers),
          (
            c.requires.loads,
            (
              subst (λ (place : PlaceNets 6). ArePlaceNets c.args.builder.now place) (sym c.place-2.ensures) (place_are _ _ c.requires.next),
              ap (λ (place : PlaceNets 6). group_widths (nets_of place)) c.place-2.ensures ∙ same_widths _ _ c.requires.widths ∙ sym (ap (λ (place : PlaceNets 6). group_widths (nets_of place)) c.place.ensures),
            ),
          ),
        ),
      ),
    ),
  ),
)

pub returns-clause-value : goal.returns-clause-value
returns-clause-value c =
    on_ok c.load_place.result _ (LoadsBeat c.load_place.new.builder c.args.registers.now c.args.loads c.args.next.now)
    (λ value run cycles r n lt. (
    let loads = subst (λ (place : PlaceNets 6). LoadsAll c.load_place.new.builder c.args.loads (nets_of place) (group_of c.args.next.now)) c.place.ensures
    (subst (λ (next : PlaceNets 6). LoadsAll c.load_place.new.builder c.args.loads (nets_of c.place.result) (nets_of next)) c.place-2.ensures value) in
    ap shown_of (loads run cycles r n lt) ∙ of_chosen shown_of (run.net n c.args.loads.number == 1) _ _))
    c.load_place.ensures.value

pub returns-clause-still_wait : goal.returns-clause-still_wait
returns-clause-still_wait c n apart w =
    c.load_place.ensures.still_wait n (λ o. apart (of_beat c.args.registers.now c.args.registers.now.valid.number c.requires.wait.numbers n (subst (λ (place : PlaceNets 6). InGroup (nets_of place) n) c.place.ensures o))) w

pub returns-clause-no_more_wait : goal.returns-clause-no_more_wait
returns-clause-no_more_wait c =
    on_ok c.load_place.result _ (WaitsWithout (IsOfBeat c.args.registers.now) c.args.builder.now c.load_place.new.builder)
    (λ out n w. (
    let h = out n w in
    (h.0, λ o. h.1 (subst (λ (place : PlaceNets 6). InGroup (nets_of place) n) (sym c.place.ensures) (in_beat c.args.registers.now c.args.registers.now.valid.number c.requires.wait.numbers n o)))))
    c.load_place.ensures.no_more_wait
