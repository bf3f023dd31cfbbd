use Rattle.std.proofs.Common.{◌≡◌, ℕ, Bool, true, false, if◌then◌else◌, List, [], subst, sym, refl}
use Rattle.std.proofs.lemmas.List.{nil_from_length}
use Rattle.netlist.specs.Nets.{NetValue}
use Rattle.net_parts.specs.Laws.{extends_none}
use Rattle.item_queues.specs.Places.{ShiftsOn}
use Rattle.item_queues.proofs.Shifts.{ShiftsSet, set_more, set_grows}
use Rattle.item_queues.proofs.places.shift_places.Goals as goal

nothing : (t : Bool) → ◌≡◌ {A = List (List ℕ)} [] (if t then [] else [])
nothing true = refl
nothing false = refl

pub returns-in_err-shift_place-clause-grows : goal.returns-in_err-shift_place-clause-grows
returns-in_err-shift_place-clause-grows g c =
    let h = subst (λ (rest : List (List NetValue)). ShiftsSet c.args.builder.now c.loop-place.builder c.args.places.now rest c.args.comes c.args.below.now c.loop-place.into g.row.N) c.in-Some.ensures.cases.0 c.loop-place.invariant in
    set_grows _ _ _ _ _ _ _ _ _ _ h c.shift_place.ensures.grows

pub loop-place-preserved : goal.loop-place-preserved
loop-place-preserved g c =
    let h = subst (λ (rest : List (List NetValue)). ShiftsSet c.args.builder.now c.loop-place.builder c.args.places.now rest c.args.comes c.args.below.now c.loop-place.into g.row.N) c.in-Some.ensures.cases.0 c.loop-place.invariant in
    set_more c.args.builder.now c.loop-place.builder c.shift_place.new.builder c.args.places.now c.in-Some.others.now c.args.comes c.args.below.now c.loop-place.into c.in-Some.place.now g.row.N
    h c.in_ok-shift_place.ensures.value c.shift_place.ensures.grows c.shift_place.ensures.still_wait c.in_ok-shift_place.ensures.no_more_wait

pub returns-clause-value : goal.returns-clause-value
returns-clause-value g c =
    let h = c.loop-place.invariant in
    h.moves c.loop-place.builder (extends_none c.loop-place.builder)
    (subst (ShiftsOn c.loop-place.builder c.args.comes c.loop-place.into) (sym (nil_from_length c.loop-place.rest.now c.in_default.ensures.cases)) (λ run cycles r n lt. nothing _))
