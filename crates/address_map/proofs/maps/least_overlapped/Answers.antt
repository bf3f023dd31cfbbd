use Rattle.std.proofs.Common.{◌≡◌, Some, None, false, get_or, below_more, arith, sym, ap, ◌∙◌}
use Rattle.address_map.specs.Footprints.{footprints}
use Rattle.address_map.specs.MapRules.{overlaps_at}
use Rattle.address_map.proofs.HostLemmas.{zeros}
use Rattle.address_map.proofs.JudgeLemmas.{found_in_front, none_in_front, footprint_read, length-footprints}
use Rattle.address_map.proofs.maps.least_overlapped.Goals as goal
use Rattle.address_map.proofs.maps.least_overlapped.Goals.{in-Some+else-overlaps, in_default}

pub returns-then-overlaps : goal.returns-then-overlaps
returns-then-overlaps c =
    let system = c.args.system.now in
    let long = length-footprints system in
    let here : get_or (footprints system) c.loop-earlier.earlier None ≡ Some c.in-Some.other =
    footprint_read system c.connections-connections.result.now c.loop-earlier.earlier zeros c.connections-connections.ensures (omega arith) ∙ sym c.footprint_at.ensures.value ∙ c.in-Some.is in
    sym (found_in_front (overlaps_at c.args.footprint) (footprints system) c.args.number c.loop-earlier.earlier None (omega arith) c.loop-earlier-test.true c.loop-earlier.invariant
    (ap (overlaps_at c.args.footprint) here ∙ sym c.if-overlaps.ensures))

pub loop-earlier-preserved : goal.loop-earlier-preserved
loop-earlier-preserved c =
    let system = c.args.system.now in
    let here : get_or (footprints system) c.loop-earlier.earlier None ≡ c.footprint_at.result =
    footprint_read system c.connections-connections.result.now c.loop-earlier.earlier zeros c.connections-connections.ensures (omega arith) ∙ sym c.footprint_at.ensures.value in
    let apart : overlaps_at c.args.footprint c.footprint_at.result ≡ false =
    elim c.match-footprint_at.branch [
      | in-Some+else-overlaps w ↦ ap (overlaps_at c.args.footprint) w.in-Some.is ∙ sym w.if-overlaps.ensures
      | in_default w ↦ ap (overlaps_at c.args.footprint) w.in_default.is
    ] in
    below_more _ _ c.loop-earlier.invariant (ap (overlaps_at c.args.footprint) here ∙ apart)

pub returns : goal.returns
returns c =
    let system = c.args.system.now in
    let long = length-footprints system in
    sym (none_in_front (overlaps_at c.args.footprint) (footprints system) c.args.number None (omega arith) (λ k less. c.loop-earlier.invariant k (omega arith)))
