use Rattle.std.proofs.Common.{◌∙◌, false, arith, ap}
use Rattle.memory_machines.specs.Lines.{target_of}
use Rattle.memory_awake.specs.Fair.{may_burst_to}
use Rattle.memory_awake.specs.RowSystem.{boundaries_of}
use Rattle.memory_awake.proofs.RowBuilt.{links_there}
use Rattle.memory_awake.proofs.RowLeads.{wired_for_bursts}
use Rattle.memory_awake.proofs.SingleWrites.{by_kind, single_behind_route}
use Rattle.memory_awake.proofs.rows.machines_with_links_are_fair.Goals as goal

pub returns : goal.returns
returns c = λ responses system run ports states end plan machines rows legal apart fair.
    let built = c.machines_with_links_are_built.ensures.built responses system run ports states end plan machines rows legal in
    let parts = c.machines_keep_their_records.ensures.parts responses system run (boundaries_of ports) states built.0 end built.1 legal in
    c.straight_machines_are_fair.ensures responses system run (boundaries_of ports) states built.0 end (λ agent host. false) built.1 legal apart (λ agent host there joined.
    let low = plan.joined agent host joined in
    let settled = c.machines_with_links_are_built.ensures.settled responses system run ports states end plan machines rows legal host agent low there in
    let target = target_of system agent in
    let top = ports.after_route host agent in
    let middle = ports.below_cutter host agent in
    let last = ports.above_dropper host agent in
    let down = ports.before_arbiter host agent in
    let row = links_there rows host agent low there joined in
    let cuts = rows.cuts host agent low there row in
    let fits = rows.fits host agent low there row in
    let drops = rows.drops host agent low there row in
    let gathers = rows.gathers host agent low there row in
    let stay = fair agent host there joined in
    record {
      straight = c.rows_are_straight.ensures.straight target top middle last down end cuts fits drops gathers settled.3 settled.0 settled.1 settled.2;
      step = c.rows_are_straight.ensures.step target top middle last down end cuts fits drops gathers settled.3 settled.0 settled.1 settled.2;
      prompt = by_kind (system.host host).has_burst
          (λ none. c.rows_are_straight.ensures.single 30 (may_burst_to system host agent) target top middle last down end (omega arith) cuts fits drops gathers settled.3
          (single_behind_route system run host agent (ports.after_host host) (ports.after_route host) end there (parts.host host low) (parts.route host low)
          (λ k h shown. c.single_writes_begin.ensures.ends top end settled.0 (ap (λ s. s.burst_bits) ((parts.route host low).shape agent there) ∙ (machines.host host low).bursts ∙ plan.plain host low none) k h shown)) settled.0 settled.1 settled.2)
          (λ bursts. c.rows_are_straight.ensures.prompt 30 (may_burst_to system host agent) target top middle last down end (omega arith) cuts fits drops gathers settled.3
          (wired_for_bursts target last down (system.host host).has_enables drops (λ none. stay none bursts)) settled.0 settled.1 settled.2);
    })
