use Rattle.std.proofs.Common.{Bool, List, cond, get_or, arith, sym, ap, ◌∙◌}
use Rattle.system_tables.specs.declared.tables.EndId.{EndId}
use Rattle.address_map.specs.Ends.{with_end}
use Rattle.address_map.specs.Maps.{end_at}
use Rattle.address_map.proofs.HostLemmas.{zeros, ends_before, ends_before-next}
use Rattle.address_map.proofs.hosts.mm_ends.Goals as goal
use Rattle.address_map.proofs.hosts.mm_ends.Goals.{then-is_mm+in_ok-add, else-is_mm}

pub loop-connection-preserved : goal.loop-connection-preserved
loop-connection-preserved c =
    let connections = c.connections-connection-items.result.now in
    let i = c.loop-connection.connection-index in
    let before = ends_before c.args.side connections i in
    let end = end_at c.args.side (get_or connections i zeros) in
    let next = ends_before-next c.args.side connections i zeros (omega arith) ∙ ap (λ (b : Bool). cond b (with_end before end) before) (sym c.is_mm.ensures) in
    elim c.if-is_mm.branch [
      | then-is_mm+in_ok-add w ↦
          w.ends-is ∙ w.in_ok-add.ensures.ok
          ∙ ap (λ (l : List EndId). with_end l w.end_at.result) c.loop-connection.invariant
          ∙ ap (with_end before) w.end_at.ensures
          ∙ sym (next ∙ ap (λ (b : Bool). cond b (with_end before end) before) w.if-is_mm.true)
      | else-is_mm w ↦
          w.ends-is ∙ c.loop-connection.invariant
          ∙ sym (next ∙ ap (λ (b : Bool). cond b (with_end before end) before) w.if-is_mm.false)
    ]
