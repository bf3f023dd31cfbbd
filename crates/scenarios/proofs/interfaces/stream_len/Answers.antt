use Rattle.std.proofs.Common.{sym, subst}
use Rattle.iface_roles.specs.declared.records.Finished.{Finished}
use Rattle.system_tables.specs.Tables.{IsEnd}
use Rattle.scenarios.proofs.InterfaceLemmas.{stream_known}
use Rattle.scenarios.proofs.interfaces.stream_len.Goals as goal

pub is_name-requires : goal.is_name-requires
is_name-requires c =
    subst (λ end. (known : Finished) × IsEnd c.args.plan.now.system end known) (sym c.end_of.ensures)
    (stream_known c.args.plan.now.system c.args.side c.stream_connections-link-items.result.now c.streams.link-index _
    (record { are = c.stream_connections-link-items.ensures; each = c.streams_are_numbered.ensures.links c.args.plan.now.system c.well_made.ensures.system }) c.streams-test.true)
