use Rattle.std.proofs.Common.{subst}
use Rattle.iface_roles.specs.declared.kinds.Side.TheVariants.{Start, End}
use Rattle.system_tables.specs.Tables.{IsEnd}
use Rattle.link_rules.proofs.LinkLemmas.{is_of_mm}
use Rattle.link_rules.proofs.plan_connections.memory_connection.Goals as goal

pub interface-start-requires : goal.interface-start-requires
interface-start-requires c =
    let logic = c.well_made.ensures.connections c.args.number c.args.connection c.requires.is in
    (logic.start_known, logic.start)

pub interface-end-requires : goal.interface-end-requires
interface-end-requires c =
    let logic = c.well_made.ensures.connections c.args.number c.args.connection c.requires.is in
    (logic.end_known, logic.end)

pub number_in-requires-clause-there : goal.number_in-requires-clause-there
number_in-requires-clause-there c =
    let system = c.args.system.now in
    let connection = c.args.connection in
    let start = subst (IsEnd system connection.start) c.in-Host-Agent.is-0 c.interface-start.ensures in
    let end = subst (IsEnd system connection.end) c.in-Host-Agent.is-1 c.interface-end.ensures in
    let logic = c.well_made.ensures.connections c.args.number connection c.requires.is in
    let there = c.ends_have_one_number.ensures.there system Start c.args.number connection c.requires.is (is_of_mm system connection c.in-Host-Agent.host c.in-Host-Agent.agent logic start end) in
    (there.0, rw c.requires.hosts there.1)

pub number_in-requires-in-Host-Agent-clause-there : goal.number_in-requires-in-Host-Agent-clause-there
number_in-requires-in-Host-Agent-clause-there c =
    let system = c.args.system.now in
    let connection = c.args.connection in
    let start = subst (IsEnd system connection.start) c.in-Host-Agent.is-0 c.interface-start.ensures in
    let end = subst (IsEnd system connection.end) c.in-Host-Agent.is-1 c.interface-end.ensures in
    let logic = c.well_made.ensures.connections c.args.number connection c.requires.is in
    let there = c.ends_have_one_number.ensures.there system End c.args.number connection c.requires.is (is_of_mm system connection c.in-Host-Agent.host c.in-Host-Agent.agent logic start end) in
    (there.0, rw c.requires.agents there.1)
