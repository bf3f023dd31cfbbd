use Rattle.std.proofs.Common.{arith}
use Rattle.link_rules.proofs.LinkLemmas.{link_at, keeps_more, keeps_each}
use Rattle.link_rules.proofs.links.check_links.Goals as goal

pub check_link-requires : goal.check_link-requires
check_link-requires c =
    let at = link_at c.args.system.now c.connections-connections.result.now c.loop-k.k _ c.connections-connections.ensures c.loop-k-test.true in
    c.well_made.ensures.connections c.loop-k.k _ at

pub returns-in-Some-clause-refused : goal.returns-in-Some-clause-refused
returns-in-Some-clause-refused c =
    let at = link_at c.args.system.now c.connections-connections.result.now c.loop-k.k _ c.connections-connections.ensures c.loop-k-test.true in
    record {
      refused = record { connection = _; number = c.in-Some.number; is = at; least = c.in-Some.ensures; named = c.link_rule.ensures };
      first = c.loop-k.invariant;
    }

pub loop-k-preserved : goal.loop-k-preserved
loop-k-preserved c =
    let at = link_at c.args.system.now c.connections-connections.result.now c.loop-k.k _ c.connections-connections.ensures c.loop-k-test.true in
    keeps_more c.args.system.now c.loop-k.k _ at c.loop-k.invariant c.in_default.ensures

pub returns-clause-kept : goal.returns-clause-kept
returns-clause-kept c =
    keeps_each c.args.system.now c.connections-connections.result.now c.loop-k.k c.connections-connections.ensures (omega (arith, c.loop-k-test.false)) c.loop-k.invariant
