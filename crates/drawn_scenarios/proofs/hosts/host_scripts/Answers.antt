use Rattle.std.proofs.Common.{◌≡◌, ◌<◌, ◌≤◌, length, ap, sym, ◌∙◌, ℕ, List, arith, rules}
use Rattle.std.specs.Prelude.{slice_get}
use Rattle.std.specs.List.{range_with_len}
use Rattle.std.proofs.lemmas.List.FromFn.{length-range_with_len}
use Rattle.address_map.specs.Maps.{hosts_of}
use Rattle.link_rules.specs.declared.plan_connections.MemoryConnection.{MemoryConnection}
use Rattle.scenario_tables.specs.declared.statements.HostStatement.{HostStatement}
use Rattle.drawn_scenarios.specs.Hosts.{host_script, links_among, links_of}
use Rattle.drawn_scenarios.specs.Drawn.{host_script_at, host_scripts}
use Rattle.drawn_scenarios.proofs.DrawLemmas.{range_at, each_first, each_more, each_done}
use Rattle.drawn_scenarios.proofs.hosts.host_scripts.Goals as goal

pub hosts-init : goal.hosts-init
unfolding host_scripts
hosts-init c = each_first (host_script_at c.args.plan.now.system) _ _ _ (search rules)

pub host_script-requires-clause-some : goal.host_script-requires-clause-some
host_script-requires-clause-some c =
    let own : c.as_slice.result.now ≡ links_of c.args.plan.now.system c.hosts.host = c.as_slice.ensures ∙ c.in_ok-links.ensures ∙ ap (links_among c.hosts.host) c.memory_connections.ensures in
    let some = c.hosts_have_connections.ensures c.args.plan.now c.well_made.ensures c.hosts.host (search rules) in
    rw own some

pub host_script-requires-clause-reached : goal.host_script-requires-clause-reached
host_script-requires-clause-reached c =
    let own : c.as_slice.result.now ≡ links_of c.args.plan.now.system c.hosts.host = c.as_slice.ensures ∙ c.in_ok-links.ensures ∙ ap (links_among c.hosts.host) c.memory_connections.ensures in
    λ k link at. c.links_are_reached.ensures c.args.plan.now c.well_made.ensures c.hosts.host k link (ap (λ (l : List MemoryConnection). slice_get l k) (sym own) ∙ at)

pub hosts-preserved : goal.hosts-preserved
hosts-preserved c =
    let system = c.args.plan.now.system in
    let own : c.as_slice.result.now ≡ links_of c.args.plan.now.system c.hosts.host = c.as_slice.ensures ∙ c.in_ok-links.ensures ∙ ap (links_among c.hosts.host) c.memory_connections.ensures in
    let P : List MemoryConnection → List HostStatement × ℕ = λ l. host_script l c.hosts.generator in
    let below : c.hosts.host < length (hosts_of system) = search rules in
    each_more (host_script_at system) (range_with_len 0 (length (hosts_of system))) c.hosts.host c.hosts.host c.hosts.scripts c.add.new.self c.in_ok-script.script c.hosts.generator c.host_script.new.generator _
    (range_at (length (hosts_of system)) c.hosts.host below) (c.in_ok-script.ensures ∙ ap P own) (search rules) c.hosts.invariant

pub returns : goal.returns
returns c =
    let system = c.args.plan.now.system in
    let all = length-range_with_len 0 (length (hosts_of system)) in
    let past : length (hosts_of system) ≤ c.hosts.host = search rules in
    each_done (host_script_at system) (range_with_len 0 (length (hosts_of system))) c.hosts.host c.hosts.scripts c.hosts.generator _ (omega arith) c.hosts.invariant
