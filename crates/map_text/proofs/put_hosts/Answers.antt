use Rattle.std.proofs.Common.{◌≤◌, List, ◌++◌, length, string_bytes, ap, ◌∙◌, arith}
use Rattle.std.specs.List.{flat_map, zip}
use Rattle.std.proofs.lemmas.List.{take_all}
use Rattle.std.proofs.lemmas.Slice.Zip.{length-zip}
use Rattle.system_tables.specs.declared.tables.EndId.{EndId}
use Rattle.address_map.specs.declared.host_map.MapEntry.{MapEntry}
use Rattle.address_map.specs.Maps.{hosts_of}
use Rattle.map_text.specs.Text.{host_lines}
use Rattle.map_text.proofs.TextLemmas.{zip_at, flat_next, written_more}
use Rattle.map_text.proofs.put_hosts.Goals as goal

pub put_host-requires : goal.put_host-requires
put_host-requires c = record {
  joined = c.host_at.ensures.joined;
  entries = c.entries_are_of_connections.ensures c.args.plan.now.system c.args.plan.now.maps c.well_made.ensures.maps c.loop-number.number c.host_at.result c.entries_at.result.now c.host_at.ensures.is c.entries_at.ensures;
}

pub loop-number-preserved : goal.loop-number-preserved
loop-number-preserved c =
    let system = c.args.plan.now.system in
    let maps = c.args.plan.now.maps in
    let k = c.loop-number.number in
    let at = zip_at (hosts_of system) maps k c.host_at.result c.entries_at.result.now c.host_at.ensures.is c.entries_at.ensures in
    let next = flat_next (λ mapped. host_lines system mapped.0 mapped.1) (zip (hosts_of system) maps) k (c.host_at.result, c.entries_at.result.now) at in
    written_more _ _ _ _ _ _ c.loop-number.invariant c.in_ok-put_host.ensures next

pub returns : goal.returns
returns c =
    let system = c.args.plan.now.system in
    let maps = c.args.plan.now.maps in
    let long = ap length c.hosts.ensures in
    let few : length (zip (hosts_of system) maps) ≤ c.loop-number.number = omega (arith, length-zip (hosts_of system) maps) in
    let all = take_all c.loop-number.number (zip (hosts_of system) maps) few in
    c.loop-number.invariant ∙ ap (λ (pairs : List (EndId × List MapEntry)). string_bytes c.args.text.now ++ flat_map (λ mapped. host_lines system mapped.0 mapped.1) pairs) all
