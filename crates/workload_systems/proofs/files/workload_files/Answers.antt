use Rattle.std.proofs.Common.{[], ◌∷◌, ◌++◌, map, List, ℕ}
use Rattle.workload_systems.specs.Texts.{text_of}
use Rattle.workload_systems.specs.Components.{host_lines, agent_lines, source_lines, sink_lines, four, one_to_four}
use Rattle.workload_systems.specs.Systems.{system_lines}
use Rattle.workload_systems.proofs.Writing.{joined, pushed, from_empty}
use Rattle.workload_systems.proofs.files.workload_files.Goals as goal

pub returns : goal.returns
returns c =
    let hosts : List (List ℕ) = map text_of (map host_lines four) in
    let agents : List (List ℕ) = map text_of (map agent_lines four) in
    let early : List (List ℕ) = map text_of (map (source_lines 0) one_to_four) in
    let late : List (List ℕ) = map text_of (map (source_lines 1) one_to_four) in
    let sinks : List (List ℕ) = map text_of (map sink_lines one_to_four) in
    let all = joined _ (text_of (system_lines c.args.number) ∷ []) (hosts ++ (agents ++ (early ++ (late ++ sinks)))) _ _ (pushed _ _ _ _ c.in_ok-push.ensures.ok c.in_ok-system_text.ensures)
    (joined _ hosts (agents ++ (early ++ (late ++ sinks))) _ _ c.in_ok-push_hosts.ensures
    (joined _ agents (early ++ (late ++ sinks)) _ _ c.in_ok-push_agents.ensures (joined _ early (late ++ sinks) _ _ c.in_ok-push_sources.ensures (joined _ late sinks _ _ c.in_ok-push_sources-2.ensures c.in_ok-push_sinks.ensures)))) in
    from_empty _ _ _ c.new-files.ensures all
