use Rattle.std.proofs.Common.{◌≡◌, ◌∙◌, ◌++◌, ap, ℕ, List, arith}
use Rattle.std.specs.List.{flat_map}
use Rattle.workload_systems.specs.Texts.{text_of}
use Rattle.workload_systems.specs.Systems.{below, memory_lines, host_links}
use Rattle.workload_systems.proofs.Writing.{no_line, some_more}
use Rattle.workload_systems.proofs.systems.put_host_links.Goals as goal

pub agents-init : goal.agents-init
agents-init c = no_line _

pub agents-preserved : goal.agents-preserved
agents-preserved c = some_more _ (memory_lines c.args.i) c.agents.j _ _ c.agents.invariant c.in_ok-put_memory_connection.ensures

pub returns : goal.returns
unfolding host_links
returns c =
    let all : c.agents.j ≡ c.args.agents = omega arith in
    let P : ℕ → List ℕ = λ count. c.args.text.now ++ text_of (flat_map (memory_lines c.args.i) (below count)) in
    c.agents.invariant ∙ ap P all
