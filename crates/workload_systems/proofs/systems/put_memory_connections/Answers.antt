use Rattle.std.proofs.Common.{◌≡◌, ◌∙◌, ◌++◌, ap, ℕ, List, arith}
use Rattle.std.specs.List.{flat_map}
use Rattle.workload_systems.specs.Texts.{text_of}
use Rattle.workload_systems.specs.Systems.{below, host_links}
use Rattle.workload_systems.proofs.Writing.{no_line, some_more}
use Rattle.workload_systems.proofs.systems.put_memory_connections.Goals as goal

pub hosts-init : goal.hosts-init
hosts-init c = no_line _

pub hosts-preserved : goal.hosts-preserved
hosts-preserved c = some_more _ (host_links c.args.agents) c.hosts.i _ _ c.hosts.invariant c.in_ok-put_host_links.ensures

pub returns : goal.returns
returns c =
    let all : c.hosts.i ≡ c.args.hosts = omega arith in
    let P : ℕ → List ℕ = λ count. c.args.text.now ++ text_of (flat_map (host_links c.args.agents) (below count)) in
    c.hosts.invariant ∙ ap P all
