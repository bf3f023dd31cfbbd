use Rattle.std.proofs.Common.{◌≡◌, ◌∙◌, ◌++◌, ap, map, ℕ, List, arith}
use Rattle.workload_systems.specs.Texts.{text_of}
use Rattle.workload_systems.specs.Systems.{below, host_instance}
use Rattle.workload_systems.proofs.Writing.{none_yet, one_more}
use Rattle.workload_systems.proofs.systems.put_hosts.Goals as goal

pub hosts-init : goal.hosts-init
hosts-init c = none_yet _ (host_instance c.args.number)

pub hosts-preserved : goal.hosts-preserved
hosts-preserved c = one_more _ (host_instance c.args.number) c.hosts.i _ _ c.hosts.invariant c.in_ok-put_host.ensures

pub returns : goal.returns
returns c =
    let all : c.hosts.i ≡ c.args.hosts = omega arith in
    let P : ℕ → List ℕ = λ count. c.args.text.now ++ text_of (map (host_instance c.args.number) (below count)) in
    c.hosts.invariant ∙ ap P all
