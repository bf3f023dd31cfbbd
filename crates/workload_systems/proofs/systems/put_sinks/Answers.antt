use Rattle.std.proofs.Common.{◌≡◌, ◌∙◌, ◌++◌, ap, map, ℕ, List, arith}
use Rattle.workload_systems.specs.Texts.{text_of}
use Rattle.workload_systems.specs.Systems.{below, sink_instance}
use Rattle.workload_systems.proofs.Writing.{none_yet, one_more}
use Rattle.workload_systems.proofs.systems.put_sinks.Goals as goal

pub sinks-init : goal.sinks-init
sinks-init c = none_yet _ (sink_instance c.args.number)

pub sinks-preserved : goal.sinks-preserved
sinks-preserved c = one_more _ (sink_instance c.args.number) c.sinks.k _ _ c.sinks.invariant c.in_ok-put_sink.ensures

pub returns : goal.returns
returns c =
    let all : c.sinks.k ≡ c.args.streams = omega arith in
    let P : ℕ → List ℕ = λ count. c.args.text.now ++ text_of (map (sink_instance c.args.number) (below count)) in
    c.sinks.invariant ∙ ap P all
