use Rattle.std.proofs.Common.{◌≡◌, ◌∙◌, ◌++◌, ap, map, ℕ, List, arith}
use Rattle.workload_systems.specs.Texts.{text_of}
use Rattle.workload_systems.specs.Systems.{below, source_instance}
use Rattle.workload_systems.proofs.Writing.{none_yet, one_more}
use Rattle.workload_systems.proofs.systems.put_sources.Goals as goal

pub sources-init : goal.sources-init
sources-init c = none_yet _ (source_instance c.args.number)

pub sources-preserved : goal.sources-preserved
sources-preserved c = one_more _ (source_instance c.args.number) c.sources.k _ _ c.sources.invariant c.in_ok-put_source.ensures

pub returns : goal.returns
returns c =
    let all : c.sources.k ≡ c.args.streams = omega arith in
    let P : ℕ → List ℕ = λ count. c.args.text.now ++ text_of (map (source_instance c.args.number) (below count)) in
    c.sources.invariant ∙ ap P all
