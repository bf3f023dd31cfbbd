use Rattle.std.proofs.Common.{◌++◌, ◌+◌, ◌%◌, ◌∙◌, ap, List, ℕ}
use Rattle.std.specs.Prelude.{codes}
use Rattle.workload_systems.specs.Texts.{line_text}
use Rattle.workload_systems.specs.Components.{digit, host_name}
use Rattle.workload_systems.specs.Systems.{instance, host_instance}
use Rattle.workload_systems.proofs.systems.put_host.Goals as goal

pub returns : goal.returns
unfolding host_instance
returns c =
    let P : List ℕ → List ℕ = λ name. c.args.text.now ++ line_text (instance (codes "h" ++ digit c.args.i) name) in
    let m = c.from-2.result in
    let Q : ℕ → List ℕ = λ n. host_name ((n + m) % 4) in
    let n = c.args.number in
    let R : ℕ → List ℕ = λ m. host_name ((n + m) % 4) in
    c.in_ok-put_instance.ensures ∙ ap P (c.host_name.ensures ∙ ap Q c.from.ensures ∙ ap R c.from-2.ensures)
