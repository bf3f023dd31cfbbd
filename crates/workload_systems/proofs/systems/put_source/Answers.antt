use Rattle.std.proofs.Common.{◌++◌, ◌+◌, ◌%◌, ◌∙◌, ap, List, ℕ}
use Rattle.std.specs.Prelude.{codes}
use Rattle.workload_systems.specs.Texts.{line_text}
use Rattle.workload_systems.specs.Components.{digit, source_name}
use Rattle.workload_systems.specs.Systems.{instance, source_instance}
use Rattle.workload_systems.proofs.systems.put_source.Goals as goal

pub returns : goal.returns
unfolding source_instance
returns c =
    let m = c.from-2.result in
    let Q : ℕ → List ℕ = λ n. c.args.text.now ++ line_text (instance (codes "s" ++ digit c.args.k) (source_name (c.args.k % 3) (1 + (n + m) % 4))) in
    let n = c.args.number in
    let R : ℕ → List ℕ = λ m. c.args.text.now ++ line_text (instance (codes "s" ++ digit c.args.k) (source_name (c.args.k % 3) (1 + (n + m) % 4))) in
    c.in_ok-put_instance.ensures ∙ ap Q c.from.ensures ∙ ap R c.from-2.ensures
