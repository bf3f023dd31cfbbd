use Rattle.std.proofs.Common.{◌++◌, ◌+◌, ◌*◌, ◌%◌, ◌∙◌, ap, List, ℕ}
use Rattle.std.specs.Prelude.{codes}
use Rattle.workload_systems.specs.Texts.{line_text}
use Rattle.workload_systems.specs.Components.{digit, agent_name}
use Rattle.workload_systems.specs.Systems.{instance, agent_instance}
use Rattle.workload_systems.proofs.systems.put_agent.Goals as goal

pub returns : goal.returns
unfolding agent_instance
returns c =
    let P : List ℕ → List ℕ = λ name. c.args.text.now ++ line_text (instance (codes "a" ++ digit c.args.j) name) in
    let m = c.from-2.result in
    let Q : ℕ → List ℕ = λ n. agent_name ((n + 2 * m) % 4) in
    let n = c.args.number in
    let R : ℕ → List ℕ = λ m. agent_name ((n + 2 * m) % 4) in
    c.in_ok-put_instance.ensures ∙ ap P (c.agent_name.ensures ∙ ap Q c.from.ensures ∙ ap R c.from-2.ensures)
