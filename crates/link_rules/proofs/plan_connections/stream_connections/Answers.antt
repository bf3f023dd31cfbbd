use Rattle.std.proofs.Common.{List, [], ◌∷◌, ◌++◌, arith, sym, ap, ◌∙◌}
use Rattle.link_rules.specs.declared.plan_connections.StreamConnection.{StreamConnection}
use Rattle.link_rules.specs.PlanConnections.{stream_connection}
use Rattle.link_rules.proofs.StreamLemmas.{zeros, made_more, made_no_more}
use Rattle.link_rules.proofs.plan_connections.stream_connections.Goals as goal
use Rattle.link_rules.proofs.plan_connections.stream_connections.Goals.{in-Some+in_ok-push, in_default}

pub loop-k-preserved : goal.loop-k-preserved
loop-k-preserved c =
    let system = c.args.system.now in
    let connections = c.connections-connections.result.now in
    let k = c.loop-k.k in
    elim c.match-stream_connection.branch [
      | in-Some+in_ok-push w ↦
          w.links-is ∙ w.in_ok-push.ensures.ok ∙ ap (λ (l : List StreamConnection). l ++ w.in-Some.link ∷ []) c.loop-k.invariant
          ∙ made_more (stream_connection system) connections k zeros w.in-Some.link (omega arith) (sym c.stream_connection.ensures ∙ w.in-Some.is)
      | in_default w ↦ w.links-is ∙ c.loop-k.invariant ∙ made_no_more (stream_connection system) connections k zeros (omega arith) (sym c.stream_connection.ensures ∙ w.in_default.is)
    ]
