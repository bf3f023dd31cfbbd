use Rattle.std.proofs.Common.{ℕ, Bool, List, [], ◌∷◌, ◌++◌, Option, Some, None, if◌then◌else◌, arith, sym, ap, ◌∙◌}
use Rattle.system_tables.specs.declared.tables.Connection.{Connection}
use Rattle.link_rules.specs.Links.{is_stream}
use Rattle.link_rules.proofs.StreamLemmas.{zeros, made_more, made_no_more}
use Rattle.link_rules.proofs.links.streams.Goals as goal
use Rattle.link_rules.proofs.links.streams.Goals.{then-is_stream+in_ok-push, else-is_stream}

abbrev number : ℕ × Connection → Option ℕ
number numbered = if is_stream numbered.1.kind then Some numbered.0 else None

pub loop-k-preserved : goal.loop-k-preserved
loop-k-preserved c =
    let connections = c.connections-connections.result.now in
    let k = c.loop-k.k in
    elim c.if-is_stream.branch [
      | then-is_stream+in_ok-push w ↦
          w.numbers-is ∙ w.in_ok-push.ensures.ok ∙ ap (λ (l : List ℕ). l ++ k ∷ []) c.loop-k.invariant
          ∙ made_more number connections k zeros k (omega arith) (ap (λ (b : Bool). if b then Some k else None) (sym c.is_stream.ensures ∙ w.if-is_stream.true))
      | else-is_stream w ↦
          w.numbers-is ∙ c.loop-k.invariant ∙ made_no_more number connections k zeros (omega arith) (ap (λ (b : Bool). if b then Some k else None) (sym c.is_stream.ensures ∙ w.if-is_stream.false))
    ]
