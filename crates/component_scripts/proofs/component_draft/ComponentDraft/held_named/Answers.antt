use Rattle.std.proofs.Common.{sym, ◌∙◌}
use Rattle.component_scripts.proofs.ComponentDraftLemmas.{held_named-none, held_named-some}
use Rattle.component_scripts.proofs.component_draft.ComponentDraft.held_named.Goals as goal

pub returns-in_err-k : goal.returns-in_err-k
returns-in_err-k c =
    rw (← c.self.view_is) (c.from_residual.ensures ∙ sym (held_named-none c.self.inside.names c.self.inside.interfaces.items c.args.name.now c.self.invariant.all (sym c.in_err-k.ensures)))

pub returns : goal.returns
returns c =
    rw (← c.self.view_is) (sym (held_named-some c.self.inside.names c.self.inside.interfaces.items c.args.name.now c.in_ok-k.k c.index.result.now c.self.invariant.all (sym c.in_ok-k.ensures) c.index.ensures))
