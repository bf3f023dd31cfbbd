use Rattle.std.proofs.Common.{sym, ap, Some, ◌∙◌}
use Rattle.script_words.specs.declared.faults.ScriptRule.TheVariants.{Interface}
use Rattle.component_scripts.proofs.RuleLemmas.{not_refused, refused_by_clock, refused_by_rule}
use Rattle.component_scripts.proofs.component_draft.ComponentDraft.finished.Goals as goal
use Rattle.component_scripts.proofs.component_draft.ComponentDraft.finished.Goals.{in-Ok-2, in-Err}

pub returns-in-Ok-clause-accepted : goal.returns-in-Ok-clause-accepted
returns-in-Ok-clause-accepted c =
    (not_refused c.args.self.now.interfaces c.args.declared.now c.in-Ok.ensures.accepted.0 (sym c.lacks_clock.ensures ∙ c.if-not-lacks_clock.true), c.in-Ok.ensures.accepted.1)

pub returns-clause-refused : goal.returns-clause-refused
returns-clause-refused c =
    elim c.match-finish.branch [
      | in-Ok-2 w ↦ refused_by_clock c.args.self.now.interfaces c.args.declared.now w.in-Ok-2.ensures.accepted.0 (sym w.lacks_clock.ensures ∙ w.if-not-lacks_clock.false) ∙ ap (λ rule. Some (record { place = c.args.declared.now.place; rule = Interface rule })) (sym w.rule-is)
      | in-Err w ↦ refused_by_rule c.args.self.now.interfaces c.args.declared.now c.match-finish.rule (rw w.rule-is w.in-Err.ensures.refused)
    ]
