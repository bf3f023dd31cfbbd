use Rattle.std.proofs.Common.{◌≡◌, ◌≤◌, Some, ap, sym, ◌∙◌, arith}
use Rattle.script_words.specs.Numbers.{number_of}
use Rattle.script_words.specs.Words.{text_at}
use Rattle.system_scripts.proofs.SystemDraftLemmas.{stages_are_few}
use Rattle.system_scripts.proofs.system_draft.SystemDraft.state_requirement.Goals as goal

pub overflow_cast-self : goal.overflow_cast-self
overflow_cast-self c =
    let is : number_of (text_at c.args.words.now 3) ≡ Some c.in-Some.number = ap number_of (sym c.text.ensures) ∙ sym c.in-Some.ensures in
    let few : c.in-Some.number ≤ 4 = stages_are_few c.args.self.now c.args.words.now c.in-Some.number c.requires (sym c.sets_stages.ensures ∙ c.if-sets_stages.true) is in
    omega arith
