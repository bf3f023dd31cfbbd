use Rattle.std.proofs.Common.{◌≡◌, None, ap, ◌∙◌, subst}
use Rattle.std.proofs.lemmas.Result.{err_from_is_err_and}
use Rattle.script_words.specs.Words.{IsRefusal}
use Rattle.system_scripts.specs.Clocks.{system_over, ended_system}
use Rattle.system_scripts.specs.System.{empty_system_draft, first_system_refusal, system_after_all}
use Rattle.system_scripts.proofs.EndingLemmas.{read_is_sound, system_over-ended, system_over-refused, made_of_tables}
use Rattle.system_scripts.proofs.system_draft.SystemDraft.take_file.Goals as goal

-- nothing refuses the commands, and the draft is what they state
clean : (c : goal.After-tables) → first_system_refusal c.args.library.now empty_system_draft c.args.commands.now.commands ≡ None
clean c = subst (λ d. first_system_refusal c.args.library.now d c.args.commands.now.commands ≡ None) c.requires c.in_ok-take_all.ensures.accepted

stated : (c : goal.After-tables) → c.take_all.new.self ≡ system_after_all c.args.library.now empty_system_draft c.args.commands.now.commands
stated c = c.in_ok-take_all.ensures.stated ∙ ap (λ d. system_after_all c.args.library.now d c.args.commands.now.commands) c.requires

same : (c : goal.After-tables) → system_over c.args.library.now c.args.commands.now ≡ ended_system c.end.result c.args.library.now c.take_all.new.self c.take_all.new.self.name
same c = system_over-ended c.args.library.now c.args.commands.now c.take_all.new.self c.end.result (clean c) (stated c) c.end.ensures

pub returns-clause-system : goal.returns-clause-system
returns-clause-system c =
    let sound = read_is_sound c.args.library.now c.args.commands.now.commands c.take_all.new.self (clean c) (stated c) in
    made_of_tables c.args.library.now c.take_all.new.self c.args.commands.now c.end.result c.tables.result sound (same c) c.tables.ensures.components c.tables.ensures.made c.tables.ensures.connections

pub returns-clause-refused : goal.returns-clause-refused
returns-clause-refused c = rw (same c) c.tables.ensures.refused

pub returns-in_err-take_all-clause-refused : goal.returns-in_err-take_all-clause-refused
returns-in_err-take_all-clause-refused c =
    let p = err_from_is_err_and c.from_residual.result c.from_residual.ensures.1 in
    let fault = c.in_err-take_all.field-0.0 in
    rw (p.1, p.2) (system_over-refused c.args.library.now c.args.commands.now fault
    (subst (λ d. IsRefusal fault (first_system_refusal c.args.library.now d c.args.commands.now.commands)) c.requires c.in_err-take_all.ensures.refused))
