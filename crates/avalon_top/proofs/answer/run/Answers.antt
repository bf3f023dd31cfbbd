use Rattle.avalon_top.proofs.AnswerLemmas.{completes}
use Rattle.avalon_top.proofs.OutcomeLemmas.{ended, ended_line, ended_well}
use Rattle.avalon_top.proofs.answer.run.Goals as goal

pub returns-in-Ok-clause-answers : goal.returns-in-Ok-clause-answers
returns-in-Ok-clause-answers g c = ended _ _ _ c.in-Ok.outcome c.write_outcome.result c.in-Ok.ensures.outcome c.write_outcome.ensures.ends

pub returns-in-Ok-clause-line : goal.returns-in-Ok-clause-line
returns-in-Ok-clause-line g c = ended_line _ _ _ c.in-Ok.outcome c.write_outcome.result c.in-Ok.ensures.outcome c.write_outcome.ensures.ends

pub returns-in-Ok-clause-complete : goal.returns-in-Ok-clause-complete
returns-in-Ok-clause-complete g c = ended_well _ _ _ c.in-Ok.outcome c.write_outcome.result c.in-Ok.ensures.outcome c.write_outcome.ensures.ends

pub returns-in-Err-clause-complete : goal.returns-in-Err-clause-complete
returns-in-Err-clause-complete g c = completes _ _ _ c.in-Err.exit c.in-Err.ensures.stops
