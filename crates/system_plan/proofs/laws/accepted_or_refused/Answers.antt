use Rattle.system_plan.proofs.EitherLemmas.{accepted_or_refused}
use Rattle.system_plan.proofs.PlanLemmas.{accepted-unrefused, refusal_once}
use Rattle.system_plan.proofs.ScriptLemmas.{Readings}
use Rattle.system_plan.proofs.SystemLemmas.{system_once}
use Rattle.system_plan.proofs.laws.accepted_or_refused.Goals as goal

readings : goal.After-spelled_or_faulty → Readings
readings c = record { one = c.no_two_readings.ensures; clean = c.spelled_or_faulty.ensures.never_both }

pub returns-clause-either : goal.returns-clause-either
returns-clause-either c = λ files some. accepted_or_refused c.spelled_or_faulty.ensures.either files some

pub returns-clause-never_both : goal.returns-clause-never_both
returns-clause-never_both c = λ files accepted refusal refused. accepted-unrefused (readings c) files accepted refusal refused

pub returns-clause-one_system : goal.returns-clause-one_system
returns-clause-one_system c = λ files one other. system_once (readings c) files one.system other.system one.stated other.stated

pub returns-clause-one_refusal : goal.returns-clause-one_refusal
returns-clause-one_refusal c = λ files one other a b. refusal_once (readings c) files one other a b
