use Rattle.std.proofs.Common.{length, sym, subst}
use Rattle.std.proofs.lemmas.Result.{err_from_is_err_and}
use Rattle.task_words.specs.declared.Task.{Task}
use Rattle.task_words.specs.declared.Task.TheVariants.{Generate, Check, Replay, Dump, Undump, Campaign, Workload, Module}
use Rattle.task_words.specs.Words.{AreItsFiles}
use Rattle.avalon_top.specs.Bridge.{HasBridgeCycles}
use Rattle.avalon_top.specs.Loading.{StopsFiles}
use Rattle.avalon_top.proofs.OutcomeLemmas.{same_result, stops_same}
use Rattle.avalon_top.proofs.answer.outcome_of.Goals as goal
use Rattle.avalon_top.proofs.answer.outcome_of.Goals.{in-Generate+in_ok-text-in-Generate, in-Check+in_ok-text-in-Check, in-Replay+in_ok-text-in-Replay, in-Dump+in_ok-text-in-Dump, in-Undump+in_ok-text-in-Undump, in-Workload+in_ok-text-in-Workload, in-Module+in_ok-text-in-Module}

pub returns-in_err-simulation-in-Simulate-clause-stops :
    goal.returns-in_err-simulation-in-Simulate-clause-stops
returns-in_err-simulation-in-Simulate-clause-stops c =
    let handed = err_from_is_err_and c.from_residual.result c.from_residual.ensures.1 in
    rw (handed.1, handed.2)
    (subst (λ (t : Task). StopsFiles t c.args.files.items c.in_err-simulation-in-Simulate.field-0.0) (sym c.in-Simulate.is) c.in_err-simulation-in-Simulate.ensures.stops)

pub returns-in_err-campaign-in-Campaign-clause-stops : goal.returns-in_err-campaign-in-Campaign-clause-stops
returns-in_err-campaign-in-Campaign-clause-stops c =
    let handed = err_from_is_err_and c.from_residual-in_err-campaign-in-Campaign.result c.from_residual-in_err-campaign-in-Campaign.ensures.1 in
    rw (handed.1, handed.2)
    (stops_same c.args.task (Campaign c.in-Campaign.number) c.args.files.items c.as_slice.result.now c.in_err-campaign-in-Campaign.field-0.0 c.in-Campaign.is c.as_slice.ensures.value
    c.in_err-campaign-in-Campaign.ensures.stops)

pub replies_of-requires-clause-some_cycles : goal.replies_of-requires-clause-some_cycles
replies_of-requires-clause-some_cycles c = (subst HasBridgeCycles c.in-Bridge.is c.requires.cycles).some

pub replies_of-requires-clause-few_cycles : goal.replies_of-requires-clause-few_cycles
replies_of-requires-clause-few_cycles c = (subst HasBridgeCycles c.in-Bridge.is c.requires.cycles).few

pub returns-in_err-replies_of-in-Bridge-clause-stops : goal.returns-in_err-replies_of-in-Bridge-clause-stops
returns-in_err-replies_of-in-Bridge-clause-stops c =
    let handed = err_from_is_err_and c.from_residual-in_err-replies_of-in-Bridge.result c.from_residual-in_err-replies_of-in-Bridge.ensures.1 in
    rw (handed.1, handed.2)
    (subst (λ (t : Task). StopsFiles t c.args.files.items c.in_err-replies_of-in-Bridge.field-0.0) (sym c.in-Bridge.is) c.in_err-replies_of-in-Bridge.ensures.stops)

pub returns-in_err-text-in-Generate-clause-stops : goal.returns-in_err-text-in-Generate-clause-stops
returns-in_err-text-in-Generate-clause-stops c =
    let handed = err_from_is_err_and c.from_residual-in_err-text-in-Generate.result c.from_residual-in_err-text-in-Generate.ensures.1 in
    rw (handed.1, handed.2) (stops_same c.args.task Generate c.args.files.items c.as_slice-in-Generate.result.now c.in_err-text-in-Generate.field-0.0 c.in-Generate.is c.as_slice-in-Generate.ensures.value c.in_err-text-in-Generate.ensures.stops)

pub returns-in_err-text-in-Check-clause-stops : goal.returns-in_err-text-in-Check-clause-stops
returns-in_err-text-in-Check-clause-stops c =
    let handed = err_from_is_err_and c.from_residual-in_err-text-in-Check.result c.from_residual-in_err-text-in-Check.ensures.1 in
    rw (handed.1, handed.2) (stops_same c.args.task Check c.args.files.items c.as_slice-in-Check.result.now c.in_err-text-in-Check.field-0.0 c.in-Check.is c.as_slice-in-Check.ensures.value c.in_err-text-in-Check.ensures.stops)

pub returns-in_err-text-in-Replay-clause-stops : goal.returns-in_err-text-in-Replay-clause-stops
returns-in_err-text-in-Replay-clause-stops c =
    let handed = err_from_is_err_and c.from_residual-in_err-text-in-Replay.result c.from_residual-in_err-text-in-Replay.ensures.1 in
    rw (handed.1, handed.2) (stops_same c.args.task Replay c.args.files.items c.as_slice-in-Replay.result.now c.in_err-text-in-Replay.field-0.0 c.in-Replay.is c.as_slice-in-Replay.ensures.value c.in_err-text-in-Replay.ensures.stops)

pub returns-in_err-text-in-Dump-clause-stops : goal.returns-in_err-text-in-Dump-clause-stops
returns-in_err-text-in-Dump-clause-stops c =
    let handed = err_from_is_err_and c.from_residual-in_err-text-in-Dump.result c.from_residual-in_err-text-in-Dump.ensures.1 in
    rw (handed.1, handed.2) (stops_same c.args.task Dump c.args.files.items c.as_slice-in-Dump.result.now c.in_err-text-in-Dump.field-0.0 c.in-Dump.is c.as_slice-in-Dump.ensures.value c.in_err-text-in-Dump.ensures.stops)

pub returns-in_err-text-in-Undump-clause-stops : goal.returns-in_err-text-in-Undump-clause-stops
returns-in_err-text-in-Undump-clause-stops c =
    let handed = err_from_is_err_and c.from_residual-in_err-text-in-Undump.result c.from_residual-in_err-text-in-Undump.ensures.1 in
    rw (handed.1, handed.2) (stops_same c.args.task Undump c.args.files.items c.as_slice-in-Undump.result.now c.in_err-text-in-Undump.field-0.0 c.in-Undump.is c.as_slice-in-Undump.ensures.value c.in_err-text-in-Undump.ensures.stops)

pub module_text-requires : goal.module_text-requires
module_text-requires c = (subst (λ (t : Task). AreItsFiles t (length c.args.files.items)) c.in-Module.is c.requires.enough).enough.1

pub returns-clause-outcome : goal.returns-clause-outcome
returns-clause-outcome c =
    let task = c.args.task in
    let files = c.args.files.items in
    let text = c.match-task.text in
    elim c.match-task.branch [
      | in-Generate+in_ok-text-in-Generate w ↦
          same_result task Generate files text w.in_ok-text-in-Generate.text w.in-Generate.is w.text-is (rw w.as_slice-in-Generate.ensures.value at w.in_ok-text-in-Generate.ensures.result)
      | in-Check+in_ok-text-in-Check w ↦
          same_result task Check files text w.in_ok-text-in-Check.text w.in-Check.is w.text-is (rw w.as_slice-in-Check.ensures.value at w.in_ok-text-in-Check.ensures.result)
      | in-Replay+in_ok-text-in-Replay w ↦
          same_result task Replay files text w.in_ok-text-in-Replay.text w.in-Replay.is w.text-is (rw w.as_slice-in-Replay.ensures.value at w.in_ok-text-in-Replay.ensures.result)
      | in-Dump+in_ok-text-in-Dump w ↦
          same_result task Dump files text w.in_ok-text-in-Dump.text w.in-Dump.is w.text-is (rw w.as_slice-in-Dump.ensures.value at w.in_ok-text-in-Dump.ensures.result)
      | in-Undump+in_ok-text-in-Undump w ↦
          same_result task Undump files text w.in_ok-text-in-Undump.text w.in-Undump.is w.text-is (rw w.as_slice-in-Undump.ensures.value at w.in_ok-text-in-Undump.ensures.result)
      | in-Module+in_ok-text-in-Module w ↦
          same_result task (Module w.in-Module.wanted) files text w.in_ok-text-in-Module.text w.in-Module.is w.text-is
          (record { is_text = w.in_ok-text-in-Module.ensures.result.is_text; only = w.in_ok-text-in-Module.ensures.result.only })
      | in-Workload+in_ok-text-in-Workload w ↦
          same_result task (Workload w.in-Workload.number) files text w.in_ok-text-in-Workload.text w.in-Workload.is w.text-is
          (record { is_text = w.in_ok-text-in-Workload.ensures.result.is_text; only = w.in_ok-text-in-Workload.ensures.result.only })
    ]
