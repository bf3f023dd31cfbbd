use Rattle.std.proofs.Common.{◌<◌, ◌^◌, ◌∙◌, sym, subst, length, List, ℕ}
use Rattle.std.specs.Prelude.{All}
use Rattle.system_tables.specs.Tables.{SystemTable}
use Rattle.system_plan.specs.Plans.{IsAccepted, IsPlanned}
use Rattle.workload_systems.specs.Workloads.{IsWorkload}
use Rattle.workload_systems.proofs.files.workload_plan.Goals as goal

pub plan_of-requires-clause-short : goal.plan_of-requires-clause-short
plan_of-requires-clause-short c =
    let P : List (List ℕ) → Type 0 = λ files. All (λ bytes. length bytes < 2 ^ 31) files in
    subst P (sym (c.as_slice.ensures ∙ c.in_ok-files.ensures)) (c.workloads_are_accepted.ensures.short c.args.number)

pub returns-in-Ok-clause-planned : goal.returns-in-Ok-clause-planned
returns-in-Ok-clause-planned c =
    let P : List (List ℕ) → Type 0 = λ files. IsPlanned files c.in-Ok.plan in
    subst P (c.as_slice.ensures ∙ c.in_ok-files.ensures) c.in-Ok.ensures.accepted

pub returns-in-Ok-clause-workload : goal.returns-in-Ok-clause-workload
returns-in-Ok-clause-workload c =
    let P : List (List ℕ) → Type 0 = λ files. (is : IsAccepted files) × IsWorkload c.args.number is.system in
    let told = subst P (sym (c.as_slice.ensures ∙ c.in_ok-files.ensures)) (c.workloads_are_accepted.ensures.workload c.args.number) in
    let Q : SystemTable → Type 0 = IsWorkload c.args.number in
    subst Q (sym (c.in-Ok.ensures.only_plan told.0)) told.1

pub want_of_memory-requires : goal.want_of_memory-requires
want_of_memory-requires c =
    c.in-Err.ensures.only_plan (subst IsAccepted (sym (c.as_slice.ensures ∙ c.in_ok-files.ensures)) (c.workloads_are_accepted.ensures.accepted c.args.number))
