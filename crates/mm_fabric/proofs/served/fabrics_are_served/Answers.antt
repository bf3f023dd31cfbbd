use Rattle.std.proofs.Common.{◌+◌}
use Rattle.memory_runs.specs.Views.Responses.{AreCodes}
use Rattle.memory_plans.specs.Systems.{memory_system}
use Rattle.mm_fabric.specs.Fabrics.{seen_in}
use Rattle.mm_fabric.proofs.served.fabrics_are_served.Goals as goal

pub returns-clause-safe : goal.returns-clause-safe
returns-clause-safe c = λ plan is_plan netlist fabric is longer extends run endless end legal.
    let linked = c.fabrics_are_fairly_linked.ensures plan is_plan netlist fabric is longer extends run endless end legal in
    c.machines_with_links_are_awake.ensures.safe AreCodes (memory_system plan) (seen_in plan fabric run) linked.0 linked.1 end linked.2 linked.3 linked.4 legal

pub returns-clause-awake : goal.returns-clause-awake
returns-clause-awake c = λ plan is_plan netlist fabric is longer extends run endless end legal.
    let linked = c.fabrics_are_fairly_linked.ensures plan is_plan netlist fabric is longer extends run endless (end + 2) legal in
    c.machines_with_links_are_awake.ensures.awake AreCodes (memory_system plan) (seen_in plan fabric run) linked.0 linked.1 end linked.2 linked.3 linked.4 legal

pub returns-clause-moves : goal.returns-clause-moves
returns-clause-moves c = λ plan is_plan netlist fabric is longer extends run endless end legal.
    let linked = c.fabrics_are_fairly_linked.ensures plan is_plan netlist fabric is longer extends run endless (end + 2) legal in
    c.no_host_hangs.ensures AreCodes (memory_system plan) (seen_in plan fabric run) linked.0 linked.1 end linked.2 linked.3 linked.4 legal

pub returns-clause-accepts : goal.returns-clause-accepts
returns-clause-accepts c = λ plan is_plan netlist fabric is longer extends run endless end legal.
    let linked = c.fabrics_are_fairly_linked.ensures plan is_plan netlist fabric is longer extends run endless (end + 2) legal in
    c.alike_hosts_are_accepted.ensures AreCodes (memory_system plan) (seen_in plan fabric run) linked.0 linked.1 end linked.2 linked.3 linked.4 legal

pub returns-clause-fair : goal.returns-clause-fair
returns-clause-fair c = λ plan is_plan netlist fabric is longer extends run endless end legal.
    let linked = c.fabrics_are_fairly_linked.ensures plan is_plan netlist fabric is longer extends run endless end legal in
    c.machines_with_links_are_fair.ensures AreCodes (memory_system plan) (seen_in plan fabric run) linked.0 linked.1 end linked.2 linked.3 linked.4 legal (λ agent there. c.plans_are_apart.ensures plan is_plan agent) linked.6

pub returns-clause-packed : goal.returns-clause-packed
returns-clause-packed c = λ plan is_plan netlist fabric is longer extends run endless end legal.
    let linked = c.fabrics_are_fairly_linked.ensures plan is_plan netlist fabric is longer extends run endless end legal in
    c.packed_systems_read_words_once.ensures AreCodes (memory_system plan) (seen_in plan fabric run) linked.0 linked.1 end linked.2 linked.3 linked.4 linked.5 legal
