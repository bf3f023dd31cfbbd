use Rattle.std.proofs.Common.{refl, sym}
use Rattle.simulations.specs.Traces.{run_ends}
use Rattle.simulations.proofs.Simulating.{counted_run, counts_on}
use Rattle.simulations.proofs.counting.counts_go_on.Goals as goal

pub returns-clause-first : goal.returns-clause-first
returns-clause-first c = λ plan scenario run bench set way. record {
  run = run;
  netlist_is = refl;
  set = set;
  under_way = way;
  counted = sym (c.counts_grow_by_cycles.ensures.first (run_ends plan bench.sim.netlist run));
}

pub returns-clause-next : goal.returns-clause-next
returns-clause-next c = λ plan scenario netlist k bench evaluated after counts result so_far same is same_after way more.
    counts_on c.counts_grow_by_cycles.ensures.first c.counts_grow_by_cycles.ensures.next c.cycles_are_told.ensures.counted c.earlier_cycles_are_told.ensures.counted plan scenario netlist k bench evaluated after counts result so_far
    (record { set = so_far.set; same = same; evaluated_is = is; same_after = same_after; under_way = way }) more

pub returns-clause-whole : goal.returns-clause-whole
returns-clause-whole c = λ plan scenario netlist k bench counts so_far last. counted_run plan scenario netlist k bench counts so_far last
