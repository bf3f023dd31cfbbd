-- The promise at the ports is broken.
use Rattle.std.proofs.Common.{arith, refl}
use Rattle.memory_runs.specs.Order.{ServesInGrantedOrder, KeepsReadOrder}
use Rattle.runs_tests.specs.Faults.{laneless_system, laneless_run, split_system, split_run}

pub laneless_is_not : ServesInGrantedOrder laneless_system laneless_run 0 1 → ⊥
laneless_is_not o = let bad = o.in_order 1 0 (omega arith) (omega arith) in let e = bad.joins in cc

pub split_is_not : KeepsReadOrder split_system split_run 0 0 2 → ⊥
split_is_not l = let bad = l 1 0 (omega arith) (omega arith) refl (omega arith) in omega arith
