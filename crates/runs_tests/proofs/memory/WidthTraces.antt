-- A burst that an agent reads in two, one that wraps, and bursts that are too long or out of order.
use Rattle.std.proofs.Common.{[], ◌∷◌, arith, refl}
use Rattle.memory_runs.specs.Legal.{IsProperAtAgent}
use Rattle.memory_runs.specs.Order.{ServesInGrantedOrder}
use Rattle.runs_tests.specs.Examples.{wide_system, wrap_run}
use Rattle.runs_tests.specs.WidthRows.{short_agent, short_system, bursts_read, parts_run}
use Rattle.runs_tests.proofs.memory.Traces.{ordered_of_each}

pub parts_are : ServesInGrantedOrder short_system (parts_run (0 ∷ 4 ∷ []) (4 ∷ 4 ∷ [])) 0 2
parts_are = ordered_of_each short_system (parts_run (0 ∷ 4 ∷ []) (4 ∷ 4 ∷ [])) 0 2
    ((tt, λ _. refl), λ _. refl)
    (((tt, ((tt, record { rest = _; joins = refl }), record { rest = _; joins = refl })), ((tt, record { rest = _; joins = refl }), record { rest = _; joins = refl })), ((tt, record { rest = _; joins = refl }), record { rest = _; joins = refl }))
    (((tt, refl), refl), refl)
    (((tt, ((tt, omega arith), omega arith)), ((tt, omega arith), omega arith)), ((tt, omega arith), omega arith))

pub wrapped_is : ServesInGrantedOrder wide_system wrap_run 0 4
wrapped_is = ordered_of_each wide_system wrap_run 0 4
    ((((tt, λ _. refl), λ _. refl), λ _. refl), λ _. refl)
    (((((tt, ((tt, record { rest = _; joins = refl }), record { rest = _; joins = refl })), ((tt, record { rest = _; joins = refl }), record { rest = _; joins = refl })), ((tt, record { rest = _; joins = refl }), record { rest = _; joins = refl })), ((tt, record { rest = _; joins = refl }), record { rest = _; joins = refl })), ((tt, record { rest = _; joins = refl }), record { rest = _; joins = refl }))
    (((((tt, refl), refl), refl), refl), refl)
    (((((tt, ((tt, omega arith), omega arith)), ((tt, omega arith), omega arith)), ((tt, omega arith), omega arith)), ((tt, omega arith), omega arith)), ((tt, omega arith), omega arith))

pub turned_is_not : ServesInGrantedOrder short_system (parts_run (4 ∷ 0 ∷ []) (4 ∷ 4 ∷ [])) 0 2 → ⊥
turned_is_not o = let bad = o.in_order 1 0 (omega arith) (omega arith) in let e = bad.joins in cc

pub too_long_is_not : IsProperAtAgent short_agent (bursts_read (0 ∷ 5 ∷ []) (5 ∷ 3 ∷ [])) 1 → ⊥
too_long_is_not p = let bad = p.legal.most 0 (omega arith) refl refl in omega (arith, bad)
