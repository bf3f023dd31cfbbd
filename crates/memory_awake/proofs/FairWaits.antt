-- Where a host waits for its last command alone, all its unfinished commands are for one agent.
use Rattle.std.proofs.Common.{ℕ, zero, suc, ◌<◌, ◌≤◌, ◌≡◌, ◌+◌, ◌-◌, Bool, true, false, not, ◌||◌, ◌&&◌, arith, refl, subst, nat_eq, nat_le, IsTrue, IsFalse, Some, tests}
use Rattle.std.specs.List.{list_all}
use Rattle.histories.specs.History.{numbers}
use Rattle.memory_runs.specs.Views.{System, Run}
use Rattle.memory_runs.specs.Awake.{commands_begun, is_for, is_finished, is_unfinished, has_no_operation, asks_only}
use Rattle.memory_runs.specs.Commands.{shows}
use Rattle.memory_machines.specs.Link.{Port}
use Rattle.memory_awake.specs.Fair.{WaitsAlone}
use Rattle.memory_awake.specs.Wires.{IsWire}
use Rattle.memory_awake.proofs.Numbers.{each_holds}
use Rattle.memory_awake.proofs.Widened.{wire_stays}

all_hold : (test : ℕ → Bool) (first count : ℕ) → ((k : ℕ) → first ≤ k → k < first + count → IsTrue (test k)) → IsTrue (list_all test (numbers first count))
all_hold test first zero each = refl
all_hold test first (suc count) each =
    both (each first (omega arith) (omega arith)) (all_hold test (suc first) count (λ k low high. each k (omega (arith, low)) (omega (arith, high))))
  where
    both : {a b : Bool} → IsTrue a → IsTrue b → IsTrue (a && b)
    both {a = a} {b = b} s t = grind (arith, tests, s, t)

done : (a b f r : Bool) → IsTrue f → IsTrue (not (a && b && not f) || r)
done true true true r h = refl
done true false true r h = refl
done false b true r h = refl
done a b false r h = absurd cc

its : (u p o : Bool) → IsTrue p → IsFalse o → IsTrue (not u || (p && not o))
its true true false a b = refl
its false true false a b = refl
its u true true a b = absurd cc
its u false o a b = absurd cc

pub waits_only : (system : System) (run : Run) (agent host c : ℕ) → WaitsAlone system run agent host c → IsTrue (asks_only system run host agent c)
waits_only system run agent host c waits = all_hold test 1 last each
  where
    last : ℕ
    last = commands_begun system run host (suc c)

    test : ℕ → Bool
    test number = not (is_unfinished system run host number c) || (is_for system run host (Some agent) number (suc c) && not (has_no_operation system run host number (suc c)))

    by_last : (k : ℕ) → 1 ≤ k → k < 1 + last → (b : Bool) → nat_eq last k ≡ b → IsTrue (test k)
    by_last k low high true e =
        let same : last ≡ k = grind (arith, tests, e) in
        subst (λ n. IsTrue (test n)) same (its (is_unfinished system run host last c) (is_for system run host (Some agent) last (suc c)) (has_no_operation system run host last (suc c)) waits.presented waits.operation)
    by_last k low high false e =
        let before : k < last = grind (arith, tests, e, high) in
        done (nat_le 1 k) (nat_le k last) (is_finished system run host k c) _ (each_holds (λ earlier. is_finished system run host earlier c) 1 (last - 1) k waits.earlier low (omega (arith, before)))

    each : (k : ℕ) → 1 ≤ k → k < 1 + last → IsTrue (test k)
    each k low high = by_last k low high (nat_eq last k) refl

-- a host that is wired to the arbiter asks there
pub asks_by : (presented taken taken_top : ℕ) (port top : Port) (c : ℕ) → IsWire top port → taken ≡ taken_top → (IsFalse (shows top.commands.signals c) → presented ≤ taken_top) → taken < presented → IsTrue (shows port.commands.signals c)
asks_by presented taken taken_top port top c wire same all untaken = wire_stays top port wire (λ p. IsTrue (shows p.commands.signals c)) (by_shown (shows top.commands.signals c) refl)
  where
    by_shown : (b : Bool) → shows top.commands.signals c ≡ b → IsTrue b
    by_shown true e = refl
    by_shown false e = let few = all e in absurd (omega (arith, few, same, untaken))
