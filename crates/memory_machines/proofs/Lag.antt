-- What was shown and isn't wholly taken is what was accepted and isn't, and at most the beat that stands.
use Rattle.std.proofs.Common.{ℕ, zero, suc, ◌≤◌, ◌+◌, ◌-◌, [], ◌∷◌, ◌++◌, List, Bool, true, false, arith, sym, ap, ◌∙◌, subst, append-nil, length, tests}
use Rattle.std.proofs.lemmas.List.{map-append}
use Rattle.histories.specs.Laws.{shown_is_accepted_and_standing}
use Rattle.histories.specs.History.{standing, unreached, only_if, stands_on}
use Rattle.memory_runs.specs.Commands.{shows}
use Rattle.memory_machines.specs.Link.{Target, Port, Marked, AreLegalAt, shown_at, taken_at, sizes, takes, marked_at, operations_in}
use Rattle.memory_machines.specs.SideLaws.{marked_keeps}

one_more : (xs : List ℕ) (x n : ℕ) → unreached (xs ++ x ∷ []) n ≤ unreached xs n + 1
one_more [] x n = grind (arith, tests)
one_more (y ∷ ys) x n = let rest = one_more ys x (n - y) in omega (arith, rest)

standing_is_one : (target : Target) (port : Port) (taken : List ℕ) (n c : ℕ) →
    unreached (taken ++ sizes target port.shape (standing (shows port.commands.signals) (takes port) (marked_at port) c)) n ≤ unreached taken n + 1
standing_is_one target port taken n zero = rw append-nil (omega arith)
standing_is_one target port taken n (suc c) = by_test (stands_on (shows port.commands.signals) (takes port) c)
  where
    by_test : (b : Bool) → unreached (taken ++ sizes target port.shape (only_if b (marked_at port c))) n ≤ unreached taken n + 1
    by_test true = one_more taken (length (operations_in target port.shape (marked_at port c))) n
    by_test false = rw append-nil (omega arith)

pub shown_lag : (target : Target) (port : Port) (end c n : ℕ) → AreLegalAt port end → c ≤ end →
    unreached (sizes target port.shape (shown_at port c)) n ≤ unreached (sizes target port.shape (taken_at port c)) n + 1
shown_lag target port end c n legal h =
    let all = shown_is_accepted_and_standing (shows port.commands.signals) (takes port) (marked_at port) end c (marked_keeps port end legal) h in
    let split = ap (sizes target port.shape) all ∙ map-append (λ (m : Marked). length (operations_in target port.shape m)) (taken_at port c) (standing (shows port.commands.signals) (takes port) (marked_at port) c) in
    subst (λ l. unreached l n ≤ unreached (sizes target port.shape (taken_at port c)) n + 1) (sym split) (standing_is_one target port (sizes target port.shape (taken_at port c)) n c)
