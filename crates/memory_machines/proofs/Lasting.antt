-- Work goes away by a move alone.
use Rattle.std.proofs.Common.{ℕ, suc, ◌≤◌, ◌≡◌, Bool, true, false, not, ◌||◌, ◌&&◌, arith, refl, sym, ap, ◌∙◌, subst, nat_lt, length, IsTrue, IsFalse, tests, append-nil}
use Rattle.std.proofs.lemmas.Bool.{and_parts}
use Rattle.memory_runs.specs.Views.{Levels}
use Rattle.histories.specs.History.{IsPrefix, is_raised}
use Rattle.memory_runs.specs.Commands.{is_held, shows}
use Rattle.memory_machines.specs.Link.{Target, Port, AreLegalAt, takes, taken_at, shown_at, operations_among, operations_in, words_at, is_last_joined}
use Rattle.histories.specs.Laws.{before_extends, prefix_flat_map, prefix_length}

shown_extends : (port : Port) (c : ℕ) → IsPrefix (shown_at port c) (shown_at port (suc c))
shown_extends port c = before_extends _ c

-- nothing is added in a cycle in which nothing is taken
none_taken : (port : Port) (c : ℕ) → IsFalse (takes port c) → taken_at port (suc c) ≡ taken_at port c
none_taken port c none = rw none (append-nil (taken_at port c))

none_answered : (port : Port) (c : ℕ) → IsFalse (is_raised (port.answers.valid c)) → words_at port (suc c) ≡ words_at port c
none_answered port c none = rw none (append-nil (words_at port c))

pub four_cases : (a b c d : Bool) {R : Type 0} → IsTrue (a || b || c || d) → (IsTrue a → R) → (IsTrue b → R) → (IsTrue c → R) → (IsTrue d → R) → R
four_cases true b c d h fa fb fc fd = fa refl
four_cases false true c d h fa fb fc fd = fb refl
four_cases false false true d h fa fb fc fd = fc refl
four_cases false false false true h fa fb fc fd = fd refl
four_cases false false false false h fa fb fc fd = absurd cc

pub first_of : (a b c d : Bool) → IsTrue a → IsTrue (a || b || c || d)
first_of a b c d h = grind (arith, tests)

pub second_of : (a b c d : Bool) → IsTrue b → IsTrue (a || b || c || d)
second_of a b c d h = grind (arith, tests)

lt_grows : (n m k : ℕ) → IsTrue (nat_lt n m) → m ≤ k → IsTrue (nat_lt n k)
lt_grows n m k h less = grind (arith, tests)

still_held : (s t : Bool) → IsTrue s → IsFalse t → IsTrue (s && not t)
still_held s t a b = grind (arith, tests)

pub held_on : (port : Port) (c : ℕ) → AreLegalAt port (suc (suc c)) → IsTrue (is_held port.commands.signals (takes port) c) → IsFalse (takes port (suc c)) → IsTrue (is_held port.commands.signals (takes port) (suc c))
held_on port c legal held none =
    let same = ap (λ (l : Levels). is_raised l.read || is_raised l.write) (legal.legal.held c (omega arith) held) in
    still_held (shows port.commands.signals (suc c)) (takes port (suc c)) (sym same ∙ (and_parts (shows port.commands.signals c) (not (takes port c)) held).0) none

pub untaken_on : (target : Target) (up down : Port) (c : ℕ) → IsFalse (takes down (suc c)) →
    IsTrue (nat_lt (length (operations_among target down.shape (taken_at down (suc c)))) (length (operations_among target up.shape (shown_at up (suc c))))) →
    IsTrue (nat_lt (length (operations_among target down.shape (taken_at down (suc (suc c))))) (length (operations_among target up.shape (shown_at up (suc (suc c))))))
untaken_on target up down c none h =
    let grow = prefix_length (prefix_flat_map (operations_in target up.shape) (shown_extends up (suc c))) in
    subst (λ l. IsTrue (nat_lt (length (operations_among target down.shape l)) (length (operations_among target up.shape (shown_at up (suc (suc c))))))) (sym (none_taken down (suc c) none))
    (lt_grows (length (operations_among target down.shape (taken_at down (suc c)))) (length (operations_among target up.shape (shown_at up (suc c)))) (length (operations_among target up.shape (shown_at up (suc (suc c))))) h grow)

pub joined_on : (port : Port) (c : ℕ) → IsFalse (takes port (suc c)) → IsTrue (is_last_joined (taken_at port (suc c))) → IsTrue (is_last_joined (taken_at port (suc (suc c))))
joined_on port c none h = subst (λ l. IsTrue (is_last_joined l)) (sym (none_taken port (suc c) none)) h

pub work_or_move : (w m : Bool) → (IsFalse m → IsTrue w) → IsTrue (w || m)
work_or_move true m f = refl
work_or_move false true f = refl
work_or_move false false f = let bad : IsTrue false = f refl in bad

pub not_by : (b : Bool) → IsFalse b → IsTrue (not b)
not_by b h = grind (arith, tests)
