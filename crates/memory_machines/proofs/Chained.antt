-- A chain of links whose ranks fall isn't stuck for longer than the ranks allow.
use Rattle.std.proofs.Common.{ℕ, suc, ◌<◌, ◌≤◌, ◌≡◌, ◌+◌, Bool, false, ◌||◌, arith, nat_lt, length, IsTrue, IsFalse, tests}
use Rattle.memory_runs.specs.Commands.{is_held}
use Rattle.memory_machines.specs.Link.{Target, Port, takes, taken_at, shown_at, operations_among, AreLegalAt, has_word_ready}
use Rattle.memory_machines.specs.Rank.{is_writing, is_owed, is_unclosed, may_rest, has_commands, LinkRankFalls, commands_at, moves_commands, link_part, link_budget, IsUnhindered, KeepLinkRanks}
use Rattle.memory_machines.proofs.Lasting.{held_on, untaken_on, joined_on, work_or_move, not_by, four_cases, first_of, second_of}
use Rattle.memory_machines.proofs.Flow.{answers_flow}
use Rattle.histories.specs.Path.{works, excused}
use Rattle.histories.specs.Window.{KeepsRank, allowances}
use Rattle.histories.specs.Junction.{budgets}
use Rattle.histories.specs.RanksLaws.{PathIsShort, third_of, acts_is_active, idle_not}
use Rattle.std.proofs.lemmas.Bool.{both_ways, or_parts}
use Rattle.memory_machines.specs.Shorter.{legal_at_before}

three_of_four : (a b c : Bool) → IsTrue (a || b || c || false) → IsTrue (a || b || c)
three_of_four a b c h = grind (arith, tests)

four_of_three : (a b c : Bool) → IsTrue (a || b || c) → IsTrue (a || b || c || false)
four_of_three a b c h = grind (arith, tests)

commands_last : (target : Target) (up down : Port) (c : ℕ) → AreLegalAt up (suc (suc c)) →
    IsTrue (is_held up.commands.signals (takes up) c || nat_lt (length (operations_among target down.shape (taken_at down (suc c)))) (length (operations_among target up.shape (shown_at up (suc c)))) || is_unclosed down c || false) →
    IsFalse (moves_commands up down (suc c)) →
    IsTrue (is_held up.commands.signals (takes up) (suc c) || nat_lt (length (operations_among target down.shape (taken_at down (suc (suc c))))) (length (operations_among target up.shape (shown_at up (suc (suc c))))) || is_unclosed down (suc c) || false)
commands_last target up down c legal work still =
    let still_parts = or_parts (takes down (suc c)) (takes up (suc c)) still in
    let below = still_parts.0 in
    let above = still_parts.1 in
    let held_later = is_held up.commands.signals (takes up) (suc c) in
    let untaken_later = nat_lt (length (operations_among target down.shape (taken_at down (suc (suc c))))) (length (operations_among target up.shape (shown_at up (suc (suc c))))) in
    let open_later = is_unclosed down (suc c) in
    four_cases (is_held up.commands.signals (takes up) c) (nat_lt (length (operations_among target down.shape (taken_at down (suc c)))) (length (operations_among target up.shape (shown_at up (suc c))))) (is_unclosed down c) false work
    (λ held. first_of held_later untaken_later open_later false (held_on up c legal held above))
    (λ untaken. second_of held_later untaken_later open_later false (untaken_on target up down c below untaken))
    (λ unclosed. third_of held_later untaken_later open_later false (joined_on down c below unclosed))
    (λ none. absurd cc)

pub link_keeps_rank : (target : Target) (ports : ℕ → Port) (i : ℕ) (rank : ℕ → ℕ) (largest from size : ℕ) → AreLegalAt (ports (suc i)) (from + size + 1) →
    LinkRankFalls target (ports (suc i)) (ports i) rank largest (from + size) → KeepsRank (link_part target ports i rank largest from) size
link_keeps_rank target ports i rank largest from size legal law = record {
  bounded = λ c h. law.bounded (from + c) (omega (arith, h));
  falls = λ c h work still must. rw (next c) (law.falls (from + c) (omega (arith, h)) (less c work) (not_by _ still) (not_by _ must));
  stays = λ c h work still. rw (next c) (law.stays (from + c) (omega (arith, h)) (less c work) (not_by _ still));
  lasts = λ c h work still. rw (next c) (work_or_move _ _ (λ later. commands_last target (ports (suc i)) (ports i) (from + c) (legal_at_before (ports (suc i)) (suc (suc (from + c))) (from + size + 1) (omega (arith, h)) legal) work later));
}
  where
    next : (c : ℕ) → from + suc c ≡ suc (from + c)
    next c = omega arith

    less : (c : ℕ) → IsTrue (works (commands_at target ports (from + c)) i) → IsTrue (has_commands target (ports (suc i)) (ports i) (from + c))
    less c work = three_of_four (is_held (ports (suc i)).commands.signals (takes (ports (suc i))) (from + c)) _ (is_unclosed (ports i) (from + c)) work

pub work_lasts : (target : Target) (ports : ℕ → Port) (i from size : ℕ) → AreLegalAt (ports (suc i)) (from + size + 1) → (c : ℕ) → c < size → IsTrue (works (commands_at target ports (from + c)) i) → IsFalse (moves_commands (ports (suc i)) (ports i) (from + c)) →
    IsTrue (works (commands_at target ports (from + suc c)) i || moves_commands (ports (suc i)) (ports i) (from + suc c))
work_lasts target ports i from size legal c h work still =
    rw (next) (work_or_move _ _ (λ later. commands_last target (ports (suc i)) (ports i) (from + c) (legal_at_before (ports (suc i)) (suc (suc (from + c))) (from + size + 1) (omega (arith, h)) legal) work later))
  where
    next : from + suc c ≡ suc (from + c)
    next = omega arith

without_ready : (u r o : Bool) → IsFalse r → IsTrue (u || r || o) → IsTrue (u || false || o)
without_ready u r o f h = grind (arith, tests)

pub chain_is_short : PathIsShort → (target : Target) (ports : ℕ → Port) (rank : ℕ → ℕ → ℕ) (largest few : ℕ → ℕ) (n from size : ℕ) →
    KeepLinkRanks target ports rank largest few n from size → IsUnhindered target ports n from size → size ≤ allowances (budgets (link_budget target ports rank largest few from) n)
chain_is_short path_is_short target ports rank largest few n from size laws free =
    path_is_short (λ c. commands_at target ports (from + c)) (link_budget target ports rank largest few from) n size
    (λ i c low h must. acts_is_active (moves_commands (ports (suc i)) (ports i) (from + c)) (works (commands_at target ports (from + c)) i) (excused (commands_at target ports (from + c)) i) must)
    (λ i low. (link_keeps_rank target ports i (rank i) (largest i) from size (laws.legal (suc i) low) (laws.falls i low), laws.moves i low))
    (λ c h i low owed. without_ready _ (has_word_ready target (ports (suc i)) (ports i) (suc (from + c))) (is_owed (ports i) (from + c)) (free.words i c low h)
    (answers_flow target (ports (suc i)) (ports i) (from + size + 1) (from + c) (laws.legal (suc i) low) (laws.legal i (omega (arith, low))) (omega (arith, h)) (laws.in_order i (suc (from + c)) low (omega (arith, h))) owed))
    (λ c h waits. both_ways (may_rest (ports n) (from + c)) (free.top c h) waits)
    (λ c h below. idle_not (is_held (ports 0).commands.signals (takes (ports 0)) (from + c)) (is_owed (ports 0) (from + c)) (is_writing (ports 0) (from + c)) (free.bottom c h) below)
    (λ c h. let w = free.work c h in (w.0, w.1, four_of_three (is_held (ports (suc w.0)).commands.signals (takes (ports (suc w.0))) (from + c)) _ (is_unclosed (ports w.0) (from + c)) w.2))
