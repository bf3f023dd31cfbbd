-- Small facts on lists of transfers and on tests.
use Rattle.std.proofs.Common.{ℕ, suc, ◌<◌, ◌≤◌, ◌≡◌, ◌⊎◌, inl, inr, Bool, true, false, not, ◌||◌, ◌&&◌, List, [], ◌∷◌, ◌++◌, arith, refl, sym, ap, ◌∙◌, nat_lt, IsTrue, IsFalse, tests, append-nil}
use Rattle.std.proofs.lemmas.Bool.{and_parts}
use Rattle.histories.specs.History.{is_raised, IsPrefix}
use Rattle.histories.specs.Laws.{before_extends}
use Rattle.memory_runs.specs.Views.{Levels, System, Run}
use Rattle.memory_runs.specs.Commands.{is_held, shows, agent_accepts, is_of_reads}
use Rattle.memory_runs.specs.Order.{taken}
use Rattle.memory_machines.specs.Link.{Port, Marked, AreLegalAt, takes, taken_at, shown_at, marked_at, is_last_joined}
use Rattle.memory_machines.specs.Rank.{is_last_write}

pub last_joined_end : (xs : List Marked) (m : Marked) → is_last_joined (xs ++ m ∷ []) ≡ m.more
last_joined_end [] m = refl
last_joined_end (x ∷ []) m = refl
last_joined_end (x ∷ y ∷ xs) m = last_joined_end (y ∷ xs) m

pub last_write_end : (xs : List Marked) (m : Marked) → is_last_write (xs ++ m ∷ []) ≡ not (is_of_reads m.transfer.kind)
last_write_end [] m = refl
last_write_end (x ∷ []) m = refl
last_write_end (x ∷ y ∷ xs) m = last_write_end (y ∷ xs) m

pub none_taken : (port : Port) (c : ℕ) → IsFalse (takes port c) → taken_at port (suc c) ≡ taken_at port c
none_taken port c none = rw none (append-nil (taken_at port c))

pub one_taken : (port : Port) (c : ℕ) → IsTrue (takes port c) → taken_at port (suc c) ≡ taken_at port c ++ marked_at port c ∷ []
one_taken port c some = rw some refl

pub not_shown : (port : Port) (c : ℕ) → IsFalse (shows port.commands.signals c) → IsFalse (takes port c)
not_shown port c none = rw none refl

pub takes_shows : (port : Port) (c : ℕ) → IsTrue (takes port c) → IsTrue (shows port.commands.signals c)
takes_shows port c h = (and_parts (shows port.commands.signals c) (not (is_raised (port.commands.waitrequest c))) h).0

pub shown_again : (port : Port) (c end : ℕ) → AreLegalAt port end → suc c < end → IsTrue (is_held port.commands.signals (takes port) c) → IsTrue (shows port.commands.signals (suc c))
shown_again port c end legal h held =
    let same = ap (λ (l : Levels). is_raised l.read || is_raised l.write) (legal.legal.held c h held) in
    sym same ∙ (and_parts (shows port.commands.signals c) (not (takes port c)) held).0

pub held_or_taken : (s t : Bool) → IsTrue s → IsTrue ((s && not t) || t)
held_or_taken true true h = refl
held_or_taken true false h = refl
held_or_taken false t h = absurd cc

pub holds : (s t : Bool) → IsTrue s → IsFalse t → IsTrue (s && not t)
holds s t a b = grind (arith, tests)

pub shown_extends : (port : Port) (c : ℕ) → IsPrefix (shown_at port c) (shown_at port (suc c))
shown_extends port c = before_extends _ c

pub lt_grows : (n m k : ℕ) → IsTrue (nat_lt n m) → m ≤ k → IsTrue (nat_lt n k)
lt_grows n m k h less = grind (arith, tests)

pub taken_still : (system : System) (run : Run) (agent c : ℕ) → IsFalse (agent_accepts (system.agent agent) (run.at_agent agent) c) → taken system run agent (suc c) ≡ taken system run agent c
taken_still system run agent c none = rw none (rw (append-nil _) refl)

pub not_by : (b : Bool) → IsFalse b → IsTrue (not b)
not_by b h = grind (arith, tests)

pub no_true : IsTrue false → ⊥
no_true h = cc

pub either_part : (a b : Bool) → IsTrue (a || b) → IsTrue a ⊎ IsTrue b
either_part true b h = inl refl
either_part false b h = inr h
