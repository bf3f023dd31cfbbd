-- Runs that meet the clause on the rank with laxer exceptions, and hang.
use Rattle.std.specs.Prelude.{ℕ, zero, suc, ◌<◌, ◌≤◌, Bool, true, false, not, ◌&&◌, ◌||◌, IsTrue, IsFalse}
use Rattle.histories.specs.Path.{Path, AnswersFlow, works, writing}

-- two laxer exceptions: is a part excused by a wait where nothing is shown, and by a word that is owed below while a write is
-- left open there
pub record Rules : Type 0 where
  pub idle_wait : Bool
  pub owing_rest : Bool

pub record Waited : Type 0 where
  pub path : Path
  pub wait : ℕ → Bool

abbrev pub excused_by : Rules → Waited → ℕ → Bool
excused_by rules w i =
    (w.wait i && (rules.idle_wait || w.path.shown i)) || (w.path.owed i && (rules.owing_rest || not (writing w.path i)))
    || (w.path.unclosed (suc i) && not (w.path.shown (suc i)) && (w.path.last_writes (suc i) || not (w.path.owed (suc i))))

-- nothing is taken anywhere, the agent neither waits nor owes, the host stands at the top with the rest of its burst, and each
-- part with work is excused. A run that stays so for ever keeps the clause with rank 0
pub record Hangs (rules : Rules) (w : Waited) (parts : ℕ) : Type 0 where
  pub waits : (p : ℕ) → p ≤ parts → IsTrue (not (w.path.shown p) || w.wait p)
  pub taken : (p : ℕ) → p ≤ parts → IsFalse (w.path.taken p)
  pub flows : AnswersFlow w.path parts
  pub agent_waits : IsFalse (w.wait 0)
  pub agent_owes : IsFalse (w.path.owed 0)
  pub stands : IsTrue (w.path.shown parts)
  pub excused : (i : ℕ) → i < parts → IsTrue (works w.path i) → IsTrue (excused_by rules w i)

abbrev pub below_two : Bool → Bool → Bool → ℕ → Bool
below_two a b c zero = a
below_two a b c (suc zero) = b
below_two a b c (suc (suc p)) = c

-- the upper part waits for the wait of the lower one to fall, which stays high while nothing is shown to it
abbrev pub idle_wait_run : Waited
idle_wait_run = record {
  path = record {
    shown = below_two false false true;
    taken = λ p. false;
    owed = λ p. false;
    unclosed = λ p. true;
    last_writes = λ p. true;
    untaken = below_two false true true;
    ready = λ i. false;
  };
  wait = below_two false true true;
}

-- the upper part shows no beat of the burst while the word of an earlier read is owed, and the lower one gives no word while no
-- beat of the burst is shown
abbrev pub owing_rest_run : Waited
owing_rest_run = record {
  path = record {
    shown = below_two false false true;
    taken = λ p. false;
    owed = below_two false true true;
    unclosed = λ p. true;
    last_writes = λ p. true;
    untaken = below_two false true true;
    ready = below_two true false false;
  };
  wait = below_two false false true;
}
