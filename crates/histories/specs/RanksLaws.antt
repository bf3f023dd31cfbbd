-- Laws that the crates above take from a call, and small facts that they cite.
use Rattle.std.specs.Prelude.{ℕ, ◌<◌, ◌≤◌, Bool, true, false, not, ◌&&◌, ◌||◌, IsTrue, IsFalse}
use Rattle.std.proofs.Common.{refl, sym}
use Rattle.std.proofs.lemmas.Bool.{false≢true}
use Rattle.histories.specs.Path.{Path, AnswersFlow, must_act, works, stands, writing, waits_for_rest}
use Rattle.histories.specs.Window.{Budget, Keeps, is_active, allowances}
use Rattle.histories.specs.Junction.{budgets}

-- a window in which a path of parts has work, and neither waits below nor rests above, is no longer than the parts allow
abbrev pub PathIsShort : Type 0
PathIsShort =
    (path : ℕ → Path) (budget : ℕ → Budget) (n size : ℕ) →
    ((i c : ℕ) → i < n → c < size → IsTrue (must_act (path c) i) → IsTrue (is_active (budget i).part c)) →
    ((i : ℕ) → i < n → Keeps (budget i) size) →
    ((c : ℕ) → c < size → AnswersFlow (path c) n) →
    ((c : ℕ) → c < size → IsTrue (waits_for_rest (path c) n) → ⊥) →
    ((c : ℕ) → c < size → IsTrue (stands (path c) 0 || ((path c).owed 0 && not (writing (path c) 0))) → ⊥) →
    ((c : ℕ) → c < size → (i : ℕ) × (i < n) × IsTrue (works (path c) i)) →
    size ≤ allowances (budgets budget n)

pub third_of : (a b c d : Bool) → IsTrue c → IsTrue (a || b || c || d)
third_of true b c d h = refl
third_of false true c d h = refl
third_of false false true d h = refl
third_of false false false d h = absurd (false≢true h)

-- a part that must act is active
pub acts_is_active : (moves works excused : Bool) → IsTrue (works && not excused) → IsTrue (moves || (works && not excused))
acts_is_active true w e h = refl
acts_is_active false w e h = h

-- where nothing stands and nothing is owed there is no excuse from below
pub idle_not : (stands owed writes : Bool) → IsFalse (stands || owed) → IsTrue (stands || (owed && not writes)) → ⊥
idle_not true o w f h = absurd (false≢true (sym f))
idle_not false true w f h = absurd (false≢true (sym f))
idle_not false false w f h = absurd (false≢true h)
