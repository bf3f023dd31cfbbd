-- The default agent is served.
use Rattle.std.proofs.Common.{ℕ, suc, ◌≤◌, ◌+◌, Bool, true, false, ◌||◌, arith, refl, IsTrue, None, inl, inr, ◌⊎◌}
use Rattle.std.proofs.lemmas.Bool.{or_left}
use Rattle.memory_runs.specs.Views.{System, Run}
use Rattle.memory_runs.specs.Awake.{Throughout, Sometime, is_given_from, is_written_to}
use Rattle.memory_awake.specs.Front.{IsDefaultFront, WantsDefault, WantsDefault.beat, WantsDefault.word}

two_or_one : (a b d : Bool) → IsTrue (a || b || d) → IsTrue (a || b) ⊎ IsTrue d
two_or_one true b d h = inl refl
two_or_one false true d h = inl refl
two_or_one false false d h = inr h

pub default_served : (system : System) (run : Run) (host from size end : ℕ) → from + size ≤ end → 2 ≤ size → IsDefaultFront system run host end → Throughout from size (WantsDefault system run host) →
    Sometime from size (λ c. IsTrue (is_given_from system run None c host || is_written_to system run None c host))
default_served system run host from size end fits long front wanted = by_want (wanted from (omega arith) (omega (arith, long)))
  where
    next : IsTrue (front.due (suc from)) → Sometime from size (λ c. IsTrue (is_given_from system run None c host || is_written_to system run None c host))
    next due = (suc from, omega arith, omega (arith, long), or_left (is_given_from system run None (suc from) host) _ (front.gives (suc from) (omega (arith, fits, long)) due))

    by_want : WantsDefault system run host from → Sometime from size (λ c. IsTrue (is_given_from system run None c host || is_written_to system run None c host))
    by_want (beat shown all) = elim (two_or_one (is_given_from system run None from host) (is_written_to system run None from host) (front.due (suc from)) (front.beats from (omega (arith, fits, long)) shown all)) [
      | inl now ↦ (from, omega arith, omega (arith, long), now)
      | inr due ↦ next due
    ]
    by_want (word owing) = next (front.owed from (omega (arith, fits, long)) owing)
