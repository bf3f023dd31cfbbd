-- Small facts on tests and on what a port takes.
use Rattle.std.proofs.Common.{subst, ℕ, suc, ◌<◌, ◌≡◌, ◌⊎◌, inl, inr, Bool, true, false, not, ◌||◌, ◌&&◌, [], ◌∷◌, ◌++◌, arith, refl, sym, ap, ◌∙◌, IsTrue, IsFalse, tests, append-nil, nat_eq, zero, length}
use Rattle.std.proofs.lemmas.Bool.{and_parts, or_left, or_right, both_ways}
use Rattle.histories.specs.History.{is_raised, numbers}
use Rattle.memory_runs.specs.Views.{Levels}
use Rattle.memory_runs.specs.Commands.{is_held, shows}
use Rattle.memory_machines.specs.Link.{Port, AreLegalAt, takes, taken_at, marked_at}
use Rattle.histories.specs.Junction.{any_below}

pub no_true : IsTrue false → ⊥
no_true h = cc

pub none_taken : (port : Port) (c : ℕ) → IsFalse (takes port c) → taken_at port (suc c) ≡ taken_at port c
none_taken port c none = rw none (append-nil (taken_at port c))

pub one_taken : (port : Port) (c : ℕ) → IsTrue (takes port c) → taken_at port (suc c) ≡ taken_at port c ++ marked_at port c ∷ []
one_taken port c some = rw some refl

pub not_shown : (port : Port) (c : ℕ) → IsFalse (shows port.commands.signals c) → IsFalse (takes port c)
not_shown port c none = rw none refl

pub takes_shows : (port : Port) (c : ℕ) → IsTrue (takes port c) → IsTrue (shows port.commands.signals c)
takes_shows port c h = (and_parts (shows port.commands.signals c) (not (is_raised (port.commands.waitrequest c))) h).0

pub shown_again : (port : Port) (c end : ℕ) → AreLegalAt port end → suc c < end → IsTrue (is_held port.commands.signals (takes port) c) → IsTrue (shows port.commands.signals (suc c))
shown_again port c end legal h held =
    let same = ap (λ (l : Levels). is_raised l.read || is_raised l.write) (legal.legal.held c h held) in
    sym same ∙ (and_parts (shows port.commands.signals c) (not (takes port c)) held).0

pub holds : (s t : Bool) → IsTrue s → IsFalse t → IsTrue (s && not t)
holds s t a b = grind (arith, tests)

pub not_by : (b : Bool) → IsFalse b → IsTrue (not b)
not_by b h = grind (arith, tests)

-- In a cycle in which a host asks and isn't taken, what may be taken before it doesn't grow, and falls by each beat that is taken.
pub no_both : (b : Bool) → IsTrue b → IsFalse b → ⊥
no_both true t f = absurd cc
no_both false t f = no_true t

pub both : (a b : Bool) → IsTrue a → IsTrue b → IsTrue (a && b)
both true true h k = refl
both true false h k = absurd (no_true k)
both false b h k = absurd (no_true h)

pub numbers_length : (first n : ℕ) → length (numbers first n) ≡ n
numbers_length first zero = refl
numbers_length first (suc n) = ap suc (numbers_length (suc first) n)

-- A wanted agent is served: what a host wants is work of some part on its way.
pub any_of : (test : ℕ → Bool) (n k : ℕ) → k < n → IsTrue (test k) → IsTrue (any_below test n)
any_of test zero k h holds = absurd (omega (arith, h))
any_of test (suc n) k h holds = by_place (nat_eq k n) refl (any_of test n k)
  where
    by_place : (b : Bool) → nat_eq k n ≡ b → (k < n → IsTrue (test k) → IsTrue (any_below test n)) → IsTrue (test n || any_below test n)
    by_place false e more = or_right (test n) (any_below test n) (more (grind (arith, tests, e, h)) holds)
    by_place true e more = let same : k ≡ n = grind (arith, tests, e) in or_left (test n) _ (rw same at holds)

none_of : (test : ℕ → Bool) (n k : ℕ) → IsFalse (any_below test n) → k < n → IsFalse (test k)
none_of test n k none h = by_test (test k) refl
  where
    by_test : (b : Bool) → test k ≡ b → IsFalse b
    by_test true e = absurd (both_ways (any_below test n) none (any_of test n k h e))
    by_test false e = refl

pub found_below : (test : ℕ → Bool) (n : ℕ) → IsTrue (any_below test n) → (k : ℕ) × (k < n) × IsTrue (test k)
found_below test zero h = absurd (no_true h)
found_below test (suc n) h = by_test (test n) refl h (found_below test n)
  where
    by_test : (b : Bool) → test n ≡ b → IsTrue (b || any_below test n) → (IsTrue (any_below test n) → (k : ℕ) × (k < n) × IsTrue (test k)) → (k : ℕ) × (k < suc n) × IsTrue (test k)
    by_test true e h more = (n, omega arith, e)
    by_test false e h more = let found = more h in (found.0, omega (arith, found.1), found.2)

pub some_or_none : (test : ℕ → Bool) (n : ℕ) → ((c : ℕ) × (c < n) × IsTrue (test c)) ⊎ ((c : ℕ) → c < n → IsFalse (test c))
some_or_none test n = by_any (any_below test n) refl
  where
    by_any : (b : Bool) → any_below test n ≡ b → ((c : ℕ) × (c < n) × IsTrue (test c)) ⊎ ((c : ℕ) → c < n → IsFalse (test c))
    by_any true e = inl (found_below test n e)
    by_any false e = inr (λ c h. none_of test n c e h)

pub two_of : (a b : Bool) {R : Type 0} → IsTrue (a || b) → (IsTrue a → R) → (IsTrue b → R) → R
two_of true b h fa fb = fa refl
two_of false b h fa fb = fb h

pub three_of : (a b c : Bool) {R : Type 0} → IsTrue (a || b || c) → (IsTrue a → R) → (IsTrue b → R) → (IsTrue c → R) → R
three_of true b c h fa fb fc = fa refl
three_of false true c h fa fb fc = fb refl
three_of false false true h fa fb fc = fc refl
three_of false false false h fa fb fc = absurd (no_true h)

-- the first of so many that passes a test, or none does
abbrev pub FirstOrNone : (ℕ → Bool) → ℕ → Type 0
FirstOrNone test n = ((c : ℕ) × (c < n) × IsTrue (test c) × ((k : ℕ) → k < c → IsFalse (test k))) ⊎ ((c : ℕ) → c < n → IsFalse (test c))

pub first_or_none : (test : ℕ → Bool) (n : ℕ) → FirstOrNone test n
first_or_none test zero = inr (λ c h. absurd (omega (arith, h)))
first_or_none test (suc n) = elim (first_or_none test n) [
  | inl found ↦ inl (found.0, (let less = found.1 in omega (arith, less)), found.2, found.3)
  | inr none ↦ by_test (test n) refl none
]
  where
    by_test : (b : Bool) → test n ≡ b → ((c : ℕ) → c < n → IsFalse (test c)) → FirstOrNone test (suc n)
    by_test true e none = inl (n, omega arith, e, none)
    by_test false e none = inr (λ c h. here c h (nat_eq c n) refl)
      where
        here : (c : ℕ) → c < suc n → (b : Bool) → nat_eq c n ≡ b → IsFalse (test c)
        here c h true s = let same : c ≡ n = grind (arith, tests, s) in subst (λ x. IsFalse (test x)) (sym same) e
        here c h false s = none c (grind (arith, tests, s, h))
