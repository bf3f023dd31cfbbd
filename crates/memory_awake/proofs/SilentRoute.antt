-- What a route shows in a cycle doesn't rest on the words that come in it: so its commands stay single one cycle longer than words are owed.
use Rattle.std.proofs.Common.{ℕ, zero, suc, ◌<◌, ◌≤◌, ◌≡◌, ◌+◌, Bool, true, false, not, List, [], ◌∷◌, ◌++◌, arith, tests, refl, sym, ap, ap₂, subst, ◌∙◌, length, nat_lt, lt-ltb, le-ltb, if◌then◌else◌, Option, Some, None, le_refl, IsTrue}
use Rattle.std.proofs.lemmas.Bool.{and_parts, false≢true}
use Rattle.histories.specs.History.{before, only_if, is_raised, one_if}
use Rattle.histories.specs.Laws.{before_extends, prefix_flat_map, prefix_filter, prefix_length}
use Rattle.memory_runs.specs.Views.{System, Responses}
use Rattle.memory_runs.specs.Commands.{words_before}
use Rattle.memory_runs.specs.Legal.{Word}
use Rattle.memory_machines.specs.Link.{Port, AreLegalAt, AnswersAreOwed, words_at, words_owed}
use Rattle.memory_machines.specs.Lines.{AreSingle, OwesBelow}
use Rattle.memory_parts.specs.Queue.{by_option}
use Rattle.memory_parts.specs.Route.{RouteState, IsRouteMachine, IsRoutePlan, read_count}
use Rattle.memory_parts.specs.Steps.{IsRoutePart}

before_same : {A : Type 0} (f g : ℕ → List A) (k : ℕ) → ((j : ℕ) → j < k → f j ≡ g j) → before f k ≡ before g k
before_same f g zero same = refl
before_same f g (suc k) same = ap₂ (λ l m. l ++ m) (before_same f g k (λ j low. same j (omega (arith, low)))) (same k (omega arith))

asked_grows : (port : Port) (c : ℕ) → words_owed port c ≤ words_owed port (suc c)
asked_grows port c = prefix_length (prefix_flat_map _ (prefix_filter _ (before_extends _ c)))

module _ (route : (responses : Responses) (system : System) (host room : ℕ) (up : Port) (down : ℕ → Port) (state : RouteState) (end : ℕ) → IsRoutePlan system host up.shape → AreLegalAt up end → AreSingle up end → OwesBelow room up end →
    ((a : ℕ) → a < system.agents → AnswersAreOwed (down a) end) → IsRouteMachine responses system host room up down state end → IsRoutePart system host up down end)
    (responses : Responses) (system : System) (host room : ℕ) (up : Port) (down : ℕ → Port) (state : RouteState) (end : ℕ) (plan : IsRoutePlan system host up.shape) (machine : IsRouteMachine responses system host room up down state end)
    (c : ℕ) (inside : suc c ≤ end) (legal : AreLegalAt up (suc c)) (single : AreSingle up (suc c)) (below : OwesBelow room up (suc c)) (owed : (a : ℕ) → a < system.agents → AnswersAreOwed (down a) c) where
  -- the same ports, where no word comes from below from this cycle on
  quiet : ℕ → ℕ → ℕ
  quiet a k = if nat_lt k c then (down a).answers.valid k else 0

  abbrev quiet_down : ℕ → Port
  quiet_down a = record (down a) { answers = record { valid = quiet a; word = (down a).answers.word; code = (down a).answers.code } }

  given : ℕ → ℕ
  given k = if nat_lt k c then up.answers.valid k else by_option (state.owing k) (one_if (nat_lt 0 (state.owed k))) (λ a. 0)

  abbrev quiet_up : Port
  quiet_up = record up { answers = record { valid = given; word = up.answers.word; code = up.answers.code } }

  given_is : (k : ℕ) → k < c → given k ≡ up.answers.valid k
  unfolding given
  given_is k low = ap (λ b. if b then up.answers.valid k else by_option (state.owing k) (one_if (nat_lt 0 (state.owed k))) (λ a. 0)) (lt-ltb k c low)

  quiet_is : (a k : ℕ) → k < c → quiet a k ≡ (down a).answers.valid k
  unfolding quiet
  quiet_is a k low = ap (λ b. if b then (down a).answers.valid k else 0) (lt-ltb k c low)

  quiet_then : (a : ℕ) → quiet a c ≡ 0
  unfolding quiet
  quiet_then a = ap (λ b. if b then (down a).answers.valid c else 0) (le-ltb c c (le_refl c))

  valid_then : (k : ℕ) → k < suc c → is_raised (given k) ≡ by_option (state.owing k) (nat_lt 0 (state.owed k)) (λ a. is_raised (quiet a k))
  unfolding given quiet
  valid_then k low = by_time (nat_lt k c) (machine.valid k (omega (arith, low, inside)))
    where
      raised : (b : Bool) → is_raised (one_if b) ≡ b
      raised true = refl
      raised false = refl

      by_owing : (o : Option ℕ) → is_raised (by_option o (one_if (nat_lt 0 (state.owed k))) (λ a. 0)) ≡ by_option o (nat_lt 0 (state.owed k)) (λ a. is_raised 0)
      by_owing None = raised (nat_lt 0 (state.owed k))
      by_owing (Some a) = refl

      by_time : (b : Bool) → is_raised (up.answers.valid k) ≡ by_option (state.owing k) (nat_lt 0 (state.owed k)) (λ a. is_raised ((down a).answers.valid k)) →
          is_raised (if b then up.answers.valid k else by_option (state.owing k) (one_if (nat_lt 0 (state.owed k))) (λ a. 0)) ≡ by_option (state.owing k) (nat_lt 0 (state.owed k)) (λ a. is_raised (if b then (down a).answers.valid k else 0))
      by_time true was = was
      by_time false was = by_owing (state.owing k)

  -- a word that is given came before, or is the default agent's
  came : (k : ℕ) → k < suc c → IsTrue (is_raised (given k)) → IsTrue (is_raised (up.answers.valid k))
  unfolding given
  came k low = by_time (nat_lt k c) (machine.valid k (omega (arith, low, inside)))
    where
      by_owing : (o : Option ℕ) → is_raised (up.answers.valid k) ≡ by_option o (nat_lt 0 (state.owed k)) (λ a. is_raised ((down a).answers.valid k)) → IsTrue (is_raised (by_option o (one_if (nat_lt 0 (state.owed k))) (λ a. 0))) → IsTrue (is_raised (up.answers.valid k))
      by_owing None was comes = was ∙ sym (raised (nat_lt 0 (state.owed k))) ∙ comes
        where
          raised : (b : Bool) → is_raised (one_if b) ≡ b
          raised true = refl
          raised false = refl
      by_owing (Some a) was comes = absurd (false≢true comes)

      by_time : (b : Bool) → is_raised (up.answers.valid k) ≡ by_option (state.owing k) (nat_lt 0 (state.owed k)) (λ a. is_raised ((down a).answers.valid k)) →
          IsTrue (is_raised (if b then up.answers.valid k else by_option (state.owing k) (one_if (nat_lt 0 (state.owed k))) (λ a. 0))) → IsTrue (is_raised (up.answers.valid k))
      by_time true was comes = comes
      by_time false was comes = by_owing (state.owing k) was comes

  quiet_machine : IsRouteMachine responses system host room quiet_up quiet_down state (suc c)
  quiet_machine = record {
    shapes = machine.shapes;
    read = λ a k there low. machine.read a k there (omega (arith, low, inside));
    write = λ a k there low. machine.write a k there (omega (arith, low, inside));
    address = λ a k there low. machine.address a k there (omega (arith, low, inside));
    word = λ a k there low. machine.word a k there (omega (arith, low, inside));
    enables = λ a k there low. machine.enables a k there (omega (arith, low, inside));
    count = λ a k there low. machine.count a k there (omega (arith, low, inside));
    more = λ a k there low. machine.more a k there (omega (arith, low, inside));
    tag = λ a k there low. machine.tag a k there (omega (arith, low, inside));
    wait = λ k low. machine.wait k (omega (arith, low, inside));
    outside = machine.outside;
    stays = λ k low. machine.stays k (omega (arith, low, inside));
    keeps = λ k low. machine.keeps k (omega (arith, low, inside));
    nothing = machine.nothing;
    nobody = machine.nobody;
    counts = λ k low. counted k (omega (arith, low));
    owes = λ k low. machine.owes k (omega (arith, low, inside));
    valid = valid_then;
    answer = λ k low comes. machine.answer k (omega (arith, low, inside)) (came k low comes);
    code = λ k low comes. machine.code k (omega (arith, low, inside)) (came k low comes);
  }
    where
      counted : (k : ℕ) → k < c → state.owed k + read_count up k < room → one_if (is_raised (given k)) ≤ state.owed k + read_count up k → state.owed (suc k) + one_if (is_raised (given k)) ≡ state.owed k + read_count up k
      counted k low = subst (λ v. state.owed k + read_count up k < room → one_if (is_raised v) ≤ state.owed k + read_count up k → state.owed (suc k) + one_if (is_raised v) ≡ state.owed k + read_count up k) (sym (given_is k low))
          (machine.counts k (omega (arith, low, inside)))

  quiet_legal : AreLegalAt quiet_up (suc c)
  quiet_legal = record { legal = legal.legal; tag = legal.tag; more = legal.more; joined = legal.joined }

  quiet_owed : (a : ℕ) → a < system.agents → AnswersAreOwed (quiet_down a) (suc c)
  quiet_owed a there k low = by_time (nat_lt k c) refl
    where
      came : (n : ℕ) → n ≤ c → words_before (quiet a) n ≡ words_before (down a).answers.valid n
      came n fit = ap {B = ℕ} length (before_same (λ j. only_if (is_raised (quiet a j)) j) (λ j. only_if (is_raised ((down a).answers.valid j)) j) n (λ j less. ap (λ v. only_if (is_raised v) j) (quiet_is a j (omega (arith, less, fit)))))

      none_more : words_before (quiet a) (suc c) ≡ words_before (quiet a) c
      none_more = ap {B = ℕ} (λ v. length (before (λ j. only_if (is_raised (quiet a j)) j) c ++ only_if (is_raised v) c)) (quiet_then a) ∙ ap {B = ℕ} length (nil_end (before (λ j. only_if (is_raised (quiet a j)) j) c))
        where
          nil_end : (l : List ℕ) → l ++ [] ≡ l
          nil_end [] = refl
          nil_end (x ∷ l) = ap (λ m. x ∷ m) (nil_end l)

      early : (n : ℕ) → n ≤ c → words_before (down a).answers.valid n ≤ words_owed (down a) n
      early zero fit = omega arith
      early (suc n) fit = (let here = owed a there n fit in let more = asked_grows (down a) n in omega (arith, here, more))

      by_time : (b : Bool) → nat_lt k c ≡ b → words_before (quiet a) (suc k) ≤ words_owed (down a) k
      by_time true e =
          let less : k < c = ltb_less e in
          let same = came (suc k) less in
          let here = owed a there k less in
          omega (arith, same, here)
        where
          ltb_less : nat_lt k c ≡ true → k < c
          ltb_less e = grind (arith, tests, e)
      by_time false e =
          let last : k ≡ c = grind (arith, tests, e, low) in
          let same = came c (le_refl c) in
          let here = early c (le_refl c) in
          subst (λ n. words_before (quiet a) (suc n) ≤ words_owed (down a) n) (sym last) (let none = none_more in omega (arith, none, same, here))

  quiet_below : OwesBelow room quiet_up (suc c)
  quiet_below k low =
      let word : ℕ → Word = λ j. record { word = up.answers.word j; code = up.answers.code j } in
      let same : words_at quiet_up k ≡ words_at up k = before_same (λ j. only_if (is_raised (given j)) (word j)) (λ j. only_if (is_raised (up.answers.valid j)) (word j)) k (λ j less. ap (λ v. only_if (is_raised v) (word j)) (given_is j (omega (arith, less, low)))) in
      subst (λ l. words_owed up (suc k) < length l + room) (sym same) (below k low)

  part : IsRoutePart system host quiet_up quiet_down (suc c)
  part = route responses system host room quiet_up quiet_down state (suc c) plan quiet_legal single quiet_below quiet_owed quiet_machine

  pub single_behind : (a : ℕ) → a < system.agents → AreSingle (down a) (suc c)
  single_behind a there k low shown =
      let above = (and_parts _ _ (and_parts _ _ (sym (part.shown a k there low) ∙ shown)).0).0 in
      part.more a k there low shown ∙ single k low above ∙ ap (λ t. not t.ends) (sym (part.same a k there low shown))
