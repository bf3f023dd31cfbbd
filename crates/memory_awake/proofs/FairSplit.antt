-- Where a command begins among the transfers of its host, and among those of them that are for one agent.
use Rattle.std.proofs.Common.{ℕ, suc, ◌<◌, ◌≤◌, ◌≡◌, ◌+◌, Bool, true, false, not, ◌||◌, List, [], ◌∷◌, ◌++◌, length, map, nat_eq, nat_le, if◌then◌else◌, arith, refl, sym, ap, subst, ◌∙◌, tests, IsTrue, IsFalse, Option, Some, None}
use Rattle.std.specs.List.{list_any}
use Rattle.std.proofs.lemmas.Bool.{both_ways}
use Rattle.memory_runs.specs.Views.{System}
use Rattle.memory_runs.specs.Commands.{Transfer}
use Rattle.memory_runs.specs.Order.{is_agent, place_of, for_agent}
use Rattle.memory_machines.specs.Link.{Marked, is_last_joined}
use Rattle.memory_awake.proofs.Bits.{no_true}
use Rattle.memory_awake.proofs.Beats.{is_the_place}
use Rattle.memory_awake.proofs.Numbers.{chosen, none_above, Steady, after, after_one, is_some, some_after_one}
use Rattle.memory_awake.proofs.FairOwners.{Every}
use Rattle.memory_awake.proofs.FairRoom.{rest_is}

module _ (system : System) (host : ℕ) (test : Transfer → Bool) (begins : (t : Transfer) → IsTrue (test t) → IsTrue t.begins) where
  -- past its first transfer a command begins no more
  none_begin : (p : Option ℕ) (n : ℕ) (ts : List Transfer) → Steady system host (Some p) ts → IsFalse (list_any test (chosen (λ i. nat_eq i n) n ts))
  unfolding Steady chosen
  none_begin p n [] steady = refl
  none_begin p n (t ∷ ts) steady = by_test (nat_eq n n) refl (test t) refl (by_end (λ q st. none_begin q n ts st) t.ends refl)
    where
      by_end : ((q : Option ℕ) → Steady system host (Some q) ts → IsFalse (list_any test (chosen (λ i. nat_eq i n) n ts))) → (b : Bool) → t.ends ≡ b → IsFalse (list_any test (chosen (λ i. nat_eq i n) (if b then n + 1 else n) ts))
      by_end go true e = ap (list_any test) (none_above system host (λ i. nat_eq i n) (n + 1) ts (λ i h. grind (arith, tests, h)))
      by_end go false e = go (place_of system host t) (subst (λ b. Steady system host (if b then None else Some (place_of system host t)) ts) e steady.3)

      by_test : (b : Bool) → nat_eq n n ≡ b → (x : Bool) → test t ≡ x → IsFalse (list_any test (chosen (λ i. nat_eq i n) (if t.ends then n + 1 else n) ts)) → IsFalse (list_any test ((if b then t ∷ [] else []) ++ chosen (λ i. nat_eq i n) (if t.ends then n + 1 else n) ts))
      by_test false e x f none = none
      by_test true e true f none = absurd (both_ways t.begins steady.0 (begins t f))
      by_test true e false f none = rw f none

  -- the transfers before a command, its first one, and those after it
  pub record SplitAt (opened : Option (Option ℕ)) (k n : ℕ) (ts : List Transfer) : Type 0 where
    pub front : List Transfer
    pub first : Transfer
    pub rest : List Transfer
    pub joins : front ++ first ∷ rest ≡ ts
    pub below : chosen (λ i. nat_le i k) n ts ≡ front
    pub closed : after system host opened front ≡ None
    pub steady : Steady system host opened front
    pub tested : IsTrue (test first)

  pub split_at : (opened : Option (Option ℕ)) (k n : ℕ) (ts : List Transfer) → Steady system host opened ts → n + is_some system host opened ≤ suc k → IsTrue (list_any test (chosen (λ i. nat_eq i (suc k)) n ts)) → SplitAt opened k n ts
  unfolding chosen after is_some Steady
  split_at opened k n [] steady low some = absurd (no_true some)
  split_at opened k n (t ∷ ts) steady low some = by_number (λ m less any. split_at (after_one system host opened t) k m ts (rest_is system host opened t ts steady) less any) (nat_eq n (suc k)) refl some
    where
      next : ℕ
      next = if t.ends then n + 1 else n

      moved : next + is_some system host (after_one system host opened t) ≡ n + 1
      moved = by_end t.ends (some_after_one system host opened t)
        where
          by_end : (e : Bool) → is_some system host (after_one system host opened t) + (if e then 1 else 0) ≡ 1 → (if e then n + 1 else n) + is_some system host (after_one system host opened t) ≡ n + 1
          by_end true one = omega (arith, one)
          by_end false one = omega (arith, one)

      first_of : (o : Option (Option ℕ)) → n ≡ suc k → n + is_some system host o ≤ suc k → Steady system host o (t ∷ ts) → o ≡ opened → IsTrue (list_any test (t ∷ chosen (λ i. nat_eq i (suc k)) next ts)) → SplitAt opened k n (t ∷ ts)
      first_of (Some p) same less st is any = absurd (omega (arith, same, less))
      first_of None same less st is any = record {
        front = [];
        first = t;
        rest = ts;
        joins = refl;
        below = none_above system host (λ i. nat_le i k) n (t ∷ ts) (λ i h. grind (arith, tests, h, same));
        closed = sym is;
        steady = subst (λ o. Steady system host o []) is tt;
        tested = by_test (test t) refl any (by_ends t.ends refl);
      }
        where
          by_ends : (b : Bool) → t.ends ≡ b → IsFalse (list_any test (chosen (λ i. nat_eq i (suc k)) (if b then n + 1 else n) ts))
          by_ends true e = ap (list_any test) (none_above system host (λ i. nat_eq i (suc k)) (n + 1) ts (λ i h. grind (arith, tests, h, same)))
          by_ends false e = subst (λ m. IsFalse (list_any test (chosen (λ i. nat_eq i m) n ts))) same (none_begin (place_of system host t) n ts (subst (λ b. Steady system host (if b then None else Some (place_of system host t)) ts) e st.2))

          by_test : (x : Bool) → test t ≡ x → IsTrue (x || list_any test (chosen (λ i. nat_eq i (suc k)) next ts)) → IsFalse (list_any test (chosen (λ i. nat_eq i (suc k)) next ts)) → IsTrue x
          by_test true f any none = refl
          by_test false f any none = absurd (both_ways (list_any test (chosen (λ i. nat_eq i (suc k)) next ts)) none any)

      by_number : ((m : ℕ) → m + is_some system host (after_one system host opened t) ≤ suc k → IsTrue (list_any test (chosen (λ i. nat_eq i (suc k)) m ts)) → SplitAt (after_one system host opened t) k m ts) →
          (b : Bool) → nat_eq n (suc k) ≡ b → IsTrue (list_any test ((if b then t ∷ [] else []) ++ chosen (λ i. nat_eq i (suc k)) next ts)) → SplitAt opened k n (t ∷ ts)
      by_number go true e any = first_of opened (grind (arith, tests, e)) low steady refl any
      by_number go false e any =
          let less : n ≤ k = grind (arith, tests, e, low) in
          let up_to : nat_le n k ≡ true = grind (arith, tests, less) in
          let its = go next (omega (arith, moved, less)) any in
          record {
            front = t ∷ its.front;
            first = its.first;
            rest = its.rest;
            joins = ap (λ l. t ∷ l) its.joins;
            below = ap (λ b. (if b then t ∷ [] else []) ++ chosen (λ i. nat_le i k) next ts) up_to ∙ ap (λ l. t ∷ l) its.below;
            closed = its.closed;
            steady = with_one its.front opened steady its.steady;
            tested = its.tested;
          }
        where
          with_one : (l : List Transfer) (o : Option (Option ℕ)) → Steady system host o (t ∷ ts) → Steady system host (after_one system host o t) l → Steady system host o (t ∷ l)
          with_one l None st more = (st.0, st.1, more)
          with_one l (Some p) st more = (st.0, st.1, st.2, more)

-- ---- for one agent

abbrev pub last_open : List Transfer → Bool
last_open [] = false
last_open (x ∷ []) = not x.ends
last_open (x ∷ y ∷ later) = last_open (y ∷ later)

module _ (system : System) (host agent : ℕ) where
  -- a command that is open there ends there
  goes_on_there : (ts : List Transfer) → Steady system host (Some (Some agent)) ts → after system host (Some (Some agent)) ts ≡ None → 0 < length (for_agent system host agent ts)
  unfolding Steady after
  goes_on_there [] steady closed = absurd cc
  goes_on_there (t ∷ ts) steady closed =
      let here : is_agent agent (place_of system host t) ≡ true = ap (is_agent agent) steady.2 ∙ (let same : nat_eq agent agent ≡ true = grind (arith, tests) in same) in
      rw here (omega arith)

  pub last_ends : (opened : Option (Option ℕ)) (ts : List Transfer) → Steady system host opened ts → after system host opened ts ≡ None → IsFalse (last_open (for_agent system host agent ts))
  unfolding Steady after
  last_ends opened [] steady closed = refl
  last_ends opened (t ∷ ts) steady closed =
      by_here (is_agent agent (place_of system host t)) refl (last_ends (after_one system host opened t) ts (rest_is system host opened t ts steady) closed) (for_agent system host agent ts) refl
    where
      by_here : (b : Bool) → is_agent agent (place_of system host t) ≡ b → IsFalse (last_open (for_agent system host agent ts)) → (l : List Transfer) → for_agent system host agent ts ≡ l → IsFalse (last_open (if b then t ∷ for_agent system host agent ts else for_agent system host agent ts))
      by_here false e more l f = more
      by_here true e more (y ∷ l) f = subst (λ l. IsFalse (last_open (t ∷ l))) (sym f) (subst (λ l. IsFalse (last_open l)) f more)
      by_here true e more [] f = subst (λ l. IsFalse (last_open (t ∷ l))) (sym f) (by_end t.ends refl)
        where
          by_end : (b : Bool) → t.ends ≡ b → IsFalse (not b)
          by_end true g = refl
          by_end false g =
              let place : place_of system host t ≡ Some agent = is_the_place agent (place_of system host t) e in
              let left : after_one system host opened t ≡ Some (Some agent) = rw g (ap Some place) in
              let some = goes_on_there ts (subst (λ o. Steady system host o ts) left (rest_is system host opened t ts steady)) (subst (λ o. after system host o ts ≡ None) left closed) in
              let none = ap length f in
              absurd (omega (arith, some, none))

-- where `more` is high on all but last beats
pub last_joined_is : (ms : List Marked) → Every (λ m. m.more ≡ not m.transfer.ends) ms → is_last_joined ms ≡ last_open (map (λ (m : Marked). m.transfer) ms)
last_joined_is [] all = refl
last_joined_is (m ∷ []) all = all.0
last_joined_is (m ∷ n ∷ ms) all = last_joined_is (n ∷ ms) all.1
