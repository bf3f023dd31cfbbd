-- Small facts on beats, bursts and the words that are asked.
use Rattle.std.proofs.Common.{ℕ, zero, suc, ◌<◌, ◌≤◌, ◌≡◌, ◌-◌, Bool, true, false, not, ◌||◌, List, [], ◌∷◌, ◌++◌, arith, refl, sym, ap, subst, ◌∙◌, nat_lt, length, map, take, drop, filter, flat_map, IsTrue, IsFalse, tests, if◌then◌else◌, append-nil, Option, Some, None}
use Rattle.std.proofs.lemmas.Bool.{and_parts, or_left}
use Rattle.std.proofs.lemmas.List.Elements.{filter-append}
use Rattle.std.proofs.lemmas.Grind.{flat_map-append}
use Rattle.std.specs.List.{list_any, list_all}
use Rattle.histories.specs.History.{is_raised}
use Rattle.memory_runs.specs.Views.{System, Shape, Signals, Levels}
use Rattle.memory_runs.specs.Operations.{Beat}
use Rattle.memory_runs.specs.Commands.{is_held, Transfer, Burst, shows, burst_before, is_of_reads}
use Rattle.memory_runs.specs.Legal.{AreLegal, is_under_way}
use Rattle.memory_runs.specs.Order.{Asked, place_of}
use Rattle.memory_runs.specs.Awake.{is_place}
use Rattle.memory_machines.specs.Lines.{asked_among}
use Rattle.memory_waits.proofs.Bits.{no_true, not_by, both}

abbrev pub asked_one : Option ℕ → Beat → Asked
asked_one place beat = record { place = place; beat = beat }

pub is_the_place : (a : ℕ) (place : Option ℕ) → IsTrue (is_place (Some a) place) → place ≡ Some a
is_the_place a None h = absurd (no_true h)
is_the_place a (Some b) h = let same : a ≡ b = grind (arith, tests, h) in ap Some (sym same)

pub same_place : (p r : Option ℕ) → IsTrue (is_place p r) → r ≡ p
same_place None None h = refl
same_place None (Some b) h = absurd (no_true h)
same_place (Some a) r h = is_the_place a r h

pub place_self : (place : Option ℕ) → IsTrue (is_place place place)
place_self None = refl
place_self (Some a) = grind (arith, tests)

-- ---- words that are asked
pub asked_append : (system : System) (host : ℕ) (xs ys : List Transfer) → asked_among system host (xs ++ ys) ≡ asked_among system host xs ++ asked_among system host ys
asked_append system host xs ys = ap (λ l. flat_map (λ (t : Transfer). map (λ b. asked_one (place_of system host t) b) t.beats) l) (filter-append (λ (t : Transfer). is_of_reads t.kind) xs ys)
    ∙ flat_map-append (λ (t : Transfer). map (λ b. asked_one (place_of system host t) b) t.beats) (filter (λ (t : Transfer). is_of_reads t.kind) xs) (filter (λ (t : Transfer). is_of_reads t.kind) ys)

-- the words of one transfer are asked of its place
pub all_of_transfer : (system : System) (host : ℕ) (t : Transfer) → IsTrue (list_all (λ (q : Asked). is_place (place_of system host t) q.place) (asked_among system host (t ∷ [])))
all_of_transfer system host t = by_kind (is_of_reads t.kind)
  where
    all_asked_of : (place : Option ℕ) (beats : List Beat) → IsTrue (list_all (λ (q : Asked). is_place place q.place) (map (λ b. asked_one place b) beats))
    all_asked_of place [] = refl
    all_asked_of place (b ∷ beats) = both _ _ (place_self place) (all_asked_of place beats)

    by_kind : (b : Bool) → IsTrue (list_all (λ (q : Asked). is_place (place_of system host t) q.place) (flat_map (λ (t : Transfer). map (λ b. asked_one (place_of system host t) b) t.beats) (if b then t ∷ [] else [])))
    by_kind true = subst (λ l. IsTrue (list_all (λ (q : Asked). is_place (place_of system host t) q.place) l)) (sym (append-nil (map (λ b. asked_one (place_of system host t) b) t.beats))) (all_asked_of (place_of system host t) t.beats)
    by_kind false = refl

-- the word past so many is asked of a place
abbrev pub next_at : Option ℕ → ℕ → List Asked → Bool
next_at place g l = list_any (λ (q : Asked). is_place place q.place) (take 1 (drop g l))

pub next_here : (place : Option ℕ) (g : ℕ) (xs ys : List Asked) → IsTrue (list_all (λ (q : Asked). is_place place q.place) xs) → g < length xs → IsTrue (next_at place g (xs ++ ys))
next_here place g [] ys all h = absurd (omega (arith, h))
next_here place zero (x ∷ xs) ys all h = or_left (is_place place x.place) _ (and_parts (is_place place x.place) _ all).0
next_here place (suc g) (x ∷ xs) ys all h = next_here place g xs ys (and_parts (is_place place x.place) _ all).1 (omega (arith, h))

-- what is next stays next as more is asked
pub next_stays : (place : Option ℕ) (g : ℕ) (xs ys : List Asked) → IsTrue (next_at place g xs) → IsTrue (next_at place g (xs ++ ys))
next_stays place zero [] ys h = absurd (no_true h)
next_stays place zero (x ∷ xs) ys h = h
next_stays place (suc g) [] ys h = absurd (no_true h)
next_stays place (suc g) (x ∷ xs) ys h = next_stays place g xs ys h

pub drop_past : {A : Type 0} (g : ℕ) (xs ys : List A) → length xs ≤ g → drop g (xs ++ ys) ≡ drop (g - length xs) ys
drop_past {A} g [] ys h = ap (λ n. drop n ys) (omega arith)
drop_past {A} zero (x ∷ xs) ys h = absurd (omega (arith, h))
drop_past {A} (suc g) (x ∷ xs) ys h = drop_past g xs ys (omega (arith, h)) ∙ ap (λ n. drop n ys) (omega arith)

-- ---- bursts
module _ (shape : Shape) (signals : Signals) (accepts : ℕ → Bool) (end : ℕ) (legal : AreLegal shape signals accepts end) where
  under : ℕ → Bool
  under c = is_under_way shape signals accepts c

  -- a burst that begins has a beat
  pub some_beat : (c : ℕ) → c < end → IsTrue (shows signals c) → IsFalse (is_under_way shape signals accepts c) → 1 ≤ signals.count c
  some_beat zero h shown free = legal.least zero h shown free
  some_beat (suc c) h shown free = by_held (is_held signals accepts c) refl (some_beat c (omega (arith, h)))
    where
      by_accept : (a : Bool) → accepts c ≡ a → IsTrue (is_held signals accepts c) → IsFalse (is_under_way shape signals accepts c)
      by_accept true e held = absurd (no_true (sym (ap not e) ∙ (and_parts (shows signals c) (not (accepts c)) held).1))
      by_accept false e held = let same : burst_before shape signals accepts (suc c) ≡ burst_before shape signals accepts c = rw e refl in subst (λ (b : Burst). IsFalse (nat_lt 0 b.left)) same free

      by_held : (b : Bool) → is_held signals accepts c ≡ b → (IsTrue (shows signals c) → IsFalse (is_under_way shape signals accepts c) → 1 ≤ signals.count c) → 1 ≤ signals.count (suc c)
      by_held true e more =
          let same = ap (λ (l : Levels). l.count) (legal.held c h e) in
          let m = more (and_parts (shows signals c) (not (accepts c)) e).0 (by_accept (accepts c) refl e) in
          omega (arith, same, m)
      by_held false e more = legal.least (suc c) h (both _ _ shown (not_by (is_held signals accepts c) e)) free

  -- while a write burst is under way, what is shown is a write
  pub writes_on : (c : ℕ) → c < end → IsTrue (is_under_way shape signals accepts c) → IsTrue (shows signals c) → IsTrue (is_raised (signals.write c))
  writes_on c h under shown = second (is_raised (signals.read c)) (is_raised (signals.write c)) (legal.finished c h under) shown
    where
      second : (r w : Bool) → IsFalse r → IsTrue (r || w) → IsTrue w
      second true w f s = absurd cc
      second false w f s = s
