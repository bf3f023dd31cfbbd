-- Runs in which a wanted agent, or the default agent, waits for ever, and the record that each breaks.
use Rattle.std.proofs.Common.{ℕ, ◌<◌, ◌≤◌, ◌≡◌, ◌&&◌, ◌||◌, None, Some, arith, refl, IsTrue, false}
use Rattle.histories.specs.Below.{each_below}
use Rattle.histories.specs.History.{is_raised}
use Rattle.memory_runs.specs.Commands.{shows}
use Rattle.memory_runs.specs.Order.{is_agent}
use Rattle.memory_runs.specs.Awake.{ServesWithin, IsWanted, serves, ServesDefaultWithin, is_wanted_at_default, is_given_from, is_written_to}
use Rattle.memory_machines.specs.Link.{takes, marked_at, AreLegalAt, AnswersAreOwed}
use Rattle.memory_machines.specs.Lines.{TaggedPort}
use Rattle.memory_machines.specs.Rank.{LinkRankFalls}
use Rattle.memory_parts.specs.Steps.{IsRoutePart, place_shown, is_open, IsArbiterPart}
use Rattle.memory_awake.specs.Front.{IsFront, IsDefaultFront}
use Rattle.runs_tests.specs.MoreExamples.{byte_target}
use Rattle.runs_tests.specs.IdleRows.{pair_system, two_places, held_run, held_below, swallow_run, read_port, passing_run, passing_down, stray_system, stray_run, mistagged, limited_top, limited_down, sets_top, sets_down}
use Rattle.runs_tests.proofs.memory.ShortRuns.{legal_by_cycles}

no_true : IsTrue false → ⊥
no_true h = cc

pub held : IsFront pair_system held_run 0 0 (held_below 0) 5 → ⊥
held f = no_true (f.shown 1 (omega arith) refl refl)

pub swallows : IsFront pair_system swallow_run 0 0 (read_port 1) 5 → ⊥
swallows f = no_true (f.owed 1 (omega arith) refl)

pub starves : IsFront two_places passing_run 0 0 (passing_down 0) 5 → ⊥
starves f = let bad = f.taken 1 (omega arith) in absurd (omega (arith, bad))

pub default : IsDefaultFront stray_system stray_run 0 5 → ⊥
default f = no_true (f.gives 1 (omega arith) (f.beats 0 (omega arith) refl refl))

pub held_asleep : ServesWithin 3 pair_system held_run 0 5 → ⊥
held_asleep awake =
    let wanted = λ (c : ℕ) (low : 2 ≤ c) (high : c < 5). each_below (λ c. 2 ≤ c → IsWanted pair_system held_run 0 1 1 c) 5 c
    (((((tt, λ low. absurd (omega (arith, low))), λ low. absurd (omega (arith, low))), λ low. record { oldest = refl; for_agent = refl; ready = refl; answered = refl; bursts = refl }), λ low. record { oldest = refl; for_agent = refl; ready = refl; answered = refl; bursts = refl }), λ low. record { oldest = refl; for_agent = refl; ready = refl; answered = refl; bursts = refl }) high low in
    let served = awake 2 1 1 (omega arith) (omega arith) wanted in
    each_below (λ c. 2 ≤ c → IsTrue (serves pair_system held_run 0 c) → ⊥) 5 served.0 (((((tt, λ low h. absurd (omega (arith, low))), λ low h. absurd (omega (arith, low))), λ low h. cc), λ low h. cc), λ low h. cc) served.2 served.1 served.3

pub swallow_asleep : ServesWithin 3 pair_system swallow_run 0 5 → ⊥
swallow_asleep awake =
    let wanted = λ (c : ℕ) (low : 2 ≤ c) (high : c < 5). each_below (λ c. 2 ≤ c → IsWanted pair_system swallow_run 0 0 1 c) 5 c
    (((((tt, λ low. absurd (omega (arith, low))), λ low. absurd (omega (arith, low))), λ low. record { oldest = refl; for_agent = refl; ready = refl; answered = refl; bursts = refl }), λ low. record { oldest = refl; for_agent = refl; ready = refl; answered = refl; bursts = refl }), λ low. record { oldest = refl; for_agent = refl; ready = refl; answered = refl; bursts = refl }) high low in
    let served = awake 2 0 1 (omega arith) (omega arith) wanted in
    each_below (λ c. 2 ≤ c → IsTrue (serves pair_system swallow_run 0 c) → ⊥) 5 served.0 (((((tt, λ low h. absurd (omega (arith, low))), λ low h. absurd (omega (arith, low))), λ low h. cc), λ low h. cc), λ low h. cc) served.2 served.1 served.3

pub stray_asleep : ServesDefaultWithin 3 stray_system stray_run 5 → ⊥
stray_asleep awake =
    let served = awake 0 0 1 (omega arith) (omega arith) (λ c low high. each_below (λ c. IsTrue (is_wanted_at_default stray_system stray_run 0 1 c)) 3 c (((tt, refl), refl), refl) high) in
    each_below (λ c. IsTrue (is_given_from stray_system stray_run None c 0 || is_written_to stray_system stray_run None c 0) → ⊥) 3 served.0 (((tt, λ h. cc), λ h. cc), λ h. cc) served.2 served.3

pub passing_asleep : ServesWithin 3 two_places passing_run 0 5 → ⊥
passing_asleep awake =
    let wanted = λ (c : ℕ) (low : 2 ≤ c) (high : c < 5). each_below (λ c. 2 ≤ c → IsWanted two_places passing_run 0 0 1 c) 5 c
    (((((tt, λ low. absurd (omega (arith, low))), λ low. absurd (omega (arith, low))), λ low. record { oldest = refl; for_agent = refl; ready = refl; answered = refl; bursts = refl }), λ low. record { oldest = refl; for_agent = refl; ready = refl; answered = refl; bursts = refl }), λ low. record { oldest = refl; for_agent = refl; ready = refl; answered = refl; bursts = refl }) high low in
    let served = awake 2 0 1 (omega arith) (omega arith) wanted in
    each_below (λ c. 2 ≤ c → IsTrue (serves two_places passing_run 0 c) → ⊥) 5 served.0 (((((tt, λ low h. absurd (omega (arith, low))), λ low h. absurd (omega (arith, low))), λ low h. cc), λ low h. cc), λ low h. cc) served.2 served.1 served.3

pub splitter_falls_not : (rank : ℕ → ℕ) → LinkRankFalls byte_target sets_top sets_down rank 0 4 → ⊥
splitter_falls_not rank f = let most = f.bounded 2 (omega arith) in let down = f.falls 2 (omega arith) refl refl refl in omega (arith, most, down)

pub tag_refused : (down : TaggedPort) → IsArbiterPart pair_system 0 mistagged down 1 → ⊥
tag_refused down part = let bad : 7 ≡ 0 = part.own_tag 0 0 (omega arith) refl in absurd (omega (arith, bad))

four : (P : ℕ → Type 0) → P 0 → P 1 → P 2 → P 3 → (c : ℕ) → c < 4 → P c
four P a b d e c h = each_below P 4 c ((((tt, a), b), d), e) h

two : (P : ℕ → Type 0) → P 0 → P 1 → (a : ℕ) → a < 2 → P a
two P x y a h = each_below P 2 a ((tt, x), y) h

legal_down : (a : ℕ) → a < 2 → AreLegalAt (limited_down a) 4
legal_down = two (λ a. AreLegalAt (limited_down a) 4)
    (legal_by_cycles (limited_down 0) 4 ((((tt, λ x. cc), λ x. cc), λ x. cc), λ x. cc) ((((tt, refl), refl), refl), refl) ((((tt, omega arith), omega arith), omega arith), omega arith) ((((tt, omega arith), omega arith), omega arith), omega arith) ((((tt, λ x. cc), λ x. cc), λ x. cc), λ x. cc) ((((tt, λ x. cc), λ x. cc), λ x. cc), λ x. refl))
    (legal_by_cycles (limited_down 1) 4 ((((tt, λ x. cc), λ x. cc), λ x. cc), λ x. cc) ((((tt, refl), refl), refl), refl) ((((tt, omega arith), omega arith), omega arith), omega arith) ((((tt, omega arith), omega arith), omega arith), omega arith) ((((tt, λ x. cc), λ x. cc), λ x. cc), λ x. cc) ((((tt, λ x. refl), λ x. cc), λ x. cc), λ x. cc))

-- the place of what is shown is one of the two
low_zero : {a : ℕ} → Some 0 ≡ Some a → a < 2
low_zero {a} e = let same : 0 ≡ a = cc in omega (arith, same)

low_one : {a : ℕ} → Some 1 ≡ Some a → a < 2
low_one {a} e = let same : 1 ≡ a = cc in omega (arith, same)

pub limiter_is_a_route : IsRoutePart two_places 0 limited_top limited_down 4
limiter_is_a_route = record {
  places = λ c a h shown place. four (λ c. IsTrue (shows limited_top.commands.signals c) → place_shown two_places 0 limited_top c ≡ Some a → a < 2) (λ x e. low_one e) (λ x e. low_zero e) (λ x e. low_zero e) (λ x e. low_zero e) c h shown place;
  shape = λ a low. two (λ a. (limited_down a).shape ≡ limited_top.shape) refl refl a low;
  shown = λ a c low h. two (λ a. (c : ℕ) → c < 4 → shows (limited_down a).commands.signals c ≡ (shows limited_top.commands.signals c && is_agent a (place_shown two_places 0 limited_top c) && is_open two_places 0 limited_top (Some a) c)) (four _ refl refl refl refl) (four _ refl refl refl refl) a low c h;
  accepts = λ a c low h. two (λ a. (c : ℕ) → c < 4 → IsTrue (is_agent a (place_shown two_places 0 limited_top c)) → takes limited_top c ≡ takes (limited_down a) c) (four _ (λ x. cc) (λ x. refl) (λ x. refl) (λ x. refl)) (four _ (λ x. refl) (λ x. cc) (λ x. cc) (λ x. cc)) a low c h;
  default = four _ (λ e. cc) (λ e. cc) (λ e. cc) (λ e. cc);
  same = λ a c low h. two (λ a. (c : ℕ) → c < 4 → IsTrue (shows (limited_down a).commands.signals c) → (marked_at (limited_down a) c).transfer ≡ (marked_at limited_top c).transfer) (four _ (λ x. cc) (λ x. cc) (λ x. cc) (λ x. refl)) (four _ (λ x. refl) (λ x. cc) (λ x. cc) (λ x. cc)) a low c h;
  level = λ a c low h. two (λ a. (c : ℕ) → c < 4 → IsTrue (shows (limited_down a).commands.signals c) → is_raised ((limited_down a).commands.write c) ≡ is_raised (limited_top.commands.write c)) (four _ (λ x. cc) (λ x. cc) (λ x. cc) (λ x. refl)) (four _ (λ x. refl) (λ x. cc) (λ x. cc) (λ x. cc)) a low c h;
  more = λ a c low h x. two (λ a. (marked_at (limited_down a) c).more ≡ (marked_at limited_top c).more) refl refl a low;
  words = four _ refl refl refl refl;
  owed = λ a low. two (λ a. AnswersAreOwed (limited_down a) 4) (four _ (omega arith) (omega arith) (omega arith) (omega arith)) (four _ (omega arith) (omega arith) (omega arith) (omega arith)) a low;
  legal = λ a low. legal_down a low;
}
