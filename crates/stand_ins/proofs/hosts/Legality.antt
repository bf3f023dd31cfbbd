-- Whatever `waitrequest` is, what a host shows by its steps is legal.
use Rattle.std.proofs.Common.{◌≡◌, ◌-◌, ◌^◌, ◌<◌, ◌≤◌, ℕ, zero, suc, Bool, true, false, not, ◌&&◌, ◌||◌, nat_eq, nat_lt, List, [], ◌∷◌, ◌++◌, length, map, replicate, All, IsTrue, if◌then◌else◌, refl, sym, ap, ◌∙◌, subst, arith}
use Rattle.std.proofs.lemmas.Bool.{and_parts}
use Rattle.std.proofs.lemmas.Bool.Decides.{nat_tests}
use Rattle.iface_roles.specs.declared.records.HostPort.{HostPort}
use Rattle.histories.specs.History.{is_raised, stands_on, is_first}
use Rattle.memory_runs.specs.Views.{Levels, Shape, HostView}
use Rattle.memory_runs.specs.Commands.{Burst, burst_after, burst_before, next_burst, longest_burst, presents, shows}
use Rattle.memory_runs.specs.Legal.{IsLegalHost, host_accepts}
use Rattle.memory_runs.specs.Sides.{host_side}
use Rattle.scenario_tables.specs.declared.statements.HostStatement.{HostStatement}
use Rattle.scenario_tables.specs.declared.statements.HostStatement.TheVariants.{Idle, Write, Read}
use Rattle.scenario_tables.specs.Statements.{FitsHost, longest_of}
use Rattle.stand_ins.specs.Steps.{Step, steps_of, all_steps, shown, left_after, write_beat}
use Rattle.stand_ins.specs.Steps.Step.{Rests, Presents}
use Rattle.stand_ins.specs.HostsStandIns.{left_before, IsHostStandIn}

-- the levels carry a command
abbrev pub carries : Levels → Bool
carries levels = is_raised levels.read || is_raised levels.write

-- beats of a write burst that are left behind this one
abbrev pub left_behind : ℕ → Levels → ℕ
left_behind left levels = if is_raised levels.write then (if nat_eq left 0 then levels.count - 1 else left - 1) else left

-- a beat that may stand where so many beats of a write burst are left
pub record IsBeatAt (longest left : ℕ) (levels : Levels) : Type 0 where
  pub one : IsTrue (not (is_raised levels.read && is_raised levels.write))
  pub carried : carries levels ≡ true
  pub some : 1 ≤ levels.count
  pub few : levels.count ≤ longest
  pub goes_on : nat_lt 0 left ≡ true → is_raised levels.read ≡ false

-- the steps go on where so many beats of a write burst are left
abbrev pub Follows : ℕ → ℕ → List Step → Type 0
Follows longest left [] = left ≡ 0
Follows longest left (Rests ∷ later) = (left ≡ 0) × Follows longest left later
Follows longest left (Presents levels ∷ later) = IsBeatAt longest left levels × Follows longest (left_behind left levels) later

-- ---- the steps of a script

follow_rests : (longest cycles : ℕ) (later : List Step) → Follows longest 0 later → Follows longest 0 (replicate cycles Rests ++ later)
follow_rests longest zero later h = h
follow_rests longest (suc cycles) later h = (refl, follow_rests longest cycles later h)

follow_beats : (port : HostPort) (longest address enables count : ℕ) (later : List Step) → 1 ≤ count → count ≤ longest → Follows longest 0 later →
    (words : List ℕ) (left : ℕ) → left ≡ length words →
    Follows longest left (map (λ word. Presents (write_beat port address enables count word)) words ++ later)
follow_beats port longest address enables count later some few h [] left is = subst (λ n. Follows longest n later) (sym is) h
follow_beats port longest address enables count later some few h (word ∷ words) left is =
    let behind : left_behind left (write_beat port address enables count word) ≡ length words = grind (arith, nat_tests) in (
      record { one = refl; carried = refl; some = some; few = few; goes_on = λ _. refl },
      follow_beats port longest address enables count later some few h words (left_behind left (write_beat port address enables count word)) behind,
    )

follow_write : (port : HostPort) (longest address enables : ℕ) (later : List Step) → Follows longest 0 later →
    (words : List ℕ) → 1 ≤ length words → length words ≤ longest →
    Follows longest 0 (map (λ word. Presents (write_beat port address enables (length words) word)) words ++ later)
follow_write port longest address enables later h [] some few = absurd (omega arith)
follow_write port longest address enables later h (word ∷ words) some few = (
  record { one = refl; carried = refl; some = some; few = few; goes_on = λ _. refl },
  follow_beats port longest address enables (length (word ∷ words)) later some few h words (length (word ∷ words) - 1) (omega arith),
)

follow_statement : (port : HostPort) (statement : HostStatement) (later : List Step) → FitsHost port statement → Follows (longest_of port) 0 later →
    Follows (longest_of port) 0 (steps_of port statement ++ later)
follow_statement port (Idle cycles) later fits h = follow_rests (longest_of port) cycles later h
follow_statement port (Write address enables words) later fits h = follow_write port (longest_of port) address enables later h words fits.command.some fits.command.few
follow_statement port (Read address enables count) later fits h =
    (record { one = refl; carried = refl; some = fits.command.some; few = fits.command.few; goes_on = λ absurdly. absurd (cc) }, h)

pub follow_script : (port : HostPort) (script : List HostStatement) → All (FitsHost port) script → Follows (longest_of port) 0 (all_steps port script)
follow_script port [] fits = refl
follow_script port (first ∷ later) fits =
    follow_statement port first (all_steps port later) (fits 0 first (omega arith)) (follow_script port later (λ k d less. fits (suc k) d (omega arith)))

-- ---- cycle by cycle

left_of_either : (test : Bool) (one other : Burst) → (if test then one else other).left ≡ (if test then one.left else other.left)
left_of_either true one other = refl
left_of_either false one other = refl

left_taken : (shape : Shape) (levels : Levels) (burst : Burst) → (burst_after shape levels true burst).left ≡ left_behind burst.left levels
left_taken shape levels burst =
    left_of_either (is_raised levels.write) (next_burst shape levels burst) burst
    ∙ ap (λ n. if is_raised levels.write then n else burst.left) (left_of_either (nat_eq burst.left 0) _ _)

one_cycle : (shape : Shape) (port : HostPort) (longest : ℕ) (burst : Burst) (left : List Step) (waits : Bool) → Follows longest burst.left left →
    Follows longest (burst_after shape (shown port left) (carries (shown port left) && not waits) burst).left (left_after left waits)
one_cycle shape port longest burst [] waits h = h
one_cycle shape port longest burst (Rests ∷ later) waits h = h.1
one_cycle shape port longest burst (Presents levels ∷ later) true h = rw h.0.carried h
one_cycle shape port longest burst (Presents levels ∷ later) false h =
    rw h.0.carried (subst (λ n. Follows longest n later) (sym (left_taken shape levels burst)) h.1)

-- a beat that waits is shown again
stays : (port : HostPort) (longest n : ℕ) (left : List Step) (waits : Bool) → Follows longest n left →
    (carries (shown port left) && not (carries (shown port left) && not waits)) ≡ true → shown port left ≡ shown port (left_after left waits)
stays port longest n [] waits h held = refl
stays port longest n (Rests ∷ later) waits h held = absurd (cc)
stays port longest n (Presents levels ∷ later) true h held = refl
stays port longest n (Presents levels ∷ later) false h held = absurd (cc (rw h.0.carried at held))

one_at_a_time : (port : HostPort) (longest n : ℕ) (left : List Step) → Follows longest n left →
    IsTrue (not (is_raised (shown port left).read && is_raised (shown port left).write))
one_at_a_time port longest n [] h = refl
one_at_a_time port longest n (Rests ∷ later) h = refl
one_at_a_time port longest n (Presents levels ∷ later) h = h.0.one

least : (port : HostPort) (longest n : ℕ) (left : List Step) → Follows longest n left → carries (shown port left) ≡ true → 1 ≤ (shown port left).count
least port longest n [] h shows = absurd (cc)
least port longest n (Rests ∷ later) h shows = absurd (cc)
least port longest n (Presents levels ∷ later) h shows = h.0.some

most : (port : HostPort) (longest n : ℕ) (left : List Step) → Follows longest n left → carries (shown port left) ≡ true → (shown port left).count ≤ longest
most port longest n [] h shows = absurd (cc)
most port longest n (Rests ∷ later) h shows = absurd (cc)
most port longest n (Presents levels ∷ later) h shows = h.0.few

finished : (port : HostPort) (longest n : ℕ) (left : List Step) → Follows longest n left → nat_lt 0 n ≡ true → is_raised (shown port left).read ≡ false
finished port longest n [] h under_way = refl
finished port longest n (Rests ∷ later) h under_way = refl
finished port longest n (Presents levels ∷ later) h under_way = h.0.goes_on under_way

-- ---- a whole run

first_is_shown : (shown accepts : ℕ → Bool) (c : ℕ) → is_first shown accepts c ≡ true → shown c ≡ true
first_is_shown shown accepts zero first = first
first_is_shown shown accepts (suc c) first = (and_parts (shown (suc c)) (not (stands_on shown accepts c)) first).0

longest_is : (port : HostPort) → longest_of port ≡ longest_burst (host_side port).shape.burst_bits
longest_is port = elim (port.burst_bits) as (λ bits. 2 ^ (bits - 1) ≡ 2 ^ ((if nat_eq bits 0 then 1 else bits) - 1)) [ zero ↦ refl | suc n ↦ grind (arith, nat_tests) ]

module _ (port : HostPort) (script : List HostStatement) (view : HostView) (end : ℕ) (fits : All (FitsHost port) script) (stand_in : IsHostStandIn port script view end) where
  burst_at : ℕ → Burst
  burst_at c = burst_before (host_side port).shape view.signals (host_accepts view) c

  left_at : ℕ → List Step
  left_at c = left_before (all_steps port script) view.waitrequest c

  follow_at : (c : ℕ) → c ≤ end → Follows (longest_of port) (burst_at c).left (left_at c)
  unfolding burst_at left_at
  follow_at zero low = follow_script port script fits
  follow_at (suc c) low =
      subst
      (λ levels. Follows (longest_of port) (burst_after (host_side port).shape levels (carries levels && not (is_raised (view.waitrequest c))) (burst_at c)).left (left_at (suc c)))
      (sym (stand_in c (omega arith)))
      (one_cycle (host_side port).shape port (longest_of port) (burst_at c) (left_at c) (is_raised (view.waitrequest c)) (follow_at c (omega arith)))

  carried : (c : ℕ) → c < end → presents view.signals (host_accepts view) c ≡ true → carries (shown port (left_at c)) ≡ true
  unfolding left_at
  carried c low first = subst (λ levels. carries levels ≡ true) (stand_in c low) (first_is_shown (shows view.signals) (host_accepts view) c first)

  pub legal : IsLegalHost (host_side port) view end
  unfolding burst_at left_at
  legal = record {
    one_kind = λ c low. subst (λ (levels : Levels). IsTrue (not (is_raised levels.read && is_raised levels.write))) (sym (stand_in c low)) (one_at_a_time port (longest_of port) (burst_at c).left (left_at c) (follow_at c (omega arith)));
    held = λ c low held. stand_in c (omega arith) ∙ stays port (longest_of port) (burst_at c).left (left_at c) (is_raised (view.waitrequest c)) (follow_at c (omega arith))
        (subst (λ levels. (carries levels && not (carries levels && not (is_raised (view.waitrequest c)))) ≡ true) (stand_in c (omega arith)) held)
        ∙ sym (stand_in (suc c) low);
    least = λ c low first _. subst (λ (levels : Levels). 1 ≤ levels.count) (sym (stand_in c low)) (least port (longest_of port) (burst_at c).left (left_at c) (follow_at c (omega arith)) (carried c low first));
    most = λ c low first _. subst (λ (levels : Levels). levels.count ≤ longest_burst (host_side port).shape.burst_bits) (sym (stand_in c low))
        (subst (λ n. (shown port (left_at c)).count ≤ n) (longest_is port) (most port (longest_of port) (burst_at c).left (left_at c) (follow_at c (omega arith)) (carried c low first)));
    finished = λ c low under_way. subst (λ (levels : Levels). is_raised levels.read ≡ false) (sym (stand_in c low)) (finished port (longest_of port) (burst_at c).left (left_at c) (follow_at c (omega arith)) under_way);
  }
