-- Two sides whose bursts are the same as far as a beat can tell.
use Rattle.std.proofs.Common.{ℕ, suc, ◌<◌, ◌≡◌, [], ◌∷◌, ◌++◌, Bool, true, false, not, ◌&&◌, ◌||◌, if◌then◌else◌, nat_lt, nat_eq, arith, refl, sym, ap, ap₂, ◌∙◌}
use Rattle.std.proofs.lemmas.Bool.{and_parts, eqb-true, ltb-false}
use Rattle.std.specs.List.{list_all}
use Rattle.std.proofs.lemmas.List.Folds.{list_all-append}
use Rattle.histories.specs.History.{is_raised, only_if}
use Rattle.histories.specs.Laws.{shown_is_accepted_and_standing}
use Rattle.memory_runs.specs.Views.{Shape, Levels}
use Rattle.memory_runs.specs.Commands.{Burst, Transfer, burst_after, next_burst, transfer_of, write_transfer, read_transfer, shows, is_held}
use Rattle.memory_machines.specs.Link.{Port, Marked, AreLegalAt, takes, marked_at, taken_at, shown_at}
use Rattle.memory_machines.specs.Machines.{IsFitBeat, Raw}
use Rattle.memory_machines.specs.SideLaws.{marked_keeps}

pub record IsSameBurst (one other : Burst) : Type 0 where
  pub left : one.left ≡ other.left
  pub all : nat_eq one.left 0 ≡ false → one ≡ other

pub both_idle : (one other : Burst) → one.left ≡ 0 → other.left ≡ 0 → IsSameBurst one other
both_idle one other a b = record { left = a ∙ sym b; all = λ e. let is : nat_eq one.left 0 ≡ true = ap (λ n. nat_eq n 0) a in let bad : ⊥ = cc in absurd bad }

pub same_all : (one other : Burst) → one ≡ other → IsSameBurst one other
same_all one other e = record { left = ap (λ (b : Burst). b.left) e; all = λ _. e }

pub same_back : (one other : Burst) → IsSameBurst one other → IsSameBurst other one
same_back one other same = record { left = sym same.left; all = λ e. sym (same.all (ap (λ n. nat_eq n 0) same.left ∙ e)) }

pub same_transfer : (shape : Shape) (levels : Levels) (one other : Burst) → IsSameBurst one other → transfer_of shape levels one ≡ transfer_of shape levels other
same_transfer shape levels one other same = by_test (nat_eq one.left 0) refl
  where
    by_test : (b : Bool) → nat_eq one.left 0 ≡ b → transfer_of shape levels one ≡ transfer_of shape levels other
    by_test true is = let there : nat_eq other.left 0 ≡ true = ap (λ n. nat_eq n 0) (sym same.left) ∙ is in rw (is, there) refl
    by_test false is = ap (transfer_of shape levels) (same.all is)

pub same_after : (shape : Shape) (levels : Levels) (t : Bool) (one other : Burst) → IsSameBurst one other → IsSameBurst (burst_after shape levels t one) (burst_after shape levels t other)
same_after shape levels t one other same = by_test (t && is_raised levels.write) (nat_eq one.left 0) refl
  where
    by_test : (b e : Bool) → nat_eq one.left 0 ≡ e → IsSameBurst (if b then next_burst shape levels one else one) (if b then next_burst shape levels other else other)
    by_test false e is = same
    by_test true true is = let there : nat_eq other.left 0 ≡ true = ap (λ n. nat_eq n 0) (sym same.left) ∙ is in rw (is, there) (same_all _ _ refl)
    by_test true false is = same_all _ _ (ap (next_burst shape levels) (same.all is))

pub same_fit : (shape : Shape) (raw : Raw) (one other : Burst) → IsSameBurst one other → IsFitBeat shape one raw → IsFitBeat shape other raw
same_fit shape raw one other same fit = record {
  one_kind = fit.one_kind;
  least = λ free. fit.least (ap (nat_lt 0) same.left ∙ free);
  most = λ free. fit.most (ap (nat_lt 0) same.left ∙ free);
  finished = λ under. fit.finished (ap (nat_lt 0) same.left ∙ under);
  joined = ap (λ (t : Transfer). t.ends || is_raised raw.more) (sym (same_transfer shape raw.levels one other same)) ∙ fit.joined;
}

-- a beat that ends its command leaves no burst under way
pub ended_idle : (shape : Shape) (raw : Raw) (burst : Burst) → IsFitBeat shape burst raw → (is_raised raw.levels.read || is_raised raw.levels.write) ≡ true → (transfer_of shape raw.levels burst).ends ≡ true → (burst_after shape raw.levels true burst).left ≡ 0
ended_idle shape raw burst fit shown ends = by_both (is_raised raw.levels.write) (nat_eq burst.left 0) refl refl
  where
    by_both : (w l : Bool) → is_raised raw.levels.write ≡ w → nat_eq burst.left 0 ≡ l → (burst_after shape raw.levels true burst).left ≡ 0
    by_both true true w l =
        let one : nat_eq raw.levels.count 1 ≡ true = sym (ap (λ b. if b then nat_eq raw.levels.count 1 else nat_eq burst.left 1) l) ∙ sym (ap (λ b. (if b then write_transfer shape raw.levels burst else read_transfer shape raw.levels).ends) w) ∙ ends in
        let count = eqb-true raw.levels.count 1 one in
        rw (w, l) (omega (arith, count))
    by_both true false w l =
        let one : nat_eq burst.left 1 ≡ true = sym (ap (λ b. if b then nat_eq raw.levels.count 1 else nat_eq burst.left 1) l) ∙ sym (ap (λ b. (if b then write_transfer shape raw.levels burst else read_transfer shape raw.levels).ends) w) ∙ ends in
        let last = eqb-true burst.left 1 one in
        rw (w, l) (omega (arith, last))
    by_both false l w e = rw w (idle (nat_lt 0 burst.left) refl)
      where
        idle : (b : Bool) → nat_lt 0 burst.left ≡ b → burst.left ≡ 0
        idle false free = let none = ltb-false 0 burst.left free in omega (arith, none)
        idle true under = let quiet = fit.finished under in let bad : ⊥ = cc in absurd bad

-- the beat that a legal side shows is among those that it has shown
pub shown_passes : (f : Marked → Bool) (port : Port) (end c : ℕ) → AreLegalAt port end → c < end → list_all f (shown_at port (suc c)) ≡ true → shows port.commands.signals c ≡ true → f (marked_at port c) ≡ true
shown_passes f port end c legal low all shown =
    let split = shown_is_accepted_and_standing _ _ (marked_at port) end (suc c) (marked_keeps port end legal) low in
    let both = sym (list_all-append f (taken_at port (suc c)) (only_if (is_held port.commands.signals (takes port) c) (marked_at port c))) ∙ ap (list_all f) (sym split) ∙ all in
    let parts = and_parts (list_all f (taken_at port (suc c))) (list_all f (only_if (is_held port.commands.signals (takes port) c) (marked_at port c))) both in
    by_taken (takes port c) refl parts.0 parts.1
  where
    by_taken : (b : Bool) → takes port c ≡ b → list_all f (taken_at port c ++ only_if (takes port c) (marked_at port c)) ≡ true → list_all f (only_if (is_held port.commands.signals (takes port) c) (marked_at port c)) ≡ true → f (marked_at port c) ≡ true
    by_taken true is first second =
        let front = sym (list_all-append f (taken_at port c) (marked_at port c ∷ [])) ∙ ap (λ b. list_all f (taken_at port c ++ only_if b (marked_at port c))) (sym is) ∙ first in
        (and_parts (f (marked_at port c)) true (and_parts (list_all f (taken_at port c)) (list_all f (marked_at port c ∷ [])) front).1).0
    by_taken false is first second = (and_parts (f (marked_at port c)) true (ap₂ (λ s t. list_all f (only_if (s && not t) (marked_at port c))) (sym shown) (sym is) ∙ second)).0
