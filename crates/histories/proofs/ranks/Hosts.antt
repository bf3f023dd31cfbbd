-- With several hosts: a part at work leads to one that must act, on its own host's path, at the arbiter, below it, or on the path of the host whose command is under way.
use Rattle.std.proofs.Common.{◌≡◌, ℕ, zero, suc, ◌<◌, Bool, true, false, not, ◌&&◌, ◌||◌, arith, refl, IsTrue, inl, inr, ◌⊎◌, tests}
use Rattle.histories.specs.Path.{stands, works, waits_for_rest, writing, must_act}
use Rattle.histories.specs.Junction.{Junction, IsSoundJunction, any_below, waits_for, asks, arbiter_works, arbiter_must_act}
use Rattle.histories.proofs.ranks.Descent.{rests, not_below, climb, settle, settle_below}
use Rattle.std.proofs.lemmas.Bool.{or_left, or_right, and_parts}
use Rattle.histories.proofs.ranks.Cases.{less_or_same, by_cases}
use Rattle.histories.specs.RanksLaws.{idle_not}

-- a test that holds of some number holds of one below
pub some_below : (test : ℕ → Bool) (n : ℕ) → IsTrue (any_below test n) → (k : ℕ) × (k < n) × IsTrue (test k)
some_below test zero h = absurd cc
some_below test (suc n) h = by_test (test n) refl h (some_below test n)
  where
    by_test : (b : Bool) → test n ≡ b → IsTrue (b || any_below test n) → (IsTrue (any_below test n) → (k : ℕ) × (k < n) × IsTrue (test k)) → (k : ℕ) × (k < suc n) × IsTrue (test k)
    by_test true e h more = (n, omega arith, e)
    by_test false e h more = let found = more h in (found.0, omega (arith, found.1), found.2)

pub any_of : (test : ℕ → Bool) (n k : ℕ) → k < n → IsTrue (test k) → IsTrue (any_below test n)
any_of test zero k h holds = absurd (omega (arith, h))
any_of test (suc n) k h holds = by_place (less_or_same k n h) (any_of test n k)
  where
    by_place : (k < n) ⊎ (k ≡ n) → (k < n → IsTrue (test k) → IsTrue (any_below test n)) → IsTrue (test n || any_below test n)
    by_place (inl less) more = or_right (test n) (any_below test n) (more less holds)
    by_place (inr same) more = let here : IsTrue (test n) = rw same at holds in rw here refl

-- what to do with a part that must act
pub record Acts (j : Junction) (seen : ℕ → Bool) (R : Type 0) : Type 0 where
  pub covers : (h : ℕ) → h < j.hosts → IsTrue (waits_for j h) → IsTrue (seen h)
  pub lower : (i : ℕ) → i < suc j.below → IsTrue (must_act j.lower i) → R
  pub arbiter : IsTrue (arbiter_must_act j) → R
  -- on the path of a host that is seen
  pub upper : (h i : ℕ) → h < j.hosts → IsTrue (seen h) → i < j.above h → IsTrue (must_act (j.upper h) i) → R

not_all : (op sh free : Bool) → (IsTrue op → IsTrue sh) → IsTrue (op && not sh && free) → ⊥
not_all true true free c h = cc
not_all true false free c h = let bad : IsTrue false = c refl in cc
not_all false sh free c h = cc

owed_or_open : (s o op lw : Bool) → IsTrue o → IsTrue op ⊎ IsTrue (s || (o && not (op && lw)))
owed_or_open s o true lw h = inl refl
owed_or_open true o false lw h = inr refl
owed_or_open false o false lw h = inr (grind (arith, tests))

-- at the top the host shows what is under way
shown_at_top : {R : Type 0} (j : Junction) → IsSoundJunction j → (h : ℕ) → h < j.hosts → IsTrue (waits_for_rest (j.upper h) (j.above h)) → R
shown_at_top j sound h low waits = absurd (not_all ((j.upper h).unclosed (j.above h)) ((j.upper h).shown (j.above h)) _ (sound.upper h low).top waits)

-- the arbiter waits for the rest of a host's command: that host's path has to act
pub from_waiting : {R : Type 0} {seen : ℕ → Bool} (j : Junction) → IsSoundJunction j → Acts j seen R → (h : ℕ) → h < j.hosts → IsTrue (waits_for j h) → R
from_waiting j sound acts h low waits =
    climb (j.upper h) (j.above h) (shown_at_top j sound h low) (λ i h'. acts.upper h i low (acts.covers h low waits) h') (j.above h) 0 (omega arith) (omega arith) waits

-- where something is asked below the arbiter. A part there may wait for the rest of a command at the arbiter's lower port; then the arbiter has work and nothing stands or is owed there
pub from_below : {R : Type 0} {seen : ℕ → Bool} (j : Junction) → IsSoundJunction j → Acts j seen R → (IsTrue (waits_for_rest j.lower (suc j.below)) → R) → IsTrue (stands j.lower (suc j.below) || (j.lower.owed (suc j.below) && not (writing j.lower (suc j.below)))) → R
from_below j sound acts top asked =
    settle_below j.lower (suc j.below) sound.lower top (λ b. absurd (idle_not (stands j.lower 0) (j.lower.owed 0) (writing j.lower 0) sound.idle b)) acts.lower (suc j.below) (omega arith) asked

-- from below, the rest of a command is waited for at the arbiter
pub from_rest : {R : Type 0} {seen : ℕ → Bool} (j : Junction) → IsSoundJunction j → Acts j seen R → IsTrue (waits_for_rest j.lower (suc j.below)) → R
from_rest j sound acts rest =
    let r = rests (j.lower.unclosed (suc j.below)) (j.lower.shown (suc j.below)) (j.lower.last_writes (suc j.below)) (j.lower.owed (suc j.below)) rest in
    elim (by_cases (stands j.lower (suc j.below)) (j.lower.owed (suc j.below) && not (writing j.lower (suc j.below))) (any_below (waits_for j) j.hosts) (arbiter_works j) (or_right (any_below (asks j) j.hosts) (j.lower.unclosed (suc j.below)) r.unclosed)) [
      | inl must ↦ acts.arbiter must
      | inr (inl below) ↦ absurd (not_below (j.lower.shown (suc j.below)) (j.lower.taken (suc j.below)) (j.lower.owed (suc j.below)) (j.lower.unclosed (suc j.below)) (j.lower.last_writes (suc j.below)) rest below)
      | inr (inr waits) ↦ let found = some_below (waits_for j) j.hosts waits in from_waiting j sound acts found.0 found.1 found.2
    ]

pub from_arbiter : {R : Type 0} {seen : ℕ → Bool} (j : Junction) → IsSoundJunction j → Acts j seen R → IsTrue (arbiter_works j) → R
from_arbiter j sound acts work =
    elim (by_cases (stands j.lower (suc j.below)) (j.lower.owed (suc j.below) && not (writing j.lower (suc j.below))) (any_below (waits_for j) j.hosts) (arbiter_works j) work) [
      | inl must ↦ acts.arbiter must
      | inr (inl below) ↦ from_below j sound acts (from_rest j sound acts) below
      | inr (inr waits) ↦ let found = some_below (waits_for j) j.hosts waits in from_waiting j sound acts found.0 found.1 found.2
    ]

asked_by_cases : (s w u r o : Bool) → IsTrue (s || w) → (IsTrue w → IsTrue (u || r || o)) → IsTrue (s || u || r) ⊎ IsTrue o
asked_by_cases true w u r o h a = inl refl
asked_by_cases false w true r o h a = inl refl
asked_by_cases false w false true o h a = inl refl
asked_by_cases false true false false o h a = inr (a refl)
asked_by_cases false false false false o h a = absurd cc

-- from any part at work on a host's path
pub from_upper : {R : Type 0} {seen : ℕ → Bool} (j : Junction) → IsSoundJunction j → Acts j seen R → (h i : ℕ) → h < j.hosts → IsTrue (seen h) → i < j.above h → IsTrue (works (j.upper h) i) → R
from_upper j sound acts h i low known in_path work =
    settle (j.upper h) (j.above h) (sound.upper h low).answers (shown_at_top j sound h low)
    (λ b. elim (asked_by_cases (stands (j.upper h) 0) ((j.upper h).owed 0 && not (writing (j.upper h) 0)) (j.untaken h) (j.ready h) (j.lower.owed (suc j.below)) b (λ w. sound.answers h low (and_parts ((j.upper h).owed 0) _ w).0)) [
      | inl asks_it ↦ from_arbiter j sound acts (or_left _ _ (any_of (asks j) j.hosts h low asks_it))
      | inr owed ↦ elim (owed_or_open (stands j.lower (suc j.below)) (j.lower.owed (suc j.below)) (j.lower.unclosed (suc j.below)) (j.lower.last_writes (suc j.below)) owed) [
        | inl open_there ↦ from_arbiter j sound acts (or_right (any_below (asks j) j.hosts) (j.lower.unclosed (suc j.below)) open_there)
        | inr below ↦ from_below j sound acts (from_rest j sound acts) below
      ]
    ])
    (λ i h'. acts.upper h i low known h') i in_path work

-- from any part at work below the arbiter
pub from_lower : {R : Type 0} {seen : ℕ → Bool} (j : Junction) → IsSoundJunction j → Acts j seen R → (i : ℕ) → i < suc j.below → IsTrue (works j.lower i) → R
from_lower j sound acts i in_path work =
    settle j.lower (suc j.below) sound.lower (from_rest j sound acts) (λ b. absurd (idle_not (stands j.lower 0) (j.lower.owed 0) (writing j.lower 0) sound.idle b)) acts.lower i in_path work
