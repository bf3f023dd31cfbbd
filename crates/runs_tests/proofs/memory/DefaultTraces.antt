-- Reads of the default agent beside those of an agent: what keeps the order of reads and of words, and what breaks it.
use Rattle.std.proofs.Common.{ℕ, suc, ◌<◌, [], ◌∷◌, arith, refl, IsTrue, length, filter, take, not, slice_get, MatchOption}
use Rattle.std.specs.Bool.{⊤}
use Rattle.histories.specs.Below.{each_below}
use Rattle.memory_runs.specs.Views.{Run}
use Rattle.memory_runs.specs.Operations.{is_read}
use Rattle.memory_runs.specs.Legal.{gives_word, given}
use Rattle.memory_runs.specs.Order.{ServesInGrantedOrder, ReturnsInCommandOrder, KeepsReadOrder, IsWordOf, asked, of_host, taken, reads_for, is_agent}
use Rattle.runs_tests.specs.MoreExamples.{two_agents, limited_run, default_run}
use Rattle.runs_tests.specs.DefaultRows.{odd_word_run, strayed_read_run, behind_default_run, past_default_run, default_first_run, around_default_run}

-- the order of reads for one read and one cycle
abbrev KeepsOrderOf : Run → ℕ → ℕ → ℕ → Type 0
KeepsOrderOf run agent c number =
    MatchOption (slice_get (asked two_agents run 0 (suc c)) number) ⊤ (λ q. IsTrue (not (is_agent agent q.place))) →
    reads_for two_agents 0 agent (take number (asked two_agents run 0 (suc c))) < length (filter is_read (of_host 0 (taken two_agents run agent (suc c)))) →
    number < length (given (two_agents.host 0) (run.at_host 0) (suc c))

abbrev KeepsOrderIn : Run → ℕ → ℕ → Type 0
KeepsOrderIn run agent c = (number : ℕ) → number < length (asked two_agents run 0 (suc c)) → KeepsOrderOf run agent c number

pub behind_keeps : KeepsReadOrder two_agents behind_default_run 0 0 4
behind_keeps c number h = each_below (KeepsOrderIn behind_default_run 0) 4 c (
  (
    ((tt, λ number _ _ less. absurd (omega (arith, less))), λ number _ _ less. absurd (omega (arith, less))),
    λ number h. each_below (KeepsOrderOf behind_default_run 0 2) 2 number ((tt, λ _ _. omega arith), λ place _. cc) h,
  ),
  λ number h _ _. omega (arith, h),
) h number

pub limited_keeps : KeepsReadOrder two_agents limited_run 0 1 4
limited_keeps c number h = each_below (KeepsOrderIn limited_run 1) 4 c (
  (
    ((tt, λ number _ _ less. absurd (omega (arith, less))), λ number _ _ less. absurd (omega (arith, less))),
    λ number h. each_below (KeepsOrderOf limited_run 1 2) 2 number ((tt, λ _ _. omega arith), λ place _. cc) h,
  ),
  λ number h _ _. omega (arith, h),
) h number

-- the word that a cycle gives is the right one
abbrev IsRightIn : Run → ℕ → Type 0
IsRightIn run c =
    IsTrue (gives_word (two_agents.host 0) (run.at_host 0) c) →
    IsWordOf two_agents run 0 c (length (given (two_agents.host 0) (run.at_host 0) c))
    (record { word = (run.at_host 0).readdata c; code = (run.at_host 0).response c })
    (slice_get (asked two_agents run 0 (suc c)) (length (given (two_agents.host 0) (run.at_host 0) c)))

pub default_is_returned : ReturnsInCommandOrder two_agents default_run 0 2
default_is_returned c h = each_below (IsRightIn default_run) 2 c ((tt, λ h. cc), λ h. refl) h

pub behind_is_returned : ReturnsInCommandOrder two_agents behind_default_run 0 4
behind_is_returned c h = each_below (IsRightIn behind_default_run) 4 c ((((tt, λ h. cc), λ h. cc), λ h. refl), λ h. record { enough = omega arith; bytes = refl }) h

pub past_is_returned : ReturnsInCommandOrder two_agents (past_default_run (0 ∷ 0 ∷ 0 ∷ 0x11 ∷ [])) 0 4
past_is_returned c h = each_below (IsRightIn (past_default_run (0 ∷ 0 ∷ 0 ∷ 0x11 ∷ []))) 4 c ((((tt, λ h. cc), λ h. cc), λ h. refl), λ h. record { enough = omega arith; bytes = refl }) h

pub odd_is_not : ReturnsInCommandOrder two_agents odd_word_run 0 2 → ⊥
odd_is_not r = let bad = r 1 (omega arith) refl in cc

pub strayed_is_not : ServesInGrantedOrder two_agents strayed_read_run 0 1 → ⊥
strayed_is_not o = let bad = o.in_order 1 0 (omega arith) (omega arith) in let e = bad.joins in cc

pub past_keeps_not : KeepsReadOrder two_agents (past_default_run (0 ∷ 0 ∷ 0 ∷ 0x11 ∷ [])) 0 0 2 → ⊥
past_keeps_not k = let bad = k 1 0 (omega arith) (omega arith) refl (omega arith) in omega (arith, bad)

pub swapped_is_not : ReturnsInCommandOrder two_agents (past_default_run (0 ∷ 0 ∷ 0x11 ∷ 0 ∷ [])) 0 3 → ⊥
swapped_is_not r = let bad = r 2 (omega arith) refl in cc

pub default_first_is_not : ReturnsInCommandOrder two_agents default_first_run 0 3 → ⊥
default_first_is_not r = let bad = (r 2 (omega arith) refl).enough in omega (arith, bad)

pub around_keeps_not : KeepsReadOrder two_agents around_default_run 0 0 3 → ⊥
around_keeps_not k = let bad = k 2 1 (omega arith) (omega arith) refl (omega arith) in omega (arith, bad)
