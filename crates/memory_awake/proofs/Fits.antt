-- Modest ranks and slacks fit in an agent's window.
use Rattle.std.proofs.Common.{ℕ, zero, suc, ◌<◌, ◌≤◌, ◌≡◌, ◌+◌, ◌*◌, arith, refl}
use Rattle.memory_runs.specs.Views.{System}
use Rattle.memory_runs.specs.Awake.{agent_window}
use Rattle.histories.specs.Sizes.{sum_below}
use Rattle.memory_awake.specs.Ways.{Ways, Standings}
use Rattle.memory_awake.specs.Sizes.{allows}
use Rattle.memory_awake.specs.Slack.{Slacks, AreModest, HasModestLinks, upper_beats, upper_words, link_allows, toll, lower_beats, lower_words, stage_allows, host_allows, all_allow}
use Rattle.memory_awake.proofs.Few.{sum_most}

-- the sum over the stages, for each number of them
stages_sum : (stages : ℕ) → stages ≤ 4 → sum_below (λ i. 10 * i + 9) stages ≤ 24 * stages
stages_sum zero h = omega arith
stages_sum (suc zero) h = omega arith
stages_sum (suc (suc zero)) h = omega arith
stages_sum (suc (suc (suc zero))) h = omega arith
stages_sum (suc (suc (suc (suc zero)))) h = omega arith
stages_sum (suc (suc (suc (suc (suc n))))) h = absurd (omega (arith, h))

sum_of_one : (n hosts : ℕ) → sum_below (λ h. n) hosts ≡ n * hosts
sum_of_one n zero = omega arith
sum_of_one n (suc hosts) = let more = sum_of_one n hosts in let next = times_next n hosts in omega (arith, more, next)
  where
    times_next : (n k : ℕ) → n * suc k ≡ n * k + n
    times_next n k = grind arith

two_ranks : (moves largest : ℕ) → largest ≤ 1 → allows moves largest ≤ moves * 2 + 1
two_ranks moves zero h = omega arith
two_ranks moves (suc zero) h = omega arith
two_ranks moves (suc (suc n)) h = absurd (omega (arith, h))

module _ (system : System) (agent : ℕ) (ways : Ways) (standings : Standings) (slacks : Slacks) (modest : AreModest system agent ways standings slacks) where
  few_beats : (i : ℕ) → i ≤ ways.stages → lower_beats slacks i ≤ 2 * i
  few_beats zero h = omega arith
  few_beats (suc i) h = let more = few_beats i (omega (arith, h)) in let own = (modest.lower i h).hold in omega (arith, more, own)

  few_words : (i : ℕ) → i ≤ ways.stages → lower_words slacks i ≤ 1 + i
  few_words zero h = omega arith
  few_words (suc i) h = let more = few_words i (omega (arith, h)) in let own = (modest.lower i h).kept in omega (arith, more, own)

  stage_fits : (i : ℕ) → i < ways.stages → stage_allows standings slacks i ≤ 10 * i + 9
  stage_fits i h =
      let below = few_beats i (omega (arith, h)) in
      let above = few_beats (suc i) h in
      let words = few_words (suc i) h in
      let most = two_ranks ((lower_beats slacks i + lower_beats slacks (suc i)) + lower_words slacks (suc i)) (standings.lower i).largest (modest.lower i h).rank in
      omega (arith, below, above, words, most)

  pub fits : all_allow system ways standings slacks 5 + 1 < agent_window system agent
  fits =
      let same = modest.stages in
      let few = modest.few_stages in
      let hosts = modest.few_hosts in
      let wait = modest.wait in
      let stages = sum_most (stage_allows standings slacks) (λ i. 10 * i + 9) ways.stages stage_fits in
      let whole = stages_sum ways.stages (omega (arith, same, few)) in
      let beats = few_beats ways.stages (omega arith) in
      let words = few_words ways.stages (omega arith) in
      let links = sum_most (host_allows system ways standings slacks) (λ h. 15) system.hosts modest.upper in
      let all = sum_of_one 15 system.hosts in
      omega (arith, same, few, hosts, wait, stages, whole, beats, words, links, all)

module _ (system : System) (ways : Ways) (standings : Standings) (slacks : Slacks) (h : ℕ) (modest : HasModestLinks ways standings slacks h) where
  abbrev beats : ℕ → ℕ
  beats i = upper_beats slacks h i

  abbrev words : ℕ → ℕ
  words i = upper_words slacks h i

  first_allows : 0 < ways.above h → link_allows standings slacks h 0 ≤ 5
  first_allows some =
      let is = modest.first some in
      let hold = is.hold in
      let kept = is.kept in
      let most = two_ranks ((beats 0 + beats 1) + words 1) (standings.upper h 0).largest is.rank in
      omega (arith, hold, kept, most)

  second_allows : 1 < ways.above h → link_allows standings slacks h 1 ≤ 7
  second_allows some =
      let first = modest.first (omega (arith, some)) in
      let is = modest.second some in
      let hold = first.hold in
      let kept = first.kept in
      let hold_next = is.hold in
      let kept_next = is.kept in
      let most = two_ranks ((beats 1 + beats 2) + words 2) (standings.upper h 1).largest is.rank in
      omega (arith, hold, kept, hold_next, kept_next, most)

  third_allows : 2 < ways.above h → link_allows standings slacks h 2 ≤ 3
  third_allows some =
      let first = modest.first (omega (arith, some)) in
      let second = modest.second (omega (arith, some)) in
      let is = modest.third some in
      let hold = first.hold in
      let kept = first.kept in
      let hold_next = second.hold in
      let kept_next = second.kept in
      let hold_last = is.hold in
      let kept_last = is.kept in
      let most = no_rank ((beats 2 + beats 3) + words 3) (standings.upper h 2).largest is.rank in
      omega (arith, hold, kept, hold_next, kept_next, hold_last, kept_last, most)
    where
      no_rank : (moves largest : ℕ) → largest ≤ 0 → allows moves largest ≤ moves
      no_rank moves zero low = omega arith
      no_rank moves (suc n) low = absurd (omega (arith, low))

  pub links_fit : (host_allows system ways standings slacks h ≤ 15) × (toll ways standings h ≤ 5)
  links_fit = by_count (ways.above h) refl
    where
      by_count : (n : ℕ) → ways.above h ≡ n → (sum_below (link_allows standings slacks h) n ≤ 15) × (sum_below (λ i. (standings.upper h i).largest + 1) n ≤ 5)
      by_count zero same = (omega arith, omega arith)
      by_count (suc zero) same =
          let one = first_allows (omega (arith, same)) in
          let rank = (modest.first (omega (arith, same))).rank in
          (omega (arith, one), omega (arith, rank))
      by_count (suc (suc zero)) same =
          let one = first_allows (omega (arith, same)) in
          let two = second_allows (omega (arith, same)) in
          let rank = (modest.first (omega (arith, same))).rank in
          let next = (modest.second (omega (arith, same))).rank in
          (omega (arith, one, two), omega (arith, rank, next))
      by_count (suc (suc (suc zero))) same =
          let one = first_allows (omega (arith, same)) in
          let two = second_allows (omega (arith, same)) in
          let three = third_allows (omega (arith, same)) in
          let rank = (modest.first (omega (arith, same))).rank in
          let next = (modest.second (omega (arith, same))).rank in
          let last = (modest.third (omega (arith, same))).rank in
          (omega (arith, one, two, three), omega (arith, rank, next, last))
      by_count (suc (suc (suc (suc n)))) same = let few = modest.few in absurd (omega (arith, few, same))
