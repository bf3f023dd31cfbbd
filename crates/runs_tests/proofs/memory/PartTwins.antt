-- The wrong twins break the lines of their parts.
use Rattle.std.proofs.Common.{ℕ, suc, ◌<◌, ◌≤◌, ◌≡◌, ◌+◌, not, ◌&&◌, [], ◌∷◌, arith, refl, length, IsTrue}
use Rattle.histories.specs.Below.{OfEach, each_below, each_cycle_host}
use Rattle.histories.specs.History.{is_raised}
use Rattle.memory_runs.specs.Views.{levels_at}
use Rattle.memory_runs.specs.Views.Responses.{AreZero}
use Rattle.memory_runs.specs.Commands.{shows, is_held, agent_accepts, transfer_at, words_before}
use Rattle.memory_runs.specs.Legal.{IsLegalHost, host_accepts, is_under_way, words_asked}
use Rattle.memory_runs.specs.Order.{is_joined}
use Rattle.memory_machines.specs.Link.{Port, AreLegalAt, AnswersAreOwed, takes, taken_at, read_beats, words_at, words_owed}
use Rattle.memory_machines.specs.Lines.{TaggedPort, IsFit, IsFitToAsk, AreFitToAsk, AreOwedByTag, AreSingle, OwesBelow, serves_at, words_with, with_tag, IsAgentLine, IsArbiterLine, IsRouteLine, IsHostLine}
use Rattle.runs_tests.specs.MoreExamples.{agent_with_bound, two_agents}
use Rattle.runs_tests.specs.PartRows.{waiting_host}
use Rattle.runs_tests.specs.PartTwins.{bounded_system, reads_of_both, reads_run, past_bound, newest_tag, both_joined, pausing_askers, inside_burst, read_of_first, given_to_both, two_places, without_limiter, writes_at, by_each_address, host_run, waiting_system, waiting_view, read_twice, burst_view, ends_early}
use Rattle.runs_tests.proofs.memory.ShortRuns.{legal_by_cycles}

-- ---- agent

past_legal : AreLegalAt past_bound.port 2
past_legal = legal_by_cycles past_bound.port 2 ((tt, λ held. cc), λ held. cc) ((tt, refl), refl) ((tt, omega arith), omega arith) ((tt, omega arith), omega arith) ((tt, λ going. cc), λ going. cc) ((tt, λ _. refl), λ _. refl)

past_fits : IsFit (bounded_system 1) 0 past_bound.port 2
past_fits = record {
  legal = past_legal;
  lanes = λ c low. refl;
  tags = λ c low. each_below (λ c. IsTrue (shows past_bound.commands.signals c) → IsTrue (is_joined (bounded_system 1) 0 (past_bound.commands.tag c))) 2 c ((tt, λ _. refl), λ _. refl) low;
  kinds = λ c low. each_below (λ c. IsTrue (serves_at (agent_with_bound 1) past_bound.port c)) 2 c ((tt, refl), refl) low;
}

pub past_bound_is_not : IsAgentLine AreZero (bounded_system 1) (reads_run []) 0 0 past_bound 2 → ⊥
past_bound_is_not line =
    let carries = line.commands 2 (omega arith) past_fits (record { owed = λ _ c low. each_below (λ c. words_before (reads_of_both []).readdatavalid (suc c) ≤ words_asked (agent_with_bound 1).shape (reads_of_both []).signals (agent_accepts (agent_with_bound 1) (reads_of_both [])) c) 1 c (tt, omega arith) low }) in
    let bad = carries.proper.bounded 1 (omega arith) refl in
    omega (arith, bad)

newest_legal : AreLegalAt newest_tag.port 3
newest_legal = legal_by_cycles newest_tag.port 3 (((tt, λ held. cc), λ held. cc), λ held. cc) (((tt, refl), refl), refl) (((tt, omega arith), omega arith), omega arith) (((tt, omega arith), omega arith), omega arith) (((tt, λ going. cc), λ going. cc), λ going. cc) (((tt, λ _. refl), λ _. refl), λ shown. cc)

newest_fits : IsFit (bounded_system 2) 0 newest_tag.port 3
newest_fits = record {
  legal = newest_legal;
  lanes = λ c low. refl;
  tags = λ c low. each_below (λ c. IsTrue (shows newest_tag.commands.signals c) → IsTrue (is_joined (bounded_system 2) 0 (newest_tag.commands.tag c))) 3 c (((tt, λ _. refl), λ _. refl), λ _. refl) low;
  kinds = λ c low. each_below (λ c. IsTrue (serves_at (agent_with_bound 2) newest_tag.port c)) 3 c (((tt, refl), refl), refl) low;
}

pub newest_tag_is_not : IsAgentLine AreZero (bounded_system 2) (reads_run (0 ∷ 0 ∷ 1 ∷ [])) 0 0 newest_tag 3 → ⊥
newest_tag_is_not line =
    let carries = line.answers 3 (omega arith) newest_fits (record { owed = λ _ c low. each_below (λ c. words_before (reads_of_both (0 ∷ 0 ∷ 1 ∷ [])).readdatavalid (suc c) ≤ words_asked (agent_with_bound 2).shape (reads_of_both (0 ∷ 0 ∷ 1 ∷ [])).signals (agent_accepts (agent_with_bound 2) (reads_of_both (0 ∷ 0 ∷ 1 ∷ []))) c) 3 c (((tt, omega arith), omega arith), omega arith) low }) in
    let bad = (carries.bytes 1 3 (omega arith) (omega arith)).joins in
    cc

-- ---- arbiter

first_pauses : AreLegalAt (pausing_askers 0) 2
first_pauses = legal_by_cycles (pausing_askers 0) 2 ((tt, λ held. cc), λ held. cc) ((tt, refl), refl) ((tt, omega arith), omega arith) ((tt, omega arith), omega arith) ((tt, λ going. refl), λ going. refl) ((tt, λ _. refl), λ shown. cc)

second_writes : AreLegalAt (pausing_askers 1) 2
second_writes = legal_by_cycles (pausing_askers 1) 2 ((tt, λ held. cc), λ held. cc) ((tt, refl), refl) ((tt, omega arith), omega arith) ((tt, omega arith), omega arith) ((tt, λ going. refl), λ going. refl) ((tt, λ shown. cc), λ _. refl)

fit_by_cycles : (up : Port) (host end : ℕ) → AreLegalAt up end →
    OfEach (λ c. IsTrue (shows up.commands.signals c) → up.commands.tag c ≡ host) end →
    IsTrue (is_joined both_joined 0 host) → OfEach (λ c. IsTrue (serves_at (agent_with_bound 4) up c)) end → IsFitToAsk both_joined 0 host up end
fit_by_cycles up host end legal tags joined kinds = record {
  legal = legal;
  lanes = λ c low. refl;
  tag = λ c low. each_below (λ c. IsTrue (shows up.commands.signals c) → up.commands.tag c ≡ host) end c tags low;
  joined = λ c low shown. joined;
  kinds = λ c low. each_below (λ c. IsTrue (serves_at (agent_with_bound 4) up c)) end c kinds low;
}

pausing_fit : AreFitToAsk both_joined 0 pausing_askers 2
pausing_fit h is = each_below (λ h. IsFitToAsk both_joined 0 h (pausing_askers h) 2) 2 h (
  (
    tt,
    fit_by_cycles (pausing_askers 0) 0 2 first_pauses ((tt, λ _. refl), λ _. refl) refl ((tt, refl), refl),
  ),
  fit_by_cycles (pausing_askers 1) 1 2 second_writes ((tt, λ shown. cc), λ _. refl) refl ((tt, refl), refl),
) is

owed_by_cycles : (down : TaggedPort) (end : ℕ) → OfEach (λ c. OfEach (λ tag. length (words_with tag down (suc c)) ≤ length (read_beats (with_tag tag (taken_at down.port c)))) 2) (suc end) → AreOwedByTag both_joined down (suc end)
owed_by_cycles down end each tag c is low = each_cycle_host (λ c tag. length (words_with tag down (suc c)) ≤ length (read_beats (with_tag tag (taken_at down.port c)))) end 2 c tag each (omega arith) is

pub inside_burst_is_not : IsArbiterLine AreZero both_joined 0 0 pausing_askers inside_burst 2 → ⊥
inside_burst_is_not line =
    let carries = line.commands 2 (omega arith) pausing_fit (owed_by_cycles inside_burst 0 (tt, ((tt, omega arith), omega arith))) in
    let bad = carries.whole 2 (omega arith) in
    cc

first_reads : AreLegalAt (read_of_first 0) 2
first_reads = legal_by_cycles (read_of_first 0) 2 ((tt, λ held. cc), λ held. cc) ((tt, refl), refl) ((tt, omega arith), omega arith) ((tt, omega arith), omega arith) ((tt, λ going. cc), λ going. cc) ((tt, λ _. refl), λ shown. cc)

second_rests : AreLegalAt (read_of_first 1) 2
second_rests = legal_by_cycles (read_of_first 1) 2 ((tt, λ held. cc), λ held. cc) ((tt, refl), refl) ((tt, omega arith), omega arith) ((tt, omega arith), omega arith) ((tt, λ going. cc), λ going. cc) ((tt, λ shown. cc), λ shown. cc)

reading_fit : AreFitToAsk both_joined 0 read_of_first 2
reading_fit h is = each_below (λ h. IsFitToAsk both_joined 0 h (read_of_first h) 2) 2 h (
  (
    tt,
    fit_by_cycles (read_of_first 0) 0 2 first_reads ((tt, λ _. refl), λ _. refl) refl ((tt, refl), refl),
  ),
  fit_by_cycles (read_of_first 1) 1 2 second_rests ((tt, λ shown. cc), λ shown. cc) refl ((tt, refl), refl),
) is

pub given_to_both_is_not : IsArbiterLine AreZero both_joined 0 0 read_of_first given_to_both 2 → ⊥
given_to_both_is_not line =
    let carries = line.answers 2 (omega arith) reading_fit (owed_by_cycles given_to_both 1 ((tt, ((tt, omega arith), omega arith)), ((tt, omega arith), omega arith))) in
    let bad = carries.owed 1 (omega arith) 1 (omega arith) in
    omega (arith, bad)

-- ---- route

places_legal : AreLegalAt two_places 2
places_legal = legal_by_cycles two_places 2 ((tt, λ held. cc), λ held. cc) ((tt, refl), refl) ((tt, omega arith), omega arith) ((tt, omega arith), omega arith) ((tt, λ going. cc), λ going. cc) ((tt, λ _. refl), λ _. refl)

single_by_cycles : (port : Port) (end : ℕ) → OfEach (λ c. IsTrue (shows port.commands.signals c) → is_raised (port.commands.more c) ≡ not (transfer_at port.shape port.commands.signals (takes port) c).ends) end → AreSingle port end
single_by_cycles port end each c low = each_below (λ c. IsTrue (shows port.commands.signals c) → is_raised (port.commands.more c) ≡ not (transfer_at port.shape port.commands.signals (takes port) c).ends) end c each low

below_by_cycles : (room : ℕ) (port : Port) (end : ℕ) → OfEach (λ c. words_owed port (suc c) < length (words_at port c) + room) end → OwesBelow room port end
below_by_cycles room port end each c low = each_below (λ c. words_owed port (suc c) < length (words_at port c) + room) end c each low

nothing_comes : (end : ℕ) (port : Port) → OfEach (λ c. words_before port.answers.valid (suc c) ≤ words_owed port c) end → AnswersAreOwed port end
nothing_comes end port each c low = each_below (λ c. words_before port.answers.valid (suc c) ≤ words_owed port c) end c each low

pub without_limiter_is_not : IsRouteLine AreZero two_agents 0 0 8 two_places without_limiter 2 → ⊥
without_limiter_is_not line =
    let carries = line.answers 2 (omega arith) places_legal (single_by_cycles two_places 2 ((tt, λ _. refl), λ _. refl)) (below_by_cycles 8 two_places 2 ((tt, omega arith), omega arith))
    (λ a there. each_below (λ a. AnswersAreOwed (without_limiter a) 2) 2 a ((tt, nothing_comes 2 (without_limiter 0) ((tt, omega arith), omega arith)), nothing_comes 2 (without_limiter 1) ((tt, omega arith), omega arith)) there) in
    let bad = carries.limited 1 1 0 (omega arith) (omega arith) (omega arith) refl (omega arith) in
    omega (arith, bad)

burst_legal : AreLegalAt (writes_at (1 ∷ 1 ∷ [])) 2
burst_legal = legal_by_cycles (writes_at (1 ∷ 1 ∷ [])) 2 ((tt, λ held. cc), λ held. cc) ((tt, refl), refl) ((tt, omega arith), omega arith) ((tt, omega arith), omega arith) ((tt, λ going. refl), λ going. refl) ((tt, λ _. refl), λ _. refl)

pub by_each_address_is_not : IsRouteLine AreZero two_agents 0 0 8 (writes_at (1 ∷ 1 ∷ [])) by_each_address 2 → ⊥
by_each_address_is_not line =
    let carries = line.commands 2 (omega arith) burst_legal (single_by_cycles (writes_at (1 ∷ 1 ∷ [])) 2 ((tt, λ _. refl), λ _. refl)) (below_by_cycles 8 (writes_at (1 ∷ 1 ∷ [])) 2 ((tt, omega arith), omega arith))
    (λ a there. each_below (λ a. AnswersAreOwed (by_each_address a) 1) 2 a ((tt, nothing_comes 1 (by_each_address 0) (tt, omega arith)), nothing_comes 1 (by_each_address 1) (tt, omega arith)) there) in
    let bad = ((carries.carries 0 (omega arith)).in_order 2 (omega arith)).joins in
    cc

-- ---- host

waiting_is_legal : IsLegalHost waiting_host waiting_view 2
waiting_is_legal = record {
  one_kind = λ c low. each_below (λ c. IsTrue (not (is_raised (waiting_view.read c) && is_raised (waiting_view.write c)))) 2 c ((tt, refl), refl) low;
  held = λ c low held. each_below (λ c. levels_at waiting_view.signals c ≡ levels_at waiting_view.signals (suc c)) 1 c (tt, refl) (omega arith);
  least = λ c _ _ _. omega arith;
  most = λ c _ _ _. omega arith;
  finished = λ c low going. absurd (each_below (λ c. IsTrue (is_under_way waiting_host.shape waiting_view.signals (host_accepts waiting_view) c) → ⊥) 2 c ((tt, λ going. cc), λ going. cc) low going);
}

pub read_twice_is_not : IsHostLine AreZero waiting_system (host_run waiting_view) 0 0 1000 read_twice 2 → ⊥
read_twice_is_not line =
    let carries = line.commands 2 (omega arith) waiting_is_legal (nothing_comes 1 read_twice (tt, omega arith)) in
    let bad = (carries.in_order 2 (omega arith)).joins in
    cc

burst_is_legal : IsLegalHost (both_joined.host 0) burst_view 2
burst_is_legal = record {
  one_kind = λ c low. each_below (λ c. IsTrue (not (is_raised (burst_view.read c) && is_raised (burst_view.write c)))) 2 c ((tt, refl), refl) low;
  held = λ c low held. absurd (each_below (λ c. IsTrue (is_held burst_view.signals (host_accepts burst_view) c) → ⊥) 1 c (tt, λ held. cc) (omega arith) held);
  least = λ c _ _ _. omega arith;
  most = λ c _ _ _. omega arith;
  finished = λ c low going. refl;
}

pub ends_early_is_not : IsHostLine AreZero both_joined (host_run burst_view) 0 0 1000 ends_early 2 → ⊥
ends_early_is_not line =
    let single = line.single 2 (omega arith) burst_is_legal (nothing_comes 1 ends_early (tt, omega arith)) in
    let bad = single 0 (omega arith) refl in
    cc
