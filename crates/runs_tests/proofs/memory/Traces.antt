-- The example runs keep the definitions, or break them.
use Rattle.std.proofs.Common.{ℕ, suc, ◌<◌, ◌≤◌, ◌≡◌, ◌-◌, arith, refl, IsTrue, length, filter, nat_eq, true, not, ◌&&◌, slice_get, replicate, subst, sym, ◌+◌, None, ◌||◌}
use Rattle.histories.specs.Below.{each_below, each_cycle_host, OfEach}
use Rattle.histories.specs.History.{IsPrefix, is_raised}
use Rattle.memory_runs.specs.Views.{levels_at, System, Run}
use Rattle.memory_runs.specs.Legal.{IsLegalHost, gives_word, given, IsProperAtAgent, is_under_way, unanswered}
use Rattle.memory_runs.specs.Commands.{agent_accepts, is_held, words_before}
use Rattle.memory_runs.specs.Order.{ServesInGrantedOrder, of_host, taken, issued, beats_taken, words_covered, is_joined, owners_taken, are_together, ReturnsInCommandOrder, IsWordOf, asked}
use Rattle.std.specs.List.{list_all}
use Rattle.memory_runs.specs.Awake.{TakesTurns, shows_plain_write, ServesWithin, IsWanted, serves, ReadsAheadWithin, IsAsked, IsPassedByFew, ServesDefaultWithin, is_wanted_at_default, is_given_from, is_written_to}
use Rattle.runs_tests.specs.MoreExamples.{shared_system, turn_run, unfair_tags, stuck_run, plain_system, one_by_one_run, plain_pair, held_read_run, two_agents, stuck_at_default_run, agent_with_bound, two_reads}
use Rattle.runs_tests.specs.Examples.{narrow_system, narrow_run, narrow_host, host_of, all_lanes_run, stray_run, wide_system, whole_bursts_run, mixed_bursts_run, busy_run, packed_system, read_run}

narrow_prefix : (c host : ℕ) → c ≤ 2 → host < 2 → IsPrefix (of_host host (taken narrow_system narrow_run 0 c)) (issued narrow_system narrow_run host 0 (c - 0))
narrow_prefix c host = each_cycle_host (λ c host. IsPrefix (of_host host (taken narrow_system narrow_run 0 c)) (issued narrow_system narrow_run host 0 (c - 0))) 2 2 c host
    (((tt, ((tt, record { rest = _; joins = refl }), record { rest = _; joins = refl })), ((tt, record { rest = _; joins = refl }), record { rest = _; joins = refl })), ((tt, record { rest = _; joins = refl }), record { rest = _; joins = refl }))

narrow_beats : (c host : ℕ) → c ≤ 2 → host < 2 → length (filter (λ b. nat_eq b.tag host) (beats_taken narrow_system narrow_run 0 c)) ≤ words_covered narrow_system narrow_run host 0 c
narrow_beats c host = each_cycle_host (λ c host. length (filter (λ b. nat_eq b.tag host) (beats_taken narrow_system narrow_run 0 c)) ≤ words_covered narrow_system narrow_run host 0 c) 2 2 c host
    (((tt, ((tt, omega arith), omega arith)), ((tt, omega arith), omega arith)), ((tt, omega arith), omega arith))

narrow_tags : (c : ℕ) → c < 2 → IsTrue (agent_accepts (narrow_system.agent 0) (narrow_run.at_agent 0) c) → IsTrue (is_joined narrow_system 0 ((narrow_run.at_agent 0).grant c))
narrow_tags c h = each_below (λ c. IsTrue (agent_accepts (narrow_system.agent 0) (narrow_run.at_agent 0) c) → IsTrue (is_joined narrow_system 0 ((narrow_run.at_agent 0).grant c))) 2 c
    ((tt, (λ _. refl)), (λ _. refl)) h

narrow_together : (c : ℕ) → c < 3 → IsTrue (are_together (owners_taken narrow_system narrow_run 0 c))
narrow_together c h = each_below (λ c. IsTrue (are_together (owners_taken narrow_system narrow_run 0 c))) 3 c (((tt, refl), refl), refl) h

-- the narrow write is ordered
pub narrow_is_ordered : ServesInGrantedOrder narrow_system narrow_run 0 2
narrow_is_ordered = record {
  tags = narrow_tags;
  in_order = narrow_prefix;
  together = λ c h. narrow_together c (omega arith);
  beats = narrow_beats;
}

-- a piece with all lanes enabled breaks the order of the operations
pub all_lanes_is_not : ServesInGrantedOrder narrow_system all_lanes_run 0 4 → ⊥
all_lanes_is_not o = let bad = o.in_order 4 0 (omega arith) (omega arith) in let e = bad.joins in cc

-- a write under a tag that no host has
pub stray_is_not : ServesInGrantedOrder narrow_system stray_run 0 1 → ⊥
stray_is_not o = let bad = o.tags 0 (omega arith) refl in cc

-- a host changed within a burst
pub mixed_is_not : ServesInGrantedOrder wide_system mixed_bursts_run 0 4 → ⊥
mixed_is_not o = let bad = o.together 4 (omega arith) in cc

-- beats without a lane, more than the words that the host's beat covers
pub busy_is_not : ServesInGrantedOrder wide_system busy_run 0 3 → ⊥
busy_is_not o = let bad = o.beats 3 0 (omega arith) (omega arith) in omega arith

narrow_kind : (c : ℕ) → c < 2 → IsTrue (not (is_raised (narrow_host.read c) && is_raised (narrow_host.write c)))
narrow_kind c h = each_below (λ c. IsTrue (not (is_raised (narrow_host.read c) && is_raised (narrow_host.write c)))) 2 c ((tt, refl), refl) h

narrow_held : (c : ℕ) → c < 1 → levels_at narrow_host.signals c ≡ levels_at narrow_host.signals (suc c)
narrow_held c h = each_below (λ c. levels_at narrow_host.signals c ≡ levels_at narrow_host.signals (suc c)) 1 c (tt, refl) h

-- the host of the narrow write is legal
pub narrow_is_legal : IsLegalHost (host_of 4 true) narrow_host 2
narrow_is_legal = record {
  one_kind = narrow_kind;
  held = λ c h _. narrow_held c (omega arith);
  least = λ c _ _ _. omega arith;
  most = λ c _ _ _. omega arith;
  finished = λ c _ _. refl;
}

-- the read of byte 5 brings it back
pub read_is_returned : ReturnsInCommandOrder packed_system read_run 0 2
read_is_returned c h = each_below (λ c. IsTrue (gives_word (packed_system.host 0) (read_run.at_host 0) c) → IsWordOf packed_system read_run 0 c (length (given (packed_system.host 0) (read_run.at_host 0) c))
    (record { word = (read_run.at_host 0).readdata c; code = (read_run.at_host 0).response c })
    (slice_get (asked packed_system read_run 0 (suc c)) (length (given (packed_system.host 0) (read_run.at_host 0) c)))) 2 c ((tt, λ h. cc), λ h. record { enough = omega arith; bytes = refl }) h

-- turns of one command each break shares of 3 and 1, in a whole run
pub unfair_is_not : TakesTurns shared_system (turn_run unfair_tags) 0 20 → ⊥
unfair_is_not turns =
    let shown = λ (c : ℕ) (low : 0 ≤ c) (high : c < 20). each_below (λ c. IsTrue (list_all (shows_plain_write shared_system (turn_run unfair_tags) 0 c) (shared_system.joined 0))) 20 c
    ((((((((((((((((((((tt, refl), refl), refl), refl), refl), refl), refl), refl), refl), refl), refl), refl), refl), refl), refl), refl), refl), refl), refl), refl) high in
    let full = turns 0 20 (omega arith) shown refl in
    let bad = (full 2 (omega arith) (omega arith)).0 in
    omega (arith, bad)

-- a host that waits for ever isn't served within three cycles
pub stuck_is_not : ServesWithin 3 wide_system stuck_run 0 3 → ⊥
stuck_is_not awake =
    let wanted = λ (c : ℕ) (low : 0 ≤ c) (high : c < 3). each_below (IsWanted wide_system stuck_run 0 0 1) 3 c
    (((tt, record { oldest = refl; for_agent = refl; ready = refl; answered = refl; bursts = refl }), record { oldest = refl; for_agent = refl; ready = refl; answered = refl; bursts = refl }), record { oldest = refl; for_agent = refl; ready = refl; answered = refl; bursts = refl }) high in
    let served = awake 0 0 1 (omega arith) (omega arith) wanted in
    each_below (λ c. IsTrue (serves wide_system stuck_run 0 c) → ⊥) 3 served.0 (((tt, λ h. cc), λ h. cc), λ h. cc) served.2 served.3

-- what holds cycle by cycle and host by host is the record
pub ordered_of_each : (system : System) (run : Run) (agent end : ℕ) →
    OfEach (λ c. IsTrue (agent_accepts (system.agent agent) (run.at_agent agent) c) → IsTrue (is_joined system agent ((run.at_agent agent).grant c))) end →
    OfEach (λ c. OfEach (λ host. IsPrefix (of_host host (taken system run agent c)) (issued system run host agent (c - system.stages))) system.hosts) (suc end) →
    OfEach (λ c. IsTrue (are_together (owners_taken system run agent c))) (suc end) →
    OfEach (λ c. OfEach (λ host. length (filter (λ b. nat_eq b.tag host) (beats_taken system run agent c)) ≤ words_covered system run host agent c) system.hosts) (suc end) →
    ServesInGrantedOrder system run agent end
ordered_of_each system run agent end tags in_order together beats = record {
  tags = λ c h. each_below (λ c. IsTrue (agent_accepts (system.agent agent) (run.at_agent agent) c) → IsTrue (is_joined system agent ((run.at_agent agent).grant c))) end c tags h;
  in_order = λ c host h low. each_cycle_host (λ c host. IsPrefix (of_host host (taken system run agent c)) (issued system run host agent (c - system.stages))) end system.hosts c host in_order h low;
  together = λ c h. each_below (λ c. IsTrue (are_together (owners_taken system run agent c))) (suc end) c together (omega arith);
  beats = λ c host h low. each_cycle_host (λ c host. length (filter (λ b. nat_eq b.tag host) (beats_taken system run agent c)) ≤ words_covered system run host agent c) end system.hosts c host beats h low;
}

pub whole_bursts_are : ServesInGrantedOrder wide_system whole_bursts_run 0 4
whole_bursts_are = ordered_of_each wide_system whole_bursts_run 0 4
    (((((tt, λ _. refl), λ _. refl), λ _. refl), λ _. refl))
    ((((((tt, ((tt, record { rest = _; joins = refl }), record { rest = _; joins = refl })), ((tt, record { rest = _; joins = refl }), record { rest = _; joins = refl })), ((tt, record { rest = _; joins = refl }), record { rest = _; joins = refl })), ((tt, record { rest = _; joins = refl }), record { rest = _; joins = refl })), ((tt, record { rest = _; joins = refl }), record { rest = _; joins = refl })))
    ((((((tt, refl), refl), refl), refl), refl))
    ((((((tt, ((tt, omega arith), omega arith)), ((tt, omega arith), omega arith)), ((tt, omega arith), omega arith)), ((tt, omega arith), omega arith)), ((tt, omega arith), omega arith)))

-- reads that are sent one by one don't travel ahead
pub one_by_one_is_not : ReadsAheadWithin 3 plain_system one_by_one_run 0 4 → ⊥
one_by_one_is_not ahead =
    let asked = λ (c : ℕ) (low : 1 ≤ c) (high : c < 1 + 3). each_below (λ k. IsAsked plain_system one_by_one_run 0 0 (k + 1)) 3 (c - 1) (
      (
        (tt, record { ready = refl; room = omega arith; untaken = omega arith; few = omega arith; only = refl }),
        record { ready = refl; room = omega arith; untaken = omega arith; few = omega arith; only = refl },
      ),
      record { ready = refl; room = omega arith; untaken = omega arith; few = omega arith; only = refl },
    ) (omega arith) in
    let there = λ (c : ℕ) (low : 1 ≤ c) (high : c < 1 + 3). (let same : (c - 1) + 1 ≡ c = omega arith in subst (λ k. IsAsked plain_system one_by_one_run 0 0 k) same (asked c low high)) in
    let served = ahead refl refl 1 0 (omega arith) (omega arith) there in
    let place : (served.0 - 1) + 1 ≡ served.0 = omega (arith, served.1) in
    each_below (λ k. IsTrue (agent_accepts (plain_system.agent 0) (one_by_one_run.at_agent 0) (k + 1)) → ⊥) 3 (served.0 - 1) (((tt, λ h. cc), λ h. cc), λ h. cc) (omega (arith, served.2, served.1))
    (subst (λ k. IsTrue (agent_accepts (plain_system.agent 0) (one_by_one_run.at_agent 0) k)) (sym place) served.3)

-- a second read that waits behind a write to another agent, which is finished
pub held_read_is_not : ReadsAheadWithin 3 plain_pair held_read_run 0 5 → ⊥
held_read_is_not ahead =
    let asked = λ (c : ℕ) (low : 2 ≤ c) (high : c < 2 + 3). each_below (λ k. IsAsked plain_pair held_read_run 0 0 (k + 2)) 3 (c - 2) (
      (
        (tt, record { ready = refl; room = omega arith; untaken = omega arith; few = omega arith; only = refl }),
        record { ready = refl; room = omega arith; untaken = omega arith; few = omega arith; only = refl },
      ),
      record { ready = refl; room = omega arith; untaken = omega arith; few = omega arith; only = refl },
    ) (omega arith) in
    let there = λ (c : ℕ) (low : 2 ≤ c) (high : c < 2 + 3). (let same : (c - 2) + 2 ≡ c = omega arith in subst (λ k. IsAsked plain_pair held_read_run 0 0 k) same (asked c low high)) in
    let served = ahead refl refl 2 0 (omega arith) (omega arith) there in
    let place : (served.0 - 2) + 2 ≡ served.0 = omega (arith, served.1) in
    each_below (λ k. IsTrue (agent_accepts (plain_pair.agent 0) (held_read_run.at_agent 0) (k + 2)) → ⊥) 3 (served.0 - 2) (((tt, λ h. cc), λ h. cc), λ h. cc) (omega (arith, served.2, served.1))
    (subst (λ k. IsTrue (agent_accepts (plain_pair.agent 0) (held_read_run.at_agent 0) k)) (sym place) served.3)

-- a host that is passed by six commands of another with three shares
pub passed_is_not : IsPassedByFew 1 shared_system (turn_run (replicate 8 0)) 0 8 → ⊥
passed_is_not fair =
    let bad = fair 0 6 1 1 (omega arith) (omega arith) (omega arith) (record { presented = refl; counted = refl; not_begun = refl; earlier = refl }) refl in
    omega (arith, bad)

-- a read of the default agent that waits for ever
pub stuck_at_default_is_not : ServesDefaultWithin 3 two_agents stuck_at_default_run 3 → ⊥
stuck_at_default_is_not awake =
    let wanted = λ (c : ℕ) (low : 0 ≤ c) (high : c < 3). each_below (λ c. IsTrue (is_wanted_at_default two_agents stuck_at_default_run 0 1 c)) 3 c (((tt, refl), refl), refl) high in
    let served = awake 0 0 1 (omega arith) (omega arith) wanted in
    each_below (λ c. IsTrue (is_given_from two_agents stuck_at_default_run None c 0 || is_written_to two_agents stuck_at_default_run None c 0) → ⊥) 3 served.0 (((tt, λ h. cc), λ h. cc), λ h. cc) served.2 served.3

-- two reads within a bound of two
pub two_reads_are : IsProperAtAgent (agent_with_bound 2) two_reads 2
two_reads_are = record {
  legal = record {
    one_kind = λ c h. each_below (λ c. IsTrue (not (is_raised (two_reads.read c) && is_raised (two_reads.write c)))) 2 c ((tt, refl), refl) h;
    held = λ c h held. absurd (each_below (λ c. IsTrue (is_held two_reads.signals (agent_accepts (agent_with_bound 2) two_reads) c) → ⊥) 1 c (tt, λ held. cc) (omega arith) held);
    least = λ c _ _ _. omega arith;
    most = λ c _ _ _. omega arith;
    finished = λ c h under. absurd (each_below (λ c. IsTrue (is_under_way (agent_with_bound 2).shape two_reads.signals (agent_accepts (agent_with_bound 2) two_reads) c) → ⊥) 2 c ((tt, λ h. cc), λ h. cc) h under);
  };
  aligned = λ c h _. refl;
  bounded = λ c h _. each_below (λ c. unanswered (agent_with_bound 2).shape two_reads.signals (agent_accepts (agent_with_bound 2) two_reads) (words_before two_reads.readdatavalid (suc c)) (suc c) ≤ 2) 2 c ((tt, omega arith), omega arith) h;
}
