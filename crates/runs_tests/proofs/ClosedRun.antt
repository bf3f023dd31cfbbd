-- The closed run is legal and safe, and its agent acts as memory.
use Rattle.std.proofs.Common.{ℕ, suc, ◌<◌, ◌≤◌, ◌-◌, arith, refl, IsTrue, length, filter, nat_eq, not, ◌&&◌, slice_get, map, MatchOption}
use Rattle.std.specs.Bool.{⊤}
use Rattle.histories.specs.Below.{each_below, each_cycle_host}
use Rattle.histories.specs.History.{IsPrefix, is_raised}
use Rattle.memory_runs.specs.Views.{Run}
use Rattle.memory_runs.specs.Views.Responses.{AreZero}
use Rattle.memory_runs.specs.Commands.{agent_accepts, is_held, words_before}
use Rattle.memory_runs.specs.Legal.{IsProperAtAgent, IsProperAtHost, is_under_way, host_accepts, gives_word, given, unanswered, words_asked}
use Rattle.memory_runs.specs.Operations.{bytes_read}
use Rattle.memory_runs.specs.Order.{ActsAsMemory, ServesInGrantedOrder, ReturnsInCommandOrder, IsWordOf, KeepsReadOrder, answers, asked, taken, of_host, issued, is_agent, is_joined, owners_taken, are_together, beats_taken, words_covered, untaken}
use Rattle.memory_runs.specs.Whole.{IsSafe}
use Rattle.runs_tests.specs.ClosedRun.{closed_system as sys, closed_run, first_contents, right_words}

abbrev run : Run
run = closed_run right_words right_words

pub memory : ActsAsMemory sys run first_contents 0 5
memory c last = each_below
    (λ c. IsPrefix (map (λ a. a.byte) (answers sys run 0 c)) (bytes_read first_contents (map (λ t. t.operation) (taken sys run 0 c)))) 6 c
    ((((((tt, record { rest = _; joins = refl }), record { rest = _; joins = refl }), record { rest = _; joins = refl }), record { rest = _; joins = refl }), record { rest = _; joins = refl }), record { rest = _; joins = refl })
    (omega arith)

at_host : IsProperAtHost (sys.host 0) (run.at_host 0) 5
at_host = record {
  bounded = λ c h. each_below (λ c. unanswered (sys.host 0).shape (run.at_host 0).signals (host_accepts (run.at_host 0)) (length (given (sys.host 0) (run.at_host 0) (suc c))) (suc c) ≤ 16) 5 c
      (((((tt, omega arith), omega arith), omega arith), omega arith), omega arith) h;
  later = λ _ c h. each_below (λ c. words_before (run.at_host 0).readdatavalid (suc c) ≤ words_asked (sys.host 0).shape (run.at_host 0).signals (host_accepts (run.at_host 0)) c) 5 c
      (((((tt, omega arith), omega arith), omega arith), omega arith), omega arith) h;
}

at_agent : IsProperAtAgent (sys.agent 0) (run.at_agent 0) 5
at_agent = record {
  legal = record {
    one_kind = λ c h. each_below (λ c. IsTrue (not (is_raised ((run.at_agent 0).read c) && is_raised ((run.at_agent 0).write c)))) 5 c (((((tt, refl), refl), refl), refl), refl) h;
    held = λ c h held. absurd (each_below (λ c. IsTrue (is_held (run.at_agent 0).signals (agent_accepts (sys.agent 0) (run.at_agent 0)) c) → ⊥) 5 c (((((tt, λ held. cc), λ held. cc), λ held. cc), λ held. cc), λ held. cc) (omega arith) held);
    least = λ c _ _ _. omega arith;
    most = λ c _ _ _. omega arith;
    finished = λ c h under. absurd (each_below (λ c. IsTrue (is_under_way (sys.agent 0).shape (run.at_agent 0).signals (agent_accepts (sys.agent 0) (run.at_agent 0)) c) → ⊥) 5 c (((((tt, λ under. cc), λ under. cc), λ under. cc), λ under. cc), λ under. cc) h under);
  };
  aligned = λ c h _. refl;
  bounded = λ c h _. each_below (λ c. unanswered (sys.agent 0).shape (run.at_agent 0).signals (agent_accepts (sys.agent 0) (run.at_agent 0)) (words_before (run.at_agent 0).readdatavalid (suc c)) (suc c) ≤ 4) 5 c
      (((((tt, omega arith), omega arith), omega arith), omega arith), omega arith) h;
}

ordered : ServesInGrantedOrder sys run 0 5
ordered = record {
  tags = λ c h. each_below (λ c. IsTrue (agent_accepts (sys.agent 0) (run.at_agent 0) c) → IsTrue (is_joined sys 0 ((run.at_agent 0).grant c))) 5 c (((((tt, λ _. refl), λ _. refl), λ _. refl), λ _. refl), λ _. refl) h;
  in_order = λ c host. each_cycle_host (λ c host. IsPrefix (of_host host (taken sys run 0 c)) (issued sys run host 0 (c - 0))) 5 1 c host
      ((((((tt, (tt, record { rest = _; joins = refl })), (tt, record { rest = _; joins = refl })), (tt, record { rest = _; joins = refl })), (tt, record { rest = _; joins = refl })), (tt, record { rest = _; joins = refl })), (tt, record { rest = _; joins = refl }));
  together = λ c h. each_below (λ c. IsTrue (are_together (owners_taken sys run 0 c))) 6 c ((((((tt, refl), refl), refl), refl), refl), refl) (omega arith);
  beats = λ c host. each_cycle_host (λ c host. length (filter (λ b. nat_eq b.tag host) (beats_taken sys run 0 c)) ≤ words_covered sys run host 0 c) 5 1 c host
      ((((((tt, (tt, omega arith)), (tt, omega arith)), (tt, omega arith)), (tt, omega arith)), (tt, omega arith)), (tt, omega arith));
}

returned : ReturnsInCommandOrder sys run 0 5
returned c h = each_below (λ c. IsTrue (gives_word (sys.host 0) (run.at_host 0) c) → IsWordOf sys run 0 c (length (given (sys.host 0) (run.at_host 0) c))
    (record { word = (run.at_host 0).readdata c; code = (run.at_host 0).response c })
    (slice_get (asked sys run 0 (suc c)) (length (given (sys.host 0) (run.at_host 0) c)))) 5 c
    (((((tt, λ h. cc), λ h. cc), λ h. cc), λ h. record { enough = omega arith; bytes = refl }), λ h. record { enough = omega arith; bytes = refl }) h

-- all that is asked is the agent's
own : (c number : ℕ) → c < 5 → number < length (asked sys run 0 (suc c)) → MatchOption (slice_get (asked sys run 0 (suc c)) number) ⊤ (λ q. IsTrue (not (is_agent 0 q.place))) → ⊥
own c number h = each_below (λ c. number < length (asked sys run 0 (suc c)) → MatchOption (slice_get (asked sys run 0 (suc c)) number) ⊤ (λ q. IsTrue (not (is_agent 0 q.place))) → ⊥) 5 c
    (((((tt, λ few. each_below (λ number. MatchOption (slice_get (asked sys run 0 (suc 0)) number) ⊤ (λ q. IsTrue (not (is_agent 0 q.place))) → ⊥) 0 number tt few), λ few. each_below (λ number. MatchOption (slice_get (asked sys run 0 (suc 1)) number) ⊤ (λ q. IsTrue (not (is_agent 0 q.place))) → ⊥) 1 number (tt, λ other. cc) few), λ few. each_below (λ number. MatchOption (slice_get (asked sys run 0 (suc 2)) number) ⊤ (λ q. IsTrue (not (is_agent 0 q.place))) → ⊥) 1 number (tt, λ other. cc) few), λ few. each_below (λ number. MatchOption (slice_get (asked sys run 0 (suc 3)) number) ⊤ (λ q. IsTrue (not (is_agent 0 q.place))) → ⊥) 2 number ((tt, λ other. cc), λ other. cc) few), λ few. each_below (λ number. MatchOption (slice_get (asked sys run 0 (suc 4)) number) ⊤ (λ q. IsTrue (not (is_agent 0 q.place))) → ⊥) 2 number ((tt, λ other. cc), λ other. cc) few) h

ordered_reads : KeepsReadOrder sys run 0 0 5
ordered_reads c number h few other _ = absurd (own c number h few other)

lags : (c : ℕ) → c ≤ 5 → untaken sys run 0 0 c ≤ 6
lags c h = each_below (λ c. untaken sys run 0 0 c ≤ 6) 6 c ((((((tt, omega arith), omega arith), omega arith), omega arith), omega arith), omega arith) (omega arith)

pub safe : IsSafe AreZero sys run 5
safe = record {
  at_hosts = λ h _. at_host;
  at_agents = λ a _. at_agent;
  ordered = λ a low. each_below (λ a. ServesInGrantedOrder sys run a 5) 1 a (tt, ordered) low;
  returned = λ h low. each_below (λ h. ReturnsInCommandOrder sys run h 5) 1 h (tt, returned) low;
  responds = λ h _ c _. refl;
  limited = λ h a low there. each_below (λ h. KeepsReadOrder sys run h a 5) 1 h (tt, each_below (λ a. KeepsReadOrder sys run 0 a 5) 1 a (tt, ordered_reads) there) low;
  lags = λ h a low there. each_below (λ h. (c : ℕ) → c ≤ 5 → untaken sys run h a c ≤ 6) 1 h (tt, each_below (λ a. (c : ℕ) → c ≤ 5 → untaken sys run 0 a c ≤ 6) 1 a (tt, lags) there) low;
}
