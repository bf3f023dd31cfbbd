-- A run that holds a second read back is legal, and one that lets it through is past the bound.
use Rattle.std.proofs.Common.{ℕ, suc, ◌<◌, ◌≤◌, ◌≡◌, ◌+◌, ◌/◌, ◌^◌, arith, refl, ap, ◌∙◌, IsTrue, IsFalse, not, ◌&&◌, ◌||◌, if◌then◌else◌, nat_eq}
use Rattle.histories.specs.Below.{each_below}
use Rattle.histories.specs.History.{is_raised, one_if}
use Rattle.memory_runs.specs.Views.{levels_at}
use Rattle.memory_runs.specs.Commands.{is_held, agent_accepts, words_before}
use Rattle.memory_runs.specs.Legal.{IsLegalHost, IsLegalAgent, IsWithinPendingBound, host_accepts, is_under_way, words_asked}
use Rattle.memory_runs.specs.Whole.{IsLegalRun}
use Rattle.runs_tests.specs.WireRows.{agent_side, host_side, one_read, one_read_system, held_back_host, held_back_agent, held_back_run, let_through_agent}

host_is_legal : IsLegalHost (host_side one_read) held_back_host 4
host_is_legal = record {
  one_kind = λ c h. each_below (λ c. IsTrue (not (is_raised (held_back_host.read c) && is_raised (held_back_host.write c)))) 4 c ((((tt, refl), refl), refl), refl) h;
  held = λ c h. each_below (λ c. IsTrue (is_held held_back_host.signals (host_accepts held_back_host) c) → levels_at held_back_host.signals c ≡ levels_at held_back_host.signals (suc c)) 3 c (((tt, λ held. cc), λ held. refl), λ held. cc) (omega arith);
  least = λ c _ _ _. omega arith;
  most = λ c _ _ _. omega arith;
  finished = λ c h. each_below (λ c. IsTrue (is_under_way (host_side one_read).shape held_back_host.signals (host_accepts held_back_host) c) → IsFalse (is_raised (held_back_host.read c))) 4 c ((((tt, λ going. cc), λ going. cc), λ going. cc), λ going. refl) h;
}

agent_is_legal : IsLegalAgent (agent_side one_read) held_back_agent 4
agent_is_legal = record {
  owed = λ _ c h. each_below (λ c. words_before held_back_agent.readdatavalid (suc c) ≤ words_asked (agent_side one_read).shape held_back_agent.signals (agent_accepts (agent_side one_read) held_back_agent) c) 4 c
      ((((tt, omega arith), omega arith), omega arith), omega arith) h;
}

pub held_back_is_legal : IsLegalRun one_read_system held_back_run 4
held_back_is_legal = record { hosts = λ _ _. host_is_legal; agents = λ _ _. agent_is_legal }

pub let_through_is_not : IsWithinPendingBound (agent_side one_read) let_through_agent 2 → ⊥
let_through_is_not bounded = let bad = bounded 1 (omega arith) refl in omega (arith, bad)
