-- What is asked and promised of a run up to a cycle holds of it up to each earlier one.
use Rattle.std.specs.Prelude.{ℕ, ◌≤◌, Bool}
use Rattle.std.proofs.Math.Nat.{lt_of_lt_of_le, le_trans}
use Rattle.memory_runs.specs.Views.{Shape, Signals, System, Run, HostSide, HostView, AgentSide, AgentView, Responses}
use Rattle.memory_runs.specs.Views.Responses.{AreZero, AreCodes}
use Rattle.memory_runs.specs.Legal.{AreLegal, AreOwed, IsLegalAgent, IsProperAtAgent, IsProperAtHost}
use Rattle.memory_runs.specs.Order.{ServesInGrantedOrder, RespondsBy}
use Rattle.memory_runs.specs.Onward.{NoHostHangs}
use Rattle.memory_runs.specs.Awake.{NeverIdles, IsFair}
use Rattle.memory_runs.specs.Whole.{IsLegalRun, IsSafe}

pub legal_before : (shape : Shape) (signals : Signals) (accepts : ℕ → Bool) (shorter end : ℕ) → shorter ≤ end
    → AreLegal shape signals accepts end → AreLegal shape signals accepts shorter
legal_before shape signals accepts shorter end h legal = record {
  one_kind = λ c low. legal.one_kind c (lt_of_lt_of_le low h);
  held = λ c low. legal.held c (lt_of_lt_of_le low h);
  least = λ c low. legal.least c (lt_of_lt_of_le low h);
  most = λ c low. legal.most c (lt_of_lt_of_le low h);
  finished = λ c low. legal.finished c (lt_of_lt_of_le low h);
}

pub owed_before : (valid asked : ℕ → ℕ) (shorter end : ℕ) → shorter ≤ end → AreOwed valid asked end → AreOwed valid asked shorter
owed_before valid asked shorter end h owed = λ c low. owed c (lt_of_lt_of_le low h)

module _ (shorter end : ℕ) (h : shorter ≤ end) where
  pub agent_before : (side : AgentSide) (view : AgentView) → IsLegalAgent side view end → IsLegalAgent side view shorter
  agent_before side view legal = record { owed = λ has c low. legal.owed has c (lt_of_lt_of_le low h) }

  pub proper_at_host_before : (side : HostSide) (view : HostView) → IsProperAtHost side view end
      → IsProperAtHost side view shorter
  proper_at_host_before side view proper = record {
    bounded = λ c low. proper.bounded c (lt_of_lt_of_le low h);
    later = λ has c low. proper.later has c (lt_of_lt_of_le low h);
  }

  pub proper_at_agent_before : (side : AgentSide) (view : AgentView) → IsProperAtAgent side view end
      → IsProperAtAgent side view shorter
  proper_at_agent_before side view proper = record {
    legal = legal_before _ _ _ shorter end h proper.legal;
    aligned = λ c low. proper.aligned c (lt_of_lt_of_le low h);
    bounded = λ c low. proper.bounded c (lt_of_lt_of_le low h);
  }

  pub order_before : (system : System) (run : Run) (agent : ℕ) → ServesInGrantedOrder system run agent end
      → ServesInGrantedOrder system run agent shorter
  order_before system run agent order = record {
    tags = λ c low. order.tags c (lt_of_lt_of_le low h);
    in_order = λ c host low. order.in_order c host (le_trans low h);
    together = λ c low. order.together c (le_trans low h);
    beats = λ c host low. order.beats c host (le_trans low h);
  }

  responds_before : (responses : Responses) (system : System) (run : Run) (host : ℕ) → RespondsBy responses system run host end
      → RespondsBy responses system run host shorter
  responds_before AreZero system run host responds = λ c low. responds c (lt_of_lt_of_le low h)
  responds_before AreCodes system run host responds = record {
    of_words = λ c low. responds.of_words c (lt_of_lt_of_le low h);
    quiet = λ c low. responds.quiet c (lt_of_lt_of_le low h);
    absent = λ c low. responds.absent c (lt_of_lt_of_le low h);
  }

  pub legal_run_before : (system : System) (run : Run) → IsLegalRun system run end → IsLegalRun system run shorter
  legal_run_before system run legal = record {
    hosts = λ host is. legal_before _ _ _ shorter end h (legal.hosts host is);
    agents = λ agent there. agent_before _ _ (legal.agents agent there);
  }

  pub safe_before : (responses : Responses) (system : System) (run : Run) → IsSafe responses system run end
      → IsSafe responses system run shorter
  safe_before responses system run safe = record {
    at_hosts = λ host is. proper_at_host_before _ _ (safe.at_hosts host is);
    at_agents = λ agent there. proper_at_agent_before _ _ (safe.at_agents agent there);
    ordered = λ agent there. order_before system run agent (safe.ordered agent there);
    returned = λ host is c low. safe.returned host is c (lt_of_lt_of_le low h);
    responds = λ host is. responds_before responses system run host (safe.responds host is);
    limited = λ host agent is there c number low. safe.limited host agent is there c number (lt_of_lt_of_le low h);
    lags = λ host agent is there c low. safe.lags host agent is there c (le_trans low h);
  }

  pub awake_before : (system : System) (run : Run) → NeverIdles system run end → NeverIdles system run shorter
  awake_before system run awake = record {
    agents = λ agent there from host number low. awake.agents agent there from host number (le_trans low h);
    default = λ from host number low. awake.default from host number (le_trans low h);
    ahead = λ agent there has alike from host low. awake.ahead agent there has alike from host (le_trans low h);
    hosts_at_default = λ host is from number low. awake.hosts_at_default host is from number (le_trans low h);
  }

  pub onward_before : (window : ℕ → ℕ → ℕ) (system : System) (run : Run) → NoHostHangs window system run end
      → NoHostHangs window system run shorter
  onward_before window system run onward =
      record {
        moves =
            λ agent host there is joined from number low. onward.moves agent host there is joined from number (le_trans low h);
      }

  pub fair_before : (system : System) (run : Run) → IsFair system run end → IsFair system run shorter
  fair_before system run fair = record {
    few = λ agent there from later host number before low. fair.few agent there from later host number before (le_trans low h);
    turns = λ agent there from size low. fair.turns agent there from size (le_trans low h);
  }
