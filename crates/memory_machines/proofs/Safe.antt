-- All of what is promised at the ports.
use Rattle.std.proofs.Common.{ℕ}
use Rattle.memory_machines.proofs.Headline.{ordered, tagged, few_beats, lags, proper_at_agent}
use Rattle.memory_machines.proofs.Gathered.{together}
use Rattle.memory_machines.proofs.Back.{returned, proper_at_host}
use Rattle.memory_machines.proofs.Limits.{limited}
use Rattle.memory_machines.proofs.Responses.{responded}
use Rattle.memory_runs.specs.Views.{Responses, System, Run}
use Rattle.memory_machines.specs.Lines.{Inside, Holds, Wired}
use Rattle.memory_runs.specs.Whole.{IsLegalRun, IsSafe}

pub safe : (responses : Responses) (system : System) (run : Run) (inside : Inside) (holds : Holds) (end : ℕ) → Wired responses system run inside holds end → IsLegalRun system run end → IsSafe responses system run end
safe responses system run inside holds end wired legal = record {
  at_hosts = proper_at_host responses system run inside holds end wired legal;
  at_agents = proper_at_agent responses system run inside holds end wired legal;
  ordered = λ a there. record {
    tags = λ c low. tagged responses system run inside holds end wired legal a c there low;
    in_order = λ c h low is. ordered responses system run inside holds end wired legal h a c is there low;
    together = λ c low. together responses system run inside holds end wired legal a c there low;
    beats = λ c h low is. few_beats responses system run inside holds end wired legal h a c is there low;
  };
  returned = returned responses system run inside holds end wired legal;
  responds = responded responses system run inside holds end wired legal;
  limited = limited responses system run inside holds end wired legal;
  lags = lags responses system run inside holds end wired legal;
}
