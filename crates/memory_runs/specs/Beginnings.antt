-- Runs that show the same in their first cycles.
use Rattle.std.specs.Prelude.{◌≡◌, ℕ, ◌<◌}
use Rattle.memory_runs.specs.Views.{HostView, AgentView, Run, levels_at}

pub record HostsAgree (one two : HostView) (end : ℕ) : Type 0 where
  pub signals : (c : ℕ) → c < end → levels_at one.signals c ≡ levels_at two.signals c
  pub waitrequest : (c : ℕ) → c < end → one.waitrequest c ≡ two.waitrequest c
  pub readdata : (c : ℕ) → c < end → one.readdata c ≡ two.readdata c
  pub readdatavalid : (c : ℕ) → c < end → one.readdatavalid c ≡ two.readdatavalid c
  pub response : (c : ℕ) → c < end → one.response c ≡ two.response c

pub record AgentsAgree (one two : AgentView) (end : ℕ) : Type 0 where
  pub signals : (c : ℕ) → c < end → levels_at one.signals c ≡ levels_at two.signals c
  pub waitrequest : (c : ℕ) → c < end → one.waitrequest c ≡ two.waitrequest c
  pub readdata : (c : ℕ) → c < end → one.readdata c ≡ two.readdata c
  pub readdatavalid : (c : ℕ) → c < end → one.readdatavalid c ≡ two.readdatavalid c
  pub response : (c : ℕ) → c < end → one.response c ≡ two.response c
  pub grant : (c : ℕ) → c < end → one.grant c ≡ two.grant c

-- two runs show the same at each port in the cycles before `end`
pub record RunsAgreeBefore (one two : Run) (end : ℕ) : Type 0 where
  pub hosts : (h : ℕ) → HostsAgree (one.at_host h) (two.at_host h) end
  pub agents : (a : ℕ) → AgentsAgree (one.at_agent a) (two.at_agent a) end
