-- One cycle at all ports, and that the commands in it don't depend on the words that come in it.
use Rattle.std.specs.Prelude.{◌≡◌, ℕ, ◌<◌}
use Rattle.memory_runs.specs.Views.{Levels, System, Responses}
use Rattle.memory_runs.specs.Views.Responses.{AreZero, AreCodes}

-- what an agent gives in a cycle
pub record AgentGives : Type 0 where
  pub waitrequest : ℕ
  pub readdatavalid : ℕ
  pub readdata : ℕ
  pub response : ℕ

-- what the module shows to an agent in a cycle
pub record AgentSees : Type 0 where
  pub levels : Levels
  pub grant : ℕ

pub record Moment : Type 0 where
  pub from_host : ℕ → Levels
  pub from_agent : ℕ → AgentGives
  pub to_agent : ℕ → AgentSees

-- an agent gives the same but for its word; once its code is read, also but for that
abbrev pub GivesAlike : Responses → AgentGives → AgentGives → Type 0
GivesAlike AreZero one other =
    (one.waitrequest ≡ other.waitrequest) × (one.readdatavalid ≡ other.readdatavalid) × (one.response ≡ other.response)
GivesAlike AreCodes one other = (one.waitrequest ≡ other.waitrequest) × (one.readdatavalid ≡ other.readdatavalid)

pub record HaveAlikeInputs (responses : Responses) (system : System) (one other : Moment) : Type 0 where
  pub hosts : (h : ℕ) → h < system.hosts → one.from_host h ≡ other.from_host h
  pub agents : (a : ℕ) → a < system.agents → GivesAlike responses (one.from_agent a) (other.from_agent a)

-- `Allows state moment`: the module can show this moment in this state. Two moments with one state, whose inputs differ in the
-- agents' words alone, have the same commands at every agent, and the same grant
abbrev pub IgnoresReaddata : {State : Type 0} → Responses → System → (State → Moment → Type 0) → Type 0
IgnoresReaddata {State} responses system Allows =
    (state : State) (one other : Moment) → Allows state one → Allows state other → HaveAlikeInputs responses system one other →
    (a : ℕ) → a < system.agents → one.to_agent a ≡ other.to_agent a
