-- What is drawn for agents fits them.
use Rattle.std.proofs.Common.{◌≡◌, ℕ, ◌+◌, Bool, true, false, cond, [], ◌∷◌, ◌++◌, refl, arith}
use Rattle.std.specs.Prelude.{All}
use Rattle.iface_roles.specs.declared.records.AgentPort.{AgentPort}
use Rattle.scenario_tables.specs.declared.statements.AgentStatement.TheVariants.{Stall, Latency}
use Rattle.scenario_tables.specs.declared.statements.Pattern.{Pattern}
use Rattle.scenario_tables.specs.Statements.{IsPattern, FitsAgent, IsAgentScript}
use Rattle.drawn_scenarios.specs.Draws.{draw, pattern, stalls, always}
use Rattle.drawn_scenarios.specs.Agents.{stall, latency, stall_of, latency_of, agent_script}
use Rattle.drawn_scenarios.proofs.DrawLemmas.{draw_small, all_cons, repeated_count}

pub pattern_fits : (state : ℕ) → IsPattern (pattern state).0
unfolding pattern
pattern_fits state = let count = repeated_count stalls 16 state in record { some = omega arith; few = omega arith }

none : {X : Type 0} (P : X → Type 0) → All P []
none P k d less = absurd (omega arith)

stall_fits : (port : AgentPort) (state : ℕ) → port.waitrequest ≡ true → FitsAgent port (Stall (pattern state).0)
stall_fits port state set = record { stalls = set; is_pattern = pattern_fits state }

latency_fits : (port : AgentPort) (state : ℕ) → port.readdatavalid ≡ true → FitsAgent port (Latency (1 + (draw 8 state).0))
latency_fits port state set = let small = draw_small 8 state (omega arith) in record { late = set; some = omega arith; few = omega arith }

both_fit : (port : AgentPort) (stalls_by : Pattern) (cycles : ℕ) → FitsAgent port (Stall stalls_by) → FitsAgent port (Latency cycles) → IsAgentScript port (Stall stalls_by ∷ Latency cycles ∷ [])
both_fit port stalls_by cycles first second = record {
  short = omega arith;
  each = all_cons (FitsAgent port) (Stall stalls_by) (Latency cycles ∷ []) first (all_cons (FitsAgent port) (Latency cycles) [] second (none (FitsAgent port)));
  one_stall = omega arith;
  one_latency = omega arith;
}

one_stalls : (port : AgentPort) (stalls_by : Pattern) → FitsAgent port (Stall stalls_by) → IsAgentScript port (Stall stalls_by ∷ [])
one_stalls port stalls_by first =
    record { short = omega arith; each = all_cons (FitsAgent port) (Stall stalls_by) [] first (none (FitsAgent port)); one_stall = omega arith; one_latency = omega arith }

one_late : (port : AgentPort) (cycles : ℕ) → FitsAgent port (Latency cycles) → IsAgentScript port (Latency cycles ∷ [])
one_late port cycles first =
    record { short = omega arith; each = all_cons (FitsAgent port) (Latency cycles) [] first (none (FitsAgent port)); one_stall = omega arith; one_latency = omega arith }

none_fit : (port : AgentPort) → IsAgentScript port []
none_fit port = record { short = omega arith; each = none (FitsAgent port); one_stall = omega arith; one_latency = omega arith }

script_by : (port : AgentPort) (w r : Bool) (state : ℕ) → port.waitrequest ≡ w → port.readdatavalid ≡ r
    → IsAgentScript port ((cond w stall (always []) state).0 ++ (cond r latency (always []) (cond w stall (always []) state).1).0)
unfolding stall latency
script_by port true true state stalls_too late_too = both_fit port _ _ (stall_fits port state stalls_too) (latency_fits port _ late_too)
script_by port true false state stalls_too late_too = one_stalls port _ (stall_fits port state stalls_too)
script_by port false true state stalls_too late_too = one_late port _ (latency_fits port _ late_too)
script_by port false false state stalls_too late_too = none_fit port

pub script_fits : (port : AgentPort) (state : ℕ) → IsAgentScript port (agent_script port state).0
unfolding agent_script stall_of latency_of
script_fits port state = script_by port port.waitrequest port.readdatavalid state refl refl
