-- What is told and counted of an agent.
use Rattle.std.proofs.Common.{◌≡◌, ◌+◌, ◌*◌, ◌%◌, ℕ, Bool, true, false, nat_eq, List, [], ◌∷◌, IsTrue, IsFalse, refl, sym, ap, subst, ◌∙◌, arith}
use Rattle.std.specs.Prelude.{if◌then◌else◌}
use Rattle.std.proofs.lemmas.Bool.{cond-true, cond-false}
use Rattle.av_base.specs.Word.{word}
use Rattle.iface_roles.specs.Proper.{span_of}
use Rattle.iface_roles.specs.declared.records.Finished.TheVariants.{Agent}
use Rattle.histories.specs.History.{is_raised, one_if}
use Rattle.memory_runs.specs.Sides.{agent_side}
use Rattle.system_tables.specs.Tables.{SystemTable}
use Rattle.cycle_sim.specs.Sims.{SimValue}
use Rattle.memory_runs.specs.Views.{Levels, AgentView, levels_at}
use Rattle.memory_runs.specs.Commands.{Burst, agent_accepts, burst_before, byte_address}
use Rattle.scenario_tables.specs.declared.statements.AgentStatement.{AgentStatement}
use Rattle.stand_ins.specs.StandIns.{stalls_in}
use Rattle.stand_ins.specs.Whole.{AgentStandInValue, IsBehind, StandsFor, TakesAsDefined, accepts, address_shown}
use Rattle.trace_lines.specs.Lines.{write_line, read_line}
use Rattle.trace_lines.specs.Told.{AgentEnd, told_of_agent, read_address, write_address}
use Rattle.trace_lines.specs.Sums.{beats_taken_in}
use Rattle.benches.specs.Outputs.{level_now}
use Rattle.benches.specs.Agents.{BenchAgentValue, IsAgentOf, IsSeen, Follows, commanded, tells, beats_taken}

-- ---- what is known

abbrev pub Takes : Type 0
Takes = (script : List AgentStatement) (agent : AgentStandInValue) (view : AgentView) → StandsFor script agent view → view.waitrequest agent.cycle ≡ one_if (stalls_in agent.stalls agent.cycle) → TakesAsDefined agent view

abbrev pub GoesOn : Type 0
GoesOn = (script : List AgentStatement) (agent after : AgentStandInValue) (view : AgentView) → StandsFor script agent view → view.waitrequest agent.cycle ≡ one_if (stalls_in agent.stalls agent.cycle)
    → IsBehind agent (levels_at view.signals agent.cycle) after → StandsFor script after view

pub record TellsByPorts : Type 0 where
  pub nothing : (c : ℕ) (agent : AgentEnd) → IsFalse (agent_accepts agent.side agent.view c) → (told_of_agent c agent ≡ []) × (beats_taken_in c agent ≡ 0)
  pub write : (c : ℕ) (agent : AgentEnd) → IsTrue (agent_accepts agent.side agent.view c) → IsTrue (is_raised (agent.view.write c))
      → told_of_agent c agent ≡ write_line c agent.name (agent.view.grant c) (write_address c agent % agent.side.span) (word agent.side.word_bytes (agent.view.enables c)) (word (8 * agent.side.word_bytes) (agent.view.word c)) ∷ []
  pub read : (c : ℕ) (agent : AgentEnd) → IsTrue (agent_accepts agent.side agent.view c) → IsFalse (is_raised (agent.view.write c))
      → told_of_agent c agent ≡ read_line c agent.name (agent.view.grant c) (read_address c agent % agent.side.span) (word agent.side.word_bytes (agent.view.enables c)) (agent.view.count c) ∷ []
  pub one_beat : (c : ℕ) (agent : AgentEnd) → IsTrue (agent_accepts agent.side agent.view c) → IsTrue (is_raised (agent.view.write c)) → beats_taken_in c agent ≡ 1
  pub words : (c : ℕ) (agent : AgentEnd) → IsTrue (agent_accepts agent.side agent.view c) → IsFalse (is_raised (agent.view.write c)) → beats_taken_in c agent ≡ agent.view.count c

-- ---- the address of what is taken

beat_address : (begins : Bool) (named first done word_bytes : ℕ) → (if begins then named else first) + (if begins then 0 else done) * word_bytes ≡ (if begins then named else first + done * word_bytes)
beat_address true named first done word_bytes = omega arith
beat_address false named first done word_bytes = refl

abbrev end_of : BenchAgentValue → AgentView → AgentEnd
end_of agent view = record { name = agent.name; side = agent_side agent.stand_in.port; view = view }

-- where this burst is under way
abbrev beat_of : BenchAgentValue → AgentView → Burst → ℕ
beat_of agent view burst =
    let shape = (agent_side agent.stand_in.port).shape in
    (if nat_eq burst.left 0 then byte_address shape (view.signals.address agent.stand_in.cycle) else burst.first) + (if nat_eq burst.left 0 then 0 else burst.done) * shape.word_bytes

write_at : (script : List AgentStatement) (view : AgentView) (agent : BenchAgentValue) → StandsFor script agent.stand_in view → IsTrue (is_raised (view.signals.write agent.stand_in.cycle))
    → address_shown agent.stand_in (levels_at view.signals agent.stand_in.cycle) ≡ write_address agent.stand_in.cycle (end_of agent view)
write_at script view agent stands writes =
    let shape = (agent_side agent.stand_in.port).shape in
    let burst = burst_before shape view.signals (agent_accepts (agent_side agent.stand_in.port) view) agent.stand_in.cycle in
    cond-true (is_raised (view.signals.write agent.stand_in.cycle)) (beat_of agent view agent.stand_in.burst) (byte_address shape (view.signals.address agent.stand_in.cycle)) writes
    ∙ ap (beat_of agent view) stands.burst
    ∙ beat_address (nat_eq burst.left 0) (byte_address shape (view.signals.address agent.stand_in.cycle)) burst.first burst.done shape.word_bytes

read_at : (view : AgentView) (agent : BenchAgentValue) → IsFalse (is_raised (view.signals.write agent.stand_in.cycle))
    → address_shown agent.stand_in (levels_at view.signals agent.stand_in.cycle) ≡ read_address agent.stand_in.cycle (end_of agent view)
read_at view agent reads = cond-false (is_raised (view.signals.write agent.stand_in.cycle)) _ (read_address agent.stand_in.cycle (end_of agent view)) reads

-- ---- the line

abbrev line_of : BenchAgentValue → ℕ → ℕ → ℕ → Levels → Bool → List ℕ
line_of agent c host address levels writes =
    let offset = address % span_of agent.stand_in.port in
    let enables = word agent.stand_in.port.word_bytes levels.enables in
    if writes then write_line c agent.name host offset enables (word (8 * agent.stand_in.port.word_bytes) levels.word) else read_line c agent.name host offset enables levels.count

line_told : TellsByPorts → (script : List AgentStatement) (view : AgentView) (agent : BenchAgentValue) → StandsFor script agent.stand_in view
    → IsTrue (agent_accepts (agent_side agent.stand_in.port) view agent.stand_in.cycle) → (writes : Bool) → is_raised (view.signals.write agent.stand_in.cycle) ≡ writes
    → line_of agent agent.stand_in.cycle (view.grant agent.stand_in.cycle) (address_shown agent.stand_in (levels_at view.signals agent.stand_in.cycle)) (levels_at view.signals agent.stand_in.cycle) writes ∷ []
    ≡ told_of_agent agent.stand_in.cycle (end_of agent view)
line_told law script view agent stands taken true writes =
    ap (λ (address : ℕ). line_of agent agent.stand_in.cycle (view.grant agent.stand_in.cycle) address (levels_at view.signals agent.stand_in.cycle) true ∷ []) (write_at script view agent stands writes)
    ∙ sym (law.write agent.stand_in.cycle (end_of agent view) taken writes)
line_told law script view agent stands taken false reads =
    ap (λ (address : ℕ). line_of agent agent.stand_in.cycle (view.grant agent.stand_in.cycle) address (levels_at view.signals agent.stand_in.cycle) false ∷ []) (read_at view agent reads)
    ∙ sym (law.read agent.stand_in.cycle (end_of agent view) taken reads)

either_told : (takes : Bool) (line : List ℕ) (told : List (List ℕ)) → (takes ≡ true → line ∷ [] ≡ told) → (takes ≡ false → told ≡ []) → (if takes then line ∷ [] else []) ≡ told
either_told true line told taken idle = taken refl
either_told false line told taken idle = sym (idle refl)

-- with these levels, of this host
abbrev told_with : BenchAgentValue → ℕ → Levels → List (List ℕ)
told_with agent host levels =
    if accepts agent.stand_in levels then line_of agent agent.stand_in.cycle host (address_shown agent.stand_in levels) levels (is_raised levels.write) ∷ [] else []

pub lines_told : Takes → TellsByPorts → (script : List AgentStatement) (view : AgentView) (sim : SimValue) (agent : BenchAgentValue) → StandsFor script agent.stand_in view → IsSeen view sim agent
    → tells agent sim agent.stand_in.cycle ≡ told_of_agent agent.stand_in.cycle (end_of agent view)
lines_told takes law script view sim agent stands seen =
    let levels = levels_at view.signals agent.stand_in.cycle in
    let accepted = (takes script agent.stand_in view stands seen.waitrequest).accepted in
    ap (told_with agent (level_now sim 0 agent.ports.grant)) (sym seen.signals)
    ∙ ap (λ (host : ℕ). told_with agent host levels) (sym seen.grant)
    ∙ either_told (accepts agent.stand_in levels) _ _
    (λ taken. line_told law script view agent stands (sym accepted ∙ taken) (is_raised levels.write) refl)
    (λ idle. (law.nothing agent.stand_in.cycle (end_of agent view) (sym accepted ∙ idle)).0)

-- ---- the beats

beats_told : TellsByPorts → (view : AgentView) (agent : BenchAgentValue) → IsTrue (agent_accepts (agent_side agent.stand_in.port) view agent.stand_in.cycle)
    → (writes : Bool) → is_raised (view.signals.write agent.stand_in.cycle) ≡ writes
    → (if writes then 1 else view.signals.count agent.stand_in.cycle) ≡ beats_taken_in agent.stand_in.cycle (end_of agent view)
beats_told law view agent taken true writes = sym (law.one_beat agent.stand_in.cycle (end_of agent view) taken writes)
beats_told law view agent taken false reads = sym (law.words agent.stand_in.cycle (end_of agent view) taken reads)

either_counted : (takes : Bool) (beats told : ℕ) → (takes ≡ true → beats ≡ told) → (takes ≡ false → told ≡ 0) → (if takes then beats else 0) ≡ told
either_counted true beats told taken idle = taken refl
either_counted false beats told taken idle = sym (idle refl)

pub beats_counted : Takes → TellsByPorts → (script : List AgentStatement) (view : AgentView) (sim : SimValue) (agent : BenchAgentValue) → StandsFor script agent.stand_in view → IsSeen view sim agent
    → beats_taken agent (commanded agent sim) ≡ beats_taken_in agent.stand_in.cycle (end_of agent view)
beats_counted takes law script view sim agent stands seen =
    let levels = levels_at view.signals agent.stand_in.cycle in
    let accepted = (takes script agent.stand_in view stands seen.waitrequest).accepted in
    ap (beats_taken agent) (sym seen.signals)
    ∙ either_counted (accepts agent.stand_in levels) _ _
    (λ taken. beats_told law view agent (sym accepted ∙ taken) (is_raised levels.write) refl)
    (λ idle. (law.nothing agent.stand_in.cycle (end_of agent view) (sym accepted ∙ idle)).1)

-- ---- behind the cycle

pub agent_stays : (system : SystemTable) (number : ℕ) (agent after : BenchAgentValue) (sim : SimValue) → IsAgentOf system number agent → Follows agent sim after → IsAgentOf system number after
agent_stays system number agent after sim of follows = record {
  at = record { end = of.at.end; end_is = of.at.end_is; is = of.at.is ∙ ap Agent (sym follows.stand_in.port) };
  name = follows.name ∙ of.name;
  places = follows.places ∙ of.places;
  ports = follows.ports ∙ of.ports;
}

pub stand_in_goes_on : GoesOn → (script : List AgentStatement) (view : AgentView) (sim : SimValue) (agent after : BenchAgentValue) → StandsFor script agent.stand_in view → IsSeen view sim agent
    → Follows agent sim after → StandsFor script after.stand_in view
stand_in_goes_on law script view sim agent after stands seen follows =
    law script agent.stand_in after.stand_in view stands seen.waitrequest (subst (λ (levels : Levels). IsBehind agent.stand_in levels after.stand_in) (sym seen.signals) follows.stand_in)
