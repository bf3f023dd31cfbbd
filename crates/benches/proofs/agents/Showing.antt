-- What an agent shows.
use Rattle.std.proofs.Common.{◌≡◌, ◌≤◌, ◌⊎◌, inl, inr, ℕ, zero, suc, Bool, true, false, not, ◌&&◌, nat_eq, List, [], ◌∷◌, length, slice_index_or, IsFalse, refl, sym, ap, subst, ◌∙◌, arith}
use Rattle.std.specs.Prelude.{if◌then◌else◌}
use Rattle.std.proofs.lemmas.Bool.{cond-false, eqb-true}
use Rattle.iface_roles.specs.declared.records.AgentPort.{AgentPort}
use Rattle.iface_roles.specs.Proper.{IsBoundedAgent}
use Rattle.histories.specs.History.{one_if}
use Rattle.cycle_sim.specs.Sims.{SimValue}
use Rattle.memory_runs.specs.Views.{AgentView, levels_at}
use Rattle.memory_runs.specs.Legal.{Word as CodedWord}
use Rattle.scenario_tables.specs.declared.statements.AgentStatement.{AgentStatement}
use Rattle.scenario_tables.specs.Statements.{IsAgentScript}
use Rattle.stand_ins.specs.declared.delayed.Answer.{Answer}
use Rattle.stand_ins.specs.Answers.{no_answer}
use Rattle.stand_ins.specs.StandIns.{stalls_in, word_in, code_in}
use Rattle.stand_ins.specs.Whole.{AgentStandInValue, ShowsAsDefined, StandsFor, word_now, word_shown, code_now, code_shown}
use Rattle.port_rows.specs.declared.agent_ends.places.AgentLevels.{AgentLevels}
use Rattle.port_rows.specs.Agents.{AllHoldBytes, AreShownBy, FitsPorts, stand_in_levels}
use Rattle.simulated_runs.specs.Simulated.{AgentShows}
use Rattle.benches.specs.Agents.{BenchAgentValue, IsSeen, commanded, first_word, gives_at_once, levels_with, word_answered}

-- ---- what is known

abbrev pub Shows : Type 0
Shows = (script : List AgentStatement) (agent : AgentStandInValue) (view : AgentView) → StandsFor script agent view → ShowsAsDefined script agent view

abbrev pub StandInsFit : Type 0
StandInsFit = (port : AgentPort) (script : List AgentStatement) (view : AgentView) (c : ℕ) → IsBoundedAgent port → IsAgentScript port script → AllHoldBytes script
    → (IsFalse port.reads → (d : ℕ) → d ≤ c → view.signals.read d ≡ 0) → FitsPorts port (stand_in_levels port script view c)

abbrev pub WordlessFit : Type 0
WordlessFit = (port : AgentPort) (levels : AgentLevels) → FitsPorts port levels → FitsPorts port (record levels { word = 0; code = 0 })

-- ---- when a word comes

at_once : (valid : Bool) (latency : ℕ) → (not valid && nat_eq latency 0) ≡ true → (valid ≡ false) × (latency ≡ 0)
at_once true latency h = absurd (let no : false ≡ true = h in cc)
at_once false zero h = (refl, refl)
at_once false (suc latency) h = (refl, eqb-true (suc latency) 0 h)

later : (valid : Bool) (latency : ℕ) → (not valid && nat_eq latency 0) ≡ false → (valid ≡ true) ⊎ ((valid ≡ false) × (1 ≤ latency))
later true latency h = inl refl
later false zero h = absurd (let no : true ≡ false = h in cc)
later false (suc latency) h = inr (refl, omega arith)

none_delayed : (delayed : List Answer) → length delayed ≡ 0 → slice_index_or delayed 0 no_answer ≡ no_answer
none_delayed [] none = refl
none_delayed (answer ∷ answers) none = absurd (omega arith)

word_as_defined : (script : List AgentStatement) (view : AgentView) (agent : BenchAgentValue) → ShowsAsDefined script agent.stand_in view → gives_at_once agent ≡ false
    → word_shown agent.stand_in ≡ word_in agent.stand_in.port script view agent.stand_in.cycle
word_as_defined script view agent shows late =
    elim (later agent.stand_in.port.readdatavalid agent.stand_in.port.read_latency late) [ inl valid ↦ shows.late valid | inr fixed ↦ shows.fixed fixed.0 fixed.1 ]

code_as_defined : (script : List AgentStatement) (view : AgentView) (agent : BenchAgentValue) → ShowsAsDefined script agent.stand_in view → gives_at_once agent ≡ false
    → code_shown agent.stand_in ≡ code_in agent.stand_in.port script view agent.stand_in.cycle
code_as_defined script view agent shows late =
    elim (later agent.stand_in.port.readdatavalid agent.stand_in.port.read_latency late) [ inl valid ↦ shows.late_code valid | inr fixed ↦ shows.fixed_code fixed.0 fixed.1 ]

-- an agent that answers at once shows nothing before its command is known
nothing_yet : (script : List AgentStatement) (view : AgentView) (agent : BenchAgentValue) → StandsFor script agent.stand_in view → gives_at_once agent ≡ true
    → (word_shown agent.stand_in ≡ 0) × (code_shown agent.stand_in ≡ 0)
nothing_yet script view agent stands now =
    let fixed = at_once agent.stand_in.port.readdatavalid agent.stand_in.port.read_latency now in
    let none = none_delayed agent.stand_in.delayed (stands.delay fixed.0 ∙ fixed.1) in (
      cond-false agent.stand_in.port.readdatavalid _ (slice_index_or agent.stand_in.delayed 0 no_answer).word fixed.0 ∙ ap (λ (answer : Answer). answer.word) none,
      cond-false agent.stand_in.port.readdatavalid _ (slice_index_or agent.stand_in.delayed 0 no_answer).code fixed.0 ∙ ap (λ (answer : Answer). answer.code) none,
    )

-- the word of the cycle, once the command is known, and its code
either_level : (now : Bool) (asked late level : ℕ) → (now ≡ true → asked ≡ level) → (now ≡ false → late ≡ level) → (if now then asked else late) ≡ level
either_level true asked late level one other = one refl
either_level false asked late level one other = other refl

answered : (script : List AgentStatement) (view : AgentView) (sim : SimValue) (agent : BenchAgentValue) → ShowsAsDefined script agent.stand_in view
    → commanded agent sim ≡ levels_at view.signals agent.stand_in.cycle → view.waitrequest agent.stand_in.cycle ≡ one_if (stalls_in agent.stand_in.stalls agent.stand_in.cycle)
    → (word_answered agent sim).word ≡ word_in agent.stand_in.port script view agent.stand_in.cycle
answered script view sim agent shows levels waits =
    either_level (gives_at_once agent) (word_now agent.stand_in (commanded agent sim)) (word_shown agent.stand_in) (word_in agent.stand_in.port script view agent.stand_in.cycle)
    (λ now. let fixed = at_once agent.stand_in.port.readdatavalid agent.stand_in.port.read_latency now in ap (word_now agent.stand_in) levels ∙ shows.at_once fixed.0 fixed.1 waits)
    (word_as_defined script view agent shows)

code_answered : (script : List AgentStatement) (view : AgentView) (sim : SimValue) (agent : BenchAgentValue) → ShowsAsDefined script agent.stand_in view
    → commanded agent sim ≡ levels_at view.signals agent.stand_in.cycle → view.waitrequest agent.stand_in.cycle ≡ one_if (stalls_in agent.stand_in.stalls agent.stand_in.cycle)
    → (word_answered agent sim).code ≡ code_in agent.stand_in.port script view agent.stand_in.cycle
code_answered script view sim agent shows levels waits =
    either_level (gives_at_once agent) (code_now agent.stand_in (commanded agent sim)) (code_shown agent.stand_in) (code_in agent.stand_in.port script view agent.stand_in.cycle)
    (λ now. let fixed = at_once agent.stand_in.port.readdatavalid agent.stand_in.port.read_latency now in ap (code_now agent.stand_in) levels ∙ shows.code_at_once fixed.0 fixed.1 waits)
    (code_as_defined script view agent shows)

-- ---- what it sets fits its ports

levels_are : (w x v y : Bool) (p q k l : ℕ) → w ≡ x → v ≡ y → p ≡ q → k ≡ l →
    let one : AgentLevels = record { wait = w; valid = v; word = p; code = k } in
    let other : AgentLevels = record { wait = x; valid = y; word = q; code = l } in
    one ≡ other
levels_are w x v y p q k l same_wait same_valid same_word same_code = rw (same_wait, same_valid, same_word, same_code) refl

fits_with : (script : List AgentStatement) (view : AgentView) (agent : BenchAgentValue) (answer : CodedWord) → ShowsAsDefined script agent.stand_in view
    → answer.word ≡ word_in agent.stand_in.port script view agent.stand_in.cycle → answer.code ≡ code_in agent.stand_in.port script view agent.stand_in.cycle
    → FitsPorts agent.stand_in.port (stand_in_levels agent.stand_in.port script view agent.stand_in.cycle) → FitsPorts agent.stand_in.port (levels_with agent answer)
fits_with script view agent answer shows word code fits =
    subst (FitsPorts agent.stand_in.port) (sym (levels_are _ _ _ _ _ _ _ _ shows.waitrequest shows.readdatavalid word code)) fits

fits_without : (script : List AgentStatement) (view : AgentView) (agent : BenchAgentValue) (answer : CodedWord) → WordlessFit → ShowsAsDefined script agent.stand_in view → answer.word ≡ 0 → answer.code ≡ 0
    → FitsPorts agent.stand_in.port (stand_in_levels agent.stand_in.port script view agent.stand_in.cycle) → FitsPorts agent.stand_in.port (levels_with agent answer)
fits_without script view agent answer law shows word code fits =
    subst (FitsPorts agent.stand_in.port) (sym (levels_are _ _ _ _ _ _ _ _ shows.waitrequest shows.readdatavalid word code))
    (law agent.stand_in.port (stand_in_levels agent.stand_in.port script view agent.stand_in.cycle) fits)

either_fits : (now : Bool) (F : Type 0) → (now ≡ true → F) → (now ≡ false → F) → F
either_fits true F one other = one refl
either_fits false F one other = other refl

pub fits_at_first : Shows → StandInsFit → WordlessFit → (script : List AgentStatement) (view : AgentView) (agent : BenchAgentValue) → IsBoundedAgent agent.stand_in.port → IsAgentScript agent.stand_in.port script
    → AllHoldBytes script → StandsFor script agent.stand_in view → (IsFalse agent.stand_in.port.reads → (d : ℕ) → d ≤ agent.stand_in.cycle → view.signals.read d ≡ 0)
    → FitsPorts agent.stand_in.port (levels_with agent (first_word agent))
fits_at_first as_defined fit wordless script view agent bounded kept bytes stands unread =
    let shows = as_defined script agent.stand_in view stands in
    let fits = fit agent.stand_in.port script view agent.stand_in.cycle bounded kept bytes unread in
    either_fits (gives_at_once agent) (FitsPorts agent.stand_in.port (levels_with agent (first_word agent)))
    (λ now. let none = nothing_yet script view agent stands now in fits_without script view agent (first_word agent) wordless shows none.0 none.1 fits)
    (λ late. fits_with script view agent (first_word agent) shows (word_as_defined script view agent shows late) (code_as_defined script view agent shows late) fits)

pub fits_once_answered : Shows → StandInsFit → (script : List AgentStatement) (view : AgentView) (sim : SimValue) (agent : BenchAgentValue) → IsBoundedAgent agent.stand_in.port
    → IsAgentScript agent.stand_in.port script → AllHoldBytes script → StandsFor script agent.stand_in view
    → (IsFalse agent.stand_in.port.reads → (d : ℕ) → d ≤ agent.stand_in.cycle → view.signals.read d ≡ 0) → IsSeen view sim agent
    → FitsPorts agent.stand_in.port (levels_with agent (word_answered agent sim))
fits_once_answered as_defined fit script view sim agent bounded kept bytes stands unread seen =
    let shows = as_defined script agent.stand_in view stands in
    fits_with script view agent (word_answered agent sim) shows (answered script view sim agent shows (sym seen.signals) seen.waitrequest)
    (code_answered script view sim agent shows (sym seen.signals) seen.waitrequest)
    (fit agent.stand_in.port script view agent.stand_in.cycle bounded kept bytes unread)

-- ---- a view that shows it

pub shown_as_defined : Shows → (script : List AgentStatement) (view : AgentView) (sim : SimValue) (agent : BenchAgentValue) → StandsFor script agent.stand_in view
    → commanded agent sim ≡ levels_at view.signals agent.stand_in.cycle → AreShownBy view agent.stand_in.cycle (levels_with agent (word_answered agent sim))
    → AgentShows agent.stand_in.port script view agent.stand_in.cycle
shown_as_defined as_defined script view sim agent stands levels shown =
    let shows = as_defined script agent.stand_in view stands in
    record {
      waitrequest = shown.waitrequest ∙ ap one_if shows.waitrequest;
      readdatavalid = shown.readdatavalid ∙ ap one_if shows.readdatavalid;
      readdata = shown.readdata ∙ answered script view sim agent shows levels shown.waitrequest;
      response = shown.response ∙ code_answered script view sim agent shows levels shown.waitrequest;
    }
