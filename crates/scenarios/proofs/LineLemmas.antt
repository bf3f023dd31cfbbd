-- Each line that breaks no rule leaves what fits the system.
use Rattle.std.proofs.Common.{◌≡◌, ℕ, Bool, true, false, cond, List, length, Option, Some, None, Ok, Err, refl, subst}
use Rattle.std.specs.Prelude.{◌||◌, nat_lt, is_some}
use Rattle.std.proofs.lemmas.Option.{same_Some}
use Rattle.iface_roles.specs.declared.kinds.Side.TheVariants.{Start, End}
use Rattle.iface_roles.specs.declared.records.HostPort.{HostPort}
use Rattle.iface_roles.specs.declared.records.AgentPort.{AgentPort}
use Rattle.iface_roles.specs.declared.records.StreamPort.{StreamPort}
use Rattle.system_tables.specs.Tables.{SystemTable}
use Rattle.scenario_tables.specs.declared.statements.HostStatement.TheVariants.{Idle as IdleFor}
use Rattle.scenario_tables.specs.declared.statements.AgentStatement.TheVariants.{Stall as StallBy, Latency as LatencyOf}
use Rattle.scenario_tables.specs.declared.statements.SourceStatement.TheVariants.{Beat as BeatOf, Gap as GapOf}
use Rattle.scenario_tables.specs.Statements.{IsSourceScript}
use Rattle.waves.specs.declared.keywords.Keyword.{Keyword}
use Rattle.waves.specs.declared.keywords.Keyword.TheVariants.{Cycles, Write, Read, Idle, Fill, Code, Stall, Latency, Beat, Gap}
use Rattle.waves.specs.Keywords.{keyword_in, fits_words}
use Rattle.waves.specs.Words.{is_silent, is_clean, words_of, first_word, word_at}
use Rattle.waves.specs.Spelling.{is_count, count_in}
use Rattle.scenarios.specs.declared.faults.ScenarioRule.{ScenarioRule}
use Rattle.scenarios.specs.declared.faults.ScenarioRule.TheVariants.{Spelling, Ranges, Beginning}
use Rattle.scenarios.specs.declared.interfaces.Named.{Named}
use Rattle.scenarios.specs.declared.so_far.SoFar.{SoFar}
use Rattle.scenarios.specs.Interfaces.{host_at, host_named, agent_at, agent_named, stream_at, stream_named}
use Rattle.scenarios.specs.SoFar.{Reading, judged, is_early, script_at}
use Rattle.scenarios.specs.Hosts.{is_full, is_rest, write_of, read_of, write_in, read_in, idle_in}
use Rattle.scenarios.specs.Agents.{fill_of, code_of, pattern_of, has_stall, has_latency, fill_in, code_in, agent_stall_in, sink_stall_in, latency_in}
use Rattle.scenarios.specs.Streams.{beat_of, beat_in, gap_in}
use Rattle.scenarios.specs.Lines.{cycles_rule, cycles_in, at_one, where_there, stall_by, statement_in, by_keyword, words_in, line_in}
use Rattle.scenarios.proofs.RuleLemmas.{second, written, asked, waited, filled, coded, stalled, late, sent}
use Rattle.scenarios.proofs.FitLemmas.{rest_fits, write_fits, read_fits, fill_fits, code_fits, stall_fits, latency_fits, beat_fits}
use Rattle.scenarios.proofs.ScriptLemmas.{one_more, beat_more, gap_more}
use Rattle.scenarios.proofs.KeepLemmas.{AreFitting, host_is, agent_is, stream_is, host_more, agent_more, source_more, sink_more, host_script, plain_script, stall_script, latency_script, sink_script}

-- what holds of what is read, where no rule is broken
abbrev IfRead : (SoFar → Type 0) → Reading → Type 0
IfRead Holds (Ok next) = Holds next
IfRead Holds (Err rule) = Unit {0}

if_judged : (Holds : SoFar → Type 0) (rule : Option ScenarioRule) (next : SoFar) → (rule ≡ None → Holds next) → IfRead Holds (judged rule next)
if_judged Holds None next h = h refl
if_judged Holds (Some rule) next h = tt

if_either : (Holds : SoFar → Type 0) (b : Bool) (one other : Reading) → IfRead Holds one → IfRead Holds other → IfRead Holds (cond b one other)
if_either Holds true one other h g = h
if_either Holds false one other h g = g

if_there : (Holds : SoFar → Type 0) (there : Bool) (reading : Reading) → (there ≡ true → IfRead Holds reading) → IfRead Holds (where_there there reading)
if_there Holds true reading h = h refl
if_there Holds false reading h = tt

if_one : {X : Type 0} (Holds : SoFar → Type 0) (o : Option X) (reading : X → Reading) → ((one : X) → o ≡ Some one → IfRead Holds (reading one)) → IfRead Holds (at_one o reading)
if_one Holds None reading h = tt
if_one Holds (Some one) reading h = h one refl

-- ---- the statements of hosts

write_line : (system : SystemTable) (so_far : SoFar) (host : Named HostPort) (words : List (List ℕ)) → AreFitting system so_far → host_at system host.number ≡ Some host → IfRead (AreFitting system) (write_in so_far host words)
unfolding write_in
write_line system so_far host words h at =
    let script = script_at host.number so_far.hosts in
    if_judged (AreFitting system) _ _ (λ none.
    let kept = written host.port (is_early so_far) (length script) words none in
    host_more system so_far host (write_of words) h at (host_script host.port script (write_of words) (write_fits host.port words kept.0) kept.1.room))

read_line : (system : SystemTable) (so_far : SoFar) (host : Named HostPort) (words : List (List ℕ)) → AreFitting system so_far → host_at system host.number ≡ Some host → IfRead (AreFitting system) (read_in so_far host words)
unfolding read_in
read_line system so_far host words h at =
    let script = script_at host.number so_far.hosts in
    if_judged (AreFitting system) _ _ (λ none.
    let kept = asked host.port (is_early so_far) (length script) words none in
    host_more system so_far host (read_of words) h at (host_script host.port script (read_of words) (read_fits host.port words kept.0) kept.1.room))

idle_line : (system : SystemTable) (so_far : SoFar) (host : Named HostPort) (words : List (List ℕ)) → AreFitting system so_far → host_at system host.number ≡ Some host → IfRead (AreFitting system) (idle_in so_far host words)
unfolding idle_in
idle_line system so_far host words h at =
    let script = script_at host.number so_far.hosts in
    let idle = IdleFor (count_in (word_at 2 words)) in
    if_judged (AreFitting system) _ _ (λ none.
    let kept = waited (is_early so_far) (length script) words none in
    host_more system so_far host idle h at (host_script host.port script idle (rest_fits (count_in (word_at 2 words)) kept.0.rest) kept.1.room))

-- ---- those of agents and sinks

fill_line : (system : SystemTable) (so_far : SoFar) (agent : Named AgentPort) (words : List (List ℕ)) → AreFitting system so_far → agent_at system agent.number ≡ Some agent → IfRead (AreFitting system) (fill_in so_far agent words)
unfolding fill_in
fill_line system so_far agent words h at =
    let script = script_at agent.number so_far.agents in
    if_judged (AreFitting system) _ _ (λ none.
    let kept = filled agent.port (is_early so_far) (length script) words none in
    agent_more system so_far agent (fill_of words) h at (plain_script agent.port script (fill_of words) refl refl (fill_fits agent.port words kept.0) kept.1.room))

code_line : (system : SystemTable) (so_far : SoFar) (agent : Named AgentPort) (words : List (List ℕ)) → AreFitting system so_far → agent_at system agent.number ≡ Some agent → agent.port.response ≡ true
    → IfRead (AreFitting system) (code_in so_far agent words)
unfolding code_in
code_line system so_far agent words h at has =
    let script = script_at agent.number so_far.agents in
    if_judged (AreFitting system) _ _ (λ none.
    let kept = coded agent.port (is_early so_far) (length script) words none in
    agent_more system so_far agent (code_of words) h at (plain_script agent.port script (code_of words) refl refl (code_fits agent.port words has kept.0) kept.1.room))

agent_stall_line : (system : SystemTable) (so_far : SoFar) (agent : Named AgentPort) (words : List (List ℕ)) → AreFitting system so_far → agent_at system agent.number ≡ Some agent → agent.port.waitrequest ≡ true
    → IfRead (AreFitting system) (agent_stall_in so_far agent words)
unfolding agent_stall_in
agent_stall_line system so_far agent words h at has =
    let script = script_at agent.number so_far.agents in
    if_judged (AreFitting system) _ _ (λ none.
    let kept = stalled (is_early so_far) (is_full (length script) || has_stall script) words none in
    agent_more system so_far agent (StallBy (pattern_of words)) h at (stall_script agent.port script (pattern_of words) (stall_fits agent.port.waitrequest words has kept.0) kept.1.room))

sink_stall_line : (system : SystemTable) (so_far : SoFar) (sink : Named StreamPort) (words : List (List ℕ)) → AreFitting system so_far → stream_at system End sink.number ≡ Some sink → sink.port.ready ≡ true
    → IfRead (AreFitting system) (sink_stall_in so_far sink words)
unfolding sink_stall_in
sink_stall_line system so_far sink words h at has =
    let script = script_at sink.number so_far.sinks in
    if_judged (AreFitting system) _ _ (λ none.
    let kept = stalled (is_early so_far) (nat_lt 0 (length script)) words none in
    sink_more system so_far sink (pattern_of words) h at (sink_script sink.port script (pattern_of words) (stall_fits sink.port.ready words has kept.0) kept.1.room))

latency_line : (system : SystemTable) (so_far : SoFar) (agent : Named AgentPort) (words : List (List ℕ)) → AreFitting system so_far → agent_at system agent.number ≡ Some agent → agent.port.readdatavalid ≡ true
    → IfRead (AreFitting system) (latency_in so_far agent words)
unfolding latency_in
latency_line system so_far agent words h at has =
    let script = script_at agent.number so_far.agents in
    let cycles = count_in (word_at 2 words) in
    if_judged (AreFitting system) _ _ (λ none.
    let kept = late (is_early so_far) (is_full (length script) || has_latency script) words none in
    agent_more system so_far agent (LatencyOf cycles) h at (latency_script agent.port script cycles (latency_fits agent.port words has kept.0) kept.1.room))

-- ---- those of sources

beat_line : (system : SystemTable) (so_far : SoFar) (source : Named StreamPort) (words : List (List ℕ)) → AreFitting system so_far → stream_at system Start source.number ≡ Some source → IfRead (AreFitting system) (beat_in so_far source words)
unfolding beat_in
beat_line system so_far source words h at =
    let script = script_at source.number so_far.sources in
    let beat = BeatOf (beat_of words) in
    if_judged (AreFitting system) _ _ (λ none.
    let kept = sent source.port (is_early so_far) script words none in
    source_more system so_far source beat h at (λ (old : IsSourceScript source.port script). record {
      short = one_more script beat kept.2.room;
      follow = beat_more source.port None script (beat_of words) old.follow (beat_fits source.port _ words kept.0 kept.1);
    }))

gap_line : (system : SystemTable) (so_far : SoFar) (source : Named StreamPort) (words : List (List ℕ)) → AreFitting system so_far → stream_at system Start source.number ≡ Some source → IfRead (AreFitting system) (gap_in so_far source words)
unfolding gap_in
gap_line system so_far source words h at =
    let script = script_at source.number so_far.sources in
    let cycles = count_in (word_at 2 words) in
    if_judged (AreFitting system) _ _ (λ none.
    let kept = waited (is_early so_far) (length script) words none in
    source_more system so_far source (GapOf cycles) h at (λ (old : IsSourceScript source.port script). record {
      short = one_more script (GapOf cycles) kept.1.room;
      follow = gap_more source.port None script cycles old.follow (rest_fits cycles kept.0.rest);
    }))

-- ---- all statements

counted : (so_far : SoFar) (words : List (List ℕ)) → cycles_rule so_far words ≡ None → is_rest (count_in (word_at 1 words)) ≡ true
counted so_far words none = (second (is_count (word_at 1 words)) (is_rest (count_in (word_at 1 words))) (is_some so_far.cycles) Spelling Ranges Beginning none)

cycles_line : (system : SystemTable) (so_far : SoFar) (words : List (List ℕ)) → AreFitting system so_far → IfRead (AreFitting system) (cycles_in so_far words)
unfolding cycles_in
cycles_line system so_far words h =
    if_judged (AreFitting system) _ _ (λ none. record {
      scripts = record { hosts = h.scripts.hosts; agents = h.scripts.agents; sources = h.scripts.sources; sinks = h.scripts.sinks };
      cycles = λ n e. rest_fits n (subst (λ k. is_rest k ≡ true) (same_Some _ _ e) (counted so_far words none));
      hosts = h.hosts;
      agents = h.agents;
      sources = h.sources;
      sinks = h.sinks;
    })

stall_line : (system : SystemTable) (so_far : SoFar) (words : List (List ℕ)) (agent : Option (Named AgentPort)) (sink : Option (Named StreamPort)) → AreFitting system so_far
    → ((one : Named AgentPort) → agent ≡ Some one → agent_at system one.number ≡ Some one) → ((one : Named StreamPort) → sink ≡ Some one → stream_at system End one.number ≡ Some one)
    → IfRead (AreFitting system) (stall_by so_far words agent sink)
stall_line system so_far words (Some agent) sink h at_agent at_sink = if_there (AreFitting system) agent.port.waitrequest _ (λ has. agent_stall_line system so_far agent words h (at_agent agent refl) has)
stall_line system so_far words None sink h at_agent at_sink =
    if_one (AreFitting system) sink _ (λ one is. if_there (AreFitting system) one.port.ready _ (λ has. sink_stall_line system so_far one words h (at_sink one is) has))

statement_line : (system : SystemTable) (so_far : SoFar) (words : List (List ℕ)) (keyword : Keyword) → AreFitting system so_far → IfRead (AreFitting system) (statement_in system so_far words keyword)
statement_line system so_far words Cycles h = cycles_line system so_far words h
statement_line system so_far words Write h = if_one (AreFitting system) (host_named system (word_at 1 words)) _ (λ host is. write_line system so_far host words h (host_is system (word_at 1 words) host is))
statement_line system so_far words Read h = if_one (AreFitting system) (host_named system (word_at 1 words)) _ (λ host is. read_line system so_far host words h (host_is system (word_at 1 words) host is))
statement_line system so_far words Idle h = if_one (AreFitting system) (host_named system (word_at 1 words)) _ (λ host is. idle_line system so_far host words h (host_is system (word_at 1 words) host is))
statement_line system so_far words Fill h = if_one (AreFitting system) (agent_named system (word_at 1 words)) _ (λ agent is. fill_line system so_far agent words h (agent_is system (word_at 1 words) agent is))
statement_line system so_far words Code h =
    if_one (AreFitting system) (agent_named system (word_at 1 words)) _
    (λ agent is. if_there (AreFitting system) agent.port.response _ (λ has. code_line system so_far agent words h (agent_is system (word_at 1 words) agent is) has))
statement_line system so_far words Stall h =
    stall_line system so_far words (agent_named system (word_at 1 words)) (stream_named system End (word_at 1 words)) h (λ one is. agent_is system (word_at 1 words) one is) (λ one is. stream_is system End (word_at 1 words) one is)
statement_line system so_far words Latency h =
    if_one (AreFitting system) (agent_named system (word_at 1 words)) _
    (λ agent is. if_there (AreFitting system) agent.port.readdatavalid _ (λ has. latency_line system so_far agent words h (agent_is system (word_at 1 words) agent is) has))
statement_line system so_far words Beat h = if_one (AreFitting system) (stream_named system Start (word_at 1 words)) _ (λ source is. beat_line system so_far source words h (stream_is system Start (word_at 1 words) source is))
statement_line system so_far words Gap h = if_one (AreFitting system) (stream_named system Start (word_at 1 words)) _ (λ source is. gap_line system so_far source words h (stream_is system Start (word_at 1 words) source is))

keyword_line : (system : SystemTable) (so_far : SoFar) (words : List (List ℕ)) (keyword : Option Keyword) → AreFitting system so_far → IfRead (AreFitting system) (by_keyword system so_far words keyword)
keyword_line system so_far words None h = tt
keyword_line system so_far words (Some keyword) h = if_either (AreFitting system) (fits_words keyword (length words)) _ _ (statement_line system so_far words keyword h) tt

any_line : (system : SystemTable) (so_far : SoFar) (line : List ℕ) → AreFitting system so_far → IfRead (AreFitting system) (line_in system so_far line)
unfolding line_in words_in
any_line system so_far line h =
    if_either (AreFitting system) (is_silent line) _ _ h (if_either (AreFitting system) (is_clean line) _ _ (keyword_line system so_far (words_of line) (keyword_in (first_word (words_of line))) h) tt)

-- a line that is read leaves what fits
pub line_fits : (system : SystemTable) (so_far next : SoFar) (line : List ℕ) → AreFitting system so_far → line_in system so_far line ≡ Ok next → AreFitting system next
line_fits system so_far next line h e = subst (IfRead (AreFitting system)) e (any_line system so_far line h)
