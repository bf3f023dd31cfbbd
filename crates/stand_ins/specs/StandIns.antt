-- What stands in for an agent, by what the cycles before have shown.
use Rattle.std.specs.Prelude.{◌≡◌, ◌<◌, ◌%◌, ℕ, Bool, false, ◌&&◌, List, [], ◌∷◌, length, slice_index_or, if◌then◌else◌, map}
use Rattle.iface_roles.specs.declared.records.AgentPort.{AgentPort}
use Rattle.histories.specs.History.{one_if, before, only_if, is_raised, numbers}
use Rattle.memory_runs.specs.Views.{AgentSide, AgentView, levels_at}
use Rattle.memory_runs.specs.Commands.{read_beat}
use Rattle.memory_runs.specs.Sides.{agent_side}
use Rattle.scenario_tables.specs.declared.statements.AgentStatement.{AgentStatement}
use Rattle.scenario_tables.specs.declared.statements.Pattern.{Pattern}
use Rattle.scenario_tables.specs.Statements.{stalls_of}
use Rattle.stand_ins.specs.declared.delayed.Answer.{Answer}
use Rattle.stand_ins.specs.Contents.{contents_before, word_at}
use Rattle.stand_ins.specs.Codes.{code_at}
use Rattle.stand_ins.specs.Answers.{answer, is_due, word_due, code_due, waiting_before, word_behind, code_behind, takes_read}

-- the stalls that are stated first; none where nothing is said
abbrev pub first_stalls : List Pattern → List Bool
first_stalls [] = []
first_stalls (pattern ∷ later) = pattern.stalls

abbrev pub stall_pattern : List AgentStatement → List Bool
stall_pattern script = first_stalls (stalls_of script)

-- whether a pattern stalls in a cycle. It comes over and over; an empty one never stalls
abbrev pub stalls_in : List Bool → ℕ → Bool
stalls_in pattern cycle = slice_index_or pattern (cycle % length pattern) false

-- whether `readdatavalid` is raised in a cycle
abbrev pub gives_in : AgentPort → List AgentStatement → AgentView → ℕ → Bool
gives_in port script view cycle = port.readdatavalid && is_due cycle (waiting_before (agent_side port) script view cycle)

-- what `readdata` bears in a cycle: 0 where no word is given
abbrev pub word_in : AgentPort → List AgentStatement → AgentView → ℕ → ℕ
word_in port script view cycle =
    if port.readdatavalid then word_due cycle (waiting_before (agent_side port) script view cycle)
    else word_behind (agent_side port) script view cycle

-- what `response` bears in a cycle: the code of the word that is given, 0 where none is
abbrev pub code_in : AgentPort → List AgentStatement → AgentView → ℕ → ℕ
code_in port script view cycle =
    if port.readdatavalid then code_due cycle (waiting_before (agent_side port) script view cycle)
    else code_behind (agent_side port) script view cycle

-- an agent that acts as memory, stalls by its pattern and gives the words that it is asked for, each with the code that is stated
-- for it
pub record IsAgentStandIn (port : AgentPort) (script : List AgentStatement) (view : AgentView) (end : ℕ) : Type 0 where
  pub waitrequest : (c : ℕ) → c < end → view.waitrequest c ≡ one_if (stalls_in (stall_pattern script) c)
  pub readdatavalid : (c : ℕ) → c < end → view.readdatavalid c ≡ one_if (gives_in port script view c)
  pub readdata : (c : ℕ) → c < end → view.readdata c ≡ word_in port script view c
  pub response : (c : ℕ) → c < end → view.response c ≡ code_in port script view c

-- ---- the words of a run with their codes, in order

-- the words that the view of an agent with `readdatavalid` gives before a cycle
abbrev pub words_given : AgentView → ℕ → List Answer
words_given view cycle =
    before (λ c. only_if (is_raised (view.readdatavalid c)) (answer (view.readdata c) (view.response c))) cycle

-- the word at a byte address as a read finds it in a cycle, as the writes that were taken before have left it
abbrev pub word_found : AgentSide → List AgentStatement → AgentView → ℕ → ℕ → Answer
word_found side script view cycle address =
    answer (word_at side (contents_before side script view cycle) address) (code_at side script address)

-- the words that a read finds that is taken in a cycle; none where none is
abbrev pub words_found_in : AgentPort → List AgentStatement → AgentView → ℕ → List Answer
words_found_in port script view cycle =
    if takes_read (agent_side port) view cycle
    then map (λ number. word_found (agent_side port) script view cycle
    (read_beat (agent_side port).shape (levels_at view.signals cycle) number).address)
    (numbers 0 (view.count cycle))
    else []

abbrev pub words_found : AgentPort → List AgentStatement → AgentView → ℕ → List Answer
words_found port script view cycle = before (words_found_in port script view) cycle
