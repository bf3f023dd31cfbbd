-- A right small system: two hosts, two agents and the default agent, all wired. Host 0 writes to agent 0, reads agent 1 and
-- writes to no footprint; host 1 writes to agent 0 and waits for its turn.
use Rattle.std.specs.Prelude.{ℕ, ◌*◌, true, [], ◌∷◌, Some, None, nat_eq, nat_lt, if◌then◌else◌}
use Rattle.memory_runs.specs.Views.{System, Run, Signals}
use Rattle.memory_machines.specs.Paths.{AnswerView}
use Rattle.memory_machines.specs.Link.{Port}
use Rattle.runs_tests.specs.Examples.{signal, always, shape_of, host_of, agent_of}
use Rattle.memory_awake.specs.Slack.{Slacks}
use Rattle.memory_awake.specs.Approach.{Approach}
use Rattle.memory_awake.specs.Ways.{Ways, Standing, Standings}

abbrev pub small_system : System
small_system = record {
  hosts = 2;
  agents = 2;
  host = λ h. host_of 1 true;
  agent = λ a. agent_of 1 true 16;
  place = λ h kind address. if nat_lt address 16 then Some 0 else if nat_lt address 32 then Some 1 else None;
  base = λ h a. a * 16;
  joined = λ a. 0 ∷ 1 ∷ [];
  shares = λ h a. 1;
  stages = 0;
}

abbrev pub nothing : Signals
nothing = record { read = always 0; write = always 0; address = always 0; word = always 5; enables = always 1; count = always 1 }

abbrev pub first : Signals
first = record nothing { read = signal (0 ∷ 1 ∷ []); write = signal (1 ∷ 0 ∷ 1 ∷ []); address = signal (0 ∷ 16 ∷ 99 ∷ []) }

abbrev pub second : Signals
second = record nothing { write = signal (1 ∷ 1 ∷ []); address = always 3 }

abbrev pub word_in_two : AnswerView
word_in_two = record { valid = signal (0 ∷ 0 ∷ 1 ∷ []); word = always 7; code = always 0 }

abbrev pub no_word : AnswerView
no_word = record { valid = always 0; word = always 0; code = always 0 }

abbrev pub port_with : Signals → (ℕ → ℕ) → (ℕ → ℕ) → AnswerView → Port
port_with signals tag wait answers =
    record {
      shape =
          shape_of 1 1 true;
      commands =
          record { signals = signals; more = always 0; tag = tag; waitrequest = wait };
      answers = answers;
    }

abbrev pub middle : ℕ → Port
middle h =
    if nat_eq h 0 then port_with first (always 0) (always 0) word_in_two else if nat_eq h 1
    then port_with second (always 1) (signal (1 ∷ [])) no_word else port_with nothing (always h) (always 0) no_word

abbrev pub down : ℕ → ℕ → Port
down h a =
    if nat_eq h 0
    then (if nat_eq a 0 then port_with (record first { read = always 0; write = signal (1 ∷ []) }) (always 0) (always 0) no_word
    else if nat_eq a 1 then port_with (record first { write = always 0 }) (always 0) (always 0) word_in_two
    else port_with nothing (always 0) (always 0) no_word)
    else if nat_eq h 1
    then (if nat_eq a 0 then port_with second (always 1) (signal (1 ∷ [])) no_word
    else port_with nothing (always 1) (always 0) no_word)
    else port_with nothing (always h) (always 0) no_word

abbrev pub below : ℕ → Port
below a =
    if nat_eq a 0
    then port_with (record nothing { write = signal (1 ∷ 1 ∷ []); address = signal (0 ∷ 3 ∷ []) }) (signal (0 ∷ 1 ∷ []))
    (always 0) no_word
    else port_with (record nothing { read = signal (0 ∷ 1 ∷ []); address = signal (0 ∷ 16 ∷ []) }) (always 0)
    (always 0) word_in_two

abbrev pub small_run : Run
small_run = record {
  at_host =
      λ h. record {
        signals =
            (middle h).commands.signals;
        waitrequest =
            (middle h).commands.waitrequest;
        readdata =
            (middle h).answers.word;
        readdatavalid = (middle h).answers.valid;
        response = always 0;
      };
  at_agent =
      λ a. record {
        signals =
            (below a).commands.signals;
        waitrequest =
            always 0;
        readdata =
            (below a).answers.word;
        readdatavalid = (below a).answers.valid;
        response = always 0;
        grant = (below a).commands.tag;
      };
}

abbrev pub small_ways : ℕ → Ways
small_ways a = record { stages = 0; lower = λ i. below a; answer_tag = λ i c. 0; above = λ h. 1; upper = λ h i. down h a }

abbrev pub still : Standing
still = record { rank = λ c. 0; largest = 0 }

abbrev pub small_standings : Standings
small_standings = record { agent = still; lower = λ i. still; upper = λ h i. still }

abbrev pub no_slack : Slacks
no_slack = record { lower = λ i. record { hold = 0; kept = 0 }; upper = λ h i. record { hold = 0; kept = 0 } }

abbrev pub small_approach : ℕ → Approach
small_approach a = record { ways = small_ways a; standings = small_standings; slacks = no_slack }

-- a stage that holds a read without lanes: accepted above in cycle 0, shown below from cycle 1 on, where `wait` is high until
-- cycle 3
abbrev pub empty_read : Signals
empty_read = record nothing { read = signal (1 ∷ []); enables = always 0 }

abbrev pub empty_later : Signals
empty_later = record nothing { read = signal (0 ∷ 1 ∷ 1 ∷ 1 ∷ []); enables = always 0 }

abbrev pub stage_top : Port
stage_top =
    port_with empty_read (always 0) (always 0)
    (record { valid = signal (0 ∷ 0 ∷ 0 ∷ 0 ∷ 0 ∷ 1 ∷ []); word = always 0; code = always 0 })

abbrev pub stage_low : Port
stage_low =
    port_with empty_later (always 0) (signal (0 ∷ 1 ∷ 1 ∷ 0 ∷ []))
    (record { valid = signal (0 ∷ 0 ∷ 0 ∷ 0 ∷ 1 ∷ []); word = always 0; code = always 0 })
