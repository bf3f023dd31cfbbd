-- Small boundaries and plans that the lines of the parts refuse, and one plan that is right.
use Rattle.std.specs.Prelude.{ℕ, true, false, [], ◌∷◌, Option, Some, None, nat_eq, nat_lt, if◌then◌else◌}
use Rattle.memory_runs.specs.Views.{AgentSide, Run, Signals, System, Kind}
use Rattle.memory_runs.specs.Views.Kind.{Reads, Writes}
use Rattle.memory_machines.specs.Link.{Port}
use Rattle.memory_machines.specs.Lines.{TaggedPort}
use Rattle.runs_tests.specs.Examples.{signal, always, quiet, shape_of, host_of, agent_of, system_of, no_host, run_of}
use Rattle.runs_tests.specs.Joint.{no_answers}

-- a side of one byte, with this `more` and this tag in each cycle
abbrev pub marked_side : Signals → ℕ → ℕ → Port
marked_side signals more tag =
    record {
      shape =
          shape_of 1 1 true;
      commands =
          record { signals = signals; more = always more; tag = always tag; waitrequest = always 0 };
      answers = no_answers;
    }

-- a write of one beat without a lane
abbrev pub empty_write : Signals
empty_write =
    record { read = always 0; write = signal (1 ∷ []); address = always 0; word = always 0; enables = always 0; count = always 1 }

-- host 0 asks under a tag that isn't its own; its beat has no operation
abbrev pub mistagged : ℕ → Port
mistagged h = if nat_eq h 0 then marked_side empty_write 0 7 else marked_side quiet 0 1

abbrev pub some_reads : Signals
some_reads =
    record
    { read = signal (1 ∷ 1 ∷ []); write = always 0; address = always 0; word = always 0; enables = always 1; count = always 1 }

-- an agent that only writes, with bursts
abbrev pub writing_agent : AgentSide
writing_agent = record (agent_of 4 true 256) { has_read = false; has_readdatavalid = false; pending = 1 }

abbrev pub written_place : Kind → ℕ → Option ℕ
written_place Reads address = None
written_place Writes address = if nat_lt address 256 then Some 0 else None

-- one host joined to it
abbrev pub writing_system : System
writing_system =
    record (system_of (host_of 4 true) writing_agent (0 ∷ [])) { hosts = 1; place = λ h kind address. written_place kind address }

-- words of three bytes
abbrev pub odd_system : System
odd_system = record writing_system { host = λ h. host_of 3 true }

-- an agent with `response` answers a read with code 2, while the codes inside are constants 0
abbrev pub one_answer : Signals
one_answer =
    record { read = signal (1 ∷ []); write = always 0; address = always 0; word = always 0; enables = always 1; count = always 1 }

abbrev pub answering_system : System
answering_system = system_of (host_of 1 true) (record (agent_of 1 true 16) { has_response = true }) (0 ∷ [])

abbrev pub answering_run : Run
answering_run = run_of no_host no_host
    (record {
      signals =
          one_answer;
      waitrequest =
          always 0;
      readdata = always 0x77;
      readdatavalid = signal (0 ∷ 1 ∷ []);
      response = always 2;
      grant = always 0;
    })

abbrev pub answered_side : TaggedPort
answered_side = record {
  port = record {
    shape = shape_of 1 1 true;
    commands = record { signals = one_answer; more = always 0; tag = always 0; waitrequest = always 0 };
    answers = record { valid = signal (0 ∷ 1 ∷ []); word = always 0x77; code = always 0 };
  };
  answer_tag = always 0;
}
