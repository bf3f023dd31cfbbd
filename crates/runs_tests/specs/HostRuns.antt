-- Right and wrong runs of two hosts that share an agent of one byte, which never stalls.
use Rattle.std.specs.Prelude.{ℕ, true, false, [], ◌∷◌, None}
use Rattle.memory_runs.specs.Views.{Signals, Shape, HostSide, AgentSide, HostView, AgentView, System, Run}
use Rattle.runs_tests.specs.Examples.{signal, always, shape_of, host_of, agent_of, system_of, quiet, no_host, run_of}
use Rattle.runs_tests.specs.Hung.{first_then}

abbrev pub single_bytes : Shape
single_bytes = record (shape_of 1 1 true) { burst_bits = 1 }

abbrev pub byte_host : HostSide
byte_host = record (host_of 1 true) { shape = single_bytes; has_burst = false }

abbrev pub byte_agent : AgentSide
byte_agent = record (agent_of 1 true 16) { shape = single_bytes; has_burst = false }

-- two hosts with a share each
abbrev pub shared : System
shared = system_of byte_host byte_agent (0 ∷ 1 ∷ [])

abbrev pub commands : (ℕ → ℕ) → (ℕ → ℕ) → (ℕ → ℕ) → Signals
commands read write enables =
    record { read = read; write = write; address = always 0; word = always 7; enables = enables; count = always 1 }

abbrev pub at_host : Signals → (ℕ → ℕ) → HostView
at_host signals wait =
    record { signals = signals; waitrequest = wait; readdata = always 0; readdatavalid = always 0; response = always 0 }

abbrev pub at_agent : Signals → (ℕ → ℕ) → (ℕ → ℕ) → AgentView
at_agent signals valid grant =
    record
    { signals = signals; waitrequest = always 0; readdata = always 9; readdatavalid = valid; response = always 0; grant = grant }

abbrev pub writes : Signals
writes = commands (always 0) (always 1) (always 1)

-- both hosts write in each cycle, and take turns
abbrev pub turns_run : Run
turns_run =
    run_of (at_host writes (signal (1 ∷ 0 ∷ 1 ∷ 0 ∷ []))) (at_host writes (signal (0 ∷ 1 ∷ 0 ∷ 1 ∷ [])))
    (at_agent writes (always 0) (signal (1 ∷ 0 ∷ 1 ∷ 0 ∷ [])))

-- the agent takes the write of host 0 in cycle 0, but that host's waitrequest stays high; host 1 writes in each later cycle
abbrev pub hanging_run : Run
hanging_run = run_of (at_host writes (always 1)) (at_host writes (first_then 1 0)) (at_agent writes (always 0) (first_then 0 1))

-- host 0 reads in cycle 0, and the agent gives the word in cycle 1; the host is never given it, while it writes in each later
-- cycle
abbrev pub reads_then_writes : Signals
reads_then_writes = commands (first_then 1 0) (first_then 0 1) (always 1)

abbrev pub forgetful_run : Run
forgetful_run =
    run_of (at_host reads_then_writes (always 0)) no_host (at_agent reads_then_writes (signal (0 ∷ 1 ∷ [])) (always 0))

-- host 0 shows a write that is never taken, while a write of host 1 without an enabled lane is taken in each cycle
abbrev pub laneless : Signals
laneless = commands (always 0) (always 1) (always 0)

abbrev pub crowded_run : Run
crowded_run = run_of (at_host writes (always 1)) (at_host laneless (always 0)) (at_agent laneless (always 0) (always 1))

-- one host reads at an address of no agent and is never given the word, while it writes there in each later cycle
abbrev pub nowhere : System
nowhere = record shared { hosts = 1; place = λ h kind address. None }

abbrev pub silent_run : Run
silent_run = run_of (at_host reads_then_writes (always 0)) no_host (at_agent quiet (always 0) (always 0))
