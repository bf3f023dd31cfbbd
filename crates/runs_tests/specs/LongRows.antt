-- A system with rows of several links, as `linked_systems_run` of `memory_awake` runs it: host 0 shows bursts of two words of
-- four bytes, host 1 single words of two; agent 0 has words of eight bytes, agent 1 of two without byte enables, and both take
-- bursts of up to four words.
-- A cutter and a lane selector lead from host 0 to agent 0; a cutter, a splitter and what drops beats to agent 1; from host 1 a
-- lane selector to agent 0, and what drops beats to agent 1.
use Rattle.std.specs.Prelude.{true, false, [], ◌∷◌, nat_lt, if◌then◌else◌}
use Rattle.memory_runs.specs.Views.{Signals, Run}
use Rattle.memory_runs.specs.Views.Responses.{AreZero}
use Rattle.memory_links.specs.Cutters.{reach_longest}
use Rattle.memory_parts.specs.SystemRun.{Outside}
use Rattle.memory_awake.specs.RowRun.{Cutter.Uncut, Cutter.Cuts, Fitter.Unfitted, Fitter.Selects, Fitter.Splits}
use Rattle.memory_awake.specs.RowSystem.{RowPorts}
use Rattle.memory_awake.specs.LinkSystem.{LinkPlan, linked_registers, linked_run, linked_ports, linked_states}
use Rattle.memory_awake.specs.Theorem.{States}
use Rattle.runs_tests.specs.Examples.{signal, always, quiet}
use Rattle.runs_tests.specs.TwoByTwo.{first_or, of_two, small_agent, two_by_two}

abbrev pub long_plan : LinkPlan
long_plan = record {
  system = two_by_two
      (λ h. record {
        shape =
            record { word_bytes = first_or 4 2 h; unit_bytes = 1; burst_bits = first_or 2 1 h; has_enables = true };
        has_burst =
            first_or true false h;
        has_readdatavalid = true;
        has_response = false;
      })
      (λ a. small_agent (first_or 8 2 a) (first_or true false a)) 0;
  cutter = λ h a. of_two (Cuts (reach_longest 1) 1 1) Uncut Uncut h;
  fitter = λ h a. of_two (first_or Selects Splits a) (first_or Selects Unfitted a) Unfitted h;
  drops = λ h a. of_two (first_or false true a) (first_or false true a) false h;
  room = 2;
}

-- host 0 writes a burst to agent 1, whose second word has two lanes, reads it, writes to agent 0 and reads no agent
abbrev pub first_host : Signals
first_host = record {
  read = signal (0 ∷ 0 ∷ 0 ∷ 0 ∷ 0 ∷ 1 ∷ 1 ∷ 1 ∷ 0 ∷ 1 ∷ 1 ∷ 1 ∷ 1 ∷ 1 ∷ []);
  write = signal (1 ∷ 1 ∷ 1 ∷ 1 ∷ 1 ∷ 0 ∷ 0 ∷ 0 ∷ 1 ∷ []);
  address = signal (16 ∷ 16 ∷ 16 ∷ 16 ∷ 16 ∷ 16 ∷ 16 ∷ 16 ∷ 8 ∷ 96 ∷ 96 ∷ 96 ∷ 96 ∷ 96 ∷ []);
  word = signal (0x44332211 ∷ 0x44332211 ∷ 0x6655 ∷ 0x6655 ∷ 0x6655 ∷ 0 ∷ 0 ∷ 0 ∷ 0xccbbaa99 ∷ []);
  enables = signal (15 ∷ 15 ∷ 3 ∷ 3 ∷ 3 ∷ 15 ∷ 15 ∷ 15 ∷ 15 ∷ 15 ∷ 15 ∷ 15 ∷ 15 ∷ 15 ∷ []);
  count = λ c. if nat_lt c 8 then 2 else 1;
}

-- host 1 writes to agent 0 and reads it, writes a lane to agent 1, and reads it without a lane
abbrev pub second_host : Signals
second_host = record {
  read = signal (0 ∷ 1 ∷ 1 ∷ 0 ∷ 0 ∷ 0 ∷ 1 ∷ []);
  write = signal (1 ∷ 0 ∷ 0 ∷ 1 ∷ 1 ∷ 1 ∷ []);
  address = signal (2 ∷ 2 ∷ 2 ∷ 24 ∷ 24 ∷ 24 ∷ 24 ∷ []);
  word = signal (0xeedd ∷ 0 ∷ 0 ∷ 0x7700 ∷ 0x7700 ∷ 0x7700 ∷ []);
  enables = signal (3 ∷ 3 ∷ 3 ∷ 2 ∷ 2 ∷ 2 ∷ []);
  count = always 1;
}

-- each agent waits once, and gives its words two cycles after it takes their reads
abbrev pub long_outside : Outside
long_outside = record {
  host = λ h. of_two first_host second_host quiet h;
  waitrequest = λ a. signal (first_or (0 ∷ 1 ∷ []) (0 ∷ 0 ∷ 0 ∷ 1 ∷ []) a);
  readdata =
      λ a. signal
      (first_or (0 ∷ 0 ∷ 0 ∷ 0 ∷ 0xeedd0000 ∷ []) (0 ∷ 0 ∷ 0 ∷ 0 ∷ 0 ∷ 0 ∷ 0 ∷ 0 ∷ 0x2211 ∷ 0x4433 ∷ 0 ∷ 0x6655 ∷ []) a);
  readdatavalid = λ a. signal (first_or (0 ∷ 0 ∷ 0 ∷ 0 ∷ 1 ∷ []) (0 ∷ 0 ∷ 0 ∷ 0 ∷ 0 ∷ 0 ∷ 0 ∷ 0 ∷ 1 ∷ 1 ∷ 0 ∷ 1 ∷ 1 ∷ []) a);
  response = λ a. always 0;
}

abbrev pub long_run : Run
long_run = linked_run AreZero long_plan long_outside (linked_registers AreZero long_plan long_outside)

abbrev pub long_ports : RowPorts
long_ports = linked_ports AreZero long_plan long_outside (linked_registers AreZero long_plan long_outside)

abbrev pub long_states : States
long_states = linked_states AreZero long_plan long_outside (linked_registers AreZero long_plan long_outside)
