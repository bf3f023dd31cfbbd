-- Two agents of 16-bit words with the same bytes and codes, and small runs at them; and codes of the words of two others.
use Rattle.std.specs.Prelude.{ℕ, Bool, true, false, ◌||◌, ◌==◌, nat_lt, List, [], ◌∷◌}
use Rattle.iface_roles.specs.declared.records.AgentPort.{AgentPort}
use Rattle.histories.specs.History.{one_if}
use Rattle.memory_runs.specs.Views.{AgentView}
use Rattle.memory_runs.specs.Sides.{agent_side}
use Rattle.scenario_tables.specs.declared.statements.AgentStatement.{AgentStatement}
use Rattle.scenario_tables.specs.declared.statements.AgentStatement.TheVariants.{Stall, Latency, Fill, Code}
use Rattle.scenario_tables.specs.Worked.{small_agent}
use Rattle.stand_ins.specs.Contents.{contents_before}
use Rattle.stand_ins.specs.Codes.{code_at}
use Rattle.stand_ins.specs.StandIns.{stall_pattern, stalls_in, gives_in, word_in, code_in}

-- it has `readdatavalid` and `waitrequest`
abbrev pub late_agent : AgentPort
late_agent = record {
  address_bits = 4;
  byte_units = true;
  word_bytes = 2;
  reads = true;
  writes = true;
  enables = true;
  burst_bits = 0;
  readdatavalid = true;
  waitrequest = true;
  response = true;
  unsupported = false;
  write_response = false;
  allowance = 0;
  wraps = false;
  boundaries = false;
  read_latency = 0;
  read_wait = 0;
  write_wait = 0;
  pending = 2;
  setup_hold = false;
}

-- it has neither, and takes a read in the second cycle in which it stands
abbrev pub fixed_agent : AgentPort
fixed_agent = record late_agent { readdatavalid = false; waitrequest = false; read_latency = 1; read_wait = 1 }

-- 1234 stands at 2, and the word there has code 2; a word comes two cycles behind its read; every other cycle stalls, the first
-- one too
abbrev pub late_script : List AgentStatement
late_script = Fill 2 (52 ∷ 18 ∷ []) ∷ Code 3 2 ∷ Latency 2 ∷ Stall (record { stalls = true ∷ false ∷ [] }) ∷ []

abbrev pub fixed_script : List AgentStatement
fixed_script = Fill 2 (52 ∷ 18 ∷ []) ∷ Code 3 2 ∷ []

-- the word at 2 is read in the first two cycles, its low lane is written as cd in the next two, and it is read again in the next
-- two
abbrev pub view_of : List AgentStatement → AgentView
view_of script = record {
  signals = record {
    read = λ c. one_if (nat_lt c 2 || (c == 4 || c == 5));
    write = λ c. one_if (c == 2 || c == 3);
    address = λ c. 2;
    word = λ c. 43981;
    enables = λ c. 1;
    count = λ c. 1;
  };
  waitrequest = λ c. one_if (stalls_in (stall_pattern script) c);
  readdata = λ c. 0;
  readdatavalid = λ c. 0;
  response = λ c. 0;
  grant = λ c. 0;
}

abbrev pub late_gives : ℕ → Bool
late_gives cycle = gives_in late_agent late_script (view_of late_script) cycle

abbrev pub late_word : ℕ → ℕ
late_word cycle = word_in late_agent late_script (view_of late_script) cycle

abbrev pub late_code : ℕ → ℕ
late_code cycle = code_in late_agent late_script (view_of late_script) cycle

abbrev pub late_byte : ℕ → ℕ → ℕ
late_byte cycle place = contents_before (agent_side late_agent) late_script (view_of late_script) cycle place

abbrev pub fixed_word : ℕ → ℕ
fixed_word cycle = word_in fixed_agent fixed_script (view_of fixed_script) cycle

abbrev pub fixed_code : ℕ → ℕ
fixed_code cycle = code_in fixed_agent fixed_script (view_of fixed_script) cycle

-- ---- codes alone

-- the code of a word of the agent of four bytes
abbrev pub byte_code : List AgentStatement → ℕ → ℕ
byte_code script address = code_at (agent_side small_agent) script address

-- and of one with 16 bytes in words of 32 bits
abbrev pub wide_code : List AgentStatement → ℕ → ℕ
wide_code script address = code_at (agent_side (record small_agent { address_bits = 4; word_bytes = 4 })) script address
