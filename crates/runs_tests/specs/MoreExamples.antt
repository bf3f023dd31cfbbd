-- More small runs: wait states, read latency, pending reads, two agents, packed reads, turns and links.
use Rattle.std.specs.Prelude.{ℕ, ◌+◌, ◌*◌, true, false, List, [], ◌∷◌, Some, None, nat_eq, nat_lt, if◌then◌else◌, map, replicate}
use Rattle.histories.specs.History.{numbers}
use Rattle.memory_runs.specs.Views.{AgentSide, HostView, AgentView, System, Run}
use Rattle.memory_runs.specs.Views.Kind.{Reads}
use Rattle.memory_runs.specs.Operations.{Beat}
use Rattle.memory_runs.specs.Order.{Owner}
use Rattle.memory_machines.specs.Link.{Port, Target}
use Rattle.runs_tests.specs.Examples.{signal, always, shape_of, host_of, agent_of, system_of, writer, written_to, no_host, run_of, wide_system}

-- an agent without waitrequest: writes wait two cycles, reads none, and words come two cycles later
abbrev pub waiting_agent : AgentSide
waiting_agent = record {
  shape = shape_of 4 4 true;
  has_read = true;
  has_write = true;
  has_burst = true;
  has_waitrequest = false;
  has_readdatavalid = false;
  has_response = false;
  read_latency = 2;
  read_wait = 0;
  write_wait = 2;
  pending = 1;
  span = 256;
}

-- two writes, each for three cycles
abbrev pub held_writes : AgentView
held_writes = written_to (1 ∷ 1 ∷ 1 ∷ 1 ∷ 1 ∷ 1 ∷ []) (0 ∷ 0 ∷ 0 ∷ 1 ∷ 1 ∷ 1 ∷ []) (7 ∷ 7 ∷ 7 ∷ 8 ∷ 8 ∷ 8 ∷ []) 15 []

-- a read in cycle 0, and words that change in each cycle
abbrev pub late_read : AgentView
late_read = record {
  signals =
      record
      { read = signal (1 ∷ []); write = always 0; address = always 0; word = always 0; enables = always 15; count = always 1 };
  waitrequest = always 0;
  readdata = signal (10 ∷ 11 ∷ 12 ∷ 13 ∷ []);
  readdatavalid = always 0;
  response = always 0;
  grant = always 0;
}

-- two reads accepted one after the other, with no word
abbrev pub two_reads : AgentView
two_reads = record {
  signals =
      record {
        read =
            signal (1 ∷ 1 ∷ []);
        write = always 0;
        address = always 0;
        word = always 0;
        enables = always 15;
        count = always 1;
      };
  waitrequest = always 0;
  readdata = always 0;
  readdatavalid = always 0;
  response = always 0;
  grant = always 0;
}

abbrev pub agent_with_bound : ℕ → AgentSide
agent_with_bound bound = record {
  shape = shape_of 4 4 true;
  has_read = true;
  has_write = true;
  has_burst = true;
  has_waitrequest = true;
  has_readdatavalid = true;
  has_response = false;
  read_latency = 0;
  read_wait = 0;
  write_wait = 0;
  pending = bound;
  span = 256;
}

-- one host, agent 0 at 0 and agent 1 at 256
abbrev pub two_agents : System
two_agents = record {
  hosts = 1;
  agents = 2;
  host = λ h. host_of 4 true;
  agent = λ a. agent_of 4 true 256;
  place = λ h kind address. if nat_lt address 256 then Some 0 else if nat_lt address 512 then Some 1 else None;
  base = λ h a. 256 * a;
  joined = λ a. 0 ∷ [];
  shares = λ h a. 1;
  stages = 0;
}

abbrev pub reads_both : List ℕ → List ℕ → List ℕ → HostView
reads_both wait valid word = record {
  signals =
      record {
        read =
            signal (1 ∷ 1 ∷ 1 ∷ 0 ∷ []);
        write =
            always 0;
        address = signal (0 ∷ 256 ∷ 256 ∷ []);
        word = always 0;
        enables = always 15;
        count = always 1;
      };
  waitrequest = signal wait;
  readdata = signal word;
  readdatavalid = signal valid;
  response = always 0;
}

abbrev pub read_once : List ℕ → List ℕ → List ℕ → AgentView
read_once read valid word = record {
  signals =
      record { read = signal read; write = always 0; address = always 0; word = always 0; enables = always 15; count = always 1 };
  waitrequest = always 0;
  readdata = signal word;
  readdatavalid = signal valid;
  response = always 0;
  grant = always 0;
}

abbrev pub two_agent_run : HostView → AgentView → AgentView → Run
two_agent_run host slow fast = record { at_host = λ h. host; at_agent = λ a. if nat_eq a 0 then slow else fast }

-- the second read waits until the first is answered
abbrev pub limited_run : Run
limited_run = two_agent_run (reads_both (0 ∷ 1 ∷ 0 ∷ []) (0 ∷ 0 ∷ 1 ∷ 1 ∷ []) (0 ∷ 0 ∷ 0x11 ∷ 0x22 ∷ []))
    (read_once (1 ∷ []) (0 ∷ 0 ∷ 1 ∷ []) (0 ∷ 0 ∷ 0x11 ∷ []))
    (read_once (0 ∷ 0 ∷ 1 ∷ []) (0 ∷ 0 ∷ 0 ∷ 1 ∷ []) (0 ∷ 0 ∷ 0 ∷ 0x22 ∷ []))

-- no limiter: the fast agent's word comes first, and is given as the first
abbrev pub unlimited_run : Run
unlimited_run = two_agent_run (record (reads_both (0 ∷ 0 ∷ []) (0 ∷ 0 ∷ 1 ∷ 1 ∷ []) (0 ∷ 0 ∷ 0x22 ∷ 0x11 ∷ [])) {
  signals =
      record {
        read =
            signal (1 ∷ 1 ∷ []);
        write =
            always 0;
        address = signal (0 ∷ 256 ∷ []);
        word = always 0;
        enables = always 15;
        count = always 1;
      };
})
    (read_once (1 ∷ []) (0 ∷ 0 ∷ 0 ∷ 1 ∷ []) (0 ∷ 0 ∷ 0 ∷ 0x11 ∷ []))
    (read_once (0 ∷ 1 ∷ []) (0 ∷ 0 ∷ 1 ∷ []) (0 ∷ 0 ∷ 0x22 ∷ []))

-- a read in no footprint brings zeros back
abbrev pub default_run : Run
default_run = two_agent_run (record (reads_both [] (0 ∷ 1 ∷ []) []) {
  signals =
      record
      { read = signal (1 ∷ []); write = always 0; address = always 1024; word = always 0; enables = always 15; count = always 1 };
})
    (read_once [] [] []) (read_once [] [] [])

-- an 8-bit host reads eight words of a 64-bit agent
abbrev pub byte_system : ℕ → System
byte_system span = system_of (host_of 1 false) (agent_of 8 true span) (0 ∷ [])

abbrev pub byte_reads : ℕ → List Beat
byte_reads first = map (λ k. record { kind = Reads; address = first + k; word = 0; enables = 1 }) (numbers 0 8)

-- two hosts of one agent, with 3 and 1 shares
abbrev pub shared_system : System
shared_system = record {
  hosts = 2;
  agents = 1;
  host = λ h. host_of 4 true;
  agent = λ a. agent_of 4 true 256;
  place = λ h kind address. Some 0;
  base = λ h a. 0;
  joined = λ a. 0 ∷ 1 ∷ [];
  shares = λ h a. if nat_eq h 0 then 3 else 1;
  stages = 0;
}

abbrev pub owners_by : List ℕ → List Owner
owners_by tags = map (λ t. record { tag = t; command = 1 }) tags

-- both hosts show a write in each cycle, and the agent takes one a cycle by these tags
abbrev pub turn_run : List ℕ → Run
turn_run tags = run_of
    (writer (replicate 20 1) [] (replicate 20 5) 1 1 tags)
    (writer (replicate 20 1) [] (replicate 20 6) 1 1 (map (λ t. if nat_eq t 1 then 0 else 1) tags))
    (written_to (replicate 20 1) [] (map (λ t. if nat_eq t 0 then 5 else 6) tags) 1 tags)

abbrev pub fair_tags : List ℕ
fair_tags = 0 ∷ 0 ∷ 0 ∷ 1 ∷ 0 ∷ 0 ∷ 0 ∷ 1 ∷ 0 ∷ 0 ∷ 0 ∷ 1 ∷ 0 ∷ 0 ∷ 0 ∷ 1 ∷ 0 ∷ 0 ∷ 0 ∷ 1 ∷ []

abbrev pub unfair_tags : List ℕ
unfair_tags = 0 ∷ 1 ∷ 0 ∷ 1 ∷ 0 ∷ 1 ∷ 0 ∷ 1 ∷ 0 ∷ 1 ∷ 0 ∷ 1 ∷ 0 ∷ 1 ∷ 0 ∷ 1 ∷ 0 ∷ 1 ∷ 0 ∷ 1 ∷ []

-- a side of a link that carries writes of one beat
abbrev pub write_port : ℕ → List ℕ → List ℕ → List ℕ → ℕ → List ℕ → List ℕ → Port
write_port word_bytes write address word enables more wait = record {
  shape = shape_of word_bytes 1 true;
  commands = record {
    signals =
        record {
          read =
              always 0;
          write =
              signal write;
          address = signal address;
          word = signal word;
          enables = always enables;
          count = always 1;
        };
    more = signal more;
    tag = always 0;
    waitrequest = signal wait;
  };
  answers = record { valid = always 0; word = always 0; code = always 0 };
}

abbrev pub byte_target : Target
byte_target = record { shape = shape_of 1 1 false; span = 16 }

-- the write of aabbccdd with lanes 6, in two pieces
abbrev pub wide_side : Port
wide_side = write_port 4 (1 ∷ 1 ∷ []) (4 ∷ 4 ∷ []) (0xaabbccdd ∷ 0xaabbccdd ∷ []) 6 [] (1 ∷ 0 ∷ [])

abbrev pub byte_side : Port
byte_side = write_port 1 (1 ∷ 1 ∷ []) (5 ∷ 6 ∷ []) (0xcc ∷ 0xbb ∷ []) 1 (1 ∷ 0 ∷ []) []

-- the same with `more` low on the first piece
abbrev pub loose_side : Port
loose_side = write_port 1 (1 ∷ 1 ∷ []) (5 ∷ 6 ∷ []) (0xcc ∷ 0xbb ∷ []) 1 [] []

-- an 8-bit host reads a burst of eight bytes, which the agent answers with one word, or is asked byte by byte
abbrev pub reads_eight : HostView
reads_eight = record {
  signals =
      record {
        read =
            signal (1 ∷ []);
        write = always 0;
        address = signal (0 ∷ []);
        word = always 0;
        enables = always 1;
        count = always 8;
      };
  waitrequest = always 0;
  readdata = always 0;
  readdatavalid = always 0;
  response = always 0;
}

abbrev pub asked_by : List ℕ → List ℕ → AgentView
asked_by read enables = record {
  signals =
      record
      { read = signal read; write = always 0; address = always 0; word = always 0; enables = signal enables; count = always 1 };
  waitrequest = always 0;
  readdata = always 0;
  readdatavalid = always 0;
  response = always 0;
  grant = always 0;
}

abbrev pub packed_run : Run
packed_run = run_of reads_eight no_host (asked_by (1 ∷ []) (255 ∷ []))

abbrev pub unpacked_run : Run
unpacked_run = run_of reads_eight no_host (asked_by (replicate 8 1) (1 ∷ 2 ∷ 4 ∷ 8 ∷ 16 ∷ 32 ∷ 64 ∷ 128 ∷ []))

-- a host that waits for ever with one write, and an agent that is never shown it
abbrev pub stuck_run : Run
stuck_run = run_of (writer (replicate 9 1) [] [] 1 1 (replicate 9 1)) no_host (written_to [] [] [] 0 [])

-- one that is served in the third cycle
abbrev pub slow_run : Run
slow_run = run_of (writer (1 ∷ 1 ∷ 1 ∷ []) [] [] 1 1 (1 ∷ 1 ∷ 0 ∷ [])) no_host (written_to (0 ∷ 0 ∷ 1 ∷ []) [] [] 1 [])

-- the wide system with two pipeline stages
abbrev pub staged_system : System
staged_system = record wide_system { stages = 2 }

-- a write that is taken after this many cycles
abbrev pub taken_after : List ℕ → Run
taken_after write = run_of (writer (1 ∷ []) [] (7 ∷ []) 1 1 []) no_host (written_to write [] (replicate 4 7) 1 [])

-- a word that comes in the cycle of its read
abbrev pub early_word : HostView
early_word = record {
  signals =
      record
      { read = signal (1 ∷ []); write = always 0; address = always 0; word = always 0; enables = always 15; count = always 1 };
  waitrequest = always 0;
  readdata = always 0;
  readdatavalid = signal (1 ∷ []);
  response = always 0;
}

-- a host that changes its address while it waits, and one that reads within its write burst
abbrev pub fickle_host : HostView
fickle_host = writer (1 ∷ 1 ∷ []) (0 ∷ 4 ∷ []) [] 15 1 (1 ∷ 0 ∷ [])

abbrev pub hasty_host : HostView
hasty_host = record (writer (1 ∷ 0 ∷ []) [] [] 15 2 []) {
  signals =
      record {
        read =
            signal (0 ∷ 1 ∷ []);
        write = signal (1 ∷ []);
        address = always 0;
        word = always 0;
        enables = always 15;
        count = always 2;
      };
}

-- an agent that answers before it is asked
abbrev pub eager_agent : AgentView
eager_agent = read_once (1 ∷ []) (1 ∷ []) (9 ∷ [])

-- byte 0 is written with 5 and read back
abbrev pub memory_run : ℕ → Run
memory_run byte = run_of no_host no_host (record {
  signals =
      record {
        read =
            signal (0 ∷ 1 ∷ []);
        write =
            signal (1 ∷ []);
        address = always 0;
        word = signal (5 ∷ []);
        enables = always 1;
        count = always 1;
      };
  waitrequest = always 0;
  readdata = signal (0 ∷ 0 ∷ byte ∷ []);
  readdatavalid = signal (0 ∷ 0 ∷ 1 ∷ []);
  response = always 0;
  grant = always 0;
})

-- a 32-bit host with response reads the word at 0 of an 8-bit agent, whose byte 2 has code 2
abbrev pub coded_system : System
coded_system =
    record
    (system_of (record { shape = shape_of 4 1 true; has_burst = true; has_readdatavalid = true; has_response = true })
    (agent_of 1 false 16) (0 ∷ [])) {
      place = λ h kind address. if nat_lt address 16 then Some 0 else None;
    }

abbrev pub coded_host : ℕ → ℕ → ℕ → HostView
coded_host enables word code = record {
  signals =
      record {
        read =
            signal (1 ∷ []);
        write = always 0;
        address = always 0;
        word = always 0;
        enables = always enables;
        count = always 1;
      };
  waitrequest = always 0;
  readdata = signal (0 ∷ 0 ∷ 0 ∷ 0 ∷ 0 ∷ word ∷ []);
  readdatavalid = signal (0 ∷ 0 ∷ 0 ∷ 0 ∷ 0 ∷ 1 ∷ []);
  response = signal (0 ∷ 0 ∷ 0 ∷ 0 ∷ 0 ∷ code ∷ []);
}

-- the agent is asked for each of so many bytes, and answers in the next cycle
abbrev pub coded_agent : ℕ → AgentView
coded_agent bytes = record {
  signals =
      record {
        read =
            signal (replicate bytes 1);
        write =
            always 0;
        address = signal (0 ∷ 1 ∷ 2 ∷ 3 ∷ []);
        word = always 0;
        enables = always 1;
        count = always 1;
      };
  waitrequest = always 0;
  readdata = signal (0 ∷ 0x11 ∷ 0x22 ∷ 0x33 ∷ 0x44 ∷ []);
  readdatavalid = signal (0 ∷ replicate bytes 1);
  response = signal (0 ∷ 0 ∷ 0 ∷ 2 ∷ 0 ∷ []);
  grant = always 0;
}

abbrev pub coded_run : ℕ → ℕ → ℕ → ℕ → Run
coded_run enables bytes word code = run_of (coded_host enables word code) no_host (coded_agent bytes)

-- a burst of two words from a 32-bit host to an 8-bit agent without byte enables, the second word with no lane: the one piece
-- ends the command, which isn't known before the second beat is shown
abbrev pub burst_side : Port
burst_side = record {
  shape = shape_of 4 1 true;
  commands = record {
    signals =
        record {
          read =
              always 0;
          write =
              signal (1 ∷ 1 ∷ []);
          address = always 0;
          word = always 9;
          enables = signal (1 ∷ 0 ∷ []);
          count = always 2;
        };
    more = always 0;
    tag = always 0;
    waitrequest = always 0;
  };
  answers = record { valid = always 0; word = always 0; code = always 0 };
}

abbrev pub held_back_side : Port
held_back_side = write_port 1 (0 ∷ 1 ∷ []) [] (0 ∷ 9 ∷ []) 1 [] []

abbrev pub too_early_side : Port
too_early_side = write_port 1 (1 ∷ []) [] (9 ∷ []) 1 [] []

-- one host and one agent of one word size without bursts
abbrev pub plain_system : System
plain_system =
    record
    (system_of
    (record {
      shape =
          record { word_bytes = 4; unit_bytes = 1; burst_bits = 1; has_enables = true };
      has_burst =
          false;
      has_readdatavalid = true;
      has_response = false;
    })
    (agent_of 4 true 256) (0 ∷ []))
    { hosts = 1 }

-- the second read waits although the agent has room for it
abbrev pub one_by_one_run : Run
one_by_one_run = run_of (record {
  signals =
      record {
        read =
            signal (1 ∷ 1 ∷ 1 ∷ 1 ∷ []);
        write =
            always 0;
        address = signal (0 ∷ 4 ∷ 4 ∷ 4 ∷ []);
        word = always 0;
        enables = always 15;
        count = always 1;
      };
  waitrequest = signal (0 ∷ 1 ∷ 1 ∷ 1 ∷ []);
  readdata = always 0;
  readdatavalid = always 0;
  response = always 0;
}) no_host (read_once (1 ∷ []) [] [])

-- one write that `more` joins to a next one, which isn't shown yet
abbrev pub joined_side : Port
joined_side = write_port 1 (1 ∷ []) [] (9 ∷ []) 1 (1 ∷ []) []

-- a read in no footprint that waits for ever
abbrev pub stuck_at_default_run : Run
stuck_at_default_run = two_agent_run (record {
  signals =
      record {
        read =
            signal (replicate 9 1);
        write = always 0;
        address = always 1024;
        word = always 0;
        enables = always 15;
        count = always 1;
      };
  waitrequest = signal (replicate 9 1);
  readdata = always 0;
  readdatavalid = always 0;
  response = always 0;
}) (read_once [] [] []) (read_once [] [] [])

-- one plain host and two agents: a read of agent 0, which is never answered, a write to agent 1, and a second read of agent 0
-- that waits although the agent has room for it
abbrev pub plain_pair : System
plain_pair = record two_agents { host = plain_system.host }

abbrev pub held_read_run : Run
held_read_run = two_agent_run (record {
  signals =
      record {
        read =
            signal (1 ∷ 0 ∷ 1 ∷ 1 ∷ 1 ∷ []);
        write =
            signal (0 ∷ 1 ∷ []);
        address = signal (0 ∷ 256 ∷ 4 ∷ 4 ∷ 4 ∷ []);
        word = always 7;
        enables = always 15;
        count = always 1;
      };
  waitrequest = signal (0 ∷ 0 ∷ 1 ∷ 1 ∷ 1 ∷ []);
  readdata = always 0;
  readdatavalid = always 0;
  response = always 0;
}) (read_once (1 ∷ []) [] []) (written_to (0 ∷ 1 ∷ []) [] (0 ∷ 7 ∷ []) 15 [])

-- the read of eight bytes from 3 on, whose first touch is read in two beats
abbrev pub reads_from_three : HostView
reads_from_three =
    record reads_eight {
      signals =
          record
          { read = signal (1 ∷ []); write = always 0; address = always 3; word = always 0; enables = always 1; count = always 8 };
    }

abbrev pub twice_read_run : Run
twice_read_run = run_of reads_from_three no_host (asked_by (1 ∷ 1 ∷ []) (8 ∷ 240 ∷ []))
