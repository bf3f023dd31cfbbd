-- Small runs of links, right and wrong: a wire, a pipe, a lane selector, a splitter, a cutter of bursts, and what keeps beats
-- without a lane from an agent.
use Rattle.std.specs.Prelude.{ℕ, true, List, [], ◌∷◌}
use Rattle.memory_runs.specs.Views.{Shape}
use Rattle.memory_machines.specs.Link.{Port, Target}
use Rattle.memory_machines.specs.Lines.{TaggedPort}
use Rattle.memory_links.specs.Cutters.{reach_longest}
use Rattle.memory_links.specs.Driven.{Inputs, SelectInputs, PipeInputs, SplitInputs, CutInputs, DropInputs}
use Rattle.runs_tests.specs.Examples.{signal, always}
use Rattle.runs_tests.specs.MoreExamples.{write_port}

-- ---- a wire

-- two writes of a byte; the first one waits for a cycle
abbrev pub two_writes : Port
two_writes = write_port 1 (1 ∷ 1 ∷ 1 ∷ []) (5 ∷ 5 ∷ 6 ∷ []) (0xaa ∷ 0xaa ∷ 0xbb ∷ []) 1 [] (1 ∷ 0 ∷ 0 ∷ [])

-- what looks like the wire's upper side and doesn't wait
abbrev pub hides_wait : Port
hides_wait = write_port 1 (1 ∷ 1 ∷ []) (5 ∷ 6 ∷ []) (0xaa ∷ 0xbb ∷ []) 1 [] []

-- a lower side that shows the first write twice
abbrev pub shows_twice : Port
shows_twice = write_port 1 (1 ∷ 1 ∷ 1 ∷ []) (5 ∷ 5 ∷ 6 ∷ []) (0xaa ∷ 0xaa ∷ 0xbb ∷ []) 1 [] []

-- ---- a lane selector, from words of two bytes to words of four

abbrev pub lane_shape : ℕ → Shape
lane_shape bytes = record { word_bytes = bytes; unit_bytes = 1; burst_bits = 1; has_enables = true }

abbrev pub lane_target : Target
lane_target = record { shape = lane_shape 4; span = 16 }

-- a write of bbaa to address 2, then reads of addresses 2 and 0; the words come in cycles 3 and 4
abbrev pub half_words : Inputs
half_words = record {
  signals = record {
    read = signal (0 ∷ 1 ∷ 1 ∷ []);
    write = signal (1 ∷ []);
    address = signal (2 ∷ 2 ∷ 0 ∷ []);
    word = signal (0xbbaa ∷ []);
    enables = always 3;
    count = always 1;
  };
  more = always 0;
  tag = always 0;
  waitrequest = always 0;
  answers =
      record
      { valid = signal (0 ∷ 0 ∷ 0 ∷ 1 ∷ 1 ∷ []); word = signal (0 ∷ 0 ∷ 0 ∷ 0x44332211 ∷ 0x88776655 ∷ []); code = always 0 };
}

abbrev pub selecting : ℕ → SelectInputs
selecting room = record { narrow = lane_shape 2; wide = lane_shape 4; room = room; inputs = half_words }

-- a port of one read of two bytes at address 2, whose word comes in cycle 1
abbrev pub read_port : ℕ → ℕ → ℕ → ℕ → Port
read_port bytes address enables word = record {
  shape = lane_shape bytes;
  commands = record {
    signals =
        record {
          read =
              signal (1 ∷ []);
          write =
              always 0;
          address = signal (address ∷ []);
          word = always 0;
          enables = always enables;
          count = always 1;
        };
    more = always 0;
    tag = always 0;
    waitrequest = always 0;
  };
  answers = record { valid = signal (0 ∷ 1 ∷ []); word = always word; code = always 0 };
}

-- ---- a pipe of two stages

-- three writes; in cycle 2 the agent waits; a word comes in cycle 4
abbrev pub three_writes : PipeInputs
three_writes = record {
  stages = 2;
  shape = lane_shape 1;
  inputs = record {
    signals =
        record {
          read =
              always 0;
          write =
              signal (1 ∷ 1 ∷ 1 ∷ []);
          address =
              signal (1 ∷ 2 ∷ 3 ∷ []);
          word = signal (0xaa ∷ 0xbb ∷ 0xcc ∷ []);
          enables = always 1;
          count = always 1;
        };
    more = always 0;
    tag = always 0;
    waitrequest = signal (0 ∷ 0 ∷ 1 ∷ []);
    answers = record { valid = signal (0 ∷ 0 ∷ 0 ∷ 0 ∷ 1 ∷ []); word = always 7; code = always 0 };
  };
  answer_tag = always 0;
}

-- the same through four stages; the agent waits in the two cycles in which the first write stands before it
abbrev pub stalled_writes : PipeInputs
stalled_writes =
    record three_writes
    { stages = 4; inputs = record (three_writes.inputs) { waitrequest = signal (0 ∷ 0 ∷ 0 ∷ 0 ∷ 1 ∷ 1 ∷ []) } }

abbrev pub tagged_port : Port → TaggedPort
tagged_port port = record { port = port; answer_tag = always 0 }

-- one stage above, and below it what shows the newer beat first, or has the answer of its own cycle
abbrev pub stage_top : Port
stage_top = write_port 1 (1 ∷ 1 ∷ []) (5 ∷ 6 ∷ []) (0xaa ∷ 0xbb ∷ []) 1 [] []

abbrev pub newer_first : Port
newer_first = write_port 1 (0 ∷ 0 ∷ 1 ∷ 1 ∷ []) (0 ∷ 0 ∷ 6 ∷ 5 ∷ []) (0 ∷ 0 ∷ 0xbb ∷ 0xaa ∷ []) 1 [] []

abbrev pub answered_at_once : Port
answered_at_once = read_port 1 2 1 9

-- ---- a splitter

-- the wide write of the pieces, accepted with its first piece
abbrev pub accepts_early : Port
accepts_early = write_port 4 (1 ∷ []) (4 ∷ []) (0xaabbccdd ∷ []) 6 [] []

-- a read of four bytes at address 4 with the lanes 6, to an agent of bytes; its two words come in cycles 1 and 2
abbrev pub gathering : SplitInputs
gathering = record {
  wide = lane_shape 4;
  narrow = lane_shape 1;
  room = 16;
  inputs = record {
    signals =
        record {
          read =
              signal (1 ∷ 1 ∷ []);
          write = always 0;
          address = always 4;
          word = always 0;
          enables = always 6;
          count = always 1;
        };
    more = always 0;
    tag = always 0;
    waitrequest = always 0;
    answers = record { valid = signal (0 ∷ 1 ∷ 1 ∷ []); word = signal (0 ∷ 0xcc ∷ 0xbb ∷ []); code = signal (0 ∷ 2 ∷ 0 ∷ []) };
  };
}

-- joined writes of four bytes without a lane, one in each cycle
abbrev pub empty_writes : SplitInputs
empty_writes = record {
  wide = lane_shape 4;
  narrow = lane_shape 1;
  room = 16;
  inputs = record {
    signals =
        record { read = always 0; write = always 1; address = always 4; word = always 7; enables = always 0; count = always 1 };
    more = always 1;
    tag = always 0;
    waitrequest = always 0;
    answers = record { valid = always 0; word = always 0; code = always 0 };
  };
}

-- the two byte reads, and the read above whose bytes are swapped
abbrev pub byte_reads : Port
byte_reads = record {
  shape = lane_shape 1;
  commands = record {
    signals =
        record {
          read =
              signal (1 ∷ 1 ∷ []);
          write =
              always 0;
          address = signal (5 ∷ 6 ∷ []);
          word = always 0;
          enables = always 1;
          count = always 1;
        };
    more = signal (1 ∷ []);
    tag = always 0;
    waitrequest = always 0;
  };
  answers = record { valid = signal (0 ∷ 1 ∷ 1 ∷ []); word = signal (0 ∷ 0xcc ∷ 0xbb ∷ []); code = always 0 };
}

abbrev pub swaps_bytes : Port
swaps_bytes = record {
  shape = lane_shape 4;
  commands = record {
    signals =
        record {
          read =
              signal (1 ∷ 1 ∷ []);
          write = always 0;
          address = always 4;
          word = always 0;
          enables = always 6;
          count = always 1;
        };
    more = always 0;
    tag = always 0;
    waitrequest = signal (1 ∷ []);
  };
  answers = record { valid = signal (0 ∷ 0 ∷ 1 ∷ []); word = always 0x00ccbb00; code = always 0 };
}

abbrev pub byte_lanes : Target
byte_lanes = record { shape = lane_shape 1; span = 16 }

-- ---- a cutter of bursts into single beats

abbrev pub burst_shape : ℕ → Shape
burst_shape bytes = record { word_bytes = bytes; unit_bytes = 1; burst_bits = 3; has_enables = true }

-- a read of three words at address 8, then a write of two words at address 32, which waits until the read has gone
abbrev pub cutting : CutInputs
cutting = record {
  reach = reach_longest 1;
  longest = 1;
  shape = burst_shape 4;
  below = lane_shape 4;
  inputs = record {
    signals = record {
      read = signal (1 ∷ []);
      write = signal (0 ∷ 1 ∷ 1 ∷ 1 ∷ 1 ∷ []);
      address = signal (8 ∷ 32 ∷ 32 ∷ 32 ∷ 0 ∷ []);
      word = signal (0 ∷ 0xaa ∷ 0xaa ∷ 0xaa ∷ 0xbb ∷ []);
      enables = always 15;
      count = signal (3 ∷ 2 ∷ 2 ∷ 2 ∷ 0 ∷ []);
    };
    more = signal (0 ∷ 1 ∷ 1 ∷ 1 ∷ 0 ∷ []);
    tag = always 0;
    waitrequest = always 0;
    answers = record { valid = always 0; word = always 0; code = always 0 };
  };
}

-- a read of two bytes at address 2, with waits above and a word in cycle 1
abbrev pub two_bytes : List ℕ → Port
two_bytes waits = record {
  shape = burst_shape 1;
  commands = record {
    signals =
        record {
          read =
              signal (1 ∷ waits);
          write = always 0;
          address = always 2;
          word = always 0;
          enables = always 1;
          count = always 2;
        };
    more = always 0;
    tag = always 0;
    waitrequest = signal waits;
  };
  answers = record { valid = signal (0 ∷ 1 ∷ []); word = always 9; code = always 0 };
}

-- its beats, with or without `more` on the first one
abbrev pub two_beats : ℕ → Port
two_beats more = record {
  shape = lane_shape 1;
  commands = record {
    signals =
        record {
          read =
              signal (1 ∷ 1 ∷ []);
          write =
              always 0;
          address = signal (2 ∷ 3 ∷ []);
          word = always 0;
          enables = always 1;
          count = always 1;
        };
    more = signal (more ∷ []);
    tag = always 0;
    waitrequest = always 0;
  };
  answers = record { valid = signal (0 ∷ 1 ∷ []); word = always 9; code = always 0 };
}

-- a read of two bytes without an enabled lane, and behind it a plain write, which comes while the second beat of the read is sent
abbrev pub behind_empty : CutInputs
behind_empty = record {
  reach = reach_longest 1;
  longest = 1;
  shape = burst_shape 1;
  below = lane_shape 1;
  inputs = record {
    signals =
        record {
          read =
              signal (1 ∷ []);
          write =
              signal (0 ∷ 1 ∷ []);
          address =
              signal (2 ∷ 5 ∷ []);
          word = always 7;
          enables = signal (0 ∷ 1 ∷ []);
          count = signal (2 ∷ 1 ∷ []);
        };
    more = always 0;
    tag = always 0;
    waitrequest = always 0;
    answers = record { valid = always 0; word = always 0; code = always 0 };
  };
}

-- ---- and into bursts of two

abbrev pub pair_shape : ℕ → Shape
pair_shape bytes = record { word_bytes = bytes; unit_bytes = 1; burst_bits = 2; has_enables = true }

-- a read of five words at address 8, then a write of three words at address 32, which waits until the read has gone
abbrev pub pairing : CutInputs
pairing = record {
  reach = reach_longest 2;
  longest = 2;
  shape = record (burst_shape 4) { burst_bits = 4 };
  below = pair_shape 4;
  inputs = record {
    signals = record {
      read = signal (1 ∷ []);
      write = signal (0 ∷ 1 ∷ 1 ∷ 1 ∷ 1 ∷ 1 ∷ []);
      address = signal (8 ∷ 32 ∷ 32 ∷ 32 ∷ 0 ∷ 0 ∷ []);
      word = signal (0 ∷ 0xaa ∷ 0xaa ∷ 0xaa ∷ 0xbb ∷ 0xcc ∷ []);
      enables = always 15;
      count = signal (5 ∷ 3 ∷ 3 ∷ 3 ∷ 0 ∷ 0 ∷ []);
    };
    more = signal (0 ∷ 1 ∷ 1 ∷ 1 ∷ 1 ∷ 0 ∷ []);
    tag = always 0;
    waitrequest = always 0;
    answers = record { valid = always 0; word = always 0; code = always 0 };
  };
}

-- a read of bytes at address 2, in one burst or in two
abbrev pub byte_bursts : Shape → List ℕ → List ℕ → Port
byte_bursts shape reads counts = record {
  shape = shape;
  commands = record {
    signals =
        record {
          read =
              signal reads;
          write =
              always 0;
          address = signal (2 ∷ 4 ∷ []);
          word = always 0;
          enables = always 1;
          count = signal counts;
        };
    more = always 0;
    tag = always 0;
    waitrequest = always 0;
  };
  answers = record { valid = always 0; word = always 0; code = always 0 };
}

abbrev pub four_bytes : Port
four_bytes = byte_bursts (burst_shape 1) (1 ∷ []) (4 ∷ [])

-- two bursts that aren't joined, and one that is too long
abbrev pub two_pairs : Port
two_pairs = byte_bursts (pair_shape 1) (1 ∷ 1 ∷ []) (2 ∷ 2 ∷ [])

abbrev pub uncut : Port
uncut = byte_bursts (pair_shape 1) (1 ∷ []) (4 ∷ [])

-- the read is accepted with its last burst, but its first word comes before
abbrev pub slow_bytes : Port
slow_bytes = record {
  shape = four_bytes.shape;
  commands = record {
    signals = record four_bytes.commands.signals { read = signal (1 ∷ 1 ∷ []) };
    more = always 0;
    tag = always 0;
    waitrequest = signal (1 ∷ []);
  };
  answers = record { valid = signal (0 ∷ 1 ∷ []); word = always 9; code = always 0 };
}

-- two joined bursts, the second of which begins a word too early
abbrev pub near_pairs : Port
near_pairs = record {
  shape = two_pairs.shape;
  commands = record {
    signals = record two_pairs.commands.signals { address = signal (2 ∷ 3 ∷ []) };
    more = signal (1 ∷ []);
    tag = always 0;
    waitrequest = always 0;
  };
  answers = two_pairs.answers;
}

-- a read of four bytes without an enabled lane, and behind it a plain write, which comes while the second burst of the read is
-- sent
abbrev pub behind_pairs : CutInputs
behind_pairs = record {
  reach = reach_longest 2;
  longest = 2;
  shape = behind_empty.shape;
  below = pair_shape 1;
  inputs = record behind_empty.inputs { signals = record behind_empty.inputs.signals { count = signal (4 ∷ 1 ∷ []) } };
}

-- ---- what keeps beats without a lane from an agent

-- a joined write to 8, 12, 16 and 20, of which 12 and 20 have no lane; then reads of 8, 12 and 16, of which 12 has none.
-- The words of the other two come in cycles 6 and 9
abbrev pub dropping : DropInputs
dropping = record {
  shape = lane_shape 4;
  below = lane_shape 4;
  room = 16;
  inputs = record {
    signals = record {
      read = signal (0 ∷ 0 ∷ 0 ∷ 0 ∷ 1 ∷ 1 ∷ 1 ∷ 1 ∷ 1 ∷ []);
      write = signal (1 ∷ 1 ∷ 1 ∷ 1 ∷ []);
      address = signal (8 ∷ 12 ∷ 16 ∷ 20 ∷ 8 ∷ 12 ∷ 12 ∷ 12 ∷ 16 ∷ []);
      word = signal (0xaa ∷ 0xbb ∷ 0xcc ∷ 0xdd ∷ []);
      enables = signal (15 ∷ 0 ∷ 15 ∷ 0 ∷ 15 ∷ 0 ∷ 0 ∷ 0 ∷ 15 ∷ []);
      count = always 1;
    };
    more = signal (1 ∷ 1 ∷ 1 ∷ 0 ∷ []);
    tag = always 0;
    waitrequest = always 0;
    answers =
        record {
          valid =
              signal (0 ∷ 0 ∷ 0 ∷ 0 ∷ 0 ∷ 0 ∷ 1 ∷ 0 ∷ 0 ∷ 1 ∷ []);
          word =
              signal (0 ∷ 0 ∷ 0 ∷ 0 ∷ 0 ∷ 0 ∷ 0x11 ∷ 0 ∷ 0 ∷ 0x22 ∷ []);
          code = always 0;
        };
  };
}

-- a port of byte beats, some of them without a lane
abbrev pub lane_port : List ℕ → List ℕ → List ℕ → List ℕ → List ℕ → List ℕ → Port
lane_port read write address enables more word = record {
  shape = lane_shape 1;
  commands = record {
    signals =
        record {
          read =
              signal read;
          write =
              signal write;
          address = signal address;
          word = always 7;
          enables = signal enables;
          count = always 1;
        };
    more = signal more;
    tag = always 0;
    waitrequest = always 0;
  };
  answers = record { valid = signal (0 ∷ 0 ∷ 1 ∷ 1 ∷ []); word = signal word; code = always 0 };
}

-- a write to 2 joined to one without a lane, then a write to 5; below, `more` of the first one is left as it is
abbrev pub ends_without_lane : Port
ends_without_lane = lane_port [] (1 ∷ 1 ∷ 1 ∷ []) (2 ∷ 3 ∷ 5 ∷ []) (1 ∷ 0 ∷ 1 ∷ []) (1 ∷ []) []

abbrev pub stays_joined : Port
stays_joined = lane_port [] (1 ∷ 1 ∷ []) (2 ∷ 5 ∷ []) (1 ∷ 1 ∷ []) (1 ∷ []) []

-- a read of 2 and one without a lane; the word of the second comes before that of the first
abbrev pub own_word_first : Port
own_word_first = lane_port (1 ∷ 1 ∷ []) [] (2 ∷ 3 ∷ []) (1 ∷ 0 ∷ []) [] (0 ∷ 0 ∷ 0 ∷ 9 ∷ [])

abbrev pub one_word : Port
one_word = lane_port (1 ∷ []) [] (2 ∷ []) (1 ∷ []) [] (0 ∷ 0 ∷ 9 ∷ [])

-- a read of 2 joined to one without a lane, then a write to 5
abbrev pub mixed_reads : DropInputs
mixed_reads = record {
  shape = lane_shape 1;
  below = lane_shape 1;
  room = 16;
  inputs = record {
    signals =
        record {
          read =
              signal (1 ∷ 1 ∷ 1 ∷ []);
          write =
              signal (0 ∷ 0 ∷ 0 ∷ 1 ∷ []);
          address =
              signal (2 ∷ 3 ∷ 3 ∷ 5 ∷ []);
          word = always 7;
          enables = signal (1 ∷ 0 ∷ 0 ∷ 1 ∷ []);
          count = always 1;
        };
    more = signal (1 ∷ []);
    tag = always 0;
    waitrequest = always 0;
    answers = record { valid = signal (0 ∷ 1 ∷ []); word = always 9; code = always 0 };
  };
}

-- reads without a lane, one in each cycle
abbrev pub empty_reads : DropInputs
empty_reads = record {
  shape = lane_shape 1;
  below = lane_shape 1;
  room = 16;
  inputs = record {
    signals =
        record { read = always 1; write = always 0; address = always 2; word = always 0; enables = always 0; count = always 1 };
    more = always 0;
    tag = always 0;
    waitrequest = always 0;
    answers = record { valid = always 0; word = always 0; code = always 0 };
  };
}

-- the first beat of a write burst, behind which the host holds the next one back for ever
abbrev pub held_burst : DropInputs
held_burst = record {
  shape = lane_shape 1;
  below = lane_shape 1;
  room = 16;
  inputs = record {
    signals =
        record
        { read = always 0; write = signal (1 ∷ []); address = always 2; word = always 7; enables = always 1; count = always 1 };
    more = signal (1 ∷ []);
    tag = always 0;
    waitrequest = always 0;
    answers = record { valid = always 0; word = always 0; code = always 0 };
  };
}

-- reads that are accepted in each cycle and get no word
abbrev pub lost_reads : Port
lost_reads = record {
  shape = lane_shape 1;
  commands = record {
    signals =
        record { read = always 1; write = always 0; address = always 2; word = always 0; enables = always 1; count = always 1 };
    more = always 0;
    tag = always 0;
    waitrequest = always 0;
  };
  answers = record { valid = always 0; word = always 0; code = always 0 };
}

abbrev pub shows_nothing : Port
shows_nothing = record {
  shape = lane_shape 1;
  commands = record {
    signals =
        record { read = always 0; write = always 0; address = always 0; word = always 0; enables = always 0; count = always 1 };
    more = always 0;
    tag = always 0;
    waitrequest = always 0;
  };
  answers = record { valid = always 0; word = always 0; code = always 0 };
}

-- ---- between words of one size, with room for one read

-- reads of a byte, one in each cycle, that get no word
abbrev pub unanswered_reads : Inputs
unanswered_reads = record {
  signals =
      record { read = always 1; write = always 0; address = always 2; word = always 0; enables = always 1; count = always 1 };
  more = always 0;
  tag = always 0;
  waitrequest = always 0;
  answers = record { valid = always 0; word = always 0; code = always 0 };
}

-- a splitter into one piece
abbrev pub one_piece : SplitInputs
one_piece = record { wide = lane_shape 1; narrow = lane_shape 1; room = 1; inputs = unanswered_reads }

-- what has nothing to drop
abbrev pub nothing_dropped : DropInputs
nothing_dropped = record { shape = lane_shape 1; below = lane_shape 1; room = 1; inputs = unanswered_reads }
