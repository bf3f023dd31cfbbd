-- Small runs of packed reads: a read of eight bytes at byte 3 of words of eight bytes, right and wrong.
use Rattle.std.specs.Prelude.{ℕ, true, List, [], ◌∷◌}
use Rattle.memory_runs.specs.Views.{Shape}
use Rattle.memory_machines.specs.Link.{Port, Target}
use Rattle.memory_links.specs.Cutters.{Reach}
use Rattle.memory_links.specs.Driven.{Inputs, CutInputs, cut_below}
use Rattle.memory_links.specs.DrivenGather.{GatherInputs}
use Rattle.runs_tests.specs.Examples.{signal, always}

abbrev pub shape : ℕ → ℕ → Shape
shape bytes bits = record { word_bytes = bytes; unit_bytes = 1; burst_bits = bits; has_enables = true }

-- an agent of words of eight bytes and this span
abbrev pub agent : ℕ → Target
agent span = record { shape = shape 8 1; span = span }

-- one read of eight bytes at byte 3
abbrev pub one_read : Inputs
one_read = record {
  signals =
      record {
        read =
            signal (1 ∷ []);
        write =
            always 0;
        address = signal (3 ∷ []);
        word = always 0;
        enables = always 1;
        count = signal (8 ∷ []);
      };
  more = always 0;
  tag = always 0;
  waitrequest = always 0;
  answers = record { valid = always 0; word = always 0; code = always 0 };
}

abbrev pub cutting : Reach → CutInputs
cutting reach = record { reach = reach; longest = 1; shape = shape 1 4; below = shape 1 4; inputs = one_read }

-- its bursts gathered; their words come in cycles 1 and 2
abbrev pub gathering : Reach → ℕ → GatherInputs
gathering reach room = record {
  narrow = shape 1 4;
  wide = shape 8 1;
  room = room;
  inputs = record {
    signals = (cut_below (cutting reach)).commands.signals;
    more = (cut_below (cutting reach)).commands.more;
    tag = (cut_below (cutting reach)).commands.tag;
    waitrequest = always 0;
    answers =
        record
        { valid = signal (0 ∷ 1 ∷ 1 ∷ []); word = signal (0 ∷ 0x1716151413121110 ∷ 0x1f1e1d1c1b1a1918 ∷ []); code = always 0 };
  };
}

-- a side of single reads of words of eight bytes
abbrev pub wide_reads : List ℕ → List ℕ → List ℕ → Port
wide_reads reads addresses enables = record {
  shape = shape 8 1;
  commands = record {
    signals =
        record {
          read =
              signal reads;
          write = always 0;
          address = signal addresses;
          word = always 0;
          enables = signal enables;
          count = always 1;
        };
    more = signal (1 ∷ []);
    tag = always 0;
    waitrequest = always 0;
  };
  answers =
      record
      { valid = signal (0 ∷ 1 ∷ 1 ∷ []); word = signal (0 ∷ 0x1716151413121110 ∷ 0x1f1e1d1c1b1a1918 ∷ []); code = always 0 };
}

-- a side of one read of eight bytes at byte 3, and the words that it is given
abbrev pub byte_reads : List ℕ → Port
byte_reads words = record {
  shape = shape 1 4;
  commands = record { signals = one_read.signals; more = always 0; tag = always 0; waitrequest = always 0 };
  answers = record { valid = signal (0 ∷ 1 ∷ 1 ∷ 1 ∷ []); word = signal words; code = always 0 };
}
