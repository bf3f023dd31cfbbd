-- The machine that cuts the bursts of a host into those that an agent takes, or into single beats: writes into bursts of at
-- most so many beats, reads as far as a way of cutting says. It accepts a read with its first burst, and sends the others by
-- itself.
use Rattle.std.specs.Prelude.{◌≡◌, ℕ, suc, ◌+◌, ◌-◌, ◌*◌, ◌/◌, ◌%◌, ◌<◌, ◌≤◌, min, Bool, true, false, not, ◌&&◌, [], ◌∷◌, if◌then◌else◌, nat_eq, nat_lt}
use Rattle.histories.specs.History.{is_raised}
use Rattle.memory_runs.specs.Views.{Shape}
use Rattle.memory_runs.specs.Commands.{Burst, shows, byte_address, burst_before, longest_burst}
use Rattle.memory_machines.specs.Link.{Target, Port, takes}
use Rattle.memory_machines.specs.Machines.{Raw, raw_at, ShowsFitBeats}
use Rattle.memory_links.specs.Links.{LinkForm}
use Rattle.memory_links.specs.Selects.{takes_read}

-- the beats of a read that haven't gone: how many, the byte address of the next one, and the command
pub record Rest : Type 0 where
  pub left : ℕ
  pub address : ℕ
  pub command : Raw

-- the write burst under way: how many beats are to come, and the byte address of the next one
pub record Place : Type 0 where
  pub left : ℕ
  pub address : ℕ

-- the registers, as each cycle begins
pub record CutterState : Type 0 where
  pub place : ℕ → Place
  pub rest : ℕ → Rest

abbrev pub is_sending : CutterState → ℕ → Bool
is_sending state c = nat_lt 0 (state.rest c).left

-- of so many beats a burst has as many as may be. Where single beats are made, it has one
abbrev pub beats_of : ℕ → ℕ → ℕ
beats_of longest left = if nat_eq longest 1 then 1 else min longest left

-- how many beats the next burst of a read may have, by its byte address
abbrev pub Reach : Type 0
Reach = ℕ → ℕ

-- the next burst of a read. The last one's `more` is that of the command
abbrev pub read_burst_of : Reach → Rest → Raw
read_burst_of reach rest = record {
  levels =
      record {
        read =
            1;
        write =
            0;
        address =
            rest.address;
        word = 0;
        enables = rest.command.levels.enables;
        count = beats_of (reach rest.address) rest.left;
      };
  more = if nat_lt (reach rest.address) rest.left then 1 else rest.command.more;
  tag = rest.command.tag;
}

-- what is left behind it
abbrev pub behind_burst : Reach → ℕ → Rest → Rest
behind_burst reach bytes rest =
    record { left = rest.left - reach rest.address; address = rest.address + reach rest.address * bytes; command = rest.command }

abbrev pub whole_read : Shape → Raw → Rest
whole_read shape raw = record { left = raw.levels.count; address = byte_address shape raw.levels.address; command = raw }

-- a write beat at its own place, with the count of the burst that it would begin below. Where one is under way there, the count
-- isn't read
abbrev pub write_of_burst : ℕ → Shape → Place → Raw → Raw
write_of_burst longest shape place raw = record {
  levels = record {
    read = 0;
    write = 1;
    address = if nat_eq place.left 0 then byte_address shape raw.levels.address else place.address;
    word = raw.levels.word;
    enables = raw.levels.enables;
    count = beats_of longest (if nat_eq place.left 0 then raw.levels.count else place.left);
  };
  more = raw.more;
  tag = raw.tag;
}

-- what may be shown below of what stands above
abbrev pub first_burst : Reach → ℕ → Shape → Place → Raw → Raw
first_burst reach longest shape place raw =
    if is_raised raw.levels.write then write_of_burst longest shape place raw else read_burst_of reach (whole_read shape raw)

-- the place is that of the burst
pub record IsPlaceIn (bytes : ℕ) (burst : Burst) (place : Place) : Type 0 where
  pub left : place.left ≡ burst.left
  pub address : 0 < burst.left → place.address ≡ burst.first + burst.done * bytes

pub record RunsAsCutter (reach : Reach) (longest : ℕ) (up down : Port) (state : CutterState) : Type 0 where
  -- commands
  pub shown : (c : ℕ) → shows down.commands.signals c ≡ (if is_sending state c then true else shows up.commands.signals c)
  pub beat : (c : ℕ) → shows down.commands.signals c ≡ true
      → raw_at down c
      ≡ (if is_sending state c then read_burst_of reach (state.rest c)
      else first_burst reach longest up.shape (state.place c) (raw_at up c))
  pub accepts : (c : ℕ) → takes up c ≡ not (is_sending state c) && takes down c
  -- where all that has been shown above was fit, the place is kept
  pub place : (c : ℕ) → ShowsFitBeats up c
      → IsPlaceIn up.shape.word_bytes (burst_before up.shape up.commands.signals (takes up) c) (state.place c)
  pub rest_begins : (state.rest 0).left ≡ 0
  pub rest_next : (c : ℕ)
      → state.rest (suc c)
      ≡ (if is_sending state c then (if takes down c then behind_burst reach up.shape.word_bytes (state.rest c) else state.rest c)
      else if takes_read up c then behind_burst reach up.shape.word_bytes (whole_read up.shape (raw_at up c)) else state.rest c)
  -- answers are wires
  pub valid : (c : ℕ) → up.answers.valid c ≡ down.answers.valid c
  pub word : (c : ℕ) → up.answers.word c ≡ down.answers.word c
  pub code : (c : ℕ) → up.answers.code c ≡ down.answers.code c

-- words are the same below, where addresses are those of bytes and so many beats are a burst
pub record IsCutPlan (reach : Reach) (longest : ℕ) (up down : Shape) : Type 0 where
  pub some : 0 < up.word_bytes
  pub same : down.word_bytes ≡ up.word_bytes
  pub bytes : down.unit_bytes ≡ 1
  pub least : 0 < longest
  pub most : longest ≤ longest_burst down.burst_bits
  -- a read's next burst has a beat at least, and no more than may be
  pub goes : (address : ℕ) → 0 < reach address
  pub allowed : (address : ℕ) → reach address ≤ longest_burst down.burst_bits

-- ---- ways of cutting

-- reads like writes
abbrev pub reach_longest : ℕ → Reach
reach_longest longest address = longest

-- up to the end of a wide word, in which `many` words of `bytes` bytes stand
abbrev pub reach_words : ℕ → ℕ → Reach
reach_words bytes many address = many - (address / bytes) % many

-- narrow words, `many` of which make a wide one. Below, a burst may be as long as a wide word
pub record IsTouchPlan (many : ℕ) (up down : Shape) : Type 0 where
  pub some : 0 < up.word_bytes
  pub same : down.word_bytes ≡ up.word_bytes
  pub bytes : down.unit_bytes ≡ 1
  pub more : 0 < many
  pub most : many ≤ longest_burst down.burst_bits

-- it holds a read, its rank is always 0, and each word is a word from below
abbrev pub cut_form : Target → LinkForm
cut_form target =
    record { target = target; hold = 1; paces = record { largest = 0; hold = 1 } ∷ []; word_for_word = true; makes_lanes = false }
