-- Runs of the machines, for all that is shown to them: the state is told by recursion on the cycle.
use Rattle.std.specs.Prelude.{ℕ, zero, suc, ◌+◌, ◌-◌, ◌*◌, ◌/◌, ◌%◌, ◌^◌, max, ◌&&◌, ◌||◌, Bool, true, false, not, List, [], ◌∷◌, ◌++◌, length, drop, if◌then◌else◌, nat_lt, nat_eq}
use Rattle.histories.specs.History.{is_raised, one_if, only_if}
use Rattle.memory_runs.specs.Views.{Shape, Signals, Levels, levels_at}
use Rattle.memory_runs.specs.Commands.{Burst, shows, burst_after}
use Rattle.memory_machines.specs.Paths.{CommandView, AnswerView}
use Rattle.memory_machines.specs.Link.{Port, is_nonempty}
use Rattle.memory_runs.specs.Legal.{Word}
use Rattle.memory_machines.specs.Machines.{Raw, idle, split_parts, beat_of}
use Rattle.memory_links.specs.Pipes.{PipeSides}
use Rattle.memory_links.specs.Selects.{offset_in, selected, silenced, first_of}
use Rattle.memory_links.specs.Splits.{SplitState, pieces_asked, are_same, put_piece, nothing}
use Rattle.memory_links.specs.Cutters.{Reach, CutterState, Rest, Place, read_burst_of, first_burst, behind_burst, whole_read}
use Rattle.memory_links.specs.Drops.{DropState, Standing, any_lane, sends, accepted, keeps, owes_itself, sent_beat}

-- what is shown to a link: commands from above, wait and answers from below
pub record Inputs : Type 0 where
  pub signals : Signals
  pub more : ℕ → ℕ
  pub tag : ℕ → ℕ
  pub waitrequest : ℕ → ℕ
  pub answers : AnswerView

-- ---- a lane selector

pub record SelectInputs : Type 0 where
  pub narrow : Shape
  pub wide : Shape
  pub room : ℕ
  pub inputs : Inputs

-- with these reads under way
abbrev pub shuts : SelectInputs → List ℕ → ℕ → Bool
shuts given queue c = not (is_raised (given.inputs.signals.write c)) && not (nat_lt (length queue) given.room)

abbrev pub select_waits : SelectInputs → List ℕ → ℕ → ℕ
select_waits given queue c = one_if (shuts given queue c || is_raised (given.inputs.waitrequest c))

abbrev pub select_step : SelectInputs → List ℕ → ℕ → List ℕ
select_step given queue c =
    drop (if is_raised (given.inputs.answers.valid c) then 1 else 0) queue
    ++ only_if
    ((shows given.inputs.signals c && not (is_raised (select_waits given queue c)))
    && not (is_raised (given.inputs.signals.write c)))
    (offset_in given.narrow given.wide (given.inputs.signals.address c))

abbrev pub select_queue : SelectInputs → ℕ → List ℕ
select_queue given zero = []
select_queue given (suc c) = select_step given (select_queue given c) c

-- with registers of any kind, here and of the other machines
abbrev pub select_above_with : SelectInputs → (ℕ → List ℕ) → Port
select_above_with given registers = record {
  shape = given.narrow;
  commands =
      record {
        signals =
            given.inputs.signals;
        more =
            given.inputs.more;
        tag = given.inputs.tag;
        waitrequest = λ c. select_waits given (registers c) c;
      };
  answers = record {
    valid = given.inputs.answers.valid;
    word = λ c. (given.inputs.answers.word c / 256 ^ first_of (registers c)) % 256 ^ given.narrow.word_bytes;
    code = given.inputs.answers.code;
  };
}

abbrev pub select_above : SelectInputs → Port
select_above given = select_above_with given (select_queue given)

abbrev pub select_levels : SelectInputs → List ℕ → ℕ → Levels
select_levels given queue c = silenced (shuts given queue c) (selected given.narrow given.wide (levels_at given.inputs.signals c))

abbrev pub signals_of : (ℕ → Levels) → Signals
signals_of levels = record {
  read = λ c. (levels c).read;
  write = λ c. (levels c).write;
  address = λ c. (levels c).address;
  word = λ c. (levels c).word;
  enables = λ c. (levels c).enables;
  count = λ c. (levels c).count;
}

abbrev pub select_below_with : SelectInputs → (ℕ → List ℕ) → Port
select_below_with given registers = record {
  shape = given.wide;
  commands =
      record {
        signals =
            signals_of (λ c. select_levels given (registers c) c);
        more =
            given.inputs.more;
        tag = given.inputs.tag;
        waitrequest = given.inputs.waitrequest;
      };
  answers = given.inputs.answers;
}

abbrev pub select_below : SelectInputs → Port
select_below given = select_below_with given (select_queue given)

-- ---- a pipe

pub record PipeInputs : Type 0 where
  pub stages : ℕ
  pub shape : Shape
  pub inputs : Inputs
  pub answer_tag : ℕ → ℕ  -- below

-- what a side shows above an empty stage
abbrev pub silent_raw : Raw
silent_raw = record { levels = record { read = 0; write = 0; address = 0; word = 0; enables = 0; count = 0 }; more = 0; tag = 0 }

abbrev pub head_of : List Raw → Raw
head_of [] = silent_raw
head_of (raw ∷ later) = raw

-- what side `i` shows in a cycle, where the queues are these
abbrev pub raw_there : PipeInputs → (ℕ → List Raw) → ℕ → ℕ → Raw
raw_there given queues c zero =
    record { levels = levels_at given.inputs.signals c; more = given.inputs.more c; tag = given.inputs.tag c }
raw_there given queues c (suc i) = head_of (queues i)

abbrev pub waits_there : PipeInputs → (ℕ → List Raw) → ℕ → ℕ → ℕ
waits_there given queues c i =
    if nat_lt i given.stages then one_if (not (nat_lt (length (queues i)) 2)) else given.inputs.waitrequest c

abbrev pub shows_raw : Raw → Bool
shows_raw raw = is_raised raw.levels.read || is_raised raw.levels.write

abbrev pub takes_there : PipeInputs → (ℕ → List Raw) → ℕ → ℕ → Bool
takes_there given queues c i = shows_raw (raw_there given queues c i) && not (is_raised (waits_there given queues c i))

-- the queues of all stages, as a cycle begins
abbrev pub pipe_queues : PipeInputs → ℕ → ℕ → List Raw
pipe_queues given zero i = []
pipe_queues given (suc c) i =
    drop (if takes_there given (pipe_queues given c) c (suc i) then 1 else 0) (pipe_queues given c i)
    ++ only_if (takes_there given (pipe_queues given c) c i) (raw_there given (pipe_queues given c) c i)

abbrev pub pipe_commands : PipeInputs → ℕ → CommandView
pipe_commands given i = record {
  signals = signals_of (λ c. (raw_there given (pipe_queues given c) c i).levels);
  more = λ c. (raw_there given (pipe_queues given c) c i).more;
  tag = λ c. (raw_there given (pipe_queues given c) c i).tag;
  waitrequest = λ c. waits_there given (pipe_queues given c) c i;
}

-- so many cycles late
abbrev pub late_by : ℕ → (ℕ → ℕ) → ℕ → ℕ
late_by cycles signal c = if nat_lt c cycles then 0 else signal (c - cycles)

abbrev pub pipe_run : PipeInputs → PipeSides
pipe_run given = record {
  shape = given.shape;
  commands = pipe_commands given;
  answers = λ i. record {
    valid = late_by (given.stages - i) given.inputs.answers.valid;
    word = late_by (given.stages - i) given.inputs.answers.word;
    code = late_by (given.stages - i) given.inputs.answers.code;
  };
  answer_tag = λ i. late_by (given.stages - i) given.answer_tag;
  queue = λ i c. pipe_queues given c i;
}

-- ---- a splitter

pub record SplitInputs : Type 0 where
  pub wide : Shape
  pub narrow : Shape
  pub room : ℕ
  pub inputs : Inputs

-- the registers in one cycle
pub record SplitRegisters : Type 0 where
  pub place : ℕ
  pub set : List ℕ
  pub reads : ℕ
  pub come : ℕ
  pub gathered : Word

abbrev pub split_levels : SplitInputs → ℕ → Levels
split_levels given c = levels_at given.inputs.signals c

abbrev pub split_pieces : SplitInputs → ℕ → List ℕ
split_pieces given c = pieces_asked given.wide given.narrow (beat_of given.wide (split_levels given c))

abbrev pub split_list : SplitInputs → ℕ → List Raw
split_list given c =
    split_parts given.wide given.narrow idle
    (record { levels = split_levels given c; more = given.inputs.more c; tag = given.inputs.tag c })

abbrev pub split_opens : SplitInputs → SplitRegisters → ℕ → Bool
split_opens given now c =
    is_raised (given.inputs.signals.write c)
    || (nat_lt now.reads given.room && (nat_lt 0 now.place || (nat_eq now.reads 0 || are_same now.set (split_pieces given c))))

abbrev pub part_at : List Raw → ℕ → Raw
part_at [] n = silent_raw
part_at (x ∷ xs) zero = x
part_at (x ∷ xs) (suc n) = part_at xs n

abbrev pub split_shows : SplitInputs → SplitRegisters → ℕ → Bool
split_shows given now c =
    (shows given.inputs.signals c && split_opens given now c) && nat_lt now.place (length (split_list given c))

abbrev pub split_part : SplitInputs → SplitRegisters → ℕ → Raw
split_part given now c = if split_shows given now c then part_at (split_list given c) now.place else silent_raw

abbrev pub split_takes_below : SplitInputs → SplitRegisters → ℕ → Bool
split_takes_below given now c = shows_raw (split_part given now c) && not (is_raised (given.inputs.waitrequest c))

abbrev pub split_waits : SplitInputs → SplitRegisters → ℕ → ℕ
split_waits given now c =
    one_if (not (split_opens given now c
    && (nat_eq (length (split_list given c)) 0
    || (split_takes_below given now c && nat_eq (suc now.place) (length (split_list given c))))))

abbrev pub split_takes : SplitInputs → SplitRegisters → ℕ → Bool
split_takes given now c = shows given.inputs.signals c && not (is_raised (split_waits given now c))

abbrev pub split_completes : SplitRegisters → Bool
split_completes now = nat_lt (length now.set) (suc (suc now.come))

abbrev pub split_added : SplitInputs → SplitRegisters → ℕ → Word
split_added given now c = record {
  word =
      put_piece given.narrow.word_bytes (drop now.come now.set) now.gathered.word
      (given.inputs.answers.word c % 256 ^ given.narrow.word_bytes);
  code = max now.gathered.code (given.inputs.answers.code c);
}

abbrev pub split_valid : SplitInputs → SplitRegisters → ℕ → ℕ
split_valid given now c = one_if (is_raised (given.inputs.answers.valid c) && split_completes now)

abbrev pub split_step : SplitInputs → SplitRegisters → ℕ → SplitRegisters
split_step given now c =
    record {
      place = if split_takes given now c then 0 else if split_takes_below given now c then suc now.place else now.place;
      set =
          if split_takes_below given now c && not (is_raised (split_part given now c).levels.write) then split_pieces given c
          else now.set;
      reads =
          (now.reads + one_if (split_takes given now c && not (is_raised (given.inputs.signals.write c))))
          - one_if (is_raised (split_valid given now c));
      come = if is_raised (given.inputs.answers.valid c) then (if split_completes now then 0 else suc now.come) else now.come;
      gathered =
          if is_raised (given.inputs.answers.valid c) then (if split_completes now then nothing else split_added given now c)
          else now.gathered;
    }

abbrev pub split_registers : SplitInputs → ℕ → SplitRegisters
split_registers given zero = record { place = 0; set = []; reads = 0; come = 0; gathered = nothing }
split_registers given (suc c) = split_step given (split_registers given c) c

abbrev pub split_state_with : (ℕ → SplitRegisters) → SplitState
split_state_with registers = record {
  place = λ c. (registers c).place;
  set = λ c. (registers c).set;
  reads = λ c. (registers c).reads;
  come = λ c. (registers c).come;
  gathered = λ c. (registers c).gathered;
}

abbrev pub split_state : SplitInputs → SplitState
split_state given = split_state_with (split_registers given)

abbrev pub split_above_with : SplitInputs → (ℕ → SplitRegisters) → Port
split_above_with given registers = record {
  shape = given.wide;
  commands =
      record {
        signals =
            given.inputs.signals;
        more =
            given.inputs.more;
        tag = given.inputs.tag;
        waitrequest = λ c. split_waits given (registers c) c;
      };
  answers = record {
    valid = λ c. split_valid given (registers c) c;
    word = λ c. (split_added given (registers c) c).word;
    code = λ c. (split_added given (registers c) c).code;
  };
}

abbrev pub split_above : SplitInputs → Port
split_above given = split_above_with given (split_registers given)

abbrev pub split_below_with : SplitInputs → (ℕ → SplitRegisters) → Port
split_below_with given registers = record {
  shape = given.narrow;
  commands = record {
    signals = signals_of (λ c. (split_part given (registers c) c).levels);
    more = λ c. (split_part given (registers c) c).more;
    tag = λ c. (split_part given (registers c) c).tag;
    waitrequest = given.inputs.waitrequest;
  };
  answers = given.inputs.answers;
}

abbrev pub split_below : SplitInputs → Port
split_below given = split_below_with given (split_registers given)

-- ---- a cutter of bursts

pub record CutInputs : Type 0 where
  pub reach : Reach
  pub longest : ℕ
  pub shape : Shape
  pub below : Shape
  pub inputs : Inputs

-- the registers in one cycle: the write burst under way above, and the read
pub record CutRegisters : Type 0 where
  pub burst : Burst
  pub rest : Rest

abbrev pub place_in : ℕ → Burst → Place
place_in bytes burst = record { left = burst.left; address = burst.first + burst.done * bytes }

abbrev pub cut_raw : CutInputs → ℕ → Raw
cut_raw given c = record { levels = levels_at given.inputs.signals c; more = given.inputs.more c; tag = given.inputs.tag c }

abbrev pub cut_sends : CutRegisters → Bool
cut_sends now = nat_lt 0 now.rest.left

abbrev pub cut_shows : CutInputs → CutRegisters → ℕ → Bool
cut_shows given now c = if cut_sends now then true else shows given.inputs.signals c

abbrev pub cut_beat : CutInputs → CutRegisters → ℕ → Raw
cut_beat given now c =
    if cut_sends now then read_burst_of given.reach now.rest
    else first_burst given.reach given.longest given.shape (place_in given.shape.word_bytes now.burst) (cut_raw given c)

abbrev pub cut_part : CutInputs → CutRegisters → ℕ → Raw
cut_part given now c = if cut_shows given now c then cut_beat given now c else silent_raw

abbrev pub cut_takes_below : CutInputs → CutRegisters → ℕ → Bool
cut_takes_below given now c = shows_raw (cut_part given now c) && not (is_raised (given.inputs.waitrequest c))

abbrev pub cut_waits : CutInputs → CutRegisters → ℕ → ℕ
cut_waits given now c = one_if (cut_sends now || is_raised (given.inputs.waitrequest c))

abbrev pub cut_takes : CutInputs → CutRegisters → ℕ → Bool
cut_takes given now c = shows given.inputs.signals c && not (is_raised (cut_waits given now c))

abbrev pub cut_step : CutInputs → CutRegisters → ℕ → CutRegisters
cut_step given now c =
    record {
      burst = burst_after given.shape (levels_at given.inputs.signals c) (cut_takes given now c) now.burst;
      rest =
          if cut_sends now
          then (if cut_takes_below given now c then behind_burst given.reach given.shape.word_bytes now.rest else now.rest)
          else if cut_takes given now c && not (is_raised (given.inputs.signals.write c))
          then behind_burst given.reach given.shape.word_bytes (whole_read given.shape (cut_raw given c)) else now.rest;
    }

abbrev pub cut_at_rest : CutRegisters
cut_at_rest = record { burst = idle; rest = record { left = 0; address = 0; command = silent_raw } }

abbrev pub cut_registers : CutInputs → ℕ → CutRegisters
cut_registers given zero = cut_at_rest
cut_registers given (suc c) = cut_step given (cut_registers given c) c

abbrev pub cut_state_with : CutInputs → (ℕ → CutRegisters) → CutterState
cut_state_with given registers =
    record { place = λ c. place_in given.shape.word_bytes (registers c).burst; rest = λ c. (registers c).rest }

abbrev pub cut_state : CutInputs → CutterState
cut_state given = cut_state_with given (cut_registers given)

abbrev pub cut_above_with : CutInputs → (ℕ → CutRegisters) → Port
cut_above_with given registers = record {
  shape = given.shape;
  commands =
      record {
        signals =
            given.inputs.signals;
        more =
            given.inputs.more;
        tag = given.inputs.tag;
        waitrequest = λ c. cut_waits given (registers c) c;
      };
  answers = given.inputs.answers;
}

abbrev pub cut_above : CutInputs → Port
cut_above given = cut_above_with given (cut_registers given)

abbrev pub cut_below_with : CutInputs → (ℕ → CutRegisters) → Port
cut_below_with given registers = record {
  shape = given.below;
  commands = record {
    signals = signals_of (λ c. (cut_part given (registers c) c).levels);
    more = λ c. (cut_part given (registers c) c).more;
    tag = λ c. (cut_part given (registers c) c).tag;
    waitrequest = given.inputs.waitrequest;
  };
  answers = given.inputs.answers;
}

abbrev pub cut_below : CutInputs → Port
cut_below given = cut_below_with given (cut_registers given)

-- ---- what keeps beats without a lane from an agent

pub record DropInputs : Type 0 where
  pub shape : Shape
  pub below : Shape
  pub room : ℕ
  pub inputs : Inputs

-- the registers in one cycle
pub record DropRegisters : Type 0 where
  pub kept : List Raw
  pub reads : ℕ
  pub own : Bool

abbrev pub drop_raw : DropInputs → ℕ → Raw
drop_raw given c = record { levels = levels_at given.inputs.signals c; more = given.inputs.more c; tag = given.inputs.tag c }

abbrev pub drop_stands : DropInputs → DropRegisters → ℕ → Standing
drop_stands given now c = record {
  shown = shows given.inputs.signals c;
  writes = is_raised (given.inputs.signals.write c);
  acts = any_lane given.shape (given.inputs.signals.enables c);
  more = is_raised (given.inputs.more c);
  holds = is_nonempty now.kept;
  reads = now.reads;
}

abbrev pub drop_part : DropInputs → DropRegisters → ℕ → Raw
drop_part given now c =
    if sends given.room (drop_stands given now c) then sent_beat now.kept (drop_raw given c) (drop_stands given now c).acts
    else silent_raw

abbrev pub drop_takes_below : DropInputs → DropRegisters → ℕ → Bool
drop_takes_below given now c = shows_raw (drop_part given now c) && not (is_raised (given.inputs.waitrequest c))

abbrev pub drop_waits : DropInputs → DropRegisters → ℕ → ℕ
drop_waits given now c = one_if (not (accepted (drop_stands given now c) (drop_takes_below given now c)))

abbrev pub drop_step : DropInputs → DropRegisters → ℕ → DropRegisters
drop_step given now c =
    record {
      kept =
          if keeps (drop_stands given now c) (drop_takes_below given now c) then drop_raw given c ∷ []
          else if drop_takes_below given now c then [] else now.kept;
      reads =
          (now.reads + one_if (drop_takes_below given now c && not (is_raised (drop_part given now c).levels.write)))
          - one_if (is_raised (given.inputs.answers.valid c));
      own = owes_itself (drop_stands given now c) (drop_takes_below given now c);
    }

abbrev pub drop_registers : DropInputs → ℕ → DropRegisters
drop_registers given zero = record { kept = []; reads = 0; own = false }
drop_registers given (suc c) = drop_step given (drop_registers given c) c

abbrev pub drop_state_with : (ℕ → DropRegisters) → DropState
drop_state_with registers =
    record { kept = λ c. (registers c).kept; reads = λ c. (registers c).reads; own = λ c. (registers c).own }

abbrev pub drop_state : DropInputs → DropState
drop_state given = drop_state_with (drop_registers given)

abbrev pub drop_above_with : DropInputs → (ℕ → DropRegisters) → Port
drop_above_with given registers = record {
  shape = given.shape;
  commands =
      record {
        signals =
            given.inputs.signals;
        more =
            given.inputs.more;
        tag = given.inputs.tag;
        waitrequest = λ c. drop_waits given (registers c) c;
      };
  answers = record {
    valid = λ c. one_if ((registers c).own || is_raised (given.inputs.answers.valid c));
    word = λ c. if (registers c).own then 0 else given.inputs.answers.word c;
    code = λ c. if (registers c).own then 0 else given.inputs.answers.code c;
  };
}

abbrev pub drop_above : DropInputs → Port
drop_above given = drop_above_with given (drop_registers given)

abbrev pub drop_below_with : DropInputs → (ℕ → DropRegisters) → Port
drop_below_with given registers = record {
  shape = given.below;
  commands = record {
    signals = signals_of (λ c. (drop_part given (registers c) c).levels);
    more = λ c. (drop_part given (registers c) c).more;
    tag = λ c. (drop_part given (registers c) c).tag;
    waitrequest = given.inputs.waitrequest;
  };
  answers = given.inputs.answers;
}

abbrev pub drop_below : DropInputs → Port
drop_below given = drop_below_with given (drop_registers given)
