-- The machine that keeps beats without an enabled lane from an agent without byte enables. Commands have one beat.
use Rattle.std.specs.Prelude.{◌≡◌, ◌<◌, ℕ, suc, ◌+◌, ◌-◌, Bool, true, false, not, ◌&&◌, ◌||◌, List, [], ◌∷◌, if◌then◌else◌, nat_eq, nat_lt}
use Rattle.std.specs.List.{list_any}
use Rattle.histories.specs.History.{is_raised, one_if, numbers}
use Rattle.memory_runs.specs.Views.{Shape}
use Rattle.memory_runs.specs.Operations.{is_enabled}
use Rattle.memory_runs.specs.Commands.{shows}
use Rattle.memory_machines.specs.Link.{Target, Port, takes, is_nonempty}
use Rattle.memory_machines.specs.Machines.{Raw, raw_at}
use Rattle.memory_links.specs.Selects.{takes_read}
use Rattle.memory_links.specs.Links.{LinkForm}

abbrev pub any_lane : Shape → ℕ → Bool
any_lane shape enables = list_any (is_enabled enables) (numbers 0 shape.word_bytes)

-- what stands above in a cycle, with the registers as it begins
pub record Standing : Type 0 where
  pub shown : Bool
  pub writes : Bool
  pub acts : Bool  -- a lane is enabled
  pub more : Bool
  pub holds : Bool  -- a write beat is kept
  pub reads : ℕ  -- words owed below

-- a kept beat goes on once the next beat with a lane stands above, or the end of its command. Another beat goes straight through,
-- but for a write that another may follow
abbrev pub sends : ℕ → Standing → Bool
sends room now =
    now.shown
    && (if now.holds then now.acts || not now.more
    else now.acts && (if now.writes then not now.more else nat_lt now.reads room))

-- a beat without a lane is swallowed: a read once no word is owed below, and the end of a command with the kept beat
abbrev pub swallows : Standing → Bool → Bool
swallows now taken = (now.writes || nat_eq now.reads 0) && (not (now.holds && not now.more) || taken)

-- `taken`: a beat is taken below in the cycle
abbrev pub accepted : Standing → Bool → Bool
accepted now taken =
    now.shown
    && (if now.acts then (if now.writes && now.more then not now.holds || taken else not now.holds && taken)
    else swallows now taken)

-- a write beat is kept where another may follow it
abbrev pub keeps : Standing → Bool → Bool
keeps now taken = accepted now taken && ((now.writes && now.more) && now.acts)

-- a read without a lane is given its word in the next cycle
abbrev pub owes_itself : Standing → Bool → Bool
owes_itself now taken = accepted now taken && (not now.writes && not now.acts)

-- a kept write beat as it is shown below: joined to the next one only where one with a lane follows
abbrev pub released : Raw → Bool → Raw
released raw follows = record {
  levels =
      record {
        read =
            0;
        write =
            1;
        address = raw.levels.address;
        word = raw.levels.word;
        enables = raw.levels.enables;
        count = raw.levels.count;
      };
  more = one_if follows;
  tag = raw.tag;
}

-- the kept beat, or what stands above
abbrev pub sent_beat : List Raw → Raw → Bool → Raw
sent_beat [] raw follows = raw
sent_beat (kept ∷ later) raw follows = released kept follows

-- the registers, as each cycle begins
pub record DropState : Type 0 where
  pub kept : ℕ → List Raw  -- a write beat, or none
  pub reads : ℕ → ℕ  -- words owed below
  pub own : ℕ → Bool  -- a read without a lane was accepted in the cycle before

abbrev pub standing_at : Port → DropState → ℕ → Standing
standing_at up state c = record {
  shown = shows up.commands.signals c;
  writes = is_raised (up.commands.write c);
  acts = any_lane up.shape (up.commands.enables c);
  more = is_raised (up.commands.more c);
  holds = is_nonempty (state.kept c);
  reads = state.reads c;
}

pub record RunsAsDrop (room : ℕ) (up down : Port) (state : DropState) : Type 0 where
  -- commands
  pub shown : (c : ℕ) → shows down.commands.signals c ≡ sends room (standing_at up state c)
  pub beat : (c : ℕ) → shows down.commands.signals c ≡ true
      → raw_at down c ≡ sent_beat (state.kept c) (raw_at up c) (standing_at up state c).acts
  pub accepts : (c : ℕ) → takes up c ≡ accepted (standing_at up state c) (takes down c)
  pub kept_begins : state.kept 0 ≡ []
  pub kept_next : (c : ℕ)
      → state.kept (suc c)
      ≡ (if keeps (standing_at up state c) (takes down c) then raw_at up c ∷ [] else if takes down c then [] else state.kept c)
  pub reads_begin : state.reads 0 ≡ 0
  -- a word that isn't owed leaves the count at 0
  pub reads_next : (c : ℕ)
      → state.reads (suc c) ≡ (state.reads c + one_if (takes_read down c)) - one_if (is_raised (down.answers.valid c))
  pub own_begins : state.own 0 ≡ false
  pub own_next : (c : ℕ) → state.own (suc c) ≡ owes_itself (standing_at up state c) (takes down c)
  -- answers: its own words are free, with code 0
  pub valid : (c : ℕ) → is_raised (up.answers.valid c) ≡ (state.own c || is_raised (down.answers.valid c))
  pub word : (c : ℕ) → state.own c ≡ false → up.answers.word c ≡ down.answers.word c
  pub code : (c : ℕ) → up.answers.code c ≡ (if state.own c then 0 else down.answers.code c)

-- words are those of the agent, which has no byte enables, and addresses are the same below. Commands have one beat on both sides
pub record IsDropPlan (target : Target) (up down : Shape) : Type 0 where
  pub some : 0 < up.word_bytes
  pub same : down.word_bytes ≡ up.word_bytes
  pub units : down.unit_bytes ≡ up.unit_bytes
  pub agent : target.shape.word_bytes ≡ up.word_bytes
  pub enables : target.shape.has_enables ≡ false
  pub one_beat : up.burst_bits ≡ 1

-- it holds a write, its rank is 1 while a word is owed below, and each word that holds an answer is a word from below
abbrev pub drop_form : Target → LinkForm
drop_form target =
    record { target = target; hold = 1; paces = record { largest = 1; hold = 1 } ∷ []; word_for_word = true; makes_lanes = true }
