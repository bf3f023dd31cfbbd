-- What a cycle shows, presents and accepts at a side that carries commands.
use Rattle.std.specs.Prelude.{◌≡◌, ℕ, zero, suc, ◌+◌, ◌-◌, ◌*◌, ◌%◌, ◌^◌, Bool, true, false, not, ◌&&◌, ◌||◌, List, [], ◌∷◌, length, map, if◌then◌else◌, nat_eq, filter, flat_map}
use Rattle.histories.specs.History.{before, only_if, is_raised, numbers, stands_on, is_first, first_shown, all_accepted}
use Rattle.memory_runs.specs.Views.{Signals, Levels, levels_at, Shape, AgentSide, AgentView, Kind}
use Rattle.memory_runs.specs.Views.Kind.{Reads, Writes}
use Rattle.memory_runs.specs.Operations.{Beat}

abbrev pub shows : Signals → ℕ → Bool
shows signals cycle = is_raised (signals.read cycle) || is_raised (signals.write cycle)

-- the longest burst, in beats, by the width of burstcount
abbrev pub longest_burst : ℕ → ℕ
longest_burst bits = 2 ^ (bits - 1)

-- where there is waitrequest
abbrev pub accepts_by : Signals → (ℕ → ℕ) → ℕ → Bool
accepts_by signals wait cycle = shows signals cycle && not (is_raised (wait cycle))

abbrev pub AcceptsOnlyShown : Signals → (ℕ → Bool) → Type 0
AcceptsOnlyShown signals accepts = (c : ℕ) → accepts c ≡ true → shows signals c ≡ true

-- a beat is shown and stands on
abbrev pub is_held : Signals → (ℕ → Bool) → ℕ → Bool
is_held signals accepts cycle = stands_on (shows signals) accepts cycle

-- the first cycle in which the shown beat stands
abbrev pub presents : Signals → (ℕ → Bool) → ℕ → Bool
presents signals accepts cycle = is_first (shows signals) accepts cycle

abbrev pub wait_time : AgentSide → AgentView → ℕ → ℕ
wait_time side view cycle = if is_raised (view.write cycle) then side.write_wait else side.read_wait

abbrev pub stood_after : AgentSide → AgentView → ℕ → ℕ → ℕ
stood_after side view cycle stood =
    if shows view.signals cycle && not (nat_eq stood (wait_time side view cycle)) then stood + 1 else 0

-- for how many cycles before this one the beat has stood, at fixed wait states
abbrev pub stood_before : AgentSide → AgentView → ℕ → ℕ
stood_before side view zero = 0
stood_before side view (suc cycle) = stood_after side view cycle (stood_before side view cycle)

abbrev pub agent_accepts : AgentSide → AgentView → ℕ → Bool
agent_accepts side view cycle =
    if side.has_waitrequest then accepts_by view.signals view.waitrequest cycle
    else shows view.signals cycle && nat_eq (stood_before side view cycle) (wait_time side view cycle)

-- the write burst under way: how many beats aren't accepted yet, how many are, and the byte address of the first
pub record Burst : Type 0 where
  pub left : ℕ
  pub done : ℕ
  pub first : ℕ

-- an address in bytes, of a whole word
abbrev pub byte_address : Shape → ℕ → ℕ
byte_address shape address = address * shape.unit_bytes - (address * shape.unit_bytes) % shape.word_bytes

abbrev pub next_burst : Shape → Levels → Burst → Burst
next_burst shape levels burst =
    if nat_eq burst.left 0
    then record { left = levels.count - 1; done = 1; first = byte_address shape levels.address }
    else record { left = burst.left - 1; done = burst.done + 1; first = burst.first }

abbrev pub burst_after : Shape → Levels → Bool → Burst → Burst
burst_after shape levels accepts burst =
    if accepts && is_raised levels.write then next_burst shape levels burst else burst

abbrev pub burst_before : Shape → Signals → (ℕ → Bool) → ℕ → Burst
burst_before shape signals accepts zero = record { left = 0; done = 0; first = 0 }
burst_before shape signals accepts (suc cycle) =
    burst_after shape (levels_at signals cycle) (accepts cycle) (burst_before shape signals accepts cycle)

-- a write beat, or a read command, which counts as `count` read beats
pub record Transfer : Type 0 where
  pub kind : Kind
  pub first : ℕ  -- byte address of the first beat of its command
  pub begins : Bool  -- it is the first of its command
  pub ends : Bool  -- it is the last of its command
  pub beats : List Beat

abbrev pub write_transfer : Shape → Levels → Burst → Transfer
write_transfer shape levels burst =
    let begins = nat_eq burst.left 0 in
    let first = if begins then byte_address shape levels.address else burst.first in
    let done = if begins then 0 else burst.done in
    record {
      kind = Writes;
      first = first;
      begins = begins;
      ends = if begins then nat_eq levels.count 1 else nat_eq burst.left 1;
      beats = record {
        kind = Writes;
        address = first + done * shape.word_bytes;
        word = levels.word;
        enables = levels.enables;
      } ∷ [];
    }

abbrev pub read_beat : Shape → Levels → ℕ → Beat
read_beat shape levels number = record {
  kind = Reads;
  address = byte_address shape levels.address + number * shape.word_bytes;
  word = 0;
  enables = levels.enables;
}

abbrev pub read_transfer : Shape → Levels → Transfer
read_transfer shape levels = record {
  kind = Reads;
  first = byte_address shape levels.address;
  begins = true;
  ends = true;
  beats = map (read_beat shape levels) (numbers 0 levels.count);
}

abbrev pub transfer_of : Shape → Levels → Burst → Transfer
transfer_of shape levels burst =
    if is_raised levels.write then write_transfer shape levels burst else read_transfer shape levels

-- what the side shows in a cycle
abbrev pub transfer_at : Shape → Signals → (ℕ → Bool) → ℕ → Transfer
transfer_at shape signals accepts cycle =
    transfer_of shape (levels_at signals cycle) (burst_before shape signals accepts cycle)

abbrev pub accepted_in : Shape → Signals → (ℕ → Bool) → ℕ → List Transfer
accepted_in shape signals accepts cycle = only_if (accepts cycle) (transfer_at shape signals accepts cycle)

-- all that was presented, or accepted, in the cycles before this one
abbrev pub presented : Shape → Signals → (ℕ → Bool) → ℕ → List Transfer
presented shape signals accepts cycle = first_shown (shows signals) accepts (transfer_at shape signals accepts) cycle

abbrev pub accepted : Shape → Signals → (ℕ → Bool) → ℕ → List Transfer
accepted shape signals accepts cycle = all_accepted accepts (transfer_at shape signals accepts) cycle

abbrev pub is_of_reads : Kind → Bool
is_of_reads Reads = true
is_of_reads Writes = false

abbrev pub reads_among : List Transfer → List Transfer
reads_among transfers = filter (λ t. is_of_reads t.kind) transfers

-- the read beats, one for each word that is owed
abbrev pub read_beats : List Transfer → List Beat
read_beats transfers = flat_map (λ t. t.beats) (reads_among transfers)

-- the words answered before a cycle
abbrev pub words_before : (ℕ → ℕ) → ℕ → ℕ
words_before valid cycle = length (before (λ c. only_if (is_raised (valid c)) c) cycle)
