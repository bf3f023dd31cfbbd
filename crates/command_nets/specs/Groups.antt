-- Registers and choices of all nets of a command at once, and registers for an answer.
use Rattle.std.proofs.Common.{◌≡◌, ℕ, zero, suc, ◌+◌, ◌<◌, Bool, true, false, ◌||◌, ◌==◌, List, [], ◌∷◌, drop, if◌then◌else◌, refl, ap, inl, inr, arith}
use Rattle.std.proofs.lemmas.Bool.{lt-ltb, ne_eqb}
use Rattle.histories.specs.History.{is_raised}
use Rattle.netlist.specs.Nets.{NetValue}
use Rattle.netlist.specs.Netlists.{Netlist, IsWaiting}
use Rattle.netlist.specs.Runs.{Cycle, Run, cycle_of, IsRun}
use Rattle.netlist.specs.Longer.{Extends}
use Rattle.memory_machines.specs.Machines.{Raw}
use Rattle.net_parts.specs.Laws.{net_lasts}
use Rattle.net_parts.specs.Groups.{AreNets, AreWaiting, InGroup, group_widths, values_of}
use Rattle.command_nets.specs.declared.nets.CommandNets.{CommandNets}
use Rattle.command_nets.specs.declared.nets.AnswerNets.{AnswerNets}
use Rattle.command_nets.specs.Nets.{group_of, widths_of, AreCommandNets, AreAnswerNets, raw_in}

-- no beat, and all signals low
abbrev pub nothing_shown : Raw
nothing_shown =
    record { levels = record { read = 0; write = 0; address = 0; word = 0; enables = 0; count = 0 }; more = 0; tag = 0 }

-- the same signals, but neither a read nor a write
abbrev pub hidden : Raw → Raw
hidden raw =
    record {
      levels =
          record {
            read =
                0;
            write =
                0;
            address = raw.levels.address;
            word = raw.levels.word;
            enables = raw.levels.enables;
            count = raw.levels.count;
          };
      more =
          raw.more;
      tag = raw.tag;
    }

-- a beat is shown
abbrev pub is_shown : Raw → Bool
is_shown raw = is_raised raw.levels.read || is_raised raw.levels.write

-- the nets of two commands have the same widths
abbrev pub HaveSameWidths : CommandNets → CommandNets → Type 0
HaveSameWidths one other = group_widths (group_of one) ≡ group_widths (group_of other)

-- the number is that of a net of the command
abbrev pub IsOfCommand : CommandNets → ℕ → Type 0
IsOfCommand nets = InGroup (group_of nets)

-- in each run they begin low
abbrev pub StartsEmpty : Netlist → CommandNets → Type 0
StartsEmpty netlist nets =
    (run : Run) (cycles : ℕ) → IsRun netlist run cycles → 0 < cycles → raw_in (cycle_of run 0) nets ≡ nothing_shown

-- in each run they show what the other nets showed in the cycle before
abbrev pub TakeNextCommand : Netlist → CommandNets → CommandNets → Type 0
TakeNextCommand netlist nets next =
    (run : Run) (cycles : ℕ) → IsRun netlist run cycles → (c : ℕ) → c + 1 < cycles
    → raw_in (cycle_of run (c + 1)) nets ≡ raw_in (cycle_of run c) next

-- in each run the net begins at 0, and shows what another showed in the cycle before
pub record IsDelayed (netlist : Netlist) (from net : NetValue) : Type 0 where
  pub starts : (run : Run) (cycles : ℕ) → IsRun netlist run cycles → 0 < cycles → run.net 0 net.number ≡ 0
  pub next : (run : Run) (cycles : ℕ) → IsRun netlist run cycles → (c : ℕ) → c + 1 < cycles
      → run.net (c + 1) net.number ≡ run.net c from.number

-- the same for an answer
pub record IsDelayedAnswer (netlist : Netlist) (from answer : AnswerNets) : Type 0 where
  pub valid : IsDelayed netlist from.valid answer.valid
  pub word : IsDelayed netlist from.word answer.word
  pub code : IsDelayed netlist from.code answer.code

-- ---- laws. No contract reads a proof of these

abbrev pub first_value : List ℕ → ℕ
first_value [] = 0
first_value (value ∷ values) = value

-- the beat with these values
abbrev pub raw_of : List ℕ → Raw
raw_of values = record {
  levels = record {
    read = first_value values;
    write = first_value (drop 1 values);
    address = first_value (drop 2 values);
    word = first_value (drop 3 values);
    enables = first_value (drop 4 values);
    count = first_value (drop 5 values);
  };
  more = first_value (drop 6 values);
  tag = first_value (drop 7 values);
}

pub command_lasts : (a b : Netlist) (nets : CommandNets) → Extends a b → AreCommandNets a nets → AreCommandNets b nets
command_lasts a b nets e h = record {
  read = net_lasts a b nets.read 1 e h.read;
  write = net_lasts a b nets.write 1 e h.write;
  address = e.nets nets.address.number nets.address.width h.address;
  word = e.nets nets.word.number nets.word.width h.word;
  enables = e.nets nets.enables.number nets.enables.width h.enables;
  count = e.nets nets.count.number nets.count.width h.count;
  more = net_lasts a b nets.more 1 e h.more;
  tag = e.nets nets.tag.number nets.tag.width h.tag;
}

pub answer_lasts : (a b : Netlist) (nets : AnswerNets) (bits : ℕ) → Extends a b → AreAnswerNets a nets bits
    → AreAnswerNets b nets bits
answer_lasts a b nets bits e h =
    record {
      valid =
          net_lasts a b nets.valid 1 e h.valid;
      word =
          net_lasts a b nets.word bits e h.word;
      code = net_lasts a b nets.code 2 e h.code;
    }

pub waiting_lasts : (a b : Netlist) (nets : CommandNets) → ((n : ℕ) → IsOfCommand nets n → IsWaiting a n → IsWaiting b n)
    → AreWaiting a (group_of nets) → AreWaiting b (group_of nets)
waiting_lasts a b nets wait h = record { start = h.start; numbers = h.numbers; wait = λ n o. wait n o (h.wait n o) }

delay_lasts : (a b : Netlist) (from net : NetValue) → Extends a b → IsDelayed a from net → IsDelayed b from net
delay_lasts a b from net e h =
    record {
      starts =
          λ run cycles r. h.starts run cycles (e.runs run cycles r);
      next = λ run cycles r. h.next run cycles (e.runs run cycles r);
    }

pub delayed_lasts : (a b : Netlist) (from answer : AnswerNets) → Extends a b → IsDelayedAnswer a from answer
    → IsDelayedAnswer b from answer
delayed_lasts a b from answer e h =
    record {
      valid =
          delay_lasts a b from.valid answer.valid e h.valid;
      word =
          delay_lasts a b from.word answer.word e h.word;
      code = delay_lasts a b from.code answer.code e h.code;
    }

-- the nets of a command as those of a group
pub nets_of_command : (netlist : Netlist) (nets : CommandNets) → AreCommandNets netlist nets → AreNets netlist (group_of nets)
nets_of_command netlist nets h =
    (h.read.is_net, (h.write.is_net, (h.address, (h.word, (h.enables, (h.count, (h.more.is_net, (h.tag, tt))))))))

pub command_of_nets : (netlist : Netlist) (nets like : CommandNets) → AreNets netlist (group_of nets) → HaveSameWidths nets like
    → like.read.width ≡ 1 → like.write.width ≡ 1 → like.more.width ≡ 1 → AreCommandNets netlist nets
command_of_nets netlist nets like h same r w m = record {
  read = record { is_net = h.0; has_width = cc };
  write = record { is_net = h.1.0; has_width = cc };
  address = h.1.1.0;
  word = h.1.1.1.0;
  enables = h.1.1.1.1.0;
  count = h.1.1.1.1.1.0;
  more = record { is_net = h.1.1.1.1.1.1.0; has_width = cc };
  tag = h.1.1.1.1.1.1.1.0;
}

pub widths_alike : (one other : CommandNets) → HaveSameWidths one other → widths_of one ≡ widths_of other
widths_alike one other same = cc

-- a choice by a bit that isn't 0 is one by a bit that is high
pub chosen_raised : {X : Type 0} (bit : ℕ) (x y : X) → (if bit == 0 then y else x) ≡ (if is_raised bit then x else y)
chosen_raised zero x y = refl
chosen_raised (suc bit) x y =
    let high : is_raised (suc bit) ≡ true = lt-ltb 0 (suc bit) (omega arith) in
    let some : (suc bit == 0) ≡ false = ne_eqb (suc bit) 0 (omega arith) in rw (high, some) refl

pub raw_chosen : (bit : Bool) (cycle : Cycle) (nets one other : CommandNets) →
    values_of cycle (group_of nets) ≡ (if bit then values_of cycle (group_of other) else values_of cycle (group_of one))
    → raw_in cycle nets ≡ (if bit then raw_in cycle other else raw_in cycle one)
raw_chosen true cycle nets one other e = ap raw_of e
raw_chosen false cycle nets one other e = ap raw_of e

-- nets that are the same number by number show the same
pub same_shown : (nets : CommandNets) (one other : Cycle) → ((n : ℕ) → IsOfCommand nets n → one.net n ≡ other.net n)
    → raw_in one nets ≡ raw_in other nets
same_shown nets one other h =
    let e0 = h nets.read.number (inl refl) in
    let e1 = h nets.write.number (inr (inl refl)) in
    let e2 = h nets.address.number (inr (inr (inl refl))) in
    let e3 = h nets.word.number (inr (inr (inr (inl refl)))) in
    let e4 = h nets.enables.number (inr (inr (inr (inr (inl refl))))) in
    let e5 = h nets.count.number (inr (inr (inr (inr (inr (inl refl)))))) in
    let e6 = h nets.more.number (inr (inr (inr (inr (inr (inr (inl refl))))))) in
    let e7 = h nets.tag.number (inr (inr (inr (inr (inr (inr (inr (inl refl)))))))) in
    rw (e0, e1, e2, e3, e4, e5, e6, e7) refl

-- a beat of which read and write are shown while a bit is high
pub raw_while : (t : Bool) (x raw : Raw) → x.levels.read ≡ (if t then raw.levels.read else 0)
    → x.levels.write ≡ (if t then raw.levels.write else 0) →
    x.levels.address ≡ raw.levels.address → x.levels.word ≡ raw.levels.word → x.levels.enables ≡ raw.levels.enables
    → x.levels.count ≡ raw.levels.count → x.more ≡ raw.more → x.tag ≡ raw.tag →
    x ≡ (if t then raw else hidden raw)
raw_while true x raw e0 e1 e2 e3 e4 e5 e6 e7 = rw (e0, e1, e2, e3, e4, e5, e6, e7) refl
raw_while false x raw e0 e1 e2 e3 e4 e5 e6 e7 = rw (e0, e1, e2, e3, e4, e5, e6, e7) refl
