-- The nets of a command and of an answer, and what they show in a cycle and in a run.
use Rattle.std.specs.Prelude.{◌≡◌, ℕ, List, [], ◌∷◌}
use Rattle.netlist.specs.Nets.{NetValue}
use Rattle.netlist.specs.Netlists.{Netlist, IsNet}
use Rattle.netlist.specs.Runs.{Cycle, Run}
use Rattle.memory_runs.specs.Views.{Shape}
use Rattle.memory_machines.specs.Paths.{CommandView, AnswerView}
use Rattle.memory_machines.specs.Link.{Port}
use Rattle.memory_machines.specs.Machines.{Raw, port_of}
use Rattle.net_parts.specs.Nets.{IsBit, IsNetOfWidth}
use Rattle.command_nets.specs.declared.nets.CommandNets.{CommandNets}
use Rattle.command_nets.specs.declared.nets.AnswerNets.{AnswerNets}

-- the nets of a command as a group
abbrev pub group_of : CommandNets → List NetValue
group_of nets = nets.read ∷ nets.write ∷ nets.address ∷ nets.word ∷ nets.enables ∷ nets.count ∷ nets.more ∷ nets.tag ∷ []

-- the widths of the nets of a command that don't always have one bit
pub record Widths : Type 0 where
  pub address : ℕ
  pub word : ℕ
  pub enables : ℕ
  pub count : ℕ
  pub tag : ℕ

abbrev pub widths_of : CommandNets → Widths
widths_of nets =
    record {
      address =
          nets.address.width;
      word = nets.word.width;
      enables = nets.enables.width;
      count = nets.count.width;
      tag = nets.tag.width;
    }

-- the nets of a command are nets of this netlist
pub record AreCommandNets (netlist : Netlist) (nets : CommandNets) : Type 0 where
  pub read : IsBit netlist nets.read
  pub write : IsBit netlist nets.write
  pub address : IsNet netlist nets.address
  pub word : IsNet netlist nets.word
  pub enables : IsNet netlist nets.enables
  pub count : IsNet netlist nets.count
  pub more : IsBit netlist nets.more
  pub tag : IsNet netlist nets.tag

-- the nets of an answer with words of so many bits are nets of this netlist
pub record AreAnswerNets (netlist : Netlist) (nets : AnswerNets) (bits : ℕ) : Type 0 where
  pub valid : IsBit netlist nets.valid
  pub word : IsNetOfWidth netlist nets.word bits
  pub code : IsNetOfWidth netlist nets.code 2

-- the beat on these nets in a cycle
abbrev pub raw_in : Cycle → CommandNets → Raw
raw_in cycle nets = record {
  levels = record {
    read = cycle.net nets.read.number;
    write = cycle.net nets.write.number;
    address = cycle.net nets.address.number;
    word = cycle.net nets.word.number;
    enables = cycle.net nets.enables.number;
    count = cycle.net nets.count.number;
  };
  more = cycle.net nets.more.number;
  tag = cycle.net nets.tag.number;
}

-- what these nets show in a run; `wait` is the net of waitrequest
abbrev pub command_view : Run → CommandNets → NetValue → CommandView
command_view run nets wait = record {
  signals = record {
    read = λ c. run.net c nets.read.number;
    write = λ c. run.net c nets.write.number;
    address = λ c. run.net c nets.address.number;
    word = λ c. run.net c nets.word.number;
    enables = λ c. run.net c nets.enables.number;
    count = λ c. run.net c nets.count.number;
  };
  more = λ c. run.net c nets.more.number;
  tag = λ c. run.net c nets.tag.number;
  waitrequest = λ c. run.net c wait.number;
}

abbrev pub answer_view : Run → AnswerNets → AnswerView
answer_view run nets = record {
  valid = λ c. run.net c nets.valid.number;
  word = λ c. run.net c nets.word.number;
  code = λ c. run.net c nets.code.number;
}

-- the side of a part that has this shape and these nets
abbrev pub port_in : Shape → Run → CommandNets → NetValue → AnswerNets → Port
port_in shape run nets wait answer = port_of shape (command_view run nets wait) (answer_view run answer)

-- these nets show the same in both cycles
abbrev pub ShowSame : CommandNets → Cycle → Cycle → Type 0
ShowSame nets one other = raw_in one nets ≡ raw_in other nets
