-- A splitter of wide words: its sides, its machine in a run, and what its two calls leave in a netlist.
use Rattle.std.specs.Prelude.{◌≡◌, ℕ, ◌*◌, ◌^◌, ◌<◌, ◌≤◌, ◌&&◌, not}
use Rattle.histories.specs.History.{is_raised}
use Rattle.netlist.specs.Nets.{NetValue}
use Rattle.netlist.specs.Netlists.{Netlist, IsWaiting}
use Rattle.netlist.specs.Runs.{Always}
use Rattle.netlist.specs.Longer.{Extends}
use Rattle.net_parts.specs.Groups.{StartAllLow, TakeAllNext}
use Rattle.memory_machines.specs.Link.{Target, Port}
use Rattle.memory_machines.specs.Machines.{MaySplit}
use Rattle.command_nets.specs.declared.nets.CommandNets.{CommandNets}
use Rattle.command_nets.specs.declared.nets.AnswerNets.{AnswerNets}
use Rattle.command_nets.specs.Nets.{Widths, AreCommandNets, raw_in}
use Rattle.command_nets.specs.Groups.{is_shown, command_lasts}
use Rattle.link_core.specs.Form.{Form}
use Rattle.mm_split.specs.declared.split.Split.{Split}
use Rattle.mm_split.specs.declared.split.SplitKept.{SplitKept}
use Rattle.mm_split.specs.declared.sizes.Sizes.{Sizes}
use Rattle.mm_split.specs.declared.registers.SplitRegisters.{SplitRegisters}
use Rattle.mm_split.specs.declared.answer.Coming.{Coming}
use Rattle.mm_split.specs.declared.answer.Taken.{Taken}
use Rattle.mm_split.specs.Sizes.{AreSplitSizes, AreSizes}
use Rattle.mm_split.specs.Registers.{group_of, low_group_of, owns, AreRegisterNets, AreRegisters, register_nets_last, registers_last}
use Rattle.mm_split.specs.Told.{ArePartNets, IsPart, part_lasts}
use Rattle.mm_split.specs.Comings.{is_done, TellsComing, NextAre}
use Rattle.memory_links.specs.Splits.{SplitState, RunsAsSplit, split_form}

-- wide words of the splitter's size, whose bytes are addressed, and narrow ones of the agent's size
pub record IsSplitForm (split : Split) (form : Form) : Type 0 where
  pub count : ℕ
  pub plan : MaySplit form.link.target form.up form.down count
  pub wide : form.up.word_bytes ≡ split.wide_bytes
  pub narrow : form.down.word_bytes ≡ split.narrow_bytes
  pub bytes : form.up.unit_bytes ≡ 1
  pub is : form.link ≡ split_form form.link.target
  pub some : 1 ≤ split.reads

-- what it does: the machine of a splitter with room for so many reads
pub record SplitRuns (split : Split) (target : Target) (up down : Port) : Type 0 where
  pub count : ℕ
  pub plan : MaySplit target up.shape down.shape count
  pub state : SplitState
  pub some : 0 < split.reads
  pub run : RunsAsSplit split.reads up down state

-- the widths of a command of wide words, each byte of which has its address
pub record TakesWide (split : Split) (widths : Widths) : Type 0 where
  pub sizes : AreSplitSizes split
  pub word : widths.word ≡ split.wide_bytes * 8
  pub enables : widths.enables ≡ split.wide_bytes
  pub address : split.wide_bytes ≤ 2 ^ widths.address

abbrev pub narrow_widths : Split → Widths → Widths
narrow_widths split widths =
    record {
      address =
          widths.address;
      word = split.narrow_bytes * 8;
      enables = split.narrow_bytes;
      count = widths.count;
      tag = widths.tag;
    }

-- the numbers are those of the splitter
pub record FitSplit (split : Split) (sizes : Sizes) : Type 0 where
  pub are : AreSizes sizes
  pub wide : 2 ^ sizes.wide_bits ≡ split.wide_bytes
  pub narrow : sizes.narrow_bytes ≡ split.narrow_bytes
  pub room : sizes.room ≡ split.reads

-- between the calls: the registers wait
pub record SplitKeeps (split : Split) (kept : SplitKept) (netlist : Netlist) : Type 0 where
  pub sizes : FitSplit split kept.sizes
  pub from : AreCommandNets netlist kept.from
  pub part : ArePartNets netlist kept.sizes kept.part
  pub registers : AreRegisters netlist kept.sizes kept.registers

-- after the first call: the beat below is the next part of the beat above, and all registers but the mask of pieces begin at 0
pub record SplitCommand (split : Split) (from to : CommandNets) (kept : SplitKept) (netlist : Netlist) : Type 0 where
  pub sizes : FitSplit split kept.sizes
  pub from_is : from ≡ kept.from
  pub to_is : to ≡ kept.part.below
  pub nets : AreRegisterNets netlist kept.sizes kept.registers
  pub starts : StartAllLow netlist (low_group_of kept.registers)
  pub parts : Always netlist (IsPart kept.sizes kept.from kept.registers kept.part)

-- after the second call: what is taken, the word that stands above, and what the registers take
pub record SplitAnswer (split : Split) (kept : SplitKept) (wait : NetValue) (answer : AnswerNets) (up : NetValue)
    (back : AnswerNets) (netlist : Netlist) : Type 0 where
  pub taken : Taken
  pub coming : Coming
  pub next : SplitRegisters
  pub fits : Always netlist (λ cycle. cycle.net answer.word.number < 2 ^ (kept.sizes.narrow_bytes * 8))
  pub below : Always netlist (λ cycle. is_raised (cycle.net taken.below.number)
      ≡ (is_shown (raw_in cycle kept.part.below) && not (is_raised (cycle.net wait.number))))
  pub above : Always netlist (λ cycle. is_raised (cycle.net taken.above.number)
      ≡ (is_shown (raw_in cycle kept.from) && is_done cycle kept.part taken.below))
  pub waits : Always netlist (λ cycle. is_raised (cycle.net up.number) ≡ not (is_done cycle kept.part taken.below))
  pub tells : Always netlist (TellsComing kept.sizes kept.registers answer coming)
  pub valid : Always netlist (λ cycle. is_raised (cycle.net back.valid.number)
      ≡ (is_raised (cycle.net answer.valid.number) && is_raised (cycle.net coming.completes.number)))
  pub word_is : back.word ≡ coming.word
  pub code_is : back.code ≡ coming.code
  pub nexts : Always netlist (NextAre kept.sizes kept.registers kept.from kept.part taken coming answer.valid back.valid next)
  pub moves : TakeAllNext netlist (group_of kept.registers) (group_of next)

-- ---- what stands lasts. No contract reads these proofs; the law of the splitter cites them

pub split_keeps_lasts : (split : Split) (kept : SplitKept) (old new : Netlist) → SplitKeeps split kept old → Extends old new
    → ((n : ℕ) → owns kept.registers n → IsWaiting old n → IsWaiting new n) → SplitKeeps split kept new
split_keeps_lasts split kept old new h e w = record {
  sizes = h.sizes;
  from = command_lasts old new kept.from e h.from;
  part = part_lasts old new kept.sizes kept.part e h.part;
  registers = registers_last old new kept.sizes kept.registers e w h.registers;
}

pub split_command_lasts : (split : Split) (from to : CommandNets) (kept : SplitKept) (old new : Netlist)
    → SplitCommand split from to kept old → Extends old new → SplitCommand split from to kept new
split_command_lasts split from to kept old new h e = record {
  sizes = h.sizes;
  from_is = h.from_is;
  to_is = h.to_is;
  nets = register_nets_last old new kept.sizes kept.registers e h.nets;
  starts = λ run cycles r. h.starts run cycles (e.runs run cycles r);
  parts = λ cycle v. h.parts cycle (e.valuations cycle v);
}

pub split_answer_lasts : (split : Split) (kept : SplitKept) (wait : NetValue) (answer : AnswerNets) (up : NetValue)
    (back : AnswerNets) (old new : Netlist)
    → SplitAnswer split kept wait answer up back old → Extends old new → SplitAnswer split kept wait answer up back new
split_answer_lasts split kept wait answer up back old new h e = record {
  taken = h.taken;
  coming = h.coming;
  next = h.next;
  fits = λ cycle v. h.fits cycle (e.valuations cycle v);
  below = λ cycle v. h.below cycle (e.valuations cycle v);
  above = λ cycle v. h.above cycle (e.valuations cycle v);
  waits = λ cycle v. h.waits cycle (e.valuations cycle v);
  tells = λ cycle v. h.tells cycle (e.valuations cycle v);
  valid = λ cycle v. h.valid cycle (e.valuations cycle v);
  word_is = h.word_is;
  code_is = h.code_is;
  nexts = λ cycle v. h.nexts cycle (e.valuations cycle v);
  moves = λ run cycles r. h.moves run cycles (e.runs run cycles r);
}
