-- A pipeline stage of two places: what its two calls leave in a netlist.
use Rattle.std.specs.Prelude.{◌≡◌, ℕ, ◌+◌, ◌<◌, ◌⊎◌, Bool, false, ◌&&◌, List, length, if◌then◌else◌}
use Rattle.std.proofs.Common.{inl, inr}
use Rattle.histories.specs.History.{is_raised}
use Rattle.netlist.specs.Nets.{NetValue}
use Rattle.netlist.specs.Netlists.{Netlist, IsWaiting}
use Rattle.netlist.specs.Runs.{Cycle, Run, cycle_of, IsRun, Always}
use Rattle.netlist.specs.Longer.{Extends}
use Rattle.net_parts.specs.Groups.{AreWaiting}
use Rattle.memory_machines.specs.Link.{Port}
use Rattle.memory_machines.specs.Machines.{Raw, IsStageRun}
use Rattle.memory_links.specs.Pipes.{stage_form}
use Rattle.command_nets.specs.declared.nets.CommandNets.{CommandNets}
use Rattle.command_nets.specs.declared.nets.AnswerNets.{AnswerNets}
use Rattle.command_nets.specs.Nets.{group_of, AreCommandNets, raw_in}
use Rattle.command_nets.specs.Groups.{HaveSameWidths, IsOfCommand, StartsEmpty, IsDelayedAnswer, is_shown, hidden, command_lasts, waiting_lasts, delayed_lasts}
use Rattle.link_core.specs.declared.stage.StageKept.{StageKept}
use Rattle.link_core.specs.Form.{Form}

-- any shape, the same on both sides, for any target
pub record IsStageForm (form : Form) : Type 0 where
  pub same : form.down ≡ form.up
  pub is : form.link ≡ stage_form form.link.target
  pub some : 0 < form.up.word_bytes

-- what it does: a queue of two beats for commands, which waits only when full, and a register for answers
pub record RunsAsPipeStage (up down : Port) : Type 0 where
  pub queue : ℕ → List Raw
  pub runs : IsStageRun 2 up down queue
  pub opens : (c : ℕ) → length (queue c) < 2 → is_raised (up.commands.waitrequest c) ≡ false

-- the command that is shown stands on
abbrev pub is_standing : Cycle → CommandNets → NetValue → Bool
is_standing cycle first wait = is_shown (raw_in cycle first) && is_raised (cycle.net wait.number)

-- what comes next: the second place's beat, or where that is empty, what is shown above
abbrev pub coming_in : Cycle → StageKept → Raw
coming_in cycle kept = if is_shown (raw_in cycle kept.second) then raw_in cycle kept.second else raw_in cycle kept.from

-- between the calls: the places wait, and are as wide as the command that they take
pub record StageKeeps (kept : StageKept) (netlist : Netlist) : Type 0 where
  pub from : AreCommandNets netlist kept.from
  pub first : AreCommandNets netlist kept.first
  pub second : AreCommandNets netlist kept.second
  pub first_widths : HaveSameWidths kept.first kept.from
  pub second_widths : HaveSameWidths kept.second kept.from
  pub first_waits : AreWaiting netlist (group_of kept.first)
  pub second_waits : AreWaiting netlist (group_of kept.second)
  pub apart : (n : ℕ) → IsOfCommand kept.first n → ¬ IsOfCommand kept.second n

-- after the first call: the first place is the downstream command, and both begin empty
pub record StageCommand (from to : CommandNets) (kept : StageKept) (netlist : Netlist) : Type 0 where
  pub from_is : from ≡ kept.from
  pub to_is : to ≡ kept.first
  pub first_starts : StartsEmpty netlist kept.first
  pub second_starts : StartsEmpty netlist kept.second

-- after the second call: the stage waits while its second place is full. While its command stands on, what comes goes into
-- the second place, and else into the first one, and the second one is empty then
pub record StageAnswer (kept : StageKept) (wait : NetValue) (answer : AnswerNets) (up : NetValue) (back : AnswerNets)
    (netlist : Netlist) : Type 0 where
  pub waits : Always netlist (λ cycle. is_raised (cycle.net up.number) ≡ is_shown (raw_in cycle kept.second))
  pub first_moves : (run : Run) (cycles : ℕ) → IsRun netlist run cycles → (c : ℕ) → c + 1 < cycles →
      raw_in (cycle_of run (c + 1)) kept.first
      ≡ (if is_standing (cycle_of run c) kept.first wait then raw_in (cycle_of run c) kept.first
      else coming_in (cycle_of run c) kept)
  pub second_moves : (run : Run) (cycles : ℕ) → IsRun netlist run cycles → (c : ℕ) → c + 1 < cycles →
      raw_in (cycle_of run (c + 1)) kept.second
      ≡ (if is_standing (cycle_of run c) kept.first wait then coming_in (cycle_of run c) kept
      else hidden (coming_in (cycle_of run c) kept))
  pub delayed : IsDelayedAnswer netlist answer back

-- ---- what stands lasts. No contract reads these proofs; the law of the stage cites them

pub stage_keeps_lasts : (kept : StageKept) (old new : Netlist) → StageKeeps kept old → Extends old new
    → ((n : ℕ) → IsOfCommand kept.first n ⊎ IsOfCommand kept.second n → IsWaiting old n → IsWaiting new n) → StageKeeps kept new
stage_keeps_lasts kept old new h e w = record {
  from = command_lasts old new kept.from e h.from;
  first = command_lasts old new kept.first e h.first;
  second = command_lasts old new kept.second e h.second;
  first_widths = h.first_widths;
  second_widths = h.second_widths;
  first_waits = waiting_lasts old new kept.first (λ n o. w n (inl o)) h.first_waits;
  second_waits = waiting_lasts old new kept.second (λ n o. w n (inr o)) h.second_waits;
  apart = h.apart;
}

pub stage_command_lasts : (from to : CommandNets) (kept : StageKept) (old new : Netlist) → StageCommand from to kept old
    → Extends old new → StageCommand from to kept new
stage_command_lasts from to kept old new h e = record {
  from_is = h.from_is;
  to_is = h.to_is;
  first_starts = λ run cycles r. h.first_starts run cycles (e.runs run cycles r);
  second_starts = λ run cycles r. h.second_starts run cycles (e.runs run cycles r);
}

pub stage_answer_lasts : (kept : StageKept) (wait : NetValue) (answer : AnswerNets) (up : NetValue) (back : AnswerNets)
    (old new : Netlist)
    → StageAnswer kept wait answer up back old → Extends old new → StageAnswer kept wait answer up back new
stage_answer_lasts kept wait answer up back old new h e = record {
  waits = λ cycle v. h.waits cycle (e.valuations cycle v);
  first_moves = λ run cycles r. h.first_moves run cycles (e.runs run cycles r);
  second_moves = λ run cycles r. h.second_moves run cycles (e.runs run cycles r);
  delayed = delayed_lasts old new answer back e h.delayed;
}
