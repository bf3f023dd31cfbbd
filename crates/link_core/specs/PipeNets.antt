-- A pipe of 0 to 4 stages: what its two calls leave in a netlist.
use Rattle.std.specs.Prelude.{◌≡◌, ◌⊎◌, ◌+◌, ◌<◌, ℕ, Option, IsSomeAnd}
use Rattle.std.proofs.Common.{inl, inr}
use Rattle.netlist.specs.Nets.{NetValue}
use Rattle.netlist.specs.Netlists.{Netlist, IsWaiting}
use Rattle.netlist.specs.Runs.{Run, IsEndlessRun}
use Rattle.netlist.specs.Longer.{Extends}
use Rattle.net_parts.specs.Growth.{StillWait}
use Rattle.memory_runs.specs.Views.{Shape}
use Rattle.command_nets.specs.declared.nets.CommandNets.{CommandNets}
use Rattle.command_nets.specs.declared.nets.AnswerNets.{AnswerNets}
use Rattle.command_nets.specs.Nets.{port_in}
use Rattle.command_nets.specs.Groups.{IsOfCommand}
use Rattle.link_core.specs.declared.stage.PipeStage.{PipeStage}
use Rattle.link_core.specs.declared.stage.StageKept.{StageKept}
use Rattle.link_core.specs.ChainNets.{AreBothKept, HasMiddle}
use Rattle.link_core.specs.Lines.{RunsAsStages}
use Rattle.link_core.specs.MaybeNets.{kept_of, stores_none, command_of, none_stored}
use Rattle.link_core.specs.MaybeNets as maybe
use Rattle.link_core.specs.PipeForms.{stage_if}
use Rattle.link_core.specs.StageNets.{StageKeeps, StageCommand, stage_keeps_lasts, stage_command_lasts}

-- what is kept of each of four stages, where there is one
abbrev pub PipeKept : Type 0
PipeKept = ((Option StageKept × Option StageKept) × Option StageKept) × Option StageKept

-- ---- one stage, if there is one

abbrev pub stage_owns : Option StageKept → ℕ → Type 0
stage_owns kept n = IsSomeAnd kept (λ held. IsOfCommand held.first n ⊎ IsOfCommand held.second n)

abbrev pub stage_keeps : Option PipeStage → Option StageKept → Netlist → Type 0
stage_keeps stage kept netlist = kept_of (λ s held netlist. StageKeeps held netlist) stage kept netlist

abbrev pub stage_command : Option PipeStage → CommandNets → CommandNets → Option StageKept → Netlist → Type 0
stage_command stage from to kept netlist =
    command_of (λ s from to held netlist. StageCommand from to held netlist) stage from to kept netlist

-- ---- all of them

-- the numbers of the registers
abbrev pub owns : PipeKept → ℕ → Type 0
owns kept n = ((stage_owns kept.0.0.0 n ⊎ stage_owns kept.0.0.1 n) ⊎ stage_owns kept.0.1 n) ⊎ stage_owns kept.1 n

-- between the calls
abbrev pub PipeKeeps : ℕ → PipeKept → Netlist → Type 0
PipeKeeps stages kept netlist =
    let two = AreBothKept (stage_keeps (stage_if stages 0) kept.0.0.0) (stage_keeps (stage_if stages 1) kept.0.0.1) (stage_owns kept.0.0.0) (stage_owns kept.0.0.1) (stores_none kept.0.0.0) (stores_none kept.0.0.1) in
    let three = AreBothKept two (stage_keeps (stage_if stages 2) kept.0.1)
    (λ n. stage_owns kept.0.0.0 n ⊎ stage_owns kept.0.0.1 n) (stage_owns kept.0.1)
    (λ m. stores_none kept.0.0.0 m ⊎ stores_none kept.0.0.1 m) (stores_none kept.0.1) in
    AreBothKept three
    (stage_keeps (stage_if stages 3) kept.1) (λ n. (stage_owns kept.0.0.0 n ⊎ stage_owns kept.0.0.1 n)
    ⊎ stage_owns kept.0.1 n)
    (stage_owns kept.1) (λ m. (stores_none kept.0.0.0 m ⊎ stores_none kept.0.0.1 m) ⊎ stores_none kept.0.1 m)
    (stores_none kept.1) netlist

-- after the first call
abbrev pub PipeCommand : ℕ → CommandNets → CommandNets → PipeKept → Netlist → Type 0
PipeCommand stages from to kept netlist =
    HasMiddle
    (λ third. HasMiddle
    (λ second. HasMiddle (λ first. stage_command (stage_if stages 0) from first kept.0.0.0 netlist) (λ first. stage_command
    (stage_if stages 1) first second kept.0.0.1 netlist))
    (λ second. stage_command (stage_if stages 2) second third kept.0.1 netlist))
    (λ third. stage_command (stage_if stages 3) third to kept.1 netlist)

-- the pipe is begun: it has made its command, and its registers wait
pub record IsBegunPipe (stages : ℕ) (from to : CommandNets) (kept : PipeKept) (netlist : Netlist) : Type 0 where
  pub keeps : PipeKeeps stages kept netlist
  pub made : PipeCommand stages from to kept netlist
  pub waits : (n : ℕ) → owns kept n → IsWaiting netlist n

-- in each endless run of each longer netlist so many stages run between these nets, in any shape
abbrev pub StagesInLonger : ℕ → Netlist → CommandNets → NetValue → AnswerNets → CommandNets → NetValue → AnswerNets → Type 0
StagesInLonger stages netlist from up back to wait answer =
    (longer : Netlist) → Extends netlist longer → (run : Run) → IsEndlessRun longer run → (shape : Shape) → 0 < shape.word_bytes
    → RunsAsStages stages (port_in shape run from up back) (port_in shape run to wait answer)

-- in each run the net shows what another showed so many cycles before
pub record IsLaterBy (netlist : Netlist) (count : ℕ) (from net : NetValue) : Type 0 where
  pub value : (run : Run) → IsEndlessRun netlist run → (c : ℕ) → run.net (count + c) net.number ≡ run.net c from.number

-- ---- what stands lasts. No contract reads these proofs

-- a pipe has no memories
pub none_kept : (kept : PipeKept) (m : ℕ)
    → ¬ (((stores_none kept.0.0.0 m ⊎ stores_none kept.0.0.1 m) ⊎ stores_none kept.0.1 m) ⊎ stores_none kept.1 m)
none_kept kept m o =
    elim o [
      | inl three ↦
          elim three [
            | inl two ↦ elim two [ inl one ↦ none_stored kept.0.0.0 m one | inr one ↦ none_stored kept.0.0.1 m one ]
            | inr one ↦ none_stored kept.0.1 m one
          ]
      | inr one ↦ none_stored kept.1 m one
    ]

stage_lasts : (stage : Option PipeStage) (kept : Option StageKept) (old new : Netlist) → stage_keeps stage kept old
    → Extends old new → StillWait old new → stage_keeps stage kept new
stage_lasts stage kept old new h e w =
    maybe.kept_lasts (λ s held netlist. StageKeeps held netlist) (λ held n. IsOfCommand held.first n
    ⊎ IsOfCommand held.second n) (λ held m. ⊥)
    (λ s held old new h e w v. stage_keeps_lasts held old new h e w) stage kept old new h e (λ n o. w n) (λ m o. absurd
    (none_stored kept m o))

stage_made_lasts : (stage : Option PipeStage) (from to : CommandNets) (kept : Option StageKept) (old new : Netlist)
    → stage_command stage from to kept old → Extends old new → stage_command stage from to kept new
stage_made_lasts stage from to kept old new h e =
    maybe.command_lasts (λ s from to held netlist. StageCommand from to held netlist)
    (λ s from to held old new h e. stage_command_lasts from to held old new h e) stage from to kept old new h e

pub keeps_lasts : (stages : ℕ) (kept : PipeKept) (old new : Netlist) → PipeKeeps stages kept old → Extends old new
    → StillWait old new → PipeKeeps stages kept new
keeps_lasts stages kept old new h e w = record {
  first = record {
    first = record {
      first = stage_lasts (stage_if stages 0) kept.0.0.0 old new h.first.first.first e w;
      second = stage_lasts (stage_if stages 1) kept.0.0.1 old new h.first.first.second e w;
      apart = h.first.first.apart;
      memories_apart = h.first.first.memories_apart;
    };
    second = stage_lasts (stage_if stages 2) kept.0.1 old new h.first.second e w;
    apart = h.first.apart;
    memories_apart = h.first.memories_apart;
  };
  second = stage_lasts (stage_if stages 3) kept.1 old new h.second e w;
  apart = h.apart;
  memories_apart = h.memories_apart;
}

pub command_lasts : (stages : ℕ) (from to : CommandNets) (kept : PipeKept) (old new : Netlist)
    → PipeCommand stages from to kept old → Extends old new → PipeCommand stages from to kept new
command_lasts stages from to kept old new h e = record {
  middle = h.middle;
  first = record {
    middle = h.first.middle;
    first = record {
      middle = h.first.first.middle;
      first = stage_made_lasts (stage_if stages 0) from h.first.first.middle kept.0.0.0 old new h.first.first.first e;
      second = stage_made_lasts (stage_if stages 1) h.first.first.middle h.first.middle kept.0.0.1 old new h.first.first.second e;
    };
    second = stage_made_lasts (stage_if stages 2) h.first.middle h.middle kept.0.1 old new h.first.second e;
  };
  second = stage_made_lasts (stage_if stages 3) h.middle to kept.1 old new h.second e;
}

pub begun_lasts : (stages : ℕ) (from to : CommandNets) (kept : PipeKept) (old new : Netlist) → IsBegunPipe stages from to kept old
    → Extends old new → StillWait old new → IsBegunPipe stages from to kept new
begun_lasts stages from to kept old new h e w = record {
  keeps = keeps_lasts stages kept old new h.keeps e w;
  made = command_lasts stages from to kept old new h.made e;
  waits = λ n o. w n (h.waits n o);
}
