-- The run of the two pieces is one of the splitter.
use Rattle.std.proofs.Common.{suc, ◌≡◌, ◌++◌, ◌∷◌, true, false, arith, refl}
use Rattle.histories.specs.Below.{each_below}
use Rattle.histories.specs.History.{only_if}
use Rattle.memory_runs.specs.Commands.{shows, is_held}
use Rattle.memory_machines.specs.Link.{takes}
use Rattle.runs_tests.specs.MoreExamples.{wide_side, byte_side}
use Rattle.runs_tests.specs.MachineExamples.{second_piece}
use Rattle.memory_machines.specs.Machines.{raw_at, parts_at, split_parts, parts_sent, IsExpanderRun}

pub splitter_run : IsExpanderRun (split_parts wide_side.shape byte_side.shape) wide_side byte_side (parts_sent wide_side byte_side) second_piece 3
splitter_run = record {
  begins = refl;
  next = λ c. refl;
  stands = λ c h. each_below (λ c. shows byte_side.commands.signals c ≡ true → shows wide_side.commands.signals c ≡ true) 3 c (((tt, λ e. refl), λ e. refl), λ e. cc) h;
  part = λ c h. each_below (λ c. shows byte_side.commands.signals c ≡ true → parts_at (split_parts wide_side.shape byte_side.shape) wide_side c ≡ parts_sent wide_side byte_side c ++ raw_at byte_side c ∷ second_piece c) 3 c (((tt, λ e. refl), λ e. refl), λ e. cc) h;
  accepts = λ c h. each_below (λ c. takes wide_side c ≡ true → parts_sent wide_side byte_side c ++ only_if (takes byte_side c) (raw_at byte_side c) ≡ parts_at (split_parts wide_side.shape byte_side.shape) wide_side c) 3 c (((tt, λ e. cc), λ e. refl), λ e. cc) h;
  waits = λ c h. each_below (λ c. is_held byte_side.commands.signals (takes byte_side) c ≡ true → takes wide_side c ≡ false) 3 c (((tt, λ e. cc), λ e. cc), λ e. cc) h;
  keeps = λ c h. each_below (λ c. is_held byte_side.commands.signals (takes byte_side) c ≡ true → shows byte_side.commands.signals (suc c) ≡ true) 3 c (((tt, λ e. cc), λ e. cc), λ e. cc) (omega arith);
}
