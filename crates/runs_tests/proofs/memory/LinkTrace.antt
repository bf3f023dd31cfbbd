-- The pieces of a write, as a run of a link.
use Rattle.std.proofs.Common.{arith, refl}
use Rattle.histories.specs.History.AreWithin.{all_placed, placed}
use Rattle.memory_machines.specs.Link.{CarriesCommands, AreLegalAt}
use Rattle.runs_tests.specs.MoreExamples.{byte_target, wide_side, byte_side}
use Rattle.runs_tests.proofs.memory.ShortRuns.{legal_by_cycles, carries_by_cycles}

pieces_legal : AreLegalAt byte_side 2
pieces_legal = legal_by_cycles byte_side 2 ((tt, λ held. cc), λ held. cc) ((tt, refl), refl) ((tt, omega arith), omega arith) ((tt, omega arith), omega arith) ((tt, λ h. refl), λ h. refl) ((tt, λ s. cc), λ s. cc)

pub pieces_carry : CarriesCommands byte_target 1 wide_side byte_side 2
pieces_carry = carries_by_cycles byte_target 1 wide_side byte_side 2
    (((tt, record { rest = _; joins = refl }), record { rest = _; joins = refl }), record { rest = _; joins = refl })
    (((tt, refl), refl), refl) (((tt, omega arith), omega arith), omega arith) (((tt, omega arith), omega arith), omega arith)
    (((tt, all_placed), placed (omega arith) all_placed), placed (omega arith) (placed (omega arith) all_placed))
    pieces_legal
