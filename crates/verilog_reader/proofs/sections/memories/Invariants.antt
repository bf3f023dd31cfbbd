use Rattle.std.proofs.Common.{◌≡◌, ℕ, ◌-◌, ◌≤◌, ◌^◌, length}
use Rattle.verilog_reader.specs.Spots.{IsWithin}
use Rattle.verilog_forms.specs.WholeTexts.{memories_form}
use Rattle.verilog_reader.specs.Sections.{Leads}
use Rattle.verilog_reader.proofs.sections.memories.Given as goal

abbrev pub invariant-memory : goal.invariant-memory
invariant-memory l = record {
  within : IsWithin l.bytes l.spot;
  few : length l.memories.items ≤ 2 ^ 16;
  reads : (most : ℕ) → most ≡ 2 ^ 16 → Leads (memories_form most 0) l.bytes l.fn.start l.memories.items (memories_form (most - length l.memories.items) (length l.memories.items)) l.spot;
}

abbrev pub decreases-memory : goal.decreases-memory
decreases-memory l = 2 ^ 16 - length l.memories.items
