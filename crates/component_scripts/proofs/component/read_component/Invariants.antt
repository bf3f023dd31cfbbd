use Rattle.std.proofs.Common.{◌≡◌, drop}
use Rattle.component_scripts.specs.Component.{empty_component_draft, first_component_refusal, component_after_all}
use Rattle.component_scripts.proofs.component.read_component.Given as goal

abbrev pub invariant-loop-k : goal.invariant-loop-k
invariant-loop-k l = record {
  refusal : first_component_refusal empty_component_draft l.commands.commands ≡ first_component_refusal l.draft (drop l.k l.commands.commands);
  stated : component_after_all empty_component_draft l.commands.commands ≡ component_after_all l.draft (drop l.k l.commands.commands);
}
