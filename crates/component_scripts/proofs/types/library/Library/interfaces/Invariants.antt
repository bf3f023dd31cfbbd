use Rattle.std.proofs.Common.{◌≡◌, take}
use Rattle.std.specs.Prelude.{All}
use Rattle.component_scripts.specs.Library.{interfaces_of}
use Rattle.component_scripts.specs.Tables.{IsComponent}
use Rattle.component_scripts.proofs.types.library.Library.interfaces.Given as goal

abbrev pub invariant-loop-component : goal.invariant-loop-component
invariant-loop-component l = record {
  copied : l.copy ≡ interfaces_of (take l.component-index l.component-items);
  made : All IsComponent (take l.component-index l.component-items);
}
