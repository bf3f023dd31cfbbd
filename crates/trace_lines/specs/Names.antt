-- The names of interfaces.
use Rattle.std.specs.Prelude.{ℕ, List, ◌++◌, codes}
use Rattle.trace_lines.specs.declared.events.EndName.{EndName}

-- as a trace tells it
abbrev pub name_of : EndName → List ℕ
name_of end = end.instance.now ++ codes "." ++ end.interface.now
