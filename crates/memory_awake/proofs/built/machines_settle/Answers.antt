use Rattle.memory_awake.specs.Theorem.{inside_of}
use Rattle.memory_awake.proofs.Building.{lines, holds}
use Rattle.memory_awake.proofs.built.machines_settle.Goals as goal

pub returns : goal.returns
returns c = λ responses system run inside states end plan rows machines legal.
    let keep = c.machines_keep_their_lines.ensures responses system run inside states end plan machines in
    c.lines_settle.ensures responses system run (inside_of system inside) (holds responses system run inside states end plan rows) end (lines responses system run inside states end plan rows keep) legal
