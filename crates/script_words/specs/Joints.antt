-- Ends of connections.
use Rattle.std.specs.Prelude.{Bool, ◌&&◌, ◌==◌}
use Rattle.script_words.specs.declared.system.joints.Terminal.{Terminal}
use Rattle.script_words.specs.declared.system.joints.Link.{Link}

abbrev pub same_end : Terminal → Terminal → Bool
same_end a b = a.instance == b.instance && a.interface == b.interface

-- two connections join the same ends
abbrev pub same_link : Link → Link → Bool
same_link a b = same_end a.start b.start && same_end a.end b.end
