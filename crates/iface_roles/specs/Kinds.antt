-- Which interfaces the tables and the rules speak of.
use Rattle.std.specs.Prelude.{Bool, true, false}
use Rattle.iface_roles.specs.declared.kinds.Kind.{Kind}
use Rattle.iface_roles.specs.declared.kinds.Kind.TheVariants.{Mm, Stream, Clock, Reset, Conduit, Interrupt}

-- a memory-mapped or a streaming interface
abbrev pub is_avalon : Kind → Bool
is_avalon Clock = false
is_avalon Reset = false
is_avalon Mm = true
is_avalon Stream = true
is_avalon Conduit = false
is_avalon Interrupt = false
