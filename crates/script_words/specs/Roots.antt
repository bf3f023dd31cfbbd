-- Where the first clock connection to an end starts.
use Rattle.std.specs.Prelude.{◌≡◌, Bool, ◌&&◌, List, find, Option}
use Rattle.std.specs.Map.{lookup}
use Rattle.std.specs.Option.{option_map}
use Rattle.iface_roles.specs.declared.kinds.Kind.TheVariants.{Clock}
use Rattle.script_words.specs.declared.system.joints.Joint.{Joint}
use Rattle.script_words.specs.declared.system.joints.Terminal.{Terminal}
use Rattle.script_words.specs.Kinds.{same_kind}
use Rattle.script_words.specs.Joints.{same_end}

-- a clock is connected to this end
abbrev pub clocks : Terminal → Joint → Bool
clocks end joint = same_kind joint.kind Clock && same_end end joint.end

-- the start of the first clock connection to this end
abbrev pub source_of : List Joint → Terminal → Option Terminal
source_of joints end = option_map (λ (joint : Joint). joint.start) (find (clocks end) joints)

-- the start that a table has for an end
abbrev pub start_for : List (Terminal × Terminal) → Terminal → Option Terminal
start_for starts end = lookup (same_end end) starts

-- the table has where the first clock connection to each end starts
abbrev pub AreRootsOf : List Joint → List (Terminal × Terminal) → Type 0
AreRootsOf joints starts = (end : Terminal) → start_for starts end ≡ source_of joints end
