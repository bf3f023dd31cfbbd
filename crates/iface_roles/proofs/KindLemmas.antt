-- The derived tests of enums without fields.
use Rattle.std.proofs.Common.{◌≡◌, Decides}
use denote.Enum.Bare.{sameb, same_true, true_same}
use Rattle.iface_roles.specs.contracts.kinds.Kind.{the_type}
use Rattle.iface_roles.specs.declared.kinds.Kind.{Kind}

pub same_kind-Decides : (a b : Kind) → Decides (sameb the_type a b) (a ≡ b)
same_kind-Decides a b = (same_true the_type tt a b, true_same the_type a b)
