use Rattle.std.proofs.Common.{◌≡◌, ℕ, ◌↔◌, List, Option, Some, None, refl}
use Rattle.std.specs.Prelude.{IfSome}
use Rattle.iface_roles.specs.declared.kinds.Kind.{Kind}
use Rattle.iface_roles.specs.declared.roles.Role.{Role}
use Rattle.iface_roles.specs.Roles.{role_row, IsNamed}
use Rattle.files_tests.proofs.interfaces.named_role.Goals as goal

of_kind : (kind : Kind) (text : List ℕ) (r : Option Role) → ((role : Role) → (r ≡ Some role) ↔ IsNamed kind role text) → IfSome r (λ role. (role_row role).kind ≡ kind)
of_kind kind text None h = tt
of_kind kind text (Some role) h = ((h role).0 refl).of_kind

pub returns : goal.returns
returns c = of_kind c.args.kind c.args.name.now c.role_of.result c.role_of.ensures
