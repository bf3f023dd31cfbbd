use Rattle.std.proofs.Common.{◌≡◌, ℕ, List, Option, Some, None, is_some, true, get_or, refl, sym, subst}
use Rattle.std.proofs.lemmas.Option.{get_or_from_slice_get}
use Rattle.system_tables.specs.declared.tables.EndId.{EndId}
use Rattle.port_tables.specs.declared.roles.PortRole.{PortRole}
use Rattle.port_tables.specs.declared.port_table.PortEntry.{PortEntry}
use Rattle.port_tables.specs.PortMaps.{IsEntryAt, IsPlaceOf, IsAt}
use Rattle.port_tables.proofs.port_table.PortMap.at.Goals as goal

-- the end that was read
read : (ends : List EndId) (entries : List PortEntry) (number : ℕ) (role : PortRole) (place : ℕ) (d : EndId) (h : IsAt ends entries number role place) → get_or ends number d ≡ h.end
read ends entries number role place d h = get_or_from_slice_get ends number h.end d h.end_is

-- a port that is there is found
found : (entries : List PortEntry) (end : EndId) (role : PortRole) (place : ℕ) (o : Option ℕ) → IsEntryAt entries place end role → IsPlaceOf entries end role o → is_some o ≡ true
found entries end role place None at none = absurd (none place at)
found entries end role place (Some k) at is = refl

placed : (entries : List PortEntry) (end : EndId) (role : PortRole) (o : Option ℕ) (place : ℕ) → IsPlaceOf entries end role o → o ≡ Some place → IsEntryAt entries place end role
placed entries end role o place is e = subst (IsPlaceOf entries end role) e is

pub unwrap-requires : goal.unwrap-requires
unwrap-requires c =
    let h = c.requires.1 in
    let at = subst (λ (e : EndId). IsEntryAt c.args.self.now.entries c.requires.0 e c.args.role) (sym (read c.args.ends.now c.args.self.now.entries c.args.number c.args.role c.requires.0 _ h)) h.is in
    found c.args.self.now.entries _ c.args.role c.requires.0 c.find.result at c.find.ensures

pub returns : goal.returns
returns c =
    let h = c.requires.1 in
    let is = placed c.args.self.now.entries _ c.args.role c.find.result c.unwrap.result c.find.ensures c.unwrap.ensures in
    record {
      end = h.end;
      end_is = h.end_is;
      is = subst (λ (e : EndId). IsEntryAt c.args.self.now.entries c.unwrap.result e c.args.role) (read c.args.ends.now c.args.self.now.entries c.args.number c.args.role c.requires.0 _ h) is;
    }
