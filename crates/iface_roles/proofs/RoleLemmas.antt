-- The table of roles: no two rows have one name.
use Rattle.std.proofs.Common.{◌≡◌, ℕ, Bool, true, false, List, Option, Some, None, refl, subst, sym, Decides, ◌↔◌}
use Rattle.std.specs.Prelude.{find}
use Rattle.std.specs.Bool.{then_some}
use Rattle.std.specs.Str.{bytes_eq}
use Rattle.iface_roles.specs.Names.{lower, same_name, IsSameName}
use Rattle.iface_roles.specs.Roles.{role_row, all_roles, IsNamed}
use Rattle.iface_roles.specs.declared.kinds.Kind.{Kind}
use Rattle.iface_roles.proofs.NameLemmas.{find-passes, same_name-true}
use Rattle.iface_roles.specs.declared.roles.Role.{Role}
use Rattle.iface_roles.specs.declared.roles.Role.TheVariants.{Address, Read, Write, WriteData, ByteEnable, BurstCount, WaitRequest, ReadData, ReadDataValid, Response, WriteResponseValid, Lock, DebugAccess, BeginBurstTransfer, Ready, Valid, Data, Channel, Error, StartOfPacket, EndOfPacket, Empty}

-- a search for a row's own name finds that row
found : (role : Role) → find (λ r. bytes_eq (lower (role_row r).name) (lower (role_row role).name)) all_roles ≡ Some role
found Address = refl
found Read = refl
found Write = refl
found WriteData = refl
found ByteEnable = refl
found BurstCount = refl
found WaitRequest = refl
found ReadData = refl
found ReadDataValid = refl
found Response = refl
found WriteResponseValid = refl
found Lock = refl
found DebugAccess = refl
found BeginBurstTransfer = refl
found Ready = refl
found Valid = refl
found Data = refl
found Channel = refl
found Error = refl
found StartOfPacket = refl
found EndOfPacket = refl
found Empty = refl

pub found_by_name : (role : Role) (text : List ℕ) → IsSameName (role_row role).name text → find (λ r. same_name (role_row r).name text) all_roles ≡ Some role
found_by_name role text h =
    let P : List ℕ → Type 0 = λ low. find (λ r. bytes_eq (lower (role_row r).name) low) all_roles ≡ Some role in
    subst P h (found role)

-- where no row was found, none has the name
pub none_named : (text : List ℕ) → find (λ r. same_name (role_row r).name text) all_roles ≡ None → (kind : Kind) (role : Role) → IsNamed kind role text → ⊥
none_named text none kind role h = let e = found_by_name role text h.name in cc

-- the row that was found has the name, and no other has it
pub named_by_found : (text : List ℕ) (r : Role) → find (λ r. same_name (role_row r).name text) all_roles ≡ Some r → IsSameName (role_row r).name text
named_by_found text r found = same_name-true (role_row r).name text (find-passes (λ r. same_name (role_row r).name text) all_roles r found)

pub only_named : (text : List ℕ) (r : Role) → find (λ r. same_name (role_row r).name text) all_roles ≡ Some r → (kind : Kind) (role : Role) → IsNamed kind role text → role ≡ r
only_named text r found kind role h = let e = found_by_name role text h.name in cc

-- the row that was found, kept where it is of the kind, is the role that the text names there
pub named_of_kind : (kind : Kind) (text : List ℕ) (r : Role) (b : Bool) (result : Option Role) → Some r ≡ find (λ r. same_name (role_row r).name text) all_roles → Decides b ((role_row r).kind ≡ kind) → result ≡ then_some b r → (role : Role) → (result ≡ Some role) ↔ IsNamed kind role text
named_of_kind kind text r true result found same e role = (
  λ is. let w : r ≡ role = cc in subst (λ (x : Role). IsNamed kind x text) w (record { of_kind = same.0 refl; name = named_by_found text r (sym found) }),
  λ h. let w : role ≡ r = only_named text r (sym found) kind role h in cc,
)
named_of_kind kind text r false result found same e role = (
  λ is. cc,
  λ h. let w : role ≡ r = only_named text r (sym found) kind role h in let k : (role_row r).kind ≡ kind = subst (λ (x : Role). (role_row x).kind ≡ kind) w h.of_kind in let t = same.1 k in cc,
)
