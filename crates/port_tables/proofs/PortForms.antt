-- Names of the right form: of the module, and of a port.
use Rattle.std.proofs.Common.{ℕ, Bool, ◌&&◌, ◌||◌, length, List, [], ◌∷◌, ◌++◌, codes, refl, sym, subst, ◌∙◌, IsTrue}
use Rattle.std.specs.Prelude.{nat_le}
use Rattle.std.specs.List.{list_all, list_any}
use Rattle.std.proofs.lemmas.Bool.{and_from, and_parts, or_left, or_right, false≢true}
use Rattle.std.proofs.lemmas.Bool.Decides.{Decides-eqb}
use Rattle.std.proofs.lemmas.List.Folds.{list_all-append}
use Rattle.std.proofs.lemmas.Slice.Eq.{ends_is}
use Rattle.system_tables.specs.Names.{is_name, begins_with_letter}
use Rattle.netlist.specs.Names.{IsModuleName, IsPortName, is_name_byte, is_dollar}
use Rattle.port_tables.specs.declared.roles.PortRole.{PortRole}
use Rattle.port_tables.specs.declared.roles.PortRole.TheVariants as role
use Rattle.port_tables.specs.Ports.{EndName, role_word, port_name}
use Rattle.port_tables.proofs.Names.{IsNameText, port_name-split}

abbrev pub IsName : List ℕ → Type 0
IsName name = IsTrue (is_name name)

name_parts : (name : List ℕ) → IsName name → IsTrue (begins_with_letter name) × IsTrue (list_all is_name_byte name)
unfolding is_name
name_parts name h =
    let first = and_parts (begins_with_letter name && list_all is_name_byte name) (nat_le (length name) 64) h in
    and_parts (begins_with_letter name) (list_all is_name_byte name) first.0

name_first : (name : List ℕ) → IsName name → IsTrue (begins_with_letter name)
name_first name h = (name_parts name h).0

pub name_text : (name : List ℕ) → IsName name → IsNameText name
name_text name h = (name_parts name h).1

begins-append : (xs ys : List ℕ) → IsTrue (begins_with_letter xs) → IsTrue (begins_with_letter (xs ++ ys))
begins-append [] ys h = absurd (false≢true h)
begins-append (x ∷ xs) ys h = h

all-append : (test : ℕ → Bool) (xs ys : List ℕ) → IsTrue (list_all test xs) → IsTrue (list_all test ys) → IsTrue (list_all test (xs ++ ys))
all-append test xs ys h k = list_all-append test xs ys ∙ and_from (list_all test xs) (list_all test ys) h k

any-after : (test : ℕ → Bool) (xs : List ℕ) (y : ℕ) (ys : List ℕ) → IsTrue (test y) → IsTrue (list_any test (xs ++ y ∷ ys))
any-after test [] y ys h = or_left (test y) _ h
any-after test (x ∷ xs) y ys h = or_right (test x) _ (any-after test xs y ys h)

abbrev with_suffix : List ℕ → List ℕ
with_suffix system = system ++ codes "_interconnect"

pub module_name_is : (system : List ℕ) → IsName system → IsModuleName (system ++ codes "_interconnect")
module_name_is system h =
    record {
      first = begins-append system (codes "_interconnect") (name_first system h);
      bytes = all-append is_name_byte system (codes "_interconnect") (name_text system h) refl;
      suffix = (ends_is Decides-eqb (with_suffix system) (codes "_interconnect") _ refl).1 system refl;
    }

abbrev in_port_name : ℕ → Bool
in_port_name b = is_name_byte b || is_dollar b

wider : (xs : List ℕ) → IsNameText xs → IsTrue (list_all in_port_name xs)
wider [] h = refl
wider (x ∷ xs) h = let parts = and_parts (is_name_byte x) _ h in and_from (in_port_name x) _ (or_left (is_name_byte x) _ parts.0) (wider xs parts.1)

role_text : (r : PortRole) → IsNameText (role_word r)
role_text role.Address = refl
role_text role.Read = refl
role_text role.Write = refl
role_text role.WriteData = refl
role_text role.ByteEnable = refl
role_text role.BurstCount = refl
role_text role.WaitRequest = refl
role_text role.ReadData = refl
role_text role.ReadDataValid = refl
role_text role.Response = refl
role_text role.Grant = refl
role_text role.Ready = refl
role_text role.Valid = refl
role_text role.Data = refl
role_text role.Channel = refl
role_text role.Error = refl
role_text role.StartOfPacket = refl
role_text role.EndOfPacket = refl
role_text role.Empty = refl
role_text role.Dropped = refl

pub port_name_is : (name : EndName) (r : PortRole) → IsName name.instance → IsName name.interface → IsPortName (port_name name (role_word r))
port_name_is name r instance interface =
    subst IsPortName (sym (port_name-split name (role_word r))) (record {
      first = begins-append name.instance _ (name_first name.instance instance);
      bytes = all-append in_port_name name.instance _ (wider name.instance (name_text name.instance instance))
          (all-append in_port_name name.interface _ (wider name.interface (name_text name.interface interface)) (wider (role_word r) (role_text r)));
      dollar = any-after is_dollar name.instance 36 _ refl;
    })
