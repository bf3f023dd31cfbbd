-- The table of properties: each name is in it once, and none of them is passed over.
use Rattle.std.proofs.Common.{◌≡◌, ℕ, Bool, true, false, ◌||◌, ◌&&◌, ◌⊎◌, ◌↔◌, inl, inr, not, List, [], ◌∷◌, Option, Some, None, refl, subst, sym, ap}
use Rattle.std.specs.Prelude.{find, is_none}
use Rattle.std.specs.List.{list_any, list_all}
use Rattle.std.specs.Str.{bytes_eq}
use Rattle.iface_roles.specs.Kinds.{is_avalon}
use Rattle.iface_roles.specs.Names.{lower, same_name}
use Rattle.iface_roles.specs.Properties.{property_row, all_properties, passed_over, is_of, is_called, is_listed, IsKnownAs, IsPassedOver}
use Rattle.iface_roles.specs.declared.kinds.Kind.{Kind}
use Rattle.iface_roles.specs.declared.kinds.Kind.TheVariants.{Clock, Reset, Mm, Stream, Conduit, Interrupt}
use Rattle.iface_roles.specs.declared.properties.Kinds.{Kinds}
use Rattle.iface_roles.specs.declared.properties.Kinds.TheVariants.{OfMm, OfStream, OfBoth}
use Rattle.iface_roles.specs.declared.properties.Property.TheVariants.{Known}
use Rattle.iface_roles.specs.declared.properties.PropertyId.{PropertyId}
use Rattle.iface_roles.specs.declared.properties.PropertyId.TheVariants.{AddressUnits, ReadLatency, ReadWaitTime, WriteWaitTime, MaximumPendingReadTransactions, WaitRequestAllowance, SetupTime, HoldTime, ExplicitAddressSpan, BitsPerSymbol, BurstCountUnits, TimingUnits, AddressAlignment, LinewrapBursts, BurstOnBurstBoundariesOnly, IsBigEndian, SymbolsPerBeat, DataBitsPerSymbol, FirstSymbolInHighOrderBits, MaxChannel, ReadyLatency, ReadyAllowance, BeatsPerCycle, EmptyWithinPacket, AssociatedClock, Enabled}
use Rattle.iface_roles.proofs.NameLemmas.{same_name-true, find-passes}

-- the property whose name or other name is this text in lower case
abbrev lookup : List ℕ → Option PropertyId
lookup low = find (λ id. bytes_eq (lower (property_row id).name) low || bytes_eq (lower (property_row id).synonym) low) all_properties

lookup-name : (id : PropertyId) → lookup (lower (property_row id).name) ≡ Some id
lookup-name AddressUnits = refl
lookup-name ReadLatency = refl
lookup-name ReadWaitTime = refl
lookup-name WriteWaitTime = refl
lookup-name MaximumPendingReadTransactions = refl
lookup-name WaitRequestAllowance = refl
lookup-name SetupTime = refl
lookup-name HoldTime = refl
lookup-name ExplicitAddressSpan = refl
lookup-name BitsPerSymbol = refl
lookup-name BurstCountUnits = refl
lookup-name TimingUnits = refl
lookup-name AddressAlignment = refl
lookup-name LinewrapBursts = refl
lookup-name BurstOnBurstBoundariesOnly = refl
lookup-name IsBigEndian = refl
lookup-name SymbolsPerBeat = refl
lookup-name DataBitsPerSymbol = refl
lookup-name FirstSymbolInHighOrderBits = refl
lookup-name MaxChannel = refl
lookup-name ReadyLatency = refl
lookup-name ReadyAllowance = refl
lookup-name BeatsPerCycle = refl
lookup-name EmptyWithinPacket = refl
lookup-name AssociatedClock = refl
lookup-name Enabled = refl

lookup-synonym : (id : PropertyId) → lookup (lower (property_row id).synonym) ≡ Some id
lookup-synonym AddressUnits = refl
lookup-synonym ReadLatency = refl
lookup-synonym ReadWaitTime = refl
lookup-synonym WriteWaitTime = refl
lookup-synonym MaximumPendingReadTransactions = refl
lookup-synonym WaitRequestAllowance = refl
lookup-synonym SetupTime = refl
lookup-synonym HoldTime = refl
lookup-synonym ExplicitAddressSpan = refl
lookup-synonym BitsPerSymbol = refl
lookup-synonym BurstCountUnits = refl
lookup-synonym TimingUnits = refl
lookup-synonym AddressAlignment = refl
lookup-synonym LinewrapBursts = refl
lookup-synonym BurstOnBurstBoundariesOnly = refl
lookup-synonym IsBigEndian = refl
lookup-synonym SymbolsPerBeat = refl
lookup-synonym DataBitsPerSymbol = refl
lookup-synonym FirstSymbolInHighOrderBits = refl
lookup-synonym MaxChannel = refl
lookup-synonym ReadyLatency = refl
lookup-synonym ReadyAllowance = refl
lookup-synonym BeatsPerCycle = refl
lookup-synonym EmptyWithinPacket = refl
lookup-synonym AssociatedClock = refl
lookup-synonym Enabled = refl

or-cases : (a b : Bool) → (a || b) ≡ true → (a ≡ true) ⊎ (b ≡ true)
or-cases true b h = inl refl
or-cases false b h = inr h

-- a search by any name of a property finds it
pub find-called : (id : PropertyId) (text : List ℕ) → is_called id text ≡ true → find (λ r. is_called r text) all_properties ≡ Some id
find-called id text h =
    let P : List ℕ → Type 0 = λ low. lookup low ≡ Some id in
    elim (or-cases (same_name (property_row id).name text) (same_name (property_row id).synonym text) h) [
      | inl e ↦ subst P (same_name-true (property_row id).name text e) (lookup-name id)
      | inr e ↦ subst P (same_name-true (property_row id).synonym text e) (lookup-synonym id)
    ]

-- no name that is passed over is a property's
none_listed : list_all (λ name. is_none (lookup (lower name))) passed_over ≡ true
none_listed = refl

and-both : (a b : Bool) → (a && b) ≡ true → (a ≡ true) × (b ≡ true)
and-both true b h = (refl, h)
and-both false b h = cc

is_none-true : {X : Type 0} (o : Option X) → is_none o ≡ true → o ≡ None
is_none-true None h = refl
is_none-true (Some x) h = cc

lookup-among : (names : List (List ℕ)) (text : List ℕ) → list_all (λ name. is_none (lookup (lower name))) names ≡ true → list_any (λ name. same_name name text) names ≡ true → lookup (lower text) ≡ None
lookup-among [] text all any = cc
lookup-among (name ∷ names) text all any =
    let both = and-both (is_none (lookup (lower name))) (list_all (λ n. is_none (lookup (lower n))) names) all in
    elim (or-cases (same_name name text) (list_any (λ n. same_name n text) names) any) [
      | inl e ↦ let P : List ℕ → Type 0 = λ low. lookup low ≡ None in subst P (same_name-true name text e) (is_none-true (lookup (lower name)) both.0)
      | inr e ↦ lookup-among names text both.1 e
    ]

is_of-avalon : (kinds : Kinds) (kind : Kind) → is_of kinds kind ≡ true → is_avalon kind ≡ true
is_of-avalon OfMm Clock h = cc
is_of-avalon OfMm Reset h = cc
is_of-avalon OfMm Mm h = refl
is_of-avalon OfMm Stream h = cc
is_of-avalon OfMm Conduit h = cc
is_of-avalon OfMm Interrupt h = cc
is_of-avalon OfStream Clock h = cc
is_of-avalon OfStream Reset h = cc
is_of-avalon OfStream Mm h = cc
is_of-avalon OfStream Stream h = refl
is_of-avalon OfStream Conduit h = cc
is_of-avalon OfStream Interrupt h = cc
is_of-avalon OfBoth kind h = h

listed-any : (text : List ℕ) → is_listed text ≡ true → list_any (λ name. same_name name text) passed_over ≡ true
unfolding is_listed
listed-any text h = h

-- what is passed over is no property's name
pub never_known : (kind : Kind) (text : List ℕ) → IsPassedOver kind text → (id : PropertyId) → IsKnownAs kind id text → ⊥
never_known kind text (inl e) id h =
    let a = is_of-avalon (property_row id).kinds kind h.of_kind in
    let n : not true ≡ true = subst (λ (b : Bool). not b ≡ true) a e in cc
never_known kind text (inr e) id h =
    let found = find-called id text h.name in
    let none : lookup (lower text) ≡ None = lookup-among passed_over text none_listed (listed-any text e) in
    cc

-- the property that was found, where the kind has it, is the one that the text names
pub known_found : (kind : Kind) (text : List ℕ) (found : PropertyId) → Some found ≡ find (λ r. is_called r text) all_properties → is_of (property_row found).kinds kind ≡ true → (id : PropertyId) → (Known found ≡ Known id) ↔ IsKnownAs kind id text
known_found kind text found e of id = (
  λ is. let same : found ≡ id = cc in
      let name = find-passes (λ r. is_called r text) all_properties found (sym e) in
      subst (λ (x : PropertyId). IsKnownAs kind x text) same (record { of_kind = of; name = name }),
  λ h. let there = find-called id text h.name in let same : found ≡ id = cc in ap Known same,
)

-- where the kind lacks the property that was found, the text names none
pub lacked_found : (kind : Kind) (text : List ℕ) (found : PropertyId) → Some found ≡ find (λ r. is_called r text) all_properties → is_of (property_row found).kinds kind ≡ false → (id : PropertyId) → IsKnownAs kind id text → ⊥
lacked_found kind text found e of id h =
    let there = find-called id text h.name in
    let same : id ≡ found = cc in
    let has = h.of_kind in
    let has2 : is_of (property_row found).kinds kind ≡ true = subst (λ (x : PropertyId). is_of (property_row x).kinds kind ≡ true) same has in cc

pub none_found : (kind : Kind) (text : List ℕ) → None ≡ find (λ r. is_called r text) all_properties → (id : PropertyId) → IsKnownAs kind id text → ⊥
none_found kind text e id h = let there = find-called id text h.name in cc
