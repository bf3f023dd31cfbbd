-- Numbers, words of two parts, and the names of roles and properties.
use Rattle.std.proofs.Common.{◌≡◌, ◌≢◌, ℕ, ◌<◌, ◌≤◌, ◌^◌, Bool, true, false, cond, not, ◌&&◌, ◌||◌, ◌↔◌, List, [], ◌∷◌, length, drop, get_or, Option, Some, None, Result, Ok, Err, sym, refl, ap, ◌∙◌, subst, arith, Decides, nat_lt, nat_eq, lit<, inl, inr}
use Rattle.std.specs.Prelude.{find, codes, ◌==◌}
use Rattle.std.specs.Char.{is_digit, digit_value}
use Rattle.std.specs.List.{list_all, starts_with}
use Rattle.std.specs.Result.{OkIff, result_ok}
use Rattle.std.specs.Str.Parse.{AllDigits, IsNumeral, digits_value, ParsesUnsigned, without_leading_plus}
use Rattle.std.proofs.lemmas.Bool.{false_from_ne_true, and_parts}
use Rattle.std.proofs.lemmas.Bool.Decides.{nat_tests, Decides-and, Decides-ltb}
use Rattle.std.proofs.lemmas.Slice.Eq.{starts_is}
use Rattle.std.proofs.lemmas.Bool.Decides.{Decides-eqb}
use Rattle.iface_roles.specs.declared.kinds.Kind.{Kind}
use Rattle.iface_roles.specs.declared.properties.Property.{Property}
use Rattle.iface_roles.specs.declared.properties.Property.TheVariants.{Known, PassedOver, Unknown}
use Rattle.iface_roles.specs.declared.properties.PropertyId.{PropertyId}
use Rattle.iface_roles.specs.declared.properties.PropertyId.TheVariants.{AddressUnits, ReadLatency, ReadWaitTime, WriteWaitTime, MaximumPendingReadTransactions, WaitRequestAllowance, SetupTime, HoldTime, ExplicitAddressSpan, BitsPerSymbol, BurstCountUnits, TimingUnits, AddressAlignment, LinewrapBursts, BurstOnBurstBoundariesOnly, IsBigEndian, SymbolsPerBeat, DataBitsPerSymbol, FirstSymbolInHighOrderBits, MaxChannel, ReadyLatency, ReadyAllowance, BeatsPerCycle, EmptyWithinPacket, AssociatedClock, Enabled}
use Rattle.iface_roles.specs.declared.roles.Role.{Role}
use Rattle.iface_roles.specs.declared.roles.Role.TheVariants.{Address, Read, Write, WriteData, ByteEnable, BurstCount, WaitRequest, ReadData, ReadDataValid, Response, WriteResponseValid, Lock, DebugAccess, BeginBurstTransfer, Ready, Valid, Data, Channel, Error, StartOfPacket, EndOfPacket, Empty}
use Rattle.iface_roles.specs.Held.{role_place, property_place}
use Rattle.iface_roles.specs.Kinds.{is_avalon}
use Rattle.iface_roles.specs.Properties.{all_properties, is_listed, IsKnownAs, IsPassedOver}
use Rattle.iface_roles.specs.Roles.{all_roles, IsNamed}
use Rattle.script_words.specs.Kinds.{role_named, property_named, known_or_not}
use Rattle.script_words.specs.Laws.{find-fails, find-passes, is_role, role_Decides, is_property, property_Decides}
use Rattle.script_words.specs.Names.{is_empty}
use Rattle.script_words.specs.Numbers.{is_numeral, number_in, number_of}

digits_Decides : (radix : ℕ) (text : List ℕ) → Decides (list_all (λ byte. is_digit byte radix) text) (AllDigits radix text)
digits_Decides radix [] = (λ _. tt, λ _. refl)
digits_Decides radix (c ∷ cs) =
    Decides-and _ _ (Decides-ltb (digit_value c) radix) (digits_Decides radix cs)

nonempty_Decides : (text : List ℕ) → Decides (not (is_empty text)) (0 < length text)
nonempty_Decides text = (λ e. grind (arith, nat_tests), λ h. grind (arith, nat_tests))

numeral_Decides : (radix : ℕ) (text : List ℕ) → Decides (is_numeral radix text) (IsNumeral radix text)
numeral_Decides radix text = Decides-and _ _ (nonempty_Decides text) (digits_Decides radix text)

-- no numeral begins with '+'
pub plus_is_none : (radix : ℕ) (text : List ℕ) → radix ≤ 36 → get_or text 0 0 ≡ 43 → None ≡ number_in radix text
unfolding number_in
plus_is_none radix [] h e = refl
plus_is_none radix (c ∷ cs) h e =
    let odd : digit_value c < radix → ⊥ = subst (λ x. digit_value x < radix → ⊥) (sym e) (λ l. absurd (omega arith)) in
    let fails : (is_numeral radix (c ∷ cs) && nat_lt (digits_value radix (c ∷ cs)) (2 ^ 32)) ≡ false =
    false_from_ne_true _ (λ t. odd ((numeral_Decides radix (c ∷ cs)).0 (and_parts _ _ t).0).1.0) in
    rw fails refl

by_parse : {E : Type 0} (radix : ℕ) (text : List ℕ) (r : Result ℕ E)
    → OkIff r (IsNumeral radix text × (digits_value radix text < 2 ^ 32)) (digits_value radix text) → result_ok r ≡ number_in radix text
unfolding number_in
by_parse radix text (Ok n) h =
    let passes = (Decides-and _ _ (numeral_Decides radix text) (Decides-ltb (digits_value radix text) (2 ^ 32))).1 h.0 in
    rw passes (ap Some h.1)
by_parse radix text (Err e) h =
    let fails : (is_numeral radix text && nat_lt (digits_value radix text) (2 ^ 32)) ≡ false =
    false_from_ne_true _ (λ t. h ((Decides-and _ _ (numeral_Decides radix text) (Decides-ltb (digits_value radix text) (2 ^ 32))).0 t)) in
    rw fails refl

pub number_parsed : {E : Type 0} (radix : ℕ) (text : List ℕ) (r : Result ℕ E) → get_or text 0 0 ≢ 43
    → ParsesUnsigned 32 radix text r → result_ok r ≡ number_in radix text
number_parsed radix text r h p =
    let same : without_leading_plus text ≡ text =
    (let odd : (get_or text 0 0 == 43) ≡ false = grind (arith, nat_tests) in rw odd refl) in
    by_parse radix text r (subst (λ t. OkIff r (IsNumeral radix t × (digits_value radix t < 2 ^ 32)) (digits_value radix t)) same p)

-- behind `0x`
pub number_hexadecimal : (text digits : List ℕ) (n : ℕ) → n ≡ 2 → text ≡ 48 ∷ 120 ∷ drop n text → digits ≡ drop n text
    → number_in 16 digits ≡ number_of text
unfolding number_of
number_hexadecimal text digits n two begins is =
    let rest : text ≡ 48 ∷ 120 ∷ drop 2 text = subst (λ k. text ≡ 48 ∷ 120 ∷ drop k text) two begins in
    let starts : starts_with nat_eq text (codes "0x") ≡ true = (starts_is Decides-eqb text (codes "0x") _ refl).1 (drop 2 text) rest in
    rw starts (ap (number_in 16) (is ∙ ap (λ k. drop k text) two))

pub number_decimal : (text : List ℕ) → ((rest : List ℕ) → text ≢ 48 ∷ 120 ∷ rest) → number_in 10 text ≡ number_of text
unfolding number_of
number_decimal text lacks =
    let starts : starts_with nat_eq text (codes "0x") ≡ false =
    false_from_ne_true _ (λ t. lacks (drop 2 text) ((starts_is Decides-eqb text (codes "0x") _ refl).0 t)) in
    rw starts refl

role_there : (role : Role) → (role_place role < length all_roles) × (get_or all_roles (role_place role) role ≡ role)
role_there Address = (lit< tt, refl)
role_there Read = (lit< tt, refl)
role_there Write = (lit< tt, refl)
role_there WriteData = (lit< tt, refl)
role_there ByteEnable = (lit< tt, refl)
role_there BurstCount = (lit< tt, refl)
role_there WaitRequest = (lit< tt, refl)
role_there ReadData = (lit< tt, refl)
role_there ReadDataValid = (lit< tt, refl)
role_there Response = (lit< tt, refl)
role_there WriteResponseValid = (lit< tt, refl)
role_there Lock = (lit< tt, refl)
role_there DebugAccess = (lit< tt, refl)
role_there BeginBurstTransfer = (lit< tt, refl)
role_there Ready = (lit< tt, refl)
role_there Valid = (lit< tt, refl)
role_there Data = (lit< tt, refl)
role_there Channel = (lit< tt, refl)
role_there Error = (lit< tt, refl)
role_there StartOfPacket = (lit< tt, refl)
role_there EndOfPacket = (lit< tt, refl)
role_there Empty = (lit< tt, refl)

property_there : (id : PropertyId) → (property_place id < length all_properties) × (get_or all_properties (property_place id) id ≡ id)
property_there AddressUnits = (lit< tt, refl)
property_there ReadLatency = (lit< tt, refl)
property_there ReadWaitTime = (lit< tt, refl)
property_there WriteWaitTime = (lit< tt, refl)
property_there MaximumPendingReadTransactions = (lit< tt, refl)
property_there WaitRequestAllowance = (lit< tt, refl)
property_there SetupTime = (lit< tt, refl)
property_there HoldTime = (lit< tt, refl)
property_there ExplicitAddressSpan = (lit< tt, refl)
property_there BitsPerSymbol = (lit< tt, refl)
property_there BurstCountUnits = (lit< tt, refl)
property_there TimingUnits = (lit< tt, refl)
property_there AddressAlignment = (lit< tt, refl)
property_there LinewrapBursts = (lit< tt, refl)
property_there BurstOnBurstBoundariesOnly = (lit< tt, refl)
property_there IsBigEndian = (lit< tt, refl)
property_there SymbolsPerBeat = (lit< tt, refl)
property_there DataBitsPerSymbol = (lit< tt, refl)
property_there FirstSymbolInHighOrderBits = (lit< tt, refl)
property_there MaxChannel = (lit< tt, refl)
property_there ReadyLatency = (lit< tt, refl)
property_there ReadyAllowance = (lit< tt, refl)
property_there BeatsPerCycle = (lit< tt, refl)
property_there EmptyWithinPacket = (lit< tt, refl)
property_there AssociatedClock = (lit< tt, refl)
property_there Enabled = (lit< tt, refl)

pub role_named_of : (kind : Kind) (text : List ℕ) (r : Option Role) → ((role : Role) → (r ≡ Some role) ↔ IsNamed kind role text) → r ≡ role_named kind text
unfolding role_named
role_named_of kind text r h = by (find (is_role kind text) all_roles) refl
  where
    by : (o : Option Role) → find (is_role kind text) all_roles ≡ o → r ≡ o
    by (Some role) e = (h role).1 ((role_Decides kind text role).0 (find-passes (is_role kind text) all_roles role e))
    by None e = none r refl
      where
        none : (o : Option Role) → r ≡ o → r ≡ None
        none None q = q
        none (Some role) q =
            let passes = (role_Decides kind text role).1 ((h role).0 q) in
            let fails = find-fails (is_role kind text) all_roles (role_place role) role e (role_there role).0 (role_there role).1 in
            cc

pub property_named_of : (kind : Kind) (text : List ℕ) (r : Property)
    → ((id : PropertyId) → (r ≡ Known id) ↔ IsKnownAs kind id text) → ((r ≡ PassedOver) ↔ IsPassedOver kind text) → r ≡ property_named kind text
unfolding property_named
property_named_of kind text r known passed = by (not (is_avalon kind)) (is_listed text) refl refl
  where
    neither : not (is_avalon kind) ≡ false → is_listed text ≡ false → IsPassedOver kind text → ⊥
    neither a l (inl h) = cc
    neither a l (inr h) = cc

    some : not (is_avalon kind) ≡ false → is_listed text ≡ false → (o : Option PropertyId) → find (is_property kind text) all_properties ≡ o → r ≡ known_or_not o
    some a l (Some id) e = (known id).1 ((property_Decides kind text id).0 (find-passes (is_property kind text) all_properties id e))
    some a l None e = none r refl
      where
        none : (o : Property) → r ≡ o → r ≡ Unknown
        none Unknown q = q
        none PassedOver q = absurd (neither a l (passed.0 q))
        none (Known id) q =
            let passes = (property_Decides kind text id).1 ((known id).0 q) in
            let fails = find-fails (is_property kind text) all_properties (property_place id) id e (property_there id).0 (property_there id).1 in
            cc

    by : (a l : Bool) → not (is_avalon kind) ≡ a → is_listed text ≡ l → r ≡ cond (a || l) PassedOver (known_or_not (find (is_property kind text) all_properties))
    by true l ea el = passed.1 (inl ea)
    by false true ea el = passed.1 (inr el)
    by false false ea el = some ea el (find (is_property kind text) all_properties) refl
