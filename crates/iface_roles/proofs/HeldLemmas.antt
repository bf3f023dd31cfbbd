-- Settings by the place of their property.
use Rattle.std.proofs.Common.{◌≡◌, ◌≢◌, ℕ, List, [], ◌∷◌, Option, Some, None, get_or, zero, suc, set, refl, ap, sym, ◌∙◌, subst, eqb, true, false, get_or-set_other}
use Rattle.std.specs.Prelude.{slice_get, slice_set}
use Rattle.std.proofs.lemmas.Bool.Decides.{Decides-eqb, not_from_Decides}
use Rattle.iface_roles.specs.Held.{property_place, AreInRange}
use Rattle.iface_roles.specs.Properties.{all_properties, IsInRange}
use Rattle.iface_roles.specs.declared.properties.PropertyId.{PropertyId}
use Rattle.iface_roles.specs.declared.properties.PropertyId.TheVariants.{AddressUnits, ReadLatency, ReadWaitTime, WriteWaitTime, MaximumPendingReadTransactions, WaitRequestAllowance, SetupTime, HoldTime, ExplicitAddressSpan, BitsPerSymbol, BurstCountUnits, TimingUnits, AddressAlignment, LinewrapBursts, BurstOnBurstBoundariesOnly, IsBigEndian, SymbolsPerBeat, DataBitsPerSymbol, FirstSymbolInHighOrderBits, MaxChannel, ReadyLatency, ReadyAllowance, BeatsPerCycle, EmptyWithinPacket, AssociatedClock, Enabled}

-- each property stands at its place in the table
at_place : (id : PropertyId) → slice_get all_properties (property_place id) ≡ Some id
at_place AddressUnits = refl
at_place ReadLatency = refl
at_place ReadWaitTime = refl
at_place WriteWaitTime = refl
at_place MaximumPendingReadTransactions = refl
at_place WaitRequestAllowance = refl
at_place SetupTime = refl
at_place HoldTime = refl
at_place ExplicitAddressSpan = refl
at_place BitsPerSymbol = refl
at_place BurstCountUnits = refl
at_place TimingUnits = refl
at_place AddressAlignment = refl
at_place LinewrapBursts = refl
at_place BurstOnBurstBoundariesOnly = refl
at_place IsBigEndian = refl
at_place SymbolsPerBeat = refl
at_place DataBitsPerSymbol = refl
at_place FirstSymbolInHighOrderBits = refl
at_place MaxChannel = refl
at_place ReadyLatency = refl
at_place ReadyAllowance = refl
at_place BeatsPerCycle = refl
at_place EmptyWithinPacket = refl
at_place AssociatedClock = refl
at_place Enabled = refl

same_place : (a b : PropertyId) → property_place a ≡ property_place b → a ≡ b
same_place a b e = let x = at_place a in let y = at_place b in let z = ap (slice_get all_properties) e in cc

-- what is read where a number was written is that number
read_written : (settings : List (Option ℕ)) (i n x : ℕ) → get_or (set settings i (Some n)) i None ≡ Some x → n ≡ x
read_written [] i n x h = cc
read_written (y ∷ ys) zero n x h = cc
read_written (y ∷ ys) (suc i) n x h = read_written ys i n x h

-- settings stay in range where one within its property's range is written
pub AreInRange-set : (settings : List (Option ℕ)) (id : PropertyId) (place n : ℕ) → place ≡ property_place id → IsInRange id n → AreInRange settings → AreInRange (slice_set settings place (Some n))
AreInRange-set settings id place n is fits before other x =
    elim (eqb (property_place other) place) as (λ b. eqb (property_place other) place ≡ b → get_or (set settings place (Some n)) (property_place other) None ≡ Some x → IsInRange other x) [
      | true ↦ λ t read.
          let here : property_place other ≡ place = (Decides-eqb (property_place other) place).0 t in
          let read_here : get_or (set settings place (Some n)) place None ≡ Some x = subst (λ (k : ℕ). get_or (set settings place (Some n)) k None ≡ Some x) here read in
          let value = read_written settings place n x read_here in
          let same : id ≡ other = same_place id other (sym (here ∙ is)) in
          subst (λ (p : PropertyId). IsInRange p x) same (subst (λ (k : ℕ). IsInRange id k) value fits)
      | false ↦ λ t read.
          let apart : property_place other ≢ place = not_from_Decides _ (Decides-eqb (property_place other) place) t in
          before other x (sym (get_or-set_other settings place (property_place other) (Some n) None apart) ∙ read)
    ] refl
