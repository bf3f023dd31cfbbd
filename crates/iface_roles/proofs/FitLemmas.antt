-- Where no rule fails, the numbers of the record are within the tables.
use Rattle.std.proofs.Common.{◌≡◌, ℕ, ◌/◌, ◌≤◌, Bool, true, false, ◌&&◌, ◌||◌, not, ◌*◌, cond, nat_lt, nat_le, nat_eq, zero, suc, List, [], ◌∷◌, Option, Some, None, refl, arith, ap, subst, slice_index_or}
use Rattle.std.specs.Prelude.{slice_get, is_some}
use Rattle.std.specs.List.{list_any}
use Rattle.std.specs.Option.{option_map_or}
use Rattle.std.proofs.lemmas.Bool.Decides.{nat_tests}
use Rattle.iface_roles.specs.declared.interface.Port.{Port}
use Rattle.iface_roles.specs.declared.kinds.Kind.{Kind}
use Rattle.iface_roles.specs.declared.kinds.Kind.TheVariants.{Mm, Stream}
use Rattle.iface_roles.specs.declared.properties.PropertyId.TheVariants.{DataBitsPerSymbol}
use Rattle.iface_roles.specs.declared.roles.Role.{Role}
use Rattle.iface_roles.specs.declared.roles.Role.TheVariants.{Address, BurstCount, ReadData, WriteData, Data, Valid, Channel, Error, StartOfPacket, Empty}
use Rattle.iface_roles.specs.Held.{Held, has, width_of, port_of, role_place, setting_of}
use Rattle.iface_roles.specs.Kinds.{is_avalon}
use Rattle.iface_roles.specs.Records.{FitsMm, FitsStream}
use Rattle.iface_roles.specs.Roles.{all_roles}
use Rattle.iface_roles.specs.Rules.{tests, KeepsRules, is_odd, is_word, is_beat, has_odd_width, has_odd_data, has_odd_empty, can_count, symbols_of, lacks_ports_as}

-- the test of each rule is false
pub and-right : (a b : Bool) → a ≡ true → (a && b) ≡ false → b ≡ false
and-right true b h e = e
and-right false b h e = cc

pub kept : (i : Held) → is_avalon i.kind ≡ true → KeepsRules i → (k : ℕ) → slice_index_or (tests i) k false ≡ false
kept i avalon keeps k = and-right (is_avalon i.kind) (slice_index_or (tests i) k false) avalon (keeps (suc k))

pub or-left : (a b : Bool) → (a || b) ≡ false → a ≡ false
or-left true b h = cc
or-left false b h = refl

pub or-right : (a b : Bool) → (a || b) ≡ false → b ≡ false
or-right true b h = cc
or-right false b h = h

-- a test that no element passes, at one of them
none_passes : {X : Type 0} (p : X → Bool) (xs : List X) (k : ℕ) (x : X) → list_any p xs ≡ false → slice_get xs k ≡ Some x → p x ≡ false
none_passes p [] k x h e = cc
none_passes p (y ∷ ys) zero x h e = let same : y ≡ x = cc in subst (λ z. p z ≡ false) same (or-left (p y) (list_any p ys) h)
none_passes p (y ∷ ys) (suc k) x h e = none_passes p ys k x (or-right (p y) (list_any p ys) h) e

-- the width of a port, 0 where there is none
abbrev pub bits_of : Option Port → ℕ
bits_of o = option_map_or (λ port. port.width) o 0

pub within : (o : Option Port) (low high : ℕ) → (is_some o && not (nat_le low (bits_of o) && nat_le (bits_of o) high)) ≡ false → bits_of o ≤ high
within None low high h = omega arith
within (Some port) low high h = grind (arith, nat_tests)

word-within : (o : Option Port) → (is_some o && not (is_word (bits_of o))) ≡ false → bits_of o ≤ 128
word-within None h = omega arith
word-within (Some port) h = grind (arith, nat_tests)

pub empty-within : (symbols : ℕ) (o : Option Port) → (is_some o && not (can_count symbols (bits_of o))) ≡ false → bits_of o ≤ 8
empty-within symbols None h = omega arith
empty-within symbols (Some port) h = grind (arith, nat_tests)

either-within : (b : Bool) (m n : ℕ) → m ≤ 128 → n ≤ 128 → cond b m n / 8 ≤ 16
either-within true m n hm hn = omega arith
either-within false m n hm hn = omega arith

pub narrow : (i : Held) (role : Role) → slice_get all_roles (role_place role) ≡ Some role → has_odd_width i ≡ false → is_odd i role ≡ false
narrow i role at h = none_passes (is_odd i) all_roles (role_place role) role h at

pub FitsMm-from_rules : (i : Held) → i.kind ≡ Mm → KeepsRules i → FitsMm i
FitsMm-from_rules i mm keeps =
    let avalon : is_avalon i.kind ≡ true = ap is_avalon mm in
    let widths : has_odd_width i ≡ false = kept i avalon keeps 6 in
    let words : has_odd_data i ≡ false = kept i avalon keeps 4 in
    let odd_read = has i ReadData && not (is_word (width_of i ReadData)) in
    let odd_write = has i WriteData && not (is_word (width_of i WriteData)) in
    let odd_beat = has i Data && not (is_beat i) in
    let both = or-left (odd_read || odd_write) odd_beat words in
    record {
      address = within (port_of i Address) 1 32 (narrow i Address refl widths);
      word = either-within (has i ReadData) (width_of i ReadData) (width_of i WriteData)
          (word-within (port_of i ReadData) (or-left odd_read odd_write both))
          (word-within (port_of i WriteData) (or-right odd_read odd_write both));
      burst = within (port_of i BurstCount) 1 11 (narrow i BurstCount refl widths);
    }

-- a beat has at most 32 symbols where the data is there
pub beat-within : (there : Bool) (symbols width bits : ℕ) → not there ≡ false → (there && not (nat_le 1 symbols && nat_le symbols 32 && nat_eq width (bits))) ≡ false → symbols ≤ 32
beat-within true symbols width bits h e = grind (arith, nat_tests)
beat-within false symbols width bits h e = cc

pub FitsStream-from_rules : (i : Held) → i.kind ≡ Stream → KeepsRules i → FitsStream i
FitsStream-from_rules i stream keeps =
    let avalon : is_avalon i.kind ≡ true = ap is_avalon stream in
    let widths : has_odd_width i ≡ false = kept i avalon keeps 6 in
    let datas : has_odd_data i ≡ false = kept i avalon keeps 4 in
    let empties : has_odd_empty i ≡ false = kept i avalon keeps 11 in
    let ports : lacks_ports_as Stream i.side i ≡ false = subst (λ (k : Kind). lacks_ports_as k i.side i ≡ false) stream (kept i avalon keeps 0) in
    let odd_read = has i ReadData && not (is_word (width_of i ReadData)) in
    let odd_write = has i WriteData && not (is_word (width_of i WriteData)) in
    let odd_beat = has i Data && not (is_beat i) in
    let alone = has i Empty && not (has i StartOfPacket) in
    let odd = has i Empty && not (can_count (symbols_of i) (width_of i Empty)) in
    let missing = has i StartOfPacket && not (has i Empty) && nat_lt 1 (symbols_of i) in
    record {
      symbols = beat-within (has i Data) (symbols_of i) (width_of i Data) (symbols_of i * setting_of i DataBitsPerSymbol)
          (or-left (not (has i Data)) (not (has i Valid)) ports)
          (or-right (odd_read || odd_write) odd_beat datas);
      channel = within (port_of i Channel) 1 16 (narrow i Channel refl widths);
      error = within (port_of i Error) 1 32 (narrow i Error refl widths);
      empty = empty-within (symbols_of i) (port_of i Empty) (or-right alone odd (or-left (alone || odd) missing empties));
    }
