-- The bytes of packets that are read of bytes.
use Rattle.std.proofs.Common.{◌≡◌, ℕ, zero, suc, ◌+◌, ◌<◌, ◌&&◌, Bool, true, false, List, [], ◌∷◌, ◌++◌, length, get_or, refl, sym, ap, ◌∙◌, arith}
use Rattle.std.specs.Prelude.{nat_lt, slice_index, bit_xor, if◌then◌else◌}
use Rattle.std.specs.List.{list_all}
use Rattle.std.proofs.lemmas.Bool.{lt-ltb, ltb-true, and_parts}
use Rattle.std.proofs.lemmas.Nat.{xor_lt}
use Rattle.std.proofs.lemmas.List.Folds.{list_all-append}
use Rattle.marked_bytes.specs.Items.{Spelled, Item, value_of, spelling, marks_spelling, item_spelling, items_spelling, packet_byte}
use Rattle.packet_bytes.specs.declared.gathering.Packet.{Packet}
use Rattle.packet_bytes.specs.Gathering.{Placed, placed, Gathered, nothing_gathered, with_byte, with_bytes, gathered}
use Rattle.scenario_runs.proofs.transfers.Packets.{AllBytes}

abbrev is_byte : ℕ → Bool
is_byte byte = nat_lt byte 256

abbrev pub are_bytes : List ℕ → Bool
are_bytes bytes = list_all is_byte bytes

both : (one other : List ℕ) → are_bytes one ≡ true → are_bytes other ≡ true → are_bytes (one ++ other) ≡ true
both one other h g = list_all-append is_byte one other ∙ ap (λ (t : Bool). t && are_bytes other) h ∙ g

front : (one other : List ℕ) → are_bytes (one ++ other) ≡ true → (are_bytes one ≡ true) × (are_bytes other ≡ true)
front one other h = and_parts (are_bytes one) (are_bytes other) (sym (list_all-append is_byte one other) ∙ h)

-- ---- items

value_small : (spelled : Spelled) → are_bytes (spelling spelled) ≡ true → is_byte (value_of spelled) ≡ true
value_small (Spelled.Itself byte) h = (and_parts (is_byte byte) true h).0
value_small (Spelled.Escaped byte) h =
    let small = ltb-true byte 256 (and_parts (is_byte byte) true h).0 in
    lt-ltb (bit_xor byte 0x20) 256 (xor_lt 8 byte 0x20 small (omega arith))

-- the data of placed bytes
abbrev AreSmall : List Placed → Type 0
AreSmall [] = Unit {0}
AreSmall (p ∷ rest) = (is_byte p.byte.byte ≡ true) × AreSmall rest

placed_small : (from before : ℕ) (items : List Item) → are_bytes (items_spelling items) ≡ true → AreSmall (placed from before items)
placed_small from before [] h = tt
placed_small from before (item ∷ rest) h =
    let parts = front (item_spelling item) (items_spelling rest) h in
    let spelled = (front (marks_spelling item.marks) (spelling item.byte) parts.0).1 in
    (value_small item.byte spelled, placed_small (from + length (item_spelling item)) (packet_byte before item).channel rest parts.1)

-- ---- packets

abbrev AllSmall : List Packet → Type 0
AllSmall [] = Unit {0}
AllSmall (packet ∷ rest) = (are_bytes packet.bytes ≡ true) × AllSmall rest

record IsSmall (g : Gathered) : Type 0 where
  whole : AllSmall g.packets
  opened : are_bytes g.bytes ≡ true

one_more : (packets : List Packet) (packet : Packet) → AllSmall packets → are_bytes packet.bytes ≡ true → AllSmall (packets ++ packet ∷ [])
one_more [] packet h g = (g, tt)
one_more (first ∷ rest) packet h g = (h.0, one_more rest packet h.1 g)

small_by : (last : Bool) (packets : List Packet) (packet : Packet) (bytes : List ℕ) (first : ℕ) → AllSmall packets → packet.bytes ≡ bytes → are_bytes bytes ≡ true
    → IsSmall (if last then record { packets = packets ++ packet ∷ []; bytes = []; first_place = first } else record { packets = packets; bytes = bytes; first_place = first })
small_by true packets packet bytes first h e g = record { whole = one_more packets packet h (ap are_bytes e ∙ g); opened = refl }
small_by false packets packet bytes first h e g = record { whole = h; opened = g }

byte_kept : (before : Gathered) (p : Placed) → IsSmall before → is_byte p.byte.byte ≡ true → IsSmall (with_byte before p)
byte_kept before p small h =
    small_by p.byte.last before.packets _ (before.bytes ++ p.byte.byte ∷ []) _ small.whole refl (both before.bytes (p.byte.byte ∷ []) small.opened (ap (λ (t : Bool). t && true) h))

bytes_kept : (before : Gathered) (ps : List Placed) → IsSmall before → AreSmall ps → IsSmall (with_bytes before ps)
bytes_kept before [] small h = small
bytes_kept before (p ∷ rest) small h = bytes_kept (with_byte before p) rest (byte_kept before p small h.0) h.1

at_place : (bytes : List ℕ) (i : ℕ) → are_bytes bytes ≡ true → slice_index bytes i < 256
at_place [] i h = omega arith
at_place (byte ∷ rest) zero h = ltb-true byte 256 (and_parts (is_byte byte) (are_bytes rest) h).0
at_place (byte ∷ rest) (suc i) h = at_place rest i (and_parts (is_byte byte) (are_bytes rest) h).1

all_of : (packets : List Packet) → AllSmall packets → AllBytes packets
all_of [] h = tt
all_of (packet ∷ rest) h = ((λ i. at_place packet.bytes i h.0), all_of rest h.1)

pub gathered_bytes : (items : List Item) → are_bytes (items_spelling items) ≡ true → AllBytes (gathered items).packets
gathered_bytes items h =
    all_of (gathered items).packets (bytes_kept nothing_gathered (placed 0 0 items) (record { whole = tt; opened = refl }) (placed_small 0 0 items h)).whole

-- numbers of 8 bits are bytes
pub bytes_by : (bytes : List ℕ) → ((k : ℕ) → k < length bytes → get_or bytes k 0 < 256) → are_bytes bytes ≡ true
bytes_by [] h = refl
bytes_by (byte ∷ rest) h = rw (lt-ltb byte 256 (h 0 (omega arith)), bytes_by rest (λ k less. h (suc k) (omega (arith, less)))) refl
