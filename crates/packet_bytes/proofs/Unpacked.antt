-- Packets that are gathered by their marks are those of the bytes that items give.
use Rattle.std.proofs.Common.{◌≡◌, ℕ, ◌+◌, ◌<◌, cond, Bool, true, false, List, [], ◌∷◌, ◌++◌, length, map, refl, sym, ap, ◌∙◌, append_assoc, length-append, arith}
use Rattle.std.specs.Prelude.{◌&&◌, not, flat_map}
use Rattle.std.specs.List.{list_all}
use Rattle.std.proofs.lemmas.Bool.{and_parts, and_from, eqb-true}
use Rattle.std.proofs.lemmas.Bool.Decides.{nat_tests}
use Rattle.std.proofs.lemmas.List.{append-nil, map-append}
use Rattle.std.proofs.lemmas.List.Concat.{flat_map-append}
use Rattle.std.proofs.lemmas.List.Folds.{list_all-append}
use Rattle.marked_bytes.specs.declared.unpacker.PacketByte.{PacketByte}
use Rattle.marked_bytes.specs.Items.{Item, marks_spelling, item_spelling, packet_byte, given, channel_behind, is_inside_behind, may_stand, are_in_packets, is_item, marked_bytes, packet_bytes, is_packet, IsUnpacked}
use Rattle.packet_bytes.specs.declared.gathering.Packet.{Packet}
use Rattle.packet_bytes.specs.Gathering.{placed, Gathered, with_byte, with_bytes, nothing_gathered, gathered}
use Rattle.packet_bytes.specs.Streams.{AreRead}
use Rattle.packet_bytes.specs.Unplaced.{unplaced}

abbrev is_begun : List ℕ → Bool
is_begun [] = false
is_begun (byte ∷ rest) = true

-- the bytes of a packet that stands open
abbrev opened : ℕ → Bool → List ℕ → List PacketByte
opened channel first [] = []
opened channel first (byte ∷ rest) = record { channel = channel; first = first; last = false; byte = byte } ∷ opened channel false rest

abbrev one : ℕ → Bool → Bool → ℕ → PacketByte
one channel first last byte = record { channel = channel; first = first; last = last; byte = byte }

more_open : (channel : ℕ) (first : Bool) (bytes : List ℕ) (byte : ℕ) → opened channel first bytes ++ one channel (cond (is_begun bytes) false first) false byte ∷ [] ≡ opened channel first (bytes ++ byte ∷ [])
more_open channel first [] byte = refl
more_open channel first (b ∷ []) byte = refl
more_open channel first (b ∷ next ∷ rest) byte = ap (λ xs. one channel first false b ∷ xs) (more_open channel false (next ∷ rest) byte)

last_ends : (channel : ℕ) (first : Bool) (bytes : List ℕ) (byte : ℕ) → opened channel first bytes ++ one channel (cond (is_begun bytes) false first) true byte ∷ [] ≡ marked_bytes channel first (bytes ++ byte ∷ [])
last_ends channel first [] byte = refl
last_ends channel first (b ∷ []) byte = refl
last_ends channel first (b ∷ next ∷ rest) byte = ap (λ xs. one channel first false b ∷ xs) (last_ends channel false (next ∷ rest) byte)

still_begun : (bytes : List ℕ) (byte : ℕ) → is_begun (bytes ++ byte ∷ []) ≡ true
still_begun [] byte = refl
still_begun (b ∷ rest) byte = refl

-- the channel on which a byte that may stand goes on, and whether it is marked as the first
stands : (bytes : List ℕ) (before channel : ℕ) (first : Bool) → may_stand (is_begun bytes) before channel first ≡ true
    → (opened before true bytes ≡ opened channel true bytes) × (first ≡ cond (is_begun bytes) false true)
stands [] before channel first h = (refl, h)
stands (b ∷ rest) before channel true h = cc
stands (b ∷ rest) before channel false h = (ap (λ c. opened c true (b ∷ rest)) (sym (eqb-true channel before h)), refl)

abbrev plain_bytes : List Packet → List PacketByte
plain_bytes packets = flat_map packet_bytes (map unplaced packets)

plain_more : (packets : List Packet) (packet : Packet) → plain_bytes (packets ++ packet ∷ []) ≡ plain_bytes packets ++ marked_bytes packet.channel true packet.bytes
plain_more packets packet =
    ap (flat_map packet_bytes) (map-append unplaced packets (packet ∷ [])) ∙ flat_map-append packet_bytes (map unplaced packets) (unplaced packet ∷ [])
    ∙ ap (λ xs. plain_bytes packets ++ xs) (append-nil (packet_bytes (unplaced packet)))

abbrev are_plain : List Packet → Bool
are_plain packets = list_all is_packet (map unplaced packets)

plain_whole : (packets : List Packet) (packet : Packet) → are_plain packets ≡ true → 0 < length packet.bytes → are_plain (packets ++ packet ∷ []) ≡ true
plain_whole packets packet h l =
    let some : is_packet (unplaced packet) ≡ true = grind (arith, nat_tests) in
    ap (list_all is_packet) (map-append unplaced packets (packet ∷ [])) ∙ list_all-append is_packet (map unplaced packets) (unplaced packet ∷ [])
    ∙ and_from (are_plain packets) (is_packet (unplaced packet) && true) h (and_from (is_packet (unplaced packet)) true some refl)

-- the bytes of what is gathered, on the channel of the last of them
abbrev all_bytes : Gathered → ℕ → List PacketByte
all_bytes held channel = plain_bytes held.packets ++ opened channel true held.bytes

pub record IsGathered (before : Gathered) (channel : ℕ) (items : List Item) (after : Gathered) : Type 0 where
  pub bytes : all_bytes before channel ++ given channel items ≡ all_bytes after (channel_behind channel (given channel items))
  pub inside : is_begun after.bytes ≡ is_inside_behind (is_begun before.bytes) (given channel items)
  pub whole : are_plain after.packets ≡ true

-- one byte
pub record IsJoined (before : Gathered) (channel : ℕ) (byte : PacketByte) (after : Gathered) : Type 0 where
  pub bytes : all_bytes before channel ++ byte ∷ [] ≡ all_bytes after byte.channel
  pub inside : is_begun after.bytes ≡ not byte.last
  pub whole : are_plain after.packets ≡ true

joined : (before : Gathered) (channel place : ℕ) (byte : PacketByte) (last : Bool) → byte.last ≡ last → may_stand (is_begun before.bytes) channel byte.channel byte.first ≡ true → are_plain before.packets ≡ true
    → IsJoined before channel byte (with_byte before (record { byte = byte; place = place }))
joined before channel place byte true e m w =
    let s = stands before.bytes channel byte.channel byte.first m in
    let bytes = before.bytes ++ byte.byte ∷ [] in
    let first_at = cond byte.first place before.first_place in
    let packet : Packet = record { channel = byte.channel; bytes = bytes; first_place = first_at; last_place = place } in
    let after : Gathered = record { packets = before.packets ++ packet ∷ []; bytes = []; first_place = first_at } in
    let still : Gathered = record { packets = before.packets; bytes = bytes; first_place = first_at } in
    let is : with_byte before (record { byte = byte; place = place }) ≡ after = ap (λ b. cond b after still) e in
    let ends : opened channel true before.bytes ++ byte ∷ [] ≡ marked_bytes byte.channel true bytes =
    ap (λ xs. xs ++ byte ∷ []) s.0 ∙ ap (λ f. opened byte.channel true before.bytes ++ one byte.channel f byte.last byte.byte ∷ []) s.1
    ∙ ap (λ l. opened byte.channel true before.bytes ++ one byte.channel (cond (is_begun before.bytes) false true) l byte.byte ∷ []) e
    ∙ last_ends byte.channel true before.bytes byte.byte in
    record {
      bytes = append_assoc (plain_bytes before.packets) (opened channel true before.bytes) (byte ∷ []) ∙ ap (λ xs. plain_bytes before.packets ++ xs) ends
          ∙ sym (plain_more before.packets packet) ∙ sym (append-nil (plain_bytes after.packets)) ∙ ap (λ g. all_bytes g byte.channel) (sym is);
      inside = ap (λ (g : Gathered). is_begun g.bytes) is ∙ ap not (sym e);
      whole = ap (λ (g : Gathered). are_plain g.packets) is ∙ plain_whole before.packets packet w (omega (arith, length-append before.bytes (byte.byte ∷ [])));
    }
joined before channel place byte false e m w =
    let s = stands before.bytes channel byte.channel byte.first m in
    let bytes = before.bytes ++ byte.byte ∷ [] in
    let first_at = cond byte.first place before.first_place in
    let packet : Packet = record { channel = byte.channel; bytes = bytes; first_place = first_at; last_place = place } in
    let after : Gathered = record { packets = before.packets ++ packet ∷ []; bytes = []; first_place = first_at } in
    let still : Gathered = record { packets = before.packets; bytes = bytes; first_place = first_at } in
    let is : with_byte before (record { byte = byte; place = place }) ≡ still = ap (λ b. cond b after still) e in
    let goes : opened channel true before.bytes ++ byte ∷ [] ≡ opened byte.channel true bytes =
    ap (λ xs. xs ++ byte ∷ []) s.0 ∙ ap (λ f. opened byte.channel true before.bytes ++ one byte.channel f byte.last byte.byte ∷ []) s.1
    ∙ ap (λ l. opened byte.channel true before.bytes ++ one byte.channel (cond (is_begun before.bytes) false true) l byte.byte ∷ []) e
    ∙ more_open byte.channel true before.bytes byte.byte in
    record {
      bytes = append_assoc (plain_bytes before.packets) (opened channel true before.bytes) (byte ∷ []) ∙ ap (λ xs. plain_bytes before.packets ++ xs) goes ∙ ap (λ g. all_bytes g byte.channel) (sym is);
      inside = ap (λ (g : Gathered). is_begun g.bytes) is ∙ still_begun before.bytes byte.byte ∙ ap not (sym e);
      whole = ap (λ (g : Gathered). are_plain g.packets) is ∙ w;
    }

gathers_all : (before : Gathered) (from channel : ℕ) (items : List Item) → are_in_packets (is_begun before.bytes) channel (given channel items) ≡ true → are_plain before.packets ≡ true
    → IsGathered before channel items (with_bytes before (placed from channel items))
gathers_all before from channel [] m w = record { bytes = append-nil (all_bytes before channel); inside = refl; whole = w }
gathers_all before from channel (item ∷ rest) m w =
    let byte = packet_byte channel item in
    let place = from + length (marks_spelling item.marks) in
    let stand = and_parts (may_stand (is_begun before.bytes) channel byte.channel byte.first) (are_in_packets (not byte.last) byte.channel (given byte.channel rest)) m in
    let now = with_byte before (record { byte = byte; place = place }) in
    let j = joined before channel place byte byte.last refl stand.0 w in
    let more = gathers_all now (from + length (item_spelling item)) byte.channel rest (ap (λ b. are_in_packets b byte.channel (given byte.channel rest)) j.inside ∙ stand.1) j.whole in
    record {
      bytes = sym (append_assoc (all_bytes before channel) (byte ∷ []) (given byte.channel rest)) ∙ ap (λ xs. xs ++ given byte.channel rest) j.bytes ∙ more.bytes;
      inside = more.inside ∙ ap (λ b. is_inside_behind b (given byte.channel rest)) j.inside;
      whole = more.whole;
    }

not_begun : (channel : ℕ) (bytes : List ℕ) → is_begun bytes ≡ false → opened channel true bytes ≡ []
not_begun channel [] h = refl
not_begun channel (b ∷ rest) h = cc

pub reads_are_unpacked : (bytes : List ℕ) (packets : List Packet) → AreRead bytes packets → IsUnpacked bytes (map unplaced packets)
reads_are_unpacked bytes packets h =
    let parts = and_parts (list_all is_item h.items) (are_in_packets false 0 (given 0 h.items)) h.proper in
    let all = gathers_all nothing_gathered 0 0 h.items parts.1 refl in
    let after = gathered h.items in
    let none = not_begun (channel_behind 0 (given 0 h.items)) after.bytes (all.inside ∙ h.whole.ended) in
    record {
      items = h.items;
      spelled = h.whole.bytes;
      proper = parts.0;
      made = all.bytes ∙ ap (λ xs. plain_bytes after.packets ++ xs) none ∙ append-nil (plain_bytes after.packets) ∙ ap plain_bytes (sym h.are);
      whole = ap are_plain h.are ∙ all.whole;
    }
