-- The packets of the items that were read so far.
use Rattle.std.proofs.Common.{◌≡◌, ℕ, ◌+◌, ◌<◌, cond, Bool, true, false, List, [], ◌∷◌, ◌++◌, length, take, get_or, refl, sym, ap, subst, ◌∙◌, length-append, inl, arith}
use Rattle.std.specs.Prelude.{IsTrue, ◌↔◌}
use Rattle.std.proofs.lemmas.List.{take_more, flat_map_more}
use Rattle.marked_bytes.specs.declared.unpacker.PacketByte.{PacketByte}
use Rattle.marked_bytes.specs.declared.unpacker.Unpacker.{Unpacker}
use Rattle.marked_bytes.specs.Items.{Spelled, Item, spelling, marks_spelling, item_spelling, items_spelling, packet_byte, given, channel_behind}
use Rattle.marked_bytes.specs.Unpacking.{is_escaped, is_escaping, IsFed, IsGiven, IsFaulty, IsWhole, Follows}
use Rattle.packet_bytes.specs.declared.faults.PacketFault.{PacketFault}
use Rattle.packet_bytes.specs.declared.faults.PacketFault.TheVariants.{Refused, NoMemory}
use Rattle.std.specs.Bool.{OnTrue, OnFalse}
use Rattle.marked_bytes.specs.declared.unpacker.Fed.TheVariants.{Byte}
use Rattle.packet_bytes.specs.declared.packets.Reader.{Reader}
use Rattle.packet_bytes.specs.Reading.{IsReading, IsRefusedAt}
use Rattle.packet_bytes.specs.Streams.{IsStreamFault, AreRead, IsOpen}
use Rattle.packet_bytes.specs.declared.gathering.Gathering.{Gathering}
use Rattle.packet_bytes.specs.Gathering.{Placed, placed, Gathered, with_byte, with_bytes, nothing_gathered, gathered, held_by, data_place}

with_bytes_push : (before : Gathered) (bytes : List Placed) (p : Placed) → with_bytes before (bytes ++ p ∷ []) ≡ with_byte (with_bytes before bytes) p
with_bytes_push before [] p = refl
with_bytes_push before (b ∷ rest) p = with_bytes_push (with_byte before b) rest p

placed_push : (from before : ℕ) (items : List Item) (item : Item) → placed from before (items ++ item ∷ [])
    ≡ placed from before items ++ record { byte = packet_byte (channel_behind before (given before items)) item; place = from + length (items_spelling items) + length (marks_spelling item.marks) } ∷ []
placed_push from before [] item =
    let e : from + length (marks_spelling item.marks) ≡ from + 0 + length (marks_spelling item.marks) = omega arith in
    let made : ℕ → List Placed = λ p. record { byte = packet_byte before item; place = p } ∷ [] in
    ap made e
placed_push from before (i ∷ rest) item =
    let more = from + length (item_spelling i) in
    let made : ℕ → List Placed = λ p. placed from before (i ∷ rest) ++ record { byte = packet_byte (channel_behind before (given before (i ∷ rest))) item; place = p } ∷ [] in
    let e : more + length (items_spelling rest) + length (marks_spelling item.marks) ≡ from + length (items_spelling (i ∷ rest)) + length (marks_spelling item.marks) =
    omega (arith, length-append (item_spelling i) (items_spelling rest)) in
    ap (λ ps. record { byte = packet_byte before i; place = from + length (marks_spelling i.marks) } ∷ ps) (placed_push more (packet_byte before i).channel rest item) ∙ ap made e

spelling_length : (s : Spelled) → length (spelling s) ≡ cond (is_escaped s) 2 1
spelling_length (Spelled.Itself byte) = refl
spelling_length (Spelled.Escaped byte) = refl

place_by : (n i m : ℕ) (escaped : Bool) → n + 1 ≡ i + (m + cond escaped 2 1) → data_place n escaped ≡ 0 + i + m
place_by n i m true e = omega arith
place_by n i m false e = omega arith

-- a byte that ends an item
pub given_gathered : (fed : List ℕ) (items : List Item) (before after : Unpacker) (byte place : ℕ) (shown : PacketByte) (item : Item) (gathering more : Gathering) → length fed ≡ place
    → IsGiven fed items before byte shown item after → held_by gathering ≡ gathered items
    → held_by more ≡ with_byte (held_by gathering) (record { byte = shown; place = data_place place (is_escaping before.awaits) })
    → held_by more ≡ gathered (items ++ item ∷ [])
given_gathered fed items before after byte place shown item gathering more n g h e =
    let long : length fed + 1 ≡ length (items_spelling items) + (length (marks_spelling item.marks) + cond (is_escaped item.byte) 2 1) =
    sym (length-append fed (byte ∷ [])) ∙ ap length (g.spelled ∙ sym (flat_map_more item_spelling [] items item))
    ∙ length-append (items_spelling items) (item_spelling item)
    ∙ ap (λ k. length (items_spelling items) + k) (length-append (marks_spelling item.marks) (spelling item.byte) ∙ ap (λ k. length (marks_spelling item.marks) + k) (spelling_length item.byte)) in
    let at : data_place place (is_escaping before.awaits) ≡ 0 + length (items_spelling items) + length (marks_spelling item.marks) =
    ap (λ w. data_place place w) (sym g.escaped) ∙ place_by place (length (items_spelling items)) (length (marks_spelling item.marks)) (is_escaped item.byte) (ap (λ k. k + 1) (sym n) ∙ long) in
    let made : PacketByte → ℕ → Placed = λ b p. record { byte = b; place = p } in
    e ∙ ap (λ x. with_byte x (made shown (data_place place (is_escaping before.awaits)))) h ∙ ap (λ b. with_byte (gathered items) (made b (data_place place (is_escaping before.awaits)))) g.is
    ∙ ap (λ p. with_byte (gathered items) (made (packet_byte (channel_behind 0 (given 0 items)) item) p)) at
    ∙ sym (with_bytes_push nothing_gathered (placed 0 0 items) (made (packet_byte (channel_behind 0 (given 0 items)) item) (0 + length (items_spelling items) + length (marks_spelling item.marks))))
    ∙ ap (with_bytes nothing_gathered) (sym (placed_push 0 0 items item))

pub next_fed : (bytes : List ℕ) (place byte : ℕ) → place < length bytes → byte ≡ get_or bytes place 0 → take place bytes ++ byte ∷ [] ≡ take (place + 1) bytes
next_fed bytes place byte l e = ap (λ b. take place bytes ++ b ∷ []) e ∙ sym (take_more bytes place 0 l)

pub faulty_at : (bytes : List ℕ) (place byte : ℕ) (fault : PacketFault) → place < length bytes → byte ≡ get_or bytes place 0 → IsRefusedAt (take place bytes) place byte fault → IsStreamFault bytes fault
faulty_at bytes place byte (Refused at rule) l e r =
    let items = r.1.0 in
    inl (record {
      items = items;
      within = let a = r.0 in omega arith;
      faulty = subst (λ k. IsFaulty (take k bytes) items (get_or bytes k 0) rule) (sym r.0) (subst (λ b. IsFaulty (take place bytes) items b rule) e r.1.1);
    })
faulty_at bytes place byte NoMemory l e r = refl

not_true : false ≡ true → ⊥
not_true e = cc

pub whole_by : (b : Bool) (fed : List ℕ) (reader : Reader) → ((bytes : List ℕ) (items : List Item) → IsFed bytes items reader.unpacker → (IsTrue b ↔ IsWhole bytes items)) → IsReading fed reader
    → OnTrue b (AreRead fed reader.gathering.packets.items)
whole_by true fed reader f h = record { items = h.items; proper = h.read.proper; whole = (f fed h.items h.read).0 refl; are = ap (λ (g : Gathered). g.packets) h.held }
whole_by false fed reader f h = tt

pub open_by : (b : Bool) (fed : List ℕ) (reader : Reader) → ((bytes : List ℕ) (items : List Item) → IsFed bytes items reader.unpacker → (IsTrue b ↔ IsWhole bytes items)) → IsReading fed reader
    → OnFalse b (IsOpen fed)
open_by true fed reader f h = tt
open_by false fed reader f h = record { items = h.items; unpacker = reader.unpacker; fed = h.read; open_still = λ w. not_true ((f fed h.items h.read).1 w) }

-- a byte of a packet joins those that were read
pub byte_read : (fed : List ℕ) (before after : Reader) (place byte : ℕ) (shown : PacketByte) → length fed ≡ place → (h : IsReading fed before) → Follows fed h.items before.unpacker byte (Byte shown) after.unpacker
    → held_by after.gathering ≡ with_byte (held_by before.gathering) (record { byte = shown; place = data_place place (is_escaping before.unpacker.awaits) }) → IsReading (fed ++ byte ∷ []) after
byte_read fed before after place byte shown n h f e = record {
  items = h.items ++ f.0 ∷ [];
  read = f.1.read;
  held = given_gathered fed h.items before.unpacker after.unpacker byte place shown f.0 before.gathering after.gathering n f.1 h.held e;
}
