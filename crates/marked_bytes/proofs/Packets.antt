-- Packed bytes have one packet, and all packets are told apart.
use Rattle.std.proofs.Common.{◌≡◌, ℕ, suc, ◌<◌, cond, Bool, true, false, ◌&&◌, List, [], ◌∷◌, ◌++◌, length, None, refl, sym, ap, ◌∙◌, append_assoc, arith}
use Rattle.std.specs.Prelude.{◌==◌, bit_xor, unwrap_or, flat_map, nat_lt}
use Rattle.std.specs.List.{list_all}
use Rattle.std.proofs.lemmas.Bool.{and_parts, and_from, eqb-true, lt-ltb}
use Rattle.std.proofs.lemmas.List.{append-nil}
use Rattle.marked_bytes.specs.declared.symbols.Symbol.TheVariants as kind
use Rattle.marked_bytes.specs.declared.unpacker.Awaits.{Awaits}
use Rattle.marked_bytes.specs.declared.unpacker.Awaits.TheVariants.{Symbol, Channel, EscapedChannel, EscapedByte, Nothing}
use Rattle.marked_bytes.specs.declared.unpacker.PacketByte.{PacketByte}
use Rattle.marked_bytes.specs.Symbols.{is_plain, is_plain_symbol}
use Rattle.marked_bytes.specs.Items.{Spelled, Mark, Item, Packet, value_of, spelling, is_spelled, mark_spelling, is_mark, is_item, marks_spelling, item_spelling, items_spelling, marks_first, marks_last, has_first, has_last, channel_of, given, marked_bytes, packet_bytes, is_packet, IsUnpacked}
use Rattle.marked_bytes.specs.Unpacking.{begun, awaits_some}
use Rattle.marked_bytes.specs.Packing.{spelled_byte, body, packed}
use Rattle.marked_bytes.proofs.Pushes.{spelled_push, all_push, any_push, with_true, with_false, marked_push}
use Rattle.marked_bytes.proofs.Readings.{same_items}

-- ---- a byte as it is packed

spelled : ℕ → Spelled
spelled byte = cond (is_plain byte) (Spelled.Itself byte) (Spelled.Escaped (bit_xor byte 0x20))

spelled_so : (byte : ℕ) → spelling (spelled byte) ≡ spelled_byte byte
unfolding spelled
spelled_so byte = elim (is_plain byte) as (λ b. spelling (cond b (Spelled.Itself byte) (Spelled.Escaped (bit_xor byte 0x20))) ≡ cond b (byte ∷ []) (0x7d ∷ bit_xor byte 0x20 ∷ [])) [ true ↦ refl | false ↦ refl ]

spelled_properly : (byte : ℕ) → is_spelled (spelled byte) ≡ true
unfolding spelled
spelled_properly byte = elim (is_plain byte) as (λ b. is_plain byte ≡ b → is_spelled (cond b (Spelled.Itself byte) (Spelled.Escaped (bit_xor byte 0x20))) ≡ true) [ true ↦ λ p. p | false ↦ λ p. refl ] refl

turned_twice : (byte special : ℕ) → byte ≡ special → bit_xor (bit_xor special 0x20) 0x20 ≡ special → bit_xor (bit_xor byte 0x20) 0x20 ≡ byte
turned_twice byte special e h = ap (λ b. bit_xor (bit_xor b 0x20) 0x20) e ∙ h ∙ sym e

special_turns : (byte : ℕ) (a b c d : Bool) → (byte == 0x7a) ≡ a → (byte == 0x7b) ≡ b → (byte == 0x7c) ≡ c → (byte == 0x7d) ≡ d
    → is_plain_symbol (cond a kind.First (cond b kind.Last (cond c kind.Channel (cond d kind.Escape kind.Plain)))) ≡ false → bit_xor (bit_xor byte 0x20) 0x20 ≡ byte
special_turns byte true b c d p q r s n = turned_twice byte 0x7a (eqb-true byte 0x7a p) refl
special_turns byte false true c d p q r s n = turned_twice byte 0x7b (eqb-true byte 0x7b q) refl
special_turns byte false false true d p q r s n = turned_twice byte 0x7c (eqb-true byte 0x7c r) refl
special_turns byte false false false true p q r s n = turned_twice byte 0x7d (eqb-true byte 0x7d s) refl
special_turns byte false false false false p q r s n = absurd (cc n)

spelled_value : (byte : ℕ) → value_of (spelled byte) ≡ byte
unfolding spelled
spelled_value byte = elim (is_plain byte) as (λ b. is_plain byte ≡ b → value_of (cond b (Spelled.Itself byte) (Spelled.Escaped (bit_xor byte 0x20))) ≡ byte) [
  | true ↦ λ p. refl
  | false ↦ λ p. special_turns byte (byte == 0x7a) (byte == 0x7b) (byte == 0x7c) (byte == 0x7d) refl refl refl refl p
] refl

-- ---- the items of a packed packet

items_of : List Mark → List ℕ → List Item
items_of marks [] = []
items_of marks (byte ∷ []) = record { marks = marks ++ Mark.IsLast ∷ []; byte = spelled byte } ∷ []
items_of marks (byte ∷ next ∷ rest) = record { marks = marks; byte = spelled byte } ∷ items_of [] (next ∷ rest)

spelled_items : (marks : List Mark) (byte : ℕ) (rest : List ℕ) → items_spelling (items_of marks (byte ∷ rest)) ≡ marks_spelling marks ++ body (byte ∷ rest)
unfolding items_of
spelled_items marks byte [] =
    append-nil (marks_spelling (marks ++ Mark.IsLast ∷ []) ++ spelling (spelled byte))
    ∙ ap (λ m. m ++ spelling (spelled byte)) (spelled_push mark_spelling marks Mark.IsLast)
    ∙ append_assoc (marks_spelling marks) (0x7b ∷ []) (spelling (spelled byte))
    ∙ ap (λ s. marks_spelling marks ++ (0x7b ∷ s)) (spelled_so byte)
spelled_items marks byte (next ∷ rest) =
    append_assoc (marks_spelling marks) (spelling (spelled byte)) (items_spelling (items_of [] (next ∷ rest)))
    ∙ ap (λ s. marks_spelling marks ++ (s ++ items_spelling (items_of [] (next ∷ rest)))) (spelled_so byte)
    ∙ ap (λ s. marks_spelling marks ++ (spelled_byte byte ++ s)) (spelled_items [] next rest)

proper_items : (marks : List Mark) (bytes : List ℕ) → list_all is_mark marks ≡ true → list_all is_item (items_of marks bytes) ≡ true
unfolding items_of
proper_items marks [] p = refl
proper_items marks (byte ∷ []) p =
    and_from (list_all is_mark (marks ++ Mark.IsLast ∷ []) && is_spelled (spelled byte)) true
    (and_from (list_all is_mark (marks ++ Mark.IsLast ∷ [])) (is_spelled (spelled byte)) (all_push is_mark marks Mark.IsLast p refl) (spelled_properly byte)) refl
proper_items marks (byte ∷ next ∷ rest) p =
    and_from (list_all is_mark marks && is_spelled (spelled byte)) (list_all is_item (items_of [] (next ∷ rest)))
    (and_from (list_all is_mark marks) (is_spelled (spelled byte)) p (spelled_properly byte)) (proper_items [] (next ∷ rest) refl)

same_byte : (c d : ℕ) (f g l m : Bool) (a b : ℕ) → c ≡ d → f ≡ g → l ≡ m → a ≡ b
    → (let made : ℕ → Bool → Bool → ℕ → PacketByte = λ channel first last byte. record { channel = channel; first = first; last = last; byte = byte } in made c f l a ≡ made d g m b)
same_byte c d f g l m a b p q r s =
    let made : ℕ → Bool → Bool → ℕ → PacketByte = λ channel first last byte. record { channel = channel; first = first; last = last; byte = byte } in
    ap (λ x. made x f l a) p ∙ ap (λ x. made d x l a) q ∙ ap (λ x. made d g x a) r ∙ ap (λ x. made d g m x) s

given_items : (before channel : ℕ) (marks : List Mark) (first : Bool) (bytes : List ℕ) → channel_of before marks ≡ channel → has_first marks ≡ first → has_last marks ≡ false
    → given before (items_of marks bytes) ≡ marked_bytes channel first bytes
unfolding items_of
given_items before channel marks first [] c f l = refl
given_items before channel marks first (byte ∷ []) c f l =
    ap (λ b. b ∷ [])
    (same_byte (channel_of before (marks ++ Mark.IsLast ∷ [])) channel (has_first (marks ++ Mark.IsLast ∷ [])) first (has_last (marks ++ Mark.IsLast ∷ [])) true (value_of (spelled byte)) byte
    (ap (λ o. unwrap_or o before) (marked_push None marks Mark.IsLast) ∙ c)
    (any_push marks_first marks Mark.IsLast ∙ sym (with_false (has_first marks)) ∙ f)
    (any_push marks_last marks Mark.IsLast ∙ sym (with_true (has_last marks)))
    (spelled_value byte))
given_items before channel marks first (byte ∷ next ∷ rest) c f l =
    ap (λ b. b ∷ given (channel_of before marks) (items_of [] (next ∷ rest)))
    (same_byte (channel_of before marks) channel (has_first marks) first (has_last marks) false (value_of (spelled byte)) byte c f l (spelled_value byte))
    ∙ ap (λ bs. record { channel = channel; first = first; last = false; byte = byte } ∷ bs) (given_items (channel_of before marks) channel [] false (next ∷ rest) c refl refl)

pub one_packet : (channel byte : ℕ) (rest : List ℕ) → IsUnpacked (packed channel (byte ∷ rest)) (record { channel = channel; bytes = byte ∷ rest } ∷ [])
one_packet channel byte rest =
    let marks : List Mark = Mark.OnChannel (spelled channel) ∷ Mark.IsFirst ∷ [] in
    record {
      items = items_of marks (byte ∷ rest);
      spelled = ap (λ s. 0x7c ∷ s ++ (0x7a ∷ body (byte ∷ rest))) (sym (spelled_so channel)) ∙ sym (append_assoc (0x7c ∷ spelling (spelled channel)) (0x7a ∷ []) (body (byte ∷ rest))) ∙ sym (spelled_items marks byte rest);
      proper = proper_items marks (byte ∷ rest) (and_from (is_spelled (spelled channel)) true (spelled_properly channel) refl);
      made = given_items 0 channel marks true (byte ∷ rest) (spelled_value channel) refl refl ∙ sym (append-nil (marked_bytes channel true (byte ∷ rest)));
      whole = and_from (nat_lt 0 (suc (length rest))) true (lt-ltb 0 (suc (length rest)) (omega arith)) refl;
    }

-- ---- packets are told apart by the marks of their bytes

heads : (p q : PacketByte) (x y : List PacketByte) → p ∷ x ≡ q ∷ y → (p ≡ q) × (x ≡ y)
heads p q x y e = (cc, cc)

unlike : (p q : PacketByte) (l m : Bool) (x y : List PacketByte) → p.last ≡ l → q.last ≡ m → (l ≡ m → ⊥) → p ∷ x ≡ q ∷ y → ⊥
unlike p q l m x y f g n e = n (sym f ∙ ap (λ (r : PacketByte). r.last) (heads p q x y e).0 ∙ g)

same_packet : (c d : ℕ) (f g : Bool) (a b : ℕ) (ds bs : List ℕ) (x y : List PacketByte) → marked_bytes c f (a ∷ ds) ++ x ≡ marked_bytes d g (b ∷ bs) ++ y → (c ≡ d) × (a ∷ ds ≡ b ∷ bs) × (x ≡ y)
same_packet c d f g a b [] [] x y e =
    let h = heads (record { channel = c; first = f; last = true; byte = a }) (record { channel = d; first = g; last = true; byte = b }) x y e in
    (ap (λ (p : PacketByte). p.channel) h.0, ap (λ (p : PacketByte). p.byte ∷ []) h.0, h.1)
same_packet c d f g a b [] (b2 ∷ bs) x y e =
    absurd (unlike (record { channel = c; first = f; last = true; byte = a }) (record { channel = d; first = g; last = false; byte = b }) true false x (marked_bytes d false (b2 ∷ bs) ++ y) refl refl (λ t. cc) e)
same_packet c d f g a b (a2 ∷ ds) [] x y e =
    absurd (unlike (record { channel = c; first = f; last = false; byte = a }) (record { channel = d; first = g; last = true; byte = b }) false true (marked_bytes c false (a2 ∷ ds) ++ x) y refl refl (λ t. cc) e)
same_packet c d f g a b (a2 ∷ ds) (b2 ∷ bs) x y e =
    let h = heads (record { channel = c; first = f; last = false; byte = a }) (record { channel = d; first = g; last = false; byte = b }) (marked_bytes c false (a2 ∷ ds) ++ x) (marked_bytes d false (b2 ∷ bs) ++ y) e in
    let rest = same_packet c d false false a2 b2 ds bs x y h.1 in
    (rest.0, ap (λ (p : PacketByte). p.byte ∷ a2 ∷ ds) h.0 ∙ ap (λ ns. b ∷ ns) rest.1, rest.2)

some_bytes : (channel : ℕ) (bytes : List ℕ) (x : List PacketByte) → nat_lt 0 (length bytes) ≡ true → [] ≡ marked_bytes channel true bytes ++ x → ⊥
some_bytes channel [] x n e = let bad : false ≡ true = n in absurd (cc bad)
some_bytes channel (a ∷ []) x n e = cc
some_bytes channel (a ∷ b ∷ rest) x n e = cc

same_by : (c d : ℕ) (ds bs : List ℕ) (x y : List PacketByte) → nat_lt 0 (length ds) ≡ true → nat_lt 0 (length bs) ≡ true → marked_bytes c true ds ++ x ≡ marked_bytes d true bs ++ y
    → (c ≡ d) × (ds ≡ bs) × (x ≡ y)
same_by c d [] bs x y n m e = let bad : false ≡ true = n in absurd (cc bad)
same_by c d (a ∷ ds) [] x y n m e = let bad : false ≡ true = m in absurd (cc bad)
same_by c d (a ∷ ds) (b ∷ bs) x y n m e = same_packet c d true true a b ds bs x y e

none_packed : (p : Packet) (x : List PacketByte) → is_packet p ≡ true → [] ≡ packet_bytes p ++ x → ⊥
none_packed p x n e = some_bytes p.channel p.bytes x n e

same_packets : (one other : List Packet) → list_all is_packet one ≡ true → list_all is_packet other ≡ true → flat_map packet_bytes one ≡ flat_map packet_bytes other → one ≡ other
same_packets [] [] p q e = refl
same_packets [] (o ∷ os) p q e = absurd (none_packed o (flat_map packet_bytes os) (and_parts (is_packet o) (list_all is_packet os) q).0 e)
same_packets (p ∷ ps) [] m q e = absurd (none_packed p (flat_map packet_bytes ps) (and_parts (is_packet p) (list_all is_packet ps) m).0 (sym e))
same_packets (p ∷ ps) (o ∷ os) m q e =
    let pp = and_parts (is_packet p) (list_all is_packet ps) m in
    let op = and_parts (is_packet o) (list_all is_packet os) q in
    let same = same_by p.channel o.channel p.bytes o.bytes (flat_map packet_bytes ps) (flat_map packet_bytes os) pp.0 op.0 e in
    let made : ℕ → List ℕ → Packet = λ channel bytes. record { channel = channel; bytes = bytes } in
    let head : p ≡ o = ap (λ c. made c p.bytes) same.0 ∙ ap (λ bs. made o.channel bs) same.1 in
    ap (λ k. k ∷ ps) head ∙ ap (λ ks. o ∷ ks) (same_packets ps os pp.1 op.1 same.2)

pub one_unpacking : (bytes : List ℕ) (one other : List Packet) → IsUnpacked bytes one → IsUnpacked bytes other → one ≡ other
one_unpacking bytes one other h g =
    let e : items_spelling h.items ++ [] ≡ items_spelling g.items ++ [] = ap (λ bs. bs ++ []) (sym h.spelled ∙ g.spelled) in
    let items : h.items ≡ g.items = same_items h.items g.items [] [] Symbol Symbol h.proper g.proper refl refl e in
    same_packets one other h.whole g.whole (sym h.made ∙ ap (given 0) items ∙ g.made)

-- ---- what is begun

pub begun_items : (marks : List Mark) (due : Awaits) → list_all is_mark marks ≡ true → awaits_some due ≡ true
    → (item : Item) × (rest : List ℕ) × (is_item item ≡ true) × (0 < length rest) × (item_spelling item ≡ (marks_spelling marks ++ begun due) ++ rest)
begun_items marks Symbol p a =
    (record { marks = marks; byte = Spelled.Escaped 0 }, 0x7d ∷ 0 ∷ [], and_from (list_all is_mark marks) true p refl, omega arith, ap (λ xs. xs ++ (0x7d ∷ 0 ∷ [])) (sym (append-nil (marks_spelling marks))))
begun_items marks EscapedByte p a =
    (record { marks = marks; byte = Spelled.Escaped 0 }, 0 ∷ [], and_from (list_all is_mark marks) true p refl, omega arith, sym (append_assoc (marks_spelling marks) (0x7d ∷ []) (0 ∷ [])))
begun_items marks Channel p a =
    let m = Mark.OnChannel (Spelled.Itself 0) in (
      record { marks = marks ++ m ∷ []; byte = Spelled.Itself 0 },
      0 ∷ 0 ∷ [],
      and_from (list_all is_mark (marks ++ m ∷ [])) true (all_push is_mark marks m p refl) refl,
      omega arith,
      ap (λ xs. xs ++ 0 ∷ []) (spelled_push mark_spelling marks m) ∙ append_assoc (marks_spelling marks) (0x7c ∷ 0 ∷ []) (0 ∷ []) ∙ sym (append_assoc (marks_spelling marks) (0x7c ∷ []) (0 ∷ 0 ∷ [])),
    )
begun_items marks EscapedChannel p a =
    let m = Mark.OnChannel (Spelled.Escaped 0) in (
      record { marks = marks ++ m ∷ []; byte = Spelled.Itself 0 },
      0 ∷ 0 ∷ [],
      and_from (list_all is_mark (marks ++ m ∷ [])) true (all_push is_mark marks m p refl) refl,
      omega arith,
      ap (λ xs. xs ++ 0 ∷ []) (spelled_push mark_spelling marks m) ∙ append_assoc (marks_spelling marks) (0x7c ∷ 0x7d ∷ 0 ∷ []) (0 ∷ []) ∙ sym (append_assoc (marks_spelling marks) (0x7c ∷ 0x7d ∷ []) (0 ∷ 0 ∷ [])),
    )
begun_items marks (Nothing rule) p a = absurd (cc a)
